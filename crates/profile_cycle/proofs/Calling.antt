-- What a tally keeps at each call.
use Rattle.std.proofs.Common.{◌≡◌, ◌≢◌, ℕ, ◌<◌, ◌≤◌, Bool, true, false, true≢false, ◌||◌, not, List, [], ◌∷◌, ◌++◌, length, refl, sym, ap, subst, ◌∙◌, arith, inl, inr, if◌then◌else◌}
use Rattle.std.proofs.Math.Dec.{eqb}
use Rattle.std.proofs.lemmas.Bool.{cases_eq, eq-eqb, ne_eqb}
use Rattle.profile_cycle.specs.declared.calls.What.{What}
use Rattle.profile_cycle.specs.declared.calls.What.TheVariants.{Allocated, Freed, NextCycle, AfterSweep}
use Rattle.profile_cycle.specs.declared.calls.View.{View}
use Rattle.profile_cycle.specs.declared.listed.Listed.{Listed}
use Rattle.profile_cycle.specs.declared.listed.Noted.{Noted}
use Rattle.profile_cycle.specs.declared.sight.Sight.{Sight}
use Rattle.profile_cycle.specs.History.{cycle_after, publishes, noted, joined}
use Rattle.profile_cycle.specs.Kept.{AreBy, AreCounting, AreCalls}
use Rattle.profile_cycle.specs.Listing.{Has, Lists, Adds, AreEmpty, Stands}
use Rattle.profile_cycle.specs.Rule.{counted, first_sight, has, noted_at, published_sight, lent_sight, split_sight, joined_sight, GoesOn, IsPublishing, MayCount}
use Rattle.profile_cycle.proofs.Counted.{by-append, by-later, dated-append}
use Rattle.profile_cycle.proofs.Parts.{odd-next}
use Rattle.profile_cycle.proofs.Seats.{bool-cases}

-- ---- the calls

after-le : (k : ℕ) (w : What) → k ≤ cycle_after k w
after-le k (Allocated b) = omega arith
after-le k (Freed b) = omega arith
after-le k NextCycle = omega arith
after-le k AfterSweep = omega arith

-- a call that counts may be anyone's, and one that publishes is the driver's
calls-noted : (v : View) (w : What) → AreCalls v → (v.drives ≡ false → (publishes w ≡ false) × (cycle_after v.cycle w ≡ v.cycle)) → AreCalls (noted v w)
calls-noted v w are counts = record {
  by = (after-le v.cycle w, by-later v.cycle (cycle_after v.cycle w) v.calls (after-le v.cycle w) are.by);
  dated = λ drives. (let d = are.dated drives in ((sym d.1, d.0), ap (λ (k : ℕ). cycle_after k w) d.1));
  counting = λ other. (
      let off = counts other in
      let same = off.1 in
      (off.0, sym same, subst (λ (k : ℕ). AreCounting k v.calls) (sym same) (are.counting other)));
}

calls-joined : (v u : View) → v.drives ≡ true → u.drives ≡ false → u.cycle ≡ v.cycle → AreCalls v → AreCalls u → AreCalls (joined v u)
calls-joined v u drives other same are they =
    let counting : AreCounting v.cycle u.calls = subst (λ (k : ℕ). AreCounting k u.calls) same (they.counting other) in
    record {
      by = by-append v.cycle u.calls v.calls (subst (λ (k : ℕ). AreBy k u.calls) same they.by) are.by;
      dated = λ d. dated-append v.cycle u.calls v.calls counting (are.dated d);
      counting = λ off. absurd (true≢false (sym drives ∙ off));
    }

-- ---- lists

has-none : (b : ℕ) (xs : List ℕ) → xs ≡ [] → Has xs b → ⊥
has-none b xs e h = let low = h.1 in let len = ap length e in absurd (omega arith)

lists-none : (n : ℕ) (all : Bool) (xs : List ℕ) → xs ≡ [] → Lists n [] all xs
lists-none n all xs e = record { some = λ off b h. absurd (true≢false (sym h)); within = λ b h. absurd (has-none b xs e h) }

lists-one : (n b found : ℕ) (noted : List ℕ) (all all' : Bool) (xs xs' : List ℕ) → b < n → Lists n noted all xs → Adds all xs all' xs' (λ c. (found ≡ 0) × (b ≡ c)) → Lists n (noted_at b found noted) all' xs'
lists-one n b found noted all all' xs xs' low l a = record {
  some = λ off c h. elim (cases_eq found 0) [
    | inl zero ↦ elim (cases_eq b c) [
      | inl same ↦ a.new off c (zero, same)
      | inr other ↦ a.old c (l.some (a.stays off) c (older c zero other h))
    ]
    | inr more ↦ a.old c (l.some (a.stays off) c (subst (λ (t : Bool). has c (if t then b ∷ noted else noted) ≡ true) (ne_eqb found 0 more) h))
  ];
  within = λ c h. elim (a.only c h) [
    | inl was ↦ l.within c was
    | inr is ↦ subst (λ (x : ℕ). x < n) is.1 low
  ];
}
  where
    older : (c : ℕ) → found ≡ 0 → b ≢ c → has c (noted_at b found noted) ≡ true → has c noted ≡ true
    older c zero other h = subst (λ (t : Bool). (t || has c noted) ≡ true) (ne_eqb b c other) (subst (λ (t : Bool). has c (if t then b ∷ noted else noted) ≡ true) (eq-eqb found 0 zero) h)

has-either : (b : ℕ) (xs ys : List ℕ) (P : Type 0) → has b (xs ++ ys) ≡ true → (has b xs ≡ true → P) → (has b ys ≡ true → P) → P
has-either b [] ys P h f g = g h
has-either b (x ∷ xs) ys P h f g = bool-cases (eqb x b) P
    (λ on. f (subst (λ (t : Bool). (t || has b xs) ≡ true) (sym on) refl))
    (λ off. has-either b xs ys P (subst (λ (t : Bool). (t || has b (xs ++ ys)) ≡ true) off h) (λ e. f (subst (λ (t : Bool). (t || has b xs) ≡ true) (sym off) e)) g)

lists-both : (n : ℕ) (noted others : List ℕ) (all all' other : Bool) (xs xs' ys : List ℕ) → Lists n noted all xs → Lists n others other ys → (all' ≡ false → other ≡ false) → Adds all xs all' xs' (Has ys)
    → Lists n (others ++ noted) all' xs'
lists-both n noted others all all' other xs xs' ys mine theirs both a = record {
  some = λ off b h. has-either b others noted (Has xs' b) h (λ e. a.new off b (theirs.some (both off) b e)) (λ e. a.old b (mine.some (a.stays off) b e));
  within = λ b h. elim (a.only b h) [
    | inl was ↦ mine.within b was
    | inr is ↦ theirs.within b is
  ];
}

-- ---- the calls of a ring

pub may-count : (n : ℕ) (s : Sight) (odd : Bool) (l : Noted) → Stands n s odd l → MayCount s
may-count n s odd l k = record { by = k.calls.by; lent = k.lent; moved = k.moved }

pub publishing : (n : ℕ) (s : Sight) (odd : Bool) (l : Noted) → Stands n s odd l → IsPublishing s
publishing n s odd l k = record {
  by = k.calls.by;
  lent = k.lent;
  paired = λ x b. none _ ∙ sym (none _);
  later = λ x b. none _;
}
  where
    none : (p : ℕ) → has p s.moved ≡ false
    none p = ap (has p) k.moved

pub stands-first : (n : ℕ) (l : Noted) → AreEmpty l → Stands n first_sight false l
stands-first n l e = record {
  calls = record { by = tt; dated = λ on. (tt, refl); counting = λ off. absurd (true≢false off) };
  lent = refl;
  moved = refl;
  row = refl;
  due = lists-none n l.due.all l.due.buckets.items e.due;
  later = lists-none n l.later.all l.later.buckets.items e.later;
}

pub stands-split : (n : ℕ) (s : Sight) (odd : Bool) (l m : Noted) → Stands n s odd l → AreEmpty m → Stands n (split_sight s) odd m
stands-split n s odd l m k e = record {
  calls = record { by = tt; dated = λ on. absurd (true≢false (sym on)); counting = λ off. tt };
  lent = refl;
  moved = refl;
  row = k.row;
  due = lists-none n m.due.all m.due.buckets.items e.due;
  later = lists-none n m.later.all m.later.buckets.items e.later;
}

pub stands-lent : (n : ℕ) (s : Sight) (odd : Bool) (l : Noted) → Stands n s odd l → Stands n (lent_sight s) odd l
stands-lent n s odd l k = record {
  calls = record { by = k.calls.by; dated = k.calls.dated; counting = k.calls.counting };
  lent = k.lent;
  moved = k.moved;
  row = k.row;
  due = k.due;
  later = k.later;
}

pub stands-alloc : (n : ℕ) (s : Sight) (odd : Bool) (l : Noted) (b found : ℕ) (x : Listed) → b < n → Stands n s odd l
    → Adds l.later.all l.later.buckets.items x.all x.buckets.items (λ c. (found ≡ 0) × (b ≡ c)) → Stands n (counted (Allocated b) found s) odd (record l { later = x })
stands-alloc n s odd l b found x low k a = record {
  calls = calls-noted s.view (Allocated b) k.calls (λ off. (refl, refl));
  lent = k.lent;
  moved = k.moved;
  row = k.row;
  due = k.due;
  later = lists-one n b found s.later l.later.all x.all l.later.buckets.items x.buckets.items low k.later a;
}

pub stands-free : (n : ℕ) (s : Sight) (odd : Bool) (l : Noted) (b found : ℕ) (x : Listed) → b < n → Stands n s odd l
    → Adds l.due.all l.due.buckets.items x.all x.buckets.items (λ c. (found ≡ 0) × (b ≡ c)) → Stands n (counted (Freed b) found s) odd (record l { due = x })
stands-free n s odd l b found x low k a = record {
  calls = calls-noted s.view (Freed b) k.calls (λ off. (refl, refl));
  lent = k.lent;
  moved = k.moved;
  row = k.row;
  due = lists-one n b found s.due l.due.all x.all l.due.buckets.items x.buckets.items low k.due a;
  later = k.later;
}

pub stands-joined : (n : ℕ) (s u : Sight) (odd o : Bool) (l m : Noted) (x y : Listed) → s.view.drives ≡ true → u.view.drives ≡ false → u.view.cycle ≡ s.view.cycle → Stands n s odd l → Stands n u o m
    → (x.all ≡ false → m.due.all ≡ false) → Adds l.due.all l.due.buckets.items x.all x.buckets.items (Has m.due.buckets.items)
    → (y.all ≡ false → m.later.all ≡ false) → Adds l.later.all l.later.buckets.items y.all y.buckets.items (Has m.later.buckets.items)
    → Stands n (joined_sight s u) odd (record { due = x; later = y })
stands-joined n s u odd o l m x y drives off cycle k j due_all due later_all later = record {
  calls = calls-joined s.view u.view drives off cycle k.calls j.calls;
  lent = k.lent;
  moved = k.moved;
  row = k.row;
  due = lists-both n s.due u.due l.due.all x.all m.due.all l.due.buckets.items x.buckets.items m.due.buckets.items k.due j.due due_all due;
  later = lists-both n s.later u.later l.later.all y.all m.later.all l.later.buckets.items y.buckets.items m.later.buckets.items k.later j.later later_all later;
}

-- what a publication leaves does not depend on what was moved
module _ (n : ℕ) (s t : Sight) (odd : Bool) (l : Noted) (x : Listed) (drives : s.view.drives ≡ true) (k : Stands n s odd l) (goes : GoesOn s t) (empty : x.buckets.items ≡ []) where
  pub stands-sweep : Stands n (published_sight AfterSweep t) odd (record { due = x; later = l.later })
  stands-sweep = subst (λ (u : Sight). Stands n (published_sight AfterSweep u) odd (record { due = x; later = l.later })) (sym goes.same) record {
    calls = calls-noted s.view AfterSweep k.calls (λ off. absurd (true≢false (sym drives ∙ off)));
    lent = k.lent;
    moved = refl;
    row = k.row;
    due = lists-none n x.all x.buckets.items empty;
    later = k.later;
  }

  pub stands-next : Stands n (published_sight NextCycle t) (not odd) (record { due = l.later; later = x })
  stands-next = subst (λ (u : Sight). Stands n (published_sight NextCycle u) (not odd) (record { due = l.later; later = x })) (sym goes.same) record {
    calls = calls-noted s.view NextCycle k.calls (λ off. absurd (true≢false (sym drives ∙ off)));
    lent = k.lent;
    moved = refl;
    row = ap not k.row ∙ sym (odd-next s.view.cycle);
    due = k.later;
    later = lists-none n x.all x.buckets.items empty;
  }
