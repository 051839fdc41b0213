-- Each kind of step keeps the rule, and tells what it should.
use Rattle.std.proofs.Common.{◌≡◌, ◌≢◌, ℕ, ◌+◌, ◌%◌, ◌^◌, ◌<◌, Bool, true, false, true≢false, ◌||◌, not, List, [], ◌∷◌, length, get_or, set, refl, sym, ap, subst, ◌∙◌, arith, inl, inr, get_or-set_same, get_or-set_other, if◌then◌else◌}
use Rattle.std.proofs.Math.Dec.{eqb}
use Rattle.std.proofs.Math.Nat.{mod-add-mod, add-mod-mod}
use Rattle.std.proofs.lemmas.List.{set-get_or}
use Rattle.std.proofs.lemmas.Bool.{cases_eq, eq-eqb, ne_eqb}
use mathlib.Core.Option.{none, some}
use lib.ListN.{get_elem?}
use Rattle.atomic_table.specs.Table.{State, Me, keeps, step, Allows}
use Rattle.atomic_table.proofs.Lists.{set_here, set_again}
use Rattle.profile_cycle.specs.declared.calls.What.{What}
use Rattle.profile_cycle.specs.declared.calls.What.TheVariants.{Allocated, Freed, NextCycle, AfterSweep}
use Rattle.profile_cycle.specs.declared.calls.View.{View}
use Rattle.profile_cycle.specs.declared.sight.Sight.{Sight}
use Rattle.profile_cycle.specs.declared.words.Kind.{Kind}
use Rattle.profile_cycle.specs.declared.words.Word.{Word}
use Rattle.profile_cycle.specs.declared.words.Word.TheVariants.{Published, Waiting}
use Rattle.profile_cycle.specs.Rule.{counted, noted_at, moves, has, stands, total, noted_for, published_sight, Found, MayCount, IsMoved, IsPublication, IsPublishing, Noted, Ruled, IsAlone}
use Rattle.profile_cycle.specs.Words.{IsCounting, IsWord, after, before, by_row, is_odd, place, toward}
use Rattle.profile_cycle.proofs.Parts.{alloc-else, alloc-here, behind, behind-next, behind-sweep, free-else, free-here, odd-next, publication-sum, row-due, row-later}
use Rattle.profile_cycle.proofs.Seats.{Steps, at-low, bool-cases, noted-kept, own-next, own-noted, own-total, stepped-rule}
use Rattle.profile_cycle.proofs.Totals.{place-low, place-once, place-some, total-set}

-- ---- numbers in a list

pub has-here : (x : ℕ) (xs : List ℕ) → has x (x ∷ xs) ≡ true
has-here x xs = rw (eq-eqb x x refl) refl

pub has-more : (x y : ℕ) (xs : List ℕ) → has x xs ≡ true → has x (y ∷ xs) ≡ true
has-more x y xs e = or-more (eqb y x) (has x xs) e
  where
    or-more : (a b : Bool) → b ≡ true → (a || b) ≡ true
    or-more true b e = refl
    or-more false b e = e

pub has-else : (x y : ℕ) (xs : List ℕ) → y ≢ x → has x (y ∷ xs) ≡ has x xs
has-else x y xs other = rw (ne_eqb y x other) refl

noted-here : (b found : ℕ) (xs : List ℕ) → found ≡ 0 → has b (noted_at b found xs) ≡ true
noted-here b found xs e = rw (eq-eqb found 0 e) (has-here b xs)

noted-more : (b x found : ℕ) (xs : List ℕ) → has x xs ≡ true → has x (noted_at b found xs) ≡ true
noted-more b x found xs e = elim (cases_eq found 0) [
  | inl it ↦ rw (eq-eqb found 0 it) (has-more x b xs e)
  | inr other ↦ rw (ne_eqb found 0 other) e
]

in-row : (o odd : Bool) (l d l' d' : List ℕ) → (x : ℕ) → (has x l ≡ true → has x l' ≡ true) → (has x d ≡ true → has x d' ≡ true)
    → has x (by_row o odd l d) ≡ true → has x (by_row o odd l' d') ≡ true
in-row true true l d l' d' x f g e = f e
in-row true false l d l' d' x f g e = g e
in-row false true l d l' d' x f g e = g e
in-row false false l d l' d' x f g e = f e

-- a word stands as its calls do, where nothing is moved
pub still : (k : Word) (s : Sight) → s.moved ≡ [] → stands k s ≡ before k s.view
still k s e = ap (λ (xs : List ℕ). if has (place k) xs then after k s.view else before k s.view) e

pub moved-in : (k : Word) (s : Sight) → has (place k) s.moved ≡ true → stands k s ≡ after k s.view
moved-in k s e = ap (λ (t : Bool). if t then after k s.view else before k s.view) e

pub moved-not : (k : Word) (s : Sight) → has (place k) s.moved ≡ false → stands k s ≡ before k s.view
moved-not k s e = ap (λ (t : Bool). if t then after k s.view else before k s.view) e

-- ---- a call counts

record Enters (n : ℕ) (v w : Sight) (target : Word) (found : ℕ) : Type 0 where
  steps : Steps v w
  is : IsWord n target
  here : stands target w ≡ stands target v + 1
  others : (k : Word) → place k ≢ place target → stands k w ≡ stands k v
  keeps : (odd : Bool) (b : ℕ) → has b (noted_for odd v) ≡ true → has b (noted_for odd w) ≡ true
  notes : (k : Kind) (odd : Bool) (b : ℕ) → Waiting k odd b ≡ target → found ≡ 0 → has b (noted_for odd w) ≡ true

abbrev pub row_of : Word → Bool
row_of (Published k b) = false
row_of (Waiting k odd b) = odd

abbrev pub bucket_of : Word → ℕ
bucket_of (Published k b) = b
bucket_of (Waiting k odd b) = b

alloc-enters : (n b found : ℕ) (v : Sight) → b < n → MayCount v → Enters n v (counted (Allocated b) found v) (toward (Allocated b) v.view) found
alloc-enters n b found v low may = let w = counted (Allocated b) found v in let t = toward (Allocated b) v.view in record {
  steps = record { drives = refl; out = refl; lent = refl; stays = may.lent };
  is = low;
  here = still t w may.moved ∙ alloc-here v.view b ∙ ap (λ (z : ℕ). z + 1) (sym (still t v may.moved));
  others = λ k other. still k w may.moved ∙ alloc-else v.view b k other ∙ sym (still k v may.moved);
  keeps = λ odd x e. in-row odd (is_odd v.view.cycle) v.later v.due (noted_at b found v.later) v.due x (λ h. noted-more b x found v.later h) (λ h. h) e;
  notes = λ k odd x same zero. let o : odd ≡ is_odd v.view.cycle = ap row_of same in let at : x ≡ b = ap bucket_of same in
      ap (λ (z : ℕ × Bool). has z.0 (noted_for z.1 w)) (λ i. (at i, o i)) ∙ ap (has b) (row-later (is_odd v.view.cycle) (noted_at b found v.later) v.due) ∙ noted-here b found v.later zero;
}

free-enters : (n b found : ℕ) (v : Sight) → b < n → MayCount v → Enters n v (counted (Freed b) found v) (toward (Freed b) v.view) found
free-enters n b found v low may = let w = counted (Freed b) found v in let t = toward (Freed b) v.view in record {
  steps = record { drives = refl; out = refl; lent = refl; stays = may.lent };
  is = low;
  here = still t w may.moved ∙ free-here v.view b may.by ∙ ap (λ (z : ℕ). z + 1) (sym (still t v may.moved));
  others = λ k other. still k w may.moved ∙ free-else v.view b may.by k other ∙ sym (still k v may.moved);
  keeps = λ odd x e. in-row odd (is_odd v.view.cycle) v.later v.due v.later (noted_at b found v.due) x (λ h. h) (λ h. noted-more b x found v.due h) e;
  notes = λ k odd x same zero. let o : odd ≡ not (is_odd v.view.cycle) = ap row_of same in let at : x ≡ b = ap bucket_of same in
      ap (λ (z : ℕ × Bool). has z.0 (noted_for z.1 w)) (λ i. (at i, o i)) ∙ ap (has b) (row-due (is_odd v.view.cycle) v.later (noted_at b found v.due)) ∙ noted-here b found v.due zero;
}

-- the word of a counting call is of its bucket
pub counting-word : (n : ℕ) (what : What) (v : View) → IsCounting n what → IsWord n (toward what v)
counting-word n (Allocated b) v low = low
counting-word n (Freed b) v low = low
counting-word n NextCycle v low = absurd low
counting-word n AfterSweep v low = absurd low

module _ (n : ℕ) (s : State (Unit {0}) Sight) (r : Ruled n s) (id : ℕ) (v : Sight) (at : get_elem? s.views id ≡ some v) where
  inside : (k : Word) → IsWord n k → place k < length s.words
  inside k is = subst (λ (z : ℕ). place k < z) (sym r.size) (place-low n k is)

  enter-rule : (w : Sight) (t : Word) → Enters n v w t (get_or s.words (place t) 0)
      → Ruled n record { words = set s.words (place t) ((get_or s.words (place t) 0 + 1) % 2 ^ 64); homes = s.homes; views = set s.views id w }
  enter-rule w t e = let x = (get_or s.words (place t) 0 + 1) % 2 ^ 64 in let low = at-low s.views id v at in
      stepped-rule n s r id v at w (place t) x e.steps (inside t e.is)
      (λ k is it. let same : k ≡ t = place-once k t it in
      let sums = total-set (stands t) s.views id v w at in let more = e.here in let next : total (stands t) s.views + 1 ≡ total (stands t) (set s.views id w) = omega arith in
      ap (λ (z : ℕ). (z + 1) % 2 ^ 64) (r.words t e.is) ∙ mod-add-mod (total (stands t) s.views) (2 ^ 64) 1 ∙ ap (λ (z : ℕ). z % 2 ^ 64) next
      ∙ ap (λ (z : Word). total (stands z) (set s.views id w) % 2 ^ 64) (sym same))
      (λ k is other. let sums = total-set (stands k) s.views id v w at in let same = e.others k other in let still : total (stands k) (set s.views id w) ≡ total (stands k) s.views = omega arith in
      ap (λ (z : ℕ). z % 2 ^ 64) still)
      (λ k odd b is more. elim (cases_eq (place (Waiting k odd b)) (place t)) [
        | inl it ↦ elim (cases_eq (get_or s.words (place t) 0) 0) [
          | inl zero ↦ record { id = id; sight = w; is = set_here s.views id w low; has_it = e.notes k odd b (place-once (Waiting k odd b) t it) zero }
          | inr had ↦ noted-kept odd b s.views id v w at (e.keeps odd b) low (r.noted k odd b is (subst (λ (p : ℕ). get_or s.words p 0 ≢ 0) (sym it) had))
        ]
        | inr other ↦ noted-kept odd b s.views id v w at (e.keeps odd b) low (r.noted k odd b is (subst (λ (z : ℕ). z ≢ 0) (get_or-set_other s.words (place t) (place (Waiting k odd b)) x 0 other) more))
      ])

  -- ---- the driver, alone

  module _ (alone : IsAlone v) where
    found-rule : (i : ℕ) → Ruled n record { words = set s.words i (get_or s.words i 0); homes = s.homes; views = set s.views id v }
    found-rule i = subst (λ (z : List ℕ × List Sight). Ruled n record { words = z.0; homes = s.homes; views = z.1 }) (λ j. (sym (set-get_or s.words i 0) j, sym (set_again s.views id v at) j)) r

    found-value : (k : Word) → IsWord n k → get_or s.words (place k) 0 ≡ stands k v % 2 ^ 64
    found-value k is = r.words k is ∙ ap (λ (z : ℕ). z % 2 ^ 64) (own-total n s r id v at alone k)

    move-rule : (t : Word) (x : ℕ) → v.lent ≡ not v.view.drives → IsWord n t → x ≡ after t v.view % 2 ^ 64
        → Ruled n record { words = set s.words (place t) x; homes = s.homes; views = set s.views id (moves (place t) v) }
    move-rule t x stays is new = let w = moves (place t) v in let low = at-low s.views id v at in
        stepped-rule n s r id v at w (place t) x record { drives = refl; out = refl; lent = refl; stays = stays } (inside t is)
        (λ k k_is it. let same : t ≡ k = sym (place-once k t it) in
        subst (λ (z : Word). x ≡ total (stands z) (set s.views id w) % 2 ^ 64) same
        (new ∙ ap (λ (z : ℕ). z % 2 ^ 64) (sym (own-next n s r id v at alone t w ∙ moved-in t w (has-here (place t) v.moved)))))
        (λ k k_is other. ap (λ (z : ℕ). z % 2 ^ 64) (own-next n s r id v at alone k w
        ∙ ap (λ (b : Bool). if b then after k v.view else before k v.view) (has-else (place k) (place t) v.moved (λ z. other (sym z)))
        ∙ sym (own-total n s r id v at alone k)))
        (λ k odd b k_is more. elim (cases_eq (place (Waiting k odd b)) (place t)) [
          | inl it ↦ absurd (more (
              ap (λ (p : ℕ). get_or (set s.words (place t) x) p 0) it ∙ get_or-set_same s.words (place t) x 0 (inside t is) ∙ new
              ∙ ap (λ (z : Word). after z v.view % 2 ^ 64) (sym (place-once (Waiting k odd b) t it))))
          | inr other ↦ noted-kept odd b s.views id v w at (λ h. h) low (r.noted k odd b k_is (subst (λ (z : ℕ). z ≢ 0) (get_or-set_other s.words (place t) (place (Waiting k odd b)) x 0 other) more))
        ])

    -- ---- a publication ends

    module _ (p : IsPublishing v) (gone : (k : Kind) (b : ℕ) → b < n → has b v.due ≡ true → IsMoved v k b) where
      -- nothing waits for the next cycle
      all-moved : (k : Kind) (b : ℕ) → b < n → IsMoved v k b
      all-moved k b low = bool-cases (has b v.due) (IsMoved v k b) (gone k b low) (λ off. elim (cases_eq (get_or s.words (place (Waiting k (not (is_odd v.view.cycle)) b)) 0) 0) [
        | inl zero ↦ sym (found-value (Waiting k (not (is_odd v.view.cycle)) b) low) ∙ zero
        | inr more ↦ absurd (true≢false (
            sym (ap (has b) (sym (row-due (is_odd v.view.cycle) v.later v.due)) ∙ own-noted n s r id v at alone (not (is_odd v.view.cycle)) b (r.noted k (not (is_odd v.view.cycle)) b low more)) ∙ off))
      ])

      later-row : (k : Kind) (o : Bool) (b : ℕ) → o ≡ is_odd v.view.cycle → (l : ℕ) → before (Waiting k (is_odd v.view.cycle) b) v.view ≡ l → stands (Waiting k o b) v % 2 ^ 64 ≡ l % 2 ^ 64
      later-row k o b e l is = ap (λ (t : Bool). stands (Waiting k t b) v % 2 ^ 64) e ∙ ap (λ (z : ℕ). z % 2 ^ 64) (moved-not (Waiting k (is_odd v.view.cycle) b) v (p.later k b) ∙ is)

      of-row : (k : Kind) (o odd : Bool) (b : ℕ) → b < n → odd ≡ is_odd v.view.cycle → (l : ℕ) → before (Waiting k (is_odd v.view.cycle) b) v.view ≡ l
          → stands (Waiting k o b) v % 2 ^ 64 ≡ by_row o odd l 0 % 2 ^ 64
      of-row k true true b low e l is = later-row k true b e l is
      of-row k true false b low e l is = ap (λ (t : Bool). stands (Waiting k t b) v % 2 ^ 64) (ap not e) ∙ all-moved k b low
      of-row k false true b low e l is = ap (λ (t : Bool). stands (Waiting k t b) v % 2 ^ 64) (ap not e) ∙ all-moved k b low
      of-row k false false b low e l is = later-row k false b e l is

      stands-behind : (k : Word) → IsWord n k → stands k v % 2 ^ 64 ≡ behind k v.view % 2 ^ 64
      stands-behind (Waiting k o b) low = of-row k o (is_odd v.view.cycle) b low refl _ (row-later (is_odd v.view.cycle) _ _)
      stands-behind (Published k b) low = let pub_word = Published k b in let rest = Waiting k (not (is_odd v.view.cycle)) b in
          bool-cases (has (place pub_word) v.moved) (stands pub_word v % 2 ^ 64 ≡ behind pub_word v.view % 2 ^ 64)
          (λ on. ap (λ (z : ℕ). z % 2 ^ 64) (moved-in pub_word v on))
          (λ off. let waits : before rest v.view % 2 ^ 64 ≡ 0 = ap (λ (z : ℕ). z % 2 ^ 64) (sym (moved-not rest v (sym (p.paired k b) ∙ off))) ∙ all-moved k b low in
          let y = before pub_word v.view in let z = before rest v.view in let flat : y + 0 ≡ y = omega arith in
          ap (λ (x : ℕ). x % 2 ^ 64) (moved-not pub_word v off) ∙ ap (λ (x : ℕ). x % 2 ^ 64) (sym flat) ∙ ap (λ (x : ℕ). (y + x) % 2 ^ 64) (sym waits) ∙ add-mod-mod y z (2 ^ 64)
          ∙ ap (λ (x : ℕ). x % 2 ^ 64) (publication-sum v.view k b p.by))

      publish-rule : (what : What) → IsPublication what → Ruled n record { words = set s.words 0 (get_or s.words 0 0); homes = s.homes; views = set s.views id (published_sight what v) }
      publish-rule what publishes = by-kind what publishes
        where
          low : id < length s.views
          low = at-low s.views id v at

          first-word : 0 < length s.words
          first-word = let size = r.size in omega arith

          ends : (w : Sight) → Steps v w → ((k : Word) → stands k w ≡ behind k v.view) → ((odd : Bool) (b : ℕ) → odd ≡ is_odd v.view.cycle → has b v.later ≡ true → has b (noted_for odd w) ≡ true)
              → Ruled n record { words = set s.words 0 (get_or s.words 0 0); homes = s.homes; views = set s.views id w }
          ends w steps parts lists = stepped-rule n s r id v at w 0 (get_or s.words 0 0) steps first-word
              (λ k is zero. absurd (place-some k zero))
              (λ k is other. ap (λ (z : ℕ). z % 2 ^ 64) (own-next n s r id v at alone k w ∙ parts k) ∙ sym (stands-behind k is) ∙ ap (λ (z : ℕ). z % 2 ^ 64) (sym (own-total n s r id v at alone k)))
              (λ k odd b is more. let was : get_or s.words (place (Waiting k odd b)) 0 ≢ 0 = subst (λ (xs : List ℕ). get_or xs (place (Waiting k odd b)) 0 ≢ 0) (set-get_or s.words 0 0) more in
              stays k odd (is_odd v.view.cycle) b is refl was)
            where
              note : (odd : Bool) (k : Kind) (b : ℕ) → b < n → odd ≡ is_odd v.view.cycle → get_or s.words (place (Waiting k odd b)) 0 ≢ 0 → Noted odd b (set s.views id w)
              note odd k b is e more = record {
                id = id;
                sight = w;
                is = set_here s.views id w low;
                has_it = lists odd b e (sym (ap (has b) (ap (λ (o : Bool). by_row o (is_odd v.view.cycle) v.later v.due) e ∙ row-later (is_odd v.view.cycle) v.later v.due)) ∙ own-noted n s r id v at alone odd b (r.noted k odd b is more));
              }

              gone-row : (odd : Bool) (k : Kind) (b : ℕ) → b < n → odd ≡ not (is_odd v.view.cycle) → get_or s.words (place (Waiting k odd b)) 0 ≢ 0 → Noted odd b (set s.views id w)
              gone-row odd k b is e more = absurd (more (found-value (Waiting k odd b) is ∙ ap (λ (o : Bool). stands (Waiting k o b) v % 2 ^ 64) e ∙ all-moved k b is))

              stays : (k : Kind) (odd row : Bool) (b : ℕ) → b < n → row ≡ is_odd v.view.cycle → get_or s.words (place (Waiting k odd b)) 0 ≢ 0 → Noted odd b (set s.views id w)
              stays k true true b is e more = note true k b is e more
              stays k true false b is e more = gone-row true k b is (ap not e) more
              stays k false true b is e more = gone-row false k b is (ap not e) more
              stays k false false b is e more = note false k b is e more

          by-kind : (w : What) → IsPublication w → Ruled n record { words = set s.words 0 (get_or s.words 0 0); homes = s.homes; views = set s.views id (published_sight w v) }
          by-kind (Allocated b) off = absurd (true≢false (sym off))
          by-kind (Freed b) off = absurd (true≢false (sym off))
          by-kind NextCycle on = ends (published_sight NextCycle v) record { drives = refl; out = refl; lent = refl; stays = p.lent }
              (λ k. behind-next v.view p.by k)
              (λ odd b e h. ap (has b) (ap (λ (o : Bool). by_row odd o [] v.later) (odd-next v.view.cycle) ∙ ap (λ (o : Bool). by_row o (not (is_odd v.view.cycle)) [] v.later) e ∙ next-row (is_odd v.view.cycle) v.later) ∙ h)
            where
              next-row : (o : Bool) (l : List ℕ) → by_row o (not o) [] l ≡ l
              next-row true l = refl
              next-row false l = refl
          by-kind AfterSweep on = ends (published_sight AfterSweep v) record { drives = refl; out = refl; lent = refl; stays = p.lent }
              (λ k. behind-sweep v.view p.by k)
              (λ odd b e h. ap (has b) (ap (λ (o : Bool). by_row o (is_odd v.view.cycle) v.later []) e ∙ row-later (is_odd v.view.cycle) v.later []) ∙ h)

-- ---- what the table asks

module _ (n slots id : ℕ) (me : Me (Unit {0}) Sight) where
  pub enter-allowed : (what : What) → MayCount me.0 → IsCounting n what
      → Allows (Ruled n) slots id me (place (toward what me.0.view)) (λ x. (x + 1) % 2 ^ 64) (λ x w. w ≡ (counted what x me.0, me.1))
  enter-allowed (Allocated b) may low s r _ at _ = let x = get_or s.words (place (toward (Allocated b) me.0.view)) 0 in
      (counted (Allocated b) x me.0, keeps, tt, enter-rule n s r id me.0 at (counted (Allocated b) x me.0) (toward (Allocated b) me.0.view) (alloc-enters n b x me.0 low may), refl)
  enter-allowed (Freed b) may low s r _ at _ = let x = get_or s.words (place (toward (Freed b) me.0.view)) 0 in
      (counted (Freed b) x me.0, keeps, tt, enter-rule n s r id me.0 at (counted (Freed b) x me.0) (toward (Freed b) me.0.view) (free-enters n b x me.0 low may), refl)
  enter-allowed NextCycle may low s r _ at _ = absurd low
  enter-allowed AfterSweep may low s r _ at _ = absurd low

  pub read-allowed : (k : Word) → IsWord n k → IsAlone me.0 → Allows (Ruled n) slots id me (place k) (λ x. x) (Found (step slots (place k) 0 0 none) me)
  read-allowed k is alone s r _ at _ =
      (me.0, keeps, tt, found-rule n s r id me.0 at alone (place k), (refl, λ x same. found-value n s r id me.0 at alone k is ∙ ap (λ (z : Word). stands z me.0 % 2 ^ 64) (place-once k x same)))

  pub raise-allowed : (k : Word) (number : ℕ) → IsWord n k → IsAlone me.0 → me.0.lent ≡ not me.0.view.drives → (stands k me.0 + number) % 2 ^ 64 ≡ after k me.0.view % 2 ^ 64
      → Allows (Ruled n) slots id me (place k) (λ x. (x + number) % 2 ^ 64) (λ _ w. w ≡ (moves (place k) me.0, me.1))
  raise-allowed k number is alone stays sum s r _ at _ = (
    moves (place k) me.0,
    keeps,
    tt,
    move-rule n s r id me.0 at alone k _ stays is (
        ap (λ (z : ℕ). (z + number) % 2 ^ 64) (found-value n s r id me.0 at alone k is) ∙ mod-add-mod (stands k me.0) (2 ^ 64) number ∙ sum),
    refl,
  )

  pub clear-allowed : (k : Word) → IsWord n k → IsAlone me.0 → me.0.lent ≡ not me.0.view.drives → after k me.0.view ≡ 0
      → Allows (Ruled n) slots id me (place k) (λ _. 0) (λ _ w. w ≡ (moves (place k) me.0, me.1))
  clear-allowed k is alone stays zero s r _ at _ =
      (moves (place k) me.0, keeps, tt, move-rule n s r id me.0 at alone k 0 stays is (ap (λ (z : ℕ). z % 2 ^ 64) (sym zero)), refl)

  pub finish-allowed : (what : What) → IsPublication what → IsAlone me.0 → IsPublishing me.0 → ((k : Kind) (b : ℕ) → b < n → has b me.0.due ≡ true → IsMoved me.0 k b)
      → Allows (Ruled n) slots id me 0 (λ x. x) (λ _ w. w ≡ (published_sight what me.0, me.1))
  finish-allowed what publishes alone p gone s r _ at _ = (published_sight what me.0, keeps, tt, publish-rule n s r id me.0 at alone p gone what publishes, refl)

  -- the same at a place that is the word's

  pub enter-at : (what : What) (i : ℕ) → i ≡ place (toward what me.0.view) → MayCount me.0 → IsCounting n what
      → Allows (Ruled n) slots id me i (λ x. (x + 1) % 2 ^ 64) (λ x w. w ≡ (counted what x me.0, me.1))
  enter-at what i e may low = subst (λ (p : ℕ). Allows (Ruled n) slots id me p (λ x. (x + 1) % 2 ^ 64) (λ x w. w ≡ (counted what x me.0, me.1))) (sym e) (enter-allowed what may low)

  pub read-at : (k : Word) (i : ℕ) → i ≡ place k → IsWord n k → IsAlone me.0 → Allows (Ruled n) slots id me i (λ x. x) (Found (step slots i 0 0 none) me)
  read-at k i e is alone = subst (λ (p : ℕ). Allows (Ruled n) slots id me p (λ x. x) (Found (step slots p 0 0 none) me)) (sym e) (read-allowed k is alone)

  pub raise-at : (k : Word) (i number : ℕ) → i ≡ place k → IsWord n k → IsAlone me.0 → me.0.lent ≡ not me.0.view.drives → (stands k me.0 + number) % 2 ^ 64 ≡ after k me.0.view % 2 ^ 64
      → Allows (Ruled n) slots id me i (λ x. (x + number) % 2 ^ 64) (λ _ w. w ≡ (moves i me.0, me.1))
  raise-at k i number e is alone stays sum = subst (λ (p : ℕ). Allows (Ruled n) slots id me p (λ x. (x + number) % 2 ^ 64) (λ _ w. w ≡ (moves p me.0, me.1))) (sym e) (raise-allowed k number is alone stays sum)

  pub clear-at : (k : Word) (i : ℕ) → i ≡ place k → IsWord n k → IsAlone me.0 → me.0.lent ≡ not me.0.view.drives → after k me.0.view ≡ 0
      → Allows (Ruled n) slots id me i (λ _. 0) (λ _ w. w ≡ (moves i me.0, me.1))
  clear-at k i e is alone stays zero = subst (λ (p : ℕ). Allows (Ruled n) slots id me p (λ _. 0) (λ _ w. w ≡ (moves p me.0, me.1))) (sym e) (clear-allowed k is alone stays zero)
