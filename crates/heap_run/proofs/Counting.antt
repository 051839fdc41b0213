-- What hands count, call after call and turn after turn.
use Rattle.std.proofs.Common.{◌≡◌, ℕ, ◌+◌, ◌-◌, Bool, true, false, eqb, List, [], ◌∷◌, ◌++◌, refl, sym, ◌∙◌, ap, subst, arith, inl, inr}
use Rattle.std.proofs.lemmas.List.{append_assoc, append-nil}
use Rattle.page_alloc.specs.Lists.{one_if}
use Rattle.page_alloc.specs.Lists.{count as count_items}
use Rattle.span_state.specs.MarkSet.{MarkSet, dead_of}
use Rattle.span_state.specs.declared.sweep.SweepNote.{SweepNote}
use Rattle.profile_cycle.specs.declared.calls.Call.{Call}
use Rattle.profile_cycle.specs.declared.calls.What.TheVariants.{Allocated, Freed}
use Rattle.profile_cycle.specs.History.{RingId, Standing, allocates, calls, count, frees, joined, lent, split_off}
use Rattle.profile_cycle.specs.History.{one_if as one_call}
use Rattle.profile_cycle.specs.Kept.{all_allocs, all_frees}
use Rattle.profile_lines.specs.Counted.{AreMadeIn}
use Rattle.run_laws.proofs.Lists.{in-cases}
use Rattle.run_laws.specs.CycleCalls.{dead_in}
use Rattle.sample_laws.specs.Counted.{one_count}
use Rattle.span_set.specs.Tallies.{Frees, MayCount, frees_all, freeing}
use Rattle.span_set.proofs.Tallies.{frees-both}
use Rattle.span_set.specs.declared.hand.Hand.{Hand}
use Rattle.proc_cache.specs.Samples.{CountsOne, counted}
use Rattle.heap_run.specs.Counts.{Counts, IsOut, dead_at, no_counts, with_calls}

-- ---- calls behind calls

pub count-calls : (test : Call → Bool) (xs ys : List Call) → count test (xs ++ ys) ≡ count test xs + count test ys
count-calls test [] ys = omega arith
count-calls test (x ∷ xs) ys = let rest = count-calls test xs ys in omega arith

made-append : (c : ℕ) (xs ys : List Call) → AreMadeIn c xs → AreMadeIn c ys → AreMadeIn c (xs ++ ys)
made-append c xs ys h k call i = elim (in-cases xs ys call i) [ inl a ↦ h call a | inr b ↦ k call b ]

dead-append : (m : MarkSet) (xs ys : List SweepNote) (b : ℕ) → dead_at m (xs ++ ys) b ≡ dead_at m xs b + dead_at m ys b
dead-append m [] ys b = omega arith
dead-append m (x ∷ xs) ys b = let rest = dead-append m xs ys b in omega arith

with-calls : (t : Standing) (first later : List Call) → with_calls (with_calls t first) later ≡ with_calls t (later ++ first)
with-calls t first later = ap (λ (l : List Call). record t { view = record t.view { calls = l } }) (sym (append_assoc later first t.view.calls))

-- ---- frees

-- A tally made calls in its cycle that free so many objects of each bucket, and count no allocation.
record FreesOnly (t t' : Standing) (frees : ℕ → ℕ) : Type 0 where
  made : List Call
  tally : t' ≡ with_calls t made
  now : AreMadeIn t.view.cycle made
  allocs_are : (b : ℕ) → all_allocs b made ≡ 0
  frees_are : (b : ℕ) → all_frees b made ≡ frees b

frees-then : (t u v : Standing) (f g h : ℕ → ℕ) → FreesOnly t u f → FreesOnly u v g → ((b : ℕ) → h b ≡ f b + g b) → FreesOnly t v h
frees-then t u v f g h x y sum = record {
  made = y.made ++ x.made;
  tally = y.tally ∙ ap (λ (s : Standing). with_calls s y.made) x.tally ∙ with-calls t x.made y.made;
  now = made-append t.view.cycle y.made x.made (subst (λ (c : ℕ). AreMadeIn c y.made) (ap (λ (s : Standing). s.view.cycle) x.tally) y.now) x.now;
  allocs_are = λ b. (let s = count-calls (λ (c : Call). allocates b c.what) y.made x.made in let p = x.allocs_are b in let q = y.allocs_are b in omega arith);
  frees_are = λ b. (let s = count-calls (λ (c : Call). frees b c.what) y.made x.made in let p = x.frees_are b in let q = y.frees_are b in let r = sum b in omega arith);
}

same-one : (x : Bool) → one_call x ≡ one_if x
same-one true = refl
same-one false = refl

free-one : (t : Standing) (bucket : ℕ) → FreesOnly t (calls t (Freed bucket)) (λ b. one_if (eqb bucket b))
free-one t bucket = record {
  made = record { cycle = t.view.cycle; what = Freed bucket } ∷ [];
  tally = refl;
  now = λ call i. elim i [ inl here ↦ rw (sym here) (refl, refl) | inr there ↦ absurd there ];
  allocs_are = λ b. refl;
  frees_are = λ b. (let s = same-one (eqb bucket b) in omega arith);
}

frees-all : (buckets : List ℕ) (t : Standing) → FreesOnly t (frees_all buckets t) (λ b. count_items (λ (x : ℕ). eqb x b) buckets)
frees-all [] t = record { made = []; tally = refl; now = λ call i. absurd i; allocs_are = λ b. refl; frees_are = λ b. refl }
frees-all (bucket ∷ more) t = frees-then t (calls t (Freed bucket)) (frees_all more (calls t (Freed bucket))) (λ b. one_if (eqb bucket b)) (λ b. count_items (λ (x : ℕ). eqb x b) more)
    (λ b. count_items (λ (x : ℕ). eqb x b) (bucket ∷ more)) (free-one t bucket) (frees-all more (calls t (Freed bucket))) (λ b. refl)

freeing-counts : (m : MarkSet) (notes : List SweepNote) (t : Standing) → FreesOnly t (freeing m notes t) (λ b. dead_at m notes b)
freeing-counts m [] t = record { made = []; tally = refl; now = λ call i. absurd i; allocs_are = λ b. refl; frees_are = λ b. refl }
freeing-counts m (note ∷ later) t = frees-then t (frees_all (dead_of m note.page) t) (freeing m later (frees_all (dead_of m note.page) t)) (λ b. dead_in m b note.page) (λ b. dead_at m later b)
    (λ b. dead_at m (note ∷ later) b) (frees-all (dead_of m note.page) t) (freeing-counts m later (frees_all (dead_of m note.page) t)) (λ b. refl)

-- ---- hands

-- a hand that only swept
pub frees-counts : (m : MarkSet) (a b : Hand) → Frees m a b → Counts m no_counts a b
frees-counts m a b h =
    let f = freeing-counts m h.more a.tally in
    record { more = h.more; notes = h.notes; made = f.made; tally = h.tally ∙ f.tally; now = f.now; allocs_are = f.allocs_are; frees_are = f.frees_are }

-- one that did nothing
pub counts-none : (m : MarkSet) (a b : Hand) → b.notes.items ≡ a.notes.items → b.tally ≡ a.tally → Counts m no_counts a b
counts-none m a b notes tally = record {
  more = [];
  notes = notes ∙ sym (append-nil a.notes.items);
  made = [];
  tally = tally;
  now = λ call i. absurd i;
  allocs_are = λ b. refl;
  frees_are = λ b. refl;
}

-- one call behind another
pub counts-then : (m : MarkSet) (f g h : ℕ → ℕ) (a b c : Hand) → Counts m f a b → Counts m g b c → ((k : ℕ) → h k ≡ f k + g k) → Counts m h a c
counts-then m f g h a b c x y sum = record {
  more = x.more ++ y.more;
  notes = y.notes ∙ ap (λ (l : List SweepNote). l ++ y.more) x.notes ∙ append_assoc a.notes.items x.more y.more;
  made = y.made ++ x.made;
  tally = y.tally ∙ ap (λ (s : Standing). with_calls s y.made) x.tally ∙ with-calls a.tally x.made y.made;
  now = made-append a.tally.view.cycle y.made x.made (subst (λ (n : ℕ). AreMadeIn n y.made) (ap (λ (s : Standing). s.view.cycle) x.tally) y.now) x.now;
  allocs_are = λ k. (let s = count-calls (λ (c : Call). allocates k c.what) y.made x.made in let p = x.allocs_are k in let q = y.allocs_are k in let r = sum k in omega arith);
  frees_are = λ k. (let s = count-calls (λ (c : Call). frees k c.what) y.made x.made in let p = x.frees_are k in let q = y.frees_are k in let r = dead-append m x.more y.more k in omega arith);
}

-- other hands with the same notes and tallies
pub counts-as : (m : MarkSet) (f : ℕ → ℕ) (a b c d : Hand) → Counts m f a b → c.notes.items ≡ a.notes.items → c.tally ≡ a.tally → d.notes.items ≡ b.notes.items → d.tally ≡ b.tally → Counts m f c d
counts-as m f a b c d x n t n' t' = record {
  more = x.more;
  notes = n' ∙ x.notes ∙ ap (λ (l : List SweepNote). l ++ x.more) (sym n);
  made = x.made;
  tally = t' ∙ x.tally ∙ ap (λ (s : Standing). with_calls s x.made) (sym t);
  now = subst (λ (k : ℕ). AreMadeIn k x.made) (ap (λ (s : Standing). s.view.cycle) (sym t)) x.now;
  allocs_are = x.allocs_are;
  frees_are = x.frees_are;
}

-- other numbers that are the same
pub counts-same : (m : MarkSet) (f g : ℕ → ℕ) (a b : Hand) → Counts m f a b → ((k : ℕ) → g k ≡ f k) → Counts m g a b
counts-same m f g a b x same = record { more = x.more; notes = x.notes; made = x.made; tally = x.tally; now = x.now; allocs_are = λ k. x.allocs_are k ∙ sym (same k); frees_are = x.frees_are }

-- ---- what may be counted

-- it may still be counted
pub counts-may : (r : RingId) (m : MarkSet) (f : ℕ → ℕ) (a b : Hand) → MayCount r m a.tally → Counts m f a b → MayCount r m b.tally
counts-may r m f a b may x = record { ring = ap (λ (s : Standing). s.ring) x.tally ∙ may.ring; dead = may.dead }

pub counts-drives : (m : MarkSet) (f : ℕ → ℕ) (a b : Hand) → Counts m f a b → b.tally.view.drives ≡ a.tally.view.drives
counts-drives m f a b x = ap (λ (s : Standing). s.view.drives) x.tally

pub out-may : (r : RingId) (m : MarkSet) (n : ℕ) (d h : Hand) → MayCount r m d.tally → IsOut n d h → MayCount r m h.tally
out-may r m n d h may o = record { ring = ap (λ (s : Standing). s.ring) o.tally ∙ may.ring; dead = may.dead }

-- ---- a turn

-- a hand with a tally that was split off counted, and both came back
pub counts-turn : (m : MarkSet) (f : ℕ → ℕ) (n : ℕ) (old away start end new : Hand) → IsOut n old start → away.notes ≡ old.notes → away.tally ≡ record old.tally { view = lent old.tally.view } → Counts m f start end
    → new.notes.items ≡ away.notes.items ++ end.notes.items → new.tally ≡ record away.tally { view = joined away.tally.view end.tally.view } → Counts m f old new
counts-turn m f n old away start end new out kept lends x notes joins =
    let mine : end.tally ≡ with_calls (record old.tally { view = split_off old.tally.view }) x.made = x.tally ∙ ap (λ (s : Standing). with_calls s x.made) out.tally in
    let both : new.tally ≡ record old.tally { view = joined (lent old.tally.view) (with_calls (record old.tally { view = split_off old.tally.view }) x.made).view } =
    joins ∙ ap (λ (s : Standing). record s { view = joined s.view end.tally.view }) lends ∙ ap (λ (s : Standing). record old.tally { view = joined (lent old.tally.view) s.view }) mine in
    let back : old.tally.view.out + 1 - 1 ≡ old.tally.view.out = omega arith in
    let calls_are : (x.made ++ []) ++ old.tally.view.calls ≡ x.made ++ old.tally.view.calls = ap (λ (l : List Call). l ++ old.tally.view.calls) (append-nil x.made) in
    record {
      more = x.more;
      notes = notes ∙ ap (λ (l : List SweepNote). away.notes.items ++ l) (x.notes ∙ ap (λ (l : List SweepNote). l ++ x.more) out.notes) ∙ ap (λ k. k.items ++ x.more) kept;
      made = x.made;
      tally = both ∙ ap (λ (l : List Call). record old.tally { view = record old.tally.view { calls = l; out = old.tally.view.out + 1 - 1 } }) calls_are
          ∙ ap (λ (k : ℕ). record old.tally { view = record old.tally.view { calls = x.made ++ old.tally.view.calls; out = k } }) back;
      now = subst (λ (k : ℕ). AreMadeIn k x.made) (ap (λ (s : Standing). s.view.cycle) out.tally) x.now;
      allocs_are = x.allocs_are;
      frees_are = x.frees_are;
    }

-- the cycle of a hand that is out is the driver's still
pub out-cycle : (m : MarkSet) (f : ℕ → ℕ) (n : ℕ) (old away start end : Hand) → IsOut n old start → away.tally ≡ record old.tally { view = lent old.tally.view } → Counts m f start end
    → end.tally.view.cycle ≡ away.tally.view.cycle
out-cycle m f n old away start end out lends x =
    ap (λ (s : Standing). s.view.cycle) x.tally ∙ ap (λ (s : Standing). s.view.cycle) out.tally ∙ ap (λ (s : Standing). s.view.cycle) (sym lends)

pub out-split : (m : MarkSet) (f : ℕ → ℕ) (n : ℕ) (old start end : Hand) → IsOut n old start → Counts m f start end → end.tally.view.drives ≡ false
out-split m f n old start end out x = ap (λ (s : Standing). s.view.drives) x.tally ∙ ap (λ (s : Standing). s.view.drives) out.tally

-- ---- an event

-- a hand whose tally counted an object, or none
pub counted-one : (m : MarkSet) (sampled : Bool) (bucket : ℕ) (a b : Hand) → b.notes.items ≡ a.notes.items → b.tally ≡ counted sampled bucket a.tally → Counts m (one_count sampled bucket) a b
counted-one m false bucket a b notes tally = counts-same m no_counts (one_count false bucket) a b (counts-none m a b notes tally) (λ k. refl)
counted-one m true bucket a b notes tally = record {
  more = [];
  notes = notes ∙ sym (append-nil a.notes.items);
  made = record { cycle = a.tally.view.cycle; what = Allocated bucket } ∷ [];
  tally = tally;
  now = λ call i. elim i [ inl here ↦ rw (sym here) (refl, refl) | inr there ↦ absurd there ];
  allocs_are = λ b. (let s = same-one (eqb bucket b) in omega arith);
  frees_are = λ b. refl;
}

-- what an allocation counted
pub ones-counts : (m : MarkSet) (bucket : ℕ) (sampled : Bool) (a b : Hand) → CountsOne m bucket sampled a b → Counts m (one_count sampled bucket) a b
ones-counts m bucket sampled a b h =
    let mid : Hand = record { worker = a.worker; notes = b.notes; tally = freeing m h.more a.tally } in
    let swept : Counts m no_counts a mid = frees-counts m a mid (record { more = h.more; notes = h.notes; tally = refl }) in
    counts-then m no_counts (one_count sampled bucket) (one_count sampled bucket) a mid b swept (counted-one m sampled bucket mid b refl h.tally) (λ k. omega arith)

-- what a refused allocation counted
pub refused-counts : (m : MarkSet) (bucket : ℕ) (a b : Hand) → Frees m a b → Counts m (one_count false bucket) a b
refused-counts m bucket a b h = counts-same m no_counts (one_count false bucket) a b (frees-counts m a b h) (λ k. refl)

-- what a large object counted, behind what its processor's flush and the search for its span freed
pub large-counts : (m : MarkSet) (bucket : ℕ) (sampled : Bool) (a b c d : Hand) → Frees m a b → Frees m b c → d.notes.items ≡ c.notes.items → d.tally ≡ counted sampled bucket c.tally → Counts m (one_count sampled bucket) a d
large-counts m bucket sampled a b c d x y notes tally =
    counts-then m no_counts (one_count sampled bucket) (one_count sampled bucket) a c d (frees-counts m a c (frees-both m a b c x y)) (counted-one m sampled bucket c d notes tally) (λ k. omega arith)
