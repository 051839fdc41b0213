-- The samples that the processors placed are counted as allocated, each once.
use Rattle.std.proofs.Common.{◌≡◌, ℕ, zero, suc, ◌<◌, Bool, true, false, ◌&&◌, eqb, List, [], ◌∷◌, ◌++◌, refl, sym, ◌∙◌, ap, arith, inl, inr}
use Rattle.std.proofs.lemmas.Bool.{cases_Bool, eq-eqb, ne_eqb, and_right}
use Rattle.page_alloc.specs.Lists.{In, count, one_if}
use Rattle.cycle_history.specs.Requests.{Marking}
use Rattle.cycle_history.specs.Objects.{Object, is_placed}
use Rattle.span_state.specs.declared.sweep.SweepNote.{SweepNote}
use Rattle.run_laws.specs.Lists.{passing}
use Rattle.run_laws.specs.CycleSoFar.{CycleSoFar}
use Rattle.run_laws.specs.Facts.{Facts}
use Rattle.run_laws.specs.Reached.{Began}
use Rattle.run_laws.specs.Profile.{Calls, AreCalls, sum_below}
use Rattle.run_laws.specs.CycleCalls.{has_died, FreesByNotes, CountsByWorkers}
use Rattle.cycle_history.specs.Profile.{Samples, Bucket, is_sample}
use Rattle.run_laws.proofs.Profile.{count-append, count-none, count-by_proc}
use Rattle.run_laws.proofs.Freed.{cycle-freed}

pub count-same : {X : Type 0} (f g : X → Bool) (xs : List X) → ((x : X) → In x xs → f x ≡ g x) → count f xs ≡ count g xs
count-same f g [] same = refl
count-same f g (x ∷ xs) same = let here = ap one_if (same x (inl refl)) in let rest = count-same f g xs (λ y h. same y (inr h)) in omega arith

count-passing : {X : Type 0} (p test : X → Bool) (xs : List X) → count test (passing p xs) ≡ count (λ x. p x && test x) xs
count-passing p test [] = refl
count-passing p test (x ∷ xs) =
    let rest = count-passing p test xs in
    elim (cases_Bool (p x)) [
      | inl is ↦ rw is (omega arith)
      | inr isnt ↦ rw isnt (omega arith)
    ]

-- a sample is placed
proc-sample : (s : Samples) (b : Bucket) (w : ℕ) (o : Object) → ((eqb o.proc w && is_placed o.answer) && is_sample s b o) ≡ (eqb o.proc w && is_sample s b o)
proc-sample s b w o = elim (cases_Bool (is_placed o.answer)) [
  | inl is ↦ (elim (cases_Bool (eqb o.proc w)) [ inl p ↦ rw (p, is) refl | inr p ↦ rw p refl ])
  | inr isnt ↦ (elim (cases_Bool (eqb o.proc w)) [ inl p ↦ rw (p, isnt) refl | inr p ↦ rw p refl ])
]

sum-equal : (n : ℕ) (f g : ℕ → ℕ) → ((k : ℕ) → f k ≡ g k) → sum_below n f ≡ sum_below n g
sum-equal zero f g same = refl
sum-equal (suc n) f g same = let here = same n in let rest = sum-equal n f g same in omega arith

pub cycle-counted : (marked : Marking) (region goal : ℕ) (s : Samples) (objects : List Object) (calls : Calls) (e : CycleSoFar) (workers : ℕ) (by : ℕ → Bucket → ℕ) (b : Bucket)
    → ((o : Object) → In o objects → o.cycle < e.cycle) → Facts marked region goal objects e → CountsByWorkers s calls e workers by
    → calls.allocated e.cycle b ≡ count (λ o. is_sample s b o && eqb o.cycle e.cycle) (e.news ++ objects)
cycle-counted marked region goal s objects calls e workers by b older facts counts =
    let each : (w : ℕ) → by w b ≡ count (λ (o : Object). eqb o.proc w && is_sample s b o) e.news = λ w. (
    counts.each w b ∙ count-passing (λ (o : Object). eqb o.proc w && is_placed o.answer) (λ o. is_sample s b o) e.news
    ∙ count-same (λ (o : Object). (eqb o.proc w && is_placed o.answer) && is_sample s b o) (λ (o : Object). eqb o.proc w && is_sample s b o) e.news (λ o h. proc-sample s b w o)) in
    let all = counts.all b ∙ sum-equal workers (λ w. by w b) (λ w. count (λ (o : Object). eqb o.proc w && is_sample s b o) e.news) each ∙ count-by_proc (λ o. is_sample s b o) workers e.news counts.procs in
    let now : count (λ o. is_sample s b o) e.news ≡ count (λ o. is_sample s b o && eqb o.cycle e.cycle) e.news = count-same (λ o. is_sample s b o) (λ o. is_sample s b o && eqb o.cycle e.cycle) e.news (λ o h. (
    let t = eq-eqb o.cycle e.cycle (facts.objects_are.now o h) in
    same-and (is_sample s b o) (eqb o.cycle e.cycle) t)) in
    let none : count (λ o. is_sample s b o && eqb o.cycle e.cycle) objects ≡ 0 = count-none (λ o. is_sample s b o && eqb o.cycle e.cycle) objects (λ o h. (
    let lt = older o h in
    and_right (is_sample s b o) (eqb o.cycle e.cycle) (ne_eqb o.cycle e.cycle (λ q. omega arith)))) in
    let split = count-append (λ o. is_sample s b o && eqb o.cycle e.cycle) e.news objects in
    omega arith
  where
    same-and : (x y : Bool) → y ≡ true → x ≡ (x && y)
    same-and true y on = sym on
    same-and false y on = refl

-- so the calls of a cycle are those of its samples
pub cycle-calls : (marked : Marking) (region goal : ℕ) (s : Samples) (objects : List Object) (notes : List SweepNote) (calls : Calls) (e : CycleSoFar) (m workers : ℕ) (by dead : ℕ → Bucket → ℕ)
    → Began marked region goal e.cycle e.before objects notes e.carried → Facts marked region goal objects e → e.cycle ≡ suc m → CountsByWorkers s calls e workers by → FreesByNotes marked s objects calls e m dead
    → AreCalls marked s (e.news ++ objects) calls e.cycle
cycle-calls marked region goal s objects notes calls e m workers by dead began facts is counts frees = record {
  allocated = λ b. cycle-counted marked region goal s objects calls e workers by b began.objects_older facts counts;
  first = λ b none. absurd (omega arith);
  freed = λ b k also. (
      let same : m ≡ k = omega arith in
      let old = cycle-freed marked region goal s objects notes calls e m dead b began facts is frees in
      let old' : calls.freed (suc m) b ≡ count (has_died marked s m b) (e.news ++ objects) = rw is at old in
      rw (also, sym same) old');
}
