-- What the tallies' calls add up to is what rule 9 asks.
use Rattle.std.proofs.Common.{◌≡◌, ℕ, zero, suc, ◌+◌, ◌-◌, ◌<◌, ◌≤◌, Bool, true, false, ◌&&◌, not, eqb, List, [], ◌∷◌, ◌++◌, refl, sym, ◌∙◌, arith, inl, inr}
use Rattle.std.proofs.Math.Dec.{ltb}
use Rattle.std.proofs.lemmas.Bool.{cases_lt, cases_eq, cases_Bool, lt-ltb, le-ltb, eq-eqb, ne_eqb, false_from_ne_true, and_right}
use Rattle.page_alloc.specs.Lists.{In, count, one_if}
use Rattle.cycle_history.specs.declared.Prof.{Prof}
use Rattle.cycle_history.specs.Orders.{AreRisingProfile}
use Rattle.cycle_history.specs.Requests.{Marking}
use Rattle.cycle_history.specs.Objects.{Object, is_placed, live}
use Rattle.sound_run.specs.Run.{Lasts}
use Rattle.sound_run.proofs.Counts.{not_live}
use Rattle.run_laws.specs.Profile.{Calls, sum_below, published_allocs, published_frees, AreCalls}
use Rattle.cycle_history.specs.Profile.{Samples, Bucket, is_sample, allocs_at, frees_at, bucket_of, IsOf, IsProfile}

-- ---- counts

pub count-none : {X : Type 0} (test : X → Bool) (xs : List X) → ((x : X) → In x xs → test x ≡ false) → count test xs ≡ 0
count-none test [] none = refl
count-none test (x ∷ xs) none = let e = none x (inl refl) in let rest = count-none test xs (λ y h. none y (inr h)) in rw e (omega arith)

-- two tests that together pass as a third
count-split : {X : Type 0} (f g h : X → Bool) (xs : List X) → ((x : X) → In x xs → one_if (f x) + one_if (g x) ≡ one_if (h x)) → count f xs + count g xs ≡ count h xs
count-split f g h [] same = refl
count-split f g h (x ∷ xs) same =
    let here = same x (inl refl) in
    let rest = count-split f g h xs (λ y i. same y (inr i)) in
    omega arith

-- ---- one object

sample-placed : (s : Samples) (b : Bucket) (o : Object) → is_placed o.answer ≡ false → is_sample s b o ≡ false
sample-placed s b o off = rw off refl

-- it was placed before the next mark end where it was before this one, or is of this cycle
alloc-one : (k : Bool) (c m : ℕ) → one_if (k && eqb c m) + one_if (k && ltb c m) ≡ one_if (k && ltb c (suc m))
alloc-one false c m = refl
alloc-one true c m =
    elim (cases_lt c m) [
      | inl less ↦ (
          let a = lt-ltb c m less in
          let b = lt-ltb c (suc m) (omega arith) in
          let e = ne_eqb c m (λ q. omega arith) in
          rw (a, b, e) refl)
      | inr ge ↦ elim (cases_eq c m) [
        | inl same ↦ (
            let a = le-ltb c m ge in
            let b = lt-ltb c (suc m) (omega arith) in
            let e = eq-eqb c m same in
            rw (a, b, e) refl)
        | inr other ↦ (
            let a = le-ltb c m ge in
            let b = le-ltb c (suc m) (omega arith) in
            let e = ne_eqb c m other in
            rw (a, b, e) refl)
      ]
    ]

-- it died before the next mark end where it did before this one, or lived and isn't marked
free-one : (marked : Marking) (o : Object) (m : ℕ) → Lasts marked o → is_placed o.answer ≡ true
    → one_if (live marked m o && not (marked (suc m) o.id)) + one_if (ltb o.cycle m && not (marked m o.id)) ≡ one_if (ltb o.cycle (suc m) && not (marked (suc m) o.id))
free-one marked o m lasts placed =
    elim (cases_lt o.cycle m) [
      | inl less ↦ (
          let a = lt-ltb o.cycle m less in
          let b = lt-ltb o.cycle (suc m) (omega arith) in
          let e = ne_eqb o.cycle m (λ q. omega arith) in
          elim (cases_Bool (marked m o.id)) [
            | inl on ↦ rw (a, b, placed, e, on) (omega arith)
            | inr off ↦ (
                let gone : marked (suc m) o.id ≡ false = false_from_ne_true (marked (suc m) o.id) (λ h. elim (lasts.next m h) [ inl same ↦ (omega arith) | inr was ↦ (let on = was.1 in cc) ]) in
                rw (a, b, placed, e, off, gone) refl)
          ])
      | inr ge ↦ elim (cases_eq o.cycle m) [
        | inl same ↦ (
            let a = le-ltb o.cycle m ge in
            let b = lt-ltb o.cycle (suc m) (omega arith) in
            let e = eq-eqb o.cycle m same in
            rw (a, b, placed, e) (omega arith))
        | inr other ↦ (
            let a = le-ltb o.cycle m ge in
            let b = le-ltb o.cycle (suc m) (omega arith) in
            let l = not_live marked o m lasts (omega arith) in
            rw (a, b, l) refl)
      ]
    ]

-- ---- all objects

-- what was published of allocations up to a mark end
allocs-sum : (marked : Marking) (s : Samples) (objects : List Object) (calls : Calls) (b : Bucket) (m : ℕ) → ((c : ℕ) → c < m → AreCalls marked s objects calls c)
    → sum_below m (λ k. calls.allocated k b) ≡ allocs_at s objects m b
allocs-sum marked s objects calls b zero are = sym (count-none (λ o. is_sample s b o && ltb o.cycle 0) objects (λ o h. and_right (is_sample s b o) (ltb o.cycle 0) (le-ltb o.cycle 0 (omega arith))))
allocs-sum marked s objects calls b (suc m) are =
    let rest = allocs-sum marked s objects calls b m (λ c lt. are c (omega arith)) in
    let now = (are m (omega arith)).allocated b in
    let split = count-split (λ o. is_sample s b o && eqb o.cycle m) (λ o. is_sample s b o && ltb o.cycle m) (λ o. is_sample s b o && ltb o.cycle (suc m)) objects (λ o h. alloc-one (is_sample s b o) o.cycle m) in
    omega arith

frees-split : (marked : Marking) (s : Samples) (b : Bucket) (m : ℕ) (o : Object) → Lasts marked o
    → one_if (is_sample s b o && (live marked m o && not (marked (suc m) o.id))) + one_if (is_sample s b o && (ltb o.cycle m && not (marked m o.id))) ≡ one_if (is_sample s b o && (ltb o.cycle (suc m) && not (marked (suc m) o.id)))
frees-split marked s b m o lasts =
    elim (cases_Bool (is_placed o.answer)) [
      | inl placed ↦ elim (cases_Bool (is_sample s b o)) [
        | inl is ↦ rw is (free-one marked o m lasts placed)
        | inr isnt ↦ rw isnt refl
      ]
      | inr off ↦ rw (sample-placed s b o off) refl
    ]

-- and of frees
frees-sum : (marked : Marking) (s : Samples) (objects : List Object) (calls : Calls) (b : Bucket) (m : ℕ) → ((o : Object) → In o objects → Lasts marked o)
    → ((c : ℕ) → c ≤ m → AreCalls marked s objects calls c) → sum_below (suc m) (λ k. calls.freed k b) ≡ frees_at marked s objects m b
frees-sum marked s objects calls b zero lasts are =
    let none = (are 0 (omega arith)).first b refl in
    let zero_at = count-none (λ o. is_sample s b o && (ltb o.cycle 0 && not (marked 0 o.id))) objects (λ o h. and_right (is_sample s b o) _ (let e = le-ltb o.cycle 0 (omega arith) in rw e refl)) in
    omega arith
frees-sum marked s objects calls b (suc m) lasts are =
    let rest = frees-sum marked s objects calls b m lasts (λ c le. are c (omega arith)) in
    let now = (are (suc m) (omega arith)).freed b m refl in
    let split = count-split (λ o. is_sample s b o && (live marked m o && not (marked (suc m) o.id))) (λ o. is_sample s b o && (ltb o.cycle m && not (marked m o.id)))
    (λ o. is_sample s b o && (ltb o.cycle (suc m) && not (marked (suc m) o.id))) objects (λ o h. frees-split marked s b m o (lasts o h)) in
    omega arith

-- what is published as of mark end m, up to the bound m + 1
pub published-right : (marked : Marking) (s : Samples) (objects : List Object) (calls : Calls) (b : Bucket) (m : ℕ) → ((o : Object) → In o objects → Lasts marked o)
    → ((c : ℕ) → c ≤ m → AreCalls marked s objects calls c)
    → (published_allocs calls (suc m) b ≡ allocs_at s objects m b) × (published_frees calls (suc m) b ≡ frees_at marked s objects m b)
published-right marked s objects calls b m lasts are =
    let less : suc m - 1 ≡ m = omega arith in (
      rw less (allocs-sum marked s objects calls b m (λ c lt. are c (omega arith))),
      frees-sum marked s objects calls b m lasts are,
    )

-- ---- a later cycle's objects change nothing of what an earlier one's calls say

pub count-append : {X : Type 0} (test : X → Bool) (xs ys : List X) → count test (xs ++ ys) ≡ count test xs + count test ys
count-append test [] ys = omega arith
count-append test (x ∷ xs) ys = let rest = count-append test xs ys in omega arith

pub count-old : {X : Type 0} (test : X → Bool) (xs ys : List X) → ((x : X) → In x xs → test x ≡ false) → count test (xs ++ ys) ≡ count test ys
count-old test xs ys none = let a = count-append test xs ys in let e = count-none test xs none in omega arith

pub calls-later : (marked : Marking) (s : Samples) (news objects : List Object) (calls : Calls) (c : ℕ) → ((o : Object) → In o news → c < o.cycle) → ((o : Object) → In o news → Lasts marked o)
    → AreCalls marked s objects calls c → AreCalls marked s (news ++ objects) calls c
calls-later marked s news objects calls c later lasts are = record {
  allocated = λ b. are.allocated b ∙ sym (count-old (λ o. is_sample s b o && eqb o.cycle c) news objects (λ o h. (let lt = later o h in and_right (is_sample s b o) (eqb o.cycle c) (ne_eqb o.cycle c (λ e. omega arith)))));
  first = are.first;
  freed = λ b m is. are.freed b m is ∙ sym (count-old (λ o. is_sample s b o && (live marked m o && not (marked c o.id))) news objects (λ o h. (
      let lt = later o h in
      let off = not_live marked o m (lasts o h) (omega arith) in
      and_right (is_sample s b o) (live marked m o && not (marked c o.id)) (rw off refl))));
}

-- ---- the calls of a cycle, worker by worker

-- the objects of all processors are those of each
pub count-by_proc : (test : Object → Bool) (workers : ℕ) (objects : List Object) → ((o : Object) → In o objects → o.proc < workers)
    → sum_below workers (λ w. count (λ (o : Object). eqb o.proc w && test o) objects) ≡ count test objects
count-by_proc test workers [] all = none workers
  where
    none : (n : ℕ) → sum_below n (λ w. 0) ≡ 0
    none zero = refl
    none (suc n) = let rest = none n in omega arith
count-by_proc test workers (o ∷ objects) all =
    let rest = count-by_proc test workers objects (λ x h. all x (inr h)) in
    let lt = all o (inl refl) in
    let one = one-proc o.proc (test o) workers in
    let both = sum-add workers (λ w. one_if (eqb o.proc w && test o)) (λ w. count (λ (x : Object). eqb x.proc w && test x) objects) in
    let here : sum_below workers (λ w. one_if (eqb o.proc w && test o)) ≡ one_if (test o) = one lt in
    omega arith
  where
    sum-add : (n : ℕ) (f g : ℕ → ℕ) → sum_below n (λ k. f k + g k) ≡ sum_below n f + sum_below n g
    sum-add zero f g = refl
    sum-add (suc n) f g = let rest = sum-add n f g in omega arith

    beyond : (p : ℕ) (t : Bool) (n : ℕ) → n ≤ p → sum_below n (λ w. one_if (eqb p w && t)) ≡ 0
    beyond p t zero le = refl
    beyond p t (suc n) le = let e = ne_eqb p n (λ q. omega arith) in let rest = beyond p t n (omega arith) in rw e (omega arith)

    one-proc : (p : ℕ) (t : Bool) (n : ℕ) → p < n → sum_below n (λ w. one_if (eqb p w && t)) ≡ one_if t
    one-proc p t zero lt = absurd (omega arith)
    one-proc p t (suc n) lt = elim (cases_eq p n) [
      | inl same ↦ (let e = eq-eqb p n same in let rest = beyond p t n (omega arith) in rw e (omega arith))
      | inr other ↦ (let e = ne_eqb p n other in let rest = one-proc p t n (omega arith) in rw e (omega arith))
    ]

-- ---- the lines of the last mark end

-- lines with the published numbers, one for each bucket that has any, are rule 9's
pub profile-right : (marked : Marking) (s : Samples) (objects : List Object) (calls : Calls) (last : ℕ) (lines : List Prof) → ((o : Object) → In o objects → Lasts marked o)
    → ((c : ℕ) → c ≤ last → AreCalls marked s objects calls c) → AreRisingProfile lines
    → ((line : Prof) → In line lines → (line.mark ≡ last) × (1 ≤ line.allocs) × (line.allocs ≡ published_allocs calls (suc last) (bucket_of line)) × (line.frees ≡ published_frees calls (suc last) (bucket_of line)))
    → ((b : Bucket) → 1 ≤ published_allocs calls (suc last) b → (line : Prof) × In line lines × IsOf last b line) → IsProfile marked s last objects lines
profile-right marked s objects calls last lines lasts are order right each = record {
  order = order;
  right = λ line h. (
      let is = right line h in
      let numbers = published-right marked s objects calls (bucket_of line) last lasts are in
      let allocs : line.allocs ≡ allocs_at s objects line.mark (bucket_of line) = rw is.0 (is.2 ∙ numbers.0) in
      let frees : line.frees ≡ frees_at marked s objects line.mark (bucket_of line) = rw is.0 (is.3 ∙ numbers.1) in
      (is.0, record { some = is.1; allocs = allocs; frees = frees }));
  each = λ b some. each b (let e = (published-right marked s objects calls b last lasts are).0 in omega arith);
}
