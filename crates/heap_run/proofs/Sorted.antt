-- The notes of a cycle, sorted by page, are those of its sweeps.
use Rattle.std.proofs.Common.{◌≡◌, ◌≢◌, ℕ, suc, ◌<◌, ◌≤◌, eqb, List, [], ◌∷◌, map, reverse, length, get_or, refl, sym, ◌∙◌, ap, arith, ◌⊎◌, inl, inr, subst}
use Rattle.std.specs.List.{AllByRecursion, sum_by}
use Rattle.std.specs.List.Sorted.{IsPermutation, IsNonDecreasingBy}
use Rattle.std.proofs.lemmas.Bool.{cases_eq, cases_lt, eq-eqb, ne_eqb}
use Rattle.std.proofs.lemmas.List.{reverse-append}
use Rattle.std.proofs.lemmas.List.Sums.{sum_by-cons}
use Rattle.std.proofs.lemmas.List.Sorted.{All-permutation, IsPermutation-sym, IsPermutation-reverse, sum_by-IsPermutation}
use Rattle.std.proofs.lemmas.List.Elements.{All-from_recursion, recursion_from_All}
use Rattle.page_alloc.specs.Lists.{In, AllApart, one_if}
use Rattle.span_state.specs.declared.sweep.SweepNote.{SweepNote}
use Rattle.sound_run.proofs.Notes.{in-reverse, from-reverse}
use Rattle.worker_log.specs.declared.Entry.{Entry}
use Rattle.worker_log.specs.declared.Sweeping.{Sweeping}
use Rattle.worker_log.specs.Logs.{sweepings}
use Rattle.run_laws.specs.CycleSoFar.{CycleSoFar}
use Rattle.run_laws.specs.SweepFacts.{Notes, TellsOf}
use Rattle.run_laws.proofs.Lists.{apart-append}
use Rattle.heap_run.specs.Swept.{Made, made_by, note_at, AreCollected}

-- ---- items of lists

in-map : {X Y : Type 0} (f : X → Y) (xs : List X) (x : X) → In x xs → In (f x) (map f xs)
in-map f [] x h = absurd h
in-map f (y ∷ xs) x h = elim h [ inl here ↦ inl (ap f here) | inr there ↦ inr (in-map f xs x there) ]

from-map : {X Y : Type 0} (f : X → Y) (xs : List X) (y : Y) → In y (map f xs) → (x : X) × In x xs × (f x ≡ y)
from-map f [] y h = absurd h
from-map f (x ∷ xs) y h = elim h [ inl here ↦ (x, inl refl, here) | inr there ↦ (let at = from-map f xs y there in (at.0, inr at.1, at.2)) ]

all-in : {X : Type 0} (xs ys : List X) → ((x : X) → In x xs → In x ys) → AllByRecursion (λ x. In x ys) xs
all-in [] ys each = tt
all-in (x ∷ xs) ys each = (each x (inl refl), all-in xs ys (λ y h. each y (inr h)))

in-all : {X : Type 0} (P : X → Type 0) (xs : List X) (x : X) → AllByRecursion P xs → In x xs → P x
in-all P [] x all h = absurd h
in-all P (y ∷ xs) x all h = elim h [ inl here ↦ subst P here all.0 | inr there ↦ in-all P xs x all.1 there ]

pub from-permutation : {X : Type 0} (xs ys : List X) (y : X) → IsPermutation xs ys → In y ys → In y xs
from-permutation xs ys y same h =
    in-all (λ x. In x xs) ys y (recursion_from_All (λ x. In x xs) ys (All-permutation (λ x. In x xs) xs ys same (All-from_recursion (λ x. In x xs) xs (all-in xs xs (λ x i. i))))) h

apart-reverse : {X : Type 0} (R : X → X → Type 0) (xs : List X) → AllApart R xs → AllApart (λ newer older. R older newer) (reverse xs)
apart-reverse R [] apart = tt
apart-reverse R (x ∷ xs) apart =
    rw (reverse-append (x ∷ []) xs) (apart-append (λ newer older. R older newer) (reverse xs) (x ∷ []) (apart-reverse R xs apart.1) ((λ y h. absurd h), tt)
    (λ a b ha hb. elim hb [ inl here ↦ rw (sym here) (apart.0 a (from-reverse a xs ha)) | inr none ↦ absurd none ]))

-- ---- items in rising order, of which no two are alike

-- how many items have the number p
abbrev many-at : {X : Type 0} → (X → ℕ) → ℕ → List X → ℕ
many-at n p xs = sum_by (λ x. one_if (eqb (n x) p)) xs

index-of : {X : Type 0} (xs : List X) (y : X) → In y xs → (j : ℕ) × (j < length xs) × ((d : X) → get_or xs j d ≡ y)
index-of [] y h = absurd h
index-of (x ∷ xs) y h = elim h [
  | inl here ↦ (0, omega arith, λ d. here)
  | inr there ↦ (let at = index-of xs y there in (suc at.0, (let lt = at.1 in omega arith), λ d. at.2 d))
]

-- along a list that does not fall each item is at most those behind it
at-most : {X : Type 0} (n : X → ℕ) (xs : List X) → IsNonDecreasingBy n xs → AllApart (λ a b. n a ≤ n b) xs
at-most n [] up = tt
at-most n (x ∷ xs) up = (
  (λ y h. (
      let at = index-of xs y h in
      let le : n x ≤ n (get_or xs at.0 x) = up 0 (suc at.0) x (omega arith) (let lt = at.1 in omega arith) in
      let e : n (get_or xs at.0 x) ≡ n y = ap n (at.2 x) in
      omega arith)),
  at-most n xs (λ i j d le lt. up (suc i) (suc j) d (omega arith) (omega arith)),
)

-- an item that is there is counted
some-at : {X : Type 0} (n : X → ℕ) (xs : List X) (y : X) → In y xs → 1 ≤ many-at n (n y) xs
some-at n [] y h = absurd h
some-at n (x ∷ xs) y h =
    let split = sum_by-cons (λ z. one_if (eqb (n z) (n y))) x xs in
    elim h [
      | inl here ↦ (let one : one_if (eqb (n x) (n y)) ≡ 1 = ap one_if (eq-eqb (n x) (n y) (ap n here)) in omega arith)
      | inr there ↦ (let rest = some-at n xs y there in omega arith)
    ]

-- where each number is counted once at most, the items rise
rising : {X : Type 0} (n : X → ℕ) (xs : List X) → AllApart (λ a b. n a ≤ n b) xs → ((p : ℕ) → many-at n p xs ≤ 1) → AllApart (λ a b. n a < n b) xs
rising n [] up few = tt
rising n (x ∷ xs) up few = (
  (λ y h. elim (cases_lt (n x) (n y)) [
    | inl lt ↦ lt
    | inr ge ↦ (
        let le = up.0 y h in
        let same : n x ≡ n y = omega arith in
        let split = sum_by-cons (λ z. one_if (eqb (n z) (n y))) x xs in
        let one : one_if (eqb (n x) (n y)) ≡ 1 = ap one_if (eq-eqb (n x) (n y) same) in
        let more = some-at n xs y h in
        let most = few (n y) in
        absurd (omega arith))
  ]),
  rising n xs up.1 (λ p. (let split = sum_by-cons (λ z. one_if (eqb (n z) p)) x xs in let most = few p in omega arith)),
)

none-at : {X : Type 0} (n : X → ℕ) (p : ℕ) (xs : List X) → ((y : X) → In y xs → n y ≢ p) → many-at n p xs ≡ 0
none-at n p [] none = refl
none-at n p (x ∷ xs) none =
    let split = sum_by-cons (λ z. one_if (eqb (n z) p)) x xs in
    let no : one_if (eqb (n x) p) ≡ 0 = ap one_if (ne_eqb (n x) p (none x (inl refl))) in
    let rest = none-at n p xs (λ y h. none y (inr h)) in
    omega arith

-- of different items each number is counted once at most
few-at : {X : Type 0} (n : X → ℕ) (p : ℕ) (xs : List X) → AllApart (λ a b. n a ≢ n b) xs → many-at n p xs ≤ 1
few-at n p [] apart = omega arith
few-at n p (x ∷ xs) apart =
    let split = sum_by-cons (λ z. one_if (eqb (n z) p)) x xs in
    elim (cases_eq (n x) p) [
      | inl same ↦ (
          let one : one_if (eqb (n x) p) ≡ 1 = ap one_if (eq-eqb (n x) p same) in
          let none = none-at n p xs (λ y h e. apart.0 y h (same ∙ sym e)) in
          omega arith)
      | inr other ↦ (
          let no : one_if (eqb (n x) p) ≡ 0 = ap one_if (ne_eqb (n x) p other) in
          let rest = few-at n p xs apart.1 in
          omega arith)
    ]

many-map : {X Y : Type 0} (n : Y → ℕ) (f : X → Y) (p : ℕ) (xs : List X) → many-at n p (map f xs) ≡ many-at (λ x. n (f x)) p xs
many-map n f p [] = refl
many-map n f p (x ∷ xs) =
    let a = sum_by-cons (λ z. one_if (eqb (n z) p)) (f x) (map f xs) in
    let b = sum_by-cons (λ z. one_if (eqb (n (f z)) p)) x xs in
    let rest = many-map n f p xs in
    omega arith

-- ---- sweeps of all workers

in-made : (made : List Made) (x : Made) → In x made → In x.sweep (made_by x.worker made)
in-made [] x h = absurd h
in-made (y ∷ made) x h =
    elim (cases_eq y.worker x.worker) [
      | inl same ↦ rw (eq-eqb y.worker x.worker same) (elim h [ inl here ↦ inl (ap (λ (z : Made). z.sweep) here) | inr there ↦ inr (in-made made x there) ])
      | inr other ↦ rw (ne_eqb y.worker x.worker other) (elim h [ inl here ↦ absurd (other (ap (λ (z : Made). z.worker) here)) | inr there ↦ in-made made x there ])
    ]

from-made : (w : ℕ) (made : List Made) (s : Sweeping) → In s (made_by w made) → (x : Made) × In x made × (x.sweep ≡ s)
from-made w [] s h = absurd h
from-made w (y ∷ made) s h =
    elim (cases_eq y.worker w) [
      | inl same ↦ (
          let h' : (y.sweep ≡ s) ⊎ In s (made_by w made) = rw (eq-eqb y.worker w same) at h in
          elim h' [ inl here ↦ (y, inl refl, here) | inr there ↦ (let at = from-made w made s there in (at.0, inr at.1, at.2)) ])
      | inr other ↦ (
          let h' : In s (made_by w made) = rw (ne_eqb y.worker w other) at h in
          let at = from-made w made s h' in (at.0, inr at.1, at.2))
    ]

-- the sweeps of each worker are of different pages, and a page is one worker's
apart-made : (made : List Made) → ((w : ℕ) → AllApart (λ (s t : Sweeping). s.page ≢ t.page) (made_by w made)) → ((x y : Made) → In x made → In y made → x.sweep.page ≡ y.sweep.page → x.worker ≡ y.worker)
    → AllApart (λ (x y : Made). x.sweep.page ≢ y.sweep.page) made
apart-made [] once one = tt
apart-made (x ∷ made) once one = (
  (λ y h e. (
      let same : x.worker ≡ y.worker = one x y (inl refl) (inr h) e in
      let mine : AllApart (λ (s t : Sweeping). s.page ≢ t.page) (x.sweep ∷ made_by y.worker made) = rw (eq-eqb x.worker y.worker same) at (once y.worker) in
      mine.0 y.sweep (in-made made y h) e)),
  apart-made made (λ w. rest w (cases_eq x.worker w)) (λ a b ha hb. one a b (inr ha) (inr hb)),
)
  where
    rest : (w : ℕ) → (x.worker ≡ w) ⊎ (x.worker ≢ w) → AllApart (λ (s t : Sweeping). s.page ≢ t.page) (made_by w made)
    rest w (inl same) = (
        let all : AllApart (λ (s t : Sweeping). s.page ≢ t.page) (x.sweep ∷ made_by w made) = rw (eq-eqb x.worker w same) at (once w) in
        all.1)
    rest w (inr other) = rw (ne_eqb x.worker w other) at (once w)

-- ---- the notes of a cycle

pub notes-sorted : (c : ℕ) (logs : ℕ → List Entry) (collected sorted : List SweepNote) (e : CycleSoFar) → AreCollected c logs collected → IsPermutation collected sorted → IsNonDecreasingBy (λ (n : SweepNote). n.page) sorted
    → ((w : ℕ) → AllApart (λ (s t : Sweeping). s.page ≢ t.page) (sweepings (logs w)))
    → ((v w : ℕ) (s t : Sweeping) → In s (sweepings (logs v)) → In t (sweepings (logs w)) → s.page ≡ t.page → v ≡ w)
    → e.cycle ≡ c → ((w : ℕ) → e.logs w ≡ logs w) → e.notes ≡ reverse sorted → Notes e
notes-sorted c logs collected sorted e are same up once one cycle logs_are notes =
    let note : Made → SweepNote = λ x. note_at c x.sweep in
    let own : (x : Made) → In x are.made → In x.sweep (sweepings (logs x.worker)) = λ x h. subst (λ (xs : List Sweeping). In x.sweep xs) (are.each x.worker) (in-made are.made x h) in
    let apart = apart-made are.made (λ w. rw (are.each w) (once w)) (λ x y hx hy pages. one x.worker y.worker x.sweep y.sweep (own x hx) (own y hy) pages) in
    let few : (p : ℕ) → many-at (λ (n : SweepNote). n.page) p sorted ≤ 1 = λ p. (
    let a = sum_by-IsPermutation (λ (n : SweepNote). one_if (eqb n.page p)) collected sorted same in
    let b = ap (λ (xs : List SweepNote). many-at (λ (n : SweepNote). n.page) p xs) are.told in
    let d = sum_by-IsPermutation (λ (n : SweepNote). one_if (eqb n.page p)) (map note are.made) (reverse (map note are.made)) (IsPermutation-reverse (map note are.made)) in
    let f = many-map (λ (n : SweepNote). n.page) note p are.made in
    let g = few-at (λ (x : Made). x.sweep.page) p are.made apart in
    omega arith) in
    let order = rising (λ (n : SweepNote). n.page) sorted (at-most (λ (n : SweepNote). n.page) sorted up) few in
    record {
      from = λ n h. (
          let there : In n (reverse sorted) = rw notes at h in
          let old : In n (reverse (map note are.made)) = subst (λ (xs : List SweepNote). In n xs) are.told (from-permutation collected sorted n same (from-reverse n sorted there)) in
          let at = from-map note are.made n (from-reverse n (map note are.made) old) in
          let log : In at.0.sweep (sweepings (e.logs at.0.worker)) = rw (logs_are at.0.worker) (own at.0 at.1) in
          (at.0.worker, at.0.sweep, log, subst (λ (m : SweepNote). TellsOf e.cycle at.0.sweep m) at.2 (record { cycle = sym cycle; page = refl; kept = refl; freed = refl })));
      each = λ w s h. (
          let there : In s (made_by w are.made) = rw (are.each w) (rw (logs_are w) at h) in
          let at = from-made w are.made s there in
          let old : In (note at.0) collected = rw are.told (in-reverse (note at.0) (map note are.made) (in-map note are.made at.0 at.1)) in
          let new : In (note at.0) (reverse sorted) = in-reverse (note at.0) sorted (from-permutation sorted collected (note at.0) (IsPermutation-sym collected sorted same) old) in
          (note at.0, rw notes new, record { cycle = sym cycle; page = ap (λ (t : Sweeping). t.page) at.2; kept = ap (λ (t : Sweeping). t.kept) at.2; freed = ap (λ (t : Sweeping). t.freed) at.2 }));
      order = rw notes (apart-reverse (λ (a b : SweepNote). a.page < b.page) sorted order);
    }
