-- How the answers grow by an object.
use Rattle.std.proofs.Common.{◌≡◌, ℕ, zero, suc, ◌+◌, ◌<◌, ◌↔◌, List, [], ◌∷◌, ◌++◌, length, Some, refl, sym, ◌∙◌, ap, subst, arith, ◌⊎◌, inl, inr}
use Rattle.std.specs.List.{slice_get}
use Rattle.std.proofs.lemmas.Bool.{cases_lt}
use Rattle.std.proofs.lemmas.List.{length_push}
use Rattle.trace_reader.specs.declared.trace.Event.{Event}
use Rattle.trace_reader.specs.declared.trace.Trace.{Trace}
use Rattle.trace_reader.specs.Limits.{events_of}
use Rattle.cycle_history.specs.declared.Answer.{Answer}
use Rattle.cycle_history.specs.declared.Answer.TheVariants.{Zero}
use Rattle.bench.specs.Filled.{AreFilled}

get-front : (xs ys : List Answer) (n : ℕ) (x : Answer) → slice_get xs n ≡ Some x → slice_get (xs ++ ys) n ≡ Some x
get-front [] ys n x h = cc
get-front (y ∷ xs) ys zero x h = h
get-front (y ∷ xs) ys (suc n) x h = get-front xs ys n x h

get-last : (xs : List Answer) (x : Answer) → slice_get (xs ++ x ∷ []) (length xs) ≡ Some x
get-last [] x = refl
get-last (y ∷ xs) x = get-last xs x

from-last : (xs : List Answer) (y x : Answer) (n : ℕ) → slice_get (xs ++ y ∷ []) n ≡ Some x → (slice_get xs n ≡ Some x) ⊎ ((n ≡ length xs) × (y ≡ x))
from-last [] y x zero h = inr (refl, cc)
from-last [] y x (suc n) h = cc
from-last (z ∷ xs) y x zero h = inl h
from-last (z ∷ xs) y x (suc n) h = elim (from-last xs y x n h) [ inl old ↦ inl old | inr new ↦ inr (ap suc new.0, new.1) ]

pub filled-none : (t : Trace) (answers : List Answer) → length answers ≡ 0 → AreFilled t 0 answers
filled-none t answers none = record { all = none; zeros = λ i event at lt. absurd (omega arith) }

pub filled-more : (t : Trace) (old new : List Answer) (n : ℕ) (e : Event) (a : Answer) → AreFilled t n old → slice_get (events_of t) n ≡ Some e
    → new ≡ old ++ a ∷ [] → ((a ≡ Zero) ↔ (e.size ≡ 0)) → AreFilled t (n + 1) new
filled-more t old new n e a filled at is empty =
    let all = filled.all in
    let size = ap (λ (xs : List Answer). length xs) is ∙ length_push old a in
    let last : slice_get new n ≡ Some a = ap (λ (xs : List Answer). slice_get xs n) is ∙ subst (λ (k : ℕ). slice_get (old ++ a ∷ []) k ≡ Some a) all (get-last old a) in
    let front : (i : ℕ) (x : Answer) → slice_get old i ≡ Some x → slice_get new i ≡ Some x = λ i x h. ap (λ (xs : List Answer). slice_get xs i) is ∙ get-front old (a ∷ []) i x h in
    let back : (i : ℕ) (x : Answer) → slice_get new i ≡ Some x → (slice_get old i ≡ Some x) ⊎ ((i ≡ length old) × (a ≡ x)) =
    λ i x h. from-last old a x i (sym (ap (λ (xs : List Answer). slice_get xs i) is) ∙ h) in
    record {
      all = omega arith;
      zeros = λ i event h lt. elim (cases_lt i n) [
        | inl less ↦ (
            let z = filled.zeros i event h less in (
              (λ x. elim (back i Zero x) [ inl x' ↦ z.0 x' | inr new' ↦ (let y = new'.0 in absurd (omega arith)) ]),
              (λ x. front i Zero (z.1 x)),
            ))
        | inr more ↦ (
            let here : n ≡ i = omega arith in
            let h' : slice_get (events_of t) n ≡ Some event = ap (λ (k : ℕ). slice_get (events_of t) k) here ∙ h in
            let same : e ≡ event = cc in
            let size' : e.size ≡ event.size = ap (λ (x : Event). x.size) same in (
              (λ x. (let x' : slice_get new n ≡ Some Zero = ap (λ (k : ℕ). slice_get new k) here ∙ x in let z : a ≡ Zero = cc in sym size' ∙ empty.0 z)),
              (λ x. (let z : a ≡ Zero = empty.1 (size' ∙ x) in ap (λ (k : ℕ). slice_get new k) (sym here) ∙ last ∙ ap Some z)),
            ))
      ];
    }
