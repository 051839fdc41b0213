-- One object, one mark or one cycle more.
use Rattle.std.proofs.Common.{◌≡◌, ℕ, ◌+◌, ◌*◌, List, [], ◌∷◌, ◌++◌, map, refl, sym, ap, ◌∙◌, add-one, arith}
use Rattle.std.specs.List.{range_with_len}
use Rattle.std.proofs.lemmas.List.FromFn.{map-range_with_len_more}
use Rattle.rand_pcg.specs.Lcg.{Lcg}
use Rattle.trace_reader.specs.declared.trace.Cycle.{Cycle}
use Rattle.trace_reader.specs.declared.trace.Event.{Event}
use Rattle.trace_reader.specs.declared.span.Span.{Span}
use Rattle.trace_gen.specs.Made.{event_by, events_from, generator_at, groups_from, made_cycle, next_object}

pub generator_next : (g : Lcg) (n m : ℕ) → n + 1 ≡ m → generator_at g m ≡ next_object (generator_at g n)
unfolding generator_at
generator_next g n m at = ap (generator_at g) (sym at ∙ add-one n)

pub generator_start : (g : Lcg) (n : ℕ) → n ≡ 0 → generator_at g n ≡ g
unfolding generator_at
generator_start g n is = ap (generator_at g) is

pub events_none : (g : Lcg) (first n : ℕ) → n ≡ 0 → events_from g first n ≡ []
unfolding events_from
events_none g first n is = ap (events_from g first) is

pub events_more : (g h : Lcg) (first n j : ℕ) (xs : List Event) (e : Event) → first + n ≡ j → xs ≡ events_from g first n → h ≡ generator_at g j → e ≡ event_by j h
    → xs ++ e ∷ [] ≡ events_from g first (n + 1)
unfolding events_from
events_more g h first n j xs e at are is_generator is =
    ap (λ ys. ys ++ e ∷ []) are ∙ ap (λ x. events_from g first n ++ x ∷ []) (is ∙ ap (event_by j) is_generator) ∙ sym (map-range_with_len_more _ first n j at)

pub groups_none : (first n : ℕ) → n ≡ 0 → groups_from first n ≡ []
unfolding groups_from
groups_none first n is = ap (groups_from first) is

pub groups_more : (first n j : ℕ) (xs : List Span) → first + n ≡ j → xs ≡ groups_from first n → xs ++ record { lo = 8 * j; hi = 8 * j + 3 } ∷ [] ≡ groups_from first (n + 1)
unfolding groups_from
groups_more first n j xs at are = ap (λ ys. ys ++ record { lo = 8 * j; hi = 8 * j + 3 } ∷ []) are ∙ sym (map-range_with_len_more _ first n j at)

pub cycles_more : (g : Lcg) (n : ℕ) (xs : List Cycle) (c : Cycle) → xs ≡ map (made_cycle g) (range_with_len 0 n) → c ≡ made_cycle g n
    → xs ++ c ∷ [] ≡ map (made_cycle g) (range_with_len 0 (n + 1))
cycles_more g n xs c are is =
    ap (λ ys. ys ++ c ∷ []) are ∙ ap (λ x. map (made_cycle g) (range_with_len 0 n) ++ x ∷ []) is ∙ sym (map-range_with_len_more _ 0 n n (omega arith))

abbrev pub first_marks : Span
first_marks = record { lo = 0; hi = 999 }

pub marks_start : (a : ℕ) (xs ys : List Span) → xs ≡ [] → ys ≡ xs ++ first_marks ∷ [] → ys ≡ first_marks ∷ groups_from a 0
marks_start a xs ys none is = is ∙ ap (λ zs. zs ++ first_marks ∷ []) none ∙ ap (λ zs. first_marks ∷ zs) (sym (groups_none a 0 refl))

pub marks_more : (a n lo : ℕ) (xs ys : List Span) → lo ≡ 8 * (a + n) → xs ≡ first_marks ∷ groups_from a n → ys ≡ xs ++ record { lo = lo; hi = lo + 3 } ∷ []
    → ys ≡ first_marks ∷ groups_from a (n + 1)
marks_more a n lo xs ys at are is =
    is ∙ ap (λ zs. zs ++ record { lo = lo; hi = lo + 3 } ∷ []) are
    ∙ ap (λ k. (first_marks ∷ groups_from a n) ++ record { lo = k; hi = k + 3 } ∷ []) at
    ∙ ap (λ zs. first_marks ∷ zs) (groups_more a n (a + n) (groups_from a n) refl refl)
