use Rattle.std.proofs.Common.{◌≡◌, ℕ, ◌+◌, ◌==◌, false, not, sym, ap, subst, ◌∙◌, arith}
use Rattle.std.proofs.lemmas.Bool.{eqb-true}
use Rattle.std.specs.Option.{is_some}
use Rattle.sweep_laws.specs.State.{CoreState}
use Rattle.sweep_laws.specs.Reading.{is_swept_set, set_of}
use Rattle.sweep_laws.specs.NeedsOfMarkEnd.{unpopped_set}
use Rattle.sweep_generation.specs.Kept.{core_view}
use Rattle.sweep_generation.proofs.Counted.{none_left, none_apart}
use Rattle.sweep_generation.proofs.state.Core.all_popped.Goals as goal

pub returns-clause-none : goal.returns-clause-none
returns-clause-none c =
    ap (λ (n : ℕ). n == 0) c.self.invariant.unpopped
    ∙ none_left c.self.inside.generation 0 (core_view c.self.inside).sets
    ∙ ap (λ (s : CoreState). not (is_some (unpopped_set s))) c.self.view_is

pub returns-clause-apart : goal.returns-clause-apart
returns-clause-apart c = λ popped.
    let none = sym c.self.invariant.unpopped ∙ eqb-true c.self.inside.unpopped 0 popped in
    subst (λ (s : CoreState). (k : ℕ) → is_swept_set s.generation k ≡ false → (set_of s k).head ≡ (set_of s k).tail) c.self.view_is
    (λ k unswept. let at : k ≡ 0 + k = omega arith in none_apart c.self.inside.generation 0 k k (core_view c.self.inside).sets at none unswept)
