use Rattle.std.proofs.Common.{◌∙◌, List, ℕ, not, take, ap}
use Rattle.std.specs.List.{find}
use Rattle.sweep_laws.specs.Reading.{is_settled}
use Rattle.sweep_laws.specs.NeedsOfMarkEnd.{unsettled_word}
use Rattle.sweep_generation.proofs.Zeros.{used_alone}
use Rattle.sweep_generation.proofs.state.Core.unsettled_word.Goals as goal

pub returns : goal.returns
returns c =
    c.find_unsettled.ensures
    ∙ ap (λ (xs : List ℕ). find (λ word. not (is_settled c.self.inside.generation word)) (take c.end-used.result xs)) c.as_slice.ensures
    ∙ used_alone c.self.inside.generation c.self.inside.words c.end-used.result c.end-used.ensures.zero
    ∙ ap unsettled_word c.self.view_is
