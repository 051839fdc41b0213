use Rattle.std.proofs.Common.{◌∙◌, ap, Option}
use Rattle.std.specs.Prelude.{unwrap_or}
use Rattle.std.specs.List.{prefix_len}
use Rattle.sweep_laws.specs.State.{LifeState}
use Rattle.sweep_laws.specs.Reading.{no_life}
use Rattle.sweep_generation.proofs.Runs.{is_of, none_of}
use Rattle.sweep_generation.proofs.state.Core.count_allocated.Goals as goal

pub returns-in-None : goal.returns-in-None
returns-in-None c =
    none_of c.args.page c.args.marks.now
    ∙ ap (λ (o : Option LifeState). prefix_len (is_of c.args.page (unwrap_or o no_life).allocated) c.args.marks.now) c.in-None.ensures
