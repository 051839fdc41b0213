use Rattle.std.proofs.Common.{ℕ, ◌∙◌, ◌++◌, List, length, sym, ap}
use Rattle.std.proofs.lemmas.Bool.{eqb-true}
use Rattle.std.proofs.lemmas.Result.{on_ok_weaker}
use Rattle.heap_run.proofs.Queued.{no-numbers}
use Rattle.heap_run.proofs.queues.number_all.Goals as goal

pub returns-then-is_empty : goal.returns-then-is_empty
returns-then-is_empty c = on_ok_weaker c.append_zeros.result (λ e. e ∙ ap (λ (l : List ℕ). c.args.numbers.now ++ l) (sym (no-numbers c.args.known.now c.args.events.now (eqb-true (length c.args.known.now) 0 (sym c.is_empty.ensures ∙ c.if-is_empty.true))))) c.append_zeros.ensures
