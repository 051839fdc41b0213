use Rattle.std.proofs.Common.{◌<◌, sym, ap, subst, ◌∙◌}
use Rattle.sweep_laws.specs.Reading.{is_swept_set}
use Rattle.span_laws.specs.Logs.{is_look}
use Rattle.worker_log.specs.Entries.{many}
use Rattle.span_laws.specs.Views.{Seen}
use Rattle.span_table.proofs.shared.Shared.look_cell.Goals as goal

pub returns-then-index-self-clause-filled : goal.returns-then-index-self-clause-filled
returns-then-index-self-clause-filled c = λ u h t m l.
    c.look_beyond.ensures.view.1 (ap (λ (k : Seen). is_swept_set k.view.generation c.args.set) c.w.view_is ∙ u) h t (subst (λ (k : Seen). 0 < many (is_look c.args.set h t) k.view.own.log) (sym c.w.view_is) m) l

pub returns-clause-filled : goal.returns-clause-filled
returns-clause-filled c = λ u h t m l.
    c.look_inside.ensures.view.1.1 (ap (λ (k : Seen). is_swept_set k.view.generation c.args.set) c.w.view_is ∙ u) h t (subst (λ (k : Seen). 0 < many (is_look c.args.set h t) k.view.own.log) (sym c.w.view_is) m) l
