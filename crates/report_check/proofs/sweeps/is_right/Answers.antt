use Rattle.std.proofs.Common.{List, Option, None, get_or, sym, ◌∙◌, ap, arith}
use Rattle.report_check.specs.declared.lives.OpenLife.{OpenLife}
use Rattle.report_check.specs.declared.ledger.Tally.{Tally}
use Rattle.report_check.specs.Tallies.{freed_in, kept_in, tally_at}
use Rattle.report_check.proofs.Righting.{right-match}
use Rattle.report_check.proofs.sweeps.is_right.Goals as goal

pub returns-else-note-gt0 : goal.returns-else-note-gt0
returns-else-note-gt0 c =
    let entry = c.life_at.ensures ∙ ap (λ (ls : List (Option OpenLife)). get_or ls c.args.note.page None) c.deref.ensures.value in
    let here = sym entry ∙ c.in-Some.is in
    let tally = c.tally_of-tally.ensures ∙ ap (λ (ts : List Tally). tally_at ts c.in-Some.life.number) c.deref-in-Some.ensures.value in
    let kept = sym c.from.ensures ∙ c.if-from-kept_of.false ∙ (c.kept_of.ensures ∙ ap (λ (t : Tally). kept_in t c.args.note.cycle) tally) in
    let freed = sym c.from-in-Some.ensures ∙ c.if-from-freed_of.false ∙ (c.freed_of.ensures ∙ ap (λ (t : Tally). freed_in t c.args.note.cycle) tally) in
    right-match c.args.ledger.now c.args.note c.in-Some.life c.is_settled.result here kept freed (omega arith) c.is_settled.ensures
