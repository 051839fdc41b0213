use Rattle.std.proofs.Common.{◌≡◌, sym, codes, rules}
use Rattle.trace_reader.specs.declared.statement.Statement.TheVariants.{Title, Heap, Gc, Mark, End}
use Rattle.trace_reader.proofs.Saying.{said_is, says_nothing, not_text}
use Rattle.trace_reader.proofs.statement.other_statement.Goals as goal

pub returns-then-eq : goal.returns-then-eq
returns-then-eq c =
    let end : c.args.line.now ≡ codes "end" = search rules in
    sym (said_is _ End (end, tt))

pub returns-in-Some : goal.returns-in-Some
returns-in-Some c = sym (said_is _ (Gc c.in-Some.distance) c.in-Some.ensures)

pub returns-in-Some-mark_form : goal.returns-in-Some-mark_form
returns-in-Some-mark_form c = sym (said_is _ (Mark c.in-Some-mark_form.lo c.in-Some-mark_form.hi) c.in-Some-mark_form.ensures)

pub returns-in-Some-heap_form : goal.returns-in-Some-heap_form
returns-in-Some-heap_form c = sym (said_is _ (Heap c.in-Some-heap_form.form) c.in-Some-heap_form.ensures)

pub returns-in-Some-title_form : goal.returns-in-Some-title_form
returns-in-Some-title_form c = sym (said_is _ (Title c.in-Some-title_form.version) c.in-Some-title_form.ensures)

pub returns : goal.returns
returns c =
    sym (says_nothing _ c.requires (not_text _ _ _ c.if-eq.ensures (search rules)) c.in_default.ensures c.in_default-mark_form.ensures c.in_default-heap_form.ensures c.in_default-title_form.ensures)
