use Rattle.std.proofs.Common.{[], ◌∷◌}
use Rattle.trace_reader.specs.declared.statement.Statement.TheVariants.{Title}
use Rattle.trace_reader.proofs.Reading.{header_takes, result_told}
use Rattle.trace_reader.proofs.reader.read_header.Goals as goal

pub returns-clause-lines : goal.returns-clause-lines
returns-clause-lines g c = header_takes g.S.Source.left c.args.lines.now c.read_line.new.lines c.line.result.now c.header_of.result c.in_ok-read_line.ensures.line c.read_line.ensures.number c.line.ensures c.header_of.ensures.says

pub returns-clause-refused : goal.returns-clause-refused
returns-clause-refused g c =
    result_told g.S.Source.left c.args.lines.now c.read_line.new.lines c.line.result.now c.number.result (Title c.args.version ∷ []) c.header_of.result c.in_ok-read_line.ensures.line c.in_ok-read_line.ensures.is_line
    c.read_line.ensures.number c.line.ensures c.number.ensures c.header_of.ensures.fault
