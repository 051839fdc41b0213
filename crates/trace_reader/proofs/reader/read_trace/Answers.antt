use Rattle.std.proofs.Common.{[], ◌∷◌, refl, subst, sym}
use Rattle.std.proofs.lemmas.Result.{err_from_is_err_and}
use Rattle.trace_reader.specs.declared.statement.Statement.TheVariants.{Title}
use Rattle.trace_reader.specs.Spelling.{heap_of}
use Rattle.trace_reader.specs.Taken.{TakesLines}
use Rattle.trace_reader.proofs.Reading.{stands_behind, tells_behind}
use Rattle.trace_reader.proofs.Good.{header_good, lines_of_good, title_good}
use Rattle.trace_reader.proofs.Fits.{reads_trace, takes_trace, trace_fits}
use Rattle.trace_reader.proofs.Complete.{never_refused, never_told, same_read}
use Rattle.trace_reader.proofs.reader.read_trace.Goals as goal

pub returns-in_err-header-clause-refused : goal.returns-in_err-header-clause-refused
returns-in_err-header-clause-refused g c =
    let p = err_from_is_err_and c.from_residual-in_err-header.result c.from_residual-in_err-header.ensures.1 in
    rw (p.1, p.2) (tells_behind g.S.Source.left c.args.lines.now c.read_title.new.lines c.read_header.new.lines [] (Title c.in_ok-version.version ∷ []) _ c.in_ok-version.ensures.lines (title_good c.in_ok-version.version c.in_ok-version.ensures.version) c.in_err-header.ensures.refused)

pub returns-in_err-header-clause-stands : goal.returns-in_err-header-clause-stands
returns-in_err-header-clause-stands g c =
    stands_behind g.S.Source.left c.args.lines.now c.read_title.new.lines c.read_header.new.lines (Title c.in_ok-version.version ∷ []) c.in_ok-version.ensures.lines (lines_of_good [] (Title c.in_ok-version.version ∷ []) (title_good _ c.in_ok-version.ensures.version)) c.read_header.ensures.stands

pub returns-in_err-cycles-clause-refused : goal.returns-in_err-cycles-clause-refused
returns-in_err-cycles-clause-refused g c =
    let h = c.in_ok-header.header in
    let good = header_good c.in_ok-version.version h c.in_ok-header.ensures.version c.in_ok-header.ensures.fits c.in_ok-header.ensures.region in
    let p = err_from_is_err_and c.from_residual-in_err-cycles.result c.from_residual-in_err-cycles.ensures.1 in
    rw (p.1, p.2) (tells_behind g.S.Source.left c.args.lines.now c.read_title.new.lines c.read_cycles.new.lines [] (Title c.in_ok-version.version ∷ []) _ c.in_ok-version.ensures.lines (title_good _ c.in_ok-version.ensures.version)
    (tells_behind g.S.Source.left c.read_title.new.lines c.read_header.new.lines c.read_cycles.new.lines (Title c.in_ok-version.version ∷ []) (heap_of h ∷ []) _ c.in_ok-header.ensures.lines good
    (c.in_err-cycles.ensures.refused (heap_of h ∷ Title c.in_ok-version.version ∷ []) (_, _, refl, refl))))

pub returns-in_err-cycles-clause-stands : goal.returns-in_err-cycles-clause-stands
returns-in_err-cycles-clause-stands g c =
    let h = c.in_ok-header.header in
    let good = header_good c.in_ok-version.version h c.in_ok-header.ensures.version c.in_ok-header.ensures.fits c.in_ok-header.ensures.region in
    stands_behind g.S.Source.left c.args.lines.now c.read_title.new.lines c.read_cycles.new.lines (Title c.in_ok-version.version ∷ []) c.in_ok-version.ensures.lines (lines_of_good [] (Title c.in_ok-version.version ∷ []) (title_good _ c.in_ok-version.ensures.version))
    (stands_behind g.S.Source.left c.read_title.new.lines c.read_header.new.lines c.read_cycles.new.lines (heap_of h ∷ []) c.in_ok-header.ensures.lines (lines_of_good (Title c.in_ok-version.version ∷ []) (heap_of h ∷ []) good) c.read_cycles.ensures.stands)

pub returns-clause-stands : goal.returns-clause-stands
returns-clause-stands g c =
    let h = c.in_ok-header.header in
    let good = header_good c.in_ok-version.version h c.in_ok-header.ensures.version c.in_ok-header.ensures.fits c.in_ok-header.ensures.region in
    stands_behind g.S.Source.left c.args.lines.now c.read_title.new.lines c.read_cycles.new.lines (Title c.in_ok-version.version ∷ []) c.in_ok-version.ensures.lines (lines_of_good [] (Title c.in_ok-version.version ∷ []) (title_good _ c.in_ok-version.ensures.version))
    (stands_behind g.S.Source.left c.read_title.new.lines c.read_header.new.lines c.read_cycles.new.lines (heap_of h ∷ []) c.in_ok-header.ensures.lines (lines_of_good (Title c.in_ok-version.version ∷ []) (heap_of h ∷ []) good) c.read_cycles.ensures.stands)

pub returns-clause-lines : goal.returns-clause-lines
returns-clause-lines g c =
    takes_trace g.S.Source.left c.args.lines.now c.read_title.new.lines c.read_header.new.lines c.read_cycles.new.lines c.in_ok-header.header c.in_ok-cycles.cycles
    (subst (λ v. TakesLines g.S.Source.left c.args.lines.now c.read_title.new.lines (Title v ∷ [])) (sym c.in_ok-header.ensures.version) c.in_ok-version.ensures.lines)
    c.in_ok-header.ensures.lines c.in_ok-cycles.ensures.lines

pub returns-clause-spelled : goal.returns-clause-spelled
returns-clause-spelled g c =
    let h = c.in_ok-header.header in
    let cs = c.in_ok-cycles.cycles in
    let limits = trace_fits h cs c.in_ok-header.ensures.fits c.in_ok-header.ensures.region c.in_ok-cycles.ensures.ended (c.in_ok-cycles.ensures.good (heap_of h ∷ Title h.version ∷ []) (_, _, refl, refl)) in
    reads_trace g.S.Source.left c.args.lines.now c.read_cycles.new.lines h cs (returns-clause-lines g c) limits

pub returns-in_err-version-clause-complete : goal.returns-in_err-version-clause-complete
returns-in_err-version-clause-complete g c = λ trace ahead.
    let p = err_from_is_err_and c.from_residual.result c.from_residual.ensures.1 in
    rw (p.1, p.2) (λ of. never_told g.S.Source.left c.args.lines.now _ trace (c.in_err-version.ensures.refused.first of) ahead)

pub returns-in_err-header-clause-complete : goal.returns-in_err-header-clause-complete
returns-in_err-header-clause-complete g c = λ trace ahead.
    let p = err_from_is_err_and c.from_residual-in_err-header.result c.from_residual-in_err-header.ensures.1 in
    never_refused g.S.Source.left c.args.lines.now c.read_header.new.lines c.from_residual-in_err-header.result p.0 p.1 (returns-in_err-header-clause-refused g c) _ trace ahead

pub returns-in_err-cycles-clause-complete : goal.returns-in_err-cycles-clause-complete
returns-in_err-cycles-clause-complete g c = λ trace ahead.
    let p = err_from_is_err_and c.from_residual-in_err-cycles.result c.from_residual-in_err-cycles.ensures.1 in
    never_refused g.S.Source.left c.args.lines.now c.read_cycles.new.lines c.from_residual-in_err-cycles.result p.0 p.1 (returns-in_err-cycles-clause-refused g c) _ trace ahead

pub returns-clause-complete : goal.returns-clause-complete
returns-clause-complete g c = λ trace ahead. same_read g.S.Source.left c.args.lines.now c.read_cycles.new.lines _ trace (returns-clause-spelled g c) ahead
