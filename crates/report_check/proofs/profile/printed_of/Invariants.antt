use Rattle.report_check.proofs.Showing.{ArePlacesTo}
use Rattle.report_check.proofs.profile.printed_of.Given as goal

-- the places of the lines so far
abbrev pub invariant-loop-line : goal.invariant-loop-line
invariant-loop-line l = ArePlacesTo l.lines l.line-index l.places.items
