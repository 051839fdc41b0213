-- The lines behind the header, while they are read.
use Rattle.std.proofs.Common.{◌≡◌, ℕ, ◌<◌, List, [], ◌∷◌, ◌++◌, length-append, Option, Some, None, MatchOption, refl, sym, ap, ◌∙◌, subst, arith}
use Rattle.std.specs.List.{AllByRecursion}
use Rattle.edge_io.specs.declared.lines.Lines.{Lines}
use Rattle.edge_io.specs.Line.{IsLine}
use Rattle.edge_io.specs.Reading.{line_of, number_of, room_of}
use Rattle.trace_reader.specs.declared.draft.Draft.{Draft}
use Rattle.trace_reader.specs.declared.fault.TraceFault.{TraceFault}
use Rattle.trace_reader.specs.declared.fault.TraceFault.TheVariants.{ReadFault, Malformed, Truncated, Limit, BadMark, NoMemory}
use Rattle.trace_reader.specs.declared.statement.Statement.{Statement}
use Rattle.trace_reader.specs.declared.statement.Statement.TheVariants.{Title, Heap, End}
use Rattle.trace_reader.specs.Spelling.{line_for}
use Rattle.trace_reader.specs.Says.{said}
use Rattle.trace_reader.specs.Refusal.{next_number, said_fault}
use Rattle.trace_reader.specs.Good.{AreGood}
use Rattle.trace_reader.specs.Taken.{StandsInLine, Takes, TakesLines}
use Rattle.trace_reader.specs.Told.{IsOfTrace, TellsFault}
use Rattle.trace_reader.specs.Draft.{HasEnd, told_of}
use Rattle.trace_reader.specs.Follows.{Follows, IsStart, Took}
use Rattle.trace_reader.proofs.Saying.{Says-said}
use Rattle.trace_reader.proofs.Judging.{onto}
use Rattle.trace_reader.proofs.Reading.{TakesLines-nil, TakesLines-trans, stands_behind, takes_line, tells_behind, tells_memory, tells_said}
use Rattle.trace_reader.proofs.Good.{lines_of_good}
use Rattle.trace_reader.proofs.Cycles.{good_append, onto-append}

-- the draft has what was read from one place to another
pub record HasRead {S : Type 0} (left : S → Option (List ℕ)) (a b : Lines S) (procs : ℕ) (d : Draft) : Type 0 where
  pub lines : TakesLines left a b (told_of d)
  pub good : (past : List Statement) → IsStart past procs → AreGood past (told_of d)
  pub follows : (past : List Statement) → IsStart past procs → Follows (onto (told_of d) past) d

pub read_nothing : {S : Type 0} (left : S → Option (List ℕ)) (a : Lines S) (procs : ℕ) (d : Draft) → told_of d ≡ [] → ((past : List Statement) → IsStart past procs → Follows past d) → HasRead left a a procs d
read_nothing left a procs d none follows = record {
  lines = subst (TakesLines left a a) (sym none) (TakesLines-nil left a);
  good = λ past start. subst (AreGood past) (sym none) tt;
  follows = λ past start. subst (λ (ss : List Statement). Follows (onto ss past) d) (sym none) (follows past start);
}

the_statement : (P : Statement → Type 0) (o : Option Statement) → MatchOption o ⊥ P → (s : Statement) × (o ≡ Some s) × P s
the_statement P None none = absurd none
the_statement P (Some s) here = (s, refl, here)

pub read_more : {S : Type 0} (left : S → Option (List ℕ)) (a b c : Lines S) (procs : ℕ) (d e : Draft) (shown : List ℕ) (o : Option Statement) → HasRead left a b procs d → Takes left b c (line_of c ++ 10 ∷ [])
    → IsLine (line_of c) → number_of c ≡ next_number (number_of b) → shown ≡ line_of c → o ≡ said shown → MatchOption o ⊥ (λ s. Took d e s) → HasRead left a c procs e
read_more left a b c procs d e shown o read takes is_line counted same is took =
    let at = the_statement (λ s. Took d e s) o took in
    let s = at.0 in
    let says : said (line_of c) ≡ Some s = ap said (sym same) ∙ sym is ∙ at.1 in
    let form : line_of c ≡ line_for s = (Says-said (line_of c) s says).0 in
    let told = at.2.told in
    record {
      lines = subst (TakesLines left a c) (sym told) (TakesLines-trans left a b c (told_of d) (s ∷ []) read.lines (takes_line left b c (line_of c) s takes counted says));
      good = λ past start. subst (AreGood past) (sym told) (good_append past (told_of d) (s ∷ []) (read.good past start) (
        record { is_line = subst IsLine form is_line; says = ap said (sym form) ∙ says; not_end = at.2.goes_on; no_fault = at.2.faultless (onto (told_of d) past) (read.follows past start) },
        tt,
      ));
      follows = λ past start. subst (λ (ss : List Statement). Follows ss e) (sym (ap (λ (ss : List Statement). onto ss past) told ∙ onto-append (told_of d) (s ∷ []) past)) (at.2.follows (onto (told_of d) past) (read.follows past start));
    }

-- a fault behind what was read
pub fault_on : {S : Type 0} (left : S → Option (List ℕ)) (a b c : Lines S) (procs : ℕ) (d : Draft) (past : List Statement) (fault : TraceFault) → HasRead left a b procs d → IsStart past procs
    → TellsFault left b c (onto (told_of d) past) fault → TellsFault left a c past fault
fault_on left a b c procs d past fault read start tells = tells_behind left a b c past (told_of d) fault read.lines (read.good past start) tells

-- the fault of the line behind what was read, which is no read fault
pub fault_told : {S : Type 0} (left : S → Option (List ℕ)) (a b c : Lines S) (procs : ℕ) (d : Draft) (shown : List ℕ) (number : ℕ) (o : Option Statement) (past : List Statement) (fault : TraceFault) → HasRead left a b procs d → IsStart past procs
    → Takes left b c (line_of c ++ 10 ∷ []) → IsLine (line_of c) → number_of c ≡ next_number (number_of b) → shown ≡ line_of c → o ≡ said shown → number ≡ number_of c → (fault ≡ ReadFault → ⊥)
    → (IsOfTrace fault → (past : List Statement) → Follows past d → said_fault number past o ≡ Some fault) → TellsFault left a c past fault
fault_told left a b c procs d shown number o past fault read start takes is_line counted same is same_number no_read says =
    fault_on left a b c procs d past fault read start (tells fault no_read (λ of. says of (onto (told_of d) past) (read.follows past start))) where
      said_here : (fault : TraceFault) → said_fault number (onto (told_of d) past) o ≡ Some fault → TellsFault left b c (onto (told_of d) past) fault
      said_here fault e = tells_said left b c shown number (onto (told_of d) past) fault takes is_line counted same same_number (ap (λ (o : Option Statement). said_fault number (onto (told_of d) past) o) (sym is) ∙ e)

      tells : (fault : TraceFault) → (fault ≡ ReadFault → ⊥) → (IsOfTrace fault → said_fault number (onto (told_of d) past) o ≡ Some fault) → TellsFault left b c (onto (told_of d) past) fault
      tells ReadFault no_read says = absurd (no_read refl)
      tells (Malformed line) no_read says = said_here (Malformed line) (says tt)
      tells (Truncated line) no_read says = said_here (Truncated line) (says tt)
      tells (Limit line which) no_read says = said_here (Limit line which) (says tt)
      tells (BadMark line object) no_read says = said_here (BadMark line object) (says tt)
      tells NoMemory no_read says = tells_memory left b c (onto (told_of d) past)

-- lines up to a header with so many processors
header : ℕ → List Statement
header procs = Heap (record { chunks = 0; procs = procs; rate = 0; seed = 0; goal = 0 }) ∷ Title 1 ∷ []

header_starts : (procs : ℕ) → IsStart (header procs) procs
unfolding header
header_starts procs = (1, record { chunks = 0; procs = procs; rate = 0; seed = 0; goal = 0 }, refl, refl)

pub stands_on : {S : Type 0} (left : S → Option (List ℕ)) (a b c : Lines S) (procs : ℕ) (d : Draft) → HasRead left a b procs d → StandsInLine left b c → StandsInLine left a c
stands_on left a b c procs d read stands = stands_behind left a b c (told_of d) read.lines (lines_of_good (header procs) (told_of d) (read.good (header procs) (header_starts procs))) stands

pub all_ended : {S : Type 0} (left : S → Option (List ℕ)) (a b : Lines S) (procs : ℕ) (d : Draft) → HasRead left a b procs d → AllByRecursion HasEnd d.cycles
all_ended left a b procs d read = (read.follows (header procs) (header_starts procs)).0.ended

-- the last line behind what was read
pub read_last : {S : Type 0} (left : S → Option (List ℕ)) (a b c : Lines S) (procs : ℕ) (d : Draft) (shown : List ℕ) (ss : List Statement) → HasRead left a b procs d → Takes left b c (line_of c ++ 10 ∷ []) → number_of c ≡ next_number (number_of b)
    → shown ≡ line_of c → said shown ≡ Some End → ss ≡ told_of d → TakesLines left a c (ss ++ End ∷ [])
read_last left a b c procs d shown ss read takes counted same is told =
    subst (λ (ss : List Statement). TakesLines left a c (ss ++ End ∷ [])) (sym told) (TakesLines-trans left a b c (told_of d) (End ∷ []) read.lines (takes_line left b c (line_of c) End takes counted (ap said (sym same) ∙ is)))

-- each line takes from the limit
pub room_falls : {S : Type 0} (left : S → Option (List ℕ)) (b c : Lines S) → Takes left b c (line_of c ++ 10 ∷ []) → room_of c < room_of b
room_falls left b c takes = let room = takes.room in let len = length-append (line_of c) (10 ∷ []) in omega arith
