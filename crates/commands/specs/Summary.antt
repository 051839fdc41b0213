-- What the command `demo` writes of a trace and its report.
use Rattle.std.specs.Prelude.{ℕ, ◌==◌, if◌then◌else◌, List, [], ◌∷◌, ◌++◌, length, codes, decimal}
use Rattle.std.specs.List.{sum_by}
use Rattle.edge_io.specs.Text.{text}
use Rattle.trace_reader.specs.declared.trace.Cycle.{Cycle}
use Rattle.trace_reader.specs.declared.trace.Trace.{Trace}
use Rattle.cycle_history.specs.declared.Answer.{Answer}
use Rattle.cycle_history.specs.declared.Answer.TheVariants.{Placed, Zero, Missed}
use Rattle.cycle_history.specs.declared.Prof.{Prof}
use Rattle.cycle_history.specs.declared.Report.{Report}
use Rattle.cycle_history.specs.declared.Total.{Total}
use Rattle.cycle_history.specs.Requests.{last_cycle}

-- the objects of a cycle
abbrev pub objects_asked : Cycle → ℕ
objects_asked c = length c.events

-- 1 for a placed object, and 1 for a refused one
abbrev pub one_placed : Answer → ℕ
one_placed (Placed address) = 1
one_placed Zero = 0
one_placed (Missed line) = 0

abbrev pub one_refused : Answer → ℕ
one_refused (Placed address) = 0
one_refused Zero = 0
one_refused (Missed line) = 1

-- the numbers of a total
abbrev pub mallocs_of : Total → ℕ
mallocs_of total = total.mallocs

abbrev pub frees_of : Total → ℕ
frees_of total = total.frees

-- the sampled objects that a line tells of, and those of them that died, if it is as of this mark end
abbrev pub sampled_at : ℕ → Prof → ℕ
sampled_at mark line = if line.mark == mark then line.allocs else 0

abbrev pub dead_at : ℕ → Prof → ℕ
dead_at mark line = if line.mark == mark then line.frees else 0

-- a name and a number
abbrev pub counted : List ℕ → ℕ → List ℕ
counted name number = name ++ decimal number

-- The eight lines: how many objects the trace has, how many of them were placed and refused, the mark ends, the sums over the
-- totals, those over the profile as of the last mark end, and that the report is sound.
abbrev pub summary_lines : Trace → Report → List (List ℕ)
summary_lines t report =
    counted (codes "objects ") (sum_by objects_asked t.cycles)
    ∷ counted (codes "placed ") (sum_by one_placed report.answers)
    ∷ counted (codes "refused ") (sum_by one_refused report.answers)
    ∷ counted (codes "mark ends ") (last_cycle t)
    ∷ counted (codes "mallocs ") (sum_by mallocs_of report.totals)
    ∷ counted (codes "frees ") (sum_by frees_of report.totals)
    ∷ (counted (codes "sampled ") (sum_by (sampled_at (last_cycle t)) report.profile) ++ counted (codes " ") (sum_by (dead_at (last_cycle t)) report.profile))
    ∷ codes "check ok"
    ∷ []

-- Their text.
unfoldable pub summary_text : Trace → Report → List ℕ
summary_text t report = text (summary_lines t report)
