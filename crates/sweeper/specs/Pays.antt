-- What is to be paid for an allocation, and what a payment did.
use Rattle.std.specs.Prelude.{◌≡◌, ℕ, ◌+◌, ◌-◌, ◌*◌, ◌/◌, ◌<◌, ◌≤◌, ◌==◌, List, [], Result, Ok, Err, if◌then◌else◌}
use Rattle.fallible_list.specs.declared.list.NoMemory.{NoMemory}
use Rattle.worker_log.specs.declared.Entry.{Entry}
use Rattle.worker_log.specs.Entries.{many}
use Rattle.span_set.specs.declared.hand.Hand.{Hand}
use Rattle.sweeper.specs.Entries.{is_read}
use Rattle.sweeper.specs.Work.{IsPlain, SawAllEmpty, HandSweeps}
use Rattle.sweeper.specs.declared.answers.Paid.{Paid}
use Rattle.sweeper.specs.declared.answers.Paid.TheVariants.{Reached, NothingLeft}

-- How many pages are to be swept in a cycle before so many bytes more are allocated: of the pages that the mark end left the part that the
-- bytes allocated since make of the distance, less the credit. In the first cycle, which follows no mark end, none are.
abbrev pub target_of : (generation pages distance spent bytes credit : ℕ) → ℕ
target_of generation pages distance spent bytes credit = if generation == 4 then 0 else pages * (bytes + spent) / distance - credit

-- the log has the bytes spent so far, from which the target is, and a number of swept pages that reaches it
pub record HasPaid (generation pages distance bytes credit seen target : ℕ) (said : List Entry) : Type 0 where
  pub spent : ℕ
  pub read_spent : 0 < many (is_read 3 spent) said
  pub target_is : target ≡ target_of generation pages distance spent bytes credit
  pub read_swept : 0 < many (is_read 2 seen) said
  pub reached : target ≤ seen

-- it swept until the swept pages reached the target, or until each unswept set was seen empty; or memory ran out, and the sweeps before stand
abbrev pub Pays : (pages distance bytes credit : ℕ) → Hand → Hand → Result Paid NoMemory → Type 0
Pays pages distance bytes credit old new (Ok (Reached seen target)) = HandSweeps [] (λ said. IsPlain said × HasPaid old.worker.view.generation pages distance bytes credit seen target said) old new
Pays pages distance bytes credit old new (Ok NothingLeft) = HandSweeps [] (λ said. IsPlain said × SawAllEmpty old.worker.view.generation said) old new
Pays pages distance bytes credit old new (Err none) = HandSweeps [] IsPlain old new
