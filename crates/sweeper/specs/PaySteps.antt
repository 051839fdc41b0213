-- What is done to sweep as many pages as an allocation has to pay for.
use Rattle.std.specs.Prelude.{◌≡◌, ℕ, ◌^◌, ◌<◌, ◌≤◌, [], Option, Some, None, Result, Ok, Err}
use Rattle.fallible_list.specs.declared.list.NoMemory.{NoMemory}
use Rattle.worker_log.specs.Entries.{is_pop, is_seen_empty, many}
use Rattle.span_laws.specs.declared.said.Said.TheVariants.{Reads}
use Rattle.span_laws.specs.OwnSteps.{after_said}
use Rattle.span_set.specs.declared.hand.Hand.{Hand}
use Rattle.sweeper.specs.Entries.{is_read}
use Rattle.sweeper.specs.Work.{IsPlain, HandSweeps}
use Rattle.sweeper.specs.Tries.{SawSome}

-- spans of one set were swept
pub record SweepsSome (set tries : ℕ) (old new : Hand) : Type 0 where
  pub works : HandSweeps [] (λ said. IsPlain said × (tries ≤ many (is_pop set) said)) old new
  pub few : tries ≤ 2 ^ 32

-- so many swept pages were read, and nothing else done; they reach the target, or they don't
abbrev pub ReadsSwept : ℕ → Hand → Hand → Option ℕ → Type 0
ReadsSwept target old new (Some seen) = (target ≤ seen) × (seen < 2 ^ 64) × (new ≡ record old { worker = after_said (Reads 2 seen) old.worker })
ReadsSwept target old new None = (seen : ℕ) × (seen < target) × (new ≡ record old { worker = after_said (Reads 2 seen) old.worker })

-- spans of one set were swept until the swept pages reached the target, or the set was seen empty; or memory ran out
abbrev pub SweepsSet : ℕ → ℕ → Hand → Hand → Result (Option ℕ) NoMemory → Type 0
SweepsSet set target old new (Ok (Some seen)) = (target ≤ seen) × (seen < 2 ^ 64) × HandSweeps [] (λ said. IsPlain said × (0 < many (is_read 2 seen) said)) old new
SweepsSet set target old new (Ok None) = HandSweeps [] (λ said. IsPlain said × (0 < many (is_seen_empty set) said)) old new
SweepsSet set target old new (Err none) = HandSweeps [] IsPlain old new

-- the same through all unswept sets, of which the first n are done
abbrev pub SweepsUntil : ℕ → ℕ → Hand → Hand → Result (Option ℕ) NoMemory → Type 0
SweepsUntil n target old new (Ok (Some seen)) = (target ≤ seen) × (seen < 2 ^ 64) × HandSweeps [] (λ said. IsPlain said × (0 < many (is_read 2 seen) said)) old new
SweepsUntil n target old new (Ok None) = HandSweeps [] (λ said. IsPlain said × SawSome old.worker.view.generation n said) old new
SweepsUntil n target old new (Err none) = HandSweeps [] IsPlain old new
