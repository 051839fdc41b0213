-- What a run leaves, by its trace's version.
use Rattle.std.specs.Prelude.{ℕ, ◌<◌, ◌≤◌, List}
use Rattle.trace_reader.specs.declared.trace.Trace.{Trace}
use Rattle.cycle_history.specs.declared.Report.{Report}
use Rattle.cycle_history.specs.declared.versions.TheConstants.{TINY_VERSION}
use Rattle.profile_readers.specs.declared.viewer.Sight.{Sight}
use Rattle.tiny_alloc.specs.declared.base.Based.{Based}
use Rattle.tiny_alloc.specs.Base.{IsBase}
use Rattle.tiny_alloc.specs.Sound.{based_report}
use Rattle.heap_run.specs.Last.{IsLeft}
use Rattle.heap_run.specs.Watched.{IsWatched}
use Rattle.heap_run.specs.declared.run.Ran.{Ran}

-- What a run leaves is as its report says: where tiny objects ride, as that of the base says.
pub record IsLeftByVersion (t : Trace) (ran : Ran) : Type 0 where
  pub plain : t.header.version < TINY_VERSION → IsLeft t ran
  pub tiny : TINY_VERSION ≤ t.header.version → (based : Based) × IsBase t ran.report.answers based × IsLeft based.trace (record ran { report = based_report ran.report based })

-- So many watchers saw the profile of the run: where tiny objects ride, that of the base.
pub record IsWatchedByVersion (t : Trace) (readers : ℕ) (report : Report) (seen : List (List Sight)) : Type 0 where
  pub plain : t.header.version < TINY_VERSION → IsWatched t readers report seen
  pub tiny : TINY_VERSION ≤ t.header.version → (based : Based) × IsBase t report.answers based × IsWatched based.trace readers (based_report report based) seen
