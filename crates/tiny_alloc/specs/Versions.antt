-- Sound reports by the version of their trace: with tiny objects from one version on.
use Rattle.std.specs.Prelude.{◌<◌, ◌≤◌, Bool, List}
use Rattle.trace_reader.specs.declared.trace.Trace.{Trace}
use Rattle.cycle_history.specs.declared.Report.{Report}
use Rattle.cycle_history.specs.declared.versions.TheConstants.{TINY_VERSION}
use Rattle.cycle_history.specs.Objects.{Object}
use Rattle.cycle_history.specs.Sound.{IsSoundAndUsed, IsUsed, HasForm}
use Rattle.tiny_alloc.specs.declared.base.Based.{Based}
use Rattle.tiny_alloc.specs.Base.{IsBase}
use Rattle.tiny_alloc.specs.Sound.{IsSoundTiny, based_report}

-- A report of a trace with tiny objects is sound and uses what it takes, by its base.
pub record IsSoundAndUsedTiny (t : Trace) (report : Report) : Type 0 where
  pub based : Based
  pub objects : List Object
  pub sound : IsSoundTiny t report based objects
  pub used : IsUsed based.trace (based_report report based) objects

-- The profile of such a report has a form as one of its base.
abbrev pub HasFormTiny : Trace → Report → Bool → Type 0
HasFormTiny t report each = (based : Based) × IsBase t report.answers based × HasForm based.trace (based_report report based) each

-- A report is sound and uses what it takes, by the rules of its trace's version.
pub record IsSoundByVersion (t : Trace) (report : Report) : Type 0 where
  pub plain : t.header.version < TINY_VERSION → IsSoundAndUsed t report
  pub tiny : TINY_VERSION ≤ t.header.version → IsSoundAndUsedTiny t report

-- So is the form of its profile.
pub record HasFormByVersion (t : Trace) (report : Report) (each : Bool) : Type 0 where
  pub plain : t.header.version < TINY_VERSION → HasForm t report each
  pub tiny : TINY_VERSION ≤ t.header.version → HasFormTiny t report each
