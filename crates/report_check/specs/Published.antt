-- Which lines break rule 9: the profile.
use Rattle.std.specs.Prelude.{◌≡◌, ℕ, suc, ◌<◌, ◌≤◌, Bool, true, false, nat_lt, List, [], ◌∷◌, Some, ◌⊎◌}
use Rattle.std.specs.List.{slice_get}
use Rattle.page_alloc.specs.Lists.{In}
use Rattle.trace_reader.specs.declared.trace.Trace.{Trace}
use Rattle.cycle_history.specs.declared.Prof.{Prof}
use Rattle.cycle_history.specs.declared.Report.{Report}
use Rattle.cycle_history.specs.Requests.{Marking, marked_by, last_cycle}
use Rattle.cycle_history.specs.Objects.{Object}
use Rattle.cycle_history.specs.Orders.{IsProfBefore}
use Rattle.cycle_history.specs.Profile.{Bucket, Samples, SamplesBy, samples_in, allocs_at, bucket_of, IsProf, IsChanged, IsOf}
use Rattle.report_check.specs.Lines.{profile_at, end_of}
use Rattle.report_check.specs.Closing.{IsOutOfOrder}

-- A profile is of the form of each mark end where its first line names a mark end before the last one, and otherwise of
-- the form of the last one.
abbrev pub is_of_each : ℕ → List Prof → Bool
is_of_each last [] = false
is_of_each last (line ∷ lines) = nat_lt line.mark last

-- A line is right in the form of each mark end, or in that of the last one.
abbrev pub IsRightProf : Bool → Marking → Samples → ℕ → List Object → Prof → Type 0
IsRightProf true marked s last objects line = (1 ≤ line.mark) × (line.mark ≤ last) × IsProf marked s objects line
    × ((m : ℕ) → line.mark ≡ suc m → suc m < last → IsChanged marked s objects m (bucket_of line))
IsRightProf false marked s last objects line = (line.mark ≡ last) × IsProf marked s objects line

-- A bucket is to have a line of mark end m: at the last one where it has samples, and in the form of each mark end at an
-- earlier one where its numbers changed.
abbrev pub IsDue : Bool → Marking → Samples → ℕ → List Object → ℕ → Bucket → Type 0
IsDue each marked s last objects m b = ((m ≡ last) × (1 ≤ allocs_at s objects last b))
    ⊎ ((each ≡ true) × (m < last) × ((before : ℕ) × (m ≡ suc before) × IsChanged marked s objects before b))

-- A line of the profile that isn't right, or is out of order, stands on this line.
pub record IsWrongProf (marked : Marking) (s : Samples) (last : ℕ) (report : Report) (objects : List Object) (line k : ℕ) : Type 0 where
  pub prof : Prof
  pub printed : slice_get report.profile k ≡ Some prof
  pub wrong : (¬ IsRightProf (is_of_each last report.profile) marked s last objects prof) ⊎ IsOutOfOrder IsProfBefore report.profile k prof
  pub stands : line ≡ profile_at report k

-- A bucket that is to have a line of mark end m has none.
pub record IsUnprinted (marked : Marking) (s : Samples) (last : ℕ) (report : Report) (objects : List Object) (m : ℕ) (b : Bucket) : Type 0 where
  pub due : IsDue (is_of_each last report.profile) marked s last objects m b
  pub missing : (prof : Prof) → In prof report.profile → ¬ IsOf m b prof

-- The line breaks the profile of these samples: it isn't right, or it is `end` and a bucket has no line.
abbrev pub BreaksProfileOf : Marking → Samples → ℕ → Report → List Object → ℕ → Type 0
BreaksProfileOf marked s last report objects line = ((k : ℕ) × IsWrongProf marked s last report objects line k)
    ⊎ ((m : ℕ) × (b : Bucket) × IsUnprinted marked s last report objects m b × (line ≡ end_of report))

-- Rule 9 is broken by the line of a bucket that isn't right, and by `end` where a bucket has none: by the objects that the
-- processors' countdowns sample.
abbrev pub BreaksProfile : Trace → Report → List Object → ℕ → Type 0
BreaksProfile t report objects line = (which : ℕ → Bool) × SamplesBy t.header.rate t.header.seed which objects
    × BreaksProfileOf (marked_by t) (samples_in t which) (last_cycle t) report objects line
