-- What the lines of the sampled profile tell, and the rule on them.
use Rattle.std.specs.Prelude.{◌≡◌, ◌≢◌, ℕ, suc, ◌<◌, ◌≤◌, Bool, true, false, ◌&&◌, ◌==◌, not, nat_lt, List, ◌⊎◌}
use Rattle.page_alloc.specs.Lists.{In, count}
use Rattle.cycle_history.specs.declared.Prof.{Prof}
use Rattle.cycle_history.specs.Requests.{Marking}
use Rattle.cycle_history.specs.Objects.{Object, is_placed}
use Rattle.cycle_history.specs.Orders.{AreRisingProfile}
pub use Rattle.profile_cycle.specs.declared.buckets.Bucket.{Bucket}
pub use Rattle.cycle_history.specs.Sampled.{Samples, SamplesBy, samples_in, placed_by, passing}

-- ---- buckets

-- A placed object is a sample of the bucket.
abbrev pub is_sample : Samples → Bucket → Object → Bool
is_sample s b o = is_placed o.answer && (s.sampled o.id && (s.stack o.id == b.stack && o.need.slot == b.slot))

-- The samples of a bucket that were placed before mark end m, and those of them that it doesn't mark.
abbrev pub allocs_at : Samples → List Object → ℕ → Bucket → ℕ
allocs_at s objects m b = count (λ o. is_sample s b o && nat_lt o.cycle m) objects

abbrev pub frees_at : Marking → Samples → List Object → ℕ → Bucket → ℕ
frees_at marked s objects m b = count (λ o. is_sample s b o && (nat_lt o.cycle m && not (marked m o.id))) objects

-- ---- rule 9

-- The bucket of a line.
abbrev pub bucket_of : Prof → Bucket
bucket_of line = record { stack = line.stack; slot = line.size }

-- A line tells of its bucket as of its mark end.
pub record IsProf (marked : Marking) (s : Samples) (objects : List Object) (line : Prof) : Type 0 where
  pub some : 1 ≤ line.allocs
  pub allocs : line.allocs ≡ allocs_at s objects line.mark (bucket_of line)
  pub frees : line.frees ≡ frees_at marked s objects line.mark (bucket_of line)

-- The numbers of a bucket changed from mark end m to the next.
abbrev pub IsChanged : Marking → Samples → List Object → ℕ → Bucket → Type 0
IsChanged marked s objects m b = (allocs_at s objects (suc m) b ≢ allocs_at s objects m b) ⊎ (frees_at marked s objects (suc m) b ≢ frees_at marked s objects m b)

-- The line is that of a bucket and a mark end.
pub record IsOf (m : ℕ) (b : Bucket) (line : Prof) : Type 0 where
  pub mark : line.mark ≡ m
  pub stack : line.stack ≡ b.stack
  pub size : line.size ≡ b.slot

-- Rule 9 in the form of the last mark end: each line is right, and each bucket with samples before it has one.
pub record IsProfile (marked : Marking) (s : Samples) (last : ℕ) (objects : List Object) (lines : List Prof) : Type 0 where
  pub order : AreRisingProfile lines
  pub right : (line : Prof) → In line lines → (line.mark ≡ last) × IsProf marked s objects line
  pub each : (b : Bucket) → 1 ≤ allocs_at s objects last b → (line : Prof) × In line lines × IsOf last b line

-- Rule 9 in the form of each mark end: those before the last have the buckets whose numbers changed.
pub record IsProfileOfEach (marked : Marking) (s : Samples) (last : ℕ) (objects : List Object) (lines : List Prof) : Type 0 where
  pub order : AreRisingProfile lines
  pub right : (line : Prof) → In line lines → (1 ≤ line.mark) × (line.mark ≤ last) × IsProf marked s objects line
  pub changed : (m : ℕ) (line : Prof) → In line lines → line.mark ≡ suc m → suc m < last → IsChanged marked s objects m (bucket_of line)
  pub each : (m : ℕ) (b : Bucket) → suc m < last → IsChanged marked s objects m b → (line : Prof) × In line lines × IsOf (suc m) b line
  pub last_each : (b : Bucket) → 1 ≤ allocs_at s objects last b → (line : Prof) × In line lines × IsOf last b line

-- Rule 9 in one of the two forms: that of each mark end, or that of the last one.
abbrev pub IsProfileIn : Bool → Marking → Samples → ℕ → List Object → List Prof → Type 0
IsProfileIn true marked s last objects lines = IsProfileOfEach marked s last objects lines
IsProfileIn false marked s last objects lines = IsProfile marked s last objects lines
