-- The lines of a profile beside those that should be there.
use Rattle.std.specs.Prelude.{◌≡◌, ℕ, ◌+◌, ◌^◌, ◌<◌, ◌≤◌, Bool, true, List, slice_index, Some, ◌⊎◌, ◌↔◌}
use Rattle.std.specs.List.{slice_get}
use Rattle.page_alloc.specs.Lists.{In}
use Rattle.profile_cycle.specs.declared.counts.Count.{Count}
use Rattle.cycle_history.specs.declared.Prof.{Prof}
use Rattle.cycle_history.specs.Requests.{Marking}
use Rattle.cycle_history.specs.Objects.{Object}
use Rattle.cycle_history.specs.Orders.{IsProfBefore}
use Rattle.cycle_history.specs.Profile.{Bucket, Samples, IsOf}
use Rattle.report_check.specs.Closing.{IsOutOfOrder}
use Rattle.report_check.specs.Published.{IsDue}
use Rattle.report_check.specs.declared.items.Item.{Item}
use Rattle.report_check.specs.Lasts.{last_at}
use Rattle.report_check.specs.Order.{place_of}

-- A line of some samples has these numbers, and names a mark end.
pub record HasNumbers (line : Prof) (now : Count) : Type 0 where
  pub mark : 1 ≤ line.mark
  pub some : 1 ≤ line.allocs
  pub allocs : line.allocs ≡ now.allocs
  pub frees : line.frees ≡ now.frees

-- The first n lines are right, and stand in order.
pub record AreRightProfs (IsRight : Prof → Type 0) (lines : List Prof) (n : ℕ) : Type 0 where
  pub right : (k : ℕ) (line : Prof) → k < n → slice_get lines k ≡ Some line → IsRight line
  pub order : (j k : ℕ) (a b : Prof) → j < k → k < n → slice_get lines j ≡ Some a → slice_get lines k ≡ Some b → IsProfBefore a b

-- The line at place n is the first that isn't right, or is out of order.
pub record IsFirstWrongProf (IsRight : Prof → Type 0) (lines : List Prof) (n : ℕ) : Type 0 where
  pub few : n < 2 ^ 62
  pub line : Prof
  pub here : slice_get lines n ≡ Some line
  pub wrong : (¬ IsRight line) ⊎ IsOutOfOrder IsProfBefore lines n line
  pub before : AreRightProfs IsRight lines n

-- A line is of the bucket and the mark end.
abbrev pub HasBucketLine : List Prof → ℕ → Bucket → Type 0
HasBucketLine lines m b = (line : Prof) × In line lines × IsOf m b line

-- Each bucket has a line of each mark end at which it is due.
abbrev pub AllPrinted : Bool → Marking → Samples → ℕ → List Object → List Prof → Type 0
AllPrinted each marked s last objects lines = (m : ℕ) (b : Bucket) → IsDue each marked s last objects m b → HasBucketLine lines m b

-- A bucket has no line of a mark end at which it is due.
abbrev pub LacksLine : Bool → Marking → Samples → ℕ → List Object → List Prof → Type 0
LacksLine each marked s last objects lines = (m : ℕ) × (b : Bucket) × IsDue each marked s last objects m b × ¬ HasBucketLine lines m b

-- The places are those of the lines.
abbrev pub ArePrinted : List Prof → List ℕ → Type 0
ArePrinted lines places = (m stack slot : ℕ) → m < 2 ^ 32 → slot < 2 ^ 64 → In (place_of stack slot m) places ↔ HasBucketLine lines m (record { stack = stack; slot = slot })

-- The bucket of an item.
abbrev pub bucket_at : Item → ℕ → Bucket
bucket_at item stack = record { stack = stack; slot = item.slot }

-- The bucket of an item, which is a sample, has a line of each mark end at which the sample makes it due.
abbrev pub IsItemPrinted : Bool → ℕ → List Item → List ℕ → List ℕ → List Prof → ℕ → Type 0
IsItemPrinted each last items lasts stacks lines i = (item : Item) → slice_get items i ≡ Some item
    → (item.cycle < last → HasBucketLine lines last (bucket_at item (slice_index stacks i)))
    × (each ≡ true → item.cycle + 1 < last → HasBucketLine lines (item.cycle + 1) (bucket_at item (slice_index stacks i)))
    × (each ≡ true → last_at lasts i + 1 < last → HasBucketLine lines (last_at lasts i + 1) (bucket_at item (slice_index stacks i)))
