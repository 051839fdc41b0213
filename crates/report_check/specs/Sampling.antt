-- Which objects of a report are samples, and how many of each bucket there are.
use Rattle.std.specs.Prelude.{◌≡◌, ℕ, ◌^◌, ◌<◌, Bool, true, false, ◌&&◌, nat_lt, nat_le, List, length, map, slice_index, slice_index_or, Some}
use Rattle.std.specs.List.{slice_get}
use Rattle.page_alloc.specs.Lists.{count}
use Rattle.profile_cycle.specs.Sampling.{Countdown, countdown}
use Rattle.trace_reader.specs.declared.trace.Header.{Header}
use Rattle.trace_reader.specs.declared.trace.Event.{Event}
use Rattle.trace_reader.specs.declared.trace.Trace.{Trace}
use Rattle.trace_reader.specs.Limits.{events_of}
use Rattle.cycle_history.specs.Requests.{marked_by}
use Rattle.cycle_history.specs.Objects.{Object, is_placed}
use Rattle.cycle_history.specs.Profile.{Bucket, Samples, SamplesBy, placed_by, samples_in, allocs_at, frees_at}
use Rattle.report_check.specs.declared.items.Item.{Item}
use Rattle.report_check.specs.declared.sampled.Sampled.{Sampled}
use Rattle.report_check.specs.Items.{objects_of}
use Rattle.report_check.specs.Order.{place_of}

-- ---- countdowns

-- The countdown of each of these processors behind the objects that it placed.
abbrev pub AreCountdowns : Header → List Object → List Countdown → Type 0
AreCountdowns h objects counts = (p : ℕ) (c : Countdown) → slice_get counts p ≡ Some c → c ≡ countdown h.rate h.seed p (map (λ (o : Object). o.need.slot) (placed_by p objects))

-- An object's flag.
abbrev pub flag_at : List Bool → ℕ → Bool
flag_at flags i = slice_index_or flags i false

-- The flags of the first n items: they are those that the countdowns sample, and of placed objects alone.
pub record AreFlags (t : Trace) (items : List Item) (flags : List Bool) (objects : List Object) : Type 0 where
  pub sampled : SamplesBy t.header.rate t.header.seed (flag_at flags) objects
  pub placed : (i : ℕ) (item : Item) → slice_get items i ≡ Some item → flag_at flags i ≡ true → is_placed item.answer ≡ true

-- ---- buckets

-- The place is one of the bucket's, before the mark end.
abbrev pub is_before : Bucket → ℕ → ℕ → Bool
is_before b m x = nat_le (place_of b.stack b.slot 0) x && nat_lt x (place_of b.stack b.slot m)

-- The objects that the flags name have these places, by a cycle of each.
abbrev pub ArePlacesBy : List Bool → List ℕ → List ℕ → List Object → List ℕ → Type 0
ArePlacesBy flags stacks cycles objects places = (test : ℕ → Bool) → count test places ≡ count (λ o. flag_at flags o.id && test (place_of (slice_index stacks o.id) o.need.slot (slice_index cycles o.id))) objects

-- The numbers of the first n items are those of their types.
abbrev pub FitTheirTypes : List Item → List ℕ → List ℕ → ℕ → Type 0
FitTheirTypes items stacks cycles n = (i : ℕ) (item : Item) → i < n → slice_get items i ≡ Some item → (slice_index stacks i < 2 ^ 32) × (item.slot < 2 ^ 64) × (slice_index cycles i < 2 ^ 32)

-- The samples that the flags name.
abbrev pub samples_by : Trace → Sampled → Samples
samples_by t sampled = samples_in t (flag_at sampled.flags.items)

-- What is known of the samples.
pub record AreSamples (t : Trace) (items : List Item) (sampled : Sampled) : Type 0 where
  pub flags : AreFlags t items sampled.flags.items (objects_of items)
  pub stacks : sampled.stacks.items ≡ map (λ (e : Event). e.stack) (events_of t)
  pub size : length sampled.flags.items ≡ length items
  pub few : length sampled.stacks.items ≡ length items
  pub allocs : (b : Bucket) (m : ℕ) → b.stack < 2 ^ 32 → b.slot < 2 ^ 64 → m < 2 ^ 32 → count (is_before b m) sampled.starts ≡ allocs_at (samples_by t sampled) (objects_of items) m b
  pub frees : (b : Bucket) (m : ℕ) → b.stack < 2 ^ 32 → b.slot < 2 ^ 64 → m < 2 ^ 32 → count (is_before b m) sampled.ends ≡ frees_at (marked_by t) (samples_by t sampled) (objects_of items) m b
