-- What an allocation from the cache did, by its answer.
use Rattle.std.specs.Prelude.{◌≡◌, ◌⊎◌, ℕ, ◌+◌, ◌/◌, ◌^◌, ◌<◌, Some, None}
use Rattle.size_classes.specs.Classes.{slot_of}
use Rattle.span_state.specs.Bits.{HasFree, IsFull, bit_of, with_bit}
use Rattle.span_laws.specs.declared.said.SaidOf.TheVariants.{Places}
use Rattle.span_laws.specs.declared.view.Span.{Span}
use Rattle.span_laws.specs.Views.{Seen}
use Rattle.span_laws.specs.OwnSteps.{after_of}
use Rattle.proc_cache.specs.declared.hits.Hit.{Hit}
use Rattle.proc_cache.specs.declared.hits.Hit.TheVariants.{At, Miss}
use Rattle.proc_cache.specs.Cache.{Cache, address_of, slot_at, with_slot}

-- a span in which one more object was placed, at the index
pub record IsPlacedIn (index : ℕ) (old new : Span) : Type 0 where
  pub page : new.page ≡ old.page
  pub pages : new.pages ≡ old.pages
  pub slot : new.slot ≡ old.slot
  pub count : new.count ≡ old.count
  pub class : new.class ≡ old.class
  pub life : new.life ≡ old.life
  pub next : new.next ≡ index + 1
  pub bits : (k : ℕ) → bit_of new.bits k ≡ with_bit index (bit_of old.bits) k

-- an object was placed in the cached span of class k, at the lowest index that was free, and has the address of that place
pub record HitsAt (k at : ℕ) (c d : Cache) (old new : Seen) : Type 0 where
  pub before : Span
  pub after : Span
  pub index : ℕ
  pub cached : slot_at c k ≡ Some before
  pub lowest : HasFree before.count (bit_of before.bits) index
  pub placed : IsPlacedIn index before after
  pub address : at ≡ address_of after.page (slot_of (k / 2)) index
  pub cache : d ≡ with_slot k (Some after) c
  pub worker : new ≡ after_of (Places index) after old

-- no span of class k is cached, or the one that is has no free index
abbrev pub IsMissing : Cache → ℕ → Type 0
IsMissing c k = (slot_at c k ≡ None) ⊎ ((s : Span) × (slot_at c k ≡ Some s) × IsFull s.count (bit_of s.bits))

-- an address is below 2 ^ 48
abbrev pub HitsLow : Hit → Type 0
HitsLow (At address) = address < 2 ^ 48
HitsLow Miss = Unit {0}

-- the object has a place; or there is none in the cache, and nothing changed
abbrev pub HitsCache : ℕ → Cache → Cache → Seen → Seen → Hit → Type 0
HitsCache k c d old new (At address) = HitsAt k address c d old new
HitsCache k c d old new Miss = IsMissing c k × (d ≡ c) × (new ≡ old)
