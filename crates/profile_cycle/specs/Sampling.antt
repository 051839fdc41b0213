-- Which of a processor's placed objects are sampled.
use Rattle.std.specs.Prelude.{ℕ, ◌+◌, ◌-◌, ◌*◌, ◌%◌, Bool, ◌&&◌, nat_le, nat_lt, max, List, [], ◌∷◌, if◌then◌else◌}
use Rattle.rand_pcg.specs.Lcg.{Lcg, started, increment_of}
use Rattle.rand_pcg.specs.Pcg.{multiplier_64, pcg32}

-- A countdown is the bytes that a processor has left before its next sample, at a rate, and the generator of the words
-- that it will draw.
pub record Countdown : Type 0 where
  pub rate : ℕ
  pub left : ℕ
  pub words : Lcg

-- The bytes that a drawn word gives: from 1 to 2 * rate - 1. At rate 0, where nothing is sampled, it is always 1.
abbrev pub distance : ℕ → ℕ → ℕ
distance rate word = 1 + word % max 1 (2 * rate - 1)

-- The countdown by the generator's next word.
unfoldable pub drawn : ℕ → Lcg → Countdown
drawn rate generator = record { rate = rate; left = distance rate (pcg32 generator).0; words = (pcg32 generator).1 }

-- The generator of a processor's words is Pcg32 with the trace's seed as its state and the processor as its stream.
unfoldable pub words_of : ℕ → ℕ → Lcg
words_of seed proc = started 64 multiplier_64 seed (increment_of 64 proc)

-- A slot is a sample unless it is below the countdown, or the rate is 0.
abbrev pub is_sample : Countdown → ℕ → Bool
is_sample c slot = nat_lt 0 c.rate && nat_le c.left slot

-- The countdown behind a slot: drawn anew behind a sample, and otherwise less the slot.
abbrev pub behind : Countdown → ℕ → Countdown
behind c slot = if is_sample c slot then drawn c.rate c.words else record c { left = c.left - slot }

-- A processor's countdown behind its placed objects, which are given by their slots, the newest first.
abbrev pub countdown : ℕ → ℕ → ℕ → List ℕ → Countdown
countdown rate seed proc [] = drawn rate (words_of seed proc)
countdown rate seed proc (slot ∷ older) = behind (countdown rate seed proc older) slot

-- A placed object is sampled, by its slot, behind the processor's older placed objects, the newest of which stands first.
abbrev pub is_sampled : ℕ → ℕ → ℕ → List ℕ → ℕ → Bool
is_sampled rate seed proc older slot = is_sample (countdown rate seed proc older) slot

-- Of all placed objects of a processor, which are sampled, the newest first.
abbrev pub sampled : ℕ → ℕ → ℕ → List ℕ → List Bool
sampled rate seed proc [] = []
sampled rate seed proc (slot ∷ older) = is_sampled rate seed proc older slot ∷ sampled rate seed proc older
