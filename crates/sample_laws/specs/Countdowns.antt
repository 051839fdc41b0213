-- How a processor's countdown is spent on its objects, and which of them are sampled by it.
use Rattle.std.specs.Prelude.{◌≡◌, ℕ, Bool, false, List, [], ◌∷◌, map}
use Rattle.trace_reader.specs.declared.trace.Event.{Event}
use Rattle.cycle_history.specs.declared.Answer.{Answer}
use Rattle.cycle_history.specs.declared.Answer.TheVariants.{Placed, Zero, Missed}
use Rattle.cycle_history.specs.Objects.{Object}
use Rattle.profile_cycle.specs.Naming.{slot_for}
use Rattle.profile_cycle.specs.Sampling.{Countdown, behind, countdown, is_sample, sampled}
use Rattle.cycle_history.specs.Profile.{placed_by}

-- An object with this answer is sampled by the countdown where it is placed.
abbrev pub flag : Countdown → Event → Answer → Bool
flag c e (Placed address) = is_sample c (slot_for e.size)
flag c e Zero = false
flag c e (Missed line) = false

-- The countdown behind an object with this answer: a placed one spends it.
abbrev pub spends : Countdown → Event → Answer → Countdown
spends c e (Placed address) = behind c (slot_for e.size)
spends c e Zero = c
spends c e (Missed line) = c

-- The countdown behind a processor's events with these answers, both with the newest first.
abbrev pub spent : Countdown → List Event → List Answer → Countdown
spent c [] answers = c
spent c (e ∷ events) [] = c
spent c (e ∷ events) (a ∷ answers) = spends (spent c events answers) e a

-- Which of the objects are sampled, the newest first.
abbrev pub flags : Countdown → List Event → List Answer → List Bool
flags c [] answers = []
flags c (e ∷ events) [] = []
flags c (e ∷ events) (a ∷ answers) = flag (spent c events answers) e a ∷ flags c events answers

-- The slots of the objects that a processor placed.
abbrev pub slots_by : ℕ → List Object → List ℕ
slots_by p objects = map (λ (o : Object). o.need.slot) (placed_by p objects)

-- The objects that a processor placed are sampled by a countdown at a rate and a seed, which stands where they left it.
pub record IsSampledTo (rate seed p : ℕ) (which : ℕ → Bool) (objects : List Object) (c : Countdown) : Type 0 where
  pub samples : map (λ (o : Object). which o.id) (placed_by p objects) ≡ sampled rate seed p (slots_by p objects)
  pub left : c ≡ countdown rate seed p (slots_by p objects)
