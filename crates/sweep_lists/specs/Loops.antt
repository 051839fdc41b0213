-- A list under change, one place after the other.
use Rattle.std.specs.Prelude.{ℕ, zero, suc, ◌+◌, List, [], ◌∷◌}
use Rattle.sweep_lists.specs.declared.set.CoreSet.{CoreSet}
use Rattle.sweep_lists.specs.declared.life.Life.{Life}
use Rattle.sweep_lists.specs.declared.hand.CoreHand.{CoreHand}
use Rattle.sweep_laws.specs.Reading.{is_swept_set}
use Rattle.sweep_laws.specs.ChangesOfLives.{marks_at}
use Rattle.std.specs.Prelude.{Bool, if◌then◌else◌, Option, option_map}

-- the list with f of its places in the k first of them; its first place has the number n
abbrev pub changed_to : {A : Type 0} → (ℕ → A → A) → ℕ → ℕ → List A → List A
changed_to f n zero xs = xs
changed_to f n (suc k) [] = []
changed_to f n (suc k) (x ∷ xs) = f n x ∷ changed_to f (n + 1) k xs

-- a set whose entries are gone, unless it stays
abbrev pub emptied_unless : Bool → CoreSet → CoreSet
emptied_unless stays s = if stays then s else record s { head = 0; tail = 0; cells = record s.cells { items = [] } }

abbrev pub emptied_at : ℕ → ℕ → CoreSet → CoreSet
emptied_at generation n s = emptied_unless (is_swept_set generation n) s

-- a life with its marks
abbrev pub marked : List (ℕ × ℕ) → ℕ → Life → Life
marked marks n life = record life { kept = record life.kept { items = marks_at life.page marks } }

-- a place whose life, if one is there, has its marks
abbrev pub marked_place : List (ℕ × ℕ) → ℕ → Option Life → Option Life
marked_place marks n place = option_map (marked marks n) place

-- a hand that forgot what it swept
abbrev pub without_swept : ℕ → CoreHand → CoreHand
without_swept n h = record h { swept = record h.swept { items = [] } }
