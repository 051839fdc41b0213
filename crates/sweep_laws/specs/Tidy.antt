-- When a step takes no memory.
use Rattle.std.specs.Prelude.{◌≡◌, ℕ, ◌<◌, ◌≤◌, length, List, [], ◌∷◌}
use Rattle.std.specs.List.{AllByRecursion}
use Rattle.sweep_laws.specs.declared.moves.Move.{Move}
use Rattle.sweep_laws.specs.declared.moves.Move.TheVariants.{Take, Claim, Cut}
use Rattle.sweep_laws.specs.State.{LifeState, HandState, CoreState}
use Rattle.sweep_laws.specs.Counts.{times}
use Rattle.sweep_laws.specs.Reading.{set_of}
use Rattle.sweep_laws.specs.OwnedLives.{EachAt}
use Rattle.sweep_laws.specs.Step.{after}

-- no list of a hand names the number
pub record NamesNever (p : ℕ) (h : HandState) : Type 0 where
  pub sweeping : times p h.sweeping ≡ 0
  pub held : times p h.held ≡ 0
  pub cached : times p h.cached ≡ 0
  pub popped : times p h.popped ≡ 0
  pub swept : times p h.swept ≡ 0
  pub pulled : times p h.pulled ≡ 0

-- a life begins in the region, and its lists name no index twice
pub record IsTidyLife (pages : ℕ) (l : LifeState) : Type 0 where
  pub page : l.page < pages
  pub allocated : (i : ℕ) → times i l.allocated ≤ 1
  pub kept : (i : ℕ) → times i l.kept ≤ 1

-- no hand names a number beyond the region, no life begins beyond it, and no life names an index twice
pub record IsTidy (c : CoreState) : Type 0 where
  pub hands : EachAt c.hands (λ n h. (p : ℕ) → length c.words ≤ p → NamesNever p h)
  pub lives : AllByRecursion (IsTidyLife (length c.words)) c.lives

-- in no set more cells were claimed than there are pages
abbrev pub TailsFit : CoreState → Type 0
TailsFit c = EachAt c.sets (λ k s. s.tail ≤ length c.words)

-- there is room for as many entries as there are pages, and in no set more cells were claimed than that
pub record HasSpace (c : CoreState) : Type 0 where
  pub room : length c.words ≤ c.room
  pub tails : TailsFit c

-- for a Take and a Cut a life is prepared, and a Claim is of a set in which fewer cells were claimed than there are pages
abbrev pub IsProvided : CoreState → Move → Type 0
IsProvided c (Take w page pages count class) = count ≤ c.prepared
IsProvided c (Claim w s page) = (set_of c s).tail < length c.words
IsProvided c (Cut w page pages count class) = count ≤ c.prepared
IsProvided c _ = Unit {0}

-- so is each move of a list in the state that those before it made
abbrev pub AreProvided : CoreState → List Move → Type 0
AreProvided c [] = Unit {0}
AreProvided c (move ∷ moves) = IsProvided c move × AreProvided (after c move) moves
