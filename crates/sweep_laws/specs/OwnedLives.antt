-- How the generation, the words, the owners and the lives fit together, and the objects of a life.
-- "Page" is a page of the region.
use Rattle.std.specs.Prelude.{◌≡◌, ◌⊎◌, ℕ, ◌+◌, ◌^◌, ◌%◌, ◌<◌, ◌≤◌, ◌==◌, not, List, length, slice_index, slice_index_or, Option, None}
use Rattle.std.specs.List.{AllByRecursion}
use lib.ListN.{get_elem?}
use mathlib.Core.Option.{some}
use Rattle.sweep_laws.specs.Counts.{times}
use Rattle.sweep_laws.specs.Named.{covers, owner, begins, pullers}
use Rattle.sweep_laws.specs.State.{LifeState, HandState}

-- each page with its word
abbrev pub EachPage : List ℕ → (ℕ → ℕ → Type 0) → Type 0
EachPage words P = (p : ℕ) → p < length words → P p (slice_index words p)

-- each item of a list by its number
abbrev pub EachAt : {A : Type 0} → List A → (ℕ → A → Type 0) → Type 0
EachAt {A} items P = (n : ℕ) (a : A) → get_elem? items n ≡ some a → P n a

-- a word at the generation g is one of six
abbrev pub IsWord : ℕ → ℕ → Type 0
IsWord g w = (w ≡ 0) ⊎ (w + 2 ≡ g) ⊎ (w + 1 ≡ g) ⊎ (w ≡ g) ⊎ (w ≡ g + 1) ⊎ (w ≡ g + 3)

-- the generation is even, from 4 to 2^63
pub record IsGeneration (g : ℕ) : Type 0 where
  pub even : g % 2 ≡ 0
  pub low : 4 ≤ g
  pub high : g ≤ 2 ^ 63

-- each page has an entry for its owner; its word is one of six, and not 0 exactly where a life begins; its owner
-- is the life that covers it; no two lives share a page, and each has one at least
pub record LivesFit (g : ℕ) (words : List ℕ) (owners : List (Option ℕ)) (lives : List LifeState) : Type 0 where
  pub entries : length owners ≡ length words
  pub word : EachPage words (λ p w. IsWord g w)
  pub begin : EachPage words (λ p w. begins p lives ≡ not (w == 0))
  pub owner_is : EachPage words (λ p w. slice_index_or owners p None ≡ owner p lives)
  pub apart : (p : ℕ) → covers p lives ≤ 1
  pub whole : AllByRecursion (λ l. 1 ≤ l.pages) lives

-- a page that a pulled list has is in no other pulled list, stands there once, and no life covers it
abbrev pub PulledApart : List LifeState → List HandState → Type 0
PulledApart lives hands = (p : ℕ) → covers p lives + pullers p hands ≤ 1

-- of a life, kept is a part of allocated, and allocated indices are below the count
pub record ObjectsFit (l : LifeState) : Type 0 where
  pub kept : (i : ℕ) → 0 < times i l.kept → 0 < times i l.allocated
  pub allocated : (i : ℕ) → 0 < times i l.allocated → i < l.count
