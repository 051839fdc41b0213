-- How the sets and the claims fit together: what each cell and each claim names.
use Rattle.std.specs.Prelude.{◌≡◌, ◌⊎◌, ℕ, ◌+◌, ◌<◌, ◌≤◌, true, false, List, Some}
use lib.ListN.{get_elem?}
use mathlib.Core.Option.{some}
use Rattle.sweep_laws.specs.declared.moves.Claimed.{Claimed}
use Rattle.sweep_laws.specs.Counts.{times}
use Rattle.sweep_laws.specs.Named.{claimers, is_class}
use Rattle.sweep_laws.specs.Reading.{cell_of, class_of_set, is_swept_set}
use Rattle.sweep_laws.specs.State.{LifeState, SetState, HandState}
use Rattle.sweep_laws.specs.OwnedLives.{EachAt}

-- a page, plus 1, whose number has a property
abbrev pub IsPage : ℕ → (ℕ → Type 0) → ℕ → Type 0
IsPage pages P cell = (p : ℕ) × (cell ≡ p + 1) × (p < pages) × P p

-- a hand's claim is of an unpopped cell of a swept set that holds 0; the hand holds the claimed page, at which
-- a life of the set's class begins
pub record ClaimFits (g pages : ℕ) (lives : List LifeState) (sets : List SetState) (h : HandState) (d : Claimed) : Type 0 where
  pub set_at : SetState
  pub is_set : get_elem? sets d.set ≡ some set_at
  pub is_swept : is_swept_set g d.set ≡ true
  pub from_head : set_at.head ≤ d.index
  pub below_tail : d.index < set_at.tail
  pub blank : cell_of set_at d.index ≡ 0
  pub is_page : d.page < pages
  pub held : 0 < times d.page h.held
  pub class : is_class d.page (class_of_set d.set) lives ≡ true

-- in each set head is at most tail, and cells from tail on are 0. An unpopped cell of an unswept set names
-- a page. An unpopped cell of a swept set names a page at which a life of the set's class begins, or it is 0 and
-- one hand claims it. Each hand's claim fits
pub record SetsFit (g pages : ℕ) (lives : List LifeState) (sets : List SetState) (hands : List HandState) : Type 0 where
  pub order : EachAt sets (λ k s. s.head ≤ s.tail)
  pub beyond : EachAt sets (λ k s. (i : ℕ) → s.tail ≤ i → cell_of s i ≡ 0)
  pub unswept_cell : EachAt sets (λ k s. is_swept_set g k ≡ false → (i : ℕ) → s.head ≤ i → i < s.tail → IsPage pages (λ p. Unit {0}) (cell_of s i))
  pub swept_cell : EachAt sets (λ k s. is_swept_set g k ≡ true → (i : ℕ) → s.head ≤ i → i < s.tail
      → IsPage pages (λ p. is_class p (class_of_set k) lives ≡ true) (cell_of s i) ⊎ ((cell_of s i ≡ 0) × (claimers k i hands ≡ 1)))
  pub claim : EachAt hands (λ n h. (d : Claimed) → h.claimed ≡ Some d → ClaimFits g pages lives sets h d)
