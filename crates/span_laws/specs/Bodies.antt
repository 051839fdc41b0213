-- Bodies: which are lent to a worker, which are at home, and that they agree with the lives of their pages.
use Rattle.std.specs.Prelude.{◌≡◌, ◌⊎◌, ℕ, ◌+◌, ◌<◌, ◌==◌, Bool, true, false, not, List, length, Option, Some, None, slice_index, slice_index_or}
use lib.ListN.{get_elem?}
use mathlib.Core.Option.{some}
use Rattle.page_alloc.specs.Lists.{In}
use Rattle.page_alloc.specs.Lives.{Life, life_of}
use Rattle.span_state.specs.Bits.{bit_of}
use Rattle.span_state.specs.declared.body.Body.{Body}
use Rattle.sweep_laws.specs.ChangesOfLives.{marks_at}
use Rattle.sweep_laws.specs.Counts.{times}
use Rattle.sweep_laws.specs.Lists.{has}
use Rattle.sweep_laws.specs.Named.{begins, only}
use Rattle.sweep_laws.specs.Reading.{life_in}
use Rattle.sweep_laws.specs.OwnedLives.{EachAt}
use Rattle.sweep_laws.specs.State.{LifeState}
use Rattle.sweep_laws.specs.declared.moves.Claimed.{Claimed}
use Rattle.span_laws.specs.declared.view.Part.{Part}
use Rattle.span_laws.specs.declared.view.Span.{Span}
use Rattle.span_laws.specs.Views.{span_at, span_of}

-- the span is that of the life: it lies there, and the same indices are allocated
pub record IsBody (s : Span) (l : LifeState) : Type 0 where
  pub page : s.page ≡ l.page
  pub pages : s.pages ≡ l.pages
  pub count : s.count ≡ l.count
  pub class : s.class ≡ l.class
  pub bits : (k : ℕ) → bit_of s.bits k ≡ has k l.allocated

-- the span is one of the open lives that workers know, by its number
abbrev pub IsOpen : List Life → Span → Type 0
IsOpen known s = (cycle : ℕ) × In (life_of s.life cycle s.page s.pages s.class) known

-- the span is that of the page, as its life has it, and is known
pub record Fits (known : List Life) (lives : List LifeState) (p : ℕ) (s : Span) : Type 0 where
  pub page : s.page ≡ p
  pub body : IsBody s (life_in p lives)
  pub line : IsOpen known s

-- whether a page is claimed for
abbrev pub is_claimed : ℕ → Option Claimed → Bool
is_claimed p None = false
is_claimed p (Some d) = d.page == p

-- how often a part has the body of a page: it sweeps the span, has it cached, or holds it and has not brought it home for a claim
abbrev pub lends : ℕ → Part → ℕ
lends p h = times p h.sweeping + times p h.cached + only (not (is_claimed p h.claimed)) (times p h.held)

-- a body that is lent is the newest of its page among the part's spans
abbrev pub IsLent : List Life → List LifeState → Part → ℕ → Type 0
IsLent known lives h p = (s : Span) × (span_at p h.spans ≡ Some s) × Fits known lives p s

-- some worker has the body
abbrev pub IsAway : List Part → ℕ → Type 0
IsAway parts p = (n : ℕ) × (h : Part) × (get_elem? parts n ≡ some h) × (0 < lends p h)

-- the body is at home
abbrev pub IsHome : List Life → List LifeState → List (Option Body) → ℕ → Type 0
IsHome known lives homes p = (b : Body) × (slice_index_or homes p None ≡ Some b) × Fits known lives p (span_of b)

-- each body that is lent to a worker is as the worker's part says, and its place at home is empty, as that of a page without a span is;
-- and each other one is at home
pub record Bodies (pages : ℕ) (known : List Life) (lives : List LifeState) (homes : List (Option Body)) (parts : List Part) : Type 0 where
  pub many : length homes ≡ pages
  pub lent : EachAt parts (λ n h. (p : ℕ) → 0 < lends p h → IsLent known lives h p)
  pub gone : EachAt parts (λ n h. (p : ℕ) → 0 < lends p h → slice_index_or homes p None ≡ None)
  pub bare : (p : ℕ) → begins p lives ≡ false → slice_index_or homes p None ≡ None
  pub home : (p : ℕ) → p < pages → begins p lives ≡ true → IsAway parts p ⊎ IsHome known lives homes p

-- a word says that the span waits for its sweep, cached or not
abbrev pub IsWaiting : ℕ → ℕ → Type 0
IsWaiting g w = (w + 2 ≡ g) ⊎ (w + 1 ≡ g) ⊎ (w ≡ g + 1)

-- what the marks name: until its sweep a life keeps just its marks, and each mark names an allocated index of a life
pub record Marked (g : ℕ) (words : List ℕ) (lives : List LifeState) (marks : List (ℕ × ℕ)) : Type 0 where
  pub kept : (p : ℕ) → p < length words → IsWaiting g (slice_index words p) → (life_in p lives).kept ≡ marks_at p marks
  pub allocated : (p i : ℕ) → 0 < times i (marks_at p marks) → (p < length words) × (0 < times i (life_in p lives).allocated)
