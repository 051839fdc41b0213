-- Which lines break the rules 4 to 6: places, apart and filling.
use Rattle.std.specs.Prelude.{◌≡◌, ◌≢◌, ℕ, ◌<◌, true, List, ◌⊎◌}
use Rattle.page_bitmap.specs.declared.line.Line.{Line}
use Rattle.page_alloc.specs.Lists.{In}
use Rattle.page_alloc.specs.Lives.{Life}
use Rattle.cycle_history.specs.Requests.{Marking}
use Rattle.cycle_history.specs.Objects.{Object, is_placed, live, IsSeated, IsApart, IsHeld}
use Rattle.cycle_history.specs.Rules.{IsSmall}
use Rattle.report_check.specs.Lines.{answer_at}

-- The object with a seat at index k of a life.
abbrev pub seat_at : Object → Life → ℕ → Object
seat_at o life k = record o { life = life.number; index = k }

-- Some life and index are the object's seat.
abbrev pub HasSeat : Marking → List Line → Object → Type 0
HasSeat marked past o = (life : Life) × (k : ℕ) × IsSeated marked past (seat_at o life k) life

-- Rule 4 is broken by the line of a placed object that has no seat.
pub record BreaksPlaces (marked : Marking) (past : List Line) (objects : List Object) (line : ℕ) : Type 0 where
  pub object : Object
  pub among : In object objects
  pub placed : is_placed object.answer ≡ true
  pub wrong : ¬ HasSeat marked past object
  pub stands : line ≡ answer_at object.id

-- Rule 5 is broken by the line of an object that overlaps an earlier one in a cycle in which both live.
pub record BreaksApart (marked : Marking) (objects : List Object) (line : ℕ) : Type 0 where
  pub earlier : Object
  pub later : Object
  pub among : In earlier objects × In later objects
  pub before : earlier.id < later.id
  pub cycle : ℕ
  pub alive : (live marked cycle earlier ≡ true) × (live marked cycle later ≡ true)
  pub wrong : ¬ IsApart earlier later
  pub stands : line ≡ answer_at later.id

-- A small object of the same cycle comes before this one.
pub record IsEarlierOf (objects : List Object) (o a : Object) : Type 0 where
  pub among : In a objects
  pub small : IsSmall a
  pub before : a.id < o.id
  pub cycle : a.cycle ≡ o.cycle

-- Another processor placed an earlier object of the cycle in the object's life.
pub record IsOfTwo (objects : List Object) (o a : Object) : Type 0 where
  pub earlier : IsEarlierOf objects o a
  pub life : a.life ≡ o.life
  pub other : a.proc ≢ o.proc

-- An index below the object's is still free as it comes.
pub record LeavesGap (marked : Marking) (objects : List Object) (o : Object) (j : ℕ) : Type 0 where
  pub below : j < o.index
  pub free : ¬ IsHeld marked objects o.cycle o.id o.life j

-- The object's processor placed an earlier object of the span class in another life, of which an index is still free.
pub record LeavesLife (marked : Marking) (objects : List Object) (o a : Object) (j : ℕ) : Type 0 where
  pub earlier : IsEarlierOf objects o a
  pub proc : a.proc ≡ o.proc
  pub class : a.need.class ≡ o.need.class
  pub other : a.life ≢ o.life
  pub inside : j < a.need.count
  pub free : ¬ IsHeld marked objects o.cycle o.id a.life j

-- A small object is misplaced where its life is another processor's in this cycle, it leaves a gap, or its processor left
-- a life that isn't full.
abbrev pub IsMisplaced : Marking → List Object → Object → Type 0
IsMisplaced marked objects o = ((a : Object) × IsOfTwo objects o a)
    ⊎ (((j : ℕ) × LeavesGap marked objects o j) ⊎ ((a : Object) × (j : ℕ) × LeavesLife marked objects o a j))

-- Rule 6 is broken by the line of a misplaced object.
pub record BreaksFilling (marked : Marking) (objects : List Object) (line : ℕ) : Type 0 where
  pub object : Object
  pub among : In object objects
  pub small : IsSmall object
  pub wrong : IsMisplaced marked objects object
  pub stands : line ≡ answer_at object.id
