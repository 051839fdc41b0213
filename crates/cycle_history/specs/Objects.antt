-- Objects, where they sit, and in which cycles they live.
use Rattle.std.specs.Prelude.{◌≡◌, ℕ, ◌+◌, ◌-◌, ◌*◌, ◌<◌, ◌≤◌, Bool, true, false, ◌&&◌, ◌||◌, ◌==◌, not, List, ◌⊎◌}
use Rattle.size_classes.specs.Classes.{region_start}
use Rattle.page_bitmap.specs.declared.line.Line.{Line}
use Rattle.page_alloc.specs.Lists.{In, count}
use Rattle.page_alloc.specs.Lives.{Life, open_lives}
use Rattle.page_alloc.specs.Journal.{at_end}
use Rattle.cycle_history.specs.declared.Answer.{Answer}
use Rattle.cycle_history.specs.declared.Answer.TheVariants.{Placed, Zero, Missed}
use Rattle.cycle_history.specs.Needs.{Need}
use Rattle.cycle_history.specs.Requests.{Marking}

-- An object is a request with its answer; the seat of a placed one is a life, by the number of its making line, and
-- an index in it.
pub record Object : Type 0 where
  pub id : ℕ
  pub proc : ℕ
  pub cycle : ℕ
  pub need : Need
  pub answer : Answer
  pub life : ℕ
  pub index : ℕ

-- An answer that is an address places its object.
abbrev pub is_placed : Answer → Bool
is_placed (Placed address) = true
is_placed Zero = false
is_placed (Missed line) = false

-- An object lives in a cycle where it is placed, and is of that cycle or marked by the mark end before it.
abbrev pub live : Marking → ℕ → Object → Bool
live marked c o = is_placed o.answer && (o.cycle == c || marked c o.id)

-- The address at which a life begins.
abbrev pub start_of : Life → ℕ
start_of life = region_start + 8192 * life.page

-- An object sits at index k of a life where the life is a span such as the object needs, and k is the slot at its
-- address.
pub record Sits (o : Object) (life : Life) (k : ℕ) : Type 0 where
  pub class : life.class ≡ o.need.class
  pub pages : life.pages ≡ o.need.pages
  pub index : k < o.need.count
  pub address : o.answer ≡ Placed (start_of life + o.need.slot * k)

-- An object is seated where its seat is the one life in which it sits as its cycle ends, and that life is still open
-- as each cycle ends in which the object lives.
pub record IsSeated (marked : Marking) (past : List Line) (o : Object) (life : Life) : Type 0 where
  pub number : life.number ≡ o.life
  pub here : In life (open_lives (at_end o.cycle past))
  pub sits : Sits o life o.index
  pub only : (other : Life) (k : ℕ) → In other (open_lives (at_end o.cycle past)) → Sits o other k → other ≡ life
  pub stays : (c : ℕ) → live marked c o ≡ true → In life (open_lives (at_end c past))

-- Two objects are apart where the bytes of their slots don't overlap, if both are placed.
abbrev pub IsApart : Object → Object → Type 0
IsApart a b = (x y : ℕ) → a.answer ≡ Placed x → b.answer ≡ Placed y → (x + a.need.slot ≤ y) ⊎ (y + b.need.slot ≤ x)

-- An object holds index k of life n, as seen by an object of cycle c with the id `before`, where it sits there and is
-- marked by the mark end before cycle c, or is an earlier object of cycle c.
pub record Holds (marked : Marking) (c before n k : ℕ) (o : Object) : Type 0 where
  pub placed : is_placed o.answer ≡ true
  pub life : o.life ≡ n
  pub index : o.index ≡ k
  pub when : (marked c o.id ≡ true) ⊎ ((o.cycle ≡ c) × (o.id < before))

-- Some object of the list holds the index.
abbrev pub IsHeld : Marking → List Object → ℕ → ℕ → ℕ → ℕ → Type 0
IsHeld marked objects c before n k = (o : Object) × In o objects × Holds marked c before n k o

-- The number of a life's objects that mark end m marks.
abbrev pub kept : Marking → List Object → ℕ → ℕ → ℕ
kept marked objects m n = count (λ o. is_placed o.answer && (o.life == n && marked m o.id)) objects

-- The number of a life's objects that lived in the cycle before mark end m and aren't marked by it.
abbrev pub freed : Marking → List Object → ℕ → ℕ → ℕ
freed marked objects m n = count (λ o. o.life == n && (live marked (m - 1) o && not (marked m o.id))) objects
