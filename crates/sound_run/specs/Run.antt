-- A run in the middle of a cycle, by the lines that it has written and the objects that it has answered so far.
use Rattle.std.specs.Prelude.{◌≡◌, ℕ, suc, ◌*◌, ◌/◌, ◌<◌, ◌≤◌, true, false, nat_lt, if◌then◌else◌, List, ◌⊎◌, ◌≢◌}
use Rattle.page_bitmap.specs.declared.line.Line.{Line}
use Rattle.size_classes.specs.Classes.{slot_of, objects_of}
use Rattle.page_alloc.specs.Lists.{In}
use Rattle.page_alloc.specs.Lives.{Life, open_lives}
use Rattle.page_alloc.specs.Journal.{at_end, IsBy, LegalFor}
use Rattle.cycle_history.specs.Needs.{Need}
use Rattle.cycle_history.specs.Requests.{Marking}
use Rattle.cycle_history.specs.Objects.{Object, is_placed, live, Sits}
use Rattle.cycle_history.specs.Rules.{AreMissed, AreFilled}

-- The bytes of a slot in a span of this span class and so many pages.
abbrev pub slot_for : ℕ → ℕ → ℕ
slot_for class pages = if nat_lt class 2 then 8192 * pages else slot_of (class / 2)

-- The slots of a span of this span class.
abbrev pub count_for : ℕ → ℕ
count_for class = if nat_lt class 2 then 1 else objects_of (class / 2)

-- A need has slots that fit into its pages, of the size and number that its span class gives.
pub record Fits (need : Need) : Type 0 where
  pub some : 1 ≤ need.slot
  pub room : need.slot * need.count ≤ 8192 * need.pages
  pub slot : need.slot ≡ slot_for need.class need.pages
  pub count : need.count ≡ count_for need.class

-- An object is only marked right after its own cycle, or where the mark end before marked it as well.
pub record Lasts (marked : Marking) (o : Object) : Type 0 where
  pub first : marked 0 o.id ≡ false
  pub next : (m : ℕ) → marked (suc m) o.id ≡ true → (o.cycle ≡ m) ⊎ ((o.cycle < m) × (marked m o.id ≡ true))

-- An object has its seat in a life, which is open as each cycle ends in which the object lives.
pub record HasSeat (marked : Marking) (past : List Line) (o : Object) (life : Life) : Type 0 where
  pub number : life.number ≡ o.life
  pub sits : Sits o life o.index
  pub stays : (c : ℕ) → live marked c o ≡ true → In life (open_lives (at_end c past))

-- A journal that a run can have: it is legal, where each processor that a trace can have may have a page cache.
abbrev pub IsJournal : ℕ → ℕ → List Line → Type 0
IsJournal region goal past = LegalFor 64 region goal past

-- A run of cycle c so far: its journal is legal, and its objects have seats of their own and meet the rules on misses
-- and filling; what later mark ends mark is part of the marking. The notes of sweeps come with mark ends.
pub record IsRun (marked : Marking) (region goal c : ℕ) (past : List Line) (objects : List Object) : Type 0 where
  pub journal : IsJournal region goal past
  pub by : IsBy c past
  pub cycles : (o : Object) → In o objects → o.cycle ≤ c
  pub lasts : (o : Object) → In o objects → Lasts marked o
  pub fits : (o : Object) → In o objects → is_placed o.answer ≡ true → Fits o.need
  pub seats : (o : Object) → In o objects → is_placed o.answer ≡ true → (life : Life) × HasSeat marked past o life
  pub distinct : (m : ℕ) (a b : Object) → In a objects → In b objects → a.id ≢ b.id → live marked m a ≡ true → live marked m b ≡ true → a.life ≡ b.life → a.index ≢ b.index
  pub misses : AreMissed past objects
  pub filling : AreFilled marked objects
