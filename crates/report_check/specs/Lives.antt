-- The lives that are open, by their first pages, and the seats that they give.
use Rattle.std.specs.Prelude.{◌≡◌, ℕ, List, Option, Some, None, length, slice_index_or, ◌↔◌}
use Rattle.page_bitmap.specs.declared.line.Line.{Line}
use Rattle.page_alloc.specs.Lists.{In}
use Rattle.page_alloc.specs.Lives.{Life, open_lives}
use Rattle.cycle_history.specs.Objects.{Object, Sits}
use Rattle.report_check.specs.declared.lives.OpenLife.{OpenLife}
use Rattle.report_check.specs.declared.lives.Seat.{Seat}
use Rattle.report_check.specs.declared.items.Item.{Item}
use Rattle.report_check.specs.Items.{object_of}

-- The entry of a life.
abbrev pub entry_of : Life → OpenLife
entry_of life = record { number = life.number; cycle = life.cycle; page = life.page; pages = life.pages; class = life.class }

-- The table has the life at its first page.
abbrev pub HoldsLife : List (Option OpenLife) → Life → Type 0
HoldsLife lives life = slice_index_or lives life.page None ≡ Some (entry_of life)

-- Each life of the table stands at its first page.
abbrev pub AreAtPages : List (Option OpenLife) → Type 0
AreAtPages lives = (page : ℕ) (life : OpenLife) → slice_index_or lives page None ≡ Some life → life.page ≡ page

-- The table has a place for each page of the region, and has the lives that are open after these lines.
pub record AreLives (region : ℕ) (past : List Line) (lives : List (Option OpenLife)) : Type 0 where
  pub size : length lives ≡ region
  pub pages : AreAtPages lives
  pub all : (life : Life) → In life (open_lives past) ↔ HoldsLife lives life

-- The seat is the object's index in a life of the table, the only one in which the object sits.
pub record IsOne (lives : List (Option OpenLife)) (o : Object) (seat : Seat) : Type 0 where
  pub life : Life
  pub number : seat.life ≡ life.number
  pub holds : HoldsLife lives life
  pub sits : Sits o life seat.index
  pub only : (other : Life) (k : ℕ) → HoldsLife lives other → Sits o other k → other ≡ life

-- The item sits in a life with the number that it has.
pub record HasLife (item : Item) (life : Life) : Type 0 where
  pub number : life.number ≡ item.life
  pub sits : Sits (object_of 0 item) life item.index

-- The table has a life with this number at the page.
pub record HasNumber (lives : List (Option OpenLife)) (page number : ℕ) : Type 0 where
  pub life : OpenLife
  pub here : slice_index_or lives page None ≡ Some life
  pub its : life.number ≡ number

-- The seat is the object's index in a life of the table that begins at the page.
pub record IsSeatAt (lives : List (Option OpenLife)) (o : Object) (page : ℕ) (seat : Seat) : Type 0 where
  pub life : Life
  pub number : seat.life ≡ life.number
  pub begins : life.page ≡ page
  pub holds : HoldsLife lives life
  pub sits : Sits o life seat.index

-- The object sits in no life of the table that begins at the page.
abbrev pub NoSeatAt : List (Option OpenLife) → Object → ℕ → Type 0
NoSeatAt lives o page = (life : Life) (k : ℕ) → life.page ≡ page → HoldsLife lives life → ¬ Sits o life k
