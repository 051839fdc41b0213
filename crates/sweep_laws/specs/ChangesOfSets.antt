-- What a move changes of one set, and which page a cell names.
use Rattle.std.specs.Prelude.{ℕ, ◌+◌, ◌-◌, ◌&&◌, nat_lt, nat_le, if◌then◌else◌, List, [], ◌∷◌, length}
use Rattle.sweep_laws.specs.State.{CoreState, SetState}
use Rattle.sweep_laws.specs.Lists.{put_cell}
use Rattle.sweep_laws.specs.Reading.{set_of, cell_of, is_swept_set}

-- the cell at the tail is taken
abbrev pub raise_tail : SetState → SetState
raise_tail s = record s { tail = s.tail + 1 }

-- the cell at the head is popped
abbrev pub raise_head : SetState → SetState
raise_head s = record s { head = s.head + 1 }

-- a cell names a page, by its number plus 1
abbrev pub name_page : ℕ → ℕ → SetState → SetState
name_page i page s = record s { cells = put_cell s.cells i (page + 1) }

-- the page that a cell names; a cell that names no page of the region counts as page 0
abbrev pub base_of : ℕ → ℕ → ℕ
base_of pages cell = if (nat_lt 0 cell && nat_le cell pages) then cell - 1 else 0

-- the page that the cell at the head of a set names
abbrev pub head_base : CoreState → ℕ → ℕ
head_base c s = base_of (length c.words) (cell_of (set_of c s) (set_of c s).head)

-- the unswept sets, of those numbered from `number` on, are emptied
abbrev pub empty_unswept : ℕ → ℕ → List SetState → List SetState
empty_unswept generation number [] = []
empty_unswept generation number (s ∷ sets) =
    (if is_swept_set generation number then s else record s { head = 0; tail = 0; cells = [] })
    ∷ empty_unswept generation (number + 1) sets
