-- What a move may need of a set and its cells, and of a claim.
use Rattle.std.specs.Prelude.{ℕ, ◌==◌, not, nat_lt, Option, Some, None}
use Rattle.std.specs.Option.{is_some}
use Rattle.sweep_laws.specs.declared.moves.Claimed.{Claimed}
use Rattle.sweep_laws.specs.declared.moves.Found.TheVariants.{Cell, HeadTail, Index, Range}
use Rattle.sweep_laws.specs.State.{CoreState}
use Rattle.sweep_laws.specs.Reading.{hand_of, set_of, cell_of, life_at, life_of, class_of_set, is_swept_set}
use Rattle.sweep_laws.specs.NeedsOfRange.{Need, need}

-- the index of a claim
abbrev pub claimed_index : Option Claimed → Option ℕ
claimed_index None = None
claimed_index (Some claim) = Some claim.index

-- the worker has no claim
abbrev pub claims_nothing : CoreState → ℕ → Need
claims_nothing c w = need (not (is_some (hand_of c w).claimed)) (Index (claimed_index (hand_of c w).claimed))

-- the worker has a claim
abbrev pub claims_something : CoreState → ℕ → Need
claims_something c w = need (is_some (hand_of c w).claimed) (Index None)

-- there are unpopped cells in the set
abbrev pub has_entries : CoreState → ℕ → Need
has_entries c s = need (nat_lt (set_of c s).head (set_of c s).tail) (HeadTail (set_of c s).head (set_of c s).tail)

-- the set is of the swept part
abbrev pub part_is_swept : CoreState → ℕ → Need
part_is_swept c s = need (is_swept_set c.generation s) Range

-- the set is of the unswept part
abbrev pub part_is_unswept : CoreState → ℕ → Need
part_is_unswept c s = need (not (is_swept_set c.generation s)) Range

-- a span begins at the page
abbrev pub life_begins : CoreState → ℕ → Need
life_begins c page = need (is_some (life_at c page)) Range

-- the span that begins at the page is of the class of the set
abbrev pub class_is_of_set : CoreState → ℕ → ℕ → Need
class_is_of_set c s page = need ((life_of c page).class == class_of_set s) Range

-- a tail is a number of 32 bits, and can rise still
abbrev pub tail_has_room : CoreState → ℕ → Need
tail_has_room c s = need (nat_lt (set_of c s).tail 4294967295) (HeadTail (set_of c s).head (set_of c s).tail)

-- the cell at the head is filled, and not only claimed
abbrev pub cell_is_filled : CoreState → ℕ → Need
cell_is_filled c s = need (not (cell_of (set_of c s) (set_of c s).head == 0)) (Cell 0)
