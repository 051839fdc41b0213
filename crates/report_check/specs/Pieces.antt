-- The pieces in which a report's objects are judged, each with the objects of some size classes.
use Rattle.std.specs.Prelude.{◌≡◌, ℕ, ◌/◌, ◌%◌, ◌==◌, Bool, true, false, List, map}
use Rattle.cycle_history.specs.declared.Answer.{Answer}
use Rattle.cycle_history.specs.declared.Answer.TheVariants.{Placed, Zero, Missed}
use Rattle.cycle_history.specs.Objects.{is_placed}
use Rattle.report_check.specs.declared.items.Item.{Item}
use Rattle.report_check.specs.declared.piece.Piece.{Piece}

-- The piece has the objects of the span class, which are those of its size class.
abbrev pub is_of : Piece → ℕ → Bool
is_of piece class = class / 2 % piece.count == piece.number

-- The item is placed, and is one of the piece's.
abbrev pub IsSeen : Piece → Item → Type 0
IsSeen piece item = (is_placed item.answer ≡ true) × (is_of piece item.class ≡ true)

-- The answer of an object that is left out: no address.
abbrev pub unplaced : Answer → Answer
unplaced Zero = Zero
unplaced (Placed address) = Missed 0
unplaced (Missed line) = Missed line

-- The item, which is left out where the piece doesn't have it.
abbrev pub left_in : Bool → Item → Item
left_in true item = item
left_in false item = record item { answer = unplaced item.answer }

-- The item as the piece sees it: it is placed where it is one of the piece's alone.
abbrev pub seen : Piece → Item → Item
seen piece item = left_in (is_of piece item.class) item

-- The items as the piece sees them.
abbrev pub seen_by : Piece → List Item → List Item
seen_by piece items = map (seen piece) items
