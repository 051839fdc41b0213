-- The table of size classes as lines of text.
use Rattle.std.specs.Prelude.{ℕ, zero, suc, List, [], ◌∷◌, ◌++◌, codes, decimal}
use Rattle.std.specs.List.{concat}
use Rattle.edge_io.specs.Text.{text}
use Rattle.size_classes.specs.Classes.{objects_of, pages_of, slot_of}

-- The line of a class: its number, the bytes of an object, the pages of a span, and the objects of a span.
abbrev pub class_line : ℕ → List ℕ
class_line class = concat (codes "c " ∷ decimal class ∷ codes " " ∷ decimal (slot_of class) ∷ codes " " ∷ decimal (pages_of class) ∷ codes " " ∷ decimal (objects_of class) ∷ [])

-- The lines of the classes from 1 to this one.
unfoldable pub lines_to : ℕ → List (List ℕ)
lines_to zero = []
lines_to (suc class) = lines_to class ++ class_line (suc class) ∷ []

-- The lines of all classes.
unfoldable pub classes_text : List ℕ
classes_text = text (lines_to 67)
