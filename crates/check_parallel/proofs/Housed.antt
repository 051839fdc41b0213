-- The pieces of the objects, and one pass over a piece's objects.
use Rattle.std.proofs.Common.{◌≡◌, ℕ, zero, suc, ◌/◌, ◌%◌, ◌≤◌, true, List, [], ◌∷◌, length, get_or, Some, refl, ◌∙◌, ap}
use Rattle.std.specs.List.{AllZip, slice_get}
use Rattle.std.proofs.lemmas.Bool.{eqb-true}
use Rattle.cycle_history.specs.declared.Answer.{Answer}
use Rattle.cycle_history.specs.declared.Answer.TheVariants.{Missed, Placed, Zero}
use Rattle.cycle_history.specs.Objects.{is_placed}
use Rattle.report_check.specs.declared.items.Item.{Item}
use Rattle.report_check.specs.declared.piece.Piece.{Piece}
use Rattle.report_check.specs.Pieces.{IsSeen}
use Rattle.check_parallel.specs.Homes.{AreHomes, home_at, home_by}

zip-size : {X Y : Type 0} (P : X → Y → Type 0) (xs : List X) (ys : List Y) → AllZip P xs ys → length ys ≡ length xs
zip-size P [] [] all = refl
zip-size P [] (y ∷ ys) all = absurd all
zip-size P (x ∷ xs) [] all = absurd all
zip-size P (x ∷ xs) (y ∷ ys) all = ap suc (zip-size P xs ys all.1)

zip-at : (count : ℕ) (items : List Item) (homes : List ℕ) (i : ℕ) (item : Item) → AllZip (λ (x : Item) (y : ℕ). y ≡ home_at count x) items homes → slice_get items i ≡ Some item → get_or homes i 0 ≡ home_at count item
zip-at count [] [] i item all at = cc
zip-at count [] (y ∷ ys) i item all at = absurd all
zip-at count (x ∷ xs) [] i item all at = absurd all
zip-at count (x ∷ xs) (y ∷ ys) zero item all at = (let same : x ≡ item = cc in all.0 ∙ ap (λ (z : Item). home_at count z) same)
zip-at count (x ∷ xs) (y ∷ ys) (suc i) item all at = zip-at count xs ys i item all.1 at

pub housed-all : (count : ℕ) (items : List Item) (homes : List ℕ) → 1 ≤ count → count ≤ 64 → AllZip (λ (x : Item) (y : ℕ). y ≡ home_at count x) items homes → AreHomes count items homes
housed-all count items homes some few all = record { some = some; few = few; size = zip-size (λ (x : Item) (y : ℕ). y ≡ home_at count x) items homes all; each = λ i item at. zip-at count items homes i item all at }

placed-home : (answer : Answer) (class count : ℕ) → is_placed answer ≡ true → home_by answer class count ≡ class / 2 % count
placed-home Zero class count placed = cc
placed-home (Placed address) class count placed = refl
placed-home (Missed line) class count placed = cc

-- an object that the piece sees has its home there
pub seen-home : (piece : Piece) (items : List Item) (homes : List ℕ) (n : ℕ) (item : Item) → AreHomes piece.count items homes → slice_get items n ≡ Some item → IsSeen piece item → get_or homes n 0 ≡ piece.number
seen-home piece items homes n item are at seen = are.each n item at ∙ (placed-home item.answer item.class piece.count seen.0 ∙ eqb-true (item.class / 2 % piece.count) piece.number seen.1)
