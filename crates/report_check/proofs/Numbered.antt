-- Objects and their items.
use Rattle.std.proofs.Common.{◌≡◌, ℕ, List, [], ◌∷◌, reverse, length, Some, refl, sym, ◌∙◌, ap, subst, inl, inr}
use Rattle.std.specs.List.{slice_get}
use Rattle.std.proofs.lemmas.List.{reverse-reverse}
use Rattle.page_alloc.specs.Lists.{In, IsNumber}
use Rattle.cycle_history.specs.Objects.{Object}
use Rattle.cycle_history.proofs.OfObjects.{number-get, get-number}
use Rattle.report_check.specs.declared.items.Item.{Item}
use Rattle.report_check.specs.Items.{object_of, objects_from, objects_of}

-- an object is that of the item with its number
pub record IsOf (items : List Item) (o : Object) : Type 0 where
  pub number : ℕ
  pub item : Item
  pub at : slice_get items number ≡ Some item
  pub is : o ≡ object_of number item

from-in : (items : List Item) (o : Object) → In o (objects_from items) → (n : ℕ) × (item : Item) × IsNumber n item items × (o ≡ object_of n item)
from-in [] o i = absurd i
from-in (item ∷ items) o i = elim i [
  | inl here ↦ (length items, item, inl (refl, refl), sym here)
  | inr there ↦ (let r = from-in items o there in (r.0, r.1, inr r.2, r.3))
]

to-in : (items : List Item) (n : ℕ) (item : Item) → IsNumber n item items → In (object_of n item) (objects_from items)
to-in [] n item h = absurd h
to-in (x ∷ items) n item h = elim h [
  | inl here ↦ inl (ap (λ (k : ℕ). object_of k x) here.0 ∙ ap (λ (y : Item). object_of n y) here.1)
  | inr there ↦ inr (to-in items n item there)
]

pub item-of : (items : List Item) (o : Object) → In o (objects_of items) → IsOf items o
item-of items o i =
    let r = from-in (reverse items) o i in
    let at : slice_get (reverse (reverse items)) r.0 ≡ Some r.1 = number-get r.0 r.1 (reverse items) r.2 in
    record { number = r.0; item = r.1; at = subst (λ (xs : List Item). slice_get xs r.0 ≡ Some r.1) (reverse-reverse items) at; is = r.3 }

pub object-in : (items : List Item) (n : ℕ) (item : Item) → slice_get items n ≡ Some item → In (object_of n item) (objects_of items)
object-in items n item at =
    to-in (reverse items) n item (get-number n item (reverse items) (subst (λ (xs : List Item). slice_get xs n ≡ Some item) (sym (reverse-reverse items)) at))
