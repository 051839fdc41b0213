-- What an object needs of the span that it is placed in.
use Rattle.std.specs.Prelude.{◌≡◌, ℕ, ◌+◌, ◌*◌, ◌/◌, ◌<◌, ◌≤◌, Bool}
use Rattle.size_classes.specs.Classes.{IsLeastClass, slot_of, pages_of, objects_of, span_class_of}

-- A need is a span class with the pages of such a span, the bytes of each of its slots, and their count.
pub record Need : Type 0 where
  pub class : ℕ
  pub pages : ℕ
  pub slot : ℕ
  pub count : ℕ

-- A small object takes a slot in a span of the size class.
pub record IsSmallNeed (scan : Bool) (size_class : ℕ) (need : Need) : Type 0 where
  pub class : need.class ≡ span_class_of size_class scan
  pub pages : need.pages ≡ pages_of size_class
  pub slot : need.slot ≡ slot_of size_class
  pub count : need.count ≡ objects_of size_class

-- A large object takes a span of size class 0 to itself, of as many whole pages as its size fills.
pub record IsLargeNeed (size : ℕ) (scan : Bool) (need : Need) : Type 0 where
  pub class : need.class ≡ span_class_of 0 scan
  pub pages : need.pages ≡ (size + 8191) / 8192
  pub slot : need.slot ≡ 8192 * need.pages
  pub count : need.count ≡ 1

-- An object of a size above 0 needs the least size class that holds it, or else a span of its own.
pub record IsNeed (size : ℕ) (scan : Bool) (need : Need) : Type 0 where
  pub small : size ≤ 32768 → (size_class : ℕ) × IsLeastClass size size_class × IsSmallNeed scan size_class need
  pub large : 32768 < size → IsLargeNeed size scan need
