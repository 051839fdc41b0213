-- What a size needs has slots that fit into its pages.
use Rattle.std.proofs.Common.{◌≡◌, ℕ, zero, suc, ◌*◌, ◌/◌, ◌<◌, ◌≤◌, Bool, true, false, ◌&&◌, leb, ltb, List, [], ◌∷◌, length, get_or, refl, sym, ◌∙◌, ap, arith, inl, inr}
use Rattle.std.proofs.lemmas.Bool.{cases_lt, and_parts, lt-ltb, le-ltb, leb-true}
use Rattle.size_classes.specs.Table.{slot_sizes, page_counts, object_counts}
use Rattle.size_classes.specs.Classes.{IsClass, IsLeastClass, slot_of, pages_of, objects_of, span_class_of}
use Rattle.cycle_history.specs.Needs.{Need, IsNeed, IsSmallNeed, IsLargeNeed}
use Rattle.sound_run.specs.Run.{slot_for, count_for, Fits}

-- of each size class
abbrev fit_all : List ℕ → List ℕ → List ℕ → Bool
fit_all [] pages counts = true
fit_all (slot ∷ slots) [] counts = false
fit_all (slot ∷ slots) (page ∷ pages) [] = false
fit_all (slot ∷ slots) (page ∷ pages) (count ∷ counts) = leb (slot * count) (8192 * page) && fit_all slots pages counts

fit-at : (slots pages counts : List ℕ) (k : ℕ) → fit_all slots pages counts ≡ true → k < length slots → get_or slots k 0 * get_or counts k 0 ≤ 8192 * get_or pages k 0
fit-at [] pages counts k h lt = absurd (omega arith)
fit-at (slot ∷ slots) [] counts k h lt = absurd (cc)
fit-at (slot ∷ slots) (page ∷ pages) [] k h lt = absurd (cc)
fit-at (slot ∷ slots) (page ∷ pages) (count ∷ counts) zero h lt = leb-true (slot * count) (8192 * page) (and_parts (leb (slot * count) (8192 * page)) (fit_all slots pages counts) h).0
fit-at (slot ∷ slots) (page ∷ pages) (count ∷ counts) (suc k) h lt = fit-at slots pages counts k (and_parts (leb (slot * count) (8192 * page)) (fit_all slots pages counts) h).1 (omega arith)

class-room : (class : ℕ) → IsClass class → slot_of class * objects_of class ≤ 8192 * pages_of class
unfolding slot_of objects_of pages_of
class-room class is_class = fit-at slot_sizes page_counts object_counts class refl (omega arith)

-- the size class of a small span class
half : (class : ℕ) (scan : Bool) → span_class_of class scan / 2 ≡ class
half class true = omega arith
half class false = omega arith

small-class : (class : ℕ) (scan : Bool) → 1 ≤ class → 2 ≤ span_class_of class scan
small-class class true some = omega arith
small-class class false some = omega arith

large-class : (scan : Bool) → span_class_of 0 scan < 2
large-class true = omega arith
large-class false = omega arith

small-fits : (size class : ℕ) (scan : Bool) (need : Need) → 1 ≤ size → IsLeastClass size class → IsSmallNeed scan class need → Fits need
small-fits size class scan need some least is =
    let low = small-class class scan least.is_class.0 in
    let room = class-room class least.is_class in
    let e : need.class / 2 ≡ class = ap (λ (k : ℕ). k / 2) is.class ∙ half class scan in
    let off : ltb need.class 2 ≡ false = rw is.class (le-ltb (span_class_of class scan) 2 low) in
    record {
      some = (let a = least.room in let b = is.slot in omega arith);
      room = rw (is.slot, is.count, is.pages) room;
      slot = (let s : slot_for need.class need.pages ≡ slot_of (need.class / 2) = rw off refl in is.slot ∙ ap slot_of (sym e) ∙ sym s);
      count = (let s : count_for need.class ≡ objects_of (need.class / 2) = rw off refl in is.count ∙ ap objects_of (sym e) ∙ sym s);
    }

large-fits : (size : ℕ) (scan : Bool) (need : Need) → 32768 < size → IsLargeNeed size scan need → Fits need
large-fits size scan need big is =
    let low = large-class scan in
    let on : ltb need.class 2 ≡ true = rw is.class (lt-ltb (span_class_of 0 scan) 2 low) in
    record {
      some = (let a = is.slot in let b = is.pages in omega arith);
      room = rw is.count (let a = is.slot in omega arith);
      slot = (let s : slot_for need.class need.pages ≡ 8192 * need.pages = rw on refl in is.slot ∙ sym s);
      count = (let s : count_for need.class ≡ 1 = rw on refl in is.count ∙ sym s);
    }

pub need-fits : (size : ℕ) (scan : Bool) (need : Need) → 1 ≤ size → IsNeed size scan need → Fits need
need-fits size scan need some is =
    elim (cases_lt 32768 size) [
      | inl big ↦ large-fits size scan need big (is.large big)
      | inr small ↦ (let at = is.small small in small-fits size at.0 scan need some at.1 at.2)
    ]

-- and a small need has the pages of its class
pub need-pages : (size : ℕ) (scan : Bool) (need : Need) → IsNeed size scan need → 2 ≤ need.class → need.pages ≡ pages_of (need.class / 2)
need-pages size scan need is small =
    elim (cases_lt 32768 size) [
      | inl big ↦ (let l = is.large big in let low = large-class scan in let e = l.class in absurd (omega arith))
      | inr le ↦ (let at = is.small le in at.2.pages ∙ ap pages_of (sym (ap (λ (k : ℕ). k / 2) at.2.class ∙ half at.0 scan)))
    ]
