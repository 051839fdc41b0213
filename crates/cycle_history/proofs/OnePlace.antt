-- A size and an address determine a page and an index, by a test over the whole table of size classes.
use Rattle.std.proofs.Common.{◌≡◌, ℕ, zero, suc, ◌+◌, ◌-◌, ◌*◌, ◌%◌, ◌<◌, ◌≤◌, Bool, true, false, not, ◌&&◌, ◌||◌, eqb, List, [], ◌∷◌, length, get_or, refl, sym, ◌∙◌, ap, arith, inl, inr}
use Rattle.std.proofs.lemmas.Bool.{cases_eq, cases_lt, cases_order, eq-eqb, ne_eqb, and_parts}
use Rattle.std.proofs.Math.Nat.{mul-le-mul_left}
use Rattle.size_classes.specs.Table.{slot_sizes, object_counts}
use Rattle.size_classes.specs.Classes.{IsClass, IsLeastClass, slot_of, objects_of}
use Rattle.size_classes.proofs.Bounds.{slot_bounds}
use Rattle.cycle_history.specs.Places.{IsPlace}

-- no number of slots from 1 up to the count fills whole pages
abbrev never_whole : ℕ → ℕ → Bool
never_whole slot zero = true
never_whole slot (suc n) = (eqb n 0 || not (eqb (slot * n % 8192) 0)) && never_whole slot n

whole-none : (slot count n : ℕ) → never_whole slot count ≡ true → 0 < n → n < count → slot * n % 8192 ≡ 0 → ⊥
whole-none slot zero n h some lt whole = omega arith
whole-none slot (suc m) n h some lt whole =
    let parts = and_parts (eqb m 0 || not (eqb (slot * m % 8192) 0)) (never_whole slot m) h in
    elim (cases_eq n m) [
      | inl same ↦ (
          let first : eqb m 0 ≡ false = ne_eqb m 0 (λ e. omega arith) in
          let second : eqb (slot * m % 8192) 0 ≡ true = eq-eqb _ _ (ap (λ (i : ℕ). slot * i % 8192) (sym same) ∙ whole) in
          let off : (false || not true) ≡ true = rw (first, second) at parts.0 in
          cc)
      | inr other ↦ whole-none slot m n parts.1 some (omega arith) whole
    ]

-- so it is in each class
abbrev all_never : List ℕ → List ℕ → Bool
all_never [] counts = true
all_never (slot ∷ slots) [] = false
all_never (slot ∷ slots) (count ∷ counts) = never_whole slot count && all_never slots counts

all_never-at : (slots counts : List ℕ) (k : ℕ) → all_never slots counts ≡ true → k < length slots → never_whole (get_or slots k 0) (get_or counts k 0) ≡ true
all_never-at [] counts k h lt = absurd (omega arith)
all_never-at (slot ∷ slots) [] k h lt = cc
all_never-at (slot ∷ slots) (count ∷ counts) zero h lt = (and_parts (never_whole slot count) (all_never slots counts) h).0
all_never-at (slot ∷ slots) (count ∷ counts) (suc k) h lt = all_never-at slots counts k (and_parts (never_whole slot count) (all_never slots counts) h).1 (omega arith)

class_never : (class : ℕ) → IsClass class → never_whole (slot_of class) (objects_of class) ≡ true
unfolding slot_of objects_of
class_never class is_class = all_never-at slot_sizes object_counts class refl (omega arith)

-- equal addresses of slots that never fill whole pages are of one page and one index
no_later : (slot count p q j k : ℕ) → never_whole slot count ≡ true → j < count → 8192 * p + slot * j ≡ 8192 * q + slot * k → ¬ (p < q)
no_later slot count p q j k never lt same less =
    elim (cases_lt k j) [
      | inl below ↦ (
          let n = j - k in
          let sum : slot * j ≡ slot * k + slot * n = (let e : j ≡ k + n = omega arith in ap (λ (i : ℕ). slot * i) e ∙ omega arith) in
          let whole : slot * n % 8192 ≡ 0 = omega arith in
          whole-none slot count n never (omega arith) (omega arith) whole)
      | inr above ↦ (let m = mul-le-mul_left slot above in omega arith)
    ]

slot_index : (slot j k : ℕ) → 1 ≤ slot → slot * j ≡ slot * k → j ≡ k
slot_index slot j k some same =
    elim (cases_order j k) [
      | inl equal ↦ equal
      | inr order ↦ elim order [
        | inl lt ↦ (let m : slot * suc j ≤ slot * k = mul-le-mul_left slot lt in absurd (omega arith))
        | inr gt ↦ (let m : slot * suc k ≤ slot * j = mul-le-mul_left slot gt in absurd (omega arith))
      ]
    ]

slots_differ : (slot count p q j k : ℕ) → never_whole slot count ≡ true → 1 ≤ slot → j < count → k < count → 8192 * p + slot * j ≡ 8192 * q + slot * k → (p ≡ q) × (j ≡ k)
slots_differ slot count p q j k never some lt lt' same =
    elim (cases_order p q) [
      | inl equal ↦ (equal, slot_index slot j k some (omega arith))
      | inr order ↦ elim order [
        | inl less ↦ absurd (no_later slot count p q j k never lt same less)
        | inr more ↦ absurd (no_later slot count q p k j never lt' (sym same) more)
      ]
    ]

-- a size has one least class, and so one slot and one count
pub least-one : (size a b : ℕ) → IsLeastClass size a → IsLeastClass size b → a ≡ b
least-one size a b ia ib =
    let low = ia.least b ib.is_class ib.room in
    let high = ib.least a ia.is_class ia.room in
    omega arith

-- An address is of one place of its size.
pub place-one : (size address p q j k : ℕ) → IsPlace size address p j → IsPlace size address q k → (p ≡ q) × (j ≡ k)
place-one size address p q j k a b =
    let ea = a.slot.start in
    let eb = b.slot.start in
    elim (cases_lt 32768 size) [
      | inr small ↦ (
          let ca = a.fits.small small in
          let cb = b.fits.small small in
          let same = least-one size ca.0 cb.0 ca.1 cb.1 in
          let slot = slot_of ca.0 in
          let slot-a : a.need.slot ≡ slot = ca.2.slot in
          let slot-b : b.need.slot ≡ slot = cb.2.slot ∙ ap slot_of (sym same) in
          let count-b : b.need.count ≡ objects_of ca.0 = cb.2.count ∙ ap objects_of (sym same) in
          let lt : j < objects_of ca.0 = (let e = ca.2.count in let l = a.slot.index in omega arith) in
          let lt' : k < objects_of ca.0 = (let l = b.slot.index in omega arith) in
          let bounds = slot_bounds ca.0 ca.1.is_class in
          let ja : a.need.slot * j ≡ slot * j = ap (λ (i : ℕ). i * j) slot-a in
          let kb : b.need.slot * k ≡ slot * k = ap (λ (i : ℕ). i * k) slot-b in
          slots_differ slot (objects_of ca.0) p q j k (class_never ca.0 ca.1.is_class) bounds.0 lt lt' (omega arith))
      | inl large ↦ (
          let la = a.fits.large large in
          let lb = b.fits.large large in
          let ca = la.count in
          let cb = lb.count in
          let l = a.slot.index in
          let l' = b.slot.index in
          let j0 : j ≡ 0 = omega arith in
          let k0 : k ≡ 0 = omega arith in
          let ja : a.need.slot * j ≡ 0 = ap (λ (i : ℕ). a.need.slot * i) j0 ∙ omega arith in
          let kb : b.need.slot * k ≡ 0 = ap (λ (i : ℕ). b.need.slot * i) k0 ∙ omega arith in
          (omega arith, j0 ∙ sym k0))
    ]
