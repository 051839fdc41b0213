-- The one need that an object of a size has.
use Rattle.std.proofs.Common.{◌≡◌, ℕ, zero, suc, ◌+◌, ◌*◌, ◌/◌, ◌≤◌, Bool, true, false, leb, refl, sym, ◌∙◌, ap, arith, inl, inr}
use Rattle.std.proofs.lemmas.Bool.{cases_lt, cases_eq, leb-true, leb-false}
use Rattle.size_classes.specs.Classes.{IsClass, IsLeastClass, slot_of, pages_of, objects_of, span_class_of}
use Rattle.cycle_history.specs.Needs.{Need, IsNeed}

-- the first of n classes from this one that holds the size, or the class after them
abbrev pub least_from : ℕ → ℕ → ℕ → ℕ
least_from size class zero = class
least_from size class (suc n) = elim (leb size (slot_of class)) [ true ↦ class | false ↦ least_from size (class + 1) n ]

least-found : (size n class : ℕ) → 1 ≤ class → class + n ≡ 67 → size ≤ slot_of 67 → ((other : ℕ) → IsClass other → size ≤ slot_of other → class ≤ other) → IsLeastClass size (least_from size class n)
least-found size zero class low high fits least = let e : class ≡ 67 = omega arith in record { is_class = (low, omega arith); room = rw e fits; least = least }
least-found size (suc n) class low high fits least =
    found (leb size (slot_of class)) refl (λ later. least-found size n (class + 1) (omega arith) (omega arith) fits later)
  where
    found : (b : Bool) → leb size (slot_of class) ≡ b → (((other : ℕ) → IsClass other → size ≤ slot_of other → class + 1 ≤ other) → IsLeastClass size (least_from size (class + 1) n))
        → IsLeastClass size (elim b [ true ↦ class | false ↦ least_from size (class + 1) n ])
    found true e next = record { is_class = (low, omega arith); room = leb-true size (slot_of class) e; least = least }
    found false e next =
        let over = leb-false size (slot_of class) e in
        next (λ other is room.
        let above = least other is room in
        elim (cases_eq other class) [
          | inl same ↦ (let slots : slot_of other ≡ slot_of class = ap slot_of same in absurd (omega arith))
          | inr differs ↦ omega arith
        ])

abbrev pub least_class : ℕ → ℕ
least_class size = least_from size 1 66

last_slot : slot_of 67 ≡ 32768
unfolding slot_of
last_slot = refl

least_class-least : (size : ℕ) → size ≤ 32768 → IsLeastClass size (least_class size)
least_class-least size small = let e = last_slot in least-found size 66 1 (omega arith) (omega arith) (omega arith) (λ other is room. is.0)

abbrev pub small_need : Bool → ℕ → Need
small_need scan class = record { class = span_class_of class scan; pages = pages_of class; slot = slot_of class; count = objects_of class }

abbrev pub large_need : Bool → ℕ → Need
large_need scan pages = record { class = span_class_of 0 scan; pages = pages; slot = 8192 * pages; count = 1 }

abbrev pub need_for : ℕ → Bool → Need
need_for size scan = elim (leb size 32768) [ true ↦ small_need scan (least_class size) | false ↦ large_need scan ((size + 8191) / 8192) ]

need-same : (a b : Need) → a.class ≡ b.class → a.pages ≡ b.pages → a.slot ≡ b.slot → a.count ≡ b.count → a ≡ b
need-same a b e1 e2 e3 e4 =
    let made : ℕ → ℕ → ℕ → ℕ → Need = λ class pages slot count. record { class = class; pages = pages; slot = slot; count = count } in
    let e : made a.class a.pages a.slot a.count ≡ made b.class b.pages b.slot b.count = cc in e

least-one : (size a b : ℕ) → IsLeastClass size a → IsLeastClass size b → a ≡ b
least-one size a b la lb =
    let ab = la.least b lb.is_class lb.room in
    let ba = lb.least a la.is_class la.room in
    omega arith

pub need_for-is : (size : ℕ) (scan : Bool) → IsNeed size scan (need_for size scan)
need_for-is size scan = by (leb size 32768) refl
  where
    by : (b : Bool) → leb size 32768 ≡ b → IsNeed size scan (elim b [ true ↦ small_need scan (least_class size) | false ↦ large_need scan ((size + 8191) / 8192) ])
    by true e = let le = leb-true size 32768 e in record {
      small = λ small. (least_class size, least_class-least size small, record { class = refl; pages = refl; slot = refl; count = refl });
      large = λ large. absurd (omega arith);
    }
    by false e = let over = leb-false size 32768 e in record {
      small = λ small. absurd (omega arith);
      large = λ large. record { class = refl; pages = refl; slot = refl; count = refl };
    }

pub need-one : (size : ℕ) (scan : Bool) (a b : Need) → IsNeed size scan a → IsNeed size scan b → a ≡ b
need-one size scan a b na nb = elim (cases_lt 32768 size) [
  | inl large ↦ (
      let la = na.large large in
      let lb = nb.large large in
      let e2 : a.pages ≡ b.pages = la.pages ∙ sym lb.pages in
      need-same a b (la.class ∙ sym lb.class) e2 (la.slot ∙ ap (λ (p : ℕ). 8192 * p) e2 ∙ sym lb.slot) (la.count ∙ sym lb.count))
  | inr small ↦ (
      let sa = na.small small in
      let sb = nb.small small in
      let same : sa.0 ≡ sb.0 = least-one size sa.0 sb.0 sa.1 sb.1 in
      need-same a b
      (sa.2.class ∙ ap (λ (c : ℕ). span_class_of c scan) same ∙ sym sb.2.class)
      (sa.2.pages ∙ ap pages_of same ∙ sym sb.2.pages)
      (sa.2.slot ∙ ap slot_of same ∙ sym sb.2.slot)
      (sa.2.count ∙ ap objects_of same ∙ sym sb.2.count))
]

pub need-slot : (size : ℕ) (scan : Bool) (need : Need) → 1 ≤ size → IsNeed size scan need → 1 ≤ need.slot
need-slot size scan need some is = elim (cases_lt 32768 size) [
  | inl large ↦ (let l = is.large large in omega arith)
  | inr small ↦ (let s = is.small small in let room = s.1.room in let e = s.2.slot in omega arith)
]
