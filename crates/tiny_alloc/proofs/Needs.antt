-- Each size has a need.
use Rattle.std.proofs.Common.{◌≡◌, ℕ, zero, suc, ◌+◌, ◌*◌, ◌/◌, ◌<◌, ◌≤◌, Bool, refl, subst, arith, ◌⊎◌, inl, inr}
use Rattle.std.proofs.lemmas.Bool.{cases_lt}
use Rattle.size_classes.specs.Classes.{IsLeastClass, objects_of, pages_of, slot_of, span_class_of}
use Rattle.cycle_history.specs.Needs.{IsNeed, Need}

-- the least class up to one, or none of them
least-below : (size n : ℕ) → n ≤ 67 → ((class : ℕ) × (class ≤ n) × IsLeastClass size class) ⊎ ((c : ℕ) → 1 ≤ c → c ≤ n → slot_of c < size)
least-below size zero le = inr (λ c some few. absurd (omega arith))
least-below size (suc n) le = elim (least-below size n (omega arith)) [
  | inl found ↦ inl (found.0, (let less = found.1 in omega arith), found.2)
  | inr none ↦ elim (cases_lt (slot_of (suc n)) size) [
    | inl small ↦ inr (λ c some few. elim (cases_lt c (suc n)) [
      | inl below ↦ none c some (omega arith)
      | inr top ↦ (let e : suc n ≡ c = omega arith in subst (λ (k : ℕ). slot_of k < size) e small)
    ])
    | inr room ↦ inl (
      suc n,
      omega arith,
      record {
        is_class = (omega arith, omega arith);
        room = room;
        least = λ other is fits. elim (cases_lt other (suc n)) [
          | inl below ↦ (let some = is.0 in let small = none other some (omega arith) in absurd (omega arith))
          | inr top ↦ top
        ];
      },
    )
  ]
]

last-slot : slot_of 67 ≡ 32768
unfolding slot_of
last-slot = refl

a-class : (size : ℕ) → size ≤ 32768 → (class : ℕ) × IsLeastClass size class
a-class size le = elim (least-below size 67 (omega arith)) [
  | inl found ↦ (found.0, found.2)
  | inr none ↦ (let small = none 67 (omega arith) (omega arith) in let last = last-slot in absurd (omega arith))
]

pub a-need : (size : ℕ) (scan : Bool) → (need : Need) × IsNeed size scan need
a-need size scan = elim (cases_lt 32768 size) [
  | inl large ↦ (
    record { class = span_class_of 0 scan; pages = (size + 8191) / 8192; slot = 8192 * ((size + 8191) / 8192); count = 1 },
    record { small = λ le. absurd (omega arith); large = λ lt. record { class = refl; pages = refl; slot = refl; count = refl } },
  )
  | inr small ↦ (
      let class = a-class size small in (
        record { class = span_class_of class.0 scan; pages = pages_of class.0; slot = slot_of class.0; count = objects_of class.0 },
        record { small = λ le. (class.0, class.1, record { class = refl; pages = refl; slot = refl; count = refl }); large = λ lt. absurd (omega arith) },
      ))
]
