-- The slot of a small size has some bytes, and few.
use Rattle.std.proofs.Common.{◌≡◌, ℕ, zero, suc, ◌+◌, ◌*◌, ◌/◌, ◌^◌, ◌≤◌, Bool, true, List, [], ◌∷◌, get_or, refl, sym, subst, arith, inl, inr}
use Rattle.std.specs.Prelude.{if◌then◌else◌}
use Rattle.std.specs.List.{list_all}
use Rattle.std.proofs.Math.Dec.{leb}
use Rattle.std.proofs.lemmas.Bool.{and_parts, cases_Bool, le-leb, leb-true}
use Rattle.size_classes.specs.Table.{slot_sizes}
use Rattle.profile_cycle.specs.Naming.{first_from, slot_for}

pick : (b : Bool) (x y : ℕ) → b ≡ true → (if b then x else y) ≡ x
pick b x y e = rw e refl

-- the first of a list that is large enough is some item of it
first-some : (n : ℕ) (xs : List ℕ) → 1 ≤ n → ((k : ℕ) → get_or xs k 0 ≤ 32768) → (k : ℕ) → n ≤ get_or xs k 0 → (1 ≤ first_from n xs) × (first_from n xs ≤ 2 ^ 41)
first-some n [] high most k room = absurd (omega arith)
first-some n (x ∷ xs) high most zero room = (let on = le-leb n x room in let m = most 0 in rw on (omega arith, omega arith))
first-some n (x ∷ xs) high most (suc k) room =
    let rest = first-some n xs high (λ j. most (suc j)) k room in
    elim (cases_Bool (leb n x)) [
      | inl on ↦ (let le = leb-true n x on in let m = most 0 in rw on (omega arith, omega arith))
      | inr off ↦ rw off rest
    ]

-- the slot of a small size is a slot of the table, which has 32768 bytes at most
small-is : (size : ℕ) → size ≤ 32768 → slot_for size ≡ first_from size slot_sizes
unfolding slot_for
small-is size small = pick (leb size 32768) (first_from size slot_sizes) (8192 * ((size + 8191) / 8192)) (le-leb size 32768 small)

pub small-slot : (size : ℕ) → 1 ≤ size → size ≤ 32768 → (1 ≤ slot_for size) × (slot_for size ≤ 2 ^ 41)
small-slot size some small =
    subst (λ (n : ℕ). (1 ≤ n) × (n ≤ 2 ^ 41)) (sym (small-is size small)) (first-some size slot_sizes some (at-most slot_sizes refl) 67 (has-room size slot_sizes small refl))
  where
    at-most : (xs : List ℕ) → list_all (λ x. leb x 32768) xs ≡ true → (k : ℕ) → get_or xs k 0 ≤ 32768
    at-most [] all k = omega arith
    at-most (x ∷ xs) all zero = (let both = and_parts (leb x 32768) (list_all (λ y. leb y 32768) xs) all in leb-true x 32768 both.0)
    at-most (x ∷ xs) all (suc k) = (let both = and_parts (leb x 32768) (list_all (λ y. leb y 32768) xs) all in at-most xs both.1 k)

    has-room : (n : ℕ) (xs : List ℕ) → n ≤ 32768 → get_or xs 67 0 ≡ 32768 → n ≤ get_or xs 67 0
    has-room n xs le last = omega arith
