-- What spans' allocation bits and marks say of a run's objects.
use Rattle.std.specs.Prelude.{◌≡◌, ℕ, Bool, true, List}
use Rattle.page_alloc.specs.Lists.{In}
use Rattle.cycle_history.specs.Requests.{Marking}
use Rattle.cycle_history.specs.Objects.{Object, is_placed, live}

-- An object that lives in cycle m has this index of the life.
abbrev pub HasIndex : Marking → ℕ → List Object → ℕ → ℕ → Type 0
HasIndex marked m objects n k = (o : Object) × In o objects × (live marked m o ≡ true) × (o.life ≡ n) × (o.index ≡ k)

-- The bits of a life's span, which was taken or swept last in cycle m, are the indices of its objects that live in m.
pub record AreBits (marked : Marking) (m : ℕ) (objects : List Object) (n : ℕ) (bits : ℕ → Bool) : Type 0 where
  pub shown : (o : Object) → In o objects → live marked m o ≡ true → o.life ≡ n → bits o.index ≡ true
  pub from : (k : ℕ) → bits k ≡ true → HasIndex marked m objects n k

-- A placed object that mark end m marks has this index of the life.
abbrev pub HasMarkedIndex : Marking → ℕ → List Object → ℕ → ℕ → Type 0
HasMarkedIndex marked m objects n k = (o : Object) × In o objects × (is_placed o.answer ≡ true) × (marked m o.id ≡ true) × (o.life ≡ n) × (o.index ≡ k)

-- The marks of a life's page at mark end m are the indices of its objects that the mark end marks.
pub record AreMarks (marked : Marking) (m : ℕ) (objects : List Object) (n : ℕ) (marks : ℕ → Bool) : Type 0 where
  pub shown : (o : Object) → In o objects → is_placed o.answer ≡ true → marked m o.id ≡ true → o.life ≡ n → marks o.index ≡ true
  pub from : (k : ℕ) → marks k ≡ true → HasMarkedIndex marked m objects n k
