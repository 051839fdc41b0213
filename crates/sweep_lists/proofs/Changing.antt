-- A list that is changed place by place.
use Rattle.std.proofs.Common.{◌≡◌, ℕ, zero, suc, ◌+◌, ◌<◌, ◌≤◌, Bool, true, false, if◌then◌else◌, List, [], ◌∷◌, length, get_or, set, map, refl, sym, ap, ◌∙◌, arith}
use Rattle.std.specs.List.{All}
use Rattle.std.proofs.lemmas.List.Elements.{All-cons, All-head, All-tail}
use Rattle.sweep_lists.specs.declared.set.CoreSet.{CoreSet}
use Rattle.sweep_lists.specs.Loops.{changed_to, emptied_at, emptied_unless}
use Rattle.sweep_laws.specs.ChangesOfSets.{empty_unswept}
use Rattle.sweep_laws.specs.Reading.{is_swept_set}
use Rattle.sweep_lists.specs.Views.{set_view}

module _ {A : Type 0} (f : ℕ → A → A) where
  changed-step : (n k : ℕ) (xs : List A) (d : A) → k < length xs → set (changed_to f n k xs) k (f (n + k) (get_or (changed_to f n k xs) k d)) ≡ changed_to f n (suc k) xs
  changed-step n k [] d low = absurd (omega arith)
  changed-step n zero (x ∷ xs) d low = let e : n + 0 ≡ n = omega arith in ap (λ m. f m x ∷ xs) e
  changed-step n (suc k) (x ∷ xs) d low =
      let e : n + suc k ≡ (n + 1) + k = omega arith in
      ap (λ m. f n x ∷ set (changed_to f (n + 1) k xs) k (f m (get_or (changed_to f (n + 1) k xs) k d))) e
      ∙ ap (λ ys. f n x ∷ ys) (changed-step (n + 1) k xs d (omega arith))

  -- one place more
  pub changed-more : (k : ℕ) (xs ys : List A) (d : A) → k < length xs → ys ≡ changed_to f 0 k xs → set ys k (f k (get_or ys k d)) ≡ changed_to f 0 (k + 1) xs
  changed-more k xs ys d low is =
      let e : 0 + k ≡ k = omega arith in
      let g : suc k ≡ k + 1 = omega arith in
      ap (λ zs. set zs k (f k (get_or zs k d))) is
      ∙ ap (λ m. set (changed_to f 0 k xs) k (f m (get_or (changed_to f 0 k xs) k d))) (sym e)
      ∙ changed-step 0 k xs d low ∙ ap (λ m. changed_to f 0 m xs) g

  -- a place that is not reached yet is as it was
  changed-at : (n k : ℕ) (xs : List A) (d : A) → get_or (changed_to f n k xs) k d ≡ get_or xs k d
  changed-at n zero xs d = refl
  changed-at n (suc k) [] d = refl
  changed-at n (suc k) (x ∷ xs) d = changed-at (n + 1) k xs d

  pub changed-later : (k : ℕ) (xs ys : List A) (d : A) → ys ≡ changed_to f 0 k xs → get_or ys k d ≡ get_or xs k d
  changed-later k xs ys d is = ap (λ zs. get_or zs k d) is ∙ changed-at 0 k xs d

  -- what each change keeps holds of all
  pub All-changed : (P : A → Type 0) → ((n : ℕ) (x : A) → P x → P (f n x)) → (n k : ℕ) (xs : List A) → All P xs → All P (changed_to f n k xs)
  All-changed P keeps n zero xs all = all
  All-changed P keeps n (suc k) [] all = all
  All-changed P keeps n (suc k) (x ∷ xs) all =
      All-cons P (f n x) (changed_to f (n + 1) k xs) (keeps n x (All-head P x xs all)) (All-changed P keeps (n + 1) k xs (All-tail P x xs all))

  -- all places are changed: seen through a function, each is g of what it was
  pub changed-all : {B : Type 0} (v : A → B) (g : B → B) → ((n : ℕ) (x : A) → v (f n x) ≡ g (v x)) → (n : ℕ) (xs : List A) → map v (changed_to f n (length xs) xs) ≡ map g (map v xs)
  changed-all v g same n [] = refl
  changed-all v g same n (x ∷ xs) = ap (λ y. y ∷ map v (changed_to f (n + 1) (length xs) xs)) (same n x) ∙ ap (λ ys. g (v x) ∷ ys) (changed-all v g same (n + 1) xs)

seen-emptied : (b : Bool) (x : CoreSet) → set_view (emptied_unless b x) ≡ (if b then set_view x else record (set_view x) { head = 0; tail = 0; cells = [] })
seen-emptied true x = refl
seen-emptied false x = refl

pub emptied-all : (generation n : ℕ) (xs : List CoreSet) → map set_view (changed_to (emptied_at generation) n (length xs) xs) ≡ empty_unswept generation n (map set_view xs)
emptied-all generation n [] = refl
emptied-all generation n (x ∷ xs) =
    ap (λ y. y ∷ map set_view (changed_to (emptied_at generation) (n + 1) (length xs) xs)) (seen-emptied (is_swept_set generation n) x)
    ∙ ap (λ ys. (if is_swept_set generation n then set_view x else record (set_view x) { head = 0; tail = 0; cells = [] }) ∷ ys) (emptied-all generation (n + 1) xs)

-- an emptied set keeps its room
pub emptied-room : (n : ℕ) (b : Bool) (x : CoreSet) → n ≤ x.cells.space → n ≤ (emptied_unless b x).cells.space
emptied-room n true x h = h
emptied-room n false x h = h
