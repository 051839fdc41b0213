-- Lists whose last items go first, and the numbers of those that are out.
use Rattle.std.proofs.Common.{◌≡◌, ◌≢◌, ℕ, zero, suc, ◌+◌, ◌<◌, ◌≤◌, true, false, All, List, [], ◌∷◌, ◌++◌, take, length, get_or, refl, sym, ◌∙◌, ap, arith, inl, inr, subst}
use Rattle.std.specs.Prelude.{◌==◌}
use Rattle.std.specs.List.{AllByRecursion}
use Rattle.std.proofs.lemmas.Bool.{cases_Bool, ne_eqb}
use Rattle.std.proofs.lemmas.List.{get_or-take, get_or_append_left, get_or_at, length-append, length-take-le, take_all, take_at, take_more}
use Rattle.std.proofs.lemmas.List.Elements.{All-nil, All-push}
use Rattle.trace_reader.specs.declared.trace.Event.{Event}
use Rattle.sweep_laws.specs.Lists.{has}
use Rattle.heap_run.specs.Out.{AreOf, RisesFrom, busy, helpers, resting, rising}

-- ---- the last of a list

-- a list has one last item, and one rest
last-one : {X : Type 0} (xs ys : List X) (x y : X) → xs ++ x ∷ [] ≡ ys ++ y ∷ [] → (xs ≡ ys) × (x ≡ y)
last-one xs ys x y same =
    let n : length xs + 1 ≡ length ys + 1 = sym (length-append xs (x ∷ [])) ∙ ap (λ (l : List _). length l) same ∙ length-append ys (y ∷ []) in
    let m : length ys ≡ length xs = omega arith in (
      sym (take_at xs (x ∷ []) (length xs) refl) ∙ ap (λ (l : List _). take (length xs) l) same ∙ take_at ys (y ∷ []) (length xs) m,
      sym (get_or_at xs x [] x (length xs) refl) ∙ ap (λ (l : List _). get_or l (length xs) x) same ∙ get_or_at ys y [] x (length xs) m,
    )

-- one more
pub of-push : {X : Type 0} (P : ℕ → X → Type 0) (i : ℕ) (is : List ℕ) (xs ys : List X) (x : X) → AreOf P is xs → P i x → ys ≡ xs ++ x ∷ [] → AreOf P (i ∷ is) ys
of-push P i is xs ys x were p grown = (xs, x, grown, p, were)

-- one less
pub of-pop : {X : Type 0} (P : ℕ → X → Type 0) (i : ℕ) (is : List ℕ) (xs ys : List X) (x : X) → AreOf P (i ∷ is) xs → xs ≡ ys ++ x ∷ [] → P i x × AreOf P is ys
of-pop P i is xs ys x were split =
    let both = last-one were.0 ys were.1 x (sym were.2 ∙ split) in
    (subst (λ (y : _). P i y) both.1 were.3, subst (λ (l : List _). AreOf P is l) both.0 were.4)

pub of-length : {X : Type 0} (P : ℕ → X → Type 0) (is : List ℕ) (xs : List X) → AreOf P is xs → length xs ≡ length is
of-length P [] xs were = ap (λ (l : List _). length l) were
of-length P (i ∷ is) xs were =
    let l = ap (λ (l : List _). length l) were.2 ∙ length-append were.0 (were.1 ∷ []) in
    let r = of-length P is were.0 were.4 in
    omega arith

-- there is a last one
pub of-some : {X : Type 0} (P : ℕ → X → Type 0) (i : ℕ) (is : List ℕ) (xs : List X) → AreOf P (i ∷ is) xs → 0 < length xs
of-some P i is xs were = (let l = of-length P (i ∷ is) xs were in omega arith)

pub of-all : {X : Type 0} (P : ℕ → X → Type 0) (Q : X → Type 0) (is : List ℕ) (xs : List X) → AreOf P is xs → ((i : ℕ) (x : X) → P i x → Q x) → All Q xs
of-all P Q [] xs were f = subst (λ (l : List _). All Q l) (sym were) (All-nil Q)
of-all P Q (i ∷ is) xs were f = subst (λ (l : List _). All Q l) (sym were.2) (All-push Q were.0 were.1 (of-all P Q is were.0 were.4 f) (f i were.1 were.3))

-- each changed in its place
pub of-each : {X : Type 0} (P Q : ℕ → X → Type 0) (R : X → X → Type 0) (is : List ℕ) (xs ys : List X) → AreOf P is xs → length ys ≡ length xs
    → ((k : ℕ) (d : X) → k < length xs → R (get_or xs k d) (get_or ys k d)) → ((i : ℕ) (x y : X) → P i x → R x y → Q i y) → AreOf Q is ys
of-each P Q R [] xs [] were same each f = refl
of-each P Q R [] xs (y ∷ ys) were same each f = (let l = ap (λ (l : List _). length l) were in absurd (omega arith))
of-each P Q R (i ∷ is) xs ys were same each f =
    let rest = were.0 in
    let x = were.1 in
    let n = length rest in
    let long : length xs ≡ n + 1 = ap (λ (l : List _). length l) were.2 ∙ length-append rest (x ∷ []) in
    let lt : n < length ys = omega arith in
    let split : ys ≡ take n ys ++ get_or ys n x ∷ [] = sym (take_all (n + 1) ys (omega arith)) ∙ take_more ys n x lt in
    let here : get_or xs n x ≡ x = ap (λ (l : List _). get_or l n x) were.2 ∙ get_or_at rest x [] x n refl in
    let mine : R x (get_or ys n x) = subst (λ (z : _). R z (get_or ys n x)) here (each n x (omega arith)) in
    let others : (k : ℕ) (d : _) → k < length rest → R (get_or rest k d) (get_or (take n ys) k d) = λ k d low.
    (let a : get_or xs k d ≡ get_or rest k d = ap (λ (l : List _). get_or l k d) were.2 ∙ get_or_append_left rest (x ∷ []) d k low in
    let b : get_or (take n ys) k d ≡ get_or ys k d = get_or-take n ys k d low in
    subst (λ (z : _). R (get_or rest k d) z) (sym b) (subst (λ (z : _). R z (get_or ys k d)) a (each k d (omega arith)))) in
    (take n ys, get_or ys n x, split, f i x (get_or ys n x) were.3 mine, of-each P Q R is rest (take n ys) were.4 (length-take-le n ys (omega arith)) others f)

-- ---- numbers that rise

pub rises-low : (p q : ℕ) (is : List ℕ) → p ≤ q → RisesFrom q is → RisesFrom p is
rises-low p q [] le h = tt
rises-low p q (i ∷ is) le h = ((let l = h.0 in omega arith), h.1)

-- a number below all is none of them
pub rises-not : (p q : ℕ) (is : List ℕ) → p < q → RisesFrom q is → has p is ≡ false
rises-not p q [] lt h = refl
rises-not p q (i ∷ is) lt h = rw (ne_eqb i p (λ e. (let l = h.0 in omega arith))) (rises-not p (i + 1) is (let l = h.0 in omega arith) h.1)

-- what holds of all, at one that is not the least
pub all-less : (P Q : ℕ → Type 0) (i q : ℕ) (is : List ℕ) → i < q → RisesFrom q is → AllByRecursion P is → ((j : ℕ) → j ≢ i → P j → Q j) → AllByRecursion Q is
all-less P Q i q [] lt h all f = tt
all-less P Q i q (j ∷ is) lt h all f = (f j (λ e. (let l = h.0 in omega arith)) all.0, all-less P Q i (j + 1) is (let l = h.0 in omega arith) h.1 all.1 f)

pub all-these : (P : ℕ → Type 0) (is : List ℕ) → ((j : ℕ) → P j) → AllByRecursion P is
all-these P [] f = tt
all-these P (j ∷ is) f = (f j, all-these P is f)

pub rises-rising : (k p : ℕ) → p + k ≤ 68 → RisesFrom p (rising k p ++ 68 ∷ [])
rises-rising zero p le = (omega arith, tt)
rises-rising (suc k) p le = (omega arith, rises-rising k (p + 1) (omega arith))

pub rises-helpers : (background : ℕ) → background ≤ 4 → RisesFrom 64 (helpers background)
rises-helpers background few = rises-rising background 64 (omega arith)

-- one number more in front
pub rising-next : (k p q : ℕ) → p + 1 ≡ q → rising (k + 1) p ≡ p ∷ rising k q
rising-next k p q e = (let s : k + 1 ≡ suc k = omega arith in ap (λ (n : ℕ). rising n p) s) ∙ ap (λ (r : ℕ). p ∷ rising k r) e

-- ---- the processors with an event, and those without

test-not : (n : ℕ) → 0 < n → (n == 0) ≡ false
test-not n some = ne_eqb n 0 (λ e. omega arith)

pub busy-none : (queues : List (List Event)) (k p : ℕ) → (length (get_or queues p []) == 0) ≡ true → (busy queues (suc k) p ≡ busy queues k (p + 1)) × (resting queues (suc k) p ≡ p ∷ resting queues k (p + 1))
busy-none queues k p none = (rw none refl, rw none refl)

pub busy-some : (queues : List (List Event)) (k p : ℕ) → (length (get_or queues p []) == 0) ≡ false → (busy queues (suc k) p ≡ p ∷ busy queues k (p + 1)) × (resting queues (suc k) p ≡ resting queues k (p + 1))
busy-some queues k p some = (rw some refl, rw some refl)

pub rises-busy : (queues : List (List Event)) (k p : ℕ) (is : List ℕ) → RisesFrom (p + k) is → RisesFrom p (busy queues k p ++ is)
rises-busy queues zero p is h = rises-low p (p + 0) is (omega arith) h
rises-busy queues (suc k) p is h =
    let e : p + suc k ≡ (p + 1) + k = omega arith in
    let rest : RisesFrom (p + 1) (busy queues k (p + 1) ++ is) = rises-busy queues k (p + 1) is (subst (λ (n : ℕ). RisesFrom n is) e h) in
    elim (cases_Bool (length (get_or queues p []) == 0)) [
      | inl none ↦ rw none (rises-low p (p + 1) (busy queues k (p + 1) ++ is) (omega arith) rest)
      | inr some ↦ rw some (omega arith, rest)
    ]

-- a queue of no length has no event
pub no-length : {X : Type 0} (xs : List X) → (length xs == 0) ≡ true → xs ≡ []
no-length [] e = refl
no-length (x ∷ xs) e = (let f : (suc (length xs) == 0) ≡ false = ne_eqb (suc (length xs)) 0 (λ q. omega arith) in let g : true ≡ false = sym e ∙ f in cc)

-- the last of the first so many
pub last-taken : {X : Type 0} (olds xs ys : List X) (p q : ℕ) (x d : X) → xs ≡ take q olds → q ≤ length olds → p + 1 ≡ q → xs ≡ ys ++ x ∷ [] → (ys ≡ take p olds) × (x ≡ get_or olds p d)
last-taken olds xs ys p q x d is le next split =
    let more : take q olds ≡ take p olds ++ get_or olds p d ∷ [] = sym (ap (λ (n : ℕ). take n olds) next) ∙ take_more olds p d (omega arith) in
    last-one ys (take p olds) x (get_or olds p d) (sym split ∙ is ∙ more)

-- the number of the last one
pub of-split : {X : Type 0} (P : ℕ → X → Type 0) (is : List ℕ) (xs ys : List X) (x : X) → AreOf P is xs → xs ≡ ys ++ x ∷ [] → (i : ℕ) × (rest : List ℕ) × (is ≡ i ∷ rest) × P i x × AreOf P rest ys
of-split P [] xs ys x were split =
    let l = ap (λ (l : List _). length l) (sym split ∙ were) in
    let n = length-append ys (x ∷ []) in
    absurd (omega arith)
of-split P (i ∷ is) xs ys x were split = (let both = of-pop P i is xs ys x were split in (i, is, refl, both.0, both.1))

-- of none there are no numbers
pub of-none : {X : Type 0} (P : ℕ → X → Type 0) (is : List ℕ) (xs : List X) → AreOf P is xs → length xs ≡ 0 → is ≡ []
of-none P [] xs were none = refl
of-none P (i ∷ is) xs were none = (let l = of-length P (i ∷ is) xs were in absurd (omega arith))
