-- Which objects are sampled, and what the profile says where nothing is, or where two say the same.
use Rattle.std.proofs.Common.{◌≡◌, ℕ, suc, ◌≤◌, Bool, true, false, ◌&&◌, not, eqb, ltb, List, [], ◌∷◌, ◌++◌, map, refl, sym, ◌∙◌, ap, arith, inl, inr}
use Rattle.std.proofs.lemmas.Bool.{cases_Bool, eq-eqb, and_from, and_right}
use Rattle.page_alloc.specs.Lists.{In, count, one_if}
use Rattle.trace_reader.specs.declared.trace.Trace.{Trace}
use Rattle.profile_cycle.specs.Sampling.{countdown, drawn, is_sample, sampled}
use Rattle.cycle_history.specs.declared.Prof.{Prof}
use Rattle.cycle_history.specs.declared.Report.{Report}
use Rattle.cycle_history.specs.Requests.{Marking, marked_by, last_cycle}
use Rattle.cycle_history.specs.Objects.{Object, is_placed}
use Rattle.cycle_history.specs.Profile as profile
use Rattle.cycle_history.specs.Profile.{Bucket, Samples, SamplesBy, samples_in, placed_by, passing, allocs_at, frees_at, IsChanged, IsProfile, IsProfileOfEach, IsProfileIn}
use Rattle.cycle_history.specs.Sound.{HasProfileIn}

-- ---- lists

pub in-passing : {X : Type 0} (test : X → Bool) (xs : List X) (x : X) → In x xs → test x ≡ true → In x (passing test xs)
in-passing test [] x h is = absurd h
in-passing test (y ∷ xs) x h is =
    elim (cases_Bool (test y)) [
      | inl on ↦ rw on (elim h [ inl here ↦ inl here | inr there ↦ inr (in-passing test xs x there is) ])
      | inr off ↦ rw off (elim h [
        | inl here ↦ (let e : test y ≡ test x = ap test here in let none : ⊥ = cc in absurd none)
        | inr there ↦ in-passing test xs x there is
      ])
    ]

passing-append : {X : Type 0} (test : X → Bool) (xs ys : List X) → passing test (xs ++ ys) ≡ passing test xs ++ passing test ys
passing-append test [] ys = refl
passing-append test (x ∷ xs) ys =
    let rest = passing-append test xs ys in
    elim (cases_Bool (test x)) [
      | inl on ↦ rw (on, rest) refl
      | inr off ↦ rw (off, rest) refl
    ]

-- two functions with one image of a list agree on its items
map-one : {X Y : Type 0} (f g : X → Y) (xs : List X) (x : X) → map f xs ≡ map g xs → In x xs → f x ≡ g x
map-one f g [] x same h = absurd h
map-one f g (y ∷ xs) x same h =
    elim h [
      | inl here ↦ (let e : f y ≡ g y = cc in ap f (sym here) ∙ e ∙ ap g here)
      | inr there ↦ (let rest : map f xs ≡ map g xs = cc in map-one f g xs x rest there)
    ]

map-same : {X Y : Type 0} (f g : X → Y) (xs : List X) → ((x : X) → In x xs → f x ≡ g x) → map f xs ≡ map g xs
map-same f g [] same = refl
map-same f g (x ∷ xs) same = let rest = map-same f g xs (λ y h. same y (inr h)) in rw (same x (inl refl), rest) refl

count-alike : {X : Type 0} (f g : X → Bool) (xs : List X) → ((x : X) → In x xs → f x ≡ g x) → count f xs ≡ count g xs
count-alike f g [] same = refl
count-alike f g (x ∷ xs) same = let here = ap one_if (same x (inl refl)) in let rest = count-alike f g xs (λ y h. same y (inr h)) in omega arith

-- ---- which objects are sampled

-- the countdowns of two that sample the same objects agree on each
pub samples-one : (rate seed : ℕ) (f g : ℕ → Bool) (objects : List Object) (o : Object) → SamplesBy rate seed f objects → SamplesBy rate seed g objects → In o objects → is_placed o.answer ≡ true → f o.id ≡ g o.id
samples-one rate seed f g objects o by-f by-g h placed =
    let test : (eqb o.proc o.proc && is_placed o.answer) ≡ true = and_from (eqb o.proc o.proc) (is_placed o.answer) (eq-eqb o.proc o.proc refl) placed in
    map-one (λ (x : Object). f x.id) (λ (x : Object). g x.id) (placed_by o.proc objects) o (by-f o.proc ∙ sym (by-g o.proc)) (in-passing (λ (x : Object). eqb x.proc o.proc && is_placed x.answer) objects o h test)

from-passing : {X : Type 0} (test : X → Bool) (xs : List X) (x : X) → In x (passing test xs) → In x xs × (test x ≡ true)
from-passing test [] x h = absurd h
from-passing test (y ∷ xs) x h =
    elim (cases_Bool (test y)) [
      | inl on ↦ elim (rw on at h) [
        | inl here ↦ (inl here, ap test (sym here) ∙ on)
        | inr there ↦ (let rest = from-passing test xs x there in (inr rest.0, rest.1))
      ]
      | inr off ↦ (let rest = from-passing test xs x (rw off at h) in (inr rest.0, rest.1))
    ]

-- another that agrees on the placed objects samples the same
pub samples-alike : (rate seed : ℕ) (f g : ℕ → Bool) (objects : List Object) → ((o : Object) → In o objects → is_placed o.answer ≡ true → f o.id ≡ g o.id) → SamplesBy rate seed f objects → SamplesBy rate seed g objects
samples-alike rate seed f g objects same by p =
    map-same (λ (x : Object). g x.id) (λ (x : Object). f x.id) (placed_by p objects) (λ o h. (
    let in-all = from-passing (λ (x : Object). eqb x.proc p && is_placed x.answer) objects o h in
    let placed = parts_right (eqb o.proc p) (is_placed o.answer) in-all.1 in
    sym (same o in-all.0 placed))) ∙ by p
  where
    parts_right : (x y : Bool) → (x && y) ≡ true → y ≡ true
    parts_right true y h = h
    parts_right false y h = cc

-- ---- two samples that say the same of the placed objects

-- they say the same of each placed object
abbrev pub AreAlike : Samples → Samples → List Object → Type 0
AreAlike s s' objects = (o : Object) → In o objects → is_placed o.answer ≡ true → (s.sampled o.id ≡ s'.sampled o.id) × (s.stack o.id ≡ s'.stack o.id)

pub sample-alike : (s s' : Samples) (objects : List Object) (b : Bucket) (o : Object) → AreAlike s s' objects → In o objects → profile.is_sample s b o ≡ profile.is_sample s' b o
sample-alike s s' objects b o alike h =
    elim (cases_Bool (is_placed o.answer)) [
      | inl placed ↦ (let same = alike o h placed in rw (placed, same.0, same.1) refl)
      | inr off ↦ rw off refl
    ]

pub allocs-alike : (s s' : Samples) (objects : List Object) (m : ℕ) (b : Bucket) → AreAlike s s' objects → allocs_at s objects m b ≡ allocs_at s' objects m b
allocs-alike s s' objects m b alike =
    count-alike (λ o. profile.is_sample s b o && ltb o.cycle m) (λ o. profile.is_sample s' b o && ltb o.cycle m) objects (λ o h. ap (λ (x : Bool). x && ltb o.cycle m) (sample-alike s s' objects b o alike h))

pub frees-alike : (marked : Marking) (s s' : Samples) (objects : List Object) (m : ℕ) (b : Bucket) → AreAlike s s' objects → frees_at marked s objects m b ≡ frees_at marked s' objects m b
frees-alike marked s s' objects m b alike =
    count-alike (λ o. profile.is_sample s b o && (ltb o.cycle m && not (marked m o.id))) (λ o. profile.is_sample s' b o && (ltb o.cycle m && not (marked m o.id))) objects
    (λ o h. ap (λ (x : Bool). x && (ltb o.cycle m && not (marked m o.id))) (sample-alike s s' objects b o alike h))

-- ---- rate 0

countdown-rate : (rate seed p : ℕ) (slots : List ℕ) → (countdown rate seed p slots).rate ≡ rate
unfolding drawn
countdown-rate rate seed p [] = refl
countdown-rate rate seed p (slot ∷ slots) =
    elim (cases_Bool (is_sample (countdown rate seed p slots) slot)) [
      | inl on ↦ rw on (countdown-rate rate seed p slots)
      | inr off ↦ rw off (countdown-rate rate seed p slots)
    ]

-- at rate 0 no slot is a sample
pub none-sampled : (seed p : ℕ) (slots : List ℕ) → sampled 0 seed p slots ≡ map (λ (slot : ℕ). false) slots
none-sampled seed p [] = refl
none-sampled seed p (slot ∷ slots) = let rate = countdown-rate 0 seed p slots in let rest = none-sampled seed p slots in rw (rate, rest) refl

map-map : {X Y Z : Type 0} (g : Y → Z) (f : X → Y) (xs : List X) → map g (map f xs) ≡ map (λ x. g (f x)) xs
map-map g f [] = refl
map-map g f (x ∷ xs) = let rest = map-map g f xs in rw rest refl

pub none-samples : (seed : ℕ) (objects : List Object) → SamplesBy 0 seed (λ id. false) objects
none-samples seed objects p =
    sym (map-map (λ (slot : ℕ). false) (λ (o : Object). o.need.slot) (placed_by p objects)) ∙ sym (none-sampled seed p (map (λ (o : Object). o.need.slot) (placed_by p objects)))

none-allocs : (t : Trace) (objects : List Object) (m : ℕ) (b : Bucket) → allocs_at (samples_in t (λ id. false)) objects m b ≡ 0
none-allocs t [] m b = refl
none-allocs t (o ∷ objects) m b =
    let rest = none-allocs t objects m b in
    let off : (is_placed o.answer && false) ≡ false = and_right (is_placed o.answer) false refl in
    rw off (omega arith)

none-frees : (t : Trace) (marked : Marking) (objects : List Object) (m : ℕ) (b : Bucket) → frees_at marked (samples_in t (λ id. false)) objects m b ≡ 0
none-frees t marked [] m b = refl
none-frees t marked (o ∷ objects) m b =
    let rest = none-frees t marked objects m b in
    let off : (is_placed o.answer && false) ≡ false = and_right (is_placed o.answer) false refl in
    rw off (omega arith)

-- and an empty profile is right, in both forms
pub empty-profile : (each : Bool) (t : Trace) (report : Report) (objects : List Object) → t.header.rate ≡ 0 → report.profile ≡ [] → HasProfileIn each t report objects
empty-profile each t report objects rate none = record {
  which = λ id. false;
  sampled = rw rate (none-samples t.header.seed objects);
  lines = rw none (lines each);
}
  where
    no-change : (m : ℕ) (b : Bucket) → ¬ IsChanged (marked_by t) (samples_in t (λ id. false)) objects m b
    no-change m b changed = elim changed [
      | inl allocs ↦ allocs (none-allocs t objects (suc m) b ∙ sym (none-allocs t objects m b))
      | inr frees ↦ frees (none-frees t (marked_by t) objects (suc m) b ∙ sym (none-frees t (marked_by t) objects m b))
    ]

    due : (m : ℕ) (b : Bucket) → 1 ≤ allocs_at (samples_in t (λ id. false)) objects m b → ⊥
    due m b some = let none = none-allocs t objects m b in absurd (omega arith)

    lines : (each : Bool) → IsProfileIn each (marked_by t) (samples_in t (λ id. false)) (last_cycle t) objects []
    lines true = record {
      order = tt;
      right = λ line h. absurd h;
      changed = λ m line h. absurd h;
      each = λ m b lt changed. absurd (no-change m b changed);
      last_each = λ b some. absurd (due (last_cycle t) b some);
    }
    lines false = record { order = tt; right = λ line h. absurd h; each = λ b some. absurd (due (last_cycle t) b some) }

-- ---- the two forms

-- the form of each mark end is that of the last one, where no line names an earlier one
pub each-last : (marked : Marking) (s : Samples) (last : ℕ) (objects : List Object) (lines : List Prof) → IsProfileOfEach marked s last objects lines
    → ((line : Prof) → In line lines → last ≤ line.mark) → IsProfile marked s last objects lines
each-last marked s last objects lines is late = record {
  order = is.order;
  right = λ line h. (let right = is.right line h in let ge = late line h in (omega arith, right.2));
  each = is.last_each;
}
