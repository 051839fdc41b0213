-- What the processors counted is what all of the cycle count.
use Rattle.std.proofs.Common.{◌≡◌, ◌≢◌, ℕ, zero, suc, ◌+◌, ◌<◌, Bool, ◌&&◌, eqb, List, [], ◌∷◌, ◌++◌, map, reverse, length, get_or, refl, sym, ◌∙◌, ap, arith, inl, inr}
use Rattle.std.specs.List.{AllByRecursion}
use Rattle.std.proofs.lemmas.Bool.{cases_Bool, cases_eq, eq-eqb, ne_eqb}
use Rattle.std.proofs.lemmas.List.{length-reverse, reverse-append}
use Rattle.page_alloc.specs.Lists.{one_if}
use Rattle.trace_reader.specs.declared.trace.Event.{Event}
use Rattle.run_laws.specs.Profile.{sum_below}
use Rattle.sample_laws.specs.By.{answers_by, events_by}
use Rattle.sample_laws.specs.Counted.{all_counts, sampled_counts}

-- ---- sums

pub sum-same : (n : ℕ) (f g : ℕ → ℕ) → ((k : ℕ) → k < n → f k ≡ g k) → sum_below n f ≡ sum_below n g
sum-same zero f g same = refl
sum-same (suc n) f g same = let here = same n (omega arith) in let rest = sum-same n f g (λ k lt. same k (omega arith)) in omega arith

sum-add : (n : ℕ) (f g : ℕ → ℕ) → sum_below n (λ k. f k + g k) ≡ sum_below n f + sum_below n g
sum-add zero f g = refl
sum-add (suc n) f g = let rest = sum-add n f g in omega arith

sum-none : (n : ℕ) (f : ℕ → ℕ) → ((k : ℕ) → k < n → f k ≡ 0) → sum_below n f ≡ 0
sum-none zero f none = refl
sum-none (suc n) f none = let here = none n (omega arith) in let rest = sum-none n f (λ k lt. none k (omega arith)) in omega arith

-- only one of the numbers has any
sum-one : (n p x : ℕ) (f : ℕ → ℕ) → p < n → f p ≡ x → ((k : ℕ) → k ≢ p → f k ≡ 0) → sum_below n f ≡ x
sum-one zero p x f lt is none = absurd (omega arith)
sum-one (suc n) p x f lt is none = elim (cases_eq n p) [
  | inl same ↦ (let here : f n ≡ x = ap f same ∙ is in let rest = sum-none n f (λ k less. none k (λ q. omega arith)) in omega arith)
  | inr other ↦ (let here = none n other in let rest = sum-one n p x f (omega arith) is none in omega arith)
]

-- ---- parts

-- one object more of a processor
counts-more : (w : ℕ) (e : Event) (events : List Event) (f : Bool) (given : List Bool) (k : ℕ) (numbers : List ℕ) (b : ℕ) → sampled_counts (answers_by w (e ∷ events) (f ∷ given)) (answers_by w (e ∷ events) (k ∷ numbers)) b
    ≡ one_if (eqb e.proc w && (f && eqb k b)) + sampled_counts (answers_by w events given) (answers_by w events numbers) b
counts-more w e events f given k numbers b = elim (cases_Bool (eqb e.proc w)) [ inl on ↦ rw on refl | inr off ↦ rw off (omega arith) ]

pub counts-parted : (n : ℕ) (events : List Event) (given : List Bool) (numbers : List ℕ) (b : ℕ) → AllByRecursion (λ (e : Event). e.proc < n) events → length given ≡ length events → length numbers ≡ length events
    → sum_below n (λ w. sampled_counts (answers_by w events given) (answers_by w events numbers) b) ≡ sampled_counts given numbers b
counts-parted n [] [] numbers b all long longer = sum-none n (λ w. 0) (λ k lt. refl)
counts-parted n [] (f ∷ given) numbers b all long longer = absurd (omega arith)
counts-parted n (e ∷ events) [] numbers b all long longer = absurd (omega arith)
counts-parted n (e ∷ events) (f ∷ given) [] b all long longer = absurd (omega arith)
counts-parted n (e ∷ events) (f ∷ given) (k ∷ numbers) b all long longer =
    let rest = counts-parted n events given numbers b all.1 (omega arith) (omega arith) in
    let own : one_if (eqb e.proc e.proc && (f && eqb k b)) ≡ one_if (f && eqb k b) = (let on = eq-eqb e.proc e.proc refl in rw on refl) in
    let one = sum-one n e.proc (one_if (f && eqb k b)) (λ w. one_if (eqb e.proc w && (f && eqb k b))) all.0 own (λ w other. (let off = ne_eqb e.proc w (λ q. other (sym q)) in rw off refl)) in
    let both = sum-add n (λ w. one_if (eqb e.proc w && (f && eqb k b))) (λ w. sampled_counts (answers_by w events given) (answers_by w events numbers) b) in
    let each = sum-same n (λ w. sampled_counts (answers_by w (e ∷ events) (f ∷ given)) (answers_by w (e ∷ events) (k ∷ numbers)) b)
    (λ w. one_if (eqb e.proc w && (f && eqb k b)) + sampled_counts (answers_by w events given) (answers_by w events numbers) b) (λ w lt. counts-more w e events f given k numbers b) in
    omega arith

-- ---- order

pub counts-append : (xs ys : List Bool) (ns ms : List ℕ) (b : ℕ) → length ns ≡ length xs → sampled_counts (xs ++ ys) (ns ++ ms) b ≡ sampled_counts xs ns b + sampled_counts ys ms b
counts-append [] ys [] ms b long = omega arith
counts-append [] ys (n ∷ ns) ms b long = absurd (omega arith)
counts-append (x ∷ xs) ys [] ms b long = absurd (omega arith)
counts-append (x ∷ xs) ys (n ∷ ns) ms b long = let rest = counts-append xs ys ns ms b (omega arith) in omega arith

pub counts-reverse : (xs : List Bool) (ns : List ℕ) (b : ℕ) → length ns ≡ length xs → sampled_counts (reverse xs) (reverse ns) b ≡ sampled_counts xs ns b
counts-reverse [] [] b long = refl
counts-reverse [] (n ∷ ns) b long = absurd (omega arith)
counts-reverse (x ∷ xs) [] b long = absurd (omega arith)
counts-reverse (x ∷ xs) (n ∷ ns) b long =
    let rest = counts-reverse xs ns b (omega arith) in
    let a = length-reverse xs in
    let c = length-reverse ns in
    let split = counts-append (reverse xs) (x ∷ []) (reverse ns) (n ∷ []) b (omega arith) in
    let there : sampled_counts (reverse (x ∷ xs)) (reverse (n ∷ ns)) b ≡ sampled_counts (reverse xs ++ x ∷ []) (reverse ns ++ n ∷ []) b =
    ap (λ (l : List Bool). sampled_counts l (reverse (n ∷ ns)) b) (reverse-append (x ∷ []) xs) ∙ ap (λ (l : List ℕ). sampled_counts (reverse xs ++ x ∷ []) l b) (reverse-append (n ∷ []) ns) in
    omega arith

-- numbers of events, processor by processor
pub mapped-by : {X : Type 0} (f : Event → X) (w : ℕ) (events : List Event) → answers_by w events (map f events) ≡ map f (events_by w events)
mapped-by f w [] = refl
mapped-by f w (e ∷ events) = elim (cases_Bool (eqb e.proc w)) [ inl on ↦ rw on (ap (λ (l : List _). f e ∷ l) (mapped-by f w events)) | inr off ↦ rw off (mapped-by f w events) ]

-- the counts of all processors, from what each gave
pub all-counted : (n : ℕ) (events : List Event) (given : List Bool) (numbers : List ℕ) (parts : List (List Bool)) (number_parts : List (List ℕ)) (b : ℕ) → AllByRecursion (λ (e : Event). e.proc < n) events
    → length given ≡ length events → length numbers ≡ length events → ((w : ℕ) → answers_by w events given ≡ get_or parts w []) → ((w : ℕ) → answers_by w events numbers ≡ get_or number_parts w [])
    → all_counts n parts number_parts b ≡ sampled_counts (reverse given) (reverse numbers) b
all-counted n events given numbers parts number_parts b all long longer same also =
    sum-same n (λ w. sampled_counts (get_or parts w []) (get_or number_parts w []) b) (λ w. sampled_counts (answers_by w events given) (answers_by w events numbers) b)
    (λ w lt. ap (λ (l : List Bool). sampled_counts l (get_or number_parts w []) b) (sym (same w)) ∙ ap (λ (l : List ℕ). sampled_counts (answers_by w events given) l b) (sym (also w)))
    ∙ counts-parted n events given numbers b all long longer ∙ sym (counts-reverse given numbers b (longer ∙ sym long))
