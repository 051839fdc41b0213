-- The life of a page, where the lives change; bits and lists of indices.
use Rattle.std.proofs.Common.{◌≡◌, ◌≢◌, ℕ, zero, suc, ◌+◌, ◌<◌, ◌≤◌, Bool, ◌||◌, true, false, true≢false, not, eqb, eq-eqb, ne_eqb, List, [], ◌∷◌, ◌++◌, length, refl, sym, ap, ◌∙◌, arith}
use Rattle.std.specs.Prelude.{Option, Some, None}
use Rattle.std.specs.List.{find, range_with_len}
use mathlib.Core.Logic.{dite}
use native.Mathlib.Decide.{ℕ_discrete}
use Rattle.sweep_laws.specs.Lists.{has, least_outside}
use Rattle.sweep_laws.specs.State.{LifeState}
use Rattle.sweep_laws.specs.ChangesOfLives.{allocate_index, change_life, drop_life, keep_marked, marks_at}
use Rattle.sweep_laws.specs.Named.{begins}
use Rattle.sweep_laws.specs.Reading.{life_in, no_life}
use Rattle.span_state.specs.Bits.{HasFree, IsFull, bit_of, with_bit}
use Rattle.span_state.specs.MarkSet.{has_pair}
use Rattle.span_laws.specs.declared.view.Span.{Span}
use Rattle.span_laws.specs.Bodies.{IsBody}

pub changed_here : (p : ℕ) (f : LifeState → LifeState) → ((l : LifeState) → (f l).page ≡ l.page) → (ls : List LifeState) → begins p ls ≡ true → life_in p (change_life p f ls) ≡ f (life_in p ls)
changed_here p f e [] b = absurd (true≢false (sym b))
changed_here p f e (l ∷ ls) b = dite (ℕ_discrete l.page p)
    (λ s. let a = eq-eqb l.page p s in let x = eq-eqb (f l).page p (e l ∙ s) in rw (a, x) refl)
    (λ s. let a = ne_eqb l.page p s in let j : begins p ls ≡ true = rw a at b in rw (a, a) (changed_here p f e ls j))

pub appended_here : (p : ℕ) (m : LifeState) → m.page ≡ p → (ls : List LifeState) → begins p ls ≡ false → life_in p (ls ++ m ∷ []) ≡ m
appended_here p m e [] b = rw (eq-eqb m.page p e) refl
appended_here p m e (l ∷ ls) b = dite (ℕ_discrete l.page p)
    (λ s. let x : true ≡ false = rw (eq-eqb l.page p s) at b in absurd (true≢false x))
    (λ s. let a = ne_eqb l.page p s in let j : begins p ls ≡ false = rw a at b in rw a (appended_here p m e ls j))

pub none_here : (p : ℕ) (ls : List LifeState) → begins p ls ≡ false → life_in p ls ≡ no_life
none_here p [] b = refl
none_here p (l ∷ ls) b = dite (ℕ_discrete l.page p)
    (λ s. let x : true ≡ false = rw (eq-eqb l.page p s) at b in absurd (true≢false x))
    (λ s. let a = ne_eqb l.page p s in let j : begins p ls ≡ false = rw a at b in rw a (none_here p ls j))

-- a search in rising order finds the least
least_found : (test : ℕ → Bool) (i n k : ℕ) → i ≤ k → k < i + n → test k ≡ true → ((j : ℕ) → i ≤ j → j < k → test j ≡ false) → find test (range_with_len i n) ≡ Some k
least_found test i zero k a b t f = absurd (omega arith)
least_found test i (suc n) k a b t f = dite (ℕ_discrete i k)
    (λ e. let u : test i ≡ true = ap test e ∙ t in rw u (ap (λ (z : ℕ). let y : Option ℕ = Some z in y) e))
    (λ d. let u : test i ≡ false = f i (omega arith) (omega arith) in rw u (least_found test (i + 1) n k (omega arith) (omega arith) t (λ j x y. f j (omega arith) y)))

none_found : (test : ℕ → Bool) (i n : ℕ) → ((j : ℕ) → i ≤ j → j < i + n → test j ≡ false) → find test (range_with_len i n) ≡ None
none_found test i zero f = refl
none_found test i (suc n) f = let u : test i ≡ false = f i (omega arith) (omega arith) in rw u (none_found test (i + 1) n (λ j x y. f j (omega arith) (omega arith)))

-- the lowest free index of a body is the least that the life has free
pub least_free : (s : Span) (l : LifeState) (k : ℕ) → IsBody s l → HasFree s.count (bit_of s.bits) k → least_outside l.allocated l.count ≡ Some k
least_free s l k t h = least_found (λ i. not (has i l.allocated)) 0 l.count k (omega arith) (let c = t.count in let i = h.inside in omega arith)
    (ap not (sym (t.bits k) ∙ h.free)) (λ j x y. ap not (sym (t.bits j) ∙ h.lowest j y))

-- and where the body is full, the life is
pub full_life : (s : Span) (l : LifeState) → IsBody s l → IsFull s.count (bit_of s.bits) → least_outside l.allocated l.count ≡ None
full_life s l t f = none_found (λ i. not (has i l.allocated)) 0 l.count (λ j x y. ap not (sym (t.bits j) ∙ f j (let c = t.count in omega arith)))

has_end : (k i : ℕ) (xs : List ℕ) → has k (xs ++ i ∷ []) ≡ with_bit i (λ j. has j xs) k
has_end k i [] = dite (ℕ_discrete i k) (λ e. rw (eq-eqb i k e, eq-eqb k i (sym e)) refl) (λ d. rw (ne_eqb i k d, ne_eqb k i (λ e. d (sym e))) refl)
has_end k i (x ∷ xs) = dite (ℕ_discrete x k) (λ e. rw (eq-eqb x k e) (or_true (eqb k i))) (λ d. rw (ne_eqb x k d) (has_end k i xs))
  where
    or_true : (b : Bool) → true ≡ (b || true)
    or_true true = refl
    or_true false = refl

-- the same place of a span
pub record Placed (s b : Span) : Type 0 where
  pub page : s.page ≡ b.page
  pub pages : s.pages ≡ b.pages
  pub count : s.count ≡ b.count
  pub class : s.class ≡ b.class

-- an index is taken in both
pub allocate_body : (s b : Span) (l : LifeState) (i : ℕ) → IsBody s l → Placed s b → ((k : ℕ) → bit_of b.bits k ≡ with_bit i (bit_of s.bits) k) → IsBody b (allocate_index i l)
allocate_body s b l i t p w = record {
  page = sym p.page ∙ t.page;
  pages = sym p.pages ∙ t.pages;
  count = sym p.count ∙ t.count;
  class = sym p.class ∙ t.class;
  bits = λ k. w k ∙ ap (λ (x : Bool). eqb k i || x) (t.bits k) ∙ sym (has_end k i l.allocated);
}

pub marks_has : (p k : ℕ) (marks : List (ℕ × ℕ)) → has k (marks_at p marks) ≡ has_pair marks p k
marks_has p k [] = refl
marks_has p k (m ∷ marks) = dite (ℕ_discrete m.0 p)
    (λ e. rw (eq-eqb m.0 p e) (ap (λ (b : Bool). eqb m.1 k || b) (marks_has p k marks)))
    (λ d. rw (ne_eqb m.0 p d) (marks_has p k marks))

-- a swept body has what its life keeps
pub sweep_body : (s b : Span) (l : LifeState) (marks : List (ℕ × ℕ)) → IsBody s l → Placed s b → ((k : ℕ) → bit_of b.bits k ≡ has_pair marks b.page k) → l.kept ≡ marks_at b.page marks → IsBody b (keep_marked l)
sweep_body s b l marks t p w e = record {
  page = sym p.page ∙ t.page;
  pages = sym p.pages ∙ t.pages;
  count = sym p.count ∙ t.count;
  class = sym p.class ∙ t.class;
  bits = λ k. w k ∙ sym (marks_has b.page k marks) ∙ ap (has k) (sym e);
}

-- a list that has nothing is empty
pub none_in : (xs : List ℕ) → ((k : ℕ) → has k xs ≡ false) → length xs ≡ 0
none_in [] h = refl
none_in (x ∷ xs) h = let e : true ≡ false = rw (eq-eqb x x refl) at (h x) in absurd (true≢false e)

pub drop_else : (p q : ℕ) (ls : List LifeState) → q ≢ p → life_in q (drop_life p ls) ≡ life_in q ls
drop_else p q [] d = refl
drop_else p q (l ∷ ls) d = dite (ℕ_discrete l.page p)
    (λ s. let a = eq-eqb l.page p s in let b = ne_eqb l.page q (λ z. d (sym z ∙ s)) in rw (a, b) refl)
    (λ s. let a = ne_eqb l.page p s in dite (ℕ_discrete l.page q) (λ z. let b = eq-eqb l.page q z in rw (a, b) refl) (λ z. let b = ne_eqb l.page q z in rw (a, b) (drop_else p q ls d)))
