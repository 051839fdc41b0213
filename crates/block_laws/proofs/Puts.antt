-- A function one of whose values changed.
use Rattle.std.proofs.Common.{◌≡◌, ◌≢◌, ℕ, Bool, true, false, eqb, eq-eqb, ne_eqb, refl, ap, ◌∙◌}
use Rattle.std.specs.Prelude.{cond}
use Rattle.block_laws.specs.Steps.{put_one, put_two, put_three}

module _ {A : Type 0} where
  pub one_here : (f : ℕ → A) (a : ℕ) (v : A) → put_one f a v a ≡ v
  one_here f a v = ap (λ (z : Bool). cond z v (f a)) (eq-eqb a a refl)

  pub one_else : (f : ℕ → A) (a : ℕ) (v : A) (q : ℕ) → q ≢ a → put_one f a v q ≡ f q
  one_else f a v q d = ap (λ (z : Bool). cond z v (f q)) (ne_eqb q a d)

  pub two_here : (f : ℕ → ℕ → A) (a c : ℕ) (v : A) → put_two f a c v a c ≡ v
  two_here f a c v = ap (λ (z : Bool). cond z (put_one (f a) c v c) (f a c)) (eq-eqb a a refl) ∙ one_here (f a) c v

  pub two_far : (f : ℕ → ℕ → A) (a c : ℕ) (v : A) (q r : ℕ) → q ≢ a → put_two f a c v q r ≡ f q r
  two_far f a c v q r d = ap (λ (z : Bool). cond z (put_one (f q) c v r) (f q r)) (ne_eqb q a d)

  pub two_else : (f : ℕ → ℕ → A) (a c : ℕ) (v : A) (q r : ℕ) → r ≢ c → put_two f a c v q r ≡ f q r
  two_else f a c v q r d = either_way (eqb q a)
    where
      either_way : (z : Bool) → cond z (put_one (f q) c v r) (f q r) ≡ f q r
      either_way true = one_else (f q) c v r d
      either_way false = refl

  pub three_here : (f : ℕ → ℕ → ℕ → A) (a c k : ℕ) (v : A) → put_three f a c k v a c k ≡ v
  three_here f a c k v = ap (λ (z : Bool). cond z (put_two (f a) c k v c k) (f a c k)) (eq-eqb a a refl) ∙ two_here (f a) c k v

  pub three_far : (f : ℕ → ℕ → ℕ → A) (a c k : ℕ) (v : A) (q r t : ℕ) → q ≢ a → put_three f a c k v q r t ≡ f q r t
  three_far f a c k v q r t d = ap (λ (z : Bool). cond z (put_two (f q) c k v r t) (f q r t)) (ne_eqb q a d)

  pub three_near : (f : ℕ → ℕ → ℕ → A) (a c k : ℕ) (v : A) (q r t : ℕ) → r ≢ c → put_three f a c k v q r t ≡ f q r t
  three_near f a c k v q r t d = either_way (eqb q a)
    where
      either_way : (z : Bool) → cond z (put_two (f q) c k v r t) (f q r t) ≡ f q r t
      either_way true = two_far (f q) c k v r t d
      either_way false = refl

  pub three_else : (f : ℕ → ℕ → ℕ → A) (a c k : ℕ) (v : A) (q r t : ℕ) → t ≢ k → put_three f a c k v q r t ≡ f q r t
  three_else f a c k v q r t d = either_way (eqb q a)
    where
      either_way : (z : Bool) → cond z (put_two (f q) c k v r t) (f q r t) ≡ f q r t
      either_way true = two_else (f q) c k v r t d
      either_way false = refl
