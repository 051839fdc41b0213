-- The making line of a life.
use Rattle.std.proofs.Common.{◌≡◌, ℕ, List, [], ◌∷◌, length, refl, ap, subst, sym, ◌∙◌, inl, inr}
use Rattle.page_bitmap.specs.declared.line.Line.{Line}
use Rattle.page_bitmap.specs.declared.line.Line.TheVariants.{Take, Miss, Give, Scav, Pull, Cut, Drop}
use Rattle.page_alloc.specs.Lists.{In, IsNumber}
use Rattle.page_alloc.specs.Lives.{Life, life_of, all_lives}
use Rattle.cycle_history.specs.Making.{IsMadeBy, Makes}

later : (past : List Line) (line : Line) (life : Life) → IsMadeBy past life → IsMadeBy (line ∷ past) life
later past line life made = record { line = made.line; number = inr made.number; makes = made.makes }

newest : (past : List Line) (line : Line) (life : Life) → life.number ≡ length past → Makes life.number line life → IsMadeBy (line ∷ past) life
newest past line life e makes = record { line = line; number = inl (sym e, refl); makes = makes }

number-of : (n cycle page pages class : ℕ) (life : Life) → life_of n cycle page pages class ≡ life → life.number ≡ n
number-of n cycle page pages class life e = sym (ap (λ (l : Life). l.number) e)

pub made-by : (past : List Line) (life : Life) → In life (all_lives past) → IsMadeBy past life
made-by [] life h = absurd h
made-by (Take cycle page pages class ∷ past) life h = elim h [
  | inl here ↦ (
      let e = number-of (length past) cycle page pages class life here in
      newest past (Take cycle page pages class) life e (ap (λ (n : ℕ). life_of n cycle page pages class) e ∙ here))
  | inr there ↦ later past (Take cycle page pages class) life (made-by past life there)
]
made-by (Miss cycle pages class ∷ past) life h = later past (Miss cycle pages class) life (made-by past life h)
made-by (Give cycle page pages ∷ past) life h = later past (Give cycle page pages) life (made-by past life h)
made-by (Scav cycle page pages ∷ past) life h = later past (Scav cycle page pages) life (made-by past life h)
made-by (Pull cycle proc page pages ∷ past) life h = later past (Pull cycle proc page pages) life (made-by past life h)
made-by (Cut cycle proc page pages class ∷ past) life h = elim h [
  | inl here ↦ (
      let e = number-of (length past) cycle page pages class life here in
      newest past (Cut cycle proc page pages class) life e (ap (λ (n : ℕ). life_of n cycle page pages class) e ∙ here))
  | inr there ↦ later past (Cut cycle proc page pages class) life (made-by past life there)
]
made-by (Drop cycle proc page pages ∷ past) life h = later past (Drop cycle proc page pages) life (made-by past life h)

-- the line behind a life of these lines is one of them
pub lives-of : (past : List Line) (life : Life) (line : Line) → IsNumber life.number line past → Makes life.number line life → In life (all_lives past)
lives-of [] life line number makes = absurd number
lives-of (Take cycle page pages class ∷ past) life line number makes = elim number [
  | inl here ↦ (
      let m : Makes life.number (Take cycle page pages class) life = subst (λ (x : Line). Makes life.number x life) (sym here.1) makes in
      inl (ap (λ (n : ℕ). life_of n cycle page pages class) here.0 ∙ m))
  | inr there ↦ inr (lives-of past life line there makes)
]
lives-of (Miss cycle pages class ∷ past) life line number makes = elim number [
  | inl here ↦ (let m : Makes life.number (Miss cycle pages class) life = subst (λ (x : Line). Makes life.number x life) (sym here.1) makes in absurd m)
  | inr there ↦ lives-of past life line there makes
]
lives-of (Give cycle page pages ∷ past) life line number makes = elim number [
  | inl here ↦ (let m : Makes life.number (Give cycle page pages) life = subst (λ (x : Line). Makes life.number x life) (sym here.1) makes in absurd m)
  | inr there ↦ lives-of past life line there makes
]
lives-of (Scav cycle page pages ∷ past) life line number makes = elim number [
  | inl here ↦ (let m : Makes life.number (Scav cycle page pages) life = subst (λ (x : Line). Makes life.number x life) (sym here.1) makes in absurd m)
  | inr there ↦ lives-of past life line there makes
]
lives-of (Pull cycle proc page pages ∷ past) life line number makes = elim number [
  | inl here ↦ (let m : Makes life.number (Pull cycle proc page pages) life = subst (λ (x : Line). Makes life.number x life) (sym here.1) makes in absurd m)
  | inr there ↦ lives-of past life line there makes
]
lives-of (Cut cycle proc page pages class ∷ past) life line number makes = elim number [
  | inl here ↦ (
      let m : Makes life.number (Cut cycle proc page pages class) life = subst (λ (x : Line). Makes life.number x life) (sym here.1) makes in
      inl (ap (λ (n : ℕ). life_of n cycle page pages class) here.0 ∙ m))
  | inr there ↦ inr (lives-of past life line there makes)
]
lives-of (Drop cycle proc page pages ∷ past) life line number makes = elim number [
  | inl here ↦ (let m : Makes life.number (Drop cycle proc page pages) life = subst (λ (x : Line). Makes life.number x life) (sym here.1) makes in absurd m)
  | inr there ↦ lives-of past life line there makes
]
