-- The lines of a cycle behind an older journal.
use Rattle.std.proofs.Common.{◌≡◌, ◌≢◌, ℕ, suc, ◌<◌, ◌≤◌, Bool, true, false, eqb, ◌||◌, List, [], ◌∷◌, ◌++◌, length, refl, ◌∙◌, ap, arith, inl, inr}
use Rattle.std.proofs.lemmas.Bool.{cases_Bool, eqb-true, eq-eqb}
use Rattle.page_bitmap.specs.declared.line.Line.{Line}
use Rattle.page_bitmap.specs.declared.line.Line.TheVariants.{Take, Miss, Give, Scav, Pull, Cut, Drop}
use Rattle.page_alloc.specs.Lists.{In}
use Rattle.page_alloc.specs.Lives.{Life, open_lives}
use Rattle.page_alloc.specs.Journal.{cycle_of, at_end, IsBy}
use Rattle.page_alloc.proofs.Lives.{from_others, to_others}
use Rattle.run_laws.specs.Lists.{begins_at}
use Rattle.cycle_history.specs.Requests.{Marking}
use Rattle.cycle_history.specs.Objects.{Object, kept}
use Rattle.cycle_history.specs.Sweeps.{GivesWhenEmpty}
use Rattle.sound_run.specs.Run.{IsJournal}
use Rattle.sound_run.proofs.Live.{at_end-before, by-later}

-- ---- the journal at the ends of cycles

pub at_end-lines : (c m : ℕ) (lines past : List Line) → ((line : Line) → In line lines → cycle_of line ≡ c) → m < c → at_end m (lines ++ past) ≡ at_end m past
at_end-lines c m [] past all lt = refl
at_end-lines c m (line ∷ lines) past all lt =
    at_end-before c m line (lines ++ past) (all line (inl refl)) lt ∙ at_end-lines c m lines past (λ l h. all l (inr h)) lt

pub by-lines : (c : ℕ) (lines past : List Line) → ((line : Line) → In line lines → cycle_of line ≡ c) → IsBy c past → IsBy c (lines ++ past)
by-lines c [] past all by = by
by-lines c (line ∷ lines) past all by = let e = all line (inl refl) in omega arith

-- each line of a legal journal is of a cycle that it has come to
pub lines-by : (region goal c : ℕ) (past : List Line) (line : Line) → IsJournal region goal past → IsBy c past → In line past → cycle_of line ≤ c
lines-by region goal c [] line legal by h = absurd h
lines-by region goal c (first ∷ past) line legal by h = elim h [
  | inl here ↦ (let e : cycle_of first ≡ cycle_of line = ap cycle_of here in omega arith)
  | inr there ↦ lines-by region goal c past line legal.2 (by-later (cycle_of first) c past by legal.1) there
]

-- a journal all of whose lines are older
pub older-by : (m : ℕ) (past : List Line) → ((line : Line) → In line past → cycle_of line < suc m) → IsBy m past
older-by m [] older = tt
older-by m (line ∷ past) older = let lt = older line (inl refl) in omega arith

-- an open life is of the cycle of some line
pub life-older : (c : ℕ) (past : List Line) (life : Life) → ((line : Line) → In line past → cycle_of line < c) → In life (open_lives past) → life.cycle < c
life-older c [] life older h = absurd h
life-older c (Take cycle page pages class ∷ past) life older h = elim h [
  | inl new ↦ (let e : cycle ≡ life.cycle = ap (λ (l : Life). l.cycle) new in let lt : cycle < c = older (Take cycle page pages class) (inl refl) in omega arith)
  | inr there ↦ life-older c past life (λ l i. older l (inr i)) there
]
life-older c (Miss cycle pages class ∷ past) life older h = life-older c past life (λ l i. older l (inr i)) h
life-older c (Give cycle page pages ∷ past) life older h = life-older c past life (λ l i. older l (inr i)) (from_others page (open_lives past) life h).0
life-older c (Scav cycle page pages ∷ past) life older h = life-older c past life (λ l i. older l (inr i)) h
life-older c (Pull cycle proc page pages ∷ past) life older h = life-older c past life (λ l i. older l (inr i)) h
life-older c (Cut cycle proc page pages class ∷ past) life older h = elim h [
  | inl new ↦ (let e : cycle ≡ life.cycle = ap (λ (l : Life). l.cycle) new in let lt : cycle < c = older (Cut cycle proc page pages class) (inl refl) in omega arith)
  | inr there ↦ life-older c past life (λ l i. older l (inr i)) there
]
life-older c (Drop cycle proc page pages ∷ past) life older h = life-older c past life (λ l i. older l (inr i)) h

-- ---- open lives

pub longer : (xs ys : List Line) → length ys ≤ length (xs ++ ys)
longer [] ys = omega arith
longer (x ∷ xs) ys = let rest = longer xs ys in omega arith

-- an open life whose number is older was open before the lines
pub was_open : (lines past : List Line) (life : Life) → life.number < length past → In life (open_lives (lines ++ past)) → In life (open_lives past)
was_open [] past life lt h = h
was_open (Take cycle page pages class ∷ lines) past life lt h = elim h [
  | inl new ↦ (let e : length (lines ++ past) ≡ life.number = ap (λ (l : Life). l.number) new in let more = longer lines past in absurd (omega arith))
  | inr there ↦ was_open lines past life lt there
]
was_open (Miss cycle pages class ∷ lines) past life lt h = was_open lines past life lt h
was_open (Give cycle page pages ∷ lines) past life lt h = was_open lines past life lt (from_others page (open_lives (lines ++ past)) life h).0
was_open (Scav cycle page pages ∷ lines) past life lt h = was_open lines past life lt h
was_open (Pull cycle proc page pages ∷ lines) past life lt h = was_open lines past life lt h
was_open (Cut cycle proc page pages class ∷ lines) past life lt h = elim h [
  | inl new ↦ (let e : length (lines ++ past) ≡ life.number = ap (λ (l : Life). l.number) new in let more = longer lines past in absurd (omega arith))
  | inr there ↦ was_open lines past life lt there
]
was_open (Drop cycle proc page pages ∷ lines) past life lt h = was_open lines past life lt h

-- a life of which the mark end keeps something stays open
pub not_given : (marked : Marking) (c : ℕ) (objects : List Object) (lines past : List Line) (life : Life) → ((line : Line) → In line lines → cycle_of line ≡ c)
    → GivesWhenEmpty marked objects (lines ++ past) → In life (open_lives past) → 1 ≤ kept marked objects c life.number → In life (open_lives (lines ++ past))
not_given marked c objects [] past life all gives h some = h
not_given marked c objects (Take cycle page pages class ∷ lines) past life all gives h some = inr (not_given marked c objects lines past life (λ l i. all l (inr i)) gives h some)
not_given marked c objects (Miss cycle pages class ∷ lines) past life all gives h some = not_given marked c objects lines past life (λ l i. all l (inr i)) gives h some
not_given marked c objects (Scav cycle page pages ∷ lines) past life all gives h some = not_given marked c objects lines past life (λ l i. all l (inr i)) gives h some
not_given marked c objects (Give cycle page pages ∷ lines) past life all gives h some =
    let there = not_given marked c objects lines past life (λ l i. all l (inr i)) gives.1 h some in
    let now : cycle ≡ c = all (Give cycle page pages) (inl refl) in
    to_others page (open_lives (lines ++ past)) life there (λ same. (
    let none : kept marked objects c life.number ≡ 0 = rw now at ((gives.0 life there same).1) in
    omega arith))
not_given marked c objects (Pull cycle proc page pages ∷ lines) past life all gives h some = not_given marked c objects lines past life (λ l i. all l (inr i)) gives h some
not_given marked c objects (Cut cycle proc page pages class ∷ lines) past life all gives h some = inr (not_given marked c objects lines past life (λ l i. all l (inr i)) gives h some)
not_given marked c objects (Drop cycle proc page pages ∷ lines) past life all gives h some = not_given marked c objects lines past life (λ l i. all l (inr i)) gives h some

-- ---- whether a life with a number is among lives

abbrev pub has_number : ℕ → List Life → Bool
has_number n [] = false
has_number n (life ∷ lives) = eqb life.number n || has_number n lives

pub number-there : (n : ℕ) (lives : List Life) → has_number n lives ≡ true → (life : Life) × In life lives × (life.number ≡ n)
number-there n [] h = let none : ⊥ = cc in absurd none
number-there n (life ∷ lives) h =
    elim (cases_Bool (eqb life.number n)) [
      | inl is ↦ (life, inl refl, eqb-true life.number n is)
      | inr isnt ↦ (
          let h' : has_number n lives ≡ true = rw isnt at h in
          let rest = number-there n lives h' in
          (rest.0, inr rest.1, rest.2))
    ]

pub number-absent : (n : ℕ) (lives : List Life) (life : Life) → has_number n lives ≡ false → In life lives → life.number ≢ n
number-absent n [] life h there e = absurd there
number-absent n (first ∷ lives) life h there e =
    elim (cases_Bool (eqb first.number n)) [
      | inl is ↦ (let h' : true ≡ false = rw is at h in cc)
      | inr isnt ↦ (
          let h' : has_number n lives ≡ false = rw isnt at h in
          elim there [
            | inl here ↦ (let same : first.number ≡ n = ap (λ (l : Life). l.number) here ∙ e in let is = eq-eqb first.number n same in let none : ⊥ = cc in none)
            | inr behind ↦ number-absent n lives life h' behind e
          ])
    ]

-- ---- whether a life begins at a page

pub page-there : (p : ℕ) (lives : List Life) → begins_at p lives ≡ true → (life : Life) × In life lives × (life.page ≡ p)
page-there p [] h = let none : ⊥ = cc in absurd none
page-there p (life ∷ lives) h =
    elim (cases_Bool (eqb life.page p)) [
      | inl is ↦ (life, inl refl, eqb-true life.page p is)
      | inr isnt ↦ (
          let h' : begins_at p lives ≡ true = rw isnt at h in
          let rest = page-there p lives h' in
          (rest.0, inr rest.1, rest.2))
    ]

pub page-absent : (p : ℕ) (lives : List Life) (life : Life) → begins_at p lives ≡ false → In life lives → life.page ≢ p
page-absent p [] life h there e = absurd there
page-absent p (first ∷ lives) life h there e =
    elim (cases_Bool (eqb first.page p)) [
      | inl is ↦ (let h' : true ≡ false = rw is at h in cc)
      | inr isnt ↦ (
          let h' : begins_at p lives ≡ false = rw isnt at h in
          elim there [
            | inl here ↦ (let same : first.page ≡ p = ap (λ (l : Life). l.page) here ∙ e in let is = eq-eqb first.page p same in let none : ⊥ = cc in none)
            | inr behind ↦ page-absent p lives life h' behind e
          ])
    ]

pub there-begins : (lives : List Life) (life : Life) → In life lives → begins_at life.page lives ≡ true
there-begins [] life h = absurd h
there-begins (l ∷ lives) life h = elim h [
  | inl here ↦ (let e = eq-eqb l.page life.page (ap (λ (x : Life). x.page) here) in rw e refl)
  | inr there ↦ (let rest = there-begins lives life there in elim (cases_Bool (eqb l.page life.page)) [ inl on ↦ rw on refl | inr off ↦ rw off rest ])
]
