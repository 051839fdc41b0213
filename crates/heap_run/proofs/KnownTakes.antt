-- A life that workers know by the number of a Take line has that number: those that were cut are known by the number of a Pull line.
use Rattle.std.proofs.Common.{◌≡◌, ℕ, ◌<◌, ◌≤◌, Bool, true, false, ◌&&◌, ◌||◌, not, List, [], ◌∷◌, length, Some, None, refl, sym, ◌∙◌, ap, arith, inl, inr, subst}
use Rattle.std.specs.Prelude.{is_some}
use Rattle.std.proofs.lemmas.Bool.{cases_Bool, cases_eq, eq-eqb, ne_eqb}
use Rattle.page_bitmap.specs.declared.line.Line.{Line}
use Rattle.page_bitmap.specs.declared.line.Line.TheVariants.{Take, Miss, Give, Scav, Pull, Cut, Drop}
use Rattle.page_alloc.specs.Lists.{In, IsNumber}
use Rattle.page_alloc.specs.Lives.{Life, open_lives}
use Rattle.page_alloc.specs.Owners.{cached, is_number, owner, within}
use Rattle.page_alloc.proofs.Lives.{from_others, span_pages}
use Rattle.sound_run.specs.Run.{IsJournal}
use Rattle.sound_run.proofs.Seats.{number-below}
use Rattle.run_laws.specs.Known.{known_number, number_known, pull_number}
use Rattle.run_laws.proofs.KnownLives.{known_newest, known_older}
use Rattle.run_laws.proofs.Lists.{number-less, number-one}

-- whether a line is a Take
abbrev pub is_take : Line → Bool
is_take (Take cycle page pages class) = true
is_take _ = false

-- ---- a processor's newest Pull line

-- A line that is no Take has the number.
abbrev HasOther : ℕ → List Line → Type 0
HasOther n past = (line : Line) × IsNumber n line past × (is_take line ≡ false)

other-under : (n : ℕ) (first : Line) (past : List Line) → HasOther n past → HasOther n (first ∷ past)
other-under n first past h = (h.0, inr h.1, h.2)

-- it is in the journal, where the processor has a page in its page cache
pull-there : (q p : ℕ) (past : List Line) → cached past p ≡ Some q → HasOther (pull_number q past) past
pull-there q p [] at = absurd (let e : None ≡ Some q = at in cc)
pull-there q p (Take cycle page pages class ∷ past) at = other-under (pull_number q past) (Take cycle page pages class) past (pull-there q p past at)
pull-there q p (Miss cycle pages class ∷ past) at = other-under (pull_number q past) (Miss cycle pages class) past (pull-there q p past at)
pull-there q p (Give cycle page pages ∷ past) at = other-under (pull_number q past) (Give cycle page pages) past (pull-there q p past at)
pull-there q p (Scav cycle page pages ∷ past) at = other-under (pull_number q past) (Scav cycle page pages) past (pull-there q p past at)
pull-there q p (Pull cycle proc page pages ∷ past) at =
    elim (cases_eq proc q) [
      | inl same ↦ (
          let here : HasOther (length past) (Pull cycle proc page pages ∷ past) = (Pull cycle proc page pages, inl (refl, refl), refl) in
          let at_here : pull_number q (Pull cycle proc page pages ∷ past) ≡ length past = rw (eq-eqb proc q same) refl in
          subst (λ (n : ℕ). HasOther n (Pull cycle proc page pages ∷ past)) (sym at_here) here)
      | inr other ↦ (
          let old : cached past p ≡ Some q = elim (cases_Bool (within p page 64 && not (is_some (owner past p) || is_some (cached past p)))) [
            | inl on ↦ (let e : Some proc ≡ Some q = rw on at at in let f : proc ≡ q = cc in absurd (other f))
            | inr off ↦ rw off at at
          ] in
          let at_old : pull_number q (Pull cycle proc page pages ∷ past) ≡ pull_number q past = rw (ne_eqb proc q other) refl in
          subst (λ (n : ℕ). HasOther n (Pull cycle proc page pages ∷ past)) (sym at_old) (other-under (pull_number q past) (Pull cycle proc page pages) past (pull-there q p past old)))
    ]
pull-there q p (Cut cycle proc page pages class ∷ past) at =
    let old : cached past p ≡ Some q = elim (cases_Bool (within p page pages)) [
      | inl on ↦ (let e : None ≡ Some q = rw on at at in absurd (let no : ⊥ = cc in no))
      | inr off ↦ rw off at at
    ] in
    other-under (pull_number q past) (Cut cycle proc page pages class) past (pull-there q p past old)
pull-there q p (Drop cycle proc page pages ∷ past) at =
    let old : cached past p ≡ Some q = elim (cases_Bool (is_number proc (cached past p))) [
      | inl on ↦ (let e : None ≡ Some q = rw on at at in absurd (let no : ⊥ = cc in no))
      | inr off ↦ rw off at at
    ] in
    other-under (pull_number q past) (Drop cycle proc page pages) past (pull-there q p past old)

-- ---- the numbers by which lives are known are those of lines

pull-low : (q : ℕ) (past : List Line) → pull_number q past ≤ length past
pull-low q [] = omega arith
pull-low q (Take cycle page pages class ∷ past) = let l = pull-low q past in omega arith
pull-low q (Miss cycle pages class ∷ past) = let l = pull-low q past in omega arith
pull-low q (Give cycle page pages ∷ past) = let l = pull-low q past in omega arith
pull-low q (Scav cycle page pages ∷ past) = let l = pull-low q past in omega arith
pull-low q (Pull cycle proc page pages ∷ past) = elim (cases_eq proc q) [
  | inl same ↦ (let at_here : pull_number q (Pull cycle proc page pages ∷ past) ≡ length past = rw (eq-eqb proc q same) refl in subst (λ (n : ℕ). n ≤ length (Pull cycle proc page pages ∷ past)) (sym at_here) (omega arith))
  | inr other ↦ (let at_old : pull_number q (Pull cycle proc page pages ∷ past) ≡ pull_number q past = rw (ne_eqb proc q other) refl in let l = pull-low q past in subst (λ (n : ℕ). n ≤ length (Pull cycle proc page pages ∷ past)) (sym at_old) (omega arith))
]
pull-low q (Cut cycle proc page pages class ∷ past) = let l = pull-low q past in omega arith
pull-low q (Drop cycle proc page pages ∷ past) = let l = pull-low q past in omega arith

line-low : (line : Line) (past : List Line) → number_known line past ≤ length past
line-low (Take cycle page pages class) past = omega arith
line-low (Miss cycle pages class) past = omega arith
line-low (Give cycle page pages) past = omega arith
line-low (Scav cycle page pages) past = omega arith
line-low (Pull cycle proc page pages) past = omega arith
line-low (Cut cycle proc page pages class) past = pull-low proc past
line-low (Drop cycle proc page pages) past = omega arith

known-low : (past : List Line) (n : ℕ) → n < length past → known_number past n < length past
known-low [] n low = absurd (omega arith)
known-low (line ∷ past) n low = elim (cases_eq n (length past)) [
  | inl same ↦ (
      let at_here : known_number (line ∷ past) n ≡ number_known line past = rw (eq-eqb n (length past) same) refl in
      let l = line-low line past in
      subst (λ (k : ℕ). k < length (line ∷ past)) (sym at_here) (omega arith))
  | inr other ↦ (
      let l = known-low past n (omega arith) in
      let at_old : known_number (line ∷ past) n ≡ known_number past n = rw (ne_eqb n (length past) other) refl in
      subst (λ (k : ℕ). k < length (line ∷ past)) (sym at_old) (omega arith))
]

-- ---- a life that is known by the number of a Take line

-- of an older life with a line more
older : (first : Line) (past : List Line) (life : Life) (line : Line) → In life (open_lives past) → IsNumber (known_number (first ∷ past) life.number) line (first ∷ past)
    → (known_number (first ∷ past) life.number ≡ known_number past life.number) × IsNumber (known_number past life.number) line past
older first past life line h n =
    let low = number-below past life h in
    let same : known_number (first ∷ past) life.number ≡ known_number past life.number = known_older first past life.number low in
    let n' : IsNumber (known_number past life.number) line (first ∷ past) = subst (λ (k : ℕ). IsNumber k line (first ∷ past)) same n in (
      same,
      elim n' [
        | inl here ↦ (let e = here.0 in let l = known-low past life.number low in absurd (omega arith))
        | inr there ↦ there
      ],
    )

pub taken-known : (region goal : ℕ) (past : List Line) (life : Life) (line : Line) → IsJournal region goal past → In life (open_lives past) → is_take line ≡ true → IsNumber (known_number past life.number) line past
    → known_number past life.number ≡ life.number
taken-known region goal [] life line legal h t n = absurd h
taken-known region goal (Take cycle page pages class ∷ past) life line legal h t n =
    elim h [
      | inl here ↦ subst (λ (l : Life). known_number (Take cycle page pages class ∷ past) l.number ≡ l.number) here (known_newest (Take cycle page pages class) past)
      | inr old ↦ (let o = older (Take cycle page pages class) past life line old n in o.0 ∙ taken-known region goal past life line legal.2 old t o.1)
    ]
taken-known region goal (Miss cycle pages class ∷ past) life line legal h t n = let o = older (Miss cycle pages class) past life line h n in o.0 ∙ taken-known region goal past life line legal.2 h t o.1
taken-known region goal (Give cycle page pages ∷ past) life line legal h t n =
    let old = (from_others page (open_lives past) life h).0 in
    let o = older (Give cycle page pages) past life line old n in
    o.0 ∙ taken-known region goal past life line legal.2 old t o.1
taken-known region goal (Scav cycle page pages ∷ past) life line legal h t n = let o = older (Scav cycle page pages) past life line h n in o.0 ∙ taken-known region goal past life line legal.2 h t o.1
taken-known region goal (Pull cycle proc page pages ∷ past) life line legal h t n = let o = older (Pull cycle proc page pages) past life line h n in o.0 ∙ taken-known region goal past life line legal.2 h t o.1
taken-known region goal (Cut cycle proc page pages class ∷ past) life line legal h t n =
    elim h [
      | inl here ↦ (
          let first : Line = Cut cycle proc page pages class in
          let cut = legal.0 in
          let some = span_pages class pages cut.2 in
          let pull = pull-there proc page past (cut.3.here page (omega arith) (omega arith)) in
          let known : known_number (first ∷ past) life.number ≡ pull_number proc past = ap (λ (l : Life). known_number (first ∷ past) l.number) (sym here) ∙ known_newest first past in
          let at : IsNumber (pull_number proc past) line (first ∷ past) = subst (λ (k : ℕ). IsNumber k line (first ∷ past)) known n in
          absurd (elim at [
            | inl new ↦ (let e = new.0 in let l = number-less past (pull_number proc past) pull.0 pull.1 in omega arith)
            | inr there ↦ (
                let same : line ≡ pull.0 = number-one past (pull_number proc past) line pull.0 there pull.1 in
                let e : true ≡ false = sym t ∙ ap is_take same ∙ pull.2 in
                let no : ⊥ = cc in
                no)
          ]))
      | inr old ↦ (let o = older (Cut cycle proc page pages class) past life line old n in o.0 ∙ taken-known region goal past life line legal.2 old t o.1)
    ]
taken-known region goal (Drop cycle proc page pages ∷ past) life line legal h t n = let o = older (Drop cycle proc page pages) past life line h n in o.0 ∙ taken-known region goal past life line legal.2 h t o.1
