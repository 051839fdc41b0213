-- A test of rule 7.
use Rattle.std.proofs.Common.{◌≡◌, ℕ, suc, ◌<◌, Bool, true, false, not, eqb, ltb, List, [], ◌∷◌, refl, ◌⊎◌, Decides}
use Rattle.std.proofs.lemmas.Bool.Decides.{Decides-like, Decides-eqb, Decides-ltb, Decides-not}
use Rattle.page_bitmap.specs.declared.line.Line.{Line}
use Rattle.page_bitmap.specs.declared.line.Line.TheVariants.{Take, Miss, Give, Scav, Pull, Cut, Drop}
use Rattle.page_alloc.specs.Lists.{In}
use Rattle.page_alloc.specs.Lives.{Life, open_lives}
use Rattle.page_alloc.specs.Journal.{at_end}
use Rattle.span_state.specs.declared.sweep.SweepNote.{SweepNote}
use Rattle.cycle_history.specs.Requests.{Marking}
use Rattle.cycle_history.specs.Objects.{Object, is_placed, kept, freed}
use Rattle.cycle_history.specs.Orders.{IsSweepBefore, AreRisingSweeps}
use Rattle.cycle_history.specs.Sweeps.{IsOpenAfter, IsUsedAgain, IsNote, GivesWhenEmpty, AreSwept}
use Rattle.sound_report_tests.proofs.Tests.{Decides-then, Decides-else, Decides-implies, all_in, any_in, all_below, any_below, all_apart, Decides-all, Decides-any, Decides-below, Decides-any_below, Decides-apart}
use Rattle.sound_report_tests.proofs.Places.{is_life_in, Decides-life_in}

-- ---- the order

abbrev pub is_sweep_before : SweepNote → SweepNote → Bool
is_sweep_before a b = elim (ltb a.cycle b.cycle) [ true ↦ true | false ↦ elim (eqb a.cycle b.cycle) [ true ↦ ltb a.page b.page | false ↦ false ] ]

Decides-sweep_before : (a b : SweepNote) → Decides (is_sweep_before a b) (IsSweepBefore a b)
Decides-sweep_before a b =
    Decides-else (ltb a.cycle b.cycle) (elim (eqb a.cycle b.cycle) [ true ↦ ltb a.page b.page | false ↦ false ]) (Decides-ltb a.cycle b.cycle)
    (Decides-then (eqb a.cycle b.cycle) (ltb a.page b.page) (Decides-eqb a.cycle b.cycle) (Decides-ltb a.page b.page))

-- ---- one note

abbrev pub is_note : Marking → List Object → ℕ → Life → SweepNote → Bool
is_note marked objects m life note = elim (eqb note.cycle m) [ true ↦ elim (eqb note.page life.page) [ true ↦ elim (eqb note.kept (kept marked objects m life.number)) [ true ↦ eqb note.freed (freed marked objects m life.number) | false ↦ false ] | false ↦ false ] | false ↦ false ]

Decides-note : (marked : Marking) (objects : List Object) (m : ℕ) (life : Life) (note : SweepNote) → Decides (is_note marked objects m life note) (IsNote marked objects m life note)
Decides-note marked objects m life note =
    Decides-like (is_note marked objects m life note)
    (λ (h : (note.cycle ≡ m) × ((note.page ≡ life.page) × ((note.kept ≡ kept marked objects m life.number) × (note.freed ≡ freed marked objects m life.number)))).
    record { cycle = h.0; page = h.1.0; kept = h.1.1.0; freed = h.1.1.1 })
    (λ h. (h.cycle, (h.page, (h.kept, h.freed))))
    (Decides-then (eqb note.cycle m) (elim (eqb note.page life.page) [ true ↦ elim (eqb note.kept (kept marked objects m life.number)) [ true ↦ eqb note.freed (freed marked objects m life.number) | false ↦ false ] | false ↦ false ]) (Decides-eqb note.cycle m)
    (Decides-then (eqb note.page life.page) (elim (eqb note.kept (kept marked objects m life.number)) [ true ↦ eqb note.freed (freed marked objects m life.number) | false ↦ false ]) (Decides-eqb note.page life.page)
    (Decides-then (eqb note.kept (kept marked objects m life.number)) (eqb note.freed (freed marked objects m life.number)) (Decides-eqb note.kept (kept marked objects m life.number)) (Decides-eqb note.freed (freed marked objects m life.number)))))

-- ---- each life its note, and each note its life

abbrev pub is_noted : Marking → List Object → List SweepNote → ℕ → Life → Bool
is_noted marked objects sweeps m life = any_in (is_note marked objects m life) sweeps

abbrev pub each_noted : Marking → ℕ → List Line → List Object → List SweepNote → Bool
each_noted marked last past objects sweeps = all_below (λ m. all_in (is_noted marked objects sweeps (suc m)) (open_lives (at_end m past))) last

abbrev EachNoted : Marking → ℕ → List Line → List Object → List SweepNote → Type 0
EachNoted marked last past objects sweeps = (m : ℕ) → m < last → (life : Life) → IsOpenAfter past m life → (note : SweepNote) × In note sweeps × IsNote marked objects (suc m) life note

Decides-each_noted : (marked : Marking) (last : ℕ) (past : List Line) (objects : List Object) (sweeps : List SweepNote) → Decides (each_noted marked last past objects sweeps) (EachNoted marked last past objects sweeps)
Decides-each_noted marked last past objects sweeps =
    Decides-below (λ m. all_in (is_noted marked objects sweeps (suc m)) (open_lives (at_end m past))) (λ m. (life : Life) → IsOpenAfter past m life → (note : SweepNote) × In note sweeps × IsNote marked objects (suc m) life note) (λ m.
    Decides-all (is_noted marked objects sweeps (suc m)) (λ life. (note : SweepNote) × In note sweeps × IsNote marked objects (suc m) life note) (open_lives (at_end m past)) (λ life i.
    Decides-any (is_note marked objects (suc m) life) (IsNote marked objects (suc m) life) sweeps (λ note j. Decides-note marked objects (suc m) life note))) last

abbrev pub is_of_life : Marking → List Line → List Object → SweepNote → ℕ → Bool
is_of_life marked past objects note m = any_in (λ life. is_note marked objects (suc m) life note) (open_lives (at_end m past))

abbrev IsOfLife : Marking → List Line → List Object → SweepNote → ℕ → Type 0
IsOfLife marked past objects note m = (life : Life) × IsOpenAfter past m life × IsNote marked objects (suc m) life note

abbrev pub no_other : Marking → ℕ → List Line → List Object → List SweepNote → Bool
no_other marked last past objects sweeps = all_in (λ note. any_below (is_of_life marked past objects note) last) sweeps

abbrev NoOther : Marking → ℕ → List Line → List Object → List SweepNote → Type 0
NoOther marked last past objects sweeps = (note : SweepNote) → In note sweeps → (m : ℕ) × (m < last) × IsOfLife marked past objects note m

Decides-no_other : (marked : Marking) (last : ℕ) (past : List Line) (objects : List Object) (sweeps : List SweepNote) → Decides (no_other marked last past objects sweeps) (NoOther marked last past objects sweeps)
Decides-no_other marked last past objects sweeps =
    Decides-all (λ note. any_below (is_of_life marked past objects note) last) (λ note. (m : ℕ) × (m < last) × IsOfLife marked past objects note m) sweeps (λ note i.
    Decides-any_below (is_of_life marked past objects note) (IsOfLife marked past objects note) (λ m.
    Decides-any (λ life. is_note marked objects (suc m) life note) (λ life. IsNote marked objects (suc m) life note) (open_lives (at_end m past)) (λ life j. Decides-note marked objects (suc m) life note)) last)

-- ---- Gives

abbrev pub may_give : Marking → List Object → ℕ → ℕ → Life → Bool
may_give marked objects cycle page life = elim (eqb life.page page) [ true ↦ elim (ltb life.cycle cycle) [ true ↦ eqb (kept marked objects cycle life.number) 0 | false ↦ false ] | false ↦ true ]

abbrev MayGiveIt : Marking → List Object → ℕ → ℕ → Life → Type 0
MayGiveIt marked objects cycle page life = life.page ≡ page → (life.cycle < cycle) × (kept marked objects cycle life.number ≡ 0)

Decides-give : (marked : Marking) (objects : List Object) (cycle page : ℕ) (life : Life) → Decides (may_give marked objects cycle page life) (MayGiveIt marked objects cycle page life)
Decides-give marked objects cycle page life =
    Decides-implies (eqb life.page page) (elim (ltb life.cycle cycle) [ true ↦ eqb (kept marked objects cycle life.number) 0 | false ↦ false ]) (Decides-eqb life.page page)
    (Decides-then (ltb life.cycle cycle) (eqb (kept marked objects cycle life.number) 0) (Decides-ltb life.cycle cycle) (Decides-eqb (kept marked objects cycle life.number) 0))

abbrev pub gives_when_empty : Marking → List Object → List Line → Bool
gives_when_empty marked objects [] = true
gives_when_empty marked objects (Take cycle page pages class ∷ past) = gives_when_empty marked objects past
gives_when_empty marked objects (Miss cycle pages class ∷ past) = gives_when_empty marked objects past
gives_when_empty marked objects (Scav cycle page pages ∷ past) = gives_when_empty marked objects past
gives_when_empty marked objects (Give cycle page pages ∷ past) = elim (all_in (may_give marked objects cycle page) (open_lives past)) [ true ↦ gives_when_empty marked objects past | false ↦ false ]
gives_when_empty marked objects (Pull cycle proc page pages ∷ past) = gives_when_empty marked objects past
gives_when_empty marked objects (Cut cycle proc page pages class ∷ past) = gives_when_empty marked objects past
gives_when_empty marked objects (Drop cycle proc page pages ∷ past) = gives_when_empty marked objects past

Decides-gives : (marked : Marking) (objects : List Object) (past : List Line) → Decides (gives_when_empty marked objects past) (GivesWhenEmpty marked objects past)
Decides-gives marked objects [] = (λ h. tt, λ h. refl)
Decides-gives marked objects (Take cycle page pages class ∷ past) = Decides-gives marked objects past
Decides-gives marked objects (Miss cycle pages class ∷ past) = Decides-gives marked objects past
Decides-gives marked objects (Scav cycle page pages ∷ past) = Decides-gives marked objects past
Decides-gives marked objects (Give cycle page pages ∷ past) =
    Decides-then (all_in (may_give marked objects cycle page) (open_lives past)) (gives_when_empty marked objects past)
    (Decides-all (may_give marked objects cycle page) (MayGiveIt marked objects cycle page) (open_lives past) (λ life i. Decides-give marked objects cycle page life))
    (Decides-gives marked objects past)
Decides-gives marked objects (Pull cycle proc page pages ∷ past) = Decides-gives marked objects past
Decides-gives marked objects (Cut cycle proc page pages class ∷ past) = Decides-gives marked objects past
Decides-gives marked objects (Drop cycle proc page pages ∷ past) = Decides-gives marked objects past

-- ---- empty lives

abbrev pub is_again : ℕ → Life → Object → Bool
is_again c life o = elim (eqb o.life life.number) [ true ↦ elim (eqb o.cycle c) [ true ↦ is_placed o.answer | false ↦ false ] | false ↦ false ]

abbrev pub is_used_again : List Object → ℕ → Life → Bool
is_used_again objects c life = any_in (is_again c life) objects

Decides-used_again : (objects : List Object) (c : ℕ) (life : Life) → Decides (is_used_again objects c life) (IsUsedAgain objects c life)
Decides-used_again objects c life =
    Decides-like (is_used_again objects c life)
    (λ (h : (o : Object) × In o objects × ((o.life ≡ life.number) × ((o.cycle ≡ c) × (is_placed o.answer ≡ true)))). (h.0, h.1, h.2.0, h.2.1.0, h.2.1.1))
    (λ h. (h.0, h.1, (h.2, (h.3, h.4))))
    (Decides-any (is_again c life) (λ o. (o.life ≡ life.number) × ((o.cycle ≡ c) × (is_placed o.answer ≡ true))) objects (λ o i.
    Decides-then (eqb o.life life.number) (elim (eqb o.cycle c) [ true ↦ is_placed o.answer | false ↦ false ]) (Decides-eqb o.life life.number)
    (Decides-then (eqb o.cycle c) (is_placed o.answer) (Decides-eqb o.cycle c) (λ h. h, λ h. h))))

abbrev pub is_gone_or_used : List Line → List Object → ℕ → Life → Bool
is_gone_or_used past objects c life = elim (not (is_life_in (open_lives (at_end c past)) life)) [ true ↦ true | false ↦ is_used_again objects c life ]

abbrev IsGoneOrUsed : List Line → List Object → ℕ → Life → Type 0
IsGoneOrUsed past objects c life = (¬ IsOpenAfter past c life) ⊎ IsUsedAgain objects c life

abbrev pub is_settled : Marking → List Line → List Object → ℕ → Life → Bool
is_settled marked past objects c life = elim (eqb (kept marked objects c life.number) 0) [ true ↦ is_gone_or_used past objects c life | false ↦ true ]

Decides-settled : (marked : Marking) (past : List Line) (objects : List Object) (c : ℕ) (life : Life) → Decides (is_settled marked past objects c life) (kept marked objects c life.number ≡ 0 → IsGoneOrUsed past objects c life)
Decides-settled marked past objects c life =
    Decides-implies (eqb (kept marked objects c life.number) 0) (is_gone_or_used past objects c life) (Decides-eqb (kept marked objects c life.number) 0)
    (Decides-else (not (is_life_in (open_lives (at_end c past)) life)) (is_used_again objects c life)
    (Decides-not (is_life_in (open_lives (at_end c past)) life) (Decides-life_in (open_lives (at_end c past)) life))
    (Decides-used_again objects c life))

abbrev pub all_settled : Marking → ℕ → List Line → List Object → Bool
all_settled marked last past objects = all_below (λ m. all_in (is_settled marked past objects (suc m)) (open_lives (at_end m past))) last

abbrev AllSettled : Marking → ℕ → List Line → List Object → Type 0
AllSettled marked last past objects = (m : ℕ) → m < last → (life : Life) → IsOpenAfter past m life → kept marked objects (suc m) life.number ≡ 0 → IsGoneOrUsed past objects (suc m) life

Decides-all_settled : (marked : Marking) (last : ℕ) (past : List Line) (objects : List Object) → Decides (all_settled marked last past objects) (AllSettled marked last past objects)
Decides-all_settled marked last past objects =
    Decides-below (λ m. all_in (is_settled marked past objects (suc m)) (open_lives (at_end m past))) (λ m. (life : Life) → IsOpenAfter past m life → kept marked objects (suc m) life.number ≡ 0 → IsGoneOrUsed past objects (suc m) life) (λ m.
    Decides-all (is_settled marked past objects (suc m)) (λ life. kept marked objects (suc m) life.number ≡ 0 → IsGoneOrUsed past objects (suc m) life) (open_lives (at_end m past)) (λ life i. Decides-settled marked past objects (suc m) life)) last

-- ---- the rule

abbrev pub are_swept : Marking → ℕ → List Line → List Object → List SweepNote → Bool
are_swept marked last past objects sweeps = elim (all_apart is_sweep_before sweeps) [ true ↦ elim (each_noted marked last past objects sweeps) [ true ↦ elim (no_other marked last past objects sweeps) [ true ↦ elim (gives_when_empty marked objects past) [ true ↦ all_settled marked last past objects | false ↦ false ] | false ↦ false ] | false ↦ false ] | false ↦ false ]

pub Decides-swept : (marked : Marking) (last : ℕ) (past : List Line) (objects : List Object) (sweeps : List SweepNote) → Decides (are_swept marked last past objects sweeps) (AreSwept marked last past objects sweeps)
Decides-swept marked last past objects sweeps =
    Decides-like (are_swept marked last past objects sweeps)
    (λ (h : AreRisingSweeps sweeps × (EachNoted marked last past objects sweeps × (NoOther marked last past objects sweeps × (GivesWhenEmpty marked objects past × AllSettled marked last past objects)))). record {
      order = h.0;
      each = λ m life lt alive. h.1.0 m lt life alive;
      no_other = λ note i. (let of = h.1.1.0 note i in (of.0, of.2.0, of.1, of.2.1, of.2.2));
      gives = h.1.1.1.0;
      empty = λ m life lt alive none. h.1.1.1.1 m lt life alive none;
    })
    (λ h. (
      h.order,
      (
        (λ m lt life alive. h.each m life lt alive),
        (
          (λ note i. (let of = h.no_other note i in (of.0, of.2, (of.1, of.3, of.4)))),
          (h.gives, λ m lt life alive none. h.empty m life lt alive none),
        ),
      ),
    ))
    (Decides-then (all_apart is_sweep_before sweeps) (elim (each_noted marked last past objects sweeps) [ true ↦ elim (no_other marked last past objects sweeps) [ true ↦ elim (gives_when_empty marked objects past) [ true ↦ all_settled marked last past objects | false ↦ false ] | false ↦ false ] | false ↦ false ])
    (Decides-apart is_sweep_before IsSweepBefore Decides-sweep_before sweeps)
    (Decides-then (each_noted marked last past objects sweeps) (elim (no_other marked last past objects sweeps) [ true ↦ elim (gives_when_empty marked objects past) [ true ↦ all_settled marked last past objects | false ↦ false ] | false ↦ false ])
    (Decides-each_noted marked last past objects sweeps)
    (Decides-then (no_other marked last past objects sweeps) (elim (gives_when_empty marked objects past) [ true ↦ all_settled marked last past objects | false ↦ false ]) (Decides-no_other marked last past objects sweeps)
    (Decides-then (gives_when_empty marked objects past) (all_settled marked last past objects) (Decides-gives marked objects past) (Decides-all_settled marked last past objects)))))
