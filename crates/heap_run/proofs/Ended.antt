-- From what the shared spans tell of a cycle that has ended, and the answers and notes of the run, to the facts of the cycle.
use Rattle.std.proofs.Common.{◌≡◌, ℕ, ◌<◌, true, ◌&&◌, cond, eqb, List, [], ◌∷◌, map, length, refl, sym, ◌∙◌, ap, arith, inl, inr, subst}
use Rattle.std.proofs.lemmas.Bool.{cases_eq, cases_lt, eq-eqb, ne_eqb}
use Rattle.page_bitmap.specs.declared.line.Line.{Line}
use Rattle.page_bitmap.specs.declared.line.Line.TheVariants.{Take, Miss, Give, Scav, Pull, Cut, Drop}
use Rattle.page_alloc.specs.Lists.{In, IsNumber}
use Rattle.page_alloc.specs.Lives.{Life, open_lives}
use Rattle.page_alloc.proofs.Lives.{from_others}
use Rattle.trace_reader.specs.declared.trace.Event.{Event}
use Rattle.cycle_history.specs.declared.Answer.{Answer}
use Rattle.cycle_history.specs.Requests.{Request, Marking}
use Rattle.cycle_history.specs.Objects.{Object, is_placed}
use Rattle.cycle_history.specs.Rules.{AreAnswered}
use Rattle.cycle_history.specs.Sound.{IsScavenged}
use Rattle.cycle_history.proofs.Plain.{request_in}
use Rattle.sound_run.specs.Run.{IsJournal, Lasts}
use Rattle.sound_run.proofs.Journals.{same_page}
use Rattle.sound_run.proofs.Seats.{number-below, same_number}
use Rattle.worker_log.specs.declared.Placing.{Placing}
use Rattle.worker_log.specs.declared.Entry.{Entry}
use Rattle.worker_log.specs.Logs.{placings, refusals}
use Rattle.run_laws.specs.CycleSoFar.{CycleSoFar, past_after}
use Rattle.run_laws.specs.Known.{known_number}
use Rattle.run_laws.specs.SweepFacts.{Notes}
use Rattle.run_laws.specs.PlacingFacts.{Places}
use Rattle.run_laws.specs.ObjectFacts.{IsPlacing}
use Rattle.run_laws.specs.Facts.{Facts, Marks}
use Rattle.cycle_history.specs.Profile.{placed_by}
use Rattle.run_laws.specs.Lists.{ArePaired}
use Rattle.run_laws.proofs.Lists.{number-less, paired-right, in-passing}
use Rattle.run_laws.proofs.Asked.{objects-from, small-pages}
use Rattle.span_laws.specs.Cycle.{EndsCycle}
use Rattle.heap_run.proofs.Needs.{need-pages}
use Rattle.run_laws.specs.Blocks.{cut_out}
use Rattle.heap_run.proofs.CutLives.{cut-open, in-cuttings}
use Rattle.heap_run.proofs.KnownTakes.{is_take, taken-known}
use Rattle.heap_run.proofs.Served.{AreObjects, IsSeated}

-- the line by its number, where one is newer
pub number-old : {X : Type 0} (n : ℕ) (x line : X) (past : List X) → n < length past → IsNumber n x (line ∷ past) → IsNumber n x past
number-old n x line past lt h = elim h [ inl here ↦ (let e = here.0 in absurd (omega arith)) | inr there ↦ there ]

-- the pages of the span that a line makes, if it makes one
abbrev pages_in : Line → ℕ
pages_in (Take cycle page pages class) = pages
pages_in (Cut cycle proc page pages class) = pages
pages_in line = 0

-- an open life's number is that of the line that made it
life-line : (past : List Line) (life : Life) (line : Line) → In life (open_lives past) → IsNumber life.number line past → pages_in line ≡ life.pages
life-line [] life line h n = absurd h
life-line (Take cycle page pages class ∷ past) life line h n =
    elim h [
      | inl here ↦ elim n [
        | inl first ↦ ap pages_in (sym first.1) ∙ ap (λ (l : Life). l.pages) here
        | inr there ↦ (let e : length past ≡ life.number = ap (λ (l : Life). l.number) here in let lt = number-less past life.number line there in absurd (omega arith))
      ]
      | inr old ↦ life-line past life line old (number-old life.number line (Take cycle page pages class) past (number-below past life old) n)
    ]
life-line (Miss cycle pages class ∷ past) life line h n = life-line past life line h (number-old life.number line (Miss cycle pages class) past (number-below past life h) n)
life-line (Give cycle page pages ∷ past) life line h n =
    let old = (from_others page (open_lives past) life h).0 in
    life-line past life line old (number-old life.number line (Give cycle page pages) past (number-below past life old) n)
life-line (Scav cycle page pages ∷ past) life line h n = life-line past life line h (number-old life.number line (Scav cycle page pages) past (number-below past life h) n)
life-line (Pull cycle proc page pages ∷ past) life line h n = life-line past life line h (number-old life.number line (Pull cycle proc page pages) past (number-below past life h) n)
life-line (Cut cycle proc page pages class ∷ past) life line h n =
    elim h [
      | inl here ↦ elim n [
        | inl first ↦ ap pages_in (sym first.1) ∙ ap (λ (l : Life). l.pages) here
        | inr there ↦ (let e : length past ≡ life.number = ap (λ (l : Life). l.number) here in let lt = number-less past life.number line there in absurd (omega arith))
      ]
      | inr old ↦ life-line past life line old (number-old life.number line (Cut cycle proc page pages class) past (number-below past life old) n)
    ]
life-line (Drop cycle proc page pages ∷ past) life line h n = life-line past life line h (number-old life.number line (Drop cycle proc page pages) past (number-below past life h) n)

-- ---- the journal's life at a page

-- the number of the life that begins at a page
abbrev pub seated : List Life → ℕ → ℕ
seated [] page = 0
seated (life ∷ lives) page = cond (eqb life.page page) life.number (seated lives page)

seated-one : (lives : List Life) (life : Life) → ((x : Life) → In x lives → x.page ≡ life.page → x ≡ life) → In life lives → seated lives life.page ≡ life.number
seated-one [] life one h = absurd h
seated-one (x ∷ lives) life one h = elim (cases_eq x.page life.page) [
  | inl same ↦ rw (eq-eqb x.page life.page same) (ap (λ (l : Life). l.number) (one x (inl refl) same))
  | inr other ↦ rw (ne_eqb x.page life.page other) (elim h [
    | inl here ↦ absurd (other (ap (λ (l : Life). l.page) here))
    | inr there ↦ seated-one lives life (λ y i. one y (inr i)) there
  ])
]

-- there is no other
seated-at : (region goal : ℕ) (past : List Line) (life : Life) → IsJournal region goal past → In life (open_lives past) → seated (open_lives past) life.page ≡ life.number
seated-at region goal past life legal h = seated-one (open_lives past) life (λ x i page. same_page region goal past x life legal i h page) h

-- an object that was placed there is in that life
placing-of : (region goal : ℕ) (past : List Line) (log : List Entry) (o : Object) (a : Placing) → IsJournal region goal past → IsSeated (seated (open_lives past)) log o a → IsPlacing past o a
placing-of region goal past log o a legal is = record {
  life = λ life h page. sym (seated-at region goal past life legal h) ∙ ap (seated (open_lives past)) page ∙ sym is.life;
  index = is.index;
  class = is.class;
  address = is.address;
}

paired-as : {X Y : Type 0} (R S : X → Y → Type 0) (xs : List X) (ys : List Y) → ((x : X) (y : Y) → R x y → S x y) → ArePaired R xs ys → ArePaired S xs ys
paired-as R S [] [] also pairs = tt
paired-as R S [] (y ∷ ys) also pairs = absurd pairs
paired-as R S (x ∷ xs) [] also pairs = absurd pairs
paired-as R S (x ∷ xs) (y ∷ ys) also pairs = (also x y pairs.0, paired-as R S xs ys also pairs.1)

-- ---- the life of an object

-- An object with its placing, in this life.
record HasPlacing (e : CycleSoFar) (o : Object) (life : Life) : Type 0 where
  a : Placing
  there : In a (placings (e.logs o.proc))
  is : IsSeated (seated (open_lives (past_after e))) (e.logs o.proc) o a
  page : life.page ≡ a.page
  class : life.class ≡ a.class

has-placing : (region goal : ℕ) (e : CycleSoFar) (o : Object) (life : Life) → IsJournal region goal (past_after e) → Places e (open_lives (past_after e))
    → ArePaired (IsSeated (seated (open_lives (past_after e))) (e.logs o.proc)) (placed_by o.proc e.news) (placings (e.logs o.proc)) → In o (placed_by o.proc e.news)
    → In life (open_lives (past_after e)) → life.number ≡ o.life → HasPlacing e o life
has-placing region goal e o life legal places pairs h opened number =
    let at = paired-right (IsSeated (seated (open_lives (past_after e))) (e.logs o.proc)) (placed_by o.proc e.news) (placings (e.logs o.proc)) o pairs h in
    let here = places.here o.proc at.0 at.1 in
    let its : o.life ≡ here.0.number = at.2.life ∙ ap (seated (open_lives (past_after e))) (sym here.2.page) ∙ seated-at region goal (past_after e) here.0 legal here.1 in
    let same : life ≡ here.0 = same_number (past_after e) life here.0 opened here.1 (number ∙ its) in
    record { a = at.0; there = at.1; is = at.2; page = ap (λ (l : Life). l.page) same ∙ here.2.page; class = ap (λ (l : Life). l.class) same ∙ here.2.class }

-- the pages of a large object's life are those that its object needs
large-pages : (region goal : ℕ) (e : CycleSoFar) (o : Object) (life : Life) → EndsCycle region goal e → HasPlacing e o life → o.need.class < 2 → In life (open_lives (past_after e)) → life.pages ≡ o.need.pages
large-pages region goal e o life ended p large opened = elim (p.is.large large) [
  | inl t ↦ (
      let x = t.0 in
      let known : p.a.number ≡ known_number (past_after e) life.number = ended.numbers o.proc p.a life p.there opened p.page in
      let at : IsNumber (known_number (past_after e) life.number) x.line (past_after e) = subst (λ (k : ℕ). IsNumber k x.line (past_after e)) (t.4 ∙ known) (ended.took o.proc x t.3) in
      let own = taken-known region goal (past_after e) life x.line ended.writes.legal opened (ap is_take t.5) at in
      let there : IsNumber life.number x.line (past_after e) = subst (λ (k : ℕ). IsNumber k x.line (past_after e)) own at in
      sym (life-line (past_after e) life x.line opened there) ∙ ap pages_in t.5)
  | inr entry ↦ (
      let line = ended.cut o.proc (cut_out p.a.page o.need.pages o.need.class) (in-cuttings (e.logs o.proc) p.a.page o.need.pages o.need.class entry) in
      let cut = cut-open e.logs e.before e.lines e.cycle o.proc p.a.page o.need.pages o.need.class ended.writes.gives line in
      let same : life ≡ cut.life = same_page region goal (past_after e) life cut.life ended.writes.legal opened cut.here (p.page ∙ sym cut.page_is) in
      ap (λ (l : Life). l.pages) same ∙ cut.pages_are)
]

-- the facts of a cycle that has ended
pub ended-facts : (marked : Marking) (region goal : ℕ) (older : List Request) (objects : List Object) (events : List Event) (answers : List Answer) (e : CycleSoFar)
    → EndsCycle region goal e → AreObjects (seated (open_lives (past_after e))) e.cycle (length older) events answers e.logs (λ w. placings (e.logs w)) (λ w. refusals (e.logs w)) e.news
    → AreAnswered older objects → ((o : Object) → In o e.news → Lasts marked o) → Notes e → Marks marked objects e → IsScavenged region goal (past_after e)
    → Facts marked region goal objects e
ended-facts marked region goal older objects events answers e ended are was lasts notes marks scavenged =
    let mine : (o : Object) → In o e.news → is_placed o.answer ≡ true → In o (placed_by o.proc e.news) = λ o h placed.
    in-passing (λ x. eqb x.proc o.proc && is_placed x.answer) e.news o h (rw (eq-eqb o.proc o.proc refl, placed) refl) in
    let placing : (o : Object) (life : Life) → In o e.news → is_placed o.answer ≡ true → In life (open_lives (past_after e)) → life.number ≡ o.life → HasPlacing e o life = λ o life h placed opened number.
    has-placing region goal e o life ended.writes.legal ended.places (are.placed_are o.proc) (mine o h placed) opened number in
    let pages : (o : Object) (life : Life) → In o e.news → is_placed o.answer ≡ true → In life (open_lives (past_after e)) → life.number ≡ o.life → life.pages ≡ o.need.pages = λ o life h placed opened number.
    (let p = placing o life h placed opened number in elim (cases_lt o.need.class 2) [
      | inl large ↦ large-pages region goal e o life ended p large opened
      | inr small ↦ (
          let need = are.needs o h placed in
          small-pages region goal (past_after e) life o ended.writes.legal opened (p.class ∙ sym p.is.class) small (need-pages need.0 need.1 o.need need.2 small))
    ]) in
    let placed_are : (w : ℕ) → ArePaired (IsPlacing (past_after e)) (placed_by w e.news) (placings (e.logs w)) = λ w.
    paired-as (IsSeated (seated (open_lives (past_after e))) (e.logs w)) (IsPlacing (past_after e)) (placed_by w e.news) (placings (e.logs w))
    (λ o a is. placing-of region goal (past_after e) (e.logs w) o a ended.writes.legal is) (are.placed_are w) in
    let of : (r : Request) → In r (map (request_in e.cycle) events) → r.cycle ≡ e.cycle = λ r h. in-events e.cycle events r h in
    record {
      writes = ended.writes;
      sweeps = ended.sweeps;
      notes = notes;
      marks = marks;
      places = ended.places;
      holdings = ended.holdings;
      fills = ended.fills;
      objects_are = objects-from marked (map (request_in e.cycle) events) older objects e are.asked was of lasts are.fits placed_are are.missed_are pages;
      misses = ended.misses;
      scavenged = scavenged;
    }
  where
    in-events : (c : ℕ) (events : List Event) (r : Request) → In r (map (request_in c) events) → r.cycle ≡ c
    in-events c [] r h = absurd h
    in-events c (x ∷ events) r h = elim h [ inl here ↦ ap (λ (q : Request). q.cycle) (sym here) | inr there ↦ in-events c events r there ]
