-- The driver's logs tell of the cycle that has ended.
use Rattle.std.proofs.Common.{◌≡◌, ℕ, ◌<◌, Bool, true, false, eqb, List, [], ◌∷◌, ◌++◌, map, reverse, drop, length, get_or, Some, refl, sym, ◌∙◌, ap, subst, arith, inl, inr}
use Rattle.std.specs.List.Sorted.{IsPermutation}
use Rattle.std.proofs.lemmas.Bool.{cases_Bool, eq-eqb, ne_eqb}
use Rattle.std.proofs.lemmas.List.{get_or_default}
use Rattle.page_bitmap.specs.declared.line.Line.{Line}
use Rattle.page_alloc.specs.Lists.{In}
use Rattle.page_alloc.specs.Lives.{Life, open_lives}
use Rattle.span_state.specs.declared.sweep.SweepNote.{SweepNote}
use Rattle.trace_reader.specs.declared.trace.Trace.{Trace}
use Rattle.trace_reader.specs.declared.trace.Cycle.{Cycle}
use Rattle.trace_reader.specs.declared.trace.Event.{Event}
use Rattle.cycle_history.specs.declared.Answer.{Answer}
use Rattle.cycle_history.specs.Before.{objects_before}
use Rattle.cycle_history.specs.Profile.{passing}
use Rattle.sound_run.proofs.Notes.{from-reverse, in-reverse}
use Rattle.worker_log.specs.declared.Entry.{Entry}
use Rattle.worker_log.specs.declared.Placing.{Placing}
use Rattle.worker_log.specs.Logs.{placings}
use Rattle.run_laws.specs.CycleSoFar.{CycleSoFar, past_after}
use Rattle.run_laws.specs.Known.{known_number}
use Rattle.run_laws.specs.PlacingFacts.{Places}
use Rattle.span_laws.specs.Views.{Seen}
use Rattle.heap_run.specs.Last.{ArePlacedIn, TellsLast, events_in, no_cycle}
use Rattle.heap_run.specs.Parts.{part_at}
use Rattle.heap_run.specs.Served.{answers_by, events_by}
use Rattle.heap_run.specs.Swept.{AreCollected, Made, note_at}
use Rattle.heap_run.specs.Turns.{HaveAnswered}
use Rattle.heap_run.proofs.Sorted.{from-permutation}

drop-behind : {X : Type 0} (xs ys : List X) → drop (length xs) (xs ++ ys) ≡ ys
drop-behind [] ys = refl
drop-behind (x ∷ xs) ys = drop-behind xs ys

passing-append : {X : Type 0} (test : X → Bool) (xs ys : List X) → passing test (xs ++ ys) ≡ passing test xs ++ passing test ys
passing-append test [] ys = refl
passing-append test (x ∷ xs) ys = let rest = passing-append test xs ys in elim (cases_Bool (test x)) [ inl on ↦ rw (on, rest) refl | inr off ↦ rw (off, rest) refl ]

passing-none : {X : Type 0} (test : X → Bool) (xs : List X) → ((x : X) → In x xs → test x ≡ false) → passing test xs ≡ []
passing-none test [] none = refl
passing-none test (x ∷ xs) none = rw (none x (inl refl)) (passing-none test xs (λ y h. none y (inr h)))

passing-all : {X : Type 0} (test : X → Bool) (xs : List X) → ((x : X) → In x xs → test x ≡ true) → passing test xs ≡ xs
passing-all test [] all = refl
passing-all test (x ∷ xs) all = let rest = passing-all test xs (λ y h. all y (inr h)) in rw (all x (inl refl), rest) refl

cycle-noted : (c : ℕ) (made : List Made) (note : SweepNote) → In note (map (λ (x : Made). note_at c x.sweep) made) → note.cycle ≡ c
cycle-noted c [] note h = absurd h
cycle-noted c (x ∷ made) note h = elim h [ inl here ↦ ap (λ (n : SweepNote). n.cycle) (sym here) | inr there ↦ cycle-noted c made note there ]

pub tells-last : (t : Trace) (c : ℕ) (d : Cycle) (queues : List (List Event)) (given : List (List Answer)) (old more now : List Answer) (earlier sorted notes sweeps : List SweepNote) (ended new : Seen) → c < length t.cycles
    → length old ≡ objects_before t c → now ≡ old ++ more → sweeps ≡ earlier ++ sorted → new ≡ ended → HaveAnswered false queues given ended → ((w : ℕ) → get_or queues w [] ≡ events_by w (get_or t.cycles c d).events)
    → ((w : ℕ) → answers_by w (get_or t.cycles c d).events more ≡ get_or given w []) → AreCollected c (λ w. (part_at ended w).log) notes → IsPermutation notes sorted
    → ((note : SweepNote) → In note (reverse earlier) → note.cycle < c) → TellsLast t c now sweeps new
tells-last t c d queues given old more now earlier sorted notes sweeps ended new inside long grown filed same answered queued merged collected permutation older =
    let ev : (get_or t.cycles c d).events ≡ events_in t c = ap (λ (x : Cycle). x.events) (get_or_default t.cycles c d no_cycle inside) in
    let rest : drop (objects_before t c) now ≡ more = ap (λ (l : List Answer). drop (objects_before t c) l) grown ∙ ap (λ (k : ℕ). drop k (old ++ more)) (sym long) ∙ drop-behind old more in
    let test : SweepNote → Bool = λ (n : SweepNote). eqb n.cycle c in
    let none : passing test earlier ≡ [] = passing-none test earlier (λ n h. (let lt = older n (in-reverse n earlier h) in ne_eqb n.cycle c (λ q. omega arith))) in
    let all : passing test sorted ≡ sorted = passing-all test sorted (λ n h. (
    let there = from-permutation notes sorted n permutation h in
    let made : In n (reverse (map (λ (x : Made). note_at c x.sweep) collected.made)) = subst (λ (l : List SweepNote). In n l) collected.told there in
    eq-eqb n.cycle c (cycle-noted c collected.made n (from-reverse n (map (λ (x : Made). note_at c x.sweep) collected.made) made)))) in
    let lines : passing test sweeps ≡ sorted = ap (λ (l : List SweepNote). passing test l) filed ∙ passing-append test earlier sorted ∙ ap (λ (l : List SweepNote). l ++ passing test sorted) none ∙ all in
    record {
      answered = λ w. (
          let e : events_by w (events_in t c) ≡ get_or queues w [] = ap (λ (l : List Event). events_by w l) (sym ev) ∙ sym (queued w) in
          let a : answers_by w (events_in t c) (drop (objects_before t c) now) ≡ get_or given w [] =
          ap (λ (l : List Answer). answers_by w (events_in t c) l) rest ∙ ap (λ (l : List Event). answers_by w l more) (sym ev) ∙ merged w in
          rw (same, e, a) (answered w));
      notes = notes;
      swept = rw same collected;
      filed = rw lines permutation;
    }

-- objects are placed in lives of the journal as the cycle ends
pub placed-in : (past : List Line) (e : CycleSoFar) (log : List Entry) (w : ℕ) → Places e (open_lives (past_after e))
    → ((a : Placing) (life : Life) → In a (placings (e.logs w)) → In life (open_lives (past_after e)) → life.page ≡ a.page → a.number ≡ known_number (past_after e) life.number) → past_after e ≡ past
    → e.logs w ≡ log → ArePlacedIn past log
placed-in past e log w places numbers whole same a h =
    let there : In a (placings (e.logs w)) = subst (λ (l : List Entry). In a (placings l)) (sym same) h in
    let here = places.here w a there in (
      places.below w a there,
      here.0,
      subst (λ (l : List Line). In here.0 (open_lives l)) whole here.1,
      here.2,
      subst (λ (l : List Line). a.number ≡ known_number l here.0.number) whole (numbers a here.0 there here.1 here.2.page),
    )

-- and of the journal that the driver is told
pub placed-told : (past now : List Line) (d : Seen) → d.journal ≡ Some past → d.journal ≡ Some now → ((w : ℕ) → ArePlacedIn past (part_at d w).log) → (w : ℕ) → ArePlacedIn now (part_at d w).log
placed-told past now d was is placed w =
    let both : Some past ≡ Some now = sym was ∙ is in
    let same : past ≡ now = cc in
    subst (λ (l : List Line). ArePlacedIn l (part_at d w).log) same (placed w)
