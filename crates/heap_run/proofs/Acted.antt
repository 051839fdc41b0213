-- What the turns of workers leave behind.
use Rattle.std.proofs.Common.{◌≡◌, ◌≢◌, ℕ, suc, ◌<◌, Bool, true, false, List, [], ◌∷◌, ◌++◌, map, reverse, length, Option, None, Result, Ok, Err, OnOk, refl, sym, ◌∙◌, ap, arith, inl, inr, subst}
use Rattle.std.proofs.lemmas.List.{append_assoc, append-nil, reverse-append}
use Rattle.page_alloc.specs.Lists.{In}
use Rattle.span_state.specs.declared.sweep.SweepNote.{SweepNote}
use Rattle.trace_reader.specs.declared.trace.Event.{Event}
use Rattle.cycle_history.specs.declared.Answer.{Answer}
use Rattle.cycle_history.specs.declared.Answer.TheVariants.{Placed, Zero, Missed}
use Rattle.worker_log.specs.declared.Entry.{Entry}
use Rattle.worker_log.specs.declared.Entry.TheVariants.{Looked, LookedEmptyCell, Popped, Pushed, Swept, Took, Missed as MissedEntry, Gave, Allocated, Found, Read, Added, Pulled, NoPage, Cut as CutEntry, NoCut, Settled}
use Rattle.worker_log.specs.declared.Placing.{Placing}
use Rattle.worker_log.specs.declared.Sweeping.{Sweeping}
use Rattle.page_bitmap.specs.declared.line.Line.{Line}
use Rattle.page_bitmap.specs.declared.line.Line.TheVariants.{Take, Miss, Give, Scav, Pull, Cut, Drop}
use Rattle.worker_log.specs.Logs.{Refusal, Taking, placings, refusals, sweepings, takings}
use Rattle.run_laws.proofs.Lists.{in-left, in-right}
use Rattle.span_laws.specs.TakeAnswers.{cycle_at}
use Rattle.span_laws.specs.Asks.{IsIdle}
use Rattle.span_laws.specs.Calls.{note_in, notes_of}
use Rattle.span_laws.specs.Views.{Seen, acts}
use Rattle.page_cache.specs.Cache.{Cache as PageCache}
use Rattle.span_laws.specs.Handed.{handed, handing, taking_in, with_cache}
use Rattle.span_laws.specs.declared.view.Part.{Part}
use Rattle.span_laws.specs.declared.view.View.{View}
use Rattle.span_set.specs.declared.hand.Hand.{Hand}
use Rattle.std.specs.List.{AllByRecursion}
use Rattle.std.proofs.lemmas.List.{map-append}
use Rattle.worker_log.specs.Entries.{many}
use Rattle.span_laws.specs.Calls.{is_missing, is_placing}
use Rattle.sweeper.specs.Work.{HandSweeps, note_by}
use Rattle.profile_cycle.specs.Sampling.{Countdown}
use Rattle.proc_cache.specs.Cache.{Cache}
use Rattle.proc_cache.specs.Flushes.{Flushes, IsFlushing}
use Rattle.heap_run.specs.Counts.{IsOut}
use Rattle.heap_run.specs.Parts.{IsSameRun, goes_out, own_out, part_at}
use Rattle.heap_run.specs.Served.{Tells}
use Rattle.heap_run.specs.Swept.{note_at}
use Rattle.heap_run.specs.Turns.{HasActed, IsCaching, SaysAnswers, SaysNone, TookTurn}
use Rattle.heap_run.proofs.Parts.{others-back, others-stay, own-part, part-back, part-out, same-back}

-- ---- logs behind logs

pub placings-append : (xs ys : List Entry) → placings (xs ++ ys) ≡ placings xs ++ placings ys
placings-append [] ys = refl
placings-append (Allocated a ∷ xs) ys = ap (λ (l : List Placing). a ∷ l) (placings-append xs ys)
placings-append (Swept s ∷ xs) ys = placings-append xs ys
placings-append (MissedEntry n line ∷ xs) ys = placings-append xs ys
placings-append (Looked a b c ∷ xs) ys = placings-append xs ys
placings-append (LookedEmptyCell a b ∷ xs) ys = placings-append xs ys
placings-append (Pulled number line ∷ xs) ys = placings-append xs ys
placings-append (NoPage ∷ xs) ys = placings-append xs ys
placings-append (CutEntry page pages class ∷ xs) ys = placings-append xs ys
placings-append (NoCut pages left ∷ xs) ys = placings-append xs ys
placings-append (Settled number ∷ xs) ys = placings-append xs ys
placings-append (Popped a b ∷ xs) ys = placings-append xs ys
placings-append (Pushed a b ∷ xs) ys = placings-append xs ys
placings-append (Took n line ∷ xs) ys = placings-append xs ys
placings-append (Gave a b ∷ xs) ys = placings-append xs ys
placings-append (Found a b ∷ xs) ys = placings-append xs ys
placings-append (Read a b ∷ xs) ys = placings-append xs ys
placings-append (Added a b ∷ xs) ys = placings-append xs ys

pub sweepings-append : (xs ys : List Entry) → sweepings (xs ++ ys) ≡ sweepings xs ++ sweepings ys
sweepings-append [] ys = refl
sweepings-append (Allocated a ∷ xs) ys = sweepings-append xs ys
sweepings-append (Swept s ∷ xs) ys = ap (λ (l : List Sweeping). s ∷ l) (sweepings-append xs ys)
sweepings-append (MissedEntry n line ∷ xs) ys = sweepings-append xs ys
sweepings-append (Looked a b c ∷ xs) ys = sweepings-append xs ys
sweepings-append (LookedEmptyCell a b ∷ xs) ys = sweepings-append xs ys
sweepings-append (Pulled number line ∷ xs) ys = sweepings-append xs ys
sweepings-append (NoPage ∷ xs) ys = sweepings-append xs ys
sweepings-append (CutEntry page pages class ∷ xs) ys = sweepings-append xs ys
sweepings-append (NoCut pages left ∷ xs) ys = sweepings-append xs ys
sweepings-append (Settled number ∷ xs) ys = sweepings-append xs ys
sweepings-append (Popped a b ∷ xs) ys = sweepings-append xs ys
sweepings-append (Pushed a b ∷ xs) ys = sweepings-append xs ys
sweepings-append (Took n line ∷ xs) ys = sweepings-append xs ys
sweepings-append (Gave a b ∷ xs) ys = sweepings-append xs ys
sweepings-append (Found a b ∷ xs) ys = sweepings-append xs ys
sweepings-append (Read a b ∷ xs) ys = sweepings-append xs ys
sweepings-append (Added a b ∷ xs) ys = sweepings-append xs ys

pub takings-append : (xs ys : List Entry) → takings (xs ++ ys) ≡ takings xs ++ takings ys
takings-append [] ys = refl
takings-append (Allocated a ∷ xs) ys = takings-append xs ys
takings-append (Swept s ∷ xs) ys = takings-append xs ys
takings-append (MissedEntry n line ∷ xs) ys = takings-append xs ys
takings-append (Looked a b c ∷ xs) ys = takings-append xs ys
takings-append (LookedEmptyCell a b ∷ xs) ys = takings-append xs ys
takings-append (Pulled number line ∷ xs) ys = takings-append xs ys
takings-append (NoPage ∷ xs) ys = takings-append xs ys
takings-append (CutEntry page pages class ∷ xs) ys = takings-append xs ys
takings-append (NoCut pages left ∷ xs) ys = takings-append xs ys
takings-append (Settled number ∷ xs) ys = takings-append xs ys
takings-append (Popped a b ∷ xs) ys = takings-append xs ys
takings-append (Pushed a b ∷ xs) ys = takings-append xs ys
takings-append (Took n line ∷ xs) ys = ap (λ (l : List Taking). record { number = n; line = line } ∷ l) (takings-append xs ys)
takings-append (Gave a b ∷ xs) ys = takings-append xs ys
takings-append (Found a b ∷ xs) ys = takings-append xs ys
takings-append (Read a b ∷ xs) ys = takings-append xs ys
takings-append (Added a b ∷ xs) ys = takings-append xs ys

pub refusals-append : (xs ys : List Entry) → refusals (xs ++ ys) ≡ refusals xs ++ refusals ys
refusals-append [] ys = refl
refusals-append (Allocated a ∷ xs) ys = refusals-append xs ys
refusals-append (Swept s ∷ xs) ys = refusals-append xs ys
refusals-append (MissedEntry n (Miss c p k) ∷ xs) ys = ap (λ (l : List Refusal). record { number = n; pages = p; class = k } ∷ l) (refusals-append xs ys)
refusals-append (MissedEntry n (Take c p q k) ∷ xs) ys = refusals-append xs ys
refusals-append (MissedEntry n (Give c p q) ∷ xs) ys = refusals-append xs ys
refusals-append (MissedEntry n (Scav c p q) ∷ xs) ys = refusals-append xs ys
refusals-append (MissedEntry n (Pull c o p q) ∷ xs) ys = refusals-append xs ys
refusals-append (MissedEntry n (Cut c o p q k) ∷ xs) ys = refusals-append xs ys
refusals-append (MissedEntry n (Drop c o p q) ∷ xs) ys = refusals-append xs ys
refusals-append (Looked a b c ∷ xs) ys = refusals-append xs ys
refusals-append (LookedEmptyCell a b ∷ xs) ys = refusals-append xs ys
refusals-append (Pulled number line ∷ xs) ys = refusals-append xs ys
refusals-append (NoPage ∷ xs) ys = refusals-append xs ys
refusals-append (CutEntry page pages class ∷ xs) ys = refusals-append xs ys
refusals-append (NoCut pages left ∷ xs) ys = refusals-append xs ys
refusals-append (Settled number ∷ xs) ys = refusals-append xs ys
refusals-append (Popped a b ∷ xs) ys = refusals-append xs ys
refusals-append (Pushed a b ∷ xs) ys = refusals-append xs ys
refusals-append (Took n line ∷ xs) ys = refusals-append xs ys
refusals-append (Gave a b ∷ xs) ys = refusals-append xs ys
refusals-append (Found a b ∷ xs) ys = refusals-append xs ys
refusals-append (Read a b ∷ xs) ys = refusals-append xs ys
refusals-append (Added a b ∷ xs) ys = refusals-append xs ys

-- the notes of a log are those of its sweeps
pub notes-told : (g : ℕ) (said : List Entry) → notes_of g said ≡ reverse (map (note_at (cycle_at g)) (sweepings said))
notes-told g [] = refl
notes-told g (Swept s ∷ said) = rw (reverse-append (note_at (cycle_at g) s ∷ []) (map (note_at (cycle_at g)) (sweepings said))) (ap (λ (l : List SweepNote). l ++ note_at (cycle_at g) s ∷ []) (notes-told g said))
notes-told g (Allocated a ∷ said) = append-nil (notes_of g said) ∙ notes-told g said
notes-told g (MissedEntry n line ∷ said) = append-nil (notes_of g said) ∙ notes-told g said
notes-told g (Looked a b c ∷ said) = append-nil (notes_of g said) ∙ notes-told g said
notes-told g (LookedEmptyCell a b ∷ said) = append-nil (notes_of g said) ∙ notes-told g said
notes-told g (Pulled number line ∷ said) = append-nil (notes_of g said) ∙ notes-told g said
notes-told g (NoPage ∷ said) = append-nil (notes_of g said) ∙ notes-told g said
notes-told g (CutEntry page pages class ∷ said) = append-nil (notes_of g said) ∙ notes-told g said
notes-told g (NoCut pages left ∷ said) = append-nil (notes_of g said) ∙ notes-told g said
notes-told g (Settled number ∷ said) = append-nil (notes_of g said) ∙ notes-told g said
notes-told g (Popped a b ∷ said) = append-nil (notes_of g said) ∙ notes-told g said
notes-told g (Pushed a b ∷ said) = append-nil (notes_of g said) ∙ notes-told g said
notes-told g (Took n line ∷ said) = append-nil (notes_of g said) ∙ notes-told g said
notes-told g (Gave a b ∷ said) = append-nil (notes_of g said) ∙ notes-told g said
notes-told g (Found a b ∷ said) = append-nil (notes_of g said) ∙ notes-told g said
notes-told g (Read a b ∷ said) = append-nil (notes_of g said) ∙ notes-told g said
notes-told g (Added a b ∷ said) = append-nil (notes_of g said) ∙ notes-told g said

notes-append : (g : ℕ) (later first : List Entry) → notes_of g (later ++ first) ≡ notes_of g first ++ notes_of g later
notes-append g [] first = sym (append-nil (notes_of g first))
notes-append g (e ∷ later) first = ap (λ (l : List SweepNote). l ++ note_in g e) (notes-append g later first) ∙ append_assoc (notes_of g first) (notes_of g later) (note_in g e)

-- ---- answers behind answers

-- A log has what another has.
record HasAll (log log' : List Entry) : Type 0 where
  entries : (x : Entry) → In x log → In x log'
  taken : (x : Taking) → In x (takings log) → In x (takings log')

-- with more entries the log tells the same
told-more : (log log' : List Entry) (events : List Event) (answers : List Answer) (placed : List Placing) (refused : List Refusal) → HasAll log log' → Tells log events answers placed refused
    → Tells log' events answers placed refused
told-more log log' [] [] [] [] more h = tt
told-more log log' [] [] [] (x ∷ refused) more h = absurd h
told-more log log' [] [] (a ∷ placed) refused more h = absurd h
told-more log log' [] (answer ∷ answers) placed refused more h = absurd h
told-more log log' (e ∷ events) [] placed refused more h = absurd h
told-more log log' (e ∷ events) (Zero ∷ answers) placed refused more h = (h.0, told-more log log' events answers placed refused more h.1)
told-more log log' (e ∷ events) (Placed address ∷ answers) [] refused more h = absurd h
told-more log log' (e ∷ events) (Placed address ∷ answers) (a ∷ placed) refused more h = (
  record {
    some = h.0.some;
    need = h.0.need;
    fits = h.0.fits;
    class = h.0.class;
    address_is = h.0.address_is;
    large = λ low. elim (h.0.large low) [ inl t ↦ inl (t.0, t.1, t.2, more.taken t.0 t.3, t.4, t.5) | inr cut ↦ inr (more.entries _ cut) ];
  },
  told-more log log' events answers placed refused more h.1,
)
told-more log log' (e ∷ events) (Missed line ∷ answers) placed [] more h = absurd h
told-more log log' (e ∷ events) (Missed line ∷ answers) placed (x ∷ refused) more h = (h.0, told-more log log' events answers placed refused more h.1)

tells-append : (log : List Entry) (es fs : List Event) (ans bs : List Answer) (ps qs : List Placing) (rs us : List Refusal) → Tells log es ans ps rs → Tells log fs bs qs us → Tells log (es ++ fs) (ans ++ bs) (ps ++ qs) (rs ++ us)
tells-append log [] fs [] bs [] qs [] us h k = k
tells-append log [] fs [] bs [] qs (x ∷ rs) us h k = absurd h
tells-append log [] fs [] bs (a ∷ ps) qs rs us h k = absurd h
tells-append log [] fs (answer ∷ ans) bs ps qs rs us h k = absurd h
tells-append log (e ∷ es) fs [] bs ps qs rs us h k = absurd h
tells-append log (e ∷ es) fs (Zero ∷ ans) bs ps qs rs us h k = (h.0, tells-append log es fs ans bs ps qs rs us h.1 k)
tells-append log (e ∷ es) fs (Placed address ∷ ans) bs [] qs rs us h k = absurd h
tells-append log (e ∷ es) fs (Placed address ∷ ans) bs (a ∷ ps) qs rs us h k = (h.0, tells-append log es fs ans bs ps qs rs us h.1 k)
tells-append log (e ∷ es) fs (Missed line ∷ ans) bs ps qs [] us h k = absurd h
tells-append log (e ∷ es) fs (Missed line ∷ ans) bs ps qs (x ∷ rs) us h k = (h.0, tells-append log es fs ans bs ps qs rs us h.1 k)

-- what two logs tell, the later in front
pub answers-then : (es fs : List Event) (ans bs : List Answer) (later first : List Entry) → SaysAnswers es ans later → SaysAnswers fs bs first → SaysAnswers (es ++ fs) (ans ++ bs) (later ++ first)
answers-then es fs ans bs later first h k =
    let all = told-more later (later ++ first) es ans (placings later) (refusals later) (record {
      entries = λ x i. in-left later first x i;
      taken = λ x i. rw (takings-append later first) (in-left (takings later) (takings first) x i);
    }) h in
    let all_too = told-more first (later ++ first) fs bs (placings first) (refusals first) (record {
      entries = λ x i. in-right later first x i;
      taken = λ x i. rw (takings-append later first) (in-right (takings later) (takings first) x i);
    }) k in
    rw (placings-append later first, refusals-append later first) (tells-append (later ++ first) es fs ans bs (placings later) (placings first) (refusals later) (refusals first) all all_too)

-- entries that answer no event are those with no answers
pub none-answers : (said : List Entry) → SaysNone said → SaysAnswers [] [] said
none-answers said none = rw (none.0, none.1) tt

pub answers-none : (said : List Entry) → SaysAnswers [] [] said → SaysNone said
answers-none said h = go (placings said) (refusals said) h
  where
    go : (ps : List Placing) (rs : List Refusal) → Tells said [] [] ps rs → (ps ≡ []) × (rs ≡ [])
    go [] [] h = (refl, refl)
    go [] (x ∷ rs) h = absurd h
    go (a ∷ ps) rs h = absurd h

pub none-then : (later first : List Entry) → SaysNone later → SaysNone first → SaysNone (later ++ first)
none-then later first h k = (
  placings-append later first ∙ ap (λ (l : List Placing). l ++ placings first) h.0 ∙ k.0,
  refusals-append later first ∙ ap (λ (l : List Refusal). l ++ refusals first) h.1 ∙ k.1,
)

-- as many answers as events
pub tells-length : (log : List Entry) (events : List Event) (answers : List Answer) (placed : List Placing) (refused : List Refusal) → Tells log events answers placed refused → length answers ≡ length events
tells-length log [] [] placed refused h = refl
tells-length log [] (answer ∷ answers) placed refused h = absurd h
tells-length log (e ∷ events) [] placed refused h = absurd h
tells-length log (e ∷ events) (Zero ∷ answers) placed refused h = ap suc (tells-length log events answers placed refused h.1)
tells-length log (e ∷ events) (Placed address ∷ answers) [] refused h = absurd h
tells-length log (e ∷ events) (Placed address ∷ answers) (a ∷ placed) refused h = ap suc (tells-length log events answers placed refused h.1)
tells-length log (e ∷ events) (Missed line ∷ answers) placed [] h = absurd h
tells-length log (e ∷ events) (Missed line ∷ answers) placed (x ∷ refused) h = ap suc (tells-length log events answers placed refused h.1)

-- ---- one call behind another

pub acted-then : (P Q R : List Entry → Type 0) (a b c : Hand) → HasActed P a b → HasActed Q b c → ((first later : List Entry) → P first → Q later → R (later ++ first)) → HasActed R a c
acted-then P Q R a b c ab bc both =
    let g : b.worker.view.generation ≡ a.worker.view.generation = ap (λ (v : View). v.generation) ab.view in
    record {
      said = bc.said ++ ab.said;
      did = both ab.said bc.said ab.did bc.did;
      log = bc.log ∙ ap (λ (l : List Entry). bc.said ++ l) ab.log ∙ sym (append_assoc bc.said ab.said a.worker.view.own.log);
      away = bc.away ∙ ab.away;
      table = bc.table ∙ ab.table;
      number = bc.number ∙ ab.number;
      caching = bc.caching ∙ ab.caching;
      view = bc.view ∙ ap (λ (v : View). acts v c.worker.view.own) ab.view;
      idle = bc.idle;
      notes =
          let now : c.notes.items ≡ b.notes.items ++ notes_of a.worker.view.generation bc.said = bc.notes ∙ ap (λ (k : ℕ). b.notes.items ++ notes_of k bc.said) g in
          now ∙ ap (λ (l : List SweepNote). l ++ notes_of a.worker.view.generation bc.said) ab.notes
          ∙ append_assoc a.notes.items (notes_of a.worker.view.generation ab.said) (notes_of a.worker.view.generation bc.said)
          ∙ ap (λ (l : List SweepNote). a.notes.items ++ l) (sym (notes-append a.worker.view.generation bc.said ab.said));
    }

pub acted-none : (P : List Entry → Type 0) (a : Hand) → IsIdle a.worker.view.own → P [] → HasActed P a a
acted-none P a idle p = record {
  said = [];
  did = p;
  log = refl;
  away = refl;
  table = refl;
  number = refl;
  caching = refl;
  view = refl;
  idle = idle;
  notes = sym (append-nil a.notes.items);
}

pub acted-as : (P Q : List Entry → Type 0) (a b : Hand) → HasActed P a b → ((said : List Entry) → P said → Q said) → HasActed Q a b
acted-as P Q a b ab f = record { said = ab.said; did = f ab.said ab.did; log = ab.log; away = ab.away; table = ab.table; number = ab.number; caching = ab.caching; view = ab.view; idle = ab.idle; notes = ab.notes }

same-acted : (P : List Entry → Type 0) (a b : Hand) → HasActed P a b → IsSameRun a.worker b.worker
same-acted P a b ab = record {
  away = ab.away;
  table = ab.table;
  caching = ab.caching;
  parts = ap (λ (v : View). length v.parts) ab.view;
  region = ap (λ (v : View). v.region) ab.view;
  goal = ap (λ (v : View). v.goal) ab.view;
  procs = ap (λ (v : View). v.procs) ab.view;
  generation = ap (λ (v : View). v.generation) ab.view;
  marks = ap (λ (v : View). v.marks) ab.view;
  before = ap (λ (v : View). v.before) ab.view;
  carried = ap (λ (v : View). v.carried) ab.view;
}

-- ---- turns

-- of a worker that is at work itself, what its own calls did
pub turn-own : (P : List Entry → Type 0) (a b : Hand) → a.worker.number < length a.worker.view.parts → HasActed P a b → TookTurn a.worker.number P a b
turn-own P a b lt ab =
    let long : length b.worker.view.parts ≡ length a.worker.view.parts = ap (λ (v : View). length v.parts) ab.view in
    let old : part_at a.worker a.worker.number ≡ a.worker.view.own = own-part a.worker lt in
    let new : part_at b.worker b.worker.number ≡ b.worker.view.own = own-part b.worker (let n = ab.number in omega arith) in
    let now : part_at b.worker a.worker.number ≡ b.worker.view.own = ap (λ (k : ℕ). part_at b.worker k) (sym ab.number) ∙ new in
    record {
      said = ab.said;
      did = ab.did;
      log = ap (λ (h : Part). h.log) now ∙ ab.log ∙ ap (λ (h : Part). ab.said ++ h.log) (sym old);
      number = ab.number;
      same = same-acted P a b ab;
      idle = subst IsIdle (sym now) ab.idle;
      others = λ j other. others-stay a.worker b.worker j ab.number (ap (λ (v : View). v.parts) ab.view) other;
      notes = ab.notes;
    }

-- ---- calls of the layers beneath

-- a flush answers nothing
flushing-none : (said : List Entry) → AllByRecursion IsFlushing said → SaysNone said
flushing-none [] all = (refl, refl)
flushing-none (Read a b ∷ said) all = flushing-none said all.1
flushing-none (Added a b ∷ said) all = flushing-none said all.1
flushing-none (Swept s ∷ said) all = flushing-none said all.1
flushing-none (Pushed a b ∷ said) all = flushing-none said all.1
flushing-none (Gave a b ∷ said) all = flushing-none said all.1
flushing-none (Allocated a ∷ said) all = absurd all.0
flushing-none (MissedEntry n line ∷ said) all = absurd all.0
flushing-none (Took n line ∷ said) all = absurd all.0
flushing-none (Looked a b c ∷ said) all = absurd all.0
flushing-none (LookedEmptyCell a b ∷ said) all = absurd all.0
flushing-none (Pulled number line ∷ said) all = absurd all.0
flushing-none (NoPage ∷ said) all = absurd all.0
flushing-none (CutEntry page pages class ∷ said) all = absurd all.0
flushing-none (NoCut pages left ∷ said) all = absurd all.0
flushing-none (Settled number ∷ said) all = absurd all.0
flushing-none (Popped a b ∷ said) all = absurd all.0
flushing-none (Found a b ∷ said) all = absurd all.0

pub flush-acted : (test : ℕ → Bool) (c d : Cache) (old new : Hand) → Flushes test c d old new → HasActed SaysNone old new
flush-acted test c d old new f = record {
  said = f.said;
  did = flushing-none f.said f.flushing;
  log = f.leaves.log;
  away = f.leaves.away;
  table = f.leaves.table;
  number = f.leaves.number;
  caching = f.leaves.caching;
  view = f.leaves.view;
  idle = f.leaves.idle;
  notes = f.leaves.notes;
}

-- entries of which none places an object or tells of a miss
few-none : (said : List Entry) → many is_placing said ≡ 0 → many is_missing said ≡ 0 → SaysNone said
few-none [] p m = (refl, refl)
few-none (Allocated a ∷ said) p m = absurd (omega arith)
few-none (MissedEntry n line ∷ said) p m = absurd (omega arith)
few-none (Read a b ∷ said) p m = few-none said (omega arith) (omega arith)
few-none (Added a b ∷ said) p m = few-none said (omega arith) (omega arith)
few-none (Swept s ∷ said) p m = few-none said (omega arith) (omega arith)
few-none (Pushed a b ∷ said) p m = few-none said (omega arith) (omega arith)
few-none (Gave a b ∷ said) p m = few-none said (omega arith) (omega arith)
few-none (Took n line ∷ said) p m = few-none said (omega arith) (omega arith)
few-none (Looked a b c ∷ said) p m = few-none said (omega arith) (omega arith)
few-none (LookedEmptyCell a b ∷ said) p m = few-none said (omega arith) (omega arith)
few-none (Pulled number line ∷ said) p m = few-none said (omega arith) (omega arith)
few-none (NoPage ∷ said) p m = few-none said (omega arith) (omega arith)
few-none (CutEntry page pages class ∷ said) p m = few-none said (omega arith) (omega arith)
few-none (NoCut pages left ∷ said) p m = few-none said (omega arith) (omega arith)
few-none (Settled number ∷ said) p m = few-none said (omega arith) (omega arith)
few-none (Popped a b ∷ said) p m = few-none said (omega arith) (omega arith)
few-none (Found a b ∷ said) p m = few-none said (omega arith) (omega arith)

-- the notes of sweeps, as the sweeper and the caches count them
notes-by : (c : ℕ) (sweeps : List Sweeping) → map (note_by c) (reverse sweeps) ≡ reverse (map (note_at c) sweeps)
notes-by c [] = refl
notes-by c (s ∷ sweeps) =
    ap (λ (l : List Sweeping). map (note_by c) l) (reverse-append (s ∷ []) sweeps) ∙ map-append (note_by c) (reverse sweeps) (s ∷ [])
    ∙ ap (λ (l : List SweepNote). l ++ note_at c s ∷ []) (notes-by c sweeps) ∙ sym (reverse-append (note_at c s ∷ []) (map (note_at c) sweeps))

-- what all agree on stays, so that only the worker's own part changed
view-stays : (u v : View) → v.region ≡ u.region → v.goal ≡ u.goal → v.procs ≡ u.procs → v.generation ≡ u.generation → v.marks ≡ u.marks → v.before ≡ u.before → v.carried ≡ u.carried → v.parts ≡ u.parts → v ≡ acts u v.own
view-stays u v region goal procs generation marks before carried parts =
    ap (λ (x : ℕ). record v { region = x }) region
    ∙ ap (λ (x : ℕ). record v { region = u.region; goal = x }) goal
    ∙ ap (λ (x : ℕ). record v { region = u.region; goal = u.goal; procs = x }) procs
    ∙ ap (λ (x : ℕ). record v { region = u.region; goal = u.goal; procs = u.procs; generation = x }) generation
    ∙ ap (λ (x : List (ℕ × ℕ)). record v { region = u.region; goal = u.goal; procs = u.procs; generation = u.generation; marks = x }) marks
    ∙ ap (λ (x : List Line). record u { marks = u.marks; before = x; carried = v.carried; own = v.own; parts = v.parts }) before
    ∙ ap (λ (x : List (ℕ × ℕ)). record u { carried = x; own = v.own; parts = v.parts }) carried
    ∙ ap (λ (x : List Part). record u { own = v.own; parts = x }) parts

pub works-acted : (P : List Entry → Type 0) (old new : Hand) → HandSweeps [] P old new → ((said : List Entry) → P said → many is_missing said ≡ 0) → IsIdle old.worker.view.own → HasActed (λ said. SaysNone said × P said) old new
works-acted P old new w no_miss idle = record {
  said = w.said;
  did = (few-none w.said w.does.sweeps.unplaced (no_miss w.said w.did), w.did);
  log = w.does.log;
  away = w.does.stays.away;
  table = w.does.stays.table;
  number = w.does.stays.number;
  caching = w.does.stays.caching;
  view = (let k = w.does.stays in view-stays old.worker.view new.worker.view k.region k.goal k.procs k.generation k.marks k.before k.carried k.parts);
  idle = record {
    sweeping = w.does.stays.sweeping ∙ idle.sweeping;
    held = w.does.held ∙ append-nil old.worker.view.own.held ∙ idle.held;
    popped = w.popped;
    claimed = w.does.stays.claimed ∙ idle.claimed;
  };
  notes = w.notes ∙ ap (λ (l : List SweepNote). old.notes.items ++ l) (notes-by (cycle_at old.worker.view.generation) (sweepings w.said) ∙ sym (notes-told old.worker.view.generation w.said));
}

-- ---- a worker that is handed out

-- The driver handed out worker i, whose hand has no notes yet.
pub record HandsOut (i : ℕ) (old start : Hand) : Type 0 where
  pub number : old.worker.number ≡ 69
  pub parts : length old.worker.view.parts ≡ 70
  pub low : i < 69
  pub out : start.worker ≡ goes_out start.worker.caching i old.worker
  pub none : start.notes.items ≡ []

-- its part but for the page cache
out-own : (caching : Bool) (i : ℕ) (h : Part) → own_out caching i h ≡ with_cache (own_out caching i h).cache h
out-own true i h = refl
out-own false i h = refl

out-part : (i : ℕ) (old start : Hand) → HandsOut i old start → start.worker.view.own ≡ with_cache start.worker.view.own.cache (part_at old.worker i)
out-part i old start o =
    let own : start.worker.view.own ≡ own_out start.worker.caching i (part_at old.worker i) = ap (λ (w : Seen). w.view.own) o.out ∙ ap (own_out start.worker.caching i) (part-out old.worker i o.number) in
    own ∙ out-own start.worker.caching i (part_at old.worker i) ∙ ap (λ (h : Part). with_cache h.cache (part_at old.worker i)) (sym own)

-- a page cache changes nothing of a worker's spans
idle-with : (k : Option PageCache) (h : Part) → IsIdle h → IsIdle (with_cache k h)
idle-with k h idle = record { sweeping = idle.sweeping; held = idle.held; popped = idle.popped; claimed = idle.claimed }

caching-with : (g : ℕ) (k : Option PageCache) (h : Part) (c : Cache) → IsCaching g h c → IsCaching g (with_cache k h) c
caching-with g k h c are = record {
  serves = record {
    slots = λ j s at. (let one = are.serves.slots j s at in record { cached = one.cached; lent = one.lent; class = one.class; unpopped = one.unpopped });
    all = are.serves.all;
    once = are.serves.once;
    fresh = are.serves.fresh;
    early = are.serves.early;
  };
  used = are.used;
}

out-generation : (i : ℕ) (old start : Hand) → HandsOut i old start → start.worker.view.generation ≡ old.worker.view.generation
out-generation i old start o = ap (λ (w : Seen). w.view.generation) o.out

pub out-idle : (i : ℕ) (old start : Hand) → HandsOut i old start → IsIdle (part_at old.worker i) → IsIdle start.worker.view.own
out-idle i old start o idle = subst IsIdle (sym (out-part i old start o)) (idle-with start.worker.view.own.cache (part_at old.worker i) idle)

pub out-caching : (i : ℕ) (old start : Hand) (c : Cache) → HandsOut i old start → IsCaching old.worker.view.generation (part_at old.worker i) c → IsCaching start.worker.view.generation start.worker.view.own c
out-caching i old start c o caching =
    subst (λ (g : ℕ). IsCaching g start.worker.view.own c) (sym (out-generation i old start o))
    (subst (λ (h : Part). IsCaching old.worker.view.generation h c) (sym (out-part i old start o)) (caching-with old.worker.view.generation start.worker.view.own.cache (part_at old.worker i) c caching))

pub out-marks : (i : ℕ) (old start : Hand) → HandsOut i old start → start.worker.view.marks ≡ old.worker.view.marks
out-marks i old start o = ap (λ (w : Seen). w.view.marks) o.out

-- and taken in again

end-number : (P : List Entry → Type 0) (i : ℕ) (old start end : Hand) → HandsOut i old start → HasActed P start end → end.worker.number ≡ i
end-number P i old start end o acted = acted.number ∙ ap (λ (w : Seen). w.number) o.out

-- all of its view but its own part is as it was handed out
pub out-stays : (P : List Entry → Type 0) (i : ℕ) (old start end : Hand) → HandsOut i old start → HasActed P start end → end.worker.view ≡ acts (handed 69 i old.worker.view) end.worker.view.own
out-stays P i old start end o acted = acted.view ∙ ap (λ (w : Seen). acts w.view end.worker.view.own) o.out

back-part : (P : List Entry → Type 0) (i : ℕ) (old start end new : Hand) → HandsOut i old start → HasActed P start end → new.worker ≡ taking_in end.worker (handing i old.worker) → part_at new.worker i ≡ with_cache None end.worker.view.own
back-part P i old start end new o acted back =
    let en = end-number P i old start end o acted in
    let at : part_at (taking_in end.worker (handing i old.worker)) end.worker.number ≡ with_cache None end.worker.view.own =
    part-back (handing i old.worker) end.worker (λ e. (let n = o.number in let l = o.low in omega arith)) (let p = o.parts in let l = o.low in omega arith) in
    ap (λ (w : Seen). part_at w i) back ∙ ap (λ (k : ℕ). part_at (taking_in end.worker (handing i old.worker)) k) (sym en) ∙ at

pub turn-back : (P : List Entry → Type 0) (i : ℕ) (old start end new : Hand) → HandsOut i old start → HasActed P start end → new.worker ≡ taking_in end.worker (handing i old.worker) → new.notes.items ≡ old.notes.items ++ end.notes.items → TookTurn i P old new
turn-back P i old start end new o acted back notes =
    let en = end-number P i old start end o acted in
    let now = back-part P i old start end new o acted back in
    let apart : end.worker.number ≢ 69 = λ e. (let l = o.low in omega arith) in
    record {
      said = acted.said;
      did = acted.did;
      log = ap (λ (h : Part). h.log) now ∙ acted.log ∙ ap (λ (h : Part). acted.said ++ h.log) (out-part i old start o);
      number = ap (λ (w : Seen). w.number) back;
      same = subst (λ (w : Seen). IsSameRun old.worker w) (sym back) (same-back old.worker end.worker i en);
      idle = subst IsIdle (sym now) (idle-with None end.worker.view.own acted.idle);
      others = λ j other. ap (λ (w : Seen). part_at w j) back
          ∙ others-back (handing i old.worker) end.worker j (λ e. apart (e ∙ o.number)) (let n = o.number in let p = o.parts in omega arith) (λ e. other (e ∙ en));
      notes = notes ∙ ap (λ (l : List SweepNote). old.notes.items ++ l) (acted.notes ∙ ap (λ (l : List SweepNote). l ++ notes_of start.worker.view.generation acted.said) o.none)
          ∙ ap (λ (g : ℕ). old.notes.items ++ notes_of g acted.said) (out-generation i old start o);
    }

pub back-caching : (P : List Entry → Type 0) (i : ℕ) (old start end new : Hand) (c : Cache) → HandsOut i old start → HasActed P start end → new.worker ≡ taking_in end.worker (handing i old.worker)
    → IsCaching start.worker.view.generation end.worker.view.own c → IsCaching old.worker.view.generation (part_at new.worker i) c
back-caching P i old start end new c o acted back caching =
    subst (λ (h : Part). IsCaching old.worker.view.generation h c) (sym (back-part P i old start end new o acted back))
    (caching-with old.worker.view.generation None end.worker.view.own c (subst (λ (g : ℕ). IsCaching g end.worker.view.own c) (out-generation i old start o) caching))

-- what was cached stays cached where the calls left it so
pub back-cached : (P : List Entry → Type 0) (i : ℕ) (old start end new : Hand) → HandsOut i old start → HasActed P start end → new.worker ≡ taking_in end.worker (handing i old.worker) → end.worker.view.own.cached ≡ start.worker.view.own.cached
    → (part_at new.worker i).cached ≡ (part_at old.worker i).cached
back-cached P i old start end new o acted back same =
    ap (λ (h : Part). h.cached) (back-part P i old start end new o acted back) ∙ same ∙ ap (λ (h : Part). h.cached) (out-part i old start o)

pub ok-map : {T E : Type 0} (result : Result T E) (P Q : Type 0) → (P → Q) → OnOk result P → OnOk result Q
ok-map (Ok x) P Q f h = f h
ok-map (Err e) P Q f h = h

-- a worker that is out by its number
pub hands-out : (i n : ℕ) (old start : Hand) → old.worker.number ≡ 69 → length old.worker.view.parts ≡ 70 → i < 69 → n ≡ i → IsOut n old start → HandsOut i old start
hands-out i n old start number parts low same out = record { number = number; parts = parts; low = low; out = out.worker ∙ ap (λ (k : ℕ). goes_out start.worker.caching k old.worker) same; none = out.notes }

-- the driver that takes a worker in is the one that handed it out by its number
pub brought-back : (i n : ℕ) (old left end new : Seen) → n ≡ i → left ≡ handing n old → new ≡ taking_in end left → new ≡ taking_in end (handing i old)
brought-back i n old left end new same out back = back ∙ ap (λ (d : Seen). taking_in end d) (out ∙ ap (λ (k : ℕ). handing k old) same)

-- what a hand did, as one tells that differs in its tally alone
pub acted-alike : (P : List Entry → Type 0) (a b c : Hand) → HasActed P a b → c.worker ≡ b.worker → c.notes.items ≡ b.notes.items → HasActed P a c
acted-alike P a b c h worker notes = record {
  said = h.said;
  did = h.did;
  log = ap (λ (w : Seen). w.view.own.log) worker ∙ h.log;
  away = ap (λ (w : Seen). w.away) worker ∙ h.away;
  table = ap (λ (w : Seen). w.table) worker ∙ h.table;
  number = ap (λ (w : Seen). w.number) worker ∙ h.number;
  caching = ap (λ (w : Seen). w.caching) worker ∙ h.caching;
  view = ap (λ (w : Seen). w.view) worker ∙ h.view ∙ ap (λ (w : Seen). acts a.worker.view w.view.own) (sym worker);
  idle = subst (λ (w : Seen). IsIdle w.view.own) (sym worker) h.idle;
  notes = notes ∙ h.notes;
}

-- a cache whose countdown alone was spent, and a hand whose tally alone counted
pub caching-counted : (g : ℕ) (a b : Hand) (c c' : Cache) (x : Countdown) → b.worker ≡ a.worker → c' ≡ record c { countdown = x } → IsCaching g a.worker.view.own c → IsCaching g b.worker.view.own c'
caching-counted g a b c c' x worker is are =
    let spent : IsCaching g a.worker.view.own (record c { countdown = x }) = record {
      serves = record { slots = are.serves.slots; all = are.serves.all; once = are.serves.once; fresh = are.serves.fresh; early = are.serves.early };
      used = are.used;
    } in
    subst (λ (w : Seen). IsCaching g w.view.own c') (sym worker) (subst (λ (y : Cache). IsCaching g a.worker.view.own y) (sym is) spent)
