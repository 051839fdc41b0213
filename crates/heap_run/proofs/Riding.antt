-- Tiny objects that ride: a worker's events one after another, and the processors one beside another.
use Rattle.std.proofs.Common.{◌≡◌, ℕ, ◌+◌, ◌≤◌, Bool, true, false, eqb, suc, List, [], ◌∷◌, ◌++◌, reverse, length, get_or, Option, None, Some, refl, sym, ◌∙◌, ap, arith, inl, inr, subst}
use Rattle.std.specs.Option.{option_map}
use Rattle.std.proofs.lemmas.Bool.{cases_Bool, cases_eq, cases_lt, eq-eqb, eqb-true}
use Rattle.std.proofs.lemmas.List.{get_or_append_left, get_or_past, get_or_push, length-reverse, reverse-reverse}
use Rattle.trace_reader.specs.declared.trace.Event.{Event}
use Rattle.cycle_history.specs.declared.Answer.{Answer}
use Rattle.cycle_history.specs.declared.Answer.TheVariants.{Placed, Zero, Missed}
use Rattle.cycle_history.specs.Objects.{is_placed}
use Rattle.sample_laws.specs.By.{answers_by, events_by}
use Rattle.sample_laws.specs.Countdowns.{flags, spent}
use Rattle.profile_cycle.specs.Sampling.{Countdown}
use Rattle.tiny_alloc.specs.declared.part.Part.{Part}
use Rattle.tiny_alloc.specs.declared.part.Part.TheVariants.{Other, Lead, Ride}
use Rattle.tiny_alloc.specs.Riders.{is_tiny}
use Rattle.tiny_alloc.specs.Base.{based_answer, based_event}
use Rattle.tiny_alloc.specs.Blocks.{Block, behind_ride, ride_start, seat_address, seat_in}
use Rattle.tiny_alloc.specs.Parts.{next_block, next_part}
use Rattle.tiny_alloc.specs.Rides.{StandRiders, alone, block_of, by_proc, part_behind, ridden_answers, ridden_events, start_in, tried_by}
use Rattle.worker_log.specs.declared.Entry.{Entry}
use Rattle.span_laws.specs.Views.{Seen}
use Rattle.span_set.specs.declared.hand.Hand.{Hand}
use Rattle.proc_cache.specs.Cache.{Cache}
use Rattle.heap_run.specs.Counts.{HaveSampled}
use Rattle.heap_run.specs.Riding.{HaveRidden, HaveRiddenTo, RidersStand, RidersStandAt, StandsWith, asked_of, block_behind, block_with, given_of, part_with}
use Rattle.heap_run.specs.Turns.{HaveAnswered, SaysAnswers, SaysNone, TookTurn}
use Rattle.heap_run.proofs.Acted.{none-answers}
use Rattle.heap_run.proofs.Firsts.{FlushedSoFar, none-yet}
use Rattle.heap_run.proofs.Queued.{answers-reverse, events-reverse}

-- ---- a worker without an event

pub none-asked : (riding : Bool) (said : List Entry) → SaysNone said → SaysAnswers (asked_of riding [] []) (given_of riding [] []) said
none-asked false said none = none-answers said none
none-asked true said none = none-answers said none

pub none-stand : (riding : Bool) → RidersStand riding [] []
none-stand false = tt
none-stand true = (refl, tt)

pub none-flagged : (riding : Bool) (c : Countdown) → [] ≡ flags c (asked_of riding [] []) (given_of riding [] [])
none-flagged false c = refl
none-flagged true c = refl

pub none-spent : (riding : Bool) (c : Countdown) → c ≡ spent c (asked_of riding [] []) (given_of riding [] [])
none-spent false c = refl
none-spent true c = refl

pub turn-none : (riding : Bool) (p : ℕ) (d e : Hand) → TookTurn p (SaysAnswers [] []) d e → TookTurn p (SaysAnswers (asked_of riding [] []) (given_of riding [] [])) d e
turn-none false p d e turn = turn
turn-none true p d e turn = turn

pub none-block : (riding : Bool) → None ≡ block_behind riding [] []
none-block false = refl
none-block true = refl

pub none-flushed : (riding : Bool) (c : Cache) (old : Hand) → FlushedSoFar (asked_of riding [] []) c c old old
none-flushed false c old = none-yet c old
none-flushed true c old = none-yet c old

-- ---- one event for each event, and one answer for each answer

pub asked-many : (riding : Bool) (es : List Event) (ans : List Answer) → length (asked_of riding es ans) ≡ length es
asked-many false es ans = refl
asked-many true es ans = each es ans
  where
    each : (es : List Event) (ans : List Answer) → length (ridden_events alone es ans) ≡ length es
    each [] ans = refl
    each (e ∷ es) [] = refl
    each (e ∷ es) (a ∷ ans) = ap suc (each es ans)

pub given-many : (riding : Bool) (es : List Event) (ans : List Answer) → length (given_of riding es ans) ≡ length ans
given-many false es ans = refl
given-many true es ans = each es ans
  where
    each : (es : List Event) (ans : List Answer) → length (ridden_answers alone es ans) ≡ length ans
    each [] ans = refl
    each (e ∷ es) [] = refl
    each (e ∷ es) (a ∷ ans) = ap suc (each es ans)

-- ---- as much is asked for and answered as there are events

ridden-long : (same : Event → Event → Bool) (es : List Event) (ans : List Answer) → length ans ≡ length es → length (ridden_events same es ans) ≡ length es
ridden-long same [] ans long = refl
ridden-long same (e ∷ es) [] long = absurd (omega arith)
ridden-long same (e ∷ es) (a ∷ ans) long = ap suc (ridden-long same es ans (omega arith))

answered-long : (same : Event → Event → Bool) (es : List Event) (ans : List Answer) → length ans ≡ length es → length (ridden_answers same es ans) ≡ length es
answered-long same [] ans long = long
answered-long same (e ∷ es) [] long = absurd (omega arith)
answered-long same (e ∷ es) (a ∷ ans) long = ap suc (answered-long same es ans (omega arith))

pub asked-long : (riding : Bool) (es : List Event) (ans : List Answer) → length ans ≡ length es → length (asked_of riding es ans) ≡ length es
asked-long false es ans long = refl
asked-long true es ans long = ridden-long alone es ans long

pub given-long : (riding : Bool) (es : List Event) (ans : List Answer) → length ans ≡ length es → length (given_of riding es ans) ≡ length es
given-long false es ans long = long
given-long true es ans long = answered-long alone es ans long

-- ---- one object

-- where it isn't tiny, or nothing rides
pub plain-part : (riding : Bool) (block : Option Block) (e : Event) (a : Answer) → (riding ≡ true → is_tiny e ≡ false) → part_with riding block e a ≡ Other
plain-part false block e a never = refl
plain-part true block e a never = rw (never refl) refl

-- where none rides there is no seat
unmapped : {X Y : Type 0} (f : X → Y) (o : Option X) → option_map f o ≡ None → o ≡ None
unmapped f None off = refl
unmapped f (Some x) off = absurd (let no : ⊥ = cc in no)

no-seat : (block : Option Block) (size : ℕ) → ride_start block size ≡ None → seat_in block size ≡ None
no-seat block size off = unmapped seat_address (seat_in block size) off

pub lead-part : (riding : Bool) (block : Option Block) (e : Event) (a : Answer) → riding ≡ true → is_tiny e ≡ true → ride_start block e.size ≡ None → part_with riding block e a ≡ Lead
lead-part false block e a on tiny off = absurd (let f : ⊥ = cc in f)
lead-part true block e a on tiny off = rw (tiny, no-seat block e.size off) refl

not-placed : (a : Answer) → ((address : ℕ) → a ≡ Placed address → ⊥) → is_placed a ≡ false
not-placed (Placed address) never = absurd (never address refl)
not-placed Zero never = refl
not-placed (Missed line) never = refl

-- one that is refused changes no block
pub missed-block : (riding : Bool) (block : Option Block) (e : Event) (a : Answer) → is_tiny e ≡ true → ride_start block e.size ≡ None → ((address : ℕ) → a ≡ Placed address → ⊥) → behind_ride block e.size ≡ block_with riding block e a
missed-block false block e a tiny off never = rw (no-seat block e.size off) refl
missed-block true block e a tiny off never = rw (tiny, no-seat block e.size off, not-placed a never) refl

-- ---- one event more

-- all events count where a processor is alone
alone-block : (e : Event) (es : List Event) (ans : List Answer) → block_of (alone e) es ans ≡ block_of (λ x. true) es ans
alone-block e [] ans = refl
alone-block e (x ∷ es) [] = refl
alone-block e (x ∷ es) (a ∷ ans) = ap (λ (b : Option Block). next_block b (start_in a) (tried_by x a)) (alone-block e es ans)

alone-part : (es : List Event) (ans : List Answer) (e : Event) (a : Answer) → part_behind alone es ans e a ≡ next_part (block_of (λ x. true) es ans) (tried_by e a)
alone-part es ans e a = ap (λ (b : Option Block). next_part b (tried_by e a)) (alone-block e es ans)

pub asked-next : (riding : Bool) (e : Event) (a : Answer) (es : List Event) (ans : List Answer) → asked_of riding (e ∷ es) (a ∷ ans) ≡ based_event (part_with riding (block_behind riding es ans) e a) e ∷ asked_of riding es ans
asked-next false e a es ans = refl
asked-next true e a es ans = ap (λ (p : Part). based_event p e ∷ ridden_events alone es ans) (alone-part es ans e a)

pub given-next : (riding : Bool) (e : Event) (a : Answer) (es : List Event) (ans : List Answer) → given_of riding (e ∷ es) (a ∷ ans) ≡ based_answer (part_with riding (block_behind riding es ans) e a) a ∷ given_of riding es ans
given-next false e a es ans = refl
given-next true e a es ans = ap (λ (p : Part). based_answer p a ∷ ridden_answers alone es ans) (alone-part es ans e a)

pub block-next : (riding : Bool) (e : Event) (a : Answer) (es : List Event) (ans : List Answer) → block_behind riding (e ∷ es) (a ∷ ans) ≡ block_with riding (block_behind riding es ans) e a
block-next false e a es ans = refl
block-next true e a es ans = refl

pub stand-next : (riding : Bool) (e : Event) (a : Answer) (es : List Event) (ans : List Answer) → StandsWith riding (block_behind riding es ans) e a → RidersStand riding es ans → RidersStand riding (e ∷ es) (a ∷ ans)
stand-next false e a es ans now was = tt
stand-next true e a es ans now was = (ap suc was.0, (λ start offset is. now start offset (sym (alone-part es ans e a) ∙ is), was.1))

-- ---- the processors, one after another

pub ridden-turn : (riding : Bool) (queues : List (List Event)) (k : ℕ) (given : List (List Answer)) (answers : List Answer) → length given ≡ k → HaveRiddenTo riding queues k given
    → RidersStand riding (reverse (get_or queues k [])) (reverse answers) → HaveRiddenTo riding queues (k + 1) (given ++ answers ∷ [])
ridden-turn riding queues k given answers size was now w low = elim (cases_eq w k) [
  | inl same ↦ (
      let here : get_or (given ++ answers ∷ []) k [] ≡ answers = get_or_push given answers [] k size in
      let there : RidersStandAt riding queues (given ++ answers ∷ []) k = rw here now in
      rw same there)
  | inr other ↦ (
      let here : get_or (given ++ answers ∷ []) w [] ≡ get_or given w [] = get_or_append_left given (answers ∷ []) [] w (omega arith) in
      rw here (was w (omega arith)))
]

pub ridden-all : (riding : Bool) (queues : List (List Event)) (k : ℕ) (given : List (List Answer)) → length queues ≤ k → length given ≡ k → HaveRiddenTo riding queues k given → HaveRidden riding queues given
ridden-all riding queues k given long size was w = elim (cases_lt w k) [
  | inl low ↦ was w low
  | inr high ↦ (
      let q : get_or queues w [] ≡ [] = get_or_past queues w [] (omega arith) in
      let a : get_or given w [] ≡ [] = get_or_past given w [] (omega arith) in
      rw (q, a) (none-stand riding))
]

-- ---- where nothing rides

pub plain-answered : (riding : Bool) (queues : List (List Event)) (given : List (List Answer)) (d : Seen) → riding ≡ false → HaveAnswered riding queues given d → HaveAnswered false queues given d
plain-answered riding queues given d off was = subst (λ (b : Bool). HaveAnswered b queues given d) off was

pub plain-sampled : (riding : Bool) (queues : List (List Event)) (given : List (List Answer)) (sampled : List (List Bool)) (old new : List Cache) → riding ≡ false → HaveSampled riding queues given sampled old new → HaveSampled false queues given sampled old new
plain-sampled riding queues given sampled old new off was = subst (λ (b : Bool). HaveSampled b queues given sampled old new) off was

-- ---- the processors' events among those of a cycle

based-proc : (p : Part) (e : Event) → (based_event p e).proc ≡ e.proc
based-proc Other e = refl
based-proc Lead e = refl
based-proc (Ride lead offset) e = refl

-- a processor's block is made by its own events alone
own-block : (w : ℕ) (es : List Event) (ans : List Answer) → block_of (λ x. eqb x.proc w) es ans ≡ block_of (λ x. true) (events_by w es) (answers_by w es ans)
own-block w [] ans = refl
own-block w (x ∷ es) [] = none (events_by w (x ∷ es))
  where
    none : (l : List Event) → None ≡ block_of (λ y. true) l []
    none [] = refl
    none (y ∷ l) = refl
own-block w (x ∷ es) (a ∷ ans) = elim (cases_Bool (eqb x.proc w)) [
  | inl on ↦ rw on (ap (λ (b : Option Block). next_block b (start_in a) (tried_by x a)) (own-block w es ans))
  | inr off ↦ rw off (own-block w es ans)
]

own-part : (w : ℕ) (es : List Event) (ans : List Answer) (e : Event) (a : Answer) → eqb e.proc w ≡ true → part_behind by_proc es ans e a ≡ part_behind alone (events_by w es) (answers_by w es ans) e a
own-part w es ans e a on =
    let same : e.proc ≡ w = eqb-true e.proc w on in
    let mine : block_of (by_proc e) es ans ≡ block_of (λ x. true) (events_by w es) (answers_by w es ans) = subst (λ (k : ℕ). block_of (by_proc e) es ans ≡ block_of (λ x. true) (events_by k es) (answers_by k es ans)) same (own-block e.proc es ans) in
    ap (λ (b : Option Block). next_part b (tried_by e a)) mine ∙ sym (alone-part (events_by w es) (answers_by w es ans) e a)

-- what a processor asked for is what all asked for, of its own
pub asked-by : (w : ℕ) (es : List Event) (ans : List Answer) → length ans ≡ length es → events_by w (ridden_events by_proc es ans) ≡ ridden_events alone (events_by w es) (answers_by w es ans)
asked-by w [] ans long = refl
asked-by w (e ∷ es) [] long = absurd (omega arith)
asked-by w (e ∷ es) (a ∷ ans) long =
    let rest = asked-by w es ans (omega arith) in
    let p = part_behind by_proc es ans e a in
    elim (cases_Bool (eqb e.proc w)) [
      | inl on ↦ (
          let here : eqb (based_event p e).proc w ≡ true = ap (λ (k : ℕ). eqb k w) (based-proc p e) ∙ on in
          rw (here, on) (ap (λ (q : Part). based_event q e ∷ events_by w (ridden_events by_proc es ans)) (own-part w es ans e a on)
          ∙ ap (λ (l : List Event). based_event (part_behind alone (events_by w es) (answers_by w es ans) e a) e ∷ l) rest))
      | inr off ↦ (
          let here : eqb (based_event p e).proc w ≡ false = ap (λ (k : ℕ). eqb k w) (based-proc p e) ∙ off in
          rw (here, off) rest)
    ]

-- to choose by the events that were asked for is to choose by the events themselves
pub chosen-alike : {X : Type 0} (w : ℕ) (es : List Event) (ans : List Answer) (xs : List X) → length ans ≡ length es → answers_by w (ridden_events by_proc es ans) xs ≡ answers_by w es xs
chosen-alike w [] ans xs long = refl
chosen-alike w (e ∷ es) [] xs long = absurd (omega arith)
chosen-alike w (e ∷ es) (a ∷ ans) [] long = refl
chosen-alike w (e ∷ es) (a ∷ ans) (x ∷ xs) long =
    let rest = chosen-alike w es ans xs (omega arith) in
    let same : eqb (based_event (part_behind by_proc es ans e a) e).proc w ≡ eqb e.proc w = ap (λ (k : ℕ). eqb k w) (based-proc (part_behind by_proc es ans e a) e) in
    elim (cases_Bool (eqb e.proc w)) [
      | inl on ↦ rw (same, on) (ap (λ (l : List _). x ∷ l) rest)
      | inr off ↦ rw (same, off) rest
    ]

-- also with the oldest first
pub chosen-turned : {X : Type 0} (w : ℕ) (es : List Event) (ans : List Answer) (xs : List X) → length ans ≡ length es → length xs ≡ length es
    → answers_by w (reverse (ridden_events by_proc (reverse es) (reverse ans))) xs ≡ answers_by w es xs
chosen-turned w es ans xs long many =
    let asked = ridden_events by_proc (reverse es) (reverse ans) in
    let turned : length (reverse ans) ≡ length (reverse es) = (let p = length-reverse ans in let q = length-reverse es in omega arith) in
    let size : length (reverse xs) ≡ length asked = length-reverse xs ∙ many ∙ sym (length-reverse es) ∙ sym (ridden-long by_proc (reverse es) (reverse ans) turned) in
    ap (λ (l : List _). answers_by w (reverse asked) l) (sym (reverse-reverse xs)) ∙ answers-reverse w asked (reverse xs) size
    ∙ ap (λ (l : List _). reverse l) (chosen-alike w (reverse es) (reverse ans) (reverse xs) turned ∙ answers-reverse w es xs many) ∙ reverse-reverse (answers_by w es xs)

pub given-by : (w : ℕ) (es : List Event) (ans : List Answer) → length ans ≡ length es → answers_by w es (ridden_answers by_proc es ans) ≡ ridden_answers alone (events_by w es) (answers_by w es ans)
given-by w [] ans long = refl
given-by w (e ∷ es) [] long = absurd (omega arith)
given-by w (e ∷ es) (a ∷ ans) long =
    let rest = given-by w es ans (omega arith) in
    elim (cases_Bool (eqb e.proc w)) [
      | inl on ↦ rw on (ap (λ (q : Part). based_answer q a ∷ answers_by w es (ridden_answers by_proc es ans)) (own-part w es ans e a on)
          ∙ ap (λ (l : List Answer). based_answer (part_behind alone (events_by w es) (answers_by w es ans) e a) a ∷ l) rest)
      | inr off ↦ rw off rest
    ]

-- riders that stand in the blocks of their processors stand in the cycle
pub stand-by : (es : List Event) (ans : List Answer) → length ans ≡ length es → ((w : ℕ) → StandRiders alone (events_by w es) (answers_by w es ans)) → StandRiders by_proc es ans
stand-by [] ans long each = tt
stand-by (e ∷ es) [] long each = absurd (omega arith)
stand-by (e ∷ es) (a ∷ ans) long each =
    let on : eqb e.proc e.proc ≡ true = eq-eqb e.proc e.proc refl in
    let own : StandRiders alone (e ∷ events_by e.proc es) (a ∷ answers_by e.proc es ans) = rw on at (each e.proc) in (
      λ start offset is. own.0 start offset (sym (own-part e.proc es ans e a on) ∙ is),
      stand-by es ans (omega arith) (λ w. elim (cases_Bool (eqb e.proc w)) [
        | inl mine ↦ (let both : StandRiders alone (e ∷ events_by w es) (a ∷ answers_by w es ans) = rw mine at (each w) in both.1)
        | inr other ↦ (let rest : StandRiders alone (events_by w es) (answers_by w es ans) = rw other at (each w) in rest)
      ]),
    )

-- ---- with the oldest first

-- what a processor asked for, of its own events and answers
pub asked-turned : (w : ℕ) (es : List Event) (ans : List Answer) → length ans ≡ length es
    → events_by w (reverse (ridden_events by_proc (reverse es) (reverse ans))) ≡ reverse (ridden_events alone (reverse (events_by w es)) (reverse (answers_by w es ans)))
asked-turned w es ans long =
    let turned : length (reverse ans) ≡ length (reverse es) = (let p = length-reverse ans in let q = length-reverse es in omega arith) in
    events-reverse w (ridden_events by_proc (reverse es) (reverse ans)) ∙ ap (λ (l : List Event). reverse l) (asked-by w (reverse es) (reverse ans) turned)
    ∙ ap (λ (l : List Event). reverse (ridden_events alone l (answers_by w (reverse es) (reverse ans)))) (events-reverse w es)
    ∙ ap (λ (l : List Answer). reverse (ridden_events alone (reverse (events_by w es)) l)) (answers-reverse w es ans long)

-- what it was answered, chosen by its events
pub given-turned : (w : ℕ) (es : List Event) (ans : List Answer) → length ans ≡ length es
    → answers_by w (reverse (ridden_events by_proc (reverse es) (reverse ans))) (reverse (ridden_answers by_proc (reverse es) (reverse ans)))
    ≡ reverse (ridden_answers alone (reverse (events_by w es)) (reverse (answers_by w es ans)))
given-turned w es ans long =
    let turned : length (reverse ans) ≡ length (reverse es) = (let p = length-reverse ans in let q = length-reverse es in omega arith) in
    let asked = ridden_events by_proc (reverse es) (reverse ans) in
    let told = ridden_answers by_proc (reverse es) (reverse ans) in
    let as_many : length told ≡ length asked = answered-long by_proc (reverse es) (reverse ans) turned ∙ sym (ridden-long by_proc (reverse es) (reverse ans) turned) in
    answers-reverse w asked told as_many ∙ ap (λ (l : List Answer). reverse l) (chosen-alike w (reverse es) (reverse ans) told turned ∙ given-by w (reverse es) (reverse ans) turned)
    ∙ ap (λ (l : List Event). reverse (ridden_answers alone l (answers_by w (reverse es) (reverse ans)))) (events-reverse w es)
    ∙ ap (λ (l : List Answer). reverse (ridden_answers alone (reverse (events_by w es)) l)) (answers-reverse w es ans long)

pub stand-turned : (es : List Event) (ans : List Answer) → length ans ≡ length es → ((w : ℕ) → StandRiders alone (reverse (events_by w es)) (reverse (answers_by w es ans))) → StandRiders by_proc (reverse es) (reverse ans)
stand-turned es ans long each = stand-by (reverse es) (reverse ans) (let p = length-reverse ans in let q = length-reverse es in omega arith)
    (λ w. subst (λ (l : List Event). StandRiders alone l (answers_by w (reverse es) (reverse ans))) (sym (events-reverse w es))
    (subst (λ (l : List Answer). StandRiders alone (reverse (events_by w es)) l) (sym (answers-reverse w es ans long)) (each w)))
