-- The processors are back, one after another, and then the others.
use Rattle.std.proofs.Common.{◌≡◌, ◌≢◌, ℕ, suc, ◌+◌, ◌-◌, ◌<◌, ◌≤◌, Bool, true, false, List, [], ◌∷◌, ◌++◌, drop, reverse, set, take, length, get_or, refl, sym, ◌∙◌, ap, arith, inl, inr, subst, add-zero}
use Rattle.std.proofs.lemmas.Bool.{cases_eq}
use Rattle.std.proofs.lemmas.List.{append-nil, append_assoc, drop_all, drop_more, get_or_at, get_or-set_other, get_or-set_same, length-append, length-drop, length-set, length_push, set_at, set-get_or}
use Rattle.std.specs.Prelude.{◌==◌}
use Rattle.atomic_table.specs.Seated.{TableId}
use Rattle.span_state.specs.MarkSet.{MarkSet}
use Rattle.trace_reader.specs.declared.trace.Event.{Event}
use Rattle.cycle_history.specs.declared.Answer.{Answer}
use Rattle.worker_log.specs.declared.Entry.{Entry}
use Rattle.profile_cycle.specs.History.{RingId, Standing, split_off}
use Rattle.sample_laws.specs.Counted.{all_counts, sampled_counts}
use Rattle.sample_laws.specs.Countdowns.{flags, spent}
use Rattle.span_laws.specs.declared.view.Part.{Part}
use Rattle.span_set.specs.declared.hand.Hand.{Hand}
use Rattle.proc_cache.specs.Cache.{Cache}
use Rattle.heap_run.specs.Counts.{Counts, HaveSampledTo, no_counts}
use Rattle.heap_run.specs.Gains.{HasKept, behind, gains}
use Rattle.heap_run.specs.Lanes.{AnswersTurn, DoesTask, Helps}
use Rattle.heap_run.specs.Out.{AreOf, AreStillOut, HasOut, HasTaken, IsBack, IsBare, IsTakenIn, IsTaskOf, MayJoin, MayStart, at_home, busy, helpers, resting}
use Rattle.heap_run.specs.Parts.{part_at}
use Rattle.heap_run.specs.Riding.{RidersStand, asked_at, asked_of, given_at, given_of}
use Rattle.heap_run.specs.Turns.{HaveAnsweredTo, IsCaching, IsDriving, SaysAnswers, SaysNone, TookTurn, no_cache}
use Rattle.heap_run.specs.declared.cycle.LentLists.{LentLists}
use Rattle.heap_run.specs.declared.lanes.Lane.{Lane}
use Rattle.heap_run.specs.declared.lanes.Task.{Task}
use Rattle.heap_run.specs.declared.lanes.Task.TheVariants.{Allocate, Sweep, Scavenge}
use Rattle.heap_run.specs.declared.lanes.Turn.{Turn}
use Rattle.heap_run.specs.declared.going_out.Start.{Start}
use Rattle.heap_run.proofs.Acted.{none-then}
use Rattle.heap_run.proofs.Counting.{counts-none, counts-same, counts-then}
use Rattle.heap_run.proofs.Driving.{answered-turn, collecting-turn, driving-other, driving-turn, same-refl}
use Rattle.heap_run.proofs.Gains.{behind-none, gains-turn, kept-none}
use Rattle.heap_run.proofs.Riding.{none-flagged, none-spent, none-stand, ridden-turn, turn-none}
use Rattle.heap_run.proofs.Sampling.{counts-more, sampled-turn}
use Rattle.heap_run.proofs.Stacks.{busy-none, busy-some, no-length, of-pop, of-some}
use Rattle.heap_run.proofs.Taking.{IsAlike, home-cached, home-caching, home-counts, home-turn, may-join, out-less}

-- ---- the processors' list

-- those that are back stand in front of those of the start
whole-split : (procs olds : List Cache) (p : ℕ) → length procs ≡ p → p < length olds → procs ++ drop p olds ≡ procs ++ get_or olds p no_cache ∷ drop (p + 1) olds
whole-split procs olds p long lt = ap (λ (l : List Cache). procs ++ l) (drop_more olds p no_cache lt)

whole-at : (procs olds : List Cache) (p : ℕ) → length procs ≡ p → p < length olds → get_or olds p no_cache ≡ get_or (procs ++ drop p olds) p no_cache
whole-at procs olds p long lt =
    sym (ap (λ (l : List Cache). get_or l p no_cache) (whole-split procs olds p long lt) ∙ get_or_at procs (get_or olds p no_cache) (drop (p + 1) olds) no_cache p long)

whole-next : (procs olds : List Cache) (p : ℕ) (c : Cache) → length procs ≡ p → p < length olds → set (procs ++ drop p olds) p c ≡ (procs ++ c ∷ []) ++ drop (p + 1) olds
whole-next procs olds p c long lt =
    ap (λ (l : List Cache). set l p c) (whole-split procs olds p long lt) ∙ set_at procs (get_or olds p no_cache) (drop (p + 1) olds) c p long ∙ sym (append_assoc procs (c ∷ []) (drop (p + 1) olds))

whole-length : (procs olds : List Cache) (p : ℕ) → length procs ≡ p → p ≤ length olds → length (procs ++ drop p olds) ≡ length olds
whole-length procs olds p long le = (let a = length-append procs (drop p olds) in let d = length-drop p olds in omega arith)

pub whole-end : (procs olds : List Cache) (p : ℕ) → length olds ≤ p → procs ++ drop p olds ≡ procs
whole-end procs olds p le = ap (λ (l : List Cache). procs ++ l) (drop_all p olds le) ∙ append-nil procs

-- ---- one processor more

-- A processor's turn t came to t', as the driver knows it with all others home.
pub record TakesTurn (riding : Bool) (s : Start) (m : MarkSet) (queues : List (List Event)) (numbers : List (List ℕ)) (p : ℕ) (t t' : Turn) (d e : Hand) : Type 0 where
  pub low : p < length s.procs.value.items
  pub proc : t.proc ≡ get_or s.procs.value.items p no_cache
  pub answers : t.answers ≡ get_or s.given.value.answers.items p []
  pub flagged : t.sampled ≡ get_or s.given.value.sampled.items p []
  pub turn : TookTurn p (SaysAnswers (asked_of riding (reverse (get_or queues p [])) (reverse (behind t.answers t'.answers))) (given_of riding (reverse (get_or queues p [])) (reverse (behind t.answers t'.answers)))) (at_home s.driver.value d) (at_home s.driver.value e)
  pub caching : IsCaching s.driver.value.worker.view.generation (part_at (at_home s.driver.value e).worker p) t'.proc
  pub number : t'.proc.number ≡ p
  pub riders : RidersStand riding (reverse (get_or queues p [])) (reverse (behind t.answers t'.answers))
  pub sampled : reverse (behind t.sampled t'.sampled) ≡ flags t.proc.countdown (asked_of riding (reverse (get_or queues p [])) (reverse (behind t.answers t'.answers))) (given_of riding (reverse (get_or queues p [])) (reverse (behind t.answers t'.answers)))
  pub spends : t'.proc.countdown ≡ spent t.proc.countdown (asked_of riding (reverse (get_or queues p [])) (reverse (behind t.answers t'.answers))) (given_of riding (reverse (get_or queues p [])) (reverse (behind t.answers t'.answers)))
  pub counts : Counts m (sampled_counts (behind t.sampled t'.sampled) (get_or numbers p [])) (at_home s.driver.value d) (at_home s.driver.value e)
  pub kept : HasKept t.answers t'.answers
  pub kept_too : HasKept t.sampled t'.sampled

-- what the lists got
more-gains : {X : Type 0} (was now : List (List X)) (p : ℕ) (list grown : List X) → length now ≡ length was → p < length was → list ≡ get_or was p []
    → take (p + 1) (gains was (set now p grown)) ≡ take p (gains was now) ++ behind list grown ∷ []
more-gains was now p list grown same lt is =
    gains-turn was now p grown lt same ∙ ap (λ (l : List _). take p (gains was now) ++ behind l grown ∷ []) (sym is)

-- what is behind the lists below p stays
kept-more : {X : Type 0} (was now : List (List X)) (p : ℕ) (list grown : List X) → p < length now → list ≡ get_or was p [] → HasKept list grown → ((w : ℕ) → w < p → HasKept (get_or was w []) (get_or now w []))
    → (w : ℕ) → w < p + 1 → HasKept (get_or was w []) (get_or (set now p grown) w [])
kept-more was now p list grown lt is kept were w low = elim (cases_eq w p) [
  | inl same ↦ (
      let here : HasKept (get_or was p []) (get_or (set now p grown) p []) = rw (get_or-set_same now p grown [] lt, sym is) kept in
      subst (λ (k : ℕ). HasKept (get_or was k []) (get_or (set now p grown) k [])) (sym same) here)
  | inr other ↦ rw (get_or-set_other now p w grown [] other) (were w (omega arith))
]

pub taken-next : (riding : Bool) (s : Start) (m : MarkSet) (queues : List (List Event)) (numbers : List (List ℕ)) (p : ℕ) (procs procs' : List Cache) (given given' : LentLists) (t t' : Turn) (d e : Hand) → HasTaken riding s m queues numbers p procs given d
    → length s.given.value.answers.items ≡ length s.procs.value.items → length s.given.value.sampled.items ≡ length s.procs.value.items → TakesTurn riding s m queues numbers p t t' d e
    → procs' ≡ procs ++ t'.proc ∷ [] → given'.answers.items ≡ set given.answers.items p t'.answers → given'.sampled.items ≡ set given.sampled.items p t'.sampled → HasTaken riding s m queues numbers (p + 1) procs' given' e
taken-next riding s m queues numbers p procs procs' given given' t t' d e were as_many as_many_too took grown answers sampled =
    let start = s.driver.value in
    let olds = s.procs.value.items in
    let was = s.given.value.answers.items in
    let now = given.answers.items in
    let was_too = s.given.value.sampled.items in
    let now_too = given.sampled.items in
    let given_at : p < length was = (let l = took.low in omega arith) in
    let given_too : p < length was_too = (let l = took.low in omega arith) in
    let size : length (procs ++ drop p olds) ≡ length olds = whole-length procs olds p were.long (let l = took.low in omega arith) in
    let is : t.proc ≡ get_or (procs ++ drop p olds) p no_cache = took.proc ∙ whole-at procs olds p were.long took.low in
    let next : set (procs ++ drop p olds) p t'.proc ≡ procs' ++ drop (p + 1) olds = whole-next procs olds p t'.proc were.long took.low ∙ ap (λ (l : List Cache). l ++ drop (p + 1) olds) (sym grown) in
    let more : take (p + 1) (gains was given'.answers.items) ≡ take p (gains was now) ++ behind t.answers t'.answers ∷ [] =
    ap (λ (l : List (List Answer)). take (p + 1) (gains was l)) answers ∙ more-gains was now p t.answers t'.answers were.lists given_at took.answers in
    let more_too : take (p + 1) (gains was_too given'.sampled.items) ≡ take p (gains was_too now_too) ++ behind t.sampled t'.sampled ∷ [] =
    ap (λ (l : List (List Bool)). take (p + 1) (gains was_too l)) sampled ∙ more-gains was_too now_too p t.sampled t'.sampled were.lists_too given_too took.flagged in
    record {
      long = ap (λ (l : List Cache). length l) grown ∙ length_push procs t'.proc ∙ ap (λ (n : ℕ). n + 1) were.long;
      driving = subst (λ (l : List Cache). IsDriving start.worker l (at_home start e)) next
          (driving-turn _ start.worker (procs ++ drop p olds) p t'.proc (at_home start d) (at_home start e) were.driving took.turn (let l = took.low in omega arith) took.number took.caching);
      collecting = collecting-turn _ p (at_home start d) (at_home start e) took.turn were.collecting;
      lists = ap (λ (l : List (List Answer)). length l) answers ∙ length-set now p t'.answers ∙ were.lists;
      lists_too = ap (λ (l : List (List Bool)). length l) sampled ∙ length-set now_too p t'.sampled ∙ were.lists_too;
      rest = λ w high none. (let other : w ≢ p = λ q. omega arith in ap (λ (l : List (List Answer)). get_or l w []) answers ∙ get_or-set_other now p w t'.answers [] other ∙ were.rest w (omega arith) none);
      rest_too = λ w high none. (let other : w ≢ p = λ q. omega arith in ap (λ (l : List (List Bool)). get_or l w []) sampled ∙ get_or-set_other now_too p w t'.sampled [] other ∙ were.rest_too w (omega arith) none);
      kept = subst (λ (l : List (List Answer)). (w : ℕ) → w < p + 1 → HasKept (get_or was w []) (get_or l w [])) (sym answers)
          (kept-more was now p t.answers t'.answers (let l = were.lists in omega arith) took.answers took.kept were.kept);
      kept_too = subst (λ (l : List (List Bool)). (w : ℕ) → w < p + 1 → HasKept (get_or was_too w []) (get_or l w [])) (sym sampled)
          (kept-more was_too now_too p t.sampled t'.sampled (let l = were.lists_too in omega arith) took.flagged took.kept_too were.kept_too);
      answered = rw more (answered-turn riding queues p (take p (gains was now)) (behind t.answers t'.answers) (get_or queues p []) (at_home start d) (at_home start e) were.answered refl took.turn);
      riders = rw more (ridden-turn riding queues p (take p (gains was now)) (behind t.answers t'.answers) were.answered.size were.riders took.riders);
      sampled_are = rw (more, more_too) (subst (λ (l : List Cache). HaveSampledTo riding queues (p + 1) (take p (gains was now) ++ behind t.answers t'.answers ∷ []) (take p (gains was_too now_too) ++ behind t.sampled t'.sampled ∷ []) olds l) next
          (sampled-turn riding queues p (take p (gains was now)) (take p (gains was_too now_too)) olds (procs ++ drop p olds) t.proc t'.proc (get_or queues p []) (behind t.answers t'.answers) (behind t.sampled t'.sampled)
          were.sampled_are were.answered.size (let l = took.low in omega arith) is refl took.sampled took.spends));
      counts = rw more_too (counts-same m _ _ start (at_home start e)
          (counts-then m (all_counts p (take p (gains was_too now_too)) numbers) (sampled_counts (behind t.sampled t'.sampled) (get_or numbers p []))
          (λ b. all_counts p (take p (gains was_too now_too)) numbers b + sampled_counts (behind t.sampled t'.sampled) (get_or numbers p []) b) start (at_home start d) (at_home start e) were.counts took.counts (λ b. refl))
          (λ b. counts-more p (take p (gains was_too now_too)) (behind t.sampled t'.sampled) numbers b were.sampled_are.size));
    }

-- ---- a processor that has run

abbrev turn_of : Task → Turn → Turn
turn_of (Allocate t) u = t
turn_of (Sweep n) u = u
turn_of Scavenge u = u

-- a processor's task was to answer
did-answer : (riding : Bool) (s : Start) (m : MarkSet) (queues : List (List Event)) (numbers : List (List ℕ)) (i : ℕ) (old new : Hand) (task : Task) (t' : Turn) → IsTaskOf s i task → i < length s.procs.value.items → DoesTask riding m queues numbers old new task (Allocate t')
    → (t : Turn) × (t.proc ≡ get_or s.procs.value.items i no_cache) × (t.answers ≡ get_or s.given.value.answers.items i []) × (t.sampled ≡ get_or s.given.value.sampled.items i [])
    × AnswersTurn riding m (get_or queues t.proc.number []) (get_or numbers t.proc.number []) old new t t'
did-answer riding s m queues numbers i old new (Sweep n) t' is low did = absurd (omega arith)
did-answer riding s m queues numbers i old new Scavenge t' is low did = absurd (omega arith)
did-answer riding s m queues numbers i old new (Allocate t) t' is low did =
    let same : did.0 ≡ t' = ap (λ (task : Task). turn_of task t') (sym did.1) in
    (t, is.1, is.2, is.3, subst (λ (u : Turn). AnswersTurn riding m (get_or queues t.proc.number []) (get_or numbers t.proc.number []) old new t u) same did.2)

-- the driver knows of a worker that is out what it knew at the start
pub alike : (riding : Bool) (table : TableId) (ring : RingId) (m : MarkSet) (s : Start) (queues : List (List Event)) (numbers : List (List ℕ)) (p i : ℕ) (procs : List Cache) (given : LentLists) (d : Hand) → MayStart table ring m s → HasTaken riding s m queues numbers p procs given d
    → i < 69 → part_at d.worker i ≡ part_at s.driver.value.worker i → IsAlike s.driver.value (at_home s.driver.value d) i
alike riding table ring m s queues numbers p i procs given d starts were low part = record {
  was = starts.driving.number;
  number = were.driving.number;
  parts = were.driving.same.parts ∙ starts.parts;
  low = low;
  generation = were.driving.same.generation;
  part = part;
  tally = ap (λ (t : Standing). record t { view = split_off t.view }) were.counts.tally;
}

-- it is taken in
pub taken-back : (riding : Bool) (table : TableId) (ring : RingId) (m : MarkSet) (s : Start) (queues : List (List Event)) (numbers : List (List ℕ)) (p : ℕ) (is : List ℕ) (procs procs' : List Cache) (given given' : LentLists) (l : Lane) (t' : Turn) (d e : Hand)
    → MayStart table ring m s → HasTaken riding s m queues numbers p procs given d → HasOut s.driver.value (p ∷ is) d → p < length s.procs.value.items → IsBack riding s m queues numbers p l → l.refused ≡ false → l.task ≡ Allocate t' → IsTakenIn l.hand d e
    → procs' ≡ procs ++ t'.proc ∷ [] → given'.answers.items ≡ set given.answers.items p t'.answers → given'.sampled.items ≡ set given.sampled.items p t'.sampled
    → HasTaken riding s m queues numbers (p + 1) procs' given' e × HasOut s.driver.value is e
taken-back riding table ring m s queues numbers p is procs procs' given given' l t' d e starts were outs low back held task taken grown answers sampled =
    let start = s.driver.value in
    let b = back.before in
    let did : DoesTask riding m queues numbers b.hand l.hand b.task (Allocate t') = subst (λ (k : Task). DoesTask riding m queues numbers b.hand l.hand b.task k) task (back.ran held) in
    let a = did-answer riding s m queues numbers p b.hand l.hand b.task t' back.sent.task low did in
    let t : Turn = a.0 in
    let number : t.proc.number ≡ p = ap (λ (c : Cache). c.number) a.1 ∙ starts.driving.numbers p low in
    let ran : AnswersTurn riding m (get_or queues p []) (get_or numbers p []) b.hand l.hand t t' = subst (λ (k : ℕ). AnswersTurn riding m (get_or queues k []) (get_or numbers k []) b.hand l.hand t t') number a.4 in
    let same = alike riding table ring m s queues numbers p p procs given d starts were back.sent.low outs.parts.0 in
    let P = SaysAnswers (asked_of riding (reverse (get_or queues p [])) (reverse (behind t.answers t'.answers))) (given_of riding (reverse (get_or queues p [])) (reverse (behind t.answers t'.answers))) in
    let took : TakesTurn riding s m queues numbers p t t' d e = record {
      low = low;
      proc = a.1;
      answers = a.2;
      flagged = a.3;
      turn = home-turn P start d e b.hand l.hand p same back.sent.out ran.acted taken;
      caching = home-caching P start d e b.hand l.hand p t'.proc same back.sent.out ran.acted taken ran.caching;
      number = ran.number ∙ number;
      riders = ran.riders;
      sampled = ran.sampled;
      spends = ran.spent_is;
      counts = home-counts P m _ start d e b.hand l.hand p same back.sent.out ran.acted taken ran.counts;
      kept = ran.kept;
      kept_too = ran.kept_too;
    } in (
      taken-next riding s m queues numbers p procs procs' given given' t t' d e were starts.answers starts.sampled took grown answers sampled,
      out-less P start d e b.hand l.hand p is outs same back.sent.out ran.acted taken,
    )

-- ---- a processor without an event

pub taken-rest : (riding : Bool) (table : TableId) (ring : RingId) (m : MarkSet) (s : Start) (queues : List (List Event)) (numbers : List (List ℕ)) (p : ℕ) (procs procs' : List Cache) (given : LentLists) (c : Cache) (d : Hand)
    → MayStart table ring m s → HasTaken riding s m queues numbers p procs given d → p < length s.procs.value.items → get_or queues p [] ≡ [] → c ≡ get_or s.procs.value.items p no_cache → procs' ≡ procs ++ c ∷ []
    → HasTaken riding s m queues numbers (p + 1) procs' given d
taken-rest riding table ring m s queues numbers p procs procs' given c d starts were low none is grown =
    let start = s.driver.value in
    let olds = s.procs.value.items in
    let was = s.given.value.answers.items in
    let was_too = s.given.value.sampled.items in
    let t : Turn = record { proc = c; answers = get_or was p []; sampled = get_or was_too p [] } in
    let nothing : behind t.answers t.answers ≡ [] = behind-none t.answers t.answers refl in
    let nothing_too : behind t.sampled t.sampled ≡ [] = behind-none t.sampled t.sampled refl in
    let here : c ≡ get_or (procs ++ drop p olds) p no_cache = is ∙ whole-at procs olds p were.long low in
    let own : IsCaching start.worker.view.generation (part_at (at_home start d).worker p) c =
    subst (λ (x : Cache). IsCaching start.worker.view.generation (part_at (at_home start d).worker p) x) (sym here) (were.driving.caching p (let l = whole-length procs olds p were.long (omega arith) in omega arith)) in
    let still : TookTurn p (SaysAnswers [] []) (at_home start d) (at_home start d) = record {
      said = [];
      did = tt;
      log = refl;
      number = refl;
      same = same-refl (at_home start d).worker;
      idle = were.driving.idle p;
      others = λ j other. refl;
      notes = sym (append-nil d.notes.items);
    } in
    let took : TakesTurn riding s m queues numbers p t t d d = record {
      low = low;
      proc = is;
      answers = refl;
      flagged = refl;
      turn = rw (none, nothing) (turn-none riding p (at_home start d) (at_home start d) still);
      caching = own;
      number = ap (λ (x : Cache). x.number) is ∙ starts.driving.numbers p low;
      riders = rw (none, nothing) (none-stand riding);
      sampled = rw (nothing_too, none, nothing) (none-flagged riding c.countdown);
      spends = rw (none, nothing) (none-spent riding c.countdown);
      counts = counts-same m no_counts _ (at_home start d) (at_home start d) (counts-none m (at_home start d) (at_home start d) refl refl) (λ b. rw nothing_too refl);
      kept = kept-none t.answers t.answers refl;
      kept_too = kept-none t.sampled t.sampled refl;
    } in
    let stays : given.answers.items ≡ set given.answers.items p (get_or was p []) = sym (ap (λ (x : List Answer). set given.answers.items p x) (sym (were.rest p (omega arith) none)) ∙ set-get_or given.answers.items p []) in
    let stays_too : given.sampled.items ≡ set given.sampled.items p (get_or was_too p []) = sym (ap (λ (x : List Bool). set given.sampled.items p x) (sym (were.rest_too p (omega arith) none)) ∙ set-get_or given.sampled.items p []) in
    taken-next riding s m queues numbers p procs procs' given given t t d d were starts.answers starts.sampled took grown stays stays_too

-- ---- another worker

answered-other : (riding : Bool) (queues : List (List Event)) (k i : ℕ) (given : List (List Answer)) (d e : Hand) → HaveAnsweredTo riding queues k given d.worker → k ≤ i → TookTurn i SaysNone d e → HaveAnsweredTo riding queues k given e.worker
answered-other riding queues k i given d e were high turn = record {
  size = were.size;
  answered = λ w low. (let other : w ≢ i = λ q. omega arith in
      subst (λ (l : List Entry). SaysAnswers (asked_at riding queues given w) (given_at riding queues given w) l) (sym (ap (λ (h : Part). h.log) (turn.others w other))) (were.answered w low));
  others = λ w past. elim (cases_eq w i) [
    | inl same ↦ subst (λ (n : ℕ). SaysNone (part_at e.worker n).log) (sym same) (subst (λ (l : List Entry). SaysNone l) (sym turn.log) (none-then turn.said (part_at d.worker i).log turn.did (were.others i high)))
    | inr other ↦ subst (λ (l : List Entry). SaysNone l) (sym (ap (λ (h : Part). h.log) (turn.others w other))) (were.others w past)
  ];
}

taken-other : (riding : Bool) (s : Start) (m : MarkSet) (queues : List (List Event)) (numbers : List (List ℕ)) (p i : ℕ) (procs : List Cache) (given : LentLists) (d e : Hand) → HasTaken riding s m queues numbers p procs given d → p ≡ length s.procs.value.items → p ≤ i
    → TookTurn i SaysNone (at_home s.driver.value d) (at_home s.driver.value e) → (part_at (at_home s.driver.value e).worker i).cached ≡ (part_at (at_home s.driver.value d).worker i).cached
    → Counts m no_counts (at_home s.driver.value d) (at_home s.driver.value e) → HasTaken riding s m queues numbers p procs given e
taken-other riding s m queues numbers p i procs given d e were all high turn cached counts =
    let start = s.driver.value in
    let olds = s.procs.value.items in
    record {
      long = were.long;
      driving = driving-other SaysNone start.worker (procs ++ drop p olds) i (at_home start d) (at_home start e) were.driving turn (let l = whole-length procs olds p were.long (omega arith) in omega arith) cached;
      collecting = collecting-turn SaysNone i (at_home start d) (at_home start e) turn were.collecting;
      lists = were.lists;
      lists_too = were.lists_too;
      rest = were.rest;
      rest_too = were.rest_too;
      kept = were.kept;
      kept_too = were.kept_too;
      answered = answered-other riding queues p i _ (at_home start d) (at_home start e) were.answered high turn;
      riders = were.riders;
      sampled_are = were.sampled_are;
      counts = counts-then m _ no_counts _ start (at_home start d) (at_home start e) were.counts counts (λ b. sym (add-zero _));
    }

-- what a helper did
did-help : (riding : Bool) (s : Start) (m : MarkSet) (queues : List (List Event)) (numbers : List (List ℕ)) (i : ℕ) (old new : Hand) (task task' : Task) → IsTaskOf s i task → length s.procs.value.items ≤ i → DoesTask riding m queues numbers old new task task' → Helps m old new
did-help riding s m queues numbers i old new (Allocate t) task' is high did = (let low = is.0 in absurd (omega arith))
did-help riding s m queues numbers i old new (Sweep n) task' is high did = did
did-help riding s m queues numbers i old new Scavenge task' is high did = did

pub taken-help : (riding : Bool) (table : TableId) (ring : RingId) (m : MarkSet) (s : Start) (queues : List (List Event)) (numbers : List (List ℕ)) (p i : ℕ) (is : List ℕ) (procs : List Cache) (given : LentLists) (l : Lane) (d e : Hand)
    → MayStart table ring m s → HasTaken riding s m queues numbers p procs given d → HasOut s.driver.value (i ∷ is) d → p ≡ length s.procs.value.items → p ≤ i → IsBack riding s m queues numbers i l → l.refused ≡ false → IsTakenIn l.hand d e
    → HasTaken riding s m queues numbers p procs given e × HasOut s.driver.value is e
taken-help riding table ring m s queues numbers p i is procs given l d e starts were outs all high back held taken =
    let start = s.driver.value in
    let b = back.before in
    let ran : Helps m b.hand l.hand = did-help riding s m queues numbers i b.hand l.hand b.task l.task back.sent.task (omega arith) (back.ran held) in
    let same = alike riding table ring m s queues numbers p i procs given d starts were back.sent.low outs.parts.0 in (
      taken-other riding s m queues numbers p i procs given d e were all high (home-turn SaysNone start d e b.hand l.hand i same back.sent.out ran.acted taken)
          (home-cached SaysNone start d e b.hand l.hand i same back.sent.out ran.acted taken ran.cached) (home-counts SaysNone m no_counts start d e b.hand l.hand i same back.sent.out ran.acted taken ran.counts),
      out-less SaysNone start d e b.hand l.hand i is outs same back.sent.out ran.acted taken,
    )

-- ---- the next processor

pub back-rest : (riding : Bool) (table : TableId) (ring : RingId) (m : MarkSet) (s : Start) (queues : List (List Event)) (numbers : List (List ℕ)) (background p : ℕ) (lanes : List Lane) (stay stay' procs procs' : List Cache) (given : LentLists) (c : Cache) (d : Hand)
    → MayStart table ring m s → AreStillOut riding s m queues numbers background p lanes stay procs given d → p < length s.procs.value.items → (length (get_or queues p []) == 0) ≡ true → stay ≡ stay' ++ c ∷ [] → procs' ≡ procs ++ c ∷ []
    → AreStillOut riding s m queues numbers background (p + 1) lanes stay' procs' given d
back-rest riding table ring m s queues numbers background p lanes stay stay' procs procs' given c d starts were low none split grown =
    let olds = s.procs.value.items in
    let k = length olds - (p + 1) in
    let e : length olds - p ≡ suc k = omega arith in
    let is = busy-none queues k p none in
    let busy_is : busy queues (length olds - p) p ≡ busy queues k (p + 1) = ap (λ (n : ℕ). busy queues n p) e ∙ is.0 in
    let rest_is : resting queues (length olds - p) p ≡ p ∷ resting queues k (p + 1) = ap (λ (n : ℕ). resting queues n p) e ∙ is.1 in
    let Q : ℕ → Cache → Type 0 = λ (i : ℕ) (x : Cache). x ≡ get_or olds i no_cache in
    let popped = of-pop Q p (resting queues k (p + 1)) stay stay' c (subst (λ (l : List ℕ). AreOf Q l stay) rest_is were.stays) split in
    record {
      outs = rw busy_is at were.outs;
      back = rw busy_is at were.back;
      stays = popped.1;
      taken = taken-rest riding table ring m s queues numbers p procs procs' given c d starts were.taken low (no-length (get_or queues p []) none) popped.0 grown;
    }

-- the last lane is that of the next processor
pub next-back : (riding : Bool) (m : MarkSet) (s : Start) (queues : List (List Event)) (numbers : List (List ℕ)) (background p : ℕ) (lanes lanes' : List Lane) (stay procs : List Cache) (given : LentLists) (l : Lane) (d : Hand)
    → AreStillOut riding s m queues numbers background p lanes stay procs given d → p < length s.procs.value.items → (length (get_or queues p []) == 0) ≡ false → lanes ≡ lanes' ++ l ∷ []
    → IsBack riding s m queues numbers p l × AreOf (IsBack riding s m queues numbers) (busy queues (length s.procs.value.items - (p + 1)) (p + 1) ++ helpers background) lanes'
next-back riding m s queues numbers background p lanes lanes' stay procs given l d were low some split =
    let olds = s.procs.value.items in
    let k = length olds - (p + 1) in
    let e : length olds - p ≡ suc k = omega arith in
    let is = busy-some queues k p some in
    let busy_is : busy queues (length olds - p) p ++ helpers background ≡ p ∷ (busy queues k (p + 1) ++ helpers background) = ap (λ (n : ℕ). busy queues n p ++ helpers background) e ∙ ap (λ (x : List ℕ). x ++ helpers background) is.0 in
    of-pop (IsBack riding s m queues numbers) p (busy queues k (p + 1) ++ helpers background) lanes lanes' l (subst (λ (x : List ℕ). AreOf (IsBack riding s m queues numbers) x lanes) busy_is were.back) split

pub back-next : (riding : Bool) (table : TableId) (ring : RingId) (m : MarkSet) (s : Start) (queues : List (List Event)) (numbers : List (List ℕ)) (background p : ℕ) (lanes lanes' : List Lane) (stay procs procs' : List Cache) (given given' : LentLists) (l : Lane) (t' : Turn) (d e : Hand)
    → MayStart table ring m s → AreStillOut riding s m queues numbers background p lanes stay procs given d → p < length s.procs.value.items → (length (get_or queues p []) == 0) ≡ false → lanes ≡ lanes' ++ l ∷ []
    → l.refused ≡ false → l.task ≡ Allocate t' → IsTakenIn l.hand d e → procs' ≡ procs ++ t'.proc ∷ [] → given'.answers.items ≡ set given.answers.items p t'.answers → given'.sampled.items ≡ set given.sampled.items p t'.sampled
    → AreStillOut riding s m queues numbers background (p + 1) lanes' stay procs' given' e
back-next riding table ring m s queues numbers background p lanes lanes' stay procs procs' given given' l t' d e starts were low some split held task taken grown answers sampled =
    let olds = s.procs.value.items in
    let k = length olds - (p + 1) in
    let n : length olds - p ≡ suc k = omega arith in
    let is = busy-some queues k p some in
    let next = next-back riding m s queues numbers background p lanes lanes' stay procs given l d were low some split in
    let busy_is : busy queues (length olds - p) p ++ helpers background ≡ p ∷ (busy queues k (p + 1) ++ helpers background) = ap (λ (x : ℕ). busy queues x p ++ helpers background) n ∙ ap (λ (x : List ℕ). x ++ helpers background) is.0 in
    let outs : HasOut s.driver.value (p ∷ (busy queues k (p + 1) ++ helpers background)) d = subst (λ (x : List ℕ). HasOut s.driver.value x d) busy_is were.outs in
    let both = taken-back riding table ring m s queues numbers p (busy queues k (p + 1) ++ helpers background) procs procs' given given' l t' d e starts were.taken outs low next.0 held task taken grown answers sampled in
    record {
      outs = both.1;
      back = next.1;
      stays = subst (λ (x : List ℕ). AreOf (λ (i : ℕ) (c : Cache). c ≡ get_or olds i no_cache) x stay) (ap (λ (x : ℕ). resting queues x p) n ∙ is.1) were.stays;
      taken = both.0;
    }

-- what was done by a processor's task is a processor's
pub back-task : (riding : Bool) (s : Start) (m : MarkSet) (queues : List (List Event)) (numbers : List (List ℕ)) (p : ℕ) (l : Lane) → IsBack riding s m queues numbers p l → p < length s.procs.value.items → l.refused ≡ false → (t' : Turn) × (l.task ≡ Allocate t')
back-task riding s m queues numbers p l back low held = go back.before.task back.sent.task (back.ran held)
  where
    go : (task : Task) → IsTaskOf s p task → DoesTask riding m queues numbers back.before.hand l.hand task l.task → (t' : Turn) × (l.task ≡ Allocate t')
    go (Allocate t) is did = (did.0, did.1)
    go (Sweep n) is did = absurd (omega arith)
    go Scavenge is did = absurd (omega arith)

-- and may be taken in
pub back-joins : (riding : Bool) (table : TableId) (ring : RingId) (m : MarkSet) (s : Start) (queues : List (List Event)) (numbers : List (List ℕ)) (p i : ℕ) (procs : List Cache) (given : LentLists) (l : Lane) (d : Hand) → MayStart table ring m s → HasTaken riding s m queues numbers p procs given d
    → IsBack riding s m queues numbers i l → l.refused ≡ false → MayJoin table ring d l.hand
back-joins riding table ring m s queues numbers p i procs given l d starts were back held =
    go back.before.task back.sent.bare (back.ran held)
  where
    go : (task : Task) → IsBare task back.before.hand.worker.caching → DoesTask riding m queues numbers back.before.hand l.hand task l.task → MayJoin table ring d l.hand
    go (Allocate t) bare did = (let a = did.2 in may-join _ table ring m _ s.driver.value d back.before.hand l.hand i starts.works.works.0 starts.works.counts.ring (ap (λ (x : Standing). x.view.cycle) were.counts.tally) back.sent.out a.acted a.counts a.settled)
    go (Sweep n) bare did = may-join _ table ring m _ s.driver.value d back.before.hand l.hand i starts.works.works.0 starts.works.counts.ring (ap (λ (x : Standing). x.view.cycle) were.counts.tally) back.sent.out did.acted did.counts (inl (did.acted.caching ∙ bare))
    go Scavenge bare did = may-join _ table ring m _ s.driver.value d back.before.hand l.hand i starts.works.works.0 starts.works.counts.ring (ap (λ (x : Standing). x.view.cycle) were.counts.tally) back.sent.out did.acted did.counts (inl (did.acted.caching ∙ bare))

-- there is one to be taken from either list
pub some-rest : (riding : Bool) (m : MarkSet) (s : Start) (queues : List (List Event)) (numbers : List (List ℕ)) (background p : ℕ) (lanes : List Lane) (stay procs : List Cache) (given : LentLists) (d : Hand)
    → AreStillOut riding s m queues numbers background p lanes stay procs given d → p < length s.procs.value.items → (length (get_or queues p []) == 0) ≡ true → 0 < length stay
some-rest riding m s queues numbers background p lanes stay procs given d were low none =
    let olds = s.procs.value.items in
    let k = length olds - (p + 1) in
    let e : length olds - p ≡ suc k = omega arith in
    let rest_is : resting queues (length olds - p) p ≡ p ∷ resting queues k (p + 1) = ap (λ (n : ℕ). resting queues n p) e ∙ (busy-none queues k p none).1 in
    let Q : ℕ → Cache → Type 0 = λ (i : ℕ) (x : Cache). x ≡ get_or olds i no_cache in
    of-some Q p (resting queues k (p + 1)) stay (subst (λ (l : List ℕ). AreOf Q l stay) rest_is were.stays)

pub some-back : (riding : Bool) (m : MarkSet) (s : Start) (queues : List (List Event)) (numbers : List (List ℕ)) (background p : ℕ) (lanes : List Lane) (stay procs : List Cache) (given : LentLists) (d : Hand)
    → AreStillOut riding s m queues numbers background p lanes stay procs given d → p < length s.procs.value.items → (length (get_or queues p []) == 0) ≡ false → 0 < length lanes
some-back riding m s queues numbers background p lanes stay procs given d were low some =
    let olds = s.procs.value.items in
    let k = length olds - (p + 1) in
    let e : length olds - p ≡ suc k = omega arith in
    let busy_is : busy queues (length olds - p) p ++ helpers background ≡ p ∷ (busy queues k (p + 1) ++ helpers background) =
    ap (λ (n : ℕ). busy queues n p ++ helpers background) e ∙ ap (λ (x : List ℕ). x ++ helpers background) (busy-some queues k p some).0 in
    of-some (IsBack riding s m queues numbers) p (busy queues k (p + 1) ++ helpers background) lanes (subst (λ (x : List ℕ). AreOf (IsBack riding s m queues numbers) x lanes) busy_is were.back)
