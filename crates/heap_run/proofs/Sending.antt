-- The driver as workers go out.
use Rattle.std.proofs.Common.{◌≡◌, ◌≢◌, ℕ, suc, ◌+◌, ◌-◌, ◌<◌, ◌≤◌, Bool, true, false, All, List, [], ◌∷◌, ◌++◌, set, length, get_or, refl, sym, ◌∙◌, ap, arith, subst, None}
use Rattle.std.proofs.lemmas.List.{append-nil, get_or-set_other, length-append, length-set, take_all}
use Rattle.atomic_table.specs.Seated.{TableId}
use Rattle.page_bitmap.specs.declared.line.Line.{Line}
use Rattle.std.specs.Prelude.{Option, ◌==◌, ◌^◌}
use Rattle.span_state.specs.MarkSet.{MarkSet}
use Rattle.trace_reader.specs.declared.trace.Event.{Event}
use Rattle.cycle_history.specs.declared.Answer.{Answer}
use Rattle.profile_cycle.specs.History.{RingId, Standing, lent, split_off}
use Rattle.sweep_laws.specs.Lists.{has}
use Rattle.span_set.specs.Asks.{WorksBy}
use Rattle.span_laws.specs.Handed.{handing}
use Rattle.span_laws.specs.Views.{Seen}
use Rattle.span_set.specs.declared.hand.Hand.{Hand}
use Rattle.proc_cache.specs.Cache.{Cache}
use Rattle.heap_run.specs.Counts.{HaveBuckets, IsOut}
use Rattle.heap_run.specs.Lanes.{IsReady, MayDo}
use Rattle.heap_run.specs.Out.{AreAsked, AreOf, AreSent, HasLent, HasSent, IsSent, IsTaskOf, MayStart, RisesFrom, busy, helpers, resting, rising}
use Rattle.heap_run.specs.Parts.{goes_out, part_at}
use Rattle.heap_run.specs.Turns.{IsCaching, IsCollecting, IsDriving, SaysNone, no_cache}
use Rattle.heap_run.specs.declared.cycle.LentLists.{LentLists}
use Rattle.heap_run.specs.declared.lanes.Lane.{Lane}
use Rattle.heap_run.specs.declared.lanes.Task.{Task}
use Rattle.heap_run.specs.declared.lanes.Task.TheVariants.{Allocate, Sweep, Scavenge}
use Rattle.heap_run.specs.declared.lanes.Turn.{Turn}
use Rattle.heap_run.specs.declared.going_out.Start.{Start}
use Rattle.heap_run.proofs.Acted.{HandsOut, out-caching, out-idle}
use Rattle.heap_run.proofs.Working.{out-works}
use Rattle.heap_run.proofs.Stacks.{busy-none, busy-some, last-taken, of-all, of-length, of-push, rises-not}

-- ---- the driver

-- nobody went out yet
pub sent-none : (d : Hand) → HasSent d [] d
sent-none d = record { worker = refl; notes = refl; tally = ap (λ (n : ℕ). record d.tally { view = record d.tally.view { out = n } }) (let e : d.tally.view.out ≡ d.tally.view.out + length {A = ℕ} [] = omega arith in e) }

pub first-sent : (s : Start) (d : Hand) → d ≡ s.driver.value → HasSent s.driver.value [] d
first-sent s d is = subst (λ (x : Hand). HasSent s.driver.value [] x) (sym is) (sent-none s.driver.value)

-- one worker more
pub sent-more : (start d e : Hand) (is : List ℕ) (i : ℕ) → HasSent start is d → e.worker ≡ handing i d.worker → e.notes ≡ d.notes → e.tally ≡ record d.tally { view = lent d.tally.view } → HasSent start (i ∷ is) e
sent-more start d e is i were worker notes tally =
    let now : e.worker ≡ record start.worker { away = (i ∷ is) ++ start.worker.away; journal = None } = worker ∙ ap (λ (w : Seen). handing i w) were.worker in
    let none : e.worker.journal ≡ None = ap (λ (w : Seen). w.journal) now in
    let more : start.tally.view.out + length is + 1 ≡ start.tally.view.out + length (i ∷ is) = omega arith in
    record {
      worker = now ∙ ap (λ (j : Option (List Line)). record start.worker { away = (i ∷ is) ++ start.worker.away; journal = j }) (sym none);
      notes = ap (λ r. r.items) notes ∙ were.notes;
      tally = tally ∙ ap (λ (s : Standing). record s { view = lent s.view }) were.tally
          ∙ ap (λ (n : ℕ). record start.tally { view = record start.tally.view { out = n } }) more;
    }

-- who goes out of the driver's hands now goes as at the start
pub sent-out : (start d h : Hand) (is : List ℕ) (i : ℕ) → HasSent start is d → IsOut i d h → IsOut i start h
sent-out start d h is i were out = record {
  worker = out.worker ∙ ap (λ (w : Seen). goes_out h.worker.caching i w) were.worker;
  notes = out.notes;
  tally = out.tally ∙ ap (λ (s : Standing). record s { view = split_off s.view }) were.tally;
}

-- a number below all that are out is not out
pub sent-home : (start d : Hand) (is : List ℕ) (i q : ℕ) → HasSent start is d → start.worker.away ≡ [] → i < q → RisesFrom q is → has i d.worker.away ≡ false
sent-home start d is i q were none lt rises =
    let away : d.worker.away ≡ is = ap (λ (w : Seen). w.away) were.worker ∙ ap (λ (l : List ℕ). is ++ l) none ∙ append-nil is in
    rw away (rises-not i q is lt rises)

pub sent-table : (start d : Hand) (is : List ℕ) → HasSent start is d → d.worker.table ≡ start.worker.table
sent-table start d is were = ap (λ (w : Seen). w.table) were.worker

pub sent-number : (start d : Hand) (is : List ℕ) → HasSent start is d → d.worker.number ≡ start.worker.number
sent-number start d is were = ap (λ (w : Seen). w.number) were.worker

pub sent-parts : (start d : Hand) (is : List ℕ) → HasSent start is d → length d.worker.view.parts ≡ length start.worker.view.parts
sent-parts start d is were = ap (λ (w : Seen). length w.view.parts) were.worker

pub sent-procs : (start d : Hand) (is : List ℕ) → HasSent start is d → d.worker.view.procs ≡ start.worker.view.procs
sent-procs start d is were = ap (λ (w : Seen). w.view.procs) were.worker

pub sent-ring : (start d : Hand) (is : List ℕ) → HasSent start is d → d.tally.ring ≡ start.tally.ring
sent-ring start d is were = ap (λ (s : Standing). s.ring) were.tally

pub sent-drives : (start d : Hand) (is : List ℕ) → HasSent start is d → d.tally.view.drives ≡ start.tally.view.drives
sent-drives start d is were = ap (λ (s : Standing). s.view.drives) were.tally

-- ---- the lists

pub lent-none : (s : Start) (queues : List (List Event)) → HasLent s queues s.given.value
lent-none s queues = record { lists = refl; lists_too = refl; rest = λ w none. refl; rest_too = λ w none. refl }

-- a processor with an event takes its lists along
pub lent-more : (s : Start) (queues : List (List Event)) (old new : LentLists) (p : ℕ) → HasLent s queues old → (get_or queues p [] ≡ [] → ⊥) → new.answers.items ≡ set old.answers.items p [] → new.sampled.items ≡ set old.sampled.items p [] → HasLent s queues new
lent-more s queues old new p were some answers sampled = record {
  lists = ap (λ (l : List (List _)). length l) answers ∙ length-set old.answers.items p [] ∙ were.lists;
  lists_too = ap (λ (l : List (List Bool)). length l) sampled ∙ length-set old.sampled.items p [] ∙ were.lists_too;
  rest = λ w none. (let other : w ≢ p = λ e. some (ap (λ (k : ℕ). get_or queues k []) (sym e) ∙ none) in
      ap (λ (l : List (List _)). get_or l w []) answers ∙ get_or-set_other old.answers.items p w [] [] other ∙ were.rest w none);
  rest_too = λ w none. (let other : w ≢ p = λ e. some (ap (λ (k : ℕ). get_or queues k []) (sym e) ∙ none) in
      ap (λ (l : List (List Bool)). get_or l w []) sampled ∙ get_or-set_other old.sampled.items p w [] [] other ∙ were.rest_too w none);
}

-- ---- a worker that is out

-- it goes out of the driver's hands
pub sent-hands : (table : TableId) (ring : RingId) (m : MarkSet) (s : Start) (i : ℕ) (l : Lane) → MayStart table ring m s → IsSent s i l → HandsOut i s.driver.value l.hand
sent-hands table ring m s i l starts sent = record { number = starts.driving.number; parts = starts.parts; low = sent.low; out = sent.out.worker; none = sent.out.notes }

-- and may do its task
pub sent-ready : (table : TableId) (ring : RingId) (m : MarkSet) (queues : List (List Event)) (numbers : List (List ℕ)) (s : Start) (i : ℕ) (l : Lane) → MayStart table ring m s → AreAsked ring.buckets queues numbers s → IsSent s i l → IsReady table ring m queues numbers l
sent-ready table ring m queues numbers s i l starts asked sent =
    let o = sent-hands table ring m s i l starts sent in
    record {
      works = out-works table ring m i _ s.driver.value l.hand o sent.out starts.works;
      idle = out-idle i s.driver.value l.hand o (starts.driving.idle i);
      may = may l.task sent.task;
    }
  where
    may : (task : Task) → IsTaskOf s i task → MayDo l.hand.worker.view.generation l.hand.worker.view.own ring.buckets queues numbers task
    may (Sweep n) t = tt
    may Scavenge t = tt
    may (Allocate turn) t =
        let o = sent-hands table ring m s i l starts sent in
        let mine : IsCaching s.driver.value.worker.view.generation (part_at s.driver.value.worker i) turn.proc =
        subst (λ (c : Cache). IsCaching s.driver.value.worker.view.generation (part_at s.driver.value.worker i) c) (sym t.1) (starts.driving.caching i t.0) in
        let number : turn.proc.number ≡ i = ap (λ (c : Cache). c.number) t.1 ∙ starts.driving.numbers i t.0 in
        record {
          caching = out-caching i s.driver.value l.hand turn.proc o mine;
          queued = (let low = t.0 in let n = asked.count in omega arith);
          numbered = (let low = t.0 in let n = asked.buckets in omega arith);
          sizes = rw number (asked.sizes i);
          as_many = asked.numbered.sizes turn.proc.number;
          known = asked.numbered.below turn.proc.number;
        }

-- ---- the processors

-- none of them went out yet
pub sent-all : (s : Start) (queues : List (List Event)) (background p : ℕ) (procs : List Cache) (given : LentLists) (d : Hand) (lanes : List Lane) (stay : List Cache) → stay ≡ [] → procs ≡ s.procs.value.items → given ≡ s.given.value → p ≡ length s.procs.value.items
    → HasSent s.driver.value (helpers background) d → AreOf (IsSent s) (helpers background) lanes → AreSent s queues background p lanes stay procs given d
sent-all s queues background p procs given d lanes stay empty is lists all sent went =
    let none : length s.procs.value.items - p ≡ 0 = omega arith in
    record {
      long = is ∙ sym (take_all p s.procs.value.items (omega arith));
      sent = rw none sent;
      went = rw none went;
      stays = rw none empty;
      lent = subst (λ (g : LentLists). HasLent s queues g) (sym lists) (lent-none s queues);
      early = λ w low. ap (λ (g : LentLists). get_or g.answers.items w []) lists;
      early_too = λ w low. ap (λ (g : LentLists). get_or g.sampled.items w []) lists;
    }

-- one of them stays for want of an event
pub stays-one : (s : Start) (queues : List (List Event)) (background p q : ℕ) (lanes : List Lane) (stay stay' procs procs' : List Cache) (given : LentLists) (d : Hand) (c : Cache) → AreSent s queues background q lanes stay procs given d → p + 1 ≡ q → p < length s.procs.value.items
    → procs ≡ procs' ++ c ∷ [] → (length (get_or queues p []) == 0) ≡ true → stay' ≡ stay ++ c ∷ [] → AreSent s queues background p lanes stay' procs' given d
stays-one s queues background p q lanes stay stay' procs procs' given d c were next low split none grown =
    let olds = s.procs.value.items in
    let last = last-taken olds procs procs' p q c no_cache were.long (omega arith) next split in
    let k = length olds - q in
    let e : length olds - p ≡ suc k = omega arith in
    let is = busy-none queues k p none in
    let busy_is : busy queues (length olds - p) p ≡ busy queues (length olds - q) q = ap (λ (n : ℕ). busy queues n p) e ∙ is.0 ∙ ap (λ (n : ℕ). busy queues k n) next in
    let rest_is : resting queues (length olds - p) p ≡ p ∷ resting queues (length olds - q) q = ap (λ (n : ℕ). resting queues n p) e ∙ is.1 ∙ ap (λ (n : ℕ). p ∷ resting queues k n) next in
    record {
      long = last.0;
      sent = rw busy_is were.sent;
      went = rw busy_is were.went;
      stays = rw rest_is (of-push (λ (i : ℕ) (x : Cache). x ≡ get_or olds i no_cache) p (resting queues (length olds - q) q) stay stay' c were.stays last.1 grown);
      lent = were.lent;
      early = λ w lt. were.early w (omega arith);
      early_too = λ w lt. were.early_too w (omega arith);
    }

-- one of them goes out
pub goes-one : (s : Start) (queues : List (List Event)) (background p q : ℕ) (lanes lanes' : List Lane) (stay procs procs' : List Cache) (given given' : LentLists) (d e h : Hand) (c : Cache) (t : Turn) → AreSent s queues background q lanes stay procs given d → p + 1 ≡ q → p < length s.procs.value.items
    → length s.procs.value.items ≤ 64 → procs ≡ procs' ++ c ∷ [] → (length (get_or queues p []) == 0) ≡ false
    → t ≡ record { proc = c; answers = get_or given.answers.items p []; sampled = get_or given.sampled.items p [] } → given'.answers.items ≡ set given.answers.items p [] → given'.sampled.items ≡ set given.sampled.items p []
    → IsOut p d h → lanes' ≡ lanes ++ record { hand = h; task = Allocate t; refused = false } ∷ [] → e.worker ≡ handing p d.worker → e.notes ≡ d.notes → e.tally ≡ record d.tally { view = lent d.tally.view }
    → AreSent s queues background p lanes' stay procs' given' e
goes-one s queues background p q lanes lanes' stay procs procs' given given' d e h c t were next low few split some turn answers sampled out grown worker notes tally =
    let olds = s.procs.value.items in
    let start = s.driver.value in
    let last = last-taken olds procs procs' p q c no_cache were.long (omega arith) next split in
    let k = length olds - q in
    let m : length olds - p ≡ suc k = omega arith in
    let is = busy-some queues k p some in
    let busy_is : busy queues (length olds - p) p ≡ p ∷ busy queues (length olds - q) q = ap (λ (n : ℕ). busy queues n p) m ∙ is.0 ∙ ap (λ (n : ℕ). p ∷ busy queues k n) next in
    let rest_is : resting queues (length olds - p) p ≡ resting queues (length olds - q) q = ap (λ (n : ℕ). resting queues n p) m ∙ is.1 ∙ ap (λ (n : ℕ). resting queues k n) next in
    let was = busy queues (length olds - q) q ++ helpers background in
    let not_none : get_or queues p [] ≡ [] → ⊥ = λ none. (let z : (length (get_or queues p []) == 0) ≡ true = rw none refl in let f : true ≡ false = sym z ∙ some in cc) in
    let mine : IsSent s p (record { hand = h; task = Allocate t; refused = false }) = record {
      low = omega arith;
      out = sent-out start d h was p were.sent out;
      bare = tt;
      task = (low, ap (λ (x : Turn). x.proc) turn ∙ last.1, ap (λ (x : Turn). x.answers) turn ∙ were.early p (omega arith), ap (λ (x : Turn). x.sampled) turn ∙ were.early_too p (omega arith));
    } in
    record {
      long = last.0;
      sent = rw busy_is (sent-more start d e was p were.sent worker notes tally);
      went = rw busy_is (of-push (IsSent s) p was lanes lanes' (record { hand = h; task = Allocate t; refused = false }) were.went mine grown);
      stays = rw rest_is were.stays;
      lent = lent-more s queues given given' p were.lent not_none answers sampled;
      early = λ w lt. ap (λ (l : List (List Answer)). get_or l w []) answers ∙ get_or-set_other given.answers.items p w [] [] (λ same. omega arith) ∙ were.early w (omega arith);
      early_too = λ w lt. ap (λ (l : List (List Bool)). get_or l w []) sampled ∙ get_or-set_other given.sampled.items p w [] [] (λ same. omega arith) ∙ were.early_too w (omega arith);
    }

-- ---- the start

pub may-start : (table : TableId) (ring : RingId) (m : MarkSet) (s : Start) (d : Hand) (procs : List Cache) (given : LentLists) → s.driver.value ≡ d → s.procs.value.items ≡ procs → s.given.value ≡ given → WorksBy table ring m d
    → length d.worker.view.parts ≡ 70 → length procs ≤ 64 → length given.answers.items ≡ length procs → length given.sampled.items ≡ length procs → IsDriving d.worker procs d → IsCollecting d → d.tally.view.drives ≡ true
    → ((w : ℕ) → SaysNone (part_at d.worker w).log) → MayStart table ring m s
may-start table ring m s d procs given is_d is_p is_g works parts few answers sampled driving collecting drives quiet = record {
  works = rw is_d works;
  parts = rw is_d parts;
  few = rw is_p few;
  answers = rw (is_g, is_p) answers;
  sampled = rw (is_g, is_p) sampled;
  driving = rw (is_d, is_p) driving;
  collecting = rw is_d collecting;
  drives = rw is_d drives;
  quiet = rw is_d quiet;
}

pub are-asked : (bound : ℕ) (queues : List (List Event)) (numbers : List (List ℕ)) (s : Start) (procs : List Cache) → s.procs.value.items ≡ procs → length queues ≡ length procs → length numbers ≡ length procs → HaveBuckets bound queues numbers
    → ((w : ℕ) → All (λ (e : Event). e.size ≤ 2 ^ 40) (get_or queues w [])) → AreAsked bound queues numbers s
are-asked bound queues numbers s procs is count buckets numbered sizes = record { count = rw is count; buckets = rw is buckets; numbered = numbered; sizes = sizes }

-- somebody is out
pub some-sent : (s : Start) (queues : List (List Event)) (background p : ℕ) (lanes : List Lane) (stay procs : List Cache) (given : LentLists) (d : Hand) → AreSent s queues background p lanes stay procs given d → 0 < length lanes
some-sent s queues background p lanes stay procs given d were =
    let is = busy queues (length s.procs.value.items - p) p in
    let a = of-length (IsSent s) (is ++ helpers background) lanes were.went in
    let b = length-append is (helpers background) in
    let c = length-append (rising background 64) (68 ∷ []) in
    omega arith

pub all-ready : (table : TableId) (ring : RingId) (m : MarkSet) (queues : List (List Event)) (numbers : List (List ℕ)) (s : Start) (background p : ℕ) (lanes : List Lane) (stay procs : List Cache) (given : LentLists) (d : Hand) → MayStart table ring m s → AreAsked ring.buckets queues numbers s
    → AreSent s queues background p lanes stay procs given d → All (IsReady table ring m queues numbers) lanes
all-ready table ring m queues numbers s background p lanes stay procs given d starts asked were =
    of-all (IsSent s) (IsReady table ring m queues numbers) (busy queues (length s.procs.value.items - p) p ++ helpers background) lanes were.went (λ i l sent. sent-ready table ring m queues numbers s i l starts asked sent)
