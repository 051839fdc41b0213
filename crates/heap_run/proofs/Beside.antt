-- The driver as the first worker has gone out, and as the last one is back.
use Rattle.std.proofs.Common.{◌≡◌, ℕ, ◌+◌, ◌-◌, ◌<◌, ◌≤◌, Bool, List, [], ◌++◌, drop, map, reverse, take, length, get_or, refl, sym, ◌∙◌, ap, arith, inl, inr, subst}
use Rattle.std.proofs.lemmas.Bool.{cases_lt}
use Rattle.std.proofs.lemmas.List.{get_or_past}
use Rattle.atomic_table.specs.Seated.{TableId}
use Rattle.span_state.specs.MarkSet.{MarkSet}
use Rattle.trace_reader.specs.declared.trace.Event.{Event}
use Rattle.cycle_history.specs.declared.Answer.{Answer}
use Rattle.worker_log.specs.Logs.{sweepings}
use Rattle.profile_cycle.specs.History.{RingId, Standing}
use Rattle.sample_laws.specs.Counted.{all_counts}
use Rattle.span_laws.specs.Asks.{IsIdle}
use Rattle.span_laws.specs.TakeAnswers.{cycle_at}
use Rattle.span_laws.specs.Views.{Seen}
use Rattle.span_laws.specs.declared.view.Part.{Part}
use Rattle.span_set.specs.declared.hand.Hand.{Hand}
use Rattle.proc_cache.specs.Cache.{Cache}
use Rattle.heap_run.specs.Counts.{Counts, HaveSampled, HaveSampledTo}
use Rattle.heap_run.specs.Gains.{HasKept, HaveKept, gains}
use Rattle.heap_run.specs.Out.{AreOf, AreSent, AreStillOut, HasLent, HasOut, HasSent, HasTaken, IsBack, IsSent, MayStart, RisesFrom, at_home, busy, helpers}
use Rattle.heap_run.specs.Lanes.{HasDone}
use Rattle.heap_run.specs.Parts.{IsSameRun, part_at}
use Rattle.heap_run.specs.Swept.{Made, note_at}
use Rattle.heap_run.specs.Riding.{HaveRidden}
use Rattle.heap_run.specs.Turns.{HaveAnswered, IsCaching, IsCollecting, IsDriving, SaysNone, no_cache}
use Rattle.heap_run.specs.declared.cycle.LentLists.{LentLists}
use Rattle.heap_run.specs.declared.lanes.Lane.{Lane}
use Rattle.heap_run.specs.declared.going_out.Start.{Start}
use Rattle.heap_run.proofs.Counting.{counts-as, counts-none, counts-same}
use Rattle.heap_run.proofs.Driving.{answered-all, answered-none}
use Rattle.heap_run.proofs.Gains.{gains-all, kept-none}
use Rattle.heap_run.proofs.Riding.{ridden-all}
use Rattle.heap_run.proofs.Sampling.{sampled-all, sampled-none}
use Rattle.heap_run.proofs.Stacks.{all-these, of-each, rises-busy, rises-helpers, rises-low}
use Rattle.heap_run.proofs.Taken.{whole-end}

-- ---- another driver with the same parts

driving-as : (start : Seen) (procs : List Cache) (a b : Hand) → IsDriving start procs a → b.worker.number ≡ 69 → IsSameRun start b.worker → ((i : ℕ) → part_at b.worker i ≡ part_at a.worker i) → IsDriving start procs b
driving-as start procs a b was number same parts = record {
  number = number;
  same = same;
  idle = λ i. subst IsIdle (sym (parts i)) (was.idle i);
  numbers = was.numbers;
  caching = λ i low. subst (λ (h : Part). IsCaching start.view.generation h (get_or procs i no_cache)) (sym (parts i)) (was.caching i low);
  uncached = λ i high. ap (λ (h : Part). h.cached) (parts i) ∙ was.uncached i high;
}

collecting-as : (a b : Hand) → IsCollecting a → b.worker.view.generation ≡ a.worker.view.generation → b.notes.items ≡ a.notes.items → ((i : ℕ) → part_at b.worker i ≡ part_at a.worker i) → IsCollecting b
collecting-as a b was generation notes parts = record {
  made = was.made;
  told = notes ∙ was.told ∙ ap (λ (g : ℕ). reverse (map (λ (x : Made). note_at (cycle_at g) x.sweep) was.made)) (sym generation);
  each = λ w. was.each w ∙ ap (λ (h : Part). sweepings h.log) (sym (parts w));
}

-- ---- all are out

sent-part : (start d : Hand) (is : List ℕ) → HasSent start is d → (i : ℕ) → part_at d.worker i ≡ part_at start.worker i
sent-part start d is sent i = ap (λ (w : Seen). part_at w i) sent.worker

pub sent-outs : (start d : Hand) (is : List ℕ) → HasSent start is d → RisesFrom 0 is → HasOut start is d
sent-outs start d is sent rises = record {
  rises = rises;
  away = ap (λ (w : Seen). w.away) sent.worker;
  out = ap (λ (s : Standing). s.view.out) sent.tally;
  parts = all-these (λ (i : ℕ). part_at d.worker i ≡ part_at start.worker i) is (sent-part start d is sent);
}

pub sent-taken : (riding : Bool) (table : TableId) (ring : RingId) (m : MarkSet) (s : Start) (queues : List (List Event)) (numbers : List (List ℕ)) (is : List ℕ) (procs : List Cache) (given : LentLists) (d : Hand)
    → MayStart table ring m s → HasSent s.driver.value is d → HasLent s queues given → procs ≡ [] → HasTaken riding s m queues numbers 0 procs given d
sent-taken riding table ring m s queues numbers is procs given d starts sent lists none =
    let start = s.driver.value in
    let parts = sent-part start d is sent in
    let worker = sent.worker in
    let old : List Cache = s.procs.value.items in
    let all : old ≡ procs ++ drop 0 old = ap (λ (l : List Cache). l ++ old) (sym none) in
    let tally : (at_home start d).tally ≡ start.tally = ap (λ (t : Standing). record t { view = record t.view { out = start.tally.view.out } }) sent.tally in
    record {
      long = ap (λ (l : List Cache). length l) none;
      driving = subst (λ (l : List Cache). IsDriving start.worker l (at_home start d)) all
          (driving-as start.worker old start (at_home start d) starts.driving (ap (λ (w : Seen). w.number) worker ∙ starts.driving.number) (record {
            away = refl;
            table = ap (λ (w : Seen). w.table) worker;
            caching = ap (λ (w : Seen). w.caching) worker;
            parts = ap (λ (w : Seen). length w.view.parts) worker;
            region = ap (λ (w : Seen). w.view.region) worker;
            goal = ap (λ (w : Seen). w.view.goal) worker;
            procs = ap (λ (w : Seen). w.view.procs) worker;
            generation = ap (λ (w : Seen). w.view.generation) worker;
            marks = ap (λ (w : Seen). w.view.marks) worker;
            before = ap (λ (w : Seen). w.view.before) worker;
            carried = ap (λ (w : Seen). w.view.carried) worker;
          }) parts);
      collecting = collecting-as start (at_home start d) starts.collecting (ap (λ (w : Seen). w.view.generation) worker) sent.notes parts;
      lists = lists.lists;
      lists_too = lists.lists_too;
      rest = λ w high. lists.rest w;
      rest_too = λ w high. lists.rest_too w;
      kept = λ w low. absurd (omega arith);
      kept_too = λ w low. absurd (omega arith);
      answered = answered-none riding queues (at_home start d).worker (λ w. subst (λ (h : Part). SaysNone h.log) (sym (parts w)) (starts.quiet w));
      riders = λ w low. absurd (omega arith);
      sampled_are = subst (λ (l : List Cache). HaveSampledTo riding queues 0 [] [] old l) all (sampled-none riding queues old);
      counts = counts-same m _ _ start (at_home start d) (counts-none m start (at_home start d) sent.notes tally) (λ b. refl);
    }

-- ---- all are back

pub end-driving : (riding : Bool) (table : TableId) (ring : RingId) (m : MarkSet) (s : Start) (queues : List (List Event)) (numbers : List (List ℕ)) (procs : List Cache) (given : LentLists) (d : Hand)
    → HasTaken riding s m queues numbers (length s.procs.value.items) procs given d → HasOut s.driver.value [] d → IsDriving s.driver.value.worker procs d
end-driving riding table ring m s queues numbers procs given d were outs =
    let start = s.driver.value in
    let old = s.procs.value.items in
    let home = subst (λ (l : List Cache). IsDriving start.worker l (at_home start d)) (whole-end procs old (length old) (omega arith)) were.driving in
    driving-as start.worker procs (at_home start d) d home home.number (record {
      away = outs.away;
      table = home.same.table;
      caching = home.same.caching;
      parts = home.same.parts;
      region = home.same.region;
      goal = home.same.goal;
      procs = home.same.procs;
      generation = home.same.generation;
      marks = home.same.marks;
      before = home.same.before;
      carried = home.same.carried;
    }) (λ i. refl)

pub end-answered : (riding : Bool) (s : Start) (m : MarkSet) (queues : List (List Event)) (numbers : List (List ℕ)) (procs : List Cache) (given : LentLists) (d : Hand) → length queues ≡ length s.procs.value.items → length s.given.value.answers.items ≡ length s.procs.value.items
    → HasTaken riding s m queues numbers (length s.procs.value.items) procs given d → HaveAnswered riding queues (gains s.given.value.answers.items given.answers.items) d.worker
end-answered riding s m queues numbers procs given d count lists were =
    let n = length s.procs.value.items in
    let all = gains-all s.given.value.answers.items given.answers.items n (omega arith) were.lists in
    subst (λ (l : List (List Answer)). HaveAnswered riding queues l d.worker) all (answered-all riding queues n (take n (gains s.given.value.answers.items given.answers.items)) (at_home s.driver.value d).worker (omega arith) were.answered)

pub end-riders : (riding : Bool) (s : Start) (m : MarkSet) (queues : List (List Event)) (numbers : List (List ℕ)) (procs : List Cache) (given : LentLists) (d : Hand) → length queues ≡ length s.procs.value.items → length s.given.value.answers.items ≡ length s.procs.value.items
    → HasTaken riding s m queues numbers (length s.procs.value.items) procs given d → HaveRidden riding queues (gains s.given.value.answers.items given.answers.items)
end-riders riding s m queues numbers procs given d count lists were =
    let n = length s.procs.value.items in
    let all = gains-all s.given.value.answers.items given.answers.items n (omega arith) were.lists in
    subst (λ (l : List (List Answer)). HaveRidden riding queues l) all (ridden-all riding queues n (take n (gains s.given.value.answers.items given.answers.items)) (omega arith) (let a = were.answered.size in omega arith) were.riders)

pub end-sampled : (riding : Bool) (s : Start) (m : MarkSet) (queues : List (List Event)) (numbers : List (List ℕ)) (procs : List Cache) (given : LentLists) (d : Hand) → length s.given.value.answers.items ≡ length s.procs.value.items → length s.given.value.sampled.items ≡ length s.procs.value.items
    → HasTaken riding s m queues numbers (length s.procs.value.items) procs given d
    → HaveSampled riding queues (gains s.given.value.answers.items given.answers.items) (gains s.given.value.sampled.items given.sampled.items) s.procs.value.items procs
end-sampled riding s m queues numbers procs given d lists lists_too were =
    let old = s.procs.value.items in
    let n = length old in
    let all = gains-all s.given.value.answers.items given.answers.items n (omega arith) were.lists in
    let all_too = gains-all s.given.value.sampled.items given.sampled.items n (omega arith) were.lists_too in
    let ended = subst (λ (l : List Cache). HaveSampledTo riding queues n (take n (gains s.given.value.answers.items given.answers.items)) (take n (gains s.given.value.sampled.items given.sampled.items)) old l) (whole-end procs old n (omega arith)) were.sampled_are in
    rw (all, all_too) at (sampled-all riding queues n (take n (gains s.given.value.answers.items given.answers.items)) (take n (gains s.given.value.sampled.items given.sampled.items)) old procs (omega arith) ended)

pub end-counts : (riding : Bool) (s : Start) (m : MarkSet) (queues : List (List Event)) (numbers : List (List ℕ)) (procs : List Cache) (given : LentLists) (d : Hand) → length s.given.value.sampled.items ≡ length s.procs.value.items → HasTaken riding s m queues numbers (length s.procs.value.items) procs given d → HasOut s.driver.value [] d
    → Counts m (all_counts (length s.procs.value.items) (gains s.given.value.sampled.items given.sampled.items) numbers) s.driver.value d
end-counts riding s m queues numbers procs given d lists_too were outs =
    let start = s.driver.value in
    let n = length s.procs.value.items in
    let all_too = gains-all s.given.value.sampled.items given.sampled.items n (omega arith) were.lists_too in
    let out : d.tally.view.out ≡ start.tally.view.out = (let o = outs.out in omega arith) in
    let tally : d.tally ≡ (at_home start d).tally = ap (λ (k : ℕ). record d.tally { view = record d.tally.view { out = k } }) out in
    let counted = counts-as m _ start (at_home start d) start d were.counts refl refl refl tally in
    rw all_too at counted

pub end-kept : {X : Type 0} (n : ℕ) (was now : List (List X)) → length was ≡ n → length now ≡ length was → ((w : ℕ) → w < n → HasKept (get_or was w []) (get_or now w [])) → HaveKept was now
end-kept n was now long same kept w = elim (cases_lt w n) [
  | inl low ↦ kept w low
  | inr high ↦ (
      let a : get_or was w [] ≡ [] = get_or_past was w [] (omega arith) in
      let b : get_or now w [] ≡ [] = get_or_past now w [] (omega arith) in
      kept-none (get_or was w []) (get_or now w []) (b ∙ sym a))
]

-- ---- from those that are out to those that are back

pub still-all : (riding : Bool) (table : TableId) (ring : RingId) (m : MarkSet) (s : Start) (queues : List (List Event)) (numbers : List (List ℕ)) (background : ℕ) (lanes lanes' : List Lane) (stay procs : List Cache) (given : LentLists) (d : Hand)
    → MayStart table ring m s → background ≤ 4 → AreSent s queues background 0 lanes stay procs given d → length lanes' ≡ length lanes → ((k : ℕ) (x : Lane) → k < length lanes → HasDone riding m queues numbers (get_or lanes k x) (get_or lanes' k x))
    → AreStillOut riding s m queues numbers background 0 lanes' stay procs given d
still-all riding table ring m s queues numbers background lanes lanes' stay procs given d starts few sent same each =
    let n = length s.procs.value.items in
    let is = busy queues (n - 0) 0 ++ helpers background in
    let most = starts.few in
    let high : RisesFrom (0 + (n - 0)) (helpers background) = rises-low (0 + (n - 0)) 64 (helpers background) (omega arith) (rises-helpers background few) in
    record {
      outs = sent-outs s.driver.value d is sent.sent (rises-busy queues (n - 0) 0 (helpers background) high);
      back = of-each (IsSent s) (IsBack riding s m queues numbers) (HasDone riding m queues numbers) is lanes lanes' sent.went same each (λ i l l' out ran. record { before = l; sent = out; ran = ran });
      stays = sent.stays;
      taken = sent-taken riding table ring m s queues numbers is procs given d starts sent.sent sent.lent sent.long;
    }

pub end-outs : (riding : Bool) (m : MarkSet) (s : Start) (queues : List (List Event)) (numbers : List (List ℕ)) (background : ℕ) (lanes : List Lane) (stay procs : List Cache) (given : LentLists) (d : Hand)
    → AreStillOut riding s m queues numbers background (length s.procs.value.items) lanes stay procs given d → HasOut s.driver.value (helpers background) d × AreOf (IsBack riding s m queues numbers) (helpers background) lanes
end-outs riding m s queues numbers background lanes stay procs given d were =
    let n = length s.procs.value.items in
    let none : busy queues (n - n) n ++ helpers background ≡ helpers background = ap (λ (k : ℕ). busy queues k n ++ helpers background) (let z : n - n ≡ 0 = omega arith in z) in (
      subst (λ (is : List ℕ). HasOut s.driver.value is d) none were.outs,
      subst (λ (is : List ℕ). AreOf (IsBack riding s m queues numbers) is lanes) none were.back,
    )
