-- A cycle that has ended, with its answers and its notes, goes on with the run.
use Rattle.std.proofs.Common.{◌≡◌, ◌≢◌, ℕ, suc, ◌+◌, ◌<◌, Bool, false, List, [], ◌∷◌, ◌++◌, map, reverse, take, drop, length, get_or, Some, refl, sym, ◌∙◌, ap, arith, inl, inr, subst}
use Rattle.std.specs.List.Sorted.{IsNonDecreasingBy, IsPermutation}
use Rattle.std.proofs.lemmas.List.{length-reverse, length-take-le, map-append, reverse-append, take-append-drop, take_more}
use lib.Seq.{drop-cons}
use Rattle.page_bitmap.specs.declared.line.Line.{Line}
use Rattle.page_alloc.specs.Blocks.{open_blocks}
use Rattle.page_alloc.specs.Journal.{AreAllowed}
use Rattle.page_alloc.specs.Lists.{AllApart, In}
use Rattle.page_alloc.specs.Lives.{Life, open_lives}
use Rattle.span_state.specs.MarkSet.{has_pair}
use Rattle.span_state.specs.declared.sweep.SweepNote.{SweepNote}
use Rattle.trace_reader.specs.declared.trace.Trace.{Trace}
use Rattle.trace_reader.specs.declared.trace.Cycle.{Cycle}
use Rattle.trace_reader.specs.declared.trace.Event.{Event}
use Rattle.trace_reader.specs.Limits.{AreCycles}
use Rattle.cycle_history.specs.declared.Answer.{Answer}
use Rattle.cycle_history.specs.Requests.{Request, marked_by, region_of, requests_from}
use Rattle.cycle_history.specs.Objects.{Object}
use Rattle.cycle_history.specs.Before.{AreObjectsBefore, requests_before}
use Rattle.cycle_history.proofs.Plain.{request_in}
use Rattle.worker_log.specs.declared.Entry.{Entry}
use Rattle.worker_log.specs.declared.Placing.{Placing}
use Rattle.worker_log.specs.declared.Sweeping.{Sweeping}
use Rattle.cycle_history.specs.Sound.{IsScavenged}
use Rattle.cycle_history.specs.Rules.{AreAnswered}
use Rattle.worker_log.specs.Logs.{placings, refusals, sweepings}
use Rattle.run_laws.specs.Asked.{AreAnsweredFrom}
use Rattle.run_laws.specs.CycleSoFar.{CycleSoFar, past_after, with_objects}
use Rattle.run_laws.specs.Known.{known_number}
use Rattle.run_laws.specs.SweepFacts.{Notes}
use Rattle.run_laws.specs.Facts.{Facts, Marks}
use Rattle.run_laws.specs.Reached.{Began, Reached}
use Rattle.run_laws.proofs.Asked.{answered-next, cycles-from, news-last}
use Rattle.run_laws.proofs.Law.{cycle-law}
use Rattle.span_laws.specs.TakeAnswers.{cycle_at}
use Rattle.span_laws.specs.Cycle.{EndsCycle}
use Rattle.span_laws.specs.Views.{Seen}
use Rattle.span_laws.specs.MarkEnds.{allocated_pairs}
use Rattle.heap_run.specs.Parts.{part_at}
use Rattle.heap_run.specs.Served.{Tells, answers_by, events_by}
use Rattle.heap_run.specs.Settled.{HasSettled}
use Rattle.heap_run.specs.Swept.{AreCollected}
use Rattle.heap_run.specs.Turns.{HaveAnswered, SaysAnswers}
use Rattle.heap_run.proofs.Ended.{ended-facts, seated}
use Rattle.heap_run.proofs.Queued.{answers-reverse, events-reverse}
use Rattle.heap_run.proofs.Served.{AreObjects, objects-of}
use Rattle.heap_run.proofs.Sorted.{notes-sorted}

-- objects and notes don't matter to what the shared spans tell
ends-with : (region goal : ℕ) (e : CycleSoFar) (news : List Object) (notes : List SweepNote) → EndsCycle region goal e → EndsCycle region goal (with_objects e news notes)
ends-with region goal e news notes h = record {
  writes = record { legal = h.writes.legal; now = h.writes.now; gives = h.writes.gives };
  by = h.by;
  sweeps = record { each = h.sweeps.each; only = h.sweeps.only; kept = h.sweeps.kept; freed = h.sweeps.freed };
  once = h.once;
  one_sweeper = h.one_sweeper;
  places = record { here = h.places.here; below = h.places.below; unmarked = h.places.unmarked; apart = h.places.apart; one_log = h.places.one_log };
  numbers = h.numbers;
  settled = h.settled;
  holdings = record { from = h.holdings.from; marked = h.holdings.marked; placed = h.holdings.placed; some = h.holdings.some };
  fills = h.fills;
  misses = record { named = h.misses.named; apart = h.misses.apart; one_log = h.misses.one_log };
  took = h.took;
  cut = h.cut;
  marks_open = h.marks_open;
}

pub map-reverse : {X Y : Type 0} (f : X → Y) (xs : List X) → map f (reverse xs) ≡ reverse (map f xs)
map-reverse f [] = refl
map-reverse f (x ∷ xs) =
    ap (λ (l : List _). map f l) (reverse-append (x ∷ []) xs) ∙ map-append f (reverse xs) (x ∷ []) ∙ ap (λ (l : List _). l ++ f x ∷ []) (map-reverse f xs) ∙ sym (reverse-append (f x ∷ []) (map f xs))

-- the logs tell of the answers as they were merged
logs-tell : (events : List Event) (queues : List (List Event)) (given : List (List Answer)) (more : List Answer) (d : Seen) (log : ℕ → List Entry) → HaveAnswered false queues given d → ((w : ℕ) → get_or queues w [] ≡ events_by w events)
    → length more ≡ length events → ((w : ℕ) → answers_by w events more ≡ get_or given w []) → ((w : ℕ) → log w ≡ (part_at d w).log)
    → (w : ℕ) → Tells (log w) (events_by w (reverse events)) (answers_by w (reverse events) (reverse more)) (placings (log w)) (refusals (log w))
logs-tell events queues given more d log answered queue long merged logs w =
    let es : events_by w (reverse events) ≡ reverse (get_or queues w []) = events-reverse w events ∙ ap (λ (l : List Event). reverse l) (sym (queue w)) in
    let ans : answers_by w (reverse events) (reverse more) ≡ reverse (get_or given w []) = answers-reverse w events more long ∙ ap (λ (l : List Answer). reverse l) (merged w) in
    let told : SaysAnswers (reverse (get_or queues w [])) (reverse (get_or given w [])) (log w) = subst (λ (l : List Entry). SaysAnswers (reverse (get_or queues w [])) (reverse (get_or given w [])) l) (sym (logs w)) (answered w) in
    rw (es, ans) told

-- a cycle of the trace, and those before it
split-at : {X : Type 0} (xs : List X) (c : ℕ) (d : X) → c < length xs → xs ≡ take c xs ++ get_or xs c d ∷ drop (suc c) xs
split-at xs c d lt = sym (take-append-drop c xs) ∙ ap (λ (l : List _). take c xs ++ l) (drop-cons xs c d lt)

abbrev OnceIn : List Entry → Type 0
OnceIn l = AllApart (λ (a b : Sweeping). a.page ≢ b.page) (sweepings l)

abbrev SweptIn : Sweeping → List Entry → Type 0
SweptIn a l = In a (sweepings l)

-- All of a cycle that goes on with the run: what a run begins it with, its answers, its notes, and what the driver knows as it ends.
pub record Ends (t : Trace) (c : ℕ) (d : Cycle) (objects : List Object) (answers more : List Answer) (queues : List (List Event)) (given : List (List Answer)) (sweeps collected sorted : List SweepNote) (driver : Seen) : Type 0 where
  pub cycles : AreCycles 0 (λ _. ⊥) t.cycles
  pub inside : c < length t.cycles
  pub region : driver.view.region ≡ region_of t
  pub goal : driver.view.goal ≡ t.header.goal
  pub now : cycle_at driver.view.generation ≡ c
  pub asked : AreObjectsBefore t c answers objects
  pub began : Began (marked_by t) (region_of t) t.header.goal c driver.view.before objects (reverse sweeps) (has_pair driver.view.carried)
  pub marks : (e : CycleSoFar) → e.cycle ≡ c → e.before ≡ driver.view.before → e.marks ≡ has_pair driver.view.marks → Marks (marked_by t) objects e
  pub queued : (w : ℕ) → get_or queues w [] ≡ events_by w (get_or t.cycles c d).events
  pub answered : HaveAnswered false queues given driver
  pub long : length more ≡ length (get_or t.cycles c d).events
  pub merged : (w : ℕ) → answers_by w (get_or t.cycles c d).events more ≡ get_or given w []
  pub collected_are : AreCollected c (λ w. (part_at driver w).log) collected
  pub permutation : IsPermutation collected sorted
  pub rising : IsNonDecreasingBy (λ (n : SweepNote). n.page) sorted
  pub settled : HasSettled driver

-- the run as the cycle ends, with what is new of it
pub record Goes (t : Trace) (c : ℕ) (d : Cycle) (objects : List Object) (answers more : List Answer) (sweeps sorted : List SweepNote) (driver : Seen) : Type 0 where
  pub news : List Object
  pub past : List Line
  pub asked : AreObjectsBefore t (suc c) (answers ++ more) (news ++ objects)
  pub reached : Reached (marked_by t) (region_of t) t.header.goal c past (news ++ objects) (reverse (sweeps ++ sorted)) (has_pair (allocated_pairs driver.number driver.view))
  pub journal : driver.journal ≡ Some past
  pub answered : AreAnsweredFrom (length (requests_before t c)) (map (request_in c) (reverse (get_or t.cycles c d).events)) news
  pub printed : map (λ (o : Object). o.answer) news ≡ reverse more
  pub allowed : AreAllowed driver.view.procs past
  pub settled : open_blocks past ≡ []
  pub e : CycleSoFar
  pub numbers : (w : ℕ) (a : Placing) (life : Life) → In a (placings (e.logs w)) → In life (open_lives (past_after e)) → life.page ≡ a.page → a.number ≡ known_number (past_after e) life.number
  pub cycle : e.cycle ≡ c
  pub before : e.before ≡ driver.view.before
  pub whole : past_after e ≡ past
  pub logs : (w : ℕ) → e.logs w ≡ (part_at driver w).log
  pub news_are : e.news ≡ news
  pub notes_are : e.notes ≡ reverse sorted
  pub facts : Facts (marked_by t) (region_of t) t.header.goal objects e
  pub began : Began (marked_by t) (region_of t) t.header.goal e.cycle e.before objects (reverse sweeps) e.carried

pub goes-on : (t : Trace) (c : ℕ) (d : Cycle) (objects : List Object) (answers more : List Answer) (queues : List (List Event)) (given : List (List Answer)) (sweeps collected sorted : List SweepNote) (driver : Seen)
    → Ends t c d objects answers more queues given sweeps collected sorted driver → Goes t c d objects answers more sweeps sorted driver
goes-on t c d objects answers more queues given sweeps collected sorted driver h =
    let s = h.settled in
    let e0 = s.e in
    let cyc = get_or t.cycles c d in
    let events = cyc.events in
    let done = take c t.cycles in
    let few : length done ≡ c = length-take-le c t.cycles (let lt = h.inside in omega arith) in
    let whole : t.cycles ≡ done ++ cyc ∷ drop (suc c) t.cycles = split-at t.cycles c d h.inside in
    let older = requests_before t c in
    let e_cycle : e0.cycle ≡ c = s.cycle ∙ h.now in
    let long : length (reverse more) ≡ length (reverse events) = (let a = length-reverse more in let b = length-reverse events in let l = h.long in omega arith) in
    let tell = logs-tell events queues given more driver e0.logs h.answered h.queued h.long h.merged s.logs in
    let seat = seated (open_lives (past_after e0)) in
    let made = objects-of seat c (length older) (reverse events) (reverse more) e0.logs (λ w. placings (e0.logs w)) (λ w. refusals (e0.logs w)) long tell in
    let news = made.0 in
    let are : AreObjects seat c (length older) (reverse events) (reverse more) e0.logs (λ w. placings (e0.logs w)) (λ w. refusals (e0.logs w)) news = made.1 in
    let e : CycleSoFar = with_objects e0 news (reverse sorted) in
    let ends : EndsCycle (region_of t) t.header.goal e = ends-with (region_of t) t.header.goal e0 news (reverse sorted) (subst (λ (n : ℕ). EndsCycle n t.header.goal e0) h.region (subst (λ (n : ℕ). EndsCycle driver.view.region n e0) h.goal s.ends)) in
    let are' : AreObjects seat e.cycle (length older) (reverse events) (reverse more) e.logs (λ w. placings (e.logs w)) (λ w. refusals (e.logs w)) e.news =
    subst (λ (n : ℕ). AreObjects seat n (length older) (reverse events) (reverse more) e0.logs (λ w. placings (e0.logs w)) (λ w. refusals (e0.logs w)) news) (sym e_cycle) are in
    let turned : AreAnsweredFrom (length older) (reverse (map (request_in c) events)) news = subst (λ (l : List Request). AreAnsweredFrom (length older) l news) (map-reverse (request_in c) events) are.asked in
    let turned' : AreAnsweredFrom (length (reverse (requests_from 0 done))) (reverse (map (request_in (length done)) events)) news =
    subst (λ (n : ℕ). AreAnsweredFrom (length (reverse (requests_from 0 done))) (reverse (map (request_in n) events)) news) (sym few) turned in
    let of : (o : Object) → In o news → o.cycle ≡ c = λ o i. cycles-from (length older) c (map (request_in c) (reverse events)) news are.asked (λ r j. in-requests c (reverse events) r j) o i in
    let lasts = λ (o : Object) (i : In o news). news-last t done cyc (drop (suc c) t.cycles) news o h.cycles whole turned' (of o i ∙ sym few) i in
    let notes : Notes e = notes-sorted c (λ w. (part_at driver w).log) collected sorted e h.collected_are h.permutation h.rising
    (λ w. subst (λ (l : List Entry). OnceIn l) (s.logs w) (s.ends.once w))
    (λ v w a b ha hb same. s.ends.one_sweeper v w a b (subst (λ (l : List Entry). SweptIn a l) (sym (s.logs v)) ha) (subst (λ (l : List Entry). SweptIn b l) (sym (s.logs w)) hb) same)
    e_cycle s.logs refl in
    let marks : Marks (marked_by t) objects e = h.marks e e_cycle s.before s.marks in
    let scavenged = subst (λ (n : ℕ). IsScavenged n t.header.goal (past_after e0)) h.region (subst (λ (n : ℕ). IsScavenged driver.view.region n (past_after e0)) h.goal s.scavenged) in
    let facts : Facts (marked_by t) (region_of t) t.header.goal objects e =
    ended-facts (marked_by t) (region_of t) t.header.goal older objects (reverse events) (reverse more) e ends are' h.asked.asked lasts notes marks scavenged in
    let began : Began (marked_by t) (region_of t) t.header.goal e.cycle e.before objects (reverse sweeps) e.carried =
    subst (λ (n : ℕ). Began (marked_by t) (region_of t) t.header.goal n e0.before objects (reverse sweeps) e0.carried) (sym e_cycle)
    (subst (λ (l : List Line). Began (marked_by t) (region_of t) t.header.goal c l objects (reverse sweeps) e0.carried) (sym s.before)
    (subst (λ (f : ℕ → ℕ → Bool). Began (marked_by t) (region_of t) t.header.goal c driver.view.before objects (reverse sweeps) f) (sym s.carried) h.began)) in
    let reached : Reached (marked_by t) (region_of t) t.header.goal e0.cycle (past_after e0) (news ++ objects) (reverse sorted ++ reverse sweeps) e0.bits =
    cycle-law (marked_by t) (region_of t) t.header.goal objects (reverse sweeps) e began facts in
    let reached' : Reached (marked_by t) (region_of t) t.header.goal c (past_after e0) (news ++ objects) (reverse (sweeps ++ sorted)) (has_pair (allocated_pairs driver.number driver.view)) =
    subst (λ (n : ℕ). Reached (marked_by t) (region_of t) t.header.goal n (past_after e0) (news ++ objects) (reverse (sweeps ++ sorted)) (has_pair (allocated_pairs driver.number driver.view))) e_cycle
    (subst (λ (l : List SweepNote). Reached (marked_by t) (region_of t) t.header.goal e0.cycle (past_after e0) (news ++ objects) l (has_pair (allocated_pairs driver.number driver.view))) (sym (reverse-append sweeps sorted))
    (subst (λ (f : ℕ → ℕ → Bool). Reached (marked_by t) (region_of t) t.header.goal e0.cycle (past_after e0) (news ++ objects) (reverse sorted ++ reverse sweeps) f) s.bits reached)) in
    let next : take (suc c) t.cycles ≡ done ++ cyc ∷ [] = (let n : c + 1 ≡ suc c = omega arith in ap (λ (k : ℕ). take k t.cycles) (sym n) ∙ take_more t.cycles c d h.inside) in
    record {
      news = news;
      past = past_after e0;
      asked = record {
        asked = subst (λ (l : List Cycle). AreAnswered (reverse (requests_from 0 l)) (news ++ objects)) (sym next) (answered-next done cyc objects news h.asked.asked turned');
        printed = map-append (λ (o : Object). o.answer) news objects ∙ ap (λ (l : List Answer). l ++ map (λ (o : Object). o.answer) objects) are.printed
            ∙ ap (λ (l : List Answer). reverse more ++ l) h.asked.printed ∙ sym (reverse-append answers more);
      };
      reached = reached';
      journal = s.journal;
      answered = are.asked;
      printed = are.printed;
      allowed = s.allowed;
      settled = s.ends.settled;
      e = e;
      numbers = s.ends.numbers;
      cycle = e_cycle;
      before = s.before;
      whole = refl;
      logs = s.logs;
      news_are = refl;
      notes_are = refl;
      facts = facts;
      began = began;
    }
  where
    in-requests : (c : ℕ) (events : List Event) (r : Request) → In r (map (request_in c) events) → r.cycle ≡ c
    in-requests c [] r i = absurd i
    in-requests c (x ∷ events) r i = elim i [ inl here ↦ ap (λ (q : Request). q.cycle) (sym here) | inr there ↦ in-requests c events r there ]
