-- A processor's worker goes over a mark end.
use Rattle.std.proofs.Common.{◌≡◌, ◌≢◌, ℕ, zero, suc, ◌<◌, true, true≢false, List, [], ◌∷◌, ◌++◌, map, length, get_or, refl, ap, sym, subst, ◌∙◌, arith, eq-eqb}
use Rattle.std.specs.List.{AllByRecursion}
use Rattle.std.specs.Prelude.{All, Option, Some, IfOk, OnErr, OnOk, Result, Ok, Err}
use Rattle.std.proofs.lemmas.List.Elements.{All-nil, All-push}
use Rattle.fallible_list.specs.declared.list.NoMemory.{NoMemory}
use Rattle.std.proofs.lemmas.List.{length-map}
use mathlib.Core.Logic.{dite}
use mathlib.Core.Option.{some, some-injective, some-ne-none}
use lib.ListN.{get_elem?}
use native.Mathlib.Decide.{ℕ_discrete}
use Rattle.atomic_table.specs.Seated.{TableId}
use Rattle.page_alloc.specs.Lists.{In}
use Rattle.page_bitmap.specs.declared.line.Line.{Line}
use Rattle.profile_cycle.specs.History.{RingId, Standing, calls}
use Rattle.profile_cycle.specs.declared.calls.What.TheVariants.{AfterSweep, NextCycle}
use Rattle.span_state.specs.MarkSet.{MarkSet, dead_of}
use Rattle.sweep_laws.specs.Lists.{has}
use Rattle.sweep_laws.specs.Reading.{is_swept_set}
use Rattle.sweep_laws.specs.OwnedLives.{EachAt}
use Rattle.sweep_laws.proofs.Naming.{set_here}
use Rattle.swept_set_laws.specs.Entered.{log_of}
use Rattle.worker_log.specs.declared.Entry.{Entry}
use Rattle.worker_log.specs.declared.Entry.TheVariants.{Read}
use Rattle.worker_log.specs.Logs.{placings}
use Rattle.worker_log.specs.SetNumbers.{swept_set}
use Rattle.worker_log.specs.Entries.{is_placing_in, is_pop_of, is_seen_empty, many}
use Rattle.worker_log.proofs.Logs.{many-append}
use Rattle.span_laws.specs.Asks.{IsFresh, IsIdle}
use Rattle.span_laws.specs.MarkEndAsks.{IsAtRest, IsKnown, MayMark, MaySettle}
use Rattle.span_laws.specs.Rule.{logs_of}
use Rattle.span_laws.specs.Settles.{SettlesCycle}
use Rattle.span_laws.specs.Views.{Seen, acts, no_part, parts_of}
use Rattle.span_laws.specs.MarkEnds.{after_next, rested}
use Rattle.span_laws.specs.declared.view.Part.{Part}
use Rattle.span_laws.proofs.MarkEnd.{map_at}
use Rattle.span_laws.proofs.Parts.{set_else}
use Rattle.span_set.specs.Resets.{Resets}
use Rattle.span_set.specs.Tallies.{MayCount}
use Rattle.span_set.specs.declared.hand.Hand.{Hand}
use Rattle.proc_cache.specs.Cache.{Cache}
use Rattle.proc_cache.proofs.Serving.{serves_rested, serves_through, used_rested}
use Rattle.proc_cache_tests.specs.Ready.{AreLive, AreObjects, Grows, HasSettled, HasSwept, IsPrepared, IsReady, IsServed, MayPublish}
use Rattle.proc_cache_tests.specs.declared.objects.Object.{Object}
use Rattle.proc_cache_tests.proofs.Living.{all_known}

-- ---- steps that change no body

-- a worker whose log has these entries more, that has reset these sets, and was told this journal
abbrev pub quieted : List Entry → List ℕ → Option (List Line) → Seen → Seen
quieted said sets journal w = record w { journal = journal; view = acts w.view (record w.view.own { log = said ++ w.view.own.log; reset = sets }) }

module _ (table : TableId) (w : Seen) (c : Cache) (said : List Entry) (sets : List ℕ) (journal : Option (List Line)) where
  pub quiet_served : ((j p : ℕ) → many (is_pop_of j p) said ≡ 0) → IsServed table w c → IsServed table (quieted said sets journal w) c
  quiet_served none r = record {
    works = r.works;
    driver = r.driver;
    parts = r.parts;
    others = r.others;
    idle = record { sweeping = r.idle.sweeping; held = r.idle.held; popped = r.idle.popped; claimed = r.idle.claimed };
    serves = serves_through w.view.generation w.view.own (quieted said sets journal w).view.own c r.serves refl refl (λ q h. refl) (λ k s at.
        let x = (r.serves.slots k s at).unpopped in let a = many-append (is_pop_of (swept_set w.view.generation k 1) s.page) said w.view.own.log in let z = none (swept_set w.view.generation k 1) s.page in omega arith);
    used = λ p hp fp. let u = r.used p hp fp in let a = many-append (is_placing_in p) said w.view.own.log in omega arith;
  }

  pub quiet_swept : HasSwept w c → HasSwept (quieted said sets journal w) c
  quiet_swept s = record {
    flushed = s.flushed;
    seen = λ k low part. let u = s.seen k low part in let a = many-append (is_seen_empty k) said w.view.own.log in omega arith;
  }

-- only the worker of a hand matters
pub ready_by : (table : TableId) (ring : RingId) (marks : MarkSet) (old new : Hand) (c : Cache) → IsReady table ring marks old c → IsServed table new.worker c → new.worker.view.marks ≡ old.worker.view.marks → new.tally ≡ old.tally → IsReady table ring marks new c
ready_by table ring marks old new c r served same tally = record {
  served = served;
  works = record { works = served.works; marks = r.works.marks ∙ sym same; counts = subst (MayCount ring marks) (sym tally) r.works.counts };
  publishes = subst (MayPublish ring) (sym tally) r.publishes;
  two = r.two;
}

-- ---- the driver is at rest

nothing_idle : IsIdle no_part
nothing_idle = record { sweeping = refl; held = refl; popped = refl; claimed = refl }

module _ (table : TableId) (w : Seen) (c : Cache) (r : IsServed table w c) where
  low : w.number < length w.view.parts
  low = let m = r.parts in let n = r.driver in omega arith

  each : (P : Part → Type 0) → P w.view.own → P no_part → EachAt (parts_of w.number w.view) (λ m x. P x)
  each P own none m x a = dite (ℕ_discrete m w.number)
      (λ s. subst P (some-injective w.view.own x (sym (set_here w.view.parts w.number w.view.own low) ∙ ap (get_elem? (parts_of w.number w.view)) (sym s) ∙ a)) own)
      (λ d. subst P (sym (r.others m x (λ e. d (e ∙ sym r.driver)) (sym (set_else w.view.parts w.number w.view.own m d) ∙ a))) none)

  module _ (s : HasSwept w c) where
    own_fresh : IsFresh w.view.own
    own_fresh p hp = r.serves.fresh p hp ∙ eq-eqb c.flushed w.view.generation s.flushed

    pub at_rest : IsAtRest w.number w.view
    at_rest = record {
      driver = r.driver;
      idle = each IsIdle r.idle nothing_idle;
      fresh = each IsFresh own_fresh (λ p hp. absurd (true≢false (sym hp)));
      empty = s.seen;
    }

    pub may_settle : MaySettle w
    may_settle = record {
      rest = at_rest;
      used = each (λ h. (p : ℕ) → has p h.cached ≡ true → 0 < many (is_placing_in p) h.log) (λ p hp. r.used p hp (own_fresh p hp)) (λ p hp. absurd (true≢false (sym hp)));
    }

  own_log : (xs : List Part) (n : ℕ) (h : Part) → get_elem? xs n ≡ some h → get_or (map (λ (p : Part). p.log) xs) n [] ≡ h.log
  own_log [] n h e = absurd (some-ne-none h (sym e))
  own_log (x ∷ xs) zero h e = ap (λ (p : Part). p.log) (some-injective x h e)
  own_log (x ∷ xs) (suc n) h e = own_log xs n h e

  pub own_log_at : log_of (logs_of w.number w.view) w.number ≡ w.view.own.log
  own_log_at = own_log (parts_of w.number w.view) w.number w.view.own (set_here w.view.parts w.number w.view.own low)

none_popped : (h : ℕ) (j p : ℕ) → many (is_pop_of j p) (Read 1 h ∷ []) ≡ 0
none_popped h j p = refl

-- the generation was read
module _ (table : TableId) (c : Cache) (w w1 : Seen) (r : IsServed table w c) (s : HasSwept w c) (g : ℕ) (e1 : w1 ≡ quieted (Read 1 g ∷ []) w.view.own.reset w.journal w) where
  pub one_served : IsServed table w1 c
  one_served = subst (λ (x : Seen). IsServed table x c) (sym e1) (quiet_served table w c (Read 1 g ∷ []) w.view.own.reset w.journal (none_popped g) r)

  pub one_swept : HasSwept w1 c
  one_swept = subst (λ (x : Seen). HasSwept x c) (sym e1) (quiet_swept table w c (Read 1 g ∷ []) w.view.own.reset w.journal s)

  pub one_grows : Grows w w1
  one_grows = (Read 1 g ∷ [], ap (λ (x : Seen). x.view.own.log) e1)

-- the sets are reset, and the journal is told
module _ (table : TableId) (c : Cache) (w w1 w2 w3 : Seen) (r : IsServed table w c) (s : HasSwept w c) (g : ℕ) (e1 : w1 ≡ quieted (Read 1 g ∷ []) w.view.own.reset w.journal w) (e2 : Resets w1 w2) where
  two_is : w2 ≡ quieted (Read 1 w1.view.generation ∷ []) (w1.view.own.reset ++ e2.sets) w1.journal w1
  two_is = e2.view

  pub two_served : IsServed table w2 c
  two_served = subst (λ (x : Seen). IsServed table x c) (sym two_is) (quiet_served table w1 c (Read 1 w1.view.generation ∷ []) (w1.view.own.reset ++ e2.sets) w1.journal (none_popped w1.view.generation) (one_served table c w w1 r s g e1))

  pub two_swept : HasSwept w2 c
  two_swept = subst (λ (x : Seen). HasSwept x c) (sym two_is) (quiet_swept table w1 c (Read 1 w1.view.generation ∷ []) (w1.view.own.reset ++ e2.sets) w1.journal (one_swept table c w w1 r s g e1))

  generation_is : w2.view.generation ≡ w.view.generation
  generation_is = ap (λ (x : Seen). x.view.generation) two_is ∙ ap (λ (x : Seen). x.view.generation) e1

  module _ (e3 : SettlesCycle w2 w3) where
    abbrev past : List Line
    past = e3.0 ++ w2.view.before

    three_is : w3 ≡ quieted [] w2.view.own.reset (Some past) w2
    three_is = e3.2

    pub three_served : IsServed table w3 c
    three_served = subst (λ (x : Seen). IsServed table x c) (sym three_is) (quiet_served table w2 c [] w2.view.own.reset (Some past) (λ j p. refl) two_served)

    pub three_settled : g < 8589934592 → g ≡ w.view.generation → HasSettled w3 c
    three_settled early is = subst (λ (x : Seen). HasSettled x c) (sym three_is) (record {
      swept = quiet_swept table w2 c [] w2.view.own.reset (Some past) two_swept;
      reset = λ k l part. e2.unswept k l (ap (λ (x : Seen). is_swept_set x.view.generation k) (sym two_is) ∙ part);
      told = (past, refl);
      early = let z = generation_is in omega arith;
      below = λ a i. e3.4.places.below w2.number a (subst (λ (l : List Entry). In a (placings l)) (sym (own_log_at table w2 c two_served)) i);
    })

    pub three_grows : Grows w w3
    three_grows = (Read 1 w1.view.generation ∷ Read 1 g ∷ [], ap (λ (x : Seen). x.view.own.log) three_is ∙ ap (λ (x : Seen). x.view.own.log) two_is ∙ ap (λ (x : Seen). Read 1 w1.view.generation ∷ x.view.own.log) e1)

    pub three_marks : w3.view.marks ≡ w.view.marks
    three_marks = ap (λ (x : Seen). x.view.marks) three_is ∙ ap (λ (x : Seen). x.view.marks) two_is ∙ ap (λ (x : Seen). x.view.marks) e1

-- ---- the next cycle

pub may_mark : (table : TableId) (w : Seen) (c : Cache) (pairs : List (ℕ × ℕ)) → IsServed table w c → HasSettled w c → AllByRecursion (IsKnown w.number w.view) pairs → MayMark w pairs
may_mark table w c pairs r s known = record { rest = at_rest table w c r s.swept; reset = s.reset; early = s.early; known = known; told = s.told }

next_served : (table : TableId) (w : Seen) (c : Cache) (pairs : List (ℕ × ℕ)) → IsServed table w c → IsServed table (after_next pairs w) c
next_served table w c pairs r = record {
  works = r.works;
  driver = r.driver;
  parts = length-map w.view.parts rested ∙ r.parts;
  others = λ i p other a. let z = map_at rested w.view.parts i p a in sym z.2 ∙ ap rested (r.others i z.0 other z.1);
  idle = record { sweeping = r.idle.sweeping; held = r.idle.held; popped = r.idle.popped; claimed = r.idle.claimed };
  serves = serves_rested w.view.generation w.view.own c r.serves;
  used = used_rested w.view.own;
}

pub next_ready : (table : TableId) (ring ring' : RingId) (marks m : MarkSet) (old new : Hand) (c : Cache) → ring' ≡ ring → IsReady table ring marks old c → new.worker ≡ after_next m.pairs old.worker → new.tally ≡ calls old.tally NextCycle
    → ((page : ℕ) → All (λ b. b < 2) (dead_of m page)) → IsReady table ring' m new c
next_ready table ring ring' marks m old new c same_ring r w n dead =
    subst (λ (q : RingId). IsReady table q m new c) (sym same_ring) (record {
      served = subst (λ (x : Seen). IsServed table x c) (sym w) (next_served table old.worker c m.pairs r.served);
      works = record {
        works = (ap (λ (x : Seen). x.table) w ∙ r.works.works.0, ap (λ (x : Seen). x.away) w ∙ r.works.works.1);
        marks = sym (ap (λ (x : Seen). x.view.marks) w);
        counts = record { ring = ap (λ (t : Standing). t.ring) n ∙ r.works.counts.ring; dead = λ page. subst (λ (b : ℕ). All (λ x. x < b) (dead_of m page)) (sym r.two) (dead page) };
      };
      publishes = record { ring = ap (λ (t : Standing). t.ring) n ∙ r.publishes.ring; drives = ap (λ (t : Standing). t.view.drives) n ∙ r.publishes.drives; alone = ap (λ (t : Standing). t.view.out) n ∙ r.publishes.alone };
      two = r.two;
    })

-- the driver's tally published, and was read
pub published_ready : (table : TableId) (ring ring' : RingId) (marks : MarkSet) (h : Hand) (c : Cache) (t t' : Standing) → ring' ≡ ring → IsReady table ring marks h c → t ≡ calls h.tally AfterSweep → t' ≡ t → IsReady table ring' marks (record h { tally = t' }) c
published_ready table ring ring' marks h c t t' same r e e' =
    subst (λ (q : RingId). IsReady table q marks (record h { tally = t' }) c) (sym same)
    (let n : t' ≡ calls h.tally AfterSweep = e' ∙ e in record {
      served = r.served;
      works = record { works = r.works.works; marks = r.works.marks; counts = record { ring = ap (λ (x : Standing). x.ring) n ∙ r.works.counts.ring; dead = r.works.counts.dead } };
      publishes = record { ring = ap (λ (x : Standing). x.ring) n ∙ r.publishes.ring; drives = ap (λ (x : Standing). x.view.drives) n ∙ r.publishes.drives; alone = ap (λ (x : Standing). x.view.out) n ∙ r.publishes.alone };
      two = r.two;
    })

-- a sampled object died
pub dead_ready : (table : TableId) (ring : RingId) (m : MarkSet) (h : Hand) (c : Cache) → IsReady table ring m h c → (page bucket : ℕ) (m' : MarkSet) (a : Result (Unit {0}) NoMemory) → bucket < 2 → OnOk a (dead_of m' page ≡ dead_of m page ++ bucket ∷ [])
    → OnOk a ((q : ℕ) → q ≢ page → dead_of m' q ≡ dead_of m q) → m'.pairs ≡ m.pairs → OnErr a (m' ≡ m) → IsReady table ring m' h c
dead_ready table ring m h c r page bucket m' (Err e) low here others pairs same = subst (λ (x : MarkSet). IsReady table ring x h c) (sym same) r
dead_ready table ring m h c r page bucket m' (Ok done) low here others pairs same =
    record { served = r.served; works = record { works = r.works.works; marks = pairs ∙ r.works.marks; counts = record { ring = r.works.counts.ring; dead = each } }; publishes = r.publishes; two = r.two }
  where
    each : (q : ℕ) → All (λ b. b < ring.buckets) (dead_of m' q)
    each q = dite (ℕ_discrete q page)
        (λ e. subst (λ (x : ℕ). All (λ b. b < ring.buckets) (dead_of m' x)) (sym e) (subst (λ (xs : List ℕ). All (λ b. b < ring.buckets) xs) (sym here)
        (All-push (λ b. b < ring.buckets) (dead_of m page) bucket (r.works.counts.dead page) (let t = r.two in omega arith))))
        (λ d. subst (λ (xs : List ℕ). All (λ b. b < ring.buckets) xs) (sym (others q d)) (r.works.counts.dead q))

-- the marks of a mark end are made, where there was memory for them
pub prepared : (table : TableId) (w : Seen) (c : Cache) (before : MarkSet) (objects : List Object) (made : Result MarkSet NoMemory) → IsServed table w c → HasSettled w c → before.pairs ≡ w.view.marks → AreObjects w.view.own.log objects
    → IfOk made (AreLive before objects) → IfOk made (IsPrepared w c)
prepared table w c before objects (Err none) r s same are live = tt
prepared table w c before objects (Ok m) r s same are live = record {
  settled = s;
  known = all_known table w c r s before m objects are same live;
  dead = λ page. subst (All (λ b. b < 2)) (sym (live.dead page)) (All-nil (λ b. b < 2));
}
