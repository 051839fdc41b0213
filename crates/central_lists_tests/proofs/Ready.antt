-- A hand is as the rows ask it at the start, and after a look for a span to cache.
use Rattle.std.proofs.Common.{◌≡◌, ℕ, ◌<◌, false, List, [], ap, None, sym, subst, ◌∙◌}
use Rattle.std.specs.Prelude.{All}
use Rattle.std.proofs.lemmas.List.Elements.{All-nil}
use Rattle.atomic_table.specs.Seated.{TableId}
use Rattle.profile_cycle.specs.History.{RingId, Standing, first_view as no_calls}
use Rattle.span_state.specs.MarkSet.{MarkSet, dead_of}
use Rattle.worker_log.specs.declared.Entry.{Entry}
use Rattle.span_laws.specs.declared.view.View.{View}
use Rattle.span_laws.specs.Views.{Seen, first_view}
use Rattle.span_set.specs.Asks.{MaySearch}
use Rattle.span_set.specs.Tallies.{Frees}
use Rattle.span_set.specs.declared.hand.Hand.{Hand}
use Rattle.span_set.proofs.Asks.{keeps_works}
use Rattle.central_lists.specs.Works.{HandSearches}

pub ready_after : (table : TableId) (ring : RingId) (m : MarkSet) (g class tried : ℕ) (more kept : ℕ → ℕ) (P : List Entry → Type 0) (old new : Hand) → HandSearches g class tried more kept P old new → Frees m old new → MaySearch table ring m old
    → MaySearch table ring m new
ready_after table ring m g class tried more kept P old new d f r = record {
  works = keeps_works table ring m old new d.keeps f r.works;
  unclaimed = d.keeps.claimed ∙ r.unclaimed;
}

pub first_ready : (table : TableId) (ring : RingId) (m : MarkSet) (pages goal procs workers : ℕ) (w : Seen) (h : Hand) → m.pairs ≡ [] → ((p : ℕ) → dead_of m p ≡ []) → w ≡ record { table = table; number = 69; away = []; caching = false; journal = None; view = first_view pages goal procs workers } → h.worker ≡ w
    → h.tally ≡ record { ring = ring; view = no_calls } → MaySearch table ring m h
first_ready table ring m pages goal procs workers w h none dead at same tally = let is = same ∙ at in record {
  works = record {
    works = (ap (λ (s : Seen). s.table) is, ap (λ (s : Seen). s.away) is);
    marks = none ∙ sym (ap (λ (s : Seen). s.view.marks) is);
    counts = record { ring = ap (λ (s : Standing). s.ring) tally; dead = λ p. subst (All (λ b. b < ring.buckets)) (sym (dead p)) (All-nil (λ b. b < ring.buckets)) };
  };
  unclaimed = ap (λ (s : Seen). s.view.own.claimed) is;
}
