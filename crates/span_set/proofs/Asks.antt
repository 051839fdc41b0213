-- What a call that sweeps asks holds again behind one that left the worker's place, marks and claim as they were.
use Rattle.std.proofs.Common.{◌≡◌, ap, sym, ◌∙◌}
use Rattle.atomic_table.specs.Seated.{TableId}
use Rattle.profile_cycle.specs.History.{RingId}
use Rattle.span_state.specs.MarkSet.{MarkSet}
use Rattle.span_laws.specs.Calls.{Keeps}
use Rattle.span_laws.specs.Views.{Seen}
use Rattle.span_laws.specs.declared.view.View.{View}
use Rattle.span_set.specs.Asks.{MaySearch, WorksBy}
use Rattle.span_set.specs.Tallies.{Frees}
use Rattle.span_set.specs.declared.hand.Hand.{Hand}
use Rattle.span_set.proofs.Tallies.{may-still}

module _ (t : TableId) (r : RingId) (m : MarkSet) (old new : Hand) where
  pub works_still : new.worker.table ≡ old.worker.table → new.worker.away ≡ old.worker.away → new.worker.view.marks ≡ old.worker.view.marks → Frees m old new → WorksBy t r m old → WorksBy t r m new
  works_still table away marks frees works = record {
    works = (table ∙ works.works.0, away ∙ works.works.1);
    marks = works.marks ∙ sym marks;
    counts = may-still m r old new works.counts frees;
  }

  -- a call that keeps what a worker has
  pub keeps_works : Keeps old.worker new.worker → Frees m old new → WorksBy t r m old → WorksBy t r m new
  keeps_works k = works_still k.table k.away (ap (λ (v : View). v.marks) k.view)

  pub may_again : new.worker.table ≡ old.worker.table → new.worker.away ≡ old.worker.away → new.worker.view.marks ≡ old.worker.view.marks → new.worker.view.own.claimed ≡ old.worker.view.own.claimed
      → Frees m old new → MaySearch t r m old → MaySearch t r m new
  may_again table away marks claimed frees may = record { works = works_still table away marks frees may.works; unclaimed = claimed ∙ may.unclaimed }

-- only the worker moved on, by steps of its own
pub moved_works : (t : TableId) (r : RingId) (m : MarkSet) (h : Hand) (w v : Seen) → w ≡ v → v.table ≡ h.worker.table → v.away ≡ h.worker.away → v.view.marks ≡ h.worker.view.marks
    → WorksBy t r m h → WorksBy t r m (record h { worker = w })
moved_works t r m h w v is table away marks works = record {
  works = (ap (λ (s : Seen). s.table) is ∙ table ∙ works.works.0, ap (λ (s : Seen). s.away) is ∙ away ∙ works.works.1);
  marks = works.marks ∙ sym (ap (λ (s : Seen). s.view.marks) is ∙ marks);
  counts = works.counts;
}
