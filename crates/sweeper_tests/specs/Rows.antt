-- What the rows ask of a hand between calls.
use Rattle.std.specs.Prelude.{◌≡◌, ℕ, true, [], None}
use Rattle.atomic_table.specs.Seated.{TableId}
use Rattle.profile_cycle.specs.History.{RingId}
use Rattle.span_state.specs.MarkSet.{MarkSet, dead_of}
use Rattle.span_laws.specs.Views.{Seen}
use Rattle.span_table_tests.specs.Rows.{ArePlaced, IsFreeDriver}
use Rattle.span_set.specs.Asks.{WorksBy}
use Rattle.span_set.specs.declared.hand.Hand.{Hand}

-- The hand works by this table, this ring of two buckets and these marks; its worker has claimed and popped nothing, and its tally is the driver's.
pub record IsReady (table : TableId) (ring : RingId) (m : MarkSet) (h : Hand) : Type 0 where
  pub works : WorksBy table ring m h
  pub unclaimed : h.worker.view.own.claimed ≡ None
  pub unpopped : h.worker.view.own.popped ≡ []
  pub drives : h.tally.view.drives ≡ true
  pub alone : h.tally.view.out ≡ 0
  pub two : ring.buckets ≡ 2

-- The driver in the first cycle, before whom no span waits; what is to be marked was placed, and nothing is dead.
pub record IsStage (table : TableId) (m : MarkSet) (w : Seen) : Type 0 where
  pub free : IsFreeDriver table w
  pub generation : w.view.generation ≡ 4
  pub placed : ArePlaced m.pairs w
  pub dead : (page : ℕ) → dead_of m page ≡ []
