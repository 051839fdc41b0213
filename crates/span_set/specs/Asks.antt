-- What each call that sweeps asks of a hand.
use Rattle.std.specs.Prelude.{◌≡◌, None}
use Rattle.atomic_table.specs.Seated.{TableId}
use Rattle.profile_cycle.specs.History.{RingId}
use Rattle.span_state.specs.MarkSet.{MarkSet}
use Rattle.span_laws.specs.Asks.{IsAtWork}
use Rattle.span_set.specs.Tallies.{MayCount}
use Rattle.span_set.specs.declared.hand.Hand.{Hand}
use Rattle.span_set.specs.declared.hand.Shop.{Shop}

-- a hand works by this table, this ring and these marks: its worker is one of the table and at work, the marks are those of the last mark end, and its
-- tally may count each dead sample
pub record WorksBy (t : TableId) (r : RingId) (m : MarkSet) (h : Hand) : Type 0 where
  pub works : IsAtWork t h.worker
  pub marks : m.pairs ≡ h.worker.view.marks
  pub counts : MayCount r m h.tally

-- a hand works in a shop: by what the shop has
abbrev pub WorksIn : Shop → Hand → Type 0
WorksIn s h = WorksBy s.shared.now s.ring.now s.marks.now h

-- the hand may sweep: it works so, and its worker claims nothing
pub record MaySearch (t : TableId) (r : RingId) (m : MarkSet) (h : Hand) : Type 0 where
  pub works : WorksBy t r m h
  pub unclaimed : h.worker.view.own.claimed ≡ None
