-- What a mark end and the end of a cycle ask of the driver and of all workers' parts.
use Rattle.std.specs.Prelude.{◌≡◌, ◌⊎◌, ℕ, ◌<◌, true, false, List}
use Rattle.std.specs.List.{AllByRecursion}
use lib.ListN.{get_elem?}
use mathlib.Core.Option.{some}
use Rattle.sweep_laws.specs.Lists.{has}
use Rattle.sweep_laws.specs.Reading.{is_swept_set}
use Rattle.sweep_laws.specs.OwnedLives.{EachAt}
use Rattle.span_state.specs.MarkSet.{has_pair}
use Rattle.span_laws.specs.declared.view.Part.{Part}
use Rattle.span_laws.specs.declared.view.View.{View}
use Rattle.span_laws.specs.Logs.{is_placing_at}
use Rattle.worker_log.specs.Entries.{many, is_placing_in, is_seen_empty}
use Rattle.span_laws.specs.Views.{Seen, parts_of}
use Rattle.span_laws.specs.Asks.{IsIdle, IsFresh, KnowsJournal}

-- a pair is a mark that the views carry, or an object that a log placed
abbrev pub IsKnown : ℕ → View → ℕ × ℕ → Type 0
IsKnown n v m = (has_pair v.marks m.0 m.1 ≡ true) ⊎ ((i : ℕ) × (h : Part) × (get_elem? (parts_of n v) i ≡ some h) × (0 < many (is_placing_at m.0 m.1) h.log))

-- the driver knows that nothing is left to sweep: each worker is idle, each cached span was cached since the last mark end, and each
-- unswept set was seen empty
pub record IsAtRest (n : ℕ) (v : View) : Type 0 where
  pub driver : n ≡ 69
  pub idle : EachAt (parts_of n v) (λ i h. IsIdle h)
  pub fresh : EachAt (parts_of n v) (λ i h. IsFresh h)
  pub empty : (k : ℕ) → k < 544 → is_swept_set v.generation k ≡ false → 0 < many (is_seen_empty k) v.own.log

-- what a mark end asks of the driver
pub record MayMark (w : Seen) (marks : List (ℕ × ℕ)) : Type 0 where
  pub rest : IsAtRest w.number w.view
  pub reset : (k : ℕ) → k < 544 → is_swept_set w.view.generation k ≡ false → has k w.view.own.reset ≡ true
  pub early : w.view.generation < 8589934592
  pub known : AllByRecursion (IsKnown w.number w.view) marks
  pub told : KnowsJournal w

-- what the end of a cycle asks of the driver: in each span that a worker has cached it placed an object since the last mark end
pub record MaySettle (w : Seen) : Type 0 where
  pub rest : IsAtRest w.number w.view
  pub used : EachAt (parts_of w.number w.view) (λ i h. (p : ℕ) → has p h.cached ≡ true → 0 < many (is_placing_in p) h.log)
