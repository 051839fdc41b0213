-- Which set of a span class is meant, and what a push asks.
use Rattle.std.specs.Prelude.{◌≡◌, ℕ, true, false}
use Rattle.page_bitmap.specs.Counts.{one_if}
use Rattle.span_state.specs.declared.body.Body.{Body}
use Rattle.worker_log.specs.SetNumbers.{swept_set, unswept_set}
use Rattle.worker_log.specs.Entries.{is_placing_in, is_pop_of, many}
use Rattle.span_laws.specs.BodyAsks.{HasRoom, IsFullBody, IsUsed}
use Rattle.span_laws.specs.Views.{Seen}
use Rattle.span_set.specs.declared.sets.SetId.{SetId}

-- the number of the swept part at a generation
abbrev pub swept_of : ℕ → SetId → ℕ
swept_of g s = swept_set g s.class (one_if s.full)

-- the number of the unswept part
abbrev pub unswept_of : ℕ → SetId → ℕ
unswept_of g s = unswept_set g s.class (one_if s.full)

-- a body may be pushed to a set: it is of the set's class and has an object at least; the set is the full one exactly where the body has no
-- free index; the worker has not popped it from that set since the last mark end, nor, for a partial set, placed an object in it
pub record MayPush (s : SetId) (b : Body) (w : Seen) : Type 0 where
  pub class : b.class ≡ s.class
  pub used : IsUsed b
  pub full : s.full ≡ true → IsFullBody b
  pub room : s.full ≡ false → HasRoom b
  pub unpopped : many (is_pop_of (swept_of w.view.generation s) b.page) w.view.own.log ≡ 0
  pub unplaced : s.full ≡ false → many (is_placing_in b.page) w.view.own.log ≡ 0
