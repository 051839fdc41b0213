-- What the helpers of the tests tell of a worker in the first cycle.
use Rattle.std.specs.Prelude.{◌≡◌, ℕ, true, false, None}
use Rattle.atomic_table.specs.Seated.{TableId}
use Rattle.sweep_laws.specs.Lists.{has}
use Rattle.span_state.specs.declared.body.Body.{Body}
use Rattle.span_laws.specs.Asks.{HasBody}
use Rattle.span_laws.specs.BodyAsks.{IsFullBody, IsUsed}
use Rattle.worker_log.specs.Entries.{is_pop_of, many}
use Rattle.span_laws.specs.Views.{Seen, first_view}

-- The worker is of this table, has claimed nothing and has no page cache.
pub record IsUnclaimed (t : TableId) (w : Seen) : Type 0 where
  pub table : w.table ≡ t
  pub first : w.view.generation ≡ 4
  pub unclaimed : w.view.own.claimed ≡ None
  pub bare : w.caching ≡ false

-- It holds a span, and has its body.
pub record Holds (w : Seen) (b : Body) : Type 0 where
  pub held : has b.page w.view.own.held ≡ true
  pub lent : HasBody w.view.own b

-- It holds a large span with its object, and has not popped it from the full swept set of large spans, which is set 2.
pub record HoldsPlaced (w : Seen) (b : Body) : Type 0 where
  pub class : b.class ≡ 0
  pub held : has b.page w.view.own.held ≡ true
  pub lent : HasBody w.view.own b
  pub used : IsUsed b
  pub full : IsFullBody b
  pub unpopped : many (is_pop_of 2 b.page) w.view.own.log ≡ 0

-- The driver of this table as it began, whoever is out.
pub record IsFirstDriver (t : TableId) (w : Seen) : Type 0 where
  pub table : w.table ≡ t
  pub number : w.number ≡ 69
  pub pages : ℕ
  pub goal : ℕ
  pub procs : ℕ
  pub view : w.view ≡ first_view pages goal procs 70
