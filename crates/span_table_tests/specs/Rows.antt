-- What the rows' helpers tell of a worker.
use Rattle.std.specs.Prelude.{◌≡◌, ℕ, ◌<◌, Bool, true, false, None, List, length}
use Rattle.atomic_table.specs.Seated.{TableId}
use Rattle.sweep_laws.specs.Lists.{has}
use Rattle.sweep_laws.specs.Reading.{is_swept_set}
use Rattle.span_state.specs.MarkSet.{has_pair}
use Rattle.span_state.specs.declared.body.Body.{Body}
use Rattle.sweep_laws.specs.OwnedLives.{EachAt}
use Rattle.span_laws.specs.BodyAsks.{IsFullBody, IsUsed}
use Rattle.span_laws.specs.Asks.{HasBody, IsAtWork, IsFresh, IsIdle}
use Rattle.span_laws.specs.declared.view.Part.{Part}
use Rattle.span_laws.specs.Logs.{is_placing_at}
use Rattle.span_laws.specs.Scans.{logs}
use Rattle.span_laws.specs.declared.said.Said.TheVariants.{Reads}
use Rattle.worker_log.specs.declared.Entry.{Entry}
use Rattle.span_laws.specs.Views.{Seen, parts_of}
use Rattle.span_laws.specs.OwnSteps.{after_said}
use Rattle.worker_log.specs.Entries.{is_placing_in, is_pop_of, is_seen_empty, many}

-- The driver of this table, who has nobody out, and has claimed nothing.
pub record IsReady (t : TableId) (w : Seen) : Type 0 where
  pub works : IsAtWork t w
  pub number : w.number ≡ 69
  pub unclaimed : w.view.own.claimed ≡ None

-- It holds a large span with its object, and has popped it from no swept set.
pub record HoldsLarge (w : Seen) (b : Body) : Type 0 where
  pub class : b.class ≡ 0
  pub held : has b.page w.view.own.held ≡ true
  pub lent : HasBody w.view.own b
  pub used : IsUsed b
  pub full : IsFullBody b
  pub unpopped : (j : ℕ) → j < 544 → is_swept_set w.view.generation j ≡ true → many (is_pop_of j b.page) w.view.own.log ≡ 0

-- In each span that a worker has cached it placed an object since the last mark end.
abbrev pub UsesCached : Part → Type 0
UsesCached h = (p : ℕ) → has p h.cached ≡ true → 0 < many (is_placing_in p) h.log

-- The driver of this table, who has nobody out, where no worker sweeps or holds a span, and none has claimed or popped anything.
pub record IsIdleDriver (t : TableId) (w : Seen) : Type 0 where
  pub works : IsAtWork t w
  pub number : w.number ≡ 69
  pub many : length w.view.parts ≡ 70
  pub idle : EachAt (parts_of w.number w.view) (λ m h. IsIdle h)

-- The same, where each span in a cache was cached since the last mark end, and used.
pub record IsFreeDriver (t : TableId) (w : Seen) : Type 0 where
  pub works : IsAtWork t w
  pub number : w.number ≡ 69
  pub many : length w.view.parts ≡ 70
  pub idle : EachAt (parts_of w.number w.view) (λ m h. IsIdle h)
  pub fresh : EachAt (parts_of w.number w.view) (λ m h. IsFresh h)
  pub used : EachAt (parts_of w.number w.view) (λ m h. UsesCached h)

-- It has a span cached, and its body.
pub record HasCached (w : Seen) (b : Body) : Type 0 where
  pub cached : has b.page w.view.own.cached ≡ true
  pub lent : HasBody w.view.own b

-- The worker's cached spans and the bodies that were lent to it are the same.
pub record KeepsCached (old new : Seen) : Type 0 where
  pub cached : new.view.own.cached ≡ old.view.own.cached
  pub spans : new.view.own.spans ≡ old.view.own.spans

-- It placed the first object of the span of this page.
abbrev pub HasPlaced : ℕ → Seen → Type 0
HasPlaced page w = 0 < many (is_placing_at page 0) w.view.own.log

-- It placed an object at each of these pairs of a first page and an index.
abbrev pub ArePlaced : List (ℕ × ℕ) → Seen → Type 0
ArePlaced pairs w = (p k : ℕ) → has_pair pairs p k ≡ true → 0 < many (is_placing_at p k) w.view.own.log

-- What the log of one worker told of objects that were placed, that of another tells.
abbrev pub KeepsPlaced : Seen → Seen → Type 0
KeepsPlaced old new = (p k : ℕ) → 0 < many (is_placing_at p k) old.view.own.log → 0 < many (is_placing_at p k) new.view.own.log

-- It read the generation and looked at sets, and saw each unswept set below n empty.
pub record SeesBelow (n : ℕ) (old new : Seen) : Type 0 where
  pub said : List Entry
  pub seen : (k : ℕ) → k < n → is_swept_set old.view.generation k ≡ false → 0 < many (is_seen_empty k) said
  pub view : new ≡ logs said (after_said (Reads 1 old.view.generation) old)

-- So it saw all of them, where the answer is true.
abbrev pub SeesEmpty : Seen → Seen → Bool → Type 0
SeesEmpty old new false = Unit {0}
SeesEmpty old new true = SeesBelow 544 old new

-- The driver behind a mark end of generation 4 that marked these pairs.
pub record HasTurned (t : TableId) (pairs : List (ℕ × ℕ)) (w : Seen) : Type 0 where
  pub idle : IsIdleDriver t w
  pub generation : w.view.generation ≡ 6
  pub marks : w.view.marks ≡ pairs
