-- The state of span ownership over plain lists.
use Rattle.std.specs.Prelude.{ℕ, List, Option}
use Rattle.sweep_laws.specs.declared.moves.Claimed.{Claimed}

-- a span from its Take to its Give: its first page, its pages, its objects, its span class, the indices
-- that are allocated, and those of them that the last mark end marked
pub record LifeState : Type 0 where
  pub page : ℕ
  pub pages : ℕ
  pub count : ℕ
  pub class : ℕ
  pub allocated : List ℕ
  pub kept : List ℕ

-- a queue of spans: the cells from head up to tail are not popped. A cell is a first page plus 1, or 0.
-- An index beyond the list of cells reads 0
pub record SetState : Type 0 where
  pub head : ℕ
  pub tail : ℕ
  pub cells : List ℕ

-- what one worker has, by first pages: spans that it sweeps, holds, has cached, entries that it popped from
-- unswept sets, the index that it claimed, and what it swept since the last mark end; and each of the pages that it pulled
-- into its page cache and that no span has yet
pub record HandState : Type 0 where
  pub sweeping : List ℕ
  pub held : List ℕ
  pub cached : List ℕ
  pub popped : List ℕ
  pub claimed : Option Claimed
  pub swept : List ℕ
  pub pulled : List ℕ

-- the whole state. `words` and `owners` have one entry for each page of the region, `sets` one for each set
-- and `hands` one for each worker. `room` is the number of entries for which the lives, each set's cells and
-- each list of each hand have room at least, and `prepared` the number of objects for which a life is prepared
pub record CoreState : Type 0 where
  pub generation : ℕ
  pub words : List ℕ
  pub owners : List (Option ℕ)
  pub lives : List LifeState
  pub sets : List SetState
  pub lock : Option ℕ
  pub hands : List HandState
  pub room : ℕ
  pub prepared : ℕ
