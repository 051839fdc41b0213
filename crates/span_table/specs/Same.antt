-- When two states that a table shows are one.
use Rattle.std.specs.Prelude.{◌≡◌, ℕ, ◌<◌, true, slice_index}
use Rattle.sweep_laws.specs.Lists.{has}
use Rattle.sweep_laws.specs.Named.{begins}
use Rattle.sweep_laws.specs.Reading.{cell_of, life_in, set_of}
use Rattle.sweep_laws.specs.State.{LifeState}
use Rattle.span_table.specs.Running.{JointState}

-- Two lives lie at one place, and the same indices are allocated in them.
pub record IsSameLife (l m : LifeState) : Type 0 where
  pub page : l.page ≡ m.page
  pub pages : l.pages ≡ m.pages
  pub count : l.count ≡ m.count
  pub class : l.class ≡ m.class
  pub allocated : (k : ℕ) → has k l.allocated ≡ has k m.allocated

-- Two states of a region of R pages are one: who has the lock, the generation, the word of each page, each set and its cells, all parts and so
-- all hands, the life at each page and, while the lock is free, the pages with their journal.
pub record IsSameState (R : ℕ) (g h : JointState) : Type 0 where
  pub lock : g.lock ≡ h.lock
  pub generation : g.core.generation ≡ h.core.generation
  pub words : (p : ℕ) → p < R → slice_index g.core.words p ≡ slice_index h.core.words p
  pub sets : (j : ℕ) → j < 544 → ((set_of g.core j).head ≡ (set_of h.core j).head) × ((set_of g.core j).tail ≡ (set_of h.core j).tail)
  pub cells : (j i : ℕ) → j < 544 → i < R → cell_of (set_of g.core j) i ≡ cell_of (set_of h.core j) i
  pub parts : g.parts ≡ h.parts
  pub hands : g.core.hands ≡ h.core.hands
  pub heap : g.lock ≡ 0 → g.heap ≡ h.heap
  pub lives : (p : ℕ) → p < R → begins p g.core.lives ≡ true → IsSameLife (life_in p g.core.lives) (life_in p h.core.lives)
