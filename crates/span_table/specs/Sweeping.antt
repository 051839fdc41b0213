-- Who sweeps a span, and who has one cached, in a state that the table shows.
use Rattle.std.specs.Prelude.{◌≡◌, ◌≢◌, ◌⊎◌, ℕ, ◌+◌, ◌≤◌, ◌==◌, List, slice_index}
use lib.ListN.{get_elem?}
use mathlib.Core.Option.{some}
use Rattle.page_alloc.specs.Lives.{Life}
use Rattle.run_laws.specs.CycleSoFar.{CycleSoFar, past_after}
use Rattle.run_laws.specs.Known.{KnowsBlocks}
use Rattle.sweep_laws.specs.Counts.{times}
use Rattle.sweep_laws.specs.Lists.{has}
use Rattle.span_laws.specs.Asks.{mine}
use Rattle.span_laws.specs.Bodies.{IsLent}
use Rattle.span_laws.specs.declared.view.Part.{Part}
use Rattle.span_table.specs.Running.{JointState}

-- Worker n sweeps the span of a page alone: the word is G-1, nobody else sweeps or holds the span or has it cached, nobody has swept it in
-- this cycle, and worker n has its body, which is one of a life that workers know by the journal.
pub record SweepsAlone (g : JointState) (n p : ℕ) (h : Part) : Type 0 where
  pub word : slice_index g.core.words p + 1 ≡ g.core.generation
  pub once : (times p h.sweeping ≡ 1) × (times p h.held ≡ 0) × (times p h.cached ≡ 0)
  pub others : (m : ℕ) (x : Part) → get_elem? g.parts m ≡ some x → m ≢ n → mine p x ≡ 0
  pub unswept : (m : ℕ) (x : Part) → get_elem? g.parts m ≡ some x → times p x.swept ≡ 0
  pub known : List Life
  pub body : IsLent known g.core.lives h p
  pub cycle : CycleSoFar
  pub journal : past_after cycle ≡ g.heap.past
  pub lives : cycle.known ≡ known
  pub knows : KnowsBlocks cycle

-- Worker n has the span of a page cached: nobody sweeps it, and no exchange from G-2 wins, since the word is G+1 or G+3; with G+1 its own
-- worker knows that it was not cached in this cycle, so that its uncache is the one that sweeps it.
pub record IsCachedBy (g : JointState) (n p : ℕ) (h : Part) : Type 0 where
  pub word : (slice_index g.core.words p ≡ g.core.generation + 1) ⊎ (slice_index g.core.words p ≡ g.core.generation + 3)
  pub once : (times p h.cached ≡ 1) × (times p h.sweeping ≡ 0) × (times p h.held ≡ 0)
  pub others : (m : ℕ) (x : Part) → get_elem? g.parts m ≡ some x → m ≢ n → mine p x ≡ 0
  pub fresh : has p h.fresh ≡ (slice_index g.core.words p == g.core.generation + 3)

-- No span is swept twice in a cycle, by one worker or by two.
pub record IsSweptOnce (g : JointState) (p : ℕ) : Type 0 where
  pub by_one : (n : ℕ) (h : Part) → get_elem? g.parts n ≡ some h → times p h.swept ≤ 1
  pub by_two : (n m : ℕ) (h x : Part) → n ≢ m → get_elem? g.parts n ≡ some h → get_elem? g.parts m ≡ some x → times p h.swept + times p x.swept ≤ 1
