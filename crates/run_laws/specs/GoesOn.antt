-- How a cycle goes on at each move of span ownership.
use Rattle.std.specs.Prelude.{◌≡◌, ℕ, true, ◌∷◌, ◌++◌, Some, None}
use Rattle.page_bitmap.specs.declared.line.Line.TheVariants.{Take as TakeLine, Give as GiveLine, Pull as PullLine}
use Rattle.page_alloc.specs.Lists.{In}
use Rattle.page_alloc.specs.Lives.{Life}
use Rattle.sound_run.specs.Run.{count_for, IsJournal}
use Rattle.sweep_laws.specs.declared.moves.Claimed.{Claimed}
use Rattle.sweep_laws.specs.declared.moves.Move.{Move}
use Rattle.sweep_laws.specs.declared.moves.Move.TheVariants.{Lock, Unlock, Take, Give, Acquire, Release, Cache, Allocate, Uncache, StaleUncache, Claim, Fill, PopSwept, PopUnswept, DropPopped, Pull, Cut, Drop, Next}
use Rattle.sweep_laws.specs.Reading.{hand_of, life_of}
use Rattle.sweep_laws.specs.State.{CoreState}
use Rattle.worker_log.specs.declared.Placing.{Placing}
use Rattle.worker_log.specs.declared.Sweeping.{Sweeping}
use Rattle.worker_log.specs.SweptLast.{is_swept_last}
use Rattle.run_laws.specs.CycleSoFar.{CycleSoFar, past_after}
use Rattle.run_laws.specs.PlacingFacts.{IsIn}
use Rattle.run_laws.specs.Keeping.{HasOneOf}
use Rattle.run_laws.specs.Shown.{has_of}
use Rattle.run_laws.specs.Steps.{after_sweep, after_allocate, after_took, after_gave}
use Rattle.run_laws.specs.ShowsCycle.{MayLetGo, IsSweepOf, after_mark_end}
use Rattle.run_laws.specs.Blocks.{OutBlock, out_of, settled_lines}
use Rattle.run_laws.specs.ShowsBlocks.{after_pulled, after_cut_out, after_settled}

-- The cycle goes on from e to `next` at a move, where its call may make it: a Release comes with the entry of its sweep, an
-- Allocate with that of its object in a span beside which the worker has no other of the class with room and objects of this cycle,
-- a Take with its first-fit line and its entry, a Give by the worker that swept the span last with both, and a Fill where
-- the worker may let the page go; a Pull comes with its line and its entry, a Cut with its entry, by a worker that has a block out, and a
-- Drop with the Cut lines of its worker's block, its own line and its entry. Each line leaves the journal one that a run can have. At a
-- mark end, which comes while no block is out, the next cycle begins, and at all other moves nothing is written.
abbrev pub GoesOn : ℕ → ℕ → CoreState → CycleSoFar → Move → CycleSoFar → Type 0
GoesOn region goal c e (Lock w) next = next ≡ e
GoesOn region goal c e (Unlock w) next = next ≡ e
GoesOn region goal c e (Take w p pages count class) next = IsJournal region goal (TakeLine e.cycle p pages class ∷ past_after e) × (count ≡ count_for class) × (next ≡ after_took e w p pages class)
GoesOn region goal c e (Give w p) next = (is_swept_last p (e.logs w) ≡ true) × IsJournal region goal (GiveLine e.cycle p (life_of c p).pages ∷ past_after e) × (next ≡ after_gave e w p (life_of c p).pages)
GoesOn region goal c e (Acquire w p) next = next ≡ e
GoesOn region goal c e (Release w p) next = (life : Life) × (s : Sweeping) × (life.page ≡ p) × IsSweepOf c p s × (next ≡ after_sweep e w life s)
GoesOn region goal c e (Cache w p) next = next ≡ e
GoesOn region goal c e (Allocate w p i) next = (life : Life) × (a : Placing) × (a.page ≡ p) × (a.index ≡ i) × In life e.known × IsIn a life × (life.number ≡ a.number) × HasOneOf e (has_of c) w a.class p
    × (next ≡ after_allocate e w a)
GoesOn region goal c e (Uncache w p) next = next ≡ e
GoesOn region goal c e (StaleUncache w p) next = next ≡ e
GoesOn region goal c e (Claim w s p) next = next ≡ e
GoesOn region goal c e (Fill w) next = ((d : Claimed) → (hand_of c w).claimed ≡ Some d → MayLetGo c e w d.page) × (next ≡ e)
GoesOn region goal c e (PopSwept w s) next = next ≡ e
GoesOn region goal c e (PopUnswept w s) next = next ≡ e
GoesOn region goal c e (DropPopped w p) next = next ≡ e
GoesOn region goal c e (Pull w) next = (page : ℕ) × (pages : ℕ) × IsJournal region goal (PullLine e.cycle w page pages ∷ past_after e) × (next ≡ after_pulled e w page pages)
GoesOn region goal c e (Cut w p pages count class) next = (b : OutBlock) × (out_of (e.logs w) ≡ Some b) × (count ≡ count_for class) × (next ≡ after_cut_out e w b.number p pages class)
GoesOn region goal c e (Drop w) next = (b : OutBlock) × (out_of (e.logs w) ≡ Some b) × IsJournal region goal (settled_lines e.cycle w (Some b) ++ past_after e) × (next ≡ after_settled e w b)
GoesOn region goal c e (Next marks) next = ((w : ℕ) → out_of (e.logs w) ≡ None) × (next ≡ after_mark_end e marks)
