-- What each step of a cycle under way needs, whichever worker makes it.
use Rattle.std.specs.Prelude.{◌≡◌, ◌≢◌, ℕ, ◌<◌, Bool, true, false, ◌&&◌, not, ◌∷◌, length}
use Rattle.page_bitmap.specs.declared.line.Line.TheVariants.{Take, Miss, Give}
use Rattle.page_alloc.specs.Lists.{In, IsNumber}
use Rattle.page_alloc.specs.Lives.{Life, open_lives}
use Rattle.span_state.specs.Bits.{count_below}
use Rattle.sound_run.specs.Run.{count_for, IsJournal}
use Rattle.worker_log.specs.declared.Placing.{Placing}
use Rattle.worker_log.specs.declared.Sweeping.{Sweeping}
use Rattle.worker_log.specs.Logs.{Refusal, placings, refusals}
use Rattle.run_laws.specs.CycleSoFar.{CycleSoFar, past_after}
use Rattle.run_laws.specs.Lists.{begins_at}
use Rattle.run_laws.specs.PlacingFacts.{IsIn}

-- Worker w sweeps a life that waits.
pub record MaySweep (e : CycleSoFar) (waits : ℕ → Bool) (life : Life) (s : Sweeping) : Type 0 where
  pub old : In life (open_lives e.before)
  pub waits_now : waits life.page ≡ true
  pub page : s.page ≡ life.page
  pub kept : s.kept ≡ count_below (count_for life.class) (λ k. e.marks life.page k)
  pub freed : s.freed ≡ count_below (count_for life.class) (λ k. e.carried life.page k && not (e.marks life.page k))

-- Worker w places an object at the least index of a span that isn't allocated. All that was placed in the span in this
-- cycle is its own, and each other span of the class in which it placed something is full.
pub record MayAllocate (e : CycleSoFar) (waits : ℕ → Bool) (w : ℕ) (life : Life) (a : Placing) : Type 0 where
  pub here : In life e.known
  pub is_in : IsIn a life
  pub number : life.number ≡ a.number
  pub swept : waits a.page ≡ false
  pub below : a.index < count_for a.class
  pub free : e.bits a.page a.index ≡ false
  pub least : (j : ℕ) → j < a.index → e.bits a.page j ≡ true
  pub own : (v : ℕ) (b : Placing) → In b (placings (e.logs v)) → b.page ≡ a.page → v ≡ w
  pub left_full : (b : Placing) → In b (placings (e.logs w)) → b.class ≡ a.class → b.page ≢ a.page → (j : ℕ) → j < count_for b.class → e.bits b.page j ≡ true

-- A span is taken: no life that is known begins at its first page, and nothing is allocated there.
pub record MayTake (region goal : ℕ) (e : CycleSoFar) (page pages class : ℕ) : Type 0 where
  pub legal : IsJournal region goal (Take e.cycle page pages class ∷ past_after e)
  pub fresh : (k : ℕ) → e.bits page k ≡ false
  pub new : begins_at page e.known ≡ false

-- A span is given back: an old one, which was swept, and of which nothing is allocated.
pub record MayGiveBack (region goal : ℕ) (e : CycleSoFar) (waits : ℕ → Bool) (life : Life) : Type 0 where
  pub legal : IsJournal region goal (Give e.cycle life.page life.pages ∷ past_after e)
  pub here : In life (open_lives (past_after e))
  pub old : life.number < length e.before
  pub swept : waits life.page ≡ false
  pub empty : (k : ℕ) → e.bits life.page k ≡ false

-- A refusal names a Miss line of the cycle that no other names.
pub record MayRefuse (e : CycleSoFar) (x : Refusal) : Type 0 where
  pub named : IsNumber x.number (Miss e.cycle x.pages x.class) (past_after e)
  pub alone : (v : ℕ) (y : Refusal) → In y (refusals (e.logs v)) → y.number ≢ x.number
