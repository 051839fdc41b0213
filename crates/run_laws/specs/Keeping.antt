-- Whose the spans are in which objects were placed.
use Rattle.std.specs.Prelude.{◌≡◌, ℕ, ◌<◌, false}
use Rattle.page_alloc.specs.Lists.{In}
use Rattle.sound_run.specs.Run.{count_for}
use Rattle.worker_log.specs.declared.Placing.{Placing}
use Rattle.worker_log.specs.Logs.{placings}
use Rattle.run_laws.specs.CycleSoFar.{CycleSoFar}

-- Which worker has the span of which first page, in hand or in its cache.
abbrev pub Having : Type 1
Having = ℕ → ℕ → Type 0

-- A span is one worker's at most.
abbrev pub IsOnes : Having → Type 0
IsOnes has = (v w p : ℕ) → has v p → has w p → v ≡ w

-- A span in which a worker placed an object in this cycle, and which has room, is still that worker's.
abbrev pub KeepsRoom : CycleSoFar → Having → Type 0
KeepsRoom e has = (w : ℕ) (a : Placing) (j : ℕ) → In a (placings (e.logs w)) → j < count_for a.class → e.bits a.page j ≡ false → has w a.page

-- Of a span class, worker w has no span with room but the one of this page, among those in which it placed objects.
abbrev pub HasOneOf : CycleSoFar → Having → ℕ → ℕ → ℕ → Type 0
HasOneOf e has w class page = (b : Placing) (j : ℕ) → In b (placings (e.logs w)) → b.class ≡ class → has w b.page → j < count_for b.class → e.bits b.page j ≡ false → b.page ≡ page
