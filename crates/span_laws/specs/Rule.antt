-- The rule of the lent state.
use Rattle.std.specs.Prelude.{◌≡◌, ℕ, ◌-◌, ◌/◌, ◌^◌, ◌<◌, ◌≤◌, List, map, length, Option, None}
use Rattle.size_classes.specs.declared.TheConstants.{MAX_PAGES}
use Rattle.span_state.specs.declared.body.Body.{Body}
use Rattle.sweep_laws.specs.State.{CoreState}
use Rattle.sweep_laws.specs.OwnedLives.{EachAt}
use Rattle.sweep_laws.specs.Owned.{Owned}
use Rattle.sweep_laws.specs.Tidy.{IsTidy, HasSpace}
use Rattle.page_alloc.specs.Heap.{PageHeap}
use Rattle.page_alloc.specs.Lives.{Life}
use Rattle.page_alloc.specs.Journal.{AreAllowed, IsBy}
use Rattle.sound_run.specs.Run.{IsJournal}
use Rattle.span_laws.specs.declared.view.View.{View}
use Rattle.worker_log.specs.declared.Entry.{Entry}
use Rattle.span_laws.specs.Bodies.{Bodies, Marked}
use Rattle.span_laws.specs.Caches.{CacheTells}
use Rattle.swept_set_laws.specs.Entered.{Entered}
use Rattle.span_laws.specs.Tells.{Tells}
use Rattle.span_laws.specs.Views.{hand_state, parts_of}

-- the logs of all workers, by number
abbrev pub logs_of : ℕ → View → List (List Entry)
logs_of n v = map (λ h. h.log) (parts_of n v)

-- what holds of a core, the pages, the bodies at home, a worker's number and the view of its seat
pub record Rule (c : CoreState) (heap : PageHeap) (homes : List (Option Body)) (n : ℕ) (v : View) : Type 0 where
  pub owned : Owned c
  pub tidy : IsTidy c
  pub space : HasSpace c
  pub unlocked : c.lock ≡ None
  pub number : n < length v.parts
  pub hands : c.hands ≡ map hand_state (parts_of n v)
  pub region : v.region ≡ length c.words
  pub small : length c.words ≤ MAX_PAGES
  pub goal : v.goal ≡ heap.goal
  pub generation : v.generation ≡ c.generation
  pub sets : length c.sets ≡ 544
  pub heap_region : heap.region ≡ length c.words
  pub legal : IsJournal heap.region heap.goal heap.past
  pub allowed : AreAllowed v.procs heap.past
  pub cycle : IsBy ((c.generation - 4) / 2) heap.past
  pub early : c.generation ≤ 2 ^ 33
  pub names : ℕ → ℕ → ℕ
  pub entered : Entered c.generation (length c.words) c.words c.lives c.sets c.hands (logs_of n v) names
  pub known : List Life
  pub bodies : Bodies (length c.words) known c.lives homes (parts_of n v)
  pub marks : Marked c.generation c.words c.lives v.marks
  pub tells : EachAt (parts_of n v) (λ m h. Tells c.generation c.words c.lives c.sets h)
  pub caches : EachAt (parts_of n v) (λ m h. CacheTells m h)
