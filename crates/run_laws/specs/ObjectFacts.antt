-- What is a fact of the new objects of a cycle that has ended: which placing or refusal in the logs is whose.
use Rattle.std.specs.Prelude.{◌≡◌, ◌≢◌, ℕ, ◌+◌, ◌*◌, ◌<◌, Bool, true, false, ◌&&◌, ◌==◌, List}
use Rattle.size_classes.specs.Classes.{region_start}
use Rattle.page_bitmap.specs.declared.line.Line.{Line}
use Rattle.page_bitmap.specs.declared.line.Line.TheVariants.{Miss}
use Rattle.page_alloc.specs.Lists.{In, IsNumber, AllApart}
use Rattle.page_alloc.specs.Lives.{Life, open_lives}
use Rattle.cycle_history.specs.declared.Answer.{Answer}
use Rattle.cycle_history.specs.declared.Answer.TheVariants.{Placed, Zero, Missed}
use Rattle.cycle_history.specs.Requests.{Marking}
use Rattle.cycle_history.specs.Objects.{Object, is_placed}
use Rattle.sound_run.specs.Run.{Fits, Lasts}
use Rattle.cycle_history.specs.Profile.{placed_by}
use Rattle.run_laws.specs.Lists.{passing, ArePaired}
use Rattle.worker_log.specs.declared.Placing.{Placing}
use Rattle.worker_log.specs.Logs.{Refusal, placings, refusals}
use Rattle.run_laws.specs.CycleSoFar.{CycleSoFar, past_after}

-- An answer that is a line misses its object.
abbrev pub is_missed : Answer → Bool
is_missed (Placed address) = false
is_missed Zero = false
is_missed (Missed line) = true

-- The objects that a processor missed.
abbrev pub missed_by : ℕ → List Object → List Object
missed_by w objects = passing (λ o. o.proc == w && is_missed o.answer) objects

-- The object is the one that was placed there, in a life of the journal.
pub record IsPlacing (past : List Line) (o : Object) (a : Placing) : Type 0 where
  pub life : (life : Life) → In life (open_lives past) → life.page ≡ a.page → life.number ≡ o.life
  pub index : o.index ≡ a.index
  pub class : o.need.class ≡ a.class
  pub address : o.answer ≡ Placed (region_start + 8192 * a.page + o.need.slot * a.index)

-- The object is the one that was refused there.
pub record IsRefusal (o : Object) (x : Refusal) : Type 0 where
  pub answer : o.answer ≡ Missed x.number
  pub pages : x.pages ≡ o.need.pages
  pub class : x.class ≡ o.need.class

-- The objects of the cycle come behind all earlier ones, with rising numbers, and last as marks say. Those that a
-- processor placed or missed are, in their order, what its worker's log says; the life of a placed one has its pages.
pub record Objects (marked : Marking) (objects : List Object) (e : CycleSoFar) : Type 0 where
  pub now : (o : Object) → In o e.news → o.cycle ≡ e.cycle
  pub behind : (o b : Object) → In o e.news → In b objects → b.id < o.id
  pub order : AllApart (λ (newer older : Object). older.id < newer.id) e.news
  pub lasts : (o : Object) → In o e.news → Lasts marked o
  pub fits : (o : Object) → In o e.news → is_placed o.answer ≡ true → Fits o.need
  pub placed : (w : ℕ) → ArePaired (IsPlacing (past_after e)) (placed_by w e.news) (placings (e.logs w))
  pub missed : (w : ℕ) → ArePaired IsRefusal (missed_by w e.news) (refusals (e.logs w))
  pub pages : (o : Object) (life : Life) → In o e.news → is_placed o.answer ≡ true → In life (open_lives (past_after e)) → life.number ≡ o.life → life.pages ≡ o.need.pages

-- Each refusal has a Miss line of its own.
pub record Misses (e : CycleSoFar) : Type 0 where
  pub named : (w : ℕ) (x : Refusal) → In x (refusals (e.logs w)) → IsNumber x.number (Miss e.cycle x.pages x.class) (past_after e)
  pub apart : (w : ℕ) → AllApart (λ (x y : Refusal). x.number ≢ y.number) (refusals (e.logs w))
  pub one_log : (v w : ℕ) (x y : Refusal) → In x (refusals (e.logs v)) → In y (refusals (e.logs w)) → x.number ≡ y.number → v ≡ w
