-- A run of two processors: in cycle 0 one places an object, and the other fills a span and places a large object; a mark end
-- marks an object of each span. In cycle 1 the second processor sweeps its own stale span and goes on in it, while the
-- first one's stays cached and stale, and the large span waits. As the cycle ends the driver has the first processor's span
-- flushed, and sweeps the large one and gives it back.
use Rattle.std.specs.Prelude.{ℕ, zero, suc, ◌+◌, ◌*◌, Bool, false, ◌&&◌, ◌||◌, ◌==◌, List, [], ◌∷◌, ◌++◌}
use Rattle.page_bitmap.specs.declared.line.Line.{Line}
use Rattle.page_bitmap.specs.declared.line.Line.TheVariants.{Take, Give}
use Rattle.page_alloc.specs.Lists.{In}
use Rattle.page_alloc.specs.Lives.{Life, open_lives}
use Rattle.span_state.specs.declared.sweep.SweepNote.{SweepNote}
use Rattle.cycle_history.specs.declared.Answer.TheVariants.{Placed}
use Rattle.cycle_history.specs.Requests.{Marking}
use Rattle.cycle_history.specs.Needs.{Need}
use Rattle.cycle_history.specs.Objects.{Object}
use Rattle.worker_log.specs.declared.Entry.{Entry}
use Rattle.worker_log.specs.declared.Entry.TheVariants.{Allocated, Swept, Pushed}
use Rattle.run_laws.specs.CycleSoFar.{CycleSoFar, past_after}

-- ---- all items of a list

abbrev pub All : {X : Type 0} → (X → Type 0) → List X → Type 0
All P [] = Unit {0}
All P (x ∷ xs) = P x × All P xs

-- ---- cycle 0

abbrev pub marked : Marking
marked m id = m == 1 && (id == 0 || id == 2)

abbrev pub small : Need
small = record { class = 88; pages = 1; slot = 4096; count = 2 }

abbrev pub large : Need
large = record { class = 1; pages = 5; slot = 40960; count = 1 }

abbrev pub object : ℕ → ℕ → ℕ → Need → ℕ → ℕ → ℕ → Object
object id proc cycle need page life index = record { id = id; proc = proc; cycle = cycle; need = need; answer = Placed (0xc000000000 + 8192 * page + need.slot * index); life = life; index = index }

abbrev pub at : ℕ → ℕ → ℕ → ℕ → Entry
at page index number class = Allocated record { page = page; index = index; number = number; class = class }

abbrev pub first : List Object
first = object 3 1 0 large 2 2 0 ∷ object 2 1 0 small 1 1 1 ∷ object 1 1 0 small 1 1 0 ∷ object 0 0 0 small 0 0 0 ∷ []

abbrev pub lines0 : List Line
lines0 = Take 0 2 5 1 ∷ Take 0 1 1 88 ∷ Take 0 0 1 88 ∷ []

abbrev pub logs0 : ℕ → List Entry
logs0 zero = at 0 0 0 88 ∷ Pushed 0 0 ∷ []
logs0 (suc zero) = at 2 0 2 1 ∷ at 1 1 1 88 ∷ at 1 0 1 88 ∷ []
logs0 (suc (suc w)) = []

abbrev pub bits0 : ℕ → ℕ → Bool
bits0 zero k = k == 0
bits0 (suc zero) k = k == 0 || k == 1
bits0 (suc (suc zero)) k = k == 0
bits0 (suc (suc (suc n))) k = false

abbrev pub none : ℕ → ℕ → Bool
none n k = false

abbrev pub cycle0 : CycleSoFar
cycle0 = record { cycle = 0; before = []; lines = lines0; known = open_lives lines0; carried = none; marks = none; bits = bits0; logs = logs0; news = first; notes = [] }

abbrev pub Open0 : Life → Type 0
Open0 life = In life (open_lives (past_after cycle0))

-- ---- cycle 1

abbrev pub lines1 : List Line
lines1 = Give 1 2 5 ∷ []

-- The logs of workers 0, 1 and 2.
abbrev pub logs_of : List Entry → List Entry → List Entry → ℕ → List Entry
logs_of a b c zero = a
logs_of a b c (suc zero) = b
logs_of a b c (suc (suc zero)) = c
logs_of a b c (suc (suc (suc w))) = []

abbrev pub swept : ℕ → ℕ → ℕ → Entry
swept page kept freed = Swept record { page = page; pages = 1; kept = kept; freed = freed }

-- Worker 2 stands for the driver.
abbrev pub logs1 : ℕ → List Entry
logs1 = logs_of (swept 0 1 0 ∷ []) (at 1 0 1 88 ∷ swept 1 1 1 ∷ []) (Pushed 0 0 ∷ swept 2 0 1 ∷ [])

abbrev pub marks1 : ℕ → ℕ → Bool
marks1 zero k = k == 0
marks1 (suc zero) k = k == 1
marks1 (suc (suc p)) k = false

abbrev pub bits1 : ℕ → ℕ → Bool
bits1 zero k = k == 0
bits1 (suc zero) k = k == 0 || k == 1
bits1 (suc (suc n)) k = false

abbrev pub second : List Object
second = object 4 1 1 small 1 1 0 ∷ []

abbrev pub note : ℕ → ℕ → ℕ → SweepNote
note page kept freed = record { cycle = 1; page = page; kept = kept; freed = freed }

abbrev pub notes1 : List SweepNote
notes1 = note 2 0 1 ∷ note 1 1 1 ∷ note 0 1 0 ∷ []

abbrev pub cycle1 : CycleSoFar
cycle1 = record { cycle = 1; before = lines0; lines = lines1; known = open_lives (lines1 ++ lines0); carried = bits0; marks = marks1; bits = bits1; logs = logs1; news = second; notes = notes1 }

abbrev pub Open1 : Life → Type 0
Open1 life = In life (open_lives (past_after cycle1))
