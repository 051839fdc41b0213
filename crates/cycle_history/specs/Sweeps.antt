-- The rules on what a report says of sweeps, and of the objects of each size class.
use Rattle.std.specs.Prelude.{◌≡◌, ℕ, suc, ◌/◌, ◌<◌, ◌≤◌, Bool, true, ◌&&◌, ◌==◌, not, List, [], ◌∷◌, ◌⊎◌}
use Rattle.page_bitmap.specs.declared.line.Line.{Line}
use Rattle.page_bitmap.specs.declared.line.Line.TheVariants.{Take, Miss, Give, Scav, Pull, Cut, Drop}
use Rattle.page_alloc.specs.Lists.{In, count}
use Rattle.page_alloc.specs.Lives.{Life, open_lives}
use Rattle.page_alloc.specs.Journal.{at_end}
use Rattle.span_state.specs.declared.sweep.SweepNote.{SweepNote}
use Rattle.cycle_history.specs.declared.Total.{Total}
use Rattle.cycle_history.specs.Requests.{Marking}
use Rattle.cycle_history.specs.Objects.{Object, is_placed, live, kept, freed}
use Rattle.cycle_history.specs.Orders.{AreRisingSweeps, AreRisingTotals}

-- A life is open at the end of cycle m. The next mark end, number m + 1, finds it alive, and cycle m + 1 sweeps it.
abbrev pub IsOpenAfter : List Line → ℕ → Life → Type 0
IsOpenAfter past m life = In life (open_lives (at_end m past))

-- An object of this cycle is placed in the life.
abbrev pub IsUsedAgain : List Object → ℕ → Life → Type 0
IsUsedAgain objects c life = (o : Object) × In o objects × (o.life ≡ life.number) × (o.cycle ≡ c) × (is_placed o.answer ≡ true)

-- A sweep is that of a life in cycle m where it names the life's first page, and counts the life's objects that mark
-- end m marks, and those that lived before it and aren't marked.
pub record IsNote (marked : Marking) (objects : List Object) (m : ℕ) (life : Life) (note : SweepNote) : Type 0 where
  pub cycle : note.cycle ≡ m
  pub page : note.page ≡ life.page
  pub kept : note.kept ≡ kept marked objects m life.number
  pub freed : note.freed ≡ freed marked objects m life.number

-- Each Give is of a life of an earlier cycle, none of whose objects the mark end of the Give's cycle marks.
abbrev pub GivesWhenEmpty : Marking → List Object → List Line → Type 0
GivesWhenEmpty marked objects [] = Unit {0}
GivesWhenEmpty marked objects (Take cycle page pages class ∷ past) = GivesWhenEmpty marked objects past
GivesWhenEmpty marked objects (Miss cycle pages class ∷ past) = GivesWhenEmpty marked objects past
GivesWhenEmpty marked objects (Scav cycle page pages ∷ past) = GivesWhenEmpty marked objects past
GivesWhenEmpty marked objects (Pull cycle proc page pages ∷ past) = GivesWhenEmpty marked objects past
GivesWhenEmpty marked objects (Cut cycle proc page pages class ∷ past) = GivesWhenEmpty marked objects past
GivesWhenEmpty marked objects (Drop cycle proc page pages ∷ past) = GivesWhenEmpty marked objects past
GivesWhenEmpty marked objects (Give cycle page pages ∷ past) =
    ((life : Life) → In life (open_lives past) → life.page ≡ page → (life.cycle < cycle) × (kept marked objects cycle life.number ≡ 0))
    × GivesWhenEmpty marked objects past

-- Rule 7, sweeps. Each life that a mark end finds alive has its one sweep in the cycle after it, and there are no other
-- sweeps; a life is given back only where its sweep kept nothing; and where it did, the life is given back in that cycle,
-- or an object of that cycle is placed in it.
pub record AreSwept (marked : Marking) (last : ℕ) (past : List Line) (objects : List Object) (sweeps : List SweepNote) : Type 0 where
  pub order : AreRisingSweeps sweeps
  pub each : (m : ℕ) (life : Life) → m < last → IsOpenAfter past m life → (note : SweepNote) × In note sweeps × IsNote marked objects (suc m) life note
  pub no_other : (note : SweepNote) → In note sweeps → (m : ℕ) × (life : Life) × (m < last) × IsOpenAfter past m life × IsNote marked objects (suc m) life note
  pub gives : GivesWhenEmpty marked objects past
  pub empty : (m : ℕ) (life : Life) → m < last → IsOpenAfter past m life → kept marked objects (suc m) life.number ≡ 0
      → (¬ IsOpenAfter past (suc m) life) ⊎ IsUsedAgain objects (suc m) life

-- An object is placed in a span of this size class; a size class has two span classes.
abbrev pub is_placed_of : ℕ → Object → Bool
is_placed_of class o = is_placed o.answer && (o.need.class / 2 == class)

-- A total is right where it counts at least one object: the placed ones of its class, and those of them that don't live
-- in the last cycle.
pub record IsTotal (marked : Marking) (last : ℕ) (objects : List Object) (total : Total) : Type 0 where
  pub some : 1 ≤ total.mallocs
  pub mallocs : total.mallocs ≡ count (is_placed_of total.class) objects
  pub frees : total.frees ≡ count (λ o. is_placed_of total.class o && not (live marked last o)) objects

-- Rule 8, totals. There is one total for each size class of a placed object, and no other.
pub record AreTotals (marked : Marking) (last : ℕ) (objects : List Object) (totals : List Total) : Type 0 where
  pub order : AreRisingTotals totals
  pub right : (total : Total) → In total totals → IsTotal marked last objects total
  pub each : (o : Object) → In o objects → is_placed o.answer ≡ true → (total : Total) × In total totals × (total.class ≡ o.need.class / 2)
