-- The rule while a mark end is under way, and the rule of the table at any time.
use Rattle.table_words.specs.Names.{Name, EventWord}
use Rattle.sweep_laws.specs.State.{CoreState}
use Rattle.block_laws.specs.Blocked.{BlockState}
use Rattle.std.specs.Prelude.{◌≡◌, ◌⊎◌, ℕ, ◌+◌, true, false, [], map, slice_set, unwrap_or, Some, None, List, slice_index}
use Rattle.std.proofs.Common.{inl, inr}
use mathlib.Core.Option.{some}
use lib.ListN.{get_elem?}
use Rattle.atomic_table.specs.Table.{State}
use Rattle.span_laws.specs.MarkEnds.{marked}
use Rattle.span_table.specs.Emptied.{Emptied, no_emptying}
use Rattle.span_table.specs.Running.{JointState, Running, value}
use Rattle.span_table.specs.declared.view.Emptying.{Emptying}
use Rattle.span_table.specs.declared.view.Item.{Item}
use Rattle.span_table.specs.declared.view.SeatView.{SeatView}

-- the driver's view while a mark end is under way: its seat is not out, so that no other step is its own
abbrev pub turning : Emptying → SeatView → SeatView
turning e w = record w { out = false; emptying = e }

-- the driver's view behind a mark end with these marks, which drops all spares
abbrev pub turned_over : List (ℕ × ℕ) → SeatView → SeatView
turned_over marks w = record w { out = true; journal = None; spares = map (λ _. 0) w.spares; found = None; view = marked w.number (unwrap_or w.journal []) marks w.view; emptying = no_emptying }

-- what a word that stays shows: the words of the workers' allocations are as they were
abbrev pub value_kept : CoreState → BlockState → ℕ → List ℕ → Name → ℕ
value_kept c b lock ws (EventWord n) = slice_index ws (n + 5)
value_kept c b lock ws k = value c b lock k

-- the tail of the next set is read; the block of its next cell is; that cell is empty; an entry of its spine is; the set is; a counter is 0; no block is
-- drawn any more
abbrev pub measures : ℕ → Emptying → Emptying
measures t e = record e { tail = Some t }

abbrev pub empties_cell : Emptying → Emptying
empties_cell e = record e { cells = e.cells + 1; block = 0 }

abbrev pub finds_block : ℕ → Emptying → Emptying
finds_block x e = record e { block = x }

abbrev pub empties_entry : Emptying → Emptying
empties_entry e = record e { entries = e.entries + 1 }

abbrev pub empties_set : Emptying → Emptying
empties_set e = record e { sets = e.sets + 1; cells = 0; block = 0; entries = 0; tail = None }

abbrev pub empties_counter : Emptying → Emptying
empties_counter e = record e { counters = e.counters + 1 }

abbrev pub empties_drawn : Emptying → Emptying
empties_drawn e = record e { undrawn = true }

-- so many of its cells, or of its spine's entries, are empty
abbrev pub has_cells : ℕ → Emptying → Emptying
has_cells n e = record e { cells = n; block = 0 }

abbrev pub has_entries : ℕ → Emptying → Emptying
has_entries n e = record e { entries = n }

abbrev pub goes_on : (Emptying → Emptying) → SeatView → SeatView
goes_on f w = record w { emptying = f w.emptying }

-- the driver's seat at a mark end
abbrev pub IsTurning : SeatView → Type 0
IsTurning w = (w.drives ≡ true) × (w.out ≡ false)

-- where so many sets are empty, and nothing else is yet
abbrev pub with_sets : ℕ → SeatView → SeatView
with_sets n w = record w { emptying = record no_emptying { sets = n } }

-- the driver is alone, and has nothing in hand
pub record IsAlone (w : SeatView) : Type 0 where
  pub drives : w.drives ≡ true
  pub home : w.away ≡ []
  pub unlocked : w.heap ≡ None
  pub slot_out : w.slot_out ≡ 0
  pub bare : w.view.own.cache ≡ None

-- A mark end is under way. The table is what it was as the mark end began, `before`, but for the driver's view and for the words that are emptied
-- before the new generation is stored.
pub record Turning (R : ℕ) (s : State Item SeatView) : Type 0 where
  pub before : State Item SeatView
  pub run : Running R before
  pub driver : SeatView
  pub at : get_elem? before.views run.joint.driver ≡ some driver
  pub alone : IsAlone driver
  pub emptying : Emptying
  pub words : Emptied R (value_kept run.joint.core run.blocks run.joint.lock before.words) run.joint.core run.blocks emptying s.words
  pub homes : s.homes ≡ before.homes
  pub views : s.views ≡ slice_set before.views run.joint.driver (turning emptying driver)

-- The rule of the table: it runs, or the driver, alone, is at a mark end.
abbrev pub Ruled : ℕ → State Item SeatView → Type 0
Ruled R s = Running R s ⊎ Turning R s

-- what the table shows; at a mark end it is what it showed as that began
abbrev pub joint_of : (R : ℕ) (s : State Item SeatView) → Ruled R s → JointState
joint_of R s (inl r) = r.joint
joint_of R s (inr t) = t.run.joint
