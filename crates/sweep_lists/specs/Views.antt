-- What the parts of a core show: lists with room as plain lists.
use Rattle.std.specs.Prelude.{ℕ, ◌≤◌}
use Rattle.sweep_lists.specs.declared.hand.CoreHand.{CoreHand}
use Rattle.sweep_lists.specs.declared.life.Life.{Life}
use Rattle.sweep_lists.specs.declared.set.CoreSet.{CoreSet}
use Rattle.sweep_laws.specs.State.{HandState, LifeState, SetState}

abbrev pub hand_view : CoreHand → HandState
hand_view h = record {
  sweeping = h.sweeping.items;
  held = h.held.items;
  cached = h.cached.items;
  popped = h.popped.items;
  claimed = h.claimed;
  swept = h.swept.items;
  pulled = h.pulled.items;
}

abbrev pub life_view : Life → LifeState
life_view l = record {
  page = l.page;
  pages = l.pages;
  count = l.count;
  class = l.class;
  allocated = l.allocated.items;
  kept = l.kept.items;
}

abbrev pub set_view : CoreSet → SetState
set_view s = record { head = s.head; tail = s.tail; cells = s.cells.items }

-- each list of the hand has room, and the tables of its lists of spans and of pulled pages reach over so many pages
pub record HandRoom (pages room : ℕ) (h : CoreHand) : Type 0 where
  pub sweeping : room ≤ h.sweeping.space
  pub held : room ≤ h.held.space
  pub cached : room ≤ h.cached.space
  pub popped : room ≤ h.popped.space
  pub swept : room ≤ h.swept.space
  pub pulled : room ≤ h.pulled.space
  pub sweeping_table : pages ≤ h.sweeping.reach
  pub held_table : pages ≤ h.held.reach
  pub cached_table : pages ≤ h.cached.reach
  pub popped_table : pages ≤ h.popped.reach
  pub pulled_table : pages ≤ h.pulled.reach

-- both lists of the life have room for all its objects, and the table of the allocated ones reaches over them
pub record LifeRoom (l : Life) : Type 0 where
  pub allocated : l.count ≤ l.allocated.space
  pub kept : l.count ≤ l.kept.space
  pub table : l.count ≤ l.allocated.reach
