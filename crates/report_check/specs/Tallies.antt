-- What is counted of the lives from mark end to mark end: how many of a life's objects a cycle kept, and how many it freed.
use Rattle.std.specs.Prelude.{◌≡◌, ℕ, ◌<◌, ◌≤◌, ◌==◌, ◌&&◌, not, nat_le, if◌then◌else◌, Bool, List, length, take, slice_index_or}
use Rattle.page_alloc.specs.Lists.{count}
use Rattle.trace_reader.specs.declared.trace.Trace.{Trace}
use Rattle.cycle_history.specs.Requests.{marked_by}
use Rattle.cycle_history.specs.Objects.{Object, live}
use Rattle.report_check.specs.declared.items.Item.{Item}
use Rattle.report_check.specs.declared.ledger.Alive.{Alive}
use Rattle.report_check.specs.declared.ledger.Tally.{Tally}
use Rattle.report_check.specs.Items.{objects_of}
use Rattle.report_check.specs.Lasts.{last_at}

-- An object, as far as it is counted: its life and its last cycle.
abbrev pub alive_of : List ℕ → Object → Alive
alive_of lasts o = record { life = o.life; last = last_at lasts o.id }

-- The list counts the objects of the first n items that live in cycle c, whatever is counted of them.
abbrev pub CountsAlive : Trace → List Item → List ℕ → ℕ → ℕ → List Alive → Type 0
CountsAlive t items lasts c n alive = (test : Alive → Bool) → count test alive ≡ count (λ o. live (marked_by t) c o && test (alive_of lasts o)) (objects_of (take n items))

-- The object is of the life, and the mark end of the cycle marks it, or doesn't.
abbrev pub is_kept : ℕ → ℕ → Alive → Bool
is_kept cycle life a = a.life == life && nat_le cycle a.last

abbrev pub is_freed : ℕ → ℕ → Alive → Bool
is_freed cycle life a = a.life == life && not (nat_le cycle a.last)

-- What was counted of a life, and how many were kept or freed in the cycle.
abbrev pub tally_at : List Tally → ℕ → Tally
tally_at tallies life = slice_index_or tallies life (record { cycle = 0; kept = 0; freed = 0 })

abbrev pub kept_in : Tally → ℕ → ℕ
kept_in tally cycle = if tally.cycle == cycle then tally.kept else 0

abbrev pub freed_in : Tally → ℕ → ℕ
freed_in tally cycle = if tally.cycle == cycle then tally.freed else 0

-- Of each life those objects of the list were counted that the mark end of the cycle marks, and those that it doesn't.
pub record AreTallied (cycle : ℕ) (alive : List Alive) (tallies : List Tally) : Type 0 where
  pub kept : (life : ℕ) → life < length tallies → kept_in (tally_at tallies life) cycle ≡ count (is_kept cycle life) alive
  pub freed : (life : ℕ) → life < length tallies → freed_in (tally_at tallies life) cycle ≡ count (is_freed cycle life) alive
  pub newest : (life : ℕ) → (tally_at tallies life).cycle ≤ cycle

-- Nothing was counted for the cycle or a later one.
abbrev pub AreBefore : ℕ → List Tally → Type 0
AreBefore cycle tallies = (life : ℕ) → (tally_at tallies life).cycle < cycle
