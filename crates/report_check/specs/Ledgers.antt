-- What is known of the lives as the items of a cycle come, and what that tells of its mark end.
use Rattle.std.specs.Prelude.{◌≡◌, ℕ, ◌+◌, ◌-◌, ◌<◌, ◌≤◌, ◌&&◌, nat_le, Bool, true, List, length, take, Some, slice_index_or, ◌↔◌}
use Rattle.std.specs.List.{slice_get}
use Rattle.page_alloc.specs.Lists.{count}
use Rattle.page_alloc.specs.Lives.{Life}
use Rattle.page_alloc.specs.Journal.{IsBy, at_end, past_of}
use Rattle.trace_reader.specs.declared.trace.Trace.{Trace}
use Rattle.cycle_history.specs.declared.Report.{Report}
use Rattle.cycle_history.specs.Requests.{marked_by, region_of}
use Rattle.cycle_history.specs.Objects.{Object, freed, is_placed, kept}
use Rattle.cycle_history.specs.Sweeps.{IsUsedAgain}
use Rattle.cycle_history.specs.Sound.{past_in}
use Rattle.report_check.specs.declared.items.Item.{Item}
use Rattle.report_check.specs.declared.cycle_lives.Opened.{Opened}
use Rattle.report_check.specs.declared.ledger.Alive.{Alive}
use Rattle.report_check.specs.declared.ledger.Ledger.{Ledger}
use Rattle.report_check.specs.Items.{objects_of}
use Rattle.report_check.specs.Lasts.{last_at}
use Rattle.report_check.specs.Lives.{AreLives}
use Rattle.report_check.specs.Tallies.{alive_of, CountsAlive, tally_at, kept_in, freed_in}

-- The table has the lives that are open once so many of the journal's lines are taken up, none of which is of a cycle
-- behind c.
pub record IsOpenTo (t : Trace) (report : Report) (c : ℕ) (opened : Opened) : Type 0 where
  pub inside : opened.read ≤ length report.journal
  pub by : IsBy c (past_of (take opened.read report.journal))
  pub lives : AreLives (region_of t) (past_of (take opened.read report.journal)) opened.lives.items

-- The newest cycle in which an object is placed in a life; 0 where there is none.
abbrev pub used_at : List ℕ → ℕ → ℕ
used_at used life = slice_index_or used life 0

-- The newest cycles are those of the first n items.
pub record AreUsed (items : List Item) (n : ℕ) (used : List ℕ) : Type 0 where
  pub some : (life : ℕ) → 1 ≤ used_at used life → (i : ℕ) × (item : Item) × (i < n) × (slice_get items i ≡ Some item) × (is_placed item.answer ≡ true) × (item.life ≡ life) × (item.cycle ≡ used_at used life)
  pub each : (i : ℕ) (item : Item) → i < n → slice_get items i ≡ Some item → is_placed item.answer ≡ true → item.life < length used → item.cycle ≤ used_at used item.life

-- The cycles of the first n items never fall.
abbrev pub AscendTo : List Item → ℕ → Type 0
AscendTo items n = (i j : ℕ) (a b : Item) → i ≤ j → j < n → slice_get items i ≡ Some a → slice_get items j ≡ Some b → a.cycle ≤ b.cycle

-- An item with its last cycle, as far as it is counted.
abbrev pub entry_at : List ℕ → ℕ → Item → Alive
entry_at lasts i item = record { life = item.life; last = last_at lasts i }

-- How many placed items of the first n, but for the first m, pass a test as they are counted.
abbrev pub added : List Item → List ℕ → ℕ → ℕ → (Alive → Bool) → ℕ
added items lasts m n test = count (λ o. nat_le m o.id && (is_placed o.answer && test (alive_of lasts o))) (objects_of (take n items))

-- The placed items from number m up to n came: they are counted besides those of the list, and their lives are used in
-- their cycles.
pub record AddsItems (items : List Item) (lasts : List ℕ) (m n : ℕ) (old new : List Alive) (before after : List ℕ) : Type 0 where
  pub counts : (test : Alive → Bool) → count test new ≡ count test old + added items lasts m n test
  pub size : length after ≡ length before
  pub uses : AreUsed items m before → m ≤ n → AscendTo items n → AreUsed items n after

-- What is known of the lives once the objects of cycle c came.
pub record IsLedger (t : Trace) (report : Report) (items : List Item) (lasts : List ℕ) (c first : ℕ) (ledger : Ledger) : Type 0 where
  pub before : IsOpenTo t report (c - 1) ledger.before
  pub after : IsOpenTo t report c ledger.after
  pub seen : ledger.seen ≡ first
  pub alive : CountsAlive t items lasts c first ledger.alive.items
  pub tallies : (life : ℕ) → (tally_at ledger.tallies.items life).cycle ≤ c
  pub used : AreUsed items first ledger.used.items
  pub room : (length ledger.tallies.items ≡ length report.journal) × (length ledger.used.items ≡ length report.journal)

-- What the ledger tells of mark end c: the lives before it and behind it, what of them was kept and freed, and which were
-- used again.
pub record TellsMarkEnd (t : Trace) (report : Report) (objects : List Object) (c : ℕ) (ledger : Ledger) : Type 0 where
  pub before : AreLives (region_of t) (at_end (c - 1) (past_in report)) ledger.before.lives.items
  pub after : AreLives (region_of t) (at_end c (past_in report)) ledger.after.lives.items
  pub kept_is : (life : ℕ) → life < length report.journal → kept_in (tally_at ledger.tallies.items life) c ≡ kept (marked_by t) objects c life
  pub freed_is : (life : ℕ) → life < length report.journal → freed_in (tally_at ledger.tallies.items life) c ≡ freed (marked_by t) objects c life
  pub used_is : (life : Life) → life.number < length report.journal → (used_at ledger.used.items life.number ≡ c) ↔ IsUsedAgain objects c life
