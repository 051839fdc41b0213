-- The rule of the table: what the words of a ring of n buckets show, for the views of all seats.
use Rattle.std.specs.Prelude.{◌≡◌, ◌≢◌, ℕ, ◌+◌, ◌%◌, ◌^◌, ◌<◌, Bool, true, false, ◌||◌, ◌==◌, not, List, [], ◌∷◌, ◌++◌, length, slice_index, if◌then◌else◌}
use mathlib.Core.Option.{some}
use lib.ListN.{get_elem?}
use Rattle.atomic_table.specs.Seated.{TableId}
use Rattle.atomic_table.specs.Table.{State, Me, Step}
use Rattle.profile_cycle.specs.declared.calls.What.{What}
use Rattle.profile_cycle.specs.declared.calls.What.TheVariants.{Allocated, Freed, NextCycle, AfterSweep}
use Rattle.profile_cycle.specs.declared.words.Kind.{Kind}
use Rattle.profile_cycle.specs.declared.words.Word.{Word}
use Rattle.profile_cycle.specs.declared.words.Word.TheVariants.{Published, Waiting}
use Rattle.profile_cycle.specs.declared.sight.Sight.{Sight}
use Rattle.profile_cycle.specs.History.{one_if, publishes, first_view, noted, lent, split_off, joined}
use Rattle.profile_cycle.specs.Kept.{AreBy}
use Rattle.profile_cycle.specs.Words.{IsWord, after, before, by_row, is_odd, place, word_count}

-- ---- values

-- A number is in the list.
abbrev pub has : ℕ → List ℕ → Bool
has x [] = false
has x (y ∷ ys) = y == x || has x ys

-- A word's part that is a seat's: that of its calls, and once the word is moved that behind the next publication.
abbrev pub stands : Word → Sight → ℕ
stands w s = if has (place w) s.moved then after w s.view else before w s.view

-- The sum of a number of each view.
abbrev pub total : (Sight → ℕ) → List Sight → ℕ
total f [] = 0
total f (s ∷ ss) = f s + total f ss

-- The buckets that a seat has noted for the even cycles, or for the odd ones.
abbrev pub noted_for : Bool → Sight → List ℕ
noted_for odd s = by_row odd (is_odd s.view.cycle) s.later s.due

-- ---- views

-- The driver's view of a new ring.
abbrev pub first_sight : Sight
first_sight = record { view = first_view; lent = false; due = []; later = []; moved = [] }

-- What a seat is left with that was joined.
abbrev pub spent_sight : Sight
spent_sight = record { view = record { calls = []; cycle = 0; drives = false; out = 0 }; lent = false; due = []; later = []; moved = [] }

-- A bucket is noted where its word was 0.
abbrev pub noted_at : ℕ → ℕ → List ℕ → List ℕ
noted_at b found list = if found == 0 then b ∷ list else list

abbrev pub due_after : What → ℕ → Sight → List ℕ
due_after (Allocated b) found s = s.due
due_after (Freed b) found s = noted_at b found s.due
due_after NextCycle found s = s.due
due_after AfterSweep found s = s.due

abbrev pub later_after : What → ℕ → Sight → List ℕ
later_after (Allocated b) found s = noted_at b found s.later
later_after (Freed b) found s = s.later
later_after NextCycle found s = s.later
later_after AfterSweep found s = s.later

-- A call counts, and finds a number in its word.
abbrev pub counted : What → ℕ → Sight → Sight
counted what found s = record { view = noted s.view what; lent = s.lent; due = due_after what found s; later = later_after what found s; moved = s.moved }

-- A word is moved.
abbrev pub moves : ℕ → Sight → Sight
moves p s = record s { moved = p ∷ s.moved }

-- All is moved, and the publishing call is made.
abbrev pub published_sight : What → Sight → Sight
published_sight (Allocated b) s = s
published_sight (Freed b) s = s
published_sight NextCycle s = record { view = noted s.view NextCycle; lent = s.lent; due = s.later; later = []; moved = [] }
published_sight AfterSweep s = record { view = noted s.view AfterSweep; lent = s.lent; due = []; later = s.later; moved = [] }

-- A tally is split off: what is left, and the other.
abbrev pub lent_sight : Sight → Sight
lent_sight s = record s { view = lent s.view }

abbrev pub split_sight : Sight → Sight
split_sight s = record { view = split_off s.view; lent = true; due = []; later = []; moved = [] }

-- Another is joined.
abbrev pub joined_sight : Sight → Sight → Sight
joined_sight s u = record { view = joined s.view u.view; lent = s.lent; due = u.due ++ s.due; later = u.later ++ s.later; moved = s.moved }

-- ---- the rule

-- Of one seat: only the driver's has a number of tallies out, and one that is neither the driver's nor lent is spent.
pub record Seated (driver i : ℕ) (s : Sight) : Type 0 where
  pub drives : s.view.drives ≡ true → i ≡ driver
  pub out : s.view.drives ≡ false → s.view.out ≡ 0
  pub spent : s.view.drives ≡ false → s.lent ≡ false → s ≡ spent_sight

-- A seat has noted the bucket.
pub record Noted (odd : Bool) (b : ℕ) (views : List Sight) : Type 0 where
  pub id : ℕ
  pub sight : Sight
  pub is : get_elem? views id ≡ some sight
  pub has_it : has b (noted_for odd sight) ≡ true

-- Each word is the sum of its parts of all views, modulo 2^64; as many tallies are lent as the driver has out; and a
-- bucket of which anything waits is noted.
pub record Ruled (n : ℕ) (s : State (Unit {0}) Sight) : Type 0 where
  pub driver : ℕ
  pub size : length s.words ≡ word_count n
  pub seats : (i : ℕ) (v : Sight) → get_elem? s.views i ≡ some v → Seated driver i v
  pub out : total (λ v. v.view.out) s.views ≡ total (λ v. one_if v.lent) s.views
  pub words : (w : Word) → IsWord n w → slice_index s.words (place w) ≡ total (stands w) s.views % 2 ^ 64
  pub noted : (k : Kind) (odd : Bool) (b : ℕ) → b < n → slice_index s.words (place (Waiting k odd b)) ≢ 0 → Noted odd b s.views

-- ---- what steps tell

-- The number that is found is the seat's own part, and nothing changes.
abbrev pub Found : Step (Unit {0}) → Me (Unit {0}) Sight → ℕ → Me (Unit {0}) Sight → Type 0
Found st m n w = (w ≡ m) × ((k : Word) → st.word ≡ place k → n ≡ stands k m.0 % 2 ^ 64)

-- ---- seats

-- A seat is of the table, which has the words of n buckets.
pub record Fits (table : TableId) (n : ℕ) (seat : TableId) : Type 0 where
  pub same : seat ≡ table
  pub size : table.words ≡ word_count n

-- The seat may count: its calls carry no later cycle, and no publication is under way.
pub record MayCount (s : Sight) : Type 0 where
  pub by : AreBy s.view.cycle s.view.calls
  pub lent : s.lent ≡ not s.view.drives
  pub moved : s.moved ≡ []

-- The seat is the driver's, and no other tally is out.
pub record IsAlone (s : Sight) : Type 0 where
  pub drives : s.view.drives ≡ true
  pub out : s.view.out ≡ 0

-- Of what waits for the next cycle nothing is left, modulo 2^64.
abbrev pub IsMoved : Sight → Kind → ℕ → Type 0
IsMoved s k b = stands (Waiting k (not (is_odd s.view.cycle)) b) s % 2 ^ 64 ≡ 0

-- A publication is under way: what is published has a sum exactly where what waits is 0, and of what waits for the cycle
-- behind the next nothing is moved.
pub record IsPublishing (s : Sight) : Type 0 where
  pub by : AreBy s.view.cycle s.view.calls
  pub lent : s.lent ≡ not s.view.drives
  pub paired : (k : Kind) (b : ℕ) → has (place (Published k b)) s.moved ≡ has (place (Waiting k (not (is_odd s.view.cycle)) b)) s.moved
  pub later : (k : Kind) (b : ℕ) → has (place (Waiting k (is_odd s.view.cycle) b)) s.moved ≡ false

-- It went on, and nothing was undone.
pub record GoesOn (s s' : Sight) : Type 0 where
  pub same : s' ≡ record s { moved = s'.moved }
  pub publishing : IsPublishing s'
  pub still : (k : Kind) (b : ℕ) → IsMoved s k b → IsMoved s' k b

-- The call publishes.
abbrev pub IsPublication : What → Type 0
IsPublication what = publishes what ≡ true
