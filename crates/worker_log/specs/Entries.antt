-- What a call did, told by the entries that a log gained: how many of them pass a test, and the tests. A log has its newest entry first.
use Rattle.std.specs.Prelude.{◌≡◌, ℕ, ◌+◌, ◌==◌, ◌&&◌, Bool, true, false, not, List, [], ◌∷◌, ◌++◌}
use Rattle.page_bitmap.specs.Counts.{one_if}
use Rattle.worker_log.specs.declared.Entry.{Entry}
use Rattle.worker_log.specs.declared.Entry.TheVariants.{Looked, LookedEmptyCell, Popped, Pushed, Swept, Took, Missed, Gave, Allocated, Found, Read, Added, Pulled, NoPage, Cut, NoCut, Settled}
use Rattle.worker_log.specs.SetNumbers.{is_full_set}

-- The entry is one that the laws of a run don't look at: what a worker looked at, popped, pushed, read or added, and where it
-- found no page to pull or no run to cut.
abbrev pub is_quiet : Entry → Bool
is_quiet (Allocated a) = false
is_quiet (Swept s) = false
is_quiet (Missed number line) = false
is_quiet (Took number line) = false
is_quiet (Gave page pages) = false
is_quiet (Looked set head tail) = true
is_quiet (LookedEmptyCell set index) = true
is_quiet (Popped set page) = true
is_quiet (Pushed set page) = true
is_quiet (Found page word) = true
is_quiet (Read word value) = true
is_quiet (Added word value) = true
is_quiet (Pulled number line) = false
is_quiet NoPage = true
is_quiet (Cut page pages class) = false
is_quiet (NoCut pages left) = true
is_quiet (Settled number) = false

-- How many entries pass a test.
abbrev pub many : (Entry → Bool) → List Entry → ℕ
many test [] = 0
many test (e ∷ log) = one_if (test e) + many test log

-- A log grew by entries that have a property.
abbrev pub Adds : List Entry → List Entry → (List Entry → Type 0) → Type 0
Adds old new P = (said : List Entry) × (new ≡ said ++ old) × P said

-- The entry is a push to a partial set.
abbrev pub is_partial_push : Entry → Bool
is_partial_push (Pushed set page) = not (is_full_set set)
is_partial_push _ = false

-- The entry pushes this page to this set.
abbrev pub is_push_of : ℕ → ℕ → Entry → Bool
is_push_of set page (Pushed s p) = (s == set) && (p == page)
is_push_of set page _ = false

-- The entry pops from this set.
abbrev pub is_pop : ℕ → Entry → Bool
is_pop set (Popped s page) = s == set
is_pop set _ = false

-- The entry pops this page from this set.
abbrev pub is_pop_of : ℕ → ℕ → Entry → Bool
is_pop_of set page (Popped s p) = (s == set) && (p == page)
is_pop_of set page _ = false

-- The entry is a sweep of this page.
abbrev pub is_sweep_of : ℕ → Entry → Bool
is_sweep_of page (Swept s) = s.page == page
is_sweep_of page _ = false

-- The entry places an object in the span of this page.
abbrev pub is_placing_in : ℕ → Entry → Bool
is_placing_in page (Allocated a) = a.page == page
is_placing_in page _ = false

-- The entry saw head and tail of this set at this number.
abbrev pub is_empty_look : ℕ → ℕ → Entry → Bool
is_empty_look set at (Looked s head tail) = (s == set) && ((head == at) && (tail == at))
is_empty_look set at _ = false

-- The entry saw head and tail of this set equal.
abbrev pub is_seen_empty : ℕ → Entry → Bool
is_seen_empty set (Looked s head tail) = (s == set) && (head == tail)
is_seen_empty set _ = false

-- The entry saw a claimed cell of this set that is not filled yet.
abbrev pub is_blank_look : ℕ → ℕ → Entry → Bool
is_blank_look set at (LookedEmptyCell s i) = (s == set) && (i == at)
is_blank_look set at _ = false
