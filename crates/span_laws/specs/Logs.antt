-- What contracts of the shared spans read in logs, besides the counts of worker_log. A log has its newest entry first.
use Rattle.std.specs.Prelude.{◌≡◌, ℕ, true, false, ◌==◌, ◌&&◌, Bool, List, ◌∷◌, ◌++◌}
use Rattle.worker_log.specs.declared.Entry.{Entry}
use Rattle.worker_log.specs.declared.Entry.TheVariants.{Looked, Swept, Took, Allocated, Found, Cut}
use Rattle.worker_log.specs.declared.Sweeping.{Sweeping}
use Rattle.worker_log.specs.Entries.{many}

-- the entry places an object at this index of this page
abbrev pub is_placing_at : ℕ → ℕ → Entry → Bool
is_placing_at page index (Allocated a) = (a.page == page) && (a.index == index)
is_placing_at page index _ = false

-- the entry saw this head and this tail of this set
abbrev pub is_look : ℕ → ℕ → ℕ → Entry → Bool
is_look set head tail (Looked s h t) = (s == set) && ((h == head) && (t == tail))
is_look set head tail _ = false

-- the entry found another word than that of a waiting span at the page
abbrev pub is_finding_at : ℕ → Entry → Bool
is_finding_at page (Found p word) = p == page
is_finding_at page _ = false

-- the entry takes a run, or cuts one out of a block
abbrev pub is_taking : Entry → Bool
is_taking (Took number line) = true
is_taking (Cut page pages class) = true
is_taking _ = false

-- the entry is a sweep
abbrev pub is_sweep : Entry → Bool
is_sweep (Swept s) = true
is_sweep _ = false

-- the log's last sweep is of this page and kept nothing, and no run was taken or cut behind it
abbrev pub EndsSweptEmpty : ℕ → List Entry → Type 0
EndsSweptEmpty page log = (behind : List Entry) × (before : List Entry) × (s : Sweeping) × (log ≡ behind ++ Swept s ∷ before)
    × (s.page ≡ page) × (s.kept ≡ 0) × (many is_sweep behind ≡ 0) × (many is_taking behind ≡ 0)
