-- Tests of the entries of a log, besides those of worker_log and span_laws.
use Rattle.std.specs.Prelude.{ℕ, ◌==◌, ◌&&◌, not, Bool, true, false}
use Rattle.worker_log.specs.declared.Entry.{Entry}
use Rattle.worker_log.specs.declared.Entry.TheVariants.{Looked, LookedEmptyCell, Pushed, Swept, Gave, Read, Added, Pulled, NoPage, Cut, NoCut}

-- the pages that an entry gives back
abbrev pub pages_given : Entry → ℕ
pages_given (Gave page pages) = pages
pages_given _ = 0

-- the entry looks at the set: at its head and tail, or at a cell that isn't filled
abbrev pub is_look_of : ℕ → Entry → Bool
is_look_of set (Looked s head tail) = s == set
is_look_of set (LookedEmptyCell s index) = s == set
is_look_of set _ = false

-- the entry adds to the word
abbrev pub is_added : ℕ → Entry → Bool
is_added word (Added w number) = w == word
is_added word _ = false

-- the entry read this value of the word
abbrev pub is_read : ℕ → ℕ → Entry → Bool
is_read word value (Read w v) = (w == word) && (v == value)
is_read word value _ = false

-- the entry gives the span of the page back
abbrev pub is_giving_of : ℕ → Entry → Bool
is_giving_of page (Gave p pages) = p == page
is_giving_of page _ = false

-- the entry pushes the page to some set
abbrev pub is_push_at : ℕ → Entry → Bool
is_push_at page (Pushed set p) = p == page
is_push_at page _ = false

-- the entry sweeps the span of the page, and keeps nothing of it
abbrev pub is_emptying_of : ℕ → Entry → Bool
is_emptying_of page (Swept s) = (s.page == page) && (s.kept == 0)
is_emptying_of page _ = false

-- the entry sweeps the span of the page, and keeps some of it
abbrev pub is_keeping_of : ℕ → Entry → Bool
is_keeping_of page (Swept s) = (s.page == page) && not (s.kept == 0)
is_keeping_of page _ = false

-- the entry cuts a span out of the worker's block
abbrev pub is_cut : Entry → Bool
is_cut (Cut page pages class) = true
is_cut _ = false

-- the entry cuts this span out of it: its first page, its pages and its span class
abbrev pub is_cut_of : ℕ → ℕ → ℕ → Entry → Bool
is_cut_of page pages class (Cut p n k) = (p == page) && ((n == pages) && (k == class))
is_cut_of page pages class _ = false

-- the entry found no run of n pages in the worker's block, which has pages left
abbrev pub is_no_cut : ℕ → Entry → Bool
is_no_cut n (NoCut pages left) = (pages == n) && not (left == 0)
is_no_cut n _ = false

-- the entry found no page to pull
abbrev pub is_no_page : Entry → Bool
is_no_page NoPage = true
is_no_page _ = false

-- the entry pulls a block, or found no page to pull
abbrev pub is_pulling : Entry → Bool
is_pulling (Pulled number line) = true
is_pulling NoPage = true
is_pulling _ = false

-- the entry found no page left in the worker's block for a cut of n pages
abbrev pub is_bare_cut : ℕ → Entry → Bool
is_bare_cut n (NoCut pages left) = (pages == n) && (left == 0)
is_bare_cut n _ = false
