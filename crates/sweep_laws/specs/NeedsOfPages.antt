-- What a move may need of the lock, of a page and its life, and of the hand that has it.
use Rattle.std.specs.Prelude.{ℕ, ◌+◌, ◌==◌, ◌&&◌, ◌||◌, Bool, false, not, if◌then◌else◌, length, Option, Some, None, slice_index_or, unwrap_or}
use Rattle.std.specs.Option.{is_some}
use Rattle.std.specs.List.{find, range_with_len}
use Rattle.sweep_laws.specs.declared.kind.Kind.{Kind}
use Rattle.sweep_laws.specs.declared.kind.Kind.TheVariants.{Sweeping, Held, Cached, Popped}
use Rattle.sweep_laws.specs.declared.moves.Found.{Found}
use Rattle.sweep_laws.specs.declared.moves.Found.TheVariants.{Word, Holder, Owner, Index}
use Rattle.sweep_laws.specs.State.{CoreState}
use Rattle.sweep_laws.specs.Lists.{has, least_outside, least_of, first_of}
use Rattle.sweep_laws.specs.Reading.{word_of, hand_of, life_of, allocated_at, listed, lister, is_free_page, least_free}
use Rattle.sweep_laws.specs.NeedsOfRange.{Need, need}

-- whether a number is there, and is this one
abbrev pub is_holder : ℕ → Option ℕ → Bool
is_holder w None = false
is_holder w (Some v) = v == w

-- nobody has the lock
abbrev pub lock_is_free : CoreState → Need
lock_is_free c = need (not (is_some c.lock)) (Holder c.lock)

-- the worker has the lock
abbrev pub lock_is_own : CoreState → ℕ → Need
lock_is_own c w = need (is_holder w c.lock) (Holder c.lock)

-- the worker's list of a kind has the page; else it is told which worker has it in such a list
abbrev pub lists : Kind → CoreState → ℕ → ℕ → Need
lists kind c w page = need (has page (listed kind (hand_of c w))) (Holder (lister kind c page))

-- the worker sweeps the page
abbrev pub sweeps : CoreState → ℕ → ℕ → Need
sweeps c w page = lists Sweeping c w page

-- the worker holds the page
abbrev pub holds : CoreState → ℕ → ℕ → Need
holds c w page = lists Held c w page

-- the worker has the page cached
abbrev pub caches : CoreState → ℕ → ℕ → Need
caches c w page = lists Cached c w page

-- the worker popped an entry that names the page, and has it still
abbrev pub pops : CoreState → ℕ → ℕ → Need
pops c w page = lists Popped c w page

-- the page's word is the generation less `below`
abbrev pub word_is_below : CoreState → ℕ → ℕ → Need
word_is_below c page below = need (word_of c page + below == c.generation) (Word (word_of c page))

-- the page's word is the generation plus `above`
abbrev pub word_is_above : CoreState → ℕ → ℕ → Need
word_is_above c page above = need (word_of c page == c.generation + above) (Word (word_of c page))

-- the first page of a run that is not free
abbrev pub first_taken : CoreState → ℕ → ℕ → Option ℕ
first_taken c page pages = find (λ p. not (is_free_page c p)) (range_with_len page pages)

-- what is told of a page that is not free: the span that has it, or else the page itself, which a hand has pulled
abbrev pub owner_or_page : Option ℕ → ℕ → Found
owner_or_page None page = Index (Some page)
owner_or_page (Some owner) page = Owner owner

-- the same in a state
abbrev pub taken_by : CoreState → ℕ → Found
taken_by c page = owner_or_page (slice_index_or c.owners page None) page

-- each page of a run is free; else the first that is not is told
abbrev pub run_is_free : CoreState → ℕ → ℕ → Need
run_is_free c page pages = need (not (is_some (first_taken c page pages))) (taken_by c (unwrap_or (first_taken c page pages) 0))

-- the first page of a run that the worker has not pulled
abbrev pub first_unpulled : CoreState → ℕ → ℕ → ℕ → Option ℕ
first_unpulled c w page pages = find (λ p. not (has p (hand_of c w).pulled)) (range_with_len page pages)

-- the worker has pulled each page of a run; else the first that it has not is told
abbrev pub run_is_pulled : CoreState → ℕ → ℕ → ℕ → Need
run_is_pulled c w page pages = need (not (is_some (first_unpulled c w page pages))) (Index (first_unpulled c w page pages))

-- the worker has pulled nothing; else the first page of its list is told
abbrev pub pulls_nothing : CoreState → ℕ → Need
pulls_nothing c w = need (length (hand_of c w).pulled == 0) (Index (first_of (hand_of c w).pulled))

-- a page is free
abbrev pub page_is_free : CoreState → Need
page_is_free c = need (is_some (least_free c)) (Index None)

-- the page's life has no allocated index; else the least is told
abbrev pub nothing_allocated : CoreState → ℕ → Need
nothing_allocated c page = need (length (allocated_at c page) == 0) (Index (least_of (allocated_at c page)))

-- the worker has the page cached or holds it; else the worker that has it cached is told, or the one that holds it
abbrev pub is_at_hand : CoreState → ℕ → ℕ → Need
is_at_hand c w page =
    need (has page (hand_of c w).cached || has page (hand_of c w).held)
    (Holder (if is_some (lister Cached c page) then lister Cached c page else lister Held c page))

-- the page is cached at G+3, or it is held at G and its span is of one object
abbrev pub may_allocate : CoreState → ℕ → ℕ → Need
may_allocate c w page =
    need ((has page (hand_of c w).cached && (word_of c page == c.generation + 3))
    || (has page (hand_of c w).held && ((word_of c page == c.generation) && ((life_of c page).count == 1))))
    (Word (word_of c page))

-- the least index below the count that is not allocated
abbrev pub free_index : CoreState → ℕ → Option ℕ
free_index c page = least_outside (allocated_at c page) (life_of c page).count

-- the index is the least that is free
abbrev pub is_least_free : CoreState → ℕ → ℕ → Need
is_least_free c page i = need (is_holder i (free_index c page)) (Index (free_index c page))
