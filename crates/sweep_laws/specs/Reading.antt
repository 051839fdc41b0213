-- What is read of a state: the word of a page, the hand of a worker, the life that begins at a page, a set and its cells.
use Rattle.std.specs.Prelude.{ℕ, ◌+◌, ◌-◌, ◌*◌, ◌/◌, ◌%◌, ◌==◌, ◌||◌, ◌&&◌, not, min, Bool, List, [], length, Option, None, Some, slice_index, slice_index_or, unwrap_or}
use Rattle.std.specs.Option.{is_some}
use Rattle.std.specs.List.{position, find, filter, list_any, range_with_len}
use Rattle.sweep_laws.specs.declared.kind.Kind.{Kind}
use Rattle.sweep_laws.specs.declared.kind.Kind.TheVariants.{Sweeping, Held, Cached, Popped}
use Rattle.sweep_laws.specs.State.{CoreState, HandState, SetState, LifeState}
use Rattle.sweep_laws.specs.Lists.{has}

-- the generation word of a page
abbrev pub word_of : CoreState → ℕ → ℕ
word_of c page = slice_index c.words page

-- a hand with nothing in it
abbrev pub no_hand : HandState
no_hand = record { sweeping = []; held = []; cached = []; popped = []; claimed = None; swept = []; pulled = [] }

-- the hand of a worker, an empty one where there is no such worker
abbrev pub hand_of : CoreState → ℕ → HandState
hand_of c w = slice_index_or c.hands w no_hand

-- a set in which no cell was claimed
abbrev pub no_set : SetState
no_set = record { head = 0; tail = 0; cells = [] }

-- the set of a number, an empty one where there is none
abbrev pub set_of : CoreState → ℕ → SetState
set_of c s = slice_index_or c.sets s no_set

-- the cell of a set at an index, 0 where there is no entry
abbrev pub cell_of : SetState → ℕ → ℕ
cell_of s i = slice_index s.cells i

-- the life that begins at a page
abbrev pub life_at : CoreState → ℕ → Option LifeState
life_at c page = find (λ life. life.page == page) c.lives

-- a life of no pages and no objects
abbrev pub no_life : LifeState
no_life = record { page = 0; pages = 0; count = 0; class = 0; allocated = []; kept = [] }

-- the first life of a list that begins at a page, `no_life` where there is none
abbrev pub life_in : ℕ → List LifeState → LifeState
life_in page lives = unwrap_or (find (λ life. life.page == page) lives) no_life

-- the same among the lives of a state
abbrev pub life_of : CoreState → ℕ → LifeState
life_of c page = life_in page c.lives

-- the allocated indices of the life that begins at a page
abbrev pub allocated_at : CoreState → ℕ → List ℕ
allocated_at c page = (life_of c page).allocated

-- the list of a hand of each kind
abbrev pub listed : Kind → HandState → List ℕ
listed Sweeping h = h.sweeping
listed Held h = h.held
listed Cached h = h.cached
listed Popped h = h.popped

-- the first worker whose list of that kind has the page
abbrev pub lister : Kind → CoreState → ℕ → Option ℕ
lister kind c page = position (λ h. has page (listed kind h)) c.hands

-- the span class of a set
abbrev pub class_of_set : ℕ → ℕ
class_of_set s = s / 4

-- whether a set is of the part that is the swept one at a generation; at the next mark end it is the unswept one
abbrev pub is_swept_set : ℕ → ℕ → Bool
is_swept_set generation s = s % 2 == (generation / 2) % 2

-- whether a word is that of no span, of a swept span or of a span cached since it was swept
abbrev pub is_settled : ℕ → ℕ → Bool
is_settled generation word = word == 0 || (word == generation || word == generation + 3)

-- whether a hand has pulled the page
abbrev pub is_pulled : List HandState → ℕ → Bool
is_pulled hands page = list_any (λ h. has page h.pulled) hands

-- whether a page is free: it has no owner, and no hand has pulled it
abbrev pub is_free_in : List (Option ℕ) → List HandState → ℕ → Bool
is_free_in owners hands page = not (is_some (slice_index_or owners page None)) && not (is_pulled hands page)

-- the same in a state
abbrev pub is_free_page : CoreState → ℕ → Bool
is_free_page c page = is_free_in c.owners c.hands page

-- the least page of the region that is free
abbrev pub least_free : CoreState → Option ℕ
least_free c = find (is_free_page c) (range_with_len 0 (length c.words))

-- the pages of a block of a page cache
abbrev pub block_pages : ℕ
block_pages = 64

-- the first page of the block that has a page
abbrev pub block_start : ℕ → ℕ
block_start page = page / block_pages * block_pages

-- how many pages that block has in a region of so many pages
abbrev pub block_length : ℕ → ℕ → ℕ
block_length pages page = min block_pages (pages - block_start page)

-- the free pages of the block that has a page, in rising order
abbrev pub free_with : CoreState → Option ℕ → List ℕ
free_with c None = []
free_with c (Some page) = filter (is_free_page c) (range_with_len (block_start page) (block_length (length c.words) page))

-- the free pages of the block that has the least free page
abbrev pub free_block : CoreState → List ℕ
free_block c = free_with c (least_free c)
