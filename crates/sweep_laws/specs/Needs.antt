-- What each move needs, in the order in which it is tried.
use Rattle.std.specs.Prelude.{ℕ, ◌+◌, ◌==◌, ◌&&◌, not, nat_lt, List, [], ◌∷◌}
use Rattle.sweep_laws.specs.declared.moves.Found.TheVariants.{Word, Range}
use Rattle.sweep_laws.specs.State.{CoreState}
use Rattle.sweep_laws.specs.Lists.{rises}
use Rattle.sweep_laws.specs.Reading.{word_of}
use Rattle.sweep_laws.specs.NeedsOfRange.{Need, need, worker_in_range, page_in_range, set_in_range, run_in_range, class_in_range}
use Rattle.sweep_laws.specs.NeedsOfPages.{lock_is_free, lock_is_own, sweeps, holds, caches, pops, word_is_below, word_is_above, run_is_free, run_is_pulled, pulls_nothing, page_is_free, nothing_allocated, is_at_hand, may_allocate, is_least_free}
use Rattle.sweep_laws.specs.NeedsOfSets.{claims_nothing, claims_something, has_entries, part_is_swept, part_is_unswept, life_begins, class_is_of_set, tail_has_room, cell_is_filled}
use Rattle.sweep_laws.specs.NeedsOfMarkEnd.{generation_is_low, hands_are_idle, nothing_pulled, no_claims, words_are_settled, sets_are_popped, marks_are_allocated}

abbrev pub lock_needs : CoreState → ℕ → List Need
lock_needs c w = worker_in_range c w ∷ lock_is_free c ∷ []

abbrev pub unlock_needs : CoreState → ℕ → List Need
unlock_needs c w = worker_in_range c w ∷ lock_is_own c w ∷ []

abbrev pub take_needs : CoreState → ℕ → ℕ → ℕ → ℕ → ℕ → List Need
take_needs c w page pages count class =
    worker_in_range c w ∷ page_in_range c page ∷ run_in_range c page pages ∷ class_in_range class
    ∷ lock_is_own c w ∷ need (nat_lt 0 pages && nat_lt 0 count) Range ∷ run_is_free c page pages ∷ []

abbrev pub give_needs : CoreState → ℕ → ℕ → List Need
give_needs c w page =
    worker_in_range c w ∷ page_in_range c page
    ∷ lock_is_own c w ∷ holds c w page ∷ nothing_allocated c page ∷ claims_nothing c w ∷ []

-- whoever comes first sweeps a span, also one that popped no entry of it
abbrev pub acquire_needs : CoreState → ℕ → ℕ → List Need
acquire_needs c w page = worker_in_range c w ∷ page_in_range c page ∷ word_is_below c page 2 ∷ []

abbrev pub release_needs : CoreState → ℕ → ℕ → List Need
release_needs c w page = worker_in_range c w ∷ page_in_range c page ∷ sweeps c w page ∷ []

abbrev pub cache_needs : CoreState → ℕ → ℕ → List Need
cache_needs c w page = worker_in_range c w ∷ page_in_range c page ∷ holds c w page ∷ claims_nothing c w ∷ []

abbrev pub allocate_needs : CoreState → ℕ → ℕ → ℕ → List Need
allocate_needs c w page i =
    worker_in_range c w ∷ page_in_range c page ∷ is_at_hand c w page ∷ may_allocate c w page ∷ is_least_free c page i ∷ []

abbrev pub uncache_needs : CoreState → ℕ → ℕ → List Need
uncache_needs c w page = worker_in_range c w ∷ page_in_range c page ∷ caches c w page ∷ word_is_above c page 3 ∷ []

abbrev pub stale_uncache_needs : CoreState → ℕ → ℕ → List Need
stale_uncache_needs c w page = worker_in_range c w ∷ page_in_range c page ∷ caches c w page ∷ word_is_above c page 1 ∷ []

abbrev pub claim_needs : CoreState → ℕ → ℕ → ℕ → List Need
claim_needs c w s page =
    worker_in_range c w ∷ set_in_range c s ∷ page_in_range c page
    ∷ part_is_swept c s ∷ life_begins c page ∷ class_is_of_set c s page
    ∷ holds c w page ∷ claims_nothing c w ∷ tail_has_room c s ∷ []

abbrev pub fill_needs : CoreState → ℕ → List Need
fill_needs c w = worker_in_range c w ∷ claims_something c w ∷ []

abbrev pub pop_swept_needs : CoreState → ℕ → ℕ → List Need
pop_swept_needs c w s =
    worker_in_range c w ∷ set_in_range c s ∷ part_is_swept c s ∷ has_entries c s ∷ cell_is_filled c s ∷ []

abbrev pub pop_unswept_needs : CoreState → ℕ → ℕ → List Need
pop_unswept_needs c w s = worker_in_range c w ∷ set_in_range c s ∷ part_is_unswept c s ∷ has_entries c s ∷ []

-- an entry goes only where its span is not to be swept any more
abbrev pub drop_popped_needs : CoreState → ℕ → ℕ → List Need
drop_popped_needs c w page =
    worker_in_range c w ∷ page_in_range c page ∷ pops c w page
    ∷ need (not (word_of c page + 2 == c.generation)) (Word (word_of c page)) ∷ []

abbrev pub pull_needs : CoreState → ℕ → List Need
pull_needs c w = worker_in_range c w ∷ lock_is_own c w ∷ pulls_nothing c w ∷ page_is_free c ∷ []

-- the lock is not asked for: nobody else cuts pages that the worker pulled
abbrev pub cut_needs : CoreState → ℕ → ℕ → ℕ → ℕ → ℕ → List Need
cut_needs c w page pages count class =
    worker_in_range c w ∷ page_in_range c page ∷ run_in_range c page pages ∷ class_in_range class
    ∷ need (nat_lt 0 pages && nat_lt 0 count) Range ∷ run_is_pulled c w page pages ∷ []

abbrev pub drop_needs : CoreState → ℕ → List Need
drop_needs c w = worker_in_range c w ∷ lock_is_own c w ∷ []

abbrev pub next_needs : CoreState → List (ℕ × ℕ) → List Need
next_needs c marks =
    need (rises marks) Range ∷ lock_is_free c ∷ generation_is_low c ∷ hands_are_idle c ∷ nothing_pulled c ∷ no_claims c
    ∷ words_are_settled c ∷ sets_are_popped c ∷ marks_are_allocated c marks ∷ []
