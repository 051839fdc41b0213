-- The step: one move on one state.
use Rattle.std.specs.Prelude.{◌<◌, ◌≤◌, length, List, Some, None, ◌≡◌, Result, Ok, Err, IfSome}
use Rattle.std.specs.List.{All}
use Rattle.sweep_laws.specs.declared.moves.Move.{Move}
use Rattle.sweep_laws.specs.declared.moves.Move.TheVariants.{Lock, Unlock, Take, Give, Acquire, Release, Cache, Allocate, Uncache, StaleUncache, Claim, Fill, PopSwept, PopUnswept, DropPopped, Pull, Cut, Drop, Next}
use Rattle.sweep_laws.specs.declared.moves.Reply.{Reply}
use Rattle.sweep_laws.specs.declared.moves.Reply.TheVariants.{Done, Index, Base}
use Rattle.sweep_laws.specs.declared.moves.StepFault.{StepFault}
use Rattle.sweep_laws.specs.declared.moves.StepFault.TheVariants.{NotAllowed, NoMemory}
use Rattle.sweep_laws.specs.State.{CoreState}
use Rattle.sweep_laws.specs.Reading.{set_of, hand_of, life_of, free_block}
use Rattle.sweep_laws.specs.NeedsOfRange.{Need, refusal}
use Rattle.sweep_laws.specs.Needs.{lock_needs, unlock_needs, take_needs, give_needs, acquire_needs, release_needs, cache_needs, allocate_needs, uncache_needs, stale_uncache_needs, claim_needs, fill_needs, pop_swept_needs, pop_unswept_needs, drop_popped_needs, pull_needs, cut_needs, drop_needs, next_needs}
use Rattle.sweep_laws.specs.ChangesOfLives.{marks_at}
use Rattle.sweep_laws.specs.ChangesOfSets.{head_base}
use Rattle.sweep_laws.specs.Changes.{after_lock, after_unlock, after_take, after_give, after_acquire, after_release, after_cache, after_allocate, after_uncache, after_stale_uncache, after_claim, after_fill, after_pop_swept, after_pop_unswept, after_drop_popped, after_pull, after_cut, after_drop, after_next}

-- the needs of a move, in the order in which they are tried
abbrev pub needs_of : CoreState → Move → List Need
needs_of c (Lock w) = lock_needs c w
needs_of c (Unlock w) = unlock_needs c w
needs_of c (Take w page pages count class) = take_needs c w page pages count class
needs_of c (Give w page) = give_needs c w page
needs_of c (Acquire w page) = acquire_needs c w page
needs_of c (Release w page) = release_needs c w page
needs_of c (Cache w page) = cache_needs c w page
needs_of c (Allocate w page i) = allocate_needs c w page i
needs_of c (Uncache w page) = uncache_needs c w page
needs_of c (StaleUncache w page) = stale_uncache_needs c w page
needs_of c (Claim w s page) = claim_needs c w s page
needs_of c (Fill w) = fill_needs c w
needs_of c (PopSwept w s) = pop_swept_needs c w s
needs_of c (PopUnswept w s) = pop_unswept_needs c w s
needs_of c (DropPopped w page) = drop_popped_needs c w page
needs_of c (Pull w) = pull_needs c w
needs_of c (Cut w page pages count class) = cut_needs c w page pages count class
needs_of c (Drop w) = drop_needs c w
needs_of c (Next marks) = next_needs c marks

-- the state that a move makes where all its needs are met
abbrev pub after : CoreState → Move → CoreState
after c (Lock w) = after_lock c w
after c (Unlock w) = after_unlock c
after c (Take w page pages count class) = after_take c w page pages count class
after c (Give w page) = after_give c w page
after c (Acquire w page) = after_acquire c w page
after c (Release w page) = after_release c w page
after c (Cache w page) = after_cache c w page
after c (Allocate w page i) = after_allocate c page i
after c (Uncache w page) = after_uncache c w page
after c (StaleUncache w page) = after_stale_uncache c w page
after c (Claim w s page) = after_claim c w s page
after c (Fill w) = after_fill c w
after c (PopSwept w s) = after_pop_swept c w s
after c (PopUnswept w s) = after_pop_unswept c w s
after c (DropPopped w page) = after_drop_popped c w page
after c (Pull w) = after_pull c w
after c (Cut w page pages count class) = after_cut c w page pages count class
after c (Drop w) = after_drop c w
after c (Next marks) = after_next c marks

-- a Claim answers its index, a pop its page, all else that it is done
abbrev pub reply_of : CoreState → Move → Reply
reply_of c (Claim w s page) = Index (set_of c s).tail
reply_of c (PopSwept w s) = Base (head_base c s)
reply_of c (PopUnswept w s) = Base (head_base c s)
reply_of c _ = Done

-- whether there is room for all that a move puts into lists, so that it takes no memory
abbrev pub HasRoom : CoreState → Move → Type 0
HasRoom c (Take w page pages count class) = (length c.lives < c.room) × (length (hand_of c w).held < c.room) × (count ≤ c.prepared)
HasRoom c (Acquire w page) = length (hand_of c w).sweeping < c.room
HasRoom c (Release w page) = (length (hand_of c w).held < c.room) × (length (hand_of c w).swept < c.room) × (length (life_of c page).kept ≤ (life_of c page).count)
HasRoom c (Cache w page) = length (hand_of c w).cached < c.room
HasRoom c (Allocate w page i) = length (life_of c page).allocated < (life_of c page).count
HasRoom c (Uncache w page) = length (hand_of c w).held < c.room
HasRoom c (StaleUncache w page) = length (hand_of c w).sweeping < c.room
HasRoom c (Fill w) = IfSome (hand_of c w).claimed (λ claim. claim.index < c.room)
HasRoom c (PopSwept w s) = length (hand_of c w).held < c.room
HasRoom c (PopUnswept w s) = length (hand_of c w).popped < c.room
HasRoom c (Pull w) = length (free_block c) ≤ c.room
HasRoom c (Cut w page pages count class) = (length c.lives < c.room) × (length (hand_of c w).held < c.room) × (count ≤ c.prepared)
HasRoom c (Next marks) = All (λ life. length (marks_at life.page marks) ≤ life.count) c.lives
HasRoom c _ = Unit {0}

-- what a call of a step answers: it is done as defined, or refused as defined with nothing changed, or all needs
-- are met, there was no room, memory ran out and nothing changed
abbrev pub Steps : CoreState → CoreState → Move → Result Reply StepFault → Type 0
Steps old new move (Ok reply) = (refusal (needs_of old move) ≡ None) × (new ≡ after old move) × (reply ≡ reply_of old move)
Steps old new move (Err (NotAllowed found)) = (refusal (needs_of old move) ≡ Some found) × (new ≡ old)
Steps old new move (Err NoMemory) = (refusal (needs_of old move) ≡ None) × (new ≡ old) × ¬ HasRoom old move
