-- What each move changes, and what it answers. Whatever is not named stays.
use Rattle.std.specs.Prelude.{ℕ, ◌+◌, ◌-◌, List, [], ◌∷◌, ◌++◌, map, Option, Some, None, slice_set}
use Rattle.sweep_laws.specs.declared.moves.Claimed.{Claimed}
use Rattle.sweep_laws.specs.State.{CoreState, HandState, SetState, LifeState}
use Rattle.sweep_laws.specs.Lists.{put_run}
use Rattle.sweep_laws.specs.Reading.{hand_of, set_of, life_of, free_block}
use Rattle.sweep_laws.specs.ChangesOfHands.{hold, let_go, start_sweep, end_sweep, put_in_cache, take_from_cache, sweep_from_cache, claim_cell, fill_cell, pop_entry, drop_entry, pull_pages, cut_span, drop_pulled, forget_swept}
use Rattle.sweep_laws.specs.ChangesOfLives.{change_life, drop_life, new_life, keep_marked, allocate_index, mark_life, left_prepared}
use Rattle.sweep_laws.specs.ChangesOfSets.{raise_tail, raise_head, name_page, head_base, empty_unswept}

abbrev pub with_hand : CoreState → ℕ → HandState → CoreState
with_hand c w h = record c { hands = slice_set c.hands w h }

abbrev pub with_word : CoreState → ℕ → ℕ → CoreState
with_word c page word = record c { words = slice_set c.words page word }

abbrev pub with_set : CoreState → ℕ → SetState → CoreState
with_set c s new_set = record c { sets = slice_set c.sets s new_set }

-- the first life that begins at the page is changed
abbrev pub with_life : CoreState → ℕ → (LifeState → LifeState) → CoreState
with_life c page f = record c { lives = change_life page f c.lives }

-- the moves

abbrev pub after_lock : CoreState → ℕ → CoreState
after_lock c w = record c { lock = Some w }

abbrev pub after_unlock : CoreState → CoreState
after_unlock c = record c { lock = None }

abbrev pub after_take : CoreState → ℕ → ℕ → ℕ → ℕ → ℕ → CoreState
after_take c w page pages count class = record c {
  words = slice_set c.words page c.generation;
  owners = put_run c.owners page pages (Some page);
  lives = c.lives ++ new_life page pages count class ∷ [];
  hands = slice_set c.hands w (hold page (hand_of c w));
  prepared = left_prepared c.prepared count;
}

abbrev pub after_give : CoreState → ℕ → ℕ → CoreState
after_give c w page = record c {
  words = slice_set c.words page 0;
  owners = put_run c.owners page (life_of c page).pages None;
  lives = drop_life page c.lives;
  hands = slice_set c.hands w (let_go page (hand_of c w));
}

abbrev pub after_acquire : CoreState → ℕ → ℕ → CoreState
after_acquire c w page = with_hand (with_word c page (c.generation - 1)) w (start_sweep page (hand_of c w))

abbrev pub after_release : CoreState → ℕ → ℕ → CoreState
after_release c w page =
    with_hand (with_life (with_word c page c.generation) page keep_marked) w (end_sweep page (hand_of c w))

abbrev pub after_cache : CoreState → ℕ → ℕ → CoreState
after_cache c w page = with_hand (with_word c page (c.generation + 3)) w (put_in_cache page (hand_of c w))

abbrev pub after_allocate : CoreState → ℕ → ℕ → CoreState
after_allocate c page i = with_life c page (allocate_index i)

abbrev pub after_uncache : CoreState → ℕ → ℕ → CoreState
after_uncache c w page = with_hand (with_word c page c.generation) w (take_from_cache page (hand_of c w))

abbrev pub after_stale_uncache : CoreState → ℕ → ℕ → CoreState
after_stale_uncache c w page =
    with_hand (with_word c page (c.generation - 1)) w (sweep_from_cache page (hand_of c w))

abbrev pub after_claim : CoreState → ℕ → ℕ → ℕ → CoreState
after_claim c w s page =
    with_hand (with_set c s (raise_tail (set_of c s))) w (claim_cell s (set_of c s).tail page (hand_of c w))

-- a claim is filled, where the hand has one
abbrev pub after_fill_of : Option Claimed → CoreState → ℕ → CoreState
after_fill_of None c w = c
after_fill_of (Some claim) c w =
    with_hand (with_set c claim.set (name_page claim.index claim.page (set_of c claim.set))) w (fill_cell claim.page (hand_of c w))

-- the same of the claim that the hand has
abbrev pub after_fill : CoreState → ℕ → CoreState
after_fill c w = after_fill_of (hand_of c w).claimed c w

abbrev pub after_pop_swept : CoreState → ℕ → ℕ → CoreState
after_pop_swept c w s = with_hand (with_set c s (raise_head (set_of c s))) w (hold (head_base c s) (hand_of c w))

abbrev pub after_pop_unswept : CoreState → ℕ → ℕ → CoreState
after_pop_unswept c w s = with_hand (with_set c s (raise_head (set_of c s))) w (pop_entry (head_base c s) (hand_of c w))

abbrev pub after_drop_popped : CoreState → ℕ → ℕ → CoreState
after_drop_popped c w page = with_hand c w (drop_entry page (hand_of c w))

abbrev pub after_pull : CoreState → ℕ → CoreState
after_pull c w = with_hand c w (pull_pages (free_block c) (hand_of c w))

abbrev pub after_cut : CoreState → ℕ → ℕ → ℕ → ℕ → ℕ → CoreState
after_cut c w page pages count class = record c {
  words = slice_set c.words page c.generation;
  owners = put_run c.owners page pages (Some page);
  lives = c.lives ++ new_life page pages count class ∷ [];
  hands = slice_set c.hands w (cut_span page pages (hand_of c w));
  prepared = left_prepared c.prepared count;
}

abbrev pub after_drop : CoreState → ℕ → CoreState
after_drop c w = with_hand c w (drop_pulled (hand_of c w))

abbrev pub after_next : CoreState → List (ℕ × ℕ) → CoreState
after_next c marks = record c {
  generation = c.generation + 2;
  lives = map (mark_life marks) c.lives;
  sets = empty_unswept c.generation 0 c.sets;
  hands = map forget_swept c.hands;
}
