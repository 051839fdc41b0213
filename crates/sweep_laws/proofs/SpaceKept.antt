-- Each move leaves the room as it is, and a state that has space keeps it.
use Rattle.std.proofs.Common.{◌≡◌, ◌≢◌, ℕ, zero, suc, cond, ◌+◌, ◌-◌, ◌≤◌, ⊎_elim, Bool, true, false, List, [], ◌∷◌, length, set, sym, refl, subst, arith, length-set}
use Rattle.std.specs.Prelude.{Option, Some, None}
use Rattle.std.proofs.lemmas.List.{get_or_past}
use mathlib.Core.Logic.{dite}
use mathlib.Core.Option.{some, some-injective, some-ne-none}
use lib.ListN.{get_elem?}
use native.Mathlib.Decide.{dec_le}
use Rattle.sweep_laws.specs.declared.moves.Claimed.{Claimed}
use Rattle.sweep_laws.specs.declared.moves.Move.{Move}
use Rattle.sweep_laws.specs.declared.moves.Move.TheVariants.{Lock, Unlock, Take, Give, Acquire, Release, Cache, Allocate, Uncache, StaleUncache, Claim, Fill, PopSwept, PopUnswept, DropPopped, Pull, Cut, Drop, Next}
use Rattle.sweep_laws.specs.State.{SetState, CoreState}
use Rattle.sweep_laws.specs.Reading.{hand_of, set_of, no_set, is_swept_set}
use Rattle.sweep_laws.specs.ChangesOfSets.{raise_head, raise_tail, name_page, empty_unswept}
use Rattle.sweep_laws.specs.Changes.{after_fill_of}
use Rattle.sweep_laws.specs.Step.{after}
use Rattle.sweep_laws.specs.OwnedLives.{EachAt}
use Rattle.sweep_laws.specs.Tidy.{HasSpace, IsProvided}
use Rattle.sweep_laws.proofs.Naming.{at_low, at_set}

filled_room : (o : Option Claimed) (c : CoreState) (w : ℕ) → (after_fill_of o c w).room ≡ c.room
filled_room None c w = refl
filled_room (Some d) c w = refl

filled_words : (o : Option Claimed) (c : CoreState) (w : ℕ) → length (after_fill_of o c w).words ≡ length c.words
filled_words None c w = refl
filled_words (Some d) c w = refl

-- no move makes room or takes it
pub room_stays : (c : CoreState) (move : Move) → (after c move).room ≡ c.room
room_stays c (Lock w) = refl
room_stays c (Unlock w) = refl
room_stays c (Take w page pages count class) = refl
room_stays c (Give w page) = refl
room_stays c (Acquire w page) = refl
room_stays c (Release w page) = refl
room_stays c (Cache w page) = refl
room_stays c (Allocate w page i) = refl
room_stays c (Uncache w page) = refl
room_stays c (StaleUncache w page) = refl
room_stays c (Claim w s page) = refl
room_stays c (Fill w) = filled_room (hand_of c w).claimed c w
room_stays c (PopSwept w s) = refl
room_stays c (PopUnswept w s) = refl
room_stays c (DropPopped w page) = refl
room_stays c (Pull w) = refl
room_stays c (Cut w page pages count class) = refl
room_stays c (Drop w) = refl
room_stays c (Next marks) = refl

-- no move changes the number of pages
pub pages_stay : (c : CoreState) (move : Move) → length (after c move).words ≡ length c.words
pages_stay c (Lock w) = refl
pages_stay c (Unlock w) = refl
pages_stay c (Take w page pages count class) = length-set c.words page c.generation
pages_stay c (Give w page) = length-set c.words page 0
pages_stay c (Acquire w page) = length-set c.words page (c.generation - 1)
pages_stay c (Release w page) = length-set c.words page c.generation
pages_stay c (Cache w page) = length-set c.words page (c.generation + 3)
pages_stay c (Allocate w page i) = refl
pages_stay c (Uncache w page) = length-set c.words page c.generation
pages_stay c (StaleUncache w page) = length-set c.words page (c.generation - 1)
pages_stay c (Claim w s page) = refl
pages_stay c (Fill w) = filled_words (hand_of c w).claimed c w
pages_stay c (PopSwept w s) = refl
pages_stay c (PopUnswept w s) = refl
pages_stay c (DropPopped w page) = refl
pages_stay c (Pull w) = refl
pages_stay c (Cut w page pages count class) = length-set c.words page c.generation
pages_stay c (Drop w) = refl
pages_stay c (Next marks) = refl

-- no set claimed more than n cells
abbrev Tails : ℕ → List SetState → Type 0
Tails n sets = EachAt sets (λ _ s. s.tail ≤ n)

tails_set : (n : ℕ) (ss : List SetState) (j : ℕ) (s : SetState) → Tails n ss → s.tail ≤ n → Tails n (set ss j s)
tails_set n ss j s all here i x e = ⊎_elim
    (λ (t : (i ≡ j) × (s ≡ x)). subst (λ (y : SetState). y.tail ≤ n) t.1 here)
    (λ (t : (i ≢ j) × (get_elem? ss i ≡ some x)). all i x t.1)
    (at_set ss j i s x e)

tails_emptied : (n g k : ℕ) (ss : List SetState) → Tails n ss → Tails n (empty_unswept g k ss)
tails_emptied n g k [] all i x e = absurd (some-ne-none x (sym e))
tails_emptied n g k (s ∷ ss) all zero x e = go (is_swept_set g k) e
  where
    go : (b : Bool) → some (cond b s (record s { head = 0; tail = 0; cells = [] })) ≡ some x → x.tail ≤ n
    go true f = subst (λ (y : SetState). y.tail ≤ n) (some-injective s x f) (all 0 s refl)
    go false f = subst (λ (y : SetState). y.tail ≤ n) (some-injective _ x f) (omega arith)
tails_emptied n g k (s ∷ ss) all (suc i) x e = tails_emptied n g (k + 1) ss (λ j y f. all (suc j) y f) i x e

module _ (c : CoreState) (s : HasSpace c) where
  tail_of : (j : ℕ) → (set_of c j).tail ≤ length c.words
  tail_of j = dite (dec_le (suc j) (length c.sets))
      (λ low. s.tails j (set_of c j) (at_low c.sets j no_set low))
      (λ far. subst (λ (x : SetState). x.tail ≤ length c.words) (sym (get_or_past c.sets j no_set (omega arith))) (omega arith))

  filled_tails : (o : Option Claimed) (w : ℕ) → Tails (length c.words) (after_fill_of o c w).sets
  filled_tails None w = s.tails
  filled_tails (Some d) w = tails_set (length c.words) c.sets d.set (name_page d.index d.page (set_of c d.set)) s.tails (tail_of d.set)

  move_tails : (move : Move) → IsProvided c move → Tails (length c.words) (after c move).sets
  move_tails (Lock w) p = s.tails
  move_tails (Unlock w) p = s.tails
  move_tails (Take w page pages count class) p = s.tails
  move_tails (Give w page) p = s.tails
  move_tails (Acquire w page) p = s.tails
  move_tails (Release w page) p = s.tails
  move_tails (Cache w page) p = s.tails
  move_tails (Allocate w page i) p = s.tails
  move_tails (Uncache w page) p = s.tails
  move_tails (StaleUncache w page) p = s.tails
  move_tails (Claim w j page) p = tails_set (length c.words) c.sets j (raise_tail (set_of c j)) s.tails (omega arith)
  move_tails (Fill w) p = filled_tails (hand_of c w).claimed w
  move_tails (PopSwept w j) p = tails_set (length c.words) c.sets j (raise_head (set_of c j)) s.tails (tail_of j)
  move_tails (PopUnswept w j) p = tails_set (length c.words) c.sets j (raise_head (set_of c j)) s.tails (tail_of j)
  move_tails (DropPopped w page) p = s.tails
  move_tails (Pull w) p = s.tails
  move_tails (Cut w page pages count class) p = s.tails
  move_tails (Drop w) p = s.tails
  move_tails (Next marks) p = tails_emptied (length c.words) c.generation 0 c.sets s.tails

-- a state that has space has it after a move that is provided for
pub space_stays : (c : CoreState) (move : Move) → IsProvided c move → HasSpace c → HasSpace (after c move)
space_stays c move p s = record {
  room = subst (λ (n : ℕ). n ≤ (after c move).room) (sym (pages_stay c move)) (subst (λ (r : ℕ). length c.words ≤ r) (sym (room_stays c move)) s.room);
  tails = subst (λ (n : ℕ). Tails n (after c move).sets) (sym (pages_stay c move)) (move_tails c s move p);
}
