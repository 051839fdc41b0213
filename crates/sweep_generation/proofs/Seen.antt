-- A core as its view shows it: what the view shows, and what the core keeps, after one of its parts changed.
use Rattle.std.proofs.Common.{◌≡◌, ℕ, ◌+◌, ◌<◌, ◌≤◌, true, List, length, get_or, set, map, refl, sym, ap, subst, ◌∙◌, ◌^◌, ◌⊎◌, inl, inr, [], ◌∷◌, ◌++◌, take, drop, Option, arith}
use Rattle.std.proofs.lemmas.List.{length-map, map-set, get_or-map}
use Rattle.std.proofs.Math.ListN.{length-set}
use Rattle.std.proofs.Math.Nat.{le_trans, le_of_eq}
use Rattle.std.proofs.Math.Seq.{map-set_same}
use Rattle.std.proofs.lemmas.List.Elements.{All-set, All-map, All-take, All-drop, All-append}
use Rattle.std.specs.Vec.{with_item, with_items}
use Rattle.std.specs.declared.vec.Vec.{Vec}
use Rattle.std.specs.List.{All, range_with_len}
use Rattle.std.specs.declared.alloc.Global.{Global}
use Rattle.sweep_laws.specs.Start.{copies}
use Rattle.sweep_lists.specs.Bare.{bare_hand}
use Rattle.sweep_lists.specs.Room.{Roomy, Tabled}
use Rattle.sweep_generation.specs.declared.state.Core.TheInside.{Inside}
use Rattle.sweep_lists.specs.declared.hand.CoreHand.{CoreHand}
use Rattle.sweep_lists.specs.declared.set.CoreSet.{CoreSet}
use Rattle.sweep_laws.specs.State.{CoreState, HandState, LifeState, SetState}
use Rattle.sweep_laws.specs.Reading.{no_hand, no_set, hand_of, set_of, is_swept_set}
use Rattle.sweep_lists.specs.Views.{hand_view, set_view, HandRoom}
use Rattle.sweep_generation.specs.Kept.{core_view, IsKept}
use Rattle.sweep_generation.specs.Unpopped.{count_unpopped}
use Rattle.sweep_generation.proofs.Counted.{swept_alike, count_same}
use Rattle.sweep_lists.proofs.Maps.{map-changed}

-- what a hand that changed keeps of its room
abbrev pub KeepsRoom : CoreHand → CoreHand → Type 0
KeepsRoom old new = (pages n : ℕ) → HandRoom pages n old → HandRoom pages n new

module _ (c : Inside) (now : CoreState) (seen : core_view c ≡ now) where
  pub low-hand : (w : ℕ) → w < length now.hands → w < length c.hands.items
  low-hand w low = subst (λ (n : ℕ). w < n) (ap (λ (s : CoreState). length s.hands) (sym seen) ∙ length-map c.hands.items hand_view) low

  -- hand w has the room of all hands
  pub room-at : (w : ℕ) → w < length now.hands → (old : CoreHand) → old ≡ get_or c.hands.items w old → IsKept c → HandRoom (length c.words) now.room old
  room-at w low old at k =
      subst (λ (n : ℕ). HandRoom (length c.words) n old) (ap (λ (s : CoreState). s.room) seen)
      (subst (λ (h : CoreHand). HandRoom (length c.words) c.room h) (sym at) (k.hands_room w old (low-hand w low)))

  -- what hand w shows
  pub hand-is : (w : ℕ) → w < length now.hands → (old : CoreHand) → old ≡ get_or c.hands.items w old → hand_of now w ≡ hand_view old
  hand-is w low old at =
      ap (λ (s : CoreState). hand_of s w) (sym seen) ∙ get_or-map hand_view c.hands.items w old no_hand (low-hand w low) ∙ ap hand_view (sym at)

  -- hand w is f of what it was
  pub hand-changed : (w : ℕ) → w < length now.hands → (old new : CoreHand) (f : HandState → HandState)
      → old ≡ get_or c.hands.items w old → hand_view new ≡ f (hand_view old)
      → map hand_view (set c.hands.items w new) ≡ set (map hand_view c.hands.items) w (f (get_or (map hand_view c.hands.items) w no_hand))
  hand-changed w low old new f at is = map-changed hand_view c.hands.items w old no_hand new f (low-hand w low) (is ∙ ap (λ h. f (hand_view h)) at)

  -- hand w shows what it showed
  pub hand-same : (w : ℕ) (old new : CoreHand) → old ≡ get_or c.hands.items w old → hand_view new ≡ hand_view old
      → map hand_view (set c.hands.items w new) ≡ map hand_view c.hands.items
  hand-same w old new at is = map-set_same hand_view c.hands.items w new old (is ∙ ap hand_view at)

  -- the view is the same
  pub seen-hand : (w : ℕ) (old new : CoreHand) → old ≡ get_or c.hands.items w old → hand_view new ≡ hand_view old
      → core_view (record c { hands = with_item c.hands w new }) ≡ now
  seen-hand w old new at is = rw (hand-same w old new at is) seen

  pub low-set : (w : ℕ) → w < length now.sets → w < length c.sets.items
  low-set w low = subst (λ (n : ℕ). w < n) (ap (λ (s : CoreState). length s.sets) (sym seen) ∙ length-map c.sets.items set_view) low

  -- what set s shows
  pub set-is : (s : ℕ) → s < length now.sets → (old : CoreSet) → old ≡ get_or c.sets.items s old → set_of now s ≡ set_view old
  set-is s low old at =
      ap (λ (st : CoreState). set_of st s) (sym seen) ∙ get_or-map set_view c.sets.items s old no_set (low-set s low) ∙ ap set_view (sym at)

  -- set s is f of what it was
  pub set-changed : (s : ℕ) → s < length now.sets → (old new : CoreSet) (f : SetState → SetState)
      → old ≡ get_or c.sets.items s old → set_view new ≡ f (set_view old)
      → map set_view (set c.sets.items s new) ≡ set (map set_view c.sets.items) s (f (get_or (map set_view c.sets.items) s no_set))
  set-changed s low old new f at is = map-changed set_view c.sets.items s old no_set new f (low-set s low) (is ∙ ap (λ h. f (set_view h)) at)

  -- a change of a swept set leaves the count
  pub swept-same : (s : ℕ) → is_swept_set now.generation s ≡ true → (new : CoreSet)
      → IsKept c → c.unpopped ≡ count_unpopped c.generation 0 (map set_view (set c.sets.items s new))
  swept-same s swept new k =
      let at : s ≡ 0 + s = omega arith in
      let g = ap (λ (st : CoreState). is_swept_set st.generation s) seen ∙ swept in
      k.unpopped ∙ sym (count_same c.generation 0 s s (map set_view c.sets.items) (set_view new) at (swept_alike c.generation s (set_view new) (get_or (map set_view c.sets.items) s no_set) g))
      ∙ ap (λ (xs : List SetState). count_unpopped c.generation 0 xs) (sym (map-set set_view c.sets.items s new))

pub kept-hand : (c : Inside) (w : ℕ) → w < length c.hands.items → (old new : CoreHand) → old ≡ get_or c.hands.items w old → KeepsRoom old new
    → IsKept c → IsKept (record c { hands = with_item c.hands w new })
kept-hand c w low old new at keeps k = record {
  generation = k.generation;
  pages = k.pages;
  owners = k.owners;
  workers = subst (λ (n : ℕ). n < 2 ^ 32) (sym (length-set c.hands.items w new)) k.workers;
  lives_room = k.lives_room;
  lives_table = k.lives_table;
  hands_room = All-set (HandRoom (length c.words) c.room) c.hands.items w new
      (keeps (length c.words) c.room (subst (λ (h : CoreHand). HandRoom (length c.words) c.room h) (sym at) (k.hands_room w old low))) k.hands_room;
  sets_room = k.sets_room;
  unpopped = k.unpopped;
}

pub kept-set : (c : Inside) (s : ℕ) → s < length c.sets.items → (old new : CoreSet) → old ≡ get_or c.sets.items s old → new.cells ≡ old.cells
    → (n : ℕ) → n ≡ count_unpopped c.generation 0 (map set_view (set c.sets.items s new))
    → IsKept c → IsKept (record c { sets = with_item c.sets s new; unpopped = n })
kept-set c s low old new at same n counted k = record {
  generation = k.generation;
  pages = k.pages;
  owners = k.owners;
  workers = k.workers;
  lives_room = k.lives_room;
  lives_table = k.lives_table;
  hands_room = k.hands_room;
  sets_room = All-set (λ (x : CoreSet). c.room ≤ x.cells.space) c.sets.items s new
      (subst (λ (x : Roomy ℕ). c.room ≤ x.space) (sym same) (subst (λ (x : CoreSet). c.room ≤ x.cells.space) (sym at) (k.sets_room s old low))) k.sets_room;
  unpopped = counted;
}

take-append : {X : Type 0} (xs ys : List X) → take (length xs) (xs ++ ys) ≡ xs
take-append [] ys = refl
take-append (x ∷ xs) ys = ap (λ zs. x ∷ zs) (take-append xs ys)

-- a list that is as long as the items is all of them
pub items-whole : {X : Type 0} (v : Vec X Global) (ws : List X) → length ws ≡ length v.items → (with_items v ws).items ≡ ws
items-whole v ws same =
    let e : length ws ≡ v.len = same ∙ sym v.ok.0 in
    rw (← e) (take-append ws (drop (length ws) v.items))

-- no end of a sweep lacks room
pub full-end : (pages n : ℕ) (h : CoreHand) → HandRoom pages n h → (h.held.space ≤ length h.held.items) ⊎ (h.swept.space ≤ length h.swept.items)
    → length h.held.items < n → length h.swept.items < n → ⊥
full-end pages n h k (inl a) held swept = let b = k.held in omega arith
full-end pages n h k (inr a) held swept = let b = k.swept in omega arith

pub kept-owners : (c : Inside) (ws : List (Option ℕ)) → IsKept c → IsKept (record c { owners = with_items c.owners ws })
kept-owners c ws k = record {
  generation = k.generation;
  pages = k.pages;
  owners = sym (with_items c.owners ws).ok.0 ∙ c.owners.ok.0 ∙ k.owners;
  workers = k.workers;
  lives_room = k.lives_room;
  lives_table = k.lives_table;
  hands_room = k.hands_room;
  sets_room = k.sets_room;
  unpopped = k.unpopped;
}

-- the lives have at least the room that they had, and the table
pub kept-lives : (c : Inside) (lives : Tabled LifeState) → c.lives.space ≤ lives.space → lives.reach ≡ c.lives.reach → IsKept c → IsKept (record c { lives = lives })
kept-lives c lives grows same k = record {
  generation = k.generation;
  pages = k.pages;
  owners = k.owners;
  workers = k.workers;
  lives_room = le_trans k.lives_room grows;
  lives_table = same ∙ k.lives_table;
  hands_room = k.hands_room;
  sets_room = k.sets_room;
  unpopped = k.unpopped;
}

-- the lives have the room and the table that they had
pub kept-same-room : (c : Inside) (lives : Tabled LifeState) (items : List LifeState) → lives ≡ record c.lives { items = items } → IsKept c → IsKept (record c { lives = lives })
kept-same-room c lives items is k = kept-lives c lives (le_of_eq (sym (ap (λ (x : Tabled LifeState). x.space) is))) (ap (λ (x : Tabled LifeState). x.reach) is) k

pub kept-sets : (c : Inside) (ws : List CoreSet) → All (λ (x : CoreSet). c.room ≤ x.cells.space) ws
    → (n : ℕ) → n ≡ count_unpopped c.generation 0 (map set_view (with_items c.sets ws).items)
    → IsKept c → IsKept (record c { sets = with_items c.sets ws; unpopped = n })
kept-sets c ws room n counted k = record {
  generation = k.generation;
  pages = k.pages;
  owners = k.owners;
  workers = k.workers;
  lives_room = k.lives_room;
  lives_table = k.lives_table;
  hands_room = k.hands_room;
  sets_room = All-take (λ (x : CoreSet). c.room ≤ x.cells.space) c.sets.len _
      (All-append (λ (x : CoreSet). c.room ≤ x.cells.space) ws _ room (All-drop (λ (x : CoreSet). c.room ≤ x.cells.space) (length ws) c.sets.items k.sets_room));
  unpopped = counted;
}

pub kept-word : (c : Inside) (words : List ℕ) (page word : ℕ) → words ≡ set c.words page word → IsKept c → IsKept (record c { words = words })
kept-word c words page word is k =
    let same : length words ≡ length c.words = ap (λ (xs : List ℕ). length xs) is ∙ length-set c.words page word in record {
      generation = k.generation;
      pages = subst (λ (n : ℕ). n < 2 ^ 32) (sym same) k.pages;
      owners = k.owners ∙ sym same;
      workers = k.workers;
      lives_room = k.lives_room;
      lives_table = k.lives_table ∙ sym same;
      hands_room = subst (λ (n : ℕ). All (HandRoom n c.room) c.hands.items) (sym same) k.hands_room;
      sets_room = k.sets_room;
      unpopped = k.unpopped;
    }

pub kept-spare : (c : Inside) (spare : ℕ) → IsKept c → IsKept (record c { spare = spare })
kept-spare c spare k = record {
  generation = k.generation;
  pages = k.pages;
  owners = k.owners;
  workers = k.workers;
  lives_room = k.lives_room;
  lives_table = k.lives_table;
  hands_room = k.hands_room;
  sets_room = k.sets_room;
  unpopped = k.unpopped;
}

pub kept-generation : (c : Inside) (g : ℕ) → g + 3 < 2 ^ 64
    → (n : ℕ) → n ≡ count_unpopped g 0 (map set_view c.sets.items)
    → IsKept c → IsKept (record c { generation = g; unpopped = n })
kept-generation c g low n counted k = record {
  generation = low;
  pages = k.pages;
  owners = k.owners;
  workers = k.workers;
  lives_room = k.lives_room;
  lives_table = k.lives_table;
  hands_room = k.hands_room;
  sets_room = k.sets_room;
  unpopped = counted;
}

pub kept-hands : (c : Inside) (ws : List CoreHand) → All (HandRoom (length c.words) c.room) ws → IsKept c → IsKept (record c { hands = with_items c.hands ws })
kept-hands c ws room k = record {
  generation = k.generation;
  pages = k.pages;
  owners = k.owners;
  workers = subst (λ (n : ℕ). n < 2 ^ 32) (sym c.hands.ok.0 ∙ (with_items c.hands ws).ok.0) k.workers;
  lives_room = k.lives_room;
  lives_table = k.lives_table;
  hands_room = All-take (HandRoom (length c.words) c.room) c.hands.len _ (All-append (HandRoom (length c.words) c.room) ws _ room (All-drop (HandRoom (length c.words) c.room) (length ws) c.hands.items k.hands_room));
  sets_room = k.sets_room;
  unpopped = k.unpopped;
}

-- hands with nothing in them have tables of the pages
pub bare-hands : (pages workers : ℕ) (hands : List CoreHand) → hands ≡ copies workers (bare_hand pages) → All (HandRoom pages 0) hands
bare-hands pages workers hands is =
    subst (λ (xs : List CoreHand). All (HandRoom pages 0) xs) (sym is) (All-map (HandRoom pages 0) (λ _. bare_hand pages) (range_with_len 0 workers) (λ k d l. bare))
  where
    bare : HandRoom pages 0 (bare_hand pages)
    bare = record {
      sweeping = omega arith;
      held = omega arith;
      cached = omega arith;
      popped = omega arith;
      swept = omega arith;
      pulled = omega arith;
      sweeping_table = omega arith;
      held_table = omega arith;
      cached_table = omega arith;
      popped_table = omega arith;
      pulled_table = omega arith;
    }
