-- What the lives keep and show, where one comes, changes or leaves.
use Rattle.std.proofs.Common.{◌≡◌, ℕ, ◌+◌, ◌-◌, ◌<◌, ◌≤◌, ◌==◌, Bool, true, false, cond, if◌then◌else◌, Vec, Global, vec_capacity, List, [], ◌∷◌, ◌++◌, length, get_or, set, map, refl, sym, ap, subst, ◌∙◌, Option, Some, None, option_map, is_some, Result, Ok, Err, arith}
use Rattle.std.specs.Result.{OnOk, OnErr}
use Rattle.std.specs.Prelude.{unwrap_or}
use Rattle.std.specs.List.{All, position, count_by}
use Rattle.std.specs.Vec.{with_item, with_items}
use Rattle.std.proofs.Math.Seq.{map-set_same}
use Rattle.std.proofs.lemmas.List.{length-map, length-append, map-set, get_or-map, with_items_is}
use Rattle.std.proofs.lemmas.List.Elements.{All-set, All-push}
use Rattle.std.proofs.lemmas.List.Quantifiers.{position-Some}
use Rattle.std.proofs.lemmas.List.Sums.{count_by-le-length, sum_by-set}
use Rattle.sweep_laws.specs.State.{LifeState}
use Rattle.sweep_laws.specs.Reading.{life_in, no_life}
use Rattle.sweep_laws.specs.ChangesOfLives.{mark_life, change_life, drop_life}
use Rattle.sweep_lists.specs.declared.life.Life.{Life}
use Rattle.sweep_lists.specs.declared.lives.Lives.TheInside.{Inside}
use Rattle.sweep_lists.specs.KeptLives.{lives_view, AreKept}
use Rattle.sweep_lists.specs.Room.{Tabled}
use Rattle.sweep_lists.specs.Views.{life_view, LifeRoom}
use Rattle.sweep_lists.specs.There.{there, passes, place_view, begins, AreApart, PlaceRoom, TellsPlaces, first_told}
use Rattle.sweep_lists.proofs.There.{there-length, there-push, find-at, find-absent, change-at, change-absent, drop-at, drop-absent}
use Rattle.sweep_lists.proofs.Told.{tells_same, apart_same, count-same, tells_pushed, apart_pushed, tells_left, apart_left}

-- where a life begins, if one is there
page_of : Option LifeState → Option ℕ
page_of place = option_map (λ (life : LifeState). life.page) place

begins-pages : (p : ℕ) (xs : List (Option LifeState)) → map (begins p) xs ≡ map (passes (λ q. q == p)) (map page_of xs)
unfolding page_of
begins-pages p [] = refl
begins-pages p (None ∷ xs) = ap (λ bs. false ∷ bs) (begins-pages p xs)
begins-pages p (Some s ∷ xs) = ap (λ bs. (s.page == p) ∷ bs) (begins-pages p xs)

there-pages : (xs : List (Option LifeState)) → map is_some xs ≡ map is_some (map page_of xs)
unfolding page_of
there-pages [] = refl
there-pages (None ∷ xs) = ap (λ bs. false ∷ bs) (there-pages xs)
there-pages (Some s ∷ xs) = ap (λ bs. true ∷ bs) (there-pages xs)

-- places that begin at the same pages

same_begins : (xs ys : List (Option LifeState)) → map page_of xs ≡ map page_of ys → (p : ℕ) → map (begins p) xs ≡ map (begins p) ys
same_begins xs ys same p = begins-pages p xs ∙ ap (map (passes (λ q. q == p))) same ∙ sym (begins-pages p ys)

same_length : (xs ys : List (Option LifeState)) → map page_of xs ≡ map page_of ys → length (there xs) ≡ length (there ys)
same_length xs ys same = there-length xs ∙ count-same is_some xs ys (there-pages xs ∙ ap (map is_some) same ∙ sym (there-pages ys)) ∙ sym (there-length ys)

pages-marked : (marks : List (ℕ × ℕ)) (xs : List (Option LifeState)) → map page_of (map (option_map (mark_life marks)) xs) ≡ map page_of xs
unfolding page_of
pages-marked marks [] = refl
pages-marked marks (None ∷ xs) = ap (λ ps. None ∷ ps) (pages-marked marks xs)
pages-marked marks (Some s ∷ xs) = ap (λ ps. Some s.page ∷ ps) (pages-marked marks xs)

-- a place that changes, or stays where its call fails, keeps its page
page-stays : {E : Type 0} (f : LifeState → LifeState) (r : Result (Unit {0}) E) (d y : Option Life) → ((s : LifeState) → (f s).page ≡ s.page) → OnOk r (place_view y ≡ option_map f (place_view d)) → OnErr r (y ≡ d) → page_of (place_view y) ≡ page_of (place_view d)
unfolding page_of
page-stays f (Ok x) None y keeps ok err = ap page_of ok
page-stays f (Ok x) (Some life) y keeps ok err = ap page_of ok ∙ ap (λ (p : ℕ). let r : Option ℕ = Some p in r) (keeps (life_view life))
page-stays f (Err e) d y keeps ok err = ap (λ (place : Option Life). page_of (place_view place)) err

-- the lives that are there are no more than the places
pub used-few : (inside : Inside) → AreKept inside → inside.used ≤ length inside.places.items
used-few inside kept =
    let a = there-length (map place_view inside.places.items) in
    let b = count_by-le-length is_some (map place_view inside.places.items) in
    let c = length-map inside.places.items place_view in
    omega (arith, kept.used)

-- what is shown of lives, with the room and the reach
abbrev pub tabled : List LifeState → ℕ → ℕ → Tabled LifeState
tabled lives space reach = record { items = lives; space = space; reach = reach }

pub tabled-is : (xs ys : List LifeState) (space m n : ℕ) → xs ≡ ys → m ≡ n → tabled xs space m ≡ tabled ys space n
tabled-is xs ys space m n e f = ap (λ lives. tabled lives space m) e ∙ ap (tabled ys space) f

-- the state with other lives
with_lives : Inside → List LifeState → Tabled LifeState
with_lives inside lives = record { items = lives; space = inside.space; reach = inside.starts.len }

-- the place of the first life that begins at a page, among what is shown
pub shown-there : (places : List (Option Life)) (page i : ℕ) (d : Option Life) → position (begins page) (map place_view places) ≡ Some i → d ≡ get_or places i d
    → (i < length places) × (get_or (map place_view places) i None ≡ place_view d)
shown-there places page i d at same =
    let p = position-Some (begins page) (map place_view places) i None at in
    let low : i < length places = omega (arith, p.0, length-map places place_view) in
    (low, get_or-map place_view places i d None low ∙ ap place_view (sym same))

pub found-at : (places : List (Option Life)) (page i : ℕ) (d : Option Life) → position (begins page) (map place_view places) ≡ Some i → d ≡ get_or places i d → life_in page (there (map place_view places)) ≡ unwrap_or (place_view d) no_life
found-at places page i d at same = ap (λ r. unwrap_or r no_life) (find-at (λ (s : LifeState). s.page == page) (map place_view places) i at ∙ (shown-there places page i d at same).1)

pub found-none : (places : List (Option Life)) (page : ℕ) → position (begins page) (map place_view places) ≡ None → life_in page (there (map place_view places)) ≡ no_life
found-none places page at = ap (λ r. unwrap_or r no_life) (find-absent (λ (s : LifeState). s.page == page) (map place_view places) at)

pub room-at : (places : List (Option Life)) (page i : ℕ) (d : Option Life) → position (begins page) (map place_view places) ≡ Some i → d ≡ get_or places i d → All PlaceRoom places → PlaceRoom d
room-at places page i d at same all = subst PlaceRoom (sym same) (all i d (shown-there places page i d at same).0)

-- what the lives keep where the first life that begins at a page changes
pub kept-at : {E : Type 0} (inside : Inside) (page i : ℕ) (f : LifeState → LifeState) (r : Result (Unit {0}) E) (d y : Option Life) → AreKept inside → position (begins page) (map place_view inside.places.items) ≡ Some i
    → d ≡ get_or inside.places.items i d → ((s : LifeState) → (f s).page ≡ s.page) → OnOk r (place_view y ≡ option_map f (place_view d)) → OnErr r (y ≡ d) → (PlaceRoom d → PlaceRoom y)
    → AreKept (record inside { places = with_item inside.places i y })
kept-at inside page i f r d y kept at same keeps ok err room = record {
  space = kept.space;
  room = All-set PlaceRoom inside.places.items i y (room (room-at inside.places.items page i d at same kept.room)) kept.room;
  starts = tells_same inside.starts.items shown (map place_view (set inside.places.items i y)) (same_begins shown (map place_view (set inside.places.items i y)) stay) kept.starts;
  apart = λ is. apart_same shown (map place_view (set inside.places.items i y)) (same_begins shown (map place_view (set inside.places.items i y)) stay) (kept.apart is);
  used = kept.used ∙ same_length shown (map place_view (set inside.places.items i y)) stay;
}
  where
    shown : List (Option LifeState)
    shown = map place_view inside.places.items

    stay : map page_of shown ≡ map page_of (map place_view (set inside.places.items i y))
    stay = sym (ap (map page_of) (map-set place_view inside.places.items i y)
        ∙ map-set_same page_of shown i (place_view y) None (page-stays f r d y keeps ok err ∙ ap page_of (sym (shown-there inside.places.items page i d at same).1)))

-- what they show then
pub shown-at : (inside : Inside) (page i : ℕ) (f : LifeState → LifeState) (d y : Option Life) → position (begins page) (map place_view inside.places.items) ≡ Some i → d ≡ get_or inside.places.items i d
    → place_view y ≡ option_map f (place_view d) → lives_view (record inside { places = with_item inside.places i y }) ≡ record (lives_view inside) { items = change_life page f (lives_view inside).items }
unfolding with_lives
shown-at inside page i f d y at same is =
    ap (with_lives inside) (ap there (map-set place_view inside.places.items i y ∙ ap (set (map place_view inside.places.items) i) (is ∙ ap (option_map f) (sym (shown-there inside.places.items page i d at same).1)))
    ∙ sym (change-at (λ (s : LifeState). s.page == page) f (map place_view inside.places.items) i at))

-- no life begins at the page: none changes, and none leaves

pub shown-none : (inside : Inside) (page : ℕ) (f : LifeState → LifeState) → position (begins page) (map place_view inside.places.items) ≡ None
    → lives_view inside ≡ record (lives_view inside) { items = change_life page f (lives_view inside).items }
unfolding with_lives
shown-none inside page f at = ap (with_lives inside) (sym (change-absent (λ (s : LifeState). s.page == page) f (map place_view inside.places.items) at))

pub dropped-none : (inside : Inside) (page : ℕ) → position (begins page) (map place_view inside.places.items) ≡ None
    → lives_view inside ≡ record (lives_view inside) { items = drop_life page (lives_view inside).items }
unfolding with_lives
dropped-none inside page at = ap (with_lives inside) (sym (drop-absent (λ (s : LifeState). s.page == page) (map place_view inside.places.items) at))

-- the first life that begins at the page leaves
pub dropped-at : (places : List (Option Life)) (page i : ℕ) → position (begins page) (map place_view places) ≡ Some i → there (map place_view (set places i None)) ≡ drop_life page (there (map place_view places))
dropped-at places page i at = ap there (map-set place_view places i None) ∙ sym (drop-at (λ (s : LifeState). s.page == page) (map place_view places) i at)

-- all change, or all stay where the call fails

marked-pages : {E : Type 0} (marks : List (ℕ × ℕ)) (r : Result (Unit {0}) E) (xs ys : List (Option LifeState)) → OnOk r (ys ≡ map (option_map (mark_life marks)) xs) → OnErr r (ys ≡ xs) → map page_of xs ≡ map page_of ys
marked-pages marks (Ok x) xs ys ok err = sym (ap (map page_of) ok ∙ pages-marked marks xs)
marked-pages marks (Err e) xs ys ok err = sym (ap (map page_of) err)

pub kept-marked : {E : Type 0} (inside : Inside) (marks : List (ℕ × ℕ)) (r : Result (Unit {0}) E) (news : List (Option Life)) → AreKept inside → length news ≡ inside.places.len
    → OnOk r (map place_view news ≡ map (option_map (mark_life marks)) (map place_view inside.places.items)) → OnErr r (map place_view news ≡ map place_view inside.places.items) → All PlaceRoom news
    → AreKept (record inside { places = with_items inside.places news })
kept-marked inside marks r news kept long ok err room =
    let shown = map place_view inside.places.items in
    let same = marked-pages marks r shown (map place_view news) ok err ∙ ap (λ (places : List (Option Life)). map page_of (map place_view places)) (sym (with_items_is inside.places news long)) in
    record {
      space = kept.space;
      room = subst (λ (places : List (Option Life)). All PlaceRoom places) (sym (with_items_is inside.places news long)) room;
      starts = tells_same inside.starts.items shown (map place_view (with_items inside.places news).items) (same_begins shown (map place_view (with_items inside.places news).items) same) kept.starts;
      apart = λ is. apart_same shown (map place_view (with_items inside.places news).items) (same_begins shown (map place_view (with_items inside.places news).items) same) (kept.apart is);
      used = kept.used ∙ same_length shown (map place_view (with_items inside.places news).items) same;
    }

-- what they show then
pub shown-with : (inside : Inside) (news : List (Option Life)) (states : List (Option LifeState)) → length news ≡ inside.places.len → map place_view news ≡ states
    → lives_view (record inside { places = with_items inside.places news }) ≡ record (lives_view inside) { items = there states }
unfolding with_lives
shown-with inside news states long is = ap (λ xs. with_lives inside (there xs)) (ap (map place_view) (with_items_is inside.places news long) ∙ is)

map-push : {A B : Type 0} (f : A → B) (xs : List A) (x : A) → map f (xs ++ x ∷ []) ≡ map f xs ++ f x ∷ []
map-push f [] x = refl
map-push f (y ∷ xs) x = ap (λ ys. f y ∷ ys) (map-push f xs x)

-- more room
pub kept-reserved : (inside : Inside) (places : Vec (Option Life) Global) (space : ℕ) → AreKept inside → places.items ≡ inside.places.items → space ≤ vec_capacity places → AreKept (record inside { places = places; space = space })
kept-reserved inside places space kept same fits = record {
  space = fits;
  room = subst (λ (xs : List (Option Life)). All PlaceRoom xs) (sym same) kept.room;
  starts = subst (λ (xs : List (Option Life)). TellsPlaces inside.starts.items (map place_view xs)) (sym same) kept.starts;
  apart = λ is. subst (λ (xs : List (Option Life)). AreApart (map place_view xs)) (sym same) (kept.apart is);
  used = kept.used ∙ ap (λ (xs : List (Option Life)). length (there (map place_view xs))) (sym same);
}

-- empty places go
pub kept-made : (inside : Inside) (places : Vec (Option Life) Global) (starts : Vec (Option ℕ) Global) → AreKept inside → vec_capacity places ≡ vec_capacity inside.places
    → there (map place_view places.items) ≡ there (map place_view inside.places.items) → TellsPlaces starts.items (map place_view places.items)
    → (AreApart (map place_view inside.places.items) → AreApart (map place_view places.items)) → (All PlaceRoom inside.places.items → All PlaceRoom places.items)
    → AreKept (record inside { places = places; starts = starts })
kept-made inside places starts kept capacity same tells apart room = record {
  space = omega (arith, kept.space, capacity);
  room = room kept.room;
  starts = tells;
  apart = λ is. apart (kept.apart is);
  used = kept.used ∙ ap (λ (xs : List LifeState). length xs) (sym same);
}

-- a life comes to the end
pub kept-pushed : (inside : Inside) (life : Life) (places : Vec (Option Life) Global) (starts : Vec (Option ℕ) Global) (n : ℕ) (doubled : Bool) → AreKept inside → LifeRoom life → n ≡ length inside.places.items
    → vec_capacity inside.places ≤ vec_capacity places → places.items ≡ inside.places.items ++ Some life ∷ []
    → starts.items ≡ set inside.starts.items life.page (first_told (get_or inside.starts.items life.page None) n)
    → (doubled ≡ false → (inside.doubled ≡ false) × (life.page < length inside.starts.items) × (get_or inside.starts.items life.page None ≡ None))
    → AreKept (record inside { places = places; used = inside.used + 1; starts = starts; doubled = doubled })
kept-pushed inside life places starts n doubled kept room long capacity items told single = record {
  space = omega (arith, kept.space, capacity);
  room = subst (λ (xs : List (Option Life)). All PlaceRoom xs) (sym items) (All-push PlaceRoom inside.places.items (Some life) kept.room room);
  starts = subst (λ (ts : List (Option ℕ)). TellsPlaces ts (map place_view places.items)) (sym told) (subst (λ (xs : List (Option LifeState)). TellsPlaces (set inside.starts.items life.page (first_told (get_or inside.starts.items life.page None) n)) xs) (sym shown)
      (tells_pushed n (map place_view inside.places.items) (life_view life) inside.starts.items (long ∙ sym (length-map inside.places.items place_view)) kept.starts));
  apart = λ is. let s = single is in subst (λ (xs : List (Option LifeState)). AreApart xs) (sym shown)
      (apart_pushed (map place_view inside.places.items) (life_view life) (sym (kept.starts life.page s.1) ∙ s.2) (kept.apart s.0));
  used = ap (λ k. k + 1) kept.used ∙ sym (ap (λ (xs : List LifeState). length xs) (there-pushed) ∙ length-append (there (map place_view inside.places.items)) (life_view life ∷ []));
}
  where
    shown : map place_view places.items ≡ map place_view inside.places.items ++ Some (life_view life) ∷ []
    shown = ap (map place_view) items ∙ map-push place_view inside.places.items (Some life)

    there-pushed : there (map place_view places.items) ≡ there (map place_view inside.places.items) ++ life_view life ∷ []
    there-pushed = ap there shown ∙ there-push (map place_view inside.places.items) (life_view life)

pub pushed-there : (life : Life) (xs ys : List (Option Life)) → ys ≡ xs ++ Some life ∷ [] → there (map place_view ys) ≡ there (map place_view xs) ++ life_view life ∷ []
pushed-there life xs ys items = ap there (ap (map place_view) items ∙ map-push place_view xs (Some life)) ∙ there-push (map place_view xs) (life_view life)

-- the first life that begins at a page leaves: one is fewer

some-begins : (page : ℕ) (place : Option LifeState) → begins page place ≡ true → is_some place ≡ true
some-begins page None is = is
some-begins page (Some s) is = refl

pub used-left : (xs : List (Option LifeState)) (i page : ℕ) → position (begins page) xs ≡ Some i → length (there (set xs i None)) + 1 ≡ length (there xs)
used-left xs i page at =
    let p = position-Some (begins page) xs i None at in
    let s = some-begins page (get_or xs i None) p.1 in
    let e : count_by is_some (set xs i None) + 1 ≡ count_by is_some xs + 0 = ap (λ b. count_by is_some (set xs i None) + cond b 1 0) (sym s) ∙ sum_by-set (λ (x : Option LifeState). cond (is_some x) 1 0) xs i None None p.0 in
    omega (arith, there-length xs, there-length (set xs i None))

pub kept-left : (inside : Inside) (page i : ℕ) (starts : Vec (Option ℕ) Global) → AreKept inside → position (begins page) (map place_view inside.places.items) ≡ Some i
    → starts.items ≡ set inside.starts.items page (if inside.doubled then position (begins page) (map place_view (set inside.places.items i None)) else None)
    → AreKept (record inside { places = with_item inside.places i None; used = inside.used - 1; starts = starts })
kept-left inside page i starts kept at told = record {
  space = kept.space;
  room = All-set PlaceRoom inside.places.items i None tt kept.room;
  starts = subst (λ (ts : List (Option ℕ)). TellsPlaces ts (map place_view (set inside.places.items i None))) (sym told)
      (subst (λ (xs : List (Option LifeState)). TellsPlaces (set inside.starts.items page (if inside.doubled then position (begins page) xs else None)) xs) (sym shown)
      (tells_left (map place_view inside.places.items) i page inside.starts.items inside.doubled at kept.apart kept.starts));
  apart = λ is. subst (λ (xs : List (Option LifeState)). AreApart xs) (sym shown)
      (apart_left (map place_view inside.places.items) i (position-Some (begins page) (map place_view inside.places.items) i None at).0 (kept.apart is));
  used = let e = used-left (map place_view inside.places.items) i page at in let f = ap (λ (xs : List (Option LifeState)). length (there xs)) shown in omega (arith, kept.used);
}
  where
    shown : map place_view (set inside.places.items i None) ≡ set (map place_view inside.places.items) i None
    shown = map-set place_view inside.places.items i None
