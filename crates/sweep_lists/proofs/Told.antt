-- Where lives begin, as a table by page tells it.
use Rattle.std.proofs.Common.{◌≡◌, ◌≢◌, ℕ, suc, ◌+◌, ◌<◌, ◌≤◌, Bool, true, false, cond, nat_lt, eq-eqb, ne_eqb, if◌then◌else◌, List, [], ◌∷◌, ◌++◌, length, get_or, set, drop, map, refl, sym, ap, subst, ◌∙◌, Option, Some, None, option_map, arith, get_or-set_same, get_or-set_other}
use Rattle.std.specs.List.{position, position_or_len, count_by}
use Rattle.std.proofs.lemmas.Bool.{lt-ltb, eqb-true}
use Rattle.std.proofs.lemmas.Bool.Decides.{nat_tests}
use Rattle.std.proofs.lemmas.List.{drop_more}
use Rattle.std.proofs.Math.ListN.{length-set}
use Rattle.std.proofs.lemmas.List.Quantifiers.{position-Some}
use Rattle.std.proofs.lemmas.List.Sums.{sum_by-cons, sum_by-set, sum_by_push}
use Rattle.std.proofs.Math.Seq.{map-set_same}
use mathlib.Core.Logic.{dite}
use native.Mathlib.Decide.{ℕ_discrete}
use Rattle.sweep_laws.specs.State.{LifeState}
use Rattle.sweep_lists.specs.There.{begins, AreApart}
use Rattle.sweep_lists.specs.There.{TellsPlaces, told, first_told}
use Rattle.sweep_lists.proofs.Maps.{position-map}

-- the place in a list with one item more in front
shift : (b c : Bool) (n : ℕ) → b ≡ c → cond b (Some (1 + n)) None ≡ option_map suc (cond c (Some n) None)
shift true true n e = ap (λ (k : ℕ). let r : Option ℕ = Some k in r) (omega arith)
shift true false n e = absurd (cc)
shift false true n e = absurd (cc)
shift false false n e = refl

same_test : (n m : ℕ) → nat_lt (1 + n) (suc m) ≡ nat_lt n m
same_test n m = grind (arith, nat_tests)

some_eq : (i j : ℕ) → i ≡ j → Some i ≡ Some j
some_eq i j e = ap (λ (k : ℕ). let r : Option ℕ = Some k in r) e

module _ {A : Type 0} (t : A → Bool) where
  pub at-front : (x : A) (xs : List A) → t x ≡ true → position t (x ∷ xs) ≡ Some 0
  at-front x xs is = let s : nat_lt 0 (suc (length xs)) ≡ true = lt-ltb 0 (suc (length xs)) (omega arith) in rw (is, s) refl

  pub behind-front : (x : A) (xs : List A) → t x ≡ false → position t (x ∷ xs) ≡ option_map suc (position t xs)
  behind-front x xs is = rw is (shift _ _ (position_or_len t xs) (same_test (position_or_len t xs) (length xs)))

  -- the same tests pass at the same places
  pub position-same : (xs ys : List A) → map t xs ≡ map t ys → position t xs ≡ position t ys
  position-same xs ys e = sym (position-map t (λ b. b) xs) ∙ ap (position (λ (b : Bool). b)) e ∙ position-map t (λ b. b) ys

-- the first place that passes where an item comes to the place n, and passes or not
abbrev pushed : Option ℕ → Bool → ℕ → Option ℕ
pushed None passes n = if passes then Some n else None
pushed (Some i) passes n = Some i

pushed-shift : (r : Option ℕ) (b : Bool) (n : ℕ) → option_map suc (pushed r b n) ≡ pushed (option_map suc r) b (suc n)
pushed-shift None true n = refl
pushed-shift None false n = refl
pushed-shift (Some i) b n = refl

pushed-passes : (r : Option ℕ) (n : ℕ) → first_told r n ≡ pushed r true n
pushed-passes None n = refl
pushed-passes (Some i) n = refl

pushed-fails : (r : Option ℕ) (n : ℕ) → r ≡ pushed r false n
pushed-fails None n = refl
pushed-fails (Some i) n = refl

not_shifted : (r : Option ℕ) → option_map suc r ≡ None → r ≡ None
not_shifted None e = refl
not_shifted (Some i) e = absurd (cc)

first_absent : (r : Option ℕ) (n : ℕ) → r ≡ Some 0 → r ≡ None → n ≡ 0
first_absent None n e f = absurd (cc)
first_absent (Some i) n e f = absurd (cc)

module _ {A : Type 0} (t : A → Bool) where
  -- the list with an item more at its end
  pub position-push : (xs : List A) (x : A) → position t (xs ++ x ∷ []) ≡ pushed (position t xs) (t x) (length xs)
  position-push [] x = by_test (t x) refl
    where
      by_test : (b : Bool) → t x ≡ b → position t (x ∷ []) ≡ pushed None (t x) 0
      by_test true is = at-front t x [] is ∙ rw is refl
      by_test false is = behind-front t x [] is ∙ rw is refl
  position-push (y ∷ ys) x = by_front (t y) refl (position-push ys x)
    where
      by_front : (b : Bool) → t y ≡ b → position t (ys ++ x ∷ []) ≡ pushed (position t ys) (t x) (length ys) → position t (y ∷ (ys ++ x ∷ [])) ≡ pushed (position t (y ∷ ys)) (t x) (suc (length ys))
      by_front true is rest = at-front t y (ys ++ x ∷ []) is ∙ ap (λ r. pushed r (t x) (suc (length ys))) (sym (at-front t y ys is))
      by_front false is rest = behind-front t y (ys ++ x ∷ []) is ∙ ap (λ r. option_map suc r) rest ∙ pushed-shift (position t ys) (t x) (length ys)
          ∙ ap (λ r. pushed r (t x) (suc (length ys))) (sym (behind-front t y ys is))

  -- none passes where none is counted, and the other way round

  pub none-counted : (xs : List A) → count_by t xs ≡ 0 → position t xs ≡ None
  none-counted [] e = refl
  none-counted (x ∷ xs) e = by_test (t x) refl (sym (sum_by-cons (λ (y : A). cond (t y) 1 0) x xs) ∙ e) (none-counted xs)
    where
      by_test : (b : Bool) → t x ≡ b → cond (t x) 1 0 + count_by t xs ≡ 0 → (count_by t xs ≡ 0 → position t xs ≡ None) → position t (x ∷ xs) ≡ None
      by_test true is none rest = let n : 1 + count_by t xs ≡ 0 = (rw is at none) in absurd (omega arith)
      by_test false is none rest = let n : 0 + count_by t xs ≡ 0 = (rw is at none) in behind-front t x xs is ∙ ap (λ r. option_map suc r) (rest (omega arith))

  pub counted-none : (xs : List A) → position t xs ≡ None → count_by t xs ≡ 0
  counted-none [] e = refl
  counted-none (x ∷ xs) e = sum_by-cons (λ (y : A). cond (t y) 1 0) x xs ∙ by_test (t x) refl (counted-none xs)
    where
      by_test : (b : Bool) → t x ≡ b → (position t xs ≡ None → count_by t xs ≡ 0) → cond (t x) 1 0 + count_by t xs ≡ 0
      by_test true is rest = first_absent (position t (x ∷ xs)) (cond (t x) 1 0 + count_by t xs) (at-front t x xs is) e
      by_test false is rest = let n = rest (not_shifted (position t xs) (sym (behind-front t x xs is) ∙ e)) in ap (λ b. cond b 1 0 + count_by t xs) is ∙ ap (λ m. 0 + m) n

  count-map : (xs : List A) → count_by t xs ≡ count_by (λ (b : Bool). b) (map t xs)
  count-map [] = refl
  count-map (x ∷ xs) = sum_by-cons (λ (y : A). cond (t y) 1 0) x xs ∙ ap (λ n. cond (t x) 1 0 + n) (count-map xs) ∙ sym (sum_by-cons (λ (b : Bool). cond b 1 0) (t x) (map t xs))

  pub count-same : (xs ys : List A) → map t xs ≡ map t ys → count_by t xs ≡ count_by t ys
  count-same xs ys e = count-map xs ∙ ap (λ bs. count_by (λ (b : Bool). b) bs) e ∙ sym (count-map ys)

begins_is : (s : LifeState) (p : ℕ) → p ≡ s.page → begins p (Some s) ≡ true
begins_is s p e = eq-eqb s.page p (sym e)

begins_not : (s : LifeState) (p : ℕ) → p ≢ s.page → begins p (Some s) ≡ false
begins_not s p o = ne_eqb s.page p (λ e. o (sym e))

-- a life begins at one page only
other_page : (p page : ℕ) (place : Option LifeState) → begins page place ≡ true → p ≢ page → begins p place ≡ false
other_page p page None is o = refl
other_page p page (Some s) is o = begins_not s p (λ e. o (e ∙ eqb-true s.page page is))

-- a table that tells of places tells of others at which lives begin as before
pub tells_same : (starts : List (Option ℕ)) (xs ys : List (Option LifeState)) → ((p : ℕ) → map (begins p) xs ≡ map (begins p) ys) → TellsPlaces starts xs → TellsPlaces starts ys
tells_same starts xs ys same tells p low = tells p low ∙ position-same (begins p) xs ys (same p)

pub apart_same : (xs ys : List (Option LifeState)) → ((p : ℕ) → map (begins p) xs ≡ map (begins p) ys) → AreApart xs → AreApart ys
apart_same xs ys same apart p = let e = count-same (begins p) xs ys (same p) in let a = apart p in omega arith

-- a life comes to the end

pub tells_pushed : (n : ℕ) (xs : List (Option LifeState)) (s : LifeState) (starts : List (Option ℕ)) → n ≡ length xs → TellsPlaces starts xs → TellsPlaces (set starts s.page (first_told (get_or starts s.page None) n)) (xs ++ Some s ∷ [])
tells_pushed n xs s starts long tells p inside = dite (ℕ_discrete p s.page) here there ∙ sym (position-push (begins p) xs (Some s))
  where
    low : p < length starts
    low = omega (arith, length-set {A = Option ℕ})

    here : p ≡ s.page → get_or (set starts s.page (first_told (get_or starts s.page None) n)) p None ≡ pushed (position (begins p) xs) (begins p (Some s)) (length xs)
    here e = ap (λ (q : ℕ). get_or (set starts q (first_told (get_or starts q None) n)) p None) (sym e) ∙ get_or-set_same starts p (first_told (get_or starts p None) n) None low
        ∙ ap (λ r. first_told r n) (tells p low) ∙ pushed-passes (position (begins p) xs) n ∙ ap (λ m. pushed (position (begins p) xs) true m) long
        ∙ ap (λ b. pushed (position (begins p) xs) b (length xs)) (sym (begins_is s p e))

    there : p ≢ s.page → get_or (set starts s.page (first_told (get_or starts s.page None) n)) p None ≡ pushed (position (begins p) xs) (begins p (Some s)) (length xs)
    there o = get_or-set_other starts s.page p (first_told (get_or starts s.page None) n) None o ∙ tells p low ∙ pushed-fails (position (begins p) xs) (length xs)
        ∙ ap (λ b. pushed (position (begins p) xs) b (length xs)) (sym (begins_not s p o))

pub apart_pushed : (xs : List (Option LifeState)) (s : LifeState) → position (begins s.page) xs ≡ None → AreApart xs → AreApart (xs ++ Some s ∷ [])
apart_pushed xs s none apart p = dite (ℕ_discrete p s.page) here there
  where
    more : count_by (begins p) (xs ++ Some s ∷ []) ≡ count_by (begins p) xs + cond (begins p (Some s)) 1 0
    more = sum_by_push (λ (place : Option LifeState). cond (begins p place) 1 0) xs (Some s)

    here : p ≡ s.page → count_by (begins p) (xs ++ Some s ∷ []) ≤ 1
    here e = let m = more ∙ ap (λ b. count_by (begins p) xs + cond b 1 0) (begins_is s p e) in
        let z = ap (λ q. count_by (begins q) xs) e ∙ counted-none (begins s.page) xs none in omega arith

    there : p ≢ s.page → count_by (begins p) (xs ++ Some s ∷ []) ≤ 1
    there o = let m = more ∙ ap (λ b. count_by (begins p) xs + cond b 1 0) (begins_not s p o) in let a = apart p in omega arith

-- the first life that begins at a page leaves

pub tells_left : (xs : List (Option LifeState)) (i page : ℕ) (starts : List (Option ℕ)) (doubled : Bool) → position (begins page) xs ≡ Some i → (doubled ≡ false → AreApart xs) → TellsPlaces starts xs
    → TellsPlaces (set starts page (if doubled then position (begins page) (set xs i None) else None)) (set xs i None)
tells_left xs i page starts doubled at apart tells p inside = dite (ℕ_discrete p page) here there
  where
    low : p < length starts
    low = omega (arith, length-set {A = Option ℕ})

    first : (i < length xs) × (begins page (get_or xs i None) ≡ true) × ((k : ℕ) → k < i → begins page (get_or xs k None) ≡ false)
    first = position-Some (begins page) xs i None at

    none : doubled ≡ false → None ≡ position (begins page) (set xs i None)
    none is = let c = sum_by-set (λ (place : Option LifeState). cond (begins page place) 1 0) xs i None None first.0 in
        let d = sym c ∙ ap (λ b. count_by (begins page) (set xs i None) + cond b 1 0) first.1 in let a = apart is page in
        sym (none-counted (begins page) (set xs i None) (omega arith))

    by_doubled : (b : Bool) → doubled ≡ b → (if b then position (begins page) (set xs i None) else None) ≡ position (begins page) (set xs i None)
    by_doubled true is = refl
    by_doubled false is = none is

    here : p ≡ page → get_or (set starts page (if doubled then position (begins page) (set xs i None) else None)) p None ≡ position (begins p) (set xs i None)
    here e = ap (λ q. get_or (set starts page (if doubled then position (begins page) (set xs i None) else None)) q None) e
        ∙ get_or-set_same starts page (if doubled then position (begins page) (set xs i None) else None) None (subst (λ q. q < length starts) e low) ∙ by_doubled doubled refl ∙ ap (λ q. position (begins q) (set xs i None)) (sym e)

    there : p ≢ page → get_or (set starts page (if doubled then position (begins page) (set xs i None) else None)) p None ≡ position (begins p) (set xs i None)
    there o = get_or-set_other starts page p (if doubled then position (begins page) (set xs i None) else None) None o ∙ tells p low
        ∙ position-same (begins p) xs (set xs i None) (sym (map-set_same (begins p) xs i None None (sym (other_page p page (get_or xs i None) first.1 o))))

pub apart_left : (xs : List (Option LifeState)) (i : ℕ) → i < length xs → AreApart xs → AreApart (set xs i None)
apart_left xs i low apart p = let c = sum_by-set (λ (place : Option LifeState). cond (begins p place) 1 0) xs i None None low in let a = apart p in omega arith

-- the table is told anew

told-next : (k : ℕ) (old found : Option ℕ) → told (k + 1) old found ≡ told k old (option_map suc found)
told-next k old None = refl
told-next k old (Some j) = some_eq _ _ (omega arith)

pub told_more : (k p : ℕ) (xs : List (Option LifeState)) (old was now : Option ℕ) → k < length xs → was ≡ told (k + 1) old (position (begins p) (drop (k + 1) xs)) → now ≡ (if begins p (get_or xs k None) then Some k else was)
    → now ≡ told k old (position (begins p) (drop k xs))
told_more k p xs old was now low is set = set ∙ by_test (begins p (get_or xs k None)) refl ∙ ap (λ ys. told k old (position (begins p) ys)) (sym (drop_more xs k None low))
  where
    rest : List (Option LifeState)
    rest = drop (k + 1) xs

    by_test : (b : Bool) → begins p (get_or xs k None) ≡ b → (if begins p (get_or xs k None) then Some k else was) ≡ told k old (position (begins p) (get_or xs k None ∷ rest))
    by_test true here = ap (λ b. if b then Some k else was) here ∙ some_eq _ _ (omega arith) ∙ ap (λ r. told k old r) (sym (at-front (begins p) (get_or xs k None) rest here))
    by_test false here = ap (λ b. if b then Some k else was) here ∙ is ∙ told-next k old (position (begins p) rest) ∙ ap (λ r. told k old r) (sym (behind-front (begins p) (get_or xs k None) rest here))

-- it tells of places where as many lives begin at each page as before
pub tells_again : (xs ys : List (Option LifeState)) (p : ℕ) (was now : Option ℕ) → count_by (begins p) ys ≡ count_by (begins p) xs → was ≡ position (begins p) xs → now ≡ told 0 was (position (begins p) ys) → now ≡ position (begins p) ys
tells_again xs ys p was now same is set = set ∙ by_found (position (begins p) ys) refl
  where
    by_found : (r : Option ℕ) → position (begins p) ys ≡ r → told 0 was (position (begins p) ys) ≡ position (begins p) ys
    by_found None e = ap (λ r. told 0 was r) e ∙ is ∙ none-counted (begins p) xs (sym same ∙ counted-none (begins p) ys e) ∙ sym e
    by_found (Some j) e = ap (λ r. told 0 was r) e ∙ some_eq _ _ (omega arith) ∙ sym e
