-- Items that get their seats.
use Rattle.std.proofs.Common.{◌≡◌, ◌≢◌, ℕ, zero, suc, ◌+◌, ◌<◌, ◌≤◌, true, List, [], ◌∷◌, map, set, length, get_or, Option, Some, refl, sym, ◌∙◌, ap, subst, arith, ◌⊎◌, inl, inr}
use Rattle.std.specs.List.{slice_get}
use Rattle.std.proofs.lemmas.Bool.{cases_eq}
use Rattle.std.proofs.lemmas.Option.{slice_get-get_or}
use Rattle.cycle_history.specs.Objects.{is_placed}
use Rattle.report_check.specs.declared.items.Item.{Item}
use Rattle.report_check.specs.declared.lives.OpenLife.{OpenLife}
use Rattle.report_check.specs.declared.lives.Seat.{Seat}
use Rattle.report_check.specs.Items.{object_of}
use Rattle.report_check.specs.Lives.{IsOne}
use Rattle.report_check.specs.Seats.{AreSameBut, AreSeatedIn, HasOne, at_seat, unseated}

-- ---- one item at its seat

get-same : (xs : List Item) (n : ℕ) (x : Item) → n < length xs → slice_get (set xs n x) n ≡ Some x
get-same [] n x lt = absurd (omega arith)
get-same (y ∷ xs) zero x lt = refl
get-same (y ∷ xs) (suc n) x lt = get-same xs n x (omega arith)

get-other : (xs : List Item) (n k : ℕ) (x : Item) → k ≢ n → slice_get (set xs n x) k ≡ slice_get xs k
get-other [] n k x ne = refl
get-other (y ∷ xs) zero zero x ne = absurd (ne refl)
get-other (y ∷ xs) zero (suc k) x ne = refl
get-other (y ∷ xs) (suc n) zero x ne = refl
get-other (y ∷ xs) (suc n) (suc k) x ne = get-other xs n k x (λ e. ne (ap suc e))

same-set : (xs : List Item) (n : ℕ) (x y : Item) → slice_get xs n ≡ Some x → unseated y ≡ unseated x → map unseated (set xs n y) ≡ map unseated xs
same-set [] n x y at e = cc
same-set (z ∷ xs) zero x y at e = let same : z ≡ x = cc in ap (λ (i : Item). i ∷ map unseated xs) (e ∙ ap unseated (sym same))
same-set (z ∷ xs) (suc n) x y at e = ap (λ (is : List Item). unseated z ∷ is) (same-set xs n x y at e)

pub same-length : (old new : List Item) → AreSameBut old new → length new ≡ length old
same-length [] [] e = refl
same-length [] (y ∷ ys) e = cc
same-length (x ∷ xs) [] e = cc
same-length (x ∷ xs) (y ∷ ys) e = (let t : map unseated ys ≡ map unseated xs = cc in ap suc (same-length xs ys t))

-- the item at a number before and after
pub same-at : (old new : List Item) (n : ℕ) (item : Item) → AreSameBut old new → slice_get new n ≡ Some item → (was : Item) × (slice_get old n ≡ Some was) × (unseated item ≡ unseated was)
same-at [] [] n item e at = cc
same-at [] (y ∷ ys) n item e at = cc
same-at (x ∷ xs) [] n item e at = cc
same-at (x ∷ xs) (y ∷ ys) zero item e at = (let h : unseated y ≡ unseated x = cc in let f : y ≡ item = cc in (x, refl, ap unseated (sym f) ∙ h))
same-at (x ∷ xs) (y ∷ ys) (suc n) item e at = (let t : map unseated ys ≡ map unseated xs = cc in same-at xs ys n item t at)

-- ---- the loop over items

pub seated-none : (lives : List (Option OpenLife)) (items : List Item) (first bound : ℕ) → AreSeatedIn lives items items first first bound bound
seated-none lives items first bound = record {
  same = refl;
  few = omega arith;
  kept = λ i lt. refl;
  seats = λ i item low high. absurd (omega arith);
  lost = λ lt. absurd (omega arith);
}

-- the item with a number as it was when the loop began
pub old-at : (lives : List (Option OpenLife)) (old new : List Item) (first n bound : ℕ) (d : Item) → AreSeatedIn lives old new first n bound bound → n < length old → (was : Item) × (slice_get old n ≡ Some was) × (unseated (get_or new n d) ≡ unseated was)
old-at lives old new first n bound d is lt = let size = same-length old new is.same in same-at old new n (get_or new n d) is.same (slice_get-get_or new n d (omega arith))

pub seated-other : (lives : List (Option OpenLife)) (old new : List Item) (first n bound : ℕ) (d : Item) → n < length old → (is_placed (get_or new n d).answer ≡ true → HasOne lives (get_or new n d))
    → AreSeatedIn lives old new first n bound bound → AreSeatedIn lives old new first (n + 1) bound bound
seated-other lives old new first n bound d lt here is = record {
  same = is.same;
  few = is.few;
  kept = is.kept;
  seats = λ i item low high less at placed. elim (cases_eq i n) [
    | inl e ↦ (
        let size = same-length old new is.same in
        let there : slice_get new n ≡ Some (get_or new n d) = slice_get-get_or new n d (omega arith) in
        let at' : slice_get new n ≡ Some item = subst (λ (k : ℕ). slice_get new k ≡ Some item) e at in
        let f : get_or new n d ≡ item = cc in
        subst (λ (x : Item). HasOne lives x) f (here (subst (λ (x : Item). is_placed x.answer ≡ true) (sym f) placed)))
    | inr ne ↦ is.seats i item low (omega arith) less at placed
  ];
  lost = λ less. absurd (omega arith);
}

pub seated-more : (lives : List (Option OpenLife)) (old new later : List Item) (first n bound : ℕ) (d : Item) (seat : Seat) → n < length old → first ≤ n → IsOne lives (object_of 0 (get_or new n d)) seat
    → later ≡ set new n (at_seat (get_or new n d) seat) → AreSeatedIn lives old new first n bound bound → AreSeatedIn lives old later first (n + 1) bound bound
seated-more lives old new later first n bound d seat lt low one e is = rw e (record {
  same = same-set new n (get_or new n d) (at_seat (get_or new n d) seat) there refl ∙ is.same;
  few = is.few;
  kept = λ i less. get-other new n i (at_seat (get_or new n d) seat) (λ q. (let f : ⊥ = omega arith in f)) ∙ is.kept i less;
  seats = λ i item from to less at placed. elim (cases_eq i n) [
    | inl q ↦ (
        let at' : slice_get (set new n (at_seat (get_or new n d) seat)) n ≡ Some item = subst (λ (k : ℕ). slice_get (set new n (at_seat (get_or new n d) seat)) k ≡ Some item) q at in
        let s : Some (at_seat (get_or new n d) seat) ≡ Some item = sym (get-same new n (at_seat (get_or new n d) seat) inside) ∙ at' in
        let f : at_seat (get_or new n d) seat ≡ item = cc in
        subst (λ (x : Item). HasOne lives x) f (seat-one one))
    | inr ne ↦ is.seats i item from (omega arith) less (sym (get-other new n i (at_seat (get_or new n d) seat) ne) ∙ at) placed
  ];
  lost = λ less. absurd (omega arith);
})
  where
    inside : n < length new
    inside = let size = same-length old new is.same in omega arith

    there : slice_get new n ≡ Some (get_or new n d)
    there = slice_get-get_or new n d inside

    seat-one : IsOne lives (object_of 0 (get_or new n d)) seat → HasOne lives (at_seat (get_or new n d) seat)
    seat-one o = record {
      life = o.life;
      number = o.number;
      holds = o.holds;
      sits = record { class = o.sits.class; pages = o.sits.pages; index = o.sits.index; address = o.sits.address };
      only = λ other k holds sits. o.only other k holds (record { class = sits.class; pages = sits.pages; index = sits.index; address = sits.address });
    }

pub seated-end : (lives : List (Option OpenLife)) (old new : List Item) (first n last bound : ℕ) → (bound ≤ n) ⊎ (last ≤ n) → AreSeatedIn lives old new first n bound bound → AreSeatedIn lives old new first last bound bound
seated-end lives old new first n last bound far is = record {
  same = is.same;
  few = is.few;
  kept = is.kept;
  seats = λ i item low high less at placed. is.seats i item low (elim far [ inl a ↦ omega arith | inr b ↦ omega arith ]) less at placed;
  lost = λ less. absurd (omega arith);
}

-- an object's seat doesn't hang on the one that its item has
one-like : (lives : List (Option OpenLife)) (a b : Item) (seat : Seat) → unseated a ≡ unseated b → IsOne lives (object_of 0 a) seat → IsOne lives (object_of 0 b) seat
one-like lives a b seat e one =
    let f : IsOne lives (object_of 0 (unseated a)) seat = bare a one in
    whole b (subst (λ (x : Item). IsOne lives (object_of 0 x) seat) e f)
  where
    bare : (x : Item) → IsOne lives (object_of 0 x) seat → IsOne lives (object_of 0 (unseated x)) seat
    bare x o = record {
      life = o.life;
      number = o.number;
      holds = o.holds;
      sits = record { class = o.sits.class; pages = o.sits.pages; index = o.sits.index; address = o.sits.address };
      only = λ other k holds sits. o.only other k holds (record { class = sits.class; pages = sits.pages; index = sits.index; address = sits.address });
    }

    whole : (x : Item) → IsOne lives (object_of 0 (unseated x)) seat → IsOne lives (object_of 0 x) seat
    whole x o = record {
      life = o.life;
      number = o.number;
      holds = o.holds;
      sits = record { class = o.sits.class; pages = o.sits.pages; index = o.sits.index; address = o.sits.address };
      only = λ other k holds sits. o.only other k holds (record { class = sits.class; pages = sits.pages; index = sits.index; address = sits.address });
    }

pub seated-lost : (lives : List (Option OpenLife)) (old new : List Item) (first n last bound : ℕ) (d : Item) → n < length old → first ≤ n → n < last → n < bound → is_placed (get_or new n d).answer ≡ true
    → ((seat : Seat) → ¬ IsOne lives (object_of 0 (get_or new n d)) seat) → AreSeatedIn lives old new first n bound bound → AreSeatedIn lives old new first last bound n
seated-lost lives old new first n last bound d lt low high less placed none is = record {
  same = is.same;
  few = omega arith;
  kept = is.kept;
  seats = λ i item from to below at placed'. is.seats i item from below (omega arith) at placed';
  lost = λ below. (
      let w = old-at lives old new first n bound d is lt in (
        low,
        high,
        record {
          item = w.0;
          at = w.1;
          placed = ap (λ (x : Item). is_placed x.answer) (sym w.2) ∙ placed;
          none = λ seat one. none seat (one-like lives w.0 (get_or new n d) seat (sym w.2) one);
        },
      ));
}
