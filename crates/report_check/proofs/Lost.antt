-- The first item that has lost its life.
use Rattle.std.proofs.Common.{◌≡◌, ◌≢◌, ℕ, zero, suc, ◌+◌, ◌<◌, ◌≤◌, Bool, true, false, ◌&&◌, ◌||◌, leb, List, [], ◌∷◌, ◌++◌, take, length, get_or, Option, Some, refl, sym, ◌∙◌, ap, subst, arith, ◌⊎◌, inl, inr}
use Rattle.std.specs.List.{slice_get}
use Rattle.std.proofs.lemmas.List.{take_more}
use Rattle.std.proofs.lemmas.Bool.{cases_eq, cases_lt, or_cases, or_left, or_right, and_parts, and_from, le-leb, leb-true}
use Rattle.std.proofs.lemmas.Option.{slice_get-get_or}
use Rattle.page_alloc.specs.Lives.{Life}
use Rattle.trace_reader.specs.declared.span.Span.{Span}
use Rattle.cycle_history.specs.declared.Answer.{Answer}
use Rattle.cycle_history.specs.declared.Answer.TheVariants.{Placed, Zero, Missed}
use Rattle.cycle_history.specs.Objects.{is_placed}
use Rattle.cycle_history.specs.Requests.{is_within}
use Rattle.report_check.specs.declared.items.Item.{Item}
use Rattle.report_check.specs.declared.lives.OpenLife.{OpenLife}
use Rattle.report_check.specs.Lives.{HasLife, HasNumber}
use Rattle.report_check.specs.Seats.{AllHaveLives, AllKept, IsFirstLost, KeepsLife, IsLost}

abbrev pub Range : ℕ → ℕ → ℕ → Type 0
Range low high i = (low ≤ i) × (i < high)

-- ---- items of a range

pub range-lost : (lives : List (Option OpenLife)) (items : List Item) (low high bound n address : ℕ) (d : Item) → n < bound → bound ≤ length items → low ≤ n → n < high
    → AllHaveLives (Range low high) items bound → (get_or items n d).answer ≡ Placed address → ((life : Life) → HasLife (get_or items n d) life → ¬ HasNumber lives life.page (get_or items n d).life)
    → AllKept lives (Range low n) items bound → IsFirstLost lives (Range low high) items bound n
range-lost lives items low high bound n address d lt room from to has placed gone kept =
    let at : slice_get items n ≡ Some (get_or items n d) = slice_get-get_or items n d (omega arith) in
    let is : is_placed (get_or items n d).answer ≡ true = ap is_placed placed in
    let h = has n (get_or items n d) lt (from, to) at is in
    record {
      few = omega arith;
      lost = λ less. ((from, to), record { item = get_or items n d; at = at; placed = is; life = h.0; has = h.1; gone = gone h.0 h.1 });
      kept = λ i item less named at' is'. kept i item (omega arith) (named.0, less) at' is';
    }

pub range-more : (lives : List (Option OpenLife)) (items : List Item) (low bound n : ℕ) (d : Item) → n < length items → (is_placed (get_or items n d).answer ≡ true → KeepsLife lives (get_or items n d))
    → AllKept lives (Range low n) items bound → AllKept lives (Range low (n + 1)) items bound
range-more lives items low bound n d inside here kept i item less named at is = elim (cases_eq i n) [
  | inl same ↦ (
      let there : slice_get items n ≡ Some (get_or items n d) = slice_get-get_or items n d inside in
      let at' : slice_get items n ≡ Some item = subst (λ (k : ℕ). slice_get items k ≡ Some item) same at in
      let e : get_or items n d ≡ item = cc in
      let f : is_placed (get_or items n d).answer ≡ true = subst (λ (x : Item). is_placed x.answer ≡ true) (sym e) is in
      subst (λ (x : Item). KeepsLife lives x) e (here f))
  | inr other ↦ (let to = named.1 in kept i item less (named.0, omega arith) at is)
]

pub not-placed : (a : Answer) → ((address : ℕ) → a ≢ Placed address) → is_placed a ≡ true → ⊥
not-placed (Placed address) off is = off address refl
not-placed Zero off is = cc
not-placed (Missed line) off is = cc

pub range-end : (lives : List (Option OpenLife)) (items : List Item) (low high bound n : ℕ) → (bound ≤ n) ⊎ (high ≤ n) → AllKept lives (Range low n) items bound → IsFirstLost lives (Range low high) items bound bound
range-end lives items low high bound n far kept = record {
  few = omega arith;
  lost = λ less. absurd (omega arith);
  kept = λ i item less named at is. kept i item less (named.0, elim far [ inl a ↦ omega arith | inr b ↦ (let to = named.1 in omega arith) ]) at is;
}

-- ---- spans

or-none : (b : Bool) → (b || false) ≡ b
or-none true = refl
or-none false = refl

or-assoc : (a b c : Bool) → (a || (b || c)) ≡ ((a || b) || c)
or-assoc true b c = refl
or-assoc false b c = refl

within-append : (xs : List Span) (s : Span) (i : ℕ) → is_within (xs ++ s ∷ []) i ≡ (is_within xs i || (leb s.lo i && leb i s.hi))
within-append [] s i = or-none (leb s.lo i && leb i s.hi)
within-append (x ∷ xs) s i = ap (λ (b : Bool). (leb x.lo i && leb i x.hi) || b) (within-append xs s i) ∙ or-assoc (leb x.lo i && leb i x.hi) (is_within xs i) (leb s.lo i && leb i s.hi)

pub within-more : (spans : List Span) (n i : ℕ) (d : Span) → n < length spans → is_within (take (n + 1) spans) i ≡ (is_within (take n spans) i || (leb (get_or spans n d).lo i && leb i (get_or spans n d).hi))
within-more spans n i d lt = ap (λ (xs : List Span). is_within xs i) (take_more spans n d lt) ∙ within-append (take n spans) (get_or spans n d) i

more-cases : (spans : List Span) (n i : ℕ) (d : Span) → n < length spans → is_within (take (n + 1) spans) i ≡ true → (is_within (take n spans) i ≡ true) ⊎ Range (get_or spans n d).lo ((get_or spans n d).hi + 1) i
more-cases spans n i d lt is = elim (or_cases (is_within (take n spans) i) (leb (get_or spans n d).lo i && leb i (get_or spans n d).hi) (sym (within-more spans n i d lt) ∙ is)) [
  | inl old ↦ inl old
  | inr new ↦ (
      let p = and_parts (leb (get_or spans n d).lo i) (leb i (get_or spans n d).hi) new in
      let low = leb-true (get_or spans n d).lo i p.0 in
      let high = leb-true i (get_or spans n d).hi p.1 in
      inr (low, omega arith))
]

more-old : (spans : List Span) (n i : ℕ) (d : Span) → n < length spans → is_within (take n spans) i ≡ true → is_within (take (n + 1) spans) i ≡ true
more-old spans n i d lt is = within-more spans n i d lt ∙ or_left (is_within (take n spans) i) (leb (get_or spans n d).lo i && leb i (get_or spans n d).hi) is

more-new : (spans : List Span) (n i : ℕ) (d : Span) → n < length spans → Range (get_or spans n d).lo ((get_or spans n d).hi + 1) i → is_within (take (n + 1) spans) i ≡ true
more-new spans n i d lt inside =
    within-more spans n i d lt ∙ or_right (is_within (take n spans) i) (leb (get_or spans n d).lo i && leb i (get_or spans n d).hi)
    (let low = inside.0 in let high = inside.1 in and_from (leb (get_or spans n d).lo i) (leb i (get_or spans n d).hi) (le-leb (get_or spans n d).lo i low) (le-leb i (get_or spans n d).hi (omega arith)))

within-at : (spans : List Span) (n i : ℕ) (d : Span) → n < length spans → Range (get_or spans n d).lo ((get_or spans n d).hi + 1) i → is_within spans i ≡ true
within-at [] n i d lt inside = absurd (omega arith)
within-at (s ∷ spans) zero i d lt inside =
    let low = inside.0 in
    let high = inside.1 in
    or_left (leb s.lo i && leb i s.hi) (is_within spans i) (and_from (leb s.lo i) (leb i s.hi) (le-leb s.lo i low) (le-leb i s.hi (omega arith)))
within-at (s ∷ spans) (suc n) i d lt inside = or_right (leb s.lo i && leb i s.hi) (is_within spans i) (within-at spans n i d (omega arith) inside)

abbrev pub Of : List Span → ℕ → Type 0
Of spans i = is_within spans i ≡ true

pub span-lives : (items : List Item) (spans : List Span) (n bound lost : ℕ) (d : Span) → n < length spans → lost ≤ bound → AllHaveLives (Of spans) items bound → AllHaveLives (Range (get_or spans n d).lo ((get_or spans n d).hi + 1)) items lost
span-lives items spans n bound lost d lt le has i item less inside at is = has i item (omega arith) (within-at spans n i d lt inside) at is

pub lost-none : (lives : List (Option OpenLife)) (items : List Item) (spans : List Span) (bound : ℕ) → IsFirstLost lives (Of (take 0 spans)) items bound bound
lost-none lives items spans bound = record {
  few = omega arith;
  lost = λ less. absurd (omega arith);
  kept = λ i item less named at is. (let none : is_within (take 0 spans) i ≡ false = refl in let some : is_within (take 0 spans) i ≡ true = named in absurd cc);
}

pub lost-more : (lives : List (Option OpenLife)) (items : List Item) (spans : List Span) (n bound lost found : ℕ) (d : Span) → n < length spans → IsFirstLost lives (Of (take n spans)) items bound lost
    → IsFirstLost lives (Range (get_or spans n d).lo ((get_or spans n d).hi + 1)) items lost found → IsFirstLost lives (Of (take (n + 1) spans)) items bound found
lost-more lives items spans n bound lost found d lt old new =
    let few = old.few in
    let fewer = new.few in
    record {
      few = omega arith;
      lost = λ less. elim (cases_lt found lost) [
        | inl before ↦ (let l = new.lost before in (more-new spans n found d lt l.0, l.1))
        | inr ge ↦ (
            let e : lost ≡ found = omega arith in
            let l = old.lost (omega arith) in
            (more-old spans n found d lt (subst (λ (k : ℕ). Of (take n spans) k) e l.0), subst (λ (k : ℕ). IsLost lives items k) e l.1))
      ];
      kept = λ i item less named at is. elim (more-cases spans n i d lt named) [
        | inl before ↦ old.kept i item (omega arith) before at is
        | inr here ↦ new.kept i item less here at is
      ];
    }

pub lost-all : (lives : List (Option OpenLife)) (items : List Item) (spans : List Span) (n bound lost : ℕ) → take n spans ≡ spans → IsFirstLost lives (Of (take n spans)) items bound lost → IsFirstLost lives (Of spans) items bound lost
lost-all lives items spans n bound lost e is = subst (λ (ss : List Span). IsFirstLost lives (Of ss) items bound lost) e is
