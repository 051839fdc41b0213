-- What each call does to a word's part.
use Rattle.std.proofs.Common.{◌≡◌, ◌≢◌, ℕ, ◌+◌, ◌-◌, ◌%◌, ◌≤◌, Bool, true, false, ◌&&◌, not, [], refl, sym, ap, ◌∙◌, arith, inl, inr}
use Rattle.std.proofs.Math.Dec.{leb, eqb}
use Rattle.std.proofs.lemmas.Bool.{cases_eq, le-leb, lt-leb, eq-eqb, ne_eqb}
use Rattle.profile_cycle.specs.declared.calls.What.TheVariants.{Allocated, Freed, NextCycle, AfterSweep}
use Rattle.profile_cycle.specs.declared.calls.View.{View}
use Rattle.profile_cycle.specs.declared.words.Kind.{Kind}
use Rattle.profile_cycle.specs.declared.words.Kind.TheVariants.{Allocs, Frees}
use Rattle.profile_cycle.specs.declared.words.Word.{Word}
use Rattle.profile_cycle.specs.declared.words.Word.TheVariants.{Published, Waiting}
use Rattle.profile_cycle.specs.History.{count, one_if, joined, noted, published_by}
use Rattle.profile_cycle.specs.Kept.{AreBy, AreCounting}
use Rattle.profile_cycle.specs.Words.{after, before, by_row, counts, due, is_odd, later, lead, place, ripe, shown, toward}
use Rattle.profile_cycle.proofs.Counted.{count-all, count-append, count-none, count-split, published-append, published-none, published-ripe}

-- ---- rows

pub row-due : {A : Type 0} (odd : Bool) (l d : A) → by_row (not odd) odd l d ≡ d
row-due true l d = refl
row-due false l d = refl

pub row-later : {A : Type 0} (odd : Bool) (l d : A) → by_row odd odd l d ≡ l
row-later true l d = refl
row-later false l d = refl

pub row-flip : {A : Type 0} (o odd : Bool) (l d : A) → by_row o (not odd) l d ≡ by_row o odd d l
row-flip true true l d = refl
row-flip true false l d = refl
row-flip false true l d = refl
row-flip false false l d = refl

pub row-both : {A B : Type 0} (f : A → B) (o odd : Bool) (l d : A) → f (by_row o odd l d) ≡ by_row o odd (f l) (f d)
row-both f true true l d = refl
row-both f true false l d = refl
row-both f false true l d = refl
row-both f false false l d = refl

row-sum : (o odd : Bool) (l d l' d' : ℕ) → by_row o odd (l + l') (d + d') ≡ by_row o odd l d + by_row o odd l' d'
row-sum true true l d l' d' = refl
row-sum true false l d l' d' = refl
row-sum false true l d l' d' = refl
row-sum false false l d l' d' = refl

row-else-later : (o odd : Bool) (l l' d : ℕ) → (o ≡ odd → l' ≡ l) → by_row o odd l' d ≡ by_row o odd l d
row-else-later true true l l' d e = e refl
row-else-later true false l l' d e = refl
row-else-later false true l l' d e = refl
row-else-later false false l l' d e = e refl

row-else-due : (o odd : Bool) (l d d' : ℕ) → (o ≡ not odd → d' ≡ d) → by_row o odd l d' ≡ by_row o odd l d
row-else-due true true l d d' e = refl
row-else-due true false l d d' e = e refl
row-else-due false true l d d' e = e refl
row-else-due false false l d d' e = refl

pub odd-next : (k : ℕ) → is_odd (k + 1) ≡ not (is_odd k)
odd-next k = elim (cases_eq (k % 2) 1) [
  | inl one ↦ (let a = eq-eqb (k % 2) 1 one in let b = ne_eqb ((k + 1) % 2) 1 (λ e. omega arith) in rw (a, b) refl)
  | inr none ↦ (let a = ne_eqb (k % 2) 1 none in let b = eq-eqb ((k + 1) % 2) 1 (omega arith) in rw (a, b) refl)
]

pub lead-two : (k : Kind) → lead k ≤ 2
lead-two Allocs = omega arith
lead-two Frees = omega arith

-- ---- a call counts

one-true : (t : Bool) → one_if (t && true) ≡ one_if t
one-true true = refl
one-true false = refl

one-false : (t : Bool) → one_if (t && false) ≡ 0
one-false true = refl
one-false false = refl

one-same : (b c : ℕ) → b ≡ c → one_if (eqb b c) ≡ 1
one-same b c e = rw (eq-eqb b c e) refl

one-other : (b c : ℕ) → b ≢ c → one_if (eqb b c) ≡ 0
one-other b c e = rw (ne_eqb b c e) refl

module _ (v : View) (b : ℕ) where
  alloc-later : (c : ℕ) → later Allocs c (noted v (Allocated b)) ≡ later Allocs c v + one_if (eqb b c)
  alloc-later c = let off = lt-leb (v.cycle + 2) (v.cycle + 1) (omega arith) in rw off (let one = one-true (eqb b c) in omega arith)

  alloc-due : (c : ℕ) → due Allocs c (noted v (Allocated b)) ≡ due Allocs c v
  alloc-due c = let off = lt-leb (v.cycle + 2) (v.cycle + 1) (omega arith) in rw off (let one = one-false (eqb b c) in omega arith)

  alloc-other-later : (c : ℕ) → later Frees c (noted v (Allocated b)) ≡ later Frees c v
  alloc-other-later c = omega arith

  alloc-other-due : (c : ℕ) → due Frees c (noted v (Allocated b)) ≡ due Frees c v
  alloc-other-due c = omega arith

  free-later : (c : ℕ) → later Frees c (noted v (Freed b)) ≡ later Frees c v
  free-later c = let on = le-leb (v.cycle + 1) (v.cycle + 1) (omega arith) in rw on (let one = one-false (eqb b c) in omega arith)

  free-due : (c : ℕ) → AreBy v.cycle v.calls → due Frees c (noted v (Freed b)) ≡ due Frees c v + one_if (eqb b c)
  free-due c by = let on = le-leb (v.cycle + 1) (v.cycle + 1) (omega arith) in let less = published-ripe (counts Frees c) 1 v.cycle v.calls by in
      rw on (let one = one-true (eqb b c) in omega arith)

  free-other-later : (c : ℕ) → later Allocs c (noted v (Freed b)) ≡ later Allocs c v
  free-other-later c = omega arith

  free-other-due : (c : ℕ) → due Allocs c (noted v (Freed b)) ≡ due Allocs c v
  free-other-due c = omega arith

  pub alloc-here : before (toward (Allocated b) v) (noted v (Allocated b)) ≡ before (toward (Allocated b) v) v + 1
  alloc-here = let o = is_odd v.cycle in
      let new = row-later o (later Allocs b (noted v (Allocated b))) (due Allocs b (noted v (Allocated b))) in
      let old = row-later o (later Allocs b v) (due Allocs b v) in
      let more = alloc-later b in let one = one-same b b refl in omega arith

  pub alloc-else : (w : Word) → place w ≢ place (toward (Allocated b) v) → before w (noted v (Allocated b)) ≡ before w v
  alloc-else (Published Allocs c) other = refl
  alloc-else (Published Frees c) other = refl
  alloc-else (Waiting Frees o c) other = let odd = is_odd v.cycle in
      ap (λ (z : ℕ). by_row o odd z (due Frees c (noted v (Allocated b)))) (alloc-other-later c) ∙ ap (λ (z : ℕ). by_row o odd (later Frees c v) z) (alloc-other-due c)
  alloc-else (Waiting Allocs o c) other = let odd = is_odd v.cycle in
      ap (λ (z : ℕ). by_row o odd (later Allocs c (noted v (Allocated b))) z) (alloc-due c)
      ∙ row-else-later o odd (later Allocs c v) (later Allocs c (noted v (Allocated b))) (due Allocs c v) (λ same. elim (cases_eq b c) [
        | inl is ↦ absurd (other (λ i. place (Waiting Allocs (same i) (sym is i))))
        | inr not_it ↦ (let more = alloc-later c in let one = one-other b c not_it in omega arith)
      ])

  pub free-here : AreBy v.cycle v.calls → before (toward (Freed b) v) (noted v (Freed b)) ≡ before (toward (Freed b) v) v + 1
  free-here by = let o = is_odd v.cycle in
      let new = row-due o (later Frees b (noted v (Freed b))) (due Frees b (noted v (Freed b))) in
      let old = row-due o (later Frees b v) (due Frees b v) in
      let more = free-due b by in let one = one-same b b refl in omega arith

  pub free-else : AreBy v.cycle v.calls → (w : Word) → place w ≢ place (toward (Freed b) v) → before w (noted v (Freed b)) ≡ before w v
  free-else by (Published Allocs c) other = refl
  free-else by (Published Frees c) other = refl
  free-else by (Waiting Allocs o c) other = let odd = is_odd v.cycle in
      ap (λ (z : ℕ). by_row o odd z (due Allocs c (noted v (Freed b)))) (free-other-later c) ∙ ap (λ (z : ℕ). by_row o odd (later Allocs c v) z) (free-other-due c)
  free-else by (Waiting Frees o c) other = let odd = is_odd v.cycle in
      ap (λ (z : ℕ). by_row o odd z (due Frees c (noted v (Freed b)))) (free-later c)
      ∙ row-else-due o odd (later Frees c v) (due Frees c v) (due Frees c (noted v (Freed b))) (λ same. elim (cases_eq b c) [
        | inl is ↦ absurd (other (λ i. place (Waiting Frees (same i) (sym is i))))
        | inr not_it ↦ (let more = free-due c by in let one = one-other b c not_it in omega arith)
      ])

-- ---- a tally is joined

module _ (v u : View) (same : u.cycle ≡ v.cycle) (counting : AreCounting v.cycle u.calls) (by : AreBy v.cycle v.calls) where
  joined-shown : (k : Kind) (b : ℕ) → shown k b (joined v u) ≡ shown k b v + shown k b u
  joined-shown k b =
      let a = published-append (counts k b) (lead k) v.cycle u.calls v.calls counting in
      let none = published-none (counts k b) (lead k) v.cycle u.calls counting in
      omega arith

  joined-ripe : (k : Kind) (b : ℕ) → ripe k b (joined v u) ≡ ripe k b v + ripe k b u
  joined-ripe k b =
      let a = count-append (λ d. counts k b d.what && leb (d.cycle + lead k) (v.cycle + 1)) u.calls v.calls in
      let at : ripe k b u ≡ count (λ d. counts k b d.what && leb (d.cycle + lead k) (v.cycle + 1)) u.calls = ap (λ (c : ℕ). count (λ d. counts k b d.what && leb (d.cycle + lead k) (c + 1)) u.calls) same in
      omega arith

  joined-later : (k : Kind) (b : ℕ) → later k b (joined v u) ≡ later k b v + later k b u
  joined-later k b =
      let a = count-append (λ d. counts k b d.what && not (leb (d.cycle + lead k) (v.cycle + 1))) u.calls v.calls in
      let at : later k b u ≡ count (λ d. counts k b d.what && not (leb (d.cycle + lead k) (v.cycle + 1))) u.calls = ap (λ (c : ℕ). count (λ d. counts k b d.what && not (leb (d.cycle + lead k) (c + 1))) u.calls) same in
      omega arith

  joined-due : (k : Kind) (b : ℕ) → due k b (joined v u) ≡ due k b v + due k b u
  joined-due k b =
      let all = joined-ripe k b in
      let out = joined-shown k b in
      let less = published-ripe (counts k b) (lead k) v.cycle v.calls by in
      let none = published-none (counts k b) (lead k) v.cycle u.calls counting in
      omega arith

  pub joined-part : (w : Word) → before w (joined v u) ≡ before w v + before w u
  joined-part (Published k b) = joined-shown k b
  joined-part (Waiting k o b) = let odd = is_odd v.cycle in
      ap (λ (z : ℕ). by_row o odd z (due k b (joined v u))) (joined-later k b)
      ∙ ap (λ (z : ℕ). by_row o odd (later k b v + later k b u) z) (joined-due k b)
      ∙ row-sum o odd (later k b v) (due k b v) (later k b u) (due k b u)
      ∙ ap (λ (c : ℕ). by_row o odd (later k b v) (due k b v) + by_row o (is_odd c) (later k b u) (due k b u)) (sym same)

pub none-part : (w : Word) (v : View) → v.calls ≡ [] → before w v ≡ 0
none-part (Published k b) v none = ap (λ calls. published_by (counts k b) (lead k) calls) none
none-part (Waiting k o b) v none =
    ap (λ calls. by_row o (is_odd v.cycle) (count (λ d. counts k b d.what && not (leb (d.cycle + lead k) (v.cycle + 1))) calls)
    (count (λ d. counts k b d.what && leb (d.cycle + lead k) (v.cycle + 1)) calls - published_by (counts k b) (lead k) calls)) none
    ∙ none-row o (is_odd v.cycle)
  where
    none-row : (o odd : Bool) → by_row o odd 0 (0 - 0) ≡ 0
    none-row true true = refl
    none-row true false = refl
    none-row false true = refl
    none-row false false = refl

-- ---- a publication

-- what is published and what waits for the next cycle is ripe
pub publication-sum : (v : View) (k : Kind) (b : ℕ) → AreBy v.cycle v.calls → before (Published k b) v + before (Waiting k (not (is_odd v.cycle)) b) v ≡ after (Published k b) v
publication-sum v k b by =
    let less = published-ripe (counts k b) (lead k) v.cycle v.calls by in
    let at = row-due (is_odd v.cycle) (later k b v) (due k b v) in
    omega arith

-- behind a publication a word has what was ripe, and nothing in the row of the next cycle
abbrev pub behind : Word → View → ℕ
behind (Published k b) v = ripe k b v
behind (Waiting k o b) v = by_row o (is_odd v.cycle) (later k b v) 0

no-call : (k : Kind) (b : ℕ) (t : Bool) → (one_if (counts k b NextCycle && t) ≡ 0) × (one_if (counts k b AfterSweep && t) ≡ 0)
no-call Allocs b t = (refl, refl)
no-call Frees b t = (refl, refl)

module _ (v : View) (by : AreBy v.cycle v.calls) where
  pub behind-sweep : (w : Word) → before w (noted v AfterSweep) ≡ behind w v
  behind-sweep (Published k b) = refl
  behind-sweep (Waiting k o b) = let odd = is_odd v.cycle in
      let none = (no-call k b (leb (v.cycle + lead k) (v.cycle + 1))).1 in
      let off = (no-call k b (not (leb (v.cycle + lead k) (v.cycle + 1)))).1 in
      let l : later k b (noted v AfterSweep) ≡ later k b v = omega arith in
      let d : due k b (noted v AfterSweep) ≡ 0 = omega arith in
      ap (λ (z : ℕ). by_row o odd z (due k b (noted v AfterSweep))) l ∙ ap (λ (z : ℕ). by_row o odd (later k b v) z) d

  pub behind-next : (w : Word) → before w (noted v NextCycle) ≡ behind w v
  behind-next (Published k b) = refl
  behind-next (Waiting k o b) = let odd = is_odd v.cycle in
      let none = (no-call k b (leb (v.cycle + lead k) ((noted v NextCycle).cycle + 1))).0 in
      let off = (no-call k b (not (leb (v.cycle + lead k) ((noted v NextCycle).cycle + 1)))).0 in
      let all : count (λ d. counts k b d.what && leb (d.cycle + lead k) ((noted v NextCycle).cycle + 1)) v.calls ≡ count (λ d. counts k b d.what) v.calls =
      count-all (counts k b) (lead k) v.cycle v.calls (lead-two k) by in
      let beyond : count (λ d. counts k b d.what && not (leb (d.cycle + lead k) ((noted v NextCycle).cycle + 1))) v.calls ≡ 0 =
      count-none (counts k b) (lead k) v.cycle v.calls (lead-two k) by in
      let sum = count-split (counts k b) (lead k) (v.cycle + 1) v.calls in
      let l : later k b (noted v NextCycle) ≡ 0 = omega arith in
      let d : due k b (noted v NextCycle) ≡ later k b v = omega arith in
      ap (λ (p : Bool). by_row o p (later k b (noted v NextCycle)) (due k b (noted v NextCycle))) (odd-next v.cycle)
      ∙ row-flip o odd (later k b (noted v NextCycle)) (due k b (noted v NextCycle))
      ∙ ap (λ (z : ℕ). by_row o odd z (later k b (noted v NextCycle))) d
      ∙ ap (λ (z : ℕ). by_row o odd (later k b v) z) l
