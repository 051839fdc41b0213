-- The one seat of an object.
use Rattle.std.specs.Prelude.{MatchOption}
use Rattle.std.specs.Option.{is_some}
use Rattle.std.proofs.Common.{◌≡◌, ◌≢◌, true, false, ℕ, ◌+◌, ◌-◌, ◌*◌, ◌/◌, ◌<◌, ◌≤◌, List, get_or, Option, Some, None, refl, sym, ◌∙◌, ap, subst, arith, inl, inr}
use Rattle.std.proofs.lemmas.Bool.{cases_eq}
use Rattle.page_alloc.specs.Lives.{Life}
use Rattle.cycle_history.specs.declared.Answer.TheVariants.{Placed}
use Rattle.cycle_history.specs.Objects.{Object, Sits}
use Rattle.report_check.specs.declared.lives.OpenLife.{OpenLife}
use Rattle.report_check.specs.declared.lives.Seat.{Seat}
use Rattle.report_check.specs.Lives.{entry_of, IsOne, IsSeatAt, NoSeatAt}
use Rattle.report_check.proofs.Openings.{same-life, sits-inside}

-- of the pages from low up to high, only this one has a life in which the object sits
pub record IsOnly (lives : List (Option OpenLife)) (o : Object) (low high page : ℕ) (seat : Seat) : Type 0 where
  pub from : low ≤ page
  pub to : page < high
  pub here : IsSeatAt lives o page seat
  pub others : (p : ℕ) → low ≤ p → p < high → p ≢ page → NoSeatAt lives o p

abbrev pub NoneIn : List (Option OpenLife) → Object → ℕ → ℕ → Type 0
NoneIn lives o low high = (p : ℕ) → low ≤ p → p < high → NoSeatAt lives o p

abbrev pub IsSought : List (Option OpenLife) → Object → ℕ → ℕ → Option Seat → Type 0
IsSought lives o low high None = NoneIn lives o low high
IsSought lives o low high (Some seat) = (page : ℕ) × IsOnly lives o low high page seat

pub sought-none : (lives : List (Option OpenLife)) (o : Object) (low : ℕ) → IsSought lives o low low None
sought-none lives o low p le lt = absurd (omega arith)

pub sought-miss : (lives : List (Option OpenLife)) (o : Object) (low high : ℕ) (found : Option Seat) → NoSeatAt lives o high → IsSought lives o low high found → IsSought lives o low (high + 1) found
sought-miss lives o low high None off old = λ p le lt. elim (cases_eq p high) [
  | inl same ↦ subst (λ (n : ℕ). NoSeatAt lives o n) (sym same) off
  | inr other ↦ old p le (omega arith)
]
sought-miss lives o low high (Some seat) off old = (
  old.0,
  record {
    from = old.1.from;
    to = (let lt = old.1.to in omega arith);
    here = old.1.here;
    others = λ p le lt ne. elim (cases_eq p high) [
      | inl same ↦ subst (λ (n : ℕ). NoSeatAt lives o n) (sym same) off
      | inr other ↦ old.1.others p le (omega arith) ne
    ];
  },
)

pub sought-hit : (lives : List (Option OpenLife)) (o : Object) (low high : ℕ) (seat : Seat) → low ≤ high → IsSeatAt lives o high seat → IsSought lives o low high None → IsSought lives o low (high + 1) (Some seat)
sought-hit lives o low high seat le is old = (
  high,
  record {
    from = le;
    to = omega arith;
    here = is;
    others = λ p from lt ne. old p from (omega arith);
  },
)

-- the object sits in no life that begins below the first page or above the last
pub record IsBetween (o : Object) (low high : ℕ) : Type 0 where
  pub pages : (life : Life) (k : ℕ) → Sits o life k → (low ≤ life.page) × (life.page < high)

pub one-none : (lives : List (Option OpenLife)) (o : Object) (low high : ℕ) → IsBetween o low high → NoneIn lives o low high → (seat : Seat) → ¬ IsOne lives o seat
one-none lives o low high between none seat one =
    let b = between.pages one.life seat.index one.sits in
    none one.life.page b.0 b.1 one.life seat.index refl one.holds one.sits

pub one-two : (lives : List (Option OpenLife)) (o : Object) (p q : ℕ) (a b seat : Seat) → p ≢ q → IsSeatAt lives o p a → IsSeatAt lives o q b → ¬ IsOne lives o seat
one-two lives o p q a b seat ne x y one =
    let e1 = one.only x.life a.index x.holds x.sits in
    let e2 = one.only y.life b.index y.holds y.sits in
    ne (sym x.begins ∙ (ap (λ (l : Life). l.page) e1 ∙ (sym (ap (λ (l : Life). l.page) e2) ∙ y.begins)))

pub one-found : (lives : List (Option OpenLife)) (o : Object) (low high page : ℕ) (seat : Seat) → IsBetween o low high → IsOnly lives o low high page seat → IsOne lives o seat
one-found lives o low high page seat between is = record {
  life = is.here.life;
  number = is.here.number;
  holds = is.here.holds;
  sits = is.here.sits;
  only = λ other k holds sits. elim (cases_eq other.page page) [
    | inl same ↦ (
        let e : other.page ≡ is.here.life.page = same ∙ sym is.here.begins in
        let there : get_or lives is.here.life.page None ≡ Some (entry_of other) = subst (λ (n : ℕ). get_or lives n None ≡ Some (entry_of other)) e holds in
        let f : Some (entry_of other) ≡ Some (entry_of is.here.life) = sym there ∙ is.here.holds in
        same-life other is.here.life cc)
    | inr differs ↦ (let b = between.pages other k sits in absurd (is.others other.page b.0 b.1 differs other k refl holds sits))
  ];
}

pub sits-between : (o : Object) (address low high : ℕ) → o.answer ≡ Placed address → 0xc000000000 ≤ address → (address - 0xc000000000) / 8192 + 1 ≤ high
    → ((k : ℕ) → k < o.need.count → low ≤ (address - 0xc000000000) / 8192 - (o.need.slot * k) / 8192) → IsBetween o low high
sits-between o address low high answer le top lower = record {
  pages = λ life k sits. (
      let e : 0xc000000000 + (address - 0xc000000000) ≡ address = omega arith in
      let f = sits-inside o life k life.page (address - 0xc000000000) sits (answer ∙ ap Placed (sym e)) refl in
      let l = lower k sits.index in
      within (address - 0xc000000000) life.page (o.need.slot * k) low high f top l);
}
  where
    within : (offset page d low high : ℕ) → offset ≡ 8192 * page + d → offset / 8192 + 1 ≤ high → low ≤ offset / 8192 - d / 8192 → (low ≤ page) × (page < high)
    within offset page d low high e top l = (omega arith, omega arith)

-- ---- the loop over pages

pub sought-two : (lives : List (Option OpenLife)) (o : Object) (low page : ℕ) (found : Option Seat) (seat : Seat) → is_some found ≡ true → IsSeatAt lives o page seat → IsSought lives o low page found
    → (any : Seat) → ¬ IsOne lives o any
sought-two lives o low page None seat some here old = let some' = some in absurd cc
sought-two lives o low page (Some a) seat some here old = λ any. one-two lives o old.0 page a seat any (λ e. (let lt = old.1.to in omega arith)) old.1.here here

pub sought-new : (lives : List (Option OpenLife)) (o : Object) (low page : ℕ) (found : Option Seat) (seat : Seat) → is_some found ≡ false → low ≤ page → IsSeatAt lives o page seat → IsSought lives o low page found
    → IsSought lives o low (page + 1) (Some seat)
sought-new lives o low page None seat none le here old = sought-hit lives o low page seat le here old
sought-new lives o low page (Some a) seat none le here old = let none' = none in absurd cc

pub match-none : {A : Type 0} (N : Type 0) (P : A → Type 0) (x : Option A) → MatchOption x N P → ((s : A) → x ≢ Some s) → N
match-none N P None is off = is
match-none N P (Some s) is off = absurd (off s refl)

pub sought-all : (lives : List (Option OpenLife)) (o : Object) (low high : ℕ) (found : Option Seat) → IsBetween o low high → IsSought lives o low high found
    → MatchOption found ((seat : Seat) → ¬ IsOne lives o seat) (IsOne lives o)
sought-all lives o low high None between old = one-none lives o low high between old
sought-all lives o low high (Some seat) between old = one-found lives o low high old.0 seat between old.1
