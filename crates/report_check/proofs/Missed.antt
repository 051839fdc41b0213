-- Rule 3, one object more at a time.
use Rattle.std.proofs.Common.{◌≡◌, ◌≢◌, ℕ, ◌+◌, ◌<◌, ◌≤◌, Bool, true, false, List, length, reverse, get_or, set, replicate, Some, refl, sym, ◌∙◌, ap, subst, arith, ◌⊎◌, inl, inr}
use Rattle.std.specs.List.{slice_get}
use Rattle.std.proofs.lemmas.Bool.{cases_lt, cases_eq}
use Rattle.std.proofs.lemmas.List.{reverse-reverse, get_or-set_same, get_or-set_other, get_or-replicate, length-replicate}
use Rattle.std.proofs.Math.ListN.{get_or-eq_default}
use Rattle.std.proofs.lemmas.Option.{slice_get_within, slice_get-get_or}
use Rattle.page_bitmap.specs.declared.line.Line.{Line}
use Rattle.page_bitmap.specs.declared.line.Line.TheVariants.{Miss}
use Rattle.page_alloc.specs.Lists.{IsNumber}
use Rattle.page_alloc.specs.Journal.{past_of}
use Rattle.cycle_history.specs.declared.Answer.{Answer}
use Rattle.cycle_history.specs.declared.Answer.TheVariants.{Placed, Zero, Missed}
use Rattle.cycle_history.specs.Objects.{Object}
use Rattle.cycle_history.specs.Rules.{NamesMiss, AreMissed}
use Rattle.cycle_history.proofs.OfObjects.{number-get, get-number}
use Rattle.report_check.specs.Lines.{IsLeast}
use Rattle.report_check.specs.Answers.{IsNamedBefore, BreaksMisses}
use Rattle.report_check.specs.declared.items.Item.{Item}
use Rattle.report_check.specs.Items.{object_of, objects_of}
use Rattle.report_check.proofs.Numbered.{item-of, object-in}

-- item i is of a missed object that names the line
pub record Names (items : List Item) (i line : ℕ) (item : Item) : Type 0 where
  pub at : slice_get items i ≡ Some item
  pub missed : item.answer ≡ Missed line

-- the journal's line with the number is a Miss of the item's kind
abbrev pub IsMissOf : List Line → ℕ → Item → Type 0
IsMissOf journal line item = slice_get journal line ≡ Some (Miss item.cycle item.pages item.class)

-- the lines that the first n objects name are named, right, and named once
pub record AreNamed (journal : List Line) (items : List Item) (n : ℕ) (named : List Bool) : Type 0 where
  pub right : (i line : ℕ) (item : Item) → i < n → Names items i line item → IsMissOf journal line item
  pub noted : (i line : ℕ) (item : Item) → i < n → Names items i line item → get_or named line false ≡ true
  pub from : (line : ℕ) → get_or named line false ≡ true → (i : ℕ) × (item : Item) × (i < n) × Names items i line item
  pub once : (i j line : ℕ) (a b : Item) → i < n → j < n → Names items i line a → Names items j line b → i ≡ j

pub named-none : (journal : List Line) (items : List Item) (count : ℕ) → AreNamed journal items 0 (replicate count false)
named-none journal items count = record {
  right = λ i line item lt. absurd (omega arith);
  noted = λ i line item lt. absurd (omega arith);
  from = λ line h. absurd (off line h);
  once = λ i j line a b lt. absurd (omega arith);
}
  where
    off : (line : ℕ) → get_or (replicate count false) line false ≡ true → ⊥
    off line h = elim (cases_lt line count) [
      | inl lt ↦ (let e = get_or-replicate count line false false lt in cc)
      | inr ge ↦ (let e : get_or (replicate count false) line false ≡ false = past count line ge in cc)
    ]
      where
        past : (n k : ℕ) → n ≤ k → get_or (replicate n false) k false ≡ false
        past n k le = get_or-eq_default (replicate n false) false (let e = length-replicate n false in omega arith)

same-item : (items : List Item) (i j line : ℕ) (a b : Item) → i ≡ j → Names items i line a → slice_get items j ≡ Some b → Names items j line b
same-item items i j line a b e names at =
    let here : slice_get items j ≡ Some a = subst (λ (k : ℕ). slice_get items k ≡ Some a) e names.at in
    let same : a ≡ b = cc in
    record { at = at; missed = subst (λ (x : Item). x.answer ≡ Missed line) same names.missed }

-- an object that isn't missed
pub named-other : (journal : List Line) (items : List Item) (n : ℕ) (item : Item) (named : List Bool) → slice_get items n ≡ Some item → ((line : ℕ) → item.answer ≢ Missed line)
    → AreNamed journal items n named → AreNamed journal items (n + 1) named
named-other journal items n item named at other all = record {
  right = λ i line x lt names. all.right i line x (below i line x lt names) names;
  noted = λ i line x lt names. all.noted i line x (below i line x lt names) names;
  from = λ line h. (let f = all.from line h in let lt = f.2 in (f.0, f.1, omega arith, f.3));
  once = λ i j line a b lt less na nb. all.once i j line a b (below i line a lt na) (below j line b less nb) na nb;
}
  where
    below : (i line : ℕ) (x : Item) → i < n + 1 → Names items i line x → i < n
    below i line x lt names = elim (cases_lt i n) [
      | inl less ↦ less
      | inr ge ↦ (let e : i ≡ n = omega arith in let names' = same-item items i n line x item e names at in absurd (other line names'.missed))
    ]

-- a missed object that names a line of its kind for the first time
pub named-more : (journal : List Line) (items : List Item) (n here : ℕ) (item : Item) (named : List Bool) → slice_get items n ≡ Some item → item.answer ≡ Missed here
    → IsMissOf journal here item → get_or named here false ≡ false → here < length named → AreNamed journal items n named → AreNamed journal items (n + 1) (set named here true)
named-more journal items n here item named at missed miss new inside all = record {
  right = λ i line x lt names. elim (cases_lt i n) [
    | inl less ↦ all.right i line x less names
    | inr ge ↦ (
        let e : i ≡ n = omega arith in
        let f = facts i line x e names in
        let r : IsMissOf journal line item = subst (λ (l : ℕ). IsMissOf journal l item) (sym f.1) miss in
        subst (λ (y : Item). IsMissOf journal line y) (sym f.0) r)
  ];
  noted = λ i line x lt names. elim (cases_eq line here) [
    | inl same ↦ (let e = get_or-set_same named here true false inside in subst (λ (l : ℕ). get_or (set named here true) l false ≡ true) (sym same) e)
    | inr differs ↦ elim (cases_lt i n) [
      | inl less ↦ get_or-set_other named here line true false differs ∙ all.noted i line x less names
      | inr ge ↦ (let e : i ≡ n = omega arith in let f = facts i line x e names in absurd (differs f.1))
    ]
  ];
  from = λ line h. elim (cases_eq line here) [
    | inl same ↦ (n, item, omega arith, record { at = at; missed = missed ∙ ap Missed (sym same) })
    | inr differs ↦ (let f = all.from line (sym (get_or-set_other named here line true false differs) ∙ h) in let lt = f.2 in (f.0, f.1, omega arith, f.3))
  ];
  once = λ i j line a b lt less na nb. elim (cases_lt i n) [
    | inl li ↦ elim (cases_lt j n) [
      | inl lj ↦ all.once i j line a b li lj na nb
      | inr gj ↦ (let e : j ≡ n = omega arith in let f = facts j line b e nb in absurd (old i line a li na f.1))
    ]
    | inr gi ↦ elim (cases_lt j n) [
      | inl lj ↦ (let e : i ≡ n = omega arith in let f = facts i line a e na in absurd (old j line b lj nb f.1))
      | inr gj ↦ omega arith
    ]
  ];
}
  where
    facts : (i line : ℕ) (x : Item) → i ≡ n → Names items i line x → (x ≡ item) × (line ≡ here)
    facts i line x e names =
        let there : slice_get items n ≡ Some x = subst (λ (k : ℕ). slice_get items k ≡ Some x) e names.at in
        let same : x ≡ item = cc in
        let answer : item.answer ≡ Missed line = subst (λ (y : Item). y.answer ≡ Missed line) same names.missed in
        let number : line ≡ here = cc in
        (same, number)

    old : (i line : ℕ) (x : Item) → i < n → Names items i line x → line ≡ here → ⊥
    old i line x lt names e =
        let was = all.noted i line x lt names in
        let now : get_or named here false ≡ true = subst (λ (l : ℕ). get_or named l false ≡ true) e was in
        cc

-- ---- what it says of the objects

miss-number : (journal : List Line) (line : ℕ) (item : Item) → IsMissOf journal line item → IsNumber line (Miss item.cycle item.pages item.class) (past_of journal)
miss-number journal line item is =
    get-number line (Miss item.cycle item.pages item.class) (reverse journal) (subst (λ (xs : List Line). slice_get xs line ≡ Some (Miss item.cycle item.pages item.class)) (sym (reverse-reverse journal)) is)

number-miss : (journal : List Line) (line : ℕ) (item : Item) → IsNumber line (Miss item.cycle item.pages item.class) (past_of journal) → IsMissOf journal line item
number-miss journal line item is =
    subst (λ (xs : List Line). slice_get xs line ≡ Some (Miss item.cycle item.pages item.class)) (reverse-reverse journal) (number-get line (Miss item.cycle item.pages item.class) (reverse journal) is)

names-miss : (journal : List Line) (i line : ℕ) (item : Item) → item.answer ≡ Missed line → IsMissOf journal line item → NamesMiss (past_of journal) (object_of i item)
names-miss journal i line item missed is other same =
    let e : line ≡ other = cc in
    subst (λ (l : ℕ). IsNumber l (Miss item.cycle item.pages item.class) (past_of journal)) e (miss-number journal line item is)

-- an object that isn't missed names nothing
names-nothing : (journal : List Line) (i : ℕ) (item : Item) → ((line : ℕ) → item.answer ≢ Missed line) → NamesMiss (past_of journal) (object_of i item)
names-nothing journal i item other line same = absurd (other line same)

abbrev IsMissing : Answer → Type 0
IsMissing a = ((line : ℕ) × (a ≡ Missed line)) ⊎ ((line : ℕ) → a ≢ Missed line)

answer-cases : (a : Answer) → IsMissing a
answer-cases (Placed address) = inr (λ line e. cc)
answer-cases Zero = inr (λ line e. cc)
answer-cases (Missed line) = inl (line, refl)

names-all : (journal : List Line) (items : List Item) (n : ℕ) (named : List Bool) → AreNamed journal items n named → (i : ℕ) (item : Item) → i < n → slice_get items i ≡ Some item
    → NamesMiss (past_of journal) (object_of i item)
names-all journal items n named all i item lt at = elim (answer-cases item.answer) [
  | inl m ↦ names-miss journal i m.0 item m.1 (all.right i m.0 item lt (record { at = at; missed = m.1 }))
  | inr other ↦ names-nothing journal i item other
]

pub are-missed : (journal : List Line) (items : List Item) (n : ℕ) (named : List Bool) → length items ≤ n → AreNamed journal items n named → AreMissed (past_of journal) (objects_of items)
are-missed journal items n named le all = record {
  named = λ o i. (
      let x = item-of items o i in
      let within = slice_get_within items x.number x.item x.at in
      subst (λ (y : Object). NamesMiss (past_of journal) y) (sym x.is) (names-all journal items n named all x.number x.item (omega arith) x.at));
  once = λ a b line ia ib ma mb. (
      let x = item-of items a ia in
      let y = item-of items b ib in
      let lx = slice_get_within items x.number x.item x.at in
      let ly = slice_get_within items y.number y.item y.at in
      let nx : Names items x.number line x.item = record { at = x.at; missed = sym (ap (λ (o : Object). o.answer) x.is) ∙ ma } in
      let ny : Names items y.number line y.item = record { at = y.at; missed = sym (ap (λ (o : Object). o.answer) y.is) ∙ mb } in
      let e = all.once x.number y.number line x.item y.item (omega arith) (omega arith) nx ny in
      ap (λ (o : Object). o.id) x.is ∙ (e ∙ sym (ap (λ (o : Object). o.id) y.is)));
}

-- ---- the first wrong object

miss-first : (journal : List Line) (items : List Item) (n : ℕ) (item : Item) (named : List Bool) → AreNamed journal items n named → slice_get items n ≡ Some item
    → (¬ NamesMiss (past_of journal) (object_of n item)) ⊎ IsNamedBefore (objects_of items) (object_of n item) → IsLeast (BreaksMisses (past_of journal) (objects_of items)) (n + 1)
miss-first journal items n item named all at wrong = record {
  here = record { object = object_of n item; among = object-in items n item at; wrong = wrong; stands = refl };
  least = λ m lt b. (
      let x = item-of items b.object b.among in
      let id : b.object.id ≡ x.number = ap (λ (o : Object). o.id) x.is in
      let s = b.stands in
      let less : x.number < n = omega arith in
      elim b.wrong [
        | inl off ↦ off (subst (λ (y : Object). NamesMiss (past_of journal) y) (sym x.is) (names-all journal items n named all x.number x.item less x.at))
        | inr again ↦ (
            let y = item-of items again.earlier again.among in
            let idy : again.earlier.id ≡ y.number = ap (λ (o : Object). o.id) y.is in
            let before = again.before in
            let lower : y.number < x.number = omega arith in
            let nx : Names items x.number again.named x.item = record { at = x.at; missed = sym (ap (λ (o : Object). o.answer) x.is) ∙ again.here } in
            let ny : Names items y.number again.named y.item = record { at = y.at; missed = sym (ap (λ (o : Object). o.answer) y.is) ∙ again.its } in
            let e = all.once x.number y.number again.named x.item y.item less (omega arith) nx ny in
            absurd (omega arith))
      ]);
}

-- a missed object whose line is no Miss of its kind
pub miss-wrong : (journal : List Line) (items : List Item) (n line : ℕ) (item : Item) (named : List Bool) → AreNamed journal items n named → slice_get items n ≡ Some item → item.answer ≡ Missed line
    → ¬ IsMissOf journal line item → IsLeast (BreaksMisses (past_of journal) (objects_of items)) (n + 1)
miss-wrong journal items n line item named all at missed off =
    miss-first journal items n item named all at (inl (λ names. off (number-miss journal line item (names line missed))))

-- a missed object whose line an earlier one names
pub miss-again : (journal : List Line) (items : List Item) (n line : ℕ) (item : Item) (named : List Bool) → AreNamed journal items n named → slice_get items n ≡ Some item → item.answer ≡ Missed line
    → get_or named line false ≡ true → IsLeast (BreaksMisses (past_of journal) (objects_of items)) (n + 1)
miss-again journal items n line item named all at missed was =
    let f = all.from line was in
    miss-first journal items n item named all at (inr (record {
      named = line;
      earlier = object_of f.0 f.1;
      among = object-in items f.0 f.1 f.3.at;
      before = f.2;
      its = f.3.missed;
      here = missed;
    }))

-- ---- the loop over objects

pub seen-at : (named : List Bool) (line : ℕ) (r b : Bool) → r ≡ get_or named line r → r ≡ b → get_or named line b ≡ b
seen-at named line r b e is = let P : Bool → Type 0 = λ x. x ≡ get_or named line x in sym (subst P is e)

other-default : (xs : List Bool) (i : ℕ) (d e : Bool) → i < length xs → get_or xs i d ≡ get_or xs i e
other-default xs i d e lt = let a = slice_get-get_or xs i d lt in let b = slice_get-get_or xs i e lt in let s : Some (get_or xs i d) ≡ Some (get_or xs i e) = sym a ∙ b in cc

pub loop-wrong : (journal slice : List Line) (items : List Item) (n line : ℕ) (d : Item) (named : List Bool) → slice ≡ journal → AreNamed slice items n named → n < length items → (get_or items n d).answer ≡ Missed line
    → (slice_get slice line ≢ Some (Miss (get_or items n d).cycle (get_or items n d).pages (get_or items n d).class)) → IsLeast (BreaksMisses (past_of journal) (objects_of items)) (n + 1)
loop-wrong journal slice items n line d named same all lt missed off =
    subst (λ (j : List Line). IsLeast (BreaksMisses (past_of j) (objects_of items)) (n + 1)) same (miss-wrong slice items n line (get_or items n d) named all (slice_get-get_or items n d lt) missed off)

pub loop-again : (journal slice : List Line) (items : List Item) (n line : ℕ) (d : Item) (named : List Bool) → slice ≡ journal → AreNamed slice items n named → n < length items → (get_or items n d).answer ≡ Missed line
    → line < length named → get_or named line true ≡ true → IsLeast (BreaksMisses (past_of journal) (objects_of items)) (n + 1)
loop-again journal slice items n line d named same all lt missed inside was =
    subst (λ (j : List Line). IsLeast (BreaksMisses (past_of j) (objects_of items)) (n + 1)) same
    (miss-again slice items n line (get_or items n d) named all (slice_get-get_or items n d lt) missed (other-default named line false true inside ∙ was))

pub loop-more : (slice : List Line) (items : List Item) (n line : ℕ) (d : Item) (named new : List Bool) → AreNamed slice items n named → n < length items → (get_or items n d).answer ≡ Missed line
    → slice_get slice line ≡ Some (Miss (get_or items n d).cycle (get_or items n d).pages (get_or items n d).class) → line < length named → get_or named line false ≡ false → new ≡ set named line true → AreNamed slice items (n + 1) new
loop-more slice items n line d named new all lt missed is inside was e =
    rw e (named-more slice items n line (get_or items n d) named (slice_get-get_or items n d lt) missed is was inside all)

pub loop-other : (slice : List Line) (items : List Item) (n : ℕ) (d : Item) (named new : List Bool) → AreNamed slice items n named → n < length items → ((line : ℕ) → (get_or items n d).answer ≢ Missed line) → new ≡ named
    → AreNamed slice items (n + 1) new
loop-other slice items n d named new all lt other e = rw e (named-other slice items n (get_or items n d) named (slice_get-get_or items n d lt) other all)

pub loop-all : (journal slice : List Line) (items : List Item) (n : ℕ) (named : List Bool) → slice ≡ journal → AreNamed slice items n named → length items ≤ n → AreMissed (past_of journal) (objects_of items)
loop-all journal slice items n named same all le = subst (λ (j : List Line). AreMissed (past_of j) (objects_of items)) same (are-missed slice items n named le all)
