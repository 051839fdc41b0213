-- The table of the lives that are open.
use Rattle.std.proofs.Common.{◌≡◌, ◌≢◌, ℕ, ◌+◌, ◌-◌, ◌*◌, ◌/◌, ◌%◌, ◌<◌, ◌≤◌, List, [], ◌∷◌, length, get_or, set, replicate, Option, Some, None, refl, sym, ◌∙◌, ap, subst, arith, ◌⊎◌, inl, inr}
use Rattle.std.proofs.Math.Nat.{mul-mod_right, mul-div_cancel_left, div-add-mod}
use Rattle.std.proofs.Math.ListN.{get_or-eq_default}
use Rattle.std.proofs.lemmas.Bool.{cases_eq, cases_lt}
use Rattle.std.proofs.lemmas.List.{get_or-set_same, get_or-set_other, get_or-replicate, length-set, length-replicate}
use Rattle.page_bitmap.specs.declared.line.Line.{Line}
use Rattle.page_bitmap.specs.declared.line.Line.TheVariants.{Take, Give, Cut}
use Rattle.page_alloc.specs.Lists.{In, AllApart}
use Rattle.page_alloc.specs.Lives.{Life, life_of, open_lives, others}
use Rattle.page_alloc.specs.Journal.{LegalFor}
use Rattle.page_alloc.proofs.Lives.{lies-for, pages-apart-for, from_others, to_others}
use Rattle.cycle_history.specs.declared.Answer.TheVariants.{Placed}
use Rattle.cycle_history.specs.Objects.{Object, Sits, start_of}
use Rattle.report_check.specs.declared.lives.OpenLife.{OpenLife}
use Rattle.report_check.specs.declared.lives.Seat.{Seat}
use Rattle.report_check.specs.Lives.{entry_of, HoldsLife, AreAtPages, AreLives, IsSeatAt, NoSeatAt}

abbrev life_in : OpenLife → Life
life_in entry = life_of entry.number entry.cycle entry.page entry.pages entry.class

pub same-life : (a b : Life) → entry_of a ≡ entry_of b → a ≡ b
same-life a b e = let s : life_in (entry_of a) ≡ life_in (entry_of b) = ap life_in e in s

-- no entry, and an entry
off : (x : Option OpenLife) (life : OpenLife) → x ≡ None → x ≡ Some life → ⊥
off x life a b = cc

abbrev empty : Option OpenLife
empty = None

-- ---- one line more

pub inside-take : (procs region goal : ℕ) (past : List Line) (cycle page pages class : ℕ) → LegalFor procs region goal (Take cycle page pages class ∷ past) → page < region
inside-take procs region goal past cycle page pages class legal =
    let l = lies-for procs region goal (Take cycle page pages class ∷ past) (life_of (length past) cycle page pages class) legal (inl refl) in
    let some = l.0 in
    let inside = l.1 in
    omega arith

pub inside-cut : (procs region goal : ℕ) (past : List Line) (cycle proc page pages class : ℕ) → LegalFor procs region goal (Cut cycle proc page pages class ∷ past) → page < region
inside-cut procs region goal past cycle proc page pages class legal =
    let l = lies-for procs region goal (Cut cycle proc page pages class ∷ past) (life_of (length past) cycle page pages class) legal (inl refl) in
    let some = l.0 in
    let inside = l.1 in
    omega arith

pub inside-give : (procs region goal : ℕ) (past : List Line) (cycle page pages : ℕ) → LegalFor procs region goal (Give cycle page pages ∷ past) → page < region
inside-give procs region goal past cycle page pages legal =
    let given = legal.0.0 in
    let l = lies-for procs region goal past given legal.2 legal.0.1 in
    let begins : given.page ≡ page = legal.0.2 in
    let some = l.0 in
    let inside = l.1 in
    omega arith

lives-made : (procs region goal : ℕ) (past : List Line) (lives : List (Option OpenLife)) (line : Line) (cycle page pages class : ℕ) → AreLives region past lives
    → open_lives (line ∷ past) ≡ life_of (length past) cycle page pages class ∷ open_lives past → page < region → LegalFor procs region goal (line ∷ past) → AreLives region (line ∷ past) (set lives page (Some (entry_of (life_of (length past) cycle page pages class))))
lives-made procs region goal past lives line cycle page pages class are makes lt legal = record {
  size = length-set lives page (Some new) ∙ are.size;
  pages = λ p life at. elim (cases_eq p page) [
    | inl same ↦ (
        let now : get_or (set lives page (Some new)) page None ≡ Some life = subst (λ (n : ℕ). get_or (set lives page (Some new)) n None ≡ Some life) same at in
        let e : Some new ≡ Some life = sym here ∙ now in
        let f : new ≡ life = cc in
        sym (ap (λ (l : OpenLife). l.page) f) ∙ sym same)
    | inr other ↦ are.pages p life (sym (get_or-set_other lives page p (Some new) None other) ∙ at)
  ];
  all = λ life. (to life, from life);
}
  where
    born : Life
    born = life_of (length past) cycle page pages class

    new : OpenLife
    new = entry_of born

    inside : page < length lives
    inside = let e = are.size in omega arith

    here : get_or (set lives page (Some new)) page None ≡ Some new
    here = get_or-set_same lives page (Some new) None inside

    apart : AllApart (λ (a b : Life). a.page ≢ b.page) (born ∷ open_lives past)
    apart = subst (AllApart (λ (a b : Life). a.page ≢ b.page)) makes (pages-apart-for procs region goal (line ∷ past) legal)

    held : (life : Life) → In life (born ∷ open_lives past) → HoldsLife (set lives page (Some new)) life
    held life i = elim i [
      | inl is ↦ subst (λ (l : Life). HoldsLife (set lives page (Some new)) l) is here
      | inr there ↦ (
          let other = apart.0 life there in
          get_or-set_other lives page life.page (Some new) None (λ e. other (sym e)) ∙ (are.all life).0 there)
    ]

    to : (life : Life) → In life (open_lives (line ∷ past)) → HoldsLife (set lives page (Some new)) life
    to life i = held life (subst (λ (ls : List Life). In life ls) makes i)

    open-one : (life : Life) → HoldsLife (set lives page (Some new)) life → In life (born ∷ open_lives past)
    open-one life holds = elim (cases_eq life.page page) [
      | inl same ↦ (
          let now : get_or (set lives page (Some new)) page None ≡ Some (entry_of life) = subst (λ (n : ℕ). get_or (set lives page (Some new)) n None ≡ Some (entry_of life)) same holds in
          let e : Some new ≡ Some (entry_of life) = sym here ∙ now in
          let f : entry_of born ≡ entry_of life = cc in
          inl (same-life born life f))
      | inr other ↦ inr ((are.all life).1 (sym (get_or-set_other lives page life.page (Some new) None other) ∙ holds))
    ]

    from : (life : Life) → HoldsLife (set lives page (Some new)) life → In life (open_lives (line ∷ past))
    from life holds = subst (λ (ls : List Life). In life ls) (sym makes) (open-one life holds)

pub lives-take : (procs region goal : ℕ) (past : List Line) (lives : List (Option OpenLife)) (cycle page pages class : ℕ) → AreLives region past lives → LegalFor procs region goal (Take cycle page pages class ∷ past)
    → AreLives region (Take cycle page pages class ∷ past) (set lives page (Some (entry_of (life_of (length past) cycle page pages class))))
lives-take procs region goal past lives cycle page pages class are legal =
    lives-made procs region goal past lives (Take cycle page pages class) cycle page pages class are refl (inside-take procs region goal past cycle page pages class legal) legal

pub lives-cut : (procs region goal : ℕ) (past : List Line) (lives : List (Option OpenLife)) (cycle proc page pages class : ℕ) → AreLives region past lives → LegalFor procs region goal (Cut cycle proc page pages class ∷ past)
    → AreLives region (Cut cycle proc page pages class ∷ past) (set lives page (Some (entry_of (life_of (length past) cycle page pages class))))
lives-cut procs region goal past lives cycle proc page pages class are legal =
    lives-made procs region goal past lives (Cut cycle proc page pages class) cycle page pages class are refl (inside-cut procs region goal past cycle proc page pages class legal) legal

pub lives-give : (procs region goal : ℕ) (past : List Line) (lives : List (Option OpenLife)) (cycle page pages : ℕ) → AreLives region past lives → LegalFor procs region goal (Give cycle page pages ∷ past)
    → AreLives region (Give cycle page pages ∷ past) (set lives page None)
lives-give procs region goal past lives cycle page pages are legal = record {
  size = length-set lives page None ∙ are.size;
  pages = λ p life at. elim (cases_eq p page) [
    | inl same ↦ (
        let now : get_or (set lives page None) page None ≡ Some life = subst (λ (n : ℕ). get_or (set lives page None) n None ≡ Some life) same at in
        absurd (off _ _ here now))
    | inr other ↦ are.pages p life (sym (get_or-set_other lives page p None None other) ∙ at)
  ];
  all = λ life. (to life, from life);
}
  where
    inside : page < length lives
    inside = let e = are.size in let lt = inside-give procs region goal past cycle page pages legal in omega arith

    here : get_or (set lives page None) page None ≡ None
    here = get_or-set_same lives page None None inside

    to : (life : Life) → In life (others page (open_lives past)) → HoldsLife (set lives page None) life
    to life i = let f = from_others page (open_lives past) life i in get_or-set_other lives page life.page None None f.1 ∙ (are.all life).0 f.0

    from : (life : Life) → HoldsLife (set lives page None) life → In life (others page (open_lives past))
    from life holds = elim (cases_eq life.page page) [
      | inl same ↦ (
          let now : get_or (set lives page None) page None ≡ Some (entry_of life) = subst (λ (n : ℕ). get_or (set lives page None) n None ≡ Some (entry_of life)) same holds in
          absurd (off _ _ here now))
      | inr other ↦ to_others page (open_lives past) life ((are.all life).1 (sym (get_or-set_other lives page life.page None None other) ∙ holds)) other
    ]

pub lives-none : (region : ℕ) → AreLives region [] (replicate region None)
lives-none region = record {
  size = length-replicate region None;
  pages = λ p life at. absurd (none p life at);
  all = λ life. (λ i. absurd i, λ holds. absurd (none life.page (entry_of life) holds));
}
  where
    none : (p : ℕ) (life : OpenLife) → get_or (replicate region None) p None ≡ Some life → ⊥
    none p life at = elim (cases_lt p region) [
      | inl lt ↦ off _ _ (get_or-replicate region p empty empty lt) at
      | inr ge ↦ off _ _ (get_or-eq_default (replicate region empty) empty (let l : length (replicate region empty) ≡ region = length-replicate region empty in omega arith)) at
    ]

-- ---- seats

-- where the object lies in a life that begins at the page
pub sits-inside : (o : Object) (life : Life) (k page offset : ℕ) → Sits o life k → o.answer ≡ Placed (0xc000000000 + offset) → life.page ≡ page → offset ≡ 8192 * page + o.need.slot * k
sits-inside o life k page offset sits answer begins =
    let a = sits.address in
    let e : start_of life + o.need.slot * k ≡ 0xc000000000 + offset = cc in
    rw begins at (let f : offset ≡ 8192 * life.page + o.need.slot * k = omega arith in f)

pub index-is : (o : Object) (life : Life) (k page offset : ℕ) → 1 ≤ o.need.slot → Sits o life k → o.answer ≡ Placed (0xc000000000 + offset) → life.page ≡ page
    → ((offset - 8192 * page) % o.need.slot ≡ 0) × ((offset - 8192 * page) / o.need.slot ≡ k)
index-is o life k page offset some sits answer begins =
    let e = sits-inside o life k page offset sits answer begins in
    let f : offset - 8192 * page ≡ o.need.slot * k = omega arith in
    (ap (λ (n : ℕ). n % o.need.slot) f ∙ mul-mod_right o.need.slot k, ap (λ (n : ℕ). n / o.need.slot) f ∙ mul-div_cancel_left k some)

-- an entry of the page that isn't such a span, or where no index is at the address
pub no-seat : (lives : List (Option OpenLife)) (o : Object) (page offset : ℕ) (entry : OpenLife) → get_or lives page None ≡ Some entry → 1 ≤ o.need.slot → o.answer ≡ Placed (0xc000000000 + offset)
    → (¬ ((entry.class ≡ o.need.class) × (entry.pages ≡ o.need.pages))) ⊎ (((offset - 8192 * page) % o.need.slot ≢ 0) ⊎ (o.need.count ≤ (offset - 8192 * page) / o.need.slot))
    → NoSeatAt lives o page
no-seat lives o page offset entry at some answer bad life k begins holds sits =
    let now : get_or lives page None ≡ Some (entry_of life) = subst (λ (n : ℕ). get_or lives n None ≡ Some (entry_of life)) begins holds in
    let e : entry_of life ≡ entry = cc in
    let i = index-is o life k page offset some sits answer begins in
    let lt = sits.index in
    elim bad [
      | inl off ↦ off (ap (λ (x : OpenLife). x.class) (sym e) ∙ sits.class, ap (λ (x : OpenLife). x.pages) (sym e) ∙ sits.pages)
      | inr rest ↦ elim rest [
        | inl odd ↦ odd i.0
        | inr many ↦ (let q = i.1 in absurd (omega arith))
      ]
    ]

-- no entry at the page
pub no-entry : (lives : List (Option OpenLife)) (o : Object) (page : ℕ) → get_or lives page None ≡ None → NoSeatAt lives o page
no-entry lives o page at life k begins holds sits =
    let now : get_or lives page None ≡ Some (entry_of life) = subst (λ (n : ℕ). get_or lives n None ≡ Some (entry_of life)) begins holds in
    absurd cc

-- an entry of the page where the index is at the address
pub a-seat : (lives : List (Option OpenLife)) (o : Object) (page offset : ℕ) (entry : OpenLife) (seat : Seat) → AreAtPages lives → get_or lives page None ≡ Some entry → 1 ≤ o.need.slot → o.answer ≡ Placed (0xc000000000 + offset)
    → 8192 * page ≤ offset → entry.class ≡ o.need.class → entry.pages ≡ o.need.pages → (offset - 8192 * page) % o.need.slot ≡ 0 → (offset - 8192 * page) / o.need.slot < o.need.count
    → seat.life ≡ entry.number → seat.index ≡ (offset - 8192 * page) / o.need.slot → IsSeatAt lives o page seat
a-seat lives o page offset entry seat pages at some answer le class many whole few number index =
    let begins : entry.page ≡ page = pages page entry at in
    record {
      life = life_in entry;
      number = number;
      begins = begins;
      holds = (let h : get_or lives entry.page None ≡ Some entry = subst (λ (n : ℕ). get_or lives n None ≡ Some entry) (sym begins) at in h);
      sits = record {
        class = class;
        pages = many;
        index = omega arith;
        address = answer ∙ ap Placed address;
      };
    }
  where
    address : 0xc000000000 + offset ≡ start_of (life_in entry) + o.need.slot * seat.index
    address =
        let whole' = whole in
        let all = div-add-mod (offset - 8192 * page) o.need.slot in
        let at' : entry.page ≡ page = pages page entry at in
        let e : o.need.slot * seat.index ≡ offset - 8192 * page = ap (λ (n : ℕ). o.need.slot * n) index ∙ (let f : o.need.slot * ((offset - 8192 * page) / o.need.slot) ≡ offset - 8192 * page = omega arith in f) in
        omega arith
