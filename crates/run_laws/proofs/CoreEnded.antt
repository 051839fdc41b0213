-- A settled state of span ownership ends a cycle.
use Rattle.std.proofs.Common.{◌≡◌, ◌≢◌, ℕ, zero, suc, ◌≤◌, subst, Bool, true, false, ◌||◌, eqb, List, [], ◌∷◌, ◌++◌, length, refl, sym, ◌∙◌, ap, arith, inl, inr}
use Rattle.std.specs.Prelude.{Option, None, slice_index}
use Rattle.std.proofs.lemmas.Bool.{cases_eq, cases_lt, cases_Bool, eq-eqb, ne_eqb}
use Rattle.page_alloc.specs.Lists.{In}
use Rattle.page_alloc.specs.Lives.{Life, life_of, others, open_lives}
use Rattle.page_alloc.proofs.Lives.{from_others}
use Rattle.sound_run.proofs.Journals.{lies}
use Rattle.sound_run.specs.Run.{count_for, IsJournal}
use Rattle.sweep_laws.specs.Reading.{life_in}
use Rattle.sweep_laws.proofs.Lives.{SamePlace, alike_begins, changed_alike}
use Rattle.sweep_laws.specs.Named.{begins}
use Rattle.sweep_laws.specs.Owned.{Owned}
use Rattle.sweep_laws.specs.State.{LifeState, CoreState}
use Rattle.sweep_laws.specs.ChangesOfLives.{change_life, drop_life, new_life}
use Rattle.sweep_laws.specs.Changes.{after_give}
use Rattle.sweep_laws.proofs.Naming.{times_has}
use Rattle.run_laws.specs.Lists.{begins_at}
use Rattle.run_laws.specs.CycleSoFar.{CycleSoFar, past_after}
use Rattle.run_laws.specs.Occupied.{IsSettled, NamedHaveSome}
use Rattle.run_laws.specs.Shown.{bits_of, waits_of, LivesShown}
use Rattle.run_laws.specs.Blocks.{OutBlock, cuts_in, out_of}
use Rattle.run_laws.specs.ShowsBlocks.{ShowsBlocks}
use Rattle.run_laws.proofs.Lines.{page-there, there-begins}
use Rattle.run_laws.proofs.Occupied.{occupied}
use Rattle.run_laws.proofs.Shown.{settled-word, life-here, life-else, drop-else}
use Rattle.run_laws.proofs.Steps.{HasEnded}

-- ---- lives of the core and of the journal

begins-append : (ls : List LifeState) (l : LifeState) (q : ℕ) → begins q (ls ++ l ∷ []) ≡ (eqb l.page q || begins q ls)
begins-append [] l q = elim (cases_Bool (eqb l.page q)) [ inl on ↦ rw on refl | inr off ↦ rw off refl ]
begins-append (x ∷ ls) l q =
    let rest = begins-append ls l q in
    elim (cases_Bool (eqb x.page q)) [
      | inl on ↦ rw on (elim (cases_Bool (eqb l.page q)) [ inl a ↦ rw a refl | inr a ↦ rw a refl ])
      | inr off ↦ rw off rest
    ]

begins-drop : (p q : ℕ) (ls : List LifeState) → q ≢ p → begins q (drop_life p ls) ≡ begins q ls
begins-drop p q [] other = refl
begins-drop p q (l ∷ ls) other = elim (cases_eq l.page p) [
  | inl on ↦ (
      let e : eqb l.page p ≡ true = eq-eqb l.page p on in
      let d : eqb l.page q ≡ false = ne_eqb l.page q (λ z. other (sym z ∙ on)) in
      rw e (rw d refl))
  | inr off ↦ (
      let e : eqb l.page p ≡ false = ne_eqb l.page p off in
      rw e (elim (cases_Bool (eqb l.page q)) [
        | inl here ↦ rw here refl
        | inr there ↦ rw there (begins-drop p q ls other)
      ]))
]

others-else : (p q : ℕ) (lives : List Life) → q ≢ p → begins_at q (others p lives) ≡ begins_at q lives
others-else p q [] other = refl
others-else p q (l ∷ lives) other = elim (cases_eq l.page p) [
  | inl on ↦ (
      let e : eqb l.page p ≡ true = eq-eqb l.page p on in
      let d : eqb l.page q ≡ false = ne_eqb l.page q (λ z. other (sym z ∙ on)) in
      rw e (rw d (others-else p q lives other)))
  | inr off ↦ (
      let e : eqb l.page p ≡ false = ne_eqb l.page p off in
      let rest = others-else p q lives other in
      rw e (ap (λ (b : Bool). eqb l.page q || b) rest))
]

others-here : (p : ℕ) (lives : List Life) → begins_at p (others p lives) ≡ false
others-here p [] = refl
others-here p (l ∷ lives) = elim (cases_Bool (eqb l.page p)) [
  | inl on ↦ rw on (others-here p lives)
  | inr off ↦ rw off (rw off (others-here p lives))
]

-- a life that is shown begins in the core
pub shown-begins : (c : CoreState) (lives : List Life) (life : Life) → LivesShown c lives → In life lives → begins life.page c.lives ≡ true
shown-begins c lives life shown h = shown.begin life.page ∙ there-begins lives life h

-- a life in the list is found in a longer one, and a new one behind the others
life-front : (q : ℕ) (m : LifeState) (ls : List LifeState) → begins q ls ≡ true → life_in q (ls ++ m ∷ []) ≡ life_in q ls
life-front q m [] is = let none : ⊥ = cc in absurd none
life-front q m (l ∷ ls) is = elim (cases_Bool (eqb l.page q)) [
  | inl on ↦ rw on refl
  | inr off ↦ (let is' : begins q ls ≡ true = rw off at is in rw off (life-front q m ls is'))
]

life-last : (q : ℕ) (m : LifeState) (ls : List LifeState) → m.page ≡ q → begins q ls ≡ false → life_in q (ls ++ m ∷ []) ≡ m
life-last q m [] page isnt = let e = eq-eqb m.page q page in rw e refl
life-last q m (l ∷ ls) page isnt = elim (cases_Bool (eqb l.page q)) [
  | inl on ↦ (let z : true ≡ false = rw on at isnt in let none : ⊥ = cc in absurd none)
  | inr off ↦ (let isnt' : begins q ls ≡ false = rw off at isnt in rw off (life-last q m ls page isnt'))
]

front-shown : (c : CoreState) (lives : List Life) (n cycle p pages count class : ℕ) → LivesShown c lives → begins p c.lives ≡ false → count ≡ count_for class
    → LivesShown (record c { lives = c.lives ++ new_life p pages count class ∷ [] }) (life_of n cycle p pages class ∷ lives)
front-shown c lives n cycle p pages count class shown free same = record {
  begin = λ q. begins-append c.lives (new_life p pages count class) q ∙ ap (λ (b : Bool). eqb p q || b) (shown.begin q);
  same = λ life h. elim h [
    | inl new ↦ (
        let m : LifeState = new_life p pages count class in
        let page : p ≡ life.page = ap (λ (l : Life). l.page) new in
        let is : life_in p (c.lives ++ m ∷ []) ≡ m = life-last p m c.lives refl free in
        let is' : life_in life.page (c.lives ++ m ∷ []) ≡ m = subst (λ (q : ℕ). life_in q (c.lives ++ m ∷ []) ≡ m) page is in
        record {
          pages = ap (λ (l : LifeState). l.pages) is' ∙ ap (λ (l : Life). l.pages) new;
          class = ap (λ (l : LifeState). l.class) is' ∙ ap (λ (l : Life). l.class) new;
          count = ap (λ (l : LifeState). l.count) is' ∙ same ∙ ap (λ (l : Life). count_for l.class) new;
        })
    | inr old ↦ (
        let was = shown.same life old in
        let is : life_in life.page (c.lives ++ new_life p pages count class ∷ []) ≡ life_in life.page c.lives = life-front life.page (new_life p pages count class) c.lives (shown-begins c lives life shown old) in
        record {
          pages = ap (λ (l : LifeState). l.pages) is ∙ was.pages;
          class = ap (λ (l : LifeState). l.class) is ∙ was.class;
          count = ap (λ (l : LifeState). l.count) is ∙ was.count;
        })
  ];
}

-- a life more
pub new-shown : (c new : CoreState) (lives : List Life) (n cycle p pages count class : ℕ) → LivesShown c lives → begins p c.lives ≡ false → count ≡ count_for class → new.lives ≡ c.lives ++ new_life p pages count class ∷ []
    → LivesShown new (life_of n cycle p pages class ∷ lives)
new-shown c new lives n cycle p pages count class shown free same is =
    let more = front-shown c lives n cycle p pages count class shown free same in
    record {
      begin = λ q. ap (begins q) is ∙ more.begin q;
      same = λ life h. (
          let m = more.same life h in
          let e : life_in life.page new.lives ≡ life_in life.page (c.lives ++ new_life p pages count class ∷ []) = ap (life_in life.page) is in
          record { pages = ap (λ (l : LifeState). l.pages) e ∙ m.pages; class = ap (λ (l : LifeState). l.class) e ∙ m.class; count = ap (λ (l : LifeState). l.count) e ∙ m.count });
    }

pub give-shown : (c : CoreState) (lives : List Life) (w p : ℕ) → begins p (drop_life p c.lives) ≡ false → LivesShown c lives → LivesShown (after_give c w p) (others p lives)
give-shown c lives w p gone shown = record {
  begin = λ q. elim (cases_eq q p) [
    | inl here ↦ ap (λ (r : ℕ). begins r (drop_life p c.lives)) here ∙ gone ∙ sym (ap (λ (r : ℕ). begins_at r (others p lives)) here ∙ others-here p lives)
    | inr other ↦ begins-drop p q c.lives other ∙ shown.begin q ∙ sym (others-else p q lives other)
  ];
  same = λ life h. (
      let was = from_others p lives life h in
      let old = shown.same life was.0 in
      let is : life_in life.page (drop_life p c.lives) ≡ life_in life.page c.lives = drop-else p life.page c.lives was.1 in
      record {
        pages = ap (λ (l : LifeState). l.pages) is ∙ old.pages;
        class = ap (λ (l : LifeState). l.class) is ∙ old.class;
        count = ap (λ (l : LifeState). l.count) is ∙ old.count;
      });
}

-- a life changes in its objects alone
pub change-shown : (c new : CoreState) (lives : List Life) (p : ℕ) (f : LifeState → LifeState) → new.lives ≡ change_life p f c.lives → ((l : LifeState) → SamePlace l (f l)) → ((l : LifeState) → (f l).count ≡ l.count)
    → LivesShown c lives → LivesShown new lives
change-shown c new lives p f changed place count shown = record {
  begin = λ q. ap (begins q) changed ∙ sym (alike_begins q c.lives (change_life p f c.lives) (changed_alike p f place c.lives)) ∙ shown.begin q;
  same = λ life h. (
      let old = shown.same life h in
      let begin = shown-begins c lives life shown h in
      elim (cases_eq life.page p) [
        | inl here ↦ (
            let begin' : begins p c.lives ≡ true = subst (λ (q : ℕ). begins q c.lives ≡ true) here begin in
            let is : life_in p (change_life p f c.lives) ≡ f (life_in p c.lives) = life-here p f c.lives (λ l. sym (place l).page) begin' in
            let is' : life_in life.page new.lives ≡ f (life_in life.page c.lives) = ap (life_in life.page) changed ∙ subst (λ (q : ℕ). life_in q (change_life p f c.lives) ≡ f (life_in q c.lives)) (sym here) is in
            let l : LifeState = life_in life.page c.lives in
            record {
              pages = ap (λ (x : LifeState). x.pages) is' ∙ sym (place l).pages ∙ old.pages;
              class = ap (λ (x : LifeState). x.class) is' ∙ sym (place l).class ∙ old.class;
              count = ap (λ (x : LifeState). x.count) is' ∙ count l ∙ old.count;
            })
        | inr other ↦ (
            let is : life_in life.page new.lives ≡ life_in life.page c.lives = ap (life_in life.page) changed ∙ life-else p life.page f c.lives (λ l. sym (place l).page) other in
            record {
              pages = ap (λ (x : LifeState). x.pages) is ∙ old.pages;
              class = ap (λ (x : LifeState). x.class) is ∙ old.class;
              count = ap (λ (x : LifeState). x.count) is ∙ old.count;
            })
      ]);
}

-- ---- the end

-- while no block is out, each life begins in the journal
pub journal-begins : (c : CoreState) (e : CycleSoFar) → ShowsBlocks c e → ((w : ℕ) → out_of (e.logs w) ≡ None) → (p : ℕ) → begins p c.lives ≡ true → begins_at p (open_lives (past_after e)) ≡ true
journal-begins c e blocks none p is = elim (blocks.each p is) [
  | inl there ↦ there
  | inr cut ↦ (
      let no : In cut.1 [] = subst (λ (o : Option OutBlock). In cut.1 (cuts_in o)) (none cut.0) cut.2 in
      absurd no)
]

-- a word beyond the region is none
beyond : (ws : List ℕ) (p : ℕ) → length ws ≤ p → slice_index ws p ≡ 0
beyond [] p le = refl
beyond (x ∷ ws) zero le = absurd (omega arith)
beyond (x ∷ ws) (suc p) le = beyond ws p (omega arith)

pub core-ended : (region goal : ℕ) (e : CycleSoFar) (c : CoreState) → IsJournal region goal (past_after e) → length c.words ≡ region → 4 ≤ c.generation → LivesShown c e.known → ((p k : ℕ) → e.bits p k ≡ bits_of c p k)
    → ShowsBlocks c e → ((w : ℕ) → out_of (e.logs w) ≡ None) → Owned c → IsSettled c → NamedHaveSome c → HasEnded e (waits_of c)
core-ended region goal e c legal size low shown bits blocks none own settled named = record {
  swept = λ p. elim (cases_lt p (length c.words)) [
    | inl inside ↦ settled-word c.generation (slice_index c.words p) low (settled.words p inside)
    | inr out ↦ settled-word c.generation (slice_index c.words p) low (inl (beyond c.words p out))
  ];
  told = λ life here. page-there life.page e.known (sym (shown.begin life.page) ∙ (blocks.lives life here).0);
  there = λ known h. (
      let at = page-there known.page (open_lives (past_after e)) (journal-begins c e blocks none known.page (shown-begins c e.known known shown h)) in
      let is = (blocks.lives at.0 at.1).1 in
      (at.0, at.1, at.2, sym is.class ∙ ap (λ (p : ℕ). (life_in p c.lives).class) at.2 ∙ (shown.same known h).class));
  some = λ life here. (
      let lie = lies region goal (past_after e) life legal here in
      let a = lie.0 in
      let b = lie.1 in
      let has = occupied c own settled named life.page (omega arith) (blocks.lives life here).0 in
      (has.0, bits life.page has.0 ∙ times_has has.0 _ has.1));
}
