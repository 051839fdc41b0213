-- Each move keeps what a state shows of the blocks of page caches.
use Rattle.std.proofs.Common.{◌≡◌, ◌≢◌, ℕ, ◌+◌, ◌<◌, ◌≤◌, ◌⊎◌, inl, inr, Bool, true, false, true≢false, cond, ◌&&◌, eqb, ltb, leb, eq-eqb, ne_eqb, List, [], ◌∷◌, ◌++◌, map, length, set, get_or, get_or-set_other, get_or-set_same, sym, refl, ap, ◌∙◌, subst, arith}
use Rattle.std.specs.Prelude.{Option, Some, None}
use Rattle.std.proofs.lemmas.Bool.{cases_eq, cases_lt, cases_Bool, eqb-true, lt-ltb, le-ltb}
use Rattle.page_alloc.specs.Lists.{In}
use Rattle.page_alloc.specs.Lives.{Life}
use Rattle.page_alloc.specs.Owners.{within}
use Rattle.sweep_laws.specs.State.{LifeState, HandState, CoreState}
use Rattle.sweep_laws.specs.Counts.{one_if, times}
use Rattle.sweep_laws.specs.Named.{begins, covers, is_covered}
use Rattle.sweep_laws.specs.Named.{owner as life_owner}
use Rattle.sweep_laws.specs.Reading.{hand_of, life_in, life_of, no_hand, no_life}
use Rattle.sweep_laws.specs.ChangesOfLives.{change_life, drop_life, mark_life, new_life}
use Rattle.sweep_laws.proofs.LivesChange.{begins_append_else, begins_append_new}
use Rattle.worker_log.specs.declared.Entry.{Entry}
use Rattle.worker_log.specs.Logs.{Taking}
use Rattle.run_laws.specs.CycleSoFar.{CycleSoFar}
use Rattle.run_laws.specs.Shown.{IsLifeOf}
use Rattle.run_laws.specs.Blocks.{CutOut, OutBlock, cut_times, cuts_in, pages_cut}
use Rattle.run_laws.specs.ShowsBlocks.{IsCutAt, IsLifeCut, ShowsBlocks}
use Rattle.run_laws.proofs.BlockLogs.{SameBlocks}

-- two lives have the same pages, class and count
pub record SameSpan (l m : LifeState) : Type 0 where
  pub pages : l.pages ≡ m.pages
  pub class : l.class ≡ m.class
  pub count : l.count ≡ m.count

pub same_span : (l : LifeState) → SameSpan l l
same_span l = record { pages = refl; class = refl; count = refl }

-- a life that changes in its objects alone
pub changed_span : (p : ℕ) (f : LifeState → LifeState) → ((l : LifeState) → (f l).page ≡ l.page) → ((l : LifeState) → SameSpan (f l) l) → (q : ℕ) (ls : List LifeState) → SameSpan (life_in q (change_life p f ls)) (life_in q ls)
changed_span p f page span q [] = same_span no_life
changed_span p f page span q (l ∷ ls) = elim (cases_Bool (eqb l.page p)) [
  | inl here ↦ rw here (first (eqb l.page q) refl (ap (λ (n : ℕ). eqb n q) (page l)))
  | inr there ↦ rw there (rest (eqb l.page q) refl (changed_span p f page span q ls))
]
  where
    first : (b : Bool) → eqb l.page q ≡ b → eqb (f l).page q ≡ eqb l.page q → SameSpan (life_in q (f l ∷ ls)) (life_in q (l ∷ ls))
    first true e same = rw (same ∙ e, e) (span l)
    first false e same = rw (same ∙ e, e) (same_span (life_in q ls))

    rest : (b : Bool) → eqb l.page q ≡ b → SameSpan (life_in q (change_life p f ls)) (life_in q ls) → SameSpan (life_in q (l ∷ change_life p f ls)) (life_in q (l ∷ ls))
    rest true e s = rw e (same_span l)
    rest false e s = rw e s

pub changed_begins : (p : ℕ) (f : LifeState → LifeState) → ((l : LifeState) → (f l).page ≡ l.page) → (q : ℕ) (ls : List LifeState) → begins q (change_life p f ls) ≡ begins q ls
changed_begins p f page q [] = refl
changed_begins p f page q (l ∷ ls) = elim (cases_Bool (eqb l.page p)) [
  | inl here ↦ rw here (ap (λ (n : ℕ). cond (eqb n q) true (begins q ls)) (page l))
  | inr there ↦ rw there (ap (cond (eqb l.page q) true) (changed_begins p f page q ls))
]

pub marked_span : (marks : List (ℕ × ℕ)) (q : ℕ) (ls : List LifeState) → SameSpan (life_in q (map (mark_life marks) ls)) (life_in q ls)
marked_span marks q [] = same_span no_life
marked_span marks q (l ∷ ls) = elim (cases_Bool (eqb l.page q)) [ inl here ↦ rw here (record { pages = refl; class = refl; count = refl }) | inr there ↦ rw there (marked_span marks q ls) ]

pub marked_begins : (marks : List (ℕ × ℕ)) (q : ℕ) (ls : List LifeState) → begins q (map (mark_life marks) ls) ≡ begins q ls
marked_begins marks q [] = refl
marked_begins marks q (l ∷ ls) = ap (cond (eqb l.page q) true) (marked_begins marks q ls)

-- a life at the end of the list
pub ended_life : (q : ℕ) (ls : List LifeState) (m : LifeState) → begins q ls ≡ true → life_in q (ls ++ m ∷ []) ≡ life_in q ls
ended_life q [] m is = absurd (true≢false (sym is))
ended_life q (l ∷ ls) m is = elim (cases_Bool (eqb l.page q)) [
  | inl here ↦ rw here refl
  | inr there ↦ (let is' : begins q ls ≡ true = rw there at is in rw there (ended_life q ls m is'))
]

pub ended_begins : (q : ℕ) (ls : List LifeState) (m : LifeState) → begins q ls ≡ true → begins q (ls ++ m ∷ []) ≡ true
ended_begins q [] m is = absurd (true≢false (sym is))
ended_begins q (l ∷ ls) m is = elim (cases_Bool (eqb l.page q)) [
  | inl here ↦ rw here refl
  | inr there ↦ (let is' : begins q ls ≡ true = rw there at is in rw there (ended_begins q ls m is'))
]

pub new_at : (ls : List LifeState) (m : LifeState) → begins m.page ls ≡ false → life_in m.page (ls ++ m ∷ []) ≡ m
new_at [] m isnt = rw (eq-eqb m.page m.page refl) refl
new_at (l ∷ ls) m isnt = elim (cases_Bool (eqb l.page m.page)) [
  | inl here ↦ (let t : true ≡ false = rw here at isnt in absurd (true≢false t))
  | inr there ↦ (let isnt' : begins m.page ls ≡ false = rw there at isnt in rw there (new_at ls m isnt'))
]

pub dropped_life : (p q : ℕ) (ls : List LifeState) → q ≢ p → life_in q (drop_life p ls) ≡ life_in q ls
dropped_life p q [] ne = refl
dropped_life p q (l ∷ ls) ne = elim (cases_Bool (eqb l.page p)) [
  | inl here ↦ (let other : l.page ≢ q = λ e. ne (sym e ∙ eqb-true l.page p here) in rw (here, ne_eqb l.page q other) refl)
  | inr there ↦ rw there (keep (eqb l.page q) refl (dropped_life p q ls ne))
]
  where
    keep : (b : Bool) → eqb l.page q ≡ b → life_in q (drop_life p ls) ≡ life_in q ls → life_in q (l ∷ drop_life p ls) ≡ life_in q (l ∷ ls)
    keep true e s = rw e refl
    keep false e s = rw e s

-- the owner of a page that a life covers, where no other does
pub owner_of_life : (p q : ℕ) (ls : List LifeState) → begins p ls ≡ true → is_covered q (life_in p ls) ≡ true → covers q ls ≤ 1 → life_owner q ls ≡ Some (life_in p ls).page
owner_of_life p q [] is on one = absurd (true≢false (sym is))
owner_of_life p q (l ∷ ls) is on one = elim (cases_Bool (eqb l.page p)) [
  | inl here ↦ (let on' : is_covered q l ≡ true = rw here at on in rw here (rw on' refl))
  | inr there ↦ (
      let is' : begins p ls ≡ true = rw there at is in
      let on' : is_covered q (life_in p ls) ≡ true = rw there at on in
      let t = covered_some p q ls is' on' in
      let off : is_covered q l ≡ false = uncovered (is_covered q l) refl t in
      rw there (rw off (owner_of_life p q ls is' on' (omega arith))))
]
  where
    covered_some : (p q : ℕ) (ls : List LifeState) → begins p ls ≡ true → is_covered q (life_in p ls) ≡ true → 1 ≤ covers q ls
    covered_some p q [] is on = absurd (true≢false (sym is))
    covered_some p q (l ∷ ls) is on = elim (cases_Bool (eqb l.page p)) [
      | inl here ↦ (let on' : is_covered q l ≡ true = rw here at on in let o = ap one_if on' in omega arith)
      | inr there ↦ (
          let is' : begins p ls ≡ true = rw there at is in
          let on' : is_covered q (life_in p ls) ≡ true = rw there at on in
          let t = covered_some p q ls is' on' in omega arith)
    ]

    uncovered : (b : Bool) → is_covered q l ≡ b → 1 ≤ covers q ls → is_covered q l ≡ false
    uncovered true e t = let o = ap one_if e in absurd (omega arith)
    uncovered false e t = e

-- hands of which one changes keep their pulled lists where that one does
pub pulled_stay : (hs : List HandState) (n : ℕ) (h : HandState) → n < length hs → h.pulled ≡ (get_or hs n no_hand).pulled → (w : ℕ) → (get_or (set hs n h) w no_hand).pulled ≡ (get_or hs w no_hand).pulled
pulled_stay hs n h low same w = elim (cases_eq w n) [
  | inl is ↦ ap (λ (x : ℕ). (get_or (set hs n h) x no_hand).pulled) is ∙ ap (λ (x : HandState). x.pulled) (get_or-set_same hs n h no_hand low) ∙ same ∙ ap (λ (x : ℕ). (get_or hs x no_hand).pulled) (sym is)
  | inr isnt ↦ ap (λ (x : HandState). x.pulled) (get_or-set_other hs n w h no_hand isnt)
]

-- the cycle with other bits and logs
abbrev pub relogged : CycleSoFar → (ℕ → ℕ → Bool) → (ℕ → List Entry) → CycleSoFar
relogged e bits logs = record { cycle = e.cycle; before = e.before; lines = e.lines; known = e.known; carried = e.carried; marks = e.marks; bits = bits; logs = logs; news = e.news; notes = e.notes }

module _ (c : CoreState) (e : CycleSoFar) (now : ShowsBlocks c e) where
  -- what is the same in another state: its pages, its pulled lists, its owners, and its lives as far as blocks go
  pub record SameState (d : CoreState) : Type 0 where
    pub size : length d.words ≡ length c.words
    pub hands : (w : ℕ) → (hand_of d w).pulled ≡ (hand_of c w).pulled
    pub owners : d.owners ≡ c.owners
    pub begin : (p : ℕ) → begins p d.lives ≡ begins p c.lives
    pub span : (p : ℕ) → SameSpan (life_in p d.lives) (life_in p c.lives)

  -- a cut's life in a state with that life
  pub cut_as : (d : CoreState) (x : CutOut) → begins x.page d.lives ≡ true → SameSpan (life_in x.page d.lives) (life_in x.page c.lives) → IsLifeCut c x → IsLifeCut d x
  cut_as d x begin span k = record { begin = begin; pages = span.pages ∙ k.pages; class = span.class ∙ k.class; count = span.count ∙ k.count }

  pub life_as : (d : CoreState) (life : Life) → SameSpan (life_in life.page d.lives) (life_in life.page c.lives) → IsLifeOf life (life_of c life.page) → IsLifeOf life (life_of d life.page)
  life_as d life span k = record { pages = span.pages ∙ k.pages; class = span.class ∙ k.class; count = span.count ∙ k.count }

  pub cut_at_as : (logs : ℕ → List Entry) → ((w : ℕ) → SameBlocks (logs w) (e.logs w)) → (p : ℕ) → IsCutAt e.logs p → IsCutAt logs p
  cut_at_as logs same p k = (k.0, k.1, subst (λ (o : Option OutBlock). In k.1 (cuts_in o)) (sym (same k.0).out) k.2, k.3)

  -- such a state, and logs that tell the same
  pub state_shows : (d : CoreState) (bits : ℕ → ℕ → Bool) (logs : ℕ → List Entry) → SameState d → ((w : ℕ) → SameBlocks (logs w) (e.logs w)) → ShowsBlocks d (relogged e bits logs)
  state_shows d bits logs s same = record {
    lines = λ w. now.lines w ∙ sym ((same w).lines e.cycle w);
    named = λ w x h. now.named w x (subst (λ (l : List Taking). In x l) (same w).pullings h);
    settled = λ w n h. now.settled w n (subst (λ (l : List ℕ). In n l) (same w).settlings h);
    pulled = λ w p. now.pulled w p ∙ (λ i. times p (sym (s.hands w) i) + cut_times p (cuts_in (sym (same w).out i)));
    none = λ w z. s.hands w ∙ now.none w (sym (same w).out ∙ z);
    size = λ w b z. ap (λ (l : List ℕ). length l + pages_cut b.cuts) (s.hands w) ∙ now.size w b (sym (same w).out ∙ z);
    owned = λ p low z. ap (λ (os : List (Option ℕ)). get_or os p None) s.owners ∙ now.owned p (subst (λ (n : ℕ). p < n) s.size low) (λ w. sym (ap (λ (o : Option OutBlock). cut_times p (cuts_in o)) (same w).out) ∙ z w);
    cuts = λ w x h. let k = now.cuts w x (subst (λ (o : Option OutBlock). In x (cuts_in o)) (same w).out h) in cut_as d x (s.begin x.page ∙ k.begin) (s.span x.page) k;
    lives = λ life h. let k = now.lives life h in (s.begin life.page ∙ k.0, life_as d life (s.span life.page) k.1);
    each = λ p z. elim (now.each p (sym (s.begin p) ∙ z)) [ inl a ↦ inl a | inr b ↦ inr (cut_at_as logs same p b) ];
  }

  -- ---- a span is taken, cut or given back

  -- a new life at the end of the list
  module _ (p pages count class : ℕ) (none_begins : begins p c.lives ≡ false) where
    abbrev newer : LifeState
    newer = new_life p pages count class

    pub newer_cut : (d : CoreState) → d.lives ≡ c.lives ++ new_life p pages count class ∷ [] → (x : CutOut) → IsLifeCut c x → IsLifeCut d x
    newer_cut d is x k =
        let lives = ended_life x.page c.lives newer k.begin in
        cut_as d x (ap (begins x.page) is ∙ ended_begins x.page c.lives newer k.begin)
        (subst (λ (l : LifeState). SameSpan l (life_in x.page c.lives)) (sym (ap (life_in x.page) is ∙ lives)) (same_span (life_in x.page c.lives))) k

    pub newer_life : (d : CoreState) → d.lives ≡ c.lives ++ new_life p pages count class ∷ [] → (life : Life) → (begins life.page c.lives ≡ true) × IsLifeOf life (life_of c life.page)
        → (begins life.page d.lives ≡ true) × IsLifeOf life (life_of d life.page)
    newer_life d is life k =
        let lives = ended_life life.page c.lives newer k.0 in (
          ap (begins life.page) is ∙ ended_begins life.page c.lives newer k.0,
          life_as d life (subst (λ (l : LifeState). SameSpan l (life_in life.page c.lives)) (sym (ap (life_in life.page) is ∙ lives)) (same_span (life_in life.page c.lives))) k.1,
        )

    pub newer_here : (d : CoreState) → d.lives ≡ c.lives ++ new_life p pages count class ∷ [] → (begins p d.lives ≡ true) × (life_in p d.lives ≡ new_life p pages count class)
    newer_here d is = (ap (begins p) is ∙ begins_append_new p c.lives newer refl, ap (life_in p) is ∙ new_at c.lives newer none_begins)

    pub newer_each : (d : CoreState) → d.lives ≡ c.lives ++ new_life p pages count class ∷ [] → (q : ℕ) → begins q d.lives ≡ true → (q ≡ p) ⊎ (begins q c.lives ≡ true)
    newer_each d is q z = elim (cases_eq q p) [
      | inl here ↦ inl here
      | inr there ↦ inr (sym (begins_append_else q c.lives newer (λ s. there (sym s))) ∙ sym (ap (begins q) is) ∙ z)
    ]

-- whether a page is within a run
pub within_in : (q p n : ℕ) → p ≤ q → q < p + n → within q p n ≡ true
within_in q p n a b = rw (leb_yes p q a, lt-ltb q (p + n) b) refl
  where
    leb_yes : (x y : ℕ) → x ≤ y → leb x y ≡ true
    leb_yes x y h = grind arith

pub within_below : (q p n : ℕ) → q < p → within q p n ≡ false
within_below q p n a = rw (leb_no p q a) refl
  where
    leb_no : (x y : ℕ) → y < x → leb x y ≡ false
    leb_no x y h = grind arith

pub within_above : (q p n : ℕ) → p + n ≤ q → within q p n ≡ false
within_above q p n a = go (leb p q)
  where
    go : (b : Bool) → b && ltb q (p + n) ≡ false
    go true = le-ltb q (p + n) a
    go false = refl

-- where a page is, seen from a run
pub placed : (q p n : ℕ) → ((p ≤ q) × (q < p + n) × (within q p n ≡ true)) ⊎ (((q < p) ⊎ (p + n ≤ q)) × (within q p n ≡ false))
placed q p n = elim (cases_lt q p) [
  | inl below ↦ inr (inl below, within_below q p n below)
  | inr from ↦ elim (cases_lt q (p + n)) [
    | inl inside ↦ inl (from, inside, within_in q p n from inside)
    | inr above ↦ inr (inr above, within_above q p n above)
  ]
]

-- a page that is within a run is of it
pub within_of : (q p n : ℕ) → within q p n ≡ true → (p ≤ q) × (q < p + n)
within_of q p n on = elim (placed q p n) [ inl i ↦ (i.0, i.1) | inr o ↦ absurd (true≢false (sym on ∙ o.1)) ]
