-- Rule 6 from the logs: a processor fills a life before it goes on.
use Rattle.std.proofs.Common.{◌≡◌, ◌≢◌, ℕ, ◌<◌, ◌≤◌, Bool, true, List, [], ◌∷◌, refl, sym, ◌∙◌, ap, arith, inl, inr}
use Rattle.std.proofs.lemmas.Bool.{cases_lt, lt-ltb}
use Rattle.page_bitmap.specs.declared.line.Line.{Line}
use Rattle.page_alloc.specs.Lists.{In, AllApart}
use Rattle.page_alloc.specs.Lives.{Life, open_lives}
use Rattle.cycle_history.specs.Requests.{Marking}
use Rattle.cycle_history.specs.Objects.{Object, is_placed, IsHeld}
use Rattle.cycle_history.specs.Rules.{IsSmall}
use Rattle.sound_run.specs.Run.{count_for}
use Rattle.sound_run.specs.Spans.{HasMarkedIndex}
use Rattle.run_laws.specs.Lists.{ArePaired}
use Rattle.worker_log.specs.declared.Placing.{Placing}
use Rattle.run_laws.specs.PlacingFacts.{IsIn, IsTaken, FillsNext, Fills}
use Rattle.run_laws.specs.ObjectFacts.{IsPlacing}
use Rattle.run_laws.proofs.Lists.{paired-left, paired-right}

-- each of these objects is placed in the cycle and among all
abbrev pub AreAmong : ℕ → List Object → List Object → Type 0
AreAmong c all objects = (o : Object) → In o objects → In o all × (o.cycle ≡ c) × (is_placed o.answer ≡ true)

-- what is marked of open lives has a marked object
abbrev pub AreMarkedBy : Marking → ℕ → List Object → (ℕ → ℕ → Bool) → List Line → Type 0
AreMarkedBy marked c all marks past = (life : Life) (j : ℕ) → In life (open_lives past) → marks life.page j ≡ true → HasMarkedIndex marked c all life.number j

-- each of these placings is in an open life
abbrev pub AreHere : List Line → List Placing → Type 0
AreHere past log = (a : Placing) → In a log → (life : Life) × In life (open_lives past) × IsIn a life

-- what is taken of an open life is held for a later object
held : (marked : Marking) (c before : ℕ) (all : List Object) (marks : ℕ → ℕ → Bool) (past : List Line) (objects : List Object) (log : List Placing) (life : Life) (j : ℕ)
    → ArePaired (IsPlacing past) objects log → AreAmong c all objects → ((o : Object) → In o objects → o.id < before) → AreMarkedBy marked c all marks past
    → In life (open_lives past) → IsTaken marks log life.page j → IsHeld marked all c before life.number j
held marked c before all marks past objects log life j pairs among early mark here taken =
    elim taken [
      | inl on ↦ (let at = mark life j here on in (at.0, at.1, record { placed = at.2; life = at.4; index = at.5; when = inl at.3 }))
      | inr at ↦ (
          let o = paired-left (IsPlacing past) objects log at.0 pairs at.1 in
          let is = among o.0 o.1 in
          (o.0, is.0, record { placed = is.2; life = sym (o.2.life life here (sym at.2)); index = o.2.index ∙ at.3; when = inr (is.1, early o.0 o.1) }))
    ]

held-moved : (marked : Marking) (c m n k l j : ℕ) (all : List Object) → m ≡ n → k ≡ l → IsHeld marked all c m k j → IsHeld marked all c n l j
held-moved marked c m n k l j all before life h = rw (sym before, sym life) h

taken-moved : (marks : ℕ → ℕ → Bool) (log : List Placing) (p q j : ℕ) → p ≡ q → IsTaken marks log p j → IsTaken marks log q j
taken-moved marks log p q j page h = rw (sym page) h

pub log-no_gap : (marked : Marking) (c : ℕ) (all : List Object) (marks : ℕ → ℕ → Bool) (past : List Line) (objects : List Object) (log : List Placing) → ArePaired (IsPlacing past) objects log
    → AreHere past log → Fills marks log → AllApart (λ (newer older : Object). older.id < newer.id) objects → AreAmong c all objects → AreMarkedBy marked c all marks past
    → (o : Object) → In o objects → IsSmall o → (j : ℕ) → j < o.index → IsHeld marked all c o.id o.life j
log-no_gap marked c all marks past [] log pairs lives fills order among mark o h small j lt = absurd h
log-no_gap marked c all marks past (first ∷ objects) [] pairs lives fills order among mark o h small j lt = absurd pairs
log-no_gap marked c all marks past (first ∷ objects) (a ∷ log) pairs lives fills order among mark o h small j lt =
    elim h [
      | inl here ↦ (
          let i = pairs.0.index in
          let k = pairs.0.class in
          let i' : first.index ≡ o.index = ap (λ (x : Object). x.index) here in
          let k' : first.need.class ≡ o.need.class = ap (λ (x : Object). x.need.class) here in
          let big = small.1 in
          let at = lives a (inl refl) in
          let taken = taken-moved marks log a.page at.0.page j (sym at.2.page) ((fills.0 (omega arith)).lowest j (omega arith)) in
          let there = held marked c first.id all marks past objects log at.0 j pairs.1 (λ x i. among x (inr i)) order.0 mark at.1 taken in
          held-moved marked c first.id o.id at.0.number o.life j all (ap (λ (x : Object). x.id) here) (pairs.0.life at.0 at.1 at.2.page ∙ ap (λ (x : Object). x.life) here) there)
      | inr old ↦ log-no_gap marked c all marks past objects log pairs.1 (λ b i. lives b (inr i)) fills.1 order.1 (λ x i. among x (inr i)) mark o old small j lt
    ]

pub log-full_first : (marked : Marking) (c : ℕ) (all : List Object) (marks : ℕ → ℕ → Bool) (past : List Line) (objects : List Object) (log : List Placing) → ArePaired (IsPlacing past) objects log
    → AreHere past log → Fills marks log → AllApart (λ (newer older : Object). older.id < newer.id) objects → AreAmong c all objects → AreMarkedBy marked c all marks past
    → (a b : Object) → In a objects → In b objects → IsSmall b → a.need.count ≡ count_for a.need.class → a.need.class ≡ b.need.class → a.id < b.id → a.life ≢ b.life
    → (j : ℕ) → j < a.need.count → IsHeld marked all c b.id a.life j
log-full_first marked c all marks past [] log pairs lives fills order among mark a b ha hb small many class before other j lt = absurd ha
log-full_first marked c all marks past (first ∷ objects) [] pairs lives fills order among mark a b ha hb small many class before other j lt = absurd pairs
log-full_first marked c all marks past (first ∷ objects) (p ∷ log) pairs lives fills order among mark a b ha hb small many class before other j lt =
    elim hb [
      | inl b-here ↦ elim ha [
        | inl a-here ↦ (let same : a.id ≡ b.id = ap (λ (x : Object). x.id) (sym a-here ∙ b-here) in absurd (omega arith))
        | inr a-old ↦ (
            let at = paired-right (IsPlacing past) objects log a pairs.1 a-old in
            let k1 : first.need.class ≡ b.need.class = ap (λ (x : Object). x.need.class) b-here in
            let l1 : first.life ≡ b.life = ap (λ (x : Object). x.life) b-here in
            let c1 = at.2.class in
            let c2 = pairs.0.class in
            let big = small.1 in
            let lies = lives at.0 (inr at.1) in
            let n1 : lies.0.number ≡ a.life = at.2.life lies.0 lies.1 lies.2.page in
            let same_class : at.0.class ≡ p.class = sym c1 ∙ class ∙ sym k1 ∙ c2 in
            let many' : a.need.count ≡ count_for at.0.class = many ∙ ap (λ (n : ℕ). count_for n) c1 in
            let taken = (fills.0 (omega arith)).left_full at.0 at.1 same_class (λ s. other (sym n1 ∙ pairs.0.life lies.0 lies.1 (lies.2.page ∙ s) ∙ l1)) j (omega arith) in
            let taken' = taken-moved marks log at.0.page lies.0.page j (sym lies.2.page) taken in
            let there = held marked c first.id all marks past objects log lies.0 j pairs.1 (λ x i. among x (inr i)) order.0 mark lies.1 taken' in
            held-moved marked c first.id b.id lies.0.number a.life j all (ap (λ (x : Object). x.id) b-here) n1 there)
      ]
      | inr b-old ↦ elim ha [
        | inl a-here ↦ (
            let same : first.id ≡ a.id = ap (λ (x : Object). x.id) a-here in
            let less = order.0 b b-old in
            absurd (omega arith))
        | inr a-old ↦ log-full_first marked c all marks past objects log pairs.1 (λ q i. lives q (inr i)) fills.1 order.1 (λ x i. among x (inr i)) mark a b a-old b-old small many class before other j lt
      ]
    ]

-- a large life has one index
large-count : (class : ℕ) → class < 2 → count_for class ≡ 1
large-count class lt = let e = lt-ltb class 2 lt in rw e refl

-- index 0 of a life of the log is taken
pub first-taken : (marks : ℕ → ℕ → Bool) (log : List Placing) (a : Placing) → Fills marks log → In a log → a.index < count_for a.class → IsTaken marks log a.page 0
first-taken marks [] a fills h below = absurd h
first-taken marks (p ∷ log) a fills h below =
    let more : IsTaken marks log a.page 0 → IsTaken marks (p ∷ log) a.page 0 = λ t. elim t [ inl on ↦ inl on | inr at ↦ inr (at.0, inr at.1, at.2, at.3) ] in
    elim h [
      | inl here ↦ elim (cases_lt 0 a.index) [
        | inl some ↦ elim (cases_lt a.class 2) [
          | inl large ↦ (let one = large-count a.class large in absurd (omega arith))
          | inr small ↦ (
              let small' : 2 ≤ p.class = rw here small in
              let next : FillsNext marks log a = rw here at (fills.0 small') in
              more (next.lowest 0 some))
        ]
        | inr none ↦ inr (p, inl refl, ap (λ (x : Placing). x.page) here, (let i : p.index ≡ a.index = ap (λ (x : Placing). x.index) here in omega arith))
      ]
      | inr there ↦ more (first-taken marks log a fills.1 there below)
    ]
