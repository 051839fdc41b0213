-- Which lines without page caches may come next.
use Rattle.std.proofs.Common.{◌≡◌, ◌≢◌, ℕ, Bool, true, false, eqb, Option, Result, Ok, Err, ◌+◌, ◌-◌, ◌/◌, ◌%◌, ◌<◌, ◌≤◌, List, ◌∷◌, Some, None, refl, sym, ◌∙◌, ap, arith, subst, ◌⊎◌, inl, inr}
use Rattle.std.specs.Prelude.{MatchBool, IfSome, IfNone, IfOk, IfErr, is_some, is_err}
use Rattle.std.proofs.lemmas.Bool.{cases_lt, eqb-true, eq-eqb}
use Rattle.page_bitmap.specs.declared.line.Line.{Line}
use Rattle.page_bitmap.specs.declared.line.Line.TheVariants.{Take, Miss, Give, Scav}
use Rattle.page_alloc.specs.Lists.{In}
use Rattle.page_alloc.specs.Heap.{PageHeap, HasMoreRoom, AddsLine}
use Rattle.page_alloc.specs.Owners.{backed, owner}
use Rattle.page_alloc.specs.Lives.{Life, open_lives}
use Rattle.page_alloc.specs.FreeRuns.{IsFirstFit, IsScavengeRun, IsLoose, HasNoRun}
use Rattle.page_alloc.specs.Blocks.{AreOfCycle}
use Rattle.page_alloc.proofs.Lives.{covers-for, lies-for, same_page-for}
use Rattle.report_check.specs.ReplayedLines.{HasLine, IsLegal, MayCome}

-- ---- one place for each line

pub fit-one : (region : ℕ) (past : List Line) (a b n : ℕ) → IsFirstFit region past a n → IsFirstFit region past b n → a ≡ b
fit-one region past a b n fa fb =
    elim (cases_lt a b) [
      | inl lt ↦ absurd (fb.least a lt fa.here)
      | inr ge ↦ elim (cases_lt b a) [ inl lt ↦ absurd (fa.least b lt fb.here) | inr le ↦ omega arith ]
    ]

-- the end of a run is at most that of another
scav-end : (region : ℕ) (past : List Line) (p q n m : ℕ) → IsScavengeRun region past p n → IsScavengeRun region past q m → p + n ≤ q + m
scav-end region past p q n m a b =
    let some = a.some in
    let inside = a.inside in
    elim (cases_lt (q + m) (p + n)) [
      | inr le ↦ le
      | inl lt ↦ absurd (b.highest (p + n - 1) (omega arith) (omega arith) (a.loose (p + n - 1) (omega arith) (omega arith)))
    ]

-- the page below a run in its chunk isn't loose, where the run isn't of 64 pages
scav-long : (region : ℕ) (past : List Line) (p q n m : ℕ) → IsScavengeRun region past p n → IsScavengeRun region past q m → p + n ≡ q + m → ¬ (n < m)
scav-long region past p q n m a b ends lt =
    let few = b.few in
    let some = a.some in
    let here = a.chunk in
    let there = b.chunk in
    elim a.longest [
      | inl all ↦ absurd (omega arith)
      | inr rest ↦ elim rest [
        | inl low ↦ absurd (below q (p + n - 1) p (omega arith) (omega arith) low (let e : q + m - 1 ≡ p + n - 1 = omega arith in there ∙ ap (λ k. k / 512) e))
        | inr off ↦ off (b.loose (p - 1) (omega arith) (omega arith))
      ]
    ]
  where
    below : (q top p : ℕ) → q < p → p ≤ top → p % 512 ≡ 0 → q / 512 ≡ top / 512 → ⊥
    below q top p lt le low same = omega arith

pub scav-one : (region : ℕ) (past : List Line) (p q n m : ℕ) → IsScavengeRun region past p n → IsScavengeRun region past q m → (p ≡ q) × (n ≡ m)
scav-one region past p q n m a b =
    let ends : p + n ≡ q + m = (let x = scav-end region past p q n m a b in let y = scav-end region past q p m n b a in omega arith) in
    let one = scav-long region past p q n m a b ends in
    let two = scav-long region past q p m n b a (sym ends) in
    let e : n ≡ m = elim (cases_lt n m) [ inl lt ↦ absurd (one lt) | inr ge ↦ elim (cases_lt m n) [ inl lt ↦ absurd (two lt) | inr le ↦ omega arith ] ] in
    (omega arith, e)

-- ---- a test of equality

pub judged : (a b : ℕ) (P Q : Type 0) → (a ≡ b → P) → (a ≢ b → Q) → MatchBool (eqb a b) P Q
judged a b P Q here gone = by (eqb a b) (λ e. eqb-true a b e) (λ e same. (let t = eq-eqb a b same in let none : ⊥ = cc in none))
  where
    by : (test : Bool) → (test ≡ true → a ≡ b) → (test ≡ false → a ≢ b) → MatchBool test P Q
    by true to off = here (to refl)
    by false to off = gone (off refl)

-- ---- what the calls say

pub has-line : (old mid new : PageHeap) (line : Line) → HasMoreRoom old mid → AddsLine mid new line → HasLine old new line
has-line old mid new line more adds = record {
  region = adds.region ∙ more.region;
  goal = adds.goal ∙ more.goal;
  past = adds.past ∙ ap (λ (past : List Line). line ∷ past) more.past;
  legal = λ procs legal. adds.legal procs (rw (more.region, more.goal, more.past) legal);
}

pub blocks-more : (old mid : PageHeap) (cycle : ℕ) → AreOfCycle cycle old.past → HasMoreRoom old mid → AreOfCycle cycle mid.past
blocks-more old mid cycle blocks more = subst (AreOfCycle cycle) (sym more.past) blocks

pub takes-other : (old mid new : PageHeap) (cycle page first n class : ℕ) → HasMoreRoom old mid → AddsLine mid new (Take cycle first n class) → first ≢ page → ¬ MayCome old (Take cycle page n class)
takes-other old mid new cycle page first n class more adds other may =
    other (fit-one old.region old.past first page n (rw (more.region, more.past) at adds.may_follow.1) may.1)

pub take-missed : (old mid new : PageHeap) (cycle page n class : ℕ) → HasMoreRoom old mid → AddsLine mid new (Miss cycle n class) → ¬ MayCome old (Take cycle page n class)
take-missed old mid new cycle page n class more adds may =
    let none : HasNoRun old.region old.past n = rw (more.region, more.past) at adds.may_follow.1 in none page may.1.here

pub scav-other : (old mid new : PageHeap) (cycle page n p m : ℕ) → HasMoreRoom old mid → AddsLine mid new (Scav cycle p m) → ((p ≡ page) × (m ≡ n) → ⊥) → ¬ MayCome old (Scav cycle page n)
scav-other old mid new cycle page n p m more adds other may =
    let run : IsScavengeRun old.region old.past p m = rw (more.region, more.past) at adds.may_follow.1 in
    other (scav-one old.region old.past p page m n run may.1)

pub scav-none : (old : PageHeap) (cycle page n : ℕ) → (backed old.region old.past ≤ old.goal) ⊎ ((p : ℕ) → p < old.region → ¬ IsLoose old.past p) → ¬ MayCome old (Scav cycle page n)
scav-none old cycle page n done may =
    let run = may.1 in
    let some = run.some in
    let inside = run.inside in
    elim done [
      | inl few ↦ (let much = may.0 in absurd (omega arith))
      | inr off ↦ off page (omega arith) (run.loose page (omega arith) (omega arith))
    ]

pub scav-done : (old mid : PageHeap) (cycle page n : ℕ) → HasMoreRoom old mid → (backed mid.region mid.past ≤ mid.goal) ⊎ ((p : ℕ) → p < mid.region → ¬ IsLoose mid.past p) → ¬ MayCome old (Scav cycle page n)
scav-done old mid cycle page n more done = scav-none old cycle page n (rw (more.region, more.goal, more.past) at done)

pub some-run : {X : Type 0} (o : Option X) (P : X → Type 0) → is_some o ≡ true → IfSome o P → (x : X) × P x
some-run (Some x) P e h = (x, h)
some-run None P e h = (let none : ⊥ = cc in absurd none)

pub none-run : {X : Type 0} (o : Option X) (P : Type 0) → is_some o ≡ false → IfNone o P → P
none-run (Some x) P e h = (let none : ⊥ = cc in absurd none)
none-run None P e h = h

pub same-room : (h : PageHeap) → HasMoreRoom h h
same-room h = record { region = refl; goal = refl; past = refl; spare = omega arith }

pub take-test : (old mid new : PageHeap) (cycle page first n class : ℕ) → HasMoreRoom old mid → AddsLine mid new (Take cycle first n class)
    → MatchBool (eqb first page) (HasLine old new (Take cycle page n class)) (¬ MayCome old (Take cycle page n class))
take-test old mid new cycle page first n class more adds =
    judged first page (HasLine old new (Take cycle page n class)) (¬ MayCome old (Take cycle page n class))
    (λ e. subst (λ (p : ℕ). HasLine old new (Take cycle p n class)) e (has-line old mid new (Take cycle first n class) more adds))
    (λ ne. takes-other old mid new cycle page first n class more adds ne)

pub miss-test : {E : Type 0} (r : Result ℕ E) (old mid new : PageHeap) (cycle n class : ℕ) → HasMoreRoom old mid → IfOk r (λ page. AddsLine mid new (Take cycle page n class))
    → IfErr r (λ _. AddsLine mid new (Miss cycle n class)) → MatchBool (is_err r) (HasLine old new (Miss cycle n class)) (¬ MayCome old (Miss cycle n class))
miss-test (Ok page) old mid new cycle n class more taken missed = λ may. (let none = may.1 in none page (rw (more.region, more.past) at taken.may_follow.1).here)
miss-test (Err e) old mid new cycle n class more taken missed = has-line old mid new (Miss cycle n class) more missed

pub scav-test : (old mid new : PageHeap) (cycle page n p m : ℕ) → HasMoreRoom old mid → AddsLine mid new (Scav cycle p m) → p ≡ page
    → MatchBool (eqb m n) (HasLine old new (Scav cycle page n)) (¬ MayCome old (Scav cycle page n))
scav-test old mid new cycle page n p m more adds first =
    judged m n (HasLine old new (Scav cycle page n)) (¬ MayCome old (Scav cycle page n))
    (λ e. subst (λ (k : ℕ). HasLine old new (Scav cycle page k)) e (subst (λ (q : ℕ). HasLine old new (Scav cycle q m)) first (has-line old mid new (Scav cycle p m) more adds)))
    (λ ne. scav-other old mid new cycle page n p m more adds (λ both. ne both.1))

-- no span begins where no page is its own
pub give-none : (old : PageHeap) (cycle page n : ℕ) → IsLegal old → (owner old.past page ≢ Some page) → ¬ MayCome old (Give cycle page n)
give-none old cycle page n legal off may =
    let size = lies-for legal.0 old.region old.goal old.past may.0 legal.1 may.1 in
    let e = may.2 in
    off (covers-for legal.0 old.region old.goal old.past may.0 page legal.1 may.1 (omega arith) (omega arith) ∙ ap Some e)

pub give-beyond : (old : PageHeap) (cycle page n : ℕ) → IsLegal old → old.region ≤ page → ¬ MayCome old (Give cycle page n)
give-beyond old cycle page n legal beyond may =
    let size = lies-for legal.0 old.region old.goal old.past may.0 legal.1 may.1 in
    let e = may.2 in
    absurd (omega arith)

give-other : (old : PageHeap) (cycle page n : ℕ) (life : Life) → IsLegal old → In life (open_lives old.past) → life.page ≡ page → life.pages ≢ n → ¬ MayCome old (Give cycle page n)
give-other old cycle page n life legal there at other may =
    let same : life ≡ may.0 = same_page-for legal.0 old.region old.goal old.past life may.0 legal.1 there may.1 (at ∙ sym may.2) in
    other (ap (λ (x : Life). x.pages) same ∙ may.3)

pub give-test : (b : Bool) (old new : PageHeap) (life : Life) (cycle page n : ℕ) → IsLegal old → HasMoreRoom old old → In life (open_lives old.past) → life.page ≡ page
    → AddsLine old new (Give cycle page life.pages) → MatchBool b (life.pages ≡ n) (life.pages ≢ n) → MatchBool b (HasLine old new (Give cycle page n)) (¬ MayCome old (Give cycle page n))
give-test true old new life cycle page n legal same there at adds e = subst (λ (k : ℕ). HasLine old new (Give cycle page k)) e (has-line old old new (Give cycle page life.pages) same adds)
give-test false old new life cycle page n legal same there at adds ne = give-other old cycle page n life legal there at ne

-- ---- what an answer tells

pub match-false : (b : Bool) (P Q : Type 0) → b ≡ false → MatchBool b P Q → Q
match-false true P Q e h = (let none : ⊥ = cc in absurd none)
match-false false P Q e h = h

pub match-true : (b : Bool) (P Q : Type 0) → b ≡ true → MatchBool b P Q → P
match-true true P Q e h = h
match-true false P Q e h = (let none : ⊥ = cc in absurd none)
