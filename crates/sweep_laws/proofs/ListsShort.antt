-- In a state that is tidy and has the rule, a list that leaves out what a move puts into it is shorter than the room.
use Rattle.std.proofs.Common.{◌≡◌, ℕ, ◌<◌, ◌≤◌, Bool, true, false, true≢false, not, cond, List, [], ◌∷◌, map, length, sym, refl, ap, ◌∙◌, arith, eq-eqb, ne_eqb}
use Rattle.std.specs.Prelude.{Some}
use Rattle.std.specs.List.{AllByRecursion, find}
use Rattle.std.proofs.lemmas.List.{length-map}
use mathlib.Core.Logic.{dite}
use mathlib.Core.Option.{some}
use lib.ListN.{get_elem?}
use native.Mathlib.Decide.{ℕ_discrete, dec_le}
use Rattle.sweep_laws.specs.State.{LifeState, HandState, CoreState}
use Rattle.sweep_laws.specs.Lists.{has}
use Rattle.sweep_laws.specs.Reading.{no_life, life_in}
use Rattle.sweep_laws.specs.Counts.{one_if, times}
use Rattle.sweep_laws.specs.Named.{sweepers, holders, cachers, poppers, swept_by, covers}
use Rattle.sweep_laws.specs.OwnedLives.{ObjectsFit}
use Rattle.sweep_laws.specs.Standing.{Tally, tally, CoreKept}
use Rattle.sweep_laws.specs.Tidy.{IsTidyLife, IsTidy}
use Rattle.sweep_laws.proofs.Totals.{other_one}
use Rattle.sweep_laws.proofs.Naming.{times_has}
use Rattle.sweep_laws.proofs.NeedsMet.{some_none}
use Rattle.sweep_laws.proofs.LivesChange.{is_in}
use Rattle.sweep_laws.proofs.Standings.{lists_once}
use Rattle.sweep_laws.proofs.Deltas.{parts}
use Rattle.sweep_laws.proofs.Counted.{short, shorter}

-- what stands of a page
abbrev pub page_of : CoreState → ℕ → Tally
page_of c p = tally c.generation c.words c.lives c.sets c.hands p

module _ (c : CoreState) (k : CoreKept c) (t : IsTidy c) (w : ℕ) (h : HandState) (at : get_elem? c.hands w ≡ some h) (page : ℕ) (low : page < length c.words) where
  pub sweeping_short : sweepers page c.hands ≡ 0 → length h.sweeping < length c.words
  sweeping_short none = shorter h.sweeping (length c.words)
      (λ p l. let a = (parts c.hands w h at p).sweeping in let b = (lists_once c.generation (page_of c p) (k.page p l)).0 in omega arith)
      (λ p far. (t.hands w h at p far).sweeping) page low (let a = (parts c.hands w h at page).sweeping in omega arith)

  pub held_short : holders page c.hands ≡ 0 → length h.held < length c.words
  held_short none = shorter h.held (length c.words)
      (λ p l. let a = (parts c.hands w h at p).held in let b = (lists_once c.generation (page_of c p) (k.page p l)).1 in omega arith)
      (λ p far. (t.hands w h at p far).held) page low (let a = (parts c.hands w h at page).held in omega arith)

  pub cached_short : cachers page c.hands ≡ 0 → length h.cached < length c.words
  cached_short none = shorter h.cached (length c.words)
      (λ p l. let a = (parts c.hands w h at p).cached in let b = (lists_once c.generation (page_of c p) (k.page p l)).2 in omega arith)
      (λ p far. (t.hands w h at p far).cached) page low (let a = (parts c.hands w h at page).cached in omega arith)

  pub popped_short : poppers page c.hands ≡ 0 → length h.popped < length c.words
  popped_short none = shorter h.popped (length c.words)
      (λ p l. let a = (parts c.hands w h at p).popped in let b = (k.page p l).waiting in omega arith)
      (λ p far. (t.hands w h at p far).popped) page low (let a = (parts c.hands w h at page).popped in omega arith)

  pub swept_short : swept_by page c.hands ≡ 0 → length h.swept < length c.words
  swept_short none = shorter h.swept (length c.words)
      (λ p l. let a = (parts c.hands w h at p).swept in let b = (k.page p l).listed in omega arith)
      (λ p far. (t.hands w h at p far).swept) page low (let a = (parts c.hands w h at page).swept in omega arith)

-- the first pages of lives
abbrev firsts : List LifeState → List ℕ
firsts lives = map (λ (l : LifeState). l.page) lives

first_covered : (p : ℕ) (ls : List LifeState) → AllByRecursion (λ l. 1 ≤ l.pages) ls → times p (firsts ls) ≤ covers p ls
first_covered p [] w = omega arith
first_covered p (l ∷ ls) w = let t = first_covered p ls w.1 in dite (ℕ_discrete l.page p)
    (λ e. let a = ap one_if (eq-eqb l.page p e) in let b = ap one_if (is_in p l (omega arith) (let x = w.0 in omega arith)) in omega arith)
    (λ d. let o = other_one l.page p d in omega arith)

first_inside : (n : ℕ) (ls : List LifeState) → AllByRecursion (IsTidyLife n) ls → (p : ℕ) → n ≤ p → times p (firsts ls) ≡ 0
first_inside n [] a p far = refl
first_inside n (l ∷ ls) a p far = let t = first_inside n ls a.1 p far in let x = a.0.page in let o = other_one l.page p (λ e. omega arith) in omega arith

-- there are fewer lives than pages where no life covers some page
pub lives_short : (c : CoreState) → CoreKept c → IsTidy c → (page : ℕ) → page < length c.words → covers page c.lives ≡ 0 → length c.lives < length c.words
lives_short c k t page low none = let s = shorter (firsts c.lives) (length c.words)
    (λ p l. let a = first_covered p c.lives k.lives_fit.whole in let b = k.lives_fit.apart p in omega arith)
    (first_inside (length c.words) c.lives t.lives) page low (let a = first_covered page c.lives k.lives_fit.whole in omega arith) in
    let e = length-map c.lives (λ (l : LifeState). l.page) in omega arith

-- what holds of each life and of no life holds of the one that begins at a page
in_all : (P : LifeState → Type 0) → P no_life → (p : ℕ) (ls : List LifeState) → AllByRecursion P ls → P (life_in p ls)
in_all P none p [] a = none
in_all P none p (l ∷ ls) a = dite (ℕ_discrete l.page p)
    (λ s. rw (eq-eqb l.page p s) a.0)
    (λ d. rw (ne_eqb l.page p d) (in_all P none p ls a.1))

-- what two facts of each life say together
both_all : (P Q R : LifeState → Type 0) → ((l : LifeState) → P l → Q l → R l) → (ls : List LifeState) → AllByRecursion P ls → AllByRecursion Q ls → AllByRecursion R ls
both_all P Q R f [] a b = tt
both_all P Q R f (l ∷ ls) a b = (f l a.0 b.0, both_all P Q R f ls a.1 b.1)

-- a number that each of a list's numbers is below
below_all : (xs : List ℕ) (n : ℕ) → ((i : ℕ) → 0 < times i xs → i < n) → (i : ℕ) → n ≤ i → times i xs ≡ 0
below_all xs n h i far = dite (dec_le 1 (times i xs)) (λ s. let l = h i (omega arith) in absurd (omega arith)) (λ s. omega arith)

abbrev KeptShort : LifeState → Type 0
KeptShort l = length l.kept ≤ l.count

abbrev AllocatedShort : LifeState → Type 0
AllocatedShort l = (i : ℕ) → i < l.count → times i l.allocated ≡ 0 → length l.allocated < l.count

module _ (c : CoreState) (k : CoreKept c) (t : IsTidy c) (page : ℕ) where
  pub kept_short : length (life_in page c.lives).kept ≤ (life_in page c.lives).count
  kept_short = in_all KeptShort (omega arith) page c.lives (both_all ObjectsFit (IsTidyLife (length c.words)) KeptShort
      (λ l f y. short l.kept l.count (λ i _. y.kept i) (below_all l.kept l.count (λ i s. f.allocated i (f.kept i s)))) c.lives k.objects t.lives)

  pub allocated_short : (i : ℕ) → i < (life_in page c.lives).count → times i (life_in page c.lives).allocated ≡ 0 → length (life_in page c.lives).allocated < (life_in page c.lives).count
  allocated_short = in_all AllocatedShort (λ i low z. absurd (omega arith)) page c.lives (both_all ObjectsFit (IsTidyLife (length c.words)) AllocatedShort
      (λ l f y i low out. shorter l.allocated l.count (λ j _. y.allocated j) (below_all l.allocated l.count f.allocated) i low out) c.lives k.objects t.lives)

-- the marks of a life that name allocated indices, and none twice, are no more than its objects
pub marks_short : (l : LifeState) (xs : List ℕ) → ObjectsFit l → ((i : ℕ) → times i xs ≤ 1) → ((i : ℕ) → 0 < times i xs → 0 < times i l.allocated) → length xs ≤ l.count
marks_short l xs f once in_life = short xs l.count (λ i _. once i) (below_all xs l.count (λ i s. f.allocated i (in_life i s)))

-- an index that is found free is not listed
passes : (test : ℕ → Bool) (xs : List ℕ) (i : ℕ) → find test xs ≡ Some i → test i ≡ true
passes test [] i e = absurd (some_none i (sym e))
passes test (x ∷ xs) i e = go (test x) refl (passes test xs i) e
  where
    same : (x y : ℕ) → Some x ≡ Some y → x ≡ y
    same x y s = cc

    go : (b : Bool) → test x ≡ b → (find test xs ≡ Some i → test i ≡ true) → cond b (Some x) (find test xs) ≡ Some i → test i ≡ true
    go true s rest f = ap test (sym (same x i f)) ∙ s
    go false s rest f = rest f

pub free_unlisted : (xs ys : List ℕ) (i : ℕ) → find (λ j. not (has j xs)) ys ≡ Some i → times i xs ≡ 0
free_unlisted xs ys i e = dite (dec_le 1 (times i xs))
    (λ h. absurd (true≢false (sym (passes (λ j. not (has j xs)) ys i e) ∙ ap not (times_has i xs (omega arith)))))
    (λ h. omega arith)
