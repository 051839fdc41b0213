-- What is counted of the objects that live, mark end by mark end.
use Rattle.std.proofs.Common.{◌≡◌, ◌≢◌, ℕ, zero, suc, ◌+◌, ◌-◌, ◌<◌, ◌≤◌, Bool, true, false, ◌&&◌, not, eqb, leb, List, [], ◌∷◌, ◌++◌, reverse, take, set, length, get_or, Some, refl, sym, ◌∙◌, ap, subst, arith, inl, inr}
use Rattle.std.specs.List.{slice_get}
use Rattle.std.proofs.lemmas.Bool.{cases_eq, le-leb, lt-leb, eq-eqb, ne_eqb}
use Rattle.std.proofs.lemmas.List.{take_more, take_all, reverse-append, length-reverse, length-take-le, get_or-set_same, get_or-set_other, length-set}
use Rattle.std.proofs.lemmas.Option.{slice_get_within, get_or_from_slice_get, slice_get-get_or}
use Rattle.page_alloc.specs.Lists.{In, count, one_if}
use Rattle.cycle_history.specs.Objects.{Object, freed, is_placed, kept}
use Rattle.report_check.specs.declared.items.Item.{Item}
use Rattle.report_check.specs.declared.ledger.Alive.{Alive}
use Rattle.report_check.specs.declared.ledger.Tally.{Tally}
use Rattle.report_check.specs.Items.{object_of, objects_from, objects_of}
use Rattle.report_check.specs.Lasts.{last_at}
use Rattle.report_check.specs.Tallies.{AreBefore, AreTallied, alive_of, freed_in, is_freed, is_kept, kept_in, tally_at}
use Rattle.report_check.specs.Ledgers.{AddsItems, AreUsed, AscendTo, added, used_at}
use Rattle.report_check.proofs.Numbered.{item-of}

off-on : (b : Bool) → b ≡ false → b ≡ true → ⊥
off-on b off on = cc

pub bool-same : (a b : Bool) → (a ≡ true → b ≡ true) → (b ≡ true → a ≡ true) → a ≡ b
bool-same true b to from = sym (to refl)
bool-same false true to from = from refl
bool-same false false to from = refl

-- ---- counts

pub count-snoc : {X : Type 0} (test : X → Bool) (xs : List X) (x : X) → count test (xs ++ x ∷ []) ≡ one_if (test x) + count test xs
count-snoc test [] x = refl
count-snoc test (y ∷ xs) x = (let e = count-snoc test xs x in omega arith)

pub count-same : {X : Type 0} (p q : X → Bool) (xs : List X) → ((x : X) → In x xs → p x ≡ q x) → count p xs ≡ count q xs
count-same p q [] same = refl
count-same p q (x ∷ xs) same = (let e = ap one_if (same x (inl refl)) in let r = count-same p q xs (λ y i. same y (inr i)) in omega arith)

one-few : (b : Bool) → one_if b ≤ 1
one-few true = omega arith
one-few false = omega arith

pub count-few : {X : Type 0} (test : X → Bool) (xs : List X) → count test xs ≤ length xs
count-few test [] = omega arith
count-few test (x ∷ xs) = (let a = one-few (test x) in let b = count-few test xs in omega arith)

pub count-none : {X : Type 0} (test : X → Bool) (xs : List X) → ((x : X) → In x xs → test x ≡ false) → count test xs ≡ 0
count-none test [] none = refl
count-none test (x ∷ xs) none = (let e = ap one_if (none x (inl refl)) in let r = count-none test xs (λ y i. none y (inr i)) in omega arith)

-- ---- the objects of the first items

get-take : {X : Type 0} (xs : List X) (n k : ℕ) (x : X) → slice_get (take n xs) k ≡ Some x → (k < n) × (slice_get xs k ≡ Some x)
get-take [] zero k x at = cc
get-take [] (suc n) k x at = cc
get-take (y ∷ xs) zero k x at = cc
get-take (y ∷ xs) (suc n) zero x at = (omega arith, at)
get-take (y ∷ xs) (suc n) (suc k) x at = (let r = get-take xs n k x at in let lt = r.0 in (omega arith, r.1))

-- an object of the first items
pub record IsFront (items : List Item) (n : ℕ) (o : Object) : Type 0 where
  pub number : ℕ
  pub item : Item
  pub before : number < n
  pub at : slice_get items number ≡ Some item
  pub is : o ≡ object_of number item

pub front-of : (items : List Item) (n : ℕ) (o : Object) → In o (objects_of (take n items)) → IsFront items n o
front-of items n o among =
    let x = item-of (take n items) o among in
    let r = get-take items n x.number x.item x.at in
    record { number = x.number; item = x.item; before = r.0; at = r.1; is = x.is }

pub front-more : (items : List Item) (n : ℕ) (item : Item) → slice_get items n ≡ Some item → objects_of (take (n + 1) items) ≡ object_of n item ∷ objects_of (take n items)
front-more items n item at =
    let lt = slice_get_within items n item at in
    let e : get_or items n item ≡ item = get_or_from_slice_get items n item item at in
    let more : take (n + 1) items ≡ take n items ++ item ∷ [] = take_more items n item lt ∙ ap (λ (x : Item). take n items ++ x ∷ []) e in
    let turned : reverse (take (n + 1) items) ≡ item ∷ reverse (take n items) = ap (λ (xs : List Item). reverse xs) more ∙ reverse-append (take n items) (item ∷ []) in
    let long : length (reverse (take n items)) ≡ n = length-reverse (take n items) ∙ length-take-le n items (omega arith) in
    ap (λ (xs : List Item). objects_from xs) turned ∙ ap (λ (k : ℕ). object_of k item ∷ objects_of (take n items)) long

-- the objects behind the first ones pass no test
pub count-front : (test : Object → Bool) (items : List Item) (n k : ℕ) → n + k ≤ length items → ((i : ℕ) (item : Item) → n ≤ i → slice_get items i ≡ Some item → test (object_of i item) ≡ false)
    → count test (objects_of (take (n + k) items)) ≡ count test (objects_of (take n items))
count-front test items n zero le off = (let e : n + 0 ≡ n = omega arith in ap (λ (m : ℕ). count test (objects_of (take m items))) e)
count-front test items n (suc k) le off =
    let d = get_or items (n + k) none in
    let at : slice_get items (n + k) ≡ Some d = slice_get-get_or items (n + k) none (omega arith) in
    let e : n + suc k ≡ (n + k) + 1 = omega arith in
    let more : count test (objects_of (take (n + suc k) items)) ≡ one_if (test (object_of (n + k) d)) + count test (objects_of (take (n + k) items)) =
    ap (λ (m : ℕ). count test (objects_of (take m items))) e ∙ ap (λ (os : List Object). count test os) (front-more items (n + k) d at) in
    let o = ap one_if (off (n + k) d (omega arith) at) in
    let rest = count-front test items n k (omega arith) off in
    omega arith
  where
    none : Item
    none = record { proc = 0; cycle = 0; class = 0; pages = 0; slot = 0; count = 0; answer = Rattle.cycle_history.specs.declared.Answer.TheVariants.Zero; life = 0; index = 0 }

pub count-all : (test : Object → Bool) (items : List Item) (n : ℕ) → n ≤ length items → ((i : ℕ) (item : Item) → n ≤ i → slice_get items i ≡ Some item → test (object_of i item) ≡ false)
    → count test (objects_of items) ≡ count test (objects_of (take n items))
count-all test items n le off =
    let k = length items - n in
    let e : n + k ≡ length items = omega arith in
    let whole : take (n + k) items ≡ items = take_all (n + k) items (omega arith) in
    ap (λ (xs : List Item). count test (objects_of xs)) (sym whole) ∙ count-front test items n k (omega arith) off

-- ---- the list of those that live

pub survivors-more : (test : Alive → Bool) (cycle k : ℕ) (d : Alive) (alive kept : List Alive) → k < length alive → cycle ≤ (get_or alive k d).last → count test kept ≡ count (λ (a : Alive). leb cycle a.last && test a) (take k alive)
    → count test (kept ++ get_or alive k d ∷ []) ≡ count (λ (a : Alive). leb cycle a.last && test a) (take (k + 1) alive)
survivors-more test cycle k d alive kept lt le are =
    let a = get_or alive k d in
    let on : (leb cycle a.last && test a) ≡ test a = (let e = le-leb cycle a.last le in rw e refl) in
    let more = ap (λ (xs : List Alive). count (λ (x : Alive). leb cycle x.last && test x) xs) (take_more alive k d lt) in
    let s = count-snoc (λ (x : Alive). leb cycle x.last && test x) (take k alive) a in
    let t = count-snoc test kept a in
    let o = ap one_if on in
    omega arith

pub survivors-other : (test : Alive → Bool) (cycle k : ℕ) (d : Alive) (alive kept : List Alive) → k < length alive → (get_or alive k d).last < cycle → count test kept ≡ count (λ (a : Alive). leb cycle a.last && test a) (take k alive)
    → count test kept ≡ count (λ (a : Alive). leb cycle a.last && test a) (take (k + 1) alive)
survivors-other test cycle k d alive kept lt gt are =
    let a = get_or alive k d in
    let off : (leb cycle a.last && test a) ≡ false = (let e = lt-leb cycle a.last gt in rw e refl) in
    let more = ap (λ (xs : List Alive). count (λ (x : Alive). leb cycle x.last && test x) xs) (take_more alive k d lt) in
    let s = count-snoc (λ (x : Alive). leb cycle x.last && test x) (take k alive) a in
    let o = ap one_if off in
    omega arith

-- ---- tallies

pub tallied-none : (cycle : ℕ) (alive : List Alive) (tallies : List Tally) → AreBefore cycle tallies → AreTallied cycle (take 0 alive) tallies
tallied-none cycle alive tallies before = record {
  kept = λ life lt. (let off = ne_eqb (tally_at tallies life).cycle cycle (λ e. (let b = before life in omega arith)) in rw off refl);
  freed = λ life lt. (let off = ne_eqb (tally_at tallies life).cycle cycle (λ e. (let b = before life in omega arith)) in rw off refl);
  newest = λ life. (let b = before life in omega arith);
}

-- one object more of one life
more-here : (cycle life k : ℕ) (d : Alive) (alive : List Alive) → k < length alive → (get_or alive k d).life ≡ life
    → (count (is_kept cycle life) (take (k + 1) alive) ≡ one_if (leb cycle (get_or alive k d).last) + count (is_kept cycle life) (take k alive))
    × (count (is_freed cycle life) (take (k + 1) alive) ≡ one_if (not (leb cycle (get_or alive k d).last)) + count (is_freed cycle life) (take k alive))
more-here cycle life k d alive lt e =
    let a = get_or alive k d in
    let on : eqb a.life life ≡ true = eq-eqb a.life life e in
    let p : is_kept cycle life a ≡ leb cycle a.last = rw on refl in
    let q : is_freed cycle life a ≡ not (leb cycle a.last) = rw on refl in
    let more = ap (λ (xs : List Alive). count (is_kept cycle life) xs) (take_more alive k d lt) in
    let more' = ap (λ (xs : List Alive). count (is_freed cycle life) xs) (take_more alive k d lt) in
    let s = count-snoc (is_kept cycle life) (take k alive) a in
    let s' = count-snoc (is_freed cycle life) (take k alive) a in
    let o = ap one_if p in
    let o' = ap one_if q in
    (omega arith, omega arith)

more-other : (cycle life k : ℕ) (d : Alive) (alive : List Alive) → k < length alive → (get_or alive k d).life ≢ life
    → (count (is_kept cycle life) (take (k + 1) alive) ≡ count (is_kept cycle life) (take k alive)) × (count (is_freed cycle life) (take (k + 1) alive) ≡ count (is_freed cycle life) (take k alive))
more-other cycle life k d alive lt ne =
    let a = get_or alive k d in
    let off : eqb a.life life ≡ false = ne_eqb a.life life ne in
    let p : is_kept cycle life a ≡ false = rw off refl in
    let q : is_freed cycle life a ≡ false = rw off refl in
    let more = ap (λ (xs : List Alive). count (is_kept cycle life) xs) (take_more alive k d lt) in
    let more' = ap (λ (xs : List Alive). count (is_freed cycle life) xs) (take_more alive k d lt) in
    let s = count-snoc (is_kept cycle life) (take k alive) a in
    let s' = count-snoc (is_freed cycle life) (take k alive) a in
    let o = ap one_if p in
    let o' = ap one_if q in
    (omega arith, omega arith)

kept-now : (tally : Tally) (cycle : ℕ) → tally.cycle ≡ cycle → (kept_in tally cycle ≡ tally.kept) × (freed_in tally cycle ≡ tally.freed)
kept-now tally cycle e = (let on = eq-eqb tally.cycle cycle e in (rw on refl, rw on refl))

pub tallied-more : (cycle k : ℕ) (d : Alive) (alive : List Alive) (old : List Tally) (tally : Tally) → k < length alive → (get_or alive k d).life < length old → tally.cycle ≡ cycle
    → tally.kept ≡ one_if (leb cycle (get_or alive k d).last) + kept_in (tally_at old (get_or alive k d).life) cycle → tally.freed ≡ one_if (not (leb cycle (get_or alive k d).last)) + freed_in (tally_at old (get_or alive k d).life) cycle
    → AreTallied cycle (take k alive) old → AreTallied cycle (take (k + 1) alive) (set old (get_or alive k d).life tally)
tallied-more cycle k d alive old tally lt inside now kept freed are = record {
  kept = λ life less. elim (cases_eq life a.life) [
    | inl same ↦ (
        let h = more-here cycle life k d alive lt (sym same) in
        let e : tally_at (set old a.life tally) life ≡ tally = subst (λ (n : ℕ). tally_at (set old a.life tally) n ≡ tally) (sym same) (get_or-set_same old a.life tally zero-tally inside) in
        let was = are.kept a.life inside in
        let n = (kept-now tally cycle now).0 in
        let f = ap (λ (t : Tally). kept_in t cycle) e in
        let g = ap (λ (n : ℕ). count (is_kept cycle n) (take k alive)) same in
        let p = h.0 in
        omega arith)
    | inr other ↦ (
        let h = more-other cycle life k d alive lt (λ e. other (sym e)) in
        let e : tally_at (set old a.life tally) life ≡ tally_at old life = get_or-set_other old a.life life tally zero-tally other in
        let was = are.kept life (let s = length-set old a.life tally in omega arith) in
        let f = ap (λ (t : Tally). kept_in t cycle) e in
        let p = h.0 in
        omega arith)
  ];
  freed = λ life less. elim (cases_eq life a.life) [
    | inl same ↦ (
        let h = more-here cycle life k d alive lt (sym same) in
        let e : tally_at (set old a.life tally) life ≡ tally = subst (λ (n : ℕ). tally_at (set old a.life tally) n ≡ tally) (sym same) (get_or-set_same old a.life tally zero-tally inside) in
        let was = are.freed a.life inside in
        let n = (kept-now tally cycle now).1 in
        let f = ap (λ (t : Tally). freed_in t cycle) e in
        let g = ap (λ (n : ℕ). count (is_freed cycle n) (take k alive)) same in
        let p = h.1 in
        omega arith)
    | inr other ↦ (
        let h = more-other cycle life k d alive lt (λ e. other (sym e)) in
        let e : tally_at (set old a.life tally) life ≡ tally_at old life = get_or-set_other old a.life life tally zero-tally other in
        let was = are.freed life (let s = length-set old a.life tally in omega arith) in
        let f = ap (λ (t : Tally). freed_in t cycle) e in
        let p = h.1 in
        omega arith)
  ];
  newest = λ life. elim (cases_eq life a.life) [
    | inl same ↦ (
        let e : tally_at (set old a.life tally) life ≡ tally = subst (λ (n : ℕ). tally_at (set old a.life tally) n ≡ tally) (sym same) (get_or-set_same old a.life tally zero-tally inside) in
        let f = ap (λ (t : Tally). t.cycle) e in
        omega arith)
    | inr other ↦ (
        let e : tally_at (set old a.life tally) life ≡ tally_at old life = get_or-set_other old a.life life tally zero-tally other in
        let f = ap (λ (t : Tally). t.cycle) e in
        let was = are.newest life in
        omega arith)
  ];
}
  where
    a : Alive
    a = get_or alive k d

    zero-tally : Tally
    zero-tally = record { cycle = 0; kept = 0; freed = 0 }

pub tallied-other : (cycle k : ℕ) (d : Alive) (alive : List Alive) (tallies : List Tally) → k < length alive → length tallies ≤ (get_or alive k d).life → AreTallied cycle (take k alive) tallies → AreTallied cycle (take (k + 1) alive) tallies
tallied-other cycle k d alive tallies lt out are = record {
  kept = λ life less. (let h = more-other cycle life k d alive lt (λ e. omega arith) in let was = are.kept life less in let p = h.0 in omega arith);
  freed = λ life less. (let h = more-other cycle life k d alive lt (λ e. omega arith) in let was = are.freed life less in let p = h.1 in omega arith);
  newest = are.newest;
}

pub tallied-room : (cycle k life : ℕ) (alive : List Alive) (tallies : List Tally) → k < length alive → life < length tallies → AreTallied cycle (take k alive) tallies
    → (kept_in (tally_at tallies life) cycle ≤ k) × (freed_in (tally_at tallies life) cycle ≤ k)
tallied-room cycle k life alive tallies lt inside are =
    let a = are.kept life inside in
    let b = are.freed life inside in
    let long = length-take-le k alive (omega arith) in
    let p = count-few (is_kept cycle life) (take k alive) in
    let q = count-few (is_freed cycle life) (take k alive) in
    (omega arith, omega arith)

-- ---- items that come

added-none : (items : List Item) (lasts : List ℕ) (m : ℕ) (test : Alive → Bool) → added items lasts m m test ≡ 0
added-none items lasts m test = count-none (λ (o : Object). leb m o.id && (is_placed o.answer && test (alive_of lasts o))) (objects_of (take m items))
    (λ o among. (
    let f = front-of items m o among in
    let id : o.id ≡ f.number = ap (λ (x : Object). x.id) f.is in
    let lt = f.before in
    let off = lt-leb m o.id (omega arith) in
    rw off refl))

added-more : (items : List Item) (lasts : List ℕ) (m n : ℕ) (item : Item) (test : Alive → Bool) → m ≤ n → slice_get items n ≡ Some item
    → added items lasts m (n + 1) test ≡ one_if (is_placed item.answer && test (alive_of lasts (object_of n item))) + added items lasts m n test
added-more items lasts m n item test le at =
    let p = λ (o : Object). leb m o.id && (is_placed o.answer && test (alive_of lasts o)) in
    let more = ap (λ (os : List Object). count p os) (front-more items n item at) in
    let on : p (object_of n item) ≡ (is_placed item.answer && test (alive_of lasts (object_of n item))) = (let e = le-leb m n le in rw e refl) in
    let o = ap one_if on in
    omega arith

pub adds-none : (items : List Item) (lasts : List ℕ) (m : ℕ) (alive : List Alive) (used : List ℕ) → AddsItems items lasts m m alive alive used used
adds-none items lasts m alive used = record {
  counts = λ test. (let z = added-none items lasts m test in omega arith);
  size = refl;
  uses = λ are le ascend. are;
}

ascend-less : (items : List Item) (n : ℕ) → AscendTo items (n + 1) → AscendTo items n
ascend-less items n ascend i j a b le lt ia jb = ascend i j a b le (omega arith) ia jb

some-same : {x y : Item} → Some x ≡ Some y → x ≡ y
some-same h = cc

-- a placed item comes, and its life is used
uses-here : (items : List Item) (n : ℕ) (item : Item) (used : List ℕ) → slice_get items n ≡ Some item → is_placed item.answer ≡ true → item.life < length used → AscendTo items (n + 1) → AreUsed items n used → AreUsed items (n + 1) (set used item.life item.cycle)
uses-here items n item used at placed inside ascend are = record {
  some = λ life some. elim (cases_eq life item.life) [
    | inl same ↦ (
        let e : used_at (set used item.life item.cycle) life ≡ item.cycle = subst (λ (k : ℕ). used_at (set used item.life item.cycle) k ≡ item.cycle) (sym same) (get_or-set_same used item.life item.cycle 0 inside) in
        (n, item, omega arith, at, placed, sym same, sym e))
    | inr other ↦ (
        let e = get_or-set_other used item.life life item.cycle 0 other in
        let s = are.some life (omega arith) in
        let lt = s.2 in
        (s.0, s.1, omega arith, s.3, s.4, s.5, s.6 ∙ sym e))
  ];
  each = λ i a lt ia pa room. elim (cases_eq i n) [
    | inl same ↦ (
        let e : a ≡ item = some-same (sym (subst (λ (k : ℕ). slice_get items k ≡ Some a) same ia) ∙ at) in
        let life = ap (λ (x : Item). x.life) e in
        let cycle = ap (λ (x : Item). x.cycle) e in
        let g : used_at (set used item.life item.cycle) a.life ≡ item.cycle = subst (λ (k : ℕ). used_at (set used item.life item.cycle) k ≡ item.cycle) (sym life) (get_or-set_same used item.life item.cycle 0 inside) in
        omega arith)
    | inr before ↦ elim (cases_eq a.life item.life) [
      | inl life ↦ (
          let order = ascend i n a item (omega arith) (omega arith) ia at in
          let g : used_at (set used item.life item.cycle) a.life ≡ item.cycle = subst (λ (k : ℕ). used_at (set used item.life item.cycle) k ≡ item.cycle) (sym life) (get_or-set_same used item.life item.cycle 0 inside) in
          omega arith)
      | inr other ↦ (
          let e = get_or-set_other used item.life a.life item.cycle 0 other in
          let was = are.each i a (omega arith) ia pa (let s = length-set used item.life item.cycle in omega arith) in
          omega arith)
    ]
  ];
}

-- an item comes that uses no life
uses-other : (items : List Item) (n : ℕ) (item : Item) (used : List ℕ) → slice_get items n ≡ Some item → (is_placed item.answer ≡ true → length used ≤ item.life) → AreUsed items n used → AreUsed items (n + 1) used
uses-other items n item used at out are = record {
  some = λ life some. (let s = are.some life some in let lt = s.2 in (s.0, s.1, omega arith, s.3, s.4, s.5, s.6));
  each = λ i a lt ia pa room. elim (cases_eq i n) [
    | inl same ↦ (
        let e : a ≡ item = some-same (sym (subst (λ (k : ℕ). slice_get items k ≡ Some a) same ia) ∙ at) in
        let o = out (ap (λ (x : Item). is_placed x.answer) (sym e) ∙ pa) in
        let life = ap (λ (x : Item). x.life) e in
        absurd (omega arith))
    | inr before ↦ are.each i a (omega arith) ia pa room
  ];
}

pub adds-placed : (items : List Item) (lasts : List ℕ) (m n : ℕ) (item : Item) (old alive : List Alive) (before used : List ℕ) → m ≤ n → slice_get items n ≡ Some item → is_placed item.answer ≡ true → item.life < length used
    → AddsItems items lasts m n old alive before used → AddsItems items lasts m (n + 1) old (alive ++ record { life = item.life; last = last_at lasts n } ∷ []) before (set used item.life item.cycle)
adds-placed items lasts m n item old alive before used le at placed inside are = record {
  counts = λ test. (
      let s = count-snoc test alive (record { life = item.life; last = last_at lasts n }) in
      let m' = added-more items lasts m n item test le at in
      let on : (is_placed item.answer && test (alive_of lasts (object_of n item))) ≡ test (alive_of lasts (object_of n item)) = rw placed refl in
      let o = ap one_if on in
      let was = are.counts test in
      omega arith);
  size = length-set used item.life item.cycle ∙ are.size;
  uses = λ us order ascend. uses-here items n item used at placed inside ascend (are.uses us le (ascend-less items n ascend));
}

pub adds-outside : (items : List Item) (lasts : List ℕ) (m n : ℕ) (item : Item) (old alive : List Alive) (before used : List ℕ) → m ≤ n → slice_get items n ≡ Some item → is_placed item.answer ≡ true → length used ≤ item.life
    → AddsItems items lasts m n old alive before used → AddsItems items lasts m (n + 1) old (alive ++ record { life = item.life; last = last_at lasts n } ∷ []) before used
adds-outside items lasts m n item old alive before used le at placed out are = record {
  counts = λ test. (
      let s = count-snoc test alive (record { life = item.life; last = last_at lasts n }) in
      let m' = added-more items lasts m n item test le at in
      let on : (is_placed item.answer && test (alive_of lasts (object_of n item))) ≡ test (alive_of lasts (object_of n item)) = rw placed refl in
      let o = ap one_if on in
      let was = are.counts test in
      omega arith);
  size = are.size;
  uses = λ us order ascend. uses-other items n item used at (λ p. out) (are.uses us le (ascend-less items n ascend));
}

pub adds-other : (items : List Item) (lasts : List ℕ) (m n : ℕ) (item : Item) (old alive : List Alive) (before used : List ℕ) → m ≤ n → slice_get items n ≡ Some item → (is_placed item.answer ≡ true → ⊥)
    → AddsItems items lasts m n old alive before used → AddsItems items lasts m (n + 1) old alive before used
adds-other items lasts m n item old alive before used le at off are = record {
  counts = λ test. (
      let m' = added-more items lasts m n item test le at in
      let none : is_placed item.answer ≡ false = unplaced (is_placed item.answer) off in
      let on : (is_placed item.answer && test (alive_of lasts (object_of n item))) ≡ false = rw none refl in
      let o = ap one_if on in
      let was = are.counts test in
      omega arith);
  size = are.size;
  uses = λ us order ascend. uses-other items n item used at (λ p. absurd (off p)) (are.uses us le (ascend-less items n ascend));
}
  where
    unplaced : (b : Bool) → (b ≡ true → ⊥) → b ≡ false
    unplaced true none = absurd (none refl)
    unplaced false none = refl
