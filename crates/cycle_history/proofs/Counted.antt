-- How the counts of the size classes grow with the objects, and that they make the totals.
use Rattle.std.proofs.Common.{◌≡◌, ◌≢◌, ℕ, zero, suc, ◌+◌, ◌-◌, ◌/◌, ◌<◌, ◌≤◌, Bool, true, false, ◌&&◌, ◌||◌, not, eqb, leb, List, [], ◌∷◌, ◌++◌, length, map, reverse, take, Some, refl, sym, ◌∙◌, ap, subst, arith, ◌⊎◌, inl, inr, length-append}
use Rattle.std.specs.List.{flat_map, slice_get}
use Rattle.std.proofs.lemmas.Bool.{cases_lt, cases_eq, eq-eqb, ne_eqb, and_left, and_from, le-leb, lt-leb}
use Rattle.std.proofs.lemmas.List.{length-map, length-reverse, length-take-le, reverse-append, take_all, take_more}
use Rattle.std.proofs.lemmas.Option.{get_or_from_slice_get, slice_get_within}
use Rattle.page_alloc.specs.Lists.{In, count, one_if}
use Rattle.size_classes.specs.Classes.{span_class_of}
use Rattle.trace_reader.specs.declared.trace.Trace.{Trace}
use Rattle.trace_reader.specs.declared.trace.Cycle.{Cycle}
use Rattle.trace_reader.specs.declared.trace.Event.{Event}
use Rattle.cycle_history.specs.declared.Answer.{Answer}
use Rattle.cycle_history.specs.declared.Answer.TheVariants.{Zero}
use Rattle.cycle_history.specs.declared.Total.{Total}
use Rattle.cycle_history.specs.declared.totals.Counts.{Counts}
use Rattle.cycle_history.specs.Needs.{Need, IsNeed}
use Rattle.cycle_history.specs.Requests.{Request, requests_from, requests_of, marked_by, last_cycle, is_within}
use Rattle.cycle_history.specs.Objects.{Object, is_placed, live}
use Rattle.cycle_history.specs.Orders.{IsTotalBefore, AreRisingTotals}
use Rattle.cycle_history.specs.Rules.{IsObject, AreAnswered}
use Rattle.cycle_history.specs.Sweeps.{is_placed_of, AreTotals}
use Rattle.cycle_history.specs.Before.{objects_before, marks_at}
use Rattle.cycle_history.specs.Counted.{AreCounts, AreFirstOf, AreListed, AreObjectsOf, is_freed_of, of_class}
use Rattle.cycle_history.proofs.Firsts.{before-rise}
use Rattle.cycle_history.proofs.Plain.{request_in}
use Rattle.cycle_history.proofs.Rising.{marks-within}
use Rattle.cycle_history.proofs.OfObjects.{request-of}

-- ---- one object more

take-one : {X : Type 0} (xs : List X) (n : ℕ) (x : X) → slice_get xs n ≡ Some x → reverse (take (n + 1) xs) ≡ x ∷ reverse (take n xs)
take-one xs n x at =
    let lt = slice_get_within xs n x at in
    ap (λ ys. reverse ys) (take_more xs n x lt ∙ ap (λ y. take n xs ++ y ∷ []) (get_or_from_slice_get xs n x x at))
    ∙ reverse-append (take n xs) (x ∷ [])

-- the newest of the first objects, and those before it
pub record IsNewest (t : Trace) (answers : List Answer) (n : ℕ) (r : Request) (a : Answer) (objects : List Object) : Type 0 where
  pub newest : Object
  pub older : List Object
  pub are : objects ≡ newest ∷ older
  pub asked : IsObject r n newest
  pub answered : newest.answer ≡ a
  pub first : AreFirstOf t answers n older

pub newest-of : (t : Trace) (answers : List Answer) (n : ℕ) (r : Request) (a : Answer) (objects : List Object) → slice_get (requests_from 0 t.cycles) n ≡ Some r → slice_get answers n ≡ Some a
    → AreFirstOf t answers (n + 1) objects → IsNewest t answers n r a objects
newest-of t answers n r a objects at-r at-a first =
    split objects
    (subst (λ (rs : List Request). AreAnswered rs objects) (take-one (requests_from 0 t.cycles) n r at-r) first.asked)
    (first.printed ∙ take-one answers n a at-a)
  where
    counted : length (reverse (take n (requests_from 0 t.cycles))) ≡ n
    counted = length-reverse (take n (requests_from 0 t.cycles)) ∙ length-take-le n (requests_from 0 t.cycles) (let lt = slice_get_within (requests_from 0 t.cycles) n r at-r in omega arith)

    split : (os : List Object) → AreAnswered (r ∷ reverse (take n (requests_from 0 t.cycles))) os → map (λ (o : Object). o.answer) os ≡ a ∷ reverse (take n answers) → IsNewest t answers n r a os
    split [] asked printed = absurd asked
    split (o ∷ os) asked printed = record {
      newest = o;
      older = os;
      are = refl;
      asked = subst (λ (k : ℕ). IsObject r k o) counted asked.0;
      answered = cc;
      first = record { asked = asked.1; printed = cc };
    }

-- ---- cycles of requests

pub get-split : {X : Type 0} (xs ys : List X) (n : ℕ) (x : X) → slice_get (xs ++ ys) n ≡ Some x → (slice_get xs n ≡ Some x) ⊎ ((length xs ≤ n) × (slice_get ys (n - length xs) ≡ Some x))
get-split [] ys n x h = inr ((omega arith), (let e : n - 0 ≡ n = omega arith in rw e h))
get-split (y ∷ xs) ys zero x h = inl h
get-split (y ∷ xs) ys (suc n) x h =
    elim (get-split xs ys n x h) [
      | inl here ↦ inl here
      | inr there ↦ (let le = there.0 in let e : suc n - suc (length xs) ≡ n - length xs = omega arith in inr ((omega arith), rw e there.1))
    ]

pub get-some : {X : Type 0} (xs : List X) (n : ℕ) → n < length xs → (x : X) × (slice_get xs n ≡ Some x)
get-some [] n lt = absurd (omega arith)
get-some (x ∷ xs) zero lt = (x, refl)
get-some (x ∷ xs) (suc n) lt = get-some xs n (omega arith)

abbrev before : List Cycle → ℕ → ℕ
before cycles c = length (flat_map (λ (x : Cycle). x.events) (take c cycles))

of-cycle : (first : ℕ) (events : List Event) (n : ℕ) (r : Request) → slice_get (map (request_in first) events) n ≡ Some r → (r.cycle ≡ first) × (n < length events)
of-cycle first [] n r h = cc
of-cycle first (e ∷ events) zero r h = ((let same : request_in first e ≡ r = cc in sym (ap (λ (x : Request). x.cycle) same)), (omega arith))
of-cycle first (e ∷ events) (suc n) r h = (let rest = of-cycle first events n r h in let lt = rest.1 in (rest.0, (omega arith)))

-- the cycle of the n-th request: its number, and the numbers of its objects
record IsOfCycle (first : ℕ) (cycles : List Cycle) (n : ℕ) (r : Request) : Type 0 where
  cycle : ℕ
  is : r.cycle ≡ first + cycle
  inside : cycle < length cycles
  low : before cycles cycle ≤ n
  high : n < before cycles (suc cycle)

request-cycle : (first : ℕ) (cycles : List Cycle) (n : ℕ) (r : Request) → slice_get (requests_from first cycles) n ≡ Some r → IsOfCycle first cycles n r
request-cycle first [] n r h = cc
request-cycle first (c ∷ cycles) n r h =
    let front : (k : ℕ) → before (c ∷ cycles) (suc k) ≡ length c.events + before cycles k = λ k. length-append c.events (flat_map (λ (x : Cycle). x.events) (take k cycles)) in
    elim (get-split (map (request_in first) c.events) (requests_from (first + 1) cycles) n r h) [
      | inl here ↦ (
          let at = of-cycle first c.events n r here in
          let lt = at.1 in
          let f = front 0 in
          record { cycle = 0; is = at.0 ∙ omega arith; inside = omega arith; low = omega arith; high = omega arith })
      | inr there ↦ (
          let size : length (map (request_in first) c.events) ≡ length c.events = length-map c.events (request_in first) in
          let le = there.0 in
          let e : n - length (map (request_in first) c.events) ≡ n - length c.events = omega arith in
          let rest = request-cycle (first + 1) cycles (n - length c.events) r (rw e at there.1) in
          let is = rest.is in
          let inside = rest.inside in
          let low = rest.low in
          let high = rest.high in
          let f = front rest.cycle in
          let g = front (suc rest.cycle) in
          record { cycle = suc rest.cycle; is = omega arith; inside = omega arith; low = omega arith; high = omega arith })
    ]

-- a request is of the last cycle where its number is that cycle's first or above
pub last-request : (t : Trace) (n : ℕ) (r : Request) → slice_get (requests_from 0 t.cycles) n ≡ Some r → eqb r.cycle (last_cycle t) ≡ leb (objects_before t (last_cycle t)) n
last-request t n r h =
    let at = request-cycle 0 t.cycles n r h in
    let is = at.is in
    let inside = at.inside in
    let low = at.low in
    let high = at.high in
    elim (cases_lt n (objects_before t (last_cycle t))) [
      | inl early ↦ (
          let differ : r.cycle ≢ last_cycle t = λ same. (let c : at.cycle ≡ last_cycle t = omega arith in let e : objects_before t at.cycle ≡ objects_before t (last_cycle t) = ap (λ (k : ℕ). objects_before t k) c in omega arith) in
          ne_eqb r.cycle (last_cycle t) differ ∙ sym (lt-leb (objects_before t (last_cycle t)) n early))
      | inr late ↦ (
          let c : r.cycle ≡ last_cycle t = elim (cases_lt at.cycle (last_cycle t)) [
            | inl less ↦ (let rise = before-rise t (suc at.cycle) (last_cycle t) less in absurd (omega arith))
            | inr more ↦ omega arith
          ] in
          eq-eqb r.cycle (last_cycle t) c ∙ sym (le-leb (objects_before t (last_cycle t)) n late))
    ]

-- ---- counts

-- none of the objects
pub counts-none : (t : Trace) (answers : List Answer) (counts : Counts) → ((class : ℕ) → ((of_class counts class).mallocs ≡ 0) × ((of_class counts class).frees ≡ 0)) → AreCounts t answers 0 counts
counts-none t answers counts zeros = record {
  few = λ class. (let z = zeros class in let a = z.0 in let b = z.1 in ((omega arith), (omega arith)));
  mallocs = λ objects class first lt. (zeros class).0 ∙ empty objects first.asked (is_placed_of class);
  frees = λ objects class first lt. (zeros class).1 ∙ empty objects first.asked (is_freed_of t class);
}
  where
    empty : (objects : List Object) → AreAnswered [] objects → (test : Object → Bool) → 0 ≡ count test objects
    empty [] h test = refl
    empty (o ∷ objects) h test = absurd h

-- an object that isn't placed
pub counts-other : (t : Trace) (answers : List Answer) (n : ℕ) (r : Request) (a : Answer) (counts : Counts) → slice_get (requests_from 0 t.cycles) n ≡ Some r → slice_get answers n ≡ Some a → is_placed a ≡ false
    → AreCounts t answers n counts → AreCounts t answers (n + 1) counts
counts-other t answers n r a counts at-r at-a off old = record {
  few = λ class. (let f = old.few class in let x = f.0 in let y = f.1 in ((omega arith), (omega arith)));
  mallocs = λ objects class first lt. (
      let new = newest-of t answers n r a objects at-r at-a first in
      let out : is_placed_of class new.newest ≡ false = and_left (is_placed new.newest.answer) (eqb (new.newest.need.class / 2) class) (ap is_placed new.answered ∙ off) in
      old.mallocs new.older class new.first lt ∙ sym (passed (is_placed_of class) new.newest new.older out) ∙ ap (λ (os : List Object). count (is_placed_of class) os) (sym new.are));
  frees = λ objects class first lt. (
      let new = newest-of t answers n r a objects at-r at-a first in
      let out : is_freed_of t class new.newest ≡ false = and_left (is_placed_of class new.newest) (not (live (marked_by t) (last_cycle t) new.newest))
      (and_left (is_placed new.newest.answer) (eqb (new.newest.need.class / 2) class) (ap is_placed new.answered ∙ off)) in
      old.frees new.older class new.first lt ∙ sym (passed (is_freed_of t class) new.newest new.older out) ∙ ap (λ (os : List Object). count (is_freed_of t class) os) (sym new.are));
}
  where
    passed : (test : Object → Bool) (o : Object) (os : List Object) → test o ≡ false → count test (o ∷ os) ≡ count test os
    passed test o os out = rw out (omega arith)

-- a placed object of a class
pub counts-placed : (t : Trace) (answers : List Answer) (n : ℕ) (r : Request) (a : Answer) (old new : Counts) (class : ℕ) (lives : Bool)
    → slice_get (requests_from 0 t.cycles) n ≡ Some r → slice_get answers n ≡ Some a → is_placed a ≡ true
    → ((scan : Bool) (need : Need) → IsNeed r.event.size scan need → need.class / 2 ≡ class) → 1 ≤ r.event.size
    → lives ≡ (leb (objects_before t (last_cycle t)) n || is_within (marks_at t (last_cycle t)) n)
    → ((k : ℕ) → (of_class new k).mallocs ≡ one_if (eqb k class) + (of_class old k).mallocs)
    → ((k : ℕ) → (of_class new k).frees ≡ one_if (eqb k class && not lives) + (of_class old k).frees)
    → AreCounts t answers n old → AreCounts t answers (n + 1) new
counts-placed t answers n r a old new class lives at-r at-a on sized some is mallocs frees counts = record {
  few = λ k. (
      let f = counts.few k in
      let x = f.0 in
      let y = f.1 in
      let m = mallocs k in
      let g = frees k in
      let lm = at_most (eqb k class) in
      let lf = at_most (eqb k class && not lives) in
      ((omega arith), (omega arith)));
  mallocs = λ objects k first lt. (
      let one = newest-of t answers n r a objects at-r at-a first in
      let e : is_placed_of k one.newest ≡ eqb k class = of-class k one.newest one.asked one.answered in
      mallocs k ∙ ap (λ (x : ℕ). one_if (eqb k class) + x) (counts.mallocs one.older k one.first lt) ∙ ap (λ (b : Bool). one_if b + count (is_placed_of k) one.older) (sym e)
      ∙ ap (λ (os : List Object). count (is_placed_of k) os) (sym one.are));
  frees = λ objects k first lt. (
      let one = newest-of t answers n r a objects at-r at-a first in
      let e : is_placed_of k one.newest ≡ eqb k class = of-class k one.newest one.asked one.answered in
      let l : live (marked_by t) (last_cycle t) one.newest ≡ lives = lives-same one.newest one.asked one.answered in
      let f : is_freed_of t k one.newest ≡ (eqb k class && not lives) = rw (e, l) refl in
      frees k ∙ ap (λ (x : ℕ). one_if (eqb k class && not lives) + x) (counts.frees one.older k one.first lt) ∙ ap (λ (b : Bool). one_if b + count (is_freed_of t k) one.older) (sym f)
      ∙ ap (λ (os : List Object). count (is_freed_of t k) os) (sym one.are));
}
  where
    at_most : (b : Bool) → one_if b ≤ 1
    at_most true = omega arith
    at_most false = omega arith

    swapped : (i j k : ℕ) → i ≡ j → eqb i k ≡ eqb k j
    swapped i j k same = elim (cases_eq i k) [
      | inl e ↦ eq-eqb i k e ∙ sym (eq-eqb k j (sym e ∙ same))
      | inr ne ↦ ne_eqb i k ne ∙ sym (ne_eqb k j (λ e. ne (same ∙ sym e)))
    ]

    of-class : (k : ℕ) (o : Object) → IsObject r n o → o.answer ≡ a → is_placed_of k o ≡ eqb k class
    of-class k o asked answered =
        let p : is_placed o.answer ≡ true = ap is_placed answered ∙ on in
        let c : o.need.class / 2 ≡ class = sized r.event.scan o.need (asked.need some) in
        rw p (swapped (o.need.class / 2) class k c)

    lives-same : (o : Object) → IsObject r n o → o.answer ≡ a → live (marked_by t) (last_cycle t) o ≡ lives
    lives-same o asked answered =
        let p : is_placed o.answer ≡ true = ap is_placed answered ∙ on in
        let c : eqb o.cycle (last_cycle t) ≡ leb (objects_before t (last_cycle t)) n = ap (λ (x : ℕ). eqb x (last_cycle t)) asked.cycle ∙ last-request t n r at-r in
        let m : marked_by t (last_cycle t) o.id ≡ is_within (marks_at t (last_cycle t)) n = ap (λ (i : ℕ). marked_by t (last_cycle t) i) asked.id ∙ marks-within t (last_cycle t) n in
        rw (p, c, m) (sym is)

-- ---- totals

in-more : {X : Type 0} (x y : X) (xs : List X) → In x (xs ++ y ∷ []) → In x xs ⊎ (y ≡ x)
in-more x y [] h = elim h [ inl here ↦ inr here | inr there ↦ absurd there ]
in-more x y (z ∷ xs) h = elim h [ inl here ↦ inl (inl here) | inr there ↦ elim (in-more x y xs there) [ inl old ↦ inl (inr old) | inr new ↦ inr new ] ]

in-front : {X : Type 0} (x y : X) (xs : List X) → In x xs → In x (xs ++ y ∷ [])
in-front x y [] h = absurd h
in-front x y (z ∷ xs) h = elim h [ inl here ↦ inl here | inr there ↦ inr (in-front x y xs there) ]

in-last : {X : Type 0} (y : X) (xs : List X) → In y (xs ++ y ∷ [])
in-last y [] = inl refl
in-last y (z ∷ xs) = inr (in-last y xs)

rising-more : (totals : List Total) (total : Total) → AreRisingTotals totals → ((x : Total) → In x totals → IsTotalBefore x total) → AreRisingTotals (totals ++ total ∷ [])
rising-more [] total rising above = ((λ y h. absurd h), tt)
rising-more (x ∷ totals) total rising above = (
  (λ y h. elim (in-more y total totals h) [ inl old ↦ rising.0 y old | inr new ↦ subst (λ (z : Total). IsTotalBefore x z) new (above x (inl refl)) ]),
  rising-more totals total rising.1 (λ y h. above y (inr h)),
)

pub listed-none : (counts : Counts) → AreListed counts 0 []
listed-none counts = record {
  order = tt;
  below = λ total h. absurd h;
  some = λ total h. absurd h;
  mallocs = λ total h. absurd h;
  frees = λ total h. absurd h;
  each = λ class lt some. absurd (omega arith);
}

-- a class without objects is left out
pub listed-empty : (counts : Counts) (class : ℕ) (totals : List Total) → (of_class counts class).mallocs ≡ 0 → AreListed counts class totals → AreListed counts (class + 1) totals
listed-empty counts class totals empty listed = record {
  order = listed.order;
  below = λ total h. (let lt = listed.below total h in omega arith);
  some = listed.some;
  mallocs = listed.mallocs;
  frees = listed.frees;
  each = λ k lt some. elim (cases_lt k class) [
    | inl less ↦ listed.each k less some
    | inr ge ↦ (let same : k ≡ class = omega arith in let e : (of_class counts k).mallocs ≡ (of_class counts class).mallocs = ap (λ (j : ℕ). (of_class counts j).mallocs) same in absurd (omega arith))
  ];
}

-- and any other is told
pub listed-more : (counts : Counts) (class : ℕ) (totals : List Total) (total : Total) → total.class ≡ class → 1 ≤ total.mallocs → total.mallocs ≡ (of_class counts class).mallocs → total.frees ≡ (of_class counts class).frees
    → AreListed counts class totals → AreListed counts (class + 1) (totals ++ total ∷ [])
listed-more counts class totals total is positive mallocs frees listed = record {
  order = rising-more totals total listed.order (λ x h. (let lt = listed.below x h in omega arith));
  below = λ x h. elim (in-more x total totals h) [
    | inl old ↦ (let lt = listed.below x old in omega arith)
    | inr new ↦ (let e : x.class ≡ total.class = ap (λ (y : Total). y.class) (sym new) in omega arith)
  ];
  some = λ x h. elim (in-more x total totals h) [ inl old ↦ listed.some x old | inr new ↦ subst (λ (y : Total). 1 ≤ y.mallocs) new positive ];
  mallocs = λ x h. elim (in-more x total totals h) [
    | inl old ↦ listed.mallocs x old
    | inr new ↦ subst (λ (y : Total). y.mallocs ≡ (of_class counts y.class).mallocs) new (mallocs ∙ ap (λ (k : ℕ). (of_class counts k).mallocs) (sym is))
  ];
  frees = λ x h. elim (in-more x total totals h) [
    | inl old ↦ listed.frees x old
    | inr new ↦ subst (λ (y : Total). y.frees ≡ (of_class counts y.class).frees) new (frees ∙ ap (λ (k : ℕ). (of_class counts k).frees) (sym is))
  ];
  each = λ k lt some. elim (cases_lt k class) [
    | inl less ↦ (let old = listed.each k less some in (old.0, in-front old.0 total totals old.1, old.2))
    | inr ge ↦ (let same : class ≡ k = omega arith in (total, in-last total totals, is ∙ same))
  ];
}

half : (class : ℕ) (scan : Bool) → span_class_of class scan / 2 ≡ class
half class true = omega arith
half class false = omega arith

-- the size class of a need is one of 68
need-class : (size : ℕ) (scan : Bool) (need : Need) → IsNeed size scan need → need.class / 2 < 68
need-class size scan need fits =
    elim (cases_lt 32768 size) [
      | inr small ↦ (
          let at = fits.small small in
          let e : need.class / 2 ≡ at.0 = ap (λ (k : ℕ). k / 2) at.2.class ∙ half at.0 scan in
          let is = at.1.is_class in
          omega arith)
      | inl large ↦ (
          let at = fits.large large in
          let e : need.class / 2 ≡ 0 = ap (λ (k : ℕ). k / 2) at.class ∙ half 0 scan in
          omega arith)
    ]

count-some : (test : Object → Bool) (objects : List Object) (o : Object) → In o objects → test o ≡ true → 1 ≤ count test objects
count-some test [] o h on = absurd h
count-some test (x ∷ objects) o h on =
    elim h [
      | inl here ↦ (let on' : test x ≡ true = rw here on in rw on' (omega arith))
      | inr there ↦ (let rest = count-some test objects o there on in omega arith)
    ]

-- all of them are the totals of the objects
pub listed-all : (t : Trace) (answers : List Answer) (counts : Counts) (totals : List Total) (objects : List Object) → length answers ≡ length (requests_from 0 t.cycles)
    → AreCounts t answers (length answers) counts → AreListed counts 68 totals → AreObjectsOf t answers objects → AreTotals (marked_by t) (last_cycle t) objects totals
listed-all t answers counts totals objects all are listed of =
    let first : AreFirstOf t answers (length answers) objects = record {
      asked = subst (λ (rs : List Request). AreAnswered (reverse rs) objects) (sym (take_all (length answers) (requests_from 0 t.cycles) (omega arith))) of.asked;
      printed = of.printed ∙ ap (λ (xs : List Answer). reverse xs) (sym (take_all (length answers) answers (omega arith)));
    } in
    record {
      order = listed.order;
      right = λ total h. record {
        some = listed.some total h;
        mallocs = listed.mallocs total h ∙ are.mallocs objects total.class first (listed.below total h);
        frees = listed.frees total h ∙ are.frees objects total.class first (listed.below total h);
      };
      each = λ o h placed. (
          let has = request-of (requests_of t) objects o of.asked h in
          let some : 1 ≤ has.request.event.size = elim (cases_lt 0 has.request.event.size) [
            | inl lt ↦ lt
            | inr none ↦ (let zero : o.answer ≡ Zero = has.answers.zero.1 (omega arith) in let off : is_placed o.answer ≡ false = ap is_placed zero in absurd cc)
          ] in
          let lt = need-class has.request.event.size has.request.event.scan o.need (has.answers.need some) in
          let test : is_placed_of (o.need.class / 2) o ≡ true = and_from (is_placed o.answer) (eqb (o.need.class / 2) (o.need.class / 2)) placed (eq-eqb (o.need.class / 2) (o.need.class / 2) refl) in
          let one = count-some (is_placed_of (o.need.class / 2)) objects o h test in
          let e = are.mallocs objects (o.need.class / 2) first lt in
          listed.each (o.need.class / 2) lt (omega arith));
    }
