-- The ledger, one mark end more at a time.
use Rattle.std.proofs.Common.{◌≡◌, ℕ, zero, suc, ◌+◌, ◌-◌, ◌<◌, ◌≤◌, Bool, true, false, ◌&&◌, not, eqb, leb, List, [], ◌++◌, take, drop, replicate, length, Some, get_or, refl, sym, ◌∙◌, ap, subst, arith, inl, inr, ◌↔◌}
use Rattle.std.specs.List.{slice_get}
use Rattle.std.specs.Global.{Vec}
use Rattle.std.proofs.Math.Seq.{take-append_seam}
use Rattle.std.proofs.lemmas.Bool.{cases_lt, and_parts, and_from, le-leb, lt-leb, leb-true}
use Rattle.std.proofs.lemmas.Option.{slice_get-get_or}
use Rattle.page_alloc.specs.Lists.{count, one_if}
use Rattle.page_alloc.specs.Lives.{Life}
use Rattle.page_alloc.specs.Journal.{past_of}
use Rattle.trace_reader.specs.declared.trace.Cycle.{Cycle}
use Rattle.trace_reader.specs.declared.trace.Trace.{Trace}
use Rattle.cycle_history.specs.declared.Report.{Report}
use Rattle.cycle_history.specs.Requests.{marked_by}
use Rattle.cycle_history.specs.Objects.{Object, freed, is_placed, kept, live}
use Rattle.cycle_history.specs.Before.{objects_before}
use Rattle.cycle_history.specs.Sweeps.{IsUsedAgain}
use Rattle.cycle_history.proofs.Firsts.{before-le, before-more, before-rise}
use Rattle.report_check.specs.declared.items.Item.{Item}
use Rattle.report_check.specs.declared.cycle_lives.Opened.{Opened}
use Rattle.report_check.specs.declared.ledger.Alive.{Alive}
use Rattle.report_check.specs.Items.{object_of, objects_of}
use Rattle.report_check.specs.Lasts.{last_at}
use Rattle.report_check.specs.Known.{AreKnownItems}
use Rattle.report_check.specs.Tallies.{CountsAlive, alive_of, is_freed, is_kept}
use Rattle.report_check.specs.Ledgers.{AddsItems, AreUsed, AscendTo, IsOpenTo, added, used_at}
use Rattle.report_check.proofs.Numbered.{item-of, object-in}
use Rattle.report_check.proofs.Settled.{asked-at, count-items}
use Rattle.report_check.proofs.Lasting.{cycle-at, cycles-rise}
use Rattle.report_check.proofs.Clearing.{lives-then, lives-when}
use Rattle.report_check.proofs.Upto.{by-on}
use Rattle.report_check.proofs.Tallying.{bool-same, count-all, count-none, count-same, front-more, front-of}
use Rattle.sound_run.proofs.Live.{live-placed}

off-on : (b : Bool) → b ≡ false → b ≡ true → ⊥
off-on b off on = cc

unset : (b : Bool) → (b ≡ true → ⊥) → b ≡ false
unset true none = absurd (none refl)
unset false none = refl

reset : (b : Bool) → (b ≡ false → ⊥) → b ≡ true
reset true none = refl
reset false none = absurd (none refl)

not-true : (b : Bool) → not b ≡ true → b ≡ false
not-true false e = refl
not-true true e = cc

not-false : (b : Bool) → b ≡ false → not b ≡ true
not-false b e = rw e refl

-- the table of the lives at the end of an earlier cycle
pub open-later : (t : Trace) (report : Report) (c d : ℕ) (opened : Opened) → c ≤ d → IsOpenTo t report c opened → IsOpenTo t report d opened
open-later t report c d opened le is = record { inside = is.inside; by = by-on c d (past_of (take opened.read report.journal)) le is.by; lives = is.lives }

-- an item of the first cycles
front-cycle : (t : Trace) (report : Report) (items : List Item) (lasts : List ℕ) (i c : ℕ) (item : Item) → AreKnownItems t report items lasts → slice_get items i ≡ Some item → i < objects_before t (c + 1) → item.cycle ≤ c
front-cycle t report items lasts i c item known at lt =
    let asked = asked-at t report items i item known.answers at in
    let low = asked.low in
    elim (cases_lt c item.cycle) [
      | inl more ↦ (let r = before-rise t (c + 1) item.cycle (omega arith) in absurd (omega arith))
      | inr le ↦ le
    ]

-- an item behind the first cycles
back-cycle : (t : Trace) (report : Report) (items : List Item) (lasts : List ℕ) (i c : ℕ) (item : Item) → AreKnownItems t report items lasts → slice_get items i ≡ Some item → objects_before t c ≤ i → c ≤ item.cycle
back-cycle t report items lasts i c item known at le =
    let asked = asked-at t report items i item known.answers at in
    let high = asked.high in
    elim (cases_lt item.cycle c) [
      | inl less ↦ (let r = before-rise t (item.cycle + 1) c (omega arith) in absurd (omega arith))
      | inr ge ↦ ge
    ]

pub ascends : (t : Trace) (report : Report) (items : List Item) (lasts : List ℕ) (n : ℕ) → AreKnownItems t report items lasts → AscendTo items n
ascends t report items lasts n known i j a b le lt ia jb = cycles-rise t i j a b (asked-at t report items i a known.answers ia) (asked-at t report items j b known.answers jb) le

pub items-inside : (t : Trace) (report : Report) (items : List Item) (lasts : List ℕ) (c : ℕ) → AreKnownItems t report items lasts → objects_before t c ≤ length items
items-inside t report items lasts c known = (let a = count-items t report items known.answers in let b = before-le t c in omega arith)

-- what an object's living in a cycle says, as a test of its item
front-live : (t : Trace) (report : Report) (items : List Item) (lasts : List ℕ) (i c : ℕ) (item : Item) → AreKnownItems t report items lasts → slice_get items i ≡ Some item → item.cycle ≤ c
    → live (marked_by t) c (object_of i item) ≡ (is_placed item.answer && leb c (last_at lasts i))
front-live t report items lasts i c item known at le = bool-same (live (marked_by t) c (object_of i item)) (is_placed item.answer && leb c (last_at lasts i))
    (λ alive. (
    let w = lives-when t report items lasts i c item known at alive in
    let up = w.1 in
    and_from (is_placed item.answer) (leb c (last_at lasts i)) (live-placed (marked_by t) c (object_of i item) alive) (le-leb c (last_at lasts i) up)))
    (λ on. (
    let p = and_parts (is_placed item.answer) (leb c (last_at lasts i)) on in
    lives-then t report items lasts i c item known at p.0 le (leb-true c (last_at lasts i) p.1)))

-- ---- the objects that live

-- an object of the cycle comes
new-live : (t : Trace) (report : Report) (items : List Item) (lasts : List ℕ) (c n : ℕ) (item : Item) (test : Alive → Bool) → AreKnownItems t report items lasts → slice_get items n ≡ Some item → item.cycle ≡ c
    → (live (marked_by t) c (object_of n item) && test (alive_of lasts (object_of n item))) ≡ (is_placed item.answer && test (alive_of lasts (object_of n item)))
new-live t report items lasts c n item test known at own =
    let own' = known.until.own n item at in
    let up : leb c (last_at lasts n) ≡ true = le-leb c (last_at lasts n) (omega arith) in
    let e = front-live t report items lasts n c item known at (omega arith) in
    let f : (is_placed item.answer && leb c (last_at lasts n)) ≡ is_placed item.answer = rw up (and-true (is_placed item.answer)) in
    ap (λ (b : Bool). b && test (alive_of lasts (object_of n item))) (e ∙ f)
  where
    and-true : (b : Bool) → (b && true) ≡ b
    and-true true = refl
    and-true false = refl

abbrev Living : Trace → List ℕ → ℕ → (Alive → Bool) → Object → Bool
Living t lasts c test o = live (marked_by t) c o && test (alive_of lasts o)

-- the items of the cycle are counted besides those before
living-more : (t : Trace) (report : Report) (items : List Item) (lasts : List ℕ) (c m k : ℕ) (test : Alive → Bool) → AreKnownItems t report items lasts → m + k ≤ length items → m ≡ objects_before t c → m + k ≤ objects_before t (c + 1)
    → count (Living t lasts c test) (objects_of (take (m + k) items)) ≡ count (Living t lasts c test) (objects_of (take m items)) + added items lasts m (m + k) test
living-more t report items lasts c m zero test known room first high =
    let e : m + 0 ≡ m = omega arith in
    let none : added items lasts m (m + 0) test ≡ 0 = count-none (λ (o : Object). leb m o.id && (is_placed o.answer && test (alive_of lasts o))) (objects_of (take (m + 0) items))
    (λ o among. (
    let f = front-of items (m + 0) o among in
    let id : o.id ≡ f.number = ap (λ (x : Object). x.id) f.is in
    let lt = f.before in
    let off = lt-leb m o.id (omega arith) in
    rw off refl)) in
    let same = ap (λ (n : ℕ). count (Living t lasts c test) (objects_of (take n items))) e in
    omega arith
living-more t report items lasts c m (suc k) test known room first high =
    let rest = living-more t report items lasts c m k test known (omega arith) first (omega arith) in
    let n = m + k in
    let step = one-more t report items lasts c m n test known (omega arith) (omega arith) first (omega arith) in
    let e : m + suc k ≡ n + 1 = omega arith in
    let a = ap (λ (x : ℕ). count (Living t lasts c test) (objects_of (take x items))) e in
    let b = ap (λ (x : ℕ). added items lasts m x test) e in
    omega arith
  where
    none : Item
    none = record { proc = 0; cycle = 0; class = 0; pages = 0; slot = 0; count = 0; answer = Rattle.cycle_history.specs.declared.Answer.TheVariants.Zero; life = 0; index = 0 }

    one-more : (t : Trace) (report : Report) (items : List Item) (lasts : List ℕ) (c m n : ℕ) (test : Alive → Bool) → AreKnownItems t report items lasts → n < length items → m ≤ n → m ≡ objects_before t c → n < objects_before t (c + 1)
        → count (Living t lasts c test) (objects_of (take (n + 1) items)) + added items lasts m n test ≡ count (Living t lasts c test) (objects_of (take n items)) + added items lasts m (n + 1) test
    one-more t report items lasts c m n test known inside le first high =
        let item = get_or items n none in
        let at : slice_get items n ≡ Some item = slice_get-get_or items n none inside in
        let cycle = cycle-at t n c item (asked-at t report items n item known.answers at) (omega arith) high in
        let p = ap one_if (new-live t report items lasts c n item test known at cycle) in
        let on = le-leb m n le in
        let q : (leb m n && (is_placed item.answer && test (alive_of lasts (object_of n item)))) ≡ (is_placed item.answer && test (alive_of lasts (object_of n item))) = rw on refl in
        let q' = ap one_if q in
        let a = ap (λ (os : List Object). count (Living t lasts c test) os) (front-more items n item at) in
        let b = ap (λ (os : List Object). count (λ (o : Object). leb m o.id && (is_placed o.answer && test (alive_of lasts o))) os) (front-more items n item at) in
        omega arith

-- those that the mark end of the next cycle marks live in it
living-next : (t : Trace) (report : Report) (items : List Item) (lasts : List ℕ) (c : ℕ) (test : Alive → Bool) → AreKnownItems t report items lasts
    → count (λ (o : Object). live (marked_by t) c o && (leb (c + 1) (last_at lasts o.id) && test (alive_of lasts o))) (objects_of (take (objects_before t (c + 1)) items)) ≡ count (Living t lasts (c + 1) test) (objects_of (take (objects_before t (c + 1)) items))
living-next t report items lasts c test known = count-same (λ (o : Object). live (marked_by t) c o && (leb (c + 1) (last_at lasts o.id) && test (alive_of lasts o))) (Living t lasts (c + 1) test) (objects_of (take (objects_before t (c + 1)) items))
    (λ o among. (
    let f = front-of items (objects_before t (c + 1)) o among in
    let le = front-cycle t report items lasts f.number c f.item known f.at f.before in
    let here = front-live t report items lasts f.number c f.item known f.at le in
    let next = front-live t report items lasts f.number (c + 1) f.item known f.at (omega arith) in
    subst (λ (x : Object). (live (marked_by t) c x && (leb (c + 1) (last_at lasts x.id) && test (alive_of lasts x))) ≡ Living t lasts (c + 1) test x) (sym f.is)
    (ap (λ (b : Bool). b && (leb (c + 1) (last_at lasts f.number) && test (alive_of lasts (object_of f.number f.item)))) here
    ∙ (joined (is_placed f.item.answer) c (last_at lasts f.number) (test (alive_of lasts (object_of f.number f.item)))
    ∙ sym (ap (λ (b : Bool). b && test (alive_of lasts (object_of f.number f.item))) next)))))
  where
    joined : (p : Bool) (c l : ℕ) (b : Bool) → ((p && leb c l) && (leb (c + 1) l && b)) ≡ ((p && leb (c + 1) l) && b)
    joined false c l b = refl
    joined true c l b = elim (cases_lt c l) [
      | inl lt ↦ (let on = le-leb c l (omega arith) in let on' = le-leb (c + 1) l (omega arith) in rw (on, on') refl)
      | inr ge ↦ (let off = lt-leb (c + 1) l (omega arith) in rw off (and-off (leb c l)))
    ]
      where
        and-off : (x : Bool) → (x && false) ≡ false
        and-off true = refl
        and-off false = refl

pub alive-first : (t : Trace) (report : Report) (items : List Item) (lasts : List ℕ) (n : ℕ) (alive : List Alive) (used used' : List ℕ) → AreKnownItems t report items lasts → n ≡ objects_before t 1 → AddsItems items lasts 0 n [] alive used used' → CountsAlive t items lasts 0 n alive
alive-first t report items lasts n alive used used' known first adds test =
    let room = items-inside t report items lasts 1 known in
    let e = living-more t report items lasts 0 0 n test known (omega arith) refl (omega arith) in
    let f : 0 + n ≡ n = omega arith in
    let a = ap (λ (x : ℕ). count (Living t lasts 0 test) (objects_of (take x items))) f in
    let b = ap (λ (x : ℕ). added items lasts 0 x test) f in
    let z : count (Living t lasts 0 test) (objects_of (take 0 items)) ≡ 0 = refl in
    let c = adds.counts test in
    omega arith

pub alive-next : (t : Trace) (report : Report) (items : List Item) (lasts : List ℕ) (c m n : ℕ) (old kept new : List Alive) (used used' : List ℕ) → AreKnownItems t report items lasts → m ≡ objects_before t (c + 1) → n ≡ objects_before t (c + 2)
    → CountsAlive t items lasts c m old → ((test : Alive → Bool) → count test kept ≡ count (λ (a : Alive). leb (c + 1) a.last && test a) old) → AddsItems items lasts m n kept new used used' → CountsAlive t items lasts (c + 1) n new
alive-next t report items lasts c m n old kept new used used' known first last counts survive adds test =
    let room = items-inside t report items lasts (c + 2) known in
    let rise = before-rise t (c + 1) (c + 2) (omega arith) in
    let k = n - m in
    let f : m + k ≡ n = omega arith in
    let g : (c + 1) + 1 ≡ c + 2 = omega arith in
    let h = ap (λ (x : ℕ). objects_before t x) g in
    let e = living-more t report items lasts (c + 1) m k test known (omega arith) first (omega arith) in
    let a = ap (λ (x : ℕ). count (Living t lasts (c + 1) test) (objects_of (take x items))) f in
    let b = ap (λ (x : ℕ). added items lasts m x test) f in
    let s = survive test in
    let o = counts (λ (x : Alive). leb (c + 1) x.last && test x) in
    let next = living-next t report items lasts c test known in
    let p = ap (λ (x : ℕ). count (λ (o : Object). live (marked_by t) c o && (leb (c + 1) (last_at lasts o.id) && test (alive_of lasts o))) (objects_of (take x items))) first in
    let q = ap (λ (x : ℕ). count (Living t lasts (c + 1) test) (objects_of (take x items))) first in
    let d = adds.counts test in
    omega arith

-- ---- what the mark end keeps and frees

pub kept-counted : (t : Trace) (report : Report) (items : List Item) (lasts : List ℕ) (c m life : ℕ) (alive : List Alive) → AreKnownItems t report items lasts → m ≡ objects_before t (c + 1) → CountsAlive t items lasts c m alive
    → count (is_kept (c + 1) life) alive ≡ kept (marked_by t) (objects_of items) (c + 1) life
kept-counted t report items lasts c m life alive known first counts =
    let room = items-inside t report items lasts (c + 1) known in
    let p = λ (o : Object). is_placed o.answer && (eqb o.life life && marked_by t (c + 1) o.id) in
    let q = λ (o : Object). live (marked_by t) c o && is_kept (c + 1) life (alive_of lasts o) in
    let all = count-all p items m (omega arith) (λ i item le at. (
    let back = back-cycle t report items lasts i (c + 1) item known at (omega arith) in
    let off : marked_by t (c + 1) i ≡ false = unset (marked_by t (c + 1) i) (λ on. (let w = (known.until.marked i (c + 1) item at).0 on in let lt = w.0 in omega arith)) in
    rw off (and-offs (is_placed item.answer) (eqb item.life life)))) in
    let same = count-same q p (objects_of (take m items)) (λ o among. (
    let f = front-of items m o among in
    let before = f.before in
    let le = front-cycle t report items lasts f.number c f.item known f.at (omega arith) in
    let here = front-live t report items lasts f.number c f.item known f.at le in
    let mark : marked_by t (c + 1) f.number ≡ leb (c + 1) (last_at lasts f.number) = bool-same (marked_by t (c + 1) f.number) (leb (c + 1) (last_at lasts f.number))
    (λ on. (let w = (known.until.marked f.number (c + 1) f.item f.at).0 on in le-leb (c + 1) (last_at lasts f.number) w.1))
    (λ on. (known.until.marked f.number (c + 1) f.item f.at).1 (omega arith, leb-true (c + 1) (last_at lasts f.number) on)) in
    subst (λ (x : Object). q x ≡ p x) (sym f.is)
    (ap (λ (b : Bool). b && (eqb f.item.life life && leb (c + 1) (last_at lasts f.number))) here
    ∙ (joined (is_placed f.item.answer) c (last_at lasts f.number) (eqb f.item.life life)
    ∙ ap (λ (b : Bool). is_placed f.item.answer && (eqb f.item.life life && b)) (sym mark))))) in
    let e = counts (is_kept (c + 1) life) in
    omega arith
  where
    and-offs : (a b : Bool) → (a && (b && false)) ≡ false
    and-offs true true = refl
    and-offs true false = refl
    and-offs false b = refl

    joined : (p : Bool) (c l : ℕ) (b : Bool) → ((p && leb c l) && (b && leb (c + 1) l)) ≡ (p && (b && leb (c + 1) l))
    joined false c l b = refl
    joined true c l false = and-off (leb c l)
      where
        and-off : (x : Bool) → (x && false) ≡ false
        and-off true = refl
        and-off false = refl
    joined true c l true = elim (cases_lt c l) [
      | inl lt ↦ (let on = le-leb c l (omega arith) in rw on refl)
      | inr ge ↦ (let off = lt-leb (c + 1) l (omega arith) in rw off (and-off (leb c l)))
    ]
      where
        and-off : (x : Bool) → (x && false) ≡ false
        and-off true = refl
        and-off false = refl

pub freed-counted : (t : Trace) (report : Report) (items : List Item) (lasts : List ℕ) (c m life : ℕ) (alive : List Alive) → AreKnownItems t report items lasts → m ≡ objects_before t (c + 1) → CountsAlive t items lasts c m alive
    → count (is_freed (c + 1) life) alive ≡ freed (marked_by t) (objects_of items) (c + 1) life
freed-counted t report items lasts c m life alive known first counts =
    let room = items-inside t report items lasts (c + 1) known in
    let z : c + 1 - 1 ≡ c = omega arith in
    let p = λ (o : Object). eqb o.life life && (live (marked_by t) c o && not (marked_by t (c + 1) o.id)) in
    let q = λ (o : Object). live (marked_by t) c o && is_freed (c + 1) life (alive_of lasts o) in
    let all = count-all p items m (omega arith) (λ i item le at. (
    let back = back-cycle t report items lasts i (c + 1) item known at (omega arith) in
    let off : live (marked_by t) c (object_of i item) ≡ false = unset (live (marked_by t) c (object_of i item)) (λ on. (let w = lives-when t report items lasts i c item known at on in let lt = w.0 in omega arith)) in
    rw off (and-off (eqb item.life life)))) in
    let same = count-same q p (objects_of (take m items)) (λ o among. (
    let f = front-of items m o among in
    let before = f.before in
    let le = front-cycle t report items lasts f.number c f.item known f.at (omega arith) in
    let mark : marked_by t (c + 1) f.number ≡ leb (c + 1) (last_at lasts f.number) = bool-same (marked_by t (c + 1) f.number) (leb (c + 1) (last_at lasts f.number))
    (λ on. (let w = (known.until.marked f.number (c + 1) f.item f.at).0 on in le-leb (c + 1) (last_at lasts f.number) w.1))
    (λ on. (known.until.marked f.number (c + 1) f.item f.at).1 (omega arith, leb-true (c + 1) (last_at lasts f.number) on)) in
    subst (λ (x : Object). q x ≡ p x) (sym f.is)
    (turned (live (marked_by t) c (object_of f.number f.item)) (eqb f.item.life life) (not (leb (c + 1) (last_at lasts f.number)))
    ∙ ap (λ (b : Bool). eqb f.item.life life && (live (marked_by t) c (object_of f.number f.item) && not b)) (sym mark)))) in
    let e = counts (is_freed (c + 1) life) in
    let g : freed (marked_by t) (objects_of items) (c + 1) life ≡ count p (objects_of items) = ap (λ (x : ℕ). count (λ (o : Object). eqb o.life life && (live (marked_by t) x o && not (marked_by t (c + 1) o.id))) (objects_of items)) z in
    omega arith
  where
    and-off : (x : Bool) → (x && false) ≡ false
    and-off true = refl
    and-off false = refl

    turned : (a b d : Bool) → (a && (b && d)) ≡ (b && (a && d))
    turned true true d = refl
    turned true false d = refl
    turned false true d = refl
    turned false false d = refl

-- a life is used again where an object of the cycle is placed in it
pub used-again : (t : Trace) (report : Report) (items : List Item) (lasts : List ℕ) (c n : ℕ) (life : Life) (used : List ℕ) → AreKnownItems t report items lasts → 1 ≤ c → n ≡ objects_before t (c + 1) → life.number < length used → AreUsed items n used
    → (used_at used life.number ≡ c) ↔ IsUsedAgain (objects_of items) c life
used-again t report items lasts c n life used known some last inside are = (
  λ e. (
      let s = are.some life.number (omega arith) in
      (object_of s.0 s.1, object-in items s.0 s.1 s.3, s.5, s.6 ∙ e, s.4)),
  λ w. (
      let x = item-of items w.0 w.1 in
      let asked = asked-at t report items x.number x.item known.answers x.at in
      let life' : x.item.life ≡ life.number = ap (λ (o : Object). o.life) (sym x.is) ∙ w.2 in
      let cycle : x.item.cycle ≡ c = ap (λ (o : Object). o.cycle) (sym x.is) ∙ w.3 in
      let placed = ap (λ (o : Object). is_placed o.answer) (sym x.is) ∙ w.4 in
      let high = asked.high in
      let g = ap (λ (k : ℕ). objects_before t (k + 1)) cycle in
      let up = are.each x.number x.item (omega arith) x.at placed (omega arith) in
      let h = ap (λ (k : ℕ). used_at used k) life' in
      let s = are.some life.number (omega arith) in
      let low = front-cycle t report items lasts s.0 c s.1 known s.3 (let lt = s.2 in omega arith) in
      let eq = s.6 in
      omega arith),
)

-- the first object of the next cycle
pub next-first : (t : Trace) (slice : List Cycle) (c first count : ℕ) (d : Cycle) → slice ≡ t.cycles → c < length slice → first ≡ objects_before t c → count ≡ length (get_or slice c d).events → first + count ≡ objects_before t (c + 1)
next-first t slice c first count d same lt is size =
    let e : get_or slice c d ≡ get_or t.cycles c d = ap (λ (cs : List Cycle). get_or cs c d) same in
    let long : length slice ≡ length t.cycles = ap (λ (cs : List Cycle). length cs) same in
    let more = before-more t c d (omega arith) in
    let f = ap (λ (x : Cycle). length x.events) e in
    omega arith

-- no life is used yet
pub used-none : (items : List Item) (n : ℕ) (used : List ℕ) → used ≡ replicate n 0 → AreUsed items 0 used
used-none items n used e = record {
  some = λ life some. absurd (let z = zeros n life in let f = ap (λ (xs : List ℕ). get_or xs life 0) e in omega arith);
  each = λ i item lt. absurd (omega arith);
}
  where
    zeros : (n k : ℕ) → ◌≡◌ {A = ℕ} (get_or (replicate n 0) k 0) 0
    zeros zero k = refl
    zeros (suc n) zero = refl
    zeros (suc n) (suc k) = zeros n k

-- a slice that was written over whole
pub written : {X : Type 0} (n : ℕ) (new old : List X) → length new ≡ n → take n (new ++ drop (length new) old) ≡ new
written n new old e = subst (λ (k : ℕ). take k (new ++ drop (length new) old) ≡ new) e (take-append_seam new (drop (length new) old))

-- a list of so many items
pub vec-len : {X : Type 0} (v : Vec X) → length v.items ≡ v.len
vec-len v = sym v.ok.0
