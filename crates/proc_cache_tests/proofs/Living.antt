-- The objects of a log, and the marks of those that live on.
use Rattle.std.proofs.Common.{◌≡◌, ◌⊎◌, inl, inr, ℕ, zero, suc, ◌+◌, ◌*◌, ◌/◌, ◌<◌, ◌≤◌, Bool, ◌&&◌, eqb, leb, eq-eqb, true, false, List, [], ◌∷◌, ◌++◌, length, get_or, refl, ap, sym, subst, ◌∙◌, arith, append_assoc}
use Rattle.std.specs.List.{AllByRecursion}
use Rattle.std.specs.Prelude.{nat_lt}
use Rattle.std.proofs.Math.Nat.{mul-le-mul_left}
use Rattle.std.proofs.lemmas.Bool.{and_parts, cases_Bool, cases_lt, leb-true}
use Rattle.page_alloc.specs.Lists.{In}
use Rattle.page_bitmap.specs.Counts.{one_if}
use Rattle.size_classes.specs.Table.{slot_sizes, page_counts, object_counts}
use Rattle.size_classes.specs.Classes.{IsClass, IsLeastClass, slot_of, pages_of, objects_of, span_class_of}
use Rattle.sound_run.specs.Run.{count_for}
use Rattle.span_state.specs.MarkSet.{MarkSet, has_pair, is_marked}
use Rattle.sweep_laws.proofs.Naming.{set_here}
use Rattle.atomic_table.specs.Seated.{TableId}
use Rattle.worker_log.specs.declared.Entry.{Entry}
use Rattle.worker_log.specs.declared.Entry.TheVariants.{Looked, LookedEmptyCell, Popped, Pushed, Swept, Took, Missed, Gave, Allocated, Found, Read, Added, Pulled, NoPage, Cut as CutEntry, NoCut, Settled}
use Rattle.worker_log.specs.declared.Placing.{Placing}
use Rattle.worker_log.specs.Logs.{placings}
use Rattle.worker_log.specs.Entries.{many}
use Rattle.span_laws.specs.MarkEndAsks.{IsKnown}
use Rattle.span_laws.specs.Logs.{is_placing_at}
use Rattle.span_laws.specs.Views.{Seen}
use Rattle.proc_cache.specs.Cache.{Cache, address_of}
use Rattle.proc_cache_tests.specs.declared.objects.Object.{Object}
use Rattle.sweep_lists.specs.Room.{Roomy}
use Rattle.proc_cache_tests.specs.Ready.{AreLive, AreObjects, Grows, HasSettled, IsAt, IsObject, IsPlaced, IsServed}

-- ---- logs

pub placings-append : (xs ys : List Entry) → placings (xs ++ ys) ≡ placings xs ++ placings ys
placings-append [] ys = refl
placings-append (Allocated a ∷ xs) ys = ap (λ (l : List Placing). a ∷ l) (placings-append xs ys)
placings-append (Swept s ∷ xs) ys = placings-append xs ys
placings-append (Missed n line ∷ xs) ys = placings-append xs ys
placings-append (Looked set head tail ∷ xs) ys = placings-append xs ys
placings-append (LookedEmptyCell set index ∷ xs) ys = placings-append xs ys
placings-append (Pulled number line ∷ xs) ys = placings-append xs ys
placings-append (NoPage ∷ xs) ys = placings-append xs ys
placings-append (CutEntry page pages class ∷ xs) ys = placings-append xs ys
placings-append (NoCut pages left ∷ xs) ys = placings-append xs ys
placings-append (Settled number ∷ xs) ys = placings-append xs ys
placings-append (Popped set page ∷ xs) ys = placings-append xs ys
placings-append (Pushed set page ∷ xs) ys = placings-append xs ys
placings-append (Took n line ∷ xs) ys = placings-append xs ys
placings-append (Gave page pages ∷ xs) ys = placings-append xs ys
placings-append (Found page word ∷ xs) ys = placings-append xs ys
placings-append (Read word value ∷ xs) ys = placings-append xs ys
placings-append (Added word value ∷ xs) ys = placings-append xs ys

placed_in : (log : List Entry) (a : Placing) → In a (placings log) → 0 < many (is_placing_at a.page a.index) log
placed_in [] a i = absurd i
placed_in (Allocated b ∷ log) a i = elim i [
  | inl e ↦ (let z = ap one_if (let y : (eqb b.page a.page && eqb b.index a.index) ≡ true = rw (eq-eqb b.page a.page (ap (λ (p : Placing). p.page) e), eq-eqb b.index a.index (ap (λ (p : Placing). p.index) e)) refl in y) in omega arith)
  | inr j ↦ (let r = placed_in log a j in omega arith)
]
placed_in (Swept s ∷ log) a i = let r = placed_in log a i in omega arith
placed_in (Missed n line ∷ log) a i = let r = placed_in log a i in omega arith
placed_in (Looked set head tail ∷ log) a i = let r = placed_in log a i in omega arith
placed_in (LookedEmptyCell set index ∷ log) a i = let r = placed_in log a i in omega arith
placed_in (Pulled number line ∷ log) a i = let r = placed_in log a i in omega arith
placed_in (NoPage ∷ log) a i = let r = placed_in log a i in omega arith
placed_in (CutEntry page pages class ∷ log) a i = let r = placed_in log a i in omega arith
placed_in (NoCut pages left ∷ log) a i = let r = placed_in log a i in omega arith
placed_in (Settled number ∷ log) a i = let r = placed_in log a i in omega arith
placed_in (Popped set page ∷ log) a i = let r = placed_in log a i in omega arith
placed_in (Pushed set page ∷ log) a i = let r = placed_in log a i in omega arith
placed_in (Took n line ∷ log) a i = let r = placed_in log a i in omega arith
placed_in (Gave page pages ∷ log) a i = let r = placed_in log a i in omega arith
placed_in (Found page word ∷ log) a i = let r = placed_in log a i in omega arith
placed_in (Read word value ∷ log) a i = let r = placed_in log a i in omega arith
placed_in (Added word value ∷ log) a i = let r = placed_in log a i in omega arith

in_later : {X : Type 0} (x : X) (xs ys : List X) → In x ys → In x (xs ++ ys)
in_later x [] ys i = i
in_later x (y ∷ xs) ys i = inr (in_later x xs ys i)

in_pushed : {X : Type 0} (x y : X) (xs : List X) → In x (xs ++ y ∷ []) → In x xs ⊎ (y ≡ x)
in_pushed x y [] i = elim i [ inl e ↦ inr e | inr j ↦ absurd j ]
in_pushed x y (z ∷ xs) i = elim i [
  | inl e ↦ inl (inl e)
  | inr j ↦ elim (in_pushed x y xs j) [ inl k ↦ inl (inr k) | inr e ↦ inr e ]
]

pub in_at : {X : Type 0} (xs : List X) (i : ℕ) (x d : X) → i < length xs → x ≡ get_or xs i d → In x xs
in_at [] i x d l e = absurd (omega arith)
in_at (y ∷ xs) zero x d l e = inl (sym e)
in_at (y ∷ xs) (suc i) x d l e = inr (in_at xs i x d (omega arith) e)

pub found_at : (xs : List Object) (i : ℕ) (d : Object) (page index : ℕ) → i < length xs → IsAt page index (get_or xs i d) → (o : Object) × In o xs × IsAt page index o
found_at xs i d page index l at = (get_or xs i d, in_at xs i (get_or xs i d) d l refl, at)

-- ---- objects

pub grows-trans : (a b c : Seen) → Grows a b → Grows b c → Grows a c
grows-trans a b c x y = (y.0 ++ x.0, y.1 ∙ ap (λ (l : List Entry). y.0 ++ l) x.1 ∙ sym (append_assoc y.0 x.0 a.view.own.log))

pub grows-same : (a b : Seen) → b ≡ a → Grows a b
grows-same a b e = ([], ap (λ (w : Seen). w.view.own.log) e)

pub objects-grow : (a b : Seen) (objects : List Object) → Grows a b → AreObjects a.view.own.log objects → AreObjects b.view.own.log objects
objects-grow a b objects g are o i = let x = are o i in
    subst (λ (log : List Entry). IsObject log o) (sym g.1)
    (x.0, subst (In x.0) (sym (placings-append g.0 a.view.own.log)) (in_later x.0 (placings g.0) (placings a.view.own.log) x.1), x.2, x.3, x.4)

pub objects-none : (log : List Entry) → AreObjects log []
objects-none log o i = absurd i

least_one : (size a b : ℕ) → IsLeastClass size a → IsLeastClass size b → a ≡ b
least_one size a b x y = let p = x.least b y.is_class y.room in let q = y.least a x.is_class x.room in omega arith

pub half : (class : ℕ) (scan : Bool) → span_class_of class scan / 2 ≡ class
half class true = omega arith
half class false = omega arith

not_large : (class : ℕ) (scan : Bool) → 1 ≤ class → nat_lt (span_class_of class scan) 2 ≡ false
not_large class true low = grind arith
not_large class false low = grind arith

count_is : (class : ℕ) (scan : Bool) → 1 ≤ class → count_for (span_class_of class scan) ≡ objects_of class
count_is class scan low = rw (not_large class scan low) (ap objects_of (half class scan))

-- of each size class
abbrev fit_all : List ℕ → List ℕ → List ℕ → Bool
fit_all [] pages counts = true
fit_all (slot ∷ slots) [] counts = false
fit_all (slot ∷ slots) (page ∷ pages) [] = false
fit_all (slot ∷ slots) (page ∷ pages) (count ∷ counts) = leb (slot * count) (8192 * page) && fit_all slots pages counts

fit-at : (slots pages counts : List ℕ) (k : ℕ) → fit_all slots pages counts ≡ true → k < length slots → get_or slots k 0 * get_or counts k 0 ≤ 8192 * get_or pages k 0
fit-at [] pages counts k h lt = absurd (omega arith)
fit-at (slot ∷ slots) [] counts k h lt = absurd (cc)
fit-at (slot ∷ slots) (page ∷ pages) [] k h lt = absurd (cc)
fit-at (slot ∷ slots) (page ∷ pages) (count ∷ counts) zero h lt = leb-true (slot * count) (8192 * page) (and_parts (leb (slot * count) (8192 * page)) (fit_all slots pages counts) h).0
fit-at (slot ∷ slots) (page ∷ pages) (count ∷ counts) (suc k) h lt = fit-at slots pages counts k (and_parts (leb (slot * count) (8192 * page)) (fit_all slots pages counts) h).1 (omega arith)

class-room : (class : ℕ) → IsClass class → slot_of class * objects_of class ≤ 8192 * pages_of class
unfolding slot_of objects_of pages_of
class-room class is_class = fit-at slot_sizes page_counts object_counts class refl (omega arith)

-- one object more
pub object-more : (w : Seen) (objects more : List Object) (o : Object) (size class slot : ℕ) → AreObjects w.view.own.log objects → IsPlaced size o.addr w → IsLeastClass size class → slot ≡ slot_of class → pages_of class ≡ 1 → 1 ≤ slot → o.slot ≡ slot
    → more ≡ objects ++ o ∷ [] → AreObjects w.view.own.log more
object-more w objects more o size class slot are p least is one low same e = subst (AreObjects w.view.own.log) (sym e) each
  where
    class_is : p.0 ≡ class
    class_is = least_one size p.0 class p.3 least

    slot_is : o.slot ≡ slot_of p.0
    slot_is = same ∙ is ∙ ap slot_of (sym class_is)

    fits : o.slot * count_for p.2.class ≤ 8192
    fits = let c : count_for p.2.class ≡ objects_of p.0 = ap count_for p.5 ∙ count_is p.0 p.1 p.3.is_class.0 in
        let r = class-room p.0 p.3.is_class in let n : pages_of p.0 ≡ 1 = ap pages_of class_is ∙ one in
        subst (λ (x : ℕ). x * count_for p.2.class ≤ 8192) (sym slot_is) (subst (λ (x : ℕ). slot_of p.0 * x ≤ 8192) (sym c) (subst (λ (x : ℕ). slot_of p.0 * objects_of p.0 ≤ 8192 * x) n r))

    new : IsObject w.view.own.log o
    new = (p.2, p.4, subst (λ (x : ℕ). o.addr ≡ address_of p.2.page x p.2.index) (sym slot_is) p.6, fits, omega arith)

    each : AreObjects w.view.own.log (objects ++ o ∷ [])
    each x i = elim (in_pushed x o objects i) [ inl j ↦ are x j | inr q ↦ subst (IsObject w.view.own.log) q new ]

-- the same of a list with room
pub object-pushed : (w : Seen) (objects : List Object) (mid more : Roomy Object) (o : Object) (size class slot : ℕ) → AreObjects w.view.own.log objects → IsPlaced size o.addr w → IsLeastClass size class → slot ≡ slot_of class → pages_of class ≡ 1 → 1 ≤ slot → o.slot ≡ slot
    → mid.items ≡ objects → more ≡ record mid { items = mid.items ++ o ∷ [] } → AreObjects w.view.own.log more.items
object-pushed w objects mid more o size class slot are p least is one low same e m =
    object-more w objects more.items o size class slot are p least is one low same (ap (λ (r : Roomy Object). r.items) m ∙ ap (λ (l : List Object). l ++ o ∷ []) e)

-- ---- marks

times_more : (s i n : ℕ) → i < n → s * i + s ≤ s * n
times_more s i n l = let m : s * suc i ≤ s * n = mul-le-mul_left s l in omega arith

same_place : (p q x y : ℕ) → x < 8192 → y < 8192 → 824633720832 + 8192 * p + x ≡ 824633720832 + 8192 * q + y → (p ≡ q) × (x ≡ y)
same_place p q x y a b e = (omega arith, omega arith)

same_index : (s i j : ℕ) → 0 < s → s * i ≡ s * j → i ≡ j
same_index s i j positive e = elim (lt_or_le i j) [
  | inl below ↦ (let m = times_more s i j below in absurd (omega arith))
  | inr above ↦ elim (lt_or_le j i) [
    | inl more ↦ (let m = times_more s j i more in absurd (omega arith))
    | inr same ↦ omega arith
  ]
]
  where
    lt_or_le : (a b : ℕ) → (a < b) ⊎ (b ≤ a)
    lt_or_le a b = cases_lt a b

module _ (table : TableId) (w : Seen) (c : Cache) (r : IsServed table w c) (s : HasSettled w c) (before m : MarkSet) (objects : List Object) (are : AreObjects w.view.own.log objects) (marks : before.pairs ≡ w.view.marks) (live : AreLive before objects m) where
  low : w.number < length w.view.parts
  low = let n = r.parts in let d = r.driver in omega arith

  at_own : (page index : ℕ) (o : Object) → In o objects → IsAt page index o → 0 < many (is_placing_at page index) w.view.own.log
  at_own page index o i at =
      let x = are o i in let a = x.0 in
      let below : o.slot * a.index < 8192 = (let t = times_more o.slot a.index (count_for a.class) (s.below a x.1) in let f = x.3 in let g = x.4 in omega arith) in
      let same = same_place page a.page (o.slot * index) (o.slot * a.index) at.1 below (sym at.0 ∙ x.2) in
      let k : index ≡ a.index = same_index o.slot index a.index x.4 same.1 in
      subst (λ (p : ℕ). 0 < many (is_placing_at p index) w.view.own.log) (sym same.0) (subst (λ (j : ℕ). 0 < many (is_placing_at a.page j) w.view.own.log) (sym k) (placed_in w.view.own.log a x.1))

  known_pair : (p : ℕ × ℕ) → is_marked m p.0 p.1 ≡ true → IsKnown w.number w.view p
  known_pair p h = elim (live.known p.0 p.1 h) [
    | inl old ↦ inl (subst (λ (l : List (ℕ × ℕ)). has_pair l p.0 p.1 ≡ true) marks old)
    | inr x ↦ inr (w.number, w.view.own, set_here w.view.parts w.number w.view.own low, at_own p.0 p.1 x.0 x.1 x.2)
  ]

  has_own : (all : List (ℕ × ℕ)) (p : ℕ × ℕ) → In p all → has_pair all p.0 p.1 ≡ true
  has_own [] p h = absurd h
  has_own (x ∷ all) p h = elim h [
    | inl here ↦ (
        let a : eqb x.0 p.0 ≡ true = eq-eqb x.0 p.0 (ap (λ (y : ℕ × ℕ). y.0) here) in
        let b : eqb x.1 p.1 ≡ true = eq-eqb x.1 p.1 (ap (λ (y : ℕ × ℕ). y.1) here) in
        rw (a, b) refl)
    | inr there ↦ (let rest = has_own all p there in elim (cases_Bool (eqb x.0 p.0 && eqb x.1 p.1)) [ inl on ↦ rw on refl | inr off ↦ rw off rest ])
  ]

  each_known : (some : List (ℕ × ℕ)) → ((p : ℕ × ℕ) → In p some → In p m.pairs) → AllByRecursion (IsKnown w.number w.view) some
  each_known [] sub = tt
  each_known (p ∷ rest) sub = (known_pair p (has_own m.pairs p (sub p (inl refl))), each_known rest (λ x i. sub x (inr i)))

  pub all_known : AllByRecursion (IsKnown w.number w.view) m.pairs
  all_known = each_known m.pairs (λ p i. i)
