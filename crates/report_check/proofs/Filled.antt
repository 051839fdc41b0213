-- Rule 6 by what is known of each life and of each processor's span class.
use Rattle.std.proofs.Common.{◌≡◌, ◌≢◌, ℕ, ◌+◌, ◌<◌, ◌≤◌, true, eqb, max, List, length, set, get_or, Option, Some, None, refl, sym, ◌∙◌, ap, subst, arith, ◌⊎◌, inl, inr}
use Rattle.std.specs.List.{slice_get}
use Rattle.std.proofs.lemmas.Bool.{cases_lt, cases_eq, cases_order, cases_Bool, eqb-true}
use Rattle.std.proofs.lemmas.List.{get_or-set_same, get_or-set_other, length-set}
use Rattle.std.proofs.lemmas.Option.{slice_get_within}
use Rattle.trace_reader.specs.declared.trace.Trace.{Trace}
use Rattle.cycle_history.specs.declared.Report.{Report}
use Rattle.cycle_history.specs.Requests.{marked_by}
use Rattle.cycle_history.specs.Objects.{Object, is_placed, Holds, IsHeld}
use Rattle.cycle_history.specs.Rules.{AreFilled, IsSmall}
use Rattle.sound_run.specs.Run.{count_for}
use Rattle.report_check.specs.Lines.{IsLeast}
use Rattle.report_check.specs.Placing.{BreaksFilling, IsMisplaced}
use Rattle.report_check.specs.declared.items.Item.{Item}
use Rattle.report_check.specs.declared.tops.Tops.{Tops}
use Rattle.report_check.specs.declared.filling.Fill.{Fill}
use Rattle.report_check.specs.declared.filling.Newest.{Newest}
use Rattle.report_check.specs.declared.filling.Filling.{Filling}
use Rattle.report_check.specs.Items.{object_of, objects_of}
use Rattle.report_check.specs.Lasts.{last_at}
use Rattle.report_check.specs.Tops.{top_at}
use Rattle.report_check.specs.Known.{AreKnownItems, AreTops, IsSatFrom}
use Rattle.report_check.specs.Filling.{AreFills, AreNewest, HasFillingRoom, IsEmptyFilling, IsSmallItem, IsTakenUp, fill_at, filled_by, newest_at, newest_by, next_in, place_of_class}
use Rattle.report_check.specs.Fitting.{IsFitting, IsUnfitting}
use Rattle.report_check.proofs.Numbered.{item-of, object-in}
use Rattle.report_check.proofs.Settled.{asked-at}
use Rattle.report_check.proofs.Lasting.{cycles-rise}
use Rattle.report_check.proofs.Clearing.{placed-item, placed-inside, sat-on, tops-more, tops-none, tops-other}

some-same : {X : Type 0} {x y : X} → Some x ≡ Some y → x ≡ y
some-same h = cc

none-some : {X : Type 0} {x : X} → None ≡ Some x → ⊥
none-some h = cc

-- the small items before one are of its cycle or earlier ones
rises : (t : Trace) (report : Report) (items : List Item) (lasts : List ℕ) (i n : ℕ) (a b : Item) → AreKnownItems t report items lasts → slice_get items i ≡ Some a → slice_get items n ≡ Some b → i ≤ n → a.cycle ≤ b.cycle
rises t report items lasts i n a b known ia nb le = cycles-rise t i n a b (asked-at t report items i a known.answers ia) (asked-at t report items n b known.answers nb) le

-- ---- what an item holds

pub sat-held : (t : Trace) (report : Report) (items : List Item) (lasts : List ℕ) (n life k : ℕ) (item : Item) → AreKnownItems t report items lasts → slice_get items n ≡ Some item → IsSatFrom items lasts n life k item.cycle
    → IsHeld (marked_by t) (objects_of items) item.cycle n life k
sat-held t report items lasts n life k item known at sat =
    let lt = sat.before in
    let order = rises t report items lasts sat.number n sat.item item known sat.at at (omega arith) in (
      object_of sat.number sat.item,
      object-in items sat.number sat.item sat.at,
      record {
        placed = sat.placed;
        life = sat.life_is;
        index = sat.index_is;
        when = elim (cases_eq sat.item.cycle item.cycle) [
          | inl same ↦ inr (same, lt)
          | inr other ↦ inl ((known.until.marked sat.number item.cycle sat.item sat.at).1 (omega arith, sat.lives))
        ];
      },
    )

pub held-sat : (t : Trace) (report : Report) (items : List Item) (lasts : List ℕ) (n life k : ℕ) (item : Item) → AreKnownItems t report items lasts → slice_get items n ≡ Some item → IsHeld (marked_by t) (objects_of items) item.cycle n life k
    → IsSatFrom items lasts n life k item.cycle
held-sat t report items lasts n life k item known at held =
    let x = item-of items held.0 held.1 in
    let h : Holds (marked_by t) item.cycle n life k (object_of x.number x.item) = subst (λ (o : Object). Holds (marked_by t) item.cycle n life k o) x.is held.2 in
    elim h.when [
      | inl on ↦ (
          let w = (known.until.marked x.number item.cycle x.item x.at).0 on in
          let early = w.0 in
          record {
            number = x.number;
            item = x.item;
            before = elim (cases_lt x.number n) [ inl lt ↦ lt | inr ge ↦ (let r = rises t report items lasts n x.number item x.item known at x.at ge in absurd (omega arith)) ];
            at = x.at;
            placed = h.placed;
            life_is = h.life;
            index_is = h.index;
            lives = w.1;
          })
      | inr own ↦ (
          let e : x.item.cycle ≡ item.cycle = own.0 in
          let last = known.until.own x.number x.item x.at in
          record { number = x.number; item = x.item; before = own.1; at = x.at; placed = h.placed; life_is = h.life; index_is = h.index; lives = omega arith })
    ]

-- two small items of one span class have as many slots
count-same : (t : Trace) (report : Report) (items : List Item) (lasts : List ℕ) (i n : ℕ) (a b : Item) → AreKnownItems t report items lasts → slice_get items i ≡ Some a → slice_get items n ≡ Some b → IsSmallItem a → IsSmallItem b → a.class ≡ b.class
    → a.count ≡ b.count
count-same t report items lasts i n a b known ia nb sa sb e =
    let pa = placed-item t report items lasts i a known ia sa.0 in
    let pb = placed-item t report items lasts n b known nb sb.0 in
    pa.fits.count ∙ (ap count_for e ∙ sym pb.fits.count)

-- ---- an item in its place

pub record IsInPlace (items : List Item) (lasts : List ℕ) (n : ℕ) (item : Item) : Type 0 where
  pub one : (i : ℕ) (a : Item) → i < n → slice_get items i ≡ Some a → IsSmallItem a → a.cycle ≡ item.cycle → a.life ≡ item.life → a.proc ≡ item.proc
  pub gap : (j : ℕ) → j < item.index → IsSatFrom items lasts n item.life j item.cycle
  pub left : (i : ℕ) (a : Item) → i < n → slice_get items i ≡ Some a → IsSmallItem a → a.cycle ≡ item.cycle → a.proc ≡ item.proc → a.class ≡ item.class → a.life ≢ item.life → (j : ℕ) → j < a.count → IsSatFrom items lasts n a.life j item.cycle

-- what an earlier item's entry says of the cycle, where the item is of the cycle
next-some : (fill : Option Fill) (cycle j : ℕ) → j < next_in fill cycle → (its : Fill) × (fill ≡ Some its) × (its.cycle ≡ cycle) × (j < its.next)
next-some None cycle j lt = absurd (omega arith)
next-some (Some its) cycle j lt = elim (cases_Bool (eqb its.cycle cycle)) [
  | inl on ↦ (its, refl, eqb-true its.cycle cycle on, rw on at lt)
  | inr off ↦ absurd (let l : j < 0 = rw off at lt in omega arith)
]

pub in-place : (t : Trace) (report : Report) (items : List Item) (lasts : List ℕ) (n : ℕ) (item : Item) (filling : Filling) → AreKnownItems t report items lasts → slice_get items n ≡ Some item → IsSmallItem item
    → AreTops items lasts n filling.tops → AreFills items lasts n filling → AreNewest items lasts n filling → IsFitting filling item → IsInPlace items lasts n item
in-place t report items lasts n item filling known at small tops fills newest fits = record {
  one = λ i a lt ia sa cycle life. (
      let e = fills.each i a lt ia sa in
      let its = e.0 in
      let here : fill_at filling item.life ≡ Some its = subst (λ (k : ℕ). fill_at filling k ≡ Some its) life e.1 in
      let s = fills.some item.life its here in
      let less = s.2 in
      let order = rises t report items lasts s.0 n s.1 item known s.3 at (omega arith) in
      let cycle' = s.6 in
      let le = e.2 in
      let now : its.cycle ≡ item.cycle = omega arith in
      e.3 (cycle ∙ sym now) ∙ fits.own its here now);
  gap = λ j lt. elim (cases_lt j (next_in (fill_at filling item.life) item.cycle)) [
    | inl known' ↦ (
        let s = next-some (fill_at filling item.life) item.cycle j known' in
        subst (λ (c : ℕ). IsSatFrom items lasts n item.life j c) s.2 (fills.held item.life j s.0 s.1 s.3))
    | inr ge ↦ (tops item.life j item.cycle).0 (fits.below j ge lt)
  ];
  left = λ i a lt ia sa cycle proc class life j inside. (
      let e = newest.each i a lt ia sa in
      let its = e.0 in
      let place : place_of_class a.proc a.class ≡ place_of_class item.proc item.class = ap (λ (p : ℕ). place_of_class p a.class) proc ∙ ap (λ (k : ℕ). place_of_class item.proc k) class in
      let here : newest_at filling (place_of_class item.proc item.class) ≡ Some its = subst (λ (k : ℕ). newest_at filling k ≡ Some its) place e.1 in
      let s = newest.some (place_of_class item.proc item.class) its here in
      let less = s.2 in
      let order = rises t report items lasts s.0 n s.1 item known s.3 at (omega arith) in
      let cycle' = s.6 in
      let le = e.2 in
      let now : its.cycle ≡ item.cycle = omega arith in
      elim (e.3 (cycle ∙ sym now)) [
        | inl same ↦ (
            let other : its.life ≢ item.life = λ k. life (same ∙ k) in
            let count = count-same t report items lasts i n a item known ia at sa small class in
            let above = fits.full its.life (record { its = its; is = here; now = now; other = other; life = refl }) j (omega arith) (omega arith) in
            subst (λ (k : ℕ). IsSatFrom items lasts n k j item.cycle) (sym same) ((tops its.life j item.cycle).0 above))
        | inr full ↦ subst (λ (c : ℕ). IsSatFrom items lasts n a.life j c) now (full j inside)
      ]);
}

-- an index that is free isn't held
not-held : (t : Trace) (report : Report) (items : List Item) (lasts : List ℕ) (n life j : ℕ) (item : Item) (tops : Tops) → AreKnownItems t report items lasts → slice_get items n ≡ Some item → AreTops items lasts n tops → top_at tops life j ≤ item.cycle
    → ¬ IsHeld (marked_by t) (objects_of items) item.cycle n life j
not-held t report items lasts n life j item tops known at are le held =
    let above = (are life j item.cycle).1 (held-sat t report items lasts n life j item known at held) in
    omega arith

places-same : (p q k l : ℕ) → k < 136 → l < 136 → place_of_class p k ≡ place_of_class q l → (p ≡ q) × (k ≡ l)
places-same p q k l kl ll e = elim (cases_order p q) [
  | inl same ↦ (same, omega arith)
  | inr order ↦ elim order [ inl lt ↦ absurd (omega arith) | inr gt ↦ absurd (omega arith) ]
]

pub misplaced : (t : Trace) (report : Report) (items : List Item) (lasts : List ℕ) (n : ℕ) (item : Item) (filling : Filling) → AreKnownItems t report items lasts → slice_get items n ≡ Some item → IsSmallItem item
    → AreTops items lasts n filling.tops → AreFills items lasts n filling → AreNewest items lasts n filling → IsUnfitting filling item → IsMisplaced (marked_by t) (objects_of items) (object_of n item)
misplaced t report items lasts n item filling known at small tops fills newest un = elim un [
  | inl others ↦ (
      let s = fills.some item.life others.its others.is in
      let proc = s.7 in
      inl (
        object_of s.0 s.1,
        record {
          earlier = record { among = object-in items s.0 s.1 s.3; small = s.4; before = s.2; cycle = s.6 ∙ others.now };
          life = s.5;
          other = λ e. others.other (sym proc ∙ e);
        },
      ))
  | inr rest ↦ elim rest [
    | inl free ↦ inr (inl (free.0, record { below = free.2; free = not-held t report items lasts n item.life free.0 item filling.tops known at tops free.3 }))
    | inr left ↦ (
        let is = left.1 in
        let s = newest.some (place_of_class item.proc item.class) is.its is.is in
        let pa = placed-item t report items lasts s.0 s.1 known s.3 s.4.0 in
        let pb = placed-item t report items lasts n item known at small.0 in
        let same = places-same s.1.proc item.proc s.1.class item.class pa.class pb.class s.5 in
        let count = count-same t report items lasts s.0 n s.1 item known s.3 at s.4 small same.1 in
        let free = left.2 in
        let j = free.0 in
        let lt = free.2 in
        let life : left.0 ≡ s.1.life = is.life ∙ sym s.7 in
        inr (inr (
          object_of s.0 s.1,
          j,
          record {
            earlier = record { among = object-in items s.0 s.1 s.3; small = s.4; before = s.2; cycle = s.6 ∙ is.now };
            proc = same.0;
            class = same.1;
            other = λ e. is.other (sym s.7 ∙ e);
            inside = (let l : j < s.1.count = omega arith in l);
            free = subst (λ (k : ℕ). ¬ IsHeld (marked_by t) (objects_of items) item.cycle n k j) life (not-held t report items lasts n left.0 j item filling.tops known at tops free.3);
          },
        )))
  ]
]

-- ---- one item more

pub fills-none : (items : List Item) (lasts : List ℕ) (filling : Filling) → IsEmptyFilling filling → AreFills items lasts 0 filling
fills-none items lasts filling none = record {
  held = λ life j fill is lt. absurd (none-some (sym (none.fills life) ∙ is));
  some = λ life fill is. absurd (none-some (sym (none.fills life) ∙ is));
  each = λ i item lt at small. absurd (omega arith);
}

pub newest-none : (items : List Item) (lasts : List ℕ) (filling : Filling) → IsEmptyFilling filling → AreNewest items lasts 0 filling
newest-none items lasts filling none = record {
  some = λ place its is. absurd (none-some (sym (none.newest place) ∙ is));
  each = λ i item lt at small. absurd (omega arith);
}

-- the newest of the items, or one of those before it
item-cases : (items : List Item) (i n : ℕ) (a item : Item) → i < n + 1 → slice_get items i ≡ Some a → slice_get items n ≡ Some item → (i < n) ⊎ ((i ≡ n) × (a ≡ item))
item-cases items i n a item lt ia at = elim (cases_eq i n) [
  | inr other ↦ inl (omega arith)
  | inl same ↦ inr (same, some-same (sym (subst (λ (k : ℕ). slice_get items k ≡ Some a) same ia) ∙ at))
]

fill-here : (old new : Filling) (item : Item) (lives : ℕ) → item.life < length old.fills.items → new.fills.items ≡ set old.fills.items item.life (Some (filled_by (fill_at old item.life) item)) → fill_at new item.life ≡ Some (filled_by (fill_at old item.life) item)
fill-here old new item lives lt e = ap (λ (xs : List (Option Fill)). get_or xs item.life None) e ∙ get_or-set_same old.fills.items item.life (Some (filled_by (fill_at old item.life) item)) None lt

fill-other : (old new : Filling) (item : Item) (life : ℕ) → life ≢ item.life → new.fills.items ≡ set old.fills.items item.life (Some (filled_by (fill_at old item.life) item)) → fill_at new life ≡ fill_at old life
fill-other old new item life ne e = ap (λ (xs : List (Option Fill)). get_or xs life None) e ∙ get_or-set_other old.fills.items item.life life (Some (filled_by (fill_at old item.life) item)) None ne

newest-here : (old new : Filling) (item : Item) → place_of_class item.proc item.class < length old.newest.items → new.newest.items ≡ set old.newest.items (place_of_class item.proc item.class) (Some (newest_by item)) → newest_at new (place_of_class item.proc item.class) ≡ Some (newest_by item)
newest-here old new item lt e = ap (λ (xs : List (Option Newest)). get_or xs (place_of_class item.proc item.class) None) e ∙ get_or-set_same old.newest.items (place_of_class item.proc item.class) (Some (newest_by item)) None lt

newest-other : (old new : Filling) (item : Item) (place : ℕ) → place ≢ place_of_class item.proc item.class → new.newest.items ≡ set old.newest.items (place_of_class item.proc item.class) (Some (newest_by item)) → newest_at new place ≡ newest_at old place
newest-other old new item place ne e = ap (λ (xs : List (Option Newest)). get_or xs place None) e ∙ get_or-set_other old.newest.items (place_of_class item.proc item.class) place (Some (newest_by item)) None ne

pub fills-more : (t : Trace) (report : Report) (items : List Item) (lasts : List ℕ) (n : ℕ) (item : Item) (old new : Filling) → AreKnownItems t report items lasts → slice_get items n ≡ Some item → IsSmallItem item → item.life < length old.fills.items
    → IsInPlace items lasts n item → new.fills.items ≡ set old.fills.items item.life (Some (filled_by (fill_at old item.life) item)) → AreFills items lasts n old → AreFills items lasts (n + 1) new
fills-more t report items lasts n item old new known at small room place e are = record {
  held = λ life j fill is lt. elim (cases_eq life item.life) [
    | inr other ↦ sat-on items lasts n (n + 1) life j fill.cycle (omega arith) (are.held life j fill (sym (fill-other old new item life other e) ∙ is) lt)
    | inl same ↦ (
        let here : fill_at new item.life ≡ Some fill = subst (λ (k : ℕ). fill_at new k ≡ Some fill) same is in
        let its : filled_by (fill_at old item.life) item ≡ fill = some-same (sym (fill-here old new item 0 room e) ∙ here) in
        let lt' : j < max (next_in (fill_at old item.life) item.cycle) (item.index + 1) = subst (λ (k : ℕ). j < k) (sym (ap (λ (f : Fill). f.next) its)) lt in
        let cycle : item.cycle ≡ fill.cycle = ap (λ (f : Fill). f.cycle) its in
        let sat : IsSatFrom items lasts (n + 1) item.life j item.cycle = elim (cases_order j item.index) [
          | inl equal ↦ record { number = n; item = item; before = omega arith; at = at; placed = small.0; life_is = refl; index_is = sym equal; lives = known.until.own n item at }
          | inr order ↦ elim order [
            | inl below ↦ sat-on items lasts n (n + 1) item.life j item.cycle (omega arith) (place.gap j below)
            | inr above ↦ (
                let s = next-some (fill_at old item.life) item.cycle j (omega arith) in
                subst (λ (c : ℕ). IsSatFrom items lasts (n + 1) item.life j c) s.2 (sat-on items lasts n (n + 1) item.life j s.0.cycle (omega arith) (are.held item.life j s.0 s.1 s.3)))
          ]
        ] in
        subst (λ (k : ℕ). IsSatFrom items lasts (n + 1) k j fill.cycle) (sym same) (subst (λ (c : ℕ). IsSatFrom items lasts (n + 1) item.life j c) cycle sat))
  ];
  some = λ life fill is. elim (cases_eq life item.life) [
    | inr other ↦ (let s = are.some life fill (sym (fill-other old new item life other e) ∙ is) in let lt = s.2 in (s.0, s.1, omega arith, s.3, s.4, s.5, s.6, s.7))
    | inl same ↦ (
        let here : fill_at new item.life ≡ Some fill = subst (λ (k : ℕ). fill_at new k ≡ Some fill) same is in
        let its : filled_by (fill_at old item.life) item ≡ fill = some-same (sym (fill-here old new item 0 room e) ∙ here) in
        (n, item, omega arith, at, small, sym same, ap (λ (f : Fill). f.cycle) its, ap (λ (f : Fill). f.proc) its))
  ];
  each = λ i a lt ia sa. elim (item-cases items i n a item lt ia at) [
    | inr new' ↦ (
        let life = ap (λ (x : Item). x.life) new'.1 in
        let cycle = ap (λ (x : Item). x.cycle) new'.1 in
        let proc = ap (λ (x : Item). x.proc) new'.1 in
        (filled_by (fill_at old item.life) item, subst (λ (k : ℕ). fill_at new k ≡ Some (filled_by (fill_at old item.life) item)) (sym life) (fill-here old new item 0 room e), omega arith, λ same. proc))
    | inl before ↦ elim (cases_eq a.life item.life) [
      | inl same ↦ (
        filled_by (fill_at old item.life) item,
        subst (λ (k : ℕ). fill_at new k ≡ Some (filled_by (fill_at old item.life) item)) (sym same) (fill-here old new item 0 room e),
        rises t report items lasts i n a item known ia at (omega arith),
        λ cycle. place.one i a before ia sa cycle same,
      )
      | inr other ↦ (let s = are.each i a before ia sa in (s.0, fill-other old new item a.life other e ∙ s.1, s.2, s.3))
    ]
  ];
}

pub newest-more : (t : Trace) (report : Report) (items : List Item) (lasts : List ℕ) (n : ℕ) (item : Item) (old new : Filling) → AreKnownItems t report items lasts → slice_get items n ≡ Some item → IsSmallItem item
    → place_of_class item.proc item.class < length old.newest.items → IsInPlace items lasts n item → new.newest.items ≡ set old.newest.items (place_of_class item.proc item.class) (Some (newest_by item)) → AreNewest items lasts n old → AreNewest items lasts (n + 1) new
newest-more t report items lasts n item old new known at small room in-place e are = record {
  some = λ place its is. elim (cases_eq place (place_of_class item.proc item.class)) [
    | inr other ↦ (let s = are.some place its (sym (newest-other old new item place other e) ∙ is) in let lt = s.2 in (s.0, s.1, omega arith, s.3, s.4, s.5, s.6, s.7))
    | inl same ↦ (
        let here : newest_at new (place_of_class item.proc item.class) ≡ Some its = subst (λ (k : ℕ). newest_at new k ≡ Some its) same is in
        let eq : newest_by item ≡ its = some-same (sym (newest-here old new item room e) ∙ here) in
        (n, item, omega arith, at, small, sym same, ap (λ (x : Newest). x.cycle) eq, ap (λ (x : Newest). x.life) eq))
  ];
  each = λ i a lt ia sa. elim (item-cases items i n a item lt ia at) [
    | inr new' ↦ (
        let place : place_of_class a.proc a.class ≡ place_of_class item.proc item.class = ap (λ (x : Item). place_of_class x.proc x.class) new'.1 in
        let cycle = ap (λ (x : Item). x.cycle) new'.1 in
        (newest_by item, subst (λ (k : ℕ). newest_at new k ≡ Some (newest_by item)) (sym place) (newest-here old new item room e), omega arith, λ same. inl (ap (λ (x : Item). x.life) new'.1)))
    | inl before ↦ elim (cases_eq (place_of_class a.proc a.class) (place_of_class item.proc item.class)) [
      | inr other ↦ (
          let s = are.each i a before ia sa in (
            s.0,
            newest-other old new item (place_of_class a.proc a.class) other e ∙ s.1,
            s.2,
            λ cycle. elim (s.3 cycle) [
              | inl life ↦ inl life
              | inr full ↦ inr (λ j inside. sat-on items lasts n (n + 1) a.life j s.0.cycle (omega arith) (full j inside))
            ],
          ))
      | inl same ↦ (
          let pa = placed-item t report items lasts i a known ia sa.0 in
          let pb = placed-item t report items lasts n item known at small.0 in
          let parts = places-same a.proc item.proc a.class item.class pa.class pb.class same in (
            newest_by item,
            subst (λ (k : ℕ). newest_at new k ≡ Some (newest_by item)) (sym same) (newest-here old new item room e),
            rises t report items lasts i n a item known ia at (omega arith),
            λ cycle. elim (cases_eq a.life item.life) [
              | inl life ↦ inl life
              | inr life ↦ inr (λ j inside. sat-on items lasts n (n + 1) a.life j item.cycle (omega arith) (in-place.left i a before ia sa cycle parts.0 parts.1 life j inside))
            ],
          ))
    ]
  ];
}

pub fills-other : (items : List Item) (lasts : List ℕ) (n : ℕ) (item : Item) (old new : Filling) → slice_get items n ≡ Some item → (IsSmallItem item → ⊥) → new.fills.items ≡ old.fills.items → AreFills items lasts n old → AreFills items lasts (n + 1) new
fills-other items lasts n item old new at off e are = record {
  held = λ life j fill is lt. sat-on items lasts n (n + 1) life j fill.cycle (omega arith) (are.held life j fill (sym (same life) ∙ is) lt);
  some = λ life fill is. (let s = are.some life fill (sym (same life) ∙ is) in let lt = s.2 in (s.0, s.1, omega arith, s.3, s.4, s.5, s.6, s.7));
  each = λ i a lt ia sa. elim (item-cases items i n a item lt ia at) [
    | inr new' ↦ absurd (off (subst (λ (x : Item). IsSmallItem x) new'.1 sa))
    | inl before ↦ (let s = are.each i a before ia sa in (s.0, same a.life ∙ s.1, s.2, s.3))
  ];
}
  where
    same : (life : ℕ) → fill_at new life ≡ fill_at old life
    same life = ap (λ (xs : List (Option Fill)). get_or xs life None) e

pub newest-same : (items : List Item) (lasts : List ℕ) (n : ℕ) (item : Item) (old new : Filling) → slice_get items n ≡ Some item → (IsSmallItem item → ⊥) → new.newest.items ≡ old.newest.items → AreNewest items lasts n old → AreNewest items lasts (n + 1) new
newest-same items lasts n item old new at off e are = record {
  some = λ place its is. (let s = are.some place its (sym (same place) ∙ is) in let lt = s.2 in (s.0, s.1, omega arith, s.3, s.4, s.5, s.6, s.7));
  each = λ i a lt ia sa. elim (item-cases items i n a item lt ia at) [
    | inr new' ↦ absurd (off (subst (λ (x : Item). IsSmallItem x) new'.1 sa))
    | inl before ↦ (
        let s = are.each i a before ia sa in (
          s.0,
          same (place_of_class a.proc a.class) ∙ s.1,
          s.2,
          λ cycle. elim (s.3 cycle) [
            | inl life ↦ inl life
            | inr full ↦ inr (λ j inside. sat-on items lasts n (n + 1) a.life j s.0.cycle (omega arith) (full j inside))
          ],
        ))
  ];
}
  where
    same : (place : ℕ) → newest_at new place ≡ newest_at old place
    same place = ap (λ (xs : List (Option Newest)). get_or xs place None) e

-- ---- all items so far

abbrev pub AreInPlace : List Item → List ℕ → ℕ → Type 0
AreInPlace items lasts n = (i : ℕ) (item : Item) → i < n → slice_get items i ≡ Some item → IsSmallItem item → IsInPlace items lasts i item

pub placed-none : (items : List Item) (lasts : List ℕ) → AreInPlace items lasts 0
placed-none items lasts i item lt at small = absurd (omega arith)

pub placed-more : (items : List Item) (lasts : List ℕ) (n : ℕ) (item : Item) → slice_get items n ≡ Some item → (IsSmallItem item → IsInPlace items lasts n item) → AreInPlace items lasts n → AreInPlace items lasts (n + 1)
placed-more items lasts n item at here are i a lt ia sa = elim (item-cases items i n a item lt ia at) [
  | inl before ↦ are i a before ia sa
  | inr new ↦ (
      let is = here (subst (λ (x : Item). IsSmallItem x) new.1 sa) in
      subst (λ (x : Item). IsInPlace items lasts i x) (sym new.1) (subst (λ (k : ℕ). IsInPlace items lasts k item) (sym new.0) is))
]

small-item : (o : Object) (n : ℕ) (item : Item) → o ≡ object_of n item → IsSmall o → IsSmallItem item
small-item o n item e small = subst (λ (x : Object). IsSmall x) e small

-- an item in its place isn't misplaced
not-misplaced : (t : Trace) (report : Report) (items : List Item) (lasts : List ℕ) (n : ℕ) (item : Item) → AreKnownItems t report items lasts → slice_get items n ≡ Some item → IsInPlace items lasts n item
    → ¬ IsMisplaced (marked_by t) (objects_of items) (object_of n item)
not-misplaced t report items lasts n item known at is wrong = elim wrong [
  | inl two ↦ (
      let x = item-of items two.0 two.1.earlier.among in
      let id : two.0.id ≡ x.number = ap (λ (o : Object). o.id) x.is in
      let before : two.0.id < n = two.1.earlier.before in
      two.1.other (ap (λ (o : Object). o.proc) x.is ∙ is.one x.number x.item (omega arith) x.at (small-item two.0 x.number x.item x.is two.1.earlier.small) (ap (λ (o : Object). o.cycle) (sym x.is) ∙ two.1.earlier.cycle) (ap (λ (o : Object). o.life) (sym x.is) ∙ two.1.life)))
  | inr rest ↦ elim rest [
    | inl gap ↦ gap.1.free (sat-held t report items lasts n item.life gap.0 item known at (is.gap gap.0 gap.1.below))
    | inr left ↦ (
        let w = left.2 in
        let a = left.0 in
        let x = item-of items a w.earlier.among in
        let id : a.id ≡ x.number = ap (λ (o : Object). o.id) x.is in
        let before : a.id < n = w.earlier.before in
        let life : x.item.life ≡ a.life = ap (λ (o : Object). o.life) (sym x.is) in
        let count : x.item.count ≡ a.need.count = ap (λ (o : Object). o.need.count) (sym x.is) in
        let inside = w.inside in
        let sat = is.left x.number x.item (omega arith) x.at (small-item a x.number x.item x.is w.earlier.small) (ap (λ (o : Object). o.cycle) (sym x.is) ∙ w.earlier.cycle) (ap (λ (o : Object). o.proc) (sym x.is) ∙ w.proc)
        (ap (λ (o : Object). o.need.class) (sym x.is) ∙ w.class) (λ e. w.other (sym life ∙ e)) left.1 (omega arith) in
        w.free (sat-held t report items lasts n a.life left.1 item known at (subst (λ (k : ℕ). IsSatFrom items lasts n k left.1 item.cycle) life sat)))
  ]
]

pub filled-fault : (t : Trace) (report : Report) (items : List Item) (lasts : List ℕ) (n : ℕ) (item : Item) (filling : Filling) → AreKnownItems t report items lasts → slice_get items n ≡ Some item → IsSmallItem item
    → AreTops items lasts n filling.tops → AreFills items lasts n filling → AreNewest items lasts n filling → AreInPlace items lasts n → IsUnfitting filling item
    → IsLeast (BreaksFilling (marked_by t) (objects_of items)) (n + 1)
filled-fault t report items lasts n item filling known at small tops fills newest are un = record {
  here = record { object = object_of n item; among = object-in items n item at; small = small; wrong = misplaced t report items lasts n item filling known at small tops fills newest un; stands = refl };
  least = λ m less b. (
      let x = item-of items b.object b.among in
      let id : b.object.id ≡ x.number = ap (λ (o : Object). o.id) x.is in
      let s = b.stands in
      let is = are x.number x.item (omega arith) x.at (small-item b.object x.number x.item x.is b.small) in
      not-misplaced t report items lasts x.number x.item known x.at is (subst (λ (o : Object). IsMisplaced (marked_by t) (objects_of items) o) x.is b.wrong));
}

pub filled-all : (t : Trace) (report : Report) (items : List Item) (lasts : List ℕ) (n : ℕ) → AreKnownItems t report items lasts → length items ≤ n → AreInPlace items lasts n → AreFilled (marked_by t) (objects_of items)
filled-all t report items lasts n known all are = record {
  one_processor = λ a b ia ib sa sb cycle life. (
      let x = item-of items a ia in
      let y = item-of items b ib in
      let wx = slice_get_within items x.number x.item x.at in
      let wy = slice_get_within items y.number y.item y.at in
      let sx = small-item a x.number x.item x.is sa in
      let sy = small-item b y.number y.item y.is sb in
      let c : x.item.cycle ≡ y.item.cycle = ap (λ (o : Object). o.cycle) (sym x.is) ∙ (cycle ∙ ap (λ (o : Object). o.cycle) y.is) in
      let l : x.item.life ≡ y.item.life = ap (λ (o : Object). o.life) (sym x.is) ∙ (life ∙ ap (λ (o : Object). o.life) y.is) in
      let same : x.item.proc ≡ y.item.proc = elim (cases_order x.number y.number) [
        | inl equal ↦ ap (λ (i : Item). i.proc) (some-same (sym (subst (λ (k : ℕ). slice_get items k ≡ Some x.item) equal x.at) ∙ y.at))
        | inr order ↦ elim order [
          | inl lt ↦ (are y.number y.item (omega arith) y.at sy).one x.number x.item lt x.at sx c l
          | inr gt ↦ sym ((are x.number x.item (omega arith) x.at sx).one y.number y.item gt y.at sy (sym c) (sym l))
        ]
      ] in
      ap (λ (o : Object). o.proc) x.is ∙ (same ∙ ap (λ (o : Object). o.proc) (sym y.is)));
  no_gap = λ o io so j lt. (
      let x = item-of items o io in
      let wx = slice_get_within items x.number x.item x.at in
      let lt' : j < x.item.index = subst (λ (k : ℕ). j < k) (ap (λ (y : Object). y.index) x.is) lt in
      let held = sat-held t report items lasts x.number x.item.life j x.item known x.at ((are x.number x.item (omega arith) x.at (small-item o x.number x.item x.is so)).gap j lt') in
      subst (λ (y : Object). IsHeld (marked_by t) (objects_of items) y.cycle y.id y.life j) (sym x.is) held);
  full_first = λ a b ia ib sa sb cycle proc class less life j lt. (
      let x = item-of items a ia in
      let y = item-of items b ib in
      let wx = slice_get_within items x.number x.item x.at in
      let wy = slice_get_within items y.number y.item y.at in
      let idx : a.id ≡ x.number = ap (λ (o : Object). o.id) x.is in
      let idy : b.id ≡ y.number = ap (λ (o : Object). o.id) y.is in
      let count : x.item.count ≡ a.need.count = ap (λ (o : Object). o.need.count) (sym x.is) in
      let life-x : x.item.life ≡ a.life = ap (λ (o : Object). o.life) (sym x.is) in
      let life-y : y.item.life ≡ b.life = ap (λ (o : Object). o.life) (sym y.is) in
      let c : x.item.cycle ≡ y.item.cycle = ap (λ (o : Object). o.cycle) (sym x.is) ∙ (cycle ∙ ap (λ (o : Object). o.cycle) y.is) in
      let p : x.item.proc ≡ y.item.proc = ap (λ (o : Object). o.proc) (sym x.is) ∙ (proc ∙ ap (λ (o : Object). o.proc) y.is) in
      let k : x.item.class ≡ y.item.class = ap (λ (o : Object). o.need.class) (sym x.is) ∙ (class ∙ ap (λ (o : Object). o.need.class) y.is) in
      let sat = (are y.number y.item (omega arith) y.at (small-item b y.number y.item y.is sb)).left x.number x.item (omega arith) x.at (small-item a x.number x.item x.is sa) c p k
      (λ e. life (sym life-x ∙ (e ∙ life-y))) j (omega arith) in
      let held : IsHeld (marked_by t) (objects_of items) y.item.cycle y.number x.item.life j = sat-held t report items lasts y.number x.item.life j y.item known y.at sat in
      let cycle' : y.item.cycle ≡ a.cycle = ap (λ (o : Object). o.cycle) (sym y.is) ∙ sym cycle in
      subst (λ (m : ℕ). IsHeld (marked_by t) (objects_of items) m b.id a.life j) cycle'
      (subst (λ (m : ℕ). IsHeld (marked_by t) (objects_of items) y.item.cycle m a.life j) (sym idy)
      (subst (λ (m : ℕ). IsHeld (marked_by t) (objects_of items) y.item.cycle y.number m j) life-x held)));
}

-- the room stays as it is
pub room-more : (old new : Filling) (item : Item) (last lives places : ℕ) → IsTakenUp old new item last → HasFillingRoom old lives places → HasFillingRoom new lives places
room-more old new item last lives places taken room = elim (cases_lt item.class 2) [
  | inl large ↦ (
      let same = taken.large large in
      record { tops = taken.tops.lives ∙ room.tops; fills = ap (λ (xs : List (Option Fill)). length xs) same.0 ∙ room.fills; newest = ap (λ (xs : List (Option Newest)). length xs) same.1 ∙ room.newest })
  | inr small ↦ record {
    tops = taken.tops.lives ∙ room.tops;
    fills = ap (λ (xs : List (Option Fill)). length xs) (taken.fills small) ∙ (length-set old.fills.items item.life (Some (filled_by (fill_at old item.life) item)) ∙ room.fills);
    newest = ap (λ (xs : List (Option Newest)). length xs) (taken.newest small) ∙ (length-set old.newest.items (place_of_class item.proc item.class) (Some (newest_by item)) ∙ room.newest);
  }
]

-- a placed item that fits was taken up
pub record AreFilledTo (items : List Item) (lasts : List ℕ) (n : ℕ) (filling : Filling) : Type 0 where
  pub tops : AreTops items lasts n filling.tops
  pub fills : AreFills items lasts n filling
  pub newest : AreNewest items lasts n filling
  pub placed : AreInPlace items lasts n

pub filled-more : (t : Trace) (report : Report) (items : List Item) (lasts : List ℕ) (n places : ℕ) (item : Item) (old new : Filling) → AreKnownItems t report items lasts → slice_get items n ≡ Some item → is_placed item.answer ≡ true
    → HasFillingRoom old (length report.journal) places → place_of_class item.proc item.class < places → (2 ≤ item.class → IsFitting old item) → IsTakenUp old new item (last_at lasts n) → AreFilledTo items lasts n old → AreFilledTo items lasts (n + 1) new
filled-more t report items lasts n places item old new known at placed room inside fits taken are = elim (cases_lt item.class 2) [
  | inl large ↦ (
      let same = taken.large large in
      let off : IsSmallItem item → ⊥ = λ small. (let s = small.1 in omega arith) in
      record {
        tops = tops-more items lasts n item old.tops new.tops at placed taken.tops are.tops;
        fills = fills-other items lasts n item old new at off same.0 are.fills;
        newest = newest-same items lasts n item old new at off same.1 are.newest;
        placed = placed-more items lasts n item at (λ small. absurd (off small)) are.placed;
      })
  | inr small ↦ (
      let is : IsSmallItem item = (placed, small) in
      let place = in-place t report items lasts n item old known at is are.tops are.fills are.newest (fits small) in
      let life = placed-inside t report items lasts n item known at placed in
      let rf = room.fills in
      let rn = room.newest in
      record {
        tops = tops-more items lasts n item old.tops new.tops at placed taken.tops are.tops;
        fills = fills-more t report items lasts n item old new known at is (omega arith) place (taken.fills small) are.fills;
        newest = newest-more t report items lasts n item old new known at is (omega arith) place (taken.newest small) are.newest;
        placed = placed-more items lasts n item at (λ s. place) are.placed;
      })
]

pub filled-other : (items : List Item) (lasts : List ℕ) (n : ℕ) (item : Item) (filling : Filling) → slice_get items n ≡ Some item → (is_placed item.answer ≡ true → ⊥) → AreFilledTo items lasts n filling → AreFilledTo items lasts (n + 1) filling
filled-other items lasts n item filling at off are = record {
  tops = tops-other items lasts n item filling.tops at off are.tops;
  fills = fills-other items lasts n item filling filling at (λ small. off small.0) refl are.fills;
  newest = newest-same items lasts n item filling filling at (λ small. off small.0) refl are.newest;
  placed = placed-more items lasts n item at (λ small. absurd (off small.0)) are.placed;
}

pub filled-none : (items : List Item) (lasts : List ℕ) (filling : Filling) → IsEmptyFilling filling → AreFilledTo items lasts 0 filling
filled-none items lasts filling none = record {
  tops = tops-none items lasts filling.tops none.tops;
  fills = fills-none items lasts filling none;
  newest = newest-none items lasts filling none;
  placed = placed-none items lasts;
}
