-- What a piece sees of the items, and that the whole sees all of them.
use Rattle.std.proofs.Common.{◌≡◌, ℕ, ◌/◌, ◌%◌, ◌<◌, ◌≤◌, ◌↔◌, Bool, true, false, eqb, List, [], ◌∷◌, ◌++◌, map, reverse, length, Option, Some, None, refl, sym, ◌∙◌, ap, subst, arith}
use Rattle.std.specs.List.{slice_get}
use Rattle.std.specs.Option.{option_map}
use Rattle.std.proofs.lemmas.List.{length-map, map_push, reverse-append, reverse-reverse}
use Rattle.std.proofs.lemmas.Option.{slice_get-map}
use Rattle.page_bitmap.specs.declared.line.Line.{Line}
use Rattle.page_alloc.specs.Lists.{In}
use Rattle.trace_reader.specs.declared.trace.Trace.{Trace}
use Rattle.cycle_history.specs.declared.Answer.{Answer}
use Rattle.cycle_history.specs.declared.Answer.TheVariants.{Placed, Zero, Missed}
use Rattle.cycle_history.specs.declared.Report.{Report}
use Rattle.cycle_history.specs.Requests.{Marking, Request, marked_by, requests_of}
use Rattle.cycle_history.specs.Objects.{Object, is_placed}
use Rattle.cycle_history.specs.Rules.{AreAnswered, AreSeated, IsObject}
use Rattle.cycle_history.specs.Sound.{past_in, HasAnswers}
use Rattle.report_check.specs.declared.items.Item.{Item}
use Rattle.report_check.specs.declared.piece.Piece.{Piece}
use Rattle.report_check.specs.Items.{object_of, objects_from, objects_of}
use Rattle.report_check.specs.Known.{AreKnownItems}
use Rattle.report_check.specs.Lasts.{AreLasts, last_at}
use Rattle.report_check.specs.Pieces.{IsSeen, is_of, left_in, seen, seen_by, unplaced}
use Rattle.report_check.proofs.Numbered.{item-of, object-in}

-- ---- one item

own-is : (b : Bool) (item : Item) → b ≡ true → left_in b item ≡ item
own-is true item e = refl
own-is false item e = cc

pub seen-own : (p : Piece) (item : Item) → IsSeen p item → seen p item ≡ item
seen-own p item is = own-is (is_of p item.class) item is.1

unplaced-off : (a : Answer) → is_placed (unplaced a) ≡ true → ⊥
unplaced-off Zero e = cc
unplaced-off (Placed x) e = cc
unplaced-off (Missed l) e = cc

left-placed : (b : Bool) (item : Item) → is_placed (left_in b item).answer ≡ true → (is_placed item.answer ≡ true) × (b ≡ true)
left-placed true item e = (e, refl)
left-placed false item e = absurd (unplaced-off item.answer e)

pub seen-placed : (p : Piece) (item : Item) → is_placed (seen p item).answer ≡ true → IsSeen p item
seen-placed p item e = left-placed (is_of p item.class) item e

pub not-seen : (p : Piece) (item : Item) → (IsSeen p item → ⊥) → is_placed (seen p item).answer ≡ true → ⊥
not-seen p item off e = off (seen-placed p item e)

left-cycle : (b : Bool) (item : Item) → (left_in b item).cycle ≡ item.cycle
left-cycle true item = refl
left-cycle false item = refl

-- ---- one of a list

some-same : {X : Type 0} {x y : X} → Some x ≡ Some y → x ≡ y
some-same h = cc

pub at-seen : (p : Piece) (items : List Item) (i : ℕ) (item : Item) → slice_get items i ≡ Some item → slice_get (seen_by p items) i ≡ Some (seen p item)
at-seen p items i item at = slice_get-map (seen p) items i ∙ ap (λ (o : Option Item). option_map (seen p) o) at

pub seen-long : (p : Piece) (items : List Item) → length (seen_by p items) ≡ length items
seen-long p items = length-map items (seen p)

-- an item of the piece is seen as it is
pub at-own : (p : Piece) (items : List Item) (i : ℕ) (item : Item) → slice_get items i ≡ Some item → IsSeen p item → slice_get (seen_by p items) i ≡ Some item
at-own p items i item at is = at-seen p items i item at ∙ ap (λ (x : Item). Some x) (seen-own p item is)

mapped : (p : Piece) (o : Option Item) (x : Item) → option_map (seen p) o ≡ Some x → (item : Item) × (o ≡ Some item) × (x ≡ seen p item)
mapped p None x e = cc
mapped p (Some item) x e = (item, refl, sym (some-same e))

was-seen : (p : Piece) (items : List Item) (i : ℕ) (x : Item) → slice_get (seen_by p items) i ≡ Some x → (item : Item) × (slice_get items i ≡ Some item) × (x ≡ seen p item)
was-seen p items i x at = mapped p (slice_get items i) x (sym (slice_get-map (seen p) items i) ∙ at)

-- ---- objects

-- a placed object that the piece sees is one of the report's, and of the piece's size classes
pub own-object : (p : Piece) (items : List Item) (o : Object) → In o (objects_of (seen_by p items)) → is_placed o.answer ≡ true → In o (objects_of items) × (is_of p o.need.class ≡ true)
own-object p items o among placed =
    let x = item-of (seen_by p items) o among in
    let w = was-seen p items x.number x.item x.at in
    let on : is_placed x.item.answer ≡ true = subst (λ (y : Object). is_placed y.answer ≡ true) x.is placed in
    let is = seen-placed p w.0 (subst (λ (y : Item). is_placed y.answer ≡ true) w.2 on) in
    let same : o ≡ object_of x.number w.0 = x.is ∙ ap (λ (y : Item). object_of x.number y) (w.2 ∙ seen-own p w.0 is) in (
      subst (λ (y : Object). In y (objects_of items)) (sym same) (object-in items x.number w.0 w.1),
      subst (λ (y : Object). is_of p y.need.class ≡ true) (sym same) is.1,
    )

-- an object of the report of these size classes is one that the piece sees
pub object-seen : (p : Piece) (items : List Item) (o : Object) → In o (objects_of items) → is_of p o.need.class ≡ true → In o (objects_of (seen_by p items))
object-seen p items o among on =
    let x = item-of items o among in
    let on' : is_of p x.item.class ≡ true = subst (λ (y : Object). is_of p y.need.class ≡ true) x.is on in
    let at : slice_get (seen_by p items) x.number ≡ Some x.item = at-seen p items x.number x.item x.at ∙ ap (λ (y : Item). Some y) (own-is (is_of p x.item.class) x.item on') in
    subst (λ (y : Object). In y (objects_of (seen_by p items))) (sym x.is) (object-in (seen_by p items) x.number x.item at)

-- ---- what is known of the items is known of those that the piece sees

zero-off : (a : Answer) → unplaced a ≡ Zero → a ≡ Zero
zero-off Zero e = refl
zero-off (Placed x) e = cc
zero-off (Missed l) e = cc

zero-on : (a : Answer) → a ≡ Zero → unplaced a ≡ Zero
zero-on Zero e = refl
zero-on (Placed x) e = cc
zero-on (Missed l) e = cc

left-object : (r : Request) (n k : ℕ) (b : Bool) (item : Item) → IsObject r n (object_of k item) → IsObject r n (object_of k (left_in b item))
left-object r n k true item is = is
left-object r n k false item is = record { id = is.id; proc = is.proc; cycle = is.cycle; zero = (λ e. is.zero.0 (zero-off item.answer e), λ e. zero-on item.answer (is.zero.1 e)); need = is.need }

answered-seen : (p : Piece) (rs : List Request) (xs : List Item) → AreAnswered rs (objects_from xs) → AreAnswered rs (objects_from (map (seen p) xs))
answered-seen p [] [] all = all
answered-seen p [] (x ∷ xs) all = absurd all
answered-seen p (r ∷ rs) [] all = absurd all
answered-seen p (r ∷ rs) (x ∷ xs) all =
    let long : length xs ≡ length (map (seen p) xs) = sym (length-map xs (seen p)) in (
      subst (λ (k : ℕ). IsObject r (length rs) (object_of k (seen p x))) long (left-object r (length rs) (length xs) (is_of p x.class) x all.0),
      answered-seen p rs xs all.1,
    )

reverse-cons : (x : Item) (xs : List Item) → reverse (x ∷ xs) ≡ reverse xs ++ x ∷ []
reverse-cons x xs = reverse-append (x ∷ []) xs

map-reverse : (p : Piece) (items : List Item) → map (seen p) (reverse items) ≡ reverse (map (seen p) items)
map-reverse p [] = refl
map-reverse p (x ∷ items) =
    ap (λ (is : List Item). map (seen p) is) (reverse-cons x items) ∙ (map_push (seen p) (reverse items) x ∙ (ap (λ (is : List Item). is ++ seen p x ∷ []) (map-reverse p items) ∙ sym (reverse-cons (seen p x) (map (seen p) items))))

-- the report with these items' answers
abbrev pub report_of : Report → List Item → Report
report_of report items = record report { answers = reverse (map (λ (o : Object). o.answer) (objects_of items)) }

answers-seen : (p : Piece) (t : Trace) (report : Report) (items : List Item) → HasAnswers t report (objects_of items) → HasAnswers t (report_of report (seen_by p items)) (objects_of (seen_by p items))
answers-seen p t report items is = record {
  asked = subst (λ (xs : List Item). AreAnswered (requests_of t) (objects_from xs)) (map-reverse p items) (answered-seen p (requests_of t) (reverse items) is.asked);
  printed = sym (reverse-reverse (map (λ (o : Object). o.answer) (objects_of (seen_by p items))));
}

seated-seen : (p : Piece) (marked : Marking) (past : List Line) (items : List Item) → AreSeated marked past (objects_of items) → AreSeated marked past (objects_of (seen_by p items))
seated-seen p marked past items all o among placed = all o (own-object p items o among placed).0 placed

lasts-seen : (p : Piece) (t : Trace) (items : List Item) (lasts : List ℕ) → AreLasts t items lasts → AreLasts t (seen_by p items) lasts
lasts-seen p t items lasts are = record {
  size = are.size ∙ sym (length-map items (seen p));
  own = λ i x at. (
      let w = was-seen p items i x at in
      let e : x.cycle ≡ w.0.cycle = ap (λ (y : Item). y.cycle) w.2 ∙ left-cycle (is_of p w.0.class) w.0 in
      let own = are.own i w.0 w.1 in
      omega arith);
  few = are.few;
  marked = λ i c x at. (
      let w = was-seen p items i x at in
      let e : x.cycle ≡ w.0.cycle = ap (λ (y : Item). y.cycle) w.2 ∙ left-cycle (is_of p w.0.class) w.0 in
      subst (λ (k : ℕ). (marked_by t c i ≡ true) ↔ ((k < c) × (c ≤ last_at lasts i))) (sym e) (are.marked i c w.0 w.1));
}

pub known-seen : (p : Piece) (t : Trace) (report : Report) (items : List Item) (lasts : List ℕ) → AreKnownItems t report items lasts → AreKnownItems t (report_of report (seen_by p items)) (seen_by p items) lasts
known-seen p t report items lasts known = record {
  limited = known.limited;
  answers = answers-seen p t report items known.answers;
  journal = record { legal = known.journal.legal; cycles = known.journal.cycles; settled = known.journal.settled };
  places = seated-seen p (marked_by t) (past_in report) items known.places;
  until = lasts-seen p t items lasts known.until;
}

-- ---- the whole

whole-has : (class : ℕ) → eqb (class / 2 % 1) 0 ≡ true
whole-has class = (let e : class / 2 % 1 ≡ 0 = omega arith in ap (λ (n : ℕ). eqb n 0) e)

whole-item : (item : Item) → seen (record { number = 0; count = 1 }) item ≡ item
whole-item item = own-is (is_of (record { number = 0; count = 1 }) item.class) item (whole-has item.class)

pub seen-whole : (items : List Item) → seen_by (record { number = 0; count = 1 }) items ≡ items
seen-whole [] = refl
seen-whole (x ∷ items) = ap (λ (y : Item). y ∷ seen_by (record { number = 0; count = 1 }) items) (whole-item x) ∙ ap (λ (ys : List Item). x ∷ ys) (seen-whole items)
