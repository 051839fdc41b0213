-- The rules 5 and 6 of all objects by those of the pieces: each object is of one piece, and two that one of the rules
-- compares are of one piece, as those that sit in one life are of one size class.
use Rattle.std.specs.Option.{option_map}
use Rattle.std.proofs.Common.{◌≡◌, ℕ, ◌/◌, ◌%◌, ◌<◌, ◌≤◌, true, List, map, length, Option, Some, None, Result, Ok, Err, refl, sym, ◌∙◌, ap, subst, arith, inl, inr}
use Rattle.std.specs.List.{slice_get}
use Rattle.std.proofs.lemmas.Bool.{cases_eq, eq-eqb}
use Rattle.std.proofs.lemmas.List.{length-map}
use Rattle.std.proofs.lemmas.Nat.{mod_below}
use Rattle.std.proofs.lemmas.Option.{slice_get-map}
use Rattle.page_alloc.specs.Lists.{In}
use Rattle.page_alloc.specs.Lives.{Life}
use Rattle.trace_reader.specs.declared.trace.Trace.{Trace}
use Rattle.cycle_history.specs.declared.Report.{Report}
use Rattle.cycle_history.specs.Requests.{Marking, marked_by}
use Rattle.cycle_history.specs.Objects.{Object, IsApart, IsHeld, is_placed, live}
use Rattle.cycle_history.specs.Rules.{AreApart, AreFilled}
use Rattle.cycle_history.specs.Sound.{past_in}
use Rattle.sound_run.proofs.Live.{live-placed}
use Rattle.report_check.specs.Placing.{BreaksApart, BreaksFilling, IsEarlierOf}
use Rattle.report_check.specs.declared.fault.CheckFault.{CheckFault}
use Rattle.report_check.specs.declared.fault.CheckFault.TheVariants.{Broken, NoMemory}
use Rattle.report_check.specs.declared.items.Item.{Item}
use Rattle.report_check.specs.declared.piece.Piece.{Piece}
use Rattle.report_check.specs.Items.{object_of, objects_of}
use Rattle.report_check.specs.Known.{AreKnownItems}
use Rattle.report_check.specs.Pieces.{is_of, seen_by}
use Rattle.report_check.proofs.Clearing.{seats-apart}
use Rattle.report_check.proofs.Numbered.{item-of}
use Rattle.report_check.proofs.SeenPieces.{object-seen, own-object}
use Rattle.report_check.proofs.Settled.{one-life}
use Rattle.check_parallel.specs.declared.pieces.Verdict.{Verdict}
use Rattle.check_parallel.specs.Parts.{AreVerdicts, IsApartJudged, IsFillingJudged}
use Rattle.check_parallel.specs.Verdicts.{AnswersRule, least}
use Rattle.check_parallel.proofs.Joining.{AllMeet, OneBreaks, least-all}

-- ---- the piece of a span class

abbrev piece_at : ℕ → ℕ → Piece
piece_at count k = record { number = k; count = count }

abbrev home : ℕ → ℕ → ℕ
home count class = class / 2 % count

home-few : (count class : ℕ) → 1 ≤ count → home count class < count
home-few count class some = mod_below (class / 2) count some

home-has : (count class : ℕ) → is_of (piece_at count (home count class)) class ≡ true
home-has count class = eq-eqb (class / 2 % count) (home count class) refl

-- ---- two objects in one life

same-class : (t : Trace) (report : Report) (items : List Item) (lasts : List ℕ) (a b : Object) → AreKnownItems t report items lasts → In a (objects_of items) → In b (objects_of items) → is_placed a.answer ≡ true → is_placed b.answer ≡ true
    → a.life ≡ b.life → a.need.class ≡ b.need.class
same-class t report items lasts a b known ia ib pa pb e =
    let sa = known.places a ia pa in
    let sb = known.places b ib pb in
    let same = one-life (past_in report) sa.0 sb.0 a.cycle b.cycle sa.1.here sb.1.here (sa.1.number ∙ (e ∙ sym sb.1.number)) in
    sym sa.1.sits.class ∙ (ap (λ (l : Life). l.class) same ∙ sb.1.sits.class)

-- objects of two span classes that live in one cycle are apart
apart-else : (t : Trace) (report : Report) (items : List Item) (lasts : List ℕ) (c : ℕ) (a b : Object) → AreKnownItems t report items lasts → In a (objects_of items) → In b (objects_of items)
    → live (marked_by t) c a ≡ true → live (marked_by t) c b ≡ true → (a.need.class ≡ b.need.class → ⊥) → IsApart a b
apart-else t report items lasts c a b known ia ib la lb differ =
    let x = item-of items a ia in
    let y = item-of items b ib in
    let la' : live (marked_by t) c (object_of x.number x.item) ≡ true = subst (λ (o : Object). live (marked_by t) c o ≡ true) x.is la in
    let lb' : live (marked_by t) c (object_of y.number y.item) ≡ true = subst (λ (o : Object). live (marked_by t) c o ≡ true) y.is lb in
    let is : IsApart (object_of x.number x.item) (object_of y.number y.item) = seats-apart t report items lasts x.number y.number c x.item y.item known x.at y.at la' lb'
    (λ one. differ (same-class t report items lasts a b known ia ib (live-placed (marked_by t) c a la) (live-placed (marked_by t) c b lb) (ap (λ (o : Object). o.life) x.is ∙ (one.0 ∙ sym (ap (λ (o : Object). o.life) y.is))))) in
    subst (λ (o : Object). IsApart o b) (sym x.is) (subst (λ (o : Object). IsApart (object_of x.number x.item) o) (sym y.is) is)

-- ---- rule 5

apart-off : (marked : Marking) (objects : List Object) (line : ℕ) → AreApart marked objects → BreaksApart marked objects line → ⊥
apart-off marked objects line all b = b.wrong (all b.cycle b.earlier b.later b.among.0 b.among.1 (λ (e : b.earlier.id ≡ b.later.id). (let lt = b.before in absurd (omega arith))) b.alive.0 b.alive.1)

apart-out : (p : Piece) (marked : Marking) (items : List Item) (line : ℕ) → BreaksApart marked (objects_of (seen_by p items)) line → BreaksApart marked (objects_of items) line
apart-out p marked items line b = record {
  earlier = b.earlier;
  later = b.later;
  among = ((own-object p items b.earlier b.among.0 (live-placed marked b.cycle b.earlier b.alive.0)).0, (own-object p items b.later b.among.1 (live-placed marked b.cycle b.later b.alive.1)).0);
  before = b.before;
  cycle = b.cycle;
  alive = b.alive;
  wrong = b.wrong;
  stands = b.stands;
}

module _ (t : Trace) (report : Report) (items : List Item) (lasts : List ℕ) (known : AreKnownItems t report items lasts) (count : ℕ) (some : 1 ≤ count) where
  -- what the piece of a span class sees
  abbrev seen_at : ℕ → List Object
  seen_at k = objects_of (seen_by (piece_at count k) items)

  own : (o : Object) → In o (objects_of items) → In o (seen_at (home count o.need.class))
  own o io = object-seen (piece_at count (home count o.need.class)) items o io (home-has count o.need.class)

  -- an object whose span class has the piece of another one's
  beside : (o a : Object) → In a (objects_of items) → home count a.need.class ≡ home count o.need.class → In a (seen_at (home count o.need.class))
  beside o a ia e = subst (λ (k : ℕ). In a (seen_at k)) e (own a ia)

  few : (o : Object) → home count o.need.class < count
  few o = home-few count o.need.class some

  homes : (a b : Object) → a.need.class ≡ b.need.class → home count a.need.class ≡ home count b.need.class
  homes a b e = ap (λ (n : ℕ). home count n) e

  apart-all : AllMeet (λ k. AreApart (marked_by t) (seen_at k)) count → AreApart (marked_by t) (objects_of items)
  apart-all all c a b ia ib ne la lb = elim (cases_eq (home count b.need.class) (home count a.need.class)) [
    | inl same ↦ all (home count a.need.class) (few a) c a b (own a ia) (beside a b ib same) ne la lb
    | inr differ ↦ apart-else t report items lasts c a b known ia ib la lb (λ e. differ (homes b a (sym e)))
  ]

  apart-in : (line : ℕ) → BreaksApart (marked_by t) (objects_of items) line → OneBreaks (λ k m. BreaksApart (marked_by t) (seen_at k) m) count line
  apart-in line b = elim (cases_eq (home count b.later.need.class) (home count b.earlier.need.class)) [
    | inl same ↦ (
      home count b.earlier.need.class,
      few b.earlier,
      record {
        earlier = b.earlier;
        later = b.later;
        among = (own b.earlier b.among.0, beside b.earlier b.later b.among.1 same);
        before = b.before;
        cycle = b.cycle;
        alive = b.alive;
        wrong = b.wrong;
        stands = b.stands;
      },
    )
    | inr differ ↦ absurd (b.wrong (apart-else t report items lasts b.cycle b.earlier b.later known b.among.0 b.among.1 b.alive.0 b.alive.1 (λ e. differ (homes b.later b.earlier (sym e)))))
  ]

  -- ---- rule 6

  held-out : (p : Piece) (marked : Marking) (c before n k : ℕ) → IsHeld marked (objects_of (seen_by p items)) c before n k → IsHeld marked (objects_of items) c before n k
  held-out p marked c before n k h = (h.0, (own-object p items h.0 h.1 h.2.placed).0, h.2)

  -- what a placed object of the piece shares its life with is of the piece
  held-in : (p : Piece) (marked : Marking) (c before k : ℕ) (o : Object) → In o (objects_of items) → is_placed o.answer ≡ true → is_of p o.need.class ≡ true → IsHeld marked (objects_of items) c before o.life k
      → IsHeld marked (objects_of (seen_by p items)) c before o.life k
  held-in p marked c before k o io placed has h =
      let e = same-class t report items lasts o h.0 known io h.1 placed h.2.placed (sym h.2.life) in
      (h.0, object-seen p items h.0 h.1 (subst (λ (n : ℕ). is_of p n ≡ true) e has), h.2)

  filling-all : AllMeet (λ k. AreFilled (marked_by t) (seen_at k)) count → AreFilled (marked_by t) (objects_of items)
  filling-all all = record {
    one_processor = λ a b ia ib sa sb cycle life. (
        let e = same-class t report items lasts b a known ib ia sb.0 sa.0 (sym life) in
        (all (home count a.need.class) (few a)).one_processor a b (own a ia) (beside a b ib (homes b a e)) sa sb cycle life);
    no_gap = λ o io so j lt. held-out (piece_at count (home count o.need.class)) (marked_by t) o.cycle o.id o.life j ((all (home count o.need.class) (few o)).no_gap o (own o io) so j lt);
    full_first = λ a b ia ib sa sb cycle proc class less life j lt.
        held-out (piece_at count (home count a.need.class)) (marked_by t) a.cycle b.id a.life j
        ((all (home count a.need.class) (few a)).full_first a b (own a ia) (beside a b ib (homes b a (sym class))) sa sb cycle proc class less life j lt);
  }

  earlier-out : (p : Piece) (o a : Object) → IsEarlierOf (objects_of (seen_by p items)) o a → IsEarlierOf (objects_of items) o a
  earlier-out p o a e = record { among = (own-object p items a e.among e.small.0).0; small = e.small; before = e.before; cycle = e.cycle }

  filling-out : (p : Piece) (line : ℕ) → BreaksFilling (marked_by t) (objects_of (seen_by p items)) line → BreaksFilling (marked_by t) (objects_of items) line
  filling-out p line b =
      let o = b.object in
      let mine = own-object p items o b.among b.small.0 in
      record {
        object = o;
        among = mine.0;
        small = b.small;
        wrong = elim b.wrong [
          | inl two ↦ inl (two.0, record { earlier = earlier-out p o two.0 two.1.earlier; life = two.1.life; other = two.1.other })
          | inr rest ↦ elim rest [
            | inl gap ↦ inr (inl (gap.0, record { below = gap.1.below; free = λ held. gap.1.free (held-in p (marked_by t) o.cycle o.id gap.0 o mine.0 b.small.0 mine.1 held) }))
            | inr left ↦ (
                let w = left.2 in
                let its = own-object p items left.0 w.earlier.among w.earlier.small.0 in
                inr (inr (
                  left.0,
                  left.1,
                  record {
                    earlier = earlier-out p o left.0 w.earlier;
                    proc = w.proc;
                    class = w.class;
                    other = w.other;
                    inside = w.inside;
                    free = λ held. w.free (held-in p (marked_by t) o.cycle o.id left.1 left.0 its.0 w.earlier.small.0 its.1 held);
                  },
                )))
          ]
        ];
        stands = b.stands;
      }

  earlier-in : (o a : Object) → home count a.need.class ≡ home count o.need.class → IsEarlierOf (objects_of items) o a → IsEarlierOf (seen_at (home count o.need.class)) o a
  earlier-in o a e is = record { among = beside o a is.among e; small = is.small; before = is.before; cycle = is.cycle }

  filling-in : (line : ℕ) → BreaksFilling (marked_by t) (objects_of items) line → OneBreaks (λ k m. BreaksFilling (marked_by t) (seen_at k) m) count line
  filling-in line b =
      let o = b.object in
      let p = piece_at count (home count o.need.class) in (
        home count o.need.class,
        few o,
        record {
          object = o;
          among = own o b.among;
          small = b.small;
          wrong = elim b.wrong [
            | inl two ↦ (
                let e = same-class t report items lasts two.0 o known two.1.earlier.among b.among two.1.earlier.small.0 b.small.0 two.1.life in
                inl (two.0, record { earlier = earlier-in o two.0 (homes two.0 o e) two.1.earlier; life = two.1.life; other = two.1.other }))
            | inr rest ↦ elim rest [
              | inl gap ↦ inr (inl (gap.0, record { below = gap.1.below; free = λ held. gap.1.free (held-out p (marked_by t) o.cycle o.id o.life gap.0 held) }))
              | inr left ↦ (
                  let w = left.2 in
                  inr (inr (
                    left.0,
                    left.1,
                    record {
                      earlier = earlier-in o left.0 (homes left.0 o w.class) w.earlier;
                      proc = w.proc;
                      class = w.class;
                      other = w.other;
                      inside = w.inside;
                      free = λ held. w.free (held-out p (marked_by t) o.cycle o.id left.0.life left.1 held);
                    },
                  )))
            ]
          ];
          stands = b.stands;
        },
      )

filling-off : (marked : Marking) (objects : List Object) (line : ℕ) → AreFilled marked objects → BreaksFilling marked objects line → ⊥
filling-off marked objects line all b =
    let o = b.object in
    elim b.wrong [
      | inl two ↦ two.1.other (all.one_processor two.0 o two.1.earlier.among b.among two.1.earlier.small b.small two.1.earlier.cycle two.1.life)
      | inr rest ↦ elim rest [
        | inl gap ↦ gap.1.free (all.no_gap o b.among b.small gap.0 gap.1.below)
        | inr left ↦ (
            let w = left.2 in
            let held = all.full_first left.0 o w.earlier.among b.among w.earlier.small b.small w.earlier.cycle w.proc w.class w.earlier.before w.other left.1 w.inside in
            w.free (subst (λ (c : ℕ). IsHeld marked objects c o.id left.0.life left.1) w.earlier.cycle held))
      ]
    ]

-- ---- the answers

turned : (n : ℕ) (M M' : Type 0) (B B' : ℕ → Type 0) → (M → M') → ((line : ℕ) → B line → B' line) → ((line : ℕ) → B' line → B line) → (answer : Result (Unit {0}) CheckFault) → AnswersRule n M B answer → AnswersRule n M' B' answer
turned n M M' B B' to out in' (Ok u) a = (to a.0, tt)
turned n M M' B B' to out in' (Err NoMemory) a = (tt, tt)
turned n M M' B B' to out in' (Err (Broken rule line)) a = (tt, (a.1.0, record { here = out line a.1.1.here; least = λ m lt b. a.1.1.least m lt (in' m b) }))

some-same : {X : Type 0} {x y : X} → Some x ≡ Some y → x ≡ y
some-same h = cc

mapped : (of : Verdict → Result (Unit {0}) CheckFault) (o : Option Verdict) (x : Result (Unit {0}) CheckFault) → option_map of o ≡ Some x → (v : Verdict) × (o ≡ Some v) × (of v ≡ x)
mapped of None x e = cc
mapped of (Some v) x e = (v, refl, some-same e)

at-map : (of : Verdict → Result (Unit {0}) CheckFault) (verdicts : List Verdict) (i : ℕ) (x : Result (Unit {0}) CheckFault) → slice_get (map of verdicts) i ≡ Some x → (v : Verdict) × (slice_get verdicts i ≡ Some v) × (of v ≡ x)
at-map of verdicts i x at = mapped of (slice_get verdicts i) x (sym (slice_get-map of verdicts i) ∙ at)

pub apart-joined : (t : Trace) (report : Report) (items : List Item) (lasts : List ℕ) (verdicts : List Verdict) → AreKnownItems t report items lasts → 1 ≤ length verdicts → AreVerdicts t items verdicts → IsApartJudged t items (least (map (λ (v : Verdict). v.apart) verdicts))
apart-joined t report items lasts verdicts known some are =
    let count = length verdicts in
    let answers = map (λ (v : Verdict). v.apart) verdicts in
    let long : length answers ≡ count = length-map verdicts (λ (v : Verdict). v.apart) in
    let M : ℕ → Type 0 = λ k. AreApart (marked_by t) (objects_of (seen_by (piece_at count k) items)) in
    let B : ℕ → ℕ → Type 0 = λ k m. BreaksApart (marked_by t) (objects_of (seen_by (piece_at count k) items)) m in
    let all = least-all 5 M B (λ j line. apart-off (marked_by t) (objects_of (seen_by (piece_at count j) items)) line) answers
    (λ i x at. (let v = at-map (λ (v : Verdict). v.apart) verdicts i x at in subst (λ (y : Result (Unit {0}) CheckFault). AnswersRule 5 (M i) (B i) y) v.2 (are i v.0 v.1).apart)) in
    let counted = subst (λ (n : ℕ). AnswersRule 5 (AllMeet M n) (OneBreaks B n) (least answers)) long all in
    turned 5 (AllMeet M count) (AreApart (marked_by t) (objects_of items)) (OneBreaks B count) (BreaksApart (marked_by t) (objects_of items))
    (apart-all t report items lasts known count some)
    (λ line b. apart-out (piece_at count b.0) (marked_by t) items line b.2)
    (apart-in t report items lasts known count some) (least answers) counted

pub filling-joined : (t : Trace) (report : Report) (items : List Item) (lasts : List ℕ) (verdicts : List Verdict) → AreKnownItems t report items lasts → 1 ≤ length verdicts → AreVerdicts t items verdicts → IsFillingJudged t items (least (map (λ (v : Verdict). v.filling) verdicts))
filling-joined t report items lasts verdicts known some are =
    let count = length verdicts in
    let answers = map (λ (v : Verdict). v.filling) verdicts in
    let long : length answers ≡ count = length-map verdicts (λ (v : Verdict). v.filling) in
    let M : ℕ → Type 0 = λ k. AreFilled (marked_by t) (objects_of (seen_by (piece_at count k) items)) in
    let B : ℕ → ℕ → Type 0 = λ k m. BreaksFilling (marked_by t) (objects_of (seen_by (piece_at count k) items)) m in
    let all = least-all 6 M B (λ j line. filling-off (marked_by t) (objects_of (seen_by (piece_at count j) items)) line) answers
    (λ i x at. (let v = at-map (λ (v : Verdict). v.filling) verdicts i x at in subst (λ (y : Result (Unit {0}) CheckFault). AnswersRule 6 (M i) (B i) y) v.2 (are i v.0 v.1).filling)) in
    let counted = subst (λ (n : ℕ). AnswersRule 6 (AllMeet M n) (OneBreaks B n) (least answers)) long all in
    turned 6 (AllMeet M count) (AreFilled (marked_by t) (objects_of items)) (OneBreaks B count) (BreaksFilling (marked_by t) (objects_of items))
    (filling-all t report items lasts known count some)
    (λ line b. filling-out t report items lasts known count some (piece_at count b.0) line b.2)
    (filling-in t report items lasts known count some) (least answers) counted
