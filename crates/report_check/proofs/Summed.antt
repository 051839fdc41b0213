-- Rule 8, by the right totals.
use Rattle.std.proofs.Common.{◌≡◌, ℕ, zero, suc, ◌+◌, ◌/◌, ◌<◌, ◌≤◌, Bool, true, false, ◌&&◌, eqb, not, List, [], ◌∷◌, length, get_or, Some, None, refl, sym, ◌∙◌, ap, subst, arith, ◌⊎◌, inl, inr}
use Rattle.std.specs.List.{slice_get}
use Rattle.std.proofs.lemmas.Bool.{cases_lt, cases_Bool, eqb-true, eq-eqb}
use Rattle.std.proofs.lemmas.Option.{slice_get-get_or, slice_get_within}
use Rattle.page_alloc.specs.Lists.{In, count, one_if}
use Rattle.trace_reader.specs.declared.trace.Trace.{Trace}
use Rattle.trace_reader.specs.declared.trace.Event.{Event}
use Rattle.trace_reader.specs.Limits.{events_of}
use Rattle.cycle_history.specs.declared.Answer.TheVariants.{Zero}
use Rattle.cycle_history.specs.declared.Report.{Report}
use Rattle.cycle_history.specs.declared.Total.{Total}
use Rattle.cycle_history.specs.Requests.{Marking}
use Rattle.cycle_history.specs.Objects.{Object, is_placed, live}
use Rattle.cycle_history.specs.Orders.{AreRisingTotals}
use Rattle.cycle_history.specs.Sound.{HasAnswers}
use Rattle.cycle_history.specs.Sweeps.{IsTotal, AreTotals, is_placed_of}
use Rattle.cycle_history.specs.Counted.{AreZeros, AreObjectsOf}
use Rattle.report_check.specs.Lines.{IsLeast, total_at, end_of}
use Rattle.report_check.specs.Closing.{BreaksTotals, IsWrongTotal}
use Rattle.report_check.proofs.Exact.{right-of}
use Rattle.report_check.proofs.Twins.{answers-length}
use Rattle.report_check.specs.Totals.{AreFitting, IsMisfit, HasAll, LacksTotal}

-- ---- places of a list

pub get-in : {X : Type 0} (xs : List X) (i : ℕ) (x : X) → slice_get xs i ≡ Some x → In x xs
get-in [] i x h = absurd (let e : None ≡ Some x = h in cc)
get-in (y ∷ xs) zero x h = inl (let e : Some y ≡ Some x = h in cc)
get-in (y ∷ xs) (suc i) x h = inr (get-in xs i x h)

pub in-get : {X : Type 0} (xs : List X) (x : X) → In x xs → (i : ℕ) × (slice_get xs i ≡ Some x)
in-get [] x h = absurd h
in-get (y ∷ xs) x h = elim h [
  | inl here ↦ (0, ap Some here)
  | inr there ↦ (let r = in-get xs x there in (suc r.0, r.1))
]

-- ---- what the loops know

-- the total isn't one of the first n
abbrev pub IsAbsent : List Total → Total → ℕ → Type 0
IsAbsent totals total n = (k : ℕ) (other : Total) → k < n → slice_get totals k ≡ Some other → ¬ (other ≡ total)

-- the first n totals are printed
abbrev pub ArePrinted : List Total → List Total → ℕ → Type 0
ArePrinted printed totals n = (k : ℕ) (total : Total) → k < n → slice_get totals k ≡ Some total → In total printed

-- the first n printed totals fit, and have classes up to the newest, which is one of theirs
pub record IsAt (right printed : List Total) (n newest : ℕ) : Type 0 where
  pub fitting : AreFitting right printed n
  pub upto : (k : ℕ) (total : Total) → k < n → slice_get printed k ≡ Some total → total.class ≤ newest
  pub last : 0 < n → (k : ℕ) × (total : Total) × (k < n) × (slice_get printed k ≡ Some total) × (total.class ≡ newest)

-- one place more
place-cases : (xs : List Total) (n k : ℕ) (x y : Total) → k < n + 1 → slice_get xs k ≡ Some x → slice_get xs n ≡ Some y → (k < n) ⊎ ((k ≡ n) × (x ≡ y))
place-cases xs n k x y lt atx aty = elim (cases_lt k n) [
  | inl less ↦ inl less
  | inr ge ↦ (
      let e : k ≡ n = omega arith in
      let there : slice_get xs n ≡ Some x = subst (λ (j : ℕ). slice_get xs j ≡ Some x) e atx in
      let same : x ≡ y = cc in
      inr (e, same))
]

pub absent-more : (totals : List Total) (total : Total) (n : ℕ) (d : Total) → n < length totals → IsAbsent totals total n → ¬ (get_or totals n d ≡ total) → IsAbsent totals total (n + 1)
absent-more totals total n d lt all off k other less at = elim (place-cases totals n k other (get_or totals n d) less at (slice_get-get_or totals n d lt)) [
  | inl old ↦ all k other old at
  | inr new ↦ (λ (e : other ≡ total). off (sym new.1 ∙ e))
]

pub absent-all : (totals : List Total) (total : Total) (n : ℕ) → length totals ≤ n → IsAbsent totals total n → ¬ In total totals
absent-all totals total n le all h =
    let r = in-get totals total h in
    let within = slice_get_within totals r.0 total r.1 in
    all r.0 total (omega arith) r.1 refl

pub printed-more : (printed totals : List Total) (n : ℕ) (d : Total) → n < length totals → ArePrinted printed totals n → In (get_or totals n d) printed → ArePrinted printed totals (n + 1)
printed-more printed totals n d lt all here k total less at = elim (place-cases totals n k total (get_or totals n d) less at (slice_get-get_or totals n d lt)) [
  | inl old ↦ all k total old at
  | inr new ↦ subst (λ (x : Total). In x printed) (sym new.1) here
]

pub printed-all : (printed totals : List Total) (n : ℕ) → length totals ≤ n → ArePrinted printed totals n → HasAll printed totals
printed-all printed totals n le all total h =
    let r = in-get totals total h in
    let within = slice_get_within totals r.0 total r.1 in
    all r.0 total (omega arith) r.1

pub at-none : (right printed : List Total) → IsAt right printed 0 0
at-none right printed = record {
  fitting = record { among = λ k total lt. absurd (omega arith); order = λ j k earlier total less lt. absurd (omega arith) };
  upto = λ k total lt. absurd (omega arith);
  last = λ lt. absurd (omega arith);
}

pub at-more : (right printed : List Total) (n newest : ℕ) (d : Total) → n < length printed → IsAt right printed n newest → (0 < n → newest < (get_or printed n d).class) → In (get_or printed n d) right
    → IsAt right printed (n + 1) (get_or printed n d).class
at-more right printed n newest d lt all above among =
    let here = slice_get-get_or printed n d lt in
    let x = get_or printed n d in record {
      fitting = record {
        among = λ k total less at. elim (place-cases printed n k total x less at here) [
          | inl old ↦ all.fitting.among k total old at
          | inr new ↦ subst (λ (y : Total). In y right) (sym new.1) among
        ];
        order = λ j k earlier total before less atj atk. elim (place-cases printed n k total x less atk here) [
          | inl old ↦ all.fitting.order j k earlier total before old atj atk
          | inr new ↦ (
              let e = new.0 in
              let b = all.upto j earlier (omega arith) atj in
              let a = above (omega arith) in
              let c : total.class ≡ x.class = ap (λ (y : Total). y.class) new.1 in
              omega arith)
        ];
      };
      upto = λ k total less at. elim (place-cases printed n k total x less at here) [
        | inl old ↦ (let b = all.upto k total old at in let a = above (omega arith) in omega arith)
        | inr new ↦ (let c : total.class ≡ x.class = ap (λ (y : Total). y.class) new.1 in omega arith)
      ];
      last = λ some. (n, x, omega arith, here, refl);
    }

pub misfit-low : (right printed : List Total) (n newest : ℕ) (d : Total) → n < length printed → IsAt right printed n newest → 0 < n → (get_or printed n d).class ≤ newest → IsMisfit right printed n
misfit-low right printed n newest d lt all some low =
    let is = all.last some in
    let e = is.4 in
    record {
      total = get_or printed n d;
      here = slice_get-get_or printed n d lt;
      wrong = inr (record { place = is.0; earlier = is.1; among = is.3; before = is.2; wrong = λ less. absurd (omega arith) });
      before = all.fitting;
    }

pub misfit-other : (right printed : List Total) (n newest : ℕ) (d : Total) → n < length printed → IsAt right printed n newest → ¬ In (get_or printed n d) right → IsMisfit right printed n
misfit-other right printed n newest d lt all off = record {
  total = get_or printed n d;
  here = slice_get-get_or printed n d lt;
  wrong = inl off;
  before = all.fitting;
}

pub fitting-all : (right printed : List Total) (n newest : ℕ) → n ≡ length printed → IsAt right printed n newest → AreFitting right printed (length printed)
fitting-all right printed n newest e all = subst (λ (k : ℕ). AreFitting right printed k) e all.fitting

-- ---- what is asked before the right totals are counted

pub are-zeros : (t : Trace) (report : Report) (objects : List Object) → HasAnswers t report objects → AreZeros t report.answers
are-zeros t report objects has i event at = (
  (λ printed. (
      let r = right-of t report objects i Zero has printed in
      let there = r.asked in
      let same : r.event ≡ event = cc in
      subst (λ (e : Event). e.size ≡ 0) same (r.zero.0 refl))),
  (λ none. (
      let size = answers-length t report objects has in
      let within = slice_get_within (events_of t) i event at in
      let printed = slice_get-get_or report.answers i Zero (omega arith) in
      let r = right-of t report objects i (get_or report.answers i Zero) has printed in
      let there = r.asked in
      let same : event ≡ r.event = cc in
      let zero : get_or report.answers i Zero ≡ Zero = r.zero.1 (subst (λ (e : Event). e.size ≡ 0) same none) in
      printed ∙ ap Some zero)),
)

pub objects-of : (t : Trace) (report : Report) (objects : List Object) → HasAnswers t report objects → AreObjectsOf t report.answers objects
objects-of t report objects has = record { asked = has.asked; printed = has.printed }

-- ---- totals by their objects

both : (a b : Bool) → a && b ≡ true → (a ≡ true) × (b ≡ true)
both true b h = (refl, h)
both false b h = absurd cc

total-same : (a b : Total) → a.class ≡ b.class → a.mallocs ≡ b.mallocs → a.frees ≡ b.frees → a ≡ b
total-same a b e1 e2 e3 =
    let made : ℕ → ℕ → ℕ → Total = λ class mallocs frees. record { class = class; mallocs = mallocs; frees = frees } in
    let e : made a.class a.mallocs a.frees ≡ made b.class b.mallocs b.frees = cc in e

-- totals that the code compares
abbrev pub are_equal : Total → Total → Bool
are_equal a b = eqb a.class b.class && (eqb a.mallocs b.mallocs && eqb a.frees b.frees)

pub equal-total : (a b : Total) → true ≡ are_equal a b → a ≡ b
equal-total a b h =
    let one = both (eqb a.class b.class) (eqb a.mallocs b.mallocs && eqb a.frees b.frees) (sym h) in
    let two = both (eqb a.mallocs b.mallocs) (eqb a.frees b.frees) one.1 in
    total-same a b (eqb-true a.class b.class one.0) (eqb-true a.mallocs b.mallocs two.0) (eqb-true a.frees b.frees two.1)

pub other-total : (a b : Total) → false ≡ are_equal a b → ¬ (a ≡ b)
other-total a b h e =
    let is : are_equal a b ≡ true = rw (eq-eqb a.class b.class (ap (λ (x : Total). x.class) e), eq-eqb a.mallocs b.mallocs (ap (λ (x : Total). x.mallocs) e), eq-eqb a.frees b.frees (ap (λ (x : Total). x.frees) e)) refl in
    let no : false ≡ true = h ∙ is in cc

-- a class has one total
total-one : (marked : Marking) (last : ℕ) (objects : List Object) (a b : Total) → IsTotal marked last objects a → IsTotal marked last objects b → a.class ≡ b.class → a ≡ b
total-one marked last objects a b ia ib e =
    let m : a.mallocs ≡ b.mallocs = ia.mallocs ∙ (ap (λ (c : ℕ). count (is_placed_of c) objects) e ∙ sym ib.mallocs) in
    let other : a.frees ≡ count (λ (o : Object). is_placed_of b.class o && not (live marked last o)) objects = subst (λ (c : ℕ). a.frees ≡ count (λ (o : Object). is_placed_of c o && not (live marked last o)) objects) e ia.frees in
    total-same a b e m (other ∙ sym ib.frees)

count-find : (test : Object → Bool) (objects : List Object) → 1 ≤ count test objects → (o : Object) × In o objects × (test o ≡ true)
count-find test [] some = absurd (omega arith)
count-find test (x ∷ objects) some = elim (cases_Bool (test x)) [
  | inl on ↦ (x, inl refl, on)
  | inr off ↦ (
      let sum : 1 ≤ one_if false + count test objects = subst (λ (b : Bool). 1 ≤ one_if b + count test objects) off some in
      let rest : 1 ≤ count test objects = omega arith in
      let r = count-find test objects rest in (r.0, inr r.1, r.2))
]

-- a total counts an object of its class
object-of_total : (marked : Marking) (last : ℕ) (objects : List Object) (total : Total) → IsTotal marked last objects total
    → (o : Object) × In o objects × (is_placed o.answer ≡ true) × (o.need.class / 2 ≡ total.class)
object-of_total marked last objects total is =
    let some = is.some in
    let m = is.mallocs in
    let found = count-find (is_placed_of total.class) objects (omega arith) in
    let parts = both (is_placed found.0.answer) (eqb (found.0.need.class / 2) total.class) found.2 in (found.0, found.1, parts.0, eqb-true (found.0.need.class / 2) total.class parts.1)

-- a total that is right is one of the right ones
is-among : (marked : Marking) (last : ℕ) (objects : List Object) (right : List Total) (total : Total) → AreTotals marked last objects right → IsTotal marked last objects total → In total right
is-among marked last objects right total are is =
    let o = object-of_total marked last objects total is in
    let r = are.each o.0 o.1 o.2 in
    let e : total ≡ r.0 = total-one marked last objects total r.0 is (are.right r.0 r.1) (sym o.3 ∙ sym r.2) in
    subst (λ (x : Total). In x right) (sym e) r.1

rising-of : (xs : List Total) → ((j k : ℕ) (x y : Total) → j < k → slice_get xs j ≡ Some x → slice_get xs k ≡ Some y → x.class < y.class) → AreRisingTotals xs
rising-of [] rise = tt
rising-of (x ∷ xs) rise = (
  (λ y h. (let r = in-get xs y h in rise 0 (suc r.0) x y (omega arith) refl r.1)),
  rising-of xs (λ j k a b less atj atk. rise (suc j) (suc k) a b (omega arith) atj atk),
)

pub totals-met : (marked : Marking) (last : ℕ) (objects : List Object) (right printed : List Total) → AreTotals marked last objects right → AreFitting right printed (length printed) → HasAll printed right
    → AreTotals marked last objects printed
totals-met marked last objects right printed are fits all = record {
  order = rising-of printed (λ j k x y less atj atk. fits.order j k x y less (slice_get_within printed k y atk) atj atk);
  right = λ total h. (let r = in-get printed total h in are.right total (fits.among r.0 total (slice_get_within printed r.0 total r.1) r.1));
  each = λ o h placed. (let r = are.each o h placed in (r.0, all r.0 r.1, r.2));
}

-- a total that fits isn't wrong
fits-right : (marked : Marking) (last : ℕ) (report : Report) (objects : List Object) (right : List Total) (n line k : ℕ) → AreTotals marked last objects right → AreFitting right report.totals n → k < n
    → ¬ IsWrongTotal marked last report objects line k
fits-right marked last report objects right n line k are fits lt w = elim w.wrong [
  | inl off ↦ off (are.right w.total (fits.among k w.total lt w.printed))
  | inr order ↦ order.wrong (fits.order order.place k order.earlier w.total order.before lt order.among w.printed)
]

pub misfit-least : (marked : Marking) (last : ℕ) (report : Report) (objects : List Object) (right : List Total) (n : ℕ) → AreTotals marked last objects right → IsMisfit right report.totals n
    → IsLeast (BreaksTotals marked last report objects) (total_at report n)
misfit-least marked last report objects right n are is = record {
  here = inl (
    n,
    record {
      total = is.total;
      printed = is.here;
      wrong = elim is.wrong [
        | inl off ↦ inl (λ (r : IsTotal marked last objects is.total). off (is-among marked last objects right is.total are r))
        | inr order ↦ inr order
      ];
      stands = refl;
    },
  );
  least = λ m lt breaks. elim breaks [
    | inl w ↦ (let s = w.1.stands in fits-right marked last report objects right n m w.0 are is.before (omega arith) w.1)
    | inr e ↦ (let within = slice_get_within report.totals n is.total is.here in let s = e.2 in absurd (omega arith))
  ];
}

pub lacking-least : (marked : Marking) (last : ℕ) (report : Report) (objects : List Object) (right : List Total) → AreTotals marked last objects right → AreFitting right report.totals (length report.totals)
    → LacksTotal report.totals right → IsLeast (BreaksTotals marked last report objects) (end_of report)
lacking-least marked last report objects right are fits lacks =
    let x = lacks.0 in
    let ix = are.right x lacks.1 in
    let o = object-of_total marked last objects x ix in record {
      here = inr (
        o.0,
        record {
          among = o.1;
          placed = o.2;
          missing = λ total h same. (
              let r = in-get report.totals total h in
              let it = are.right total (fits.among r.0 total (slice_get_within report.totals r.0 total r.1) r.1) in
              let e : total ≡ x = total-one marked last objects total x it ix (same ∙ o.3) in
              lacks.2 (subst (λ (y : Total). In y report.totals) e h));
        },
        refl,
      );
      least = λ m lt breaks. elim breaks [
        | inl w ↦ fits-right marked last report objects right (length report.totals) m w.0 are fits (slice_get_within report.totals w.0 w.1.total w.1.printed) w.1
        | inr e ↦ (let s = e.2 in absurd (omega arith))
      ];
    }

-- ---- what the judge answers

pub judge-misfit : (marked : Marking) (last : ℕ) (report : Report) (objects : List Object) (counted right printed : List Total) (place line : ℕ) → right ≡ counted → printed ≡ report.totals
    → AreTotals marked last objects counted → IsMisfit right printed place → line ≡ total_at report place → IsLeast (BreaksTotals marked last report objects) line
judge-misfit marked last report objects counted right printed place line same told are is at =
    let one : IsMisfit counted printed place = subst (λ (xs : List Total). IsMisfit xs printed place) same is in
    rw at (misfit-least marked last report objects counted place are (subst (λ (xs : List Total). IsMisfit counted xs place) told one))

fits-told : (counted right printed totals : List Total) → right ≡ counted → printed ≡ totals → AreFitting right printed (length printed) → AreFitting counted totals (length totals)
fits-told counted right printed totals same told fits =
    let one : AreFitting counted printed (length printed) = subst (λ (xs : List Total). AreFitting xs printed (length printed)) same fits in
    subst (λ (xs : List Total). AreFitting counted xs (length xs)) told one

pub judge-lacking : (marked : Marking) (last : ℕ) (report : Report) (objects : List Object) (counted right again printed : List Total) (line : ℕ) → right ≡ counted → again ≡ counted → printed ≡ report.totals
    → AreTotals marked last objects counted → AreFitting right printed (length printed) → LacksTotal printed again → line ≡ end_of report → IsLeast (BreaksTotals marked last report objects) line
judge-lacking marked last report objects counted right again printed line same twice told are fits lacks at =
    let one : LacksTotal printed counted = subst (λ (xs : List Total). LacksTotal printed xs) twice lacks in
    let two : LacksTotal report.totals counted = subst (λ (xs : List Total). LacksTotal xs counted) told one in
    rw at (lacking-least marked last report objects counted are (fits-told counted right printed report.totals same told fits) two)

pub judge-met : (marked : Marking) (last : ℕ) (report : Report) (objects : List Object) (counted right again printed : List Total) → right ≡ counted → again ≡ counted → printed ≡ report.totals
    → AreTotals marked last objects counted → AreFitting right printed (length printed) → HasAll printed again → AreTotals marked last objects report.totals
judge-met marked last report objects counted right again printed same twice told are fits all =
    let one : HasAll printed counted = subst (λ (xs : List Total). HasAll printed xs) twice all in
    let two : HasAll report.totals counted = subst (λ (xs : List Total). HasAll xs counted) told one in
    totals-met marked last objects counted report.totals are (fits-told counted right printed report.totals same told fits) two
