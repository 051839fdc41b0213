-- Rule 8, whichever objects show it: lists of objects that answer one trace alike have the same totals.
use Rattle.std.proofs.Common.{◌≡◌, ◌≢◌, ℕ, zero, suc, ◌+◌, ◌/◌, ◌<◌, ◌≤◌, Bool, true, false, ◌&&◌, eqb, ◌||◌, not, List, [], ◌∷◌, length, map, Some, None, refl, sym, ◌∙◌, ap, subst, arith, inl, inr}
use Rattle.std.specs.List.{slice_get}
use Rattle.std.proofs.lemmas.Bool.{cases_lt, cases_Bool}
use Rattle.page_alloc.specs.Lists.{In, AllApart, count, one_if}
use Rattle.trace_reader.specs.declared.trace.Trace.{Trace}
use Rattle.cycle_history.specs.declared.Answer.{Answer}
use Rattle.cycle_history.specs.declared.Answer.TheVariants.{Zero}
use Rattle.cycle_history.specs.declared.Report.{Report}
use Rattle.cycle_history.specs.declared.Total.{Total}
use Rattle.cycle_history.specs.Needs.{Need}
use Rattle.cycle_history.specs.Requests.{Request, Marking, requests_of}
use Rattle.cycle_history.specs.Objects.{Object, is_placed, live}
use Rattle.cycle_history.specs.Orders.{IsTotalBefore}
use Rattle.cycle_history.specs.Rules.{IsObject, AreAnswered}
use Rattle.cycle_history.specs.Sound.{HasAnswers}
use Rattle.cycle_history.specs.Sweeps.{IsTotal, AreTotals, is_placed_of}
use Rattle.report_check.specs.Closing.{BreaksTotals}
use Rattle.report_check.proofs.Twins.{need-one, twin-of}

-- a placed object has a size
pub sized : (r : Request) (n : ℕ) (o : Object) → IsObject r n o → is_placed o.answer ≡ true → 1 ≤ r.event.size
sized r n o is placed = elim (cases_lt 0 r.event.size) [
  | inl lt ↦ lt
  | inr none ↦ (let zero : o.answer ≡ Zero = is.zero.1 (omega arith) in let off : is_placed o.answer ≡ false = ap is_placed zero in absurd cc)
]

placed-same : (class : ℕ) (r : Request) (n : ℕ) (a b : Object) → IsObject r n a → IsObject r n b → a.answer ≡ b.answer → is_placed_of class a ≡ is_placed_of class b
placed-same class r n a b ia ib e =
    let p : is_placed a.answer ≡ is_placed b.answer = ap is_placed e in
    elim (cases_Bool (is_placed a.answer)) [
      | inl on ↦ (
          let some = sized r n a ia on in
          let need : a.need ≡ b.need = need-one r a.need b.need (ia.need some) (ib.need some) in
          ap (λ (x : Bool). x && eqb (a.need.class / 2) class) p ∙ ap (λ (x : Need). is_placed b.answer && eqb (x.class / 2) class) need)
      | inr off ↦ (
          let there : is_placed b.answer ≡ false = sym p ∙ off in
          ap (λ (x : Bool). x && eqb (a.need.class / 2) class) off ∙ sym (ap (λ (x : Bool). x && eqb (b.need.class / 2) class) there))
    ]

pub live-same : (marked : Marking) (c : ℕ) (r : Request) (n : ℕ) (a b : Object) → IsObject r n a → IsObject r n b → a.answer ≡ b.answer → live marked c a ≡ live marked c b
live-same marked c r n a b ia ib e =
    let id : a.id ≡ b.id = ia.id ∙ sym ib.id in
    let cycle : a.cycle ≡ b.cycle = ia.cycle ∙ sym ib.cycle in
    ap (λ (x : Answer). is_placed x && (eqb a.cycle c || marked c a.id)) e
    ∙ (ap (λ (x : ℕ). is_placed b.answer && (eqb x c || marked c a.id)) cycle ∙ ap (λ (x : ℕ). is_placed b.answer && (eqb b.cycle c || marked c x)) id)

-- a test that objects of one request with one answer pass alike
abbrev pub IsAlike : (Object → Bool) → Type 0
IsAlike test = (r : Request) (n : ℕ) (a b : Object) → IsObject r n a → IsObject r n b → a.answer ≡ b.answer → test a ≡ test b

pub count-same : (test : Object → Bool) (requests : List Request) (xs ys : List Object) → IsAlike test → AreAnswered requests xs → AreAnswered requests ys
    → map (λ (o : Object). o.answer) xs ≡ map (λ (o : Object). o.answer) ys → count test xs ≡ count test ys
count-same test [] [] [] alike ax ay e = refl
count-same test [] (x ∷ xs) ys alike ax ay e = absurd ax
count-same test [] [] (y ∷ ys) alike ax ay e = absurd ay
count-same test (r ∷ requests) [] ys alike ax ay e = absurd ax
count-same test (r ∷ requests) (x ∷ xs) [] alike ax ay e = absurd ay
count-same test (r ∷ requests) (x ∷ xs) (y ∷ ys) alike ax ay e =
    let head : x.answer ≡ y.answer = cc in
    let tail : map (λ (o : Object). o.answer) xs ≡ map (λ (o : Object). o.answer) ys = cc in
    let rest = count-same test requests xs ys alike ax.1 ay.1 tail in
    let one : test x ≡ test y = alike r (length requests) x y ax.0 ay.0 head in
    ap (λ (b : Bool). one_if b + count test xs) one ∙ ap (λ (k : ℕ). one_if (test y) + k) rest

both-same : (a b c d : Bool) → a ≡ c → b ≡ d → a && not b ≡ c && not d
both-same a b c d e f = ap (λ (x : Bool). x && not b) e ∙ ap (λ (x : Bool). c && not x) f

total-same : (marked : Marking) (last : ℕ) (t : Trace) (report : Report) (objects others : List Object) (total : Total) → HasAnswers t report objects → HasAnswers t report others
    → IsTotal marked last others total → IsTotal marked last objects total
total-same marked last t report objects others total here there is =
    let answers : map (λ (o : Object). o.answer) others ≡ map (λ (o : Object). o.answer) objects = there.printed ∙ sym here.printed in
    record {
      some = is.some;
      mallocs = is.mallocs ∙ count-same (is_placed_of total.class) (requests_of t) others objects (placed-same total.class) there.asked here.asked answers;
      frees = is.frees ∙ count-same (λ (o : Object). is_placed_of total.class o && not (live marked last o)) (requests_of t) others objects
          (λ r n a b ia ib e. both-same (is_placed_of total.class a) (live marked last a) (is_placed_of total.class b) (live marked last b) (placed-same total.class r n a b ia ib e) (live-same marked last r n a b ia ib e))
          there.asked here.asked answers;
    }

pub get-in : {X : Type 0} (xs : List X) (i : ℕ) (x : X) → slice_get xs i ≡ Some x → In x xs
get-in [] i x h = absurd (let e : None ≡ Some x = h in cc)
get-in (y ∷ xs) zero x h = inl (let e : Some y ≡ Some x = h in cc)
get-in (y ∷ xs) (suc i) x h = inr (get-in xs i x h)

pub apart-at : {X : Type 0} (R : X → X → Type 0) (xs : List X) (i j : ℕ) (x y : X) → AllApart R xs → i < j → slice_get xs i ≡ Some x → slice_get xs j ≡ Some y → R x y
apart-at R [] i j x y all lt atx aty = absurd (let e : None ≡ Some x = atx in cc)
apart-at R (z ∷ xs) i zero x y all lt atx aty = absurd (omega arith)
apart-at R (z ∷ xs) zero (suc j) x y all lt atx aty = (let e : z ≡ x = (let s : Some z ≡ Some x = atx in cc) in subst (λ w. R w y) e (all.0 y (get-in xs j y aty)))
apart-at R (z ∷ xs) (suc i) (suc j) x y all lt atx aty = apart-at R xs i j x y all.1 (omega arith) atx aty

placed-not_zero : (a : Answer) → is_placed a ≡ true → a ≢ Zero
placed-not_zero a placed e = (let off : is_placed a ≡ false = ap is_placed e in cc)

pub totals-unmet : (marked : Marking) (last : ℕ) (t : Trace) (report : Report) (objects others : List Object) (line : ℕ) → HasAnswers t report objects → HasAnswers t report others
    → BreaksTotals marked last report objects line → ¬ AreTotals marked last others report.totals
totals-unmet marked last t report objects others line here there breaks are = elim breaks [
  | inl w ↦ elim w.1.wrong [
    | inl off ↦ off (total-same marked last t report objects others w.1.total here there (are.right w.1.total (get-in report.totals w.0 w.1.total w.1.printed)))
    | inr order ↦ order.wrong (apart-at IsTotalBefore report.totals order.place w.0 order.earlier w.1.total are.order order.before order.among w.1.printed)
  ]
  | inr e ↦ (
      let o = e.0 in
      let twin = twin-of t report objects others o here there e.1.among in
      let placed : is_placed twin.0.answer ≡ true = ap is_placed twin.2.answer ∙ e.1.placed in
      let total = are.each twin.0 twin.1 placed in
      let need : twin.0.need ≡ o.need = twin.2.need (placed-not_zero o.answer e.1.placed) in
      e.1.missing total.0 total.1 (total.2 ∙ ap (λ (n : Need). n.class / 2) need))
]
