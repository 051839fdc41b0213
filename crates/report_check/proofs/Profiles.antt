-- Rule 9, whichever objects and samples show it: a line that breaks it shows that the rule isn't met.
use Rattle.std.proofs.Common.{◌≡◌, ℕ, suc, ◌≤◌, Bool, true, false, ◌&&◌, not, eqb, ltb, List, [], ◌∷◌, length, map, refl, sym, ◌∙◌, ap, subst, arith, inl, inr}
use Rattle.std.proofs.lemmas.Bool.{cases_Bool, cases_lt, lt-ltb, le-ltb}
use Rattle.page_alloc.specs.Lists.{In, AllApart}
use Rattle.trace_reader.specs.declared.trace.Trace.{Trace}
use Rattle.profile_cycle.specs.Sampling.{sampled}
use Rattle.cycle_history.specs.declared.Prof.{Prof}
use Rattle.cycle_history.specs.declared.Report.{Report}
use Rattle.cycle_history.specs.Needs.{Need}
use Rattle.cycle_history.specs.Requests.{Request, Marking, requests_of, marked_by, last_cycle}
use Rattle.cycle_history.specs.Objects.{Object, is_placed}
use Rattle.cycle_history.specs.Orders.{IsProfBefore}
use Rattle.cycle_history.specs.Rules.{IsObject, AreAnswered}
use Rattle.cycle_history.specs.Profile.{Bucket, Samples, SamplesBy, samples_in, placed_by, passing, is_sample, allocs_at, frees_at, bucket_of, IsProf, IsChanged, IsOf, IsProfileIn}
use Rattle.cycle_history.specs.Sound.{HasAnswers, HasProfile}
use Rattle.cycle_history.proofs.Sampling.{samples-one, AreAlike, allocs-alike, frees-alike, each-last}
use Rattle.report_check.specs.Published.{is_of_each, IsRightProf, IsDue, BreaksProfile}
use Rattle.report_check.proofs.Counts.{IsAlike, sized, count-same, get-in, apart-at}
use Rattle.report_check.proofs.Twins.{need-one}

-- ---- other objects that answer the trace alike

-- what is listed of those that pass a test is the same
passing-same : {X : Type 0} (test : Object → Bool) (f : Object → X) (requests : List Request) (xs ys : List Object) → IsAlike test
    → ((r : Request) (n : ℕ) (a b : Object) → IsObject r n a → IsObject r n b → a.answer ≡ b.answer → test a ≡ true → f a ≡ f b) → AreAnswered requests xs → AreAnswered requests ys
    → map (λ (o : Object). o.answer) xs ≡ map (λ (o : Object). o.answer) ys → map f (passing test xs) ≡ map f (passing test ys)
passing-same test f [] [] [] alike same ax ay e = refl
passing-same test f [] (x ∷ xs) ys alike same ax ay e = absurd ax
passing-same test f [] [] (y ∷ ys) alike same ax ay e = absurd ay
passing-same test f (r ∷ requests) [] ys alike same ax ay e = absurd ax
passing-same test f (r ∷ requests) (x ∷ xs) [] alike same ax ay e = absurd ay
passing-same test f (r ∷ requests) (x ∷ xs) (y ∷ ys) alike same ax ay e =
    let head : x.answer ≡ y.answer = cc in
    let tail : map (λ (o : Object). o.answer) xs ≡ map (λ (o : Object). o.answer) ys = cc in
    let rest = passing-same test f requests xs ys alike same ax.1 ay.1 tail in
    let one : test x ≡ test y = alike r (length requests) x y ax.0 ay.0 head in
    elim (cases_Bool (test x)) [
      | inl on ↦ (let there : test y ≡ true = sym one ∙ on in let first = same r (length requests) x y ax.0 ay.0 head on in rw (on, there, first, rest) refl)
      | inr off ↦ (let there : test y ≡ false = sym one ∙ off in rw (off, there, rest) refl)
    ]

-- the objects that a processor placed
placed-alike : (p : ℕ) → IsAlike (λ (o : Object). eqb o.proc p && is_placed o.answer)
placed-alike p r n a b ia ib e =
    let proc : a.proc ≡ b.proc = ia.proc ∙ sym ib.proc in
    ap (λ (x : ℕ). eqb x p && is_placed a.answer) proc ∙ ap (λ x. eqb b.proc p && is_placed x) e

placed-need : (p : ℕ) (r : Request) (n : ℕ) (a b : Object) → IsObject r n a → IsObject r n b → (eqb a.proc p && is_placed a.answer) ≡ true → a.answer ≡ b.answer → a.need ≡ b.need
placed-need p r n a b ia ib test e =
    let some = sized r n a ia (second (eqb a.proc p) (is_placed a.answer) test) in
    need-one r a.need b.need (ia.need some) (ib.need some)
  where
    second : (x y : Bool) → (x && y) ≡ true → y ≡ true
    second true y h = h
    second false y h = cc

samples-there : (rate seed : ℕ) (which : ℕ → Bool) (requests : List Request) (xs ys : List Object) → AreAnswered requests xs → AreAnswered requests ys
    → map (λ (o : Object). o.answer) xs ≡ map (λ (o : Object). o.answer) ys → SamplesBy rate seed which xs → SamplesBy rate seed which ys
samples-there rate seed which requests xs ys ax ay e by p =
    let test : Object → Bool = λ o. eqb o.proc p && is_placed o.answer in
    let ids : map (λ (o : Object). which o.id) (placed_by p xs) ≡ map (λ (o : Object). which o.id) (placed_by p ys) =
    passing-same test (λ (o : Object). which o.id) requests xs ys (placed-alike p) (λ r n a b ia ib same on. ap which (ia.id ∙ sym ib.id)) ax ay e in
    let slots : map (λ (o : Object). o.need.slot) (placed_by p xs) ≡ map (λ (o : Object). o.need.slot) (placed_by p ys) =
    passing-same test (λ (o : Object). o.need.slot) requests xs ys (placed-alike p) (λ r n a b ia ib same on. ap (λ (x : Need). x.slot) (placed-need p r n a b ia ib on same)) ax ay e in
    sym ids ∙ by p ∙ ap (λ (l : List ℕ). sampled rate seed p l) slots

-- objects of one request with one answer are samples of the same buckets
sample-same : (s : Samples) (b : Bucket) (r : Request) (n : ℕ) (x y : Object) → IsObject r n x → IsObject r n y → x.answer ≡ y.answer → is_sample s b x ≡ is_sample s b y
sample-same s b r n x y ix iy e =
    let id : x.id ≡ y.id = ix.id ∙ sym iy.id in
    let p : is_placed x.answer ≡ is_placed y.answer = ap is_placed e in
    elim (cases_Bool (is_placed x.answer)) [
      | inl on ↦ (
          let some = sized r n x ix on in
          let slot : x.need.slot ≡ y.need.slot = ap (λ (k : Need). k.slot) (need-one r x.need y.need (ix.need some) (iy.need some)) in
          ap (λ (k : Bool). k && (s.sampled x.id && (eqb (s.stack x.id) b.stack && eqb x.need.slot b.slot))) p
          ∙ ap (λ (k : ℕ). is_placed y.answer && (s.sampled k && (eqb (s.stack k) b.stack && eqb x.need.slot b.slot))) id
          ∙ ap (λ (k : ℕ). is_placed y.answer && (s.sampled y.id && (eqb (s.stack y.id) b.stack && eqb k b.slot))) slot)
      | inr off ↦ (
          let there : is_placed y.answer ≡ false = sym p ∙ off in
          rw (off, there) refl)
    ]

allocs-same : (s : Samples) (requests : List Request) (xs ys : List Object) (m : ℕ) (b : Bucket) → AreAnswered requests xs → AreAnswered requests ys
    → map (λ (o : Object). o.answer) xs ≡ map (λ (o : Object). o.answer) ys → allocs_at s xs m b ≡ allocs_at s ys m b
allocs-same s requests xs ys m b ax ay e = count-same (λ (o : Object). is_sample s b o && ltb o.cycle m) requests xs ys (λ r n x y ix iy same. (
    let cycle : x.cycle ≡ y.cycle = ix.cycle ∙ sym iy.cycle in
    ap (λ (k : Bool). k && ltb x.cycle m) (sample-same s b r n x y ix iy same) ∙ ap (λ (k : ℕ). is_sample s b y && ltb k m) cycle)) ax ay e

frees-same : (marked : Marking) (s : Samples) (requests : List Request) (xs ys : List Object) (m : ℕ) (b : Bucket) → AreAnswered requests xs → AreAnswered requests ys
    → map (λ (o : Object). o.answer) xs ≡ map (λ (o : Object). o.answer) ys → frees_at marked s xs m b ≡ frees_at marked s ys m b
frees-same marked s requests xs ys m b ax ay e = count-same (λ (o : Object). is_sample s b o && (ltb o.cycle m && not (marked m o.id))) requests xs ys (λ r n x y ix iy same. (
    let cycle : x.cycle ≡ y.cycle = ix.cycle ∙ sym iy.cycle in
    let id : x.id ≡ y.id = ix.id ∙ sym iy.id in
    ap (λ (k : Bool). k && (ltb x.cycle m && not (marked m x.id))) (sample-same s b r n x y ix iy same)
    ∙ ap (λ (k : ℕ). is_sample s b y && (ltb k m && not (marked m x.id))) cycle
    ∙ ap (λ (k : ℕ). is_sample s b y && (ltb y.cycle m && not (marked m k))) id)) ax ay e

-- ---- the form that the first line chooses

falls : (last : ℕ) (line : Prof) (lines : List Prof) → is_of_each last (line ∷ lines) ≡ false → last ≤ line.mark
falls last line lines off = elim (cases_lt line.mark last) [
  | inl lt ↦ (let on = lt-ltb line.mark last lt in let none : ⊥ = cc in absurd none)
  | inr ge ↦ ge
]

-- a profile of one of the forms is of that which its first line chooses
pub of-form : (each : Bool) (marked : Marking) (s : Samples) (last : ℕ) (objects : List Object) (lines : List Prof) → IsProfileIn each marked s last objects lines → IsProfileIn (is_of_each last lines) marked s last objects lines
of-form false marked s last objects [] is = is
of-form false marked s last objects (line ∷ lines) is =
    let mark : line.mark ≡ last = (is.right line (inl refl)).0 in
    let off : is_of_each last (line ∷ lines) ≡ false = le-ltb line.mark last (omega arith) in
    rw off is
of-form true marked s last objects [] is = each-last marked s last objects [] is (λ line h. absurd h)
of-form true marked s last objects (line ∷ lines) is = elim (cases_Bool (is_of_each last (line ∷ lines))) [
  | inl on ↦ rw on is
  | inr off ↦ rw off (each-last marked s last objects (line ∷ lines) is (λ other h. (
      let first = falls last line lines off in
      elim h [
        | inl here ↦ (let e : line.mark ≡ other.mark = ap (λ (x : Prof). x.mark) here in omega arith)
        | inr there ↦ elim (is.order.0 other there) [
          | inl less ↦ (omega arith)
          | inr same ↦ (let e = same.0 in omega arith)
        ]
      ])))
]

-- ---- numbers that are the same

module _ (marked : Marking) (s s' : Samples) (objects others : List Object) (allocs : (m : ℕ) (b : Bucket) → allocs_at s objects m b ≡ allocs_at s' others m b)
    (frees : (m : ℕ) (b : Bucket) → frees_at marked s objects m b ≡ frees_at marked s' others m b) where
  prof-here : (line : Prof) → IsProf marked s' others line → IsProf marked s objects line
  prof-here line is = record {
    some = is.some;
    allocs = is.allocs ∙ sym (allocs line.mark (bucket_of line));
    frees = is.frees ∙ sym (frees line.mark (bucket_of line));
  }

  changed-here : (m : ℕ) (b : Bucket) → IsChanged marked s' others m b → IsChanged marked s objects m b
  changed-here m b changed = elim changed [
    | inl more ↦ inl (λ same. more (sym (allocs (suc m) b) ∙ same ∙ allocs m b))
    | inr more ↦ inr (λ same. more (sym (frees (suc m) b) ∙ same ∙ frees m b))
  ]

  changed-there : (m : ℕ) (b : Bucket) → IsChanged marked s objects m b → IsChanged marked s' others m b
  changed-there m b changed = elim changed [
    | inl more ↦ inl (λ same. more (allocs (suc m) b ∙ same ∙ sym (allocs m b)))
    | inr more ↦ inr (λ same. more (frees (suc m) b ∙ same ∙ sym (frees m b)))
  ]

  right-here : (each : Bool) (last : ℕ) (lines : List Prof) (line : Prof) → IsProfileIn each marked s' last others lines → In line lines → IsRightProf each marked s last objects line
  right-here true last lines line is h =
      let right = is.right line h in
      (right.0, right.1, prof-here line right.2, λ m mark lt. changed-here m (bucket_of line) (is.changed m line h mark lt))
  right-here false last lines line is h = let right = is.right line h in (right.0, prof-here line right.1)

  printed : (each : Bool) (last : ℕ) (lines : List Prof) (m : ℕ) (b : Bucket) → IsProfileIn each marked s' last others lines → IsDue each marked s last objects m b → (line : Prof) × In line lines × IsOf m b line
  printed true last lines m b is due = elim due [
    | inl end ↦ (let e = allocs last b in let found = is.last_each b (let some = end.1 in omega arith) in (found.0, found.1, subst (λ (k : ℕ). IsOf k b found.0) (sym end.0) found.2))
    | inr early ↦ (
        let lt = early.1 in
        let mark = early.2.1 in
        let found = is.each early.2.0 b (omega arith) (changed-there early.2.0 b early.2.2) in
        (found.0, found.1, subst (λ (k : ℕ). IsOf k b found.0) (sym mark) found.2))
  ]
  printed false last lines m b is due = elim due [
    | inl end ↦ (let e = allocs last b in let found = is.each b (let some = end.1 in omega arith) in (found.0, found.1, subst (λ (k : ℕ). IsOf k b found.0) (sym end.0) found.2))
    | inr early ↦ (let off = early.0 in let none : ⊥ = cc in absurd none)
  ]

-- ---- the line

order-of : (each : Bool) (marked : Marking) (s : Samples) (last : ℕ) (objects : List Object) (lines : List Prof) → IsProfileIn each marked s last objects lines → AllApart IsProfBefore lines
order-of true marked s last objects lines is = is.order
order-of false marked s last objects lines is = is.order

pub profile-unmet : (t : Trace) (report : Report) (objects others : List Object) (line : ℕ) → HasAnswers t report objects → HasAnswers t report others → BreaksProfile t report objects line → ¬ HasProfile t report others
profile-unmet t report objects others line here there breaks has =
    let s : Samples = samples_in t breaks.0 in
    let s' : Samples = samples_in t has.1.which in
    let answers : map (λ (o : Object). o.answer) others ≡ map (λ (o : Object). o.answer) objects = there.printed ∙ sym here.printed in
    let by : SamplesBy t.header.rate t.header.seed has.1.which objects = samples-there t.header.rate t.header.seed has.1.which (requests_of t) others objects there.asked here.asked answers has.1.sampled in
    let alike : AreAlike (samples_in t breaks.0) (samples_in t has.1.which) objects = λ o h placed. (samples-one t.header.rate t.header.seed breaks.0 has.1.which objects o breaks.1 by h placed, refl) in
    let allocs : (m : ℕ) (b : Bucket) → allocs_at s objects m b ≡ allocs_at s' others m b = λ m b. (
    allocs-alike s s' objects m b alike ∙ sym (allocs-same s' (requests_of t) others objects m b there.asked here.asked answers)) in
    let frees : (m : ℕ) (b : Bucket) → frees_at (marked_by t) s objects m b ≡ frees_at (marked_by t) s' others m b = λ m b. (
    frees-alike (marked_by t) s s' objects m b alike ∙ sym (frees-same (marked_by t) s' (requests_of t) others objects m b there.asked here.asked answers)) in
    let form = of-form has.0 (marked_by t) s' (last_cycle t) others report.profile has.1.lines in
    elim breaks.2 [
      | inl w ↦ elim w.1.wrong [
        | inl off ↦ off (right-here (marked_by t) s s' objects others allocs frees (is_of_each (last_cycle t) report.profile) (last_cycle t) report.profile w.1.prof form (get-in report.profile w.0 w.1.prof w.1.printed))
        | inr order ↦ order.wrong (apart-at IsProfBefore report.profile order.place w.0 order.earlier w.1.prof
            (order-of (is_of_each (last_cycle t) report.profile) (marked_by t) s' (last_cycle t) others report.profile form) order.before order.among w.1.printed)
      ]
      | inr e ↦ (
          let found = printed (marked_by t) s s' objects others allocs frees (is_of_each (last_cycle t) report.profile) (last_cycle t) report.profile e.0 e.1 form e.2.due in
          e.2.missing found.0 found.1 found.2)
    ]
