-- The rules 4 to 6, whichever objects show them: lists of objects that answer one trace alike have the same seats.
use Rattle.std.proofs.Common.{◌≡◌, ◌≢◌, ℕ, suc, ◌+◌, ◌*◌, ◌<◌, ◌≤◌, Bool, true, false, ◌&&◌, ◌||◌, eqb, List, refl, sym, ◌∙◌, ap, subst, arith, inl, inr}
use Rattle.std.proofs.lemmas.Bool.{cases_lt, cases_eq, cases_order}
use Rattle.std.proofs.Math.Nat.{mul-le-mul_left}
use Rattle.page_alloc.specs.Lists.{In}
use Rattle.page_alloc.specs.Lives.{Life, open_lives}
use Rattle.page_alloc.specs.Journal.{at_end}
use Rattle.trace_reader.specs.declared.trace.Trace.{Trace}
use Rattle.cycle_history.specs.declared.Answer.{Answer}
use Rattle.cycle_history.specs.declared.Answer.TheVariants.{Placed, Zero}
use Rattle.cycle_history.specs.declared.Report.{Report}
use Rattle.cycle_history.specs.Needs.{Need, IsNeed}
use Rattle.cycle_history.specs.Requests.{Marking, marked_by, requests_of}
use Rattle.cycle_history.specs.Objects.{IsApart, IsHeld, Object, Sits, is_placed, live, start_of}
use Rattle.cycle_history.specs.Rules.{AreApart, AreFilled, AreSeated, IsSmall}
use Rattle.cycle_history.specs.Sound.{past_in, HasAnswers}
use Rattle.cycle_history.proofs.OfObjects.{request-of}
use Rattle.report_check.specs.Placing.{BreaksApart, BreaksFilling, BreaksPlaces}
use Rattle.report_check.proofs.Twins.{IsTwin, twin-of}

placed-not_zero : (a : Answer) → is_placed a ≡ true → a ≢ Zero
placed-not_zero a placed e = (let off : is_placed a ≡ false = ap is_placed e in cc)

live-twin : (marked : Marking) (c : ℕ) (o twin : Object) → IsTwin o twin → live marked c twin ≡ live marked c o
live-twin marked c o twin is =
    ap (λ (x : Answer). is_placed x && (eqb twin.cycle c || marked c twin.id)) is.answer
    ∙ (ap (λ (x : ℕ). is_placed o.answer && (eqb x c || marked c twin.id)) is.cycle ∙ ap (λ (x : ℕ). is_placed o.answer && (eqb o.cycle c || marked c x)) is.id)

sits-back : (o twin : Object) (life : Life) (k : ℕ) → IsTwin o twin → is_placed o.answer ≡ true → Sits twin life k → Sits o life k
sits-back o twin life k is placed sits =
    let need = is.need (placed-not_zero o.answer placed) in
    record {
      class = sits.class ∙ ap (λ (n : Need). n.class) need;
      pages = sits.pages ∙ ap (λ (n : Need). n.pages) need;
      index = subst (λ (n : Need). k < n.count) need sits.index;
      address = sym is.answer ∙ (sits.address ∙ ap (λ (n : Need). Placed (start_of life + n.slot * k)) need);
    }

sits-on : (o twin : Object) (life : Life) (k : ℕ) → IsTwin o twin → is_placed o.answer ≡ true → Sits o life k → Sits twin life k
sits-on o twin life k is placed sits =
    let need = is.need (placed-not_zero o.answer placed) in
    record {
      class = sits.class ∙ ap (λ (n : Need). n.class) (sym need);
      pages = sits.pages ∙ ap (λ (n : Need). n.pages) (sym need);
      index = subst (λ (n : Need). k < n.count) (sym need) sits.index;
      address = is.answer ∙ (sits.address ∙ ap (λ (n : Need). Placed (start_of life + n.slot * k)) (sym need));
    }

-- ---- rule 4

pub places-met : (t : Trace) (report : Report) (objects others : List Object) (line : ℕ) → HasAnswers t report objects → HasAnswers t report others → BreaksPlaces (marked_by t) (past_in report) objects line → ¬ AreSeated (marked_by t) (past_in report) others
places-met t report objects others line here there breaks met =
    let o = breaks.object in
    let twin = twin-of t report objects others o here there breaks.among in
    let is = twin.2 in
    let placed : is_placed twin.0.answer ≡ true = ap is_placed is.answer ∙ breaks.placed in
    let seat = met twin.0 twin.1 placed in
    let life = seat.0 in
    let s = seat.1 in
    let sits = sits-back o twin.0 life twin.0.index is breaks.placed s.sits in
    breaks.wrong (
      life,
      twin.0.index,
      record {
        number = refl;
        here = subst (λ (c : ℕ). In life (open_lives (at_end c (past_in report)))) is.cycle s.here;
        sits = record { class = sits.class; pages = sits.pages; index = sits.index; address = sits.address };
        only = λ other k i at. (
            let back : Sits o other k = record { class = at.class; pages = at.pages; index = at.index; address = at.address } in
            s.only other k (subst (λ (c : ℕ). In other (open_lives (at_end c (past_in report)))) (sym is.cycle) i) (sits-on o twin.0 other k is breaks.placed back));
        stays = λ c alive. s.stays c (live-twin (marked_by t) c o twin.0 is ∙ alive);
      },
    )

-- ---- rule 5

pub apart-met : (t : Trace) (report : Report) (objects others : List Object) (line : ℕ) → HasAnswers t report objects → HasAnswers t report others → BreaksApart (marked_by t) objects line → ¬ AreApart (marked_by t) others
apart-met t report objects others line here there breaks met =
    let a = breaks.earlier in
    let b = breaks.later in
    let ta = twin-of t report objects others a here there breaks.among.0 in
    let tb = twin-of t report objects others b here there breaks.among.1 in
    let lt = breaks.before in
    let ia = ta.2.id in
    let ib = tb.2.id in
    let off : IsApart ta.0 tb.0 = met breaks.cycle ta.0 tb.0 ta.1 tb.1 (λ e. absurd (omega arith)) (live-twin (marked_by t) breaks.cycle a ta.0 ta.2 ∙ breaks.alive.0) (live-twin (marked_by t) breaks.cycle b tb.0 tb.2 ∙ breaks.alive.1) in
    breaks.wrong (λ x y ax by. (
    let na : ta.0.need ≡ a.need = ta.2.need (λ z. clash x a.answer ax z) in
    let nb : tb.0.need ≡ b.need = tb.2.need (λ z. clash y b.answer by z) in
    let sa = ap (λ (n : Need). n.slot) na in
    let sb = ap (λ (n : Need). n.slot) nb in
    elim (off x y (ta.2.answer ∙ ax) (tb.2.answer ∙ by)) [ inl le ↦ inl (omega arith) | inr le ↦ inr (omega arith) ]))
  where
    clash : (x : ℕ) (a : Answer) → a ≡ Placed x → a ≡ Zero → ⊥
    clash x a p z = cc

-- ---- seats

slot_index : (slot j k : ℕ) → 1 ≤ slot → slot * j ≡ slot * k → j ≡ k
slot_index slot j k some same = elim (cases_order j k) [
  | inl equal ↦ equal
  | inr order ↦ elim order [
    | inl lt ↦ (let m : slot * suc j ≤ slot * k = mul-le-mul_left slot lt in absurd (omega arith))
    | inr gt ↦ (let m : slot * suc k ≤ slot * j = mul-le-mul_left slot gt in absurd (omega arith))
  ]
]

need-slot : (size : ℕ) (scan : Bool) (need : Need) → 1 ≤ size → IsNeed size scan need → 1 ≤ need.slot
need-slot size scan need some is = elim (cases_lt 32768 size) [
  | inl large ↦ (let l = is.large large in let a = l.pages in let b = l.slot in omega arith)
  | inr small ↦ (let s = is.small small in let room = s.1.room in let e = s.2.slot in omega arith)
]

some-slot : (t : Trace) (report : Report) (objects : List Object) (o : Object) → HasAnswers t report objects → In o objects → is_placed o.answer ≡ true → 1 ≤ o.need.slot
some-slot t report objects o has among placed =
    let r = request-of (requests_of t) objects o has.asked among in
    elim (cases_eq r.request.event.size 0) [
      | inl none ↦ absurd (placed-not_zero o.answer placed ((r.answers.zero).1 none))
      | inr some ↦ need-slot r.request.event.size r.request.event.scan o.need (omega arith) (r.answers.need (omega arith))
    ]

-- twins have one seat
pub twin-seat : (t : Trace) (report : Report) (objects others : List Object) (o twin : Object) → HasAnswers t report objects → AreSeated (marked_by t) (past_in report) objects → AreSeated (marked_by t) (past_in report) others → In o objects → In twin others
    → IsTwin o twin → is_placed o.answer ≡ true → (twin.life ≡ o.life) × (twin.index ≡ o.index)
twin-seat t report objects others o twin here seats seats' io it is placed =
    let so = seats o io placed in
    let st = seats' twin it (ap is_placed is.answer ∙ placed) in
    let l = so.1 in
    let m = st.1 in
    let same : so.0 ≡ st.0 = m.only so.0 o.index (subst (λ (c : ℕ). In so.0 (open_lives (at_end c (past_in report)))) (sym is.cycle) l.here) (sits-on o twin so.0 o.index is placed l.sits) in
    let number = ap (λ (x : Life). x.number) same in
    let a = l.sits.address in
    let back = sits-back o twin st.0 twin.index is placed m.sits in
    let b = back.address in
    let both : Placed (start_of so.0 + o.need.slot * o.index) ≡ Placed (start_of st.0 + o.need.slot * twin.index) = sym a ∙ b in
    let sum : start_of so.0 + o.need.slot * o.index ≡ start_of st.0 + o.need.slot * twin.index = cc in
    let start = ap (λ (x : Life). start_of x) same in
    let offset : o.need.slot * twin.index ≡ o.need.slot * o.index = omega arith in
    (sym m.number ∙ (sym number ∙ l.number), slot_index o.need.slot twin.index o.index (some-slot t report objects o here io placed) offset)

-- ---- rule 6

-- what the others hold the objects hold
held-on : (t : Trace) (report : Report) (objects others : List Object) (c before n k : ℕ) → HasAnswers t report objects → HasAnswers t report others → AreSeated (marked_by t) (past_in report) objects → AreSeated (marked_by t) (past_in report) others
    → IsHeld (marked_by t) others c before n k → IsHeld (marked_by t) objects c before n k
held-on t report objects others c before n k here there seats seats' held =
    let h = held.0 in
    let twin = twin-of t report others objects h there here held.1 in
    let is = twin.2 in
    let w = held.2 in
    let seat = twin-seat t report others objects h twin.0 there seats' seats held.1 twin.1 is w.placed in (
      twin.0,
      twin.1,
      record {
        placed = ap is_placed is.answer ∙ w.placed;
        life = seat.0 ∙ w.life;
        index = seat.1 ∙ w.index;
        when = elim w.when [
          | inl on ↦ inl (ap (λ (i : ℕ). marked_by t c i) is.id ∙ on)
          | inr own ↦ (let e = is.id in let lt = own.1 in inr (is.cycle ∙ own.0, omega arith))
        ];
      },
    )

small-twin : (o twin : Object) → IsTwin o twin → IsSmall o → IsSmall twin
small-twin o twin is small = (ap is_placed is.answer ∙ small.0, subst (λ (n : Need). 2 ≤ n.class) (sym (is.need (placed-not_zero o.answer small.0))) small.1)

pub filling-met : (t : Trace) (report : Report) (objects others : List Object) (line : ℕ) → HasAnswers t report objects → HasAnswers t report others → AreSeated (marked_by t) (past_in report) objects → AreSeated (marked_by t) (past_in report) others
    → BreaksFilling (marked_by t) objects line → ¬ AreFilled (marked_by t) others
filling-met t report objects others line here there seats seats' breaks met =
    let o = breaks.object in
    let twin = twin-of t report objects others o here there breaks.among in
    let is = twin.2 in
    let small = small-twin o twin.0 is breaks.small in
    let seat = twin-seat t report objects others o twin.0 here seats seats' breaks.among twin.1 is breaks.small.0 in
    elim breaks.wrong [
      | inl two ↦ (
          let a = two.0 in
          let ta = twin-of t report objects others a here there two.1.earlier.among in
          let sa = twin-seat t report objects others a ta.0 here seats seats' two.1.earlier.among ta.1 ta.2 two.1.earlier.small.0 in
          two.1.other (sym ta.2.proc ∙ (met.one_processor ta.0 twin.0 ta.1 twin.1 (small-twin a ta.0 ta.2 two.1.earlier.small) small (ta.2.cycle ∙ (two.1.earlier.cycle ∙ sym is.cycle)) (sa.0 ∙ (two.1.life ∙ sym seat.0)) ∙ is.proc)))
      | inr rest ↦ elim rest [
        | inl gap ↦ (
            let below = gap.1.below in
            let index = seat.1 in
            let held = met.no_gap twin.0 twin.1 small gap.0 (omega arith) in
            let back = held-on t report objects others twin.0.cycle twin.0.id twin.0.life gap.0 here there seats seats' held in
            gap.1.free (subst (λ (c : ℕ). IsHeld (marked_by t) objects c o.id o.life gap.0) is.cycle
            (subst (λ (i : ℕ). IsHeld (marked_by t) objects twin.0.cycle i o.life gap.0) is.id (subst (λ (n : ℕ). IsHeld (marked_by t) objects twin.0.cycle twin.0.id n gap.0) seat.0 back))))
        | inr left ↦ (
            let a = left.0 in
            let j = left.1 in
            let w = left.2 in
            let ta = twin-of t report objects others a here there w.earlier.among in
            let sa = twin-seat t report objects others a ta.0 here seats seats' w.earlier.among ta.1 ta.2 w.earlier.small.0 in
            let na : ta.0.need ≡ a.need = ta.2.need (placed-not_zero a.answer w.earlier.small.0) in
            let no : twin.0.need ≡ o.need = is.need (placed-not_zero o.answer breaks.small.0) in
            let class : ta.0.need.class ≡ twin.0.need.class = ap (λ (n : Need). n.class) na ∙ (w.class ∙ ap (λ (n : Need). n.class) (sym no)) in
            let lt = w.earlier.before in
            let ia = ta.2.id in
            let io = is.id in
            let inside : j < ta.0.need.count = subst (λ (n : Need). j < n.count) (sym na) w.inside in
            let held = met.full_first ta.0 twin.0 ta.1 twin.1 (small-twin a ta.0 ta.2 w.earlier.small) small (ta.2.cycle ∙ (w.earlier.cycle ∙ sym is.cycle)) (ta.2.proc ∙ (w.proc ∙ sym is.proc)) class (omega arith)
            (λ e. w.other (sym sa.0 ∙ (e ∙ seat.0))) j inside in
            let back = held-on t report objects others ta.0.cycle twin.0.id ta.0.life j here there seats seats' held in
            w.free (subst (λ (c : ℕ). IsHeld (marked_by t) objects c o.id a.life j) (ta.2.cycle ∙ w.earlier.cycle)
            (subst (λ (i : ℕ). IsHeld (marked_by t) objects ta.0.cycle i a.life j) is.id (subst (λ (n : ℕ). IsHeld (marked_by t) objects ta.0.cycle twin.0.id n j) sa.0 back))))
      ]
    ]
