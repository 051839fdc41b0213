-- The last cycle of each item, one mark end more at a time.
use Rattle.std.proofs.Common.{◌≡◌, ℕ, suc, ◌+◌, ◌<◌, ◌≤◌, Bool, true, false, List, [], ◌∷◌, ◌++◌, length, map, reverse, take, get_or, Some, refl, sym, ◌∙◌, ap, ap₂, subst, arith, ◌⊎◌, inl, inr, ◌↔◌}
use Rattle.std.specs.List.{slice_get}
use Rattle.std.proofs.lemmas.Bool.{cases_lt, cases_eq, cases_Bool}
use Rattle.std.proofs.lemmas.List.{length-map, get_or_past, append_assoc, map-append, map_push, reverse-append, reverse-reverse, take_more}
use Rattle.std.proofs.lemmas.Simd.{map-map}
use Rattle.std.proofs.lemmas.Option.{slice_get_within, slice_get-map, get_or_from_slice_get, slice_get_cases}
use Rattle.trace_reader.specs.declared.trace.Trace.{Trace}
use Rattle.trace_reader.specs.declared.trace.Cycle.{Cycle}
use Rattle.trace_reader.specs.declared.trace.Event.{Event}
use Rattle.trace_reader.specs.declared.span.Span.{Span}
use Rattle.trace_reader.specs.Limits.{AreCycles}
use Rattle.cycle_history.specs.declared.Report.{Report}
use Rattle.cycle_history.specs.Requests.{Request, is_within, marked_by, requests_from}
use Rattle.cycle_history.specs.Rules.{AreAnswered}
use Rattle.cycle_history.specs.Before.{IsLimited, marks_at, objects_before}
use Rattle.cycle_history.specs.Sound.{HasAnswers}
use Rattle.cycle_history.proofs.Firsts.{before-rise, before-all}
use Rattle.cycle_history.proofs.Rising.{marked-early, marked-may, marks-within}
use Rattle.report_check.specs.declared.items.Item.{Item}
use Rattle.report_check.specs.Items.{objects_from, objects_of}
use Rattle.report_check.specs.Lasts.{AreLasts, AreLastsTo, AreSet, cycle_asked, last_at}
use Rattle.report_check.proofs.Requests.{requests_in, requests-take}
use Rattle.report_check.proofs.Settled.{IsAsked, asked-at, unmarked-late}

-- an item whose number is that of an object of the cycle
pub cycle-at : (t : Trace) (i c : ℕ) (item : Item) → IsAsked t i item → objects_before t c ≤ i → i < objects_before t (c + 1) → item.cycle ≡ c
cycle-at t i c item asked low high =
    let a = asked.low in
    let b = asked.high in
    elim (cases_lt item.cycle c) [
      | inl less ↦ (let r = before-rise t (item.cycle + 1) c (omega arith) in absurd (omega arith))
      | inr ge ↦ elim (cases_lt c item.cycle) [
        | inl more ↦ (let r = before-rise t (c + 1) item.cycle (omega arith) in absurd (omega arith))
        | inr le ↦ omega arith
      ]
    ]

-- a later item is of the same or a later cycle
pub cycles-rise : (t : Trace) (i j : ℕ) (a b : Item) → IsAsked t i a → IsAsked t j b → i ≤ j → a.cycle ≤ b.cycle
cycles-rise t i j a b ia ib le =
    let low = ia.low in
    let high = ib.high in
    elim (cases_lt b.cycle a.cycle) [
      | inl less ↦ (let r = before-rise t (b.cycle + 1) a.cycle (omega arith) in absurd (omega arith))
      | inr ge ↦ ge
    ]

-- an item's cycle is one of the trace's
pub cycle-few : (t : Trace) (i : ℕ) (item : Item) → IsAsked t i item → item.cycle < length t.cycles
cycle-few t i item asked = elim (cases_lt item.cycle (length t.cycles)) [
  | inl lt ↦ lt
  | inr ge ↦ (
      let low = asked.low in
      let high = asked.high in
      let a = before-all t item.cycle ge in
      let b = before-all t (item.cycle + 1) (omega arith) in
      absurd (omega arith))
]

-- a mark end marks objects of earlier cycles
pub marked-behind : (t : Trace) (i c : ℕ) (item : Item) → IsLimited t → IsAsked t i item → marked_by t c i ≡ true → item.cycle < c
marked-behind t i c item limited asked on =
    let early = marked-early t c i limited.cycles on in
    let low = asked.low in
    elim (cases_lt item.cycle c) [
      | inl lt ↦ lt
      | inr ge ↦ (let r = before-rise t c item.cycle ge in absurd (omega arith))
    ]

off-on : (b : Bool) → b ≡ false → b ≡ true → ⊥
off-on b off on = cc

not-on : (b : Bool) → (b ≡ true → ⊥) → b ≡ false
not-on true none = absurd (none refl)
not-on false none = refl

-- ---- the cycles of a trace's events are those of its items

map-back : {A B : Type 0} (f : A → B) (xs : List A) → map f (reverse xs) ≡ reverse (map f xs)
map-back f [] = refl
map-back {A} {B} f (x ∷ xs) =
    ap (λ (is : List A). map f is) (reverse-append (x ∷ []) xs) ∙ (map_push f (reverse xs) x ∙ (ap (λ (ys : List B). ys ++ f x ∷ []) (map-back f xs) ∙ sym (reverse-append (f x ∷ []) (map f xs))))

answered-cycles : (rs : List Request) (xs : List Item) → AreAnswered rs (objects_from xs) → map cycle_asked rs ≡ map (λ (item : Item). item.cycle) xs
answered-cycles [] [] all = refl
answered-cycles [] (x ∷ xs) all = absurd all
answered-cycles (r ∷ rs) [] all = absurd all
answered-cycles (r ∷ rs) (x ∷ xs) all = ap₂ (λ (c : ℕ) (cs : List ℕ). c ∷ cs) (sym all.0.cycle) (answered-cycles rs xs all.1)

asked-cycles : (t : Trace) (report : Report) (items : List Item) → HasAnswers t report (objects_of items) → map cycle_asked (requests_from 0 t.cycles) ≡ map (λ (item : Item). item.cycle) items
asked-cycles t report items answers =
    let rs = requests_from 0 t.cycles in
    let back : map cycle_asked (reverse rs) ≡ map (λ (item : Item). item.cycle) (reverse items) = answered-cycles (reverse rs) (reverse items) answers.asked in
    let turned : reverse (map cycle_asked rs) ≡ reverse (map (λ (item : Item). item.cycle) items) = sym (map-back cycle_asked rs) ∙ (back ∙ map-back (λ (item : Item). item.cycle) items) in
    sym (reverse-reverse (map cycle_asked rs)) ∙ (ap (λ (cs : List ℕ). reverse cs) turned ∙ reverse-reverse (map (λ (item : Item). item.cycle) items))

-- the cycle of one event more
pub cycle-more : (was new initial : List ℕ) (cycle i : ℕ) (events : List Event) → was ≡ initial ++ map (λ (e : Event). cycle) (take i events) → new ≡ was ++ cycle ∷ [] → i < length events
    → new ≡ initial ++ map (λ (e : Event). cycle) (take (i + 1) events)
cycle-more was new initial cycle i events before is lt =
    let d : Event = record { size = 0; stack = 0; proc = 0; scan = false } in
    let pushed : map (λ (e : Event). cycle) (take (i + 1) events) ≡ map (λ (e : Event). cycle) (take i events) ++ cycle ∷ [] =
    ap (λ (es : List Event). map (λ (e : Event). cycle) es) (take_more events i d lt) ∙ map_push (λ (e : Event). cycle) (take i events) (get_or events i d) in
    is ∙ (ap (λ (cs : List ℕ). cs ++ cycle ∷ []) before ∙ (append_assoc initial (map (λ (e : Event). cycle) (take i events)) (cycle ∷ []) ∙ ap (λ (cs : List ℕ). initial ++ cs) (sym pushed)))

-- the cycles of one cycle's events more
pub cycles-more : (was more : List ℕ) (cs : List Cycle) (k cycle : ℕ) (events : List Event) (d : Cycle) → was ≡ map cycle_asked (requests_from 0 (take k cs)) → more ≡ was ++ map (λ (e : Event). cycle) events
    → events ≡ (get_or cs k d).events → cycle ≡ k → k < length cs → more ≡ map cycle_asked (requests_from 0 (take (k + 1) cs))
cycles-more was more cs k cycle events d before is same number lt =
    let turned : map (λ (e : Event). cycle) events ≡ map cycle_asked (requests_in (0 + k) (get_or cs k d)) = in-cycle cycle (0 + k) events (get_or cs k d).events (number ∙ omega arith) same in
    is ∙ (ap₂ (λ (xs ys : List ℕ). xs ++ ys) before turned ∙ (sym (map-append cycle_asked (requests_from 0 (take k cs)) (requests_in (0 + k) (get_or cs k d))) ∙ ap (λ (rs : List Request). map cycle_asked rs) (sym (requests-take 0 cs k d lt))))
  where
    in-cycle : (a b : ℕ) (xs ys : List Event) → a ≡ b → xs ≡ ys → map (λ (e : Event). a) xs ≡ map cycle_asked (map (λ (e : Event). record { cycle = b; event = e }) ys)
    in-cycle a b xs ys e1 e2 = ap₂ (λ (n : ℕ) (es : List Event). map (λ (e : Event). n) es) e1 e2 ∙ sym (map-map cycle_asked (λ (e : Event). record { cycle = b; event = e }) ys)

-- ---- at the start

lasts-own : (t : Trace) (report : Report) (items : List Item) → IsLimited t → HasAnswers t report (objects_of items) → AreLastsTo t items (map (λ (item : Item). item.cycle) items) 0
lasts-own t report items limited answers = record {
  size = length-map items (λ (item : Item). item.cycle);
  own = λ i item at. (let e = here i item at in omega arith);
  few = λ i item at. inr (here i item at);
  marked = λ i c item at le. (
      let z : c ≡ 0 = omega arith in
      (λ on. (let f : marked_by t 0 i ≡ true = subst (λ (n : ℕ). marked_by t n i ≡ true) z on in absurd (off-on false refl f)), λ lt. absurd (let l = lt.0 in omega arith)));
}
  where
    here : (i : ℕ) (item : Item) → slice_get items i ≡ Some item → last_at (map (λ (x : Item). x.cycle) items) i ≡ item.cycle
    here i item at = get_or_from_slice_get (map (λ (x : Item). x.cycle) items) i item.cycle 0 (slice_get-map (λ (x : Item). x.cycle) items i ∙ (let e : slice_get items i ≡ Some item = at in rw e refl))

pub lasts-asked : (t : Trace) (report : Report) (items : List Item) (lasts : List ℕ) → IsLimited t → lasts ≡ map cycle_asked (requests_from 0 t.cycles) → HasAnswers t report (objects_of items) → AreLastsTo t items lasts 0
lasts-asked t report items lasts limited are answers = subst (λ (xs : List ℕ). AreLastsTo t items xs 0) (sym (are ∙ asked-cycles t report items answers)) (lasts-own t report items limited answers)

-- ---- one mark end more

pub lasts-next : (t : Trace) (report : Report) (items : List Item) (m : ℕ) (spans : List Span) (old new : List ℕ) → IsLimited t → HasAnswers t report (objects_of items) → spans ≡ marks_at t (m + 1)
    → AreSet (λ i. is_within spans i ≡ true) (m + 1) old new → AreLastsTo t items old m → AreLastsTo t items new (m + 1)
lasts-next t report items m spans old new limited answers marks are was = record {
  size = are.size ∙ was.size;
  own = λ i item at. elim (cases_Bool (is_within spans i)) [
    | inl on ↦ (
        let e = are.here i (inside i item at) on in
        let b = marked-behind t i (m + 1) item limited (asked-at t report items i item answers at) (as-marked i true on) in
        omega arith)
    | inr off ↦ (let e = same i off in let o = was.own i item at in omega arith)
  ];
  few = λ i item at. elim (cases_Bool (is_within spans i)) [
    | inl on ↦ (let e = are.here i (inside i item at) on in inl (omega arith))
    | inr off ↦ (let e = same i off in elim (was.few i item at) [ inl le ↦ inl (omega arith) | inr own ↦ inr (e ∙ own) ])
  ];
  marked = λ i c item at le. elim (cases_Bool (is_within spans i)) [
    | inl on ↦ noted i c item at le on
    | inr off ↦ unnoted i c item at le off
  ];
}
  where
    inside : (i : ℕ) (item : Item) → slice_get items i ≡ Some item → i < length old
    inside i item at = (let w = slice_get_within items i item at in let s = was.size in omega arith)

    as-marked : (i : ℕ) (b : Bool) → is_within spans i ≡ b → marked_by t (m + 1) i ≡ b
    as-marked i b e = marks-within t (m + 1) i ∙ (ap (λ (ss : List Span). is_within ss i) (sym marks) ∙ e)

    same : (i : ℕ) → is_within spans i ≡ false → last_at new i ≡ last_at old i
    same i off = are.others i (λ on. off-on (is_within spans i) off on)

    -- what the mark end before says of a marked object
    before : (i : ℕ) (item : Item) → IsAsked t i item → marked_by t (m + 1) i ≡ true → (marked_by t m i ≡ true) ⊎ (item.cycle ≡ m)
    before i item asked on =
        let e : m + 1 ≡ suc m = omega arith in
        let on' : marked_by t (suc m) i ≡ true = subst (λ (n : ℕ). marked_by t n i ≡ true) e on in
        elim (marked-may t m i limited.cycles on') [
          | inl old' ↦ inl old'
          | inr of ↦ inr (cycle-at t i m item asked of.0 (subst (λ (n : ℕ). i < objects_before t n) (sym e) of.1))
        ]

    noted : (i c : ℕ) (item : Item) → slice_get items i ≡ Some item → c ≤ m + 1 → is_within spans i ≡ true → (marked_by t c i ≡ true) ↔ ((item.cycle < c) × (c ≤ last_at new i))
    noted i c item at le on =
        let e = are.here i (inside i item at) on in
        let asked = asked-at t report items i item answers at in
        let is = as-marked i true on in (
          λ marked. (marked-behind t i c item limited asked marked, omega arith),
          λ within. elim (cases_eq c (m + 1)) [
            | inl last ↦ subst (λ (n : ℕ). marked_by t n i ≡ true) (sym last) is
            | inr other ↦ elim (before i item asked is) [
              | inl old' ↦ (
                  let w = (was.marked i m item at (omega arith)).0 old' in
                  let up = w.1 in
                  let lt = within.0 in
                  (was.marked i c item at (omega arith)).1 (lt, omega arith))
              | inr own ↦ (let lt = within.0 in absurd (omega arith))
            ]
          ],
        )

    unnoted : (i c : ℕ) (item : Item) → slice_get items i ≡ Some item → c ≤ m + 1 → is_within spans i ≡ false → (marked_by t c i ≡ true) ↔ ((item.cycle < c) × (c ≤ last_at new i))
    unnoted i c item at le off =
        let e = same i off in
        elim (cases_eq c (m + 1)) [
          | inl last ↦ (
            λ marked. absurd (off-on (marked_by t (m + 1) i) (as-marked i false off) (subst (λ (n : ℕ). marked_by t n i ≡ true) last marked)),
            λ within. (let lt = within.0 in let up = within.1 in absurd (elim (was.few i item at) [ inl few ↦ omega arith | inr own ↦ omega arith ])),
          )
          | inr other ↦ (
              let w = was.marked i c item at (omega arith) in (
                λ marked. (let r = w.0 marked in let lt = r.0 in let up = r.1 in (lt, omega arith)),
                λ within. (let lt = within.0 in let up = within.1 in w.1 (lt, omega arith)),
              ))
        ]

-- ---- at the end

pub lasts-all : (t : Trace) (report : Report) (items : List Item) (lasts : List ℕ) (m : ℕ) → IsLimited t → HasAnswers t report (objects_of items) → 1 ≤ length t.cycles → length t.cycles ≤ m + 1 → m < length t.cycles
    → AreLastsTo t items lasts m → AreLasts t items lasts
lasts-all t report items lasts m limited answers some ge lt are = record {
  size = are.size;
  own = are.own;
  few = λ i. elim (slice_get_cases items i).1 [
    | inl inside ↦ (
        let few = cycle-few t i inside.0 (asked-at t report items i inside.0 answers inside.2) in
        elim (are.few i inside.0 inside.2) [ inl f ↦ omega arith | inr own ↦ omega arith ])
    | inr past ↦ (let size = are.size in let le = past.0 in let z : last_at lasts i ≡ 0 = get_or_past lasts i 0 (omega arith) in omega arith)
  ];
  marked = λ i c item at. elim (cases_lt m c) [
    | inr le ↦ are.marked i c item at le
    | inl late ↦ (
      λ marked. absurd (unmarked-late t c i limited.cycles (omega arith) marked),
      λ within. (
          let asked = asked-at t report items i item answers at in
          let few = cycle-few t i item asked in
          let a = within.0 in
          let b = within.1 in
          absurd (elim (are.few i item at) [ inl f ↦ omega arith | inr own ↦ omega arith ])),
    )
  ];
}

-- a trace has a cycle
pub some-cycle : (t : Trace) → IsLimited t → 1 ≤ length t.cycles
some-cycle t limited = some t.cycles limited.cycles
  where
    some : (cs : List Cycle) → AreCycles 0 (λ _. ⊥) cs → 1 ≤ length cs
    some [] h = absurd h
    some (c ∷ cs) h = omega arith
