-- A sweep of a life, from its bits and marks to its objects.
use Rattle.std.proofs.Common.{◌≡◌, ◌≢◌, ℕ, suc, ◌-◌, ◌<◌, ◌≤◌, Bool, true, false, ◌&&◌, not, eqb, List, [], ◌∷◌, length, refl, sym, ◌∙◌, ap, arith, inl, inr}
use Rattle.std.proofs.lemmas.Bool.{cases_eq, eqb-true, eq-eqb, and_parts, and_from, not-true, not_from_false, false_from_ne_true}
use Rattle.page_bitmap.specs.declared.line.Line.{Line}
use Rattle.page_alloc.specs.Lists.{In, AllApart}
use Rattle.page_alloc.specs.Lives.{Life}
use Rattle.page_alloc.specs.Journal.{at_end}
use Rattle.span_state.specs.Bits.{count_below}
use Rattle.cycle_history.specs.Requests.{Request, Marking}
use Rattle.cycle_history.specs.Objects.{Object, is_placed, live, kept, freed}
use Rattle.cycle_history.specs.Rules.{AreAnswered}
use Rattle.cycle_history.specs.Sweeps.{IsOpenAfter}
use Rattle.sound_run.specs.Run.{count_for, Lasts, IsRun}
use Rattle.sound_run.specs.Spans.{AreBits, AreMarks}
use Rattle.sound_run.proofs.Live.{live-placed, live-marked, live-before, marked-after}
use Rattle.sound_run.proofs.Counts.{unmarked}
use Rattle.sound_run.proofs.Seats.{same_number}
use Rattle.sound_run.proofs.Spans.{bits-swept}
use Rattle.sound_run.proofs.Bits.{bits_count}

-- ---- objects have different ids

abbrev pub AreDistinct : List Object → Type 0
AreDistinct objects = AllApart (λ (x y : Object). x.id ≢ y.id) objects

answered-below : (requests : List Request) (objects : List Object) → AreAnswered requests objects → (o : Object) → In o objects → o.id < length requests
answered-below [] [] all o h = absurd h
answered-below [] (x ∷ objects) all o h = absurd all
answered-below (r ∷ requests) [] all o h = absurd h
answered-below (r ∷ requests) (x ∷ objects) all o h = elim h [
  | inl here ↦ (let e = all.0.id in let f : x.id ≡ o.id = ap (λ (y : Object). y.id) here in omega arith)
  | inr there ↦ (let lt = answered-below requests objects all.1 o there in omega arith)
]

-- the objects of requests do
pub answered-distinct : (requests : List Request) (objects : List Object) → AreAnswered requests objects → AreDistinct objects
answered-distinct [] [] all = tt
answered-distinct [] (x ∷ objects) all = absurd all
answered-distinct (r ∷ requests) [] all = tt
answered-distinct (r ∷ requests) (x ∷ objects) all = (
  (λ y h same. (let e = all.0.id in let lt = answered-below requests objects all.1 y h in omega arith)),
  answered-distinct requests objects all.1,
)

-- objects with different ids that are related where both pass
apart-from_ids : (R : Object → Object → Type 0) (objects : List Object) → AreDistinct objects
    → ((x y : Object) → In x objects → In y objects → x.id ≢ y.id → R x y) → AllApart R objects
apart-from_ids R [] ids h = tt
apart-from_ids R (o ∷ objects) ids h =
    ((λ y there. h o y (inl refl) (inr there) (ids.0 y there)), apart-from_ids R objects ids.1 (λ x y hx hy ne. h x y (inr hx) (inr hy) ne))

-- ---- marks

-- a marked object lived before the mark end
pub marked-lived : (marked : Marking) (o : Object) (m : ℕ) → Lasts marked o → is_placed o.answer ≡ true → marked (suc m) o.id ≡ true → live marked m o ≡ true
marked-lived marked o m lasts placed mark =
    let lt = marked-after marked o (suc m) lasts mark in
    live-before marked o m (suc m) lasts (omega arith) (omega arith) (live-marked marked (suc m) o placed mark)

-- only what is allocated is marked
pub marks-allocated : (marked : Marking) (region goal c m : ℕ) (past : List Line) (objects : List Object) (n : ℕ) (bits marks : ℕ → Bool)
    → IsRun marked region goal c past objects → AreBits marked m objects n bits → AreMarks marked (suc m) objects n marks → (k : ℕ) → marks k ≡ true → bits k ≡ true
marks-allocated marked region goal c m past objects n bits marks run is are k on =
    let at = are.from k on in
    let there = is.shown at.0 at.1 (marked-lived marked at.0 m (run.lasts at.0 at.1) at.2 at.3) at.4 in
    rw at.5 at there

-- a later object changes no marks
pub marks-object : (marked : Marking) (m : ℕ) (objects : List Object) (o : Object) (n : ℕ) (marks : ℕ → Bool) → AreMarks marked m objects n marks → Lasts marked o → m ≤ o.cycle
    → AreMarks marked m (o ∷ objects) n marks
marks-object marked m objects o n marks are lasts le = record {
  shown = λ b h placed mark one. elim h [
    | inl new ↦ (let off = unmarked marked o m lasts le in let e : o.id ≡ b.id = ap (λ (x : Object). x.id) new in let off' : marked m b.id ≡ false = rw e at off in cc)
    | inr old ↦ are.shown b old placed mark one
  ];
  from = λ k on. (let at = are.from k on in (at.0, inr at.1, at.2, at.3, at.4, at.5));
}

-- the marks are the bits of a life that is swept before the new cycle places an object in it
pub bits-marked : (marked : Marking) (m : ℕ) (objects : List Object) (n : ℕ) (marks : ℕ → Bool) → AreMarks marked (suc m) objects n marks
    → ((o : Object) → In o objects → o.cycle ≡ suc m → is_placed o.answer ≡ true → o.life ≢ n) → AreBits marked (suc m) objects n marks
bits-marked marked m objects n marks are none = bits-swept marked m objects n marks none are.shown are.from

-- bits that agree say the same
pub bits-alike : (marked : Marking) (m : ℕ) (objects : List Object) (n : ℕ) (bits new : ℕ → Bool) → AreBits marked m objects n bits → ((k : ℕ) → new k ≡ bits k) → AreBits marked m objects n new
bits-alike marked m objects n bits new is same = record {
  shown = λ o h lives one. same o.index ∙ is.shown o h lives one;
  from = λ k on. is.from k (sym (same k) ∙ on);
}

-- ---- the two numbers of a sweep

-- an index of a life that was open is one of its slots
index-below : (marked : Marking) (region goal c m : ℕ) (past : List Line) (objects : List Object) (life : Life) (o : Object)
    → IsRun marked region goal c past objects → IsOpenAfter past m life → In o objects → live marked m o ≡ true → o.life ≡ life.number → o.index < count_for life.class
index-below marked region goal c m past objects life o run open_after h lives one =
    let placed = live-placed marked m o lives in
    let seat = run.seats o h placed in
    let same : seat.0 ≡ life = same_number (at_end m past) seat.0 life (seat.1.stays m lives) open_after (seat.1.number ∙ one) in
    let class : o.need.class ≡ life.class = sym seat.1.sits.class ∙ ap (λ (l : Life). l.class) same in
    let many : o.need.count ≡ count_for life.class = (run.fits o h placed).count ∙ ap (λ (n : ℕ). count_for n) class in
    let lt = seat.1.sits.index in
    omega arith

abbrev keeps : Marking → ℕ → ℕ → Object → Bool
keeps marked m n o = is_placed o.answer && (eqb o.life n && marked m o.id)

abbrev frees : Marking → ℕ → ℕ → Object → Bool
frees marked m n o = eqb o.life n && (live marked m o && not (marked (suc m) o.id))

-- the marks of a life are as many as its objects that are kept
pub sweep-kept : (marked : Marking) (region goal c m : ℕ) (past : List Line) (objects : List Object) (life : Life) (marks : ℕ → Bool)
    → IsRun marked region goal c past objects → AreDistinct objects → IsOpenAfter past m life → AreMarks marked (suc m) objects life.number marks
    → kept marked objects (suc m) life.number ≡ count_below (count_for life.class) marks
sweep-kept marked region goal c m past objects life marks run ids open_after are =
    let n = life.number in
    let parts : (o : Object) → keeps marked (suc m) n o ≡ true → (is_placed o.answer ≡ true) × (o.life ≡ n) × (marked (suc m) o.id ≡ true) = λ o t. (
    let one = and_parts (is_placed o.answer) (eqb o.life n && marked (suc m) o.id) t in
    let two = and_parts (eqb o.life n) (marked (suc m) o.id) one.1 in
    (one.0, eqb-true o.life n two.0, two.1)) in
    bits_count (count_for life.class) (λ o. keeps marked (suc m) n o) (λ (o : Object). o.index) objects marks
    (apart-from_ids _ objects ids (λ x y hx hy ne tx ty. (
    let px = parts x tx in
    let py = parts y ty in
    run.distinct (suc m) x y hx hy ne (live-marked marked (suc m) x px.0 px.2) (live-marked marked (suc m) y py.0 py.2) (px.1 ∙ sym py.1))))
    (λ o h t. (
    let p = parts o t in
    let lived = marked-lived marked o m (run.lasts o h) p.0 p.2 in
    (index-below marked region goal c m past objects life o run open_after h lived p.1, are.shown o h p.0 p.2 p.1)))
    (λ k lt on. (
    let at = are.from k on in
    (at.0, at.1, and_from (is_placed at.0.answer) (eqb at.0.life n && marked (suc m) at.0.id) at.2 (and_from (eqb at.0.life n) (marked (suc m) at.0.id) (eq-eqb at.0.life n at.4) at.3), at.5)))

-- the bits that aren't marked are as many as the objects that are freed
pub sweep-freed : (marked : Marking) (region goal c m : ℕ) (past : List Line) (objects : List Object) (life : Life) (bits marks : ℕ → Bool)
    → IsRun marked region goal c past objects → AreDistinct objects → IsOpenAfter past m life → AreBits marked m objects life.number bits → AreMarks marked (suc m) objects life.number marks
    → freed marked objects (suc m) life.number ≡ count_below (count_for life.class) (λ k. bits k && not (marks k))
sweep-freed marked region goal c m past objects life bits marks run ids open_after is are =
    let n = life.number in
    let parts : (o : Object) → frees marked m n o ≡ true → (o.life ≡ n) × (live marked m o ≡ true) × (marked (suc m) o.id ≡ false) = λ o t. (
    let one = and_parts (eqb o.life n) (live marked m o && not (marked (suc m) o.id)) t in
    let two = and_parts (live marked m o) (not (marked (suc m) o.id)) one.1 in
    (eqb-true o.life n one.0, two.0, not-true (marked (suc m) o.id) two.1)) in
    let less : suc m - 1 ≡ m = omega arith in
    let all = bits_count (count_for life.class) (λ o. frees marked m n o) (λ (o : Object). o.index) objects (λ k. bits k && not (marks k))
    (apart-from_ids _ objects ids (λ x y hx hy ne tx ty. (
    let px = parts x tx in
    let py = parts y ty in
    run.distinct m x y hx hy ne px.1 py.1 (px.0 ∙ sym py.0))))
    (λ o h t. (
    let p = parts o t in
    let off : marks o.index ≡ false = false_from_ne_true (marks o.index) (λ on. (
    let at = are.from o.index on in
    let was = marked-lived marked at.0 m (run.lasts at.0 at.1) at.2 at.3 in
    elim (cases_eq at.0.id o.id) [
      | inl same ↦ (let mark = at.3 in let e : marked (suc m) at.0.id ≡ marked (suc m) o.id = ap (λ (i : ℕ). marked (suc m) i) same in let no-mark = p.2 in cc)
      | inr other ↦ run.distinct m at.0 o at.1 h other was p.1 (at.4 ∙ sym p.0) at.5
    ])) in
    (index-below marked region goal c m past objects life o run open_after h p.1 p.0, and_from (bits o.index) (not (marks o.index)) (is.shown o h p.1 p.0) (not_from_false (marks o.index) off))))
    (λ k lt on. (
    let both = and_parts (bits k) (not (marks k)) on in
    let at = is.from k both.0 in
    let off = not-true (marks k) both.1 in
    let unmarked' : marked (suc m) at.0.id ≡ false = false_from_ne_true (marked (suc m) at.0.id) (λ mark. (
    let there = are.shown at.0 at.1 (live-placed marked m at.0 at.2) mark at.3 in
    let there' : marks k ≡ true = rw at.4 at there in
    cc)) in (
      at.0,
      at.1,
      and_from (eqb at.0.life n) (live marked m at.0 && not (marked (suc m) at.0.id)) (eq-eqb at.0.life n at.3)
          (and_from (live marked m at.0) (not (marked (suc m) at.0.id)) at.2 (not_from_false (marked (suc m) at.0.id) unmarked')),
      at.4,
    ))) in
    rw less all
