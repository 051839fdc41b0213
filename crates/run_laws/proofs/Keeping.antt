-- What a worker's allocation asks of the logs follows from whose the spans are, and that is kept by each step.
use Rattle.std.proofs.Common.{◌≡◌, ◌≢◌, ℕ, ◌+◌, ◌<◌, ◌≤◌, ◌⊎◌, Bool, true, false, eqb, List, sym, ◌∙◌, ap, subst, arith, inl, inr}
use Rattle.std.proofs.lemmas.Bool.{cases_eq, cases_lt, cases_Bool, or_right}
use Rattle.page_bitmap.specs.declared.line.Line.{Line}
use Rattle.page_alloc.specs.Lists.{In}
use Rattle.page_alloc.specs.Lives.{Life}
use Rattle.span_state.specs.Bits.{with_bit}
use Rattle.sound_run.specs.Run.{count_for}
use Rattle.sweep_laws.specs.Counts.{times, total}
use Rattle.sweep_laws.specs.Standing.{Tally, Standing, is_free, is_unswept, is_sweeping, is_swept, is_stale, is_cached, CoreKept}
use Rattle.sweep_laws.specs.State.{HandState, CoreState}
use Rattle.sweep_laws.proofs.Totals.{part_le, two_parts_le}
use Rattle.run_laws.specs.Shown.{has_of}
use Rattle.worker_log.specs.declared.Placing.{Placing}
use Rattle.worker_log.specs.declared.Sweeping.{Sweeping}
use Rattle.worker_log.specs.Logs.{placings}
use Rattle.run_laws.specs.CycleSoFar.{CycleSoFar}
use Rattle.run_laws.specs.PlacingFacts.{IsIn}
use Rattle.run_laws.specs.Underway.{IsUnderway}
use Rattle.run_laws.specs.StepNeeds.{MayAllocate, MaySweep}
use Rattle.run_laws.specs.Steps.{put, after_allocate, after_sweep, after_line}
use Rattle.run_laws.specs.Keeping.{Having, IsOnes, KeepsRoom, HasOneOf}
use Rattle.run_laws.proofs.Underway.{put_here, put_else, placings-swept, more-placed}

-- a worker may allocate in a span that it has, if it has no other of the class
pub may-allocate : (region goal : ℕ) (e : CycleSoFar) (waits : ℕ → Bool) (has : Having) (w : ℕ) (life : Life) (a : Placing) → IsUnderway region goal e waits → KeepsRoom e has → IsOnes has
    → ((x y : Life) → In x e.known → In y e.known → x.page ≡ y.page → x.class ≡ y.class) → In life e.known → IsIn a life → life.number ≡ a.number → waits a.page ≡ false → a.index < count_for a.class → e.bits a.page a.index ≡ false → ((j : ℕ) → j < a.index → e.bits a.page j ≡ true)
    → has w a.page → HasOneOf e has w a.class a.page → MayAllocate e waits w life a
may-allocate region goal e waits has w life a now room ones alike here is number swept below free least mine one = record {
  here = here;
  is_in = is;
  number = number;
  swept = swept;
  below = below;
  free = free;
  least = least;
  own = λ v b h page. (
      let inside : a.index < count_for b.class = rw (class_of v b h page) below in
      let off : e.bits b.page a.index ≡ false = rw page free in
      let theirs : has v a.page = subst (λ (p : ℕ). has v p) page (room v b a.index h inside off) in
      ones v w a.page theirs mine);
  left_full = λ b h class other j lt. elim (cases_Bool (e.bits b.page j)) [
    | inl on ↦ on
    | inr off ↦ absurd (other (one b j h class (room w b j h lt off) lt off))
  ];
}
  where
    class_of : (v : ℕ) (b : Placing) → In b (placings (e.logs v)) → b.page ≡ a.page → b.class ≡ a.class
    class_of v b h page = let at = now.places.here v b h in sym at.2.class ∙ alike at.0 life at.1 here (at.2.page ∙ page ∙ sym is.page) ∙ is.class

-- an allocation in a span that the worker has
pub room-allocate : (e : CycleSoFar) (has : Having) (w : ℕ) (a : Placing) → KeepsRoom e has → has w a.page → KeepsRoom (after_allocate e w a) has
room-allocate e has w a room mine v b j h lt off =
    let was : e.bits b.page j ≡ false = elim (cases_eq b.page a.page) [
      | inl same ↦ (
          let e1 : put e.bits a.page (with_bit a.index (e.bits a.page)) b.page j ≡ with_bit a.index (e.bits a.page) j = ap (λ (f : ℕ → Bool). f j) (put_here e.bits a.page b.page (with_bit a.index (e.bits a.page)) same) in
          let off' : with_bit a.index (e.bits a.page) j ≡ false = sym e1 ∙ off in
          elim (cases_Bool (e.bits b.page j)) [
            | inl on ↦ (
                let on' = or_right (eqb j a.index) (e.bits a.page j) (ap (λ (p : ℕ). e.bits p j) (sym same) ∙ on) in
                let none : ⊥ = cc in
                absurd none)
            | inr isnt ↦ isnt
          ])
      | inr other ↦ sym (ap (λ (f : ℕ → Bool). f j) (put_else e.bits a.page b.page (with_bit a.index (e.bits a.page)) other)) ∙ off
    ] in
    elim (more-placed e.logs w v a b h) [
      | inl new ↦ subst (λ (p : ℕ). has v p) (ap (λ (x : Placing). x.page) new.0) (subst (λ (u : ℕ). has u a.page) (sym new.1) mine)
      | inr old ↦ room v b j old lt was
    ]

-- a sweep: nothing was placed in the span
pub room-sweep : (region goal : ℕ) (e : CycleSoFar) (waits : ℕ → Bool) (has : Having) (w : ℕ) (life : Life) (s : Sweeping) → IsUnderway region goal e waits → MaySweep e waits life s → KeepsRoom e has
    → KeepsRoom (after_sweep e w life s) has
room-sweep region goal e waits has w life s now may room v b j h lt off =
    let old : In b (placings (e.logs v)) = subst (λ (l : List Placing). In b l) (placings-swept e.logs w v s) h in
    let other : b.page ≢ life.page = λ same. (let x = now.waiting.not_placed v b old in let y = may.waits_now in let z : waits b.page ≡ waits life.page = ap waits same in let none : ⊥ = cc in none) in
    room v b j old lt (sym (ap (λ (f : ℕ → Bool). f j) (put_else e.bits life.page b.page (e.marks life.page) other)) ∙ off)

-- a line
pub room-line : (e : CycleSoFar) (has : Having) (line : Line) → KeepsRoom e has → KeepsRoom (after_line e line) has
room-line e has line room v b j h lt off = room v b j h lt off

-- a worker gets a span
pub room-gets : (e : CycleSoFar) (has new : Having) → ((v p : ℕ) → has v p → new v p) → KeepsRoom e has → KeepsRoom e new
room-gets e has new more room v b j h lt off = more v b.page (room v b j h lt off)

-- a worker lets a span go that is full, or in which it placed nothing in this cycle
pub room-lets_go : (e : CycleSoFar) (has new : Having) (w p : ℕ) → IsOnes has → has w p → ((v q : ℕ) → q ≢ p → has v q → new v q)
    → ((b : Placing) (j : ℕ) → In b (placings (e.logs w)) → b.page ≡ p → j < count_for b.class → e.bits p j ≡ true) → KeepsRoom e has → KeepsRoom e new
room-lets_go e has new w p ones mine keeps full room v b j h lt off =
    elim (cases_eq b.page p) [
      | inl same ↦ (
          let theirs : has v p = subst (λ (q : ℕ). has v q) same (room v b j h lt off) in
          let one : v ≡ w = ones v w p theirs mine in
          let h' : In b (placings (e.logs w)) = subst (λ (u : ℕ). In b (placings (e.logs u))) one h in
          let on : e.bits p j ≡ true = full b j h' same lt in
          let off' : e.bits p j ≡ false = ap (λ (q : ℕ). e.bits q j) (sym same) ∙ off in
          let none : ⊥ = cc in
          absurd none)
      | inr other ↦ keeps v b.page other (room v b j h lt off)
    ]

-- a span that is nobody's and has room has no placing in this cycle
pub nobodys-unplaced : (e : CycleSoFar) (has : Having) (v : ℕ) (b : Placing) (j : ℕ) → KeepsRoom e has → ((w : ℕ) → has w b.page → ⊥) → j < count_for b.class → e.bits b.page j ≡ false → In b (placings (e.logs v)) → ⊥
nobodys-unplaced e has v b j room nobody lt off h = nobody v (room v b j h lt off)

-- ---- the core

-- a page is held or cached by one hand at most
standing-few : (g : ℕ) (t : Tally) → Standing g t → t.held + t.cached ≤ 1
standing-few g t (is_free e none) = omega arith
standing-few g t (is_unswept e none own) = omega arith
standing-few g t (is_sweeping e one none) = omega arith
standing-few g t (is_swept e none one) = omega arith
standing-few g t (is_stale e one none) = omega arith
standing-few g t (is_cached e one none) = omega arith

-- a sum that isn't 0 has a part that isn't
sum-cases : (a b : ℕ) → 0 < a + b → (0 < a) ⊎ (0 < b)
sum-cases a b h = elim (cases_lt 0 a) [ inl lt ↦ inl lt | inr none ↦ inr (omega arith) ]

-- so the core says whose a span is
pub core-ones : (c : CoreState) → CoreKept c → IsOnes (has_of c)
core-ones c kept v w p hv hw =
    let few = standing-few c.generation _ (kept.page p hv.0).standing in
    let few' : total (λ (h : HandState). times p h.held) c.hands + total (λ (h : HandState). times p h.cached) c.hands ≤ 1 = few in
    elim (cases_eq v w) [
      | inl same ↦ same
      | inr other ↦ (
          let none : ⊥ = elim (sum-cases _ _ hv.3) [
            | inl v-holds ↦ elim (sum-cases _ _ hw.3) [
              | inl w-holds ↦ (let two = two_parts_le (λ (h : HandState). times p h.held) c.hands v w hv.1 hw.1 other hv.2 hw.2 in omega arith)
              | inr w-caches ↦ (
                  let a = part_le (λ (h : HandState). times p h.held) c.hands v hv.1 hv.2 in
                  let b = part_le (λ (h : HandState). times p h.cached) c.hands w hw.1 hw.2 in
                  omega arith)
            ]
            | inr v-caches ↦ elim (sum-cases _ _ hw.3) [
              | inl w-holds ↦ (
                  let a = part_le (λ (h : HandState). times p h.cached) c.hands v hv.1 hv.2 in
                  let b = part_le (λ (h : HandState). times p h.held) c.hands w hw.1 hw.2 in
                  omega arith)
              | inr w-caches ↦ (let two = two_parts_le (λ (h : HandState). times p h.cached) c.hands v w hv.1 hw.1 other hv.2 hw.2 in omega arith)
            ]
          ] in
          absurd none)
    ]
