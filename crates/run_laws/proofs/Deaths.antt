-- The samples that died at a page, as the search for the marks leaves them, are those of the life there.
use Rattle.std.proofs.Common.{◌≡◌, ℕ, suc, ◌-◌, ◌<◌, Bool, true, false, ◌&&◌, ◌||◌, not, eqb, leb, List, [], ◌∷◌, ◌++◌, length, map, reverse, take, slice_index, Some, ◌↔◌, refl, sym, ◌∙◌, ap, subst, arith, inl, inr}
use Rattle.std.specs.List.{flat_map, slice_get}
use Rattle.std.proofs.lemmas.Bool.{cases_Bool, eq-eqb, eqb-true, le-leb, leb-true, and_parts, and_from}
use Rattle.std.proofs.lemmas.List.{length-take-le, take-take, reverse-append, reverse-reverse}
use Rattle.page_bitmap.specs.declared.line.Line.{Line}
use Rattle.page_alloc.specs.Lists.{In, AllApart, count, one_if}
use Rattle.page_alloc.specs.Lives.{Life, open_lives}
use Rattle.sound_run.proofs.Journals.{same_page}
use Rattle.span_state.specs.MarkSet.{MarkSet}
use Rattle.span_state.specs.declared.sweep.SweepNote.{SweepNote}
use Rattle.trace_reader.specs.declared.trace.Trace.{Trace}
use Rattle.trace_reader.specs.declared.trace.Cycle.{Cycle}
use Rattle.trace_reader.specs.declared.trace.Event.{Event}
use Rattle.trace_reader.specs.Limits.{events_of}
use Rattle.cycle_history.specs.declared.Answer.{Answer}
use Rattle.cycle_history.specs.declared.Answer.TheVariants.{Placed}
use Rattle.cycle_history.specs.Requests.{Request, requests_from, marked_by}
use Rattle.cycle_history.specs.Objects.{Object, is_placed, live}
use Rattle.cycle_history.specs.Places.{IsPlace}
use Rattle.cycle_history.specs.Marked.{AreMarksOf, AreFalling, HasDied, LivedBefore}
use Rattle.cycle_history.specs.Before.{AreObjectsBefore, objects_before, requests_before}
use Rattle.cycle_history.proofs.Counted.{last-request}
use Rattle.cycle_history.proofs.OfObjects.{get-number, number-get, known, request-of, object-of, sits-place, sits-one}
use Rattle.sound_run.specs.Run.{IsRun}
use Rattle.sound_run.proofs.Live.{at_end-now, live-cases, live-of, live-marked}
use Rattle.sound_run.proofs.Seats.{same_number}
use Rattle.run_laws.specs.CycleSoFar.{CycleSoFar}
use Rattle.run_laws.specs.Profile.{Calls}
use Rattle.run_laws.specs.CycleCalls.{sum_of, has_died, dead_in, KnowsSamples, FreesByNotes}
use Rattle.cycle_history.specs.Profile.{Samples, Bucket}
use Rattle.run_laws.proofs.Asked.{order-all}
use Rattle.run_laws.proofs.Counted.{count-same}
use Rattle.run_laws.proofs.Profile.{count-append}

-- ---- counts

count-reverse : {X : Type 0} (test : X → Bool) (xs : List X) → count test (reverse xs) ≡ count test xs
count-reverse test [] = refl
count-reverse test (x ∷ xs) =
    let rest = count-reverse test xs in
    let split : reverse (x ∷ xs) ≡ reverse xs ++ x ∷ [] = reverse-append (x ∷ []) xs in
    let both = count-append test (reverse xs) (x ∷ []) in
    ap (λ (ys : List _). count test ys) split ∙ both ∙ omega arith

count-map : {X Y : Type 0} (test : Y → Bool) (f : X → Y) (xs : List X) → count test (map f xs) ≡ count (λ x. test (f x)) xs
count-map test f [] = refl
count-map test f (x ∷ xs) = let rest = count-map test f xs in omega arith

-- numbers, and the objects with these numbers that pass a test
count-ids : (test : Object → Bool) (g : ℕ → Bool) (ids : List ℕ) (objects : List Object) → AreFalling ids → AllApart (λ (newer older : Object). older.id < newer.id) objects
    → ((o : Object) → In o objects → test o ≡ true → In o.id ids) → ((i : ℕ) → In i ids → (o : Object) × In o objects × (o.id ≡ i) × (test o ≡ true))
    → count g ids ≡ count (λ (o : Object). test o && g o.id) objects
count-ids test g [] [] falling order has of = refl
count-ids test g (i ∷ ids) [] falling order has of = absurd (of i (inl refl)).1
count-ids test g [] (o ∷ objects) falling order has of =
    let isnt : test o ≡ false = elim (cases_Bool (test o)) [ inl is ↦ absurd (has o (inl refl) is) | inr off ↦ off ] in
    let rest = count-ids test g [] objects tt order.1 (λ x h is. has x (inr h) is) (λ j h. absurd h) in
    rw isnt (omega arith)
count-ids test g (i ∷ ids) (o ∷ objects) falling order has of = elim (cases_Bool (test o)) [
  | inl is ↦ (
      let same : i ≡ o.id = elim (has o (inl refl) is) [
        | inl here ↦ here
        | inr there ↦ (
            let lt = falling.0 o.id there in
            let x = of i (inl refl) in
            let e = x.2 in
            elim x.1 [
              | inl here ↦ (let f : o.id ≡ x.0.id = ap (λ (y : Object). y.id) here in absurd (omega arith))
              | inr old ↦ (let less = order.0 x.0 old in absurd (omega arith))
            ])
      ] in
      let rest = count-ids test g ids objects falling.1 order.1 (λ x h on. elim (has x (inr h) on) [
        | inl here ↦ (let less = order.0 x h in absurd (omega arith))
        | inr there ↦ there
      ]) (λ j h. (
      let x = of j (inr h) in
      let e = x.2 in
      let lt = falling.0 j h in
      elim x.1 [
        | inl here ↦ (let f : o.id ≡ x.0.id = ap (λ (y : Object). y.id) here in absurd (omega arith))
        | inr old ↦ (x.0, old, x.2, x.3)
      ])) in
      let one : one_if (g i) ≡ one_if (g o.id) = ap (λ (n : ℕ). one_if (g n)) same in
      rw is (omega arith))
  | inr isnt ↦ (
      let rest = count-ids test g (i ∷ ids) objects falling order.1 (λ x h on. has x (inr h) on) (λ j h. (
      let x = of j h in
      let on : test x.0 ≡ true = x.3 in
      elim x.1 [
        | inl here ↦ (let off : test x.0 ≡ false = ap test (sym here) ∙ isnt in let none : ⊥ = cc in absurd none)
        | inr old ↦ (x.0, old, x.2, x.3)
      ])) in
      rw isnt (omega arith))
]

-- ---- the cycle of a number

-- of the requests before mark end m + 1 those of cycle m have the numbers from the first of cycle m on
cycle-at : (t : Trace) (m n : ℕ) (r : Request) → m < length t.cycles → slice_get (requests_from 0 (take (suc m) t.cycles)) n ≡ Some r → eqb r.cycle m ≡ leb (objects_before t m) n
cycle-at t m n r lt at =
    let size = length-take-le (suc m) t.cycles lt in
    let last : length (take (suc m) t.cycles) - 1 ≡ m = omega arith in
    let front : length (flat_map (λ (c : Cycle). c.events) (take m (take (suc m) t.cycles))) ≡ objects_before t m =
    ap (λ (cs : List Cycle). length (flat_map (λ (c : Cycle). c.events) cs)) (take-take m (suc m) t.cycles (omega arith)) in
    let whole : eqb r.cycle (length (take (suc m) t.cycles) - 1) ≡ leb (length (flat_map (λ (c : Cycle). c.events) (take (length (take (suc m) t.cycles) - 1) (take (suc m) t.cycles)))) n = last-request (record t { cycles = take (suc m) t.cycles }) n r at in
    let there : eqb r.cycle m ≡ leb (length (flat_map (λ (c : Cycle). c.events) (take m (take (suc m) t.cycles)))) n = rw last at whole in
    there ∙ ap (λ (k : ℕ). leb k n) front

object-cycle : (t : Trace) (m : ℕ) (answers : List Answer) (objects : List Object) (o : Object) → m < length t.cycles → AreObjectsBefore t (suc m) answers objects → In o objects
    → eqb o.cycle m ≡ leb (objects_before t m) o.id
object-cycle t m answers objects o lt are h =
    let has = request-of (requests_before t (suc m)) objects o are.asked h in
    let at = number-get o.id has.request (requests_before t (suc m)) has.asked in
    let front : slice_get (requests_from 0 (take (suc m) t.cycles)) o.id ≡ Some has.request = sym (ap (λ (rs : List Request). slice_get rs o.id) (reverse-reverse (requests_from 0 (take (suc m) t.cycles)))) ∙ at in
    ap (λ (c : ℕ). eqb c m) has.answers.cycle ∙ cycle-at t m o.id has.request lt front

-- ---- the dead of a life

-- a sampled object of the life lived in cycle m, and isn't marked by the mark end behind it
abbrev is_dead : Trace → Samples → ℕ → Life → Object → Bool
is_dead t s m life o = (is_placed o.answer && s.sampled o.id) && ((live (marked_by t) m o && not (marked_by t (suc m) o.id)) && eqb o.life life.number)

module _ (t : Trace) (s : Samples) (region goal m : ℕ) (past : List Line) (objects : List Object) (answers : List Answer) (sampled : List Bool) (buckets : List ℕ) (marks : MarkSet) (b : Bucket) (n : ℕ) (life : Life)
    (inside : m < length t.cycles) (run : IsRun (marked_by t) region goal m past objects) (are : AreObjectsBefore t (suc m) answers objects) (marks-are : AreMarksOf t (suc m) answers sampled buckets marks)
    (knows : KnowsSamples s objects sampled buckets b n) (is-open : In life (open_lives past)) where
  last : suc m - 1 ≡ m
  last = omega arith

  -- such an object has died at the life's page
  dead-has : (o : Object) → In o objects → is_dead t s m life o ≡ true → HasDied t (suc m) answers sampled life.page o.id
  dead-has o h is =
      let two = and_parts (is_placed o.answer && s.sampled o.id) ((live (marked_by t) m o && not (marked_by t (suc m) o.id)) && eqb o.life life.number) is in
      let front = and_parts (is_placed o.answer) (s.sampled o.id) two.0 in
      let behind = and_parts (live (marked_by t) m o && not (marked_by t (suc m) o.id)) (eqb o.life life.number) two.1 in
      let lived = and_parts (live (marked_by t) m o) (not (marked_by t (suc m) o.id)) behind.0 in
      let seat = run.seats o h front.0 in
      let there : In seat.0 (open_lives past) = rw (at_end-now m past run.by) at (seat.1.stays m lived.0) in
      let one : seat.0 ≡ life = same_number past seat.0 life there is-open (seat.1.number ∙ eqb-true o.life life.number behind.1) in
      let page : seat.0.page ≡ life.page = ap (λ (l : Life). l.page) one in
      let is = known t (suc m) answers objects o are h front.0 in
      let place = sits-place is.request.event.size is.request.event.scan is.address o seat.0 o.index is.some is.fits is.answer seat.1.sits in
      let when : LivedBefore t (suc m) o.id = rw last (elim (live-cases (marked_by t) m o lived.0) [
        | inl now ↦ inl (leb-true (objects_before t m) o.id (sym (object-cycle t m answers objects o inside are h) ∙ eq-eqb o.cycle m now))
        | inr mark ↦ inr mark
      ]) in
      record {
        is_sampled = (knows.which o h front.0).1 front.1;
        lived = when;
        unmarked = off (marked_by t (suc m) o.id) lived.1;
        index = o.index;
        lies = record { event = is.request.event; address = is.address; asked = is.asked; answered = is.answered; place = subst (λ (p : ℕ). IsPlace is.request.event.size is.address p o.index) page place };
      }
    where
      off : (x : Bool) → not x ≡ true → x ≡ false
      off true h = cc
      off false h = refl

  -- and each that died there is such an object
  dead-of : (i : ℕ) → HasDied t (suc m) answers sampled life.page i → (o : Object) × In o objects × (o.id ≡ i) × (is_dead t s m life o ≡ true)
  dead-of i died =
      let lies = died.lies in
      let e : reverse (map (λ (x : Object). x.answer) objects) ≡ answers = ap (λ (xs : List Answer). reverse xs) are.printed ∙ reverse-reverse answers in
      let number = get-number i (Placed lies.address) (map (λ (x : Object). x.answer) objects) (ap (λ (xs : List Answer). slice_get xs i) e ∙ lies.answered) in
      let found = object-of (requests_before t (suc m)) objects i (Placed lies.address) are.asked number in
      let o = found.0 in
      let placed : is_placed o.answer ≡ true = ap is_placed found.3 in
      let is = known t (suc m) answers objects o are found.1 placed in
      let id = found.2 in
      let lived' : LivedBefore t (suc m) o.id = rw id died.lived in
      let lived : live (marked_by t) m o ≡ true = elim (rw last at lived') [
        | inl low ↦ live-of (marked_by t) m o placed (eqb-true o.cycle m (object-cycle t m answers objects o inside are found.1 ∙ le-leb (objects_before t m) o.id low))
        | inr mark ↦ live-marked (marked_by t) m o placed mark
      ] in
      let unmarked : not (marked_by t (suc m) o.id) ≡ true = ap (λ (j : ℕ). not (marked_by t (suc m) j)) id ∙ ap not died.unmarked in
      let seat = run.seats o found.1 placed in
      let there : In seat.0 (open_lives past) = rw (at_end-now m past run.by) at (seat.1.stays m lived) in
      let asked = is.asked in
      let asked' = lies.asked in
      let event : lies.event ≡ is.request.event = some-same (sym asked' ∙ ap (λ (j : ℕ). slice_get (events_of t) j) (sym id) ∙ asked) in
      let place : IsPlace is.request.event.size lies.address life.page died.index = subst (λ (x : Event). IsPlace x.size lies.address life.page died.index) event lies.place in
      let one = sits-one is.request.event.size is.request.event.scan lies.address o seat.0 o.index life.page died.index is.fits found.3 seat.1.sits place in
      let same : seat.0 ≡ life = same_page region goal past seat.0 life run.journal there is-open one.0 in
      let mine : o.life ≡ life.number = sym seat.1.number ∙ ap (λ (l : Life). l.number) same in
      let sample : s.sampled o.id ≡ true = (knows.which o found.1 placed).0 (ap (λ (j : ℕ). slice_get sampled j) id ∙ died.is_sampled) in (
        o,
        found.1,
        id,
        and_from (is_placed o.answer && s.sampled o.id) ((live (marked_by t) m o && not (marked_by t (suc m) o.id)) && eqb o.life life.number)
            (and_from (is_placed o.answer) (s.sampled o.id) placed sample)
            (and_from (live (marked_by t) m o && not (marked_by t (suc m) o.id)) (eqb o.life life.number) (and_from (live (marked_by t) m o) (not (marked_by t (suc m) o.id)) lived unmarked) (eq-eqb o.life life.number mine)),
      )
    where
      some-same : {a b : Event} → Some a ≡ Some b → a ≡ b
      some-same h = cc

  -- of one bucket
  dead-bucket : (o : Object) → In o objects → (is_dead t s m life o && eqb (slice_index buckets o.id) n) ≡ (has_died (marked_by t) s m b o && eqb o.life life.number)
  dead-bucket o h = elim (cases_Bool (is_placed o.answer)) [
    | inl placed ↦ elim (cases_Bool (s.sampled o.id)) [
      | inl sample ↦ (
          let same = one-bucket (slice_index buckets o.id) n (s.stack o.id) b.stack o.need.slot b.slot (knows.numbered o h placed sample) in
          rw (placed, sample, same) (moved ((eqb o.cycle m || marked_by t m o.id) && not (marked_by t (suc m) o.id)) (eqb o.life life.number) (eqb (s.stack o.id) b.stack && eqb o.need.slot b.slot)))
      | inr none ↦ rw (placed, none) refl
    ]
    | inr none ↦ rw none refl
  ]
    where
      one-bucket : (x k u v w z : ℕ) → (x ≡ k) ↔ ((u ≡ v) × (w ≡ z)) → eqb x k ≡ (eqb u v && eqb w z)
      one-bucket x k u v w z both = elim (cases_Bool (eqb x k)) [
        | inl is ↦ (let parts = both.0 (eqb-true x k is) in is ∙ sym (and_from (eqb u v) (eqb w z) (eq-eqb u v parts.0) (eq-eqb w z parts.1)))
        | inr isnt ↦ elim (cases_Bool (eqb u v && eqb w z)) [
          | inl is ↦ (
              let parts = and_parts (eqb u v) (eqb w z) is in
              eq-eqb x k (both.1 (eqb-true u v parts.0, eqb-true w z parts.1)) ∙ sym is)
          | inr off ↦ isnt ∙ sym off
        ]
      ]

      moved : (x y z : Bool) → ((true && true) && (x && y) && z) ≡ ((true && (true && z) && x) && y)
      moved true true true = refl
      moved true true false = refl
      moved true false true = refl
      moved true false false = refl
      moved false y true = refl
      moved false y false = refl

  pub dead-right : dead_in marks n life.page ≡ count (λ (o : Object). has_died (marked_by t) s m b o && eqb o.life life.number) objects
  dead-right =
      let found = marks-are.dead life.page in
      let listed = ap (λ (xs : List ℕ). count (λ (x : ℕ). eqb x n) xs) found.is
      ∙ count-reverse (λ (x : ℕ). eqb x n) (map (λ i. slice_index buckets i) found.ids)
      ∙ count-map (λ (x : ℕ). eqb x n) (λ i. slice_index buckets i) found.ids in
      let ids = count-ids (is_dead t s m life) (λ i. eqb (slice_index buckets i) n) found.ids objects found.falling (order-all (requests_before t (suc m)) objects are.asked)
      (λ o h is. (found.each o.id).1 (dead-has o h is)) (λ i h. dead-of i ((found.each i).0 h)) in
      listed ∙ ids ∙ count-same (λ (o : Object). is_dead t s m life o && eqb (slice_index buckets o.id) n) (λ (o : Object). has_died (marked_by t) s m b o && eqb o.life life.number) objects dead-bucket

-- so the frees of a cycle go by what its mark end found, where the tallies take them from there
pub frees-found : (t : Trace) (s : Samples) (region goal m : ℕ) (objects : List Object) (answers : List Answer) (sampled : List Bool) (buckets : List ℕ) (marks : MarkSet) (number : Bucket → ℕ) (calls : Calls) (e : CycleSoFar)
    → m < length t.cycles → IsRun (marked_by t) region goal m e.before objects → AreObjectsBefore t (suc m) answers objects → AreMarksOf t (suc m) answers sampled buckets marks
    → ((b : Bucket) → KnowsSamples s objects sampled buckets b (number b)) → ((b : Bucket) → calls.freed e.cycle b ≡ sum_of (λ (note : SweepNote). dead_in marks (number b) note.page) e.notes)
    → FreesByNotes (marked_by t) s objects calls e m (λ page b. dead_in marks (number b) page)
frees-found t s region goal m objects answers sampled buckets marks number calls e inside run are marks-are knows freed = record {
  right = λ life b h. dead-right t s region goal m e.before objects answers sampled buckets marks b (number b) life inside run are marks-are (knows b) h;
  freed = freed;
}
