-- A test of rule 9.
use Rattle.std.proofs.Common.{◌≡◌, ℕ, zero, suc, ◌≤◌, ◌<◌, Bool, true, false, not, ◌&&◌, eqb, leb, ltb, List, [], ◌∷◌, length, map, refl, sym, ◌∙◌, ap, subst, arith, inl, inr, Decides, ◌⊎◌}
use Rattle.std.specs.List.{AllZip}
use Rattle.std.proofs.lemmas.Bool.{cases_Bool, cases_lt, and_from, and_parts, eq-eqb, eqb-true, false≢true, ltb-true, ne_eqb}
use Rattle.std.proofs.lemmas.Bool.Decides.{Decides-like, Decides-eqb, Decides-ltb, Decides-not}
use Rattle.page_alloc.specs.Lists.{In, count, one_if}
use Rattle.trace_reader.specs.declared.trace.Trace.{Trace}
use Rattle.profile_cycle.specs.Sampling.{is_sampled, sampled}
use Rattle.cycle_history.specs.declared.Answer.{Answer}
use Rattle.cycle_history.specs.declared.Answer.TheVariants.{Zero}
use Rattle.cycle_history.specs.declared.Prof.{Prof}
use Rattle.cycle_history.specs.declared.Report.{Report}
use Rattle.cycle_history.specs.Needs.{Need}
use Rattle.cycle_history.specs.Requests.{Marking, Request, marked_by, last_cycle, requests_of}
use Rattle.cycle_history.specs.Objects.{Object, is_placed}
use Rattle.cycle_history.specs.Orders.{IsProfBefore, AreRisingProfile}
use Rattle.cycle_history.specs.Rules.{AreAnswered}
use Rattle.cycle_history.specs.Profile.{Bucket, Samples, SamplesBy, samples_in, placed_by, passing, is_sample, allocs_at, frees_at, bucket_of, IsProf, IsChanged, IsOf, IsProfile, IsProfileOfEach, IsProfileIn}
use Rattle.cycle_history.specs.Sound.{HasAnswers, HasProfile}
use Rattle.cycle_history.proofs.Sampling.{AreAlike, allocs-alike, empty-profile, frees-alike, none-samples, samples-one}
use Rattle.sound_report_tests.proofs.Tests.{Decides-then, Decides-else, Decides-when, Decides-implies, all_in, any_in, all_apart, all_below, Decides-all, Decides-any, Decides-apart, Decides-below}
use Rattle.sound_report_tests.proofs.Journals.{Decides-leb}
use Rattle.sound_report_tests.proofs.Alike.{IsLike}

-- ---- counts

count-some : {X : Type 0} (test : X → Bool) (xs : List X) → 1 ≤ count test xs → (x : X) × In x xs × (test x ≡ true)
count-some test [] some = absurd (omega arith)
count-some test (x ∷ xs) some =
    elim (cases_Bool (test x)) [
      | inl on ↦ (x, inl refl, on)
      | inr off ↦ (
          let none : one_if (test x) ≡ 0 = ap one_if off in
          let rest = count-some test xs (omega arith) in
          (rest.0, inr rest.1, rest.2))
    ]

some-count : {X : Type 0} (test : X → Bool) (xs : List X) (x : X) → In x xs → test x ≡ true → 1 ≤ count test xs
some-count test [] x h is = absurd h
some-count test (y ∷ xs) x h is =
    elim h [
      | inl here ↦ (let one : one_if (test y) ≡ 1 = ap (λ (z : _). one_if (test z)) here ∙ ap one_if is in omega arith)
      | inr there ↦ (let rest = some-count test xs x there is in omega arith)
    ]

count-le : {X : Type 0} (f g : X → Bool) (xs : List X) → ((x : X) → f x ≡ true → g x ≡ true) → count f xs ≤ count g xs
count-le f g [] le = omega arith
count-le f g (x ∷ xs) le =
    let rest = count-le f g xs le in
    elim (cases_Bool (f x)) [
      | inl on ↦ (let a : one_if (f x) ≡ 1 = ap one_if on in let b : one_if (g x) ≡ 1 = ap one_if (le x on) in omega arith)
      | inr off ↦ (let a : one_if (f x) ≡ 0 = ap one_if off in omega arith)
    ]

-- ---- lines

abbrev pub is_prof : Marking → Samples → List Object → Prof → Bool
is_prof marked s objects line = elim (leb 1 line.allocs) [ true ↦ elim (eqb line.allocs (allocs_at s objects line.mark (bucket_of line))) [ true ↦ eqb line.frees (frees_at marked s objects line.mark (bucket_of line)) | false ↦ false ] | false ↦ false ]

Decides-prof : (marked : Marking) (s : Samples) (objects : List Object) (line : Prof) → Decides (is_prof marked s objects line) (IsProf marked s objects line)
Decides-prof marked s objects line =
    let allocs = allocs_at s objects line.mark (bucket_of line) in
    let frees = frees_at marked s objects line.mark (bucket_of line) in
    Decides-like (is_prof marked s objects line)
    (λ (h : (1 ≤ line.allocs) × ((line.allocs ≡ allocs) × (line.frees ≡ frees))). record { some = h.0; allocs = h.1.0; frees = h.1.1 })
    (λ h. (h.some, (h.allocs, h.frees)))
    (Decides-then (leb 1 line.allocs) (elim (eqb line.allocs allocs) [ true ↦ eqb line.frees frees | false ↦ false ]) (Decides-leb 1 line.allocs)
    (Decides-then (eqb line.allocs allocs) (eqb line.frees frees) (Decides-eqb line.allocs allocs) (Decides-eqb line.frees frees)))

abbrev pub is_changed : Marking → Samples → List Object → ℕ → Bucket → Bool
is_changed marked s objects m b = elim (not (eqb (allocs_at s objects (suc m) b) (allocs_at s objects m b))) [ true ↦ true | false ↦ not (eqb (frees_at marked s objects (suc m) b) (frees_at marked s objects m b)) ]

Decides-changed : (marked : Marking) (s : Samples) (objects : List Object) (m : ℕ) (b : Bucket) → Decides (is_changed marked s objects m b) (IsChanged marked s objects m b)
Decides-changed marked s objects m b =
    let a = allocs_at s objects (suc m) b in
    let a' = allocs_at s objects m b in
    let f = frees_at marked s objects (suc m) b in
    let f' = frees_at marked s objects m b in
    Decides-else (not (eqb a a')) (not (eqb f f')) (Decides-not (eqb a a') (Decides-eqb a a')) (Decides-not (eqb f f') (Decides-eqb f f'))

abbrev pub is_of : ℕ → Bucket → Prof → Bool
is_of m b line = elim (eqb line.mark m) [ true ↦ elim (eqb line.stack b.stack) [ true ↦ eqb line.size b.slot | false ↦ false ] | false ↦ false ]

Decides-of : (m : ℕ) (b : Bucket) (line : Prof) → Decides (is_of m b line) (IsOf m b line)
Decides-of m b line =
    Decides-like (is_of m b line)
    (λ (h : (line.mark ≡ m) × ((line.stack ≡ b.stack) × (line.size ≡ b.slot))). record { mark = h.0; stack = h.1.0; size = h.1.1 })
    (λ h. (h.mark, (h.stack, h.size)))
    (Decides-then (eqb line.mark m) (elim (eqb line.stack b.stack) [ true ↦ eqb line.size b.slot | false ↦ false ]) (Decides-eqb line.mark m)
    (Decides-then (eqb line.stack b.stack) (eqb line.size b.slot) (Decides-eqb line.stack b.stack) (Decides-eqb line.size b.slot)))

abbrev pub is_before : Prof → Prof → Bool
is_before a b = elim (ltb a.mark b.mark) [ true ↦ true | false ↦ elim (eqb a.mark b.mark) [ true ↦ elim (ltb a.stack b.stack) [ true ↦ true | false ↦ elim (eqb a.stack b.stack) [ true ↦ ltb a.size b.size | false ↦ false ] ] | false ↦ false ] ]

Decides-before : (a b : Prof) → Decides (is_before a b) (IsProfBefore a b)
Decides-before a b =
    Decides-else (ltb a.mark b.mark) (elim (eqb a.mark b.mark) [ true ↦ elim (ltb a.stack b.stack) [ true ↦ true | false ↦ elim (eqb a.stack b.stack) [ true ↦ ltb a.size b.size | false ↦ false ] ] | false ↦ false ]) (Decides-ltb a.mark b.mark)
    (Decides-then (eqb a.mark b.mark) (elim (ltb a.stack b.stack) [ true ↦ true | false ↦ elim (eqb a.stack b.stack) [ true ↦ ltb a.size b.size | false ↦ false ] ]) (Decides-eqb a.mark b.mark)
    (Decides-else (ltb a.stack b.stack) (elim (eqb a.stack b.stack) [ true ↦ ltb a.size b.size | false ↦ false ]) (Decides-ltb a.stack b.stack)
    (Decides-then (eqb a.stack b.stack) (ltb a.size b.size) (Decides-eqb a.stack b.stack) (Decides-ltb a.size b.size))))

-- ---- the buckets of samples

abbrev pub bucket_for : Samples → Object → Bucket
bucket_for s o = record { stack = s.stack o.id; slot = o.need.slot }

-- an object is sampled before mark end m
abbrev pub is_early : Samples → ℕ → Object → Bool
is_early s m o = elim (is_placed o.answer) [ true ↦ elim (s.sampled o.id) [ true ↦ ltb o.cycle m | false ↦ false ] | false ↦ false ]

early-parts : (p q r : Bool) → elim p [ true ↦ elim q [ true ↦ r | false ↦ false ] | false ↦ false ] ≡ true → (p ≡ true) × (q ≡ true) × (r ≡ true)
early-parts true true r h = (refl, refl, h)
early-parts true false r h = absurd (false≢true h)
early-parts false q r h = absurd (false≢true h)

early-from : (p q r : Bool) → p ≡ true → q ≡ true → r ≡ true → elim p [ true ↦ elim q [ true ↦ r | false ↦ false ] | false ↦ false ] ≡ true
early-from true true r hp hq hr = hr
early-from true false r hp hq hr = absurd (false≢true hq)
early-from false q r hp hq hr = absurd (false≢true hp)

-- it is one of its bucket's
early-sample : (s : Samples) (m : ℕ) (o : Object) → is_early s m o ≡ true → (is_sample s (bucket_for s o) o && ltb o.cycle m) ≡ true
early-sample s m o is =
    let parts = early-parts (is_placed o.answer) (s.sampled o.id) (ltb o.cycle m) is in
    let a = eq-eqb (s.stack o.id) (s.stack o.id) refl in
    let b = eq-eqb o.need.slot o.need.slot refl in
    and_from (is_sample s (bucket_for s o) o) (ltb o.cycle m)
    (and_from (is_placed o.answer) (s.sampled o.id && (eqb (s.stack o.id) (s.stack o.id) && eqb o.need.slot o.need.slot)) parts.0
    (and_from (s.sampled o.id) (eqb (s.stack o.id) (s.stack o.id) && eqb o.need.slot o.need.slot) parts.1 (and_from (eqb (s.stack o.id) (s.stack o.id)) (eqb o.need.slot o.need.slot) a b))) parts.2

-- and the samples of a bucket have no other
sample-early : (s : Samples) (m : ℕ) (b : Bucket) (o : Object) → (is_sample s b o && ltb o.cycle m) ≡ true → (is_early s m o ≡ true) × (b.stack ≡ s.stack o.id) × (b.slot ≡ o.need.slot)
sample-early s m b o is =
    let both = and_parts (is_sample s b o) (ltb o.cycle m) is in
    let one = and_parts (is_placed o.answer) (s.sampled o.id && (eqb (s.stack o.id) b.stack && eqb o.need.slot b.slot)) both.0 in
    let two = and_parts (s.sampled o.id) (eqb (s.stack o.id) b.stack && eqb o.need.slot b.slot) one.1 in
    let three = and_parts (eqb (s.stack o.id) b.stack) (eqb o.need.slot b.slot) two.1 in
    (early-from (is_placed o.answer) (s.sampled o.id) (ltb o.cycle m) one.0 two.0 both.1, sym (eqb-true (s.stack o.id) b.stack three.0), sym (eqb-true o.need.slot b.slot three.1))

early-allocs : (s : Samples) (objects : List Object) (m : ℕ) (o : Object) → In o objects → is_early s m o ≡ true → 1 ≤ allocs_at s objects m (bucket_for s o)
early-allocs s objects m o h is = some-count (λ (x : Object). is_sample s (bucket_for s o) x && ltb x.cycle m) objects o h (early-sample s m o is)

-- a bucket whose numbers change has samples before the later mark end
changed-some : (marked : Marking) (s : Samples) (objects : List Object) (m : ℕ) (b : Bucket) → IsChanged marked s objects m b → 1 ≤ allocs_at s objects (suc m) b
changed-some marked s objects m b changed = elim (cases_lt 0 (allocs_at s objects (suc m) b)) [
  | inl some ↦ some
  | inr none ↦ (
      let earlier = count-le (λ (o : Object). is_sample s b o && ltb o.cycle m) (λ (o : Object). is_sample s b o && ltb o.cycle (suc m)) objects (λ o h. later o h) in
      let frees = count-le (λ (o : Object). is_sample s b o && (ltb o.cycle (suc m) && not (marked (suc m) o.id))) (λ (o : Object). is_sample s b o && ltb o.cycle (suc m)) objects (λ o h. of-frees (suc m) o h) in
      let old = count-le (λ (o : Object). is_sample s b o && (ltb o.cycle m && not (marked m o.id))) (λ (o : Object). is_sample s b o && ltb o.cycle m) objects (λ o h. of-frees m o h) in
      elim changed [
        | inl a ↦ absurd (a (omega arith))
        | inr f ↦ absurd (f (omega arith))
      ])
]
  where
    later : (o : Object) → (is_sample s b o && ltb o.cycle m) ≡ true → (is_sample s b o && ltb o.cycle (suc m)) ≡ true
    later o h =
        let both = and_parts (is_sample s b o) (ltb o.cycle m) h in
        let lt = ltb-true o.cycle m both.1 in
        and_from (is_sample s b o) (ltb o.cycle (suc m)) both.0 ((Decides-ltb o.cycle (suc m)).1 (omega arith))

    of-frees : (k : ℕ) (o : Object) → (is_sample s b o && (ltb o.cycle k && not (marked k o.id))) ≡ true → (is_sample s b o && ltb o.cycle k) ≡ true
    of-frees k o h =
        let both = and_parts (is_sample s b o) (ltb o.cycle k && not (marked k o.id)) h in
        and_from (is_sample s b o) (ltb o.cycle k) both.0 (and_parts (ltb o.cycle k) (not (marked k o.id)) both.1).0

-- ---- each bucket has its line

abbrev HasLine : List Prof → ℕ → Bucket → Type 0
HasLine lines m b = (line : Prof) × In line lines × IsOf m b line

abbrev pub has_line : List Prof → ℕ → Bucket → Bool
has_line lines m b = any_in (is_of m b) lines

Decides-has_line : (lines : List Prof) (m : ℕ) (b : Bucket) → Decides (has_line lines m b) (HasLine lines m b)
Decides-has_line lines m b = Decides-any (is_of m b) (IsOf m b) lines (λ line i. Decides-of m b line)

-- the line of an object's bucket is that of each bucket that it is a sample of
line-moved : (lines : List Prof) (s : Samples) (m : ℕ) (b : Bucket) (o : Object) → b.stack ≡ s.stack o.id → b.slot ≡ o.need.slot → HasLine lines m (bucket_for s o) → HasLine lines m b
line-moved lines s m b o stack slot has = (has.0, has.1, record { mark = has.2.mark; stack = has.2.stack ∙ sym stack; size = has.2.size ∙ sym slot })

abbrev pub all_have : Samples → ℕ → List Object → List Prof → Bool
all_have s last objects lines = all_in (λ o. elim (is_early s last o) [ true ↦ has_line lines last (bucket_for s o) | false ↦ true ]) objects

Decides-all_have : (s : Samples) (last : ℕ) (objects : List Object) (lines : List Prof) → Decides (all_have s last objects lines) ((b : Bucket) → 1 ≤ allocs_at s objects last b → HasLine lines last b)
Decides-all_have s last objects lines =
    Decides-like (all_have s last objects lines)
    (λ (h : (o : Object) → In o objects → is_early s last o ≡ true → HasLine lines last (bucket_for s o)). λ b some. (
    let o = count-some (λ (x : Object). is_sample s b x && ltb x.cycle last) objects some in
    let is = sample-early s last b o.0 o.2 in
    line-moved lines s last b o.0 is.1 is.2 (h o.0 o.1 is.0)))
    (λ h o i early. h (bucket_for s o) (early-allocs s objects last o i early))
    (Decides-all (λ o. elim (is_early s last o) [ true ↦ has_line lines last (bucket_for s o) | false ↦ true ]) (λ (o : Object). is_early s last o ≡ true → HasLine lines last (bucket_for s o)) objects
    (λ o i. Decides-when (is_early s last o) (has_line lines last (bucket_for s o)) (λ early. Decides-has_line lines last (bucket_for s o))))

abbrev pub all_moved : Marking → Samples → ℕ → List Object → List Prof → Bool
all_moved marked s m objects lines = all_in (λ o. elim (is_early s (suc m) o) [ true ↦ elim (is_changed marked s objects m (bucket_for s o)) [ true ↦ has_line lines (suc m) (bucket_for s o) | false ↦ true ] | false ↦ true ]) objects

Decides-all_moved : (marked : Marking) (s : Samples) (m : ℕ) (objects : List Object) (lines : List Prof) → Decides (all_moved marked s m objects lines) ((b : Bucket) → IsChanged marked s objects m b → HasLine lines (suc m) b)
Decides-all_moved marked s m objects lines =
    Decides-like (all_moved marked s m objects lines)
    (λ (h : (o : Object) → In o objects → is_early s (suc m) o ≡ true → IsChanged marked s objects m (bucket_for s o) → HasLine lines (suc m) (bucket_for s o)). λ b changed. (
    let o = count-some (λ (x : Object). is_sample s b x && ltb x.cycle (suc m)) objects (changed-some marked s objects m b changed) in
    let is = sample-early s (suc m) b o.0 o.2 in
    let same : b ≡ bucket_for s o.0 = λ i. record { stack = is.1 i; slot = is.2 i } in
    line-moved lines s (suc m) b o.0 is.1 is.2 (h o.0 o.1 is.0 (subst (λ (x : Bucket). IsChanged marked s objects m x) same changed))))
    (λ h o i early changed. h (bucket_for s o) changed)
    (Decides-all (λ o. elim (is_early s (suc m) o) [ true ↦ elim (is_changed marked s objects m (bucket_for s o)) [ true ↦ has_line lines (suc m) (bucket_for s o) | false ↦ true ] | false ↦ true ])
    (λ (o : Object). is_early s (suc m) o ≡ true → IsChanged marked s objects m (bucket_for s o) → HasLine lines (suc m) (bucket_for s o)) objects
    (λ o i. Decides-when (is_early s (suc m) o) (elim (is_changed marked s objects m (bucket_for s o)) [ true ↦ has_line lines (suc m) (bucket_for s o) | false ↦ true ]) (λ early.
    Decides-implies (is_changed marked s objects m (bucket_for s o)) (has_line lines (suc m) (bucket_for s o)) (Decides-changed marked s objects m (bucket_for s o)) (Decides-has_line lines (suc m) (bucket_for s o)))))

-- ---- the form of the last mark end

abbrev pub is_last : Marking → Samples → ℕ → List Object → Prof → Bool
is_last marked s last objects line = elim (eqb line.mark last) [ true ↦ is_prof marked s objects line | false ↦ false ]

abbrev pub are_last : Marking → Samples → ℕ → List Object → List Prof → Bool
are_last marked s last objects lines = elim (all_apart is_before lines) [ true ↦ elim (all_in (is_last marked s last objects) lines) [ true ↦ all_have s last objects lines | false ↦ false ] | false ↦ false ]

Decides-last : (marked : Marking) (s : Samples) (last : ℕ) (objects : List Object) (lines : List Prof) → Decides (are_last marked s last objects lines) (IsProfile marked s last objects lines)
Decides-last marked s last objects lines =
    Decides-like (are_last marked s last objects lines)
    (λ (h : AreRisingProfile lines × (((line : Prof) → In line lines → (line.mark ≡ last) × IsProf marked s objects line) × ((b : Bucket) → 1 ≤ allocs_at s objects last b → HasLine lines last b))). record { order = h.0; right = h.1.0; each = h.1.1 })
    (λ h. (h.order, (h.right, h.each)))
    (Decides-then (all_apart is_before lines) (elim (all_in (is_last marked s last objects) lines) [ true ↦ all_have s last objects lines | false ↦ false ]) (Decides-apart is_before IsProfBefore Decides-before lines)
    (Decides-then (all_in (is_last marked s last objects) lines) (all_have s last objects lines)
    (Decides-all (is_last marked s last objects) (λ (line : Prof). (line.mark ≡ last) × IsProf marked s objects line) lines
    (λ line i. Decides-then (eqb line.mark last) (is_prof marked s objects line) (Decides-eqb line.mark last) (Decides-prof marked s objects line)))
    (Decides-all_have s last objects lines)))

-- ---- the form of each mark end

abbrev pub is_each : Marking → Samples → ℕ → List Object → Prof → Bool
is_each marked s last objects line = elim (leb 1 line.mark) [ true ↦ elim (leb line.mark last) [ true ↦ is_prof marked s objects line | false ↦ false ] | false ↦ false ]

Decides-each : (marked : Marking) (s : Samples) (last : ℕ) (objects : List Object) (line : Prof) → Decides (is_each marked s last objects line) ((1 ≤ line.mark) × (line.mark ≤ last) × IsProf marked s objects line)
Decides-each marked s last objects line =
    Decides-like (is_each marked s last objects line)
    (λ (h : (1 ≤ line.mark) × ((line.mark ≤ last) × IsProf marked s objects line)). (h.0, h.1.0, h.1.1))
    (λ h. (h.0, (h.1, h.2)))
    (Decides-then (leb 1 line.mark) (elim (leb line.mark last) [ true ↦ is_prof marked s objects line | false ↦ false ]) (Decides-leb 1 line.mark)
    (Decides-then (leb line.mark last) (is_prof marked s objects line) (Decides-leb line.mark last) (Decides-prof marked s objects line)))

abbrev pub moves_at : Marking → Samples → ℕ → List Object → ℕ → Bucket → Bool
moves_at marked s last objects zero b = true
moves_at marked s last objects (suc m) b = elim (ltb (suc m) last) [ true ↦ is_changed marked s objects m b | false ↦ true ]

abbrev MovesAt : Marking → Samples → ℕ → List Object → ℕ → Bucket → Type 0
MovesAt marked s last objects k b = (m : ℕ) → k ≡ suc m → suc m < last → IsChanged marked s objects m b

Decides-moves_at : (marked : Marking) (s : Samples) (last : ℕ) (objects : List Object) (k : ℕ) (b : Bucket) → Decides (moves_at marked s last objects k b) (MovesAt marked s last objects k b)
Decides-moves_at marked s last objects zero b = (λ h m is. absurd (omega arith), λ h. refl)
Decides-moves_at marked s last objects (suc m) b =
    Decides-like (moves_at marked s last objects (suc m) b)
    (λ (h : suc m < last → IsChanged marked s objects m b). λ n is lt. (let same : m ≡ n = omega arith in subst (λ (j : ℕ). IsChanged marked s objects j b) same (h (omega arith))))
    (λ h lt. h m refl lt)
    (Decides-implies (ltb (suc m) last) (is_changed marked s objects m b) (Decides-ltb (suc m) last) (Decides-changed marked s objects m b))

abbrev pub are_moved : Marking → Samples → ℕ → List Object → List Prof → Bool
are_moved marked s last objects lines = all_below (λ m. elim (ltb (suc m) last) [ true ↦ all_moved marked s m objects lines | false ↦ true ]) last

Decides-moved : (marked : Marking) (s : Samples) (last : ℕ) (objects : List Object) (lines : List Prof) → Decides (are_moved marked s last objects lines) ((m : ℕ) (b : Bucket) → suc m < last → IsChanged marked s objects m b → HasLine lines (suc m) b)
Decides-moved marked s last objects lines =
    Decides-like (are_moved marked s last objects lines)
    (λ (h : (m : ℕ) → m < last → suc m < last → (b : Bucket) → IsChanged marked s objects m b → HasLine lines (suc m) b). λ m b lt changed. h m (omega arith) lt b changed)
    (λ h m low lt b changed. h m b lt changed)
    (Decides-below (λ m. elim (ltb (suc m) last) [ true ↦ all_moved marked s m objects lines | false ↦ true ]) (λ (m : ℕ). suc m < last → (b : Bucket) → IsChanged marked s objects m b → HasLine lines (suc m) b)
    (λ m. Decides-implies (ltb (suc m) last) (all_moved marked s m objects lines) (Decides-ltb (suc m) last) (Decides-all_moved marked s m objects lines)) last)

abbrev pub are_each : Marking → Samples → ℕ → List Object → List Prof → Bool
are_each marked s last objects lines = elim (all_apart is_before lines) [ true ↦ elim (all_in (is_each marked s last objects) lines) [ true ↦ elim (all_in (λ line. moves_at marked s last objects line.mark (bucket_of line)) lines) [ true ↦ elim (are_moved marked s last objects lines) [ true ↦ all_have s last objects lines | false ↦ false ] | false ↦ false ] | false ↦ false ] | false ↦ false ]

Decides-are_each : (marked : Marking) (s : Samples) (last : ℕ) (objects : List Object) (lines : List Prof) → Decides (are_each marked s last objects lines) (IsProfileOfEach marked s last objects lines)
Decides-are_each marked s last objects lines =
    let right = all_in (is_each marked s last objects) lines in
    let changed = all_in (λ line. moves_at marked s last objects line.mark (bucket_of line)) lines in
    let each = are_moved marked s last objects lines in
    let have = all_have s last objects lines in
    Decides-like (are_each marked s last objects lines)
    (λ (h : AreRisingProfile lines × (((line : Prof) → In line lines → (1 ≤ line.mark) × (line.mark ≤ last) × IsProf marked s objects line) × (((line : Prof) → In line lines → MovesAt marked s last objects line.mark (bucket_of line))
    × (((m : ℕ) (b : Bucket) → suc m < last → IsChanged marked s objects m b → HasLine lines (suc m) b) × ((b : Bucket) → 1 ≤ allocs_at s objects last b → HasLine lines last b))))).
    record { order = h.0; right = h.1.0; changed = λ m line i mark lt. h.1.1.0 line i m mark lt; each = h.1.1.1.0; last_each = h.1.1.1.1 })
    (λ h. (h.order, (h.right, (λ line i m mark lt. h.changed m line i mark lt, (h.each, h.last_each)))))
    (Decides-then (all_apart is_before lines) (elim right [ true ↦ elim changed [ true ↦ elim each [ true ↦ have | false ↦ false ] | false ↦ false ] | false ↦ false ]) (Decides-apart is_before IsProfBefore Decides-before lines)
    (Decides-then right (elim changed [ true ↦ elim each [ true ↦ have | false ↦ false ] | false ↦ false ])
    (Decides-all (is_each marked s last objects) (λ (line : Prof). (1 ≤ line.mark) × (line.mark ≤ last) × IsProf marked s objects line) lines (λ line i. Decides-each marked s last objects line))
    (Decides-then changed (elim each [ true ↦ have | false ↦ false ])
    (Decides-all (λ line. moves_at marked s last objects line.mark (bucket_of line)) (λ (line : Prof). MovesAt marked s last objects line.mark (bucket_of line)) lines (λ line i. Decides-moves_at marked s last objects line.mark (bucket_of line)))
    (Decides-then each have (Decides-moved marked s last objects lines) (Decides-all_have s last objects lines)))))

-- ---- which objects are sampled

-- by the countdowns, of objects with different numbers, the newest first
abbrev pub sampled_in : ℕ → ℕ → List Object → ℕ → Bool
sampled_in rate seed [] id = false
sampled_in rate seed (o ∷ older) id = elim (eqb o.id id) [ true ↦ is_sampled rate seed o.proc (map (λ (x : Object). x.need.slot) (placed_by o.proc older)) o.need.slot | false ↦ sampled_in rate seed older id ]

pick-first : (b x y : Bool) → b ≡ true → elim b [ true ↦ x | false ↦ y ] ≡ x
pick-first true x y h = refl
pick-first false x y h = absurd (false≢true h)

pick-second : (b x y : Bool) → b ≡ false → elim b [ true ↦ x | false ↦ y ] ≡ y
pick-second false x y h = refl
pick-second true x y h = absurd (false≢true (sym h))

below-length : (requests : List Request) (objects : List Object) → AreAnswered requests objects → (o : Object) → In o objects → o.id < length requests
below-length [] [] are o h = absurd h
below-length [] (x ∷ objects) are o h = absurd are
below-length (r ∷ requests) [] are o h = absurd h
below-length (r ∷ requests) (x ∷ objects) are o h =
    elim h [
      | inl here ↦ (let e = are.0.id in let f : x.id ≡ o.id = ap (λ (y : Object). y.id) here in omega arith)
      | inr there ↦ (let lt = below-length requests objects are.1 o there in omega arith)
    ]

in-passing : {X : Type 0} (test : X → Bool) (xs : List X) (x : X) → In x (passing test xs) → In x xs
in-passing test [] x h = absurd h
in-passing test (y ∷ xs) x h = elim (cases_Bool (test y)) [
  | inl on ↦ elim (rw on at h) [ inl here ↦ inl here | inr there ↦ inr (in-passing test xs x there) ]
  | inr off ↦ inr (in-passing test xs x (rw off at h))
]

map-alike : {X Y : Type 0} (f g : X → Y) (xs : List X) → ((x : X) → In x xs → f x ≡ g x) → map f xs ≡ map g xs
map-alike f g [] same = refl
map-alike f g (x ∷ xs) same = let rest = map-alike f g xs (λ y h. same y (inr h)) in rw (same x (inl refl), rest) refl

pub sampled-by : (rate seed : ℕ) (requests : List Request) (objects : List Object) → AreAnswered requests objects → SamplesBy rate seed (sampled_in rate seed objects) objects
sampled-by rate seed [] [] are p = refl
sampled-by rate seed [] (o ∷ objects) are p = absurd are
sampled-by rate seed (r ∷ requests) [] are p = absurd are
sampled-by rate seed (r ∷ requests) (o ∷ older) are p =
    let which = sampled_in rate seed (o ∷ older) in
    let olds : map (λ (x : Object). which x.id) (placed_by p older) ≡ sampled rate seed p (map (λ (x : Object). x.need.slot) (placed_by p older)) =
    map-alike (λ (x : Object). which x.id) (λ (x : Object). sampled_in rate seed older x.id) (placed_by p older) (λ x h. (
    let lt = below-length requests older are.1 x (in-passing (λ (y : Object). eqb y.proc p && is_placed y.answer) older x h) in
    let e = are.0.id in
    let off = ne_eqb o.id x.id (λ q. omega arith) in
    pick-second (eqb o.id x.id) (is_sampled rate seed o.proc (map (λ (y : Object). y.need.slot) (placed_by o.proc older)) o.need.slot) (sampled_in rate seed older x.id) off)) ∙ sampled-by rate seed requests older are.1 p in
    elim (cases_Bool (eqb o.proc p && is_placed o.answer)) [
      | inl on ↦ (
          let proc : o.proc ≡ p = eqb-true o.proc p (and_parts (eqb o.proc p) (is_placed o.answer) on).0 in
          let own = eq-eqb o.id o.id refl in
          let first : which o.id ≡ is_sampled rate seed p (map (λ (x : Object). x.need.slot) (placed_by p older)) o.need.slot =
          pick-first (eqb o.id o.id) (is_sampled rate seed o.proc (map (λ (y : Object). y.need.slot) (placed_by o.proc older)) o.need.slot) (sampled_in rate seed older o.id) own
          ∙ ap (λ (q : ℕ). is_sampled rate seed q (map (λ (x : Object). x.need.slot) (placed_by q older)) o.need.slot) proc in
          rw (on, first, olds) refl)
      | inr off ↦ rw off olds
    ]

-- ---- samples with the same numbers

module _ (marked : Marking) (s s' : Samples) (objects others : List Object) (allocs : (m : ℕ) (b : Bucket) → allocs_at s objects m b ≡ allocs_at s' others m b)
    (frees : (m : ℕ) (b : Bucket) → frees_at marked s objects m b ≡ frees_at marked s' others m b) where
  prof-there : (line : Prof) → IsProf marked s objects line → IsProf marked s' others line
  prof-there line is = record { some = is.some; allocs = is.allocs ∙ allocs line.mark (bucket_of line); frees = is.frees ∙ frees line.mark (bucket_of line) }

  changed-there : (m : ℕ) (b : Bucket) → IsChanged marked s objects m b → IsChanged marked s' others m b
  changed-there m b changed = elim changed [
    | inl more ↦ inl (λ same. more (allocs (suc m) b ∙ same ∙ sym (allocs m b)))
    | inr more ↦ inr (λ same. more (frees (suc m) b ∙ same ∙ sym (frees m b)))
  ]

  changed-here : (m : ℕ) (b : Bucket) → IsChanged marked s' others m b → IsChanged marked s objects m b
  changed-here m b changed = elim changed [
    | inl more ↦ inl (λ same. more (sym (allocs (suc m) b) ∙ same ∙ allocs m b))
    | inr more ↦ inr (λ same. more (sym (frees (suc m) b) ∙ same ∙ frees m b))
  ]

  pub profile-there : (each : Bool) (last : ℕ) (lines : List Prof) → IsProfileIn each marked s last objects lines → IsProfileIn each marked s' last others lines
  profile-there true last lines is = record {
    order = is.order;
    right = λ line h. (let r = is.right line h in (r.0, r.1, prof-there line r.2));
    changed = λ m line h mark lt. changed-there m (bucket_of line) (is.changed m line h mark lt);
    each = λ m b lt changed. is.each m b lt (changed-here m b changed);
    last_each = λ b some. is.last_each b (let e = allocs last b in omega arith);
  }
  profile-there false last lines is = record {
    order = is.order;
    right = λ line h. (let r = is.right line h in (r.0, prof-there line r.1));
    each = λ b some. is.each b (let e = allocs last b in omega arith);
  }

-- ---- a rate of 0

-- nothing is sampled at it, and nothing printed
unsampled : (t : Trace) (report : Report) (objects : List Object) → t.header.rate ≡ 0 → HasProfile t report objects → report.profile ≡ []
unsampled t report objects rate has = no-lines has.0 report.profile has.1.lines
  where
    no-prof : (line : Prof) → IsProf (marked_by t) (samples_in t has.1.which) objects line → ⊥
    no-prof line is =
        let b = bucket_of line in
        let some : 1 ≤ allocs_at (samples_in t has.1.which) objects line.mark b = (let a = is.some in let e = is.allocs in omega arith) in
        let o = count-some (λ (x : Object). is_sample (samples_in t has.1.which) b x && ltb x.cycle line.mark) objects some in
        let early = early-parts (is_placed o.0.answer) (has.1.which o.0.id) (ltb o.0.cycle line.mark) (sample-early (samples_in t has.1.which) line.mark b o.0 o.2).0 in
        let by : SamplesBy 0 t.header.seed has.1.which objects = rw rate at has.1.sampled in
        let off : has.1.which o.0.id ≡ false = samples-one 0 t.header.seed has.1.which (λ id. false) objects o.0 by (none-samples t.header.seed objects) o.1 early.0 in
        false≢true (sym off ∙ early.1)

    no-lines : (each : Bool) (lines : List Prof) → IsProfileIn each (marked_by t) (samples_in t has.1.which) (last_cycle t) objects lines → lines ≡ []
    no-lines each [] is = refl
    no-lines true (line ∷ lines) is = absurd (no-prof line (is.right line (inl refl)).2)
    no-lines false (line ∷ lines) is = absurd (no-prof line (is.right line (inl refl)).1)

abbrev pub is_none : List Prof → Bool
is_none [] = true
is_none (line ∷ lines) = false

Decides-none : (lines : List Prof) → Decides (is_none lines) (lines ≡ [])
Decides-none [] = (λ h. refl, λ e. refl)
Decides-none (line ∷ lines) = (λ h. absurd (false≢true h), λ e. cc)

-- ---- rule 9

abbrev pub has_lines : Trace → Report → List Object → Bool
has_lines t report objects =
    elim (are_last (marked_by t) (samples_in t (sampled_in t.header.rate t.header.seed objects)) (last_cycle t) objects report.profile) [ true ↦ true | false ↦ are_each (marked_by t) (samples_in t (sampled_in t.header.rate t.header.seed objects)) (last_cycle t) objects report.profile ]

Decides-lines : (t : Trace) (report : Report) (objects : List Object) → HasAnswers t report objects → Decides (has_lines t report objects) (HasProfile t report objects)
Decides-lines t report objects has =
    let which = sampled_in t.header.rate t.header.seed objects in
    let s : Samples = samples_in t which in
    let by = sampled-by t.header.rate t.header.seed (requests_of t) objects has.asked in
    Decides-like (has_lines t report objects)
    (λ (h : IsProfile (marked_by t) s (last_cycle t) objects report.profile ⊎ IsProfileOfEach (marked_by t) s (last_cycle t) objects report.profile). by-form h)
    (λ h. (
    let alike : AreAlike (samples_in t h.1.which) s objects = λ o i placed. (samples-one t.header.rate t.header.seed h.1.which which objects o h.1.sampled by i placed, refl) in
    from-form h.0 (profile-there (marked_by t) (samples_in t h.1.which) s objects objects (λ m b. allocs-alike (samples_in t h.1.which) s objects m b alike)
    (λ m b. frees-alike (marked_by t) (samples_in t h.1.which) s objects m b alike) h.0 (last_cycle t) report.profile h.1.lines)))
    (Decides-else (are_last (marked_by t) s (last_cycle t) objects report.profile) (are_each (marked_by t) s (last_cycle t) objects report.profile)
    (Decides-last (marked_by t) s (last_cycle t) objects report.profile) (Decides-are_each (marked_by t) s (last_cycle t) objects report.profile))
  where
    by-form : IsProfile (marked_by t) (samples_in t (sampled_in t.header.rate t.header.seed objects)) (last_cycle t) objects report.profile ⊎ IsProfileOfEach (marked_by t) (samples_in t (sampled_in t.header.rate t.header.seed objects)) (last_cycle t) objects report.profile
        → HasProfile t report objects
    by-form h = elim h [
      | inl last ↦ (false, record { which = sampled_in t.header.rate t.header.seed objects; sampled = sampled-by t.header.rate t.header.seed (requests_of t) objects has.asked; lines = last })
      | inr each ↦ (true, record { which = sampled_in t.header.rate t.header.seed objects; sampled = sampled-by t.header.rate t.header.seed (requests_of t) objects has.asked; lines = each })
    ]

    from-form : (each : Bool) → IsProfileIn each (marked_by t) (samples_in t (sampled_in t.header.rate t.header.seed objects)) (last_cycle t) objects report.profile
        → IsProfile (marked_by t) (samples_in t (sampled_in t.header.rate t.header.seed objects)) (last_cycle t) objects report.profile ⊎ IsProfileOfEach (marked_by t) (samples_in t (sampled_in t.header.rate t.header.seed objects)) (last_cycle t) objects report.profile
    from-form true is = inr is
    from-form false is = inl is

abbrev pub has_profile : Trace → Report → List Object → Bool
has_profile t report objects = elim (eqb t.header.rate 0) [ true ↦ is_none report.profile | false ↦ has_lines t report objects ]

pub Decides-profile : (t : Trace) (report : Report) (objects : List Object) → HasAnswers t report objects → Decides (has_profile t report objects) (HasProfile t report objects)
Decides-profile t report objects has = by-rate (eqb t.header.rate 0) (λ on. eqb-true t.header.rate 0 on)
  where
    by-rate : (b : Bool) → (b ≡ true → t.header.rate ≡ 0) → Decides (elim b [ true ↦ is_none report.profile | false ↦ has_lines t report objects ]) (HasProfile t report objects)
    by-rate true rate =
        Decides-like (is_none report.profile) (λ (none : report.profile ≡ []). (false, empty-profile false t report objects (rate refl) none)) (λ h. unsampled t report objects (rate refl) h) (Decides-none report.profile)
    by-rate false rate = Decides-lines t report objects has

-- ---- objects that answer alike

placed-like : (p : ℕ) (o c : Object) → IsLike o c → (eqb o.proc p && is_placed o.answer) ≡ (eqb c.proc p && is_placed c.answer)
placed-like p o c like = ap (λ (q : ℕ). eqb q p && is_placed o.answer) like.proc ∙ ap (λ (a : Answer). eqb c.proc p && is_placed a) like.answer

not-zero : (a : Answer) → is_placed a ≡ true → a ≡ Zero → ⊥
not-zero a placed none = (let off : is_placed a ≡ false = ap is_placed none in let none : ⊥ = cc in none)

passing-like : {X : Type 0} (f : Object → X) (p : ℕ) (os cs : List Object) → ((o c : Object) → IsLike o c → is_placed o.answer ≡ true → f o ≡ f c) → AllZip IsLike os cs → map f (placed_by p os) ≡ map f (placed_by p cs)
passing-like f p [] [] same all = refl
passing-like f p [] (c ∷ cs) same all = absurd all
passing-like f p (o ∷ os) [] same all = absurd all
passing-like f p (o ∷ os) (c ∷ cs) same all =
    let rest = passing-like f p os cs same all.1 in
    let e = placed-like p o c all.0 in
    elim (cases_Bool (eqb o.proc p && is_placed o.answer)) [
      | inl on ↦ (let there : (eqb c.proc p && is_placed c.answer) ≡ true = sym e ∙ on in let first = same o c all.0 (and_parts (eqb o.proc p) (is_placed o.answer) on).1 in rw (on, there, first, rest) refl)
      | inr off ↦ (let there : (eqb c.proc p && is_placed c.answer) ≡ false = sym e ∙ off in rw (off, there) rest)
    ]

count-like : (test : Object → Bool) (os cs : List Object) → ((o c : Object) → IsLike o c → test o ≡ test c) → AllZip IsLike os cs → count test os ≡ count test cs
count-like test [] [] same all = refl
count-like test [] (c ∷ cs) same all = absurd all
count-like test (o ∷ os) [] same all = absurd all
count-like test (o ∷ os) (c ∷ cs) same all = let here = ap one_if (same o c all.0) in let rest = count-like test os cs same all.1 in omega arith

slot-like : (o c : Object) → IsLike o c → is_placed o.answer ≡ true → o.need.slot ≡ c.need.slot
slot-like o c like placed = ap (λ (n : Need). n.slot) (like.need (λ z. not-zero o.answer placed z))

sample-like : (s : Samples) (b : Bucket) (o c : Object) → IsLike o c → is_sample s b o ≡ is_sample s b c
sample-like s b o c like =
    let e : is_placed o.answer ≡ is_placed c.answer = ap is_placed like.answer in
    elim (cases_Bool (is_placed o.answer)) [
      | inl placed ↦ (let there : is_placed c.answer ≡ true = sym e ∙ placed in let slot = slot-like o c like placed in let id = like.id in rw (placed, there, slot, id) refl)
      | inr isnt ↦ (let there : is_placed c.answer ≡ false = sym e ∙ isnt in rw (isnt, there) refl)
    ]

pub profile-alike : (t : Trace) (report : Report) (os cs : List Object) → AllZip IsLike os cs → HasProfile t report os → HasProfile t report cs
profile-alike t report os cs like has =
    let s : Samples = samples_in t has.1.which in
    let allocs : (m : ℕ) (b : Bucket) → allocs_at s os m b ≡ allocs_at s cs m b = λ m b.
    count-like (λ (o : Object). is_sample s b o && ltb o.cycle m) os cs (λ o c l. ap (λ (k : Bool). k && ltb o.cycle m) (sample-like s b o c l) ∙ ap (λ (k : ℕ). is_sample s b c && ltb k m) l.cycle) like in
    let frees : (m : ℕ) (b : Bucket) → frees_at (marked_by t) s os m b ≡ frees_at (marked_by t) s cs m b = λ m b.
    count-like (λ (o : Object). is_sample s b o && (ltb o.cycle m && not (marked_by t m o.id))) os cs (λ o c l. ap (λ (k : Bool). k && (ltb o.cycle m && not (marked_by t m o.id))) (sample-like s b o c l)
    ∙ ap (λ (k : ℕ). is_sample s b c && (ltb k m && not (marked_by t m o.id))) l.cycle ∙ ap (λ (k : ℕ). is_sample s b c && (ltb c.cycle m && not (marked_by t m k))) l.id) like in (
      has.0,
      record {
        which = has.1.which;
        sampled = λ p. sym (passing-like (λ (o : Object). has.1.which o.id) p os cs (λ o c l placed. ap has.1.which l.id) like) ∙ has.1.sampled p
            ∙ ap (λ (slots : List ℕ). sampled t.header.rate t.header.seed p slots) (passing-like (λ (o : Object). o.need.slot) p os cs slot-like like);
        lines = profile-there (marked_by t) s s os cs allocs frees has.0 (last_cycle t) report.profile has.1.lines;
      },
    )
