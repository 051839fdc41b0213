-- The marks, the first countdowns and the counts of the buckets, one step at a time.
use Rattle.std.proofs.Common.{◌≡◌, ◌≢◌, ℕ, zero, suc, ◌+◌, ◌-◌, ◌^◌, ◌<◌, ◌≤◌, Bool, true, false, ◌&&◌, ◌||◌, not, eqb, leb, List, [], ◌∷◌, ◌++◌, length, take, set, get_or, Option, Some, None, refl, sym, ◌∙◌, ap, subst, arith, ◌⊎◌, inl, inr}
use Rattle.std.specs.Prelude.{position}
use Rattle.std.specs.List.{AllByRecursion, list_any, slice_get, sum_by}
use Rattle.std.proofs.lemmas.Bool.{cases_Bool, cases_eq, cases_lt, eq-eqb, ne_eqb, le-leb, lt-leb}
use Rattle.std.proofs.lemmas.List.{get_or-set_other, get_or-set_same, length-set, take_more}
use Rattle.std.proofs.lemmas.List.Quantifiers.{position-Some}
use Rattle.std.proofs.lemmas.List.Sums.{sum_by-set}
use Rattle.std.proofs.lemmas.Option.{get_or_from_slice_get, slice_get-get_or, slice_get_within}
use Rattle.page_alloc.specs.Lists.{In, one_if}
use Rattle.trace_reader.specs.declared.span.Span.{Span}
use Rattle.trace_reader.specs.declared.trace.Cycle.{Cycle}
use Rattle.trace_reader.specs.declared.trace.Trace.{Trace}
use Rattle.profile_cycle.specs.declared.buckets.Bucket.{Bucket}
use Rattle.profile_cycle.specs.declared.counts.Count.{Count}
use Rattle.profile_cycle.specs.Naming.{is_same}
use Rattle.cycle_history.specs.Requests.{is_within, last_cycle, marked_by, spans_of, spans_after}
use Rattle.heap_text.specs.Counting.{AreDifferent, CountsOne, count_at, no_count}

-- ---- marks

pub after-at : (c : ℕ) (cycles : List Cycle) (d : Cycle) → c < length cycles → spans_after c cycles ≡ spans_of (get_or cycles c d).mark
after-at c [] d lt = absurd (omega arith)
after-at zero (x ∷ cycles) d lt = refl
after-at (suc c) (x ∷ cycles) d lt = after-at c cycles d (omega arith)

pub last-marks : (t : Trace) (d : Cycle) (i : ℕ) → 2 ≤ length t.cycles → is_within (spans_of (get_or t.cycles (length t.cycles - 2) d).mark) i ≡ marked_by t (last_cycle t) i
last-marks t d i two =
    let e : last_cycle t ≡ suc (length t.cycles - 2) = omega arith in
    ap (λ (spans : List Span). is_within spans i) (sym (after-at (length t.cycles - 2) t.cycles d (omega arith))) ∙ ap (λ (m : ℕ). marked_by t m i) (sym e)

pub no-marks : (t : Trace) (i : ℕ) → length t.cycles < 2 → false ≡ marked_by t (last_cycle t) i
no-marks t i few = let e : last_cycle t ≡ 0 = omega arith in ap (λ (m : ℕ). marked_by t m i) (sym e)

within-more : (spans : List Span) (s : Span) (i : ℕ) → is_within (spans ++ s ∷ []) i ≡ (is_within spans i || (leb s.lo i && leb i s.hi))
within-more [] s i = or-false (leb s.lo i && leb i s.hi) where
  or-false : (b : Bool) → (b || false) ≡ (false || b)
  or-false true = refl
  or-false false = refl
within-more (x ∷ spans) s i = ap (λ (b : Bool). (leb x.lo i && leb i x.hi) || b) (within-more spans s i) ∙ or-assoc (leb x.lo i && leb i x.hi) (is_within spans i) (leb s.lo i && leb i s.hi) where
  or-assoc : (a b c : Bool) → (a || (b || c)) ≡ ((a || b) || c)
  or-assoc true b c = refl
  or-assoc false b c = refl

-- the objects of one span more are marked
pub marks-more : (old new : List Bool) (spans : List Span) (k i : ℕ) (d : Span) → k < length spans → i < length old
    → ((get_or spans k d).lo ≤ i → i ≤ (get_or spans k d).hi → get_or new i false ≡ true)
    → ((i < (get_or spans k d).lo) ⊎ ((get_or spans k d).hi < i) → get_or new i false ≡ get_or old i false)
    → get_or old i false ≡ is_within (take k spans) i → get_or new i false ≡ is_within (take (k + 1) spans) i
marks-more old new spans k i d lt inside in_ out was =
    let s = get_or spans k d in
    let more : is_within (take (k + 1) spans) i ≡ (is_within (take k spans) i || (leb s.lo i && leb i s.hi)) = ap (λ (xs : List Span). is_within xs i) (take_more spans k d lt) ∙ within-more (take k spans) s i in
    elim (cases_lt i s.lo) [
      | inl low ↦ (let off = lt-leb s.lo i low in out (inl low) ∙ was ∙ or-off (is_within (take k spans) i) (leb s.lo i) (leb i s.hi) off ∙ sym more)
      | inr ge ↦ elim (cases_lt s.hi i) [
        | inl high ↦ (let off = lt-leb i s.hi high in out (inr high) ∙ was ∙ or-off-2 (is_within (take k spans) i) (leb s.lo i) (leb i s.hi) off ∙ sym more)
        | inr le ↦ (let a = le-leb s.lo i ge in let b = le-leb i s.hi le in in_ ge le ∙ or-on (is_within (take k spans) i) (leb s.lo i) (leb i s.hi) a b ∙ sym more)
      ]
    ]
  where
    or-off : (x a b : Bool) → a ≡ false → x ≡ (x || (a && b))
    or-off true a b off = refl
    or-off false a b off = rw off refl

    or-off-2 : (x a b : Bool) → b ≡ false → x ≡ (x || (a && b))
    or-off-2 true a b off = refl
    or-off-2 false true b off = sym off
    or-off-2 false false b off = refl

    or-on : (x a b : Bool) → a ≡ true → b ≡ true → true ≡ (x || (a && b))
    or-on true a b ea eb = refl
    or-on false a b ea eb = rw (ea, eb) refl

-- ---- counts

differ-at : (buckets : List Bucket) (i j : ℕ) (a b : Bucket) → AreDifferent buckets → i < j → slice_get buckets i ≡ Some a → slice_get buckets j ≡ Some b → is_same a b ≡ false
differ-at [] i j a b apart less at bt = absurd cc
differ-at (x ∷ xs) zero zero a b apart less at bt = absurd (omega arith)
differ-at (x ∷ xs) zero (suc j) a b apart less at bt = (let same : x ≡ a = cc in subst (λ (y : Bucket). is_same y b ≡ false) same (apart.0 b (in-get xs j b bt))) where
  in-get : (ys : List Bucket) (k : ℕ) (y : Bucket) → slice_get ys k ≡ Some y → In y ys
  in-get [] k y e = absurd cc
  in-get (z ∷ zs) zero y e = inl cc
  in-get (z ∷ zs) (suc k) y e = inr (in-get zs k y e)
differ-at (x ∷ xs) (suc i) zero a b apart less at bt = absurd (omega arith)
differ-at (x ∷ xs) (suc i) (suc j) a b apart less at bt = differ-at xs i j a b apart.1 (omega arith) at bt

eqb-swap : (x y : ℕ) → eqb x y ≡ eqb y x
eqb-swap x y = elim (cases_eq x y) [
  | inl same ↦ eq-eqb x y same ∙ sym (eq-eqb y x (sym same))
  | inr other ↦ ne_eqb x y other ∙ sym (ne_eqb y x (λ e. other (sym e)))
]

same-swap : (a b : Bucket) → is_same a b ≡ is_same b a
same-swap a b = let stack = eqb-swap a.stack b.stack in let slot = eqb-swap a.slot b.slot in rw (stack, slot) refl

-- which buckets are the one that the key found
found-same : (buckets : List Bucket) (key b : Bucket) (n k : ℕ) → AreDifferent buckets → position (is_same key) buckets ≡ Some n → slice_get buckets k ≡ Some b → is_same key b ≡ eqb k n
found-same buckets key b n k apart at here =
    let p = position-Some (is_same key) buckets n b at in
    elim (cases_eq k n) [
      | inl same ↦ (
          let is : get_or buckets n b ≡ b = ap (λ (j : ℕ). get_or buckets j b) (sym same) ∙ get_or_from_slice_get buckets k b b here in
          ap (λ (x : Bucket). is_same key x) (sym is) ∙ p.1 ∙ sym (eq-eqb k n same))
      | inr other ↦ elim (cases_lt k n) [
        | inl less ↦ (let off = p.2 k less in ap (λ (x : Bucket). is_same key x) (sym (get_or_from_slice_get buckets k b b here)) ∙ off ∙ sym (ne_eqb k n other))
        | inr ge ↦ (
            let f = get_or buckets n b in
            let fat : slice_get buckets n ≡ Some f = slice_get-get_or buckets n b p.0 in
            let apart_ = differ-at buckets n k f b apart (omega arith) fat here in
            no-key key f b p.1 apart_ ∙ sym (ne_eqb k n other))
      ]
    ]
  where
    trans-same : (a f b : Bucket) → is_same a f ≡ true → is_same a b ≡ true → is_same f b ≡ true
    trans-same a f b one two =
        let p = Rattle.std.proofs.lemmas.Bool.and_parts (eqb a.stack f.stack) (eqb a.slot f.slot) one in
        let q = Rattle.std.proofs.lemmas.Bool.and_parts (eqb a.stack b.stack) (eqb a.slot b.slot) two in
        let stack : f.stack ≡ b.stack = sym (Rattle.std.proofs.lemmas.Bool.eqb-true a.stack f.stack p.0) ∙ Rattle.std.proofs.lemmas.Bool.eqb-true a.stack b.stack q.0 in
        let slot : f.slot ≡ b.slot = sym (Rattle.std.proofs.lemmas.Bool.eqb-true a.slot f.slot p.1) ∙ Rattle.std.proofs.lemmas.Bool.eqb-true a.slot b.slot q.1 in
        let s = eq-eqb f.stack b.stack stack in
        let t = eq-eqb f.slot b.slot slot in
        rw (s, t) refl

    no-key : (a f b : Bucket) → is_same a f ≡ true → is_same f b ≡ false → is_same a b ≡ false
    no-key a f b one off = elim (cases_Bool (is_same a b)) [
      | inl on ↦ (let both = trans-same a f b one on in let clash : true ≡ false = sym both ∙ off in absurd cc)
      | inr other ↦ other
    ]

all-set : (P : Count → Type 0) (xs : List Count) (n : ℕ) (x : Count) → AllByRecursion P xs → P x → AllByRecursion P (set xs n x)
all-set P [] n x all here = tt
all-set P (y ∷ ys) zero x all here = (here, all.1)
all-set P (y ∷ ys) (suc n) x all here = (all.0, all-set P ys n x all.1 here)

all-at : (P : Count → Type 0) (xs : List Count) (n : ℕ) (d : Count) → n < length xs → AllByRecursion P xs → P (get_or xs n d)
all-at P [] n d lt all = absurd (omega arith)
all-at P (y ∷ ys) zero d lt all = all.0
all-at P (y ∷ ys) (suc n) d lt all = all-at P ys n d (omega arith) all.1

at-one : (k n : ℕ) → k ≡ n → one_if (eqb k n) ≡ 1
at-one k n same = ap one_if (eq-eqb k n same)

at-other : (k n : ℕ) → (k ≡ n → ⊥) → one_if (eqb k n) ≡ 0
at-other k n other = ap one_if (ne_eqb k n other)

pub counts-one : (buckets : List Bucket) (key : Bucket) (marked : Bool) (old : List Count) (n : ℕ) (new : Count) → AreDifferent buckets → position (is_same key) buckets ≡ Some n → length old ≡ length buckets
    → AllByRecursion (λ (c : Count). c.frees ≤ c.allocs) old → new.allocs ≡ (count_at old n).allocs + 1 → new.frees ≡ (count_at old n).frees + one_if (not marked) → CountsOne buckets key marked old (set old n new)
counts-one buckets key marked old n new apart at size freed allocs frees =
    let p = position-Some (is_same key) buckets n (record { stack = 0; slot = 0 }) at in
    let lt : n < length old = (let l = p.0 in omega arith) in
    record {
      size = length-set old n new;
      sum = (let s = sum_by-set (λ (c : Count). c.allocs) old n new no_count lt in omega arith);
      freed = all-set (λ (c : Count). c.frees ≤ c.allocs) old n new freed (let f = all-at (λ (c : Count). c.frees ≤ c.allocs) old n no_count lt freed in let o = at-most (not marked) in omega arith);
      allocs = λ k b here. elim (cases_eq k n) [
        | inl same ↦ (
            let one : one_if (is_same key b) ≡ 1 = ap one_if (found-same buckets key b n k apart at here) ∙ at-one k n same in
            let is : count_at (set old n new) k ≡ new = ap (λ (j : ℕ). count_at (set old n new) j) same ∙ get_or-set_same old n new no_count lt in
            let e = ap (λ (c : Count). c.allocs) is in
            let f = ap (λ (j : ℕ). (count_at old j).allocs) same in
            omega arith)
        | inr other ↦ (
            let none : one_if (is_same key b) ≡ 0 = ap one_if (found-same buckets key b n k apart at here) ∙ at-other k n other in
            let e = ap (λ (c : Count). c.allocs) (get_or-set_other old n k new no_count other) in
            omega arith)
      ];
      frees = λ k b here. elim (cases_eq k n) [
        | inl same ↦ (
            let one : one_if (is_same key b && not marked) ≡ one_if (not marked) = ap (λ (x : Bool). one_if (x && not marked)) (found-same buckets key b n k apart at here ∙ eq-eqb k n same) in
            let is : count_at (set old n new) k ≡ new = ap (λ (j : ℕ). count_at (set old n new) j) same ∙ get_or-set_same old n new no_count lt in
            let e = ap (λ (c : Count). c.frees) is in
            let f = ap (λ (j : ℕ). (count_at old j).frees) same in
            omega arith)
        | inr other ↦ (
            let none : one_if (is_same key b && not marked) ≡ 0 = ap (λ (x : Bool). one_if (x && not marked)) (found-same buckets key b n k apart at here ∙ ne_eqb k n other) in
            let e = ap (λ (c : Count). c.frees) (get_or-set_other old n k new no_count other) in
            omega arith)
      ];
    }
  where
    at-most : (b : Bool) → one_if b ≤ 1
    at-most true = omega arith
    at-most false = omega arith

pub frees-on : (marked : Bool) (new old : ℕ) → marked ≡ true → new ≡ old → new ≡ old + one_if (not marked)
frees-on true new old is same = omega arith
frees-on false new old is same = absurd cc

pub frees-off : (marked : Bool) (new old : ℕ) → marked ≡ false → new ≡ old + 1 → new ≡ old + one_if (not marked)
frees-off true new old is more = absurd cc
frees-off false new old is more = more

-- ---- what is written through a slice

pub written : {X : Type 0} (n : ℕ) (new old : List X) → length new ≡ n → take n (new ++ Rattle.std.proofs.Common.drop (length new) old) ≡ new
written n new old e = subst (λ (k : ℕ). take k (new ++ Rattle.std.proofs.Common.drop (length new) old) ≡ new) e (Rattle.std.proofs.Math.Seq.take-append_seam new (Rattle.std.proofs.Common.drop (length new) old))
