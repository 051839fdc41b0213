-- The heap profile of a trace and its answers, and that there is but one.
use Rattle.std.proofs.Common.{◌≡◌, ℕ, ◌+◌, ◌-◌, ◌*◌, ◌<◌, ◌≤◌, Bool, List, [], ◌∷◌, map, length, get_or, Some, refl, sym, ap, ap₂, ◌∙◌, subst, ◌⊎◌, inl, inr, arith}
use Rattle.std.specs.List.{slice_get}
use Rattle.std.proofs.lemmas.Option.{slice_get-get_or}
use Rattle.page_alloc.specs.Lists.{In, AllApart}
use Rattle.trace_reader.specs.declared.trace.Trace.{Trace}
use Rattle.trace_reader.specs.Limits.{events_of}
use Rattle.profile_cycle.specs.declared.buckets.Bucket.{Bucket}
use Rattle.profile_cycle.specs.declared.counts.Count.{Count}
use Rattle.cycle_history.specs.declared.Answer.{Answer}
use Rattle.cycle_history.specs.Requests.{last_cycle, marked_by}
use Rattle.cycle_history.specs.Objects.{Object}
use Rattle.cycle_history.specs.Profile.{SamplesBy, allocs_at, frees_at, samples_in}
use Rattle.cycle_history.specs.Counted.{AreObjectsOf}
use Rattle.heap_text.specs.declared.text.HeapLine.{HeapLine}
use Rattle.heap_text.specs.declared.text.HeapText.{HeapText}
use Rattle.heap_text.specs.Counting.{AreCounted, count_at, no_count}
use Rattle.heap_text.specs.Laws.{IsOneOfBoth}
use Rattle.heap_text.specs.Published.{AreOrdered, IsBefore, IsHeapBy, IsHeapOf, bucket_at, buckets_in, line_at, told_of}
use Rattle.heap_text.proofs.Ordering.{line_by}
use Rattle.heap_text.proofs.Refused.{same_heap}
use Rattle.heap_text.proofs.Sampling.{all-first, requests-length}

-- ---- lines that are the same below the bound

map-same : (f g : ℕ → HeapLine) (xs : List ℕ) → ((x : ℕ) → In x xs → f x ≡ g x) → map f xs ≡ map g xs
map-same f g [] same = refl
map-same f g (x ∷ xs) same = ap₂ (λ (l : HeapLine) (ls : List HeapLine). l ∷ ls) (same x (inl refl)) (map-same f g xs (λ y h. same y (inr h)))

apart-same : (R S : ℕ → ℕ → Type 0) (xs : List ℕ) → ((x y : ℕ) → In x xs → In y xs → R x y → S x y) → AllApart R xs → AllApart S xs
apart-same R S [] same apart = tt
apart-same R S (x ∷ xs) same apart = ((λ y h. same x y (inl refl) (inr h) (apart.0 y h)), apart-same R S xs (λ a b ha hb. same a b (inr ha) (inr hb)) apart.1)

ordered-same : (bound : ℕ) (line other : ℕ → HeapLine) (lines : List HeapLine) → ((k : ℕ) → k < bound → line k ≡ other k) → AreOrdered bound line lines → AreOrdered bound other lines
ordered-same bound line other lines same is =
    let at : (k : ℕ) → In k is.order → line k ≡ other k = λ k h. same k (is.within k h).0 in
    record {
      order = is.order;
      within = λ k h. (let w = is.within k h in (w.0, subst (λ (l : HeapLine). 1 ≤ l.all_objects) (at k h) w.1));
      all = λ k lt some. is.all k lt (subst (λ (l : HeapLine). 1 ≤ l.all_objects) (sym (same k lt)) some);
      rising = apart-same (IsBefore line) (IsBefore other) is.order
          (λ x y hx hy before. subst (λ (l : HeapLine). (l.bytes < (other x).bytes) ⊎ (((other x).bytes ≡ l.bytes) × (x < y))) (at y hy)
          (subst (λ (l : HeapLine). ((line y).bytes < l.bytes) ⊎ ((l.bytes ≡ (line y).bytes) × (x < y))) (at x hx) before)) is.rising;
      are = is.are ∙ map-same line other is.order at;
    }

-- ---- the profile

pub heap-by : (t : Trace) (answers : List Answer) (counts : List Count) (heap : HeapText) → length answers ≡ length (events_of t) → AreCounted t answers (length answers) counts → heap.twice ≡ 2 * t.header.rate
    → AreOrdered (length (buckets_in t)) (line_by (buckets_in t) counts) heap.lines → IsHeapOf t answers heap
heap-by t answers counts heap size counted twice ordered objects which of samples =
    let requests = requests-length t in
    let first = all-first t answers (length answers) objects (omega arith) (omega arith) of in
    record {
      twice = twice;
      lines = ordered-same (length (buckets_in t)) (line_by (buckets_in t) counts) (λ n. line_at (marked_by t) (samples_in t which) objects (last_cycle t) (bucket_at (buckets_in t) n)) heap.lines (λ k lt. (
          let b = bucket_at (buckets_in t) k in
          let at : slice_get (buckets_in t) k ≡ Some b = slice_get-get_or (buckets_in t) k _ lt in
          ap₂ (λ (x y : ℕ). told_of b x y) (counted.allocs objects which k b first samples at) (counted.frees objects which k b first samples at))) ordered;
    }

-- ---- one order

apart-one : (R : ℕ → ℕ → Type 0) → ((x y : ℕ) → R x y → R y x → ⊥) → (xs ys : List ℕ) → AllApart R xs → AllApart R ys → ((x : ℕ) → In x xs → In x ys) → ((y : ℕ) → In y ys → In y xs) → xs ≡ ys
apart-one R asym [] [] ax ay there back = refl
apart-one R asym [] (y ∷ ys) ax ay there back = absurd (back y (inl refl))
apart-one R asym (x ∷ xs) [] ax ay there back = absurd (there x (inl refl))
apart-one R asym (x ∷ xs) (y ∷ ys) ax ay there back =
    let same : x ≡ y = elim (there x (inl refl)) [
      | inl here ↦ sym here
      | inr behind ↦ elim (back y (inl refl)) [ inl here ↦ here | inr later ↦ absurd (asym x y (ax.0 y later) (ay.0 x behind)) ]
    ] in
    ap₂ (λ (z : ℕ) (zs : List ℕ). z ∷ zs) same (apart-one R asym xs ys ax.1 ay.1
    (λ z h. elim (there z (inr h)) [ inl here ↦ absurd (let r = ax.0 z h in let e : x ≡ z = same ∙ here in asym x x (subst (λ (w : ℕ). R x w) (sym e) r) (subst (λ (w : ℕ). R x w) (sym e) r)) | inr behind ↦ behind ])
    (λ z h. elim (back z (inr h)) [ inl here ↦ absurd (let r = ay.0 z h in let e : y ≡ z = sym same ∙ here in asym y y (subst (λ (w : ℕ). R y w) (sym e) r) (subst (λ (w : ℕ). R y w) (sym e) r)) | inr behind ↦ behind ]))

before-asym : (line : ℕ → HeapLine) (x y : ℕ) → IsBefore line x y → IsBefore line y x → ⊥
before-asym line x y one other = elim one [
  | inl less ↦ elim other [ inl more ↦ absurd (omega arith) | inr tied ↦ (let e = tied.0 in absurd (omega arith)) ]
  | inr first ↦ (
      let e = first.0 in
      let l = first.1 in
      elim other [ inl more ↦ absurd (omega arith) | inr tied ↦ (let k = tied.1 in absurd (omega arith)) ])
]

one-ordered : (bound : ℕ) (line : ℕ → HeapLine) (xs ys : List HeapLine) → AreOrdered bound line xs → AreOrdered bound line ys → xs ≡ ys
one-ordered bound line xs ys left right =
    let same = apart-one (IsBefore line) (before-asym line) left.order right.order left.rising right.rising
    (λ k h. (let w = left.within k h in right.all k w.0 w.1)) (λ k h. (let w = right.within k h in left.all k w.0 w.1)) in
    left.are ∙ ap (λ (order : List ℕ). map line order) same ∙ sym right.are

pub one-of-both : IsOneOfBoth
one-of-both t answers objects which of samples a b left right =
    let one = left objects which of samples in
    let two = right objects which of samples in
    same_heap a b (one.twice ∙ sym two.twice) (one-ordered _ _ a.lines b.lines one.lines two.lines)
