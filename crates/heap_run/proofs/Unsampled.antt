-- At rate 0 no object is sampled.
use Rattle.std.proofs.Common.{◌≡◌, ℕ, Bool, true, false, ◌&&◌, eqb, List, [], ◌∷◌, map, refl, sym, ◌∙◌, ap, subst, inl, inr}
use Rattle.std.proofs.lemmas.Bool.{cases_Bool, eq-eqb}
use Rattle.page_alloc.specs.Lists.{In}
use Rattle.trace_reader.specs.declared.trace.Trace.{Trace}
use Rattle.cycle_history.specs.Objects.{Object, is_placed}
use Rattle.cycle_history.specs.Profile.{Bucket, SamplesBy, is_sample, placed_by, samples_in}
use Rattle.cycle_history.proofs.Sampling.{in-passing, none-sampled}
use Rattle.sample_laws.proofs.Sampled.{first-of}

-- objects whose flags are all false
all-off : (which : ℕ → Bool) (xs : List Object) → map (λ (o : Object). which o.id) xs ≡ map (λ (slot : ℕ). false) (map (λ (o : Object). o.need.slot) xs) → (o : Object) → In o xs → which o.id ≡ false
all-off which [] same o h = absurd h
all-off which (x ∷ xs) same o h =
    let both = first-of (which x.id) false (map (λ (y : Object). which y.id) xs) (map (λ (slot : ℕ). false) (map (λ (y : Object). y.need.slot) xs)) same in
    elim h [
      | inl here ↦ ap (λ (y : Object). which y.id) (sym here) ∙ both.0
      | inr there ↦ all-off which xs both.1 o there
    ]

-- no placed object is sampled
pub none-placed : (rate seed : ℕ) (which : ℕ → Bool) (objects : List Object) → rate ≡ 0 → SamplesBy rate seed which objects → (o : Object) → In o objects → is_placed o.answer ≡ true → which o.id ≡ false
none-placed rate seed which objects zero by o h placed =
    let mine : (eqb o.proc o.proc && is_placed o.answer) ≡ true = rw (eq-eqb o.proc o.proc refl, placed) refl in
    let there : In o (placed_by o.proc objects) = in-passing (λ (x : Object). eqb x.proc o.proc && is_placed x.answer) objects o h mine in
    let none : SamplesBy 0 seed which objects = subst (λ (r : ℕ). SamplesBy r seed which objects) zero by in
    all-off which (placed_by o.proc objects) (none o.proc ∙ none-sampled seed o.proc (map (λ (x : Object). x.need.slot) (placed_by o.proc objects))) o there

-- so none is a sample of a bucket
pub none-sample : (t : Trace) (which : ℕ → Bool) (objects : List Object) (b : Bucket) → t.header.rate ≡ 0 → SamplesBy t.header.rate t.header.seed which objects → (o : Object) → In o objects → is_sample (samples_in t which) b o ≡ false
none-sample t which objects b zero by o h = elim (cases_Bool (is_placed o.answer)) [
  | inl placed ↦ (let off = none-placed t.header.rate t.header.seed which objects zero by o h placed in rw (placed, off) refl)
  | inr isnt ↦ rw isnt refl
]
