-- Each event of a trace has a bucket.
use Rattle.std.proofs.Common.{◌≡◌, ◌≤◌, Bool, true, false, ◌||◌, eqb, List, [], ◌∷◌, refl, sym, ◌∙◌, ap, arith, inl, inr}
use Rattle.std.specs.List.{AllByRecursion, list_any}
use Rattle.std.proofs.lemmas.Bool.{cases_Bool, ne_eqb}
use Rattle.page_alloc.specs.Lists.{In}
use Rattle.trace_reader.specs.declared.trace.Event.{Event}
use Rattle.profile_cycle.specs.declared.buckets.Bucket.{Bucket}
use Rattle.profile_cycle.specs.Naming.{buckets_of, is_same, pairs_of}
use Rattle.sample_laws.specs.Numbers.{IsNamed, pair_of}
use Rattle.sample_laws.proofs.Numbered.{is-same}

pair-in : (e : Event) (es : List Event) → In e es → 1 ≤ e.size → list_any (is_same (pair_of e)) (pairs_of es) ≡ true
pair-in e [] h some = absurd h
pair-in e (x ∷ es) h some = elim h [
  | inl here ↦ (
      let e_is : x ≡ e = here in
      let off : eqb x.size 0 ≡ false = ne_eqb x.size 0 (λ q. (let s = ap (λ (y : Event). y.size) e_is in omega arith)) in
      let same : is_same (pair_of e) (pair_of x) ≡ true = is-same (pair_of e) (pair_of x) (ap pair_of (sym e_is)) in
      rw (off, same) refl)
  | inr there ↦ (let rest = pair-in e es there some in elim (cases_Bool (eqb x.size 0)) [
    | inl on ↦ rw on rest
    | inr off ↦ rw (off, rest) (or-true (is_same (pair_of e) (pair_of x)))
  ])
]
  where
    or-true : (b : Bool) → (b || true) ≡ true
    or-true true = refl
    or-true false = refl

named-each : (known : List Bucket) (es all : List Event) → ((e : Event) → In e es → In e all) → ((pair : Bucket) → list_any (is_same pair) known ≡ list_any (is_same pair) (pairs_of all)) → AllByRecursion (IsNamed known) es
named-each known [] all sub same = tt
named-each known (e ∷ es) all sub same = (
  (λ some. same (pair_of e) ∙ pair-in e all (sub e (inl refl)) some),
  named-each known es all (λ x h. sub x (inr h)) same,
)

pub all-named : (known : List Bucket) (events : List Event) → known ≡ buckets_of (pairs_of events) → ((es : List Event) (pair : Bucket) → list_any (is_same pair) (buckets_of (pairs_of es)) ≡ list_any (is_same pair) (pairs_of es))
    → AllByRecursion (IsNamed known) events
all-named known events is law = named-each known events events (λ e h. h) (λ pair. ap (λ (l : List Bucket). list_any (is_same pair) l) is ∙ law events pair)
