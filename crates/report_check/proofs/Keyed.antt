-- The keys of sweeps.
use Rattle.std.proofs.Common.{◌≡◌, ℕ, suc, ◌+◌, ◌^◌, ◌<◌, ◌≤◌, Bool, true, false, cond, eqb, List, [], ◌∷◌, length, Some, refl, sym, ◌∙◌, ap, subst, arith, inl, inr}
use Rattle.std.specs.List.{slice_get, list_any}
use Rattle.std.proofs.lemmas.Bool.{cases_eq, cases_order, cases_Bool, eq-eqb, ne_eqb}
use Rattle.std.proofs.lemmas.Option.{slice_get_within}
use Rattle.page_alloc.specs.Lists.{In}
use Rattle.span_state.specs.declared.sweep.SweepNote.{SweepNote}
use Rattle.report_check.specs.declared.keys.Keys.{Keys}
use Rattle.report_check.specs.Keys.{AreKeys}
use Rattle.report_check.specs.Sweeping.{key_of}
use Rattle.report_check.proofs.Counts.{get-in}

-- a wanted sweep of the first n has the key
pub record HasKeyTo (empty : Bool) (sweeps : List SweepNote) (n key : ℕ) : Type 0 where
  pub number : ℕ
  pub note : SweepNote
  pub before : number < n
  pub at : slice_get sweeps number ≡ Some note
  pub is : key_of note.cycle note.page ≡ key
  pub page : note.page < 2 ^ 32
  pub wanted : empty ≡ true → note.kept ≡ 0

abbrev pub AreKeysTo : Bool → List SweepNote → ℕ → List ℕ → Type 0
AreKeysTo empty sweeps n keys = ((key : ℕ) → (list_any (eqb key) keys ≡ true) → HasKeyTo empty sweeps n key)
    × ((key number : ℕ) (note : SweepNote) → number < n → slice_get sweeps number ≡ Some note → key_of note.cycle note.page ≡ key → (empty ≡ true → note.kept ≡ 0) → list_any (eqb key) keys ≡ true)

pub keys-none : (empty : Bool) (sweeps : List SweepNote) (keys : List ℕ) → keys ≡ [] → AreKeysTo empty sweeps 0 keys
keys-none empty sweeps keys e = (
  λ key on. absurd (off-on (list_any (eqb key) keys) (ap (λ (ks : List ℕ). list_any (eqb key) ks) e) on),
  λ key number note lt. absurd (omega arith),
)
  where
    off-on : (b : Bool) → b ≡ false → b ≡ true → ⊥
    off-on b off on = cc

has-on : (empty : Bool) (sweeps : List SweepNote) (n key : ℕ) → HasKeyTo empty sweeps n key → HasKeyTo empty sweeps (n + 1) key
has-on empty sweeps n key h = record { number = h.number; note = h.note; before = (let lt = h.before in omega arith); at = h.at; is = h.is; page = h.page; wanted = h.wanted }

some-same : {x y : SweepNote} → Some x ≡ Some y → x ≡ y
some-same h = cc

pub keys-more : (empty : Bool) (sweeps : List SweepNote) (n : ℕ) (note : SweepNote) (old new : List ℕ) → slice_get sweeps n ≡ Some note → note.page < 2 ^ 32 → (empty ≡ true → note.kept ≡ 0)
    → ((q : ℕ) → list_any (eqb q) new ≡ cond (eqb (key_of note.cycle note.page) q) true (list_any (eqb q) old)) → AreKeysTo empty sweeps n old → AreKeysTo empty sweeps (n + 1) new
keys-more empty sweeps n note old new at page wanted updates are = (
  λ key on. elim (cases_eq (key_of note.cycle note.page) key) [
    | inl same ↦ record { number = n; note = note; before = omega arith; at = at; is = same; page = page; wanted = wanted }
    | inr other ↦ (let off = ne_eqb (key_of note.cycle note.page) key other in let u = updates key in has-on empty sweeps n key (are.0 key (sym (rw off at u) ∙ on)))
  ],
  λ key number other lt there is want. elim (cases_eq number n) [
    | inl same ↦ (
        let e : other ≡ note = some-same (sym (subst (λ (k : ℕ). slice_get sweeps k ≡ Some other) same there) ∙ at) in
        let f : key_of note.cycle note.page ≡ key = ap (λ (x : SweepNote). key_of x.cycle x.page) (sym e) ∙ is in
        let on = eq-eqb (key_of note.cycle note.page) key f in
        let u = updates key in
        rw on at u)
    | inr before ↦ (
        let was = are.1 key number other (omega arith) there is want in
        let u = updates key in
        u ∙ (elim (cases_Bool (eqb (key_of note.cycle note.page) key)) [ inl on ↦ rw on refl | inr off ↦ rw off was ]))
  ],
)

pub keys-other : (empty : Bool) (sweeps : List SweepNote) (n : ℕ) (note : SweepNote) (keys : List ℕ) → slice_get sweeps n ≡ Some note → ¬ (empty ≡ true → note.kept ≡ 0) → AreKeysTo empty sweeps n keys → AreKeysTo empty sweeps (n + 1) keys
keys-other empty sweeps n note keys at off are = (
  λ key on. has-on empty sweeps n key (are.0 key on),
  λ key number other lt there is want. elim (cases_eq number n) [
    | inl same ↦ (
        let e : other ≡ note = some-same (sym (subst (λ (k : ℕ). slice_get sweeps k ≡ Some other) same there) ∙ at) in
        absurd (off (subst (λ (x : SweepNote). empty ≡ true → x.kept ≡ 0) e want)))
    | inr before ↦ are.1 key number other (omega arith) there is want
  ],
)

-- a cycle and a page have one key
keys-same : (c d p q : ℕ) → p < 2 ^ 32 → q < 2 ^ 32 → key_of c p ≡ key_of d q → (c ≡ d) × (p ≡ q)
keys-same c d p q lp lq e = elim (cases_order c d) [
  | inl same ↦ (same, omega arith)
  | inr order ↦ elim order [ inl lt ↦ absurd (omega arith) | inr gt ↦ absurd (omega arith) ]
]

pub in-get : (sweeps : List SweepNote) (note : SweepNote) → In note sweeps → (k : ℕ) × (slice_get sweeps k ≡ Some note)
in-get [] note i = absurd i
in-get (x ∷ sweeps) note i = elim i [
  | inl here ↦ (0, ap Some here)
  | inr there ↦ (let r = in-get sweeps note there in (suc r.0, r.1))
]

pub keys-all : (empty : Bool) (sweeps : List SweepNote) (n : ℕ) (keys : Keys) → length sweeps ≤ n → AreKeysTo empty sweeps n keys.keys.keys → AreKeys empty sweeps keys
keys-all empty sweeps n keys all are cycle page lc lp = (
  λ on. (
      let h = are.0 (key_of cycle page) on in
      let same = keys-same h.note.cycle cycle h.note.page page h.page lp h.is in
      (h.note, get-in sweeps h.number h.note h.at, same.0, same.1, h.wanted)),
  λ has. (
      let g = in-get sweeps has.0 has.1 in
      let within = slice_get_within sweeps g.0 has.0 g.1 in
      let c = has.2 in
      let p = has.3 in
      are.1 (key_of cycle page) g.0 has.0 (omega arith) g.1 (ap (λ (k : ℕ). key_of k has.0.page) c ∙ ap (λ (k : ℕ). key_of cycle k) p) has.4),
)
