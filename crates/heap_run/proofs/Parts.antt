-- What each worker has, as workers go out and come back.
use Rattle.std.proofs.Common.{◌≡◌, ◌≢◌, ℕ, zero, suc, ◌<◌, List, [], ◌∷◌, map, set, length, get_or, None, refl, sym, ◌∙◌, ap, arith, inl, inr}
use Rattle.std.proofs.lemmas.Bool.{cases_eq, eq-eqb}
use Rattle.std.proofs.lemmas.List.{get_or-set_same, get_or-set_other, length-set}
use mathlib.Core.Option.{some, some-injective, some-ne-none}
use lib.ListN.{get_elem?}
use Rattle.sweep_laws.specs.Lists.{erase}
use Rattle.sweep_laws.specs.OwnedLives.{EachAt}
use Rattle.swept_set_laws.specs.Entered.{log_of}
use Rattle.span_laws.specs.declared.view.Part.{Part}
use Rattle.span_laws.specs.Rule.{logs_of}
use Rattle.span_laws.specs.Views.{Seen, no_part, parts_of}
use Rattle.span_laws.specs.Handed.{handed, handing, taking_in, with_cache}
use Rattle.heap_run.specs.Parts.{part_at, IsSameRun}

-- ---- lists

at-get : {A : Type 0} (xs : List A) (n : ℕ) (a d : A) → get_elem? xs n ≡ some a → get_or xs n d ≡ a
at-get [] n a d e = absurd (some-ne-none a (sym e))
at-get (x ∷ xs) zero a d e = some-injective x a e
at-get (x ∷ xs) (suc n) a d e = at-get xs n a d e

pub get-map : {A B : Type 0} (f : A → B) (xs : List A) (n : ℕ) (d : A) → get_or (map f xs) n (f d) ≡ f (get_or xs n d)
get-map f [] n d = refl
get-map f (x ∷ xs) zero d = refl
get-map f (x ∷ xs) (suc n) d = get-map f xs n d

-- ---- parts

-- the own part is that of the own number
pub own-part : (w : Seen) → w.number < length w.view.parts → part_at w w.number ≡ w.view.own
own-part w lt = get_or-set_same w.view.parts w.number w.view.own no_part lt

-- of a worker's own steps the parts of the others know nothing
pub others-stay : (old new : Seen) (i : ℕ) → new.number ≡ old.number → new.view.parts ≡ old.view.parts → i ≢ old.number → part_at new i ≡ part_at old i
others-stay old new i number parts other =
    let a : get_or (parts_of old.number old.view) i no_part ≡ get_or old.view.parts i no_part = get_or-set_other old.view.parts old.number i old.view.own no_part other in
    let b : get_or (parts_of new.number new.view) i no_part ≡ get_or new.view.parts i no_part = get_or-set_other new.view.parts new.number i new.view.own no_part (λ e. other (e ∙ number)) in
    b ∙ ap (λ (ps : List Part). get_or ps i no_part) parts ∙ sym a

-- the worker that goes out has its part
pub part-out : (d : Seen) (m : ℕ) → d.number ≡ 69 → (handed 69 m d.view).own ≡ part_at d m
part-out d m number = ap (λ (k : ℕ). get_or (parts_of k d.view) m no_part) (sym number)

-- of the worker that was taken in the driver has the part, without the page cache
pub part-back : (d x : Seen) → x.number ≢ d.number → x.number < length d.view.parts → part_at (taking_in x d) x.number ≡ with_cache None x.view.own
part-back d x other lt =
    get_or-set_other (set d.view.parts x.number (with_cache None x.view.own)) d.number x.number d.view.own no_part other
    ∙ get_or-set_same d.view.parts x.number (with_cache None x.view.own) no_part lt

-- and of each other one what it had
pub others-back : (d x : Seen) (i : ℕ) → x.number ≢ d.number → d.number < length d.view.parts → i ≢ x.number → part_at (taking_in x d) i ≡ part_at d i
others-back d x i other lt apart =
    elim (cases_eq i d.number) [
      | inl same ↦ (
          let a : get_or (set (set d.view.parts x.number (with_cache None x.view.own)) d.number d.view.own) d.number no_part ≡ d.view.own =
          get_or-set_same (set d.view.parts x.number (with_cache None x.view.own)) d.number d.view.own no_part (let l = length-set d.view.parts x.number (with_cache None x.view.own) in omega arith) in
          let b : get_or (set d.view.parts d.number d.view.own) d.number no_part ≡ d.view.own = get_or-set_same d.view.parts d.number d.view.own no_part lt in
          rw same (a ∙ sym b))
      | inr else ↦ (
          get_or-set_other (set d.view.parts x.number (with_cache None x.view.own)) d.number i d.view.own no_part else
          ∙ get_or-set_other d.view.parts x.number i (with_cache None x.view.own) no_part apart
          ∙ sym (get_or-set_other d.view.parts d.number i d.view.own no_part else))
    ]

-- a number in front is erased
pub erase-front : (n : ℕ) (ns : List ℕ) → erase n (n ∷ ns) ≡ ns
erase-front n ns = rw (eq-eqb n n refl) refl

-- once a worker is back nothing but parts has changed
pub same-back : (d x : Seen) (m : ℕ) → x.number ≡ m → IsSameRun d (taking_in x (handing m d))
same-back d x m number = record {
  away = ap (λ (k : ℕ). erase k (m ∷ d.away)) number ∙ erase-front m d.away;
  table = refl;
  caching = refl;
  parts = length-set d.view.parts x.number (with_cache None x.view.own);
  region = refl;
  goal = refl;
  procs = refl;
  generation = refl;
  marks = refl;
  before = refl;
  carried = refl;
}

pub same-trans : (a b c : Seen) → IsSameRun a b → IsSameRun b c → IsSameRun a c
same-trans a b c ab bc = record {
  away = bc.away ∙ ab.away;
  table = bc.table ∙ ab.table;
  caching = bc.caching ∙ ab.caching;
  parts = bc.parts ∙ ab.parts;
  region = bc.region ∙ ab.region;
  goal = bc.goal ∙ ab.goal;
  procs = bc.procs ∙ ab.procs;
  generation = bc.generation ∙ ab.generation;
  marks = bc.marks ∙ ab.marks;
  before = bc.before ∙ ab.before;
  carried = bc.carried ∙ ab.carried;
}

-- ---- all parts

-- the log of a worker, among those of all
pub log-at : (w : Seen) (i : ℕ) → log_of (logs_of w.number w.view) i ≡ (part_at w i).log
log-at w i = get-map (λ (h : Part). h.log) (parts_of w.number w.view) i no_part

-- what holds of each worker's part
pub each-part : (w : Seen) (P : Part → Type 0) → ((i : ℕ) → P (part_at w i)) → EachAt (parts_of w.number w.view) (λ i h. P h)
each-part w P each i h at = rw (at-get (parts_of w.number w.view) i h no_part at) at (each i)
