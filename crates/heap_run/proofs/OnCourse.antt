-- A run on its course: what holds of each trace that the base may become.
use Rattle.std.proofs.Common.{◌≡◌, ℕ, zero, suc, ◌+◌, ◌<◌, ◌≤◌, List, [], ◌∷◌, ◌++◌, length, take, get_or, Some, None, refl, sym, ◌∙◌, ap, arith, subst, inl, inr, ◌⊎◌}
use Rattle.std.specs.List.{AllByRecursion, slice_get}
use Rattle.trace_reader.specs.declared.trace.Trace.{Trace}
use Rattle.trace_reader.specs.declared.trace.Header.{Header}
use Rattle.trace_reader.specs.declared.trace.Cycle.{Cycle}
use Rattle.trace_reader.specs.declared.trace.Event.{Event}
use Rattle.trace_reader.specs.Limits.{events_of}
use Rattle.cycle_history.specs.declared.Answer.{Answer}
use Rattle.cycle_history.specs.Before.{AreAlike, IsLimited}
use Rattle.profile_cycle.specs.declared.buckets.Bucket.{Bucket}
use Rattle.sample_laws.specs.Numbers.{IsNamed}
use Rattle.tiny_alloc.specs.Base.{as_version_2, based_answer, based_answers}
use Rattle.tiny_alloc.specs.Growing.{HasGrown, lone_event, lone_events}
use Rattle.tiny_alloc.specs.Riders.{part_at}
use Rattle.tiny_alloc.specs.Sound.{AreRiding}
use Rattle.tiny_alloc.specs.declared.part.Part.TheVariants.{Other, Ride}
use Rattle.cycle_history.specs.declared.versions.TheConstants.{TINY_VERSION}
use Rattle.tiny_alloc.proofs.Rides.{part-settled}
use Rattle.tiny_alloc.proofs.Limited.{as-limited}
use Rattle.tiny_alloc.proofs.Parted.{part-past}
use Rattle.tiny_alloc.proofs.Sizes.{growing-event}
use Rattle.tiny_alloc.proofs.Underway.{growing-last, growing-limited}
use Rattle.heap_run.specs.Courses.{HasBegunAll, HasRidden, IsFresh, IsOnCourse, IsPlain, KnowsLeads, MayBecome, MayEnd, base_of, trace_of}
use Rattle.heap_run.specs.Naming.{KnowsBuckets}
use Rattle.heap_run.specs.Runs.{HasBegun}
use Rattle.heap_run.specs.declared.course.Course.{Course}
use Rattle.heap_run.specs.declared.course.Course.TheVariants.{Plain, Tiny}
use Rattle.heap_run.specs.declared.course.Rides.{Rides}
use Rattle.heap_run.specs.declared.run.Run.{Run}
use Rattle.heap_run.proofs.Running.{some-cycle}

-- ---- traces alike

pub alike-refl : (c : ℕ) (t : Trace) → AreAlike c t t
alike-refl c t = record { header = refl; cycles = refl }

pub alike-then : (c : ℕ) (t u v : Trace) → AreAlike c t u → AreAlike c u v → AreAlike c t v
alike-then c t u v a b = record { header = a.header ∙ b.header; cycles = a.cycles ∙ b.cycles }

take-less : {X : Type 0} (n m : ℕ) (xs : List X) → n ≤ m → take n (take m xs) ≡ take n xs
take-less zero m xs le = refl
take-less (suc n) zero xs le = absurd (omega arith)
take-less (suc n) (suc m) [] le = refl
take-less (suc n) (suc m) (x ∷ xs) le = ap (λ (l : List _). x ∷ l) (take-less n m xs (omega arith))

-- before an earlier mark end, too
pub alike-less : (n m : ℕ) (t u : Trace) → n ≤ m → AreAlike m t u → AreAlike n t u
alike-less n m t u le a = record {
  header = a.header;
  cycles = sym (take-less n m t.cycles le) ∙ ap (λ (l : List Cycle). take n l) a.cycles ∙ take-less n m u.cycles le;
}

get-take : {X : Type 0} (n m : ℕ) (xs : List X) (d : X) → n < m → get_or (take m xs) n d ≡ get_or xs n d
get-take n zero xs d lt = absurd (omega arith)
get-take zero (suc m) [] d lt = refl
get-take zero (suc m) (x ∷ xs) d lt = refl
get-take (suc n) (suc m) [] d lt = refl
get-take (suc n) (suc m) (x ∷ xs) d lt = get-take n m xs d (omega arith)

-- a settled cycle is the same
pub alike-cycle : (c m : ℕ) (t u : Trace) (d : Cycle) → c < m → AreAlike m t u → get_or t.cycles c d ≡ get_or u.cycles c d
alike-cycle c m t u d lt a = sym (get-take c m t.cycles d lt) ∙ ap (λ (l : List Cycle). get_or l c d) a.cycles ∙ get-take c m u.cycles d lt

-- ---- what the base may become

-- whatever goes on from a later base goes on from the earlier one
pub end-becomes : (c : ℕ) (known : List Bucket) (base base' t : Trace) → AreAlike c base base' → MayEnd c known base' t → MayBecome c known base t
end-becomes c known base base' t alike m = record {
  limited = m.may.limited;
  alike = alike-then c base base' t alike m.may.alike;
  more = m.may.more;
  named = m.may.named;
}

pub next-ends : (c : ℕ) (known : List Bucket) (base base' t : Trace) → AreAlike c base base' → ((d : Cycle) → (get_or base'.cycles c d).events ≡ (get_or base.cycles c d).events) → MayBecome (c + 1) known base' t
    → MayEnd c known base t
next-ends c known base base' t alike events m = record {
  may = record {
    limited = m.limited;
    alike = alike-then c base base' t alike (alike-less c (c + 1) base' t (omega arith) m.alike);
    more = (let more = m.more in omega arith);
    named = m.named;
  };
  events = λ d. ap (λ (x : Cycle). x.events) (sym (alike-cycle c (c + 1) base' t d (omega arith) m.alike)) ∙ events d;
}

-- ---- the base itself

size-named : (known : List Bucket) (d e : Event) → IsNamed known (lone_event e) → (d.size ≡ 0) ⊎ (d ≡ lone_event e) → IsNamed known d
size-named known d e named is some = elim is [
  | inl none ↦ absurd (omega arith)
  | inr same ↦ subst (λ (x : Event). IsNamed known x) (sym same) named some
]

none-some : (e : Event) → None ≡ Some e → ⊥
none-some e h = cc

all-at : (P : Event → Type 0) (xs : List Event) (i : ℕ) (e : Event) → AllByRecursion P xs → slice_get xs i ≡ Some e → P e
all-at P [] i e all at = absurd (none-some e at)
all-at P (x ∷ xs) zero e all at = (let same : x ≡ e = some-inj x e at in subst P same all.0)
  where
    some-inj : (a b : Event) → Some a ≡ Some b → a ≡ b
    some-inj a b h = cc
all-at P (x ∷ xs) (suc i) e all at = all-at P xs i e all.1 at

all-lone : (known : List Bucket) (es : List Event) (i : ℕ) (e : Event) → AllByRecursion (IsNamed known) (lone_events es) → slice_get es i ≡ Some e → IsNamed known (lone_event e)
all-lone known [] i e all at = absurd (none-some e at)
all-lone known (x ∷ xs) zero e all at = (let same : x ≡ e = some-inj x e at in subst (λ (y : Event). IsNamed known (lone_event y)) same all.0)
  where
    some-inj : (a b : Event) → Some a ≡ Some b → a ≡ b
    some-inj a b h = cc
all-lone known (x ∷ xs) (suc i) e all at = all-lone known xs i e all.1 at

all-from : (P : Event → Type 0) (xs : List Event) → ((i : ℕ) (e : Event) → slice_get xs i ≡ Some e → P e) → AllByRecursion P xs
all-from P [] each = tt
all-from P (x ∷ xs) each = (each zero x refl, all-from P xs (λ i e at. each (suc i) e at))

-- the base so far has known buckets
base-named : (t u : Trace) (c : ℕ) (r : Rides) (run : Run) (n : ℕ) → HasRidden c n r run → KnowsBuckets r.growing.trace run.profile.known
base-named t u c r run n h =
    let g = h.grown.growing in
    let number = h.grown.number in
    let printed = h.printed in
    elim h.named [
      | inl all ↦ inl (all-from (IsNamed run.profile.known) (events_of r.growing.trace) (λ i d at. (
          let from = growing-event r.trace.now r.growing.trace c r.printed r.growing.parts.items i d h.limited g h.grown.parts (omega arith) at in
          size-named run.profile.known d from.0 (all-lone run.profile.known (events_of r.trace.now) i from.0 all from.1) from.2)))
      | inr none ↦ inr (ap (λ (x : Header). x.rate) g.header ∙ none.0, none.1)
    ]

-- the base may become itself
pub tiny-itself : (c n : ℕ) (r : Rides) (run : Run) → HasRidden c n r run → MayBecome c run.profile.known r.growing.trace r.growing.trace
tiny-itself c n r run h =
    let g = h.grown.growing in
    let limited = growing-limited r.trace.now r.growing.trace c r.growing.parts.items h.limited g in
    let last = growing-last r.trace.now r.growing.trace c r.growing.parts.items g in
    let least = some-cycle 0 (λ _. ⊥) r.growing.trace.cycles limited.cycles in
    record { limited = limited; alike = alike-refl c r.growing.trace; more = omega arith; named = base-named r.trace.now r.growing.trace c r run n h }

pub plain-itself : (c : ℕ) (t : Trace) (run : Run) → IsPlain c t run → MayBecome c run.profile.known t t
plain-itself c t run p = record { limited = p.limited; alike = alike-refl c t; more = p.cycle; named = p.named }

pub course-itself : (c n : ℕ) (course : Course) (run : Run) → IsOnCourse c n course run → MayBecome c run.profile.known (base_of course) (base_of course)
course-itself c n (Plain t) run on = plain-itself c t.now run on
course-itself c n (Tiny r) run on = tiny-itself c n r run on

pub ends-itself : (c n : ℕ) (course : Course) (run : Run) → IsOnCourse c n course run → MayEnd c run.profile.known (base_of course) (base_of course)
ends-itself c n course run on = record { may = course-itself c n course run on; events = λ d. refl }

-- ---- answers of the base

based-append : (part : ℕ → _) (n : ℕ) (xs ys : List Answer) → based_answers part n (xs ++ ys) ≡ based_answers part n xs ++ based_answers part (n + length xs) ys
based-append part n [] ys = ap (λ (k : ℕ). based_answers part k ys) (let e : n ≡ n + 0 = omega arith in e)
based-append part n (x ∷ xs) ys = ap (λ (l : List Answer). based_answer (part n) x ∷ l) (based-append part (n + 1) xs ys
    ∙ ap (λ (k : ℕ). based_answers part (n + 1) xs ++ based_answers part k ys) (let e : n + 1 + length xs ≡ n + length (x ∷ xs) = omega arith in e))

based-same : (f g : ℕ → _) (n : ℕ) (xs : List Answer) → ((i : ℕ) → n ≤ i → i < n + length xs → f i ≡ g i) → based_answers f n xs ≡ based_answers g n xs
based-same f g n [] same = refl
based-same f g n (x ∷ xs) same =
    ap (λ (p : _). based_answer p x ∷ based_answers f (n + 1) xs) (same n (omega arith) (omega arith))
    ∙ ap (λ (l : List Answer). based_answer (g n) x ∷ l) (based-same f g (n + 1) xs (λ i low high. same i (omega arith) (omega arith)))

-- with the answers of one cycle more
pub based-more : (t : Trace) (answers xs more : List Answer) → answers ≡ based_answers (part_at t xs) 0 xs
    → answers ++ based_answers (part_at t (xs ++ more)) (length xs) more ≡ based_answers (part_at t (xs ++ more)) 0 (xs ++ more)
based-more t answers xs more is =
    let old : answers ≡ based_answers (part_at t (xs ++ more)) 0 xs = is ∙ based-same (part_at t xs) (part_at t (xs ++ more)) 0 xs (λ i low high. sym (part-settled t xs more i (omega arith))) in
    let from : 0 + length xs ≡ length xs = omega arith in
    ap (λ (l : List Answer). l ++ based_answers (part_at t (xs ++ more)) (length xs) more) old
    ∙ ap (λ (n : ℕ). based_answers (part_at t (xs ++ more)) 0 xs ++ based_answers (part_at t (xs ++ more)) n more) (sym from) ∙ sym (based-append (part_at t (xs ++ more)) 0 xs more)

-- ---- as a run begins

-- the buckets of the leads are those that each tiny object would have with a block of its own
pub leads-known : (t leads : Trace) (known : List Bucket) → leads.header ≡ (as_version_2 t).header → events_of leads ≡ lone_events (events_of t) → KnowsBuckets leads known → KnowsLeads t known
leads-known t leads known header events named = elim named [
  | inl all ↦ inl (subst (λ (l : List Event). AllByRecursion (IsNamed known) l) events all)
  | inr none ↦ inr (sym (ap (λ (h : Header). h.rate) header) ∙ none.0, none.1)
]

-- a fresh course is that of its trace
pub fresh-trace : (t : Trace) (course : Course) → IsFresh t course → trace_of course ≡ t
fresh-trace t (Plain u) fresh = fresh.0
fresh-trace t (Tiny r) fresh = fresh.0

-- what has begun for each trace with a header has begun, whatever the base becomes
pub begun-all : (base with_header : Trace) (run : Run) → base.header ≡ with_header.header → ((t : Trace) → t.header ≡ with_header.header → KnowsBuckets t run.profile.known → HasBegun t 0 run) → HasBegunAll 0 base run
begun-all base with_header run same begun t m = begun t (sym m.alike.header ∙ same) m.named

-- a run of a fresh course is on it
pub starts-on : (t : Trace) (course : Course) (run : Run) → IsLimited t → trace_of course ≡ t → IsFresh t course → run.answers ≡ [] → (t.header.version < TINY_VERSION → KnowsBuckets t run.profile.known)
    → (TINY_VERSION ≤ t.header.version → KnowsLeads t run.profile.known) → IsOnCourse 0 0 course run
starts-on t (Plain u) run limited is fresh none plain tiny =
    let least = some-cycle 0 (λ _. ⊥) t.cycles limited.cycles in
    subst (λ (x : Trace). IsPlain 0 x run) (sym fresh.0) (record { version = fresh.1; limited = limited; cycle = omega arith; named = plain fresh.1 })
starts-on t (Tiny r) run limited is fresh none plain tiny =
    let same = fresh.0 in
    let printed = fresh.2 in
    record {
      version = subst (λ (x : Trace). TINY_VERSION ≤ x.header.version) (sym same) fresh.1;
      limited = subst (λ (x : Trace). IsLimited (as_version_2 x)) (sym same) (as-limited t limited);
      grown = subst (λ (x : Trace). HasGrown x r.printed 0 0 r.growing) (sym same) (subst (λ (l : List Answer). HasGrown t l 0 0 r.growing) (sym printed) fresh.3);
      printed = ap (λ (l : List Answer). length l) printed;
      riding = subst (λ (x : Trace). AreRiding x r.printed) (sym same) (subst (λ (l : List Answer). AreRiding t l) (sym printed) (λ i lead offset ride. absurd (no-rider t i lead offset ride)));
      based = none ∙ ap (λ (l : List Answer). based_answers (part_at r.trace.now l) 0 l) (sym printed);
      named = subst (λ (x : Trace). KnowsLeads x run.profile.known) (sym same) (tiny fresh.1);
    }
  where
    no-rider : (t : Trace) (i lead offset : ℕ) → part_at t [] i ≡ Ride lead offset → ⊥
    no-rider t i lead offset ride = (let none = part-past t [] i (omega arith) in let same : Other ≡ Ride lead offset = sym none ∙ ride in cc)
