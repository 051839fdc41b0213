-- Objects that answer the same requests alike, and those of a cycle more.
use Rattle.std.proofs.Common.{◌≡◌, ℕ, suc, ◌+◌, ◌*◌, ◌<◌, ◌≤◌, Bool, ◌&&◌, not, eqb, List, [], ◌∷◌, ◌++◌, map, reverse, take, length, get_or, refl, sym, ◌∙◌, ap, subst, arith, inl, inr}
use Rattle.std.proofs.Math.Dec.{ltb}
use Rattle.std.proofs.lemmas.Bool.{cases_lt, le-ltb, and_right}
use Rattle.std.proofs.lemmas.List.{length-append, length-map, length-reverse, length-take-le, map-append, reverse-append, take_more}
use Rattle.size_classes.specs.Classes.{slot_of}
use Rattle.page_alloc.specs.Lists.{In, count, one_if}
use Rattle.trace_reader.specs.declared.trace.Trace.{Trace}
use Rattle.trace_reader.specs.declared.trace.Cycle.{Cycle}
use Rattle.trace_reader.specs.declared.trace.Event.{Event}
use Rattle.profile_cycle.specs.declared.buckets.Bucket.{Bucket}
use Rattle.cycle_history.specs.declared.Answer.{Answer}
use Rattle.cycle_history.specs.declared.Answer.TheVariants.{Zero}
use Rattle.cycle_history.specs.Before.{AreObjectsBefore, requests_before}
use Rattle.cycle_history.specs.Needs.{Need, IsNeed}
use Rattle.cycle_history.specs.Objects.{Object, is_placed}
use Rattle.cycle_history.specs.Profile.{Samples, allocs_at, frees_at, is_sample}
use Rattle.cycle_history.specs.Requests.{Marking, Request, requests_from}
use Rattle.cycle_history.specs.Rules.{AreAnswered, IsObject}
use Rattle.cycle_history.proofs.Cycles.{requests-one}
use Rattle.cycle_history.proofs.OnePlace.{least-one}
use Rattle.cycle_history.proofs.Plain.{request_in, same_length}
use Rattle.run_laws.proofs.Profile.{count-old}
use Rattle.profile_lines.specs.Told.{count_at}
use Rattle.heap_run.proofs.Reaching.{map-reverse}

-- ---- the same requests

-- a size has slots of one size
slot-one : (size : ℕ) (scan : Bool) (a b : Need) → IsNeed size scan a → IsNeed size scan b → a.slot ≡ b.slot
slot-one size scan a b na nb = elim (cases_lt 32768 size) [
  | inl large ↦ (
      let la = na.large large in
      let lb = nb.large large in
      la.slot ∙ ap (λ (p : ℕ). 8192 * p) (la.pages ∙ sym lb.pages) ∙ sym lb.slot)
  | inr small ↦ (
      let sa = na.small small in
      let sb = nb.small small in
      sa.2.slot ∙ ap slot_of (least-one size sa.0 sb.0 sa.1 sb.1) ∙ sym sb.2.slot)
]

-- an object of this number with slots of this size has the bucket
abbrev of_bucket : Samples → Bucket → ℕ → ℕ → Bool
of_bucket s b i k = eqb (s.stack i) b.stack && eqb k b.slot

same-sample : (s : Samples) (b : Bucket) (r : Request) (n : ℕ) (o p : Object) → IsObject r n o → IsObject r n p → o.answer ≡ p.answer → is_sample s b o ≡ is_sample s b p
same-sample s b r n o p io ip answer = elim (cases_lt 0 r.event.size) [
  | inl some ↦ (
      let slot : o.need.slot ≡ p.need.slot = slot-one r.event.size r.event.scan o.need p.need (io.need (omega arith)) (ip.need (omega arith)) in
      ap (λ (a : Answer). is_placed a && (s.sampled o.id && (of_bucket s b o.id o.need.slot))) answer
      ∙ ap (λ (i : ℕ). is_placed p.answer && (s.sampled i && (of_bucket s b i o.need.slot))) (io.id ∙ sym ip.id)
      ∙ ap (λ (k : ℕ). is_placed p.answer && (s.sampled p.id && (of_bucket s b p.id k))) slot)
  | inr none ↦ (
      let zero : o.answer ≡ Zero = io.zero.1 (omega arith) in
      let zero' : p.answer ≡ Zero = ip.zero.1 (omega arith) in
      ap (λ (a : Answer). is_placed a && (s.sampled o.id && (of_bucket s b o.id o.need.slot))) zero
      ∙ sym (ap (λ (a : Answer). is_placed a && (s.sampled p.id && (of_bucket s b p.id p.need.slot))) zero'))
]

-- samples are counted by their cycles and numbers alone
same-count : (s : Samples) (b : Bucket) (test : ℕ → ℕ → Bool) (requests : List Request) (os ps : List Object) → AreAnswered requests os → AreAnswered requests ps
    → map (λ (o : Object). o.answer) os ≡ map (λ (o : Object). o.answer) ps → count (λ (o : Object). is_sample s b o && test o.cycle o.id) os ≡ count (λ (o : Object). is_sample s b o && test o.cycle o.id) ps
same-count s b test [] [] [] x y e = refl
same-count s b test [] [] (p ∷ ps) x y e = absurd y
same-count s b test [] (o ∷ os) ps x y e = absurd x
same-count s b test (r ∷ requests) [] ps x y e = absurd x
same-count s b test (r ∷ requests) (o ∷ os) [] x y e = absurd y
same-count s b test (r ∷ requests) (o ∷ os) (p ∷ ps) x y e =
    let f : o.answer ∷ map (λ (q : Object). q.answer) os ≡ p.answer ∷ map (λ (q : Object). q.answer) ps = e in
    let head : o.answer ≡ p.answer = cc in
    let tail : map (λ (q : Object). q.answer) os ≡ map (λ (q : Object). q.answer) ps = cc in
    let rest = same-count s b test requests os ps x.1 y.1 tail in
    let one = same-sample s b r (length requests) o p x.0 y.0 head in
    let here : one_if (is_sample s b o && test o.cycle o.id) ≡ one_if (is_sample s b p && test p.cycle p.id) =
    ap (λ (v : Bool). one_if (v && test o.cycle o.id)) one
    ∙ ap (λ (k : ℕ). one_if (is_sample s b p && test k o.id)) (x.0.cycle ∙ sym y.0.cycle)
    ∙ ap (λ (i : ℕ). one_if (is_sample s b p && test p.cycle i)) (x.0.id ∙ sym y.0.id) in
    omega arith

-- what is published of objects is the same for all that have the same requests and answers
pub same-published : (t : Trace) (n : ℕ) (marked : Marking) (s : Samples) (answers : List Answer) (os ps : List Object) (m : ℕ) (b : Bucket) → AreObjectsBefore t n answers os → AreObjectsBefore t n answers ps
    → count_at marked s os m b ≡ count_at marked s ps m b
same-published t n marked s answers os ps m b ao ap' =
    let printed = ao.printed ∙ sym ap'.printed in
    let a = same-count s b (λ k i. ltb k m) (requests_before t n) os ps ao.asked ap'.asked printed in
    let f = same-count s b (λ k i. ltb k m && not (marked m i)) (requests_before t n) os ps ao.asked ap'.asked printed in
    λ i. record { allocs = a i; frees = f i }

-- ---- one cycle more

-- behind parts of one length
tails : {X : Type 0} (xs ys us vs : List X) → length xs ≡ length us → xs ++ ys ≡ us ++ vs → ys ≡ vs
tails [] ys [] vs l e = e
tails [] ys (c ∷ us) vs l e = absurd (omega (arith, l))
tails (a ∷ xs) ys [] vs l e = absurd (omega (arith, l))
tails (a ∷ xs) ys (c ∷ us) vs l e = tails xs ys us vs (omega (arith, l)) (let f : a ∷ (xs ++ ys) ≡ c ∷ (us ++ vs) = e in cc)

-- Objects of a cycle's requests, and those of the requests before.
pub record Parted (c : ℕ) (requests : List Request) (objects : List Object) : Type 0 where
  pub news : List Object
  pub olds : List Object
  pub whole : objects ≡ news ++ olds
  pub asked : AreAnswered requests olds
  pub cycles : (o : Object) → In o news → o.cycle ≡ c

part-objects : (c : ℕ) (xs ys : List Request) (objects : List Object) → ((r : Request) → In r xs → r.cycle ≡ c) → AreAnswered (xs ++ ys) objects → Parted c ys objects
part-objects c [] ys objects of are = record { news = []; olds = objects; whole = refl; asked = are; cycles = λ o h. absurd h }
part-objects c (x ∷ xs) ys [] of are = absurd are
part-objects c (x ∷ xs) ys (o ∷ objects) of are =
    let rest = part-objects c xs ys objects (λ r h. of r (inr h)) are.1 in
    record {
      news = o ∷ rest.news;
      olds = rest.olds;
      whole = ap (λ (l : List Object). o ∷ l) rest.whole;
      asked = rest.asked;
      cycles = λ p h. elim h [ inl here ↦ ap (λ (q : Object). q.cycle) (sym here) ∙ are.0.cycle ∙ of x (inl refl) | inr there ↦ rest.cycles p there ];
    }

in-cycle : (c : ℕ) (events : List Event) (r : Request) → In r (map (request_in c) events) → r.cycle ≡ c
in-cycle c [] r i = absurd i
in-cycle c (x ∷ events) r i = elim i [ inl here ↦ ap (λ (q : Request). q.cycle) (sym here) | inr there ↦ in-cycle c events r there ]

requests-next : (t : Trace) (c : ℕ) (d : Cycle) → c < length t.cycles → requests_before t (suc c) ≡ map (request_in c) (reverse (get_or t.cycles c d).events) ++ requests_before t c
requests-next t c d lt =
    let done = take c t.cycles in
    let events = (get_or t.cycles c d).events in
    let few : length done ≡ c = length-take-le c t.cycles (omega arith) in
    let n : c + 1 ≡ suc c = omega arith in
    let next : take (suc c) t.cycles ≡ done ++ get_or t.cycles c d ∷ [] = ap (λ (k : ℕ). take k t.cycles) (sym n) ∙ take_more t.cycles c d lt in
    ap (λ (l : List Cycle). reverse (requests_from 0 l)) next
    ∙ ap (λ (l : List Request). reverse l) (requests-one done (get_or t.cycles c d) ∙ ap (λ (k : ℕ). requests_from 0 done ++ map (request_in k) events) few)
    ∙ reverse-append (requests_from 0 done) (map (request_in c) events)
    ∙ ap (λ (l : List Request). l ++ reverse (requests_from 0 done)) (sym (map-reverse (request_in c) events))

-- the objects of the cycles before are those of fewer answers
pub objects-less : (t : Trace) (c : ℕ) (d : Cycle) (answers more : List Answer) (objects : List Object) → c < length t.cycles → length answers ≡ length (requests_before t c) → AreObjectsBefore t (suc c) (answers ++ more) objects
    → (p : Parted c (requests_before t c) objects) × AreObjectsBefore t c answers p.olds
objects-less t c d answers more objects lt long asked =
    let news = map (request_in c) (reverse (get_or t.cycles c d).events) in
    let p = part-objects c news (requests_before t c) objects (in-cycle c (reverse (get_or t.cycles c d).events)) (subst (λ (l : List Request). AreAnswered l objects) (requests-next t c d lt) asked.asked) in
    let f : Object → Answer = λ o. o.answer in
    let both : map f p.news ++ map f p.olds ≡ reverse more ++ reverse answers =
    sym (map-append f p.news p.olds) ∙ ap (λ (l : List Object). map f l) (sym p.whole) ∙ asked.printed ∙ reverse-append answers more in
    let sizes = ap (λ (l : List Answer). length l) both in
    let left = length-append (map f p.news) (map f p.olds) in
    let right = length-append (reverse more) (reverse answers) in
    let olds = length-map p.olds f in
    let back = length-reverse answers in
    let as_many = same_length (requests_before t c) p.olds p.asked in
    let same : length (map f p.news) ≡ length (reverse more) = omega arith in
    (p, record { asked = p.asked; printed = tails (map f p.news) (map f p.olds) (reverse more) (reverse answers) same both })

allocs-stay : (s : Samples) (news objects : List Object) (j : ℕ) (b : Bucket) → ((o : Object) → In o news → j ≤ o.cycle) → allocs_at s (news ++ objects) j b ≡ allocs_at s objects j b
allocs-stay s news objects j b later = count-old (λ o. is_sample s b o && ltb o.cycle j) news objects (λ o h. and_right (is_sample s b o) (ltb o.cycle j) (le-ltb o.cycle j (later o h)))

frees-stay : (marked : Marking) (s : Samples) (news objects : List Object) (j : ℕ) (b : Bucket) → ((o : Object) → In o news → j ≤ o.cycle)
    → frees_at marked s (news ++ objects) j b ≡ frees_at marked s objects j b
frees-stay marked s news objects j b later = count-old (λ o. is_sample s b o && (ltb o.cycle j && not (marked j o.id))) news objects
    (λ o h. and_right (is_sample s b o) (ltb o.cycle j && not (marked j o.id)) (let off = le-ltb o.cycle j (later o h) in rw off refl))

-- what is published as of an earlier mark end stays
pub published-stays : (marked : Marking) (s : Samples) (news objects : List Object) (j : ℕ) (b : Bucket) → ((o : Object) → In o news → j ≤ o.cycle) → count_at marked s objects j b ≡ count_at marked s (news ++ objects) j b
published-stays marked s news objects j b later =
    let a = sym (allocs-stay s news objects j b later) in
    let f = sym (frees-stay marked s news objects j b later) in
    λ i. record { allocs = a i; frees = f i }
