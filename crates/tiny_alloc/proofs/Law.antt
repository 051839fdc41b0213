-- Tiny objects of a sound report lie in their leads' blocks, apart from one another.
use Rattle.std.proofs.Common.{◌≡◌, ◌≢◌, ℕ, zero, suc, ◌+◌, ◌<◌, ◌≤◌, Bool, true, false, ◌&&◌, ◌||◌, eqb, ltb, not, cond, lit≤, slice_index, List, Option, Some, None, refl, sym, ◌∙◌, ap, subst, arith, ◌⊎◌, inl, inr}
use Rattle.std.specs.List.{slice_get}
use Rattle.std.proofs.lemmas.Bool.{and_from, and_parts, ltb-true, eq-eqb, cases_order}
use Rattle.size_classes.specs.Table.{slot_sizes}
use Rattle.size_classes.specs.Classes.{IsLeastClass, slot_of}
use Rattle.page_alloc.specs.Lists.{In}
use Rattle.trace_reader.specs.declared.trace.Trace.{Trace}
use Rattle.cycle_history.specs.declared.Answer.{Answer}
use Rattle.cycle_history.specs.declared.Answer.TheVariants.{Placed}
use Rattle.cycle_history.specs.declared.Report.{Report}
use Rattle.cycle_history.specs.Needs.{Need, IsNeed}
use Rattle.cycle_history.specs.Requests.{Request, requests_from, marked_by}
use Rattle.cycle_history.specs.Objects.{Object, is_placed, live}
use Rattle.cycle_history.specs.Rules.{IsObject}
use Rattle.tiny_alloc.specs.declared.base.Based.{Based}
use Rattle.tiny_alloc.specs.declared.block.Seat.{Seat}
use Rattle.tiny_alloc.specs.declared.part.Part.{Part}
use Rattle.tiny_alloc.specs.declared.part.Part.TheVariants.{Other, Lead, Ride}
use Rattle.tiny_alloc.specs.Blocks.{seat_in}
use Rattle.tiny_alloc.specs.Riders.{Tried, tried, object_at, block_before, part_in, part_at}
use Rattle.tiny_alloc.specs.Base.{based_answer}
use Rattle.tiny_alloc.specs.Sound.{AreRiding, IsSoundTiny, Occupies, lead_of, LiesIn}
use Rattle.tiny_alloc.proofs.Leaders.{Stands, rider-block, rider-leader, one-block}
use Rattle.tiny_alloc.proofs.OfBase.{based_request, marks-at, object-at}

-- ---- an object of the trace by its request and its answer

pub object-is : (t : Trace) (answers : List Answer) (i : ℕ) (r : Request) (a : Answer) → slice_get (requests_from 0 t.cycles) i ≡ Some r → slice_get answers i ≡ Some a
    → object_at t answers i ≡ tried (Some r) (Some a)
object-is t answers i r a asked answered =
    ap (λ (x : Option Request). tried x (slice_get answers i)) asked ∙ ap (λ (x : Option Answer). tried (Some r) x) answered

-- the request of a tiny object
pub record IsAsked (t : Trace) (answers : List Answer) (i : ℕ) : Type 0 where
  pub request : Request
  pub asked : slice_get (requests_from 0 t.cycles) i ≡ Some request
  pub cycle : (object_at t answers i).cycle ≡ request.cycle

pub asked-is : (t : Trace) (answers : List Answer) (i : ℕ) → (object_at t answers i).tiny ≡ true → IsAsked t answers i
asked-is t answers i tiny = split (slice_get (requests_from 0 t.cycles) i) (slice_get answers i) refl refl tiny
  where
    split : (r : Option Request) (a : Option Answer) → slice_get (requests_from 0 t.cycles) i ≡ r → slice_get answers i ≡ a → (tried r a).tiny ≡ true → IsAsked t answers i
    split None a er ea h = cc
    split (Some r) None er ea h = cc
    split (Some r) (Some a) er ea h = record { request = r; asked = er; cycle = ap (λ (o : Tried). o.cycle) (object-is t answers i r a er ea) }

-- ---- the lead of a tiny object

-- a tiny object stands in the block of its lead, which begins at an address
pub record HasLead (t : Trace) (answers : List Answer) (i address size cycle : ℕ) : Type 0 where
  pub lead : ℕ
  pub offset : ℕ
  pub is : lead ≡ lead_of i (part_at t answers i)
  pub stands : Stands (object_at t answers) i lead offset
  pub length : (object_at t answers i).size ≡ size
  pub room : offset + size ≤ 16
  pub part : part_at t answers lead ≡ Lead
  pub request : Request
  pub asked : slice_get (requests_from 0 t.cycles) lead ≡ Some request
  pub own : request.cycle ≡ cycle
  pub start : ℕ
  pub answered : slice_get answers lead ≡ Some (Placed start)
  pub at : address ≡ start + offset

tiny-size : (t : Trace) (answers : List Answer) (c i address size : ℕ) → Occupies t answers c i address size → size ≤ 15
tiny-size t answers c i address size has =
    let a = and_parts (ltb 0 has.request.event.size) (ltb has.request.event.size 16 && not has.request.event.scan) has.tiny in
    let b = and_parts (ltb has.request.event.size 16) (not has.request.event.scan) a.1 in
    let lt : has.request.event.size < 16 = ltb-true has.request.event.size 16 b.0 in
    let e = has.bytes in
    omega arith

placed-same : (xs : List Answer) (i x y : ℕ) → slice_get xs i ≡ Some (Placed x) → slice_get xs i ≡ Some (Placed y) → x ≡ y
placed-same xs i x y a b =
    let e : Some (Placed x) ≡ Some (Placed y) = sym a ∙ b in
    cc

has-lead : (t : Trace) (answers : List Answer) (c i address size : ℕ) → AreRiding t answers → (has : Occupies t answers c i address size) → HasLead t answers i address size has.request.cycle
has-lead t answers c i address size riding has = split (part_at t answers i) refl
  where
    object : object_at t answers i ≡ tried (Some has.request) (Some (Placed address))
    object = object-is t answers i has.request (Placed address) has.asked has.answered

    tiny : (object_at t answers i).tiny ≡ true
    tiny = ap (λ (o : Tried). o.tiny) object ∙ has.tiny

    size-is : (object_at t answers i).size ≡ size
    size-is = ap (λ (o : Tried). o.size) object ∙ has.bytes

    never : (tiny : Bool) (seat : Option Seat) → tiny ≡ true → cond tiny (part_in seat) Other ≡ Other → ⊥
    never false seat e h = cc
    never true None e h = cc
    never true (Some seat) e h = cc

    not-other : part_at t answers i ≡ Other → ⊥
    not-other h = never (object_at t answers i).tiny (seat_in (block_before (object_at t answers) (object_at t answers i).proc (object_at t answers i).cycle i) (object_at t answers i).size) tiny h

    split : (part : Part) → part_at t answers i ≡ part → HasLead t answers i address size has.request.cycle
    split Other e = absurd (not-other e)
    split Lead e = (
        let small = tiny-size t answers c i address size has in
        record {
          lead = i;
          offset = 0;
          is = sym (ap (λ (part : Part). lead_of i part) e);
          stands = inr (e, refl, refl);
          length = size-is;
          room = omega arith;
          part = e;
          request = has.request;
          asked = has.asked;
          own = refl;
          start = address;
          answered = has.answered;
          at = omega arith;
        })
    split (Ride lead offset) e = (
        let at = riding i lead offset e in
        let known = rider-leader (object_at t answers) i lead offset e in
        let of = known.1 in
        let asked = asked-is t answers lead of.tiny in
        let cycle : asked.request.cycle ≡ has.request.cycle = sym asked.cycle ∙ of.cycle ∙ ap (λ (o : Tried). o.cycle) object in
        let fits = (rider-block (object_at t answers) i lead offset e).4 in
        let room : offset + size ≤ 16 = subst (λ (s : ℕ). offset + s ≤ 16) size-is fits in
        record {
          lead = lead;
          offset = offset;
          is = sym (ap (λ (part : Part). lead_of i part) e);
          stands = inl e;
          length = size-is;
          room = room;
          part = known.3;
          request = asked.request;
          asked = asked.asked;
          own = cycle;
          start = at.0;
          answered = at.1;
          at = placed-same answers i address (at.0 + offset) has.answered at.2;
        })

-- ---- the lead in the base

slot-16 : (class : ℕ) → IsLeastClass 16 class → slot_of class ≡ 16
unfolding slot_of
slot-16 class least =
    let le : class ≤ 2 = least.least 2 (lit≤ tt, lit≤ tt) (lit≤ tt) in
    let room = least.room in
    at class le room
  where
    at : (class : ℕ) → class ≤ 2 → 16 ≤ slice_index slot_sizes class → slice_index slot_sizes class ≡ 16
    at zero le room = absurd (omega arith)
    at (suc zero) le room = absurd (omega arith)
    at (suc (suc zero)) le room = refl
    at (suc (suc (suc k))) le room = absurd (omega arith)

need-16 : (scan : Bool) (need : Need) → IsNeed 16 scan need → need.slot ≡ 16
need-16 scan need fits =
    let small = fits.small (let e : 16 ≤ 32768 = omega arith in e) in
    small.2.slot ∙ slot-16 small.0 small.1

-- the object of a lead in the base, which lives where the lead or its rider does
in-base : (t : Trace) (report : Report) (based : Based) (objects : List Object) → IsSoundTiny t report based objects → (c i address size : ℕ)
    → (has : Occupies t report.answers c i address size) → (home : HasLead t report.answers i address size has.request.cycle)
    → (o : Object) × In o objects × (o.id ≡ home.lead) × (o.answer ≡ Placed home.start) × (o.need.slot ≡ 16) × (live (marked_by based.trace) c o ≡ true)
in-base t report based objects sound c i address size has home =
    let found = object-at (part_at t report.answers) t report based objects sound.base sound.sound.answers home.lead home.request (Placed home.start) home.asked home.answered in
    let o = found.0 in
    let answer : o.answer ≡ Placed home.start = found.3 ∙ ap (λ (x : Part). based_answer x (Placed home.start)) home.part in
    let is : IsObject (based_request Lead home.request) o.id o = subst (λ (x : Part). IsObject (based_request x home.request) o.id o) home.part found.4 in
    let need : IsNeed 16 home.request.event.scan o.need = is.need (let some : 1 ≤ 16 = omega arith in some) in
    (o, found.1, found.2, answer, need-16 home.request.event.scan o.need need, lives o found.2 answer (is.cycle ∙ home.own))
  where
    or-left : (x y : Bool) → x ≡ true → (x || y) ≡ true
    or-left x y e = rw e refl

    or-right : (x y : Bool) → y ≡ true → (x || y) ≡ true
    or-right true y e = refl
    or-right false y e = e

    lead-marked : (c : ℕ) → marked_by t c i ≡ true → marked_by based.trace c home.lead ≡ true
    lead-marked zero h = cc
    lead-marked (suc m) h =
        let iff = marks-at (part_at t report.answers) 0 t.cycles based.trace.cycles sound.base.cycles m home.lead in
        iff.1 (elim home.stands [
          | inl ride ↦ inr (i, home.offset, ride, h)
          | inr leads ↦ inl (ap (λ (k : ℕ). marked_by t (suc m) k) (sym leads.1) ∙ h)
        ])

    lives : (o : Object) → o.id ≡ home.lead → o.answer ≡ Placed home.start → o.cycle ≡ has.request.cycle → live (marked_by based.trace) c o ≡ true
    lives o id answer cycle =
        let placed : is_placed o.answer ≡ true = ap is_placed answer in
        let when : (eqb o.cycle c || marked_by based.trace c o.id) ≡ true = elim has.lives [
          | inl own ↦ or-left (eqb o.cycle c) (marked_by based.trace c o.id) (eq-eqb o.cycle c (cycle ∙ own))
          | inr marked ↦ or-right (eqb o.cycle c) (marked_by based.trace c o.id) (ap (λ (k : ℕ). marked_by based.trace c k) id ∙ lead-marked c marked)
        ] in
        and_from (is_placed o.answer) (eqb o.cycle c || marked_by based.trace c o.id) placed when

-- ---- the law

pub lies : (t : Trace) (report : Report) (based : Based) (objects : List Object) → IsSoundTiny t report based objects → (c i address size : ℕ)
    → Occupies t report.answers c i address size → (o : Object) × In o objects × (o.id ≡ lead_of i (part_at t report.answers i)) × LiesIn based c address size o
lies t report based objects sound c i address size has =
    let home = has-lead t report.answers c i address size sound.riding has in
    let o = in-base t report based objects sound c i address size has home in
    let at = home.at in
    let room = home.room in
    let slot = o.4 in
    (o.0, o.1, o.2 ∙ home.is, record { lives = o.5; start = home.start; placed = o.3; slot = slot; low = omega arith; high = omega arith })

pub apart : (t : Trace) (report : Report) (based : Based) (objects : List Object) → IsSoundTiny t report based objects → (c i j x y s u : ℕ) → i ≢ j
    → Occupies t report.answers c i x s → Occupies t report.answers c j y u → (x + s ≤ y) ⊎ (y + u ≤ x)
apart t report based objects sound c i j x y s u differ a b =
    let f = has-lead t report.answers c i x s sound.riding a in
    let g = has-lead t report.answers c j y u sound.riding b in
    let at-f = f.at in
    let at-g = g.at in
    elim (cases_order f.lead g.lead) [
      | inl same ↦ (
          let start : f.start ≡ g.start = placed-same report.answers f.lead f.start g.start f.answered (ap (λ (k : ℕ). slice_get report.answers k) same ∙ g.answered) in
          elim (cases_order i j) [
            | inl e ↦ absurd (differ e)
            | inr order ↦ elim order [
              | inl below ↦ (
                  let le = one-block (object_at t report.answers) i j g.lead f.offset g.offset below (subst (λ (k : ℕ). Stands (object_at t report.answers) i k f.offset) same f.stands) g.stands in
                  let size = f.length in
                  inl (omega arith))
              | inr above ↦ (
                  let le = one-block (object_at t report.answers) j i g.lead g.offset f.offset above g.stands (subst (λ (k : ℕ). Stands (object_at t report.answers) i k f.offset) same f.stands) in
                  let size = g.length in
                  inr (omega arith))
            ]
          ])
      | inr order ↦ blocks f g (λ e. elim order [ inl lt ↦ absurd (omega arith) | inr lt ↦ absurd (omega arith) ])
    ]
  where
    -- objects of two blocks
    blocks : (f : HasLead t report.answers i x s a.request.cycle) (g : HasLead t report.answers j y u b.request.cycle) → f.lead ≢ g.lead → (x + s ≤ y) ⊎ (y + u ≤ x)
    blocks f g other =
        let o = in-base t report based objects sound c i x s a f in
        let p = in-base t report based objects sound c j y u b g in
        let ids : o.0.id ≢ p.0.id = λ e. other (sym o.2 ∙ e ∙ p.2) in
        let away = sound.sound.apart c o.0 p.0 o.1 p.1 ids o.5 p.5 f.start g.start o.3 p.3 in
        let at-f = f.at in
        let at-g = g.at in
        let room-f = f.room in
        let room-g = g.room in
        let slot-o = o.4 in
        let slot-p = p.4 in
        elim away [ inl first ↦ inl (omega arith) | inr second ↦ inr (omega arith) ]
