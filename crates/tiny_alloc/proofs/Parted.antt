-- The parts of objects, found one after the other.
use Rattle.std.specs.Prelude.{IfSome}
use Rattle.std.proofs.Common.{◌≡◌, ◌≢◌, ℕ, zero, suc, ◌+◌, ◌^◌, ◌<◌, ◌≤◌, Bool, true, false, cond, List, [], ◌∷◌, ◌++◌, length, get_or, set, length-set, Option, Some, None, refl, sym, ◌∙◌, ap, subst, arith, inl, inr}
use Rattle.std.specs.List.{slice_get}
use Rattle.std.proofs.lemmas.Bool.{cases_Bool, cases_eq, cases_lt, cond-true, cond-false, eq-eqb}
use Rattle.std.proofs.lemmas.List.{get_or_past, get_or-set_same, get_or-set_other, length-append}
use Rattle.std.proofs.lemmas.Option.{slice_get_past, slice_get-get_or}
use Rattle.trace_reader.specs.declared.trace.Trace.{Trace}
use Rattle.trace_reader.specs.declared.trace.Cycle.{Cycle}
use Rattle.trace_reader.specs.declared.trace.Event.{Event}
use Rattle.cycle_history.specs.declared.Answer.{Answer}
use Rattle.cycle_history.specs.declared.Answer.TheVariants.{Zero}
use Rattle.cycle_history.specs.Requests.{Request, requests_from}
use Rattle.cycle_history.specs.Objects.{is_placed}
use Rattle.cycle_history.specs.Before.{objects_before}
use Rattle.tiny_alloc.specs.declared.block.Seat.{Seat}
use Rattle.tiny_alloc.specs.declared.part.Part.{Part}
use Rattle.tiny_alloc.specs.declared.part.Part.TheVariants.{Other}
use Rattle.tiny_alloc.specs.Blocks.{Block, seat_in}
use Rattle.tiny_alloc.specs.Riders.{Tried, tried, object_at, is_of, is_tiny, behind_object, block_before, part_in, part_of, part_at}
use Rattle.tiny_alloc.specs.Marks.{HaveLeads}
use Rattle.tiny_alloc.specs.Parts.{AreParts, AreAllParts, next_block, next_part, part_by, tried_of}
use Rattle.tiny_alloc.proofs.Leaders.{of-is, leader, rider-leader}
use Rattle.tiny_alloc.proofs.Requested.{earlier-cycle, request-of-cycle}
use Rattle.tiny_alloc.proofs.Law.{object-is, asked-is}

-- ---- a cycle's objects

-- object number k of cycle c
pub object-of-cycle : (t : Trace) (answers : List Answer) (c k n : ℕ) (d : Cycle) (e : Event) (a : Answer) → c < length t.cycles → k < length (get_or t.cycles c d).events → n ≡ objects_before t c + k
    → e ≡ get_or (get_or t.cycles c d).events k e → slice_get answers n ≡ Some a → object_at t answers n ≡ tried_of c e (is_placed a)
object-of-cycle t answers c k n d e a lt inside at is answered =
    let asked = request-of-cycle t c k d e lt inside in
    let asked' : slice_get (requests_from 0 t.cycles) n ≡ Some (record { cycle = c; event = e }) =
    ap (λ (i : ℕ). slice_get (requests_from 0 t.cycles) i) at ∙ asked ∙ ap (λ (x : Event). Some (record { cycle = c; event = x })) (sym is) in
    object-is t answers n (record { cycle = c; event = e }) a asked' answered

-- ---- the blocks as a cycle begins

-- no object of the processor and the cycle came
no-block : (object : ℕ → Tried) (p c n : ℕ) → ((i : ℕ) → i < n → is_of p c (object i) ≡ true → ⊥) → block_before object p c n ≡ None
no-block object p c zero none = refl
no-block object p c (suc n) none = elim (cases_Bool (is_of p c (object n))) [
  | inl on ↦ absurd (none n (omega arith) on)
  | inr off ↦ cond-false (is_of p c (object n)) (behind_object (seat_in (block_before object p c n) (object n).size) (block_before object p c n) n (object n)) (block_before object p c n) off
      ∙ no-block object p c n (λ i lt. none i (omega arith))
]

pub block-first : (t : Trace) (answers : List Answer) (p c : ℕ) → block_before (object_at t answers) p c (objects_before t c) ≡ None
block-first t answers p c = no-block (object_at t answers) p c (objects_before t c) (λ i lt on. (
    let of = of-is p c (object_at t answers i) on in
    let asked = asked-is t answers i of.tiny in
    let earlier = earlier-cycle t c i asked.request asked.asked lt in
    let cycle = asked.cycle in
    let own = of.cycle in
    absurd (omega arith)))

-- ---- one object more

-- the cycle doesn't matter behind an object
behind-any : (seat : Option Seat) (block : Option Block) (c n : ℕ) (e : Event) (placed : Bool) → behind_object seat block n (tried_of c e placed) ≡ behind_object seat block n (tried_of 0 e placed)
behind-any None block c n e placed = refl
behind-any (Some seat) block c n e placed = refl

-- the block of its processor
pub block-own : (object : ℕ → Tried) (c n : ℕ) (e : Event) (placed : Bool) (block : Option Block) → object n ≡ tried_of c e placed → block_before object e.proc c n ≡ block
    → block_before object e.proc c (suc n) ≡ next_block block n (tried_of 0 e placed)
block-own object c n e placed block is before = elim (cases_Bool (is_tiny e)) [
  | inl tiny ↦ (
      let of : is_of e.proc c (tried_of c e placed) ≡ true = rw (tiny, eq-eqb e.proc e.proc refl, eq-eqb c c refl) refl in
      rw (is, before) (cond-true (is_of e.proc c (tried_of c e placed)) (behind_object (seat_in block e.size) block n (tried_of c e placed)) block of
      ∙ behind-any (seat_in block e.size) block c n e placed ∙ sym (cond-true (is_tiny e) (behind_object (seat_in block e.size) block n (tried_of 0 e placed)) block tiny)))
  | inr other ↦ (
      let of : is_of e.proc c (tried_of c e placed) ≡ false = rw other refl in
      rw (is, before) (cond-false (is_of e.proc c (tried_of c e placed)) (behind_object (seat_in block e.size) block n (tried_of c e placed)) block of
      ∙ sym (cond-false (is_tiny e) (behind_object (seat_in block e.size) block n (tried_of 0 e placed)) block other)))
]

-- the block of another
pub block-other : (object : ℕ → Tried) (p c n : ℕ) → (object n).proc ≢ p → block_before object p c (suc n) ≡ block_before object p c n
block-other object p c n differ = elim (cases_Bool (is_of p c (object n))) [
  | inl on ↦ absurd (differ (of-is p c (object n) on).proc)
  | inr off ↦ cond-false (is_of p c (object n)) (behind_object (seat_in (block_before object p c n) (object n).size) (block_before object p c n) n (object n)) (block_before object p c n) off
]

pub part-next : (object : ℕ → Tried) (c n : ℕ) (e : Event) (placed : Bool) (block : Option Block) → object n ≡ tried_of c e placed → block_before object e.proc c n ≡ block
    → part_of object n ≡ next_part block (tried_of 0 e placed)
part-next object c n e placed block is before =
    ap (λ (o : Tried). cond o.tiny (part_in (seat_in (block_before object o.proc o.cycle n) o.size)) Other) is
    ∙ ap (λ (b : Option Block). cond (is_tiny e) (part_in (seat_in b e.size)) Other) before

-- ---- the parts and the blocks within a cycle

pub record Parted (t : Trace) (answers : List Answer) (c : ℕ) (blocks : List (Option Block)) (parts : List Part) : Type 0 where
  pub parts_are : AreParts t answers parts
  pub current : (p : ℕ) → p < length blocks → get_or blocks p None ≡ block_before (object_at t answers) p c (length parts)

pub parted-first : (t : Trace) (answers : List Answer) (c : ℕ) (blocks : List (Option Block)) (parts : List Part) → AreParts t answers parts → length parts ≡ objects_before t c
    → ((p : ℕ) → get_or blocks p None ≡ None) → Parted t answers c blocks parts
parted-first t answers c blocks parts are size none = record {
  parts_are = are;
  current = λ p lt. none p ∙ sym (ap (λ (n : ℕ). block_before (object_at t answers) p c n) size ∙ block-first t answers p c);
}

part-last : (parts : List Part) (part : Part) → get_or (parts ++ part ∷ []) (length parts) Other ≡ part
part-last [] part = refl
part-last (x ∷ parts) part = part-last parts part

part-before : (parts : List Part) (part : Part) (i : ℕ) → i < length parts → get_or (parts ++ part ∷ []) i Other ≡ get_or parts i Other
part-before [] part i lt = absurd (omega arith)
part-before (x ∷ parts) part zero lt = refl
part-before (x ∷ parts) part (suc i) lt = part-before parts part i (omega arith)

-- what is known of the next object: its number, its event among those of cycle c, whether it is placed, and its processor's block
pub record IsNext (t : Trace) (answers : List Answer) (c k n : ℕ) (events : List Event) (e : Event) (placed : Bool) (blocks : List (Option Block)) (parts : List Part) : Type 0 where
  pub cycle : c < length t.cycles
  pub those : (d : Cycle) → events ≡ (get_or t.cycles c d).events
  pub inside : k < length events
  pub event : e ≡ get_or events k e
  pub size : length parts ≡ objects_before t c + k
  pub number : n ≡ length parts
  pub answered : n < length answers
  pub placed_is : (d : Answer) → placed ≡ is_placed (get_or answers n d)
  pub proc : e.proc < length blocks

next-object : (t : Trace) (answers : List Answer) (c k n : ℕ) (events : List Event) (e : Event) (placed : Bool) (blocks : List (Option Block)) (parts : List Part)
    → IsNext t answers c k n events e placed blocks parts → object_at t answers n ≡ tried_of c e placed
next-object t answers c k n events e placed blocks parts is =
    let none : Cycle = record { events = []; mark = None } in
    let a = get_or answers n Zero in
    let those = is.those none in
    let inside = is.inside in
    let size = is.size in
    let number = is.number in
    let room : k < length (get_or t.cycles c none).events = (let same = ap (λ (es : List Event). length es) those in omega arith) in
    object-of-cycle t answers c k n none e a is.cycle room (omega arith) (is.event ∙ ap (λ (es : List Event). get_or es k e) those) (slice_get-get_or answers n Zero is.answered)
    ∙ ap (λ (b : Bool). tried_of c e b) (sym (is.placed_is Zero))

pub parted-more : (t : Trace) (answers : List Answer) (c k n : ℕ) (events : List Event) (e : Event) (placed : Bool) (blocks more : List (Option Block)) (parts new : List Part) (part : Part) (next : Option Block)
    → IsNext t answers c k n events e placed blocks parts → part ≡ next_part (get_or blocks e.proc None) (tried_of 0 e placed) → next ≡ next_block (get_or blocks e.proc None) n (tried_of 0 e placed)
    → more ≡ set blocks e.proc next → new ≡ parts ++ part ∷ [] → Parted t answers c blocks parts → Parted t answers c more new
parted-more t answers c k n events e placed blocks more parts new part next is part-is next-is set-is new-is old =
    let object : object_at t answers n ≡ tried_of c e placed = next-object t answers c k n events e placed blocks parts is in
    let at = is.number in
    let own = get_or blocks e.proc None in
    let before : block_before (object_at t answers) e.proc c n ≡ own = ap (λ (m : ℕ). block_before (object_at t answers) e.proc c m) at ∙ sym (old.current e.proc is.proc) in
    let long : length new ≡ suc n = ap (λ (xs : List Part). length xs) new-is ∙ length-append parts (part ∷ []) ∙ omega arith in
    record {
      parts_are = λ i less. ap (λ (xs : List Part). get_or xs i Other) new-is ∙ elim (cases_lt i (length parts)) [
        | inl below ↦ part-before parts part i below ∙ old.parts_are i below
        | inr top ↦ (
            let e' : i ≡ length parts = omega arith in
            let e'' : n ≡ i = omega arith in
            ap (λ (j : ℕ). get_or (parts ++ part ∷ []) j Other) e' ∙ part-last parts part ∙ part-is
            ∙ sym (part-next (object_at t answers) c n e placed own object before) ∙ ap (λ (j : ℕ). part_at t answers j) e'')
      ];
      current = λ p less. ap (λ (xs : List (Option Block)). get_or xs p None) set-is ∙ elim (cases_eq p e.proc) [
        | inl same ↦ subst (λ (q : ℕ). get_or (set blocks e.proc next) q None ≡ block_before (object_at t answers) q c (suc n)) (sym same)
            (get_or-set_same blocks e.proc next None is.proc ∙ next-is ∙ sym (block-own (object_at t answers) c n e placed own object before))
        | inr other ↦ (
            let differ : (object_at t answers n).proc ≢ p = λ h. other (sym h ∙ ap (λ (o : Tried). o.proc) object) in
            get_or-set_other blocks e.proc p next None other ∙ old.current p (let keeps = size-set in omega arith) ∙ ap (λ (m : ℕ). block_before (object_at t answers) p c m) (sym at)
            ∙ sym (block-other (object_at t answers) p c n differ))
      ] ∙ ap (λ (m : ℕ). block_before (object_at t answers) p c m) (sym long);
    }
  where
    size-set : length more ≡ length blocks
    size-set = ap (λ (xs : List (Option Block)). length xs) set-is ∙ length-set blocks e.proc next

-- where a current block begins
pub start-few : (t : Trace) (answers : List Answer) (p c n : ℕ) (block : Option Block) → n ≤ 1000000 → block ≡ block_before (object_at t answers) p c n → IfSome block (λ b. b.start < 2 ^ 32)
start-few t answers p c n None few is = tt
start-few t answers p c n (Some b) few is = let known = (leader (object_at t answers) p c n b (sym is)).before in omega arith

-- ---- all parts

none-part : (o : Tried) (block : Option Block) → o.tiny ≡ false → cond o.tiny (part_in (seat_in block o.size)) Other ≡ Other
none-part o block off = cond-false o.tiny (part_in (seat_in block o.size)) Other off

pub never-tiny : (r : Option Request) (a : Option Answer) → a ≡ None → (tried r a).tiny ≡ false
never-tiny None a e = refl
never-tiny (Some r) None e = refl
never-tiny (Some r) (Some a) e = absurd cc

-- what has no answer is no tiny object
pub part-past : (t : Trace) (answers : List Answer) (i : ℕ) → length answers ≤ i → part_at t answers i ≡ Other
part-past t answers i past =
    let gone : slice_get answers i ≡ None = slice_get_past answers i past in
    let off : (object_at t answers i).tiny ≡ false = never-tiny (slice_get (requests_from 0 t.cycles) i) (slice_get answers i) gone in
    none-part (object_at t answers i) (block_before (object_at t answers) (object_at t answers i).proc (object_at t answers i).cycle i) off

pub parts-all : (t : Trace) (answers : List Answer) (parts : List Part) → AreParts t answers parts → length parts ≡ length answers → AreAllParts t answers parts
parts-all t answers parts are size i = elim (cases_lt i (length parts)) [
  | inl lt ↦ are i lt
  | inr past ↦ get_or_past parts i Other past ∙ sym (part-past t answers i (omega arith))
]

-- each lead has a number below a million
pub leads-few : (t : Trace) (answers : List Answer) (parts : List Part) → AreAllParts t answers parts → length parts ≤ 1000000 → HaveLeads (part_by parts)
leads-few t answers parts are few r lead offset is =
    let ride = sym (are r) ∙ is in
    let lt = (rider-leader (object_at t answers) r lead offset ride).0 in
    let inside : r < length parts = elim (cases_lt r (length parts)) [
      | inl less ↦ less
      | inr past ↦ (let none = get_or_past parts r Other past in absurd cc)
    ] in
    omega arith
