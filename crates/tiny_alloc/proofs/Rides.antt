-- A run knows blocks by their addresses, and the rule by their first objects' numbers: both give objects the same parts.
use Rattle.std.proofs.Common.{◌≡◌, ◌≢◌, ℕ, zero, suc, ◌+◌, ◌<◌, ◌≤◌, Bool, true, false, cond, leb, ltb, eqb, List, [], ◌∷◌, ◌++◌, length, reverse, get_or, Option, Some, None, refl, sym, ◌∙◌, ap, subst, arith, inl, inr, length-append}
use Rattle.std.specs.List.{slice_get}
use Rattle.std.proofs.lemmas.Bool.{cases_Bool, cases_lt, cond-true, cond-false, eq-eqb, eqb-true}
use Rattle.std.proofs.lemmas.List.{append_assoc, append-nil, length-reverse, reverse-append, reverse-reverse}
use Rattle.std.proofs.lemmas.Option.{get_or_from_slice_get, slice_get_within}
use Rattle.trace_reader.specs.declared.trace.Trace.{Trace}
use Rattle.trace_reader.specs.declared.trace.Cycle.{Cycle}
use Rattle.trace_reader.specs.declared.trace.Event.{Event}
use Rattle.cycle_history.specs.declared.Answer.{Answer}
use Rattle.cycle_history.specs.declared.Answer.TheVariants.{Placed, Zero, Missed}
use Rattle.cycle_history.specs.Objects.{is_placed}
use Rattle.cycle_history.specs.Requests.{requests_from}
use Rattle.cycle_history.specs.Before.{objects_before}
use Rattle.cycle_history.proofs.Found.{get-front}
use Rattle.tiny_alloc.specs.declared.block.Seat.{Seat}
use Rattle.tiny_alloc.specs.declared.part.Part.{Part}
use Rattle.tiny_alloc.specs.declared.part.Part.TheVariants.{Other, Ride}
use Rattle.tiny_alloc.specs.Blocks.{Block, behind_lead, fits, raised, seat_in}
use Rattle.tiny_alloc.specs.Riders.{Tried, tried, is_of, is_tiny, object_at, behind_object, block_before, part_in, part_of, part_at}
use Rattle.tiny_alloc.specs.Base.{based_answer, based_answers, based_event, based_events}
use Rattle.tiny_alloc.specs.Parts.{next_block, next_part, tried_of}
use Rattle.tiny_alloc.specs.Sound.{AreRiding}
use Rattle.tiny_alloc.specs.Rides.{StandRiders, block_of, by_proc, part_behind, ridden_answers, ridden_events, start_in, tried_by}
use Rattle.tiny_alloc.proofs.Listed.{answers-more, events-more}
use Rattle.tiny_alloc.proofs.Parted.{block-first, block-other, block-own, object-of-cycle, part-next, part-past}
use Rattle.tiny_alloc.proofs.Leaders.{rider-leader}

-- ---- one block by a number and by an address

-- what is known by the number of a first object is the same as what is known by its address
abbrev IsSame : (ℕ → Option Answer) → Option Block → Option Block → Type 0
IsSame given None None = Unit {0}
IsSame given None (Some d) = ⊥
IsSame given (Some b) None = ⊥
IsSame given (Some b) (Some d) = (b.offset ≡ d.offset) × (given b.start ≡ Some (Placed d.start))

abbrev SameSeat : (ℕ → Option Answer) → Option Seat → Option Seat → Type 0
SameSeat given None None = Unit {0}
SameSeat given None (Some u) = ⊥
SameSeat given (Some s) None = ⊥
SameSeat given (Some s) (Some u) = (s.offset ≡ u.offset) × (given s.start ≡ Some (Placed u.start))

abbrev seat_at : ℕ → ℕ → Seat
seat_at start offset = record { start = start; offset = offset }

seat-cond : (given : ℕ → Option Answer) (fit : Bool) (x y o u : ℕ) → o ≡ u → given x ≡ Some (Placed y) → SameSeat given (cond fit (Some (seat_at x o)) None) (cond fit (Some (seat_at y u)) None)
seat-cond given false x y o u e at = tt
seat-cond given true x y o u e at = (e, at)

seat-same : (given : ℕ → Option Answer) (x y : Option Block) (size : ℕ) → IsSame given x y → SameSeat given (seat_in x size) (seat_in y size)
seat-same given None None size same = tt
seat-same given None (Some d) size same = absurd same
seat-same given (Some b) None size same = absurd same
seat-same given (Some b) (Some d) size same =
    let e = same.0 in
    let fit : fits b size ≡ fits d size = ap (λ (o : ℕ). leb (raised o size + size) 16) e in
    let offset : raised b.offset size ≡ raised d.offset size = ap (λ (o : ℕ). raised o size) e in
    subst (λ (f : Bool). SameSeat given (seat_in (Some b) size) (cond f (Some (seat_at d.start (raised d.offset size))) None)) fit
    (seat-cond given (fits b size) b.start d.start (raised b.offset size) (raised d.offset size) offset same.1)

-- ---- one object more

less-same : (given : ℕ → Option Answer) (less : Bool) (n address size : ℕ) (b d : Block) → given n ≡ Some (Placed address) → IsSame given (Some b) (Some d)
    → IsSame given (cond less (Some (record { start = n; offset = size })) (Some b)) (cond less (Some (record { start = address; offset = size })) (Some d))
less-same given true n address size b d at same = (refl, at)
less-same given false n address size b d at same = same

lead-same : (given : ℕ → Option Answer) (n address size : ℕ) (x y : Option Block) → given n ≡ Some (Placed address) → IsSame given x y
    → IsSame given (behind_lead x n size) (behind_lead y address size)
lead-same given n address size None None at same = (refl, at)
lead-same given n address size None (Some d) at same = absurd same
lead-same given n address size (Some b) None at same = absurd same
lead-same given n address size (Some b) (Some d) at same =
    let less : ltb size b.offset ≡ ltb size d.offset = ap (λ (o : ℕ). ltb size o) same.0 in
    subst (λ (f : Bool). IsSame given (behind_lead (Some b) n size) (cond f (Some (record { start = address; offset = size })) (Some d))) less
    (less-same given (ltb size b.offset) n address size b d at same)

new-same : (given : ℕ → Option Answer) (n : ℕ) (e : Event) (a : Answer) (x y : Option Block) → given n ≡ Some a → IsSame given x y
    → IsSame given (cond (is_placed a) (behind_lead x n e.size) x) (cond (is_placed a) (behind_lead y (start_in a) e.size) y)
new-same given n e (Placed address) x y at same = lead-same given n address e.size x y at same
new-same given n e Zero x y at same = same
new-same given n e (Missed line) x y at same = same

behind-same : (given : ℕ → Option Answer) (n : ℕ) (e : Event) (a : Answer) (s u : Option Seat) (x y : Option Block) → given n ≡ Some a → IsSame given x y → SameSeat given s u
    → IsSame given (behind_object s x n (tried_by e a)) (behind_object u y (start_in a) (tried_by e a))
behind-same given n e a None None x y at same seats = new-same given n e a x y at same
behind-same given n e a None (Some u) x y at same seats = absurd seats
behind-same given n e a (Some s) None x y at same seats = absurd seats
behind-same given n e a (Some s) (Some u) x y at same seats = (ap (λ (o : ℕ). o + e.size) seats.0, seats.1)

if-same : (given : ℕ → Option Answer) (tiny : Bool) (x y z w : Option Block) → IsSame given x y → IsSame given z w → IsSame given (cond tiny x z) (cond tiny y w)
if-same given true x y z w a b = a
if-same given false x y z w a b = b

next-same : (given : ℕ → Option Answer) (n : ℕ) (e : Event) (a : Answer) (x y : Option Block) → given n ≡ Some a → IsSame given x y
    → IsSame given (next_block x n (tried_by e a)) (next_block y (start_in a) (tried_by e a))
next-same given n e a x y at same =
    if-same given (is_tiny e) (behind_object (seat_in x e.size) x n (tried_by e a)) (behind_object (seat_in y e.size) y (start_in a) (tried_by e a)) x y
    (behind-same given n e a (seat_in x e.size) (seat_in y e.size) x y at same (seat-same given x y e.size same)) same

-- ---- parts

-- a part by a number does what a part by an address does
record AreLike (given : ℕ → Option Answer) (p q : Part) : Type 0 where
  events : (e : Event) → based_event p e ≡ based_event q e
  answers : (a : Answer) → based_answer p a ≡ based_answer q a
  rides : (lead offset : ℕ) → p ≡ Ride lead offset → (start : ℕ) × (q ≡ Ride start offset) × (given lead ≡ Some (Placed start))

part-like : (given : ℕ → Option Answer) (tiny : Bool) (s u : Option Seat) → SameSeat given s u → AreLike given (cond tiny (part_in s) Other) (cond tiny (part_in u) Other)
part-like given false s u same = record { events = λ e. refl; answers = λ a. refl; rides = λ lead offset h. absurd cc }
part-like given true None None same = record { events = λ e. refl; answers = λ a. refl; rides = λ lead offset h. absurd cc }
part-like given true None (Some u) same = absurd same
part-like given true (Some s) None same = absurd same
part-like given true (Some s) (Some u) same = record {
  events = λ e. refl;
  answers = λ a. refl;
  rides = λ lead offset h. (
      let start : s.start ≡ lead = cc in
      let off : s.offset ≡ offset = cc in
      (u.start, ap (λ (o : ℕ). Ride u.start o) (sym same.0 ∙ off), ap given (sym start) ∙ same.1));
}

-- ---- the events of a cycle so far

-- these events, the newest first, with these answers are the objects of cycle c from number `first` on
abbrev AreOf : (ℕ → Tried) → (ℕ → Option Answer) → ℕ → ℕ → List Event → List Answer → Type 0
AreOf object given c first [] [] = Unit {0}
AreOf object given c first [] (a ∷ answers) = ⊥
AreOf object given c first (e ∷ es) [] = ⊥
AreOf object given c first (e ∷ es) (a ∷ answers)
    = (object (first + length es) ≡ tried_of c e (is_placed a)) × (given (first + length es) ≡ Some a) × AreOf object given c first es answers

of-length : (object : ℕ → Tried) (given : ℕ → Option Answer) (c first : ℕ) (es : List Event) (answers : List Answer) → AreOf object given c first es answers → length answers ≡ length es
of-length object given c first [] [] are = refl
of-length object given c first [] (a ∷ answers) are = absurd are
of-length object given c first (e ∷ es) [] are = absurd are
of-length object given c first (e ∷ es) (a ∷ answers) are = ap suc (of-length object given c first es answers are.2)

same-by : (given : ℕ → Option Answer) (x y z w : Option Block) → z ≡ x → w ≡ y → IsSame given x y → IsSame given z w
same-by given x y z w a b same = subst (λ (k : Option Block). IsSame given k w) (sym a) (subst (λ (k : Option Block). IsSame given x k) (sym b) same)

blocks-same : (object : ℕ → Tried) (given : ℕ → Option Answer) (c first p : ℕ) (es : List Event) (answers : List Answer) → block_before object p c first ≡ None → AreOf object given c first es answers
    → IsSame given (block_before object p c (first + length es)) (block_of (λ (x : Event). eqb x.proc p) es answers)
blocks-same object given c first p [] [] none are =
    let at : first + 0 ≡ first = omega arith in
    same-by given None None (block_before object p c (first + 0)) None (ap (λ (n : ℕ). block_before object p c n) at ∙ none) refl tt
blocks-same object given c first p [] (a ∷ answers) none are = absurd are
blocks-same object given c first p (e ∷ es) [] none are = absurd are
blocks-same object given c first p (e ∷ es) (a ∷ answers) none are =
    let mine : Event → Bool = λ (x : Event). eqb x.proc p in
    let n = first + length es in
    let old = block_before object p c n in
    let before = block_of (λ (x : Event). eqb x.proc p) es answers in
    let rest = blocks-same object given c first p es answers none are.2 in
    let at : first + suc (length es) ≡ suc n = omega arith in
    let to = ap (λ (k : ℕ). block_before object p c k) at in
    elim (cases_Bool (eqb e.proc p)) [
      | inl own ↦ (
          let by = block-own object c n e (is_placed a) (block_before object e.proc c n) are.0 refl in
          let by-p : block_before object p c (suc n) ≡ next_block old n (tried_by e a) =
          subst (λ (q : ℕ). block_before object q c (suc n) ≡ next_block (block_before object q c n) n (tried_by e a)) (eqb-true e.proc p own) by in
          same-by given (next_block old n (tried_by e a)) (next_block before (start_in a) (tried_by e a)) _ _ (to ∙ by-p)
          (cond-true (eqb e.proc p) (next_block before (start_in a) (tried_by e a)) before own) (next-same given n e a old before are.1 rest))
      | inr off ↦ (
          let differ : (object n).proc ≢ p = λ h. (
          let on = eq-eqb e.proc p (sym (ap (λ (o : Tried). o.proc) are.0) ∙ h) in
          absurd cc) in
          same-by given old before _ _ (to ∙ block-other object p c n differ) (cond-false (eqb e.proc p) (next_block before (start_in a) (tried_by e a)) before off) rest)
    ]

-- the newest has the same part by its number and by the addresses
newest-like : (object : ℕ → Tried) (given : ℕ → Option Answer) (c first : ℕ) (e : Event) (es : List Event) (a : Answer) (answers : List Answer)
    → ((p : ℕ) → block_before object p c first ≡ None) → AreOf object given c first (e ∷ es) (a ∷ answers)
    → AreLike given (part_of object (first + length es)) (part_behind by_proc es answers e a)
newest-like object given c first e es a answers none are =
    let n = first + length es in
    let same = blocks-same object given c first e.proc es answers (none e.proc) are.2 in
    let part : part_of object n ≡ next_part (block_before object e.proc c n) (tried_by e a) = part-next object c n e (is_placed a) (block_before object e.proc c n) are.0 refl in
    subst (λ (p : Part). AreLike given p (part_behind by_proc es answers e a)) (sym part)
    (part-like given (is_tiny e) (seat_in (block_before object e.proc c n) e.size) (seat_in (block_of (by_proc e) es answers) e.size)
    (seat-same given (block_before object e.proc c n) (block_of (by_proc e) es answers) e.size same))

-- ---- what is asked of the heap, and what it answered

events-same : (object : ℕ → Tried) (given : ℕ → Option Answer) (c first : ℕ) (es : List Event) (answers : List Answer) → ((p : ℕ) → block_before object p c first ≡ None)
    → AreOf object given c first es answers → reverse (ridden_events by_proc es answers) ≡ based_events (part_of object) first (reverse es)
events-same object given c first [] [] none are = refl
events-same object given c first [] (a ∷ answers) none are = absurd are
events-same object given c first (e ∷ es) [] none are = absurd are
events-same object given c first (e ∷ es) (a ∷ answers) none are =
    let rest = events-same object given c first es answers none are.2 in
    let like = newest-like object given c first e es a answers none are in
    let long = length-reverse es in
    let at : first + length es ≡ first + length (reverse es) = omega arith in
    let own = based_event (part_behind by_proc es answers e a) e in
    reverse-append (own ∷ []) (ridden_events by_proc es answers)
    ∙ ap (λ (xs : List Event). xs ++ own ∷ []) rest
    ∙ ap (λ (x : Event). based_events (part_of object) first (reverse es) ++ x ∷ []) (sym (like.events e) ∙ ap (λ (k : ℕ). based_event (part_of object k) e) at)
    ∙ sym (events-more (part_of object) first (reverse es) e)
    ∙ ap (λ (xs : List Event). based_events (part_of object) first xs) (sym (reverse-append (e ∷ []) es))

answers-same : (object : ℕ → Tried) (given : ℕ → Option Answer) (c first : ℕ) (es : List Event) (answers : List Answer) → ((p : ℕ) → block_before object p c first ≡ None)
    → AreOf object given c first es answers → reverse (ridden_answers by_proc es answers) ≡ based_answers (part_of object) first (reverse answers)
answers-same object given c first [] [] none are = refl
answers-same object given c first [] (a ∷ answers) none are = absurd are
answers-same object given c first (e ∷ es) [] none are = absurd are
answers-same object given c first (e ∷ es) (a ∷ answers) none are =
    let rest = answers-same object given c first es answers none are.2 in
    let like = newest-like object given c first e es a answers none are in
    let many = of-length object given c first es answers are.2 in
    let long = length-reverse answers in
    let at : first + length es ≡ first + length (reverse answers) = omega arith in
    let own = based_answer (part_behind by_proc es answers e a) a in
    reverse-append (own ∷ []) (ridden_answers by_proc es answers)
    ∙ ap (λ (xs : List Answer). xs ++ own ∷ []) rest
    ∙ ap (λ (x : Answer). based_answers (part_of object) first (reverse answers) ++ x ∷ []) (sym (like.answers a) ∙ ap (λ (k : ℕ). based_answer (part_of object k) a) at)
    ∙ sym (answers-more (part_of object) first (reverse answers) a)
    ∙ ap (λ (xs : List Answer). based_answers (part_of object) first xs) (sym (reverse-append (a ∷ []) answers))

-- ---- riders

-- rule 10 of one object
abbrev pub RidesAt : (ℕ → Tried) → (ℕ → Option Answer) → ℕ → Type 0
RidesAt object given i = (lead offset : ℕ) → part_of object i ≡ Ride lead offset → (address : ℕ) × (given lead ≡ Some (Placed address)) × (given i ≡ Some (Placed (address + offset)))

rides-same : (object : ℕ → Tried) (given : ℕ → Option Answer) (c first : ℕ) (es : List Event) (answers : List Answer) → ((p : ℕ) → block_before object p c first ≡ None)
    → AreOf object given c first es answers → StandRiders by_proc es answers → (i : ℕ) → first ≤ i → i < first + length es → (lead offset : ℕ) → part_of object i ≡ Ride lead offset
    → (address : ℕ) × (given lead ≡ Some (Placed address)) × (given i ≡ Some (Placed (address + offset)))
rides-same object given c first [] [] none are stand i low high lead offset is = absurd (omega arith)
rides-same object given c first [] (a ∷ answers) none are stand i low high lead offset is = absurd are
rides-same object given c first (e ∷ es) [] none are stand i low high lead offset is = absurd are
rides-same object given c first (e ∷ es) (a ∷ answers) none are stand i low high lead offset is =
    elim (cases_lt i (first + length es)) [
      | inl below ↦ rides-same object given c first es answers none are.2 stand.1 i low below lead offset is
      | inr top ↦ (
          let at : i ≡ first + length es = omega arith in
          let like = newest-like object given c first e es a answers none are in
          let ride = like.rides lead offset (ap (λ (k : ℕ). part_of object k) (sym at) ∙ is) in
          (ride.0, ride.2, ap given at ∙ are.1 ∙ ap Some (stand.0 ride.0 offset ride.1)))
    ]

-- ---- the cycle of a trace

-- the cycle's events with their answers, behind the answers of the cycles before
pub record IsAnsweredCycle (t : Trace) (c : ℕ) (before : List Answer) (es : List Event) (answers : List Answer) : Type 0 where
  pub cycle : c < length t.cycles
  pub events : (d : Cycle) → es ≡ (get_or t.cycles c d).events
  pub begun : length before ≡ objects_before t c
  pub all : length answers ≡ length es

get-seam : {X : Type 0} (xs ys : List X) (x : X) → slice_get (xs ++ x ∷ ys) (length xs) ≡ Some x
get-seam [] ys x = refl
get-seam (y ∷ xs) ys x = get-seam xs ys x

pub get-behind : {X : Type 0} (xs ys : List X) (k : ℕ) → slice_get (xs ++ ys) (length xs + k) ≡ slice_get ys k
get-behind [] ys k = let e : 0 + k ≡ k = omega arith in ap (λ (i : ℕ). slice_get ys i) e
get-behind (x ∷ xs) ys k = let e : suc (length xs) + k ≡ suc (length xs + k) = omega arith in ap (λ (i : ℕ). slice_get ((x ∷ xs) ++ ys) i) e ∙ get-behind xs ys k

-- the newest of a reversed list stands at the end of the list
reverse-front : {X : Type 0} (x : X) (xs rest : List X) → reverse (x ∷ xs) ++ rest ≡ reverse xs ++ x ∷ rest
reverse-front x xs rest = ap (λ ys. ys ++ rest) (reverse-append (x ∷ []) xs) ∙ append_assoc (reverse xs) (x ∷ []) rest

reverse-seam : {X : Type 0} (x : X) (xs rest all : List X) → all ≡ reverse (x ∷ xs) ++ rest → slice_get all (length xs) ≡ Some x
reverse-seam x xs rest all is =
    ap (λ ys. slice_get ys (length xs)) (is ∙ reverse-front x xs rest) ∙ ap (λ (k : ℕ). slice_get (reverse xs ++ x ∷ rest) k) (sym (length-reverse xs)) ∙ get-seam (reverse xs) rest x

-- what is so of each object of a cycle is so of its newest ones
of-cycle : (object : ℕ → Tried) (given : ℕ → Option Answer) (c first : ℕ) (es more : List Event) (answers rest : List Answer) (all : List Event) (printed : List Answer)
    → ((k : ℕ) (e : Event) (a : Answer) → slice_get all k ≡ Some e → slice_get printed k ≡ Some a → (object (first + k) ≡ tried_of c e (is_placed a)) × (given (first + k) ≡ Some a))
    → all ≡ reverse es ++ more → printed ≡ reverse answers ++ rest → length answers ≡ length es → AreOf object given c first es answers
of-cycle object given c first [] more [] rest all printed each es-is as-is size = tt
of-cycle object given c first [] more (a ∷ answers) rest all printed each es-is as-is size = absurd (omega arith)
of-cycle object given c first (e ∷ es) more [] rest all printed each es-is as-is size = absurd (omega arith)
of-cycle object given c first (e ∷ es) more (a ∷ answers) rest all printed each es-is as-is size =
    let same : length answers ≡ length es = omega arith in
    let asked = reverse-seam e es more all es-is in
    let answered = ap (λ (k : ℕ). slice_get printed k) (sym same) ∙ reverse-seam a answers rest printed as-is in
    let here = each (length es) e a asked answered in
    (here.0, here.1, of-cycle object given c first es (e ∷ more) answers (a ∷ rest) all printed each (es-is ∙ reverse-front e es more) (as-is ∙ reverse-front a answers rest) same)

cycle-of : (t : Trace) (c : ℕ) (before : List Answer) (es : List Event) (answers : List Answer) → IsAnsweredCycle t c before es answers
    → AreOf (object_at t (before ++ answers)) (λ (i : ℕ). slice_get (before ++ answers) i) c (length before) (reverse es) (reverse answers)
cycle-of t c before es answers is =
    let all = is.all in
    let a = length-reverse es in
    let b = length-reverse answers in
    of-cycle (object_at t (before ++ answers)) (λ (i : ℕ). slice_get (before ++ answers) i) c (length before) (reverse es) [] (reverse answers) [] es answers each
    (sym (append-nil (reverse (reverse es)) ∙ reverse-reverse es)) (sym (append-nil (reverse (reverse answers)) ∙ reverse-reverse answers)) (omega arith)
  where
    none : Cycle
    none = record { events = []; mark = None }

    each : (k : ℕ) (e : Event) (a : Answer) → slice_get es k ≡ Some e → slice_get answers k ≡ Some a
        → (object_at t (before ++ answers) (length before + k) ≡ tried_of c e (is_placed a)) × (slice_get (before ++ answers) (length before + k) ≡ Some a)
    each k e a asked answered =
        let events = is.events none in
        let begun = is.begun in
        let lt = slice_get_within es k e asked in
        let many : length es ≡ length (get_or t.cycles c none).events = ap (λ (xs : List Event). length xs) events in
        let own : e ≡ get_or (get_or t.cycles c none).events k e = sym (get_or_from_slice_get es k e e asked) ∙ ap (λ (xs : List Event). get_or xs k e) events in
        let at = get-behind before answers k ∙ answered in
        (object-of-cycle t (before ++ answers) c k (length before + k) none e a is.cycle (omega arith) (omega arith) own at, at)

no-blocks : (t : Trace) (c : ℕ) (before : List Answer) (es : List Event) (answers : List Answer) → IsAnsweredCycle t c before es answers
    → (p : ℕ) → block_before (object_at t (before ++ answers)) p c (length before) ≡ None
no-blocks t c before es answers is p = ap (λ (n : ℕ). block_before (object_at t (before ++ answers)) p c n) is.begun ∙ block-first t (before ++ answers) p c

-- what is asked of the heap for the cycle
pub cycle-events : (t : Trace) (c : ℕ) (before : List Answer) (es : List Event) (answers : List Answer) → IsAnsweredCycle t c before es answers
    → reverse (ridden_events by_proc (reverse es) (reverse answers)) ≡ based_events (part_at t (before ++ answers)) (length before) es
cycle-events t c before es answers is =
    events-same (object_at t (before ++ answers)) (λ (i : ℕ). slice_get (before ++ answers) i) c (length before) (reverse es) (reverse answers)
    (no-blocks t c before es answers is) (cycle-of t c before es answers is)
    ∙ ap (λ (xs : List Event). based_events (part_at t (before ++ answers)) (length before) xs) (reverse-reverse es)

-- and what it answered
pub cycle-answers : (t : Trace) (c : ℕ) (before : List Answer) (es : List Event) (answers : List Answer) → IsAnsweredCycle t c before es answers
    → reverse (ridden_answers by_proc (reverse es) (reverse answers)) ≡ based_answers (part_at t (before ++ answers)) (length before) answers
cycle-answers t c before es answers is =
    answers-same (object_at t (before ++ answers)) (λ (i : ℕ). slice_get (before ++ answers) i) c (length before) (reverse es) (reverse answers)
    (no-blocks t c before es answers is) (cycle-of t c before es answers is)
    ∙ ap (λ (xs : List Answer). based_answers (part_at t (before ++ answers)) (length before) xs) (reverse-reverse answers)

-- rule 10 of an object of the cycle
pub cycle-rides : (t : Trace) (c : ℕ) (before : List Answer) (es : List Event) (answers : List Answer) → IsAnsweredCycle t c before es answers
    → StandRiders by_proc (reverse es) (reverse answers) → (i : ℕ) → length before ≤ i → i < length before + length es
    → RidesAt (object_at t (before ++ answers)) (λ (k : ℕ). slice_get (before ++ answers) k) i
cycle-rides t c before es answers is stand i low high =
    let long = length-reverse es in
    rides-same (object_at t (before ++ answers)) (λ (k : ℕ). slice_get (before ++ answers) k) c (length before) (reverse es) (reverse answers)
    (no-blocks t c before es answers is) (cycle-of t c before es answers is) stand i low (omega arith)

-- ---- more answers

block-agree : (f g : ℕ → Tried) (p c n : ℕ) → ((i : ℕ) → i < n → f i ≡ g i) → block_before f p c n ≡ block_before g p c n
block-agree f g p c zero same = refl
block-agree f g p c (suc n) same =
    let rest = block-agree f g p c n (λ i lt. same i (omega arith)) in
    let here = same n (omega arith) in
    ap (λ (o : Tried). cond (is_of p c o) (behind_object (seat_in (block_before f p c n) o.size) (block_before f p c n) n o) (block_before f p c n)) here
    ∙ ap (λ (b : Option Block). cond (is_of p c (g n)) (behind_object (seat_in b (g n).size) b n (g n)) b) rest

part-agree : (f g : ℕ → Tried) (n : ℕ) → ((i : ℕ) → i ≤ n → f i ≡ g i) → part_of f n ≡ part_of g n
part-agree f g n same =
    let here = same n (omega arith) in
    ap (λ (o : Tried). cond o.tiny (part_in (seat_in (block_before f o.proc o.cycle n) o.size)) Other) here
    ∙ ap (λ (b : Option Block). cond (g n).tiny (part_in (seat_in b (g n).size)) Other) (block-agree f g (g n).proc (g n).cycle n (λ i lt. same i (omega arith)))

-- the answers up to its own settle an object's part
pub part-settled : (t : Trace) (xs ys : List Answer) (i : ℕ) → i < length xs → part_at t (xs ++ ys) i ≡ part_at t xs i
part-settled t xs ys i lt = part-agree (object_at t (xs ++ ys)) (object_at t xs) i
    (λ k le. ap (λ (a : Option Answer). tried (slice_get (requests_from 0 t.cycles) k) a) (get-front xs ys k (omega arith)))

-- the riders so far ride where more answers follow
pub riding-front : (t : Trace) (xs ys : List Answer) → AreRiding t xs → (i : ℕ) → i < length xs → RidesAt (object_at t (xs ++ ys)) (λ (k : ℕ). slice_get (xs ++ ys) k) i
riding-front t xs ys riding i lt lead offset is =
    let own = sym (part-settled t xs ys i lt) ∙ is in
    let before = (rider-leader (object_at t xs) i lead offset own).0 in
    let ride = riding i lead offset own in
    (ride.0, get-front xs ys lead (omega arith) ∙ ride.1, get-front xs ys i lt ∙ ride.2)

-- the riders ride as one cycle more is answered
pub riding-more : (t : Trace) (c : ℕ) (before : List Answer) (es : List Event) (answers : List Answer) → IsAnsweredCycle t c before es answers
    → StandRiders by_proc (reverse es) (reverse answers) → AreRiding t before → AreRiding t (before ++ answers)
riding-more t c before es answers is stand riding i lead offset ride = elim (cases_lt i (length before)) [
  | inl old ↦ riding-front t before answers riding i old lead offset ride
  | inr late ↦ elim (cases_lt i (length before + length es)) [
    | inl here ↦ cycle-rides t c before es answers is stand i late here lead offset ride
    | inr past ↦ (
        let size = length-append before answers in
        let all = is.all in
        let none = part-past t (before ++ answers) i (omega arith) in
        absurd cc)
  ]
]
