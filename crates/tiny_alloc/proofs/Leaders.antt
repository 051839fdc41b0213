-- What is known of a current block: its lead, and that nothing that stands in it ends behind what is used.
use Rattle.std.proofs.Common.{◌≡◌, ℕ, zero, suc, ◌+◌, ◌<◌, ◌≤◌, Bool, true, false, ◌&&◌, cond, eqb, Option, Some, None, refl, sym, ◌∙◌, ap, subst, arith, ◌⊎◌, inl, inr}
use Rattle.std.proofs.lemmas.Bool.{cond-true, and_parts, and_from, eq-eqb, eqb-true, cases_lt}
use Rattle.tiny_alloc.specs.declared.block.Seat.{Seat}
use Rattle.tiny_alloc.specs.declared.part.Part.TheVariants.{Other, Lead, Ride}
use Rattle.tiny_alloc.specs.Blocks.{Block, seat_in}
use Rattle.tiny_alloc.specs.Riders.{Tried, is_of, behind_object, block_before, part_in, part_of}
use Rattle.tiny_alloc.proofs.Seats.{seat-is, Behind, behind-is}

-- ---- whose object

pub record IsOf (p c : ℕ) (o : Tried) : Type 0 where
  pub tiny : o.tiny ≡ true
  pub proc : o.proc ≡ p
  pub cycle : o.cycle ≡ c

pub of-is : (p c : ℕ) (o : Tried) → is_of p c o ≡ true → IsOf p c o
of-is p c o h =
    let a = and_parts o.tiny (eqb o.proc p && eqb o.cycle c) h in
    let b = and_parts (eqb o.proc p) (eqb o.cycle c) a.1 in
    record { tiny = a.0; proc = eqb-true o.proc p b.0; cycle = eqb-true o.cycle c b.1 }

pub is-of : (p c : ℕ) (o : Tried) → IsOf p c o → is_of p c o ≡ true
is-of p c o h = and_from o.tiny (eqb o.proc p && eqb o.cycle c) h.tiny (and_from (eqb o.proc p) (eqb o.cycle c) (eq-eqb o.proc p h.proc) (eq-eqb o.cycle c h.cycle))

-- ---- one object more

-- the seat of object n in the current block of a processor and cycle
abbrev pub seat_before : (ℕ → Tried) → ℕ → ℕ → ℕ → Option Seat
seat_before object p c n = seat_in (block_before object p c n) (object n).size

abbrev pub Goes : (ℕ → Tried) → ℕ → ℕ → ℕ → Block → Type 0
Goes object p c n b = ((is_of p c (object n) ≡ false) × (block_before object p c n ≡ Some b))
    ⊎ (IsOf p c (object n) × Behind (seat_before object p c n) (block_before object p c n) n (object n) b)

pub goes : (object : ℕ → Tried) (p c n : ℕ) (b : Block) → block_before object p c (suc n) ≡ Some b → Goes object p c n b
goes object p c n b h = split (is_of p c (object n)) refl h
  where
    split : (of : Bool) → is_of p c (object n) ≡ of
        → cond of (behind_object (seat_before object p c n) (block_before object p c n) n (object n)) (block_before object p c n) ≡ Some b → Goes object p c n b
    split false e h = inl (e, h)
    split true e h = inr (of-is p c (object n) e, behind-is (seat_before object p c n) (block_before object p c n) n (object n) b h)

-- the part of an object of a processor and a cycle
pub part-of : (object : ℕ → Tried) (p c n : ℕ) → IsOf p c (object n) → part_of object n ≡ part_in (seat_before object p c n)
part-of object p c n of =
    let tiny = of.tiny in
    let proc = of.proc in
    let cycle = of.cycle in
    cond-true (object n).tiny (part_in (seat_before object (object n).proc (object n).cycle n)) Other tiny
    ∙ ap (λ (q : ℕ). part_in (seat_before object q (object n).cycle n)) proc
    ∙ ap (λ (d : ℕ). part_in (seat_before object p d n)) cycle

-- ---- the lead of a block

pub record IsLeader (object : ℕ → Tried) (p c n : ℕ) (b : Block) : Type 0 where
  pub before : b.start < n
  pub of : IsOf p c (object b.start)
  pub placed : (object b.start).placed ≡ true
  pub lead : part_of object b.start ≡ Lead

later : (object : ℕ → Tried) (p c n : ℕ) (b d : Block) → d.start ≡ b.start → IsLeader object p c n b → IsLeader object p c (suc n) d
later object p c n b d e old =
    let before = old.before in
    record {
      before = omega arith;
      of = subst (λ (k : ℕ). IsOf p c (object k)) (sym e) old.of;
      placed = subst (λ (k : ℕ). (object k).placed ≡ true) (sym e) old.placed;
      lead = subst (λ (k : ℕ). part_of object k ≡ Lead) (sym e) old.lead;
    }

pub leader : (object : ℕ → Tried) (p c n : ℕ) (b : Block) → block_before object p c n ≡ Some b → IsLeader object p c n b
leader object p c zero b h = cc
leader object p c (suc n) b h =
    elim (goes object p c n b h) [
      | inl past ↦ later object p c n b b refl (leader object p c n b past.1)
      | inr here ↦ elim here.1 [
        | inl stays ↦ later object p c n b b refl (leader object p c n b stays.same)
        | inr more ↦ elim more [
          | inl rides ↦ (
              let seat = seat-is (block_before object p c n) (object n).size rides.at rides.has in
              later object p c n seat.room b (rides.start ∙ seat.start) (leader object p c n seat.room seat.is))
          | inr begins ↦ (
              let e : n ≡ b.start = sym begins.start in
              let lead : part_of object n ≡ Lead = part-of object p c n here.0 ∙ ap part_in begins.none in
              record {
                before = omega arith;
                of = subst (λ (k : ℕ). IsOf p c (object k)) e here.0;
                placed = subst (λ (k : ℕ). (object k).placed ≡ true) e begins.placed;
                lead = subst (λ (k : ℕ). part_of object k ≡ Lead) e lead;
              })
        ]
      ]
    ]

-- ---- riders

-- what is known of an object that rides
pub record IsRider (object : ℕ → Tried) (n lead offset : ℕ) : Type 0 where
  pub tiny : (object n).tiny ≡ true
  pub seat : Seat
  pub at : seat_before object (object n).proc (object n).cycle n ≡ Some seat
  pub start : seat.start ≡ lead
  pub behind : seat.offset ≡ offset

pub rider : (object : ℕ → Tried) (n lead offset : ℕ) → part_of object n ≡ Ride lead offset → IsRider object n lead offset
rider object n lead offset h = split (object n).tiny (seat_before object (object n).proc (object n).cycle n) refl refl h
  where
    split : (tiny : Bool) (seat : Option Seat) → (object n).tiny ≡ tiny → seat_before object (object n).proc (object n).cycle n ≡ seat
        → cond tiny (part_in seat) Other ≡ Ride lead offset → IsRider object n lead offset
    split false seat t s h = cc
    split true None t s h = cc
    split true (Some seat) t s h = (
        let start : seat.start ≡ lead = cc in
        let off : seat.offset ≡ offset = cc in
        record { tiny = t; seat = seat; at = s; start = start; behind = off })

-- its block, before it comes
pub rider-block : (object : ℕ → Tried) (n lead offset : ℕ) → part_of object n ≡ Ride lead offset
    → (b : Block) × (block_before object (object n).proc (object n).cycle n ≡ Some b) × (b.start ≡ lead) × (b.offset ≤ offset) × (offset + (object n).size ≤ 16)
rider-block object n lead offset h =
    let r = rider object n lead offset h in
    let seat = seat-is (block_before object (object n).proc (object n).cycle n) (object n).size r.seat r.at in
    let behind = seat.behind in
    let fits = seat.fits in
    let off = r.behind in
    (seat.room, seat.is, sym seat.start ∙ r.start, omega arith, omega arith)

pub rider-leader : (object : ℕ → Tried) (n lead offset : ℕ) → part_of object n ≡ Ride lead offset
    → (lead < n) × IsOf (object n).proc (object n).cycle (object lead) × ((object lead).placed ≡ true) × (part_of object lead ≡ Lead)
rider-leader object n lead offset h =
    let b = rider-block object n lead offset h in
    let known = leader object (object n).proc (object n).cycle n b.0 b.1 in
    let e = b.2 in
    let before = known.before in (
      omega arith,
      subst (λ (k : ℕ). IsOf (object n).proc (object n).cycle (object k)) e known.of,
      subst (λ (k : ℕ). (object k).placed ≡ true) e known.placed,
      subst (λ (k : ℕ). part_of object k ≡ Lead) e known.lead,
    )

-- ---- what stands in a block

-- object i stands in the block of a lead, behind so many bytes
abbrev pub Stands : (ℕ → Tried) → ℕ → ℕ → ℕ → Type 0
Stands object i lead offset = (part_of object i ≡ Ride lead offset) ⊎ ((part_of object i ≡ Lead) × (i ≡ lead) × (offset ≡ 0))

pub stands-from : (object : ℕ → Tried) (i lead offset : ℕ) → Stands object i lead offset → lead ≤ i
stands-from object i lead offset h = elim h [
  | inl rides ↦ (let lt = (rider-leader object i lead offset rides).0 in omega arith)
  | inr leads ↦ (let e = leads.1 in omega arith)
]

-- what stands in the current block, of the objects before object n, ends within what is used
abbrev pub EndsWithin : (ℕ → Tried) → ℕ → Block → Type 0
EndsWithin object n b = (i offset : ℕ) → i < n → Stands object i b.start offset → offset + (object i).size ≤ b.offset

-- an object that stands in the current block of a processor and a cycle is of them
of-block : (object : ℕ → Tried) (p c n offset : ℕ) (b : Block) → IsLeader object p c n b → Stands object n b.start offset → IsOf p c (object n)
of-block object p c n offset b known h = elim h [
  | inl rides ↦ (
      let other = rider-leader object n b.start offset rides in
      let r = rider object n b.start offset rides in
      let a = known.of in
      let d = other.1 in
      record { tiny = r.tiny; proc = sym d.proc ∙ a.proc; cycle = sym d.cycle ∙ a.cycle })
  | inr leads ↦ subst (λ (k : ℕ). IsOf p c (object k)) (sym leads.1) known.of
]

pub ends : (object : ℕ → Tried) (p c n : ℕ) (b : Block) → block_before object p c n ≡ Some b → EndsWithin object n b
ends object p c zero b h i offset lt stands = absurd (omega arith)
ends object p c (suc n) b h i offset lt stands =
    elim (goes object p c n b h) [
      | inl past ↦ (
          let known = leader object p c n b past.1 in
          elim (cases_lt i n) [
            | inl below ↦ ends object p c n b past.1 i offset below stands
            | inr top ↦ (
                let e : i ≡ n = omega arith in
                let here : Stands object n b.start offset = subst (λ (k : ℕ). Stands object k b.start offset) e stands in
                let of = is-of p c (object n) (of-block object p c n offset b known here) in
                let not = past.0 in
                absurd cc)
          ])
      | inr here ↦ elim (cases_lt i n) [
        | inl below ↦ before (block_before object p c n) refl (λ d e. leader object p c n d e) (λ d e. ends object p c n d e i) here.1 below
        | inr top ↦ (
            let e : i ≡ n = omega arith in
            rw e (at-top here.0 here.1 (subst (λ (k : ℕ). Stands object k b.start offset) e stands)))
      ]
    ]
  where
    -- an older object
    before : (block : Option Block) → block_before object p c n ≡ block → ((d : Block) → block_before object p c n ≡ Some d → IsLeader object p c n d)
        → ((d : Block) → block_before object p c n ≡ Some d → (o : ℕ) → i < n → Stands object i d.start o → o + (object i).size ≤ d.offset)
        → Behind (seat_before object p c n) (block_before object p c n) n (object n) b → i < n → offset + (object i).size ≤ b.offset
    before block is known old how below = elim how [
      | inl stays ↦ old b stays.same offset below stands
      | inr more ↦ elim more [
        | inl rides ↦ (
            let seat = seat-is (block_before object p c n) (object n).size rides.at rides.has in
            let start : b.start ≡ seat.room.start = rides.start ∙ seat.start in
            let le = old seat.room seat.is offset below (subst (λ (k : ℕ). Stands object i k offset) start stands) in
            let behind = seat.behind in
            let used = rides.offset in
            omega arith)
        | inr begins ↦ (
            let from = stands-from object i b.start offset stands in
            let start = begins.start in
            absurd (omega arith))
      ]
    ]

    -- the newest object
    at-top : IsOf p c (object n) → Behind (seat_before object p c n) (block_before object p c n) n (object n) b → Stands object n b.start offset → offset + (object n).size ≤ b.offset
    at-top of how stands =
        let part = part-of object p c n of in
        elim how [
          | inl stays ↦ (
              let known = leader object p c n b stays.same in
              let lt = known.before in
              let lead : part_of object n ≡ Lead = part ∙ ap part_in stays.none in
              elim stands [
                | inl ride ↦ absurd cc
                | inr leads ↦ (let e = leads.1 in absurd (omega arith))
              ])
          | inr more ↦ elim more [
            | inl rides ↦ (
                let ride : part_of object n ≡ Ride rides.at.start rides.at.offset = part ∙ ap part_in rides.has in
                let used = rides.offset in
                elim stands [
                  | inl is ↦ (
                      let same : offset ≡ rides.at.offset = cc in
                      omega arith)
                  | inr leads ↦ (let lead = leads.0 in absurd cc)
                ])
            | inr begins ↦ (
                let lead : part_of object n ≡ Lead = part ∙ ap part_in begins.none in
                let used = begins.offset in
                elim stands [
                  | inl is ↦ absurd cc
                  | inr leads ↦ (let none = leads.2 in omega arith)
                ])
          ]
        ]

-- two objects of one block are apart, the earlier one below the later one
pub one-block : (object : ℕ → Tried) (i j lead a b : ℕ) → i < j → Stands object i lead a → Stands object j lead b → a + (object i).size ≤ b
one-block object i j lead a b lt first second = elim second [
  | inl rides ↦ (
      let block = rider-block object j lead b rides in
      let le = ends object (object j).proc (object j).cycle j block.0 block.1 i a lt (subst (λ (k : ℕ). Stands object i k a) (sym block.2) first) in
      let behind = block.3 in
      omega arith)
  | inr leads ↦ (
      let from = stands-from object i lead a first in
      let e = leads.1 in
      absurd (omega arith))
]
