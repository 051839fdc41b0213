-- Seats in blocks, and what a block is behind an object.
use Rattle.std.proofs.Common.{◌≡◌, ℕ, ◌+◌, ◌%◌, ◌≤◌, Bool, true, false, cond, leb, ltb, eqb, Option, Some, None, refl, sym, ap, arith, ◌⊎◌, inl, inr}
use Rattle.std.proofs.lemmas.Bool.{leb-true}
use Rattle.std.proofs.lemmas.Option.{same_Some}
use Rattle.tiny_alloc.specs.declared.block.Seat.{Seat}
use Rattle.tiny_alloc.specs.Blocks.{Block, raised, raised_to, fits, seat_in, behind_lead}
use Rattle.tiny_alloc.specs.Riders.{Tried, behind_object}

-- raising never falls
up-8 : (n : ℕ) → n ≤ raised_to 8 n
up-8 n = omega arith

up-4 : (n : ℕ) → n ≤ raised_to 4 n
up-4 n = omega arith

up-2 : (n : ℕ) → n ≤ raised_to 2 n
up-2 n = omega arith

choose : (a b c : Bool) (n x y z : ℕ) → n ≤ x → n ≤ y → n ≤ z → n ≤ cond a x (cond b y (cond c z n))
choose true b c n x y z hx hy hz = hx
choose false true c n x y z hx hy hz = hy
choose false false true n x y z hx hy hz = hz
choose false false false n x y z hx hy hz = let e : n ≤ n = omega arith in e

pub raised-rises : (offset size : ℕ) → offset ≤ raised offset size
raised-rises offset size = choose (eqb (size % 8) 0) (eqb (size % 4) 0) (eqb (size % 2) 0) offset _ _ _ (up-8 offset) (up-4 offset) (up-2 offset)

-- a seat of an object of this size in a block
pub record IsSeat (block : Option Block) (size : ℕ) (seat : Seat) : Type 0 where
  pub room : Block
  pub is : block ≡ Some room
  pub start : seat.start ≡ room.start
  pub behind : room.offset ≤ seat.offset
  pub fits : seat.offset + size ≤ 16

abbrev seat_at : ℕ → ℕ → Seat
seat_at start offset = record { start = start; offset = offset }

seat-cases : (fit : Bool) (b : Block) (size : ℕ) (seat : Seat) → leb (raised b.offset size + size) 16 ≡ fit
    → cond fit (Some (seat_at b.start (raised b.offset size))) None ≡ Some seat → IsSeat (Some b) size seat
seat-cases false b size seat e h = cc
seat-cases true b size seat e h =
    let same = same_Some (seat_at b.start (raised b.offset size)) seat h in
    let offset : raised b.offset size ≡ seat.offset = ap (λ (s : Seat). s.offset) same in
    let start : b.start ≡ seat.start = ap (λ (s : Seat). s.start) same in
    let le : raised b.offset size + size ≤ 16 = leb-true (raised b.offset size + size) 16 e in
    let rises = raised-rises b.offset size in
    record { room = b; is = refl; start = sym start; behind = omega arith; fits = omega arith }

pub seat-is : (block : Option Block) (size : ℕ) (seat : Seat) → seat_in block size ≡ Some seat → IsSeat block size seat
seat-is None size seat h = cc
seat-is (Some b) size seat h = seat-cases (fits b size) b size seat refl h

-- the block stays behind an object that neither rides in it nor begins a new one
pub record Stays (seat : Option Seat) (block : Option Block) (b : Block) : Type 0 where
  pub none : seat ≡ None
  pub same : block ≡ Some b

-- the object rides
pub record Rides (seat : Option Seat) (o : Tried) (b : Block) : Type 0 where
  pub at : Seat
  pub has : seat ≡ Some at
  pub start : b.start ≡ at.start
  pub offset : b.offset ≡ at.offset + o.size

-- the object begins the block
pub record Begins (seat : Option Seat) (n : ℕ) (o : Tried) (b : Block) : Type 0 where
  pub none : seat ≡ None
  pub placed : o.placed ≡ true
  pub start : b.start ≡ n
  pub offset : b.offset ≡ o.size

abbrev pub Behind : Option Seat → Option Block → ℕ → Tried → Block → Type 0
Behind seat block n o b = Stays seat block b ⊎ (Rides seat o b ⊎ Begins seat n o b)

abbrev block_at : ℕ → ℕ → Block
block_at start offset = record { start = start; offset = offset }

new-block : (n : ℕ) (o : Tried) (b : Block) → o.placed ≡ true → Some (block_at n o.size) ≡ Some b → Begins None n o b
new-block n o b placed h =
    let same = same_Some (block_at n o.size) b h in
    record { none = refl; placed = placed; start = sym (ap (λ (x : Block). x.start) same); offset = sym (ap (λ (x : Block). x.offset) same) }

less-cases : (less : Bool) (x : Block) (n : ℕ) (o : Tried) (b : Block) → o.placed ≡ true → cond less (Some (block_at n o.size)) (Some x) ≡ Some b → Behind None (Some x) n o b
less-cases true x n o b placed h = inr (inr (new-block n o b placed h))
less-cases false x n o b placed h = inl (record { none = refl; same = h })

lead-cases : (placed : Bool) (block : Option Block) (n : ℕ) (o : Tried) (b : Block) → o.placed ≡ placed → cond placed (behind_lead block n o.size) block ≡ Some b → Behind None block n o b
lead-cases false block n o b e h = inl (record { none = refl; same = h })
lead-cases true None n o b e h = inr (inr (new-block n o b e h))
lead-cases true (Some x) n o b e h = less-cases (ltb o.size x.offset) x n o b e h

pub behind-is : (seat : Option Seat) (block : Option Block) (n : ℕ) (o : Tried) (b : Block) → behind_object seat block n o ≡ Some b → Behind seat block n o b
behind-is None block n o b h = lead-cases o.placed block n o b refl h
behind-is (Some at) block n o b h =
    let same = same_Some (block_at at.start (at.offset + o.size)) b h in
    inr (inl (record { at = at; has = refl; start = sym (ap (λ (x : Block). x.start) same); offset = sym (ap (λ (x : Block). x.offset) same) }))
