-- Blocks of tiny objects: which objects share one, and where in it each stands.
use Rattle.std.specs.Prelude.{ℕ, ◌+◌, ◌-◌, ◌*◌, ◌/◌, ◌%◌, ◌==◌, Bool, cond, nat_le, nat_lt, Option, Some, None}
use Rattle.std.specs.Option.{option_map}
use Rattle.tiny_alloc.specs.declared.block.Current.{Current}
use Rattle.tiny_alloc.specs.declared.block.Seat.{Seat}

-- A block is where it begins, and how many of its bytes are used.
pub record Block : Type 0 where
  pub start : ℕ
  pub offset : ℕ

-- The block that code keeps, or none.
abbrev pub block_of : Option Current → Option Block
block_of None = None
block_of (Some current) = Some (record { start = current.start; offset = current.offset })

-- The bytes of a block.
abbrev pub block_size : ℕ
block_size = 16

-- The number raised to the next multiple.
abbrev pub raised_to : ℕ → ℕ → ℕ
raised_to multiple n = (n + (multiple - 1)) / multiple * multiple

-- The offset raised to the alignment of an object of this size: 8 where the size is a multiple of 8, otherwise 4, 2 or 1 likewise.
abbrev pub raised : ℕ → ℕ → ℕ
raised offset size = cond (size % 8 == 0) (raised_to 8 offset) (cond (size % 4 == 0) (raised_to 4 offset) (cond (size % 2 == 0) (raised_to 2 offset) offset))

-- An object of this size fits in the block, behind the bytes that are used.
abbrev pub fits : Block → ℕ → Bool
fits b size = nat_le (raised b.offset size + size) block_size

-- The seat in the block of an object of this size: behind the bytes that are used, where there is a block in which it fits.
abbrev pub seat_in : Option Block → ℕ → Option Seat
seat_in None size = None
seat_in (Some b) size = cond (fits b size) (Some (record { start = b.start; offset = raised b.offset size })) None

-- The address of a seat.
abbrev pub seat_address : Seat → ℕ
seat_address seat = seat.start + seat.offset

-- Where an object of this size begins that rides.
abbrev pub ride_start : Option Block → ℕ → Option ℕ
ride_start block size = option_map seat_address (seat_in block size)

-- The block behind an object that has the seat: what is used ends where the object ends. Where it has none nothing changes.
abbrev pub behind_seat : Option Seat → Option Block → ℕ → Option Block
behind_seat None block size = block
behind_seat (Some seat) block size = Some (record { start = seat.start; offset = seat.offset + size })

-- The block behind an object that rides if it can.
abbrev pub behind_ride : Option Block → ℕ → Option Block
behind_ride block size = behind_seat (seat_in block size) block size

-- The block behind a placed object that doesn't ride and begins a block here: its own where there was none, or where less of it is
-- used than of the one before.
abbrev pub behind_lead : Option Block → ℕ → ℕ → Option Block
behind_lead None start size = Some (record { start = start; offset = size })
behind_lead (Some b) start size = cond (nat_lt size b.offset) (Some (record { start = start; offset = size })) (Some b)
