-- How the marks of a base are found.
use Rattle.std.specs.Prelude.{◌≡◌, ℕ, ◌<◌, ◌≤◌, true, List, ◌⊎◌, ◌↔◌}
use Rattle.std.specs.List.{AllByRecursion}
use Rattle.trace_reader.specs.declared.span.Span.{Span}
use Rattle.cycle_history.specs.Requests.{is_within}
use Rattle.tiny_alloc.specs.declared.part.Part.{Part}
use Rattle.tiny_alloc.specs.declared.part.Part.TheVariants.{Ride}

-- A span has some objects, all of which have numbers that an object can have.
pub record IsFair (s : Span) : Type 0 where
  pub some : s.lo ≤ s.hi
  pub few : s.hi ≤ 999999

-- Spans of such kind.
abbrev pub AreFair : List Span → Type 0
AreFair spans = AllByRecursion IsFair spans

-- Each lead has a number that an object can have.
abbrev pub HaveLeads : (ℕ → Part) → Type 0
HaveLeads part = (rider lead offset : ℕ) → part rider ≡ Ride lead offset → lead ≤ 999999

-- Object i is the lead of an object, from `low` up to `high`, that rides.
abbrev pub IsLeadWithin : (ℕ → Part) → ℕ → ℕ → ℕ → Type 0
IsLeadWithin part low high i = (rider : ℕ) × (offset : ℕ) × (low ≤ rider) × (rider < high) × (part rider ≡ Ride i offset)

-- Object i is the lead of an object of these spans.
abbrev pub IsLeadOf : (ℕ → Part) → List Span → ℕ → Type 0
IsLeadOf part marks i = (rider : ℕ) × (offset : ℕ) × (part rider ≡ Ride i offset) × (is_within marks rider ≡ true)

-- The new spans have what the old ones have, and just these objects more.
abbrev pub Gains : (ℕ → Type 0) → List Span → List Span → Type 0
Gains more old new = (i : ℕ) → (is_within new i ≡ true) ↔ ((is_within old i ≡ true) ⊎ more i)

-- Spans have the same objects.
abbrev pub HaveSame : List Span → List Span → Type 0
HaveSame old new = (i : ℕ) → (is_within new i ≡ true) ↔ (is_within old i ≡ true)
