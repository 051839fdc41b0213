-- The core state that a table shows: the core, with the holder of the heap lock.
use Rattle.std.specs.Prelude.{ℕ, zero, suc, Option, None, Some}
use Rattle.sweep_laws.specs.State.{CoreState}

abbrev pub holder : ℕ → Option ℕ
holder zero = None
holder (suc n) = Some n

abbrev pub shown : CoreState → ℕ → CoreState
shown c lock = record c { lock = holder lock }
