-- The orders in which a report lists its sweeps, its totals and its profile.
use Rattle.std.specs.Prelude.{◌≡◌, ◌<◌, List, ◌⊎◌}
use Rattle.page_alloc.specs.Lists.{AllApart}
use Rattle.span_state.specs.declared.sweep.SweepNote.{SweepNote}
use Rattle.cycle_history.specs.declared.Total.{Total}
use Rattle.cycle_history.specs.declared.Prof.{Prof}

-- A sweep comes before another where its cycle is lower, or its page is lower in the same cycle.
abbrev pub IsSweepBefore : SweepNote → SweepNote → Type 0
IsSweepBefore a b = (a.cycle < b.cycle) ⊎ ((a.cycle ≡ b.cycle) × (a.page < b.page))

-- A total comes before another where its class is lower.
abbrev pub IsTotalBefore : Total → Total → Type 0
IsTotalBefore a b = a.class < b.class

-- A bucket comes before another where its mark end is lower, then its stack, then its slot size.
abbrev pub IsProfBefore : Prof → Prof → Type 0
IsProfBefore a b = (a.mark < b.mark) ⊎ ((a.mark ≡ b.mark) × ((a.stack < b.stack) ⊎ ((a.stack ≡ b.stack) × (a.size < b.size))))

-- Each sweep comes before all that follow it.
abbrev pub AreRisingSweeps : List SweepNote → Type 0
AreRisingSweeps sweeps = AllApart IsSweepBefore sweeps

-- Each total comes before all that follow it.
abbrev pub AreRisingTotals : List Total → Type 0
AreRisingTotals totals = AllApart IsTotalBefore totals

-- Each bucket of the profile comes before all that follow it.
abbrev pub AreRisingProfile : List Prof → Type 0
AreRisingProfile profile = AllApart IsProfBefore profile
