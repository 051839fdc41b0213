-- Printed totals beside the right ones.
use Rattle.std.specs.Prelude.{◌≡◌, ℕ, ◌<◌, List, Some, ◌⊎◌}
use Rattle.std.specs.List.{slice_get}
use Rattle.page_alloc.specs.Lists.{In}
use Rattle.cycle_history.specs.declared.Total.{Total}
use Rattle.cycle_history.specs.Orders.{IsTotalBefore}
use Rattle.report_check.specs.Closing.{IsOutOfOrder}

-- The first n printed totals are right ones, and stand in order.
pub record AreFitting (right printed : List Total) (n : ℕ) : Type 0 where
  pub among : (k : ℕ) (total : Total) → k < n → slice_get printed k ≡ Some total → In total right
  pub order : (j k : ℕ) (earlier total : Total) → j < k → k < n → slice_get printed j ≡ Some earlier → slice_get printed k ≡ Some total → IsTotalBefore earlier total

-- The total at place n is the first that isn't a right one, or is out of order.
pub record IsMisfit (right printed : List Total) (n : ℕ) : Type 0 where
  pub total : Total
  pub here : slice_get printed n ≡ Some total
  pub wrong : (¬ In total right) ⊎ IsOutOfOrder IsTotalBefore printed n total
  pub before : AreFitting right printed n

-- Each of these totals is printed.
abbrev pub HasAll : List Total → List Total → Type 0
HasAll printed totals = (total : Total) → In total totals → In total printed

-- One of these totals isn't printed.
abbrev pub LacksTotal : List Total → List Total → Type 0
LacksTotal printed totals = (total : Total) × In total totals × ¬ In total printed
