-- What the rows on page caches ask of the workers.
use Rattle.std.specs.Prelude.{◌≡◌, [], ◌∷◌}
use Rattle.atomic_table.specs.Seated.{TableId}
use Rattle.span_laws.specs.Views.{Seen}

-- The driver of this table has handed out the worker of processor 0 and then that of processor 1.
pub record AreOut (t : TableId) (driver zero one : Seen) : Type 0 where
  pub driver_table : driver.table ≡ t
  pub driver_number : driver.number ≡ 69
  pub away : driver.away ≡ 1 ∷ 0 ∷ []
  pub zero_table : zero.table ≡ t
  pub zero_number : zero.number ≡ 0
  pub one_table : one.table ≡ t
  pub one_number : one.number ≡ 1
