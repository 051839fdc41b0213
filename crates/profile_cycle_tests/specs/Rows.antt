-- What the tests ask of a tally that counts in a thread.
use Rattle.std.specs.Prelude.{◌≡◌, false}
use Rattle.profile_cycle.specs.History.{RingId, Standing}

-- The tally is of the ring, was split off, and stands at the first cycle.
pub record IsOut (ring : RingId) (t : Standing) : Type 0 where
  pub of_ring : t.ring ≡ ring
  pub split : t.view.drives ≡ false
  pub cycle : t.view.cycle ≡ 0
