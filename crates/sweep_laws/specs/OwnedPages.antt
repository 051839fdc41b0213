-- Whose a page is: nobody's, or that of one hand, one cell or one entry. A list names a page once where it stands there once.
use Rattle.std.specs.Prelude.{◌≡◌, ℕ, ◌+◌, ◌≤◌}
use Rattle.sweep_laws.specs.Counts.{times}
use Rattle.sweep_laws.specs.Named.{sweepers, holders, cachers, poppers, queued, unswept_own}
use Rattle.sweep_laws.specs.State.{HandState, CoreState}

-- no list of a hand names the page twice
pub record NamesOnce (p : ℕ) (h : HandState) : Type 0 where
  pub sweeping : times p h.sweeping ≤ 1
  pub held : times p h.held ≤ 1
  pub cached : times p h.cached ≤ 1
  pub popped : times p h.popped ≤ 1
  pub swept : times p h.swept ≤ 1

-- no hand sweeps, holds or has cached the page, and no unpopped cell of a swept set names it
abbrev pub IsNobodys : CoreState → ℕ → Type 0
IsNobodys c p = sweepers p c.hands + holders p c.hands + cachers p c.hands + queued c.generation p c.sets ≡ 0

-- a page waits to be swept: it is nobody's, and the unpopped cells of the unswept sets of its class and the popped
-- lists together name it once
pub record WaitsOnce (c : CoreState) (p : ℕ) : Type 0 where
  pub nobodys : IsNobodys c p
  pub once : unswept_own c.generation p c.lives c.sets + poppers p c.hands ≡ 1

-- one hand sweeps a page, nobody holds or caches it, and no unpopped swept cell names it
pub record IsSweptByOne (c : CoreState) (p : ℕ) : Type 0 where
  pub one : sweepers p c.hands ≡ 1
  pub no_other : holders p c.hands + cachers p c.hands + queued c.generation p c.sets ≡ 0

-- a page is swept or cached by nobody, and either one hand holds it or one unpopped swept cell names it
pub record IsHeldOrQueued (c : CoreState) (p : ℕ) : Type 0 where
  pub no_other : sweepers p c.hands + cachers p c.hands ≡ 0
  pub one : holders p c.hands + queued c.generation p c.sets ≡ 1

-- one hand caches a page, nobody sweeps or holds it, and no unpopped swept cell names it
pub record IsCachedByOne (c : CoreState) (p : ℕ) : Type 0 where
  pub one : cachers p c.hands ≡ 1
  pub no_other : sweepers p c.hands + holders p c.hands + queued c.generation p c.sets ≡ 0
