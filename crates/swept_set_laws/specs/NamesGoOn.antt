-- How what the swept sets name, and the logs of all workers, go on at a move.
use Rattle.std.specs.Prelude.{◌≡◌, ◌≢◌, ℕ, ◌+◌, ◌<◌, ◌==◌, ◌&&◌, true, cond, List, [], length}
use Rattle.sweep_laws.specs.declared.moves.Move.{Move}
use Rattle.sweep_laws.specs.declared.moves.Move.TheVariants.{Lock, Unlock, Take, Give, Acquire, Release, Cache, Allocate, Uncache, StaleUncache, Claim, Fill, PopSwept, PopUnswept, DropPopped, Pull, Cut, Drop, Next}
use Rattle.sweep_laws.specs.ChangesOfSets.{head_base}
use Rattle.sweep_laws.specs.Counts.{one_if}
use Rattle.sweep_laws.specs.Reading.{is_swept_set, life_in, set_of}
use Rattle.sweep_laws.specs.State.{CoreState}
use Rattle.worker_log.specs.declared.Entry.{Entry}
use Rattle.worker_log.specs.declared.Entry.TheVariants.{Popped}
use Rattle.worker_log.specs.SetNumbers.{is_full_set}
use Rattle.worker_log.specs.Entries.{many, is_pop_of}
use Rattle.swept_set_laws.specs.Entered.{is_full_life, log_of}

-- One more name.
abbrev pub put_name : (ℕ → ℕ → ℕ) → ℕ → ℕ → ℕ → ℕ → ℕ → ℕ
put_name names k t p j i = cond ((j == k) && (i == t)) p (names j i)

-- No log gained or lost a pop from a swept set.
abbrev pub SamePops : ℕ → List (List Entry) → List (List Entry) → Type 0
SamePops g new old = (m k q : ℕ) → is_swept_set g k ≡ true → many (is_pop_of k q) (log_of new m) ≡ many (is_pop_of k q) (log_of old m)

-- Worker n's log gained the pop of this page from this set, and no log another pop from a swept set.
pub record HasPopped (g n k p : ℕ) (new old : List (List Entry)) : Type 0 where
  pub own : (j q : ℕ) → many (is_pop_of j q) (log_of new n) ≡ many (is_pop_of j q) (log_of old n) + one_if (is_pop_of j q (Popped k p))
  pub others : (m : ℕ) → m ≢ n → log_of new m ≡ log_of old m

-- Worker n may claim an index of this set for the page: its life has an object, no free index exactly where the set is a
-- full one, and the worker's log has no pop of the page from this set.
pub record MayClaim (c : CoreState) (logs : List (List Entry)) (n k p : ℕ) : Type 0 where
  pub used : 0 < length (life_in p c.lives).allocated
  pub fullness : is_full_set k ≡ is_full_life (life_in p c.lives)
  pub unpopped : many (is_pop_of k p) (log_of logs n) ≡ 0

-- What the sets name goes on from `names` to `names'`, and the logs from `logs` to `logs'`, at a move, where its call may make
-- it: a Claim adds its name, a PopSwept comes with its entry, a mark end empties the logs, and at all other moves no log
-- gains a pop from a swept set.
abbrev pub NamesGoOn : CoreState → List (List Entry) → (ℕ → ℕ → ℕ) → Move → List (List Entry) → (ℕ → ℕ → ℕ) → Type 0
NamesGoOn c logs names (Claim w s p) logs' names' = MayClaim c logs w s p × SamePops c.generation logs' logs × (names' ≡ put_name names s (set_of c s).tail p)
NamesGoOn c logs names (PopSwept w s) logs' names' = HasPopped c.generation w s (head_base c s) logs' logs × (names' ≡ names)
NamesGoOn c logs names (Next marks) logs' names' = (n : ℕ) → log_of logs' n ≡ []
NamesGoOn c logs names (Lock w) logs' names' = SamePops c.generation logs' logs × (names' ≡ names)
NamesGoOn c logs names (Unlock w) logs' names' = SamePops c.generation logs' logs × (names' ≡ names)
NamesGoOn c logs names (Take w p pages count class) logs' names' = SamePops c.generation logs' logs × (names' ≡ names)
NamesGoOn c logs names (Give w p) logs' names' = SamePops c.generation logs' logs × (names' ≡ names)
NamesGoOn c logs names (Acquire w p) logs' names' = SamePops c.generation logs' logs × (names' ≡ names)
NamesGoOn c logs names (Release w p) logs' names' = SamePops c.generation logs' logs × (names' ≡ names)
NamesGoOn c logs names (Cache w p) logs' names' = SamePops c.generation logs' logs × (names' ≡ names)
NamesGoOn c logs names (Allocate w p i) logs' names' = SamePops c.generation logs' logs × (names' ≡ names)
NamesGoOn c logs names (Uncache w p) logs' names' = SamePops c.generation logs' logs × (names' ≡ names)
NamesGoOn c logs names (StaleUncache w p) logs' names' = SamePops c.generation logs' logs × (names' ≡ names)
NamesGoOn c logs names (Fill w) logs' names' = SamePops c.generation logs' logs × (names' ≡ names)
NamesGoOn c logs names (PopUnswept w s) logs' names' = SamePops c.generation logs' logs × (names' ≡ names)
NamesGoOn c logs names (DropPopped w p) logs' names' = SamePops c.generation logs' logs × (names' ≡ names)
NamesGoOn c logs names (Pull w) logs' names' = SamePops c.generation logs' logs × (names' ≡ names)
NamesGoOn c logs names (Cut w p pages count class) logs' names' = SamePops c.generation logs' logs × (names' ≡ names)
NamesGoOn c logs names (Drop w) logs' names' = SamePops c.generation logs' logs × (names' ≡ names)
