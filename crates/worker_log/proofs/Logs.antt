-- Logs that grow, and that are read from their oldest entry.
use Rattle.std.proofs.Common.{◌≡◌, ℕ, ◌+◌, Bool, true, List, [], ◌∷◌, ◌++◌, reverse, refl, ◌∙◌, arith}
use Rattle.std.specs.List.{AllByRecursion}
use Rattle.std.proofs.lemmas.List.{reverse-append}
use Rattle.worker_log.specs.declared.Entry.{Entry}
use Rattle.worker_log.specs.declared.Entry.TheVariants.{Looked, LookedEmptyCell, Popped, Pushed, Swept, Took, Missed, Gave, Allocated, Found, Read, Added, Pulled, NoPage, Cut as CutEntry, NoCut, Settled}
use Rattle.worker_log.specs.Logs.{placings, sweepings, refusals, takings}
use Rattle.worker_log.specs.SweptLast.{is_swept_last}
use Rattle.worker_log.specs.Entries.{many, is_quiet}

-- counts add up
pub many-append : (test : Entry → Bool) (xs ys : List Entry) → many test (xs ++ ys) ≡ many test xs + many test ys
many-append test [] ys = omega arith
many-append test (x ∷ xs) ys = let rest = many-append test xs ys in omega arith

-- a log that is kept with the oldest entry first, and grows at its end
pub newest-first : (log : List Entry) (e : Entry) → reverse (log ++ e ∷ []) ≡ e ∷ reverse log
newest-first log e = reverse-append log (e ∷ [])

-- what the laws of a run see of two logs is the same
pub record LookAlike (new old : List Entry) : Type 0 where
  pub placed : placings new ≡ placings old
  pub swept : sweepings new ≡ sweepings old
  pub refused : refusals new ≡ refusals old
  pub took : takings new ≡ takings old
  pub last : (p : ℕ) → is_swept_last p new ≡ is_swept_last p old

-- an entry at which they don't look changes nothing of it
pub quiet-alike : (e : Entry) (log : List Entry) → is_quiet e ≡ true → LookAlike (e ∷ log) log
quiet-alike (Allocated a) log h = cc
quiet-alike (Swept s) log h = cc
quiet-alike (Missed number line) log h = cc
quiet-alike (Took number line) log h = cc
quiet-alike (Gave page pages) log h = cc
quiet-alike (Looked set head tail) log h = record { placed = refl; swept = refl; refused = refl; took = refl; last = λ p. refl }
quiet-alike (LookedEmptyCell set index) log h = record { placed = refl; swept = refl; refused = refl; took = refl; last = λ p. refl }
quiet-alike (Pulled number line) log h = cc
quiet-alike NoPage log h = record { placed = refl; swept = refl; refused = refl; took = refl; last = λ p. refl }
quiet-alike (CutEntry page pages class) log h = cc
quiet-alike (NoCut pages left) log h = record { placed = refl; swept = refl; refused = refl; took = refl; last = λ p. refl }
quiet-alike (Settled number) log h = cc
quiet-alike (Popped set page) log h = record { placed = refl; swept = refl; refused = refl; took = refl; last = λ p. refl }
quiet-alike (Pushed set page) log h = record { placed = refl; swept = refl; refused = refl; took = refl; last = λ p. refl }
quiet-alike (Found page word) log h = record { placed = refl; swept = refl; refused = refl; took = refl; last = λ p. refl }
quiet-alike (Read word value) log h = record { placed = refl; swept = refl; refused = refl; took = refl; last = λ p. refl }
quiet-alike (Added word value) log h = record { placed = refl; swept = refl; refused = refl; took = refl; last = λ p. refl }

-- nor do several
pub all-alike : (said log : List Entry) → AllByRecursion (λ e. is_quiet e ≡ true) said → LookAlike (said ++ log) log
all-alike [] log quiet = record { placed = refl; swept = refl; refused = refl; took = refl; last = λ p. refl }
all-alike (e ∷ said) log quiet =
    let one = quiet-alike e (said ++ log) quiet.0 in
    let rest = all-alike said log quiet.1 in
    record {
      placed = one.placed ∙ rest.placed;
      swept = one.swept ∙ rest.swept;
      refused = one.refused ∙ rest.refused;
      took = one.took ∙ rest.took;
      last = λ p. one.last p ∙ rest.last p;
    }
