-- What a log tells of the sets that a call looked into: what was seen, popped and swept there, and in which order.
use Rattle.std.specs.Prelude.{◌≡◌, ◌⊎◌, ℕ, ◌+◌, ◌<◌, List, ◌++◌}
use Rattle.worker_log.specs.declared.Entry.{Entry}
use Rattle.worker_log.specs.SetNumbers.{swept_set, unswept_set}
use Rattle.worker_log.specs.Entries.{is_blank_look, is_empty_look, is_pop, is_pop_of, is_seen_empty, is_sweep_of, many}
use Rattle.central_lists.specs.declared.answers.Look.{Look}
use Rattle.central_lists.specs.declared.answers.Look.TheVariants.{Empty, NotYet}

-- how many entries of the unswept sets of a class a log pops
abbrev pub tries : ℕ → ℕ → List Entry → ℕ
tries g class said = many (is_pop (unswept_set g class 0)) said + many (is_pop (unswept_set g class 1)) said

-- a log has one property, and what came later has another
abbrev pub Then : (List Entry → Type 0) → (List Entry → Type 0) → List Entry → Type 0
Then P Q said = (later : List Entry) × (first : List Entry) × (said ≡ later ++ first) × P first × Q later

-- the swept partial set was seen as it is told
abbrev pub Saw : ℕ → Look → List Entry → Type 0
Saw set (Empty at) said = 0 < many (is_empty_look set at) said
Saw set (NotYet at) said = 0 < many (is_blank_look set at) said

-- it was seen without a span
abbrev pub SawNone : ℕ → List Entry → Type 0
SawNone set said = (look : Look) × Saw set look said

-- a set was seen empty
abbrev pub SawEmpty : ℕ → List Entry → Type 0
SawEmpty set said = 0 < many (is_seen_empty set) said

-- a hundred entries were popped, or the unswept partial set of the class was seen empty, and then the unswept full one
abbrev pub TriedEnough : ℕ → ℕ → ℕ → List Entry → Type 0
TriedEnough g class tried said = (tried ≡ 100) ⊎ Then (SawEmpty (unswept_set g class 0)) (SawEmpty (unswept_set g class 1)) said

-- the page was popped from the swept partial set
abbrev pub PoppedIt : ℕ → ℕ → ℕ → List Entry → Type 0
PoppedIt g class page said = 0 < many (is_pop_of (swept_set g class 0) page) said

-- the page was swept
abbrev pub SweptIt : ℕ → List Entry → Type 0
SweptIt page said = 0 < many (is_sweep_of page) said

-- anything
abbrev pub AnyLog : List Entry → Type 0
AnyLog said = Unit {0}
