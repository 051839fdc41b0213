-- What a pop did, by its answer.
use Rattle.std.specs.Prelude.{◌≡◌, ℕ, suc, ◌+◌, ◌^◌, ◌<◌, ◌≤◌, List, ◌++◌, Result, Ok, Err}
use Rattle.std.specs.List.{AllByRecursion}
use Rattle.worker_log.specs.declared.Entry.{Entry}
use Rattle.worker_log.specs.declared.Entry.TheVariants.{Looked}
use Rattle.span_laws.specs.declared.said.Said.TheVariants.{Looks, LooksCell, PopsEntry, Reads}
use Rattle.span_laws.specs.declared.said.SaidOf.TheVariants.{Pops}
use Rattle.span_laws.specs.declared.view.Cell.{Cell}
use Rattle.span_laws.specs.Answers.{IsOfSet}
use Rattle.span_laws.specs.Asks.{IsTaken}
use Rattle.worker_log.specs.Entries.{is_pop, many}
use Rattle.span_laws.specs.Views.{Seen, acts, span_of}
use Rattle.span_laws.specs.OwnSteps.{after_of, after_said}
use Rattle.span_set.specs.declared.answers.Pop.{Pop}
use Rattle.span_set.specs.declared.answers.Pop.TheVariants.{Taken, Empty, NotYet}
use Rattle.span_set.specs.declared.answers.PopBase.{PopBase}
use Rattle.span_set.specs.declared.answers.PopBase.TheVariants.{Popped, Empty as EmptyBase}

-- an entry is a look at head and tail of the set
abbrev pub IsLookAt : ℕ → Entry → Type 0
IsLookAt set (Looked s head tail) = s ≡ set
IsLookAt set _ = ⊥

-- a worker that looked besides: its log has these entries more, and it remembers these cells
abbrev pub with_looks : List Entry → List Cell → Seen → Seen
with_looks said cells w = record w { view = acts w.view (record w.view.own { log = said ++ w.view.own.log; read = cells ++ w.view.own.read }) }

-- the worker read the generation and looked at head and tail of the set some times, at last as they are given, and at cells; before, it had
-- popped no more than that head from the set
pub record LooksLast (set head tail : ℕ) (old now : Seen) : Type 0 where
  pub said : List Entry
  pub cells : List Cell
  pub looks : AllByRecursion (IsLookAt set) said
  pub view : now ≡ after_said (Looks set head tail) (with_looks said cells (after_said (Reads 1 old.view.generation) old))
  pub passed : many (is_pop set) old.view.own.log ≤ head

-- it saw the cell at the head name the page, popped that span, of which it had nothing, while head and tail were the same, and holds it; or it saw head and tail equal;
-- or it saw the cell at the head not filled
abbrev pub PopsSwept : ℕ → Seen → Seen → Pop → Type 0
PopsSwept set old new (Taken body) = (head : ℕ) × (tail : ℕ) × (now : Seen) × (LooksLast set head tail old now) × (head < tail)
    × (new ≡ after_of (Pops set) (span_of body) (after_said (LooksCell set head (suc body.page)) now)) × IsOfSet set body
    × IsTaken old.view.generation set old.view.own body.page
PopsSwept set old new (Empty head tail) = (head ≡ tail) × LooksLast set head tail old new
PopsSwept set old new (NotYet head) = (tail : ℕ) × (now : Seen) × (LooksLast set head tail old now) × (head < tail) × (new ≡ after_said (LooksCell set head 0) now)

-- the same of an unswept set, whose cells are filled, and whose tail has 32 bits
abbrev pub PopsUnswept : ℕ → Seen → Seen → PopBase → Type 0
PopsUnswept set old new (Popped page) = (head : ℕ) × (tail : ℕ) × (now : Seen) × (LooksLast set head tail old now) × (head < tail)
    × (new ≡ after_said (PopsEntry set page) (after_said (LooksCell set head (suc page)) now)) × (page < old.view.region) × (tail < 2 ^ 32)
PopsUnswept set old new (EmptyBase head tail) = (head ≡ tail) × LooksLast set head tail old new

-- a lost try, of numbers of 32 bits, found head or tail risen, and the head no less than the pops from the set before
pub record LosesTry (set head tail : ℕ) (old new : Seen) (found : ℕ × ℕ) : Type 0 where
  pub cell : ℕ
  pub view : new ≡ after_said (Looks set found.0 found.1) (after_said (LooksCell set head (suc cell)) old)
  pub order : found.0 ≤ found.1
  pub low : tail < 2 ^ 32
  pub rose : head + tail < found.0 + found.1
  pub passed : many (is_pop set) old.view.own.log ≤ found.0

-- one try of a pop, where head and tail were seen last
abbrev pub TriesSwept : ℕ → ℕ → ℕ → Seen → Seen → Result Pop (ℕ × ℕ) → Type 0
TriesSwept set head tail old new (Ok (Taken body)) = (head < tail) × (new ≡ after_of (Pops set) (span_of body) (after_said (LooksCell set head (suc body.page)) old)) × IsOfSet set body
    × IsTaken old.view.generation set old.view.own body.page
TriesSwept set head tail old new (Ok (Empty h t)) = (h ≡ head) × (t ≡ tail) × (head ≡ tail) × (new ≡ old)
TriesSwept set head tail old new (Ok (NotYet h)) = (h ≡ head) × (head < tail) × (new ≡ after_said (LooksCell set head 0) old)
TriesSwept set head tail old new (Err found) = LosesTry set head tail old new found

abbrev pub TriesUnswept : ℕ → ℕ → ℕ → Seen → Seen → Result PopBase (ℕ × ℕ) → Type 0
TriesUnswept set head tail old new (Ok (Popped page)) = (head < tail) × (new ≡ after_said (PopsEntry set page) (after_said (LooksCell set head (suc page)) old)) × (page < old.view.region) × (tail < 2 ^ 32)
TriesUnswept set head tail old new (Ok (EmptyBase h t)) = (h ≡ head) × (t ≡ tail) × (head ≡ tail) × (new ≡ old)
TriesUnswept set head tail old new (Err found) = LosesTry set head tail old new found
