-- Looks over many pages or sets by one call: the entries that a log gains, and what they tell.
use Rattle.std.specs.Prelude.{◌≡◌, ◌≢◌, ℕ, ◌+◌, ◌*◌, ◌-◌, ◌/◌, ◌%◌, ◌<◌, ◌≤◌, false, List, ◌∷◌, ◌++◌, Option, Some, None}
use Rattle.std.specs.List.{AllByRecursion}
use Rattle.span_state.specs.declared.body.Body.{Body}
use Rattle.sweep_laws.specs.Reading.{is_swept_set}
use Rattle.sweep_reads.specs.Waiting.{HasNoMark}
use Rattle.worker_log.specs.declared.Entry.{Entry}
use Rattle.worker_log.specs.declared.Entry.TheVariants.{Looked, Found}
use Rattle.worker_log.specs.Entries.{is_seen_empty, many}
use Rattle.span_laws.specs.declared.answers.Acquired.TheVariants.{Got}
use Rattle.span_laws.specs.Answers.{AcquiresSpan}
use Rattle.span_laws.specs.Logs.{is_finding_at}
use Rattle.span_laws.specs.Views.{Seen, acts}

-- entries came to the log, and nothing else changed
abbrev pub logs : List Entry → Seen → Seen
logs said w = record w { view = acts w.view (record w.view.own { log = said ++ w.view.own.log }) }

-- the entry found, at a page from one to another, another word than that of a span that waits
abbrev pub IsPassing : ℕ → ℕ → ℕ → Entry → Type 0
IsPassing g from to (Found page word) = (from ≤ page) × (page < to) × (word + 2 ≢ g)
IsPassing g from to _ = ⊥

-- the entries are such, and tell of each of these pages without a mark
pub record PassesPages (g : ℕ) (marks : List (ℕ × ℕ)) (from to : ℕ) (said : List Entry) : Type 0 where
  pub only : AllByRecursion (IsPassing g from to) said
  pub whole : (p : ℕ) → from ≤ p → p < to → HasNoMark marks p → 0 < many (is_finding_at p) said

-- it sweeps the first span from one page to another that waits and has no mark; or none of these pages has such a span
abbrev pub AcquiresUnmarked : ℕ → ℕ → Seen → Seen → Option Body → Type 0
AcquiresUnmarked from to old new (Some body) = (said : List Entry) × PassesPages old.view.generation old.view.marks from body.page said × (from ≤ body.page) × (body.page < to)
    × HasNoMark old.view.marks body.page × AcquiresSpan body.page (logs said old) new (Got body)
AcquiresUnmarked from to old new None = (said : List Entry) × PassesPages old.view.generation old.view.marks from to said × (new ≡ logs said old)

-- the unswept sets in the order in which they are swept: by span class, the full set before the partial one
abbrev pub nth_unswept : ℕ → ℕ → ℕ
nth_unswept g i = 4 * (i / 2) + 2 * (1 - i % 2) + (g / 2 + 1) % 2

-- the entry saw an unswept set empty
abbrev pub IsEmptyLook : ℕ → Entry → Type 0
IsEmptyLook g (Looked set head tail) = (is_swept_set g set ≡ false) × (head ≡ tail)
IsEmptyLook g _ = ⊥

-- the entries are such, and saw the sets at the places from one to another empty
pub record SeesEmpty (g from to : ℕ) (said : List Entry) : Type 0 where
  pub only : AllByRecursion (IsEmptyLook g) said
  pub whole : (i : ℕ) → from ≤ i → i < to → 0 < many (is_seen_empty (nth_unswept g i)) said

-- it saw the unswept sets empty from a place in their order on, up to the set at the place that it tells, which it saw not empty; or all to the last
abbrev pub FindsUnswept : ℕ → Seen → Seen → Option ℕ → Type 0
FindsUnswept from old new (Some i) = (said : List Entry) × SeesEmpty old.view.generation from i said × (from ≤ i) × (i < 272)
    × ((head : ℕ) × (tail : ℕ) × (head ≢ tail) × (new ≡ logs (Looked (nth_unswept old.view.generation i) head tail ∷ said) old))
FindsUnswept from old new None = (said : List Entry) × SeesEmpty old.view.generation from 272 said × (new ≡ logs said old)
