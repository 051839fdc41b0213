-- Which spans wait for their sweep, by the generation words of their pages.
use Rattle.std.specs.Prelude.{◌≡◌, ◌≢◌, ◌+◌, ◌<◌, ◌≤◌, ℕ, false, List, slice_index}
use Rattle.span_state.specs.MarkSet.{has_pair}

-- no object of the page's span is marked
abbrev pub HasNoMark : List (ℕ × ℕ) → ℕ → Type 0
HasNoMark marks p = (k : ℕ) → has_pair marks p k ≡ false

-- of these pages none without a mark has the word of a span that waits at this generation
abbrev pub NoneIsWaiting : List ℕ → ℕ → List (ℕ × ℕ) → ℕ → ℕ → Type 0
NoneIsWaiting words generation marks from to = (p : ℕ) → from ≤ p → p < to → HasNoMark marks p → slice_index words p + 2 ≢ generation
