-- What contracts see of the marks of a mark end.
use Rattle.std.specs.Prelude.{ℕ, Bool, ◌==◌, ◌&&◌, if◌then◌else◌, List, [], ◌∷◌, count_by, unwrap_or}
use Rattle.std.specs.declared.cmp.Ordering.{Ordering}
use Rattle.std.specs.Ordering.{nat_cmp, ordering_then}
use Rattle.std.specs.List.{list_any}
use Rattle.std.specs.List.Sorted.{IsStrictlySortedBy}
use Rattle.std.specs.BTreeMap.{is_at}
use Rattle.std.specs.Map.{lookup}

-- The marked pairs of a span's first page and an index, and the dead buckets by page.
pub record MarkSet : Type 0 where
  pub pairs : List (ℕ × ℕ)
  pub deaths : List (ℕ × List ℕ)

-- the order of pairs: by page, and then by index
abbrev pub pair_cmp : ℕ × ℕ → ℕ × ℕ → Ordering
pair_cmp x y = ordering_then (nat_cmp x.0 y.0) (nat_cmp x.1 y.1)

-- Each pair stands before all pairs that come after it.
abbrev pub IsRising : List (ℕ × ℕ) → Type 0
IsRising pairs = IsStrictlySortedBy pair_cmp pairs

-- whether the index of the page is among the pairs
abbrev pub has_pair : List (ℕ × ℕ) → ℕ → ℕ → Bool
has_pair pairs page index = list_any (λ p. p.0 == page && p.1 == index) pairs

-- how many of the pairs are of the page
abbrev pub pairs_at : List (ℕ × ℕ) → ℕ → ℕ
pairs_at pairs page = count_by (λ p. p.0 == page) pairs

-- the indices of the page among the pairs, in their order
abbrev pub indices_at : ℕ → List (ℕ × ℕ) → List ℕ
indices_at page [] = []
indices_at page (p ∷ pairs) = if p.0 == page then p.1 ∷ indices_at page pairs else indices_at page pairs

-- whether the index of the page is marked
abbrev pub is_marked : MarkSet → ℕ → ℕ → Bool
is_marked marks page index = has_pair marks.pairs page index

-- how many indices of the page are marked
abbrev pub marked_count : MarkSet → ℕ → ℕ
marked_count marks page = pairs_at marks.pairs page

-- the buckets of the page's sampled objects that died, in the order in which they were added
abbrev pub dead_of : MarkSet → ℕ → List ℕ
dead_of marks page = unwrap_or (lookup (is_at (nat_cmp page)) marks.deaths) []
