-- What contracts see of a worker behind a mark end.
use Rattle.std.specs.Prelude.{ℕ, ◌+◌, List, [], ◌∷◌, ◌++◌, map, None, unwrap_or}
use Rattle.page_bitmap.specs.declared.line.Line.{Line}
use Rattle.worker_log.specs.Logs.{placings}
use Rattle.span_laws.specs.declared.view.Part.{Part}
use Rattle.span_laws.specs.declared.view.View.{View}
use Rattle.span_laws.specs.Views.{Seen, parts_of}

-- a part as a mark end leaves it: nothing of the cycle before is told any more
abbrev pub rested : Part → Part
rested h = record h { swept = []; log = []; fresh = []; read = []; reset = [] }

-- the pairs of first page and index at which objects were placed, by the logs of all workers
abbrev pub placed_pairs : List Part → List (ℕ × ℕ)
placed_pairs [] = []
placed_pairs (h ∷ parts) = map (λ a. (a.page, a.index)) (placings h.log) ++ placed_pairs parts

-- the pairs that are allocated as a cycle ends: those that the mark end before it marked, and those at which objects were placed
abbrev pub allocated_pairs : ℕ → View → List (ℕ × ℕ)
allocated_pairs n v = v.marks ++ placed_pairs (parts_of n v)

-- the view of worker n behind a mark end with these marks, where the journal was this one
abbrev pub marked : ℕ → List Line → List (ℕ × ℕ) → View → View
marked n past marks v = record v { generation = v.generation + 2; marks = marks; before = past; carried = allocated_pairs n v; own = rested v.own; parts = map rested v.parts }

-- a worker behind it, which was told the journal, and is told of nothing since
abbrev pub after_next : List (ℕ × ℕ) → Seen → Seen
after_next marks w = record w { journal = None; view = marked w.number (unwrap_or w.journal []) marks w.view }
