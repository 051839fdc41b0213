-- What a trace may hold.
use Rattle.std.specs.Prelude.{◌≡◌, ◌==◌, if◌then◌else◌, ℕ, ◌+◌, ◌-◌, ◌^◌, ◌<◌, ◌≤◌, ◌⊎◌, List, [], ◌∷◌, length, sum_by, Option, Some, None, MatchOption}
use Rattle.std.specs.List.{AllByRecursion, flat_map}
use Rattle.size_classes.specs.declared.TheConstants.{MAX_CHUNKS, MAX_PAGES}
use Rattle.trace_reader.specs.declared.limits.TheConstants.{FIRST_MAX_CHUNKS, FIRST_MAX_PAGES, LATEST_VERSION}
use Rattle.trace_reader.specs.declared.trace.Trace.{Trace}
use Rattle.trace_reader.specs.declared.trace.Header.{Header}
use Rattle.trace_reader.specs.declared.trace.Cycle.{Cycle}
use Rattle.trace_reader.specs.declared.trace.Event.{Event}
use Rattle.trace_reader.specs.declared.trace.MarkEnd.{MarkEnd}
use Rattle.trace_reader.specs.declared.span.Span.{Span}
use Rattle.trace_reader.specs.Rising.{AreSpans}
use Rattle.edge_io.specs.Text.{text}
use Rattle.trace_reader.specs.Spelling.{lines_of}

-- there are three versions of the format
abbrev pub IsVersion : ℕ → Type 0
IsVersion version = (1 ≤ version) × (version ≤ LATEST_VERSION)

-- how many chunks the region of a trace of this version may have
unfoldable pub max_chunks : ℕ → ℕ
max_chunks version = if version == 1 then FIRST_MAX_CHUNKS else MAX_CHUNKS

-- how many pages its goal may have
unfoldable pub max_pages : ℕ → ℕ
max_pages version = if version == 1 then FIRST_MAX_PAGES else MAX_PAGES

-- the numbers of a header are within the limits that they have in any version
pub record HeaderFits (h : Header) : Type 0 where
  pub version : IsVersion h.version
  pub chunks : (1 ≤ h.chunks) × (h.chunks ≤ MAX_CHUNKS)
  pub procs : (1 ≤ h.procs) × (h.procs ≤ 64)
  pub rate : h.rate ≤ 2 ^ 30
  pub seed : h.seed < 2 ^ 64
  pub goal : h.goal ≤ MAX_PAGES

-- the region and the goal of a header are within the limits of its version
abbrev pub RegionFits : Header → Type 0
RegionFits h = (h.chunks ≤ max_chunks h.version) × (h.goal ≤ max_pages h.version)

-- the numbers of an event are
pub record EventFits (procs : ℕ) (e : Event) : Type 0 where
  pub proc : e.proc < procs
  pub size : e.size ≤ 2 ^ 40
  pub stack : e.stack ≤ 999999

-- all events, in order; an object's number is its event's place
abbrev pub events_of : Trace → List Event
events_of t = flat_map (λ c. c.events) t.cycles

-- object i is named by one of the spans
abbrev pub IsMarked : List Span → ℕ → Type 0
IsMarked [] i = ⊥
IsMarked (s ∷ ss) i = ((s.lo ≤ i) × (i ≤ s.hi)) ⊎ IsMarked ss i

-- A mark end stands between two neighbouring cycles. It marks objects of the cycle before it, which begins
-- at object first, and objects that the mark end before it marked.
abbrev pub AreCycles : ℕ → (ℕ → Type 0) → List Cycle → Type 0
AreCycles first live [] = ⊥
AreCycles first live (c ∷ []) = c.mark ≡ None
AreCycles first live (c ∷ d ∷ cs) = MatchOption c.mark ⊥ (λ m. (1 ≤ m.distance) × (m.distance ≤ 2 ^ 40) × AreSpans 0 m.marks
    × ((i : ℕ) → IsMarked m.marks i → live i ⊎ ((first ≤ i) × (i < first + length c.events)))
    × AreCycles (first + length c.events) (IsMarked m.marks) (d ∷ cs))

-- how many objects a mark end marks, if there is one
abbrev pub marked_by : Option MarkEnd → ℕ
marked_by None = 0
marked_by (Some m) = sum_by (λ s. s.hi + 1 - s.lo) m.marks

-- all limits of a trace but the one on its bytes
pub record WithinLimits (t : Trace) : Type 0 where
  pub header : HeaderFits t.header
  pub region : RegionFits t.header
  pub events : AllByRecursion (EventFits t.header.procs) (events_of t)
  pub cycles : AreCycles 0 (λ _. ⊥) t.cycles
  pub objects : length (events_of t) ≤ 1000000
  pub mark_ends : length t.cycles ≤ 10001
  pub marks : sum_by (λ c. marked_by c.mark) t.cycles ≤ 20000000

-- the bytes are the lines of the trace, and at most so many
pub record SpellsWithin (limit : ℕ) (bytes : List ℕ) (t : Trace) : Type 0 where
  pub lines : bytes ≡ text (lines_of t)
  pub limits : WithinLimits t
  pub room : length bytes ≤ limit

-- the bytes spell the trace
abbrev pub Spells : List ℕ → Trace → Type 0
Spells bytes t = SpellsWithin 67108864 bytes t
