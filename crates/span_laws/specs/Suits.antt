-- What a step must suit besides the needs of its move, so that the rule is kept.
use Rattle.std.specs.Prelude.{◌≡◌, ◌⊎◌, ℕ, ◌+◌, ◌<◌, true, false, length, Some, None}
use Rattle.page_alloc.specs.Heap.{PageHeap}
use Rattle.sweep_laws.specs.Lists.{has}
use Rattle.sweep_laws.specs.Reading.{cell_of, set_of}
use Rattle.sweep_laws.specs.State.{CoreState}
use Rattle.span_state.specs.Bits.{bit_of, with_bit}
use Rattle.span_state.specs.MarkSet.{has_pair}
use Rattle.span_laws.specs.declared.said.Said.{Said}
use Rattle.span_laws.specs.declared.said.Said.TheVariants.{Finds, Caches, Uncaches, UncachesStale, Looks, LooksCell, Fills, PopsEntry, Reads, Adds, Resets, FindsNoPage, FindsNoCut}
use Rattle.span_laws.specs.declared.said.SaidOf.{SaidOf}
use Rattle.span_laws.specs.declared.said.SaidOf.TheVariants.{Releases, Places}
use Rattle.span_laws.specs.declared.view.Part.{Part}
use Rattle.span_laws.specs.declared.view.Span.{Span}
use Rattle.span_laws.specs.declared.view.View.{View}
use Rattle.span_laws.specs.Views.{span_at}
use Rattle.span_laws.specs.Bodies.{lends}
use Rattle.sweep_laws.specs.Counts.{times}
use Rattle.worker_log.specs.Entries.{is_placing_in, many}

-- two spans are one but for what is allocated and the free index
pub record IsPlaceOf (s b : Span) : Type 0 where
  pub page : s.page ≡ b.page
  pub pages : s.pages ≡ b.pages
  pub count : s.count ≡ b.count
  pub class : s.class ≡ b.class
  pub life : s.life ≡ b.life

-- the newest lent span of the page is of this place
abbrev pub WasLent : Part → Span → Type 0
WasLent h b = (s : Span) × (span_at b.page h.spans ≡ Some s) × IsPlaceOf s b

-- a popped entry is that of the cell at the head, and a cell is filled for the own claim
abbrev pub Suits : CoreState → Part → Said → Type 0
Suits c h (PopsEntry set page) = (cell_of (set_of c set) (set_of c set).head ≡ page + 1) × (page < length c.words) × (set < 544)
Suits c h (Fills set page) = (index : ℕ) × (h.claimed ≡ Some (record { set = set; index = index; page = page }))
Suits c h (Finds page word) = Unit {0}
Suits c h (Caches page) = Unit {0}
Suits c h (Uncaches page) = Unit {0}
Suits c h (UncachesStale page) = Unit {0}
Suits c h _ = ⊥

-- a released body has its marks; an object is placed at the index
abbrev pub SuitsOf : CoreState → PageHeap → View → SaidOf → Span → Type 0
SuitsOf c heap v Releases b = WasLent v.own b × ((k : ℕ) → bit_of b.bits k ≡ has_pair v.marks b.page k)
SuitsOf c heap v (Places index) b = (s : Span) × (span_at b.page v.own.spans ≡ Some s) × IsPlaceOf s b × ((k : ℕ) → bit_of b.bits k ≡ with_bit index (bit_of s.bits) k) × (0 < lends b.page v.own)
    × ((0 < times b.page v.own.cached) ⊎ ((0 < times b.page v.own.held) × (v.own.claimed ≡ None)))
SuitsOf c heap v _ b = ⊥

-- an object is placed in a span of one object, or in one beside which the worker has cached no other of the class, and holds no other
-- in which it placed objects
abbrev pub PlacesAlone : Part → SaidOf → Span → Type 0
PlacesAlone h (Places index) b = (((q : ℕ) (s : Span) → has q h.cached ≡ true → span_at q h.spans ≡ Some s → s.class ≡ b.class → q ≡ b.page)
    × ((q : ℕ) → has q h.held ≡ true → 0 < many (is_placing_in q) h.log → q ≡ b.page)) ⊎ (b.count ≡ 1)
PlacesAlone h _ b = Unit {0}

-- an entry comes without a move; one of a page that was popped does not
abbrev pub IsQuiet : Part → Said → Type 0
IsQuiet h (Finds page word) = has page h.popped ≡ false
IsQuiet h (Looks set head tail) = Unit {0}
IsQuiet h (LooksCell set index cell) = Unit {0}
IsQuiet h (Reads word value) = Unit {0}
IsQuiet h (Adds word value number) = Unit {0}
IsQuiet h (Resets set) = Unit {0}
IsQuiet h FindsNoPage = Unit {0}
IsQuiet h (FindsNoCut pages left) = Unit {0}
IsQuiet h _ = ⊥
