-- What calls ask of a worker's part, and of a body that it was lent.
use Rattle.std.specs.Prelude.{◌≡◌, ◌⊎◌, ℕ, ◌+◌, ◌<◌, true, false, List, [], Some, None}
use Rattle.atomic_table.specs.Seated.{TableId}
use Rattle.page_bitmap.specs.declared.line.Line.{Line}
use Rattle.sweep_laws.specs.Lists.{has}
use Rattle.sweep_laws.specs.Counts.{times}
use Rattle.sweep_laws.specs.Reading.{class_of_set, is_swept_set}
use Rattle.span_state.specs.declared.body.Body.{Body}
use Rattle.span_laws.specs.declared.view.Part.{Part}
use Rattle.span_laws.specs.declared.view.Span.{Span}
use Rattle.worker_log.specs.SetNumbers.{is_full_set}
use Rattle.worker_log.specs.Entries.{many, is_placing_in, is_pop_of}
use Rattle.span_laws.specs.Views.{Seen, span_at, span_of}
use Rattle.span_laws.specs.BodyAsks.{IsSpanOf}

-- how often the worker sweeps, holds or has cached a page
abbrev pub mine : ℕ → Part → ℕ
mine p h = times p h.sweeping + times p h.held + times p h.cached

-- the body is the one that was lent to the worker last for its page, unchanged
abbrev pub HasBody : Part → Body → Type 0
HasBody h b = span_at b.page h.spans ≡ Some (span_of b)

abbrev pub HasSpan : Part → Body → Type 0
HasSpan h b = (s : Span) × (span_at b.page h.spans ≡ Some s) × IsSpanOf s b

-- the log has no pop of the page from a swept set and no placing in it
pub record IsUntouched (generation : ℕ) (h : Part) (page : ℕ) : Type 0 where
  pub pops : (j : ℕ) → j < 544 → is_swept_set generation j ≡ true → many (is_pop_of j page) h.log ≡ 0
  pub placings : many (is_placing_in page) h.log ≡ 0

-- the worker had nothing of a page that it took from a set; and from a full set it has popped none that it took from a partial one
pub record IsTaken (generation set : ℕ) (h : Part) (page : ℕ) : Type 0 where
  pub nothing : mine page h ≡ 0
  pub unpopped : is_full_set set ≡ false → (j : ℕ) → j < 544 → is_swept_set generation j ≡ true → is_full_set j ≡ true → many (is_pop_of j page) h.log ≡ 0

-- the body is of the class of each unswept set from which the log tells that its page was popped
abbrev pub IsOfPops : ℕ → Part → Body → Type 0
IsOfPops generation h b = (j : ℕ) → is_swept_set generation j ≡ false → 0 < many (is_pop_of j b.page) h.log → class_of_set j ≡ b.class

-- the worker neither sweeps nor holds the span of the page, nor has it cached
pub record IsApart (h : Part) (page : ℕ) : Type 0 where
  pub sweeping : has page h.sweeping ≡ false
  pub held : has page h.held ≡ false
  pub cached : has page h.cached ≡ false

-- objects may be placed in the body: the worker cached it in this cycle, has no other span of its class cached, and holds no other
-- one in which it placed objects; or it holds it, claims nothing, and the body is of one object
abbrev pub MayPlace : Part → Body → Type 0
MayPlace h b = ((has b.page h.cached ≡ true) × (has b.page h.fresh ≡ true)
    × ((q : ℕ) (s : Span) → has q h.cached ≡ true → span_at q h.spans ≡ Some s → s.class ≡ b.class → q ≡ b.page)
    × ((q : ℕ) → has q h.held ≡ true → 0 < many (is_placing_in q) h.log → q ≡ b.page))
    ⊎ ((has b.page h.held ≡ true) × (h.claimed ≡ None) × (b.count ≡ 1))

-- the worker sweeps and holds nothing, has popped nothing and claims nothing
pub record IsIdle (h : Part) : Type 0 where
  pub sweeping : h.sweeping ≡ []
  pub held : h.held ≡ []
  pub popped : h.popped ≡ []
  pub claimed : h.claimed ≡ None

-- each span that the worker has cached was cached since the last mark end
abbrev pub IsFresh : Part → Type 0
IsFresh h = (p : ℕ) → has p h.cached ≡ true → has p h.fresh ≡ true

-- the worker was told the whole journal, and nothing was written since
abbrev pub KnowsJournal : Seen → Type 0
KnowsJournal w = (past : List Line) × (w.journal ≡ Some past)

-- the worker is one of this table, and has nobody out
abbrev pub IsAtWork : TableId → Seen → Type 0
IsAtWork t w = (w.table ≡ t) × (w.away ≡ [])
