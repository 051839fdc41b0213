-- When a draft stands behind the lines so far: it counts what they hold, and has what is live and marked.
use Rattle.std.specs.Prelude.{◌≡◌, ℕ, ◌+◌, Bool, false, List, [], ◌∷◌, length, nat_le, Option, Some, None, ◌≤◌, ◌++◌}
use Rattle.std.specs.List.{AllByRecursion}
use Rattle.trace_reader.specs.declared.statement.Statement.{Statement}
use Rattle.trace_reader.specs.declared.statement.Statement.TheVariants.{Title, Heap}
use Rattle.trace_reader.specs.declared.statement.HeapForm.{HeapForm}
use Rattle.trace_reader.specs.declared.draft.Draft.{Draft}
use Rattle.trace_reader.specs.declared.span.Span.{Span}
use Rattle.trace_reader.specs.Rising.{AreSpans}
use Rattle.trace_reader.specs.Past.{before_mark_end, is_live, is_marked, mark_ends_of, marks_of, objects_of, procs_of}
use Rattle.trace_reader.specs.Checks.{may_begin}
use Rattle.trace_reader.specs.Refusal.{is_end, statement_fault}
use Rattle.trace_reader.specs.Kept.{in_spans, lives, Skips}
use Rattle.trace_reader.specs.Draft.{kept_of, HasEnd, told_of}

-- behind the header
abbrev pub IsBody : List Statement → Type 0
IsBody [] = ⊥
IsBody (s ∷ []) = ⊥
IsBody (s ∷ t ∷ past) = Unit {0}

-- a mark may begin with this object behind these lines
abbrev pub begins : List Statement → ℕ → Bool
begins [] lo = false
begins (newest ∷ past) lo = may_begin newest lo

-- 1 where marks may go on
abbrev pub ends_in : Option ℕ → ℕ
ends_in None = 0
ends_in (Some distance) = 1

-- the first object behind these spans
abbrev pub behind_spans : ℕ → List Span → ℕ
behind_spans from [] = from
behind_spans from (s ∷ ss) = behind_spans (s.hi + 1) ss

-- the draft counts what the lines before it hold
pub record Counts (past : List Statement) (d : Draft) : Type 0 where
  pub body : IsBody past
  pub procs : procs_of past ≡ d.procs
  pub objects : objects_of past ≡ d.objects
  pub ends : mark_ends_of past ≡ length d.cycles + ends_in d.distance
  pub marks : marks_of past + d.marks_left ≡ 20000000
  pub order : d.first ≤ d.objects
  pub kept : AreSpans 0 (kept_of d.cycles)
  pub ended : AllByRecursion HasEnd d.cycles

-- no marks may go on, and the draft has what is live
pub record IsResting (past : List Statement) (d : Draft) : Type 0 where
  pub live : (i : ℕ) → is_live past i ≡ lives (kept_of d.cycles) d.first d.objects i

-- marks may go on, and the draft has what may be marked, what is marked, and where the marks end
pub record IsMarking (past : List Statement) (d : Draft) : Type 0 where
  pub begins : (lo : ℕ) → begins past lo ≡ nat_le d.next lo
  pub live : (i : ℕ) → is_live (before_mark_end past) i ≡ lives (kept_of d.cycles) d.first d.objects i
  pub marked : (i : ℕ) → is_marked past i ≡ in_spans d.marks i
  pub latest : (i : ℕ) → is_live past i ≡ is_marked past i
  pub spans : AreSpans 0 d.marks
  pub next : behind_spans 0 d.marks ≡ d.next
  pub passed : Skips (kept_of d.cycles) d.passed d.next

abbrev pub FollowsAt : List Statement → Draft → Option ℕ → Type 0
FollowsAt past d None = IsResting past d × ((lo : ℕ) → begins past lo ≡ false)
FollowsAt past d (Some distance) = IsMarking past d

-- the draft stands behind these lines
abbrev pub Follows : List Statement → Draft → Type 0
Follows past d = Counts past d × FollowsAt past d d.distance

-- nothing is wrong with the statement behind these lines
abbrev pub IsFaultless : List Statement → Statement → Type 0
IsFaultless past s = (n : ℕ) → statement_fault n past s ≡ None

-- the draft took the statement, with which nothing was wrong, and which is not the last one
pub record Took (old new : Draft) (s : Statement) : Type 0 where
  pub goes_on : is_end (Some s) ≡ false
  pub told : told_of new ≡ told_of old ++ s ∷ []
  pub faultless : (past : List Statement) → Follows past old → IsFaultless past s
  pub follows : (past : List Statement) → Follows past old → Follows (s ∷ past) new

-- these are the lines up to the header, which has so many processors
abbrev pub IsStart : List Statement → ℕ → Type 0
IsStart past procs = (version : ℕ) × (h : HeapForm) × (past ≡ Heap h ∷ Title version ∷ []) × (h.procs ≡ procs)
