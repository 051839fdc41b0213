-- What is asked of a line behind the lines before it, in this order.
use Rattle.std.specs.Prelude.{ℕ, ◌+◌, ◌-◌, ◌^◌, Bool, true, false, not, ◌&&◌, List, [], ◌∷◌, find, nat_lt, nat_le, Option, Some, None}
use Rattle.std.specs.List.{range_with_len}
use Rattle.trace_reader.specs.declared.fault.Which.{Which}
use Rattle.trace_reader.specs.declared.fault.Which.TheVariants.{Chunks, Procs, Rate, Seed, Goal, Proc, Size, Stack, Distance, Id, Objects, MarkEnds, Marks}
use Rattle.trace_reader.specs.declared.statement.Statement.{Statement}
use Rattle.trace_reader.specs.declared.statement.Statement.TheVariants.{Title, Heap, Alloc, Gc, Mark}
use Rattle.trace_reader.specs.declared.statement.HeapForm.{HeapForm}
use Rattle.trace_reader.specs.declared.statement.AllocForm.{AllocForm}
use Rattle.trace_reader.specs.Past.{before_mark_end, is_live, mark_ends_of, marks_of, objects_of, procs_of, version_of}
use Rattle.trace_reader.specs.declared.limits.TheConstants.{LATEST_VERSION}
use Rattle.trace_reader.specs.Limits.{max_chunks, max_pages}

abbrev pub within : ℕ → ℕ → ℕ → Bool
within least most n = nat_le least n && nat_le n most

-- a trace begins with its version
abbrev pub is_version : ℕ → Bool
is_version version = within 1 LATEST_VERSION version

-- marks stand directly behind a mark end, and rise
abbrev pub may_begin : Statement → ℕ → Bool
may_begin (Gc distance) lo = true
may_begin (Mark low high) lo = nat_lt high lo
may_begin s lo = false

-- the statement may stand behind these
abbrev pub may_follow : List Statement → Statement → Bool
may_follow [] (Title version) = is_version version
may_follow [] s = false
may_follow (newest ∷ []) (Heap h) = true
may_follow (newest ∷ []) s = false
may_follow (newest ∷ older ∷ past) (Title version) = false
may_follow (newest ∷ older ∷ past) (Heap h) = false
may_follow (newest ∷ older ∷ past) (Mark lo hi) = nat_le lo hi && may_begin newest lo
may_follow (newest ∷ older ∷ past) s = true

-- whether the numbers of a header behind this version and of an event are within their limits, from left to right
abbrev pub header_numbers : ℕ → HeapForm → List (Which × Bool)
header_numbers version h = (Chunks, within 1 (max_chunks version) h.chunks) ∷ (Procs, within 1 64 h.procs) ∷ (Rate, nat_le h.rate (2 ^ 30)) ∷ (Seed, nat_lt h.seed (2 ^ 64)) ∷ (Goal, nat_le h.goal (max_pages version)) ∷ []

abbrev pub event_numbers : ℕ → AllocForm → List (Which × Bool)
event_numbers procs e = (Proc, nat_lt e.proc procs) ∷ (Size, nat_le e.size (2 ^ 40)) ∷ (Stack, nat_le e.stack 999999) ∷ []

-- the same of each statement
abbrev pub numbers_within : List Statement → Statement → List (Which × Bool)
numbers_within past (Heap h) = header_numbers (version_of past) h
numbers_within past (Alloc e) = event_numbers (procs_of past) e
numbers_within past (Gc distance) = (Distance, within 1 (2 ^ 40) distance) ∷ []
numbers_within past (Mark lo hi) = (Id, nat_le lo 999999) ∷ (Id, nat_le hi 999999) ∷ []
numbers_within past s = []

-- whether the counts are within their limits with this statement
abbrev pub counts_within : List Statement → Statement → List (Which × Bool)
counts_within past (Alloc e) = (Objects, nat_lt (objects_of past) 1000000) ∷ []
counts_within past (Gc distance) = (MarkEnds, nat_lt (mark_ends_of past) 10000) ∷ []
counts_within past (Mark lo hi) = (Marks, nat_le (marks_of past + (hi + 1 - lo)) 20000000) ∷ []
counts_within past s = []

-- the first that is past its limit
abbrev pub passed : List (Which × Bool) → Option Which
passed [] = None
passed ((which, true) ∷ rest) = passed rest
passed ((which, false) ∷ rest) = Some which

-- the least object that the statement marks and that is not live
abbrev pub bad_mark : List Statement → Statement → Option ℕ
bad_mark past (Mark lo hi) = find (λ i. not (is_live (before_mark_end past) i)) (range_with_len lo (hi + 1 - lo))
bad_mark past s = None
