use Rattle.std.proofs.Common.{◌≡◌, ℕ, ◌+◌, ◌≤◌, take, length, vec_len, vec_capacity}
use Rattle.page_alloc.specs.Cuts.{behind_cuts, with_firsts, with_lengths}
use Rattle.page_alloc.specs.Journal.{past_of}
use Rattle.page_alloc.specs.Region.{pages_in}
use Rattle.page_alloc.proofs.allocator.note_cuts.Given as goal

-- the cuts so far are written
abbrev pub invariant-loop-cut : goal.invariant-loop-cut
invariant-loop-cut l = record {
  past : past_of l.journal.items ≡ behind_cuts l.cycle l.proc (take l.cut-index l.cuts) (past_of l.initial.journal.items);
  len : vec_len l.journal ≡ vec_len l.initial.journal + l.cut-index;
  capacity : vec_capacity l.initial.journal ≤ vec_capacity l.journal;
  maps : length l.starts ≡ length l.initial.starts;
  starts : (p : ℕ) → pages_in l.starts p ≡ with_firsts (take l.cut-index l.cuts) (pages_in l.initial.starts) p;
  lengths : l.lengths ≡ with_lengths (take l.cut-index l.cuts) l.initial.lengths;
}
