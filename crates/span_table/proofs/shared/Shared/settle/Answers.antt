use Rattle.std.proofs.Common.{◌≡◌, ℕ, ◌+◌, List, length, sym, ap, subst, ◌∙◌, arith, not, true≢false}
use Rattle.std.proofs.lemmas.List.{length-reverse}
use Rattle.std.specs.Prelude.{None, Some, Option, is_some}
use Rattle.page_alloc.specs.Cuts.{Settles as Writes}
use Rattle.page_cache.specs.declared.block.CutNote.{CutNote}
use Rattle.span_laws.specs.TakeAnswers.{cycle_at}
use Rattle.page_bitmap.specs.declared.line.Line.{Line}
use Rattle.page_cache.specs.declared.block.Block.{Block}
use Rattle.span_laws.specs.CacheAnswers.{SettlesBlock, block_of}
use Rattle.span_laws.specs.OwnSteps.{after_said}
use Rattle.span_laws.specs.Views.{Seen}
use Rattle.sweep_laws.proofs.NeedsMet.{some_none}
use Rattle.span_laws.specs.declared.said.Said.TheVariants.{Settles}
use Rattle.span_table.specs.Asks.{SettlesRun}
use Rattle.span_table.specs.Known.{known}
use Rattle.span_table.specs.Seats.{SeatState, locks, says, unlocks}
use Rattle.span_table.proofs.CacheCalls.{asks, own_cache, settles, some_block}
use Rattle.span_table.proofs.shared.Shared.settle.Goals as goal

abbrev here : (g : _) → (c : goal.After-heap-2-1 g) → (b : Block) × (c.in-Some.cache.block ≡ Some b)
here g c = some_block c.in-Some.cache.block (λ none. true≢false (sym (ap not c.if-is_none.false) ∙ sym c.is_none.ensures ∙ ap is_some (c.block.ensures.block ∙ none)))

pub settle-requires-clause-cut : goal.settle-requires-clause-cut
settle-requires-clause-cut g c = let i = c.w.inside in let h = here g c in
    asks i.number i.generation i.goal i.spares i.cache i.line i.seat.table_id i.seat.me c.w.invariant c.in-Some.cache c.in-Some.is h.0 h.1 c.lock-heap.result c.lock-heap.ensures.heap

-- the journal's lines, and the cuts
counted : (g : _) → (c : goal.After-heap-3-1 g) → length c.journal.result.now + length c.cuts.result.now ≡ length c.in-Some.cache.cuts + length c.lock-heap.result.past
counted g c = let a = ap (λ (l : List Line). length l) c.journal.ensures.lines in let b = length-reverse c.journal.result.now in let z = ap (λ (l : List CutNote). length l) c.cuts.ensures.cuts in omega arith

-- the heap as it came with the lock, and the cycle that the call writes
run_of : (g : _) → (c : goal.After-heap-3-1 g) → SettlesRun c.settle.new.self (length c.journal.result.now + length c.cuts.result.now) (locks c.lock-heap.result c.w.inside.seat.me.0)
run_of g c = let i = c.w.inside in let h = some_block c.in-Some.cache.block (λ none. true≢false (sym (ap not c.if-is_none.false) ∙ sym c.is_none.ensures ∙ ap is_some (c.block.ensures.block ∙ none))) in
    settles i.number i.generation i.goal i.spares i.cache i.line i.seat.table_id i.seat.me c.w.invariant c.in-Some.cache c.in-Some.is h.0 h.1 c.lock-heap.result c.settle.new.self c.lock-heap.ensures.heap
    (subst (λ (z : ℕ). Writes c.lock-heap.result c.settle.new.self (cycle_at z) c.in-Some.cache) c.w.invariant.generation_is c.settle.ensures.settled)
    (length c.journal.result.now + length c.cuts.result.now) (counted g c)

pub settle_block-requires-clause-run : goal.settle_block-requires-clause-run
settle_block-requires-clause-run g c = subst (λ (w : SeatState). SettlesRun c.settle.new.self (length c.journal.result.now + length c.cuts.result.now) w.0) (sym c.lock-heap.ensures.view) (run_of g c)

pub returns-clause-settles : goal.returns-clause-settles
returns-clause-settles g c =
    let s = c.w.inside.seat.me.0 in let last = length c.journal.result.now + length c.cuts.result.now in
    let locked : c.lock-heap.new.seat.me.0 ≡ locks c.lock-heap.result s = ap (λ (z : SeatState). z.0) c.lock-heap.ensures.view in
    let settled : c.settle_block.new.seat.me.0 ≡ locks c.settle.new.self (says (Settles last) (locks c.lock-heap.result s)) = ap (λ (z : SeatState). z.0) c.settle_block.ensures.view ∙ ap (λ w. locks c.settle.new.self (says (Settles last) w)) locked in
    let viewed : c.unlock.new.seat.me.0 ≡ unlocks (locks c.settle.new.self (says (Settles last) (locks c.lock-heap.result s))) = ap (λ (z : SeatState). z.0) c.unlock.ensures.view ∙ ap unlocks settled in
    let now : known c.unlock.new.seat.table_id c.unlock.new.seat.me.0 ≡ after_said (Settles last) c.args.w.now =
    (λ j. known ((c.unlock.ensures.table ∙ c.settle_block.ensures.table ∙ c.lock-heap.ensures.table) j) (viewed j)) ∙ ap (after_said (Settles last)) c.w.view_is in
    let i = c.w.inside in let h = some_block c.in-Some.cache.block (λ none. true≢false (sym (ap not c.if-is_none.false) ∙ sym c.is_none.ensures ∙ ap is_some (c.block.ensures.block ∙ none))) in
    let out : block_of c.args.w.now.view.own.cache ≡ Some h.0 = ap (λ (k : Seen). block_of k.view.own.cache) (sym c.w.view_is)
    ∙ ap block_of (own_cache i.number i.generation i.goal i.spares i.cache i.line i.seat.table_id i.seat.me c.w.invariant c.in-Some.cache c.in-Some.is) ∙ h.1 in
    subst (SettlesBlock c.args.w.now _) (sym out) (last, now)

-- a worker without a page cache does not come here
pub returns-clause-bare : goal.returns-clause-bare
returns-clause-bare g c off = absurd (some_none c.in-Some.cache (sym c.in-Some.is ∙ c.w.invariant.bare (ap (λ (k : Seen). k.caching) c.w.view_is ∙ off)))
