use Rattle.std.proofs.Common.{◌≡◌, ◌≢◌, ℕ, ◌+◌, List, length, sym, ap, subst, ◌∙◌, arith}
use Rattle.std.specs.Prelude.{None, Some, Option}
use Rattle.std.proofs.lemmas.List.{length-reverse}
use Rattle.page_alloc.specs.Blocks.{HasNoBlock, IsLeastBlock}
use Rattle.page_cache.specs.Blocks.{page_count}
use Rattle.page_alloc.specs.FreeRuns.{HasNoRun}
use Rattle.page_bitmap.specs.declared.line.Line.{Line}
use Rattle.page_alloc.specs.Journal.{LegalFor}
use Rattle.span_laws.specs.CacheAnswers.{IsEmptyCache}
use Rattle.span_laws.specs.OwnSteps.{after_said}
use Rattle.span_laws.specs.TakeAnswers.{cycle_at}
use Rattle.span_laws.specs.Views.{Seen}
use Rattle.span_laws.specs.declared.said.Said.TheVariants.{FindsNoPage, Pulls}
use Rattle.span_table.specs.Known.{known}
use Rattle.span_table.specs.Seats.{SeatState, locks, says, unlocks}
use Rattle.span_table.proofs.CacheCalls.{no_block, no_cuts, rests_pulled}
use Rattle.span_table.proofs.OwnBlocks.{blocks_now}
use Rattle.span_table.proofs.shared.Shared.pull.Goals as goal

pub pull-requires-clause-blocks : goal.pull-requires-clause-blocks
pull-requires-clause-blocks g c = blocks_now c.w.inside.seat.me.0 c.w.inside.generation c.lock-heap.result c.reserve_pull.new.self c.lock-heap.ensures.heap.blocks c.reserve_pull.ensures.same.past c.w.invariant.generation_is

pub pull-requires-clause-none_out : goal.pull-requires-clause-none_out
pull-requires-clause-none_out g c = subst (λ (z : List Line × ℕ). HasNoBlock z.0 z.1) (λ i. (sym c.reserve_pull.ensures.same.past i, sym c.w.invariant.number_is i))
    (c.lock-heap.ensures.heap.none_out (subst (λ (k : Seen). IsEmptyCache k.view.own.cache) (sym c.w.view_is) c.requires.empty))

pub returns-in_default-pull : goal.returns-in_default-pull
returns-in_default-pull g c =
    let s = c.w.inside.seat.me.0 in let h = c.lock-heap.result in let seen = c.lock-heap.ensures.heap in let more = c.reserve_pull.ensures.same in
    let locked : c.lock-heap.new.seat.me.0 ≡ locks h s = ap (λ (z : SeatState). z.0) c.lock-heap.ensures.view in
    let viewed : c.unlock_barren.new.seat.me.0 ≡ unlocks (says FindsNoPage (locks h s)) = ap (λ (z : SeatState). z.0) c.unlock_barren.ensures.view ∙ ap (λ w. unlocks (says FindsNoPage w)) locked in
    let now : known c.unlock_barren.new.seat.table_id c.unlock_barren.new.seat.me.0 ≡ after_said FindsNoPage c.args.w.now =
    (λ i. known ((c.unlock_barren.ensures.table ∙ c.lock-heap.ensures.table) i) (viewed i)) ∙ ap (after_said FindsNoPage) c.w.view_is in
    let region = more.region ∙ seen.region ∙ ap (λ (k : Seen). k.view.region) c.w.view_is in let goal = more.goal ∙ seen.goal ∙ ap (λ (k : Seen). k.view.goal) c.w.view_is in let procs = ap (λ (k : Seen). k.view.procs) c.w.view_is in (
      now,
      (
        c.reserve_pull.new.self.past,
        (λ past is. more.past ∙ seen.told past (ap (λ (k : Seen). k.journal) c.w.view_is ∙ is)),
        (
          subst (λ (z : ℕ × ℕ × ℕ × List Line). LegalFor z.0 z.1 z.2 z.3) (λ j. (procs j, (sym more.region ∙ region) j, (sym more.goal ∙ goal) j, sym more.past j)) seen.legal,
          subst (λ (r : ℕ). HasNoRun r c.reserve_pull.new.self.past 1) region c.in_default-pull.ensures.none,
        ),
      ),
    )

pub fill-requires-clause-no_cuts : goal.fill-requires-clause-no_cuts
fill-requires-clause-no_cuts g c = let i = c.w.inside in
    no_cuts i.number i.generation i.goal i.spares i.cache i.line i.seat.table_id i.seat.me c.w.invariant c.in-Some.cache c.in-Some.is (no_block i.number i.generation i.goal i.spares i.cache i.line i.seat.table_id i.seat.me c.w.invariant c.in-Some.cache c.in-Some.is (subst (λ (k : Seen). IsEmptyCache k.view.own.cache) (sym c.w.view_is) c.requires.empty))

pub returns : goal.returns
returns g c =
    let s = c.w.inside.seat.me.0 in let h = c.lock-heap.result in let seen = c.lock-heap.ensures.heap in let more = c.reserve_pull.ensures.same in let how = c.in-Some-pull.ensures.pulled in
    let line = length c.journal.result.now in let block = c.in-Some-pull.block in
    let locked : c.lock-heap.new.seat.me.0 ≡ locks h s = ap (λ (z : SeatState). z.0) c.lock-heap.ensures.view in
    let pulled : c.pull_block.new.seat.me.0 ≡ locks c.pull.new.self (says (Pulls line (cycle_at s.view.generation) s.number block) (locks h s)) =
    ap (λ (z : SeatState). z.0) c.pull_block.ensures.view ∙ ap (λ w. locks c.pull.new.self (says (Pulls line (cycle_at w.view.generation) w.number block) w)) locked in
    let viewed : c.unlock-2.new.seat.me.0 ≡ unlocks (locks c.pull.new.self (says (Pulls line (cycle_at s.view.generation) s.number block) (locks h s))) = ap (λ (z : SeatState). z.0) c.unlock-2.ensures.view ∙ ap unlocks pulled in
    let now : known c.unlock-2.new.seat.table_id c.unlock-2.new.seat.me.0 ≡ after_said (Pulls line (cycle_at c.args.w.now.view.generation) c.args.w.now.number block) c.args.w.now =
    (λ i. known ((c.unlock-2.ensures.table ∙ c.pull_block.ensures.table ∙ c.lock-heap.ensures.table) i) (viewed i)) ∙ ap (λ (k : Seen). after_said (Pulls line (cycle_at k.view.generation) k.number block) k) c.w.view_is in
    let region = more.region ∙ seen.region ∙ ap (λ (k : Seen). k.view.region) c.w.view_is in let goal = more.goal ∙ seen.goal ∙ ap (λ (k : Seen). k.view.goal) c.w.view_is in let procs = ap (λ (k : Seen). k.view.procs) c.w.view_is in (
      c.reserve_pull.new.self.past,
      line,
      block,
      sym c.count.ensures,
      record {
        told = λ past is. more.past ∙ seen.told past (ap (λ (k : Seen). k.journal) c.w.view_is ∙ is);
        journal = subst (λ (z : ℕ × ℕ × ℕ × List Line). LegalFor z.0 z.1 z.2 z.3) (λ j. (procs j, (sym more.region ∙ region) j, (sym more.goal ∙ goal) j, sym more.past j)) seen.legal;
        number = sym (ap (λ (l : List Line). length l) c.journal.ensures.lines) ∙ length-reverse c.journal.result.now;
        least = subst (λ (r : ℕ). IsLeastBlock r c.reserve_pull.new.self.past block.page (page_count block)) region how.least;
        pages = how.pages;
      },
      now,
    )
