use Rattle.std.proofs.Common.{arith, ◌≡◌, ℕ, true, false, true≢false, List, sym, ap, ◌∙◌, subst}
use Rattle.std.specs.Prelude.{None, Some, Option, IfNone, IfSome}
use Rattle.std.specs.Option.{is_some}
use Rattle.page_alloc.specs.FreeRuns.{HasNoRun, IsFirstFit, IsFree}
use Rattle.page_alloc.specs.Journal.{LegalFor}
use Rattle.page_alloc.proofs.Lives.{span_pages}
use Rattle.page_bitmap.specs.declared.line.Line.{Line}
use Rattle.span_laws.specs.Views.{Seen}
use Rattle.span_table.specs.Known.{known}
use Rattle.span_table.proofs.OwnBlocks.{blocks_now}
use Rattle.span_table.specs.Seats.{SeatState, locks, unlocks}
use Rattle.span_table.proofs.shared.Shared.try_span.Goals as goal

none_found : {A : Type 0} {P : Type 0} (o : Option A) → is_some o ≡ false → IfNone o P → P
none_found (Some x) e p = absurd (true≢false e)
none_found None e p = p

some_found : {A : Type 0} {P : A → Type 0} (o : Option A) → is_some o ≡ true → IfSome o P → (x : A) × P x
some_found (Some x) e p = (x, p)
some_found None e p = absurd (true≢false (sym e))

pub find-requires-clause-some : goal.find-requires-clause-some
find-requires-clause-some g c = span_pages c.args.class c.args.n c.requires.size

pub take-requires-clause-some : goal.take-requires-clause-some
take-requires-clause-some g c = span_pages c.args.class c.args.n c.requires.size

pub take-requires-clause-blocks : goal.take-requires-clause-blocks
take-requires-clause-blocks g c = blocks_now c.w.inside.seat.me.0 c.w.inside.generation c.lock-heap.result c.reserve_line.new.self c.lock-heap.ensures.heap.blocks c.reserve_line.ensures.same.past c.w.invariant.generation_is

pub returns-then-is_none : goal.returns-then-is_none
returns-then-is_none g c =
    let h = c.lock-heap.result in let seen = c.lock-heap.ensures.heap in
    let viewed : c.unlock.new.seat.me.0 ≡ unlocks (locks h c.w.inside.seat.me.0) = ap (λ (z : SeatState). z.0) c.unlock.ensures.view ∙ ap (λ (z : SeatState). unlocks z.0) c.lock-heap.ensures.view in
    let now : known c.unlock.new.seat.table_id c.unlock.new.seat.me.0 ≡ c.args.w.now = (λ i. known ((c.unlock.ensures.table ∙ c.lock-heap.ensures.table) i) (viewed i)) ∙ c.w.view_is in
    let none : HasNoRun h.region h.past c.args.n = none_found c.find.result c.if-is_none.ensures c.find.ensures.none in (
      now,
      (
        h.past,
        (λ known is. seen.told known (ap (λ (k : Seen). k.journal) c.w.view_is ∙ is)),
        (
          subst (λ (z : Seen). LegalFor z.view.procs z.view.region z.view.goal h.past) c.w.view_is (subst (λ (z : ℕ × ℕ). LegalFor c.w.inside.seat.me.0.view.procs z.0 z.1 h.past) (λ i. (seen.region i, seen.goal i)) seen.legal),
          subst (λ (z : Seen). HasNoRun z.view.region h.past c.args.n) c.w.view_is (subst (λ (z : ℕ). HasNoRun z h.past c.args.n) seen.region none),
        ),
      ),
    )

pub unreachable-requires : goal.unreachable-requires
unreachable-requires g c = let h = c.lock-heap.result in let s = c.reserve_line.ensures.same in
    let f : (p : ℕ) × IsFirstFit h.region h.past p c.args.n = some_found c.find.result c.if-is_none.ensures c.find.ensures.found in
    c.in_default-take.ensures.missed.may_follow.1 f.0 (subst (λ (z : ℕ × List Line). IsFree z.0 z.1 f.0 c.args.n) (λ j. (sym s.region j, sym s.past j)) f.1.here)

pub take-requires-2-clause-region : goal.take-requires-2-clause-region
take-requires-2-clause-region g c =
    let view = ap (λ (z : SeatState). z.0.view.region) c.lock-heap.ensures.view in let region = c.w.invariant.region in let table = ap (λ z. z.slots) c.lock-heap.ensures.table in
    let inside = c.in-Ok-take.ensures.taken.may_follow.1.here.inside in let some_pages = span_pages c.args.class c.args.n c.requires.size in let more = c.reserve_line.ensures.same.region in let seen = c.lock-heap.ensures.heap.region in
    let page = c.new_body-body.ensures.page in (omega arith, omega arith)
