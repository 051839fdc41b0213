use Rattle.std.proofs.Common.{◌≡◌, ◌/◌, Bool, true, IfOk, List, length, refl, subst, rules}
use Rattle.report_check.specs.declared.items.Item.{Item}
use Rattle.check_parallel.specs.Seating.{ArePartSeated}
use Rattle.check_parallel.proofs.Answering.{if-ok, ok-done}
use Rattle.check_parallel.proofs.OwnSeats.{parts-joined}
use Rattle.check_parallel.proofs.seating.+seats.Goals as goal

pub returns : goal.returns
returns g t c =
    let trace = c.args.trace.now in
    let report = c.args.report.now in
    let first = c.split_at.result.0.now in
    let rest = c.split_at.result.1.now in
    let few = c.split_at-2.result.0.now in
    let others = c.split_at-2.result.1.now in
    let cut = c.split_at.ensures in
    let cut' = c.split_at-2.ensures in
    let long : length c.front-1.given.0 ≡ length c.args.items.now / 2 = search rules in
    let same : c.join_mut-a.new.f.6.now ≡ c.front-1.given.0 = search rules in
    let same' : c.join_mut-a.new.g.6.now ≡ c.back-1.given.0 = search rules in
    let one = subst (λ (xs : List Item). IfOk c.join_mut-a.result.0 (λ (all : Bool). all ≡ true → ArePartSeated trace report first few xs)) same c.join_mut-a.ensures.0.met.1.1 in
    let two = subst (λ (xs : List Item). IfOk c.join_mut-a.result.1 (λ (all : Bool). all ≡ true → ArePartSeated trace report rest others xs)) same' c.join_mut-a.ensures.1.met.1.1 in
    let front = if-ok c.join_mut-a.result.0 c.in_ok-a.field-0 _ c.in_ok-a.was one in
    ok-done c.join_mut-a.result.1 _ _
    (λ back. parts-joined trace report c.args.asked.now first rest c.args.answers.now few others (length c.args.items.now / 2) c.front-1.given.0 c.back-1.given.0 _ long refl cut.front cut'.front cut.back cut'.back (front c.if-not-branch.false) back)
    two
