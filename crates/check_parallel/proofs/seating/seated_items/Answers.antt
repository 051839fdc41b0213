use Rattle.std.proofs.Common.{List, length, ap, arith}
use Rattle.cycle_history.specs.declared.Answer.{Answer}
use Rattle.check_parallel.specs.Seating.{IsItemsPart}
use Rattle.check_parallel.proofs.Answering.{ok-done}
use Rattle.check_parallel.proofs.OwnSeats.{answers-by, own-seats, part-whole, places-by}
use Rattle.check_parallel.proofs.seating.seated_items.Goals as goal

pub seat_parts-requires-after_bounds : goal.seat_parts-requires-after_bounds
seat_parts-requires-after_bounds g c κs within =
    let a = c.if-asked-items.false in
    let all = ap (λ (xs : List Answer). length xs) c.answers-answers.ensures in
    let same = c.requires.items in
    part-whole c.args.trace.now c.args.report.now c.args.asked.now c.answers-answers.result.now (length c.args.items.now) c.requires.limited c.requires.journal c.requires.asked (omega arith) (omega arith) c.requires.limited.header.chunks.1

pub keep_lives-requires-after_bounds : goal.keep_lives-requires-after_bounds
keep_lives-requires-after_bounds g c κs within =
    let a = c.if-asked-items.false in
    let all = ap (λ (xs : List Answer). length xs) c.answers-answers.ensures in
    let same = c.requires.items in
    let size = c.seat_parts.auto.items in
    let long = c.len-cycles.ensures in
    let few = c.requires.limited.mark_ends in
    let part = part-whole c.args.trace.now c.args.report.now c.args.asked.now c.answers-answers.result.now (length c.seat_parts.new.items) c.requires.limited c.requires.journal c.requires.asked (omega arith) (omega arith) c.requires.limited.header.chunks.1 in
    record {
      limited = c.requires.limited;
      journal = c.requires.journal;
      seats = own-seats c.args.trace.now c.args.report.now c.args.asked.now c.answers-answers.result.now c.seat_parts.new.items part (c.in_ok-seat_parts.ensures c.if-not-branch.false);
      order = omega arith;
      inside = omega arith;
    }

pub returns : goal.returns
returns g c =
    let t = c.args.trace.now in
    let report = c.args.report.now in
    let asked = c.args.asked.now in
    let answers = c.answers-answers.result.now in
    let items = c.seat_parts.new.items in
    let a = c.if-asked-items.false in
    let all = ap (λ (xs : List Answer). length xs) c.answers-answers.ensures in
    let same = c.requires.items in
    let size = c.seat_parts.auto.items in
    let long = c.len-cycles.ensures in
    let few = c.requires.limited.mark_ends in
    let part : IsItemsPart t report asked answers (length items) = part-whole t report asked answers (length items) c.requires.limited c.requires.journal c.requires.asked (omega arith) (omega arith) c.requires.limited.header.chunks.1 in
    let seated = c.in_ok-seat_parts.ensures c.if-not-branch.false in
    let known = answers-by t report asked answers items c.requires.asked c.answers-answers.ensures part seated in
    let own = own-seats t report asked answers items part seated in
    ok-done c.keep_lives.result _ _ (λ keeps. record { answers = known; journal = c.requires.journal; places = places-by t report items _ c.requires.limited known own (omega arith) keeps }) c.keep_lives.ensures
