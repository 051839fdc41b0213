use Rattle.std.proofs.Common.{false, refl, ◌∙◌, arith}
use Rattle.std.proofs.lemmas.List.{length-set}
use Rattle.std.proofs.lemmas.Option.{slice_get-get_or}
use Rattle.report_check.specs.declared.asked.Asked.{Asked}
use Rattle.check_parallel.proofs.OwnSeats.{open-next, seat-next, seated-none}
use Rattle.check_parallel.proofs.seating.seat_part.Goals as goal

abbrev nothing : Asked
nothing = record { cycle = 0; event = record { size = 0; stack = 0; proc = 0; scan = false } }

pub loop-number-init : goal.loop-number-init
loop-number-init c = record {
  opened = λ r at. c.in_ok-opened.ensures c.args.report.now r.cycle;
  size = refl;
  seated = seated-none c.args.trace.now c.args.report.now c.args.asked.now c.args.answers.now c.args.items.now;
}

pub take_up-requires-clause-open : goal.take_up-requires-clause-open
take_up-requires-clause-open c =
    let e = c.requires.requests in
    let lt = c.loop-number-test.true in
    c.loop-number.invariant.opened _ (slice_get-get_or c.args.asked.now c.loop-number.number nothing (omega arith))

pub seated_item-requires-clause-size : goal.seated_item-requires-clause-size
seated_item-requires-clause-size c =
    let e = c.requires.requests in
    let lt = c.loop-number-test.true in
    c.requires.sizes c.loop-number.number _ (slice_get-get_or c.args.asked.now c.loop-number.number nothing (omega arith))

pub loop-number-preserved : goal.loop-number-preserved
loop-number-preserved c =
    let t = c.args.trace.now in
    let report = c.args.report.now in
    let asked = c.args.asked.now in
    let answers = c.args.answers.now in
    let n = c.loop-number.number in
    let lt = c.loop-number-test.true in
    let size = c.loop-number.invariant.size in
    record {
      opened = λ r at. open-next t report asked answers c.args.items.now n nothing r _ c.requires lt c.take_up.ensures.open at;
      size = length-set c.loop-number.items n c.in-Some.item ∙ size;
      seated = seat-next t report asked answers c.args.items.now c.loop-number.items n nothing _ c.in-Some.item c.deref.result.now c.take_up.new.self.lives.items c.requires size (omega arith) c.deref.ensures.value c.take_up.ensures.lives
          c.in-Some.ensures.item c.in-Some.ensures.answer c.in-Some.ensures.seat c.loop-number.invariant.seated;
    }

pub returns : goal.returns
returns c e i r a item lt ri ai ii = (let end = c.loop-number-test.false in let size = c.loop-number.invariant.size in c.loop-number.invariant.seated i r a item (omega arith) ri ai ii)
