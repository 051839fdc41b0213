use Rattle.std.proofs.Common.{◌≡◌, ℕ, ◌+◌, ◌-◌, ◌/◌, ◌%◌, List, false, drop, sym, ap, ◌∙◌, arith}
use Rattle.std.specs.Fmt.{digits_onto}
use Rattle.std.proofs.lemmas.List.{drop-set}
use Rattle.text_line.proofs.Hex.{pair_of, begun, two_fewer, last_one, last_two, room_for_more, room_for_two}
use Rattle.text_line.proofs.digits.write_hexadecimal.Goals as goal

pub loop-rest-init : goal.loop-rest-init
loop-rest-init c = record { some = omega arith; within = omega arith; fits = omega arith; written = begun c.args.number (drop 20 c.args.buffer.now) }

pub overflow_sub-at : goal.overflow_sub-at
overflow_sub-at c = let l = c.loop-rest in omega (arith, room_for_more l.at l.rest c.loop-rest-test.true l.invariant.fits)

pub loop-rest-preserved : goal.loop-rest-preserved
loop-rest-preserved c =
    let l = c.loop-rest in
    let room = room_for_more l.at l.rest c.loop-rest-test.true l.invariant.fits in
    let e : l.at - 2 + 2 ≡ l.at = omega arith in
    let fuel : l.at + 44 - 2 ≡ l.at - 2 + 44 = omega arith in record {
      some = omega arith;
      within = omega arith;
      fits = room.1;
      written = ap (λ (behind : List ℕ). digits_onto (l.at - 2 + 44) 16 false (l.rest / 256) behind) (rw e at c.write_pair.ensures)
          ∙ sym (rw fuel at (two_fewer (l.at + 44) l.rest (drop l.at l.buffer) (omega arith) c.loop-rest-test.true)) ∙ l.invariant.written;
    }

pub overflow_sub-buffer : goal.overflow_sub-buffer
overflow_sub-buffer c = let some = c.loop-rest.invariant.some in omega arith

pub returns-then-rest-lt16-clause-written : goal.returns-then-rest-lt16-clause-written
returns-then-rest-lt16-clause-written c =
    let l = c.loop-rest in
    let e : l.at - 1 + 1 ≡ l.at = omega arith in
    let low : l.rest % 16 ≡ l.rest = omega arith in
    rw (drop-set l.buffer (l.at - 1) _ (omega arith), e, (pair_of l.rest (omega arith)).1) (sym (last_one (l.at + 44) l.rest (drop l.at l.buffer) (omega arith) c.if-rest-lt16.true) ∙ l.invariant.written)

pub returns-clause-written : goal.returns-clause-written
returns-clause-written c =
    let l = c.loop-rest in
    let room = room_for_two l.at l.rest c.if-rest-lt16.false l.invariant.fits in
    let e : l.at - 2 + 2 ≡ l.at = omega arith in
    rw e at c.write_pair-2.ensures ∙ sym (last_two (l.at + 44) l.rest (drop l.at l.buffer) (omega arith) c.if-rest-lt16.false (omega arith)) ∙ l.invariant.written
