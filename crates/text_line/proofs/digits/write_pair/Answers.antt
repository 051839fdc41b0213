use Rattle.std.proofs.Common.{◌≡◌, ◌+◌, ◌*◌, set, get_or, arith, length-set}
use Rattle.std.proofs.lemmas.List.{drop-set}
use Rattle.text_line.specs.declared.digits.TheConstants.{PAIRS}
use Rattle.text_line.proofs.Hex.{pair_of}
use Rattle.text_line.proofs.digits.write_pair.Goals as goal

pub returns : goal.returns
returns c =
    let pair = pair_of c.args.byte c.requires.byte in
    let at = c.args.at in
    let low = set c.args.buffer.now (at + 1) (get_or PAIRS (c.args.byte * 2 + 1) 0) in
    let e : at + 1 + 1 ≡ at + 2 = omega arith in
    rw (drop-set low at _ (omega (arith, length-set c.args.buffer.now (at + 1) (get_or PAIRS (c.args.byte * 2 + 1) 0))), drop-set c.args.buffer.now (at + 1) _ (omega arith), pair.0, pair.1, e)
