use Rattle.std.proofs.Common.{◌≡◌, ◌+◌, ◌^◌, ◌<◌, ◌≤◌, ◌++◌, false, drop}
use Rattle.std.specs.Fmt.{digits, digits_onto}
use Rattle.text_line.proofs.digits.write_hexadecimal.Given as goal

abbrev pub invariant-loop-rest : goal.invariant-loop-rest
invariant-loop-rest l = record {
  some : 0 < l.at;
  within : l.at ≤ 20;
  fits : l.rest < 16 ^ l.at;
  written : digits_onto (l.at + 44) 16 false l.rest (drop l.at l.buffer) ≡ digits 16 false l.number ++ drop 20 l.fn.buffer;
}

abbrev pub decreases-loop-rest : goal.decreases-loop-rest
decreases-loop-rest l = l.rest
