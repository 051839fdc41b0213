use Rattle.std.proofs.Common.{◌≤◌, length, refl, arith}
use Rattle.edge_io.proofs.Clear.{front_kept}
use Rattle.edge_io.proofs.lines.Lines.fill.Goals as goal

pub returns-in_err-count-clause-line : goal.returns-in_err-count-clause-line
returns-in_err-count-clause-line g c =
    let old = c.args.self.now in
    let within : old.start ≤ length old.buffer = omega arith in
    record {
      line = rw c.requires.inside (front_kept old.buffer c.read.new.buf old.begin old.start _ (omega arith) within);
      used = refl;
      number = refl;
      room = refl;
    }

pub returns-clause-line : goal.returns-clause-line
returns-clause-line g c =
    let old = c.args.self.now in
    let within : old.start ≤ length old.buffer = omega arith in
    record {
      line = rw c.requires.inside (front_kept old.buffer c.read.new.buf old.begin old.start _ (omega arith) within);
      used = refl;
      number = refl;
      room = refl;
    }
