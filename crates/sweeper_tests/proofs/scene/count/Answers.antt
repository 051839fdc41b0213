use Rattle.std.proofs.Common.{◌∙◌}
use Rattle.sweeper_tests.proofs.Meeting.{adds_free}
use Rattle.sweeper_tests.proofs.scene.count.Goals as goal

pub returns : goal.returns
returns c = let t = c.args.shared.now in let w0 = c.args.w.now in let a = c.add_swept in let b = c.add_spent in let d = c.claim_chunk in
    let x = adds_free t 2 a.result 100 w0 a.new.w c.requires.free a.ensures in
    let y = adds_free t 3 b.result 1048576 a.new.w b.new.w x.0 b.ensures in
    let z = adds_free t 4 d.result 1 b.new.w d.new.w y.0 d.ensures in
    record { free = z.0; generation = z.1 ∙ y.1 ∙ x.1 }
