use Rattle.sweeper_tests.proofs.Ready.{stage_marked, stage_placed}
use Rattle.sweeper_tests.proofs.scene.add_span.Goals as goal

pub returns : goal.returns
returns g c = let p = c.in_ok-page.ensures in
    record { stage = stage_placed c.args.shared.now c.args.marks.now c.args.w.now c.place.new.w c.in_ok-page.page c.requires.stage p.free p.placed p.others p.generation }

pub returns-then-marked : goal.returns-then-marked
returns-then-marked g c = let p = c.in_ok-page.ensures in let a = c.add.ensures in
    record { stage = stage_marked c.args.shared.now c.args.marks.now c.args.w.now c.place.new.w c.in_ok-page.page c.requires.stage p.free p.placed p.others p.generation c.add.new.self c.add.result a.marked a.dead }
