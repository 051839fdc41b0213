use Rattle.std.proofs.Common.{◌++◌}
use Rattle.span_table_tests.proofs.Driving.{may_mark, may_settle, seen_empty, turned, turned_cached, turned_region}
use Rattle.span_table_tests.proofs.turns.turn.Goals as goal

pub returns-clause-turned : goal.returns-clause-turned
returns-clause-turned c = let w = c.args.w.now in let w1 = c.sees_all_empty.new.w in let w2 = c.reset.new.driver in let w3 = c.end_cycle.new.driver in let e = c.end_cycle.ensures in
    (turned c.args.shared.now w w1 w2 c.requires.free c.if-not-sees_all_empty.ensures c.reset.ensures c.args.marks.now.pairs w3 c.requires.generation (e.0 ++ w2.view.before) e.2 c.next_generation.new.driver c.next_generation.ensures)

pub returns-clause-region : goal.returns-clause-region
returns-clause-region c = let w3 = c.end_cycle.new.driver in let e = c.end_cycle.ensures in
    turned_region c.args.shared.now c.args.w.now c.sees_all_empty.new.w c.reset.new.driver c.requires.free c.if-not-sees_all_empty.ensures c.reset.ensures c.args.marks.now.pairs w3 (e.0 ++ c.reset.new.driver.view.before) e.2 c.next_generation.new.driver c.next_generation.ensures

pub returns-clause-kept : goal.returns-clause-kept
returns-clause-kept c = let w3 = c.end_cycle.new.driver in let e = c.end_cycle.ensures in
    turned_cached c.args.shared.now c.args.w.now c.sees_all_empty.new.w c.reset.new.driver c.requires.free c.if-not-sees_all_empty.ensures c.reset.ensures c.args.marks.now.pairs w3 (e.0 ++ c.reset.new.driver.view.before) e.2 c.next_generation.new.driver c.next_generation.ensures

pub reset-requires-clause-empty : goal.reset-requires-clause-empty
reset-requires-clause-empty c = λ k l u. seen_empty c.args.shared.now c.args.w.now c.sees_all_empty.new.w c.requires.free c.if-not-sees_all_empty.ensures k l u

pub end_cycle-requires-clause-may : goal.end_cycle-requires-clause-may
end_cycle-requires-clause-may c = may_settle c.args.shared.now c.args.w.now c.sees_all_empty.new.w c.reset.new.driver c.requires.free c.if-not-sees_all_empty.ensures c.reset.ensures

pub next_generation-requires-clause-may : goal.next_generation-requires-clause-may
next_generation-requires-clause-may c = let e = c.end_cycle.ensures in
    may_mark c.args.shared.now c.args.w.now c.sees_all_empty.new.w c.reset.new.driver c.requires.free c.if-not-sees_all_empty.ensures c.reset.ensures c.args.marks.now.pairs c.end_cycle.new.driver c.requires.placed c.requires.generation (e.0 ++ c.reset.new.driver.view.before) e.2
