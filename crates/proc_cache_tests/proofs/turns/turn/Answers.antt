use Rattle.proc_cache_tests.proofs.Turning.{may_mark, next_ready}
use Rattle.proc_cache_tests.proofs.turns.turn.Goals as goal

pub next_generation-requires-clause-may : goal.next_generation-requires-clause-may
next_generation-requires-clause-may c = let p = c.requires.prepared in may_mark c.args.shared.now c.args.hand.now.worker c.args.proc.now c.args.next.now.pairs c.requires.ready.served p.settled p.known

pub returns : goal.returns
returns c = next_ready c.args.shared.now c.args.ring.now c.next_cycle.new.self c.args.marks.now c.args.next.now c.args.hand.now _ c.args.proc.now c.next_cycle.ensures.ring c.requires.ready
    c.next_generation.ensures c.next_cycle.ensures.tally c.requires.prepared.dead
