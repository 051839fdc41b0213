use Rattle.commands.proofs.HeapGiven.{base-given, plain-given, tiny-given}
use Rattle.commands.proofs.heap.heap_by_version.Goals as goal

pub heap_of-requires-clause-answers : goal.heap_of-requires-clause-answers
heap_of-requires-clause-answers c = (plain-given c.args.trace.now c.args.report.now c.if-trace-lt-TINY_VERSION.true c.requires.sound).0

pub heap_of-requires-clause-zeros : goal.heap_of-requires-clause-zeros
heap_of-requires-clause-zeros c = (plain-given c.args.trace.now c.args.report.now c.if-trace-lt-TINY_VERSION.true c.requires.sound).1

pub base_of-requires-clause-answers : goal.base_of-requires-clause-answers
base_of-requires-clause-answers c = (tiny-given c.args.trace.now c.args.report.now c.if-trace-lt-TINY_VERSION.false c.requires.sound).0

pub heap_of-requires-2-clause-answers : goal.heap_of-requires-2-clause-answers
heap_of-requires-2-clause-answers c = (base-given c.args.trace.now c.args.report.now c.in_ok-base.base c.if-trace-lt-TINY_VERSION.false c.requires.sound c.in_ok-base.ensures.base).0

pub heap_of-requires-2-clause-zeros : goal.heap_of-requires-2-clause-zeros
heap_of-requires-2-clause-zeros c = (base-given c.args.trace.now c.args.report.now c.in_ok-base.base c.if-trace-lt-TINY_VERSION.false c.requires.sound c.in_ok-base.ensures.base).1
