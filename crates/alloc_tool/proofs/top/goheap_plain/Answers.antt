use Rattle.alloc_tool.proofs.Asked.{check_or_seeded, heap_or_seeded}
use Rattle.alloc_tool.proofs.Plain.{check_or_heap, check_plain, classes_or_check, classes_or_heap, classes_plain, gen_plain, heap_plain}
use Rattle.alloc_tool.proofs.SoundPair.{sound_heap, sound_pair}
use Rattle.alloc_tool.proofs.top.goheap_plain.Goals as goal

pub returns-then-is_word-clause-words : goal.returns-then-is_word-clause-words
returns-then-is_word-clause-words g c =
    classes_plain g.S.Source.left g.S.Source.faults g.K.Sink.held g.K.Sink.faults g.E.Sink.held g.E.Sink.faults c.args.words.now c.args.input.now c.args.output.now c.classes.new.output c.args.errors.now c.classes.new.errors c.classes.result
    (c.is_word.ensures.0 c.if-is_word.true) c.classes.ensures.writes c.classes.ensures.no_memory

pub returns-in-Some-clause-words : goal.returns-in-Some-clause-words
returns-in-Some-clause-words g c =
    gen_plain g.S.Source.left g.S.Source.faults g.K.Sink.held g.K.Sink.faults g.E.Sink.held g.E.Sink.faults c.args.words.now c.args.input.now c.args.output.now c.generate.new.output c.args.errors.now c.generate.new.errors c.generate.result
    c.in-Some.wanted.seed c.in-Some.wanted.objects c.in-Some.ensures c.generate.ensures

pub returns-then-is_word-2-clause-words : goal.returns-then-is_word-2-clause-words
returns-then-is_word-2-clause-words g c =
    check_plain g.S.Source.left g.S.Source.faults g.K.Sink.held g.K.Sink.faults g.E.Sink.held g.E.Sink.faults c.args.words.now c.args.input.now c.judge_report.new.input c.args.output.now c.judge_report.new.output c.args.errors.now
    c.judge_report.new.errors c.judge_report.result (c.is_word-2.ensures.0 c.if-is_word-2.true) c.judge_report.ensures

pub returns-then-is_word-clause-check : goal.returns-then-is_word-clause-check
returns-then-is_word-clause-check g c = λ check. absurd (classes_or_check c.args.words.now (c.is_word.ensures.0 c.if-is_word.true) check)

pub returns-in-Some-clause-check : goal.returns-in-Some-clause-check
returns-in-Some-clause-check g c = λ check. absurd (check_or_seeded _ c.args.words.now _ _ check c.in-Some.ensures)

pub returns-then-is_word-2-clause-check : goal.returns-then-is_word-2-clause-check
returns-then-is_word-2-clause-check g c = λ check bytes undisturbed trace report pair sound.
    sound_pair g.S.Source.left g.S.Source.faults g.K.Sink.held g.K.Sink.faults g.E.Sink.held g.E.Sink.faults c.args.input.now c.judge_report.new.input c.args.output.now c.judge_report.new.output c.args.errors.now
    c.judge_report.new.errors c.judge_report.result c.judge_report.ensures bytes trace report undisturbed pair sound

pub returns-then-is_word-3-clause-words : goal.returns-then-is_word-3-clause-words
returns-then-is_word-3-clause-words g c =
    heap_plain g.S.Source.left g.S.Source.faults g.K.Sink.held g.K.Sink.faults g.E.Sink.held g.E.Sink.faults c.args.words.now c.args.input.now c.show_heap.new.input c.args.output.now c.show_heap.new.output c.args.errors.now
    c.show_heap.new.errors c.show_heap.result (c.is_word-3.ensures.0 c.if-is_word-3.true) c.show_heap.ensures

pub returns-then-is_word-3-clause-check : goal.returns-then-is_word-3-clause-check
returns-then-is_word-3-clause-check g c = λ check. absurd (check_or_heap c.args.words.now check (c.is_word-3.ensures.0 c.if-is_word-3.true))

pub returns-then-is_word-clause-heap : goal.returns-then-is_word-clause-heap
returns-then-is_word-clause-heap g c = λ heap. absurd (classes_or_heap c.args.words.now (c.is_word.ensures.0 c.if-is_word.true) heap)

pub returns-then-is_word-2-clause-heap : goal.returns-then-is_word-2-clause-heap
returns-then-is_word-2-clause-heap g c = λ heap. absurd (check_or_heap c.args.words.now (c.is_word-2.ensures.0 c.if-is_word-2.true) heap)

pub returns-then-is_word-3-clause-heap : goal.returns-then-is_word-3-clause-heap
returns-then-is_word-3-clause-heap g c = λ heap bytes undisturbed trace report pair sound.
    sound_heap g.S.Source.left g.S.Source.faults g.K.Sink.held g.K.Sink.faults g.E.Sink.held g.E.Sink.faults c.args.input.now c.show_heap.new.input c.args.output.now c.show_heap.new.output c.args.errors.now
    c.show_heap.new.errors c.show_heap.result c.show_heap.ensures bytes trace report undisturbed pair sound

pub returns-in-Some-clause-heap : goal.returns-in-Some-clause-heap
returns-in-Some-clause-heap g c = λ heap. absurd (heap_or_seeded _ c.args.words.now _ _ heap c.in-Some.ensures)
