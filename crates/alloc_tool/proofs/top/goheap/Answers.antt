use Rattle.std.proofs.Common.{ℕ, refl, subst}
use Rattle.trace_gen.specs.Made.{made_trace}
use Rattle.alloc_tool.specs.Demo.{Demos}
use Rattle.alloc_tool.specs.Outcome.{Outcome}
use Rattle.alloc_tool.specs.Watch.{IsWatchText}
use Rattle.alloc_tool.proofs.Asked.{check_or_pieces, check_or_seeded, check_or_watch, heap_or_pieces, heap_or_seeded, heap_or_watch, one_seeded, one_watch, pieces_or_seeded, pieces_or_watch, run_or_check, run_or_demo, run_or_heap, run_or_pieces, run_or_watch, watch_or_seeded}
use Rattle.alloc_tool.proofs.Complete.{complete}
use Rattle.alloc_tool.proofs.SoundPair.{sound_pair}
use Rattle.alloc_tool.proofs.top.goheap.Goals as goal

pub returns-then-are_of_run-clause-demo : goal.returns-then-are_of_run-clause-demo
returns-then-are_of_run-clause-demo g c = λ seed objects is. absurd (run_or_demo c.args.words.now seed objects (c.are_of_run.ensures.0 c.if-are_of_run.true) is)

pub returns-then-are_of_run-clause-complete : goal.returns-then-are_of_run-clause-complete
returns-then-are_of_run-clause-complete g c = λ run bytes undisturbed.
    let told = c.run.ensures in
    let answer = told.outcome run.0 run.1 run.2 in
    complete _ _ bytes c.run.result undisturbed.told (λ t spells. told.complete bytes t undisturbed.told spells) told.status
    (λ five. undisturbed.read (answer.read_fault five)) (λ six. undisturbed.written (answer.write_fault six)) (λ zero. let a = answer.answered zero in (a.0, a.2))

pub returns-in-Some-wanted_by-clause-demo : goal.returns-in-Some-wanted_by-clause-demo
returns-in-Some-wanted_by-clause-demo g c = λ seed objects is.
    let same = one_seeded _ c.args.words.now _ _ seed objects c.in-Some-wanted_by.ensures is in (
      subst (λ (n : ℕ). Demos (made_trace n objects) g.K.Sink.held g.K.Sink.faults g.E.Sink.held g.E.Sink.faults c.args.output.now c.show_run.new.output c.args.errors.now c.show_run.new.errors c.show_run.result) same.0
          (subst (λ (n : ℕ). Demos (made_trace c.in-Some-wanted_by.wanted.seed n) g.K.Sink.held g.K.Sink.faults g.E.Sink.held g.E.Sink.faults c.args.output.now c.show_run.new.output c.args.errors.now c.show_run.new.errors c.show_run.result) same.1
          c.show_run.ensures),
      refl,
    )

pub returns-then-are_of_run-clause-check : goal.returns-then-are_of_run-clause-check
returns-then-are_of_run-clause-check g c = λ check. absurd (run_or_check c.args.words.now (c.are_of_run.ensures.0 c.if-are_of_run.true) check)

pub returns-in-Some-wanted_by-clause-check : goal.returns-in-Some-wanted_by-clause-check
returns-in-Some-wanted_by-clause-check g c = λ check. absurd (check_or_seeded _ c.args.words.now _ _ check c.in-Some-wanted_by.ensures)

pub returns-then-are_of_run-clause-in_pieces : goal.returns-then-are_of_run-clause-in_pieces
returns-then-are_of_run-clause-in_pieces g c = λ n is. absurd (run_or_pieces c.args.words.now n (c.are_of_run.ensures.0 c.if-are_of_run.true) is)

pub returns-then-are_of_run-clause-accepts_in_pieces : goal.returns-then-are_of_run-clause-accepts_in_pieces
returns-then-are_of_run-clause-accepts_in_pieces g c = λ n is. absurd (run_or_pieces c.args.words.now n (c.are_of_run.ensures.0 c.if-are_of_run.true) is)

pub returns-in-Some-clause-demo : goal.returns-in-Some-clause-demo
returns-in-Some-clause-demo g c = λ seed objects is. absurd (pieces_or_seeded _ c.args.words.now _ seed objects c.in-Some.ensures is)

pub returns-in-Some-clause-check : goal.returns-in-Some-clause-check
returns-in-Some-clause-check g c = λ check. absurd (check_or_pieces c.args.words.now _ check c.in-Some.ensures)

pub returns-in-Some-clause-accepts_in_pieces : goal.returns-in-Some-clause-accepts_in_pieces
returns-in-Some-clause-accepts_in_pieces g c = λ n is bytes undisturbed trace report pair sound.
    sound_pair g.S.Source.left g.S.Source.faults g.K.Sink.held g.K.Sink.faults g.E.Sink.held g.E.Sink.faults c.args.input.now c.judge_in_pieces.new.input c.args.output.now c.judge_in_pieces.new.output c.args.errors.now
    c.judge_in_pieces.new.errors c.judge_in_pieces.result c.judge_in_pieces.ensures bytes trace report undisturbed pair sound

pub returns-in-Some-wanted_by-clause-in_pieces : goal.returns-in-Some-wanted_by-clause-in_pieces
returns-in-Some-wanted_by-clause-in_pieces g c = λ n is. absurd (pieces_or_seeded _ c.args.words.now n _ _ is c.in-Some-wanted_by.ensures)

pub returns-in-Some-wanted_by-clause-accepts_in_pieces : goal.returns-in-Some-wanted_by-clause-accepts_in_pieces
returns-in-Some-wanted_by-clause-accepts_in_pieces g c = λ n is. absurd (pieces_or_seeded _ c.args.words.now n _ _ is c.in-Some-wanted_by.ensures)

pub returns-in-Some-clause-other_words : goal.returns-in-Some-clause-other_words
returns-in-Some-clause-other_words g c = λ run demo pieces watch. absurd (pieces c.in-Some.pieces c.in-Some.ensures)

pub returns-in-Some-wanted_by-clause-other_words : goal.returns-in-Some-wanted_by-clause-other_words
returns-in-Some-wanted_by-clause-other_words g c = λ run demo pieces watch. absurd (demo _ _ c.in-Some-wanted_by.ensures)

pub returns-in-None-clause-in_pieces : goal.returns-in-None-clause-in_pieces
returns-in-None-clause-in_pieces g c = λ n is. absurd (c.in_default.ensures n is)

pub returns-in-None-clause-accepts_in_pieces : goal.returns-in-None-clause-accepts_in_pieces
returns-in-None-clause-accepts_in_pieces g c = λ n is. absurd (c.in_default.ensures n is)

pub returns-then-are_of_run-clause-heap : goal.returns-then-are_of_run-clause-heap
returns-then-are_of_run-clause-heap g c = λ heap. absurd (run_or_heap c.args.words.now (c.are_of_run.ensures.0 c.if-are_of_run.true) heap)

pub returns-in-Some-clause-heap : goal.returns-in-Some-clause-heap
returns-in-Some-clause-heap g c = λ heap. absurd (heap_or_pieces c.args.words.now _ heap c.in-Some.ensures)

pub returns-in-Some-wanted_by-clause-heap : goal.returns-in-Some-wanted_by-clause-heap
returns-in-Some-wanted_by-clause-heap g c = λ heap. absurd (heap_or_seeded _ c.args.words.now _ _ heap c.in-Some-wanted_by.ensures)

pub returns-then-are_of_run-clause-watch : goal.returns-then-are_of_run-clause-watch
returns-then-are_of_run-clause-watch g c = λ n is. absurd (run_or_watch c.args.words.now n (c.are_of_run.ensures.0 c.if-are_of_run.true) is)

pub returns-then-are_of_run-clause-watch_words : goal.returns-then-are_of_run-clause-watch_words
returns-then-are_of_run-clause-watch_words g c = λ n is. absurd (run_or_watch c.args.words.now n (c.are_of_run.ensures.0 c.if-are_of_run.true) is)

pub returns-then-are_of_run-clause-watch_complete : goal.returns-then-are_of_run-clause-watch_complete
returns-then-are_of_run-clause-watch_complete g c = λ n is. absurd (run_or_watch c.args.words.now n (c.are_of_run.ensures.0 c.if-are_of_run.true) is)

pub returns-in-Some-clause-watch : goal.returns-in-Some-clause-watch
returns-in-Some-clause-watch g c = λ n is. absurd (pieces_or_watch c.args.words.now _ n c.in-Some.ensures is)

pub returns-in-Some-clause-watch_words : goal.returns-in-Some-clause-watch_words
returns-in-Some-clause-watch_words g c = λ n is. absurd (pieces_or_watch c.args.words.now _ n c.in-Some.ensures is)

pub returns-in-Some-clause-watch_complete : goal.returns-in-Some-clause-watch_complete
returns-in-Some-clause-watch_complete g c = λ n is. absurd (pieces_or_watch c.args.words.now _ n c.in-Some.ensures is)

pub returns-in-Some-watchers_of-clause-watch : goal.returns-in-Some-watchers_of-clause-watch
returns-in-Some-watchers_of-clause-watch g c = λ n is.
    subst (λ (k : ℕ). Outcome (IsWatchText k) g.S.Source.left g.S.Source.faults g.K.Sink.held g.K.Sink.faults g.E.Sink.held g.E.Sink.faults c.args.input.now c.watch.new.input c.args.output.now c.watch.new.output c.args.errors.now c.watch.new.errors c.watch.result)
    (one_watch c.args.words.now c.in-Some-watchers_of.readers n c.in-Some-watchers_of.ensures is) c.watch.ensures.outcome

pub returns-in-Some-watchers_of-clause-watch_words : goal.returns-in-Some-watchers_of-clause-watch_words
returns-in-Some-watchers_of-clause-watch_words g c = λ n is. c.watch.ensures.status

pub returns-in-Some-watchers_of-clause-watch_complete : goal.returns-in-Some-watchers_of-clause-watch_complete
returns-in-Some-watchers_of-clause-watch_complete g c = λ n is bytes undisturbed.
    let told = c.watch.ensures in
    let answer = told.outcome in
    complete _ _ bytes c.watch.result undisturbed.told (λ t spells. told.complete bytes t undisturbed.told spells) told.status
    (λ five. undisturbed.read (answer.read_fault five)) (λ six. undisturbed.written (answer.write_fault six)) (λ zero. let a = answer.answered zero in (a.0, a.2))

pub returns-in-Some-watchers_of-clause-demo : goal.returns-in-Some-watchers_of-clause-demo
returns-in-Some-watchers_of-clause-demo g c = λ seed objects is. absurd (watch_or_seeded _ c.args.words.now _ seed objects c.in-Some-watchers_of.ensures is)

pub returns-in-Some-watchers_of-clause-in_pieces : goal.returns-in-Some-watchers_of-clause-in_pieces
returns-in-Some-watchers_of-clause-in_pieces g c = λ n is. absurd (pieces_or_watch c.args.words.now n _ is c.in-Some-watchers_of.ensures)

pub returns-in-Some-watchers_of-clause-accepts_in_pieces : goal.returns-in-Some-watchers_of-clause-accepts_in_pieces
returns-in-Some-watchers_of-clause-accepts_in_pieces g c = λ n is. absurd (pieces_or_watch c.args.words.now n _ is c.in-Some-watchers_of.ensures)

pub returns-in-Some-watchers_of-clause-other_words : goal.returns-in-Some-watchers_of-clause-other_words
returns-in-Some-watchers_of-clause-other_words g c = λ run demo pieces watch. absurd (watch c.in-Some-watchers_of.readers c.in-Some-watchers_of.ensures)

pub returns-in-Some-watchers_of-clause-check : goal.returns-in-Some-watchers_of-clause-check
returns-in-Some-watchers_of-clause-check g c = λ check. absurd (check_or_watch c.args.words.now _ check c.in-Some-watchers_of.ensures)

pub returns-in-Some-watchers_of-clause-heap : goal.returns-in-Some-watchers_of-clause-heap
returns-in-Some-watchers_of-clause-heap g c = λ heap. absurd (heap_or_watch c.args.words.now _ heap c.in-Some-watchers_of.ensures)

pub returns-in-Some-wanted_by-clause-watch : goal.returns-in-Some-wanted_by-clause-watch
returns-in-Some-wanted_by-clause-watch g c = λ n is. absurd (watch_or_seeded _ c.args.words.now n _ _ is c.in-Some-wanted_by.ensures)

pub returns-in-Some-wanted_by-clause-watch_words : goal.returns-in-Some-wanted_by-clause-watch_words
returns-in-Some-wanted_by-clause-watch_words g c = λ n is. absurd (watch_or_seeded _ c.args.words.now n _ _ is c.in-Some-wanted_by.ensures)

pub returns-in-Some-wanted_by-clause-watch_complete : goal.returns-in-Some-wanted_by-clause-watch_complete
returns-in-Some-wanted_by-clause-watch_complete g c = λ n is. absurd (watch_or_seeded _ c.args.words.now n _ _ is c.in-Some-wanted_by.ensures)

pub returns-in-None-clause-watch : goal.returns-in-None-clause-watch
returns-in-None-clause-watch g c = λ n is. absurd (c.in_default-watchers_of.ensures n is)

pub returns-in-None-clause-watch_words : goal.returns-in-None-clause-watch_words
returns-in-None-clause-watch_words g c = λ n is. absurd (c.in_default-watchers_of.ensures n is)

pub returns-in-None-clause-watch_complete : goal.returns-in-None-clause-watch_complete
returns-in-None-clause-watch_complete g c = λ n is. absurd (c.in_default-watchers_of.ensures n is)
