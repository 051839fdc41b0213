use Rattle.std.proofs.Common.{◌≡◌, ◌*◌, map}
use Rattle.std.specs.List.{range_with_len}
use Rattle.trace_gen.specs.Made.{generator_at, made_cycle, words_of}
use Rattle.trace_gen.proofs.made.make_trace.Given as goal

abbrev pub invariant-loop-end : goal.invariant-loop-end
invariant-loop-end l = (l.cycles ≡ map (made_cycle (words_of l.seed)) (range_with_len 0 l.end)) × (l.words ≡ generator_at (words_of l.seed) (10000 * l.end))
