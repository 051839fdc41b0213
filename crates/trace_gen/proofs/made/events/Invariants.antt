use Rattle.std.proofs.Common.{◌≡◌, ◌+◌}
use Rattle.rand_pcg.specs.Lcg.{Lcg}
use Rattle.trace_gen.specs.Made.{events_from, generator_at}
use Rattle.trace_gen.proofs.made.events.Given as goal

abbrev pub invariant-loop-i : goal.invariant-loop-i
invariant-loop-i l = (g : Lcg) → l.fn.words ≡ generator_at g l.first
    → (l.events ≡ events_from g l.first l.i) × (l.words ≡ generator_at g (l.first + l.i))
