use Rattle.std.proofs.Common.{◌≡◌, ◌++◌, take}
use Rattle.tiny_alloc.specs.Base.{based_answers}
use Rattle.tiny_alloc.specs.Parts.{part_by}
use Rattle.tiny_alloc.proofs.base.add_answers.Given as goal

-- the answers so far
abbrev pub invariant-loop-place : goal.invariant-loop-place
invariant-loop-place l = l.based ≡ l.initial.based ++ based_answers (part_by l.parts) l.first (take l.place l.answers)
