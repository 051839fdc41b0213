use Rattle.std.proofs.Common.{◌≡◌, arith}
use Rattle.commands.proofs.WholeNumber.{other_number}
use Rattle.commands.proofs.wanted.read_words.Goals.{then-seed-from-via-then-seed-from, then-seed-from-via-else-seed-from+then-objects-lt1, then-seed-from-via-else-seed-from+else-objects-lt1+then-objects-gt1000000}
use Rattle.commands.proofs.wanted.read_words.Goals as goal

pub returns-then-seed-from : goal.returns-then-seed-from
returns-then-seed-from c = λ s o asks.
    let seed = c.in_ok-seed.ensures in
    let objects = c.in_ok-objects.ensures in
    let limit = asks.seed_limit in
    let some = asks.some in
    let few = asks.few in
    let same_seed : c.in_ok-seed.seed ≡ s = other_number _ c.in_ok-seed.seed s seed.0 (omega arith) seed.1 asks.seed_spelled in
    let same_objects : c.in_ok-objects.objects ≡ o = other_number _ c.in_ok-objects.objects o objects.0 (omega arith) objects.1 asks.objects_spelled in
    let most = c.from.ensures in
    elim c.then-seed-from.branch [
      | then-seed-from-via-then-seed-from w ↦ (let big = w.if-seed-from.true in omega arith)
      | then-seed-from-via-else-seed-from+then-objects-lt1 w ↦ (let none = w.if-objects-lt1.true in omega arith)
      | then-seed-from-via-else-seed-from+else-objects-lt1+then-objects-gt1000000 w ↦ (let many = w.if-objects-gt1000000.true in omega arith)
    ]
