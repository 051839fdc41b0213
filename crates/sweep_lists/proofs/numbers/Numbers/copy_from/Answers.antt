use Rattle.std.proofs.Common.{arith, ap, length, List, Bool, drop, ◌++◌}
use Rattle.std.proofs.lemmas.Grind.{common_steps}
use Rattle.std.proofs.lemmas.List.{length-take, length-append, length-drop}
use Rattle.sweep_lists.proofs.numbers.Numbers.copy_from.Goals as goal

pub invariant_of-self : goal.invariant_of-self
invariant_of-self c = record {
  told = grind (arith, common_steps);
  beyond = λ is i high.
      let seen = c.tell-self-inside.new.seen in
      let rest = drop (length seen) c.fill.new.self.items in
      let v = ap (λ (xs : List Bool). length xs) c.deref_mut.ensures.value in
      let l = length-take c.fill.new.self.len (seen ++ rest) in
      let m = length-append seen rest in
      let n = length-drop (length seen) c.fill.new.self.items in
      rw c.copy_from.ensures (c.tell-self-inside.ensures.within is i (omega (arith, v, l, m, n, c.fill.new.self.ok.0, c.tell-self-inside.auto.seen, high)));
}
