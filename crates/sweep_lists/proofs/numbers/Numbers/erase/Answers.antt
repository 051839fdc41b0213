use Rattle.std.proofs.Common.{◌≡◌, ◌≤◌, ℕ, Bool, length, List, false, sym, ap, ◌∙◌, arith, rules}
use Rattle.std.proofs.Math.ListN.{length-set}
use Rattle.sweep_laws.specs.Lists.{has}
use Rattle.sweep_lists.specs.Room.{Roomy, Tabled}
use Rattle.sweep_lists.proofs.Members.{tells_erased, tells_beyond, erased_absent, gone_erased}
use Rattle.sweep_lists.proofs.numbers.Numbers.erase.Goals as goal

pub invariant_of-self : goal.invariant_of-self
invariant_of-self c =
    let is = c.has-then-item-len.ensures ∙ ap (λ (r : Roomy ℕ). has c.args.item r.items) c.erase.ensures in
    rw c.erase.ensures record {
      told = λ i inside. tells_erased c.self.inside.seen.items c.self.inside.items.items c.args.item c.self.invariant.told c.has-then-item-len.result is i (omega (arith, length-set {A = Bool}));
      beyond = λ all i high. gone_erased i c.args.item c.self.inside.items.items (c.self.invariant.beyond all i (omega (arith, length-set {A = Bool})));
    }

pub invariant_of-self-else-item-len : goal.invariant_of-self-else-item-len
invariant_of-self-else-item-len c =
    let big : length c.self.inside.seen.items ≤ c.args.item = search rules in
    rw c.erase.ensures record {
      told = tells_beyond c.self.inside.seen.items c.self.inside.items.items c.args.item c.self.invariant.told big;
      beyond = λ all i high. gone_erased i c.args.item c.self.inside.items.items (c.self.invariant.beyond all i high);
    }

pub returns-else-has : goal.returns-else-has
returns-else-has c =
    let gone : has c.args.item c.args.self.now.items ≡ false = sym c.has.ensures ∙ c.if-has.false in
    ap (λ (xs : List ℕ). let r : Tabled ℕ = record { items = xs; space = c.args.self.now.space; reach = c.args.self.now.reach } in r) (erased_absent c.args.item c.args.self.now.items gone)
