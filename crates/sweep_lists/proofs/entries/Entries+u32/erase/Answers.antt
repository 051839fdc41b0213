use Rattle.std.proofs.Common.{rules, ◌==◌, ℕ}
use Rattle.sweep_lists.proofs.Firsts.{drop-at, drop-absent}
use Rattle.sweep_lists.proofs.entries.Entries+u32.erase.Goals as goal

pub returns-in-Some : goal.returns-in-Some
returns-in-Some c =
    let e = drop-at (λ (y : ℕ). y == c.args.item) c.self.inside.items.items c.in-Some.index 0 (search rules) in
    rw (← c.self.view_is, e, c.remove.ensures.items)

pub returns-in_default : goal.returns-in_default
returns-in_default c =
    let e = drop-absent (λ (y : ℕ). y == c.args.item) c.self.inside.items.items (search rules) in
    rw (← c.self.view_is, e)
