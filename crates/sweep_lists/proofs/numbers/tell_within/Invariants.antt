use Rattle.std.proofs.Common.{◌≡◌, ◌<◌, ◌||◌, ℕ, false, length, get_or, take}
use Rattle.sweep_laws.specs.Lists.{has}
use Rattle.sweep_lists.proofs.numbers.tell_within.Given as goal

abbrev pub invariant-loop-item : goal.invariant-loop-item
invariant-loop-item l = (i : ℕ) → i < length l.seen → get_or l.seen i false ≡ (get_or l.initial.seen i false || has i (take l.item-index l.items))
