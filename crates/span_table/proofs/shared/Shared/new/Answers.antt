use Rattle.std.proofs.Common.{arith, inl, ◌*◌, ℕ, List, sym, subst}
use Rattle.atomic_table.specs.Table.{opening}
use Rattle.span_table.specs.Running.{first_seat_view}
use Rattle.span_table.specs.Turning.{Ruled}
use Rattle.span_table.proofs.Starts.{starts}
use Rattle.span_table.proofs.shared.Shared.new.Goals as goal

pub new-requires-2 : goal.new-requires-2
new-requires-2 c = let w = c.in_ok-words.ensures in let x = c.in_ok-items.ensures in let p = c.in_ok-heap.ensures in
    subst (λ (ws : List ℕ). Ruled (512 * c.args.chunks) (opening ws c.in_ok-items.items.items (first_seat_view (512 * c.args.chunks) c.args.goal c.args.procs 70))) (sym c.deref.ensures.value)
    (inl (starts (512 * c.args.chunks) c.args.goal c.args.procs 70 c.in_ok-words.words.items c.in_ok-items.items.items c.in_ok-heap.heap (let f = c.requires.few in omega arith) (omega arith) (omega arith) w.0 w.1 w.2 x.0 x.1 p.region p.goal p.empty))
