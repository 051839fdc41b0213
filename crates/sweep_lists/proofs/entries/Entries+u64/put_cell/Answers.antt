use Rattle.std.proofs.Common.{ℕ, ◌+◌, ◌≤◌, List, [], ◌∷◌, ◌++◌, length, sym, ap, refl, ◌∙◌, arith, rules, vec_capacity}
use Rattle.std.proofs.lemmas.List.{take_all}
use Rattle.sweep_lists.specs.Room.{Roomy}
use Rattle.sweep_laws.specs.Lists.{put_cell}
use Rattle.sweep_lists.proofs.Cells.{put-within, put-beyond}
use Rattle.sweep_lists.proofs.entries.Entries+u64.put_cell.Goals as goal

pub returns-then-index-len-clause-ok : goal.returns-then-index-len-clause-ok
returns-then-index-len-clause-ok c =
    rw (← c.self.view_is) (sym (put-within c.self.inside.items.items c.args.index c.args.cell (search rules)))

pub returns-clause-ok : goal.returns-clause-ok
returns-clause-ok c =
    let seen = ap (λ (r : Roomy ℕ). r.space) c.self-2.view_is in
    let room : c.args.index + 1 ≤ vec_capacity c.self-2.inside.items = omega (arith, seen, c.self-2.invariant, c.in_ok-reserve.ensures.ok) in
    let grown = c.resize.ensures.succeeds (omega arith) in
    let items = rw grown at c.resize.ensures.items in
    let size = rw grown at c.resize.ensures.len in
    let pushed = c.push.ensures.succeeds (omega (arith, c.resize.ensures.capacity)) in
    let all = rw pushed at c.push.ensures.items in
    let same = ap (λ (r : Roomy ℕ). r.items) c.self-2.view_is ∙ c.in_ok-reserve.ensures.items in
    let was = ap (λ (r : Roomy ℕ). r.items) c.self.view_is in
    let high : length c.self-2.inside.items.items ≤ c.args.index = omega (arith, c.if-index-len.false, c.len.ensures, ap (λ (xs : List ℕ). length xs) same, ap (λ (xs : List ℕ). length xs) was, c.self.inside.items.ok.0) in
    let first = ap (λ (ys : List ℕ). ys ++ c.args.cell ∷ []) (items ∙ rw (take_all _ _ high, c.self-2.inside.items.ok.0) refl) in
    all ∙ first ∙ sym (put-beyond c.self-2.inside.items.items c.args.index c.args.cell high) ∙ ap (λ (xs : List ℕ). put_cell xs c.args.index c.args.cell) same
