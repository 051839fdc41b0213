use Rattle.std.proofs.Common.{◌≡◌, ◌∙◌, ℕ, ◌+◌, ◌≤◌, get_or, set, map, refl, sym, ap, arith}
use Rattle.std.proofs.lemmas.List.{length-map, set-get_or, set_past}
use Rattle.std.proofs.lemmas.List.Elements.{All-set}
use Rattle.std.proofs.lemmas.Result.{on_ok_weaker, on_err_weaker}
use Rattle.sweep_lists.specs.declared.set.CoreSet.{CoreSet}
use Rattle.sweep_laws.specs.Lists.{put_cell}
use Rattle.sweep_laws.specs.Reading.{no_set}
use Rattle.sweep_laws.specs.ChangesOfSets.{name_page}
use Rattle.sweep_lists.specs.Room.{Roomy}
use Rattle.sweep_lists.specs.Views.{set_view}
use Rattle.sweep_lists.proofs.Maps.{map-changed}
use Rattle.sweep_lists.proofs.set.name_page.Goals as goal

pub returns-then-number-sets-clause-ok : goal.returns-then-number-sets-clause-ok
returns-then-number-sets-clause-ok c =
    let old : CoreSet = get_or c.args.sets.now c.args.claim.set c.index-sets-number.result in
    let new : CoreSet = record { head = old.head; tail = old.tail; cells = c.put_cell.new.self } in
    on_ok_weaker c.put_cell.result
    (λ (is : c.put_cell.new.self.items ≡ put_cell old.cells.items c.args.claim.index (c.from.result + 1)). map-changed set_view c.args.sets.now c.args.claim.set c.index-sets-number.result no_set new (name_page c.args.claim.index c.args.claim.page) c.if-number-sets.true
    (rw (is, c.from.ensures) refl))
    c.put_cell.ensures.ok

pub returns-then-number-sets-clause-err : goal.returns-then-number-sets-clause-err
returns-then-number-sets-clause-err c =
    let old : CoreSet = get_or c.args.sets.now c.args.claim.set c.index-sets-number.result in
    on_err_weaker c.put_cell.result
    (λ same. ap (λ (cells : Roomy ℕ). let changed : CoreSet = record { head = old.head; tail = old.tail; cells = cells } in set c.args.sets.now c.args.claim.set changed) same
    ∙ set-get_or c.args.sets.now c.args.claim.set c.index-sets-number.result)
    c.put_cell.ensures.err

pub returns-then-number-sets-clause-full : goal.returns-then-number-sets-clause-full
returns-then-number-sets-clause-full c =
    on_err_weaker c.put_cell.result
    (λ full n all. omega (arith, full, all c.args.claim.set c.index-sets-number.result c.if-number-sets.true))
    c.put_cell.ensures.full

pub returns-then-number-sets-clause-room : goal.returns-then-number-sets-clause-room
returns-then-number-sets-clause-room c =
    let old : CoreSet = get_or c.args.sets.now c.args.claim.set c.index-sets-number.result in
    let new : CoreSet = record { head = old.head; tail = old.tail; cells = c.put_cell.new.self } in
    λ n all.
    All-set (λ (set : CoreSet). n ≤ set.cells.space) c.args.sets.now c.args.claim.set new
    (omega (arith, all c.args.claim.set c.index-sets-number.result c.if-number-sets.true, c.put_cell.ensures.grows)) all

pub returns-else-number-sets-clause-ok : goal.returns-else-number-sets-clause-ok
returns-else-number-sets-clause-ok c =
    sym (set_past (map set_view c.args.sets.now) c.args.claim.set _ (rw (length-map c.args.sets.now set_view) c.if-number-sets.false))
