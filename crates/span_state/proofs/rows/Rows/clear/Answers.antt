use Rattle.std.proofs.Common.{◌≡◌, ℕ, ◌/◌, ◌%◌, ◌<◌, ◌==◌, cond, List, length, get_or, ◌∙◌, ap, arith, rules}
use Rattle.std.proofs.lemmas.Grind.{get_or_default_zero}
use Rattle.span_state.specs.Groups.{clear_bit}
use Rattle.span_state.proofs.Table.{own-row, rows-put, word-put}
use Rattle.span_state.proofs.rows.Rows.clear.Goals as goal

pub returns-clause-clear : goal.returns-clause-clear
returns-clause-clear c =
    let places = c.self.inside.places.items in
    let rows = c.self.inside.rows.items in
    let place = c.index-place.result.now in
    let lt : c.args.page < length places = search rules in
    let is : place ≡ get_or places c.args.page 0 = c.index-place.ensures ∙ get_or_default_zero places c.args.page place lt in
    let some : 0 < place = omega arith in
    let row = own-row places rows c.args.page place c.index_mut.result.now c.self.invariant some is c.index_mut.ensures.value in
    rw (← c.self.view_is) (word-put places rows c.args.page place (c.args.index / 64) _ c.clear.new.self c.self.invariant some is
    (λ g. c.clear.ensures.clear g ∙ ap (λ (r : List ℕ). cond (g == c.args.index / 64) (clear_bit (get_or r (c.args.index / 64) 0) (c.args.index % 64)) (get_or r g 0)) row))

pub returns-clause-are : goal.returns-clause-are
returns-clause-are c =
    let places = c.self.inside.places.items in
    let rows = c.self.inside.rows.items in
    let place = c.index-place.result.now in
    let lt : c.args.page < length places = search rules in
    let is : place ≡ get_or places c.args.page 0 = c.index-place.ensures ∙ get_or_default_zero places c.args.page place lt in
    let some : 0 < place = omega arith in
    let row = ap (λ (r : List ℕ). length r) (own-row places rows c.args.page place c.index_mut.result.now c.self.invariant some is c.index_mut.ensures.value) in
    let size = c.clear.ensures.len in
    rw (← c.self.view_is) (λ all. rows-put places rows c.args.page place c.clear.new.self c.self.invariant some is all (let most = all.groups c.args.page in omega arith))
