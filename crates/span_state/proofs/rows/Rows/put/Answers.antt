use Rattle.std.proofs.Common.{ℕ, ◌^◌, ◌==◌, ◌&&◌, cond, List, length, get_or, ◌∙◌, ap, arith}
use Rattle.std.proofs.lemmas.Result.{on_ok_weaker, on_err_weaker}
use Rattle.span_state.specs.Groups.{word_of}
use Rattle.span_state.proofs.Table.{own-row, rows-put, word-kept, word-put}
use Rattle.span_state.proofs.rows.Rows.put.Goals as goal

pub returns-clause-put : goal.returns-clause-put
returns-clause-put c =
    let places = c.place_of.new.places.items in
    let rows = c.place_of.new.rows.items in
    let found = c.in_ok-place.ensures in
    let row = own-row places rows c.args.page c.in_ok-place.place c.index_mut.result.now found.places found.some found.place c.index_mut.ensures.value in
    on_ok_weaker c.set.result
    (λ put q g. word-put places rows c.args.page c.in_ok-place.place c.args.group c.args.word c.set.new.self found.places found.some found.place
    (λ h. put h ∙ ap (λ (r : List ℕ). cond (h == c.args.group) c.args.word (get_or r h 0)) row) q g
    ∙ ap (λ (w : ℕ). cond (q == c.args.page && g == c.args.group) c.args.word w) (found.words q g ∙ ap (λ (rs : List (List ℕ)). word_of rs q g) c.self.view_is))
    c.set.ensures.set

pub returns-clause-same : goal.returns-clause-same
returns-clause-same c =
    let places = c.place_of.new.places.items in
    let rows = c.place_of.new.rows.items in
    let found = c.in_ok-place.ensures in
    let row = own-row places rows c.args.page c.in_ok-place.place c.index_mut.result.now found.places found.some found.place c.index_mut.ensures.value in
    on_err_weaker c.set.result
    (λ same q g. word-kept places rows c.args.page c.in_ok-place.place c.set.new.self found.places found.some found.place
    (λ h. same h ∙ ap (λ (r : List ℕ). get_or r h 0) row) q g
    ∙ found.words q g ∙ ap (λ (rs : List (List ℕ)). word_of rs q g) c.self.view_is)
    c.set.ensures.same

pub returns-clause-are : goal.returns-clause-are
returns-clause-are c =
    let places = c.place_of.new.places.items in
    let rows = c.place_of.new.rows.items in
    let found = c.in_ok-place.ensures in
    let row = ap (λ (r : List ℕ). length r) (own-row places rows c.args.page c.in_ok-place.place c.index_mut.result.now found.places found.some found.place c.index_mut.ensures.value) in
    rw (← c.self.view_is) (λ all less few.
    (let mid = found.are all less in
    let most = mid.groups c.args.page in
    rows-put places rows c.args.page c.in_ok-place.place c.set.new.self found.places found.some found.place mid (c.set.ensures.few (2 ^ 26) (omega arith) few)))
