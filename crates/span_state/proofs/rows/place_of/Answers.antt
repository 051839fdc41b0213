use Rattle.std.proofs.Common.{◌<◌, length, refl, ◌∙◌, arith}
use Rattle.std.proofs.lemmas.Grind.{get_or_default_zero}
use Rattle.span_state.proofs.Table.{rows-new, rows-same, word-new, word-same}
use Rattle.span_state.proofs.rows.place_of.Goals as goal

pub returns-in_err-extend-clause-words : goal.returns-in_err-extend-clause-words
returns-in_err-extend-clause-words c = word-same c.args.places.now.items c.extend.new.places.items c.args.rows.now.items c.args.rows.now.items c.extend.ensures.same refl

pub returns-in_err-extend-clause-are : goal.returns-in_err-extend-clause-are
returns-in_err-extend-clause-are c = rows-same c.args.places.now.items c.extend.new.places.items c.args.rows.now.items c.args.rows.now.items c.args.page c.extend.ensures.same refl c.extend.ensures.few

pub returns-then-place-gt0-clause-words : goal.returns-then-place-gt0-clause-words
returns-then-place-gt0-clause-words c = word-same c.args.places.now.items c.extend.new.places.items c.args.rows.now.items c.args.rows.now.items c.extend.ensures.same refl

pub returns-then-place-gt0-clause-are : goal.returns-then-place-gt0-clause-are
returns-then-place-gt0-clause-are c = rows-same c.args.places.now.items c.extend.new.places.items c.args.rows.now.items c.args.rows.now.items c.args.page c.extend.ensures.same refl c.extend.ensures.few

pub returns-in_err-push-clause-words : goal.returns-in_err-push-clause-words
returns-in_err-push-clause-words c =
    word-same c.args.places.now.items c.extend.new.places.items c.args.rows.now.items c.push.new.self.items c.extend.ensures.same c.in_err-push.ensures.items

pub returns-in_err-push-clause-are : goal.returns-in_err-push-clause-are
returns-in_err-push-clause-are c =
    rows-same c.args.places.now.items c.extend.new.places.items c.args.rows.now.items c.push.new.self.items c.args.page c.extend.ensures.same c.in_err-push.ensures.items c.extend.ensures.few

pub returns-clause-words : goal.returns-clause-words
returns-clause-words c =
    let lt : c.args.page < length c.extend.new.places.items = c.in_ok-extend.ensures.reached in
    let read = c.index-place.ensures ∙ get_or_default_zero c.extend.new.places.items c.args.page c.index-place.result.now lt in
    let size = c.in_ok-push.ensures.len in
    word-new c.args.places.now.items c.extend.new.places.items c.args.rows.now.items c.push.new.self.items c.args.page c.len-place.result c.new.result c.extend.ensures.same c.requires lt
    c.in_ok-push.ensures.items (let known = c.args.rows.now.ok.0 in let is = c.len-place.ensures in omega arith) (omega arith) c.new.ensures.words

pub returns-clause-are : goal.returns-clause-are
returns-clause-are c =
    let lt : c.args.page < length c.extend.new.places.items = c.in_ok-extend.ensures.reached in
    let size = c.in_ok-push.ensures.len in
    let long = c.new.ensures.len in
    rows-new c.args.places.now.items c.extend.new.places.items c.args.rows.now.items c.push.new.self.items c.args.page c.len-place.result c.new.result c.extend.ensures.same c.requires lt
    c.in_ok-push.ensures.items (let known = c.args.rows.now.ok.0 in let is = c.len-place.ensures in omega arith) c.extend.ensures.few (omega arith)
