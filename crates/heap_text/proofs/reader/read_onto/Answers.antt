use Rattle.std.proofs.Common.{◌≡◌, ◌++◌, ◌∷◌, [], ℕ, List, sym, subst, ap, ◌∙◌, rules}
use Rattle.std.proofs.lemmas.Result.{err_from_is_err_and}
use Rattle.heap_text.specs.declared.text.HeapLine.{HeapLine}
use Rattle.heap_text.specs.Lawful.{AreLawful, MayFollow}
use Rattle.heap_text.specs.Past.{Allows, IsPast}
use Rattle.heap_text.specs.Read.{HasRead, TakesOne}
use Rattle.heap_text.specs.Text.{heap_line, top_line}
use Rattle.heap_text.proofs.Pasts.{allowed_follows, none_lawful}
use Rattle.heap_text.proofs.Reading.{broken_first, broken_on, lines_so_far, past_low, read_first, read_line_more, reads_all, refuses_later, refuses_sums, refuses_top, room_falls, stands_on, sums_apart, when_none, when_some}
use Rattle.heap_text.proofs.reader.read_onto.Goals as goal

pub loop-list-init : goal.loop-list-init
loop-list-init g c = record {
  same_source = search rules;
  read = subst (λ (ls : List HeapLine). HasRead g.S.Source.left c.args.lines.now c.read_top.new.lines (lines_so_far c.in_ok-top.top.twice c.in_ok-top.top.sums ls)) (sym c.requires)
      (read_first g.S.Source.left c.args.lines.now c.read_top.new.lines (top_line c.in_ok-top.top.twice c.in_ok-top.top.sums) c.in_ok-top.ensures.taken);
  lawful = subst AreLawful (sym c.requires) none_lawful;
  past = subst (λ (ls : List HeapLine). IsPast ls c.none-past.result) (sym c.requires) c.none-past.ensures;
  faults = search rules;
}

pub next_line-requires : goal.next_line-requires
next_line-requires g c = past_low c.loop-list.list c.loop-list.past c.loop-list.invariant.past c.loop-list.invariant.lawful

pub returns-in_err-top-clause-refused : goal.returns-in_err-top-clause-refused
returns-in_err-top-clause-refused g c =
    let p = err_from_is_err_and c.from_residual.result c.from_residual.ensures.1 in
    rw (p.1, p.2) (λ of. refuses_top g.S.Source.left c.args.lines.now _ (c.in_err-top.ensures.refused of))

pub returns-in_err-top-clause-broken_off : goal.returns-in_err-top-clause-broken_off
returns-in_err-top-clause-broken_off g c =
    let p = err_from_is_err_and c.from_residual.result c.from_residual.ensures.1 in
    rw (p.1, p.2) (λ e. broken_first g.S.Source.left c.args.lines.now c.read_top.new.lines (c.in_err-top.ensures.broken_off cc))

pub returns-in_err-line-clause-refused : goal.returns-in_err-line-clause-refused
returns-in_err-line-clause-refused g c =
    let l = c.loop-list in
    let p = err_from_is_err_and c.from_residual-in_err-line.result c.from_residual-in_err-line.ensures.1 in
    rw (p.1, p.2) (λ of. refuses_later g.S.Source.left c.args.lines.now l.lines c.in_ok-top.top.twice c.in_ok-top.top.sums l.list l.past _ l.invariant.read c.in_ok-top.ensures.top l.invariant.lawful l.invariant.past (c.in_err-line.ensures.refused of))

pub returns-in_err-line-clause-broken_off : goal.returns-in_err-line-clause-broken_off
returns-in_err-line-clause-broken_off g c =
    let l = c.loop-list in
    let p = err_from_is_err_and c.from_residual-in_err-line.result c.from_residual-in_err-line.ensures.1 in
    rw (p.1, p.2) (λ e. broken_on g.S.Source.left c.args.lines.now l.lines c.next_line.new.lines c.in_ok-top.top.twice c.in_ok-top.top.sums l.list l.invariant.read c.in_ok-top.ensures.top l.invariant.lawful (c.in_err-line.ensures.broken_off cc))

pub returns-in_err-line-clause-stands : goal.returns-in_err-line-clause-stands
returns-in_err-line-clause-stands g c = stands_on g.S.Source.left c.args.lines.now c.loop-list.lines c.next_line.new.lines _ c.loop-list.invariant.read c.next_line.ensures.stands

pub returns-then-ne-clause-refused : goal.returns-then-ne-clause-refused
returns-then-ne-clause-refused g c = λ _.
    let l = c.loop-list in
    refuses_sums g.S.Source.left c.args.lines.now l.lines c.next_line.new.lines c.in_ok-top.top.twice c.in_ok-top.top.sums l.list c.number-number.result l.invariant.read c.in_ok-top.ensures.top l.invariant.lawful
    (when_none c.in_ok-line.field-0 _ _ c.in_default.not-Some c.in_ok-line.ensures.taken) (c.number-number.ensures ∙ c.read_top.ensures.number)
    (λ same. sums_apart l.past.sums c.in_ok-top.top.sums c.if-ne.ensures (l.invariant.past.sums ∙ sym same))

pub returns-then-ne-clause-stands : goal.returns-then-ne-clause-stands
returns-then-ne-clause-stands g c = stands_on g.S.Source.left c.args.lines.now c.loop-list.lines c.next_line.new.lines _ c.loop-list.invariant.read c.next_line.ensures.stands

pub returns-in_default-clause-stands : goal.returns-in_default-clause-stands
returns-in_default-clause-stands g c = stands_on g.S.Source.left c.args.lines.now c.loop-list.lines c.next_line.new.lines _ c.loop-list.invariant.read c.next_line.ensures.stands

pub returns-in_err-push-clause-stands : goal.returns-in_err-push-clause-stands
returns-in_err-push-clause-stands g c = stands_on g.S.Source.left c.args.lines.now c.loop-list.lines c.next_line.new.lines _ c.loop-list.invariant.read c.next_line.ensures.stands

pub loop-list-smaller : goal.loop-list-smaller
loop-list-smaller g c =
    room_falls g.S.Source.left c.loop-list.lines c.next_line.new.lines (heap_line c.in-Some.line)
    (when_some c.in_ok-line.field-0 c.in-Some.line _ (λ (line : HeapLine). TakesOne g.S.Source.left c.loop-list.lines c.next_line.new.lines (heap_line line)) c.in-Some.is c.in_ok-line.ensures.taken)

pub loop-list-preserved : goal.loop-list-preserved
loop-list-preserved g c =
    let l = c.loop-list in
    let line = c.in-Some.line in
    let one : TakesOne g.S.Source.left l.lines c.next_line.new.lines (heap_line line) =
    when_some c.in_ok-line.field-0 line _ (λ (x : HeapLine). TakesOne g.S.Source.left l.lines c.next_line.new.lines (heap_line x)) c.in-Some.is c.in_ok-line.ensures.taken in
    let allowed : Allows l.past line = when_some c.in_ok-line.field-0 line _ (Allows l.past) c.in-Some.is c.in_ok-line.ensures.allowed in
    let is : c.push.new.self ≡ l.list ++ line ∷ [] = c.in_ok-push.ensures.ok in
    record {
      same_source = search rules;
      read = subst (λ (ls : List HeapLine). HasRead g.S.Source.left c.args.lines.now c.next_line.new.lines (lines_so_far c.in_ok-top.top.twice c.in_ok-top.top.sums ls)) (sym is)
          (read_line_more g.S.Source.left c.args.lines.now l.lines c.next_line.new.lines c.in_ok-top.top.twice c.in_ok-top.top.sums l.list line l.invariant.read one);
      lawful = subst AreLawful (sym is) (allowed_follows l.list l.past line l.invariant.past l.invariant.lawful allowed);
      past = subst (λ (ls : List HeapLine). IsPast ls c.with-past.result) (sym is) (c.with-past.ensures.past l.list l.invariant.past);
      faults = search rules;
    }
