use Rattle.std.proofs.Common.{◌<◌, ℕ, inl, inr, refl, ap, sym, subst, arith}
use Rattle.span_laws.specs.Asks.{IsUntouched}
use Rattle.sweeper.proofs.Sweeping.{emptied, ends_empty, may_push, none_full, settles, some_room}
use Rattle.sweeper.proofs.settle.settle.Goals as goal

pub give_span-requires-clause-empty : goal.give_span-requires-clause-empty
give_span-requires-clause-empty g c = let s = c.sweep_in_hand-swept in emptied c.args.shop.now.marks.now c.args.body s.new.body s.result s.ensures.body c.if-swept-eq0.true

pub give_span-requires-clause-swept : goal.give_span-requires-clause-swept
give_span-requires-clause-swept g c = let s = c.sweep_in_hand-swept in let g = c.generation-generation in
    ends_empty c.args.shop.now.marks.now c.args.body s.new.body s.result s.ensures.body c.args.hand.now.worker g.new.w s.new.hand.worker g.result g.ensures.value g.ensures.view s.ensures.worker c.if-swept-eq0.true

pub returns-then-swept-eq0-clause-did : goal.returns-then-swept-eq0-clause-did
returns-then-swept-eq0-clause-did g c = let s = c.sweep_in_hand-swept in let g = c.generation-generation in
    settles c.args.shop.now.marks.now c.args.body s.new.body s.result s.ensures.body c.args.hand.now.worker g.new.w s.new.hand.worker g.result g.ensures.value g.ensures.view s.ensures.worker
    c.args.hand.now (record { worker = c.give_span.new.w; notes = s.new.hand.notes; tally = s.new.hand.tally }) _ refl refl (ap (λ x. x.items) s.ensures.notes) (inl (c.if-swept-eq0.true, c.give_span.ensures))

pub push-requires-clause-may : goal.push-requires-clause-may
push-requires-clause-may g c = let s = c.sweep_in_hand-swept in let g = c.generation-generation in let same = s.ensures.body.same in let o = c.next_free in
    may_push c.args.shop.now.marks.now c.args.body s.new.body s.result s.ensures.body c.args.hand.now.worker g.new.w s.new.hand.worker g.result g.ensures.value g.ensures.view s.ensures.worker
    _ refl (subst (λ (x : ℕ). x < 136) (sym same.class) c.requires.class) (let z = c.if-swept-eq0.false in omega arith) (none_full s.new.body o.result c.is_none.result o.ensures c.is_none.ensures) (some_room s.new.body o.result c.is_none.result o.ensures c.is_none.ensures)
    (subst (λ (p : ℕ). IsUntouched c.args.hand.now.worker.view.generation c.args.hand.now.worker.view.own p) (sym same.page) c.requires.untouched)

pub returns-clause-did : goal.returns-clause-did
returns-clause-did g c = let s = c.sweep_in_hand-swept in let g = c.generation-generation in let o = c.next_free in
    settles c.args.shop.now.marks.now c.args.body s.new.body s.result s.ensures.body c.args.hand.now.worker g.new.w s.new.hand.worker g.result g.ensures.value g.ensures.view s.ensures.worker
    c.args.hand.now (record { worker = c.push.new.w; notes = s.new.hand.notes; tally = s.new.hand.tally }) _ refl refl (ap (λ x. x.items) s.ensures.notes)
    (inr ((let z = c.if-swept-eq0.false in omega arith), (c.is_none.result, none_full s.new.body o.result c.is_none.result o.ensures c.is_none.ensures, some_room s.new.body o.result c.is_none.result o.ensures c.is_none.ensures, c.push.ensures)))
