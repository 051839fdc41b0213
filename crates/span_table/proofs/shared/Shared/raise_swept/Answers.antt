use Rattle.std.proofs.Common.{arith, ◌≡◌, ◌+◌, Bool, [], eq-eqb, sym, ap, ◌∙◌, subst, refl}
use Rattle.span_laws.specs.Views.{span_of}
use Rattle.span_laws.specs.declared.said.SaidOf.TheVariants.{Pops}
use Rattle.table_words.specs.Names.{head_tail}
use Rattle.span_laws.specs.Views.{Seen}
use Rattle.span_table.specs.Plays.{RaisesBy}
use Rattle.span_table.specs.Seats.{SeatState, with_slot, says_of}
use Rattle.span_table.specs.declared.view.Item.TheVariants.{Span}
use Rattle.span_table.proofs.Adaptors.{first_slot}
use Rattle.span_table.proofs.Lending.{hand_is, joined}
use Rattle.span_table.proofs.SlotSteps.{return_allowed}
use Rattle.span_table.proofs.shared.Shared.raise_swept.Goals as goal

pub exchange-requires : goal.exchange-requires
exchange-requires c = let i = c.w.inside in let x = c.raise-word.result in let h = c.halves-found_head.ensures in
    let is = joined x c.args.head c.args.tail (sym h.head ∙ c.if-found_head-head.false) (sym h.tail ∙ c.if-found_tail-tail.false) in
    let e = subst (λ (b : Bool). RaisesBy b c.args.set c.args.page x i.seat.me c.raise-word.new.seat.me) (eq-eqb x (head_tail c.args.head c.args.tail) is) c.raise-word.ensures.view in
    (c.raise-word.ensures.table ∙ ap (λ (k : Seen). k.table) c.w.view_is ∙ c.requires.table ∙ sym c.self.view_is, (Span e.0, first_slot c.raise-word.new.seat.me.1 (c.args.page + 1) (Span e.0) i.seat.me.1 (ap (λ (z : SeatState). z.1) e.1)))

pub load-requires : goal.load-requires
load-requires c = let i = c.w.inside in let x = c.raise-word.result in let h = c.halves-found_head.ensures in let r = c.w.invariant in
    let is = joined x c.args.head c.args.tail (sym h.head ∙ c.if-found_head-head.false) (sym h.tail ∙ c.if-found_tail-tail.false) in
    let e = subst (λ (b : Bool). RaisesBy b c.args.set c.args.page x i.seat.me c.raise-word.new.seat.me) (eq-eqb x (head_tail c.args.head c.args.tail) is) c.raise-word.ensures.view in
    let hand = hand_is (Pops c.args.set) c.args.page e.0 i.seat.me c.raise-word.new.seat.me c.exchange.new.seat.me c.exchange.result e.1 c.exchange.ensures.2 c.exchange.ensures.3 r.empty in
    let same : i.seat.table_id ≡ c.self.inside.table.shared.table_id = ap (λ (k : Seen). k.table) c.w.view_is ∙ c.requires.table ∙ sym c.self.view_is in
    let f = c.self.invariant in let words = f.words in let slots = f.slots in let key = f.key_is in let region = r.region in let many : i.seat.table_id.slots ≡ c.self.inside.table.shared.table_id.slots = ap (λ z. z.slots) same in let low = e.6 in (
      c.exchange.ensures.0 ∙ c.raise-word.ensures.table ∙ same,
      omega arith,
      return_allowed c.self.inside.table.shared.key.pages c.self.inside.table.shared.table_id.slots c.exchange.new.seat.id c.exchange.new.seat.me (with_slot c.args.page (says_of (Pops c.args.set) (span_of e.0) i.seat.me.0)) c.args.page [] hand r.out (omega arith) refl e.5,
    )
