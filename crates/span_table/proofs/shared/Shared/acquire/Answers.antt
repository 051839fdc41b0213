use Rattle.std.proofs.Common.{arith, ◌≡◌, ◌+◌, ◌-◌, ◌<◌, ℕ, Bool, [], eqb, eq-eqb, ne_eqb, sym, ap, ◌∙◌, subst, refl}
use mathlib.Core.Option.{none}
use prog.Atomic.{either}
use Rattle.atomic_table.specs.Table.{Allows, step}
use Rattle.span_state.specs.declared.body.Body.{Body}
use Rattle.span_laws.specs.Answers.{AcquiresSpan}
use Rattle.span_laws.specs.Views.{Seen, span_of}
use Rattle.span_laws.specs.declared.answers.Acquired.TheVariants.{Got}
use Rattle.span_laws.specs.declared.said.Said.TheVariants.{Finds}
use Rattle.span_laws.specs.declared.said.SaidOf.TheVariants.{Acquires}
use Rattle.span_table.specs.Turning.{Ruled}
use Rattle.span_table.specs.Known.{known}
use Rattle.span_table.specs.Plays.{Acquired, AcquiresBy}
use Rattle.span_table.specs.Seats.{SeatState, with_slot, says_of}
use Rattle.span_table.specs.declared.view.Item.TheVariants.{Span}
use Rattle.span_table.proofs.Acquiring.{acquire_allowed}
use Rattle.span_table.proofs.Adaptors.{first_slot}
use Rattle.span_table.proofs.Resting.{lent_acquired, rests_by, rests_said, seen_of}
use Rattle.span_laws.specs.OwnSteps.{after_of, told_of}
use Rattle.span_table.proofs.Lending.{body_is, hand_is, home_is, item_is}
use Rattle.span_table.proofs.SlotSteps.{return_allowed}
use Rattle.span_table.proofs.shared.Shared.acquire.Goals as goal

pub compare_exchange-word-requires : goal.compare_exchange-word-requires
compare_exchange-word-requires c = let t = c.self.invariant in let words = t.words in let slots = t.slots in let p = c.word_of_page-place.ensures in let s = c.self.inside.table.shared in let m = c.w.inside.seat in let r = c.w.invariant in
    let same : m.table_id ≡ s.table_id = ap (λ (k : Seen). k.table) c.w.view_is ∙ c.requires.table ∙ sym c.self.view_is in
    let region = r.region in let key = t.key_is in
    let many : m.table_id.slots ≡ s.table_id.slots = ap (λ z. z.slots) same in
    let low : c.args.page < m.me.0.view.region = subst (λ (k : Seen). c.args.page < k.view.region) (sym c.w.view_is) c.requires.page in
    let g = r.generation_is in let early = r.early.0 in let waits : ℕ = c.w.inside.generation - 2 in (
      same,
      omega arith,
      subst (λ (z : ℕ). Allows (Ruled s.key.pages) s.table_id.slots m.id m.me z (λ n. either (eqb n waits) (waits + 1) n) (Acquired (step s.table_id.slots z waits (waits + 1) none) m.me)) (sym p)
          (acquire_allowed s.key.pages s.table_id.slots m.id m.me c.args.page waits (waits + 1) r.out (omega arith) (omega arith) (omega arith) r.slot_out),
    )

-- the worker found another word
pub invariant_of-w : goal.invariant_of-w
invariant_of-w c = let i = c.w.inside in let x = c.compare_exchange-word.result in let t = c.compare_exchange-word.ensures.2 c.args.page c.word_of_page-place.ensures in
    let e = subst (λ (b : Bool). AcquiresBy b c.args.page x i.seat.me c.compare_exchange-word.new.seat.me) (ne_eqb x (i.generation - 2) c.if-word-waits.true) t in
    rests_said i.number i.generation i.goal i.spares i.cache i.line i.seat.table_id c.compare_exchange-word.new.seat.table_id i.seat.me c.compare_exchange-word.new.seat.me c.w.invariant c.compare_exchange-word.ensures.0 (Finds c.args.page x) refl refl e

-- the worker has the body's slot
pub exchange-requires : goal.exchange-requires
exchange-requires c = let i = c.w.inside in let x = c.compare_exchange-word.result in let t = c.compare_exchange-word.ensures.2 c.args.page c.word_of_page-place.ensures in
    let e = subst (λ (b : Bool). AcquiresBy b c.args.page x i.seat.me c.compare_exchange-word.new.seat.me) (eq-eqb x (i.generation - 2) c.if-word-waits.false) t in
    let same : i.seat.table_id ≡ c.self.inside.table.shared.table_id = ap (λ (k : Seen). k.table) c.w.view_is ∙ c.requires.table ∙ sym c.self.view_is in
    (c.compare_exchange-word.ensures.0 ∙ same, (Span e.0, first_slot c.compare_exchange-word.new.seat.me.1 (c.args.page + 1) (Span e.0) i.seat.me.1 (ap (λ (z : SeatState). z.1) e.1.0)))

pub unreachable-requires : goal.unreachable-requires
unreachable-requires c = let i = c.w.inside in let x = c.compare_exchange-word.result in let t = c.compare_exchange-word.ensures.2 c.args.page c.word_of_page-place.ensures in
    let e = subst (λ (b : Bool). AcquiresBy b c.args.page x i.seat.me c.compare_exchange-word.new.seat.me) (eq-eqb x (i.generation - 2) c.if-word-waits.false) t in
    c.in_default.not-Span e.0 (sym (item_is Acquires c.args.page e.0 i.seat.me c.compare_exchange-word.new.seat.me c.exchange.new.seat.me c.exchange.result e.1.0 c.exchange.ensures.2 c.exchange.ensures.3 c.w.invariant.empty))

pub load-requires : goal.load-requires
load-requires c = let i = c.w.inside in let x = c.compare_exchange-word.result in let t = c.compare_exchange-word.ensures.2 c.args.page c.word_of_page-place.ensures in let r = c.w.invariant in
    let e = subst (λ (b : Bool). AcquiresBy b c.args.page x i.seat.me c.compare_exchange-word.new.seat.me) (eq-eqb x (i.generation - 2) c.if-word-waits.false) t in
    let same : i.seat.table_id ≡ c.self.inside.table.shared.table_id = ap (λ (k : Seen). k.table) c.w.view_is ∙ c.requires.table ∙ sym c.self.view_is in
    let hand = hand_is Acquires c.args.page e.0 i.seat.me c.compare_exchange-word.new.seat.me c.exchange.new.seat.me c.exchange.result e.1.0 c.exchange.ensures.2 c.exchange.ensures.3 r.empty in
    let low : c.args.page < i.seat.me.0.view.region = subst (λ (k : Seen). c.args.page < k.view.region) (sym c.w.view_is) c.requires.page in
    let f = c.self.invariant in let words = f.words in let slots = f.slots in let key = f.key_is in let region = r.region in let many : i.seat.table_id.slots ≡ c.self.inside.table.shared.table_id.slots = ap (λ z. z.slots) same in (
      c.exchange.ensures.0 ∙ c.compare_exchange-word.ensures.0 ∙ same,
      omega arith,
      return_allowed c.self.inside.table.shared.key.pages c.self.inside.table.shared.table_id.slots c.exchange.new.seat.id c.exchange.new.seat.me (with_slot c.args.page (says_of Acquires (span_of e.0) i.seat.me.0)) c.args.page [] hand r.out (omega arith) refl
          (lent_acquired (span_of e.0) c.args.page i.seat.me.0.view.own e.1.1),
    )

pub invariant_of-w-2 : goal.invariant_of-w-2
invariant_of-w-2 c = let i = c.w.inside in let x = c.compare_exchange-word.result in let t = c.compare_exchange-word.ensures.2 c.args.page c.word_of_page-place.ensures in let r = c.w.invariant in
    let e = subst (λ (b : Bool). AcquiresBy b c.args.page x i.seat.me c.compare_exchange-word.new.seat.me) (eq-eqb x (i.generation - 2) c.if-word-waits.false) t in
    rests_by i.number i.generation i.goal i.spares i.cache i.line i.seat.table_id c.load.new.seat.table_id i.seat.me c.load.new.seat.me r (c.load.ensures.0 ∙ c.exchange.ensures.0 ∙ c.compare_exchange-word.ensures.0) (told_of Acquires (span_of c.in-Span.body) i.seat.me.0.view.own) i.seat.me.0.journal refl refl
    (home_is Acquires c.args.page e.0 i.seat.me c.compare_exchange-word.new.seat.me c.exchange.new.seat.me c.exchange.result e.1.0 c.exchange.ensures.2 c.exchange.ensures.3 r.empty c.load.new.seat.me c.load.ensures.2 r.slot_out c.in-Span.body c.in-Span.is)

pub returns : goal.returns
returns c = let i = c.w.inside in let x = c.compare_exchange-word.result in let t = c.compare_exchange-word.ensures.2 c.args.page c.word_of_page-place.ensures in let r = c.w.invariant in
    let e = subst (λ (b : Bool). AcquiresBy b c.args.page x i.seat.me c.compare_exchange-word.new.seat.me) (eq-eqb x (i.generation - 2) c.if-word-waits.false) t in
    let home = home_is Acquires c.args.page e.0 i.seat.me c.compare_exchange-word.new.seat.me c.exchange.new.seat.me c.exchange.result e.1.0 c.exchange.ensures.2 c.exchange.ensures.3 r.empty c.load.new.seat.me c.load.ensures.2 r.slot_out c.in-Span.body c.in-Span.is in
    let body = body_is Acquires c.args.page e.0 i.seat.me c.compare_exchange-word.new.seat.me c.exchange.new.seat.me c.exchange.result e.1.0 c.exchange.ensures.2 c.exchange.ensures.3 r.empty c.in-Span.body c.in-Span.is in
    let now : known c.load.new.seat.table_id c.load.new.seat.me.0 ≡ after_of Acquires (span_of c.in-Span.body) c.args.w.now =
    seen_of i.number i.generation i.goal i.spares i.cache i.line i.seat.table_id c.load.new.seat.table_id i.seat.me c.load.new.seat.me r (c.load.ensures.0 ∙ c.exchange.ensures.0 ∙ c.compare_exchange-word.ensures.0) c.args.w.now c.w.view_is Acquires (span_of c.in-Span.body) (ap (λ (z : SeatState). z.0) home) in
    let facts : AcquiresSpan c.args.page (known i.seat.table_id i.seat.me.0) (after_of Acquires (span_of e.0) (known i.seat.table_id i.seat.me.0)) (Got e.0) = (e.1.1, refl, e.1.2, e.1.3, e.1.4, e.1.5, e.1.6) in
    let seen = subst (λ (z : Seen × Body). AcquiresSpan c.args.page z.0 (after_of Acquires (span_of z.1) z.0) (Got z.1)) (λ j. (c.w.view_is j, body j)) facts in
    subst (λ (z : Seen). AcquiresSpan c.args.page c.args.w.now z (Got c.in-Span.body)) (sym now) seen
