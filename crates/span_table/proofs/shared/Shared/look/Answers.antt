use Rattle.std.proofs.Common.{refl, arith, ◌≡◌, ◌*◌, ℕ, sym, ap, ◌∙◌, subst}
use mathlib.Core.Option.{none}
use Rattle.atomic_table.specs.Table.{Allows, step}
use Rattle.span_laws.specs.Answers.{IsAhead}
use Rattle.span_laws.specs.declared.said.Said.TheVariants.{Looks}
use Rattle.span_table.specs.Turning.{Ruled}
use Rattle.table_words.specs.Names.{head_of, tail_of}
use Rattle.span_laws.specs.OwnSteps.{after_said}
use Rattle.span_laws.specs.Views.{Seen}
use Rattle.span_table.specs.Plays.{Looked}
use Rattle.span_table.specs.Seats.{SeatState}
use Rattle.span_table.proofs.Reading.{look_allowed}
use Rattle.span_table.proofs.Resting.{rests_said, seen_said}
use Rattle.span_table.proofs.shared.Shared.look.Goals as goal

pub load-word-requires : goal.load-word-requires
load-word-requires c = let t = c.self.invariant in let w = t.words in let p = c.word_of_set-place.ensures in let s = c.self.inside.table.shared in let m = c.w.inside.seat in (
  ap (λ (k : Seen). k.table) c.w.view_is ∙ c.requires.table ∙ sym c.self.view_is,
  omega arith,
  subst (λ (z : ℕ × ℕ). Allows (Ruled z.1) s.table_id.slots m.id m.me z.0 (λ n. n) (Looked (step s.table_id.slots z.0 0 0 none) m.me)) (λ i. (sym p i, sym t.key_is i))
      (look_allowed (512 * c.self.inside.chunks) s.table_id.slots m.id m.me c.args.set c.requires.set c.w.invariant.out),
)

pub invariant_of-w : goal.invariant_of-w
invariant_of-w c = let i = c.w.inside in let t = c.self.invariant in let s = t.slots in let p = c.word_of_set-place.ensures in let x = c.load-word.result in
    let same : i.seat.table_id ≡ c.self.inside.table.shared.table_id = ap (λ (k : Seen). k.table) c.w.view_is ∙ c.requires.table ∙ sym c.self.view_is in
    let e = c.load-word.ensures.2 c.args.set (omega arith) in
    rests_said i.number i.generation i.goal i.spares i.cache i.line i.seat.table_id c.load-word.new.seat.table_id i.seat.me c.load-word.new.seat.me c.w.invariant c.load-word.ensures.0 (Looks c.args.set (head_of x) (tail_of x)) refl refl e.0

pub returns-clause-view : goal.returns-clause-view
returns-clause-view c = let i = c.w.inside in let t = c.self.invariant in let s = t.slots in let p = c.word_of_set-place.ensures in let x = c.load-word.result in let h = c.halves.ensures in
    let e = c.load-word.ensures.2 c.args.set (omega arith) in
    seen_said i.number i.generation i.goal i.spares i.cache i.line i.seat.table_id c.load-word.new.seat.table_id i.seat.me c.load-word.new.seat.me c.w.invariant c.load-word.ensures.0 c.args.w.now c.w.view_is (Looks c.args.set (head_of x) (tail_of x)) (ap (λ (z : SeatState). z.0) e.0)
    ∙ (λ j. after_said (Looks c.args.set (sym h.head j) (sym h.tail j)) c.args.w.now)

pub returns-clause-ahead : goal.returns-clause-ahead
returns-clause-ahead c = let t = c.self.invariant in let s = t.slots in let p = c.word_of_set-place.ensures in let h = c.halves.ensures in
    let e = c.load-word.ensures.2 c.args.set (omega arith) in
    subst (λ (z : ℕ × ℕ × Seen). IsAhead c.args.set z.0 z.1 z.2.view.own.log) (λ j. (sym h.head j, sym h.tail j, c.w.view_is j)) e.1
