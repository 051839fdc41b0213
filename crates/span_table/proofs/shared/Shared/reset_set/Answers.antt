use Rattle.std.proofs.Common.{refl, ◌*◌, arith, ◌∙◌, ℕ, sym, ap, subst}
use mathlib.Core.Option.{none}
use Rattle.atomic_table.specs.Table.{Allows, step}
use Rattle.span_laws.specs.Views.{Seen}
use Rattle.span_laws.specs.declared.said.Said.TheVariants.{Resets}
use Rattle.span_table.specs.Plays.{Noted}
use Rattle.span_table.specs.Seats.{SeatState}
use Rattle.span_table.specs.Turning.{Ruled}
use Rattle.span_table.proofs.Resting.{rests_said, seen_said}
use Rattle.span_table.proofs.Turnings.{note_allowed}
use Rattle.span_table.proofs.shared.Shared.reset_set.Goals as goal

pub load-requires : goal.load-requires
load-requires c = let t = c.self.invariant in let w = t.words in let p = c.word_of_set-place.ensures in let s = c.self.inside.table.shared in let m = c.driver.inside.seat in let low = c.requires.set in (
  ap (λ (k : Seen). k.table) c.driver.view_is ∙ c.requires.table ∙ sym c.self.view_is,
  omega arith,
  subst (λ (z : ℕ × ℕ). Allows (Ruled z.1) s.table_id.slots m.id m.me z.0 (λ n. n) (Noted (step s.table_id.slots z.0 0 0 none) m.me)) (λ i. (sym p i, sym t.key_is i))
      (note_allowed (512 * c.self.inside.chunks) s.table_id.slots m.id m.me c.args.set c.driver.invariant.out),
)

pub invariant_of-driver : goal.invariant_of-driver
invariant_of-driver c = let i = c.driver.inside in let t = c.self.invariant in let s = t.slots in let p = c.word_of_set-place.ensures in
    rests_said i.number i.generation i.goal i.spares i.cache i.line i.seat.table_id c.load.new.seat.table_id i.seat.me c.load.new.seat.me c.driver.invariant c.load.ensures.0 (Resets c.args.set) refl refl (c.load.ensures.2 c.args.set (omega arith))

pub returns : goal.returns
returns c = let i = c.driver.inside in let t = c.self.invariant in let s = t.slots in let p = c.word_of_set-place.ensures in
    seen_said i.number i.generation i.goal i.spares i.cache i.line i.seat.table_id c.load.new.seat.table_id i.seat.me c.load.new.seat.me c.driver.invariant c.load.ensures.0 c.args.driver.now c.driver.view_is (Resets c.args.set) (ap (λ (z : SeatState). z.0) (c.load.ensures.2 c.args.set (omega arith)))
