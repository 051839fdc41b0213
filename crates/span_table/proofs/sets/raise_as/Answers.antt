use Rattle.std.proofs.Common.{arith, ◌≡◌, ◌+◌, ◌*◌, ◌∙◌, ℕ, eqb, sym, subst}
use mathlib.Core.Option.{none}
use prog.Atomic.{either}
use Rattle.atomic_table.specs.Table.{Allows, step}
use Rattle.span_table.specs.Turning.{Ruled}
use Rattle.span_table.specs.Plays.{Raised}
use Rattle.span_table.proofs.SetSteps.{raise_allowed}
use Rattle.table_words.specs.Names.{head_tail}
use Rattle.span_table.proofs.sets.raise_as.Goals as goal

pub compare_exchange-requires : goal.compare_exchange-requires
compare_exchange-requires g c = let t = c.shared.invariant in let words = t.words in let slots = t.slots in let p = c.word_of_set-place.ensures in let s = c.shared.inside.table.shared in let m = c.args.seat.now in let q = c.head_tail-old.ensures in (
  c.requires.table ∙ sym c.shared.view_is,
  omega arith,
  subst (λ (z : ℕ × ℕ × ℕ × ℕ). Allows (Ruled z.3) s.table_id.slots m.id m.me z.0 (λ n. either (eqb n z.1) z.2 n) (Raised g.J.Numbered.number (step s.table_id.slots z.0 z.1 z.2 none) m.me)) (λ i. (sym p i, sym q i, (let y : head_tail (c.args.head + 1) c.args.tail ≡ c.head_tail-old.result + 4294967296 = omega arith in y) i, sym t.key_is i))
      (raise_allowed (512 * c.shared.inside.chunks) s.table_id.slots m.id m.me c.args.set c.args.head c.args.tail g.J.Numbered.number c.requires.set c.requires.order (let y = c.ranges.tail.fits in omega arith) c.requires.out.0 c.requires.out.1 c.requires.part c.requires.read),
)
