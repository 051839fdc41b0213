use Rattle.std.proofs.Common.{arith, ◌≡◌, ◌+◌, ◌*◌, ◌/◌, ◌%◌, ◌<◌, ◌≤◌, ◌∙◌, ℕ, suc, eqb, sym, ap, subst, refl}
use mathlib.Core.Option.{none}
use prog.Atomic.{either}
use Rattle.atomic_table.specs.Table.{Allows, step}
use Rattle.set_blocks.specs.Names.{blocks_of}
use Rattle.sweep_laws.specs.declared.moves.Claimed.{Claimed as Claim}
use Rattle.table_words.specs.Names.{CellWord, DrawnWord, EntryWord, chunks_of}
use Rattle.table_words.proofs.Places.{place_low}
use Rattle.span_table.specs.Turning.{Ruled}
use Rattle.span_table.specs.Plays.{Filled}
use Rattle.span_table.proofs.Entries.{fill_allowed}
use Rattle.span_table.proofs.cells.fill.Goals as goal

pub store-requires : goal.store-requires
store-requires c = let t = c.shared.invariant in let words = t.words in let slots = t.slots in let s = c.shared.inside.table.shared in let m = c.args.seat.now in let r = c.requires in
    let same = r.table ∙ sym c.shared.view_is in let many = ap (λ z. z.slots) same in let p = c.word_of_cell-place.ensures in let inside = r.cell.1 in let low : c.args.index < 512 * c.shared.inside.chunks = omega arith in let few = r.low in
    let claim : Claim = record { set = c.args.set; index = c.args.index; page = c.args.page } in
    let bound = place_low (512 * c.shared.inside.chunks) (CellWord (c.args.set % 2) c.args.block (c.args.index % 512)) (omega arith, omega arith, omega arith) in (
      same,
      omega arith,
      subst (λ (z : ℕ × ℕ). Allows (Ruled z.1) s.table_id.slots m.id m.me z.0 (λ _. c.from.result + 1) (λ _. Filled (step s.table_id.slots z.0 (c.from.result + 1) 0 none) m.me (c.from.result + 1))) (λ i. (sym p i, sym t.key_is i))
          (fill_allowed (512 * c.shared.inside.chunks) s.table_id.slots m.id m.me claim c.args.block (c.from.result + 1) r.out r.claimed r.found (ap (λ (z : ℕ). z + 1) c.from.ensures)),
    )

pub returns-clause-view : goal.returns-clause-view
returns-clause-view c = let claim : Claim = record { set = c.args.set; index = c.args.index; page = c.args.page } in c.store.ensures.2 claim c.requires.claimed
