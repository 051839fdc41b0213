use Rattle.std.proofs.Common.{arith, ◌≡◌, ◌+◌, ◌*◌, ◌/◌, ◌%◌, ◌<◌, ◌≤◌, ◌∙◌, ℕ, suc, eqb, sym, ap, subst, refl}
use mathlib.Core.Option.{none}
use prog.Atomic.{either}
use Rattle.atomic_table.specs.Table.{Allows, step}
use Rattle.set_blocks.specs.Names.{blocks_of}
use Rattle.sweep_laws.specs.declared.moves.Claimed.{Claimed as Claim}
use Rattle.table_words.specs.Names.{CellWord, DrawnWord, EntryWord, chunks_of}
use Rattle.table_words.proofs.Places.{place_low}
use Rattle.span_table.specs.Turning.{Ruled}
use Rattle.span_table.specs.Plays.{FoundBlock, chunks_at}
use Rattle.span_table.specs.Seats.{SeatState}
use Rattle.span_table.specs.Turning.{finds_block, goes_on}
use Rattle.span_table.proofs.Turnings.{find_block_allowed}
use Rattle.span_table.proofs.mark_end.find_block.Goals as goal

pub load-entry-requires : goal.load-entry-requires
load-entry-requires c = let t = c.shared.invariant in let words = t.words in let slots = t.slots in let s = c.shared.inside.table.shared in let m = c.args.seat.now in let r = c.requires in
    let same = r.table ∙ sym c.shared.view_is in let many = ap (λ z. z.slots) same in let p = c.word_of_entry-place.ensures in let inside = r.region in let low : c.args.index < 512 * c.shared.inside.chunks = omega arith in
    let spine : c.args.index / 512 < chunks_of (512 * c.shared.inside.chunks) = omega arith in
    let bound = place_low (512 * c.shared.inside.chunks) (EntryWord c.args.set (c.args.index / 512)) (r.set.0, spine) in (
      same,
      omega arith,
      subst (λ (z : ℕ × ℕ). Allows (Ruled z.1) s.table_id.slots m.id m.me z.0 (λ n. n) (FoundBlock (step s.table_id.slots z.0 0 0 none) m.me)) (λ i. (sym p i, sym t.key_is i))
          (find_block_allowed (512 * c.shared.inside.chunks) s.table_id.slots m.id m.me c.args.set c.args.index c.args.tail r.turning.0 r.turning.1 r.set r.next r.index r.tail r.used r.entries slots),
    )
