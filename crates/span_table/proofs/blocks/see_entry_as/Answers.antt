use Rattle.std.proofs.Common.{arith, ◌≡◌, ◌+◌, ◌*◌, ◌/◌, ◌%◌, ◌<◌, ◌≤◌, ◌∙◌, ℕ, suc, eqb, sym, ap, subst, refl}
use mathlib.Core.Option.{none}
use prog.Atomic.{either}
use Rattle.atomic_table.specs.Table.{Allows, step}
use Rattle.set_blocks.specs.Names.{blocks_of}
use Rattle.sweep_laws.specs.declared.moves.Claimed.{Claimed as Claim}
use Rattle.table_words.specs.Names.{CellWord, DrawnWord, EntryWord, chunks_of}
use Rattle.table_words.proofs.Places.{place_low}
use Rattle.span_table.specs.Turning.{Ruled}
use Rattle.span_table.specs.Plays.{SawEntry, chunks_at}
use Rattle.span_table.specs.Seats.{SeatState, found_in, with_found}
use Rattle.span_table.proofs.Spines.{saw_entry_allowed}
use Rattle.span_table.proofs.blocks.see_entry_as.Goals as goal

pub load-requires : goal.load-requires
load-requires g c = let t = c.shared.invariant in let words = t.words in let slots = t.slots in let s = c.shared.inside.table.shared in let m = c.args.seat.now in let r = c.requires in
    let same = r.table ∙ sym c.shared.view_is in let many = ap (λ z. z.slots) same in let p = c.word_of_entry-place.ensures in let inside = r.entry.1 in
    let spine : c.args.entry < chunks_of (512 * c.shared.inside.chunks) = omega arith in
    let bound = place_low (512 * c.shared.inside.chunks) (EntryWord c.args.set c.args.entry) (r.entry.0, spine) in (
      same,
      omega arith,
      subst (λ (z : ℕ × ℕ × ℕ × ℕ). Allows (Ruled z.1) s.table_id.slots m.id m.me z.0 (λ n. n) (SawEntry z.2 z.3 (step s.table_id.slots z.0 0 0 none) m.me)) (λ i. (sym p i, sym t.key_is i, sym r.picked.0 i, sym r.picked.1 i))
          (saw_entry_allowed (512 * c.shared.inside.chunks) s.table_id.slots m.id m.me c.args.set c.args.entry r.entry.0 spine r.out),
    )

pub returns-clause-view : goal.returns-clause-view
returns-clause-view g c = let r = c.requires in c.load.ensures.2.0 ∙ (λ i. (with_found (found_in (r.picked.0 i) (r.picked.1 i) c.load.result) c.args.seat.now.me.0, c.args.seat.now.me.1))

pub returns-clause-low : goal.returns-clause-low
returns-clause-low g c = let r = c.requires in let same = r.table ∙ sym c.shared.view_is in subst (λ (y : ℕ). c.load.result ≤ blocks_of (chunks_at y)) (sym (ap (λ z. z.slots) same)) c.load.ensures.2.1
