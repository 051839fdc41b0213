use Rattle.std.proofs.Common.{arith, ◌≡◌, ◌+◌, ◌*◌, ◌/◌, ◌%◌, ◌^◌, ◌<◌, ◌≤◌, ◌∙◌, ℕ, suc, eqb, sym, ap, subst, refl}
use mathlib.Core.Option.{none}
use prog.Atomic.{either}
use Rattle.atomic_table.specs.Table.{Allows, step}
use Rattle.set_blocks.specs.Names.{blocks_of}
use Rattle.sweep_laws.specs.declared.moves.Claimed.{Claimed as Claim}
use Rattle.table_words.specs.Names.{CellWord, DrawnWord, EntryWord, chunks_of}
use Rattle.table_words.proofs.Places.{place_low}
use Rattle.span_table.specs.Turning.{Ruled}
use Rattle.span_table.specs.Plays.{Drew, chunks_at}
use Rattle.span_table.proofs.Spines.{draw_allowed}
use Rattle.span_table.proofs.blocks.draw.Goals as goal

pub fetch_add-requires : goal.fetch_add-requires
fetch_add-requires c = let t = c.shared.invariant in let words = t.words in let slots = t.slots in let s = c.shared.inside.table.shared in let m = c.args.seat.now in let r = c.requires in
    let same = r.table ∙ sym c.shared.view_is in let many = ap (λ z. z.slots) same in let p = c.word_of_drawn-place.ensures in
    let claim : Claim = record { set = c.args.set; index = c.args.index; page = c.args.page } in
    let bound = place_low (512 * c.shared.inside.chunks) (DrawnWord (c.args.set % 2)) (omega arith) in (
      same,
      omega arith,
      subst (λ (z : ℕ × ℕ). Allows (Ruled z.1) s.table_id.slots m.id m.me z.0 (λ n. (n + 1) % 2 ^ 64) (Drew (step s.table_id.slots z.0 1 0 none) m.me)) (λ i. (sym p i, sym t.key_is i))
          (draw_allowed (512 * c.shared.inside.chunks) s.table_id.slots m.id m.me claim r.out r.claimed r.number r.none),
    )

pub returns-clause-low : goal.returns-clause-low
returns-clause-low c = let r = c.requires in let same = r.table ∙ sym c.shared.view_is in subst (λ (y : ℕ). c.fetch_add.result < blocks_of (chunks_at y)) (sym (ap (λ z. z.slots) same)) c.fetch_add.ensures.2.1
