use Rattle.std.proofs.Common.{arith, ◌≡◌, ◌+◌, ◌-◌, ◌*◌, ◌/◌, ◌%◌, ◌<◌, ◌≤◌, ◌∙◌, ℕ, suc, eqb, sym, ap, subst, refl}
use mathlib.Core.Option.{none}
use prog.Atomic.{either}
use Rattle.atomic_table.specs.Table.{Allows, step}
use Rattle.set_blocks.specs.Names.{blocks_of}
use Rattle.sweep_laws.specs.declared.moves.Claimed.{Claimed as Claim}
use Rattle.table_words.specs.Names.{CellWord, DrawnWord, EntryWord, chunks_of}
use Rattle.table_words.proofs.Places.{place_low}
use Rattle.span_table.specs.Turning.{Ruled}
use Rattle.span_table.specs.Plays.{Put, PutsBy, chunks_at}
use Rattle.span_table.proofs.Spines.{put_allowed}
use Rattle.span_table.proofs.blocks.put_as.Goals as goal

pub compare_exchange-requires : goal.compare_exchange-requires
compare_exchange-requires g c = let t = c.shared.invariant in let words = t.words in let slots = t.slots in let s = c.shared.inside.table.shared in let m = c.args.seat.now in let r = c.requires in
    let same = r.table ∙ sym c.shared.view_is in let many = ap (λ z. z.slots) same in let p = c.word_of_entry-place.ensures in let v = c.from.ensures in let inside = r.cell.1 in let some_one = r.some in
    let claim : Claim = record { set = c.args.set; index = c.args.index; page = c.args.page } in
    let spine : c.args.index / 512 < chunks_of (512 * c.shared.inside.chunks) = omega arith in
    let bound = place_low (512 * c.shared.inside.chunks) (EntryWord c.args.set (c.args.index / 512)) (r.cell.0, spine) in (
      same,
      omega arith,
      subst (λ (z : ℕ × ℕ × ℕ × ℕ × ℕ). Allows (Ruled z.1) s.table_id.slots m.id m.me z.0 (λ n. either (eqb n 0) z.4 n) (Put z.2 z.3 (step s.table_id.slots z.0 0 z.4 none) m.me)) (λ i. (sym p i, sym t.key_is i, sym r.picked.0 i, sym r.picked.1 i, sym v i))
          (put_allowed (512 * c.shared.inside.chunks) s.table_id.slots m.id m.me claim c.args.spare (c.args.spare - 1) r.out r.claimed r.cell.0 spine r.spare (let y : c.args.spare ≡ suc (c.args.spare - 1) = omega arith in y)),
    )

pub returns-clause-view : goal.returns-clause-view
returns-clause-view g c = let r = c.requires in let x = c.compare_exchange.result in subst (λ (z : ℕ × ℕ × ℕ). PutsBy (eqb x 0) z.0 z.1 z.2 x c.args.seat.now.me c.compare_exchange.new.seat.me) (λ i. (r.picked.0 i, r.picked.1 i, c.from.ensures i)) c.compare_exchange.ensures.2.0

pub returns-clause-low : goal.returns-clause-low
returns-clause-low g c = let r = c.requires in let same = r.table ∙ sym c.shared.view_is in subst (λ (y : ℕ). c.compare_exchange.result ≤ blocks_of (chunks_at y)) (sym (ap (λ z. z.slots) same)) c.compare_exchange.ensures.2.1

pub returns-clause-spare : goal.returns-clause-spare
returns-clause-spare g c = let r = c.requires in let same = r.table ∙ sym c.shared.view_is in subst (λ (y : ℕ × ℕ). y.1 ≤ blocks_of (chunks_at y.0)) (λ i. (sym (ap (λ z. z.slots) same) i, c.from.ensures i)) c.compare_exchange.ensures.2.2
