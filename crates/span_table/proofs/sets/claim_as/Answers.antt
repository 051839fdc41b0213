use Rattle.std.proofs.Common.{arith, ◌≡◌, ◌+◌, ◌*◌, ◌%◌, ◌^◌, ◌∙◌, ℕ, List, [], ◌∷◌, sym, ap, subst}
use mathlib.Core.Option.{none}
use Rattle.atomic_table.specs.Table.{Allows, rest, step}
use Rattle.span_table.specs.Turning.{Ruled}
use Rattle.span_table.specs.Plays.{Claimed}
use Rattle.span_table.specs.Seats.{SeatState, without_slot, says}
use Rattle.span_table.specs.declared.view.Item.{Item}
use Rattle.span_table.proofs.SetSteps.{claims_home}
use Rattle.span_laws.specs.declared.said.Said.TheVariants.{Claims}
use Rattle.table_words.specs.Names.{tail_of}
use Rattle.span_table.proofs.sets.claim_as.Goals as goal

pub fetch_add-requires : goal.fetch_add-requires
fetch_add-requires g c = let t = c.shared.invariant in let words = t.words in let slots = t.slots in let p = c.word_of_set-place.ensures in let s = c.shared.inside.table.shared in let m = c.args.seat.now in let r = c.requires.claim in let k = r.2 in (
  c.requires.table ∙ sym c.shared.view_is,
  omega arith,
  subst (λ (z : ℕ × ℕ × ℕ). Allows (Ruled z.2) s.table_id.slots m.id m.me z.0 (λ n. (n + 1) % 2 ^ 64) (Claimed z.1 (step s.table_id.slots z.0 1 0 none) m.me)) (λ i. (sym p i, r.1 i, sym t.key_is i))
      (claims_home (512 * c.shared.inside.chunks) s.table_id.slots m.id m.me.0 [] r.0 c.args.set c.requires.out r.3 k.held k.unclaimed k.lent c.requires.set k.part k.fits k.unpopped k.unplaced m.me (let z : m.me ≡ (m.me.0, (r.0.page + 1, Rattle.span_table.specs.declared.view.Item.TheVariants.Span r.0) ∷ []) = (λ i. (m.me.0, r.4 i)) in z)),
)

pub returns-clause-view : goal.returns-clause-view
returns-clause-view g c = let t = c.shared.invariant in let slots = t.slots in let p = c.word_of_set-place.ensures in let r = c.requires.claim in
    let e = c.fetch_add.ensures.2 (512 * c.shared.inside.chunks) c.args.set slots p in
    e.0 ∙ ap (λ (l : List (ℕ × Item)). let z : SeatState = (without_slot (says (Claims c.args.set (tail_of c.fetch_add.result) g.J.Numbered.number) c.args.seat.now.me.0), rest l) in z) r.4

pub returns-clause-index : goal.returns-clause-index
returns-clause-index g c = let t = c.shared.invariant in let slots = t.slots in let p = c.word_of_set-place.ensures in
    let e = c.fetch_add.ensures.2 (512 * c.shared.inside.chunks) c.args.set slots p in let low = e.1 in let same = ap (λ z. z.slots) (c.requires.table ∙ sym c.shared.view_is) in omega arith
