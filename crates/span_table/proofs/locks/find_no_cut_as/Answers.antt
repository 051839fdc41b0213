use Rattle.std.proofs.Common.{arith, ◌≡◌, ◌+◌, ◌∙◌, ℕ, sym, subst}
use mathlib.Core.Option.{none}
use Rattle.atomic_table.specs.Table.{Allows, step}
use Rattle.span_table.specs.Plays.{FoundNoCut}
use Rattle.span_table.specs.Turning.{Ruled}
use Rattle.span_table.proofs.Pulling.{no_cut_allowed}
use Rattle.span_table.proofs.locks.find_no_cut_as.Goals as goal

pub load-requires : goal.load-requires
load-requires g c = let t = c.shared.invariant in let words = t.words in let s = c.shared.inside.table.shared in let m = c.args.seat.now in let r = c.requires in let low = r.number in
    let p : c.event_word-word.result ≡ c.args.number + 5 = c.event_word-word.ensures 0 in (
      r.table ∙ sym c.shared.view_is,
      omega arith,
      subst (λ (z : ℕ × ℕ × ℕ). Allows (Ruled s.key.pages) s.table_id.slots m.id m.me z.0 (λ n. n) (FoundNoCut z.1 z.2 (step s.table_id.slots z.0 0 0 none) m.me)) (λ i. (sym p i, sym r.picked.0 i, sym r.picked.1 i))
          (no_cut_allowed s.key.pages s.table_id.slots m.id m.me c.args.number r.out r.number r.own c.args._pages c.args._left),
    )
