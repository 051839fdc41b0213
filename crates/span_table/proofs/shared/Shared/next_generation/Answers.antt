use Rattle.std.proofs.Common.{eqb, eq-eqb, ap, ◌∙◌}
use Rattle.span_laws.specs.Views.{Seen}
use Rattle.span_table.proofs.Resting.{rests_bare, rests_turned}
use Rattle.span_table.proofs.Rising.{rises-from}
use Rattle.span_table.proofs.shared.Shared.next_generation.Goals as goal

pub end_marking-requires-clause-rising : goal.end_marking-requires-clause-rising
end_marking-requires-clause-rising c = rises-from c.args.marks.now.pairs c.rising.ensures

pub end_marking-requires-clause-alone : goal.end_marking-requires-clause-alone
end_marking-requires-clause-alone c = let i = c.driver.inside in let r = c.driver.invariant in
    let drives = r.drives ∙ ap (λ (k : Seen). eqb k.number 69) c.driver.view_is ∙ eq-eqb c.args.driver.now.number 69 c.requires.may.rest.driver in record {
      drives = drives;
      home = ap (λ (k : Seen). k.away) c.driver.view_is ∙ c.requires.works.1;
      unlocked = r.unlocked;
      slot_out = r.slot_out;
      bare = rests_bare i.number i.generation i.goal i.spares i.cache i.line i.seat.table_id i.seat.me r drives;
    }

pub invariant_of-driver : goal.invariant_of-driver
invariant_of-driver c = let i = c.driver.inside in let e = c.end_marking.ensures.early in let r = c.driver.invariant in
    let drives = r.drives ∙ ap (λ (k : Seen). eqb k.number 69) c.driver.view_is ∙ eq-eqb c.args.driver.now.number 69 c.requires.may.rest.driver in
    rests_turned i.number i.generation i.goal i.spares i.cache i.line i.seat.table_id _ i.seat.me _ c.args.marks.now.pairs r (rests_bare i.number i.generation i.goal i.spares i.cache i.line i.seat.table_id i.seat.me r drives) c.end_marking.ensures.table c.end_marking.ensures.view e
