use Rattle.std.proofs.Common.{◌≡◌, ℕ, ◌+◌, List, ◌∷◌, [], ◌++◌, length, refl, sym, ◌∙◌, ap, subst, arith}
use Rattle.std.proofs.lemmas.List.{length-map}
use Rattle.trace_reader.specs.declared.trace.Event.{Event}
use Rattle.cycle_history.specs.declared.Answer.{Answer}
use Rattle.cycle_history.specs.declared.totals.Count.{Count}
use Rattle.cycle_history.specs.declared.Total.{Total}
use Rattle.cycle_history.specs.Requests.{Request, requests_from}
use Rattle.cycle_history.specs.Counted.{AreCounts, AreListed, of_class}
use Rattle.cycle_history.proofs.OfObjects.{requests-events}
use Rattle.cycle_history.proofs.Counted.{listed-all, listed-empty, listed-more}
use Rattle.cycle_history.proofs.totals.totals_of.Goals.{then-count-ne0+in_ok-push, else-count-ne0}
use Rattle.cycle_history.proofs.totals.totals_of.Goals as goal

pub loop-class-preserved : goal.loop-class-preserved
loop-class-preserved c =
    let counts = c.counts_of-counts.result in
    let class = c.loop-class.class in
    let is = c.of-count.ensures in
    let mallocs : c.of-count.result.mallocs ≡ (of_class counts class).mallocs = ap (λ (x : Count). x.mallocs) is in
    let frees : c.of-count.result.frees ≡ (of_class counts class).frees = ap (λ (x : Count). x.frees) is in
    elim c.if-count-ne0.branch [
      | then-count-ne0+in_ok-push w ↦ (
          let total : Total = record { class = class; mallocs = c.of-count.result.mallocs; frees = c.of-count.result.frees } in
          let pushed : w.push.new.self ≡ c.loop-class.totals ++ total ∷ [] = w.in_ok-push.ensures.ok in
          let some = w.if-count-ne0.true in
          subst (λ (totals : List Total). AreListed counts (class + 1) totals) (sym (w.totals-is ∙ pushed))
          (listed-more counts class c.loop-class.totals total refl (omega arith) mallocs frees c.loop-class.invariant))
      | else-count-ne0 w ↦ subst (λ (totals : List Total). AreListed counts (class + 1) totals) (sym w.totals-is) (listed-empty counts class c.loop-class.totals (sym mallocs ∙ w.if-count-ne0.false) c.loop-class.invariant)
    ]

pub returns : goal.returns
returns c = record {
  totals = λ objects of. (
      let t = c.args.trace.now in
      let all : length c.args.answers.now ≡ length (requests_from 0 t.cycles) =
      c.requires.answers ∙ sym (ap (λ (es : List Event). length es) (requests-events 0 t.cycles)) ∙ length-map (requests_from 0 t.cycles) (λ (r : Request). r.event) in
      let counts : AreCounts t c.args.answers.now (length c.args.answers.now) c.counts_of-counts.result =
      subst (λ (xs : List Answer). AreCounts t xs (length xs) c.counts_of-counts.result) c.as_slice.ensures c.counts_of-counts.ensures in
      let end = c.loop-class.auto.class-end in
      let over = c.loop-class-test.false in
      let class : c.loop-class.class ≡ 68 = omega arith in
      let listed : AreListed c.counts_of-counts.result 68 c.loop-class.totals = subst (λ (k : ℕ). AreListed c.counts_of-counts.result k c.loop-class.totals) class c.loop-class.invariant in
      listed-all t c.args.answers.now c.counts_of-counts.result c.loop-class.totals objects all counts listed of);
}
