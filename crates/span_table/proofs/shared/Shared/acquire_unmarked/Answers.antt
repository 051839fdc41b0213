use Rattle.std.proofs.Common.{◌≡◌, ℕ, ap, sym, subst, ◌∙◌, arith}
use Rattle.span_laws.specs.Scans.{PassesPages}
use Rattle.span_laws.specs.Views.{Seen}
use Rattle.span_table.proofs.Scanning.{passes_one}
use Rattle.span_table.proofs.shared.Shared.acquire_unmarked.Goals as goal

pub acquire_at-requires-clause-table : goal.acquire_at-requires-clause-table
acquire_at-requires-clause-table c = ap (λ (k : Seen). k.table) c.loop-page.invariant.view ∙ c.requires.table

pub acquire_at-requires-clause-page : goal.acquire_at-requires-clause-page
acquire_at-requires-clause-page c = let r = ap (λ (k : Seen). k.view.region) c.loop-page.invariant.view in let low = c.loop-page-test.true in let most = c.requires.pages in omega arith

pub acquire_at-requires-clause-marks : goal.acquire_at-requires-clause-marks
acquire_at-requires-clause-marks c = c.requires.marks ∙ sym (ap (λ (k : Seen). k.view.marks) c.loop-page.invariant.view)

pub loop-page-preserved : goal.loop-page-preserved
loop-page-preserved c = let from = c.loop-page.auto.page in passes_one c.args.from c.loop-page.page c.args.w.now c.loop-page.w c.acquire_at.new.w c.loop-page.invariant (omega arith) c.requires.unpopped c.in_default.ensures

pub returns : goal.returns
returns c = let k = c.loop-page.invariant in let i = c.loop-page.page in let old = c.args.w.now in
    let end = c.loop-page.auto.page-end in let high = c.loop-page-test.false in let order = c.requires.order in
    (k.said, subst (λ (z : ℕ). PassesPages old.view.generation old.view.marks c.args.from z k.said) (let z : i ≡ c.args.to = omega arith in z) k.pages, k.view)
