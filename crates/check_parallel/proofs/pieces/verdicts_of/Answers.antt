use Rattle.std.proofs.Common.{◌≡◌, ℕ, ◌+◌, ◌-◌, List, length, Some, sym, ◌∙◌, ap, subst, arith}
use Rattle.std.specs.List.{AllZip, range_with_len, slice_get}
use Rattle.rayon.specs.Numbers.{nat_range}
use Rattle.trace_reader.specs.declared.trace.Trace.{Trace}
use Rattle.report_check.specs.declared.items.Item.{Item}
use Rattle.check_parallel.specs.declared.pieces.Verdict.{Verdict}
use Rattle.check_parallel.specs.Parts.{AreVerdicts, IsVerdict}
use Rattle.check_parallel.proofs.Ranging.{ranged}
use Rattle.check_parallel.proofs.pieces.verdicts_of.Goals as goal

-- the pieces are as many as the answers
counted : (t : Trace) (items : List Item) (verdicts : List Verdict) (n : ℕ) → length verdicts ≡ n → ((k : ℕ) (v : Verdict) → slice_get verdicts k ≡ Some v → IsVerdict t items (record { number = 0 + k; count = n }) v) → AreVerdicts t items verdicts
counted t items verdicts n e are k v at =
    let from : 0 + k ≡ k = omega arith in
    subst (λ (m : ℕ). IsVerdict t items (record { number = k; count = m }) v) (sym e) (subst (λ (m : ℕ). IsVerdict t items (record { number = m; count = n }) v) from (are k v at))

pub returns-clause-all : goal.returns-clause-all
returns-clause-all g c =
    let ends = c.into_par_iter.ensures in
    let h = c.in_ok-verdicts.ensures in
    let made = rw (c.map.ensures.base, c.with_min_len.ensures.base) at h.1.1 in
    let judged = rw (c.map.ensures.f) at h.1.2 in
    let whole : c.args.pieces.count - 0 ≡ c.args.pieces.count = omega arith in
    let places = made ∙ (λ i. nat_range (ends.0 i) (ends.1 i)) ∙ ap (range_with_len 0) whole in
    let P : ℕ → Verdict → Type 0 = λ k v. IsVerdict c.args.trace.now c.args.items.now (record { number = k; count = c.args.pieces.count }) v in
    let are = ranged P 0 c.args.pieces.count h.0 (subst (λ (ks : List ℕ). AllZip P ks h.0) places judged) in
    ap (λ (vs : List Verdict). length vs) h.2 ∙ are.0

pub returns-clause-each : goal.returns-clause-each
returns-clause-each g c =
    let ends = c.into_par_iter.ensures in
    let h = c.in_ok-verdicts.ensures in
    let made = rw (c.map.ensures.base, c.with_min_len.ensures.base) at h.1.1 in
    let judged = rw (c.map.ensures.f) at h.1.2 in
    let whole : c.args.pieces.count - 0 ≡ c.args.pieces.count = omega arith in
    let places = made ∙ (λ i. nat_range (ends.0 i) (ends.1 i)) ∙ ap (range_with_len 0) whole in
    let P : ℕ → Verdict → Type 0 = λ k v. IsVerdict c.args.trace.now c.args.items.now (record { number = k; count = c.args.pieces.count }) v in
    let are = ranged P 0 c.args.pieces.count h.0 (subst (λ (ks : List ℕ). AllZip P ks h.0) places judged) in
    let count : length h.0 ≡ c.args.pieces.count = are.0 in
    subst (λ (vs : List Verdict). AreVerdicts c.args.trace.now c.args.items.now vs) (sym h.2) (counted c.args.trace.now c.args.items.now h.0 c.args.pieces.count count are.1)
