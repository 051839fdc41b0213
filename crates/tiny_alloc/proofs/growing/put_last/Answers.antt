use Rattle.std.proofs.Common.{◌≡◌, ◌∷◌, [], ◌++◌, ◌-◌, ℕ, List, length, length-append, set, ap, arith, ◌∙◌}
use Rattle.std.proofs.Math.Seq.{set-append_seam}
use Rattle.trace_reader.specs.declared.trace.Cycle.{Cycle}
use Rattle.tiny_alloc.proofs.growing.put_last.Goals as goal

pub returns : goal.returns
returns c = λ front last is. (
    let items : c.into_vec-items.result.items ≡ front ++ last ∷ [] = c.into_vec-items.ensures ∙ c.replace.ensures.value ∙ is in
    let size = ap (λ (cs : List Cycle). length cs) items in
    let long = length-append front (last ∷ []) in
    let len = c.len-last.ensures in
    let at : c.len-last.result - 1 ≡ length front = omega arith in
    c.from_vec.ensures ∙ ap (λ (cs : List Cycle). set cs (c.len-last.result - 1) c.args.cycle) items
    ∙ ap (λ (k : ℕ). set (front ++ last ∷ []) k c.args.cycle) at ∙ set-append_seam front last [] c.args.cycle)
