use Rattle.std.proofs.Common.{◌≡◌, ◌∷◌, [], ◌++◌, ◌-◌, ℕ, List, length, length-append, get_or, set, ap, arith, ◌∙◌}
use Rattle.std.proofs.Math.Seq.{get_or-append_seam, set-append_seam}
use Rattle.trace_reader.specs.declared.trace.Cycle.{Cycle}
use Rattle.tiny_alloc.proofs.growing.end_last.Goals as goal

pub returns : goal.returns
returns c = λ front last is. (
    let items : c.into_vec-items.result.items ≡ front ++ last ∷ [] = c.into_vec-items.ensures ∙ c.replace.ensures.value ∙ is in
    let size = ap (λ (cs : List Cycle). length cs) items in
    let long = length-append front (last ∷ []) in
    let len = c.len-last.ensures in
    let at : c.len-last.result - 1 ≡ length front = omega arith in
    let d = c.index_mut.result.now in
    let own : d ≡ last = c.index_mut.ensures.value ∙ ap (λ (cs : List Cycle). get_or cs (c.len-last.result - 1) d) items
    ∙ ap (λ (k : ℕ). get_or (front ++ last ∷ []) k d) at ∙ get_or-append_seam front last [] d in
    let new : Cycle = record last { mark = c.args.mark } in
    c.from_vec.ensures ∙ ap (λ (x : Cycle). set c.into_vec-items.result.items (c.len-last.result - 1) (record x { mark = c.args.mark })) own
    ∙ ap (λ (cs : List Cycle). set cs (c.len-last.result - 1) new) items
    ∙ ap (λ (k : ℕ). set (front ++ last ∷ []) k new) at ∙ set-append_seam front last [] new)
