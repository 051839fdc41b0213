use Rattle.std.proofs.Common.{◌≡◌, List, ℕ, [], ◌∷◌, ◌++◌, codes, decimal, ap, ◌∙◌}
use Rattle.trace_writer.proofs.Put.{regroup}
use Rattle.trace_writer.proofs.spelling.push_heap_line.Goals as goal

pub returns : goal.returns
returns c =
    let h = c.args.header in
    let e1 : c.push.new.self ≡ codes "heap " = c.push.ensures ∙ ap (λ (l : List ℕ). l ++ codes "heap ") c.requires in
    let e2 : c.push_short.new.self ≡ codes "heap " ++ decimal h.chunks = c.push_short.ensures.text ∙ ap (λ (l : List ℕ). l ++ decimal h.chunks) e1 in
    let e3 = c.push-2.ensures ∙ ap (λ (l : List ℕ). l ++ codes " procs ") e2 in
    let e4 = c.push_short-2.ensures.text ∙ ap (λ (l : List ℕ). l ++ decimal h.procs) e3 in
    let e5 = c.push-3.ensures ∙ ap (λ (l : List ℕ). l ++ codes " rate ") e4 in
    let e6 = c.push_decimal.ensures.text ∙ ap (λ (l : List ℕ). l ++ decimal h.rate) e5 in
    let e7 = c.push-4.ensures ∙ ap (λ (l : List ℕ). l ++ codes " seed ") e6 in
    let e8 = c.push_decimal-2.ensures.text ∙ ap (λ (l : List ℕ). l ++ decimal h.seed) e7 in
    let e9 = c.push-5.ensures ∙ ap (λ (l : List ℕ). l ++ codes " goal ") e8 in
    let e10 = c.push_short-3.ensures.text ∙ ap (λ (l : List ℕ). l ++ decimal h.goal) e9 in
    c.push-6.ensures ∙ ap (λ (l : List ℕ). l ++ 10 ∷ []) e10
    ∙ regroup (codes "heap ") (decimal h.chunks) (codes " procs ") (decimal h.procs) (codes " rate ") (decimal h.rate) (codes " seed ") (decimal h.seed) (codes " goal ") (decimal h.goal) (10 ∷ [])
