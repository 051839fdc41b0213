use Rattle.std.proofs.Common.{◌≡◌, ℕ, List, map, sym, ◌∙◌, ap, subst, rules}
use Rattle.std.specs.List.Sorted.{IsPermutation}
use Rattle.std.proofs.lemmas.List.Sorted.{answers_always}
use Rattle.profile_lines.specs.declared.order.Keyed.{Keyed}
use Rattle.profile_lines.specs.Keyed.{keyed_from}
use Rattle.profile_lines.specs.Read.{IsOrder}
use Rattle.profile_lines.proofs.Ordered.{in-order}
use Rattle.profile_lines.proofs.order.order_of.Goals as goal

pub returns : goal.returns
returns c =
    let items = c.sort_unstable_by_key.new.self.items in
    let up = c.sort_unstable_by_key.ensures.sorted (λ (x : Keyed). (x.stack, x.slot)) (answers_always _ _ _ (λ f a r g h. search rules)) in
    let same : IsPermutation (keyed_from 0 c.args.buckets.now) items = subst (λ (l : List Keyed). IsPermutation l items) c.in_ok-keyed.ensures c.sort_unstable_by_key.ensures.permutation in
    let is : c.from_vec.result ≡ map (λ (k : Keyed). k.number) items = c.from_vec.ensures ∙ c.in_ok-order.ensures ∙ ap (λ (l : List Keyed). map (λ (k : Keyed). k.number) l) c.as_slice.ensures.value in
    subst (λ (l : List ℕ). IsOrder c.args.buckets.now l) (sym is) (in-order c.args.buckets.now items c.requires same up)
