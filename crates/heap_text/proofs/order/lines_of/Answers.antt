use Rattle.std.proofs.Common.{◌≡◌, ◌-◌, ◌^◌, ℕ, List, length, map, sym, ◌∙◌, ap, subst, rules, arith}
use Rattle.std.specs.List.Sorted.{IsPermutation}
use Rattle.std.proofs.lemmas.List.Sorted.{answers_always}
use Rattle.heap_text.specs.declared.order.Ranked.{Ranked}
use Rattle.heap_text.specs.declared.text.HeapLine.{HeapLine}
use Rattle.heap_text.specs.Counting.{ranked_to}
use Rattle.heap_text.specs.Lawful.{AreLawful}
use Rattle.heap_text.specs.Published.{AreOrdered}
use Rattle.heap_text.proofs.Ordering.{all-lawful, bytes-small, in-order, key, line_by}
use Rattle.heap_text.proofs.order.lines_of.Goals as goal

pub returns : goal.returns
returns c =
    let buckets = c.args.buckets.now in
    let counts = c.args.counts.now in
    let items = c.sort_unstable_by_key.new.self.items in
    let up = c.sort_unstable_by_key.ensures.sorted key (answers_always _ _ _ (λ f a r g h. search rules)) in
    let same : IsPermutation (ranked_to (line_by buckets counts) (length buckets)) items = subst (λ (l : List Ranked). IsPermutation l items) c.in_ok-ranked.ensures c.sort_unstable_by_key.ensures.permutation in
    let is : c.from_vec.result ≡ map (λ (x : Ranked). x.line) items = c.from_vec.ensures ∙ c.in_ok-lines.ensures ∙ ap (λ (l : List Ranked). map (λ (x : Ranked). x.line) l) c.as_slice.ensures.value in
    let ordered = in-order (line_by buckets counts) (length buckets) items (λ k lt. bytes-small buckets counts k c.requires.buckets c.requires.size c.requires.few lt) same up in
    record {
      ordered = subst (λ (l : List HeapLine). AreOrdered (length buckets) (line_by buckets counts) l) (sym is) ordered;
      lawful = subst AreLawful (sym is) (all-lawful buckets counts items c.requires.buckets c.requires.size c.requires.few same ordered);
    }
