use Rattle.std.proofs.Common.{◌≡◌, ◌<◌, ◌%◌, ◌^◌, List, [], ◌∷◌, ◌++◌, take, length, sym, ◌∙◌, ap, arith}
use Rattle.profile_cycle.specs.declared.counts.Count.{Count}
use Rattle.profile_cycle.specs.History.{Standing, published_allocs, published_frees}
use Rattle.profile_lines.specs.Read.{count_of}
use Rattle.heap_run.specs.Published.{counts_from}
use Rattle.heap_run.proofs.Published.{count-read, counts-next}
use Rattle.heap_run.proofs.profile.Profile.counts.Goals as goal

pub loop-bucket-preserved : goal.loop-bucket-preserved
loop-bucket-preserved c =
    let calls = c.args.tally.now.view.calls in
    let known = c.args.self.now.known in
    let k = c.loop-bucket.bucket in
    let inside : k < length known = omega (arith, c.loop-bucket-test.true, c.len-buckets.ensures.buckets) in
    let same = c.loop-bucket.invariant.tally in
    let allocs = c.published.ensures.allocs ∙ ap (λ (t : Standing). published_allocs k t.view.calls % 2 ^ 64) same in
    let frees = c.published.ensures.frees ∙ ap (λ (t : Standing). published_frees k t.view.calls % 2 ^ 64) same in
    let one : c.published.result ≡ count_of calls k = count-read calls k c.published.result (c.requires.few k inside) allocs frees in
    record {
      tally = c.published.ensures.same ∙ same;
      counts = c.in_ok-push.ensures.ok ∙ ap (λ (l : List Count). l ++ c.published.result ∷ []) c.loop-bucket.invariant.counts
          ∙ ap (λ (x : Count). counts_from calls 0 (take k known) ++ x ∷ []) one ∙ sym (counts-next calls known k inside);
    }
