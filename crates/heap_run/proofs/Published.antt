-- What is published of all buckets, bucket by bucket.
use Rattle.std.proofs.Common.{◌≡◌, ℕ, ◌+◌, ◌%◌, ◌^◌, ◌<◌, List, [], ◌∷◌, ◌++◌, take, length, get_or, ◌∙◌, ap, arith}
use Rattle.std.proofs.lemmas.List.{length-take-le, take_more}
use Rattle.profile_cycle.specs.declared.buckets.Bucket.{Bucket}
use Rattle.profile_cycle.specs.declared.calls.Call.{Call}
use Rattle.profile_cycle.specs.declared.counts.Count.{Count}
use Rattle.profile_cycle.specs.History.{published_allocs, published_frees}
use Rattle.profile_lines.specs.Read.{count_of, no_bucket}
use Rattle.heap_run.specs.Published.{counts_from}

counts-append : (calls : List Call) (n : ℕ) (bs : List Bucket) (b : Bucket) → counts_from calls n (bs ++ b ∷ []) ≡ counts_from calls n bs ++ count_of calls (n + length bs) ∷ []
counts-append calls n [] b = (let same : n ≡ n + 0 = omega arith in ap (λ (k : ℕ). count_of calls k ∷ []) same)
counts-append calls n (x ∷ bs) b =
    let same : n + 1 + length bs ≡ n + length (x ∷ bs) = omega arith in
    ap (λ (l : List Count). count_of calls n ∷ l) (counts-append calls (n + 1) bs b ∙ ap (λ (k : ℕ). counts_from calls (n + 1) bs ++ count_of calls k ∷ []) same)

-- one bucket more
pub counts-next : (calls : List Call) (bs : List Bucket) (k : ℕ) → k < length bs → counts_from calls 0 (take (k + 1) bs) ≡ counts_from calls 0 (take k bs) ++ count_of calls k ∷ []
counts-next calls bs k lt =
    let long : 0 + length (take k bs) ≡ k = (let l = length-take-le k bs (omega arith) in omega arith) in
    ap (λ (l : List Bucket). counts_from calls 0 l) (take_more bs k no_bucket lt) ∙ counts-append calls 0 (take k bs) (get_or bs k no_bucket)
    ∙ ap (λ (j : ℕ). counts_from calls 0 (take k bs) ++ count_of calls j ∷ []) long

-- numbers below 2^64 are read as they are
pub count-read : (calls : List Call) (k : ℕ) (x : Count) → (published_allocs k calls < 2 ^ 64) × (published_frees k calls < 2 ^ 64) → x.allocs ≡ published_allocs k calls % 2 ^ 64 → x.frees ≡ published_frees k calls % 2 ^ 64 → x ≡ count_of calls k
count-read calls k x few allocs frees =
    let a = allocs ∙ small (published_allocs k calls) few.0 in
    let f = frees ∙ small (published_frees k calls) few.1 in
    λ i. record { allocs = a i; frees = f i }
  where
    small : (n : ℕ) → n < 2 ^ 64 → n % 2 ^ 64 ≡ n
    small n lt = omega arith
