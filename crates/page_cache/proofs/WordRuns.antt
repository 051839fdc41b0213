-- Runs of ones in a word.
use Rattle.std.proofs.Common.{◌≡◌, ℕ, ◌+◌, ◌-◌, ◌/◌, ◌^◌, ◌<◌, ◌≤◌, Bool, true, bit_and, sym, ◌∙◌, arith, subst, inl, inr}
use Rattle.std.proofs.lemmas.Bool.{and_parts, and_from, cases_lt, true≢false}
use Rattle.std.specs.Int.{w64, trailing_zeros}
use Rattle.page_cache.specs.Counts.{count_below}
use Rattle.page_cache.specs.Words.{has_bit}
use Rattle.page_cache.specs.Runs.{HasNoRun, IsRun, IsFirstRun, LosesRun}
use Rattle.page_cache.specs.Starts.{IsStartsOf}
use Rattle.page_cache.proofs.Bits.{has_bit-and, has_bit-shr, has_bit-zero, one_within, trailing_zeros-lowest}
use Rattle.page_cache.proofs.Sums.{count_below-less}

-- a part of a run is a run
part_of : (set : ℕ → Bool) (first n other m : ℕ) → IsRun set first n → first ≤ other → other + m ≤ first + n → IsRun set other m
part_of set first n other m run after ends = λ k above below. run k (omega arith) (omega arith)

-- each one begins a run of one
pub starts-one : (word : ℕ) → IsStartsOf word 1 word
starts-one word = record {
  begins = λ place one k above below. let same : place ≡ k = omega arith in subst (λ (x : ℕ). has_bit word x ≡ true) same one;
  all = λ place run. run place (omega arith) (omega arith);
}

-- a + s ones begin where a ones begin, and a ones begin s places further on
pub starts-more : (word starts a s : ℕ) → IsStartsOf word a starts → s ≤ a → IsStartsOf word (a + s) (bit_and starts (starts / 2 ^ s))
starts-more word starts a s known short = record {
  begins = λ place one k above below.
      let both = and_parts _ _ (sym (has_bit-and starts (starts / 2 ^ s) place) ∙ one) in
      elim (cases_lt k (place + a)) [
        | inl lower ↦ known.begins place both.0 k above lower
        | inr upper ↦ known.begins (s + place) (sym (has_bit-shr starts s place) ∙ both.1) k (omega arith) (omega arith)
      ];
  all = λ place run.
      has_bit-and starts (starts / 2 ^ s) place
      ∙ and_from _ _ (known.all place (part_of (has_bit word) place (a + s) place a run (omega arith) (omega arith)))
      (has_bit-shr starts s place
      ∙ known.all (s + place) (part_of (has_bit word) place (a + s) (s + place) a run (omega arith) (omega arith)));
}

pub starts-none : (word n : ℕ) → IsStartsOf word n 0 → HasNoRun (has_bit word) n
starts-none word n known place run = true≢false (sym (known.all place run) ∙ has_bit-zero place)

-- where no run of a ones begins, none of more begins
pub starts-short : (word a n : ℕ) → IsStartsOf word a 0 → a ≤ n → IsStartsOf word n 0
starts-short word a n known more = record {
  begins = λ place one. absurd (true≢false (sym one ∙ has_bit-zero place));
  all = λ place run. absurd (starts-none word a known place (part_of (has_bit word) place n place a run (omega arith) (omega arith)));
}

-- the lowest of the places where they begin is that of the first run
pub starts-first : (word starts n : ℕ) → 0 < starts → starts < 2 ^ 64 → IsStartsOf word n starts → IsFirstRun (has_bit word) n (trailing_zeros w64 starts)
starts-first word starts n some fits known =
    let t = trailing_zeros-lowest starts some fits in
    record {
      run = known.begins (trailing_zeros w64 starts) t.one;
      least = λ other below run. true≢false (sym (known.all other run) ∙ t.lowest other below);
    }

-- a run of a word of 64 bits ends in it
pub run-within : (word place n : ℕ) → word < 2 ^ 64 → 1 ≤ n → IsRun (has_bit word) place n → place + n ≤ 64
run-within word place n fits some run =
    let low : place + (n - 1) < 64 = one_within word (place + (n - 1)) fits (run (place + (n - 1)) (omega arith) (omega arith)) in
    omega arith

-- a set that has lost a run has fewer numbers
pub loses-fewer : (old new : ℕ → Bool) (first n : ℕ) → 1 ≤ n → first + n ≤ 64 → IsRun old first n → LosesRun old new first n
    → count_below 64 new + 1 ≤ count_below 64 old
loses-fewer old new first n some within run lost =
    count_below-less 64 old new kept first (omega arith) (run first (omega arith) (omega arith)) (lost.inside first (omega arith) (omega arith))
  where
    kept : (k : ℕ) → new k ≡ true → old k ≡ true
    kept k is = elim (cases_lt k first) [
      | inl lower ↦ sym (lost.below k lower) ∙ is
      | inr upper ↦ elim (cases_lt k (first + n)) [
        | inl inside ↦ absurd (true≢false (sym is ∙ lost.inside k upper inside))
        | inr above ↦ sym (lost.above k above) ∙ is
      ]
    ]
