-- Runs of ones in a word.
use Rattle.std.proofs.Common.{◌≡◌, ℕ, ◌+◌, ◌/◌, ◌^◌, ◌<◌, ◌≤◌, true, false, bit_and, sym, ◌∙◌, arith, subst, inl, inr, Option, Some, None, IfSome, IfNone}
use Rattle.std.proofs.lemmas.Bool.{and_parts, and_from, cases_lt, true≢false}
use Rattle.page_bitmap.specs.Words.{has_bit}
use Rattle.page_bitmap.specs.WordRuns.{IsBitRun, IsFirstBitRun, IsStartsOf}
use Rattle.page_bitmap.proofs.Bits.{has_bit-and, has_bit-shr, has_bit-above, has_bit-zero, trailing_zeros-lowest}
use Rattle.std.specs.Int.{w64, trailing_zeros}

-- a one stands at a place of the word
one_within : (word k : ℕ) → word < 2 ^ 64 → has_bit word k ≡ true → k < 64
one_within word k fits one = elim (cases_lt k 64) [
  | inl within ↦ within
  | inr above ↦ absurd (true≢false (sym one ∙ has_bit-above word k fits above))
]

-- a part of a run is a run
pub part_of : (word place n other m : ℕ) → IsBitRun word place n → place ≤ other → other + m ≤ place + n → IsBitRun word other m
part_of word place n other m run after ends = record {
  within = omega (arith, run.within);
  each = λ k above below. run.each k (omega arith) (omega arith);
}

-- each one begins a run of one
pub starts-one : (word : ℕ) → word < 2 ^ 64 → IsStartsOf word 1 word
starts-one word fits = record {
  begins = λ place one. record {
    within = let h = one_within word place fits one in omega arith;
    each = λ k above below. let same : place ≡ k = omega arith in subst (λ (x : ℕ). has_bit word x ≡ true) same one;
  };
  all = λ place run. run.each place (omega arith) (omega arith);
}

-- a + s ones begin where a ones begin, and a ones begin s places further on
pub starts-more : (word starts a s : ℕ) → IsStartsOf word a starts → s ≤ a → IsStartsOf word (a + s) (bit_and starts (starts / 2 ^ s))
starts-more word starts a s known short = record {
  begins = λ place one.
      let both = and_parts _ _ (sym (has_bit-and starts (starts / 2 ^ s) place) ∙ one) in
      let low = known.begins place both.0 in
      let high = known.begins (s + place) (sym (has_bit-shr starts s place) ∙ both.1) in
      record {
        within = omega (arith, high.within);
        each = λ k above below. elim (cases_lt k (place + a)) [
          | inl lower ↦ low.each k above lower
          | inr upper ↦ high.each k (omega arith) (omega arith)
        ];
      };
  all = λ place run.
      has_bit-and starts (starts / 2 ^ s) place
      ∙ and_from _ _ (known.all place (part_of word place (a + s) place a run (omega arith) (omega arith)))
      (has_bit-shr starts s place
      ∙ known.all (s + place) (part_of word place (a + s) (s + place) a run (omega arith) (omega arith)));
}

-- where a run of n ones begins anywhere, the places where they begin are a word that isn't 0
pub starts-some : (word starts n : ℕ) → starts < 2 ^ 64 → IsStartsOf word n starts → (starts ≡ 0 → ⊥) → (place : ℕ) × IsBitRun word place n
starts-some word starts n fits known some =
    let t = trailing_zeros-lowest starts (omega arith) fits in
    (trailing_zeros w64 starts, known.begins (trailing_zeros w64 starts) t.one)

pub starts-none : (word n : ℕ) → IsStartsOf word n 0 → (place : ℕ) → ¬ IsBitRun word place n
starts-none word n known place run = true≢false (sym (known.all place run) ∙ has_bit-zero place)

-- the lowest of them begins the first run
pub first-found : (word n starts : ℕ) (r : Option ℕ) → IsStartsOf word n starts → IfSome r (λ place. (place < 64) × (has_bit starts place ≡ true)) → IfSome r (λ place. (k : ℕ) → k < place → has_bit starts k ≡ false) → IfSome r (λ place. IsFirstBitRun word n place)
first-found word n starts None known one lowest = tt
first-found word n starts (Some place) known one lowest = record {
  run = known.begins place one.1;
  least = λ other below run. true≢false (sym (known.all other run) ∙ lowest other below);
}

pub first-none : (word n starts : ℕ) (r : Option ℕ) → IsStartsOf word n starts → IfNone r ((k : ℕ) → has_bit starts k ≡ false) → IfNone r ((place : ℕ) → ¬ IsBitRun word place n)
first-none word n starts None known none = λ place run. true≢false (sym (known.all place run) ∙ none place)
first-none word n starts (Some place) known none = tt

-- where no run of more than n ones begins, n bounds every run
pub bound-from : (word n : ℕ) → IsStartsOf word (n + 1) 0 → (place m : ℕ) → IsBitRun word place m → m ≤ n
bound-from word n known place m run = elim (cases_lt n m) [
  | inl longer ↦ absurd (starts-none word (n + 1) known place (part_of word place m place (n + 1) run (omega arith) (omega arith)))
  | inr short ↦ short
]

-- where no run of a ones begins, none of more begins
pub starts-short : (word a n : ℕ) → IsStartsOf word a 0 → a ≤ n → IsStartsOf word n 0
starts-short word a n known more = record {
  begins = λ place one. absurd (true≢false (sym one ∙ has_bit-zero place));
  all = λ place run. absurd (starts-none word a known place (part_of word place n place a run (omega arith) (omega arith)));
}
