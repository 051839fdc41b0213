-- A sweep, word by word.
use Rattle.std.proofs.Common.{◌≡◌, ◌≢◌, ℕ, zero, suc, ◌+◌, ◌-◌, ◌*◌, ◌/◌, ◌%◌, ◌^◌, ◌<◌, ◌≤◌, min, Bool, true, false, not, ◌==◌, ◌&&◌, List, length, get_or, w64, refl, sym, ◌∙◌, ap, arith, inl, inr, get_or-set_same, get_or-set_other}
use Rattle.std.proofs.Math.ListN.{set, length-set}
use Rattle.std.proofs.lemmas.Bool.{cases_lt, cases_Bool}
use Rattle.std.proofs.lemmas.Nat.{and_le_l}
use Rattle.std.proofs.lemmas.Nat.Bits.{bit_at-lt, bit_at_and, bit_at_not}
use Rattle.std.specs.Int.{bit_at, bit_not}
use Rattle.std.specs.Int.Bits.{bit_and}
use Rattle.std.specs.Int.Count.{ones}
use Rattle.span_state.specs.Bits.{bit_of, count_below}
use Rattle.span_state.specs.Counts.{count_below-same, count_below-add, count_below-past, count_below-le}
use Rattle.span_state.specs.OneBits.{ones-count}

-- The words of the first `groups` groups are swept: `taken` are the indices that were allocated, `marks` those that are marked.
pub record IsSweptTo (groups : ℕ) (taken marks : ℕ → Bool) (bits : List ℕ) (kept freed : ℕ) : Type 0 where
  pub long : length bits ≡ 16
  pub swept : (k : ℕ) → k < 64 * groups → bit_of bits k ≡ marks k
  pub clear : (k : ℕ) → 64 * groups ≤ k → bit_of bits k ≡ false
  pub keeps : kept ≡ count_below (64 * groups) marks
  pub frees : freed ≡ count_below (64 * groups) (λ k. taken k && not (marks k))

-- a count of the indices of groups goes on with that of the next word's bits
group_more : (g w : ℕ) (f : ℕ → Bool) → w < 2 ^ 64 → ((b : ℕ) → b < 64 → (bit_at w b == 1) ≡ f (64 * g + b)) → count_below (64 * (g + 1)) f ≡ count_below (64 * g) f + ones w
group_more g w f fits shows =
    let e : 64 * (g + 1) ≡ 64 * g + 64 = omega arith in
    let all = count_below-add (64 * g) 64 f in
    let here : count_below 64 (λ b. f (64 * g + b)) ≡ ones w = sym (ones-count 64 w fits ∙ count_below-same 64 _ _ shows) in
    rw e (omega arith)

-- the bits of what was taken and is not marked
bit-freed : (t m b : ℕ) → m < 2 ^ 64 → b < 64 → (bit_at (bit_and t (bit_not w64 m)) b == 1) ≡ ((bit_at t b == 1) && not (bit_at m b == 1))
bit-freed t m b fits lt =
    let e = bit_at_and t (bit_not w64 m) b in
    let f = bit_at_not w64 m b fits lt in
    by (bit_at t b) (bit_at m b) _ (bit_at-lt t b) (bit_at-lt m b) (e ∙ ap (min (bit_at t b)) f)
  where
    by : (x y z : ℕ) → x < 2 → y < 2 → z ≡ min x (1 - y) → (z == 1) ≡ ((x == 1) && not (y == 1))
    by zero zero z lx ly e = rw e refl
    by zero (suc zero) z lx ly e = rw e refl
    by (suc zero) zero z lx ly e = rw e refl
    by (suc zero) (suc zero) z lx ly e = rw e refl
    by (suc (suc x)) y z lx ly e = absurd (omega arith)
    by x (suc (suc y)) z lx ly e = absurd (omega arith)

-- One word more.
pub swept-more : (groups : ℕ) (words : List ℕ) (marks : ℕ → Bool) (bits : List ℕ) (kept freed word : ℕ) → groups < 16 → word < 2 ^ 64 → get_or words groups 0 < 2 ^ 64
    → ((b : ℕ) → b < 64 → (bit_at word b == 1) ≡ marks (64 * groups + b)) → IsSweptTo groups (bit_of words) marks bits kept freed
    → IsSweptTo (groups + 1) (bit_of words) marks (set bits groups word) (kept + ones word) (freed + ones (bit_and (get_or words groups 0) (bit_not w64 word)))
swept-more g words marks bits kept freed word lt fits fits' shows so_far =
    let inside : g < length bits = rw so_far.long lt in
    let left : bit_and (get_or words g 0) (bit_not w64 word) < 2 ^ 64 = (let le = and_le_l (get_or words g 0) (bit_not w64 word) in omega arith) in
    record {
      long = length-set bits g word ∙ so_far.long;
      swept = λ k less. elim (cases_lt k (64 * g)) [
        | inl before ↦ (let other : k / 64 ≢ g = (λ e. omega arith) in rw get_or-set_other (so_far.swept k before))
        | inr here ↦ (
            let same : k / 64 ≡ g = omega arith in
            let place : 64 * g + k % 64 ≡ k = omega arith in
            rw (same, get_or-set_same) (shows (k % 64) (omega arith) ∙ ap marks place))
      ];
      clear = λ k past. (let other : k / 64 ≢ g = (λ e. omega arith) in rw get_or-set_other (so_far.clear k (omega arith)));
      keeps = (let all = group_more g word marks fits shows in let was = so_far.keeps in omega arith);
      frees = (
          let all = group_more g (bit_and (get_or words g 0) (bit_not w64 word)) (λ k. bit_of words k && not (marks k)) left
          (λ b less. (
          let e : (64 * g + b) / 64 ≡ g = omega arith in
          let f : (64 * g + b) % 64 ≡ b = omega arith in
          bit-freed (get_or words g 0) word b fits less ∙ rw (e, f) (ap (λ (x : Bool). (bit_at (get_or words g 0) b == 1) && not x) (shows b less)))) in
          let was = so_far.frees in
          omega arith);
    }

-- Nothing is swept at first.
pub swept-none : (taken marks : ℕ → Bool) (bits : List ℕ) → length bits ≡ 16 → ((k : ℕ) → bit_of bits k ≡ false) → IsSweptTo 0 taken marks bits 0 0
unfolding count_below
swept-none taken marks bits long clear = record { long = long; swept = λ k lt. absurd (omega arith); clear = λ k le. clear k; keeps = refl; frees = refl }

-- All groups are swept.
pub swept-all : (groups count : ℕ) (taken marks : ℕ → Bool) (bits : List ℕ) (kept freed : ℕ) → IsSweptTo groups taken marks bits kept freed → count ≤ 64 * groups
    → ((k : ℕ) → marks k ≡ true → taken k ≡ true) → ((k : ℕ) → count ≤ k → taken k ≡ false)
    → ((k : ℕ) → bit_of bits k ≡ marks k) × ((k : ℕ) → count ≤ k → bit_of bits k ≡ false) × (kept ≡ count_below count marks) × (freed ≡ count_below count (λ k. taken k && not (marks k)))
swept-all groups count taken marks bits kept freed so_far enough part past =
    let unmarked : (k : ℕ) → count ≤ k → marks k ≡ false = λ k le. (elim (cases_Bool (marks k)) [ inl on ↦ (let a = part k on in let b = past k le in cc) | inr off ↦ off ]) in
    let all : (k : ℕ) → bit_of bits k ≡ marks k = λ k. (elim (cases_lt k (64 * groups)) [ inl lt ↦ so_far.swept k lt | inr le ↦ so_far.clear k le ∙ sym (unmarked k (omega arith)) ]) in (
      all,
      (λ k le. all k ∙ unmarked k le),
      so_far.keeps ∙ count_below-past count (64 * groups) marks enough unmarked,
      so_far.frees ∙ count_below-past count (64 * groups) (λ k. taken k && not (marks k)) enough (λ k le. let off = past k le in rw off refl),
    )

-- the numbers so far are at most those of all indices so far
pub kept-le : (groups : ℕ) (taken marks : ℕ → Bool) (bits : List ℕ) (kept freed : ℕ) → IsSweptTo groups taken marks bits kept freed → kept ≤ 64 * groups
kept-le groups taken marks bits kept freed so_far = let all = count_below-le (64 * groups) marks in let is = so_far.keeps in omega arith

pub freed-le : (groups : ℕ) (taken marks : ℕ → Bool) (bits : List ℕ) (kept freed : ℕ) → IsSweptTo groups taken marks bits kept freed → freed ≤ 64 * groups
freed-le groups taken marks bits kept freed so_far = let all = count_below-le (64 * groups) (λ k. taken k && not (marks k)) in let is = so_far.frees in omega arith
