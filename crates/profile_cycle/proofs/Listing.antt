-- The buckets that a tally lists.
use Rattle.std.proofs.Common.{◌≡◌, ℕ, ◌+◌, ◌<◌, ◌≤◌, Bool, false, List, length, get_or, subst, inl, inr, arith}
use Rattle.std.proofs.lemmas.Bool.{cases_eq}
use Rattle.profile_cycle.specs.Listing.{Has, Adds}

-- one more of a list was put on another
pub adds-one : (all all' all'' : Bool) (listed listed' listed'' others : List ℕ) (i : ℕ) → Adds all listed all' listed' (λ b. (k : ℕ) × (k < i) × (get_or others k 0 ≡ b))
    → Adds all' listed' all'' listed'' (λ b. get_or others i 0 ≡ b) → Adds all listed all'' listed'' (λ b. (k : ℕ) × (k < i + 1) × (get_or others k 0 ≡ b))
adds-one all all' all'' listed listed' listed'' others i before now = record {
  stays = λ off. before.stays (now.stays off);
  old = λ b has. now.old b (before.old b has);
  new = λ off b has. elim (cases_eq has.0 i) [
    | inl last ↦ now.new off b (subst (λ (k : ℕ). get_or others k 0 ≡ b) last has.2)
    | inr earlier ↦ (let h = has.1 in let low : has.0 < i = omega arith in now.old b (before.new (now.stays off) b (has.0, low, has.2)))
  ];
  only = λ b has. elim (now.only b has) [
    | inl was ↦ (elim (before.only b was) [
      | inl old ↦ inl old
      | inr k ↦ (let h = k.1 in let low : k.0 < i + 1 = omega arith in inr (k.0, low, k.2))
    ])
    | inr is ↦ (let low : i < i + 1 = omega arith in inr (i, low, is))
  ];
}

-- all of a list was put on another, and then all are to be gone over perhaps
pub adds-listed : (all all' all'' : Bool) (listed listed' others : List ℕ) (i : ℕ) → (all'' ≡ false → all' ≡ false) → length others ≤ i → i ≤ length others
    → Adds all listed all' listed' (λ b. (k : ℕ) × (k < i) × (get_or others k 0 ≡ b)) → Adds all listed all'' listed' (Has others)
adds-listed all all' all'' listed listed' others i less over under adds = record {
  stays = λ off. adds.stays (less off);
  old = adds.old;
  new = λ off b has. (let h = has.1 in let low : has.0 < i = omega arith in adds.new (less off) b (has.0, low, has.2));
  only = λ b has. elim (adds.only b has) [
    | inl old ↦ inl old
    | inr k ↦ (let h = k.1 in let low : k.0 < length others = omega arith in inr (k.0, low, k.2))
  ];
}
