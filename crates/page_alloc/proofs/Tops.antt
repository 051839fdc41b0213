-- No page from the mark on is free and backed, also after a take, a give and a scavenging step.
use Rattle.std.proofs.Common.{◌≡◌, ℕ, ◌+◌, ◌*◌, ◌<◌, ◌≤◌, Bool, true, false, ◌&&◌, not, List, length, refl, inl, inr}
use Rattle.std.proofs.lemmas.Bool.{cases_lt}
use Rattle.page_bitmap.specs.declared.chunk.Chunk.{Chunk}
use Rattle.page_bitmap.specs.Pages.{is_free}
use Rattle.page_bitmap.specs.Runs.{SetsRun}
use Rattle.page_alloc.specs.Region.{free_in, loose_in, scavenged_in}
use Rattle.page_alloc.proofs.Walks.{over-past}

loose-same : (a b c d : Bool) → a ≡ b → c ≡ d → b && not d ≡ false → a && not c ≡ false
loose-same a b c d first second old = rw (first, second) old

loose-taken : (a c : Bool) → a ≡ false → a && not c ≡ false
loose-taken a c is = rw is refl

and-false : (a : Bool) → a && false ≡ false
and-false true = refl
and-false false = refl

-- a take makes no page loose
pub take-loose : (free free' scavenged scavenged' : ℕ → Bool) (page n p : ℕ) → SetsRun free free' page n false → SetsRun scavenged scavenged' page n false
    → free p && not (scavenged p) ≡ false → free' p && not (scavenged' p) ≡ false
take-loose free free' scavenged scavenged' page n p frees sets old =
    elim (cases_lt p page) [
      | inl low ↦ loose-same (free' p) (free p) (scavenged' p) (scavenged p) (frees.below p low) (sets.below p low) old
      | inr from ↦ elim (cases_lt p (page + n)) [
        | inl inside ↦ loose-taken (free' p) (scavenged' p) (frees.inside p from inside)
        | inr above ↦ loose-same (free' p) (free p) (scavenged' p) (scavenged p) (frees.above p above) (sets.above p above) old
      ]
    ]

-- a give makes no page above its run loose
pub give-loose : (free free' scavenged scavenged' : ℕ → Bool) (page n p : ℕ) → SetsRun free free' page n true → ((q : ℕ) → scavenged' q ≡ scavenged q)
    → page + n ≤ p → free p && not (scavenged p) ≡ false → free' p && not (scavenged' p) ≡ false
give-loose free free' scavenged scavenged' page n p frees same above old =
    loose-same (free' p) (free p) (scavenged' p) (scavenged p) (frees.above p above) (same p) old

-- a step makes no page above its run loose
pub scavenge-loose : (free free' scavenged scavenged' : ℕ → Bool) (page n p : ℕ) → ((q : ℕ) → free' q ≡ free q) → SetsRun scavenged scavenged' page n true
    → page + n ≤ p → free p && not (scavenged p) ≡ false → free' p && not (scavenged' p) ≡ false
scavenge-loose free free' scavenged scavenged' page n p same sets above old =
    loose-same (free' p) (free p) (scavenged' p) (scavenged p) (same p) (sets.above p above) old

-- a scavenged page and one that is not free aren't loose
pub new-loose : (free scavenged : ℕ → Bool) (p : ℕ) → scavenged p ≡ true → free p && not (scavenged p) ≡ false
new-loose free scavenged p is = rw is (and-false (free p))

pub out-loose : (free scavenged : ℕ → Bool) (p : ℕ) → free p ≡ false → free p && not (scavenged p) ≡ false
out-loose free scavenged p is = loose-taken (free p) (scavenged p) is

-- what is so of the region is so above it too, where no page is free
pub loose-above : (chunks : List Chunk) (p : ℕ) → (p < 512 * length chunks → loose_in chunks p ≡ false) → loose_in chunks p ≡ false
loose-above chunks p within =
    elim (cases_lt p (512 * length chunks)) [
      | inl low ↦ within low
      | inr high ↦ out-loose (free_in chunks) (scavenged_in chunks) p (over-past is_free chunks p high)
    ]

-- a page that stays as it is stays so
pub loose-alike : (free free' scavenged scavenged' : ℕ → Bool) (p : ℕ) → free' p ≡ free p → scavenged' p ≡ scavenged p → free p && not (scavenged p) ≡ false → free' p && not (scavenged' p) ≡ false
loose-alike free free' scavenged scavenged' p first second old = loose-same (free' p) (free p) (scavenged' p) (scavenged p) first second old
