-- Laws of the sums of pages.
use Rattle.std.proofs.Common.{◌≡◌, ℕ, ◌+◌, ◌-◌, ◌*◌, ◌<◌, ◌≤◌, Bool, List, length, get_or, sym, ◌∙◌, arith, inl, inr, get_or-set_same, get_or-set_other, length-set}
use Rattle.std.proofs.Math.ListN.{set}
use Rattle.std.proofs.lemmas.Bool.{cases_lt, cases_eq, false≢true}
use Rattle.page_summary.specs.declared.sum.Sum.{Sum}
use Rattle.page_summary.specs.Runs.{IsSumOf, Fits}
use Rattle.page_summary.specs.Sums.{IsSum, AreSums, AreSumsBut, AllFit}

-- pages that are the same have the same sum
pub sum-alike : (f g : ℕ → Bool) (pages s m e : ℕ) → ((p : ℕ) → p < pages → f p ≡ g p) → IsSumOf g pages s m e → IsSumOf f pages s m e
sum-alike f g pages s m e alike sum =
    let front = sum.front.inside in
    let back = sum.back.inside in
    let longest = sum.longest.1.inside in
    record {
      front = record { inside = front; each = λ p low high. alike p (omega arith) ∙ sum.front.each p low high };
      front_stops = λ lt. alike s lt ∙ sum.front_stops lt;
      longest = (sum.longest.0, record { inside = longest; each = λ p low high. alike p (omega arith) ∙ sum.longest.1.each p low high });
      most = λ page n run. (
          let inside = run.inside in
          sum.most page n (record { inside = inside; each = λ p low high. sym (alike p (omega arith)) ∙ run.each p low high }));
      back = record { inside = back; each = λ p low high. alike p (omega arith) ∙ sum.back.each p low high };
      back_stops = λ lt. alike (pages - e - 1) (omega arith) ∙ sum.back_stops lt;
    }

-- a sum fits its pages
pub sum-fits : {map : ℕ → Bool} {pages s m e : ℕ} → IsSumOf map pages s m e → Fits pages s m e
sum-fits {map} {pages} {s} {m} {e} sum =
    let inside = sum.longest.1.inside in
    record {
      start_within = sum.most 0 s sum.front;
      end_within = sum.most (pages - e) e sum.back;
      max_within = omega arith;
      whole = λ all. (
        elim (cases_lt s pages) [
          | inl short ↦ absurd (
              let off = sum.front_stops short in
              let on = sum.longest.1.each s (omega arith) (omega arith) in
              false≢true (sym off ∙ on))
          | inr whole ↦ (let le = sum.front.inside in omega arith)
        ],
        elim (cases_lt e pages) [
          | inl short ↦ absurd (
              let off = sum.back_stops short in
              let on = sum.longest.1.each (pages - e - 1) (omega arith) (omega arith) in
              false≢true (sym off ∙ on))
          | inr whole ↦ (let le = sum.back.inside in omega arith)
        ],
      );
    }

pub sums-fit : (map : ℕ → Bool) (pages : ℕ) (sums : List Sum) → AreSums map pages sums → AllFit pages sums
sums-fit map pages sums are k none lt = sum-fits (are k none lt)

-- one entry more is right
pub sums-more : (map : ℕ → Bool) (pages k high : ℕ) (level : List Sum) (sum : Sum) → k < length level → k < high
    → AreSumsBut map pages level k high → IsSum (λ p. map (pages * k + p)) pages sum → AreSumsBut map pages (set level k sum) (k + 1) high
sums-more map pages k high level sum lt under but is i none inside out =
    elim (cases_eq i k) [
      | inl here ↦ (
          let at : get_or (set level k sum) i none ≡ sum = rw here (get_or-set_same level k sum none lt) in
          rw (at, here) is)
      | inr other ↦ (
          let at : get_or (set level k sum) i none ≡ get_or level i none = get_or-set_other level k i sum none other in
          let long = length-set level k sum in
          rw at (but i none (omega arith) (elim out [ inl below ↦ inl (omega arith) | inr above ↦ inr above ])))
    ]

-- no entry is wrong
pub sums-all : (map : ℕ → Bool) (pages low high : ℕ) (level : List Sum) → high ≤ low → AreSumsBut map pages level low high → AreSums map pages level
sums-all map pages low high level le but k none lt = but k none lt (elim (cases_lt k low) [ inl below ↦ inl below | inr above ↦ inr (omega arith) ])
