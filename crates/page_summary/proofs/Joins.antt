-- The sum of joined pages.
use Rattle.std.proofs.Common.{◌≡◌, ℕ, ◌+◌, ◌-◌, ◌*◌, ◌^◌, ◌<◌, ◌≤◌, max, Bool, true, refl, sym, ◌∙◌, ap, arith, ◌⊎◌, inl, inr}
use Rattle.std.proofs.lemmas.Bool.{cases_lt, cases_eq, false≢true}
use Rattle.std.proofs.lemmas.Nat.{pow_below}
use Rattle.std.proofs.Math.Nat.{mul-le-mul_left}
use Rattle.page_summary.specs.Runs.{IsRunIn, IsSumOf, Fits}

-- no pages have a sum of nothing
pub sum-none : (map : ℕ → Bool) → IsSumOf map 0 0 0 0
sum-none map = record {
  front = record { inside = omega arith; each = λ p low high. absurd (omega arith) };
  front_stops = λ lt. absurd (omega arith);
  longest = (0, record { inside = omega arith; each = λ p low high. absurd (omega arith) });
  most = λ page n run. (let inside = run.inside in omega arith);
  back = record { inside = omega arith; each = λ p low high. absurd (omega arith) };
  back_stops = λ lt. absurd (omega arith);
}

-- a page of the second run
behind : (map : ℕ → Bool) (a p : ℕ) (value : Bool) → a ≤ p → map (a + (p - a)) ≡ value → map p ≡ value
behind map a p value le is = (let here : a + (p - a) ≡ p = omega arith in sym (ap map here) ∙ is)

-- a run over the border has at most the pages at both of its sides
across : (map : ℕ → Bool) (a b s m e s' m' e' page n : ℕ) → IsSumOf map a s m e → IsSumOf (λ p. map (a + p)) b s' m' e'
    → IsRunIn map (a + b) page n → page < a → a < page + n → n ≤ e + s'
across map a b s m e s' m' e' page n left right run before over =
    let inside = run.inside in
    let low : a - page ≤ e = elim (cases_lt (page + e) a) [
      | inr fits ↦ omega arith
      | inl long ↦ (
          let at = left.back_stops (omega arith) in
          let is = run.each (a - e - 1) (omega arith) (omega arith) in
          absurd (false≢true (sym at ∙ is)))
    ] in
    let high : page + n ≤ a + s' = elim (cases_lt (a + s') (page + n)) [
      | inr fits ↦ omega arith
      | inl long ↦ (
          let at = right.front_stops (omega arith) in
          let is = run.each (a + s') (omega arith) (omega arith) in
          absurd (false≢true (sym at ∙ is)))
    ] in
    omega arith

-- the longest of three numbers is one of them
which : (a b c n : ℕ) → n ≡ max (max a b) c → (n ≤ a) ⊎ ((n ≤ b) ⊎ (n ≤ c))
which a b c n is =
    elim (cases_lt a n) [
      | inr first ↦ inl first
      | inl not_first ↦ inr (elim (cases_lt b n) [
        | inr second ↦ inl second
        | inl not_second ↦ inr (omega arith)
      ])
    ]

pub sum-join : (map : ℕ → Bool) (a b s m e s' m' e' start most end : ℕ) → IsSumOf map a s m e → IsSumOf (λ p. map (a + p)) b s' m' e'
    → (s ≡ a → start ≡ a + s') → (¬ (s ≡ a) → start ≡ s) → most ≡ max (max m (e + s')) m'
    → (e' ≡ b → end ≡ e + b) → (¬ (e' ≡ b) → end ≡ e') → IsSumOf map (a + b) start most end
sum-join map a b s m e s' m' e' start most end left right full part is all some =
    let left_front = left.front.inside in
    let left_back = left.back.inside in
    let right_front = right.front.inside in
    let right_back = right.back.inside in
    let start_is : ((s ≡ a) × (start ≡ a + s')) ⊎ ((s < a) × (start ≡ s)) = elim (cases_eq s a) [
      | inl e1 ↦ inl (e1, full e1)
      | inr ne ↦ inr (omega arith, part ne)
    ] in
    let end_is : ((e' ≡ b) × (end ≡ e + b)) ⊎ ((e' < b) × (end ≡ e')) = elim (cases_eq e' b) [
      | inl e1 ↦ inl (e1, all e1)
      | inr ne ↦ inr (omega arith, some ne)
    ] in
    record {
      front = record {
        inside = elim start_is [ inl w ↦ (let u = w.1 in omega arith) | inr w ↦ (let u = w.1 in omega arith) ];
        each = λ p low high. elim (cases_lt p a) [
          | inl before ↦ (let le : p < s = elim start_is [ inl w ↦ (let u = w.0 in omega arith) | inr w ↦ (let u = w.1 in omega arith) ] in left.front.each p (omega arith) (omega arith))
          | inr from ↦ (
              let le : p - a < s' = elim start_is [ inl w ↦ (let u = w.1 in omega arith) | inr w ↦ (let u = w.1 in absurd (omega arith)) ] in
              behind map a p true from (right.front.each (p - a) (omega arith) (omega arith)))
        ];
      };
      front_stops = λ lt. elim start_is [
        | inl w ↦ (let u = w.1 in ap map u ∙ right.front_stops (omega arith))
        | inr w ↦ (let u = w.1 in ap map u ∙ left.front_stops w.0)
      ];
      longest = elim (which m (e + s') m' most is) [
        | inl old ↦ (
            let inside = left.longest.1.inside in
            (left.longest.0, record { inside = omega arith; each = λ p low high. left.longest.1.each p low (omega arith) }))
        | inr rest ↦ elim rest [
          | inl both ↦ (
            a - e,
            record {
              inside = omega arith;
              each = λ p low high. elim (cases_lt p a) [
                | inl before ↦ left.back.each p (omega arith) (omega arith)
                | inr from ↦ behind map a p true from (right.front.each (p - a) (omega arith) (omega arith))
              ];
            },
          )
          | inr inner ↦ (
              let inside = right.longest.1.inside in (
                a + right.longest.0,
                record {
                  inside = omega arith;
                  each = λ p low high. behind map a p true (omega arith) (right.longest.1.each (p - a) (omega arith) (omega arith));
                },
              ))
        ]
      ];
      most = λ page n run. (
          let inside = run.inside in
          elim (cases_lt page a) [
            | inr from ↦ (
                let le = right.most (page - a) n (record {
                  inside = omega arith;
                  each = λ p low high. run.each (a + p) (omega arith) (omega arith);
                }) in
                omega arith)
            | inl before ↦ elim (cases_lt a (page + n)) [
              | inr ended ↦ (let le = left.most page n (record { inside = omega arith; each = run.each }) in omega arith)
              | inl over ↦ (let le = across map a b s m e s' m' e' page n left right run before over in omega arith)
            ]
          ]);
      back = record {
        inside = elim end_is [ inl w ↦ (let u = w.1 in omega arith) | inr w ↦ (let u = w.1 in omega arith) ];
        each = λ p low high. elim end_is [
          | inl w ↦ (
              let u = w.1 in
              elim (cases_lt p a) [
                | inl before ↦ left.back.each p (omega arith) (omega arith)
                | inr from ↦ (let v = w.0 in behind map a p true from (right.back.each (p - a) (omega arith) (omega arith)))
              ])
          | inr w ↦ (let u = w.1 in behind map a p true (omega arith) (right.back.each (p - a) (omega arith) (omega arith)))
        ];
      };
      back_stops = λ lt. elim end_is [
        | inl w ↦ (
            let u = w.1 in
            let at : a + b - end - 1 ≡ a - e - 1 = omega arith in
            ap map at ∙ left.back_stops (omega arith))
        | inr w ↦ (
            let u = w.1 in
            let at : a + b - end - 1 ≡ a + (b - e' - 1) = omega arith in
            ap map at ∙ right.back_stops w.0)
      ];
    }

pub fits-none : Fits 0 0 0 0
fits-none = record { start_within = omega arith; end_within = omega arith; max_within = omega arith; whole = λ e. (refl, refl) }

-- the pages of a few sums are few
pub few_pages : (log n : ℕ) → 1 ≤ n → 2 ^ log * n ≤ 2 ^ 21 → 2 ^ log ≤ 2 ^ 21
few_pages log n some few = (let le : 2 ^ log * 1 ≤ 2 ^ log * n = mul-le-mul_left (2 ^ log) some in omega arith)

pub low_log : (log n : ℕ) → 1 ≤ n → 2 ^ log * n ≤ 2 ^ 21 → log < 32
low_log log n some few =
    elim (cases_lt log 32) [
      | inl low ↦ low
      | inr high ↦ absurd (
          let more = pow_below 21 log (omega arith) in
          let le = few_pages log n some few in
          omega arith)
    ]

-- the pages of the sums up to one of them are at most those of all
pub pages-to : (pages k n : ℕ) → k < n → pages * n ≤ 2 ^ 21 → pages * k + pages ≤ 2 ^ 21
pages-to pages k n lt few = (let le : pages * (k + 1) ≤ pages * n = mul-le-mul_left pages (omega arith) in omega arith)

-- the same numbers are the same sum
pub sum-same : (map : ℕ → Bool) (pages pages' s s' m m' e e' : ℕ) → pages ≡ pages' → s ≡ s' → m ≡ m' → e ≡ e'
    → IsSumOf map pages' s' m' e' → IsSumOf map pages s m e
sum-same map pages pages' s s' m m' e e' same_pages same_s same_m same_e sum = rw (same_pages, same_s, same_m, same_e) sum

-- the same sum of a part of a map
pub sum-at : (map : ℕ → Bool) (a b pages pages' s s' m m' e e' : ℕ) → a ≡ b → pages ≡ pages' → s ≡ s' → m ≡ m' → e ≡ e'
    → IsSumOf (λ p. map (b + p)) pages' s' m' e' → IsSumOf (λ p. map (a + p)) pages s m e
sum-at map a b pages pages' s s' m m' e e' same same_pages same_s same_m same_e sum =
    rw same (sum-same (λ p. map (b + p)) pages pages' s s' m m' e e' same_pages same_s same_m same_e sum)

-- the pages at the back are at most all
pub fit-end : {pages s m e end : ℕ} → Fits pages s m e → end ≡ e → end ≤ pages
fit-end fits is = (let a = fits.end_within in let b = fits.max_within in omega arith)
