-- A walk over neighbouring runs of pages from the lowest up, by their sums.
use Rattle.std.proofs.Common.{◌≡◌, ℕ, ◌+◌, ◌-◌, ◌<◌, ◌≤◌, Bool, true, false, sym, ◌∙◌, ap, arith, inl, inr}
use Rattle.std.proofs.lemmas.Bool.{cases_lt, cases_eq, false≢true}
use Rattle.page_summary.specs.Runs.{IsRunIn, HasNoRunIn, IsFirstRunIn, IsSumOf}
use Rattle.page_summary.specs.Places.{IsInside}

-- The pages below `base` were walked over: none of them begins a run of n pages there, and the run at their back has `back`
-- pages.
pub record Walked (map : ℕ → Bool) (n base back : ℕ) : Type 0 where
  pub low : back ≤ base
  pub each : (p : ℕ) → base ≤ p + back → p < base → map p ≡ true
  pub stops : back < base → map (base - back - 1) ≡ false
  pub none : HasNoRunIn map base n

-- where no page below `base` is in the map, they are walked over
pub walked-empty : (map : ℕ → Bool) (n base : ℕ) → 1 ≤ n → ((p : ℕ) → p < base → map p ≡ false) → Walked map n base 0
walked-empty map n base some empty = record {
  low = omega arith;
  each = λ p low high. absurd (omega arith);
  stops = λ lt. empty (base - 0 - 1) (omega arith);
  none = λ q run. (
      let inside = run.inside in
      let was = run.each q (omega arith) (omega arith) in
      let not_there = empty q (omega arith) in
      absurd (false≢true (sym not_there ∙ was)));
}

-- a page of the next run
pub behind : (map : ℕ → Bool) (a p : ℕ) (value : Bool) → a ≤ p → map (a + (p - a)) ≡ value → map p ≡ value
behind map a p value le is = (let here : a + (p - a) ≡ p = omega arith in sym (ap map here) ∙ is)

-- a run that begins before a border has at most the pages of the runs at both sides of the border
straddle : (map : ℕ → Bool) (n a b back s m e q : ℕ) → Walked map n a back → IsSumOf (λ p. map (a + p)) b s m e
    → q < a → IsRunIn map (a + b) q n → n ≤ back + s
straddle map n a b back s m e q walked sum before run =
    let inside = run.inside in
    let small = sum.front.inside in
    elim (cases_lt a (q + n)) [
      | inr ended ↦ absurd (walked.none q (record { inside = omega arith; each = run.each }))
      | inl over_border ↦ elim (cases_lt (q + back) a) [
        | inl early ↦ (
            let at = walked.stops (omega arith) in
            let was = run.each (a - back - 1) (omega arith) (omega arith) in
            absurd (false≢true (sym at ∙ was)))
        | inr late ↦ elim (cases_lt (a + s) (q + n)) [
          | inr short ↦ omega arith
          | inl long ↦ (
              let at = sum.front_stops (omega arith) in
              let was = run.each (a + s) (omega arith) (omega arith) in
              absurd (false≢true (sym at ∙ was)))
        ]
      ]
    ]

pub found-across : (map : ℕ → Bool) (n a b back s m e region : ℕ) → Walked map n a back → IsSumOf (λ p. map (a + p)) b s m e
    → n ≤ back + s → a + b ≤ region → IsFirstRunIn map region n (a - back)
found-across map n a b back s m e region walked sum fits inside =
    let low = walked.low in
    let small = sum.front.inside in
    record {
      here = record {
        inside = omega arith;
        each = λ p from to. elim (cases_lt p a) [
          | inl before ↦ walked.each p (omega arith) before
          | inr after ↦ behind map a p true after (sum.front.each (p - a) (omega arith) (omega arith))
        ];
      };
      least = λ q less run. elim (cases_lt a (q + n)) [
        | inr ended ↦ walked.none q (record { inside = omega arith; each = run.each })
        | inl over_border ↦ (
            let at = walked.stops (omega arith) in
            let was = run.each (a - back - 1) (omega arith) (omega arith) in
            absurd (false≢true (sym at ∙ was)))
      ];
    }

pub found-inside : (map : ℕ → Bool) (n a b back s m e region : ℕ) → Walked map n a back → IsSumOf (λ p. map (a + p)) b s m e
    → back + s < n → n ≤ m → a + b ≤ region → IsInside map region a b n
found-inside map n a b back s m e region walked sum short fits inside =
    let within = sum.longest.1.inside in
    record {
      run = (sum.longest.0, record { inside = omega arith; each = λ p low high. sum.longest.1.each p low (omega arith) });
      none = λ q before run. (
          let over = straddle map n a b back s m e q walked sum before (record { inside = omega arith; each = run.each }) in
          absurd (omega arith));
    }

pub walked-more : (map : ℕ → Bool) (n a b back s m e back' next : ℕ) → Walked map n a back → IsSumOf (λ p. map (a + p)) b s m e
    → back + s < n → m < n → (e ≡ b → back' ≡ back + e) → (¬ (e ≡ b) → back' ≡ e) → next ≡ a + b → Walked map n next back'
walked-more map n a b back s m e back' next walked sum short less full part is_next =
    let within = sum.back.inside in
    let low = walked.low in
    let none : HasNoRunIn map next n = λ q run. elim (cases_lt q a) [
      | inl before ↦ (
          let inside = run.inside in
          let over = straddle map n a b back s m e q walked sum before (record { inside = omega arith; each = run.each }) in
          absurd (omega arith))
      | inr after ↦ (
          let inside = run.inside in
          let over = sum.most (q - a) n (record {
            inside = omega arith;
            each = λ p from to. run.each (a + p) (omega arith) (omega arith);
          }) in
          absurd (omega arith))
    ] in
    elim (cases_eq e b) [
      | inr some ↦ (
          let is : back' ≡ e = part some in
          record {
            low = omega arith;
            each = λ p from to. behind map a p true (omega arith) (sum.back.each (p - a) (omega arith) (omega arith));
            stops = λ lt. (
                let at = sum.back_stops (omega arith) in
                let k : next - back' - 1 ≡ a + (b - e - 1) = omega arith in
                ap map k ∙ at);
            none = none;
          })
      | inl all ↦ (
          let is : back' ≡ back + e = full all in
          record {
            low = omega arith;
            each = λ p from to. elim (cases_lt p a) [
              | inl before ↦ walked.each p (omega arith) before
              | inr after ↦ behind map a p true after (sum.back.each (p - a) (omega arith) (omega arith))
            ];
            stops = λ lt. (
                let at = walked.stops (omega arith) in
                let k : next - back' - 1 ≡ a - back - 1 = omega arith in
                ap map k ∙ at);
            none = none;
          })
    ]

-- the first run of a block is the first of all, where none begins before the block
pub page-out : (map : ℕ → Bool) (region base pages n page : ℕ) → base + pages ≤ region → IsInside map region base pages n
    → IsFirstRunIn (λ p. map (base + p)) pages n page → IsFirstRunIn map region n (base + page)
page-out map region base pages n page fits above first =
    let inside = first.here.inside in
    record {
      here = record {
        inside = omega arith;
        each = λ p low high. behind map base p true (omega arith) (first.here.each (p - base) (omega arith) (omega arith));
      };
      least = λ q less run. elim (cases_lt q base) [
        | inl before ↦ above.none q before run
        | inr after ↦ first.least (q - base) (omega arith) (record {
          inside = omega arith;
          each = λ p low high. run.each (base + p) (omega arith) (omega arith);
        })
      ];
    }

-- the entry of a block is that of all, where none begins before the block
pub entry-out : (map : ℕ → Bool) (region base pages n low part at : ℕ) → low + part ≤ pages → at ≡ base + low → IsInside map region base pages n
    → IsInside (λ p. map (base + p)) pages low part n → IsInside map region at part n
entry-out map region base pages n low part at fits is above inside =
    let within = inside.run.1.inside in
    record {
      run = (
        inside.run.0,
        record {
          inside = within;
          each = λ p from to. (let here : at + p ≡ base + (low + p) = omega arith in ap map here ∙ inside.run.1.each p from to);
        },
      );
      none = λ q before run. elim (cases_lt q base) [
        | inl early ↦ above.none q early run
        | inr late ↦ inside.none (q - base) (omega arith) (record {
          inside = omega arith;
          each = λ p from to. run.each (base + p) (omega arith) (omega arith);
        })
      ];
    }

-- some run of a block is found
pub none-out : (map : ℕ → Bool) (region base pages n : ℕ) → IsInside map region base pages n → HasNoRunIn (λ p. map (base + p)) pages n → ⊥
none-out map region base pages n above none = none above.run.0 above.run.1
