-- The pages of chunks as those of a region, and parts of a run one after another.
use Rattle.std.proofs.Common.{◌≡◌, ℕ, zero, suc, ◌+◌, ◌-◌, ◌*◌, ◌/◌, ◌%◌, ◌<◌, ◌≤◌, Bool, true, false, not, ◌&&◌, ltb, List, [], ◌∷◌, length, get_or, refl, sym, ◌∙◌, ap, arith, ◌⊎◌, inl, inr}
use Rattle.std.proofs.Math.ListN.{set}
use Rattle.std.proofs.lemmas.Bool.{lt-ltb, le-ltb, cases_lt, cases_eq, eq-eqb, ne_eqb}
use Rattle.page_bitmap.specs.declared.chunk.Chunk.{Chunk}
use Rattle.page_bitmap.specs.Runs.{IsRun, IsTopRun, SetsRun}
use Rattle.page_bitmap.specs.Pages.{is_free, is_scavenged, can_scavenge}
use Rattle.page_bitmap.specs.Counts.{count_run}
use Rattle.page_bitmap.specs.Words.{in_word}
use Rattle.page_alloc.specs.Owners.{within}
use Rattle.page_alloc.specs.Region.{over, loose_in, IsRunIn, IsTopRunIn}
use Rattle.page_bitmap.specs.CountLaws.{count_below-same, count_run-split}
use Rattle.page_alloc.proofs.Lives.{within-true, within-false}

-- a page of a chunk
pub over-at : {X : Type 0} (map : X → ℕ → Bool) (chunks : List X) (k j : ℕ) (d : X)
    → k < length chunks → j < 512 → over map chunks (512 * k + j) ≡ map (get_or chunks k d) j
over-at map [] k j d lt low = absurd (omega arith)
over-at map (first ∷ rest) zero j d lt low =
    let same : 512 * 0 + j ≡ j = omega arith in
    let test : ltb j 512 ≡ true = lt-ltb j 512 low in
    rw (same, test) refl
over-at map (first ∷ rest) (suc k) j d lt low =
    let test : ltb (512 * suc k + j) 512 ≡ false = le-ltb (512 * suc k + j) 512 (omega arith) in
    let less : 512 * suc k + j - 512 ≡ 512 * k + j = omega arith in
    rw (test, less) (over-at map rest k j d (omega arith) low)

pub over-set_here : {X : Type 0} (map : X → ℕ → Bool) (chunks : List X) (k j : ℕ) (chunk : X)
    → k < length chunks → j < 512 → over map (set chunks k chunk) (512 * k + j) ≡ map chunk j
over-set_here map [] k j chunk lt low = absurd (omega arith)
over-set_here map (first ∷ rest) zero j chunk lt low =
    let same : 512 * 0 + j ≡ j = omega arith in
    let test : ltb j 512 ≡ true = lt-ltb j 512 low in
    rw (same, test) refl
over-set_here map (first ∷ rest) (suc k) j chunk lt low =
    let test : ltb (512 * suc k + j) 512 ≡ false = le-ltb (512 * suc k + j) 512 (omega arith) in
    let less : 512 * suc k + j - 512 ≡ 512 * k + j = omega arith in
    rw (test, less) (over-set_here map rest k j chunk (omega arith) low)

pub over-set_other : {X : Type 0} (map : X → ℕ → Bool) (chunks : List X) (k p : ℕ) (chunk : X)
    → (p < 512 * k) ⊎ (512 * k + 512 ≤ p) → over map (set chunks k chunk) p ≡ over map chunks p
over-set_other map [] k p chunk other = refl
over-set_other map (first ∷ rest) zero p chunk (inl below) = absurd (omega arith)
over-set_other map (first ∷ rest) zero p chunk (inr above) =
    let test : ltb p 512 ≡ false = le-ltb p 512 (omega arith) in
    rw test refl
over-set_other map (first ∷ rest) (suc k) p chunk other =
    elim (cases_lt p 512) [
      | inl low ↦ (let test : ltb p 512 ≡ true = lt-ltb p 512 low in rw test refl)
      | inr high ↦ (
          let test : ltb p 512 ≡ false = le-ltb p 512 high in
          let other' : (p - 512 < 512 * k) ⊎ (512 * k + 512 ≤ p - 512) = elim other [
            | inl below ↦ inl (omega arith)
            | inr above ↦ inr (omega arith)
          ] in
          rw test (over-set_other map rest k (p - 512) chunk other'))
    ]

-- The pages from `base` on are those of a chunk.
pub record Ties (map m : ℕ → Bool) (base : ℕ) : Type 0 where
  pub at : (k : ℕ) → k < 512 → map (base + k) ≡ m k

tied : (map m : ℕ → Bool) (base p : ℕ) → Ties map m base → base ≤ p → p < base + 512 → map p ≡ m (p - base)
tied map m base p ties low high =
    let k = p - base in
    let here : base + k ≡ p = omega arith in
    let at = ties.at k (omega arith) in
    sym (ap map here) ∙ at

-- nothing is set so far
pub sets-none : (f : ℕ → Bool) (page : ℕ) (value : Bool) → SetsRun f f page 0 value
sets-none f page value = record {
  inside = λ p low high. absurd (omega arith);
  below = λ p lt. refl;
  above = λ p le. refl;
}

-- a part of a run is set behind the parts before it
pub sets-more : {X : Type 0} (map : X → ℕ → Bool) (old mid : List X) (k first n page done : ℕ) (d y : X) (value : Bool)
    → k < length mid → SetsRun (over map old) (over map mid) page done value
    → page + done ≡ 512 * k + first → first + n ≤ 512 → SetsRun (map (get_or mid k d)) (map y) first n value
    → SetsRun (over map old) (over map (set mid k y)) page (done + n) value
sets-more map old mid k first n page done d y value lt so_far at fits now =
    let here : (p : ℕ) → 512 * k ≤ p → p < 512 * k + 512 → over map (set mid k y) p ≡ map y (p - 512 * k) =
    λ p low high. (
    let j = p - 512 * k in
    let same : 512 * k + j ≡ p = omega arith in
    sym (ap (over map (set mid k y)) same) ∙ over-set_here map mid k j y lt (omega arith)) in
    let was : (p : ℕ) → 512 * k ≤ p → p < 512 * k + 512 → over map mid p ≡ map (get_or mid k d) (p - 512 * k) =
    λ p low high. (
    let j = p - 512 * k in
    let same : 512 * k + j ≡ p = omega arith in
    sym (ap (over map mid) same) ∙ over-at map mid k j d lt (omega arith)) in
    let kept : (p : ℕ) → (p < page + done) ⊎ (page + (done + n) ≤ p) → over map (set mid k y) p ≡ over map mid p =
    λ p out. elim (cases_lt p (512 * k)) [
      | inl below ↦ over-set_other map mid k p y (inl below)
      | inr from ↦ elim (cases_lt p (512 * k + 512)) [
        | inr above ↦ over-set_other map mid k p y (inr above)
        | inl to ↦ elim out [
          | inl early ↦ here p from to ∙ (now.below (p - 512 * k) (omega arith) ∙ sym (was p from to))
          | inr late ↦ here p from to ∙ (now.above (p - 512 * k) (omega arith) ∙ sym (was p from to))
        ]
      ]
    ] in
    record {
      inside = λ p low high. elim (cases_lt p (page + done)) [
        | inl early ↦ kept p (inl early) ∙ so_far.inside p low early
        | inr late ↦ here p (omega arith) (omega arith) ∙ now.inside (p - 512 * k) (omega arith) (omega arith)
      ];
      below = λ p less. kept p (inl (omega arith)) ∙ so_far.below p less;
      above = λ p more. kept p (inr more) ∙ so_far.above p (omega arith);
    }

-- a run of the map of a region is, in each chunk, one of that chunk's map
pub run-at : {X : Type 0} (map : X → ℕ → Bool) (chunks : List X) (k first n : ℕ) (d : X)
    → k < length chunks → first + n ≤ 512 → ((p : ℕ) → 512 * k + first ≤ p → p < 512 * k + first + n → over map chunks p ≡ true)
    → IsRun (map (get_or chunks k d)) first n
run-at map chunks k first n d lt fits each = record {
  within = fits;
  each = λ j low high. sym (over-at map chunks k j d lt (omega arith)) ∙ each (512 * k + j) (omega arith) (omega arith);
}

pub ties-at : {X : Type 0} (map : X → ℕ → Bool) (chunks : List X) (k : ℕ) (d : X) → k < length chunks → Ties (over map chunks) (map (get_or chunks k d)) (512 * k)
ties-at map chunks k d lt = record { at = λ j low. over-at map chunks k j d lt low }

-- a write of a chunk with the same map changes nothing in the map of the region
pub over-set_same : {X : Type 0} (map : X → ℕ → Bool) (chunks : List X) (k p : ℕ) (d y : X) → k < length chunks → map y ≡ map (get_or chunks k d)
    → over map (set chunks k y) p ≡ over map chunks p
over-set_same map chunks k p d y lt same =
    elim (cases_lt p (512 * k)) [
      | inl below ↦ over-set_other map chunks k p y (inl below)
      | inr from ↦ elim (cases_lt p (512 * k + 512)) [
        | inr above ↦ over-set_other map chunks k p y (inr above)
        | inl to ↦ (
            let j = p - 512 * k in
            let here : 512 * k + j ≡ p = omega arith in
            let new = over-set_here map chunks k j y lt (omega arith) in
            let old = over-at map chunks k j d lt (omega arith) in
            sym (ap (over map (set chunks k y)) here) ∙ (new ∙ (ap (λ (f : ℕ → Bool). f j) same ∙ (sym old ∙ ap (over map chunks) here))))
      ]
    ]

-- the part of a free run that comes next is free in its chunk
pub part-free : {X : Type 0} (map : X → ℕ → Bool) (old mid : List X) (k first n page pages done region : ℕ) (d : X) (value : Bool)
    → k < length mid → SetsRun (over map old) (over map mid) page done value → IsRunIn (over map old) region page pages
    → page + done ≡ 512 * k + first → first + n ≤ 512 → done + n ≤ pages → IsRun (map (get_or mid k d)) first n
part-free map old mid k first n page pages done region d value lt so_far run at fits inside =
    run-at map mid k first n d lt fits (λ p low high. so_far.above p (omega arith) ∙ run.each p (omega arith) (omega arith))

-- the part of a taken run that comes next is taken in its chunk
pub part-taken : {X : Type 0} (map : X → ℕ → Bool) (old mid : List X) (k first n page pages done region : ℕ) (d : X) (value : Bool)
    → k < length mid → SetsRun (over map old) (over map mid) page done value → IsRunIn (λ p. not (over map old p)) region page pages
    → page + done ≡ 512 * k + first → first + n ≤ 512 → done + n ≤ pages → IsRun (λ p. not (map (get_or mid k d) p)) first n
part-taken map old mid k first n page pages done region d value lt so_far run at fits inside = record {
  within = fits;
  each = λ j low high. (
      let here = over-at map mid k j d lt (omega arith) in
      let was = so_far.above (512 * k + j) (omega arith) in
      let is = run.each (512 * k + j) (omega arith) (omega arith) in
      ap not (sym here ∙ was) ∙ is);
}

-- what a part of a run counts is added to the parts before it
pub part_count : {X : Type 0} (map : X → ℕ → Bool) (old mid : List X) (k first n page done : ℕ) (d : X) (value : Bool)
    → k < length mid → SetsRun (over map old) (over map mid) page done value → page + done ≡ 512 * k + first → first + n ≤ 512
    → count_run page done (over map old) + count_run first n (map (get_or mid k d)) ≡ count_run page (done + n) (over map old)
part_count map old mid k first n page done d value lt so_far at fits =
    let whole = count_run-split page done n (over map old) in
    let same : count_run (page + done) n (over map old) ≡ count_run first n (map (get_or mid k d)) =
    count_below-same n (λ i. over map old (page + done + i)) (λ i. map (get_or mid k d) (first + i)) (λ i lti. (
    let here = over-at map mid k (first + i) d lt (omega arith) in
    let was = so_far.above (page + done + i) (omega arith) in
    let place : page + done + i ≡ 512 * k + (first + i) = omega arith in
    sym was ∙ (ap (over map mid) place ∙ here))) in
    omega arith

-- a run that lies in one chunk is set at once
pub sets-one : {X : Type 0} (map : X → ℕ → Bool) (chunks : List X) (k first n page : ℕ) (d y : X) (value : Bool)
    → k < length chunks → page ≡ 512 * k + first → first + n ≤ 512 → SetsRun (map (get_or chunks k d)) (map y) first n value
    → SetsRun (over map chunks) (over map (set chunks k y)) page n value
sets-one map chunks k first n page d y value lt at fits now =
    let all = sets-more map chunks chunks k first n page 0 d y value lt (sets-none (over map chunks) page value) (omega arith) fits now in
    record {
      inside = λ p low high. all.inside p low (omega arith);
      below = all.below;
      above = λ p more. all.above p (omega arith);
    }

-- the top run of the highest chunk that has one is that of the region
pub top-of : (map m : ℕ → Bool) (k page n region : ℕ) → Ties map m (512 * k) → IsTopRun m 64 page n → 512 * k + 512 ≤ region
    → ((p : ℕ) → 512 * (k + 1) ≤ p → p < region → map p ≡ false) → IsTopRunIn map region (512 * k + page) n
top-of map m k page n region ties top inside above =
    let some = top.some in
    let limited = top.limited in
    let within = top.run.within in
    record {
      run = record {
        inside = omega arith;
        each = λ p low high. tied map m (512 * k) p ties (omega arith) (omega arith) ∙ top.run.each (p - 512 * k) (omega arith) (omega arith);
      };
      some = some;
      few = limited;
      highest = λ p low high. elim (cases_lt p (512 * k + 512)) [
        | inl here ↦ tied map m (512 * k) p ties (omega arith) here ∙ top.highest (p - 512 * k) (omega arith)
        | inr there ↦ above p (omega arith) high
      ];
      chunk = omega arith;
      longest = elim (cases_lt n 64) [
        | inr full ↦ inl (omega arith)
        | inl short ↦ elim (cases_lt 0 page) [
          | inr first ↦ inr (inl (omega arith))
          | inl later ↦ inr (inr (
              let at = top.whole short later in
              let here : 512 * k + page - 1 ≡ 512 * k + (page - 1) = omega arith in
              ap map here ∙ (ties.at (page - 1) (omega arith) ∙ at)))
        ]
      ];
    }

-- free and unscavenged pages of a chunk
pub ties-loose : (chunks : List Chunk) (k : ℕ) (d : Chunk) → k < length chunks → Ties (loose_in chunks) (can_scavenge (get_or chunks k d)) (512 * k)
ties-loose chunks k d lt = record {
  at = λ j low. (
      let free = over-at is_free chunks k j d lt low in
      let scavenged = over-at is_scavenged chunks k j d lt low in
      rw (free, scavenged) refl);
}

-- what holds of each page of each part holds of each page of the region
pub over-each : {X : Type 0} (map : X → ℕ → Bool) (parts : List X) (d : X) (value : Bool)
    → ((k j : ℕ) → k < length parts → j < 512 → map (get_or parts k d) j ≡ value) → (p : ℕ) → p < 512 * length parts → over map parts p ≡ value
over-each map parts d value each p lt =
    let here : 512 * (p / 512) + p % 512 ≡ p = omega arith in
    sym (ap (over map parts) here) ∙ (over-at map parts (p / 512) (p % 512) d (omega arith) (omega arith) ∙ each (p / 512) (p % 512) (omega arith) (omega arith))

-- no part has a page beyond the region
pub over-past : {X : Type 0} (map : X → ℕ → Bool) (parts : List X) (p : ℕ) → 512 * length parts ≤ p → over map parts p ≡ false
over-past map [] p le = refl
over-past map (first ∷ rest) p le =
    let test : ltb p 512 ≡ false = le-ltb p 512 (omega arith) in
    rw test (over-past map rest (p - 512) (omega arith))

-- a page behind a border
pub behind : (map : ℕ → Bool) (a p : ℕ) (value : Bool) → a ≤ p → map (a + (p - a)) ≡ value → map p ≡ value
behind map a p value le is = (let here : a + (p - a) ≡ p = omega arith in sym (ap map here) ∙ is)

-- the 64 pages of a word of a chunk are a block of the region
word-within : (k b p : ℕ) → 512 * k ≤ p → in_word b (p - 512 * k) ≡ within p (512 * k + 64 * b) 64
word-within k b p from = elim (cases_eq ((p - 512 * k) / 64) b) [
  | inl here ↦ (
      let is : in_word b (p - 512 * k) ≡ true = eq-eqb ((p - 512 * k) / 64) b here in
      is ∙ sym (within-true p (512 * k + 64 * b) 64 (omega arith) (omega arith)))
  | inr there ↦ (
      let isnt : in_word b (p - 512 * k) ≡ false = ne_eqb ((p - 512 * k) / 64) b there in
      isnt ∙ sym (within-false p (512 * k + 64 * b) 64 (elim (cases_lt p (512 * k + 64 * b)) [ inl low ↦ inl low | inr high ↦ inr (omega arith) ])))
]

-- a change of the 64 pages of a word of a chunk is one of the block of the region, which may ask what another map and a word say
pub over-block : {X : Type 0} (map other : X → ℕ → Bool) (chunks : List X) (k b p : ℕ) (d y : X) (bits : ℕ → Bool) (op : Bool → Bool → Bool → Bool → Bool)
    → k < length chunks → b < 8 → ((x o c : Bool) → op x false o c ≡ x)
    → ((j : ℕ) → map y j ≡ op (map (get_or chunks k d) j) (in_word b j) (other (get_or chunks k d) j) (bits (j % 64)))
    → over map (set chunks k y) p ≡ op (over map chunks p) (within p (512 * k + 64 * b) 64) (over other chunks p) (bits (p % 64))
over-block map other chunks k b p d y bits op lt small keeps changed =
    let same : (within p (512 * k + 64 * b) 64 ≡ false) → over map (set chunks k y) p ≡ over map chunks p → over map (set chunks k y) p ≡ op (over map chunks p) (within p (512 * k + 64 * b) 64) (over other chunks p) (bits (p % 64)) =
    λ out e. e ∙ sym (ap (λ (w : Bool). op (over map chunks p) w (over other chunks p) (bits (p % 64))) out ∙ keeps (over map chunks p) (over other chunks p) (bits (p % 64))) in
    elim (cases_lt p (512 * k)) [
      | inl below ↦ same (within-false p (512 * k + 64 * b) 64 (inl (omega arith))) (over-set_other map chunks k p y (inl below))
      | inr from ↦ elim (cases_lt p (512 * k + 512)) [
        | inr above ↦ same (within-false p (512 * k + 64 * b) 64 (inr (omega arith))) (over-set_other map chunks k p y (inr above))
        | inl to ↦ (
            let j = p - 512 * k in
            let at : 512 * k + j ≡ p = omega arith in
            let column : j % 64 ≡ p % 64 = omega arith in
            let new : over map (set chunks k y) p ≡ map y j = sym (ap (over map (set chunks k y)) at) ∙ over-set_here map chunks k j y lt (omega arith) in
            let old : map (get_or chunks k d) j ≡ over map chunks p = sym (over-at map chunks k j d lt (omega arith)) ∙ ap (over map chunks) at in
            let also : other (get_or chunks k d) j ≡ over other chunks p = sym (over-at other chunks k j d lt (omega arith)) ∙ ap (over other chunks) at in
            let word = word-within k b p from in
            new ∙ changed j
            ∙ ap (λ (x : Bool). op x (in_word b j) (other (get_or chunks k d) j) (bits (j % 64))) old
            ∙ ap (λ (w : Bool). op (over map chunks p) w (other (get_or chunks k d) j) (bits (j % 64))) word
            ∙ ap (λ (o : Bool). op (over map chunks p) (within p (512 * k + 64 * b) 64) o (bits (j % 64))) also
            ∙ ap (λ (c : ℕ). op (over map chunks p) (within p (512 * k + 64 * b) 64) (over other chunks p) (bits c)) column)
      ]
    ]

-- what two maps have of the 64 pages of a word of a chunk
pub block_count : {X : Type 0} (map other : X → ℕ → Bool) (chunks : List X) (k b : ℕ) (d : X) → k < length chunks → b < 8
    → count_run (64 * b) 64 (λ j. map (get_or chunks k d) j && other (get_or chunks k d) j) ≡ count_run (512 * k + 64 * b) 64 (λ p. over map chunks p && over other chunks p)
block_count map other chunks k b d lt small =
    count_below-same 64 (λ i. map (get_or chunks k d) (64 * b + i) && other (get_or chunks k d) (64 * b + i)) (λ i. over map chunks (512 * k + 64 * b + i) && over other chunks (512 * k + 64 * b + i)) (λ i low. (
    let at : 512 * k + (64 * b + i) ≡ 512 * k + 64 * b + i = omega arith in
    let f : map (get_or chunks k d) (64 * b + i) ≡ over map chunks (512 * k + 64 * b + i) = sym (over-at map chunks k (64 * b + i) d lt (omega arith)) ∙ ap (over map chunks) at in
    let g : other (get_or chunks k d) (64 * b + i) ≡ over other chunks (512 * k + 64 * b + i) = sym (over-at other chunks k (64 * b + i) d lt (omega arith)) ∙ ap (over other chunks) at in
    rw (f, g) refl))
