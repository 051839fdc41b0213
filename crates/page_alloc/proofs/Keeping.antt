-- Each line of the journal keeps what the pages of a region keep.
use Rattle.std.proofs.Common.{◌≡◌, ◌≢◌, ℕ, ◌+◌, ◌-◌, ◌<◌, ◌≤◌, Bool, true, false, ◌&&◌, ◌||◌, not, List, [], ◌∷◌, length, get_or, Option, Some, None, is_some, IfSome, IfNone, refl, sym, ◌∙◌, ap, arith, ◌⊎◌, inl, inr, get_or-set_other, get_or-set_same}
use Rattle.std.proofs.Math.ListN.{set}
use Rattle.std.proofs.lemmas.Bool.{cases_lt, cases_eq, cases_Bool, false≢true}
use Rattle.page_bitmap.specs.declared.line.Line.{Line}
use Rattle.page_bitmap.specs.declared.line.Line.TheVariants.{Take, Miss, Give, Scav}
use Rattle.page_bitmap.specs.Runs.{SetsRun}
use Rattle.page_bitmap.specs.Counts.{one_if, count_run}
use Rattle.page_alloc.specs.Lists.{In, count_below}
use Rattle.page_alloc.specs.Owners.{within, owner, cached, is_held, unscavenged, IsUnheld}
use Rattle.page_alloc.specs.Lives.{Life, open_lives}
use Rattle.page_alloc.specs.FreeRuns.{IsFree, IsFirstFit, HasNoRun, IsLongestFree, IsSpanSize, IsLoose, IsScavengeRun}
use Rattle.page_alloc.specs.Journal.{IsBy, KeepsBlocks, LegalFor}
use Rattle.page_alloc.specs.Region.{IsRunIn, HasNoRunIn, IsFirstRunIn, IsLongestRunIn, IsTopRunIn, IsLastIn}
use Rattle.page_alloc.specs.Kept.{IsKept}
use Rattle.page_bitmap.specs.CountLaws.{count_below-le, count_below-same, count_below-all, count_below-none, count_below-not, count_below-run, count_run-le}
use Rattle.page_alloc.proofs.Lives.{within-true, within-false, within-low, within-high, from_others, covers-for, exclusive, lies-for, span_pages, owned-for, owned-unscavenged-for, length-others, pages-apart-for, same_page-for, unheld}

not-true : (b : Bool) → not b ≡ true → b ≡ false
not-true true h = cc
not-true false h = refl

-- nobody has a page that neither a span nor a cache has
pub not-held : (past : List Line) (p : ℕ) → IsUnheld past p → is_held past p ≡ false
not-held past p none = (let e = none.owner in let c = none.cached in rw (e, c) refl)

-- what the map says of a free page
pub free-owner : {region goal live owned_pages behind : ℕ} {past : List Line} {free scavenged starts : ℕ → Bool} {lengths : List ℕ}
    → IsKept region goal past free scavenged starts lengths live owned_pages behind → (p : ℕ) → p < region → free p ≡ true → IsUnheld past p
free-owner {past = past} kept p lt is = unheld past p (not-true (is_held past p) (sym (kept.free_pages p lt) ∙ is))

pub owner-free : {region goal live owned_pages behind : ℕ} {past : List Line} {free scavenged starts : ℕ → Bool} {lengths : List ℕ}
    → IsKept region goal past free scavenged starts lengths live owned_pages behind → (p : ℕ) → p < region → IsUnheld past p → free p ≡ true
owner-free {past = past} kept p lt none = kept.free_pages p lt ∙ ap not (not-held past p none)

pub run-free : {region goal live owned_pages behind : ℕ} {past : List Line} {free scavenged starts : ℕ → Bool} {lengths : List ℕ} {page n : ℕ}
    → IsKept region goal past free scavenged starts lengths live owned_pages behind → IsRunIn free region page n → IsFree region past page n
run-free kept run = record {
  inside = run.inside;
  free = λ p low high. (let inside = run.inside in free-owner kept p (omega arith) (run.each p low high));
}

pub free-run : {region goal live owned_pages behind : ℕ} {past : List Line} {free scavenged starts : ℕ → Bool} {lengths : List ℕ} {page n : ℕ}
    → IsKept region goal past free scavenged starts lengths live owned_pages behind → IsFree region past page n → IsRunIn free region page n
free-run kept run = record {
  inside = run.inside;
  each = λ p low high. (let inside = run.inside in owner-free kept p (omega arith) (run.free p low high));
}

pub first-fit : {region goal live owned_pages behind : ℕ} {past : List Line} {free scavenged starts : ℕ → Bool} {lengths : List ℕ} {page n : ℕ}
    → IsKept region goal past free scavenged starts lengths live owned_pages behind → IsFirstRunIn free region n page → IsFirstFit region past page n
first-fit kept first = record {
  here = run-free kept first.here;
  least = λ q less run. first.least q less (free-run kept run);
}

pub no-run : {region goal live owned_pages behind : ℕ} {past : List Line} {free scavenged starts : ℕ → Bool} {lengths : List ℕ} {n : ℕ}
    → IsKept region goal past free scavenged starts lengths live owned_pages behind → HasNoRunIn free region n → HasNoRun region past n
no-run kept none = λ page run. none page (free-run kept run)

pub longest-free : {region goal live owned_pages behind : ℕ} {past : List Line} {free scavenged starts : ℕ → Bool} {lengths : List ℕ} {n : ℕ}
    → IsKept region goal past free scavenged starts lengths live owned_pages behind → IsLongestRunIn free region n → IsLongestFree region past n
longest-free kept longest = record {
  here = (longest.here.0, run-free kept longest.here.1);
  longest = no-run kept longest.longest;
}

both : (a b : Bool) → a && not b ≡ true → (a ≡ true) × (b ≡ false)
both true true h = cc
both true false h = (refl, refl)
both false b h = cc

not_true : (b : Bool) → not b ≡ false → b ≡ true
not_true true h = refl
not_true false h = cc

-- a page that the maps show free and unscavenged is loose, and no other is
pub is-loose : {region goal live owned_pages behind : ℕ} {past : List Line} {free scavenged starts : ℕ → Bool} {lengths : List ℕ}
    → IsKept region goal past free scavenged starts lengths live owned_pages behind → (p : ℕ) → p < region → free p && not (scavenged p) ≡ true → IsLoose past p
is-loose {past = past} {free = free} {scavenged = scavenged} kept p lt h =
    let parts = both (free p) (scavenged p) h in
    (free-owner kept p lt parts.0, not_true (unscavenged past p) (sym (kept.scavenged_pages p lt) ∙ parts.1))

pub isnt-loose : {region goal live owned_pages behind : ℕ} {past : List Line} {free scavenged starts : ℕ → Bool} {lengths : List ℕ}
    → IsKept region goal past free scavenged starts lengths live owned_pages behind → (p : ℕ) → p < region → free p && not (scavenged p) ≡ false → ¬ IsLoose past p
isnt-loose {past = past} {free = free} {scavenged = scavenged} kept p lt h loose =
    let is_free : free p ≡ true = owner-free kept p lt loose.0 in
    let isnt : scavenged p ≡ false = kept.scavenged_pages p lt ∙ ap not loose.1 in
    let both_true : free p && not (scavenged p) ≡ true = rw (is_free, isnt) refl in
    false≢true (sym h ∙ both_true)

pub scavenge-run : {region goal live owned_pages behind : ℕ} {past : List Line} {free scavenged starts : ℕ → Bool} {lengths : List ℕ} {page n : ℕ}
    → IsKept region goal past free scavenged starts lengths live owned_pages behind → IsTopRunIn (λ p. free p && not (scavenged p)) region page n → IsScavengeRun region past page n
scavenge-run {region = region} {page = page} kept top =
    let inside = top.run.inside in
    let some = top.some in
    record {
      inside = inside;
      some = top.some;
      few = top.few;
      loose = λ p low high. is-loose kept p (omega arith) (top.run.each p low high);
      highest = λ p low high. isnt-loose kept p high (top.highest p low high);
      chunk = top.chunk;
      longest = elim top.longest [
        | inl full ↦ inl full
        | inr rest ↦ inr (elim rest [
          | inl front ↦ inl front
          | inr below ↦ inr (isnt-loose kept (page - 1) (omega arith) below)
        ])
      ];
    }

-- a Miss changes nothing but the journal
pub kept-miss : {region goal live owned_pages behind : ℕ} {past : List Line} {free scavenged starts : ℕ → Bool} {lengths : List ℕ} {cycle n class : ℕ}
    → IsKept region goal past free scavenged starts lengths live owned_pages behind → IsBy cycle past → KeepsBlocks past (Miss cycle n class) → 1 ≤ n → HasNoRun region past n
    → IsKept region goal (Miss cycle n class ∷ past) free scavenged starts lengths live owned_pages behind
kept-miss kept by keeps some none = record {
  procs = kept.procs;
  legal = ((some, none), by, kept.legal, keeps);
  free_pages = kept.free_pages;
  scavenged_pages = kept.scavenged_pages;
  begins = kept.begins;
  begins_only = kept.begins_only;
  pages = kept.pages;
  lives = kept.lives;
  taken_pages = kept.taken_pages;
  backed_pages = kept.backed_pages;
}

out-of : (p page n : ℕ) → within p page n ≡ false → (p < page) ⊎ (page + n ≤ p)
out-of p page n isnt =
    elim (cases_lt p page) [
      | inl below ↦ inl below
      | inr from ↦ elim (cases_lt p (page + n)) [
        | inl to ↦ absurd (false≢true (sym isnt ∙ within-true p page n from to))
        | inr above ↦ inr above
      ]
    ]

-- what is set is as it was outside the run
pub set-outside : {old new : ℕ → Bool} {page n : ℕ} {value : Bool} → SetsRun old new page n value → (p : ℕ) → (p < page) ⊎ (page + n ≤ p) → new p ≡ old p
set-outside sets p (inl below) = sets.below p below
set-outside sets p (inr above) = sets.above p above

or-true : (b : Bool) → b || true ≡ true
or-true true = refl
or-true false = refl

one-not : (b : Bool) → one_if (not b) + one_if b ≡ 1
one-not true = refl
one-not false = refl

-- no other life begins at the first page of a free run
other-page : {region : ℕ} {past : List Line} {page n : ℕ} (procs goal : ℕ) → LegalFor procs region goal past → IsFree region past page n → 1 ≤ n
    → (life : Life) → In life (open_lives past) → life.page ≢ page
other-page {region} {past} {page} {n} procs goal legal free some life here e =
    let lie = lies-for procs region goal past life legal here in
    let has = covers-for procs region goal past life page legal here (omega arith) (omega arith) in
    let none = free.free page (omega arith) (omega arith) in
    cc

none-or : (o : Option ℕ) → (o ≡ None) ⊎ ((first : ℕ) × (o ≡ Some first))
none-or None = inl refl
none-or (Some first) = inr (first, refl)

pub kept-take : {region goal live owned_pages behind : ℕ} {past : List Line} {free scavenged starts : ℕ → Bool} {lengths : List ℕ}
    (free' scavenged' starts' : ℕ → Bool) (cycle page n class : ℕ)
    → IsKept region goal past free scavenged starts lengths live owned_pages behind → IsBy cycle past → KeepsBlocks past (Take cycle page n class) → IsSpanSize class n → IsFirstFit region past page n
    → region ≤ length lengths → SetsRun free free' page n false → SetsRun scavenged scavenged' page n false → SetsRun starts starts' page 1 true
    → IsKept region goal (Take cycle page n class ∷ past) free' scavenged' starts' (set lengths page n) (live + 1) (owned_pages + n) (behind + count_run page n scavenged)
kept-take {region} {goal} {live} {owned_pages} {behind} {past} {free} {scavenged} {starts} {lengths} free' scavenged' starts' cycle page n class kept by keeps size fit room frees scavenges begins =
    let some = span_pages class n size in
    let inside = fit.here.inside in
    let old : ℕ → Bool = is_held past in
    let new : ℕ → Bool = is_held (Take cycle page n class ∷ past) in
    let old_backed : ℕ → Bool = λ p. is_held past p || unscavenged past p in
    let new_backed : ℕ → Bool = λ p. is_held (Take cycle page n class ∷ past) p || unscavenged (Take cycle page n class ∷ past) p in
    let taken_at : (p : ℕ) → page ≤ p → p < page + n → owner (Take cycle page n class ∷ past) p ≡ Some page =
    λ p low high. (let is : within p page n ≡ true = within-true p page n low high in rw is refl) in
    let same_at : (p : ℕ) → (p < page) ⊎ (page + n ≤ p) → owner (Take cycle page n class ∷ past) p ≡ owner past p =
    λ p out. (let isnt : within p page n ≡ false = within-false p page n out in rw isnt refl) in
    let same_un : (p : ℕ) → (p < page) ⊎ (page + n ≤ p) → unscavenged (Take cycle page n class ∷ past) p ≡ unscavenged past p =
    λ p out. (let isnt : within p page n ≡ false = within-false p page n out in rw isnt refl) in
    let counted = count_below-run region page n old new inside
    (λ k lt. (let e = same_at k (inl lt) in rw e refl)) (λ k le. (let e = same_at k (inr le) in rw e refl)) in
    let none_before : count_run page n old ≡ 0 = count_below-none n (λ k. old (page + k)) (λ k lt. not-held past (page + k) (fit.here.free (page + k) (omega arith) (omega arith))) in
    let all_after : count_run page n new ≡ n = count_below-all n (λ k. new (page + k)) (λ k lt. (let e = taken_at (page + k) (omega arith) (omega arith) in rw e refl)) in
    let counted_backed = count_below-run region page n old_backed new_backed inside
    (λ k lt. (let e = same_at k (inl lt) in let u = same_un k (inl lt) in rw (e, u) refl))
    (λ k le. (let e = same_at k (inr le) in let u = same_un k (inr le) in rw (e, u) refl)) in
    let all_backed : count_run page n new_backed ≡ n = count_below-all n (λ k. new_backed (page + k)) (λ k lt. (let e = taken_at (page + k) (omega arith) (omega arith) in rw e refl)) in
    let some_backed : count_run page n scavenged + count_run page n old_backed ≡ n =
    count_below-not n (λ k. scavenged (page + k)) (λ k. old_backed (page + k)) (λ k lt. (
    let e = not-held past (page + k) (fit.here.free (page + k) (omega arith) (omega arith)) in
    let u = kept.scavenged_pages (page + k) (omega arith) in
    rw (e, u) (one-not (unscavenged past (page + k))))) in
    record {
      procs = kept.procs;
      legal = ((size, fit), by, kept.legal, keeps);
      free_pages = λ p lt. elim (cases_Bool (within p page n)) [
        | inl is ↦ (
            let low = within-low p page n is in
            let high = within-high p page n is in
            let e = taken_at p low high in
            rw e (frees.inside p low high))
        | inr isnt ↦ (
            let out = out-of p page n isnt in
            let e = same_at p out in
            rw e (set-outside frees p out ∙ kept.free_pages p lt))
      ];
      scavenged_pages = λ p lt. elim (cases_Bool (within p page n)) [
        | inl is ↦ rw is (scavenges.inside p (within-low p page n is) (within-high p page n is))
        | inr isnt ↦ (
            let out = out-of p page n isnt in
            let e = same_un p out in
            rw e (set-outside scavenges p out ∙ kept.scavenged_pages p lt))
      ];
      begins = λ p own. elim (cases_eq p page) [
        | inl same ↦ begins.inside p (omega arith) (omega arith)
        | inr other ↦ elim (cases_Bool (within p page n)) [
          | inl is ↦ (
              let e = taken_at p (within-low p page n is) (within-high p page n is) in
              absurd (other (let q : Some page ≡ Some p = sym e ∙ own in cc)))
          | inr isnt ↦ (
              let out = out-of p page n isnt in
              let away : (p < page) ⊎ (page + 1 ≤ p) = elim out [ inl below ↦ inl below | inr above ↦ inr (omega arith) ] in
              set-outside begins p away ∙ kept.begins p (sym (same_at p out) ∙ own))
        ]
      ];
      begins_only = λ p lt start. elim (cases_eq p page) [
        | inl same ↦ taken_at p (omega arith) (omega arith) ∙ ap (λ (q : ℕ). Some q) (sym same)
        | inr other ↦ (
            let away : (p < page) ⊎ (page + 1 ≤ p) = elim (cases_lt p page) [ inl below ↦ inl below | inr from ↦ inr (omega arith) ] in
            let own = kept.begins_only p lt (sym (set-outside begins p away) ∙ start) in
            elim (cases_Bool (within p page n)) [
              | inl is ↦ (let none = fit.here.free p (within-low p page n is) (within-high p page n is) in cc)
              | inr isnt ↦ same_at p (out-of p page n isnt) ∙ own
            ])
      ];
      pages = λ life here. elim here [
        | inl new_life ↦ (
            let e1 : page ≡ life.page = ap (λ (l : Life). l.page) new_life in
            let e2 : n ≡ life.pages = ap (λ (l : Life). l.pages) new_life in
            let lt : page < length lengths = omega arith in
            let at : get_or (set lengths page n) page 0 ≡ n = get_or-set_same lengths page n 0 lt in
            ap (λ (q : ℕ). get_or (set lengths page n) q 0) (sym e1) ∙ (at ∙ e2))
        | inr old_life ↦ (
            let ne = other-page kept.procs goal kept.legal fit.here some life old_life in
            get_or-set_other lengths page life.page n 0 ne ∙ kept.pages life old_life)
      ];
      lives = (let l = kept.lives in omega arith);
      taken_pages = (let t : owned_pages ≡ count_below region old = kept.taken_pages in omega arith);
      backed_pages = (let b : behind ≡ count_below region old_backed = kept.backed_pages in omega arith);
    }

pub kept-give : {region goal live owned_pages behind : ℕ} {past : List Line} {free scavenged starts : ℕ → Bool} {lengths : List ℕ}
    (free' scavenged' starts' : ℕ → Bool) (cycle page n : ℕ) (life : Life)
    → IsKept region goal past free scavenged starts lengths live owned_pages behind → IsBy cycle past → KeepsBlocks past (Give cycle page n) → In life (open_lives past) → life.page ≡ page → life.pages ≡ n
    → SetsRun free free' page n true → ((p : ℕ) → scavenged' p ≡ scavenged p) → SetsRun starts starts' page 1 false
    → IsKept region goal (Give cycle page n ∷ past) free' scavenged' starts' lengths (live - 1) (owned_pages - n) behind
kept-give {region} {goal} {live} {owned_pages} {behind} {past} {free} {scavenged} {starts} {lengths} free' scavenged' starts' cycle page n life kept by keeps here first all frees scavenges ends =
    let lie = lies-for kept.procs region goal past life kept.legal here in
    let old : ℕ → Bool = is_held past in
    let new : ℕ → Bool = is_held (Give cycle page n ∷ past) in
    let old_backed : ℕ → Bool = λ p. is_held past p || unscavenged past p in
    let new_backed : ℕ → Bool = λ p. is_held (Give cycle page n ∷ past) p || unscavenged past p in
    let had : (p : ℕ) → page ≤ p → p < page + n → owner past p ≡ Some page =
    λ p low high. covers-for kept.procs region goal past life p kept.legal here (omega arith) (omega arith) ∙ ap (λ (q : ℕ). Some q) first in
    -- no processor has a page of the span
    let not_cached : (p : ℕ) → page ≤ p → p < page + n → cached past p ≡ None =
    λ p low high. (let e = had p low high in elim (none-or (cached past p)) [
      | inl is ↦ is
      | inr some ↦ (let none = exclusive kept.procs region goal past p some.0 kept.legal some.1 in cc)
    ]) in
    let given_at : (p : ℕ) → page ≤ p → p < page + n → owner (Give cycle page n ∷ past) p ≡ None =
    λ p low high. (let is : within p page n ≡ true = within-true p page n low high in rw is refl) in
    let same_at : (p : ℕ) → (p < page) ⊎ (page + n ≤ p) → owner (Give cycle page n ∷ past) p ≡ owner past p =
    λ p out. (let isnt : within p page n ≡ false = within-false p page n out in rw isnt refl) in
    let counted = count_below-run region page n old new (omega arith)
    (λ k lt. (let e = same_at k (inl lt) in rw e refl)) (λ k le. (let e = same_at k (inr le) in rw e refl)) in
    let all_before : count_run page n old ≡ n = count_below-all n (λ k. old (page + k)) (λ k lt. (let e = had (page + k) (omega arith) (omega arith) in rw e refl)) in
    let none_after : count_run page n new ≡ 0 = count_below-none n (λ k. new (page + k)) (λ k lt. (let e = given_at (page + k) (omega arith) (omega arith) in let c = not_cached (page + k) (omega arith) (omega arith) in rw (e, c) refl)) in
    let same_backed : count_below region old_backed ≡ count_below region new_backed = count_below-same region old_backed new_backed (λ k lt.
    elim (cases_Bool (within k page n)) [
      | inl is ↦ (
          let e = had k (within-low k page n is) (within-high k page n is) in
          let g = given_at k (within-low k page n is) (within-high k page n is) in
          let u = owned-unscavenged-for kept.procs region goal past k page kept.legal e in
          let c = not_cached k (within-low k page n is) (within-high k page n is) in
          rw (g, e, u, c) refl)
      | inr isnt ↦ (let e = same_at k (out-of k page n isnt) in rw e refl)
    ]) in
    record {
      procs = kept.procs;
      legal = ((life, here, first, all), by, kept.legal, keeps);
      free_pages = λ p lt. elim (cases_Bool (within p page n)) [
        | inl is ↦ (
            let low = within-low p page n is in
            let high = within-high p page n is in
            let e = given_at p low high in
            let c = not_cached p low high in
            rw (e, c) (frees.inside p low high))
        | inr isnt ↦ (
            let out = out-of p page n isnt in
            let e = same_at p out in
            rw e (set-outside frees p out ∙ kept.free_pages p lt))
      ];
      scavenged_pages = λ p lt. scavenges p ∙ kept.scavenged_pages p lt;
      begins = λ p own. elim (cases_Bool (within p page n)) [
        | inl is ↦ (let e = given_at p (within-low p page n is) (within-high p page n is) in cc)
        | inr isnt ↦ (
            let out = out-of p page n isnt in
            let away : (p < page) ⊎ (page + 1 ≤ p) = elim out [ inl below ↦ inl below | inr above ↦ inr (omega arith) ] in
            set-outside ends p away ∙ kept.begins p (sym (same_at p out) ∙ own))
      ];
      begins_only = λ p lt start. elim (cases_eq p page) [
        | inl same ↦ absurd (false≢true (sym (ends.inside p (omega arith) (omega arith)) ∙ start))
        | inr other ↦ (
            let away : (p < page) ⊎ (page + 1 ≤ p) = elim (cases_lt p page) [ inl below ↦ inl below | inr from ↦ inr (omega arith) ] in
            let own = kept.begins_only p lt (sym (set-outside ends p away) ∙ start) in
            elim (cases_Bool (within p page n)) [
              | inl is ↦ (
                  let e = had p (within-low p page n is) (within-high p page n is) in
                  absurd (other (let q : Some page ≡ Some p = sym e ∙ own in cc)))
              | inr isnt ↦ same_at p (out-of p page n isnt) ∙ own
            ])
      ];
      pages = λ other_life there. kept.pages other_life (from_others page (open_lives past) other_life there).0;
      lives = (
          let l = kept.lives in
          let one = length-others page (open_lives past) life (pages-apart-for kept.procs region goal past kept.legal) here first in
          omega arith);
      taken_pages = (let t : owned_pages ≡ count_below region old = kept.taken_pages in omega arith);
      backed_pages = (let b : behind ≡ count_below region old_backed = kept.backed_pages in b ∙ same_backed);
    }

pub kept-scavenge : {region goal live owned_pages behind : ℕ} {past : List Line} {free scavenged starts : ℕ → Bool} {lengths : List ℕ}
    (free' scavenged' : ℕ → Bool) (cycle page n : ℕ)
    → IsKept region goal past free scavenged starts lengths live owned_pages behind → IsBy cycle past → KeepsBlocks past (Scav cycle page n) → goal < behind → IsScavengeRun region past page n
    → ((p : ℕ) → free' p ≡ free p) → SetsRun scavenged scavenged' page n true
    → IsKept region goal (Scav cycle page n ∷ past) free' scavenged' starts lengths live owned_pages (behind - n)
kept-scavenge {region} {goal} {live} {owned_pages} {behind} {past} {free} {scavenged} {starts} {lengths} free' scavenged' cycle page n kept by keeps above run frees scavenges =
    let old_backed : ℕ → Bool = λ p. is_held past p || unscavenged past p in
    let new_backed : ℕ → Bool = λ p. is_held past p || unscavenged (Scav cycle page n ∷ past) p in
    let gone_at : (p : ℕ) → page ≤ p → p < page + n → unscavenged (Scav cycle page n ∷ past) p ≡ false =
    λ p low high. (let is : within p page n ≡ true = within-true p page n low high in rw is refl) in
    let same_at : (p : ℕ) → (p < page) ⊎ (page + n ≤ p) → unscavenged (Scav cycle page n ∷ past) p ≡ unscavenged past p =
    λ p out. (let isnt : within p page n ≡ false = within-false p page n out in rw isnt refl) in
    let counted = count_below-run region page n old_backed new_backed run.inside
    (λ k lt. (let e = same_at k (inl lt) in rw e refl)) (λ k le. (let e = same_at k (inr le) in rw e refl)) in
    let all_before : count_run page n old_backed ≡ n = count_below-all n (λ k. old_backed (page + k)) (λ k lt. (
    let loose = run.loose (page + k) (omega arith) (omega arith) in
    let e = not-held past (page + k) loose.0 in
    let u = loose.1 in
    rw (e, u) refl)) in
    let none_after : count_run page n new_backed ≡ 0 = count_below-none n (λ k. new_backed (page + k)) (λ k lt. (
    let e = not-held past (page + k) (run.loose (page + k) (omega arith) (omega arith)).0 in
    let u = gone_at (page + k) (omega arith) (omega arith) in
    rw (e, u) refl)) in
    record {
      procs = kept.procs;
      legal = ((let b = kept.backed_pages in (omega arith, run)), by, kept.legal, keeps);
      free_pages = λ p lt. frees p ∙ kept.free_pages p lt;
      scavenged_pages = λ p lt. elim (cases_Bool (within p page n)) [
        | inl is ↦ (
            let low = within-low p page n is in
            let high = within-high p page n is in
            let u = gone_at p low high in
            rw u (scavenges.inside p low high))
        | inr isnt ↦ (
            let out = out-of p page n isnt in
            let u = same_at p out in
            rw u (set-outside scavenges p out ∙ kept.scavenged_pages p lt))
      ];
      begins = kept.begins;
      begins_only = kept.begins_only;
      pages = kept.pages;
      lives = kept.lives;
      taken_pages = kept.taken_pages;
      backed_pages = (let b : behind ≡ count_below region old_backed = kept.backed_pages in omega arith);
    }

some-life : (lives : List Life) (life : Life) → In life lives → 1 ≤ length lives
some-life [] life h = absurd h
some-life (first ∷ lives) life h = omega arith

-- The life that begins at a page, with what the pages of the region keep of it.
pub record IsGiven (region live owns : ℕ) (past : List Line) (free : ℕ → Bool) (lengths : List ℕ) (page : ℕ) (life : Life) : Type 0 where
  pub here : In life (open_lives past)
  pub first : life.page ≡ page
  pub pages : get_or lengths page 0 ≡ life.pages
  pub run : IsRunIn (λ p. not (free p)) region page life.pages
  pub some : 1 ≤ life.pages
  pub lives : 1 ≤ live
  pub owned_pages : life.pages ≤ owns

pub given : {region goal live owned_pages behind : ℕ} {past : List Line} {free scavenged starts : ℕ → Bool} {lengths : List ℕ} {page : ℕ}
    → IsKept region goal past free scavenged starts lengths live owned_pages behind → owner past page ≡ Some page → (life : Life) × IsGiven region live owned_pages past free lengths page life
given {region} {goal} {live} {owned_pages} {behind} {past} {free} {scavenged} {starts} {lengths} {page} kept begins =
    let found = owned-for kept.procs region goal past page page kept.legal begins in
    let life = found.0 in
    let here = found.1.here in
    let first = found.1.begins in
    let lie = lies-for kept.procs region goal past life kept.legal here in
    let old : ℕ → Bool = is_held past in
    let had : (p : ℕ) → page ≤ p → p < page + life.pages → owner past p ≡ Some life.page = λ p low high. covers-for kept.procs region goal past life p kept.legal here (omega arith) (omega arith) in
    let counted : count_run page life.pages old ≡ life.pages = count_below-all life.pages (λ k. old (page + k)) (λ k lt. (let e = had (page + k) (omega arith) (omega arith) in rw e refl)) in
    let le = count_run-le region page life.pages old (omega arith) in (
      life,
      record {
        here = here;
        first = first;
        pages = ap (λ (q : ℕ). get_or lengths q 0) (sym first) ∙ kept.pages life here;
        run = record {
          inside = omega arith;
          each = λ p low high. (
              let e = had p low high in
              let held : not (is_held past p) ≡ false = rw e refl in
              let taken_page : free p ≡ false = kept.free_pages p (omega arith) ∙ held in
              ap not taken_page);
        };
        some = lie.0;
        lives = (let l = kept.lives in let s = some-life (open_lives past) life here in omega arith);
        owned_pages = (let t : owned_pages ≡ count_below region old = kept.taken_pages in omega arith);
      },
    )

-- the first page of the span that has a page is itself one of the span's, and marked
start-of : {region goal live owned_pages behind : ℕ} {past : List Line} {free scavenged starts : ℕ → Bool} {lengths : List ℕ} {p first : ℕ}
    → IsKept region goal past free scavenged starts lengths live owned_pages behind → owner past p ≡ Some first → (first ≤ p) × (owner past first ≡ Some first) × (starts first ≡ true)
start-of {region} {goal} {live} {owned_pages} {behind} {past} {free} {scavenged} {starts} {lengths} {p} {first} kept own =
    let found = owned-for kept.procs region goal past p first kept.legal own in
    let life = found.0 in
    let e = found.1.begins in
    let lie = lies-for kept.procs region goal past life kept.legal found.1.here in
    let at = covers-for kept.procs region goal past life first kept.legal found.1.here (omega arith) (omega arith) ∙ ap (λ (q : ℕ). Some q) e in
    (found.1.low, at, kept.begins first at)

pub owner-none : {region goal live owned_pages behind : ℕ} {past : List Line} {free scavenged starts : ℕ → Bool} {lengths : List ℕ} {p : ℕ}
    → IsKept region goal past free scavenged starts lengths live owned_pages behind → ((q : ℕ) → q ≤ p → starts q ≡ false) → owner past p ≡ None
owner-none {past = past} {p = p} kept none =
    elim (none-or (owner past p)) [
      | inl is ↦ is
      | inr some ↦ (
          let start = start-of kept some.1 in
          absurd (false≢true (sym (none some.0 start.0) ∙ start.2)))
    ]

pub owner-some : {region goal live owned_pages behind : ℕ} {past : List Line} {free scavenged starts : ℕ → Bool} {lengths : List ℕ} {p first : ℕ}
    → IsKept region goal past free scavenged starts lengths live owned_pages behind → p < region → IsLastIn starts p first → p < first + get_or lengths first 0 → owner past p ≡ Some first
owner-some {region} {goal} {live} {owned_pages} {behind} {past} {free} {scavenged} {starts} {lengths} {p} {first} kept lt last inside =
    let low = last.low in
    let life = given kept (kept.begins_only first (omega arith) last.has) in
    let e = life.1.first in
    let n = life.1.pages in
    covers-for kept.procs region goal past life.0 p kept.legal life.1.here (omega arith) (omega arith) ∙ ap (λ (q : ℕ). Some q) e

pub owner-past : {region goal live owned_pages behind : ℕ} {past : List Line} {free scavenged starts : ℕ → Bool} {lengths : List ℕ} {p first : ℕ}
    → IsKept region goal past free scavenged starts lengths live owned_pages behind → p < region → IsLastIn starts p first → first + get_or lengths first 0 ≤ p → owner past p ≡ None
owner-past {region} {goal} {live} {owned_pages} {behind} {past} {free} {scavenged} {starts} {lengths} {p} {first} kept lt last beyond =
    let low = last.low in
    let first_own = kept.begins_only first (omega arith) last.has in
    let life = given kept first_own in
    let first_page = life.1.first in
    let pages = life.1.pages in
    elim (none-or (owner past p)) [
      | inl is ↦ is
      | inr some ↦ (
          let found = owned-for kept.procs region goal past p some.0 kept.legal some.1 in
          let e = found.1.begins in
          let q_low = found.1.low in
          let q_high = found.1.high in
          let start = start-of kept some.1 in
          elim (cases_lt first some.0) [
            | inl later ↦ absurd (false≢true (sym (last.last some.0 later start.0) ∙ start.2))
            | inr earlier ↦ (
                let at = covers-for kept.procs region goal past found.0 first kept.legal found.1.here (omega arith) (omega arith) in
                let same : Some found.0.page ≡ Some first = sym at ∙ first_own in
                let page : found.0.page ≡ first = cc in
                let one = same_page-for kept.procs region goal past found.0 life.0 kept.legal found.1.here life.1.here (page ∙ sym first_page) in
                let sizes : found.0.pages ≡ life.0.pages = ap (λ (l : Life). l.pages) one in
                absurd (omega arith))
          ])
    ]

pub some-fit : {region goal live owned_pages behind : ℕ} {past : List Line} {free scavenged starts : ℕ → Bool} {lengths : List ℕ} (n : ℕ)
    → IsKept region goal past free scavenged starts lengths live owned_pages behind → (found : Option ℕ) → IfSome found (IsFirstRunIn free region n) → IfSome found (λ page. IsFirstFit region past page n)
some-fit n kept None is = tt
some-fit n kept (Some page) is = first-fit kept is

pub none-fit : {region goal live owned_pages behind : ℕ} {past : List Line} {free scavenged starts : ℕ → Bool} {lengths : List ℕ} (n : ℕ)
    → IsKept region goal past free scavenged starts lengths live owned_pages behind → (found : Option ℕ) → IfNone found (HasNoRunIn free region n) → IfNone found (HasNoRun region past n)
none-fit n kept None is = no-run kept is
none-fit n kept (Some page) is = tt

-- a region whose pages are all free and scavenged has an empty journal
pub kept-new : (region goal : ℕ) (free scavenged starts : ℕ → Bool) (lengths : List ℕ) → ((p : ℕ) → p < region → free p ≡ true) → ((p : ℕ) → p < region → scavenged p ≡ true)
    → ((p : ℕ) → p < region → starts p ≡ false) → IsKept region goal [] free scavenged starts lengths 0 0 0
kept-new region goal free scavenged starts lengths all_free all_scavenged no_start = record {
  procs = 0;
  legal = tt;
  free_pages = all_free;
  scavenged_pages = all_scavenged;
  begins = λ p own. cc;
  begins_only = λ p lt is. absurd (false≢true (sym (no_start p lt) ∙ is));
  pages = λ life here. absurd here;
  lives = refl;
  taken_pages = sym (count_below-none region (λ p. false) (λ k lt. refl));
  backed_pages = sym (count_below-none region (λ p. false) (λ k lt. refl));
}

pub kept_small : {region goal live owned_pages behind : ℕ} {past : List Line} {free scavenged starts : ℕ → Bool} {lengths : List ℕ}
    → IsKept region goal past free scavenged starts lengths live owned_pages behind → (owned_pages ≤ region) × (behind ≤ region)
kept_small {region} {goal} {live} {owned_pages} {behind} {past} kept =
    let t = count_below-le region (is_held past) in
    let b = count_below-le region (λ p. is_held past p || unscavenged past p) in
    (rw kept.taken_pages t, rw kept.backed_pages b)

-- the run of a scavenging step is backed
pub scavenge_small : {region goal live owned_pages behind : ℕ} {past : List Line} {free scavenged starts : ℕ → Bool} {lengths : List ℕ} {page n : ℕ}
    → IsKept region goal past free scavenged starts lengths live owned_pages behind → IsScavengeRun region past page n → n ≤ behind
scavenge_small {region} {goal} {live} {owned_pages} {behind} {past} {free} {scavenged} {starts} {lengths} {page} {n} kept run =
    let old_backed : ℕ → Bool = λ p. is_held past p || unscavenged past p in
    let all : count_run page n old_backed ≡ n = count_below-all n (λ k. old_backed (page + k)) (λ k lt. (
    let loose = run.loose (page + k) (omega arith) (omega arith) in
    let e = not-held past (page + k) loose.0 in
    let u = loose.1 in
    rw (e, u) refl)) in
    let le = count_run-le region page n old_backed run.inside in
    let b : behind ≡ count_below region old_backed = kept.backed_pages in
    omega arith
