-- What the pages of a region keep when a block is pulled.
use Rattle.std.proofs.Common.{◌≡◌, ◌≢◌, ℕ, zero, suc, ◌+◌, ◌-◌, ◌*◌, ◌/◌, ◌%◌, ◌<◌, ◌≤◌, Bool, true, false, ◌&&◌, ◌||◌, not, if◌then◌else◌, List, [], ◌∷◌, length, Option, Some, None, is_some, refl, sym, ◌∙◌, ap, arith, ◌⊎◌, inl, inr}
use Rattle.std.proofs.lemmas.Bool.{cases_lt, cases_Bool, false≢true}
use Rattle.page_bitmap.specs.declared.line.Line.{Line}
use Rattle.page_bitmap.specs.declared.line.Line.TheVariants.{Pull}
use Rattle.page_bitmap.specs.Counts.{one_if, count_run}
use Rattle.page_bitmap.specs.CountLaws.{count_below-all, count_below-not, count_below-run, count_below-same}
use Rattle.page_alloc.specs.Lists.{count_below}
use Rattle.page_alloc.specs.Owners.{within, owner, cached, is_held, unscavenged}
use Rattle.page_alloc.specs.FreeRuns.{IsFirstFit}
use Rattle.page_alloc.specs.Blocks.{HasNoBlock, IsLeastBlock}
use Rattle.page_alloc.specs.Journal.{IsBy, KeepsBlocks}
use Rattle.page_alloc.specs.Region.{IsFirstRunIn}
use Rattle.page_alloc.specs.Kept.{IsKept}
use Rattle.page_bitmap.specs.Words.{has_bit}
use Rattle.page_cache.specs.declared.block.Block.{Block}
use Rattle.page_cache.specs.Blocks.{has_page}
use Rattle.page_alloc.proofs.Lives.{within-true, within-false, within-high}
use Rattle.page_alloc.proofs.Words.{pages-are}
use Rattle.page_alloc.proofs.BlocksOut.{legal-more}
use Rattle.page_alloc.proofs.Keeping.{first-fit}

-- a page is held after a Pull where it was before, or is one of the block
held-after : (o c : Option ℕ) (w : Bool) (proc : ℕ)
    → (is_some o || is_some (if w && not (is_some o || is_some c) then Some proc else c)) ≡ ((is_some o || is_some c) || w)
held-after (Some x) c w proc = refl
held-after None (Some y) true proc = refl
held-after None (Some y) false proc = refl
held-after None None true proc = refl
held-after None None false proc = refl

free-after : (f h w : Bool) → f ≡ not h → (f && not w) ≡ not (h || w)
free-after f true w e = rw e refl
free-after f false w e = rw e refl

not-or_true : (b : Bool) → not (b || true) ≡ false
not-or_true true = refl
not-or_true false = refl

not-or_false : (b : Bool) → not b ≡ not (b || false)
not-or_false true = refl
not-or_false false = refl

scavenged-after : (f s h u w : Bool) → f ≡ not h → s ≡ not u → (s && not (w && f)) ≡ not ((w && not h) || u)
scavenged-after f s h true true e d = rw d (sym (not-or_true (not h)))
scavenged-after f s h true false e d = rw d refl
scavenged-after f s h false true e d = rw (d, e) (not-or_false (not h))
scavenged-after f s h false false e d = rw d refl

one-not : (b : Bool) → one_if b + one_if (not b) ≡ 1
one-not true = refl
one-not false = refl

or-true : (b : Bool) → (b || true) ≡ true
or-true true = refl
or-true false = refl

or-false : (b : Bool) → (b || false) ≡ b
or-false true = refl
or-false false = refl

backed-one : (f s h u : Bool) → f ≡ not h → s ≡ not u → one_if (f && s) + one_if (h || u) ≡ 1
backed-one f s true u e d = rw e refl
backed-one f s false true e d = rw (e, d) refl
backed-one f s false false e d = rw (e, d) refl

backed-same : (h w u : Bool) → w ≡ false → ((h || w) || ((w && not h) || u)) ≡ (h || u)
backed-same true w u e = refl
backed-same false w u e = rw e refl

pub kept-pull : {region goal live owned_pages behind : ℕ} {past : List Line} {free scavenged starts : ℕ → Bool} {lengths : List ℕ}
    (free' scavenged' : ℕ → Bool) (cycle proc page n : ℕ)
    → IsKept region goal past free scavenged starts lengths live owned_pages behind → IsBy cycle past → KeepsBlocks past (Pull cycle proc page n) → HasNoBlock past proc → IsLeastBlock region past page n
    → ((p : ℕ) → free' p ≡ (free p && not (within p page 64))) → ((p : ℕ) → scavenged' p ≡ (scavenged p && not (within p page 64 && free p)))
    → IsKept region goal (Pull cycle proc page n ∷ past) free' scavenged' starts lengths live (owned_pages + n) (behind + count_run page 64 (λ p. free p && scavenged p))
kept-pull {region} {goal} {live} {owned_pages} {behind} {past} {free} {scavenged} {starts} {lengths} free' scavenged' cycle proc page n kept by keeps none least frees scavenges =
    let inside = least.inside in
    let old : ℕ → Bool = is_held past in
    let new : ℕ → Bool = is_held (Pull cycle proc page n ∷ past) in
    let old_backed : ℕ → Bool = λ p. is_held past p || unscavenged past p in
    let new_backed : ℕ → Bool = λ p. is_held (Pull cycle proc page n ∷ past) p || unscavenged (Pull cycle proc page n ∷ past) p in
    let held : (p : ℕ) → new p ≡ (is_held past p || within p page 64) = λ p. held-after (owner past p) (cached past p) (within p page 64) proc in
    let in_block : (k : ℕ) → k < 64 → within (page + k) page 64 ≡ true = λ k lt. within-true (page + k) page 64 (omega arith) (omega arith) in
    let new_in : (k : ℕ) → k < 64 → new (page + k) ≡ true = λ k lt. (let w = in_block k lt in held (page + k) ∙ rw w (or-true (is_held past (page + k)))) in
    let outside : (p : ℕ) → (p < page) ⊎ (page + 64 ≤ p) → old p ≡ new p = λ p out. (let w = within-false p page 64 out in sym (held p ∙ rw w (or-false (is_held past p)))) in
    let counted = count_below-run region page 64 old new inside (λ k lt. outside k (inl lt)) (λ k le. outside k (inr le)) in
    let all_after : count_run page 64 new ≡ 64 = count_below-all 64 (λ k. new (page + k)) new_in in
    let parts = count_below-not 64 (λ k. old (page + k)) (λ k. not (is_held past (page + k))) (λ k lt. one-not (is_held past (page + k))) in
    let pulled = least.count in
    let outside_backed : (p : ℕ) → (p < page) ⊎ (page + 64 ≤ p) → old_backed p ≡ new_backed p =
    λ p out. (let w = within-false p page 64 out in let h = held p in sym (rw h (backed-same (is_held past p) (within p page 64) (unscavenged past p) w))) in
    let counted_backed = count_below-run region page 64 old_backed new_backed inside (λ k lt. outside_backed k (inl lt)) (λ k le. outside_backed k (inr le)) in
    let all_backed : count_run page 64 new_backed ≡ 64 = count_below-all 64 (λ k. new_backed (page + k)) (λ k lt. (let h = new_in k lt in rw h refl)) in
    let some_backed = count_below-not 64 (λ k. free (page + k) && scavenged (page + k)) (λ k. old_backed (page + k)) (λ k lt.
    backed-one (free (page + k)) (scavenged (page + k)) (is_held past (page + k)) (unscavenged past (page + k)) (kept.free_pages (page + k) (omega arith)) (kept.scavenged_pages (page + k) (omega arith))) in
    record {
      procs = kept.procs + suc proc;
      legal = ((omega arith, none, least), by, legal-more kept.procs (kept.procs + suc proc) region goal past (omega arith) kept.legal, keeps);
      free_pages = λ p lt. frees p ∙ free-after (free p) (is_held past p) (within p page 64) (kept.free_pages p lt) ∙ ap not (sym (held p));
      scavenged_pages = λ p lt. scavenges p ∙ scavenged-after (free p) (scavenged p) (is_held past p) (unscavenged past p) (within p page 64) (kept.free_pages p lt) (kept.scavenged_pages p lt);
      begins = kept.begins;
      begins_only = kept.begins_only;
      pages = kept.pages;
      lives = kept.lives;
      taken_pages = (let t : owned_pages ≡ count_below region old = kept.taken_pages in omega arith);
      backed_pages = (let b : behind ≡ count_below region old_backed = kept.backed_pages in omega arith);
    }

-- the block of the first free page is the one to pull
pub least-block : {region goal live owned_pages behind : ℕ} {past : List Line} {free scavenged starts : ℕ → Bool} {lengths : List ℕ} (first page n : ℕ)
    → IsKept region goal past free scavenged starts lengths live owned_pages behind → region % 64 ≡ 0 → page ≡ 64 * (first / 64) → IsFirstRunIn free region 1 first
    → n ≡ count_below 64 (λ i. free (page + i)) → IsLeastBlock region past page n
least-block {region} {past = past} {free = free} first page n kept whole is fit count =
    let inside = fit.here.inside in
    record {
      least = first;
      free = first-fit kept fit;
      first = is;
      inside = omega arith;
      count = count ∙ count_below-same 64 (λ i. free (page + i)) (λ i. not (is_held past (page + i))) (λ i lt. kept.free_pages (page + i) (omega arith));
    }

-- below the end of the pulled block no page is free
pub none-below : (free free' : ℕ → Bool) (region first page : ℕ) → page ≡ 64 * (first / 64) → IsFirstRunIn free region 1 first → ((p : ℕ) → free' p ≡ (free p && not (within p page 64)))
    → (p : ℕ) → p < page + 64 → free' p ≡ false
none-below free free' region first page is fit frees p lt =
    elim (cases_lt p page) [
      | inr from ↦ (let w : within p page 64 ≡ true = within-true p page 64 from lt in frees p ∙ rw w (and-false (free p)))
      | inl before ↦ frees p ∙ (let off = not-first before in rw off refl)
    ]
  where
    and-false : (b : Bool) → (b && false) ≡ false
    and-false true = refl
    and-false false = refl

    not-first : p < page → free p ≡ false
    not-first before = elim (cases_Bool (free p)) [
      | inr off ↦ off
      | inl on ↦ absurd (fit.least p (omega arith) (record {
        inside = (let inside = fit.here.inside in omega arith);
        each = λ q low high. (let same : p ≡ q = omega arith in ap free (sym same) ∙ on);
      }))
    ]

-- no page is loose after a pull that was not before
pub pull-loose : (free free' scavenged scavenged' : ℕ → Bool) (page p : ℕ) → ((p : ℕ) → free' p ≡ (free p && not (within p page 64))) → ((p : ℕ) → scavenged' p ≡ (scavenged p && not (within p page 64 && free p)))
    → free p && not (scavenged p) ≡ false → free' p && not (scavenged' p) ≡ false
pull-loose free free' scavenged scavenged' page p frees scavenges old = (let f = frees p in let s = scavenges p in rw (f, s) (loose (free p) (scavenged p) (within p page 64) old))
  where
    loose : (f s w : Bool) → f && not s ≡ false → (f && not w) && not (s && not (w && f)) ≡ false
    loose true s true e = refl
    loose false s true e = refl
    loose true true false e = refl
    loose true false false e = e
    loose false s false e = refl

and-true : (b : Bool) → (b && true) ≡ b
and-true true = refl
and-true false = refl

-- outside the block the free pages are as they were
pub pull-outside : (free free' : ℕ → Bool) (page : ℕ) → ((p : ℕ) → free' p ≡ (free p && not (within p page 64))) → (p : ℕ) → (p < page) ⊎ (page + 64 ≤ p) → free' p ≡ free p
pull-outside free free' page frees p out = (let w = within-false p page 64 out in frees p ∙ rw w (and-true (free p)))

and-false : (b : Bool) → (b && false) ≡ false
and-false true = refl
and-false false = refl

-- the pages of the block are its free ones
pub pulled-pages : {region goal live owned_pages behind n : ℕ} {past : List Line} {free scavenged starts : ℕ → Bool} {lengths : List ℕ} (block : Block)
    → IsKept region goal past free scavenged starts lengths live owned_pages behind → IsLeastBlock region past block.page n → ((k : ℕ) → k < 64 → has_bit block.free k ≡ free (block.page + k))
    → (p : ℕ) → has_page block p ≡ (within p block.page 64 && not (is_held past p))
pulled-pages {past = past} {free = free} block kept least word p =
    let inside = least.inside in
    pages-are free block word p ∙ elim (cases_Bool (within p block.page 64)) [
      | inr isnt ↦ rw isnt (and-false (free p))
      | inl is ↦ (let high = within-high p block.page 64 is in let f = kept.free_pages p (omega arith) in rw (is, f) (and-true (not (is_held past p))))
    ]
