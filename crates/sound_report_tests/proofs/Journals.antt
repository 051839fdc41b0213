-- A test of whether a journal is legal.
use Rattle.std.proofs.Common.{◌≡◌, ℕ, ◌+◌, ◌-◌, ◌*◌, ◌/◌, ◌%◌, ◌<◌, ◌≤◌, Bool, true, false, not, leb, ltb, eqb, List, [], ◌∷◌, refl, sym, subst, ap, arith, ◌⊎◌, Decides, Option, Some, None}
use Rattle.std.proofs.lemmas.Bool.{false≢true, le-leb, leb-true, eqb-true, eq-eqb}
use Rattle.std.proofs.lemmas.Bool.Decides.{Decides-like, Decides-not, Decides-ltb, Decides-eqb}
use Rattle.page_bitmap.specs.declared.line.Line.{Line}
use Rattle.page_bitmap.specs.declared.line.Line.TheVariants.{Take, Miss, Give, Scav, Pull, Cut, Drop}
use Rattle.size_classes.specs.Classes.{pages_of}
use Rattle.page_alloc.specs.Lists.{In, count_below}
use Rattle.page_alloc.specs.Owners.{owner, cached, unscavenged, backed, is_held, is_number, IsUnheld}
use Rattle.page_alloc.specs.Lives.{Life, open_lives}
use Rattle.page_alloc.specs.FreeRuns.{IsFree, IsFirstFit, HasNoRun, IsSpanSize, IsLoose, IsScavengeRun}
use Rattle.page_alloc.specs.Blocks.{OpenBlock, open_blocks, AreOfCycle, HasBlock, HasNoBlock, IsCachedRun, IsFirstCut, IsLeastBlock, pages_left}
use Rattle.page_alloc.specs.Journal.{cycle_of, GoesOn, IsBy, IsCutOrDrop, KeepsBlocks, LegalFor, MayFollowFor}
use Rattle.sound_report_tests.proofs.Tests.{Decides-then, Decides-else, Decides-implies, all_below, any_below, all_in, any_in, all_from, Decides-all, Decides-any, Decides-below, Decides-any_below, Decides-from}

pub Decides-leb : (a b : ℕ) → Decides (leb a b) (a ≤ b)
Decides-leb a b = (λ h. leb-true a b h, λ le. le-leb a b le)

abbrev pub is_nothing : Option ℕ → Bool
is_nothing None = true
is_nothing (Some n) = false

Decides-nothing : (o : Option ℕ) → Decides (is_nothing o) (o ≡ None)
Decides-nothing None = (λ h. refl, λ e. refl)
Decides-nothing (Some n) = (λ h. absurd (false≢true h), λ e. cc)

abbrev pub is_unheld : List Line → ℕ → Bool
is_unheld past p = elim (is_nothing (owner past p)) [ true ↦ is_nothing (cached past p) | false ↦ false ]

Decides-unheld : (past : List Line) (p : ℕ) → Decides (is_unheld past p) (IsUnheld past p)
Decides-unheld past p =
    Decides-like (is_unheld past p)
    (λ (both : (owner past p ≡ None) × (cached past p ≡ None)). record { owner = both.0; cached = both.1 })
    (λ h. (h.owner, h.cached))
    (Decides-then (is_nothing (owner past p)) (is_nothing (cached past p)) (Decides-nothing (owner past p)) (Decides-nothing (cached past p)))

Decides-Bool : (b : Bool) → Decides b (b ≡ true)
Decides-Bool b = (λ h. h, λ h. h)

-- ---- free runs

abbrev pub is_free : ℕ → List Line → ℕ → ℕ → Bool
is_free region past page pages = elim (leb (page + pages) region) [ true ↦ all_from (is_unheld past) page pages | false ↦ false ]

pub Decides-free : (region : ℕ) (past : List Line) (page pages : ℕ) → Decides (is_free region past page pages) (IsFree region past page pages)
Decides-free region past page pages =
    Decides-like (is_free region past page pages)
    (λ (both : (page + pages ≤ region) × ((p : ℕ) → page ≤ p → p < page + pages → IsUnheld past p)). record { inside = both.0; free = both.1 })
    (λ h. (h.inside, h.free))
    (Decides-then (leb (page + pages) region) (all_from (is_unheld past) page pages) (Decides-leb (page + pages) region)
    (Decides-from (is_unheld past) (IsUnheld past) (Decides-unheld past) page pages))

abbrev pub is_first_fit : ℕ → List Line → ℕ → ℕ → Bool
is_first_fit region past page pages = elim (is_free region past page pages) [ true ↦ all_below (λ q. not (is_free region past q pages)) page | false ↦ false ]

pub Decides-first_fit : (region : ℕ) (past : List Line) (page pages : ℕ) → Decides (is_first_fit region past page pages) (IsFirstFit region past page pages)
Decides-first_fit region past page pages =
    Decides-like (is_first_fit region past page pages)
    (λ (both : IsFree region past page pages × ((q : ℕ) → q < page → ¬ IsFree region past q pages)). record { here = both.0; least = both.1 })
    (λ h. (h.here, h.least))
    (Decides-then (is_free region past page pages) (all_below (λ q. not (is_free region past q pages)) page) (Decides-free region past page pages)
    (Decides-below (λ q. not (is_free region past q pages)) (λ q. ¬ IsFree region past q pages) (λ q. Decides-not (is_free region past q pages) (Decides-free region past q pages)) page))

abbrev pub has_no_run : ℕ → List Line → ℕ → Bool
has_no_run region past pages = all_below (λ q. not (is_free region past q pages)) (region + 1 - pages)

pub Decides-no_run : (region : ℕ) (past : List Line) (pages : ℕ) → Decides (has_no_run region past pages) (HasNoRun region past pages)
Decides-no_run region past pages =
    Decides-like (has_no_run region past pages)
    (λ (below : (q : ℕ) → q < region + 1 - pages → ¬ IsFree region past q pages). λ page free. (let room = free.inside in below page (omega arith) free))
    (λ h. λ q lt. h q)
    (Decides-below (λ q. not (is_free region past q pages)) (λ q. ¬ IsFree region past q pages) (λ q. Decides-not (is_free region past q pages) (Decides-free region past q pages)) (region + 1 - pages))

-- ---- spans

abbrev pub is_class : ℕ → Bool
is_class class = elim (leb 1 class) [ true ↦ leb class 67 | false ↦ false ]

abbrev pub is_small_size : ℕ → ℕ → Bool
is_small_size class pages = elim (leb 2 class) [ true ↦ elim (is_class (class / 2)) [ true ↦ eqb pages (pages_of (class / 2)) | false ↦ false ] | false ↦ true ]

abbrev pub is_large_size : ℕ → ℕ → Bool
is_large_size class pages = elim (ltb class 2) [ true ↦ leb 5 pages | false ↦ true ]

abbrev pub is_span_size : ℕ → ℕ → Bool
is_span_size class pages = elim (is_small_size class pages) [ true ↦ is_large_size class pages | false ↦ false ]

pub Decides-span_size : (class pages : ℕ) → Decides (is_span_size class pages) (IsSpanSize class pages)
Decides-span_size class pages =
    Decides-then (is_small_size class pages) (is_large_size class pages)
    (Decides-implies (leb 2 class) (elim (is_class (class / 2)) [ true ↦ eqb pages (pages_of (class / 2)) | false ↦ false ]) (Decides-leb 2 class)
    (Decides-then (is_class (class / 2)) (eqb pages (pages_of (class / 2)))
    (Decides-then (leb 1 (class / 2)) (leb (class / 2) 67) (Decides-leb 1 (class / 2)) (Decides-leb (class / 2) 67))
    (Decides-eqb pages (pages_of (class / 2)))))
    (Decides-implies (ltb class 2) (leb 5 pages) (Decides-ltb class 2) (Decides-leb 5 pages))

-- ---- scavenging

abbrev pub is_loose : List Line → ℕ → Bool
is_loose past p = elim (is_unheld past p) [ true ↦ unscavenged past p | false ↦ false ]

pub Decides-loose : (past : List Line) (p : ℕ) → Decides (is_loose past p) (IsLoose past p)
Decides-loose past p = Decides-then (is_unheld past p) (unscavenged past p) (Decides-unheld past p) (Decides-Bool (unscavenged past p))

abbrev pub is_cut_off : List Line → ℕ → Bool
is_cut_off past page = elim (eqb (page % 512) 0) [ true ↦ true | false ↦ not (is_loose past (page - 1)) ]

abbrev pub is_longest : List Line → ℕ → ℕ → Bool
is_longest past page pages = elim (eqb pages 64) [ true ↦ true | false ↦ is_cut_off past page ]

abbrev pub is_top : ℕ → List Line → ℕ → ℕ → Bool
is_top region past page pages = elim (all_from (λ p. not (is_loose past p)) (page + pages) (region - (page + pages))) [ true ↦ elim (eqb (page / 512) ((page + pages - 1) / 512)) [ true ↦ is_longest past page pages | false ↦ false ] | false ↦ false ]

abbrev pub is_loose_run : ℕ → List Line → ℕ → ℕ → Bool
is_loose_run region past page pages = elim (leb pages 64) [ true ↦ elim (all_from (is_loose past) page pages) [ true ↦ is_top region past page pages | false ↦ false ] | false ↦ false ]

abbrev pub is_scavenge_run : ℕ → List Line → ℕ → ℕ → Bool
is_scavenge_run region past page pages = elim (leb (page + pages) region) [ true ↦ elim (leb 1 pages) [ true ↦ is_loose_run region past page pages | false ↦ false ] | false ↦ false ]

Decides-longest : (past : List Line) (page pages : ℕ) → Decides (is_longest past page pages) ((pages ≡ 64) ⊎ ((page % 512 ≡ 0) ⊎ (¬ IsLoose past (page - 1))))
Decides-longest past page pages =
    Decides-else (eqb pages 64) (is_cut_off past page) (Decides-eqb pages 64)
    (Decides-else (eqb (page % 512) 0) (not (is_loose past (page - 1))) (Decides-eqb (page % 512) 0) (Decides-not (is_loose past (page - 1)) (Decides-loose past (page - 1))))

pub Decides-scavenge_run : (region : ℕ) (past : List Line) (page pages : ℕ) → Decides (is_scavenge_run region past page pages) (IsScavengeRun region past page pages)
Decides-scavenge_run region past page pages =
    let highest : Decides (all_from (λ p. not (is_loose past p)) (page + pages) (region - (page + pages))) ((p : ℕ) → page + pages ≤ p → p < page + pages + (region - (page + pages)) → ¬ IsLoose past p) =
    Decides-from (λ p. not (is_loose past p)) (λ p. ¬ IsLoose past p) (λ p. Decides-not (is_loose past p) (Decides-loose past p)) (page + pages) (region - (page + pages)) in
    Decides-like (is_scavenge_run region past page pages)
    (λ (h : (page + pages ≤ region) × ((1 ≤ pages) × ((pages ≤ 64) × (((p : ℕ) → page ≤ p → p < page + pages → IsLoose past p)
    × (((p : ℕ) → page + pages ≤ p → p < page + pages + (region - (page + pages)) → ¬ IsLoose past p)
    × ((page / 512 ≡ (page + pages - 1) / 512) × ((pages ≡ 64) ⊎ ((page % 512 ≡ 0) ⊎ (¬ IsLoose past (page - 1)))))))))).
    (let inside = h.0 in record {
      inside = h.0;
      some = h.1.0;
      few = h.1.1.0;
      loose = h.1.1.1.0;
      highest = λ p low high. h.1.1.1.1.0 p low (omega arith);
      chunk = h.1.1.1.1.1.0;
      longest = h.1.1.1.1.1.1;
    }))
    (λ h. (let inside = h.inside in (h.inside, (h.some, (h.few, (h.loose, ((λ p low high. h.highest p low (omega arith)), (h.chunk, h.longest))))))))
    (Decides-then (leb (page + pages) region) (elim (leb 1 pages) [ true ↦ is_loose_run region past page pages | false ↦ false ]) (Decides-leb (page + pages) region)
    (Decides-then (leb 1 pages) (is_loose_run region past page pages) (Decides-leb 1 pages)
    (Decides-then (leb pages 64) (elim (all_from (is_loose past) page pages) [ true ↦ is_top region past page pages | false ↦ false ]) (Decides-leb pages 64)
    (Decides-then (all_from (is_loose past) page pages) (is_top region past page pages) (Decides-from (is_loose past) (IsLoose past) (Decides-loose past) page pages)
    (Decides-then (all_from (λ p. not (is_loose past p)) (page + pages) (region - (page + pages))) (elim (eqb (page / 512) ((page + pages - 1) / 512)) [ true ↦ is_longest past page pages | false ↦ false ]) highest
    (Decides-then (eqb (page / 512) ((page + pages - 1) / 512)) (is_longest past page pages) (Decides-eqb (page / 512) ((page + pages - 1) / 512)) (Decides-longest past page pages)))))))

-- ---- blocks

abbrev pub are_of_cycle : ℕ → List Line → Bool
are_of_cycle c past = all_in (λ (block : OpenBlock). eqb block.cycle c) (open_blocks past)

Decides-of_cycle : (c : ℕ) (past : List Line) → Decides (are_of_cycle c past) (AreOfCycle c past)
Decides-of_cycle c past = Decides-all (λ (block : OpenBlock). eqb block.cycle c) (λ block. block.cycle ≡ c) (open_blocks past) (λ block i. Decides-eqb block.cycle c)

abbrev pub has_no_block : List Line → ℕ → Bool
has_no_block past proc = all_in (λ (block : OpenBlock). not (eqb block.proc proc)) (open_blocks past)

Decides-no_block : (past : List Line) (proc : ℕ) → Decides (has_no_block past proc) (HasNoBlock past proc)
Decides-no_block past proc =
    Decides-all (λ (block : OpenBlock). not (eqb block.proc proc)) (λ block. ¬ (block.proc ≡ proc)) (open_blocks past) (λ block i. Decides-not (eqb block.proc proc) (Decides-eqb block.proc proc))

abbrev pub is_block : ℕ → ℕ → OpenBlock → Bool
is_block proc page block = elim (eqb block.proc proc) [ true ↦ eqb block.page page | false ↦ false ]

abbrev pub has_block : List Line → ℕ → ℕ → Bool
has_block past proc page = any_in (is_block proc page) (open_blocks past)

Decides-block : (past : List Line) (proc page : ℕ) → Decides (has_block past proc page) (HasBlock past proc page)
Decides-block past proc page =
    Decides-like (has_block past proc page)
    (λ (h : (block : OpenBlock) × In block (open_blocks past) × ((block.proc ≡ proc) × (block.page ≡ page))). record { block = h.0; out = h.1; of_proc = h.2.0; first = h.2.1 })
    (λ h. (h.block, h.out, (h.of_proc, h.first)))
    (Decides-any (is_block proc page) (λ block. (block.proc ≡ proc) × (block.page ≡ page)) (open_blocks past)
    (λ block i. Decides-then (eqb block.proc proc) (eqb block.page page) (Decides-eqb block.proc proc) (Decides-eqb block.page page)))

-- the page that many pages behind the block's first one is the least free page
abbrev pub is_least_free : ℕ → List Line → ℕ → ℕ → Bool
is_least_free region past page k = elim (eqb page (64 * ((page + k) / 64))) [ true ↦ is_first_fit region past (page + k) 1 | false ↦ false ]

abbrev pub is_whole_block : ℕ → List Line → ℕ → ℕ → Bool
is_whole_block region past page pages = elim (leb (page + 64) region) [ true ↦ eqb pages (count_below 64 (λ i. not (is_held past (page + i)))) | false ↦ false ]

abbrev pub is_least_block : ℕ → List Line → ℕ → ℕ → Bool
is_least_block region past page pages = elim (any_below (is_least_free region past page) 64) [ true ↦ is_whole_block region past page pages | false ↦ false ]

abbrev IsLeastFree : ℕ → List Line → ℕ → ℕ → Type 0
IsLeastFree region past page k = (page ≡ 64 * ((page + k) / 64)) × IsFirstFit region past (page + k) 1

behind-page : (least page : ℕ) → page ≡ 64 * (least / 64) → (least % 64 < 64) × (page + least % 64 ≡ least)
behind-page least page e = (omega arith, omega arith)

Decides-least_block : (region : ℕ) (past : List Line) (page pages : ℕ) → Decides (is_least_block region past page pages) (IsLeastBlock region past page pages)
Decides-least_block region past page pages =
    Decides-like (is_least_block region past page pages)
    (λ (h : ((k : ℕ) × (k < 64) × IsLeastFree region past page k) × ((page + 64 ≤ region) × (pages ≡ count_below 64 (λ i. not (is_held past (page + i)))))).
    record { least = page + h.0.0; free = h.0.2.1; first = h.0.2.0; inside = h.1.0; count = h.1.1 })
    (λ h. (let at = behind-page h.least page h.first in (
      (h.least % 64, at.0, (subst (λ (n : ℕ). page ≡ 64 * (n / 64)) (sym at.1) h.first, subst (λ (n : ℕ). IsFirstFit region past n 1) (sym at.1) h.free)),
      (h.inside, h.count),
    )))
    (Decides-then (any_below (is_least_free region past page) 64) (is_whole_block region past page pages)
    (Decides-any_below (is_least_free region past page) (IsLeastFree region past page)
    (λ k. Decides-then (eqb page (64 * ((page + k) / 64))) (is_first_fit region past (page + k) 1) (Decides-eqb page (64 * ((page + k) / 64))) (Decides-first_fit region past (page + k) 1)) 64)
    (Decides-then (leb (page + 64) region) (eqb pages (count_below 64 (λ i. not (is_held past (page + i))))) (Decides-leb (page + 64) region)
    (Decides-eqb pages (count_below 64 (λ i. not (is_held past (page + i)))))))

Decides-number : (n : ℕ) (o : Option ℕ) → Decides (is_number n o) (o ≡ Some n)
Decides-number n None = (λ h. absurd (false≢true h), λ e. cc)
Decides-number n (Some m) = (λ h. ap (λ (k : ℕ). Some k) (eqb-true m n h), λ e. (let same : m ≡ n = cc in eq-eqb m n same))

abbrev pub is_cached_run : List Line → ℕ → ℕ → ℕ → Bool
is_cached_run past proc page pages = all_from (λ p. is_number proc (cached past p)) page pages

Decides-cached_run : (past : List Line) (proc page pages : ℕ) → Decides (is_cached_run past proc page pages) (IsCachedRun past proc page pages)
Decides-cached_run past proc page pages = Decides-from (λ p. is_number proc (cached past p)) (λ p. cached past p ≡ Some proc) (λ p. Decides-number proc (cached past p)) page pages

abbrev pub is_first_cut : List Line → ℕ → ℕ → ℕ → Bool
is_first_cut past proc page pages = elim (is_cached_run past proc page pages) [ true ↦ all_below (λ q. not (is_cached_run past proc q pages)) page | false ↦ false ]

Decides-first_cut : (past : List Line) (proc page pages : ℕ) → Decides (is_first_cut past proc page pages) (IsFirstCut past proc page pages)
Decides-first_cut past proc page pages =
    Decides-like (is_first_cut past proc page pages)
    (λ (h : IsCachedRun past proc page pages × ((q : ℕ) → q < page → ¬ IsCachedRun past proc q pages)). record { here = h.0; least = h.1 })
    (λ h. (h.here, h.least))
    (Decides-then (is_cached_run past proc page pages) (all_below (λ q. not (is_cached_run past proc q pages)) page) (Decides-cached_run past proc page pages)
    (Decides-below (λ q. not (is_cached_run past proc q pages)) (λ q. ¬ IsCachedRun past proc q pages) (λ q. Decides-not (is_cached_run past proc q pages) (Decides-cached_run past proc q pages)) page))

abbrev pub is_cut_or_drop : ℕ → Line → Bool
is_cut_or_drop q (Take cycle page pages class) = false
is_cut_or_drop q (Miss cycle pages class) = false
is_cut_or_drop q (Give cycle page pages) = false
is_cut_or_drop q (Scav cycle page pages) = false
is_cut_or_drop q (Pull cycle proc page pages) = false
is_cut_or_drop q (Cut cycle proc page pages class) = eqb proc q
is_cut_or_drop q (Drop cycle proc page pages) = eqb proc q

Decides-cut_or_drop : (q : ℕ) (line : Line) → Decides (is_cut_or_drop q line) (IsCutOrDrop q line)
Decides-cut_or_drop q (Take cycle page pages class) = (λ h. absurd (false≢true h), λ never. absurd never)
Decides-cut_or_drop q (Miss cycle pages class) = (λ h. absurd (false≢true h), λ never. absurd never)
Decides-cut_or_drop q (Give cycle page pages) = (λ h. absurd (false≢true h), λ never. absurd never)
Decides-cut_or_drop q (Scav cycle page pages) = (λ h. absurd (false≢true h), λ never. absurd never)
Decides-cut_or_drop q (Pull cycle proc page pages) = (λ h. absurd (false≢true h), λ never. absurd never)
Decides-cut_or_drop q (Cut cycle proc page pages class) = Decides-eqb proc q
Decides-cut_or_drop q (Drop cycle proc page pages) = Decides-eqb proc q

abbrev pub goes_on : List Line → Line → Bool
goes_on [] line = true
goes_on (Take cycle page pages class ∷ past) line = true
goes_on (Miss cycle pages class ∷ past) line = true
goes_on (Give cycle page pages ∷ past) line = true
goes_on (Scav cycle page pages ∷ past) line = true
goes_on (Pull cycle proc page pages ∷ past) line = true
goes_on (Cut cycle proc page pages class ∷ past) line = is_cut_or_drop proc line
goes_on (Drop cycle proc page pages ∷ past) line = true

Decides-goes_on : (past : List Line) (line : Line) → Decides (goes_on past line) (GoesOn past line)
Decides-goes_on [] line = (λ h. tt, λ h. refl)
Decides-goes_on (Take cycle page pages class ∷ past) line = (λ h. tt, λ h. refl)
Decides-goes_on (Miss cycle pages class ∷ past) line = (λ h. tt, λ h. refl)
Decides-goes_on (Give cycle page pages ∷ past) line = (λ h. tt, λ h. refl)
Decides-goes_on (Scav cycle page pages ∷ past) line = (λ h. tt, λ h. refl)
Decides-goes_on (Pull cycle proc page pages ∷ past) line = (λ h. tt, λ h. refl)
Decides-goes_on (Cut cycle proc page pages class ∷ past) line = Decides-cut_or_drop proc line
Decides-goes_on (Drop cycle proc page pages ∷ past) line = (λ h. tt, λ h. refl)

abbrev pub keeps_blocks : List Line → Line → Bool
keeps_blocks past line = elim (are_of_cycle (cycle_of line) past) [ true ↦ goes_on past line | false ↦ false ]

Decides-keeps_blocks : (past : List Line) (line : Line) → Decides (keeps_blocks past line) (KeepsBlocks past line)
Decides-keeps_blocks past line =
    Decides-like (keeps_blocks past line)
    (λ (h : AreOfCycle (cycle_of line) past × GoesOn past line). record { cycle = h.0; cuts = h.1 })
    (λ h. (h.cycle, h.cuts))
    (Decides-then (are_of_cycle (cycle_of line) past) (goes_on past line) (Decides-of_cycle (cycle_of line) past) (Decides-goes_on past line))

-- ---- lines

abbrev pub is_span : ℕ → ℕ → Life → Bool
is_span page pages life = elim (eqb life.page page) [ true ↦ eqb life.pages pages | false ↦ false ]

abbrev pub may_cut : List Line → ℕ → ℕ → ℕ → ℕ → Bool
may_cut past proc page pages class = elim (ltb pages 16) [ true ↦ elim (is_span_size class pages) [ true ↦ is_first_cut past proc page pages | false ↦ false ] | false ↦ false ]

abbrev pub may_follow : ℕ → ℕ → ℕ → List Line → Line → Bool
may_follow procs region goal past (Take cycle page pages class) = elim (is_span_size class pages) [ true ↦ is_first_fit region past page pages | false ↦ false ]
may_follow procs region goal past (Miss cycle pages class) = elim (leb 1 pages) [ true ↦ has_no_run region past pages | false ↦ false ]
may_follow procs region goal past (Give cycle page pages) = any_in (is_span page pages) (open_lives past)
may_follow procs region goal past (Scav cycle page pages) = elim (ltb goal (backed region past)) [ true ↦ is_scavenge_run region past page pages | false ↦ false ]
may_follow procs region goal past (Pull cycle proc page pages) =
    elim (ltb proc procs) [ true ↦ elim (has_no_block past proc) [ true ↦ is_least_block region past page pages | false ↦ false ] | false ↦ false ]
may_follow procs region goal past (Cut cycle proc page pages class) = elim (ltb proc procs) [ true ↦ may_cut past proc page pages class | false ↦ false ]
may_follow procs region goal past (Drop cycle proc page pages) =
    elim (ltb proc procs) [ true ↦ elim (has_block past proc page) [ true ↦ eqb pages (pages_left past proc page) | false ↦ false ] | false ↦ false ]

pub Decides-follow : (procs region goal : ℕ) (past : List Line) (line : Line) → Decides (may_follow procs region goal past line) (MayFollowFor procs region goal past line)
Decides-follow procs region goal past (Take cycle page pages class) = Decides-then (is_span_size class pages) (is_first_fit region past page pages) (Decides-span_size class pages) (Decides-first_fit region past page pages)
Decides-follow procs region goal past (Miss cycle pages class) = Decides-then (leb 1 pages) (has_no_run region past pages) (Decides-leb 1 pages) (Decides-no_run region past pages)
Decides-follow procs region goal past (Give cycle page pages) =
    Decides-like (any_in (is_span page pages) (open_lives past))
    (λ (h : (life : Life) × In life (open_lives past) × ((life.page ≡ page) × (life.pages ≡ pages))). (h.0, h.1, h.2.0, h.2.1))
    (λ h. (h.0, h.1, (h.2, h.3)))
    (Decides-any (is_span page pages) (λ life. (life.page ≡ page) × (life.pages ≡ pages)) (open_lives past)
    (λ life i. Decides-then (eqb life.page page) (eqb life.pages pages) (Decides-eqb life.page page) (Decides-eqb life.pages pages)))
Decides-follow procs region goal past (Scav cycle page pages) =
    Decides-then (ltb goal (backed region past)) (is_scavenge_run region past page pages) (Decides-ltb goal (backed region past)) (Decides-scavenge_run region past page pages)
Decides-follow procs region goal past (Pull cycle proc page pages) =
    Decides-like (may_follow procs region goal past (Pull cycle proc page pages))
    (λ (h : (proc < procs) × (HasNoBlock past proc × IsLeastBlock region past page pages)). (h.0, h.1.0, h.1.1))
    (λ h. (h.0, (h.1, h.2)))
    (Decides-then (ltb proc procs) (elim (has_no_block past proc) [ true ↦ is_least_block region past page pages | false ↦ false ]) (Decides-ltb proc procs)
    (Decides-then (has_no_block past proc) (is_least_block region past page pages) (Decides-no_block past proc) (Decides-least_block region past page pages)))
Decides-follow procs region goal past (Cut cycle proc page pages class) =
    Decides-like (may_follow procs region goal past (Cut cycle proc page pages class))
    (λ (h : (proc < procs) × ((pages < 16) × (IsSpanSize class pages × IsFirstCut past proc page pages))). (h.0, h.1.0, h.1.1.0, h.1.1.1))
    (λ h. (h.0, (h.1, (h.2, h.3))))
    (Decides-then (ltb proc procs) (may_cut past proc page pages class) (Decides-ltb proc procs)
    (Decides-then (ltb pages 16) (elim (is_span_size class pages) [ true ↦ is_first_cut past proc page pages | false ↦ false ]) (Decides-ltb pages 16)
    (Decides-then (is_span_size class pages) (is_first_cut past proc page pages) (Decides-span_size class pages) (Decides-first_cut past proc page pages))))
Decides-follow procs region goal past (Drop cycle proc page pages) =
    Decides-like (may_follow procs region goal past (Drop cycle proc page pages))
    (λ (h : (proc < procs) × (HasBlock past proc page × (pages ≡ pages_left past proc page))). (h.0, h.1.0, h.1.1))
    (λ h. (h.0, (h.1, h.2)))
    (Decides-then (ltb proc procs) (elim (has_block past proc page) [ true ↦ eqb pages (pages_left past proc page) | false ↦ false ]) (Decides-ltb proc procs)
    (Decides-then (has_block past proc page) (eqb pages (pages_left past proc page)) (Decides-block past proc page) (Decides-eqb pages (pages_left past proc page))))

abbrev pub is_by : ℕ → List Line → Bool
is_by c [] = true
is_by c (line ∷ past) = leb (cycle_of line) c

pub Decides-by : (c : ℕ) (past : List Line) → Decides (is_by c past) (IsBy c past)
Decides-by c [] = (λ h. tt, λ h. refl)
Decides-by c (line ∷ past) = Decides-leb (cycle_of line) c

abbrev pub is_in_turn : List Line → Line → Bool
is_in_turn past line = elim (is_by (cycle_of line) past) [ true ↦ keeps_blocks past line | false ↦ false ]

abbrev pub is_legal : ℕ → ℕ → ℕ → List Line → Bool
is_legal procs region goal [] = true
is_legal procs region goal (line ∷ past) =
    elim (may_follow procs region goal past line) [ true ↦ elim (is_in_turn past line) [ true ↦ is_legal procs region goal past | false ↦ false ] | false ↦ false ]

pub Decides-legal : (procs region goal : ℕ) (past : List Line) → Decides (is_legal procs region goal past) (LegalFor procs region goal past)
Decides-legal procs region goal [] = (λ h. tt, λ h. refl)
Decides-legal procs region goal (line ∷ past) =
    Decides-like (is_legal procs region goal (line ∷ past))
    (λ (h : MayFollowFor procs region goal past line × ((IsBy (cycle_of line) past × KeepsBlocks past line) × LegalFor procs region goal past)). (h.0, h.1.0.0, h.1.1, h.1.0.1))
    (λ h. (h.0, ((h.1, h.3), h.2)))
    (Decides-then (may_follow procs region goal past line) (elim (is_in_turn past line) [ true ↦ is_legal procs region goal past | false ↦ false ]) (Decides-follow procs region goal past line)
    (Decides-then (is_in_turn past line) (is_legal procs region goal past)
    (Decides-then (is_by (cycle_of line) past) (keeps_blocks past line) (Decides-by (cycle_of line) past) (Decides-keeps_blocks past line))
    (Decides-legal procs region goal past)))

abbrev pub has_no_blocks : List OpenBlock → Bool
has_no_blocks [] = true
has_no_blocks (block ∷ blocks) = false

pub Decides-no_blocks : (blocks : List OpenBlock) → Decides (has_no_blocks blocks) (blocks ≡ [])
Decides-no_blocks [] = (λ h. refl, λ e. refl)
Decides-no_blocks (block ∷ blocks) = (λ h. absurd (false≢true h), λ e. cc)
