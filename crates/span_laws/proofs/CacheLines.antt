-- Page caches and the journal: which pages are free in both, what pulling a block takes, and what settling one asks and writes.
use Rattle.std.proofs.Common.{◌≡◌, ℕ, zero, suc, ◌+◌, ◌-◌, ◌*◌, ◌/◌, ◌<◌, ◌≤◌, inl, inr, Bool, true, false, true≢false, cond, ◌&&◌, ◌||◌, not, List, [], ◌∷◌, ◌++◌, map, length, get_or, sym, refl, ap, ◌∙◌, subst, arith}
use Rattle.std.specs.Prelude.{Option, Some, None, IfSome}
use Rattle.std.specs.Option.{is_some}
use Rattle.std.specs.List.{filter, find, range_with_len}
use Rattle.std.proofs.lemmas.Bool.{cases_eq, cases_Bool}
use Rattle.std.proofs.lemmas.List.{length-append, length-map}
use Rattle.std.proofs.Math.Nat.{min-eq_left}
use Rattle.page_bitmap.specs.declared.line.Line.{Line}
use Rattle.page_bitmap.specs.declared.line.Line.TheVariants.{Drop}
use Rattle.page_alloc.specs.Owners.{IsUnheld, cached, is_held, owner, within}
use Rattle.page_alloc.specs.Blocks.{AreOfCycle, HasNoBlock, IsLeastBlock}
use Rattle.page_alloc.specs.Cuts.{IsCutFrom, Settles, behind_cuts, cache_of}
use Rattle.page_alloc.specs.Heap.{PageHeap}
use Rattle.page_alloc.specs.Journal.{AreAllowed}
use Rattle.page_alloc.specs.FreeRuns.{IsFirstFit}
use Rattle.page_alloc.proofs.Cutting.{cuts-after}
use Rattle.page_cache.specs.declared.block.Block.{Block}
use Rattle.page_cache.specs.declared.block.CutNote.{CutNote}
use Rattle.page_cache.specs.Blocks.{has_page, page_count}
use Rattle.page_cache.specs.Cache.{Cache, in_block}
use Rattle.page_cache.specs.Counts.{count_below, one_if as page_one}
use Rattle.page_cache.proofs.Sums.{count_below-same}
use Rattle.sweep_laws.specs.State.{CoreState}
use Rattle.sweep_laws.specs.Counts.{one_if, times}
use Rattle.sweep_laws.specs.Lists.{erase}
use Rattle.sweep_laws.specs.Named.{pullers}
use Rattle.sweep_laws.specs.Owned.{Owned}
use Rattle.sweep_laws.specs.Reading.{block_length, block_start, free_block, free_with, hand_of, is_free_page, least_free}
use Rattle.sweep_laws.proofs.Naming.{times_erase, times_erase_else}
use Rattle.sweep_laws.proofs.NeedsMet.{some_none}
use Rattle.sweep_laws.proofs.PulledPages.{free_page, page_free}
use Rattle.sweep_laws.proofs.Totals.{other_one, same_one}
use Rattle.run_laws.specs.Blocks.{CutOut, OutBlock, cut_line, cut_times, cuts_in, cuts_of, out_of, pages_cut, settled_lines}
use Rattle.run_laws.specs.CycleSoFar.{CycleSoFar, past_after}
use Rattle.run_laws.specs.Known.{KnowsBlocks}
use Rattle.run_laws.specs.ShowsBlocks.{ShowsBlocks}
use Rattle.run_laws.proofs.BlockMoves.{erase_shorter}
use Rattle.run_laws.proofs.BlockPulls.{free_unheld, unheld_free}
use Rattle.run_laws.proofs.BlocksKept.{within_in}
use Rattle.span_laws.specs.declared.view.Part.{Part}
use Rattle.span_laws.specs.Caches.{CacheTells, HasBlockOut, IsCacheOf, noted}
use Rattle.span_laws.specs.OwnSteps.{pages_of}
use Rattle.span_laws.proofs.Caches.{block-times, cuts-alike, cuts-sum}

-- ---- free pages

-- a search through numbers that pass from one on finds it
first_in_range : (test : ℕ → Bool) (a n q : ℕ) → a ≤ q → q < a + n → test q ≡ true → ((p : ℕ) → a ≤ p → p < q → test p ≡ false) → find test (range_with_len a n) ≡ Some q
first_in_range test a zero q low high on off = absurd (omega arith)
first_in_range test a (suc n) q low high on off = elim (cases_eq a q) [
  | inl here ↦ (let on' : test a ≡ true = ap test here ∙ on in rw on' (ap (λ (x : ℕ). Some x) here))
  | inr there ↦ (
      let off' : test a ≡ false = off a (omega arith) (omega arith) in
      rw off' (first_in_range test (a + 1) n q (omega arith) (omega arith) on (λ p l u. off p (omega arith) u)))
]

-- tests that agree on a range let the same numbers through
filter_same : (t u : ℕ → Bool) (a n : ℕ) → ((q : ℕ) → a ≤ q → q < a + n → t q ≡ u q) → filter t (range_with_len a n) ≡ filter u (range_with_len a n)
filter_same t u a zero same = refl
filter_same t u a (suc n) same =
    let here = same a (omega arith) (omega arith) in
    let rest = filter_same t u (a + 1) n (λ q l h. same q (omega arith) (omega arith)) in
    λ i. cond (here i) (a ∷ rest i) (rest i)

-- whether a span or a page cache has a page
unheld-not : (past : List Line) (q : ℕ) → IsUnheld past q → is_held past q ≡ false
unheld-not past q u = λ i. is_some (u.owner i) || is_some (u.cached i)

pub not-held : (past : List Line) (q : ℕ) → is_held past q ≡ false → IsUnheld past q
not-held past q off = record { owner = none_of (owner past q) (cached past q) off; cached = none_too (owner past q) (cached past q) off }
  where
    none_of : (x y : Option ℕ) → is_some x || is_some y ≡ false → x ≡ None
    none_of None y f = refl
    none_of (Some n) y f = absurd (true≢false f)

    none_too : (x y : Option ℕ) → is_some x || is_some y ≡ false → y ≡ None
    none_too None None f = refl
    none_too None (Some n) f = absurd (true≢false f)
    none_too (Some n) y f = absurd (true≢false f)

module _ (c : CoreState) (e : CycleSoFar) (now : ShowsBlocks c e) (o : Owned c) where
  -- a page that nobody has by the journal is free in the core
  pub free_in_core : (p : ℕ) → p < length c.words → IsUnheld (past_after e) p → (get_or c.owners p None ≡ None) × (pullers p c.hands ≡ 0)
  free_in_core p low u = free_page c.owners c.hands p (unheld_free c e now o p low u)

  -- a page that is free in the core nobody has by the journal
  pub held_in_core : (p : ℕ) → p < length c.words → get_or c.owners p None ≡ None → pullers p c.hands ≡ 0 → IsUnheld (past_after e) p
  held_in_core p low free none = free_unheld c e now o p low (page_free c.owners c.hands p free none)

  -- a page is free in the core exactly where nobody has it by the journal
  pub free_as_held : (p : ℕ) → p < length c.words → is_free_page c p ≡ not (is_held (past_after e) p)
  free_as_held p low = elim (cases_Bool (is_free_page c p)) [
    | inl on ↦ on ∙ sym (ap not (unheld-not (past_after e) p (free_unheld c e now o p low on)))
    | inr off ↦ elim (cases_Bool (is_held (past_after e) p)) [
      | inl held ↦ off ∙ sym (ap not held)
      | inr unheld ↦ absurd (true≢false (sym (unheld_free c e now o p low (not-held (past_after e) p unheld)) ∙ off))
    ]
  ]

  -- the least free page of the journal is that of the core
  pub least-is : (page : ℕ) → IsFirstFit (length c.words) (past_after e) page 1 → least_free c ≡ Some page
  least-is page fit =
      let inside = fit.here.inside in
      first_in_range (is_free_page c) 0 (length c.words) page (omega arith) (omega arith) (unheld_free c e now o page (omega arith) (fit.here.free page (omega arith) (omega arith)))
      (λ p l u. elim (cases_Bool (is_free_page c p)) [
        | inr off ↦ off
        | inl on ↦ absurd (fit.least p u (record {
          inside = omega arith;
          free = λ q a b. subst (λ (y : ℕ). IsUnheld (past_after e) y) (let z : p ≡ q = omega arith in z) (free_unheld c e now o p (omega arith) on);
        }))
      ])

  -- a block of all free pages of the block to pull has those that the core pulls
  pub block-pages : (block : Block) → IsLeastBlock (length c.words) (past_after e) block.page (page_count block) → ((p : ℕ) → has_page block p ≡ (within p block.page 64 && not (is_held (past_after e) p)))
      → pages_of block ≡ free_block c
  block-pages block least pages =
      let inside = least.inside in let first = least.first in
      let start : block_start least.least ≡ block.page = omega arith in
      let long : block_length (length c.words) least.least ≡ 64 = min-eq_left (let z : 64 ≤ length c.words - least.least / 64 * 64 = omega arith in z) in
      filter_same (has_page block) (is_free_page c) block.page 64 (λ q l h. pages q ∙ ap (λ (b : Bool). b && not (is_held (past_after e) q)) (within_in q block.page 64 l h) ∙ sym (free_as_held q (omega arith)))
      ∙ sym (ap (free_with c) (least-is least.least least.free) ∙ (λ i. filter (is_free_page c) (range_with_len (start i) (long i))))

-- ---- how many pages a block has

-- a count that begins with the first number
count_first : (n : ℕ) (test : ℕ → Bool) → count_below (suc n) test ≡ page_one (test 0) + count_below n (λ i. test (suc i))
unfolding count_below
count_first zero test = refl
count_first (suc n) test = let r = count_first n test in omega arith

range_count : (test : ℕ → Bool) (a n : ℕ) → length (filter test (range_with_len a n)) ≡ count_below n (λ i. test (a + i))
unfolding count_below
range_count test a zero = refl
range_count test a (suc n) =
    let r = range_count test (a + 1) n in
    let f = count_first n (λ i. test (a + i)) in
    let s = count_below-same n (λ i. test (a + 1 + i)) (λ i. test (a + suc i)) (λ i low. ap test (let z : a + 1 + i ≡ a + suc i = omega arith in z)) in
    let h : test a ≡ test (a + 0) = ap test (let z : a ≡ a + 0 = omega arith in z) in
    let g = go (test a) in let y = ap (λ (b : Bool). page_one b) h in omega arith
  where
    go : (b : Bool) → length (cond b (a ∷ filter test (range_with_len (a + 1) n)) (filter test (range_with_len (a + 1) n))) ≡ page_one b + length (filter test (range_with_len (a + 1) n))
    go true = omega arith
    go false = omega arith

-- lists that name each number as often are as long
same_length : (xs ys : List ℕ) → ((p : ℕ) → times p xs ≡ times p ys) → length xs ≡ length ys
same_length [] [] same = refl
same_length [] (y ∷ ys) same = let a = same y in let b = same_one y in absurd (omega arith)
same_length (x ∷ xs) ys same =
    let s = same x in let one = same_one x in
    let r = same_length xs (erase x ys) (λ p. elim (cases_eq p x) [
      | inl here ↦ subst (λ (q : ℕ). times q xs ≡ times q (erase x ys)) (sym here) (let t = times_erase x ys (omega arith) in omega arith)
      | inr there ↦ (let t = times_erase_else p x ys there in let a = same p in let o = other_one x p (λ q. there (sym q)) in omega arith)
    ]) in
    let l = erase_shorter x ys (omega arith) in omega arith

pub block-length : (block : Block) (xs : List ℕ) → ((p : ℕ) → times p xs ≡ one_if (has_page block p)) → length xs ≡ page_count block
block-length block xs named = same_length xs (pages_of block) (λ p. named p ∙ sym (block-times block p)) ∙ range_count (has_page block) block.page 64

-- ---- what logs know of blocks

pub of-cycle : (e : CycleSoFar) → KnowsBlocks e → AreOfCycle e.cycle (past_after e)
of-cycle e knows = knows.of_cycle

pub none-out : (e : CycleSoFar) (n : ℕ) → KnowsBlocks e → out_of (e.logs n) ≡ None → HasNoBlock (past_after e) n
none-out e n knows none block there is =
    let r = knows.of_log block there in
    some_none r.0 (sym r.1 ∙ ap (λ (m : ℕ). out_of (e.logs m)) is ∙ none)

-- ---- settling

-- the lines of cuts, by notes and by a log
cut-lines : (now n : ℕ) (cuts : List CutOut) (past : List Line) → behind_cuts now n (noted cuts) past ≡ map (cut_line now n) cuts ++ past
cut-lines now n [] past = refl
cut-lines now n (x ∷ cuts) past = cuts-after now n (noted cuts) (record { page = x.page; pages = x.pages; class = x.class }) past ∙ ap (λ (l : List Line). cut_line now n x ∷ l) (cut-lines now n cuts past)

-- they are as many as the cuts, and the Drop line
pub settled-length : (now n : ℕ) (o : OutBlock) (past : List Line) → length (settled_lines now n (Some o) ++ past) ≡ length o.cuts + length past + 1
settled-length now n o past = let a = length-append (map (cut_line now n) o.cuts) past in let b = length-map o.cuts (cut_line now n) in omega arith

-- and are of the processor
pub settled-allowed : (procs now n : ℕ) (o : OutBlock) (past : List Line) → n < procs → AreAllowed procs past → AreAllowed procs (settled_lines now n (Some o) ++ past)
settled-allowed procs now n o past low old = (low, cuts o.cuts)
  where
    cuts : (cuts : List CutOut) → AreAllowed procs (map (cut_line now n) cuts ++ past)
    cuts [] = old
    cuts (x ∷ rest) = (low, cuts rest)

one_same : (a b : Bool) → one_if a ≡ one_if b → a ≡ b
one_same true true s = refl
one_same false false s = refl
one_same true false s = absurd (omega arith)
one_same false true s = absurd (omega arith)

held_block : (a b : Block) → Some a ≡ Some b → a ≡ b
held_block a b s = cc

module _ (n : ℕ) (h : Part) (k : Cache) (o : OutBlock) (c : CoreState) (e : CycleSoFar) (tells : CacheTells n h) (is : h.cache ≡ Some k) (out : out_of h.log ≡ Some o) (now : ShowsBlocks c e)
    (logs : e.logs n ≡ h.log) (hand : (hand_of c n).pulled ≡ h.pulled) where
  i : IsCacheOf n h k
  i = tells.some k is

  was : HasBlockOut k o
  was = i.out o out

  out_now : out_of (e.logs n) ≡ Some o
  out_now = ap out_of logs ∙ out

  -- the pulled list names the pages of the block
  listed : (p : ℕ) → times p h.pulled ≡ one_if (has_page was.block p)
  listed p = i.pages p ∙ ap (λ (x : Option Block). one_if (in_block x p)) was.here

  -- the pages of which the cuts were made are those that the journal has in the page cache
  cached_set : (p : ℕ) → cache_of (past_after e) n p ≡ was.set p
  cached_set p =
      let a = now.pulled n p in
      let b : times p (hand_of c n).pulled ≡ one_if (has_page was.block p) = ap (times p) hand ∙ listed p in
      let d : cut_times p (cuts_of (e.logs n)) ≡ cut_times p o.cuts = ap (λ (x : Option OutBlock). cut_times p (cuts_in x)) out_now in
      let s = cuts-sum was.set (has_page was.block) k.cuts o.cuts was.cuts was.notes p in
      one_same (cache_of (past_after e) n p) (was.set p) (omega arith)

  -- what settling asks of a page cache
  pub settle-asks : KnowsBlocks e → IsCutFrom (past_after e) k
  settle-asks knows =
      let has = knows.out n o out_now in
      record {
        block = was.block;
        here = was.here;
        out = record { block = has.block; out = has.out; of_proc = has.of_proc ∙ sym i.proc; first = has.first ∙ sym was.first };
        cuts = cuts-alike was.set (cache_of (past_after e) k.proc) k.cuts (has_page was.block) (λ p. ap (λ (w : ℕ). cache_of (past_after e) w p) i.proc ∙ cached_set p) was.cuts;
      }

  -- as many pages are left as the Drop line tells
  pub left-count : (block : Block) → k.block ≡ Some block → o.pages - pages_cut o.cuts ≡ page_count block
  left-count block has =
      let s = now.size n o out_now in
      let a = ap (λ (l : List ℕ). length l) hand in
      let b = block-length was.block h.pulled listed in
      let d = ap (λ (x : Block). page_count x) (held_block was.block block (sym was.here ∙ has)) in
      omega arith

  -- the lines that settling writes are those that the log tells
  pub settled-past : (block : Block) → k.block ≡ Some block → (cycle : ℕ) (past : List Line) → Drop cycle n block.page (page_count block) ∷ behind_cuts cycle n k.cuts past ≡ settled_lines cycle n (Some o) ++ past
  settled-past block has cycle past =
      let page : block.page ≡ o.page = ap (λ (x : Block). x.page) (held_block block was.block (sym has ∙ was.here)) ∙ was.first in
      let pages = left-count block has in
      let lines = ap (λ (l : List CutNote). behind_cuts cycle n l past) was.notes ∙ cut-lines cycle n o.cuts past in
      λ j. Drop cycle n (page j) (sym pages j) ∷ lines j

  pub settled-heap : (cycle : ℕ) (old new : PageHeap) → Settles old new cycle k → new.past ≡ settled_lines cycle n (Some o) ++ old.past
  settled-heap cycle old new s =
      let past : new.past ≡ Drop cycle k.proc was.block.page (page_count was.block) ∷ behind_cuts cycle k.proc k.cuts old.past
      = subst (λ (x : Option Block). IfSome x (λ block. new.past ≡ Drop cycle k.proc block.page (page_count block) ∷ behind_cuts cycle k.proc k.cuts old.past)) was.here s.past in
      past ∙ ap (λ (w : ℕ). Drop cycle w was.block.page (page_count was.block) ∷ behind_cuts cycle w k.cuts old.past) i.proc ∙ settled-past was.block was.here cycle old.past
