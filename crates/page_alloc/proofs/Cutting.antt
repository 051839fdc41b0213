-- What the pages of a region keep when spans are cut of a block, and when the block goes back.
use Rattle.std.proofs.Common.{◌≡◌, ◌≢◌, ℕ, zero, suc, ◌+◌, ◌-◌, ◌*◌, ◌/◌, ◌%◌, ◌<◌, ◌≤◌, Bool, true, false, ◌&&◌, ◌||◌, not, eqb, if◌then◌else◌, List, [], ◌∷◌, ◌++◌, length, take, get_or, Option, Some, None, is_some, refl, sym, ◌∙◌, ap, subst, arith, ◌⊎◌, inl, inr, get_or-set_other, get_or-set_same, length-set}
use Rattle.std.specs.List.{AllByRecursion}
use Rattle.std.proofs.Math.ListN.{set}
use Rattle.std.proofs.lemmas.Bool.{cases_lt, cases_eq, cases_Bool, false≢true, eqb-true, eq-eqb, ne_eqb, and_parts}
use Rattle.page_bitmap.specs.declared.line.Line.{Line}
use Rattle.page_bitmap.specs.declared.line.Line.TheVariants.{Take, Miss, Give, Scav, Pull, Cut, Drop}
use Rattle.page_bitmap.specs.Counts.{one_if, count_run}
use Rattle.page_bitmap.specs.CountLaws.{count_below-none, count_below-run, count_below-same, count_run-le}
use Rattle.page_cache.specs.declared.block.CutNote.{CutNote}
use Rattle.page_bitmap.specs.Runs.{SetsRun}
use Rattle.page_cache.specs.declared.block.Block.{Block}
use Rattle.page_cache.specs.Blocks.{has_page, page_count}
use Rattle.page_cache.specs.Cache.{Cache}
use Rattle.page_cache.specs.Runs.{IsFirstRun}
use Rattle.page_alloc.specs.Lists.{In, AllApart, count_below}
use Rattle.page_alloc.specs.Owners.{within, owner, cached, is_held, is_number, unscavenged}
use Rattle.page_alloc.specs.Lives.{Life, open_lives}
use Rattle.page_alloc.specs.FreeRuns.{IsSpanSize}
use Rattle.page_alloc.specs.Blocks.{OpenBlock, block_of, blocks_but, open_blocks, AreOfCycle, HasBlock, HasNoBlock, IsFirstCut, pages_left}
use Rattle.page_alloc.specs.Journal.{cycle_of, GoesOn, IsAllowed, IsBy, KeepsBlocks, LegalFor, MayFollowFor}
use Rattle.page_alloc.specs.Cuts.{AreCuts, IsCutFrom, behind_cuts, cache_of, with_firsts, with_lengths, without}
use Rattle.page_alloc.specs.Kept.{IsKept}
use Rattle.page_alloc.proofs.Lives.{within-true, within-false, within-low, within-high, is-number, exclusive, cached-inside, cached-unscavenged, covers-for, lies-for, span_pages}
use Rattle.page_alloc.proofs.BlocksOut.{follows-for, legal-more}
use Rattle.page_alloc.proofs.Words.{page-inside, page_count-is}
use Rattle.std.proofs.lemmas.List.{take_more}

-- ---- one cut

number-is : (n : ℕ) (o : Option ℕ) → o ≡ Some n → is_number n o ≡ true
number-is n o e = rw e (eq-eqb n n refl)

or-true : (b : Bool) → (b || true) ≡ true
or-true true = refl
or-true false = refl

held-cut : (o c : Option ℕ) (w : Bool) (page : ℕ) → (w ≡ true → is_some c ≡ true) → (is_some (if w then Some page else o) || is_some (if w then None else c)) ≡ (is_some o || is_some c)
held-cut o c true page has = (let h = has refl in rw h (sym (or-true (is_some o))))
held-cut o c false page has = refl

-- no life begins at a page that a processor has in its cache
no-life : (procs region goal : ℕ) (past : List Line) (page proc : ℕ) → LegalFor procs region goal past → cached past page ≡ Some proc → (life : Life) → In life (open_lives past) → life.page ≢ page
no-life procs region goal past page proc legal has life here e =
    let lie = lies-for procs region goal past life legal here in
    let own = covers-for procs region goal past life page legal here (omega arith) (omega arith) in
    let none = exclusive procs region goal past page proc legal has in
    cc

pub kept-cut : {region goal live owned_pages behind : ℕ} {past : List Line} {free scavenged starts : ℕ → Bool} {lengths : List ℕ}
    (starts' : ℕ → Bool) (cycle proc page n class : ℕ)
    → IsKept region goal past free scavenged starts lengths live owned_pages behind → IsBy cycle past → KeepsBlocks past (Cut cycle proc page n class) → n < 16 → IsSpanSize class n → IsFirstCut past proc page n
    → region ≤ length lengths → ((p : ℕ) → starts' p ≡ (eqb p page || starts p))
    → IsKept region goal (Cut cycle proc page n class ∷ past) free scavenged starts' (set lengths page n) (live + 1) owned_pages behind
kept-cut {region} {goal} {live} {owned_pages} {behind} {past} {free} {scavenged} {starts} {lengths} starts' cycle proc page n class kept by keeps few size fit room begins =
    let some = span_pages class n size in
    let here : cached past page ≡ Some proc = fit.here page (omega arith) (omega arith) in
    let low = cached-inside kept.procs region goal past page proc kept.legal here in
    let held : (p : ℕ) → is_held (Cut cycle proc page n class ∷ past) p ≡ is_held past p =
    λ p. held-cut (owner past p) (cached past p) (within p page n) page (λ is. (let has = fit.here p (within-low p page n is) (within-high p page n is) in rw has refl)) in
    let cut_at : (p : ℕ) → page ≤ p → p < page + n → owner (Cut cycle proc page n class ∷ past) p ≡ Some page =
    λ p above below. (let is : within p page n ≡ true = within-true p page n above below in rw is refl) in
    let same_at : (p : ℕ) → within p page n ≡ false → owner (Cut cycle proc page n class ∷ past) p ≡ owner past p = λ p isnt. rw isnt refl in
    record {
      procs = kept.procs + suc proc;
      legal = ((omega arith, few, size, fit), by, legal-more kept.procs (kept.procs + suc proc) region goal past (omega arith) kept.legal, keeps);
      free_pages = λ p lt. kept.free_pages p lt ∙ ap not (sym (held p));
      scavenged_pages = kept.scavenged_pages;
      begins = λ p own. begins p ∙ elim (cases_Bool (within p page n)) [
        | inl is ↦ (
            let e = cut_at p (within-low p page n is) (within-high p page n is) in
            let q : Some page ≡ Some p = sym e ∙ own in
            let same : p ≡ page = cc in
            let t : eqb p page ≡ true = eq-eqb p page same in
            rw t refl)
        | inr isnt ↦ (let old = kept.begins p (sym (same_at p isnt) ∙ own) in rw old (or-true (eqb p page)))
      ];
      begins_only = λ p lt start. elim (cases_eq p page) [
        | inl same ↦ cut_at p (omega arith) (omega arith) ∙ ap (λ (q : ℕ). Some q) (sym same)
        | inr other ↦ (
            let t : eqb p page ≡ false = ne_eqb p page other in
            let old : starts p ≡ true = (rw t at (sym (begins p))) ∙ start in
            let own = kept.begins_only p lt old in
            elim (cases_Bool (within p page n)) [
              | inl is ↦ (let none = exclusive kept.procs region goal past p proc kept.legal (fit.here p (within-low p page n is) (within-high p page n is)) in cc)
              | inr isnt ↦ same_at p isnt ∙ own
            ])
      ];
      pages = λ life there. elim there [
        | inl new_life ↦ (
            let e1 : page ≡ life.page = ap (λ (l : Life). l.page) new_life in
            let e2 : n ≡ life.pages = ap (λ (l : Life). l.pages) new_life in
            let lt : page < length lengths = omega arith in
            let at : get_or (set lengths page n) page 0 ≡ n = get_or-set_same lengths page n 0 lt in
            ap (λ (q : ℕ). get_or (set lengths page n) q 0) (sym e1) ∙ (at ∙ e2))
        | inr old_life ↦ get_or-set_other lengths page life.page n 0 (no-life kept.procs region goal past page proc kept.legal here life old_life) ∙ kept.pages life old_life
      ];
      lives = (let l = kept.lives in omega arith);
      taken_pages = kept.taken_pages ∙ count_below-same region (is_held past) (is_held (Cut cycle proc page n class ∷ past)) (λ p lt. sym (held p));
      backed_pages = kept.backed_pages ∙ count_below-same region (λ p. is_held past p || unscavenged past p) (λ p. is_held (Cut cycle proc page n class ∷ past) p || unscavenged past p)
          (λ p lt. ap (λ (h : Bool). h || unscavenged past p) (sym (held p)));
    }

-- ---- cuts, one after another

-- What is so behind some cuts of a processor's block.
pub record IsBehind (region goal : ℕ) (old past : List Line) (cycle proc : ℕ) (free scavenged starts : ℕ → Bool) (lengths : List ℕ) (live owns behind : ℕ) (left : ℕ → Bool) : Type 0 where
  pub kept : IsKept region goal past free scavenged starts lengths live owns behind
  pub rest : (p : ℕ) → left p ≡ is_number proc (cached past p)
  pub blocks : open_blocks past ≡ open_blocks old
  pub by : IsBy cycle past
  pub goes_on : (line : Line) → (GoesOn (Cut cycle proc 0 0 0 ∷ []) line) → GoesOn past line

and-false : (b : Bool) → (b && false) ≡ false
and-false true = refl
and-false false = refl

and-true : (b : Bool) → (b && true) ≡ b
and-true true = refl
and-true false = refl

cut-cached : (o : Option ℕ) (w : Bool) (proc : ℕ) → is_number proc (if w then None else o) ≡ (is_number proc o && not w)
cut-cached o true proc = sym (and-false (is_number proc o))
cut-cached o false proc = sym (and-true (is_number proc o))

-- the first run that is left of a processor's pages is the one to cut
first-cut : (past : List Line) (proc page n : ℕ) (set : ℕ → Bool) → ((p : ℕ) → set p ≡ is_number proc (cached past p)) → IsFirstRun set n page → IsFirstCut past proc page n
first-cut past proc page n set same first = record {
  here = λ p above below. is-number proc (cached past p) (sym (same p) ∙ first.run p above below);
  least = λ q less run. first.least q less (λ p above below. same p ∙ number-is proc (cached past p) (run p above below));
}

cuts-alike : (set other : ℕ → Bool) (cuts : List CutNote) (left : ℕ → Bool) → ((p : ℕ) → other p ≡ set p) → AreCuts set cuts left → AreCuts other cuts left
cuts-alike set other [] left same cuts = λ p. cuts p ∙ sym (same p)
cuts-alike set other (cut ∷ rest) left same cuts = (
  cuts.0,
  cuts.1,
  record {
    run = λ p above below. same p ∙ cuts.2.run p above below;
    least = λ q less run. cuts.2.least q less (λ p above below. sym (same p) ∙ run p above below);
  },
  cuts-alike (without set cut.page cut.pages) (without other cut.page cut.pages) rest left (λ p. ap (λ (b : Bool). b && not (within p cut.page cut.pages)) (same p)) cuts.3,
)

-- each cut's first page is of the region
pub cuts-inside : {region goal live owned_pages behind : ℕ} {past : List Line} {free scavenged starts : ℕ → Bool} {lengths : List ℕ} (proc : ℕ)
    → IsKept region goal past free scavenged starts lengths live owned_pages behind → (set : ℕ → Bool) → ((p : ℕ) → set p ≡ true → cached past p ≡ Some proc)
    → (cuts : List CutNote) (left : ℕ → Bool) → AreCuts set cuts left → AllByRecursion (λ (cut : CutNote). cut.page < region) cuts
cuts-inside proc kept set has [] left cuts = tt
cuts-inside {region} {goal} {past = past} proc kept set has (cut ∷ rest) left cuts = (
  (let some = span_pages cut.class cut.pages cuts.1 in cached-inside kept.procs region goal past cut.page proc kept.legal (has cut.page (cuts.2.run cut.page (omega arith) (omega arith)))),
  cuts-inside proc kept (without set cut.page cut.pages) (λ p is. has p (and_parts (set p) (not (within p cut.page cut.pages)) is).0) rest left cuts.3,
)

pub kept-cuts : {region goal live owned_pages behind : ℕ} {old past : List Line} {free scavenged starts : ℕ → Bool} {lengths : List ℕ} (cycle proc : ℕ) (cuts : List CutNote) (set left : ℕ → Bool)
    → IsBehind region goal old past cycle proc free scavenged starts lengths live owned_pages behind set → AreOfCycle cycle old → AreCuts set cuts left → region ≤ length lengths
    → IsBehind region goal old (behind_cuts cycle proc cuts past) cycle proc free scavenged (with_firsts cuts starts) (with_lengths cuts lengths) (live + length cuts) owned_pages behind left
kept-cuts {live = live} {past = past} cycle proc [] set left known of_cycle cuts room =
    let same : live + 0 ≡ live = omega arith in
    rw same (record {
      kept = known.kept;
      rest = λ p. cuts p ∙ known.rest p;
      blocks = known.blocks;
      by = known.by;
      goes_on = known.goes_on;
    })
kept-cuts {region} {goal} {live} {owned_pages} {behind} {old} {past} {free} {scavenged} {starts} {lengths} cycle proc (cut ∷ rest) set left known of_cycle cuts room =
    let keeps : KeepsBlocks past (Cut cycle proc cut.page cut.pages cut.class) = record {
      cycle = λ block out. of_cycle block (subst (In block) known.blocks out);
      cuts = known.goes_on (Cut cycle proc cut.page cut.pages cut.class) refl;
    } in
    let first = first-cut past proc cut.page cut.pages set known.rest cuts.2 in
    let next = kept-cut (λ p. eqb p cut.page || starts p) cycle proc cut.page cut.pages cut.class known.kept known.by keeps cuts.0 cuts.1 first room (λ p. refl) in
    let count : live + 1 + length rest ≡ live + suc (length rest) = omega arith in
    rw (← count) (kept-cuts {live = live + 1} cycle proc rest (without set cut.page cut.pages) left (record {
      kept = next;
      rest = λ p. ap (λ (b : Bool). b && not (within p cut.page cut.pages)) (known.rest p) ∙ sym (cut-cached (cached past p) (within p cut.page cut.pages) proc);
      blocks = known.blocks;
      by = omega arith;
      goes_on = λ line goes. goes;
    }) of_cycle cuts.3 (let same = length-set lengths cut.page cut.pages in omega arith))

-- ---- the block goes back

-- the blocks that are out are of different processors
from_but : (proc : ℕ) (blocks : List OpenBlock) (block : OpenBlock) → In block (blocks_but proc blocks) → In block blocks
from_but proc [] block h = absurd h
from_but proc (first ∷ blocks) block h =
    elim (cases_Bool (eqb first.proc proc)) [
      | inl is ↦ (let h' : In block (blocks_but proc blocks) = rw is at h in inr (from_but proc blocks block h'))
      | inr isnt ↦ (
          let h' : (first ≡ block) ⊎ In block (blocks_but proc blocks) = rw isnt at h in
          elim h' [ inl here ↦ inl here | inr there ↦ inr (from_but proc blocks block there) ])
    ]

apart-but : (proc : ℕ) (blocks : List OpenBlock) → AllApart (λ (a b : OpenBlock). a.proc ≢ b.proc) blocks → AllApart (λ (a b : OpenBlock). a.proc ≢ b.proc) (blocks_but proc blocks)
apart-but proc [] apart = tt
apart-but proc (first ∷ blocks) apart =
    elim (cases_Bool (eqb first.proc proc)) [
      | inl is ↦ rw is (apart-but proc blocks apart.1)
      | inr isnt ↦ rw isnt (λ block h. apart.0 block (from_but proc blocks block h), apart-but proc blocks apart.1)
    ]

pub blocks-apart : (procs region goal : ℕ) (past : List Line) → LegalFor procs region goal past → AllApart (λ (a b : OpenBlock). a.proc ≢ b.proc) (open_blocks past)
blocks-apart procs region goal [] legal = tt
blocks-apart procs region goal (Take cycle page pages class ∷ past) legal = blocks-apart procs region goal past legal.2
blocks-apart procs region goal (Miss cycle pages class ∷ past) legal = blocks-apart procs region goal past legal.2
blocks-apart procs region goal (Give cycle page pages ∷ past) legal = blocks-apart procs region goal past legal.2
blocks-apart procs region goal (Scav cycle page pages ∷ past) legal = blocks-apart procs region goal past legal.2
blocks-apart procs region goal (Pull cycle proc page pages ∷ past) legal = (λ block h e. legal.0.1 block h (sym e), blocks-apart procs region goal past legal.2)
blocks-apart procs region goal (Cut cycle proc page pages class ∷ past) legal = blocks-apart procs region goal past legal.2
blocks-apart procs region goal (Drop cycle proc page pages ∷ past) legal = apart-but proc (open_blocks past) (blocks-apart procs region goal past legal.2)

but-none : (proc : ℕ) (blocks : List OpenBlock) → ((block : OpenBlock) → In block blocks → block.proc ≢ proc) → blocks_but proc blocks ≡ blocks
but-none proc [] none = refl
but-none proc (first ∷ blocks) none =
    let isnt : eqb first.proc proc ≡ false = ne_eqb first.proc proc (none first (inl refl)) in
    rw isnt (ap (λ (bs : List OpenBlock). first ∷ bs) (but-none proc blocks (λ block h. none block (inr h))))

-- without a processor's block there is one block less
pub length-but : (proc : ℕ) (blocks : List OpenBlock) (block : OpenBlock) → AllApart (λ (a b : OpenBlock). a.proc ≢ b.proc) blocks → In block blocks → block.proc ≡ proc → length (blocks_but proc blocks) + 1 ≡ length blocks
length-but proc [] block apart h e = absurd h
length-but proc (first ∷ blocks) block apart h e =
    elim h [
      | inl here ↦ (
          let same : first.proc ≡ proc = ap (λ (b : OpenBlock). b.proc) here ∙ e in
          let is : eqb first.proc proc ≡ true = eq-eqb first.proc proc same in
          let rest : blocks_but proc blocks ≡ blocks = but-none proc blocks (λ other there q. apart.0 other there (same ∙ sym q)) in
          rw (is, rest) (omega arith))
      | inr there ↦ (
          let ne : first.proc ≢ proc = λ q. apart.0 block there (q ∙ sym e) in
          let isnt : eqb first.proc proc ≡ false = ne_eqb first.proc proc ne in
          let rest = length-but proc blocks block apart.1 there e in
          rw isnt (omega arith))
    ]

one_block : (blocks : List OpenBlock) (block : OpenBlock) → In block blocks → 1 ≤ length blocks
one_block [] block h = absurd h
one_block (first ∷ blocks) block h = omega arith

or-false : (b : Bool) → (b || false) ≡ b
or-false true = refl
or-false false = refl

held-drop : (o c : Option ℕ) (proc : ℕ) → (is_number proc c ≡ true → o ≡ None) → one_if (is_some o || is_some (if is_number proc c then None else c)) + one_if (is_number proc c) ≡ one_if (is_some o || is_some c)
held-drop o None proc none = rw (or-false (is_some o)) (omega arith)
held-drop o (Some q) proc none =
    elim (cases_Bool (eqb q proc)) [
      | inl is ↦ (let e = none is in rw (is, e) refl)
      | inr isnt ↦ rw isnt (omega arith)
    ]

-- counts of two tests that never pass together
pub count_below-add : (n : ℕ) (f g h : ℕ → Bool) → ((k : ℕ) → k < n → one_if (f k) + one_if (g k) ≡ one_if (h k)) → count_below n f + count_below n g ≡ count_below n h
unfolding count_below
count_below-add zero f g h each = omega arith
count_below-add (suc n) f g h each =
    let here = each n (omega arith) in
    let rest = count_below-add n f g h (λ k lt. each k (omega arith)) in
    omega arith

free-drop : (f : Bool) (o c : Option ℕ) (proc : ℕ) → f ≡ not (is_some o || is_some c) → (is_number proc c ≡ true → o ≡ None) → (f || is_number proc c) ≡ not (is_some o || is_some (if is_number proc c then None else c))
free-drop f o None proc e none = rw e (or-false (not (is_some o || false)))
free-drop f o (Some q) proc e none =
    elim (cases_Bool (eqb q proc)) [
      | inl is ↦ (let d = none is in rw (is, d) (or-true f))
      | inr isnt ↦ rw (isnt, e) (or-false (not (is_some o || true)))
    ]

pub kept-drop : {region goal live owned_pages behind : ℕ} {past : List Line} {free scavenged starts : ℕ → Bool} {lengths : List ℕ}
    (free' scavenged' : ℕ → Bool) (cycle proc page n : ℕ) (left : ℕ → Bool)
    → IsKept region goal past free scavenged starts lengths live owned_pages behind → IsBy cycle past → KeepsBlocks past (Drop cycle proc page n) → HasBlock past proc page
    → ((p : ℕ) → left p ≡ is_number proc (cached past p)) → ((p : ℕ) → left p ≡ true → (page ≤ p) × (p < page + 64)) → n ≡ count_below 64 (λ i. left (page + i)) → page + 64 ≤ region
    → ((p : ℕ) → free' p ≡ (free p || left p)) → ((p : ℕ) → scavenged' p ≡ scavenged p)
    → IsKept region goal (Drop cycle proc page n ∷ past) free' scavenged' starts lengths live (owned_pages - n) behind
kept-drop {region} {goal} {live} {owned_pages} {behind} {past} {free} {scavenged} {starts} {lengths} free' scavenged' cycle proc page n left kept by keeps has rest inside count room frees scavenges =
    let number : (p : ℕ) → is_number proc (cached past p) ≡ true → owner past p ≡ None = λ p is. exclusive kept.procs region goal past p proc kept.legal (is-number proc (cached past p) is) in
    let old : ℕ → Bool = is_held past in
    let new : ℕ → Bool = is_held (Drop cycle proc page n ∷ past) in
    let of_proc : ℕ → Bool = λ p. is_number proc (cached past p) in
    let all : count_below region new + count_below region of_proc ≡ count_below region old = count_below-add region new of_proc old (λ p lt. held-drop (owner past p) (cached past p) proc (number p)) in
    -- the processor's pages are all of the block
    let none_out : (p : ℕ) → (p < page) ⊎ (page + 64 ≤ p) → of_proc p ≡ false = λ p out. elim (cases_Bool (of_proc p)) [
      | inr off ↦ off
      | inl on ↦ (let at = inside p (rest p ∙ on) in absurd (elim out [ inl below ↦ omega arith | inr above ↦ omega arith ]))
    ] in
    let counted = count_below-run region page 64 (λ p. false) of_proc room (λ k lt. sym (none_out k (inl lt))) (λ k le. sym (none_out k (inr le))) in
    let nothing : count_below region (λ p. false) ≡ 0 = count_below-none region (λ p. false) (λ k lt. refl) in
    let nothing_run : count_run page 64 (λ p. false) ≡ 0 = count_below-none 64 (λ k. false) (λ k lt. refl) in
    let same : n ≡ count_run page 64 of_proc = count ∙ count_below-same 64 (λ i. left (page + i)) (λ i. of_proc (page + i)) (λ i lt. rest (page + i)) in
    record {
      procs = kept.procs + suc proc;
      legal = ((omega arith, has, same), by, legal-more kept.procs (kept.procs + suc proc) region goal past (omega arith) kept.legal, keeps);
      free_pages = λ p lt. frees p ∙ ap (λ (b : Bool). free p || b) (rest p) ∙ free-drop (free p) (owner past p) (cached past p) proc (kept.free_pages p lt) (number p);
      scavenged_pages = λ p lt. scavenges p ∙ kept.scavenged_pages p lt;
      begins = kept.begins;
      begins_only = kept.begins_only;
      pages = kept.pages;
      lives = kept.lives;
      taken_pages = (let t : owned_pages ≡ count_below region old = kept.taken_pages in omega arith);
      backed_pages = kept.backed_pages ∙ count_below-same region (λ p. is_held past p || unscavenged past p) (λ p. is_held (Drop cycle proc page n ∷ past) p || unscavenged past p) (λ p lt.
          elim (cases_Bool (of_proc p)) [
            | inl is ↦ (let u = cached-unscavenged kept.procs region goal past p proc kept.legal (is-number proc (cached past p) is) in rw u (or-true (is_held past p) ∙ sym (or-true (is_held (Drop cycle proc page n ∷ past) p))))
            | inr isnt ↦ rw isnt refl
          ]);
    }

-- ---- the journal with all these lines

before-cuts : (a region goal cycle proc : ℕ) (cuts : List CutNote) (past : List Line) → LegalFor a region goal (behind_cuts cycle proc cuts past) → LegalFor a region goal past
before-cuts a region goal cycle proc [] past legal = legal
before-cuts a region goal cycle proc (cut ∷ rest) past legal = (before-cuts a region goal cycle proc rest (Cut cycle proc cut.page cut.pages cut.class ∷ past) legal).2

-- lines that are allowed keep a journal legal for each number of processors for which it was
pub cuts-legal : (a b region goal cycle proc : ℕ) (cuts : List CutNote) (past : List Line) → proc < b → LegalFor a region goal (behind_cuts cycle proc cuts past) → LegalFor b region goal past → LegalFor b region goal (behind_cuts cycle proc cuts past)
cuts-legal a b region goal cycle proc [] past lt legal old = old
cuts-legal a b region goal cycle proc (cut ∷ rest) past lt legal old =
    let next = before-cuts a region goal cycle proc rest (Cut cycle proc cut.page cut.pages cut.class ∷ past) legal in
    cuts-legal a b region goal cycle proc rest (Cut cycle proc cut.page cut.pages cut.class ∷ past) lt legal
    (follows-for a b region goal past (Cut cycle proc cut.page cut.pages cut.class) lt next.0, next.1, old, next.3)

pub cuts-after : (cycle proc : ℕ) (cuts : List CutNote) (cut : CutNote) (past : List Line) → behind_cuts cycle proc (cuts ++ cut ∷ []) past ≡ Cut cycle proc cut.page cut.pages cut.class ∷ behind_cuts cycle proc cuts past
cuts-after cycle proc [] cut past = refl
cuts-after cycle proc (first ∷ rest) cut past = cuts-after cycle proc rest cut (Cut cycle proc first.page first.pages first.class ∷ past)

pub lengths-after : (cuts : List CutNote) (cut : CutNote) (lengths : List ℕ) → with_lengths (cuts ++ cut ∷ []) lengths ≡ set (with_lengths cuts lengths) cut.page cut.pages
lengths-after [] cut lengths = refl
lengths-after (first ∷ rest) cut lengths = lengths-after rest cut (set lengths first.page first.pages)

pub length-lengths : (cuts : List CutNote) (lengths : List ℕ) → length (with_lengths cuts lengths) ≡ length lengths
length-lengths [] lengths = refl
length-lengths (cut ∷ rest) lengths = length-lengths rest (set lengths cut.page cut.pages) ∙ length-set lengths cut.page cut.pages

pub firsts-after : (cuts : List CutNote) (cut : CutNote) (map : ℕ → Bool) (p : ℕ) → with_firsts (cuts ++ cut ∷ []) map p ≡ (eqb p cut.page || with_firsts cuts map p)
firsts-after [] cut map p = refl
firsts-after (first ∷ rest) cut map p = firsts-after rest cut (λ q. eqb q first.page || map q) p

-- ---- the loop over cuts

pub past-step : (cycle proc i : ℕ) (cuts : List CutNote) (d : CutNote) (old new start : List Line) → i < length cuts → old ≡ behind_cuts cycle proc (take i cuts) start
    → new ≡ Cut cycle proc (get_or cuts i d).page (get_or cuts i d).pages (get_or cuts i d).class ∷ old → new ≡ behind_cuts cycle proc (take (i + 1) cuts) start
past-step cycle proc i cuts d old new start lt known line =
    let cut = get_or cuts i d in
    line ∙ ap (λ (l : List Line). Cut cycle proc cut.page cut.pages cut.class ∷ l) known
    ∙ sym (ap (λ (cs : List CutNote). behind_cuts cycle proc cs start) (take_more cuts i d lt) ∙ cuts-after cycle proc (take i cuts) cut start)

pub firsts-step : (i : ℕ) (cuts : List CutNote) (d : CutNote) (map old new : ℕ → Bool) → i < length cuts → ((p : ℕ) → old p ≡ with_firsts (take i cuts) map p) → SetsRun old new (get_or cuts i d).page 1 true
    → (p : ℕ) → new p ≡ with_firsts (take (i + 1) cuts) map p
firsts-step i cuts d map old new lt known sets p =
    let cut = get_or cuts i d in
    let whole : with_firsts (take (i + 1) cuts) map p ≡ (eqb p cut.page || with_firsts (take i cuts) map p) =
    ap (λ (cs : List CutNote). with_firsts cs map p) (take_more cuts i d lt) ∙ firsts-after (take i cuts) cut map p in
    elim (cases_eq p cut.page) [
      | inl here ↦ (let is : eqb p cut.page ≡ true = eq-eqb p cut.page here in sets.inside p (omega arith) (omega arith) ∙ sym (whole ∙ rw is refl))
      | inr there ↦ (
          let isnt : eqb p cut.page ≡ false = ne_eqb p cut.page there in
          let same : new p ≡ old p = elim (cases_lt p cut.page) [ inl below ↦ sets.below p below | inr from ↦ sets.above p (omega arith) ] in
          same ∙ known p ∙ sym (whole ∙ rw isnt refl))
    ]

pub lengths-step : (i : ℕ) (cuts : List CutNote) (d : CutNote) (old start : List ℕ) → i < length cuts → old ≡ with_lengths (take i cuts) start
    → set old (get_or cuts i d).page (get_or cuts i d).pages ≡ with_lengths (take (i + 1) cuts) start
lengths-step i cuts d old start lt known =
    let cut = get_or cuts i d in
    ap (λ (l : List ℕ). set l cut.page cut.pages) known ∙ sym (ap (λ (cs : List CutNote). with_lengths cs start) (take_more cuts i d lt) ∙ lengths-after (take i cuts) cut start)

-- ---- settling

pub cut-from : (past : List Line) (cache : Cache) (proc : ℕ) (cuts : List CutNote) (block : Block) → IsCutFrom past cache → proc ≡ cache.proc → cuts ≡ cache.cuts → cache.block ≡ Some block
    → HasBlock past proc block.page × AreCuts (cache_of past proc) cuts (has_page block)
cut-from past cache proc cuts block from p q b =
    let some : Some from.block ≡ Some block = sym from.here ∙ b in
    let same : from.block ≡ block = cc in
    rw (p, q, sym same) (from.out, from.cuts)

-- a block that is out lies in the region
block-in : (procs region goal : ℕ) (past : List Line) (block : OpenBlock) → LegalFor procs region goal past → In block (open_blocks past) → block.page + 64 ≤ region
block-in procs region goal [] block legal h = absurd h
block-in procs region goal (Take cycle page pages class ∷ past) block legal h = block-in procs region goal past block legal.2 h
block-in procs region goal (Miss cycle pages class ∷ past) block legal h = block-in procs region goal past block legal.2 h
block-in procs region goal (Give cycle page pages ∷ past) block legal h = block-in procs region goal past block legal.2 h
block-in procs region goal (Scav cycle page pages ∷ past) block legal h = block-in procs region goal past block legal.2 h
block-in procs region goal (Pull cycle proc page pages ∷ past) block legal h = elim h [
  | inl here ↦ (let e : page ≡ block.page = ap (λ (b : OpenBlock). b.page) here in let inside = legal.0.2.inside in omega arith)
  | inr there ↦ block-in procs region goal past block legal.2 there
]
block-in procs region goal (Cut cycle proc page pages class ∷ past) block legal h = block-in procs region goal past block legal.2 h
block-in procs region goal (Drop cycle proc page pages ∷ past) block legal h = block-in procs region goal past block legal.2 (from_but proc (open_blocks past) block h)

pub block-inside : (procs region goal : ℕ) (past : List Line) (proc page : ℕ) → LegalFor procs region goal past → HasBlock past proc page → page + 64 ≤ region
block-inside procs region goal past proc page legal has = (let inside = block-in procs region goal past has.block legal has.out in let e = has.first in omega arith)

-- the same in other words for the first pages and the page counts
kept-alike : {region goal live owned_pages behind : ℕ} {past : List Line} {free scavenged starts : ℕ → Bool} {lengths : List ℕ} (starts' : ℕ → Bool)
    → ((p : ℕ) → starts' p ≡ starts p) → IsKept region goal past free scavenged starts lengths live owned_pages behind → IsKept region goal past free scavenged starts' lengths live owned_pages behind
kept-alike starts' same kept = record {
  procs = kept.procs;
  legal = kept.legal;
  free_pages = kept.free_pages;
  scavenged_pages = kept.scavenged_pages;
  begins = λ p own. same p ∙ kept.begins p own;
  begins_only = λ p lt start. kept.begins_only p lt (sym (same p) ∙ start);
  pages = kept.pages;
  lives = kept.lives;
  taken_pages = kept.taken_pages;
  backed_pages = kept.backed_pages;
}

-- What is known as a block is settled, before its pages are free.
pub record IsSettling (region goal : ℕ) (past : List Line) (cycle proc : ℕ) (cuts : List CutNote) (block : Block) (free scavenged starts : ℕ → Bool) (lengths : List ℕ) (live owns behind : ℕ) : Type 0 where
  pub has : HasBlock past proc block.page
  pub inside : block.page + 64 ≤ region
  pub one : length (blocks_but proc (open_blocks past)) + 1 ≡ length (open_blocks past)
  pub cut_pages : AllByRecursion (λ (cut : CutNote). cut.page < region) cuts
  pub after : IsBehind region goal past (behind_cuts cycle proc cuts past) cycle proc free scavenged (with_firsts cuts starts) (with_lengths cuts lengths) (live + length cuts) owns behind (has_page block)

pub settling : {region goal live owned_pages behind : ℕ} {past : List Line} {free scavenged starts : ℕ → Bool} {lengths : List ℕ} (cycle proc : ℕ) (cuts : List CutNote) (block : Block)
    → IsKept region goal past free scavenged starts lengths live owned_pages behind → IsBy cycle past → AreOfCycle cycle past → ((line : Line) → GoesOn past line) → region ≤ length lengths
    → HasBlock past proc block.page × AreCuts (cache_of past proc) cuts (has_page block)
    → IsSettling region goal past cycle proc cuts block free scavenged starts lengths live owned_pages behind
settling {region} {goal} {past = past} cycle proc cuts block kept by of_cycle whole room cut = record {
  has = cut.0;
  inside = block-inside kept.procs region goal past proc block.page kept.legal cut.0;
  one = length-but proc (open_blocks past) cut.0.block (blocks-apart kept.procs region goal past kept.legal) cut.0.out cut.0.of_proc;
  cut_pages = cuts-inside proc kept (cache_of past proc) (λ p is. is-number proc (cached past p) is) cuts (has_page block) cut.1;
  after = kept-cuts {old = past} cycle proc cuts (cache_of past proc) (has_page block) (record {
    kept = kept;
    rest = λ p. refl;
    blocks = refl;
    by = by;
    goes_on = λ line goes. whole line;
  }) of_cycle cut.1 room;
}

-- the pages that are left are taken ones
pub left-few : {region goal live owned_pages behind : ℕ} {past : List Line} {free scavenged starts : ℕ → Bool} {lengths : List ℕ} (cycle proc : ℕ) (cuts : List CutNote) (block : Block)
    → IsSettling region goal past cycle proc cuts block free scavenged starts lengths live owned_pages behind → page_count block ≤ owned_pages
left-few {region} {goal} {past = past} cycle proc cuts block s =
    let behind = behind_cuts cycle proc cuts past in
    let kept = s.after.kept in
    let all = count_below-add region (is_held (Drop cycle proc 0 0 ∷ behind)) (λ p. is_number proc (cached behind p)) (is_held behind) (λ p lt.
    held-drop (owner behind p) (cached behind p) proc (λ is. exclusive kept.procs region goal behind p proc kept.legal (is-number proc (cached behind p) is))) in
    let run = count_run-le region block.page 64 (λ p. is_number proc (cached behind p)) s.inside in
    let same : count_below 64 (λ i. has_page block (block.page + i)) ≡ count_run block.page 64 (λ p. is_number proc (cached behind p)) =
    count_below-same 64 (λ i. has_page block (block.page + i)) (λ i. is_number proc (cached behind (block.page + i))) (λ i lt. s.after.rest (block.page + i)) in
    let count = page_count-is block in
    let t = kept.taken_pages in
    omega arith

-- behind the Drop line
pub kept-settled : {region goal live owned_pages behind : ℕ} {past : List Line} {free scavenged starts : ℕ → Bool} {lengths : List ℕ}
    (free' scavenged' starts' : ℕ → Bool) (cycle proc n : ℕ) (cuts : List CutNote) (block : Block)
    → IsSettling region goal past cycle proc cuts block free scavenged starts lengths live owned_pages behind → AreOfCycle cycle past → n ≡ page_count block
    → ((p : ℕ) → starts' p ≡ with_firsts cuts starts p) → ((p : ℕ) → free' p ≡ (free p || has_page block p)) → ((p : ℕ) → scavenged' p ≡ scavenged p)
    → IsKept region goal (Drop cycle proc block.page n ∷ behind_cuts cycle proc cuts past) free' scavenged' starts' (with_lengths cuts lengths) (live + length cuts) (owned_pages - n) behind
kept-settled {past = past} free' scavenged' starts' cycle proc n cuts block s of_cycle count begins frees scavenges =
    kept-drop free' scavenged' cycle proc block.page n (has_page block) (kept-alike starts' begins s.after.kept) s.after.by
    (record { cycle = λ other out. of_cycle other (subst (In other) s.after.blocks out); cuts = s.after.goes_on (Drop cycle proc block.page n) refl })
    (record { block = s.has.block; out = subst (In s.has.block) (sym s.after.blocks) s.has.out; of_proc = s.has.of_proc; first = s.has.first })
    s.after.rest (λ p is. page-inside block p is) (count ∙ page_count-is block) s.inside frees scavenges

-- so many blocks are out then
pub blocks-settled : {region goal live owned_pages behind : ℕ} {past : List Line} {free scavenged starts : ℕ → Bool} {lengths : List ℕ} (cycle proc n : ℕ) (cuts : List CutNote) (block : Block)
    → IsSettling region goal past cycle proc cuts block free scavenged starts lengths live owned_pages behind
    → length (open_blocks (Drop cycle proc block.page n ∷ behind_cuts cycle proc cuts past)) + 1 ≡ length (open_blocks past)
blocks-settled {past = past} cycle proc n cuts block s = (let same = s.after.blocks in rw same s.one)

-- a page that is free after, and was not before, is one of the block
pub settled-outside : (free free' : ℕ → Bool) (block : Block) → ((p : ℕ) → free' p ≡ (free p || has_page block p)) → (p : ℕ) → (p < block.page) ⊎ (block.page + 64 ≤ p) → free' p ≡ free p
settled-outside free free' block frees p out = frees p ∙ elim (cases_Bool (has_page block p)) [
  | inl is ↦ (let at = page-inside block p is in absurd (elim out [ inl below ↦ omega arith | inr above ↦ omega arith ]))
  | inr isnt ↦ rw isnt (or-false (free p))
]

-- ---- a processor that has a page has a block out

to_but : (proc : ℕ) (blocks : List OpenBlock) (block : OpenBlock) → In block blocks → block.proc ≢ proc → In block (blocks_but proc blocks)
to_but proc [] block h ne = absurd h
to_but proc (first ∷ blocks) block h ne =
    elim (cases_Bool (eqb first.proc proc)) [
      | inl is ↦ (
          let same : first.proc ≡ proc = eqb-true first.proc proc is in
          rw is (elim h [
            | inl here ↦ absurd (ne (ap (λ (b : OpenBlock). b.proc) (sym here) ∙ same))
            | inr there ↦ to_but proc blocks block there ne
          ]))
      | inr isnt ↦ rw isnt (elim h [
        | inl here ↦ inl here
        | inr there ↦ inr (to_but proc blocks block there ne)
      ])
    ]

-- A block of the processor is out.
record IsOut (past : List Line) (q : ℕ) : Type 0 where
  block : OpenBlock
  out : In block (open_blocks past)
  of_proc : block.proc ≡ q

cached-out : (past : List Line) (p q : ℕ) → cached past p ≡ Some q → IsOut past q
cached-out [] p q h = cc
cached-out (Take cycle page pages class ∷ past) p q h = (let o = cached-out past p q h in record { block = o.block; out = o.out; of_proc = o.of_proc })
cached-out (Miss cycle pages class ∷ past) p q h = (let o = cached-out past p q h in record { block = o.block; out = o.out; of_proc = o.of_proc })
cached-out (Give cycle page pages ∷ past) p q h = (let o = cached-out past p q h in record { block = o.block; out = o.out; of_proc = o.of_proc })
cached-out (Scav cycle page pages ∷ past) p q h = (let o = cached-out past p q h in record { block = o.block; out = o.out; of_proc = o.of_proc })
cached-out (Pull cycle proc page pages ∷ past) p q h =
    elim (cases_Bool (within p page 64 && not (is_held past p))) [
      | inl is ↦ (let h' : Some proc ≡ Some q = rw is at h in let e : proc ≡ q = cc in record { block = block_of proc cycle page; out = inl refl; of_proc = e })
      | inr isnt ↦ (let h' : cached past p ≡ Some q = rw isnt at h in let o = cached-out past p q h' in record { block = o.block; out = inr o.out; of_proc = o.of_proc })
    ]
cached-out (Cut cycle proc page pages class ∷ past) p q h =
    elim (cases_Bool (within p page pages)) [
      | inl is ↦ (let h' : None ≡ Some q = rw is at h in cc)
      | inr isnt ↦ (let h' : cached past p ≡ Some q = rw isnt at h in let o = cached-out past p q h' in record { block = o.block; out = o.out; of_proc = o.of_proc })
    ]
cached-out (Drop cycle proc page pages ∷ past) p q h =
    elim (cases_Bool (is_number proc (cached past p))) [
      | inl is ↦ (let h' : None ≡ Some q = rw is at h in cc)
      | inr isnt ↦ (
          let h' : cached past p ≡ Some q = rw isnt at h in
          let o = cached-out past p q h' in
          let ne : o.block.proc ≢ proc = λ e. (
          let t : is_number proc (cached past p) ≡ true = number-is proc (cached past p) (h' ∙ ap (λ (n : ℕ). Some n) (sym o.of_proc ∙ e)) in
          absurd (false≢true (sym isnt ∙ t))) in
          record { block = o.block; out = to_but proc (open_blocks past) o.block o.out ne; of_proc = o.of_proc })
    ]

-- the pages of a block that was just pulled are those that its processor has
pub pulled-has : (past : List Line) (cycle proc page n : ℕ) (block : Block) → HasNoBlock past proc → ((p : ℕ) → has_page block p ≡ (within p page 64 && not (is_held past p)))
    → (p : ℕ) → has_page block p ≡ cache_of (Pull cycle proc page n ∷ past) proc p
pulled-has past cycle proc page n block none pages p =
    pages p ∙ elim (cases_Bool (within p page 64 && not (is_held past p))) [
      | inl is ↦ (let t : eqb proc proc ≡ true = eq-eqb proc proc refl in rw is (sym t))
      | inr isnt ↦ rw isnt (sym (elim (cases_Bool (is_number proc (cached past p))) [
        | inr off ↦ off
        | inl on ↦ (let o = cached-out past p proc (is-number proc (cached past p) on) in absurd (none o.block o.out o.of_proc))
      ]))
    ]
