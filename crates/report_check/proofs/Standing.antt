-- What is known of a replay as lines are added.
use Rattle.std.proofs.Common.{◌≡◌, ◌≢◌, ℕ, ◌+◌, ◌<◌, ◌≤◌, Bool, true, false, List, [], ◌∷◌, length, Option, Some, None, refl, sym, ◌∙◌, ap, subst, arith, inl, inr}
use Rattle.std.proofs.lemmas.Bool.{cases_eq, false≢true}
use Rattle.page_bitmap.specs.declared.line.Line.{Line}
use Rattle.page_bitmap.specs.declared.line.Line.TheVariants.{Take, Miss, Give, Scav, Pull, Cut, Drop}
use Rattle.page_cache.specs.declared.block.Block.{Block}
use Rattle.page_cache.specs.declared.block.CutNote.{CutNote}
use Rattle.page_cache.specs.Blocks.{has_page}
use Rattle.page_cache.specs.Cache.{Cache, IsCut, in_block, only}
use Rattle.page_cache.specs.Runs.{IsFirstRun}
use Rattle.page_alloc.specs.Lists.{In}
use Rattle.page_alloc.specs.FreeRuns.{IsSpanSize}
use Rattle.page_alloc.specs.Blocks.{AreOfCycle, HasBlock, HasNoBlock, OpenBlock, blocks_but, open_blocks}
use Rattle.page_alloc.specs.Cuts.{AreCuts, IsCutFrom, behind_cuts, cache_of}
use Rattle.page_alloc.specs.Journal.{GoesOn, IsBy, IsCutOrDrop, LegalFor, cycle_of}
use Rattle.page_alloc.proofs.CutLaws.{cut-more}
use Rattle.page_alloc.proofs.Cutting.{blocks-apart, cuts-after, length-but}
use Rattle.report_check.specs.ReplayedLines.{IsPlainLine, KeepsOrder}
use Rattle.report_check.specs.Replays.{IsCacheOf, IsReplayOf, cache_at, newest_cut, newest_cycle, with_waiting}
use Rattle.report_check.proofs.CachedPages.{behind-blocks, first-cut, from-but, left-of, none-left, other-cuts, other-drop, other-pull, to-but}

-- ---- cycles, and lines behind a Cut

pub by-newest : (c : ℕ) (past : List Line) → newest_cycle past ≤ c → IsBy c past
by-newest c [] le = tt
by-newest c (line ∷ past) le = le

pub newest-by : (c : ℕ) (past : List Line) → IsBy c past → newest_cycle past ≤ c
newest-by c [] by = omega arith
newest-by c (line ∷ past) by = by

-- any line goes on where the newest one is no Cut
pub goes-any : (past : List Line) (line : Line) → newest_cut past ≡ None → GoesOn past line
goes-any [] line e = tt
goes-any (Take cycle page pages class ∷ past) line e = tt
goes-any (Miss cycle pages class ∷ past) line e = tt
goes-any (Give cycle page pages ∷ past) line e = tt
goes-any (Scav cycle page pages ∷ past) line e = tt
goes-any (Pull cycle proc page pages ∷ past) line e = tt
goes-any (Cut cycle proc page pages class ∷ past) line e = (let none : ⊥ = cc in absurd none)
goes-any (Drop cycle proc page pages ∷ past) line e = tt

pub goes-cut : (past : List Line) (line : Line) (q : ℕ) → newest_cut past ≡ Some q → GoesOn past line → IsCutOrDrop q line
goes-cut [] line q e goes = (let none : ⊥ = cc in absurd none)
goes-cut (Take cycle page pages class ∷ past) line q e goes = (let none : ⊥ = cc in absurd none)
goes-cut (Miss cycle pages class ∷ past) line q e goes = (let none : ⊥ = cc in absurd none)
goes-cut (Give cycle page pages ∷ past) line q e goes = (let none : ⊥ = cc in absurd none)
goes-cut (Scav cycle page pages ∷ past) line q e goes = (let none : ⊥ = cc in absurd none)
goes-cut (Pull cycle proc page pages ∷ past) line q e goes = (let none : ⊥ = cc in absurd none)
goes-cut (Cut cycle proc page pages class ∷ past) line q e goes = (let same : proc ≡ q = cc in subst (λ (n : ℕ). IsCutOrDrop n line) same goes)
goes-cut (Drop cycle proc page pages ∷ past) line q e goes = (let none : ⊥ = cc in absurd none)

pub cut-goes : (past : List Line) (line : Line) (q : ℕ) → newest_cut past ≡ Some q → IsCutOrDrop q line → GoesOn past line
cut-goes [] line q e is = tt
cut-goes (Take cycle page pages class ∷ past) line q e is = tt
cut-goes (Miss cycle pages class ∷ past) line q e is = tt
cut-goes (Give cycle page pages ∷ past) line q e is = tt
cut-goes (Scav cycle page pages ∷ past) line q e is = tt
cut-goes (Pull cycle proc page pages ∷ past) line q e is = tt
cut-goes (Cut cycle proc page pages class ∷ past) line q e is = (let same : q ≡ proc = cc in subst (λ (n : ℕ). IsCutOrDrop n line) same is)
cut-goes (Drop cycle proc page pages ∷ past) line q e is = tt

-- behind a Cut no other line goes on
pub idle : (cutting : Option ℕ) (past : List Line) (line : Line) → cutting ≡ newest_cut past → GoesOn past line → ((q : ℕ) → ¬ IsCutOrDrop q line) → cutting ≡ None
idle None past line e goes never = refl
idle (Some q) past line e goes never = absurd (never q (goes-cut past line q (sym e) goes))

pub plain-cuts : (line : Line) → IsPlainLine line → (q : ℕ) → ¬ IsCutOrDrop q line
plain-cuts (Take cycle page pages class) plain q is = is
plain-cuts (Miss cycle pages class) plain q is = is
plain-cuts (Give cycle page pages) plain q is = is
plain-cuts (Scav cycle page pages) plain q is = is
plain-cuts (Pull cycle proc page pages) plain q is = is
plain-cuts (Cut cycle proc page pages class) plain q is = absurd (let none : proc < 0 = plain in omega arith)
plain-cuts (Drop cycle proc page pages) plain q is = absurd (let none : proc < 0 = plain in omega arith)

-- ---- what a replay's parts tell

-- the blocks that are out, with the cuts that wait or without them
pub waiting-blocks : (cycle : ℕ) (cutting : Option ℕ) (caches : List Cache) (settled : List Line) → open_blocks (with_waiting cycle cutting caches settled) ≡ open_blocks settled
waiting-blocks cycle None caches settled = refl
waiting-blocks cycle (Some q) caches settled = behind-blocks cycle q (cache_at caches q).cuts settled

-- behind a line of a processor's cuts, those of its block alone wait, and they are of the line's cycle
cuts-cycle : (cycle c proc : ℕ) (settled : List Line) (cache : Cache) → IsCacheOf settled proc cache → AreOfCycle cycle settled → AreOfCycle c settled
    → behind_cuts cycle proc cache.cuts settled ≡ behind_cuts c proc cache.cuts settled
cuts-cycle cycle c proc settled cache is old new = elim is.block [
  | inl empty ↦ (
      let none : cache.cuts ≡ [] = ap (λ (k : Cache). k.cuts) empty.0 in
      ap (λ (cuts : List CutNote). behind_cuts cycle proc cuts settled) none ∙ sym (ap (λ (cuts : List CutNote). behind_cuts c proc cuts settled) none))
  | inr from ↦ (
      let there = from.out.out in
      let same : cycle ≡ c = sym (old from.out.block there) ∙ new from.out.block there in
      ap (λ (k : ℕ). behind_cuts k proc cache.cuts settled) same)
]

pub waiting-of : (cycle c proc procs : ℕ) (cutting : Option ℕ) (caches : List Cache) (settled past : List Line) (line : Line)
    → past ≡ with_waiting cycle cutting caches settled → cutting ≡ newest_cut past → GoesOn past line → ((q : ℕ) → IsCutOrDrop q line → proc ≡ q) → proc < procs
    → ((q : ℕ) → q < procs → IsCacheOf settled q (cache_at caches q)) → ((q : ℕ) → q < procs → cutting ≢ Some q → (cache_at caches q).cuts ≡ [])
    → AreOfCycle cycle settled → AreOfCycle c settled
    → past ≡ behind_cuts c proc (cache_at caches proc).cuts settled
waiting-of cycle c proc procs None caches settled past line is cut goes one lt each uncut old new =
    let none : (cache_at caches proc).cuts ≡ [] = uncut proc lt (λ e. (let none : ⊥ = cc in none)) in
    is ∙ sym (ap (λ (cuts : List CutNote). behind_cuts c proc cuts settled) none)
waiting-of cycle c proc procs (Some q) caches settled past line is cut goes one lt each uncut old new =
    let same : proc ≡ q = one q (goes-cut past line q (sym cut) goes) in
    is ∙ ap (λ (k : ℕ). behind_cuts cycle k (cache_at caches k).cuts settled) (sym same) ∙ cuts-cycle cycle c proc settled (cache_at caches proc) (each proc lt) old new

-- no cuts but those of this processor wait
pub only-of : (cutting : Option ℕ) (past : List Line) (line : Line) (proc q : ℕ) → cutting ≡ newest_cut past → GoesOn past line → ((k : ℕ) → IsCutOrDrop k line → proc ≡ k) → q ≢ proc → cutting ≢ Some q
only-of None past line proc q cut goes one ne e = (let none : ⊥ = cc in none)
only-of (Some k) past line proc q cut goes one ne e =
    let same : k ≡ q = cc in
    ne (sym same ∙ sym (one k (goes-cut past line k (sym cut) goes)))

-- the pages of a block are those that its processor has, behind the cuts that wait
pub block-pages : (c proc : ℕ) (settled past : List Line) (cache : Cache) → IsCacheOf settled proc cache → past ≡ behind_cuts c proc cache.cuts settled
    → (p : ℕ) → in_block cache.block p ≡ cache_of past proc p
block-pages c proc settled past cache is e p = elim is.block [
  | inl empty ↦ (
      let none : cache.block ≡ None = ap (λ (k : Cache). k.block) empty.0 in
      let cuts : cache.cuts ≡ [] = ap (λ (k : Cache). k.cuts) empty.0 in
      let same : past ≡ settled = e ∙ ap (λ (cs : List CutNote). behind_cuts c proc cs settled) cuts in
      ap (λ (o : Option Block). in_block o p) none ∙ sym (none-left settled proc p empty.1) ∙ ap (λ (l : List Line). cache_of l proc p) (sym same))
  | inr from ↦ (
      let cuts : AreCuts (cache_of settled proc) cache.cuts (has_page from.block) = subst (λ (k : ℕ). AreCuts (cache_of settled k) cache.cuts (has_page from.block)) is.proc from.cuts in
      ap (λ (o : Option Block). in_block o p) from.here ∙ left-of c proc cache.cuts settled (cache_of settled proc) (has_page from.block) (λ k. refl) cuts p
      ∙ ap (λ (l : List Line). cache_of l proc p) (sym e))
]

-- ---- page caches as a line is added

at-cache : (past : List Line) (q proc : ℕ) (here cache : Cache) → q ≡ proc → here ≡ cache → IsCacheOf past proc cache → IsCacheOf past q here
at-cache past q proc here cache e f is = subst (λ (k : ℕ). IsCacheOf past k here) (sym e) (subst (IsCacheOf past proc) (sym f) is)

-- a cache without cuts stays one where its processor's pages and blocks are as they were
same-cuts : (set other left : ℕ → Bool) → ((p : ℕ) → other p ≡ set p) → AreCuts set [] left → AreCuts other [] left
same-cuts set other left same are = λ p. are p ∙ sym (same p)

pub carried : (old new : List Line) (q : ℕ) (cache : Cache) → IsCacheOf old q cache → cache.cuts ≡ [] → ((p : ℕ) → cache_of new q p ≡ cache_of old q p)
    → (HasNoBlock old q → HasNoBlock new q) → ((page : ℕ) → HasBlock old q page → HasBlock new q page) → IsCacheOf new q cache
carried old new q cache is none pages none_out out = record {
  proc = is.proc;
  block = elim is.block [
    | inl empty ↦ inl (empty.0, none_out empty.1)
    | inr from ↦ (
        let mine : HasBlock old q from.block.page = subst (λ (k : ℕ). HasBlock old k from.block.page) is.proc from.out in
        let named : AreCuts (cache_of old q) cache.cuts (has_page from.block) = subst (λ (k : ℕ). AreCuts (cache_of old k) cache.cuts (has_page from.block)) is.proc from.cuts in
        let cuts : AreCuts (cache_of old q) [] (has_page from.block) = subst (λ (cs : List CutNote). AreCuts (cache_of old q) cs (has_page from.block)) none named in
        let kept : AreCuts (cache_of new q) [] (has_page from.block) = same-cuts (cache_of old q) (cache_of new q) (has_page from.block) pages cuts in
        let back : AreCuts (cache_of new q) cache.cuts (has_page from.block) = subst (λ (cs : List CutNote). AreCuts (cache_of new q) cs (has_page from.block)) (sym none) kept in
        inr (record {
          block = from.block;
          here = from.here;
          out = subst (λ (k : ℕ). HasBlock new k from.block.page) (sym is.proc) (out from.block.page mine);
          cuts = subst (λ (k : ℕ). AreCuts (cache_of new k) cache.cuts (has_page from.block)) (sym is.proc) back;
        }))
  ];
}

-- ---- a line without page caches

plain-blocks : (past : List Line) (line : Line) → IsPlainLine line → open_blocks (line ∷ past) ≡ open_blocks past
plain-blocks past (Take cycle page pages class) plain = refl
plain-blocks past (Miss cycle pages class) plain = refl
plain-blocks past (Give cycle page pages) plain = refl
plain-blocks past (Scav cycle page pages) plain = refl
plain-blocks past (Pull cycle proc page pages) plain = absurd (let none : proc < 0 = plain in omega arith)
plain-blocks past (Cut cycle proc page pages class) plain = absurd (let none : proc < 0 = plain in omega arith)
plain-blocks past (Drop cycle proc page pages) plain = absurd (let none : proc < 0 = plain in omega arith)

plain-pages : (past : List Line) (line : Line) → IsPlainLine line → (q p : ℕ) → cache_of (line ∷ past) q p ≡ cache_of past q p
plain-pages past (Take cycle page pages class) plain q p = refl
plain-pages past (Miss cycle pages class) plain q p = refl
plain-pages past (Give cycle page pages) plain q p = refl
plain-pages past (Scav cycle page pages) plain q p = refl
plain-pages past (Pull cycle proc page pages) plain q p = absurd (let none : proc < 0 = plain in omega arith)
plain-pages past (Cut cycle proc page pages class) plain q p = absurd (let none : proc < 0 = plain in omega arith)
plain-pages past (Drop cycle proc page pages) plain q p = absurd (let none : proc < 0 = plain in omega arith)

plain-cut : (past : List Line) (line : Line) → IsPlainLine line → newest_cut (line ∷ past) ≡ None
plain-cut past (Take cycle page pages class) plain = refl
plain-cut past (Miss cycle pages class) plain = refl
plain-cut past (Give cycle page pages) plain = refl
plain-cut past (Scav cycle page pages) plain = refl
plain-cut past (Pull cycle proc page pages) plain = absurd (let none : proc < 0 = plain in omega arith)
plain-cut past (Cut cycle proc page pages class) plain = absurd (let none : proc < 0 = plain in omega arith)
plain-cut past (Drop cycle proc page pages) plain = absurd (let none : proc < 0 = plain in omega arith)

not-some : (q : ℕ) → None ≢ Some q
not-some q e = (let none : ⊥ = cc in none)

-- where the blocks that are out are the same, so is what is known of each
has-same : (old new : List Line) (q page : ℕ) → open_blocks new ≡ open_blocks old → HasBlock old q page → HasBlock new q page
has-same old new q page same has = record { block = has.block; out = subst (In has.block) (sym same) has.out; of_proc = has.of_proc; first = has.first }

none-same : (old new : List Line) (q : ℕ) → open_blocks new ≡ open_blocks old → HasNoBlock old q → HasNoBlock new q
none-same old new q same none block there = none block (subst (In block) same there)

pub cycle-same : (old new : List Line) (c : ℕ) → open_blocks new ≡ open_blocks old → AreOfCycle c old → AreOfCycle c new
cycle-same old new c same are block there = are block (subst (In block) same there)

pub plain-kept : (procs region goal : ℕ) (past : List Line) (caches : List Cache) (cycle out : ℕ) (line : Line) → IsReplayOf procs region goal past past caches None cycle out
    → KeepsOrder past line → IsPlainLine line → LegalFor procs region goal (line ∷ past) → IsReplayOf procs region goal (line ∷ past) (line ∷ past) caches None (cycle_of line) out
plain-kept procs region goal past caches cycle out line known order plain legal =
    let blocks = plain-blocks past line plain in
    record {
      legal = legal;
      settled_legal = legal;
      newest = refl;
      of_cycle = cycle-same past (line ∷ past) (cycle_of line) blocks order.blocks.cycle;
      count = known.count ∙ ap (λ (l : List OpenBlock). length l) (sym blocks);
      cut = sym (plain-cut past line plain);
      each = λ q lt. carried past (line ∷ past) q (cache_at caches q) (known.each q lt) (known.uncut q lt (not-some q)) (λ p. plain-pages past line plain q p)
          (none-same past (line ∷ past) q blocks) (λ page. has-same past (line ∷ past) q page blocks);
      uncut = λ q lt ne. known.uncut q lt (not-some q);
    }

-- ---- a Pull

-- The caches but one are as they were.
pub record Replaces (old new : List Cache) (proc : ℕ) (cache : Cache) : Type 0 where
  pub here : cache_at new proc ≡ cache
  pub others : (q : ℕ) → q ≢ proc → cache_at new q ≡ cache_at old q

pub pull-kept : (procs region goal : ℕ) (past : List Line) (caches caches' : List Cache) (cycle out c proc page n : ℕ) (block : Block)
    → IsReplayOf procs region goal past past caches None cycle out → KeepsOrder past (Pull c proc page n) → LegalFor procs region goal (Pull c proc page n ∷ past)
    → Replaces caches caches' proc (only proc (Some block)) → block.page ≡ page → ((p : ℕ) → has_page block p ≡ cache_of (Pull c proc page n ∷ past) proc p)
    → IsReplayOf procs region goal (Pull c proc page n ∷ past) (Pull c proc page n ∷ past) caches' None c (out + 1)
pull-kept procs region goal past caches caches' cycle out c proc page n block known order legal changed first has =
    let new = Pull c proc page n ∷ past in
    record {
      legal = legal;
      settled_legal = legal;
      newest = refl;
      of_cycle = λ b there. elim there [ inl here ↦ ap (λ (x : OpenBlock). x.cycle) (sym here) | inr old ↦ order.blocks.cycle b old ];
      count = (let count = known.count in omega arith);
      cut = refl;
      each = λ q lt. elim (cases_eq q proc) [
        | inl same ↦ (
            let mine : cache_at caches' q ≡ only proc (Some block) = ap (λ (k : ℕ). cache_at caches' k) same ∙ changed.here in
            at-cache new q proc (cache_at caches' q) (only proc (Some block)) same mine (record {
              proc = refl;
              block = inr (record {
                block = block;
                here = refl;
                out = record { block = record { proc = proc; cycle = c; page = page }; out = inl refl; of_proc = refl; first = sym first };
                cuts = has;
              });
            }))
        | inr ne ↦ (let kept = changed.others q ne in subst (IsCacheOf new q) (sym kept) (
            carried past new q (cache_at caches q) (known.each q lt) (known.uncut q lt (not-some q)) (λ p. other-pull c proc page n q past ne p)
            (λ none b there. elim there [ inl here ↦ (λ e. ne (sym e ∙ ap (λ (x : OpenBlock). x.proc) (sym here))) | inr old ↦ none b old ])
            (λ at had. record { block = had.block; out = inr had.out; of_proc = had.of_proc; first = had.first })))
      ];
      uncut = λ q lt ne. elim (cases_eq q proc) [
        | inl same ↦ (let mine : cache_at caches' q ≡ only proc (Some block) = ap (λ (k : ℕ). cache_at caches' k) same ∙ changed.here in ap (λ (k : Cache). k.cuts) mine)
        | inr other ↦ ap (λ (k : Cache). k.cuts) (changed.others q other) ∙ known.uncut q lt (not-some q)
      ];
    }

-- ---- a Cut

-- a processor that has some page in its cache has its block out, less its cuts
from-run : (settled : List Line) (proc n page : ℕ) (cache : Cache) → IsCacheOf settled proc cache → 1 ≤ n → IsFirstRun (in_block cache.block) n page → IsCutFrom settled cache
from-run settled proc n page cache is some first = elim is.block [
  | inl empty ↦ (
      let none : cache.block ≡ None = ap (λ (k : Cache). k.block) empty.0 in
      let has : in_block cache.block page ≡ true = first.run page (omega arith) (omega arith) in
      let off : in_block cache.block page ≡ false = ap (λ (o : Option Block). in_block o page) none in
      absurd (false≢true (sym off ∙ has)))
  | inr from ↦ from
]

pub cut-past : (c proc : ℕ) (settled past : List Line) (caches' : List Cache) (old new : Cache) (cut : CutNote) → cache_at caches' proc ≡ new → IsCut old new cut → past ≡ behind_cuts c proc old.cuts settled
    → with_waiting c (Some proc) caches' settled ≡ Cut c proc cut.page cut.pages cut.class ∷ past
cut-past c proc settled past caches' old new cut here is e =
    ap (λ (k : Cache). behind_cuts c proc k.cuts settled) here ∙ ap (λ (cs : List CutNote). behind_cuts c proc cs settled) is.noted
    ∙ cuts-after c proc old.cuts cut settled ∙ ap (λ (l : List Line). Cut c proc cut.page cut.pages cut.class ∷ l) (sym e)

pub cut-kept : (procs region goal : ℕ) (settled past : List Line) (caches caches' : List Cache) (cutting : Option ℕ) (cycle out c proc : ℕ) (cut : CutNote) (new : Cache)
    → IsReplayOf procs region goal settled past caches cutting cycle out → past ≡ with_waiting cycle cutting caches settled
    → KeepsOrder past (Cut c proc cut.page cut.pages cut.class) → proc < procs → 1 ≤ cut.pages → cut.pages < 16 → IsSpanSize cut.class cut.pages
    → IsFirstRun (in_block (cache_at caches proc).block) cut.pages cut.page → IsCut (cache_at caches proc) new cut → Replaces caches caches' proc new
    → IsReplayOf procs region goal settled (Cut c proc cut.page cut.pages cut.class ∷ past) caches' (Some proc) c out
cut-kept procs region goal settled past caches caches' cutting cycle out c proc cut new known is order lt some few size first made changed =
    let line = Cut c proc cut.page cut.pages cut.class in
    let same : open_blocks past ≡ open_blocks settled = ap open_blocks is ∙ waiting-blocks cycle cutting caches settled in
    let of_cycle : AreOfCycle c settled = cycle-same past settled c (sym same) order.blocks.cycle in
    let here = known.each proc lt in
    let waits = waiting-of cycle c proc procs cutting caches settled past line is known.cut order.blocks.cuts (λ q e. e) lt known.each known.uncut known.of_cycle of_cycle in
    let pages = block-pages c proc settled past (cache_at caches proc) here waits in
    record {
      legal = ((lt, few, size, first-cut past proc cut.page cut.pages (in_block (cache_at caches proc).block) pages first), order.by, known.legal, order.blocks);
      settled_legal = known.settled_legal;
      newest = refl;
      of_cycle = of_cycle;
      count = known.count;
      cut = refl;
      each = λ q small. elim (cases_eq q proc) [
        | inl e ↦ (
            let mine : cache_at caches' q ≡ new = ap (λ (k : ℕ). cache_at caches' k) e ∙ changed.here in
            at-cache settled q proc (cache_at caches' q) new e mine (record {
              proc = made.proc ∙ here.proc;
              block = inr (cut-more settled (cache_at caches proc) new cut (from-run settled proc cut.pages cut.page (cache_at caches proc) here some first) few size first made);
            }))
        | inr ne ↦ (let kept = changed.others q ne in subst (IsCacheOf settled q) (sym kept) (known.each q small))
      ];
      uncut = λ q small ne. elim (cases_eq q proc) [
        | inl e ↦ absurd (ne (ap (λ (k : ℕ). Some k) (sym e)))
        | inr other ↦ ap (λ (k : Cache). k.cuts) (changed.others q other) ∙ known.uncut q small (only-of cutting past line proc q known.cut order.blocks.cuts (λ k e. e) other)
      ];
    }

-- ---- a Drop

pub drop-kept : (procs region goal : ℕ) (settled past : List Line) (caches caches' : List Cache) (cutting : Option ℕ) (cycle out out' c proc page n : ℕ)
    → IsReplayOf procs region goal settled past caches cutting cycle out → past ≡ with_waiting cycle cutting caches settled
    → KeepsOrder past (Drop c proc page n) → proc < procs → IsCutFrom settled (cache_at caches proc) → LegalFor procs region goal (Drop c proc page n ∷ past)
    → Replaces caches caches' proc (only proc None) → out' + 1 ≡ out
    → IsReplayOf procs region goal (Drop c proc page n ∷ past) (Drop c proc page n ∷ past) caches' None c out'
drop-kept procs region goal settled past caches caches' cutting cycle out out' c proc page n known is order lt from legal changed less =
    let line = Drop c proc page n in
    let same : open_blocks past ≡ open_blocks settled = ap open_blocks is ∙ waiting-blocks cycle cutting caches settled in
    let of_cycle : AreOfCycle c settled = cycle-same past settled c (sym same) order.blocks.cycle in
    let here = known.each proc lt in
    let waits = waiting-of cycle c proc procs cutting caches settled past line is known.cut order.blocks.cuts (λ q e. e) lt known.each known.uncut known.of_cycle of_cycle in
    let cuts : AreCuts (cache_of settled proc) (cache_at caches proc).cuts (has_page from.block) =
    subst (λ (k : ℕ). AreCuts (cache_of settled k) (cache_at caches proc).cuts (has_page from.block)) here.proc from.cuts in
    let mine : HasBlock settled proc from.block.page = subst (λ (k : ℕ). HasBlock settled k from.block.page) here.proc from.out in
    let one : length (blocks_but proc (open_blocks settled)) + 1 ≡ length (open_blocks settled) =
    length-but proc (open_blocks settled) mine.block (blocks-apart procs region goal settled known.settled_legal) mine.out mine.of_proc in
    let left : open_blocks (line ∷ past) ≡ blocks_but proc (open_blocks settled) = ap (λ (l : List OpenBlock). blocks_but proc l) same in
    let counted : length (open_blocks (line ∷ past)) ≡ length (blocks_but proc (open_blocks settled)) = ap (λ (l : List OpenBlock). length l) left in
    record {
      legal = legal;
      settled_legal = legal;
      newest = refl;
      of_cycle = λ b there. order.blocks.cycle b (from-but proc (open_blocks past) b there).0;
      count = (let count = known.count in omega arith);
      cut = refl;
      each = λ q small. elim (cases_eq q proc) [
        | inl e ↦ (
            let empty : cache_at caches' q ≡ only proc None = ap (λ (k : ℕ). cache_at caches' k) e ∙ changed.here in
            at-cache (line ∷ past) q proc (cache_at caches' q) (only proc None) e empty (record {
              proc = refl;
              block = inl (refl, λ b there. (from-but proc (open_blocks past) b there).1);
            }))
        | inr ne ↦ (
            let kept = changed.others q ne in
            let pages : (p : ℕ) → cache_of (line ∷ past) q p ≡ cache_of settled q p = λ p.
            other-drop c proc page n q past ne p ∙ ap (λ (l : List Line). cache_of l q p) waits
            ∙ other-cuts c proc q (cache_at caches proc).cuts settled (cache_of settled proc) (has_page from.block) ne (λ k. refl) cuts p in
            subst (IsCacheOf (line ∷ past) q) (sym kept) (carried settled (line ∷ past) q (cache_at caches q) (known.each q small) (known.uncut q small (only-of cutting past line proc q known.cut order.blocks.cuts (λ k e. e) ne)) pages
            (λ none b there. (let was = from-but proc (open_blocks past) b there in none b (subst (In b) same was.0)))
            (λ at had. record {
              block = had.block;
              out = to-but proc (open_blocks past) had.block (subst (In had.block) (sym same) had.out) (λ e. ne (sym had.of_proc ∙ e));
              of_proc = had.of_proc;
              first = had.first;
            })))
      ];
      uncut = λ q small ne. elim (cases_eq q proc) [
        | inl e ↦ (let empty : cache_at caches' q ≡ only proc None = ap (λ (k : ℕ). cache_at caches' k) e ∙ changed.here in ap (λ (k : Cache). k.cuts) empty)
        | inr other ↦ ap (λ (k : Cache). k.cuts) (changed.others q other) ∙ known.uncut q small (only-of cutting past line proc q known.cut order.blocks.cuts (λ k e. e) other)
      ];
    }
