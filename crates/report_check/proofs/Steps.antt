-- A replay before and after a line.
use Rattle.std.proofs.Common.{◌≡◌, ◌≢◌, ℕ, zero, suc, ◌<◌, ◌≤◌, Bool, true, false, eqb, List, [], ◌∷◌, set, length, get_or, Option, Some, None, refl, sym, ◌∙◌, ap, subst, arith, inl, inr, get_or-set_other, get_or-set_same}
use Rattle.std.specs.Prelude.{MatchBool, is_some}
use Rattle.std.proofs.lemmas.Bool.{cases_lt}
use Rattle.page_bitmap.specs.declared.line.Line.{Line}
use Rattle.page_cache.specs.declared.block.Block.{Block}
use Rattle.page_cache.specs.Cache.{Cache, only}
use Rattle.page_alloc.specs.Lists.{In}
use Rattle.page_alloc.specs.Blocks.{AreOfCycle, HasBlock, HasNoBlock, OpenBlock, open_blocks}
use Rattle.page_alloc.specs.Cuts.{IsCutFrom}
use Rattle.page_alloc.specs.Journal.{GoesOn, IsCutOrDrop, LegalFor, cycle_of}
use Rattle.page_alloc.proofs.BlocksOut.{follows-for}
use Rattle.report_check.specs.declared.replay.Replay.{Replay}
use Rattle.report_check.specs.ReplayedLines.{HasLine, IsPlainLine, KeepsOrder, MayCome}
use Rattle.report_check.specs.Replays.{Accepts, IsCacheOf, IsReplay, IsReplayOf, MayFollowIn, MayStandIn, cache_at, past_in, procs_in, with_waiting}
use Rattle.report_check.proofs.Coming.{judged}
use Rattle.report_check.proofs.CachedPages.{none-of, some-block}
use Rattle.report_check.proofs.Standing.{Replaces, by-newest, cut-goes, cycle-same, goes-any, goes-cut, idle, newest-by, plain-cuts, plain-kept, waiting-blocks}

-- ---- parts of a replay

pub same-blocks : (r : Replay) → open_blocks (past_in r) ≡ open_blocks r.pages.past
same-blocks r = waiting-blocks r.cycle r.cutting r.caches.items r.pages.past

pub past-idle : (r : Replay) → r.cutting ≡ None → past_in r ≡ r.pages.past
past-idle r none = ap (λ (o : Option ℕ). with_waiting r.cycle o r.caches.items r.pages.past) none

pub idle-of : (r : Replay) (line : Line) → IsReplay r → KeepsOrder (past_in r) line → ((q : ℕ) → ¬ IsCutOrDrop q line) → r.cutting ≡ None
idle-of r line known order never = idle r.cutting (past_in r) line known.cut order.blocks.cuts never

pub of-settled : (r : Replay) (line : Line) → KeepsOrder (past_in r) line → AreOfCycle (cycle_of line) r.pages.past
of-settled r line order = cycle-same (past_in r) r.pages.past (cycle_of line) (sym (same-blocks r)) order.blocks.cycle

pub known-idle : (r : Replay) → IsReplay r → r.cutting ≡ None → IsReplayOf (procs_in r) r.pages.region r.pages.goal r.pages.past r.pages.past r.caches.items None r.cycle r.out
known-idle r known none =
    let past = past-idle r none in
    let one : IsReplayOf (procs_in r) r.pages.region r.pages.goal r.pages.past r.pages.past r.caches.items r.cutting r.cycle r.out =
    subst (λ (p : List Line). IsReplayOf (procs_in r) r.pages.region r.pages.goal r.pages.past p r.caches.items r.cutting r.cycle r.out) past known in
    subst (λ (o : Option ℕ). IsReplayOf (procs_in r) r.pages.region r.pages.goal r.pages.past r.pages.past r.caches.items o r.cycle r.out) none one

-- What the parts of a replay are.
pub record HasParts (r : Replay) (procs region goal : ℕ) (settled past : List Line) (caches : List Cache) (cutting : Option ℕ) (cycle out : ℕ) : Type 0 where
  pub is_procs : procs_in r ≡ procs
  pub is_region : r.pages.region ≡ region
  pub is_goal : r.pages.goal ≡ goal
  pub is_settled : r.pages.past ≡ settled
  pub is_past : past_in r ≡ past
  pub is_caches : r.caches.items ≡ caches
  pub is_cutting : r.cutting ≡ cutting
  pub is_cycle : r.cycle ≡ cycle
  pub is_out : r.out ≡ out

pub as-replay : (r : Replay) (procs region goal : ℕ) (settled past : List Line) (caches : List Cache) (cutting : Option ℕ) (cycle out : ℕ) → HasParts r procs region goal settled past caches cutting cycle out
    → IsReplayOf procs region goal settled past caches cutting cycle out → IsReplay r
as-replay r procs region goal settled past caches cutting cycle out e known =
    let k1 : IsReplayOf (procs_in r) region goal settled past caches cutting cycle out = subst (λ (x : ℕ). IsReplayOf x region goal settled past caches cutting cycle out) (sym e.is_procs) known in
    let k2 : IsReplayOf (procs_in r) r.pages.region goal settled past caches cutting cycle out = subst (λ (x : ℕ). IsReplayOf (procs_in r) x goal settled past caches cutting cycle out) (sym e.is_region) k1 in
    let k3 : IsReplayOf (procs_in r) r.pages.region r.pages.goal settled past caches cutting cycle out = subst (λ (x : ℕ). IsReplayOf (procs_in r) r.pages.region x settled past caches cutting cycle out) (sym e.is_goal) k2 in
    let k4 : IsReplayOf (procs_in r) r.pages.region r.pages.goal r.pages.past past caches cutting cycle out =
    subst (λ (x : List Line). IsReplayOf (procs_in r) r.pages.region r.pages.goal x past caches cutting cycle out) (sym e.is_settled) k3 in
    let k5 : IsReplayOf (procs_in r) r.pages.region r.pages.goal r.pages.past (past_in r) caches cutting cycle out =
    subst (λ (x : List Line). IsReplayOf (procs_in r) r.pages.region r.pages.goal r.pages.past x caches cutting cycle out) (sym e.is_past) k4 in
    let k6 : IsReplayOf (procs_in r) r.pages.region r.pages.goal r.pages.past (past_in r) r.caches.items cutting cycle out =
    subst (λ (x : List Cache). IsReplayOf (procs_in r) r.pages.region r.pages.goal r.pages.past (past_in r) x cutting cycle out) (sym e.is_caches) k5 in
    let k7 : IsReplayOf (procs_in r) r.pages.region r.pages.goal r.pages.past (past_in r) r.caches.items r.cutting cycle out =
    subst (λ (x : Option ℕ). IsReplayOf (procs_in r) r.pages.region r.pages.goal r.pages.past (past_in r) r.caches.items x cycle out) (sym e.is_cutting) k6 in
    let k8 : IsReplayOf (procs_in r) r.pages.region r.pages.goal r.pages.past (past_in r) r.caches.items r.cutting r.cycle out =
    subst (λ (x : ℕ). IsReplayOf (procs_in r) r.pages.region r.pages.goal r.pages.past (past_in r) r.caches.items r.cutting x out) (sym e.is_cycle) k7 in
    subst (λ (x : ℕ). IsReplayOf (procs_in r) r.pages.region r.pages.goal r.pages.past (past_in r) r.caches.items r.cutting r.cycle x) (sym e.is_out) k8

-- ---- the order of lines

pub settled-test : (r : Replay) → IsReplay r → MatchBool (eqb r.out 0) (open_blocks (past_in r) ≡ []) (open_blocks (past_in r) ≢ [])
settled-test r known =
    let same = same-blocks r in
    let count = known.count in
    judged r.out 0 (open_blocks (past_in r) ≡ []) (open_blocks (past_in r) ≢ [])
    (λ e. same ∙ none-of (open_blocks r.pages.past) (sym count ∙ e))
    (λ ne none. ne (count ∙ ap (λ (l : List OpenBlock). length l) (sym same ∙ none)))

pub falls : (r : Replay) (line : Line) (c : ℕ) → IsReplay r → c ≡ cycle_of line → c < r.cycle → ¬ KeepsOrder (past_in r) line
falls r line c known e lt order = (let by = newest-by (cycle_of line) (past_in r) order.by in let newest = known.newest in absurd (omega arith))

pub other-cycle : (r : Replay) (line : Line) (c : ℕ) → IsReplay r → c ≡ cycle_of line → 0 < r.out → r.cycle < c → ¬ KeepsOrder (past_in r) line
other-cycle r line c known e some lt order =
    let count = known.count in
    let block = some-block (open_blocks r.pages.past) (omega arith) in
    let old = known.of_cycle block.0 block.1 in
    let new = of-settled r line order block.0 block.1 in
    absurd (omega arith)

-- the cycle is that of the blocks that are out, or none is
pub same-cycle : (r : Replay) (c : ℕ) → IsReplay r → r.cycle ≤ c → (0 < r.out → c ≤ r.cycle) → AreOfCycle c (past_in r)
same-cycle r c known le few = elim (cases_lt 0 r.out) [
  | inl some ↦ (
      let at_most = few some in
      let e : r.cycle ≡ c = omega arith in
      λ block there. known.of_cycle block (subst (In block) (same-blocks r) there) ∙ e)
  | inr none ↦ (
      let count = known.count in
      let empty : open_blocks (past_in r) ≡ [] = same-blocks r ∙ none-of (open_blocks r.pages.past) (omega arith) in
      λ block there. absurd (subst (In block) empty there))
]

pub behind-cut : (b : Bool) (r : Replay) (line : Line) (q : ℕ) → IsReplay r → r.cutting ≡ Some q → MatchBool b (IsCutOrDrop q line) (¬ IsCutOrDrop q line)
    → MatchBool b (GoesOn (past_in r) line) (¬ GoesOn (past_in r) line)
behind-cut true r line q known cut is = cut-goes (past_in r) line q (sym known.cut ∙ cut) is
behind-cut false r line q known cut isnt = λ goes. isnt (goes-cut (past_in r) line q (sym known.cut ∙ cut) goes)

pub behind-any : (r : Replay) (line : Line) → IsReplay r → r.cutting ≡ None → GoesOn (past_in r) line
behind-any r line known none = goes-any (past_in r) line (sym known.cut ∙ none)

pub keeps-test : (b : Bool) (r : Replay) (line : Line) (c : ℕ) → IsReplay r → c ≡ cycle_of line → r.cycle ≤ c → (0 < r.out → c ≤ r.cycle) → MatchBool b (GoesOn (past_in r) line) (¬ GoesOn (past_in r) line)
    → MatchBool b (KeepsOrder (past_in r) line) (¬ KeepsOrder (past_in r) line)
keeps-test true r line c known e le few goes = (let newest = known.newest in record {
  by = by-newest (cycle_of line) (past_in r) (omega arith);
  blocks = record {
    cycle = subst (λ (k : ℕ). AreOfCycle k (past_in r)) e (same-cycle r c known le few);
    cuts = goes;
  };
})
keeps-test false r line c known e le few never = λ order. never order.blocks.cuts

-- ---- a line without page caches

pub accept-plain : (old new : Replay) (line : Line) → IsReplay old → KeepsOrder (past_in old) line → IsPlainLine line → HasLine old.pages new.pages line
    → new.caches.items ≡ old.caches.items → new.cutting ≡ old.cutting → new.cycle ≡ cycle_of line → new.out ≡ old.out → Accepts old new line
accept-plain old new line known order plain has caches cutting cycle out =
    let none = idle-of old line known order (plain-cuts line plain) in
    let none' : new.cutting ≡ None = cutting ∙ none in
    let was = past-idle old none in
    let past : past_in new ≡ line ∷ old.pages.past = past-idle new none' ∙ has.past in
    let legal : LegalFor (procs_in old) old.pages.region old.pages.goal (line ∷ old.pages.past) = rw (has.region, has.goal, has.past) at has.legal (procs_in old) known.settled_legal in
    let order' : KeepsOrder old.pages.past line = subst (λ (p : List Line). KeepsOrder p line) was order in
    record {
      sound = as-replay new (procs_in old) old.pages.region old.pages.goal (line ∷ old.pages.past) (line ∷ old.pages.past) old.caches.items None (cycle_of line) old.out
          (record { is_procs = ap (λ (l : List Cache). length l) caches; is_region = has.region; is_goal = has.goal; is_settled = has.past; is_past = past; is_caches = caches; is_cutting = none'; is_cycle = cycle; is_out = out })
          (plain-kept (procs_in old) old.pages.region old.pages.goal old.pages.past old.caches.items old.cycle old.out line (known-idle old known none) order' plain legal);
      procs = ap (λ (l : List Cache). length l) caches;
      region = has.region;
      goal = has.goal;
      past = past ∙ ap (λ (p : List Line). line ∷ p) (sym was);
    }

pub refuse-plain : (old : Replay) (line : Line) → IsReplay old → KeepsOrder (past_in old) line → IsPlainLine line → ¬ MayCome old.pages line → ¬ MayFollowIn old line
refuse-plain old line known order plain off may =
    let was = past-idle old (idle-of old line known order (plain-cuts line plain)) in
    off (subst (λ (p : List Line). MayCome (record { region = old.pages.region; goal = old.pages.goal; past = p; spare = 0 }) line) was (follows-for (procs_in old) 0 old.pages.region old.pages.goal (past_in old) line plain may))

-- ---- the page cache of a processor

at-any : (xs : List Cache) (k : ℕ) (d e : Cache) → k < length xs → get_or xs k d ≡ get_or xs k e
at-any [] k d e lt = absurd (omega arith)
at-any (x ∷ xs) zero d e lt = refl
at-any (x ∷ xs) (suc k) d e lt = at-any xs k d e (omega arith)

pub at-is : (caches : List Cache) (q : ℕ) (cache : Cache) → q < length caches → cache ≡ get_or caches q cache → cache_at caches q ≡ cache
at-is caches q cache lt e = at-any caches q (only q None) cache lt ∙ sym e

pub replaces : (caches : List Cache) (q : ℕ) (cache : Cache) → q < length caches → Replaces caches (set caches q cache) q cache
replaces caches q cache lt = record {
  here = get_or-set_same caches q cache (only q None) lt;
  others = λ k ne. get_or-set_other caches q k cache (only k None) ne;
}

-- the processor has no block, as its cache has none, or one
pub no-block : (settled : List Line) (q : ℕ) (cache : Cache) → IsCacheOf settled q cache → is_some cache.block ≡ false → (cache ≡ only q None) × HasNoBlock settled q
no-block settled q cache is off = elim is.block [
  | inl empty ↦ empty
  | inr from ↦ (let some : is_some cache.block ≡ true = ap (λ (o : Option Block). is_some o) from.here in let none : ⊥ = cc in absurd none)
]

pub has-block : (settled : List Line) (q : ℕ) (cache : Cache) → IsCacheOf settled q cache → is_some cache.block ≡ true → IsCutFrom settled cache
has-block settled q cache is on = elim is.block [
  | inl empty ↦ (
      let off : cache.block ≡ None = ap (λ (k : Cache). k.block) empty.0 in
      let gone : is_some cache.block ≡ false = ap (λ (o : Option Block). is_some o) off in
      let none : ⊥ = cc in absurd none)
  | inr from ↦ from
]

pub its-block : (settled : List Line) (q : ℕ) (cache : Cache) (block : Block) → IsCacheOf settled q cache → cache.block ≡ Some block → IsCutFrom settled cache
its-block settled q cache block is on = has-block settled q cache is (ap (λ (o : Option Block). is_some o) on)

pub no-blocks-in : (r : Replay) (q : ℕ) → HasNoBlock r.pages.past q → HasNoBlock (past_in r) q
no-blocks-in r q none block there = none block (subst (In block) (same-blocks r) there)

pub block-in : (r : Replay) (q page : ℕ) → HasBlock r.pages.past q page → HasBlock (past_in r) q page
block-in r q page has = record { block = has.block; out = subst (In has.block) (sym (same-blocks r)) has.out; of_proc = has.of_proc; first = has.first }

-- ---- what an answer says of the whole journal

pub off-order : (r : Replay) (line : Line) → ¬ KeepsOrder (past_in r) line → ¬ MayStandIn r line
off-order r line off may = off (record { by = may.1; blocks = may.3 })
