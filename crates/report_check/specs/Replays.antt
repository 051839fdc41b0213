-- A journal that is replayed over pages and page caches. Its newest lines may be Cuts that the pages do not know yet.
use Rattle.std.specs.Prelude.{◌≡◌, ◌≢◌, ℕ, ◌*◌, ◌<◌, ◌⊎◌, List, [], ◌∷◌, length, Option, Some, None, slice_index_or}
use Rattle.page_bitmap.specs.declared.line.Line.{Line}
use Rattle.page_bitmap.specs.declared.line.Line.TheVariants.{Take, Miss, Give, Scav, Pull, Cut, Drop}
use Rattle.page_cache.specs.Cache.{Cache, only}
use Rattle.page_alloc.specs.Blocks.{AreOfCycle, HasNoBlock, open_blocks}
use Rattle.page_alloc.specs.Cuts.{IsCutFrom, behind_cuts}
use Rattle.page_alloc.specs.Journal.{LegalFor, MayFollowFor, cycle_of}
use Rattle.report_check.specs.declared.replay.Replay.{Replay}

-- The page cache of a processor.
abbrev pub cache_at : List Cache → ℕ → Cache
cache_at caches q = slice_index_or caches q (only q None)

-- The past with the cuts that wait for their Drop, of the processor that made them.
abbrev pub with_waiting : ℕ → Option ℕ → List Cache → List Line → List Line
with_waiting cycle None caches past = past
with_waiting cycle (Some q) caches past = behind_cuts cycle q (cache_at caches q).cuts past

-- The journal so far, with its newest line first.
abbrev pub past_in : Replay → List Line
past_in r = with_waiting r.cycle r.cutting r.caches.items r.pages.past

-- How many processors have page caches.
abbrev pub procs_in : Replay → ℕ
procs_in r = length r.caches.items

-- The cycle of the newest line, or 0 where there is none.
abbrev pub newest_cycle : List Line → ℕ
newest_cycle [] = 0
newest_cycle (line ∷ past) = cycle_of line

-- The processor of the newest line, where that is a Cut.
abbrev pub newest_cut : List Line → Option ℕ
newest_cut [] = None
newest_cut (Take cycle page pages class ∷ past) = None
newest_cut (Miss cycle pages class ∷ past) = None
newest_cut (Give cycle page pages ∷ past) = None
newest_cut (Scav cycle page pages ∷ past) = None
newest_cut (Pull cycle proc page pages ∷ past) = None
newest_cut (Cut cycle proc page pages class ∷ past) = Some proc
newest_cut (Drop cycle proc page pages ∷ past) = None

-- The page cache is that of a processor that has no block out and an empty one, or its block less its cuts.
pub record IsCacheOf (past : List Line) (q : ℕ) (cache : Cache) : Type 0 where
  pub proc : cache.proc ≡ q
  pub block : ((cache ≡ only q None) × HasNoBlock past q) ⊎ IsCutFrom past cache

-- What is known of a replay: the lines so far are legal, and the pages and the page caches are those that the lines made, up to the
-- newest Cuts. The pages have the lines in `settled`.
pub record IsReplayOf (procs region goal : ℕ) (settled past : List Line) (caches : List Cache) (cutting : Option ℕ) (cycle out : ℕ) : Type 0 where
  pub legal : LegalFor procs region goal past
  pub settled_legal : LegalFor procs region goal settled
  pub newest : cycle ≡ newest_cycle past
  pub of_cycle : AreOfCycle cycle settled
  pub count : out ≡ length (open_blocks settled)
  pub cut : cutting ≡ newest_cut past
  pub each : (q : ℕ) → q < procs → IsCacheOf settled q (cache_at caches q)
  pub uncut : (q : ℕ) → q < procs → cutting ≢ Some q → (cache_at caches q).cuts ≡ []

abbrev pub IsReplay : Replay → Type 0
IsReplay r = IsReplayOf (procs_in r) r.pages.region r.pages.goal r.pages.past (past_in r) r.caches.items r.cutting r.cycle r.out

-- The pages of its region, and the goal for backed pages.
abbrev pub region_in : Replay → ℕ
region_in r = r.pages.region

abbrev pub goal_in : Replay → ℕ
goal_in r = r.pages.goal

-- A replay begins, with no line, for so many processors with page caches, chunks of 512 pages and a goal.
pub record Begins (count chunks limit : ℕ) (r : Replay) : Type 0 where
  pub sound : IsReplay r
  pub procs : procs_in r ≡ count
  pub region : region_in r ≡ 512 * chunks
  pub goal : goal_in r ≡ limit
  pub past : past_in r ≡ []

-- A line was added.
pub record Accepts (old new : Replay) (line : Line) : Type 0 where
  pub sound : IsReplay new
  pub procs : procs_in new ≡ procs_in old
  pub region : region_in new ≡ region_in old
  pub goal : goal_in new ≡ goal_in old
  pub past : past_in new ≡ line ∷ past_in old

-- The line may come next, cycles and blocks apart.
abbrev pub MayFollowIn : Replay → Line → Type 0
MayFollowIn r line = MayFollowFor (procs_in r) (region_in r) (goal_in r) (past_in r) line

-- The journal stays legal with the line.
abbrev pub MayStandIn : Replay → Line → Type 0
MayStandIn r line = LegalFor (procs_in r) (region_in r) (goal_in r) (line ∷ past_in r)
