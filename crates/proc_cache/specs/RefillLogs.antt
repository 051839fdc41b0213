-- What the log of a refill says, part by part: what left the cache, what was paid for, where a span comes from, what was spent.
-- A log has its newest entry first.
use Rattle.std.specs.Prelude.{◌≡◌, ◌⊎◌, ℕ, ◌*◌, ◌/◌, ◌≤◌, List, [], ◌∷◌, Option, Some, None}
use Rattle.size_classes.specs.Classes.{pages_of}
use Rattle.span_state.specs.declared.body.Body.{Body}
use Rattle.worker_log.specs.declared.Entry.{Entry}
use Rattle.worker_log.specs.declared.Entry.TheVariants.{Pushed, Read, Added}
use Rattle.worker_log.specs.SetNumbers.{swept_set}
use Rattle.span_laws.specs.declared.view.Span.{Span}
use Rattle.span_set.specs.declared.hand.Hand.{Hand}
use Rattle.central_lists.specs.declared.answers.Look.{Look}
use Rattle.central_lists.specs.Looks.{PoppedIt, Saw, SawNone, SweptIt, Then, TriedEnough}
use Rattle.central_lists.specs.Works.{Says, just, nothing}
use Rattle.sweeper.specs.NewSpans.{MadeAtLast, MissedAtLast}
use Rattle.sweeper.specs.Pays.{HasPaid}
use Rattle.sweeper.specs.Work.{IsPlain, OnlySweeps, SawAllEmpty}
use Rattle.proc_cache.specs.declared.refills.CacheFrom.{CacheFrom}
use Rattle.proc_cache.specs.declared.refills.CacheFrom.TheVariants.{SweptPartial, SweptHere, Fresh}

-- the bytes of a span of a small class
abbrev pub bytes_of : ℕ → ℕ
bytes_of k = 8192 * pages_of (k / 2)

-- so many bytes were paid for, with so many pages of credit: a number of swept pages was read that reaches the target, or each unswept set was
-- seen empty; and the spans that were swept for it were put away, no run was taken or missed, and no swept set looked at
abbrev pub HasPaidFor : (generation pages distance bytes credit : ℕ) → List Entry → Type 0
HasPaidFor generation pages distance bytes credit said = IsPlain said × OnlySweeps generation said
    × (((seen : ℕ) × ((target : ℕ) × HasPaid generation pages distance bytes credit seen target said)) ⊎ SawAllEmpty generation said)

-- the full span of class k, if there is one, left the cache for the swept full set
abbrev pub HasLeft : ℕ → ℕ → Option Span → List Entry → Type 0
HasLeft g k None said = said ≡ []
HasLeft g k (Some s) said = said ≡ Pushed (swept_set g k 1) s.page ∷ Read 1 g ∷ []

-- the sets were looked into for a span of class k: the swept partial set was seen as it is told, and then so many entries of the unswept sets were
-- popped, a hundred of them, or else each unswept set of the class was seen empty. Each span that was swept meanwhile was pushed to the swept full
-- set of the class, and nothing to a partial set
pub record LookedFor (g k : ℕ) (look : Look) (tried : ℕ) (said : List Entry) : Type 0 where
  pub says : Says g k tried nothing said
  pub looked : Then (Saw (swept_set g k 0) look) (TriedEnough g k tried) said
  pub few : tried ≤ 100

-- where the span of the page comes from: it was popped from the swept partial set; or it was swept, after that set was seen without a span, and is
-- the one swept span that was not pushed to the swept full set; or the sets were looked into, and then a run was taken or cut for it
abbrev pub ComesFrom : Hand → ℕ → Body → CacheFrom → List Entry → Type 0
ComesFrom old k b SweptPartial said = PoppedIt old.worker.view.generation k b.page said × Says old.worker.view.generation k 0 nothing said
ComesFrom old k b SweptHere said = Then (SawNone (swept_set old.worker.view.generation k 0)) (SweptIt b.page) said
    × ((tried : ℕ) × (tried ≤ 100) × Says old.worker.view.generation k tried (just b.page) said)
ComesFrom old k b (Fresh look tried) said = Then (LookedFor old.worker.view.generation k look tried) (MadeAtLast old (pages_of (k / 2)) b) said

-- how many runs are taken or cut for it
abbrev pub taken_for : CacheFrom → ℕ
taken_for SweptPartial = 0
taken_for SweptHere = 0
taken_for (Fresh look tried) = 1

-- the bytes of a span were added to the spent ones
abbrev pub HasSpent : ℕ → List Entry → Type 0
HasSpent bytes said = (before : ℕ) × (said ≡ Added 3 bytes ∷ Read 3 before ∷ [])

-- the log of a refill of class k: the full span leaves, the span's bytes are paid for, and a span comes from somewhere and its bytes are spent
abbrev pub HasFilled : Hand → (pages distance : ℕ) → ℕ → Option Span → Body → CacheFrom → List Entry → Type 0
HasFilled old pages distance k o b from said =
    Then (HasLeft old.worker.view.generation k o)
    (Then (HasPaidFor old.worker.view.generation pages distance (bytes_of k) 0)
    (Then (ComesFrom old k b from) (HasSpent (bytes_of k)))) said

-- the log of a refill that is refused: the sets were looked into, and then there was no run, although each unswept set was seen empty
abbrev pub HasMissed : Hand → (pages distance : ℕ) → ℕ → Option Span → ℕ → List Entry → Type 0
HasMissed old pages distance k o line said =
    Then (HasLeft old.worker.view.generation k o)
    (Then (HasPaidFor old.worker.view.generation pages distance (bytes_of k) 0)
    (λ rest. (look : Look) × ((tried : ℕ) × Then (LookedFor old.worker.view.generation k look tried) (MissedAtLast old (pages_of (k / 2)) k line) rest))) said
