-- What the calls of this crate ask holds again behind one that was refused.
use Rattle.std.proofs.Common.{◌≡◌, ℕ, List, []}
use Rattle.std.specs.Prelude.{Result, Ok, Err}
use Rattle.atomic_table.specs.Seated.{TableId}
use Rattle.fallible_list.specs.declared.list.NoMemory.{NoMemory}
use Rattle.profile_cycle.specs.History.{RingId}
use Rattle.span_state.specs.MarkSet.{MarkSet}
use Rattle.worker_log.specs.declared.Entry.{Entry}
use Rattle.span_laws.specs.declared.answers.Refused.{Refused}
use Rattle.span_laws.specs.declared.answers.Refused.TheVariants.{NoRun, NoMemory as WantsMemory}
use Rattle.span_set.specs.Asks.{MaySearch, WorksBy}
use Rattle.span_set.specs.Tallies.{Frees}
use Rattle.span_set.specs.declared.hand.Hand.{Hand}
use Rattle.span_set.proofs.Asks.{may_again, works_still}
use Rattle.sweeper.specs.NewSpans.{MakesSpan}
use Rattle.sweeper.specs.Pays.{Pays}
use Rattle.sweeper.specs.Work.{Stays, HandSweeps}
use Rattle.sweeper.specs.declared.answers.Paid.{Paid}
use Rattle.sweeper.specs.declared.answers.Paid.TheVariants.{Reached, NothingLeft}

-- a hand still works by the same where what its worker has stays
pub stays_works : (t : TableId) (r : RingId) (m : MarkSet) (old new : Hand) → Stays old.worker new.worker → Frees m old new → WorksBy t r m old → WorksBy t r m new
stays_works t r m old new s f works = works_still t r m old new s.table s.away s.marks f works

-- what a worker has stays where it pays
pub pays_stays : (pages distance bytes credit : ℕ) (old new : Hand) (paid : Result Paid NoMemory) → Pays pages distance bytes credit old new paid → Stays old.worker new.worker
pays_stays pages distance bytes credit old new (Ok (Reached seen target)) w = w.does.stays
pays_stays pages distance bytes credit old new (Ok NothingLeft) w = w.does.stays
pays_stays pages distance bytes credit old new (Err e) w = w.does.stays

module _ (t : TableId) (r : RingId) (m : MarkSet) (old new : Hand) (may : MaySearch t r m old) (f : Frees m old new) where
  pub works_again : (more : List ℕ) (P : List Entry → Type 0) → HandSweeps more P old new → MaySearch t r m new × (new.worker.view.own.popped ≡ [])
  works_again more P w = let s = w.does.stays in (may_again t r m old new s.table s.away s.marks s.claimed f may, w.popped)

  pub made_again : (n class : ℕ) (e : Refused) → MakesSpan n class old new (Err e) → MaySearch t r m new × (new.worker.view.own.popped ≡ [])
  made_again n class (NoRun line) x = works_again [] _ x.1
  made_again n class WantsMemory x = works_again [] _ x
