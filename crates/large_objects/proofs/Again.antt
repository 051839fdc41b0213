-- What a call for a large object asks holds again behind one that was refused.
use Rattle.std.proofs.Common.{ℕ}
use Rattle.std.specs.Prelude.{Err}
use Rattle.atomic_table.specs.Seated.{TableId}
use Rattle.profile_cycle.specs.History.{RingId}
use Rattle.span_state.specs.MarkSet.{MarkSet}
use Rattle.span_laws.specs.Asks.{IsIdle}
use Rattle.span_laws.specs.declared.answers.Refused.{Refused}
use Rattle.span_laws.specs.declared.answers.Refused.TheVariants.{NoRun, NoMemory as WantsMemory}
use Rattle.span_set.specs.Asks.{MaySearch}
use Rattle.span_set.specs.Tallies.{Frees}
use Rattle.span_set.specs.declared.hand.Hand.{Hand}
use Rattle.proc_cache.proofs.Again.{holds_again}
use Rattle.large_objects.specs.Larges.{AllocatesLarge}

pub large_again : (t : TableId) (r : RingId) (m : MarkSet) (pages distance n k : ℕ) (old new : Hand) (e : Refused) → MaySearch t r m old → AllocatesLarge pages distance n k old new (Err e) → Frees m old new
    → MaySearch t r m new × IsIdle new.worker.view.own
large_again t r m pages distance n k old new (NoRun line) may x f = holds_again t r m old new may f x.1.0 x.1.1
large_again t r m pages distance n k old new WantsMemory may x f = holds_again t r m old new may f x.0 x.1
