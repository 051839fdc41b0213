-- What the calls of this crate ask holds again behind one that was refused.
use Rattle.std.proofs.Common.{◌≡◌, ℕ, inl, List, [], ap, sym, ◌∙◌}
use Rattle.std.specs.Prelude.{Err}
use Rattle.atomic_table.specs.Seated.{TableId}
use Rattle.profile_cycle.specs.History.{RingId}
use Rattle.span_state.specs.MarkSet.{MarkSet}
use Rattle.worker_log.specs.declared.Entry.{Entry}
use Rattle.span_laws.specs.Asks.{IsIdle}
use Rattle.span_laws.specs.declared.answers.Refused.{Refused}
use Rattle.span_laws.specs.declared.answers.Refused.TheVariants.{NoRun, NoMemory as WantsMemory}
use Rattle.span_laws.specs.declared.view.View.{View}
use Rattle.span_set.specs.Asks.{MaySearch}
use Rattle.span_set.specs.Tallies.{Frees}
use Rattle.span_set.specs.declared.hand.Hand.{Hand}
use Rattle.span_set.proofs.Asks.{may_again}
use Rattle.proc_cache.specs.Allocs.{AllocatesIn}
use Rattle.proc_cache.specs.Cache.{Cache, slot_at}
use Rattle.proc_cache.specs.Hits.{IsMissing}
use Rattle.proc_cache.specs.Leaves.{Holds, Leaves}
use Rattle.proc_cache.specs.Refills.{RefillsCache}
use Rattle.proc_cache.specs.Serves.{IsUsedBut, IsUsedCache, Serves}
use Rattle.proc_cache.proofs.Holding.{idle_after}
use Rattle.proc_cache.proofs.Placing.{refused_used, slot_gone}

module _ (t : TableId) (r : RingId) (m : MarkSet) (old new : Hand) (may : MaySearch t r m old) (f : Frees m old new) where
  pub leaves_again : (said : List Entry) → Leaves said old new → MaySearch t r m new × IsIdle new.worker.view.own
  leaves_again said x = (may_again t r m old new x.table x.away (ap (λ (v : View). v.marks) x.view) (x.idle.claimed ∙ sym may.unclaimed) f may, x.idle)

  pub holds_again : (said : List Entry) → Holds [] said old new → MaySearch t r m new × IsIdle new.worker.view.own
  holds_again said x = (may_again t r m old new x.table x.away (ap (λ (v : View). v.marks) x.view) (x.claimed ∙ sym may.unclaimed) f may, idle_after said old new x)

  module _ (pages distance k : ℕ) (c d : Cache) where
    pub alloc_again : (e : Refused) → AllocatesIn pages distance k c d old new (Err e) → MaySearch t r m new × IsIdle new.worker.view.own
    alloc_again (NoRun line) x = leaves_again x.4.0 x.4.1
    alloc_again WantsMemory x = leaves_again x.1.0 x.1.1

    pub refill_again : (e : Refused) → RefillsCache pages distance k c d old new (Err e) → Serves new.worker.view.generation new.worker.view.own d → IsUsedBut k new.worker.view.own d
        → MaySearch t r m new × IsIdle new.worker.view.own × IsMissing d k × (d.flushed ≡ c.flushed) × (new.worker.view.generation ≡ old.worker.view.generation) × IsUsedCache new.worker.view.own
    refill_again (NoRun line) x v u = let a = leaves_again x.2.0 x.2.1 in
        (a.0, a.1, inl (ap (λ (z : Cache). slot_at z k) x.0 ∙ slot_gone c k), ap (λ (z : Cache). z.flushed) x.0, ap (λ (y : View). y.generation) x.2.1.view, refused_used pages distance k c d old new (NoRun line) x v u)
    refill_again WantsMemory x v u = let a = leaves_again x.1.0 x.1.1 in
        (a.0, a.1, inl (ap (λ (z : Cache). slot_at z k) x.0 ∙ slot_gone c k), ap (λ (z : Cache). z.flushed) x.0, ap (λ (y : View). y.generation) x.1.1.view, refused_used pages distance k c d old new WantsMemory x v u)
