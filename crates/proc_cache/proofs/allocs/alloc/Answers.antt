use Rattle.std.proofs.Common.{◌≡◌, ℕ, ap, sym, subst, ◌∙◌}
use Rattle.std.specs.Prelude.{Ok}
use Rattle.profile_cycle.specs.Naming.{slot_for}
use Rattle.profile_cycle.specs.Sampling.{Countdown, behind, is_sample}
use Rattle.profile_cycle.proofs.Named.{slot-small}
use Rattle.span_laws.specs.Views.{Seen}
use Rattle.span_set.proofs.Tallies.{may-still}
use Rattle.proc_cache.specs.Allocs.{AllocatesIn}
use Rattle.proc_cache.specs.Cache.{Cache}
use Rattle.proc_cache.specs.Serves.{IsUsedCache}
use Rattle.proc_cache.proofs.Sampling.{allocates_to, counts_one, serves_to}
use Rattle.proc_cache.proofs.allocs.alloc.Goals as goal

pub count_placed-sampled-requires-clause-ring : goal.count_placed-sampled-requires-clause-ring
count_placed-sampled-requires-clause-ring g c = (may-still c.args.shop.now.marks.now c.args.shop.now.ring.now c.args.hand.now c.alloc_in.new.hand c.requires.works.counts c.alloc_in.ensures.tally).ring

pub returns-clause-allocates : goal.returns-clause-allocates
returns-clause-allocates g c = let mid = c.alloc_in.new.hand in let e = c.count_placed-sampled.ensures in (
  c.in-Small.class,
  c.in-Small.ensures.2,
  allocates_to c.args.shop.now.pages c.args.shop.now.distance _ c.in_ok-addr.addr c.args.proc.now c.alloc_in.new.proc c.count_placed-sampled.new.proc c.args.hand.now mid c.count_placed-sampled.new.hand
      (subst (λ (k : ℕ). AllocatesIn c.args.shop.now.pages c.args.shop.now.distance k c.args.proc.now c.alloc_in.new.proc c.args.hand.now mid (Ok c.in_ok-addr.addr)) c.span_class.ensures c.in_ok-addr.ensures.allocates)
      (ap (λ (z : Cache). z.flushed) e.cache) (ap (λ (z : Cache). z.slots) e.cache) e.worker (ap (λ r. r.items) e.notes),
)

pub returns-clause-number : goal.returns-clause-number
returns-clause-number g c = ap (λ (z : Cache). z.number) c.count_placed-sampled.ensures.cache ∙ c.alloc_in.ensures.number

pub returns-clause-sampled : goal.returns-clause-sampled
returns-clause-sampled g c = let slot : c.from-slot.result ≡ slot_for c.args.event.size = c.from-slot.ensures ∙ c.slot_size.ensures.size ∙ slot-small c.args.event.size c.in-Small.class c.in-Small.ensures.0 c.in-Small.ensures.1 c.in-Small.ensures.2 in
    c.count_placed-sampled.ensures.sampled ∙ ap (λ (t : Countdown). is_sample t c.from-slot.result) c.alloc_in.ensures.countdown ∙ ap (is_sample c.args.proc.now.countdown) slot

pub returns-clause-countdown : goal.returns-clause-countdown
returns-clause-countdown g c = let slot : c.from-slot.result ≡ slot_for c.args.event.size = c.from-slot.ensures ∙ c.slot_size.ensures.size ∙ slot-small c.args.event.size c.in-Small.class c.in-Small.ensures.0 c.in-Small.ensures.1 c.in-Small.ensures.2 in
    ap (λ (z : Cache). z.countdown) c.count_placed-sampled.ensures.cache ∙ ap (λ (t : Countdown). behind t c.from-slot.result) c.alloc_in.ensures.countdown ∙ ap (behind c.args.proc.now.countdown) slot

pub returns-clause-counted : goal.returns-clause-counted
returns-clause-counted g c = let e = c.count_placed-sampled.ensures in
    counts_one c.args.shop.now.marks.now c.args.bucket c.count_placed-sampled.result c.args.hand.now c.alloc_in.new.hand c.count_placed-sampled.new.hand c.alloc_in.ensures.tally (ap (λ r. r.items) e.notes) e.tally

pub returns-clause-serves : goal.returns-clause-serves
returns-clause-serves g c = let e = c.count_placed-sampled.ensures in
    serves_to c.alloc_in.new.proc c.count_placed-sampled.new.proc _ c.alloc_in.new.hand.worker c.count_placed-sampled.new.hand.worker e.cache e.worker c.alloc_in.ensures.serves

pub returns-clause-used : goal.returns-clause-used
returns-clause-used g c = subst (λ (s : Seen). IsUsedCache s.view.own) (sym c.count_placed-sampled.ensures.worker) c.alloc_in.ensures.used
