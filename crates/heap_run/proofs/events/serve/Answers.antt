use Rattle.std.proofs.Common.{◌≡◌, ℕ, ◌∙◌, false, [], ◌∷◌, Err, refl, ap, sym, subst, arith}
use Rattle.size_classes.specs.Classes.{span_class_of}
use Rattle.span_laws.specs.declared.answers.Refused.{Refused}
use Rattle.span_laws.specs.declared.answers.Refused.TheVariants.{NoRun}
use Rattle.span_laws.specs.Views.{Seen}
use Rattle.span_laws.specs.declared.view.View.{View}
use Rattle.cycle_history.specs.declared.Answer.TheVariants.{Placed, Missed}
use Rattle.proc_cache.specs.Allocs.{AllocatesIn}
use Rattle.large_objects.specs.Larges.{AllocatesLarge}
use Rattle.heap_run.specs.Turns.{SaysAnswers}
use Rattle.heap_run.proofs.Answering.{caching-of, flushed-then, holds-acted, holds-caching, large-placed, large-refused, leaves-acted, small-placed, small-refused}
use Rattle.heap_run.proofs.Firsts.{large-first, none-for, placed-first, refused-first}
use Rattle.profile_cycle.specs.Naming.{slot_for}
use Rattle.profile_cycle.specs.Sampling.{Countdown, behind, is_sample}
use Rattle.proc_cache.specs.Cache.{Cache}
use Rattle.profile_cycle.proofs.Named.{slot-large}
use Rattle.proc_cache.proofs.Leaving.{leaves_works}
use Rattle.span_set.proofs.Tallies.{frees-both, may-still}
use Rattle.heap_run.proofs.Acted.{acted-alike, caching-counted}
use Rattle.heap_run.proofs.Counting.{counted-one, large-counts, ones-counts, refused-counts}
use Rattle.heap_run.proofs.events.serve.Goals as goal

pub returns-in-Ok-clause-acted : goal.returns-in-Ok-clause-acted
returns-in-Ok-clause-acted g c =
    let e = c.args.event.now in
    let class = c.in-Ok.ensures.allocates.0 in
    let least = c.in-Ok.ensures.allocates.1 in
    let did = c.in-Ok.ensures.allocates.2 in
    let at = c.in-Ok.placed.addr in
    let said = did.2.0 in
    leaves-acted (SaysAnswers (e ∷ []) (Placed at ∷ [])) said c.args.hand.now c.alloc.new.hand did.2.1 (small-placed e class at said c.in-Small.ensures.0 c.in-Small.ensures.1 least did.2.2)

pub returns-in-Err-NoRun-clause-acted : goal.returns-in-Err-NoRun-clause-acted
returns-in-Err-NoRun-clause-acted g c =
    let e = c.args.event.now in
    let class = c.in-Err-NoRun.ensures.allocates.0 in
    let least = c.in-Err-NoRun.ensures.allocates.1 in
    let line = c.in-Err-NoRun.line in
    let did : AllocatesIn c.args.shop.now.pages c.args.shop.now.distance (span_class_of class e.scan) c.args.proc.now c.alloc.new.proc c.args.hand.now c.alloc.new.hand (Err (NoRun line)) =
    subst (λ (r : Refused). AllocatesIn c.args.shop.now.pages c.args.shop.now.distance (span_class_of class e.scan) c.args.proc.now c.alloc.new.proc c.args.hand.now c.alloc.new.hand (Err r)) c.in-Err-NoRun.field-0-is c.in-Err-NoRun.ensures.allocates.2 in
    let said = did.4.0 in
    leaves-acted (SaysAnswers (e ∷ []) (Missed line ∷ [])) said c.args.hand.now c.alloc.new.hand did.4.1 (small-refused e class line said c.in-Small.ensures.0 c.in-Small.ensures.1 least did.4.3 did.4.4)

pub returns-in-Ok-alloc_large-clause-acted : goal.returns-in-Ok-alloc_large-clause-acted
returns-in-Ok-alloc_large-clause-acted g c =
    let e = c.args.event.now in
    let at = c.in-Ok-alloc_large.addr in
    let did = c.in-Ok-alloc_large.ensures.did.1 in
    let said = did.0 in
    acted-alike (SaysAnswers (e ∷ []) (Placed at ∷ [])) c.args.hand.now c.alloc_large.new.hand c.count_placed-sampled.new.hand
    (flushed-then _ c.args.proc.now c.flush.new.proc e (Placed at) c.args.hand.now c.flush.new.hand c.alloc_large.new.hand c.in_ok-flush-in-Large.ensures.flushes.1
    (holds-acted (SaysAnswers (e ∷ []) (Placed at ∷ [])) said c.flush.new.hand c.alloc_large.new.hand did.1 (large-placed e c.in-Large.pages c.span_class.result at c.flush.new.hand.worker.view.generation said c.in-Large.ensures.0 c.in-Large.ensures.1 c.span_class.ensures did.3)))
    c.count_placed-sampled.ensures.worker (ap (λ n. n.items) c.count_placed-sampled.ensures.notes)

pub returns-in-Ok-alloc_large-clause-caching : goal.returns-in-Ok-alloc_large-clause-caching
returns-in-Ok-alloc_large-clause-caching g c =
    let did = c.in-Ok-alloc_large.ensures.did.1 in
    let g : c.flush.new.hand.worker.view.generation ≡ c.args.hand.now.worker.view.generation = ap (λ (v : View). v.generation) c.in_ok-flush-in-Large.ensures.flushes.1.leaves.view in
    let placed = holds-caching c.args.hand.now.worker.view.generation did.0 c.flush.new.hand c.alloc_large.new.hand c.flush.new.proc (sym g) did.1
    (caching-of c.args.hand.now.worker.view.generation c.flush.new.hand.worker.view.generation c.flush.new.hand.worker.view.own c.flush.new.proc g c.in_ok-flush-in-Large.ensures.serves (c.in_ok-flush-in-Large.ensures.used c.requires.caching.used)) in
    caching-counted c.args.hand.now.worker.view.generation c.alloc_large.new.hand c.count_placed-sampled.new.hand c.flush.new.proc c.count_placed-sampled.new.proc _ c.count_placed-sampled.ensures.worker c.count_placed-sampled.ensures.cache placed

pub alloc_large-requires-clause-works : goal.alloc_large-requires-clause-works
alloc_large-requires-clause-works g c = let f = c.in_ok-flush-in-Large.ensures in
    leaves_works c.args.shop.now.shared.now c.args.shop.now.ring.now c.args.shop.now.marks.now c.args.hand.now c.flush.new.hand f.flushes.1.said f.flushes.1.leaves f.tally c.requires.works

pub count_placed-sampled-requires-clause-ring : goal.count_placed-sampled-requires-clause-ring
count_placed-sampled-requires-clause-ring g c =
    (may-still c.args.shop.now.marks.now c.args.shop.now.ring.now c.flush.new.hand c.alloc_large.new.hand
    (may-still c.args.shop.now.marks.now c.args.shop.now.ring.now c.args.hand.now c.flush.new.hand c.requires.works.counts c.in_ok-flush-in-Large.ensures.tally) c.in-Ok-alloc_large.ensures.tally).ring

pub returns-in-Ok-alloc_large-clause-sampled : goal.returns-in-Ok-alloc_large-clause-sampled
returns-in-Ok-alloc_large-clause-sampled g c =
    let slot : c.large_slot.result ≡ slot_for c.args.event.now.size = c.large_slot.ensures ∙ slot-large c.args.event.now.size c.in-Large.pages c.in-Large.ensures.0 c.in-Large.ensures.1 in
    c.count_placed-sampled.ensures.sampled ∙ ap (λ (x : Countdown). is_sample x c.large_slot.result) c.in_ok-flush-in-Large.ensures.countdown ∙ ap (λ (k : ℕ). is_sample c.args.proc.now.countdown k) slot

pub returns-in-Ok-alloc_large-clause-spent : goal.returns-in-Ok-alloc_large-clause-spent
returns-in-Ok-alloc_large-clause-spent g c =
    let slot : c.large_slot.result ≡ slot_for c.args.event.now.size = c.large_slot.ensures ∙ slot-large c.args.event.now.size c.in-Large.pages c.in-Large.ensures.0 c.in-Large.ensures.1 in
    ap (λ (x : Cache). x.countdown) c.count_placed-sampled.ensures.cache ∙ ap (λ (x : Countdown). behind x c.large_slot.result) c.in_ok-flush-in-Large.ensures.countdown ∙ ap (λ (k : ℕ). behind c.args.proc.now.countdown k) slot

pub returns-in-Err-NoRun-alloc_large-clause-acted : goal.returns-in-Err-NoRun-alloc_large-clause-acted
returns-in-Err-NoRun-alloc_large-clause-acted g c =
    let e = c.args.event.now in
    let line = c.in-Err-NoRun-alloc_large.line in
    let refused : AllocatesLarge c.args.shop.now.pages c.args.shop.now.distance c.in-Large.pages c.span_class.result c.flush.new.hand c.alloc_large.new.hand (Err (NoRun c.in-Err-NoRun-alloc_large.line)) =
    subst (λ (r : Refused). AllocatesLarge c.args.shop.now.pages c.args.shop.now.distance c.in-Large.pages c.span_class.result c.flush.new.hand c.alloc_large.new.hand (Err r)) c.in-Err-NoRun-alloc_large.field-0-is c.in-Err-NoRun-alloc_large.ensures.did in
    let did = refused.1 in
    let said = did.0 in
    flushed-then _ c.args.proc.now c.flush.new.proc e (Missed line) c.args.hand.now c.flush.new.hand c.alloc_large.new.hand c.in_ok-flush-in-Large.ensures.flushes.1
    (holds-acted (SaysAnswers (e ∷ []) (Missed line ∷ [])) said c.flush.new.hand c.alloc_large.new.hand did.1 (large-refused e c.in-Large.pages c.span_class.result line said c.in-Large.ensures.0 c.in-Large.ensures.1 c.span_class.ensures did.3 did.4))

pub returns-in-Err-NoRun-alloc_large-clause-caching : goal.returns-in-Err-NoRun-alloc_large-clause-caching
returns-in-Err-NoRun-alloc_large-clause-caching g c =
    let refused : AllocatesLarge c.args.shop.now.pages c.args.shop.now.distance c.in-Large.pages c.span_class.result c.flush.new.hand c.alloc_large.new.hand (Err (NoRun c.in-Err-NoRun-alloc_large.line)) =
    subst (λ (r : Refused). AllocatesLarge c.args.shop.now.pages c.args.shop.now.distance c.in-Large.pages c.span_class.result c.flush.new.hand c.alloc_large.new.hand (Err r)) c.in-Err-NoRun-alloc_large.field-0-is c.in-Err-NoRun-alloc_large.ensures.did in
    let did = refused.1 in
    let g : c.flush.new.hand.worker.view.generation ≡ c.args.hand.now.worker.view.generation = ap (λ (v : View). v.generation) c.in_ok-flush-in-Large.ensures.flushes.1.leaves.view in
    holds-caching c.args.hand.now.worker.view.generation did.0 c.flush.new.hand c.alloc_large.new.hand c.flush.new.proc (sym g) did.1
    (caching-of c.args.hand.now.worker.view.generation c.flush.new.hand.worker.view.generation c.flush.new.hand.worker.view.own c.flush.new.proc g c.in_ok-flush-in-Large.ensures.serves (c.in_ok-flush-in-Large.ensures.used c.requires.caching.used))

pub returns-in-Zero-clause-counts : goal.returns-in-Zero-clause-counts
returns-in-Zero-clause-counts g c = counted-one c.args.shop.now.marks.now false c.args.bucket c.args.hand.now c.args.hand.now refl refl

pub returns-in-Ok-clause-counts : goal.returns-in-Ok-clause-counts
returns-in-Ok-clause-counts g c = ones-counts c.args.shop.now.marks.now c.args.bucket c.in-Ok.placed.sampled c.args.hand.now c.alloc.new.hand c.in-Ok.ensures.counted

pub returns-in-Err-NoRun-clause-counts : goal.returns-in-Err-NoRun-clause-counts
returns-in-Err-NoRun-clause-counts g c = refused-counts c.args.shop.now.marks.now c.args.bucket c.args.hand.now c.alloc.new.hand c.in-Err-NoRun.ensures.frees

pub returns-in-Ok-alloc_large-clause-counts : goal.returns-in-Ok-alloc_large-clause-counts
returns-in-Ok-alloc_large-clause-counts g c =
    large-counts c.args.shop.now.marks.now c.args.bucket c.count_placed-sampled.result c.args.hand.now c.flush.new.hand c.alloc_large.new.hand c.count_placed-sampled.new.hand
    c.in_ok-flush-in-Large.ensures.tally c.in-Ok-alloc_large.ensures.tally (ap (λ n. n.items) c.count_placed-sampled.ensures.notes) c.count_placed-sampled.ensures.tally

pub returns-in-Err-NoRun-alloc_large-clause-counts : goal.returns-in-Err-NoRun-alloc_large-clause-counts
returns-in-Err-NoRun-alloc_large-clause-counts g c =
    refused-counts c.args.shop.now.marks.now c.args.bucket c.args.hand.now c.alloc_large.new.hand
    (frees-both c.args.shop.now.marks.now c.args.hand.now c.flush.new.hand c.alloc_large.new.hand c.in_ok-flush-in-Large.ensures.tally c.in-Err-NoRun-alloc_large.ensures.tally)

pub returns-in-Zero-clause-flushed : goal.returns-in-Zero-clause-flushed
returns-in-Zero-clause-flushed g c = none-for c.args.event.now c.args.proc.now c.args.proc.now c.args.hand.now c.args.hand.now c.in-Zero.ensures

pub returns-in-Ok-clause-flushed : goal.returns-in-Ok-clause-flushed
returns-in-Ok-clause-flushed g c e h some =
    let class = c.in-Ok.ensures.allocates.0 in
    placed-first c.args.shop.now.pages c.args.shop.now.distance (span_class_of class c.args.event.now.scan) c.in-Ok.placed.addr c.args.proc.now c.alloc.new.proc c.args.hand.now c.alloc.new.hand c.in-Ok.ensures.allocates.2

pub returns-in-Ok-clause-sizeless : goal.returns-in-Ok-clause-sizeless
returns-in-Ok-clause-sizeless g c zero = let some = c.in-Small.ensures.0 in absurd (omega arith)

pub returns-in-Err-NoRun-clause-flushed : goal.returns-in-Err-NoRun-clause-flushed
returns-in-Err-NoRun-clause-flushed g c e h some =
    let class = c.in-Err-NoRun.ensures.allocates.0 in
    let line = c.in-Err-NoRun.line in
    let did : AllocatesIn c.args.shop.now.pages c.args.shop.now.distance (span_class_of class c.args.event.now.scan) c.args.proc.now c.alloc.new.proc c.args.hand.now c.alloc.new.hand (Err (NoRun line)) =
    subst (λ (r : Refused). AllocatesIn c.args.shop.now.pages c.args.shop.now.distance (span_class_of class c.args.event.now.scan) c.args.proc.now c.alloc.new.proc c.args.hand.now c.alloc.new.hand (Err r)) c.in-Err-NoRun.field-0-is c.in-Err-NoRun.ensures.allocates.2 in
    refused-first c.args.shop.now.pages c.args.shop.now.distance (span_class_of class c.args.event.now.scan) line c.args.proc.now c.alloc.new.proc c.args.hand.now c.alloc.new.hand did

pub returns-in-Err-NoRun-clause-sizeless : goal.returns-in-Err-NoRun-clause-sizeless
returns-in-Err-NoRun-clause-sizeless g c zero = let some = c.in-Small.ensures.0 in absurd (omega arith)

pub returns-in-Ok-alloc_large-clause-flushed : goal.returns-in-Ok-alloc_large-clause-flushed
returns-in-Ok-alloc_large-clause-flushed g c e h some =
    let did = c.in-Ok-alloc_large.ensures.did.1 in
    large-first did.0 c.args.proc.now c.flush.new.proc c.count_placed-sampled.new.proc c.args.hand.now c.flush.new.hand c.count_placed-sampled.new.hand c.alloc_large.new.hand.worker.view.own.log c.in_ok-flush-in-Large.ensures.flushes
    (ap (λ (x : Cache). x.flushed) c.count_placed-sampled.ensures.cache) did.1.log (ap (λ (w : Seen). w.view.own.log) c.count_placed-sampled.ensures.worker)

pub returns-in-Ok-alloc_large-clause-sizeless : goal.returns-in-Ok-alloc_large-clause-sizeless
returns-in-Ok-alloc_large-clause-sizeless g c zero = let some = c.in-Large.ensures.0 in absurd (omega arith)

pub returns-in-Err-NoRun-alloc_large-clause-flushed : goal.returns-in-Err-NoRun-alloc_large-clause-flushed
returns-in-Err-NoRun-alloc_large-clause-flushed g c e h some =
    let refused : AllocatesLarge c.args.shop.now.pages c.args.shop.now.distance c.in-Large.pages c.span_class.result c.flush.new.hand c.alloc_large.new.hand (Err (NoRun c.in-Err-NoRun-alloc_large.line)) =
    subst (λ (r : Refused). AllocatesLarge c.args.shop.now.pages c.args.shop.now.distance c.in-Large.pages c.span_class.result c.flush.new.hand c.alloc_large.new.hand (Err r)) c.in-Err-NoRun-alloc_large.field-0-is c.in-Err-NoRun-alloc_large.ensures.did in
    let did = refused.1 in
    large-first did.0 c.args.proc.now c.flush.new.proc c.flush.new.proc c.args.hand.now c.flush.new.hand c.alloc_large.new.hand c.alloc_large.new.hand.worker.view.own.log c.in_ok-flush-in-Large.ensures.flushes refl did.1.log refl

pub returns-in-Err-NoRun-alloc_large-clause-sizeless : goal.returns-in-Err-NoRun-alloc_large-clause-sizeless
returns-in-Err-NoRun-alloc_large-clause-sizeless g c zero = let some = c.in-Large.ensures.0 in absurd (omega arith)
