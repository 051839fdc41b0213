use Rattle.std.proofs.Common.{◌≡◌, ℕ, ◌*◌, [], ◌∷◌, length, refl, ap, sym, ◌∙◌, set, arith}
use Rattle.std.specs.Prelude.{Some}
use Rattle.std.proofs.lemmas.List.{length-map}
use Rattle.span_laws.specs.declared.said.Said.TheVariants.{Adds, Caches}
use Rattle.span_laws.specs.Views.{Seen, span_of}
use Rattle.span_laws.specs.OwnSteps.{after_said}
use Rattle.worker_log.specs.declared.Entry.TheVariants.{Added, Read}
use Rattle.span_set.specs.declared.hand.Hand.{Hand}
use Rattle.proc_cache.specs.Cache.{Cache, slot_at, span_in, spans_of}
use Rattle.proc_cache.specs.RefillLogs.{bytes_of}
use Rattle.proc_cache.proofs.Filling.{span_leaves, span_serves, span_used}
use Rattle.proc_cache.proofs.Slots.{slot_here, slot_written}
use Rattle.proc_cache.proofs.refills.keep_span.Goals as goal

pub returns-clause-keeps : goal.returns-clause-keeps
returns-clause-keeps c =
    let i = c.proc.inside in let k = c.args.class in let b = c.args.body in let old = c.args.hand.now in
    let new : Hand = record old { worker = c.mark_cached.new.w } in
    let e : c.from-bytes.result * 8192 ≡ bytes_of k = (let a = c.from-bytes.ensures in let z = c.span_pages.ensures.pages in omega arith) in
    let view : new.worker ≡ after_said (Caches b.page) (after_said (Adds 3 c.add_spent.result (bytes_of k)) old.worker) = c.mark_cached.ensures
    ∙ ap (after_said (Caches b.page)) (c.add_spent.ensures ∙ ap (λ (n : ℕ). after_said (Adds 3 c.add_spent.result n) old.worker) e) in
    let few : length c.args.proc.now.slots ≡ 136 = sym (ap (λ (z : Cache). length z.slots) c.proc.view_is) ∙ length-map i.slots.items span_in ∙ c.proc.invariant in
    let written = slot_written i.number i.flushed i.slots.items i.sampler c.args.proc.now c.proc.view_is k (Some b) in
    (written, ap (λ (z : Cache). slot_at z k) written ∙ slot_here c.args.proc.now k (Some (span_of b)) (let z = c.requires.class in omega arith), (Added 3 (bytes_of k) ∷ Read 3 c.add_spent.result ∷ [], span_leaves k (bytes_of k) c.add_spent.result b old new c.requires.holds view refl, (c.add_spent.result, refl)), ap (λ (w : Seen). w.view.own.spans) view)

pub returns-clause-serves : goal.returns-clause-serves
returns-clause-serves c =
    let i = c.proc.inside in let k = c.args.class in let b = c.args.body in let old = c.args.hand.now in
    let new : Hand = record old { worker = c.mark_cached.new.w } in
    let e : c.from-bytes.result * 8192 ≡ bytes_of k = (let a = c.from-bytes.ensures in let z = c.span_pages.ensures.pages in omega arith) in
    let view : new.worker ≡ after_said (Caches b.page) (after_said (Adds 3 c.add_spent.result (bytes_of k)) old.worker) = c.mark_cached.ensures
    ∙ ap (after_said (Caches b.page)) (c.add_spent.ensures ∙ ap (λ (n : ℕ). after_said (Adds 3 c.add_spent.result n) old.worker) e) in
    let now : Cache = record { number = i.number; flushed = i.flushed; slots = spans_of (set i.slots.items k (Some b)); countdown = i.sampler } in
    let few : length c.args.proc.now.slots ≡ 136 = sym (ap (λ (z : Cache). length z.slots) c.proc.view_is) ∙ length-map i.slots.items span_in ∙ c.proc.invariant in
    span_serves k (bytes_of k) c.add_spent.result b old new c.requires.holds view refl c.args.proc.now now c.requires.serves c.requires.flushed c.requires.empty (let z = c.requires.class in omega arith) c.requires.body
    (slot_written i.number i.flushed i.slots.items i.sampler c.args.proc.now c.proc.view_is k (Some b))

pub returns-clause-used : goal.returns-clause-used
returns-clause-used c =
    let i = c.proc.inside in let k = c.args.class in let b = c.args.body in let old = c.args.hand.now in
    let new : Hand = record old { worker = c.mark_cached.new.w } in
    let now : Cache = record { number = i.number; flushed = i.flushed; slots = spans_of (set i.slots.items k (Some b)); countdown = i.sampler } in
    λ u. span_used k (c.from-bytes.result * 8192) c.add_spent.result b old new c.args.proc.now now (c.mark_cached.ensures ∙ ap (after_said (Caches b.page)) c.add_spent.ensures) c.requires.serves c.requires.body.before u
    (slot_written i.number i.flushed i.slots.items i.sampler c.args.proc.now c.proc.view_is k (Some b))

pub returns-clause-countdown : goal.returns-clause-countdown
returns-clause-countdown c = ap (λ (z : Cache). z.countdown) c.proc.view_is
