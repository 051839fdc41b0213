use Rattle.std.proofs.Common.{◌≡◌, ℕ, true, false, [], ◌∷◌, None, refl, sym, ◌∙◌, subst}
use Rattle.tiny_alloc.specs.declared.part.Part.{Part}
use Rattle.tiny_alloc.specs.declared.part.Part.TheVariants.{Lead, Ride}
use Rattle.tiny_alloc.specs.Base.{based_event}
use Rattle.tiny_alloc.specs.Blocks.{ride_start}
use Rattle.tiny_alloc.specs.Riders.{is_tiny}
use Rattle.tiny_alloc.proofs.Leads.{ok-map}
use Rattle.heap_run.specs.Firsts.{FlushesFor}
use Rattle.heap_run.specs.Riding.{part_with}
use Rattle.heap_run.proofs.Counting.{counted-one}
use Rattle.heap_run.proofs.Riding.{lead-part, missed-block, plain-part}
use Rattle.heap_run.proofs.events.answer.Goals.{then-not-riding-via-then-not-riding, then-not-riding-via-else-not-riding+then-not-is_tiny}
use Rattle.heap_run.proofs.events.answer.Goals as goal

pub returns-then-not-riding-clause-flushed : goal.returns-then-not-riding-clause-flushed
returns-then-not-riding-clause-flushed g c =
    let never : c.args.riding ≡ true → is_tiny c.args.event.now ≡ false = elim c.then-not-riding.branch [
      | then-not-riding-via-then-not-riding w ↦ (λ on. absurd (let off = w.if-not-riding.true in let f : ⊥ = cc in f))
      | then-not-riding-via-else-not-riding+then-not-is_tiny w ↦ (λ on. sym w.is_tiny.ensures ∙ w.if-not-is_tiny.true)
    ] in
    ok-map c.serve.result _ _ (λ o was. subst (λ (p : Part). FlushesFor (based_event p c.args.event.now ∷ []) c.args.proc.now c.serve.new.proc c.args.hand.now c.serve.new.hand) (sym (plain-part c.args.riding c.args.tiny.now c.args.event.now o.0 never)) was) c.serve.ensures.flushed

pub returns-in-Some-clause-counts : goal.returns-in-Some-clause-counts
returns-in-Some-clause-counts g c = counted-one c.args.shop.now.marks.now false c.args.bucket c.args.hand.now c.args.hand.now refl refl

pub returns-in-Placed-clause-flushed : goal.returns-in-Placed-clause-flushed
returns-in-Placed-clause-flushed g c =
    let e = c.args.event.now in
    let tiny : is_tiny e ≡ true = sym c.is_tiny.ensures ∙ c.if-not-is_tiny.false in
    let off : ride_start c.args.tiny.now e.size ≡ None = sym c.ride.ensures.address ∙ c.in_default.is in
    let whole : c.from.result ≡ 16 = c.from.ensures in
    let flushed : FlushesFor (based_event Lead e ∷ []) c.args.proc.now c.serve-2.new.proc c.args.hand.now c.serve-2.new.hand =
    subst (λ (n : ℕ). FlushesFor (record e { size = n } ∷ []) c.args.proc.now c.serve-2.new.proc c.args.hand.now c.serve-2.new.hand) whole c.in_ok-answer.ensures.flushed in
    subst (λ (p : Part). FlushesFor (based_event p e ∷ []) c.args.proc.now c.serve-2.new.proc c.args.hand.now c.serve-2.new.hand) (sym (lead-part c.args.riding c.args.tiny.now e _ c.if-not-riding.false tiny off)) flushed

pub returns-in_default-answer : goal.returns-in_default-answer
returns-in_default-answer g c =
    let e = c.args.event.now in
    let a = c.in_ok-answer.answer in
    let tiny : is_tiny e ≡ true = sym c.is_tiny.ensures ∙ c.if-not-is_tiny.false in
    let off : ride_start c.args.tiny.now e.size ≡ None = sym c.ride.ensures.address ∙ c.in_default.is in
    let part : part_with c.args.riding c.args.tiny.now e a ≡ Lead = lead-part c.args.riding c.args.tiny.now e a c.if-not-riding.false tiny off in
    let did = c.in_ok-answer.ensures in
    let whole : c.from.result ≡ 16 = c.from.ensures in
    let flushed : FlushesFor (based_event Lead e ∷ []) c.args.proc.now c.serve-2.new.proc c.args.hand.now c.serve-2.new.hand =
    subst (λ (n : ℕ). FlushesFor (record e { size = n } ∷ []) c.args.proc.now c.serve-2.new.proc c.args.hand.now c.serve-2.new.hand) whole did.flushed in
    record {
      acted = rw part (rw whole at did.acted);
      rides = λ start offset is. absurd (let both : Lead ≡ Ride start offset = sym part ∙ is in let f : ⊥ = cc in f);
      block = c.ride.ensures.block ∙ missed-block c.args.riding c.args.tiny.now e a tiny off c.in_default-answer.not-Placed;
      caching = did.caching;
      number = did.number;
      sampled = rw part (rw whole at did.sampled);
      spent = rw part (rw whole at did.spent);
      counts = did.counts;
      flushed = subst (λ (p : Part). FlushesFor (based_event p e ∷ []) c.args.proc.now c.serve-2.new.proc c.args.hand.now c.serve-2.new.hand) (sym part) flushed;
      sizeless = rw part (rw whole at did.sizeless);
    }
