use Rattle.std.proofs.Common.{◌≡◌, ℕ, ◌*◌, ◌≤◌, false, eqb, Option, unwrap_or, ap, ◌∙◌, arith}
use Rattle.std.specs.Prelude.{position}
use Rattle.std.proofs.lemmas.Bool.{ne_eqb}
use Rattle.profile_cycle.specs.Naming.{is_same, slot_for}
use Rattle.profile_cycle.proofs.Named.{slot-large, slot-small}
use Rattle.heap_run.proofs.queues.bucket_of.Goals.{in-Small, in-Large}
use Rattle.heap_run.proofs.queues.bucket_of.Goals as goal

pub returns : goal.returns
returns c =
    let e = c.args.event.now in
    let both : (1 ≤ e.size) × (c.match-class_of.slot ≡ slot_for e.size) = elim c.match-class_of.branch [
      | in-Small w ↦ (w.in-Small.ensures.0, w.slot-is ∙ w.from-slot.ensures ∙ w.slot_size.ensures.size ∙ slot-small e.size w.in-Small.class w.in-Small.ensures.0 w.in-Small.ensures.1 w.in-Small.ensures.2)
      | in-Large w ↦ ((let big = w.in-Large.ensures.0 in omega arith), w.slot-is ∙ ap (λ (n : ℕ). 8192 * n) w.from.ensures ∙ slot-large e.size w.in-Large.pages w.in-Large.ensures.0 w.in-Large.ensures.1)
    ] in
    let off : eqb e.size 0 ≡ false = ne_eqb e.size 0 (λ q. (let s = both.0 in omega arith)) in
    rw off (c.unwrap_or.ensures ∙ ap (λ (o : Option ℕ). unwrap_or o 0) (c.number.ensures.number ∙ ap (λ (k : ℕ). position (is_same (record { stack = e.stack; slot = k })) c.args.known.now) both.1))
