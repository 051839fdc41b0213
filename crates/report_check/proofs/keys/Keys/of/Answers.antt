use Rattle.std.proofs.Common.{◌+◌, ℕ, true, cond, eqb, sym, ◌∙◌, ap, subst}
use Rattle.std.specs.List.{list_any}
use Rattle.std.proofs.lemmas.Option.{slice_get-get_or}
use Rattle.report_check.proofs.Keyed.{AreKeysTo, keys-none, keys-more, keys-other, keys-all}
use Rattle.report_check.proofs.keys.Keys.of.Goals.{then-is_wanted+in_ok-insert, else-is_wanted}
use Rattle.report_check.proofs.keys.Keys.of.Goals as goal

pub loop-note-init : goal.loop-note-init
loop-note-init c = keys-none c.args.empty c.args.sweeps.now c.new-keys.result.keys c.new-keys.ensures.empty

pub loop-note-preserved : goal.loop-note-preserved
loop-note-preserved c =
    let at = slice_get-get_or c.args.sweeps.now c.loop-note.note-index _ c.loop-note-test.true in
    elim c.if-is_wanted.branch [
      | then-is_wanted+in_ok-insert w ↦ subst (λ (k : _). AreKeysTo c.args.empty c.args.sweeps.now (c.loop-note.note-index + 1) k.keys) (sym w.keys-is)
          (keys-more c.args.empty c.args.sweeps.now c.loop-note.note-index _ c.loop-note.keys.keys w.insert.new.self.keys at w.key_of.ensures.page w.if-is_wanted.ensures
          (λ q. w.in_ok-insert.ensures.updates.0 q ∙ ap (λ (k : ℕ). cond (eqb k q) true (list_any (eqb q) c.loop-note.keys.keys)) w.key_of.ensures.key)
          c.loop-note.invariant)
      | else-is_wanted w ↦ subst (λ (k : _). AreKeysTo c.args.empty c.args.sweeps.now (c.loop-note.note-index + 1) k.keys) (sym w.keys-is)
          (keys-other c.args.empty c.args.sweeps.now c.loop-note.note-index _ c.loop-note.keys.keys at w.if-is_wanted.ensures c.loop-note.invariant)
    ]

pub returns : goal.returns
returns c = keys-all c.args.empty c.args.sweeps.now c.loop-note.note-index (record { keys = c.loop-note.keys }) c.loop-note-test.false c.loop-note.invariant
