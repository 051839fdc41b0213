use Rattle.std.proofs.Common.{◌≡◌, ◌<◌, ℕ, inl, inr, sym, subst, length}
use Rattle.atomic_table.specs.Table.{State}
use Rattle.span_table.specs.Running.{Lawful}
use Rattle.span_table.specs.Turning.{Ruled, joint_of}
use Rattle.span_table.specs.declared.view.Item.{Item}
use Rattle.span_table.specs.declared.view.SeatView.{SeatView}
use Rattle.span_table.proofs.Ruling.{none_out}
use Rattle.span_table.proofs.Sweeping.{cached_by, swept_once, sweeps_alone}
use Rattle.span_table.proofs.laws.a_span_is_swept_by_one.Goals as goal

lawful_of : (R : ℕ) (s : State Item SeatView) (r : Ruled R s) → Lawful (joint_of R s r)
lawful_of R s (inl r) = r.lawful
lawful_of R s (inr t) = t.run.lawful

many_of : (R : ℕ) (s : State Item SeatView) (r : Ruled R s) → length (joint_of R s r).core.words ≡ R
many_of R s (inl r) = r.words.many
many_of R s (inr t) = t.run.words.many

pub returns-clause-sweeping : goal.returns-clause-sweeping
returns-clause-sweeping c = λ R s r n p h at sweeps. sweeps_alone (joint_of R s r) (lawful_of R s r) n h at p sweeps

pub returns-clause-cached : goal.returns-clause-cached
returns-clause-cached c = λ R s r n p h at cached. cached_by (joint_of R s r) (lawful_of R s r) n h at p cached

pub returns-clause-once : goal.returns-clause-once
returns-clause-once c = λ R s r p low. swept_once (joint_of R s r) (lawful_of R s r) p (subst (λ (m : ℕ). p < m) (sym (many_of R s r)) low)

own_part : (R : ℕ) (s : State Item SeatView) (r : Ruled R s) (i : ℕ) (w : SeatView) → lib.ListN.get_elem? s.views i ≡ mathlib.Core.Option.some w → w.out ≡ Rattle.std.proofs.Common.true → lib.ListN.get_elem? (joint_of R s r).parts w.number ≡ mathlib.Core.Option.some w.view.own
own_part R s (inl r) i w at out = (r.seats i w at).own_is out
own_part R s (inr t) i w at out = absurd (none_out R s t i w at out)

pub returns-clause-seats : goal.returns-clause-seats
returns-clause-seats c = own_part
