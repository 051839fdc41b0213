use Rattle.std.proofs.Common.{◌≡◌, ap, sym, subst, ◌∙◌}
use Rattle.span_laws.specs.Asks.{HasSpan}
use Rattle.span_laws.specs.declared.said.Said.TheVariants.{Adds, Reads}
use Rattle.span_laws.specs.declared.said.SaidOf.TheVariants.{Releases}
use Rattle.span_laws.specs.Views.{Seen, span_of}
use Rattle.span_laws.specs.OwnSteps.{after_of, after_said}
use Rattle.span_set.specs.Sweeps.{SweepsBody}
use Rattle.span_set.proofs.Sweeping.{has_span, swept_in_hand}
use Rattle.span_set.proofs.sweep.sweep_in_hand.Goals as goal

pub release_swept-requires-clause-lent : goal.release_swept-requires-clause-lent
release_swept-requires-clause-lent c = let a = c.args in let s = c.sweep-swept in let e = s.ensures in
    let w : Seen = a.hand.now.worker in
    let swept : SweepsBody a.shop.now.marks.now a.body.now s.new.self s.result = record { marked = e.allocated; next = e.next; same = e.same; kept = e.kept; freed = e.freed } in
    let read : c.generation-generation.new.w ≡ after_said (Reads 1 w.view.generation) w = c.generation-generation.ensures.view ∙ ap (λ g. after_said (Reads 1 g) w) c.generation-generation.ensures.value in
    let now : c.add_swept.new.w ≡ after_said (Adds 2 c.add_swept.result s.new.self.pages) (after_said (Reads 1 w.view.generation) w) = c.add_swept.ensures ∙ ap (after_said (Adds 2 c.add_swept.result s.new.self.pages)) read in
    subst (λ (x : Seen). HasSpan x.view.own s.new.self) (sym now) (has_span a.shop.now.marks.now a.body.now s.new.self s.result w c.requires.may swept)

pub returns-clause-worker : goal.returns-clause-worker
returns-clause-worker c = let a = c.args in let s = c.sweep-swept in let e = s.ensures in
    let w : Seen = a.hand.now.worker in
    let swept : SweepsBody a.shop.now.marks.now a.body.now s.new.self s.result = record { marked = e.allocated; next = e.next; same = e.same; kept = e.kept; freed = e.freed } in
    let read : c.generation-generation.new.w ≡ after_said (Reads 1 w.view.generation) w = c.generation-generation.ensures.view ∙ ap (λ g. after_said (Reads 1 g) w) c.generation-generation.ensures.value in
    let now : c.add_swept.new.w ≡ after_said (Adds 2 c.add_swept.result s.new.self.pages) (after_said (Reads 1 w.view.generation) w) = c.add_swept.ensures ∙ ap (after_said (Adds 2 c.add_swept.result s.new.self.pages)) read in
    swept_in_hand a.shop.now.marks.now a.body.now s.new.self s.result w c.requires.may swept c.add_swept.result c.release_swept.new.w (c.release_swept.ensures ∙ ap (after_of Releases (span_of s.new.self)) now)
