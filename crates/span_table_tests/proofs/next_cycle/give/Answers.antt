use Rattle.std.proofs.Common.{◌≡◌, ℕ, List, ap, sym, subst, ◌∙◌}
use Rattle.std.specs.Prelude.{Some}
use Rattle.span_state.specs.MarkSet.{has_pair}
use Rattle.span_laws.specs.Views.{Seen, span_at, span_of}
use Rattle.span_laws.proofs.WordMoves.{span_here}
use Rattle.span_table_tests.proofs.Driving.{ends_empty, own_of}
use Rattle.span_table_tests.proofs.next_cycle.give.Goals as goal

pub release_swept-requires-clause-lent : goal.release_swept-requires-clause-lent
release_swept-requires-clause-lent g c = let b = c.in-Got.body in let s = c.sweep-2.ensures.same in (
  span_of b,
  subst (λ (q : ℕ). span_at q c.acquire.new.w.view.own.spans ≡ Some (span_of b)) (sym s.page) (ap (λ (x : Seen). span_at b.page x.view.own.spans) c.in-Got.ensures.1 ∙ span_here (span_of b) c.args.w.now.view.own.spans),
  record { page = sym s.page; pages = sym s.pages; slot = sym s.slot; count = sym s.count; class = sym s.class; life = sym s.life },
)

pub give_span-requires-clause-unclaimed : goal.give_span-requires-clause-unclaimed
give_span-requires-clause-unclaimed g c = let o = own_of c.args.shared.now c.args.w.now c.requires.turned.idle in rw (c.release_swept.ensures, c.in-Got.ensures.1) o.claimed

pub give_span-requires-clause-swept : goal.give_span-requires-clause-swept
give_span-requires-clause-swept g c = ends_empty c.acquire.new.w c.release_swept.new.w c.sweep-2.new.self c.release_swept.ensures
    (λ k. c.sweep-2.ensures.allocated k ∙ ap (λ (l : List (ℕ × ℕ)). has_pair l c.in-Got.body.page k) c.empty.ensures.pairs)
