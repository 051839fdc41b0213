use Rattle.std.proofs.Common.{◌≡◌, ℕ, true, true≢false, ap, sym, subst, ◌∙◌, arith}
use Rattle.std.specs.Prelude.{Some}
use Rattle.span_state.specs.Spans.{allocated}
use Rattle.span_laws.specs.Views.{Seen, span_at, span_of}
use Rattle.span_laws.proofs.WordMoves.{span_here}
use Rattle.span_table_tests.proofs.Driving.{marked_first, own_of, unpopped_swept}
use Rattle.span_table_tests.proofs.turns.sweep.Goals as goal

pub release_swept-requires-clause-lent : goal.release_swept-requires-clause-lent
release_swept-requires-clause-lent c = let b = c.in-Got.body in let s = c.from_start-body.ensures.same in (
  span_of b,
  subst (λ (q : ℕ). span_at q c.acquire.new.w.view.own.spans ≡ Some (span_of b)) (sym s.page) (ap (λ (x : Seen). span_at b.page x.view.own.spans) c.in-Got.ensures.1 ∙ span_here (span_of b) c.args.w.now.view.own.spans),
  record { page = sym s.page; pages = sym s.pages; slot = sym s.slot; count = sym s.count; class = sym s.class; life = sym s.life },
)

pub push-requires-clause-unclaimed : goal.push-requires-clause-unclaimed
push-requires-clause-unclaimed c = let o = own_of c.args.shared.now c.args.w.now c.requires.turned.idle in rw (c.release_swept.ensures, c.in-Got.ensures.1) o.claimed

pub push-requires-clause-may : goal.push-requires-clause-may
push-requires-clause-may c = let b = c.from_start-body.result in let s = c.from_start-body.ensures in let g = c.in-Got.ensures in
    let count : b.count ≡ 1 = s.same.count ∙ c.if-body-ne1.false in
    let first : allocated b 0 ≡ true = s.bits 0 ∙ g.2 0 (marked_first c.args.w.now.view.marks c.args.page c.in-Got.body.page c.requires.turned.marks g.0) in record {
      class = s.same.class ∙ c.if-body-ne0.false;
      used = (0, (omega arith), first);
      full = λ e j l. (let z : j ≡ 0 = omega arith in ap (allocated b) z ∙ first);
      room = λ e. absurd (true≢false e);
      unpopped = unpopped_swept c.args.w.now c.acquire.new.w c.release_swept.new.w (span_of c.in-Got.body) (span_of b) g.1 c.release_swept.ensures c.args.page b.page (s.same.page ∙ g.0) g.3;
      unplaced = λ e. absurd (true≢false e);
    }
