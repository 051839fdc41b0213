use Rattle.std.proofs.Common.{inl, inr}
use Rattle.profile_cycle.proofs.listed.Listed.add_new.Goals as goal

pub returns-then-found-eq0 : goal.returns-then-found-eq0
returns-then-found-eq0 c =
    let a = c.add.ensures in
    record {
      stays = a.stays;
      old = a.old;
      new = λ off b is. a.new off b is.1;
      only = λ b has. elim (a.only b has) [ inl was ↦ inl was | inr is ↦ inr (c.if-found-eq0.true, is) ];
    }
