use Rattle.std.proofs.Common.{ℕ, ◌∷◌, Some, set, ap, subst, ◌∙◌, arith}
use Rattle.page_bitmap.specs.declared.line.Line.{Line}
use Rattle.page_alloc.specs.Lives.{life_of}
use Rattle.page_alloc.specs.Journal.{LegalFor}
use Rattle.report_check.specs.Lives.{entry_of}
use Rattle.report_check.proofs.Openings.{inside-take, inside-cut, inside-give, lives-take, lives-cut, lives-give}
use Rattle.report_check.proofs.lives.take_up.Goals as goal

pub put-requires : goal.put-requires
put-requires c =
    let legal = subst (λ (l : Line). LegalFor c.requires.0 c.requires.1 c.requires.2 (l ∷ c.requires.3)) c.in-Take.is c.requires.5 in
    let lt = inside-take c.requires.0 c.requires.1 c.requires.2 c.requires.3 c.in-Take.cycle c.in-Take.page c.in-Take.pages c.in-Take.class legal in
    let e = c.requires.4.size in
    omega arith

pub put-requires-in-Cut : goal.put-requires-in-Cut
put-requires-in-Cut c =
    let legal = subst (λ (l : Line). LegalFor c.requires.0 c.requires.1 c.requires.2 (l ∷ c.requires.3)) c.in-Cut.is c.requires.5 in
    let lt = inside-cut c.requires.0 c.requires.1 c.requires.2 c.requires.3 c.in-Cut.cycle c.in-Cut.proc c.in-Cut.page c.in-Cut.pages c.in-Cut.class legal in
    let e = c.requires.4.size in
    omega arith

pub put-requires-in-Give : goal.put-requires-in-Give
put-requires-in-Give c =
    let legal = subst (λ (l : Line). LegalFor c.requires.0 c.requires.1 c.requires.2 (l ∷ c.requires.3)) c.in-Give.is c.requires.5 in
    let lt = inside-give c.requires.0 c.requires.1 c.requires.2 c.requires.3 c.in-Give.cycle c.in-Give.page c.in-Give.pages legal in
    let e = c.requires.4.size in
    omega arith

pub returns-in-Take : goal.returns-in-Take
returns-in-Take c procs region goal' past are legal number =
    let taken = subst (λ (l : Line). LegalFor procs region goal' (l ∷ past)) c.in-Take.is legal in
    let new = c.put.ensures
    ∙ ap (λ (n : ℕ). set c.args.lives.now c.in-Take.page (Some (entry_of (life_of n c.in-Take.cycle c.in-Take.page c.in-Take.pages c.in-Take.class)))) number in
    rw (c.in-Take.is, new) (lives-take procs region goal' past c.args.lives.now c.in-Take.cycle c.in-Take.page c.in-Take.pages c.in-Take.class are taken)

pub returns-in-Cut : goal.returns-in-Cut
returns-in-Cut c procs region goal' past are legal number =
    let taken = subst (λ (l : Line). LegalFor procs region goal' (l ∷ past)) c.in-Cut.is legal in
    let new = c.put-in-Cut.ensures
    ∙ ap (λ (n : ℕ). set c.args.lives.now c.in-Cut.page (Some (entry_of (life_of n c.in-Cut.cycle c.in-Cut.page c.in-Cut.pages c.in-Cut.class)))) number in
    rw (c.in-Cut.is, new) (lives-cut procs region goal' past c.args.lives.now c.in-Cut.cycle c.in-Cut.proc c.in-Cut.page c.in-Cut.pages c.in-Cut.class are taken)

pub returns-in-Give : goal.returns-in-Give
returns-in-Give c procs region goal' past are legal number =
    let given = subst (λ (l : Line). LegalFor procs region goal' (l ∷ past)) c.in-Give.is legal in
    rw (c.in-Give.is, c.put-in-Give.ensures) (lives-give procs region goal' past c.args.lives.now c.in-Give.cycle c.in-Give.page c.in-Give.pages are given)
