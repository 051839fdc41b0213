use Rattle.std.proofs.Common.{◌≡◌, List, ℕ, get_or, ◌∙◌, ap}
use Rattle.span_state.specs.Groups.{word_of}
use Rattle.span_state.proofs.Added.{rising-pairs_of, word-none, word-shows}
use Rattle.span_state.proofs.marks.Marks.word.Goals as goal

pub returns-in-Some-clause-bits : goal.returns-in-Some-clause-bits
returns-in-Some-clause-bits c =
    let word : c.word.result ≡ word_of c.self.inside.rows c.args.page c.args.group = c.word.ensures ∙ ap (λ (row : List ℕ). get_or row c.args.group 0) c.in-Some.ensures in
    rw (← c.self.view_is) (λ bit less. word-shows c.self.inside.rows c.args.page c.args.group c.word.result bit word less)

pub returns-in-Some-clause-rising : goal.returns-in-Some-clause-rising
returns-in-Some-clause-rising c = rw (← c.self.view_is) (rising-pairs_of c.self.inside.rows)

pub returns-in-None-clause-bits : goal.returns-in-None-clause-bits
returns-in-None-clause-bits c =
    rw (← c.self.view_is) (λ bit less. word-shows c.self.inside.rows c.args.page c.args.group 0 bit (word-none c.self.inside.rows c.args.page c.args.group c.in-None.ensures) less)

pub returns-in-None-clause-rising : goal.returns-in-None-clause-rising
returns-in-None-clause-rising c = rw (← c.self.view_is) (rising-pairs_of c.self.inside.rows)
