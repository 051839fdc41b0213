use Rattle.std.proofs.Common.{refl}
use Rattle.span_table.proofs.IsMove.{fill_is_move}
use Rattle.span_table.proofs.laws.the_lock_stands_apart.Goals as goal

pub returns-clause-lock : goal.returns-clause-lock
returns-clause-lock f = λ c n. refl

pub returns-clause-unlock : goal.returns-clause-unlock
returns-clause-unlock f = λ c n. refl

pub returns-clause-take : goal.returns-clause-take
returns-clause-take f = λ c n page pages count class. refl

pub returns-clause-acquire : goal.returns-clause-acquire
returns-clause-acquire f = λ c lock n page. refl

pub returns-clause-release : goal.returns-clause-release
returns-clause-release f = λ c lock n page. refl

pub returns-clause-cache : goal.returns-clause-cache
returns-clause-cache f = λ c lock n page. refl

pub returns-clause-uncache : goal.returns-clause-uncache
returns-clause-uncache f = λ c lock n page. refl

pub returns-clause-stale_uncache : goal.returns-clause-stale_uncache
returns-clause-stale_uncache f = λ c lock n page. refl

pub returns-clause-allocate : goal.returns-clause-allocate
returns-clause-allocate f = λ c lock n page index. refl

pub returns-clause-claim : goal.returns-clause-claim
returns-clause-claim f = λ c lock n set page. refl

pub returns-clause-pop_swept : goal.returns-clause-pop_swept
returns-clause-pop_swept f = λ c lock n set. refl

pub returns-clause-pop_unswept : goal.returns-clause-pop_unswept
returns-clause-pop_unswept f = λ c lock n set. refl

pub returns-clause-drop_popped : goal.returns-clause-drop_popped
returns-clause-drop_popped f = λ c lock n page. refl

pub returns-clause-fill : goal.returns-clause-fill
returns-clause-fill f = fill_is_move

pub returns-clause-give : goal.returns-clause-give
returns-clause-give f = λ c n page. refl

pub returns-clause-pull : goal.returns-clause-pull
returns-clause-pull f = λ c n. refl

pub returns-clause-drop : goal.returns-clause-drop
returns-clause-drop f = λ c n. refl

pub returns-clause-cut : goal.returns-clause-cut
returns-clause-cut f = λ c lock n page pages count class. refl

pub returns-clause-next : goal.returns-clause-next
returns-clause-next f = λ c lock marks. refl
