use Rattle.swept_set_laws.proofs.OneLaw.{move_keeps_names}
use Rattle.swept_set_laws.proofs.a_move_keeps_what_swept_sets_name.Goals as goal

pub returns : goal.returns
returns c = λ s logs names move more names2 e o met on. move_keeps_names s o logs names e more names2 move met on
