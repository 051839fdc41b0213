use Rattle.block_laws.proofs.Kept.{draw_keeps, put_keeps, turn_keeps}
use Rattle.block_laws.proofs.steps_keep_spines_and_blocks.Goals as goal

pub returns-clause-draw : goal.returns-clause-draw
returns-clause-draw c = λ chunks g sets b n k. draw_keeps chunks g sets b k n

pub returns-clause-put : goal.returns-clause-put
returns-clause-put c = λ chunks g sets b n s e x k. put_keeps chunks g sets b k n s e x

pub returns-clause-turn : goal.returns-clause-turn
returns-clause-turn c = λ chunks g sets b new_sets new_g k. turn_keeps chunks g sets b k new_sets new_g
