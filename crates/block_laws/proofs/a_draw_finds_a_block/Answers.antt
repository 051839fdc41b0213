use Rattle.block_laws.proofs.Room.{block_left}
use Rattle.block_laws.proofs.a_draw_finds_a_block.Goals as goal

pub returns : goal.returns
returns c = λ s chunks b logs names n k e many few none. block_left s chunks b k logs names e many n few none
