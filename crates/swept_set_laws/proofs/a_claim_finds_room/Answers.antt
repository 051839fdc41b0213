use Rattle.swept_set_laws.proofs.EachMove.{claim_has_room}
use Rattle.swept_set_laws.proofs.a_claim_finds_room.Goals as goal

pub returns : goal.returns
returns c = λ s logs names w j p e o met may. claim_has_room s o logs names e w j p met may
