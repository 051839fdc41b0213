use Rattle.set_blocks.proofs.NamesRead.{place_once, place_low}
use Rattle.set_blocks.proofs.places.names_have_their_own_words.Goals as goal

pub returns-clause-once : goal.returns-clause-once
returns-clause-once c = place_once

pub returns-clause-inside : goal.returns-clause-inside
returns-clause-inside c = place_low
