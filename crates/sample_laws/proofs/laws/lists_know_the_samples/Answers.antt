use Rattle.cycle_history.proofs.OfObjects.{answers-before}
use Rattle.sample_laws.proofs.Known.{knows-samples}
use Rattle.sample_laws.proofs.laws.lists_know_the_samples.Goals as goal

pub returns : goal.returns
returns c = λ t m answers objects names sampled numbers which b n asked named flags numbers_are which_is found.
    knows-samples t m answers objects names sampled numbers which (record { asked = asked; named = named; flags = flags; numbers_are = numbers_are; which_is = which_is; long = answers-before t m answers objects asked }) b n found
