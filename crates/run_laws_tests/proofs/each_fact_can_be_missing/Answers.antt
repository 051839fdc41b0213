use Rattle.run_laws_tests.proofs.Slips.{no-writes, no-sweeps, no-notes, no-marks, no-places, no-holdings, no-fills, no-objects, no-lasting, no-misses, no-scavenged}
use Rattle.run_laws_tests.proofs.each_fact_can_be_missing.Goals as goal

pub returns-clause-writes : goal.returns-clause-writes
returns-clause-writes c = no-writes

pub returns-clause-sweeps : goal.returns-clause-sweeps
returns-clause-sweeps c = no-sweeps

pub returns-clause-notes : goal.returns-clause-notes
returns-clause-notes c = no-notes

pub returns-clause-marks : goal.returns-clause-marks
returns-clause-marks c = no-marks

pub returns-clause-places : goal.returns-clause-places
returns-clause-places c = no-places

pub returns-clause-holdings : goal.returns-clause-holdings
returns-clause-holdings c = no-holdings

pub returns-clause-fills : goal.returns-clause-fills
returns-clause-fills c = no-fills

pub returns-clause-objects : goal.returns-clause-objects
returns-clause-objects c = no-objects

pub returns-clause-lasting : goal.returns-clause-lasting
returns-clause-lasting c = no-lasting

pub returns-clause-misses : goal.returns-clause-misses
returns-clause-misses c = no-misses

pub returns-clause-scavenged : goal.returns-clause-scavenged
returns-clause-scavenged c = no-scavenged
