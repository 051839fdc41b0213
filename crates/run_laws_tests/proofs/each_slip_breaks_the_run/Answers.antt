use Rattle.run_laws_tests.proofs.Broken.{writes-break, sweeps-break, notes-break, marks-break, places-break, holdings-break, fills-break, objects-break, lasting-break, misses-break, scavenged-break}
use Rattle.run_laws_tests.proofs.each_slip_breaks_the_run.Goals as goal

pub returns-clause-writes : goal.returns-clause-writes
returns-clause-writes c = writes-break

pub returns-clause-sweeps : goal.returns-clause-sweeps
returns-clause-sweeps c = sweeps-break

pub returns-clause-notes : goal.returns-clause-notes
returns-clause-notes c = notes-break

pub returns-clause-marks : goal.returns-clause-marks
returns-clause-marks c = marks-break

pub returns-clause-places : goal.returns-clause-places
returns-clause-places c = places-break

pub returns-clause-holdings : goal.returns-clause-holdings
returns-clause-holdings c = holdings-break

pub returns-clause-fills : goal.returns-clause-fills
returns-clause-fills c = fills-break

pub returns-clause-objects : goal.returns-clause-objects
returns-clause-objects c = objects-break

pub returns-clause-lasting : goal.returns-clause-lasting
returns-clause-lasting c = lasting-break

pub returns-clause-misses : goal.returns-clause-misses
returns-clause-misses c = misses-break

pub returns-clause-scavenged : goal.returns-clause-scavenged
returns-clause-scavenged c = scavenged-break
