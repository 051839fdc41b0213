use Rattle.run_laws_tests.proofs.Slips.{no-unwanted, no-carried, no-line, no-object, no-note, no-number, no-scavenged-before}
use Rattle.run_laws_tests.proofs.each_fact_of_a_beginning_can_be_missing.Goals as goal

pub returns-clause-life_that_nobody_wanted : goal.returns-clause-life_that_nobody_wanted
returns-clause-life_that_nobody_wanted c = no-unwanted

pub returns-clause-index_not_carried : goal.returns-clause-index_not_carried
returns-clause-index_not_carried c = no-carried

pub returns-clause-line_of_the_cycle : goal.returns-clause-line_of_the_cycle
returns-clause-line_of_the_cycle c = no-line

pub returns-clause-object_of_the_cycle : goal.returns-clause-object_of_the_cycle
returns-clause-object_of_the_cycle c = no-object

pub returns-clause-note_of_the_cycle : goal.returns-clause-note_of_the_cycle
returns-clause-note_of_the_cycle c = no-note

pub returns-clause-number_used_twice : goal.returns-clause-number_used_twice
returns-clause-number_used_twice c = no-number

pub returns-clause-not_scavenged : goal.returns-clause-not_scavenged
returns-clause-not_scavenged c = no-scavenged-before
