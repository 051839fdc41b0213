use Rattle.span_table.proofs.blocks.see_entry.Given as goal

abbrev pub ghosts-see_entry_as : goal.ghosts-see_entry_as
ghosts-see_entry_as a = record { set = a.set; index = a.entry }
