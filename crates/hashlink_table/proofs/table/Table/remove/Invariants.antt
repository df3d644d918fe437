use Rattle.hashlink_table.proofs.table.Table.remove.Given as goal

-- the ledger is the blank's
abbrev pub ghosts-remove_from : goal.ghosts-remove_from
ghosts-remove_from g a = record { name = a.blank.name; parts = a.blank.parts }
