use Rattle.hashlink_table.proofs.table.Table.look_up.Given as goal

-- the ledger is the blank's
abbrev pub ghosts-find_from : goal.ghosts-find_from
ghosts-find_from g a = record { name = a.blank.name; parts = a.blank.parts }
