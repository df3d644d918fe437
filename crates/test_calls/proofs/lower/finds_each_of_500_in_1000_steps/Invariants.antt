use Rattle.test_calls.proofs.lower.finds_each_of_500_in_1000_steps.Given as goal

-- the blank has the name and the parts of the ledger
abbrev pub ghosts-count_steps : goal.ghosts-count_steps
ghosts-count_steps g a = record { name = a.blank.name; parts = a.blank.parts }
