use Rattle.memo_cases.proofs.callers.two_callers.Given as goal

abbrev pub ghosts-run-H-Ledger : goal.ghosts-run-H-Ledger
ghosts-run-H-Ledger g a = record { name = a.blanks.hits.name; parts = a.blanks.hits.parts }

abbrev pub ghosts-run-H-MemoLedger : goal.ghosts-run-H-MemoLedger
ghosts-run-H-MemoLedger g a = record { budget = a.core.budget; share = a.core.share; callers = a.blanks.callers }

abbrev pub ghosts-run-H-AskPolicy : goal.ghosts-run-H-AskPolicy
ghosts-run-H-AskPolicy g a = record { may_ask = λ caller key. Unit {0} }

abbrev pub ghosts-run-M-Ledger : goal.ghosts-run-M-Ledger
ghosts-run-M-Ledger g a = record { name = a.blanks.misses.name; parts = a.blanks.misses.parts }

abbrev pub ghosts-run-K-Ledger : goal.ghosts-run-K-Ledger
ghosts-run-K-Ledger g a = record { name = a.blanks.kept.name; parts = a.blanks.kept.parts }

abbrev pub ghosts-run-E-Ledger : goal.ghosts-run-E-Ledger
ghosts-run-E-Ledger g a = record { name = a.blanks.heavy.name; parts = a.blanks.heavy.parts }

abbrev pub ghosts-run-Begins-Ledger : goal.ghosts-run-Begins-Ledger
ghosts-run-Begins-Ledger g a = record { name = a.claims.begun.name; parts = a.claims.begun.parts }

abbrev pub ghosts-run-Holds-Ledger : goal.ghosts-run-Holds-Ledger
ghosts-run-Holds-Ledger g a = record { name = a.claims.held.name; parts = a.claims.held.parts }
