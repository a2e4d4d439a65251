use Rattle.script_server.specs.Books.{IsAskedBy}
use Rattle.script_server.proofs.running.run_named.Given as goal

-- the ledgers are named by the blanks that are handed on, and keep to the new memo's limits
abbrev pub ghosts-run_over-H-Ledger : goal.ghosts-run_over-H-Ledger
ghosts-run_over-H-Ledger g a = record { name = a.blanks.hits.name; parts = a.blanks.hits.parts }

abbrev pub ghosts-run_over-H-MemoLedger : goal.ghosts-run_over-H-MemoLedger
ghosts-run_over-H-MemoLedger g a = record { budget = a.core.budget; share = a.core.share; callers = a.blanks.callers }

-- each client may ask for the joins of what its own commands may export
abbrev pub ghosts-run_over-H-AskPolicy : goal.ghosts-run_over-H-AskPolicy
ghosts-run_over-H-AskPolicy g a = record { may_ask = IsAskedBy a.unit a.script.now.clients }

abbrev pub ghosts-run_over-M-Ledger : goal.ghosts-run_over-M-Ledger
ghosts-run_over-M-Ledger g a = record { name = a.blanks.misses.name; parts = a.blanks.misses.parts }

abbrev pub ghosts-run_over-K-Ledger : goal.ghosts-run_over-K-Ledger
ghosts-run_over-K-Ledger g a = record { name = a.blanks.kept.name; parts = a.blanks.kept.parts }

abbrev pub ghosts-run_over-E-Ledger : goal.ghosts-run_over-E-Ledger
ghosts-run_over-E-Ledger g a = record { name = a.blanks.heavy.name; parts = a.blanks.heavy.parts }

abbrev pub ghosts-run_over-S-Ledger : goal.ghosts-run_over-S-Ledger
ghosts-run_over-S-Ledger g a = record { name = a.claims.begun.name; parts = a.claims.begun.parts }

abbrev pub ghosts-run_over-T-Ledger : goal.ghosts-run_over-T-Ledger
ghosts-run_over-T-Ledger g a = record { name = a.claims.held.name; parts = a.claims.held.parts }
