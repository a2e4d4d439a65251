use Rattle.std.proofs.Common.{inl, inr, ⊎_elim}
use Rattle.std.proofs.lemmas.Result.{MatchResult-weaker}
use Rattle.script_reader.proofs.OneScript.{one_script, one_fault, not_both}
use Rattle.script_reader.proofs.reader.read_script.Goals as goal

pub returns-clause-only_script : goal.returns-clause-only_script
returns-clause-only_script c =
    λ script h. MatchResult-weaker c.read_bytes.result c.read_bytes.ensures.outcome
    (λ read g. one_script c.args.bytes.now read script g h)
    (λ fault g. ⊎_elim (λ e. e) (λ f. absurd (not_both c.args.bytes.now script fault h f)) g)

pub returns-clause-only_fault : goal.returns-clause-only_fault
returns-clause-only_fault c =
    λ fault h. MatchResult-weaker c.read_bytes.result c.read_bytes.ensures.outcome
    (λ read g. not_both c.args.bytes.now read fault g h)
    (λ found g. ⊎_elim (λ e. inl e) (λ f. inr (one_fault c.args.bytes.now found fault f h)) g)
