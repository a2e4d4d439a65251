use Rattle.std.proofs.Common.{◌≡◌, ℕ, List, Result, sym, subst, ◌∙◌, rules}
use Rattle.std.specs.Prelude.{MatchResult}
use Rattle.big_input.specs.DemoScript.{demo_script}
use Rattle.script_reader.specs.Scripts.{IsScript}
use Rattle.script_reader.specs.declared.script.Script.{Script}
use Rattle.script_reader.specs.declared.script.ScriptFault.{ScriptFault}
use Rattle.script_reader.specs.declared.script.ScriptFault.TheVariants.{NoMemory}
use Rattle.script_service.proofs.input.make_demo.Goals as goal

pub prove-unreachable-requires : goal.prove-unreachable-requires
prove-unreachable-requires c =
    let law = c.demo_scripts_have_no_fault.ensures c.args.parts c.requires.1 in
    let made : c.in_ok-bytes.bytes.items ≡ demo_script c.args.parts = search rules in
    let only = c.read_script.ensures.only_script law.0 (subst (λ (bytes : List ℕ). IsScript bytes law.0) (sym (c.as_slice.ensures.value ∙ made)) law.1) in
    let refused : c.in-Err.fault ≡ NoMemory =
    subst (λ (r : Result Script ScriptFault). MatchResult r (λ read. read ≡ law.0) (λ fault. fault ≡ NoMemory)) c.in-Err.is only in
    search rules
