use Rattle.std.proofs.Common.{◌≡◌, ◌<◌, ◌+◌, ◌-◌, ◌∷◌, ◌∙◌, length, map, drop, sym, ap, arith}
use Rattle.std.proofs.lemmas.List.{length-map}
use Rattle.scad_ast.specs.StatementView.{param_of}
use Rattle.scad_definitions.specs.Names.{newest_first}
use Rattle.scad_definitions.specs.Arguments.{parameter_name, parameter_names}
use Rattle.scad_definitions.specs.Lookup.{numbered_from}
use Rattle.scad_definitions.proofs.Looking.{number_more, numbered_none, name_of_param}
use Rattle.scad_definitions.proofs.lookup.index_of.Goals as goal

pub back-init : goal.back-init
back-init c =
    let ps = c.args.params.now in
    let e : length ps ≡ length (parameter_names (map param_of ps)) =
    omega (arith, length-map (map param_of ps) parameter_name, length-map ps param_of) in
    record {
      few = omega (arith, e);
      numbered = c.new-index.ensures ∙ sym (numbered_none (parameter_names (map param_of ps)) (length ps) e);
    }

pub back-preserved : goal.back-preserved
back-preserved c =
    let ps = c.args.params.now in
    let ns = parameter_names (map param_of ps) in
    let inv = c.back.invariant in
    let less : c.back.left - 1 < length ns = omega (arith, inv.few, c.back-test.true) in
    let there : c.back.left - 1 < length ps =
    omega (arith, less, length-map (map param_of ps) parameter_name, length-map ps param_of) in
    let more : (c.back.left - 1) + 1 ≡ c.back.left = omega (arith, c.back-test.true) in
    record {
      few = omega (arith, inv.few);
      numbered = c.in_ok-push.ensures.pushed
          ∙ ap (λ n. (n, c.back.left - 1) ∷ newest_first c.back.index) c.in_ok-name.ensures
          ∙ ap (λ l. (c.parameter_name.result.now, c.back.left - 1) ∷ l) inv.numbered
          ∙ ap (λ k. (c.parameter_name.result.now, c.back.left - 1) ∷ numbered_from k (drop k ns)) (sym more)
          ∙ number_more ns (c.back.left - 1) c.parameter_name.result.now less
          (c.parameter_name.ensures ∙ name_of_param ps (c.back.left - 1) _ there c.index-params-left.is);
    }
