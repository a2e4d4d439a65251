use Rattle.std.proofs.Common.{map, refl, ap, ◌∙◌, List, arith}
use Rattle.scad_scope.specs.Table.{bindings_of}
use Rattle.scad_value.specs.declared.bounded_value.BoundedValue.{BoundedValue}
use Rattle.scad_definitions.specs.declared.parameters.SpecialArgument.{SpecialArgument}
use Rattle.scad_func.specs.View.{special_binding_of}
use Rattle.scad_func.proofs.Chains.{set_on, set_all, oldest_all}
use Rattle.scad_func.proofs.dynamic.bind_each_special.Goals as goal

pub each-init : goal.each-init
each-init c =
    let bindings = bindings_of c.args.scopes.now in
    let all = c.into_iter-left.ensures.rest in
    record {
      told = ap (λ (l : List (SpecialArgument BoundedValue)). set_on (map special_binding_of l) bindings) all
          ∙ set_all (map special_binding_of c.args.dynamic.items) bindings;
      longer = omega arith;
      older = oldest_all bindings;
      rows = refl;
    }
