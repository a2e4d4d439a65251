use Rattle.std.proofs.Common.{◌∙◌, ◌++◌, get_or, reverse, Some, sym, ap, subst}
use Rattle.std.specs.Prelude.{option_map}
use Rattle.scad_value.specs.View.{val_of}
use Rattle.scad_value.specs.declared.bounded_value.BoundedValue.{BoundedValue}
use Rattle.scad_scope.specs.Known.{with_names}
use Rattle.scad_scope.specs.View.{variables_of, names_in_table, IsValueFound}
use Rattle.scad_scope.proofs.Bindings.{found_first, found_behind, known_found, known_none}
use Rattle.scad_scope.proofs.variables.Variables.find.Goals as goal

pub returns-in-Some : goal.returns-in-Some
returns-in-Some c =
    let s = c.args.self.now in
    found_first (variables_of s.later)
    (reverse (with_names s.values.items (names_in_table s)) ++ variables_of s.earlier) c.args.name.now _ c.in-Some.ensures

pub returns-in-Some-place : goal.returns-in-Some-place
returns-in-Some-place c =
    let s = c.args.self.now in
    let known = reverse (with_names s.values.items (names_in_table s)) in
    let d = c.index.result.now in
    found_behind (variables_of s.later) (known ++ variables_of s.earlier) c.args.name.now c.in_default.ensures
    ∙ found_first known (variables_of s.earlier) c.args.name.now _
    (known_found s.values.items (names_in_table s) s.fit c.args.name.now d
    ∙ ap (option_map (λ k. val_of (get_or s.values.items k d).value)) (sym c.in-Some-place.ensures.value)
    ∙ ap (λ (b : BoundedValue). Some (val_of b.value)) (sym c.index.ensures))

pub returns : goal.returns
returns c =
    let s = c.args.self.now in
    let known = reverse (with_names s.values.items (names_in_table s)) in
    subst (λ o. IsValueFound o c.find_variable-2.result)
    (sym (found_behind (variables_of s.later) (known ++ variables_of s.earlier) c.args.name.now c.in_default.ensures
    ∙ found_behind known (variables_of s.earlier) c.args.name.now
    (known_none s.values.items (names_in_table s) s.fit c.args.name.now (sym c.in_default-place.ensures.value))))
    c.find_variable-2.ensures
