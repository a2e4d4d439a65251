-- Worked rows of hulls, which compute. Each comment is the source whose syntax stands below it.
use Rattle.std.proofs.Common.{◌≡◌, pos, true, false, [], ◌∷◌, None, Some, refl, if◌then◌else◌}
use Rattle.std.specs.Prelude.{codes}
use Rattle.text_place.specs.declared.fault.FaultKind.TheVariants.{UnknownModule, NotInProfile, WrongDimension, BadArgument, TooManyParts}
use Rattle.plane_predicate.specs.declared.unit.Unit.TheVariants.{Whole}
use Rattle.csg_tree.specs.declared.op.Op.TheVariants.{Union, Difference}
use Rattle.scad_ast.specs.declared.operator.Modifier.TheVariants.{Root}
use Rattle.scad_ast.specs.Terms.{NumberTerm, NameTerm, ListTerm, no_terms, and_term, PositionalTerm, InstanceStatement, no_statements, and_statement, AnInstance, ModuleCallTerm, EmptyBody, BlockBody, InstanceBody}
use Rattle.scad_scope.specs.Names.{first_bindings}
use Rattle.scad_func.specs.Meaning.{Gives, Faults, value_within}
use Rattle.scad_design.specs.Designs.{MovedShape, empty, a_leaf, join_children}
use Rattle.scad_meaning.specs.Verdicts.{Judge}
use Rattle.scad_meaning.specs.Meaning.{design_within, design_of}
use Rattle.scad_meaning.specs.Hulls.{is_union, points_of}
use Rattle.scad_meaning.proofs.Rows.{at, meaning, nothing_seen, points_seen, seen_in, is_given, begun}

-- a judge that finds no hull right
abbrev strict : Judge
strict = record { solid = λ _ _. None; flat = λ _ _. None; height = λ _ _ _. None; hull = λ _. Some NotInProfile }

-- a judge that wants unions alone in hulls
abbrev wants_unions : Judge
wants_unions = record { solid = λ _ _. None; flat = λ _ _. None; height = λ _ _ _. None; hull = λ design. if is_union design then None else Some NotInProfile }

-- a part with one point
abbrev dot : MovedShape
dot = record { mesh = record { points = (pos 1 ∷ pos 2 ∷ pos 3 ∷ []) ∷ []; faces = [] }; steps = []; at = at 1 1 }

-- a difference counts where it is left when empty sides are dropped
left_over : is_union (join_children Difference (a_leaf dot ∷ empty ∷ [])) ≡ true
left_over = refl

taken_away : is_union (join_children Union (a_leaf dot ∷ join_children Difference (a_leaf dot ∷ a_leaf dot ∷ []) ∷ [])) ≡ false
taken_away = refl

-- all points, also those that come twice
points_twice : points_of (join_children Union (a_leaf dot ∷ a_leaf dot ∷ [])) ≡ (pos 1 ∷ pos 2 ∷ pos 3 ∷ []) ∷ (pos 1 ∷ pos 2 ∷ pos 3 ∷ []) ∷ []
points_twice = refl

-- hull() cube(1);
hull_of_a_cube : seen_in (meaning (and_statement (InstanceStatement (AnInstance (at 1 1) ([]) (ModuleCallTerm (at 1 1) (codes "hull") ([]) (InstanceBody (AnInstance (at 1 8) ([]) (ModuleCallTerm (at 1 8) (codes "cube") ((PositionalTerm (NumberTerm (at 1 13) 1)) ∷ []) (EmptyBody (at 1 15)))))))) no_statements)) ≡ points_seen ((pos 0 ∷ pos 0 ∷ pos 0 ∷ []) ∷ (pos 0 ∷ pos 0 ∷ pos 1 ∷ []) ∷ (pos 0 ∷ pos 1 ∷ pos 0 ∷ []) ∷ (pos 0 ∷ pos 1 ∷ pos 1 ∷ []) ∷ (pos 1 ∷ pos 0 ∷ pos 0 ∷ []) ∷ (pos 1 ∷ pos 0 ∷ pos 1 ∷ []) ∷ (pos 1 ∷ pos 1 ∷ pos 0 ∷ []) ∷ (pos 1 ∷ pos 1 ∷ pos 1 ∷ []) ∷ []) ((0 ∷ 1 ∷ 2 ∷ []) ∷ (0 ∷ 1 ∷ 4 ∷ []) ∷ (0 ∷ 2 ∷ 4 ∷ []) ∷ (1 ∷ 3 ∷ 5 ∷ []) ∷ (2 ∷ 3 ∷ 6 ∷ []) ∷ (4 ∷ 5 ∷ 6 ∷ []) ∷ [])
unfolding design_of design_within value_within
hull_of_a_cube = refl

-- translate([1,0,0]) hull() cube(1);
hull_moved : seen_in (meaning (and_statement (InstanceStatement (AnInstance (at 1 1) ([]) (ModuleCallTerm (at 1 1) (codes "translate") ((PositionalTerm (ListTerm (at 1 11) (and_term (NumberTerm (at 1 12) 1) (and_term (NumberTerm (at 1 14) 0) (and_term (NumberTerm (at 1 16) 0) no_terms))))) ∷ []) (InstanceBody (AnInstance (at 1 20) ([]) (ModuleCallTerm (at 1 20) (codes "hull") ([]) (InstanceBody (AnInstance (at 1 27) ([]) (ModuleCallTerm (at 1 27) (codes "cube") ((PositionalTerm (NumberTerm (at 1 32) 1)) ∷ []) (EmptyBody (at 1 34))))))))))) no_statements)) ≡ points_seen ((pos 1 ∷ pos 0 ∷ pos 0 ∷ []) ∷ (pos 1 ∷ pos 0 ∷ pos 1 ∷ []) ∷ (pos 1 ∷ pos 1 ∷ pos 0 ∷ []) ∷ (pos 1 ∷ pos 1 ∷ pos 1 ∷ []) ∷ (pos 2 ∷ pos 0 ∷ pos 0 ∷ []) ∷ (pos 2 ∷ pos 0 ∷ pos 1 ∷ []) ∷ (pos 2 ∷ pos 1 ∷ pos 0 ∷ []) ∷ (pos 2 ∷ pos 1 ∷ pos 1 ∷ []) ∷ []) ((0 ∷ 1 ∷ 2 ∷ []) ∷ (0 ∷ 1 ∷ 4 ∷ []) ∷ (0 ∷ 2 ∷ 4 ∷ []) ∷ (1 ∷ 3 ∷ 5 ∷ []) ∷ (2 ∷ 3 ∷ 6 ∷ []) ∷ (4 ∷ 5 ∷ 6 ∷ []) ∷ [])
unfolding design_of design_within value_within
hull_moved = refl

-- hull() translate([1,0,0]) cube(1);
hull_of_a_moved_cube : seen_in (meaning (and_statement (InstanceStatement (AnInstance (at 1 1) ([]) (ModuleCallTerm (at 1 1) (codes "hull") ([]) (InstanceBody (AnInstance (at 1 8) ([]) (ModuleCallTerm (at 1 8) (codes "translate") ((PositionalTerm (ListTerm (at 1 18) (and_term (NumberTerm (at 1 19) 1) (and_term (NumberTerm (at 1 21) 0) (and_term (NumberTerm (at 1 23) 0) no_terms))))) ∷ []) (InstanceBody (AnInstance (at 1 27) ([]) (ModuleCallTerm (at 1 27) (codes "cube") ((PositionalTerm (NumberTerm (at 1 32) 1)) ∷ []) (EmptyBody (at 1 34))))))))))) no_statements)) ≡ points_seen ((pos 1 ∷ pos 0 ∷ pos 0 ∷ []) ∷ (pos 1 ∷ pos 0 ∷ pos 1 ∷ []) ∷ (pos 1 ∷ pos 1 ∷ pos 0 ∷ []) ∷ (pos 1 ∷ pos 1 ∷ pos 1 ∷ []) ∷ (pos 2 ∷ pos 0 ∷ pos 0 ∷ []) ∷ (pos 2 ∷ pos 0 ∷ pos 1 ∷ []) ∷ (pos 2 ∷ pos 1 ∷ pos 0 ∷ []) ∷ (pos 2 ∷ pos 1 ∷ pos 1 ∷ []) ∷ []) ((0 ∷ 1 ∷ 2 ∷ []) ∷ (0 ∷ 1 ∷ 4 ∷ []) ∷ (0 ∷ 2 ∷ 4 ∷ []) ∷ (1 ∷ 3 ∷ 5 ∷ []) ∷ (2 ∷ 3 ∷ 6 ∷ []) ∷ (4 ∷ 5 ∷ 6 ∷ []) ∷ [])
unfolding design_of design_within value_within
hull_of_a_moved_cube = refl

-- hull() { }
hull_of_nothing : seen_in (meaning (and_statement (InstanceStatement (AnInstance (at 1 1) ([]) (ModuleCallTerm (at 1 1) (codes "hull") ([]) (BlockBody (at 1 8) no_statements)))) no_statements)) ≡ nothing_seen
unfolding design_of design_within value_within
hull_of_nothing = refl

-- hull(1);
hull_of_an_argument : meaning (and_statement (InstanceStatement (AnInstance (at 1 1) ([]) (ModuleCallTerm (at 1 1) (codes "hull") ((PositionalTerm (NumberTerm (at 1 6) 1)) ∷ []) (EmptyBody (at 1 8))))) no_statements) ≡ Faults BadArgument (at 1 6)
unfolding design_of design_within value_within
hull_of_an_argument = refl

-- linear_extrude(1) hull() cube(x);
hull_inside : meaning (and_statement (InstanceStatement (AnInstance (at 1 1) ([]) (ModuleCallTerm (at 1 1) (codes "linear_extrude") ((PositionalTerm (NumberTerm (at 1 16) 1)) ∷ []) (InstanceBody (AnInstance (at 1 19) ([]) (ModuleCallTerm (at 1 19) (codes "hull") ([]) (InstanceBody (AnInstance (at 1 26) ([]) (ModuleCallTerm (at 1 26) (codes "cube") ((PositionalTerm (NameTerm (at 1 31) (codes "x"))) ∷ []) (EmptyBody (at 1 33))))))))))) no_statements) ≡ Faults WrongDimension (at 1 19)
unfolding design_of design_within value_within
hull_inside = refl

-- hull() cub(1); and something is wrong with its hull
hull_of_a_fault : design_of Whole strict first_bindings (and_statement (InstanceStatement (AnInstance (at 1 1) ([]) (ModuleCallTerm (at 1 1) (codes "hull") ([]) (InstanceBody (AnInstance (at 1 8) ([]) (ModuleCallTerm (at 1 8) (codes "cub") ((PositionalTerm (NumberTerm (at 1 12) 1)) ∷ []) (EmptyBody (at 1 14)))))))) no_statements) ≡ Faults UnknownModule (at 1 8)
unfolding design_of design_within value_within
hull_of_a_fault = refl

-- hull() cube(1); and something is wrong with its hull
hull_with_a_fault : design_of Whole strict first_bindings (and_statement (InstanceStatement (AnInstance (at 1 1) ([]) (ModuleCallTerm (at 1 1) (codes "hull") ([]) (InstanceBody (AnInstance (at 1 8) ([]) (ModuleCallTerm (at 1 8) (codes "cube") ((PositionalTerm (NumberTerm (at 1 13) 1)) ∷ []) (EmptyBody (at 1 15)))))))) no_statements) ≡ Faults NotInProfile (at 1 1)
unfolding design_of design_within value_within
hull_with_a_fault = refl

-- hull(); of which nothing can be wrong
hull_without_a_fault : design_of Whole strict first_bindings (and_statement (InstanceStatement (AnInstance (at 1 1) ([]) (ModuleCallTerm (at 1 1) (codes "hull") ([]) (EmptyBody (at 1 7))))) no_statements) ≡ Gives 0 empty
unfolding design_of design_within value_within
hull_without_a_fault = refl

-- hull() { !cube(1); } and cube(1);
marked_in_a_hull : seen_in (meaning (and_statement (InstanceStatement (AnInstance (at 1 1) ([]) (ModuleCallTerm (at 1 1) (codes "hull") ([]) (BlockBody (at 1 8) (and_statement (InstanceStatement (AnInstance (at 1 10) ((record { at = (at 1 10); modifier = Root }) ∷ []) (ModuleCallTerm (at 1 11) (codes "cube") ((PositionalTerm (NumberTerm (at 1 16) 1)) ∷ []) (EmptyBody (at 1 18))))) no_statements))))) no_statements)) ≡ seen_in (meaning (and_statement (InstanceStatement (AnInstance (at 1 1) ([]) (ModuleCallTerm (at 1 1) (codes "cube") ((PositionalTerm (NumberTerm (at 1 6) 1)) ∷ []) (EmptyBody (at 1 8))))) no_statements))
unfolding design_of design_within value_within
marked_in_a_hull = refl

-- hull() difference() { cube(9); !cube(1); }
marked_beside_a_hull : design_of Whole wants_unions first_bindings (and_statement (InstanceStatement (AnInstance (at 1 1) ([]) (ModuleCallTerm (at 1 1) (codes "hull") ([]) (InstanceBody (AnInstance (at 1 8) ([]) (ModuleCallTerm (at 1 8) (codes "difference") ([]) (BlockBody (at 1 21) (and_statement (InstanceStatement (AnInstance (at 1 23) ([]) (ModuleCallTerm (at 1 23) (codes "cube") ((PositionalTerm (NumberTerm (at 1 28) 9)) ∷ []) (EmptyBody (at 1 30))))) (and_statement (InstanceStatement (AnInstance (at 1 32) ((record { at = (at 1 32); modifier = Root }) ∷ []) (ModuleCallTerm (at 1 33) (codes "cube") ((PositionalTerm (NumberTerm (at 1 38) 1)) ∷ []) (EmptyBody (at 1 40))))) no_statements))))))))) no_statements) ≡ Faults NotInProfile (at 1 1)
unfolding design_of design_within value_within
marked_beside_a_hull = refl

-- hull() difference() { !cube(9); }
marked_alone_in_a_hull : seen_in (design_of Whole wants_unions first_bindings (and_statement (InstanceStatement (AnInstance (at 1 1) ([]) (ModuleCallTerm (at 1 1) (codes "hull") ([]) (InstanceBody (AnInstance (at 1 8) ([]) (ModuleCallTerm (at 1 8) (codes "difference") ([]) (BlockBody (at 1 21) (and_statement (InstanceStatement (AnInstance (at 1 23) ((record { at = (at 1 23); modifier = Root }) ∷ []) (ModuleCallTerm (at 1 24) (codes "cube") ((PositionalTerm (NumberTerm (at 1 29) 9)) ∷ []) (EmptyBody (at 1 31))))) no_statements)))))))) no_statements)) ≡ seen_in (meaning (and_statement (InstanceStatement (AnInstance (at 1 1) ([]) (ModuleCallTerm (at 1 1) (codes "cube") ((PositionalTerm (NumberTerm (at 1 6) 9)) ∷ []) (EmptyBody (at 1 8))))) no_statements))
unfolding design_of design_within value_within
marked_alone_in_a_hull = refl

-- hull() !cube(1);
hull_of_a_marked_cube : design_of Whole strict first_bindings (and_statement (InstanceStatement (AnInstance (at 1 1) ([]) (ModuleCallTerm (at 1 1) (codes "hull") ([]) (InstanceBody (AnInstance (at 1 8) ((record { at = (at 1 8); modifier = Root }) ∷ []) (ModuleCallTerm (at 1 9) (codes "cube") ((PositionalTerm (NumberTerm (at 1 14) 1)) ∷ []) (EmptyBody (at 1 16)))))))) no_statements) ≡ Faults NotInProfile (at 1 1)
unfolding design_of design_within value_within
hull_of_a_marked_cube = refl

-- after 0 turns and 1023 leaves
-- hull() !cube(1);
hull_of_the_last_marked_leaf : begun 0 1023 (and_statement (InstanceStatement (AnInstance (at 1 1) ([]) (ModuleCallTerm (at 1 1) (codes "hull") ([]) (InstanceBody (AnInstance (at 1 8) ((record { at = (at 1 8); modifier = Root }) ∷ []) (ModuleCallTerm (at 1 9) (codes "cube") ((PositionalTerm (NumberTerm (at 1 14) 1)) ∷ []) (EmptyBody (at 1 16)))))))) no_statements) ≡ Faults TooManyParts (at 1 1)
unfolding design_within value_within
hull_of_the_last_marked_leaf = refl

-- !hull() { cube(1); !cube(2); }
marked_inside_a_mark : seen_in (meaning (and_statement (InstanceStatement (AnInstance (at 1 1) ((record { at = (at 1 1); modifier = Root }) ∷ []) (ModuleCallTerm (at 1 2) (codes "hull") ([]) (BlockBody (at 1 9) (and_statement (InstanceStatement (AnInstance (at 1 11) ([]) (ModuleCallTerm (at 1 11) (codes "cube") ((PositionalTerm (NumberTerm (at 1 16) 1)) ∷ []) (EmptyBody (at 1 18))))) (and_statement (InstanceStatement (AnInstance (at 1 20) ((record { at = (at 1 20); modifier = Root }) ∷ []) (ModuleCallTerm (at 1 21) (codes "cube") ((PositionalTerm (NumberTerm (at 1 26) 2)) ∷ []) (EmptyBody (at 1 28))))) no_statements)))))) no_statements)) ≡ seen_in (meaning (and_statement (InstanceStatement (AnInstance (at 1 1) ([]) (ModuleCallTerm (at 1 1) (codes "hull") ([]) (BlockBody (at 1 8) (and_statement (InstanceStatement (AnInstance (at 1 10) ([]) (ModuleCallTerm (at 1 10) (codes "cube") ((PositionalTerm (NumberTerm (at 1 15) 1)) ∷ []) (EmptyBody (at 1 17))))) (and_statement (InstanceStatement (AnInstance (at 1 19) ([]) (ModuleCallTerm (at 1 19) (codes "cube") ((PositionalTerm (NumberTerm (at 1 24) 2)) ∷ []) (EmptyBody (at 1 26))))) no_statements)))))) no_statements))
unfolding design_of design_within value_within
marked_inside_a_mark = refl

-- hull() cube(1); behind 1,023 leaves
hull_of_the_last_leaf : begun 0 1023 (and_statement (InstanceStatement (AnInstance (at 1 1) ([]) (ModuleCallTerm (at 1 1) (codes "hull") ([]) (InstanceBody (AnInstance (at 1 8) ([]) (ModuleCallTerm (at 1 8) (codes "cube") ((PositionalTerm (NumberTerm (at 1 13) 1)) ∷ []) (EmptyBody (at 1 15)))))))) no_statements) ≡ Faults TooManyParts (at 1 1)
unfolding design_of design_within value_within
hull_of_the_last_leaf = refl

-- hull() cube(1); behind 1,022 leaves
hull_as_the_last_leaf : is_given (begun 0 1022 (and_statement (InstanceStatement (AnInstance (at 1 1) ([]) (ModuleCallTerm (at 1 1) (codes "hull") ([]) (InstanceBody (AnInstance (at 1 8) ([]) (ModuleCallTerm (at 1 8) (codes "cube") ((PositionalTerm (NumberTerm (at 1 13) 1)) ∷ []) (EmptyBody (at 1 15)))))))) no_statements)) ≡ true
unfolding design_of design_within value_within
hull_as_the_last_leaf = refl
