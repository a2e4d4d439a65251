-- Worked rows of the meaning of programs, which compute. Each comment is the source whose syntax stands below it.
use Rattle.std.proofs.Common.{◌≡◌, ℕ, ℤ, Bool, true, false, List, [], ◌∷◌, map, None, refl}
use Rattle.std.specs.Prelude.{codes}
use Rattle.plain_text.specs.declared.place.Place.{Place}
use Rattle.text_place.specs.declared.fault.FaultKind.TheVariants.{TooDeep, UnknownName, RangeOrder, UnknownModule, NotInProfile, NotQuarter, WrongDimension, AssertFailed, TypeMismatch, Singular, BadArgument, TooManyTurns, TooManyParts}
use Rattle.plane_predicate.specs.declared.unit.Unit.TheVariants.{Whole}
use Rattle.plane_predicate.specs.Space.{point_at}
use Rattle.csg_tree.specs.declared.op.Op.{Op}
use Rattle.int_transform.specs.Maps.{map_of, image, coordinate_list}
use Rattle.scad_ast.specs.declared.operator.BinaryOp.TheVariants.{Equal, Greater, Add, Subtract, Divide}
use Rattle.scad_ast.specs.declared.operator.UnaryOp.TheVariants.{Negate}
use Rattle.scad_ast.specs.declared.operator.Modifier.TheVariants.{Disable, Highlight, Root}
use Rattle.scad_ast.specs.Terms.{NumberTerm, TextTerm, TruthTerm, ChildCountTerm, SpecialTerm, NameTerm, CallTerm, ListTerm, RangeTerm, SteppedRangeTerm, UnaryTerm, ChainTerm, no_terms, and_term, no_args, and_positional, no_links, and_link, PlainTerm, DefaultTerm, NamedTerm, SpecialArgTerm, PositionalTerm, BlockStatement, AssignmentTerm, SpecialAssignmentTerm, ModuleTerm, FunctionTerm, InstanceStatement, StatementTerms, no_statements, and_statement, AnInstance, IfTerm, IfElseTerm, ForTerm, IntersectionForTerm, ModuleCallTerm, EmptyBody, BlockBody, InstanceBody}
use Rattle.scad_scope.specs.Names.{first_bindings}
use Rattle.scad_func.specs.Limits.{most_evaluations}
use Rattle.scad_func.specs.Meaning.{Outcome, Gives, Faults, value_within}
use Rattle.scad_design.specs.Designs.{DesignTree, empty, a_leaf, joined_designs}
use Rattle.scad_meaning.specs.Verdicts.{Judge}
use Rattle.scad_meaning.specs.Meaning.{MemberDesigns, each_in_scope, program_context, design_within, evaluator_with, design_of}

abbrev pub at : ℕ → ℕ → Place
at line column = record { line = line; column = column }

-- a judge that finds nothing wrong
abbrev pub lenient : Judge
lenient = record { solid = λ _ _. None; flat = λ _ _. None; height = λ _ _ _. None; hull = λ _. None }

abbrev pub meaning : StatementTerms → Outcome DesignTree
meaning p = design_of Whole lenient first_bindings p

-- a design by the points of its shapes in world position
pub data Seen : Type 0 where
  nothing_seen : Seen
  points_seen : (points : List (List ℤ)) → (faces : List (List ℕ)) → Seen
  both_seen : (op : Op) → (left right : Seen) → Seen
  fault_seen : Seen

abbrev pub seen : DesignTree → Seen
seen empty = nothing_seen
seen (a_leaf part) = points_seen (map (λ p. coordinate_list (image (map_of part.steps) (point_at p))) part.mesh.points) part.mesh.faces
seen (joined_designs op left right) = both_seen op (seen left) (seen right)

abbrev turns_in : Outcome DesignTree → ℕ
turns_in (Gives turns design) = turns
turns_in (Faults kind at) = 0

-- from the given number of turns and leaves on
abbrev pub is_given : {A : Type 0} → Outcome A → Bool
is_given (Gives turns x) = true
is_given (Faults kind at) = false

abbrev pub begun : ℕ → ℕ → StatementTerms → Outcome MemberDesigns
begun turns leaves p = each_in_scope (evaluator_with Whole lenient most_evaluations) (program_context first_bindings p) p turns leaves

abbrev pub seen_in : Outcome DesignTree → Seen
seen_in (Gives turns design) = seen design
seen_in (Faults kind at) = fault_seen

-- module m() { m(); } m();
calls_too_deep : meaning (and_statement (ModuleTerm (at 1 1) (codes "m") (at 1 8) ([]) (BlockBody (at 1 12) (and_statement (InstanceStatement (AnInstance (at 1 14) ([]) (ModuleCallTerm (at 1 14) (codes "m") ([]) (EmptyBody (at 1 17))))) no_statements))) (and_statement (InstanceStatement (AnInstance (at 1 21) ([]) (ModuleCallTerm (at 1 21) (codes "m") ([]) (EmptyBody (at 1 24))))) no_statements)) ≡ Faults TooDeep (at 1 14)
unfolding design_of design_within value_within
calls_too_deep = refl

-- y=x; x=2; cube(y);
unbound : meaning (and_statement (AssignmentTerm (at 1 1) (codes "y") (NameTerm (at 1 3) (codes "x"))) (and_statement (AssignmentTerm (at 1 6) (codes "x") (NumberTerm (at 1 8) 2)) (and_statement (InstanceStatement (AnInstance (at 1 11) ([]) (ModuleCallTerm (at 1 11) (codes "cube") ((PositionalTerm (NameTerm (at 1 16) (codes "y"))) ∷ []) (EmptyBody (at 1 18))))) no_statements))) ≡ Faults UnknownName (at 1 3)
unfolding design_of design_within value_within
unbound = refl

-- for (i=[3:1]) cube(1);
range_order : meaning (and_statement (InstanceStatement (AnInstance (at 1 1) ([]) (ForTerm (at 1 1) ((record { at = (at 1 6); name = (codes "i"); values = (RangeTerm (at 1 8) (NumberTerm (at 1 9) 3) (NumberTerm (at 1 11) 1)) }) ∷ []) (InstanceBody (AnInstance (at 1 15) ([]) (ModuleCallTerm (at 1 15) (codes "cube") ((PositionalTerm (NumberTerm (at 1 20) 1)) ∷ []) (EmptyBody (at 1 22)))))))) no_statements) ≡ Faults RangeOrder (at 1 8)
unfolding design_of design_within value_within
range_order = refl

-- cub(1);
unknown_module : meaning (and_statement (InstanceStatement (AnInstance (at 1 1) ([]) (ModuleCallTerm (at 1 1) (codes "cub") ((PositionalTerm (NumberTerm (at 1 5) 1)) ∷ []) (EmptyBody (at 1 7))))) no_statements) ≡ Faults UnknownModule (at 1 1)
unfolding design_of design_within value_within
unknown_module = refl

-- sphere(1);
left_out_module : meaning (and_statement (InstanceStatement (AnInstance (at 1 1) ([]) (ModuleCallTerm (at 1 1) (codes "sphere") ((PositionalTerm (NumberTerm (at 1 8) 1)) ∷ []) (EmptyBody (at 1 10))))) no_statements) ≡ Faults NotInProfile (at 1 1)
unfolding design_of design_within value_within
left_out_module = refl

-- rotate(45) cube(1);
no_quarter : meaning (and_statement (InstanceStatement (AnInstance (at 1 1) ([]) (ModuleCallTerm (at 1 1) (codes "rotate") ((PositionalTerm (NumberTerm (at 1 8) 45)) ∷ []) (InstanceBody (AnInstance (at 1 12) ([]) (ModuleCallTerm (at 1 12) (codes "cube") ((PositionalTerm (NumberTerm (at 1 17) 1)) ∷ []) (EmptyBody (at 1 19)))))))) no_statements) ≡ Faults NotQuarter (at 1 1)
unfolding design_of design_within value_within
no_quarter = refl

-- square(1);
flat_outside : meaning (and_statement (InstanceStatement (AnInstance (at 1 1) ([]) (ModuleCallTerm (at 1 1) (codes "square") ((PositionalTerm (NumberTerm (at 1 8) 1)) ∷ []) (EmptyBody (at 1 10))))) no_statements) ≡ Faults WrongDimension (at 1 1)
unfolding design_of design_within value_within
flat_outside = refl

-- linear_extrude(height=1) cube(1);
solid_inside : meaning (and_statement (InstanceStatement (AnInstance (at 1 1) ([]) (ModuleCallTerm (at 1 1) (codes "linear_extrude") ((NamedTerm (at 1 16) (codes "height") (NumberTerm (at 1 23) 1)) ∷ []) (InstanceBody (AnInstance (at 1 26) ([]) (ModuleCallTerm (at 1 26) (codes "cube") ((PositionalTerm (NumberTerm (at 1 31) 1)) ∷ []) (EmptyBody (at 1 33)))))))) no_statements) ≡ Faults WrongDimension (at 1 26)
unfolding design_of design_within value_within
solid_inside = refl

-- assert(1 > 2);
assertion : meaning (and_statement (InstanceStatement (AnInstance (at 1 1) ([]) (ModuleCallTerm (at 1 1) (codes "assert") ((PositionalTerm (ChainTerm (at 1 8) (NumberTerm (at 1 8) 1) (and_link Greater (at 1 10) (NumberTerm (at 1 12) 2) no_links))) ∷ []) (EmptyBody (at 1 14))))) no_statements) ≡ Faults AssertFailed (at 1 1)
unfolding design_of design_within value_within
assertion = refl

-- cube(1, 2);
wrong_center : meaning (and_statement (InstanceStatement (AnInstance (at 1 1) ([]) (ModuleCallTerm (at 1 1) (codes "cube") ((PositionalTerm (NumberTerm (at 1 6) 1)) ∷ (PositionalTerm (NumberTerm (at 1 9) 2)) ∷ []) (EmptyBody (at 1 11))))) no_statements) ≡ Faults TypeMismatch (at 1 1)
unfolding design_of design_within value_within
wrong_center = refl

-- mirror([1,1,0]) cube(1);
two_axes : meaning (and_statement (InstanceStatement (AnInstance (at 1 1) ([]) (ModuleCallTerm (at 1 1) (codes "mirror") ((PositionalTerm (ListTerm (at 1 8) (and_term (NumberTerm (at 1 9) 1) (and_term (NumberTerm (at 1 11) 1) (and_term (NumberTerm (at 1 13) 0) no_terms))))) ∷ []) (InstanceBody (AnInstance (at 1 17) ([]) (ModuleCallTerm (at 1 17) (codes "cube") ((PositionalTerm (NumberTerm (at 1 22) 1)) ∷ []) (EmptyBody (at 1 24)))))))) no_statements) ≡ Faults NotInProfile (at 1 1)
unfolding design_of design_within value_within
two_axes = refl

-- scale([1,0,1]) cube(1);
no_factor : meaning (and_statement (InstanceStatement (AnInstance (at 1 1) ([]) (ModuleCallTerm (at 1 1) (codes "scale") ((PositionalTerm (ListTerm (at 1 7) (and_term (NumberTerm (at 1 8) 1) (and_term (NumberTerm (at 1 10) 0) (and_term (NumberTerm (at 1 12) 1) no_terms))))) ∷ []) (InstanceBody (AnInstance (at 1 16) ([]) (ModuleCallTerm (at 1 16) (codes "cube") ((PositionalTerm (NumberTerm (at 1 21) 1)) ∷ []) (EmptyBody (at 1 23)))))))) no_statements) ≡ Faults Singular (at 1 1)
unfolding design_of design_within value_within
no_factor = refl

-- multmatrix([[1,0,0,0],[1,0,0,0],[0,0,1,0]]) cube(1);
flat_matrix : meaning (and_statement (InstanceStatement (AnInstance (at 1 1) ([]) (ModuleCallTerm (at 1 1) (codes "multmatrix") ((PositionalTerm (ListTerm (at 1 12) (and_term (ListTerm (at 1 13) (and_term (NumberTerm (at 1 14) 1) (and_term (NumberTerm (at 1 16) 0) (and_term (NumberTerm (at 1 18) 0) (and_term (NumberTerm (at 1 20) 0) no_terms))))) (and_term (ListTerm (at 1 23) (and_term (NumberTerm (at 1 24) 1) (and_term (NumberTerm (at 1 26) 0) (and_term (NumberTerm (at 1 28) 0) (and_term (NumberTerm (at 1 30) 0) no_terms))))) (and_term (ListTerm (at 1 33) (and_term (NumberTerm (at 1 34) 0) (and_term (NumberTerm (at 1 36) 0) (and_term (NumberTerm (at 1 38) 1) (and_term (NumberTerm (at 1 40) 0) no_terms))))) no_terms))))) ∷ []) (InstanceBody (AnInstance (at 1 45) ([]) (ModuleCallTerm (at 1 45) (codes "cube") ((PositionalTerm (NumberTerm (at 1 50) 1)) ∷ []) (EmptyBody (at 1 52)))))))) no_statements) ≡ Faults Singular (at 1 1)
unfolding design_of design_within value_within
flat_matrix = refl

-- cube($fm);
special_unknown : meaning (and_statement (InstanceStatement (AnInstance (at 1 1) ([]) (ModuleCallTerm (at 1 1) (codes "cube") ((PositionalTerm (SpecialTerm (at 1 6) (codes "fm"))) ∷ []) (EmptyBody (at 1 10))))) no_statements) ≡ Faults UnknownName (at 1 6)
unfolding design_of design_within value_within
special_unknown = refl

-- module m() { cylinder(h=1, r=1); } m();
no_four : meaning (and_statement (ModuleTerm (at 1 1) (codes "m") (at 1 8) ([]) (BlockBody (at 1 12) (and_statement (InstanceStatement (AnInstance (at 1 14) ([]) (ModuleCallTerm (at 1 14) (codes "cylinder") ((NamedTerm (at 1 23) (codes "h") (NumberTerm (at 1 25) 1)) ∷ (NamedTerm (at 1 28) (codes "r") (NumberTerm (at 1 30) 1)) ∷ []) (EmptyBody (at 1 32))))) no_statements))) (and_statement (InstanceStatement (AnInstance (at 1 36) ([]) (ModuleCallTerm (at 1 36) (codes "m") ([]) (EmptyBody (at 1 39))))) no_statements)) ≡ Faults NotInProfile (at 1 14)
unfolding design_of design_within value_within
no_four = refl

-- linear_extrude(1) difference() { square(2); !square(1); }
marked_inside : meaning (and_statement (InstanceStatement (AnInstance (at 1 1) ([]) (ModuleCallTerm (at 1 1) (codes "linear_extrude") ((PositionalTerm (NumberTerm (at 1 16) 1)) ∷ []) (InstanceBody (AnInstance (at 1 19) ([]) (ModuleCallTerm (at 1 19) (codes "difference") ([]) (BlockBody (at 1 32) (and_statement (InstanceStatement (AnInstance (at 1 34) ([]) (ModuleCallTerm (at 1 34) (codes "square") ((PositionalTerm (NumberTerm (at 1 41) 2)) ∷ []) (EmptyBody (at 1 43))))) (and_statement (InstanceStatement (AnInstance (at 1 45) ((record { at = (at 1 45); modifier = Root }) ∷ []) (ModuleCallTerm (at 1 46) (codes "square") ((PositionalTerm (NumberTerm (at 1 53) 1)) ∷ []) (EmptyBody (at 1 55))))) no_statements))))))))) no_statements) ≡ Faults WrongDimension (at 1 46)
unfolding design_of design_within value_within
marked_inside = refl

-- echo(1) cube(1);
echo_body : meaning (and_statement (InstanceStatement (AnInstance (at 1 1) ([]) (ModuleCallTerm (at 1 1) (codes "echo") ((PositionalTerm (NumberTerm (at 1 6) 1)) ∷ []) (InstanceBody (AnInstance (at 1 9) ([]) (ModuleCallTerm (at 1 9) (codes "cube") ((PositionalTerm (NumberTerm (at 1 14) 1)) ∷ []) (EmptyBody (at 1 16)))))))) no_statements) ≡ Faults NotInProfile (at 1 1)
unfolding design_of design_within value_within
echo_body = refl

-- union(1/0) cube(1/0);
argument_first : meaning (and_statement (InstanceStatement (AnInstance (at 1 1) ([]) (ModuleCallTerm (at 1 1) (codes "union") ((PositionalTerm (ChainTerm (at 1 7) (NumberTerm (at 1 7) 1) (and_link Divide (at 1 8) (NumberTerm (at 1 9) 0) no_links))) ∷ []) (InstanceBody (AnInstance (at 1 12) ([]) (ModuleCallTerm (at 1 12) (codes "cube") ((PositionalTerm (ChainTerm (at 1 17) (NumberTerm (at 1 17) 1) (and_link Divide (at 1 18) (NumberTerm (at 1 19) 0) no_links))) ∷ []) (EmptyBody (at 1 21)))))))) no_statements) ≡ Faults BadArgument (at 1 7)
unfolding design_of design_within value_within
argument_first = refl

-- polyhedron(faces=1);
missing_points : meaning (and_statement (InstanceStatement (AnInstance (at 1 1) ([]) (ModuleCallTerm (at 1 1) (codes "polyhedron") ((NamedTerm (at 1 12) (codes "faces") (NumberTerm (at 1 18) 1)) ∷ []) (EmptyBody (at 1 20))))) no_statements) ≡ Faults BadArgument (at 1 1)
unfolding design_of design_within value_within
missing_points = refl

-- module m() {} m($a=1, $a=2);
twice_special : meaning (and_statement (ModuleTerm (at 1 1) (codes "m") (at 1 8) ([]) (BlockBody (at 1 12) no_statements)) (and_statement (InstanceStatement (AnInstance (at 1 15) ([]) (ModuleCallTerm (at 1 15) (codes "m") ((SpecialArgTerm (at 1 17) (codes "a") (NumberTerm (at 1 20) 1)) ∷ (SpecialArgTerm (at 1 23) (codes "a") (NumberTerm (at 1 26) 2)) ∷ []) (EmptyBody (at 1 28))))) no_statements)) ≡ Faults BadArgument (at 1 23)
unfolding design_of design_within value_within
twice_special = refl

-- for (i="abc") cube(1);
text_loop : meaning (and_statement (InstanceStatement (AnInstance (at 1 1) ([]) (ForTerm (at 1 1) ((record { at = (at 1 6); name = (codes "i"); values = (TextTerm (at 1 8) (codes "abc")) }) ∷ []) (InstanceBody (AnInstance (at 1 15) ([]) (ModuleCallTerm (at 1 15) (codes "cube") ((PositionalTerm (NumberTerm (at 1 20) 1)) ∷ []) (EmptyBody (at 1 22)))))))) no_statements) ≡ Faults TypeMismatch (at 1 1)
unfolding design_of design_within value_within
text_loop = refl

-- function f(n)=f(n); x=f(1);
function_deep : meaning (and_statement (FunctionTerm (at 1 1) (codes "f") (at 1 10) ((PlainTerm (at 1 12) (codes "n")) ∷ []) (CallTerm (at 1 15) (codes "f") (and_positional (NameTerm (at 1 17) (codes "n")) no_args))) (and_statement (AssignmentTerm (at 1 21) (codes "x") (CallTerm (at 1 23) (codes "f") (and_positional (NumberTerm (at 1 25) 1) no_args))) no_statements)) ≡ Faults TooDeep (at 1 15)
unfolding design_of design_within value_within
function_deep = refl

-- module m(n) { if (n > 0) m(n-1); } m(64);
call_past_limit : meaning (and_statement (ModuleTerm (at 1 1) (codes "m") (at 1 8) ((PlainTerm (at 1 10) (codes "n")) ∷ []) (BlockBody (at 1 13) (and_statement (InstanceStatement (AnInstance (at 1 15) ([]) (IfTerm (at 1 15) (ChainTerm (at 1 19) (NameTerm (at 1 19) (codes "n")) (and_link Greater (at 1 21) (NumberTerm (at 1 23) 0) no_links)) (InstanceBody (AnInstance (at 1 26) ([]) (ModuleCallTerm (at 1 26) (codes "m") ((PositionalTerm (ChainTerm (at 1 28) (NameTerm (at 1 28) (codes "n")) (and_link Subtract (at 1 29) (NumberTerm (at 1 30) 1) no_links))) ∷ []) (EmptyBody (at 1 32)))))))) no_statements))) (and_statement (InstanceStatement (AnInstance (at 1 36) ([]) (ModuleCallTerm (at 1 36) (codes "m") ((PositionalTerm (NumberTerm (at 1 38) 64)) ∷ []) (EmptyBody (at 1 41))))) no_statements)) ≡ Faults TooDeep (at 1 26)
unfolding design_of design_within value_within
call_past_limit = refl

-- module m(n) { if (n > 0) m(n-1) cube(1); else children(); } m(63) cube(2);
children_past_limit : meaning (and_statement (ModuleTerm (at 1 1) (codes "m") (at 1 8) ((PlainTerm (at 1 10) (codes "n")) ∷ []) (BlockBody (at 1 13) (and_statement (InstanceStatement (AnInstance (at 1 15) ([]) (IfElseTerm (at 1 15) (ChainTerm (at 1 19) (NameTerm (at 1 19) (codes "n")) (and_link Greater (at 1 21) (NumberTerm (at 1 23) 0) no_links)) (InstanceBody (AnInstance (at 1 26) ([]) (ModuleCallTerm (at 1 26) (codes "m") ((PositionalTerm (ChainTerm (at 1 28) (NameTerm (at 1 28) (codes "n")) (and_link Subtract (at 1 29) (NumberTerm (at 1 30) 1) no_links))) ∷ []) (InstanceBody (AnInstance (at 1 33) ([]) (ModuleCallTerm (at 1 33) (codes "cube") ((PositionalTerm (NumberTerm (at 1 38) 1)) ∷ []) (EmptyBody (at 1 40)))))))) (InstanceBody (AnInstance (at 1 47) ([]) (ModuleCallTerm (at 1 47) (codes "children") ([]) (EmptyBody (at 1 57)))))))) no_statements))) (and_statement (InstanceStatement (AnInstance (at 1 61) ([]) (ModuleCallTerm (at 1 61) (codes "m") ((PositionalTerm (NumberTerm (at 1 63) 63)) ∷ []) (InstanceBody (AnInstance (at 1 67) ([]) (ModuleCallTerm (at 1 67) (codes "cube") ((PositionalTerm (NumberTerm (at 1 72) 2)) ∷ []) (EmptyBody (at 1 74)))))))) no_statements)) ≡ Faults TooDeep (at 1 47)
unfolding design_of design_within value_within
children_past_limit = refl

-- module m() { x=y; y=1; } m();
assigned_unknown : meaning (and_statement (ModuleTerm (at 1 1) (codes "m") (at 1 8) ([]) (BlockBody (at 1 12) (and_statement (AssignmentTerm (at 1 14) (codes "x") (NameTerm (at 1 16) (codes "y"))) (and_statement (AssignmentTerm (at 1 19) (codes "y") (NumberTerm (at 1 21) 1)) no_statements)))) (and_statement (InstanceStatement (AnInstance (at 1 26) ([]) (ModuleCallTerm (at 1 26) (codes "m") ([]) (EmptyBody (at 1 29))))) no_statements)) ≡ Faults UnknownName (at 1 16)
unfolding design_of design_within value_within
assigned_unknown = refl

-- echo($a=1, $a=2);
echo_twice : meaning (and_statement (InstanceStatement (AnInstance (at 1 1) ([]) (ModuleCallTerm (at 1 1) (codes "echo") ((SpecialArgTerm (at 1 6) (codes "a") (NumberTerm (at 1 9) 1)) ∷ (SpecialArgTerm (at 1 12) (codes "a") (NumberTerm (at 1 15) 2)) ∷ []) (EmptyBody (at 1 17))))) no_statements) ≡ Faults BadArgument (at 1 12)
unfolding design_of design_within value_within
echo_twice = refl

-- x=1; cube(x); x=2;
-- is as
-- cube(2);
last_assignment : seen_in (meaning (and_statement (AssignmentTerm (at 1 1) (codes "x") (NumberTerm (at 1 3) 1)) (and_statement (InstanceStatement (AnInstance (at 1 6) ([]) (ModuleCallTerm (at 1 6) (codes "cube") ((PositionalTerm (NameTerm (at 1 11) (codes "x"))) ∷ []) (EmptyBody (at 1 13))))) (and_statement (AssignmentTerm (at 1 15) (codes "x") (NumberTerm (at 1 17) 2)) no_statements)))) ≡ seen_in (meaning (and_statement (InstanceStatement (AnInstance (at 1 1) ([]) (ModuleCallTerm (at 1 1) (codes "cube") ((PositionalTerm (NumberTerm (at 1 6) 2)) ∷ []) (EmptyBody (at 1 8))))) no_statements))
unfolding design_of design_within value_within
last_assignment = refl

-- module m(n=2) { cube(n); } intersection() { m(); m(n=3); }
-- is as
-- intersection() { cube(2); cube(3); }
default_and_named : seen_in (meaning (and_statement (ModuleTerm (at 1 1) (codes "m") (at 1 8) ((DefaultTerm (at 1 10) (codes "n") (NumberTerm (at 1 12) 2)) ∷ []) (BlockBody (at 1 15) (and_statement (InstanceStatement (AnInstance (at 1 17) ([]) (ModuleCallTerm (at 1 17) (codes "cube") ((PositionalTerm (NameTerm (at 1 22) (codes "n"))) ∷ []) (EmptyBody (at 1 24))))) no_statements))) (and_statement (InstanceStatement (AnInstance (at 1 28) ([]) (ModuleCallTerm (at 1 28) (codes "intersection") ([]) (BlockBody (at 1 43) (and_statement (InstanceStatement (AnInstance (at 1 45) ([]) (ModuleCallTerm (at 1 45) (codes "m") ([]) (EmptyBody (at 1 48))))) (and_statement (InstanceStatement (AnInstance (at 1 50) ([]) (ModuleCallTerm (at 1 50) (codes "m") ((NamedTerm (at 1 52) (codes "n") (NumberTerm (at 1 54) 3)) ∷ []) (EmptyBody (at 1 56))))) no_statements)))))) no_statements))) ≡ seen_in (meaning (and_statement (InstanceStatement (AnInstance (at 1 1) ([]) (ModuleCallTerm (at 1 1) (codes "intersection") ([]) (BlockBody (at 1 16) (and_statement (InstanceStatement (AnInstance (at 1 18) ([]) (ModuleCallTerm (at 1 18) (codes "cube") ((PositionalTerm (NumberTerm (at 1 23) 2)) ∷ []) (EmptyBody (at 1 25))))) (and_statement (InstanceStatement (AnInstance (at 1 27) ([]) (ModuleCallTerm (at 1 27) (codes "cube") ((PositionalTerm (NumberTerm (at 1 32) 3)) ∷ []) (EmptyBody (at 1 34))))) no_statements)))))) no_statements))
unfolding design_of design_within value_within
default_and_named = refl

-- difference() { cube(2); *cube(2); }
-- is as
-- cube(2);
off_in_difference : seen_in (meaning (and_statement (InstanceStatement (AnInstance (at 1 1) ([]) (ModuleCallTerm (at 1 1) (codes "difference") ([]) (BlockBody (at 1 14) (and_statement (InstanceStatement (AnInstance (at 1 16) ([]) (ModuleCallTerm (at 1 16) (codes "cube") ((PositionalTerm (NumberTerm (at 1 21) 2)) ∷ []) (EmptyBody (at 1 23))))) (and_statement (InstanceStatement (AnInstance (at 1 25) ((record { at = (at 1 25); modifier = Disable }) ∷ []) (ModuleCallTerm (at 1 26) (codes "cube") ((PositionalTerm (NumberTerm (at 1 31) 2)) ∷ []) (EmptyBody (at 1 33))))) no_statements)))))) no_statements)) ≡ seen_in (meaning (and_statement (InstanceStatement (AnInstance (at 1 1) ([]) (ModuleCallTerm (at 1 1) (codes "cube") ((PositionalTerm (NumberTerm (at 1 6) 2)) ∷ []) (EmptyBody (at 1 8))))) no_statements))
unfolding design_of design_within value_within
off_in_difference = refl

-- cube(2); translate([5,0,0]) !cube(1);
-- is as
-- cube(1);
root : seen_in (meaning (and_statement (InstanceStatement (AnInstance (at 1 1) ([]) (ModuleCallTerm (at 1 1) (codes "cube") ((PositionalTerm (NumberTerm (at 1 6) 2)) ∷ []) (EmptyBody (at 1 8))))) (and_statement (InstanceStatement (AnInstance (at 1 10) ([]) (ModuleCallTerm (at 1 10) (codes "translate") ((PositionalTerm (ListTerm (at 1 20) (and_term (NumberTerm (at 1 21) 5) (and_term (NumberTerm (at 1 23) 0) (and_term (NumberTerm (at 1 25) 0) no_terms))))) ∷ []) (InstanceBody (AnInstance (at 1 29) ((record { at = (at 1 29); modifier = Root }) ∷ []) (ModuleCallTerm (at 1 30) (codes "cube") ((PositionalTerm (NumberTerm (at 1 35) 1)) ∷ []) (EmptyBody (at 1 37)))))))) no_statements))) ≡ seen_in (meaning (and_statement (InstanceStatement (AnInstance (at 1 1) ([]) (ModuleCallTerm (at 1 1) (codes "cube") ((PositionalTerm (NumberTerm (at 1 6) 1)) ∷ []) (EmptyBody (at 1 8))))) no_statements))
unfolding design_of design_within value_within
root = refl

-- module m() { children(1); } m() { cube(1); cube(2); }
-- is as
-- cube(2);
second_child : seen_in (meaning (and_statement (ModuleTerm (at 1 1) (codes "m") (at 1 8) ([]) (BlockBody (at 1 12) (and_statement (InstanceStatement (AnInstance (at 1 14) ([]) (ModuleCallTerm (at 1 14) (codes "children") ((PositionalTerm (NumberTerm (at 1 23) 1)) ∷ []) (EmptyBody (at 1 25))))) no_statements))) (and_statement (InstanceStatement (AnInstance (at 1 29) ([]) (ModuleCallTerm (at 1 29) (codes "m") ([]) (BlockBody (at 1 33) (and_statement (InstanceStatement (AnInstance (at 1 35) ([]) (ModuleCallTerm (at 1 35) (codes "cube") ((PositionalTerm (NumberTerm (at 1 40) 1)) ∷ []) (EmptyBody (at 1 42))))) (and_statement (InstanceStatement (AnInstance (at 1 44) ([]) (ModuleCallTerm (at 1 44) (codes "cube") ((PositionalTerm (NumberTerm (at 1 49) 2)) ∷ []) (EmptyBody (at 1 51))))) no_statements)))))) no_statements))) ≡ seen_in (meaning (and_statement (InstanceStatement (AnInstance (at 1 1) ([]) (ModuleCallTerm (at 1 1) (codes "cube") ((PositionalTerm (NumberTerm (at 1 6) 2)) ∷ []) (EmptyBody (at 1 8))))) no_statements))
unfolding design_of design_within value_within
second_child = refl

-- intersection() { cube(1); union(); }
-- is as
-- (nothing)
empty_intersection : seen_in (meaning (and_statement (InstanceStatement (AnInstance (at 1 1) ([]) (ModuleCallTerm (at 1 1) (codes "intersection") ([]) (BlockBody (at 1 16) (and_statement (InstanceStatement (AnInstance (at 1 18) ([]) (ModuleCallTerm (at 1 18) (codes "cube") ((PositionalTerm (NumberTerm (at 1 23) 1)) ∷ []) (EmptyBody (at 1 25))))) (and_statement (InstanceStatement (AnInstance (at 1 27) ([]) (ModuleCallTerm (at 1 27) (codes "union") ([]) (EmptyBody (at 1 34))))) no_statements)))))) no_statements)) ≡ seen_in (meaning no_statements)
unfolding design_of design_within value_within
empty_intersection = refl

-- difference() { union(); cube(1); }
-- is as
-- (nothing)
empty_first : seen_in (meaning (and_statement (InstanceStatement (AnInstance (at 1 1) ([]) (ModuleCallTerm (at 1 1) (codes "difference") ([]) (BlockBody (at 1 14) (and_statement (InstanceStatement (AnInstance (at 1 16) ([]) (ModuleCallTerm (at 1 16) (codes "union") ([]) (EmptyBody (at 1 23))))) (and_statement (InstanceStatement (AnInstance (at 1 25) ([]) (ModuleCallTerm (at 1 25) (codes "cube") ((PositionalTerm (NumberTerm (at 1 30) 1)) ∷ []) (EmptyBody (at 1 32))))) no_statements)))))) no_statements)) ≡ seen_in (meaning no_statements)
unfolding design_of design_within value_within
empty_first = refl

-- difference() { cube(1); if (false) cube(2); }
-- is as
-- cube(1);
empty_other : seen_in (meaning (and_statement (InstanceStatement (AnInstance (at 1 1) ([]) (ModuleCallTerm (at 1 1) (codes "difference") ([]) (BlockBody (at 1 14) (and_statement (InstanceStatement (AnInstance (at 1 16) ([]) (ModuleCallTerm (at 1 16) (codes "cube") ((PositionalTerm (NumberTerm (at 1 21) 1)) ∷ []) (EmptyBody (at 1 23))))) (and_statement (InstanceStatement (AnInstance (at 1 25) ([]) (IfTerm (at 1 25) (TruthTerm (at 1 29) false) (InstanceBody (AnInstance (at 1 36) ([]) (ModuleCallTerm (at 1 36) (codes "cube") ((PositionalTerm (NumberTerm (at 1 41) 2)) ∷ []) (EmptyBody (at 1 43)))))))) no_statements)))))) no_statements)) ≡ seen_in (meaning (and_statement (InstanceStatement (AnInstance (at 1 1) ([]) (ModuleCallTerm (at 1 1) (codes "cube") ((PositionalTerm (NumberTerm (at 1 6) 1)) ∷ []) (EmptyBody (at 1 8))))) no_statements))
unfolding design_of design_within value_within
empty_other = refl

-- difference() { echo(1); cube(2); cube(1); }
-- is as
-- difference() { cube(2); cube(1); }
echo_no_member : seen_in (meaning (and_statement (InstanceStatement (AnInstance (at 1 1) ([]) (ModuleCallTerm (at 1 1) (codes "difference") ([]) (BlockBody (at 1 14) (and_statement (InstanceStatement (AnInstance (at 1 16) ([]) (ModuleCallTerm (at 1 16) (codes "echo") ((PositionalTerm (NumberTerm (at 1 21) 1)) ∷ []) (EmptyBody (at 1 23))))) (and_statement (InstanceStatement (AnInstance (at 1 25) ([]) (ModuleCallTerm (at 1 25) (codes "cube") ((PositionalTerm (NumberTerm (at 1 30) 2)) ∷ []) (EmptyBody (at 1 32))))) (and_statement (InstanceStatement (AnInstance (at 1 34) ([]) (ModuleCallTerm (at 1 34) (codes "cube") ((PositionalTerm (NumberTerm (at 1 39) 1)) ∷ []) (EmptyBody (at 1 41))))) no_statements))))))) no_statements)) ≡ seen_in (meaning (and_statement (InstanceStatement (AnInstance (at 1 1) ([]) (ModuleCallTerm (at 1 1) (codes "difference") ([]) (BlockBody (at 1 14) (and_statement (InstanceStatement (AnInstance (at 1 16) ([]) (ModuleCallTerm (at 1 16) (codes "cube") ((PositionalTerm (NumberTerm (at 1 21) 2)) ∷ []) (EmptyBody (at 1 23))))) (and_statement (InstanceStatement (AnInstance (at 1 25) ([]) (ModuleCallTerm (at 1 25) (codes "cube") ((PositionalTerm (NumberTerm (at 1 30) 1)) ∷ []) (EmptyBody (at 1 32))))) no_statements)))))) no_statements))
unfolding design_of design_within value_within
echo_no_member = refl

-- module m() { children(0); } m() { echo(1); cube(2); }
-- is as
-- cube(2);
echo_no_child : seen_in (meaning (and_statement (ModuleTerm (at 1 1) (codes "m") (at 1 8) ([]) (BlockBody (at 1 12) (and_statement (InstanceStatement (AnInstance (at 1 14) ([]) (ModuleCallTerm (at 1 14) (codes "children") ((PositionalTerm (NumberTerm (at 1 23) 0)) ∷ []) (EmptyBody (at 1 25))))) no_statements))) (and_statement (InstanceStatement (AnInstance (at 1 29) ([]) (ModuleCallTerm (at 1 29) (codes "m") ([]) (BlockBody (at 1 33) (and_statement (InstanceStatement (AnInstance (at 1 35) ([]) (ModuleCallTerm (at 1 35) (codes "echo") ((PositionalTerm (NumberTerm (at 1 40) 1)) ∷ []) (EmptyBody (at 1 42))))) (and_statement (InstanceStatement (AnInstance (at 1 44) ([]) (ModuleCallTerm (at 1 44) (codes "cube") ((PositionalTerm (NumberTerm (at 1 49) 2)) ∷ []) (EmptyBody (at 1 51))))) no_statements)))))) no_statements))) ≡ seen_in (meaning (and_statement (InstanceStatement (AnInstance (at 1 1) ([]) (ModuleCallTerm (at 1 1) (codes "cube") ((PositionalTerm (NumberTerm (at 1 6) 2)) ∷ []) (EmptyBody (at 1 8))))) no_statements))
unfolding design_of design_within value_within
echo_no_child = refl

-- module m() { cube($children); } m() { cube(1); cube(1); *cube(1); echo(1); if (false); }
-- is as
-- cube(3);
count : seen_in (meaning (and_statement (ModuleTerm (at 1 1) (codes "m") (at 1 8) ([]) (BlockBody (at 1 12) (and_statement (InstanceStatement (AnInstance (at 1 14) ([]) (ModuleCallTerm (at 1 14) (codes "cube") ((PositionalTerm (ChildCountTerm (at 1 19))) ∷ []) (EmptyBody (at 1 29))))) no_statements))) (and_statement (InstanceStatement (AnInstance (at 1 33) ([]) (ModuleCallTerm (at 1 33) (codes "m") ([]) (BlockBody (at 1 37) (and_statement (InstanceStatement (AnInstance (at 1 39) ([]) (ModuleCallTerm (at 1 39) (codes "cube") ((PositionalTerm (NumberTerm (at 1 44) 1)) ∷ []) (EmptyBody (at 1 46))))) (and_statement (InstanceStatement (AnInstance (at 1 48) ([]) (ModuleCallTerm (at 1 48) (codes "cube") ((PositionalTerm (NumberTerm (at 1 53) 1)) ∷ []) (EmptyBody (at 1 55))))) (and_statement (InstanceStatement (AnInstance (at 1 57) ((record { at = (at 1 57); modifier = Disable }) ∷ []) (ModuleCallTerm (at 1 58) (codes "cube") ((PositionalTerm (NumberTerm (at 1 63) 1)) ∷ []) (EmptyBody (at 1 65))))) (and_statement (InstanceStatement (AnInstance (at 1 67) ([]) (ModuleCallTerm (at 1 67) (codes "echo") ((PositionalTerm (NumberTerm (at 1 72) 1)) ∷ []) (EmptyBody (at 1 74))))) (and_statement (InstanceStatement (AnInstance (at 1 76) ([]) (IfTerm (at 1 76) (TruthTerm (at 1 80) false) (EmptyBody (at 1 86))))) no_statements))))))))) no_statements))) ≡ seen_in (meaning (and_statement (InstanceStatement (AnInstance (at 1 1) ([]) (ModuleCallTerm (at 1 1) (codes "cube") ((PositionalTerm (NumberTerm (at 1 6) 3)) ∷ []) (EmptyBody (at 1 8))))) no_statements))
unfolding design_of design_within value_within
count = refl

-- module a() { module b() { cube($children); children(0); } b() cube(5); cube($children); } a() { cube(1); cube(2); }
-- is as
-- union() { cube(1); cube(5); } cube(2);
outer_count : seen_in (meaning (and_statement (ModuleTerm (at 1 1) (codes "a") (at 1 8) ([]) (BlockBody (at 1 12) (and_statement (ModuleTerm (at 1 14) (codes "b") (at 1 21) ([]) (BlockBody (at 1 25) (and_statement (InstanceStatement (AnInstance (at 1 27) ([]) (ModuleCallTerm (at 1 27) (codes "cube") ((PositionalTerm (ChildCountTerm (at 1 32))) ∷ []) (EmptyBody (at 1 42))))) (and_statement (InstanceStatement (AnInstance (at 1 44) ([]) (ModuleCallTerm (at 1 44) (codes "children") ((PositionalTerm (NumberTerm (at 1 53) 0)) ∷ []) (EmptyBody (at 1 55))))) no_statements)))) (and_statement (InstanceStatement (AnInstance (at 1 59) ([]) (ModuleCallTerm (at 1 59) (codes "b") ([]) (InstanceBody (AnInstance (at 1 63) ([]) (ModuleCallTerm (at 1 63) (codes "cube") ((PositionalTerm (NumberTerm (at 1 68) 5)) ∷ []) (EmptyBody (at 1 70)))))))) (and_statement (InstanceStatement (AnInstance (at 1 72) ([]) (ModuleCallTerm (at 1 72) (codes "cube") ((PositionalTerm (ChildCountTerm (at 1 77))) ∷ []) (EmptyBody (at 1 87))))) no_statements))))) (and_statement (InstanceStatement (AnInstance (at 1 91) ([]) (ModuleCallTerm (at 1 91) (codes "a") ([]) (BlockBody (at 1 95) (and_statement (InstanceStatement (AnInstance (at 1 97) ([]) (ModuleCallTerm (at 1 97) (codes "cube") ((PositionalTerm (NumberTerm (at 1 102) 1)) ∷ []) (EmptyBody (at 1 104))))) (and_statement (InstanceStatement (AnInstance (at 1 106) ([]) (ModuleCallTerm (at 1 106) (codes "cube") ((PositionalTerm (NumberTerm (at 1 111) 2)) ∷ []) (EmptyBody (at 1 113))))) no_statements)))))) no_statements))) ≡ seen_in (meaning (and_statement (InstanceStatement (AnInstance (at 1 1) ([]) (ModuleCallTerm (at 1 1) (codes "union") ([]) (BlockBody (at 1 9) (and_statement (InstanceStatement (AnInstance (at 1 11) ([]) (ModuleCallTerm (at 1 11) (codes "cube") ((PositionalTerm (NumberTerm (at 1 16) 1)) ∷ []) (EmptyBody (at 1 18))))) (and_statement (InstanceStatement (AnInstance (at 1 20) ([]) (ModuleCallTerm (at 1 20) (codes "cube") ((PositionalTerm (NumberTerm (at 1 25) 5)) ∷ []) (EmptyBody (at 1 27))))) no_statements)))))) (and_statement (InstanceStatement (AnInstance (at 1 31) ([]) (ModuleCallTerm (at 1 31) (codes "cube") ((PositionalTerm (NumberTerm (at 1 36) 2)) ∷ []) (EmptyBody (at 1 38))))) no_statements)))
unfolding design_of design_within value_within
outer_count = refl

-- module m() { x=9; children(0); } x=2; m() cube(x);
-- is as
-- cube(2);
callers_scope : seen_in (meaning (and_statement (ModuleTerm (at 1 1) (codes "m") (at 1 8) ([]) (BlockBody (at 1 12) (and_statement (AssignmentTerm (at 1 14) (codes "x") (NumberTerm (at 1 16) 9)) (and_statement (InstanceStatement (AnInstance (at 1 19) ([]) (ModuleCallTerm (at 1 19) (codes "children") ((PositionalTerm (NumberTerm (at 1 28) 0)) ∷ []) (EmptyBody (at 1 30))))) no_statements)))) (and_statement (AssignmentTerm (at 1 34) (codes "x") (NumberTerm (at 1 36) 2)) (and_statement (InstanceStatement (AnInstance (at 1 39) ([]) (ModuleCallTerm (at 1 39) (codes "m") ([]) (InstanceBody (AnInstance (at 1 43) ([]) (ModuleCallTerm (at 1 43) (codes "cube") ((PositionalTerm (NameTerm (at 1 48) (codes "x"))) ∷ []) (EmptyBody (at 1 50)))))))) no_statements)))) ≡ seen_in (meaning (and_statement (InstanceStatement (AnInstance (at 1 1) ([]) (ModuleCallTerm (at 1 1) (codes "cube") ((PositionalTerm (NumberTerm (at 1 6) 2)) ∷ []) (EmptyBody (at 1 8))))) no_statements))
unfolding design_of design_within value_within
callers_scope = refl

-- module m() { children(0); } m() { x=3; cube(x); }
-- is as
-- cube(3);
own_assignments : seen_in (meaning (and_statement (ModuleTerm (at 1 1) (codes "m") (at 1 8) ([]) (BlockBody (at 1 12) (and_statement (InstanceStatement (AnInstance (at 1 14) ([]) (ModuleCallTerm (at 1 14) (codes "children") ((PositionalTerm (NumberTerm (at 1 23) 0)) ∷ []) (EmptyBody (at 1 25))))) no_statements))) (and_statement (InstanceStatement (AnInstance (at 1 29) ([]) (ModuleCallTerm (at 1 29) (codes "m") ([]) (BlockBody (at 1 33) (and_statement (AssignmentTerm (at 1 35) (codes "x") (NumberTerm (at 1 37) 3)) (and_statement (InstanceStatement (AnInstance (at 1 40) ([]) (ModuleCallTerm (at 1 40) (codes "cube") ((PositionalTerm (NameTerm (at 1 45) (codes "x"))) ∷ []) (EmptyBody (at 1 47))))) no_statements)))))) no_statements))) ≡ seen_in (meaning (and_statement (InstanceStatement (AnInstance (at 1 1) ([]) (ModuleCallTerm (at 1 1) (codes "cube") ((PositionalTerm (NumberTerm (at 1 6) 3)) ∷ []) (EmptyBody (at 1 8))))) no_statements))
unfolding design_of design_within value_within
own_assignments = refl

-- module a() { children(0); } module b() { a() children(0); } b() cube(4);
-- is as
-- cube(4);
children_of_children : seen_in (meaning (and_statement (ModuleTerm (at 1 1) (codes "a") (at 1 8) ([]) (BlockBody (at 1 12) (and_statement (InstanceStatement (AnInstance (at 1 14) ([]) (ModuleCallTerm (at 1 14) (codes "children") ((PositionalTerm (NumberTerm (at 1 23) 0)) ∷ []) (EmptyBody (at 1 25))))) no_statements))) (and_statement (ModuleTerm (at 1 29) (codes "b") (at 1 36) ([]) (BlockBody (at 1 40) (and_statement (InstanceStatement (AnInstance (at 1 42) ([]) (ModuleCallTerm (at 1 42) (codes "a") ([]) (InstanceBody (AnInstance (at 1 46) ([]) (ModuleCallTerm (at 1 46) (codes "children") ((PositionalTerm (NumberTerm (at 1 55) 0)) ∷ []) (EmptyBody (at 1 57)))))))) no_statements))) (and_statement (InstanceStatement (AnInstance (at 1 61) ([]) (ModuleCallTerm (at 1 61) (codes "b") ([]) (InstanceBody (AnInstance (at 1 65) ([]) (ModuleCallTerm (at 1 65) (codes "cube") ((PositionalTerm (NumberTerm (at 1 70) 4)) ∷ []) (EmptyBody (at 1 72)))))))) no_statements)))) ≡ seen_in (meaning (and_statement (InstanceStatement (AnInstance (at 1 1) ([]) (ModuleCallTerm (at 1 1) (codes "cube") ((PositionalTerm (NumberTerm (at 1 6) 4)) ∷ []) (EmptyBody (at 1 8))))) no_statements))
unfolding design_of design_within value_within
children_of_children = refl

-- module m() { children($q=7); } m() cube($q);
-- is as
-- cube(7);
chain_at_call : seen_in (meaning (and_statement (ModuleTerm (at 1 1) (codes "m") (at 1 8) ([]) (BlockBody (at 1 12) (and_statement (InstanceStatement (AnInstance (at 1 14) ([]) (ModuleCallTerm (at 1 14) (codes "children") ((SpecialArgTerm (at 1 23) (codes "q") (NumberTerm (at 1 26) 7)) ∷ []) (EmptyBody (at 1 28))))) no_statements))) (and_statement (InstanceStatement (AnInstance (at 1 32) ([]) (ModuleCallTerm (at 1 32) (codes "m") ([]) (InstanceBody (AnInstance (at 1 36) ([]) (ModuleCallTerm (at 1 36) (codes "cube") ((PositionalTerm (SpecialTerm (at 1 41) (codes "q"))) ∷ []) (EmptyBody (at 1 44)))))))) no_statements))) ≡ seen_in (meaning (and_statement (InstanceStatement (AnInstance (at 1 1) ([]) (ModuleCallTerm (at 1 1) (codes "cube") ((PositionalTerm (NumberTerm (at 1 6) 7)) ∷ []) (EmptyBody (at 1 8))))) no_statements))
unfolding design_of design_within value_within
chain_at_call = refl

-- module m(n=$q) { cube(n); } m($q=4);
-- is as
-- cube(4);
chain_in_default : seen_in (meaning (and_statement (ModuleTerm (at 1 1) (codes "m") (at 1 8) ((DefaultTerm (at 1 10) (codes "n") (SpecialTerm (at 1 12) (codes "q"))) ∷ []) (BlockBody (at 1 16) (and_statement (InstanceStatement (AnInstance (at 1 18) ([]) (ModuleCallTerm (at 1 18) (codes "cube") ((PositionalTerm (NameTerm (at 1 23) (codes "n"))) ∷ []) (EmptyBody (at 1 25))))) no_statements))) (and_statement (InstanceStatement (AnInstance (at 1 29) ([]) (ModuleCallTerm (at 1 29) (codes "m") ((SpecialArgTerm (at 1 31) (codes "q") (NumberTerm (at 1 34) 4)) ∷ []) (EmptyBody (at 1 36))))) no_statements))) ≡ seen_in (meaning (and_statement (InstanceStatement (AnInstance (at 1 1) ([]) (ModuleCallTerm (at 1 1) (codes "cube") ((PositionalTerm (NumberTerm (at 1 6) 4)) ∷ []) (EmptyBody (at 1 8))))) no_statements))
unfolding design_of design_within value_within
chain_in_default = refl

-- $q=1; module m() { cube($q); } m($q=2); cube($q); $q=3;
-- is as
-- cube(2); cube(3);
special_over : seen_in (meaning (and_statement (SpecialAssignmentTerm (at 1 1) (codes "q") (NumberTerm (at 1 4) 1)) (and_statement (ModuleTerm (at 1 7) (codes "m") (at 1 14) ([]) (BlockBody (at 1 18) (and_statement (InstanceStatement (AnInstance (at 1 20) ([]) (ModuleCallTerm (at 1 20) (codes "cube") ((PositionalTerm (SpecialTerm (at 1 25) (codes "q"))) ∷ []) (EmptyBody (at 1 28))))) no_statements))) (and_statement (InstanceStatement (AnInstance (at 1 32) ([]) (ModuleCallTerm (at 1 32) (codes "m") ((SpecialArgTerm (at 1 34) (codes "q") (NumberTerm (at 1 37) 2)) ∷ []) (EmptyBody (at 1 39))))) (and_statement (InstanceStatement (AnInstance (at 1 41) ([]) (ModuleCallTerm (at 1 41) (codes "cube") ((PositionalTerm (SpecialTerm (at 1 46) (codes "q"))) ∷ []) (EmptyBody (at 1 49))))) (and_statement (SpecialAssignmentTerm (at 1 51) (codes "q") (NumberTerm (at 1 54) 3)) no_statements)))))) ≡ seen_in (meaning (and_statement (InstanceStatement (AnInstance (at 1 1) ([]) (ModuleCallTerm (at 1 1) (codes "cube") ((PositionalTerm (NumberTerm (at 1 6) 2)) ∷ []) (EmptyBody (at 1 8))))) (and_statement (InstanceStatement (AnInstance (at 1 10) ([]) (ModuleCallTerm (at 1 10) (codes "cube") ((PositionalTerm (NumberTerm (at 1 15) 3)) ∷ []) (EmptyBody (at 1 17))))) no_statements)))
unfolding design_of design_within value_within
special_over = refl

-- for (i=[1,2], j=[3,4]) translate([i,j,0]) cube(1);
-- is as
-- translate([1,3,0]) cube(1); translate([1,4,0]) cube(1); translate([2,3,0]) cube(1); translate([2,4,0]) cube(1);
turns_first_slowest : seen_in (meaning (and_statement (InstanceStatement (AnInstance (at 1 1) ([]) (ForTerm (at 1 1) ((record { at = (at 1 6); name = (codes "i"); values = (ListTerm (at 1 8) (and_term (NumberTerm (at 1 9) 1) (and_term (NumberTerm (at 1 11) 2) no_terms))) }) ∷ (record { at = (at 1 15); name = (codes "j"); values = (ListTerm (at 1 17) (and_term (NumberTerm (at 1 18) 3) (and_term (NumberTerm (at 1 20) 4) no_terms))) }) ∷ []) (InstanceBody (AnInstance (at 1 24) ([]) (ModuleCallTerm (at 1 24) (codes "translate") ((PositionalTerm (ListTerm (at 1 34) (and_term (NameTerm (at 1 35) (codes "i")) (and_term (NameTerm (at 1 37) (codes "j")) (and_term (NumberTerm (at 1 39) 0) no_terms))))) ∷ []) (InstanceBody (AnInstance (at 1 43) ([]) (ModuleCallTerm (at 1 43) (codes "cube") ((PositionalTerm (NumberTerm (at 1 48) 1)) ∷ []) (EmptyBody (at 1 50))))))))))) no_statements)) ≡ seen_in (meaning (and_statement (InstanceStatement (AnInstance (at 1 1) ([]) (ModuleCallTerm (at 1 1) (codes "translate") ((PositionalTerm (ListTerm (at 1 11) (and_term (NumberTerm (at 1 12) 1) (and_term (NumberTerm (at 1 14) 3) (and_term (NumberTerm (at 1 16) 0) no_terms))))) ∷ []) (InstanceBody (AnInstance (at 1 20) ([]) (ModuleCallTerm (at 1 20) (codes "cube") ((PositionalTerm (NumberTerm (at 1 25) 1)) ∷ []) (EmptyBody (at 1 27)))))))) (and_statement (InstanceStatement (AnInstance (at 1 29) ([]) (ModuleCallTerm (at 1 29) (codes "translate") ((PositionalTerm (ListTerm (at 1 39) (and_term (NumberTerm (at 1 40) 1) (and_term (NumberTerm (at 1 42) 4) (and_term (NumberTerm (at 1 44) 0) no_terms))))) ∷ []) (InstanceBody (AnInstance (at 1 48) ([]) (ModuleCallTerm (at 1 48) (codes "cube") ((PositionalTerm (NumberTerm (at 1 53) 1)) ∷ []) (EmptyBody (at 1 55)))))))) (and_statement (InstanceStatement (AnInstance (at 1 57) ([]) (ModuleCallTerm (at 1 57) (codes "translate") ((PositionalTerm (ListTerm (at 1 67) (and_term (NumberTerm (at 1 68) 2) (and_term (NumberTerm (at 1 70) 3) (and_term (NumberTerm (at 1 72) 0) no_terms))))) ∷ []) (InstanceBody (AnInstance (at 1 76) ([]) (ModuleCallTerm (at 1 76) (codes "cube") ((PositionalTerm (NumberTerm (at 1 81) 1)) ∷ []) (EmptyBody (at 1 83)))))))) (and_statement (InstanceStatement (AnInstance (at 1 85) ([]) (ModuleCallTerm (at 1 85) (codes "translate") ((PositionalTerm (ListTerm (at 1 95) (and_term (NumberTerm (at 1 96) 2) (and_term (NumberTerm (at 1 98) 4) (and_term (NumberTerm (at 1 100) 0) no_terms))))) ∷ []) (InstanceBody (AnInstance (at 1 104) ([]) (ModuleCallTerm (at 1 104) (codes "cube") ((PositionalTerm (NumberTerm (at 1 109) 1)) ∷ []) (EmptyBody (at 1 111)))))))) no_statements)))))
unfolding design_of design_within value_within
turns_first_slowest = refl

-- for (i=[1:2], j=[1:i]) cube([i,j,1]);
-- is as
-- cube([1,1,1]); cube([2,1,1]); cube([2,2,1]);
later_binder : seen_in (meaning (and_statement (InstanceStatement (AnInstance (at 1 1) ([]) (ForTerm (at 1 1) ((record { at = (at 1 6); name = (codes "i"); values = (RangeTerm (at 1 8) (NumberTerm (at 1 9) 1) (NumberTerm (at 1 11) 2)) }) ∷ (record { at = (at 1 15); name = (codes "j"); values = (RangeTerm (at 1 17) (NumberTerm (at 1 18) 1) (NameTerm (at 1 20) (codes "i"))) }) ∷ []) (InstanceBody (AnInstance (at 1 24) ([]) (ModuleCallTerm (at 1 24) (codes "cube") ((PositionalTerm (ListTerm (at 1 29) (and_term (NameTerm (at 1 30) (codes "i")) (and_term (NameTerm (at 1 32) (codes "j")) (and_term (NumberTerm (at 1 34) 1) no_terms))))) ∷ []) (EmptyBody (at 1 37)))))))) no_statements)) ≡ seen_in (meaning (and_statement (InstanceStatement (AnInstance (at 1 1) ([]) (ModuleCallTerm (at 1 1) (codes "cube") ((PositionalTerm (ListTerm (at 1 6) (and_term (NumberTerm (at 1 7) 1) (and_term (NumberTerm (at 1 9) 1) (and_term (NumberTerm (at 1 11) 1) no_terms))))) ∷ []) (EmptyBody (at 1 14))))) (and_statement (InstanceStatement (AnInstance (at 1 16) ([]) (ModuleCallTerm (at 1 16) (codes "cube") ((PositionalTerm (ListTerm (at 1 21) (and_term (NumberTerm (at 1 22) 2) (and_term (NumberTerm (at 1 24) 1) (and_term (NumberTerm (at 1 26) 1) no_terms))))) ∷ []) (EmptyBody (at 1 29))))) (and_statement (InstanceStatement (AnInstance (at 1 31) ([]) (ModuleCallTerm (at 1 31) (codes "cube") ((PositionalTerm (ListTerm (at 1 36) (and_term (NumberTerm (at 1 37) 2) (and_term (NumberTerm (at 1 39) 2) (and_term (NumberTerm (at 1 41) 1) no_terms))))) ∷ []) (EmptyBody (at 1 44))))) no_statements))))
unfolding design_of design_within value_within
later_binder = refl

-- intersection_for (i=[1:2]) cube(i);
-- is as
-- intersection() { cube(1); cube(2); }
all_turns : seen_in (meaning (and_statement (InstanceStatement (AnInstance (at 1 1) ([]) (IntersectionForTerm (at 1 1) ((record { at = (at 1 19); name = (codes "i"); values = (RangeTerm (at 1 21) (NumberTerm (at 1 22) 1) (NumberTerm (at 1 24) 2)) }) ∷ []) (InstanceBody (AnInstance (at 1 28) ([]) (ModuleCallTerm (at 1 28) (codes "cube") ((PositionalTerm (NameTerm (at 1 33) (codes "i"))) ∷ []) (EmptyBody (at 1 35)))))))) no_statements)) ≡ seen_in (meaning (and_statement (InstanceStatement (AnInstance (at 1 1) ([]) (ModuleCallTerm (at 1 1) (codes "intersection") ([]) (BlockBody (at 1 16) (and_statement (InstanceStatement (AnInstance (at 1 18) ([]) (ModuleCallTerm (at 1 18) (codes "cube") ((PositionalTerm (NumberTerm (at 1 23) 1)) ∷ []) (EmptyBody (at 1 25))))) (and_statement (InstanceStatement (AnInstance (at 1 27) ([]) (ModuleCallTerm (at 1 27) (codes "cube") ((PositionalTerm (NumberTerm (at 1 32) 2)) ∷ []) (EmptyBody (at 1 34))))) no_statements)))))) no_statements))
unfolding design_of design_within value_within
all_turns = refl

-- for (i=[5:-1:9]) cube(1);
-- is as
-- (nothing)
no_turns : seen_in (meaning (and_statement (InstanceStatement (AnInstance (at 1 1) ([]) (ForTerm (at 1 1) ((record { at = (at 1 6); name = (codes "i"); values = (SteppedRangeTerm (at 1 8) (NumberTerm (at 1 9) 5) (UnaryTerm (at 1 11) Negate (NumberTerm (at 1 12) 1)) (NumberTerm (at 1 14) 9)) }) ∷ []) (InstanceBody (AnInstance (at 1 18) ([]) (ModuleCallTerm (at 1 18) (codes "cube") ((PositionalTerm (NumberTerm (at 1 23) 1)) ∷ []) (EmptyBody (at 1 25)))))))) no_statements)) ≡ seen_in (meaning no_statements)
unfolding design_of design_within value_within
no_turns = refl

-- if (1) cube(1); else cube(2); if (0) cube(3); else cube(4);
-- is as
-- cube(1); cube(4);
choice : seen_in (meaning (and_statement (InstanceStatement (AnInstance (at 1 1) ([]) (IfElseTerm (at 1 1) (NumberTerm (at 1 5) 1) (InstanceBody (AnInstance (at 1 8) ([]) (ModuleCallTerm (at 1 8) (codes "cube") ((PositionalTerm (NumberTerm (at 1 13) 1)) ∷ []) (EmptyBody (at 1 15))))) (InstanceBody (AnInstance (at 1 22) ([]) (ModuleCallTerm (at 1 22) (codes "cube") ((PositionalTerm (NumberTerm (at 1 27) 2)) ∷ []) (EmptyBody (at 1 29)))))))) (and_statement (InstanceStatement (AnInstance (at 1 31) ([]) (IfElseTerm (at 1 31) (NumberTerm (at 1 35) 0) (InstanceBody (AnInstance (at 1 38) ([]) (ModuleCallTerm (at 1 38) (codes "cube") ((PositionalTerm (NumberTerm (at 1 43) 3)) ∷ []) (EmptyBody (at 1 45))))) (InstanceBody (AnInstance (at 1 52) ([]) (ModuleCallTerm (at 1 52) (codes "cube") ((PositionalTerm (NumberTerm (at 1 57) 4)) ∷ []) (EmptyBody (at 1 59)))))))) no_statements))) ≡ seen_in (meaning (and_statement (InstanceStatement (AnInstance (at 1 1) ([]) (ModuleCallTerm (at 1 1) (codes "cube") ((PositionalTerm (NumberTerm (at 1 6) 1)) ∷ []) (EmptyBody (at 1 8))))) (and_statement (InstanceStatement (AnInstance (at 1 10) ([]) (ModuleCallTerm (at 1 10) (codes "cube") ((PositionalTerm (NumberTerm (at 1 15) 4)) ∷ []) (EmptyBody (at 1 17))))) no_statements)))
unfolding design_of design_within value_within
choice = refl

-- { x=2; } cube(x); { cube(3); }
-- is as
-- cube(2); cube(3);
bare_block : seen_in (meaning (and_statement (BlockStatement (at 1 1) (and_statement (AssignmentTerm (at 1 3) (codes "x") (NumberTerm (at 1 5) 2)) no_statements)) (and_statement (InstanceStatement (AnInstance (at 1 10) ([]) (ModuleCallTerm (at 1 10) (codes "cube") ((PositionalTerm (NameTerm (at 1 15) (codes "x"))) ∷ []) (EmptyBody (at 1 17))))) (and_statement (BlockStatement (at 1 19) (and_statement (InstanceStatement (AnInstance (at 1 21) ([]) (ModuleCallTerm (at 1 21) (codes "cube") ((PositionalTerm (NumberTerm (at 1 26) 3)) ∷ []) (EmptyBody (at 1 28))))) no_statements)) no_statements)))) ≡ seen_in (meaning (and_statement (InstanceStatement (AnInstance (at 1 1) ([]) (ModuleCallTerm (at 1 1) (codes "cube") ((PositionalTerm (NumberTerm (at 1 6) 2)) ∷ []) (EmptyBody (at 1 8))))) (and_statement (InstanceStatement (AnInstance (at 1 10) ([]) (ModuleCallTerm (at 1 10) (codes "cube") ((PositionalTerm (NumberTerm (at 1 15) 3)) ∷ []) (EmptyBody (at 1 17))))) no_statements)))
unfolding design_of design_within value_within
bare_block = refl

-- translate([1,0,0]) scale(2) cube(1);
-- is as
-- multmatrix([[2,0,0,1],[0,2,0,0],[0,0,2,0]]) cube(1);
innermost_first : seen_in (meaning (and_statement (InstanceStatement (AnInstance (at 1 1) ([]) (ModuleCallTerm (at 1 1) (codes "translate") ((PositionalTerm (ListTerm (at 1 11) (and_term (NumberTerm (at 1 12) 1) (and_term (NumberTerm (at 1 14) 0) (and_term (NumberTerm (at 1 16) 0) no_terms))))) ∷ []) (InstanceBody (AnInstance (at 1 20) ([]) (ModuleCallTerm (at 1 20) (codes "scale") ((PositionalTerm (NumberTerm (at 1 26) 2)) ∷ []) (InstanceBody (AnInstance (at 1 29) ([]) (ModuleCallTerm (at 1 29) (codes "cube") ((PositionalTerm (NumberTerm (at 1 34) 1)) ∷ []) (EmptyBody (at 1 36))))))))))) no_statements)) ≡ seen_in (meaning (and_statement (InstanceStatement (AnInstance (at 1 1) ([]) (ModuleCallTerm (at 1 1) (codes "multmatrix") ((PositionalTerm (ListTerm (at 1 12) (and_term (ListTerm (at 1 13) (and_term (NumberTerm (at 1 14) 2) (and_term (NumberTerm (at 1 16) 0) (and_term (NumberTerm (at 1 18) 0) (and_term (NumberTerm (at 1 20) 1) no_terms))))) (and_term (ListTerm (at 1 23) (and_term (NumberTerm (at 1 24) 0) (and_term (NumberTerm (at 1 26) 2) (and_term (NumberTerm (at 1 28) 0) (and_term (NumberTerm (at 1 30) 0) no_terms))))) (and_term (ListTerm (at 1 33) (and_term (NumberTerm (at 1 34) 0) (and_term (NumberTerm (at 1 36) 0) (and_term (NumberTerm (at 1 38) 2) (and_term (NumberTerm (at 1 40) 0) no_terms))))) no_terms))))) ∷ []) (InstanceBody (AnInstance (at 1 45) ([]) (ModuleCallTerm (at 1 45) (codes "cube") ((PositionalTerm (NumberTerm (at 1 50) 1)) ∷ []) (EmptyBody (at 1 52)))))))) no_statements))
unfolding design_of design_within value_within
innermost_first = refl

-- module m() { children([1,5,0,1]); } m() { cube(1); cube(2); }
-- is as
-- cube(2); cube(1); cube(2);
chosen_by_list : seen_in (meaning (and_statement (ModuleTerm (at 1 1) (codes "m") (at 1 8) ([]) (BlockBody (at 1 12) (and_statement (InstanceStatement (AnInstance (at 1 14) ([]) (ModuleCallTerm (at 1 14) (codes "children") ((PositionalTerm (ListTerm (at 1 23) (and_term (NumberTerm (at 1 24) 1) (and_term (NumberTerm (at 1 26) 5) (and_term (NumberTerm (at 1 28) 0) (and_term (NumberTerm (at 1 30) 1) no_terms)))))) ∷ []) (EmptyBody (at 1 33))))) no_statements))) (and_statement (InstanceStatement (AnInstance (at 1 37) ([]) (ModuleCallTerm (at 1 37) (codes "m") ([]) (BlockBody (at 1 41) (and_statement (InstanceStatement (AnInstance (at 1 43) ([]) (ModuleCallTerm (at 1 43) (codes "cube") ((PositionalTerm (NumberTerm (at 1 48) 1)) ∷ []) (EmptyBody (at 1 50))))) (and_statement (InstanceStatement (AnInstance (at 1 52) ([]) (ModuleCallTerm (at 1 52) (codes "cube") ((PositionalTerm (NumberTerm (at 1 57) 2)) ∷ []) (EmptyBody (at 1 59))))) no_statements)))))) no_statements))) ≡ seen_in (meaning (and_statement (InstanceStatement (AnInstance (at 1 1) ([]) (ModuleCallTerm (at 1 1) (codes "cube") ((PositionalTerm (NumberTerm (at 1 6) 2)) ∷ []) (EmptyBody (at 1 8))))) (and_statement (InstanceStatement (AnInstance (at 1 10) ([]) (ModuleCallTerm (at 1 10) (codes "cube") ((PositionalTerm (NumberTerm (at 1 15) 1)) ∷ []) (EmptyBody (at 1 17))))) (and_statement (InstanceStatement (AnInstance (at 1 19) ([]) (ModuleCallTerm (at 1 19) (codes "cube") ((PositionalTerm (NumberTerm (at 1 24) 2)) ∷ []) (EmptyBody (at 1 26))))) no_statements))))
unfolding design_of design_within value_within
chosen_by_list = refl

-- module m() { children([0:9]); } m() { cube(1); cube(2); }
-- is as
-- cube(1); cube(2);
chosen_by_range : seen_in (meaning (and_statement (ModuleTerm (at 1 1) (codes "m") (at 1 8) ([]) (BlockBody (at 1 12) (and_statement (InstanceStatement (AnInstance (at 1 14) ([]) (ModuleCallTerm (at 1 14) (codes "children") ((PositionalTerm (RangeTerm (at 1 23) (NumberTerm (at 1 24) 0) (NumberTerm (at 1 26) 9))) ∷ []) (EmptyBody (at 1 29))))) no_statements))) (and_statement (InstanceStatement (AnInstance (at 1 33) ([]) (ModuleCallTerm (at 1 33) (codes "m") ([]) (BlockBody (at 1 37) (and_statement (InstanceStatement (AnInstance (at 1 39) ([]) (ModuleCallTerm (at 1 39) (codes "cube") ((PositionalTerm (NumberTerm (at 1 44) 1)) ∷ []) (EmptyBody (at 1 46))))) (and_statement (InstanceStatement (AnInstance (at 1 48) ([]) (ModuleCallTerm (at 1 48) (codes "cube") ((PositionalTerm (NumberTerm (at 1 53) 2)) ∷ []) (EmptyBody (at 1 55))))) no_statements)))))) no_statements))) ≡ seen_in (meaning (and_statement (InstanceStatement (AnInstance (at 1 1) ([]) (ModuleCallTerm (at 1 1) (codes "cube") ((PositionalTerm (NumberTerm (at 1 6) 1)) ∷ []) (EmptyBody (at 1 8))))) (and_statement (InstanceStatement (AnInstance (at 1 10) ([]) (ModuleCallTerm (at 1 10) (codes "cube") ((PositionalTerm (NumberTerm (at 1 15) 2)) ∷ []) (EmptyBody (at 1 17))))) no_statements)))
unfolding design_of design_within value_within
chosen_by_range = refl

-- !union() { cube(1); !cube(2); }
-- is as
-- union() { cube(1); cube(2); }
outer_mark : seen_in (meaning (and_statement (InstanceStatement (AnInstance (at 1 1) ((record { at = (at 1 1); modifier = Root }) ∷ []) (ModuleCallTerm (at 1 2) (codes "union") ([]) (BlockBody (at 1 10) (and_statement (InstanceStatement (AnInstance (at 1 12) ([]) (ModuleCallTerm (at 1 12) (codes "cube") ((PositionalTerm (NumberTerm (at 1 17) 1)) ∷ []) (EmptyBody (at 1 19))))) (and_statement (InstanceStatement (AnInstance (at 1 21) ((record { at = (at 1 21); modifier = Root }) ∷ []) (ModuleCallTerm (at 1 22) (codes "cube") ((PositionalTerm (NumberTerm (at 1 27) 2)) ∷ []) (EmptyBody (at 1 29))))) no_statements)))))) no_statements)) ≡ seen_in (meaning (and_statement (InstanceStatement (AnInstance (at 1 1) ([]) (ModuleCallTerm (at 1 1) (codes "union") ([]) (BlockBody (at 1 9) (and_statement (InstanceStatement (AnInstance (at 1 11) ([]) (ModuleCallTerm (at 1 11) (codes "cube") ((PositionalTerm (NumberTerm (at 1 16) 1)) ∷ []) (EmptyBody (at 1 18))))) (and_statement (InstanceStatement (AnInstance (at 1 20) ([]) (ModuleCallTerm (at 1 20) (codes "cube") ((PositionalTerm (NumberTerm (at 1 25) 2)) ∷ []) (EmptyBody (at 1 27))))) no_statements)))))) no_statements))
unfolding design_of design_within value_within
outer_mark = refl

-- module cube(n) { translate([n,0,0]) children(); } module sphere() { children(); } sphere() square_box(); module square_box()
-- { color("red") render() polyhedron([[0,0,0]],[[0]]); } is as polyhedron([[0,0,0]],[[0]]);
own_module_first : seen_in (meaning (and_statement (ModuleTerm (at 1 1) (codes "cube") (at 1 8) ((PlainTerm (at 1 13) (codes "n")) ∷ []) (BlockBody (at 1 16) (and_statement (InstanceStatement (AnInstance (at 1 18) ([]) (ModuleCallTerm (at 1 18) (codes "translate") ((PositionalTerm (ListTerm (at 1 28) (and_term (NameTerm (at 1 29) (codes "n")) (and_term (NumberTerm (at 1 31) 0) (and_term (NumberTerm (at 1 33) 0) no_terms))))) ∷ []) (InstanceBody (AnInstance (at 1 37) ([]) (ModuleCallTerm (at 1 37) (codes "children") ([]) (EmptyBody (at 1 47)))))))) no_statements))) (and_statement (ModuleTerm (at 1 51) (codes "sphere") (at 1 58) ([]) (BlockBody (at 1 67) (and_statement (InstanceStatement (AnInstance (at 1 69) ([]) (ModuleCallTerm (at 1 69) (codes "children") ([]) (EmptyBody (at 1 79))))) no_statements))) (and_statement (InstanceStatement (AnInstance (at 1 83) ([]) (ModuleCallTerm (at 1 83) (codes "sphere") ([]) (InstanceBody (AnInstance (at 1 92) ([]) (ModuleCallTerm (at 1 92) (codes "square_box") ([]) (EmptyBody (at 1 104)))))))) (and_statement (ModuleTerm (at 1 106) (codes "square_box") (at 1 113) ([]) (BlockBody (at 1 126) (and_statement (InstanceStatement (AnInstance (at 1 128) ([]) (ModuleCallTerm (at 1 128) (codes "color") ((PositionalTerm (TextTerm (at 1 134) (codes "red"))) ∷ []) (InstanceBody (AnInstance (at 1 141) ([]) (ModuleCallTerm (at 1 141) (codes "render") ([]) (InstanceBody (AnInstance (at 1 150) ([]) (ModuleCallTerm (at 1 150) (codes "polyhedron") ((PositionalTerm (ListTerm (at 1 161) (and_term (ListTerm (at 1 162) (and_term (NumberTerm (at 1 163) 0) (and_term (NumberTerm (at 1 165) 0) (and_term (NumberTerm (at 1 167) 0) no_terms)))) no_terms))) ∷ (PositionalTerm (ListTerm (at 1 171) (and_term (ListTerm (at 1 172) (and_term (NumberTerm (at 1 173) 0) no_terms)) no_terms))) ∷ []) (EmptyBody (at 1 177))))))))))) no_statements))) no_statements))))) ≡ seen_in (meaning (and_statement (InstanceStatement (AnInstance (at 1 1) ([]) (ModuleCallTerm (at 1 1) (codes "polyhedron") ((PositionalTerm (ListTerm (at 1 12) (and_term (ListTerm (at 1 13) (and_term (NumberTerm (at 1 14) 0) (and_term (NumberTerm (at 1 16) 0) (and_term (NumberTerm (at 1 18) 0) no_terms)))) no_terms))) ∷ (PositionalTerm (ListTerm (at 1 22) (and_term (ListTerm (at 1 23) (and_term (NumberTerm (at 1 24) 0) no_terms)) no_terms))) ∷ []) (EmptyBody (at 1 28))))) no_statements))
unfolding design_of design_within value_within
own_module_first = refl

-- linear_extrude(height=2) difference() { square(3); translate([1,1]) square([1,1]); }
-- is as
-- linear_extrude(height=2) difference() { polygon([[0,0],[3,0],[3,3],[0,3]]); polygon([[1,1],[2,1],[2,2],[1,2]]); }
extrusion_mesh : seen_in (meaning (and_statement (InstanceStatement (AnInstance (at 1 1) ([]) (ModuleCallTerm (at 1 1) (codes "linear_extrude") ((NamedTerm (at 1 16) (codes "height") (NumberTerm (at 1 23) 2)) ∷ []) (InstanceBody (AnInstance (at 1 26) ([]) (ModuleCallTerm (at 1 26) (codes "difference") ([]) (BlockBody (at 1 39) (and_statement (InstanceStatement (AnInstance (at 1 41) ([]) (ModuleCallTerm (at 1 41) (codes "square") ((PositionalTerm (NumberTerm (at 1 48) 3)) ∷ []) (EmptyBody (at 1 50))))) (and_statement (InstanceStatement (AnInstance (at 1 52) ([]) (ModuleCallTerm (at 1 52) (codes "translate") ((PositionalTerm (ListTerm (at 1 62) (and_term (NumberTerm (at 1 63) 1) (and_term (NumberTerm (at 1 65) 1) no_terms)))) ∷ []) (InstanceBody (AnInstance (at 1 69) ([]) (ModuleCallTerm (at 1 69) (codes "square") ((PositionalTerm (ListTerm (at 1 76) (and_term (NumberTerm (at 1 77) 1) (and_term (NumberTerm (at 1 79) 1) no_terms)))) ∷ []) (EmptyBody (at 1 82)))))))) no_statements))))))))) no_statements)) ≡ seen_in (meaning (and_statement (InstanceStatement (AnInstance (at 1 1) ([]) (ModuleCallTerm (at 1 1) (codes "linear_extrude") ((NamedTerm (at 1 16) (codes "height") (NumberTerm (at 1 23) 2)) ∷ []) (InstanceBody (AnInstance (at 1 26) ([]) (ModuleCallTerm (at 1 26) (codes "difference") ([]) (BlockBody (at 1 39) (and_statement (InstanceStatement (AnInstance (at 1 41) ([]) (ModuleCallTerm (at 1 41) (codes "polygon") ((PositionalTerm (ListTerm (at 1 49) (and_term (ListTerm (at 1 50) (and_term (NumberTerm (at 1 51) 0) (and_term (NumberTerm (at 1 53) 0) no_terms))) (and_term (ListTerm (at 1 56) (and_term (NumberTerm (at 1 57) 3) (and_term (NumberTerm (at 1 59) 0) no_terms))) (and_term (ListTerm (at 1 62) (and_term (NumberTerm (at 1 63) 3) (and_term (NumberTerm (at 1 65) 3) no_terms))) (and_term (ListTerm (at 1 68) (and_term (NumberTerm (at 1 69) 0) (and_term (NumberTerm (at 1 71) 3) no_terms))) no_terms)))))) ∷ []) (EmptyBody (at 1 75))))) (and_statement (InstanceStatement (AnInstance (at 1 77) ([]) (ModuleCallTerm (at 1 77) (codes "polygon") ((PositionalTerm (ListTerm (at 1 85) (and_term (ListTerm (at 1 86) (and_term (NumberTerm (at 1 87) 1) (and_term (NumberTerm (at 1 89) 1) no_terms))) (and_term (ListTerm (at 1 92) (and_term (NumberTerm (at 1 93) 2) (and_term (NumberTerm (at 1 95) 1) no_terms))) (and_term (ListTerm (at 1 98) (and_term (NumberTerm (at 1 99) 2) (and_term (NumberTerm (at 1 101) 2) no_terms))) (and_term (ListTerm (at 1 104) (and_term (NumberTerm (at 1 105) 1) (and_term (NumberTerm (at 1 107) 2) no_terms))) no_terms)))))) ∷ []) (EmptyBody (at 1 111))))) no_statements))))))))) no_statements))
unfolding design_of design_within value_within
extrusion_mesh = refl

-- module m(n) { n=n+1; cube(n); } m(1);
-- is as
-- cube(2);
parameter_assigned : seen_in (meaning (and_statement (ModuleTerm (at 1 1) (codes "m") (at 1 8) ((PlainTerm (at 1 10) (codes "n")) ∷ []) (BlockBody (at 1 13) (and_statement (AssignmentTerm (at 1 15) (codes "n") (ChainTerm (at 1 17) (NameTerm (at 1 17) (codes "n")) (and_link Add (at 1 18) (NumberTerm (at 1 19) 1) no_links))) (and_statement (InstanceStatement (AnInstance (at 1 22) ([]) (ModuleCallTerm (at 1 22) (codes "cube") ((PositionalTerm (NameTerm (at 1 27) (codes "n"))) ∷ []) (EmptyBody (at 1 29))))) no_statements)))) (and_statement (InstanceStatement (AnInstance (at 1 33) ([]) (ModuleCallTerm (at 1 33) (codes "m") ((PositionalTerm (NumberTerm (at 1 35) 1)) ∷ []) (EmptyBody (at 1 37))))) no_statements))) ≡ seen_in (meaning (and_statement (InstanceStatement (AnInstance (at 1 1) ([]) (ModuleCallTerm (at 1 1) (codes "cube") ((PositionalTerm (NumberTerm (at 1 6) 2)) ∷ []) (EmptyBody (at 1 8))))) no_statements))
unfolding design_of design_within value_within
parameter_assigned = refl

-- module echo() { cube(6); } module m() { children(0); } m() echo();
-- is as
-- cube(6);
source_module_echo : seen_in (meaning (and_statement (ModuleTerm (at 1 1) (codes "echo") (at 1 8) ([]) (BlockBody (at 1 15) (and_statement (InstanceStatement (AnInstance (at 1 17) ([]) (ModuleCallTerm (at 1 17) (codes "cube") ((PositionalTerm (NumberTerm (at 1 22) 6)) ∷ []) (EmptyBody (at 1 24))))) no_statements))) (and_statement (ModuleTerm (at 1 28) (codes "m") (at 1 35) ([]) (BlockBody (at 1 39) (and_statement (InstanceStatement (AnInstance (at 1 41) ([]) (ModuleCallTerm (at 1 41) (codes "children") ((PositionalTerm (NumberTerm (at 1 50) 0)) ∷ []) (EmptyBody (at 1 52))))) no_statements))) (and_statement (InstanceStatement (AnInstance (at 1 56) ([]) (ModuleCallTerm (at 1 56) (codes "m") ([]) (InstanceBody (AnInstance (at 1 60) ([]) (ModuleCallTerm (at 1 60) (codes "echo") ([]) (EmptyBody (at 1 66)))))))) no_statements)))) ≡ seen_in (meaning (and_statement (InstanceStatement (AnInstance (at 1 1) ([]) (ModuleCallTerm (at 1 1) (codes "cube") ((PositionalTerm (NumberTerm (at 1 6) 6)) ∷ []) (EmptyBody (at 1 8))))) no_statements))
unfolding design_of design_within value_within
source_module_echo = refl

-- module m(n) { if (n > 0) m(n-1); } m(63);
-- is as
-- (nothing)
calls_at_limit : seen_in (meaning (and_statement (ModuleTerm (at 1 1) (codes "m") (at 1 8) ((PlainTerm (at 1 10) (codes "n")) ∷ []) (BlockBody (at 1 13) (and_statement (InstanceStatement (AnInstance (at 1 15) ([]) (IfTerm (at 1 15) (ChainTerm (at 1 19) (NameTerm (at 1 19) (codes "n")) (and_link Greater (at 1 21) (NumberTerm (at 1 23) 0) no_links)) (InstanceBody (AnInstance (at 1 26) ([]) (ModuleCallTerm (at 1 26) (codes "m") ((PositionalTerm (ChainTerm (at 1 28) (NameTerm (at 1 28) (codes "n")) (and_link Subtract (at 1 29) (NumberTerm (at 1 30) 1) no_links))) ∷ []) (EmptyBody (at 1 32)))))))) no_statements))) (and_statement (InstanceStatement (AnInstance (at 1 36) ([]) (ModuleCallTerm (at 1 36) (codes "m") ((PositionalTerm (NumberTerm (at 1 38) 63)) ∷ []) (EmptyBody (at 1 41))))) no_statements))) ≡ seen_in (meaning no_statements)
unfolding design_of design_within value_within
calls_at_limit = refl

-- // plate with two holes
-- /* sizes */ w = 6; d = 3.0; t = 1;
-- module plate() { cube([w, d, t]); }
-- module drilled(at) {
--   assert($children == 2);
--   difference() {
--     children(0);
--     for (i = at) translate([i, 1, 0]) children(1);
--   }
-- }
-- color("red") drilled([1 : 3 : 4]) {
--   plate();
--   #cube([1, 1, t]);
-- }
-- is as
-- difference() { cube([6,3,1]); union() { translate([1,1,0]) cube(1); translate([4,1,0]) cube(1); } }
plate : seen_in (meaning (and_statement (AssignmentTerm (at 2 13) (codes "w") (NumberTerm (at 2 17) 6)) (and_statement (AssignmentTerm (at 2 20) (codes "d") (NumberTerm (at 2 24) 3)) (and_statement (AssignmentTerm (at 2 29) (codes "t") (NumberTerm (at 2 33) 1)) (and_statement (ModuleTerm (at 3 1) (codes "plate") (at 3 8) ([]) (BlockBody (at 3 16) (and_statement (InstanceStatement (AnInstance (at 3 18) ([]) (ModuleCallTerm (at 3 18) (codes "cube") ((PositionalTerm (ListTerm (at 3 23) (and_term (NameTerm (at 3 24) (codes "w")) (and_term (NameTerm (at 3 27) (codes "d")) (and_term (NameTerm (at 3 30) (codes "t")) no_terms))))) ∷ []) (EmptyBody (at 3 33))))) no_statements))) (and_statement (ModuleTerm (at 4 1) (codes "drilled") (at 4 8) ((PlainTerm (at 4 16) (codes "at")) ∷ []) (BlockBody (at 4 20) (and_statement (InstanceStatement (AnInstance (at 5 3) ([]) (ModuleCallTerm (at 5 3) (codes "assert") ((PositionalTerm (ChainTerm (at 5 10) (ChildCountTerm (at 5 10)) (and_link Equal (at 5 20) (NumberTerm (at 5 23) 2) no_links))) ∷ []) (EmptyBody (at 5 25))))) (and_statement (InstanceStatement (AnInstance (at 6 3) ([]) (ModuleCallTerm (at 6 3) (codes "difference") ([]) (BlockBody (at 6 16) (and_statement (InstanceStatement (AnInstance (at 7 5) ([]) (ModuleCallTerm (at 7 5) (codes "children") ((PositionalTerm (NumberTerm (at 7 14) 0)) ∷ []) (EmptyBody (at 7 16))))) (and_statement (InstanceStatement (AnInstance (at 8 5) ([]) (ForTerm (at 8 5) ((record { at = (at 8 10); name = (codes "i"); values = (NameTerm (at 8 14) (codes "at")) }) ∷ []) (InstanceBody (AnInstance (at 8 18) ([]) (ModuleCallTerm (at 8 18) (codes "translate") ((PositionalTerm (ListTerm (at 8 28) (and_term (NameTerm (at 8 29) (codes "i")) (and_term (NumberTerm (at 8 32) 1) (and_term (NumberTerm (at 8 35) 0) no_terms))))) ∷ []) (InstanceBody (AnInstance (at 8 39) ([]) (ModuleCallTerm (at 8 39) (codes "children") ((PositionalTerm (NumberTerm (at 8 48) 1)) ∷ []) (EmptyBody (at 8 50))))))))))) no_statements)))))) no_statements)))) (and_statement (InstanceStatement (AnInstance (at 11 1) ([]) (ModuleCallTerm (at 11 1) (codes "color") ((PositionalTerm (TextTerm (at 11 7) (codes "red"))) ∷ []) (InstanceBody (AnInstance (at 11 14) ([]) (ModuleCallTerm (at 11 14) (codes "drilled") ((PositionalTerm (SteppedRangeTerm (at 11 22) (NumberTerm (at 11 23) 1) (NumberTerm (at 11 27) 3) (NumberTerm (at 11 31) 4))) ∷ []) (BlockBody (at 11 35) (and_statement (InstanceStatement (AnInstance (at 12 3) ([]) (ModuleCallTerm (at 12 3) (codes "plate") ([]) (EmptyBody (at 12 10))))) (and_statement (InstanceStatement (AnInstance (at 13 3) ((record { at = (at 13 3); modifier = Highlight }) ∷ []) (ModuleCallTerm (at 13 4) (codes "cube") ((PositionalTerm (ListTerm (at 13 9) (and_term (NumberTerm (at 13 10) 1) (and_term (NumberTerm (at 13 13) 1) (and_term (NameTerm (at 13 16) (codes "t")) no_terms))))) ∷ []) (EmptyBody (at 13 19))))) no_statements))))))))) no_statements))))))) ≡ seen_in (meaning (and_statement (InstanceStatement (AnInstance (at 1 1) ([]) (ModuleCallTerm (at 1 1) (codes "difference") ([]) (BlockBody (at 1 14) (and_statement (InstanceStatement (AnInstance (at 1 16) ([]) (ModuleCallTerm (at 1 16) (codes "cube") ((PositionalTerm (ListTerm (at 1 21) (and_term (NumberTerm (at 1 22) 6) (and_term (NumberTerm (at 1 24) 3) (and_term (NumberTerm (at 1 26) 1) no_terms))))) ∷ []) (EmptyBody (at 1 29))))) (and_statement (InstanceStatement (AnInstance (at 1 31) ([]) (ModuleCallTerm (at 1 31) (codes "union") ([]) (BlockBody (at 1 39) (and_statement (InstanceStatement (AnInstance (at 1 41) ([]) (ModuleCallTerm (at 1 41) (codes "translate") ((PositionalTerm (ListTerm (at 1 51) (and_term (NumberTerm (at 1 52) 1) (and_term (NumberTerm (at 1 54) 1) (and_term (NumberTerm (at 1 56) 0) no_terms))))) ∷ []) (InstanceBody (AnInstance (at 1 60) ([]) (ModuleCallTerm (at 1 60) (codes "cube") ((PositionalTerm (NumberTerm (at 1 65) 1)) ∷ []) (EmptyBody (at 1 67)))))))) (and_statement (InstanceStatement (AnInstance (at 1 69) ([]) (ModuleCallTerm (at 1 69) (codes "translate") ((PositionalTerm (ListTerm (at 1 79) (and_term (NumberTerm (at 1 80) 4) (and_term (NumberTerm (at 1 82) 1) (and_term (NumberTerm (at 1 84) 0) no_terms))))) ∷ []) (InstanceBody (AnInstance (at 1 88) ([]) (ModuleCallTerm (at 1 88) (codes "cube") ((PositionalTerm (NumberTerm (at 1 93) 1)) ∷ []) (EmptyBody (at 1 95)))))))) no_statements)))))) no_statements)))))) no_statements))
unfolding design_of design_within value_within
plate = refl

-- for (i=[1:2], j=[1:3], k=[0:-1:5]) ;
turns_without_choice : turns_in (meaning (and_statement (InstanceStatement (AnInstance (at 1 1) ([]) (ForTerm (at 1 1) ((record { at = (at 1 6); name = (codes "i"); values = (RangeTerm (at 1 8) (NumberTerm (at 1 9) 1) (NumberTerm (at 1 11) 2)) }) ∷ (record { at = (at 1 15); name = (codes "j"); values = (RangeTerm (at 1 17) (NumberTerm (at 1 18) 1) (NumberTerm (at 1 20) 3)) }) ∷ (record { at = (at 1 24); name = (codes "k"); values = (SteppedRangeTerm (at 1 26) (NumberTerm (at 1 27) 0) (UnaryTerm (at 1 29) Negate (NumberTerm (at 1 30) 1)) (NumberTerm (at 1 32) 5)) }) ∷ []) (EmptyBody (at 1 36))))) no_statements)) ≡ 8
unfolding design_of design_within value_within
turns_without_choice = refl

-- x=[1,2,[3]];
turns_of_lists : turns_in (meaning (and_statement (AssignmentTerm (at 1 1) (codes "x") (ListTerm (at 1 3) (and_term (NumberTerm (at 1 4) 1) (and_term (NumberTerm (at 1 6) 2) (and_term (ListTerm (at 1 8) (and_term (NumberTerm (at 1 9) 3) no_terms)) no_terms))))) no_statements)) ≡ 7
unfolding design_of design_within value_within
turns_of_lists = refl

-- module m() {} function f(n)=n; m(); m(); x=f(1);
turns_of_calls : turns_in (meaning (and_statement (ModuleTerm (at 1 1) (codes "m") (at 1 8) ([]) (BlockBody (at 1 12) no_statements)) (and_statement (FunctionTerm (at 1 15) (codes "f") (at 1 24) ((PlainTerm (at 1 26) (codes "n")) ∷ []) (NameTerm (at 1 29) (codes "n"))) (and_statement (InstanceStatement (AnInstance (at 1 32) ([]) (ModuleCallTerm (at 1 32) (codes "m") ([]) (EmptyBody (at 1 35))))) (and_statement (InstanceStatement (AnInstance (at 1 37) ([]) (ModuleCallTerm (at 1 37) (codes "m") ([]) (EmptyBody (at 1 40))))) (and_statement (AssignmentTerm (at 1 42) (codes "x") (CallTerm (at 1 44) (codes "f") (and_positional (NumberTerm (at 1 46) 1) no_args))) no_statements)))))) ≡ 3
unfolding design_of design_within value_within
turns_of_calls = refl

-- module m() { children(); children(); } m() cube(1);
no_turn_of_children : turns_in (meaning (and_statement (ModuleTerm (at 1 1) (codes "m") (at 1 8) ([]) (BlockBody (at 1 12) (and_statement (InstanceStatement (AnInstance (at 1 14) ([]) (ModuleCallTerm (at 1 14) (codes "children") ([]) (EmptyBody (at 1 24))))) (and_statement (InstanceStatement (AnInstance (at 1 26) ([]) (ModuleCallTerm (at 1 26) (codes "children") ([]) (EmptyBody (at 1 36))))) no_statements)))) (and_statement (InstanceStatement (AnInstance (at 1 40) ([]) (ModuleCallTerm (at 1 40) (codes "m") ([]) (InstanceBody (AnInstance (at 1 44) ([]) (ModuleCallTerm (at 1 44) (codes "cube") ((PositionalTerm (NumberTerm (at 1 49) 1)) ∷ []) (EmptyBody (at 1 51)))))))) no_statements))) ≡ 1
unfolding design_of design_within value_within
no_turn_of_children = refl

-- children();
turn_of_idle_children : turns_in (meaning (and_statement (InstanceStatement (AnInstance (at 1 1) ([]) (ModuleCallTerm (at 1 1) (codes "children") ([]) (EmptyBody (at 1 11))))) no_statements)) ≡ 1
unfolding design_of design_within value_within
turn_of_idle_children = refl

-- module m() { children(); children(); } m();
turns_of_idle_children : turns_in (meaning (and_statement (ModuleTerm (at 1 1) (codes "m") (at 1 8) ([]) (BlockBody (at 1 12) (and_statement (InstanceStatement (AnInstance (at 1 14) ([]) (ModuleCallTerm (at 1 14) (codes "children") ([]) (EmptyBody (at 1 24))))) (and_statement (InstanceStatement (AnInstance (at 1 26) ([]) (ModuleCallTerm (at 1 26) (codes "children") ([]) (EmptyBody (at 1 36))))) no_statements)))) (and_statement (InstanceStatement (AnInstance (at 1 40) ([]) (ModuleCallTerm (at 1 40) (codes "m") ([]) (EmptyBody (at 1 43))))) no_statements))) ≡ 3
unfolding design_of design_within value_within
turns_of_idle_children = refl

-- module m() { children(); } m() { union(); }
turn_of_an_empty_child : turns_in (meaning (and_statement (ModuleTerm (at 1 1) (codes "m") (at 1 8) ([]) (BlockBody (at 1 12) (and_statement (InstanceStatement (AnInstance (at 1 14) ([]) (ModuleCallTerm (at 1 14) (codes "children") ([]) (EmptyBody (at 1 24))))) no_statements))) (and_statement (InstanceStatement (AnInstance (at 1 28) ([]) (ModuleCallTerm (at 1 28) (codes "m") ([]) (BlockBody (at 1 32) (and_statement (InstanceStatement (AnInstance (at 1 34) ([]) (ModuleCallTerm (at 1 34) (codes "union") ([]) (EmptyBody (at 1 41))))) no_statements))))) no_statements))) ≡ 2
unfolding design_of design_within value_within
turn_of_an_empty_child = refl

-- module m() { children(); } m() { union(); cube(1); }
no_turn_beside_a_leaf : turns_in (meaning (and_statement (ModuleTerm (at 1 1) (codes "m") (at 1 8) ([]) (BlockBody (at 1 12) (and_statement (InstanceStatement (AnInstance (at 1 14) ([]) (ModuleCallTerm (at 1 14) (codes "children") ([]) (EmptyBody (at 1 24))))) no_statements))) (and_statement (InstanceStatement (AnInstance (at 1 28) ([]) (ModuleCallTerm (at 1 28) (codes "m") ([]) (BlockBody (at 1 32) (and_statement (InstanceStatement (AnInstance (at 1 34) ([]) (ModuleCallTerm (at 1 34) (codes "union") ([]) (EmptyBody (at 1 41))))) (and_statement (InstanceStatement (AnInstance (at 1 43) ([]) (ModuleCallTerm (at 1 43) (codes "cube") ((PositionalTerm (NumberTerm (at 1 48) 1)) ∷ []) (EmptyBody (at 1 50))))) no_statements)))))) no_statements))) ≡ 1
unfolding design_of design_within value_within
no_turn_beside_a_leaf = refl

-- module m() { children(); } m() for (i=[1:2]) ;
no_turn_beside_a_turn : turns_in (meaning (and_statement (ModuleTerm (at 1 1) (codes "m") (at 1 8) ([]) (BlockBody (at 1 12) (and_statement (InstanceStatement (AnInstance (at 1 14) ([]) (ModuleCallTerm (at 1 14) (codes "children") ([]) (EmptyBody (at 1 24))))) no_statements))) (and_statement (InstanceStatement (AnInstance (at 1 28) ([]) (ModuleCallTerm (at 1 28) (codes "m") ([]) (InstanceBody (AnInstance (at 1 32) ([]) (ForTerm (at 1 32) ((record { at = (at 1 37); name = (codes "i"); values = (RangeTerm (at 1 39) (NumberTerm (at 1 40) 1) (NumberTerm (at 1 42) 2)) }) ∷ []) (EmptyBody (at 1 46)))))))) no_statements))) ≡ 3
unfolding design_of design_within value_within
no_turn_beside_a_turn = refl

-- module m() children(); module k() m() children(); k();
turn_of_the_inner_children : turns_in (meaning (and_statement (ModuleTerm (at 1 1) (codes "m") (at 1 8) ([]) (InstanceBody (AnInstance (at 1 12) ([]) (ModuleCallTerm (at 1 12) (codes "children") ([]) (EmptyBody (at 1 22)))))) (and_statement (ModuleTerm (at 1 24) (codes "k") (at 1 31) ([]) (InstanceBody (AnInstance (at 1 35) ([]) (ModuleCallTerm (at 1 35) (codes "m") ([]) (InstanceBody (AnInstance (at 1 39) ([]) (ModuleCallTerm (at 1 39) (codes "children") ([]) (EmptyBody (at 1 49))))))))) (and_statement (InstanceStatement (AnInstance (at 1 51) ([]) (ModuleCallTerm (at 1 51) (codes "k") ([]) (EmptyBody (at 1 54))))) no_statements)))) ≡ 3
unfolding design_of design_within value_within
turn_of_the_inner_children = refl

-- after 99999 turns and 0 leaves
-- children();
last_idle_children : is_given (begun 99999 0 (and_statement (InstanceStatement (AnInstance (at 1 1) ([]) (ModuleCallTerm (at 1 1) (codes "children") ([]) (EmptyBody (at 1 11))))) no_statements)) ≡ true
unfolding design_within value_within
last_idle_children = refl

-- after 99999 turns and 0 leaves
-- children(); children();
idle_children_too_many : begun 99999 0 (and_statement (InstanceStatement (AnInstance (at 1 1) ([]) (ModuleCallTerm (at 1 1) (codes "children") ([]) (EmptyBody (at 1 11))))) (and_statement (InstanceStatement (AnInstance (at 1 13) ([]) (ModuleCallTerm (at 1 13) (codes "children") ([]) (EmptyBody (at 1 23))))) no_statements)) ≡ Faults TooManyTurns (at 1 13)
unfolding design_within value_within
idle_children_too_many = refl

-- after 99999 turns and 0 leaves
-- module m() children(); m() cube(1);
children_with_a_leaf : is_given (begun 99999 0 (and_statement (ModuleTerm (at 1 1) (codes "m") (at 1 8) ([]) (InstanceBody (AnInstance (at 1 12) ([]) (ModuleCallTerm (at 1 12) (codes "children") ([]) (EmptyBody (at 1 22)))))) (and_statement (InstanceStatement (AnInstance (at 1 24) ([]) (ModuleCallTerm (at 1 24) (codes "m") ([]) (InstanceBody (AnInstance (at 1 28) ([]) (ModuleCallTerm (at 1 28) (codes "cube") ((PositionalTerm (NumberTerm (at 1 33) 1)) ∷ []) (EmptyBody (at 1 35)))))))) no_statements))) ≡ true
unfolding design_within value_within
children_with_a_leaf = refl

-- for (i=[1:3], j=[1:2]) ;
turns_of_a_loop : turns_in (meaning (and_statement (InstanceStatement (AnInstance (at 1 1) ([]) (ForTerm (at 1 1) ((record { at = (at 1 6); name = (codes "i"); values = (RangeTerm (at 1 8) (NumberTerm (at 1 9) 1) (NumberTerm (at 1 11) 3)) }) ∷ (record { at = (at 1 15); name = (codes "j"); values = (RangeTerm (at 1 17) (NumberTerm (at 1 18) 1) (NumberTerm (at 1 20) 2)) }) ∷ []) (EmptyBody (at 1 24))))) no_statements)) ≡ 6
unfolding design_of design_within value_within
turns_of_a_loop = refl

-- after 99998 turns and 0 leaves
-- for (i=[1:2]) ;
last_turn : is_given (begun 99998 0 (and_statement (InstanceStatement (AnInstance (at 1 1) ([]) (ForTerm (at 1 1) ((record { at = (at 1 6); name = (codes "i"); values = (RangeTerm (at 1 8) (NumberTerm (at 1 9) 1) (NumberTerm (at 1 11) 2)) }) ∷ []) (EmptyBody (at 1 15))))) no_statements)) ≡ true
unfolding design_within value_within
last_turn = refl

-- after 99998 turns and 0 leaves
-- for (i=[1:3]) ;
turn_too_many : begun 99998 0 (and_statement (InstanceStatement (AnInstance (at 1 1) ([]) (ForTerm (at 1 1) ((record { at = (at 1 6); name = (codes "i"); values = (RangeTerm (at 1 8) (NumberTerm (at 1 9) 1) (NumberTerm (at 1 11) 3)) }) ∷ []) (EmptyBody (at 1 15))))) no_statements) ≡ Faults TooManyTurns (at 1 1)
unfolding design_within value_within
turn_too_many = refl

-- after 99999 turns and 0 leaves
-- module m() {} m(); m();
call_too_many : begun 99999 0 (and_statement (ModuleTerm (at 1 1) (codes "m") (at 1 8) ([]) (BlockBody (at 1 12) no_statements)) (and_statement (InstanceStatement (AnInstance (at 1 15) ([]) (ModuleCallTerm (at 1 15) (codes "m") ([]) (EmptyBody (at 1 18))))) (and_statement (InstanceStatement (AnInstance (at 1 20) ([]) (ModuleCallTerm (at 1 20) (codes "m") ([]) (EmptyBody (at 1 23))))) no_statements))) ≡ Faults TooManyTurns (at 1 20)
unfolding design_within value_within
call_too_many = refl

-- after 99998 turns and 0 leaves
-- x=[1,2];
list_too_many : begun 99998 0 (and_statement (AssignmentTerm (at 1 1) (codes "x") (ListTerm (at 1 3) (and_term (NumberTerm (at 1 4) 1) (and_term (NumberTerm (at 1 6) 2) no_terms)))) no_statements) ≡ Faults TooManyTurns (at 1 3)
unfolding design_within value_within
list_too_many = refl

-- after 0 turns and 1022 leaves
-- cube(1); cube(2);
last_leaf : is_given (begun 0 1022 (and_statement (InstanceStatement (AnInstance (at 1 1) ([]) (ModuleCallTerm (at 1 1) (codes "cube") ((PositionalTerm (NumberTerm (at 1 6) 1)) ∷ []) (EmptyBody (at 1 8))))) (and_statement (InstanceStatement (AnInstance (at 1 10) ([]) (ModuleCallTerm (at 1 10) (codes "cube") ((PositionalTerm (NumberTerm (at 1 15) 2)) ∷ []) (EmptyBody (at 1 17))))) no_statements))) ≡ true
unfolding design_within value_within
last_leaf = refl

-- after 0 turns and 1023 leaves
-- cube(1); cube(2);
leaf_too_many : begun 0 1023 (and_statement (InstanceStatement (AnInstance (at 1 1) ([]) (ModuleCallTerm (at 1 1) (codes "cube") ((PositionalTerm (NumberTerm (at 1 6) 1)) ∷ []) (EmptyBody (at 1 8))))) (and_statement (InstanceStatement (AnInstance (at 1 10) ([]) (ModuleCallTerm (at 1 10) (codes "cube") ((PositionalTerm (NumberTerm (at 1 15) 2)) ∷ []) (EmptyBody (at 1 17))))) no_statements)) ≡ Faults TooManyParts (at 1 10)
unfolding design_within value_within
leaf_too_many = refl

-- after 0 turns and 1024 leaves
-- linear_extrude(1) square(1);
flat_leaf_too_many : begun 0 1024 (and_statement (InstanceStatement (AnInstance (at 1 1) ([]) (ModuleCallTerm (at 1 1) (codes "linear_extrude") ((PositionalTerm (NumberTerm (at 1 16) 1)) ∷ []) (InstanceBody (AnInstance (at 1 19) ([]) (ModuleCallTerm (at 1 19) (codes "square") ((PositionalTerm (NumberTerm (at 1 26) 1)) ∷ []) (EmptyBody (at 1 28)))))))) no_statements) ≡ Faults TooManyParts (at 1 19)
unfolding design_within value_within
flat_leaf_too_many = refl
