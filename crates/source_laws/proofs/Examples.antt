-- What small programs take and count: each row is computed.
use Rattle.std.proofs.Common.{◌≡◌, ◌<◌, ◌*◌, ◌+◌, refl, sym, subst, arith, ℕ, List, [], ◌∷◌, None}
use Rattle.std.specs.Prelude.{codes}
use Rattle.plain_text.specs.declared.place.Place.{Place}
use Rattle.plane_predicate.specs.declared.unit.Unit.{Unit as LengthUnit}
use Rattle.plane_predicate.specs.declared.unit.Unit.TheVariants as units
use Rattle.scad_ast.specs.Terms.{Term, NumberTerm, NameTerm, ListTerm, RangeTerm, no_terms, and_term, PositionalTerm, AssignmentTerm, ModuleTerm, InstanceStatement, StatementTerms, no_statements, and_statement, InstanceTerm, AnInstance, ForTerm, IfElseTerm, ModuleCallTerm, ChainTerm, and_link, no_links, PlainTerm, BodyTerm, EmptyBody, BlockBody, InstanceBody}
use Rattle.scad_ast.specs.declared.operator.BinaryOp.TheVariants.{Subtract}
use Rattle.scad_func.specs.Meaning.{value_within}
use Rattle.source_laws.specs.Sizes.{size_of_statements}
use Rattle.scad_value.specs.Values.{Val}
use Rattle.scad_scope.specs.Names.{Pairs}
use Rattle.scad_meaning.specs.Verdicts.{Judge}
use Rattle.scad_meaning.specs.Meaning.{design_within}
use Rattle.source_laws.specs.EvaluationCosts.{Cost}
use Rattle.source_laws.specs.CostsOfExpressions.{cost_within}
use Rattle.source_laws.specs.CostsOfInstances.{cost_of_design_within, cost_of_program}

abbrev at : Place
at = record { line = 1; column = 1 }

abbrev lenient : Judge
lenient = record { solid = λ unit call. None; flat = λ unit call. None; height = λ unit center height. None; hull = λ design. None }

abbrev cube : InstanceTerm
cube = AnInstance at [] (ModuleCallTerm at (codes "cube") (PositionalTerm (NumberTerm at 1) ∷ []) (EmptyBody at))

abbrev call : List ℕ → BodyTerm → InstanceTerm
call name body = AnInstance at [] (ModuleCallTerm at name [] body)

abbrev only : InstanceTerm → StatementTerms
only instance = and_statement (InstanceStatement instance) no_statements

abbrev taken : ℕ → ℕ → Cost
taken evaluations counted = record { evaluations = evaluations; counted = counted }

-- cube(1);
a_cube : cost_of_program units.Whole lenient [] (only cube) ≡ taken 2 1
unfolding cost_of_program cost_of_design_within cost_within design_within value_within
a_cube = refl

-- module m() children(); m();
no_children : cost_of_program units.Whole lenient [] (and_statement
    (ModuleTerm at (codes "m") at [] (InstanceBody (call (codes "children") (EmptyBody at))))
    (only (call (codes "m") (EmptyBody at)))) ≡ taken 2 2
unfolding cost_of_program cost_of_design_within cost_within design_within value_within
no_children = refl

-- module m() children(); m() cube(1);
one_child : cost_of_program units.Whole lenient [] (and_statement (ModuleTerm at (codes "m") at []
    (InstanceBody (call (codes "children") (EmptyBody at)))) (only (call (codes "m") (InstanceBody cube)))) ≡ taken 4 2
unfolding cost_of_program cost_of_design_within cost_within design_within value_within
one_child = refl

abbrev loop : List ℕ → Term → BodyTerm → InstanceTerm
loop name values body = AnInstance at [] (ForTerm at (record { at = at; name = name; values = values } ∷ []) body)

-- for (i = [0 : 2]);
three_iterations : cost_of_program units.Whole lenient [] (only (loop (codes "i") (RangeTerm at (NumberTerm at 0) (NumberTerm at 2))
    (EmptyBody at))) ≡ taken 4 3
unfolding cost_of_program cost_of_design_within cost_within design_within value_within
three_iterations = refl

-- for (i = [1, 2]) for (j = []) cube(1);
loops_without_end : cost_of_program units.Whole lenient [] (only (loop (codes "i")
    (ListTerm at (and_term (NumberTerm at 1) (and_term (NumberTerm at 2) no_terms)))
    (InstanceBody (loop (codes "j") (ListTerm at no_terms) (InstanceBody cube))))) ≡ taken 8 7
unfolding cost_of_program cost_of_design_within cost_within design_within value_within
loops_without_end = refl

-- Calls of `children` in one another that count nothing of their own:
-- module m(n) if (n) m(n - 1) { a = 1; .. h = 1; children(); } else for (i = [1 : 8]) children(); m(6);
abbrev assigned : List ℕ → StatementTerms → StatementTerms
assigned name rest = and_statement (AssignmentTerm at name (NumberTerm at 1)) rest

abbrev block : StatementTerms
block = assigned (codes "a") (assigned (codes "b") (assigned (codes "c")
    (assigned (codes "d") (assigned (codes "e") (assigned (codes "f") (assigned (codes "g") (assigned (codes "h")
    (only (call (codes "children") (EmptyBody at))))))))))

abbrev passed_on : InstanceTerm
passed_on = AnInstance at [] (IfElseTerm at (NameTerm at (codes "n"))
    (InstanceBody (AnInstance at [] (ModuleCallTerm at (codes "m")
    (PositionalTerm (ChainTerm at (NameTerm at (codes "n")) (and_link Subtract at (NumberTerm at 1) no_links)) ∷ [])
    (BlockBody at block))))
    (InstanceBody (loop (codes "i") (RangeTerm at (NumberTerm at 1) (NumberTerm at 8))
    (InstanceBody (call (codes "children") (EmptyBody at))))))

abbrev deep_children : StatementTerms
deep_children = and_statement (ModuleTerm at (codes "m") at (PlainTerm at (codes "n") ∷ []) (InstanceBody passed_on))
    (only (AnInstance at [] (ModuleCallTerm at (codes "m") (PositionalTerm (NumberTerm at 6) ∷ []) (EmptyBody at))))

children_in_one_another : (unit : LengthUnit) (judge : Judge) (bindings : Pairs Val)
    → cost_of_program unit judge bindings deep_children ≡ taken 868 23
unfolding cost_of_program cost_of_design_within cost_within design_within value_within
children_in_one_another unit judge bindings = refl

-- so these evaluations are more than the size for each turn and leaf, and once more
pub depth_needed : (unit : LengthUnit) (judge : Judge) (bindings : Pairs Val) → (statements : StatementTerms)
    × (size_of_statements statements * ((cost_of_program unit judge bindings statements).counted + 1) < (cost_of_program unit judge bindings
    statements).evaluations)
depth_needed unit judge bindings =
    let e = children_in_one_another unit judge bindings in
    (deep_children, subst (λ t. size_of_statements deep_children * (t.counted + 1) < t.evaluations) (sym e) (omega arith))
