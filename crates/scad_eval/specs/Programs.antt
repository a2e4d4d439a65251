-- What the steps of the evaluation of a program tell.
use Rattle.std.specs.Prelude.{◌≡◌, ℕ, [], ◌∷◌, List, Result}
use Rattle.text_place.specs.declared.fault.Stop.{Stop}
use Rattle.plane_predicate.specs.declared.unit.Unit.{Unit as LengthUnit}
use Rattle.scad_ast.specs.Terms.{StatementTerm, statements_from}
use Rattle.scad_scope.specs.declared.scopes.Scopes.{Scopes}
use Rattle.scad_scope.specs.Table.{rows_of, bindings_of}
use Rattle.scad_scope.specs.Names.{first_bindings, first_row}
use Rattle.scad_design.specs.declared.design.Design.{Design}
use Rattle.scad_design.specs.View.{plain_of}
use Rattle.scad_meaning.specs.Verdicts.{Judge, IsRightJudge}
use Rattle.scad_meaning.specs.Meaning.{design_of}
use Rattle.scad_instance_rules.specs.Seen.{HasOutcome}

-- the design of a program, or its fault, unless memory ran out
abbrev pub MeetsDesign : LengthUnit → List StatementTerm → Result Design Stop → Type 0
MeetsDesign unit program result = (judge : Judge) → IsRightJudge judge →
    (turns : ℕ) × HasOutcome (λ leaves. plain_of) result turns 0 (design_of unit judge first_bindings (statements_from program))

-- the table of scopes that evaluation begins with
pub record IsFirstTable (scopes : Scopes) : Type 0 where
  pub rows : rows_of scopes ≡ first_row ∷ []
  pub bindings : bindings_of scopes ≡ first_bindings
