-- The plain tree that a program in memory stands for.
use Rattle.std.specs.Prelude.{List, map}
use Rattle.scad_ast.specs.declared.statement.Param.{Param}
use Rattle.scad_ast.specs.declared.statement.Param.TheVariants.{Plain, WithDefault}
use Rattle.scad_ast.specs.declared.statement.Params.{Params}
use Rattle.scad_ast.specs.declared.statement.Binder.{Binder}
use Rattle.scad_ast.specs.declared.statement.Binders.{Binders}
use Rattle.scad_ast.specs.declared.statement.PlacedModifier.{PlacedModifier}
use Rattle.scad_ast.specs.declared.statement.PlacedModifiers.{PlacedModifiers}
use Rattle.scad_ast.specs.declared.statement.Statement.{Statement}
use Rattle.scad_ast.specs.declared.statement.Statements.{Statements}
use Rattle.scad_ast.specs.declared.statement.Instance.{Instance}
use Rattle.scad_ast.specs.declared.statement.Core.{Core}
use Rattle.scad_ast.specs.declared.statement.Body.{Body}
use Rattle.scad_ast.specs.declared.statement.Body.TheOpen.{Statement-F, Empty, Block, Assignment, SpecialAssignment, Module, Function, Instantiation, Statements-F, Instance-F, Core-F, If, IfElse, For, IntersectionFor, Call, Body-F, Semicolon, Braces, Single}
use Rattle.scad_ast.specs.declared.statement.Body.TheFolds.{fold-Statement, fold-Statements, fold-Instance, fold-Core, fold-Body}
use Rattle.scad_ast.specs.ExprView.{term_of, args_of}
use Rattle.scad_ast.specs.Terms.{ParamTerm, PlainTerm, DefaultTerm, BinderTerm, ModifierTerm, StatementTerm, EmptyStatement, BlockStatement, AssignmentTerm, SpecialAssignmentTerm, ModuleTerm, FunctionTerm, InstanceStatement, InstanceTerm, AnInstance, CoreTerm, IfTerm, IfElseTerm, ForTerm, IntersectionForTerm, ModuleCallTerm, BodyTerm, EmptyBody, BlockBody, InstanceBody, statements_from}

-- what a parameter, a variable of a loop and a modifier stand for, and lists of them
abbrev pub param_of : Param → ParamTerm
param_of (Plain at name) = PlainTerm at name
param_of (WithDefault at name value) = DefaultTerm at name (term_of value)

abbrev pub params_of : Params → List ParamTerm
params_of params = map param_of params.items.items

abbrev pub binder_of : Binder → BinderTerm
binder_of binder = record { at = binder.place; name = binder.name; values = term_of binder.values }

abbrev pub binders_of : Binders → List BinderTerm
binders_of binders = map binder_of binders.items.items

abbrev pub modifier_of : PlacedModifier → ModifierTerm
modifier_of placed = record { at = placed.place; modifier = placed.modifier }

abbrev pub modifiers_of : PlacedModifiers → List ModifierTerm
modifiers_of modifiers = map modifier_of modifiers.items.items

-- one layer of a body, an instance or a statement, with what stands in it seen already
abbrev pub body_step : Body-F BodyTerm CoreTerm StatementTerm InstanceTerm (List StatementTerm) → BodyTerm
body_step (Semicolon at) = EmptyBody at
body_step (Braces at statements) = BlockBody at (statements_from statements)
body_step (Single instance) = InstanceBody instance.value

abbrev pub core_step : Core-F BodyTerm CoreTerm StatementTerm InstanceTerm (List StatementTerm) → CoreTerm
core_step (If at test body) = IfTerm at (term_of test) body.value
core_step (IfElse at test body other) = IfElseTerm at (term_of test) body.value other.value
core_step (For at binders body) = ForTerm at (binders_of binders) body.value
core_step (IntersectionFor at binders body) = IntersectionForTerm at (binders_of binders) body.value
core_step (Call at name args body) = ModuleCallTerm at name (args_of args) body.value

abbrev pub instance_step : Instance-F BodyTerm CoreTerm StatementTerm InstanceTerm (List StatementTerm) → InstanceTerm
instance_step instance = AnInstance instance.place (modifiers_of instance.modifiers) instance.core

abbrev pub statement_step : Statement-F BodyTerm CoreTerm StatementTerm InstanceTerm (List StatementTerm) → StatementTerm
statement_step (Empty at) = EmptyStatement at
statement_step (Block at statements) = BlockStatement at (statements_from statements)
statement_step (Assignment at name value) = AssignmentTerm at name (term_of value)
statement_step (SpecialAssignment at name value) = SpecialAssignmentTerm at name (term_of value)
statement_step (Module at name name_at params body) = ModuleTerm at name name_at (params_of params) body
statement_step (Function at name name_at params value) = FunctionTerm at name name_at (params_of params) (term_of value)
statement_step (Instantiation instance) = InstanceStatement instance

abbrev pub statements_step : Statements-F BodyTerm CoreTerm StatementTerm InstanceTerm (List StatementTerm) → List StatementTerm
statements_step statements = statements.items.items

-- what a body, an instance, a statement and a list of statements stand for
abbrev pub body_of : Body → BodyTerm
body_of = fold-Body BodyTerm CoreTerm StatementTerm InstanceTerm (List StatementTerm) body_step core_step statement_step instance_step statements_step

abbrev pub core_of : Core → CoreTerm
core_of = fold-Core BodyTerm CoreTerm StatementTerm InstanceTerm (List StatementTerm) body_step core_step statement_step instance_step statements_step

abbrev pub instance_of : Instance → InstanceTerm
instance_of = fold-Instance BodyTerm CoreTerm StatementTerm InstanceTerm (List StatementTerm) body_step core_step statement_step instance_step statements_step

abbrev pub statement_of : Statement → StatementTerm
statement_of = fold-Statement BodyTerm CoreTerm StatementTerm InstanceTerm (List StatementTerm) body_step core_step statement_step instance_step statements_step

abbrev pub statements_of : Statements → List StatementTerm
statements_of = fold-Statements BodyTerm CoreTerm StatementTerm InstanceTerm (List StatementTerm) body_step core_step statement_step instance_step statements_step
