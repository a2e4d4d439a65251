-- The meaning of instances: equations over the syntax and lists of pairs, as those of expressions are. The evaluator of a
-- depth and the context of an instance go in; the turns and the leaves so far go through.
use Rattle.std.specs.Prelude.{ℕ, zero, suc, ◌+◌, pos, Bool, true, false, List, [], ◌∷◌, ◌++◌, length, Option, Some, None, is_some, Ok, Err, nat_lt, nat_eq, ◌&&◌, codes, if◌then◌else◌}
use Rattle.plain_text.specs.declared.place.Place.{Place}
use Rattle.text_place.specs.declared.fault.FaultKind.TheVariants.{TypeMismatch, UnknownModule, BadArgument, TooDeep, NotInProfile, WrongDimension, TooManyParts}
use Rattle.csg_tree.specs.declared.op.Op.{Op}
use Rattle.csg_tree.specs.declared.op.Op.TheVariants.{Union, Intersection}
use Rattle.plane_predicate.specs.declared.unit.Unit.{Unit as LengthUnit}
use Rattle.primitives.specs.Shapes.{Mesh}
use Rattle.scad_ast.specs.Terms.{BinderTerm, StatementTerms, InstanceTerm, AnInstance, CoreTerm, IfTerm, IfElseTerm, ForTerm, IntersectionForTerm, ModuleCallTerm, BodyTerm, ArgTerm, ArgTerms, no_args, and_named, and_special, and_positional, SpecialArgTerm, args_from, place_of_instance, place_of_core}
use Rattle.scad_value.specs.Values.{Val, NumberVal, Vals, no_vals, and_val, truth_of}
use Rattle.scad_value.specs.Operators.{AnswerOrFault}
use Rattle.scad_scope.specs.Names.{Pairs, find_in}
use Rattle.scad_definitions.specs.Arguments.{parameter_names, no_arguments_of, destination_of, with_argument}
use Rattle.scad_definitions.specs.Blocks.{SourceModule, SourceAssignment, assignments_of, statements_of_body}
use Rattle.scad_func.specs.Limits.{most_calls, most_evaluations}
use Rattle.scad_func.specs.Meaning.{Outcome, Gives, Faults, then_with, or_fault, Env, NoScope, InnerScope, Activation, no_activation, activation, visible_module, activation_in, functions_standing_in, modules_standing_in, entered_scope, with_value, turn, ExpressionContext, value_at_next_depth, one_call_fewer, Arguments, each_argument, each_parameter, with_pairs, value_within}
use Rattle.scad_modules.specs.declared.table.BuiltinModule.{BuiltinModule}
use Rattle.scad_modules.specs.declared.table.BuiltinModule.TheVariants.{Echo}
use Rattle.scad_modules.specs.Table.{builtin_module_of, is_left_out_module, parameters_of}
use Rattle.scad_modules.specs.Effects.{EffectCall, a_solid, a_flat, a_move, a_join, a_hull, an_extrusion, no_geometry, some_children, FlatCall, ChosenCall, all_children, numbered_children, ranged_children}
use Rattle.scad_modules.specs.Calls.{effect_of}
use Rattle.scad_design.specs.Designs.{DesignTree, empty, a_leaf, balanced_join, join_children, moved_design_tree}
use Rattle.scad_meaning.specs.declared.extrusion.Extrusion.{Extrusion}
use Rattle.scad_meaning.specs.Hulls.{is_nothing, hull_mesh}
use Rattle.scad_meaning.specs.Verdicts.{Judge, Verdict, solid_mesh, extrusion_mesh}
use Rattle.scad_meaning.specs.Bodies.{evaluated_instances, children_in, has_root_modifier, has_no_geometry, is_bare}
use Rattle.scad_meaning.specs.Loops.{iterated_values, chosen_among}

-- the context of an instance: the calls that are left, the scope, the dynamic bindings of special names, the extrusion that
-- it is inside of, and whether it is inside an instance that is marked `!`
pub record Context : Type 0 where
  pub calls_left : ℕ
  pub env : Env
  pub bindings : Pairs Val
  pub inside : Option Extrusion
  pub under_root : Bool

-- the same context in another scope
abbrev pub inside_scope : Context → Env → Context
inside_scope here env = record { calls_left = here.calls_left; env = env; bindings = here.bindings; inside = here.inside; under_root = here.under_root }

-- the same context with other dynamic bindings
abbrev pub with_bindings : Context → Pairs Val → Context
with_bindings here bindings = record { calls_left = here.calls_left; env = here.env; bindings = bindings; inside = here.inside; under_root = here.under_root }

-- the same context with the given number of calls left
abbrev pub with_calls_left : Context → ℕ → Context
with_calls_left here calls = record { calls_left = calls; env = here.env; bindings = here.bindings; inside = here.inside; under_root = here.under_root }

-- the same context inside an instance that is marked `!`
abbrev pub inside_root : Context → Context
inside_root here = record { calls_left = here.calls_left; env = here.env; bindings = here.bindings; inside = here.inside; under_root = true }

-- the same context inside an extrusion
abbrev pub inside_extrusion : Context → Extrusion → Context
inside_extrusion here through = record { calls_left = here.calls_left; env = here.env; bindings = here.bindings; inside = Some through; under_root = here.under_root }

-- where an expression of an instance stands, with the given number of evaluations in one another left
abbrev pub expression_context : ℕ → Context → ExpressionContext
expression_context evaluations here = record { at_next_depth = value_within evaluations; calls_left = here.calls_left; env = here.env; bindings = here.bindings }

-- What an instance gives: the leaves so far, its design, and the first of the designs in it that is marked `!`
pub record InstanceDesign : Type 0 where
  pub leaves : ℕ
  pub design : DesignTree
  pub root : Option DesignTree

-- what the instances of a body give, from the first on
pub record MemberDesigns : Type 0 where
  pub leaves : ℕ
  pub designs : List DesignTree
  pub root : Option DesignTree

-- the first of the designs that are marked `!`
abbrev pub first_root : Option DesignTree → Option DesignTree → Option DesignTree
first_root (Some design) later = Some design
first_root None later = later

-- an instance that gives nothing
abbrev pub no_design : ℕ → InstanceDesign
no_design leaves = record { leaves = leaves; design = empty; root = None }

-- instances that give nothing
abbrev pub no_members : ℕ → MemberDesigns
no_members leaves = record { leaves = leaves; designs = []; root = None }

-- one member, or none where the instance is no member
abbrev pub as_member : Bool → InstanceDesign → MemberDesigns
as_member is_member result = record { leaves = result.leaves; designs = if is_member then result.design ∷ [] else []; root = result.root }

-- members before others
abbrev pub and_members : MemberDesigns → MemberDesigns → MemberDesigns
and_members first later = record {
  leaves = later.leaves;
  designs = first.designs ++ later.designs;
  root = first_root first.root later.root;
}

-- members joined by an operation
abbrev pub joined_members : Op → MemberDesigns → InstanceDesign
joined_members op members = record { leaves = members.leaves; design = join_children op members.designs; root = members.root }

-- what an instance gives, with its design moved
abbrev pub moved_design : (DesignTree → DesignTree) → InstanceDesign → InstanceDesign
moved_design move result = record { leaves = result.leaves; design = move result.design; root = result.root }

-- how an instance is evaluated: by where it stands, the instance, and the turns and the leaves so far
abbrev pub EvaluatesInstance : Type 0
EvaluatesInstance = Context → InstanceTerm → ℕ → ℕ → Outcome InstanceDesign

-- what the evaluation of instances at one depth knows: the unit of lengths, what is wrong with shapes, how many evaluations in
-- one another are left, and how an instance one evaluation deeper is evaluated
pub record Evaluator : Type 0 where
  pub unit : LengthUnit
  pub judge : Judge
  pub evaluations : ℕ
  pub at_next_depth : EvaluatesInstance

-- the value of an assignment: its statement is one evaluation deeper, and its expression one more
abbrev pub assigned_value : ℕ → Context → SourceAssignment → ℕ → Outcome Val
assigned_value zero here assignment turns = Faults TooDeep assignment.at
assigned_value (suc evaluations) here assignment turns = value_at_next_depth (expression_context evaluations here) true assignment.value turns

-- the context with one more assignment: a special name goes among the dynamic bindings, a variable into the scope
abbrev pub with_assignment : SourceAssignment → Val → Context → Context
with_assignment assignment value here =
    if assignment.special then with_bindings here ((assignment.name, value) ∷ here.bindings)
    else inside_scope here (with_value assignment.name value here.env)

-- the scope with its assignments, from the first on
abbrev pub each_assignment : ℕ → Context → List SourceAssignment → ℕ → Outcome Context
each_assignment evaluations here [] turns = Gives turns here
each_assignment evaluations here (assignment ∷ rest) turns =
    then_with (assigned_value evaluations here assignment turns) (λ turns value.
    each_assignment evaluations (with_assignment assignment value here) rest turns)

-- an instance without its place and its modifiers
abbrev pub core_of_instance : InstanceTerm → CoreTerm
core_of_instance (AnInstance at modifiers core) = core

-- what instances give as members, in order; those that have no geometry are no members
abbrev pub each_member : Evaluator → Context → List InstanceTerm → ℕ → ℕ → Outcome MemberDesigns
each_member evaluator here [] turns leaves = Gives turns (no_members leaves)
each_member evaluator here (instance ∷ instances) turns leaves =
    then_with (evaluator.at_next_depth here instance turns leaves) (λ turns result.
    then_with (each_member evaluator here instances turns result.leaves) (λ turns members.
    Gives turns (and_members (as_member (if has_no_geometry here.env (core_of_instance instance) then false else true) result) members)))

-- The instances of a block among which a call of `children` chooses: an index counts children alone, and without an index the
-- block is evaluated as any other, with its calls of `echo` and `assert`
abbrev pub candidates_of : Env → ChosenCall → StatementTerms → List InstanceTerm
candidates_of env all_children statements = evaluated_instances statements
candidates_of env (numbered_children numbers) statements = children_in env statements
candidates_of env (ranged_children from step upto) statements = children_in env statements

-- the instances of a block that are evaluated, or the chosen ones among them
abbrev pub instances_chosen : Env → Option ChosenCall → StatementTerms → List InstanceTerm
instances_chosen env None statements = evaluated_instances statements
instances_chosen env (Some chosen) statements = chosen_among (candidates_of env chosen statements) chosen

-- a block in its scope: its assignments, then these instances
abbrev pub block_members : Evaluator → Option ChosenCall → StatementTerms → Context → ℕ → ℕ → Outcome MemberDesigns
block_members evaluator chosen statements here turns leaves =
    then_with (each_assignment evaluator.evaluations here (assignments_of statements) turns) (λ turns there.
    each_member evaluator there (instances_chosen there.env chosen statements) turns leaves)

-- a body in its scope: its assignments, then the instances that are evaluated
abbrev pub each_in_scope : Evaluator → Context → StatementTerms → ℕ → ℕ → Outcome MemberDesigns
each_in_scope evaluator here statements turns leaves = block_members evaluator None statements here turns leaves

-- a body, in a new scope inside where it stands
abbrev pub each_in_body : Evaluator → Context → BodyTerm → ℕ → ℕ → Outcome MemberDesigns
each_in_body evaluator here body turns leaves =
    each_in_scope evaluator (inside_scope here (entered_scope (statements_of_body body) no_activation here.env)) (statements_of_body body) turns leaves

-- a body's members in a new scope, joined by an operation
abbrev pub body_design : Evaluator → Op → Context → BodyTerm → ℕ → ℕ → Outcome InstanceDesign
body_design evaluator op here body turns leaves =
    then_with (each_in_body evaluator here body turns leaves) (λ turns members. Gives turns (joined_members op members))

-- a step of a loop that gave no member counts one turn when it ends
abbrev pub turn_after_step : Place → List DesignTree → ℕ → (ℕ → Outcome MemberDesigns) → Outcome MemberDesigns
turn_after_step at [] turns go = turn at turns go
turn_after_step at (design ∷ designs) turns go = go turns

-- a step of a loop with the turn that it counts when it ends
abbrev pub counted_step : Place → Outcome MemberDesigns → Outcome MemberDesigns
counted_step at step = then_with step (λ turns members. turn_after_step at members.designs turns (λ turns. Gives turns members))

-- for each item of a list the members that its step gives
abbrev pub each_step : Place → (Val → ℕ → ℕ → Outcome MemberDesigns) → Vals → ℕ → ℕ → Outcome MemberDesigns
each_step at step no_vals turns leaves = Gives turns (no_members leaves)
each_step at step (and_val item items) turns leaves =
    then_with (counted_step at (step item turns leaves)) (λ turns members.
    then_with (each_step at step items turns members.leaves) (λ turns more. Gives turns (and_members members more)))

-- a variable of a loop, in a scope of its own
abbrev pub in_loop : Context → List ℕ → Val → Context
in_loop here name value = inside_scope here (InnerScope ((name, value) ∷ []) [] [] no_activation here.env)

-- The iterations of a loop: one for each choice of a value for every variable, the first one slowest. Each gives the union of
-- its body, which stands inside the scopes of the variables
abbrev pub each_iteration : Evaluator → Place → List BinderTerm → BodyTerm → Context → ℕ → ℕ → Outcome MemberDesigns
each_iteration evaluator at [] body here turns leaves =
    turn at turns (λ turns.
    then_with (body_design evaluator Union here body turns leaves) (λ turns result.
    Gives turns (as_member true result)))
each_iteration evaluator at (binder ∷ binders) body here turns leaves =
    then_with (value_at_next_depth (expression_context evaluator.evaluations here) true binder.values turns) (λ turns value.
    or_fault (iterated_values value) TypeMismatch at (λ items.
    each_step at (λ item. each_iteration evaluator at binders body (in_loop here binder.name item)) items turns leaves))

-- the iterations of a loop, joined by an operation
abbrev pub loop_design : Evaluator → Op → Context → Place → List BinderTerm → BodyTerm → ℕ → ℕ → Outcome InstanceDesign
loop_design evaluator op here at binders body turns leaves =
    then_with (each_iteration evaluator at binders body here turns leaves) (λ turns members. Gives turns (joined_members op members))

-- the most leaves of one design
abbrev pub most_leaves : ℕ
most_leaves = 1024

-- one leaf more
abbrev pub leaf_design : Place → Mesh → ℕ → ℕ → Outcome InstanceDesign
leaf_design at mesh turns leaves =
    if nat_lt leaves most_leaves
    then Gives turns (record { leaves = leaves + 1; design = a_leaf (record { mesh = mesh; steps = []; at = at }); root = None })
    else Faults TooManyParts at

-- what a module's own checks say, at its name
abbrev pub unless_refused : {A : Type 0} → Verdict → Place → Outcome A → Outcome A
unless_refused None at next = next
unless_refused (Some kind) at next = Faults kind at

-- what children give, with the leaf of their hull in place of their design
abbrev pub with_leaf_of : InstanceDesign → InstanceDesign → InstanceDesign
with_leaf_of result leaf = record { leaves = leaf.leaves; design = leaf.design; root = result.root }

-- the hull of what children give, which counts as one leaf more behind theirs; where their design is empty, there is no hull
abbrev pub hull_design : Verdict → Place → InstanceDesign → ℕ → Outcome InstanceDesign
hull_design verdict at result turns =
    if is_nothing result.design then Gives turns result
    else unless_refused verdict at
    (then_with (leaf_design at (hull_mesh result.design) turns result.leaves) (λ turns leaf. Gives turns (with_leaf_of result leaf)))

-- what follows from an answer, or its fault at a place
abbrev pub answered_with : {A B : Type 0} → AnswerOrFault A → Place → (A → Outcome B) → Outcome B
answered_with (Ok x) at go = go x
answered_with (Err kind) at go = Faults kind at

-- the number of children of a call with this body, as a variable of the called module's scope
abbrev pub children_count : Env → StatementTerms → List ℕ × Val
children_count caller children =
    (codes "$children", NumberVal (pos (length (children_in (entered_scope children no_activation caller) children))))

-- the scope of a module's body
abbrev pub module_scope : Env → SourceModule → Vals → StatementTerms → Env → Env
module_scope defining_scope defined values children caller =
    InnerScope (children_count caller children ∷ with_pairs (parameter_names defined.params) values [])
    (functions_standing_in (statements_of_body defined.body)) (modules_standing_in (statements_of_body defined.body))
    (activation children caller) defining_scope

-- what a module's body gives, in its scope, by the values of its parameters
abbrev pub module_with_values : Evaluator → SourceModule × Env → Vals → BodyTerm → Context → ℕ → ℕ → Outcome InstanceDesign
module_with_values evaluator found values body here turns leaves =
    then_with (each_in_scope evaluator (inside_scope here (module_scope found.1 found.0 values (statements_of_body body) here.env))
    (statements_of_body found.0.body) turns leaves) (λ turns members.
    Gives turns (joined_members Union members))

-- a module with its arguments: its special arguments stand among the dynamic bindings, and its defaults are evaluated in the
-- scope of its definition
abbrev pub module_with_arguments : Evaluator → SourceModule × Env → Arguments → BodyTerm → Context → ℕ → ℕ → Outcome InstanceDesign
module_with_arguments evaluator found given body here turns leaves =
    let there = with_bindings here (given.dynamic ++ here.bindings) in
    then_with (each_parameter (expression_context evaluator.evaluations (inside_scope there found.1)) found.0.params given.bound turns) (λ turns values.
    module_with_values evaluator found values body there turns leaves)

-- a module of the source, one call deeper: its defaults in the scope of its definition, then its body
abbrev pub module_design : Evaluator → Context → Place → SourceModule × Env → Arguments → BodyTerm → ℕ → ℕ → Outcome InstanceDesign
module_design evaluator here at found given body turns leaves =
    one_call_fewer here.calls_left at (λ calls.
    turn at turns (λ turns.
    module_with_arguments evaluator found given body (with_calls_left here calls) turns leaves))

-- The arguments of `echo`, in order: a name may come twice, a special name may not
abbrev pub each_echo_argument : ExpressionContext → ArgTerms → Arguments → ℕ → Outcome Arguments
each_echo_argument here no_args given turns = Gives turns given
each_echo_argument here (and_named at name expression rest) given turns =
    then_with (value_at_next_depth here true expression turns) (λ turns value. each_echo_argument here rest given turns)
each_echo_argument here (and_special at name expression rest) given turns =
    or_fault (destination_of [] 0 given (SpecialArgTerm at name expression)) BadArgument at (λ target.
    then_with (value_at_next_depth here true expression turns) (λ turns value. each_echo_argument here rest (with_argument given target value) turns))
each_echo_argument here (and_positional expression rest) given turns =
    then_with (value_at_next_depth here true expression turns) (λ turns value. each_echo_argument here rest given turns)

-- the arguments of a built-in module
abbrev pub arguments_for : BuiltinModule → ExpressionContext → ArgTerms → ℕ → Outcome Arguments
arguments_for Echo here args turns = each_echo_argument here args (no_arguments_of 0) turns
arguments_for builtin here args turns =
    each_argument here (parameters_of builtin) 0 args (no_arguments_of (length (parameters_of builtin))) turns

-- The chosen children of the enclosing call, in a new scope inside its caller's, with the assignments of their body
abbrev pub children_design : Evaluator → Context → Activation → ChosenCall → ℕ → ℕ → Outcome InstanceDesign
children_design evaluator here no_activation chosen turns leaves = Gives turns (no_design leaves)
children_design evaluator here (activation children caller) chosen turns leaves =
    then_with (block_members evaluator (Some chosen) children (inside_scope here (entered_scope children no_activation caller)) turns leaves) (λ turns members.
    Gives turns (joined_members Union members))

-- the chosen children of the enclosing activation, one call deeper
abbrev pub chosen_children : Evaluator → Place → ChosenCall → Context → ℕ → ℕ → Outcome InstanceDesign
chosen_children evaluator at chosen here turns leaves =
    one_call_fewer here.calls_left at (λ calls. children_design evaluator (with_calls_left here calls) (activation_in here.env) chosen turns leaves)

-- what a call gives, and one turn more at its name where it was idle
abbrev pub turn_after_call : Place → Bool → ℕ → InstanceDesign → Outcome InstanceDesign
turn_after_call at idle turns result = if idle then turn at turns (λ turns. Gives turns result) else Gives turns result

-- A call that began after the given number of turns and leaves, with the turn that it counts when it ends: one where nothing
-- was counted and no leaf was evaluated since, so that no way through calls alone goes on uncounted
abbrev pub counted_call : Place → ℕ → ℕ → Outcome InstanceDesign → Outcome InstanceDesign
counted_call at turns leaves call =
    then_with call (λ after result. turn_after_call at (nat_eq after turns && nat_eq result.leaves leaves) after result)

-- a call of `children`, whose arguments were evaluated before it began
abbrev pub counted_children : Evaluator → Place → ChosenCall → Context → ℕ → ℕ → Outcome InstanceDesign
counted_children evaluator at chosen here turns leaves =
    counted_call at turns leaves (chosen_children evaluator at chosen here turns leaves)

-- a program's scope stands inside one that is empty; it begins with the dynamic bindings that it is given
abbrev pub program_context : Pairs Val → StatementTerms → Context
program_context bindings statements = record {
  calls_left = most_calls;
  env = entered_scope statements no_activation (InnerScope [] [] [] no_activation NoScope);
  bindings = bindings;
  inside = None;
  under_root = false;
}

-- the design of a program: the first one marked `!`, or else all
abbrev pub root_or_union : Option DesignTree → List DesignTree → DesignTree
root_or_union None designs = balanced_join Union designs
root_or_union (Some design) designs = design

-- a shape in the plane stands inside an extrusion
abbrev pub flat_design : Evaluator → Option Extrusion → Place → FlatCall → ℕ → ℕ → Outcome InstanceDesign
flat_design evaluator None at call turns leaves = Faults WrongDimension at
flat_design evaluator (Some through) at call turns leaves =
    unless_refused (evaluator.judge.flat evaluator.unit call) at (leaf_design at (extrusion_mesh evaluator.unit through call) turns leaves)

-- what a call of a built-in module gives, by what its arguments ask for
abbrev pub effect_design : Evaluator → Context → Place → EffectCall → BodyTerm → ℕ → ℕ → Outcome InstanceDesign
effect_design evaluator here at (a_solid call) body turns leaves =
    unless_refused (evaluator.judge.solid evaluator.unit call) at (leaf_design at (solid_mesh evaluator.unit call) turns leaves)
effect_design evaluator here at (a_flat call) body turns leaves = flat_design evaluator here.inside at call turns leaves
effect_design evaluator here at (a_move steps) body turns leaves =
    then_with (body_design evaluator Union here body turns leaves) (λ turns result. Gives turns (moved_design (moved_design_tree steps) result))
effect_design evaluator here at (a_join op) body turns leaves = body_design evaluator op here body turns leaves
effect_design evaluator here at a_hull body turns leaves =
    then_with (body_design evaluator Union here body turns leaves) (λ turns result. hull_design (evaluator.judge.hull result.design) at result turns)
effect_design evaluator here at (an_extrusion center height) body turns leaves =
    unless_refused (evaluator.judge.height evaluator.unit center height) at
    (body_design evaluator Union (inside_extrusion here (record { center = center; height = height })) body turns leaves)
effect_design evaluator here at no_geometry body turns leaves =
    if is_bare body then Gives turns (no_design leaves) else Faults NotInProfile at
effect_design evaluator here at (some_children chosen) body turns leaves = counted_children evaluator at chosen here turns leaves

-- a built-in module with its arguments
abbrev pub built_in_with_arguments : Evaluator → Place → BuiltinModule → Arguments → BodyTerm → Context → ℕ → ℕ → Outcome InstanceDesign
built_in_with_arguments evaluator at builtin given body here turns leaves =
    let there = with_bindings here (given.dynamic ++ here.bindings) in
    answered_with (effect_of evaluator.unit (is_some here.inside) (find_in there.bindings (codes "fn")) builtin given.bound) at (λ effect.
    effect_design evaluator there at effect body turns leaves)

-- a call of a built-in module
abbrev pub built_in_design : Evaluator → Context → Place → List ℕ → List ArgTerm → BodyTerm → Option BuiltinModule → ℕ → ℕ → Outcome InstanceDesign
built_in_design evaluator here at name args body None turns leaves =
    Faults (if is_left_out_module name then NotInProfile else UnknownModule) at
built_in_design evaluator here at name args body (Some builtin) turns leaves =
    then_with (arguments_for builtin (expression_context evaluator.evaluations here) (args_from args) turns) (λ turns given.
    built_in_with_arguments evaluator at builtin given body here turns leaves)

-- a call of a module: the source's go before built-in ones
abbrev pub call_design : Evaluator → Context → Place → List ℕ → List ArgTerm → BodyTerm → Option (SourceModule × Env) → ℕ → ℕ → Outcome InstanceDesign
call_design evaluator here at name args body (Some found) turns leaves =
    then_with (each_argument (expression_context evaluator.evaluations here) (parameter_names found.0.params) 0 (args_from args) (no_arguments_of (length found.0.params)) turns) (λ turns given.
    module_design evaluator here at found given body turns leaves)
call_design evaluator here at name args body None turns leaves =
    built_in_design evaluator here at name args body (builtin_module_of name) turns leaves

-- what an instance without its modifiers gives
abbrev pub core_design : Evaluator → Context → CoreTerm → ℕ → ℕ → Outcome InstanceDesign
core_design evaluator here (IfTerm at test body) turns leaves =
    then_with (value_at_next_depth (expression_context evaluator.evaluations here) true test turns) (λ turns value.
    if truth_of value then body_design evaluator Union here body turns leaves else Gives turns (no_design leaves))
core_design evaluator here (IfElseTerm at test body other) turns leaves =
    then_with (value_at_next_depth (expression_context evaluator.evaluations here) true test turns) (λ turns value.
    body_design evaluator Union here (if truth_of value then body else other) turns leaves)
core_design evaluator here (ForTerm at binders body) turns leaves =
    loop_design evaluator Union here at binders body turns leaves
core_design evaluator here (IntersectionForTerm at binders body) turns leaves =
    loop_design evaluator Intersection here at binders body turns leaves
core_design evaluator here (ModuleCallTerm at name args body) turns leaves =
    call_design evaluator here at name args body (visible_module here.env name) turns leaves

-- What an instance gives that is marked `!`: its design is the root, and a member of what stands around it as if there were
-- no mark
abbrev pub as_root : InstanceDesign → InstanceDesign
as_root result = record { leaves = result.leaves; design = result.design; root = Some result.design }

-- an instance that is marked `!`: inside another mark it counts as unmarked, else it is the root
abbrev pub root_design : Evaluator → Context → CoreTerm → ℕ → ℕ → Outcome InstanceDesign
root_design evaluator here core turns leaves =
    if here.under_root then core_design evaluator here core turns leaves
    else then_with (core_design evaluator (inside_root here) core turns leaves) (λ turns result. Gives turns (as_root result))

-- an instance: of modifiers `!` in one another the outermost one counts
abbrev pub instance_design : Evaluator → EvaluatesInstance
instance_design evaluator here instance turns leaves =
    if has_root_modifier instance
    then (if is_some here.inside then Faults WrongDimension (place_of_core (core_of_instance instance))
    else root_design evaluator here (core_of_instance instance) turns leaves)
    else core_design evaluator here (core_of_instance instance) turns leaves

-- with the given number of evaluations in one another left
unfoldable pub design_within : LengthUnit → Judge → ℕ → EvaluatesInstance
design_within unit judge zero here instance turns leaves = Faults TooDeep (place_of_instance instance)
design_within unit judge (suc evaluations) here instance turns leaves =
    instance_design (record { unit = unit; judge = judge; evaluations = evaluations; at_next_depth = design_within unit judge evaluations })
    here instance turns leaves

-- the evaluator with the given number of evaluations in one another left
abbrev pub evaluator_with : LengthUnit → Judge → ℕ → Evaluator
evaluator_with unit judge evaluations =
    record { unit = unit; judge = judge; evaluations = evaluations; at_next_depth = design_within unit judge evaluations }

-- the design of a program, where all evaluations in one another are left
unfoldable pub design_of : LengthUnit → Judge → Pairs Val → StatementTerms → Outcome DesignTree
design_of unit judge bindings statements =
    then_with (each_in_scope (evaluator_with unit judge most_evaluations) (program_context bindings statements) statements 0 0) (λ turns members.
    Gives turns (root_or_union members.root members.designs))
