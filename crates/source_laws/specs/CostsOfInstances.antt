-- What an instance costs: one evaluation for itself and for each assignment, expression and instance that is evaluated for it,
-- and what it counts. Each equation of the meaning has one here.
use Rattle.std.specs.Prelude.{ℕ, zero, suc, true, ◌&&◌, nat_lt, nat_eq, List, [], ◌∷◌, ◌++◌, length, Option, Some, None, is_some, Ok, Err, codes, if◌then◌else◌}
use Rattle.plain_text.specs.declared.place.Place.{Place}
use Rattle.plane_predicate.specs.declared.unit.Unit.{Unit as LengthUnit}
use Rattle.scad_ast.specs.Terms.{Term, BinderTerm, StatementTerms, InstanceTerm, CoreTerm, IfTerm, IfElseTerm, ForTerm, IntersectionForTerm, ModuleCallTerm, BodyTerm, ArgTerm, ArgTerms, no_args, and_named, and_special, and_positional, SpecialArgTerm, args_from}
use Rattle.scad_value.specs.Values.{Val, Vals, no_vals, and_val, truth_of}
use Rattle.scad_value.specs.Operators.{AnswerOrFault}
use Rattle.scad_scope.specs.Names.{Pairs, find_in}
use Rattle.scad_definitions.specs.Arguments.{parameter_names, no_arguments_of, destination_of, with_argument}
use Rattle.scad_definitions.specs.Blocks.{SourceModule, SourceAssignment, assignments_of, statements_of_body}
use Rattle.scad_func.specs.Limits.{most_evaluations}
use Rattle.scad_func.specs.Meaning.{Outcome, Env, Activation, no_activation, activation, visible_module, activation_in, entered_scope, ExpressionContext, value_at_next_depth, Arguments, each_argument, each_parameter}
use Rattle.scad_modules.specs.declared.table.BuiltinModule.{BuiltinModule}
use Rattle.scad_modules.specs.declared.table.BuiltinModule.TheVariants.{Echo}
use Rattle.scad_modules.specs.Table.{builtin_module_of, parameters_of}
use Rattle.scad_modules.specs.Effects.{EffectCall, a_solid, a_flat, a_move, a_join, a_hull, an_extrusion, no_geometry, some_children, FlatCall, ChosenCall}
use Rattle.scad_modules.specs.Calls.{effect_of}
use Rattle.csg_tree.specs.declared.op.Op.TheVariants.{Union}
use Rattle.scad_design.specs.Designs.{DesignTree}
use Rattle.scad_meaning.specs.declared.extrusion.Extrusion.{Extrusion}
use Rattle.scad_meaning.specs.Hulls.{is_nothing}
use Rattle.scad_meaning.specs.Verdicts.{Judge, Verdict}
use Rattle.scad_meaning.specs.Bodies.{has_root_modifier}
use Rattle.scad_meaning.specs.Loops.{iterated_values}
use Rattle.scad_meaning.specs.Meaning.{Context, InstanceDesign, body_design, chosen_children, inside_scope, with_bindings, with_calls_left, inside_root, inside_extrusion, expression_context, MemberDesigns, Evaluator, assigned_value, with_assignment, each_assignment, core_of_instance, instances_chosen, counted_step, in_loop, each_iteration, module_scope, arguments_for, most_leaves, program_context, each_in_scope, design_within, evaluator_with}
use Rattle.source_laws.specs.EvaluationCosts.{Cost, and_later, no_cost, one_evaluation, so_many_counted, cost_then, cost_where, cost_of_turn, cost_in_call}
use Rattle.source_laws.specs.CostsOfExpressions.{ExpressionCost, cost_at_next_depth, cost_of_each_argument, cost_of_each_parameter, cost_within}

-- what an instance one deeper takes: by where it stands, the instance, and the turns and the leaves so far
abbrev pub InstanceCost : Type 0
InstanceCost = Context → InstanceTerm → ℕ → ℕ → Cost

-- what is counted where an answer is no fault
abbrev pub cost_answered : {A : Type 0} → AnswerOrFault A → (A → Cost) → Cost
cost_answered (Ok x) go = go x
cost_answered (Err kind) go = no_cost

-- what is counted unless a module's own checks say no
abbrev pub cost_unless_refused : Verdict → Cost → Cost
cost_unless_refused None next = next
cost_unless_refused (Some kind) next = no_cost

-- the evaluations of an expression of an instance, with the given number in one another left
abbrev pub cost_of_expression : ℕ → Context → Term → ℕ → Cost
cost_of_expression evaluations here expression turns =
    cost_at_next_depth (cost_within evaluations) (expression_context evaluations here) true expression turns

-- of an assignment: its own and those of its expression
abbrev pub cost_of_assigned : ℕ → Context → SourceAssignment → ℕ → Cost
cost_of_assigned zero here assignment turns = one_evaluation
cost_of_assigned (suc evaluations) here assignment turns =
    and_later one_evaluation (cost_of_expression evaluations here assignment.value turns)

-- of assignments, from the first on
abbrev pub cost_of_each_assignment : ℕ → Context → List SourceAssignment → ℕ → Cost
cost_of_each_assignment evaluations here [] turns = no_cost
cost_of_each_assignment evaluations here (assignment ∷ rest) turns =
    cost_then (cost_of_assigned evaluations here assignment turns)
    (assigned_value evaluations here assignment turns) (λ turns value.
    cost_of_each_assignment evaluations (with_assignment assignment value here) rest turns)

-- of instances, in order
abbrev pub cost_of_each_member : InstanceCost → Evaluator → Context → List InstanceTerm → ℕ → ℕ → Cost
cost_of_each_member counting evaluator here [] turns leaves = no_cost
cost_of_each_member counting evaluator here (instance ∷ instances) turns leaves =
    cost_then (counting here instance turns leaves)
    (evaluator.at_next_depth here instance turns leaves) (λ turns result.
    cost_of_each_member counting evaluator here instances turns result.leaves)

-- of a block in its scope: those of its assignments and of its instances, or of the chosen ones of its children
abbrev pub cost_of_block : InstanceCost → Evaluator → Option ChosenCall → StatementTerms → Context → ℕ → ℕ → Cost
cost_of_block counting evaluator chosen statements here turns leaves =
    cost_then (cost_of_each_assignment evaluator.evaluations here (assignments_of statements) turns)
    (each_assignment evaluator.evaluations here (assignments_of statements) turns) (λ turns there.
    cost_of_each_member counting evaluator there (instances_chosen there.env chosen statements) turns leaves)

-- of a body in its scope
abbrev pub cost_of_in_scope : InstanceCost → Evaluator → Context → StatementTerms → ℕ → ℕ → Cost
cost_of_in_scope counting evaluator here statements turns leaves = cost_of_block counting evaluator None statements here turns leaves

-- of a body, in a new scope inside where it stands
abbrev pub cost_of_body : InstanceCost → Evaluator → Context → BodyTerm → ℕ → ℕ → Cost
cost_of_body counting evaluator here body turns leaves =
    cost_of_in_scope counting evaluator (inside_scope here (entered_scope (statements_of_body body) no_activation here.env))
    (statements_of_body body) turns leaves

-- of the end of a step: a turn where it gave no member
abbrev pub cost_of_step_end : List DesignTree → ℕ → Cost
cost_of_step_end [] turns = cost_of_turn turns (λ turns. no_cost)
cost_of_step_end (design ∷ designs) turns = no_cost

-- of the steps of a loop, each by what its own takes
abbrev pub cost_of_each_step : Place → (Val → ℕ → ℕ → Outcome MemberDesigns) → (Val → ℕ → ℕ → Cost) → Vals → ℕ → ℕ → Cost
cost_of_each_step at step count no_vals turns leaves = no_cost
cost_of_each_step at step count (and_val item items) turns leaves =
    cost_then (cost_then (count item turns leaves)
    (step item turns leaves) (λ turns members. cost_of_step_end members.designs turns))
    (counted_step at (step item turns leaves)) (λ turns members.
    cost_of_each_step at step count items turns members.leaves)

-- of the iterations of a loop: those of its body in each, and those of what a variable goes over for each choice of values for
-- the variables before it
abbrev pub cost_of_each_iteration : InstanceCost → Evaluator → Place → List BinderTerm → BodyTerm → Context → ℕ → ℕ → Cost
cost_of_each_iteration counting evaluator at [] body here turns leaves =
    cost_of_turn turns (λ turns. cost_of_body counting evaluator here body turns leaves)
cost_of_each_iteration counting evaluator at (binder ∷ binders) body here turns leaves =
    cost_then (cost_of_expression evaluator.evaluations here binder.values turns)
    (value_at_next_depth (expression_context evaluator.evaluations here) true binder.values turns) (λ turns value.
    cost_where (iterated_values value) (λ items.
    cost_of_each_step at (λ item. each_iteration evaluator at binders body (in_loop here binder.name item))
    (λ item. cost_of_each_iteration counting evaluator at binders body (in_loop here binder.name item)) items turns leaves))

-- of a module's body, by the values of its parameters
abbrev pub cost_of_module_with_values : InstanceCost → Evaluator → SourceModule × Env → Vals → BodyTerm → Context → ℕ → ℕ → Cost
cost_of_module_with_values counting evaluator found values body here turns leaves =
    cost_of_in_scope counting evaluator (inside_scope here (module_scope found.1 found.0 values (statements_of_body body) here.env))
    (statements_of_body found.0.body) turns leaves

-- of a module with its arguments: those of its defaults and of its body
abbrev pub cost_of_module_with_arguments : InstanceCost → Evaluator → SourceModule × Env → Arguments → BodyTerm → Context → ℕ → ℕ
    → Cost
cost_of_module_with_arguments counting evaluator found given body here turns leaves =
    let there = with_bindings here (given.dynamic ++ here.bindings) in
    cost_then (cost_of_each_parameter (cost_within evaluator.evaluations)
    (expression_context evaluator.evaluations (inside_scope there found.1))
    found.0.params given.bound turns)
    (each_parameter (expression_context evaluator.evaluations (inside_scope there found.1)) found.0.params
    given.bound turns)
    (λ turns values. cost_of_module_with_values counting evaluator found values body there turns leaves)

-- of a module of the source, one call deeper
abbrev pub cost_of_module : InstanceCost → Evaluator → Context → SourceModule × Env → Arguments → BodyTerm → ℕ → ℕ → Cost
cost_of_module counting evaluator here found given body turns leaves =
    cost_in_call here.calls_left (λ calls.
    cost_of_turn turns (λ turns.
    cost_of_module_with_arguments counting evaluator found given body (with_calls_left here calls) turns leaves))

-- of the arguments of `echo`
abbrev pub cost_of_each_echo_argument : ExpressionCost → ExpressionContext → ArgTerms → Arguments → ℕ → Cost
cost_of_each_echo_argument counting here no_args given turns = no_cost
cost_of_each_echo_argument counting here (and_named at name expression rest) given turns =
    cost_then (cost_at_next_depth counting here true expression turns)
    (value_at_next_depth here true expression turns) (λ turns value.
    cost_of_each_echo_argument counting here rest given turns)
cost_of_each_echo_argument counting here (and_special at name expression rest) given turns =
    cost_where (destination_of [] 0 given (SpecialArgTerm at name expression)) (λ target.
    cost_then (cost_at_next_depth counting here true expression turns)
    (value_at_next_depth here true expression turns) (λ turns value.
    cost_of_each_echo_argument counting here rest (with_argument given target value) turns))
cost_of_each_echo_argument counting here (and_positional expression rest) given turns =
    cost_then (cost_at_next_depth counting here true expression turns)
    (value_at_next_depth here true expression turns) (λ turns value.
    cost_of_each_echo_argument counting here rest given turns)

-- of the arguments of a built-in module
abbrev pub cost_of_arguments_for : BuiltinModule → ExpressionCost → ExpressionContext → ArgTerms → ℕ → Cost
cost_of_arguments_for Echo counting here args turns = cost_of_each_echo_argument counting here args (no_arguments_of 0) turns
cost_of_arguments_for builtin counting here args turns =
    cost_of_each_argument counting here (parameters_of builtin) 0 args (no_arguments_of (length (parameters_of builtin))) turns

-- of the chosen children of the enclosing call, with the assignments of their body
abbrev pub cost_of_children : InstanceCost → Evaluator → Context → Activation → ChosenCall → ℕ → ℕ → Cost
cost_of_children counting evaluator here no_activation chosen turns leaves = no_cost
cost_of_children counting evaluator here (activation children caller) chosen turns leaves =
    cost_of_block counting evaluator (Some chosen) children (inside_scope here (entered_scope children no_activation caller)) turns
    leaves

-- of a call of `children`, one call deeper
abbrev pub cost_of_chosen_children : InstanceCost → Evaluator → ChosenCall → Context → ℕ → ℕ → Cost
cost_of_chosen_children counting evaluator chosen here turns leaves =
    cost_in_call here.calls_left (λ calls.
    cost_of_children counting evaluator (with_calls_left here calls) (activation_in here.env) chosen turns leaves)

-- of a call of `children` with the turn at its end: where it counted nothing and gave no leaf, seen from where it began
abbrev pub cost_of_counted_children : InstanceCost → Evaluator → Place → ChosenCall → Context → ℕ → ℕ → Cost
cost_of_counted_children counting evaluator at chosen here turns leaves =
    cost_then (cost_of_chosen_children counting evaluator chosen here turns leaves)
    (chosen_children evaluator at chosen here turns leaves) (λ after result.
    if nat_eq after turns && nat_eq result.leaves leaves then cost_of_turn after (λ turns. no_cost) else no_cost)

-- of one leaf more
abbrev pub cost_of_leaf : ℕ → Cost
cost_of_leaf leaves = if nat_lt leaves most_leaves then so_many_counted 1 else no_cost

-- of a hull: its leaf, where there is one
abbrev pub cost_of_hull : Verdict → InstanceDesign → Cost
cost_of_hull verdict result =
    if is_nothing result.design then no_cost else cost_unless_refused verdict (cost_of_leaf result.leaves)

-- of a shape in the plane: its leaf, inside an extrusion
abbrev pub cost_of_flat : Evaluator → Option Extrusion → FlatCall → ℕ → Cost
cost_of_flat evaluator None call leaves = no_cost
cost_of_flat evaluator (Some through) call leaves = cost_unless_refused (evaluator.judge.flat evaluator.unit call)
    (cost_of_leaf leaves)

-- of a call of a built-in module behind its arguments: those of its children or of the enclosing call's, and its leaf
abbrev pub cost_of_effect : InstanceCost → Evaluator → Context → Place → EffectCall → BodyTerm → ℕ → ℕ → Cost
cost_of_effect counting evaluator here at (a_solid call) body turns leaves =
    cost_unless_refused (evaluator.judge.solid evaluator.unit call) (cost_of_leaf leaves)
cost_of_effect counting evaluator here at (a_flat call) body turns leaves = cost_of_flat evaluator here.inside call leaves
cost_of_effect counting evaluator here at (a_move steps) body turns leaves = cost_of_body counting evaluator here body turns leaves
cost_of_effect counting evaluator here at (a_join op) body turns leaves = cost_of_body counting evaluator here body turns leaves
cost_of_effect counting evaluator here at a_hull body turns leaves =
    cost_then (cost_of_body counting evaluator here body turns leaves)
    (body_design evaluator Union here body turns leaves)
    (λ turns result. cost_of_hull (evaluator.judge.hull result.design) result)
cost_of_effect counting evaluator here at (an_extrusion center height) body turns leaves =
    cost_unless_refused (evaluator.judge.height evaluator.unit center height)
    (cost_of_body counting evaluator (inside_extrusion here (record { center = center; height = height })) body turns leaves)
cost_of_effect counting evaluator here at no_geometry body turns leaves = no_cost
cost_of_effect counting evaluator here at (some_children chosen) body turns leaves =
    cost_of_counted_children counting evaluator at chosen here turns leaves

-- of a built-in module with its arguments
abbrev pub cost_of_built_in_with_arguments : InstanceCost → Evaluator → Place → BuiltinModule → Arguments → BodyTerm → Context → ℕ
    → ℕ → Cost
cost_of_built_in_with_arguments counting evaluator at builtin given body here turns leaves =
    let there = with_bindings here (given.dynamic ++ here.bindings) in
    cost_answered (effect_of evaluator.unit (is_some here.inside) (find_in there.bindings (codes "fn")) builtin given.bound)
    (λ effect.
    cost_of_effect counting evaluator there at effect body turns leaves)

-- of a call of a built-in module
abbrev pub cost_of_built_in : InstanceCost → Evaluator → Context → Place → List ArgTerm → BodyTerm → Option BuiltinModule → ℕ → ℕ
    → Cost
cost_of_built_in counting evaluator here at args body None turns leaves = no_cost
cost_of_built_in counting evaluator here at args body (Some builtin) turns leaves =
    cost_then (cost_of_arguments_for builtin (cost_within evaluator.evaluations) (expression_context evaluator.evaluations here)
    (args_from args) turns)
    (arguments_for builtin (expression_context evaluator.evaluations here) (args_from args) turns) (λ turns given.
    cost_of_built_in_with_arguments counting evaluator at builtin given body here turns leaves)

-- of a call of a module
abbrev pub cost_of_module_call : InstanceCost → Evaluator → Context → Place → List ℕ → List ArgTerm → BodyTerm
    → Option (SourceModule × Env) → ℕ → ℕ → Cost
cost_of_module_call counting evaluator here at name args body (Some found) turns leaves =
    cost_then (cost_of_each_argument (cost_within evaluator.evaluations) (expression_context evaluator.evaluations here)
    (parameter_names found.0.params) 0 (args_from args) (no_arguments_of (length found.0.params)) turns)
    (each_argument (expression_context evaluator.evaluations here) (parameter_names found.0.params) 0 (args_from args)
    (no_arguments_of (length found.0.params)) turns) (λ turns given.
    cost_of_module counting evaluator here found given body turns leaves)
cost_of_module_call counting evaluator here at name args body None turns leaves =
    cost_of_built_in counting evaluator here at args body (builtin_module_of name) turns leaves

-- of an instance without its modifiers, but for its own
abbrev pub cost_of_core : InstanceCost → Evaluator → Context → CoreTerm → ℕ → ℕ → Cost
cost_of_core counting evaluator here (IfTerm at test body) turns leaves =
    cost_then (cost_of_expression evaluator.evaluations here test turns)
    (value_at_next_depth (expression_context evaluator.evaluations here) true test turns) (λ turns value.
    if truth_of value then cost_of_body counting evaluator here body turns leaves else no_cost)
cost_of_core counting evaluator here (IfElseTerm at test body other) turns leaves =
    cost_then (cost_of_expression evaluator.evaluations here test turns)
    (value_at_next_depth (expression_context evaluator.evaluations here) true test turns) (λ turns value.
    cost_of_body counting evaluator here (if truth_of value then body else other) turns leaves)
cost_of_core counting evaluator here (ForTerm at binders body) turns leaves =
    cost_of_each_iteration counting evaluator at binders body here turns leaves
cost_of_core counting evaluator here (IntersectionForTerm at binders body) turns leaves =
    cost_of_each_iteration counting evaluator at binders body here turns leaves
cost_of_core counting evaluator here (ModuleCallTerm at name args body) turns leaves =
    cost_of_module_call counting evaluator here at name args body (visible_module here.env name) turns leaves

-- of an instance marked `!`
abbrev pub cost_of_root : InstanceCost → Evaluator → Context → CoreTerm → ℕ → ℕ → Cost
cost_of_root counting evaluator here core turns leaves =
    if here.under_root then cost_of_core counting evaluator here core turns leaves
    else cost_of_core counting evaluator (inside_root here) core turns leaves

-- of an instance, but for its own
abbrev pub cost_of_instance : InstanceCost → Evaluator → InstanceCost
cost_of_instance counting evaluator here instance turns leaves =
    if has_root_modifier instance
    then (if is_some here.inside then no_cost else cost_of_root counting evaluator here (core_of_instance instance) turns leaves)
    else cost_of_core counting evaluator here (core_of_instance instance) turns leaves

-- How many evaluations an instance takes with the given number in one another left, itself one; where none is left it is
-- refused, and that counts too
unfoldable pub cost_of_design_within : LengthUnit → Judge → ℕ → InstanceCost
cost_of_design_within unit judge zero here instance turns leaves = one_evaluation
cost_of_design_within unit judge (suc evaluations) here instance turns leaves =
    and_later one_evaluation (cost_of_instance (cost_of_design_within unit judge evaluations)
    (record { unit = unit; judge = judge; evaluations = evaluations; at_next_depth = design_within unit judge evaluations })
    here instance turns leaves)

-- what the run of a program takes and counts
unfoldable pub cost_of_program : LengthUnit → Judge → Pairs Val → StatementTerms → Cost
cost_of_program unit judge bindings statements =
    cost_of_in_scope (cost_of_design_within unit judge most_evaluations) (evaluator_with unit judge most_evaluations)
    (program_context bindings statements) statements 0 0

-- the run of a program: what its instances give, with the turns and the leaves
unfoldable pub members_of_program : LengthUnit → Judge → Pairs Val → StatementTerms → Outcome MemberDesigns
members_of_program unit judge bindings statements =
    each_in_scope (evaluator_with unit judge most_evaluations) (program_context bindings statements) statements 0 0
