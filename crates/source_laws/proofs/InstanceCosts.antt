-- What the evaluations of instances cost: one lemma for each equation of their count.
use Rattle.std.proofs.Common.{nat_eq, ◌&&◌, ◌≡◌, ◌≤◌, ◌*◌, refl, sym, ℕ, zero, suc, ◌+◌, Bool, true, false, nat_lt, List, [], ◌∷◌, ◌++◌, length, Option, Some, None, if◌then◌else◌, arith, ltb-true}
use Rattle.std.specs.Prelude.{All, IfSome, IfOk, is_some, codes}
use Rattle.std.proofs.lemmas.List.Elements.{All-nil, All-cons, All-head, All-tail, All-filter}
use Rattle.plain_text.specs.declared.place.Place.{Place}
use Rattle.text_place.specs.declared.fault.FaultKind.TheVariants.{TypeMismatch, BadArgument, WrongDimension, NotInProfile, TooManyParts, TooManyTurns}
use Rattle.csg_tree.specs.declared.op.Op.{Op}
use Rattle.csg_tree.specs.declared.op.Op.TheVariants.{Union, Intersection}
use Rattle.plane_predicate.specs.declared.unit.Unit.{Unit as LengthUnit}
use Rattle.primitives.specs.Shapes.{Mesh}
use Rattle.scad_ast.specs.Terms.{BinderTerm, ModifierTerm, StatementTerms, InstanceTerm, AnInstance, CoreTerm, IfTerm, IfElseTerm, ForTerm, IntersectionForTerm, ModuleCallTerm, BodyTerm, ArgTerm, ArgTerms, no_args, and_named, and_special, and_positional, SpecialArgTerm, args_from, place_of_core}
use Rattle.scad_value.specs.Values.{Val, Vals, no_vals, and_val, truth_of}
use Rattle.scad_scope.specs.Names.{Pairs, find_in}
use Rattle.scad_definitions.specs.Arguments.{parameter_names, no_arguments_of, destination_of, with_argument}
use Rattle.scad_definitions.specs.Blocks.{SourceModule, SourceAssignment, assignments_of, statements_of_body}
use Rattle.scad_func.specs.Limits.{most_turns, most_calls, most_evaluations}
use Rattle.scad_func.specs.Meaning.{Outcome, Gives, Faults, then_with, Env, NoScope, InnerScope, Activation, no_activation, activation, visible_module, activation_in, entered_scope, with_value, one_call_fewer, ExpressionContext, value_at_next_depth, BoundArguments, Arguments, each_argument, each_parameter}
use Rattle.scad_modules.specs.declared.table.BuiltinModule.{BuiltinModule}
use Rattle.scad_modules.specs.declared.table.BuiltinModule.TheVariants.{Echo}
use Rattle.scad_modules.specs.Reading.{bound_argument}
use Rattle.scad_modules.specs.Table.{builtin_module_of, parameters_of}
use Rattle.scad_modules.specs.Effects.{EffectCall, a_solid, a_flat, a_move, a_join, a_hull, an_extrusion, no_geometry, some_children, FlatCall, ChosenCall}
use Rattle.scad_modules.specs.Calls.{effect_of}
use Rattle.scad_design.specs.Designs.{DesignTree, a_leaf, moved_design_tree}
use Rattle.scad_meaning.specs.declared.extrusion.Extrusion.{Extrusion}
use Rattle.scad_meaning.specs.Hulls.{is_nothing, hull_mesh}
use Rattle.scad_meaning.specs.Verdicts.{Judge, Verdict, solid_mesh, extrusion_mesh}
use Rattle.scad_meaning.specs.Bodies.{instances_in, evaluated_instances, has_root_modifier, has_no_geometry, is_bare}
use Rattle.scad_meaning.specs.Loops.{iterated_values, chosen_among}
use Rattle.scad_meaning.specs.Meaning.{Context, inside_scope, with_bindings, with_calls_left, inside_root, inside_extrusion, expression_context, InstanceDesign, MemberDesigns, no_design, as_member, and_members, joined_members, moved_design, EvaluatesInstance, Evaluator, assigned_value, with_assignment, each_assignment, core_of_instance, each_member, candidates_of, instances_chosen, block_members, each_in_scope, each_in_body, body_design, turn_after_step, counted_step, each_step, in_loop, each_iteration, loop_design, most_leaves, leaf_design, unless_refused, with_leaf_of, hull_design, module_scope, module_with_values, module_with_arguments, module_design, each_echo_argument, arguments_for, children_design, counted_call, flat_design, effect_design, built_in_with_arguments, built_in_design, call_design, core_design, as_root, root_design, instance_design, design_within, program_context}
use Rattle.scad_meaning.proofs.lemmas.Choosing.{all_chosen, candidates_all}
use Rattle.source_laws.specs.Sizes.{size_of_term, size_of_args, size_of_params, size_of_binders, size_of_statements, size_of_instance, size_of_core, size_of_body, size_of_module, HoldsTextsUpTo, CallHoldsTextsUpTo}
use Rattle.source_laws.specs.EvaluationCosts.{Cost, and_later, no_cost, so_many_counted, cost_then, cost_of_turn, cost_in_call}
use Rattle.source_laws.specs.CostsOfExpressions.{ExpressionCost, cost_at_next_depth, cost_of_each_argument, cost_of_each_parameter, cost_within}
use Rattle.source_laws.specs.CostsOfInstances.{InstanceCost, cost_of_expression, cost_of_assigned, cost_of_each_assignment, cost_of_each_member, cost_of_block, cost_of_in_scope, cost_of_body, cost_of_each_step, cost_of_each_iteration, cost_of_module_with_values, cost_of_module_with_arguments, cost_of_module, cost_of_each_echo_argument, cost_of_arguments_for, cost_of_children, cost_of_effect, cost_of_built_in_with_arguments, cost_of_built_in, cost_of_module_call, cost_of_core, cost_of_root, cost_of_instance, cost_of_design_within, cost_of_step_end, cost_of_counted_children, cost_of_leaf, cost_of_hull, cost_of_flat, cost_unless_refused, cost_of_program, members_of_program}
use Rattle.source_laws.proofs.Costs.{nothing, turn_within, Rate, Costs, let_go, one_more, skip_costs, free_value, option_costs, left_of_bound}
use Rattle.source_laws.proofs.Scopes.{SmallModule, module_found, call_found, variable_held, functions_small, modules_small, entered_small, body_size}
use Rattle.source_laws.proofs.ExpressionCosts.{left_of_given, Sits, value_cost, call_arguments_cost, parameters_cost, expressions_cost}
use Rattle.source_laws.proofs.Payments.{paid_by, paid_up_to, rate_with}
use Rattle.source_laws.proofs.TextSizes.{size_of_instances, size_of_assignments, scope_size, evaluated_size, candidates_size}
use Rattle.source_laws.proofs.ChosenSizes.{ChoosesUpTo, EffectFits, elements_in, effect_fits}
use Rattle.source_laws.proofs.Runs.{Given, design_leaves, member_leaves, always, Runs, run_larger, run_one_more, run_let_go, run_shift, run_then, run_skip, run_map, value_then, value_left, value_skip, run_fault, run_nothing, run_option, run_answered, run_checked, run_test, run_turn, run_later, run_call, run_deeper, run_counted}

-- what a step that gave members has left over: the turn of an iteration
abbrev spare_of_some : ℕ → List DesignTree → ℕ
spare_of_some largest [] = 0
spare_of_some largest (design ∷ designs) = largest

spare_size : (largest : ℕ) (designs : List DesignTree) → spare_of_some largest designs ≤ largest
spare_size largest [] = omega arith
spare_size largest (design ∷ designs) = omega arith

taken_body_size : (b : Bool) (one other : BodyTerm) → size_of_body
    (if b then one else other) ≤ size_of_body one + size_of_body other
taken_body_size true one other = omega arith
taken_body_size false one other = omega arith

scaled : (a b n : ℕ) → a ≤ b → a * n ≤ b * n
scaled a b n h = grind arith

leaf_within : (leaves : ℕ) → nat_lt leaves most_leaves ≡ true → leaves + 1 ≤ most_leaves
leaf_within leaves h = let below = ltb-true leaves most_leaves h in omega arith

module _ (largest : ℕ) where
  -- where the given number of calls are left, and the scope holds nothing larger than the largest body
  abbrev pub Stands : ℕ → Context → Type 0
  Stands calls here = (here.calls_left ≡ calls) × HoldsTextsUpTo largest here.env

  sits : (calls leaves evaluations : ℕ) (here : Context) → Stands calls here
      → Sits (rate_with largest calls leaves) (cost_within evaluations) (expression_context evaluations here)
  sits calls leaves evaluations here s = (expressions_cost (rate_with largest calls leaves) evaluations, s.1)

  -- assignments
  assigned_cost : (calls leaves evaluations : ℕ) (here : Context) → Stands calls here → (a : SourceAssignment) (turns : ℕ)
      → turns ≤ most_turns
      → Costs (rate_with largest calls leaves) nothing turns (suc (size_of_term a.value)) (cost_of_assigned evaluations here a turns)
      (assigned_value evaluations here a turns)
  assigned_cost calls leaves zero here s a turns k =
      (omega arith, λ all e. let more = paid_up_to largest calls (turns + leaves) (all + leaves) (omega arith) in omega arith)
  assigned_cost calls leaves (suc evaluations) here s a turns k =
      one_more (rate_with largest calls leaves) nothing turns (size_of_term a.value)
      (cost_of_expression evaluations here a.value turns)
      (value_at_next_depth (expression_context evaluations here) true a.value turns)
      (value_cost (rate_with largest calls leaves) (cost_within evaluations) (expression_context evaluations here)
      (sits calls leaves evaluations here s) true a.value turns k)

  stands_with : (calls : ℕ) (b : Bool) (one other : Context) → Stands calls one → Stands calls other
      → Stands calls (if b then one else other)
  stands_with calls true one other h g = h
  stands_with calls false one other h g = g

  still_stands : (calls : ℕ) (a : SourceAssignment) (v : Val) (here : Context) → Stands calls here
      → Stands calls (with_assignment a v here)
  still_stands calls a v here s =
      stands_with calls a.special (with_bindings here ((a.name, v) ∷ here.bindings))
      (inside_scope here (with_value a.name v here.env)) s
      (s.0, variable_held largest a.name v here.env s.1)

  assignments_cost : (calls leaves evaluations : ℕ) (here : Context) → Stands calls here
      → (as_ : List SourceAssignment) (turns : ℕ) → turns ≤ most_turns
      → Costs (rate_with largest calls leaves) nothing turns (size_of_assignments as_)
      (cost_of_each_assignment evaluations here as_ turns) (each_assignment evaluations here as_ turns)
  assignments_cost calls leaves evaluations here s [] turns k = free_value (rate_with largest calls leaves) turns 0 k
  assignments_cost calls leaves evaluations here s (a ∷ as_) turns k =
      skip_costs (rate_with largest calls leaves) nothing turns (suc (size_of_term a.value)) (size_of_assignments as_)
      (cost_of_assigned evaluations here a turns) (assigned_value evaluations here a turns) _ _
      (assigned_cost calls leaves evaluations here s a turns k) (λ turns v k.
      assignments_cost calls leaves evaluations (with_assignment a v here) (still_stands calls a v here s) as_ turns k)

  given_after : {A B : Type 0} (P : B → Type 0) (out : Outcome A) (go : ℕ → A → Outcome B)
      → ((turns : ℕ) (x : A) → Given P (go turns x)) → Given P (then_with out go)
  given_after P (Gives turns x) go h = h turns x
  given_after P (Faults kind at) go h = tt

  assignments_stand : (calls evaluations : ℕ) (here : Context) → Stands calls here → (as_ : List SourceAssignment) (turns : ℕ)
      → Given (Stands calls) (each_assignment evaluations here as_ turns)
  assignments_stand calls evaluations here s [] turns = s
  assignments_stand calls evaluations here s (a ∷ as_) turns =
      given_after (Stands calls) (assigned_value evaluations here a turns) _ (λ turns v.
      assignments_stand calls evaluations (with_assignment a v here) (still_stands calls a v here s) as_ turns)

  -- arguments of built-in modules
  echo_cost : (rate : Rate) (counting : ExpressionCost) (here : ExpressionContext) → Sits rate counting here
      → (args : ArgTerms) (given : Arguments) (turns : ℕ) → turns ≤ most_turns
      → Costs rate nothing turns (size_of_args args) (cost_of_each_echo_argument counting here args given turns)
      (each_echo_argument here args given turns)
  echo_cost rate counting here s no_args given turns k = free_value rate turns 0 k
  echo_cost rate counting here s (and_named at name value rest) given turns k =
      skip_costs rate nothing turns (size_of_term value) (size_of_args rest) (cost_at_next_depth counting here true value turns)
      (value_at_next_depth here true value turns) _ _
      (value_cost rate counting here s true value turns k) (λ turns v k. echo_cost rate counting here s rest given turns k)
  echo_cost rate counting here s (and_special at name value rest) given turns k =
      option_costs rate nothing turns (size_of_term value + size_of_args rest)
      (destination_of [] 0 given (SpecialArgTerm at name value)) BadArgument at _ _ k (λ target.
      skip_costs rate nothing turns (size_of_term value) (size_of_args rest) (cost_at_next_depth counting here true value turns)
      (value_at_next_depth here true value turns) _ _
      (value_cost rate counting here s true value turns k) (λ turns v k. echo_cost rate counting here s rest
      (with_argument given target v) turns k))
  echo_cost rate counting here s (and_positional value rest) given turns k =
      skip_costs rate nothing turns (size_of_term value) (size_of_args rest) (cost_at_next_depth counting here true value turns)
      (value_at_next_depth here true value turns) _ _
      (value_cost rate counting here s true value turns k) (λ turns v k. echo_cost rate counting here s rest given turns k)

  -- of a call of the built-in `echo` nothing is left over, and it makes no children
  abbrev left_for : Rate → BuiltinModule → Arguments → ℕ
  left_for rate Echo given = 0
  left_for rate builtin given = left_of_given rate given

  built_in_arguments_cost : (rate : Rate) (builtin : BuiltinModule) (counting : ExpressionCost) (here : ExpressionContext)
      → Sits rate counting here → (args : ArgTerms) (turns : ℕ) → turns ≤ most_turns
      → Costs rate (left_for rate builtin) turns (size_of_args args) (cost_of_arguments_for builtin counting here args turns)
      (arguments_for builtin here args turns)
  built_in_arguments_cost rate Echo counting here s args turns k = echo_cost rate counting here s args (no_arguments_of 0) turns k
  built_in_arguments_cost rate builtin counting here s args turns k =
      call_arguments_cost rate counting here s (parameters_of builtin) (length (parameters_of builtin)) args turns k

  -- instances that are no larger than the largest body
  abbrev pub Small : InstanceTerm → Type 0
  Small i = size_of_instance i ≤ largest

  all_small : (is : List InstanceTerm) → size_of_instances is ≤ largest → All Small is
  all_small [] h = All-nil Small
  all_small (i ∷ is) h = All-cons Small i is (omega arith) (all_small is (omega arith))

  evaluated_small : (statements : StatementTerms) → size_of_statements statements ≤ largest
      → All Small (evaluated_instances statements)
  evaluated_small statements h =
      all_small (evaluated_instances statements) (let all = evaluated_size statements in let size = scope_size statements in
      omega arith)

  chosen_small : (env : Env) (chosen : Option ChosenCall) (statements : StatementTerms) → size_of_statements statements ≤ largest
      → All Small (instances_chosen env chosen statements)
  chosen_small env None statements h = evaluated_small statements h
  chosen_small env (Some chosen) statements h = all_chosen Small (candidates_of env chosen statements) chosen
      (candidates_all Small env chosen statements (evaluated_small statements h))

  -- what is chosen among the instances in the body of a call
  chosen_size : (env : Env) (chosen : ChosenCall) (children : StatementTerms) (over : ℕ) → size_of_statements children ≤ largest
      → ChoosesUpTo over chosen
      → size_of_instances (chosen_among (candidates_of env chosen children) chosen) ≤ size_of_instances
      (instances_in children) + largest * over
  chosen_size env chosen children over small g =
      let some = g (candidates_of env chosen children) in
      let those = candidates_size env chosen children in
      let all = scope_size children in
      let few = scaled (size_of_instances (candidates_of env chosen children)) largest over (omega arith) in omega arith

  -- by a test, where both ways count alike
  run_either : (calls turns leaves size : ℕ) (count : Cost) (b : Bool) (one other : Outcome InstanceDesign)
      → Runs largest design_leaves nothing calls turns leaves size count one
      → Runs largest design_leaves nothing calls turns leaves size count other
      → Runs largest design_leaves nothing calls turns leaves size count (if b then one else other)
  run_either calls turns leaves size count true one other h g = h
  run_either calls turns leaves size count false one other h g = g

  -- how many elements the argument of a call of `children` has
  abbrev chosen_over : BuiltinModule → Arguments → ℕ
  chosen_over Echo given = 0
  chosen_over builtin given = elements_in (bound_argument given.bound 0)

  first_left : (rate : Rate) (bound : BoundArguments) → rate.largest * elements_in
      (bound_argument bound 0) ≤ left_of_bound rate bound
  first_left rate [] = omega arith
  first_left rate (None ∷ bound) = omega arith
  first_left rate (Some v ∷ bound) = omega arith

  over_left : (rate : Rate) (builtin : BuiltinModule) (given : Arguments)
      → rate.largest * chosen_over builtin given ≤ left_for rate builtin given
  over_left rate Echo given = omega arith
  over_left rate builtin given = first_left rate given.bound

  built_in_fits : (unit : LengthUnit) (inside : Bool) (fragments : Option Val) (builtin : BuiltinModule) (given : Arguments)
      → IfOk (effect_of unit inside fragments builtin given.bound) (EffectFits (chosen_over builtin given))
  built_in_fits unit inside fragments Echo given = tt
  built_in_fits unit inside fragments builtin given = effect_fits unit inside fragments builtin given.bound

  -- instances one evaluation deeper
  abbrev pub IsGood : InstanceCost → EvaluatesInstance → Type 0
  IsGood counting at_next_depth = (calls : ℕ) (here : Context) (i : InstanceTerm) (turns leaves : ℕ) → Stands calls here → Small i
      → turns ≤ most_turns → leaves ≤ most_leaves
      → Runs largest design_leaves nothing calls turns leaves (size_of_instance i) (counting here i turns leaves)
      (at_next_depth here i turns leaves)

  -- a leaf
  leaf_by : (calls turns leaves : ℕ) (b : Bool) (at : Place) (mesh : Mesh) → nat_lt leaves most_leaves ≡ b → turns ≤ most_turns
      → leaves ≤ most_leaves
      → Runs largest design_leaves nothing calls turns leaves 0 (if b then so_many_counted 1 else no_cost)
      (if b then Gives turns (record {
        leaves = leaves + 1;
        design = a_leaf
            (record { mesh = mesh; steps = []; at = at });
        root = None;
      })
      else Faults TooManyParts at)
  leaf_by calls turns leaves true at mesh b k l =
      let more = paid_by largest calls (turns + leaves) 1 (turns + (leaves + 1)) (omega arith) in
      let below = leaf_within leaves b in (omega arith, k, omega arith, below, omega arith, omega arith)
  leaf_by calls turns leaves false at mesh b k l = run_fault largest calls turns leaves 0 k l

  leaf_cost : (calls turns leaves : ℕ) (at : Place) (mesh : Mesh) → turns ≤ most_turns → leaves ≤ most_leaves
      → Runs largest design_leaves nothing calls turns leaves 0 (cost_of_leaf leaves) (leaf_design at mesh turns leaves)
  leaf_cost calls turns leaves at mesh k l = leaf_by calls turns leaves (nat_lt leaves most_leaves) at mesh refl k l

  hull_cost : (calls turns : ℕ) (v : Verdict) (at : Place) (m : InstanceDesign) → turns ≤ most_turns → m.leaves ≤ most_leaves
      → Runs largest design_leaves nothing calls turns m.leaves 0 (cost_of_hull v m) (hull_design v at m turns)
  hull_cost calls turns v at m k l =
      let next : Outcome InstanceDesign = then_with (leaf_design at (hull_mesh m.design) turns m.leaves)
      (λ turns leaf. Gives turns (with_leaf_of m leaf)) in
      run_test largest design_leaves nothing calls turns m.leaves 0 (is_nothing m.design) no_cost
      (cost_unless_refused v (cost_of_leaf m.leaves))
      (Gives turns m) (unless_refused v at next) (run_nothing largest calls turns m.leaves 0 k l)
      (run_checked largest design_leaves nothing calls turns m.leaves 0 (cost_of_leaf m.leaves) v at next k l
      (run_map largest design_leaves nothing design_leaves nothing calls turns m.leaves 0 (cost_of_leaf m.leaves)
      (leaf_design at (hull_mesh m.design) turns m.leaves) (λ leaf. with_leaf_of m leaf)
      (λ leaf. (refl, omega arith)) (leaf_cost calls turns m.leaves at (hull_mesh m.design) k l)))

  module _ (unit : LengthUnit) (judge : Judge) where
    module _ (evaluations : ℕ) (counting : InstanceCost) (at_next_depth : EvaluatesInstance)
        (good : IsGood counting at_next_depth) where
      abbrev evaluator : Evaluator
      evaluator = record { unit = unit; judge = judge; evaluations = evaluations; at_next_depth = at_next_depth }

      members_cost : (calls : ℕ) (here : Context) (is : List InstanceTerm) (turns leaves : ℕ) → Stands calls here → All Small is
          → turns ≤ most_turns → leaves ≤ most_leaves
          → Runs largest member_leaves nothing calls turns leaves (size_of_instances is)
          (cost_of_each_member counting evaluator here is turns leaves) (each_member evaluator here is turns leaves)
      members_cost calls here [] turns leaves s h k l = run_nothing largest calls turns leaves 0 k l
      members_cost calls here (i ∷ is) turns leaves s h k l =
          run_skip largest design_leaves member_leaves nothing calls turns leaves (size_of_instance i) (size_of_instances is)
          (counting here i turns leaves) (at_next_depth here i turns leaves) _ _
          (good calls here i turns leaves s (All-head Small i is h) k l) (λ turns m k l.
          run_map largest member_leaves nothing member_leaves nothing calls turns m.leaves (size_of_instances is)
          (cost_of_each_member counting evaluator here is turns m.leaves)
          (each_member evaluator here is turns m.leaves)
          (λ ms. and_members (as_member (if has_no_geometry here.env (core_of_instance i) then false else true) m) ms)
          (λ ms. (refl, omega arith)) (members_cost calls here is turns m.leaves s (All-tail Small i is h) k l))

      block_cost : (calls : ℕ) (chosen : Option ChosenCall) (here : Context) (statements : StatementTerms) (turns leaves over : ℕ)
          → Stands calls here → size_of_statements statements ≤ largest → turns ≤ most_turns → leaves ≤ most_leaves
          → ((env : Env) → size_of_instances (instances_chosen env chosen statements) ≤ size_of_instances
          (instances_in statements) + over)
          → Runs largest member_leaves nothing calls turns leaves (size_of_statements statements + over)
          (cost_of_block counting evaluator chosen statements here turns leaves)
          (block_members evaluator chosen statements here turns leaves)
      block_cost calls chosen here statements turns leaves over s h k l g =
          let assigned = size_of_assignments (assignments_of statements) in
          let standing = size_of_instances (instances_in statements) in
          run_larger largest member_leaves nothing calls turns leaves (assigned + (standing + over))
          (size_of_statements statements + over)
          (cost_of_block counting evaluator chosen statements here turns leaves)
          (block_members evaluator chosen statements here turns leaves)
          (let all = scope_size statements in omega arith)
          (value_then largest (Stands calls) nothing member_leaves nothing calls turns leaves assigned (standing + over)
          (cost_of_each_assignment evaluations here (assignments_of statements) turns) l
          (each_assignment evaluations here (assignments_of statements) turns) _ _
          (assignments_cost calls leaves evaluations here s (assignments_of statements) turns k)
          (assignments_stand calls evaluations here s (assignments_of statements) turns) (λ turns there k p.
          run_larger largest member_leaves nothing calls turns leaves
          (size_of_instances (instances_chosen there.env chosen statements)) ((standing + over) + 0)
          (cost_of_each_member counting evaluator there (instances_chosen there.env chosen statements) turns leaves)
          (each_member evaluator there (instances_chosen there.env chosen statements) turns leaves)
          (let few = g there.env in omega arith)
          (members_cost calls there (instances_chosen there.env chosen statements) turns leaves p
          (chosen_small there.env chosen statements h) k l)))

      scope_cost : (calls : ℕ) (here : Context) (statements : StatementTerms) (turns leaves : ℕ) → Stands calls here
          → size_of_statements statements ≤ largest → turns ≤ most_turns → leaves ≤ most_leaves
          → Runs largest member_leaves nothing calls turns leaves (size_of_statements statements)
          (cost_of_in_scope counting evaluator here statements turns leaves)
          (each_in_scope evaluator here statements turns leaves)
      scope_cost calls here statements turns leaves s h k l =
          run_larger largest member_leaves nothing calls turns leaves (size_of_statements statements + 0)
          (size_of_statements statements)
          (cost_of_in_scope counting evaluator here statements turns leaves) (each_in_scope evaluator here statements turns leaves)
          (omega arith)
          (block_cost calls None here statements turns leaves 0 s h k l (λ env. let all = evaluated_size statements in omega arith))

      body_cost : (calls : ℕ) (op : Op) (here : Context) (body : BodyTerm) (turns leaves : ℕ) → Stands calls here
          → size_of_body body ≤ largest → turns ≤ most_turns → leaves ≤ most_leaves
          → Runs largest design_leaves nothing calls turns leaves (size_of_body body)
          (cost_of_body counting evaluator here body turns leaves) (body_design evaluator op here body turns leaves)
      body_cost calls op here body turns leaves s small k l =
          let there = inside_scope here (entered_scope (statements_of_body body) no_activation here.env) in
          let size = body_size body in
          run_map largest member_leaves nothing design_leaves nothing calls turns leaves (size_of_body body)
          (cost_of_body counting evaluator here body turns leaves)
          (each_in_body evaluator here body turns leaves) (λ ms. joined_members op ms) (λ ms. (refl, omega arith))
          (run_larger largest member_leaves nothing calls turns leaves (size_of_statements (statements_of_body body))
          (size_of_body body)
          (cost_of_body counting evaluator here body turns leaves) (each_in_body evaluator here body turns leaves) size
          (scope_cost calls there (statements_of_body body) turns leaves
          (s.0, entered_small largest (statements_of_body body) no_activation here.env (omega arith) tt s.1) (omega arith) k l))

      -- the iterations of a loop: each counts a turn, at its end at the latest, which pays for what its text says
      abbrev spare : MemberDesigns → ℕ
      spare members = spare_of_some largest members.designs

      step_by : (calls turns leaves after size : ℕ) (taken : Cost) (at : Place) (members : MemberDesigns)
          (designs : List DesignTree)
          → Runs largest member_leaves (always (spare_of_some largest designs)) calls turns leaves size taken (Gives after members)
          → Runs largest member_leaves (always largest) calls turns leaves size (and_later taken (cost_of_step_end designs after))
          (turn_after_step at designs after (λ turns. Gives turns members))
      step_by calls turns leaves after size taken at members (design ∷ designs) h =
          (h.0, h.1, h.2, h.3, let cost = h.4 in omega arith, let same = h.5 in omega arith)
      step_by calls turns leaves after size taken at members [] h = ended_by (nat_lt after most_turns) refl
        where
          ended_by : (b : Bool) → nat_lt after most_turns ≡ b
              → Runs largest member_leaves (always largest) calls turns leaves size
              (and_later taken (if b then and_later (so_many_counted 1) no_cost else no_cost))
              (if b then Gives (after + 1) members else Faults TooManyTurns at)
          ended_by true b =
              let more = paid_by largest calls (after + members.leaves) 1 ((after + 1) + members.leaves) (omega arith) in
              let first = h.0 in let below = turn_within after b in let cost = h.4 in let same = h.5 in
              (omega arith, below, h.2, h.3, omega arith, omega arith)
          ended_by false b =
              let cost = h.4 in let same = h.5 in let first = h.1 in let second = h.3 in
              (omega arith, λ all m. let more = paid_up_to largest calls (after + members.leaves) all (omega arith) in omega arith)

      step_cost : (calls turns leaves size : ℕ) (taken : Cost) (at : Place) (out : Outcome MemberDesigns)
          → Runs largest member_leaves spare calls turns leaves size taken out
          → Runs largest member_leaves (always largest) calls turns leaves size
          (cost_then taken out (λ turns members. cost_of_step_end members.designs turns)) (counted_step at out)
      step_cost calls turns leaves size taken at (Gives after members) h = step_by calls turns leaves after size taken at members
          members.designs h
      step_cost calls turns leaves size taken at (Faults kind place) h =
          (let within = h.0 in omega arith, λ all m. let cost = h.1 all (omega arith) in omega arith)

      module _ (calls : ℕ) (at : Place) (step : Val → ℕ → ℕ → Outcome MemberDesigns) (count : Val → ℕ → ℕ → Cost) (size : ℕ)
          (small : size ≤ largest)
          (each : (v : Val) (turns leaves : ℕ) → turns ≤ most_turns → leaves ≤ most_leaves
          → Runs largest member_leaves spare calls turns leaves size (count v turns leaves) (step v turns leaves)) where
        -- a step and those behind it, which pay for themselves
        steps_more : (v : Val) (vs : Vals) (turns leaves : ℕ) → turns ≤ most_turns → leaves ≤ most_leaves
            → ((turns leaves : ℕ) → turns ≤ most_turns → leaves ≤ most_leaves
            → Runs largest member_leaves (always size) calls turns leaves size (cost_of_each_step at step count vs turns leaves)
            (each_step at step vs turns leaves))
            → Runs largest member_leaves (always largest) calls turns leaves size
            (cost_of_each_step at step count (and_val v vs) turns leaves) (each_step at step (and_val v vs) turns leaves)
        steps_more v vs turns leaves k l rest =
            run_larger largest member_leaves (always largest) calls turns leaves (size + 0) size
            (cost_of_each_step at step count (and_val v vs) turns leaves) (each_step at step (and_val v vs) turns leaves)
            (omega arith)
            (run_then largest member_leaves (always largest) member_leaves (always largest) calls turns leaves size 0
            (cost_then (count v turns leaves) (step v turns leaves) (λ turns members. cost_of_step_end members.designs turns))
            (counted_step at (step v turns leaves)) _ _
            (step_cost calls turns leaves size (count v turns leaves) at (step v turns leaves) (each v turns leaves k l))
            (λ turns members k l.
            run_map largest member_leaves (always largest) member_leaves (always largest) calls turns members.leaves (0 + largest)
            (cost_of_each_step at step count vs turns members.leaves)
            (each_step at step vs turns members.leaves) (λ more. and_members members more) (λ more. (refl, omega arith))
            (run_larger largest member_leaves (always largest) calls turns members.leaves largest (0 + largest)
            (cost_of_each_step at step count vs turns members.leaves)
            (each_step at step vs turns members.leaves) (omega arith)
            (run_shift largest member_leaves calls turns members.leaves size largest
            (cost_of_each_step at step count vs turns members.leaves)
            (each_step at step vs turns members.leaves) small (rest turns members.leaves k l)))))

        steps_even : (vs : Vals) (turns leaves : ℕ) → turns ≤ most_turns → leaves ≤ most_leaves
            → Runs largest member_leaves (always size) calls turns leaves size (cost_of_each_step at step count vs turns leaves)
            (each_step at step vs turns leaves)
        steps_even no_vals turns leaves k l = (omega arith, k, omega arith, l, omega arith, omega arith)
        steps_even (and_val v vs) turns leaves k l =
            run_let_go largest member_leaves (always largest) (always size) calls turns leaves size
            (cost_of_each_step at step count (and_val v vs) turns leaves)
            (each_step at step (and_val v vs) turns leaves) (λ members. small)
            (steps_more v vs turns leaves k l (λ turns leaves k l. steps_even vs turns leaves k l))

        steps_cost : (vs : Vals) (turns leaves : ℕ) → turns ≤ most_turns → leaves ≤ most_leaves
            → Runs largest member_leaves spare calls turns leaves size (cost_of_each_step at step count vs turns leaves)
            (each_step at step vs turns leaves)
        steps_cost no_vals turns leaves k l = run_nothing largest calls turns leaves size k l
        steps_cost (and_val v vs) turns leaves k l =
            run_let_go largest member_leaves (always largest) spare calls turns leaves size
            (cost_of_each_step at step count (and_val v vs) turns leaves)
            (each_step at step (and_val v vs) turns leaves) (λ members. spare_size largest members.designs)
            (steps_more v vs turns leaves k l (λ turns leaves k l. steps_even vs turns leaves k l))

      iterations_cost : (calls : ℕ) (at : Place) (binders : List BinderTerm) (body : BodyTerm) (here : Context) (turns leaves : ℕ)
          → Stands calls here
          → size_of_binders binders + size_of_body body ≤ largest → turns ≤ most_turns → leaves ≤ most_leaves
          → Runs largest member_leaves spare calls turns leaves (size_of_binders binders + size_of_body body)
          (cost_of_each_iteration counting evaluator at binders body here turns leaves)
          (each_iteration evaluator at binders body here turns leaves)
      iterations_cost calls at [] body here turns leaves s small k l =
          run_turn largest member_leaves spare calls turns leaves (0 + size_of_body body) at
          (λ turns. cost_of_body counting evaluator here body turns leaves)
          (λ turns. then_with (body_design evaluator Union here body turns leaves)
          (λ turns result. Gives turns (as_member true result))) k l (λ below.
          let counted = cost_of_body counting evaluator here body (turns + 1) leaves in
          let out = body_design evaluator Union here body (turns + 1) leaves in
          let member : Outcome MemberDesigns = then_with out (λ turns result. Gives turns (as_member true result)) in
          run_let_go largest member_leaves (always largest) spare calls turns leaves (0 + size_of_body body)
          (and_later (so_many_counted 1) counted) member (λ members. spare_size largest members.designs)
          (run_later largest member_leaves calls turns leaves (0 + size_of_body body) counted member
          (run_map largest design_leaves nothing member_leaves nothing calls (turns + 1) leaves (0 + size_of_body body) counted out
          (λ result. as_member true result) (λ result. (refl, omega arith))
          (run_larger largest design_leaves nothing calls (turns + 1) leaves (size_of_body body)
          (0 + size_of_body body) counted out (omega arith)
          (body_cost calls Union here body (turns + 1) leaves s (omega arith) below l)))))
      iterations_cost calls at (binder ∷ binders) body here turns leaves s small k l =
          let size = size_of_binders binders + size_of_body body in
          let context = expression_context evaluations here in
          let deeper = λ (item : Val). each_iteration evaluator at binders body (in_loop here binder.name item) in
          let counted = λ (item : Val). cost_of_each_iteration counting evaluator at binders body (in_loop here binder.name item) in
          run_larger largest member_leaves spare calls turns leaves (size_of_term binder.values + size)
          ((size_of_term binder.values + size_of_binders binders) + size_of_body body)
          (cost_of_each_iteration counting evaluator at (binder ∷ binders) body here turns leaves)
          (each_iteration evaluator at (binder ∷ binders) body here turns leaves) (omega arith)
          (value_skip largest member_leaves spare calls turns leaves (size_of_term binder.values) size
          (cost_of_expression evaluations here binder.values turns) l
          (value_at_next_depth context true binder.values turns) _ _
          (value_cost (rate_with largest calls leaves) (cost_within evaluations) context
          (sits calls leaves evaluations here s) true binder.values turns k) (λ turns v k.
          run_option largest member_leaves spare calls turns leaves size (iterated_values v) TypeMismatch at _ _ k l (λ items.
          steps_cost calls at deeper counted size (omega arith) (λ item turns leaves k l.
          iterations_cost calls at binders body (in_loop here binder.name item) turns leaves (s.0, (tt, tt, tt, s.1))
          (omega arith) k l) items turns leaves k l)))

      loop_cost : (calls : ℕ) (op : Op) (here : Context) (at : Place) (binders : List BinderTerm) (body : BodyTerm)
          (turns leaves : ℕ) → Stands calls here
          → size_of_binders binders + size_of_body body ≤ largest → turns ≤ most_turns → leaves ≤ most_leaves
          → Runs largest design_leaves nothing calls turns leaves (size_of_binders binders + size_of_body body)
          (cost_of_each_iteration counting evaluator at binders body here turns leaves)
          (loop_design evaluator op here at binders body turns leaves)
      loop_cost calls op here at binders body turns leaves s small k l =
          run_map largest member_leaves spare design_leaves nothing calls turns leaves (size_of_binders binders + size_of_body body)
          (cost_of_each_iteration counting evaluator at binders body here turns leaves)
          (each_iteration evaluator at binders body here turns leaves)
          (λ members. joined_members op members) (λ members. (refl, omega arith))
          (iterations_cost calls at binders body here turns leaves s small k l)

      -- modules of the source
      module_values_cost : (calls : ℕ) (found : SourceModule × Env) (values : Vals) (body : BodyTerm) (here : Context)
          (turns leaves : ℕ) → Stands calls here
          → SmallModule largest found.0 → HoldsTextsUpTo largest found.1 → size_of_body body ≤ largest → turns ≤ most_turns
          → leaves ≤ most_leaves
          → Runs largest design_leaves nothing calls turns leaves (size_of_body found.0.body)
          (cost_of_module_with_values counting evaluator found values body here turns leaves)
          (module_with_values evaluator found values body here turns leaves)
      module_values_cost calls found values body here turns leaves s m o small k l =
          let inner = inside_scope here (module_scope found.1 found.0 values (statements_of_body body) here.env) in
          let own = statements_of_body found.0.body in
          let size = body_size found.0.body in
          let children = body_size body in
          run_map largest member_leaves nothing design_leaves nothing calls turns leaves (size_of_body found.0.body)
          (cost_of_module_with_values counting evaluator found values body here turns leaves)
          (each_in_scope evaluator inner own turns leaves)
          (λ members. joined_members Union members) (λ members. (refl, omega arith))
          (run_larger largest member_leaves nothing calls turns leaves (size_of_statements own) (size_of_body found.0.body)
          (cost_of_module_with_values counting evaluator found values body here turns leaves)
          (each_in_scope evaluator inner own turns leaves) size
          (scope_cost calls inner own turns leaves
          (s.0, (functions_small largest own (omega arith), modules_small largest own (omega arith), (omega arith, s.1), o))
          (omega arith) k l))

      module_arguments_cost : (calls : ℕ) (found : SourceModule × Env) (given : Arguments) (body : BodyTerm) (here : Context)
          (turns leaves : ℕ) → Stands calls here
          → SmallModule largest found.0 → HoldsTextsUpTo largest found.1 → size_of_body body ≤ largest → turns ≤ most_turns
          → leaves ≤ most_leaves
          → Runs largest design_leaves nothing calls turns leaves (size_of_module found.0)
          (cost_of_module_with_arguments counting evaluator found given body here turns leaves)
          (module_with_arguments evaluator found given body here turns leaves)
      module_arguments_cost calls found given body here turns leaves s m o small k l =
          let there = with_bindings here (given.dynamic ++ here.bindings) in
          let context = expression_context evaluations (inside_scope there found.1) in
          value_skip largest design_leaves nothing calls turns leaves (size_of_params found.0.params) (size_of_body found.0.body)
          (cost_of_each_parameter (cost_within evaluations) context found.0.params given.bound turns) l
          (each_parameter context found.0.params given.bound turns) _ _
          (parameters_cost (rate_with largest calls leaves) (cost_within evaluations) context
          (sits calls leaves evaluations (inside_scope there found.1) (s.0, o)) found.0.params given.bound turns k)
          (λ turns values k. module_values_cost calls found values body there turns leaves s m o small k l)

      module_cost : (calls : ℕ) (here : Context) (at : Place) (found : SourceModule × Env) (given : Arguments) (body : BodyTerm)
          (turns leaves : ℕ) → Stands calls here
          → SmallModule largest found.0 → HoldsTextsUpTo largest found.1 → size_of_body body ≤ largest → turns ≤ most_turns
          → leaves ≤ most_leaves
          → Runs largest design_leaves nothing calls turns leaves 0
          (cost_of_module counting evaluator here found given body turns leaves)
          (module_design evaluator here at found given body turns leaves)
      module_cost calls here at found given body turns leaves s m o small k l =
          run_call largest design_leaves nothing calls turns leaves 0 here.calls_left at _ _ s.0 k l (λ n e.
          run_turn largest design_leaves nothing calls turns leaves 0 at
          (λ turns. cost_of_module_with_arguments counting evaluator found given body (with_calls_left here n) turns leaves)
          (λ turns. module_with_arguments evaluator found given body (with_calls_left here n) turns leaves) k l (λ below.
          let counted = cost_of_module_with_arguments counting evaluator found given body (with_calls_left here n)
          (turns + 1) leaves in
          let out = module_with_arguments evaluator found given body (with_calls_left here n) (turns + 1) leaves in
          run_deeper largest design_leaves n calls turns leaves 0 counted out e k l
          (run_larger largest design_leaves nothing n (turns + 1) leaves (size_of_module found.0) (0 + largest) counted out
          (omega arith)
          (module_arguments_cost n found given body (with_calls_left here n) (turns + 1) leaves (refl, s.1) m o small below l))))

      -- calls of `children`
      children_cost : (calls : ℕ) (here : Context) (call : Activation) (chosen : ChosenCall) (turns leaves over : ℕ)
          → here.calls_left ≡ calls → CallHoldsTextsUpTo largest call
          → ChoosesUpTo over chosen → turns ≤ most_turns → leaves ≤ most_leaves
          → Runs largest design_leaves nothing calls turns leaves (largest * over + largest)
          (cost_of_children counting evaluator here call chosen turns leaves)
          (children_design evaluator here call chosen turns leaves)
      children_cost calls here no_activation chosen turns leaves over e c g k l = run_nothing largest calls turns leaves
          (largest * over + largest) k l
      children_cost calls here (activation children caller) chosen turns leaves over e c g k l =
          let there = inside_scope here (entered_scope children no_activation caller) in
          let counted = cost_of_block counting evaluator (Some chosen) children there turns leaves in
          let out = block_members evaluator (Some chosen) children there turns leaves in
          let small = c.0 in
          run_map largest member_leaves nothing design_leaves nothing calls turns leaves (largest * over + largest) counted out
          (λ members. joined_members Union members) (λ members. (refl, omega arith))
          (run_larger largest member_leaves nothing calls turns leaves (size_of_statements children + largest * over)
          (largest * over + largest) counted out (omega arith)
          (block_cost calls (Some chosen) there children turns leaves (largest * over)
          (e, entered_small largest children no_activation caller small tt c.1) small k l
          (λ env. chosen_size env chosen children over small g)))

      counted_call_cost : (calls turns leaves size there : ℕ) (at : Place) (counted : ℕ → Cost) (go : ℕ → Outcome InstanceDesign)
          → there ≡ calls → turns ≤ most_turns → leaves ≤ most_leaves
          → ((n : ℕ) → calls ≡ suc n → Runs largest design_leaves nothing n turns leaves (size + largest) (counted n) (go n))
          → Runs largest design_leaves nothing calls turns leaves size
          (cost_then (cost_in_call there counted) (one_call_fewer there at go) (λ after result.
          if nat_eq after turns && nat_eq result.leaves leaves then cost_of_turn after (λ turns. no_cost) else no_cost))
          (counted_call at turns leaves (one_call_fewer there at go))
      counted_call_cost calls turns leaves size zero at counted go e k l g = run_fault largest calls turns leaves size k l
      counted_call_cost calls turns leaves size (suc n) at counted go e k l g = run_counted largest n calls turns leaves size
          (counted n) at (go n) (sym e) k l (g n (sym e))

      -- calls of built-in modules
      flat_cost : (calls turns leaves : ℕ) (inside : Option Extrusion) (at : Place) (call : FlatCall) → turns ≤ most_turns
          → leaves ≤ most_leaves
          → Runs largest design_leaves nothing calls turns leaves 0 (cost_of_flat evaluator inside call leaves)
          (flat_design evaluator inside at call turns leaves)
      flat_cost calls turns leaves None at call k l = run_fault largest calls turns leaves 0 k l
      flat_cost calls turns leaves (Some through) at call k l =
          run_checked largest design_leaves nothing calls turns leaves 0 (cost_of_leaf leaves) (judge.flat unit call) at
          (leaf_design at (extrusion_mesh unit through call) turns leaves) k l
          (leaf_cost calls turns leaves at (extrusion_mesh unit through call) k l)

      with_over : (calls : ℕ) (op : Op) (here : Context) (body : BodyTerm) (turns leaves over : ℕ) → Stands calls here
          → size_of_body body ≤ largest → turns ≤ most_turns → leaves ≤ most_leaves
          → Runs largest design_leaves nothing calls turns leaves (size_of_body body + largest * over)
          (cost_of_body counting evaluator here body turns leaves) (body_design evaluator op here body turns leaves)
      with_over calls op here body turns leaves over s small k l =
          run_larger largest design_leaves nothing calls turns leaves (size_of_body body) (size_of_body body + largest * over)
          (cost_of_body counting evaluator here body turns leaves)
          (body_design evaluator op here body turns leaves) (omega arith) (body_cost calls op here body turns leaves s small k l)

      effect_cost : (calls : ℕ) (here : Context) (at : Place) (effect : EffectCall) (body : BodyTerm) (turns leaves over : ℕ)
          → Stands calls here
          → EffectFits over effect → size_of_body body ≤ largest → turns ≤ most_turns → leaves ≤ most_leaves
          → Runs largest design_leaves nothing calls turns leaves (size_of_body body + largest * over)
          (cost_of_effect counting evaluator here at effect body turns leaves)
          (effect_design evaluator here at effect body turns leaves)
      effect_cost calls here at (a_solid call) body turns leaves over s fits small k l =
          run_larger largest design_leaves nothing calls turns leaves 0 (size_of_body body + largest * over)
          (cost_of_effect counting evaluator here at (a_solid call) body turns leaves)
          (effect_design evaluator here at (a_solid call) body turns leaves) (omega arith)
          (run_checked largest design_leaves nothing calls turns leaves 0 (cost_of_leaf leaves) (judge.solid unit call) at
          (leaf_design at (solid_mesh unit call) turns leaves) k l
          (leaf_cost calls turns leaves at (solid_mesh unit call) k l))
      effect_cost calls here at (a_flat call) body turns leaves over s fits small k l =
          run_larger largest design_leaves nothing calls turns leaves 0 (size_of_body body + largest * over)
          (cost_of_flat evaluator here.inside call leaves)
          (flat_design evaluator here.inside at call turns leaves) (omega arith)
          (flat_cost calls turns leaves here.inside at call k l)
      effect_cost calls here at (a_move steps) body turns leaves over s fits small k l =
          run_map largest design_leaves nothing design_leaves nothing calls turns leaves (size_of_body body + largest * over)
          (cost_of_body counting evaluator here body turns leaves)
          (body_design evaluator Union here body turns leaves) (λ result. moved_design (moved_design_tree steps) result)
          (λ result. (refl, omega arith))
          (with_over calls Union here body turns leaves over s small k l)
      effect_cost calls here at (a_join op) body turns leaves over s fits small k l = with_over calls op here body turns leaves
          over s small k l
      effect_cost calls here at a_hull body turns leaves over s fits small k l =
          run_larger largest design_leaves nothing calls turns leaves ((size_of_body body + largest * over) + 0)
          (size_of_body body + largest * over)
          (cost_of_effect counting evaluator here at a_hull body turns leaves)
          (effect_design evaluator here at a_hull body turns leaves) (omega arith)
          (run_skip largest design_leaves design_leaves nothing calls turns leaves (size_of_body body + largest * over) 0
          (cost_of_body counting evaluator here body turns leaves)
          (body_design evaluator Union here body turns leaves) _ _ (with_over calls Union here body turns leaves over s small k l)
          (λ turns result k l.
          hull_cost calls turns (judge.hull result.design) at result k l))
      effect_cost calls here at (an_extrusion center height) body turns leaves over s fits small k l =
          let there = inside_extrusion here (record { center = center; height = height }) in
          run_checked largest design_leaves nothing calls turns leaves (size_of_body body + largest * over)
          (cost_of_body counting evaluator there body turns leaves)
          (judge.height unit center height) at (body_design evaluator Union there body turns leaves) k l
          (with_over calls Union there body turns leaves over s small k l)
      effect_cost calls here at no_geometry body turns leaves over s fits small k l =
          run_either calls turns leaves (size_of_body body + largest * over) no_cost (is_bare body)
          (Gives turns (no_design leaves)) (Faults NotInProfile at)
          (run_nothing largest calls turns leaves (size_of_body body + largest * over) k l)
          (run_fault largest calls turns leaves (size_of_body body + largest * over) k l)
      effect_cost calls here at (some_children chosen) body turns leaves over s fits small k l =
          run_larger largest design_leaves nothing calls turns leaves (largest * over) (size_of_body body + largest * over)
          (cost_of_counted_children counting evaluator at chosen here turns leaves)
          (effect_design evaluator here at (some_children chosen) body turns leaves) (omega arith)
          (counted_call_cost calls turns leaves (largest * over) here.calls_left at
          (λ n. cost_of_children counting evaluator (with_calls_left here n) (activation_in here.env) chosen turns leaves)
          (λ n. children_design evaluator (with_calls_left here n) (activation_in here.env) chosen turns leaves) s.0 k l (λ n e.
          children_cost n (with_calls_left here n) (activation_in here.env) chosen turns leaves over refl
          (call_found largest here.env s.1) fits k l))

      built_in_cost : (calls : ℕ) (here : Context) (at : Place) (name : List ℕ) (args : List ArgTerm) (body : BodyTerm)
          (found : Option BuiltinModule) (turns leaves : ℕ) → Stands calls here
          → size_of_body body ≤ largest → turns ≤ most_turns → leaves ≤ most_leaves
          → Runs largest design_leaves nothing calls turns leaves (size_of_args (args_from args) + size_of_body body)
          (cost_of_built_in counting evaluator here at args body found turns leaves)
          (built_in_design evaluator here at name args body found turns leaves)
      built_in_cost calls here at name args body None turns leaves s small k l =
          run_fault largest calls turns leaves (size_of_args (args_from args) + size_of_body body) k l
      built_in_cost calls here at name args body (Some builtin) turns leaves s small k l =
          let rate = rate_with largest calls leaves in
          let context = expression_context evaluations here in
          value_left largest (left_for rate builtin) design_leaves nothing calls turns leaves (size_of_args (args_from args))
          (size_of_body body)
          (cost_of_arguments_for builtin (cost_within evaluations) context (args_from args) turns) l
          (arguments_for builtin context (args_from args) turns) _ _
          (built_in_arguments_cost rate builtin (cost_within evaluations) context (sits calls leaves evaluations here s)
          (args_from args) turns k) (λ turns given k.
          let there = with_bindings here (given.dynamic ++ here.bindings) in
          let counted = cost_of_built_in_with_arguments counting evaluator at builtin given body here turns leaves in
          let out = built_in_with_arguments evaluator at builtin given body here turns leaves in
          run_larger largest design_leaves nothing calls turns leaves (size_of_body body + largest * chosen_over builtin given)
          (size_of_body body + left_for rate builtin given) counted out
          (let enough = over_left rate builtin given in omega arith)
          (run_answered largest (EffectFits (chosen_over builtin given)) design_leaves nothing calls turns leaves
          (size_of_body body + largest * chosen_over builtin given)
          (effect_of unit (is_some here.inside) (find_in there.bindings (codes "fn")) builtin given.bound) at _ _ k l
          (built_in_fits unit (is_some here.inside) (find_in there.bindings (codes "fn")) builtin given) (λ effect fits.
          effect_cost calls there at effect body turns leaves (chosen_over builtin given) s fits small k l)))

      called_cost : (calls : ℕ) (here : Context) (at : Place) (name : List ℕ) (args : List ArgTerm) (body : BodyTerm)
          (found : Option (SourceModule × Env)) (turns leaves : ℕ) → Stands calls here
          → IfSome found (λ f. SmallModule largest f.0 × HoldsTextsUpTo largest f.1) → size_of_body body ≤ largest → turns ≤ most_turns
          → leaves ≤ most_leaves
          → Runs largest design_leaves nothing calls turns leaves (size_of_args (args_from args) + size_of_body body)
          (cost_of_module_call counting evaluator here at name args body found turns leaves)
          (call_design evaluator here at name args body found turns leaves)
      called_cost calls here at name args body None turns leaves s f small k l = built_in_cost calls here at name args body
          (builtin_module_of name) turns leaves s small k l
      called_cost calls here at name args body (Some found) turns leaves s f small k l =
          let rate = rate_with largest calls leaves in
          let context = expression_context evaluations here in
          let names = parameter_names found.0.params in
          let given = no_arguments_of (length found.0.params) in
          let counted = cost_of_each_argument (cost_within evaluations) context names 0 (args_from args) given turns in
          let out = each_argument context names 0 (args_from args) given turns in
          run_larger largest design_leaves nothing calls turns leaves (size_of_args (args_from args) + 0)
          (size_of_args (args_from args) + size_of_body body)
          (cost_of_module_call counting evaluator here at name args body (Some found) turns leaves)
          (call_design evaluator here at name args body (Some found) turns leaves) (omega arith)
          (value_skip largest design_leaves nothing calls turns leaves (size_of_args (args_from args)) 0 counted l out _ _
          (let_go rate (left_of_given rate) turns (size_of_args (args_from args)) counted out
          (call_arguments_cost rate (cost_within evaluations) context (sits calls leaves evaluations here s) names
          (length found.0.params) (args_from args) turns k)) (λ turns given k.
          module_cost calls here at found given body turns leaves s f.0 f.1 small k l))

      core_cost : (calls : ℕ) (here : Context) (core : CoreTerm) (turns leaves : ℕ) → Stands calls here
          → size_of_core core ≤ largest → turns ≤ most_turns → leaves ≤ most_leaves
          → Runs largest design_leaves nothing calls turns leaves (size_of_core core)
          (cost_of_core counting evaluator here core turns leaves) (core_design evaluator here core turns leaves)
      core_cost calls here (IfTerm at test body) turns leaves s small k l =
          let context = expression_context evaluations here in
          value_skip largest design_leaves nothing calls turns leaves (size_of_term test) (size_of_body body)
          (cost_of_expression evaluations here test turns) l
          (value_at_next_depth context true test turns) _ _
          (value_cost (rate_with largest calls leaves) (cost_within evaluations) context
          (sits calls leaves evaluations here s) true test turns k) (λ turns v k.
          run_test largest design_leaves nothing calls turns leaves (size_of_body body) (truth_of v)
          (cost_of_body counting evaluator here body turns leaves) no_cost
          (body_design evaluator Union here body turns leaves) (Gives turns (no_design leaves))
          (body_cost calls Union here body turns leaves s (omega arith) k l)
          (run_nothing largest calls turns leaves (size_of_body body) k l))
      core_cost calls here (IfElseTerm at test body other) turns leaves s small k l =
          let context = expression_context evaluations here in
          value_skip largest design_leaves nothing calls turns leaves (size_of_term test) (size_of_body body + size_of_body other)
          (cost_of_expression evaluations here test turns) l
          (value_at_next_depth context true test turns) _ _
          (value_cost (rate_with largest calls leaves) (cost_within evaluations) context
          (sits calls leaves evaluations here s) true test turns k) (λ turns v k.
          let taken = if truth_of v then body else other in
          let size = taken_body_size (truth_of v) body other in
          run_larger largest design_leaves nothing calls turns leaves (size_of_body taken) (size_of_body body + size_of_body other)
          (cost_of_body counting evaluator here taken turns leaves)
          (body_design evaluator Union here taken turns leaves) size
          (body_cost calls Union here taken turns leaves s (omega arith) k l))
      core_cost calls here (ForTerm at binders body) turns leaves s small k l = loop_cost calls Union here at binders body turns
          leaves s small k l
      core_cost calls here (IntersectionForTerm at binders body) turns leaves s small k l = loop_cost calls Intersection here at
          binders body turns leaves s small k l
      core_cost calls here (ModuleCallTerm at name args body) turns leaves s small k l =
          called_cost calls here at name args body (visible_module here.env name) turns leaves s
          (module_found largest here.env name s.1) (omega arith) k l

      root_cost : (calls : ℕ) (here : Context) (core : CoreTerm) (turns leaves : ℕ) → Stands calls here
          → size_of_core core ≤ largest → turns ≤ most_turns → leaves ≤ most_leaves
          → Runs largest design_leaves nothing calls turns leaves (size_of_core core)
          (cost_of_root counting evaluator here core turns leaves) (root_design evaluator here core turns leaves)
      root_cost calls here core turns leaves s small k l =
          run_test largest design_leaves nothing calls turns leaves (size_of_core core) here.under_root
          (cost_of_core counting evaluator here core turns leaves)
          (cost_of_core counting evaluator (inside_root here) core turns leaves) (core_design evaluator here core turns leaves)
          (then_with (core_design evaluator (inside_root here) core turns leaves) (λ turns result. Gives turns (as_root result)))
          (core_cost calls here core turns leaves s small k l)
          (run_map largest design_leaves nothing design_leaves nothing calls turns leaves (size_of_core core)
          (cost_of_core counting evaluator (inside_root here) core turns leaves)
          (core_design evaluator (inside_root here) core turns leaves) (λ result. as_root result) (λ result. (refl, omega arith))
          (core_cost calls (inside_root here) core turns leaves s small k l))

      instance_cost : (calls : ℕ) (here : Context) (at : Place) (modifiers : List ModifierTerm) (core : CoreTerm) (turns leaves : ℕ)
          → Stands calls here → size_of_core core ≤ largest
          → turns ≤ most_turns → leaves ≤ most_leaves
          → Runs largest design_leaves nothing calls turns leaves (size_of_core core)
          (cost_of_instance counting evaluator here (AnInstance at modifiers core) turns leaves)
          (instance_design evaluator here (AnInstance at modifiers core) turns leaves)
      instance_cost calls here at modifiers core turns leaves s small k l =
          run_test largest design_leaves nothing calls turns leaves (size_of_core core)
          (has_root_modifier (AnInstance at modifiers core))
          (if is_some here.inside then no_cost else cost_of_root counting evaluator here core turns leaves)
          (cost_of_core counting evaluator here core turns leaves)
          (if is_some here.inside then Faults WrongDimension
          (place_of_core core) else root_design evaluator here core turns leaves) (core_design evaluator here core turns leaves)
          (run_test largest design_leaves nothing calls turns leaves (size_of_core core) (is_some here.inside) no_cost
          (cost_of_root counting evaluator here core turns leaves)
          (Faults WrongDimension (place_of_core core)) (root_design evaluator here core turns leaves)
          (run_fault largest calls turns leaves (size_of_core core) k l) (root_cost calls here core turns leaves s small k l))
          (core_cost calls here core turns leaves s small k l)

    instances_cost : (evaluations : ℕ) → IsGood (cost_of_design_within unit judge evaluations) (design_within unit judge evaluations)
    unfolding cost_of_design_within design_within
    instances_cost zero calls here (AnInstance at modifiers core) turns leaves s small k l =
        (omega arith, λ all m. let more = paid_up_to largest calls (turns + leaves) all (omega arith) in omega arith)
    instances_cost (suc evaluations) calls here (AnInstance at modifiers core) turns leaves s small k l =
        let made : Evaluator = record {
          unit = unit;
          judge = judge;
          evaluations = evaluations;
          at_next_depth = design_within unit
              judge evaluations;
        } in
        run_one_more largest design_leaves nothing calls turns leaves (size_of_core core)
        (cost_of_instance (cost_of_design_within unit judge evaluations) made here (AnInstance at modifiers core) turns leaves)
        (instance_design made here (AnInstance at modifiers core) turns leaves)
        (instance_cost evaluations (cost_of_design_within unit judge evaluations) (design_within unit judge evaluations)
        (instances_cost evaluations)
        calls here at modifiers core turns leaves s (omega arith) k l)

    -- the instances of a program
    pub program_cost : (bindings : Pairs Val) (statements : StatementTerms) → size_of_statements statements ≤ largest
        → Runs largest member_leaves nothing most_calls 0 0 (size_of_statements statements)
        (cost_of_program unit judge bindings statements) (members_of_program unit judge bindings statements)
    unfolding cost_of_program members_of_program
    program_cost bindings statements small =
        scope_cost most_evaluations (cost_of_design_within unit judge most_evaluations) (design_within unit judge most_evaluations)
        (instances_cost most_evaluations)
        most_calls (program_context bindings statements) statements 0 0 (
          refl,
          entered_small largest statements no_activation (InnerScope [] [] [] no_activation NoScope) small tt
              (tt, tt, tt, tt),
        ) small (omega arith) (omega arith)
