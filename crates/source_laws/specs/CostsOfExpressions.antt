-- What an expression costs: one evaluation for itself and for each expression that is evaluated for it, and the turns that it
-- counts. Each equation of the meaning has one here, and says the values and turns on the way.
use Rattle.std.specs.Prelude.{ℕ, zero, suc, ◌+◌, Bool, true, false, cond, List, [], ◌∷◌, length, Option, Some, None, nat_lt, if◌then◌else◌}
use Rattle.scad_ast.specs.Terms.{Term, NumberTerm, TextTerm, TruthTerm, UndefTerm, ChildCountTerm, SpecialTerm, NameTerm, CallTerm, ParenTerm, ListTerm, RangeTerm, SteppedRangeTerm, PostfixTerm, UnaryTerm, ChainTerm, ChoiceTerm, Terms, no_terms, and_term, ArgTerms, no_args, and_named, and_special, and_positional, NamedTerm, SpecialArgTerm, PositionalTerm, SuffixTerms, no_suffixes, and_index, and_member, LinkTerms, no_links, and_link, ParamTerm, PlainTerm, DefaultTerm}
use Rattle.scad_value.specs.Values.{Val, NumberVal, TruthVal, ListVal, element_count, truth_of}
use Rattle.scad_value.specs.Operators.{binary_of, index_of}
use Rattle.scad_value.specs.Answers.{member_of, wants_right}
use Rattle.scad_scope.specs.Names.{Pairs}
use Rattle.scad_definitions.specs.Arguments.{no_arguments_of, destination_of, with_argument, parameter_names}
use Rattle.scad_definitions.specs.Blocks.{SourceFunction}
use Rattle.scad_builtin.specs.declared.function.Builtin.{Builtin}
use Rattle.scad_builtin.specs.Builtins.{builtin_of, takes_count}
use Rattle.scad_func.specs.Limits.{most_turns}
use Rattle.scad_func.specs.Meaning.{Outcome, Gives, then_with, outcome_of_answer, Env, InnerScope, no_activation, visible_function, ExpressionContext, value_at_next_depth, expression_with_calls_left, in_scope, with_more_bindings, only_values, count_of_terms, BoundArguments, Arguments, each_argument, parameter_value, each_parameter, with_pairs, value_here, value_within}
use Rattle.source_laws.specs.EvaluationCosts.{Cost, and_later, no_cost, one_evaluation, so_many_counted, cost_after, cost_then, cost_where, cost_of_turn, cost_in_call}

-- what an expression one deeper takes: by whether its elements count, the calls that are left, the scope, the dynamic bindings,
-- the expression and the turns so far
abbrev pub ExpressionCost : Type 0
ExpressionCost = Bool → ℕ → Env → Pairs Val → Term → ℕ → Cost

-- the evaluations of what is one deeper, in the same place
abbrev pub cost_at_next_depth : ExpressionCost → ExpressionContext → Bool → Term → ℕ → Cost
cost_at_next_depth counting here counts expression turns =
    counting counts here.calls_left here.env here.bindings expression turns

-- of expressions, from the first on
abbrev pub cost_of_each_value : ExpressionCost → ExpressionContext → Terms → ℕ → Cost
cost_of_each_value counting here no_terms turns = no_cost
cost_of_each_value counting here (and_term expression rest) turns =
    cost_then (cost_at_next_depth counting here true expression turns)
    (value_at_next_depth here true expression turns) (λ turns value. cost_of_each_value counting here rest turns)

-- of the arguments of a call
abbrev pub cost_of_each_argument : ExpressionCost → ExpressionContext → List (List ℕ) → ℕ → ArgTerms → Arguments → ℕ → Cost
cost_of_each_argument counting here names positional no_args given turns = no_cost
cost_of_each_argument counting here names positional (and_named at name expression rest) given turns =
    cost_where (destination_of names positional given (NamedTerm at name expression)) (λ target.
    cost_then (cost_at_next_depth counting here true expression turns)
    (value_at_next_depth here true expression turns) (λ turns value.
    cost_of_each_argument counting here names positional rest (with_argument given target value) turns))
cost_of_each_argument counting here names positional (and_special at name expression rest) given turns =
    cost_where (destination_of names positional given (SpecialArgTerm at name expression)) (λ target.
    cost_then (cost_at_next_depth counting here true expression turns)
    (value_at_next_depth here true expression turns) (λ turns value.
    cost_of_each_argument counting here names positional rest (with_argument given target value) turns))
cost_of_each_argument counting here names positional (and_positional expression rest) given turns =
    cost_where (destination_of names positional given (PositionalTerm expression)) (λ target.
    cost_then (cost_at_next_depth counting here true expression turns)
    (value_at_next_depth here true expression turns) (λ turns value.
    cost_of_each_argument counting here names (positional + 1) rest (with_argument given target value) turns))

-- of a parameter: those of its default where it was given nothing
abbrev pub cost_of_parameter : ExpressionCost → ExpressionContext → ParamTerm → Option Val → ℕ → Cost
cost_of_parameter counting here param (Some value) turns = no_cost
cost_of_parameter counting here (PlainTerm at name) None turns = no_cost
cost_of_parameter counting here (DefaultTerm at name value) None turns = cost_at_next_depth counting here true value turns

-- of parameters, from the first on
abbrev pub cost_of_each_parameter : ExpressionCost → ExpressionContext → List ParamTerm → BoundArguments → ℕ → Cost
cost_of_each_parameter counting here [] bound turns = no_cost
cost_of_each_parameter counting here (param ∷ params) [] turns = no_cost
cost_of_each_parameter counting here (param ∷ params) (bound_argument ∷ bound) turns =
    cost_then (cost_of_parameter counting here param bound_argument turns)
    (parameter_value here param bound_argument turns) (λ turns value.
    cost_of_each_parameter counting here params bound turns)

-- of a function of the source in a call: those of its defaults and of its value
abbrev pub cost_of_function : ExpressionCost → ExpressionContext → SourceFunction → Arguments → ℕ → Cost
cost_of_function counting defining_scope function given turns =
    cost_then (cost_of_each_parameter counting (with_more_bindings defining_scope given.dynamic) function.params given.bound turns)
    (each_parameter (with_more_bindings defining_scope given.dynamic) function.params given.bound turns)
    (λ turns values.
    cost_at_next_depth counting (in_scope (with_more_bindings defining_scope given.dynamic)
    (InnerScope (with_pairs (parameter_names function.params) values []) [] [] no_activation defining_scope.env))
    true function.value turns)

-- of a call of a function of the source, one call deeper
abbrev pub cost_of_function_call : ExpressionCost → ExpressionContext → SourceFunction → Arguments → ℕ → Cost
cost_of_function_call counting defining_scope function given turns =
    cost_in_call defining_scope.calls_left (λ calls.
    cost_of_turn turns (λ turns.
    cost_of_function counting (expression_with_calls_left defining_scope calls) function given turns))

-- of a call of a built-in function: those of its arguments
abbrev pub cost_of_built_in_call : ExpressionCost → ExpressionContext → ArgTerms → ℕ → Option Builtin → Cost
cost_of_built_in_call counting here args turns None = no_cost
cost_of_built_in_call counting here args turns (Some builtin) =
    cost_where (only_values args) (λ expressions.
    if takes_count builtin (count_of_terms expressions) then cost_of_each_value counting here expressions turns else no_cost)

-- of a call: those of its arguments and of its function
abbrev pub cost_of_call : ExpressionCost → ExpressionContext → List ℕ → ArgTerms → ℕ → Option (SourceFunction × Env) → Cost
cost_of_call counting here name args turns (Some found) =
    cost_then (cost_of_each_argument counting here (parameter_names found.0.params) 0 args
    (no_arguments_of (length (parameter_names found.0.params))) turns)
    (each_argument here (parameter_names found.0.params) 0 args
    (no_arguments_of (length (parameter_names found.0.params))) turns) (λ turns given.
    cost_of_function_call counting (in_scope here found.1) found.0 given turns)
cost_of_call counting here name args turns None = cost_of_built_in_call counting here args turns (builtin_of name)

-- of what is evaluated for an expression, without its own; one that is evaluated at the same depth takes its own too
abbrev mutual
  pub cost_inside : ExpressionCost → ExpressionContext → Term → ℕ → Cost
  cost_inside counting here (NumberTerm at n) turns = no_cost
  cost_inside counting here (TextTerm at bytes) turns = no_cost
  cost_inside counting here (TruthTerm at truth) turns = no_cost
  cost_inside counting here (UndefTerm at) turns = no_cost
  cost_inside counting here (ChildCountTerm at) turns = no_cost
  cost_inside counting here (SpecialTerm at name) turns = no_cost
  cost_inside counting here (NameTerm at name) turns = no_cost
  cost_inside counting here (CallTerm at name args) turns =
      cost_of_call counting here name args turns (visible_function here.env name)
  cost_inside counting here (ParenTerm at inner) turns = cost_at_next_depth counting here true inner turns
  cost_inside counting here (ListTerm at items) turns = cost_of_each_value counting here items turns
  cost_inside counting here (RangeTerm at from to) turns =
      cost_then (cost_at_next_depth counting here true from turns)
      (value_at_next_depth here true from turns) (λ turns first. cost_at_next_depth counting here true to turns)
  cost_inside counting here (SteppedRangeTerm at from step to) turns =
      cost_then (cost_at_next_depth counting here true from turns)
      (value_at_next_depth here true from turns) (λ turns first.
      cost_then (cost_at_next_depth counting here true step turns)
      (value_at_next_depth here true step turns) (λ turns by. cost_at_next_depth counting here true to turns))
  cost_inside counting here (PostfixTerm at of rest) turns =
      cost_then (and_later one_evaluation (cost_inside counting here of turns))
      (value_here here of turns) (λ turns value. cost_of_each_suffix counting here value rest turns)
  cost_inside counting here (UnaryTerm at op of) turns = cost_at_next_depth counting here false of turns
  cost_inside counting here (ChainTerm at first rest) turns =
      cost_then (and_later one_evaluation (cost_inside counting here first turns))
      (value_here here first turns) (λ turns value. cost_of_each_link counting here value rest turns)
  cost_inside counting here (ChoiceTerm at test mark one other) turns =
      cost_then (and_later one_evaluation (cost_inside counting here test turns))
      (value_here here test turns) (λ turns value.
      cost_at_next_depth counting here true (cond (truth_of value) one other) turns)

  -- of the indexes behind a value
  pub cost_of_each_suffix : ExpressionCost → ExpressionContext → Val → SuffixTerms → ℕ → Cost
  cost_of_each_suffix counting here value no_suffixes turns = no_cost
  cost_of_each_suffix counting here value (and_index at index rest) turns =
      cost_then (cost_at_next_depth counting here true index turns)
      (value_at_next_depth here true index turns) (λ turns number.
      cost_after (outcome_of_answer (index_of value number) at turns) (λ turns item.
      cost_of_each_suffix counting here item rest turns))
  cost_of_each_suffix counting here value (and_member at name name_at rest) turns =
      cost_where (member_of name) (λ number.
      cost_after (outcome_of_answer (index_of value (NumberVal number)) at turns) (λ turns item.
      cost_of_each_suffix counting here item rest turns))

  -- of the right sides of operators of one level, those that are wanted
  pub cost_of_each_link : ExpressionCost → ExpressionContext → Val → LinkTerms → ℕ → Cost
  cost_of_each_link counting here value no_links turns = no_cost
  cost_of_each_link counting here value (and_link op at right rest) turns =
      cost_then (if wants_right op value then (and_later one_evaluation (cost_inside counting here right turns)) else no_cost)
      (if wants_right op value
      then then_with (value_here here right turns) (λ turns other. outcome_of_answer (binary_of op value other) at turns)
      else Gives turns (TruthVal (truth_of value)))
      (λ turns result. cost_of_each_link counting here result rest turns)

-- the turns of the elements of a list that is given, where they count
abbrev pub elements_counted : Bool → Outcome Val → Cost
elements_counted true (Gives turns (ListVal items)) =
    if nat_lt most_turns (turns + element_count (ListVal items)) then no_cost
    else so_many_counted (element_count (ListVal items))
elements_counted counts outcome = no_cost

-- What an expression takes with the given number of evaluations in one another left, itself one; where none is left it is
-- refused, and that is one too
unfoldable pub cost_within : ℕ → ExpressionCost
cost_within zero counts calls env bindings expression turns = one_evaluation
cost_within (suc n) counts calls env bindings expression turns =
    let here : ExpressionContext = record {
      at_next_depth = value_within n;
      calls_left = calls;
      env = env;
      bindings = bindings;
    } in
    and_later (and_later one_evaluation (cost_inside (cost_within n) here expression turns))
    (elements_counted counts (value_here here expression turns))
