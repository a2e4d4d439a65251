-- What the evaluations of expressions cost: one lemma for each equation of their count.
use Rattle.std.proofs.Common.{◌≡◌, ◌≤◌, ℕ, zero, suc, ◌+◌, Bool, true, false, cond, List, [], ◌∷◌, length, Option, Some, None, Ok, if◌then◌else◌, arith, replicate}
use Rattle.std.specs.Prelude.{IfSome}
use Rattle.plain_text.specs.declared.place.Place.{Place}
use Rattle.text_place.specs.declared.fault.FaultKind.TheVariants.{UnknownName, BadArgument, NotInProfile}
use Rattle.scad_ast.specs.Terms.{Term, NumberTerm, TextTerm, TruthTerm, UndefTerm, ChildCountTerm, SpecialTerm, NameTerm, CallTerm, ParenTerm, ListTerm, RangeTerm, SteppedRangeTerm, PostfixTerm, UnaryTerm, ChainTerm, ChoiceTerm, Terms, no_terms, and_term, ArgTerms, no_args, and_named, and_special, and_positional, NamedTerm, SpecialArgTerm, PositionalTerm, SuffixTerms, no_suffixes, and_index, and_member, LinkTerms, no_links, and_link, ParamTerm, PlainTerm, DefaultTerm, place_of_term}
use Rattle.scad_value.specs.Values.{Val, NumberVal, TruthVal, ListVal, truth_of}
use Rattle.scad_value.specs.Operators.{binary_of, unary_of, index_of, value_or_long_list}
use Rattle.scad_value.specs.Answers.{range_of, stepped_range_of, member_of, wants_right}
use Rattle.scad_scope.specs.Names.{Pairs, find_in}
use Rattle.scad_definitions.specs.Arguments.{parameter_names, no_arguments_of, destination_of, with_argument, DestinationTerm, to_parameter, to_special}
use Rattle.scad_definitions.specs.Blocks.{SourceFunction}
use Rattle.scad_builtin.specs.declared.function.Builtin.{Builtin}
use Rattle.scad_builtin.specs.Builtins.{builtin_of, takes_count, builtin_value}
use Rattle.scad_func.specs.Limits.{most_turns}
use Rattle.scad_func.specs.Meaning.{Outcome, Gives, Faults, then_with, or_fault, outcome_of_answer, Env, InnerScope, no_activation, visible_variable, visible_function, EvaluatesExpression, ExpressionContext, value_at_next_depth, expression_with_calls_left, in_scope, with_more_bindings, each_value, with_first_term, only_values, count_of_terms, BoundArguments, Arguments, each_argument, parameter_value, each_parameter, with_pairs, function_value, function_call_value, built_in_call_value, call_value, value_here, each_suffix, each_link, value_within}
use Rattle.source_laws.specs.Sizes.{size_of_term, size_of_terms, size_of_args, size_of_suffixes, size_of_links, size_of_param, size_of_params, size_of_function, HoldsTextsUpTo}
use Rattle.source_laws.specs.EvaluationCosts.{Cost, and_later, no_cost, one_evaluation, cost_after, cost_then}
use Rattle.source_laws.specs.CostsOfExpressions.{ExpressionCost, cost_at_next_depth, cost_of_each_value, cost_of_each_argument, cost_of_parameter, cost_of_each_parameter, cost_of_function, cost_of_function_call, cost_of_built_in_call, cost_of_call, cost_inside, cost_of_each_suffix, cost_of_each_link, cost_within}
use Rattle.source_laws.proofs.Costs.{nothing, Rate, Costs, larger, let_go, one_more, then_costs, skip_costs, end_costs, free_fault, free_value, answered, some_costs, option_costs, test_costs, turn_costs, call_costs, listed, elements_cost, left_of_bound, bound_more}
use Rattle.source_laws.proofs.Scopes.{SmallFunction, function_found}

-- what the arguments of a call have left over
module _ (rate : Rate) where
  abbrev pub left_of_given : Arguments → ℕ
  left_of_given given = left_of_bound rate given.bound

  given_more : (given : Arguments) (target : DestinationTerm) (v : Val)
      → left_of_given (with_argument given target v) ≤ left_of_given given + listed rate true v
  given_more given (to_parameter number) v = bound_more rate given.bound number v
  given_more given (to_special name) v = omega arith

  -- expressions one evaluation deeper cost what their texts and the turns meanwhile pay
  abbrev pub Good : ExpressionCost → EvaluatesExpression → Type 0
  Good counting at_next_depth = (counts : Bool) (calls : ℕ) (env : Env) (bindings : Pairs Val) (e : Term) (turns : ℕ)
      → HoldsTextsUpTo rate.largest env → turns ≤ most_turns
      → Costs rate (listed rate counts) turns (size_of_term e) (counting counts calls env bindings e turns)
      (at_next_depth counts calls env bindings e turns)

  abbrev pub Sits : ExpressionCost → ExpressionContext → Type 0
  Sits counting here = Good counting here.at_next_depth × HoldsTextsUpTo rate.largest here.env

  pub listed_cost : (counting : ExpressionCost) (here : ExpressionContext) → Sits counting here
      → (counts : Bool) (e : Term) (turns : ℕ) → turns ≤ most_turns
      → Costs rate (listed rate counts) turns (size_of_term e) (cost_at_next_depth counting here counts e turns)
      (value_at_next_depth here counts e turns)
  listed_cost counting here s counts e turns k = s.0 counts here.calls_left here.env here.bindings e turns s.1 k

  pub value_cost : (counting : ExpressionCost) (here : ExpressionContext) → Sits counting here
      → (counts : Bool) (e : Term) (turns : ℕ) → turns ≤ most_turns
      → Costs rate nothing turns (size_of_term e) (cost_at_next_depth counting here counts e turns)
      (value_at_next_depth here counts e turns)
  value_cost counting here s counts e turns k =
      let_go rate (listed rate counts) turns (size_of_term e) (cost_at_next_depth counting here counts e turns)
      (value_at_next_depth here counts e turns)
      (listed_cost counting here s counts e turns k)

  values_cost : (counting : ExpressionCost) (here : ExpressionContext) → Sits counting here → (es : Terms) (turns : ℕ)
      → turns ≤ most_turns
      → Costs rate nothing turns (size_of_terms es) (cost_of_each_value counting here es turns) (each_value here es turns)
  values_cost counting here s no_terms turns k = free_value rate turns 0 k
  values_cost counting here s (and_term e es) turns k =
      skip_costs rate nothing turns (size_of_term e) (size_of_terms es) (cost_at_next_depth counting here true e turns)
      (value_at_next_depth here true e turns) _ _
      (value_cost counting here s true e turns k) (λ turns v k.
      end_costs rate nothing turns (size_of_terms es) (cost_of_each_value counting here es turns) (each_value here es turns) _
      (values_cost counting here s es turns k) (λ turns vs k. free_value rate turns 0 k))

  -- the terms of arguments without names are no larger
  front_size : (e : Term) (size : ℕ) (o : Option Terms) → IfSome o (λ es. size_of_terms es ≤ size)
      → IfSome (with_first_term e o) (λ es. size_of_terms es ≤ size_of_term e + size)
  front_size e size None h = tt
  front_size e size (Some es) h = omega arith

  only_size : (args : ArgTerms) → IfSome (only_values args) (λ es. size_of_terms es ≤ size_of_args args)
  only_size no_args = omega arith
  only_size (and_named at name value rest) = tt
  only_size (and_special at name value rest) = tt
  only_size (and_positional value rest) = front_size value (size_of_args rest) (only_values rest) (only_size rest)

  -- an argument and those behind it
  argument_cost : (counting : ExpressionCost) (here : ExpressionContext) → Sits counting here
      → (given : Arguments) (target : DestinationTerm) (e : Term) (rest : ℕ) (turns : ℕ)
      → (counted : Val → ℕ → Cost) (go : Val → ℕ → Outcome Arguments) → turns ≤ most_turns
      → ((v : Val) (turns : ℕ) → turns ≤ most_turns
      → Costs rate left_of_given turns (rest + left_of_given (with_argument given target v)) (counted v turns) (go v turns))
      → Costs rate left_of_given turns ((size_of_term e + rest) + left_of_given given)
      (cost_then (cost_at_next_depth counting here true e turns) (value_at_next_depth here true e turns)
      (λ turns v. counted v turns))
      (then_with (value_at_next_depth here true e turns) (λ turns v. go v turns))
  argument_cost counting here s given target e rest turns counted go k g =
      larger rate left_of_given turns (size_of_term e + (rest + left_of_given given))
      ((size_of_term e + rest) + left_of_given given)
      (cost_then (cost_at_next_depth counting here true e turns) (value_at_next_depth here true e turns)
      (λ turns v. counted v turns))
      (then_with (value_at_next_depth here true e turns) (λ turns v. go v turns)) (omega arith)
      (then_costs rate (listed rate true) left_of_given turns (size_of_term e) (rest + left_of_given given)
      (cost_at_next_depth counting here true e turns)
      (value_at_next_depth here true e turns) (λ turns v. counted v turns) (λ turns v. go v turns)
      (listed_cost counting here s true e turns k) (λ turns v k.
      larger rate left_of_given turns (rest + left_of_given (with_argument given target v))
      ((rest + left_of_given given) + listed rate true v) (counted v turns) (go v turns)
      (let more = given_more given target v in omega arith) (g v turns k)))

  pub arguments_cost : (counting : ExpressionCost) (here : ExpressionContext) → Sits counting here
      → (names : List (List ℕ)) (positional : ℕ) (args : ArgTerms) (given : Arguments) (turns : ℕ) → turns ≤ most_turns
      → Costs rate left_of_given turns (size_of_args args + left_of_given given)
      (cost_of_each_argument counting here names positional args given turns) (each_argument here names positional args given turns)
  arguments_cost counting here s names positional no_args given turns k = (omega arith, k, omega arith, omega arith)
  arguments_cost counting here s names positional (and_named at name value rest) given turns k =
      option_costs rate left_of_given turns ((size_of_term value + size_of_args rest) + left_of_given given)
      (destination_of names positional given (NamedTerm at name value)) BadArgument at _ _ k (λ target.
      argument_cost counting here s given target value (size_of_args rest) turns
      (λ v turns. cost_of_each_argument counting here names positional rest (with_argument given target v) turns)
      (λ v turns. each_argument here names positional rest (with_argument given target v) turns) k (λ v turns k.
      arguments_cost counting here s names positional rest (with_argument given target v) turns k))
  arguments_cost counting here s names positional (and_special at name value rest) given turns k =
      option_costs rate left_of_given turns ((size_of_term value + size_of_args rest) + left_of_given given)
      (destination_of names positional given (SpecialArgTerm at name value)) BadArgument at _ _ k (λ target.
      argument_cost counting here s given target value (size_of_args rest) turns
      (λ v turns. cost_of_each_argument counting here names positional rest (with_argument given target v) turns)
      (λ v turns. each_argument here names positional rest (with_argument given target v) turns) k (λ v turns k.
      arguments_cost counting here s names positional rest (with_argument given target v) turns k))
  arguments_cost counting here s names positional (and_positional value rest) given turns k =
      option_costs rate left_of_given turns ((size_of_term value + size_of_args rest) + left_of_given given)
      (destination_of names positional given (PositionalTerm value)) BadArgument (place_of_term value) _ _ k (λ target.
      argument_cost counting here s given target value (size_of_args rest) turns
      (λ v turns. cost_of_each_argument counting here names (positional + 1) rest (with_argument given target v) turns)
      (λ v turns. each_argument here names (positional + 1) rest (with_argument given target v) turns) k (λ v turns k.
      arguments_cost counting here s names (positional + 1) rest (with_argument given target v) turns k))

  none_left : (count : ℕ) → left_of_bound rate (replicate count None) ≤ 0
  none_left zero = omega arith
  none_left (suc count) = let rest = none_left count in omega arith

  -- the arguments of a call, from none on
  pub call_arguments_cost : (counting : ExpressionCost) (here : ExpressionContext) → Sits counting here
      → (names : List (List ℕ)) (count : ℕ) (args : ArgTerms) (turns : ℕ) → turns ≤ most_turns
      → Costs rate left_of_given turns (size_of_args args)
      (cost_of_each_argument counting here names 0 args (no_arguments_of count) turns)
      (each_argument here names 0 args (no_arguments_of count) turns)
  call_arguments_cost counting here s names count args turns k =
      larger rate left_of_given turns (size_of_args args + left_of_given (no_arguments_of count)) (size_of_args args)
      (cost_of_each_argument counting here names 0 args (no_arguments_of count) turns)
      (each_argument here names 0 args (no_arguments_of count) turns)
      (let none = none_left count in omega arith)
      (arguments_cost counting here s names 0 args (no_arguments_of count) turns k)

  -- parameters
  parameter_cost : (counting : ExpressionCost) (here : ExpressionContext) → Sits counting here
      → (p : ParamTerm) (bound_argument : Option Val) (turns : ℕ)
      → turns ≤ most_turns
      → Costs rate nothing turns (size_of_param p) (cost_of_parameter counting here p bound_argument turns)
      (parameter_value here p bound_argument turns)
  parameter_cost counting here s (PlainTerm at name) (Some v) turns k = free_value rate turns 0 k
  parameter_cost counting here s (PlainTerm at name) None turns k = free_value rate turns 0 k
  parameter_cost counting here s (DefaultTerm at name value) (Some v) turns k = free_value rate turns (size_of_term value) k
  parameter_cost counting here s (DefaultTerm at name value) None turns k = value_cost counting here s true value turns k

  pub parameters_cost : (counting : ExpressionCost) (here : ExpressionContext) → Sits counting here
      → (ps : List ParamTerm) (bound : BoundArguments) (turns : ℕ)
      → turns ≤ most_turns
      → Costs rate nothing turns (size_of_params ps) (cost_of_each_parameter counting here ps bound turns)
      (each_parameter here ps bound turns)
  parameters_cost counting here s [] bound turns k = free_value rate turns 0 k
  parameters_cost counting here s (p ∷ ps) [] turns k = free_value rate turns (size_of_param p + size_of_params ps) k
  parameters_cost counting here s (p ∷ ps) (bound_argument ∷ bound) turns k =
      skip_costs rate nothing turns (size_of_param p) (size_of_params ps) (cost_of_parameter counting here p bound_argument turns)
      (parameter_value here p bound_argument turns) _ _ (parameter_cost counting here s p bound_argument turns k) (λ turns v k.
      end_costs rate nothing turns (size_of_params ps) (cost_of_each_parameter counting here ps bound turns)
      (each_parameter here ps bound turns) _
      (parameters_cost counting here s ps bound turns k) (λ turns vs k. free_value rate turns 0 k))

  -- calls
  function_cost : (counting : ExpressionCost) (defining_scope : ExpressionContext) → Sits counting defining_scope
      → (f : SourceFunction) (given : Arguments) (turns : ℕ)
      → turns ≤ most_turns
      → Costs rate nothing turns (size_of_function f) (cost_of_function counting defining_scope f given turns)
      (function_value defining_scope f given turns)
  function_cost counting defining_scope s f given turns k =
      skip_costs rate nothing turns (size_of_params f.params) (size_of_term f.value)
      (cost_of_each_parameter counting (with_more_bindings defining_scope given.dynamic) f.params given.bound turns)
      (each_parameter (with_more_bindings defining_scope given.dynamic) f.params given.bound turns) _ _
      (parameters_cost counting (with_more_bindings defining_scope given.dynamic) s f.params given.bound turns k) (λ turns vs k.
      value_cost counting (in_scope (with_more_bindings defining_scope given.dynamic)
      (InnerScope (with_pairs (parameter_names f.params) vs []) [] [] no_activation defining_scope.env))
      (s.0, (tt, tt, tt, s.1)) true f.value turns k)

  function_call_cost : (counting : ExpressionCost) (defining_scope : ExpressionContext) → Sits counting defining_scope
      → (at : Place) (f : SourceFunction) (given : Arguments) (turns : ℕ)
      → SmallFunction rate.largest f → turns ≤ most_turns
      → Costs rate nothing turns 0 (cost_of_function_call counting defining_scope f given turns)
      (function_call_value defining_scope at f given turns)
  function_call_cost counting defining_scope s at f given turns small k =
      call_costs rate nothing turns 0 defining_scope.calls_left at _ _ k (λ calls e.
      turn_costs rate nothing turns 0 at (λ turns. cost_of_function counting
      (expression_with_calls_left defining_scope calls) f given turns)
      (λ turns. function_value (expression_with_calls_left defining_scope calls) f given turns) k (λ k.
      larger rate nothing (turns + 1) (size_of_function f) (0 + rate.largest)
      (cost_of_function counting (expression_with_calls_left defining_scope calls) f given (turns + 1))
      (function_value (expression_with_calls_left defining_scope calls) f given (turns + 1)) (omega arith)
      (function_cost counting (expression_with_calls_left defining_scope calls) s f given (turns + 1) k)))

  built_in_cost : (counting : ExpressionCost) (here : ExpressionContext) → Sits counting here
      → (at : Place) (name : List ℕ) (args : ArgTerms) (turns : ℕ) (found : Option Builtin)
      → turns ≤ most_turns
      → Costs rate nothing turns (size_of_args args) (cost_of_built_in_call counting here args turns found)
      (built_in_call_value here at name args turns found)
  built_in_cost counting here s at name args turns None k = free_fault rate turns (size_of_args args) k
  built_in_cost counting here s at name args turns (Some builtin) k =
      some_costs rate (λ es. size_of_terms es ≤ size_of_args args) nothing turns (size_of_args args)
      (only_values args) BadArgument at _ _ k (only_size args) (λ es small.
      test_costs rate nothing turns (size_of_args args) (takes_count builtin (count_of_terms es))
      (cost_of_each_value counting here es turns) no_cost
      (then_with (each_value here es turns) (λ turns vs. outcome_of_answer (builtin_value builtin vs) at turns))
      (Faults BadArgument at)
      (end_costs rate nothing turns (size_of_args args) (cost_of_each_value counting here es turns) (each_value here es turns) _
      (larger rate nothing turns (size_of_terms es) (size_of_args args) (cost_of_each_value counting here es turns)
      (each_value here es turns) small
      (values_cost counting here s es turns k)) (λ turns vs k. answered rate (builtin_value builtin vs) at turns k))
      (free_fault rate turns (size_of_args args) k))

  called_cost : (counting : ExpressionCost) (here : ExpressionContext) → Sits counting here
      → (at : Place) (name : List ℕ) (args : ArgTerms) (turns : ℕ) (found : Option (SourceFunction × Env))
      → turns ≤ most_turns → IfSome found (λ f. SmallFunction rate.largest f.0 × HoldsTextsUpTo rate.largest f.1)
      → Costs rate nothing turns (size_of_args args) (cost_of_call counting here name args turns found)
      (call_value here at name args turns found)
  called_cost counting here s at name args turns None k g = built_in_cost counting here s at name args turns (builtin_of name) k
  called_cost counting here s at name args turns (Some f) k g =
      let names = parameter_names f.0.params in
      let given = no_arguments_of (length names) in
      let counted = cost_of_each_argument counting here names 0 args given turns in
      let out = each_argument here names 0 args given turns in
      larger rate nothing turns (size_of_args args + 0) (size_of_args args) _ _ (omega arith)
      (skip_costs rate nothing turns (size_of_args args) 0 counted out _ _
      (let_go rate left_of_given turns (size_of_args args) counted out
      (call_arguments_cost counting here s names (length names) args turns k)) (λ turns given k.
      function_call_cost counting (in_scope here f.1) (s.0, g.1) at f.0 given turns g.0 k))

  -- an expression by itself
  one_free : (turns : ℕ) → turns ≤ most_turns → (turns ≤ turns) × (turns ≤ most_turns)
      × ((1 + 0) + rate.paid turns + 0 ≤ 1 + rate.paid turns) × (turns ≡ turns + (0 + 0))
  one_free turns k = (omega arith, k, omega arith, omega arith)

  one_found : (turns : ℕ) (o : Option Val) (at : Place) → turns ≤ most_turns
      → Costs rate nothing turns 1 (and_later one_evaluation no_cost) (or_fault o UnknownName at (Gives turns))
  one_found turns None at k = (omega arith, λ all l. let more = rate.grows turns all (omega arith) in omega arith)
  one_found turns (Some v) at k = one_free turns k

  some_size : (e : Term) → 1 ≤ size_of_term e
  some_size (NumberTerm at n) = omega arith
  some_size (TextTerm at bytes) = omega arith
  some_size (TruthTerm at truth) = omega arith
  some_size (UndefTerm at) = omega arith
  some_size (ChildCountTerm at) = omega arith
  some_size (SpecialTerm at name) = omega arith
  some_size (NameTerm at name) = omega arith
  some_size (CallTerm at name args) = omega arith
  some_size (ParenTerm at inner) = omega arith
  some_size (ListTerm at items) = omega arith
  some_size (RangeTerm at from to) = omega arith
  some_size (SteppedRangeTerm at from step to) = omega arith
  some_size (PostfixTerm at of rest) = omega arith
  some_size (UnaryTerm at op of) = omega arith
  some_size (ChainTerm at first rest) = omega arith
  some_size (ChoiceTerm at test mark one other) = omega arith

  -- an expression that is refused for its depth
  refused_cost : (e : Term) (turns : ℕ) → turns ≤ most_turns
      → (turns + 0 ≤ most_turns) × ((all : ℕ) → turns + 0 ≤ all → 1 + rate.paid turns ≤ size_of_term e + rate.paid all)
  refused_cost e turns k = (
    omega arith,
    λ all l. let some = some_size e in let more = rate.grows turns all (omega arith) in
        omega arith,
  )

  -- what costs nothing, and what follows from its value
  free_sum : {A : Type 0} (turns size : ℕ) (taken : Cost) (out : Outcome A)
      → Costs rate nothing turns (0 + size) (and_later no_cost taken) out → Costs rate nothing turns size taken out
  free_sum turns size taken (Gives after x) h = (h.0, h.1, let cost = h.2 in omega arith, let same = h.3 in omega arith)
  free_sum turns size taken (Faults kind at) h = (
    let within = h.0 in omega arith,
    λ all l. let cost = h.1 all (omega arith) in
        omega arith,
  )

  free_first : {A B : Type 0} (turns size : ℕ) (out : Outcome A) (counted : ℕ → A → Cost) (go : ℕ → A → Outcome B)
      → Costs rate nothing turns 0 no_cost out
      → ((after : ℕ) (x : A) → after ≤ most_turns → Costs rate nothing after size (counted after x) (go after x))
      → Costs rate nothing turns size (cost_after out counted) (then_with out go)
  free_first turns size out counted go h g =
      let all = skip_costs rate nothing turns 0 size no_cost out counted go h g in
      free_sum turns size (cost_after out counted) (then_with out go) all

  chosen_size : (b : Bool) (one other : Term) → size_of_term (cond b one other) ≤ size_of_term one + size_of_term other
  chosen_size true one other = omega arith
  chosen_size false one other = omega arith

  -- an expression at its own depth
  mutual
    pub operand_cost : (counting : ExpressionCost) (here : ExpressionContext) → Sits counting here → (e : Term) (turns : ℕ)
        → turns ≤ most_turns
        → Costs rate nothing turns (size_of_term e) (and_later one_evaluation (cost_inside counting here e turns))
        (value_here here e turns)
    operand_cost counting here s (NumberTerm at n) turns k = one_free turns k
    operand_cost counting here s (TextTerm at bytes) turns k = one_free turns k
    operand_cost counting here s (TruthTerm at truth) turns k = one_free turns k
    operand_cost counting here s (UndefTerm at) turns k = one_free turns k
    operand_cost counting here s (ChildCountTerm at) turns k = one_free turns k
    operand_cost counting here s (SpecialTerm at name) turns k = one_found turns (find_in here.bindings name) at k
    operand_cost counting here s (NameTerm at name) turns k = one_found turns (visible_variable here.env name) at k
    operand_cost counting here s (CallTerm at name args) turns k =
        one_more rate nothing turns (size_of_args args) _ _
        (called_cost counting here s at name args turns (visible_function here.env name) k
        (function_found rate.largest here.env name s.1))
    operand_cost counting here s (ParenTerm at inner) turns k =
        one_more rate nothing turns (size_of_term inner) _ _ (value_cost counting here s true inner turns k)
    operand_cost counting here s (ListTerm at items) turns k =
        one_more rate nothing turns (size_of_terms items) _ _
        (end_costs rate nothing turns (size_of_terms items) (cost_of_each_value counting here items turns)
        (each_value here items turns) _
        (values_cost counting here s items turns k) (λ turns vs k. answered rate (value_or_long_list (Ok (ListVal vs))) at turns k))
    operand_cost counting here s (RangeTerm at from to) turns k =
        one_more rate nothing turns (size_of_term from + size_of_term to) _ _
        (skip_costs rate nothing turns (size_of_term from) (size_of_term to) (cost_at_next_depth counting here true from turns)
        (value_at_next_depth here true from turns) _ _
        (value_cost counting here s true from turns k) (λ turns a k.
        end_costs rate nothing turns (size_of_term to) (cost_at_next_depth counting here true to turns)
        (value_at_next_depth here true to turns) _
        (value_cost counting here s true to turns k) (λ turns b k. answered rate (range_of a b) at turns k)))
    operand_cost counting here s (SteppedRangeTerm at from step to) turns k =
        one_more rate nothing turns (size_of_term from + (size_of_term step + size_of_term to)) _ _
        (skip_costs rate nothing turns (size_of_term from) (size_of_term step + size_of_term to)
        (cost_at_next_depth counting here true from turns) (value_at_next_depth here true from turns) _ _
        (value_cost counting here s true from turns k) (λ turns a k.
        skip_costs rate nothing turns (size_of_term step) (size_of_term to) (cost_at_next_depth counting here true step turns)
        (value_at_next_depth here true step turns) _ _
        (value_cost counting here s true step turns k) (λ turns b k.
        end_costs rate nothing turns (size_of_term to) (cost_at_next_depth counting here true to turns)
        (value_at_next_depth here true to turns) _
        (value_cost counting here s true to turns k) (λ turns c k. answered rate (stepped_range_of a b c) at turns k))))
    operand_cost counting here s (PostfixTerm at of rest) turns k =
        one_more rate nothing turns (size_of_term of + size_of_suffixes rest) _ _
        (skip_costs rate nothing turns (size_of_term of) (size_of_suffixes rest)
        (and_later one_evaluation (cost_inside counting here of turns)) (value_here here of turns) _ _
        (operand_cost counting here s of turns k) (λ turns v k. suffixes_cost counting here s v rest turns k))
    operand_cost counting here s (UnaryTerm at op of) turns k =
        one_more rate nothing turns (size_of_term of) _ _
        (end_costs rate nothing turns (size_of_term of) (cost_at_next_depth counting here false of turns)
        (value_at_next_depth here false of turns) _
        (value_cost counting here s false of turns k) (λ turns v k. answered rate (unary_of op v) at turns k))
    operand_cost counting here s (ChainTerm at first rest) turns k =
        one_more rate nothing turns (size_of_term first + size_of_links rest) _ _
        (skip_costs rate nothing turns (size_of_term first) (size_of_links rest)
        (and_later one_evaluation (cost_inside counting here first turns)) (value_here here first turns) _ _
        (operand_cost counting here s first turns k) (λ turns v k. links_cost counting here s v rest turns k))
    operand_cost counting here s (ChoiceTerm at test mark one other) turns k =
        one_more rate nothing turns (size_of_term test + (size_of_term one + size_of_term other)) _ _
        (skip_costs rate nothing turns (size_of_term test) (size_of_term one + size_of_term other)
        (and_later one_evaluation (cost_inside counting here test turns)) (value_here here test turns) _ _
        (operand_cost counting here s test turns k) (λ turns v k.
        larger rate nothing turns (size_of_term (cond (truth_of v) one other)) (size_of_term one + size_of_term other) _ _
        (chosen_size (truth_of v) one other)
        (value_cost counting here s true (cond (truth_of v) one other) turns k)))

    suffixes_cost : (counting : ExpressionCost) (here : ExpressionContext) → Sits counting here
        → (v : Val) (rest : SuffixTerms) (turns : ℕ) → turns ≤ most_turns
        → Costs rate nothing turns (size_of_suffixes rest) (cost_of_each_suffix counting here v rest turns)
        (each_suffix here v rest turns)
    suffixes_cost counting here s v no_suffixes turns k = free_value rate turns 0 k
    suffixes_cost counting here s v (and_index at index rest) turns k =
        skip_costs rate nothing turns (size_of_term index) (size_of_suffixes rest)
        (cost_at_next_depth counting here true index turns) (value_at_next_depth here true index turns) _ _
        (value_cost counting here s true index turns k) (λ turns w k.
        free_first turns (size_of_suffixes rest) (outcome_of_answer (index_of v w) at turns) _ _
        (answered rate (index_of v w) at turns k) (λ turns x k.
        suffixes_cost counting here s x rest turns k))
    suffixes_cost counting here s v (and_member at name name_at rest) turns k =
        option_costs rate nothing turns (size_of_suffixes rest) (member_of name) NotInProfile name_at _ _ k (λ n.
        free_first turns (size_of_suffixes rest) (outcome_of_answer (index_of v (NumberVal n)) at turns) _ _
        (answered rate (index_of v (NumberVal n)) at turns k) (λ turns x k.
        suffixes_cost counting here s x rest turns k))

    links_cost : (counting : ExpressionCost) (here : ExpressionContext) → Sits counting here
        → (v : Val) (rest : LinkTerms) (turns : ℕ) → turns ≤ most_turns
        → Costs rate nothing turns (size_of_links rest) (cost_of_each_link counting here v rest turns) (each_link here v rest turns)
    links_cost counting here s v no_links turns k = free_value rate turns 0 k
    links_cost counting here s v (and_link op at right rest) turns k =
        skip_costs rate nothing turns (size_of_term right) (size_of_links rest)
        (if wants_right op v then (and_later one_evaluation (cost_inside counting here right turns)) else no_cost)
        (if wants_right op v then then_with (value_here here right turns)
        (λ turns w. outcome_of_answer (binary_of op v w) at turns) else Gives turns (TruthVal (truth_of v))) _ _
        (test_costs rate nothing turns (size_of_term right) (wants_right op v)
        (and_later one_evaluation (cost_inside counting here right turns)) no_cost
        (then_with (value_here here right turns) (λ turns w. outcome_of_answer (binary_of op v w) at turns))
        (Gives turns (TruthVal (truth_of v)))
        (end_costs rate nothing turns (size_of_term right) (and_later one_evaluation (cost_inside counting here right turns))
        (value_here here right turns) _
        (operand_cost counting here s right turns k) (λ turns w k. answered rate (binary_of op v w) at turns k))
        (free_value rate turns (size_of_term right) k)) (λ turns x k.
        links_cost counting here s x rest turns k)

  pub expressions_cost : (n : ℕ) → Good (cost_within n) (value_within n)
  unfolding cost_within value_within
  expressions_cost zero counts calls env bindings e turns s k = refused_cost e turns k
  expressions_cost (suc n) counts calls env bindings e turns s k =
      let here : ExpressionContext = record { at_next_depth = value_within n; calls_left = calls; env = env; bindings = bindings }
      in
      elements_cost rate counts (place_of_term e) turns (size_of_term e)
      (and_later one_evaluation (cost_inside (cost_within n) here e turns)) (value_here here e turns)
      (operand_cost (cost_within n) here (expressions_cost n, s) e turns k)
