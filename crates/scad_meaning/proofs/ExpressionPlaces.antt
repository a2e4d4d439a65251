-- The faults of expressions stand at places of the text: by one lemma for each equation of their meaning.
use Rattle.std.proofs.Common.{ℕ, zero, suc, ◌+◌, Bool, true, false, cond, nat_lt, List, [], ◌∷◌, ◌++◌, length, Option, Some, None, Ok, if◌then◌else◌}
use Rattle.std.specs.Prelude.{IfSome, flat_map}
use Rattle.plain_text.specs.declared.place.Place.{Place}
use Rattle.text_place.specs.declared.fault.FaultKind.TheVariants.{UnknownName, BadArgument, TooManyTurns, NotInProfile}
use Rattle.scad_ast.specs.Terms.{Term, NumberTerm, TextTerm, TruthTerm, UndefTerm, ChildCountTerm, SpecialTerm, NameTerm, CallTerm, ParenTerm, ListTerm, RangeTerm, SteppedRangeTerm, PostfixTerm, UnaryTerm, ChainTerm, ChoiceTerm, Terms, no_terms, and_term, ArgTerms, no_args, and_named, and_special, and_positional, NamedTerm, SpecialArgTerm, PositionalTerm, SuffixTerms, no_suffixes, and_index, and_member, LinkTerms, no_links, and_link, ParamTerm, PlainTerm, DefaultTerm, place_of_term}
use Rattle.scad_ast.specs.Places.{places_of_term, places_of_terms, places_of_args, places_of_suffixes, places_of_links, places_of_param}
use Rattle.scad_value.specs.Values.{Val, NumberVal, TruthVal, TextVal, ListVal, RangeVal, UndefVal, element_count, truth_of}
use Rattle.scad_value.specs.Operators.{binary_of, unary_of, index_of, value_or_long_list}
use Rattle.scad_scope.specs.Names.{Pairs, find_in}
use Rattle.scad_definitions.specs.Arguments.{parameter_names, no_arguments_of, destination_of, with_argument}
use Rattle.scad_definitions.specs.Blocks.{SourceFunction}
use Rattle.scad_builtin.specs.declared.function.Builtin.{Builtin}
use Rattle.scad_builtin.specs.Builtins.{builtin_of, takes_count, builtin_value}
use Rattle.scad_func.specs.Limits.{most_turns}
use Rattle.scad_func.specs.Meaning.{Outcome, Gives, Faults, then_with, outcome_of_answer, Env, InnerScope, no_activation, visible_variable, visible_function, count_elements, EvaluatesExpression, ExpressionContext, value_at_next_depth, expression_with_calls_left, in_scope, with_more_bindings, each_value, with_first_term, only_values, count_of_terms, BoundArguments, Arguments, each_argument, parameter_value, each_parameter, with_pairs, function_value, function_call_value, built_in_call_value, call_value, value_here, each_suffix, each_link, count_elements_if, value_within}
use Rattle.scad_value.specs.Answers.{range_of, stepped_range_of, member_of, wants_right}
use Rattle.scad_meaning.proofs.lemmas.HeldPlaces.{every_joined, if_keeps, Whatever, Held, first_held, rest_held, FunctionHeld, ScopeHeld, function_found, Keeps, skip_keeps, option_keeps, some_keeps, turn_keeps, call_keeps, answered_keeps}

module _ (P : Place → Type 0) where
  place_held : (e : Term) → Held P (places_of_term e) → P (place_of_term e)
  place_held (NumberTerm at n) h = h.0
  place_held (TextTerm at bytes) h = h.0
  place_held (TruthTerm at truth) h = h.0
  place_held (UndefTerm at) h = h.0
  place_held (ChildCountTerm at) h = h.0
  place_held (SpecialTerm at name) h = h.0
  place_held (NameTerm at name) h = h.0
  place_held (CallTerm at name args) h = h.0
  place_held (ParenTerm at inner) h = h.0
  place_held (ListTerm at items) h = h.0
  place_held (RangeTerm at from to) h = h.0
  place_held (SteppedRangeTerm at from step to) h = h.0
  place_held (PostfixTerm at of rest) h = h.0
  place_held (UnaryTerm at op of) h = h.0
  place_held (ChainTerm at first rest) h = h.0
  place_held (ChoiceTerm at test mark one other) h = h.0

  counted_keeps : (at : Place) (out : Outcome Val) → P at → Keeps P Whatever out → Keeps P Whatever (count_elements at out)
  counted_keeps at (Gives turns (NumberVal n)) p h = tt
  counted_keeps at (Gives turns (TruthVal truth)) p h = tt
  counted_keeps at (Gives turns (TextVal bytes)) p h = tt
  counted_keeps at (Gives turns (ListVal items)) p h =
      if_keeps (Keeps P Whatever) (nat_lt most_turns (turns + element_count (ListVal items))) (Faults TooManyTurns at)
      (Gives (turns + element_count (ListVal items)) (ListVal items)) p tt
  counted_keeps at (Gives turns (RangeVal from step to)) p h = tt
  counted_keeps at (Gives turns UndefVal) p h = tt
  counted_keeps at (Faults kind place) p h = h

  settled_keeps : (counts : Bool) (at : Place) (out : Outcome Val) → P at → Keeps P Whatever out → Keeps P Whatever (count_elements_if counts at out)
  settled_keeps true at out p h = counted_keeps at out p h
  settled_keeps false at out p h = h

  -- expressions one evaluation deeper fault at their own places, or at those of the scope's definitions
  abbrev pub Good : EvaluatesExpression → Type 0
  Good at_next_depth = (counts : Bool) (calls : ℕ) (env : Env) (bindings : Pairs Val) (e : Term) (turns : ℕ)
      → ScopeHeld P env → Held P (places_of_term e) → Keeps P Whatever (at_next_depth counts calls env bindings e turns)

  abbrev pub Sits : ExpressionContext → Type 0
  Sits here = Good here.at_next_depth × ScopeHeld P here.env

  pub value_keeps : (here : ExpressionContext) → Sits here → (counts : Bool) (e : Term) (turns : ℕ) → Held P (places_of_term e)
      → Keeps P Whatever (value_at_next_depth here counts e turns)
  value_keeps here s counts e turns h = s.0 counts here.calls_left here.env here.bindings e turns s.1 h

  values_keep : (here : ExpressionContext) → Sits here → (es : Terms) (turns : ℕ) → Held P (places_of_terms es) → Keeps P Whatever (each_value here es turns)
  values_keep here s no_terms turns h = tt
  values_keep here s (and_term e es) turns h =
      skip_keeps P Whatever (value_at_next_depth here true e turns) _ (value_keeps here s true e turns (first_held P (places_of_term e) (places_of_terms es) h)) (λ turns v.
      skip_keeps P Whatever (each_value here es turns) _ (values_keep here s es turns (rest_held P (places_of_term e) (places_of_terms es) h)) (λ turns vs. tt))

  -- arguments and parameters
  front_held : (e : Term) (o : Option Terms) → Held P (places_of_term e) → IfSome o (λ es. Held P (places_of_terms es))
      → IfSome (with_first_term e o) (λ es. Held P (places_of_terms es))
  front_held e None h g = tt
  front_held e (Some es) h g = every_joined P (places_of_term e) (places_of_terms es) h g

  only_held : (args : ArgTerms) → Held P (places_of_args args) → IfSome (only_values args) (λ es. Held P (places_of_terms es))
  only_held no_args h = tt
  only_held (and_named at name value rest) h = tt
  only_held (and_special at name value rest) h = tt
  only_held (and_positional value rest) h =
      front_held value (only_values rest) (first_held P (places_of_term value) (places_of_args rest) h)
      (only_held rest (rest_held P (places_of_term value) (places_of_args rest) h))

  pub arguments_keep : (here : ExpressionContext) → Sits here → (names : List (List ℕ)) (positional : ℕ) (args : ArgTerms) (given : Arguments) (turns : ℕ)
      → Held P (places_of_args args) → Keeps P Whatever (each_argument here names positional args given turns)
  arguments_keep here s names positional no_args given turns h = tt
  arguments_keep here s names positional (and_named at name value rest) given turns h =
      some_keeps P Whatever (destination_of names positional given (NamedTerm at name value)) BadArgument at _ h.0 (λ target.
      skip_keeps P Whatever (value_at_next_depth here true value turns) _ (value_keeps here s true value turns (first_held P (places_of_term value) (places_of_args rest) h.1)) (λ turns v.
      arguments_keep here s names positional rest (with_argument given target v) turns (rest_held P (places_of_term value) (places_of_args rest) h.1)))
  arguments_keep here s names positional (and_special at name value rest) given turns h =
      some_keeps P Whatever (destination_of names positional given (SpecialArgTerm at name value)) BadArgument at _ h.0 (λ target.
      skip_keeps P Whatever (value_at_next_depth here true value turns) _ (value_keeps here s true value turns (first_held P (places_of_term value) (places_of_args rest) h.1)) (λ turns v.
      arguments_keep here s names positional rest (with_argument given target v) turns (rest_held P (places_of_term value) (places_of_args rest) h.1)))
  arguments_keep here s names positional (and_positional value rest) given turns h =
      some_keeps P Whatever (destination_of names positional given (PositionalTerm value)) BadArgument (place_of_term value) _
      (place_held value (first_held P (places_of_term value) (places_of_args rest) h)) (λ target.
      skip_keeps P Whatever (value_at_next_depth here true value turns) _ (value_keeps here s true value turns (first_held P (places_of_term value) (places_of_args rest) h)) (λ turns v.
      arguments_keep here s names (positional + 1) rest (with_argument given target v) turns (rest_held P (places_of_term value) (places_of_args rest) h)))

  parameter_keeps : (here : ExpressionContext) → Sits here → (p : ParamTerm) (bound_argument : Option Val) (turns : ℕ) → Held P (places_of_param p)
      → Keeps P Whatever (parameter_value here p bound_argument turns)
  parameter_keeps here s (PlainTerm at name) (Some v) turns h = tt
  parameter_keeps here s (PlainTerm at name) None turns h = tt
  parameter_keeps here s (DefaultTerm at name value) (Some v) turns h = tt
  parameter_keeps here s (DefaultTerm at name value) None turns h = value_keeps here s true value turns h.1

  pub parameters_keep : (here : ExpressionContext) → Sits here → (ps : List ParamTerm) (bound : BoundArguments) (turns : ℕ) → Held P (flat_map places_of_param ps)
      → Keeps P Whatever (each_parameter here ps bound turns)
  parameters_keep here s [] bound turns h = tt
  parameters_keep here s (p ∷ ps) [] turns h = tt
  parameters_keep here s (p ∷ ps) (bound_argument ∷ bound) turns h =
      skip_keeps P Whatever (parameter_value here p bound_argument turns) _
      (parameter_keeps here s p bound_argument turns (first_held P (places_of_param p) (flat_map places_of_param ps) h)) (λ turns v.
      skip_keeps P Whatever (each_parameter here ps bound turns) _
      (parameters_keep here s ps bound turns (rest_held P (places_of_param p) (flat_map places_of_param ps) h)) (λ turns vs. tt))

  -- calls
  function_keeps : (defining_scope : ExpressionContext) → Sits defining_scope → (f : SourceFunction) (given : Arguments) (turns : ℕ) → FunctionHeld P f
      → Keeps P Whatever (function_value defining_scope f given turns)
  function_keeps defining_scope s f given turns h =
      skip_keeps P Whatever (each_parameter (with_more_bindings defining_scope given.dynamic) f.params given.bound turns) _
      (parameters_keep (with_more_bindings defining_scope given.dynamic) s f.params given.bound turns h.0) (λ turns vs.
      value_keeps (in_scope (with_more_bindings defining_scope given.dynamic) (InnerScope (with_pairs (parameter_names f.params) vs []) [] [] no_activation defining_scope.env))
      (s.0, (tt, tt, tt, s.1)) true f.value turns h.1)

  function_called_keeps : (defining_scope : ExpressionContext) → Sits defining_scope → (at : Place) (f : SourceFunction) (given : Arguments) (turns : ℕ) → P at → FunctionHeld P f
      → Keeps P Whatever (function_call_value defining_scope at f given turns)
  function_called_keeps defining_scope s at f given turns p h =
      call_keeps P Whatever defining_scope.calls_left at _ p (λ calls.
      turn_keeps P Whatever at turns (λ turns. function_value (expression_with_calls_left defining_scope calls) f given turns) p (λ turns.
      function_keeps (expression_with_calls_left defining_scope calls) s f given turns h))

  built_in_keeps : (here : ExpressionContext) → Sits here → (at : Place) (name : List ℕ) (args : ArgTerms) (turns : ℕ) (found : Option Builtin)
      → P at → Held P (places_of_args args) → Keeps P Whatever (built_in_call_value here at name args turns found)
  built_in_keeps here s at name args turns None p h = p
  built_in_keeps here s at name args turns (Some builtin) p h =
      option_keeps P (λ es. Held P (places_of_terms es)) Whatever (only_values args) BadArgument at _ p (only_held args h) (λ es g.
      if_keeps (Keeps P Whatever) (takes_count builtin (count_of_terms es))
      (then_with (each_value here es turns) (λ turns vs. outcome_of_answer (builtin_value builtin vs) at turns)) (Faults BadArgument at)
      (skip_keeps P Whatever (each_value here es turns) _ (values_keep here s es turns g) (λ turns vs. answered_keeps P (builtin_value builtin vs) at turns p)) p)

  called_keeps : (here : ExpressionContext) → Sits here → (at : Place) (name : List ℕ) (args : ArgTerms) (turns : ℕ) (found : Option (SourceFunction × Env))
      → P at → Held P (places_of_args args) → IfSome found (λ f. FunctionHeld P f.0 × ScopeHeld P f.1)
      → Keeps P Whatever (call_value here at name args turns found)
  called_keeps here s at name args turns None p h g = built_in_keeps here s at name args turns (builtin_of name) p h
  called_keeps here s at name args turns (Some f) p h g =
      skip_keeps P Whatever (each_argument here (parameter_names f.0.params) 0 args (no_arguments_of (length (parameter_names f.0.params))) turns) _
      (arguments_keep here s (parameter_names f.0.params) 0 args (no_arguments_of (length (parameter_names f.0.params))) turns h) (λ turns given.
      function_called_keeps (in_scope here f.1) (s.0, g.1) at f.0 given turns p g.0)

  -- an expression at its own depth
  mutual
    operand_keeps : (here : ExpressionContext) → Sits here → (e : Term) (turns : ℕ) → Held P (places_of_term e) → Keeps P Whatever (value_here here e turns)
    operand_keeps here s (NumberTerm at n) turns h = tt
    operand_keeps here s (TextTerm at bytes) turns h = tt
    operand_keeps here s (TruthTerm at truth) turns h = tt
    operand_keeps here s (UndefTerm at) turns h = tt
    operand_keeps here s (ChildCountTerm at) turns h = tt
    operand_keeps here s (SpecialTerm at name) turns h = some_keeps P Whatever (find_in here.bindings name) UnknownName at (Gives turns) h.0 (λ v. tt)
    operand_keeps here s (NameTerm at name) turns h = some_keeps P Whatever (visible_variable here.env name) UnknownName at (Gives turns) h.0 (λ v. tt)
    operand_keeps here s (CallTerm at name args) turns h =
        called_keeps here s at name args turns (visible_function here.env name) h.0 h.1 (function_found P here.env name s.1)
    operand_keeps here s (ParenTerm at inner) turns h = value_keeps here s true inner turns h.1
    operand_keeps here s (ListTerm at items) turns h =
        skip_keeps P Whatever (each_value here items turns) _ (values_keep here s items turns h.1) (λ turns vs.
        answered_keeps P (value_or_long_list (Ok (ListVal vs))) at turns h.0)
    operand_keeps here s (RangeTerm at from to) turns h =
        skip_keeps P Whatever (value_at_next_depth here true from turns) _ (value_keeps here s true from turns (first_held P (places_of_term from) (places_of_term to) h.1)) (λ turns a.
        skip_keeps P Whatever (value_at_next_depth here true to turns) _ (value_keeps here s true to turns (rest_held P (places_of_term from) (places_of_term to) h.1)) (λ turns b.
        answered_keeps P (range_of a b) at turns h.0))
    operand_keeps here s (SteppedRangeTerm at from step to) turns h =
        let both = first_held P (places_of_term from ++ places_of_term step) (places_of_term to) h.1 in
        skip_keeps P Whatever (value_at_next_depth here true from turns) _ (value_keeps here s true from turns (first_held P (places_of_term from) (places_of_term step) both)) (λ turns a.
        skip_keeps P Whatever (value_at_next_depth here true step turns) _ (value_keeps here s true step turns (rest_held P (places_of_term from) (places_of_term step) both)) (λ turns b.
        skip_keeps P Whatever (value_at_next_depth here true to turns) _
        (value_keeps here s true to turns (rest_held P (places_of_term from ++ places_of_term step) (places_of_term to) h.1)) (λ turns c.
        answered_keeps P (stepped_range_of a b c) at turns h.0)))
    operand_keeps here s (PostfixTerm at of rest) turns h =
        skip_keeps P Whatever (value_here here of turns) _ (operand_keeps here s of turns (first_held P (places_of_term of) (places_of_suffixes rest) h.1)) (λ turns v.
        suffixes_keep here s v rest turns (rest_held P (places_of_term of) (places_of_suffixes rest) h.1))
    operand_keeps here s (UnaryTerm at op of) turns h =
        skip_keeps P Whatever (value_at_next_depth here false of turns) _ (value_keeps here s false of turns h.1) (λ turns v.
        answered_keeps P (unary_of op v) at turns h.0)
    operand_keeps here s (ChainTerm at first rest) turns h =
        skip_keeps P Whatever (value_here here first turns) _ (operand_keeps here s first turns (first_held P (places_of_term first) (places_of_links rest) h.1)) (λ turns v.
        links_keep here s v rest turns (rest_held P (places_of_term first) (places_of_links rest) h.1))
    operand_keeps here s (ChoiceTerm at test mark one other) turns h =
        let both = first_held P (places_of_term test ++ mark ∷ places_of_term one) (places_of_term other) h.1 in
        skip_keeps P Whatever (value_here here test turns) _ (operand_keeps here s test turns (first_held P (places_of_term test) (mark ∷ places_of_term one) both)) (λ turns v.
        value_keeps here s true (cond (truth_of v) one other) turns
        (if_keeps (λ e. Held P (places_of_term e)) (truth_of v) one other (rest_held P (places_of_term test) (mark ∷ places_of_term one) both).1
        (rest_held P (places_of_term test ++ mark ∷ places_of_term one) (places_of_term other) h.1)))

    suffixes_keep : (here : ExpressionContext) → Sits here → (v : Val) (rest : SuffixTerms) (turns : ℕ) → Held P (places_of_suffixes rest)
        → Keeps P Whatever (each_suffix here v rest turns)
    suffixes_keep here s v no_suffixes turns h = tt
    suffixes_keep here s v (and_index at index rest) turns h =
        skip_keeps P Whatever (value_at_next_depth here true index turns) _ (value_keeps here s true index turns (first_held P (places_of_term index) (places_of_suffixes rest) h.1)) (λ turns w.
        skip_keeps P Whatever (outcome_of_answer (index_of v w) at turns) _ (answered_keeps P (index_of v w) at turns h.0) (λ turns x.
        suffixes_keep here s x rest turns (rest_held P (places_of_term index) (places_of_suffixes rest) h.1)))
    suffixes_keep here s v (and_member at name name_at rest) turns h =
        some_keeps P Whatever (member_of name) NotInProfile name_at _ h.1.0 (λ n.
        skip_keeps P Whatever (outcome_of_answer (index_of v (NumberVal n)) at turns) _ (answered_keeps P (index_of v (NumberVal n)) at turns h.0) (λ turns x.
        suffixes_keep here s x rest turns h.1.1))

    links_keep : (here : ExpressionContext) → Sits here → (v : Val) (rest : LinkTerms) (turns : ℕ) → Held P (places_of_links rest)
        → Keeps P Whatever (each_link here v rest turns)
    links_keep here s v no_links turns h = tt
    links_keep here s v (and_link op at right rest) turns h =
        let one = then_with (value_here here right turns) (λ turns w. outcome_of_answer (binary_of op v w) at turns) in
        skip_keeps P Whatever (if wants_right op v then one else Gives turns (TruthVal (truth_of v))) _
        (if_keeps (Keeps P Whatever) (wants_right op v) one (Gives turns (TruthVal (truth_of v)))
        (skip_keeps P Whatever (value_here here right turns) _ (operand_keeps here s right turns (first_held P (places_of_term right) (places_of_links rest) h.1)) (λ turns w.
        answered_keeps P (binary_of op v w) at turns h.0)) tt) (λ turns x.
        links_keep here s x rest turns (rest_held P (places_of_term right) (places_of_links rest) h.1))

  pub evaluated_good : (left : ℕ) → Good (value_within left)
  unfolding value_within
  evaluated_good zero counts calls env bindings e turns s h = place_held e h
  evaluated_good (suc left) counts calls env bindings e turns s h =
      let here : ExpressionContext = record { at_next_depth = value_within left; calls_left = calls; env = env; bindings = bindings } in
      settled_keeps counts (place_of_term e) (value_here here e turns) (place_held e h)
      (operand_keeps here (evaluated_good left, s) e turns h)
