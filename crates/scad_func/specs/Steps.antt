-- Steps of the evaluation, as the evaluator takes them.
use Rattle.std.specs.Prelude.{ℕ, Bool, true, false, [], if◌then◌else◌}
use Rattle.text_place.specs.declared.fault.FaultKind.TheVariants.{NotInProfile}
use Rattle.scad_ast.specs.Terms.{Term, Terms, no_terms, and_term, ArgTerms, no_args, and_named, and_special, and_positional, ArgTerm, NamedTerm, SpecialArgTerm, PositionalTerm, SuffixTerm, IndexTerm, MemberTerm, LinkTerm}
use Rattle.scad_value.specs.Values.{Val, Vals, NumberVal, TruthVal, truth_of}
use Rattle.scad_value.specs.Operators.{binary_of, index_of}
use Rattle.scad_value.specs.Answers.{member_of, wants_right}
use Rattle.scad_definitions.specs.Arguments.{parameter_names}
use Rattle.scad_definitions.specs.Blocks.{SourceFunction}
use Rattle.scad_func.specs.Meaning.{Outcome, Gives, then_with, or_fault, outcome_of_answer, ExpressionContext, value_at_next_depth, in_scope, InnerScope, no_activation, with_pairs, value_here}

-- the values of all arguments
abbrev pub all_values : ArgTerms → Terms
all_values no_args = no_terms
all_values (and_named at name value rest) = and_term value (all_values rest)
all_values (and_special at name value rest) = and_term value (all_values rest)
all_values (and_positional value rest) = and_term value (all_values rest)

-- the value of an argument
abbrev pub argument_of : ArgTerm → Term
argument_of (NamedTerm at name value) = value
argument_of (SpecialArgTerm at name value) = value
argument_of (PositionalTerm value) = value

-- whether an argument has a name
abbrev pub is_named : ArgTerm → Bool
is_named (NamedTerm at name value) = true
is_named (SpecialArgTerm at name value) = true
is_named (PositionalTerm value) = false

-- whether no argument has a name
abbrev pub have_no_names : ArgTerms → Bool
have_no_names no_args = true
have_no_names (and_named at name value rest) = false
have_no_names (and_special at name value rest) = false
have_no_names (and_positional value rest) = have_no_names rest

-- an index or a member of a value
abbrev pub suffix_value : ExpressionContext → Val → SuffixTerm → ℕ → Outcome Val
suffix_value here value (IndexTerm at index) turns =
    then_with (value_at_next_depth here true index turns) (λ turns number.
    outcome_of_answer (index_of value number) at turns)
suffix_value here value (MemberTerm at name name_at) turns =
    or_fault (member_of name) NotInProfile name_at (λ number.
    outcome_of_answer (index_of value (NumberVal number)) at turns)

-- an operator and its right side
abbrev pub link_value : ExpressionContext → Val → LinkTerm → ℕ → Outcome Val
link_value here value link turns =
    if wants_right link.op value
    then then_with (value_here here link.right turns)
    (λ turns other. outcome_of_answer (binary_of link.op value other) link.at turns)
    else Gives turns (TruthVal (truth_of value))

-- the value of a function whose parameters have values, in a scope of its own
abbrev pub with_parameters : ExpressionContext → SourceFunction → Vals → ℕ → Outcome Val
with_parameters defining_scope function values turns =
    value_at_next_depth (in_scope defining_scope
    (InnerScope (with_pairs (parameter_names function.params) values []) [] [] no_activation
    defining_scope.env)) true function.value turns
