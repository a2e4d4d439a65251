-- One argument more of `echo`.
use Rattle.std.proofs.Common.{◌≡◌, ℕ, List, [], true, Option, Some, None, Result, Ok, Err, sym, ap, subst, ◌∙◌}
use Rattle.text_place.specs.declared.fault.Stop.{Stop}
use Rattle.text_place.specs.declared.fault.Stop.TheVariants.{Fault, NoMemory}
use Rattle.plain_text.specs.declared.place.Place.{Place}
use Rattle.text_place.specs.declared.fault.FaultKind.TheVariants.{BadArgument}
use Rattle.scad_ast.specs.declared.expression.Expr.{Expr}
use Rattle.scad_ast.specs.declared.expression.Arg.{Arg, Special}
use Rattle.scad_ast.specs.declared.expression.Arg.TheVariants.{rolls-Special}
use Rattle.scad_ast.specs.declared.expression.Arg.TheOpen.{Arg::Special as SpecialIn}
use Rattle.scad_ast.specs.declared.expression.Arg.TheFolds.{fold-roll-Arg}
use Rattle.scad_ast.specs.Terms.{Term, ArgTerm, SpecialArgTerm, SuffixTerm, LinkTerm}
use Rattle.scad_ast.specs.ExprView.{Form, term_of, arg_of, arg_step, expr_step, suffix_step, args_step, call_step, chain_step, choice_step, exprs_step, link_step, links_step, postfix_step, range_step, stepped_range_step, suffixes_step}
use Rattle.scad_value.specs.declared.bounded_value.BoundedValue.{BoundedValue}
use Rattle.scad_value.specs.BoundedView.{bounded_val}
use Rattle.scad_value.specs.Values.{Val}
use Rattle.scad_definitions.specs.Arguments.{DestinationTerm, destination_of, argument_place, with_argument}
use Rattle.scad_definitions.specs.ArgumentsView.{call_arguments_of, destination_term, IsFaultAt, IsOneMoreGiven}
use Rattle.scad_definitions.specs.declared.parameters.Destination.{Destination}
use Rattle.scad_definitions.specs.declared.parameters.CallArguments.{CallArguments}
use Rattle.scad_func.specs.Meaning.{Outcome, Gives, then_with, or_fault, ExpressionContext, value_at_next_depth, Arguments}
use Rattle.scad_func.specs.View.{MeetsOutcome, arguments_of}
use Rattle.scad_func.proofs.lemmas.GivenSeen.{IsHeld, taker_given, held_seen}
use Rattle.scad_func.proofs.lemmas.Outcomes.{fault_at}
use Rattle.scad_instance_rules.specs.Calls.{with_echo_argument}

pub special_form : (a : Arg) (at : Place) (name : List ℕ) (value : Expr) → a ≡ Special at name value → arg_of a ≡ SpecialArgTerm at name (term_of value)
special_form a at name value is = ap arg_of is ∙ ap arg_of (sym (rolls-Special at name value))
    ∙ fold-roll-Arg ArgTerm Term SuffixTerm (List ArgTerm) Form Form Form (List Term) LinkTerm (List LinkTerm) Form Form Form (List SuffixTerm) arg_step expr_step suffix_step args_step call_step chain_step choice_step exprs_step link_step links_step postfix_step range_step stepped_range_step suffixes_step (SpecialIn at name value)

-- a special argument, by what takes it
module _ (here : ExpressionContext) (at : Place) (name : List ℕ) (value : Term) (given : Arguments) (turns : ℕ) where
  abbrev with_value : DestinationTerm → Outcome Val → Outcome Arguments
  with_value target out = then_with out (λ turns v. Gives turns (with_argument given target v))

  by_taker : (target : Option DestinationTerm) → destination_of [] 0 given (SpecialArgTerm at name value) ≡ target
      → with_echo_argument here (SpecialArgTerm at name value) given turns
      ≡ or_fault target BadArgument at (λ target. with_value target (value_at_next_depth here true value turns))
  by_taker target e = ap (λ o. or_fault o BadArgument at (λ target. with_value target (value_at_next_depth here true value turns))) e

  special_stops : (target : DestinationTerm) → destination_of [] 0 given (SpecialArgTerm at name value) ≡ Some target → (stop : Stop) (then : ℕ)
      → MeetsOutcome bounded_val (Err stop) then (value_at_next_depth here true value turns)
      → MeetsOutcome arguments_of (Err stop) then (with_echo_argument here (SpecialArgTerm at name value) given turns)
  special_stops target e (Fault fault) then t = by_taker (Some target) e ∙ ap (with_value target) t
  special_stops target e NoMemory then t = tt

  special_said : (target : DestinationTerm) → destination_of [] 0 given (SpecialArgTerm at name value) ≡ Some target → (then : ℕ)
      (r : Result BoundedValue Stop) (after : Result (CallArguments BoundedValue) Stop) → MeetsOutcome bounded_val r then (value_at_next_depth here true value turns)
      → IsHeld given target r after
      → MeetsOutcome arguments_of after then (with_echo_argument here (SpecialArgTerm at name value) given turns)
  special_said target e then (Ok v) (Ok after) t held =
      by_taker (Some target) e ∙ ap (with_value target) t ∙ ap (λ (x : Arguments). Gives then x) (sym held)
  special_said target e then (Ok v) (Err stop) t held =
      subst (λ (x : Stop). MeetsOutcome arguments_of (Err x) then (with_echo_argument here (SpecialArgTerm at name value) given turns)) (sym held) tt
  special_said target e then (Err fault) (Ok after) t held = absurd held
  special_said target e then (Err fault) (Err stop) t held =
      subst (λ (x : Stop). MeetsOutcome arguments_of (Err x) then (with_echo_argument here (SpecialArgTerm at name value) given turns)) (sym held)
      (special_stops target e fault then t)

-- a special argument of `echo`, of a name that something takes, and of one that was given before
module _ (here : ExpressionContext) (a : ArgTerm) (at : Place) (name : List ℕ) (value : Term) (is : a ≡ SpecialArgTerm at name value)
    (names : List (List ℕ)) (g : CallArguments BoundedValue) (turns : ℕ) where
  taker_same : (target : Option DestinationTerm) → destination_of names 0 (call_arguments_of g) a ≡ target → destination_of [] 0 (arguments_of g) (SpecialArgTerm at name value) ≡ target
  taker_same target e = ap (destination_of names 0 (arguments_of g)) (sym is) ∙ taker_given names 0 g a ∙ e

  pub taken : (d : Destination) (then : ℕ) (r : Result BoundedValue Stop) (after : Result (CallArguments BoundedValue) Stop)
      → destination_of names 0 (call_arguments_of g) a ≡ Some (destination_term d) → MeetsOutcome bounded_val r then (value_at_next_depth here true value turns) → IsOneMoreGiven g d r after
      → MeetsOutcome arguments_of after then (with_echo_argument here a (arguments_of g) turns)
  taken d then r after e t given =
      subst (λ x. MeetsOutcome arguments_of after then (with_echo_argument here x (arguments_of g) turns)) (sym is)
      (special_said here at name value (arguments_of g) turns (destination_term d) (taker_same (Some (destination_term d)) e) then r after t
      (held_seen g d r after given))

  pub refused : (stop : Stop) (then : ℕ) → destination_of names 0 (call_arguments_of g) a ≡ None → IsFaultAt stop BadArgument (argument_place a)
      → MeetsOutcome arguments_of (Err stop) then (with_echo_argument here a (arguments_of g) turns)
  refused stop then e fault =
      subst (λ x. MeetsOutcome arguments_of (Err stop) then (with_echo_argument here x (arguments_of g) turns)) (sym is)
      (fault_at arguments_of stop then BadArgument at (with_echo_argument here (SpecialArgTerm at name value) (arguments_of g) turns)
      (by_taker here at name value (arguments_of g) turns None (taker_same None e)) (subst (λ x. IsFaultAt stop BadArgument (argument_place x)) is fault))
