-- The arguments of a call that give values: what takes an argument by its number has its value.
use Rattle.std.proofs.Common.{◌≡◌, ℕ, zero, suc, ◌+◌, List, [], ◌∷◌, map, set, replicate, true, false, Option, Some, None, is_some, option_map, refl, sym, ap, ◌∙◌, arith}
use Rattle.plain_text.specs.declared.place.Place.{Place}
use Rattle.text_place.specs.declared.fault.FaultKind.TheVariants.{BadArgument}
use Rattle.scad_ast.specs.Terms.{Term, ArgTerm, NamedTerm, SpecialArgTerm, PositionalTerm, args_from, place_of_term}
use Rattle.scad_value.specs.Values.{Val, Vals, no_vals, and_val}
use Rattle.scad_scope.specs.Names.{Pairs}
use Rattle.scad_definitions.specs.Arguments.{ArgumentsOf, DestinationTerm, no_arguments_of, to_parameter, to_special, destination_of, with_argument, or_place, argument_place, match_arguments}
use Rattle.scad_definitions.specs.Lookup.{names_of_pairs}
use Rattle.scad_func.specs.Meaning.{Outcome, Gives, Faults, then_with, or_fault, ExpressionContext, value_at_next_depth, each_value, Arguments, each_argument}
use Rattle.scad_func.specs.Steps.{all_values}
use Rattle.scad_func.specs.View.{pair_numbered, with_values_by_number, outcome_of_matching}
use Rattle.scad_func.proofs.FilledAlike.{Alike, taker_alike}
use Rattle.scad_value.specs.Operators.{item_at}

-- What is given by numbers, with the values at these.
module _ (all : Vals) where
  same_filled : (bound : List (Option ℕ)) → map is_some (map (option_map (item_at all)) bound) ≡ map is_some bound
  same_filled [] = refl
  same_filled (None ∷ bound) = ap (λ l. false ∷ l) (same_filled bound)
  same_filled (Some number ∷ bound) = ap (λ l. true ∷ l) (same_filled bound)

  same_names : (pairs : Pairs ℕ) → names_of_pairs (map (pair_numbered all) pairs) ≡ names_of_pairs pairs
  same_names [] = refl
  same_names (pair ∷ pairs) = ap (λ l. pair.0 ∷ l) (same_names pairs)

  valued_alike : (m : ArgumentsOf ℕ) → Alike (with_values_by_number all m) m
  valued_alike m = (same_filled m.bound, same_names m.dynamic)

  set_valued : (bound : List (Option ℕ)) (k number : ℕ)
      → set (map (option_map (item_at all)) bound) k (Some (item_at all number)) ≡ map (option_map (item_at all)) (set bound k (Some number))
  set_valued [] k number = refl
  set_valued (x ∷ bound) zero number = refl
  set_valued (x ∷ bound) (suc k) number = ap (λ l. option_map (item_at all) x ∷ l) (set_valued bound k number)

  more_valued : (m : ArgumentsOf ℕ) (target : DestinationTerm) (number : ℕ) → with_argument (with_values_by_number all m) target (item_at all number) ≡ with_values_by_number all (with_argument m target number)
  more_valued m (to_parameter k) number = ap (λ bound. record { bound = bound; dynamic = map (pair_numbered all) m.dynamic }) (set_valued m.bound k number)
  more_valued m (to_special name) number = refl

  none_valued : (n : ℕ) → map (option_map (item_at all)) (replicate n None) ≡ replicate n None
  none_valued zero = refl
  none_valued (suc n) = ap (λ l. None ∷ l) (none_valued n)

  pub nothing_valued : (n : ℕ) → with_values_by_number all (no_arguments_of n) ≡ no_arguments_of n
  nothing_valued n = ap (λ bound. record { bound = bound; dynamic = [] }) (none_valued n)

-- Where each argument gives a value, they are matched with these, or the first that nothing takes is the fault.
module _ (here : ExpressionContext) (names : List (List ℕ)) (all : Vals) where
  -- these are the values from a number on
  abbrev pub AreFrom : ℕ → Vals → Type 0
  AreFrom number values = (k : ℕ) → item_at all (number + k) ≡ item_at values k

  abbrev pub AreMatched : (number positional : ℕ) → List ArgTerm → Type 0
  AreMatched number positional args = (turns then : ℕ) (values : Vals) (m : ArgumentsOf ℕ) → AreFrom number values
      → each_value here (all_values (args_from args)) turns ≡ Gives then values
      → each_argument here names positional (args_from args) (with_values_by_number all m) turns ≡ outcome_of_matching all then (match_arguments names number positional args m)

  module _ (number positional next : ℕ) (a : ArgTerm) (args : List ArgTerm) (at : Place) (value : Term)
      (rest : AreMatched (number + 1) next args) (then : ℕ) (values : Vals) (m : ArgumentsOf ℕ) (from : AreFrom number values) where
    with_rest : (turns : ℕ) (v : Val) (out : Outcome Vals) → each_value here (all_values (args_from args)) turns ≡ out
        → then_with out (λ turns vs. Gives turns (and_val v vs)) ≡ Gives then values → (target : DestinationTerm)
        → each_argument here names next (args_from args) (with_argument (with_values_by_number all m) target v) turns
        ≡ outcome_of_matching all then (match_arguments names (number + 1) next args (with_argument m target number))
    with_rest turns v (Gives u vs) e h target =
        ap (λ (x : Val). each_argument here names next (args_from args) (with_argument (with_values_by_number all m) target x) turns) (sym first)
        ∙ ap (λ (g : Arguments). each_argument here names next (args_from args) g turns) (more_valued all m target number)
        ∙ rest turns then vs (with_argument m target number) later (e ∙ ap (λ n. Gives n vs) (same_turns h))
      where
        same_turns : ◌≡◌ {A = Outcome Vals} (Gives u (and_val v vs)) (Gives then values) → u ≡ then
        same_turns i = cc

        same_values : ◌≡◌ {A = Outcome Vals} (Gives u (and_val v vs)) (Gives then values) → and_val v vs ≡ values
        same_values i = cc

        first : item_at all number ≡ v
        first =
            let here_first : number ≡ number + 0 = omega arith in
            ap (item_at all) here_first ∙ from 0 ∙ ap (λ l. item_at l 0) (sym (same_values h))

        later : AreFrom (number + 1) vs
        later k =
            let one_on : number + 1 + k ≡ number + suc k = omega arith in
            ap (item_at all) one_on ∙ from (suc k) ∙ ap (λ l. item_at l (suc k)) (sym (same_values h))
    with_rest turns v (Faults kind place) e h target = absurd (no h)
      where
        no : ◌≡◌ {A = Outcome Vals} (Faults kind place) (Gives then values) → ⊥
        no i = cc

    with_value : (out : Outcome Val)
        → then_with out (λ turns v. then_with (each_value here (all_values (args_from args)) turns) (λ turns vs. Gives turns (and_val v vs))) ≡ Gives then values
        → (target : DestinationTerm) → then_with out (λ turns v. each_argument here names next (args_from args) (with_argument (with_values_by_number all m) target v) turns)
        ≡ outcome_of_matching all then (match_arguments names (number + 1) next args (with_argument m target number))
    with_value (Gives turns v) h target = with_rest turns v (each_value here (all_values (args_from args)) turns) refl h target
    with_value (Faults kind place) h target = absurd (no h)
      where
        no : ◌≡◌ {A = Outcome Vals} (Faults kind place) (Gives then values) → ⊥
        no i = cc

    pub one_matched : (turns : ℕ) (found : Option DestinationTerm) → destination_of names positional m a ≡ found → at ≡ argument_place a
        → then_with (value_at_next_depth here true value turns) (λ turns v. then_with (each_value here (all_values (args_from args)) turns) (λ turns vs. Gives turns (and_val v vs))) ≡ Gives then values
        → or_fault found BadArgument at (λ target. then_with (value_at_next_depth here true value turns) (λ turns v.
        each_argument here names next (args_from args) (with_argument (with_values_by_number all m) target v) turns))
        ≡ outcome_of_matching all then (or_place (destination_of names positional m a) (argument_place a) (λ target.
        match_arguments names (number + 1) next args (with_argument m target number)))
    one_matched turns (Some target) e place h =
        with_value (value_at_next_depth here true value turns) h target
        ∙ ap (λ o. outcome_of_matching all then (or_place o (argument_place a) (λ target. match_arguments names (number + 1) next args (with_argument m target number)))) (sym e)
    one_matched turns None e place h =
        ap (λ p. Faults BadArgument p) place
        ∙ ap (λ o. outcome_of_matching all then (or_place o (argument_place a) (λ target. match_arguments names (number + 1) next args (with_argument m target number)))) (sym e)

  pub all_matched : (args : List ArgTerm) (number positional : ℕ) → AreMatched number positional args
  all_matched [] number positional turns then values m from h = ap (λ n. Gives n (with_values_by_number all m)) (same h)
    where
      same : ◌≡◌ {A = Outcome Vals} (Gives turns no_vals) (Gives then values) → turns ≡ then
      same i = cc
  all_matched (NamedTerm at name value ∷ args) number positional turns then values m from h =
      one_matched number positional positional (NamedTerm at name value) args at value (all_matched args (number + 1) positional) then values m from
      turns (destination_of names positional (with_values_by_number all m) (NamedTerm at name value))
      (sym (taker_alike (with_values_by_number all m) m (valued_alike all m) names positional (NamedTerm at name value))) refl h
  all_matched (SpecialArgTerm at name value ∷ args) number positional turns then values m from h =
      one_matched number positional positional (SpecialArgTerm at name value) args at value (all_matched args (number + 1) positional) then values m from
      turns (destination_of names positional (with_values_by_number all m) (SpecialArgTerm at name value))
      (sym (taker_alike (with_values_by_number all m) m (valued_alike all m) names positional (SpecialArgTerm at name value))) refl h
  all_matched (PositionalTerm value ∷ args) number positional turns then values m from h =
      one_matched number positional (positional + 1) (PositionalTerm value) args (place_of_term value) value (all_matched args (number + 1) (positional + 1)) then values m from
      turns (destination_of names positional (with_values_by_number all m) (PositionalTerm value))
      (sym (taker_alike (with_values_by_number all m) m (valued_alike all m) names positional (PositionalTerm value))) refl h

-- Where the arguments of a call give values, each of them gave one.
module _ (here : ExpressionContext) (names : List (List ℕ)) where
  abbrev pub GaveValues : ℕ → List ArgTerm → Type 0
  GaveValues positional args = (turns then : ℕ) (g given : Arguments) → each_argument here names positional (args_from args) g turns ≡ Gives then given
      → (values : Vals) × (each_value here (all_values (args_from args)) turns ≡ Gives then values)

  module _ (next : ℕ) (args : List ArgTerm) (at : Place) (value : Term) (rest : GaveValues next args) (then : ℕ) (g given : Arguments) where
    value_gave : (target : DestinationTerm) (out : Outcome Val)
        → then_with out (λ turns v. each_argument here names next (args_from args) (with_argument g target v) turns) ≡ Gives then given
        → (values : Vals) × (then_with out (λ turns v. then_with (each_value here (all_values (args_from args)) turns) (λ turns vs. Gives turns (and_val v vs))) ≡ Gives then values)
    value_gave target (Gives turns v) h =
        let more = rest turns then (with_argument g target v) given h in
        (and_val v more.0, ap (λ (out : Outcome Vals). then_with out (λ turns vs. Gives turns (and_val v vs))) more.1)
    value_gave target (Faults kind place) h = absurd (no h)
      where
        no : ◌≡◌ {A = Outcome Arguments} (Faults kind place) (Gives then given) → ⊥
        no i = cc

    pub one_gave : (turns : ℕ) (found : Option DestinationTerm)
        → or_fault found BadArgument at (λ target. then_with (value_at_next_depth here true value turns) (λ turns v.
        each_argument here names next (args_from args) (with_argument g target v) turns)) ≡ Gives then given
        → (values : Vals) × (then_with (value_at_next_depth here true value turns) (λ turns v. then_with (each_value here (all_values (args_from args)) turns) (λ turns vs. Gives turns (and_val v vs))) ≡ Gives then values)
    one_gave turns (Some target) h = value_gave target (value_at_next_depth here true value turns) h
    one_gave turns None h = absurd (no h)
      where
        no : ◌≡◌ {A = Outcome Arguments} (Faults BadArgument at) (Gives then given) → ⊥
        no i = cc

  pub all_gave : (args : List ArgTerm) (positional : ℕ) → GaveValues positional args
  all_gave [] positional turns then g given h = (no_vals, ap (λ n. Gives n no_vals) (same h))
    where
      same : ◌≡◌ {A = Outcome Arguments} (Gives turns g) (Gives then given) → turns ≡ then
      same i = cc
  all_gave (NamedTerm at name value ∷ args) positional turns then g given h =
      one_gave positional args at value (all_gave args positional) then g given turns (destination_of names positional g (NamedTerm at name value)) h
  all_gave (SpecialArgTerm at name value ∷ args) positional turns then g given h =
      one_gave positional args at value (all_gave args positional) then g given turns (destination_of names positional g (SpecialArgTerm at name value)) h
  all_gave (PositionalTerm value ∷ args) positional turns then g given h =
      one_gave (positional + 1) args (place_of_term value) value (all_gave args (positional + 1)) then g given turns (destination_of names positional g (PositionalTerm value)) h
