-- One step more of a loop that holds values while it evaluates.
use Rattle.std.proofs.Common.{◌≡◌, ℕ, ◌+◌, List, [], ◌∷◌, length, true, Some, Result, Ok, Err, refl, sym, ap, subst, ◌∙◌}
use Rattle.std.specs.Prelude.{IsTrue, IfOk, IfErr, OnOk, OnErr}
use Rattle.std.proofs.lemmas.List.{map-append, length-append, length-set}
use Rattle.text_place.specs.declared.fault.Stop.{Stop}
use Rattle.text_place.specs.declared.fault.Stop.TheVariants.{Fault, NoMemory}
use Rattle.scad_value.specs.declared.value.Value.{Value}
use Rattle.scad_value.specs.Values.{Val, Vals, and_val, is_bounded}
use Rattle.scad_value.specs.View.{val_of, vals_in}
use Rattle.scad_value.specs.declared.bounded_value.BoundedValue.{BoundedValue}
use Rattle.scad_value.specs.BoundedView.{bounded_val}
use Rattle.scad_ast.specs.Terms.{ArgTerms, ArgTerm}
use Rattle.scad_definitions.specs.Arguments.{positional_after, DestinationTerm, to_parameter, to_special, destination_of, with_argument}
use Rattle.scad_func.specs.Meaning.{Outcome, Gives, ExpressionContext, value_at_next_depth, then_with, Arguments, each_argument}
use Rattle.scad_func.specs.Steps.{argument_of}
use Rattle.scad_func.specs.declared.values.BoundedValues.{BoundedValues}
use Rattle.scad_func.specs.View.{MeetsOutcome, IsNoMemory, IsOneMore, values_seen, arguments_of}
use Rattle.scad_value.specs.AnswerView.{IsUnboundedAnswer}
use Rattle.scad_func.proofs.lemmas.GivenSeen.{IsHeld}
use Rattle.scad_definitions.specs.declared.parameters.CallArguments.{CallArguments}
use Rattle.scad_func.proofs.Calls.{in_front}
use Rattle.scad_func.specs.declared.evaluation.Evaluation.{Evaluation}
use Rattle.scad_func.specs.Evaluations.{KeepsEvaluation, EvaluatesTo, expression_context_here}
use Rattle.scad_func.proofs.lemmas.Kept.{moved}
use Rattle.scad_func.proofs.lemmas.Outcomes.{meets_along, front_more, and_arg}
use Rattle.scad_func.proofs.Steps.{argument_more, argument_fault}

abbrev pub and_then : Outcome Val → (ℕ → Outcome Vals) → Outcome Vals
and_then step go = then_with step (λ turns v. then_with (go turns) (λ turns vs. Gives turns (and_val v vs)))

module _ (start : Outcome Vals) (before : BoundedValues) (now : Outcome Vals) (step : Outcome Val)
    (go : ℕ → Outcome Vals) (s : start ≡ in_front (vals_in before.items.items) now) (h : now ≡ and_then step go) where
  longer_told : (r : Result BoundedValue Stop) (longer : BoundedValues) (then : ℕ) → IsOneMore before r (Ok longer)
      → MeetsOutcome bounded_val r then step → start ≡ in_front (vals_in longer.items.items) (go then)
  longer_told (Ok v) longer then l t =
      s ∙ ap (in_front (vals_in before.items.items)) h
      ∙ ap (λ o. in_front (vals_in before.items.items) (and_then o go)) t
      ∙ front_more (vals_in before.items.items) (bounded_val v) (go then)
      ∙ ap (λ vs. in_front vs (go then)) (sym (ap vals_in l ∙ map-append val_of before.items.items (v.value ∷ [])))
  longer_told (Err stop) longer then l t = absurd l

  fault_told : (f : Stop) (m n : ℕ) → MeetsOutcome bounded_val (Err f) m step → MeetsOutcome values_seen (Err f) n start
  fault_told (Fault fault) m n t =
      s ∙ ap (in_front (vals_in before.items.items)) h ∙ ap (λ o. in_front (vals_in before.items.items) (and_then o go)) t
  fault_told NoMemory m n t = tt

  longer_fault : (r : Result BoundedValue Stop) (stop : Stop) (m n : ℕ) → IsOneMore before r (Err stop)
      → MeetsOutcome bounded_val r m step → MeetsOutcome values_seen (Err stop) n start
  longer_fault (Ok v) stop m n l t = subst (λ (x : Stop). MeetsOutcome values_seen (Err x) n start) (sym l) tt
  longer_fault (Err f) stop m n l t =
      subst (λ (x : Stop). MeetsOutcome values_seen (Err x) n start) (sym l) (fault_told f m n t)

-- one item more behind values so far, or its stop: the item gives what `step` says, and those behind it go on by `go`
module _ (first now : Evaluation) (kept : KeepsEvaluation first now) (before : BoundedValues) (start out : Outcome Vals)
    (step : ExpressionContext → ℕ → Outcome Val) (go : ℕ → Outcome Vals) (s : start ≡ in_front (vals_in before.items.items) out)
    (h : out ≡ and_then (step (expression_context_here first) now.turns) go) where
  told_here : (new : Evaluation) (r : Result BoundedValue Stop) → EvaluatesTo bounded_val now new r step
      → MeetsOutcome bounded_val r new.turns (step (expression_context_here first) now.turns)
  told_here new r e = meets_along r new.turns _ _ (moved (λ here. step here now.turns) kept) e.value

  pub item_told : (new : Evaluation) (r : Result BoundedValue Stop) (longer : BoundedValues) → IsOneMore before r (Ok longer)
      → EvaluatesTo bounded_val now new r step → start ≡ in_front (vals_in longer.items.items) (go new.turns)
  item_told new r longer l e =
      longer_told start before out (step (expression_context_here first) now.turns) go s h r longer new.turns l (told_here new r e)

  pub item_stops : (new : Evaluation) (r : Result BoundedValue Stop) (stop : Stop) (n : ℕ) → IsOneMore before r (Err stop)
      → EvaluatesTo bounded_val now new r step → MeetsOutcome values_seen (Err stop) n start
  item_stops new r stop n l e =
      longer_fault start before out (step (expression_context_here first) now.turns) go s h r stop new.turns n l (told_here new r e)

-- a value alone is told as its type tells it, and it is bounded
pub alone_meets : (r : Result BoundedValue Stop) (alone : Result Value Stop) (turns : ℕ) (out : Outcome Val)
    → IsUnboundedAnswer r alone → MeetsOutcome bounded_val r turns out → MeetsOutcome val_of alone turns out
alone_meets (Ok bounded) (Ok v) turns out e h = h ∙ ap (λ (x : Value). Gives turns (val_of x)) (sym e)
alone_meets (Ok bounded) (Err stop) turns out e h = absurd e
alone_meets (Err fault) (Ok v) turns out e h = absurd e
alone_meets (Err fault) (Err stop) turns out e h = stopped fault stop e h
  where
    stopped : (fault stop : Stop) → stop ≡ fault → MeetsOutcome bounded_val (Err fault) turns out → MeetsOutcome val_of (Err stop) turns out
    stopped (Fault fault) stop e h = subst (λ (x : Stop). MeetsOutcome val_of (Err x) turns out) (sym e) h
    stopped NoMemory stop e h = subst (λ (x : Stop). MeetsOutcome val_of (Err x) turns out) (sym e) tt

pub alone_bounded : (r : Result BoundedValue Stop) (alone : Result Value Stop) → IsUnboundedAnswer r alone
    → IfOk alone (λ v. IsTrue (is_bounded (val_of v)))
alone_bounded (Ok bounded) (Ok v) e = subst (λ (x : Value). IsTrue (is_bounded (val_of x))) (sym e) bounded.bounded
alone_bounded (Ok bounded) (Err stop) e = absurd e
alone_bounded (Err fault) (Ok v) e = absurd e
alone_bounded (Err fault) (Err stop) e = tt

-- what is said of any error, said of this one
pub if_err_at : {A E : Type 0} (P : E → Type 0) (r : Result A E) (e : E) → r ≡ Err e → IfErr r P → P e
if_err_at P r e is h = subst (λ x. IfErr x P) is h

pub if_ok_at : {A E : Type 0} (P : A → Type 0) (r : Result A E) (x : A) → r ≡ Ok x → IfOk r P → P x
if_ok_at P r x is h = subst (λ y. IfOk y P) is h

pub on_ok_at : {A E : Type 0} (P : Type 0) (r : Result A E) (x : A) → r ≡ Ok x → OnOk r P → P
on_ok_at P r x is h = subst (λ y. OnOk y P) is h

pub on_err_at : {A E : Type 0} (P : Type 0) (r : Result A E) (e : E) → r ≡ Err e → OnErr r P → P
on_err_at P r e is h = subst (λ y. OnErr y P) is h

-- nothing is said about running out of memory
pub none_told : {A B : Type 0} (see : A → B) (stop : Stop) (n : ℕ) (out : Outcome B) → IsNoMemory stop → MeetsOutcome see (Err stop) n out
none_told see (Fault fault) n out h = absurd h
none_told see NoMemory n out h = tt

pub longer_length : (before : BoundedValues) (r : Result BoundedValue Stop) (longer : BoundedValues)
    → IsOneMore before r (Ok longer) → length longer.items.items ≡ length before.items.items + 1
longer_length before (Ok v) longer l = ap length l ∙ length-append before.items.items (v.value ∷ [])
longer_length before (Err stop) longer l = absurd l

-- one argument more has a value
pub argument_held : (here : ExpressionContext) (names : List (List ℕ)) (positional : ℕ) (start : Outcome Arguments) (args : ArgTerms)
    (before : Arguments) (turns : ℕ)
    → start ≡ each_argument here names positional args before turns
    → (a : ArgTerm) (rest : ArgTerms) (target : DestinationTerm) (then p : ℕ) (r : Result BoundedValue Stop) (after : CallArguments BoundedValue)
    → args ≡ and_arg a rest → destination_of names positional before a ≡ Some target
    → MeetsOutcome bounded_val r then (value_at_next_depth here true (argument_of a) turns) → IsHeld before target r (Ok after)
    → p ≡ positional_after positional a → start ≡ each_argument here names p rest (arguments_of after) then
argument_held here names positional start args before turns b a rest target then p (Ok v) after e f t g q =
    argument_more here names positional start args before turns b a rest target then (bounded_val v) p
    (arguments_of after) e f t q g
argument_held here names positional start args before turns b a rest target then p (Err stop) after e f t g q = absurd g

pub argument_stops : (here : ExpressionContext) (names : List (List ℕ)) (positional : ℕ) (start : Outcome Arguments) (args : ArgTerms)
    (before : Arguments) (turns : ℕ)
    → start ≡ each_argument here names positional args before turns
    → (a : ArgTerm) (rest : ArgTerms) (target : DestinationTerm) (m n : ℕ) (r : Result BoundedValue Stop) (stop : Stop)
    → args ≡ and_arg a rest → destination_of names positional before a ≡ Some target
    → MeetsOutcome bounded_val r m (value_at_next_depth here true (argument_of a) turns) → IsHeld before target r (Err stop)
    → MeetsOutcome arguments_of (Err stop) n start
argument_stops here names positional start args before turns b a rest target m n (Ok v) stop e f t g =
    subst (λ (x : Stop). MeetsOutcome arguments_of (Err x) n start) (sym g) tt
argument_stops here names positional start args before turns b a rest target m n (Err fault) stop e f t g =
    subst (λ (x : Stop). MeetsOutcome arguments_of (Err x) n start) (sym g)
    (argument_fault here names positional start args before turns b a rest target m n fault e f t)

taker_length : (given : Arguments) (target : DestinationTerm) (v : Val) → length (with_argument given target v).bound ≡ length given.bound
taker_length given (to_parameter k) v = length-set given.bound k (Some v)
taker_length given (to_special name) v = refl

pub argument_held_length : (before : Arguments) (target : DestinationTerm) (r : Result BoundedValue Stop)
    (after : CallArguments BoundedValue) → IsHeld before target r (Ok after)
    → length (arguments_of after).bound ≡ length before.bound
argument_held_length before target (Ok v) after g = ap (λ (given : Arguments). length given.bound) g ∙ taker_length before target (bounded_val v)
argument_held_length before target (Err stop) after g = absurd g
