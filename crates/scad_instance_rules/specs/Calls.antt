-- What calls of built-in modules are given, and what the evaluator's pieces tell of them.
use Rattle.std.specs.Prelude.{◌≡◌, ℕ, true, [], Result, Ok, Err}
use Rattle.plain_text.specs.declared.place.Place.{Place}
use Rattle.text_place.specs.declared.fault.Stop.{Stop}
use Rattle.text_place.specs.declared.fault.Stop.TheVariants.{Fault, NoMemory}
use Rattle.text_place.specs.declared.fault.FaultKind.TheVariants.{BadArgument}
use Rattle.scad_ast.specs.Terms.{ArgTerm, NamedTerm, SpecialArgTerm, PositionalTerm}
use Rattle.scad_value.specs.Operators.{AnswerOrFault}
use Rattle.scad_definitions.specs.Arguments.{destination_of, with_argument}
use Rattle.scad_func.specs.Meaning.{Outcome, Gives, then_with, or_fault, Arguments, ExpressionContext, value_at_next_depth}
use Rattle.scad_modules.specs.declared.effects.Effect.{Effect}
use Rattle.scad_modules.specs.Effects.{EffectCall}
use Rattle.scad_modules.specs.View.{effect_call_of}

-- the effect of a call, or its fault at a place, unless memory ran out
abbrev pub MeetsEffectAt : Result Effect Stop → Place → AnswerOrFault EffectCall → Type 0
MeetsEffectAt (Ok effect) at answer = answer ≡ Ok (effect_call_of effect)
MeetsEffectAt (Err (Fault fault)) at answer = (answer ≡ Err fault.kind) × (fault.place ≡ at)
MeetsEffectAt (Err NoMemory) at answer = Unit {0}

-- the arguments of `echo` with one more, which gives something where it is a special one
abbrev pub with_echo_argument : ExpressionContext → ArgTerm → Arguments → ℕ → Outcome Arguments
with_echo_argument here (NamedTerm at name expression) given turns = then_with (value_at_next_depth here true expression turns) (λ turns value. Gives turns given)
with_echo_argument here (SpecialArgTerm at name expression) given turns =
    or_fault (destination_of [] 0 given (SpecialArgTerm at name expression)) BadArgument at (λ target.
    then_with (value_at_next_depth here true expression turns) (λ turns value. Gives turns (with_argument given target value)))
with_echo_argument here (PositionalTerm expression) given turns = then_with (value_at_next_depth here true expression turns) (λ turns value. Gives turns given)
