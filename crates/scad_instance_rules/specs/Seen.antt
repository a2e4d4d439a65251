-- What designs in memory stand for, and what the evaluator's steps tell.
use Rattle.std.specs.Prelude.{◌≡◌, ℕ, Bool, map, option_map, Result, Ok, Err, if◌then◌else◌}
use Rattle.text_place.specs.declared.fault.Stop.{Stop}
use Rattle.text_place.specs.declared.fault.Stop.TheVariants.{Fault, NoMemory}
use Rattle.plain_text.specs.declared.place.Place.{Place}
use Rattle.text_place.specs.declared.fault.FaultKind.TheVariants.{NotInProfile}
use Rattle.scad_ast.specs.Terms.{BodyTerm}
use Rattle.primitives.specs.declared.stop.ShapeStop.{ShapeStop}
use Rattle.primitives.specs.declared.stop.ShapeStop.TheVariants as shapes
use Rattle.scad_design.specs.View.{plain_of}
use Rattle.scad_func.specs.Meaning.{Outcome, Gives, Faults, then_with}
use Rattle.scad_func.specs.View.{MeetsOutcome}
use Rattle.scad_instance_rules.specs.declared.position.InstanceResult.{InstanceResult}
use Rattle.scad_instance_rules.specs.declared.position.MemberResults.{MemberResults}
use Rattle.scad_meaning.specs.Bodies.{is_bare}
use Rattle.scad_meaning.specs.Meaning.{InstanceDesign, MemberDesigns, as_member, and_members, no_design}

-- what an instance gave, with the leaves so far
abbrev pub instance_design_of : ℕ → InstanceResult → InstanceDesign
instance_design_of leaves result = record { leaves = leaves; design = plain_of result.design; root = option_map plain_of result.root }

-- what members gave, with the leaves so far
abbrev pub member_designs_of : ℕ → MemberResults → MemberDesigns
member_designs_of leaves members = record {
  leaves = leaves;
  designs = map plain_of members.designs.items;
  root = option_map plain_of members.root;
}

-- one member, or none where the instance is no member
abbrev pub one_member_of : Bool → ℕ → InstanceResult → MemberDesigns
one_member_of is_member leaves result = as_member is_member (instance_design_of leaves result)

-- what was given, with the turns and the leaves so far, or the fault, unless memory ran out
pub record HasOutcome {A B : Type 0} (see : ℕ → A → B) (result : Result A Stop) (turns leaves : ℕ) (out : Outcome B) : Type 0 where
  pub is : MeetsOutcome (see leaves) result turns out

-- members with those that are given next, unless memory ran out or nothing was given
abbrev pub IsLengthened : {A : Type 0} → (ℕ → A → MemberDesigns) → MemberResults → Result A Stop → Result MemberResults Stop → Type 0
IsLengthened see before (Ok x) (Ok after) =
    (start leaves : ℕ) → member_designs_of leaves after ≡ and_members (member_designs_of start before) (see leaves x)
IsLengthened see before (Ok x) (Err stop) = stop ≡ NoMemory
IsLengthened see before (Err fault) (Ok after) = ⊥
IsLengthened see before (Err fault) (Err stop) = stop ≡ fault

-- what members give behind others
abbrev pub members_in_front : MemberDesigns → Outcome MemberDesigns → Outcome MemberDesigns
members_in_front before out = then_with out (λ turns members. Gives turns (and_members before members))

-- a stop of a shape, at a place
abbrev pub IsStopAt : ShapeStop → Place → Stop → Type 0
IsStopAt (shapes.Kind kind) at stop = stop ≡ Fault (record { kind = kind; place = at })
IsStopAt shapes.NoMemory at stop = stop ≡ NoMemory

-- a call that has no geometry gives nothing, or is refused where it has a body
abbrev pub MeetsNoGeometry : Result InstanceResult Stop → Place → BodyTerm → Type 0
MeetsNoGeometry result at body = (turns leaves : ℕ) → HasOutcome instance_design_of result turns leaves
    (if is_bare body then Gives turns (no_design leaves) else Faults NotInProfile at)
