-- How many parts designs have: at most as many as there are leaves, and no join of theirs has an empty side.
use Rattle.std.proofs.Common.{◌≡◌, ℕ, zero, suc, ◌+◌, ◌*◌, ◌<◌, ◌≤◌, ◌^◌, Bool, true, false, ◌&&◌, nat_lt, nat_eq, List, [], ◌∷◌, ◌++◌, length, Option, Some, None, Ok, Err, refl, subst, arith, if◌then◌else◌}
use Rattle.std.specs.Prelude.{All, is_some, codes}
use Rattle.std.specs.List.{sum_by}
use Rattle.std.proofs.lemmas.Bool.Decides.{nat_tests}
use Rattle.std.proofs.lemmas.List.Sums.{sum_by-append, sum_by-cons}
use Rattle.std.proofs.lemmas.List.Elements.{All-nil, All-cons, All-append}
use Rattle.plain_text.specs.declared.place.Place.{Place}
use Rattle.text_place.specs.declared.fault.FaultKind.{FaultKind}
use Rattle.text_place.specs.declared.fault.FaultKind.TheVariants.{TypeMismatch, TooManyTurns, TooManyParts, NotInProfile}
use Rattle.csg_tree.specs.declared.op.Op.{Op}
use Rattle.csg_tree.specs.declared.op.Op.TheVariants.{Union, Intersection}
use Rattle.int_transform.specs.declared.affine.Affine.{Affine}
use Rattle.plane_predicate.specs.declared.unit.Unit.{Unit as LengthUnit}
use Rattle.primitives.specs.Shapes.{Mesh}
use Rattle.scad_ast.specs.Terms.{BinderTerm, StatementTerms, InstanceTerm, CoreTerm, IfTerm, IfElseTerm, ForTerm, IntersectionForTerm, ModuleCallTerm, BodyTerm, ArgTerm, args_from}
use Rattle.scad_value.specs.Values.{Val, Vals, no_vals, and_val, truth_of}
use Rattle.scad_value.specs.Operators.{AnswerOrFault}
use Rattle.scad_scope.specs.Names.{Pairs, find_in}
use Rattle.scad_definitions.specs.Arguments.{parameter_names, no_arguments_of}
use Rattle.scad_definitions.specs.Blocks.{SourceModule, assignments_of, statements_of_body}
use Rattle.scad_func.specs.Limits.{most_evaluations, most_turns}
use Rattle.scad_func.specs.Meaning.{Outcome, Gives, Faults, then_with, or_fault, Env, Activation, no_activation, activation, visible_module, activation_in, entered_scope, turn, one_call_fewer, value_at_next_depth, Arguments, each_argument, each_parameter}
use Rattle.scad_modules.specs.declared.table.BuiltinModule.{BuiltinModule}
use Rattle.scad_modules.specs.Table.{builtin_module_of}
use Rattle.scad_modules.specs.Effects.{EffectCall, a_solid, a_flat, a_move, a_join, a_hull, an_extrusion, no_geometry, some_children, FlatCall, ChosenCall}
use Rattle.scad_modules.specs.Calls.{effect_of}
use Rattle.scad_design.specs.Designs.{DesignTree, a_leaf, balanced_join, join_children, moved_design_tree}
use Rattle.scad_design.specs.Trees.{leaf_count, tree_size, IsTrim}
use Rattle.scad_meaning.specs.declared.extrusion.Extrusion.{Extrusion}
use Rattle.scad_meaning.specs.Hulls.{is_nothing, hull_mesh}
use Rattle.scad_meaning.specs.Verdicts.{Judge, Verdict, solid_mesh, extrusion_mesh}
use Rattle.scad_meaning.specs.Bodies.{has_root_modifier, has_no_geometry, is_bare}
use Rattle.scad_meaning.specs.Loops.{iterated_values}
use Rattle.scad_meaning.specs.Meaning.{Context, inside_scope, with_bindings, with_calls_left, inside_root, inside_extrusion, expression_context, InstanceDesign, MemberDesigns, first_root, no_design, no_members, as_member, and_members, joined_members, moved_design, EvaluatesInstance, Evaluator, each_assignment, core_of_instance, each_member, each_in_scope, each_in_body, body_design, turn_after_step, each_step, in_loop, each_iteration, loop_design, leaf_design, unless_refused, with_leaf_of, hull_design, answered_with, module_scope, module_design, arguments_for, children_design, chosen_children, turn_after_call, flat_design, effect_design, built_in_design, call_design, core_design, root_design, instance_design, design_within, evaluator_with, program_context, root_or_union, design_of, counted_step, instances_chosen, block_members, module_with_arguments, most_leaves}

-- what holds of that which an outcome gives
abbrev Has : {A : Type 0} → (A → Type 0) → Outcome A → Type 0
Has P (Gives turns x) = P x
Has P (Faults kind at) = Unit {0}

then_has : {A B : Type 0} (P : A → Type 0) (Q : B → Type 0) (out : Outcome A) (go : ℕ → A → Outcome B)
    → Has P out → ((turns : ℕ) (x : A) → P x → Has Q (go turns x)) → Has Q (then_with out go)
then_has P Q (Gives turns x) go h g = g turns x h
then_has P Q (Faults kind at) go h g = tt

skip_has : {A B : Type 0} (Q : B → Type 0) (out : Outcome A) (go : ℕ → A → Outcome B)
    → ((turns : ℕ) (x : A) → Has Q (go turns x)) → Has Q (then_with out go)
skip_has Q (Gives turns x) go g = g turns x
skip_has Q (Faults kind at) go g = tt

if_has : {A : Type 0} (Q : A → Type 0) (b : Bool) (x y : Outcome A) → Has Q x → Has Q y → Has Q (if b then x else y)
if_has Q true x y h g = h
if_has Q false x y h g = g

option_has : {A B : Type 0} (Q : B → Type 0) (o : Option A) (kind : FaultKind) (at : Place) (go : A → Outcome B)
    → ((x : A) → Has Q (go x)) → Has Q (or_fault o kind at go)
option_has Q None kind at go g = tt
option_has Q (Some x) kind at go g = g x

turn_has : {A : Type 0} (Q : A → Type 0) (at : Place) (turns : ℕ) (go : ℕ → Outcome A)
    → ((n : ℕ) → Has Q (go n)) → Has Q (turn at turns go)
turn_has Q at turns go g = if_has Q (nat_lt turns most_turns) (go (turns + 1)) (Faults TooManyTurns at) (g (turns + 1)) tt

call_has : {A : Type 0} (Q : A → Type 0) (calls : ℕ) (at : Place) (go : ℕ → Outcome A)
    → ((n : ℕ) → Has Q (go n)) → Has Q (one_call_fewer calls at go)
call_has Q zero at go g = tt
call_has Q (suc calls) at go g = g calls

checked_has : {A : Type 0} (Q : A → Type 0) (v : Verdict) (at : Place) (out : Outcome A) → Has Q out → Has Q (unless_refused v at out)
checked_has Q None at out h = h
checked_has Q (Some kind) at out h = tt

answered_has : {A B : Type 0} (Q : B → Type 0) (answer : AnswerOrFault A) (at : Place) (go : A → Outcome B)
    → ((x : A) → Has Q (go x)) → Has Q (answered_with answer at go)
answered_has Q (Ok x) at go g = g x
answered_has Q (Err kind) at go g = tt

after_has : (Q : MemberDesigns → Type 0) (at : Place) (designs : List DesignTree) (turns : ℕ) (go : ℕ → Outcome MemberDesigns)
    → ((n : ℕ) → Has Q (go n)) → Has Q (turn_after_step at designs turns go)
after_has Q at [] turns go g = turn_has Q at turns go g
after_has Q at (d ∷ ds) turns go g = g turns

idle_has : (Q : InstanceDesign → Type 0) (at : Place) (idle : Bool) (turns : ℕ) (m : InstanceDesign) → Q m → Has Q (turn_after_call at idle turns m)
idle_has Q at true turns m h = turn_has Q at turns (λ turns. Gives turns m) (λ turns. h)
idle_has Q at false turns m h = h

-- a design with no more parts than there are leaves more
abbrev IsFew : ℕ → ℕ → Option DesignTree → Type 0
IsFew before after None = Unit {0}
IsFew before after (Some d) = (before + leaf_count d ≤ after) × IsTrim d

record IsSmall (before : ℕ) (m : InstanceDesign) : Type 0 where
  pub grows : before ≤ m.leaves
  pub most : before ≤ most_leaves → m.leaves ≤ most_leaves
  pub parts : before + leaf_count m.design ≤ m.leaves
  pub trim : IsTrim m.design
  pub root : IsFew before m.leaves m.root

record AreSmall (before : ℕ) (ms : MemberDesigns) : Type 0 where
  pub grows : before ≤ ms.leaves
  pub most : before ≤ most_leaves → ms.leaves ≤ most_leaves
  pub parts : before + sum_by leaf_count ms.designs ≤ ms.leaves
  pub trim : All IsTrim ms.designs
  pub root : IsFew before ms.leaves ms.root

few_wider : (a b c d : ℕ) (o : Option DesignTree) → a ≤ b → c ≤ d → IsFew b c o → IsFew a d o
few_wider a b c d None h g f = tt
few_wider a b c d (Some x) h g f = (omega (arith, f.0), f.1)

first_few : (before after : ℕ) (x y : Option DesignTree) → IsFew before after x → IsFew before after y → IsFew before after (first_root x y)
first_few before after (Some d) y h g = h
first_few before after None y h g = g

and_small : (before : ℕ) (ms more : MemberDesigns) → AreSmall before ms → AreSmall ms.leaves more → AreSmall before (and_members ms more)
and_small before ms more h g = record {
  grows = let a = h.grows in let b = g.grows in omega arith;
  most = λ few. g.most (h.most few);
  parts = let a = h.parts in let b = g.parts in let c = sum_by-append leaf_count ms.designs more.designs in omega arith;
  trim = All-append IsTrim ms.designs more.designs h.trim g.trim;
  root = first_few before more.leaves ms.root more.root
      (few_wider before before ms.leaves more.leaves ms.root (omega arith) g.grows h.root)
      (few_wider before ms.leaves more.leaves more.leaves more.root h.grows (omega arith) g.root);
}

as_member_small : (b : Bool) (before : ℕ) (m : InstanceDesign) → IsSmall before m → AreSmall before (as_member b m)
as_member_small true before m h = record {
  grows = h.grows;
  most = h.most;
  parts = let a = h.parts in let b = sum_by-cons leaf_count m.design [] in omega arith;
  trim = All-cons IsTrim m.design [] h.trim (All-nil IsTrim);
  root = h.root;
}
as_member_small false before m h = record {
  grows = h.grows;
  most = h.most;
  parts = let a = h.grows in omega arith;
  trim = All-nil IsTrim;
  root = h.root;
}

none_small : (leaves : ℕ) → AreSmall leaves (no_members leaves)
none_small leaves = record { grows = omega arith; most = λ few. few; parts = omega arith; trim = All-nil IsTrim; root = tt }

nothing_small : (leaves : ℕ) → IsSmall leaves (no_design leaves)
nothing_small leaves = record { grows = omega arith; most = λ few. few; parts = omega arith; trim = tt; root = tt }

leaf_small : (at : Place) (mesh : Mesh) (turns leaves : ℕ) → Has (IsSmall leaves) (leaf_design at mesh turns leaves)
leaf_small at mesh turns leaves = by_test (nat_lt leaves most_leaves) (λ e. grind (arith, nat_tests))
  where
    by_test : (b : Bool) → (b ≡ true → leaves < most_leaves) → Has (IsSmall leaves) (if b
        then Gives turns (record { leaves = leaves + 1; design = a_leaf (record { mesh = mesh; steps = []; at = at }); root = None })
        else Faults TooManyParts at)
    by_test true h = let few = h refl in record { grows = omega arith; most = λ before. omega arith; parts = omega arith; trim = tt; root = tt }
    by_test false h = tt

-- a hull has one part, behind the leaves of its children
one_hull : (before : ℕ) (m leaf : InstanceDesign) → IsSmall before m → IsSmall m.leaves leaf → IsSmall before (with_leaf_of m leaf)
one_hull before m leaf h g = record {
  grows = let a = h.grows in let b = g.grows in omega arith;
  most = λ few. g.most (h.most few);
  parts = let a = h.grows in let b = g.parts in omega arith;
  trim = g.trim;
  root = few_wider before before m.leaves leaf.leaves m.root (omega arith) g.grows h.root;
}

hull_small : (v : Verdict) (at : Place) (before : ℕ) (m : InstanceDesign) (turns : ℕ) → IsSmall before m → Has (IsSmall before) (hull_design v at m turns)
hull_small v at before m turns h =
    let next : Outcome InstanceDesign = then_with (leaf_design at (hull_mesh m.design) turns m.leaves) (λ turns leaf. Gives turns (with_leaf_of m leaf)) in
    if_has (IsSmall before) (is_nothing m.design) (Gives turns m) (unless_refused v at next) h
    (checked_has (IsSmall before) v at next
    (then_has (IsSmall m.leaves) (IsSmall before) (leaf_design at (hull_mesh m.design) turns m.leaves) _
    (leaf_small at (hull_mesh m.design) turns m.leaves) (λ turns leaf g. one_hull before m leaf h g)))

-- instances one evaluation deeper give designs that are no larger than they may be
abbrev IsGood : EvaluatesInstance → Type 0
IsGood at_next_depth = (here : Context) (i : InstanceTerm) (turns leaves : ℕ) → Has (IsSmall leaves) (at_next_depth here i turns leaves)

module _ (grouped_trim : (op : Op) (designs : List DesignTree) → All IsTrim designs → IsTrim (join_children op designs))
    (grouped_parts : (op : Op) (designs : List DesignTree) → leaf_count (join_children op designs) ≤ sum_by leaf_count designs)
    (moved_trim : (steps : List Affine) (design : DesignTree) → IsTrim design → IsTrim (moved_design_tree steps design))
    (moved_parts : (steps : List Affine) (design : DesignTree) → leaf_count (moved_design_tree steps design) ≡ leaf_count design)
    (pieces : (design : DesignTree) → IsTrim design → tree_size design ≤ 1 + 2 * leaf_count design)
    (unit : LengthUnit) (judge : Judge) where
  joined_small : (op : Op) (before : ℕ) (ms : MemberDesigns) → AreSmall before ms → IsSmall before (joined_members op ms)
  joined_small op before ms h = record {
    grows = h.grows;
    most = h.most;
    parts = let a = h.parts in let b = grouped_parts op ms.designs in omega arith;
    trim = grouped_trim op ms.designs h.trim;
    root = h.root;
  }

  moved_small : (steps : List Affine) (before : ℕ) (m : InstanceDesign) → IsSmall before m → IsSmall before (moved_design (moved_design_tree steps) m)
  moved_small steps before m h = record {
    grows = h.grows;
    most = h.most;
    parts = let a = h.parts in let b = moved_parts steps m.design in omega arith;
    trim = moved_trim steps m.design h.trim;
    root = h.root;
  }

  module _ (evaluations : ℕ) (at_next_depth : EvaluatesInstance) (good : IsGood at_next_depth) where
    abbrev evaluator : Evaluator
    evaluator = record { unit = unit; judge = judge; evaluations = evaluations; at_next_depth = at_next_depth }

    members_small : (here : Context) (is : List InstanceTerm) (turns leaves : ℕ) → Has (AreSmall leaves) (each_member evaluator here is turns leaves)
    members_small here [] turns leaves = none_small leaves
    members_small here (i ∷ is) turns leaves =
        then_has (IsSmall leaves) (AreSmall leaves) (at_next_depth here i turns leaves) _ (good here i turns leaves) (λ turns m h.
        then_has (AreSmall m.leaves) (AreSmall leaves) (each_member evaluator here is turns m.leaves) _ (members_small here is turns m.leaves) (λ turns ms g.
        and_small leaves (as_member (if has_no_geometry here.env (core_of_instance i) then false else true) m) ms
        (as_member_small (if has_no_geometry here.env (core_of_instance i) then false else true) leaves m h) g))

    block_small : (chosen : Option ChosenCall) (here : Context) (statements : StatementTerms) (turns leaves : ℕ)
        → Has (AreSmall leaves) (block_members evaluator chosen statements here turns leaves)
    block_small chosen here statements turns leaves =
        skip_has (AreSmall leaves) (each_assignment evaluations here (assignments_of statements) turns) _ (λ turns there.
        members_small there (instances_chosen there.env chosen statements) turns leaves)

    scope_small : (here : Context) (statements : StatementTerms) (turns leaves : ℕ) → Has (AreSmall leaves) (each_in_scope evaluator here statements turns leaves)
    scope_small here statements turns leaves = block_small None here statements turns leaves

    body_small : (op : Op) (here : Context) (body : BodyTerm) (turns leaves : ℕ) → Has (IsSmall leaves) (body_design evaluator op here body turns leaves)
    body_small op here body turns leaves =
        then_has (AreSmall leaves) (IsSmall leaves) (each_in_body evaluator here body turns leaves) _
        (scope_small (inside_scope here (entered_scope (statements_of_body body) no_activation here.env)) (statements_of_body body) turns leaves)
        (λ turns ms h. joined_small op leaves ms h)

    steps_small : (at : Place) (step : Val → ℕ → ℕ → Outcome MemberDesigns)
        → ((v : Val) (turns leaves : ℕ) → Has (AreSmall leaves) (step v turns leaves))
        → (vs : Vals) (turns leaves : ℕ) → Has (AreSmall leaves) (each_step at step vs turns leaves)
    steps_small at step g no_vals turns leaves = none_small leaves
    steps_small at step g (and_val v vs) turns leaves =
        then_has (AreSmall leaves) (AreSmall leaves) (counted_step at (step v turns leaves)) _
        (then_has (AreSmall leaves) (AreSmall leaves) (step v turns leaves) _ (g v turns leaves) (λ turns ms h.
        after_has (AreSmall leaves) at ms.designs turns (λ turns. Gives turns ms) (λ turns. h))) (λ turns ms h.
        then_has (AreSmall ms.leaves) (AreSmall leaves) (each_step at step vs turns ms.leaves) _ (steps_small at step g vs turns ms.leaves) (λ turns more k.
        and_small leaves ms more h k))

    turns_small : (at : Place) (binders : List BinderTerm) (body : BodyTerm) (here : Context) (turns leaves : ℕ)
        → Has (AreSmall leaves) (each_iteration evaluator at binders body here turns leaves)
    turns_small at [] body here turns leaves =
        turn_has (AreSmall leaves) at turns
        (λ turns. then_with (body_design evaluator Union here body turns leaves) (λ turns m. Gives turns (as_member true m))) (λ turns.
        then_has (IsSmall leaves) (AreSmall leaves) (body_design evaluator Union here body turns leaves) _ (body_small Union here body turns leaves) (λ turns m h.
        as_member_small true leaves m h))
    turns_small at (b ∷ bs) body here turns leaves =
        skip_has (AreSmall leaves) (value_at_next_depth (expression_context evaluations here) true b.values turns) _ (λ turns v.
        option_has (AreSmall leaves) (iterated_values v) TypeMismatch at _ (λ items.
        steps_small at (λ item. each_iteration evaluator at bs body (in_loop here b.name item))
        (λ item turns leaves. turns_small at bs body (in_loop here b.name item) turns leaves) items turns leaves))

    loop_small : (op : Op) (here : Context) (at : Place) (binders : List BinderTerm) (body : BodyTerm) (turns leaves : ℕ)
        → Has (IsSmall leaves) (loop_design evaluator op here at binders body turns leaves)
    loop_small op here at binders body turns leaves =
        then_has (AreSmall leaves) (IsSmall leaves) (each_iteration evaluator at binders body here turns leaves) _
        (turns_small at binders body here turns leaves) (λ turns ms h. joined_small op leaves ms h)

    children_small : (here : Context) (call : Activation) (chosen : ChosenCall) (turns leaves : ℕ)
        → Has (IsSmall leaves) (children_design evaluator here call chosen turns leaves)
    children_small here no_activation chosen turns leaves = nothing_small leaves
    children_small here (activation children caller) chosen turns leaves =
        then_has (AreSmall leaves) (IsSmall leaves) (block_members evaluator (Some chosen) children (inside_scope here (entered_scope children no_activation caller)) turns leaves) _
        (block_small (Some chosen) (inside_scope here (entered_scope children no_activation caller)) children turns leaves) (λ turns ms h. joined_small Union leaves ms h)

    flat_small : (inside : Option Extrusion) (at : Place) (call : FlatCall) (turns leaves : ℕ)
        → Has (IsSmall leaves) (flat_design evaluator inside at call turns leaves)
    flat_small None at call turns leaves = tt
    flat_small (Some through) at call turns leaves =
        checked_has (IsSmall leaves) (judge.flat unit call) at (leaf_design at (extrusion_mesh unit through call) turns leaves)
        (leaf_small at (extrusion_mesh unit through call) turns leaves)

    effect_small : (here : Context) (at : Place) (effect : EffectCall) (body : BodyTerm) (turns leaves : ℕ)
        → Has (IsSmall leaves) (effect_design evaluator here at effect body turns leaves)
    effect_small here at (a_solid call) body turns leaves =
        checked_has (IsSmall leaves) (judge.solid unit call) at (leaf_design at (solid_mesh unit call) turns leaves)
        (leaf_small at (solid_mesh unit call) turns leaves)
    effect_small here at (a_flat call) body turns leaves = flat_small here.inside at call turns leaves
    effect_small here at (a_move steps) body turns leaves =
        then_has (IsSmall leaves) (IsSmall leaves) (body_design evaluator Union here body turns leaves) _
        (body_small Union here body turns leaves) (λ turns m h. moved_small steps leaves m h)
    effect_small here at (a_join op) body turns leaves = body_small op here body turns leaves
    effect_small here at a_hull body turns leaves =
        then_has (IsSmall leaves) (IsSmall leaves) (body_design evaluator Union here body turns leaves) _
        (body_small Union here body turns leaves) (λ turns m h. hull_small (judge.hull m.design) at leaves m turns h)
    effect_small here at (an_extrusion center height) body turns leaves =
        checked_has (IsSmall leaves) (judge.height unit center height) at
        (body_design evaluator Union (inside_extrusion here (record { center = center; height = height })) body turns leaves)
        (body_small Union (inside_extrusion here (record { center = center; height = height })) body turns leaves)
    effect_small here at no_geometry body turns leaves =
        if_has (IsSmall leaves) (is_bare body) (Gives turns (no_design leaves)) (Faults NotInProfile at) (nothing_small leaves) tt
    effect_small here at (some_children chosen) body turns leaves =
        then_has (IsSmall leaves) (IsSmall leaves) (chosen_children evaluator at chosen here turns leaves) _
        (call_has (IsSmall leaves) here.calls_left at _ (λ calls.
        children_small (with_calls_left here calls) (activation_in here.env) chosen turns leaves)) (λ after m h.
        idle_has (IsSmall leaves) at (nat_eq after turns && nat_eq m.leaves leaves) after m h)

    built_in_small : (here : Context) (at : Place) (name : List ℕ) (args : List ArgTerm) (body : BodyTerm) (found : Option BuiltinModule) (turns leaves : ℕ)
        → Has (IsSmall leaves) (built_in_design evaluator here at name args body found turns leaves)
    built_in_small here at name args body None turns leaves = tt
    built_in_small here at name args body (Some m) turns leaves =
        skip_has (IsSmall leaves) (arguments_for m (expression_context evaluations here) (args_from args) turns) _ (λ turns given.
        answered_has (IsSmall leaves) (effect_of unit (is_some here.inside) (find_in (given.dynamic ++ here.bindings) (codes "fn")) m given.bound) at _ (λ effect.
        effect_small (with_bindings here (given.dynamic ++ here.bindings)) at effect body turns leaves))

    module_small : (here : Context) (at : Place) (found : SourceModule × Env) (given : Arguments) (body : BodyTerm) (turns leaves : ℕ)
        → Has (IsSmall leaves) (module_design evaluator here at found given body turns leaves)
    module_small here at found given body turns leaves =
        call_has (IsSmall leaves) here.calls_left at _ (λ calls.
        let there = with_calls_left (with_bindings here (given.dynamic ++ here.bindings)) calls in
        turn_has (IsSmall leaves) at turns (λ turns. module_with_arguments evaluator found given body (with_calls_left here calls) turns leaves) (λ turns.
        skip_has (IsSmall leaves) (each_parameter (expression_context evaluations (inside_scope there found.1)) found.0.params given.bound turns) _ (λ turns vs.
        let inner = inside_scope there (module_scope found.1 found.0 vs (statements_of_body body) here.env) in
        then_has (AreSmall leaves) (IsSmall leaves) (each_in_scope evaluator inner (statements_of_body found.0.body) turns leaves) _
        (scope_small inner (statements_of_body found.0.body) turns leaves) (λ turns ms h. joined_small Union leaves ms h))))

    called_small : (here : Context) (at : Place) (name : List ℕ) (args : List ArgTerm) (body : BodyTerm) (found : Option (SourceModule × Env)) (turns leaves : ℕ)
        → Has (IsSmall leaves) (call_design evaluator here at name args body found turns leaves)
    called_small here at name args body (Some found) turns leaves =
        skip_has (IsSmall leaves) (each_argument (expression_context evaluations here) (parameter_names found.0.params) 0 (args_from args) (no_arguments_of (length found.0.params)) turns) _
        (λ turns given. module_small here at found given body turns leaves)
    called_small here at name args body None turns leaves = built_in_small here at name args body (builtin_module_of name) turns leaves

    core_small : (here : Context) (core : CoreTerm) (turns leaves : ℕ) → Has (IsSmall leaves) (core_design evaluator here core turns leaves)
    core_small here (IfTerm at test body) turns leaves =
        skip_has (IsSmall leaves) (value_at_next_depth (expression_context evaluations here) true test turns) _ (λ turns v.
        if_has (IsSmall leaves) (truth_of v) (body_design evaluator Union here body turns leaves) (Gives turns (no_design leaves))
        (body_small Union here body turns leaves) (nothing_small leaves))
    core_small here (IfElseTerm at test body other) turns leaves =
        skip_has (IsSmall leaves) (value_at_next_depth (expression_context evaluations here) true test turns) _ (λ turns v.
        body_small Union here (if truth_of v then body else other) turns leaves)
    core_small here (ForTerm at binders body) turns leaves = loop_small Union here at binders body turns leaves
    core_small here (IntersectionForTerm at binders body) turns leaves = loop_small Intersection here at binders body turns leaves
    core_small here (ModuleCallTerm at name args body) turns leaves = called_small here at name args body (visible_module here.env name) turns leaves

    marked_small : (here : Context) (core : CoreTerm) (turns leaves : ℕ) → Has (IsSmall leaves) (root_design evaluator here core turns leaves)
    marked_small here core turns leaves =
        if_has (IsSmall leaves) here.under_root (core_design evaluator here core turns leaves) _ (core_small here core turns leaves)
        (then_has (IsSmall leaves) (IsSmall leaves) (core_design evaluator (inside_root here) core turns leaves) _
        (core_small (inside_root here) core turns leaves) (λ turns m h.
        record { grows = h.grows; most = h.most; parts = h.parts; trim = h.trim; root = (h.parts, h.trim) }))

    instance_small : IsGood (instance_design evaluator)
    instance_small here i turns leaves =
        if_has (IsSmall leaves) (has_root_modifier i) _ (core_design evaluator here (core_of_instance i) turns leaves)
        (if_has (IsSmall leaves) (is_some here.inside) _ (root_design evaluator here (core_of_instance i) turns leaves) tt
        (marked_small here (core_of_instance i) turns leaves)) (core_small here (core_of_instance i) turns leaves)

  within_small : (evaluations : ℕ) → IsGood (design_within unit judge evaluations)
  unfolding design_within
  within_small zero here i turns leaves = tt
  within_small (suc evaluations) here i turns leaves = instance_small evaluations (design_within unit judge evaluations) (within_small evaluations) here i turns leaves

  -- the design of a program
  all_small : (root : Option DesignTree) (designs : List DesignTree) (leaves : ℕ) → IsFew 0 leaves root → 0 + sum_by leaf_count designs ≤ leaves
      → All IsTrim designs → leaves ≤ most_leaves → tree_size (root_or_union root designs) < 2 ^ 32
  all_small None designs leaves f h trim few =
      let a : leaf_count (balanced_join Union designs) ≤ sum_by leaf_count designs = grouped_parts Union designs in
      let b : tree_size (balanced_join Union designs) ≤ 1 + 2 * leaf_count (balanced_join Union designs) = pieces (join_children Union designs) (grouped_trim Union designs trim) in
      omega arith
  all_small (Some design) designs leaves f h trim few =
      let a = f.0 in let b = pieces design f.1 in omega arith

  pub design_small : (bindings : Pairs Val) (statements : StatementTerms) (turns : ℕ) (design : DesignTree)
      → design_of unit judge bindings statements ≡ Gives turns design → tree_size design < 2 ^ 32
  unfolding design_of
  design_small bindings statements turns design e =
      subst (Has (λ d. tree_size d < 2 ^ 32)) e
      (then_has (AreSmall 0) (λ d. tree_size d < 2 ^ 32) (each_in_scope (evaluator_with unit judge most_evaluations) (program_context bindings statements) statements 0 0) _
      (scope_small most_evaluations (design_within unit judge most_evaluations) (within_small most_evaluations) (program_context bindings statements) statements 0 0)
      (λ turns ms h. all_small ms.root ms.designs ms.leaves h.root h.parts h.trim (h.most (omega arith))))
