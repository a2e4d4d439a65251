-- The faults of instances stand at places of the text, and so do the parts of designs. Their steps are not singular, and what
-- holds of each shape that is let through holds of their shapes: by one lemma for each equation.
use Rattle.std.proofs.Common.{◌≡◌, refl, subst, ℕ, zero, suc, ◌+◌, ◌/◌, Bool, true, false, ◌&&◌, nat_lt, nat_eq, List, [], ◌∷◌, ◌++◌, length, take, drop, Option, Some, None, Ok, Err, if◌then◌else◌, ℤ}
use Rattle.std.specs.Prelude.{All, IfOk, IfSome, flat_map, is_some, codes}
use Rattle.std.specs.List.{AllByRecursion}
use Rattle.std.proofs.lemmas.List.Elements.{All-nil, All-cons, All-head, All-tail, All-append, All-take, All-drop}
use Rattle.plain_text.specs.declared.place.Place.{Place}
use Rattle.text_place.specs.declared.fault.FaultKind.TheVariants.{TypeMismatch, BadArgument, WrongDimension, NotInProfile, TooManyParts}
use Rattle.csg_tree.specs.declared.op.Op.{Op}
use Rattle.csg_tree.specs.declared.op.Op.TheVariants.{Union, Intersection, Difference}
use Rattle.int_transform.specs.declared.affine.Affine.{Affine}
use Rattle.plane_predicate.specs.declared.unit.Unit.{Unit as LengthUnit}
use Rattle.primitives.specs.Shapes.{Mesh, IsShape}
use Rattle.scad_ast.specs.Terms.{BinderTerm, StatementTerms, InstanceTerm, AnInstance, CoreTerm, IfTerm, IfElseTerm, ForTerm, IntersectionForTerm, ModuleCallTerm, BodyTerm, ArgTerm, ArgTerms, no_args, and_named, and_special, and_positional, SpecialArgTerm, args_from, place_of_core}
use Rattle.scad_ast.specs.Places.{places_of_term, places_of_args, places_of_binder, places_of_modifier, places_of_statements, places_of_core, places_of_body}
use Rattle.scad_value.specs.Values.{Val, Vals, no_vals, and_val, truth_of}
use Rattle.scad_value.specs.Operators.{AnswerOrFault}
use Rattle.scad_scope.specs.Names.{Pairs, find_in}
use Rattle.scad_definitions.specs.Arguments.{parameter_names, no_arguments_of, destination_of, with_argument}
use Rattle.scad_definitions.specs.Blocks.{SourceModule, SourceAssignment, assignments_of, statements_of_body}
use Rattle.scad_func.specs.Limits.{most_evaluations}
use Rattle.scad_func.specs.Meaning.{Outcome, Gives, Faults, then_with, Env, NoScope, InnerScope, Activation, no_activation, activation, visible_module, activation_in, entered_scope, with_value, ExpressionContext, value_at_next_depth, Arguments, each_argument, each_parameter}
use Rattle.scad_modules.specs.declared.table.BuiltinModule.{BuiltinModule}
use Rattle.scad_modules.specs.declared.table.BuiltinModule.TheVariants.{Echo}
use Rattle.scad_modules.specs.Table.{builtin_module_of, parameters_of}
use Rattle.scad_modules.specs.Effects.{EffectCall, a_solid, a_flat, a_move, a_join, a_hull, an_extrusion, no_geometry, some_children, SolidCall, FlatCall, ChosenCall}
use Rattle.scad_modules.specs.Calls.{effect_of}
use Rattle.scad_design.specs.Designs.{DesignTree, empty, a_leaf, joined_designs, join, balanced_join_within, balanced_join, join_children, moved_design_tree}
use Rattle.int_transform.proofs.lemmas.Ranges.{IsRegular}
use Rattle.primitives.specs.Sizes.{AreSizes}
use Rattle.scad_design.specs.Trees.{AreRegular}
use Rattle.scad_hull.proofs.lemmas.Loops.{hull_is_shape}
use Rattle.scad_meaning.specs.declared.extrusion.Extrusion.{Extrusion}
use Rattle.scad_meaning.specs.Hulls.{is_nothing, points_of, hull_mesh}
use Rattle.scad_meaning.specs.Verdicts.{Judge, Verdict, IsRightJudge, IsSolidVerdict, IsFlatVerdict, IsHeightVerdict, IsHullVerdict, solid_mesh, extrusion_mesh}
use Rattle.scad_meaning.specs.Bodies.{evaluated_instances, has_root_modifier, has_no_geometry, is_bare}
use Rattle.scad_meaning.specs.Loops.{iterated_values}
use Rattle.scad_meaning.specs.Meaning.{Context, inside_scope, with_bindings, with_calls_left, inside_root, inside_extrusion, expression_context, InstanceDesign, MemberDesigns, first_root, no_design, no_members, as_member, and_members, joined_members, EvaluatesInstance, Evaluator, assigned_value, with_assignment, each_assignment, core_of_instance, each_member, each_in_scope, each_in_body, body_design, turn_after_step, each_step, in_loop, each_iteration, loop_design, leaf_design, unless_refused, with_leaf_of, hull_design, answered_with, module_scope, module_design, each_echo_argument, arguments_for, children_design, chosen_children, turn_after_call, flat_design, effect_design, built_in_design, call_design, core_design, root_design, instance_design, design_within, evaluator_with, program_context, root_or_union, design_of, counted_step, candidates_of, instances_chosen, block_members, module_with_arguments, most_leaves}
use Rattle.scad_meaning.proofs.lemmas.Choosing.{all_chosen, candidates_all}
use Rattle.scad_meaning.proofs.lemmas.HeldPlaces.{if_keeps, Whatever, Held, first_held, rest_held, ModuleHeld, ScopeHeld, CallHeld, module_found, call_found, variable_held, functions_held, modules_held, entered_held, body_held, AssignedHeld, assignments_held, InstanceHeld, evaluated_held, Keeps, then_keeps, skip_keeps, some_keeps, turn_keeps, call_keeps}
use Rattle.scad_meaning.proofs.lemmas.SoundShapes.{HasSides, HasFlatSides, IsSoundCall, effect_sound, solid_is_shape, extruded_is_shape}
use Rattle.scad_meaning.proofs.ExpressionPlaces.{Sits, value_keeps, arguments_keep, parameters_keep, evaluated_good}

-- what holds of each shape that a judge lets through, where its sizes are as many as its kind has
pub record LetsThrough (unit : LengthUnit) (Q : Mesh → Type 0) (judge : Judge) : Type 0 where
  pub solid : (call : SolidCall) → HasSides call → judge.solid unit call ≡ None → Q (solid_mesh unit call)
  pub flat : (through : Extrusion) (call : FlatCall) → AreSizes unit through.center (through.height ∷ []) → HasFlatSides call →
      judge.flat unit call ≡ None → Q (extrusion_mesh unit through call)
  pub height : (center : Bool) (height : ℤ) → judge.height unit center height ≡ None → AreSizes unit center (height ∷ [])
  pub hull : (design : DesignTree) → judge.hull design ≡ None → Q (hull_mesh design)

-- a judge that is always right lets shapes alone through
pub shapes_alone : (unit : LengthUnit) (judge : Judge) → IsRightJudge judge → LetsThrough unit IsShape judge
shapes_alone unit judge right = record {
  solid = λ call sides none. solid_is_shape unit call sides (subst (IsSolidVerdict unit call) none (right.solid unit call));
  flat = λ through call sizes sides none. extruded_is_shape unit through call sizes sides (subst (IsFlatVerdict unit call) none (right.flat unit call));
  height = λ center height none. subst (IsHeightVerdict unit center height) none (right.height unit center height);
  hull = λ design none. hull_is_shape (points_of design) (subst (IsHullVerdict design) none (right.hull design)).points;
}

module _ (P : Place → Type 0) (Q : Mesh → Type 0) where
  -- a design whose parts all stand at places among the given ones, with such shapes and with steps that are not singular
  abbrev pub DesignHeld : DesignTree → Type 0
  DesignHeld empty = Unit {0}
  DesignHeld (a_leaf part) = P part.at × (Q part.mesh × AreRegular part.steps)
  DesignHeld (joined_designs op left right) = DesignHeld left × DesignHeld right

  join_held : (op : Op) (left right : DesignTree) → DesignHeld left → DesignHeld right → DesignHeld (join op left right)
  join_held Union empty right hl hr = hr
  join_held Intersection empty right hl hr = tt
  join_held Difference empty right hl hr = tt
  join_held Union (a_leaf p) empty hl hr = hl
  join_held Intersection (a_leaf p) empty hl hr = tt
  join_held Difference (a_leaf p) empty hl hr = hl
  join_held Union (a_leaf p) (a_leaf q) hl hr = (hl, hr)
  join_held Intersection (a_leaf p) (a_leaf q) hl hr = (hl, hr)
  join_held Difference (a_leaf p) (a_leaf q) hl hr = (hl, hr)
  join_held Union (a_leaf p) (joined_designs k c d) hl hr = (hl, hr)
  join_held Intersection (a_leaf p) (joined_designs k c d) hl hr = (hl, hr)
  join_held Difference (a_leaf p) (joined_designs k c d) hl hr = (hl, hr)
  join_held Union (joined_designs o a b) empty hl hr = hl
  join_held Intersection (joined_designs o a b) empty hl hr = tt
  join_held Difference (joined_designs o a b) empty hl hr = hl
  join_held Union (joined_designs o a b) (a_leaf q) hl hr = (hl, hr)
  join_held Intersection (joined_designs o a b) (a_leaf q) hl hr = (hl, hr)
  join_held Difference (joined_designs o a b) (a_leaf q) hl hr = (hl, hr)
  join_held Union (joined_designs o a b) (joined_designs k c d) hl hr = (hl, hr)
  join_held Intersection (joined_designs o a b) (joined_designs k c d) hl hr = (hl, hr)
  join_held Difference (joined_designs o a b) (joined_designs k c d) hl hr = (hl, hr)

  within_held : (n : ℕ) (op : Op) (designs : List DesignTree) → All DesignHeld designs → DesignHeld (balanced_join_within n op designs)
  within_held zero op designs h = tt
  within_held (suc n) op [] h = tt
  within_held (suc n) op (d ∷ []) h = All-head DesignHeld d [] h
  within_held (suc n) op (d ∷ e ∷ designs) h =
      let all = d ∷ e ∷ designs in
      let half = length all / 2 in
      join_held op (balanced_join_within n op (take half all)) (balanced_join_within n op (drop half all))
      (within_held n op (take half all) (All-take DesignHeld half all h)) (within_held n op (drop half all) (All-drop DesignHeld half all h))

  grouped_held : (op : Op) (designs : List DesignTree) → All DesignHeld designs → DesignHeld (join_children op designs)
  grouped_held Union designs h = within_held (length designs) Union designs h
  grouped_held Intersection designs h = within_held (length designs) Intersection designs h
  grouped_held Difference [] h = tt
  grouped_held Difference (d ∷ designs) h =
      join_held Difference d (balanced_join Union designs) (All-head DesignHeld d designs h)
      (within_held (length designs) Union designs (All-tail DesignHeld d designs h))

  moved_held : (steps : List Affine) (design : DesignTree) → AreRegular steps → DesignHeld design → DesignHeld (moved_design_tree steps design)
  moved_held steps empty r h = tt
  moved_held steps (a_leaf part) r h = (h.0, (h.1.0, All-append IsRegular part.steps steps h.1.1 r))
  moved_held steps (joined_designs op left right) r h = (moved_held steps left r h.0, moved_held steps right r h.1)

  -- what instances give
  abbrev DesignsHeld : InstanceDesign → Type 0
  DesignsHeld m = DesignHeld m.design × IfSome m.root DesignHeld

  abbrev MembersHeld : MemberDesigns → Type 0
  MembersHeld ms = All DesignHeld ms.designs × IfSome ms.root DesignHeld

  first_marked_held : (x y : Option DesignTree) → IfSome x DesignHeld → IfSome y DesignHeld → IfSome (first_root x y) DesignHeld
  first_marked_held (Some d) y h g = h
  first_marked_held None y h g = g

  and_held : (ms more : MemberDesigns) → MembersHeld ms → MembersHeld more → MembersHeld (and_members ms more)
  and_held ms more h g = (All-append DesignHeld ms.designs more.designs h.0 g.0, first_marked_held ms.root more.root h.1 g.1)

  as_member_held : (b : Bool) (m : InstanceDesign) → DesignsHeld m → MembersHeld (as_member b m)
  as_member_held true m h = (All-cons DesignHeld m.design [] h.0 (All-nil DesignHeld), h.1)
  as_member_held false m h = (All-nil DesignHeld, h.1)

  none_held : (leaves : ℕ) → MembersHeld (no_members leaves)
  none_held leaves = (All-nil DesignHeld, tt)

  grouped_members : (op : Op) (ms : MemberDesigns) → MembersHeld ms → DesignsHeld (joined_members op ms)
  grouped_members op ms h = (grouped_held op ms.designs h.0, h.1)

  leaf_keeps : (at : Place) (mesh : Mesh) (turns leaves : ℕ) → P at → Q mesh → Keeps P DesignsHeld (leaf_design at mesh turns leaves)
  leaf_keeps at mesh turns leaves p shape =
      if_keeps (Keeps P DesignsHeld) (nat_lt leaves most_leaves)
      (Gives turns (record { leaves = leaves + 1; design = a_leaf (record { mesh = mesh; steps = []; at = at }); root = None }))
      (Faults TooManyParts at) ((p, (shape, All-nil IsRegular)), tt) p

  checked_keeps : {A : Type 0} (Q : A → Type 0) (v : Verdict) (at : Place) (out : Outcome A) → P at → (v ≡ None → Keeps P Q out) → Keeps P Q (unless_refused v at out)
  checked_keeps Q None at out p h = h refl
  checked_keeps Q (Some kind) at out p h = p

  effect_keeps : {A B : Type 0} (R : A → Type 0) (Q : B → Type 0) (answer : AnswerOrFault A) (at : Place) (go : A → Outcome B)
      → P at → IfOk answer R → ((x : A) → R x → Keeps P Q (go x)) → Keeps P Q (answered_with answer at go)
  effect_keeps R Q (Ok x) at go p r g = g x r
  effect_keeps R Q (Err kind) at go p r g = p

  after_keeps : (Q : MemberDesigns → Type 0) (at : Place) (designs : List DesignTree) (turns : ℕ) (go : ℕ → Outcome MemberDesigns)
      → P at → ((n : ℕ) → Keeps P Q (go n)) → Keeps P Q (turn_after_step at designs turns go)
  after_keeps Q at [] turns go p g = turn_keeps P Q at turns go p g
  after_keeps Q at (d ∷ ds) turns go p g = g turns

  idle_keeps : (at : Place) (idle : Bool) (turns : ℕ) (m : InstanceDesign) → P at → DesignsHeld m → Keeps P DesignsHeld (turn_after_call at idle turns m)
  idle_keeps at true turns m p k = turn_keeps P DesignsHeld at turns (λ turns. Gives turns m) p (λ turns. k)
  idle_keeps at false turns m p k = k

  module _ (unit : LengthUnit) where
    -- where instances stand: inside no extrusion, or inside one whose height has nothing wrong
    abbrev IsSized : Option Extrusion → Type 0
    IsSized None = Unit {0}
    IsSized (Some through) = AreSizes unit through.center (through.height ∷ [])

    abbrev ContextHeld : Context → Type 0
    ContextHeld here = ScopeHeld P here.env × IsSized here.inside

    sits : (evaluations : ℕ) (here : Context) → ContextHeld here → Sits P (expression_context evaluations here)
    sits evaluations here s = (evaluated_good P evaluations, s.0)

    assigned_keeps : (evaluations : ℕ) (here : Context) (a : SourceAssignment) (turns : ℕ) → ContextHeld here → AssignedHeld P a
        → Keeps P Whatever (assigned_value evaluations here a turns)
    assigned_keeps zero here a turns s h = h.0
    assigned_keeps (suc evaluations) here a turns s h = value_keeps P (expression_context evaluations here) (sits evaluations here s) true a.value turns h.1

    still_held : (a : SourceAssignment) (v : Val) (here : Context) → ContextHeld here → ContextHeld (with_assignment a v here)
    still_held a v here s =
        if_keeps ContextHeld a.special (with_bindings here ((a.name, v) ∷ here.bindings)) (inside_scope here (with_value a.name v here.env)) s
        (variable_held P a.name v here.env s.0, s.1)

    assignments_keep : (evaluations : ℕ) (here : Context) (as_ : List SourceAssignment) (turns : ℕ) → ContextHeld here → AllByRecursion (AssignedHeld P) as_
        → Keeps P ContextHeld (each_assignment evaluations here as_ turns)
    assignments_keep evaluations here [] turns s h = s
    assignments_keep evaluations here (a ∷ as_) turns s h =
        skip_keeps P ContextHeld (assigned_value evaluations here a turns) _ (assigned_keeps evaluations here a turns s h.0) (λ turns v.
        assignments_keep evaluations (with_assignment a v here) as_ turns (still_held a v here s) h.1)

    -- instances one evaluation deeper
    abbrev IsGood : EvaluatesInstance → Type 0
    IsGood at_next_depth = (here : Context) (i : InstanceTerm) (turns leaves : ℕ) → ContextHeld here → InstanceHeld P i → Keeps P DesignsHeld (at_next_depth here i turns leaves)

    said_keeps : (here : ExpressionContext) → Sits P here → (args : ArgTerms) (given : Arguments) (turns : ℕ) → Held P (places_of_args args)
        → Keeps P Whatever (each_echo_argument here args given turns)
    said_keeps here s no_args given turns h = tt
    said_keeps here s (and_named at name value rest) given turns h =
        skip_keeps P Whatever (value_at_next_depth here true value turns) _ (value_keeps P here s true value turns (first_held P (places_of_term value) (places_of_args rest) h.1)) (λ turns v.
        said_keeps here s rest given turns (rest_held P (places_of_term value) (places_of_args rest) h.1))
    said_keeps here s (and_special at name value rest) given turns h =
        some_keeps P Whatever (destination_of [] 0 given (SpecialArgTerm at name value)) BadArgument at _ h.0 (λ target.
        skip_keeps P Whatever (value_at_next_depth here true value turns) _ (value_keeps P here s true value turns (first_held P (places_of_term value) (places_of_args rest) h.1)) (λ turns v.
        said_keeps here s rest (with_argument given target v) turns (rest_held P (places_of_term value) (places_of_args rest) h.1)))
    said_keeps here s (and_positional value rest) given turns h =
        skip_keeps P Whatever (value_at_next_depth here true value turns) _ (value_keeps P here s true value turns (first_held P (places_of_term value) (places_of_args rest) h)) (λ turns v.
        said_keeps here s rest given turns (rest_held P (places_of_term value) (places_of_args rest) h))

    given_keeps : (m : BuiltinModule) (here : ExpressionContext) → Sits P here → (args : ArgTerms) (turns : ℕ) → Held P (places_of_args args)
        → Keeps P Whatever (arguments_for m here args turns)
    given_keeps Echo here s args turns h = said_keeps here s args (no_arguments_of 0) turns h
    given_keeps m here s args turns h = arguments_keep P here s (parameters_of m) 0 args (no_arguments_of (length (parameters_of m))) turns h

    module _ (judge : Judge) (lets : LetsThrough unit Q judge) where
      module _ (evaluations : ℕ) (at_next_depth : EvaluatesInstance) (good : IsGood at_next_depth) where
        abbrev evaluator : Evaluator
        evaluator = record { unit = unit; judge = judge; evaluations = evaluations; at_next_depth = at_next_depth }

        members_keep : (here : Context) (is : List InstanceTerm) (turns leaves : ℕ) → ContextHeld here → All (InstanceHeld P) is
            → Keeps P MembersHeld (each_member evaluator here is turns leaves)
        members_keep here [] turns leaves s h = none_held leaves
        members_keep here (i ∷ is) turns leaves s h =
            then_keeps P DesignsHeld MembersHeld (at_next_depth here i turns leaves) _ (good here i turns leaves s (All-head (InstanceHeld P) i is h)) (λ turns m k.
            then_keeps P MembersHeld MembersHeld (each_member evaluator here is turns m.leaves) _
            (members_keep here is turns m.leaves s (All-tail (InstanceHeld P) i is h)) (λ turns ms g.
            and_held (as_member (if has_no_geometry here.env (core_of_instance i) then false else true) m) ms
            (as_member_held (if has_no_geometry here.env (core_of_instance i) then false else true) m k) g))

        chosen_held : (env : Env) (chosen : Option ChosenCall) (statements : StatementTerms) → Held P (places_of_statements statements)
            → All (InstanceHeld P) (instances_chosen env chosen statements)
        chosen_held env None statements h = evaluated_held P statements h
        chosen_held env (Some chosen) statements h = all_chosen (InstanceHeld P) (candidates_of env chosen statements) chosen
            (candidates_all (InstanceHeld P) env chosen statements (evaluated_held P statements h))

        block_keeps : (chosen : Option ChosenCall) (here : Context) (statements : StatementTerms) (turns leaves : ℕ) → ContextHeld here → Held P (places_of_statements statements)
            → Keeps P MembersHeld (block_members evaluator chosen statements here turns leaves)
        block_keeps chosen here statements turns leaves s h =
            then_keeps P ContextHeld MembersHeld (each_assignment evaluations here (assignments_of statements) turns) _
            (assignments_keep evaluations here (assignments_of statements) turns s (assignments_held P statements h)) (λ turns there k.
            members_keep there (instances_chosen there.env chosen statements) turns leaves k (chosen_held there.env chosen statements h))

        scope_keeps : (here : Context) (statements : StatementTerms) (turns leaves : ℕ) → ContextHeld here → Held P (places_of_statements statements)
            → Keeps P MembersHeld (each_in_scope evaluator here statements turns leaves)
        scope_keeps here statements turns leaves s h = block_keeps None here statements turns leaves s h

        body_keeps : (op : Op) (here : Context) (body : BodyTerm) (turns leaves : ℕ) → ContextHeld here → Held P (places_of_body body)
            → Keeps P DesignsHeld (body_design evaluator op here body turns leaves)
        body_keeps op here body turns leaves s h =
            then_keeps P MembersHeld DesignsHeld (each_in_body evaluator here body turns leaves) _
            (scope_keeps (inside_scope here (entered_scope (statements_of_body body) no_activation here.env)) (statements_of_body body) turns leaves
            (entered_held P (statements_of_body body) no_activation here.env (body_held P body h) tt s.0, s.1) (body_held P body h))
            (λ turns ms k. grouped_members op ms k)

        steps_keep : (at : Place) (step : Val → ℕ → ℕ → Outcome MemberDesigns) → P at
            → ((v : Val) (turns leaves : ℕ) → Keeps P MembersHeld (step v turns leaves))
            → (vs : Vals) (turns leaves : ℕ) → Keeps P MembersHeld (each_step at step vs turns leaves)
        steps_keep at step p g no_vals turns leaves = none_held leaves
        steps_keep at step p g (and_val v vs) turns leaves =
            then_keeps P MembersHeld MembersHeld (counted_step at (step v turns leaves)) _
            (then_keeps P MembersHeld MembersHeld (step v turns leaves) _ (g v turns leaves) (λ turns ms h.
            after_keeps MembersHeld at ms.designs turns (λ turns. Gives turns ms) p (λ turns. h))) (λ turns ms h.
            then_keeps P MembersHeld MembersHeld (each_step at step vs turns ms.leaves) _ (steps_keep at step p g vs turns ms.leaves) (λ turns more k.
            and_held ms more h k))

        turns_keep : (at : Place) (binders : List BinderTerm) (body : BodyTerm) (here : Context) (turns leaves : ℕ) → P at
            → Held P (flat_map places_of_binder binders) → Held P (places_of_body body) → ContextHeld here
            → Keeps P MembersHeld (each_iteration evaluator at binders body here turns leaves)
        turns_keep at [] body here turns leaves p h k s =
            turn_keeps P MembersHeld at turns
            (λ turns. then_with (body_design evaluator Union here body turns leaves) (λ turns m. Gives turns (as_member true m))) p (λ turns.
            then_keeps P DesignsHeld MembersHeld (body_design evaluator Union here body turns leaves) _ (body_keeps Union here body turns leaves s k) (λ turns m g.
            as_member_held true m g))
        turns_keep at (b ∷ bs) body here turns leaves p h k s =
            let first = first_held P (places_of_binder b) (flat_map places_of_binder bs) h in
            skip_keeps P MembersHeld (value_at_next_depth (expression_context evaluations here) true b.values turns) _
            (value_keeps P (expression_context evaluations here) (sits evaluations here s) true b.values turns first.1) (λ turns v.
            some_keeps P MembersHeld (iterated_values v) TypeMismatch at _ p (λ items.
            steps_keep at (λ item. each_iteration evaluator at bs body (in_loop here b.name item)) p
            (λ item turns leaves. turns_keep at bs body (in_loop here b.name item) turns leaves p
            (rest_held P (places_of_binder b) (flat_map places_of_binder bs) h) k ((tt, tt, tt, s.0), s.1)) items turns leaves))

        loop_keeps : (op : Op) (here : Context) (at : Place) (binders : List BinderTerm) (body : BodyTerm) (turns leaves : ℕ) → P at
            → Held P (flat_map places_of_binder binders ++ places_of_body body) → ContextHeld here
            → Keeps P DesignsHeld (loop_design evaluator op here at binders body turns leaves)
        loop_keeps op here at binders body turns leaves p h s =
            then_keeps P MembersHeld DesignsHeld (each_iteration evaluator at binders body here turns leaves) _
            (turns_keep at binders body here turns leaves p (first_held P (flat_map places_of_binder binders) (places_of_body body) h)
            (rest_held P (flat_map places_of_binder binders) (places_of_body body) h) s)
            (λ turns ms k. grouped_members op ms k)

        children_keep : (here : Context) (call : Activation) (chosen : ChosenCall) (turns leaves : ℕ) → CallHeld P call → IsSized here.inside
            → Keeps P DesignsHeld (children_design evaluator here call chosen turns leaves)
        children_keep here no_activation chosen turns leaves c i = (tt, tt)
        children_keep here (activation children caller) chosen turns leaves c i =
            then_keeps P MembersHeld DesignsHeld (block_members evaluator (Some chosen) children (inside_scope here (entered_scope children no_activation caller)) turns leaves) _
            (block_keeps (Some chosen) (inside_scope here (entered_scope children no_activation caller)) children turns leaves
            (entered_held P children no_activation caller c.0 tt c.1, i) c.0)
            (λ turns ms k. grouped_members Union ms k)

        flat_keeps : (inside : Option Extrusion) (at : Place) (call : FlatCall) (turns leaves : ℕ) → P at → IsSized inside → HasFlatSides call
            → Keeps P DesignsHeld (flat_design evaluator inside at call turns leaves)
        flat_keeps None at call turns leaves p i sides = p
        flat_keeps (Some through) at call turns leaves p i sides =
            checked_keeps DesignsHeld (judge.flat unit call) at (leaf_design at (extrusion_mesh unit through call) turns leaves) p (λ none.
            leaf_keeps at (extrusion_mesh unit through call) turns leaves p
            (lets.flat through call i sides none))

        hull_keeps : (at : Place) (m : InstanceDesign) (turns : ℕ) → P at → DesignsHeld m → Keeps P DesignsHeld (hull_design (judge.hull m.design) at m turns)
        hull_keeps at m turns p k =
            let next : Outcome InstanceDesign = then_with (leaf_design at (hull_mesh m.design) turns m.leaves) (λ turns leaf. Gives turns (with_leaf_of m leaf)) in
            if_keeps (Keeps P DesignsHeld) (is_nothing m.design) (Gives turns m) (unless_refused (judge.hull m.design) at next) k
            (checked_keeps DesignsHeld (judge.hull m.design) at next p (λ none.
            then_keeps P DesignsHeld DesignsHeld (leaf_design at (hull_mesh m.design) turns m.leaves) _
            (leaf_keeps at (hull_mesh m.design) turns m.leaves p
            (lets.hull m.design none))
            (λ turns leaf g. (g.0, k.1))))

        call_effect_keeps : (here : Context) (at : Place) (effect : EffectCall) (body : BodyTerm) (turns leaves : ℕ) → P at
            → Held P (places_of_body body) → ContextHeld here → IsSoundCall effect
            → Keeps P DesignsHeld (effect_design evaluator here at effect body turns leaves)
        call_effect_keeps here at (a_solid call) body turns leaves p h s sound =
            checked_keeps DesignsHeld (judge.solid unit call) at (leaf_design at (solid_mesh unit call) turns leaves) p (λ none.
            leaf_keeps at (solid_mesh unit call) turns leaves p
            (lets.solid call sound none))
        call_effect_keeps here at (a_flat call) body turns leaves p h s sound = flat_keeps here.inside at call turns leaves p s.1 sound
        call_effect_keeps here at (a_move steps) body turns leaves p h s sound =
            then_keeps P DesignsHeld DesignsHeld (body_design evaluator Union here body turns leaves) _ (body_keeps Union here body turns leaves s h)
            (λ turns m k. (moved_held steps m.design sound k.0, k.1))
        call_effect_keeps here at (a_join op) body turns leaves p h s sound = body_keeps op here body turns leaves s h
        call_effect_keeps here at a_hull body turns leaves p h s sound =
            then_keeps P DesignsHeld DesignsHeld (body_design evaluator Union here body turns leaves) _ (body_keeps Union here body turns leaves s h)
            (λ turns m k. hull_keeps at m turns p k)
        call_effect_keeps here at (an_extrusion center height) body turns leaves p h s sound =
            checked_keeps DesignsHeld (judge.height unit center height) at
            (body_design evaluator Union (inside_extrusion here (record { center = center; height = height })) body turns leaves) p (λ none.
            body_keeps Union (inside_extrusion here (record { center = center; height = height })) body turns leaves
            (s.0, lets.height center height none) h)
        call_effect_keeps here at no_geometry body turns leaves p h s sound =
            if_keeps (Keeps P DesignsHeld) (is_bare body) (Gives turns (no_design leaves)) (Faults NotInProfile at) (tt, tt) p
        call_effect_keeps here at (some_children chosen) body turns leaves p h s sound =
            then_keeps P DesignsHeld DesignsHeld (chosen_children evaluator at chosen here turns leaves) _
            (call_keeps P DesignsHeld here.calls_left at _ p (λ calls.
            children_keep (with_calls_left here calls) (activation_in here.env) chosen turns leaves (call_found P here.env s.0) s.1)) (λ after m k.
            idle_keeps at (nat_eq after turns && nat_eq m.leaves leaves) after m p k)

        built_in_keeps : (here : Context) (at : Place) (name : List ℕ) (args : List ArgTerm) (body : BodyTerm) (found : Option BuiltinModule) (turns leaves : ℕ)
            → P at → Held P (places_of_args (args_from args)) → Held P (places_of_body body) → ContextHeld here
            → Keeps P DesignsHeld (built_in_design evaluator here at name args body found turns leaves)
        built_in_keeps here at name args body None turns leaves p a h s = p
        built_in_keeps here at name args body (Some m) turns leaves p a h s =
            skip_keeps P DesignsHeld (arguments_for m (expression_context evaluations here) (args_from args) turns) _
            (given_keeps m (expression_context evaluations here) (sits evaluations here s) (args_from args) turns a) (λ turns given.
            effect_keeps IsSoundCall DesignsHeld (effect_of unit (is_some here.inside) (find_in (given.dynamic ++ here.bindings) (codes "fn")) m given.bound) at _ p
            (effect_sound unit (is_some here.inside) (find_in (given.dynamic ++ here.bindings) (codes "fn")) m given.bound) (λ effect sound.
            call_effect_keeps (with_bindings here (given.dynamic ++ here.bindings)) at effect body turns leaves p h s sound))

        module_keeps : (here : Context) (at : Place) (found : SourceModule × Env) (given : Arguments) (body : BodyTerm) (turns leaves : ℕ) → P at
            → ModuleHeld P found.0 → ScopeHeld P found.1 → Held P (places_of_body body) → ContextHeld here
            → Keeps P DesignsHeld (module_design evaluator here at found given body turns leaves)
        module_keeps here at found given body turns leaves p m o h s =
            call_keeps P DesignsHeld here.calls_left at _ p (λ calls.
            let there = with_calls_left (with_bindings here (given.dynamic ++ here.bindings)) calls in
            turn_keeps P DesignsHeld at turns (λ turns. module_with_arguments evaluator found given body (with_calls_left here calls) turns leaves) p (λ turns.
            skip_keeps P DesignsHeld (each_parameter (expression_context evaluations (inside_scope there found.1)) found.0.params given.bound turns) _
            (parameters_keep P (expression_context evaluations (inside_scope there found.1)) (sits evaluations (inside_scope there found.1) (o, s.1)) found.0.params given.bound turns m.0) (λ turns vs.
            let inner = inside_scope there (module_scope found.1 found.0 vs (statements_of_body body) here.env) in
            let local = body_held P found.0.body m.1 in
            then_keeps P MembersHeld DesignsHeld (each_in_scope evaluator inner (statements_of_body found.0.body) turns leaves) _
            (scope_keeps inner (statements_of_body found.0.body) turns leaves
            ((functions_held P (statements_of_body found.0.body) local, modules_held P (statements_of_body found.0.body) local, (body_held P body h, s.0), o), s.1) local)
            (λ turns ms k. grouped_members Union ms k))))

        called_keeps : (here : Context) (at : Place) (name : List ℕ) (args : List ArgTerm) (body : BodyTerm) (found : Option (SourceModule × Env)) (turns leaves : ℕ)
            → P at → Held P (places_of_args (args_from args)) → Held P (places_of_body body) → ContextHeld here
            → IfSome found (λ f. ModuleHeld P f.0 × ScopeHeld P f.1)
            → Keeps P DesignsHeld (call_design evaluator here at name args body found turns leaves)
        called_keeps here at name args body (Some found) turns leaves p a h s f =
            skip_keeps P DesignsHeld (each_argument (expression_context evaluations here) (parameter_names found.0.params) 0 (args_from args) (no_arguments_of (length found.0.params)) turns) _
            (arguments_keep P (expression_context evaluations here) (sits evaluations here s) (parameter_names found.0.params) 0 (args_from args) (no_arguments_of (length found.0.params)) turns a)
            (λ turns given. module_keeps here at found given body turns leaves p f.0 f.1 h s)
        called_keeps here at name args body None turns leaves p a h s f = built_in_keeps here at name args body (builtin_module_of name) turns leaves p a h s

        core_keeps : (here : Context) (core : CoreTerm) (turns leaves : ℕ) → ContextHeld here → Held P (places_of_core core)
            → Keeps P DesignsHeld (core_design evaluator here core turns leaves)
        core_keeps here (IfTerm at test body) turns leaves s h =
            skip_keeps P DesignsHeld (value_at_next_depth (expression_context evaluations here) true test turns) _
            (value_keeps P (expression_context evaluations here) (sits evaluations here s) true test turns (first_held P (places_of_term test) (places_of_body body) h.1)) (λ turns v.
            if_keeps (Keeps P DesignsHeld) (truth_of v) (body_design evaluator Union here body turns leaves) (Gives turns (no_design leaves))
            (body_keeps Union here body turns leaves s (rest_held P (places_of_term test) (places_of_body body) h.1)) (tt, tt))
        core_keeps here (IfElseTerm at test body other) turns leaves s h =
            let both = first_held P (places_of_term test ++ places_of_body body) (places_of_body other) h.1 in
            skip_keeps P DesignsHeld (value_at_next_depth (expression_context evaluations here) true test turns) _
            (value_keeps P (expression_context evaluations here) (sits evaluations here s) true test turns (first_held P (places_of_term test) (places_of_body body) both)) (λ turns v.
            body_keeps Union here (if truth_of v then body else other) turns leaves s
            (if_keeps (λ b. Held P (places_of_body b)) (truth_of v) body other (rest_held P (places_of_term test) (places_of_body body) both)
            (rest_held P (places_of_term test ++ places_of_body body) (places_of_body other) h.1)))
        core_keeps here (ForTerm at binders body) turns leaves s h = loop_keeps Union here at binders body turns leaves h.0 h.1 s
        core_keeps here (IntersectionForTerm at binders body) turns leaves s h = loop_keeps Intersection here at binders body turns leaves h.0 h.1 s
        core_keeps here (ModuleCallTerm at name args body) turns leaves s h =
            called_keeps here at name args body (visible_module here.env name) turns leaves h.0
            (first_held P (places_of_args (args_from args)) (places_of_body body) h.1) (rest_held P (places_of_args (args_from args)) (places_of_body body) h.1)
            s (module_found P here.env name s.0)

        marked_keeps : (here : Context) (core : CoreTerm) (turns leaves : ℕ) → ContextHeld here → Held P (places_of_core core)
            → Keeps P DesignsHeld (root_design evaluator here core turns leaves)
        marked_keeps here core turns leaves s h =
            if_keeps (Keeps P DesignsHeld) here.under_root (core_design evaluator here core turns leaves) _ (core_keeps here core turns leaves s h)
            (then_keeps P DesignsHeld DesignsHeld (core_design evaluator (inside_root here) core turns leaves) _
            (core_keeps (inside_root here) core turns leaves s h) (λ turns m k. (k.0, k.0)))

        core_place_held : (core : CoreTerm) → Held P (places_of_core core) → P (place_of_core core)
        core_place_held (IfTerm at test body) h = h.0
        core_place_held (IfElseTerm at test body other) h = h.0
        core_place_held (ForTerm at binders body) h = h.0
        core_place_held (IntersectionForTerm at binders body) h = h.0
        core_place_held (ModuleCallTerm at name args body) h = h.0

        instance_keeps : IsGood (instance_design evaluator)
        instance_keeps here (AnInstance at modifiers core) turns leaves s h =
            let inner = rest_held P (flat_map places_of_modifier modifiers) (places_of_core core) h.1 in
            if_keeps (Keeps P DesignsHeld) (has_root_modifier (AnInstance at modifiers core)) _ (core_design evaluator here core turns leaves)
            (if_keeps (Keeps P DesignsHeld) (is_some here.inside) (Faults WrongDimension (place_of_core core)) (root_design evaluator here core turns leaves)
            (core_place_held core inner) (marked_keeps here core turns leaves s inner)) (core_keeps here core turns leaves s inner)

      within_keeps : (evaluations : ℕ) → IsGood (design_within unit judge evaluations)
      unfolding design_within
      within_keeps zero here (AnInstance at modifiers core) turns leaves s h = h.0
      within_keeps (suc evaluations) here i turns leaves s h = instance_keeps evaluations (design_within unit judge evaluations) (within_keeps evaluations) here i turns leaves s h

      -- the design of a program
      or_all_held : (root : Option DesignTree) (designs : List DesignTree) → IfSome root DesignHeld → All DesignHeld designs → DesignHeld (root_or_union root designs)
      or_all_held None designs m h = grouped_held Union designs h
      or_all_held (Some design) designs m h = m

      pub design_keeps : (bindings : Pairs Val) (statements : StatementTerms) → Held P (places_of_statements statements)
          → Keeps P DesignHeld (design_of unit judge bindings statements)
      unfolding design_of
      design_keeps bindings statements h =
          then_keeps P MembersHeld DesignHeld (each_in_scope (evaluator_with unit judge most_evaluations) (program_context bindings statements) statements 0 0) _
          (scope_keeps most_evaluations (design_within unit judge most_evaluations) (within_keeps most_evaluations) (program_context bindings statements) statements 0 0
          (entered_held P statements no_activation (InnerScope [] [] [] no_activation NoScope) h tt (tt, tt, tt, tt), tt) h)
          (λ turns ms k. or_all_held ms.root ms.designs k.1 k.0)
