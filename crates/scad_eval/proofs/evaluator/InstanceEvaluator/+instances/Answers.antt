use Rattle.std.proofs.Common.{◌≡◌, ℕ, ◌+◌, ◌-◌, ◌<◌, Bool, true, false, ◌&&◌, nat_eq, List, [], ◌∷◌, ◌++◌, All, length, map, drop, Option, Some, None, Ok, Err, refl, sym, ap, subst, ◌∙◌, length-append, arith, if◌then◌else◌}
use Rattle.std.proofs.lemmas.Result.{err_from_is_err_and, IfErr-at_err}
use Rattle.plain_text.specs.declared.place.Place.{Place}
use Rattle.text_place.specs.declared.fault.FaultKind.TheVariants.{TooDeep, TypeMismatch}
use Rattle.csg_tree.specs.declared.op.Op.{Op}
use Rattle.csg_tree.specs.declared.op.Op.TheVariants.{Union}
use Rattle.scad_ast.specs.declared.statement.Binder.{Binder}
use Rattle.scad_ast.specs.Terms.{BinderTerm, BodyTerm}
use Rattle.scad_ast.specs.ExprView.{args_of}
use Rattle.scad_ast.specs.StatementView.{binder_of, params_of}
use Rattle.scad_value.specs.declared.bounded_value.BoundedValue.{BoundedValue}
use Rattle.scad_value.specs.Values.{Val, Vals, truth_of}
use Rattle.scad_value.specs.BoundedView.{bounded_val}
use Rattle.scad_scope.specs.Names.{ScopeRow, oldest_pairs}
use Rattle.scad_scope.specs.Table.{bindings_of}
use Rattle.scad_definitions.specs.declared.text.Module.{Module}
use Rattle.scad_definitions.specs.TextView.{module_of}
use Rattle.scad_definitions.specs.Blocks.{SourceModule, statements_of_body}
use Rattle.scad_definitions.specs.declared.parameters.CallArguments.{CallArguments}
use Rattle.scad_modules.specs.declared.effects.Effect.{Effect}
use Rattle.scad_modules.specs.declared.table.BuiltinModule.{BuiltinModule}
use Rattle.scad_modules.specs.Effects.{ChosenCall}
use Rattle.scad_modules.specs.View.{chosen_of, effect_call_of}
use Rattle.scad_design.specs.Designs.{moved_design_tree}
use Rattle.scad_func.specs.Limits.{most_calls, most_turns}
use Rattle.scad_func.specs.Meaning.{Outcome, Gives, Faults, Activation, InnerScope, no_activation, activation, with_value, then_with, or_fault, each_parameter, entered_scope, Arguments, BoundArguments, ExpressionContext, Env}
use Rattle.scad_func.specs.View.{env_seen, table_in, arguments_of, bound_arguments_in, bindings_in, values_seen, IsNoMemory}
use Rattle.scad_func.specs.Definitions.{statements_at, block_scope, IsWholeTable}
use Rattle.scad_func.specs.Evaluations.{OneCallDeeper, MoreBindings, env_here, expression_context_in}
use Rattle.scad_func.specs.Transitions.{IsRefusedCall}
use Rattle.scad_func.specs.declared.source.Source.{Source}
use Rattle.scad_instance_rules.specs.declared.numbered.NumberedInstance.{NumberedInstance}
use Rattle.scad_instance_rules.specs.declared.position.NumberedBody.{NumberedBody}
use Rattle.scad_instance_rules.specs.declared.position.Position.{Position}
use Rattle.scad_instance_rules.specs.Choosing.{chosen_seen}
use Rattle.scad_instance_rules.specs.Items.{remaining_in}
use Rattle.scad_instance_rules.specs.Listing.{AreInstancesOf}
use Rattle.scad_instance_rules.specs.Positions.{term_of_numbered, HasBlocks}
use Rattle.scad_instance_rules.specs.Seen.{one_member_of, instance_design_of, member_designs_of}
use Rattle.scad_meaning.specs.Verdicts.{Judge}
use Rattle.scad_meaning.specs.Bodies.{is_child}
use Rattle.scad_meaning.specs.Loops.{iterated_values}
use Rattle.scad_meaning.specs.Meaning.{Context, MemberDesigns, InstanceDesign, Evaluator, joined_members, moved_design, no_design, as_member, and_members, body_design, core_design, core_of_instance, hull_design, loop_design, built_in_design, children_design, effect_design, turn_after_step, turn_after_call, each_member, each_step, each_iteration, in_loop, module_design, module_scope, with_calls_left, with_bindings, inside_scope, expression_context, as_root, block_members, built_in_with_arguments, instances_chosen, module_with_values, module_with_arguments}
use Rattle.scad_eval.specs.declared.evaluator.InstanceEvaluator.{InstanceEvaluator}
use Rattle.scad_eval.specs.Keeping.{evaluator_at, env_at, context_at, Stays, Enters, outcome_at}
use Rattle.scad_eval.specs.declared.open_variable.OpenVariable.{OpenVariable}
use Rattle.scad_eval.specs.Variables.{a_step}
use Rattle.scad_eval.specs.Within.{body_seen, IsInstanceAt, IsModuleCall}
use Rattle.scad_func.proofs.lemmas.Kept.{keeps_same, keeps_trans, specials_kept, scope_kept}
use Rattle.scad_eval.proofs.Work.{work_falls, work_same}
use Rattle.scad_func.proofs.lemmas.Counting.{call_refused, call_goes}
use Rattle.scad_eval.proofs.Counting.{design_too_deep, call_too_deep, turn_counted}
use Rattle.scad_eval.proofs.Membership.{child_is_member, as_member_outcome, member_step, instances_here}
use Rattle.scad_eval.proofs.Outcomes.{along, then_outcome, stop_outcome, only_no_memory, told_outcome, lengthened, lengthening_stops}
use Rattle.scad_eval.proofs.Told.{begun_at, told_from, told_after, told_there, stops, evaluation_stops, joins, join_stops}
use Rattle.scad_eval.proofs.Contexts.{stays_same, stays_then, stays_kept, stays_told, same_context}
use Rattle.scad_eval.proofs.Beginning.{evaluation_kept, call_kept, specials_there}
use Rattle.scad_eval.proofs.Standing.{position_still, instance_still, body_still, call_still, instances_stand, scope_bound, block_bound}
use Rattle.scad_eval.proofs.Newest.{with_more_bindings, specials_began, slots_lent}
use Rattle.scad_eval.proofs.Equations.{refused_outcome, entered_meant, body_meant, block_meant, entered_block, instances_meant, deeper_meant, call_meant, children_meant, specials_meant, specials_setting, built_in_refused, built_in_meant, marked_form, begun_front, lengthened_kept, first_outcome, OnOk-at_ok}
use Rattle.scad_eval.proofs.Lasting.{loop_work, taken_less, ended_less}
use Rattle.scad_eval.proofs.Variables.{IsUnderWay, begun, next_variable, next_variable_stops, gone_from, same_place, next_is, taken, taken_stops, closed, popped, inside_another, newest_still, step_ended, step_stops}
use Rattle.scad_eval.proofs.evaluator.InstanceEvaluator.+instances.Goals as goal

pub body-members_in_scope-requires : goal.body-members_in_scope-requires
body-members_in_scope-requires t c =
    let m = c.args.self.now in
    let e = c.in_ok-before.ensures.entered in (
      omega (arith, work_same c.enter_body.new.self.depth m.evaluation.depth e.depth, c.decreases),
      (position_still m _ refl e.source c.requires.position, tt),
    )

pub body-returns-in_err-members : goal.body-returns-in_err-members
body-returns-in_err-members t c =
    let p = err_from_is_err_and c.from_residual-in_err-members.result c.from_residual-in_err-members.ensures.1 in
    let e = c.in_ok-before.ensures.entered in
    rw (p.1, p.2) (join_stops c.args.op c.in_err-members.ensures
    (λ judge right. body_meant c.args.op judge c.args.self.now (begun_at c.in_err-members.ensures) c.args.position c.in_ok-before.before c.args.body c.requires
    (record { unit = refl; leaves = refl; evaluation = e }) c.in_ok-before.ensures.inside c.enter_body.ensures.turns) tt)

pub body-returns : goal.body-returns
body-returns t c =
    let m = c.args.self.now in
    let e = c.in_ok-before.ensures.entered in
    let b = c.in_ok-members.ensures.kept in
    joins c.args.op c.in_ok-members.ensures
    (λ judge right. body_meant c.args.op judge m (begun_at c.in_ok-members.ensures) c.args.position c.in_ok-before.before c.args.body c.requires
    (record { unit = refl; leaves = refl; evaluation = e }) c.in_ok-before.ensures.inside c.enter_body.ensures.turns)
    c.in_ok-join_members.ensures c.leave.ensures.turns refl (stays_kept m _ b.older.unit (c.leave.ensures.back m.evaluation (scope_bound m b e)))

pub body-leave-requires : goal.body-leave-requires
body-leave-requires t c =
    let e = c.in_ok-before.ensures.entered in
    omega (arith, e.from, e.number, c.in_ok-members.ensures.kept.older.same.stands, c.args.self.now.evaluation.there)

pub members_in_scope-members-requires : goal.members_in_scope-members-requires
members_in_scope-members-requires t c =
    let m = c.args.self.now in
    let a = (c.in_ok-assign_all.ensures c.args.position).kept.older in (
      omega (arith, work_same c.assign_all.new.self.evaluation.depth m.evaluation.depth a.same.depth, c.decreases),
      instances_stand c.assign_all.new.self c.args.position c.deref.result.now (position_still m _ a.unit a.same.source c.requires.position)
          (subst (λ (is : List NumberedInstance). All (HasBlocks (table_in c.assign_all.new.self.evaluation.source.now)) is) (sym c.deref.ensures.value)
          c.in_ok-instances.ensures.blocks),
    )

pub members_in_scope-chosen_instances-requires-clause-listed : goal.members_in_scope-chosen_instances-requires-clause-listed
members_in_scope-chosen_instances-requires-clause-listed t c =
    let a = (c.in_ok-assign_all.ensures c.args.position).kept.older in
    subst (λ (source : Source). AreInstancesOf (table_in source) c.args.position.instances.now) (sym a.same.source) c.requires.position.listed

pub members_in_scope-pop_bindings-requires : goal.members_in_scope-pop_bindings-requires
members_in_scope-pop_bindings-requires t c =
    let a = (c.in_ok-assign_all.ensures c.args.position).kept in
    omega (
      arith,
      c.in_ok-length.ensures,
      ap length (c.in_ok-members.ensures.kept.evaluation.bindings ∙ a.bindings),
      length-append a.newer (bindings_of c.args.self.now.evaluation.scopes.now),
    )

pub members_in_scope-returns-in_err-assign_all : goal.members_in_scope-returns-in_err-assign_all
members_in_scope-returns-in_err-assign_all t c =
    let p = err_from_is_err_and c.from_residual-in_err-assign_all.result c.from_residual-in_err-assign_all.ensures.1 in
    let m = c.args.self.now in
    rw (p.1, p.2) (stops (λ judge turns there. each_member (evaluator_at m judge) there (instances_chosen there.env (chosen_seen c.args.chosen)
    (statements_at (table_in m.evaluation.source.now) c.args.block)) turns m.leaves)
    (c.in_err-assign_all.ensures c.args.position) (λ judge right. refl) tt)

pub members_in_scope-returns-in_err-members : goal.members_in_scope-returns-in_err-members
members_in_scope-returns-in_err-members t c =
    let p = err_from_is_err_and c.from_residual-in_err-members.result c.from_residual-in_err-members.ensures.1 in
    let a = c.in_ok-assign_all.ensures c.args.position in
    rw (p.1, p.2) (told_from c.in_err-members.ensures
    (λ judge right. instances_meant c.args.self.now c.assign_all.new.self c.args.position c.args.block (chosen_seen c.args.chosen)
    (map term_of_numbered c.deref.result.now) judge a.kept (a.equation judge right).is
    (ap (map term_of_numbered) c.deref.ensures.value ∙ c.in_ok-instances.ensures.found)) refl refl tt)

pub members_in_scope-returns : goal.members_in_scope-returns
members_in_scope-returns t c =
    let m = c.args.self.now in
    let a = c.in_ok-assign_all.ensures c.args.position in
    told_from c.in_ok-members.ensures
    (λ judge right. instances_meant m c.assign_all.new.self c.args.position c.args.block (chosen_seen c.args.chosen)
    (map term_of_numbered c.deref.result.now) judge a.kept (a.equation judge right).is
    (ap (map term_of_numbered) c.deref.ensures.value ∙ c.in_ok-instances.ensures.found)) c.pop_bindings.ensures.turns refl
    (block_bound m c.assign_all.new.self c.members.new.self _ a.kept c.in_ok-members.ensures.kept refl
    c.pop_bindings.ensures.same c.pop_bindings.ensures.rows
    (c.pop_bindings.ensures.bindings ∙ ap (λ n. oldest_pairs n (bindings_of c.members.new.self.evaluation.scopes.now)) c.in_ok-length.ensures))

pub children_made-returns-in-None : goal.children_made-returns-in-None
children_made-returns-in-None t c =
    let m = c.args.self.now in
    record {
      equation = λ judge right. record {
        is = ap (λ (o : Activation). children_design (evaluator_at m judge) (context_at m c.args.position) o (chosen_of c.args.chosen.now) m.evaluation.turns m.leaves)
            c.in-None.ensures.value
            ∙ ap (λ (made : InstanceDesign). Gives m.evaluation.turns made) (sym (c.nothing_made.ensures m.leaves));
      };
      kept = stays_same m;
    }

pub children_made-members_in_scope-requires : goal.children_made-members_in_scope-requires
children_made-members_in_scope-requires t c =
    let m = c.args.self.now in
    let e = c.in_ok-before-in-Some.ensures.entered in (
      omega (arith, work_same c.enter_body.new.self.depth m.evaluation.depth e.depth, c.decreases),
      (position_still m _ refl e.source c.requires.position, c.requires.safe),
    )

-- the chosen children of a call that was found
children_entered : (judge : Judge) (m mid : InstanceEvaluator) (position : Position) (before block : ℕ) (caller : Env) (call : Activation) (chosen : ChosenCall)
    → IsWholeTable (table_in m.evaluation.source.now) → call ≡ activation (statements_at (table_in m.evaluation.source.now) block) caller → Enters m mid before
    → env_here mid.evaluation ≡ block_scope (table_in m.evaluation.source.now) block no_activation caller → mid.evaluation.turns ≡ m.evaluation.turns
    → children_design (evaluator_at m judge) (context_at m position) call chosen m.evaluation.turns m.leaves
    ≡ then_with (outcome_at mid position judge (λ evaluator. block_members evaluator (Some chosen) (statements_at (table_in mid.evaluation.source.now) block)))
    (λ turns members. Gives turns (joined_members Union members))
children_entered judge m mid position before block caller call chosen whole found e inside turns =
    let table = table_in m.evaluation.source.now in
    let statements = statements_at table block in
    ap (λ (o : Activation). children_design (evaluator_at m judge) (context_at m position) o chosen m.evaluation.turns m.leaves) found
    ∙ ap (λ o. then_with o (λ turns members. Gives turns (joined_members Union members)))
    (block_meant judge m mid position before block (Some chosen) statements (entered_scope statements no_activation caller) refl e
    (entered_block table block no_activation caller statements whole refl inside) turns)

pub children_made-returns-in_err-members-in-Some : goal.children_made-returns-in_err-members-in-Some
children_made-returns-in_err-members-in-Some t c =
    let p = err_from_is_err_and c.from_residual-in_err-members-in-Some.result c.from_residual-in_err-members-in-Some.ensures.1 in
    let m = c.args.self.now in
    let e = c.in_ok-before-in-Some.ensures.entered in
    rw (p.1, p.2) (join_stops Union c.in_err-members-in-Some.ensures
    (λ judge right. children_entered judge m (begun_at c.in_err-members-in-Some.ensures) c.args.position c.in_ok-before-in-Some.before c.in-Some.call.children (env_at m c.in-Some.call.caller) _
    (chosen_of c.args.chosen.now) c.requires.position.whole c.in-Some.ensures.value (record { unit = refl; leaves = refl; evaluation = e })
    c.in_ok-before-in-Some.ensures.inside c.enter_body.ensures.turns) tt)

pub children_made-returns-in_ok-join_members-in-Some : goal.children_made-returns-in_ok-join_members-in-Some
children_made-returns-in_ok-join_members-in-Some t c =
    let m = c.args.self.now in
    let e = c.in_ok-before-in-Some.ensures.entered in
    let b = c.in_ok-members-in-Some.ensures.kept in
    joins Union c.in_ok-members-in-Some.ensures
    (λ judge right. children_entered judge m (begun_at c.in_ok-members-in-Some.ensures) c.args.position c.in_ok-before-in-Some.before c.in-Some.call.children (env_at m c.in-Some.call.caller) _
    (chosen_of c.args.chosen.now) c.requires.position.whole c.in-Some.ensures.value (record { unit = refl; leaves = refl; evaluation = e })
    c.in_ok-before-in-Some.ensures.inside c.enter_body.ensures.turns)
    c.in_ok-join_members-in-Some.ensures c.leave.ensures.turns refl (stays_kept m _ b.older.unit (c.leave.ensures.back m.evaluation (scope_bound m b e)))

pub children_made-leave-requires : goal.children_made-leave-requires
children_made-leave-requires t c =
    let e = c.in_ok-before-in-Some.ensures.entered in
    omega (arith, e.from, e.number, c.in_ok-members-in-Some.ensures.kept.older.same.stands, c.args.self.now.evaluation.there)

pub children_chosen-children_made-requires : goal.children_chosen-children_made-requires
children_chosen-children_made-requires t c =
    let m = c.args.self.now in
    let b = c.in_ok-begin_call.ensures.begun in (
      omega (arith, work_same c.begin_call.new.self.depth m.evaluation.depth b.depth, c.decreases),
      (position_still m _ refl b.source c.requires.position, c.requires.safe),
    )

pub children_chosen-returns-in_err-begin_call : goal.children_chosen-returns-in_err-begin_call
children_chosen-returns-in_err-begin_call t c =
    let p = err_from_is_err_and c.from_residual.result c.from_residual.ensures.1 in
    let m = c.args.self.now in
    let r = c.in_err-begin_call.ensures.refused in
    rw (p.1, p.2) (record {
      equation = λ judge right. along (call_too_deep m.evaluation.calls c.args.place _ r.0) (refused_outcome c.in_err-begin_call.field-0.0 _ _ TooDeep c.args.place r.1);
      kept = tt;
    })

pub children_chosen-returns-in_err-made : goal.children_chosen-returns-in_err-made
children_chosen-returns-in_err-made t c =
    let p = err_from_is_err_and c.from_residual-in_err-made.result c.from_residual-in_err-made.ensures.1 in
    rw (p.1, p.2) (told_from c.in_err-made.ensures
    (λ judge right. children_meant judge c.args.self.now (begun_at c.in_err-made.ensures) c.args.position c.args.place (chosen_of c.args.chosen.now) refl refl
    c.begin_call.ensures.turns c.in_ok-begin_call.ensures.begun) refl refl tt)

pub children_chosen-returns : goal.children_chosen-returns
children_chosen-returns t c =
    let m = c.args.self.now in
    let k = c.in_ok-made.ensures.kept in
    told_from c.in_ok-made.ensures
    (λ judge right. children_meant judge m (begun_at c.in_ok-made.ensures) c.args.position c.args.place (chosen_of c.args.chosen.now) refl refl
    c.begin_call.ensures.turns c.in_ok-begin_call.ensures.begun) c.end_call.ensures.turns refl
    (stays_kept m _ k.unit (c.end_call.ensures.back m.evaluation (call_kept c.in_ok-begin_call.ensures.begun k.evaluation)))

pub children_called-returns-in_err-made : goal.children_called-returns-in_err-made
children_called-returns-in_err-made t c =
    let p = err_from_is_err_and c.from_residual.result c.from_residual.ensures.1 in
    let m = c.args.self.now in
    rw (p.1, p.2) (stops (λ judge after made. turn_after_call c.args.place (nat_eq after m.evaluation.turns && nat_eq made.leaves m.leaves) after made)
    c.in_err-made.ensures (λ judge right. refl) tt)

pub built_in_made-returns-in_err-bound : goal.built_in_made-returns-in_err-bound
built_in_made-returns-in_err-bound t c =
    let p = err_from_is_err_and c.from_residual.result c.from_residual.ensures.1 in
    rw (p.1, p.2) (record {
      equation = λ judge right. only_no_memory _ (IfErr-at_err IsNoMemory c.in_err-bound.ensures.err c.push_bindings-begun.ensures.stop);
      kept = tt;
    })

pub built_in_made-effect_made-requires : goal.built_in_made-effect_made-requires
built_in_made-effect_made-requires t c =
    let m = c.args.self.now in
    let ok = c.in_ok-bound.ensures.ok in
    let begins = specials_began c.push_bindings-begun.ensures.begins ok.1 in (
      omega (arith, work_same c.push_bindings-begun.new.self.depth m.evaluation.depth begins.0.depth, c.decreases),
      (body_still m _ refl begins.0.source c.requires, c.in_ok-effect.ensures.safe),
    )

pub built_in_made-returns-in_err-effect : goal.built_in_made-returns-in_err-effect
built_in_made-returns-in_err-effect t c =
    let p = err_from_is_err_and c.from_residual-in_err-effect.result c.from_residual-in_err-effect.ensures.1 in
    let m = c.args.self.now in
    let ok = c.in_ok-bound.ensures.ok in
    let begins = specials_began c.push_bindings-begun.ensures.begins ok.1 in
    let begun = with_more_bindings m c.push_bindings-begun.new.self c.in_ok-bound.length begins.0 in
    rw (p.1, p.2) (built_in_refused m begun c.args.position c.args.place c.args.built_in (arguments_of c.args.given) (body_seen c.args.body) (bound_arguments_in c.in_ok-bound.bound.items) begins.1
    (slots_lent ok.0) c.in_err-effect.field-0.0 _ c.in_err-effect.ensures.effect tt)

pub built_in_made-returns-in_err-made : goal.built_in_made-returns-in_err-made
built_in_made-returns-in_err-made t c =
    let p = err_from_is_err_and c.from_residual-in_err-made.result c.from_residual-in_err-made.ensures.1 in
    let m = c.args.self.now in
    let ok = c.in_ok-bound.ensures.ok in
    let begins = specials_began c.push_bindings-begun.ensures.begins ok.1 in
    let begun = with_more_bindings m c.push_bindings-begun.new.self c.in_ok-bound.length begins.0 in
    rw (p.1, p.2) (told_from c.in_err-made.ensures
    (λ judge right. built_in_meant m begun c.args.position c.args.place c.args.built_in (arguments_of c.args.given) (body_seen c.args.body) (bound_arguments_in c.in_ok-bound.bound.items) begins.1
    (slots_lent ok.0)
    judge (begun_at c.in_err-made.ensures) c.in_ok-bound.length (effect_call_of c.in_ok-effect.effect) refl refl c.push_bindings-begun.ensures.begins.turns begins.0 (stays_kept begun _ refl (keeps_same _)) refl
    c.in_ok-effect.ensures.effect) refl refl tt)

pub built_in_made-returns : goal.built_in_made-returns
built_in_made-returns t c =
    let m = c.args.self.now in
    let ok = c.in_ok-bound.ensures.ok in
    let begins = specials_began c.push_bindings-begun.ensures.begins ok.1 in
    let begun = with_more_bindings m c.push_bindings-begun.new.self c.in_ok-bound.length begins.0 in
    let k = c.in_ok-made.ensures.kept in
    told_from c.in_ok-made.ensures
    (λ judge right. built_in_meant m begun c.args.position c.args.place c.args.built_in (arguments_of c.args.given) (body_seen c.args.body) (bound_arguments_in c.in_ok-bound.bound.items) begins.1
    (slots_lent ok.0)
    judge (begun_at c.in_ok-made.ensures) c.in_ok-bound.length (effect_call_of c.in_ok-effect.effect) refl refl c.push_bindings-begun.ensures.begins.turns begins.0 (stays_kept begun _ refl (keeps_same _)) refl
    c.in_ok-effect.ensures.effect) c.pop_bindings.ensures.turns refl
    (stays_kept m _ k.unit (c.pop_bindings.ensures.back m.evaluation (specials_kept m.evaluation c.in_ok-bound.length begins.0 k.evaluation)))

pub built_in_made-pop_bindings-requires : goal.built_in_made-pop_bindings-requires
built_in_made-pop_bindings-requires t c =
    let m = c.args.self.now in
    let ok = c.in_ok-bound.ensures.ok in
    let begins = specials_began c.push_bindings-begun.ensures.begins ok.1 in
    specials_there c.in_ok-bound.length (bindings_in c.args.given.dynamic.items) c.in_ok-made.ensures.kept.evaluation begins.0 begins.1

pub built_in_called-returns-in_err-given-in-Some : goal.built_in_called-returns-in_err-given-in-Some
built_in_called-returns-in_err-given-in-Some t c =
    let p = err_from_is_err_and c.from_residual.result c.from_residual.ensures.1 in
    let m = c.args.self.now in
    rw (p.1, p.2) (evaluation_stops (λ judge turns given. built_in_with_arguments (evaluator_at m judge) c.args.place c.in-Some.built_in given (body_seen c.args.body) (context_at m c.args.position) turns m.leaves)
    c.in_err-given-in-Some.ensures
    (λ judge right. ap (λ (o : Option BuiltinModule). built_in_design (evaluator_at m judge) (context_at m c.args.position) c.args.place c.args.name.now (args_of c.args.args.now) (body_seen c.args.body) o m.evaluation.turns m.leaves)
    (sym c.in-Some.ensures)) tt)

pub built_in_called-returns-in_ok-given-in-Some : goal.built_in_called-returns-in_ok-given-in-Some
built_in_called-returns-in_ok-given-in-Some t c =
    let m = c.args.self.now in
    told_after (stays_kept m _ refl c.arguments_for.ensures.kept) c.built_in_made.ensures
    (λ judge right. ap (λ (o : Option BuiltinModule). built_in_design (evaluator_at m judge) (context_at m c.args.position) c.args.place c.args.name.now (args_of c.args.args.now) (body_seen c.args.body) o m.evaluation.turns m.leaves)
    (sym c.in-Some.ensures)
    ∙ ap (λ o. then_with o (λ turns given. built_in_with_arguments (evaluator_at m judge) c.args.place c.in-Some.built_in given (body_seen c.args.body) (context_at m c.args.position) turns m.leaves))
    c.in_ok-given-in-Some.ensures.value)

pub built_in_called-built_in_made-requires : goal.built_in_called-built_in_made-requires
built_in_called-built_in_made-requires t c =
    let m = c.args.self.now in
    let k = c.arguments_for.ensures.kept in (
      omega (arith, work_same c.arguments_for.new.evaluation.depth m.evaluation.depth k.depth, c.decreases),
      body_still m _ refl k.source c.requires,
    )

pub effect_made-returns-in-Solid : goal.effect_made-returns-in-Solid
effect_made-returns-in-Solid t c =
    let m = c.args.self.now in
    let f = c.solid.ensures c.args.position in
    told_from f
    (λ judge right. ap (λ (e : Effect). effect_design (evaluator_at m judge) (context_at m c.args.position) c.args.place (effect_call_of e) (body_seen c.args.body) m.evaluation.turns m.leaves)
    c.in-Solid.is) refl refl (stays_told c.solid.result f.kept)

pub effect_made-returns-in_err-made-in-Hull : goal.effect_made-returns-in_err-made-in-Hull
effect_made-returns-in_err-made-in-Hull t c =
    let p = err_from_is_err_and c.from_residual.result c.from_residual.ensures.1 in
    let m = c.args.self.now in
    rw (p.1, p.2) (stops (λ judge turns made. hull_design (judge.hull made.design) c.args.place made turns) c.in_err-made-in-Hull.ensures
    (λ judge right. ap (λ (e : Effect). effect_design (evaluator_at m judge) (context_at m c.args.position) c.args.place (effect_call_of e) (body_seen c.args.body) m.evaluation.turns m.leaves)
    c.in-Hull.is) tt)

pub effect_made-returns-in_ok-made-in-Hull : goal.effect_made-returns-in_ok-made-in-Hull
effect_made-returns-in_ok-made-in-Hull t c =
    let m = c.args.self.now in
    let f = c.hull.ensures c.args.position in
    record {
      equation = λ judge right.
          along (ap (λ (e : Effect). effect_design (evaluator_at m judge) (context_at m c.args.position) c.args.place (effect_call_of e) (body_seen c.args.body) m.evaluation.turns m.leaves)
          c.in-Hull.is)
          (then_outcome (λ turns made. hull_design (judge.hull made.design) c.args.place made turns)
          (c.in_ok-made-in-Hull.ensures.equation judge right) (f.equation judge right));
      kept = stays_told c.hull.result (stays_then c.in_ok-made-in-Hull.ensures.kept f.kept);
    }

pub moved-returns-in_err-design : goal.moved-returns-in_err-design
moved-returns-in_err-design t c =
    let p = err_from_is_err_and c.from_residual.result c.from_residual.ensures.1 in
    rw (p.1, p.2) (stops (λ judge turns made. Gives turns (moved_design (moved_design_tree c.args.steps.now) made)) c.in_err-design.ensures (λ judge right. refl) tt)

pub instance-returns-in_err-begin_evaluation : goal.instance-returns-in_err-begin_evaluation
instance-returns-in_err-begin_evaluation t c =
    let p = err_from_is_err_and c.from_residual.result c.from_residual.ensures.1 in
    let m = c.args.self.now in
    let r = c.in_err-begin_evaluation.ensures.refused in
    rw (p.1, p.2) (record {
      equation = λ judge right.
          along (design_too_deep m.unit judge m.evaluation.depth (context_at m c.args.position) (term_of_numbered c.args.instance) m.evaluation.turns m.leaves r.0
          ∙ ap (λ (at : Place). Faults TooDeep at) (sym c.place.ensures))
          (refused_outcome c.in_err-begin_evaluation.field-0.0 _ _ TooDeep c.place.result r.1);
      kept = tt;
    })

pub instance-by_root_modifier-requires : goal.instance-by_root_modifier-requires
instance-by_root_modifier-requires t c =
    let m = c.args.self.now in
    let b = c.in_ok-begin_evaluation.ensures.begun in (
      omega (arith, work_falls m.evaluation.depth b.within, work_same c.begin_evaluation.new.self.depth (m.evaluation.depth + 1) b.depth, c.decreases),
      instance_still m _ refl b.source c.requires,
    )

pub instance-returns-in_err-made : goal.instance-returns-in_err-made
instance-returns-in_err-made t c =
    let p = err_from_is_err_and c.from_residual-in_err-made.result c.from_residual-in_err-made.ensures.1 in
    rw (p.1, p.2) (told_from c.in_err-made.ensures
    (λ judge right. deeper_meant judge c.args.self.now (begun_at c.in_err-made.ensures) c.args.position (term_of_numbered c.args.instance) refl refl c.begin_evaluation.ensures.turns
    c.in_ok-begin_evaluation.ensures.begun) refl refl tt)

pub instance-returns : goal.instance-returns
instance-returns t c =
    let m = c.args.self.now in
    let k = c.in_ok-made.ensures.kept in
    told_from c.in_ok-made.ensures
    (λ judge right. deeper_meant judge m (begun_at c.in_ok-made.ensures) c.args.position (term_of_numbered c.args.instance) refl refl c.begin_evaluation.ensures.turns
    c.in_ok-begin_evaluation.ensures.begun) c.end_evaluation.ensures.turns refl
    (stays_kept m _ k.unit (c.end_evaluation.ensures.back m.evaluation (evaluation_kept c.in_ok-begin_evaluation.ensures.begun k.evaluation)))

-- a loop's variables, as they are read
turns_meant : (m : InstanceEvaluator) (position : Position) (judge : Judge) (op : Op) (place : Place) (body : BodyTerm) {binders read : List Binder} → read ≡ binders
    → outcome_at m position judge (λ evaluator here. loop_design evaluator op here place (map binder_of binders) body)
    ≡ then_with (outcome_at m position judge (λ evaluator. each_iteration evaluator place (map binder_of read) body)) (λ turns members. Gives turns (joined_members op members))
turns_meant m position judge op place body same =
    ap (λ (bs : List Binder). outcome_at m position judge (λ evaluator here. loop_design evaluator op here place (map binder_of bs) body)) (sym same)

pub looped-returns-in_err-members : goal.looped-returns-in_err-members
looped-returns-in_err-members t c =
    let p = err_from_is_err_and c.from_residual.result c.from_residual.ensures.1 in
    rw (p.1, p.2) (join_stops c.args.op c.in_err-members.ensures
    (λ judge right. turns_meant c.args.self.now c.args.position judge c.args.op c.args.place (body_seen c.args.body) c.deref.ensures.value) tt)

pub looped-returns : goal.looped-returns
looped-returns t c =
    joins c.args.op c.in_ok-members.ensures
    (λ judge right. turns_meant c.args.self.now c.args.position judge c.args.op c.args.place (body_seen c.args.body) c.deref.ensures.value)
    c.in_ok-join_members.ensures refl refl c.in_ok-members.ensures.kept

pub by_root_modifier-returns : goal.by_root_modifier-returns
by_root_modifier-returns t c =
    let m = c.args.self.now in
    let i = term_of_numbered c.args.instance in
    let f = c.in_ok-made.ensures in
    record {
      equation = λ judge right.
          along (marked_form (evaluator_at m judge) (context_at m c.args.position) i m.evaluation.turns m.leaves
          (sym c.has_root_modifier.ensures ∙ c.if-not-has_root_modifier.false) (sym c.is_some.ensures ∙ c.if-is_some.false) c.if-position.false)
          (then_outcome (λ turns made. Gives turns (as_root made))
          (along (ap (λ (position : Position). outcome_at m position judge (λ evaluator here. core_design evaluator here (core_of_instance i))) (sym c.inside_root.ensures))
          (f.equation judge right))
          (record { is = ap (λ (made : InstanceDesign). Gives c.core-2.new.self.evaluation.turns made) (sym (c.in_ok-as_root.ensures c.core-2.new.self.leaves)) }));
      kept = f.kept;
    }

pub members-each-init : goal.members-each-init
members-each-init t c = record {
  stays = stays_same c.args.self.now;
  told = λ judge right. begun_front c.no_members-members.result c.args.self.now.leaves _ (c.no_members-members.ensures c.args.self.now.leaves);
}

pub members-instance-next-requires : goal.members-instance-next-requires
members-instance-next-requires t c =
    let m = c.args.self.now in
    let k = c.each.invariant.stays in
    let xs = c.args.instances.now in
    let i = c.each.instance-index in
    let h : i < length xs = omega (arith, c.each-test.true) in (
      omega (arith, work_same c.each.self.evaluation.depth m.evaluation.depth k.evaluation.depth, c.decreases),
      instance_still m _ k.unit k.evaluation.source
          (subst (λ (x : NumberedInstance). IsInstanceAt m c.args.position x) (sym c.instance-item.is) (c.requires i c.instance-item.result h)),
    )

pub members-each-preserved : goal.members-each-preserved
members-each-preserved t c =
    let m = c.args.self.now in
    let mid = c.each.self in
    let inv = c.each.invariant in
    let xs = c.args.instances.now in
    let i = c.each.instance-index in
    let x = c.instance-item.result in
    let h : i < length xs = omega (arith, c.each-test.true) in
    let b = c.is_child-is_member.result in
    let f = told_there inv.stays c.instance-next.ensures in
    record {
      stays = lengthened_kept (one_member_of b) c.each.members c.instance-next.result (Ok c.in_ok-members.members) _ c.in_ok-members.ensures f.kept;
      told = λ judge right.
          let evaluator = evaluator_at m judge in
          let here = context_at m c.args.position in
          let go : ℕ → ℕ → Outcome MemberDesigns = λ turns leaves. each_member evaluator here (map term_of_numbered (drop (i + 1) xs)) turns leaves in
          lengthened (one_member_of b) (λ leaves x. refl) (each_member evaluator here (map term_of_numbered xs) m.evaluation.turns m.leaves) c.each.members m.leaves
          (each_member evaluator here (map term_of_numbered (drop i xs)) mid.evaluation.turns mid.leaves)
          (then_with (evaluator.at_next_depth here (term_of_numbered x) mid.evaluation.turns mid.leaves) (λ turns made. Gives turns (as_member b made))) go
          (inv.told judge right)
          (ap (λ is. each_member evaluator here is mid.evaluation.turns mid.leaves) (instances_here xs i x h c.instance-item.is)
          ∙ ap (λ (b : Bool). then_with (evaluator.at_next_depth here (term_of_numbered x) mid.evaluation.turns mid.leaves) (λ turns made.
          then_with (go turns made.leaves) (λ turns ms. Gives turns (and_members (as_member b made) ms))))
          (child_is_member here.env (term_of_numbered x)
          ∙ ap (λ (s : Context). is_child s.env (term_of_numbered x)) (sym (same_context m mid c.args.position inv.stays))
          ∙ sym c.is_child-is_member.ensures)
          ∙ member_step b (evaluator.at_next_depth here (term_of_numbered x) mid.evaluation.turns mid.leaves) go)
          c.instance-next.result c.in_ok-members.members _ _ c.in_ok-members.ensures
          (as_member_outcome b (f.equation judge right));
    }

pub module_called-returns-in_err-given : goal.module_called-returns-in_err-given
module_called-returns-in_err-given t c =
    let p = err_from_is_err_and c.from_residual.result c.from_residual.ensures.1 in
    let m = c.args.self.now in
    rw (p.1, p.2) (record {
      equation = λ judge right. record {
        is = call_refused (instance_design_of m.leaves) m.evaluation c.args.place _ _
            (λ calls turns. module_with_arguments (evaluator_at m judge) (module_of c.args.defined, env_at m c.args.defining_scope)
            (arguments_of c.args.given) (body_seen c.args.body) (with_calls_left (context_at m c.args.position) calls) turns m.leaves)
            (IfErr-at_err (IsRefusedCall m.evaluation c.args.place) c.in_err-given.ensures.err c.begin_counted_call-begun.ensures.refused);
      };
      kept = tt;
    })

pub module_called-module_with_bindings-requires : goal.module_called-module_with_bindings-requires
module_called-module_with_bindings-requires t c =
    let m = c.args.self.now in
    let ok = c.in_ok-given.ensures.ok in
    let begun : OneCallDeeper m.evaluation c.begin_counted_call-begun.new.self = OnOk-at_ok ok.1 c.begin_counted_call-begun.ensures.begun in (
      omega (arith, work_same c.begin_counted_call-begun.new.self.depth m.evaluation.depth begun.depth, c.decreases),
      (
        call_still m _ refl begun.source begun.rows c.requires.called,
        subst (λ (given : CallArguments BoundedValue). length given.bound.items ≡ length (params_of c.args.defined.params.now)) (sym ok.0) c.requires.given,
      ),
    )

-- a module called from where its call was counted
counted_meant : (judge : Judge) (m mid : InstanceEvaluator) (position : Position) (place : Place) (defined : SourceModule) (defining_scope : ℕ) (body : BodyTerm)
    {given lent : CallArguments BoundedValue} → mid.unit ≡ m.unit → mid.leaves ≡ m.leaves → OneCallDeeper m.evaluation mid.evaluation
    → (m.evaluation.turns < most_turns) × (mid.evaluation.turns ≡ m.evaluation.turns + 1) → lent ≡ given
    → outcome_at m position judge (λ evaluator here. module_design evaluator here place (defined, env_at m defining_scope) (arguments_of given) body)
    ≡ outcome_at mid position judge (λ evaluator. module_with_arguments evaluator (defined, env_at mid defining_scope) (arguments_of lent) body)
counted_meant judge m mid position place defined defining_scope body {given = given} {lent = lent} unit leaves begun count_elements same =
    let left = most_calls - (m.evaluation.calls + 1) in
    let go : CallArguments BoundedValue → ℕ → ℕ → Outcome InstanceDesign = λ given calls turns. module_with_arguments (evaluator_at m judge) (defined, env_at m defining_scope)
    (arguments_of given) body (with_calls_left (context_at m position) calls) turns m.leaves in
    call_goes place m.evaluation.calls m.evaluation.turns (go given) begun.within count_elements.0
    ∙ ap (go given left) (sym count_elements.1)
    ∙ ap (λ (given : CallArguments BoundedValue). go given left mid.evaluation.turns) (sym same)
    ∙ call_meant (λ (x : Source) (rows : List ScopeRow) evaluator. module_with_arguments evaluator (defined, env_seen x rows defining_scope) (arguments_of lent) body)
    judge m mid position unit leaves begun

pub module_called-returns-in_err-made : goal.module_called-returns-in_err-made
module_called-returns-in_err-made t c =
    let p = err_from_is_err_and c.from_residual-in_err-made.result c.from_residual-in_err-made.ensures.1 in
    let ok = c.in_ok-given.ensures.ok in
    rw (p.1, p.2) (told_from c.in_err-made.ensures
    (λ judge right. counted_meant judge c.args.self.now (begun_at c.in_err-made.ensures) c.args.position c.args.place (module_of c.args.defined) c.args.defining_scope (body_seen c.args.body) refl refl
    (OnOk-at_ok ok.1 c.begin_counted_call-begun.ensures.begun) (OnOk-at_ok ok.1 c.begin_counted_call-begun.ensures.counted) ok.0) refl refl tt)

pub module_called-returns : goal.module_called-returns
module_called-returns t c =
    let m = c.args.self.now in
    let ok = c.in_ok-given.ensures.ok in
    let begun : OneCallDeeper m.evaluation c.begin_counted_call-begun.new.self = OnOk-at_ok ok.1 c.begin_counted_call-begun.ensures.begun in
    let k = c.in_ok-made.ensures.kept in
    told_from c.in_ok-made.ensures
    (λ judge right. counted_meant judge m (begun_at c.in_ok-made.ensures) c.args.position c.args.place (module_of c.args.defined) c.args.defining_scope (body_seen c.args.body) refl refl
    begun (OnOk-at_ok ok.1 c.begin_counted_call-begun.ensures.counted) ok.0)
    c.end_call.ensures.turns refl
    (stays_kept m _ k.unit (c.end_call.ensures.back m.evaluation (call_kept begun k.evaluation)))

pub module_made-members_in_scope-requires : goal.module_made-members_in_scope-requires
module_made-members_in_scope-requires t c =
    let m = c.args.self.now in
    let e = c.in_ok-before.ensures.entered in
    let called = c.requires.called in (
      omega (arith, work_same c.enter_module.new.self.evaluation.depth m.evaluation.depth e.evaluation.depth, c.decreases),
      (position_still m _ e.unit e.evaluation.source (record { whole = called.called.whole; listed = called.called.listed; inside = called.inside }), tt),
    )

-- a module's body in its scope
module_meant : (judge : Judge) (m mid : InstanceEvaluator) (position : Position) (before : ℕ) (defined : Module) (defining_scope : ℕ) (values : Vals) (body : NumberedBody)
    → IsModuleCall m position.instances.now defined defining_scope body → Enters m mid before
    → env_here mid.evaluation ≡ module_scope (env_at m defining_scope) (module_of defined) values (statements_of_body (body_seen body)) (env_here m.evaluation)
    → mid.evaluation.turns ≡ m.evaluation.turns
    → outcome_at m position judge (λ evaluator. module_with_values evaluator (module_of defined, env_at m defining_scope) values (body_seen body))
    ≡ then_with (outcome_at mid position judge (λ evaluator. block_members evaluator None (statements_at (table_in mid.evaluation.source.now) defined.block)))
    (λ turns members. Gives turns (joined_members Union members))
module_meant judge m mid position before defined defining_scope values body called e inside turns =
    ap (λ o. then_with o (λ turns members. Gives turns (joined_members Union members)))
    (block_meant judge m mid position before defined.block None _ _ called.its_block e inside turns)

pub module_made-returns-in_err-members : goal.module_made-returns-in_err-members
module_made-returns-in_err-members t c =
    let p = err_from_is_err_and c.from_residual-in_err-members.result c.from_residual-in_err-members.ensures.1 in
    rw (p.1, p.2) (join_stops Union c.in_err-members.ensures
    (λ judge right. module_meant judge c.args.self.now c.enter_module.new.self c.args.position c.in_ok-before.before c.args.defined c.args.defining_scope (values_seen c.args.values) c.args.body
    c.requires.called.called c.in_ok-before.ensures.entered c.in_ok-before.ensures.inside c.enter_module.ensures.turns) tt)

pub module_made-returns : goal.module_made-returns
module_made-returns t c =
    let m = c.args.self.now in
    let e = c.in_ok-before.ensures.entered in
    let b = c.in_ok-members.ensures.kept in
    joins Union c.in_ok-members.ensures
    (λ judge right. module_meant judge m c.enter_module.new.self c.args.position c.in_ok-before.before c.args.defined c.args.defining_scope (values_seen c.args.values) c.args.body
    c.requires.called.called e c.in_ok-before.ensures.inside c.enter_module.ensures.turns)
    c.in_ok-join_members.ensures c.leave.ensures.turns refl
    (stays_kept m _ (b.older.unit ∙ e.unit) (c.leave.ensures.back m.evaluation (scope_bound m b e.evaluation)))

pub module_made-leave-requires : goal.module_made-leave-requires
module_made-leave-requires t c =
    let e = c.in_ok-before.ensures.entered.evaluation in
    omega (arith, e.from, e.number, c.in_ok-members.ensures.kept.older.same.stands, c.args.self.now.evaluation.there)

pub module_with_bindings-returns-in_err-bound : goal.module_with_bindings-returns-in_err-bound
module_with_bindings-returns-in_err-bound t c =
    let p = err_from_is_err_and c.from_residual.result c.from_residual.ensures.1 in
    rw (p.1, p.2) (record {
      equation = λ judge right. only_no_memory _ (IfErr-at_err IsNoMemory c.in_err-bound.ensures.err c.push_bindings-begun.ensures.stop);
      kept = tt;
    })

pub module_with_bindings-module_made-requires : goal.module_with_bindings-module_made-requires
module_with_bindings-module_made-requires t c =
    let m = c.args.self.now in
    let ok = c.in_ok-bound.ensures.ok in
    let begins = specials_began c.push_bindings-begun.ensures.begins ok.1 in
    let k = c.parameters_in.ensures.kept in (
      omega (arith, work_same c.parameters_in.new.evaluation.depth m.evaluation.depth (k.depth ∙ begins.0.depth), c.decreases),
      (call_still m _ refl (k.source ∙ begins.0.source) (k.rows ∙ begins.0.rows) c.requires.called, c.in_ok-values.ensures.count),
    )

-- the values of a module's parameters, and the module with them
module _ (evaluator : Evaluator) (defined : SourceModule) (defining_scope : Env) (given : Arguments) (there : Context) (from : ExpressionContext) (bound : BoundArguments) (start : ℕ) {turns : ℕ}
    (same : from ≡ expression_context evaluator.evaluations (inside_scope there defining_scope)) (bound_argument : given.bound ≡ bound) (more : start ≡ turns) where
  parameters_from : each_parameter (expression_context evaluator.evaluations (inside_scope there defining_scope)) defined.params given.bound turns ≡ each_parameter from defined.params bound start
  parameters_from =
      ap (λ s. each_parameter s defined.params given.bound turns) (sym same) ∙ ap (λ s. each_parameter from defined.params s turns) bound_argument
      ∙ ap (λ n. each_parameter from defined.params bound n) (sym more)

  filled_from : (body : BodyTerm) (leaves : ℕ) {after : ℕ} {vs : Vals} → each_parameter from defined.params bound start ≡ Gives after vs
      → then_with (each_parameter (expression_context evaluator.evaluations (inside_scope there defining_scope)) defined.params given.bound turns) (λ turns vs. module_with_values evaluator (defined, defining_scope) vs body there turns leaves)
      ≡ module_with_values evaluator (defined, defining_scope) vs body there after leaves
  filled_from body leaves h = ap (λ o. then_with o (λ turns vs. module_with_values evaluator (defined, defining_scope) vs body there turns leaves)) (parameters_from ∙ h)

pub module_with_bindings-returns-in_err-values : goal.module_with_bindings-returns-in_err-values
module_with_bindings-returns-in_err-values t c =
    let p = err_from_is_err_and c.from_residual-in_err-values.result c.from_residual-in_err-values.ensures.1 in
    let m = c.args.self.now in
    let ok = c.in_ok-bound.ensures.ok in
    let begins = specials_began c.push_bindings-begun.ensures.begins ok.1 in
    let begun = with_more_bindings m c.push_bindings-begun.new.self c.in_ok-bound.length begins.0 in
    rw (p.1, p.2) (record {
      equation = λ judge right.
          let given = arguments_of c.args.given in
          let defining_scope = env_at m c.args.defining_scope in
          let there = with_bindings (context_at m c.args.position) (given.dynamic ++ bindings_of m.evaluation.scopes.now) in
          let go : ℕ → Vals → Outcome InstanceDesign = λ turns vs. module_with_values (evaluator_at m judge) (module_of c.args.defined, defining_scope) vs (body_seen c.args.body) there turns m.leaves in
          along (ap (λ o. then_with o go) (parameters_from (evaluator_at m judge) (module_of c.args.defined) defining_scope given there _ _ _
          (specials_setting m begun c.args.position c.args.defining_scope c.in_ok-bound.length given.dynamic begins.0 begins.1)
          (slots_lent ok.0) c.push_bindings-begun.ensures.begins.turns))
          (stop_outcome go (told_outcome values_seen (Err c.in_err-values.field-0.0) c.parameters_in.new.evaluation.turns m.leaves _ c.in_err-values.ensures.value));
      kept = tt;
    })

-- a module with its special arguments among the dynamic bindings, and with the values of its parameters
specials_filled : (judge : Judge) (m begun mid : InstanceEvaluator) (position : Position) (count : ℕ) (defined : SourceModule) (defining_scope : ℕ) (given : Arguments) (bound : BoundArguments)
    (values : Vals) (body : BodyTerm) → begun.unit ≡ m.unit → begun.leaves ≡ m.leaves → begun.evaluation.turns ≡ m.evaluation.turns → MoreBindings m.evaluation begun.evaluation count
    → bindings_of begun.evaluation.scopes.now ≡ given.dynamic ++ bindings_of m.evaluation.scopes.now → given.bound ≡ bound
    → Stays begun mid → mid.leaves ≡ begun.leaves
    → each_parameter (expression_context_in begun.evaluation defining_scope) defined.params bound begun.evaluation.turns ≡ Gives mid.evaluation.turns values
    → outcome_at m position judge (λ evaluator. module_with_arguments evaluator (defined, env_at m defining_scope) given body)
    ≡ outcome_at mid position judge (λ evaluator. module_with_values evaluator (defined, env_at mid defining_scope) values body)
specials_filled judge m begun mid position count defined defining_scope given bound values body unit leaves turns begins bindings bound_argument k same is =
    filled_from (evaluator_at m judge) defined (env_at m defining_scope) given (with_bindings (context_at m position) (given.dynamic ++ bindings_of m.evaluation.scopes.now)) _ _ _
    (specials_setting m begun position defining_scope count given.dynamic begins bindings) bound_argument turns body m.leaves is
    ∙ specials_meant (λ (x : Source) (rows : List ScopeRow) evaluator. module_with_values evaluator (defined, env_seen x rows defining_scope) values body)
    judge m begun mid position count given.dynamic unit leaves begins bindings k same

pub module_with_bindings-returns-in_err-made : goal.module_with_bindings-returns-in_err-made
module_with_bindings-returns-in_err-made t c =
    let p = err_from_is_err_and c.from_residual-in_err-made.result c.from_residual-in_err-made.ensures.1 in
    let m = c.args.self.now in
    let ok = c.in_ok-bound.ensures.ok in
    let begins = specials_began c.push_bindings-begun.ensures.begins ok.1 in
    let begun = with_more_bindings m c.push_bindings-begun.new.self c.in_ok-bound.length begins.0 in
    rw (p.1, p.2) (told_from c.in_err-made.ensures
    (λ judge right. specials_filled judge m begun (begun_at c.in_err-made.ensures) c.args.position c.in_ok-bound.length (module_of c.args.defined) c.args.defining_scope (arguments_of c.args.given)
    (bound_arguments_in c.in_ok-bound.bound.items) (values_seen c.in_ok-values.values) (body_seen c.args.body) refl refl c.push_bindings-begun.ensures.begins.turns begins.0 begins.1
    (slots_lent ok.0) (stays_kept begun _ refl c.parameters_in.ensures.kept) refl
    c.in_ok-values.ensures.value) refl refl tt)

pub module_with_bindings-returns : goal.module_with_bindings-returns
module_with_bindings-returns t c =
    let m = c.args.self.now in
    let ok = c.in_ok-bound.ensures.ok in
    let begins = specials_began c.push_bindings-begun.ensures.begins ok.1 in
    let begun = with_more_bindings m c.push_bindings-begun.new.self c.in_ok-bound.length begins.0 in
    let k = c.in_ok-made.ensures.kept in
    told_from c.in_ok-made.ensures
    (λ judge right. specials_filled judge m begun (begun_at c.in_ok-made.ensures) c.args.position c.in_ok-bound.length (module_of c.args.defined) c.args.defining_scope (arguments_of c.args.given)
    (bound_arguments_in c.in_ok-bound.bound.items) (values_seen c.in_ok-values.values) (body_seen c.args.body) refl refl c.push_bindings-begun.ensures.begins.turns begins.0 begins.1
    (slots_lent ok.0) (stays_kept begun _ refl c.parameters_in.ensures.kept) refl
    c.in_ok-values.ensures.value) c.pop_bindings.ensures.turns refl
    (stays_kept m _ k.unit (c.pop_bindings.ensures.back m.evaluation
    (specials_kept m.evaluation c.in_ok-bound.length begins.0 (keeps_trans c.parameters_in.ensures.kept k.evaluation))))

pub module_with_bindings-pop_bindings-requires : goal.module_with_bindings-pop_bindings-requires
module_with_bindings-pop_bindings-requires t c =
    let m = c.args.self.now in
    let ok = c.in_ok-bound.ensures.ok in
    let begins = specials_began c.push_bindings-begun.ensures.begins ok.1 in
    specials_there c.in_ok-bound.length (bindings_in c.args.given.dynamic.items) (keeps_trans c.parameters_in.ensures.kept c.in_ok-made.ensures.kept.evaluation) begins.0 begins.1

-- a choice by a value that was evaluated
chosen_by : {A : Type 0} (go : Bool → ℕ → Outcome A) {out : Outcome Val} {turns : ℕ} {value : Val} (test b : Bool) → out ≡ Gives turns value
    → test ≡ truth_of value → test ≡ b → then_with out (λ turns value. go (truth_of value) turns) ≡ go b turns
chosen_by go {turns = turns} test b told is holds =
    ap (λ o. then_with o (λ turns value. go (truth_of value) turns)) told ∙ ap (λ b. go b turns) (sym is ∙ holds)

pub one_or_nothing-returns : goal.one_or_nothing-returns
one_or_nothing-returns t c =
    let m = c.args.self.now in
    record {
      equation = λ judge right. record {
        is = chosen_by (λ b turns. if b then body_design (evaluator_at m judge) Union (context_at m c.args.position) (body_seen c.args.body) turns m.leaves else Gives turns (no_design m.leaves))
            c.truth.result false c.in_ok-value.ensures.value c.truth.ensures c.if-truth.false
            ∙ ap (λ (made : InstanceDesign). Gives c.evaluate.new.evaluation.turns made) (sym (c.nothing_made.ensures m.leaves));
      };
      kept = stays_kept m _ refl c.evaluate.ensures.kept;
    }

pub one_or_nothing-returns-then-truth : goal.one_or_nothing-returns-then-truth
one_or_nothing-returns-then-truth t c =
    let m = c.args.self.now in
    told_after (stays_kept m _ refl c.evaluate.ensures.kept) c.body.ensures (λ judge right.
    chosen_by (λ b turns. if b then body_design (evaluator_at m judge) Union (context_at m c.args.position) (body_seen c.args.body) turns m.leaves else Gives turns (no_design m.leaves))
    c.truth.result true c.in_ok-value.ensures.value c.truth.ensures c.if-truth.true)

pub one_or_other-returns-then-truth : goal.one_or_other-returns-then-truth
one_or_other-returns-then-truth t c =
    let m = c.args.self.now in
    told_after (stays_kept m _ refl c.evaluate.ensures.kept) c.body.ensures (λ judge right.
    chosen_by (λ b turns. body_design (evaluator_at m judge) Union (context_at m c.args.position) (if b then body_seen c.args.body else body_seen c.args.other) turns m.leaves)
    c.truth.result true c.in_ok-value.ensures.value c.truth.ensures c.if-truth.true)

pub one_or_other-returns : goal.one_or_other-returns
one_or_other-returns t c =
    let m = c.args.self.now in
    told_after (stays_kept m _ refl c.evaluate.ensures.kept) c.body-2.ensures (λ judge right.
    chosen_by (λ b turns. body_design (evaluator_at m judge) Union (context_at m c.args.position) (if b then body_seen c.args.body else body_seen c.args.other) turns m.leaves)
    c.truth.result false c.in_ok-value.ensures.value c.truth.ensures c.if-truth.false)

pub one_iteration-returns : goal.one_iteration-returns
one_iteration-returns t c =
    let m = c.args.self.now in
    let count_elements = c.in_ok-turn.ensures.counted in
    let f = told_there (stays_kept m _ refl c.turn.ensures.kept) c.body-made.ensures in
    record {
      equation = λ judge right.
          let go : ℕ → Outcome MemberDesigns = λ turns. then_with (body_design (evaluator_at m judge) Union (context_at m c.args.position) (body_seen c.args.body) turns m.leaves) (λ turns made. Gives turns (as_member true made)) in
          along (turn_counted c.args.place m.evaluation.turns go count_elements.0 ∙ ap go (sym count_elements.1))
          (first_outcome true c.no_members.result 0 c.body-made.result c.with_made.result _ _ (go c.turn.new.self.turns) c.no_members.ensures c.with_made.ensures
          (as_member_outcome true (f.equation judge right)));
      kept = lengthened_kept (one_member_of true) c.no_members.result c.body-made.result c.with_made.result _ c.with_made.ensures f.kept;
    }

pub inside-returns-in_err-variable-in-Some : goal.inside-returns-in_err-variable-in-Some
inside-returns-in_err-variable-in-Some t c =
    let p = err_from_is_err_and c.from_residual-in_err-variable-in-Some.result c.from_residual-in_err-variable-in-Some.ensures.1 in
    rw (p.1, p.2) (next_variable_stops c.args.self.now _ c.args.place c.args.position (body_seen c.args.body) c.in-Some.ensures.cases.0 refl refl c.in_err-variable-in-Some.ensures)

pub inside-returns-in_ok-variable-in-Some : goal.inside-returns-in_ok-variable-in-Some
inside-returns-in_ok-variable-in-Some t c =
    next_variable c.args.self.now _ c.args.place c.args.position (body_seen c.args.body) c.in-Some.ensures.cases.0 refl refl c.in_ok-variable-in-Some.ensures

pub iterations-each-init : goal.iterations-each-init
iterations-each-init t c =
    subst (λ (outer : List OpenVariable). IsUnderWay c.args.self.now c.args.position c.args.place (map binder_of c.args.binders.now) (body_seen c.args.body) outer c.in_ok-inside.inside c.inside.new.self)
    (sym c.new-outer.ensures.items)
    (begun c.args.self.now c.args.position c.args.place (map binder_of c.args.binders.now) (body_seen c.args.body) c.in_ok-inside.ensures)

pub iterations-next_step-requires : goal.iterations-next_step-requires
iterations-next_step-requires t c =
    let m = c.args.self.now in
    let p = same_place m c.each.invariant.opened c.each.self c.each.invariant.stands in (
      omega (arith, work_same c.each.self.evaluation.depth m.evaluation.depth p.depth, c.decreases),
      body_still m _ p.unit p.source c.requires,
    )

pub iterations-returns-in_err-inside-in-Variable : goal.iterations-returns-in_err-inside-in-Variable
iterations-returns-in_err-inside-in-Variable t c =
    let p = err_from_is_err_and c.from_residual-in_err-inside-in-Variable.result c.from_residual-in_err-inside-in-Variable.ensures.1 in
    let binders = map binder_of c.args.binders.now in
    let new = c.next_step.new.self in
    rw (p.1, p.2) (record {
      equation = taken_stops c.args.self.now c.args.position c.args.place binders (body_seen c.args.body) c.each.self new c.in-Variable.variable
          c.in_err-inside-in-Variable.field-0.0 new.evaluation.turns new.leaves
          (next_is c.args.self.now c.args.position c.args.place binders (body_seen c.args.body) c.each.invariant c.in-Variable.is) c.in_err-inside-in-Variable.ensures;
      kept = tt;
    })

pub iterations-each-smaller-in_ok-inside-in-Variable : goal.iterations-each-smaller-in_ok-inside-in-Variable
iterations-each-smaller-in_ok-inside-in-Variable t c =
    omega (arith, taken_less c.in-Variable.variable c.in_ok-inside-in-Variable.inside c.in_ok-inside-in-Variable.ensures, ap (loop_work c.each.outer.items) c.in-Variable.is)

pub iterations-each-preserved-in_ok-inside-in-Variable : goal.iterations-each-preserved-in_ok-inside-in-Variable
iterations-each-preserved-in_ok-inside-in-Variable t c =
    let binders = map binder_of c.args.binders.now in
    taken c.args.self.now c.args.position c.args.place binders (body_seen c.args.body) c.each.self c.next_step.new.self c.in-Variable.variable c.in_ok-inside-in-Variable.inside
    (next_is c.args.self.now c.args.position c.args.place binders (body_seen c.args.body) c.each.invariant c.in-Variable.is) c.in_ok-inside-in-Variable.ensures

pub iterations-returns-in-None : goal.iterations-returns-in-None
iterations-returns-in-None t c =
    let binders = map binder_of c.args.binders.now in
    closed c.args.self.now c.args.position c.args.place binders (body_seen c.args.body)
    (next_is c.args.self.now c.args.position c.args.place binders (body_seen c.args.body) c.each.invariant c.in-Members.is) (omega (arith, c.in-None.ensures.cases.0))

pub iterations-with_step-requires : goal.iterations-with_step-requires
iterations-with_step-requires t c =
    let binders = map binder_of c.args.binders.now in
    inside_another c.args.self.now c.args.position c.args.place binders (body_seen c.args.body) c.each.self
    (popped c.args.self.now c.args.position c.args.place binders (body_seen c.args.body)
    (next_is c.args.self.now c.args.position c.args.place binders (body_seen c.args.body) c.each.invariant c.in-Members.is) c.in-Some.ensures.items)

pub iterations-invariant_of-self : goal.iterations-invariant_of-self
iterations-invariant_of-self t c =
    let binders = map binder_of c.args.binders.now in
    record {
      few_leaves = c.each.self.few_leaves;
      newest = newest_still c.args.self.now c.args.position c.args.place binders (body_seen c.args.body) c.each.self
          (popped c.args.self.now c.args.position c.args.place binders (body_seen c.args.body)
          (next_is c.args.self.now c.args.position c.args.place binders (body_seen c.args.body) c.each.invariant c.in-Members.is) c.in-Some.ensures.items)
          c.with_step.ensures;
    }

pub iterations-returns-in_err-with_step-in-Some : goal.iterations-returns-in_err-with_step-in-Some
iterations-returns-in_err-with_step-in-Some t c =
    let p = err_from_is_err_and c.from_residual-in_err-with_step-in-Some.result c.from_residual-in_err-with_step-in-Some.ensures.1 in
    let binders = map binder_of c.args.binders.now in
    rw (p.1, p.2) (record {
      equation = step_stops c.args.self.now c.args.position c.args.place binders (body_seen c.args.body) c.each.self
          (popped c.args.self.now c.args.position c.args.place binders (body_seen c.args.body)
          (next_is c.args.self.now c.args.position c.args.place binders (body_seen c.args.body) c.each.invariant c.in-Members.is) c.in-Some.ensures.items)
          c.in_err-with_step-in-Some.field-0.0 c.with_step.new.evaluation.turns c.each.self.leaves c.in_err-with_step-in-Some.ensures;
      kept = tt;
    })

pub iterations-each-smaller : goal.iterations-each-smaller
iterations-each-smaller t c =
    ended_less c.each.outer.items c.pop.new.self.items c.each.inside c.in-Some.variable c.in_ok-with_step-in-Some.field-0 c.in-Some.ensures.items c.in_ok-with_step-in-Some.ensures.same

pub iterations-each-preserved : goal.iterations-each-preserved
iterations-each-preserved t c =
    let binders = map binder_of c.args.binders.now in
    step_ended c.args.self.now c.args.position c.args.place binders (body_seen c.args.body) c.each.self
    (popped c.args.self.now c.args.position c.args.place binders (body_seen c.args.body)
    (next_is c.args.self.now c.args.position c.args.place binders (body_seen c.args.body) c.each.invariant c.in-Members.is) c.in-Some.ensures.items)
    _ refl refl c.in_ok-with_step-in-Some.ensures

pub next_step-returns : goal.next_step-returns
next_step-returns t c =
    a_step (record {
      items = c.next.new.self;
      value = bounded_val c.in-Some.value;
      entered = gone_from c.inside.ensures;
      remaining = c.in-Some.ensures.next;
      enters = record { unit = refl; leaves = refl; evaluation = c.in_ok-enter-in-Some.ensures.entered };
      scope = c.in_ok-enter-in-Some.ensures.inside;
      turns = c.enter.ensures.turns;
      waits = c.in_ok-wait-in-Some.ensures;
      goes = c.inside.ensures;
    })
