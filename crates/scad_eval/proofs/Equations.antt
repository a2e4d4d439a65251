-- What is told from where a step began, of steps that stand elsewhere: in a scope that was entered, one evaluation or call
-- deeper, or with special arguments among the dynamic bindings.
use Rattle.std.proofs.Common.{◌≡◌, ℕ, ◌+◌, ◌-◌, Bool, true, false, List, ◌++◌, Option, None, is_some, codes, Result, Ok, Err, refl, sym, ap, subst, ◌∙◌}
use Rattle.std.specs.Prelude.{OnOk}
use Rattle.text_place.specs.declared.fault.Stop.{Stop}
use Rattle.text_place.specs.declared.fault.Stop.TheVariants.{Fault, NoMemory}
use Rattle.text_place.specs.declared.fault.FaultKind.{FaultKind}
use Rattle.plain_text.specs.declared.place.Place.{Place}
use Rattle.csg_tree.specs.declared.op.Op.{Op}
use Rattle.scad_ast.specs.Terms.{StatementTerms, InstanceTerm, BodyTerm}
use Rattle.scad_value.specs.Values.{Val}
use Rattle.scad_scope.specs.Names.{Pairs, ScopeRow, find_in}
use Rattle.scad_scope.specs.Table.{rows_of, bindings_of}
use Rattle.scad_definitions.specs.Blocks.{BlockTable, statements_of_body}
use Rattle.scad_func.specs.Limits.{most_calls, most_evaluations}
use Rattle.scad_func.specs.Meaning.{Outcome, Gives, Faults, Arguments, BoundArguments, Env, Activation, no_activation, activation_in, entered_scope, then_with, value_within}
use Rattle.scad_definitions.specs.ArgumentsView.{IsFaultAt}
use Rattle.scad_func.specs.View.{MeetsOutcome, env_seen, table_in}
use Rattle.scad_func.specs.Definitions.{IsWholeTable, statements_at, block_scope}
use Rattle.scad_func.specs.Evaluations.{OneCallDeeper, OneEvaluationDeeper, MoreBindings, env_here, expression_context_in}
use Rattle.scad_func.specs.declared.source.Source.{Source}
use Rattle.scad_value.specs.Operators.{AnswerOrFault}
use Rattle.scad_modules.specs.Effects.{ChosenCall, EffectCall}
use Rattle.scad_modules.specs.Calls.{effect_of}
use Rattle.scad_modules.specs.declared.table.BuiltinModule.{BuiltinModule}
use Rattle.scad_instance_rules.specs.declared.position.NumberedBody.{NumberedBody}
use Rattle.scad_instance_rules.specs.declared.position.Position.{Position}
use Rattle.scad_instance_rules.specs.declared.position.InstanceResult.{InstanceResult}
use Rattle.scad_instance_rules.specs.declared.position.MemberResults.{MemberResults}
use Rattle.scad_eval.specs.declared.evaluator.InstanceEvaluator.{InstanceEvaluator}
use Rattle.scad_meaning.specs.Verdicts.{Judge}
use Rattle.scad_meaning.specs.Bodies.{has_root_modifier}
use Rattle.scad_meaning.specs.Meaning.{Context, InstanceDesign, MemberDesigns, Evaluator, inside_scope, with_bindings, with_calls_left, inside_root, expression_context, evaluator_with, instance_design, core_design, core_of_instance, joined_members, body_design, each_member, children_design, effect_design, answered_with, no_members, and_members, as_root, block_members, built_in_with_arguments, chosen_children, instances_chosen}
use Rattle.scad_instance_rules.specs.Seen.{HasOutcome, instance_design_of, member_designs_of, one_member_of, IsLengthened, members_in_front}
use Rattle.scad_instance_rules.specs.Calls.{MeetsEffectAt}
use Rattle.scad_eval.specs.Within.{body_seen, IsBodyAt}
use Rattle.scad_eval.specs.Keeping.{evaluations_left, evaluator_at, context_at, Stays, Enters, Assigns, Equation, outcome_at, EvaluatesKeeping}
use Rattle.scad_eval.proofs.Outcomes.{along, front_of_none, no_memory}
use Rattle.scad_eval.proofs.Contexts.{meant_by, same_context, entered_context}
use Rattle.scad_eval.proofs.Beginning.{deeper_context, call_context, specials_context}
use Rattle.scad_eval.proofs.Counting.{design_deeper, call_counted}

-- a fault that stands at a place
pub refused_outcome : {A B : Type 0} {see : ℕ → A → B} (stop : Stop) (m l : ℕ) (kind : FaultKind) (at : Place) → IsFaultAt stop kind at
    → HasOutcome see (Err stop) m l (Faults kind at)
refused_outcome (Fault fault) m l kind at h =
    record { is = ap (λ (k : FaultKind). Faults k at) (sym h.0) ∙ ap (λ (p : Place). Faults fault.kind p) (sym h.1) }
refused_outcome NoMemory m l kind at h = absurd h

-- in a scope that was entered
pub entered_meant : {B : Type 0} (meaning : Source → Equation B) (judge : Judge) (old mid : InstanceEvaluator) (position : Position) (before : ℕ) (env : Env)
    → Enters old mid before → env_here mid.evaluation ≡ env → mid.evaluation.turns ≡ old.evaluation.turns
    → meaning old.evaluation.source.now (evaluator_at old judge) (inside_scope (context_at old position) env) old.evaluation.turns old.leaves
    ≡ outcome_at mid position judge (meaning mid.evaluation.source.now)
entered_meant meaning judge old mid position before env e is turns =
    let evaluator = evaluator_at old judge in
    let here = inside_scope (context_at old position) env in
    ap (λ (x : Source). meaning x evaluator here old.evaluation.turns old.leaves) (sym e.evaluation.source)
    ∙ ap (λ n. meaning mid.evaluation.source.now evaluator here n old.leaves) (sym turns)
    ∙ ap (λ n. meaning mid.evaluation.source.now evaluator here mid.evaluation.turns n) (sym e.leaves)
    ∙ meant_by (meaning mid.evaluation.source.now) judge mid position old.unit (evaluations_left old) here e.unit
    (ap (λ n. most_evaluations - n) e.evaluation.depth) (entered_context old mid position before env e is)

-- a block in a scope that was entered
pub block_meant : (judge : Judge) (old mid : InstanceEvaluator) (position : Position) (before block : ℕ) (chosen : Option ChosenCall) (statements : StatementTerms)
    (env : Env) → statements_at (table_in old.evaluation.source.now) block ≡ statements → Enters old mid before → env_here mid.evaluation ≡ env
    → mid.evaluation.turns ≡ old.evaluation.turns
    → block_members (evaluator_at old judge) chosen statements (inside_scope (context_at old position) env) old.evaluation.turns old.leaves
    ≡ outcome_at mid position judge (λ evaluator. block_members evaluator chosen (statements_at (table_in mid.evaluation.source.now) block))
block_meant judge old mid position before block chosen _ env is e inside turns =
    ap (λ (st : StatementTerms). block_members (evaluator_at old judge) chosen st (inside_scope (context_at old position) env) old.evaluation.turns old.leaves) (sym is)
    ∙ entered_meant (λ (x : Source) evaluator. block_members evaluator chosen (statements_at (table_in x) block)) judge old mid position before env e inside turns

-- where the block says what is in its scope
pub entered_block : (table : BlockTable) (block : ℕ) (call : Activation) (outer : Env) (statements : StatementTerms) {env : Env} → IsWholeTable table
    → statements_at table block ≡ statements → env ≡ block_scope table block call outer → env ≡ entered_scope statements call outer
entered_block table block call outer _ whole is inside =
    inside ∙ whole.scopes block call outer ∙ ap (λ (st : StatementTerms). entered_scope st call outer) is

-- a body in a scope that was entered
pub body_meant : (op : Op) (judge : Judge) (old mid : InstanceEvaluator) (position : Position) (before : ℕ) (body : NumberedBody) → IsBodyAt old position body
    → Enters old mid before
    → env_here mid.evaluation ≡ block_scope (table_in old.evaluation.source.now) body.block no_activation (env_here old.evaluation)
    → mid.evaluation.turns ≡ old.evaluation.turns
    → outcome_at old position judge (λ evaluator here. body_design evaluator op here (body_seen body))
    ≡ then_with (outcome_at mid position judge (λ evaluator. block_members evaluator None (statements_at (table_in mid.evaluation.source.now) body.block)))
    (λ turns members. Gives turns (joined_members op members))
body_meant op judge old mid position before body stands e inside turns =
    let statements = statements_of_body (body_seen body) in
    let outer = env_here old.evaluation in
    ap (λ o. then_with o (λ turns members. Gives turns (joined_members op members)))
    (block_meant judge old mid position before body.block None statements (entered_scope statements no_activation outer) stands.block e
    (entered_block (table_in old.evaluation.source.now) body.block no_activation outer statements stands.position.whole stands.block inside) turns)

-- one evaluation deeper
pub deeper_meant : (judge : Judge) (old mid : InstanceEvaluator) (position : Position) (i : InstanceTerm) → mid.unit ≡ old.unit → mid.leaves ≡ old.leaves
    → mid.evaluation.turns ≡ old.evaluation.turns → OneEvaluationDeeper old.evaluation mid.evaluation
    → outcome_at old position judge (λ evaluator here. evaluator.at_next_depth here i) ≡ outcome_at mid position judge (λ evaluator here. instance_design evaluator here i)
deeper_meant judge old mid position i unit leaves turns b =
    let d = old.evaluation.depth in
    let l = most_evaluations - (d + 1) in
    let evaluator = evaluator_with old.unit judge l in
    design_deeper old.unit judge d (context_at old position) i old.evaluation.turns old.leaves b.within
    ∙ ap (λ n. instance_design evaluator (context_at old position) i n old.leaves) (sym turns)
    ∙ ap (λ n. instance_design evaluator (context_at old position) i mid.evaluation.turns n) (sym leaves)
    ∙ meant_by (λ evaluator here. instance_design evaluator here i) judge mid position old.unit l (context_at old position) unit
    (ap (λ n. most_evaluations - n) b.depth) (deeper_context old mid position b)

-- one call deeper; the turns are those that a call counts
pub call_meant : {B : Type 0} (meaning : Source → List ScopeRow → Equation B) (judge : Judge) (old mid : InstanceEvaluator) (position : Position)
    → mid.unit ≡ old.unit → mid.leaves ≡ old.leaves → OneCallDeeper old.evaluation mid.evaluation
    → meaning old.evaluation.source.now (rows_of old.evaluation.scopes.now) (evaluator_at old judge)
    (with_calls_left (context_at old position) (most_calls - (old.evaluation.calls + 1))) mid.evaluation.turns old.leaves
    ≡ outcome_at mid position judge (meaning mid.evaluation.source.now (rows_of mid.evaluation.scopes.now))
call_meant meaning judge old mid position unit leaves b =
    let evaluator = evaluator_at old judge in
    let here = with_calls_left (context_at old position) (most_calls - (old.evaluation.calls + 1)) in
    ap (λ (x : Source). meaning x (rows_of old.evaluation.scopes.now) evaluator here mid.evaluation.turns old.leaves) (sym b.source)
    ∙ ap (λ (rows : List ScopeRow). meaning mid.evaluation.source.now rows evaluator here mid.evaluation.turns old.leaves) (sym b.rows)
    ∙ ap (λ n. meaning mid.evaluation.source.now (rows_of mid.evaluation.scopes.now) evaluator here mid.evaluation.turns n) (sym leaves)
    ∙ meant_by (meaning mid.evaluation.source.now (rows_of mid.evaluation.scopes.now)) judge mid position old.unit (evaluations_left old) here unit
    (ap (λ n. most_evaluations - n) b.depth) (call_context old mid position b)

-- with special arguments among the dynamic bindings, and behind steps that keep all
pub specials_meant : {B : Type 0} (meaning : Source → List ScopeRow → Equation B) (judge : Judge) (old begun mid : InstanceEvaluator) (position : Position)
    (count : ℕ) (dynamic : Pairs Val)
    → begun.unit ≡ old.unit → begun.leaves ≡ old.leaves → MoreBindings old.evaluation begun.evaluation count
    → bindings_of begun.evaluation.scopes.now ≡ dynamic ++ bindings_of old.evaluation.scopes.now
    → Stays begun mid → mid.leaves ≡ begun.leaves
    → meaning old.evaluation.source.now (rows_of old.evaluation.scopes.now) (evaluator_at old judge)
    (with_bindings (context_at old position) (dynamic ++ bindings_of old.evaluation.scopes.now)) mid.evaluation.turns old.leaves
    ≡ outcome_at mid position judge (meaning mid.evaluation.source.now (rows_of mid.evaluation.scopes.now))
specials_meant meaning judge old begun mid position count dynamic unit leaves b bindings k same =
    let evaluator = evaluator_at old judge in
    let here = with_bindings (context_at old position) (dynamic ++ bindings_of old.evaluation.scopes.now) in
    let kept = k.evaluation in
    ap (λ (x : Source). meaning x (rows_of old.evaluation.scopes.now) evaluator here mid.evaluation.turns old.leaves) (sym (kept.source ∙ b.source))
    ∙ ap (λ (rows : List ScopeRow). meaning mid.evaluation.source.now rows evaluator here mid.evaluation.turns old.leaves) (sym (kept.rows ∙ b.rows))
    ∙ ap (λ n. meaning mid.evaluation.source.now (rows_of mid.evaluation.scopes.now) evaluator here mid.evaluation.turns n) (sym (same ∙ leaves))
    ∙ meant_by (meaning mid.evaluation.source.now (rows_of mid.evaluation.scopes.now)) judge mid position old.unit (evaluations_left old) here (k.unit ∙ unit)
    (ap (λ n. most_evaluations - n) (kept.depth ∙ b.depth))
    (same_context begun mid position k ∙ specials_context old begun position count dynamic b bindings)

-- the chosen children of the enclosing call, one call deeper
pub children_meant : (judge : Judge) (old mid : InstanceEvaluator) (position : Position) (at : Place) (chosen : ChosenCall)
    → mid.unit ≡ old.unit → mid.leaves ≡ old.leaves → mid.evaluation.turns ≡ old.evaluation.turns → OneCallDeeper old.evaluation mid.evaluation
    → outcome_at old position judge (λ evaluator. chosen_children evaluator at chosen)
    ≡ outcome_at mid position judge (λ evaluator here. children_design evaluator here (activation_in here.env) chosen)
children_meant judge old mid position at chosen unit leaves turns b =
    let here = context_at old position in
    let go : ℕ → ℕ → Outcome InstanceDesign = λ calls turns. children_design (evaluator_at old judge) (with_calls_left here calls) (activation_in here.env) chosen turns old.leaves in
    call_counted old.evaluation.calls at (λ calls. go calls old.evaluation.turns) b.within
    ∙ ap (go (most_calls - (old.evaluation.calls + 1))) (sym turns)
    ∙ call_meant (λ (x : Source) (rows : List ScopeRow) evaluator here. children_design evaluator here (activation_in here.env) chosen) judge old mid position unit leaves b

-- a built-in module, by what its call does
effect_refused : {B : Type 0} (stop : Stop) (at : Place) (answer : AnswerOrFault EffectCall) (go : EffectCall → Outcome B) (m l : ℕ) {A : Type 0} {see : ℕ → A → B}
    → MeetsEffectAt (Err stop) at answer → HasOutcome see (Err stop) m l (answered_with answer at go)
effect_refused (Fault fault) at answer go m l h =
    record { is = ap (λ (a : AnswerOrFault EffectCall). answered_with a at go) h.0 ∙ ap (λ (p : Place). Faults fault.kind p) (sym h.1) }
effect_refused NoMemory at answer go m l h = record { is = tt }

module _ (old begun : InstanceEvaluator) (position : Position) (at : Place) (builtin : BuiltinModule) (given : Arguments) (body : BodyTerm) (bound : BoundArguments)
    (bindings : bindings_of begun.evaluation.scopes.now ≡ given.dynamic ++ bindings_of old.evaluation.scopes.now) (same : given.bound ≡ bound) where
  abbrev answer_of : Pairs Val → BoundArguments → AnswerOrFault EffectCall
  answer_of dynamic bound = effect_of old.unit (is_some position.inside) (find_in dynamic (codes "fn")) builtin bound

  abbrev with_effect : Judge → ℕ → EffectCall → Outcome InstanceDesign
  with_effect judge turns effect =
      effect_design (evaluator_at old judge) (with_bindings (context_at old position) (given.dynamic ++ bindings_of old.evaluation.scopes.now)) at effect body turns old.leaves

  answer_at : (judge : Judge) → outcome_at old position judge (λ evaluator. built_in_with_arguments evaluator at builtin given body)
      ≡ answered_with (answer_of (bindings_of begun.evaluation.scopes.now) bound) at (with_effect judge old.evaluation.turns)
  answer_at judge =
      ap (λ (c : Pairs Val). answered_with (answer_of c given.bound) at (with_effect judge old.evaluation.turns)) (sym bindings)
      ∙ ap (λ (filled : BoundArguments). answered_with (answer_of (bindings_of begun.evaluation.scopes.now) filled) at (with_effect judge old.evaluation.turns)) same

  pub built_in_refused : {Now : Type 0} (stop : Stop) (end : InstanceEvaluator) → MeetsEffectAt (Err stop) at (answer_of (bindings_of begun.evaluation.scopes.now) bound) → Now
      → EvaluatesKeeping instance_design_of old end position (Err stop) Now (λ evaluator. built_in_with_arguments evaluator at builtin given body)
  built_in_refused stop end h kept = record {
    equation = λ judge right.
        along (answer_at judge) (effect_refused stop at (answer_of (bindings_of begun.evaluation.scopes.now) bound) (with_effect judge old.evaluation.turns) end.evaluation.turns end.leaves h);
    kept = kept;
  }

  pub built_in_meant : (judge : Judge) (mid : InstanceEvaluator) (count : ℕ) (effect : EffectCall)
      → begun.unit ≡ old.unit → begun.leaves ≡ old.leaves → mid.evaluation.turns ≡ old.evaluation.turns → MoreBindings old.evaluation begun.evaluation count
      → Stays begun mid → mid.leaves ≡ begun.leaves → answer_of (bindings_of begun.evaluation.scopes.now) bound ≡ Ok effect
      → outcome_at old position judge (λ evaluator. built_in_with_arguments evaluator at builtin given body)
      ≡ outcome_at mid position judge (λ evaluator here. effect_design evaluator here at effect body)
  built_in_meant judge mid count effect unit leaves turns b k same_leaves is =
      answer_at judge ∙ ap (λ (a : AnswerOrFault EffectCall). answered_with a at (with_effect judge old.evaluation.turns)) is
      ∙ ap (λ n. with_effect judge n effect) (sym turns)
      ∙ specials_meant (λ (x : Source) (rows : List ScopeRow) evaluator here. effect_design evaluator here at effect body)
      judge old begun mid position count given.dynamic unit leaves b bindings k same_leaves

-- a block's instances, behind its assignments
pub instances_meant : (old mid : InstanceEvaluator) (position : Position) (block : ℕ) (chosen : Option ChosenCall) (is : List InstanceTerm) {with_assignment : Outcome Context}
    (judge : Judge) → Assigns old mid → with_assignment ≡ Gives mid.evaluation.turns (context_at mid position)
    → is ≡ instances_chosen (env_here mid.evaluation) chosen (statements_at (table_in mid.evaluation.source.now) block)
    → then_with with_assignment (λ turns there. each_member (evaluator_at old judge) there (instances_chosen there.env chosen (statements_at (table_in old.evaluation.source.now) block)) turns old.leaves)
    ≡ outcome_at mid position judge (λ evaluator here. each_member evaluator here is)
instances_meant old mid position block chosen is judge a told same =
    let evaluator = evaluator_at old judge in
    let there = context_at mid position in
    ap (λ o. then_with o (λ turns there. each_member evaluator there (instances_chosen there.env chosen (statements_at (table_in old.evaluation.source.now) block)) turns old.leaves)) told
    ∙ ap (λ n. each_member evaluator there (instances_chosen there.env chosen (statements_at (table_in old.evaluation.source.now) block)) mid.evaluation.turns n) (sym a.leaves)
    ∙ ap (λ (x : Source). each_member evaluator there (instances_chosen there.env chosen (statements_at (table_in x) block)) mid.evaluation.turns mid.leaves) (sym a.older.same.source)
    ∙ ap (λ (xs : List InstanceTerm). each_member evaluator there xs mid.evaluation.turns mid.leaves) (sym same)
    ∙ meant_by (λ evaluator here. each_member evaluator here is) judge mid position old.unit (evaluations_left old) there a.older.unit
    (ap (λ n. most_evaluations - n) a.older.same.depth) refl

-- where an expression stands with special arguments among the dynamic bindings
pub specials_setting : (old begun : InstanceEvaluator) (s : Position) (scope count : ℕ) (dynamic : Pairs Val) → MoreBindings old.evaluation begun.evaluation count
    → bindings_of begun.evaluation.scopes.now ≡ dynamic ++ bindings_of old.evaluation.scopes.now
    → expression_context_in begun.evaluation scope
    ≡ expression_context (evaluations_left old) (inside_scope (with_bindings (context_at old s) (dynamic ++ bindings_of old.evaluation.scopes.now))
    (env_seen old.evaluation.source.now (rows_of old.evaluation.scopes.now) scope))
specials_setting old begun s scope count dynamic b bindings =
    ap (λ n. record { at_next_depth = value_within (most_evaluations - n); calls_left = most_calls - begun.evaluation.calls; env = env_seen begun.evaluation.source.now (rows_of begun.evaluation.scopes.now) scope; bindings = bindings_of begun.evaluation.scopes.now }) b.depth
    ∙ ap (λ n. record { at_next_depth = value_within (most_evaluations - old.evaluation.depth); calls_left = most_calls - n; env = env_seen begun.evaluation.source.now (rows_of begun.evaluation.scopes.now) scope; bindings = bindings_of begun.evaluation.scopes.now }) b.calls
    ∙ ap (λ (x : Source). record { at_next_depth = value_within (most_evaluations - old.evaluation.depth); calls_left = most_calls - old.evaluation.calls; env = env_seen x (rows_of begun.evaluation.scopes.now) scope; bindings = bindings_of begun.evaluation.scopes.now }) b.source
    ∙ ap (λ (rows : List ScopeRow). record { at_next_depth = value_within (most_evaluations - old.evaluation.depth); calls_left = most_calls - old.evaluation.calls; env = env_seen old.evaluation.source.now rows scope; bindings = bindings_of begun.evaluation.scopes.now }) b.rows
    ∙ ap (λ (c : Pairs Val). record { at_next_depth = value_within (most_evaluations - old.evaluation.depth); calls_left = most_calls - old.evaluation.calls; env = env_seen old.evaluation.source.now (rows_of old.evaluation.scopes.now) scope; bindings = c }) bindings

-- an instance whose mark counts
pub marked_form : (evaluator : Evaluator) (here : Context) (i : InstanceTerm) (turns leaves : ℕ)
    → has_root_modifier i ≡ true → is_some here.inside ≡ false → here.under_root ≡ false
    → instance_design evaluator here i turns leaves
    ≡ then_with (core_design evaluator (inside_root here) (core_of_instance i) turns leaves) (λ turns m. Gives turns (as_root m))
marked_form evaluator here i turns leaves root outside first =
    let apart_design : Outcome InstanceDesign = then_with (core_design evaluator (inside_root here) (core_of_instance i) turns leaves) (λ turns m. Gives turns (as_root m)) in
    let plain = core_design evaluator here (core_of_instance i) turns leaves in
    rw (root, outside, first) refl

-- members with nothing in front, and a step of a loop that gave something
pub begun_front : (before : MemberResults) (leaves : ℕ) (out : Outcome MemberDesigns) → member_designs_of leaves before ≡ no_members leaves
    → out ≡ members_in_front (member_designs_of leaves before) out
begun_front before leaves out none = sym (ap (λ (ms : MemberDesigns). members_in_front ms out) none ∙ front_of_none leaves out)

pub OnOk-at_ok : {A E : Type 0} {P : Type 0} {r : Result A E} {x : A} → r ≡ Ok x → OnOk r P → P
OnOk-at_ok {P = P} e h = subst (λ s. OnOk s P) e h

-- what a longer list says, where it is one
pub lengthened_kept : {A : Type 0} (see : ℕ → A → MemberDesigns) (before : MemberResults) (r : Result A Stop) (all : Result MemberResults Stop) (P : Type 0)
    → IsLengthened see before r all → OnOk r P → OnOk all P
lengthened_kept see before (Ok x) (Ok after) P l p = p
lengthened_kept see before (Ok x) (Err stop) P l p = tt
lengthened_kept see before (Err fault) (Ok after) P l p = absurd l
lengthened_kept see before (Err fault) (Err stop) P l p = tt

-- one member alone
pub first_outcome : (b : Bool) (before : MemberResults) (start : ℕ) (r : Result InstanceResult Stop) (all : Result MemberResults Stop) (m l : ℕ) (out : Outcome MemberDesigns)
    → ((leaves : ℕ) → member_designs_of leaves before ≡ no_members leaves) → IsLengthened (one_member_of b) before r all
    → HasOutcome (one_member_of b) r m l out → HasOutcome member_designs_of all m l out
first_outcome b before start (Ok x) (Ok after) m l out none long h = record {
  is = h.is ∙ ap (λ (ms : MemberDesigns). Gives m ms)
      (sym (long start l ∙ ap (λ (ms : MemberDesigns). and_members ms (one_member_of b l x)) (none start)));
}
first_outcome b before start (Ok x) (Err stop) m l out none long h = no_memory long
first_outcome b before start (Err fault) (Ok after) m l out none long h = absurd long
first_outcome b before start (Err fault) (Err stop) m l out none long h =
    subst (λ (s : Stop). HasOutcome member_designs_of (Err s) m l out) (sym long) (record { is = tells fault h.is })
  where
    tells : (f : Stop) → MeetsOutcome (one_member_of b l) (Err f) m out → MeetsOutcome (member_designs_of l) (Err f) m out
    tells (Fault f) t = t
    tells NoMemory t = tt
