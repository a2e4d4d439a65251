-- A loop that goes on inside variables that have values.
use Rattle.std.proofs.Common.{◌≡◌, ℕ, ◌+◌, ◌<◌, List, [], ◌∷◌, ◌++◌, map, length, true, Option, None, Some, Result, Ok, Err, refl, sym, ap, subst, ◌∙◌, append-nil, arith}
use Rattle.std.proofs.lemmas.List.{length_push, same_from_push, length-map}
use Rattle.text_place.specs.declared.fault.Stop.{Stop}
use Rattle.text_place.specs.declared.fault.Stop.TheVariants.{Fault, NoMemory}
use Rattle.text_place.specs.declared.fault.FaultKind.{FaultKind}
use Rattle.text_place.specs.declared.fault.FaultKind.TheVariants.{TypeMismatch}
use Rattle.plain_text.specs.declared.place.Place.{Place}
use Rattle.scad_ast.specs.declared.statement.Binder.{Binder}
use Rattle.scad_ast.specs.Terms.{BodyTerm, BinderTerm}
use Rattle.scad_ast.specs.ExprView.{term_of}
use Rattle.scad_ast.specs.StatementView.{binder_of}
use Rattle.scad_value.specs.Values.{Val, Vals, no_vals, and_val}
use Rattle.scad_design.specs.Designs.{DesignTree}
use Rattle.scad_func.specs.Meaning.{Outcome, Gives, Faults, InnerScope, no_activation, then_with, or_fault, value_at_next_depth}
use Rattle.scad_func.specs.Evaluations.{OneScopeMore, env_here, expression_context_here, scopes_there}
use Rattle.scad_func.specs.View.{MeetsOutcome}
use Rattle.scad_func.specs.declared.evaluation.Evaluation.{Evaluation}
use Rattle.scad_func.specs.declared.source.Source.{Source}
use Rattle.scad_meaning.specs.Loops.{iterated_values}
use Rattle.scad_meaning.specs.Verdicts.{Judge, IsRightJudge}
use Rattle.scad_meaning.specs.Meaning.{Context, MemberDesigns, Evaluator, first_root, counted_step, each_step, each_iteration, in_loop}
use Rattle.scad_instance_rules.specs.declared.items.Items.{Items}
use Rattle.scad_instance_rules.specs.declared.position.MemberResults.{MemberResults}
use Rattle.scad_instance_rules.specs.declared.position.Position.{Position}
use Rattle.scad_instance_rules.specs.Items.{remaining_in}
use Rattle.scad_instance_rules.specs.Seen.{HasOutcome, member_designs_of, members_in_front}
use Rattle.scad_eval.specs.declared.evaluator.InstanceEvaluator.{InstanceEvaluator}
use Rattle.scad_eval.specs.declared.open_variable.OpenVariable.{OpenVariable}
use Rattle.scad_eval.specs.declared.open_variable.Inside.{Inside}
use Rattle.scad_eval.specs.declared.open_variable.Inside.TheVariants.{Variable, Members}
use Rattle.scad_eval.specs.Keeping.{evaluator_at, context_at, Stays, Enters, outcome_at, EvaluatesAt}
use Rattle.scad_eval.specs.Variables.{IsSameVariable, EndsStep, steps_left, left_inside, IsStopOf, IsPaused, OpensVariable, GoesInside, BeginsStep, TakesStep, no_step, a_step, no_memory}
use Rattle.scad_func.proofs.lemmas.Kept.{scope_kept}
use Rattle.scad_eval.proofs.Contexts.{stays_then, stays_kept, meant_after}
use Rattle.scad_eval.proofs.Equations.{entered_meant, begun_front}
use Rattle.scad_eval.proofs.Outcomes.{front_twice, no_memory as without_memory}

-- the variables in whose scopes a loop goes on, each with where its values were evaluated
pub data Opened : Type 0 where
  outermost : Opened
  inside_of : (outer : Opened) → (variable : OpenVariable) → (mid : InstanceEvaluator) → Opened

-- the variables from the outermost on
abbrev pub variables_in : Opened → List OpenVariable
variables_in outermost = []
variables_in (inside_of outer variable mid) = variables_in outer ++ (variable ∷ [])

-- evaluation is in the scope of a variable's value
pub record IsInScope (mid now : InstanceEvaluator) (outside : ℕ) : Type 0 where
  pub unit : now.unit ≡ mid.unit
  pub evaluation : OneScopeMore mid.evaluation now.evaluation outside

-- evaluation is in the scopes of the variables' values, and all else but the turns and the leaves is as it was before them
abbrev pub AreOpened : InstanceEvaluator → Opened → InstanceEvaluator → Type 0
AreOpened old outermost now = Stays old now
AreOpened old (inside_of outer variable mid) now = AreOpened old outer mid × IsInScope mid now variable.outside

-- unit, source and depth stay
pub record IsSamePlace (old now : InstanceEvaluator) : Type 0 where
  pub unit : now.unit ≡ old.unit
  pub source : now.evaluation.source.now ≡ old.evaluation.source.now
  pub depth : now.evaluation.depth ≡ old.evaluation.depth

pub same_place : (old : InstanceEvaluator) (opened : Opened) (now : InstanceEvaluator) → AreOpened old opened now → IsSamePlace old now
same_place old outermost now k = record { unit = k.unit; source = k.evaluation.source; depth = k.evaluation.depth }
same_place old (inside_of outer variable mid) now k =
    let p = same_place old outer mid k.0 in
    record { unit = k.1.unit ∙ p.unit; source = k.1.evaluation.source ∙ p.source; depth = k.1.evaluation.depth ∙ p.depth }

pub opened_still : (old : InstanceEvaluator) (opened : Opened) (mid now : InstanceEvaluator) → AreOpened old opened mid → Stays mid now → AreOpened old opened now
opened_still old outermost mid now k s = stays_then k s
opened_still old (inside_of outer variable first) mid now k s =
    (k.0, record { unit = s.unit ∙ k.1.unit; evaluation = scope_kept first.evaluation variable.outside k.1.evaluation s.evaluation })

-- what a variable gives in all, by what one of its steps gives
abbrev pub behind_step : Evaluator → Context → Place → BodyTerm → OpenVariable → Outcome MemberDesigns → Outcome MemberDesigns
behind_step evaluator here at body variable out =
    then_with (members_in_front (member_designs_of 0 variable.members) (counted_step at out)) (λ turns all.
    members_in_front all (steps_left evaluator here at body variable turns all.leaves))

-- what a loop gives in all, by what is given inside its variables
abbrev pub resumed : Judge → Position → Place → BodyTerm → Opened → Outcome MemberDesigns → Outcome MemberDesigns
resumed judge position at body outermost out = out
resumed judge position at body (inside_of outer variable mid) out =
    resumed judge position at body outer (behind_step (evaluator_at mid judge) (context_at mid position) at body variable out)

-- a fault inside is the whole loop's
pub resumed_faults : (judge : Judge) (position : Position) (at : Place) (body : BodyTerm) (opened : Opened) (kind : FaultKind) (place : Place)
    → resumed judge position at body opened (Faults kind place) ≡ Faults kind place
resumed_faults judge position at body outermost kind place = refl
resumed_faults judge position at body (inside_of outer variable mid) kind place = resumed_faults judge position at body outer kind place

-- a stop inside is the whole loop's
pub resumed_stops : (judge : Judge) (position : Position) (at : Place) (body : BodyTerm) (opened : Opened) (stop : Stop) (start out : Outcome MemberDesigns) (turns leaves : ℕ)
    → start ≡ resumed judge position at body opened out → IsStopOf out stop → HasOutcome member_designs_of (Err stop) turns leaves start
resumed_stops judge position at body opened (Fault fault) start out turns leaves told is =
    record { is = told ∙ ap (resumed judge position at body opened) is ∙ resumed_faults judge position at body opened fault.kind fault.place }
resumed_stops judge position at body opened NoMemory start out turns leaves told is = record { is = tt }

-- members before a step and those behind it
front_then : (before : MemberDesigns) (out : Outcome MemberDesigns) (go : ℕ → ℕ → Outcome MemberDesigns)
    → members_in_front before (then_with out (λ turns ms. members_in_front ms (go turns ms.leaves)))
    ≡ then_with (members_in_front before out) (λ turns all. members_in_front all (go turns all.leaves))
front_then before (Gives turns ms) go = front_twice before ms (go turns ms.leaves)
front_then before (Faults kind place) go = refl

-- a variable's next value
next_step : (evaluator : Evaluator) (here : Context) (at : Place) (body : BodyTerm) (variable : OpenVariable) (items : Items) (value : Val) (turns leaves : ℕ)
    → remaining_in variable.items.remaining ≡ and_val value (remaining_in items.remaining)
    → left_inside evaluator here at body (Variable variable) turns leaves
    ≡ behind_step evaluator here at body (record variable { items = items })
    (each_iteration evaluator at (map binder_of variable.rest.now) body (in_loop here variable.binder.now.name value) turns leaves)
next_step evaluator here at body variable items value turns leaves remaining =
    let step : Val → ℕ → ℕ → Outcome MemberDesigns = λ item. each_iteration evaluator at (map binder_of variable.rest.now) body (in_loop here variable.binder.now.name item) in
    ap (λ vals. members_in_front (member_designs_of leaves variable.members) (each_step at step vals turns leaves)) remaining
    ∙ front_then (member_designs_of leaves variable.members) (counted_step at (step value turns leaves)) (each_step at step (remaining_in items.remaining))

first_or_none : (root : Option DesignTree) → first_root root None ≡ root
first_or_none None = refl
first_or_none (Some design) = refl

-- a variable without a further value
no_more : (evaluator : Evaluator) (here : Context) (at : Place) (body : BodyTerm) (variable : OpenVariable) (turns leaves : ℕ)
    → remaining_in variable.items.remaining ≡ no_vals
    → left_inside evaluator here at body (Variable variable) turns leaves ≡ left_inside evaluator here at body (Members variable.members) turns leaves
no_more evaluator here at body variable turns leaves remaining =
    let step : Val → ℕ → ℕ → Outcome MemberDesigns = λ item. each_iteration evaluator at (map binder_of variable.rest.now) body (in_loop here variable.binder.now.name item) in
    let before = member_designs_of leaves variable.members in
    ap (λ vals. members_in_front before (each_step at step vals turns leaves)) remaining
    ∙ ap (λ (ds : List DesignTree). Gives turns (record { leaves = leaves; designs = ds; root = first_root before.root None })) (append-nil before.designs)
    ∙ ap (λ (root : Option DesignTree). Gives turns (record { leaves = leaves; designs = before.designs; root = root })) (first_or_none before.root)

-- the same variable has the same further steps
same_steps : (evaluator : Evaluator) (here : Context) (at : Place) (body : BodyTerm) (old new : OpenVariable) (turns leaves : ℕ) → IsSameVariable old new
    → steps_left evaluator here at body old turns leaves ≡ steps_left evaluator here at body new turns leaves
same_steps evaluator here at body old new turns leaves same =
    let steps : Binder → List Binder → Items → Outcome MemberDesigns = λ binder rest items.
    each_step at (λ item. each_iteration evaluator at (map binder_of rest) body (in_loop here binder.name item)) (remaining_in items.remaining) turns leaves in
    ap (λ (binder : Binder). steps binder old.rest.now old.items) (sym same.binder)
    ∙ ap (λ (rest : List Binder). steps new.binder.now rest old.items) (sym same.rest)
    ∙ ap (λ (items : Items). steps new.binder.now new.rest.now items) (sym same.items)

-- a step that has ended, and what is left behind it
pub ended_step : (judge : Judge) (position : Position) (at : Place) (body : BodyTerm) (mid now : InstanceEvaluator) (old new : OpenVariable) (out : Outcome MemberDesigns)
    → members_in_front (member_designs_of 0 old.members) (counted_step at out) ≡ Gives now.evaluation.turns (member_designs_of now.leaves new.members)
    → IsSameVariable old new → Stays mid now
    → behind_step (evaluator_at mid judge) (context_at mid position) at body old out
    ≡ left_inside (evaluator_at now judge) (context_at now position) at body (Variable new) now.evaluation.turns now.leaves
ended_step judge position at body mid now old new out ended same stays =
    ap (λ o. then_with o (λ turns all. members_in_front all (steps_left (evaluator_at mid judge) (context_at mid position) at body old turns all.leaves))) ended
    ∙ ap (members_in_front (member_designs_of now.leaves new.members))
    (same_steps (evaluator_at mid judge) (context_at mid position) at body old new now.evaluation.turns now.leaves same)
    ∙ meant_after (λ evaluator here. left_inside evaluator here at body (Variable new)) judge position stays

-- in the scope of a variable's value
pub value_meant : (judge : Judge) (mid now : InstanceEvaluator) (position : Position) (at : Place) (rest : List BinderTerm) (body : BodyTerm) (name : List ℕ) (value : Val)
    → Enters mid now mid.evaluation.scope → env_here now.evaluation ≡ InnerScope ((name, value) ∷ []) [] [] no_activation (env_here mid.evaluation)
    → now.evaluation.turns ≡ mid.evaluation.turns
    → each_iteration (evaluator_at mid judge) at rest body (in_loop (context_at mid position) name value) mid.evaluation.turns mid.leaves
    ≡ outcome_at now position judge (λ evaluator. each_iteration evaluator at rest body)
value_meant judge mid now position at rest body name value e inside turns =
    entered_meant (λ (x : Source) evaluator. each_iteration evaluator at rest body) judge mid now position mid.evaluation.scope
    (InnerScope ((name, value) ∷ []) [] [] no_activation (env_here mid.evaluation)) e inside turns

-- a loop under way: what it gives is what it gives by what is left inside its variables
pub record IsUnderWay (old : InstanceEvaluator) (position : Position) (at : Place) (binders : List BinderTerm) (body : BodyTerm) (outer : List OpenVariable)
    (inside : Inside) (now : InstanceEvaluator) : Type 0 where
  pub opened : Opened
  pub variables : variables_in opened ≡ outer
  pub stands : AreOpened old opened now
  pub paused : IsPaused now.evaluation.scope inside
  pub told : (judge : Judge) → IsRightJudge judge → outcome_at old position judge (λ evaluator. each_iteration evaluator at binders body)
      ≡ resumed judge position at body opened
      (left_inside (evaluator_at now judge) (context_at now position) at body inside now.evaluation.turns now.leaves)

-- a loop under way where a step of its innermost variable has ended
pub record IsPopped (old : InstanceEvaluator) (position : Position) (at : Place) (binders : List BinderTerm) (body : BodyTerm) (outer : List OpenVariable)
    (variable : OpenVariable) (members : MemberResults) (now : InstanceEvaluator) : Type 0 where
  pub opened : Opened
  pub mid : InstanceEvaluator
  pub variables : variables_in opened ≡ outer
  pub stands : AreOpened old opened mid
  pub scope : IsInScope mid now variable.outside
  pub told : (judge : Judge) → IsRightJudge judge → outcome_at old position judge (λ evaluator. each_iteration evaluator at binders body)
      ≡ resumed judge position at body opened
      (behind_step (evaluator_at mid judge) (context_at mid position) at body variable (Gives now.evaluation.turns (member_designs_of now.leaves members)))

stop_met : {A B : Type 0} (see : A → B) (stop : Stop) (turns : ℕ) (out : Outcome B) → MeetsOutcome see (Err stop) turns out → IsStopOf out stop
stop_met see (Fault fault) turns out h = h
stop_met see NoMemory turns out h = tt

stop_from : {B : Type 0} (stop : Stop) {start out : Outcome B} → start ≡ out → IsStopOf out stop → IsStopOf start stop
stop_from (Fault fault) same h = same ∙ h
stop_from NoMemory same h = tt

stop_behind : {A B : Type 0} (stop : Stop) (out : Outcome A) (go : ℕ → A → Outcome B) → IsStopOf out stop → IsStopOf (then_with out go) stop
stop_behind (Fault fault) out go h = ap (λ o. then_with o go) h
stop_behind NoMemory out go h = tt

module _ (old : InstanceEvaluator) (position : Position) (at : Place) (binders : List BinderTerm) (body : BodyTerm) where
  abbrev UnderWay : List OpenVariable → Inside → InstanceEvaluator → Type 0
  UnderWay outer inside now = IsUnderWay old position at binders body outer inside now

  abbrev start : Judge → Outcome MemberDesigns
  start judge = outcome_at old position judge (λ evaluator. each_iteration evaluator at binders body)

  -- the same of what is next in the loop
  pub next_is : {outer : List OpenVariable} {next inside : Inside} {now : InstanceEvaluator} → UnderWay outer next now → next ≡ inside → UnderWay outer inside now
  next_is {outer = outer} {now = now} u is = subst (λ (x : Inside). UnderWay outer x now) is u

  pub begun : {now : InstanceEvaluator} {inside : Inside} → GoesInside old now position at binders body (Ok inside) → UnderWay [] inside now
  begun f = record { opened = outermost; variables = refl; stands = f.kept; paused = f.paused; told = f.equation }

  -- the innermost variable has no further value
  no_value : {outer : List OpenVariable} {now : InstanceEvaluator} (variable : OpenVariable) → UnderWay outer (Variable variable) now
      → remaining_in variable.items.remaining ≡ no_vals → UnderWay outer (Members variable.members) now
  no_value {now = now} variable u remaining = record {
    opened = u.opened;
    variables = u.variables;
    stands = u.stands;
    paused = tt;
    told = λ judge right. u.told judge right
        ∙ ap (resumed judge position at body u.opened)
        (no_more (evaluator_at now judge) (context_at now position) at body variable now.evaluation.turns now.leaves remaining);
  }

  -- the innermost variable has a further value, whose scope was entered
  module _ {outer : List OpenVariable} (now new : InstanceEvaluator) (variable : OpenVariable) {after : List OpenVariable} {result : Result Inside Stop}
      (u : UnderWay outer (Variable variable) now) (b : BeginsStep now new position at body variable outer after result) where
    abbrev opened_more : Opened
    opened_more = inside_of u.opened (record variable { items = b.items }) now

    entered_told : (judge : Judge) → IsRightJudge judge → start judge
        ≡ resumed judge position at body opened_more (outcome_at b.entered position judge (λ evaluator. each_iteration evaluator at (map binder_of variable.rest.now) body))
    entered_told judge right = u.told judge right
        ∙ ap (resumed judge position at body u.opened)
        (next_step (evaluator_at now judge) (context_at now position) at body variable b.items b.value now.evaluation.turns now.leaves b.remaining)
        ∙ ap (resumed judge position at body opened_more)
        (value_meant judge now b.entered position at (map binder_of variable.rest.now) body variable.binder.now.name b.value b.enters b.scope b.turns)

  value_begun : {outer after : List OpenVariable} (now new : InstanceEvaluator) (variable : OpenVariable) {inside : Inside} → UnderWay outer (Variable variable) now
      → BeginsStep now new position at body variable outer after (Ok inside) → UnderWay after inside new
  value_begun now new variable u b = record {
    opened = opened_more now new variable u b;
    variables = ap (λ (vs : List OpenVariable). vs ++ (record variable { items = b.items } ∷ [])) u.variables ∙ sym b.waits;
    stands = (
      u.stands,
      record {
        unit = b.goes.kept.unit ∙ b.enters.unit;
        evaluation = scope_kept now.evaluation variable.outside (subst (λ n. OneScopeMore now.evaluation b.entered.evaluation n) (sym u.paused) b.enters.evaluation) b.goes.kept.evaluation;
      },
    );
    paused = b.goes.paused;
    told = λ judge right. entered_told now new variable u b judge right ∙ ap (resumed judge position at body (opened_more now new variable u b)) (b.goes.equation judge right);
  }

  -- the next step of the innermost variable
  pub taken : {outer after : List OpenVariable} (now new : InstanceEvaluator) (variable : OpenVariable) (inside : Inside) → UnderWay outer (Variable variable) now
      → TakesStep now new position at body variable outer after (Ok inside) → UnderWay after inside new
  taken {outer = outer} {after = after} now new variable inside u (no_step remaining is same here) =
      let given : inside ≡ Members variable.members = cc in
      subst (λ (x : InstanceEvaluator). UnderWay after inside x) (sym here)
      (subst (λ (vs : List OpenVariable). UnderWay vs inside now) (sym same)
      (subst (λ (x : Inside). UnderWay outer x now) (sym given) (no_value variable u remaining)))
  taken now new variable inside u (a_step b) = value_begun now new variable u b
  taken now new variable inside u (no_memory is) = absurd (cc)

  pub taken_stops : {outer after : List OpenVariable} (now new : InstanceEvaluator) (variable : OpenVariable) (stop : Stop) (turns leaves : ℕ) → UnderWay outer (Variable variable) now
      → TakesStep now new position at body variable outer after (Err stop)
      → (judge : Judge) → IsRightJudge judge → HasOutcome member_designs_of (Err stop) turns leaves (start judge)
  taken_stops now new variable stop turns leaves u (no_step remaining is same here) judge right = absurd (cc)
  taken_stops now new variable stop turns leaves u (a_step b) judge right =
      resumed_stops judge position at body (opened_more now new variable u b) stop (start judge) _ turns leaves (entered_told now new variable u b judge right) (b.goes.equation judge right)
  taken_stops now new variable stop turns leaves u (no_memory is) judge right =
      let ran_out : stop ≡ NoMemory = cc in
      without_memory ran_out

  -- the innermost variable, taken from the others
  popped_from : (front : List OpenVariable) (variable : OpenVariable) (members : MemberResults) (now : InstanceEvaluator) (opened : Opened)
      → variables_in opened ≡ front ++ (variable ∷ []) → AreOpened old opened now
      → ((judge : Judge) → IsRightJudge judge → start judge
      ≡ resumed judge position at body opened (Gives now.evaluation.turns (member_designs_of now.leaves members)))
      → IsPopped old position at binders body front variable members now
  popped_from front variable members now outermost same stands told = absurd (omega (arith, ap length same, length_push front variable))
  popped_from front variable members now (inside_of outer v mid) same stands told =
      let p = same_from_push (variables_in outer) front v variable same in
      subst (λ (w : OpenVariable). IsPopped old position at binders body front w members now) p.1
      (record { opened = outer; mid = mid; variables = p.0; stands = stands.0; scope = stands.1; told = told })

  pub popped : {outer front : List OpenVariable} {variable : OpenVariable} {members : MemberResults} {now : InstanceEvaluator} → UnderWay outer (Members members) now
      → outer ≡ front ++ (variable ∷ []) → IsPopped old position at binders body front variable members now
  popped {front = front} {variable = variable} {members = members} {now = now} u same =
      popped_from front variable members now u.opened (u.variables ∙ same) u.stands u.told

  -- a step has ended
  module _ {front : List OpenVariable} {variable : OpenVariable} {members : MemberResults} (now : InstanceEvaluator)
      (p : IsPopped old position at binders body front variable members now) where
    pub step_ended : (new : InstanceEvaluator) → new.unit ≡ now.unit → new.leaves ≡ now.leaves → {after : OpenVariable}
        → EndsStep now.evaluation new.evaluation at variable members (Ok after) → UnderWay front (Variable after) new
    step_ended new unit leaves {after = after} e =
        let stays : Stays p.mid new = stays_kept p.mid new (unit ∙ p.scope.unit) (e.back p.mid.evaluation p.scope.evaluation) in
        record {
          opened = p.opened;
          variables = p.variables;
          stands = opened_still old p.opened p.mid new p.stands stays;
          paused = e.same.outside ∙ p.scope.evaluation.from ∙ sym stays.evaluation.stands;
          told = λ judge right. p.told judge right
              ∙ ap (resumed judge position at body p.opened)
              (ended_step judge position at body p.mid new variable after (Gives now.evaluation.turns (member_designs_of now.leaves members))
              (e.value 0 now.leaves ∙ ap (λ n. Gives new.evaluation.turns (member_designs_of n after.members)) (sym leaves)) e.same stays);
        }

    pub step_stops : {new : Evaluation} (stop : Stop) (turns leaves : ℕ) → EndsStep now.evaluation new at variable members (Err stop)
        → (judge : Judge) → IsRightJudge judge → HasOutcome member_designs_of (Err stop) turns leaves (start judge)
    step_stops {new = new} stop turns leaves e judge right =
        resumed_stops judge position at body p.opened stop (start judge) _ turns leaves (p.told judge right)
        (stop_behind stop _ _ (stop_met (λ (after : OpenVariable). member_designs_of now.leaves after.members) stop new.turns _ (e.value 0 now.leaves)))

    -- the scope that is left is inside another one, and the newest is still the one in which is evaluated
    pub inside_another : variable.outside < now.evaluation.scope
    inside_another = let e = p.scope.evaluation in omega (arith, e.from, e.number, p.mid.evaluation.there)

    pub newest_still : {new : Evaluation} {result : Result OpenVariable Stop} → EndsStep now.evaluation new at variable members result → new.scope + 1 ≡ scopes_there new
    newest_still e = let k = e.back p.mid.evaluation p.scope.evaluation in omega (arith, k.stands, k.count, p.mid.newest)

  -- no variable is left
  closed_from : (members : MemberResults) (now : InstanceEvaluator) (opened : Opened) → length (variables_in opened) ≡ 0 → AreOpened old opened now
      → ((judge : Judge) → IsRightJudge judge → start judge
      ≡ resumed judge position at body opened (Gives now.evaluation.turns (member_designs_of now.leaves members)))
      → EvaluatesAt member_designs_of old now position (Ok members) (λ evaluator. each_iteration evaluator at binders body)
  closed_from members now outermost none stands told = record { equation = λ judge right. record { is = told judge right }; kept = stands }
  closed_from members now (inside_of outer v mid) none stands told = absurd (omega (arith, none, length_push (variables_in outer) v))

  pub closed : {outer : List OpenVariable} {members : MemberResults} {now : InstanceEvaluator} → UnderWay outer (Members members) now → length outer ≡ 0
      → EvaluatesAt member_designs_of old now position (Ok members) (λ evaluator. each_iteration evaluator at binders body)
  closed {members = members} {now = now} u none = closed_from members now u.opened (ap length u.variables ∙ none) u.stands u.told

-- where what stands inside began
abbrev pub gone_from : {old new : InstanceEvaluator} {position : Position} {at : Place} {binders : List BinderTerm} {body : BodyTerm} {result : Result Inside Stop}
    → GoesInside old new position at binders body result → InstanceEvaluator
gone_from {old = old} f = old

-- the values of a variable, and what is done with them
values_then : {B : Type 0} (out : Outcome Val) (at : Place) (go : ℕ → Vals → Outcome B)
    → then_with out (λ turns value. or_fault (iterated_values value) TypeMismatch at (go turns))
    ≡ then_with (then_with out (λ turns value. or_fault (iterated_values value) TypeMismatch at (Gives turns))) go
values_then (Gives turns value) at go = by_values (iterated_values value)
  where
    by_values : (values : Option Vals) → or_fault values TypeMismatch at (go turns) ≡ then_with (or_fault values TypeMismatch at (Gives turns)) go
    by_values (Some values) = refl
    by_values None = refl
values_then (Faults kind place) at go = refl

-- what stands inside variables where no other is left
module _ {old new : InstanceEvaluator} {position : Position} {at : Place} {body : BodyTerm} {binders : List BinderTerm} (none : binders ≡ []) where
  pub no_variable : {members : MemberResults} → EvaluatesAt member_designs_of old new position (Ok members) (λ evaluator. each_iteration evaluator at [] body)
      → GoesInside old new position at binders body (Ok (Members members))
  no_variable f = record {
    equation = λ judge right. ap (λ (bs : List BinderTerm). outcome_at old position judge (λ evaluator. each_iteration evaluator at bs body)) none ∙ (f.equation judge right).is;
    kept = f.kept;
    paused = tt;
    next = tt;
  }

  pub no_variable_stops : {stop : Stop} → EvaluatesAt member_designs_of old new position (Err stop) (λ evaluator. each_iteration evaluator at [] body)
      → GoesInside old new position at binders body (Err stop)
  no_variable_stops {stop = stop} f = record {
    equation = λ judge right. stop_from stop (ap (λ (bs : List BinderTerm). outcome_at old position judge (λ evaluator. each_iteration evaluator at bs body)) none)
        (stop_met (member_designs_of new.leaves) stop new.evaluation.turns _ (f.equation judge right).is);
    kept = tt;
    paused = tt;
    next = tt;
  }

-- the next variable
module _ (old new : InstanceEvaluator) (at : Place) {binder : Binder} {rest : List Binder} {binders : List Binder} (position : Position) (body : BodyTerm)
    (same : binders ≡ binder ∷ rest) (unit : new.unit ≡ old.unit) (leaves : new.leaves ≡ old.leaves) where
  variable_then : (judge : Judge) → outcome_at old position judge (λ evaluator. each_iteration evaluator at (map binder_of binders) body)
      ≡ then_with (then_with (value_at_next_depth (expression_context_here old.evaluation) true (term_of binder.values) old.evaluation.turns) (λ turns value.
      or_fault (iterated_values value) TypeMismatch at (Gives turns))) (λ turns items.
      each_step at (λ item. each_iteration (evaluator_at old judge) at (map binder_of rest) body (in_loop (context_at old position) binder.name item)) items turns old.leaves)
  variable_then judge =
      ap (λ (bs : List Binder). outcome_at old position judge (λ evaluator. each_iteration evaluator at (map binder_of bs) body)) same
      ∙ values_then (value_at_next_depth (expression_context_here old.evaluation) true (term_of binder.values) old.evaluation.turns) at (λ turns items.
      each_step at (λ item. each_iteration (evaluator_at old judge) at (map binder_of rest) body (in_loop (context_at old position) binder.name item)) items turns old.leaves)

  pub next_variable : {variable : OpenVariable} → OpensVariable old.evaluation new.evaluation at binder rest (Ok variable)
      → GoesInside old new position at (map binder_of binders) body (Ok (Variable variable))
  next_variable {variable = variable} o =
      let b = o.begun in
      let stays : Stays old new = stays_kept old new unit o.values.kept in
      record {
        equation = λ judge right.
            let evaluator = evaluator_at old judge in
            let here = context_at old position in
            let steps : Binder → List Binder → ℕ → Outcome MemberDesigns = λ binder rest leaves. each_step at (λ item.
            each_iteration evaluator at (map binder_of rest) body (in_loop here binder.name item)) (remaining_in variable.items.remaining) new.evaluation.turns leaves in
            variable_then judge
            ∙ ap (λ o. then_with o (λ turns items. each_step at (λ item. each_iteration evaluator at (map binder_of rest) body (in_loop here binder.name item)) items turns old.leaves)) o.values.value
            ∙ ap (λ (binder : Binder). steps binder rest old.leaves) (sym b.binder)
            ∙ ap (λ (rest : List Binder). steps variable.binder.now rest old.leaves) (sym b.rest)
            ∙ ap (λ (n : ℕ). steps variable.binder.now variable.rest.now n) (sym leaves)
            ∙ begun_front variable.members new.leaves (steps variable.binder.now variable.rest.now new.leaves) (b.members new.leaves)
            ∙ meant_after (λ evaluator here. left_inside evaluator here at body (Variable variable)) judge position stays;
        kept = stays;
        paused = b.outside ∙ sym o.values.kept.stands;
        next = (omega (arith, ap length b.rest, ap length same, length-map rest binder_of, length-map binders binder_of), b.few);
      }

  pub next_variable_stops : {stop : Stop} → OpensVariable old.evaluation new.evaluation at binder rest (Err stop)
      → GoesInside old new position at (map binder_of binders) body (Err stop)
  next_variable_stops {stop = stop} o = record {
    equation = λ judge right. stop_from stop (variable_then judge)
        (stop_behind stop _ _ (stop_met (λ (variable : OpenVariable). remaining_in variable.items.remaining) stop new.evaluation.turns _ o.values.value));
    kept = tt;
    paused = tt;
    next = tt;
  }
