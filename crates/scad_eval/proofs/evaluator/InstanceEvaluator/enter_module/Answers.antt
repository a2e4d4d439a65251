use Rattle.std.proofs.Common.{refl, ◌∙◌}
use Rattle.scad_value.specs.BoundedView.{bounded_val}
use Rattle.scad_scope.specs.Table.{rows_of}
use Rattle.scad_definitions.specs.TextView.{module_of}
use Rattle.scad_func.specs.View.{env_seen, table_in, values_seen}
use Rattle.scad_func.specs.Evaluations.{env_here}
use Rattle.scad_eval.specs.Within.{body_seen}
use Rattle.scad_eval.proofs.ModuleScopes.{module_inside, call_scope_same, entered_behind}
use Rattle.scad_eval.proofs.evaluator.InstanceEvaluator.enter_module.Goals as goal

pub returns : goal.returns
returns c =
    let e = c.args.self.now.evaluation in
    let kept = c.in_ok-count.ensures.kept in
    let called = c.requires.called in
    record {
      entered = record {
        unit = refl;
        leaves = refl;
        evaluation = entered_behind kept (c.bind.ensures.binds.entered _ c.in_ok-caller.caller
            (c.bind_parameters.ensures.binds.entered _ c.in_ok-caller.caller c.in_ok-caller.ensures.entered));
      };
      inside = module_inside (table_in e.source.now) c.args.defined.block c.args.body.block (module_of c.args.defined) (body_seen c.args.body)
          (values_seen c.args.values) (env_here e) (env_seen e.source.now (rows_of e.scopes.now) c.args.defining_scope)
          (env_here c.enter_activation.new.self) (env_here c.bind_parameters.new.self) (env_here c.bind.new.self)
          (bounded_val c.in_ok-count.count) called.whole called.its_block called.block
          (c.in_ok-caller.ensures.inside ∙ call_scope_same e c.count_children.new.evaluation c.args.defined.block c.args.body.block c.args.defining_scope kept)
          c.in_ok-bind_parameters.ensures.binds.bound c.in_ok-bind.ensures.binds.bound c.in_ok-count.ensures.count;
      turns = c.bind.ensures.binds.turns ∙ c.bind_parameters.ensures.binds.turns ∙ c.enter_activation.ensures.turns ∙ c.count_children.ensures.turns;
    }
