use Rattle.std.proofs.Common.{ap, ◌∙◌, arith}
use Rattle.std.proofs.lemmas.Int.{ints}
use Rattle.scad_value.specs.Values.{NumberVal}
use Rattle.scad_func.specs.Evaluations.{env_here}
use Rattle.scad_instance_rules.proofs.KeptChildren.{children_counted, number_form}
use Rattle.scad_instance_rules.proofs.children.count_children.Goals as goal

pub returns : goal.returns
returns c =
    let e = c.args.evaluation.now in
    let new = c.enter_body.new.self in
    let entered = c.in_ok-before.ensures.entered in
    let count = children_counted e.source.now new.source.now c.args.block (env_here e)
    (env_here new) c.children-count.result.now c.requires.whole entered.source c.in_ok-before.ensures.inside c.children-count.ensures.found in
    record {
      count = number_form _ ∙ ap NumberVal (omega (arith, ints, count, c.if-count-gt-CHILDREN.false));
      kept = c.leave.ensures.back e entered;
      turns = c.leave.ensures.turns ∙ c.in_ok-before.ensures.turns;
    }

pub leave-requires : goal.leave-requires
leave-requires c =
    let e = c.in_ok-before.ensures.entered in
    omega (arith, e.from, e.number, c.args.evaluation.now.there)
