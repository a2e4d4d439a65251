use Rattle.std.proofs.Common.{ap, map, ◌∙◌}
use Rattle.scad_definitions.specs.Names.{newest_first}
use Rattle.scad_scope.specs.Names.{oldest_pairs}
use Rattle.scad_scope.specs.View.{variable_seen}
use Rattle.scad_scope.proofs.lemmas.Chain.{oldest_part, oldest_seen}
use Rattle.scad_scope.proofs.scopes.Scopes.unwind.Goals as goal

pub returns-clause-bindings : goal.returns-clause-bindings
returns-clause-bindings c = ap (map variable_seen) c.truncate.ensures ∙ oldest_seen c.args.to (newest_first c.args.self.now.bindings)

pub returns-clause-back : goal.returns-clause-back
returns-clause-back c = λ newer older e len.
    ap (map variable_seen) c.truncate.ensures ∙ oldest_seen c.args.to (newest_first c.args.self.now.bindings)
    ∙ ap (oldest_pairs c.args.to) e ∙ oldest_part c.args.to newer older len
