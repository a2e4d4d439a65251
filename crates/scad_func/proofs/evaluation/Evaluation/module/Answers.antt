use Rattle.std.proofs.Common.{◌<◌, ◌∙◌, length, sym, ap, arith}
use Rattle.std.proofs.lemmas.List.{length-map}
use Rattle.scad_scope.specs.Names.{env_of}
use Rattle.scad_scope.specs.Table.{rows_of}
use Rattle.scad_definitions.specs.Arguments.{parameter_names}
use Rattle.scad_definitions.specs.Blocks.{SourceModule}
use Rattle.scad_definitions.specs.TextView.{module_of}
use Rattle.scad_func.specs.View.{table_in}
use Rattle.scad_func.proofs.Bodies.{module_block}
use Rattle.scad_func.proofs.Environments.{modules_of, found_within, found_seen, none_seen}
use Rattle.scad_func.proofs.evaluation.Evaluation.module.Goals as goal

pub module-requires-in-Ok : goal.module-requires-in-Ok
module-requires-in-Ok c =
    let e = c.args.self.now in
    found_within (table_in e.source.now) (modules_of (table_in e.source.now)) (rows_of e.scopes.now) c.args.self.now.scope c.args.name.now
    e.modules (env_of (rows_of e.scopes.now) c.in-Ok.found.scope) c.in-Ok.found.definition c.in-Ok.ensures.same

pub module_names-names-requires : goal.module_names-names-requires
module_names-names-requires c =
    let e = c.args.self.now in
    found_within (table_in e.source.now) (modules_of (table_in e.source.now)) (rows_of e.scopes.now) c.args.self.now.scope c.args.name.now
    e.modules (env_of (rows_of e.scopes.now) c.in-Ok.found.scope) c.in-Ok.found.definition c.in-Ok.ensures.same

pub returns-in-Ok-clause-found : goal.returns-in-Ok-clause-found
returns-in-Ok-clause-found c =
    let e = c.args.self.now in
    found_seen (table_in e.source.now) (modules_of (table_in e.source.now)) (rows_of e.scopes.now) c.args.self.now.scope c.args.name.now
    e.modules (env_of (rows_of e.scopes.now) c.in-Ok.found.scope) c.in-Ok.found.definition
    (module_of c.module-in-Ok.result) c.in-Ok.ensures.same c.module-in-Ok.ensures.same

pub returns-in-Ok-clause-body : goal.returns-in-Ok-clause-body
returns-in-Ok-clause-body c =
    let e = c.args.self.now in
    let ms = e.source.now.blocks.modules.items in
    let d = c.in-Ok.found.definition in
    let below = found_within (table_in e.source.now) (modules_of (table_in e.source.now)) (rows_of e.scopes.now) c.args.self.now.scope c.args.name.now
    e.modules (env_of (rows_of e.scopes.now) c.in-Ok.found.scope) d c.in-Ok.ensures.same in
    let there : d < length ms = omega (arith, below, length-map ms module_of) in
    λ whole. module_block e.source.now.blocks c.module-in-Ok.result whole (d, there, sym c.module-in-Ok.ensures.item)

pub returns-in-Ok-clause-named : goal.returns-in-Ok-clause-named
returns-in-Ok-clause-named c = c.module_names-names.ensures (module_of c.module-in-Ok.result)
    ∙ ap (λ (f : SourceModule). parameter_names f.params) (sym c.module-in-Ok.ensures.same)

pub returns-in-Err-clause-found : goal.returns-in-Err-clause-found
returns-in-Err-clause-found c =
    let e = c.args.self.now in
    none_seen (table_in e.source.now) (modules_of (table_in e.source.now)) (rows_of e.scopes.now) c.args.self.now.scope c.args.name.now
    e.modules c.in-Err.ensures.none
