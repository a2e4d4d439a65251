use Rattle.std.proofs.Common.{◌<◌, ◌∙◌, length, sym, ap, arith}
use Rattle.std.proofs.lemmas.List.{length-map}
use Rattle.scad_scope.specs.Names.{env_of}
use Rattle.scad_scope.specs.Table.{rows_of}
use Rattle.scad_definitions.specs.Arguments.{parameter_names}
use Rattle.scad_definitions.specs.Blocks.{SourceFunction}
use Rattle.scad_definitions.specs.TextView.{function_of}
use Rattle.scad_func.specs.View.{table_in}
use Rattle.scad_func.proofs.Environments.{functions_of, found_within, found_seen, none_seen}
use Rattle.scad_func.proofs.evaluation.Evaluation.function.Goals as goal

pub function-requires-in-Ok : goal.function-requires-in-Ok
function-requires-in-Ok c =
    let e = c.args.self.now in
    found_within (table_in e.source.now) (functions_of (table_in e.source.now)) (rows_of e.scopes.now) c.args.self.now.scope c.args.name.now
    e.numbered (env_of (rows_of e.scopes.now) c.in-Ok.found.scope) c.in-Ok.found.definition c.in-Ok.ensures.same

pub function_names-names-requires : goal.function_names-names-requires
function_names-names-requires c =
    let e = c.args.self.now in
    found_within (table_in e.source.now) (functions_of (table_in e.source.now)) (rows_of e.scopes.now) c.args.self.now.scope c.args.name.now
    e.numbered (env_of (rows_of e.scopes.now) c.in-Ok.found.scope) c.in-Ok.found.definition c.in-Ok.ensures.same

pub returns-in-Ok-clause-found : goal.returns-in-Ok-clause-found
returns-in-Ok-clause-found c =
    let e = c.args.self.now in
    found_seen (table_in e.source.now) (functions_of (table_in e.source.now)) (rows_of e.scopes.now) c.args.self.now.scope c.args.name.now
    e.numbered (env_of (rows_of e.scopes.now) c.in-Ok.found.scope) c.in-Ok.found.definition
    (function_of c.function-in-Ok.result) c.in-Ok.ensures.same c.function-in-Ok.ensures.same

pub returns-in-Ok-clause-among : goal.returns-in-Ok-clause-among
returns-in-Ok-clause-among c =
    let e = c.args.self.now in
    let fs = e.source.now.blocks.functions.items in
    let d = c.in-Ok.found.definition in
    let below = found_within (table_in e.source.now) (functions_of (table_in e.source.now)) (rows_of e.scopes.now) c.args.self.now.scope c.args.name.now
    e.numbered (env_of (rows_of e.scopes.now) c.in-Ok.found.scope) d c.in-Ok.ensures.same in
    let there : d < length fs = omega (arith, below, length-map fs function_of) in
    (d, there, sym c.function-in-Ok.ensures.item)

pub returns-in-Ok-clause-named : goal.returns-in-Ok-clause-named
returns-in-Ok-clause-named c = c.function_names-names.ensures (function_of c.function-in-Ok.result)
    ∙ ap (λ (f : SourceFunction). parameter_names f.params) (sym c.function-in-Ok.ensures.same)

pub returns-in-Err-clause-found : goal.returns-in-Err-clause-found
returns-in-Err-clause-found c =
    let e = c.args.self.now in
    none_seen (table_in e.source.now) (functions_of (table_in e.source.now)) (rows_of e.scopes.now) c.args.self.now.scope c.args.name.now
    e.numbered c.in-Err.ensures.none
