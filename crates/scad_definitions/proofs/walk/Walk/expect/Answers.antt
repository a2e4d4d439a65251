use Rattle.std.proofs.Common.{◌<◌, List, length, map, refl, ap, arith, rules, ◌≡◌}
use Rattle.scad_definitions.specs.Blocks.{SourceBlock}
use Rattle.scad_definitions.specs.TextView.{function_of, module_of, block_of_module}
use Rattle.scad_definitions.proofs.Held.{entry_alike}
use Rattle.scad_definitions.proofs.walk.Walk.expect.Goals as goal

pub returns : goal.returns
returns c =
    let es = c.args.self.now.entries.items in
    let here : c.args.block < length es = search rules in
    ap (λ (l : List SourceBlock). record {
      entries = l;
      functions = map function_of c.args.self.now.functions.items;
      modules = map module_of c.args.self.now.modules.items;
      bodies = map block_of_module c.args.self.now.modules.items;
    }) (entry_alike es c.args.block c.index_mut.result.now _ here c.index_mut.ensures.value refl)
