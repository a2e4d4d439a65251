use Rattle.std.proofs.Common.{◌≡◌, ◌<◌, rules, List, length, map, ap, arith}
use Rattle.scad_definitions.specs.Blocks.{SourceBlock}
use Rattle.scad_definitions.specs.TextView.{block_of_entry, function_of, module_of, block_of_module}
use Rattle.scad_definitions.proofs.Held.{entry_set, mapped_length}
use Rattle.scad_definitions.proofs.walk.Walk.end.Goals as goal

pub returns : goal.returns
returns c =
    let es = c.args.self.now.entries.items in
    let here : c.args.number < length es = omega (arith, c.requires.begun, mapped_length block_of_entry es) in
    let block_end : c.len-block_end.result ≡ length es = search rules in
    ap (λ (l : List SourceBlock). record {
      entries = l;
      functions = map function_of c.args.self.now.functions.items;
      modules = map module_of c.args.self.now.modules.items;
      bodies = map block_of_module c.args.self.now.modules.items;
    }) (entry_set es c.args.number c.index_mut-entry.result.now c.args.local c.len-block_end.result here
    c.index_mut-entry.ensures.value block_end)
