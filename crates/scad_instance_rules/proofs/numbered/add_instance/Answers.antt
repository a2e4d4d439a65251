use Rattle.std.proofs.Common.{sym}
use Rattle.scad_ast.specs.StatementView.{instance_of}
use Rattle.scad_func.specs.View.{table_in}
use Rattle.scad_instance_rules.proofs.Numbering.{instance_is_there, instance_blocks}
use Rattle.scad_instance_rules.proofs.numbered.add_instance.Goals as goal

pub block_end-requires : goal.block_end-requires
block_end-requires c = instance_is_there (table_in c.args.source.now) c.requires.whole (instance_of c.args.instance.now) c.args.block c.requires.stand

pub block_end-requires-2 : goal.block_end-requires-2
block_end-requires-2 c = record {
  whole = c.requires.whole;
  begins = record { stand = c.requires.stand; other = c.block_end.ensures };
}

pub returns : goal.returns
returns c =
    let table = table_in c.args.source.now in
    let blocks = instance_blocks table c.requires.whole (instance_of c.args.instance.now) c.args.block c.block_end.result c.requires.stand (sym c.block_end.ensures) in
    record {
      block_end = c.block_end-2.ensures;
      adds = record {
        instances = c.in_ok-add_if_on.ensures.instances;
        blocks = λ before. c.in_ok-add_if_on.ensures.blocks table blocks before;
      };
    }
