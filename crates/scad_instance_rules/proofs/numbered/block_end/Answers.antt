use Rattle.std.proofs.Common.{sym, ap, ◌∙◌}
use Rattle.scad_func.specs.View.{table_in}
use Rattle.scad_instance_rules.specs.Positions.{term_of_numbered, has_else}
use Rattle.scad_instance_rules.proofs.Numbering.{core_there, second_is_there, second_ends}
use Rattle.scad_instance_rules.proofs.numbered.block_end.Goals as goal

pub block_end-requires : goal.block_end-requires
block_end-requires c =
    let n = c.args.numbered in
    second_is_there (table_in c.args.source.now) c.requires.whole (term_of_numbered n) n.block n.other c.requires.begins.stand
    (sym c.requires.begins.other) (ap has_else (core_there n.instance.now) ∙ sym c.has_else.ensures ∙ c.if-has_else.true)

pub returns-then-has_else : goal.returns-then-has_else
returns-then-has_else c =
    let n = c.args.numbered in
    c.block_end.ensures ∙ second_ends (table_in c.args.source.now) c.requires.whole (term_of_numbered n) n.block n.other c.requires.begins.stand
    (sym c.requires.begins.other) (ap has_else (core_there n.instance.now) ∙ sym c.has_else.ensures ∙ c.if-has_else.true)
