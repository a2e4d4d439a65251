use Rattle.scad_lexer.proofs.Scanned.{lone_found}
use Rattle.scad_lexer.proofs.scan.lone_symbol.Goals as goal

pub returns-in-len1-up : goal.returns-in-len1-up
returns-in-len1-up c = lone_found c.args.text.now c.lone.result c.in-len1-up.len_at_least c.lone.ensures.found c.lone.ensures.where_last
