use Rattle.std.proofs.Common.{sym, ◌∙◌}
use Rattle.scad_lexer.proofs.Scanned.{symbol_pair, symbol_single}
use Rattle.scad_lexer.proofs.scan.symbol.Goals as goal

pub returns-in-Some-clause-found : goal.returns-in-Some-clause-found
returns-in-Some-clause-found c = symbol_pair c.args.byte c.args.text.now _ (sym c.pair.ensures.found ∙ c.in-Some.is)

pub returns-in-Some-one_byte-clause-found : goal.returns-in-Some-one_byte-clause-found
returns-in-Some-one_byte-clause-found c = sym (symbol_single c.args.byte c.args.text.now _ (sym c.pair.ensures.found ∙ c.in-None.is) (sym c.one_byte.ensures ∙ c.in-Some-one_byte.is))

pub returns-in-None-one_byte-clause-found : goal.returns-in-None-one_byte-clause-found
returns-in-None-one_byte-clause-found c = sym (symbol_single c.args.byte c.args.text.now _ (sym c.pair.ensures.found ∙ c.in-None.is) (sym c.one_byte.ensures ∙ c.in-None-one_byte.is))
