use Rattle.std.proofs.Common.{◌∙◌}
use Rattle.scad_lexer.proofs.Scanned.{dollar_word, text_word, point_word, slash_word, symbol_found}
use Rattle.scad_lexer.proofs.scan.after_mark.Goals as goal

pub returns-then-byte-eq36-clause-found : goal.returns-then-byte-eq36-clause-found
returns-then-byte-eq36-clause-found c = c.special.ensures.found ∙ dollar_word _ _ c.if-byte-eq36.true

pub returns-then-byte-eq34-clause-found : goal.returns-then-byte-eq34-clause-found
returns-then-byte-eq34-clause-found c = text_word _ _ _ c.if-byte-eq34.true c.text.ensures.found

pub returns-then-byte-eq46-clause-found : goal.returns-then-byte-eq46-clause-found
returns-then-byte-eq46-clause-found c = point_word _ _ _ c.if-byte-eq46.true c.point.ensures.found

pub returns-then-byte-eq47-clause-found : goal.returns-then-byte-eq47-clause-found
returns-then-byte-eq47-clause-found c = slash_word _ _ _ c.if-byte-eq47.true c.slash.ensures.found

pub returns-else-byte-eq47-clause-found : goal.returns-else-byte-eq47-clause-found
returns-else-byte-eq47-clause-found c = c.symbol.ensures.found ∙ symbol_found c.args.byte c.args.rest.now c.requires.blank c.requires.letter c.requires.digit c.if-byte-eq36.false c.if-byte-eq34.false c.if-byte-eq46.false c.if-byte-eq47.false
