use Rattle.std.proofs.Common.{◌≡◌, true, sym, subst}
use Rattle.std.specs.Fn.{FnOnceReturnsAt}
use Rattle.scad_lexer.specs.Tokens.{Lexes, GivesTokens, ends_once}
use Rattle.scad_parser.proofs.Refusing.{made}
use Rattle.scad_parser.proofs.source.with_program.Goals as goal

pub returns : goal.returns
returns g c =
    let same = sym c.deref.ensures.value in
    let once = subst (λ ts. ends_once ts ≡ true) same c.in_ok-tokens.ensures.ends in
    made (FnOnceReturnsAt g.F.FnOnce c.args.make) c.args.source.now c.deref.result.now c.with_parsed.result
    (subst (λ ts. Lexes c.args.source.now (GivesTokens ts)) same c.in_ok-tokens.ensures.found)
    (c.an_only_end_is_last.ensures c.deref.result.now once) c.with_parsed.ensures
