use Rattle.std.proofs.Common.{inl, refl}
use Rattle.scad_parser.proofs.source.with_parsed.Goals as goal

pub returns : goal.returns
returns g c = inl (c.in_ok-program.program, c.in_ok-program.ensures.found, (_, c.make.ensures, refl))
