use Rattle.scad_scope.proofs.scopes.Scopes.special.Goals as goal

pub returns-in-Some : goal.returns-in-Some
returns-in-Some c = record {
  same = c.in-Some.ensures;
  bounded = c.in-Some.found.now.bounded;
}
