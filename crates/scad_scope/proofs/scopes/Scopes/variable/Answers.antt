use Rattle.text_place.specs.declared.fault.Fault.{Fault}
use Rattle.std.proofs.Common.{◌<◌, ◌∙◌, length, ap, arith}
use Rattle.scad_scope.proofs.Envs.{rows_length, variable_found, variable_none, variable_outer}
use Rattle.scad_scope.proofs.scopes.Scopes.variable.Goals as goal

pub returns-in-Some : goal.returns-in-Some
returns-in-Some c =
    let ss = c.args.self.now.scopes.items in
    let h : c.outward.at < length ss = omega (arith, c.outward.invariant.within, rows_length ss) in
    let f = c.in-Some.ensures in
    record {
      same = c.outward.invariant.same ∙ variable_found ss c.outward.at c.index-here.result.now c.args.name.now
          h c.index-here.ensures _ f;
      bounded = c.in-Some.found.now.bounded;
    }

pub returns-then-here-at : goal.returns-then-here-at
returns-then-here-at c =
    let ss = c.args.self.now.scopes.items in
    let h : c.outward.at < length ss = omega (arith, c.outward.invariant.within, rows_length ss) in
    let f = c.in_default.ensures in
    record {
      none = c.outward.invariant.same ∙ variable_none ss c.outward.at c.index-here.result.now c.args.name.now
          h c.index-here.ensures f c.if-here-at.true;
      same_kind = ap (λ (f : Fault). f.kind) c.fault.ensures;
      same_place = ap (λ (f : Fault). f.place) c.fault.ensures;
    }

pub outward-preserved : goal.outward-preserved
outward-preserved c =
    let ss = c.args.self.now.scopes.items in
    let h : c.outward.at < length ss = omega (arith, c.outward.invariant.within, rows_length ss) in
    let f = c.in_default.ensures in
    record {
      within = omega (arith, c.outward.invariant.within, c.if-here-at.false);
      same = c.outward.invariant.same ∙ variable_outer ss c.outward.at c.index-here.result.now c.args.name.now
          h c.index-here.ensures f c.if-here-at.false;
    }
