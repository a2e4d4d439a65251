use Rattle.std.proofs.Common.{◌<◌, ◌∙◌, length, sym, arith}
use Rattle.scad_scope.proofs.Envs.{rows_length, definition_found, definition_none, definition_outer}
use Rattle.scad_scope.proofs.scopes.Scopes.definition.Goals as goal

pub returns-in-Some : goal.returns-in-Some
returns-in-Some c =
    let ss = c.args.self.now.scopes.items in
    let h : c.outward.at < length ss = omega (arith, c.outward.invariant.within, rows_length ss) in
    let f = sym c.in-Some.ensures in
    record {
      there = c.outward.invariant.within;
      same = c.outward.invariant.same ∙ definition_found ss c.outward.at c.index-here.result.now
          c.args.name.now h c.index-here.ensures c.args.name_space c.in-Some.definition f;
    }

pub returns-then-here-at : goal.returns-then-here-at
returns-then-here-at c =
    let ss = c.args.self.now.scopes.items in
    let h : c.outward.at < length ss = omega (arith, c.outward.invariant.within, rows_length ss) in
    let f = sym c.in_default.ensures in
    c.outward.invariant.same ∙ definition_none ss c.outward.at c.index-here.result.now c.args.name.now h
    c.index-here.ensures c.args.name_space f c.if-here-at.true

pub outward-preserved : goal.outward-preserved
outward-preserved c =
    let ss = c.args.self.now.scopes.items in
    let h : c.outward.at < length ss = omega (arith, c.outward.invariant.within, rows_length ss) in
    let f = sym c.in_default.ensures in
    record {
      within = omega (arith, c.outward.invariant.within, c.if-here-at.false);
      same = c.outward.invariant.same ∙ definition_outer ss c.outward.at c.index-here.result.now
          c.args.name.now h c.index-here.ensures c.args.name_space f c.if-here-at.false;
    }
