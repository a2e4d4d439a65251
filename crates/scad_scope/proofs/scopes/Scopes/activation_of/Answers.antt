use Rattle.std.proofs.Common.{◌<◌, ◌∙◌, [], length, ap, arith}
use Rattle.scad_scope.specs.Names.{env_of}
use Rattle.scad_scope.specs.Table.{rows_of, numbered_activation_of}
use Rattle.scad_scope.proofs.Envs.{rows_length, call_found, call_none, call_outer}
use Rattle.scad_scope.proofs.scopes.Scopes.activation_of.Goals as goal

pub returns-in-Some-clause-value : goal.returns-in-Some-clause-value
returns-in-Some-clause-value c =
    let ss = c.args.self.now.scopes.items in
    let h : c.outward.at < length ss = omega (arith, c.outward.invariant.within, rows_length ss) in
    let f = c.activation_before.ensures.told (env_of (rows_of c.args.self.now)) ∙ ap (numbered_activation_of (env_of (rows_of c.args.self.now))) c.in-Some.is in
    c.outward.invariant.same ∙ call_found ss c.outward.at c.index-here.result.now [] h c.index-here.ensures c.in-Some.call f

pub returns-then-here-at-clause-value : goal.returns-then-here-at-clause-value
returns-then-here-at-clause-value c =
    let ss = c.args.self.now.scopes.items in
    let h : c.outward.at < length ss = omega (arith, c.outward.invariant.within, rows_length ss) in
    c.outward.invariant.same ∙ call_none ss c.outward.at c.index-here.result.now [] h c.index-here.ensures
    (c.in_default.ensures.told (env_of (rows_of c.args.self.now))) c.if-here-at.true

pub outward-preserved : goal.outward-preserved
outward-preserved c =
    let ss = c.args.self.now.scopes.items in
    let h : c.outward.at < length ss = omega (arith, c.outward.invariant.within, rows_length ss) in
    record {
      within = omega (arith, c.outward.invariant.within, c.if-here-at.false);
      same = c.outward.invariant.same ∙ call_outer ss c.outward.at c.index-here.result.now [] h c.index-here.ensures
          (c.in_default.ensures.told (env_of (rows_of c.args.self.now))) c.if-here-at.false;
    }
