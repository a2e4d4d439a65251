use Rattle.std.proofs.Common.{◌∙◌, refl, sym}
use Rattle.scad_definitions.proofs.Held.{assigned_set}
use Rattle.scad_definitions.proofs.Placed.{placed_alike}
use Rattle.scad_definitions.proofs.assigned.LocalsSoFar.assign.Goals as goal

pub invariant_of-self : goal.invariant_of-self
invariant_of-self c =
    let x = c.index_mut.result.now in
    record {
      placed = λ q. c.args.self.now.placed q
          ∙ sym (placed_alike c.args.self.now.local.assignments.items c.in-Some.i x
          (record { place = x.place; special = x.special; name = x.name; value = c.args.assignment.value }) q
          c.in-Some.ensures.within c.index_mut.ensures.value refl);
    }

pub returns-in-Some-clause-assignments : goal.returns-in-Some-clause-assignments
returns-in-Some-clause-assignments c = assigned_set c.args.self.now.local.assignments.items c.in-Some.i c.index_mut.result.now
    c.args.assignment c.in-Some.ensures.within c.index_mut.ensures.value c.in-Some.ensures.value
