use Rattle.std.proofs.Common.{◌≡◌, ◌∙◌, ◌∷◌, [], length, map, sym, ap, rules}
use Rattle.std.proofs.lemmas.List.{map-append}
use Rattle.scad_definitions.specs.Blocks.{place_of_assignment}
use Rattle.scad_definitions.specs.PlacesView.{places_of}
use Rattle.scad_definitions.specs.TextView.{source_assignment_of}
use Rattle.scad_definitions.proofs.Held.{assigned_pushed, mapped_length}
use Rattle.scad_definitions.proofs.Placed.{placed_more}
use Rattle.scad_definitions.proofs.assigned.LocalsSoFar.add.Goals as goal

pub invariant_of-self-in-Ok : goal.invariant_of-self-in-Ok
invariant_of-self-in-Ok c =
    let bs = c.args.self.now.local.assignments.items in
    let a = source_assignment_of c.args.assignment in
    let place : c.len-place.result ≡ length (map source_assignment_of bs) =
    let plain : c.len-place.result ≡ length bs = search rules in plain ∙ sym (mapped_length source_assignment_of bs) in
    record {
      placed = λ q.
          placed_more (places_of c.args.self.now.places) (places_of c.push-2.new.self) (map source_assignment_of bs) a
          c.in_ok-name.name c.len-place.result c.in-Ok.ensures.pushed c.in_ok-name.ensures place c.args.self.now.placed c.requires q
          ∙ ap (λ l. place_of_assignment l q) (sym (ap (map source_assignment_of) c.in_ok-push.ensures.items ∙ map-append source_assignment_of bs (c.args.assignment ∷ [])));
    }

pub returns-in-Ok-clause-assignments : goal.returns-in-Ok-clause-assignments
returns-in-Ok-clause-assignments c = assigned_pushed c.args.self.now.local.assignments.items c.push.new.self.items c.args.assignment
    c.in_ok-push.ensures.items (sym c.requires)
