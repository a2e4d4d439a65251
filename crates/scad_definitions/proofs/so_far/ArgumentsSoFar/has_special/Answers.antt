use Rattle.std.proofs.Common.{◌∙◌, sym, ap, is_some}
use Rattle.scad_definitions.specs.Names.{newest_first}
use Rattle.scad_definitions.specs.declared.list.NameList.{NameList}
use Rattle.scad_definitions.specs.ArgumentsView.{special_pairs}
use Rattle.scad_definitions.specs.Newest.{find_in}
use Rattle.scad_ast.specs.Names.{is_among}
use Rattle.scad_definitions.proofs.Looking.{told_found, lent_found}
use Rattle.scad_definitions.proofs.so_far.ArgumentsSoFar.has_special.Goals as goal

pub returns-in-Some : goal.returns-in-Some
returns-in-Some g c =
    let name = c.args.name.now in
    let self = c.args.self.now in
    c.is_some.ensures ∙ lent_found c.find.result ∙ ap is_some c.find.ensures
    ∙ ap (λ (ns : NameList (Unit {0})). is_some (find_in (newest_first ns) name)) c.deref.ensures
    ∙ told_found (newest_first c.in-Some.specials.value) name
    ∙ ap (λ ns. is_among ns name) (self.specials_indexed c.in-Some.specials c.in-Some.is)
    ∙ sym (told_found (special_pairs self.given.dynamic.items) name)
