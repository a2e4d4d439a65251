use Rattle.std.proofs.Common.{◌++◌, ◌∙◌, sym, ap}
use Rattle.std.proofs.lemmas.List.{map-append}
use Rattle.scad_value.specs.View.{val_of, vals_of, vals_in}
use Rattle.scad_builtin.specs.Builtins.{items_as}
use Rattle.scad_builtin.proofs.ArgumentLists.{list_from}
use Rattle.scad_builtin.proofs.list.append.Goals as goal

pub returns-in_ok-append-in-Ok : goal.returns-in_ok-append-in-Ok
returns-in_ok-append-in-Ok c = ap vals_in c.in_ok-append-in-Ok.ensures.items
    ∙ map-append val_of c.args.items.now.items c.into_items-more.result.items
    ∙ ap (λ l. vals_in c.args.items.now.items ++ l) (c.into_items-more.ensures
    ∙ sym (list_from (vals_of c.in-Ok.values)) ∙ ap items_as (sym c.in-Ok.ensures.list))
