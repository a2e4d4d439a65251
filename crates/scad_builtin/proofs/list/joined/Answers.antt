use Rattle.std.proofs.Common.{◌++◌, ◌∙◌, sym, ap}
use Rattle.scad_builtin.specs.Builtins.{items_as}
use Rattle.scad_value.specs.View.{val_of}
use Rattle.scad_builtin.proofs.ArgumentLists.{joined_push}
use Rattle.scad_builtin.proofs.list.joined.Goals as goal

pub loop-value-preserved : goal.loop-value-preserved
loop-value-preserved c = c.in_ok-append.ensures
    ∙ ap (λ l. l ++ items_as (val_of c.in-Some.value)) c.loop-value.invariant
    ∙ sym (joined_push c.loop-value.yielded c.in-Some.value)
