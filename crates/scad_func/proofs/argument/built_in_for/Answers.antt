use Rattle.std.proofs.Common.{◌≡◌, length, true, false, sym, ap, ◌∙◌, arith}
use Rattle.std.proofs.lemmas.List.{length-map}
use Rattle.scad_ast.specs.Terms.{args_from}
use Rattle.scad_ast.specs.ExprView.{args_of, arg_of}
use Rattle.scad_builtin.specs.Builtins.{takes_count}
use Rattle.scad_func.specs.Meaning.{built_in_call_value}
use Rattle.scad_func.proofs.Steps.{as_many, built_in_named, built_in_taken}
use Rattle.scad_func.proofs.Forms.{args_form}
use Rattle.scad_func.proofs.argument.built_in_for.Goals.{then-not-have_no_names-via-then-not-have_no_names, then-not-have_no_names-via-else-not-have_no_names+then-not-takes}
use Rattle.scad_func.proofs.argument.built_in_for.Goals as goal

pub returns-clause-called : goal.returns-clause-called
returns-clause-called c = λ here turns.
    let xs = c.args.args.now.items in
    let n : length xs.items ≡ c.len.result = omega (arith, c.len.ensures, xs.ok.0) in
    let taken = ap (takes_count c.in-Some.function) (as_many (args_of c.args.args.now) ∙ ap length
    (args_form c.args.args.now) ∙ length-map xs.items arg_of ∙ n) ∙ sym c.if-not-takes.ensures in
    ap (λ o. built_in_call_value here c.args.place c.args.name.now (args_from (args_of c.args.args.now)) turns o)
    (sym c.in-Some.ensures)
    ∙ built_in_taken here c.args.place c.args.name.now (args_from (args_of c.args.args.now)) turns
    c.in-Some.function true (sym c.if-not-have_no_names.ensures) taken

pub returns-then-not-have_no_names-clause-refused : goal.returns-then-not-have_no_names-clause-refused
returns-then-not-have_no_names-clause-refused c = λ here turns k. rw (c.at-then-not-have_no_names.ensures)
    (ap (λ o. built_in_call_value here c.args.place c.args.name.now (args_from (args_of c.args.args.now)) turns o)
    (sym c.in-Some.ensures) ∙ elim
    c.then-not-have_no_names.branch [
      | then-not-have_no_names-via-then-not-have_no_names w ↦ built_in_named here c.args.place c.args.name.now
          (args_from (args_of c.args.args.now)) turns c.in-Some.function (sym w.if-not-have_no_names.ensures)
      | then-not-have_no_names-via-else-not-have_no_names+then-not-takes w ↦
          let xs = c.args.args.now.items in
          let n : length xs.items ≡ w.len.result = omega (arith, w.len.ensures, xs.ok.0) in
          let taken = ap (takes_count c.in-Some.function)
          (as_many (args_of c.args.args.now) ∙ ap length (args_form c.args.args.now) ∙ length-map xs.items
          arg_of ∙ n) ∙ sym w.if-not-takes.ensures in
          built_in_taken here c.args.place c.args.name.now (args_from (args_of c.args.args.now)) turns
          c.in-Some.function false (sym w.if-not-have_no_names.ensures) taken
    ])
