use Rattle.std.proofs.Common.{◌≡◌, ◌++◌, ◌∙◌, List, ℕ, sym, ap, subst}
use Rattle.std.specs.Prelude.{OnOk}
use Rattle.reply_text.specs.declared.reply.Reply.{Reply}
use Rattle.script_service.specs.Demos.{last_words}
use Rattle.script_service.proofs.Lines.{last_of}
use Rattle.script_service.proofs.demo.push_last.Goals as goal

pub returns-in-Some : goal.returns-in-Some
returns-in-Some c =
    let same = ap (λ (rs : List Reply). last_words rs) c.in-Some.ensures.cases.0 ∙ last_of c.in-Some.field-0-1.now c.in-Some.last.now in
    subst (λ (words : List ℕ). OnOk c.push_export.result (c.push_export.new.out.items ≡ c.args.out.now.items ++ words)) (sym same) c.push_export.ensures
