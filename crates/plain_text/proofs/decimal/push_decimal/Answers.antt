use Rattle.std.proofs.Common.{ap, ◌∙◌, ◌++◌, to_z-of_z}
use Rattle.std.specs.Fmt.{signed_decimal}
use Rattle.plain_text.proofs.lemmas.Numerals.{signed_decimal-numeral}
use Rattle.plain_text.proofs.decimal.push_decimal.Goals as goal

pub returns-clause-ok : goal.returns-clause-ok
returns-clause-ok c =
    let text = c.as_bytes.ensures.value ∙ c.format.ensures.text ∙ ap signed_decimal (to_z-of_z c.ranges.value) ∙ signed_decimal-numeral c.args.value c.ranges.value.sfits in
    c.in_ok-extend_from_slice.ensures.items ∙ ap (λ bytes. c.args.out.now.items ++ bytes) text
