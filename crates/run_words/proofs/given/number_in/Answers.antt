use Rattle.std.proofs.Common.{rules, sym, subst}
use Rattle.plain_text.specs.Decimals.{IsShortNumeral}
use Rattle.run_words.proofs.Found.{if_none, text_in, says_none, says_number, says_nothing}
use Rattle.run_words.proofs.given.number_in.Goals as goal

pub returns-in_err-read_decimal-in-Some-clause-none : goal.returns-in_err-read_decimal-in-Some-clause-none
returns-in_err-read_decimal-in-Some-clause-none c =
    if_none _ _ (says_nothing _ c.in-Some.text.now (text_in c.args.matches.now c.args.name.now c.get_str.result _ c.get_str.ensures c.in-Some.is)
    (λ short. cc (c.in_err-read_decimal-in-Some.ensures.some.1 (subst IsShortNumeral (sym c.as_bytes.ensures.value) short))))

pub returns-in-None-clause-found : goal.returns-in-None-clause-found
returns-in-None-clause-found c = says_none _ (text_in c.args.matches.now c.args.name.now c.get_str.result _ c.get_str.ensures c.in-None.is)

pub returns-in_ok-read_decimal-in-Some-clause-found : goal.returns-in_ok-read_decimal-in-Some-clause-found
returns-in_ok-read_decimal-in-Some-clause-found c =
    says_number _ c.in-Some.text.now c.in_ok-read_decimal-in-Some.field-0 (text_in c.args.matches.now c.args.name.now c.get_str.result _ c.get_str.ensures c.in-Some.is)
    (search rules) (search rules)
