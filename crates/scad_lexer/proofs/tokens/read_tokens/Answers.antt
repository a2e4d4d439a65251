use Rattle.std.proofs.Common.{arith, rules, length-take-le, sym, refl, ◌∙◌}
use Rattle.std.proofs.lemmas.Bool.{eqb-true}
use Rattle.std.proofs.lemmas.Result.{err_from_is_err_and}
use Rattle.text_place.specs.declared.fault.FaultKind.TheVariants.{BadCharacter}
use Rattle.scad_lexer.specs.declared.token.TokenKind.TheVariants.{Symbol}
use Rattle.scad_lexer.specs.declared.word.Word.TheVariants.{Blank, Symbol as SymbolWord}
use Rattle.scad_lexer.specs.Tokens.{FaultAt}
use Rattle.scad_lexer.proofs.Lexing.{adds_none, adds_one, goes_on, goes_end, goes_fault, moved_symbol, rest_length, stray}
use Rattle.scad_lexer.proofs.Scanned.{blank_found}
use Rattle.scad_lexer.proofs.tokens.read_tokens.Goals as goal

pub words-preserved-then-begins : goal.words-preserved-then-begins
words-preserved-then-begins c =
    let rest = c.words.rest.now in
    let longest = blank_found rest (sym c.begins.ensures.begins ∙ c.if-begins.true) in
    let next = adds_none rest c.words.tokens.items c.words.place 1 Blank longest refl in
    record {
      told = rw c.advance-place.ensures.place_after (goes_on c.args.text.now c.words.tokens.items _ c.words.place rest 1 c.words.invariant.told next);
      line = omega (arith, c.advance-place.ensures.line, rest_length rest 1 longest.within, length-take-le 1 rest longest.within, c.words.invariant.line);
      column = omega (arith, c.advance-place.ensures.column, rest_length rest 1 longest.within, length-take-le 1 rest longest.within, c.words.invariant.column);
    }

pub words-preserved-in-Some : goal.words-preserved-in-Some
words-preserved-in-Some c =
    let rest = c.words.rest.now in
    let longest = c.in-Some.ensures in
    let next = adds_one rest c.words.tokens.items _ c.words.place 1 (SymbolWord c.in-Some.symbol) (Symbol c.in-Some.symbol) longest refl c.in_ok-push_token.ensures in
    let step = goes_on c.args.text.now c.words.tokens.items _ c.words.place rest 1 c.words.invariant.told next in
    record {
      told = rw (← moved_symbol c.words.place rest c.in-Some.symbol longest) step;
      line = omega (arith, rest_length rest 1 longest.within, c.words.invariant.line);
      column = omega (arith, rest_length rest 1 longest.within, c.words.invariant.column);
    }

pub returns-in_err-push_word-clause-fault : goal.returns-in_err-push_word-clause-fault
returns-in_err-push_word-clause-fault c =
    let p = err_from_is_err_and c.from_residual-in_err-push_word.result c.from_residual-in_err-push_word.ensures.1 in
    rw (p.1, p.2) (goes_fault c.args.text.now c.words.tokens.items c.words.place c.words.rest.now c.in_err-push_word.field-0.0 c.words.invariant.told c.in_err-push_word.ensures.fault)

pub words-preserved : goal.words-preserved
words-preserved c =
    let bytes = c.in-Some-longest_word.bytes in
    let step = goes_on c.args.text.now c.words.tokens.items _ c.words.place c.words.rest.now bytes c.words.invariant.told c.in_ok-push_word.ensures.appended in
    let within = c.in_ok-push_word.ensures.appended.longest.within in
    record {
      told = rw c.advance-place-in-words.ensures.place_after step;
      line = omega (arith, c.advance-place-in-words.ensures.line, rest_length c.words.rest.now bytes within, length-take-le bytes c.words.rest.now within, c.words.invariant.line);
      column = omega (arith, c.advance-place-in-words.ensures.column, rest_length c.words.rest.now bytes within, length-take-le bytes c.words.rest.now within, c.words.invariant.column);
    }

pub returns-clause-found : goal.returns-clause-found
returns-clause-found c = rw c.in_ok-push_token-2.ensures (goes_end c.args.text.now c.words.tokens.items c.words.place c.words.rest.now c.words.invariant.told (eqb-true _ _ (sym c.words-test.ensures)))

pub returns-in_default-longest_word-clause-fault : goal.returns-in_default-longest_word-clause-fault
returns-in_default-longest_word-clause-fault c = rw c.at.ensures (c.words.invariant.told (FaultAt BadCharacter c.words.place) (stray c.words.place c.words.rest.now (search rules) c.in_default-longest_word.ensures.none))
