use Rattle.std.proofs.Common.{◌≡◌, ◌-◌, rules, Ok, Err, Some, refl, ◌∙◌, [], ◌∷◌, sym, ap, arith, Vec, Global}
use Rattle.std.proofs.lemmas.List.{map-append}
use Rattle.std.proofs.lemmas.Result.{err_from_is_err_and}
use Rattle.std.specs.Borrow.{Bor}
use Rattle.std.specs.Global.{Box}
use Rattle.scad_lexer.specs.declared.token.Token.{Token}
use Rattle.scad_ast.specs.declared.expression.Expr.{Expr}
use Rattle.scad_ast.specs.declared.expression.Link.{Link}
use Rattle.scad_ast.specs.declared.expression.Suffix.{Suffix}
use Rattle.scad_ast.specs.Terms.{Term, PositionalTerm}
use Rattle.scad_ast.specs.ExprView.{term_of, terms_of, link_of, suffix_of, arg_of, args_of}
use Rattle.scad_grammar.specs.declared.SyntaxFault.{SyntaxFault}
use Rattle.scad_grammar.specs.Classes.{close_bracket_sign, close_parenthesis_sign, has_class_in, has_class, has_class_outside}
use Rattle.scad_grammar.specs.Grammar.{levels, unary_term, index_term, paren_term, bracket_term, list_or_range_term, named_argument_term, Rest}
use Rattle.scad_grammar.specs.Languages.{pair_of}
use Rattle.scad_grammar.specs.Reading.{Read, then_read, sequence_read, optional_read, with_front}
use Rattle.scad_grammar.specs.Reads.{expr_read, operand_read, arg_in, args_read, suffix_read, rest_read, chain_read, choice_read, in_parentheses}
use Rattle.scad_grammar.proofs.lemmas.Readers.{loop_more, loop_end, loop_fault}
use Rattle.scad_expressions.specs.declared.class.Level.TheVariants.{Or}
use Rattle.scad_expressions.specs.TokenClasses.{operators_at, levels_below, suffix_signs}
use Rattle.scad_expressions.specs.Views.{has_lone_atom, past_comma}
use Rattle.scad_expressions.proofs.Climbs.{chain_climbs, chain_stops, climb_none, climb_step, climb_step_none, climb_stops, many_none}
use Rattle.scad_expressions.specs.Climbing.{primary_in, unary_in}
use Rattle.scad_expressions.proofs.Atoms.{literal_is_atom, literal_taken, literal_read, atom_is_operand, atom_is_side, atom_is_expression}
use Rattle.scad_expressions.proofs.Levels.{same_level, looser_step}
use Rattle.scad_expressions.proofs.lemmas.Depths.{expr_none, expr_deeper, operand_none, operand_deeper}
use Rattle.scad_expressions.proofs.lemmas.Given.{arg_given, arg_positional}
use Rattle.scad_expressions.proofs.lemmas.Lengths.{link_strict, suffix_strict, expr_shorter, arg_shorter, arguments_shorter, given_shorter}
use Rattle.scad_expressions.proofs.lemmas.Loops.{many_more, many_end, many_stop, trailing_more, trailing_end, trailing_stop, past_shorter}
use Rattle.scad_expressions.proofs.lemmas.Stops.{links_in, suffixes_in, sides_in, some_links_in, some_suffixes_in, token_of, same_read, memory_ran_out, stops, made_stops, with_gives, boxed_gives, closed_gives, closed_made, parenthesized, operand_goes, item_goes, link_goes, first_link_goes, suffix_goes, first_suffix_goes, arg_goes}
use Rattle.scad_expressions.proofs.lemmas.Trees.{terms_roll, positional_made, index_made, paren_made, chain_made, postfix_made, args_roll}
use Rattle.scad_expressions.proofs.expression.+expression.Goals as goal
use Rattle.scad_expressions.proofs.expression.+expression.Goals.{climb_below-then-begins+in_ok-chained, climb_below-else-begins}

bracket_filled : (bracket : Token) (first : Term) (q : Read Token SyntaxFault Rest)
    → then_read (then_read (then_read q (λ more us. Ok (pair_of first more, us))) (λ p us. Ok (Some p, us))) (λ p us. Ok (bracket_term bracket p, us)) ≡ then_read q (λ more us. Ok (list_or_range_term bracket first more, us))
bracket_filled bracket first (Ok p) = refl
bracket_filled bracket first (Err e) = refl

pub expr-returns-then-depth-eq0-clause-value : goal.expr-returns-then-depth-eq0-clause-value
expr-returns-then-depth-eq0-clause-value t c = rw (expr_none c.args.depth c.args.tokens.now c.if-depth-eq0.true) (search rules)

pub expr-returns-in-Some-clause-value : goal.expr-returns-in-Some-clause-value
expr-returns-in-Some-clause-value t c =
    let some = c.in-Some.ensures.some in
    let inner = c.args.depth - 1 in
    same_read term_of c.atom.result _ _
    (expr_deeper c.args.depth c.args.tokens.now c.if-depth-eq0.false ∙ ap (choice_read (expr_read inner) (operand_read inner) (primary_in inner)) some.0
    ∙ atom_is_expression (expr_read inner) (operand_read inner) (arg_in inner (expr_read inner)) c.in-Some.token.now c.in-Some.rest.now (ap has_lone_atom (sym some.0) ∙ some.1))
    c.atom.ensures

pub expr-returns-clause-value : goal.expr-returns-clause-value
expr-returns-clause-value t c = rw (expr_deeper c.args.depth c.args.tokens.now c.if-depth-eq0.false) c.choice.ensures.value

pub expr-returns-clause-rest : goal.expr-returns-clause-rest
expr-returns-clause-rest t c = given_shorter term_of (expr_read c.args.depth) (expr_shorter c.args.depth) c.args.tokens.now c.choice.result (expr-returns-clause-value t c)

pub operand-returns-then-depth-eq0 : goal.operand-returns-then-depth-eq0
operand-returns-then-depth-eq0 t c = record { value = rw (operand_none c.args.depth c.args.tokens.now c.if-depth-eq0.true) (search rules) }

pub operand-returns-in-Some : goal.operand-returns-in-Some
operand-returns-in-Some t c = record {
  value =
      let some = c.in-Some.ensures.some in
      let inner = c.args.depth - 1 in
      same_read term_of c.atom.result _ _
      (operand_deeper c.args.depth c.args.tokens.now c.if-depth-eq0.false ∙ ap (unary_in inner) some.0
      ∙ atom_is_operand (expr_read inner) (operand_read inner) (arg_in inner (expr_read inner)) c.in-Some.token.now c.in-Some.rest.now (ap has_lone_atom (sym some.0) ∙ some.1))
      c.atom.ensures;
}

pub operand-returns : goal.operand-returns
operand-returns t c = record { value = rw (operand_deeper c.args.depth c.args.tokens.now c.if-depth-eq0.false) c.unary.ensures.value }

pub chain-returns-in_default : goal.chain-returns-in_default
chain-returns-in_default t c = record {
  value =
      rw (chain_climbs levels _ c.args.tokens.now, c.in-Ok.ensures.value) (climb_none _ (term_of c.in-Ok.first) c.in-Ok.rest.now (sym c.begins.ensures ∙ c.if-begins.false));
}

pub side-returns-in-Some : goal.side-returns-in-Some
side-returns-in-Some t c = record {
  value =
      let some = c.in-Some.ensures.some in
      same_read term_of c.atom.result _ _
      (ap (chain_read (levels_below c.args.level) (unary_in c.args.depth)) some.0
      ∙ atom_is_side (expr_read c.args.depth) (operand_read c.args.depth) (arg_in c.args.depth (expr_read c.args.depth)) c.in-Some.token.now c.in-Some.rest.now (ap has_lone_atom (sym some.0) ∙ some.1) c.args.level)
      c.atom.ensures;
}

pub side-returns : goal.side-returns
side-returns t c = record { value = rw (chain_climbs (levels_below c.args.level) _ c.args.tokens.now, c.in_ok-first.ensures.value) c.climb_below.ensures.value }

pub side-returns-in_err-first : goal.side-returns-in_err-first
side-returns-in_err-first t c = record {
  value =
      let p = err_from_is_err_and c.from_residual.result c.from_residual.ensures.1 in
      rw (p.1, p.2) (operand_goes c.in_err-first.field-0.0 _ _ (λ x e. chain_stops (levels_below c.args.level) _ c.args.tokens.now x e) c.in_err-first.ensures.value);
}

pub climbed-returns-in_default : goal.climbed-returns-in_default
climbed-returns-in_default t c = record {
  value =
      rw (c.in-Ok.ensures.value, many_none (has_class_in (operators_at Or)) _ c.in-Ok.rest.now (sym c.begins.ensures ∙ c.if-begins.false)) refl;
}

pub climb_below-returns-in_err-chained : goal.climb_below-returns-in_err-chained
climb_below-returns-in_err-chained t c = record {
  value =
      let p = err_from_is_err_and c.from_residual.result c.from_residual.ensures.1 in
      rw (p.1, p.2) (operand_goes c.in_err-chained.field-0.0 _ _
      (λ y e. climb_stops c.levels.at c.args.level _ (term_of c.args.first) c.args.tokens.now y (omega (arith, c.levels-test.true, c.tighter_levels.ensures, c.tighter_levels-levels.ensures))
      (climb_step c.levels.at _ (term_of c.args.first) (term_of c.levels.first) c.args.tokens.now c.levels.rest.now c.levels.invariant.told ∙ e))
      c.in_err-chained.ensures.value);
}

pub climb_below-levels-preserved : goal.climb_below-levels-preserved
climb_below-levels-preserved t c =
    let step = looser_step c.levels.at c.args.level (omega (arith, c.levels-test.true, c.tighter_levels.ensures, c.tighter_levels-levels.ensures)) in
    elim c.if-begins.branch [
      | climb_below-then-begins+in_ok-chained w ↦ record {
        told = rw (c.looser-at.ensures, step.0, w.first-is, w.rest-is) (climb_step c.levels.at _ (term_of c.args.first) (term_of c.levels.first) c.args.tokens.now c.levels.rest.now c.levels.invariant.told ∙ w.in_ok-chained.ensures.value);
        within = rw c.looser-at.ensures (omega (arith, step.1, c.levels-test.true, c.tighter_levels.ensures, c.tighter_levels-levels.ensures));
      }
      | climb_below-else-begins w ↦ record {
        told = rw (c.looser-at.ensures, step.0, w.first-is, w.rest-is) (climb_step_none c.levels.at _ (term_of c.args.first) (term_of c.levels.first) c.args.tokens.now c.levels.rest.now c.levels.invariant.told (sym c.begins.ensures ∙ w.if-begins.false));
        within = rw c.looser-at.ensures (omega (arith, step.1, c.levels-test.true, c.tighter_levels.ensures, c.tighter_levels-levels.ensures));
      }
    ]

pub climb_below-levels-smaller : goal.climb_below-levels-smaller
climb_below-levels-smaller t c =
    let step = looser_step c.levels.at c.args.level (omega (arith, c.levels-test.true, c.tighter_levels.ensures, c.tighter_levels-levels.ensures)) in
    rw c.looser-at.ensures (omega (arith, step.1, c.levels-test.true, c.tighter_levels.ensures, c.tighter_levels-levels.ensures))

pub climb_below-returns : goal.climb_below-returns
climb_below-returns t c = record {
  value =
      let same = same_level c.levels.at c.args.level (omega (arith, c.levels-test.false, c.tighter_levels.ensures, c.tighter_levels-levels.ensures, c.levels.invariant.within)) in
      rw (sym same) c.levels.invariant.told;
}

pub postfix-returns-in_default : goal.postfix-returns-in_default
postfix-returns-in_default t c = record {
  value =
      rw (c.in-Ok.ensures.value, many_none (has_class_in suffix_signs) (suffix_read (expr_read c.args.depth)) c.in-Ok.rest.now (sym c.begins.ensures ∙ c.if-begins.false)) refl;
}

pub links-returns-in_err-item : goal.links-returns-in_err-item
links-returns-in_err-item t c = record {
  value =
      let p = err_from_is_err_and c.from_residual.result c.from_residual.ensures.1 in
      rw (p.1, p.2) (link_goes c.in_err-item.field-0.0 _ _ (λ x e. loop_fault _ _ _ _ c.links.invariant (many_stop (has_class_in (operators_at c.args.level)) _ (link_strict c.args.level c.args.depth) c.links.rest.now x (sym c.begins.ensures ∙ c.links-test.true) e)) c.in_err-item.ensures.value);
}

pub links-links-preserved : goal.links-links-preserved
links-links-preserved t c = rw (c.in_ok-push.ensures.items, map-append) (loop_more _ _ _ _ _ c.links.invariant (many_more (has_class_in (operators_at c.args.level)) _ (link_strict c.args.level c.args.depth) c.links.rest.now (link_of c.in_ok-item.item) c.in_ok-item.after.now (sym c.begins.ensures ∙ c.links-test.true) c.in_ok-item.ensures.value))

pub links-links-smaller : goal.links-links-smaller
links-links-smaller t c = link_strict c.args.level c.args.depth c.links.rest.now (link_of c.in_ok-item.item) c.in_ok-item.after.now c.in_ok-item.ensures.value

pub links-returns : goal.links-returns
links-returns t c = record { value = loop_end _ _ _ _ c.links.invariant (many_end (has_class_in (operators_at c.args.level)) _ (link_strict c.args.level c.args.depth) c.links.rest.now (sym c.begins.ensures ∙ c.links-test.false)) }

pub suffixes-returns-in_err-item : goal.suffixes-returns-in_err-item
suffixes-returns-in_err-item t c = record {
  value =
      let p = err_from_is_err_and c.from_residual.result c.from_residual.ensures.1 in
      rw (p.1, p.2) (suffix_goes c.in_err-item.field-0.0 _ _ (λ x e. loop_fault _ _ _ _ c.suffixes.invariant (many_stop (has_class_in suffix_signs) _ (suffix_strict c.args.depth) c.suffixes.rest.now x (sym c.begins.ensures ∙ c.suffixes-test.true) e)) c.in_err-item.ensures.value);
}

pub suffixes-suffixes-preserved : goal.suffixes-suffixes-preserved
suffixes-suffixes-preserved t c = rw (c.in_ok-push.ensures.items, map-append) (loop_more _ _ _ _ _ c.suffixes.invariant (many_more (has_class_in suffix_signs) _ (suffix_strict c.args.depth) c.suffixes.rest.now (suffix_of c.in_ok-item.item) c.in_ok-item.after.now (sym c.begins.ensures ∙ c.suffixes-test.true) c.in_ok-item.ensures.value))

pub suffixes-suffixes-smaller : goal.suffixes-suffixes-smaller
suffixes-suffixes-smaller t c = suffix_strict c.args.depth c.suffixes.rest.now (suffix_of c.in_ok-item.item) c.in_ok-item.after.now c.in_ok-item.ensures.value

pub suffixes-returns : goal.suffixes-returns
suffixes-returns t c = record { value = loop_end _ _ _ _ c.suffixes.invariant (many_end (has_class_in suffix_signs) _ (suffix_strict c.args.depth) c.suffixes.rest.now (sym c.begins.ensures ∙ c.suffixes-test.false)) }

pub more_args-returns-in_err-item : goal.more_args-returns-in_err-item
more_args-returns-in_err-item t c = record {
  value =
      let p = err_from_is_err_and c.from_residual.result c.from_residual.ensures.1 in
      rw (p.1, p.2) (arg_goes c.in_err-item.field-0.0 _ _ (λ x e. loop_fault _ _ _ _ c.commas.invariant (trailing_stop (has_class_outside (close_parenthesis_sign ∷ [])) _ (arg_shorter c.args.depth) c.commas.rest.now x (sym c.is_comma_before.ensures ∙ c.commas-test.true) (ap (arg_in c.args.depth (expr_read c.args.depth)) (sym c.behind_comma.ensures.rest) ∙ e))) c.in_err-item.ensures.value);
}

pub more_args-commas-preserved : goal.more_args-commas-preserved
more_args-commas-preserved t c = rw (c.in_ok-push.ensures.items, map-append) (loop_more _ _ _ _ _ c.commas.invariant (trailing_more (has_class_outside (close_parenthesis_sign ∷ [])) _ (arg_shorter c.args.depth) c.commas.rest.now (arg_of c.in_ok-item.item) c.in_ok-item.after.now (sym c.is_comma_before.ensures ∙ c.commas-test.true) (ap (arg_in c.args.depth (expr_read c.args.depth)) (sym c.behind_comma.ensures.rest) ∙ c.in_ok-item.ensures.value)))

pub more_args-commas-smaller : goal.more_args-commas-smaller
more_args-commas-smaller t c =
    let left = arg_shorter c.args.depth (past_comma c.commas.rest.now) (arg_of c.in_ok-item.item) c.in_ok-item.after.now (ap (arg_in c.args.depth (expr_read c.args.depth)) (sym c.behind_comma.ensures.rest) ∙ c.in_ok-item.ensures.value) in
    omega (arith, left, past_shorter (has_class_outside (close_parenthesis_sign ∷ [])) c.commas.rest.now (sym c.is_comma_before.ensures ∙ c.commas-test.true))

pub more_args-returns : goal.more_args-returns
more_args-returns t c = record { value = rw (args_roll (record { items = c.commas.items }), c.behind_comma-2.ensures.rest) (loop_end _ _ _ _ c.commas.invariant (trailing_end (has_class_outside (close_parenthesis_sign ∷ [])) _ (arg_shorter c.args.depth) c.commas.rest.now (sym c.is_comma_before.ensures ∙ c.commas-test.false))) }

pub more_items-returns-in_err-item : goal.more_items-returns-in_err-item
more_items-returns-in_err-item t c = record {
  value =
      let p = err_from_is_err_and c.from_residual.result c.from_residual.ensures.1 in
      rw (p.1, p.2) (item_goes c.in_err-item.field-0.0 _ _ (λ x e. loop_fault _ _ _ _ c.commas.invariant (trailing_stop (has_class_outside (close_bracket_sign ∷ [])) _ (expr_shorter c.args.depth) c.commas.rest.now x (sym c.is_comma_before.ensures ∙ c.commas-test.true) (ap (expr_read c.args.depth) (sym c.behind_comma.ensures.rest) ∙ e))) c.in_err-item.ensures.value);
}

pub more_items-commas-preserved : goal.more_items-commas-preserved
more_items-commas-preserved t c = rw (c.in_ok-push.ensures.items, map-append) (loop_more _ _ _ _ _ c.commas.invariant (trailing_more (has_class_outside (close_bracket_sign ∷ [])) _ (expr_shorter c.args.depth) c.commas.rest.now (term_of c.in_ok-item.item) c.in_ok-item.after.now (sym c.is_comma_before.ensures ∙ c.commas-test.true) (ap (expr_read c.args.depth) (sym c.behind_comma.ensures.rest) ∙ c.in_ok-item.ensures.value)))

pub more_items-commas-smaller : goal.more_items-commas-smaller
more_items-commas-smaller t c =
    let left = expr_shorter c.args.depth (past_comma c.commas.rest.now) (term_of c.in_ok-item.item) c.in_ok-item.after.now (ap (expr_read c.args.depth) (sym c.behind_comma.ensures.rest) ∙ c.in_ok-item.ensures.value) in
    omega (arith, left, past_shorter (has_class_outside (close_bracket_sign ∷ [])) c.commas.rest.now (sym c.is_comma_before.ensures ∙ c.commas-test.true))

pub more_items-returns : goal.more_items-returns
more_items-returns t c = record { value = rw (terms_roll (record { items = c.commas.items }), c.behind_comma-2.ensures.rest) (loop_end _ _ _ _ c.commas.invariant (trailing_end (has_class_outside (close_bracket_sign ∷ [])) _ (expr_shorter c.args.depth) c.commas.rest.now (sym c.is_comma_before.ensures ∙ c.commas-test.false))) }

pub some_links-returns-in_err-next : goal.some_links-returns-in_err-next
some_links-returns-in_err-next t c = record {
  value =
      let p = err_from_is_err_and c.from_residual.result c.from_residual.ensures.1 in
      rw (p.1, p.2) (first_link_goes c.in_err-next.field-0.0 _ _ (λ x e. many_stop (has_class_in (operators_at c.args.level)) _ (link_strict c.args.level c.args.depth) c.args.tokens.now x c.requires e) c.in_err-next.ensures.value);
}

pub some_links-returns : goal.some_links-returns
some_links-returns t c = record {
  value =
      let more = many_more (has_class_in (operators_at c.args.level)) _ (link_strict c.args.level c.args.depth) c.args.tokens.now (link_of c.in_ok-next.next) c.in_ok-next.rest.now c.requires c.in_ok-next.ensures.value in
      with_gives links_in (λ (next : Link) (links : Vec Link Global). some_links_in (next, links)) _ c.links.result c.with.result _ _
      (λ links us e. more ∙ ap (with_front _) e) (λ x e. more ∙ ap (with_front _) e) c.links.ensures.value c.with.ensures.ok c.with.ensures.err;
}

pub linked-returns : goal.linked-returns
linked-returns t c = record {
  value =
      let made = c.in_ok-first.ensures.ok in
      let read = rw made.1 at c.some_links.ensures.value in
      rw (read, chain_made c.place-place.result c.in_ok-new.field-0 c.in_ok-first.first c.in_ok-first.next c.in_ok-first.more c.in_ok-new.ensures.ok, c.place-place.ensures, made.0) refl;
}

pub some_suffixes-returns-in_err-next : goal.some_suffixes-returns-in_err-next
some_suffixes-returns-in_err-next t c = record {
  value =
      let p = err_from_is_err_and c.from_residual.result c.from_residual.ensures.1 in
      rw (p.1, p.2) (first_suffix_goes c.in_err-next.field-0.0 _ _ (λ x e. many_stop (has_class_in suffix_signs) _ (suffix_strict c.args.depth) c.args.tokens.now x c.requires e) c.in_err-next.ensures.value);
}

pub some_suffixes-returns : goal.some_suffixes-returns
some_suffixes-returns t c = record {
  value =
      let more = many_more (has_class_in suffix_signs) _ (suffix_strict c.args.depth) c.args.tokens.now (suffix_of c.in_ok-next.next) c.in_ok-next.rest.now c.requires c.in_ok-next.ensures.value in
      with_gives suffixes_in (λ (next : Suffix) (suffixes : Vec Suffix Global). some_suffixes_in (next, suffixes)) _ c.suffixes.result c.with.result _ _
      (λ suffixes us e. more ∙ ap (with_front _) e) (λ x e. more ∙ ap (with_front _) e) c.suffixes.ensures.value c.with.ensures.ok c.with.ensures.err;
}

pub suffixed-returns : goal.suffixed-returns
suffixed-returns t c = record {
  value =
      let made = c.in_ok-of.ensures.ok in
      let read = rw made.1 at c.some_suffixes.ensures.value in
      rw (read, postfix_made c.place-place.result c.in_ok-new.field-0 c.in_ok-of.of c.in_ok-of.next c.in_ok-of.more c.in_ok-new.ensures.ok, c.place-place.ensures, made.0) refl;
}

pub arg-returns : goal.arg-returns
arg-returns t c = record {
  value =
      let made = c.in_ok-bytes-2.ensures.ok in
      let value = rw made.1 at c.expr-2.ensures.value in
      arg_given c.args.depth c.args.tokens.now c.in-Some.name.now c.in-Some.rest.now c.if-depth-eq0.false c.in-Some.ensures.some
      ∙ ap (λ (q : Read Token SyntaxFault Term). then_read q (λ x us. Ok (named_argument_term c.in-Some.name.now x, us))) value
      ∙ ap (λ x. Ok (x, c.in_ok-bytes-2.rest.now)) (sym c.given.ensures);
}

pub arg-returns-in_err-bytes : goal.arg-returns-in_err-bytes
arg-returns-in_err-bytes t c = record { value = memory_ran_out arg_of c.from_residual-in_err-bytes.result _ c.from_residual-in_err-bytes.ensures.1 }

pub arg_list-returns-in_err-items : goal.arg_list-returns-in_err-items
arg_list-returns-in_err-items t c = record { value = memory_ran_out args_of c.from_residual-in_err-items.result _ c.from_residual-in_err-items.ensures.1 }

pub called-returns-in_err-bytes : goal.called-returns-in_err-bytes
called-returns-in_err-bytes t c = record { value = memory_ran_out term_of c.from_residual.result _ c.from_residual.ensures.1 }

pub called-returns-in_err-new : goal.called-returns-in_err-new
called-returns-in_err-new t c = record { value = memory_ran_out term_of c.from_residual-in_err-new.result _ c.from_residual-in_err-new.ensures.1 }

pub chosen-returns-in_err-new : goal.chosen-returns-in_err-new
chosen-returns-in_err-new t c = record { value = memory_ran_out term_of c.from_residual-in_err-new.result _ c.from_residual-in_err-new.ensures.1 }

pub filled-returns-in_err-items : goal.filled-returns-in_err-items
filled-returns-in_err-items t c = record { value = memory_ran_out term_of c.from_residual.result _ c.from_residual.ensures.1 }

pub linked-returns-in_err-new : goal.linked-returns-in_err-new
linked-returns-in_err-new t c = record { value = memory_ran_out term_of c.from_residual-in_err-new.result _ c.from_residual-in_err-new.ensures.1 }

pub links-returns-in_err-push : goal.links-returns-in_err-push
links-returns-in_err-push t c = record { value = memory_ran_out links_in c.from_residual-in_err-push.result _ c.from_residual-in_err-push.ensures.1 }

pub more_args-returns-in_err-push : goal.more_args-returns-in_err-push
more_args-returns-in_err-push t c = record { value = memory_ran_out args_of c.from_residual-in_err-push.result _ c.from_residual-in_err-push.ensures.1 }

pub more_items-returns-in_err-push : goal.more_items-returns-in_err-push
more_items-returns-in_err-push t c = record { value = memory_ran_out terms_of c.from_residual-in_err-push.result _ c.from_residual-in_err-push.ensures.1 }

pub range-returns-in_err-new : goal.range-returns-in_err-new
range-returns-in_err-new t c = record { value = memory_ran_out term_of c.from_residual-in_err-new.result _ c.from_residual-in_err-new.ensures.1 }

pub range-returns-in_err-new-2 : goal.range-returns-in_err-new-2
range-returns-in_err-new-2 t c = record { value = memory_ran_out term_of c.from_residual-in_err-new-2.result _ c.from_residual-in_err-new-2.ensures.1 }

pub suffix-returns-in_err-bytes : goal.suffix-returns-in_err-bytes
suffix-returns-in_err-bytes t c = record { value = memory_ran_out suffix_of c.from_residual-in_err-bytes.result _ c.from_residual-in_err-bytes.ensures.1 }

pub suffixed-returns-in_err-new : goal.suffixed-returns-in_err-new
suffixed-returns-in_err-new t c = record { value = memory_ran_out term_of c.from_residual-in_err-new.result _ c.from_residual-in_err-new.ensures.1 }

pub suffixes-returns-in_err-push : goal.suffixes-returns-in_err-push
suffixes-returns-in_err-push t c = record { value = memory_ran_out suffixes_in c.from_residual-in_err-push.result _ c.from_residual-in_err-push.ensures.1 }

pub paren-returns-in_err-open : goal.paren-returns-in_err-open
paren-returns-in_err-open t c = record { value = stops token_of term_of c.from_residual.result c.in_err-open.field-0.0 _ _ (λ x e. rw e refl) c.in_err-open.ensures.value c.from_residual.ensures.1 }

pub paren-returns-in_err-inner : goal.paren-returns-in_err-inner
paren-returns-in_err-inner t c = record {
  value =
      let read = closed_gives term_of (has_class close_parenthesis_sign) c.expr.result c.closed.result _ c.expr.ensures.value c.closed.ensures in
      rw c.in_ok-open.ensures.value
      (made_stops (λ (b : Box Expr). term_of b.value) term_of (paren_term c.in_ok-open.open.now) c.from_residual-in_err-inner.result c.in_err-inner.field-0.0 _
      (boxed_gives term_of c.closed.result (Err c.in_err-inner.field-0.0) _ read c.in_err-inner.ensures) c.from_residual-in_err-inner.ensures.1);
}

pub signed-returns-in_err-of : goal.signed-returns-in_err-of
signed-returns-in_err-of t c = record {
  value =
      made_stops (λ (b : Box Expr). term_of b.value) term_of (unary_term c.args.operator.now) c.from_residual.result c.in_err-of.field-0.0 _
      (boxed_gives term_of c.operand.result (Err c.in_err-of.field-0.0) _ c.operand.ensures.value c.in_err-of.ensures) c.from_residual.ensures.1;
}

pub link-returns-in_err-operator : goal.link-returns-in_err-operator
link-returns-in_err-operator t c = record { value = stops token_of link_of c.from_residual.result c.in_err-operator.field-0.0 _ _ (λ x e. rw e refl) c.in_err-operator.ensures.value c.from_residual.ensures.1 }

pub link-returns-in_err-right : goal.link-returns-in_err-right
link-returns-in_err-right t c = record { value = stops term_of link_of c.from_residual-in_err-right.result c.in_err-right.field-0.0 _ _ (λ x e. rw (c.in_ok-operator.ensures.value, e) refl) c.in_err-right.ensures.value c.from_residual-in_err-right.ensures.1 }

pub sides-returns-in_err-mark : goal.sides-returns-in_err-mark
sides-returns-in_err-mark t c = record { value = stops token_of sides_in c.from_residual.result c.in_err-mark.field-0.0 _ _ (λ x e. rw e refl) c.in_err-mark.ensures.value c.from_residual.ensures.1 }

pub sides-returns-in_err-yes : goal.sides-returns-in_err-yes
sides-returns-in_err-yes t c = record { value = stops term_of sides_in c.from_residual-in_err-yes.result c.in_err-yes.field-0.0 _ _ (λ x e. rw (c.in_ok-mark.ensures.value, e) refl) c.in_err-yes.ensures.value c.from_residual-in_err-yes.ensures.1 }

pub chosen-returns-in_err-test : goal.chosen-returns-in_err-test
chosen-returns-in_err-test t c = record {
  value =
      let read = rw c.in_err-test.ensures.err at c.sides.ensures.value in
      stops sides_in term_of c.from_residual.result c.in_err-test.field-0.0 _ _ (λ x e. rw e refl) read c.from_residual.ensures.1;
}

pub behind-returns-in_err-rest-clause-value : goal.behind-returns-in_err-rest-clause-value
behind-returns-in_err-rest-clause-value t c = stops token_of term_of c.from_residual.result c.in_err-rest.field-0.0 _ _ (λ x e. rw e refl) c.in_err-rest.ensures.value c.from_residual.ensures.1

pub linked-returns-in_err-first : goal.linked-returns-in_err-first
linked-returns-in_err-first t c = record {
  value =
      let read = rw c.in_err-first.ensures.err at c.some_links.ensures.value in
      stops some_links_in term_of c.from_residual.result c.in_err-first.field-0.0 _ _ (λ x e. rw e refl) read c.from_residual.ensures.1;
}

pub suffixed-returns-in_err-of : goal.suffixed-returns-in_err-of
suffixed-returns-in_err-of t c = record {
  value =
      let read = rw c.in_err-of.ensures.err at c.some_suffixes.ensures.value in
      stops some_suffixes_in term_of c.from_residual.result c.in_err-of.field-0.0 _ _ (λ x e. rw e refl) read c.from_residual.ensures.1;
}

pub suffix-returns-in_err-index : goal.suffix-returns-in_err-index
suffix-returns-in_err-index t c = record {
  value =
      let some = c.in-Some.ensures.some in
      rw (some.0, some.1)
      (made_stops term_of suffix_of (index_term c.in-Some.open.now) c.from_residual.result c.in_err-index.field-0.0 _
      (closed_gives term_of (has_class close_bracket_sign) c.expr.result (Err c.in_err-index.field-0.0) _ c.expr.ensures.value c.in_err-index.ensures) c.from_residual.ensures.1);
}

pub suffix-returns-in_err-dot : goal.suffix-returns-in_err-dot
suffix-returns-in_err-dot t c = record { value = stops token_of suffix_of c.from_residual-in_err-dot.result c.in_err-dot.field-0.0 _ _ (λ x e. rw (c.in_default.ensures.none, e) refl) c.in_err-dot.ensures.value c.from_residual-in_err-dot.ensures.1 }

pub suffix-returns-in_err-name : goal.suffix-returns-in_err-name
suffix-returns-in_err-name t c = record { value = stops token_of suffix_of c.from_residual-in_err-name.result c.in_err-name.field-0.0 _ _ (λ x e. rw (c.in_default.ensures.none, c.in_ok-dot.ensures.value, e) refl) c.in_err-name.ensures.value c.from_residual-in_err-name.ensures.1 }

pub called-returns-in_err-bytes-2 : goal.called-returns-in_err-bytes-2
called-returns-in_err-bytes-2 t c = record {
  value =
      let read = rw c.in_err-bytes-2.ensures.err at c.arguments.ensures.value in
      stops args_of term_of c.from_residual-in_err-bytes-2.result c.in_err-bytes-2.field-0.0 _ _ (λ x e. rw e refl) read c.from_residual-in_err-bytes-2.ensures.1;
}

pub named-returns-in_err-name : goal.named-returns-in_err-name
named-returns-in_err-name t c = record { value = stops token_of term_of c.from_residual.result c.in_err-name.field-0.0 _ _ (λ x e. rw e refl) c.in_err-name.ensures.value c.from_residual.ensures.1 }

pub bracket-returns-in_err-open : goal.bracket-returns-in_err-open
bracket-returns-in_err-open t c = record { value = stops token_of term_of c.from_residual.result c.in_err-open.field-0.0 _ _ (λ x e. rw e refl) c.in_err-open.ensures.value c.from_residual.ensures.1 }

pub arguments-returns-in_err-rest-clause-value : goal.arguments-returns-in_err-rest-clause-value
arguments-returns-in_err-rest-clause-value t c = stops token_of args_of c.from_residual.result c.in_err-rest.field-0.0 _ _ (λ x e. rw e refl) c.in_err-rest.ensures.value c.from_residual.ensures.1

pub range-returns-in_err-from : goal.range-returns-in_err-from
range-returns-in_err-from t c = record {
  value =
      let read = rw c.in_err-from.ensures.err at c.take.ensures.value in
      stops token_of term_of c.from_residual.result c.in_err-from.field-0.0 _ _ (λ x e. rw e refl) read c.from_residual.ensures.1;
}

pub expr-returns-in-Some-clause-rest : goal.expr-returns-in-Some-clause-rest
expr-returns-in-Some-clause-rest t c = given_shorter term_of (expr_read c.args.depth) (expr_shorter c.args.depth) c.args.tokens.now c.atom.result (expr-returns-in-Some-clause-value t c)

pub sides-returns : goal.sides-returns
sides-returns t c = record {
  value =
      with_gives term_of (λ (before : Bor Token × Expr) (no : Expr). sides_in (before, no)) _ c.behind.result c.with.result _ _
      (λ no us e. rw (c.in_ok-mark.ensures.value, c.in_ok-yes.ensures.value, e) refl) (λ x e. rw (c.in_ok-mark.ensures.value, c.in_ok-yes.ensures.value, e) refl)
      c.behind.ensures.value c.with.ensures.ok c.with.ensures.err;
}

pub suffix-returns-in-Some : goal.suffix-returns-in-Some
suffix-returns-in-Some t c = record {
  value =
      let some = c.in-Some.ensures.some in
      let read = closed_gives term_of (has_class close_bracket_sign) c.expr.result (Ok (c.in_ok-index.index, c.in_ok-index.rest)) _ c.expr.ensures.value c.in_ok-index.ensures in
      rw (some.0, some.1)
      (ap (λ (q : Read Token SyntaxFault Term). then_read q (λ x us. Ok (index_term c.in-Some.open.now x, us))) read
      ∙ ap (λ x. Ok (x, c.in_ok-index.rest.now)) (sym (index_made c.in-Some.open.now.place c.in_ok-index.index)));
}

pub primary-atom-requires : goal.primary-atom-requires
primary-atom-requires t c =
    let some = c.in-Some.ensures.some in
    literal_is_atom c.in-Some.token.now (literal_taken c.args.tokens.now c.in-Some.token.now c.in-Some.rest.now some.0 some.1).1

pub primary-returns-in-Some : goal.primary-returns-in-Some
primary-returns-in-Some t c = record {
  value =
      let some = c.in-Some.ensures.some in
      let taken = literal_taken c.args.tokens.now c.in-Some.token.now c.in-Some.rest.now some.0 some.1 in
      same_read term_of c.atom.result _ _
      (ap (primary_in c.args.depth) taken.0 ∙ literal_read (expr_read c.args.depth) (arg_in c.args.depth (expr_read c.args.depth)) c.in-Some.token.now c.in-Some.rest.now taken.1) c.atom.ensures;
}

pub paren-returns : goal.paren-returns
paren-returns t c = record {
  value =
      let read = closed_gives term_of (has_class close_parenthesis_sign) c.expr.result c.closed.result _ c.expr.ensures.value c.closed.ensures in
      let inner = boxed_gives term_of c.closed.result (Ok (c.in_ok-inner.inner, c.in_ok-inner.rest)) _ read c.in_ok-inner.ensures in
      rw c.in_ok-open.ensures.value (ap (λ (q : Read Token SyntaxFault Term). then_read q (λ x us. Ok (paren_term c.in_ok-open.open.now x, us))) inner
      ∙ ap (λ x. Ok (x, c.in_ok-inner.rest.now)) (sym (paren_made c.in_ok-open.open.now.place c.in_ok-inner.inner)));
}

pub bracket-returns : goal.bracket-returns
bracket-returns t c = record {
  value =
      let inside = optional_read (has_class_outside (close_bracket_sign ∷ [])) (sequence_read pair_of (expr_read c.args.depth) (rest_read (expr_read c.args.depth))) c.in_ok-open.rest.now in
      same_read term_of c.closed.result _ _ (rw c.in_ok-open.ensures.value (sym (closed_made (has_class close_bracket_sign) (bracket_term c.in_ok-open.open.now) inside)))
      (closed_gives term_of (has_class close_bracket_sign) c.inside.result c.closed.result _ c.inside.ensures.value c.closed.ensures);
}

pub inside-returns-in_err-first : goal.inside-returns-in_err-first
inside-returns-in_err-first t c = record { value = stops term_of term_of c.from_residual.result c.in_err-first.field-0.0 _ _ (λ x e. rw (sym c.if-not-is_before.ensures, e) refl) c.in_err-first.ensures.value c.from_residual.ensures.1 }

pub inside-returns : goal.inside-returns
inside-returns t c = record {
  value =
      same_read term_of c.filled.result _ _
      (rw (sym c.if-not-is_before.ensures, c.in_ok-first.ensures.value) (bracket_filled c.args.bracket.now (term_of c.in_ok-first.first) (rest_read (expr_read c.args.depth) c.in_ok-first.rest.now)))
      c.filled.ensures.value;
}

pub arguments-returns-clause-value : goal.arguments-returns-clause-value
arguments-returns-clause-value t c =
    same_read args_of c.closed.result _ _ (parenthesized (args_read (arg_in c.args.depth (expr_read c.args.depth))) c.args.tokens.now _ c.in_ok-rest.rest.now c.in_ok-rest.ensures.value)
    (closed_gives args_of (has_class close_parenthesis_sign) c.arg_list.result c.closed.result _ c.arg_list.ensures.value c.closed.ensures)

pub arguments-returns-clause-rest : goal.arguments-returns-clause-rest
arguments-returns-clause-rest t c = given_shorter args_of (in_parentheses (args_read (arg_in c.args.depth (expr_read c.args.depth)))) (arguments_shorter c.args.depth) c.args.tokens.now c.closed.result (arguments-returns-clause-value t c)

pub arg-returns-in_err-bytes-2 : goal.arg-returns-in_err-bytes-2
arg-returns-in_err-bytes-2 t c = record {
  value =
      let read = rw c.in_err-bytes-2.ensures.err at c.expr-2.ensures.value in
      same_read arg_of c.from_residual-in_err-bytes-2.result _ _ (arg_given c.args.depth c.args.tokens.now c.in-Some.name.now c.in-Some.rest.now c.if-depth-eq0.false c.in-Some.ensures.some)
      (made_stops term_of arg_of (named_argument_term c.in-Some.name.now) c.from_residual-in_err-bytes-2.result c.in_err-bytes-2.field-0.0 _ read c.from_residual-in_err-bytes-2.ensures.1);
}

pub arg-returns-in_err-value : goal.arg-returns-in_err-value
arg-returns-in_err-value t c = record {
  value =
      same_read arg_of c.from_residual.result _ _ (arg_positional c.args.depth c.args.tokens.now c.if-depth-eq0.false c.in_default.ensures.none)
      (made_stops term_of arg_of PositionalTerm c.from_residual.result c.in_err-value.field-0.0 _ c.in_err-value.ensures.value c.from_residual.ensures.1);
}

pub arg-returns-in_default : goal.arg-returns-in_default
arg-returns-in_default t c = record {
  value =
      arg_positional c.args.depth c.args.tokens.now c.if-depth-eq0.false c.in_default.ensures.none
      ∙ ap (λ (q : Read Token SyntaxFault Term). then_read q (λ x us. Ok (PositionalTerm x, us))) c.in_ok-value.ensures.value
      ∙ ap (λ x. Ok (x, c.in_ok-value.rest.now)) (sym (positional_made c.in_ok-value.value));
}
