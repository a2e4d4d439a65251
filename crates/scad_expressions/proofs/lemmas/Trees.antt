-- What lists, chains and postfixes of the syntax in memory stand for.
use Rattle.std.proofs.Common.{◌≡◌, ◌∙◌, List, ◌∷◌, map, ap, sym, Vec, Global}
use Rattle.std.specs.declared.boxed.Box.{Box}
use Rattle.plain_text.specs.declared.place.Place.{Place}
use Rattle.scad_ast.specs.declared.expression.Expr.{Expr, Paren as ParenForm, Chain as ChainForm, Postfix as PostfixForm}
use Rattle.scad_ast.specs.declared.expression.Expr.TheVariants.{rolls-Paren, rolls-Chain, rolls-Postfix}
use Rattle.scad_ast.specs.declared.expression.Exprs.{Exprs, roll-Exprs}
use Rattle.scad_ast.specs.declared.expression.Call.{Call}
use Rattle.scad_ast.specs.declared.expression.Range.{Range}
use Rattle.scad_ast.specs.declared.expression.SteppedRange.{SteppedRange}
use Rattle.scad_ast.specs.declared.expression.Postfix.{Postfix, roll-Postfix}
use Rattle.scad_ast.specs.declared.expression.Chain.{Chain, roll-Chain}
use Rattle.scad_ast.specs.declared.expression.Choice.{Choice}
use Rattle.scad_ast.specs.declared.expression.Link.{Link}
use Rattle.scad_ast.specs.declared.expression.Links.{Links, roll-Links}
use Rattle.scad_ast.specs.declared.expression.Suffix.{Suffix, Index}
use Rattle.scad_ast.specs.declared.expression.Suffix.TheVariants.{rolls-Index}
use Rattle.scad_ast.specs.declared.expression.Suffixes.{Suffixes, roll-Suffixes}
use Rattle.scad_ast.specs.declared.expression.Arg.{Arg, Positional}
use Rattle.scad_ast.specs.declared.expression.Arg.TheVariants.{rolls-Positional}
use Rattle.scad_ast.specs.declared.expression.Args.{Args, roll-Args}
use Rattle.scad_ast.specs.declared.expression.Arg.TheOpen.{Positional as PositionalIn, Index as IndexIn, Paren as ParenIn, Chain as ChainIn, Postfix as PostfixIn, Exprs-F, Links-F, Suffixes-F, Args-F}
use Rattle.scad_ast.specs.declared.expression.Arg.TheFolds.{fold-roll-Arg, fold-roll-Suffix, fold-roll-Expr, fold-roll-Chain, fold-roll-Postfix, fold-roll-Exprs, fold-roll-Links, fold-roll-Suffixes, fold-roll-Args}
use Rattle.scad_ast.specs.declared.statement.Statement.{Statement}
use Rattle.scad_ast.specs.declared.statement.Statements.{Statements, roll-Statements}
use Rattle.scad_ast.specs.declared.statement.Instance.{Instance}
use Rattle.scad_ast.specs.declared.statement.Core.{Core}
use Rattle.scad_ast.specs.declared.statement.Body.{Body}
use Rattle.scad_ast.specs.declared.statement.Body.TheOpen.{Statements-F}
use Rattle.scad_ast.specs.declared.statement.Body.TheFolds.{fold-roll-Statements}
use Rattle.scad_ast.specs.Terms.{Term, ParenTerm, PositionalTerm, IndexTerm, ChainTerm, PostfixTerm, links_from, suffixes_from, ArgTerm, LinkTerm, SuffixTerm, StatementTerm, InstanceTerm, CoreTerm, BodyTerm}
use Rattle.scad_ast.specs.ExprView.{Form, arg_step, expr_step, suffix_step, args_step, call_step, chain_step, choice_step, exprs_step, link_step, links_step, postfix_step, range_step, stepped_range_step, suffixes_step, term_of, chain_form_of, postfix_form_of, terms_of, link_of, links_of, suffix_of, suffixes_of, arg_of, args_of}
use Rattle.scad_ast.specs.StatementView.{body_step, core_step, statement_step, instance_step, statements_step, statement_of, statements_of}

pub terms_roll : (es : Exprs-F Arg Expr Suffix Args Call Chain Choice Exprs Link Links Postfix Range SteppedRange Suffixes) → terms_of (roll-Exprs es) ≡ map term_of es.items.items
terms_roll = fold-roll-Exprs ArgTerm Term SuffixTerm (List ArgTerm) Form Form Form (List Term) LinkTerm (List LinkTerm) Form Form Form (List SuffixTerm) arg_step expr_step suffix_step args_step call_step chain_step choice_step exprs_step link_step links_step postfix_step range_step stepped_range_step suffixes_step

pub links_roll : (ls : Links-F Arg Expr Suffix Args Call Chain Choice Exprs Link Links Postfix Range SteppedRange Suffixes) → links_of (roll-Links ls) ≡ link_of ls.first ∷ map link_of ls.more.items
links_roll = fold-roll-Links ArgTerm Term SuffixTerm (List ArgTerm) Form Form Form (List Term) LinkTerm (List LinkTerm) Form Form Form (List SuffixTerm) arg_step expr_step suffix_step args_step call_step chain_step choice_step exprs_step link_step links_step postfix_step range_step stepped_range_step suffixes_step

pub suffixes_roll : (ss : Suffixes-F Arg Expr Suffix Args Call Chain Choice Exprs Link Links Postfix Range SteppedRange Suffixes) → suffixes_of (roll-Suffixes ss) ≡ suffix_of ss.first ∷ map suffix_of ss.more.items
suffixes_roll = fold-roll-Suffixes ArgTerm Term SuffixTerm (List ArgTerm) Form Form Form (List Term) LinkTerm (List LinkTerm) Form Form Form (List SuffixTerm) arg_step expr_step suffix_step args_step call_step chain_step choice_step exprs_step link_step links_step postfix_step range_step stepped_range_step suffixes_step

-- an argument and an index by their expressions, and an expression in parentheses
pub positional_made : (value : Expr) → arg_of (Positional value) ≡ PositionalTerm (term_of value)
positional_made value = ap arg_of (sym (rolls-Positional value)) ∙ fold-roll-Arg ArgTerm Term SuffixTerm (List ArgTerm) Form Form Form (List Term) LinkTerm (List LinkTerm) Form Form Form (List SuffixTerm) arg_step expr_step suffix_step args_step call_step chain_step choice_step exprs_step link_step links_step postfix_step range_step stepped_range_step suffixes_step (PositionalIn value)

pub index_made : (at : Place) (index : Expr) → suffix_of (Index at index) ≡ IndexTerm at (term_of index)
index_made at index = ap suffix_of (sym (rolls-Index at index)) ∙ fold-roll-Suffix ArgTerm Term SuffixTerm (List ArgTerm) Form Form Form (List Term) LinkTerm (List LinkTerm) Form Form Form (List SuffixTerm) arg_step expr_step suffix_step args_step call_step chain_step choice_step exprs_step link_step links_step postfix_step range_step stepped_range_step suffixes_step (IndexIn at index)

pub paren_made : (at : Place) (inner : Box Expr Global) → term_of (ParenForm at inner) ≡ ParenTerm at (term_of inner.value)
paren_made at inner = ap term_of (sym (rolls-Paren at inner)) ∙ fold-roll-Expr ArgTerm Term SuffixTerm (List ArgTerm) Form Form Form (List Term) LinkTerm (List LinkTerm) Form Form Form (List SuffixTerm) arg_step expr_step suffix_step args_step call_step chain_step choice_step exprs_step link_step links_step postfix_step range_step stepped_range_step suffixes_step (ParenIn at inner)

-- a chain and a postfix, by what their box holds
pub chain_made : (at : Place) (chain : Box Chain Global) (first : Expr) (next : Link) (more : Vec Link Global)
    → chain.value ≡ roll-Chain (record { first = first; links = roll-Links (record { first = next; more = more }) })
    → term_of (ChainForm at chain) ≡ ChainTerm at (term_of first) (links_from (link_of next ∷ map link_of more.items))
chain_made at chain first next more e =
    ap term_of (sym (rolls-Chain at chain)) ∙ fold-roll-Expr ArgTerm Term SuffixTerm (List ArgTerm) Form Form Form (List Term) LinkTerm (List LinkTerm) Form Form Form (List SuffixTerm) arg_step expr_step suffix_step args_step call_step chain_step choice_step exprs_step link_step links_step postfix_step range_step stepped_range_step suffixes_step (ChainIn at chain)
    ∙ ap (λ c. chain_form_of c at) e
    ∙ ap (λ form. form at) (fold-roll-Chain ArgTerm Term SuffixTerm (List ArgTerm) Form Form Form (List Term) LinkTerm (List LinkTerm) Form Form Form (List SuffixTerm) arg_step expr_step suffix_step args_step call_step chain_step choice_step exprs_step link_step links_step postfix_step range_step stepped_range_step suffixes_step (record { first = first; links = roll-Links (record { first = next; more = more }) }))
    ∙ ap (λ links. ChainTerm at (term_of first) (links_from links)) (links_roll (record { first = next; more = more }))

pub postfix_made : (at : Place) (postfix : Box Postfix Global) (of : Expr) (next : Suffix) (more : Vec Suffix Global)
    → postfix.value ≡ roll-Postfix (record { of = of; suffixes = roll-Suffixes (record { first = next; more = more }) })
    → term_of (PostfixForm at postfix) ≡ PostfixTerm at (term_of of) (suffixes_from (suffix_of next ∷ map suffix_of more.items))
postfix_made at postfix of next more e =
    ap term_of (sym (rolls-Postfix at postfix)) ∙ fold-roll-Expr ArgTerm Term SuffixTerm (List ArgTerm) Form Form Form (List Term) LinkTerm (List LinkTerm) Form Form Form (List SuffixTerm) arg_step expr_step suffix_step args_step call_step chain_step choice_step exprs_step link_step links_step postfix_step range_step stepped_range_step suffixes_step (PostfixIn at postfix)
    ∙ ap (λ p. postfix_form_of p at) e
    ∙ ap (λ form. form at) (fold-roll-Postfix ArgTerm Term SuffixTerm (List ArgTerm) Form Form Form (List Term) LinkTerm (List LinkTerm) Form Form Form (List SuffixTerm) arg_step expr_step suffix_step args_step call_step chain_step choice_step exprs_step link_step links_step postfix_step range_step stepped_range_step suffixes_step (record { of = of; suffixes = roll-Suffixes (record { first = next; more = more }) }))
    ∙ ap (λ suffixes. PostfixTerm at (term_of of) (suffixes_from suffixes)) (suffixes_roll (record { first = next; more = more }))

pub args_roll : (xs : Args-F Arg Expr Suffix Args Call Chain Choice Exprs Link Links Postfix Range SteppedRange Suffixes) → args_of (roll-Args xs) ≡ map arg_of xs.items.items
args_roll = fold-roll-Args ArgTerm Term SuffixTerm (List ArgTerm) Form Form Form (List Term) LinkTerm (List LinkTerm) Form Form Form (List SuffixTerm) arg_step expr_step suffix_step args_step call_step chain_step choice_step exprs_step link_step links_step postfix_step range_step stepped_range_step suffixes_step

pub statements_roll : (ss : Statements-F Body Core Statement Instance Statements) → statements_of (roll-Statements ss) ≡ map statement_of ss.items.items
statements_roll = fold-roll-Statements BodyTerm CoreTerm StatementTerm InstanceTerm (List StatementTerm) body_step core_step statement_step instance_step statements_step
