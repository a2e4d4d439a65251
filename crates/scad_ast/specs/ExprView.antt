-- The plain tree that an expression in memory stands for.
use Rattle.std.specs.Prelude.{List, ◌∷◌}
use Rattle.plain_text.specs.declared.place.Place.{Place}
use Rattle.scad_ast.specs.declared.expression.Expr.{Expr}
use Rattle.scad_ast.specs.declared.expression.Exprs.{Exprs}
use Rattle.scad_ast.specs.declared.expression.Postfix.{Postfix}
use Rattle.scad_ast.specs.declared.expression.Chain.{Chain}
use Rattle.scad_ast.specs.declared.expression.Link.{Link}
use Rattle.scad_ast.specs.declared.expression.Links.{Links}
use Rattle.scad_ast.specs.declared.expression.Suffix.{Suffix}
use Rattle.scad_ast.specs.declared.expression.Suffixes.{Suffixes}
use Rattle.scad_ast.specs.declared.expression.Arg.{Arg}
use Rattle.scad_ast.specs.declared.expression.Args.{Args}
use Rattle.scad_ast.specs.declared.expression.Arg.TheOpen.{Expr-F, Number, Text, Truth, Undef, ChildCount, Expr::Special as SpecialIn, Name, Call, Paren, List as ListIn, Range, SteppedRange, Postfix as PostfixIn, Unary, Chain as ChainIn, Choice, Exprs-F, Call-F, Range-F, SteppedRange-F, Postfix-F, Chain-F, Choice-F, Link-F, Links-F, Suffix-F, Index, Member, Suffixes-F, Arg-F, Named, Arg::Special as SpecialArg, Positional, Args-F}
use Rattle.scad_ast.specs.declared.expression.Arg.TheFolds.{fold-Expr, fold-Exprs, fold-Postfix, fold-Chain, fold-Link, fold-Links, fold-Suffix, fold-Suffixes, fold-Arg, fold-Args}
use Rattle.scad_ast.specs.Terms.{Term, NumberTerm, TextTerm, TruthTerm, UndefTerm, ChildCountTerm, SpecialTerm, NameTerm, CallTerm, ParenTerm, ListTerm, RangeTerm, SteppedRangeTerm, PostfixTerm, UnaryTerm, ChainTerm, ChoiceTerm, LinkTerm, SuffixTerm, IndexTerm, MemberTerm, ArgTerm, NamedTerm, SpecialArgTerm, PositionalTerm, terms_from, links_from, suffixes_from, args_from}

-- a form of several parts, by the place of its first token
abbrev pub Form : Type 0
Form = Place → Term

-- one layer of an expression, and of each of its parts, with what stands in it seen already
abbrev pub expr_step : Expr-F ArgTerm Term SuffixTerm (List ArgTerm) Form Form Form (List Term) LinkTerm (List LinkTerm) Form Form Form (List SuffixTerm) → Term
expr_step (Number at n) = NumberTerm at n
expr_step (Text at bytes) = TextTerm at bytes
expr_step (Truth at truth) = TruthTerm at truth
expr_step (Undef at) = UndefTerm at
expr_step (ChildCount at) = ChildCountTerm at
expr_step (SpecialIn at name) = SpecialTerm at name
expr_step (Name at name) = NameTerm at name
expr_step (Call at call) = call.value at
expr_step (Paren at inner) = ParenTerm at inner.value
expr_step (ListIn at items) = ListTerm at (terms_from items.value)
expr_step (Range at range) = range.value at
expr_step (SteppedRange at range) = range.value at
expr_step (PostfixIn at postfix) = postfix.value at
expr_step (Unary at op of) = UnaryTerm at op of.value
expr_step (ChainIn at chain) = chain.value at
expr_step (Choice at choice) = choice.value at

abbrev pub call_step : Call-F ArgTerm Term SuffixTerm (List ArgTerm) Form Form Form (List Term) LinkTerm (List LinkTerm) Form Form Form (List SuffixTerm) → Form
call_step call at = CallTerm at call.name (args_from call.args)

abbrev pub range_step : Range-F ArgTerm Term SuffixTerm (List ArgTerm) Form Form Form (List Term) LinkTerm (List LinkTerm) Form Form Form (List SuffixTerm) → Form
range_step range at = RangeTerm at range.from range.to

abbrev pub stepped_range_step : SteppedRange-F ArgTerm Term SuffixTerm (List ArgTerm) Form Form Form (List Term) LinkTerm (List LinkTerm) Form Form Form (List SuffixTerm) → Form
stepped_range_step range at = SteppedRangeTerm at range.from range.step range.to

abbrev pub postfix_step : Postfix-F ArgTerm Term SuffixTerm (List ArgTerm) Form Form Form (List Term) LinkTerm (List LinkTerm) Form Form Form (List SuffixTerm) → Form
postfix_step postfix at = PostfixTerm at postfix.of (suffixes_from postfix.suffixes)

abbrev pub chain_step : Chain-F ArgTerm Term SuffixTerm (List ArgTerm) Form Form Form (List Term) LinkTerm (List LinkTerm) Form Form Form (List SuffixTerm) → Form
chain_step chain at = ChainTerm at chain.first (links_from chain.links)

abbrev pub choice_step : Choice-F ArgTerm Term SuffixTerm (List ArgTerm) Form Form Form (List Term) LinkTerm (List LinkTerm) Form Form Form (List SuffixTerm) → Form
choice_step choice at = ChoiceTerm at choice.test choice.mark choice.yes choice.no

abbrev pub exprs_step : Exprs-F ArgTerm Term SuffixTerm (List ArgTerm) Form Form Form (List Term) LinkTerm (List LinkTerm) Form Form Form (List SuffixTerm) → List Term
exprs_step exprs = exprs.items.items

abbrev pub link_step : Link-F ArgTerm Term SuffixTerm (List ArgTerm) Form Form Form (List Term) LinkTerm (List LinkTerm) Form Form Form (List SuffixTerm) → LinkTerm
link_step link = record { op = link.op; at = link.place; right = link.right }

abbrev pub links_step : Links-F ArgTerm Term SuffixTerm (List ArgTerm) Form Form Form (List Term) LinkTerm (List LinkTerm) Form Form Form (List SuffixTerm) → List LinkTerm
links_step links = links.first ∷ links.more.items

abbrev pub suffix_step : Suffix-F ArgTerm Term SuffixTerm (List ArgTerm) Form Form Form (List Term) LinkTerm (List LinkTerm) Form Form Form (List SuffixTerm) → SuffixTerm
suffix_step (Index at index) = IndexTerm at index
suffix_step (Member at name name_at) = MemberTerm at name name_at

abbrev pub suffixes_step : Suffixes-F ArgTerm Term SuffixTerm (List ArgTerm) Form Form Form (List Term) LinkTerm (List LinkTerm) Form Form Form (List SuffixTerm) → List SuffixTerm
suffixes_step suffixes = suffixes.first ∷ suffixes.more.items

abbrev pub arg_step : Arg-F ArgTerm Term SuffixTerm (List ArgTerm) Form Form Form (List Term) LinkTerm (List LinkTerm) Form Form Form (List SuffixTerm) → ArgTerm
arg_step (Named at name value) = NamedTerm at name value
arg_step (SpecialArg at name value) = SpecialArgTerm at name value
arg_step (Positional value) = PositionalTerm value

abbrev pub args_step : Args-F ArgTerm Term SuffixTerm (List ArgTerm) Form Form Form (List Term) LinkTerm (List LinkTerm) Form Form Form (List SuffixTerm) → List ArgTerm
args_step args = args.items.items

-- what an expression stands for, and each of its parts
abbrev pub term_of : Expr → Term
term_of = fold-Expr ArgTerm Term SuffixTerm (List ArgTerm) Form Form Form (List Term) LinkTerm (List LinkTerm) Form Form Form (List SuffixTerm) arg_step expr_step suffix_step args_step call_step chain_step choice_step exprs_step link_step links_step postfix_step range_step stepped_range_step suffixes_step

abbrev pub terms_of : Exprs → List Term
terms_of = fold-Exprs ArgTerm Term SuffixTerm (List ArgTerm) Form Form Form (List Term) LinkTerm (List LinkTerm) Form Form Form (List SuffixTerm) arg_step expr_step suffix_step args_step call_step chain_step choice_step exprs_step link_step links_step postfix_step range_step stepped_range_step suffixes_step

abbrev pub link_of : Link → LinkTerm
link_of = fold-Link ArgTerm Term SuffixTerm (List ArgTerm) Form Form Form (List Term) LinkTerm (List LinkTerm) Form Form Form (List SuffixTerm) arg_step expr_step suffix_step args_step call_step chain_step choice_step exprs_step link_step links_step postfix_step range_step stepped_range_step suffixes_step

abbrev pub links_of : Links → List LinkTerm
links_of = fold-Links ArgTerm Term SuffixTerm (List ArgTerm) Form Form Form (List Term) LinkTerm (List LinkTerm) Form Form Form (List SuffixTerm) arg_step expr_step suffix_step args_step call_step chain_step choice_step exprs_step link_step links_step postfix_step range_step stepped_range_step suffixes_step

abbrev pub suffix_of : Suffix → SuffixTerm
suffix_of = fold-Suffix ArgTerm Term SuffixTerm (List ArgTerm) Form Form Form (List Term) LinkTerm (List LinkTerm) Form Form Form (List SuffixTerm) arg_step expr_step suffix_step args_step call_step chain_step choice_step exprs_step link_step links_step postfix_step range_step stepped_range_step suffixes_step

abbrev pub suffixes_of : Suffixes → List SuffixTerm
suffixes_of = fold-Suffixes ArgTerm Term SuffixTerm (List ArgTerm) Form Form Form (List Term) LinkTerm (List LinkTerm) Form Form Form (List SuffixTerm) arg_step expr_step suffix_step args_step call_step chain_step choice_step exprs_step link_step links_step postfix_step range_step stepped_range_step suffixes_step

abbrev pub arg_of : Arg → ArgTerm
arg_of = fold-Arg ArgTerm Term SuffixTerm (List ArgTerm) Form Form Form (List Term) LinkTerm (List LinkTerm) Form Form Form (List SuffixTerm) arg_step expr_step suffix_step args_step call_step chain_step choice_step exprs_step link_step links_step postfix_step range_step stepped_range_step suffixes_step

abbrev pub args_of : Args → List ArgTerm
args_of = fold-Args ArgTerm Term SuffixTerm (List ArgTerm) Form Form Form (List Term) LinkTerm (List LinkTerm) Form Form Form (List SuffixTerm) arg_step expr_step suffix_step args_step call_step chain_step choice_step exprs_step link_step links_step postfix_step range_step stepped_range_step suffixes_step

abbrev pub postfix_form_of : Postfix → Form
postfix_form_of = fold-Postfix ArgTerm Term SuffixTerm (List ArgTerm) Form Form Form (List Term) LinkTerm (List LinkTerm) Form Form Form (List SuffixTerm) arg_step expr_step suffix_step args_step call_step chain_step choice_step exprs_step link_step links_step postfix_step range_step stepped_range_step suffixes_step

abbrev pub chain_form_of : Chain → Form
chain_form_of = fold-Chain ArgTerm Term SuffixTerm (List ArgTerm) Form Form Form (List Term) LinkTerm (List LinkTerm) Form Form Form (List SuffixTerm) arg_step expr_step suffix_step args_step call_step chain_step choice_step exprs_step link_step links_step postfix_step range_step stepped_range_step suffixes_step
