-- What a tree tells of the tokens that write it: how deep each is. Only a comma behind a last item is not in the tree.
use Rattle.std.proofs.Common.{◌≡◌, ℕ, suc, List, [], ◌∷◌, ◌++◌, drop, map, Bool, true, false, cond, Option, Some, None, refl, sym, ap, ◌∙◌, append_assoc, append-nil}
use Rattle.scad_lexer.specs.declared.token.Token.{Token}
use Rattle.scad_ast.specs.Terms.{Term, NumberTerm, TextTerm, TruthTerm, UndefTerm, ChildCountTerm, SpecialTerm, NameTerm, CallTerm, ParenTerm, ListTerm, RangeTerm, SteppedRangeTerm, PostfixTerm, UnaryTerm, ChainTerm, ChoiceTerm, Terms, no_terms, and_term, ArgTerms, no_args, and_named, and_special, and_positional, SuffixTerms, no_suffixes, and_index, and_member, LinkTerms, no_links, and_link, LinkTerm, SuffixTerm, IndexTerm, MemberTerm, ArgTerm, NamedTerm, SpecialArgTerm, PositionalTerm, terms_from, links_from, suffixes_from, args_from, ParamTerm, PlainTerm, DefaultTerm, BinderTerm, ModifierTerm, StatementTerm, EmptyStatement, BlockStatement, AssignmentTerm, SpecialAssignmentTerm, ModuleTerm, FunctionTerm, InstanceStatement, StatementTerms, no_statements, and_statement, InstanceTerm, AnInstance, CoreTerm, IfTerm, IfElseTerm, ForTerm, IntersectionForTerm, ModuleCallTerm, BodyTerm, EmptyBody, BlockBody, InstanceBody, statements_from}
use Rattle.scad_grammar.specs.Classes.{comma_sign, for_word, special_class, has_class}
use Rattle.scad_grammar.specs.Grammar.{Rest, items, range, stepped_range, chain_term, choice_term, postfix_term, name_term, bracket_term, named_argument_term, param_term, instance_term, loop_term, if_term}

-- the depths of the first tokens, and what stands behind them
abbrev pub Taken : Type 0
Taken = List ℕ × List Token

abbrev pub Takes : Type 0
Takes = List Token → Taken

abbrev pub one : Takes
one ts = (0 ∷ [], drop 1 ts)

abbrev pub none : Takes
none ts = ([], ts)

abbrev pub and_then : Takes → Takes → Takes
and_then f g ts = ((f ts).0 ++ (g (f ts).1).0, (g (f ts).1).1)

abbrev pub deep : Takes → Takes
deep f ts = (map suc (f ts).0, (f ts).1)

-- a comma, where one stands
abbrev pub last_comma : Takes
last_comma [] = ([], [])
last_comma (t ∷ ts) = cond (has_class comma_sign t) (0 ∷ [], ts) ([], t ∷ ts)

abbrev pub in_pair : Takes → Takes
in_pair f = and_then one (and_then (deep f) one)

abbrev pub each : {A : Type 0} → (A → Takes) → List A → Takes
each w [] = none
each w (x ∷ xs) = and_then (w x) (each w xs)

abbrev pub perhaps : {A : Type 0} → (A → Takes) → Option A → Takes
perhaps w None = none
perhaps w (Some x) = w x

abbrev pub more : {A : Type 0} → (A → Takes) → A → Takes
more w x = and_then one (w x)

abbrev pub items_taken : {A : Type 0} → (A → Takes) → List A → Takes
items_taken w [] = none
items_taken w (x ∷ xs) = and_then (w x) (each (more w) xs)

abbrev pub separated : {A : Type 0} → (A → Takes) → List A → Takes
separated w xs = and_then (items_taken w xs) last_comma

-- expressions
abbrev mutual
  pub term : Term → Takes
  term (NumberTerm at n) = one
  term (TextTerm at bytes) = one
  term (TruthTerm at truth) = one
  term (UndefTerm at) = one
  term (ChildCountTerm at) = one
  term (SpecialTerm at called) = one
  term (NameTerm at called) = one
  term (CallTerm at called args) = and_then one (in_pair (arguments args))
  term (ParenTerm at inner) = in_pair (term inner)
  term (ListTerm at inner) = in_pair (listed_terms inner)
  term (RangeTerm at from to) = in_pair (and_then (term from) (and_then one (term to)))
  term (SteppedRangeTerm at from step to) = in_pair (and_then (term from) (and_then one (and_then (term step) (and_then one (term to)))))
  term (PostfixTerm at of rest) = and_then (term of) (suffixes rest)
  term (UnaryTerm at op of) = and_then one (deep (term of))
  term (ChainTerm at first rest) = and_then (term first) (links rest)
  term (ChoiceTerm at test mark chosen other) = and_then (term test) (and_then one (and_then (deep (term chosen)) (and_then one (deep (term other)))))

  pub listed_terms : Terms → Takes
  listed_terms no_terms = none
  listed_terms (and_term x xs) = and_then (term x) (more_terms xs)

  pub more_terms : Terms → Takes
  more_terms no_terms = last_comma
  more_terms (and_term x xs) = and_then (and_then one (term x)) (more_terms xs)

  pub arguments : ArgTerms → Takes
  arguments no_args = last_comma
  arguments (and_named at called x xs) = and_then (and_then one (and_then one (term x))) (more_arguments xs)
  arguments (and_special at called x xs) = and_then (and_then one (and_then one (term x))) (more_arguments xs)
  arguments (and_positional x xs) = and_then (term x) (more_arguments xs)

  pub more_arguments : ArgTerms → Takes
  more_arguments no_args = last_comma
  more_arguments (and_named at called x xs) = and_then (and_then one (and_then one (and_then one (term x)))) (more_arguments xs)
  more_arguments (and_special at called x xs) = and_then (and_then one (and_then one (and_then one (term x)))) (more_arguments xs)
  more_arguments (and_positional x xs) = and_then (and_then one (term x)) (more_arguments xs)

  pub suffixes : SuffixTerms → Takes
  suffixes no_suffixes = none
  suffixes (and_index at x xs) = and_then (in_pair (term x)) (suffixes xs)
  suffixes (and_member at called name_at xs) = and_then (and_then one one) (suffixes xs)

  pub links : LinkTerms → Takes
  links no_links = none
  links (and_link op at x xs) = and_then (and_then one (term x)) (links xs)

abbrev pub link_taken : LinkTerm → Takes
link_taken l = and_then one (term l.right)

abbrev pub suffix_taken : SuffixTerm → Takes
suffix_taken (IndexTerm at x) = in_pair (term x)
suffix_taken (MemberTerm at called name_at) = and_then one one

abbrev pub argument : ArgTerm → Takes
argument (NamedTerm at called x) = and_then one (and_then one (term x))
argument (SpecialArgTerm at called x) = and_then one (and_then one (term x))
argument (PositionalTerm x) = term x

abbrev pub rest_taken : Rest → Takes
rest_taken (items xs) = and_then (each (more term) xs) last_comma
rest_taken (range to) = and_then one (term to)
rest_taken (stepped_range step to) = and_then one (and_then (term step) (and_then one (term to)))

-- behind the colon of a range
abbrev pub range_taken : Rest → Takes
range_taken (items xs) = none
range_taken (range to) = term to
range_taken (stepped_range step to) = and_then (term step) (and_then one (term to))

abbrev pub parameter : ParamTerm → Takes
parameter (PlainTerm at called) = one
parameter (DefaultTerm at called x) = and_then one (and_then one (term x))

abbrev pub binder : BinderTerm → Takes
binder b = and_then one (and_then one (term b.values))

-- statements
abbrev mutual
  pub statement : StatementTerm → Takes
  statement (EmptyStatement at) = one
  statement (BlockStatement at ss) = in_pair (statements ss)
  statement (AssignmentTerm at called x) = and_then one (and_then one (and_then (term x) one))
  statement (SpecialAssignmentTerm at called x) = and_then one (and_then one (and_then (term x) one))
  statement (ModuleTerm at called name_at params b) = and_then one (and_then one (and_then (in_pair (separated parameter params)) (deep (body b))))
  statement (FunctionTerm at called name_at params x) = and_then one (and_then one (and_then (in_pair (separated parameter params)) (and_then one (and_then (term x) one))))
  statement (InstanceStatement i) = instance i

  pub statements : StatementTerms → Takes
  statements no_statements = none
  statements (and_statement s ss) = and_then (statement s) (statements ss)

  pub instance : InstanceTerm → Takes
  instance (AnInstance at modifiers c) = and_then (each (λ m. one) modifiers) (core c)

  pub core : CoreTerm → Takes
  core (IfTerm at test b) = and_then one (and_then (in_pair (term test)) (deep (body b)))
  core (IfElseTerm at test b other) = and_then (and_then one (and_then (in_pair (term test)) (deep (body b)))) (and_then one (deep (body other)))
  core (ForTerm at binders b) = and_then one (and_then (in_pair (separated binder binders)) (deep (body b)))
  core (IntersectionForTerm at binders b) = and_then one (and_then (in_pair (separated binder binders)) (deep (body b)))
  core (ModuleCallTerm at called args b) = and_then one (and_then (in_pair (separated argument args)) (deep (body b)))

  pub body : BodyTerm → Takes
  body (EmptyBody at) = one
  body (BlockBody at ss) = in_pair (statements ss)
  body (InstanceBody i) = instance i

-- laws of these
same_front : (f g h : Takes) → ((ts : List Token) → g ts ≡ h ts) → (ts : List Token) → and_then f g ts ≡ and_then f h ts
same_front f g h e ts = ap (λ (u : Taken). ((f ts).0 ++ u.0, u.1)) (e (f ts).1)

grouped : (f g h : Takes) (ts : List Token) → and_then (and_then f g) h ts ≡ and_then f (and_then g h) ts
grouped f g h ts =
    let x = (f ts).0 in
    let y = (g (f ts).1).0 in
    let z = h (g (f ts).1).1 in
    ap (λ (l : List ℕ). (l, z.1)) (append_assoc x y z.0)

then_none : (f : Takes) (ts : List Token) → f ts ≡ and_then f none ts
then_none f ts = ap (λ (l : List ℕ). (l, (f ts).1)) (sym (append-nil (f ts).0))

pub same_pair : (f g : Takes) → ((ts : List Token) → f ts ≡ g ts) → (ts : List Token) → in_pair f ts ≡ in_pair g ts
same_pair f g e ts = ap (λ (u : Taken). ((0 ∷ []) ++ (map suc u.0 ++ (0 ∷ [])), drop 1 u.1)) (e (drop 1 ts))

-- of lists in trees
links_taken : (ls : List LinkTerm) (ts : List Token) → links (links_from ls) ts ≡ each link_taken ls ts
links_taken [] ts = refl
links_taken (l ∷ ls) ts = same_front (link_taken l) (links (links_from ls)) (each link_taken ls) (links_taken ls) ts

suffixes_taken : (ss : List SuffixTerm) (ts : List Token) → suffixes (suffixes_from ss) ts ≡ each suffix_taken ss ts
suffixes_taken [] ts = refl
suffixes_taken (IndexTerm at x ∷ ss) ts = same_front (in_pair (term x)) (suffixes (suffixes_from ss)) (each suffix_taken ss) (suffixes_taken ss) ts
suffixes_taken (MemberTerm at called name_at ∷ ss) ts = same_front (and_then one one) (suffixes (suffixes_from ss)) (each suffix_taken ss) (suffixes_taken ss) ts

terms_taken : (xs : List Term) (ts : List Token) → more_terms (terms_from xs) ts ≡ and_then (each (more term) xs) last_comma ts
terms_taken [] ts = refl
terms_taken (x ∷ xs) ts =
    same_front (more term x) (more_terms (terms_from xs)) (and_then (each (more term) xs) last_comma) (terms_taken xs) ts
    ∙ sym (grouped (more term x) (each (more term) xs) last_comma ts)

arguments_more : (xs : List ArgTerm) (ts : List Token) → more_arguments (args_from xs) ts ≡ and_then (each (more argument) xs) last_comma ts
arguments_more [] ts = refl
arguments_more (NamedTerm at called x ∷ xs) ts = let a = NamedTerm at called x in
    same_front (more argument a) (more_arguments (args_from xs)) (and_then (each (more argument) xs) last_comma) (arguments_more xs) ts
    ∙ sym (grouped (more argument a) (each (more argument) xs) last_comma ts)
arguments_more (SpecialArgTerm at called x ∷ xs) ts = let a = SpecialArgTerm at called x in
    same_front (more argument a) (more_arguments (args_from xs)) (and_then (each (more argument) xs) last_comma) (arguments_more xs) ts
    ∙ sym (grouped (more argument a) (each (more argument) xs) last_comma ts)
arguments_more (PositionalTerm x ∷ xs) ts = let a = PositionalTerm x in
    same_front (more argument a) (more_arguments (args_from xs)) (and_then (each (more argument) xs) last_comma) (arguments_more xs) ts
    ∙ sym (grouped (more argument a) (each (more argument) xs) last_comma ts)

arguments_first : (a : ArgTerm) (xs : List ArgTerm) (ts : List Token) → arguments (args_from (a ∷ xs)) ts ≡ and_then (argument a) (more_arguments (args_from xs)) ts
arguments_first (NamedTerm at called x) xs ts = refl
arguments_first (SpecialArgTerm at called x) xs ts = refl
arguments_first (PositionalTerm x) xs ts = refl

arguments_taken : (xs : List ArgTerm) (ts : List Token) → arguments (args_from xs) ts ≡ separated argument xs ts
arguments_taken [] ts = refl
arguments_taken (a ∷ xs) ts =
    arguments_first a xs ts
    ∙ same_front (argument a) (more_arguments (args_from xs)) (and_then (each (more argument) xs) last_comma) (arguments_more xs) ts
    ∙ sym (grouped (argument a) (each (more argument) xs) last_comma ts)

pub statements_taken : (ss : List StatementTerm) (ts : List Token) → statements (statements_from ss) ts ≡ each statement ss ts
statements_taken [] ts = refl
statements_taken (s ∷ ss) ts = same_front (statement s) (statements (statements_from ss)) (each statement ss) (statements_taken ss) ts

-- of what productions make
pub chain_taken : (x : Term) (ls : List LinkTerm) (ts : List Token) → term (chain_term x ls) ts ≡ and_then (term x) (each link_taken ls) ts
chain_taken x [] ts = then_none (term x) ts
chain_taken x (l ∷ ls) ts = same_front (term x) (links (links_from (l ∷ ls))) (each link_taken (l ∷ ls)) (links_taken (l ∷ ls)) ts

pub postfix_taken : (x : Term) (ss : List SuffixTerm) (ts : List Token) → term (postfix_term x ss) ts ≡ and_then (term x) (each suffix_taken ss) ts
postfix_taken x [] ts = then_none (term x) ts
postfix_taken x (s ∷ ss) ts = same_front (term x) (suffixes (suffixes_from (s ∷ ss))) (each suffix_taken (s ∷ ss)) (suffixes_taken (s ∷ ss)) ts

abbrev pub sides : Token × (Term × Term) → Takes
sides p = and_then one (and_then (deep (term p.1.0)) (and_then one (deep (term p.1.1))))

pub choice_taken : (x : Term) (o : Option (Token × (Term × Term))) (ts : List Token) → term (choice_term x o) ts ≡ and_then (term x) (perhaps sides o) ts
choice_taken x None ts = then_none (term x) ts
choice_taken x (Some p) ts = refl

pub named_taken : (t : Token) (o : Option (List ArgTerm)) (ts : List Token) → term (name_term t o) ts ≡ and_then one (perhaps (λ xs. in_pair (separated argument xs)) o) ts
named_taken t None ts = refl
named_taken t (Some xs) ts = same_front one (in_pair (arguments (args_from xs))) (in_pair (separated argument xs)) (same_pair (arguments (args_from xs)) (separated argument xs) (arguments_taken xs)) ts

abbrev pub inner_taken : Option (Term × Rest) → Takes
inner_taken = perhaps (λ p. and_then (term p.0) (rest_taken p.1))

pub bracket_taken : (t : Token) (o : Option (Term × Rest)) (ts : List Token) → term (bracket_term t o) ts ≡ in_pair (inner_taken o) ts
bracket_taken t None ts = refl
bracket_taken t (Some (x, items xs)) ts =
    same_pair (listed_terms (terms_from (x ∷ xs))) (and_then (term x) (and_then (each (more term) xs) last_comma))
    (same_front (term x) (more_terms (terms_from xs)) (and_then (each (more term) xs) last_comma) (terms_taken xs)) ts
bracket_taken t (Some (x, range to)) ts = refl
bracket_taken t (Some (x, stepped_range step to)) ts = refl

pub given_taken : (t : Token) (x : Term) (ts : List Token) → argument (named_argument_term t x) ts ≡ and_then one (and_then one (term x)) ts
given_taken t x ts = go (has_class special_class t) refl
  where
    go : (b : Bool) → has_class special_class t ≡ b → argument (named_argument_term t x) ts ≡ and_then one (and_then one (term x)) ts
    go true e = rw e refl
    go false e = rw e refl

pub parameter_taken : (t : Token) (o : Option Term) (ts : List Token) → parameter (param_term t o) ts ≡ and_then one (perhaps (λ x. and_then one (term x)) o) ts
parameter_taken t None ts = refl
parameter_taken t (Some x) ts = refl

pub instance_taken : (ms : List ModifierTerm) (c : CoreTerm) (ts : List Token) → instance (instance_term ms c) ts ≡ and_then (each (λ m. one) ms) (core c) ts
instance_taken [] c ts = refl
instance_taken (m ∷ ms) c ts = refl

abbrev pub tested : Token × (Term × BodyTerm) → Takes
tested p = and_then one (and_then (in_pair (term p.1.0)) (deep (body p.1.1)))

pub if_taken : (p : Token × (Term × BodyTerm)) (o : Option BodyTerm) (ts : List Token) → core (if_term p o) ts ≡ and_then (tested p) (perhaps (λ b. and_then one (deep (body b))) o) ts
if_taken p None ts = then_none (tested p) ts
if_taken p (Some b) ts = refl

pub loop_taken : (t : Token) (p : List BinderTerm × BodyTerm) (ts : List Token) → core (loop_term t p) ts ≡ and_then one (and_then (in_pair (separated binder p.0)) (deep (body p.1))) ts
loop_taken t p ts = go (has_class for_word t) refl
  where
    go : (b : Bool) → has_class for_word t ≡ b → core (loop_term t p) ts ≡ and_then one (and_then (in_pair (separated binder p.0)) (deep (body p.1))) ts
    go true e = rw e refl
    go false e = rw e refl
