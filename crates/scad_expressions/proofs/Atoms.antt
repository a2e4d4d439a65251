-- An atom with which nothing goes on is read as it is: as an operand, between operators and as an expression.
use Rattle.std.proofs.Common.{◌≡◌, ℕ, List, [], ◌∷◌, ◌++◌, Bool, true, false, not, cond, Ok, Err, Some, refl, sym, ap, ◌∙◌, nat_eq}
use Rattle.std.proofs.lemmas.Bool.{eqb-true}
use Rattle.scad_lexer.specs.declared.token.Token.{Token}
use Rattle.scad_ast.specs.Terms.{Term, NameTerm, ArgTerm}
use Rattle.scad_grammar.specs.declared.SyntaxFault.{SyntaxFault}
use Rattle.scad_grammar.specs.Classes.{numeral_class, text_class, true_word, false_word, undef_word, child_count_class, special_class, name_class, question_sign, open_parenthesis_sign, token_class, is_class_among, has_class_in, has_class, has_class_outside, bytes_of}
use Rattle.scad_grammar.specs.Faults.{TokenReader, token_read, fault_of, left_out_classes}
use Rattle.scad_grammar.specs.Grammar.{levels}
use Rattle.scad_grammar.specs.Reading.{Read, then_read, next_is, alternative_read}
use Rattle.scad_grammar.specs.Reads.{suffix_read, unary_read, chain_read, paren_read, bracket_read, name_read, primary_read, choice_read}
use Rattle.scad_expressions.specs.declared.class.Level.{Level}
use Rattle.scad_expressions.specs.Climbing.{climb_read}
use Rattle.scad_expressions.specs.TokenClasses.{classes_of_levels, binary_signs, unary_signs, suffix_signs, literals, atoms, continuations, operators_at, levels_below}
use Rattle.scad_expressions.specs.Views.{has_lone_atom, atom_of}
use Rattle.scad_expressions.proofs.lemmas.Given.{both_hold}
use Rattle.scad_expressions.proofs.Climbs.{chain_climbs, climbs_none, many_none, starts_apart, none_at, none_below}

module _ (us : List Token) (e : next_is (has_class_in continuations) us ≡ false) where
  no_choice : next_is (has_class question_sign) us ≡ false
  no_choice = (starts_apart (question_sign ∷ []) ((open_parenthesis_sign ∷ []) ++ (suffix_signs ++ binary_signs)) us e).0

  not_chosen : next_is (has_class_in ((open_parenthesis_sign ∷ []) ++ (suffix_signs ++ binary_signs))) us ≡ false
  not_chosen = (starts_apart (question_sign ∷ []) ((open_parenthesis_sign ∷ []) ++ (suffix_signs ++ binary_signs)) us e).1

  no_arguments : next_is (has_class open_parenthesis_sign) us ≡ false
  no_arguments = (starts_apart (open_parenthesis_sign ∷ []) (suffix_signs ++ binary_signs) us not_chosen).0

  not_called : next_is (has_class_in (suffix_signs ++ binary_signs)) us ≡ false
  not_called = (starts_apart (open_parenthesis_sign ∷ []) (suffix_signs ++ binary_signs) us not_chosen).1

  no_suffix : next_is (has_class_in suffix_signs) us ≡ false
  no_suffix = (starts_apart suffix_signs binary_signs us not_called).0

  no_operator : next_is (has_class_in binary_signs) us ≡ false
  no_operator = (starts_apart suffix_signs binary_signs us not_called).1

-- a class that is not the first of a list
not_first : (c : ℕ) (cs : List ℕ) (k : ℕ) → is_class_among (c ∷ []) k ≡ false → is_class_among (c ∷ cs) k ≡ is_class_among cs k
not_first c cs k e = go (nat_eq k c) e
  where
    go : (b : Bool) → cond b true false ≡ false → cond b true (is_class_among cs k) ≡ is_class_among cs k
    go true e = absurd (cc)
    go false e = refl

not_literal : (k : ℕ) → is_class_among (numeral_class ∷ []) k ≡ false → is_class_among (text_class ∷ []) k ≡ false → is_class_among (true_word ∷ []) k ≡ false → is_class_among (false_word ∷ []) k ≡ false
    → is_class_among (undef_word ∷ []) k ≡ false → is_class_among (child_count_class ∷ []) k ≡ false → is_class_among (special_class ∷ []) k ≡ false → is_class_among literals k ≡ false
not_literal k n x y z v w s =
    not_first numeral_class (text_class ∷ true_word ∷ false_word ∷ undef_word ∷ child_count_class ∷ special_class ∷ []) k n
    ∙ not_first text_class (true_word ∷ false_word ∷ undef_word ∷ child_count_class ∷ special_class ∷ []) k x
    ∙ not_first true_word (false_word ∷ undef_word ∷ child_count_class ∷ special_class ∷ []) k y
    ∙ not_first false_word (undef_word ∷ child_count_class ∷ special_class ∷ []) k z
    ∙ not_first undef_word (child_count_class ∷ special_class ∷ []) k v
    ∙ not_first child_count_class (special_class ∷ []) k w
    ∙ not_first special_class [] k s

not_atom : (k : ℕ) → is_class_among (numeral_class ∷ []) k ≡ false → is_class_among (text_class ∷ []) k ≡ false → is_class_among (true_word ∷ []) k ≡ false → is_class_among (false_word ∷ []) k ≡ false
    → is_class_among (undef_word ∷ []) k ≡ false → is_class_among (child_count_class ∷ []) k ≡ false → is_class_among (special_class ∷ []) k ≡ false → is_class_among (name_class ∷ []) k ≡ false → is_class_among atoms k ≡ false
not_atom k n x y z v w s g = not_first name_class literals k g ∙ not_literal k n x y z v w s

-- a literal is an atom
pub literal_is_atom : (t : Token) → has_class_in literals t ≡ true → has_class_in atoms t ≡ true
literal_is_atom t e = go (nat_eq (token_class t.kind) name_class)
  where
    go : (b : Bool) → cond b true (is_class_among literals (token_class t.kind)) ≡ true
    go true = refl
    go false = e

-- a literal that is taken from where one stands
pub literal_taken : (ts : List Token) (t : Token) (us : List Token) → next_is (has_class_in literals) ts ≡ true → token_read (has_class_in literals) ts ≡ Ok (t, us) → (ts ≡ t ∷ us) × (has_class_in literals t ≡ true)
literal_taken [] t us s e = absurd (cc)
literal_taken (y ∷ l) t us s e =
    let f : ◌≡◌ {A = Read Token SyntaxFault Token} (Ok (y, l)) (Ok (t, us)) = ap (λ b. cond b (Ok (y, l)) (Err (fault_of left_out_classes (Some y), y ∷ l))) (sym s) ∙ e in
    let g : ◌≡◌ {A = Token × List Token} (y, l) (t, us) = cc in
    (ap (λ (p : Token × List Token). p.0 ∷ p.1) g, ap (λ (p : Token × List Token). has_class_in literals p.0) (sym g) ∙ s)

-- a test that none of a list meets
abbrev Spares : (ℕ → Bool) → List ℕ → Type 0
Spares f [] = Unit {0}
Spares f (c ∷ cs) = (f c ≡ false) × Spares f cs

spared : (f : ℕ → Bool) (cs : List ℕ) (k : ℕ) → Spares f cs → is_class_among cs k ≡ true → f k ≡ false
spared f [] k h e = absurd (cc)
spared f (c ∷ cs) k h e = go (nat_eq k c) refl e (spared f cs k h.1)
  where
    go : (b : Bool) → nat_eq k c ≡ b → cond b true (is_class_among cs k) ≡ true → (is_class_among cs k ≡ true → f k ≡ false) → f k ≡ false
    go true g e more = ap f (eqb-true k c g) ∙ h.0
    go false g e more = more e

module _ (e : TokenReader Term) (a : TokenReader ArgTerm) (t : Token) (us : List Token) where
  -- one literal, or something else
  literal_or : (f : Token → Term) (b : Bool) (y : SyntaxFault × List Token) (other : Read Token SyntaxFault Term) (z : Term)
      → (b ≡ false → other ≡ Ok (z, us)) → cond b (then_read (cond {A = Read Token SyntaxFault Token} b (Ok (t, us)) (Err y)) (λ x ts. Ok (f x, ts))) other ≡ Ok (cond b (f t) z, us)
  literal_or f true y other z h = refl
  literal_or f false y other z h = h refl

  name_alone : has_class name_class t ≡ true → next_is (has_class open_parenthesis_sign) us ≡ false → name_read a (t ∷ us) ≡ Ok (NameTerm t.place (bytes_of t.kind), us)
  name_alone g h = rw (g, h) refl

  -- an atom is read as what it writes, where no arguments follow
  atom_read : has_class_in atoms t ≡ true → next_is (has_class open_parenthesis_sign) us ≡ false → primary_read e a (t ∷ us) ≡ Ok (atom_of t, us)
  atom_read atom alone =
      literal_or _ (has_class numeral_class t) _ _ _ (λ n. literal_or _ (has_class text_class t) _ _ _ (λ x. literal_or _ (has_class true_word t) _ _ _ (λ y.
      literal_or _ (has_class false_word t) _ _ _ (λ z. literal_or _ (has_class undef_word t) _ _ _ (λ v. literal_or _ (has_class child_count_class t) _ _ _ (λ w.
      literal_or _ (has_class special_class t) _ _ _ (λ s. last n x y z v w s (has_class name_class t) refl)))))))
    where
      last : has_class numeral_class t ≡ false → has_class text_class t ≡ false → has_class true_word t ≡ false → has_class false_word t ≡ false → has_class undef_word t ≡ false → has_class child_count_class t ≡ false → has_class special_class t ≡ false
          → (b : Bool) → has_class name_class t ≡ b → cond b (name_read a (t ∷ us)) (alternative_read (has_class open_parenthesis_sign) (paren_read e) (bracket_read e) (t ∷ us)) ≡ Ok (NameTerm t.place (bytes_of t.kind), us)
      last n x y z v w s true g = name_alone g alone
      last n x y z v w s false g =
          let none : true ≡ false = sym atom ∙ not_atom (token_class t.kind) n x y z v w s g in
          absurd (cc)

  -- a literal is read as what it writes
  pub literal_read : has_class_in literals t ≡ true → primary_read e a (t ∷ us) ≡ Ok (atom_of t, us)
  literal_read literal =
      literal_or _ (has_class numeral_class t) _ _ _ (λ n. literal_or _ (has_class text_class t) _ _ _ (λ x. literal_or _ (has_class true_word t) _ _ _ (λ y.
      literal_or _ (has_class false_word t) _ _ _ (λ z. literal_or _ (has_class undef_word t) _ _ _ (λ v. literal_or _ (has_class child_count_class t) _ _ _ (λ w.
      literal_or _ (has_class special_class t) _ _ _ (λ s. none n x y z v w s)))))))
    where
      none : has_class numeral_class t ≡ false → has_class text_class t ≡ false → has_class true_word t ≡ false → has_class false_word t ≡ false → has_class undef_word t ≡ false → has_class child_count_class t ≡ false → has_class special_class t ≡ false
          → alternative_read (has_class name_class) (name_read a) (alternative_read (has_class open_parenthesis_sign) (paren_read e) (bracket_read e)) (t ∷ us) ≡ Ok (NameTerm t.place (bytes_of t.kind), us)
      none n x y z v w s =
          let other : true ≡ false = sym literal ∙ not_literal (token_class t.kind) n x y z v w s in
          absurd (cc)

unsigned : (t : Token) → has_class_in atoms t ≡ true → has_class_in unary_signs t ≡ false
unsigned t = spared (is_class_among unary_signs) atoms (token_class t.kind) (refl, (refl, (refl, (refl, (refl, (refl, (refl, (refl, tt))))))))

-- what stands behind an atom alone does not go on with it
apart : (us : List Token) → next_is (has_class_outside continuations) us ≡ true → next_is (has_class_in continuations) us ≡ false
apart [] h = refl
apart (u ∷ us) h = go (has_class_in continuations u) h
  where
    go : (b : Bool) → not b ≡ true → b ≡ false
    go true h = absurd (cc)
    go false h = refl

module _ (e w : TokenReader Term) (a : TokenReader ArgTerm) (t : Token) (us : List Token) (h : has_lone_atom (t ∷ us) ≡ true) where
  atom : has_class_in atoms t ≡ true
  atom = (both_hold (has_class_in atoms t) (next_is (has_class_outside continuations) us) h).0

  ends : next_is (has_class_in continuations) us ≡ false
  ends = apart us (both_hold (has_class_in atoms t) (next_is (has_class_outside continuations) us) h).1

  pub atom_is_operand : unary_read e w (primary_read e a) (t ∷ us) ≡ Ok (atom_of t, us)
  atom_is_operand =
      rw (unsigned t atom, atom_read e a t us atom (no_arguments us ends), many_none (has_class_in suffix_signs) (suffix_read e) us (no_suffix us ends)) refl

  atom_is_chain : (ls : List (List ℕ)) → ((vs : List Token) → next_is (has_class_in binary_signs) vs ≡ false → next_is (has_class_in (classes_of_levels ls)) vs ≡ false)
      → chain_read ls (unary_read e w (primary_read e a)) (t ∷ us) ≡ Ok (atom_of t, us)
  atom_is_chain ls none =
      chain_climbs ls (unary_read e w (primary_read e a)) (t ∷ us)
      ∙ ap (λ q. then_read q (climb_read ls (unary_read e w (primary_read e a)))) atom_is_operand
      ∙ climbs_none ls (unary_read e w (primary_read e a)) (atom_of t) us (none us (no_operator us ends))

  pub atom_is_side : (level : Level) → chain_read (levels_below level) (unary_read e w (primary_read e a)) (t ∷ us) ≡ Ok (atom_of t, us)
  atom_is_side level = atom_is_chain (levels_below level) (λ vs g. none_below (operators_at level) (levels_below level) vs (none_at level vs g))

  pub atom_is_expression : choice_read e w (primary_read e a) (t ∷ us) ≡ Ok (atom_of t, us)
  atom_is_expression = rw (atom_is_chain levels (λ vs g. g), no_choice us ends) refl
