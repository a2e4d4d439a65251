-- What the parser's functions give, in the words of the grammar.
use Rattle.std.specs.Prelude.{◌≡◌, ℕ, List, [], ◌∷◌, Bool, true, false, cond, Result, Ok, Err, Option, Some, None, ◌&&◌}
use Rattle.std.specs.Borrow.{Bor}
use Rattle.std.specs.Global.{Box}
use Rattle.scad_lexer.specs.declared.token.Token.{Token}
use Rattle.scad_ast.specs.Terms.{Term, NumberTerm, TextTerm, TruthTerm, UndefTerm, ChildCountTerm, SpecialTerm, NameTerm}
use Rattle.scad_grammar.specs.declared.SyntaxFault.{SyntaxFault}
use Rattle.scad_grammar.specs.declared.SyntaxFault.TheVariants.{Nested}
use Rattle.scad_grammar.specs.Classes.{numeral_class, text_class, true_word, false_word, undef_word, child_count_class, special_class, comma_sign, assign_sign, has_class_in, has_class, has_class_outside, numeral_value, bytes_of}
use Rattle.scad_grammar.specs.Faults.{fault_of, token_read}
use Rattle.scad_grammar.specs.Reading.{Read, then_read, next_is}
use Rattle.scad_grammar.specs.Reads.{head_of}
use Rattle.scad_expressions.specs.TokenClasses.{atoms, continuations}
use Rattle.scad_expressions.specs.declared.next.Stopped.{Stopped}
use Rattle.scad_expressions.specs.declared.next.Stopped.TheVariants.{Fault, NoMemory}

-- what was read, or the fault and the tokens from where it stands, unless memory ran out
abbrev pub GivesRead : {A X : Type 0} → (A → X × List Token) → Result A Stopped → Read Token SyntaxFault X → Type 0
GivesRead view (Ok x) read = read ≡ Ok (view x)
GivesRead view (Err (Fault fault at)) read = read ≡ Err (fault, at.now)
GivesRead view (Err NoMemory) read = Unit {0}

-- this fault at these tokens
abbrev pub IsStop : Stopped → SyntaxFault → List Token → Type 0
IsStop (Fault fault at) wanted tokens = (fault ≡ wanted) × (at.now ≡ tokens)
IsStop NoMemory wanted tokens = ⊥

-- what was read, and the tokens behind it
abbrev pub plain_read : {A : Type 0} → A × Bor (List Token) → A × List Token
plain_read read = (read.0, read.1.now)

-- what was read, where such a token stands behind it
abbrev pub closed_read : {A : Type 0} → (Token → Bool) → Read Token SyntaxFault A → Read Token SyntaxFault A
closed_read test read = then_read read (λ value tokens. then_read (token_read test tokens) (λ close rest. Ok (value, rest)))

-- the same of what a function of the parser gave
abbrev pub IsClosedRead : {A : Type 0} → (Token → Bool) → Result (A × Bor (List Token)) Stopped → Result (A × Bor (List Token)) Stopped → Type 0
IsClosedRead test (Ok read) given = GivesRead plain_read given (closed_read test (Ok (plain_read read)))
IsClosedRead test (Err stopped) given = given ≡ Err stopped

-- what was read, in a box, unless memory ran out
abbrev pub IsBoxed : {A : Type 0} → Result (A × Bor (List Token)) Stopped → Result (Box A × Bor (List Token)) Stopped → Type 0
IsBoxed read (Ok inner) = read ≡ Ok (inner.0.value, inner.1)
IsBoxed read (Err (Fault fault at)) = read ≡ Err (Fault fault at)
IsBoxed read (Err NoMemory) = Unit {0}

-- the fault of the next token, by what is left out here
abbrev pub fault_at : List ℕ → List Token → SyntaxFault
fault_at classes tokens = fault_of classes (head_of tokens)

-- the same where nothing may stand that is deeper
abbrev pub nested_fault : List ℕ → List ℕ → List Token → SyntaxFault
nested_fault begins classes tokens = cond (next_is (has_class_in begins) tokens) Nested (fault_at classes tokens)

-- a comma, and behind it a token of these
abbrev pub item_stands : (Token → Bool) → List Token → Bool
item_stands go [] = false
item_stands go (token ∷ tokens) = has_class comma_sign token && next_is go tokens

-- the tokens behind a comma, where one stands
abbrev pub past_comma : List Token → List Token
past_comma [] = []
past_comma (token ∷ tokens) = cond (has_class comma_sign token) tokens (token ∷ tokens)

-- a token of these classes and what stands behind the `=` that follows it, where both stand
abbrev pub value_assigned : List ℕ → List Token → Option (Token × List Token)
value_assigned classes [] = None
value_assigned classes (token ∷ []) = None
value_assigned classes (token ∷ next ∷ tokens) = cond (has_class_in classes token && has_class assign_sign next) (Some (token, tokens)) None

-- an atom, and behind it a token that does not go on with it
abbrev pub has_lone_atom : List Token → Bool
has_lone_atom [] = false
has_lone_atom (token ∷ tokens) = has_class_in atoms token && next_is (has_class_outside continuations) tokens

-- what an atom writes
abbrev pub atom_of : Token → Term
atom_of token =
    cond (has_class numeral_class token) (NumberTerm token.place (numeral_value token.kind))
    (cond (has_class text_class token) (TextTerm token.place (bytes_of token.kind))
    (cond (has_class true_word token) (TruthTerm token.place true)
    (cond (has_class false_word token) (TruthTerm token.place false)
    (cond (has_class undef_word token) (UndefTerm token.place)
    (cond (has_class child_count_class token) (ChildCountTerm token.place)
    (cond (has_class special_class token) (SpecialTerm token.place (bytes_of token.kind)) (NameTerm token.place (bytes_of token.kind))))))))
