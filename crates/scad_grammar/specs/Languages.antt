-- Languages of tokens: relations between values and the lists of tokens that write them.
use Rattle.std.specs.Prelude.{◌≡◌, List, [], ◌∷◌, ◌++◌, Bool, true, Option, Some, None, ◌⊎◌}
use Rattle.scad_lexer.specs.declared.token.Token.{Token}

-- which lists of tokens write a value
abbrev pub Language : Type 0 → Type 1
Language A = A → List Token → Type 0

-- one token of these
abbrev pub SingleToken : (Token → Bool) → Language Token
SingleToken test token tokens = (test token ≡ true) × (tokens ≡ token ∷ [])

-- something that stands for another thing
abbrev pub ImageOf : {A B : Type 0} → (A → B) → Language A → Language B
ImageOf {A} f L b tokens = (a : A) × L a tokens × (b ≡ f a)

-- one after the other
abbrev pub Concatenation : {A B C : Type 0} → (A → B → C) → Language A → Language B → Language C
Concatenation {A} {B} f La Lb c tokens =
    (a : A) × (b : B) × (front : List Token) × (rest : List Token) × La a front × Lb b rest × (c ≡ f a b) × (tokens ≡ front ++ rest)

-- one after the other, where they go together
abbrev pub ConcatenationIf : {A B C : Type 0} → (A → B → C) → (A → B → Type 0) → Language A → Language B → Language C
ConcatenationIf {A} {B} f Fit La Lb c tokens =
    (a : A) × (b : B) × (front : List Token) × (rest : List Token) × La a front × Lb b rest × Fit a b × (c ≡ f a b) × (tokens ≡ front ++ rest)

-- the one or the other
abbrev pub Alternation : {A : Type 0} → Language A → Language A → Language A
Alternation La Lb x tokens = La x tokens ⊎ Lb x tokens

-- no tokens
abbrev pub EmptySequence : {A : Type 0} → A → Language A
EmptySequence a x tokens = (x ≡ a) × (tokens ≡ [])

-- any number of them
abbrev pub Repetition : {A : Type 0} → Language A → Language (List A)
Repetition L [] tokens = tokens ≡ []
Repetition {A} L (x ∷ xs) tokens = (front : List Token) × (rest : List Token) × L x front × Repetition L xs rest × (tokens ≡ front ++ rest)

-- it, or nothing
abbrev pub OptionalSequence : {A : Type 0} → Language A → Language (Option A)
OptionalSequence L None tokens = tokens ≡ []
OptionalSequence L (Some x) tokens = L x tokens

-- nothing at all is so
abbrev pub EmptyLanguage : {A : Type 0} → Language A
EmptyLanguage x tokens = ⊥

-- of two that are one after the other, the first
abbrev pub first_of : {A B : Type 0} → A → B → A
first_of a b = a

-- the second of the two
abbrev pub second_of : {A B : Type 0} → A → B → B
second_of a b = b

-- both of them
abbrev pub pair_of : {A B : Type 0} → A → B → A × B
pair_of a b = (a, b)

-- the first in front of the others
abbrev pub cons : {A : Type 0} → A → List A → List A
cons x xs = x ∷ xs

-- first one token of these, then something behind it, for which the whole stands
abbrev pub AfterToken : {A : Type 0} → (Token → Bool) → Language A → Language A
AfterToken test L = Concatenation (λ token x. x) (SingleToken test) L

-- first something, for which the whole stands, then one token of these behind it
abbrev pub BeforeToken : {A : Type 0} → Language A → (Token → Bool) → Language A
BeforeToken L test = Concatenation (λ x token. x) L (SingleToken test)

-- some, at least one, with separators between them and maybe one behind the last
abbrev pub SeparatedList : {A : Type 0} → (Token → Bool) → Language A → Language (List A)
SeparatedList mark L = Concatenation (λ items last. items) (Concatenation (λ x xs. x ∷ xs) L (Repetition (AfterToken mark L))) (OptionalSequence (SingleToken mark))
