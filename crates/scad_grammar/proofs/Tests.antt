-- Classes of the next token, and one token of a class.
use Rattle.std.proofs.lemmas.Bool.Decides.{eqb_tells}
use Rattle.std.proofs.Common.{◌≡◌, ℕ, List, [], ◌∷◌, ◌++◌, Bool, true, false, cond, nat_eq, not, Option, Some, None, ◌⊎◌, inl, inr, refl, sym, ap, ◌∙◌}
use Rattle.scad_lexer.specs.declared.token.Token.{Token}
use Rattle.scad_grammar.specs.declared.SyntaxFault.TheVariants.{Expected, NotInProfile}
use Rattle.scad_grammar.specs.Classes.{is_class_among, has_class_in, has_class_outside, token_class}
use Rattle.scad_grammar.specs.Reading.{next_is}
use Rattle.scad_grammar.specs.Languages.{Language, SingleToken}
use Rattle.scad_grammar.specs.Faults.{TokenReader, token_read, first_token_read, fault_of, left_out_classes, left_out_of_expressions}
use Rattle.scad_grammar.proofs.lemmas.Readers.{IsReader, IsPlain, Concatenation, one_reads, starts_of, starts_not, starts_less, never_starts, both_reads}
use Rattle.scad_grammar.specs.Reading.{sequence_read}

-- no class is in both
abbrev pub apart : List ℕ → List ℕ → Bool
apart [] ys = true
apart (x ∷ xs) ys = cond (is_class_among ys x) false (apart xs ys)

-- each class of the first is in the second
abbrev pub within : List ℕ → List ℕ → Bool
within [] ys = true
within (x ∷ xs) ys = cond (is_class_among ys x) (within xs ys) false

cond_false : (b c : Bool) → cond b false c ≡ true → (b ≡ false) × (c ≡ true)
cond_false true c e = absurd (cc)
cond_false false c e = (refl, e)

cond_true : (b c : Bool) → cond b c false ≡ true → (b ≡ true) × (c ≡ true)
cond_true true c e = (refl, e)
cond_true false c e = absurd (cc)

pub classes_apart : (xs ys : List ℕ) → apart xs ys ≡ true → (k : ℕ) → is_class_among xs k ≡ true → is_class_among ys k ≡ false
classes_apart [] ys e k h = absurd (cc)
classes_apart (x ∷ xs) ys e k h =
    elim (eqb_tells k x) [
      | inl p ↦ ap (is_class_among ys) p.1 ∙ (cond_false (is_class_among ys x) (apart xs ys) e).0
      | inr p ↦ classes_apart xs ys (cond_false (is_class_among ys x) (apart xs ys) e).1 k (ap (λ b. cond b true (is_class_among xs k)) (sym p.0) ∙ h)
    ]

pub classes_within : (xs ys : List ℕ) → within xs ys ≡ true → (k : ℕ) → is_class_among xs k ≡ true → is_class_among ys k ≡ true
classes_within [] ys e k h = absurd (cc)
classes_within (x ∷ xs) ys e k h =
    elim (eqb_tells k x) [
      | inl p ↦ ap (is_class_among ys) p.1 ∙ (cond_true (is_class_among ys x) (within xs ys) e).0
      | inr p ↦ classes_within xs ys (cond_true (is_class_among ys x) (within xs ys) e).1 k (ap (λ b. cond b true (is_class_among xs k)) (sym p.0) ∙ h)
    ]

not_true : (b : Bool) → b ≡ false → not b ≡ true
not_true b e = ap not e

classes_less : (xs ys : List ℕ) → within xs ys ≡ true → (k : ℕ) → is_class_among ys k ≡ false → is_class_among xs k ≡ false
classes_less xs ys e k h = go (is_class_among xs k) refl
  where
    go : (b : Bool) → is_class_among xs k ≡ b → b ≡ false
    go false f = refl
    go true f = absurd (let g = classes_within xs ys e k f in cc)

pub either_listed : (xs ys : List ℕ) (k : ℕ) → is_class_among (xs ++ ys) k ≡ true → (is_class_among xs k ≡ true) ⊎ (is_class_among ys k ≡ true)
either_listed [] ys k h = inr h
either_listed (x ∷ xs) ys k h = go (nat_eq k x) h (either_listed xs ys k)
  where
    go : (b : Bool) → cond b true (is_class_among (xs ++ ys) k) ≡ true → (is_class_among (xs ++ ys) k ≡ true → (is_class_among xs k ≡ true) ⊎ (is_class_among ys k ≡ true)) → (cond b true (is_class_among xs k) ≡ true) ⊎ (is_class_among ys k ≡ true)
    go true e f = inl refl
    go false e f = f e

-- the same of the next token
pub next_apart : (xs ys : List ℕ) → apart xs ys ≡ true → (l : List Token) → next_is (has_class_in xs) l ≡ true → next_is (has_class_in ys) l ≡ false
next_apart xs ys e = starts_not (has_class_in xs) (has_class_in ys) (λ t. classes_apart xs ys e (token_class t.kind))

pub next_within : (xs ys : List ℕ) → within xs ys ≡ true → (l : List Token) → next_is (has_class_in xs) l ≡ true → next_is (has_class_in ys) l ≡ true
next_within xs ys e = starts_of (has_class_in xs) (has_class_in ys) (λ t. classes_within xs ys e (token_class t.kind))

pub next_less : (xs ys : List ℕ) → within xs ys ≡ true → (l : List Token) → next_is (has_class_in ys) l ≡ false → next_is (has_class_in xs) l ≡ false
next_less xs ys e = starts_less (has_class_in ys) (has_class_in xs) (λ t. classes_less xs ys e (token_class t.kind))

pub next_other : (xs ys : List ℕ) → apart xs ys ≡ true → (l : List Token) → next_is (has_class_in xs) l ≡ true → next_is (has_class_outside ys) l ≡ true
next_other xs ys e = starts_of (has_class_in xs) (has_class_outside ys) (λ t h. not_true (has_class_in ys t) (classes_apart xs ys e (token_class t.kind) h))

-- after a list of arguments stands what ends it
pub stops_at : (ys : List ℕ) (l : List Token) → next_is (has_class_outside ys) l ≡ false → (l ≡ []) ⊎ (next_is (has_class_in ys) l ≡ true)
stops_at ys [] h = inl refl
stops_at ys (t ∷ l) h = inr (go (has_class_in ys t) h)
  where
    go : (b : Bool) → not b ≡ false → b ≡ true
    go true e = refl
    go false e = absurd (cc)

-- nothing but what ends it goes on
pub no_close : (ys zs : List ℕ) → apart ys zs ≡ true → (l : List Token) → next_is (has_class_outside ys) l ≡ false → next_is (has_class_in zs) l ≡ false
no_close ys zs e l h = elim (stops_at ys l h) [ inl p ↦ ap (next_is (has_class_in zs)) p | inr p ↦ next_apart ys zs e l p ]

pub close_ends : (ys : List ℕ) (l : List Token) → next_is (has_class_in ys) l ≡ true → next_is (has_class_outside ys) l ≡ false
close_ends ys l = starts_not (has_class_in ys) (has_class_outside ys) (λ t e. ap not e) l

abbrev pub OneReads : (Token → Bool) → Type 0
OneReads test = IsReader (token_read test) (SingleToken test) (SingleToken test) (λ x t. false)

plain_of : (b : Bool) → IsPlain (cond b NotInProfile Expected)
plain_of true = tt
plain_of false = tt

pub fault_plain : (classes : List ℕ) (o : Option Token) → IsPlain (fault_of classes o)
fault_plain classes None = tt
fault_plain classes (Some t) = plain_of (has_class_in classes t)

pub one_at : (test : Token → Bool) → (t : Token) × (test t ≡ true) → OneReads test
one_at test some = one_reads test (fault_of left_out_classes) (fault_plain left_out_classes) some

pub first_at : (test : Token → Bool) → (t : Token) × (test t ≡ true) → IsReader (first_token_read test) (SingleToken test) (SingleToken test) (λ x t. false)
first_at test some = one_reads test (fault_of left_out_of_expressions) (fault_plain left_out_of_expressions) some

-- a token, and then something
pub then : {B C : Type 0} (rb : TokenReader B) (Lb Wb : Language B) (test : Token → Bool) (mb : B → Token → Bool) (mc : C → Token → Bool) (f : Token → B → C) → OneReads test → IsReader rb Lb Wb mb → (w : List Token) × (y : B) × Wb y w
    → ((t : Token) (y : B) (rest : List Token) → next_is (mc (f t y)) rest ≡ false → next_is (mb y) rest ≡ false)
    → IsReader (sequence_read f (token_read test) rb) (Concatenation f (SingleToken test) Lb) (Concatenation f (SingleToken test) Wb) mc
then rb Lb Wb test mb mc f it ib some down = both_reads f (token_read test) rb (SingleToken test) (SingleToken test) Lb Wb (λ x t. false) mb mc it ib some (λ x y s rest h e. never_starts (s ++ rest)) down
