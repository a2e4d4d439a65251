-- Where nothing stands that is deeper, nothing is read.
use Rattle.std.proofs.Common.{◌≡◌, ℕ, List, [], ◌∷◌, Bool, true, false, cond, Some, None, Err, refl, sym, ap, ◌∙◌, subst}
use Rattle.scad_lexer.specs.declared.token.Token.{Token}
use Rattle.scad_grammar.specs.declared.SyntaxFault.TheVariants.{Nested}
use Rattle.scad_grammar.specs.Classes.{has_class_in}
use Rattle.scad_grammar.specs.Languages.{Language}
use Rattle.scad_grammar.specs.Faults.{fault_of}
use Rattle.scad_grammar.specs.Reads.{nested_read}
use Rattle.scad_grammar.proofs.lemmas.Readers.{SameHead, IsPrefixIn, Told, IsReader, plain_seen}
use Rattle.scad_grammar.proofs.Tests.{fault_plain}

module _ {A : Type 0} (begins classes : List ℕ) (L W : Language A) (more : A → Token → Bool) (none : (x : A) (s : List Token) → L x s → ⊥) (begun : (t : Token) → has_class_in begins t ≡ true → IsPrefixIn W (t ∷ [])) (some : IsPrefixIn W []) where
  at_token : (t : Token) (ts : List Token) (b : Bool) → has_class_in begins t ≡ b → Told (nested_read begins classes) L W (t ∷ ts) (cond b (Err (Nested, t ∷ ts)) (Err (fault_of classes (Some t), t ∷ ts)))
  at_token t ts true e = ([], refl, begun t e, at)
    where
      at : (rest : List Token) → SameHead (t ∷ ts) rest → nested_read {A = A} begins classes rest ≡ Err (Nested, rest)
      at [] h = elim h [ ]
      at (u ∷ us) h = let n : has_class_in begins u ≡ true = ap (has_class_in begins) (sym h) ∙ e in ap (λ c. cond c (Err (Nested, u ∷ us)) (Err (fault_of classes (Some u), u ∷ us))) n
  at_token t ts false e = ([], refl, subst (IsPrefixIn W) (sym (plain_seen (fault_of classes (Some t)) (t ∷ ts) (fault_plain classes (Some t)))) some, at)
    where
      at : (rest : List Token) → SameHead (t ∷ ts) rest → nested_read {A = A} begins classes rest ≡ Err (fault_of classes (Some t), rest)
      at [] h = elim h [ ]
      at (u ∷ us) h =
          let n : has_class_in begins u ≡ false = ap (has_class_in begins) (sym h) ∙ e in
          ap (λ c. cond c (Err (Nested, u ∷ us)) (Err (fault_of classes (Some u), u ∷ us))) n ∙ ap (λ v. Err (fault_of classes (Some v), u ∷ us)) (sym h)

  told : (ts : List Token) → Told (nested_read begins classes) L W ts (nested_read begins classes ts)
  told [] = ([], refl, some, at)
    where
      at : (rest : List Token) → SameHead {T = Token} [] rest → nested_read {A = A} begins classes rest ≡ Err (fault_of classes None, rest)
      at [] h = refl
      at (u ∷ us) h = elim h [ ]
  told (t ∷ ts) = at_token t ts (has_class_in begins t) refl

  pub nested_reads : IsReader (nested_read begins classes) L W more
  nested_reads = record { told = told; wide = λ x s h. elim (none x s h) [ ]; complete = λ x s rest h e. elim (none x s h) [ ] }
