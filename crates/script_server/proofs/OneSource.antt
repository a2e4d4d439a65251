-- A source writes one program, or has one fault; and it means one tree, or has one fault.
use Rattle.std.proofs.Common.{◌≡◌, ⊎_elim, inl, inr, ℕ, List, sym, ap, ap₂, ◌∙◌, subst}
use Rattle.text_place.specs.declared.fault.Fault.{Fault}
use Rattle.text_place.specs.declared.fault.FaultKind.{FaultKind}
use Rattle.plain_text.specs.declared.place.Place.{Place}
use Rattle.scad_lexer.specs.declared.token.Token.{Token}
use Rattle.scad_lexer.specs.Tokens.{LexOutcome, Lexes, GivesTokens, FaultAt}
use Rattle.scad_ast.specs.Terms.{StatementTerm}
use Rattle.scad_grammar.specs.Grammar.{WholeProgram}
use Rattle.scad_grammar.specs.declared.SyntaxFault.{SyntaxFault}
use Rattle.scad_grammar.specs.FirstFault.{IsFirstFault}
use Rattle.scad_parser.specs.Parsing.{kind_of, place_of_first, HasSyntaxFault}
use Rattle.plane_predicate.specs.declared.unit.Unit.{Unit as LengthUnit}
use Rattle.csg_tree.specs.HalfSpaceTrees.{Tree}
use Rattle.scad_meaning.specs.Sources.{Meaning, a_tree, a_fault, IsMeaning}
use Rattle.scad_parser.specs.Sources.{WritesProgram, HasTextFault}
use Rattle.script_server.specs.Meaning.Sources.{Means, HasSourceFault}

-- what the layers below say of texts: bytes have one outcome, and tokens one program or one first fault
pub record OneText : Type 0 where
  pub outcomes : (text : List ℕ) (o q : LexOutcome) → Lexes text o → Lexes text q → o ≡ q
  pub programs : (d k : ℕ) (x y : List StatementTerm) (s : List Token) → WholeProgram d x s → WholeProgram k y s → x ≡ y
  pub no_fault : (d : ℕ) (x : List StatementTerm) (s : List Token) (fault : SyntaxFault) (at : List Token) → WholeProgram d x s → IsFirstFault d s fault at → ⊥
  pub faults : (d : ℕ) (s : List Token) (fault other : SyntaxFault) (at at_other : List Token) → IsFirstFault d s fault at → IsFirstFault d s other at_other →
      (fault ≡ other) × (at ≡ at_other)

-- a program has one meaning
abbrev pub OneMeaning : Type 0
OneMeaning = (unit : LengthUnit) (program : List StatementTerm) (m n : Meaning) → IsMeaning unit program m → IsMeaning unit program n → m ≡ n

module _ (text : OneText) where
  one_list : (source : List ℕ) (s t : List Token) → Lexes source (GivesTokens s) → Lexes source (GivesTokens t) → s ≡ t
  one_list source s t h g = let both : GivesTokens s ≡ GivesTokens t = text.outcomes source (GivesTokens s) (GivesTokens t) h g in cc

  no_list : (source : List ℕ) (s : List Token) (kind : FaultKind) (at : Place) → Lexes source (GivesTokens s) → Lexes source (FaultAt kind at) → ⊥
  no_list source s kind at h g = let both : GivesTokens s ≡ FaultAt kind at = text.outcomes source (GivesTokens s) (FaultAt kind at) h g in cc

  same_fault : (f g : Fault) → f.kind ≡ g.kind → f.place ≡ g.place → f ≡ g
  same_fault f g e h = ap₂ (λ kind place. record { kind = kind; place = place }) e h

  no_syntax_fault : (ts : List Token) (x : List StatementTerm) (f : Fault) → WholeProgram 65 x ts → HasSyntaxFault 65 ts f → ⊥
  no_syntax_fault ts x f h g = text.no_fault 65 x ts g.0 g.1 h g.2

  one_syntax_fault : (ts : List Token) (f g : Fault) → HasSyntaxFault 65 ts f → HasSyntaxFault 65 ts g → f ≡ g
  one_syntax_fault ts f g h i =
      let same = text.faults 65 ts h.0 i.0 h.1 i.1 h.2 i.2 in
      same_fault f g (h.3 ∙ ap kind_of same.0 ∙ sym i.3) (h.4 ∙ ap place_of_first same.1 ∙ sym i.4)

  one_program : (source : List ℕ) (x y : List StatementTerm) → WritesProgram source x → WritesProgram source y → x ≡ y
  one_program source x y h g =
      text.programs 65 65 x y h.0 h.2 (subst (λ (ts : List Token). WholeProgram 65 y ts) (one_list source g.0 h.0 g.1 h.1) g.2)

  no_program : (source : List ℕ) (fault : Fault) (x : List StatementTerm) → HasTextFault source fault → WritesProgram source x → ⊥
  no_program source fault x h g =
      ⊎_elim
      (λ a. no_list source g.0 fault.kind fault.place g.1 a)
      (λ a. no_syntax_fault a.0 x fault (subst (λ (ts : List Token). WholeProgram 65 x ts) (one_list source g.0 a.0 g.1 a.1) g.2) a.2)
      h

  one_text_fault : (source : List ℕ) (f g : Fault) → HasTextFault source f → HasTextFault source g → f ≡ g
  one_text_fault source f g h i =
      ⊎_elim
      (λ a. ⊎_elim
      (λ b. (let both : FaultAt f.kind f.place ≡ FaultAt g.kind g.place = text.outcomes source (FaultAt f.kind f.place) (FaultAt g.kind g.place) a b in
      let kinds : f.kind ≡ g.kind = cc in
      let places : f.place ≡ g.place = cc in
      same_fault f g kinds places))
      (λ b. absurd (no_list source b.0 f.kind f.place b.1 a)) i)
      (λ a. ⊎_elim
      (λ b. absurd (no_list source a.0 g.kind g.place a.1 b))
      (λ b. one_syntax_fault a.0 f g a.2 (subst (λ (ts : List Token). HasSyntaxFault 65 ts g) (one_list source b.0 a.0 b.1 a.1) b.2)) i)
      h

  one_of_source : OneMeaning → (unit : LengthUnit) (source : List ℕ) (x y : List StatementTerm) (m n : Meaning) →
      WritesProgram source x → WritesProgram source y → IsMeaning unit x m → IsMeaning unit y n → m ≡ n
  one_of_source one unit source x y m n w v h g =
      one unit x m n h (subst (λ (p : List StatementTerm). IsMeaning unit p n) (sym (one_program source x y w v)) g)

  pub one_tree : OneMeaning → (unit : LengthUnit) (source : List ℕ) (f g : Tree) → Means unit source f → Means unit source g → f ≡ g
  one_tree one unit source f g h i =
      let both : a_tree f ≡ a_tree g = one_of_source one unit source h.0 i.0 (a_tree f) (a_tree g) h.1 i.1 h.2 i.2 in cc

  pub not_both : OneMeaning → (unit : LengthUnit) (source : List ℕ) (f : Tree) (fault : Fault) → Means unit source f → HasSourceFault unit source fault → ⊥
  not_both one unit source f fault h (inl i) = no_program source fault h.0 i h.1
  not_both one unit source f fault h (inr i) =
      let both : a_tree f ≡ a_fault fault.kind fault.place =
      one_of_source one unit source h.0 i.0 (a_tree f) (a_fault fault.kind fault.place) h.1 i.1 h.2 i.2 in
      absurd (cc both)

  pub one_fault : OneMeaning → (unit : LengthUnit) (source : List ℕ) (f g : Fault) → HasSourceFault unit source f → HasSourceFault unit source g → f ≡ g
  one_fault one unit source f g (inl h) (inl i) = one_text_fault source f g h i
  one_fault one unit source f g (inl h) (inr i) = absurd (no_program source f i.0 h i.1)
  one_fault one unit source f g (inr h) (inl i) = absurd (no_program source g h.0 i h.1)
  one_fault one unit source f g (inr h) (inr i) =
      let both : a_fault f.kind f.place ≡ a_fault g.kind g.place =
      one_of_source one unit source h.0 i.0 (a_fault f.kind f.place) (a_fault g.kind g.place) h.1 i.1 h.2 i.2 in
      let kinds : f.kind ≡ g.kind = cc in
      let places : f.place ≡ g.place = cc in
      same_fault f g kinds places
