-- A source means a tree or has a first fault, and then its export has a reply.
use Rattle.std.proofs.Common.{◌≡◌, true, ℕ, List, ◌⊎◌, inl, inr, refl}
use Rattle.plain_text.specs.declared.place.Place.{Place}
use Rattle.text_place.specs.declared.fault.Fault.{Fault}
use Rattle.text_place.specs.declared.fault.FaultKind.{FaultKind}
use Rattle.plane_predicate.specs.declared.unit.Unit.{Unit as LengthUnit}
use Rattle.csg_tree.specs.HalfSpaceTrees.{Tree}
use Rattle.csg_tree.specs.ProperTrees.{IsProper}
use Rattle.off_text.specs.Bounding.{IsBoundary}
use Rattle.scad_lexer.specs.declared.token.Token.{Token}
use Rattle.scad_lexer.specs.Tokens.{Lexes, GivesTokens, FaultAt, ends_once}
use Rattle.scad_ast.specs.Terms.{StatementTerm}
use Rattle.scad_grammar.specs.declared.SyntaxFault.{SyntaxFault}
use Rattle.scad_grammar.specs.Grammar.{WholeProgram}
use Rattle.scad_grammar.specs.FirstFault.{IsFirstFault}
use Rattle.scad_parser.specs.Parsing.{kind_of, place_of_first}
use Rattle.scad_meaning.specs.Sources.{Meaning, a_tree, a_fault, IsMeaning}
use Rattle.reply_text.specs.declared.reply.Reply.{Reply}
use Rattle.reply_text.specs.declared.reply.Reply.TheVariants as reply
use Rattle.tree_export.specs.declared.export.TreeExport.{TreeExport}
use Rattle.tree_export.specs.declared.export.TreeExport.TheVariants as exported
use Rattle.tree_export.specs.Exports.{IsExported, IsBoundaryText}
use Rattle.scad_parser.specs.Sources.{WritesProgram}
use Rattle.script_server.specs.Meaning.Sources.{Means, HasSourceFault}
use Rattle.script_server.specs.Meaning.Exports.{export_reply, IsWatertightBoundary, AnswersMeaning, AnswersExport}

-- what is known of the texts, the programs and the trees of sources
pub record SomeText : Type 0 where
  pub outcome : (text : List ℕ) → ((tokens : List Token) × Lexes text (GivesTokens tokens) × (ends_once tokens ≡ true)) ⊎ ((kind : FaultKind) × (at : Place) × Lexes text (FaultAt kind at))
  pub program : (d : ℕ) (s : List Token) → ends_once s ≡ true → ((x : List StatementTerm) × WholeProgram d x s) ⊎ ((fault : SyntaxFault) × (at : List Token) × IsFirstFault d s fault at)
  pub meaning : (unit : LengthUnit) (program : List StatementTerm) → (m : Meaning) × IsMeaning unit program m

abbrev pub MeansSome : LengthUnit → List ℕ → Type 0
MeansSome unit source = ((tree : Tree) × Means unit source tree) ⊎ ((fault : Fault) × HasSourceFault unit source fault)

of_program : (unit : LengthUnit) (source : List ℕ) (program : List StatementTerm) (m : Meaning) → WritesProgram source program → IsMeaning unit program m → MeansSome unit source
of_program unit source program (a_tree tree) writes means = inl (tree, (program, writes, means))
of_program unit source program (a_fault kind at) writes means = inr (record { kind = kind; place = at }, inr (program, writes, means))

pub some_meaning : SomeText → (unit : LengthUnit) (source : List ℕ) → MeansSome unit source
some_meaning text unit source = go (text.outcome source)
  where
    with_tokens : (tokens : List Token) → Lexes source (GivesTokens tokens) → ((x : List StatementTerm) × WholeProgram 65 x tokens) ⊎ ((fault : SyntaxFault) × (at : List Token) × IsFirstFault 65 tokens fault at) → MeansSome unit source
    with_tokens tokens lexes (inl (program, is)) = let m = text.meaning unit program in of_program unit source program m.0 (tokens, lexes, is) m.1
    with_tokens tokens lexes (inr (fault, at, first)) = inr (record { kind = kind_of fault; place = place_of_first at }, inl (inr (tokens, lexes, (fault, at, first, refl, refl))))

    go : ((tokens : List Token) × Lexes source (GivesTokens tokens) × (ends_once tokens ≡ true)) ⊎ ((kind : FaultKind) × (at : Place) × Lexes source (FaultAt kind at)) → MeansSome unit source
    go (inl (tokens, lexes, ends)) = with_tokens tokens lexes (text.program 65 tokens ends)
    go (inr (kind, at, lexes)) = inr (record { kind = kind; place = at }, inl (inl lexes))

-- a text that bounds the tree of its source is watertight
abbrev pub WatertightTexts : Type 0
WatertightTexts = (unit : LengthUnit) (source : List ℕ) (tree : Tree) (bytes : List ℕ) → Means unit source tree → IsBoundary unit bytes tree → IsWatertightBoundary unit bytes tree

-- the reply of what the export of a tree gives
pub tree_bounded : WatertightTexts → (unit : LengthUnit) (source : List ℕ) (tree : Tree) (out : TreeExport) → Means unit source tree → IsBoundaryText unit tree out → AnswersMeaning unit source (export_reply out)
tree_bounded watertight unit source tree (exported.Text bytes) means bounds = (tree, means, watertight unit source tree bytes means bounds)
tree_bounded watertight unit source tree (exported.PassedLimit passed) means bounds = (tree, means)

abbrev pub SomeExport : Type 0
SomeExport = (unit : LengthUnit) (tree : Tree) → IsProper tree → (out : TreeExport) × IsExported unit tree out × IsBoundaryText unit tree out

abbrev pub ProperTrees : Type 0
ProperTrees = (unit : LengthUnit) (program : List StatementTerm) (tree : Tree) → IsMeaning unit program (a_tree tree) → IsProper tree

pub some_answer : WatertightTexts → SomeExport → ProperTrees → (unit : LengthUnit) (source : List ℕ) → MeansSome unit source → (r : Reply) × AnswersExport unit source r
some_answer watertight some proper unit source (inl (tree, means)) =
    let (out, is, bounds) = some unit tree (proper unit means.0 tree means.2) in (
      export_reply out,
      record {
        meaning = tree_bounded watertight unit source tree out means bounds;
        rule = inr (tree, means, (out, is, refl));
      },
    )
some_answer watertight some proper unit source (inr (fault, has)) =
    (reply.Faulted fault, record { meaning = has; rule = inl (fault, has, refl) })
