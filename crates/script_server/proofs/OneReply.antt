-- An export has one reply, which is a solid exactly where no limit is passed, and printed replies have one reading.
use Rattle.std.proofs.Common.{◌≡◌, ◌≢◌, ◌↔◌, inl, inr, ℕ, List, refl, sym, ap, ◌∙◌, subst}
use Rattle.text_place.specs.declared.fault.Fault.{Fault}
use Rattle.plane_predicate.specs.declared.unit.Unit.{Unit as LengthUnit}
use Rattle.csg_tree.specs.HalfSpaceTrees.{Tree}
use Rattle.reply_text.specs.declared.reply.Reply.{Reply}
use Rattle.reply_text.specs.declared.reply.Reply.TheVariants as reply
use Rattle.reply_text.specs.Answers.{IsExport}
use Rattle.tree_export.specs.declared.export.TreeExport.{TreeExport}
use Rattle.tree_export.specs.declared.export.TreeExport.TheVariants as exported
use Rattle.tree_export.specs.Exports.{IsTextExport, IsExported, PassesNoLimit}
use Rattle.script_server.specs.Meaning.Sources.{Means, HasSourceFault}
use Rattle.script_server.specs.Meaning.Exports.{export_reply, AnswersSource, AnswersExport}

abbrev pub OneTree : Type 0
OneTree = (unit : LengthUnit) (source : List ℕ) (f g : Tree) → Means unit source f → Means unit source g → f ≡ g

abbrev pub OneFault : Type 0
OneFault = (unit : LengthUnit) (source : List ℕ) (f g : Fault) → HasSourceFault unit source f → HasSourceFault unit source g → f ≡ g

abbrev pub NotBoth : Type 0
NotBoth = (unit : LengthUnit) (source : List ℕ) (f : Tree) (fault : Fault) → Means unit source f → HasSourceFault unit source fault → ⊥

abbrev pub OneExport : Type 0
OneExport = (unit : LengthUnit) (tree : Tree) (out other : TreeExport) → IsExported unit tree out → IsExported unit tree other → out ≡ other

abbrev pub Texts : Type 0
Texts = (unit : LengthUnit) (tree : Tree) (out : TreeExport) → IsExported unit tree out → IsTextExport out ↔ PassesNoLimit unit tree

pub one_reply : OneTree → OneFault → NotBoth → OneExport →
    (unit : LengthUnit) (source : List ℕ) (r q : Reply) → AnswersSource unit source r → AnswersSource unit source q → r ≡ q
one_reply trees faults either one unit source r q (inl a) (inl b) = a.2 ∙ ap reply.Faulted (faults unit source a.0 b.0 a.1 b.1) ∙ sym b.2
one_reply trees faults either one unit source r q (inl a) (inr b) = absurd (either unit source b.0 a.0 b.1 a.1)
one_reply trees faults either one unit source r q (inr a) (inl b) = absurd (either unit source a.0 b.0 a.1 b.1)
one_reply trees faults either one unit source r q (inr (f, m, (out, is, e))) (inr (g, n, (other, is', e'))) =
    let same = trees unit source g f n m in
    e ∙ ap export_reply (one unit f out other is (subst (λ (t : Tree). IsExported unit t other) same is')) ∙ sym e'

-- memory did not run out
tree_has_memory : (out : TreeExport) (r : Reply) → r ≡ export_reply out → r ≢ reply.NoMem
tree_has_memory (exported.Text bytes) r e none = let wrong : reply.Solid bytes ≡ reply.NoMem = sym e ∙ none in cc
tree_has_memory (exported.PassedLimit passed) r e none = let wrong : reply.PassedLimit passed ≡ reply.NoMem = sym e ∙ none in cc

has_memory : (unit : LengthUnit) (source : List ℕ) (r : Reply) → AnswersSource unit source r → r ≢ reply.NoMem
has_memory unit source r (inl a) none = let wrong : reply.Faulted a.0 ≡ reply.NoMem = sym a.2 ∙ none in cc
has_memory unit source r (inr (f, m, (out, is, e))) none = tree_has_memory out r e none

abbrev pub OneReply : Type 0
OneReply = (unit : LengthUnit) (source : List ℕ) (r q : Reply) → AnswersSource unit source r → AnswersSource unit source q → r ≡ q

pub exports_are : OneReply → (unit : LengthUnit) → IsExport (AnswersExport unit)
exports_are one unit = record {
  one = λ source r q h g. one unit source r q h.rule g.rule;
  has_memory = λ source r h. has_memory unit source r h.rule;
}

-- a solid is a text
solid_text : (out : TreeExport) (bytes : List ℕ) → reply.Solid bytes ≡ export_reply out → IsTextExport out
solid_text (exported.Text text) bytes e = (text, refl)
solid_text (exported.PassedLimit passed) bytes e = absurd (cc e)

solid_within : Texts → (unit : LengthUnit) (source : List ℕ) (r : Reply) (bytes : List ℕ) → AnswersSource unit source r → r ≡ reply.Solid bytes →
    (f : Tree) × Means unit source f × PassesNoLimit unit f
solid_within texts unit source r bytes (inl a) e = absurd (let wrong : reply.Solid bytes ≡ reply.Faulted a.0 = sym e ∙ a.2 in cc)
solid_within texts unit source r bytes (inr (f, m, (out, is, e'))) e = (f, m, (texts unit f out is).0 (solid_text out bytes (sym e ∙ e')))

within_solid : OneTree → NotBoth → Texts → (unit : LengthUnit) (source : List ℕ) (r : Reply) (f : Tree) → AnswersSource unit source r →
    Means unit source f → PassesNoLimit unit f → (bytes : List ℕ) × (r ≡ reply.Solid bytes)
within_solid trees either texts unit source r f (inl a) m none = absurd (either unit source f a.0 m a.1)
within_solid trees either texts unit source r f (inr (g, n, (out, is, e))) m none =
    let text = (texts unit g out is).1 (subst (PassesNoLimit unit) (trees unit source f g m n) none) in
    (text.0, e ∙ ap export_reply text.1)

pub solids : OneTree → NotBoth → Texts → (unit : LengthUnit) (source : List ℕ) (r : Reply) → AnswersSource unit source r →
    ((bytes : List ℕ) × (r ≡ reply.Solid bytes)) ↔ ((f : Tree) × Means unit source f × PassesNoLimit unit f)
solids trees either texts unit source r h = (
  λ solid. solid_within texts unit source r solid.0 h solid.1,
  λ means. within_solid trees either texts unit source r means.0 h means.1 means.2,
)
