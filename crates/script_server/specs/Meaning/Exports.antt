-- What an export is answered, and what its solid is.
use Rattle.std.specs.Prelude.{◌≡◌, ℕ, List, ◌⊎◌, All}
use Rattle.text_place.specs.declared.fault.Fault.{Fault}
use Rattle.reply_text.specs.declared.reply.Reply.{Reply}
use Rattle.reply_text.specs.declared.reply.Reply.TheVariants as reply
use Rattle.plane_predicate.specs.declared.unit.Unit.{Unit as LengthUnit}
use Rattle.plane_predicate.specs.Space.{IsInReach}
use Rattle.plane_predicate.specs.InUnits.{in_steps}
use Rattle.csg_tree.specs.HalfSpaceTrees.{Tree}
use Rattle.off_text.specs.Bounding.{IsBoundary}
use Rattle.watertight.specs.WatertightFaces.{AreWatertight}
use Rattle.tree_export.specs.declared.export.TreeExport.{TreeExport}
use Rattle.tree_export.specs.declared.export.TreeExport.TheVariants as exported
use Rattle.tree_export.specs.Exports.{IsExported}
use Rattle.script_server.specs.Meaning.Sources.{Means, HasSourceFault}

-- the export of a tree as a reply
abbrev pub export_reply : TreeExport → Reply
export_reply (exported.Text bytes) = reply.Solid bytes
export_reply (exported.PassedLimit passed) = reply.PassedLimit passed

-- what a tree is answered: its text, or the first limit that it passes
abbrev pub AnswersTree : LengthUnit → Tree → Reply → Type 0
AnswersTree unit tree r = (out : TreeExport) × IsExported unit tree out × (r ≡ export_reply out)

-- Which reply an export of a source is answered: its first fault, or what the tree that it means is answered. One function of
-- the unit and the source.
abbrev pub AnswersSource : LengthUnit → List ℕ → Reply → Type 0
AnswersSource unit source r =
    ((fault : Fault) × HasSourceFault unit source fault × (r ≡ reply.Faulted fault))
    ⊎ ((tree : Tree) × Means unit source tree × AnswersTree unit tree r)

-- A text's faces are the boundary of a tree. Each coordinate of its vertices is at most 4,095 grid steps in size, and the faces
-- are watertight.
pub record IsWatertightBoundary (unit : LengthUnit) (bytes : List ℕ) (tree : Tree) : Type 0 where
  pub text : IsBoundary unit bytes tree
  pub reach : All (λ p. IsInReach (in_steps unit p)) text.vertices
  pub closed : AreWatertight text.vertices text.faces

-- What an export's reply says of its source: the watertight boundary of the tree that the source means, the source's first
-- fault, or that its tree passes a limit of size.
abbrev pub AnswersMeaning : LengthUnit → List ℕ → Reply → Type 0
AnswersMeaning unit source (reply.Solid bytes) = (tree : Tree) × Means unit source tree × IsWatertightBoundary unit bytes tree
AnswersMeaning unit source (reply.Faulted fault) = HasSourceFault unit source fault
AnswersMeaning unit source (reply.PassedLimit passed) = (tree : Tree) × Means unit source tree
AnswersMeaning unit source _ = ⊥

-- What an export is answered. The meaning follows from the rule, which the law `the_rule_gives_the_meaning` says: it stands first
-- since it is what a reader has to believe.
pub record AnswersExport (unit : LengthUnit) (source : List ℕ) (r : Reply) : Type 0 where
  -- what a maker of the part has to believe of the reply
  pub meaning : AnswersMeaning unit source r
  -- which text it is, and which limit comes in place of a text
  pub rule : AnswersSource unit source r
