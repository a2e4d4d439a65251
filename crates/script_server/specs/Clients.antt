-- What contracts see of a client, and what an export makes of it.
use Rattle.std.specs.Prelude.{◌≡◌, ℕ, ◌+◌, ◌^◌, ◌<◌, ◌≤◌, List, Result, Ok, Err, IfOk}
use Rattle.plain_text.specs.declared.memory.NoMemory.{NoMemory}
use Rattle.plane_predicate.specs.declared.unit.Unit.{Unit as LengthUnit}
use Rattle.csg_tree.specs.HalfSpaceTrees.{Tree}
use Rattle.csg_tree.specs.Numberings.{nodes_of}
use Rattle.parallel_eval.specs.Joins.{MayAskJoins}
use Rattle.subtree_memo.specs.Shares.{ShareView, probes_of, offers_of}
use Rattle.reply_text.specs.declared.reply.Reply.{Reply}
use Rattle.reply_text.specs.Sums.{IsSolvedReply}
use Rattle.script_server.specs.Books.{HasJoins}
use Rattle.tree_export.specs.declared.export.TreeExport.{TreeExport}
use Rattle.script_run.specs.Moves.{reply_or_want}
use Rattle.script_server.specs.Meaning.Sources.{Means}
use Rattle.script_server.specs.Meaning.Exports.{export_reply, AnswersExport}

-- how often a solid was asked for, and its share of the memo's books
pub record ClientBooks : Type 0 where
  pub asked : ℕ
  pub share : ShareView

-- All n joins of an export were asked for: from one share to another the probes rose by n, which is below 2^32, and the fills
-- that were offered by as many as the misses.
pub record AreAllProbed (n : ℕ) (old new : ShareView) : Type 0 where
  pub few : n < 2 ^ 32
  pub probes : probes_of new ≡ probes_of old + n
  pub offered : offers_of new + old.misses ≡ offers_of old + new.misses

-- Of n joins some were asked for, and where the export lacks no solid all of them. The share is the same caller's.
pub record AreProbed (solved : Type 0) (n : ℕ) (old new : ShareView) : Type 0 where
  pub caller : new.caller ≡ old.caller
  pub least : probes_of old ≤ probes_of new
  pub most : probes_of new ≤ probes_of old + n
  pub all : solved → AreAllProbed n old new

-- each join of the tree that a source means may be asked for
pub record MayAskFor (unit : LengthUnit) (may_ask : Tree → Type 0) (source : List ℕ) : Type 0 where
  pub each : (tree : Tree) → Means unit source tree → MayAskJoins may_ask (nodes_of tree)

-- an export was answered, and lacks no solid
abbrev pub IsSolved : Result TreeExport NoMemory → Type 0
IsSolved (Ok out) = IsSolvedReply (export_reply out)
IsSolved (Err none) = ⊥

-- an export of a source that is answered so: the probes rose by at most the joins of its source, and where it lacks no solid by
-- these
abbrev pub Probes : LengthUnit → List ℕ → Reply → ClientBooks → ClientBooks → Type 0
Probes unit source r old new = (n : ℕ) × HasJoins unit source n × AreProbed (IsSolvedReply r) n old.share new.share

-- what an export for a client gives, and what it makes of the client's books, whatever came of it
pub record ExportsFor (unit : LengthUnit) (source : List ℕ) (r : Result Reply NoMemory) (old new : ClientBooks) : Type 0 where
  pub reply : IfOk r (AnswersExport unit source)
  pub probed : Probes unit source (reply_or_want r) old new
  pub asked : new.asked ≤ old.asked + 1
