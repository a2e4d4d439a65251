-- A source that has no tree is answered by its fault, and no solid is asked for.
use Rattle.std.proofs.Common.{◌≡◌, ◌+◌, ◌≤◌, ◌⊎◌, inl, inr, ℕ, List, Ok, Err, refl, arith}
use Rattle.text_place.specs.declared.fault.Fault.{Fault}
use Rattle.plain_text.specs.declared.memory.NoMemory.{NoMemory}
use Rattle.plane_predicate.specs.declared.unit.Unit.{Unit as LengthUnit}
use Rattle.csg_tree.specs.HalfSpaceTrees.{Tree}
use Rattle.csg_tree.specs.Numberings.{nodes_of}
use Rattle.bsp_boolean.specs.TreeSolids.{join_count}
use Rattle.reply_text.specs.declared.reply.Reply.TheVariants as reply
use Rattle.script_server.specs.Books.{HasJoins}
use Rattle.script_server.specs.Meaning.Sources.{Means, HasSourceFault}
use Rattle.script_server.specs.Clients.{ClientBooks, AreProbed, ExportsFor}
use Rattle.script_server.proofs.SomeReply.{MeansSome}
use Rattle.script_server.proofs.Probed.{none_asked, unasked}

pub fault_answered : (unit : LengthUnit) (source : List ℕ) (fault : Fault) (books : ClientBooks) → HasSourceFault unit source fault
    → ExportsFor unit source (Ok (reply.Faulted fault)) books books
fault_answered unit source fault books h = record {
  reply = record { meaning = h; rule = inl (fault, h, refl) };
  probed = (0, inl (fault, h, refl), none_asked _ books.share);
  asked = omega arith;
}

-- each source has a number of joins
pub some_joins : (unit : LengthUnit) (source : List ℕ) → MeansSome unit source → (n : ℕ) × HasJoins unit source n
some_joins unit source (inl (tree, means)) = (join_count (nodes_of tree), inr (tree, means, refl))
some_joins unit source (inr (fault, has)) = (0, inl (fault, has, refl))

-- also one for whose tree there was no memory
pub want_answered : ((unit : LengthUnit) (source : List ℕ) → MeansSome unit source) → (unit : LengthUnit) (source : List ℕ) (none : NoMemory) (books : ClientBooks)
    → ExportsFor unit source (Err none) books books
want_answered some unit source none books =
    let (n, has) = some_joins unit source (some unit source) in record {
      reply = tt;
      probed = (n, has, unasked n books.share);
      asked = omega arith;
    }
