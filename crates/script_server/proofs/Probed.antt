-- How many probes an export makes, whatever comes of it.
use Rattle.std.proofs.Common.{◌≡◌, ℕ, ◌+◌, ◌^◌, ◌<◌, ◌≤◌, Result, Ok, Err, IfOk, OnErr, refl, subst, arith}
use Rattle.std.specs.Prelude.{IsOk}
use Rattle.std.specs.declared.sync.Arc.{Arc}
use Rattle.plain_text.specs.declared.memory.NoMemory.{NoMemory}
use Rattle.subtree_memo.specs.Shares.{ShareView, probes_of, offers_of}
use Rattle.export_limits.specs.declared.passed.PassedLimit.{PassedLimit as Limit}
use Rattle.export_limits.specs.Limits.{IsSizeLimit}
use Rattle.reply_text.specs.Sums.{IsSolvedReply}
use Rattle.tree_export.specs.declared.export.TreeExport.{TreeExport}
use Rattle.tree_export.specs.declared.export.TreeExport.TheVariants as exported
use Rattle.parallel_eval.specs.Joins.{AreAsked}
use Rattle.script_server.specs.Meaning.Exports.{export_reply}
use Rattle.script_server.specs.Clients.{AreAllProbed, AreProbed, IsSolved}

-- an export without joins asks for nothing
pub none_asked : (solved : Type 0) (share : ShareView) → AreProbed solved 0 share share
none_asked solved share = record {
  caller = refl;
  least = omega arith;
  most = omega arith;
  all = λ _. record { few = omega arith; probes = omega arith; offered = refl };
}

-- an export for which memory ran out before a solid was asked for
pub unasked : (n : ℕ) (share : ShareView) → AreProbed ⊥ n share share
unasked n share = record { caller = refl; least = omega arith; most = omega arith; all = λ none. absurd none }

-- joins that were asked of a memo
pub asked_of_memo : (done : Type 0) (n : ℕ) (share share' : ShareView) (count count' : ℕ) → AreAsked done 0 n share share' count count' → n < 2 ^ 32 → AreProbed done n share share'
asked_of_memo done n share share' count count' asked few =
    let begun = asked.begun in
    let hits = begun.hits in let misses = begun.misses in let most = begun.probes in record {
      caller = asked.caller;
      least = omega (arith, hits, misses);
      most = omega (arith, most);
      all = λ d. (let answered = asked.answered d in let probes = answered.probes in record {
        few = few;
        probes = omega (arith, probes);
        offered = answered.offered;
      });
    }

-- what the contract says about an export whose solid passed a limit of size
abbrev pub Stopped : {T E : Type 0} → Result T E → Result TreeExport NoMemory → Type 0
Stopped made out = OnErr made (IfOk out (λ o. (passed : Limit) × IsSizeLimit passed × (o ≡ exported.PassedLimit passed)))

-- an export that lacks no solid has made it
solved_made : {T E : Type 0} (made : Result T E) (out : Result TreeExport NoMemory) → Stopped made out → IsSolved out → IsOk made
solved_made {T} {E} (Ok solid) out stopped solved = refl
solved_made {T} {E} (Err why) (Ok o) (passed, limit, e) solved = absurd (subst (λ (x : TreeExport). IsSolvedReply (export_reply x)) e solved limit)
solved_made {T} {E} (Err why) (Err none) stopped solved = absurd solved

pub export_probed : {T E : Type 0} (made : Result T E) (out : Result TreeExport NoMemory) (n : ℕ) (old new : ShareView) → Stopped made out → AreProbed (IsOk made) n old new → AreProbed (IsSolved out) n old new
export_probed {T} {E} made out n old new stopped probed = record {
  caller = probed.caller;
  least = probed.least;
  most = probed.most;
  all = λ solved. probed.all (solved_made made out stopped solved);
}
