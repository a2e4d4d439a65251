-- Which keys clients ask for.
use Rattle.std.proofs.Common.{◌≡◌, ◌↔◌, ℕ, zero, suc, ◌+◌, ◌≤◌, List, [], ◌∷◌, ◌++◌, Some, All, length, map, refl, sym, subst, ◌∙◌, arith}
use Rattle.std.specs.Prelude.{slice_get}
use Rattle.std.proofs.Math.Logic.{∥∥₁_map}
use Rattle.std.proofs.lemmas.List.Elements.{All-head, All-tail, All-weaker}
use Rattle.plane_predicate.specs.declared.unit.Unit.{Unit as LengthUnit}
use Rattle.csg_tree.specs.HalfSpaceTrees.{Tree}
use Rattle.memo_core.specs.Memo.{JournalRecord}
use Rattle.subtree_memo.specs.Shares.{ShareView, fresh_share, opened_shares, parts_each}
use Rattle.subtree_memo.specs.Allowed.{AreAllowed}
use Rattle.script_reader.specs.declared.script.ClientScript.{ClientScript}
use Rattle.edit_session.specs.Sessions.{start_state}
use Rattle.script_run.specs.Asking.{MayExport, AreFresh}
use Rattle.script_server.specs.Books.{IsAskedBy, AreAskedBy}
use Rattle.script_server.specs.Clients.{MayAskFor}
use Rattle.script_server.proofs.Books.{opened_many}

-- shares are those of callers from a number on
abbrev AreNumbered : ℕ → List ShareView → Type 0
AreNumbered k [] = Unit {0}
AreNumbered k (v ∷ vs) = (v.caller ≡ k) × AreNumbered (suc k) vs

numbered_push : (k n : ℕ) (vs : List ShareView) (v : ShareView) → n ≡ k + length vs → v.caller ≡ n → AreNumbered k vs → AreNumbered k (vs ++ v ∷ [])
numbered_push k n [] v is own all = (own ∙ omega (arith, is), tt)
numbered_push k n (w ∷ vs) v is own all = (all.0, numbered_push (suc k) n vs v (omega (arith, is)) own all.1)

numbered_opened : (n : ℕ) → AreNumbered 0 (opened_shares n)
numbered_opened zero = tt
numbered_opened (suc n) = numbered_push 0 n (opened_shares n) (fresh_share n parts_each) (omega (arith, opened_many n)) refl (numbered_opened n)

module _ {E : Type 0} (share : E → ShareView) (asked : E → ℕ) (Can : List ℕ → E → Type 0) (May : ℕ → List ℕ → Type 0) where
  fresh_from : (k : ℕ) (clients : List ClientScript) (es : List E) → AreNumbered k (map share es) → length clients ≤ length es → All (λ e. asked e ≡ 0) es →
      ((i : ℕ) (client : ClientScript) (source : List ℕ) → slice_get clients i ≡ Some client → MayExport start_state client.commands source → May (k + i) source) →
      ((e : E) (source : List ℕ) → May (share e).caller source → Can source e) → AreFresh asked Can clients es
  fresh_from k [] es numbered few none may can = tt
  fresh_from k (client ∷ clients) [] numbered few none may can = absurd (omega (arith, few))
  fresh_from k (client ∷ clients) (e ∷ es) numbered few none may can = (
    All-head (λ x. asked x ≡ 0) e es none,
    record {
      each = λ source exports. can e source (subst (λ n. May n source) (omega (arith, numbered.0)) (may 0 client source refl exports));
    },
    fresh_from (suc k) clients es numbered.1 (omega (arith, few)) (All-tail (λ x. asked x ≡ 0) e es none)
        (λ i other source at exports. subst (λ n. May n source) (omega arith) (may (suc i) other source at exports)) can,
  )

-- the exporters of the shares that a memo gives may export what their clients' own commands may export
pub fresh_of_opened : {E : Type 0} (share : E → ShareView) (asked : E → ℕ) (Can : List ℕ → E → Type 0) (unit : LengthUnit) (may_ask : ℕ → Tree → Type 0) (n : ℕ) (clients : List ClientScript) (es : List E) →
    ((caller : ℕ) (key : Tree) → may_ask caller key ↔ IsAskedBy unit clients caller key) → map share es ≡ opened_shares n → length clients ≤ length es → All (λ e. asked e ≡ 0) es →
    ((e : E) (source : List ℕ) → MayAskFor unit (may_ask (share e).caller) source → Can source e) → AreFresh asked Can clients es
fresh_of_opened share asked Can unit may_ask n clients es policy opened few none can =
    fresh_from share asked Can (λ k source. MayAskFor unit (may_ask k) source) 0 clients es (subst (AreNumbered 0) (sym opened) (numbered_opened n)) few none
    (λ i client source at exports. subst (λ k. MayAskFor unit (may_ask k) source) (omega arith) (may_ask_for i client source at exports)) can
  where
    may_ask_for : (i : ℕ) (client : ClientScript) (source : List ℕ) → slice_get clients i ≡ Some client → MayExport start_state client.commands source → MayAskFor unit (may_ask i) source
    may_ask_for i client source at exports = record {
      each = λ tree means. record { each = λ key among. (policy i key).1 (client, source, tree, at, exports, means, among) };
    }

-- a journal that keeps to the policy is one of the clients' own keys
pub asked_by : (unit : LengthUnit) (may_ask : ℕ → Tree → Type 0) (clients : List ClientScript) (items : List (JournalRecord Tree)) →
    ((caller : ℕ) (key : Tree) → may_ask caller key ↔ IsAskedBy unit clients caller key) → ∥ AreAllowed may_ask items ∥₁ → AreAskedBy unit clients items
asked_by unit may_ask clients items policy allowed =
    ∥∥₁_map allowed (λ a. record {
      each = All-weaker (λ (i : JournalRecord Tree). may_ask i.caller i.key) (λ (i : JournalRecord Tree). IsAskedBy unit clients i.caller i.key) (λ i may. (policy i.caller i.key).0 may) items a.each;
    })
