use Rattle.std.proofs.Common.{◌≡◌, ◌∷◌, length, sym, arith}
use Rattle.std.proofs.lemmas.Grind.{common_steps}
use Rattle.std.proofs.lemmas.List.Elements.{All-head, All-rest, All-same}
use Rattle.subtree_memo.specs.Shares.{opened_shares}
use Rattle.flight_memo.proofs.Opened.{IsFreshShare, opened_fresh}
use Rattle.flight_memo.proofs.flight_share.flights_of.Goals as goal

pub invariant_of-push_reserved : goal.invariant_of-push_reserved
invariant_of-push_reserved g c =
    let left : c.loop-share.share-iterator.rest.items ≡ c.in-Some.share ∷ c.next.new.self.rest.items = c.in-Some.ensures.steps.0 in
    let fresh : IsFreshShare c.in-Some.share = All-head IsFreshShare c.in-Some.share c.next.new.self.rest.items (All-same IsFreshShare (c.in-Some.share ∷ c.next.new.self.rest.items) c.loop-share.share-iterator.rest.items (sym left) c.loop-share.invariant.fresh) in
    (omega (arith, fresh), omega (arith, fresh), omega (arith, fresh), omega (arith, fresh))

pub loop-share-init : goal.loop-share-init
loop-share-init g c = record {
  fresh = All-same IsFreshShare c.into_iter-share-iterator.result.rest.items (opened_shares (length c.args.shares.items)) (cc) (opened_fresh (length c.args.shares.items));
  items = grind (arith, common_steps);
  many = grind (arith, common_steps);
  room = grind (arith, common_steps);
  begun = grind (arith, common_steps);
  held = grind (arith, common_steps);
}

pub loop-share-preserved : goal.loop-share-preserved
loop-share-preserved g c =
    let left : c.loop-share.share-iterator.rest.items ≡ c.in-Some.share ∷ c.next.new.self.rest.items = c.in-Some.ensures.steps.0 in
    record {
      fresh = All-rest IsFreshShare c.in-Some.share c.next.new.self.rest.items c.loop-share.share-iterator.rest.items left c.loop-share.invariant.fresh;
      items = grind (arith, common_steps);
      many = grind (arith, common_steps);
      room = grind (arith, common_steps);
      begun = grind (arith, common_steps);
      held = grind (arith, common_steps);
    }
