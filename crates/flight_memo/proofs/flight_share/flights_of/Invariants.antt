use Rattle.std.proofs.Common.{◌≡◌, ◌+◌, ◌*◌, ◌≤◌, All, length, vec_len, vec_capacity}
use Rattle.subtree_memo.specs.Shares.{parts_each}
use Rattle.flight_memo.specs.Shares.{opened_flights}
use Rattle.flight_memo.proofs.Opened.{IsFreshShare}
use Rattle.flight_memo.proofs.flight_share.flights_of.Given as goal

-- the shares so far have theirs of the claims, and the parts that are left are for the others
abbrev pub invariant-loop-share : goal.invariant-loop-share
invariant-loop-share g l = record {
  fresh : All IsFreshShare l.share-iterator.rest.items;
  items : l.flights.items ≡ opened_flights l.yielded;
  many : vec_len l.flights ≡ length l.yielded;
  room : length l.fn.shares.items ≤ vec_capacity l.flights;
  begun : (l.begun.parts + parts_each * length l.yielded ≡ parts_each * length l.fn.shares.items) × (l.begun.amount ≡ 0);
  held : (l.held.parts + parts_each * length l.yielded ≡ parts_each * length l.fn.shares.items) × (l.held.amount ≡ 0);
}
