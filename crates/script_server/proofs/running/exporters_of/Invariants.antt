use Rattle.std.proofs.Common.{◌≡◌, ◌≤◌, ◌++◌, All, map, length}
use Rattle.std.specs.Prelude.{vec_capacity}
use Rattle.flight_memo.specs.Shares.{FlightView}
use Rattle.script_server.proofs.running.exporters_of.Given as goal

-- the shares of the exporters so far, and those that are left, are all
abbrev pub invariant-loop-share : goal.invariant-loop-share
invariant-loop-share g l = record {
  alike : All (λ e. (e.client.asked ≡ 0) × (e.export ≡ l.export)) l.exporters.items;
  many : length l.exporters.items ≡ length l.yielded;
  room : length l.fn.shares.items ≤ vec_capacity l.exporters;
  all : map (λ e. e.client.share) l.exporters.items ++ map (λ (s : FlightView). s.share) l.share-iterator.rest.items ≡ map (λ (s : FlightView). s.share) l.fn.shares.items;
}
