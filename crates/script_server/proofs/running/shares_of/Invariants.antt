use Rattle.std.proofs.Common.{◌≡◌, ◌≤◌, ◌++◌, All, map, length}
use Rattle.std.specs.Prelude.{vec_capacity}
use Rattle.subtree_memo.specs.Shares.{parts_each, offers_of}
use Rattle.flight_memo.specs.Shares.{FlightView}
use Rattle.script_server.proofs.running.shares_of.Given as goal

-- the shares so far, and those of the exporters that are left, are all
abbrev pub invariant-loop-exporter : goal.invariant-loop-exporter
invariant-loop-exporter g l = record {
  whole : All (λ (s : FlightView). (s.share.parts ≡ parts_each) × (offers_of s.share ≤ s.share.misses)) l.shares.items;
  many : length l.shares.items ≡ length l.yielded;
  room : length l.fn.exporters.items ≤ vec_capacity l.shares;
  all : map (λ (s : FlightView). s.share) l.shares.items ++ map (λ e. e.client.share) l.exporter-iterator.rest.items ≡ map (λ e. e.client.share) l.fn.exporters.items;
}
