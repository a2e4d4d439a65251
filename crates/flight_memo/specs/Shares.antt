-- What contracts see of a caller's share of the books of a memo and its claims.
use Rattle.std.specs.Prelude.{◌≡◌, ℕ, List, map, min, sum_by}
use Rattle.subtree_memo.specs.Shares.{ShareView, fresh_share, joined_share, dropped_max}

-- One caller's share: that of the memo's books. As many claims began and ended on it as there were misses.
pub record FlightView : Type 0 where
  pub share : ShareView

-- a share with nothing booked
abbrev pub fresh_flight : ℕ → ℕ → FlightView
fresh_flight caller parts = record { share = fresh_share caller parts }

-- two shares of one caller put together
abbrev pub joined_flights : FlightView → FlightView → FlightView
joined_flights a b = record { share = joined_share a.share b.share }

-- shares of a memo on which nothing is booked, with their claims
abbrev pub opened_flights : List ShareView → List FlightView
opened_flights shares = map (λ s. record { share = s }) shares

-- all shares put together: their parts, and what was booked on them
pub record IsAllOf (shares : List FlightView) (all : FlightView) : Type 0 where
  pub parts : all.share.parts ≡ sum_by (λ s. s.share.parts) shares
  pub hits : all.share.hits ≡ sum_by (λ s. s.share.hits) shares
  pub misses : all.share.misses ≡ sum_by (λ s. s.share.misses) shares
  pub kept : all.share.kept ≡ sum_by (λ s. s.share.kept) shares
  pub heavy : all.share.heavy ≡ sum_by (λ s. s.share.heavy) shares
  pub dropped : min all.share.dropped dropped_max ≡ min (sum_by (λ s. s.share.dropped) shares) dropped_max
