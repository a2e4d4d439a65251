-- How the fields of claims stand for what contracts see.
use Rattle.std.specs.Prelude.{◌≡◌, ℕ, ◌+◌, ◌≤◌, Bool, not, nat_eq, List, map, length}
use Rattle.std.specs.Arc.{arc_value}
use Rattle.flight_memo.specs.declared.claims.LiveClaim.{LiveClaim}
use Rattle.flight_memo.specs.declared.claims.LogItem.{LogItem}
use Rattle.flight_memo.specs.declared.claims.LogItem.TheVariants as item
use Rattle.flight_memo.specs.Claims.{Claim, Event, Begun, Ended, ClaimsView, IsLegalLog, live_claims, begin_count, end_count}

module _ {K : Type 0} where
  -- a live claim as contracts see it
  abbrev pub claim_in : LiveClaim K → Claim K
  claim_in c = record { number = c.number; caller = c.caller; key = arc_value c.key }

  -- live claims as contracts see them
  abbrev pub claims_of : List (LiveClaim K) → List (Claim K)
  claims_of cs = map claim_in cs

  -- a live claim has a number
  abbrev pub is_item : ℕ → LiveClaim K → Bool
  is_item number c = nat_eq number c.number

  -- a live claim has another number
  abbrev pub is_other_item : ℕ → LiveClaim K → Bool
  is_other_item number c = not (is_item number c)

  -- an event as contracts see it
  abbrev pub event_of : LogItem K → Event K
  event_of (item.Begun number caller key) = Begun (record { number = number; caller = caller; key = arc_value key })
  event_of (item.Ended number filled) = Ended number filled

  -- events as contracts see them
  abbrev pub events_of : List (LogItem K) → List (Event K)
  events_of items = map event_of items

  -- What claims keep: the log is legal, the live claims are those of the log, there is room for an end of each, and those that
  -- are live and those that ended are together as many as began.
  pub record ClaimsMatchLog (begun : ℕ) (view : ClaimsView K) : Type 0 where
    pub legal : IsLegalLog view.log
    pub live : view.live ≡ live_claims view.log
    pub count : begun ≡ begin_count view.log
    pub room : length view.live ≤ view.spare
    pub all : length view.live + end_count view.log ≡ begin_count view.log
