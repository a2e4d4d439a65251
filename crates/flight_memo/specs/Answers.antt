-- What a claim is answered.
use Rattle.std.specs.Prelude.{◌≡◌, ℕ, true, false, List, [], ◌∷◌, ◌++◌}
use Rattle.std.specs.Arc.{arc_value}
use Rattle.flight_memo.specs.declared.flight.Claimed.{Claimed}
use Rattle.flight_memo.specs.declared.flight.Claimed.TheVariants.{Value, Mine}
use Rattle.flight_memo.specs.Claims.{Event, Begun, begin_count}
use Rattle.subtree_memo.specs.Shares.{share_after_probe}
use Rattle.flight_memo.specs.Shares.{FlightView, fresh_flight}

module _ {K V : Type 0} {B S T H M L E : Type 0} where
  -- A claim of a key is answered: after a hit a value that fits, and the hit is booked on the share; after a miss a claim
  -- of this very key, which takes the share along with the miss.
  abbrev pub IsClaimed : (K → V → Type 0) → K → FlightView → FlightView → Claimed K V B S T H M L E → Type 0
  IsClaimed fits key old new (Value value) = fits key (arc_value value) × (new ≡ record { share = share_after_probe true old.share })
  IsClaimed fits key old new (Mine claim) = (claim.key ≡ key) × (claim.share ≡ share_after_probe false old.share) × (new ≡ fresh_flight old.share.caller 0)

  -- what the answer leaves in the log: nothing, or one beginning for the caller
  abbrev pub IsLogged : ℕ → K → List (Event K) → List (Event K) → Claimed K V B S T H M L E → Type 0
  IsLogged caller key old new (Value value) = new ≡ old
  IsLogged caller key old new (Mine claim) = (claim.number ≡ begin_count old)
      × (new ≡ old ++ Begun (record { number = begin_count old; caller = caller; key = key }) ∷ [])
