-- What comes of asking for a key once.
use Rattle.std.specs.Prelude.{◌≡◌}
use Rattle.flight_memo.specs.declared.desk.Asking.{Asking}
use Rattle.flight_memo.specs.declared.desk.Asking.TheVariants.{Answer, Wait}
use Rattle.flight_memo.specs.Claims.{ClaimsView, IsFree}
use Rattle.flight_memo.specs.Shares.{FlightView}
use Rattle.flight_memo.specs.Answers.{IsClaimed, IsLogged}

module _ {K V : Type 0} {B S T H M L E : Type 0} where
  -- A key is asked for once. It is answered where no live claim has it, and where one has, its end is to be waited for, and
  -- nothing is booked and no claim begins.
  abbrev pub IsAsked : (K → V → Type 0) → K → FlightView → FlightView → ClaimsView K → ClaimsView K → Asking K V B S T H M L E → Type 0
  IsAsked fits key old new claims claims' (Answer claimed) =
      IsClaimed fits key old new claimed × IsFree key claims.live × IsLogged old.share.caller key claims.log claims'.log claimed
  IsAsked fits key old new claims claims' (Wait ended) = (new ≡ old) × (claims'.log ≡ claims.log) × (IsFree key claims.live → ⊥)
