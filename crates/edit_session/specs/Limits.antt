-- What a session keeps.
use Rattle.std.specs.Prelude.{◌≤◌, length, All}
use Rattle.script_reader.specs.Limits.{IsText}
use Rattle.edit_session.specs.Sessions.{State}

-- a session within its limits
pub record IsWithinSessionLimits (s : State) : Type 0 where
  pub few : length s.lines ≤ 4096
  pub texts : All IsText s.lines
  pub shows : s.shows ≤ 16
  pub exports : s.exports ≤ 16
