use Rattle.std.proofs.Common.{◌≤◌, rules}
use Rattle.memo_cases.proofs.callers.run.Goals as goal

pub join-first_told-requires-after_bounds : goal.join-first_told-requires-after_bounds
join-first_told-requires-after_bounds g c κs within =
    let first : 2 ≤ c.unwrap-first.result.share.parts = search rules in
    let second : 2 ≤ c.unwrap-second.result.share.parts = search rules in
    ((first, c.requires.policy), (second, c.requires.policy))
