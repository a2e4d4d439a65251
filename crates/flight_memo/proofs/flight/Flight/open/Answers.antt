use Rattle.std.proofs.Common.{◌≡◌, length, ap, sym, ◌∙◌, arith}
use Rattle.subtree_memo.specs.Shares.{opened_shares}
use Rattle.flight_memo.proofs.Opened.{opened_length}
use Rattle.flight_memo.proofs.flight.Flight.open.Goals as goal

pub flights_of-requires-clause-shares : goal.flights_of-requires-clause-shares
flights_of-requires-clause-shares g c =
    let many : length c.args.shares.items ≡ c.args.blanks.callers = ap length c.requires.shares ∙ opened_length c.args.blanks.callers in
    c.requires.shares ∙ ap opened_shares (sym many)

pub flights_of-requires-clause-begun : goal.flights_of-requires-clause-begun
flights_of-requires-clause-begun g c =
    let many : length c.args.shares.items ≡ c.args.blanks.callers = ap length c.requires.shares ∙ opened_length c.args.blanks.callers in
    (omega (arith, many, c.open-begun.ensures.parts, c.requires.ledgers.0.1, c.args.blanks.cut.0), c.open-begun.ensures.amount)

pub flights_of-requires-clause-held : goal.flights_of-requires-clause-held
flights_of-requires-clause-held g c =
    let many : length c.args.shares.items ≡ c.args.blanks.callers = ap length c.requires.shares ∙ opened_length c.args.blanks.callers in
    (omega (arith, many, c.open-held.ensures.parts, c.requires.ledgers.1.1, c.args.blanks.cut.1), c.open-held.ensures.amount)
