use Rattle.std.proofs.Common.{◌≡◌, Some, rules}
use Rattle.ledger.specs.Turns.Turn.{tally}
use Rattle.ledger.proofs.Lawful.{by_law}
use Rattle.docket.specs.Answers.{as_done, as_length, as_verdict, got}
use Rattle.docket.proofs.Takes.{check_went, same, show_went, went}
use Rattle.docket.proofs.docket.Docket.respond.Goals as goal

pub returns-in-Enter-clause-law : goal.returns-in-Enter-clause-law
returns-in-Enter-clause-law g c =
    let e : got as_done c.map.result ≡ Some c.enter.result = search rules in
    rw c.in-Enter.is (went _ _ _ _ _ e c.enter.ensures)

pub returns-in-Strike-clause-law : goal.returns-in-Strike-clause-law
returns-in-Strike-clause-law g c =
    let e : got as_done c.map-in-Strike.result ≡ Some c.strike.result = search rules in
    rw c.in-Strike.is (went _ _ _ _ _ e c.strike.ensures)

pub returns-in-Show-clause-law : goal.returns-in-Show-clause-law
returns-in-Show-clause-law g c =
    let e : got as_length c.map-in-Show.result ≡ Some c.show.result = search rules in
    rw c.in-Show.is (show_went _ _ _ _ _ _ e c.show.ensures)

pub returns-in-Check-clause-law : goal.returns-in-Check-clause-law
returns-in-Check-clause-law g c =
    let e : got as_verdict c.map-in-Check.result ≡ Some c.check.result = search rules in
    rw c.in-Check.is (check_went _ _ _ _ _ _ _ _ _ e c.check.ensures)

pub returns-in-Tally-clause-law : goal.returns-in-Tally-clause-law
returns-in-Tally-clause-law g c =
    rw c.in-Tally.is (by_law _ (tally c.tally.result) _ (record { counted = c.tally.ensures; same = same _ }))
