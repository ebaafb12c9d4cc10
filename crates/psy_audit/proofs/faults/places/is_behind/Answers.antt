-- What is left of the proof of `faults::places::is_behind`.
use Rattle.std.proofs.Common.{◌∙◌, List, ℕ, ap}
use Rattle.psy_audit.specs.Faults.{is_less}
use Rattle.psy_audit.specs.Places.{listed, padded}
use Rattle.psy_audit.proofs.Orders.{same_order}
use Rattle.psy_audit.proofs.faults.places.is_behind.Goals as goal

pub returns : goal.returns
returns c =
    let x = c.args.other.now in
    let y = c.args.said.now in
    c.is_less.ensures ∙ ap (λ (xs : List ℕ). is_less xs (listed c.place_in-behind.result)) c.place_in-before.ensures
    ∙ ap (is_less (padded x)) c.place_in-behind.ensures ∙ same_order x y
