-- What the loop of `agents::judged` keeps.
use Rattle.std.proofs.Common.{◌≡◌, ℕ, List, drop}
use Rattle.psy_image.specs.Images.{judged}
use Rattle.psy_image.specs.Reading.{read}
use Rattle.psy_image.proofs.agents.judged.Given as goal

abbrev pub invariant-claims : goal.invariant-claims
invariant-claims l = (bytes : List ℕ) → read (judged l.agents (drop l.claim-index l.claims)) bytes ≡ read (judged l.agents l.claims) bytes
