-- The places of lines, in lists of one length.
use Rattle.std.specs.Prelude.{ℕ, List, [], ◌∷◌}
use Rattle.psy_audit.specs.declared.faults.places.Place.{Place}
use Rattle.psy_audit.specs.declared.said.Said.{Said}
use Rattle.psy_audit.specs.declared.said.Said.TheVariants.{Acted, Published, Served, Looked, Ended}

-- What lines are ordered by, filled up by zeros
abbrev pub padded : Said → List ℕ
padded (Acted a) = 0 ∷ a.agent ∷ a.number ∷ 0 ∷ []
padded (Published p) = 1 ∷ p.variable ∷ p.date ∷ 0 ∷ []
padded (Served s) = 2 ∷ s.processor ∷ s.first ∷ 0 ∷ []
padded (Looked l) = 3 ∷ l.agent ∷ l.number ∷ l.cycle ∷ []
padded Ended = 4 ∷ 0 ∷ 0 ∷ 0 ∷ []

-- The numbers of a place, one after the other
abbrev pub listed : Place → List ℕ
listed p = p.kind ∷ p.first ∷ p.second ∷ p.third ∷ []
