-- The units of an action, turn by turn.
use Rattle.std.proofs.Common.{ℕ, ◌≤◌, List, ◌∷◌, Option, inl, inr, arith}
use Rattle.std.proofs.lemmas.Bool.{cases_Bool}
use Rattle.psy_history.specs.Schedule.{Turn, is_of, units}

pub units_more : (agent number : ℕ) (turn : Option Turn) (turns : List (Option Turn)) → units agent number turns ≤ units agent number (turn ∷ turns)
units_more agent number turn turns = elim (cases_Bool (is_of agent number turn)) [
  | inl t ↦ rw t (omega arith)
  | inr t ↦ rw t (omega arith)
]
