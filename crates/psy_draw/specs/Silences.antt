-- From when on variables are silent.
use Rattle.std.specs.Prelude.{ℕ, List, [], ◌∷◌, bytes_eq, cond, Option, None, Some}
use Rattle.psy_draw.specs.declared.silence.Silence.{Silence}

-- A variable, and the date from which on it is silent
pub record Silent : Type 0 where
  pub name : List ℕ
  pub date : ℕ

-- What a silence says
abbrev pub silent_of : Silence → Silent
silent_of silence = record { name = silence.variable.now; date = silence.date }

-- From when on a variable is silent, where it is: as the first silence of its name says
abbrev pub silence_at : List Silent → List ℕ → Option ℕ
silence_at [] name = None
silence_at (silent ∷ silences) name = cond (bytes_eq silent.name name) (Some silent.date) (silence_at silences name)
