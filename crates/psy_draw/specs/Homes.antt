-- Of which processors agents are, where it is told.
use Rattle.std.specs.Prelude.{ℕ, List, [], ◌∷◌, bytes_eq, cond, Option, None, Some}
use Rattle.psy_draw.specs.declared.home.Home.{Home}
use Rattle.psy_draw.specs.declared.home.TheConstants.{ON}
use Rattle.psy_page.specs.Spelling.{labelled}

-- What stands behind the name of an agent: ` on ` and its processor, where one is told
abbrev pub on_processor : Option ℕ → List ℕ
on_processor processor = labelled ON.now processor

-- An agent, and its processor
pub record Housed : Type 0 where
  pub agent : List ℕ
  pub processor : ℕ

-- What a home says
abbrev pub housed_of : Home → Housed
housed_of home = record { agent = home.agent.now; processor = home.processor }

-- The processor of an agent, where one is told: as the first home of its name says
abbrev pub home_at : List Housed → List ℕ → Option ℕ
home_at [] name = None
home_at (housed ∷ homes) name = cond (bytes_eq housed.agent name) (Some housed.processor) (home_at homes name)
