-- What mends a place among tokens.
use Rattle.std.specs.Prelude.{List, [], ◌∷◌, Option, None, Some}
use Rattle.psy_tree.specs.declared.token.Token.{Token}
use Rattle.psy_expect.specs.declared.around.Around.{Around}
use Rattle.psy_expect.specs.declared.terminal.Terminal.{Terminal}
use Rattle.psy_expect.specs.Terminals.{GoesOn}

-- A terminal, and those of the token at a place and of the one behind it
abbrev pub ahead_of : Terminal → Option Terminal → Option Terminal → List Terminal
ahead_of terminal (Some here) (Some behind) = terminal ∷ here ∷ behind ∷ []
ahead_of terminal (Some here) None = terminal ∷ here ∷ []
ahead_of terminal None behind = terminal ∷ []

-- Put behind these tokens, it mends the place: the program goes on with the token at the place and the one behind that.
abbrev pub Mends : List Token → Around → Terminal → Type 0
Mends front around terminal = GoesOn front (ahead_of terminal around.here around.behind)
