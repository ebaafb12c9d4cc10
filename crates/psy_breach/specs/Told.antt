-- What a name is by its declaration.
use Rattle.std.specs.Prelude.{ℕ, List, [], ◌∷◌, decimal, Option, None, Some, option_map}
use Rattle.psy_tree.specs.declared.token.Token.{Token}
use Rattle.psy_page.specs.Templates.{fill}
use Rattle.psy_spot.specs.Spots.{line_at}
use Rattle.psy_breach.specs.declared.declared.Sort.{Sort}
use Rattle.psy_breach.specs.declared.declared.Sort.TheVariants.{Clock, Temporal, Input, Stream, Agent, Function, Array, Variable}
use Rattle.psy_breach.specs.declared.sentences.TheConstants as words
use Rattle.psy_breach.specs.Declarations.{place_of, sort_of}

-- What a declaration declares, in words
abbrev pub sort_words : Option Sort → List ℕ
sort_words (Some Clock) = words.CLOCK.now
sort_words (Some Temporal) = words.TEMPORAL.now
sort_words (Some Input) = words.INPUT.now
sort_words (Some Stream) = words.STREAM.now
sort_words (Some Agent) = words.AGENT.now
sort_words (Some Function) = words.FUNCTION.now
sort_words (Some Array) = words.ARRAY.now
sort_words (Some Variable) = words.VARIABLE.now
sort_words None = words.NAME.now

-- What a name is by its declaration, the line of that, and what is told of it
abbrev pub declared_as : List ℕ → List ℕ → List Token → List ℕ → List ℕ
declared_as text name declaration told =
    fill words.DECLARED.now (name ∷ sort_words (sort_of declaration) ∷ decimal (line_at text (place_of declaration)) ∷ told ∷ [])

-- The same of a name that may have one
abbrev pub declared : List ℕ → List ℕ → Option (List Token) → List ℕ → Option (List ℕ)
declared text name declaration told = option_map (λ d. declared_as text name d told) declaration
