-- What is told of a name of another sort than its place asks for, and of a word that stands elsewhere.
use Rattle.std.specs.Prelude.{ℕ, ◌+◌, ◌-◌, Bool, true, false, ◌&&◌, if◌then◌else◌, List, [], ◌∷◌, decimal, Option, None, Some, option_map}
use Rattle.psy_tree.specs.declared.token.Kind.{Kind}
use Rattle.psy_tree.specs.declared.token.Kind.TheVariants as kinds
use Rattle.psy_tree.specs.declared.token.Sign.TheVariants as signs
use Rattle.psy_tree.specs.declared.token.Token.{Token}
use Rattle.psy_tree.specs.declared.token.Word.{Word}
use Rattle.psy_tree.specs.declared.token.Word.TheVariants.{Int, Return}
use Rattle.psy_page.specs.Templates.{fill}
use Rattle.psy_breach.specs.declared.declared.Sort.{Sort}
use Rattle.psy_breach.specs.declared.declared.Sort.TheVariants as sorts
use Rattle.psy_breach.specs.declared.role.Role.{Role}
use Rattle.psy_breach.specs.declared.role.Role.TheVariants.{Clock, Parent, Agent, Target, Messages, Past, Function, Cell, Assigned, Value}
use Rattle.psy_breach.specs.declared.sentences.TheConstants as words
use Rattle.psy_breach.specs.Declarations.{is_function, last_head, sort_of}
use Rattle.psy_breach.specs.Kinds.{is_sign, is_word}
use Rattle.psy_breach.specs.Roles.{is_called, role_of}
use Rattle.psy_breach.specs.Told.{declared_as}

-- ---- a function and its parameters

-- 1 for the word before the name of a function, and before each parameter, and 0 for another token
abbrev pub of_type : Token → ℕ
of_type token = if is_word (Some token) Int then 1 else 0

-- How often that stands before the bracket that closes the parameters
abbrev pub words_of_type : List Token → ℕ
words_of_type [] = 0
words_of_type (token ∷ more) = if is_sign (Some token) signs.CloseRound then 0 else of_type token + words_of_type more

-- How many parameters a function has
abbrev pub parameters : List Token → ℕ
parameters declaration = words_of_type declaration - 1

-- ---- what a function doesn't see

-- A value is wanted, or a variable.
abbrev pub is_value : Role → Bool
is_value Value = true
is_value Assigned = true
is_value _ = false

-- Agents share it.
abbrev pub is_shared : Option Sort → Bool
is_shared (Some sorts.Temporal) = true
is_shared (Some sorts.Input) = true
is_shared (Some sorts.Stream) = true
is_shared _ = false

-- Inside a function, which is declared last before the place, what agents share is named.
abbrev pub is_unseen : Role → Option Sort → Option Sort → Bool
is_unseen role here sort = is_value role && (is_function here && is_shared sort)

-- ---- what a place asks for

-- What is done in the place of an assignment
abbrev pub assigned_way : Option Sort → List ℕ
assigned_way (Some sorts.Array) = words.ASSIGNED_ARRAY.now
assigned_way (Some sorts.Stream) = words.ASSIGNED_STREAM.now
assigned_way (Some sorts.Input) = words.ASSIGNED_INPUT.now
assigned_way _ = words.ASSIGNED_OTHER.now

-- What gives the value
abbrev pub value_way : Option Sort → List ℕ
value_way (Some sorts.Array) = words.VALUE_OF_ARRAY.now
value_way (Some sorts.Stream) = words.VALUE_OF_STREAM.now
value_way (Some sorts.Input) = words.VALUE_OF_INPUT.now
value_way (Some sorts.Function) = words.VALUE_OF_FUNCTION.now
value_way _ = words.NO_VALUE.now

-- What the place of a name asks for, and what to do
abbrev pub way : Option Sort → Role → List ℕ
way sort Clock = words.AT_CLOCK.now
way sort Parent = words.AT_PARENT.now
way sort Agent = words.AT_AGENT.now
way sort Target = words.AT_TARGET.now
way sort Messages = words.AT_MESSAGES.now
way sort Past = words.AT_PAST.now
way sort Function = words.AT_CALL.now
way sort Cell = words.AT_CELL.now
way sort Assigned = assigned_way sort
way sort Value = value_way sort

-- ---- what is told

-- Of a name that has this declaration, in the agent or function that is declared so
abbrev pub wrong_name : List ℕ → List ℕ → List Token → Option Sort → Role → List ℕ
wrong_name text name declaration here role =
    if is_called role && is_function (sort_of declaration) then fill words.ARGUMENTS.now (name ∷ decimal (parameters declaration) ∷ [])
    else if is_unseen role here (sort_of declaration) then declared_as text name declaration words.UNSEEN.now
    else declared_as text name declaration (way (sort_of declaration) role)

-- Of a word that stands elsewhere
abbrev pub wrong_word : Word → List ℕ
wrong_word Return = words.RETURN.now
wrong_word _ = words.IN_AGENTS.now

-- Of a token, by its kind, its declaration where it is a name, and its role
abbrev pub wrong_token : List ℕ → Option Sort → Role → Option (List Token) → Kind → Option (List ℕ)
wrong_token text here role found (kinds.Name name) = option_map (λ d. wrong_name text name d here role) found
wrong_token text here role found (kinds.Word word) = Some (wrong_word word)
wrong_token text here role found _ = None

-- Of the first of these tokens, where there is one
abbrev pub wrong_told : List ℕ → List Token → List Token → Option (List Token) → Option (List ℕ)
wrong_told text front [] found = None
wrong_told text front (token ∷ more) found = wrong_token text (sort_of (last_head front)) (role_of front (token ∷ more)) found token.kind
