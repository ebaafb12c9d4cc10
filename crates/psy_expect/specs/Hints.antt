-- What is told of common slips: rules over what stands around the token at fault, what may stand there, and what mends it. The first that fits is told.
use Rattle.std.specs.Prelude.{ℕ, ◌==◌, Bool, true, false, ◌&&◌, ◌||◌, not, nat_le, if◌then◌else◌, List, [], ◌∷◌, codes, length, Option, None, Some, find}
use denote.Enum.Bare.{sameb}
use Rattle.psy_tree.specs.declared.token.Word.TheVariants as words
use Rattle.psy_tree.specs.declared.token.Sign.TheVariants as signs
use Rattle.psy_expect.specs.contracts.foreign.Foreign as foreign_kind
use Rattle.psy_expect.specs.declared.around.Around.{Around}
use Rattle.psy_expect.specs.declared.foreign.Foreign.{Foreign}
use Rattle.psy_expect.specs.declared.foreign.Foreign.TheVariants as foreign
use Rattle.psy_expect.specs.declared.hint.Hint.{Hint}
use Rattle.psy_expect.specs.declared.hint.Hint.TheVariants.{DeclarationInBody, DeclarationBehindBody, Width, Types, NoType, Modifier, Void, FunctionWord, NoFor}
use Rattle.psy_expect.specs.declared.hint.Hint.TheVariants.{OtherLoop, Jump, Switch, ElseIf, Else, SmallLetters, Then, Times, Logical, Wait, ValueAlone}
use Rattle.psy_expect.specs.declared.hint.Hint.TheVariants.{TickAsClock, Increment, Compound, LessOrEqual, Unlike, Power, UnaryPlus, Square, Global}
use Rattle.psy_expect.specs.declared.hint.Hint.TheVariants.{NoValue, NameAlone, Chain, Comparison, Assignment, OneByOne, Call, Prototype, Brackets}
use Rattle.psy_expect.specs.declared.hint.Hint.TheVariants.{NumberAlone, LeaveOut, EmptyCondition, Extra, Braces, After, NoStatement, Outside, NoBody}
use Rattle.psy_expect.specs.declared.hint.Hint.TheVariants.{Back, Close, ElseAlone, Semicolon, FormTick, Missing, Reserved, SemicolonAtEnd, FormClock}
use Rattle.psy_expect.specs.declared.hint.Hint.TheVariants.{FormTemporal, FormInput, FormStream, FormAgent, FormInt, FormIf, FormWhile, FormSend}
use Rattle.psy_expect.specs.declared.hint.Hint.TheVariants.{FormAdvance, FormAssign, FunctionInside, Print, NotEqual, NoResult, BodyMissing}
use Rattle.psy_expect.specs.declared.hint.Hint.TheVariants.{Ended, BodyEnded, SecondTick, SecondBody, InsideAgent, NoSemicolon, LookName, Cast, ReservedCall}
use Rattle.psy_expect.specs.declared.hint.Hint.TheVariants.{NoParameters, Structure, External, IncrementWithin, Arrow, Pointer, Sizeof, MaxAlone}
use Rattle.psy_expect.specs.declared.hint.Hint.TheVariants.{Round, AdvanceAlone, Signed, Block, LoopComparison, FormType}
use Rattle.psy_expect.specs.declared.hint.Hint.TheVariants.{Constant, Repeats, Cells, Dimension, FunctionArray, Period, FirstTemporal, FirstInput, Depth}
use Rattle.psy_expect.specs.declared.terminal.Terminal.{Terminal}
use Rattle.psy_expect.specs.declared.terminal.Terminal.TheVariants.{Word, Name, Number, Sign}
use Rattle.psy_expect.specs.declared.group.Group.TheVariants.{Statement, Expression, Operator, TypeName}
use Rattle.psy_expect.specs.Phrases.{same, has, members}

-- It is there, and this terminal
abbrev pub is : Option Terminal → Terminal → Bool
is (Some t) u = same t u
is None u = false

-- It is there, and one of these
abbrev pub is_among : Option Terminal → List Terminal → Bool
is_among (Some t) us = has us t
is_among None us = false

-- It is there, and a reserved word
abbrev pub is_reserved : Option Terminal → Bool
is_reserved (Some (Word w)) = true
is_reserved _ = false

-- Nothing is there
abbrev pub is_nothing : Option Terminal → Bool
is_nothing None = true
is_nothing (Some t) = false

-- A word of another language is there, and of this sort
abbrev pub is_foreign : Option Foreign → Foreign → Bool
is_foreign (Some f) g = sameb foreign_kind.the_type f g
is_foreign None g = false

-- There are some, and so few that they are told, or operators among them, which are told as one
abbrev pub is_some_few : List Terminal → Bool
is_some_few mends = not (length mends == 0) && (nat_le (length mends) 3 || has mends (Sign signs.Percent))

-- The words of types other than `int`
abbrev pub WIDTHS : List Terminal
WIDTHS = Word words.Int8 ∷ Word words.Int16 ∷ Word words.Int32 ∷ Word words.Int64 ∷ []

-- The words that begin a declaration, but for `int`
abbrev pub HEADS : List Terminal
HEADS = Word words.Agent ∷ Word words.Clock ∷ Word words.Input ∷ Word words.Stream ∷ Word words.Temporal ∷ []

-- The words that begin a statement or a part of one
abbrev pub BEGINNINGS : List Terminal
BEGINNINGS = Word words.Advance ∷ Word words.Else ∷ Word words.If ∷ Word words.Return ∷ Word words.Send ∷ Word words.While ∷ []

-- The words that begin a value
abbrev pub LOOKS : List Terminal
LOOKS = Word words.Past ∷ Word words.Ready ∷ Word words.Take ∷ []

-- What begins a value that isn't a number alone
abbrev pub VALUES : List Terminal
VALUES =
    Word words.Int ∷ Word words.Int8 ∷ Word words.Int16 ∷ Word words.Int32 ∷ Word words.Int64 ∷ Word words.Past ∷ Word words.Ready ∷ Word words.Take
    ∷ Name ∷ Sign signs.OpenRound ∷ Sign signs.Minus ∷ []

-- The operators that another language joins with `=`
abbrev pub JOINED : List Terminal
JOINED = Sign signs.Plus ∷ Sign signs.Minus ∷ Sign signs.Star ∷ Sign signs.Slash ∷ Sign signs.Percent ∷ Sign signs.Amp ∷ Sign signs.Caret ∷ Sign signs.Bar ∷ []

-- The operators of sums and products
abbrev pub OPERATORS : List Terminal
OPERATORS = Sign signs.Plus ∷ Sign signs.Minus ∷ Sign signs.Star ∷ Sign signs.Slash ∷ Sign signs.Percent ∷ []

-- What ends the declaration of a variable, or goes on in it
abbrev pub ENDINGS : List Terminal
ENDINGS = Sign signs.Assign ∷ Sign signs.Semicolon ∷ Sign signs.OpenSquare ∷ []

-- The words before a condition
abbrev pub CONDITIONS : List Terminal
CONDITIONS = Word words.If ∷ Word words.While ∷ []

-- The brackets that close
abbrev pub CLOSINGS : List Terminal
CLOSINGS = Sign signs.CloseRound ∷ Sign signs.CloseSquare ∷ Sign signs.CloseBrace ∷ []

-- The sign stands here and directly behind it, or here and directly before it, as one more of its kind
abbrev pub is_twice : Around → Terminal → Bool
is_twice a t = is a.here t && ((is a.behind t && a.is_joined_behind) || (is a.before t && a.is_joined_before))

-- What stands before a value, other than an operator
abbrev pub OPENINGS : List Terminal
OPENINGS =
    Sign signs.Assign ∷ Sign signs.OpenRound ∷ Sign signs.OpenSquare ∷ Sign signs.Comma ∷ Word words.Return ∷ Word words.Send ∷ []

-- The words that begin a declaration in which no type is written
abbrev pub UNTYPED : List Terminal
UNTYPED = Word words.Input ∷ Word words.Stream ∷ Word words.Temporal ∷ []

-- This word of a type is there, or another
abbrev pub is_type : Option Terminal → Bool
is_type there = is_among there (members TypeName)

-- The word of a type is here, and what stands behind it is no cast's bracket
abbrev pub is_typed : Around → Bool
is_typed a = is_type a.here && not (is a.behind (Sign signs.OpenRound))

-- A variable of another type than `int` is declared outside of agents and functions
abbrev pub is_typed_outside : Around → List Terminal → Bool
is_typed_outside a told =
    has told (Word words.Agent) && (is_among a.further ENDINGS && (is_among a.here WIDTHS || is_foreign a.foreign_here foreign.TypeWord))

-- A type is here, in a declaration in which none is written, or before one
abbrev pub is_type_in_vain : Around → List Terminal → Bool
is_type_in_vain a told = is_type a.here && ((has told Name && is_among a.starter UNTYPED) || is_among a.behind UNTYPED)

-- Another type than `int` is here, where there is `int` alone
abbrev pub is_width : Around → List Terminal → Bool
is_width a told =
    (is_among a.here WIDTHS || is_foreign a.foreign_here foreign.TypeWord)
    && (has told (Word words.Int) && not (has told (Word words.Int8) || is_typed_outside a told))

-- An expression begins here, and with no name
abbrev pub is_nameless : Option Terminal → Bool
is_nameless here = is_among here (members Expression) && not (is here Name)

-- A function begins here among statements or behind a body, or its parameters are here, inside an agent or another function
abbrev pub is_function_inside : Around → List Terminal → Bool
is_function_inside a told =
    (is_typed a && (is a.further (Sign signs.OpenRound) && has told (Sign signs.CloseBrace)))
    || (is a.here (Sign signs.OpenRound) && (is_type a.starter
    && (has told (Sign signs.Assign) && (is_type a.behind || is a.behind (Sign signs.CloseRound)))))

-- A statement begins here, or an `else`
abbrev pub is_statement : Option Terminal → Bool
is_statement here = is_among here BEGINNINGS || is here Name

-- A statement begins here, an assignment where it is a name, or an `else`, behind a `}`
abbrev pub has_ended : Around → Bool
has_ended a =
    is a.before (Sign signs.CloseBrace)
    && (is_among a.here BEGINNINGS || (is a.here Name && (is a.behind (Sign signs.Assign) || is a.behind (Sign signs.OpenSquare))))

-- A comma may stand here, or else a bracket that closes, as behind the name that `past`, `ready` or `take` has in its brackets
abbrev pub is_one_behind : List Terminal → Bool
is_one_behind told = if has told (Sign signs.Comma) then not (has told (Sign signs.CloseRound)) else has told (Sign signs.CloseRound)

-- An expression stands in those brackets: in the place of the name, or going on behind it
abbrev pub is_look : Around → List Terminal → Bool
is_look a told =
    (is a.before (Sign signs.OpenRound) && (has told Name && (not (has told (Sign signs.Tilde)) && is_nameless a.here)))
    || (is a.before Name && (is_one_behind told && (not (has told (Sign signs.Plus))
    && (is_among a.here (members Operator) || (is a.here (Sign signs.OpenSquare) || is a.here (Sign signs.OpenRound))))))

-- A reserved word is called, other than one before a condition
abbrev pub is_called : Around → Bool
is_called a = is_reserved a.here && (is a.behind (Sign signs.OpenRound) && not (is_among a.here CONDITIONS))

-- A word of this sort stands where a declaration may begin, or began what looks like a statement.
abbrev pub begins_foreign : Around → List Terminal → Foreign → Bool
begins_foreign a told f = (is_foreign a.foreign_here f && has told (Word words.Int)) || (is_foreign a.foreign_before f && has told (Sign signs.Assign))

-- Two `-` stand before this, one directly behind the other.
abbrev pub has_minuses : Around → Bool
has_minuses a = is a.before (Sign signs.Minus) && (is a.earlier (Sign signs.Minus) && a.is_joined_earlier)

-- `++` is here, or `--` stands before this, where a value is to go on
abbrev pub is_step_within : Around → List Terminal → Bool
is_step_within a told = has told (Sign signs.Tilde) && (is_twice a (Sign signs.Plus) || has_minuses a)

-- `->` is here, or its `>`
abbrev pub is_arrow : Around → Bool
is_arrow a =
    (is a.here (Sign signs.Greater) && (is a.before (Sign signs.Minus) && a.is_joined_before))
    || (is a.here (Sign signs.Minus) && (is a.behind (Sign signs.Greater) && a.is_joined_behind))

-- `*` or `&` stands where a statement may begin, or behind a type in a declaration or in brackets, or where a value begins
abbrev pub is_pointer : Around → List Terminal → Bool
is_pointer a told =
    (is a.here (Sign signs.Star) || is a.here (Sign signs.Amp))
    && (has told (Word words.If) || ((is_type a.before && (has told Name || is a.earlier (Sign signs.OpenRound)))
    || (is_among a.before OPENINGS && has told (Sign signs.Tilde))))

-- What stands in the brackets of `sizeof`, or behind it
abbrev pub is_size : Around → List Terminal → Bool
is_size a told =
    (is_foreign a.foreign_earliest foreign.Size && is_type a.before)
    || ((is_foreign a.foreign_earlier foreign.Size && is a.before (Sign signs.OpenRound))
    || (is_foreign a.foreign_before foreign.Size && has told (Sign signs.Plus)))

-- Where a value may begin stands a type without a cast's bracket behind it
abbrev pub is_cast : Around → List Terminal → Bool
is_cast a told = is_type a.before && has told (Sign signs.OpenRound)

-- Behind brackets with another language's word for a type a value begins
abbrev pub is_cast_by_name : Around → List Terminal → Bool
is_cast_by_name a told = is_foreign a.foreign_earlier foreign.TypeWord && (is a.before (Sign signs.CloseRound) && has told (Sign signs.Plus))

-- A name, a value or a sign stands where a number may and no name, or an operator behind a number where none may
abbrev pub is_number_alone : Around → List Terminal → Bool
is_number_alone a told =
    (is_among a.here VALUES && (has told Number && not (has told Name)))
    || (is_among a.here OPERATORS && (is a.before Number && (not (has told (Sign signs.Plus)) && not (has told (Sign signs.Star)))))

-- An operator stands behind a number, a `)` before it mends, and none stands two behind it, which would end an expression in the place of the number
abbrev pub is_round_missing : Around → List Terminal → Bool
is_round_missing a mends =
    is a.before Number && (is_among a.here (members Operator) && (has mends (Sign signs.CloseRound) && not (is a.further (Sign signs.CloseRound))))

-- This terminal stands before the place, or before that which stands there
abbrev pub is_behind : Around → Terminal → Bool
is_behind a t = is a.before t || is a.earlier t

-- The word is `const` or `static`, or one of their kin
abbrev pub is_modifier : Option Foreign → Bool
is_modifier there = is_foreign there foreign.Constant || is_foreign there foreign.Modifier

-- A loop begins here, in the language's word or in another's
abbrev pub is_loop : Around → Bool
is_loop a = is a.here (Word words.While) || (is_foreign a.foreign_here foreign.For || is_foreign a.foreign_here foreign.Loop)

-- A declaration ends here, or another piece of the program begins.
abbrev pub is_end : Option Terminal → Bool
is_end here = is here (Sign signs.Semicolon) || (is here (Sign signs.CloseBrace) || (is_reserved here || is_nothing here))

-- The rule fits a place with this around it, where these terminals may stand, and the program goes on where one of those is put before it, or where it is
-- left out
abbrev pub fits : Hint → Around → List Terminal → List Terminal → Bool → Bool
fits FunctionInside a told mends extra = is_function_inside a told
fits DeclarationInBody a told mends extra = is_typed a && has told (Word words.If)
fits DeclarationBehindBody a told mends extra = is_typed a && has told (Sign signs.CloseBrace)
fits NoType a told mends extra = extra && is_type_in_vain a told
fits Width a told mends extra = is_width a told
fits Types a told mends extra =
    (is_foreign a.foreign_here foreign.TypeWord && has told (Word words.Int8))
    || (is_foreign a.foreign_before foreign.TypeWord && has told (Sign signs.Assign))
fits Constant a told mends extra =
    (is_foreign a.foreign_here foreign.Constant && has told (Word words.Agent)) || ((is_foreign a.foreign_here foreign.Enumeration && has told (Word words.Int))
    || (is_foreign a.foreign_before foreign.Enumeration && has told (Sign signs.Assign)))
fits Modifier a told mends extra =
    (is_modifier a.foreign_here && has told (Word words.Int)) || (is_modifier a.foreign_before && has told (Sign signs.Assign))
fits NoParameters a told mends extra = is_foreign a.foreign_here foreign.Void && (has told (Word words.Int) && has told (Sign signs.CloseRound))
fits Void a told mends extra = is_foreign a.foreign_here foreign.Void && has told (Word words.Int)
fits FunctionWord a told mends extra = is_foreign a.foreign_here foreign.Function && has told (Word words.Int)
fits Structure a told mends extra = begins_foreign a told foreign.Structure
fits External a told mends extra = begins_foreign a told foreign.External
fits NoFor a told mends extra = is_foreign a.foreign_before foreign.For && is a.here (Sign signs.OpenRound)
fits OtherLoop a told mends extra = is_foreign a.foreign_before foreign.Loop && has told (Sign signs.Assign)
fits Jump a told mends extra = is_foreign a.foreign_before foreign.Jump && has told (Sign signs.Assign)
fits Switch a told mends extra = is_foreign a.foreign_before foreign.Switch && has told (Sign signs.Assign)
fits ElseIf a told mends extra =
    (is_foreign a.foreign_before foreign.ElseIf && has told (Sign signs.Assign))
    || (is a.before (Word words.Else) && (is a.here (Word words.If) && has told (Sign signs.OpenBrace)))
fits Else a told mends extra = is a.before (Word words.Else) && has told (Sign signs.OpenBrace)
fits SmallLetters a told mends extra = is_among a.small_here told || (is_among a.small_before BEGINNINGS && has told (Sign signs.Assign))
fits Then a told mends extra = is_foreign a.foreign_here foreign.Then && has told (Sign signs.OpenBrace)
fits Times a told mends extra = is_foreign a.foreign_here foreign.Times && has told (Sign signs.Star)
fits Logical a told mends extra =
    (is_foreign a.foreign_here foreign.Logical && has told (Sign signs.Plus)) || (is_foreign a.foreign_before foreign.Logical && has told (Sign signs.Plus))
fits Wait a told mends extra = is_foreign a.foreign_before foreign.Wait && has told (Sign signs.Assign)
fits Print a told mends extra = is_foreign a.foreign_before foreign.Print && has told (Sign signs.Assign)
fits ValueAlone a told mends extra = (is_among a.here LOOKS || is_type a.here) && has told (Word words.If)
fits TickAsClock a told mends extra = is a.here (Word words.Tick) && is a.before (Word words.On)
fits IncrementWithin a told mends extra = is_step_within a told
fits Increment a told mends extra = is_twice a (Sign signs.Plus) || is_twice a (Sign signs.Minus)
fits Compound a told mends extra = is_among a.here JOINED && (is a.behind (Sign signs.Assign) && (a.is_joined_behind && has told (Sign signs.Assign)))
fits LessOrEqual a told mends extra =
    is a.here (Sign signs.Assign)
    && ((is a.behind (Sign signs.Less) || is a.behind (Sign signs.Greater)) && (a.is_joined_behind && has told (Sign signs.Equal)))
fits NotEqual a told mends extra =
    is a.here (Sign signs.Assign) && (is a.behind (Sign signs.Bang) && (a.is_joined_behind && has told (Sign signs.Equal)))
fits Unlike a told mends extra = is a.here (Sign signs.Greater) && (is a.before (Sign signs.Less) && a.is_joined_before)
fits Power a told mends extra = is a.here (Sign signs.Star) && (is a.before (Sign signs.Star) && a.is_joined_before)
fits Arrow a told mends extra = is_arrow a
fits Pointer a told mends extra = is_pointer a told
fits UnaryPlus a told mends extra = is a.here (Sign signs.Plus) && has told (Sign signs.Tilde)
fits Sizeof a told mends extra = is_size a told
fits Square a told mends extra = has mends (Sign signs.CloseSquare)
fits Cells a told mends extra =
    (is_type a.starter && ((is a.before (Sign signs.CloseSquare) && is a.here (Sign signs.Assign))
    || (is a.here (Sign signs.CloseSquare) && is a.behind (Sign signs.Assign))))
    || ((is_type a.starter || is a.starter Name) && (is a.before (Sign signs.Assign) && is a.here (Sign signs.OpenBrace)))
fits Dimension a told mends extra = is a.before (Sign signs.CloseSquare) && is a.here (Sign signs.OpenSquare)
fits Global a told mends extra =
    (is a.starter (Word words.Int) && (has told (Sign signs.OpenRound) && (is_among a.here ENDINGS && not (has told (Sign signs.Semicolon)))))
    || is_typed_outside a told
fits NoValue a told mends extra = is_end a.here && (is_type a.starter && has told (Sign signs.Assign))
fits NameAlone a told mends extra =
    is a.here (Sign signs.Semicolon) && (is a.before Name && (is a.starter Name && has told (Sign signs.Assign)))
fits NoResult a told mends extra = is a.before (Word words.Return) && (is a.here (Sign signs.Semicolon) || is a.here (Sign signs.CloseBrace))
fits Chain a told mends extra = is a.here (Sign signs.Assign) && (has told (Sign signs.Equal) && has told (Sign signs.Semicolon))
fits LoopComparison a told mends extra = is a.here (Sign signs.Assign) && (is a.starter (Word words.While) && has told (Sign signs.Equal))
fits Comparison a told mends extra = is a.here (Sign signs.Assign) && has told (Sign signs.Equal)
fits Assignment a told mends extra = is a.here (Sign signs.Equal) && has told (Sign signs.Assign)
fits OneByOne a told mends extra = is a.here (Sign signs.Comma) && (has told (Sign signs.Assign) || has told (Sign signs.Semicolon))
fits Call a told mends extra =
    is a.before Name && (is a.here (Sign signs.OpenRound) && (has told (Sign signs.Assign) && not (is_type a.starter)))
fits Prototype a told mends extra = is a.here (Sign signs.Semicolon) && (is a.starter (Word words.Int) && has told (Sign signs.OpenBrace))
fits LeaveOut a told mends extra = extra && (is a.here (Sign signs.Comma) || (is_type a.here && has told Name))
fits EmptyCondition a told mends extra = is a.here (Sign signs.Semicolon) && (is_among a.starter CONDITIONS && has told (Sign signs.OpenBrace))
fits BodyMissing a told mends extra = is a.here (Sign signs.CloseBrace) && has told (Word words.Body)
fits Extra a told mends extra =
    (is_among a.here CLOSINGS && (extra && not (is_nothing a.behind))) || (is a.here (Sign signs.CloseBrace) && has told (Word words.Agent))
fits Braces a told mends extra = is_among a.starter CONDITIONS && has told (Sign signs.OpenBrace)
fits After a told mends extra = is a.before (Word words.After) && has told Number
fits NoStatement a told mends extra = is a.here (Sign signs.Semicolon) && has told (Word words.If)
fits Ended a told mends extra = has_ended a && has told (Word words.Agent)
fits Outside a told mends extra = is_among a.here (members Statement) && has told (Word words.Agent)
fits Repeats a told mends extra = is_loop a && has told (Word words.Body)
fits NoBody a told mends extra = is_among a.here (members Statement) && has told (Word words.Body)
fits BodyEnded a told mends extra = is_statement a.here && (has told (Sign signs.CloseBrace) && not (has told (Word words.If)))
fits SecondTick a told mends extra = is a.here (Word words.Tick) && has told (Word words.Agent)
fits SecondBody a told mends extra = is a.here (Word words.Body) && (has told (Sign signs.CloseBrace) && not (has told (Word words.If)))
fits InsideAgent a told mends extra = is_among a.here HEADS && has told (Word words.Body)
fits Back a told mends extra = is a.here (Sign signs.CloseRound) && (has told (Sign signs.Comma) && not (has told (Sign signs.Plus)))
fits Close a told mends extra =
    ((is_nothing a.here || is_among a.here HEADS) && has told (Sign signs.CloseBrace)) || (is a.here (Word words.Else) && has mends (Sign signs.CloseBrace))
fits ElseAlone a told mends extra = is a.here (Word words.Else) && has told (Word words.If)
fits Semicolon a told mends extra = has mends (Sign signs.Semicolon)
fits NoSemicolon a told mends extra = is a.here (Sign signs.Semicolon) && is_nothing a.starter
fits Missing a told mends extra = is_some_few mends
fits Block a told mends extra = is a.here (Sign signs.OpenBrace) && has told (Word words.If)
fits LookName a told mends extra = is_look a told
fits Cast a told mends extra = is_cast a told || is_cast_by_name a told
fits ReservedCall a told mends extra = is_called a && (has told (Sign signs.Tilde) || has told (Word words.If))
fits Reserved a told mends extra =
    is_reserved a.here && (has told Name && (not (has told (Word words.If)) || (is a.behind (Sign signs.Assign) || is a.behind (Sign signs.OpenSquare))))
fits Brackets a told mends extra = is_among a.before LOOKS && has told (Sign signs.OpenRound)
fits Round a told mends extra = is_round_missing a mends
fits MaxAlone a told mends extra = is_behind a (Word words.Max) && is_number_alone a told
fits AdvanceAlone a told mends extra = is_behind a (Word words.Advance) && is_number_alone a told
fits Signed a told mends extra = is a.here (Sign signs.Minus) && is_number_alone a told
fits NumberAlone a told mends extra = is_number_alone a told
fits SemicolonAtEnd a told mends extra =
    (is_nothing a.here || (is_reserved a.here || (is a.here Name || is a.here (Sign signs.CloseBrace)))) && has told (Sign signs.Semicolon)
fits FunctionArray a told mends extra = is_type a.starter && (is a.before Name && is a.here (Sign signs.OpenSquare))
fits Period a told mends extra = is a.starter (Word words.Clock) && has told (Sign signs.Assign)
fits FirstTemporal a told mends extra = is a.starter (Word words.Temporal) && has told (Sign signs.Assign)
fits FirstInput a told mends extra = is a.starter (Word words.Input) && has told (Sign signs.Assign)
fits Depth a told mends extra = (is a.starter (Word words.Temporal) || is a.starter (Word words.Input)) && has told (Word words.Depth)
fits FormTick a told mends extra = is a.starter (Word words.Tick) || (has told (Word words.Tick) && not (has told Name))
fits FormClock a told mends extra = is a.starter (Word words.Clock)
fits FormTemporal a told mends extra = is a.starter (Word words.Temporal)
fits FormInput a told mends extra = is a.starter (Word words.Input)
fits FormStream a told mends extra = is a.starter (Word words.Stream)
fits FormAgent a told mends extra = is a.starter (Word words.Agent)
fits FormInt a told mends extra = is a.starter (Word words.Int)
fits FormType a told mends extra = is_among a.starter WIDTHS
fits FormIf a told mends extra = is a.starter (Word words.If)
fits FormWhile a told mends extra = is a.starter (Word words.While)
fits FormSend a told mends extra = is a.starter (Word words.Send)
fits FormAdvance a told mends extra = is a.starter (Word words.Advance)
fits FormAssign a told mends extra = is a.starter Name && has told (Sign signs.Assign)

-- The rules, in their order
abbrev pub RULES : List Hint
RULES =
    FunctionInside ∷ DeclarationInBody ∷ DeclarationBehindBody ∷ NoType ∷ Width ∷ Types ∷ Constant ∷ Modifier ∷ NoParameters ∷ Void ∷ FunctionWord
    ∷ Structure ∷ External ∷ NoFor ∷ OtherLoop ∷ Jump ∷ Switch ∷ ElseIf ∷ Else ∷ SmallLetters ∷ Then ∷ Times ∷ Logical ∷ Wait ∷ Print ∷ ValueAlone
    ∷ TickAsClock ∷ IncrementWithin ∷ Increment ∷ Compound ∷ LessOrEqual ∷ NotEqual ∷ Unlike ∷ Power ∷ Arrow ∷ Pointer ∷ UnaryPlus ∷ Sizeof ∷ Cast
    ∷ Square ∷ Cells ∷ Dimension ∷ Global ∷ NoValue ∷ NameAlone ∷ NoResult ∷ Chain ∷ LoopComparison ∷ Comparison ∷ Assignment ∷ OneByOne ∷ Call
    ∷ Prototype ∷ Brackets ∷ Round ∷ MaxAlone ∷ AdvanceAlone ∷ Signed ∷ NumberAlone ∷ LeaveOut ∷ EmptyCondition ∷ BodyMissing ∷ Extra ∷ Braces ∷ After
    ∷ NoStatement ∷ Ended ∷ Outside ∷ Repeats ∷ NoBody ∷ BodyEnded ∷ SecondTick ∷ SecondBody ∷ InsideAgent ∷ Back ∷ Close ∷ ElseAlone ∷ Semicolon
    ∷ FormTick ∷ NoSemicolon ∷ Missing ∷ Block ∷ LookName ∷ ReservedCall ∷ Reserved ∷ SemicolonAtEnd ∷ FunctionArray ∷ Period ∷ FirstTemporal
    ∷ FirstInput ∷ Depth ∷ FormClock ∷ FormTemporal ∷ FormInput ∷ FormStream ∷ FormAgent ∷ FormInt ∷ FormType ∷ FormIf ∷ FormWhile ∷ FormSend
    ∷ FormAdvance ∷ FormAssign ∷ []

-- The first rule that fits
abbrev pub hint_of : Around → List Terminal → List Terminal → Bool → Option Hint
hint_of a told mends extra = find (λ hint. fits hint a told mends extra) RULES

-- What is told where a rule fits; nothing of what is missing, or of a number alone with a range, which are told in words of their own
abbrev pub hint_words : Hint → List ℕ
hint_words FunctionInside = codes "a function stands outside of agents and of other functions: put it above, or add the `}` that is missing further up"
hint_words DeclarationInBody = codes "variables are declared before the statements: those of an agent before `body`, those of a function at its head"
hint_words DeclarationBehindBody = codes "behind `body` nothing stands in an agent: variables are declared before it; before a function a `}` is missing"
hint_words NoType = codes "temporal variables, inputs and messages are always `int`, and no type is written: leave it out"
hint_words Width = codes "a function's result and its parameters are always `int`; variables and arrays may be of another type, as in `int8 n = 0;`"
hint_words Types = codes "the types are `int8`, `int16`, `int32`, `int64`, and `int`, which is `int32`"
hint_words Constant = codes "there are no named constants: write the number, or a function that returns it, as in `int limit() { return 5; }`"
hint_words Modifier = codes "there is no `const`, `static` or the like: leave it out; an agent's variables keep their values from action to action"
hint_words NoParameters = codes "a function without parameters is written with nothing in its brackets, as in `int f() { return 0; }`: leave `void` out"
hint_words Void = codes "each function gives a value: write `int f(..) { .. return ..; }`"
hint_words FunctionWord = codes "a function begins with `int`, as in `int f(int a) { return a; }`"
hint_words Structure = codes "there is no `struct` and no `typedef`: each value is a number, and an agent has arrays of them, as in `int a[4];`"
hint_words External = codes "a program is one file, and takes nothing from others: leave this out, and declare here what it needs"
hint_words NoFor = codes "there is no `for`: count in a `while (..) max N { .. }`"
hint_words OtherLoop = codes "the only loop is `while (..) max N { .. }`; a `body` begins again by itself"
hint_words Jump = codes "there is no `break` and no `continue`: put what ends a loop into its condition"
hint_words Switch = codes "there is no `switch`: write `if (..) { .. } else { .. }`"
hint_words ElseIf = codes "behind `else` stands `{`: `else if` is written `else { if (..) { .. } }`"
hint_words Else = codes "statements under `else` stand in braces, also where there is one alone"
hint_words SmallLetters = codes "reserved words are written in small letters"
hint_words Then = codes "there is no `then`: behind the condition stands `{`"
hint_words Times = codes "the sign of a product is `*`, as in `clock c = 10 * tick;`"
hint_words Logical = codes "the operators are written `&&`, `||`, `!` and `%`, and those of bits `&`, `|`, `^` and `~`"
hint_words Wait = codes "time passes at `advance`, as in `advance 1 on c;`"
hint_words Print = codes "there is no `print`: a run writes its temporal variables and messages, so give the value to a temporal variable"
hint_words ValueAlone = codes "a value is no statement: give it to a variable, as in `n = take(s);`"
hint_words TickAsClock = codes "`tick` is no clock by itself: declare one, as in `clock each = 1 * tick;`"
hint_words IncrementWithin = codes "there is no `++` and no `--`: write a statement of its own, as in `v = v - 1;`"
hint_words Increment = codes "there is no `++` and no `--`: write `v = v + 1;`"
hint_words Compound = codes "there is no `+=`, nor its kin: write `v = v + ..;`"
hint_words LessOrEqual = codes "`<=` and `>=` are written with the `=` behind"
hint_words NotEqual = codes "`!=` is written with the `=` behind"
hint_words Unlike = codes "that two values differ is written `!=`"
hint_words Power = codes "there is no `**`: write a product"
hint_words Arrow =
    codes "there is no `->`, and names have no parts: a function may give a part of a value, as in `sender(frame)`, and `take(s)` gives a message"
hint_words Pointer = codes "there are no pointers and no addresses: a name stands for its value, and a function gives one value, by `return`"
hint_words UnaryPlus = codes "there is no `+` before a value: leave it out"
hint_words Sizeof = codes "there is no `sizeof`: write the number of cells with which the array is declared"
hint_words Square = codes "a `]` is missing before this"
hint_words Cells = codes "the cells of an array begin at 0, as in `int a[4];`, and each is assigned by itself, as in `a[0] = 1;`"
hint_words Dimension = codes "an array has one index: where rows of 4 are meant, write `a[4 * i + j]`"
hint_words Global =
    codes "variables stand in agents and functions; agents share `temporal v of A on c = 0 depth 1;`; for a constant write its number, or a function"
hint_words NoValue = codes "a variable has a first value, as in `int n = 0;`"
hint_words NameAlone = codes "a name is no statement: assign to it, as in `v = 1;`"
hint_words NoResult = codes "a function gives a value, as in `return 0;`; a `body` has no `return`: what an action does ends at its `advance`"
hint_words Chain = codes "an assignment has no value: write a statement for each variable; a comparison is written `==`"
hint_words LoopComparison =
    codes "a comparison is written `==`; `=` assigns, in statements of their own: one before the loop, and one at the end of what it repeats"
hint_words Comparison = codes "a comparison is written `==`; `=` assigns, in a statement of its own before this one, as in `n = take(s);`"
hint_words Assignment = codes "an assignment is written `=`"
hint_words OneByOne = codes "a declaration has one name, and a statement one assignment: end it with `;`, and begin another"
hint_words Call = codes "a call is no statement: give its value to a variable, as in `v = f(..);`"
hint_words Prototype = codes "a function is declared with its statements, as in `int f(int a) { return a; }`"
hint_words LeaveOut = codes "leave this out: behind it the program goes on"
hint_words EmptyCondition = codes "behind a condition stands `{`: leave this `;` out"
hint_words BodyMissing = codes "the statements of an agent stand in a `body { .. }` behind its variables, and none is here"
hint_words Extra = codes "this bracket closes none that is open: leave it out"
hint_words Braces = codes "statements under a condition stand in braces, also where there is one alone"
hint_words After = codes "behind `after` stands a number, that of the dates by which the message is delayed, which may be 0"
hint_words NoStatement = codes "there is no empty statement: leave this `;` out"
hint_words Ended = codes "the agent or the function above ends before this: a `}` further up is one too many"
hint_words Outside =
    codes "a declaration begins with `clock`, `temporal`, `input`, `stream`, `agent` or `int`; statements stand in the `body` of an agent or in a function"
hint_words Repeats = codes "the statements of an agent stand in `body { .. }`, which begins again by itself: it needs no loop around it"
hint_words NoBody = codes "the statements of an agent stand in `body { .. }`"
hint_words BodyEnded = codes "the `body` of this agent ends before this: a `}` further up is one too many"
hint_words SecondTick = codes "a program has one `tick`, which is its beginning: leave this one out"
hint_words SecondBody = codes "an agent has one `body`: put all its statements into that"
hint_words InsideAgent = codes "in an agent stand variables and arrays, and its `body`: put this declaration above the agent"
hint_words Back = codes "`past` has a number behind the name, of how many dates back: `past(v, 0)` is the last one"
hint_words Close = codes "a `}` is missing before this"
hint_words ElseAlone = codes "an `else` stands directly behind the `}` of its `if`"
hint_words Semicolon = codes "a `;` is missing before this"
hint_words Missing = []
hint_words Block = codes "a block stands behind a condition or `else` alone: leave this `{` and its `}` out"
hint_words LookName = codes "`past`, `ready` and `take` have a name alone in their brackets, as in `past(v, 0) + 1`"
hint_words Cast =
    codes "a cast has the value in brackets behind the type, as in `int8(v)`; the types are `int8`, `int16`, `int32`, `int64` and `int`"
hint_words ReservedCall =
    codes "this word is reserved, and no function has it as its name: declare one of another name, as in `int larger(int a, int b) { .. }`"
hint_words Reserved = codes "this word is reserved, and can't be a name: choose another"
hint_words Brackets = codes "what is looked at stands in brackets: `past(v, 0)`, `ready(s)`, `take(s)`"
hint_words Round = codes "a `)` is missing before this"
hint_words MaxAlone = []
hint_words AdvanceAlone = []
hint_words Signed = codes "here stands a number alone, and without a sign: it tells how many, and is never below 0"
hint_words NumberAlone = codes "here stands a number alone, and neither a name nor an expression"
hint_words SemicolonAtEnd = codes "a `;` is missing before this"
hint_words FunctionArray = codes "arrays stand in an agent, before its `body`: a function has none"
hint_words Period = codes "a clock has its period behind its name: `=`, a number, `*`, and `tick` or a clock above, as in `clock c = 10 * tick;`"
hint_words FirstTemporal = codes "behind its clock a temporal variable has a first value and a depth, as in `temporal v of A on c = 0 depth 1;`"
hint_words FirstInput = codes "behind its clock an input has a first value and a depth, as in `input x on c = 0 depth 1;`"
hint_words Depth = codes "behind the first value stands `depth`, with the number of values that `past` can reach, as in `= 0 depth 1;`"
hint_words FormTick = codes "a program begins as in `tick 100;`, with the cycles of a tick"
hint_words NoSemicolon = codes "behind `{`, `}` and `;` stands no `;`: leave this one out"
hint_words FormClock = codes "a clock is declared as in `clock c = 10 * tick;`, or with a shift, as in `clock d = 5 * c + 2;`"
hint_words FormTemporal = codes "a temporal variable is declared as in `temporal v of A on c = 0 depth 1;`"
hint_words FormInput = codes "an input is declared as in `input x on c = 0 depth 1;`"
hint_words FormStream = codes "a stream is declared as in `stream s to A keep 1 on c;`"
hint_words FormAgent =
    codes "an agent is declared as in `agent A on c budget 90 { int n = 0; body { n = n + 1; advance 1 on c; } }`; `processor 1` may stand before `budget`"
hint_words FormInt =
    codes "`int` begins a function, as in `int f(int a, int b) { return a; }`, a variable, as in `int n = 0;`, and in an agent an array, as in `int a[4];`"
hint_words FormType = codes "a type begins a variable, as in `int8 n = 0;`, and in an agent an array, as in `int8 a[4];`"
hint_words FormIf = codes "an `if` is written as in `if (v > 0) { v = 0; } else { v = 1; }`"
hint_words FormWhile = codes "a loop is written as in `while (v > 0) max 10 { v = v - 1; }`"
hint_words FormSend = codes "a message is sent as in `send v to s after 0 on c;`"
hint_words FormAdvance = codes "time passes as in `advance 1 on c;`, with a budget as in `advance 1 on c budget 90;`"
hint_words FormAssign = codes "a statement that begins with a name is an assignment, as in `v = 1;` or `a[0] = 1;`"
