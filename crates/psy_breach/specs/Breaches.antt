-- What is told of a token at which a rule is broken, by the number of the rule.
use Rattle.std.specs.Prelude.{ℕ, ◌==◌, if◌then◌else◌, List, drop, take, Option, None, Some}
use Rattle.psy_tree.specs.declared.token.Token.{Token}
use Rattle.psy_page.specs.Told.{hint}
use Rattle.psy_breach.specs.declared.sentences.TheConstants as words
use Rattle.psy_breach.specs.Declarations.{found, last_head, named, sort_of}
use Rattle.psy_breach.specs.Loops.{mixed_told}
use Rattle.psy_breach.specs.Names.{calls_told, first_named, owner_told, receiver_told, unknown_told}
use Rattle.psy_breach.specs.Numbers.{clock_told, deep_told, range_told}
use Rattle.psy_breach.specs.Roles.{role_of}
use Rattle.psy_breach.specs.Told.{declared}
use Rattle.psy_breach.specs.Wrong.{wrong_told}

-- What is told, by the tokens before the one at fault, and itself with those behind it
abbrev pub breach_told : List ℕ → List Token → List Token → List Token → ℕ → Option (List ℕ)
breach_told text tokens front back rule =
    if rule == 1 then declared text (named back) (first_named front back) words.TWICE.now
    else if rule == 2 then unknown_told text tokens front back (found tokens front back)
    else if rule == 3 then wrong_told text front back (found tokens front back)
    else if rule == 4 then owner_told (named back) (role_of front back) (found tokens front back)
    else if rule == 5 then receiver_told (named back) (found tokens front back)
    else if rule == 6 then deep_told tokens front
    else if rule == 7 then Some words.ENDLESS.now
    else if rule == 8 then Some (mixed_told (sort_of (last_head front)) back)
    else if rule == 9 then Some words.QUIET.now
    else if rule == 10 then calls_told text (named back) (last_head front) (found tokens front back)
    else if rule == 11 then clock_told back
    else if rule == 12 then range_told front
    else None

-- The line in which it stands, for the rule of this number and the token of that number
abbrev pub breach_hint : List ℕ → List Token → ℕ → ℕ → List ℕ
breach_hint text tokens rule at = hint (breach_told text tokens (take at tokens) (drop at tokens) rule)
