-- What one token of a terminal tells of all of them.
use Rattle.std.proofs.Common.{◌≡◌, Bool, true, false, List, [], ◌∷◌, ◌++◌, MatchBool, sym, subst, ◌∙◌}
use Rattle.psy_tree.specs.declared.token.Token.{Token}
use Rattle.psy_expect.specs.declared.terminal.Terminal.{Terminal}
use Rattle.psy_expect.specs.Terminals.{terminal_of, IsFront, MayFollow}
use Rattle.psy_expect.proofs.Alike.{front_alike}

pub may_follow_by : (front whole : List Token) (token : Token) (terminal : Terminal) (yes : Bool) → whole ≡ front ++ token ∷ [] → terminal_of token.kind ≡ terminal
    → MatchBool yes (IsFront whole) (IsFront whole → ⊥) → MatchBool yes (MayFollow front terminal) (MayFollow front terminal → ⊥)
may_follow_by front whole token terminal true pushed is goes_on = record { token = token; is = is; goes_on = subst (λ (ts : List Token). IsFront ts) pushed goes_on }
may_follow_by front whole token terminal false pushed is not = λ may.
    not (subst (λ (ts : List Token). IsFront ts) (sym pushed) (front_alike front may.token token (may.is ∙ sym is) may.goes_on))
