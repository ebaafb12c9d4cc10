-- What lines say, one line more.
use Rattle.std.proofs.Common.{◌≡◌, ℕ, ◌+◌, List, [], ◌∷◌, ◌++◌, Option, option_to_list, sym, subst}
use Rattle.std.proofs.lemmas.List.{append_assoc, append-nil}
use Rattle.psy_log.specs.declared.note.Note.{Note}
use Rattle.psy_claims.specs.declared.claimed.Claimed.{Claimed}
use Rattle.psy_claims.specs.declared.fault.Slip.{Slip}
use Rattle.psy_claims.specs.Claims.{Says, Say, none, one, WrongAt, IsWrong, here, behind}

-- What is said from a line on, put behind what was said before it, is what all lines say.
abbrev pub SaidFrom : List Note → ℕ → List (List ℕ) → List (List ℕ) → List Claimed → Type 0
SaidFrom notes number lines whole claims = (more : List Claimed) → Say notes number lines more → Say notes 1 whole (claims ++ more)

-- The first line that is wrong from a line on is that of all lines.
abbrev pub WrongFrom : List Note → ℕ → List (List ℕ) → List (List ℕ) → Type 0
WrongFrom notes number lines whole = (at : ℕ) (slip : Slip) → WrongAt notes number lines at slip → WrongAt notes 1 whole at slip

pub said_on : (notes : List Note) (number : ℕ) (line : List ℕ) (lines from whole : List (List ℕ)) (claims : List Claimed) (said : Option Claimed) → from ≡ line ∷ lines
    → SaidFrom notes number from whole claims → Says notes number line said → SaidFrom notes (number + 1) lines whole (claims ++ option_to_list said)
said_on notes number line lines from whole claims said cut before says more is =
    subst (Say notes 1 whole) (sym (append_assoc claims (option_to_list said) more))
    (before (option_to_list said ++ more) (subst (λ l. Say notes number l (option_to_list said ++ more)) (sym cut) (one number line said lines more says is)))

pub wrong_on : (notes : List Note) (number : ℕ) (line : List ℕ) (lines from whole : List (List ℕ)) (said : Option Claimed) → from ≡ line ∷ lines
    → WrongFrom notes number from whole → Says notes number line said → WrongFrom notes (number + 1) lines whole
wrong_on notes number line lines from whole said cut before says at slip is =
    before at slip (subst (λ l. WrongAt notes number l at slip) (sym cut) (behind number line said lines at slip says is))

pub said_all : (notes : List Note) (number : ℕ) (from whole : List (List ℕ)) (claims : List Claimed) → from ≡ [] → SaidFrom notes number from whole claims → Say notes 1 whole claims
said_all notes number from whole claims end before =
    subst (Say notes 1 whole) (append-nil claims) (before [] (subst (λ l. Say notes number l []) (sym end) (none number)))

pub wrong_here : (notes : List Note) (number at : ℕ) (line : List ℕ) (lines from whole : List (List ℕ)) (slip : Slip) → from ≡ line ∷ lines
    → WrongFrom notes number from whole → at ≡ number → IsWrong notes line slip → WrongAt notes 1 whole at slip
wrong_here notes number at line lines from whole slip cut before same is =
    subst (λ n. WrongAt notes 1 whole n slip) (sym same) (before number slip (subst (λ l. WrongAt notes number l number slip) (sym cut) (here number line lines slip is)))
