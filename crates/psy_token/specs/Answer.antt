-- What `lex` answers, said by the faults of a text.
use Rattle.std.specs.Prelude.{◌≡◌, ℕ, List, Result, MatchResult, ◌⊎◌}
use Rattle.psy_tree.specs.declared.token.Token.{Token}
use Rattle.psy_tree.specs.Faults.{FirstFault}
use Rattle.psy_token.specs.declared.fault.LexFault.{LexFault}
use Rattle.psy_token.specs.declared.fault.LexFault.TheVariants as answers

-- The first fault of the text is that one, but for want of memory
abbrev pub IsFirstFault : List ℕ → LexFault → Type 0
IsFirstFault text (answers.Lexical kind place) = FirstFault text kind place
IsFirstFault text answers.Memory = Unit {0}

-- The answer is these tokens, or want of memory
abbrev pub GivesTokens : Result (List Token) LexFault → List Token → Type 0
GivesTokens answer tokens = MatchResult answer (λ given. given ≡ tokens) (λ fault. fault ≡ answers.Memory)

-- The answer is that fault, or want of memory
abbrev pub GivesFault : Result (List Token) LexFault → LexFault → Type 0
GivesFault answer expected = MatchResult answer (λ given. ⊥) (λ fault. (fault ≡ expected) ⊎ (fault ≡ answers.Memory))
