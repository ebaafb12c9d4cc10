-- What is left of the proof of `laws::every_terminal`.
use Rattle.std.proofs.Common.{◌≡◌, true, refl}
use Rattle.psy_tree.specs.declared.token.Word.TheVariants as words
use Rattle.psy_tree.specs.declared.token.Sign.TheVariants as signs
use Rattle.psy_expect.specs.declared.terminal.Terminal.{Terminal}
use Rattle.psy_expect.specs.declared.terminal.Terminal.TheVariants.{Word, Name, Number, Sign}
use Rattle.psy_expect.specs.declared.terminal.TheConstants.{EVERY}
use Rattle.psy_expect.specs.Phrases.{has}
use Rattle.psy_expect.proofs.laws.every_terminal.Goals as goal

has_every : (terminal : Terminal) → has EVERY terminal ≡ true
has_every (Word words.Advance) = refl
has_every (Word _) = refl
has_every Name = refl
has_every Number = refl
has_every (Sign signs.Semicolon) = refl
has_every (Sign _) = refl

pub returns : goal.returns
returns c = has_every
