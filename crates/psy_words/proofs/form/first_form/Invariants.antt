-- What each loop of `form::first_form` keeps.
use Rattle.std.proofs.Common.{◌≡◌, length, map}
use Rattle.psy_words.specs.Forms.{first_form}
use Rattle.psy_words.proofs.form.first_form.Given as goal

abbrev pub invariant-each : goal.invariant-each
invariant-each l = first_form l.how (map (λ f. f.now) l.rest) l.word ≡ first_form l.how (map (λ f. f.now) l.forms) l.word

abbrev pub decreases-each : goal.decreases-each
decreases-each l = length l.rest
