-- What is left of the proof of `copies::Copies::new`.
use Rattle.std.proofs.Common.{◌≡◌, List, ap, subst, ◌∙◌}
use Rattle.std.specs.Prelude.{IfOk}
use Rattle.psy_code.specs.Execution.{Copy}
use Rattle.psy_machine.specs.Copying.{copies_in}
use Rattle.psy_machine.proofs.Entries.{copies_in-map}
use Rattle.psy_machine.proofs.copies.Copies.new.Goals as goal

pub returns : goal.returns
returns c =
    subst (λ (copies : List Copy). IfOk c.of.result (λ made. made ≡ copies)) (ap copies_in c.in_ok-entries_of.ensures ∙ copies_in-map c.args.inits.now) c.of.ensures
