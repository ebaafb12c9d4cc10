-- No refusal is answered by status 0: what is answered so was given.
use Rattle.std.proofs.Common.{◌≡◌, ◌≢◌, refl, ℕ, List, Option, arith}
use Rattle.psy_door.specs.Files.{Files}
use Rattle.psy_plan.specs.declared.refusal.Refusal.{Refusal as Cause}
use Rattle.psy_plan.specs.declared.refusal.Refusal.TheVariants as plan
use Rattle.psy_run.specs.Answer.{Answers, answering, refused, served}
use Rattle.psy_run.specs.declared.refusal.Refusal.{Refusal}
use Rattle.psy_run.specs.declared.refusal.Refusal.TheVariants as run
use Rattle.psy_run.specs.Refusals.{status_of, status_of_plan}
use Rattle.psy_run.specs.Services.{Service, text_of}

some_of_plan : (cause : Cause) → status_of_plan cause ≢ 0
some_of_plan (plan.Lexical kind place) none = absurd (omega (arith, none))
some_of_plan (plan.Syntax token) none = absurd (omega (arith, none))
some_of_plan (plan.Deep token) none = absurd (omega (arith, none))
some_of_plan (plan.Rule kind token) none = absurd (omega (arith, none))
some_of_plan (plan.Many count) none = absurd (omega (arith, none))
some_of_plan plan.Nodes none = absurd (omega (arith, none))
some_of_plan plan.Edges none = absurd (omega (arith, none))
some_of_plan plan.Ring none = absurd (omega (arith, none))
some_of_plan plan.Queue none = absurd (omega (arith, none))
some_of_plan plan.Cells none = absurd (omega (arith, none))
some_of_plan (plan.Infeasible length demand supply processor) none = absurd (omega (arith, none))

status_some : (refusal : Refusal) → status_of refusal ≢ 0
status_some run.Words none = absurd (omega (arith, none))
status_some (run.TooLong file) none = absurd (omega (arith, none))
status_some (run.Unplanned cause) none = some_of_plan cause none
status_some (run.Line file kind line) none = absurd (omega (arith, none))
status_some run.Lines none = absurd (omega (arith, none))
status_some run.Cycles none = absurd (omega (arith, none))
status_some (run.Image place) none = absurd (omega (arith, none))
status_some (run.Code number place) none = absurd (omega (arith, none))
status_some run.Large none = absurd (omega (arith, none))
status_some (run.Trace number line) none = absurd (omega (arith, none))
status_some run.LongTrace none = absurd (omega (arith, none))
status_some (run.State number place) none = absurd (omega (arith, none))
status_some run.LongState none = absurd (omega (arith, none))
status_some (run.Busy agent) none = absurd (omega (arith, none))

pub was_given : (words : List (List ℕ)) (files : Option Files) (status : ℕ) (text : List ℕ) → Answers words files status text → status ≡ 0
    → (done : Service) × (answering words files).gives done × (text ≡ text_of done)
was_given words files _ _ (refused refusal stops) none = absurd (status_some refusal none)
was_given words files _ _ (served done gives) none = (done, gives, refl)
