-- What is left of the proof of `laws::by_summary`.
use Rattle.std.proofs.Common.{◌∙◌}
use Rattle.psy_draw.proofs.Fed.{all_known}
use Rattle.psy_draw.proofs.Sayings.{agents_listed, streams_listed, variables_listed}
use Rattle.psy_draw.proofs.SummaryNames.{failing_unlisted, outside_unasked}
use Rattle.psy_draw.proofs.laws.by_summary.Goals as goal

pub returns-clause-unasked : goal.returns-clause-unasked
returns-clause-unasked c = λ listed summary notes names has are.
    outside_unasked listed notes names (agents_listed notes summary listed.agents has are.agents) (variables_listed notes summary listed.variables has are.variables)
    (streams_listed notes summary listed.streams has are.streams)

pub returns-clause-known : goal.returns-clause-known
returns-clause-known c = λ listed summary notes has are none.
    all_known listed notes
    (failing_unlisted listed notes (agents_listed notes summary listed.agents has are.agents) (variables_listed notes summary listed.variables has are.variables)
    (streams_listed notes summary listed.streams has are.streams) ∙ none)
