-- What is left of the proof of `laws::one_note`.
use Rattle.std.proofs.Common.{refl}
use Rattle.psy_notes.specs.declared.forms.TheConstants.{CHECK, GRAPH, REFUSALS, RUN}
use Rattle.psy_notes.proofs.Apart.{one_note}
use Rattle.psy_notes.proofs.laws.one_note.Goals as goal

pub returns-clause-run : goal.returns-clause-run
returns-clause-run c = one_note RUN refl

pub returns-clause-graph : goal.returns-clause-graph
returns-clause-graph c = one_note GRAPH refl

pub returns-clause-check : goal.returns-clause-check
returns-clause-check c = one_note CHECK refl

pub returns-clause-refusal : goal.returns-clause-refusal
returns-clause-refusal c = one_note REFUSALS refl
