-- What is left of the proof of `laws::worked`: the rows compute.
use Rattle.std.proofs.Common.{refl}
use Rattle.psy_snap.specs.Bytes.{long_bytes, number_bytes}
use Rattle.psy_snap.specs.Cuts.{cut_agent, cut_each, cut_figures, cut_fields, cut_one, cut_state, cut_stream, cut_streams, cut_variable}
use Rattle.psy_snap.specs.Cuts.{on_behind, on_behind_streams}
use Rattle.psy_snap.specs.Faults.{agents_faults, faults_by, faults_of, is_wrong_kind, is_wrong_message, least_fault, messages_faults, streams_faults}
use Rattle.psy_snap.proofs.laws.worked.Goals as goal

pub returns-clause-fields : goal.returns-clause-fields
unfolding number_bytes long_bytes faults_of faults_by cut_state cut_streams cut_stream cut_each on_behind on_behind_streams cut_one cut_fields cut_figures
    cut_agent cut_variable is_wrong_kind is_wrong_message messages_faults agents_faults streams_faults least_fault
returns-clause-fields c = refl

pub returns-clause-agents : goal.returns-clause-agents
unfolding number_bytes long_bytes faults_of faults_by cut_state cut_streams cut_stream cut_each on_behind on_behind_streams cut_one cut_fields cut_figures
    cut_agent cut_variable is_wrong_kind is_wrong_message messages_faults agents_faults streams_faults least_fault
returns-clause-agents c = refl

pub returns-clause-messages : goal.returns-clause-messages
unfolding number_bytes long_bytes faults_of faults_by cut_state cut_streams cut_stream cut_each on_behind on_behind_streams cut_one cut_fields cut_figures
    cut_agent cut_variable is_wrong_kind is_wrong_message messages_faults agents_faults streams_faults least_fault
returns-clause-messages c = refl
