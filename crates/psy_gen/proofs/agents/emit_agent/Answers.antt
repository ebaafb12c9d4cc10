-- What is left of the proof of `agents::emit_agent`.
use Rattle.std.proofs.Common.{◌≡◌, ◌++◌, [], ◌∷◌, map, length, refl, ap, ◌∙◌, arith}
use Rattle.psy_code.specs.declared.instr.Instr.TheVariants as instr
use Rattle.psy_tree.specs.declared.unit.Slots.{Slots}
use Rattle.psy_meaning.specs.Depths.{loops_in}
use Rattle.psy_gen.specs.Emission.{agent_layout, stmts_code}
use Rattle.psy_gen.proofs.Lengths.{loops_fewer}
use Rattle.psy_gen.proofs.Patches.{then_one}
use Rattle.psy_gen.proofs.agents.emit_agent.Goals as goal

pub returns-clause-code : goal.returns-clause-code
returns-clause-code c =
    let layout : c.in_ok-layout.layout ≡ agent_layout c.args.agent.now = c.in_ok-layout.ensures ∙ ap (map (λ (s : Slots). s.cells)) c.as_slice.ensures in
    let all : c.push-2.new.self ≡ c.args.code.now ++ (stmts_code c.in_ok-layout.layout c.as_slice-2.result.now 0 (length c.args.code.now) ++ instr.Jump c.place-head.result ∷ []) =
    then_one _ _ _ _ _ c.in_ok-emit_stmts.ensures.code c.in_ok-push-2.ensures in
    all ∙ rw (layout, c.as_slice-2.ensures, c.place-head.ensures) refl

pub emit_stmts-requires-clause-counters : goal.emit_stmts-requires-clause-counters
emit_stmts-requires-clause-counters c = omega (arith, c.requires.room, loops_fewer c.args.agent.now.stmts, ap loops_in c.as_slice-2.ensures)
