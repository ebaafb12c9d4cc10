-- A step of the loop's machine can be made, and leaves the machine of the loop.
use Rattle.std.proofs.Common.{◌≡◌, refl, sym, ap, subst, ◌∙◌}
use Rattle.std.specs.Prelude.{[], ◌∷◌, Option, Some, None, slice_get, ◌≢◌, ◌≤◌, pos}
use Rattle.psy_code.specs.declared.code.Code.{Code}
use Rattle.psy_code.specs.declared.code.AgentCode.{AgentCode}
use Rattle.psy_code.specs.Execution.{Machine, Next, Went, Ended, Trapped, Stuck, need, next_of, new_machine}
use Rattle.psy_code.specs.Views.{View}
use Rattle.psy_machine.specs.Stepping.{AgentMachine, IsOf, IsNew, next_for, machine_after, stepped}
use Rattle.psy_bench.specs.Loop.{IsLoop, Held, IsAtPlace, at_0, StaysInLoop, loop_code, agent_code}
use Rattle.psy_bench.proofs.Stays.{stays}

pub is_of : (code : Code) (m : AgentMachine) → code ≡ loop_code → IsLoop m → IsOf code m
is_of code m e l = subst (λ c. IsOf c m) (sym e) (agent_code, subst (λ a. slice_get (agent_code ∷ []) a ≡ Some agent_code) (sym l.agent) refl, l.stack, l.frames)

next_goes_on : (code : Code) (view : View) (m : AgentMachine) → code ≡ loop_code → IsLoop m → StaysInLoop (next_for code view m)
next_goes_on code view m e l =
    subst (λ c. StaysInLoop (next_for c view m)) (sym e)
    (subst (λ a. StaysInLoop (need (slice_get (agent_code ∷ []) a) (λ agent. next_of loop_code agent view m.machine))) (sym l.agent) (stays view m.machine l.stands))

not_stuck : (next : Next) → StaysInLoop next → next ≢ Stuck
not_stuck next g e = subst StaysInLoop e g

pub able : (code : Code) (view : View) (m : AgentMachine) → code ≡ loop_code → IsLoop m → next_for code view m ≢ Stuck
able code view m e l = not_stuck (next_for code view m) (next_goes_on code view m e l)

stands_after : (next : Next) (m : Machine) → StaysInLoop next → IsAtPlace m → IsAtPlace (machine_after next m)
stands_after (Went n) m g s = g
stands_after (Ended point n) m g s = g
stands_after (Trapped kind) m g s = s
stands_after Stuck m g s = s

pub kept : (code : Code) (view : View) (m : AgentMachine) → code ≡ loop_code → IsLoop m → IsLoop (stepped code view m)
kept code view m e l = record { agent = l.agent; stack = l.stack; frames = l.frames; stands = stands_after (next_for code view m) m.machine (next_goes_on code view m e l) l.stands }

abbrev or_else : Option AgentCode → AgentCode
or_else None = agent_code
or_else (Some agent) = agent

abbrev first_held : Held
first_held = record { n = pos 0; total = pos 0; first = pos 0; second = pos 0; third = pos 0; fourth = pos 0; turns = 0; copy = pos 0 }

begins_by : (m : AgentMachine) → IsNew loop_code 0 m → IsOf loop_code m → IsLoop m
begins_by m new of =
    let same : agent_code ≡ new.0 = ap or_else new.1 in
    let at : m.machine ≡ new_machine agent_code = new.3 ∙ ap new_machine (sym same) in
    let its : agent_code ≡ of.0 = ap or_else (subst (λ a. slice_get (agent_code ∷ []) a ≡ Some of.0) new.2 of.1) in
    record {
      agent = new.2;
      stack = subst (λ a. a.stack ≤ m.stack) (sym its) of.2;
      frames = subst (λ a. a.frames ≤ m.frames) (sym its) of.3;
      stands = subst IsAtPlace (sym at) (at_0 {s = first_held});
    }

pub begins : (code : Code) (m : AgentMachine) → code ≡ loop_code → IsNew code 0 m → IsOf code m → IsLoop m
begins code m e new of = begins_by m (subst (λ c. IsNew c 0 m) e new) (subst (λ c. IsOf c m) e of)
