-- The next instruction of a machine.
use Rattle.std.proofs.Common.{◌≡◌, ◌≢◌, ℕ, ◌<◌, ◌≤◌, ◌^◌, Bool, true, false, cond, List, length, get_or, Option, Some, refl, sym, ap, ◌∙◌, None, arith}
use Rattle.std.specs.Prelude.{slice_get}
use Rattle.std.proofs.lemmas.Bool.Decides.{nat_tests}
use Rattle.std.proofs.lemmas.Option.{slice_get_within, slice_get_read, same_Some}
use Rattle.psy_base.specs.declared.limits.TheConstants.{OPEN_CALLS}
use Rattle.psy_code.specs.declared.code.Code.{Code}
use Rattle.psy_code.specs.declared.code.AgentCode.{AgentCode}
use Rattle.psy_code.specs.declared.instr.Instr.{Instr}
use Rattle.psy_code.specs.Views.{View}
use Rattle.psy_code.specs.Execution.{Machine, Next, Went, Ended, Trapped, Stuck, within, does, need, has_room, cells_in_calls, call_of, call_by}
use Rattle.psy_machine.specs.Stepping.{AgentMachine, IsOf, next_for}
use Rattle.psy_machine.specs.Acting.{CanDo, Finds}

-- It is what its place says.
pub next_is : (code : Code) (view : View) (m : AgentMachine) (agent : AgentCode) (i : Instr) → slice_get code.agents m.agent ≡ Some agent → slice_get code.instrs m.machine.place ≡ Some i → next_for code view m ≡ within agent (does code agent view i m.machine)
next_is code view m agent i a b = rw (a, b) refl

pub call_is : (code : Code) (m : Machine) (i : Instr) → slice_get code.instrs m.place ≡ Some i → call_of code m ≡ call_by i m.operands
call_is code m i b = rw b refl

-- What can be done finds the agent's room.
pub record Able (agent : AgentCode) (m : AgentMachine) (next : Next) : Type 0 where
  pub finds : Finds m next
  pub same : within agent next ≡ next

roomy : (agent : AgentCode) (m : AgentMachine) (machine : Machine) (b : Bool) → has_room agent machine ≡ b → agent.stack ≤ m.stack → agent.frames ≤ m.frames → cond b (Went machine) Stuck ≢ Stuck → Finds m (Went machine) × (cond b (Went machine) Stuck ≡ Went machine)
roomy agent m machine false e s f h = absurd (h refl)
roomy agent m machine true e s f h =
    let parts : (length machine.operands ≤ agent.stack) × (cells_in_calls machine.calls ≤ agent.frames) × (length machine.calls ≤ OPEN_CALLS) = grind (arith, nat_tests) in
    ((omega (arith, parts.0), omega (arith, parts.1), parts.2), refl)

pub able : (agent : AgentCode) (m : AgentMachine) (next : Next) → agent.stack ≤ m.stack → agent.frames ≤ m.frames → within agent next ≢ Stuck → Able agent m next
able agent m (Went machine) s f h =
    let room = roomy agent m machine (has_room agent machine) refl s f h in
    record { finds = room.0; same = room.1 }
able agent m (Ended point machine) s f h = record { finds = tt; same = refl }
able agent m (Trapped kind) s f h = record { finds = tt; same = refl }
able agent m Stuck s f h = absurd (h refl)

needed : {A : Type 0} → (o : Option A) (go : A → Next) → need o go ≢ Stuck → (x : A) × (o ≡ Some x)
needed None go h = absurd (h refl)
needed (Some x) go h = (x, refl)

-- The instruction that was fetched is the machine's next one, and can be done.
pub record Fetched (code : Code) (view : View) (m : AgentMachine) (agent : AgentCode) (i : Instr) : Type 0 where
  pub can : CanDo m (does code agent view i m.machine)
  pub next : next_for code view m ≡ does code agent view i m.machine
  pub call : call_of code m.machine ≡ call_by i m.machine.operands

pub fetched : (code : Code) (view : View) (m : AgentMachine) (agents : List AgentCode) (instrs : List Instr) (number place : ℕ) (agent : AgentCode) (i : Instr) → agents ≡ code.agents → instrs ≡ code.instrs → number ≡ m.agent → place ≡ m.machine.place → agent ≡ get_or agents number agent → i ≡ get_or instrs place i → length instrs < 2 ^ 64 → IsOf code m → next_for code view m ≢ Stuck → Fetched code view m agent i
fetched code view m agents instrs number place agent i ea ei en ep read fetch small of h =
    let here : m.agent < length code.agents = slice_get_within code.agents m.agent of.0 of.1 in
    let back : agent ≡ get_or code.agents m.agent agent = read ∙ ap (λ xs. get_or xs number agent) ea ∙ ap (λ n. get_or code.agents n agent) en in
    let own : slice_get code.agents m.agent ≡ Some agent = slice_get_read code.agents _ m.agent agent refl here back in
    let same : of.0 ≡ agent = same_Some of.0 agent (sym of.1 ∙ own) in
    let room : (agent.stack ≤ m.stack) × (agent.frames ≤ m.frames) = rw (← same) (of.2, of.3) in
    let after = rw own at h in
    let some = needed (slice_get code.instrs m.machine.place) _ after in
    let within_code : m.machine.place < length code.instrs = slice_get_within code.instrs m.machine.place some.0 some.1 in
    let at : i ≡ get_or code.instrs m.machine.place i = fetch ∙ ap (λ xs. get_or xs place i) ei ∙ ap (λ n. get_or code.instrs n i) ep in
    let instr : slice_get code.instrs m.machine.place ≡ Some i = slice_get_read code.instrs _ m.machine.place i refl within_code at in
    let next = next_is code view m agent i own instr in
    let does_it = able agent m (does code agent view i m.machine) room.0 room.1 (rw next at h) in
    record {
      can = record { place = omega (arith, within_code, small, ap length ei); room = does_it.finds };
      next = next ∙ does_it.same;
      call = call_is code m.machine i instr;
    }
