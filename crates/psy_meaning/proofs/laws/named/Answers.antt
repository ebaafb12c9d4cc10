-- What is left of the proof of `laws::named`.
use Rattle.std.proofs.Common.{◌≡◌, ℕ, zero, suc, List, [], ◌∷◌, subst, arith}
use Rattle.std.specs.List.{Contains}
use Rattle.std.proofs.lemmas.List.{length-map}
use Rattle.psy_tree.specs.declared.unit.AgentDecl.{AgentDecl}
use Rattle.psy_tree.specs.declared.unit.Unit.{Unit as Whole}
use Rattle.psy_code.specs.Views.{Looked}
use Rattle.psy_meaning.specs.Rest.{rest}
use Rattle.psy_meaning.specs.Sound.{Scope, Each, HasPast, CanSend, agent_scope, IsSoundUnit}
use Rattle.psy_meaning.specs.Ways.{Meter, Sending, To, unmetered, callee_ways, IsWay}
use Rattle.std.specs.Prelude.{Some, slice_get, ◌==◌}
use Rattle.psy_meaning.proofs.lemmas.Eaches.{each-append}
use Rattle.psy_meaning.proofs.SoundWays.{callees_keep, keeps_rest}
use Rattle.psy_meaning.proofs.laws.named.Goals as goal

-- What holds of each of them holds of one that is among them.
each_contained : {X : Type 0} (P : X → Type 0) (xs : List X) (x : X) → Each P xs → Contains xs x → P x
each_contained P [] x h c = absurd (omega (arith, c.1))
each_contained P (y ∷ ys) x h (zero, less, is) = subst P is h.0
each_contained P (y ∷ ys) x h (suc k, less, is) = each_contained P ys x h.1 (k, omega (arith, less), is)

abbrev Fine_look : Scope → Looked → Type 0
Fine_look scope look = HasPast scope look.variable look.back

abbrev Fine_send : Scope → Sending → Type 0
Fine_send scope send = CanSend scope send.stream send.after send.clock

abbrev Fines : Scope → Meter → Type 0
Fines scope m = Each (Fine_look scope) m.looks × Each (Fine_send scope) m.sends

fine_way : (unit : Whole) (number : ℕ) (agent : AgentDecl) (from to : ℕ) (met : Meter) → IsSoundUnit unit → slice_get unit.agents number ≡ Some agent → IsWay unit.functions (rest agent.stmts from) to met → Fines (agent_scope unit number agent) met
fine_way unit number agent from to met sound got way =
    let scope = agent_scope unit number agent in
    let steps = λ (m : Meter) (h : Fines scope m). h in
    keeps_rest (Fines scope) steps scope
    (λ variable back has m h. (each-append (Fine_look scope) m.looks (record { number = m.steps; variable = variable; back = back } ∷ []) h.0 (has, tt), h.1))
    (λ send can m h. (h.0, each-append (Fine_send scope) m.sends (send ∷ []) h.1 (can, tt)))
    (callee_ways unit.functions) (callees_keep (Fines scope) steps unit.functions sound.functions) agent.stmts from (sound.agents number agent got).stmts (To to) unmetered met way (tt, tt)

pub returns-clause-looks : goal.returns-clause-looks
returns-clause-looks c unit number agent from to met look sound got way has =
    let scope = agent_scope unit number agent in
    each_contained (Fine_look scope) met.looks look (fine_way unit number agent from to met sound got way).0 has

pub returns-clause-sends : goal.returns-clause-sends
returns-clause-sends c unit number agent from to met sending sound got way has =
    let scope = agent_scope unit number agent in
    let can = each_contained (Fine_send scope) met.sends sending (fine_way unit number agent from to met sound got way).1 has in
    (omega (arith, can.target, length-map unit.streams (λ s. s.receiver == number)), can.by, can.delay)
