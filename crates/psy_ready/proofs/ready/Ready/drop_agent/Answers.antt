-- What is left of the proof of `ready::Ready::drop_agent`.
use Rattle.std.proofs.Common.{◌≡◌, ℕ, ◌<◌, ◌==◌, Bool, true, false, List, length, set, get_or, Option, Some, None, sym, ap, ◌∙◌, subst, arith}
use Rattle.std.specs.Prelude.{◌≢◌}
use Rattle.std.specs.List.{Contains, position}
use Rattle.std.proofs.lemmas.Bool.Decides.{nat_tests}
use Rattle.std.proofs.lemmas.List.Quantifiers.{position-Some}
use Rattle.psy_ready.specs.declared.ready.Pending.{Pending}
use Rattle.psy_ready.specs.Choice.{pending_deadline}
use Rattle.psy_ready.specs.Standing.{AreSorted}
use Rattle.psy_ready.proofs.Places.{none_passes}
use Rattle.psy_ready.proofs.Sorts.{one_dropped, more_rest, inside_where}
use Rattle.psy_ready.proofs.ready.Ready.drop_agent.Goals as goal

abbrev is_of : ℕ → Pending → Bool
is_of agent p = p.agent == agent

same_agent : (p : Pending) (agent : ℕ) → is_of agent p ≡ true → p.agent ≡ agent
same_agent p agent e = grind (arith, nat_tests)

other_agent : (p : Pending) (agent : ℕ) → is_of agent p ≡ false → p.agent ≢ agent
other_agent p agent e = grind (arith, nat_tests)

-- Where an agent has no place it isn't listed
no_place : (sorted : List Pending) (agent : ℕ) → position (is_of agent) sorted ≡ None → (k : ℕ) (d : Pending) → k < length sorted → (get_or sorted k d).agent ≢ agent
no_place sorted agent none k d less = other_agent (get_or sorted k d) agent (none_passes (is_of agent) sorted none k d less)

due_in : (now deadlines : List (Option ℕ)) (agent : ℕ) → now ≡ deadlines → (deadline : ℕ) × (pending_deadline now agent ≡ Some deadline) → (deadline : ℕ) × (pending_deadline deadlines agent ≡ Some deadline)
due_in now deadlines agent same due = (due.0, ap (λ ds. pending_deadline ds agent) (sym same) ∙ due.1)

pub invariant_of-self : goal.invariant_of-self
invariant_of-self c =
    let deadlines : List (Option ℕ) = c.self.inside.deadlines.items in
    let sorted : List Pending = c.self.inside.sorted.items in
    let agent : ℕ = c.args.agent in
    let place : ℕ = c.in-Some.place in
    let due : (deadline : ℕ) × (pending_deadline deadlines agent ≡ Some deadline) = due_in c.args.self.now deadlines agent (sym c.self.view_is) c.requires in
    let inside : agent < length deadlines = inside_where deadlines agent due.0 due.1 in
    let found : position (is_of agent) sorted ≡ Some place = ap (position (is_of agent)) (sym c.as_slice.ensures.value) ∙ sym c.place_of.ensures ∙ c.in-Some.is in
    let at : (d : Pending) → (place < length sorted) × (is_of agent (get_or sorted place d) ≡ true) × ((k : ℕ) → k < place → is_of agent (get_or sorted k d) ≡ false) =
    λ d. position-Some (is_of agent) sorted place d found in
    let within : place < length sorted = (at (record { agent = 0; deadline = 0 })).0 in
    record {
      sorted = subst (AreSorted (set deadlines agent None)) (sym c.remove.ensures.items) (one_dropped deadlines sorted c.self.invariant.sorted agent inside place within (λ d. same_agent (get_or sorted place d) agent (at d).1));
      room = omega (arith, c.remove.ensures.len, c.self.inside.sorted.ok.0, c.remove.new.self.ok.0, c.remove.ensures.capacity, c.self.invariant.room, more_rest deadlines agent due.0 inside due.1);
    }

pub invariant_of-self-in_default : goal.invariant_of-self-in_default
invariant_of-self-in_default c =
    let deadlines : List (Option ℕ) = c.self.inside.deadlines.items in
    let sorted : List Pending = c.self.inside.sorted.items in
    let agent : ℕ = c.args.agent in
    let due : (deadline : ℕ) × (pending_deadline deadlines agent ≡ Some deadline) = due_in c.args.self.now deadlines agent (sym c.self.view_is) c.requires in
    let none : position (is_of agent) sorted ≡ None = ap (position (is_of agent)) (sym c.as_slice.ensures.value) ∙ sym c.place_of.ensures ∙ c.in_default.is in
    let x : Pending = record { agent = agent; deadline = due.0 } in
    let has : Contains sorted x = c.self.invariant.sorted.each agent due.0 due.1 in
    absurd (no_place sorted agent none has.0 x has.1 (ap (λ (p : Pending). p.agent) has.2))
