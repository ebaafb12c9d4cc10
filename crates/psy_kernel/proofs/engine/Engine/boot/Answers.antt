-- What is left of the proof of `engine::Engine::boot`.
use Rattle.std.proofs.Common.{◌≡◌, ◌<◌, ℕ, ℤ, List, [], length, replicate, Option, None, refl, ap, sym, subst, ◌∙◌, arith, rules}
use Rattle.std.specs.List.{AllPairs, range_with_len, slice_get}
use Rattle.std.proofs.lemmas.List.{length-replicate}
use Rattle.psy_history.specs.Compiled.{AreInputs, coded}
use Rattle.psy_history.specs.Actions.{System}
use Rattle.psy_history.specs.History.{history}
use Rattle.psy_dates.specs.Plans.{IsSoundFor, whole_of}
use Rattle.psy_dates.specs.Standing.{SharedStands, dates_done}
use Rattle.psy_dates.proofs.lemmas.Fits.{goes_well}
use Rattle.psy_history.specs.declared.told.Order.{Order}
use Rattle.psy_history.specs.Scripts.{order_of, stalls_of}
use Rattle.psy_history.specs.Processors.{processor_at}
use Rattle.psy_history.specs.Schedule.{Turn}
use Rattle.psy_history.specs.Scheduled.{turns_of}
use Rattle.psy_kernel.specs.Standing.{AgentStands, AreInForce, DeedsStand, ServerStands, given_at, most_held_in, waits_on}
use Rattle.psy_kernel.specs.Starting.{first_server}
use Rattle.psy_kernel.proofs.Booted.{first_cycles, first_one, first_stands, first_waits, replicated_at, view_booted}
use Rattle.psy_kernel.proofs.Engines.{cycles_of}
use Rattle.psy_kernel.proofs.Parts.{shared_alike}
use Rattle.psy_kernel.proofs.engine.Engine.boot.Goals as goal

pub passed_first-passed-requires : goal.passed_first-passed-requires
passed_first-passed-requires c = subst (AllPairs (λ (o p : Order). o.cycle < p.cycle)) (sym c.as_slice.ensures) c.requires.script.orders_rise

pub invariant_of-result : goal.invariant_of-result
invariant_of-result c =
    let plan = c.args.plan in
    let unit = plan.unit in
    let script = c.args.script in
    let shared = c.in_ok-shared.shared in
    let lists : c.args.inputs.lists ≡ shared.inputs.lists = ap (λ i. i.lists) (sym c.in_ok-shared.ensures.inputs) in
    let first = c.in_ok-shared.ensures.stands (stalls_of script) in
    let dates : 0 ≡ dates_done shared.date = sym first.date in
    let s : List (List ℤ) → System = coded unit plan.code plan.nexts (stalls_of script) in
    let count = c.len-agents.result in
    let counted : count ≡ length unit.agents = c.len-agents.ensures in
    let runners = c.in_ok-runners.ensures in
    let passed = c.passed_first-passed.result in
    let homes = c.processors_of.result in
    let made : c.in_ok-servers.servers.items ≡ replicate homes (first_server count passed) = c.in_ok-servers.ensures in
    let orders : AreInForce script.orders passed 0 = subst (λ orders. AreInForce orders passed 0) c.as_slice.ensures c.passed_first-passed.ensures in
    let turns : List (List ℤ) → ℕ → List (Option Turn) = λ i agent. turns_of (s i) (order_of unit script) (cycles_of c.in_ok-servers.servers.items (processor_at unit agent)) (processor_at unit agent) in
    let idle : (i : List (List ℤ)) (agent : ℕ) → [] ≡ turns i agent = λ i agent.
    ap (λ n. turns_of (s i) (order_of unit script) n (processor_at unit agent)) (sym (ap (λ servers. cycles_of servers (processor_at unit agent)) made ∙ first_cycles count passed homes (processor_at unit agent))) in
    let never : Option ℕ = None in
    let reached = c.in_ok-reached.ensures.items_if_clones_equal (λ y e. search (rules)) in
    let helds = c.in_ok-helds.ensures.items_if_clones_equal (λ y e. e) in
    record {
      plan = c.requires.plan;
      inputs = subst (AreInputs unit) lists c.requires.inputs;
      script = c.requires.script;
      parts = tt {0};
      sound = subst (λ i. IsSoundFor plan (whole_of plan) i (stalls_of script)) lists (λ its. (goes_well plan its c.fitting.ensures c.args.inputs.lists (stalls_of script) c.requires.inputs).opened);
      behind = omega arith;
      before = λ last first. absurd (cc);
      served = ap length made ∙ length-replicate homes (first_server count passed) ∙ c.processors_of.ensures.exact;
      servers = λ processor server at.
          subst (ServerStands _ processor) (sym (replicated_at (first_server count passed) homes processor server (ap (λ xs. slice_get xs processor) (sym made) ∙ at))) (first_one count passed _ processor (sym dates) counted orders);
      shared = shared_alike (s shared.inputs.lists) plan.sizes (λ agent. []) (turns shared.inputs.lists) (dates_done shared.date) shared (idle shared.inputs.lists)
          (subst (λ i. SharedStands (s i) plan.sizes (λ agent. []) (dates_done shared.date) shared) lists
          (subst (λ d. SharedStands (s c.args.inputs.lists) plan.sizes (λ agent. []) d shared) dates first));
      run = runners.count ∙ c.requires.plan.fits.parts.agents;
      reaching = ap length reached ∙ length-replicate c.len.result never ∙ c.len.ensures;
      reached = λ variable n en.
          replicated_at never c.len.result variable n (ap (λ xs. slice_get xs variable) (sym reached) ∙ en)
          ∙ sym (c.reaches.ensures.none (s shared.inputs.lists) (history (s shared.inputs.lists) (dates_done shared.date)) variable)
          ∙ c.reaches.ensures.same (s shared.inputs.lists) (λ agent. []) (turns shared.inputs.lists) (history (s shared.inputs.lists) (dates_done shared.date)) variable (idle shared.inputs.lists);
      holding = ap length helds ∙ length-replicate c.len-2.result 0 ∙ c.len-2.ensures;
      held = λ stream n en.
          subst (λ d. n ≡ most_held_in (s shared.inputs.lists) d stream) dates (replicated_at 0 c.len-2.result stream n (ap (λ xs. slice_get xs stream) (sym helds) ∙ en));
      doing = λ agent outbox eo.
          subst (λ ts. DeedsStand (s shared.inputs.lists) plan.code ts (history (s shared.inputs.lists) (dates_done shared.date) agent) outbox.sends shared.taken.items) (idle shared.inputs.lists agent)
          (subst (λ d. DeedsStand (s shared.inputs.lists) plan.code [] (history (s shared.inputs.lists) d agent) outbox.sends shared.taken.items) dates (tt {0}));
      agents = λ agent runner there.
          (let new = runners.new agent runner there in
          let waits = waits_on unit c.in_ok-servers.servers.items agent in
          subst (λ ts. AgentStands (s shared.inputs.lists) plan.code ts plan.until agent (history (s shared.inputs.lists) (dates_done shared.date) agent) runner waits) (idle shared.inputs.lists agent)
          (subst (λ d. AgentStands (s shared.inputs.lists) plan.code [] plan.until agent (history (s shared.inputs.lists) d agent) runner waits) dates
          (first_stands (s shared.inputs.lists) plan.code plan.until agent runner waits new.charge new.new new.of_code
          (ap (λ servers. waits_on unit servers agent) made ∙ first_waits count passed unit homes agent) new.figure refl refl)));
      all = c.in_ok-declared.ensures ∙ ap (range_with_len 0) counted;
      place = omega arith;
      unshown = λ l. refl;
      given = subst (λ d. 0 ≡ given_at (s shared.inputs.lists) d 0 0) dates refl;
    }

pub returns : goal.returns
returns c =
    view_booted c.len-agents.result c.passed_first-passed.result c.args.plan c.args.script c.args.inputs.lists c.in_ok-shared.shared.inputs.lists (dates_done c.in_ok-shared.shared.date) c.processors_of.result c.in_ok-servers.servers.items (ap (λ i. i.lists) c.in_ok-shared.ensures.inputs)
    (c.in_ok-shared.ensures.stands (stalls_of c.args.script)).date c.processors_of.ensures.exact c.in_ok-servers.ensures
