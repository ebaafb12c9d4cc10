-- What psyc compiles and plans fits: its code goes well by the lists of the ways of its program's statements.
use Rattle.std.proofs.Common.{◌≡◌, ◌∙◌, refl, sym, ap, subst, ℕ, ◌<◌, ◌≤◌, List, [], ◌∷◌, length, map, Option, None, Some, arith}
use Rattle.std.specs.Prelude.{slice_get, FitsSigned}
use Rattle.std.specs.Int.{w32}
use Rattle.std.proofs.lemmas.Option.{slice_get-get_or}
use Rattle.psy_base.specs.declared.ways.Ways.{Ways as WayLists}
use Rattle.psy_lists.proofs.lemmas.Members.{all_unmapped}
use Rattle.psy_code.specs.declared.code.Code.{Code}
use Rattle.psy_code.specs.declared.code.CopyInit.{CopyInit}
use Rattle.psy_code.specs.declared.look.Sent.{Sent}
use Rattle.psy_code.specs.Execution.{Copy, Run, Running, RanTo, TrappedBy, NoRun, call_of, copy_from}
use Rattle.psy_code.specs.Views.{Call, Past, Ready, Send, Take, View, found_in}
use Rattle.psy_tree.specs.declared.unit.Unit.{Unit as Whole}
use Rattle.psy_tree.specs.Parts.{agent_at, no_agent}
use Rattle.psy_flow.specs.Readings.{AreAlike}
use Rattle.psy_graph.specs.Graphs.{IsTimed}
use Rattle.psy_history.specs.Actions.{System, first_action, timing}
use Rattle.psy_history.specs.Compiled.{coded}
use Rattle.psy_meaning.specs.CodeWays.{agent_code_at}
use Rattle.psy_history.specs.Executors.{Carried, by_code}
use Rattle.psy_history.specs.Fitting.{FitsBy, IsCodeFor, undisturbed}
use Rattle.psy_history.specs.Openings.{MayCarry}
use Rattle.psy_history.specs.Regular.{MayAsk}
use Rattle.psy_history.specs.Runs.{GoesWell, IsRun, StandsWell, run_from}
use Rattle.psy_history.specs.Ways.{SendsAtMost}
use Rattle.psy_meaning.specs.Alike.{ActsAlike, IsViewOf}
use Rattle.psy_meaning.specs.KnownWays.{Listed, OfText}
use Rattle.psy_meaning.specs.ListedWays.{AreWaysFor}
use Rattle.psy_meaning.specs.RingSizes.{agent_timing}
use Rattle.psy_meaning.specs.Sendings.{delay_of}
use Rattle.psy_meaning.specs.Timing.{MayStart, first, later}
use Rattle.psy_meaning.specs.Ways.{sending_of}
use Rattle.psy_run.specs.Services.{no_inputs}

-- The copies of a code are of the variables that they begin with.
variables_from : (copies : List CopyInit) → map (λ (c : Copy). c.variable) (map copy_from copies) ≡ map (λ (c : CopyInit). c.variable) copies
variables_from [] = refl
variables_from (c ∷ copies) = ap (λ rest. c.variable ∷ rest) (variables_from copies)

module _ (unit : Whole) (code : Code) (ways : WayLists) (acts : ActsAlike unit code) (of : AreWaysFor unit ways) (alike : AreAlike unit (Listed ways) (OfText unit))
    (timed : (agent : ℕ) → agent < length unit.agents → IsTimed (agent_timing unit ways.nexts agent)) (run : IsRun (coded unit code ways.nexts (λ agent. []) (no_inputs unit)) (OfText unit) code) where
  -- a run without lists and stalls, and the one of which fitting speaks
  abbrev whole : System
  whole = coded unit code ways.nexts (λ agent. []) (no_inputs unit)

  abbrev alone : System
  alone = undisturbed unit code ways.nexts

  -- ---- the code

  at : (agent : ℕ) → agent < length unit.agents → slice_get unit.agents agent ≡ Some (agent_at unit agent)
  at agent less = slice_get-get_or unit.agents agent no_agent less

  -- What an agent carries into its first action is what it may carry.
  first_carried : (agent : ℕ) → agent < length unit.agents → MayCarry unit code agent ((by_code code).first agent)
  first_carried agent less =
      let begins = first_action unit ways.nexts (by_code code) agent in
      run.opened.carries agent begins (ap (λ o. found_in o (λ a. Some begins)) (at agent less))

  code_for : IsCodeFor unit code
  code_for = record {
    agents = run.agents;
    each = λ agent less.
        let its = agent_code_at code agent in
        let known : agent < length code.agents = omega (arith, less, run.agents) in
        let carries = first_carried agent less in
        record {
          points = (acts.each agent (agent_at unit agent) its (at agent less) (slice_get-get_or code.agents agent _ known)).points;
          cells = carries.values;
          copies = sym (variables_from its.copies) ∙ carries.variables;
          inits = all_unmapped (λ (c : Copy). FitsSigned w32 c.value) copy_from its.copies carries.copies;
        };
  }

  -- ---- its runs

  module _ (agent point : ℕ) (less : agent < length unit.agents) (known : point < length (agent_at unit agent).points) where
    at_most : (to : ℕ) (sends : List Sent) → SendsAtMost (OfText unit) agent point to sends → SendsAtMost (Listed ways) agent point to sends
    at_most to sends most stream n is = most stream n ((alike.most agent point to stream n less known).0 is)

    stands : (r : Run) → StandsWell whole (OfText unit) code agent point r → StandsWell alone (Listed ways) code agent point r
    stands (Running t) (to, follows, most) = (to, follows, at_most to t.deeds.sends most)
    stands (RanTo to t) (follows, most, carries) = (follows, at_most to t.deeds.sends most, carries)
    stands (TrappedBy kind t) well = well
    stands NoRun never = never

    may_ask : (call : Option Call) → MayAsk (OfText unit) unit agent point call → MayAsk (Listed ways) unit agent point call
    may_ask None asks = asks
    may_ask (Some (Past variable back)) (decl, declared, low, looks) = (decl, declared, low, (alike.looks agent point variable less known).1 looks)
    may_ask (Some (Ready stream)) asks = asks
    may_ask (Some (Take stream)) asks = asks
    may_ask (Some (Send sent)) by = record {
      fits = by.fits;
      named = alike.sent sent.stream ∙ by.named;
      soon = subst (λ delay. delay_of unit (sending_of sent) ≤ delay) (sym (alike.delays sent.stream by.fits.stream)) by.soon;
    }

  -- Actions start at points of the agent.
  start_known : (agent point start : ℕ) → agent < length unit.agents → MayStart (timing alone agent) point start → point < length (agent_at unit agent).points
  start_known agent _ _ less first = (let head : 1 ≤ length (agent_at unit agent).points = (timed agent less).head in omega (arith, head))
  start_known agent _ _ less (later from begun to may follows) = ((timed agent less).within from to follows).1

  goes : (agent point start : ℕ) (carried : Carried) (view : View) → agent < length unit.agents → MayStart (timing alone agent) point start → MayCarry unit code agent carried → IsViewOf unit agent view
      → GoesWell alone (Listed ways) code agent point carried view
  goes agent point start carried view less may carries sees =
      let known = start_known agent point start less may in
      let well = run.runs agent point start carried view less may carries sees in
      record {
        stands = λ n within. stands agent point less known (run_from code agent point carried view n) (well.stands n within);
        asks = λ n t early running. may_ask agent point less known (call_of code t.machine) (well.asks n t early running);
      }

  pub fits_by : FitsBy unit code ways
  fits_by = record { bare = run.bare; inits = run.inits; lists = of; parts = code_for; runs = goes }
