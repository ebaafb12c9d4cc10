-- The relay's code fits its declarations.
use Rattle.std.proofs.Common.{ℕ, zero, suc, ◌<◌, ◌≤◌, [], ◌∷◌, refl, arith}
use Rattle.std.specs.Prelude.{FitsSigned, pos}
use Rattle.std.specs.Int.{w32}
use Rattle.std.proofs.lemmas.List.Elements.{All-cons, All-nil}
use Rattle.std.proofs.lemmas.List.Kept.{AllPairs-cons}
use Rattle.psy_base.specs.declared.limits.TheConstants.{BUDGET, QUANTUM}
use Rattle.psy_clock.specs.Dates.{IsClock}
use Rattle.psy_code.specs.Views.{View}
use Rattle.psy_history.specs.Actions.{timing}
use Rattle.psy_meaning.specs.CodeWays.{agent_code_at}
use Rattle.psy_history.specs.Executors.{Carried}
use Rattle.psy_history.specs.Fitting.{FitsBy, IsAgentCodeFor, undisturbed}
use Rattle.psy_history.specs.Openings.{MayCarry}
use Rattle.psy_history.specs.Runs.{GoesWell}
use Rattle.psy_meaning.specs.Alike.{IsViewOf}
use Rattle.psy_meaning.specs.KnownWays.{Listed}
use Rattle.psy_meaning.specs.ListedWays.{AreSendsFor, AreWaysFor, IsSendWayFor, IsWayBefore, LONGEST}
use Rattle.psy_meaning.specs.Timing.{MayStart}
use Rattle.psy_meaning.specs.Units.{IsBare, IsBareAgent, IsBareFunction, IsBareStream, IsBareVariable, IsName, Within}
use Rattle.psy_byhand.specs.Laps.{agent_of, tenth, variable_of}
use Rattle.psy_byhand.specs.Relays.{nexts, stream, unit_of}
use Rattle.psy_byhand.proofs.Holding.{none_fit}
use Rattle.psy_byhand.proofs.LapGraph.{ComesAgain, is_tenth, met, one_there}
use Rattle.psy_byhand.proofs.LapParts.{bare_agent, bare_variable, is_name, zero_fits}
use Rattle.psy_byhand.proofs.LapPoints.{by_two, look_for, next_for, no_look_for, no_send_for}
use Rattle.psy_byhand.proofs.Names.{all_differ, letter}
use Rattle.psy_byhand.proofs.RelayRuns.{code, one_send, receiver_goes, sender_goes, ways}

module _ (quantum budget : ℕ) (cycles : Within 1 QUANTUM quantum) (granted : Within 1 BUDGET budget) where
  -- ---- declarations

  bare_stream : IsBareStream (unit_of quantum budget) stream
  bare_stream = record { name = is_name 115 refl; receiver = omega arith; clock = omega arith; keep = (omega arith, omega arith) }

  bare : IsBare (unit_of quantum budget)
  bare = record {
    quantum = cycles;
    clocks = All-cons IsClock tenth [] is_tenth (All-nil IsClock);
    clock_names = All-cons IsName (letter 99) [] (is_name 99 refl) (All-nil IsName);
    clocks_named = refl;
    clock_limit = omega arith;
    variables = All-cons (IsBareVariable (unit_of quantum budget)) (variable_of 1) [] (bare_variable (unit_of quantum budget) (omega arith) 1 (omega arith)) (All-nil (IsBareVariable (unit_of quantum budget)));
    variable_limit = omega arith;
    streams = All-cons (IsBareStream (unit_of quantum budget)) stream [] bare_stream (All-nil (IsBareStream (unit_of quantum budget)));
    stream_limit = omega arith;
    functions = All-nil IsBareFunction;
    function_limit = omega arith;
    agents =
        All-cons (IsBareAgent (unit_of quantum budget)) (agent_of 65 budget) (agent_of 66 budget ∷ []) (bare_agent (unit_of quantum budget) (omega arith) 65 budget refl granted)
        (All-cons (IsBareAgent (unit_of quantum budget)) (agent_of 66 budget) [] (bare_agent (unit_of quantum budget) (omega arith) 66 budget refl granted) (All-nil (IsBareAgent (unit_of quantum budget))));
    agent_limit = omega arith;
    names = all_differ (99 ∷ 118 ∷ 115 ∷ 65 ∷ 66 ∷ []) refl;
  }

  -- ---- ways and code

  send_for : AreSendsFor (unit_of quantum budget) (1 ∷ []) one_send
  send_for = record {
    rise = AllPairs-cons IsWayBefore (record { to = 1; stream = 0; most = 1 }) [] (All-nil (IsWayBefore (record { to = 1; stream = 0; most = 1 }))) (λ i j d less within. absurd (omega (arith, within)));
    known = All-cons (IsSendWayFor (unit_of quantum budget) (1 ∷ [])) (record { to = 1; stream = 0; most = 1 }) [] (record { to = one_there; stream = omega arith; some = omega arith; cut = omega arith }) (All-nil (IsSendWayFor (unit_of quantum budget) (1 ∷ [])));
  }

  are_ways : AreWaysFor (unit_of quantum budget) ways
  are_ways = record {
    nexts = by_two _ (1 ∷ []) (1 ∷ []) (1 ∷ []) (1 ∷ []) (next_for 65 budget) (next_for 65 budget) (next_for 66 budget) (next_for 66 budget);
    looks = by_two _ (0 ∷ []) (0 ∷ []) [] [] (look_for (unit_of quantum budget) (omega arith)) (look_for (unit_of quantum budget) (omega arith)) (no_look_for (unit_of quantum budget)) (no_look_for (unit_of quantum budget));
    sends = by_two _ one_send one_send [] [] send_for send_for (no_send_for (unit_of quantum budget) (1 ∷ [])) (no_send_for (unit_of quantum budget) (1 ∷ []));
    count = refl;
    delays = All-cons (λ delay. delay ≤ LONGEST) 9 [] (omega arith) (All-nil (λ delay. delay ≤ LONGEST));
  }

  its_code : (agent : ℕ) → agent < 2 → IsAgentCodeFor (unit_of quantum budget) agent (agent_code_at code agent)
  its_code zero less = record { points = refl; cells = none_fit (agent_of 65 budget); copies = refl; inits = All-nil (λ c. FitsSigned w32 c.init) }
  its_code (suc zero) less = record {
    points = refl;
    cells = none_fit (agent_of 66 budget);
    copies = refl;
    inits = All-cons (λ c. FitsSigned w32 c.init) (record { variable = 0; init = pos 0 }) [] zero_fits (All-nil (λ c. FitsSigned w32 c.init));
  }
  its_code (suc (suc agent)) less = absurd (omega (arith, less))

  module _ (again : ComesAgain) where
    runs : (agent point start : ℕ) (carried : Carried) (view : View) → agent < 2 → MayStart (timing (undisturbed (unit_of quantum budget) code nexts) agent) point start → MayCarry (unit_of quantum budget) code agent carried
        → IsViewOf (unit_of quantum budget) agent view → GoesWell (undisturbed (unit_of quantum budget) code nexts) (Listed ways) code agent point carried view
    runs zero point start carried view less may carries sees = sender_goes quantum budget point carried view (met again budget point start may).point_is carries sees
    runs (suc zero) point start carried view less may carries sees = receiver_goes quantum budget point carried view (met again budget point start may).point_is carries sees
    runs (suc (suc agent)) point start carried view less may carries sees = absurd (omega (arith, less))

    pub relay_fits : FitsBy (unit_of quantum budget) code ways
    relay_fits = record {
      bare = bare;
      inits = All-cons (λ v. FitsSigned w32 v.init) (variable_of 1) [] zero_fits (All-nil (λ v. FitsSigned w32 v.init));
      lists = are_ways;
      parts = record { agents = refl; each = its_code };
      runs = runs;
    }
