-- A run that begins with another sound opening is one too: nothing else of what it keeps speaks of the opening. Nor do runs of its code, of
-- stalls and inputs.
use Rattle.std.specs.Prelude.{ℕ, List, ℤ}
use Rattle.psy_budget.specs.declared.charge.Stall.{Stall}
use Rattle.psy_code.specs.declared.code.Code.{Code}
use Rattle.psy_code.specs.Execution.{NoRun, RanTo, Run, Running, TrappedBy}
use Rattle.psy_code.specs.Views.{View}
use Rattle.psy_history.specs.Actions.{Opening, System}
use Rattle.psy_history.specs.Executors.{Carried}
use Rattle.psy_history.specs.Openings.{IsSound}
use Rattle.psy_history.specs.Runs.{GoesWell, IsRun, StandsWell, run_from}
use Rattle.psy_meaning.specs.KnownWays.{Ways}

module _ (s : System) (opening : Opening) (stalls : ℕ → List Stall) (inputs : List (List ℤ)) (ways : Ways) (code : Code) (agent point : ℕ) where
  abbrev there : System
  there = record s { opening = opening; stalls = stalls; inputs = inputs }

  stands_there : (r : Run) → StandsWell s ways code agent point r → StandsWell there ways code agent point r
  stands_there (Running t) stands = stands
  stands_there (RanTo to t) stands = stands
  stands_there (TrappedBy kind t) stands = stands
  stands_there NoRun stands = stands

  pub goes_there : (carried : Carried) (view : View) → GoesWell s ways code agent point carried view → GoesWell there ways code agent point carried view
  goes_there carried view well = record {
    stands = λ n most. stands_there (run_from code agent point carried view n) (well.stands n most);
    asks = well.asks;
  }

module _ (s : System) (opening : Opening) (ways : Ways) (code : Code) (run : IsRun s ways code) where
  abbrev opened : System
  opened = record s { opening = opening }

  pub opened_run : IsSound opened ways code → IsRun opened ways code
  opened_run sound = record {
    bare = run.bare;
    inits = run.inits;
    points = run.points;
    unsent = run.unsent;
    coded = run.coded;
    agents = run.agents;
    inputs = run.inputs;
    opened = sound;
    runs = λ agent point start carried view less may carries sees.
        goes_there s opening s.stalls s.inputs ways code agent point carried view (run.runs agent point start carried view less may carries sees);
  }
