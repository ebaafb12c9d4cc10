-- What is left of the proof of `laws::compiled`.
use Rattle.std.proofs.Common.{◌≡◌, refl}
use Rattle.std.specs.Prelude.{ℕ, List, Option, Some, None, slice_get}
use Rattle.psy_code.specs.declared.code.Code.{Code}
use Rattle.psy_code.specs.Views.{found_in}
use Rattle.psy_tree.specs.declared.unit.AgentDecl.{AgentDecl}
use Rattle.psy_tree.specs.declared.unit.Unit.{Unit as Whole}
use Rattle.psy_history.specs.Actions.{first_action}
use Rattle.psy_history.specs.Executors.{by_code}
use Rattle.psy_meaning.specs.Units.{IsOfText}
use Rattle.psy_history.specs.Regular.{number_of}
use Rattle.psy_history.proofs.CompiledRuns.{AreLaws, compiled_run}
use Rattle.psy_history.proofs.laws.compiled.Goals as goal

laws_of : (c : goal.After-follows) (unit : Whole) (code : Code) → IsOfText unit → AreLaws unit code
laws_of c unit code text =
    let sound = c.sound.ensures.unit text.text.0 unit text.text.1 in
    record {
      stores = record {
        sound = sound;
        keeps = λ number agent point store view at. c.keeps.ensures.action unit number agent point store view sound at;
        first = λ number agent at. c.keeps.ensures.first unit number agent sound at;
        lasted = λ its s t n. c.lasting.ensures.lasted code its s t n;
      };
      ways = λ pieces point s t. c.ways.ensures unit.functions pieces point s t (c.sound.ensures.functions unit sound);
      traps = λ number agent point s t kind. c.traps.ensures unit number agent point s t kind sound;
      sendings = λ number agent from to met sending. c.sendings.ensures unit number agent from to met sending sound;
      within = λ number agent at point to met way. c.follows.ensures.inner unit number agent point to sound at (met, way);
    }

pub returns-clause-run : goal.returns-clause-run
returns-clause-run c unit code nexts stalls inputs compiled given = compiled_run unit code nexts stalls inputs (laws_of c unit code compiled.text) compiled given

-- Each agent begins with number 0, or there is none.
no_number : (unit : Whole) (code : Code) (nexts : List (List (List ℕ))) (agent : ℕ) (its : Option AgentDecl) → number_of (found_in its (λ a. Some (first_action unit nexts (by_code code) agent))) ≡ 0
no_number unit code nexts agent None = refl
no_number unit code nexts agent (Some a) = refl

pub returns-clause-numbers : goal.returns-clause-numbers
returns-clause-numbers c unit code nexts stalls inputs agent = no_number unit code nexts agent (slice_get unit.agents agent)
