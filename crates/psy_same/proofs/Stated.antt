-- A file states one program, one list for each of its inputs, and one script; they are what the program's runs may have.
use Rattle.std.proofs.Common.{◌≡◌, ◌∙◌, sym, ap, subst, ℕ, ◌≤◌, List, length, Option, None, Some, ℤ, arith}
use Rattle.psy_base.specs.declared.limits.TheConstants.{FILE_BYTES}
use Rattle.psy_door.specs.Files.{Files, bytes_under}
use Rattle.psy_history.specs.declared.told.Script.{Script as Said}
use Rattle.psy_history.specs.Scripts.{IsScript}
use Rattle.psy_meaning.specs.Units.{IsOfText}
use Rattle.psy_plan.specs.Courses.{IsDecided}
use Rattle.psy_plan.specs.Programs.{IsProgram, translating}
use Rattle.psy_run.specs.Answer.{compiling, listing, scripting}
use Rattle.psy_run.specs.Courses.{in_row}
use Rattle.psy_run.specs.Services.{no_script}
use Rattle.psy_script.specs.Inputs.{lists_in}
use Rattle.psy_script.specs.Script.{IsScriptOf, script_in}
use Rattle.psy_text.specs.Lines.{lines_of}
use Rattle.psy_tree.specs.declared.unit.Unit.{Unit as Whole}

is_no_script : (unit : Whole) → IsScript unit no_script
is_no_script unit = record {
  stalls = λ k d none. absurd (omega (arith, none));
  stalls_rise = λ i j d less none. absurd (omega (arith, none));
  orders = λ k d none. absurd (omega (arith, none));
  orders_rise = λ i j d less none. absurd (omega (arith, none));
  rounds = λ k d none. absurd (omega (arith, none));
  rounds_rise = λ i j d less none. absurd (omega (arith, none));
}

module _ (files : Files) where
  -- ---- the program

  pub is_of_text : ((bytes : List ℕ) (unit : Whole) → length bytes ≤ FILE_BYTES → IsProgram bytes unit → IsOfText unit) → (name : List ℕ) (unit : Whole)
      → (compiling (Some files) name).gives unit → IsOfText unit
  unfolding in_row
  is_of_text law name unit (bytes, (few, is), its) = law bytes unit few its

  pub one_unit : ((bytes : List ℕ) → IsDecided (translating bytes)) → (name : List ℕ) (unit other : Whole) → (compiling (Some files) name).gives unit
      → (compiling (Some files) name).gives other → unit ≡ other
  unfolding in_row
  one_unit law name unit other (bytes, (few, is), its) (more, (short, also), made) =
      (law (bytes_under files name)).one.gift unit other
      (subst (λ text. IsProgram text unit) is its)
      (subst (λ text. IsProgram text other) also made)

  module _ (unit : Whole) where
    -- ---- inputs

    pub one_lists : (inputs : Option (List ℕ)) (lists others : List (List ℤ)) → (listing (Some files) unit inputs).gives lists
        → (listing (Some files) unit inputs).gives others → lists ≡ others
    unfolding in_row
    one_lists None lists others is also = is ∙ sym also
    one_lists (Some name) lists others (bytes, (few, is), are) (more, (short, also), those) =
        are.stated ∙ ap (λ text. lists_in unit (lines_of text)) (is ∙ sym also) ∙ sym those.stated

    -- ---- the script

    pub one_script : (script : Option (List ℕ)) (said other : Said) → (scripting (Some files) unit script).gives said
        → (scripting (Some files) unit script).gives other → said ≡ other
    unfolding in_row
    one_script None said other is also = is ∙ sym also
    one_script (Some name) said other (bytes, (few, is), its) (more, (short, also), that) =
        its.stated ∙ ap (λ text. script_in unit (lines_of text)) (is ∙ sym also) ∙ sym that.stated

    pub is_script : ((text : List ℕ) (said : Said) → IsScriptOf unit text said → IsScript unit said) → (script : Option (List ℕ)) (said : Said)
        → (scripting (Some files) unit script).gives said → IsScript unit said
    unfolding in_row
    is_script law None said is = subst (IsScript unit) (sym is) (is_no_script unit)
    is_script law (Some name) said (bytes, read, its) = law bytes said its
