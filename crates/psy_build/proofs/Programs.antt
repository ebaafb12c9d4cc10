-- What the text of a program says of its unit, beyond what is asked of any unit.
use Rattle.std.proofs.Common.{◌≡◌, ◌↔◌, ℕ, ◌*◌, ◌≤◌, true, List, length, arith}
use Rattle.psy_base.specs.declared.limits.TheConstants.{FILE_BYTES}
use Rattle.psy_gen.specs.Emission.{code_of}
use Rattle.psy_image.specs.Answers.{KeepRanges}
use Rattle.psy_image.specs.Names.{is_name}
use Rattle.psy_meaning.specs.Alike.{ActsAlike}
use Rattle.psy_meaning.specs.Sizes.{unit_size}
use Rattle.psy_meaning.specs.Sound.{IsSoundUnit}
use Rattle.psy_meaning.specs.Units.{IsOfText}
use Rattle.psy_plan.specs.Courses.{in_row}
use Rattle.psy_plan.specs.Programs.{IsProgram}
use Rattle.psy_tree.proofs.lemmas.TokenCounts.{length-TokensOf}
use Rattle.psy_tree.specs.declared.raw.Raw.{Raw}
use Rattle.psy_tree.specs.declared.token.Kind.TheVariants as kinds
use Rattle.psy_tree.specs.declared.token.Token.{Token}
use Rattle.psy_tree.specs.declared.unit.Unit.{Unit as Whole}
use Rattle.psy_tree.specs.Grammar.{Spells}
use Rattle.psy_tree.specs.Lexemes.{IsSpelling}
use Rattle.psy_tree.specs.Stands.{Stands}
use Rattle.psy_tree.specs.Tokens.{TokensOf}
use Rattle.psy_build.proofs.FirstValues.{have_values}
use Rattle.psy_build.proofs.LoopCounts.{few_loops}
use Rattle.psy_build.proofs.Narrow.{are_narrow}
use Rattle.psy_build.proofs.Ranges.{known_ranges}
use Rattle.psy_build.proofs.TextNames.{are_named}

-- The tokens and the tree of a program's text
abbrev Read : List ℕ → Whole → Type 0
Read bytes unit = (tokens : List Token) × TokensOf bytes tokens × (raw : Raw) × Spells raw tokens × Stands unit raw

read : (bytes : List ℕ) (unit : Whole) → IsProgram bytes unit → Read bytes unit
unfolding in_row
read bytes unit (tokens, are, (raw, spells, stands)) = (tokens, are, raw, spells.1, stands)

pub ranges : ((bytes : List ℕ) (unit : Whole) → length bytes ≤ FILE_BYTES → IsProgram bytes unit → IsOfText unit)
    → ((raw : Raw) (unit : Whole) → Stands unit raw → IsSoundUnit unit)
    → ((tokens : List Token) (raw : Raw) (unit : Whole) → Spells raw tokens → Stands unit raw → unit_size unit ≤ 2 * length tokens)
    → ((unit : Whole) → IsSoundUnit unit → ActsAlike unit (code_of unit))
    → ((text : List ℕ) → (is_name text ≡ true ↔ IsSpelling (kinds.Name text) text))
    → (bytes : List ℕ) (unit : Whole) → length bytes ≤ FILE_BYTES → IsProgram bytes unit → KeepRanges unit (code_of unit)
ranges texts sounds sizes alikes names bytes unit few program =
    let (tokens, are, raw, spells, stands) = read bytes unit program in
    let sound = sounds raw unit stands in
    let loops = few_loops raw unit tokens spells stands in
    known_ranges unit (record {
      text = texts bytes unit few program;
      sound = sound;
      alike = alikes unit sound;
      named = are_named bytes tokens raw unit are spells stands;
      narrow = are_narrow raw unit stands;
      values = have_values raw unit stands;
      tokens = length tokens;
      few = omega (arith, length-TokensOf bytes tokens are, few);
      size = sizes tokens raw unit spells stands;
      function_loops = loops.0;
      agent_loops = loops.1;
    }) names
