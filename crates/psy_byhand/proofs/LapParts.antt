-- The parts of the declarations keep what they have to.
use Rattle.std.proofs.Common.{ℕ, ◌<◌, [], length, refl, arith}
use Rattle.std.specs.Prelude.{FitsSigned, IsTrue, pos}
use Rattle.std.specs.Int.{w32}
use Rattle.std.proofs.Math.Facts.{sfits_lit}
use Rattle.std.proofs.lemmas.List.Elements.{All-cons, All-nil}
use Rattle.psy_base.specs.declared.limits.TheConstants.{BUDGET}
use Rattle.psy_tree.specs.declared.unit.Unit.{Unit as Whole}
use Rattle.psy_tree.specs.Lexemes.{begins_word}
use Rattle.psy_meaning.specs.Units.{IsBareAgent, IsBarePoint, IsBareSlot, IsBareVariable, IsName, Within}
use Rattle.psy_byhand.specs.Laps.{agent_of, variable_of}
use Rattle.psy_byhand.proofs.Names.{letter}

pub zero_fits : FitsSigned w32 (pos 0)
zero_fits = sfits_lit tt

pub is_name : (byte : ℕ) → IsTrue (begins_word byte) → IsName (letter byte)
is_name byte begins = ((begins, tt), omega arith)

module _ (unit : Whole) (some : 0 < length unit.clocks) where
  pub bare_agent : (byte budget : ℕ) → IsTrue (begins_word byte) → Within 1 BUDGET budget → IsBareAgent unit (agent_of byte budget)
  bare_agent byte budget begins granted = record {
    name = is_name byte begins;
    clock = some;
    processor = omega arith;
    budget = granted;
    slots = All-nil IsBareSlot;
    names = omega arith;
    points = (refl, All-cons (IsBarePoint unit) (record { count = 1; clock = 0; budget = budget }) [] (record { count = (omega arith, omega arith); clock = some; budget = granted }) (All-nil (IsBarePoint unit)));
    limit = omega arith;
  }

  pub bare_variable : (owner : ℕ) → owner < length unit.agents → IsBareVariable unit (variable_of owner)
  bare_variable owner known = record { name = is_name 118 refl; owner = known; clock = some; depth = (omega arith, omega arith) }
