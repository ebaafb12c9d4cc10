-- What the verifier knows of code that wasn't made from a text: enough that a plan of it fits.
use Rattle.std.specs.Prelude.{◌≡◌, ◌⊎◌, ℕ, ◌<◌, ◌≤◌, [], length, FitsSigned, Result, MatchResult}
use Rattle.std.specs.Int.{w32}
use Rattle.std.specs.List.{All}
use Rattle.psy_base.specs.declared.limits.TheConstants.{OPEN_CALLS}
use Rattle.psy_base.specs.declared.ways.Ways.{Ways}
use Rattle.psy_code.specs.declared.code.Code.{Code}
use Rattle.psy_tree.specs.declared.unit.Unit.{Unit as Whole}
use Rattle.psy_tree.specs.Parts.{agent_at}
use Rattle.psy_meaning.specs.CodeWays.{AreCodeWays, HaveAllMosts}
use Rattle.psy_meaning.specs.Units.{IsBare}
use Rattle.psy_history.specs.Fitting.{IsCodeFor}
use Rattle.psy_flow.specs.Verified.{IsVerified}
use Rattle.psy_judge.specs.Judging.{IsSized}
use Rattle.psy_judge.specs.declared.verdict.VerifyFault.{VerifyFault}
use Rattle.psy_judge.specs.declared.verdict.VerifyFault.TheVariants as verify_fault
use Rattle.psy_image.specs.declared.image.Image.{Image}
use Rattle.psy_verify.specs.declared.verifying.Checked.{Checked}

-- No agent has slots: nothing is said of what its cells may hold.
abbrev pub HasNoSlots : Whole → Type 0
HasNoSlots unit = (agent : ℕ) → agent < length unit.agents → (agent_at unit agent).slots ≡ []

-- The code is verified, has the unit's agents and no more functions than calls may be open, and these are its ways, with a most to each next
-- point for each stream.
pub record IsChecked (unit : Whole) (code : Code) (lists : Ways) : Type 0 where
  pub verified : IsVerified unit code
  pub parts : IsCodeFor unit code
  pub slots : HasNoSlots unit
  pub few : length code.functions ≤ OPEN_CALLS
  pub ways : AreCodeWays unit code lists
  pub mosts : HaveAllMosts unit code lists.nexts

-- What an image has whose bytes spell it: a bare unit without slots, first values of 32 bits, code for its agents, with no more functions than
-- calls may be open, and no more instructions than places can be numbered.
pub record IsSoundImage (it : Image) : Type 0 where
  pub bare : IsBare it.unit
  pub inits : All (λ v. FitsSigned w32 v.init) it.unit.variables
  pub parts : IsCodeFor it.unit it.code
  pub slots : HasNoSlots it.unit
  pub few : length it.code.functions ≤ OPEN_CALLS
  pub sized : IsSized it.code

-- The answer is this fault, or want of memory.
abbrev pub GivesFault : Result Checked VerifyFault → ℕ → ℕ → Type 0
GivesFault answer number place =
    MatchResult answer (λ checked. ⊥) (λ fault. (fault ≡ verify_fault.Fault number place) ⊎ (fault ≡ verify_fault.Memory))
