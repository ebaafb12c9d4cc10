-- Code is verified alike for units of the same variables, streams and clocks.
use Rattle.std.proofs.Common.{◌≡◌, ap, ◌∙◌, arith}
use Rattle.std.specs.Prelude.{ℕ, length, slice_get}
use Rattle.psy_code.specs.declared.code.Code.{Code}
use Rattle.psy_code.specs.declared.instr.Instr.{Instr}
use Rattle.psy_code.specs.declared.instr.Instr.TheVariants as instr
use Rattle.psy_tree.specs.declared.unit.Unit.{Unit as Whole}
use Rattle.psy_flow.specs.Owners.{Agent, Function, Owner}
use Rattle.psy_flow.specs.Verified.{Hears, IsNamed, IsVerified, Owns, Reaches}

module _ (unit other : Whole) (code : Code) (variables : other.variables ≡ unit.variables) (streams : other.streams ≡ unit.streams) (clocks : length other.clocks ≡ length unit.clocks) where
  owns : (owner : Owner) (variable : ℕ) → Owns unit owner variable → Owns other owner variable
  owns (Agent number) variable (decl, at, is) = (decl, ap (λ vs. slice_get vs variable) variables ∙ at, is)
  owns (Function number) variable h = omega (arith, h, ap length variables)

  hears : (owner : Owner) (stream : ℕ) → Hears unit owner stream → Hears other owner stream
  hears (Agent number) stream (decl, at, is) = (decl, ap (λ ss. slice_get ss stream) streams ∙ at, is)
  hears (Function number) stream h = omega (arith, h, ap length streams)

  reaches : (variable back : ℕ) → Reaches unit variable back → Reaches other variable back
  reaches variable back (decl, at, deep) = (decl, ap (λ vs. slice_get vs variable) variables ∙ at, deep)

  names : (owner : Owner) (i : Instr) → IsNamed unit code owner i → IsNamed other code owner i
  names owner (instr.LoadCopy variable) h = owns owner variable h
  names owner (instr.StoreCopy variable) h = owns owner variable h
  names owner (instr.Past variable back) h = reaches variable back h
  names owner (instr.Ready stream) h = hears owner stream h
  names owner (instr.Take stream) h = hears owner stream h
  names owner (instr.Send stream after clock) h = (omega (arith, h.0, ap length streams), omega (arith, h.1, clocks), h.2)
  names owner (instr.Call function) h = h
  names owner i h = tt {0}

  pub alike : IsVerified unit code → IsVerified other code
  alike v = record {
    inside = v.inside;
    apart = v.apart;
    balanced = v.balanced;
    stack = v.stack;
    framed = v.framed;
    frames = v.frames;
    named = λ place owner i reached at. names owner i (v.named place owner i reached at);
    ordered = v.ordered;
    leads = v.leads;
    ends = v.ends;
  }
