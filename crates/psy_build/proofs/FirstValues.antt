-- The first values of a program have 32 bits, whatever the types of what begins with them.
use Rattle.std.proofs.Common.{◌≡◌, ℕ, suc, ◌-◌, ◌<◌, ◌≤◌, ℤ, Bool, true, false, List, [], ◌∷◌, map, refl, sym, subst, arith}
use Rattle.std.specs.Prelude.{FitsSigned, nat_lt, pos, negsuc, neg_ℤ}
use Rattle.std.specs.Int.{w32, int_wrapping_neg}
use Rattle.std.proofs.lemmas.Int.{SFits-int_wrap, wrapping_neg_is}
use Rattle.std.proofs.Math.Facts.{sfits_lit}
use mir.Val.{sel}
use Rattle.psy_meaning.specs.Sound.{Each}
use Rattle.psy_tree.specs.declared.raw.Init.{Init}
use Rattle.psy_tree.specs.declared.raw.Item.{Item}
use Rattle.psy_tree.specs.declared.raw.Item.TheVariants as item
use Rattle.psy_tree.specs.declared.raw.Lit.{Lit}
use Rattle.psy_tree.specs.declared.raw.Local.{Local}
use Rattle.psy_tree.specs.declared.raw.Local.TheVariants as local
use Rattle.psy_tree.specs.declared.raw.Raw.{Raw}
use Rattle.psy_tree.specs.declared.unit.AgentDecl.{AgentDecl}
use Rattle.psy_tree.specs.declared.unit.FunctionDecl.{FunctionDecl}
use Rattle.psy_tree.specs.declared.unit.LocalDecl.{LocalDecl}
use Rattle.psy_tree.specs.declared.unit.Slots.{Slots}
use Rattle.psy_tree.specs.declared.unit.Unit.{Unit as Whole}
use Rattle.psy_tree.specs.Stands.{Stands, signed, first_value, local_of, slot_of, functions, agents}
use Rattle.psy_build.proofs.Narrow.{from_each}

zero_fits : FitsSigned w32 (pos 0)
zero_fits = sfits_lit tt

cast_by : (t : Bool) (n : ℕ) → nat_lt n 2147483648 ≡ t → FitsSigned w32 (sel t (pos n) (negsuc (4294967296 - suc n)))
cast_by true n e = let less : n < 2147483648 = grind (arith, e) in record { sfits = less }
cast_by false n e = let most : 2147483648 ≤ n = grind (arith, e) in record { sfits = omega (arith, most) }

signed_fits : (literal : Lit) → FitsSigned w32 (signed literal)
signed_fits literal = cast_by (nat_lt literal.value 2147483648) literal.value refl

negated_fits : (z : ℤ) → FitsSigned w32 z → FitsSigned w32 (int_wrapping_neg w32 z)
negated_fits z h = subst (FitsSigned w32) (sym (wrapping_neg_is w32 z h)) (SFits-int_wrap w32 (neg_ℤ z))

first_fits : (init : Init) → FitsSigned w32 (first_value init)
first_fits init = by init.minus init.value
  where
    by : (minus : Bool) (literal : Lit) → FitsSigned w32 (first_value (record { minus = minus; value = literal }))
    by true literal = negated_fits (signed literal) (signed_fits literal)
    by false literal = signed_fits literal

abbrev pub LocalFits : LocalDecl → Type 0
LocalFits l = FitsSigned w32 l.init

abbrev pub SlotFits : Slots → Type 0
SlotFits s = FitsSigned w32 s.init

locals_fit : (locals : List Local) → Each LocalFits (map local_of locals)
locals_fit [] = tt
locals_fit (local.Scalar width name init ∷ locals) = (first_fits init, locals_fit locals)
locals_fit (local.Array width name cells ∷ locals) = (zero_fits, locals_fit locals)

slots_fit : (locals : List Local) → Each SlotFits (map slot_of locals)
slots_fit [] = tt
slots_fit (local.Scalar width name init ∷ locals) = (first_fits init, slots_fit locals)
slots_fit (local.Array width name cells ∷ locals) = (zero_fits, slots_fit locals)

-- What a unit's functions and agents begin with
pub record HaveValues (unit : Whole) : Type 0 where
  pub functions : Each (λ (f : FunctionDecl). Each LocalFits f.locals) unit.functions
  pub agents : Each (λ (a : AgentDecl). Each SlotFits a.slots) unit.agents

function_values : (items : List Item) (k : ℕ) (i : Item) → Each (λ (f : FunctionDecl). Each LocalFits f.locals) (functions items k i)
function_values items k (item.Function name params locals stmts) = (locals_fit locals, tt)
function_values items k _ = tt

agent_values : (items : List Item) (k : ℕ) (i : Item) → Each (λ (a : AgentDecl). Each SlotFits a.slots) (agents items k i)
agent_values items k (item.Agent name clock processor budget locals body stmts) = (slots_fit locals, tt)
agent_values items k _ = tt

pub have_values : (raw : Raw) (unit : Whole) → Stands unit raw → HaveValues unit
have_values raw unit stands = subst HaveValues (sym stands.numbered) (record {
  functions = from_each (λ (f : FunctionDecl). Each LocalFits f.locals) (functions raw.items) 0 raw.items (function_values raw.items);
  agents = from_each (λ (a : AgentDecl). Each SlotFits a.slots) (agents raw.items) 0 raw.items (agent_values raw.items);
})
