-- The plan of a program that has one input fits.
use Rattle.std.proofs.Common.{◌≡◌, ℕ, zero, suc, ◌≤◌, List, [], ◌∷◌, Option, None, Some, refl, sym, ap, ◌∙◌, subst, inl, arith}
use Rattle.std.specs.Prelude.{FitsSigned, IfSome, slice_get}
use Rattle.std.specs.Int.{w32}
use Rattle.std.proofs.Math.Facts.{sfits_lit}
use Rattle.std.proofs.lemmas.List.Elements.{All-cons, All-nil}
use Rattle.std.proofs.lemmas.Option.{none-some, same_Some}
use Rattle.psy_base.specs.declared.limits.TheConstants.{RING}
use Rattle.psy_clock.specs.Dates.{IsClock}
use Rattle.psy_dates.specs.Plans.{IsPlan}
use Rattle.psy_dates.specs.declared.plan.Plan.{Plan}
use Rattle.psy_history.specs.Fitting.{FitsBy}
use Rattle.psy_meaning.specs.KnownWays.{Listed}
use Rattle.psy_meaning.specs.ListedWays.{AreWaysFor}
use Rattle.psy_meaning.specs.RingSizes.{IsRingSize}
use Rattle.psy_meaning.specs.Units.{AllDiffer, IsBare, IsBareVariable, IsName, global_names}
use Rattle.psysnap_trials.specs.Input.{input, plan, tenth}
use Rattle.psysnap_trials.proofs.Planned.{all_none, by_none, ways}

-- ---- declarations

abbrev first_byte : List ℕ → ℕ
first_byte [] = 0
first_byte (byte ∷ bytes) = byte

other_names : (name : List ℕ) → Some (99 ∷ []) ≡ Some name → Some (118 ∷ []) ≡ Some name → ⊥
other_names name clock variable =
    let same : 99 ≡ 118 = ap first_byte (same_Some (99 ∷ []) (118 ∷ []) (clock ∙ sym variable)) in
    omega (arith, same)

differ : AllDiffer (global_names plan.unit)
differ zero zero name first second = refl
differ zero (suc zero) name first second = absurd (other_names name first second)
differ (suc zero) zero name first second = absurd (other_names name second first)
differ (suc zero) (suc zero) name first second = refl
differ zero (suc (suc j)) name first second = absurd (none-some name second)
differ (suc zero) (suc (suc j)) name first second = absurd (none-some name second)
differ (suc (suc i)) j name first second = absurd (none-some name first)

bare : IsBare plan.unit
bare = record {
  quantum = (omega arith, omega arith);
  clocks = All-cons IsClock tenth [] (record { first = omega arith; period = omega arith }) (All-nil IsClock);
  clock_names = All-cons IsName (99 ∷ []) [] ((refl, tt), omega arith) (All-nil IsName);
  clocks_named = refl;
  clock_limit = omega arith;
  variables =
      All-cons (IsBareVariable plan.unit) input [] (record { name = ((refl, tt), omega arith); owner = tt; clock = omega arith; depth = (omega arith, omega arith) })
      (All-nil (IsBareVariable plan.unit));
  variable_limit = omega arith;
  streams = all_none _;
  stream_limit = omega arith;
  functions = all_none _;
  function_limit = omega arith;
  agents = all_none _;
  agent_limit = omega arith;
  names = differ;
}

-- ---- code, which has no agents

listed : AreWaysFor plan.unit ways
listed = record { nexts = by_none _; looks = by_none _; sends = by_none _; count = refl; delays = all_none _ }

fits : FitsBy plan.unit plan.code ways
fits = record {
  bare = bare;
  inits = All-cons (λ v. FitsSigned w32 v.init) input [] (sfits_lit tt) (All-nil (λ v. FitsSigned w32 v.init));
  lists = listed;
  parts = record { agents = refl; each = λ agent less. absurd (omega (arith, less)) };
  runs = λ agent point start carried view less starts may is. absurd (omega (arith, less));
}

-- ---- buffers

-- The ring has the places of the input's depth, as no action looks at it.
ring : (variable size : ℕ) → slice_get (2 ∷ []) variable ≡ Some size → IsRingSize plan.unit (Listed ways) [] variable size
ring zero size at = record {
  most = 0;
  one = inl refl;
  all = λ dates (agent, point, date, due, decl, less, looks, due_in, declared, is). absurd (omega (arith, less));
  decl = input;
  declared = refl;
  sum = sym (same_Some 2 size at);
}
ring (suc variable) size at = absurd (none-some size at)

is_plan : IsPlan plan
is_plan = record {
  ways = ways;
  fits = fits;
  nexts = refl;
  buffers = record {
    rings = record { count = refl; each = ring };
    small_rings = All-cons (λ size. size ≤ RING) 2 [] (omega arith) (All-nil (λ size. size ≤ RING));
    queues = record { count = refl; each = λ stream size at. absurd cc };
    small_queues = all_none _;
    outboxes = record { count = refl; each = λ agent size at. absurd cc };
  };
  supplied = record {
    graphs = [];
    drawn = record { count = refl; each = λ agent edges at. absurd cc };
    feasible = λ processor known length some within. (0, refl, omega arith);
  };
}

-- So is what is made as it is.
pub made_plan : (made : Option Plan) → IfSome made (λ it. it ≡ plan) → IfSome made IsPlan
made_plan None is = tt
made_plan (Some it) is = subst IsPlan (sym is) is_plan
