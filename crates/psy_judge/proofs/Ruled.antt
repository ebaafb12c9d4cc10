-- Verified code keeps each rule at each place.
use Rattle.std.specs.Prelude.{ℕ}
use Rattle.psy_code.specs.declared.code.Code.{Code}
use Rattle.psy_tree.specs.declared.unit.Unit.{Unit as Whole}
use Rattle.psy_flow.specs.Verified.{Apart, Balanced, Framed, Inside, IsFault, IsVerified, Keeps, Led, Named, Ordered, Rule}

module _ (unit : Whole) (code : Code) where
  pub kept : IsVerified unit code → (place : ℕ) (rule : Rule) → Keeps unit code place rule
  kept v place Inside = v.inside place
  kept v place Apart = v.apart place
  kept v place Balanced = (v.balanced place, v.stack place)
  kept v place Framed = (v.framed place, v.frames place)
  kept v place Named = v.named place
  kept v place Ordered = v.ordered place
  kept v place Led = (v.leads place, v.ends place)

  pub of_rules : ((place : ℕ) (rule : Rule) → Keeps unit code place rule) → IsVerified unit code
  of_rules each = record {
    inside = λ place. each place Inside;
    apart = λ place. each place Apart;
    balanced = λ place. (each place Balanced).0;
    stack = λ place. (each place Balanced).1;
    framed = λ place. (each place Framed).0;
    frames = λ place. (each place Framed).1;
    named = λ place. each place Named;
    ordered = λ place. each place Ordered;
    leads = λ place. (each place Led).0;
    ends = λ place. (each place Led).1;
  }

  pub no_fault : (number place : ℕ) → IsVerified unit code → IsFault unit code number place → ⊥
  no_fault number place v (rule, same, breaks) = breaks (kept v place rule)
