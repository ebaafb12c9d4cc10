-- The least fault of all owners in the code is that of the code.
use Rattle.std.proofs.Common.{◌≡◌, ℕ, ◌<◌, ◌≤◌, length, Some, refl, ap, subst, inl, inr, arith}
use Rattle.std.specs.Prelude.{Option, None, slice_get}
use Rattle.std.proofs.lemmas.Bool.{cases_lt}
use Rattle.std.proofs.lemmas.List.{get_or_past}
use Rattle.std.proofs.lemmas.Option.{none-some, slice_get_within}
use Rattle.psy_code.specs.declared.code.AgentCode.{AgentCode}
use Rattle.psy_code.specs.declared.code.Code.{Code}
use Rattle.psy_tree.specs.declared.unit.Unit.{Unit as Whole}
use Rattle.psy_meaning.specs.CodeWays.{IsPassed, first, later}
use Rattle.psy_flow.specs.Owners.{Agent, Begins, Function, IsInside, IsReached, Owner}
use Rattle.psy_flow.specs.Heights.{IsHeight}
use Rattle.psy_flow.specs.Verified.{Apart, Balanced, ComesBefore, Framed, Inside, IsLeastFault, IsVerified, Keeps, Led, Named, Ordered, Rule, number_of}
use Rattle.psy_judge.specs.declared.fault.Fault.{Fault}
use Rattle.psy_judge.specs.Judged.{IsLeast}
use Rattle.psy_judge.specs.Judging.{FitsFramesOf, FitsStackOf, IsDone, KeptBy, RuleFor}
use Rattle.psy_judge.proofs.LeastFaults.{least_same}
use Rattle.psy_judge.proofs.RowsTaken.{reached_at}
use Rattle.psy_judge.proofs.Ruled.{of_rules}

-- What a rule says of the places in the code; of those outside only rule 1 speaks.
abbrev pub InCode : Whole → Code → ℕ → Rule → Type 0
InCode unit code place Inside = IsInside code place
InCode unit code place Apart = place < length code.instrs → Keeps unit code place Apart
InCode unit code place Balanced = place < length code.instrs → Keeps unit code place Balanced
InCode unit code place Framed = place < length code.instrs → Keeps unit code place Framed
InCode unit code place Named = place < length code.instrs → Keeps unit code place Named
InCode unit code place Ordered = place < length code.instrs → Keeps unit code place Ordered
InCode unit code place Led = place < length code.instrs → Keeps unit code place Led

module _ (unit : Whole) (code : Code) where
  abbrev All : Owner → Type 0
  All = IsDone (length code.functions) (length code.agents)

  -- An owner that begins anywhere is one of those that are judged.
  begins_done : (owner : Owner) (place : ℕ) → Begins code owner place → All owner
  begins_done (Function number) place (less, same) = less
  begins_done (Agent number) place (point, there) = elim (cases_lt number (length code.agents)) [
    | inl less ↦ less
    | inr past ↦ absurd (none-some place (subst (λ (a : AgentCode). slice_get a.points point ≡ Some place) (get_or_past code.agents number _ past) there))
  ]

  done : (owner : Owner) (place : ℕ) → IsReached code owner place → All owner
  done owner place (start, begins, passed) = begins_done owner start begins

  high_done : (owner : Owner) (place height : ℕ) → IsHeight code owner place height → All owner
  high_done owner place height reached = done owner place (reached_at code owner place height reached)

  in_code : (place : ℕ) (rule : Rule) → KeptBy unit code All place rule → InCode unit code place rule
  in_code place Inside kept = record {
    start = λ owner begins. (kept.0 owner (begins_done owner place begins)).start begins;
    next = λ owner i next reached at goes. (kept.0 owner (done owner place reached)).next i next reached at goes;
  }
  in_code place Apart kept = λ within owner other reached also. kept.1 refl within owner other (done owner place reached) (done other place also) reached also
  in_code place Balanced kept = λ within. (
    (λ owner. record {
      same = λ height other reached also. (kept.0 owner (high_done owner place height reached) within).0.same height other reached also;
      there = λ height i reached at. (kept.0 owner (high_done owner place height reached) within).0.there height i reached at;
    }),
    (λ agent. record {
      own = λ height reached. (kept.0 (Agent agent) (high_done (Agent agent) place height reached) within).1.own height reached;
      call = λ function left more calls. (kept.0 (Agent agent) (high_done (Agent agent) place _ calls.0) within).1.call function left more calls;
    }),
  )
  in_code place Framed kept = λ within. (
    (λ owner i reached at. (kept.0 owner (done owner place reached) within).0 i reached at),
    (λ agent function more reached at. (kept.0 (Agent agent) (done (Agent agent) place reached) within).1 function more reached at),
  )
  in_code place Named kept = λ within owner i reached at. kept.0 owner (done owner place reached) within i reached at
  in_code place Ordered kept = λ within owner i reached at. kept.0 owner (done owner place reached) within i reached at
  in_code place Led kept = λ within. (
    (λ owner i reached at. (kept.0 owner (done owner place reached) within).0 i reached at),
    (λ agent reached. (kept.0 (Agent agent) (done (Agent agent) place reached) within).1 reached),
  )

  other_rule : (place : ℕ) (rule : Rule) → (number_of rule ≡ 2 → ⊥) → rule ≡ Apart → ⊥
  other_rule place rule not e = not (ap number_of e)

  stack_each : (place : ℕ) → place < length code.instrs → Keeps unit code place Balanced → (owner : Owner) → FitsStackOf code owner place
  stack_each place within keeps (Agent agent) = keeps.1 agent
  stack_each place within keeps (Function number) = tt {0}

  frames_each : (place : ℕ) → Keeps unit code place Framed → (owner : Owner) → FitsFramesOf code owner place
  frames_each place keeps (Agent agent) = keeps.1 agent
  frames_each place keeps (Function number) = tt {0}

  led_each : (place : ℕ) → place < length code.instrs → Keeps unit code place Led → (owner : Owner) → RuleFor unit code owner place Led
  led_each place within keeps (Agent agent) = λ low. ((λ i reached at. keeps.0 (Agent agent) i reached at), (λ reached. keeps.1 agent reached))
  led_each place within keeps (Function number) = λ low. ((λ i reached at. keeps.0 (Function number) i reached at), (λ reached. tt {0}))

  kept_of : (place : ℕ) (rule : Rule) → InCode unit code place rule → KeptBy unit code All place rule
  kept_of place Inside is = (
    (λ owner all. record { start = λ begins. is.start owner begins; next = λ i next reached at goes. is.next owner i next reached at goes }),
    (λ e. absurd (other_rule place Inside (λ s. omega (arith, s)) e)),
  )
  kept_of place Apart is = ((λ owner all. tt {0}), (λ e within a b done_a done_b reached_a reached_b. is within a b reached_a reached_b))
  kept_of place Balanced is = ((λ owner all within. ((is within).0 owner, stack_each place within (is within) owner)), (λ e. absurd (other_rule place Balanced (λ s. omega (arith, s)) e)))
  kept_of place Framed is =
      ((λ owner all within. ((λ i reached at. (is within).0 owner i reached at), frames_each place (is within) owner)), (λ e. absurd (other_rule place Framed (λ s. omega (arith, s)) e)))
  kept_of place Named is = ((λ owner all within i reached at. is within owner i reached at), (λ e. absurd (other_rule place Named (λ s. omega (arith, s)) e)))
  kept_of place Ordered is = ((λ owner all within i reached at. is within owner i reached at), (λ e. absurd (other_rule place Ordered (λ s. omega (arith, s)) e)))
  kept_of place Led is = ((λ owner all within. led_each place within (is within) owner within), (λ e. absurd (other_rule place Led (λ s. omega (arith, s)) e)))

  -- ---- places outside

  -- Where all places up to there are inside, no owner reaches one outside.
  unreached : (place : ℕ) → length code.instrs ≤ place → ((q : ℕ) → q ≤ place → IsInside code q) → (owner : Owner) → IsReached code owner place → ⊥
  unreached place past inside owner (start, begins, passed) = by place passed refl
    where
      by : (p : ℕ) → IsPassed code.instrs start p → p ≡ place → ⊥
      by _ first same = (let low = (inside start (omega (arith, same))).start owner begins in omega (arith, low, same, past))
      by _ (later before next i way at goes) same =
          (let there = slice_get_within code.instrs before i at in
          let low = (inside before (omega (arith, there, past))).next owner i next (start, begins, way) at goes in
          omega (arith, low, same, past))

  keeps_none : (place : ℕ) (rule : Rule) → IsInside code place → ((owner : Owner) → IsReached code owner place → ⊥) → Keeps unit code place rule
  keeps_none place Inside inside none = inside
  keeps_none place Apart inside none = λ owner other reached also. absurd (none owner reached)
  keeps_none place Balanced inside none = (
    (λ owner. record {
      same = λ height other reached also. absurd (none owner (reached_at code owner place height reached));
      there = λ height i reached at. absurd (none owner (reached_at code owner place height reached));
    }),
    (λ agent. record {
      own = λ height reached. absurd (none (Agent agent) (reached_at code (Agent agent) place height reached));
      call = λ function left more calls. absurd (none (Agent agent) (reached_at code (Agent agent) place _ calls.0));
    }),
  )
  keeps_none place Framed inside none = ((λ owner i reached at. absurd (none owner reached)), (λ agent function more reached at. absurd (none (Agent agent) reached)))
  keeps_none place Named inside none = λ owner i reached at. absurd (none owner reached)
  keeps_none place Ordered inside none = λ owner i reached at. absurd (none owner reached)
  keeps_none place Led inside none = ((λ owner i reached at. absurd (none owner reached)), (λ agent reached. absurd (none (Agent agent) reached)))

  within_keeps : (place : ℕ) (rule : Rule) → place < length code.instrs → InCode unit code place rule → Keeps unit code place rule
  within_keeps place Inside within is = is
  within_keeps place Apart within is = is within
  within_keeps place Balanced within is = is within
  within_keeps place Framed within is = is within
  within_keeps place Named within is = is within
  within_keeps place Ordered within is = is within
  within_keeps place Led within is = is within

  keeps_in : (place : ℕ) (rule : Rule) → Keeps unit code place rule → InCode unit code place rule
  keeps_in place Inside keeps = keeps
  keeps_in place Apart keeps = λ within. keeps
  keeps_in place Balanced keeps = λ within. keeps
  keeps_in place Framed keeps = λ within. keeps
  keeps_in place Named keeps = λ within. keeps
  keeps_in place Ordered keeps = λ within. keeps
  keeps_in place Led keeps = λ within. keeps

  any_keeps : (place : ℕ) (rule : Rule) → InCode unit code place rule → ((q : ℕ) → q ≤ place → IsInside code q) → Keeps unit code place rule
  any_keeps place rule is inside = elim (cases_lt place (length code.instrs)) [
    | inl within ↦ within_keeps place rule within is
    | inr past ↦ keeps_none place rule (inside place (omega arith)) (unreached place past inside)
  ]

  positive : (rule : Rule) → 1 ≤ number_of rule
  positive Inside = omega arith
  positive Apart = omega arith
  positive Balanced = omega arith
  positive Framed = omega arith
  positive Named = omega arith
  positive Ordered = omega arith
  positive Led = omega arith

  -- Rule 1 comes first at each place.
  first_before : (place q : ℕ) (rule : Rule) (fault : Fault) → ComesBefore place (number_of rule) fault.place fault.number → q ≤ place → ComesBefore q 1 fault.place fault.number
  first_before place q rule fault (inl under) low = inl (omega (arith, under, low))
  first_before place q rule fault (inr (same, under)) low = elim (cases_lt q place) [
    | inl less ↦ inl (omega (arith, less, same))
    | inr not ↦ inr (omega (arith, not, low, same), omega (arith, positive rule, under))
  ]

  least_keeps : (fault : Option Fault) → IsLeast (InCode unit code) fault → IsLeast (Keeps unit code) fault
  least_keeps None all = λ place rule. any_keeps place rule (all place rule) (λ q low. all q Inside)
  least_keeps (Some fault) is = record {
    present = (let (rule, number, breaks) = is.present in (rule, number, λ (keeps : Keeps unit code fault.place rule). breaks (keeps_in fault.place rule keeps)));
    least = λ place rule before. any_keeps place rule (is.least place rule before) (λ q low. is.least q Inside (first_before place q rule fault before low));
  }

  pub whole_least : (fault : Option Fault) → IsLeast (KeptBy unit code All) fault → IsLeast (Keeps unit code) fault
  whole_least fault is = least_keeps fault (least_same (KeptBy unit code All) (InCode unit code) fault in_code kept_of is)

  pub none_verified : IsLeast (Keeps unit code) None → IsVerified unit code
  none_verified all = of_rules unit code all

  pub least_fault_is : (fault : Fault) → IsLeast (Keeps unit code) (Some fault) → IsLeastFault unit code fault.number fault.place
  least_fault_is fault is = record { present = is.present; least = is.least }
