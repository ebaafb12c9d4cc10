-- Ways that come back to a place higher than they left it.
use Rattle.std.proofs.Common.{◌≡◌, ℕ, zero, suc, ◌+◌, ◌-◌, ◌<◌, ◌≤◌, Bool, true, false, ◌&&◌, if◌then◌else◌, List, length, Some, refl, sym, subst, inl, arith}
use Rattle.std.specs.Prelude.{Option, None, nat_eq, nat_le, slice_get, slice_set}
use Rattle.std.proofs.lemmas.Option.{same_Some}
use Rattle.psy_code.specs.declared.code.Code.{Code}
use Rattle.psy_code.specs.declared.instr.Instr.{Instr}
use Rattle.psy_meaning.specs.CodeWays.{IsUnbounded}
use Rattle.psy_flow.specs.Heights.{IsAmong, IsHeight, Shift, moved, shifts}
use Rattle.psy_flow.specs.Owners.{Owner}
use Rattle.psy_judge.specs.declared.circles.Stand.{Stand}
use Rattle.psy_judge.specs.declared.heights.Top.{Top}
use Rattle.psy_judge.specs.declared.heights.Top.TheVariants as top
use Rattle.psy_judge.specs.declared.steps.Step.{Step}
use Rattle.psy_judge.specs.declared.steps.Steps.{Steps}
use Rattle.psy_judge.specs.Climbing.{ComesHigher, IsLifted, Leads, LeadsTo, first_some, greatest_of, here, on, stand_along}
use Rattle.psy_judge.specs.Highest.{AreFound, AreSmall, Covers, IsFound, IsSmall, room_in, room_of, shift_of, shifts_of, top_at}
use Rattle.psy_judge.proofs.JudgedBools.{holds, judge_and, judge_eq, judge_le}
use Rattle.psy_judge.proofs.RowsTaken.{among_left, among_right, room_set, set_each}

module _ (code : Code) where
  -- The same way from a height above
  above : (from low place height k : ℕ) → Leads code from low place height → Leads code from (low + k) place (height + k)
  above from low _ _ k here = here
  above from low _ _ k (on place next height after i way at (shift, among, to, pops, same)) =
      on place next (height + k) (after + k) i (above from low place height k way) at (shift, among, to, omega (arith, pops), omega (arith, same))

  reached : (owner : Owner) (from low place height : ℕ) → IsHeight code owner from low → Leads code from low place height → IsHeight code owner place height
  reached owner from low _ _ has here = has
  reached owner from low _ _ has (on place next height after i way at moves) = moved place next height after i (reached owner from low place height has way) at moves

  again : (owner : Owner) (place a b n : ℕ) → a < b → a ≤ n → IsHeight code owner place n → Leads code place a place b → IsHeight code owner place (n + (b - a))
  again owner place a b n more low has way =
      reached owner place n place (n + (b - a)) has
      (subst (λ h. Leads code place n place h) (omega (arith, more, low))
      (subst (λ h. Leads code place h place (b + (n - a))) (omega (arith, low)) (above place a place b (n - a) way)))

  climbs : (owner : Owner) (place a b : ℕ) → a < b → IsHeight code owner place a → Leads code place a place b → (m : ℕ) → (n : ℕ) × IsHeight code owner place n × (m < n) × (a ≤ n)
  climbs owner place a b more has way zero = (b, reached owner place a place b has way, omega (arith, more), omega (arith, more))
  climbs owner place a b more has way (suc m) =
      let (n, also, up, low) = climbs owner place a b more has way m in
      (n + (b - a), again owner place a b n more low also way, omega (arith, up, more), omega (arith, low))

  pub unbounded : (owner : Owner) (place a b : ℕ) → a < b → IsHeight code owner place a → Leads code place a place b → IsUnbounded (IsHeight code owner place)
  unbounded owner place a b more has way m = (let (n, also, up, low) = climbs owner place a b more has way m in (n, also, up))

  -- ---- one step

  along_leads : (from low place height to : ℕ) (i : Instr) (o : Option Step) → slice_get code.instrs place ≡ Some i
      → ((s : Shift) → IsAmong s (shift_of o) → IsAmong s (shifts code place i)) → Leads code from low place height → LeadsTo code from low (stand_along o to height)
  along_leads from low place height to i None at all way = tt
  along_leads from low place height to i (Some step) at all way = by (nat_eq step.to to && nat_le step.pops height) refl
    where
      by : (c : Bool) → (nat_eq step.to to && nat_le step.pops height) ≡ c
          → LeadsTo code from low (if c then Some (record { place = step.to; height = height - step.pops + step.pushes }) else None)
      by true e =
          let both : (step.to ≡ to) × (step.pops ≤ height) =
          holds (nat_eq step.to to && nat_le step.pops height)
          (judge_and (step.to ≡ to) (step.pops ≤ height) (nat_eq step.to to) (nat_le step.pops height) (judge_eq step.to to) (judge_le step.pops height)) e in
          on place step.to height (height - step.pops + step.pushes) i way at
          (record { to = step.to; pops = step.pops; pushes = step.pushes }, all (record { to = step.to; pops = step.pops; pushes = step.pushes }) (inl refl), refl, both.1, omega (arith, both.1))
      by false e = tt

  first_leads : (from low : ℕ) (this that : Option Stand) → LeadsTo code from low this → LeadsTo code from low that → LeadsTo code from low (first_some this that)
  first_leads from low None that one other = other
  first_leads from low (Some this) that one other = one

  -- Behind a step of the way on that the program found
  pub step_leads : (from low place height to : ℕ) (i : Instr) (steps : Steps) → slice_get code.instrs place ≡ Some i → shifts_of steps ≡ shifts code place i → Leads code from low place height
      → LeadsTo code from low (first_some (stand_along steps.jump to height) (stand_along steps.next to height))
  step_leads from low place height to i steps at same way =
      first_leads from low (stand_along steps.jump to height) (stand_along steps.next to height)
      (along_leads from low place height to i steps.jump at (λ s among. subst (IsAmong s) same (among_right s (shift_of steps.next) (shift_of steps.jump) among)) way)
      (along_leads from low place height to i steps.next at (λ s among. subst (IsAmong s) same (among_left s (shift_of steps.next) (shift_of steps.jump) among)) way)

  -- ---- lifted

  abbrev the_none : Option ℕ
  the_none = None

  none_some : {a : ℕ} → (the_none ≡ Some a) → ⊥
  none_some e = cc e

  greatest_found : (Has : ℕ → Type 0) (t : Top) (a : ℕ) → greatest_of t ≡ Some a → IsFound Has t → Has a
  greatest_found Has top.Nothing a e found = absurd (none_some e)
  greatest_found Has (top.One b) a e found = subst Has (same_Some b a e) found
  greatest_found Has (top.Two b c) a e found = subst Has (same_Some b a e) found.0
  greatest_found Has top.Endless a e found = absurd (none_some e)

  room_there : (m : ℕ) (t : Top) (a : ℕ) → greatest_of t ≡ Some a → IsSmall m t → 0 < room_in m t
  room_there m top.Nothing a e small = omega arith
  room_there m (top.One b) a e small = omega (arith, small)
  room_there m (top.Two b c) a e small = omega (arith, small.0, small.1)
  room_there m top.Endless a e small = absurd (none_some e)

  -- A place to which a way comes back higher has no greatest height.
  pub lifted_at : (owner : Owner) (row : List Top) (place : ℕ) (o : Option ℕ) → place < length row → AreSmall (length code.instrs) row → AreFound code owner row
      → o ≡ greatest_of (top_at row place) → ComesHigher code place o → IsLifted code owner row (slice_set row place top.Endless)
  lifted_at owner row place None less small found is back = absurd back
  lifted_at owner row place (Some a) less small found is (b, more, way) = record {
    found =
        set_each (λ p u. IsFound (IsHeight code owner p) u) row place top.Endless less found
        (unbounded owner place a b more (greatest_found (IsHeight code owner place) (top_at row place) a (sym is) (found place)) way);
    kept = λ p h. set_each (λ q u. Covers (top_at row q) h → Covers u h) row place top.Endless less (λ q c. c) (λ c. tt {0}) p;
    room =
        (let lower : room_of (length code.instrs) (slice_set row place top.Endless) < room_of (length code.instrs) row =
        room_set (length code.instrs) row place top.Endless less (room_there (length code.instrs) (top_at row place) a (sym is) (small place)) in
        omega (arith, lower));
  }
