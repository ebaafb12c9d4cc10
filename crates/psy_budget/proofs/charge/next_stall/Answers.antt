-- What is left of the proof of `charge::next_stall`.
use Rattle.std.proofs.Common.{◌≡◌, Some, get_or, slice_get, ap, ◌∙◌, arith}
use Rattle.std.proofs.lemmas.Option.{slice_get_within, get_or_from_slice_get, slice_get-get_or}
use Rattle.psy_budget.specs.declared.charge.Stall.{Stall}
use Rattle.psy_budget.proofs.Splits.{one_more, none_more}
use Rattle.psy_budget.proofs.charge.next_stall.Goals as goal
use Rattle.psy_budget.proofs.charge.next_stall.Goals.{else-place-stalls-via-then-place-stalls+then-stalls-place+else-stalls-place-2, else-place-stalls-via-then-place-stalls+else-stalls-place, else-place-stalls-via-else-place-stalls}

abbrev nothing : Stall
nothing = record { agent = 0; action = 0; instr = 0; cycles = 0 }

pub returns-then-stalls-place-2-clause-split : goal.returns-then-stalls-place-2-clause-split
returns-then-stalls-place-2-clause-split c =
    (one_more c.args.action c.args.instr c.args.stalls.now c.args.place (get_or c.args.stalls.now c.args.place nothing) c.requires.rise c.requires.split
    (slice_get-get_or c.args.stalls.now c.args.place nothing c.if-place-stalls.true) c.if-stalls-place.true c.if-stalls-place-2.true).0

pub returns-then-stalls-place-2-clause-cycles : goal.returns-then-stalls-place-2-clause-cycles
returns-then-stalls-place-2-clause-cycles c =
    (one_more c.args.action c.args.instr c.args.stalls.now c.args.place (get_or c.args.stalls.now c.args.place nothing) c.requires.rise c.requires.split
    (slice_get-get_or c.args.stalls.now c.args.place nothing c.if-place-stalls.true) c.if-stalls-place.true c.if-stalls-place-2.true).1

-- No stall before the instruction stands at the place
none : (c : goal.Joined-else-place-stalls) → (s : Stall) → slice_get c.args.stalls.now c.args.place ≡ Some s → s.action ≡ c.args.action → s.instr ≡ c.args.instr → ⊥
none c s at a i =
    let is : get_or c.args.stalls.now c.args.place nothing ≡ s = get_or_from_slice_get c.args.stalls.now c.args.place s nothing at in
    elim c.else-place-stalls.branch [
      | else-place-stalls-via-then-place-stalls+then-stalls-place+else-stalls-place-2 w ↦ w.if-stalls-place-2.false (ap (λ (t : Stall). t.instr) is ∙ i)
      | else-place-stalls-via-then-place-stalls+else-stalls-place w ↦ w.if-stalls-place.false (ap (λ (t : Stall). t.action) is ∙ a)
      | else-place-stalls-via-else-place-stalls w ↦ omega (arith, w.if-place-stalls.false, slice_get_within c.args.stalls.now c.args.place s at)
    ]

pub returns-clause-split : goal.returns-clause-split
returns-clause-split c = (none_more c.args.action c.args.instr c.args.stalls.now c.args.place c.requires.rise c.requires.split (none c)).0

pub returns-clause-cycles : goal.returns-clause-cycles
returns-clause-cycles c = omega (arith, (none_more c.args.action c.args.instr c.args.stalls.now c.args.place c.requires.rise c.requires.split (none c)).1)
