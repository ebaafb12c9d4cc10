-- What a function needs, from what its places do.
use Rattle.std.proofs.Common.{◌≡◌, ◌⊎◌, ℕ, ◌+◌, ◌-◌, ◌*◌, ◌^◌, ◌<◌, ◌≤◌, Bool, true, false, List, length, get_or, Some, refl, sym, ap, subst, ◌∙◌, inl, inr, arith}
use Rattle.std.specs.Prelude.{Option, None, max, slice_get}
use Rattle.std.specs.List.{Contains}
use Rattle.std.proofs.lemmas.Bool.{cases_lt, false≢true}
use Rattle.std.proofs.lemmas.List.{get_or_default}
use Rattle.std.proofs.lemmas.Option.{same_Some, slice_get_within}
use Rattle.psy_code.specs.declared.code.Code.{Code}
use Rattle.psy_code.specs.declared.instr.Instr.{Instr}
use Rattle.psy_code.specs.declared.instr.Instr.TheVariants as instr
use Rattle.psy_flow.specs.Owners.{Function, IsReached, function_code_at}
use Rattle.psy_flow.specs.Heights.{Finds, IsAmong, IsBalanced, IsHeight, Moves, Shift, at_start, moved, shifts}
use Rattle.psy_flow.specs.Needs.{Calls, IsCounted, MayHold, MayUse, above_left, frame_size, own_frame, own_height, with_callee}
use Rattle.psy_flow.proofs.lemmas.Shifted.{each_among}
use Rattle.psy_judge.specs.declared.heights.Top.{Top}
use Rattle.psy_judge.specs.declared.heights.Top.TheVariants as top
use Rattle.psy_judge.specs.declared.needs.Need.{Need}
use Rattle.psy_judge.specs.declared.steps.Step.{Step}
use Rattle.psy_judge.specs.declared.steps.Steps.{Steps}
use Rattle.psy_judge.specs.Highest.{IsSmall, shift_of, shifts_of}
use Rattle.psy_judge.specs.Judging.{AreNeeds, AreReached, IsNeed, IsTop}
use Rattle.psy_judge.specs.Deciding.{called, need_at}
use Rattle.psy_judge.specs.Gathering.{AreHeld, AreUsed, IsGathered, IsUsed, after_on, call_held, call_used, held_at, held_with, left_held, need_used}
use Rattle.psy_judge.proofs.CallsJudged.{call_is, need_counted, need_known, params_found}
use Rattle.psy_judge.proofs.Pumping.{pushes_few}
use Rattle.psy_judge.proofs.RowsTaken.{among_left, among_right, among_two, reached_at, step_among}

-- Whether there is one height
abbrev is_one : Top → Bool
is_one (top.One a) = true
is_one _ = false

max_left : (a b : ℕ) → a ≤ max a b
max_left a b = grind arith

max_right : (a b : ℕ) → b ≤ max a b
max_right a b = grind arith

-- An instruction that finds what it pops finds it for each way on.
finds_pops : (code : Code) (place : ℕ) (i : Instr) (height : ℕ) (shift : Shift) → Finds code place i height → IsAmong shift (shifts code place i) → shift.pops ≤ height
finds_pops code place instr.Return height shift finds among = absurd among
finds_pops code place (instr.Advance point) height shift finds among = absurd among
finds_pops code place (instr.Jump to) height shift finds among = each_among (λ (s : Shift). s.pops ≤ height) (shifts code place (instr.Jump to)) shift finds among
finds_pops code place (instr.JumpZero to) height shift finds among = each_among (λ (s : Shift). s.pops ≤ height) (shifts code place (instr.JumpZero to)) shift finds among
finds_pops code place (instr.AndTest to) height shift finds among = each_among (λ (s : Shift). s.pops ≤ height) (shifts code place (instr.AndTest to)) shift finds among
finds_pops code place (instr.OrTest to) height shift finds among = each_among (λ (s : Shift). s.pops ≤ height) (shifts code place (instr.OrTest to)) shift finds among
finds_pops code place (instr.Call function) height shift finds among = each_among (λ (s : Shift). s.pops ≤ height) (shifts code place (instr.Call function)) shift finds among
finds_pops code place (instr.Push number) height shift finds among = each_among (λ (s : Shift). s.pops ≤ height) (shifts code place (instr.Push number)) shift finds among
finds_pops code place (instr.Load cell) height shift finds among = each_among (λ (s : Shift). s.pops ≤ height) (shifts code place (instr.Load cell)) shift finds among
finds_pops code place (instr.Store cell) height shift finds among = each_among (λ (s : Shift). s.pops ≤ height) (shifts code place (instr.Store cell)) shift finds among
finds_pops code place (instr.LoadCell base cells) height shift finds among = each_among (λ (s : Shift). s.pops ≤ height) (shifts code place (instr.LoadCell base cells)) shift finds among
finds_pops code place (instr.StoreCell base cells) height shift finds among = each_among (λ (s : Shift). s.pops ≤ height) (shifts code place (instr.StoreCell base cells)) shift finds among
finds_pops code place (instr.LoadCopy variable) height shift finds among = each_among (λ (s : Shift). s.pops ≤ height) (shifts code place (instr.LoadCopy variable)) shift finds among
finds_pops code place (instr.StoreCopy variable) height shift finds among = each_among (λ (s : Shift). s.pops ≤ height) (shifts code place (instr.StoreCopy variable)) shift finds among
finds_pops code place (instr.Past variable back) height shift finds among = each_among (λ (s : Shift). s.pops ≤ height) (shifts code place (instr.Past variable back)) shift finds among
finds_pops code place (instr.Ready stream) height shift finds among = each_among (λ (s : Shift). s.pops ≤ height) (shifts code place (instr.Ready stream)) shift finds among
finds_pops code place (instr.Take stream) height shift finds among = each_among (λ (s : Shift). s.pops ≤ height) (shifts code place (instr.Take stream)) shift finds among
finds_pops code place (instr.Send stream after clock) height shift finds among = each_among (λ (s : Shift). s.pops ≤ height) (shifts code place (instr.Send stream after clock)) shift finds among
finds_pops code place instr.Truth height shift finds among = each_among (λ (s : Shift). s.pops ≤ height) (shifts code place instr.Truth) shift finds among
finds_pops code place (instr.Zero counter) height shift finds among = each_among (λ (s : Shift). s.pops ≤ height) (shifts code place (instr.Zero counter)) shift finds among
finds_pops code place (instr.Guard counter bound) height shift finds among = each_among (λ (s : Shift). s.pops ≤ height) (shifts code place (instr.Guard counter bound)) shift finds among
finds_pops code place (instr.Binary operator width) height shift finds among = each_among (λ (s : Shift). s.pops ≤ height) (shifts code place (instr.Binary operator width)) shift finds among
finds_pops code place (instr.Unary operator width) height shift finds among = each_among (λ (s : Shift). s.pops ≤ height) (shifts code place (instr.Unary operator width)) shift finds among
finds_pops code place (instr.Cast width) height shift finds among = each_among (λ (s : Shift). s.pops ≤ height) (shifts code place (instr.Cast width)) shift finds among

-- What holds of both holds of the greater.
max_of : (P : ℕ → Type 0) (a b : ℕ) → P a → P b → P (max a b)
max_of P a b p q = elim (cases_lt a b) [
  | inl less ↦ (let same : b ≡ max a b = grind (arith, less) in subst P same q)
  | inr not ↦ (let same : a ≡ max a b = grind (arith, not) in subst P same p)
]

module _ (code : Code) (function : ℕ) (there : function < length code.functions) (needs : List (Option Need)) (are : AreNeeds code function needs) (counted : IsCounted code function) where
  abbrev Has : ℕ → ℕ → Type 0
  Has = IsHeight code (Function function)

  none_held : MayHold code function 0
  none_held = own_height function (function_code_at code function).entry 0 (at_start (function_code_at code function).entry (there, refl))

  pub gathered_none : (places : List ℕ) → IsGathered code function places 0 (record { held = 0; used = 0 })
  gathered_none places = record {
    held = none_held;
    used = inl refl;
    all_held = λ k less. absurd (omega (arith, less));
    all_used = λ k less. absurd (omega (arith, less));
    held_few = omega arith;
    used_few = omega arith;
  }

  -- ---- a place

  module _ (place : ℕ) (i : Instr) (at : slice_get code.instrs place ≡ Some i) (reached : IsReached code (Function function) place) where
    called_there : (callee : ℕ) → slice_get code.instrs place ≡ Some (instr.Call callee) → called i ≡ Some callee
    called_there callee call = ap called (same_Some i (instr.Call callee) (sym at ∙ call))

    call_there : (callee : ℕ) → called i ≡ Some callee → slice_get code.instrs place ≡ Some (instr.Call callee)
    call_there callee e = at ∙ ap Some (call_is i callee e)

    -- ---- cells and counters

    pub is_used : (used : ℕ) → (used ≡ 0) ⊎ IsUsed code function used → (max used (call_used needs (called i)) ≡ 0) ⊎ IsUsed code function (max used (call_used needs (called i)))
    is_used used is = max_of (λ n. (n ≡ 0) ⊎ IsUsed code function n) used (call_used needs (called i)) is (by (called i) refl)
      where
        of_need : (callee : ℕ) → called i ≡ Some callee → (o : Option Need) → need_at needs callee ≡ o → (need_used o ≡ 0) ⊎ IsUsed code function (need_used o)
        of_need callee e None none = inl refl
        of_need callee e (Some need) some =
            (let (less, known) = need_known code function needs are callee need some in
            inr (place, callee, reached, call_there callee e, less, known.counted, known.used.0))

        by : (o : Option ℕ) → called i ≡ o → (call_used needs o ≡ 0) ⊎ IsUsed code function (call_used needs o)
        by None e = inl refl
        by (Some callee) e = of_need callee e (need_at needs callee) refl

    pub uses_few : (used : ℕ) → used ≤ function * 2 ^ 34 → max used (call_used needs (called i)) ≤ function * 2 ^ 34
    uses_few used few = max_of (λ n. n ≤ function * 2 ^ 34) used (call_used needs (called i)) few (by (called i))
      where
        of_need : (callee : ℕ) (o : Option Need) → need_at needs callee ≡ o → need_used o ≤ function * 2 ^ 34
        of_need callee None none = omega arith
        of_need callee (Some need) some = (let (less, known) = need_known code function needs are callee need some in omega (arith, known.used_few, less))

        by : (o : Option ℕ) → call_used needs o ≤ function * 2 ^ 34
        by None = omega arith
        by (Some callee) = of_need callee (need_at needs callee) refl

    pub are_used : AreUsed code function place (call_used needs (called i))
    are_used callee more call less of_callee uses = subst (λ o. more ≤ call_used needs o) (sym (called_there callee call)) (of_need (need_at needs callee) refl)
      where
        of_need : (o : Option Need) → need_at needs callee ≡ o → more ≤ need_used o
        of_need None none = absurd (need_counted code function needs are callee less none of_callee)
        of_need (Some need) some = (need_known code function needs are callee need some).1.used.1 more uses

    -- ---- operands

    module _ (on : Steps) (steps : shifts_of on ≡ shifts code place i) (height : ℕ) (is : IsTop (Has place) (top.One height)) (small : height ≤ 2 ^ 32) where
      balanced : IsBalanced code (Function function) place
      balanced = counted.1 place (slice_get_within code.instrs place i at)

      finds : Finds code place i height
      finds = balanced.there height i is.found at

      low_of : (shift : Shift) → IsAmong shift (shifts code place i) → shift.pops ≤ height
      low_of shift among = finds_pops code place i height shift finds among

      along : (step : Step) → IsAmong (record { to = step.to; pops = step.pops; pushes = step.pushes }) (shifts code place i) → MayHold code function (height - step.pops + step.pushes)
      along step among =
          let low = low_of (record { to = step.to; pops = step.pops; pushes = step.pushes }) among in
          own_height function step.to (height - step.pops + step.pushes)
          (moved place step.to height (height - step.pops + step.pushes) i is.found at (record { to = step.to; pops = step.pops; pushes = step.pushes }, among, refl, low, omega (arith, low)))

      after_held : (o : Option Step) → ((step : Step) → o ≡ Some step → IsAmong (record { to = step.to; pops = step.pops; pushes = step.pushes }) (shifts code place i)) → MayHold code function (after_on o height)
      after_held None among = none_held
      after_held (Some step) among = along step (among step refl)

      next_among : (step : Step) → on.next ≡ Some step → IsAmong (record { to = step.to; pops = step.pops; pushes = step.pushes }) (shifts code place i)
      next_among step e = subst (IsAmong (record { to = step.to; pops = step.pops; pushes = step.pushes })) steps (among_left _ (shift_of on.next) (shift_of on.jump) (step_among step on.next e))

      jump_among : (step : Step) → on.jump ≡ Some step → IsAmong (record { to = step.to; pops = step.pops; pushes = step.pushes }) (shifts code place i)
      jump_among step e = subst (IsAmong (record { to = step.to; pops = step.pops; pushes = step.pushes })) steps (among_right _ (shift_of on.next) (shift_of on.jump) (step_among step on.jump e))

      in_call : MayHold code function (call_held code needs (called i) height)
      in_call = by (called i) refl
        where
          of_need : (callee : ℕ) → called i ≡ Some callee → (o : Option Need) → need_at needs callee ≡ o → MayHold code function (left_held o (height - (function_code_at code callee).params))
          of_need callee e None none = none_held
          of_need callee e (Some need) some =
              (let params : ℕ = (function_code_at code callee).params in
              let (less, known) = need_known code function needs are callee need some in
              let low : params ≤ height = params_found code place callee height known.counted.0 (subst (λ (j : Instr). Finds code place j height) (call_is i callee e) finds) in
              let level : height ≡ height - params + params = omega (arith, low) in
              above_left function place callee (height - params) need.held (subst (Has place) level is.found, call_there callee e) less known.counted known.held.0)

          by : (o : Option ℕ) → called i ≡ o → MayHold code function (call_held code needs o height)
          by None e = none_held
          by (Some callee) e = of_need callee e (need_at needs callee) refl

      pub held_there : MayHold code function (held_at code needs i on height)
      held_there =
          max_of (MayHold code function) height (max (max (after_on on.next height) (after_on on.jump height)) (call_held code needs (called i) height)) (own_height function place height is.found)
          (max_of (MayHold code function) (max (after_on on.next height) (after_on on.jump height)) (call_held code needs (called i) height)
          (max_of (MayHold code function) (after_on on.next height) (after_on on.jump height) (after_held on.next next_among) (after_held on.jump jump_among)) in_call)

      abbrev Few : ℕ → Type 0
      Few n = n ≤ (function + 1) * 2 ^ 34

      after_few : (o : Option Step) → ((step : Step) → o ≡ Some step → IsAmong (record { to = step.to; pops = step.pops; pushes = step.pushes }) (shifts code place i)) → Few (after_on o height)
      after_few None among = omega arith
      after_few (Some step) among = (let one = pushes_few code place i (record { to = step.to; pops = step.pops; pushes = step.pushes }) (among step refl) in omega (arith, one, small))

      call_few : Few (call_held code needs (called i) height)
      call_few = by (called i)
        where
          of_need : (callee : ℕ) (o : Option Need) → need_at needs callee ≡ o → Few (left_held o (height - (function_code_at code callee).params))
          of_need callee None none = omega arith
          of_need callee (Some need) some = (let (less, known) = need_known code function needs are callee need some in omega (arith, known.held_few, less, small))

          by : (o : Option ℕ) → Few (call_held code needs o height)
          by None = omega arith
          by (Some callee) = of_need callee (need_at needs callee) refl

      pub held_few : Few (held_at code needs i on height)
      held_few =
          max_of Few height (max (max (after_on on.next height) (after_on on.jump height)) (call_held code needs (called i) height)) (omega (arith, small))
          (max_of Few (max (after_on on.next height) (after_on on.jump height)) (call_held code needs (called i) height)
          (max_of Few (after_on on.next height) (after_on on.jump height) (after_few on.next next_among) (after_few on.jump jump_among)) call_few)

      -- What is at most one of these is at most the greatest.
      own_most : height ≤ held_at code needs i on height
      own_most = max_left height (max (max (after_on on.next height) (after_on on.jump height)) (call_held code needs (called i) height))

      after_most : max (after_on on.next height) (after_on on.jump height) ≤ held_at code needs i on height
      after_most =
          let a = max_left (max (after_on on.next height) (after_on on.jump height)) (call_held code needs (called i) height) in
          let b = max_right height (max (max (after_on on.next height) (after_on on.jump height)) (call_held code needs (called i) height)) in
          omega (arith, a, b)

      call_most : call_held code needs (called i) height ≤ held_at code needs i on height
      call_most =
          let a = max_right (max (after_on on.next height) (after_on on.jump height)) (call_held code needs (called i) height) in
          let b = max_right height (max (max (after_on on.next height) (after_on on.jump height)) (call_held code needs (called i) height)) in
          omega (arith, a, b)

      shift_after : (o : Option Step) (shift : Shift) (after : ℕ) → IsAmong shift (shift_of o) → shift.pops ≤ height → after + shift.pops ≡ height + shift.pushes → after ≤ after_on o height
      shift_after None shift after among low same = absurd among
      shift_after (Some step) shift after (inr h) low same = absurd h
      shift_after (Some step) shift after (inl e) low same = omega (arith, low, same, ap (λ (s : Shift). s.pops) e, ap (λ (s : Shift). s.pushes) e)

      behind_most : (j : Instr) (level next after : ℕ) → Has place level → slice_get code.instrs place ≡ Some j → Moves code place j level next after → after ≤ held_at code needs i on height
      behind_most j level next after also call (shift, among, to, low, same) =
          let here : j ≡ i = same_Some j i (sym call ∙ at) in
          let same_level : level ≡ height = is.covered level also in
          let fits : shift.pops ≤ height = omega (arith, low, same_level) in
          let sum : after + shift.pops ≡ height + shift.pushes = omega (arith, same, same_level) in
          elim (among_two shift (shift_of on.next) (shift_of on.jump) (subst (IsAmong shift) (sym steps) (subst (λ (k : Instr). IsAmong shift (shifts code place k)) here among))) [
            | inl next ↦ (let a = shift_after on.next shift after next fits sum in let b = max_left (after_on on.next height) (after_on on.jump height) in omega (arith, a, b, after_most))
            | inr jump ↦ (let a = shift_after on.jump shift after jump fits sum in let b = max_right (after_on on.next height) (after_on on.jump height) in omega (arith, a, b, after_most))
          ]

      call_under : (callee left more : ℕ) → Calls code (Function function) place callee left → callee < function → IsCounted code callee → MayHold code callee more → left + more ≤ call_held code needs (called i) height
      call_under callee left more (also, call) less of_callee holds =
          subst (λ o. left + more ≤ call_held code needs o height) (sym (called_there callee call)) (of_need (need_at needs callee) refl)
        where
          of_need : (o : Option Need) → need_at needs callee ≡ o → left + more ≤ left_held o (height - (function_code_at code callee).params)
          of_need None none = absurd (need_counted code function needs are callee less none of_callee)
          of_need (Some need) some =
              (let most = (need_known code function needs are callee need some).1.held.1 more holds in
              let level = is.covered (left + (function_code_at code callee).params) also in
              omega (arith, most, level))

      pub are_held : AreHeld code function place (held_at code needs i on height)
      are_held = record {
        own = λ level also. (let same = is.covered level also in omega (arith, same, own_most));
        behind = behind_most;
        call = λ callee left more calls less of_callee holds. (let under = call_under callee left more calls less of_callee holds in omega (arith, under, call_most));
      }

  -- ---- one place more

  held_more : (place a b : ℕ) → a ≤ b → AreHeld code function place a → AreHeld code function place b
  held_more place a b low held = record {
    own = λ height reached. (let most = held.own height reached in omega (arith, most, low));
    behind = λ i height next after reached at moves. (let most = held.behind i height next after reached at moves in omega (arith, most, low));
    call = λ callee left more calls less of_callee holds. (let most = held.call callee left more calls less of_callee holds in omega (arith, most, low));
  }

  used_more : (place a b : ℕ) → a ≤ b → AreUsed code function place a → AreUsed code function place b
  used_more place a b low used = λ callee more call less of_callee uses. (let most = used callee more call less of_callee uses in omega (arith, most, low))

  no_height : (place most : ℕ) → ((height : ℕ) → Has place height → ⊥) → AreHeld code function place most
  no_height place most none = record {
    own = λ height reached. absurd (none height reached);
    behind = λ i height next after reached at moves. absurd (none height reached);
    call = λ callee left more calls less of_callee holds. absurd (none _ calls.0);
  }

  module _ (places : List ℕ) (at : ℕ) (need : Need) (gathered : IsGathered code function places at need) (i : Instr) (here : slice_get code.instrs (get_or places at 0) ≡ Some i) (reached : IsReached code (Function function) (get_or places at 0)) where
    abbrev spot : ℕ
    spot = get_or places at 0

    abbrev use_there : ℕ
    use_there = max need.used (call_used needs (called i))

    more_with : (held : ℕ) → need.held ≤ held → MayHold code function held → held ≤ (function + 1) * 2 ^ 34 → AreHeld code function spot held → IsGathered code function places (at + 1) (record { held = held; used = use_there })
    more_with held low holds few all = record {
      held = holds;
      used = is_used spot i here reached need.used gathered.used;
      all_held = λ k less within. elim (cases_lt k at) [
        | inl under ↦ held_more (get_or places k 0) need.held held low (gathered.all_held k under within)
        | inr not ↦ (let same : at ≡ k = omega (arith, not, less) in subst (λ j. AreHeld code function (get_or places j 0) held) same all)
      ];
      all_used = λ k less within. elim (cases_lt k at) [
        | inl under ↦ used_more (get_or places k 0) need.used use_there (max_left need.used (call_used needs (called i))) (gathered.all_used k under within)
        | inr not ↦ (let same : at ≡ k = omega (arith, not, less) in
            subst (λ j. AreUsed code function (get_or places j 0) use_there) same
            (used_more spot (call_used needs (called i)) use_there (max_right need.used (call_used needs (called i))) (are_used spot i here reached)))
      ];
      held_few = few;
      used_few = uses_few spot i here reached need.used gathered.used_few;
    }

    pub gathered_one : (on : Steps) → shifts_of on ≡ shifts code spot i → (height : ℕ) → IsTop (Has spot) (top.One height) → height ≤ 2 ^ 32
        → IsGathered code function places (at + 1) (record { held = max need.held (held_at code needs i on height); used = use_there })
    gathered_one on steps height is small =
        let there_held : ℕ = held_at code needs i on height in
        more_with (max need.held there_held) (max_left need.held there_held)
        (max_of (MayHold code function) need.held there_held gathered.held (held_there spot i here reached on steps height is small))
        (max_of (λ n. n ≤ (function + 1) * 2 ^ 34) need.held there_held gathered.held_few (held_few spot i here reached on steps height is small))
        (held_more spot there_held (max need.held there_held) (max_right need.held there_held) (are_held spot i here reached on steps height is small))

    pub gathered_other : (t : Top) → IsTop (Has spot) t → ((height : ℕ) → t ≡ top.One height → ⊥) → IsGathered code function places (at + 1) (record { held = need.held; used = use_there })
    gathered_other t is other = more_with need.held (omega arith) gathered.held gathered.held_few (no_height spot need.held (by t is other))
      where
        balanced : IsBalanced code (Function function) spot
        balanced = counted.1 spot (slice_get_within code.instrs spot i here)

        by : (u : Top) → IsTop (Has spot) u → ((height : ℕ) → u ≡ top.One height → ⊥) → (height : ℕ) → Has spot height → ⊥
        by top.Nothing has not height also = has.covered height also
        by (top.One a) has not height also = not a refl
        by (top.Two a b) has not height also = (let same = balanced.same a b has.found.0 has.found.1 in let less = has.found.2 in omega (arith, same, less))
        by top.Endless has not height also = (
            let (n, one, more) = has.found 0 in
            let (m, two, further) = has.found n in
            let same = balanced.same n m one two in
            omega (arith, same, further))

    pub gathered_at : (on : Steps) → shifts_of on ≡ shifts code spot i → (t : Top) → IsTop (Has spot) t → IsSmall (2 ^ 32) t
        → IsGathered code function places (at + 1) (record { held = held_with code needs i on t need.held; used = use_there })
    gathered_at on steps top.Nothing is small = gathered_other top.Nothing is (λ height e. false≢true (ap is_one e))
    gathered_at on steps (top.One height) is small = gathered_one on steps height is small
    gathered_at on steps (top.Two a b) is small = gathered_other (top.Two a b) is (λ height e. false≢true (ap is_one e))
    gathered_at on steps top.Endless is small = gathered_other top.Endless is (λ height e. false≢true (ap is_one e))

  -- ---- all places

  pub need_is : (places : List ℕ) (need : Need) (frame : ℕ) → AreReached code (Function function) places → IsGathered code function places (length places) need → frame ≡ frame_size code function → frame < 2 ^ 34
      → IsNeed code function (record { held = need.held; used = frame + need.used })
  need_is places need frame reached gathered same few = record {
    counted = counted;
    held = (gathered.held, most_held);
    used = (used gathered.used, most_used);
    held_few = gathered.held_few;
    used_few = (let low = gathered.used_few in omega (arith, low, few));
  }
    where
      at_place : (place : ℕ) (i : Instr) → slice_get code.instrs place ≡ Some i → IsReached code (Function function) place → Contains places place
      at_place place i at here = (reached place).1 (slice_get_within code.instrs place i at, here)

      held_at_place : (place : ℕ) → Contains places place → AreHeld code function place need.held
      held_at_place place (k, less, e) = subst (λ p. AreHeld code function p need.held) (get_or_default places k 0 place less ∙ e) (gathered.all_held k less less)

      used_at_place : (place : ℕ) → Contains places place → AreUsed code function place need.used
      used_at_place place (k, less, e) = subst (λ p. AreUsed code function p need.used) (get_or_default places k 0 place less ∙ e) (gathered.all_used k less less)

      own_most : (place height : ℕ) → Has place height → height ≤ need.held
      own_most _ _ (at_start place begins) = omega arith
      own_most _ _ (moved place next height after i here at moves) =
          (held_at_place place (at_place place i at (reached_at code (Function function) place height here))).behind i height next after here at moves

      most_held : (n : ℕ) → MayHold code function n → n ≤ need.held
      most_held _ (own_height f place height here) = own_most place height here
      most_held _ (above_left f place callee left more calls less of_callee holds) =
          (held_at_place place (at_place place (instr.Call callee) calls.1 (reached_at code (Function function) place _ calls.0))).call callee left more calls less of_callee holds

      most_used : (n : ℕ) → MayUse code function n → n ≤ frame + need.used
      most_used _ (own_frame f) = omega (arith, same)
      most_used _ (with_callee f place callee more here at less of_callee uses) =
          (let low = used_at_place place (at_place place (instr.Call callee) at here) callee more at less of_callee uses in omega (arith, low, same))

      used : (need.used ≡ 0) ⊎ IsUsed code function need.used → MayUse code function (frame + need.used)
      used (inl none) = (let e : frame_size code function ≡ frame + need.used = omega (arith, same, none) in subst (MayUse code function) e (own_frame function))
      used (inr (place, callee, here, at, less, of_callee, uses)) =
          subst (λ f. MayUse code function (f + need.used)) (sym same) (with_callee function place callee need.used here at less of_callee uses)
