-- What is left of the proof of `needs::with_place`.
use Rattle.std.proofs.Common.{◌≡◌, ◌<◌, ◌+◌, ◌^◌, ℕ, List, Some, get_or, length, sym, ap, subst, ◌∙◌, inl, inr, arith}
use Rattle.std.specs.Prelude.{max, slice_get}
use Rattle.std.proofs.lemmas.Option.{slice_get-get_or}
use Rattle.psy_code.specs.declared.instr.Instr.{Instr}
use Rattle.psy_flow.specs.Heights.{shifts}
use Rattle.psy_flow.specs.Owners.{Function, IsReached}
use Rattle.psy_judge.specs.declared.heights.Top.{Top}
use Rattle.psy_judge.specs.Deciding.{called}
use Rattle.psy_judge.specs.Gathering.{IsGathered, call_used, held_with}
use Rattle.psy_judge.specs.Highest.{IsSmall, shifts_of, top_at}
use Rattle.psy_judge.proofs.CallsJudged.{need_few, top_is}
use Rattle.psy_judge.proofs.NeedsGathered.{gathered_at}
use Rattle.psy_judge.proofs.RowsTaken.{step_few}
use Rattle.psy_judge.proofs.TopsJoined.{small_more}
use Rattle.psy_judge.proofs.needs.with_place.Goals as goal

pub held_with-held-requires-clause-top : goal.held_with-held-requires-clause-top
held_with-held-requires-clause-top c height e =
    let low = subst (λ (t : Top). IsSmall (length c.args.code.now.instrs) t) (sym c.top_of-top.ensures ∙ e) (c.requires.small c.args.place) in
    omega (arith, low, c.requires.sized.instrs)

pub held_with-held-requires-clause-next : goal.held_with-held-requires-clause-next
held_with-held-requires-clause-next c some e =
    let few = step_few c.args.code.now c.args.place c.index-as_slice-place.result c.steps_at-on.result c.steps_at-on.ensures some (inl e) in
    omega (arith, few)

pub held_with-held-requires-clause-jump : goal.held_with-held-requires-clause-jump
held_with-held-requires-clause-jump c some e =
    let few = step_few c.args.code.now c.args.place c.index-as_slice-place.result c.steps_at-on.result c.steps_at-on.ensures some (inr e) in
    omega (arith, few)

pub held_with-held-requires-clause-needs : goal.held_with-held-requires-clause-needs
held_with-held-requires-clause-needs c =
    need_few c.args.code.now c.args.number c.args.needs.now c.requires.needs (omega (arith, c.requires.number, c.requires.sized.functions))

pub returns : goal.returns
returns c places at e gathered =
    let code = c.args.code.now in
    let number = c.args.number in
    let place = c.args.place in
    let row = c.args.row.now in
    let needs = c.args.needs.now in
    let i = c.index-as_slice-place.result in
    let on = c.steps_at-on.result in
    let spot : ℕ = get_or places at 0 in
    let here : slice_get code.instrs place ≡ Some i = slice_get-get_or code.instrs place i c.requires.place ∙ ap Some (sym (c.index-as_slice-place.is ∙ ap (λ (is : List Instr). get_or is place i) c.as_slice.ensures)) in
    let held : c.held_with-held.result ≡ held_with code needs i on (top_at row spot) c.args.need.held =
    c.held_with-held.ensures ∙ ap (λ (t : Top). held_with code needs i on t c.args.need.held) (c.top_of-top.ensures ∙ ap (λ p. top_at row p) e) in
    let used : c.max-used.result ≡ max c.args.need.used (call_used needs (called i)) =
    c.max-used.ensures ∙ ap (λ n. max c.args.need.used n) (c.call_used.ensures ∙ ap (λ o. call_used needs o) c.called.ensures) in
    let within : spot < length code.instrs = omega (arith, c.requires.place, e) in
    let base = gathered_at code number c.requires.number needs c.requires.needs c.requires.counted places at c.args.need gathered i (subst (λ p. slice_get code.instrs p ≡ Some i) e here)
    (subst (IsReached code (Function number)) e c.requires.reached) on (subst (λ p. shifts_of on ≡ shifts code p i) e c.steps_at-on.ensures) (top_at row spot)
    (top_is code (Function number) row spot c.requires.tops within) (small_more (length code.instrs) (2 ^ 32) (top_at row spot) (omega (arith, c.requires.sized.instrs)) (c.requires.small spot)) in
    subst (λ m. IsGathered code number places (at + 1) (record { held = c.held_with-held.result; used = m })) (sym used)
    (subst (λ h. IsGathered code number places (at + 1) (record { held = h; used = max c.args.need.used (call_used needs (called i)) })) (sym held) base)
