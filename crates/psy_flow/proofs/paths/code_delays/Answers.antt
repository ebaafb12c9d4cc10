-- What is left of the proof of `paths::code_delays`.
use Rattle.std.proofs.Common.{◌≡◌, ◌<◌, ℕ, List, length, get_or, replicate, sym, ap, subst, ◌∙◌, arith}
use Rattle.std.proofs.lemmas.List.Elements.{Contains-get_or}
use Rattle.psy_code.specs.declared.instr.Instr.{Instr}
use Rattle.psy_flow.specs.CodeLists.{HasDelayAmong, IsRaisedTo}
use Rattle.psy_flow.specs.Walks.{AllStayIn, ArePassedFrom}
use Rattle.psy_flow.proofs.RaisedTo.{delays_are, starts_stay}
use Rattle.psy_flow.proofs.paths.code_delays.Goals as goal

pub passed_from-requires : goal.passed_from-requires
passed_from-requires c =
    let unit = c.args.unit.now in
    let code = c.args.code.now in
    let starts = c.in_ok-starts.starts in
    record {
      inside = subst (λ (is : List Instr). AllStayIn is c.as_slice-2.result.now) (sym c.as_slice.ensures)
          (subst (AllStayIn code.instrs) (sym c.as_slice-2.ensures) (starts_stay unit code c.requires.walk starts c.in_ok-starts.ensures));
    }

pub raise_among-requires-clause-inside : goal.raise_among-requires-clause-inside
raise_among-requires-clause-inside c k d less =
    let unit = c.args.unit.now in
    let code = c.args.code.now in
    let starts = c.in_ok-starts.starts in
    let places = c.in_ok-places.places in
    let passed : ArePassedFrom code.instrs starts places =
    subst (λ (is : List Instr). ArePassedFrom is starts places) c.as_slice.ensures (subst (λ (ss : List ℕ). ArePassedFrom c.as_slice.result.now ss places) c.as_slice-2.ensures c.in_ok-places.ensures) in
    let place : ℕ = get_or c.as_slice-4.result.now k d in
    let read : place ≡ get_or places k d = ap (λ (ps : List ℕ). get_or ps k d) c.as_slice-4.ensures in
    let low : k < length places = omega (arith, less, ap length c.as_slice-4.ensures) in
    let inside = starts_stay unit code c.requires.walk starts c.in_ok-starts.ensures (get_or places k d) ((passed.each (get_or places k d)).0 (Contains-get_or places k d low)) in
    omega (arith, inside, read, ap length c.as_slice-3.ensures)

pub returns : goal.returns
returns c =
    let unit = c.args.unit.now in
    let code = c.args.code.now in
    let starts = c.in_ok-starts.starts in
    let places = c.in_ok-places.places in
    let after = c.raise_among.new.delays in
    let passed : ArePassedFrom code.instrs starts places =
    subst (λ (is : List Instr). ArePassedFrom is starts places) c.as_slice.ensures (subst (λ (ss : List ℕ). ArePassedFrom c.as_slice.result.now ss places) c.as_slice-2.ensures c.in_ok-places.ensures) in
    let none : c.in_ok-delays.delays ≡ replicate (length unit.streams) 0 = c.in_ok-delays.ensures ∙ ap (λ n. replicate n 0) c.len.ensures in
    delays_are unit code c.requires.walk c.args.endings.now starts places c.requires.endings c.in_ok-starts.ensures passed after
    (subst (λ before. IsRaisedTo (HasDelayAmong unit code.instrs c.args.endings.now places) before after) none
    (subst (λ (is : List Instr). IsRaisedTo (HasDelayAmong unit is c.args.endings.now places) c.in_ok-delays.delays after) c.as_slice-3.ensures
    (subst (λ (ps : List ℕ). IsRaisedTo (HasDelayAmong unit c.as_slice-3.result.now c.args.endings.now ps) c.in_ok-delays.delays after) c.as_slice-4.ensures c.raise_among.ensures)))
