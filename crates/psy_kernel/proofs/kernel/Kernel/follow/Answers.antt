-- What is left of the proof of `kernel::Kernel::follow`.
use Rattle.std.proofs.Common.{ℕ, ◌<◌, ◌≤◌, ap, sym, subst, ◌∙◌, slice_set, arith}
use Rattle.psy_history.specs.Processors.{processors}
use Rattle.psy_kernel.specs.Engines.{ChangesOn, EngineState, done_on, next_date}
use Rattle.psy_kernel.specs.Kernels.{AreTurned, KernelStands, progress_of}
use Rattle.psy_kernel.specs.Progress.{Progress, stage_of}
use Rattle.psy_kernel.specs.declared.kernel.Kernel.TheInside.{Inside}
use Rattle.psy_kernel.proofs.Sliced.{all_behind, done_in, ends_slice, fills, goes_on, stands_at, within_date}
use Rattle.psy_kernel.proofs.kernel.Kernel.follow.Goals as goal

pub invariant_of-self : goal.invariant_of-self
invariant_of-self c =
    let k : Inside = c.self.inside in
    let is = c.self.invariant in
    let p : Progress = c.args.self.now in
    let leader : ℕ = c.args.leader in
    let end : ℕ = c.done_on-end.result in
    let known : leader < processors k.engine.plan.unit = subst (λ (q : Progress). leader < processors q.plan.unit) (sym c.self.view_is) c.requires.known in
    let did = done_in k is p c.self.view_is c.requires.due leader known in
    let above : k.cycles < end = omega (arith, did, c.go_ahead.ensures.count.0, c.done_on-end.ensures.done) in
    let within : end ≤ next_date k.engine = omega (arith, c.go_ahead.ensures.count.1, c.done_on-end.ensures.done, c.next_date-date.ensures.first) in
    let turned : ℕ = c.turned_by-self-inside.result in
    let mid : EngineState = c.go_ahead.new.self in
    let now : EngineState = c.go_all.new.self in
    let state = all_behind k.engine mid now (slice_set k.engine.done leader (done_on mid leader)) end c.go_ahead.ensures.state c.go_all.ensures.state in
    let rounds = c.rounds.ensures ∙ ap (λ (e : EngineState). e.script.rounds) state in
    subst (λ (e : EngineState). KernelStands (record k { engine = e; cycles = end; turned = turned })) (sym state)
    (stands_at k is p c.self.view_is c.requires.due end above within turned (subst (λ rs. AreTurned rs turned end) rounds c.turned_by-self-inside.ensures.in_force))

pub returns-clause-end : goal.returns-clause-end
returns-clause-end c =
    let k : Inside = c.self.inside in
    let is = c.self.invariant in
    let p : Progress = c.args.self.now in
    let leader : ℕ = c.args.leader in
    let end : ℕ = c.done_on-end.result in
    let known : leader < processors k.engine.plan.unit = subst (λ (q : Progress). leader < processors q.plan.unit) (sym c.self.view_is) c.requires.known in
    let did = done_in k is p c.self.view_is c.requires.due leader known in
    let above : k.cycles < end = omega (arith, did, c.go_ahead.ensures.count.0, c.done_on-end.ensures.done) in
    let within : end ≤ next_date k.engine = omega (arith, c.go_ahead.ensures.count.1, c.done_on-end.ensures.done, c.next_date-date.ensures.first) in
    ends_slice k is p c.self.view_is c.requires.due end above within leader c.requires.alone (c.one_of_them.ensures.one k.engine.plan.unit)
    (λ less. subst (λ n. ChangesOn k.engine leader n) (sym c.done_on-end.ensures.done) (c.go_ahead.ensures.change (omega (arith, less, c.done_on-end.ensures.done, c.next_date-date.ensures.first))))
    (λ between higher below. c.go_ahead.ensures.first between (omega (arith, higher, did)) (omega (arith, below, c.done_on-end.ensures.done)))

pub returns-clause-within : goal.returns-clause-within
returns-clause-within c =
    let k : Inside = c.self.inside in
    let is = c.self.invariant in
    let p : Progress = c.args.self.now in
    let leader : ℕ = c.args.leader in
    let end : ℕ = c.done_on-end.result in
    let known : leader < processors k.engine.plan.unit = subst (λ (q : Progress). leader < processors q.plan.unit) (sym c.self.view_is) c.requires.known in
    let did = done_in k is p c.self.view_is c.requires.due leader known in
    let above : k.cycles < end = omega (arith, did, c.go_ahead.ensures.count.0, c.done_on-end.ensures.done) in
    let within : end ≤ next_date k.engine = omega (arith, c.go_ahead.ensures.count.1, c.done_on-end.ensures.done, c.next_date-date.ensures.first) in
    within_date k is p c.self.view_is c.requires.due end above within

pub returns-clause-filled : goal.returns-clause-filled
returns-clause-filled c = λ t filled_is.
    (let k : Inside = c.self.inside in
    let is = c.self.invariant in
    let p : Progress = c.args.self.now in
    let leader : ℕ = c.args.leader in
    let end : ℕ = c.done_on-end.result in
    let known : leader < processors k.engine.plan.unit = subst (λ (q : Progress). leader < processors q.plan.unit) (sym c.self.view_is) c.requires.known in
    let did = done_in k is p c.self.view_is c.requires.due leader known in
    let above : k.cycles < end = omega (arith, did, c.go_ahead.ensures.count.0, c.done_on-end.ensures.done) in
    let within : end ≤ next_date k.engine = omega (arith, c.go_ahead.ensures.count.1, c.done_on-end.ensures.done, c.next_date-date.ensures.first) in
    let state = all_behind k.engine c.go_ahead.new.self c.go_all.new.self (slice_set k.engine.done leader (done_on c.go_ahead.new.self leader)) end c.go_ahead.ensures.state c.go_all.ensures.state in
    let view = ap (λ (e : EngineState). progress_of (record k { engine = e; cycles = end })) state ∙ ap (λ (q : Progress). record q { cycles = end }) c.self.view_is in
    ap (λ (q : Progress). stage_of q) view ∙ fills k is p c.self.view_is c.requires.due end (subst (λ (q : Progress). q.cycles < end) c.self.view_is above) (within_date k is p c.self.view_is c.requires.due end above within) t filled_is)

pub returns-clause-inside : goal.returns-clause-inside
returns-clause-inside c = λ none.
    (let k : Inside = c.self.inside in
    let is = c.self.invariant in
    let p : Progress = c.args.self.now in
    let leader : ℕ = c.args.leader in
    let end : ℕ = c.done_on-end.result in
    let known : leader < processors k.engine.plan.unit = subst (λ (q : Progress). leader < processors q.plan.unit) (sym c.self.view_is) c.requires.known in
    let did = done_in k is p c.self.view_is c.requires.due leader known in
    let above : k.cycles < end = omega (arith, did, c.go_ahead.ensures.count.0, c.done_on-end.ensures.done) in
    let within : end ≤ next_date k.engine = omega (arith, c.go_ahead.ensures.count.1, c.done_on-end.ensures.done, c.next_date-date.ensures.first) in
    let state = all_behind k.engine c.go_ahead.new.self c.go_all.new.self (slice_set k.engine.done leader (done_on c.go_ahead.new.self leader)) end c.go_ahead.ensures.state c.go_all.ensures.state in
    let view = ap (λ (e : EngineState). progress_of (record k { engine = e; cycles = end })) state ∙ ap (λ (q : Progress). record q { cycles = end }) c.self.view_is in
    ap (λ (q : Progress). stage_of q) view ∙ goes_on k is p c.self.view_is c.requires.due end (subst (λ (q : Progress). q.cycles < end) c.self.view_is above) (within_date k is p c.self.view_is c.requires.due end above within) none)
