-- What is left of the proof of `ready::Ready::add`.
use Rattle.std.proofs.Common.{◌≡◌, ℕ, ◌+◌, ◌<◌, ◌≤◌, Bool, true, if◌then◌else◌, List, length, set, Option, Some, None, sym, ap, ◌∙◌, subst, is_ok, vec_len, arith}
use Rattle.std.specs.List.{insert}
use Rattle.std.specs.List.Sorted.{IsPartitionPoint}
use Rattle.psy_ready.specs.declared.ready.Pending.{Pending}
use Rattle.psy_ready.specs.Choice.{pending_deadline}
use Rattle.psy_ready.specs.Standing.{AreSorted}
use Rattle.psy_ready.proofs.Sorts.{one_added, fewer_rest}
use Rattle.psy_ready.proofs.ready.Ready.add.Goals as goal
use Rattle.psy_ready.proofs.ready.Ready.add.Goals.{After-insert}

viewed : (c : After-insert) → c.args.self.now ≡ c.self.inside.deadlines.items
viewed c = cc

inside : (c : After-insert) → c.args.agent < length c.self.inside.deadlines.items
inside c = subst (λ (ds : List (Option ℕ)). c.args.agent < length ds) (viewed c) c.requires.within

free : (c : After-insert) → pending_deadline c.self.inside.deadlines.items c.args.agent ≡ None
free c = subst (λ (ds : List (Option ℕ)). pending_deadline ds c.args.agent ≡ None) (viewed c) c.requires.free

went : (c : After-insert) → is_ok c.insert.result ≡ true
went c = c.insert.ensures.succeeds (omega (arith, c.self.invariant.room, fewer_rest c.self.inside.deadlines.items c.args.agent c.args.deadline (inside c) (free c), c.self.inside.sorted.ok.0))

pub invariant_of-self : goal.invariant_of-self
invariant_of-self c =
    let deadlines : List (Option ℕ) = c.self.inside.deadlines.items in
    let sorted : List Pending = c.self.inside.sorted.items in
    let k : ℕ = c.no_later-place.result in
    let new : Pending = record { agent = c.args.agent; deadline = c.args.deadline } in
    let same : c.as_slice.result.now ≡ sorted = c.as_slice.ensures.value in
    let point : IsPartitionPoint (λ (p : Pending). p.deadline ≤ c.args.deadline) (λ (p : Pending). c.args.deadline < p.deadline) sorted k =
    subst (λ xs. IsPartitionPoint (λ (p : Pending). p.deadline ≤ c.args.deadline) (λ (p : Pending). c.args.deadline < p.deadline) xs k) same c.no_later-place.ensures.point in
    let within : k ≤ length sorted = subst (λ (xs : List Pending). k ≤ length xs) same c.no_later-place.ensures.within in
    let items : c.insert.new.self.items ≡ insert sorted k new = c.insert.ensures.items ∙ ap (λ (b : Bool). if b then insert sorted k new else sorted) (went c) in
    let len : vec_len c.insert.new.self ≡ vec_len c.self.inside.sorted + 1 = c.insert.ensures.len ∙ ap (λ (b : Bool). if b then vec_len c.self.inside.sorted + 1 else vec_len c.self.inside.sorted) (went c) in
    record {
      sorted = subst (AreSorted (set deadlines c.args.agent (Some c.args.deadline))) (sym items) (one_added deadlines sorted c.self.invariant.sorted c.args.agent (inside c) c.args.deadline k (free c) within point);
      room = omega (arith, len, c.self.inside.sorted.ok.0, c.insert.new.self.ok.0, c.insert.ensures.capacity, c.self.invariant.room, fewer_rest deadlines c.args.agent c.args.deadline (inside c) (free c));
    }
