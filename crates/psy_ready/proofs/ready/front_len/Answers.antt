-- What is left of the proof of `ready::front_len`.
use Rattle.std.proofs.Common.{ℕ, ◌≤◌, ◌<◌, length, sym, subst}
use Rattle.std.specs.List.Sorted.{IsPartitionPoint}
use Rattle.psy_ready.specs.declared.ready.Pending.{Pending}
use Rattle.psy_ready.proofs.Places.{later_behind, later_within}
use Rattle.psy_ready.proofs.ready.front_len.Goals as goal

pub returns : goal.returns
returns c = record {
  point = subst (IsPartitionPoint (λ (p : Pending). p.deadline ≤ c.args.deadline) (λ (p : Pending). c.args.deadline < p.deadline) c.args.sorted.now) (sym c.unwrap_or.ensures)
      (later_behind c.args.sorted.now c.args.deadline c.requires c.first_later.result c.first_later.ensures);
  within = subst (λ (n : ℕ). n ≤ length c.args.sorted.now) (sym c.unwrap_or.ensures) (later_within c.args.sorted.now c.args.deadline c.first_later.result c.first_later.ensures);
}
