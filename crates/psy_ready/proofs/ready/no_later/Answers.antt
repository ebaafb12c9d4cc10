-- What is left of the proof of `ready::no_later`.
use Rattle.std.proofs.Common.{◌≡◌, ℕ, ◌≤◌, true, false, leb, List, get_or, subst, inl, inr, arith, rules}
use Rattle.std.specs.List.{AllPairs}
use Rattle.std.specs.List.Sorted.{IsNonDecreasingBy, IsPartitionedBy, IsPartitionPoint}
use Rattle.std.proofs.lemmas.Bool.{cases_order, leb-true, leb-false}
use Rattle.std.proofs.lemmas.List.Sorted.{IsPartitionPoint-from_clause, IsPartitionedBy-leb}
use Rattle.psy_ready.specs.declared.ready.Pending.{Pending}
use Rattle.psy_ready.proofs.ready.no_later.Goals as goal

rising : (sorted : List Pending) → AllPairs (λ (p q : Pending). p.deadline ≤ q.deadline) sorted → IsNonDecreasingBy (λ (p : Pending). p.deadline) sorted
rising sorted rise i j d less small = elim (cases_order i j) [
  | inl same ↦ subst (λ k. (get_or sorted i d).deadline ≤ (get_or sorted k d).deadline) same (omega arith)
  | inr other ↦ elim other [ inl first ↦ rise i j d first small | inr last ↦ absurd (omega (arith, less, last)) ]
]

pub returns-clause-point : goal.returns-clause-point
returns-clause-point c =
    let sorted : List Pending = c.args.sorted.now in
    let deadline : ℕ = c.args.deadline in
    let parted : IsPartitionedBy (λ (p : Pending). leb p.deadline deadline) sorted = IsPartitionedBy-leb (λ (p : Pending). p.deadline) sorted deadline (rising sorted c.requires) in
    let point : IsPartitionPoint (λ (p : Pending). leb p.deadline deadline ≡ true) (λ (p : Pending). leb p.deadline deadline ≡ false) sorted c.partition_point.result =
    IsPartitionPoint-from_clause (λ (p : Pending). leb p.deadline deadline) sorted c.partition_point.result c.partition_point.ensures.partitioned parted (λ a r q k. search rules) in
    (λ k d more less. leb-true (get_or sorted k d).deadline deadline (point.0 k d more less), λ k d more less. leb-false (get_or sorted k d).deadline deadline (point.1 k d more less))
