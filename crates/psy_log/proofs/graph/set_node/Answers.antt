-- What is left of the proof of `graph::set_node`.
use Rattle.std.proofs.Common.{append_assoc}
use Rattle.psy_log.proofs.graph.set_node.Goals as goal

pub returns : goal.returns
returns c = rw (
  c.add-6.ensures,
  c.add_u64-3.ensures.digits,
  c.add-5.ensures,
  c.add_u64-2.ensures.digits,
  c.add-4.ensures,
  c.add_u32-3.ensures.digits,
  c.add-3.ensures,
  c.add_u64.ensures.digits,
  c.add-2.ensures,
  c.add_u32-2.ensures.digits,
  c.add.ensures,
  c.add_u32.ensures.digits,
  c.start.ensures,
) (simp append_assoc)
