-- What is left of the proof of `text::text_of`.
use Rattle.std.proofs.Common.{append_assoc}
use Rattle.psy_report.proofs.text.text_of.Goals as goal

pub returns : goal.returns
returns c =
    simp append_assoc at (rw (
      c.in_ok-add_rows-6.ensures,
      c.in_ok-add_rows-5.ensures,
      c.in_ok-add_rows-4.ensures,
      c.in_ok-add_rows-3.ensures,
      c.in_ok-add_rows-2.ensures,
      c.in_ok-add_tightest.ensures,
      c.in_ok-add_rows.ensures,
      c.new-out.ensures.items,
      c.count-agents.ensures,
      c.count-variables.ensures,
      c.count-streams.ensures,
      c.len.ensures,
      c.len-2.ensures,
      c.len-3.ensures,
    )
    at c.in_ok-add_rows-7.ensures)
