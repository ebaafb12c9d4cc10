-- What is left of the proof of `rows::RowTellerTell::tell`.
use Rattle.std.proofs.Common.{refl}
use Rattle.psy_table.specs.Rows.{today_of}
use Rattle.psy_table.specs.Streams.{ended_before, ended_row}
use Rattle.psy_table.proofs.rows.RowTellerTell.tell.Goals as goal

pub returns-clause-told : goal.returns-clause-told
returns-clause-told c =
    let ended = ended_before c.args.self.now.latest c.args.note.now in (
      ended_row c.args.self.now.table ended,
      record {
        row = refl;
        stands = λ columns told today stands.
            c.in_ok-tell.ensures columns told (today_of ended today) (c.in_ok-end_before.ensures.stands columns told today stands);
        latest = c.date_of-self.ensures;
      },
      c.in_ok-end_before.ensures.row,
    )
