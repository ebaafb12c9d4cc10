-- What is left of the proof of `picture::shown`.
use Rattle.std.proofs.Common.{ap, sym, Err, ◌≤◌, length, arith}
use Rattle.psy_view.specs.Views.{drawn, undrawn, unlisted, unknown, empty}
use Rattle.std.specs.Prelude.{string_bytes}
use Rattle.psy_view.proofs.PictureLemmas.{name_at, unasked_within}
use Rattle.psy_view.proofs.picture.shown.Goals as goal

pub returns-in-Ok : goal.returns-in-Ok
returns-in-Ok c =
    let small : length c.in-Ok.svg.items ≤ 2000000 = omega (arith, c.in-Ok.svg.ok, c.in-Ok.ensures.small) in
    drawn _ (record {
      listed = c.in-Ok.ensures.listed;
      known = c.in-Ok.ensures.known;
      dated = c.in-Ok.ensures.dated;
      file = c.in-Ok.ensures.picture;
      small = small;
    })

pub returns-in_ok-unlisted_line-in-Err-Unlisted : goal.returns-in_ok-unlisted_line-in-Err-Unlisted
returns-in_ok-unlisted_line-in-Err-Unlisted c =
    let first = c.in-Err-Unlisted.ensures.unlisted _ (ap Err c.in-Err-Unlisted.field-0-is) in
    rw (c.in_ok-unlisted_line-in-Err-Unlisted.ensures, c.as_bytes.ensures.value) (undrawn _ (unlisted _ first))

pub returns-in_ok-unknown_line-in-Err-Unknown : goal.returns-in_ok-unknown_line-in-Err-Unknown
returns-in_ok-unknown_line-in-Err-Unknown c =
    let place = c.in-Err-Unknown.place in
    let first = c.in-Err-Unknown.ensures.unknown place (ap Err c.in-Err-Unknown.field-0-is) in
    let within = unasked_within string_bytes c.args.notes.now c.args.selection.names.now place first.1 in
    rw (c.in_ok-unknown_line-in-Err-Unknown.ensures, c.as_bytes-in-Err-Unknown.ensures.value, c.as_bytes-in-Err-Unknown-2.ensures.value)
    (undrawn _ (unknown place _ first.0 first.1
    (name_at string_bytes c.args.selection.names.now place c.index-names-place.result within (sym c.index-names-place.is))))

pub returns-in_ok-empty_line-in-Err-Empty : goal.returns-in_ok-empty_line-in-Err-Empty
returns-in_ok-empty_line-in-Err-Empty c =
    let before = c.in-Err-Empty.ensures.empty (ap Err c.in-Err-Empty.field-0-is) in
    rw (c.in_ok-empty_line-in-Err-Empty.ensures, c.as_bytes-in-Err-Empty.ensures.value) (undrawn _ (empty before.0 before.1 before.2))
