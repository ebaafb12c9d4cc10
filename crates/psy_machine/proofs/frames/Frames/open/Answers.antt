-- What is left of the proof of `frames::Frames::open`.
use Rattle.std.proofs.Common.{◌≡◌, ◌+◌, ◌++◌, length, replicate, ap, ◌∙◌, refl, arith, append_assoc}
use Rattle.psy_machine.specs.declared.frames.Frames.TheInside.{Inside}
use Rattle.psy_machine.proofs.Laid.{room_for, call_within, open_gives, grown_by}
use Rattle.psy_machine.proofs.frames.Frames.open.Goals as goal

pub push_reserved-requires : goal.push_reserved-requires
push_reserved-requires c =
    let f = c.self.inside in
    omega (arith, call_within f c.args.self.now c.self.view_is c.self.invariant c.requires.calls, f.headers.ok.0)

pub unwrap-requires : goal.unwrap-requires
unwrap-requires c =
    let f = c.self.inside in
    let room = room_for f c.args.self.now (length c.args.arguments.now + length c.args.locals.now) c.args.counters c.self.view_is c.self.invariant c.requires.room in
    c.extend_from_slice.ensures.succeeds (omega (arith, room.0, f.cells.ok.0))

pub put_all-requires : goal.put_all-requires
put_all-requires c =
    let f = c.self.inside in
    let room = room_for f c.args.self.now (length c.args.arguments.now + length c.args.locals.now) c.args.counters c.self.view_is c.self.invariant c.requires.room in
    let len = rw c.unwrap.ensures at c.extend_from_slice.ensures.len in
    omega (arith, room.0, f.cells.ok.0, c.extend_from_slice.new.self.ok.0, len, c.extend_from_slice.ensures.capacity)

pub unwrap-requires-2 : goal.unwrap-requires-2
unwrap-requires-2 c =
    let f = c.self.inside in
    let room = room_for f c.args.self.now (length c.args.arguments.now + length c.args.locals.now) c.args.counters c.self.view_is c.self.invariant c.requires.room in
    c.resize.ensures.succeeds (omega (arith, room.1, f.counters.ok.0))

pub returns : goal.returns
returns c =
    let f = c.self.inside in
    let arguments = rw c.unwrap.ensures at c.extend_from_slice.ensures.items in
    let zeros = rw c.unwrap-2.ensures at c.resize.ensures.items in
    let cells : c.put_all.new.cells.items ≡ f.cells.items ++ (c.args.arguments.now ++ c.args.locals.now) = c.put_all.ensures.items ∙ ap (λ xs. xs ++ c.args.locals.now) arguments ∙ append_assoc f.cells.items c.args.arguments.now c.args.locals.now in
    let counters : c.resize.new.self.items ≡ f.counters.items ++ replicate c.args.counters 0 = zeros ∙ grown_by f.counters.items _ _ c.args.counters (ap (λ n. n + c.args.counters) c.len-3.ensures) f.counters.ok.0 in
    let after : Inside = record { cells = c.put_all.new.cells; counters = c.resize.new.self; headers = c.push_reserved.new.self; present = record { cells = c.len.result; counters = c.len-2.result }; home_end = f.home_end; room = f.room } in
    let begins : after.present ≡ record { cells = length f.cells.items; counters = length f.counters.items } = rw (c.len.ensures, c.len-2.ensures, f.cells.ok.0, f.counters.ok.0) refl in
    open_gives f after c.args.self.now (c.args.arguments.now ++ c.args.locals.now) (replicate c.args.counters 0) c.args.back c.self.view_is cells counters c.push_reserved.ensures.items begins refl
