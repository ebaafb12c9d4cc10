-- What is left of the proof of `whole::generate`.
use Rattle.std.proofs.Common.{length, sym, ap, subst, arith}
use Rattle.psy_code.specs.declared.code.Code.{Code}
use Rattle.psy_meaning.specs.Alike.{ActsAlike}
use Rattle.psy_meaning.specs.CodeWays.{CanWalk}
use Rattle.psy_flow.specs.Verified.{IsVerified}
use Rattle.psy_gen.specs.Emission.{function_code, function_size}
use Rattle.psy_gen.specs.Rooms.{HasRooms}
use Rattle.psy_gen.specs.SameWays.{HasSameWays}
use Rattle.psy_gen.proofs.Rooms.{rooms_of}
use Rattle.psy_gen.proofs.Wholes.{codes_length, function_length, code_is, code_size}
use Rattle.psy_gen.proofs.whole.generate.Goals as goal

pub returns-clause-code : goal.returns-clause-code
returns-clause-code c =
    let code = rw (c.new-instrs.ensures, c.as_slice.ensures) at c.in_ok-functions.ensures.code in
    let entries = rw (c.new-instrs.ensures, c.as_slice.ensures) at c.in_ok-functions.ensures.entries in
    rw c.into_items.ensures (code_is c.args.unit.now _ _ _ _ code c.in_ok-agents.ensures.code entries c.in_ok-agents.ensures.entries)

pub returns-clause-alike : goal.returns-clause-alike
returns-clause-alike c =
    let unit = c.args.unit.now in
    let text = c.requires.text.text in
    subst (ActsAlike unit) (sym (returns-clause-code c)) (c.alike.ensures unit (c.sound.ensures.unit text.0 unit text.1))

pub returns-clause-walk : goal.returns-clause-walk
returns-clause-walk c = subst (CanWalk c.args.unit.now) (sym (returns-clause-code c)) (c.walked.ensures c.args.unit.now c.requires.text)

pub returns-clause-ways : goal.returns-clause-ways
returns-clause-ways c = subst (HasSameWays c.args.unit.now) (sym (returns-clause-code c)) (c.same_ways.ensures c.args.unit.now c.requires.text)

pub returns-clause-rooms : goal.returns-clause-rooms
returns-clause-rooms c = subst (HasRooms c.args.unit.now) (sym (returns-clause-code c)) (rooms_of c.args.unit.now)

pub returns-clause-verified : goal.returns-clause-verified
returns-clause-verified c = subst (IsVerified c.args.unit.now) (sym (returns-clause-code c)) (c.verified.ensures c.args.unit.now c.requires.text)

pub returns-clause-size : goal.returns-clause-size
returns-clause-size c = rw (ap (λ (k : Code). k.instrs) (returns-clause-code c)) (code_size c.args.unit.now)

pub emit_functions-requires-clause-functions : goal.emit_functions-requires-clause-functions
emit_functions-requires-clause-functions c = rw c.as_slice.ensures c.requires.text.bare.functions

pub emit_functions-requires-clause-room : goal.emit_functions-requires-clause-room
emit_functions-requires-clause-room c = rw (c.new-instrs.ensures, c.as_slice.ensures) (omega (arith, c.requires.text.size))

pub emit_agents-requires-clause-room : goal.emit_agents-requires-clause-room
emit_agents-requires-clause-room c =
    let code = rw (c.new-instrs.ensures, c.as_slice.ensures) at c.in_ok-functions.ensures.code in
    omega (arith, c.requires.text.size, ap length code, codes_length function_code function_size function_length c.args.unit.now.functions 0)
