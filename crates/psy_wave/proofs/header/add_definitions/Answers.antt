-- What is left of the proof of `header::add_definitions`.
use Rattle.std.proofs.Common.{ℕ, List, ◌++◌, codes}
use Rattle.psy_wave.specs.Heads.{scope}
use Rattle.psy_wave.proofs.Pieces.{two}
use Rattle.psy_wave.proofs.header.add_definitions.Goals as goal

pub returns : goal.returns
returns c =
    let listed = c.args.listed.now in
    let begun = c.extend_from_slice.new.self.items in
    let first = c.add_scope.new.out.items in
    let second = c.add_scope-2.new.out.items in
    let third = c.add_scope-3.new.out.items in
    let last = c.add_scope-4.new.out.items in
    let variables : List ℕ = scope (codes "variables") (codes "integer 32 ") 118 listed.variables in
    let messages : List ℕ = scope (codes "messages") (codes "event 1 ") 101 listed.streams in
    let values : List ℕ = scope (codes "message_values") (codes "integer 32 ") 109 listed.streams in
    let stops : List ℕ = scope (codes "stops") (codes "wire 1 ") 115 listed.agents in
    let out = c.args.out.now.items in
    let begin : List ℕ = codes "$comment a tick of the run is a nanosecond $end\n$timescale 1 ns $end\n" in
    two out third last (((begin ++ variables) ++ messages) ++ values) stops
    (two out second third ((begin ++ variables) ++ messages) values
    (two out first second (begin ++ variables) messages
    (two out begun first begin variables c.in_ok-extend_from_slice.ensures.items c.in_ok-add_scope.ensures) c.in_ok-add_scope-2.ensures)
    c.in_ok-add_scope-3.ensures) c.in_ok-add_scope-4.ensures
