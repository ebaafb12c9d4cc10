-- What is left of the proof of `frames::Frames::restart`.
use Rattle.std.proofs.Common.{◌≡◌, ◌++◌, replicate, refl, ap, ◌∙◌, arith}
use Rattle.psy_machine.specs.declared.frames.Frames.TheInside.{Inside}
use Rattle.psy_machine.proofs.Laid.{restart_gives, restart_laid, grown_by}
use Rattle.psy_machine.proofs.frames.Frames.restart.Goals as goal

pub unwrap-requires : goal.unwrap-requires
unwrap-requires c =
    let f = c.self.inside in
    c.resize.ensures.succeeds (omega (arith, c.self.invariant.counters))

pub invariant_of-self : goal.invariant_of-self
invariant_of-self c =
    let len = rw c.unwrap.ensures at c.resize.ensures.len in
    restart_laid c.self.inside _ c.self.invariant c.truncate.ensures.items (omega (arith, len, c.resize.new.self.ok.0)) c.clear.ensures.items refl refl refl c.truncate.ensures.capacity (omega (arith, c.resize.ensures.capacity, c.clear-2.ensures.capacity)) c.clear.ensures.capacity

pub returns : goal.returns
returns c =
    let f = c.self.inside in
    let zeros = rw c.unwrap.ensures at c.resize.ensures.items in
    let all = grown_by c.clear-2.new.self.items f.home_end.counters _ f.home_end.counters (omega (arith, c.clear-2.ensures.len)) c.clear-2.new.self.ok.0 in
    let counters : c.resize.new.self.items ≡ replicate f.home_end.counters 0 = zeros ∙ all ∙ ap (λ xs. xs ++ replicate f.home_end.counters 0) c.clear-2.ensures.items in
    let after : Inside = record { cells = c.truncate.new.self; counters = c.resize.new.self; headers = c.clear.new.self; present = record { cells = 0; counters = 0 }; home_end = f.home_end; room = f.room } in
    restart_gives f after c.args.self.now c.self.view_is c.self.invariant c.truncate.ensures.items counters c.clear.ensures.items refl
