-- What is left of the proof of `laws::follows`.
use Rattle.std.proofs.Common.{◌≡◌, ℕ, zero, suc, ◌+◌, ◌≤◌, [], length, subst, sym, refl, arith}
use Rattle.std.specs.List.{range_with_len}
use Rattle.psy_tree.specs.declared.unit.AgentDecl.{AgentDecl}
use Rattle.psy_meaning.specs.Alike.{begun}
use Rattle.psy_meaning.specs.Flow.{IsNext}
use Rattle.psy_meaning.specs.Kept.{IsAdvanceOf}
use Rattle.psy_meaning.specs.Paths.{NoneAdvances, advances_in}
use Rattle.psy_meaning.specs.Rest.{rest}
use Rattle.psy_meaning.specs.Sound.{Each}
use Rattle.psy_meaning.specs.States.{State, Final, Ended, Trapped, Halts}
use Rattle.psy_meaning.specs.Statements.{act}
use Rattle.psy_meaning.specs.Ways.{met_by, unmetered, callee_ways}
use Rattle.psy_meaning.proofs.WayEnds.{way_fine}
use Rattle.psy_meaning.proofs.laws.follows.Goals as goal

-- Any state to begin with
abbrev start : State
start = begun (record { slots = []; copies = [] }) (record { pasts = []; messages = [] })

pub returns-clause-some : goal.returns-clause-some
returns-clause-some c unit number agent point sound got = (let (final, runs) = c.ends.ensures unit number agent point start sound got in on final runs)
  where
    none : NoneAdvances unit.functions
    none = c.sound.ensures.functions unit sound

    on : (final : Final) → act unit.functions (rest agent.stmts point) start ≡ Halts final → (to : ℕ) × IsNext unit.functions agent point to
    on (Ended to t) runs = (to, (met_by t.deeds, c.ways.ensures unit.functions (rest agent.stmts point) to start t none refl runs))
    on (Trapped kind t) runs = let (to, met, way, front) = c.traps.ensures unit number agent point start t kind sound got refl runs in (to, (met, way))

inner_range : (agent : AgentDecl) (start count : ℕ) → 1 ≤ start → start + count ≤ length agent.points → Each (IsAdvanceOf agent) (range_with_len start count)
inner_range agent start zero h k = tt
inner_range agent start (suc count) h k = ((h, omega (arith, k)), inner_range agent (start + 1) count (omega arith) (omega (arith, k)))

pub returns-clause-inner : goal.returns-clause-inner
returns-clause-inner c unit number agent point to sound got (met, way) =
    let own = sound.agents number agent got in
    let inner = inner_range agent 1 (length (advances_in agent.stmts)) (omega arith) (omega (arith, own.points)) in
    way_fine (IsAdvanceOf agent) (callee_ways unit.functions) agent.stmts point to unmetered met (subst (Each (IsAdvanceOf agent)) (sym own.numbered) inner) way
