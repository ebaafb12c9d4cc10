-- What is left of the proof of `silent::Silencing::add`.
use Rattle.std.proofs.Common.{◌∙◌, [], ◌∷◌, ◌++◌, ap, arith, length, map, refl, sym}
use Rattle.std.proofs.lemmas.List.{with_items_is}
use Rattle.psy_log.specs.declared.note.Note.TheVariants as note
use Rattle.psy_match.specs.Silences.{kept_of, stopped_at, stopped_in}
use Rattle.psy_match.proofs.Stopping.{as_before, no_stop, stopped_more}
use Rattle.psy_match.proofs.silent.Silencing.add.Goals as goal

pub returns-in_default : goal.returns-in_default
returns-in_default c = λ owning notes are. are ∙ as_before owning notes c.args.note.now (no_stop c.args.note.now c.in_default.not-StopOverrun c.in_default.not-StopTrap)

pub returns-in-StopOverrun : goal.returns-in-StopOverrun
returns-in-StopOverrun c = λ owning notes are.
    let owned = c.args.self.now.owned in
    let name = c.in-StopOverrun.agent.now in
    let date = c.in-StopOverrun.date in
    let written = with_items_is owned c.stop.new.owned (omega (arith, c.stop.ensures.as_many, ap length c.as_mut_slice.ensures.value, owned.ok)) in
    ap (map kept_of) written ∙ c.stop.ensures.stopped ∙ ap (λ os. map (stopped_at name date) (map kept_of os)) c.as_mut_slice.ensures.value
    ∙ ap (map (stopped_at name date)) are ∙ stopped_more owning notes (note.StopOverrun date c.in-StopOverrun.agent) name date (λ agent. refl)
    ∙ ap (λ n. map (stopped_in (notes ++ n ∷ [])) owning) (sym c.in-StopOverrun.is)

pub returns-in-StopTrap : goal.returns-in-StopTrap
returns-in-StopTrap c = λ owning notes are.
    let owned = c.args.self.now.owned in
    let name = c.in-StopTrap.agent.now in
    let date = c.in-StopTrap.date in
    let stopped = c.stop-in-StopTrap.ensures in
    let written = with_items_is owned c.stop-in-StopTrap.new.owned
    (omega (arith, stopped.as_many, ap length c.as_mut_slice-in-StopTrap.ensures.value, owned.ok)) in
    ap (map kept_of) written ∙ stopped.stopped ∙ ap (λ os. map (stopped_at name date) (map kept_of os)) c.as_mut_slice-in-StopTrap.ensures.value
    ∙ ap (map (stopped_at name date)) are ∙ stopped_more owning notes (note.StopTrap date c.in-StopTrap.agent c.in-StopTrap.kind) name date (λ agent. refl)
    ∙ ap (λ n. map (stopped_in (notes ++ n ∷ [])) owning) (sym c.in-StopTrap.is)
