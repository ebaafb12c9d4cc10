-- What is left of the proof of `laws::alike`: it is the law behind the plain opening, which code and statements have in common.
use Rattle.std.proofs.Common.{◌≡◌, length, subst}
use Rattle.psy_history.specs.Actions.{Opening, System, plain}
use Rattle.psy_history.specs.Compiled.{coded, stated_behind}
use Rattle.psy_history.specs.Executors.{by_code}
use Rattle.psy_history.specs.History.{history}
use Rattle.psy_history.specs.Likeness.{AreLike}
use Rattle.psy_history.specs.Lines.{events}
use Rattle.psy_history.specs.Scheduled.{turns_by, turns_of}
use Rattle.psy_history.specs.Summary.{due_by, most_held, reach, slack}
use Rattle.psy_history.proofs.laws.alike.Goals as goal

pub returns-clause-actions : goal.returns-clause-actions
returns-clause-actions c unit code nexts stalls inputs compiled are dates agent =
    let these : System = coded unit code nexts stalls inputs in
    let those : Opening → System = stated_behind unit nexts stalls inputs in
    subst (λ begun. AreLike (history these dates agent) (history (those begun) dates agent))
    (c.alike_behind.ensures.plain unit code nexts compiled)
    (c.alike_behind.ensures.actions unit code nexts stalls inputs (plain unit nexts (by_code code)) compiled are
    (c.openings.ensures.plain unit code nexts stalls inputs compiled are) dates agent)

pub returns-clause-lines : goal.returns-clause-lines
returns-clause-lines c unit code nexts stalls inputs compiled are date =
    let these : System = coded unit code nexts stalls inputs in
    let those : Opening → System = stated_behind unit nexts stalls inputs in
    subst (λ begun. events these date ≡ events (those begun) date)
    (c.alike_behind.ensures.plain unit code nexts compiled)
    (c.alike_behind.ensures.lines unit code nexts stalls inputs (plain unit nexts (by_code code)) compiled are
    (c.openings.ensures.plain unit code nexts stalls inputs compiled are) date)

pub returns-clause-schedule : goal.returns-clause-schedule
returns-clause-schedule c unit code nexts stalls inputs compiled are order cycles processor =
    let these : System = coded unit code nexts stalls inputs in
    let those : Opening → System = stated_behind unit nexts stalls inputs in
    subst (λ begun. turns_of these order cycles processor ≡ turns_of (those begun) order cycles processor)
    (c.alike_behind.ensures.plain unit code nexts compiled)
    (c.alike_behind.ensures.schedule unit code nexts stalls inputs (plain unit nexts (by_code code)) compiled are
    (c.openings.ensures.plain unit code nexts stalls inputs compiled are) order cycles processor)

pub returns-clause-counts : goal.returns-clause-counts
returns-clause-counts c unit code nexts stalls inputs compiled are dates until agent =
    let these : System = coded unit code nexts stalls inputs in
    let those : Opening → System = stated_behind unit nexts stalls inputs in
    subst (λ begun. length (due_by until (history these dates agent)) ≡ length (due_by until (history (those begun) dates agent)))
    (c.alike_behind.ensures.plain unit code nexts compiled)
    (c.alike_behind.ensures.counts unit code nexts stalls inputs (plain unit nexts (by_code code)) compiled are
    (c.openings.ensures.plain unit code nexts stalls inputs compiled are) dates until agent)

pub returns-clause-slacks : goal.returns-clause-slacks
returns-clause-slacks c unit code nexts stalls inputs compiled are order dates cycles until agent =
    let these : System = coded unit code nexts stalls inputs in
    let those : Opening → System = stated_behind unit nexts stalls inputs in
    subst (λ begun. slack unit.quantum (turns_by these order cycles agent) (due_by until (history these dates agent))
    ≡ slack unit.quantum (turns_by (those begun) order cycles agent) (due_by until (history (those begun) dates agent)))
    (c.alike_behind.ensures.plain unit code nexts compiled)
    (c.alike_behind.ensures.slacks unit code nexts stalls inputs (plain unit nexts (by_code code)) compiled are
    (c.openings.ensures.plain unit code nexts stalls inputs compiled are) order dates cycles until agent)

pub returns-clause-held : goal.returns-clause-held
returns-clause-held c unit code nexts stalls inputs compiled are until stream =
    let these : System = coded unit code nexts stalls inputs in
    let those : Opening → System = stated_behind unit nexts stalls inputs in
    subst (λ begun. most_held these until stream ≡ most_held (those begun) until stream)
    (c.alike_behind.ensures.plain unit code nexts compiled)
    (c.alike_behind.ensures.held unit code nexts stalls inputs (plain unit nexts (by_code code)) compiled are
    (c.openings.ensures.plain unit code nexts stalls inputs compiled are) until stream)

pub returns-clause-reaches : goal.returns-clause-reaches
returns-clause-reaches c unit code nexts stalls inputs compiled are order dates cycles variable =
    let these : System = coded unit code nexts stalls inputs in
    let those : Opening → System = stated_behind unit nexts stalls inputs in
    subst (λ begun. reach these (turns_by these order cycles) (history these dates) variable
    ≡ reach (those begun) (turns_by (those begun) order cycles) (history (those begun) dates) variable)
    (c.alike_behind.ensures.plain unit code nexts compiled)
    (c.alike_behind.ensures.reaches unit code nexts stalls inputs (plain unit nexts (by_code code)) compiled are
    (c.openings.ensures.plain unit code nexts stalls inputs compiled are) order dates cycles variable)
