-- What is asked of the looks of a trace: that each reads the value published for the start of its action, from a place not yet overwritten.
use Rattle.std.specs.Prelude.{ℕ, ◌+◌, ◌-◌, ◌/◌, Bool, false, ◌==◌, ◌&&◌, nat_lt, if◌then◌else◌, List, Option, Some, None, slice_get, ℤ}
use Rattle.std.specs.List.{list_any}
use Rattle.std.specs.Ordering.{int_eq}
use Rattle.psy_clock.specs.Dates.{count}
use Rattle.psy_history.specs.Rings.{slot_of}
use Rattle.psy_meaning.specs.RingSizes.{dates_between}
use Rattle.psy_tree.specs.Parts.{variable_at}
use Rattle.psy_audit.specs.declared.said.Act.{Act}
use Rattle.psy_audit.specs.declared.said.Look.{Look}
use Rattle.psy_audit.specs.declared.said.Publication.{Publication}
use Rattle.psy_audit.specs.declared.said.Segment.{Segment}
use Rattle.psy_audit.specs.Courses.{has_cycle}
use Rattle.psy_audit.specs.Traces.{Judged, Lines, acts_of, publications_of, publishing_in, ring_in, segments_of}

-- It is the value of this publication.
abbrev pub is_value_of : ℤ → Option Publication → Bool
is_value_of value None = false
is_value_of value (Some p) = int_eq value p.value

-- The value of a look is that of the publication of so many dates back among these, of those up to now, or the first value where there are not so many.
abbrev pub finds : Judged → List Publication → ℕ → Look → Bool
finds j published dates l = if nat_lt l.back dates then is_value_of l.value (slice_get published (dates - 1 - l.back))
    else int_eq l.value (variable_at j.unit l.variable).init

-- How many publications came behind the value of a look, up to its cycle, where its action started at a date
abbrev pub age_in : Judged → ℕ → Look → ℕ
age_in j start l = l.back + dates_between (publishing_in j l.variable) start (l.cycle / j.unit.quantum)

-- A look of an action, with these stretches and these publications: it lies in a cycle of the action, looks back no further than the variable's
-- depth, and reads the value of so many dates before the start of the action, from its place, before that place is overwritten.
abbrev pub is_look_with : Judged → List Segment → List Publication → Look → Act → Bool
is_look_with j its published l a =
    let size = ring_in j l.variable in
    let dates = count (publishing_in j l.variable) a.start in
    a.number == l.number
    && (list_any (has_cycle l.cycle) its
    && (nat_lt l.back (variable_at j.unit l.variable).depth
    && (l.slot == slot_of size dates l.back
    && (finds j published dates l
    && nat_lt (age_in j a.start l) size))))

-- A look of an action of a trace
abbrev pub is_look_of : Judged → Lines → Look → Act → Bool
is_look_of j all l a = is_look_with j (segments_of l.agent l.number all) (publications_of l.variable all) l a

-- It is a look of some action of its agent.
abbrev pub is_look : Judged → Lines → Look → Bool
is_look j all l = list_any (is_look_of j all l) (acts_of l.agent all)
