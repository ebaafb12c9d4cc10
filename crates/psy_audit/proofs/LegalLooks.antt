-- Each look of a legal trace reads what was published for the start of its action.
use Rattle.std.proofs.Common.{◌≡◌, refl, sym, ◌-◌, Bool, true, false, cond, ◌&&◌, Option, Some, None, nat_le, nat_lt, ◌==◌, slice_get, int_eq, ℤ}
use Rattle.std.specs.List.{Contains, list_any}
use Rattle.std.proofs.lemmas.Bool.{and_parts, eqb-true, false≢true, leb-true, le-ltb, lt-ltb, ltb-true}
use Rattle.std.proofs.lemmas.Bool.Decides.{Decides-int_eq}
use Rattle.psy_clock.specs.Dates.{count}
use Rattle.psy_lists.proofs.lemmas.Members.{filter_from}
use Rattle.psy_tree.specs.Parts.{variable_at}
use Rattle.psy_audit.specs.declared.said.Act.{Act}
use Rattle.psy_audit.specs.declared.said.Look.{Look}
use Rattle.psy_audit.specs.declared.said.Publication.{Publication}
use Rattle.psy_audit.specs.Courses.{has_cycle}
use Rattle.psy_audit.specs.Faults.{IsLegal}
use Rattle.psy_audit.specs.Legal.{IsSeen}
use Rattle.psy_audit.specs.Looks.{age_in, finds, is_look, is_look_of, is_value_of}
use Rattle.psy_history.specs.Rings.{slot_of}
use Rattle.psy_audit.specs.Traces.{Judged, Lines, acts, acts_of, looks, publications_of, publishing_in, ring_in, segments_of}
use Rattle.psy_audit.proofs.Sound.{look_told, passes}
use Rattle.psy_audit.proofs.Tests.{some}

-- A value is that of a publication, so there is one.
value_is : (value : ℤ) (o : Option Publication) → is_value_of value o ≡ true → (p : Publication) × (o ≡ Some p) × (value ≡ p.value)
value_is value None is = absurd (false≢true is)
value_is value (Some p) is = (p, refl, (Decides-int_eq value p.value).0 is)

-- A test that is passed says which of two is asked.
asked : (test : Bool) (a b : Bool) → cond test a b ≡ true → (test ≡ true → a ≡ true) × (test ≡ false → b ≡ true)
asked true a b is = (λ t. is, λ f. absurd (false≢true (sym f)))
asked false a b is = (λ t. absurd (false≢true t), λ f. is)

module _ (j : Judged) (lines : Lines) (l : Look) (a : Act) (listed : Contains (acts lines) a) (agent : a.agent ≡ l.agent) (is : is_look_of j lines l a ≡ true) where
  look_seen : IsSeen j lines l
  look_seen =
      let its = segments_of l.agent l.number lines in
      let size = ring_in j l.variable in
      let dates = count (publishing_in j l.variable) a.start in
      let within = list_any (has_cycle l.cycle) its in
      let near = nat_lt l.back (variable_at j.unit l.variable).depth in
      let placed = l.slot == slot_of size dates l.back in
      let young = nat_lt (age_in j a.start l) size in
      let one = and_parts (a.number == l.number) (within && (near && (placed && (finds j (publications_of l.variable lines) dates l && young)))) is in
      let two = and_parts within (near && (placed && (finds j (publications_of l.variable lines) dates l && young))) one.1 in
      let three = and_parts near (placed && (finds j (publications_of l.variable lines) dates l && young)) two.1 in
      let four = and_parts placed (finds j (publications_of l.variable lines) dates l && young) three.1 in
      let five = and_parts (finds j (publications_of l.variable lines) dates l) young four.1 in
      let (segment, there, has) = some (has_cycle l.cycle) its two.0 in
      let ends = and_parts (nat_le segment.first l.cycle) (nat_lt l.cycle segment.past) has in
      let found = slice_get (publications_of l.variable lines) (dates - 1 - l.back) in
      let initial = (variable_at j.unit l.variable).init in
      let either = asked (nat_lt l.back dates) (is_value_of l.value found) (int_eq l.value initial) five.0 in
      record {
        act = a;
        there = listed;
        agent = agent;
        number = eqb-true a.number l.number one.0;
        segment = segment;
        its = there;
        cycle = record { first = leb-true segment.first l.cycle ends.0; past = ltb-true l.cycle segment.past ends.1 };
        depth = ltb-true l.back (variable_at j.unit l.variable).depth three.0;
        value = λ less. value_is l.value found (either.0 (lt-ltb l.back dates less));
        initial = λ most. (Decides-int_eq l.value initial).0 (either.1 (le-ltb l.back dates most));
        slot = eqb-true l.slot (slot_of size dates l.back) four.0;
        kept = ltb-true (age_in j a.start l) size five.1;
      }

pub seen : (j : Judged) (lines : Lines) (l : Look) → IsLegal j lines → Contains (looks lines) l → IsSeen j lines l
seen j lines l legal c =
    let (b, names, so) = look_told j lines l legal c in
    let (a, mine, is) = some (is_look_of j lines l) (acts_of l.agent lines) (passes (is_look j lines l) 8 None so).0 in
    let listed = filter_from (λ (x : Act). x.agent == l.agent) (acts lines) a mine in
    look_seen j lines l a listed.0 (eqb-true a.agent l.agent listed.1) is
