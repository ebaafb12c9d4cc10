-- At each cycle of a stretch of a legal trace its processor runs the pending action that is due first.
use Rattle.std.proofs.Common.{◌≡◌, ◌∙◌, refl, sym, ap, subst, ℕ, ◌+◌, ◌-◌, ◌*◌, ◌<◌, ◌≤◌, true, not, ◌&&◌, ◌||◌, length, None, nat_le, nat_lt, ◌==◌, filter, arith}
use Rattle.std.specs.List.{Contains, list_all, list_any}
use Rattle.std.proofs.lemmas.Bool.{and_from, and_parts, eq-eqb, eqb-true, le-leb, lt-ltb, ltb-true, or_right}
use Rattle.psy_history.specs.Processors.{processor_at, served}
use Rattle.psy_lists.proofs.lemmas.Members.{filter_from, filter_in, flat_map_from, flat_map_in}
use Rattle.psy_audit.specs.declared.said.Act.{Act}
use Rattle.psy_audit.specs.declared.said.Segment.{Segment}
use Rattle.psy_audit.specs.Courses.{is_filled, is_unfinished}
use Rattle.psy_audit.specs.Faults.{IsLegal}
use Rattle.psy_audit.specs.Legal.{HaveAll, IsIn, IsServed}
use Rattle.psy_audit.specs.Traces.{Judged, Lines, acts, acts_of, segments, segments_of}
use Rattle.psy_audit.specs.Turns.{between, first_at, is_idle, is_of_act, is_own, is_pending_at, is_served, past_on, pending_at, segments_on, touches}
use Rattle.psy_audit.proofs.Soonest.{IsSoonest, there_is}
use Rattle.psy_audit.proofs.Sound.{act_told, in_time, passes, segment_told}
use Rattle.psy_audit.proofs.Tests.{any_of, every, in_range, some}

-- What is asked of a stretch
record Parts (j : Judged) (lines b : Lines) (s : Segment) : Type 0 where
  of_act : is_of_act j lines s ≡ true
  own : list_all (λ cycle. is_own s (first_at j lines s.processor cycle)) (between s.first s.past) ≡ true

parts_of : (j : Judged) (lines b : Lines) (s : Segment) → is_served j lines b s ≡ true → Parts j lines b s
parts_of j lines b s is =
    let idle = is_idle j lines s.processor (past_on s.processor b) s.first in
    let own = list_all (λ cycle. is_own s (first_at j lines s.processor cycle)) (between s.first s.past) in
    let apart = not (list_any (touches s) (segments_on s.processor b)) in
    let early = nat_le s.past (j.until * j.unit.quantum) in
    let one = and_parts (is_filled s) (early && (is_of_act j lines s && (apart && (own && idle)))) is in
    let two = and_parts early (is_of_act j lines s && (apart && (own && idle))) one.1 in
    let three = and_parts (is_of_act j lines s) (apart && (own && idle)) two.1 in
    let four = and_parts apart (own && idle) three.1 in
    record { of_act = three.0; own = (and_parts own idle four.1).0 }

module _ (j : Judged) (lines : Lines) (orders : HaveAll j) (legal : IsLegal j lines) (s : Segment) (cycle : ℕ) (there : Contains (segments lines) s) (at : IsIn cycle s) where
  -- An action of the processor that is pending is one of those that wait.
  waits : (a : Act) → Contains (acts lines) a → processor_at j.unit a.agent ≡ s.processor → is_pending_at j lines cycle a ≡ true
      → Contains (pending_at j lines s.processor cycle) a
  waits a c of pending =
      let (b, names, so) = act_told j lines a legal c in
      let known = ltb-true a.agent (length j.unit.agents) names in
      let serves = filter_in (λ agent. processor_at j.unit agent == s.processor) (j.order cycle) a.agent (orders cycle a.agent known) (eq-eqb (processor_at j.unit a.agent) s.processor of) in
      let mine = filter_in (λ (x : Act). x.agent == a.agent) (acts lines) a c (eq-eqb a.agent a.agent refl) in
      flat_map_in (λ agent. filter (is_pending_at j lines cycle) (acts_of agent lines)) (served j.unit s.processor (j.order cycle)) a.agent a serves
      (filter_in (is_pending_at j lines cycle) (acts_of a.agent lines) a mine pending)

  -- The action of the stretch is pending.
  own_pending : (a : Act) → Contains (acts lines) a → a.agent ≡ s.agent → a.number ≡ s.number → is_pending_at j lines cycle a ≡ true
  own_pending a c agent number =
      let time = in_time j lines a legal c in
      let same = and_from (s.agent == a.agent) (s.number == a.number) (eq-eqb s.agent a.agent (sym agent)) (eq-eqb s.number a.number (sym number)) in
      let its = filter_in (λ (t : Segment). t.agent == a.agent && t.number == a.number) (segments lines) s there same in
      let within = time.within s cycle its at in
      let filled : s.first < s.past = omega (arith, at.first, at.past) in
      let behind = and_from (is_filled s) (nat_lt cycle s.past) (lt-ltb s.first s.past filled) (lt-ltb cycle s.past at.past) in
      let any = any_of (λ (t : Segment). is_filled t && nat_lt cycle t.past) (segments_of a.agent a.number lines) s its behind in
      and_from (nat_le (a.start * j.unit.quantum) cycle) (is_unfinished a.ending || list_any (λ (t : Segment). is_filled t && nat_lt cycle t.past) (segments_of a.agent a.number lines))
      (le-leb (a.start * j.unit.quantum) cycle within.0)
      (or_right (is_unfinished a.ending) (list_any (λ (t : Segment). is_filled t && nat_lt cycle t.past) (segments_of a.agent a.number lines)) any)

  -- An action that waits, and comes first, is served.
  first_served : (a : Act) → IsSoonest (pending_at j lines s.processor cycle) a → is_own s (first_at j lines s.processor cycle) ≡ true → IsServed j lines s cycle
  first_served a soonest own =
      let test = subst (λ o. is_own s o ≡ true) soonest.is own in
      let same = and_parts (a.agent == s.agent) (a.number == s.number) test in
      let (agent, serves, mine) = flat_map_from (λ agent. filter (is_pending_at j lines cycle) (acts_of agent lines)) (served j.unit s.processor (j.order cycle)) a soonest.there in
      let waiting = filter_from (is_pending_at j lines cycle) (acts_of agent lines) a mine in
      let listed = filter_from (λ (x : Act). x.agent == agent) (acts lines) a waiting.0 in
      let home = filter_from (λ n. processor_at j.unit n == s.processor) (j.order cycle) agent serves in
      record {
        act = a;
        there = listed.0;
        agent = eqb-true a.agent s.agent same.0;
        number = eqb-true a.number s.number same.1;
        processor = ap (processor_at j.unit) (eqb-true a.agent agent listed.1) ∙ eqb-true (processor_at j.unit agent) s.processor home.1;
        pending = waiting.1;
        least = λ other c of pending. soonest.least other (waits other c of pending);
      }

  pub served_first : IsServed j lines s cycle
  served_first =
      let (b, names, so) = segment_told j lines s legal there in
      let parts = parts_of j lines b s (passes (is_served j lines b s) 7 None so).0 in
      let of = and_parts (processor_at j.unit s.agent == s.processor) (list_any (λ (a : Act). a.number == s.number) (acts_of s.agent lines)) parts.of_act in
      let (a, mine, number) = some (λ (a : Act). a.number == s.number) (acts_of s.agent lines) of.1 in
      let listed = filter_from (λ (x : Act). x.agent == s.agent) (acts lines) a mine in
      let agent = eqb-true a.agent s.agent listed.1 in
      let home = ap (processor_at j.unit) agent ∙ eqb-true (processor_at j.unit s.agent) s.processor of.0 in
      let waiting = waits a listed.0 home (own_pending a listed.0 agent (eqb-true a.number s.number number)) in
      let (one, soonest) = there_is (pending_at j lines s.processor cycle) a waiting in
      let low : s.first ≤ cycle = at.first in
      let high : cycle < s.first + (s.past - s.first) = omega (arith, at.first, at.past) in
      first_served one soonest (every (λ c. is_own s (first_at j lines s.processor c)) (between s.first s.past) parts.own cycle (in_range s.first (s.past - s.first) cycle low high))
