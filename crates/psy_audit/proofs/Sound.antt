-- What a trace without fault keeps, line by line; and that its actions have their cycles in time.
use Rattle.std.proofs.Common.{◌≡◌, ◌∙◌, refl, sym, ap, subst, ℕ, suc, ◌*◌, ◌<◌, ◌≤◌, Bool, true, false, cond, not, ◌&&◌, ◌||◌, List, [], ◌∷◌, ◌++◌, length, Option, Some, None, inl, inr, nat_le, nat_lt, ◌==◌, arith}
use Rattle.std.specs.List.{Contains, flat_map, list_all, list_any, prefix_len}
use Rattle.std.proofs.lemmas.Bool.{and_from, and_parts, eqb-true, false≢true, leb-true, le-leb, lt-ltb, not-true}
use Rattle.psy_lists.proofs.lemmas.Members.{contains_none, flat_map_from, front_or_behind}
use Rattle.psy_meaning.specs.Timing.{budget_at}
use Rattle.psy_audit.specs.declared.said.Act.{Act}
use Rattle.psy_audit.specs.declared.said.Look.{Look}
use Rattle.psy_audit.specs.declared.said.Said.{Said}
use Rattle.psy_audit.specs.declared.said.Said.TheVariants.{Acted, Published, Served, Looked, Ended}
use Rattle.psy_audit.specs.declared.said.Segment.{Segment}
use Rattle.psy_audit.specs.Courses.{cycles_in, has_course, has_cycles, is_unfinished, is_within}
use Rattle.psy_audit.specs.Faults.{Fault, IsLegal, comes_behind, fault_in, fault_of, fault_or, first_behind, has_names}
use Rattle.psy_audit.specs.Legal.{IsIn, IsInTime}
use Rattle.psy_audit.specs.Traces.{Judged, Lines, act_in, acts, body, is_end, last_of, look_in, looks, segment_in, segments, segments_of, timing_in}
use Rattle.psy_audit.proofs.Tests.{every, in_front_part, reaches}

-- ---- the lines of a trace without fault

-- There is no fault here, nor behind.
fault_none : (here : Option ℕ) (line : ℕ) (behind : Option Fault) → fault_or here line behind ≡ None → (here ≡ None) × (behind ≡ None)
fault_none None line behind e = (refl, e)
fault_none (Some number) line behind e = absurd cc

-- No line has a fault behind those before it.
sound_line : (j : Judged) (all before lines : Lines) (line : Option Said) → first_behind j all before lines ≡ None → Contains lines line
    → (b : Lines) × (fault_of j all b line ≡ None)
sound_line j all before [] line sound c = absurd (contains_none line c)
sound_line j all before (next ∷ lines) line sound c =
    let parts = fault_none (fault_of j all before next) (suc (length before)) (first_behind j all (before ++ next ∷ []) lines) sound in
    elim (front_or_behind next lines line c) [
      | inl e ↦ (before, subst (λ l. fault_of j all before l ≡ None) e parts.0)
      | inr rest ↦ sound_line j all (before ++ next ∷ []) lines line parts.1 rest
    ]

-- A test that is passed, and what is asked behind it
pub passes : (test : Bool) (n : ℕ) (rest : Option ℕ) → cond (not test) (Some n) rest ≡ None → (test ≡ true) × (rest ≡ None)
passes true n rest e = (refl, e)
passes false n rest e = absurd cc

-- What isn't so, and what is asked behind it
fails : (test : Bool) (n : ℕ) (rest : Option ℕ) → cond test (Some n) rest ≡ None → rest ≡ None
fails true n rest e = absurd cc
fails false n rest e = e

-- A line without fault has names, and what it tells of is so.
said_sound : (j : Judged) (all before : Lines) (said : Said) → fault_of j all before (Some said) ≡ None
    → (has_names j said ≡ true) × (fault_in j all before said ≡ None)
said_sound j all before said sound =
    let behind = fault_in j all before said in
    let order = cond (not (comes_behind (last_of before) said)) (Some 3) behind in
    let names = cond (not (has_names j said)) (Some 2) order in
    let named = passes (has_names j said) 2 order (fails (list_any is_end before) 1 names sound) in
    (named.0, (passes (comes_behind (last_of before) said) 3 behind named.1).1)

-- What lines tell of one kind, told by a line
told : {X : Type 0} (f : Option Said → List X) (make : X → Said) → ((line : Option Said) (x : X) → Contains (f line) x → line ≡ Some (make x))
    → (j : Judged) (lines : Lines) (x : X) → IsLegal j lines → Contains (flat_map f (body lines)) x
    → (b : Lines) × (has_names j (make x) ≡ true) × (fault_in j lines b (make x) ≡ None)
told f make is j lines x legal c =
    let (line, there, its) = flat_map_from f (body lines) x c in
    let (b, sound) = sound_line j lines [] lines line legal (in_front_part (prefix_len (λ l. not (is_end l)) lines) lines line there) in
    let (names, so) = said_sound j lines b (make x) (subst (λ l. fault_of j lines b l ≡ None) (is line x its) sound) in
    (b, names, so)

-- ---- the three kinds

only : {X : Type 0} (x y : X) → Contains (x ∷ []) y → x ≡ y
only x y c = elim (front_or_behind x [] y c) [ inl e ↦ e | inr rest ↦ absurd (contains_none y rest) ]

act_line : (line : Option Said) (a : Act) → Contains (act_in line) a → line ≡ Some (Acted a)
act_line None a c = absurd (contains_none a c)
act_line (Some (Acted b)) a c = ap (λ x. Some (Acted x)) (only b a c)
act_line (Some (Published p)) a c = absurd (contains_none a c)
act_line (Some (Served s)) a c = absurd (contains_none a c)
act_line (Some (Looked l)) a c = absurd (contains_none a c)
act_line (Some Ended) a c = absurd (contains_none a c)

segment_line : (line : Option Said) (s : Segment) → Contains (segment_in line) s → line ≡ Some (Served s)
segment_line None s c = absurd (contains_none s c)
segment_line (Some (Acted a)) s c = absurd (contains_none s c)
segment_line (Some (Published p)) s c = absurd (contains_none s c)
segment_line (Some (Served t)) s c = ap (λ x. Some (Served x)) (only t s c)
segment_line (Some (Looked l)) s c = absurd (contains_none s c)
segment_line (Some Ended) s c = absurd (contains_none s c)

look_line : (line : Option Said) (l : Look) → Contains (look_in line) l → line ≡ Some (Looked l)
look_line None l c = absurd (contains_none l c)
look_line (Some (Acted a)) l c = absurd (contains_none l c)
look_line (Some (Published p)) l c = absurd (contains_none l c)
look_line (Some (Served s)) l c = absurd (contains_none l c)
look_line (Some (Looked m)) l c = ap (λ x. Some (Looked x)) (only m l c)
look_line (Some Ended) l c = absurd (contains_none l c)

-- An action of a legal trace
pub act_told : (j : Judged) (lines : Lines) (a : Act) → IsLegal j lines → Contains (acts lines) a
    → (b : Lines) × (has_names j (Acted a) ≡ true) × (fault_in j lines b (Acted a) ≡ None)
act_told j lines a legal c = told act_in Acted act_line j lines a legal c

-- A stretch of a legal trace
pub segment_told : (j : Judged) (lines : Lines) (s : Segment) → IsLegal j lines → Contains (segments lines) s
    → (b : Lines) × (has_names j (Served s) ≡ true) × (fault_in j lines b (Served s) ≡ None)
segment_told j lines s legal c = told segment_in Served segment_line j lines s legal c

-- A look of a legal trace
pub look_told : (j : Judged) (lines : Lines) (l : Look) → IsLegal j lines → Contains (looks lines) l
    → (b : Lines) × (has_names j (Looked l) ≡ true) × (fault_in j lines b (Looked l) ≡ None)
look_told j lines l legal c = told look_in Looked look_line j lines l legal c

-- ---- actions

-- A cycle of a stretch that lies within an action
within_act : (j : Judged) (a : Act) (s : Segment) (cycle : ℕ) → is_within j a s ≡ true → IsIn cycle s
    → (a.start * j.unit.quantum ≤ cycle) × (cycle < a.due * j.unit.quantum)
within_act j a s cycle is at =
    let low = nat_le (a.start * j.unit.quantum) s.first in
    let high = nat_le s.past (a.due * j.unit.quantum) in
    let filled : nat_lt s.first s.past ≡ true = lt-ltb s.first s.past (omega (arith, at.first, at.past)) in
    let parts = and_parts low high (subst (λ b. (not b || low && high) ≡ true) filled is) in
    reaches (a.start * j.unit.quantum) s.first cycle s.past (a.due * j.unit.quantum) (leb-true (a.start * j.unit.quantum) s.first parts.0) at.first at.past
    (leb-true s.past (a.due * j.unit.quantum) parts.1)

-- Each action has its cycles in time.
pub in_time : (j : Judged) (lines : Lines) (a : Act) → IsLegal j lines → Contains (acts lines) a → IsInTime j lines a
in_time j lines a legal c =
    let (b, names, so) = act_told j lines a legal c in
    let its = segments_of a.agent a.number lines in
    let budget = budget_at (timing_in j a.agent) a.point in
    let late = is_unfinished a.ending && nat_le a.due j.until in
    let course = passes (has_course j lines b a) 4 (cond (not (has_cycles j lines a)) (Some 5) None) so in
    let cycles = passes (has_cycles j lines a) 5 None course.1 in
    let one = and_parts (nat_le a.work budget) (a.work == cycles_in its && (list_all (is_within j a) its && not late)) cycles.0 in
    let two = and_parts (a.work == cycles_in its) (list_all (is_within j a) its && not late) one.1 in
    let three = and_parts (list_all (is_within j a) its) (not late) two.1 in
    record {
      work = eqb-true a.work (cycles_in its) two.0;
      budget = leb-true a.work budget one.0;
      within = λ s cycle there at. within_act j a s cycle (every (is_within j a) its three.0 s there) at;
      finished = λ due unfinished. false≢true (sym (not-true late three.1)
          ∙ and_from (is_unfinished a.ending) (nat_le a.due j.until) (ap is_unfinished unfinished) (le-leb a.due j.until due));
    }
