-- What a function does is one of its ways, or the front of one where it traps, if no function holds an `advance`.
use Rattle.std.proofs.Common.{◌≡◌, refl, inl, inr, arith}
use Rattle.std.specs.Prelude.{ℕ, suc, ◌+◌, ◌==◌, Bool, true, false, if◌then◌else◌, List, [], ◌∷◌, Some}
use Rattle.psy_tree.specs.declared.unit.FunctionDecl.{FunctionDecl}
use Rattle.psy_meaning.specs.States.{Store, Ended, Trapped, Got, Value, Stops, Outcome, Falls, Returns, Halts, Callee, cost_1}
use Rattle.psy_meaning.specs.Statements.{acts_by, function_frame, in_store, back_in, callee, no_callee, with_callee, callees_from, callees_of}
use Rattle.psy_meaning.specs.Paths.{holds_advance, NoneAdvances}
use Rattle.psy_meaning.specs.Ways.{Meter, Way, Course, Fell, Back, To, here, courses_through, course_by, back_way, callee_way, with_way, callee_ways_from, callee_ways}
use Rattle.psy_meaning.proofs.Fronts.{FrontOn, FrontIn, open_here, front_both}
use Rattle.psy_meaning.proofs.OpenWays.{two, open_two, leads_stmts}
use Rattle.psy_meaning.proofs.Runs.{met, GotBy, CallAlong, AllAlong}
use Rattle.psy_meaning.proofs.lemmas.NoWays.{NoWay, none_through}
use Rattle.psy_meaning.proofs.StatementRuns.{OutBy, acts_along}

abbrev NoPoint : Course → Type 0
NoPoint course = (point : ℕ) → NoWay (To point) course

front_back : (course : Course) (m k : Meter) → NoPoint course → FrontIn course m k → FrontOn (back_way course) m k
front_back course m k p (Fell, n, w, f) = let on = front_both (course Fell) two m k (n, w, f) open_two in (on.0, inr on.1, on.2)
front_back course m k p (Back, n, w, f) = (n, inl w, f)
front_back course m k p (To point, n, w, f) = elim (p point m n w) [ ]

back_along : (store : Store) (course : Course) (m : Meter) (o : Outcome) → NoPoint course → OutBy course m o → GotBy (back_way course) m (back_in store o)
back_along store course m (Falls t) p g = inr (met t, g, (met (cost_1 t), refl, refl))
back_along store course m (Returns v t) p g = inl g
back_along store course m (Halts (Ended point t)) p g = elim (p point m (met t) g) [ ]
back_along store course m (Halts (Trapped kind t)) p g = front_back course m (met t) p g

callee_along : (callees : ℕ → Callee) (ways : ℕ → Way) → AllAlong callees ways → (f : FunctionDecl) → holds_advance f.stmts ≡ false → CallAlong (callee callees f) (callee_way ways f)
callee_along callees ways all f h =
    let course : Course = courses_through (course_by ways) f.stmts in
    let pointless : NoPoint course = λ point. none_through ways true false (Some point) refl f.stmts h in (
      (λ m. front_back course m m pointless (leads_stmts ways (λ number. (all number).0) f.stmts m)),
      (λ arguments s. back_along s.store course (met s) (acts_by callees f.stmts (in_store (function_frame f arguments) s)) pointless (acts_along callees ways all f.stmts (in_store (function_frame f arguments) s))),
    )

got_same : (way other : Way) (m : Meter) (got : Got) → ((n : Meter) → way m n → other m n) → GotBy way m got → GotBy other m got
got_same way other m (Value v t) f g = f (met t) g
got_same way other m (Stops (Trapped kind t)) f (n, w, front) = (n, f n w, front)
got_same way other m (Stops (Ended point t)) f g = g

call_same : (does : Callee) (way other : Way) → ((m n : Meter) → way m n → other m n) → CallAlong does way → CallAlong does other
call_same does way other f (o, p) = ((λ m. let w = o m in (w.0, f m w.0 w.1, w.2)), (λ arguments s. got_same way other (met s) (does arguments s) (f (met s)) (p arguments s)))

with_along : (number : ℕ) (last : Callee) (its : Way) (callees : ℕ → Callee) (ways : ℕ → Way) → CallAlong last its → AllAlong callees ways → AllAlong (with_callee number last callees) (with_way number its ways)
with_along number last its callees ways p q function = by (function == number) refl
  where
    by : (t : Bool) → (function == number) ≡ t → CallAlong (if t then last else callees function) (with_way number its ways function)
    by true e = call_same last its (with_way number its ways function) (λ m n w. inl (grind (arith, e), w)) p
    by false e = call_same (callees function) (ways function) (with_way number its ways function) (λ m n w. inr ((λ same. grind (arith, e, same)), w)) (q function)

from_along : (number : ℕ) (callees : ℕ → Callee) (ways : ℕ → Way) (fs : List FunctionDecl) → AllAlong callees ways → NoneAdvances fs → AllAlong (callees_from number callees fs) (callee_ways_from number ways fs)
from_along number callees ways [] all h = all
from_along number callees ways (f ∷ fs) all h =
    from_along (number + 1) (with_callee number (callee callees f) callees) (with_way number (callee_way ways f) ways) fs
    (with_along number (callee callees f) (callee_way ways f) callees ways (callee_along callees ways all f (h 0 f (omega arith))) all) (λ k d less. h (suc k) d (omega (arith, less)))

pub callees_along : (fs : List FunctionDecl) → NoneAdvances fs → AllAlong (callees_of fs) (callee_ways fs)
callees_along fs h = from_along 0 no_callee (λ function. here) fs (λ number. (open_here, (λ arguments s. refl))) h
