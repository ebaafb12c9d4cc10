-- What statements do is one of their ways, or the front of one where they trap.
use Rattle.std.proofs.Common.{refl, sym, ap, subst, inl, inr}
use Rattle.std.proofs.lemmas.List.{map-append}
use Rattle.std.specs.Prelude.{ℕ, zero, suc, ◌+◌, length, Bool, true, false, if◌then◌else◌, List, [], ◌∷◌, map, Option, Some, None, ℤ}
use Rattle.std.specs.Int.{w32, int_wrap}
use Rattle.psy_arith.specs.declared.operators.Trap.{Trap}
use Rattle.psy_arith.specs.declared.operators.Trap.TheVariants as trap
use Rattle.psy_arith.specs.Operators.{is_zero}
use Rattle.psy_code.specs.declared.look.Sent.{Sent}
use Rattle.psy_code.specs.Views.{Send}
use Rattle.psy_code.specs.Execution.{index_in}
use Rattle.psy_tree.specs.declared.unit.Expr.{Expr}
use Rattle.psy_tree.specs.declared.unit.Stmt.{Stmt, roll-Stmt, fold-roll-Stmt, rec-roll-Stmt, map-Stmt, ind-Stmt}
use Rattle.psy_tree.specs.declared.unit.Stmt.TheOpen.{Stmt-F}
use Rattle.psy_meaning.specs.States.{State, Ended, Trapped, Got, Value, Stops, Outcome, Falls, Returns, Halts, Eval, Act, Callee, with_value, then_do, cost_1, asking, trapping, or_halt, cells_at, with_slot, with_copy_at}
use Rattle.psy_meaning.specs.Expressions.{eval}
use Rattle.psy_meaning.specs.Statements.{all_of, choose, hop, turns, set_element, stmt_step, act_by, acts_by, Piece, Do, Hop, piece_by}
use Rattle.psy_meaning.specs.Ways.{Meter, Sending, Way, Course, Fell, Back, To, here, one, both, sending, sending_of, falling, returning, behind, and_on, or_else, courses_through, turning, course_step, course_by, expr_way, piece_course}
use Rattle.psy_meaning.proofs.Fronts.{FrontIn, Open, Leads, front_same, front_one, front_both, front_falling, front_behind, front_left, front_right, front_on, open_one, open_sending, open_both, leads_falling, leads_returning, leads_behind, leads_left, leads_on}
use Rattle.psy_meaning.proofs.lemmas.Layers.{natural_stmt}
use Rattle.psy_meaning.proofs.OpenWays.{two, open_two, open_expr, leads_turning, leads_stmts, leads_pieces}
use Rattle.psy_meaning.proofs.Runs.{met, GotBy, Along, AllAlong, along}

-- The outcome was come to by a way of this course, or a trap on one.
abbrev pub OutBy : Course → Meter → Outcome → Type 0
OutBy course m (Falls t) = course Fell m (met t)
OutBy course m (Returns v t) = course Back m (met t)
OutBy course m (Halts (Ended point t)) = course (To point) m (met t)
OutBy course m (Halts (Trapped kind t)) = FrontIn course m (met t)

abbrev pub ActsAlong : Act → Course → Type 0
ActsAlong act course = (s : State) → OutBy course (met s) (act s)

-- ---- one after the other

out_further : (way : Way) (m n : Meter) (course : Course) (o : Outcome) → way m n → OutBy course n o → OutBy (behind way course) m o
out_further way m n course (Falls t) w g = (n, w, g)
out_further way m n course (Returns v t) w g = (n, w, g)
out_further way m n course (Halts (Ended point t)) w g = (n, w, g)
out_further way m n course (Halts (Trapped kind t)) w (end, k, q, f) = (end, k, (n, w, q), f)

out_together : (a b : Way) (course : Course) (m : Meter) (o : Outcome) → OutBy (behind a (behind b course)) m o → OutBy (behind (both a b) course) m o
out_together a b course m (Falls t) (n, p, (k, q, r)) = (k, (n, p, q), r)
out_together a b course m (Returns v t) (n, p, (k, q, r)) = (k, (n, p, q), r)
out_together a b course m (Halts (Ended point t)) (n, p, (k, q, r)) = (k, (n, p, q), r)
out_together a b course m (Halts (Trapped kind t)) (end, k, (n, p, (h, q, r)), f) = (end, k, (h, (n, p, q), r), f)

out_falling : (a b : Way) (m : Meter) (o : Outcome) → OutBy (behind a (falling b)) m o → OutBy (falling (both a b)) m o
out_falling a b m (Falls t) g = g
out_falling a b m (Returns v t) (n, p, e) = e
out_falling a b m (Halts (Ended point t)) (n, p, e) = e
out_falling a b m (Halts (Trapped kind t)) (Fell, k, w, f) = (Fell, k, w, f)
out_falling a b m (Halts (Trapped kind t)) (Back, k, (n, p, e), f) = elim e [ ]
out_falling a b m (Halts (Trapped kind t)) (To point, k, (n, p, e), f) = elim e [ ]

out_returning : (a b : Way) (m : Meter) (o : Outcome) → OutBy (behind a (returning b)) m o → OutBy (returning (both a b)) m o
out_returning a b m (Falls t) (n, p, e) = e
out_returning a b m (Returns v t) g = g
out_returning a b m (Halts (Ended point t)) (n, p, e) = e
out_returning a b m (Halts (Trapped kind t)) (Back, k, w, f) = (Back, k, w, f)
out_returning a b m (Halts (Trapped kind t)) (Fell, k, (n, p, e), f) = elim e [ ]
out_returning a b m (Halts (Trapped kind t)) (To point, k, (n, p, e), f) = elim e [ ]

out_left : (this that : Course) (m : Meter) (o : Outcome) → OutBy this m o → OutBy (or_else this that) m o
out_left this that m (Falls t) g = inl g
out_left this that m (Returns v t) g = inl g
out_left this that m (Halts (Ended point t)) g = inl g
out_left this that m (Halts (Trapped kind t)) g = front_left this that m (met t) g

out_right : (this that : Course) (m : Meter) (o : Outcome) → OutBy that m o → OutBy (or_else this that) m o
out_right this that m (Falls t) g = inr g
out_right this that m (Returns v t) g = inr g
out_right this that m (Halts (Ended point t)) g = inr g
out_right this that m (Halts (Trapped kind t)) g = front_right this that m (met t) g

out_value : (way : Way) (course : Course) (m : Meter) (got : Got) (go : ℤ → State → Outcome) → Leads course → GotBy way m got → ((v : ℤ) (t : State) → OutBy course (met t) (go v t)) → OutBy (behind way course) m (with_value got go)
out_value way course m (Value v t) go p g h = out_further way m (met t) course (go v t) g (h v t)
out_value way course m (Stops (Trapped kind t)) go p g h = front_behind way course m (met t) g p
out_value way course m (Stops (Ended point t)) go p g h = elim g [ ]

out_fell : (first second : Course) (m n : Meter) (o : Outcome) → first Fell m n → OutBy second n o → OutBy (and_on first second) m o
out_fell first second m n (Falls t) f g = inl (n, f, g)
out_fell first second m n (Returns v t) f g = inl (n, f, g)
out_fell first second m n (Halts (Ended point t)) f g = inl (n, f, g)
out_fell first second m n (Halts (Trapped kind t)) w (end, k, q, f) = (end, k, inl (n, w, q), f)

out_then : (first second : Course) (m : Meter) (o : Outcome) (go : Act) → Leads second → OutBy first m o → ActsAlong go second → OutBy (and_on first second) m (then_do o go)
out_then first second m (Falls t) go p g h = out_fell first second m (met t) (go t) g (h t)
out_then first second m (Returns v t) go p g h = inr g
out_then first second m (Halts (Ended point t)) go p g h = inr g
out_then first second m (Halts (Trapped kind t)) go p g h = front_on first second m (met t) g p

out_or_halt : {A : Type 0} (kind : Trap) (found : Option A) (s : State) (go : A → Outcome) → ((x : A) → OutBy (falling one) (met s) (go x)) → OutBy (falling one) (met s) (or_halt kind found s go)
out_or_halt kind None s go h = let t = cost_1 s in (Fell, met t, refl, front_same (met t))
out_or_halt kind (Some x) s go h = h x

-- ---- tests and turns

choice : (b : Bool) (this that : Course) (m : Meter) (o p : Outcome) → OutBy that m o → OutBy this m p → OutBy (or_else this that) m (if b then o else p)
choice true this that m o p g h = out_right this that m o g
choice false this that m o p g h = out_left this that m p h

choose_along : (test : Eval) (way : Way) (holds fails : Act) (this that : Course) → Leads this → Along test way → ActsAlong holds this → ActsAlong fails that → ActsAlong (choose test holds fails) (behind (both way one) (or_else this that))
choose_along test way holds fails this that leads p g h s =
    out_together way one (or_else this that) (met s) (choose test holds fails s)
    (out_value way (behind one (or_else this that)) (met s) (test s) _ (leads_behind one (or_else this that) open_one (leads_left this that leads)) (p s)
    (λ v t. out_further one (met t) (met (cost_1 t)) (or_else this that) (if is_zero v then fails (cost_1 t) else holds (cost_1 t)) refl
    (choice (is_zero v) this that (met (cost_1 t)) (fails (cost_1 t)) (holds (cost_1 t)) (h (cost_1 t)) (g (cost_1 t)))))

abbrev cost_2 : State → State
cost_2 t = cost_1 (cost_1 t)

two_on : (t : State) → two (met t) (met (cost_2 t))
two_on t = (met (cost_1 t), refl, refl)

last_test : (b : Bool) (t : State) → OutBy (falling two) (met t) (if b then Falls (cost_2 t) else Halts (trapping trap.Loop t))
last_test true t = two_on t
last_test false t = (Fell, met (cost_2 t), two_on t, front_one (met (cost_1 t)))

abbrev turn : Way → Course → Course → Course
turn way body more = or_else (falling (both way two)) (behind (both way two) (and_on body (behind one more)))

test_along : (b : Bool) (way : Way) (body : Act) (course more : Course) (m : Meter) (t : State) (go : Act) → Leads more → way m (met t) → ActsAlong body course → ActsAlong go more → OutBy (turn way course more) m (if b then Falls (cost_2 t) else then_do (body (cost_2 t)) (λ u. go (cost_1 u)))
test_along true way body course more m t go p w g h = inl (met t, w, two_on t)
test_along false way body course more m t go p w g h =
    let o : Outcome = then_do (body (cost_2 t)) (λ u. go (cost_1 u)) in
    out_right (falling (both way two)) (behind (both way two) (and_on course (behind one more))) m o
    (out_further (both way two) m (met (cost_2 t)) (and_on course (behind one more)) o (met t, w, two_on t)
    (out_then course (behind one more) (met (cost_2 t)) (body (cost_2 t)) (λ u. go (cost_1 u)) (leads_behind one more open_one p) (g (cost_2 t)) (λ u. out_further one (met u) (met (cost_1 u)) more (go (cost_1 u)) refl (h (cost_1 u)))))

turn_along : (way : Way) (body : Act) (course more : Course) (m : Meter) (got : Got) (go : Act) → Leads more → GotBy way m got → ActsAlong body course → ActsAlong go more → OutBy (turn way course more) m (with_value got (λ v t. if is_zero v then Falls (cost_2 t) else then_do (body (cost_2 t)) (λ u. go (cost_1 u))))
turn_along way body course more m (Value v t) go p w g h = test_along (is_zero v) way body course more m t go p w g h
turn_along way body course more m (Stops (Trapped kind t)) go p w g h =
    front_left (falling (both way two)) (behind (both way two) (and_on course (behind one more))) m (met t) (front_falling (both way two) m (met t) (front_both way two m (met t) w open_two))
turn_along way body course more m (Stops (Ended point t)) go p w g h = elim w [ ]

turns_along : (most : ℕ) (test : Eval) (way : Way) (body : Act) (course : Course) → Open way → Along test way → ActsAlong body course → ActsAlong (turns most test body) (turning most way course)
turns_along zero test way body course o p g s = out_falling way two (met s) (turns zero test body s) (out_value way (falling two) (met s) (test s) _ (leads_falling two open_two) (p s) (λ v t. last_test (is_zero v) t))
turns_along (suc more) test way body course o p g s = turn_along way body course (turning more way course) (met s) (test s) (turns more test body) (leads_turning more way course o) (p s) g (turns_along more test way body course o p g)

-- ---- statements

module _ (callees : ℕ → Callee) (ways : ℕ → Way) (all : AllAlong callees ways) where
  abbrev P : Stmt → Type 0
  P stmt = ActsAlong (act_by callees stmt) (course_by ways stmt)

  abbrev Known : Type 0
  Known = (stmt : Stmt) × P stmt

  abbrev tree : Known → Stmt
  tree k = k.0

  known : (e : Expr) → Along (eval callees e) (expr_way ways e)
  known = along callees ways all

  opens : (number : ℕ) → Open (ways number)
  opens number = (all number).0

  goes : (e : Expr) → Open (expr_way ways e)
  goes = open_expr ways opens

  leads : (stmts : List Stmt) → Leads (courses_through (course_by ways) stmts)
  leads = leads_stmts ways opens

  all_along : (ks : List Known) → ActsAlong (all_of (map (act_by callees) (map tree ks))) (courses_through (course_by ways) (map tree ks))
  all_along [] s = refl
  all_along (k ∷ ks) s = out_then (course_by ways k.0) (courses_through (course_by ways) (map tree ks)) (met s) (act_by callees k.0 s) _ (leads (map tree ks)) (k.1 s) (all_along ks)

  -- a value, and one instruction that falls through
  valued : (e : Expr) (go : ℤ → State → State) → ((v : ℤ) (t : State) → one (met t) (met (go v t))) → (s : State) → OutBy (falling (both (expr_way ways e) one)) (met s) (with_value (eval callees e s) (λ v t. Falls (go v t)))
  valued e go h s = out_falling (expr_way ways e) one (met s) (with_value (eval callees e s) (λ v t. Falls (go v t))) (out_value (expr_way ways e) (falling one) (met s) (eval callees e s) _ (leads_falling one open_one) (known e s) h)

  set_element_along : (slot : ℕ) (index v : ℤ) (s : State) → OutBy (falling one) (met s) (set_element slot index v s)
  set_element_along slot index v s = out_or_halt trap.Index (index_in (length (cells_at s.store slot)) index) s (λ i. Falls (with_slot slot i v (cost_1 s))) (λ i. refl)

  set_cell_along : (slot : ℕ) (index value : Expr) (s : State) → OutBy (falling (both (expr_way ways index) (both (expr_way ways value) one))) (met s) (with_value (eval callees index s) (λ i t. with_value (eval callees value t) (λ v u. set_element slot i v u)))
  set_cell_along slot index value s =
      out_falling (expr_way ways index) (both (expr_way ways value) one) (met s) _
      (out_value (expr_way ways index) (falling (both (expr_way ways value) one)) (met s) (eval callees index s) _ (leads_falling (both (expr_way ways value) one) (open_both (expr_way ways value) one (goes value) open_one)) (known index s)
      (λ i t. out_falling (expr_way ways value) one (met t) _ (out_value (expr_way ways value) (falling one) (met t) (eval callees value t) _ (leads_falling one open_one) (known value t) (λ v u. set_element_along slot i v u))))

  sent_along : (sent : Sent) (s : State) → sending (sending_of sent) (met s) (met (asking (Send sent) s))
  sent_along sent s = ap (λ sends. record { steps = s.deeds.steps + 1; looks = s.deeds.looks; sends = sends }) (map-append sending_of s.deeds.sends (sent ∷ []))

  step_along : (y : Stmt-F Known) → ActsAlong (stmt_step callees (map-Stmt Stmt Act (act_by callees) (map-Stmt Known Stmt tree y))) (course_step ways Stmt (λ y. y) (course_by ways) (map-Stmt Known Stmt tree y))
  step_along (Stmt-F.Set slot value) s = valued value (λ v t. with_slot slot 0 v (cost_1 t)) (λ v t. refl) s
  step_along (Stmt-F.SetCopy variable value) s = valued value (λ v t. with_copy_at variable (int_wrap w32 v) (cost_1 t)) (λ v t. refl) s
  step_along (Stmt-F.SetCell slot index value) s = set_cell_along slot index value s
  step_along (Stmt-F.If test branch None) s = choose_along (eval callees test) (expr_way ways test) _ Falls (courses_through (course_by ways) (map tree branch)) (falling here) (leads (map tree branch)) (known test) (all_along branch) (λ t. refl) s
  step_along (Stmt-F.If test branch (Some other)) s =
      choose_along (eval callees test) (expr_way ways test) _ _ (and_on (courses_through (course_by ways) (map tree branch)) (falling one)) (courses_through (course_by ways) (map tree other))
      (leads_on (courses_through (course_by ways) (map tree branch)) (falling one) (leads (map tree branch)) (leads_falling one open_one)) (known test)
      (λ t. out_then (courses_through (course_by ways) (map tree branch)) (falling one) (met t) (all_of (map (act_by callees) (map tree branch)) t) hop (leads_falling one open_one) (all_along branch t) (λ u. refl)) (all_along other) s
  step_along (Stmt-F.Bounded test most body) s =
      out_further one (met s) (met (cost_1 s)) (turning most (expr_way ways test) (courses_through (course_by ways) (map tree body))) (turns most (eval callees test) (all_of (map (act_by callees) (map tree body))) (cost_1 s)) refl
      (turns_along most (eval callees test) (expr_way ways test) (all_of (map (act_by callees) (map tree body))) (courses_through (course_by ways) (map tree body)) (goes test) (known test) (all_along body) (cost_1 s))
  step_along (Stmt-F.Timed test body) s = choose_along (eval callees test) (expr_way ways test) _ Falls (courses_through (course_by ways) (map tree body)) (falling here) (leads (map tree body)) (known test) (all_along body) (λ t. refl) s
  step_along (Stmt-F.Send value stream after clock) s =
      let send : Sending = record { stream = stream; after = after; clock = clock } in
      out_falling (expr_way ways value) (sending send) (met s) _
      (out_value (expr_way ways value) (falling (sending send)) (met s) (eval callees value s) _ (leads_falling (sending send) (open_sending send)) (known value s) (λ v t. sent_along (record { stream = stream; value = int_wrap w32 v; after = after; clock = clock }) t))
  step_along (Stmt-F.Advance point) s = (refl, refl)
  step_along (Stmt-F.Return value) s =
      out_returning (expr_way ways value) one (met s) _ (out_value (expr_way ways value) (returning one) (met s) (eval callees value s) _ (leads_returning one open_one) (known value s) (λ v t. refl))

  layer : (y : Stmt-F Known) → P (roll-Stmt (map-Stmt Known Stmt tree y))
  layer y =
      let x : Stmt-F Stmt = map-Stmt Known Stmt tree y in
      subst (λ a. ActsAlong a (course_by ways (roll-Stmt x))) (sym (fold-roll-Stmt Act (stmt_step callees) x))
      (subst (λ c. ActsAlong (stmt_step callees (map-Stmt Stmt Act (act_by callees) x)) c) (sym (rec-roll-Stmt Course (course_step ways) (natural_stmt ways) x)) (step_along y))

  pub act_along : (stmt : Stmt) → P stmt
  act_along = ind-Stmt P (λ x y is. subst (λ z. P (roll-Stmt z)) is (layer y))

  pub acts_along : (stmts : List Stmt) → ActsAlong (acts_by callees stmts) (courses_through (course_by ways) stmts)
  acts_along [] s = refl
  acts_along (x ∷ xs) s = out_then (course_by ways x) (courses_through (course_by ways) xs) (met s) (act_by callees x s) _ (leads xs) (act_along x s) (acts_along xs)

  pub pieces_along : (pieces : List Piece) → ActsAlong (all_of (map (piece_by callees) pieces)) (courses_through (piece_course ways) pieces)
  pieces_along [] s = refl
  pieces_along (Do x ∷ xs) s = out_then (course_by ways x) (courses_through (piece_course ways) xs) (met s) (act_by callees x s) _ (leads_pieces ways opens xs) (act_along x s) (pieces_along xs)
  pieces_along (Hop ∷ xs) s = out_then (falling one) (courses_through (piece_course ways) xs) (met s) (hop s) _ (leads_pieces ways opens xs) refl (pieces_along xs)
