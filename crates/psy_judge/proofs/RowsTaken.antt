-- Rows of tops while heights are taken on along the ways of an owner.
use Rattle.std.proofs.Common.{◌≡◌, ◌⊎◌, ℕ, zero, suc, ◌+◌, ◌-◌, ◌<◌, ◌≤◌, Bool, true, false, ◌||◌, if◌then◌else◌, List, [], ◌∷◌, ◌++◌, length, get_or, Some, refl, sym, ap, subst, ◌∙◌, inl, inr, arith, get_or-set_other, get_or-set_same}
use Rattle.std.specs.Prelude.{Option, None, nat_eq, nat_lt, slice_get, slice_set}
use Rattle.std.specs.List.{Contains}
use Rattle.std.proofs.lemmas.Bool.{cases_lt, false≢true}
use Rattle.std.proofs.lemmas.List.{get_or_default, get_or_past, length-set}
use Rattle.std.proofs.lemmas.List.Sums.{sum_by-cons}
use Rattle.std.proofs.lemmas.Option.{same_Some, slice_get_within}
use Rattle.psy_lists.proofs.lemmas.Tests.{or_right}
use Rattle.psy_code.specs.declared.code.Code.{Code}
use Rattle.psy_code.specs.declared.instr.Instr.{Instr}
use Rattle.psy_meaning.specs.CodeWays.{GoesOn, first, later}
use Rattle.psy_flow.specs.Owners.{IsReached, Owner}
use Rattle.psy_flow.specs.Heights.{IsAmong, IsHeight, Shift, at_start, moved, shifts}
use Rattle.psy_flow.proofs.lemmas.Shifted.{shift_goes}
use Rattle.psy_judge.specs.declared.heights.Top.{Top}
use Rattle.psy_judge.specs.declared.heights.Top.TheVariants as top
use Rattle.psy_judge.specs.declared.steps.Step.{Step}
use Rattle.psy_judge.specs.declared.steps.Steps.{Steps}
use Rattle.psy_judge.specs.Walked.{ArePassedFrom}
use Rattle.psy_judge.specs.Highest.{AreFound, AreSmall, AreStarts, AreTops, Covers, IsClosedAt, IsCourse, IsEmpty, IsFound, IsSmall, begun_at, followed, followed_some, follows, follows_some, joined_all, rises, room_in, room_of, shift_of, shifts_of, taken_to, top_at}
use Rattle.psy_judge.specs.Highest as highest
use Rattle.psy_judge.proofs.JudgedBools.{fails, holds, judge_eq, judge_lt, known, or_left}
use Rattle.psy_judge.proofs.Pumping.{endless, pushes_few}
use Rattle.psy_judge.proofs.TopsJoined.{IsInOrder, all_found, all_keeps, all_less, all_small, covered_all, moved_covers, moved_found, moved_order, small_order}

-- ---- one cell

-- What holds of each cell holds after one was set, where it holds of that.
pub set_each : (P : ℕ → Top → Type 0) (row : List Top) (to : ℕ) (t : Top) → to < length row → ((p : ℕ) → P p (top_at row p)) → P to t → (p : ℕ) → P p (top_at (slice_set row to t) p)
set_each P row to t less each here p = elim (known (nat_eq p to) (judge_eq p to)) [
  | inl same ↦ subst (λ q. P q (top_at (slice_set row to t) q)) (sym same) (subst (P to) (sym (get_or-set_same row to t top.Nothing less)) here)
  | inr other ↦ subst (P p) (sym (get_or-set_other row to p t top.Nothing other)) (each p)
]

pub room_set : (m : ℕ) (row : List Top) (to : ℕ) (t : Top) → to < length row → room_in m t < room_in m (top_at row to) → room_of m (slice_set row to t) < room_of m row
room_set m [] to t less low = absurd (omega (arith, less))
room_set m (x ∷ row) zero t less low = omega (arith, low, sum_by-cons (room_in m) t row, sum_by-cons (room_in m) x row)
room_set m (x ∷ row) (suc to) t less low =
    omega (arith, room_set m row to t (omega (arith, less)) low, sum_by-cons (room_in m) x (slice_set row to t), sum_by-cons (room_in m) x row)

pub length-taken : (row : List Top) (to : ℕ) (t : Top) → length (taken_to row to t) ≡ length row
length-taken row to t = by (rises (top_at row to) t)
  where
    by : (c : Bool) → length (if c then slice_set row to (joined_all (length row) (top_at row to) t) else row) ≡ length row
    by true = length-set row to (joined_all (length row) (top_at row to) t)
    by false = refl

small_taken : (row : List Top) (to : ℕ) (t : Top) → to < length row → AreSmall (length row) row → AreSmall (length row) (taken_to row to t)
small_taken row to t less small = by (rises (top_at row to) t)
  where
    by : (c : Bool) → AreSmall (length row) (if c then slice_set row to (joined_all (length row) (top_at row to) t) else row)
    by true = set_each (λ p u. IsSmall (length row) u) row to (joined_all (length row) (top_at row to) t) less small (all_small (length row) (top_at row to) t (small to))
    by false = small

pub length-followed : (row : List Top) (t : Top) (o : Option Step) → length (followed_some row t o) ≡ length row
length-followed row t None = refl
length-followed row t (Some step) = by (nat_lt step.to (length row))
  where
    by : (c : Bool) → length (if c then taken_to row step.to (highest.moved t step.pops step.pushes) else row) ≡ length row
    by true = length-taken row step.to (highest.moved t step.pops step.pushes)
    by false = refl

small_followed : (row : List Top) (t : Top) (o : Option Step) → AreSmall (length row) row → AreSmall (length row) (followed_some row t o)
small_followed row t None small = small
small_followed row t (Some step) small = by (nat_lt step.to (length row)) refl
  where
    by : (c : Bool) → nat_lt step.to (length row) ≡ c → AreSmall (length row) (if c then taken_to row step.to (highest.moved t step.pops step.pushes) else row)
    by true e = small_taken row step.to (highest.moved t step.pops step.pushes) (holds (nat_lt step.to (length row)) (judge_lt step.to (length row)) e) small
    by false e = small

-- The same for rows of so many cells
pub small_on : (n : ℕ) (row : List Top) (t : Top) (o : Option Step) → length row ≡ n → AreSmall n row → AreSmall n (followed_some row t o)
small_on n row t o e small = subst (λ m. AreSmall m (followed_some row t o)) e (small_followed row t o (subst (λ m. AreSmall m row) (sym e) small))

pub count_visited : (n : ℕ) (row mid after : List Top) (t : Top) (on : Steps) → length row ≡ n → mid ≡ followed_some row t on.next → after ≡ followed_some mid t on.jump → length after ≡ n
count_visited n row mid after t on same is_mid is_after =
    ap length is_after ∙ length-followed mid t on.jump ∙ ap length is_mid ∙ length-followed row t on.next ∙ same

pub small_visited : (n : ℕ) (row mid after : List Top) (t : Top) (on : Steps) → length row ≡ n → AreSmall n row → mid ≡ followed_some row t on.next → after ≡ followed_some mid t on.jump → AreSmall n after
small_visited n row mid after t on same small is_mid is_after =
    let mid_small : AreSmall n mid = subst (λ (r : List Top). AreSmall n r) (sym is_mid) (small_on n row t on.next same small) in
    subst (λ (r : List Top). AreSmall n r) (sym is_after) (small_on n mid t on.jump (ap length is_mid ∙ length-followed row t on.next ∙ same) mid_small)

pub or_is_left : (a b : Bool) → a ≡ true → (a || b) ≡ a
or_is_left a b e = ap (λ (x : Bool). x || b) e ∙ sym e

pub or_is_right : (a b : Bool) → a ≡ false → (a || b) ≡ b
or_is_right a b e = ap (λ (x : Bool). x || b) e

-- ---- ways on

pub among_two : (s : Shift) (xs ys : List Shift) → IsAmong s (xs ++ ys) → IsAmong s xs ⊎ IsAmong s ys
among_two s [] ys h = inr h
among_two s (x ∷ xs) ys (inl e) = inl (inl e)
among_two s (x ∷ xs) ys (inr h) = elim (among_two s xs ys h) [ inl k ↦ inl (inr k) | inr k ↦ inr k ]

pub among_left : (s : Shift) (xs ys : List Shift) → IsAmong s xs → IsAmong s (xs ++ ys)
among_left s [] ys h = absurd h
among_left s (x ∷ xs) ys (inl e) = inl e
among_left s (x ∷ xs) ys (inr h) = inr (among_left s xs ys h)

pub among_right : (s : Shift) (xs ys : List Shift) → IsAmong s ys → IsAmong s (xs ++ ys)
among_right s [] ys h = h
among_right s (x ∷ xs) ys h = inr (among_right s xs ys h)

pub step_among : (step : Step) (o : Option Step) → o ≡ Some step → IsAmong (record { to = step.to; pops = step.pops; pushes = step.pushes }) (shift_of o)
step_among step o e = subst (λ (p : Option Step). IsAmong (record { to = step.to; pops = step.pops; pushes = step.pushes }) (shift_of p)) (sym e) (inl refl)

-- What is pushed on a way that the program found is little.
pub step_few : (code : Code) (place : ℕ) (i : Instr) (on : Steps) → shifts_of on ≡ shifts code place i → (step : Step) → (Some step ≡ on.next) ⊎ (Some step ≡ on.jump) → step.pushes ≤ 1
step_few code place i on same step (inl e) =
    pushes_few code place i (record { to = step.to; pops = step.pops; pushes = step.pushes })
    (subst (IsAmong (record { to = step.to; pops = step.pops; pushes = step.pushes })) same (among_left _ (shift_of on.next) (shift_of on.jump) (step_among step on.next (sym e))))
step_few code place i on same step (inr e) =
    pushes_few code place i (record { to = step.to; pops = step.pops; pushes = step.pushes })
    (subst (IsAmong (record { to = step.to; pops = step.pops; pushes = step.pushes })) same (among_right _ (shift_of on.next) (shift_of on.jump) (step_among step on.jump (sym e))))

-- ---- courses

module _ (code : Code) (owner : Owner) where
  abbrev instr_count : ℕ
  instr_count = length code.instrs

  abbrev Course : (List Top → Type 0) → List Top → List Top → Bool → Type 0
  Course = IsCourse code owner

  pub course_if : (Closed Also : List Top → Type 0) (before after : List Top) (rose : Bool) → Course Closed before after rose → (Closed after → Also after) → Course Also before after rose
  course_if Closed Also before after rose is on = record {
    found = is.found;
    kept = is.kept;
    same = is.same;
    room = is.room;
    closed = λ e. on (is.closed e);
  }

  -- One course behind the other
  pub course_then : (Closed Also : List Top → Type 0) (before mid after : List Top) (a b : Bool) → Course Closed before mid a → Course Also mid after b
      → Course (λ row. Closed row × Also row) before after (a || b)
  course_then Closed Also before mid after a b one other = record {
    found = other.found;
    kept = λ p h has. other.kept p h (one.kept p h has);
    same = λ e. other.same (or_right a b e) ∙ one.same (or_left a b e);
    room = rooms a b refl refl;
    closed = λ e. (subst Closed (sym (other.same (or_right a b e))) (one.closed (or_left a b e)), other.closed (or_right a b e));
  }
    where
      rooms : (c d : Bool) → a ≡ c → b ≡ d → (c || d) ≡ true → room_of instr_count after < room_of instr_count before
      rooms true true p q h = omega (arith, one.room p, other.room q)
      rooms true false p q h = omega (arith, one.room p, ap (room_of instr_count) (other.same q))
      rooms false true p q h = omega (arith, ap (room_of instr_count) (one.same p), other.room q)
      rooms false false p q h = absurd (false≢true h)

  pub course_none : (Closed : List Top → Type 0) (row : List Top) → AreFound code owner row → Closed row → Course Closed row row false
  course_none Closed row found closed = record {
    found = found;
    kept = λ p h has. has;
    same = λ e. refl;
    room = λ e. absurd (false≢true e);
    closed = λ e. closed;
  }

  -- What a top covers is covered at the place.
  abbrev CoversAll : ℕ → Top → List Top → Type 0
  CoversAll to y after = (h : ℕ) → Covers y h → Covers (top_at after to) h

  taken_course : (row : List Top) (to : ℕ) (y : Top) → length row ≡ instr_count → to < length row → AreSmall instr_count row → AreFound code owner row
      → IsFound (IsHeight code owner to) y → IsInOrder y → Course (CoversAll to y) row (taken_to row to y) (rises (top_at row to) y)
  taken_course row to y same less small found has order = by (rises (top_at row to) y) refl
    where
      keeps : (p h : ℕ) → Covers (top_at row p) h → Covers (top_at (slice_set row to (joined_all instr_count (top_at row to) y)) p) h
      keeps p h =
          set_each (λ q u. Covers (top_at row q) h → Covers u h) row to (joined_all instr_count (top_at row to) y) less (λ q c. c) (λ c. all_keeps instr_count (top_at row to) y h (small to) c) p

      by : (c : Bool) → rises (top_at row to) y ≡ c → Course (CoversAll to y) row (if c then slice_set row to (joined_all (length row) (top_at row to) y) else row) c
      by true e =
          subst (λ m. Course (CoversAll to y) row (slice_set row to (joined_all m (top_at row to) y)) true) (sym same) (record {
            found =
                set_each (λ p u. IsFound (IsHeight code owner p) u) row to (joined_all instr_count (top_at row to) y) less found
                (all_found instr_count (IsHeight code owner to) (endless code owner to) (top_at row to) y (found to) has);
            kept = keeps;
            same = λ d. absurd (false≢true (sym d));
            room = λ d. room_set instr_count row to (joined_all instr_count (top_at row to) y) less (all_less instr_count (top_at row to) y (small to) e);
            closed = λ d. absurd (false≢true (sym d));
          })
      by false e = record {
        found = found;
        kept = λ p h c. c;
        same = λ d. refl;
        room = λ d. absurd (false≢true d);
        closed = λ d. covered_all (top_at row to) y (small_order instr_count (top_at row to) (small to)) order e;
      }

  -- What is covered behind a way on, unless it leaves the code
  abbrev IsTaken : Top → Shift → List Top → Type 0
  IsTaken t shift after = (h : ℕ) → Covers t h → shift.pops ≤ h → shift.to < instr_count → Covers (top_at after shift.to) (h - shift.pops + shift.pushes)

  -- The owner's heights go on along the way.
  abbrev GoesAlong : (ℕ → Type 0) → Shift → Type 0
  GoesAlong Has shift = (h : ℕ) → Has h → shift.pops ≤ h → IsHeight code owner shift.to (h - shift.pops + shift.pushes)

  -- The way on as the program found it
  abbrev way : Step → Shift
  way step = record { to = step.to; pops = step.pops; pushes = step.pushes }

  follow_course : (Has : ℕ → Type 0) (row : List Top) (t : Top) (step : Step) → length row ≡ instr_count → AreSmall instr_count row → AreFound code owner row → IsFound Has t → IsInOrder t
      → GoesAlong Has (way step) → Course (IsTaken t (way step)) row (followed row t step) (follows row t step)
  follow_course Has row t step same small found has order on = by (nat_lt step.to (length row)) refl
    where
      by : (c : Bool) → nat_lt step.to (length row) ≡ c
          → Course (IsTaken t (way step)) row (if c then taken_to row step.to (highest.moved t step.pops step.pushes) else row)
          (if c then rises (top_at row step.to) (highest.moved t step.pops step.pushes) else false)
      by true e =
          course_if (CoversAll step.to (highest.moved t step.pops step.pushes)) (IsTaken t (way step)) row (taken_to row step.to (highest.moved t step.pops step.pushes))
          (rises (top_at row step.to) (highest.moved t step.pops step.pushes))
          (taken_course row step.to (highest.moved t step.pops step.pushes) same (holds (nat_lt step.to (length row)) (judge_lt step.to (length row)) e) small found
          (moved_found step.pops step.pushes Has (IsHeight code owner step.to) on t has) (moved_order step.pops step.pushes t order))
          (λ all h c low within. all (h - step.pops + step.pushes) (moved_covers step.pops step.pushes t h order c low))
      by false e =
          course_none (IsTaken t (way step)) row found
          (λ h c low within. absurd (fails (nat_lt step.to (length row)) (judge_lt step.to (length row)) e (omega (arith, within, same))))

  -- What is covered behind all ways on from a list
  abbrev AreAllTaken : Top → List Shift → List Top → Type 0
  AreAllTaken t shifts after = (shift : Shift) → IsAmong shift shifts → IsTaken t shift after

  one_taken : (t : Top) (step : Step) (after : List Top) → IsTaken t (way step) after → AreAllTaken t (shift_of (Some step)) after
  one_taken t step after taken shift (inl e) = subst (λ (s : Shift). IsTaken t s after) (sym e) taken
  one_taken t step after taken shift (inr h) = absurd h

  some_course : (Has : ℕ → Type 0) (row : List Top) (t : Top) (o : Option Step) → length row ≡ instr_count → AreSmall instr_count row → AreFound code owner row → IsFound Has t → IsInOrder t
      → ((shift : Shift) → IsAmong shift (shift_of o) → GoesAlong Has shift)
      → Course (AreAllTaken t (shift_of o)) row (followed_some row t o) (follows_some row t o)
  some_course Has row t None same small found has order on = course_none (AreAllTaken t []) row found (λ shift h. absurd h)
  some_course Has row t (Some step) same small found has order on =
      course_if (IsTaken t (way step)) (AreAllTaken t (shift_of (Some step))) row (followed row t step) (follows row t step)
      (follow_course Has row t step same small found has order (on (way step) (inl refl)))
      (one_taken t step (followed row t step))

  module _ (row : List Top) (place : ℕ) (i : Instr) (on : Steps) (same : length row ≡ instr_count) (small : AreSmall instr_count row) (found : AreFound code owner row) (at : slice_get code.instrs place ≡ Some i)
      (steps : shifts_of on ≡ shifts code place i) where
    abbrev here : Top
    here = top_at row place

    abbrev mid : List Top
    mid = followed_some row here on.next

    along : (shift : Shift) → IsAmong shift (shifts_of on) → GoesAlong (IsHeight code owner place) shift
    along shift among h reached low =
        moved place shift.to h (h - shift.pops + shift.pushes) i reached at (shift, subst (IsAmong shift) steps among, refl, low, omega (arith, low))

    nexts : Course (AreAllTaken here (shift_of on.next)) row mid (follows_some row here on.next)
    nexts =
        some_course (IsHeight code owner place) row here on.next same small found (found place) (small_order instr_count here (small place))
        (λ shift among. along shift (among_left shift (shift_of on.next) (shift_of on.jump) among))

    jumps : Course (AreAllTaken here (shift_of on.jump)) mid (followed_some mid here on.jump) (follows_some mid here on.jump)
    jumps =
        some_course (IsHeight code owner place) mid here on.jump (length-followed row here on.next ∙ same) (small_on instr_count row here on.next same small) nexts.found (found place)
        (small_order instr_count here (small place)) (λ shift among. along shift (among_right shift (shift_of on.next) (shift_of on.jump) among))

    both : Course (λ r. AreAllTaken here (shift_of on.next) r × AreAllTaken here (shift_of on.jump) r) row (followed_some mid here on.jump) (follows_some row here on.next || follows_some mid here on.jump)
    both =
        course_then (AreAllTaken here (shift_of on.next)) (AreAllTaken here (shift_of on.jump)) row mid (followed_some mid here on.jump)
        (follows_some row here on.next) (follows_some mid here on.jump) nexts jumps

    closed_there : (after : List Top) → after ≡ row → AreAllTaken here (shift_of on.next) after → AreAllTaken here (shift_of on.jump) after → IsClosedAt code after place
    closed_there after e next jump j shift height there among covered low within =
        let same_instr : j ≡ i = same_Some j i (sym there ∙ at) in
        let old : Covers here height = subst (λ (r : List Top). Covers (top_at r place) height) e covered in
        elim (among_two shift (shift_of on.next) (shift_of on.jump) (subst (IsAmong shift) (sym steps) (subst (λ (k : Instr). IsAmong shift (shifts code place k)) same_instr among))) [
          | inl one ↦ next shift one height old low within
          | inr other ↦ jump shift other height old low within
        ]

    -- What a visit of a place makes of the row
    pub visit_course : Course (λ after. IsClosedAt code after place) row (followed_some mid here on.jump) (follows_some row here on.next || follows_some mid here on.jump)
    visit_course = record {
      found = both.found;
      kept = both.kept;
      same = both.same;
      room = both.room;
      closed = λ e. closed_there (followed_some mid here on.jump) (both.same e) (both.closed e).0 (both.closed e).1;
    }

    pub visit_small : AreSmall instr_count (followed_some mid here on.jump)
    visit_small = small_on instr_count mid here on.jump (length-followed row here on.next ∙ same) (small_on instr_count row here on.next same small)

    pub visit_count : length (followed_some mid here on.jump) ≡ instr_count
    visit_count = length-followed mid here on.jump ∙ length-followed row here on.next ∙ same

  -- The same, as the program says it
  pub visit_with : (row mid after : List Top) (place : ℕ) (i : Instr) (on : Steps) (t : Top) (a b : Bool) → length row ≡ instr_count → AreSmall instr_count row → AreFound code owner row
      → slice_get code.instrs place ≡ Some i → shifts_of on ≡ shifts code place i → t ≡ top_at row place
      → mid ≡ followed_some row t on.next → a ≡ follows_some row t on.next → after ≡ followed_some mid t on.jump → b ≡ follows_some mid t on.jump
      → Course (λ r. IsClosedAt code r place) row after (a || b)
  visit_with row mid after place i on t a b same small found at steps is_t is_mid is_a is_after is_b =
      subst (λ x. Course (λ r. IsClosedAt code r place) row after (a || x)) (sym is_b)
      (subst (λ x. Course (λ r. IsClosedAt code r place) row after (x || follows_some mid t on.jump)) (sym is_a)
      (subst (λ m. Course (λ r. IsClosedAt code r place) row m (follows_some row t on.next || follows_some mid t on.jump)) (sym is_after)
      (subst (λ (m : List Top). Course (λ r. IsClosedAt code r place) row (followed_some m t on.jump) (follows_some row t on.next || follows_some m t on.jump)) (sym is_mid)
      (subst (λ (u : Top). Course (λ r. IsClosedAt code r place) row (followed_some (followed_some row u on.next) u on.jump) (follows_some row u on.next || follows_some (followed_some row u on.next) u on.jump)) (sym is_t)
      (visit_course row place i on same small found at steps)))))

  -- ---- passes

  -- The places up to this one in the list are closed.
  abbrev pub AreClosedTo : List ℕ → ℕ → List Top → Type 0
  AreClosedTo places visited row = (k : ℕ) → k < visited → k < length places → IsClosedAt code row (get_or places k 0)

  pub passing_more : (places : List ℕ) (visited : ℕ) (before row after : List Top) (rose now : Bool) → Course (AreClosedTo places visited) before row rose
      → Course (λ r. IsClosedAt code r (get_or places visited 0)) row after now → Course (AreClosedTo places (visited + 1)) before after (rose || now)
  passing_more places visited before row after rose now all one =
      course_if (λ r. AreClosedTo places visited r × IsClosedAt code r (get_or places visited 0)) (AreClosedTo places (visited + 1)) before after (rose || now)
      (course_then (AreClosedTo places visited) (λ r. IsClosedAt code r (get_or places visited 0)) before row after rose now all one)
      (λ (done, here) k low less. elim (cases_lt k visited) [
        | inl under ↦ done k under less
        | inr not ↦ (let same : visited ≡ k = omega (arith, not, low) in subst (λ j. IsClosedAt code after (get_or places j 0)) same here)
      ])

  pub passing_all : (places : List ℕ) (visited : ℕ) (before row : List Top) (rose : Bool) → length places ≤ visited → Course (AreClosedTo places visited) before row rose
      → Course (λ r. (place : ℕ) → Contains places place → IsClosedAt code r place) before row rose
  passing_all places visited before row rose all is =
      course_if (AreClosedTo places visited) (λ r. (place : ℕ) → Contains places place → IsClosedAt code r place) before row rose is
      (λ closed place (k, less, same). subst (IsClosedAt code row) (get_or_default places k 0 place less ∙ same) (closed k (omega (arith, less, all)) less))

  -- ---- all places

  -- Where there is a height, a way comes.
  pub reached_at : (place height : ℕ) → IsHeight code owner place height → IsReached code owner place
  reached_at _ _ (at_start place begins) = (place, begins, first)
  reached_at _ _ (moved place next height after i reached at (shift, among, to, low, same)) =
      let (start, begins, passed) = reached_at place height reached in
      (start, begins, later place next i passed at (subst (GoesOn i place) (sym to) (shift_goes code place i shift among)))

  pub met_at : (starts places : List ℕ) → AreStarts code owner starts → ArePassedFrom code.instrs starts places → (place : ℕ) → place < instr_count → IsReached code owner place → Contains places place
  met_at starts places begins are place within (start, begun, passed) = (are.each place).1 (within, (start, (begins start).1 begun, passed))

  pub all_tops : (starts places : List ℕ) (row : List Top) → AreStarts code owner starts → ArePassedFrom code.instrs starts places → AreFound code owner row
      → ((place : ℕ) → Contains starts place → place < instr_count → Covers (top_at row place) 0)
      → ((place : ℕ) → Contains places place → IsClosedAt code row place) → AreTops code owner row
  all_tops starts places row begins are found begun closed = record { found = found; covered = λ place height within reached. covered place height reached within }
    where
      covered : (place height : ℕ) → IsHeight code owner place height → place < instr_count → Covers (top_at row place) height
      covered _ _ (at_start place start) within = begun place ((begins place).1 start) within
      covered _ _ (moved place next height after i reached at (shift, among, to, low, same)) within =
          let here : place < instr_count = slice_get_within code.instrs place i at in
          let on : Covers (top_at row shift.to) (height - shift.pops + shift.pushes) =
          closed place (met_at starts places begins are place here (reached_at place height reached)) i shift height at among (covered place height reached here) low (omega (arith, within, to)) in
          let there : Covers (top_at row next) (height - shift.pops + shift.pushes) = subst (λ p. Covers (top_at row p) (height - shift.pops + shift.pushes)) (sym to) on in
          let level : height - shift.pops + shift.pushes ≡ after = omega (arith, low, same) in
          subst (Covers (top_at row next)) level there

  -- Where a place has no height, or is none that is met
  pub nothing_or_met : (starts places : List ℕ) (row : List Top) → AreStarts code owner starts → ArePassedFrom code.instrs starts places → length row ≡ instr_count → AreFound code owner row
      → (place : ℕ) → (top_at row place ≡ top.Nothing) ⊎ Contains places place
  nothing_or_met starts places row begins are same found place = elim (cases_lt place instr_count) [
    | inl within ↦ by within (top_at row place) refl (found place)
    | inr past ↦ inl (get_or_past row place top.Nothing (omega (arith, past, same)))
  ]
    where
      met : place < instr_count → (height : ℕ) → IsHeight code owner place height → Contains places place
      met within height reached = met_at starts places begins are place within (reached_at place height reached)

      by : place < instr_count → (t : Top) → top_at row place ≡ t → IsFound (IsHeight code owner place) t → (top_at row place ≡ top.Nothing) ⊎ Contains places place
      by within top.Nothing e has = inl e
      by within (top.One a) e has = inr (met within a has)
      by within (top.Two a b) e has = inr (met within a has.0)
      by within top.Endless e has = inr (let (n, reached, more) = has 0 in met within n reached)

-- ---- begun, and emptied

-- So many starts have their height.
pub record AreBegun (count : ℕ) (starts : List ℕ) (done : ℕ) (row : List Top) : Type 0 where
  pub size : length row ≡ count
  pub each : (place : ℕ) → (top_at row place ≡ top.Nothing) ⊎ ((top_at row place ≡ top.One 0) × Contains starts place)
  pub begun : (k : ℕ) → k < done → k < length starts → get_or starts k 0 < count → top_at row (get_or starts k 0) ≡ top.One 0

pub begun_none : (count : ℕ) (starts : List ℕ) (row : List Top) → IsEmpty count row → AreBegun count starts 0 row
begun_none count starts row (size, empty) = record { size = size; each = λ place. inl (empty place); begun = λ k low less within. absurd (omega (arith, low)) }

pub begun_more : (count : ℕ) (starts : List ℕ) (done start : ℕ) (row : List Top) → AreBegun count starts done row → start ≡ get_or starts done 0 → Contains starts start → start < length row
    → AreBegun count starts (done + 1) (slice_set row start (top.One 0))
begun_more count starts done start row are is has less = record {
  size = length-set row start (top.One 0) ∙ are.size;
  each = set_each (λ p t. (t ≡ top.Nothing) ⊎ ((t ≡ top.One 0) × Contains starts p)) row start (top.One 0) less are.each (inr (refl, has));
  begun = λ k low less_k within. elim (cases_lt k done) [
    | inl under ↦ set_each (λ p t. p ≡ get_or starts k 0 → t ≡ top.One 0) row start (top.One 0) less
        (λ p e. ap (top_at row) e ∙ are.begun k under less_k within) (λ e. refl) (get_or starts k 0) refl
    | inr not ↦ (let same : k ≡ done = omega (arith, not, low) in
        ap (top_at (slice_set row start (top.One 0))) (ap (λ j. get_or starts j 0) same ∙ sym is) ∙ get_or-set_same row start (top.One 0) top.Nothing less)
  ];
}

pub begun_past : (count : ℕ) (starts : List ℕ) (done start : ℕ) (row : List Top) → AreBegun count starts done row → start ≡ get_or starts done 0 → length row ≤ start → AreBegun count starts (done + 1) row
begun_past count starts done start row are is past = record {
  size = are.size;
  each = are.each;
  begun = λ k low less within. elim (cases_lt k done) [
    | inl under ↦ are.begun k under less within
    | inr not ↦ (let same : k ≡ done = omega (arith, not, low) in
        let here : get_or starts k 0 ≡ start = ap (λ j. get_or starts j 0) same ∙ sym is in
        absurd (omega (arith, here, within, past, are.size)))
  ];
}

pub begun_step : (count : ℕ) (starts : List ℕ) (done start : ℕ) (row : List Top) → AreBegun count starts done row → start ≡ get_or starts done 0 → Contains starts start → AreBegun count starts (done + 1) (begun_at row start)
begun_step count starts done start row are is has = by (nat_lt start (length row)) refl
  where
    by : (c : Bool) → nat_lt start (length row) ≡ c → AreBegun count starts (done + 1) (if c then slice_set row start (top.One 0) else row)
    by true e = begun_more count starts done start row are is has (holds (nat_lt start (length row)) (judge_lt start (length row)) e)
    by false e = begun_past count starts done start row are is (let not = fails (nat_lt start (length row)) (judge_lt start (length row)) e in grind (arith, not))

pub begun_small : (count : ℕ) (starts : List ℕ) (done : ℕ) (row : List Top) → AreBegun count starts done row → AreSmall count row
begun_small count starts done row are place = elim (are.each place) [
  | inl none ↦ subst (IsSmall count) (sym none) (tt {0})
  | inr (one, has) ↦ subst (IsSmall count) (sym one) (omega arith)
]

pub begun_found : (code : Code) (owner : Owner) (starts : List ℕ) (done : ℕ) (row : List Top) → AreBegun (length code.instrs) starts done row → AreStarts code owner starts → AreFound code owner row
begun_found code owner starts done row are begins place = elim (are.each place) [
  | inl none ↦ subst (IsFound (IsHeight code owner place)) (sym none) (tt {0})
  | inr (one, has) ↦ subst (IsFound (IsHeight code owner place)) (sym one) (at_start place ((begins place).0 has))
]

pub begun_there : (count : ℕ) (starts : List ℕ) (done : ℕ) (row : List Top) → AreBegun count starts done row → length starts ≤ done → (place : ℕ) → Contains starts place → place < count → top_at row place ≡ top.One 0
begun_there count starts done row are all place (k, less, same) within =
    let here : get_or starts k 0 ≡ place = get_or_default starts k 0 place less ∙ same in
    ap (top_at row) (sym here) ∙ are.begun k (omega (arith, less, all)) less (omega (arith, here, within))

-- What isn't emptied yet stands further on in the list.
pub record IsLeft (count : ℕ) (places : List ℕ) (done : ℕ) (row : List Top) : Type 0 where
  pub size : length row ≡ count
  pub left : (place : ℕ) → (top_at row place ≡ top.Nothing) ⊎ ((k : ℕ) × (done ≤ k) × (k < length places) × (get_or places k 0 ≡ place))

pub left_first : (count : ℕ) (places : List ℕ) (row : List Top) → length row ≡ count → ((place : ℕ) → (top_at row place ≡ top.Nothing) ⊎ Contains places place) → IsLeft count places 0 row
left_first count places row size listed = record {
  size = size;
  left = λ place. elim (listed place) [
    | inl none ↦ inl none
    | inr (k, less, same) ↦ inr (k, omega arith, less, get_or_default places k 0 place less ∙ same)
  ];
}

abbrev LeftAt : List ℕ → ℕ → ℕ → Top → Type 0
LeftAt places done p t = (t ≡ top.Nothing) ⊎ ((k : ℕ) × (done ≤ k) × (k < length places) × (get_or places k 0 ≡ p))

left_at : (places : List ℕ) (done : ℕ) (row : List Top) (place : ℕ) → get_or places done 0 < length row → LeftAt places done place (top_at row place)
    → LeftAt places (done + 1) place (top_at (slice_set row (get_or places done 0) top.Nothing) place)
left_at places done row place less is = elim (known (nat_eq place (get_or places done 0)) (judge_eq place (get_or places done 0))) [
  | inl same ↦ inl (ap (top_at (slice_set row (get_or places done 0) top.Nothing)) same ∙ get_or-set_same row (get_or places done 0) top.Nothing top.Nothing less)
  | inr other ↦ elim is [
    | inl none ↦ inl (get_or-set_other row (get_or places done 0) place top.Nothing top.Nothing other ∙ none)
    | inr (k, low, within, at) ↦ elim (cases_lt done k) [
      | inl under ↦ inr (k, omega (arith, under), within, at)
      | inr not ↦ (let same : done ≡ k = omega (arith, low, not) in absurd (other (sym (ap (λ j. get_or places j 0) same ∙ at))))
    ]
  ]
]

pub left_more : (count : ℕ) (places : List ℕ) (done : ℕ) (row : List Top) → IsLeft count places done row → get_or places done 0 < length row → IsLeft count places (done + 1) (slice_set row (get_or places done 0) top.Nothing)
left_more count places done row is less = record {
  size = length-set row (get_or places done 0) top.Nothing ∙ is.size;
  left = λ place. left_at places done row place less (is.left place);
}

pub left_none : (count : ℕ) (places : List ℕ) (done : ℕ) (row : List Top) → IsLeft count places done row → length places ≤ done → IsEmpty count row
left_none count places done row is all = (
  is.size,
  λ place. elim (is.left place) [
    | inl none ↦ none
    | inr (k, low, within, at) ↦ absurd (omega (arith, low, within, all))
  ],
)
