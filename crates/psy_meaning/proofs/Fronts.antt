-- What was met as the front of what a way meets.
use Rattle.std.proofs.Common.{◌≡◌, refl, sym, ap, ◌∙◌, inl, inr, arith, append_assoc}
use Rattle.std.proofs.lemmas.List.{append-nil}
use Rattle.std.specs.Prelude.{ℕ, ◌+◌, List, [], ◌++◌}
use Rattle.psy_meaning.specs.Ways.{Meter, Sending, Way, Course, End, Fell, Back, To, IsFrontOf, here, one, looking, sending, both, falling, returning, reaching, behind, and_on, or_else}

-- This was met on a way from that.
abbrev pub FrontOn : Way → Meter → Meter → Type 0
FrontOn way from some = (whole : Meter) × way from whole × IsFrontOf some whole

-- The same, to some end
abbrev pub FrontIn : Course → Meter → Meter → Type 0
FrontIn course from some = (end : End) × (whole : Meter) × course end from whole × IsFrontOf some whole

-- From whatever was met there is a way on.
abbrev pub Open : Way → Type 0
Open way = (m : Meter) → FrontOn way m m

abbrev pub Leads : Course → Type 0
Leads course = (m : Meter) → FrontIn course m m

-- ---- fronts

abbrev Begins : {A : Type 0} → List A → List A → Type 0
Begins {A} xs ys = (more : List A) × (ys ≡ xs ++ more)

begins_both : {A : Type 0} (xs ys zs : List A) → Begins xs ys → Begins ys zs → Begins xs zs
begins_both xs ys zs (more, e) (next, f) = (more ++ next, f ∙ ap (λ l. l ++ next) e ∙ append_assoc xs more next)

begins_same : {A : Type 0} (xs : List A) → Begins xs xs
begins_same xs = ([], sym (append-nil xs))

pub front_same : (m : Meter) → IsFrontOf m m
front_same m = record { steps = omega arith; looks = begins_same m.looks; sends = begins_same m.sends }

front_front : (a b c : Meter) → IsFrontOf a b → IsFrontOf b c → IsFrontOf a c
front_front a b c p q = record { steps = omega arith; looks = begins_both a.looks b.looks c.looks p.looks q.looks; sends = begins_both a.sends b.sends c.sends p.sends q.sends }

-- ---- ways

pub open_here : Open here
open_here m = (m, refl, front_same m)

pub front_one : (m : Meter) → IsFrontOf m (record m { steps = m.steps + 1 })
front_one m = record { steps = omega arith; looks = begins_same m.looks; sends = begins_same m.sends }

pub open_one : Open one
open_one m = (_, refl, front_one m)

pub open_looking : (variable back : ℕ) → Open (looking variable back)
open_looking variable back m = (_, refl, record { steps = omega arith; looks = (_, refl); sends = begins_same m.sends })

pub open_sending : (send : Sending) → Open (sending send)
open_sending send m = (_, refl, record { steps = omega arith; looks = begins_same m.looks; sends = (_, refl) })

pub front_both : (first second : Way) (m k : Meter) → FrontOn first m k → Open second → FrontOn (both first second) m k
front_both first second m k (n, w, f) q = let next = q n in (next.0, (n, w, next.1), front_front k n next.0 f next.2)

pub open_both : (first second : Way) → Open first → Open second → Open (both first second)
open_both first second p q m = front_both first second m m (p m) q

-- ---- courses

pub front_falling : (way : Way) (m k : Meter) → FrontOn way m k → FrontIn (falling way) m k
front_falling way m k (n, w, f) = (Fell, n, w, f)

pub front_behind : (way : Way) (course : Course) (m k : Meter) → FrontOn way m k → Leads course → FrontIn (behind way course) m k
front_behind way course m k (n, w, f) q = let next = q n in (next.0, next.1, (n, w, next.2), front_front k n next.1 f next.3)

pub front_left : (this that : Course) (m k : Meter) → FrontIn this m k → FrontIn (or_else this that) m k
front_left this that m k (end, n, w, f) = (end, n, inl w, f)

pub front_right : (this that : Course) (m k : Meter) → FrontIn that m k → FrontIn (or_else this that) m k
front_right this that m k (end, n, w, f) = (end, n, inr w, f)

pub front_on : (first second : Course) (m k : Meter) → FrontIn first m k → Leads second → FrontIn (and_on first second) m k
front_on first second m k (Fell, n, w, f) q = let next = q n in (next.0, next.1, inl (n, w, next.2), front_front k n next.1 f next.3)
front_on first second m k (Back, n, w, f) q = (Back, n, inr w, f)
front_on first second m k (To point, n, w, f) q = (To point, n, inr w, f)

pub leads_falling : (way : Way) → Open way → Leads (falling way)
leads_falling way p m = front_falling way m m (p m)

pub leads_returning : (way : Way) → Open way → Leads (returning way)
leads_returning way p m = let w = p m in (Back, w.0, w.1, w.2)

pub leads_reaching : (point : ℕ) (way : Way) → Open way → Leads (reaching point way)
leads_reaching point way p m = let w = p m in (To point, w.0, (refl, w.1), w.2)

pub leads_behind : (way : Way) (course : Course) → Open way → Leads course → Leads (behind way course)
leads_behind way course p q m = front_behind way course m m (p m) q

pub leads_left : (this that : Course) → Leads this → Leads (or_else this that)
leads_left this that p m = front_left this that m m (p m)

pub leads_on : (first second : Course) → Leads first → Leads second → Leads (and_on first second)
leads_on first second p q m = front_on first second m m (p m) q
