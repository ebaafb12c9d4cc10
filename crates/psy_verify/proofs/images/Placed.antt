-- What an image says of the points of an agent and of its copies.
use Rattle.std.proofs.Common.{◌≡◌, ◌∙◌, ℕ, suc, ◌+◌, ◌-◌, ◌<◌, ◌≤◌, Bool, true, false, cond, eqb, List, [], ◌∷◌, ◌++◌, map, length, append_assoc, append-nil, Option, None, Some, refl, sym, ap, arith}
use Rattle.std.specs.Prelude.{FitsSigned}
use Rattle.std.specs.Int.{w32}
use Rattle.std.specs.List.{All}
use Rattle.std.proofs.lemmas.List.{length_push, map-append}
use Rattle.std.proofs.lemmas.List.Elements.{All-nil, All-push}
use Rattle.psy_base.specs.declared.limits.TheConstants.{ADVANCE, BUDGET, POINTS}
use Rattle.psy_code.specs.declared.code.CopyInit.{CopyInit}
use Rattle.psy_code.specs.Execution.{Copy}
use Rattle.psy_image.specs.Formats.{times, each as each_of}
use Rattle.psy_image.specs.Images.{copies, copy, head, owned_from, owned_one, point, points}
use Rattle.psy_tree.specs.declared.unit.Point.{Point}
use Rattle.psy_tree.specs.declared.unit.VarDecl.{VarDecl}
use Rattle.psy_meaning.specs.Alike.{owned_copy, owned_from as copies_from}
use Rattle.psy_meaning.specs.Units.{Within}
use Rattle.psy_verify.proofs.images.Declared.{below_is}
use Rattle.psy_verify.proofs.images.Said.{Says, says_then, says_times, weaker}

-- ---- points

pub record IsPointOf (clocks : ℕ) (p : Point) : Type 0 where
  pub count : Within 1 ADVANCE p.count
  pub clock : p.clock < clocks
  pub budget : Within 1 BUDGET p.budget

-- Point 0, and others behind it, each with a place
pub record ArePoints (clocks clock budget : ℕ) (s : List Point × List ℕ) : Type 0 where
  pub others : List Point
  pub are : s.0 ≡ record { count = 0; clock = clock; budget = budget } ∷ others
  pub each : All (IsPointOf clocks) others
  pub as_many : length s.1 ≡ length s.0

says_head : (count clock budget : ℕ) → Says (λ s. ArePoints count clock budget s × (length s.0 ≡ 1)) (head clock budget)
unfolding head
says_head count clock budget = λ none is0 same_clock is1 same_budget is2 place any.
    let none_is : none ≡ 0 = omega (arith, is0.1) in
    let clock_is : same_clock ≡ clock = omega (arith, is1.0, is1.1) in
    let budget_is : same_budget ≡ budget = omega (arith, is2.0, is2.1) in (
      record {
        others = [];
        are = λ i. record { count = none_is i; clock = clock_is i; budget = budget_is i } ∷ [];
        each = All-nil (IsPointOf count);
        as_many = refl;
      },
      refl,
    )

says_point : (count clock budget : ℕ) (s : List Point × List ℕ) → ArePoints count clock budget s → Says (λ t. ArePoints count clock budget t × (length t.0 ≡ length s.0 + 1)) (point count s)
unfolding point
says_point count clock budget s h = λ number some its_clock there its_budget lawful place any.
    let it : Point = record { count = number; clock = its_clock; budget = its_budget } in
    let is : IsPointOf count it = record { count = (some.0, some.1); clock = below_is count its_clock there; budget = (lawful.0, lawful.1) } in (
      record {
        others = h.others ++ it ∷ [];
        are = ap (λ ps. ps ++ it ∷ []) h.are;
        each = All-push (IsPointOf count) h.others it h.each is;
        as_many = omega (arith, length_push s.0 it, length_push s.1 place, h.as_many);
      },
      length_push s.0 it,
    )

pub says_points : (count clock budget : ℕ) → Says (λ s. ArePoints count clock budget s × (length s.0 ≤ POINTS)) (points count clock budget)
unfolding points
says_points count clock budget = λ many fits. says_then (λ s. ArePoints count clock budget s × (length s.0 ≡ 1)) (λ s. ArePoints count clock budget s × (length s.0 ≤ POINTS)) (head clock budget) _
    (says_head count clock budget) (λ first h.
    weaker (λ s. ArePoints count clock budget s × (length s.0 ≡ (many - 1) + 1)) (λ s. ArePoints count clock budget s × (length s.0 ≤ POINTS)) (times (many - 1) (point count) first)
    (says_times (λ n s. ArePoints count clock budget s × (length s.0 ≡ n)) (point count) (many - 1) 1 first h one)
    (λ s g. (g.0, omega (arith, g.1, fits.0, fits.1))))
  where
    one : (j : ℕ) (t : List Point × List ℕ) → ArePoints count clock budget t × (length t.0 ≡ j) → Says (λ u. ArePoints count clock budget u × (length u.0 ≡ suc j)) (point count t)
    one j t h = weaker (λ u. ArePoints count clock budget u × (length u.0 ≡ length t.0 + 1)) (λ u. ArePoints count clock budget u × (length u.0 ≡ suc j)) (point count t)
        (says_point count clock budget t h.0) (λ u g. (g.0, omega (arith, g.1, h.1)))

-- ---- copies

-- Copies of these variables, with values of 32 bits
pub record AreCopies (owned : List ℕ) (s : List CopyInit) : Type 0 where
  pub variables : map (λ (c : CopyInit). c.variable) s ≡ owned
  pub inits : All (λ (c : CopyInit). FitsSigned w32 c.init) s

says_copy : (so_far : List ℕ) (x : ℕ) (s : List CopyInit) → AreCopies so_far s → Says (AreCopies (so_far ++ x ∷ [])) (copy x s)
unfolding copy
says_copy so_far x s h = λ variable same init whole.
    let is : variable ≡ x = omega (arith, same.0, same.1) in
    let it : CopyInit = record { variable = variable; init = init } in
    record {
      variables = map-append (λ (c : CopyInit). c.variable) s (it ∷ []) ∙ ap (λ vs. vs ++ variable ∷ []) h.variables ∙ ap (λ v. so_far ++ v ∷ []) is;
      inits = All-push (λ (c : CopyInit). FitsSigned w32 c.init) s it h.inits whole;
    }

says_each : (owned so_far : List ℕ) (s : List CopyInit) → AreCopies so_far s → Says (AreCopies (so_far ++ owned)) (each_of owned copy s)
unfolding each_of
says_each [] so_far s h = record { variables = h.variables ∙ sym (append-nil so_far); inits = h.inits }
says_each (x ∷ owned) so_far s h = says_then (AreCopies (so_far ++ x ∷ [])) (AreCopies (so_far ++ x ∷ owned)) (copy x s) (each_of owned copy) (says_copy so_far x s h) (λ t g.
    weaker (AreCopies ((so_far ++ x ∷ []) ++ owned)) (AreCopies (so_far ++ x ∷ owned)) (each_of owned copy t) (says_each owned (so_far ++ x ∷ []) t g)
    (λ u k. record { variables = k.variables ∙ append_assoc so_far (x ∷ []) owned; inits = k.inits }))

pub says_copies : (owned : List ℕ) → Says (AreCopies owned) (copies owned)
unfolding copies
says_copies owned = λ count fits. says_each owned [] [] (record { variables = refl; inits = All-nil (λ (c : CopyInit). FitsSigned w32 c.init) })

-- The numbers of an agent's variables are those of the copies that it begins with.
owned_one_is : (agent number : ℕ) (v : VarDecl) (owner : Option ℕ) → owned_one agent number owner ≡ map (λ (c : Copy). c.variable) (owned_copy agent number v owner)
owned_one_is agent number v None = refl
owned_one_is agent number v (Some owner) = by (eqb owner agent)
  where
    by : (b : Bool) → cond b (number ∷ []) [] ≡ map (λ (c : Copy). c.variable) (cond b (record { variable = number; value = v.init } ∷ []) [])
    by true = refl
    by false = refl

pub owned_is : (agent number : ℕ) (vs : List VarDecl) → owned_from agent number vs ≡ map (λ (c : Copy). c.variable) (copies_from agent number vs)
owned_is agent number [] = refl
owned_is agent number (v ∷ vs) =
    ap (λ ns. ns ++ owned_from agent (number + 1) vs) (owned_one_is agent number v v.owner)
    ∙ ap (λ ns. map (λ (c : Copy). c.variable) (owned_copy agent number v v.owner) ++ ns) (owned_is agent (number + 1) vs)
    ∙ sym (map-append (λ (c : Copy). c.variable) (owned_copy agent number v v.owner) (copies_from agent (number + 1) vs))
