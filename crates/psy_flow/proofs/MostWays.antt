-- The greatest counts of the ways of expressions.
use Rattle.std.proofs.Common.{◌≡◌, refl, sym, ap, subst, inl, inr, arith}
use Rattle.std.specs.Prelude.{ℕ, zero, suc, ◌+◌, ◌≤◌, max, List, [], ◌∷◌, ◌++◌, map, ◌⊎◌}
use Rattle.std.proofs.lemmas.List.Sums.{sum_by_push}
use Rattle.psy_arith.specs.declared.operators.Op2.{Op2}
use Rattle.psy_arith.specs.declared.operators.Op2.TheVariants as op
use Rattle.psy_tree.specs.declared.unit.Expr.{Expr, roll-Expr, fold-roll-Expr, rec-roll-Expr, map-Expr, ind-Expr}
use Rattle.psy_tree.specs.declared.unit.Expr.TheOpen.{Expr-F}
use Rattle.psy_tree.specs.Paths.{total}
use Rattle.psy_meaning.specs.Ways.{Sending, Meter, Way, here, one, looking, sending, both, either, ways_through, binary_way, expr_way_step, expr_way}
use Rattle.psy_flow.specs.declared.gauge.Gauge.{Gauge}
use Rattle.psy_flow.specs.declared.gauge.Gauge.TheVariants as gauge
use Rattle.psy_flow.specs.Tops.{in_step, in_look, in_send, count_of, binary_most, expr_most_step, expr_most}
use Rattle.psy_meaning.proofs.lemmas.Layers.{natural_expr}

-- From whatever was met, the ways count so much at most, and so much on one of them.
pub record IsMost (g : Gauge) (way : Way) (n : ℕ) : Type 0 where
  pub some : (before : Meter) → (now : Meter) × way before now × (count_of g now ≡ count_of g before + n)
  pub most : (before now : Meter) → way before now → count_of g now ≤ count_of g before + n

-- ---- what one more counts

abbrev stepped : Meter → Meter
stepped m = record m { steps = m.steps + 1 }

abbrev looked : ℕ → ℕ → Meter → Meter
looked variable back m = record m { steps = m.steps + 1; looks = m.looks ++ record { number = m.steps; variable = variable; back = back } ∷ [] }

abbrev sent : Sending → Meter → Meter
sent send m = record m { steps = m.steps + 1; sends = m.sends ++ send ∷ [] }

count_step : (g : Gauge) (m : Meter) → count_of g (stepped m) ≡ count_of g m + in_step g
count_step gauge.Steps m = refl
count_step (gauge.Sends stream) m = omega arith
count_step (gauge.Looks variable) m = omega arith

count_look : (g : Gauge) (variable back : ℕ) (m : Meter) → count_of g (looked variable back m) ≡ count_of g m + in_look g variable
count_look gauge.Steps variable back m = refl
count_look (gauge.Sends stream) variable back m = omega arith
count_look (gauge.Looks counted) variable back m = sum_by_push _ m.looks _

count_send : (g : Gauge) (send : Sending) (m : Meter) → count_of g (sent send m) ≡ count_of g m + in_send g send.stream
count_send gauge.Steps send m = refl
count_send (gauge.Sends counted) send m = sum_by_push _ m.sends send
count_send (gauge.Looks variable) send m = omega arith

-- ---- words for ways

most_met : (g : Gauge) (met : Meter → Meter) (n : ℕ) → ((m : Meter) → count_of g (met m) ≡ count_of g m + n) → IsMost g (λ before now. now ≡ met before) n
most_met g met n h = record { some = λ before. (met before, refl, h before); most = λ before now e. omega (arith, ap (count_of g) e, h before) }

pub most_here : (g : Gauge) → IsMost g here 0
most_here g = most_met g (λ m. m) 0 (λ m. omega arith)

pub most_one : (g : Gauge) → IsMost g one (in_step g)
most_one g = most_met g stepped (in_step g) (count_step g)

most_looking : (g : Gauge) (variable back : ℕ) → IsMost g (looking variable back) (in_look g variable)
most_looking g variable back = most_met g (looked variable back) (in_look g variable) (count_look g variable back)

pub most_sending : (g : Gauge) (send : Sending) → IsMost g (sending send) (in_send g send.stream)
most_sending g send = most_met g (sent send) (in_send g send.stream) (count_send g send)

pub most_both : (g : Gauge) (first second : Way) (m n : ℕ) → IsMost g first m → IsMost g second n → IsMost g (both first second) (m + n)
most_both g first second m n p q =
    record {
      some = λ before. (let w = p.some before in let v = q.some w.0 in (v.0, (w.0, w.1, v.1), omega (arith, w.2, v.2)));
      most = λ before now w. omega (arith, p.most before w.0 w.1, q.most w.0 now w.2);
    }

order : (m n : ℕ) → (m ≤ n) ⊎ (n ≤ m)
order zero n = inl (omega arith)
order (suc m) zero = inr (omega arith)
order (suc m) (suc n) = elim (order m n) [ inl p ↦ inl (omega (arith, p)) | inr p ↦ inr (omega (arith, p)) ]

pub most_either : (g : Gauge) (this that : Way) (m n : ℕ) → IsMost g this m → IsMost g that n → IsMost g (either this that) (max m n)
most_either g this that m n p q = record { some = λ before. by before (order m n); most = below }
  where
    by : (before : Meter) → (m ≤ n) ⊎ (n ≤ m) → (now : Meter) × either this that before now × (count_of g now ≡ count_of g before + max m n)
    by before (inl h) = let w = q.some before in (w.0, inr w.1, omega (arith, w.2, h))
    by before (inr h) = let w = p.some before in (w.0, inl w.1, omega (arith, w.2, h))

    below : (before now : Meter) → either this that before now → count_of g now ≤ count_of g before + max m n
    below before now (inl w) = omega (arith, p.most before now w)
    below before now (inr w) = omega (arith, q.most before now w)

-- ---- expressions

most_lazy : (g : Gauge) (left right : Way) (m n : ℕ) → IsMost g left m → IsMost g right n → IsMost g (both left (both one (either here (both right one)))) (m + (in_step g + (n + in_step g)))
most_lazy g left right m n p q =
    let on : IsMost g (both right one) (n + in_step g) = most_both g right one n (in_step g) q (most_one g) in
    let no_less : max 0 (n + in_step g) ≡ n + in_step g = omega arith in
    let or_not : IsMost g (either here (both right one)) (n + in_step g) = subst (IsMost g (either here (both right one))) no_less (most_either g here (both right one) 0 (n + in_step g) (most_here g) on) in
    most_both g left (both one (either here (both right one))) m (in_step g + (n + in_step g)) p
    (most_both g one (either here (both right one)) (in_step g) (n + in_step g) (most_one g) or_not)

most_binary : (g : Gauge) (operator : Op2) (left right : Way) (m n : ℕ) → IsMost g left m → IsMost g right n → IsMost g (binary_way operator left right) (binary_most g operator m n)
most_binary g op.AndAnd left right m n p q = most_lazy g left right m n p q
most_binary g op.OrOr left right m n p q = most_lazy g left right m n p q
most_binary g operator left right m n p q = most_both g left (both right one) m (n + in_step g) p (most_both g right one n (in_step g) q (most_one g))

module _ (g : Gauge) (ways : ℕ → Way) (calls : ℕ → ℕ) (all : (f : ℕ) → IsMost g (ways f) (calls f)) where
  abbrev P : Expr → Type 0
  P e = IsMost g (expr_way ways e) (expr_most g calls e)

  abbrev Known : Type 0
  Known = (e : Expr) × P e

  abbrev tree : Known → Expr
  tree k = k.0

  most_through : (ks : List Known) → IsMost g (ways_through (expr_way ways) (map tree ks)) (total (map (expr_most g calls) (map tree ks)))
  most_through [] = most_here g
  most_through (k ∷ ks) =
      most_both g (expr_way ways k.0) (ways_through (expr_way ways) (map tree ks)) (expr_most g calls k.0) (total (map (expr_most g calls) (map tree ks))) k.1 (most_through ks)

  most_then : (e : Expr) (next : Way) (n : ℕ) → P e → IsMost g next n → IsMost g (both (expr_way ways e) next) (expr_most g calls e + n)
  most_then e next n p q = most_both g (expr_way ways e) next (expr_most g calls e) n p q

  step_most : (y : Expr-F Known) → IsMost g (expr_way_step ways Expr (λ y. y) (expr_way ways) (map-Expr Known Expr tree y)) (expr_most_step g calls (map-Expr Expr ℕ (expr_most g calls) (map-Expr Known Expr tree y)))
  step_most (Expr-F.Number number) = most_one g
  step_most (Expr-F.Slot slot) = most_one g
  step_most (Expr-F.Copy variable) = most_one g
  step_most (Expr-F.Cell slot index) = most_then index.0 one (in_step g) index.1 (most_one g)
  step_most (Expr-F.Past variable back) = most_looking g variable back
  step_most (Expr-F.Ready stream) = most_one g
  step_most (Expr-F.Take stream) = most_one g
  step_most (Expr-F.Unary operator width operand) = most_then operand.0 one (in_step g) operand.1 (most_one g)
  step_most (Expr-F.Cast width operand) = most_then operand.0 one (in_step g) operand.1 (most_one g)
  step_most (Expr-F.Binary operator width left right) = most_binary g operator (expr_way ways left.0) (expr_way ways right.0) (expr_most g calls left.0) (expr_most g calls right.0) left.1 right.1
  step_most (Expr-F.Call function arguments) =
      most_both g (ways_through (expr_way ways) (map tree arguments)) (both one (ways function)) (total (map (expr_most g calls) (map tree arguments))) (in_step g + calls function) (most_through arguments)
      (most_both g one (ways function) (in_step g) (calls function) (most_one g) (all function))

  layer : (y : Expr-F Known) → P (roll-Expr (map-Expr Known Expr tree y))
  layer y =
      let x : Expr-F Expr = map-Expr Known Expr tree y in
      subst (λ way. IsMost g way (expr_most g calls (roll-Expr x))) (sym (rec-roll-Expr Way (expr_way_step ways) (natural_expr ways) x))
      (subst (IsMost g (expr_way_step ways Expr (λ y. y) (expr_way ways) x)) (sym (fold-roll-Expr ℕ (expr_most_step g calls) x)) (step_most y))

  pub most_expr : (e : Expr) → P e
  most_expr = ind-Expr P (λ x y is. subst (λ z. P (roll-Expr z)) is (layer y))
