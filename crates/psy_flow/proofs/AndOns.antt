-- What stands behind others, by the words that make tops.
use Rattle.std.proofs.Common.{◌≡◌, ℕ, ◌+◌, max, List, Option, Some, None, refl, sym, ap, ◌∙◌, arith}
use Rattle.psy_tree.specs.declared.unit.Expr.{Expr}
use Rattle.psy_tree.specs.declared.unit.Stmt.{Stmt, fold-roll-Stmt}
use Rattle.psy_tree.specs.declared.unit.Stmt.TheVariants as stmt
use Rattle.psy_tree.specs.declared.unit.Stmt.TheOpen.{Stmt-F}
use Rattle.psy_flow.specs.declared.gauge.Gauge.{Gauge}
use Rattle.psy_flow.specs.declared.tops.Tops.{Tops}
use Rattle.psy_flow.specs.Tops.{in_step, falling, nowhere, plus, greater, behind, or_else, on_from, leaving, and_on, expr_most, stmt_tops_step, stmt_tops, stmts_tops, capped_tops}
use Rattle.psy_flow.proofs.Layers.{tops_if_else}
use Rattle.psy_flow.proofs.Limits.{same_tops, capped-capped, and_on_like}
use Rattle.psy_flow.proofs.PointTops.{greater-none, and_on-falling}
use Rattle.psy_flow.proofs.Throughs.{and_on-assoc, and_on-first}

-- ---- the greater of counts

-- A count behind the greater of two
plus-greater : (n m : ℕ) (x : Option ℕ) → plus (max n m) x ≡ greater (plus n x) (plus m x)
plus-greater n m None = refl
plus-greater n m (Some x) = ap Some (omega arith)

-- Two and two, of each the first and of each the second
greater-pairs : (a b c d : Option ℕ) → greater (greater a b) (greater c d) ≡ greater (greater a c) (greater b d)
greater-pairs None None c d = refl
greater-pairs None (Some b) None d = refl
greater-pairs None (Some b) (Some c) None = ap Some (omega arith)
greater-pairs None (Some b) (Some c) (Some d) = ap Some (omega arith)
greater-pairs (Some a) None None None = refl
greater-pairs (Some a) None None (Some d) = refl
greater-pairs (Some a) None (Some c) None = refl
greater-pairs (Some a) None (Some c) (Some d) = ap Some (omega arith)
greater-pairs (Some a) (Some b) None None = refl
greater-pairs (Some a) (Some b) None (Some d) = ap Some (omega arith)
greater-pairs (Some a) (Some b) (Some c) None = ap Some (omega arith)
greater-pairs (Some a) (Some b) (Some c) (Some d) = ap Some (omega arith)

-- ---- and on

or_else-pairs : (a b c d : Tops) → or_else (or_else a b) (or_else c d) ≡ or_else (or_else a c) (or_else b d)
or_else-pairs a b c d =
    same_tops (or_else (or_else a b) (or_else c d)) (or_else (or_else a c) (or_else b d))
    (greater-pairs a.fell b.fell c.fell d.fell) (greater-pairs a.back b.back c.back d.back) (greater-pairs a.to b.to c.to d.to)

on_from-greater : (a b : Option ℕ) (t : Tops) → on_from (greater a b) t ≡ or_else (on_from a t) (on_from b t)
on_from-greater None None t = refl
on_from-greater None (Some m) t = refl
on_from-greater (Some n) None t =
    same_tops (behind n t) (or_else (behind n t) nowhere) (sym (greater-none (plus n t.fell))) (sym (greater-none (plus n t.back))) (sym (greater-none (plus n t.to)))
on_from-greater (Some n) (Some m) t =
    same_tops (behind (max n m) t) (or_else (behind n t) (behind m t)) (plus-greater n m t.fell) (plus-greater n m t.back) (plus-greater n m t.to)

pub and_on-or_else : (a b t : Tops) → and_on (or_else a b) t ≡ or_else (and_on a t) (and_on b t)
and_on-or_else a b t =
    ap (λ x. or_else x (or_else (leaving a) (leaving b))) (on_from-greater a.fell b.fell t)
    ∙ or_else-pairs (on_from a.fell t) (on_from b.fell t) (leaving a) (leaving b)

pub and_on-behind : (n : ℕ) (a t : Tops) → and_on (behind n a) t ≡ behind n (and_on a t)
and_on-behind n a t =
    ap (λ x. and_on x t) (sym (and_on-falling n a)) ∙ and_on-assoc (falling n) a t ∙ and_on-falling n (and_on a t)

-- ---- branches with what stands behind them

module _ (g : Gauge) (wanted : Option ℕ) (calls : ℕ → ℕ) where
  abbrev whole : List Stmt → Tops
  whole = stmts_tops g wanted calls

  abbrev asked : Expr → ℕ
  asked test = expr_most g calls test + in_step g

  tops_if : (test : Expr) (branch : List Stmt) → stmt_tops g wanted calls (stmt.If test branch None) ≡ behind (asked test) (or_else (whole branch) (falling 0))
  tops_if test branch =
      ap (stmt_tops g wanted calls) (sym (stmt.rolls-If test branch None)) ∙ fold-roll-Stmt Tops (stmt_tops_step g wanted calls) (Stmt-F.If test branch None)

  pub if_on : (test : Expr) (branch : List Stmt) (last : Tops) →
      and_on (stmt_tops g wanted calls (stmt.If test branch None)) last ≡ behind (asked test) (or_else (and_on (whole branch) last) last)
  if_on test branch last =
      ap (λ t. and_on t last) (tops_if test branch)
      ∙ and_on-behind (asked test) (or_else (whole branch) (falling 0)) last
      ∙ ap (behind (asked test)) (and_on-or_else (whole branch) (falling 0) last)
      ∙ ap (λ t. behind (asked test) (or_else (and_on (whole branch) last) t)) (and_on-first last)

  pub if_else_on : (test : Expr) (branch other : List Stmt) (last : Tops) →
      and_on (stmt_tops g wanted calls (stmt.If test branch (Some other))) last
      ≡ behind (asked test) (or_else (and_on (whole branch) (behind (in_step g) last)) (and_on (whole other) last))
  if_else_on test branch other last =
      let hopped = and_on (whole branch) (falling (in_step g)) in
      ap (λ t. and_on t last) (tops_if_else g wanted calls test branch other)
      ∙ and_on-behind (asked test) (or_else hopped (whole other)) last
      ∙ ap (behind (asked test)) (and_on-or_else hopped (whole other) last)
      ∙ ap (λ t. behind (asked test) (or_else t (and_on (whole other) last))) (and_on-assoc (whole branch) (falling (in_step g)) last)
      ∙ ap (λ t. behind (asked test) (or_else (and_on (whole branch) t) (and_on (whole other) last))) (and_on-falling (in_step g) last)

-- ---- as far as is counted

-- What is as far as is counted stays so.
pub counted : (g : Gauge) (r t : Tops) → r ≡ capped_tops g t → r ≡ capped_tops g r
counted g r t e = e ∙ sym (capped-capped g t) ∙ ap (capped_tops g) (sym e)

-- Behind what is as far as is counted stands the same as behind the whole.
pub and_on_next : (g : Gauge) (a r t : Tops) → r ≡ capped_tops g t → capped_tops g (and_on a r) ≡ capped_tops g (and_on a t)
and_on_next g a r t e = and_on_like g a r a t refl (ap (capped_tops g) e ∙ capped-capped g t)
