-- A text has at most two instructions a token.
use Rattle.std.proofs.Common.{◌≡◌, ℕ, ◌+◌, ◌*◌, ◌≤◌, List, [], ◌∷◌, ◌++◌, map, length, Some, None, sym, ap, subst, arith}
use Rattle.psy_arith.specs.declared.operators.Op2.{Op2}
use Rattle.psy_arith.specs.declared.operators.Op2.TheVariants as op
use Rattle.psy_tree.specs.declared.raw.Item.{Item}
use Rattle.psy_tree.specs.declared.raw.Raw.{Raw}
use Rattle.psy_tree.specs.declared.raw.RawExpr.{RawExpr}
use Rattle.psy_tree.specs.declared.raw.RawStmt.{RawStmt}
use Rattle.psy_tree.specs.declared.token.Token.{Token}
use Rattle.psy_tree.specs.declared.unit.FunctionDecl.{FunctionDecl}
use Rattle.psy_tree.specs.declared.unit.AgentDecl.{AgentDecl}
use Rattle.psy_tree.specs.declared.unit.Point.{Point}
use Rattle.psy_tree.specs.declared.unit.Unit.{Unit as Whole}
use Rattle.psy_tree.specs.Grammar.{Numbered, numbered, Expr, Others, Stmt, Block, Declaration, Program, Spells}
use Rattle.psy_tree.specs.Grammar as grammar
use Rattle.psy_tree.specs.Rules.{is_clock}
use Rattle.psy_tree.specs.Scope.{Site}
use Rattle.psy_tree.specs.Stands.{stmt_of, stmts_of, functions, agents, each_from, inside_of, head_point, global_number, unit_of, Stands}
use Rattle.psy_tree.specs.Paths.{total}
use Rattle.psy_meaning.specs.Sizes.{binary_size, stmts_size, unit_size}
use Rattle.psy_meaning.proofs.Lowered.{size, sizes, weight, weights, size_number, size_var, size_cell, size_past, size_ready, size_take, size_unary, size_binary, size_cast, sizes-cons, size_call, size_set, size_set_cell, size_if, size_if_else, size_timed, size_bounded, size_send, size_advance, size_return}
use Rattle.psy_tree.proofs.lemmas.TokenCounts.{length_of_numbered}
use Rattle.psy_tree.proofs.lemmas.Tails.{length-Behind, behind_both, behind_start, behind_parent, behind_shift, behind_params, behind_locals, agent_locals}

operator_few : (o : Op2) → binary_size o ≤ 2
operator_few op.AndAnd = omega arith
operator_few op.OrOr = omega arith
operator_few _ = omega arith

module _ (site : Site) where
  mutual
    expr_few : {level : ℕ} {ts rest : List Numbered} {e : RawExpr} → Expr level ts e rest → size site e + 2 * length rest ≤ 2 * length ts
    expr_few (grammar.Expr.number {k = k}) = omega (arith, size_number site k)
    expr_few (grammar.Expr.variable {x = x}) = omega (arith, size_var site x)
    expr_few (grammar.Expr.cell {x = x} {index = index} h) = omega (arith, size_cell site x index, expr_few h)
    expr_few (grammar.Expr.call_of_none {f = f}) = omega (arith, size_call site f [])
    expr_few (grammar.Expr.call {f = f} {first = e} {others = es} h o) = omega (arith, size_call site f (e ∷ es), sizes-cons site e es, expr_few h, others_few o)
    expr_few (grammar.Expr.cast {width = width} {e = e} is h) = omega (arith, size_cast site width e, expr_few h)
    expr_few (grammar.Expr.past {x = x} {back = back} {n = n}) = omega (arith, size_past site n x back)
    expr_few (grammar.Expr.ready {x = x} {n = n}) = omega (arith, size_ready site n x)
    expr_few (grammar.Expr.take {x = x} {n = n}) = omega (arith, size_take site n x)
    expr_few (grammar.Expr.in_parentheses h) = omega (arith, expr_few h)
    expr_few (grammar.Expr.unary {op = o} {e = e} is h) = omega (arith, size_unary site o e, expr_few h)
    expr_few (grammar.Expr.tighter h) = expr_few h
    expr_few (grammar.Expr.binary {op = o} {left = l} {right = r} is a b) = omega (arith, size_binary site o l r, operator_few o, expr_few a, expr_few b)

    others_few : {ts rest : List Numbered} {es : List RawExpr} → Others ts es rest → sizes site es + 2 * length rest ≤ 2 * length ts
    others_few grammar.Others.no_more = omega arith
    others_few (grammar.Others.one_more {e = e} {others = es} h o) = omega (arith, sizes-cons site e es, expr_few h, others_few o)

  mutual
    stmt_few : {ts rest : List Numbered} {s : RawStmt} → Stmt ts s rest → (points : List Point) → weight site s points + 2 * length rest ≤ 2 * length ts
    stmt_few (grammar.Stmt.set {x = x} {e = e} h) points = omega (arith, size_set site x e points, expr_few h)
    stmt_few (grammar.Stmt.set_cell {x = x} {index = index} {e = e} h g) points = omega (arith, size_set_cell site x index e points, expr_few h, expr_few g)
    stmt_few (grammar.Stmt.if_alone {test = test} {body = body} h b) points = omega (arith, size_if site test body points, expr_few h, block_few b points)
    stmt_few (grammar.Stmt.if_else {test = test} {body = body} {other = other} h b o) points =
        omega (arith, size_if_else site test body other points, expr_few h, block_few b points, block_few o (stmts_of site body points).1)
    stmt_few (grammar.Stmt.while_timed {test = test} {body = body} {n = n} h b) points = omega (arith, size_timed site n test body points, expr_few h, block_few b points)
    stmt_few (grammar.Stmt.while_bounded {test = test} {most = most} {body = body} {n = n} h b) points = omega (arith, size_bounded site n test most body points, expr_few h, block_few b points)
    stmt_few (grammar.Stmt.send {e = e} {stream = stream} {clock = clock} {after = after} {n = n} h) points = omega (arith, size_send site n e stream after clock points, expr_few h)
    stmt_few (grammar.Stmt.advance {count = count} {clock = clock} {n = n}) points = omega (arith, size_advance site n count clock None points)
    stmt_few (grammar.Stmt.advance_budget {count = count} {budget = budget} {clock = clock} {n = n}) points = omega (arith, size_advance site n count clock (Some budget) points)
    stmt_few (grammar.Stmt.return {e = e} {n = n} h) points = omega (arith, size_return site n e points, expr_few h)

    block_few : {ts rest : List Numbered} {body : List RawStmt} → Block ts body rest → (points : List Point) → weights site body points + 2 * length rest ≤ 2 * length ts
    block_few grammar.Block.close points = omega arith
    block_few (grammar.Block.next {first = s} {others = others} h b) points = omega (arith, stmt_few h points, block_few b (stmt_of site s points).1)

-- ---- declarations

abbrev functions_size : List FunctionDecl → ℕ
functions_size ds = total (map (λ f. stmts_size f.stmts + 2) ds)

abbrev agents_size : List AgentDecl → ℕ
agents_size ds = total (map (λ a. stmts_size a.stmts + 1) ds)

-- The size of what a declaration gives
abbrev size_in : List Item → ℕ → Item → ℕ
size_in items k i = functions_size (functions items k i) + agents_size (agents items k i)

declaration_few : (items : List Item) (k : ℕ) {ts rest : List Numbered} {i : Item} → Declaration ts i rest → size_in items k i + 2 * length rest ≤ 2 * length ts
declaration_few items k (grammar.Declaration.clock p s) = omega (arith, length-Behind (behind_both (behind_parent p) (behind_shift s)))
declaration_few items k (grammar.Declaration.temporal h) = omega (arith, length-Behind (behind_start h))
declaration_few items k (grammar.Declaration.input h) = omega (arith, length-Behind (behind_start h))
declaration_few items k grammar.Declaration.stream = omega arith
declaration_few items k (grammar.Declaration.function p m b) =
    omega (arith, length-Behind (behind_params p), length-Behind (behind_locals (agent_locals m)), block_few (inside_of items k) b [])
declaration_few items k (grammar.Declaration.agent {clock = clock} {budget = budget} m b) =
    omega (arith, length-Behind (behind_locals m), block_few (inside_of items k) b (head_point (global_number is_clock items clock) budget.value ∷ []))
declaration_few items k (grammar.Declaration.agent_on_processor {clock = clock} {budget = budget} m b) =
    omega (arith, length-Behind (behind_locals m), block_few (inside_of items k) b (head_point (global_number is_clock items clock) budget.value ∷ []))

total-append : {X : Type 0} (f : X → ℕ) (xs ys : List X) → total (map f (xs ++ ys)) ≡ total (map f xs) + total (map f ys)
total-append f [] ys = omega arith
total-append f (x ∷ xs) ys = omega (arith, total-append f xs ys)

program_few : (items : List Item) (k : ℕ) {ts : List Numbered} {is : List Item} → Program ts is → functions_size (each_from (functions items) k is) + agents_size (each_from (agents items) k is) ≤ 2 * length ts
program_few items k grammar.Program.end = omega arith
program_few items k (grammar.Program.next {first = i} {others = others} d p) =
    omega (
      arith,
      total-append (λ (f : FunctionDecl). stmts_size f.stmts + 2) (functions items k i) (each_from (functions items) (k + 1) others),
      total-append (λ (a : AgentDecl). stmts_size a.stmts + 1) (agents items k i) (each_from (agents items) (k + 1) others),
      declaration_few items k d,
      program_few items (k + 1) p,
    )

size_of_text : (raw : Raw) (tokens : List Token) → Spells raw tokens → unit_size (unit_of raw) ≤ 2 * length tokens
size_of_text raw tokens (grammar.Spells.program {items = items} e p) = omega (arith, length_of_numbered 0 tokens, ap length e, program_few items 0 p)

pub size_of_unit : (raw : Raw) (unit : Whole) (tokens : List Token) → Spells raw tokens → Stands unit raw → unit_size unit ≤ 2 * length tokens
size_of_unit raw unit tokens spells stands = subst (λ u. unit_size u ≤ 2 * length tokens) (sym stands.numbered) (size_of_text raw tokens spells)
