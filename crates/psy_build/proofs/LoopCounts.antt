-- A bounded loop is spelled by at least eight tokens.
use Rattle.std.proofs.Common.{◌≡◌, ℕ, ◌+◌, ◌*◌, ◌≤◌, List, [], ◌∷◌, length, Option, Some, None, sym, ap, subst, ◌∙◌, arith}
use Rattle.psy_meaning.proofs.lemmas.Eaches.{each-append}
use Rattle.psy_meaning.specs.Depths.{loops, loops_in, loops_step}
use Rattle.psy_meaning.specs.Sound.{Each}
use Rattle.psy_tree.proofs.lemmas.Tails.{length-Behind, behind_params, behind_locals, behind_declaration, agent_locals}
use Rattle.psy_tree.proofs.lemmas.TokenCounts.{length_of_numbered}
use Rattle.psy_tree.specs.declared.raw.Item.{Item}
use Rattle.psy_tree.specs.declared.raw.Lit.{Lit}
use Rattle.psy_tree.specs.declared.raw.Name.{Name}
use Rattle.psy_tree.specs.declared.raw.Raw.{Raw}
use Rattle.psy_tree.specs.declared.raw.RawExpr.{RawExpr}
use Rattle.psy_tree.specs.declared.raw.RawStmt.{RawStmt, roll-RawStmt, map-RawStmt, fold-roll-RawStmt}
use Rattle.psy_tree.specs.declared.raw.RawStmt.TheVariants as stmt
use Rattle.psy_tree.specs.declared.raw.RawStmt.TheOpen.{RawStmt-F}
use Rattle.psy_tree.specs.declared.reach.Found.{Found}
use Rattle.psy_tree.specs.declared.reach.Found.TheVariants as found
use Rattle.psy_tree.specs.declared.token.Token.{Token}
use Rattle.psy_tree.specs.declared.unit.AgentDecl.{AgentDecl}
use Rattle.psy_tree.specs.declared.unit.Expr.{Expr as Tree}
use Rattle.psy_tree.specs.declared.unit.FunctionDecl.{FunctionDecl}
use Rattle.psy_tree.specs.declared.unit.Point.{Point}
use Rattle.psy_tree.specs.declared.unit.Stmt.{Stmt as Built, roll-Stmt, map-Stmt, fold-roll-Stmt}
use Rattle.psy_tree.specs.declared.unit.Stmt.TheOpen.{Stmt-F}
use Rattle.psy_tree.specs.declared.unit.Unit.{Unit as Whole}
use Rattle.psy_tree.specs.Grammar.{Numbered, numbered, Expr, Others, Stmt, Block, Declaration, Program, Spells}
use Rattle.psy_tree.specs.Grammar as grammar
use Rattle.psy_tree.specs.Rules.{is_clock}
use Rattle.psy_tree.specs.Scope.{Site, stands_for}
use Rattle.psy_tree.specs.Stands.{Numbering, Stands, stmt_of, stmt_step, stmts_of, set_by, functions, agents, each_from, inside_of, head_point, global_number, unit_of, expr_into, width_at}

-- ---- expressions take tokens

mutual
  expr_takes : {level : ℕ} {ts rest : List Numbered} {e : RawExpr} → Expr level ts e rest → length rest + 1 ≤ length ts
  expr_takes grammar.Expr.number = omega arith
  expr_takes grammar.Expr.variable = omega arith
  expr_takes (grammar.Expr.cell h) = omega (arith, expr_takes h)
  expr_takes grammar.Expr.call_of_none = omega arith
  expr_takes (grammar.Expr.call h o) = omega (arith, expr_takes h, others_take o)
  expr_takes grammar.Expr.past = omega arith
  expr_takes grammar.Expr.ready = omega arith
  expr_takes grammar.Expr.take = omega arith
  expr_takes (grammar.Expr.cast is h) = omega (arith, expr_takes h)
  expr_takes (grammar.Expr.in_parentheses h) = omega (arith, expr_takes h)
  expr_takes (grammar.Expr.unary is h) = omega (arith, expr_takes h)
  expr_takes (grammar.Expr.tighter h) = expr_takes h
  expr_takes (grammar.Expr.binary is l r) = omega (arith, expr_takes l, expr_takes r)

  others_take : {ts rest : List Numbered} {es : List RawExpr} → Others ts es rest → length rest + 1 ≤ length ts
  others_take grammar.Others.no_more = omega arith
  others_take (grammar.Others.one_more h o) = omega (arith, expr_takes h, others_take o)

-- ---- the loops of each kind of statement

rolled : (x : Stmt-F Built) → loops (roll-Stmt x) ≡ loops_step (map-Stmt Built ℕ loops x)
rolled x = fold-roll-Stmt ℕ loops_step x

module _ (site : Site) where
  abbrev count : RawStmt → List Point → ℕ
  count s points = loops (stmt_of site s points).0

  abbrev counts : List RawStmt → List Point → ℕ
  counts body points = loops_in (stmts_of site body points).0

  stepped : (s : RawStmt) (x : RawStmt-F RawStmt) (points : List Point) → roll-RawStmt x ≡ s → count s points ≡ loops (stmt_step site (map-RawStmt RawStmt (Numbering Built) (stmt_of site) x) points).0
  stepped s x points is = ap (λ z. count z points) (sym is) ∙ ap (λ (n : Numbering Built). loops (n points).0) (fold-roll-RawStmt (Numbering Built) (stmt_step site) x)

  in_set : (f : Option Found) (value : Tree) → loops (set_by site f value) ≡ 0
  in_set (Some (found.Item k)) value = rolled _
  in_set (Some (found.Slot k)) value = rolled _
  in_set None value = rolled _

  of_set : (x : Name) (e : RawExpr) (points : List Point) → count (stmt.Set x e) points ≡ 0
  of_set x e points =
      stepped _ (RawStmt-F.Set x e) points (stmt.rolls-Set x e)
      ∙ in_set (stands_for site x.text) (expr_into site (width_at site (stands_for site x.text)) e)

  of_set_cell : (x : Name) (index e : RawExpr) (points : List Point) → count (stmt.SetCell x index e) points ≡ 0
  of_set_cell x index e points = stepped _ (RawStmt-F.SetCell x index e) points (stmt.rolls-SetCell x index e) ∙ rolled _

  of_if : (test : RawExpr) (body : List RawStmt) (points : List Point) → count (stmt.If test body None) points ≡ counts body points + 0
  of_if test body points = stepped _ (RawStmt-F.If test body None) points (stmt.rolls-If test body None) ∙ rolled _

  of_if_else : (test : RawExpr) (body other : List RawStmt) (points : List Point) → count (stmt.If test body (Some other)) points ≡ counts body points + counts other (stmts_of site body points).1
  of_if_else test body other points = stepped _ (RawStmt-F.If test body (Some other)) points (stmt.rolls-If test body (Some other)) ∙ rolled _

  of_timed : (n : ℕ) (test : RawExpr) (body : List RawStmt) (points : List Point) → count (stmt.While n test None body) points ≡ counts body points
  of_timed n test body points = stepped _ (RawStmt-F.While n test None body) points (stmt.rolls-While n test None body) ∙ rolled _

  of_bounded : (n : ℕ) (test : RawExpr) (most : Lit) (body : List RawStmt) (points : List Point) → count (stmt.While n test (Some most) body) points ≡ counts body points + 1
  of_bounded n test most body points = stepped _ (RawStmt-F.While n test (Some most) body) points (stmt.rolls-While n test (Some most) body) ∙ rolled _

  of_send : (n : ℕ) (e : RawExpr) (stream : Name) (after : Lit) (clock : Name) (points : List Point) → count (stmt.Send n e stream after clock) points ≡ 0
  of_send n e stream after clock points = stepped _ (RawStmt-F.Send n e stream after clock) points (stmt.rolls-Send n e stream after clock) ∙ rolled _

  of_advance : (n : ℕ) (k : Lit) (clock : Name) (budget : Option Lit) (points : List Point) → count (stmt.Advance n k clock budget) points ≡ 0
  of_advance n k clock budget points = stepped _ (RawStmt-F.Advance n k clock budget) points (stmt.rolls-Advance n k clock budget) ∙ rolled _

  of_return : (n : ℕ) (e : RawExpr) (points : List Point) → count (stmt.Return n e) points ≡ 0
  of_return n e points = stepped _ (RawStmt-F.Return n e) points (stmt.rolls-Return n e) ∙ rolled _

  -- ---- and their tokens

  mutual
    stmt_few : {ts rest : List Numbered} {s : RawStmt} → Stmt ts s rest → (points : List Point) → 8 * count s points + length rest ≤ length ts
    stmt_few (grammar.Stmt.set {x = x} {e = e} h) points = omega (arith, of_set x e points, expr_takes h)
    stmt_few (grammar.Stmt.set_cell {x = x} {index = index} {e = e} h g) points = omega (arith, of_set_cell x index e points, expr_takes h, expr_takes g)
    stmt_few (grammar.Stmt.if_alone {test = test} {body = body} h b) points = omega (arith, of_if test body points, expr_takes h, block_few b points)
    stmt_few (grammar.Stmt.if_else {test = test} {body = body} {other = other} h b o) points =
        omega (arith, of_if_else test body other points, expr_takes h, block_few b points, block_few o (stmts_of site body points).1)
    stmt_few (grammar.Stmt.while_timed {test = test} {body = body} {n = n} h b) points = omega (arith, of_timed n test body points, expr_takes h, block_few b points)
    stmt_few (grammar.Stmt.while_bounded {test = test} {most = most} {body = body} {n = n} h b) points = omega (arith, of_bounded n test most body points, expr_takes h, block_few b points)
    stmt_few (grammar.Stmt.send {e = e} {stream = stream} {clock = clock} {after = after} {n = n} h) points = omega (arith, of_send n e stream after clock points, expr_takes h)
    stmt_few (grammar.Stmt.advance {count = count} {clock = clock} {n = n}) points = omega (arith, of_advance n count clock None points)
    stmt_few (grammar.Stmt.advance_budget {count = count} {budget = budget} {clock = clock} {n = n}) points = omega (arith, of_advance n count clock (Some budget) points)
    stmt_few (grammar.Stmt.return {e = e} {n = n} h) points = omega (arith, of_return n e points, expr_takes h)

    block_few : {ts rest : List Numbered} {body : List RawStmt} → Block ts body rest → (points : List Point) → 8 * counts body points + length rest + 1 ≤ length ts
    block_few grammar.Block.close points = omega arith
    block_few (grammar.Block.next {first = s} {others = others} h b) points = omega (arith, stmt_few h points, block_few b (stmt_of site s points).1)

-- ---- declarations

-- Functions and agents with at most so many tokens
abbrev FewIn : ℕ → List FunctionDecl → List AgentDecl → Type 0
FewIn n fs crew = Each (λ (f : FunctionDecl). 8 * loops_in f.stmts ≤ n) fs × Each (λ (a : AgentDecl). 8 * loops_in a.stmts ≤ n) crew

declaration_few : (items : List Item) (k n : ℕ) {ts rest : List Numbered} {i : Item} → Declaration ts i rest → length ts ≤ n → FewIn n (functions items k i) (agents items k i)
declaration_few items k n (grammar.Declaration.clock p s) short = (tt {0}, tt)
declaration_few items k n (grammar.Declaration.temporal h) short = (tt {0}, tt)
declaration_few items k n (grammar.Declaration.input h) short = (tt {0}, tt)
declaration_few items k n grammar.Declaration.stream short = (tt {0}, tt)
declaration_few items k n (grammar.Declaration.function p m b) short =
    ((omega (arith, short, length-Behind (behind_params p), length-Behind (behind_locals (agent_locals m)), block_few (inside_of items k) b []), tt {0}), tt)
declaration_few items k n (grammar.Declaration.agent {clock = clock} {budget = budget} m b) short =
    (tt {0}, (omega (arith, short, length-Behind (behind_locals m), block_few (inside_of items k) b (head_point (global_number is_clock items clock) budget.value ∷ [])), tt {0}))
declaration_few items k n (grammar.Declaration.agent_on_processor {clock = clock} {budget = budget} m b) short =
    (tt {0}, (omega (arith, short, length-Behind (behind_locals m), block_few (inside_of items k) b (head_point (global_number is_clock items clock) budget.value ∷ [])), tt {0}))

program_few : (items : List Item) (k n : ℕ) {ts : List Numbered} {is : List Item} → Program ts is → length ts ≤ n → FewIn n (each_from (functions items) k is) (each_from (agents items) k is)
program_few items k n grammar.Program.end short = (tt {0}, tt)
program_few items k n (grammar.Program.next {first = i} {others = others} d p) short =
    let first = declaration_few items k n d short in
    let more = program_few items (k + 1) n p (omega (arith, short, length-Behind (behind_declaration d))) in (
      each-append (λ (f : FunctionDecl). 8 * loops_in f.stmts ≤ n) (functions items k i) (each_from (functions items) (k + 1) others) first.0 more.0,
      each-append (λ (a : AgentDecl). 8 * loops_in a.stmts ≤ n) (agents items k i) (each_from (agents items) (k + 1) others) first.1 more.1,
    )

few_of_text : (raw : Raw) (tokens : List Token) → Spells raw tokens → FewIn (length tokens) (unit_of raw).functions (unit_of raw).agents
few_of_text raw tokens (grammar.Spells.program {items = items} e p) = program_few items 0 (length tokens) p (omega (arith, length_of_numbered 0 tokens, ap length e))

-- Loops of a unit's functions and agents are few.
pub few_loops : (raw : Raw) (unit : Whole) (tokens : List Token) → Spells raw tokens → Stands unit raw → FewIn (length tokens) unit.functions unit.agents
few_loops raw unit tokens spells stands = subst (λ u. FewIn (length tokens) u.functions u.agents) (sym stands.numbered) (few_of_text raw tokens spells)
