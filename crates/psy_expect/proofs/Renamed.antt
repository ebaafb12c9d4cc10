-- Other names and numbers in the place of those of tokens: what is spelled so is a program of the same form.
use Rattle.std.proofs.Common.{◌≡◌, ℕ, List, [], ◌∷◌, map, Option, Some, None, false, true, ap, ◌∙◌}
use Rattle.psy_tree.specs.declared.token.Kind.TheVariants as kinds
use Rattle.psy_tree.specs.declared.token.Token.{Token}
use Rattle.psy_tree.specs.declared.raw.Name.{Name}
use Rattle.psy_tree.specs.declared.raw.Lit.{Lit}
use Rattle.psy_tree.specs.declared.raw.Init.{Init}
use Rattle.psy_tree.specs.declared.raw.Raw.{Raw}
use Rattle.psy_tree.specs.declared.raw.Item.{Item}
use Rattle.psy_tree.specs.declared.raw.Item.TheVariants as items
use Rattle.psy_tree.specs.declared.raw.Local.{Local}
use Rattle.psy_tree.specs.declared.raw.Local.TheVariants as locals
use Rattle.psy_tree.specs.declared.raw.RawStmt.{RawStmt}
use Rattle.psy_tree.specs.declared.raw.RawStmt.TheVariants as stmts
use Rattle.psy_tree.specs.declared.raw.RawExpr.{RawExpr}
use Rattle.psy_tree.specs.declared.raw.RawExpr.TheVariants as exprs
use Rattle.psy_tree.specs.Grammar as grammar
use Rattle.psy_tree.specs.Grammar.{Numbered, numbered, Expr, Others, Stmt, Block, Start, FunctionLocal, AgentLocal, Many, Further, Params, Parent, Shift, Declaration, Program, Spells}

-- Which name or number the token of each number has instead of its own, by names and values
module _ (names : ℕ → List ℕ → List ℕ) (values : ℕ → ℕ → ℕ) where
  -- A token with the other name or number
  abbrev pub swap : Numbered → Numbered
  swap (n, kinds.Name text) = (n, kinds.Name (names n text))
  swap (n, kinds.Number value) = (n, kinds.Number (values n value))
  swap (n, kinds.Word w) = (n, kinds.Word w)
  swap (n, kinds.Sign s) = (n, kinds.Sign s)

  abbrev pub swaps : List Numbered → List Numbered
  swaps ts = map swap ts

  abbrev name : Name → Name
  name x = record { text = names x.token x.text; token = x.token }

  abbrev lit : Lit → Lit
  lit k = record { value = values k.token k.value; token = k.token }

  mutual
    expr : {level : ℕ} {ts rest : List Numbered} {e : RawExpr} → Expr level ts e rest → (f : RawExpr) × Expr level (swaps ts) f (swaps rest)
    expr (grammar.Expr.number {k = k}) = (exprs.Number (lit k), grammar.Expr.number)
    expr (grammar.Expr.variable {x = x}) = (exprs.Var (name x), grammar.Expr.variable)
    expr (grammar.Expr.cell {x = x} h) = let r = expr h in (exprs.Cell (name x) r.0, grammar.Expr.cell r.1)
    expr (grammar.Expr.call_of_none {f = f}) = (exprs.Call (name f) [], grammar.Expr.call_of_none)
    expr (grammar.Expr.call {f = f} h o) = let r = expr h in let s = others o in (exprs.Call (name f) (r.0 ∷ s.0), grammar.Expr.call r.1 s.1)
    expr (grammar.Expr.past {x = x} {back = back} {n = n}) = (exprs.Past n (name x) (lit back), grammar.Expr.past)
    expr (grammar.Expr.ready {x = x} {n = n}) = (exprs.Ready n (name x), grammar.Expr.ready)
    expr (grammar.Expr.take {x = x} {n = n}) = (exprs.Take n (name x), grammar.Expr.take)
    expr (grammar.Expr.cast {width = width} is h) = let r = expr h in (exprs.Cast width r.0, grammar.Expr.cast is r.1)
    expr (grammar.Expr.in_parentheses h) = let r = expr h in (r.0, grammar.Expr.in_parentheses r.1)
    expr (grammar.Expr.unary {op = op} is h) = let r = expr h in (exprs.Unary op r.0, grammar.Expr.unary is r.1)
    expr (grammar.Expr.tighter h) = let r = expr h in (r.0, grammar.Expr.tighter r.1)
    expr (grammar.Expr.binary {op = op} is a b) = let r = expr a in let s = expr b in (exprs.Binary op r.0 s.0, grammar.Expr.binary is r.1 s.1)

    others : {ts rest : List Numbered} {es : List RawExpr} → Others ts es rest → (fs : List RawExpr) × Others (swaps ts) fs (swaps rest)
    others grammar.Others.no_more = ([], grammar.Others.no_more)
    others (grammar.Others.one_more h o) = let r = expr h in let s = others o in (r.0 ∷ s.0, grammar.Others.one_more r.1 s.1)

  mutual
    stmt : {ts rest : List Numbered} {x : RawStmt} → Stmt ts x rest → (y : RawStmt) × Stmt (swaps ts) y (swaps rest)
    stmt (grammar.Stmt.set {x = x} h) = let r = expr h in (stmts.Set (name x) r.0, grammar.Stmt.set r.1)
    stmt (grammar.Stmt.set_cell {x = x} h i) = let r = expr h in let s = expr i in (stmts.SetCell (name x) r.0 s.0, grammar.Stmt.set_cell r.1 s.1)
    stmt (grammar.Stmt.if_alone h b) = let r = expr h in let s = block b in (stmts.If r.0 s.0 None, grammar.Stmt.if_alone r.1 s.1)
    stmt (grammar.Stmt.if_else h b o) = let r = expr h in let s = block b in let t = block o in (stmts.If r.0 s.0 (Some t.0), grammar.Stmt.if_else r.1 s.1 t.1)
    stmt (grammar.Stmt.while_timed {n = n} h b) = let r = expr h in let s = block b in (stmts.While n r.0 None s.0, grammar.Stmt.while_timed r.1 s.1)
    stmt (grammar.Stmt.while_bounded {most = most} {n = n} h b) = let r = expr h in let s = block b in (stmts.While n r.0 (Some (lit most)) s.0, grammar.Stmt.while_bounded r.1 s.1)
    stmt (grammar.Stmt.send {stream = stream} {clock = clock} {after = after} {n = n} h) = let r = expr h in (stmts.Send n r.0 (name stream) (lit after) (name clock), grammar.Stmt.send r.1)
    stmt (grammar.Stmt.advance {count = count} {clock = clock} {n = n}) = (stmts.Advance n (lit count) (name clock) None, grammar.Stmt.advance)
    stmt (grammar.Stmt.advance_budget {count = count} {budget = budget} {clock = clock} {n = n}) = (stmts.Advance n (lit count) (name clock) (Some (lit budget)), grammar.Stmt.advance_budget)
    stmt (grammar.Stmt.return {n = n} h) = let r = expr h in (stmts.Return n r.0, grammar.Stmt.return r.1)

    block : {ts rest : List Numbered} {xs : List RawStmt} → Block ts xs rest → (ys : List RawStmt) × Block (swaps ts) ys (swaps rest)
    block grammar.Block.close = ([], grammar.Block.close)
    block (grammar.Block.next h b) = let r = stmt h in let s = block b in (r.0 ∷ s.0, grammar.Block.next r.1 s.1)

  start : {ts rest : List Numbered} {x : Init} → Start ts x rest → (y : Init) × Start (swaps ts) y (swaps rest)
  start (grammar.Start.plain {k = k}) = (record { minus = false; value = lit k }, grammar.Start.plain)
  start (grammar.Start.negated {k = k}) = (record { minus = true; value = lit k }, grammar.Start.negated)

  function_local : {ts rest : List Numbered} {x : Local} → FunctionLocal ts x rest → (y : Local) × FunctionLocal (swaps ts) y (swaps rest)
  function_local (grammar.FunctionLocal.scalar {width = width} {x = x} is h) = let r = start h in (locals.Scalar width (name x) r.0, grammar.FunctionLocal.scalar is r.1)

  agent_local : {ts rest : List Numbered} {x : Local} → AgentLocal ts x rest → (y : Local) × AgentLocal (swaps ts) y (swaps rest)
  agent_local (grammar.AgentLocal.variable h) = let r = function_local h in (r.0, grammar.AgentLocal.variable r.1)
  agent_local (grammar.AgentLocal.array {width = width} {x = x} {cells = cells} is) = (locals.Array width (name x) (lit cells), grammar.AgentLocal.array is)

  many_of_function : {ts rest : List Numbered} {xs : List Local} → Many FunctionLocal ts xs rest → (ys : List Local) × Many FunctionLocal (swaps ts) ys (swaps rest)
  many_of_function grammar.Many.none = ([], grammar.Many.none)
  many_of_function (grammar.Many.more h m) = let r = function_local h in let s = many_of_function m in (r.0 ∷ s.0, grammar.Many.more r.1 s.1)

  many_of_agent : {ts rest : List Numbered} {xs : List Local} → Many AgentLocal ts xs rest → (ys : List Local) × Many AgentLocal (swaps ts) ys (swaps rest)
  many_of_agent grammar.Many.none = ([], grammar.Many.none)
  many_of_agent (grammar.Many.more h m) = let r = agent_local h in let s = many_of_agent m in (r.0 ∷ s.0, grammar.Many.more r.1 s.1)

  further : {ts rest : List Numbered} {xs : List Name} → Further ts xs rest → (ys : List Name) × Further (swaps ts) ys (swaps rest)
  further grammar.Further.no_more = ([], grammar.Further.no_more)
  further (grammar.Further.one_more {x = x} f) = let r = further f in (name x ∷ r.0, grammar.Further.one_more r.1)

  params : {ts rest : List Numbered} {xs : List Name} → Params ts xs rest → (ys : List Name) × Params (swaps ts) ys (swaps rest)
  params grammar.Params.without = ([], grammar.Params.without)
  params (grammar.Params.with_first {x = x} f) = let r = further f in (name x ∷ r.0, grammar.Params.with_first r.1)

  parent : {ts rest : List Numbered} {x : Option Name} → Parent ts x rest → (y : Option Name) × Parent (swaps ts) y (swaps rest)
  parent grammar.Parent.the_tick = (None, grammar.Parent.the_tick)
  parent (grammar.Parent.a_clock {x = x}) = (Some (name x), grammar.Parent.a_clock)

  shift : {ts rest : List Numbered} {x : Option Lit} → Shift ts x rest → (y : Option Lit) × Shift (swaps ts) y (swaps rest)
  shift grammar.Shift.without = (None, grammar.Shift.without)
  shift (grammar.Shift.shifted {k = k}) = (Some (lit k), grammar.Shift.shifted)

  declaration : {ts rest : List Numbered} {x : Item} → Declaration ts x rest → (y : Item) × Declaration (swaps ts) y (swaps rest)
  declaration (grammar.Declaration.clock {name = c} {by = by} p s) = let r = parent p in let t = shift s in (items.Clock (name c) (lit by) r.0 t.0, grammar.Declaration.clock r.1 t.1)
  declaration (grammar.Declaration.temporal {name = x} {owner = owner} {clock = c} {depth = depth} h) =
      let r = start h in (items.Temporal (name x) (name owner) (name c) r.0 (lit depth), grammar.Declaration.temporal r.1)
  declaration (grammar.Declaration.input {name = x} {clock = c} {depth = depth} h) = let r = start h in (items.Input (name x) (name c) r.0 (lit depth), grammar.Declaration.input r.1)
  declaration (grammar.Declaration.stream {name = x} {receiver = receiver} {clock = c} {keep = keep}) =
      (items.Stream (name x) (name receiver) (lit keep) (name c), grammar.Declaration.stream)
  declaration (grammar.Declaration.function {name = x} p m b) =
      let r = params p in let s = many_of_function m in let t = block b in (items.Function (name x) r.0 s.0 t.0, grammar.Declaration.function r.1 s.1 t.1)
  declaration (grammar.Declaration.agent {name = x} {clock = c} {budget = budget} {body = body} m b) =
      let r = many_of_agent m in let s = block b in (items.Agent (name x) (name c) None (lit budget) r.0 body s.0, grammar.Declaration.agent r.1 s.1)
  declaration (grammar.Declaration.agent_on_processor {name = x} {clock = c} {processor = processor} {budget = budget} {body = body} m b) =
      let r = many_of_agent m in let s = block b in
      (items.Agent (name x) (name c) (Some (lit processor)) (lit budget) r.0 body s.0, grammar.Declaration.agent_on_processor r.1 s.1)

  program : {ts : List Numbered} {xs : List Item} → Program ts xs → (ys : List Item) × Program (swaps ts) ys
  program grammar.Program.end = ([], grammar.Program.end)
  program (grammar.Program.next h p) = let r = declaration h in let s = program p in (r.0 ∷ s.0, grammar.Program.next r.1 s.1)

  -- The tokens with other names and numbers have a tree too
  pub spelled : (raw : Raw) (tokens swapped : List Token) → Spells raw tokens → numbered 0 swapped ≡ swaps (numbered 0 tokens) → (other : Raw) × Spells other swapped
  spelled _ tokens swapped (grammar.Spells.program {quantum = quantum} are p) same =
      let r = program p in (record { quantum = lit quantum; items = r.0 }, grammar.Spells.program (same ∙ ap swaps are) r.1)
