-- What spells a tree stands before an end of the tokens.
use Rattle.std.proofs.Common.{ℕ, ◌≤◌, List, ◌∷◌, length, Option, arith}
use Rattle.std.specs.List.{AllByRecursion}
use Rattle.psy_tree.specs.declared.raw.Name.{Name}
use Rattle.psy_tree.specs.declared.raw.Lit.{Lit}
use Rattle.psy_tree.specs.declared.raw.Init.{Init}
use Rattle.psy_tree.specs.declared.raw.Local.{Local}
use Rattle.psy_tree.specs.declared.raw.Item.{Item}
use Rattle.psy_tree.specs.declared.raw.RawExpr.{RawExpr}
use Rattle.psy_tree.specs.declared.raw.RawStmt.{RawStmt}
use Rattle.psy_tree.specs.Grammar.{Numbered, Expr, Others, Stmt, Block, Start, FunctionLocal, AgentLocal, Many, Further, Params, Parent, Shift, Declaration}
use Rattle.psy_tree.specs.Grammar as grammar

-- The second list is an end of the first
pub data Behind : List Numbered → List Numbered → Type 0 where
  here : {ts : List Numbered} → Behind ts ts
  there : {t : Numbered} {ts rest : List Numbered} → Behind ts rest → Behind (t ∷ ts) rest

pub behind_both : {ts us rest : List Numbered} → Behind ts us → Behind us rest → Behind ts rest
behind_both here b = b
behind_both (there a) b = there (behind_both a b)

pub behind_one : {t : Numbered} {ts rest : List Numbered} → Behind ts (t ∷ rest) → Behind ts rest
behind_one b = behind_both b (there here)

behind_two : {t u : Numbered} {ts rest : List Numbered} → Behind ts (t ∷ u ∷ rest) → Behind ts rest
behind_two b = behind_one (behind_one b)

pub length-Behind : {ts rest : List Numbered} → Behind ts rest → length rest ≤ length ts
length-Behind here = omega arith
length-Behind (there b) = omega (arith, length-Behind b)

pub all_behind : (P : Numbered → Type 0) {ts rest : List Numbered} → Behind ts rest → AllByRecursion P ts → AllByRecursion P rest
all_behind P here all = all
all_behind P (there b) all = all_behind P b all.1

mutual
  behind_expr : {level : ℕ} {ts rest : List Numbered} {e : RawExpr} → Expr level ts e rest → Behind ts rest
  behind_expr grammar.Expr.number = there here
  behind_expr grammar.Expr.variable = there here
  behind_expr (grammar.Expr.cell h) = there (there (behind_one (behind_expr h)))
  behind_expr grammar.Expr.call_of_none = there (there (there here))
  behind_expr (grammar.Expr.call h o) = there (there (behind_both (behind_expr h) (behind_others o)))
  behind_expr grammar.Expr.past = there (there (there (there (there (there here)))))
  behind_expr grammar.Expr.ready = there (there (there (there here)))
  behind_expr grammar.Expr.take = there (there (there (there here)))
  behind_expr (grammar.Expr.cast is h) = there (there (behind_one (behind_expr h)))
  behind_expr (grammar.Expr.in_parentheses h) = there (behind_one (behind_expr h))
  behind_expr (grammar.Expr.unary is h) = there (behind_expr h)
  behind_expr (grammar.Expr.tighter h) = behind_expr h
  behind_expr (grammar.Expr.binary is l r) = behind_both (behind_one (behind_expr l)) (behind_expr r)

  behind_others : {ts rest : List Numbered} {es : List RawExpr} → Others ts es rest → Behind ts rest
  behind_others grammar.Others.no_more = there here
  behind_others (grammar.Others.one_more h o) = there (behind_both (behind_expr h) (behind_others o))

mutual
  behind_stmt : {ts rest : List Numbered} {s : RawStmt} → Stmt ts s rest → Behind ts rest
  behind_stmt (grammar.Stmt.set h) = there (there (behind_one (behind_expr h)))
  behind_stmt (grammar.Stmt.set_cell h g) = there (there (behind_both (behind_two (behind_expr h)) (behind_one (behind_expr g))))
  behind_stmt (grammar.Stmt.if_alone h b) = there (there (behind_both (behind_two (behind_expr h)) (behind_block b)))
  behind_stmt (grammar.Stmt.if_else h b o) = there (there (behind_both (behind_two (behind_expr h)) (behind_both (behind_two (behind_block b)) (behind_block o))))
  behind_stmt (grammar.Stmt.while_timed h b) = there (there (behind_both (behind_two (behind_expr h)) (behind_block b)))
  behind_stmt (grammar.Stmt.while_bounded h b) = there (there (behind_both (behind_two (behind_two (behind_expr h))) (behind_block b)))
  behind_stmt (grammar.Stmt.send h) = there (behind_two (behind_two (behind_two (behind_one (behind_expr h)))))
  behind_stmt grammar.Stmt.advance = there (there (there (there (there here))))
  behind_stmt grammar.Stmt.advance_budget = there (there (there (there (there (there (there here))))))
  behind_stmt (grammar.Stmt.return h) = there (behind_one (behind_expr h))

  behind_block : {ts rest : List Numbered} {body : List RawStmt} → Block ts body rest → Behind ts rest
  behind_block grammar.Block.close = there here
  behind_block (grammar.Block.next s b) = behind_both (behind_stmt s) (behind_block b)

pub behind_start : {ts rest : List Numbered} {i : Init} → Start ts i rest → Behind ts rest
behind_start grammar.Start.plain = there here
behind_start grammar.Start.negated = there (there here)

behind_function_local : {ts rest : List Numbered} {x : Local} → FunctionLocal ts x rest → Behind ts rest
behind_function_local (grammar.FunctionLocal.scalar is h) = there (there (there (behind_one (behind_start h))))

pub behind_local : {ts rest : List Numbered} {x : Local} → AgentLocal ts x rest → Behind ts rest
behind_local (grammar.AgentLocal.variable h) = behind_function_local h
behind_local (grammar.AgentLocal.array is) = there (there (there (there (there (there here)))))

-- A function's locals are spelled as those of an agent
pub agent_locals : {ts rest : List Numbered} {xs : List Local} → Many FunctionLocal ts xs rest → Many AgentLocal ts xs rest
agent_locals grammar.Many.none = grammar.Many.none
agent_locals (grammar.Many.more h m) = grammar.Many.more (grammar.AgentLocal.variable h) (agent_locals m)

pub behind_locals : {ts rest : List Numbered} {xs : List Local} → Many AgentLocal ts xs rest → Behind ts rest
behind_locals grammar.Many.none = here
behind_locals (grammar.Many.more h m) = behind_both (behind_local h) (behind_locals m)

behind_further : {ts rest : List Numbered} {xs : List Name} → Further ts xs rest → Behind ts rest
behind_further grammar.Further.no_more = there here
behind_further (grammar.Further.one_more f) = there (there (there (behind_further f)))

pub behind_params : {ts rest : List Numbered} {xs : List Name} → Params ts xs rest → Behind ts rest
behind_params grammar.Params.without = there here
behind_params (grammar.Params.with_first f) = there (there (behind_further f))

pub behind_parent : {ts rest : List Numbered} {p : Option Name} → Parent ts p rest → Behind ts rest
behind_parent grammar.Parent.the_tick = there here
behind_parent grammar.Parent.a_clock = there here

pub behind_shift : {ts rest : List Numbered} {s : Option Lit} → Shift ts s rest → Behind ts rest
behind_shift grammar.Shift.without = there here
behind_shift grammar.Shift.shifted = there (there (there here))

pub behind_declaration : {ts rest : List Numbered} {i : Item} → Declaration ts i rest → Behind ts rest
behind_declaration (grammar.Declaration.clock p s) = there (there (there (there (there (behind_both (behind_parent p) (behind_shift s))))))
behind_declaration (grammar.Declaration.temporal h) = there (there (there (there (there (there (there (behind_one (behind_two (behind_start h)))))))))
behind_declaration (grammar.Declaration.input h) = there (there (there (there (there (behind_one (behind_two (behind_start h)))))))
behind_declaration grammar.Declaration.stream = there (there (there (there (there (there (there (there (there here))))))))
behind_declaration (grammar.Declaration.function p m b) = there (there (there (behind_both (behind_one (behind_params p)) (behind_both (behind_locals (agent_locals m)) (behind_block b)))))
behind_declaration (grammar.Declaration.agent m b) = there (there (there (there (there (there (there (behind_both (behind_two (behind_locals m)) (behind_one (behind_block b)))))))))
behind_declaration (grammar.Declaration.agent_on_processor m b) = there (there (there (there (there (there (there (there (there (behind_both (behind_two (behind_locals m)) (behind_one (behind_block b)))))))))))
