-- What statements hold, and whether a path through them meets an `advance`.
use Rattle.std.specs.Prelude.{◌≡◌, ℕ, Bool, true, false, ◌||◌, List, [], ◌∷◌, ◌++◌, map, Some, None}
use Rattle.std.specs.List.{All, concat, list_all, list_any}
use Rattle.psy_tree.specs.declared.unit.FunctionDecl.{FunctionDecl}
use Rattle.psy_tree.specs.declared.unit.Stmt.{Stmt, fold-Stmt}
use Rattle.psy_tree.specs.declared.unit.Stmt.TheOpen.{Stmt-F}

-- One of them holds.
abbrev pub one_of : List Bool → Bool
one_of bs = list_any (λ b. b) bs

-- Whether a statement holds one that counts: an `advance`, or a `return`.
abbrev pub holds_step : Bool → Bool → Stmt-F Bool → Bool
holds_step advance back (Stmt-F.Advance point) = advance
holds_step advance back (Stmt-F.Return value) = back
holds_step advance back (Stmt-F.If test branch None) = one_of branch
holds_step advance back (Stmt-F.If test branch (Some other)) = one_of branch || one_of other
holds_step advance back (Stmt-F.Bounded test most body) = one_of body
holds_step advance back (Stmt-F.Timed test body) = one_of body
holds_step advance back _ = false

-- A statement is one that counts, or holds one at any depth.
abbrev pub holds : Bool → Bool → Stmt → Bool
holds advance back = fold-Stmt Bool (holds_step advance back)

-- One of the statements is or holds an `advance`.
abbrev pub holds_advance : List Stmt → Bool
holds_advance stmts = list_any (holds true false) stmts

-- One of the statements is or holds a `return`.
abbrev pub holds_return : List Stmt → Bool
holds_return stmts = list_any (holds false true) stmts

-- The points of the `advance` statements in a statement, in the order of the text, once those of its parts are known
abbrev pub advances_step : Stmt-F (List ℕ) → List ℕ
advances_step (Stmt-F.Advance point) = point ∷ []
advances_step (Stmt-F.If test branch None) = concat branch
advances_step (Stmt-F.If test branch (Some other)) = concat branch ++ concat other
advances_step (Stmt-F.Bounded test most body) = concat body
advances_step (Stmt-F.Timed test body) = concat body
advances_step _ = []

-- The points of the `advance` statements in a statement
abbrev pub advances_of : Stmt → List ℕ
advances_of = fold-Stmt (List ℕ) advances_step

-- The points of the `advance` statements in a list of statements, in the order of the text
abbrev pub advances_in : List Stmt → List ℕ
advances_in stmts = concat (map advances_of stmts)

-- No function holds an `advance`.
abbrev pub NoneAdvances : List FunctionDecl → Type 0
NoneAdvances functions = All (λ f. holds_advance f.stmts ≡ false) functions

-- All of them hold.
abbrev pub all_quiet : List Bool → Bool
all_quiet bs = list_all (λ b. b) bs

-- A path through a statement meets no `advance`: an `advance` isn't quiet, an `if` is where a branch is or there is no
-- `else`, and all else is.
abbrev pub quiet_step : Stmt-F Bool → Bool
quiet_step (Stmt-F.Advance point) = false
quiet_step (Stmt-F.If test branch (Some other)) = all_quiet branch || all_quiet other
quiet_step _ = true

-- A path through a statement meets no `advance`.
abbrev pub quiet : Stmt → Bool
quiet = fold-Stmt Bool quiet_step

-- A list is quiet where each of its statements is.
abbrev pub quiet_list : List Stmt → Bool
quiet_list stmts = list_all quiet stmts
