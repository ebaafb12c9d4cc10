-- Whether a path through statements meets an `advance`.
use Rattle.std.specs.Prelude.{ℕ, ◌+◌, Bool, true, false, ◌&&◌, ◌||◌, List, [], ◌∷◌, map, Option, Some, None}
use Rattle.psy_tree.specs.declared.raw.RawStmt.{RawStmt, fold-RawStmt}
use Rattle.psy_tree.specs.declared.raw.RawStmt.TheOpen.{RawStmt-F}

-- All of them.
abbrev pub all : List Bool → Bool
all [] = true
all (b ∷ bs) = b && all bs

-- All of them, or there is none.
abbrev pub all_or_none : Option (List Bool) → Bool
all_or_none None = true
all_or_none (Some bs) = all bs

-- An `advance` isn't quiet. An `if` is where a branch is, or where it has no `else`. All else is.
abbrev pub quiet_step : RawStmt-F Bool → Bool
quiet_step (RawStmt-F.Advance token n clock budget) = false
quiet_step (RawStmt-F.If test branch other) = all branch || all_or_none other
quiet_step _ = true

-- A path through the statement has no `advance`.
abbrev pub quiet : RawStmt → Bool
quiet = fold-RawStmt Bool quiet_step

-- A path through the whole list has none: it is quiet where each of its statements is.
abbrev pub quiet_list : List RawStmt → Bool
quiet_list stmts = all (map quiet stmts)

-- The sum of these numbers
abbrev pub total : List ℕ → ℕ
total [] = 0
total (n ∷ ns) = n + total ns

-- Their sum, or 0 where there is no list.
abbrev pub total_or_none : Option (List ℕ) → ℕ
total_or_none None = 0
total_or_none (Some ns) = total ns

-- An `advance` is one. An `if` holds those of its branches, a loop those of its body, and all else none.
abbrev pub advances_step : RawStmt-F ℕ → ℕ
advances_step (RawStmt-F.Advance token n clock budget) = 1
advances_step (RawStmt-F.If test branch other) = total branch + total_or_none other
advances_step (RawStmt-F.While token test most body) = total body
advances_step _ = 0

-- How many `advance` statements stand in it, at any depth.
abbrev pub advances : RawStmt → ℕ
advances = fold-RawStmt ℕ advances_step

-- How many stand in a list of statements, at any depth.
abbrev pub advances_list : List RawStmt → ℕ
advances_list stmts = total (map advances stmts)
