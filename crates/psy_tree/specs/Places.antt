-- The places of a program that rules speak of, each with where it stands.
use Rattle.std.specs.Prelude.{ℕ, ◌+◌, ◌-◌, ◌^◌, Bool, true, false, nat_lt, if◌then◌else◌, List, [], ◌∷◌, ◌++◌, map, length, Option, Some, None, is_some}
use mir.Val.{bits}
use Rattle.psy_arith.specs.declared.width.Width.{Width}
use Rattle.psy_arith.specs.Widths.{of_type}
use Rattle.psy_base.specs.declared.limits.TheConstants.{QUANTUM, BUDGET, DEPTH, KEEP, ADVANCE, AFTER, TURNS, CELLS, PROCESSORS}
use Rattle.psy_tree.specs.declared.raw.Name.{Name}
use Rattle.psy_tree.specs.declared.raw.Lit.{Lit}
use Rattle.psy_tree.specs.declared.raw.Local.{Local}
use Rattle.psy_tree.specs.declared.raw.Local.TheVariants as local
use Rattle.psy_tree.specs.declared.raw.Item.{Item}
use Rattle.psy_tree.specs.declared.raw.Item.TheVariants as item
use Rattle.psy_tree.specs.declared.raw.Raw.{Raw}
use Rattle.psy_tree.specs.declared.raw.RawExpr.{RawExpr, fold-RawExpr}
use Rattle.psy_tree.specs.declared.raw.RawExpr.TheOpen.{RawExpr-F}
use Rattle.psy_tree.specs.declared.raw.RawStmt.{RawStmt, para-RawStmt}
use Rattle.psy_tree.specs.declared.raw.RawStmt.TheOpen.{RawStmt-F}
use Rattle.psy_tree.specs.declared.reach.Asks.{Asks}
use Rattle.psy_tree.specs.declared.reach.Asks.TheVariants as asks
use Rattle.psy_tree.specs.Scope.{SlotName, slots_of, Site}
use Rattle.psy_tree.specs.Paths.{quiet_list, advances_list}

-- A place that rules speak of: a name, a word or a number, and what they must know of it.
pub data Place : Type 0 where
  -- the name that a declaration gives
  NamesItem : (name : Name) → Place
  -- the name of slot k
  NamesSlot : (k : ℕ) (name : Name) → Place
  -- the name of a clock, as that of what its numbers and its parent make
  Derives : (name : Name) → Place
  -- a name that is used, and what is asked of it
  Uses : (name : Name) (what : Asks) → Place
  -- the number of `past(name, back)`
  LooksBack : (name : Name) (back : Lit) → Place
  -- the word `past`, `ready`, `take`, `send` or `advance`
  Acts : (token : ℕ) → Place
  -- the word `return`
  Returns : (token : ℕ) → Place
  -- the word `while`: whether it has `max`, whether an `advance` stands in its body, and whether a path
  -- through the body has none
  Loops : (token : ℕ) (bounded advances quiet : Bool) → Place
  -- the word `body`, and whether a path through the body has no `advance`
  HasBody : (token : ℕ) (quiet : Bool) → Place
  -- a number, and its range
  Ranges : (number : Lit) (low high : ℕ) → Place

-- The token that a fault at the place names.
abbrev pub token_of : Place → ℕ
token_of (NamesItem name) = name.token
token_of (NamesSlot k name) = name.token
token_of (Derives name) = name.token
token_of (Uses name what) = name.token
token_of (LooksBack name back) = back.token
token_of (Acts token) = token
token_of (Returns token) = token
token_of (Loops token bounded advances quiet) = token
token_of (HasBody token quiet) = token
token_of (Ranges number low high) = number.token

-- The lists as one, each behind the one before it.
abbrev pub joined : {A : Type 0} → List (List A) → List A
joined [] = []
joined (xs ∷ xss) = xs ++ joined xss

-- The same, and the empty list where there are none.
abbrev pub joined_or_none : {A : Type 0} → Option (List (List A)) → List A
joined_or_none None = []
joined_or_none (Some xss) = joined xss

-- Of an expression
abbrev pub expr_places_step : RawExpr-F (List Place) → List Place
expr_places_step (RawExpr-F.Number number) = []
expr_places_step (RawExpr-F.Var name) = Uses name asks.Value ∷ []
expr_places_step (RawExpr-F.Cell name index) = Uses name asks.Cell ∷ index
expr_places_step (RawExpr-F.Past token name back) = Acts token ∷ (Uses name asks.Past ∷ (LooksBack name back ∷ []))
expr_places_step (RawExpr-F.Ready token name) = Acts token ∷ (Uses name asks.Messages ∷ [])
expr_places_step (RawExpr-F.Take token name) = Acts token ∷ (Uses name asks.Messages ∷ [])
expr_places_step (RawExpr-F.Unary op operand) = operand
expr_places_step (RawExpr-F.Binary op left right) = left ++ right
expr_places_step (RawExpr-F.Cast width operand) = operand
expr_places_step (RawExpr-F.Call name arguments) = Uses name (asks.Call (length arguments)) ∷ joined arguments

-- All places of an expression
abbrev pub expr_places : RawExpr → List Place
expr_places = fold-RawExpr (List Place) expr_places_step

-- Of the budget of an `advance`, where one is written
abbrev pub budget_places : Option Lit → List Place
budget_places None = []
budget_places (Some budget) = Ranges budget 1 BUDGET ∷ []

-- Of the number behind `max`, where a loop has one
abbrev pub most_places : Option Lit → List Place
most_places None = []
most_places (Some most) = Ranges most 1 TURNS ∷ []

-- Of a statement: each part as it stands, and its own places
abbrev pub stmt_places_step : RawStmt-F (RawStmt × List Place) → List Place
stmt_places_step (RawStmt-F.Set name value) = Uses name asks.Value ∷ expr_places value
stmt_places_step (RawStmt-F.SetCell name index value) = Uses name asks.Cell ∷ (expr_places index ++ expr_places value)
stmt_places_step (RawStmt-F.If test branch None) = expr_places test ++ joined (map (λ s. s.1) branch)
stmt_places_step (RawStmt-F.If test branch (Some other)) = expr_places test ++ (joined (map (λ s. s.1) branch) ++ joined (map (λ s. s.1) other))
stmt_places_step (RawStmt-F.While token test most body) =
    expr_places test ++ (most_places most ++ (joined (map (λ s. s.1) body)
    ++ Loops token (is_some most) (nat_lt 0 (advances_list (map (λ s. s.0) body))) (quiet_list (map (λ s. s.0) body)) ∷ []))
stmt_places_step (RawStmt-F.Send token value stream after clock) =
    Acts token ∷ (expr_places value ++ (Uses stream asks.Target ∷ (Ranges after 0 AFTER ∷ (Uses clock asks.Clock ∷ []))))
stmt_places_step (RawStmt-F.Advance token count clock budget) =
    Acts token ∷ (Ranges count 1 ADVANCE ∷ (Uses clock asks.Clock ∷ budget_places budget))
stmt_places_step (RawStmt-F.Return token value) = Returns token ∷ expr_places value

-- All places of a statement
abbrev pub stmt_places : RawStmt → List Place
stmt_places = para-RawStmt (List Place) stmt_places_step

-- All places of a list of statements
abbrev pub stmts_places : List RawStmt → List Place
stmts_places stmts = joined (map stmt_places stmts)

-- Of a clock's parent, where it isn't `tick`
abbrev pub parent_places : Option Name → List Place
parent_places None = []
parent_places (Some parent) = Uses parent asks.Parent ∷ []

-- Of an agent's processor, where it names one
abbrev pub processor_places : Option Lit → List Place
processor_places None = []
processor_places (Some processor) = Ranges processor 0 (PROCESSORS - 1) ∷ []

-- Of a declaration's head
abbrev pub head_places : Item → List Place
head_places (item.Clock name by parent shift) = NamesItem name ∷ (Derives name ∷ parent_places parent)
head_places (item.Temporal name owner clock init depth) = NamesItem name ∷ (Uses owner asks.Agent ∷ (Uses clock asks.Clock ∷ (Ranges depth 1 DEPTH ∷ [])))
head_places (item.Input name clock init depth) = NamesItem name ∷ (Uses clock asks.Clock ∷ (Ranges depth 1 DEPTH ∷ []))
head_places (item.Stream name receiver keep clock) = NamesItem name ∷ (Uses receiver asks.Agent ∷ (Ranges keep 1 KEEP ∷ (Uses clock asks.Clock ∷ [])))
head_places (item.Function name params locals stmts) = NamesItem name ∷ []
head_places (item.Agent name clock processor budget locals body stmts) =
    NamesItem name ∷ (Uses clock asks.Clock ∷ (processor_places processor ++ Ranges budget 1 BUDGET ∷ []))

-- Of the names of slots, from number k on
abbrev pub slot_places : ℕ → List SlotName → List Place
slot_places k [] = []
slot_places k (s ∷ ss) = NamesSlot k s.name ∷ slot_places (k + 1) ss

-- The greatest number that may stand in a first value of a type: behind a minus one more than without
abbrev pub greatest_first : Width → Bool → ℕ
greatest_first width minus = if minus then 2 ^ (bits (of_type width) - 1) else 2 ^ (bits (of_type width) - 1) - 1

-- Of a local declaration: the number of its first value, which has the range of its type, or of its cells
abbrev pub local_place : Local → Place
local_place (local.Scalar width name init) = Ranges init.value 0 (greatest_first width init.minus)
local_place (local.Array width name cells) = Ranges cells 1 CELLS

-- Of an agent's or a function's local declarations and statements, and of an agent's word `body`
abbrev pub body_places : Item → List Place
body_places (item.Function name params locals stmts) = map local_place locals ++ stmts_places stmts
body_places (item.Agent name clock processor budget locals body stmts) = map local_place locals ++ (stmts_places stmts ++ HasBody body (quiet_list stmts) ∷ [])
body_places _ = []

-- Of what stands inside its braces, the names of its slots first
abbrev pub inside_places : Item → List Place
inside_places i = slot_places 0 (slots_of i) ++ body_places i

-- A place, and where it stands
pub record Sited : Type 0 where
  pub site : Site
  pub place : Place

-- The places, all of them at one site
abbrev pub all_at : Site → List Place → List Sited
all_at site places = map (λ p. record { site = site; place = p }) places

-- Of declaration number k: those of its head, and then those inside its braces
abbrev pub item_places : List Item → ℕ → Item → List Sited
item_places items k i =
    all_at (record { items = items; at = k; inside = false }) (head_places i)
    ++ all_at (record { items = items; at = k; inside = true }) (inside_places i)

-- Of the declarations from number k on
abbrev pub places_from : List Item → ℕ → List Item → List Sited
places_from items k [] = []
places_from items k (i ∷ is) = item_places items k i ++ places_from items (k + 1) is

-- All places of a program
abbrev pub places : Raw → List Sited
places raw =
    record { site = record { items = raw.items; at = 0; inside = false }; place = Ranges raw.quantum 1 QUANTUM }
    ∷ places_from raw.items 0 raw.items
