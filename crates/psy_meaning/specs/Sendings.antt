-- The sends of a program's text, and how long their messages may take to be visible.
use Rattle.std.specs.Prelude.{ℕ, ◌+◌, ◌-◌, ◌*◌, ◌==◌, List, [], ◌∷◌, ◌++◌, filter, map, Some, None}
use Rattle.std.specs.List.{flat_map}
use Rattle.psy_base.specs.Extremes.{most_of}
use Rattle.psy_tree.specs.declared.unit.AgentDecl.{AgentDecl}
use Rattle.psy_tree.specs.declared.unit.Stmt.{Stmt, fold-Stmt}
use Rattle.psy_tree.specs.declared.unit.Stmt.TheOpen.{Stmt-F}
use Rattle.psy_tree.specs.declared.unit.Unit.{Unit as Whole}
use Rattle.psy_tree.specs.Parts.{clock_in}
use Rattle.psy_meaning.specs.Ways.{Sending}

-- ---- sends

-- Lists one behind the other
abbrev pub joined : List (List Sending) → List Sending
joined = flat_map (λ sendings. sendings)

-- The sends in a statement, in the order of the text, once those of its parts are known
abbrev pub sendings_step : Stmt-F (List Sending) → List Sending
sendings_step (Stmt-F.Send value stream after clock) = record { stream = stream; after = after; clock = clock } ∷ []
sendings_step (Stmt-F.If test branch None) = joined branch
sendings_step (Stmt-F.If test branch (Some other)) = joined branch ++ joined other
sendings_step (Stmt-F.Bounded test most body) = joined body
sendings_step (Stmt-F.Timed test body) = joined body
sendings_step _ = []

-- The sends in a statement
abbrev pub sendings_of : Stmt → List Sending
sendings_of = fold-Stmt (List Sending) sendings_step

-- The sends in a list of statements, in the order of the text
abbrev pub sendings_in : List Stmt → List Sending
sendings_in stmts = joined (map sendings_of stmts)

-- The sends to a stream in an agent's text
abbrev pub sendings_to : ℕ → AgentDecl → List Sending
sendings_to stream agent = filter (λ (s : Sending). s.stream == stream) (sendings_in agent.stmts)

-- The sends to a stream in the texts of all agents
abbrev pub all_sendings : Whole → ℕ → List Sending
all_sendings unit stream = flat_map (sendings_to stream) unit.agents

-- ---- delays

-- The period of a clock of a program, by its number
abbrev pub period_of : Whole → ℕ → ℕ
period_of unit clock = (clock_in unit clock).period

-- The most ticks from the end of an action to the date from which a message of this send is visible
abbrev pub delay_of : Whole → Sending → ℕ
delay_of unit sending = (sending.after + 1) * period_of unit sending.clock - 1

-- The greatest delay of the sends to a stream
abbrev pub longest_delay : Whole → ℕ → ℕ
longest_delay unit stream = most_of (map (delay_of unit) (all_sendings unit stream))
