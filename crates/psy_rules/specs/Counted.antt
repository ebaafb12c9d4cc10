-- Which declarations a count counts.
use Rattle.std.specs.Prelude.{Bool, false, Some}
use Rattle.psy_tree.specs.declared.raw.Item.{Item}
use Rattle.psy_tree.specs.declared.rules.Count.{Count}
use Rattle.psy_tree.specs.declared.rules.Count.TheVariants.{Clocks, Agents, Variables, Streams, Functions, Names, Points}
use Rattle.psy_tree.specs.Rules.{is_clock, is_agent, is_stream, is_function}
use Rattle.psy_tree.specs.Stands.{is_variable}

-- The count counts this declaration; those of names and points count none.
abbrev pub counts_as : Count → Item → Bool
counts_as Clocks = λ i. is_clock (Some i)
counts_as Agents = λ i. is_agent (Some i)
counts_as Variables = λ i. is_variable (Some i)
counts_as Streams = λ i. is_stream (Some i)
counts_as Functions = λ i. is_function (Some i)
counts_as Names = λ i. false
counts_as Points = λ i. false
