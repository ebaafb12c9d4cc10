-- What an action sees of the variables and the streams while others publish and send on.
use Rattle.std.specs.Prelude.{ℕ, ◌^◌, ◌==◌, ◌≤◌, Bool, true, nat_le, List, [], filter, map, take, drop, length, get_or, slice_get, ℤ, Option, None, Some}
use Rattle.std.specs.List.{All, range_with_len}
use Rattle.psy_base.specs.declared.limits.TheConstants.{RING}
use Rattle.psy_base.specs.declared.message.Message.{Message}
use Rattle.psy_clock.specs.declared.clock.Clock.{Clock}
use Rattle.psy_clock.specs.Dates.{IsClock}
use Rattle.psy_code.specs.Views.{View, Window}
use Rattle.psy_queue.specs.Order.{Queued, message_values}
use Rattle.psy_tree.specs.declared.unit.StreamDecl.{StreamDecl}
use Rattle.psy_tree.specs.declared.unit.Unit.{Unit as Whole}
use Rattle.psy_tree.specs.declared.unit.VarDecl.{VarDecl}
use Rattle.psy_meaning.specs.RingSizes.{dates_between}
use Rattle.psy_dates.specs.Outboxes.{Outboxed}
use Rattle.psy_tree.specs.Parts.{no_clock, no_variable}

-- ---- variables

-- The clock of a number: that of all ticks where there is none
abbrev pub clock_in : List Clock → ℕ → Clock
clock_in clocks clock = get_or clocks clock no_clock

-- What an action that started at one date sees of a variable at another, by its ring: what is as far behind the start as the variable
-- may be looked back, behind all that was published since.
abbrev pub values_of : List (List ℤ) → List Clock → ℕ → ℕ → VarDecl → ℕ → List ℤ
values_of rings clocks start date v variable = take v.depth (drop (dates_between (clock_in clocks v.clock) start date) (get_or rings variable []))

-- The same of all variables, and by stream these messages
abbrev pub view_in : List (List ℤ) → List VarDecl → List Clock → ℕ → ℕ → List (Option (List ℤ)) → View
view_in rings variables clocks start date messages = record {
  pasts = map (λ variable. values_of rings clocks start date
      (get_or variables variable no_variable) variable) (range_with_len 0 (length variables));
  messages = messages;
}

-- What is seen can be counted: rings have no more places than a ring may, the clocks are lawful, and the dates early enough.
pub record CanSee (rings : List (List ℤ)) (clocks : List Clock) (start date : ℕ) : Type 0 where
  pub few : All (λ ring. length ring ≤ RING) rings
  pub lawful : All IsClock clocks
  pub start_early : start ≤ 2 ^ 40
  pub date_early : date ≤ 2 ^ 40

-- ---- streams

-- How many messages of a queue are visible at a date or before it
abbrev pub seen_by : List Message → ℕ → ℕ
seen_by messages start = length (filter (λ (m : Message). nat_le m.visible start) messages)

-- What an action that started at a date and took so many messages of a queue has left there: those visible at its start, behind them.
abbrev pub left_in : ℕ → ℕ → Queued → List ℤ
left_in start taken queue = drop taken (take (seen_by queue.messages start) (message_values queue.messages))

-- The same where the agent is the receiver and took so many, and there is such a queue
abbrev pub left_by : ℕ → Option Bool → Option ℕ → Option Queued → Option (List ℤ)
left_by start (Some true) (Some taken) (Some queue) = Some (left_in start taken queue)
left_by start mine taken queue = None

-- ---- all that is looked at

-- What the action of an agent looks at, and the dates at which it started and which was done last
pub record Sight : Type 0 where
  pub rings : List (List ℤ)
  pub variables : List VarDecl
  pub clocks : List Clock
  pub queues : List Queued
  pub streams : List StreamDecl
  pub agent : ℕ
  pub start : ℕ
  pub date : ℕ

-- What the action of an agent of a program looks at
abbrev pub sight_in : Whole → List (List ℤ) → List Queued → ℕ → ℕ → ℕ → Sight
sight_in unit rings queues agent start date = record {
  rings = rings;
  variables = unit.variables;
  clocks = unit.clocks;
  queues = queues;
  streams = unit.streams;
  agent = agent;
  start = start;
  date = date;
}

-- Whether the agent is the receiver of a stream, where there is one
abbrev pub is_mine : Sight → ℕ → Option Bool
is_mine sight stream = slice_get (map (λ (s : StreamDecl). s.receiver == sight.agent) sight.streams) stream

-- What the agent's action has left of a stream, once it took so many by stream
abbrev pub left_of : Sight → List ℕ → ℕ → Option (List ℤ)
left_of sight taken stream = left_by sight.start (is_mine sight stream) (slice_get taken stream) (slice_get sight.queues stream)

-- What serves the action, with an outbox and the look noted last
abbrev pub window_in : Sight → List ℕ → Outboxed → Option (ℕ × ℕ) → Window
window_in sight taken outbox noted = record {
  view = view_in sight.rings sight.variables sight.clocks sight.start sight.date (map (left_of sight taken) (range_with_len 0 (length sight.streams)));
  streams = length sight.streams;
  clocks = length sight.clocks;
  room = outbox.size;
  sends = outbox.sends;
  noted = noted;
}
