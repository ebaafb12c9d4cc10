-- What an action sees, what it asks, and what it did (OASIS: only what was visible at its start date).
use Rattle.std.specs.Prelude.{ℕ, ◌+◌, ◌<◌, List, [], ◌∷◌, ◌++◌, drop, length, Option, Some, None, IsSome, slice_get, slice_set, ⊤, ℤ}
use Rattle.std.specs.Int.{w32, cast_signed}
use Rattle.psy_code.specs.declared.look.Sent.{Sent}

-- What is visible to an action.
pub record View : Type 0 where
  -- by variable, the value published last, the one before it, and so on
  pub pasts : List (List ℤ)
  -- by stream, the values of the messages not yet taken, in their order; none where the agent isn't its receiver
  pub messages : List (Option (List ℤ))

-- What is found in what was found.
abbrev pub found_in : {A B : Type 0} → Option A → (A → Option B) → Option B
found_in None f = None
found_in (Some x) f = f x

-- `past(variable, back)`
abbrev pub past_of : View → ℕ → ℕ → Option ℤ
past_of view variable back = found_in (slice_get view.pasts variable) (λ values. slice_get values back)

-- The messages of a stream
abbrev pub messages_of : View → ℕ → Option (List ℤ)
messages_of view stream = found_in (slice_get view.messages stream) (λ messages. messages)

-- How many messages, as a number of 32 bits
abbrev pub count_as_value : List ℤ → ℤ
count_as_value messages = cast_signed w32 (length messages)

-- The first of them, where there is one
abbrev pub first_of : List ℤ → Option ℤ
first_of [] = None
first_of (m ∷ rest) = Some m

-- All but the first, where there are any
abbrev pub without_first : Option (List ℤ) → Option (List ℤ)
without_first None = None
without_first (Some messages) = Some (drop 1 messages)

-- How many messages of a stream aren't yet taken
abbrev pub count_in : View → ℕ → Option ℕ
count_in view stream = found_in (messages_of view stream) (λ messages. Some (length messages))

-- The first of them
abbrev pub next_in : View → ℕ → Option ℤ
next_in view stream = found_in (messages_of view stream) first_of

-- The view once the first message of a stream is taken.
abbrev pub taken_from : View → ℕ → View
taken_from view stream = record view { messages = slice_set view.messages stream (without_first (messages_of view stream)) }

-- What an instruction or an expression asks of the world.
pub data Call : Type 0 where
  Past : (variable back : ℕ) → Call
  Ready : (stream : ℕ) → Call
  Take : (stream : ℕ) → Call
  Send : (sent : Sent) → Call

-- The view after a call.
abbrev pub view_after : View → Call → View
view_after view (Take stream) = taken_from view stream
view_after view _ = view

-- ---- what an action did so far

-- A look at a variable, with the number of the instructions that the action executed before it.
pub record Looked : Type 0 where
  pub number : ℕ
  pub variable : ℕ
  pub back : ℕ

-- What an action did so far.
pub record Deeds : Type 0 where
  -- how many instructions it executed
  pub steps : ℕ
  pub looks : List Looked
  pub sends : List Sent
  -- by number, the stream of each message that it took
  pub takes : List ℕ

-- An action that has just begun.
abbrev pub nothing_done : Deeds
nothing_done = record { steps = 0; looks = []; sends = []; takes = [] }

-- One instruction more
abbrev pub tick : Deeds → Deeds
tick deeds = record deeds { steps = deeds.steps + 1 }

-- One instruction more, which makes this call
abbrev pub done : Deeds → Call → Deeds
done deeds (Past variable back) = tick (record deeds { looks = deeds.looks ++ record { number = deeds.steps; variable = variable; back = back } ∷ [] })
done deeds (Ready stream) = tick deeds
done deeds (Take stream) = tick (record deeds { takes = deeds.takes ++ stream ∷ [] })
done deeds (Send sent) = tick (record deeds { sends = deeds.sends ++ sent ∷ [] })

-- ---- what serves the calls

-- What serves the calls of an action.
pub record Window : Type 0 where
  pub view : View
  -- how many streams and clocks there are to send by
  pub streams : ℕ
  pub clocks : ℕ
  -- how many sends there is room for
  pub room : ℕ
  pub sends : List Sent
  -- the variable and the `back` of the last look
  pub noted : Option (ℕ × ℕ)

-- What a call asks for is there to see.
abbrev pub Serves : View → Call → Type 0
Serves view (Past variable back) = IsSome (past_of view variable back)
Serves view (Ready stream) = IsSome (messages_of view stream)
Serves view (Take stream) = IsSome (messages_of view stream)
Serves view (Send sent) = ⊤

-- A send finds its stream, its clock and room.
abbrev pub Admits : Window → Call → Type 0
Admits window (Send sent) = (sent.stream < window.streams) × (sent.clock < window.clocks) × (length window.sends < window.room)
Admits window call = ⊤

-- What a call asks for is served, and a send finds room.
abbrev pub Permits : Window → Call → Type 0
Permits window call = Serves window.view call × Admits window call

-- The same of what an instruction asks, where it asks anything
abbrev pub PermitsAll : Window → Option Call → Type 0
PermitsAll window None = ⊤
PermitsAll window (Some call) = Permits window call

-- What an instruction asks, where it asks anything, is there to see.
abbrev pub ServesAll : View → Option Call → Type 0
ServesAll view None = ⊤
ServesAll view (Some call) = Serves view call

-- What a call leaves: a look is noted, a message is taken, a send is added; all else stays.
abbrev pub answered : Window → Call → Window
answered window (Past variable back) = record window { noted = Some (variable, back) }
answered window (Ready stream) = window
answered window (Take stream) = record window { view = taken_from window.view stream }
answered window (Send sent) = record window { sends = window.sends ++ sent ∷ [] }
