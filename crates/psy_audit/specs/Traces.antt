-- The lines of a trace, what is found in them, and what they are judged by.
use Rattle.std.specs.Prelude.{ℕ, Bool, true, false, ◌==◌, ◌&&◌, not, List, [], ◌∷◌, filter, get_or, take_while, Option, Some, None}
use Rattle.std.specs.List.{flat_map}
use Rattle.psy_clock.specs.declared.clock.Clock.{Clock}
use Rattle.psy_meaning.specs.RingSizes.{agent_timing}
use Rattle.psy_meaning.specs.Timing.{Timing}
use Rattle.psy_tree.specs.Parts.{clock_in, variable_at}
use Rattle.psy_tree.specs.declared.unit.Unit.{Unit as Whole}
use Rattle.psy_audit.specs.declared.said.Act.{Act}
use Rattle.psy_audit.specs.declared.said.Look.{Look}
use Rattle.psy_audit.specs.declared.said.Publication.{Publication}
use Rattle.psy_audit.specs.declared.said.Said.{Said}
use Rattle.psy_audit.specs.declared.said.Said.TheVariants.{Acted, Published, Served, Looked, Ended}
use Rattle.psy_audit.specs.declared.said.Segment.{Segment}

-- What a trace is judged by: the program with the points that may follow each point, by variable the places of its ring, the last date, and by
-- cycle the order in which ties of deadlines go.
pub record Judged : Type 0 where
  pub unit : Whole
  pub nexts : List (List (List ℕ))
  pub rings : List ℕ
  pub until : ℕ
  pub order : ℕ → List ℕ

-- When the actions of an agent begin, are due and end
abbrev pub timing_in : Judged → ℕ → Timing
timing_in j agent = agent_timing j.unit j.nexts agent

-- The clock at whose dates a variable publishes
abbrev pub publishing_in : Judged → ℕ → Clock
publishing_in j variable = clock_in j.unit (variable_at j.unit variable).clock

-- The places of a variable's ring
abbrev pub ring_in : Judged → ℕ → ℕ
ring_in j variable = get_or j.rings variable 0

-- The lines of a trace: what each says, and none where it has no listed form.
abbrev pub Lines : Type 0
Lines = List (Option Said)

-- The line ends the trace.
abbrev pub is_end : Option Said → Bool
is_end (Some Ended) = true
is_end line = false

-- The lines before the first that ends the trace
abbrev pub body : Lines → Lines
body lines = take_while (λ line. not (is_end line)) lines

-- The action that a line tells of, where it tells of one
abbrev pub act_in : Option Said → List Act
act_in (Some (Acted a)) = a ∷ []
act_in line = []

-- The publication that a line tells of
abbrev pub publication_in : Option Said → List Publication
publication_in (Some (Published p)) = p ∷ []
publication_in line = []

-- The stretch of cycles that a line tells of
abbrev pub segment_in : Option Said → List Segment
segment_in (Some (Served s)) = s ∷ []
segment_in line = []

-- The look that a line tells of
abbrev pub look_in : Option Said → List Look
look_in (Some (Looked l)) = l ∷ []
look_in line = []

-- The actions of a trace
abbrev pub acts : Lines → List Act
acts lines = flat_map act_in (body lines)

-- Its publications
abbrev pub publications : Lines → List Publication
publications lines = flat_map publication_in (body lines)

-- Its stretches of cycles
abbrev pub segments : Lines → List Segment
segments lines = flat_map segment_in (body lines)

-- Its looks
abbrev pub looks : Lines → List Look
looks lines = flat_map look_in (body lines)

-- The actions of an agent
abbrev pub acts_of : ℕ → Lines → List Act
acts_of agent lines = filter (λ (a : Act). a.agent == agent) (acts lines)

-- The publications of a variable
abbrev pub publications_of : ℕ → Lines → List Publication
publications_of variable lines = filter (λ (p : Publication). p.variable == variable) (publications lines)

-- The stretches of an agent's action of a number
abbrev pub segments_of : ℕ → ℕ → Lines → List Segment
segments_of agent number lines = filter (λ (s : Segment). s.agent == agent && s.number == number) (segments lines)

-- The last item of a list
abbrev pub last_of : {X : Type 0} → List X → Option X
last_of [] = None
last_of (x ∷ []) = Some x
last_of (x ∷ y ∷ xs) = last_of (y ∷ xs)
