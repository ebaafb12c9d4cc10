-- What contracts see of the forms in memory.
use Rattle.std.specs.Prelude.{◌≡◌, ℕ, ◌+◌, ◌-◌, ◌<◌, ◌^◌, List, ◌++◌, length, take, min, Contains, ◌⊎◌, Bool, ◌&&◌, nat_le, if◌then◌else◌}
use Rattle.std.specs.Prelude.{Option, None, Some, Result, Ok, MatchResult}
use Rattle.std.specs.FinMap.{get}
use Rattle.psy_door.specs.Files.{Pairs, files_of}
use Rattle.psy_door.specs.declared.sink.Failed.{Failed}

-- One more, up to the counter's last value
abbrev pub counted_up : ℕ → ℕ
counted_up n = min (n + 1) (2 ^ 64 - 1)

-- Files whose calls never fail
pub record CleanShelfState : Type 0 where
  pub files : Pairs
  pub taken : ℕ

-- Files, and the numbers of the calls that fail, counted from 0
pub record ShelfState : Type 0 where
  pub files : Pairs
  pub fails : List ℕ
  pub calls : ℕ
  pub faults : ℕ
  pub failed_name : List ℕ
  pub taken : ℕ

-- The next call for this name fails: its number is listed, or there is no such file
abbrev pub FetchFails : ShelfState → List ℕ → Type 0
FetchFails shelf name = Contains shelf.fails shelf.calls ⊎ (get (files_of shelf.files) name ≡ None)

-- Bytes in a room of fixed size; one call takes at most `most` bytes
pub record SinkState : Type 0 where
  pub bytes : List ℕ
  pub room : ℕ
  pub most : ℕ
  pub fails : List ℕ
  pub calls : ℕ
  pub faults : ℕ

-- How many bytes of a piece of this length the next call takes
abbrev pub fitting : SinkState → ℕ → ℕ
fitting sink piece = min piece (min sink.most (sink.room - length sink.bytes))

-- The next call with this piece fails: its number is listed, or there is no room
abbrev pub WriteFails : SinkState → List ℕ → Type 0
WriteFails sink piece = Contains sink.fails sink.calls ⊎ ((0 < length piece) × (length sink.bytes ≡ sink.room))

-- The sink after a call that took the first n bytes of a piece, and after one that failed
abbrev pub after_taking : SinkState → ℕ → List ℕ → SinkState
after_taking sink n piece = record sink { bytes = sink.bytes ++ take n piece; calls = counted_up sink.calls }

abbrev pub after_failing : SinkState → SinkState
after_failing sink = record sink { calls = counted_up sink.calls; faults = counted_up sink.faults }

-- What a call with a piece answers, and as what it leaves the sink: it fails exactly where it is to fail, and takes all that fits
abbrev pub SinkCalls : SinkState → List ℕ → Result ℕ Failed → SinkState → Type 0
SinkCalls sink piece result now =
    MatchResult result
    (λ n. (WriteFails sink piece → ⊥) × (n ≡ fitting sink (length piece)) × (now ≡ after_taking sink n piece))
    (λ _. WriteFails sink piece × (now ≡ after_failing sink))

-- Bytes in a room of fixed size, and whether all that was written was kept
pub record CleanSinkState : Type 0 where
  pub bytes : List ℕ
  pub room : ℕ
  pub whole : Bool

-- What is kept of a piece: its front that fits
abbrev pub kept : CleanSinkState → List ℕ → List ℕ
kept sink piece = take (sink.room - length sink.bytes) piece

-- The sink after a piece was written
abbrev pub written : CleanSinkState → List ℕ → CleanSinkState
written sink piece = record sink {
  bytes = sink.bytes ++ kept sink piece;
  whole = sink.whole && nat_le (length sink.bytes + length piece) sink.room;
}

-- A call with a piece takes all of it.
abbrev pub CleanSinkCalls : CleanSinkState → List ℕ → Result ℕ Failed → CleanSinkState → Type 0
CleanSinkCalls sink piece result now = (result ≡ Ok (length piece)) × (now ≡ written sink piece)

-- The bytes, as long as all were kept
abbrev pub told : CleanSinkState → Option (List ℕ)
told sink = if sink.whole then Some sink.bytes else None

-- The counts of a shelf over files of the system
pub record FileShelfState : Type 0 where
  pub faults : ℕ
  pub failed_name : List ℕ
  pub taken : ℕ
