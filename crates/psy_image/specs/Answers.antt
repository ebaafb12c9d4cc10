-- What `decode` answers, said by what the bytes spell and where they are bad.
use Rattle.std.specs.Prelude.{◌≡◌, ℕ, ◌+◌, ◌-◌, ◌<◌, ◌≤◌, List, [], length, map, Result, Ok, Err, MatchResult, ◌⊎◌, ⊤}
use Rattle.std.specs.Global.{Vec}
use Rattle.psy_base.specs.declared.limits.TheConstants.{FILE_BYTES}
use Rattle.psy_code.specs.declared.code.Code.{Code}
use Rattle.psy_image.specs.declared.fault.ImageFault.{ImageFault}
use Rattle.psy_image.specs.declared.fault.ImageFault.TheVariants as fault
use Rattle.psy_image.specs.declared.image.Image.{Image}
use Rattle.psy_image.specs.declared.fault.ReadError.{ReadError}
use Rattle.psy_image.specs.declared.fault.ReadError.TheVariants as errors
use Rattle.psy_image.specs.Formats.{IsBad}
use Rattle.psy_image.specs.Images.{image, spells_image}
use Rattle.psy_tree.specs.declared.unit.AgentDecl.{AgentDecl}
use Rattle.psy_tree.specs.declared.unit.Unit.{Unit as Whole}

-- An agent without its slots and statements
abbrev pub emptied_agent : AgentDecl → AgentDecl
emptied_agent a = record a { slots = []; stmts = [] }

-- A unit without its statements, slots and functions
abbrev pub emptied : Whole → Whole
emptied unit = record unit { functions = []; agents = map emptied_agent unit.agents }

-- The first field that is missing, cut or out of range begins behind so many bytes. A byte behind the last field is one.
unfoldable pub IsBadAt : List ℕ → ℕ → Type 0
IsBadAt bytes place = (left : ℕ) × (place + left ≡ length bytes) × IsBad image bytes left

-- The fault is where the bytes are bad, but for want of memory.
abbrev pub IsFault : List ℕ → ImageFault → Type 0
IsFault bytes (fault.Bad place) = IsBadAt bytes place
IsFault bytes fault.Large = ⊥
IsFault bytes fault.Memory = ⊤

-- The answer is this image, or want of memory.
abbrev pub GivesImage : Result Image ImageFault → Image → Type 0
GivesImage answer it = MatchResult answer (λ given. given ≡ it) (λ other. other ≡ fault.Memory)

-- The answer is that the bytes are bad at this place, or want of memory.
abbrev pub GivesBad : Result Image ImageFault → ℕ → Type 0
GivesBad answer place = MatchResult answer (λ given. ⊥) (λ other. (other ≡ fault.Bad place) ⊎ (other ≡ fault.Memory))

-- The fault that an error is where there are so many bytes
abbrev pub fault_from : ℕ → ReadError → ImageFault
fault_from len (errors.Bad left) = fault.Bad (len - left)
fault_from len errors.Memory = fault.Memory

-- No more bytes are left than there are.
abbrev pub IsWithin : ℕ → ReadError → Type 0
IsWithin len (errors.Bad left) = left ≤ len
IsWithin len errors.Memory = ⊤

-- What reading came to, as an answer
abbrev pub answer_of : ℕ → Result Image ReadError → Result Image ImageFault
answer_of len (Ok it) = Ok it
answer_of len (Err error) = Err (fault_from len error)

-- The image of a unit, without its statements, slots and functions, and of a code
abbrev pub image_of : Whole → Code → Image
image_of unit code = record { unit = emptied unit; code = code }

-- Unit and code keep the ranges of an image: their image has bytes.
unfoldable pub KeepRanges : Whole → Code → Type 0
KeepRanges unit code = (bytes : List ℕ) × spells_image (image_of unit code) bytes

-- The answer is these bytes, or that they are more than 262,144, where they are, or want of memory.
abbrev pub GivesBytes : Result (Vec ℕ) ImageFault → List ℕ → Type 0
GivesBytes answer bytes = MatchResult answer (λ out. out.items ≡ bytes)
    (λ other. ((other ≡ fault.Large) × (FILE_BYTES < length bytes)) ⊎ (other ≡ fault.Memory))
