-- The names of a summary, note by note.
use Rattle.std.proofs.Common.{◌≡◌, ℕ, ◌+◌, Bool, not, List, Option, Result, Err, option_map, refl, sym, ap, ◌∙◌, bytes_eq}
use Rattle.std.specs.List.{list_any, position}
use Rattle.psy_log.specs.declared.note.Note.{Note}
use Rattle.psy_log.specs.declared.note.Note.TheVariants as note
use Rattle.psy_passes.specs.declared.fault.PassFault.{PassFault}
use Rattle.psy_passes.specs.declared.fault.PassFault.TheVariants as fault
use Rattle.psy_passes.specs.declared.listed.Listed.{Listed}
use Rattle.psy_passes.specs.Listing.{agents_in, first_unlisted, is_listed, streams_in, variables_in}
use Rattle.psy_passes.specs.Tables.{is_among}

-- A name is among those of the summary where the summary lists it.
pub among_listed : (listed : Listed) (notes : List Note) → listed.agents ≡ agents_in notes → listed.variables ≡ variables_in notes → listed.streams ≡ streams_in notes
    → (n : Note) → is_among listed n ≡ is_listed notes n
among_listed listed notes agents variables streams (note.StopOverrun date agent) = ap (list_any (bytes_eq agent.now)) agents
among_listed listed notes agents variables streams (note.StopTrap date agent kind) = ap (list_any (bytes_eq agent.now)) agents
among_listed listed notes agents variables streams (note.Value date variable value) = ap (list_any (bytes_eq variable.now)) variables
among_listed listed notes agents variables streams (note.Message date stream value) = ap (list_any (bytes_eq stream.now)) streams
among_listed listed notes agents variables streams _ = refl

-- So the first name that isn't among them is the first that it doesn't list.
pub unlisted_found : (listed : Listed) (notes : List Note) → listed.agents ≡ agents_in notes → listed.variables ≡ variables_in notes → listed.streams ≡ streams_in notes
    → option_map (λ k. k + 1) (position (λ n. not (is_among listed n)) notes) ≡ first_unlisted notes
unlisted_found listed notes agents variables streams =
    let P : (Note → Bool) → Option ℕ = λ passes. option_map (λ k. k + 1) (position (λ n. not (passes n)) notes) in
    ap P (λ i n. among_listed listed notes agents variables streams n i)

-- What was found among them, of the same notes
pub unlisted_at : (listed : Listed) (a b notes : List Note) → a ≡ notes → b ≡ notes → listed.agents ≡ agents_in a → listed.variables ≡ variables_in a
    → listed.streams ≡ streams_in a → (place : Option ℕ) → place ≡ position (λ n. not (is_among listed n)) b → option_map (λ k. k + 1) place ≡ first_unlisted notes
unlisted_at listed a b notes first second agents variables streams place found =
    ap (option_map (λ k. k + 1)) (found ∙ ap (λ ns. position (λ n. not (is_among listed n)) ns) (second ∙ sym first))
    ∙ unlisted_found listed a agents variables streams ∙ ap first_unlisted first

-- The line of a refusal
line_of_fault : {T : Type 0} → Result T PassFault → ℕ
line_of_fault (Err (fault.Unlisted line)) = line
line_of_fault _ = 0

-- Refusals that are one have one line.
pub line_is : {T : Type 0} (m n : ℕ) → ◌≡◌ {A = Result T PassFault} (Err (fault.Unlisted m)) (Err (fault.Unlisted n)) → m ≡ n
unfolding line_of_fault
line_is m n e = ap line_of_fault e
