-- The names of a summary, note by note.
use Rattle.std.proofs.Common.{◌≡◌, ℕ, ◌+◌, ◌<◌, Bool, ◌||◌, List, bytes_eq, length, take, get_or, Option, refl, sym, ap, ◌∙◌}
use Rattle.std.specs.List.{list_any}
use Rattle.std.proofs.lemmas.List.Folds.{list_any_more}
use Rattle.psy_log.specs.declared.note.Note.{Note}
use Rattle.psy_log.specs.declared.note.Note.TheVariants as note
use Rattle.psy_draw.specs.declared.listed.Listed.{Listed}
use Rattle.psy_draw.specs.Listing.{Adds, Lists, ends_agent, ends_stream, ends_variable, first_failing, first_outside, first_unasked, first_unlisted, is_listed, is_named}
use Rattle.psy_draw.specs.Tables.{has_name, is_among}

-- One more note
pub lists_more : (ends : List ℕ → Note → Bool) (notes : List Note) (i : ℕ) (d : Note) (old new : List (List ℕ)) → i < length notes → Lists ends (take i notes) old → Adds ends (get_or notes i d) old new → Lists ends (take (i + 1) notes) new
lists_more ends notes i d old new within lists adds name =
    adds name ∙ ap (λ b. b || ends name (get_or notes i d)) (lists name) ∙ sym (list_any_more (ends name) notes i d within)

-- A name is among those of the summary where the summary lists it.
pub among_listed : (listed : Listed) (notes : List Note) → Lists ends_agent notes listed.agents → Lists ends_variable notes listed.variables → Lists ends_stream notes listed.streams → (n : Note) → is_among listed n ≡ is_listed notes n
among_listed listed notes agents variables streams (note.StopOverrun date agent) = agents agent.now
among_listed listed notes agents variables streams (note.StopTrap date agent kind) = agents agent.now
among_listed listed notes agents variables streams (note.Value date variable value) = variables variable.now
among_listed listed notes agents variables streams (note.Message date stream value) = streams stream.now
among_listed listed notes agents variables streams _ = refl

-- So the first name that isn't among them is the first that it doesn't list.
pub failing_unlisted : (listed : Listed) (notes : List Note) → Lists ends_agent notes listed.agents → Lists ends_variable notes listed.variables → Lists ends_stream notes listed.streams → first_failing (is_among listed) notes ≡ first_unlisted notes
failing_unlisted listed notes agents variables streams =
    let P : (Note → Bool) → Option ℕ = λ passes. first_failing passes notes in
    ap P (λ i n. among_listed listed notes agents variables streams n i)

-- A name is listed where the summary lists it.
pub named_listed : (listed : Listed) (notes : List Note) → Lists ends_agent notes listed.agents → Lists ends_variable notes listed.variables → Lists ends_stream notes listed.streams → (name : List ℕ) → has_name listed name ≡ is_named notes name
named_listed listed notes agents variables streams name =
    ap (λ b. b || list_any (bytes_eq name) listed.variables || list_any (bytes_eq name) listed.streams) (agents name)
    ∙ ap (λ b. list_any (ends_agent name) notes || b || list_any (bytes_eq name) listed.streams) (variables name)
    ∙ ap (λ b. list_any (ends_agent name) notes || list_any (ends_variable name) notes || b) (streams name)

-- So the first name that isn't listed is the first that it doesn't list.
pub outside_unasked : (listed : Listed) (notes : List Note) (names : List (List ℕ)) → Lists ends_agent notes listed.agents → Lists ends_variable notes listed.variables → Lists ends_stream notes listed.streams → first_outside (has_name listed) names ≡ first_unasked notes names
outside_unasked listed notes names agents variables streams =
    let P : (List ℕ → Bool) → Option ℕ = λ passes. first_outside passes names in
    ap P (λ i n. named_listed listed notes agents variables streams n i)
