-- What is asked of notes is told by what they say.
use Rattle.std.proofs.Common.{◌≡◌, ◌∙◌, refl, sym, ap, ℕ, Bool, true, not, List, [], ◌∷◌, ◌++◌, map, Option, None, Some, bytes_eq}
use Rattle.std.specs.Prelude.{flat_map, fold}
use Rattle.std.specs.List.{list_any, position}
use Rattle.psy_log.specs.declared.form.Form.{Form}
use Rattle.psy_log.specs.declared.form.Form.TheVariants as form
use Rattle.psy_log.specs.declared.note.Note.{Note}
use Rattle.psy_log.specs.declared.note.Note.TheVariants as note
use Rattle.psy_log.specs.Forms.{says}
use Rattle.psy_log.specs.Table.{Said, long, name, line}
use Rattle.psy_passes.specs.Listing.{added_agent, added_stream, added_variable, agents_in, streams_in, variables_in}
use Rattle.psy_passes.specs.Names.{with_name}
use Rattle.psy_passes.specs.Tables.{is_among}
use Rattle.psy_passes.specs.declared.listed.Listed.{Listed}
use Rattle.psy_passes.specs.Runs.{tail_line, tail_of}
use Rattle.psy_passes.specs.NameChecks.{first_other, kept, undated}
use Rattle.psy_passes.proofs.Firsts.{position_map}

-- ---- the names of a summary

abbrev agent_by : List (List ℕ) → Form → List Said → List (List ℕ)
agent_by names form.AgentEnd (name agent ∷ said) = with_name names agent
agent_by names _ said = names

abbrev variable_by : List (List ℕ) → Form → List Said → List (List ℕ)
variable_by names form.VariableEnd (name variable ∷ said) = with_name names variable
variable_by names _ said = names

abbrev stream_by : List (List ℕ) → Form → List Said → List (List ℕ)
stream_by names form.StreamEnd (name stream ∷ said) = with_name names stream
stream_by names _ said = names

agent_step : (names : List (List ℕ)) (n : Note) → added_agent names n ≡ agent_by names (says n).0 (says n).1
agent_step names (note.Infeasible len demand supply None) = refl
agent_step names (note.Infeasible len demand supply (Some processor)) = refl
agent_step names (note.Refused what number None) = refl
agent_step names (note.Refused what number (Some at)) = refl
agent_step names _ = refl

variable_step : (names : List (List ℕ)) (n : Note) → added_variable names n ≡ variable_by names (says n).0 (says n).1
variable_step names (note.Infeasible len demand supply None) = refl
variable_step names (note.Infeasible len demand supply (Some processor)) = refl
variable_step names (note.Refused what number None) = refl
variable_step names (note.Refused what number (Some at)) = refl
variable_step names _ = refl

stream_step : (names : List (List ℕ)) (n : Note) → added_stream names n ≡ stream_by names (says n).0 (says n).1
stream_step names (note.Infeasible len demand supply None) = refl
stream_step names (note.Infeasible len demand supply (Some processor)) = refl
stream_step names (note.Refused what number None) = refl
stream_step names (note.Refused what number (Some at)) = refl
stream_step names _ = refl

-- A fold by what is made of each
fold_by : {X Y B : Type 0} (f : B → X → B) (g : B → Y → B) (h : X → Y) → ((b : B) (x : X) → f b x ≡ g b (h x)) → (b : B) (xs : List X) → fold f b xs ≡ fold g b (map h xs)
fold_by f g h same b [] = refl
fold_by f g h same b (x ∷ xs) = ap (λ c. fold f c xs) (same b x) ∙ fold_by f g h same (g b (h x)) xs

-- Folds of notes that say the same
folds_same : (f : List (List ℕ) → Note → List (List ℕ)) (by : List (List ℕ) → Form → List Said → List (List ℕ))
    → ((names : List (List ℕ)) (n : Note) → f names n ≡ by names (says n).0 (says n).1) → (xs ys : List Note) → map says xs ≡ map says ys → fold f [] xs ≡ fold f [] ys
folds_same f by step xs ys same =
    let g : List (List ℕ) → (Form × List Said) → List (List ℕ) = λ names saying. by names saying.0 saying.1 in
    fold_by f g says step [] xs ∙ ap (fold g []) same ∙ sym (fold_by f g says step [] ys)

pub agents_same : (xs ys : List Note) → map says xs ≡ map says ys → agents_in xs ≡ agents_in ys
agents_same xs ys same = folds_same added_agent agent_by agent_step xs ys same

pub variables_same : (xs ys : List Note) → map says xs ≡ map says ys → variables_in xs ≡ variables_in ys
variables_same xs ys same = folds_same added_variable variable_by variable_step xs ys same

pub streams_same : (xs ys : List Note) → map says xs ≡ map says ys → streams_in xs ≡ streams_in ys
streams_same xs ys same = folds_same added_stream stream_by stream_step xs ys same

-- ---- the names of notes

abbrev is_name_by : Listed → Form → List Said → Bool
is_name_by listed form.StopOverrun (long date ∷ name agent ∷ said) = list_any (bytes_eq agent) listed.agents
is_name_by listed form.StopTrap (long date ∷ name agent ∷ said) = list_any (bytes_eq agent) listed.agents
is_name_by listed form.Value (long date ∷ name variable ∷ said) = list_any (bytes_eq variable) listed.variables
is_name_by listed form.Message (long date ∷ name stream ∷ said) = list_any (bytes_eq stream) listed.streams
is_name_by listed _ said = true

abbrev pub among_by : Listed → Form × List Said → Bool
among_by listed saying = is_name_by listed saying.0 saying.1

pub among_step : (listed : Listed) (n : Note) → is_among listed n ≡ among_by listed (says n)
among_step listed (note.Infeasible len demand supply None) = refl
among_step listed (note.Infeasible len demand supply (Some processor)) = refl
among_step listed (note.Refused what number None) = refl
among_step listed (note.Refused what number (Some at)) = refl
among_step listed _ = refl

pub other_by : (listed : Listed) (xs : List Note) → first_other listed xs ≡ position (λ s. not (among_by listed s)) (map says xs)
other_by listed xs =
    let P : (Note → Bool) → Option ℕ = λ passes. position (λ n. not (passes n)) xs in
    ap P (λ i n. among_step listed n i) ∙ position_map (λ s. not (among_by listed s)) says xs

-- ---- the lines of the end and the summary

abbrev tail_by : Form → List Said → List ℕ
tail_by form.StopOverrun said = []
tail_by form.StopTrap said = []
tail_by form.Value said = []
tail_by form.Message said = []
tail_by other said = line other said

tail_step : (n : Note) → tail_line n ≡ tail_by (says n).0 (says n).1
tail_step (note.Infeasible len demand supply None) = refl
tail_step (note.Infeasible len demand supply (Some processor)) = refl
tail_step (note.Refused what number None) = refl
tail_step (note.Refused what number (Some at)) = refl
tail_step _ = refl

tails_is : (xs : List Note) → tail_of xs ≡ flat_map (λ s. tail_by s.0 s.1) (map says xs)
tails_is [] = refl
tails_is (n ∷ xs) = ap (λ t. t ++ tail_of xs) (tail_step n) ∙ ap (λ t. tail_by (says n).0 (says n).1 ++ t) (tails_is xs)

pub tails_same : (xs ys : List Note) → map says xs ≡ map says ys → tail_of xs ≡ tail_of ys
tails_same xs ys same =
    let all : List (Form × List Said) → List ℕ = λ sayings. flat_map (λ s. tail_by s.0 s.1) sayings in
    tails_is xs ∙ ap all same ∙ sym (tails_is ys)

-- ---- the notes without a date

abbrev kept_by : Form → List Said → List (Form × List Said) → List (Form × List Said)
kept_by form.StopOverrun said sayings = sayings
kept_by form.StopTrap said sayings = sayings
kept_by form.Value said sayings = sayings
kept_by form.Message said sayings = sayings
kept_by other said sayings = (other, said) ∷ sayings

kept_step : (n : Note) (notes : List Note) → map says (kept n notes) ≡ kept_by (says n).0 (says n).1 (map says notes)
kept_step (note.Infeasible len demand supply None) notes = refl
kept_step (note.Infeasible len demand supply (Some processor)) notes = refl
kept_step (note.Refused what number None) notes = refl
kept_step (note.Refused what number (Some at)) notes = refl
kept_step _ notes = refl

abbrev undated_by : List (Form × List Said) → List (Form × List Said)
undated_by [] = []
undated_by (s ∷ sayings) = kept_by s.0 s.1 (undated_by sayings)

undated_is : (xs : List Note) → map says (undated xs) ≡ undated_by (map says xs)
undated_is [] = refl
undated_is (n ∷ xs) = kept_step n (undated xs) ∙ ap (kept_by (says n).0 (says n).1) (undated_is xs)

pub undated_same : (xs ys : List Note) → map says xs ≡ map says ys → map says (undated xs) ≡ map says (undated ys)
undated_same xs ys same = undated_is xs ∙ ap undated_by same ∙ sym (undated_is ys)
