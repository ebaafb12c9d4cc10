-- Reading agents, and what is cut of them.
use Rattle.std.proofs.Common.{◌≡◌, ◌∙◌, ℕ, zero, suc, ◌-◌, ◌≤◌, ◌||◌, Bool, true, false, cond, ltb, List, [], ◌∷◌, ◌++◌, append_assoc, map, length, drop, Option, Some, None, Result, Ok, Err, refl, sym, ap, subst, arith}
use Rattle.std.specs.Prelude.{is_some, ℤ}
use Rattle.std.specs.Int.{w32, w64, cast_signed}
use Rattle.std.proofs.lemmas.Bool.{le-ltb, leb-true}
use Rattle.std.proofs.lemmas.List.{append-nil, length-drop, map-append}
use Rattle.psy_dates.specs.declared.opening.AgentOpening.{AgentOpening}
use Rattle.psy_dates.specs.declared.opening.Begun.{Begun}
use Rattle.psy_dates.specs.declared.opening.NextAction.{NextAction}
use Rattle.psy_base.specs.declared.limits.TheConstants.{UNTIL}
use Rattle.psy_snap.specs.declared.fault.ReadError.{ReadError}
use Rattle.psy_snap.specs.Cuts.{At, Cut, Field, action_asks, behind, cell_of, copies_asks, cut_agent, cut_at, cut_each, cut_fields, cut_figures, cut_one, followed, kind_asks, last_number, long_below, one_of, up_to}
use Rattle.psy_snap.specs.Faults.{agent_faults, agents_faults, faults_in, has_begun, has_begun_by, is_wrong_kind, part_faults, starts_wrong, value_at}
use Rattle.psy_snap.specs.Forms.{AgentForm}
use Rattle.psy_snap.specs.Reading.{action_at, agent_at, begun_at, cells_at, field_at, figures_at, found_at, go_on, is_misplaced, kind_at, unless_wrong, values_at}
use Rattle.psy_snap.proofs.FiguresRead.{figures_cuts, onward_figures, onward_followed}
use Rattle.psy_snap.proofs.Found.{found_further, said_found}
use Rattle.psy_snap.proofs.Legs.{Follows, Leg, Shown, legs}
use Rattle.psy_snap.proofs.Parts.{Cuts, Fits, IsOnward, cut_by, cuts_behind, field_cut, field_cuts, fields_cuts, fits_longer, fits_map, good_field, onward_at, onward_behind, onward_fields, seen}
use Rattle.psy_snap.proofs.Places.{Behind, Onward, Decides}
use Rattle.psy_snap.proofs.Steps.{go_on_ok, ok_is, said_ok}
use Rattle.psy_snap.proofs.VariablesRead.{cut_both}
use Rattle.psy_snap.proofs.Wholes.{Refused, Starts, above_field, behind_field, field_decides, in_range, onward_part, part_decides, part_right, refused}

-- ---- what an agent of a kind has

module _ (form : AgentForm) where
  abbrev cells : List ℕ → Result (List ℤ × List ℕ) ReadError
  cells bytes = cells_at (map cell_of form.cells) [] bytes

  abbrev copies : List ℕ → Result (List ℤ × List ℕ) ReadError
  copies bytes = values_at (copies_asks form) [] bytes

  -- Two fields, and those behind them
  action_cut : (at : At) → cut_fields (action_asks form) at ≡ behind (cut_at (long_below (suc UNTIL)) at) (λ on. behind (cut_at (one_of form.points) on) (cut_fields (map cell_of form.cells)))
  unfolding cut_fields
  action_cut at = refl

  action_cuts : (total : ℕ) (bytes : List ℕ) → length bytes ≤ total → Cuts total bytes (action_at form bytes) (cut_fields (action_asks form) (seen total bytes))
  unfolding action_at
  action_cuts total bytes le =
      subst (λ cut. Cuts total bytes (action_at form bytes) cut) (sym (action_cut (seen total bytes)))
      (cuts_behind total bytes (field_at (long_below (suc UNTIL)) bytes) _ (cut_at (long_below (suc UNTIL)) (seen total bytes))
      (λ on. behind (cut_at (one_of form.points) on) (cut_fields (map cell_of form.cells))) le (field_cuts total (long_below (suc UNTIL)) bytes le)
      (onward_behind _ (cut_at (one_of form.points) _) (cut_fields (map cell_of form.cells)) (onward_at (one_of form.points) _) (onward_fields (map cell_of form.cells) _))
      (λ number rest is less.
      cuts_behind total rest (field_at (one_of form.points) rest) _ (cut_at (one_of form.points) (seen total rest)) (cut_fields (map cell_of form.cells)) less
      (field_cuts total (one_of form.points) rest less) (onward_fields (map cell_of form.cells) _)
      (λ point more read lesser.
      fits_map total (length more) (cells more) (λ its. record { number = number; point = point; cells = its }) _ _
      (fields_cuts total (cast_signed w64) (map cell_of form.cells) [] more lesser))))

  copies_cuts : (total : ℕ) (bytes : List ℕ) → length bytes ≤ total → Cuts total bytes (copies bytes) (cut_fields (copies_asks form) (seen total bytes))
  copies_cuts total bytes le = fields_cuts total (cast_signed w32) (copies_asks form) [] bytes le

  -- An action and the copies, or the copies alone
  abbrev standing : Option NextAction → List ℤ → Option Begun
  standing action its = Some (record { copies = its; action = action })

  active_cuts : (total : ℕ) (bytes : List ℕ) → length bytes ≤ total → Cuts total bytes (begun_at form 1 bytes) (cut_fields (action_asks form ++ copies_asks form) (seen total bytes))
  unfolding begun_at
  active_cuts total bytes le =
      subst (λ cut. Cuts total bytes (begun_at form 1 bytes) cut) (sym (cut_both (action_asks form) (copies_asks form) (seen total bytes)))
      (cuts_behind total bytes (go_on (action_at form bytes) (λ action rest. Ok (Some action, rest))) _ (cut_fields (action_asks form) (seen total bytes)) (cut_fields (copies_asks form)) le
      (fits_map total (length bytes) (action_at form bytes) (λ action. Some action) _ _ (action_cuts total bytes le)) (onward_fields (copies_asks form) _)
      (λ action rest is less. fits_map total (length rest) (copies rest) (standing action) _ _ (copies_cuts total rest less)))

  silent_cuts : (total : ℕ) (bytes : List ℕ) → length bytes ≤ total → Cuts total bytes (begun_at form 2 bytes) (cut_fields (copies_asks form) (seen total bytes))
  unfolding begun_at
  silent_cuts total bytes le = fits_map total (length bytes) (copies bytes) (standing None) _ _ (copies_cuts total bytes le)

  waiting_cuts : (total : ℕ) (bytes : List ℕ) → Cuts total bytes (begun_at form 0 bytes) (cut_fields [] (seen total bytes))
  unfolding begun_at cut_fields
  waiting_cuts total bytes = (refl, refl, omega arith)

  begun_cuts : (kind total : ℕ) (bytes : List ℕ) → kind ≤ 2 → length bytes ≤ total → Cuts total bytes (begun_at form kind bytes) (cut_fields (kind_asks form kind) (seen total bytes))
  begun_cuts zero total bytes few le = waiting_cuts total bytes
  begun_cuts (suc zero) total bytes few le = active_cuts total bytes le
  begun_cuts (suc (suc zero)) total bytes few le = silent_cuts total bytes le
  begun_cuts (suc (suc (suc kind))) total bytes few le = absurd (omega (arith, few))

  -- ---- an agent that can't be so

  figures_none : (cut_figures None).fields ≡ []
  unfolding cut_figures cut_fields
  figures_none = refl

  point_found : (place : ℕ) (bytes : List ℕ)
      → value_at ((cut_fields (kind_asks form 1) (Some (place, bytes))).fields ++ (cut_figures (cut_fields (kind_asks form 1) (Some (place, bytes))).on).fields) 1 ≡ found_at false 8 bytes
  point_found place bytes = said_found cut_figures figures_none (kind_asks form 1) 1 place bytes (omega arith)

  module _ (date : ℕ) where
    -- What an agent of a kind is judged by
    abbrev fields_by : ℕ → ℕ → ℕ → List ℕ → List Field
    fields_by total place kind rest =
        good_field place kind ∷ ((cut_fields (kind_asks form kind) (seen total rest)).fields ++ (cut_figures (cut_fields (kind_asks form kind) (seen total rest)).on).fields)

    wrong_kind : (total place kind : ℕ) (bytes rest : List ℕ) → kind ≤ 2 → rest ≡ drop 4 bytes → 4 ≤ length bytes
        → is_wrong_kind form date (fields_by total place kind rest) (Some kind) ≡ is_misplaced form date kind (found_at false 12 bytes)
    unfolding is_wrong_kind
    wrong_kind total place zero bytes rest few is there = refl
    wrong_kind total place (suc zero) bytes rest few is there =
        ap (λ point. ltb date form.first || starts_wrong form date point) (point_found (total - length rest) rest ∙ ap (found_at false 8) is ∙ behind_kind bytes there)
      where
        behind_kind : (bytes : List ℕ) → 4 ≤ length bytes → found_at false 8 (drop 4 bytes) ≡ found_at false 12 bytes
        behind_kind bytes there = sym (ap (λ b. cond b None (found_at false 8 (drop 4 bytes))) (le-ltb (length bytes) 4 there)) ∙ found_further false 4 8 bytes
    wrong_kind total place (suc (suc zero)) bytes rest few is there = refl
    wrong_kind total place (suc (suc (suc kind))) bytes rest few is there = absurd (omega (arith, few))

    -- ---- an agent

    abbrev wrong : List Field → Bool
    wrong fields = is_wrong_kind form date fields (value_at fields 0)

    abbrev misplaced : List ℕ → ℕ → Bool
    misplaced bytes kind = is_misplaced form date kind (found_at false 12 bytes)

    -- What follows the kind
    abbrev onwards : List AgentOpening → ℕ → List ℕ → Result (List AgentOpening × List ℕ) ReadError
    onwards agents kind rest = go_on (begun_at form kind rest) (λ begun more. go_on (figures_at more)
        (λ figures last. Ok (agents ++ (record { begun = begun; count = figures.0; slack = figures.1 }) ∷ [], last)))

    abbrev agent_by : List AgentOpening → List ℕ → Result (ℕ × List ℕ) ReadError → Result (List AgentOpening × List ℕ) ReadError
    agent_by agents bytes r = go_on (go_on r (λ kind rest. unless_wrong (misplaced bytes kind) 2 kind rest (length bytes))) (onwards agents)

    -- What is cut behind the kind
    abbrev cut_behind : ℕ → List ℕ → ℕ → Cut
    cut_behind total rest kind = behind (cut_fields (kind_asks form kind) (seen total rest)) cut_figures

    onwards_cuts : (total : ℕ) (agents : List AgentOpening) (kind : ℕ) (rest : List ℕ) → kind ≤ 2 → length rest ≤ total → Cuts total rest (onwards agents kind rest) (cut_behind total rest kind)
    onwards_cuts total agents kind rest few le =
        cuts_behind total rest (begun_at form kind rest) _ (cut_fields (kind_asks form kind) (seen total rest)) cut_figures le (begun_cuts kind total rest few le) (onward_figures _)
        (λ begun more is less. fits_map total (length more) (figures_at more) (λ figures. agents ++ (record { begun = begun; count = figures.0; slack = figures.1 }) ∷ []) _ _
        (figures_cuts total more less))

    -- The agent is cut so, where its kind is read.
    kind_cut : (total : ℕ) (bytes : List ℕ) → length bytes ≤ total → (kind : ℕ) (rest : List ℕ) → field_at (up_to 2) bytes ≡ Ok (kind, rest)
        → cut_agent form (seen total bytes) ≡ record { fields = good_field (total - length bytes) kind ∷ (cut_behind total rest kind).fields; on = (cut_behind total rest kind).on }
    unfolding cut_agent
    kind_cut total bytes le kind rest is = ap (λ cut. behind (followed cut (kind_asks form)) cut_figures) (field_cut total (up_to 2) bytes le kind rest is)

    -- The faults behind the kind are later ones.
    later_faults : (total : ℕ) (bytes : List ℕ) → length bytes ≤ total → (kind : ℕ) (rest : List ℕ) → field_at (up_to 2) bytes ≡ Ok (kind, rest)
        → Onward (Some (suc (total - length bytes), [])) (faults_in (cut_behind total rest kind).fields) (cut_behind total rest kind).on
    later_faults total bytes le kind rest is = λ later above.
        above_field (up_to 2) (total - length bytes) bytes _
        (subst (λ at. Behind at (faults_in (cut_behind total rest kind).fields ++ later)) (sym (ap (λ (c : Cut). c.on) (field_cut total (up_to 2) bytes le kind rest is)))
        (onward_behind (seen total rest) (cut_fields (kind_asks form kind) (seen total rest)) cut_figures (onward_fields (kind_asks form kind) (seen total rest)) (onward_figures _) later above))

    -- By whether it can be so
    fits_placed : (b : Bool) (total : ℕ) (agents : List AgentOpening) (bytes : List ℕ) (kind : ℕ) (rest : List ℕ) → length bytes ≤ total → length rest ≤ length bytes → kind ≤ 2
        → field_at (up_to 2) bytes ≡ Ok (kind, rest) → wrong (good_field (total - length bytes) kind ∷ (cut_behind total rest kind).fields) ≡ b
        → Fits total (length bytes) (go_on (unless_wrong b 2 kind rest (length bytes)) (onwards agents))
        (part_faults 2 wrong (good_field (total - length bytes) kind ∷ (cut_behind total rest kind).fields)) (cut_behind total rest kind).on
    fits_placed true total agents bytes kind rest le less few is wrong_is =
        (omega arith, part_decides 2 wrong (total - length bytes) kind (cut_behind total rest kind).fields (cut_behind total rest kind).on wrong_is (later_faults total bytes le kind rest is))
    fits_placed false total agents bytes kind rest le less few is wrong_is =
        subst (λ fs. Fits total (length bytes) (onwards agents kind rest) fs (cut_behind total rest kind).on)
        (sym (part_right 2 wrong (total - length bytes) kind (cut_behind total rest kind).fields wrong_is))
        (fits_longer total (length rest) (length bytes) (onwards agents kind rest) _ _ less (onwards_cuts total agents kind rest few (omega (arith, le, less))))

    fits_refused : (total : ℕ) (agents : List AgentOpening) (bytes : List ℕ) (error : ReadError) → Refused total (up_to 2) bytes error
        → Fits total (length bytes) (agent_by agents bytes (Err error)) (part_faults 2 wrong (cut_agent form (seen total bytes)).fields) (cut_agent form (seen total bytes)).on
    unfolding cut_agent
    fits_refused total agents bytes error it =
        let first = cut_at (up_to 2) (seen total bytes) in
        let second = cut_fields (kind_asks form (last_number first.fields)) first.on in
        let more : List Field = second.fields ++ (cut_figures second.on).fields in
        let fields : (first.fields ++ second.fields) ++ (cut_figures second.on).fields ≡ it.field ∷ more =
        append_assoc first.fields second.fields (cut_figures second.on).fields ∙ ap (λ fs. fs ++ more) it.fields in
        let onward : Onward (Some (suc (total - length bytes), [])) (faults_in more) (cut_figures second.on).on =
        λ later above. above_field (up_to 2) (total - length bytes) bytes _
        (onward_behind first.on second cut_figures (onward_fields (kind_asks form (last_number first.fields)) first.on) (onward_figures second.on) later above) in
        let decides : Decides (part_faults 2 wrong (it.field ∷ more)) (cut_figures second.on).on (record { number = 1; place = it.field.place }) =
        field_decides 2 wrong it.field more (cut_figures second.on).on (omega arith) it.wrong
        (subst (λ place. Onward (Some (suc place, [])) (faults_in more) (cut_figures second.on).on) (sym it.place) onward) in
        subst (λ e. Fits total (length bytes) (agent_by agents bytes (Err e)) (part_faults 2 wrong (cut_agent form (seen total bytes)).fields) (cut_agent form (seen total bytes)).on) (sym it.error_is) (
          omega arith,
          subst (λ fs. Decides (part_faults 2 wrong fs) (cut_figures second.on).on (record { number = 1; place = total - length bytes })) (sym fields)
              (subst (λ place. Decides (part_faults 2 wrong (it.field ∷ more)) (cut_figures second.on).on (record { number = 1; place = place })) it.place decides),
        )

    fits_kind : (r : Result (ℕ × List ℕ) ReadError) (total : ℕ) (agents : List AgentOpening) (bytes : List ℕ) → length bytes ≤ total → field_at (up_to 2) bytes ≡ r
        → Fits total (length bytes) (agent_by agents bytes r) (agent_faults form date (cut_agent form (seen total bytes))) (cut_agent form (seen total bytes)).on
    fits_kind (Err error) total agents bytes le is = fits_refused total agents bytes error (refused total (up_to 2) bytes error is)
    fits_kind (Ok x) total agents bytes le is =
        let few : x.0 ≤ 2 = leb-true _ _ (in_range (up_to 2) bytes x.0 x.1 is) in
        let (rest_is, there) = behind_field (up_to 2) bytes x.0 x.1 is in
        subst (λ (cut : Cut). Fits total (length bytes) (agent_by agents bytes (Ok x)) (part_faults 2 wrong cut.fields) cut.on) (sym (kind_cut total bytes le x.0 x.1 is))
        (fits_placed (misplaced bytes x.0) total agents bytes x.0 x.1 le (omega (arith, ap length rest_is, length-drop 4 bytes)) few is
        (wrong_kind total (total - length bytes) x.0 bytes x.1 few rest_is there))

    agent_fits : (total : ℕ) (agents : List AgentOpening) (bytes : List ℕ) → length bytes ≤ total
        → Fits total (length bytes) (agent_at date form agents bytes) (agent_faults form date (cut_agent form (seen total bytes))) (cut_agent form (seen total bytes)).on
    unfolding agent_at kind_at
    agent_fits total agents bytes le = fits_kind (field_at (up_to 2) bytes) total agents bytes le refl

    -- ---- what is told of it

    begun_so : (kind : ℕ) (rest more : List ℕ) (begun : Option Begun) → kind ≤ 2 → begun_at form kind rest ≡ Ok (begun, more) → is_some begun ≡ has_begun_by (Some kind)
    unfolding begun_at
    begun_so zero rest more begun few is = ap (λ (p : Option Begun × List ℕ). is_some p.0) (sym (ok_is (None, rest) (begun, more) is))
    begun_so (suc zero) rest more begun few is =
        let (action, mid, first, second) = go_on_ok (go_on (action_at form rest) (λ action more. Ok (Some action, more))) _ begun more is in
        let (its, read, said) = said_ok (copies mid) (standing action) begun more second in
        ap is_some (sym said)
    begun_so (suc (suc zero)) rest more begun few is =
        let (its, read, said) = said_ok (copies rest) (standing None) begun more is in
        ap is_some (sym said)
    begun_so (suc (suc (suc kind))) rest more begun few is = absurd (omega (arith, few))

    abbrev all_begun : List AgentOpening → List Bool
    all_begun agents = map (λ (a : AgentOpening). is_some a.begun) agents

    shows_placed : (b : Bool) (total : ℕ) (agents later : List AgentOpening) (told : List Bool) (bytes : List ℕ) (kind : ℕ) (rest last : List ℕ) → length bytes ≤ total → kind ≤ 2
        → field_at (up_to 2) bytes ≡ Ok (kind, rest) → all_begun agents ≡ told → go_on (unless_wrong b 2 kind rest (length bytes)) (onwards agents) ≡ Ok (later, last)
        → all_begun later ≡ told ++ has_begun (cut_agent form (seen total bytes)) ∷ []
    shows_placed true total agents later told bytes kind rest last le few is shows e = absurd cc
    shows_placed false total agents later told bytes kind rest last le few is shows e =
        let (begun, mid, first, second) = go_on_ok (begun_at form kind rest) _ later last e in
        let (figures, read, said) = said_ok (figures_at mid) (λ figures. agents ++ (record { begun = begun; count = figures.0; slack = figures.1 }) ∷ []) later last second in
        let same : is_some begun ≡ has_begun (cut_agent form (seen total bytes)) =
        begun_so kind rest mid begun few first ∙ sym (ap (λ (c : Cut). has_begun c) (kind_cut total bytes le kind rest is)) in
        ap all_begun (sym said) ∙ map-append (λ (a : AgentOpening). is_some a.begun) agents _ ∙ ap (λ bs. bs ++ is_some begun ∷ []) shows ∙ ap (λ b. told ++ b ∷ []) same

    shows_kind : (r : Result (ℕ × List ℕ) ReadError) (total : ℕ) (agents later : List AgentOpening) (told : List Bool) (bytes last : List ℕ) → length bytes ≤ total
        → field_at (up_to 2) bytes ≡ r → all_begun agents ≡ told → agent_by agents bytes r ≡ Ok (later, last) → all_begun later ≡ told ++ has_begun (cut_agent form (seen total bytes)) ∷ []
    shows_kind (Err error) total agents later told bytes last le is shows e = absurd cc
    shows_kind (Ok x) total agents later told bytes last le is shows e =
        shows_placed (misplaced bytes x.0) total agents later told bytes x.0 x.1 last le (leb-true _ _ (in_range (up_to 2) bytes x.0 x.1 is)) is shows e

    -- ---- faults of an agent that is cut

    starts_by : (short : Bool) (place : ℕ) (bytes : List ℕ) (more last : List Field) → Starts (Some (place, bytes)) (((cut_by short (up_to 2) place bytes).fields ++ more) ++ last)
    starts_by true place bytes more last = refl
    starts_by false place bytes more last = refl

    starts_agent : (at : At) → Starts at (cut_agent form at).fields
    unfolding cut_agent cut_figures cut_fields cut_one
    starts_agent None = refl
    starts_agent (Some at) = starts_by (ltb (length at.1) 4) at.0 at.1 _ _

    onward_cut : (at : At) → IsOnward at (cut_agent form at)
    unfolding cut_agent
    onward_cut at = onward_behind at (followed (cut_at (up_to 2) at) (kind_asks form)) cut_figures (onward_followed at (cut_at (up_to 2) at) (kind_asks form) (onward_at (up_to 2) at)) (onward_figures _)

    onward_agent : (at : At) → Onward at (agent_faults form date (cut_agent form at)) (cut_agent form at).on
    onward_agent at = onward_part 2 wrong (cut_agent form at).fields at (cut_agent form at).on (starts_agent at) (onward_cut at)

-- ---- the agents

abbrev pub agent_leg : ℕ → AgentForm → List Bool → At → Leg (List Bool)
agent_leg date form told at = record { faults = agent_faults form date (cut_agent form at); on = (cut_agent form at).on; told = told ++ has_begun (cut_agent form at) ∷ [] }

abbrev pub Begins : List AgentOpening → List Bool → Type 0
Begins agents told = map (λ (a : AgentOpening). is_some a.begun) agents ≡ told

shown_agent : (date : ℕ) (form : AgentForm) (total : ℕ) (agents : List AgentOpening) (told : List Bool) (bytes : List ℕ) → length bytes ≤ total → Begins agents told
    → Shown Begins (agent_at date form agents bytes) (told ++ has_begun (cut_agent form (seen total bytes)) ∷ [])
unfolding agent_at kind_at
shown_agent date form total agents told bytes le shows = by (agent_by form date agents bytes (field_at (up_to 2) bytes)) refl
  where
    by : (r : Result (List AgentOpening × List ℕ) ReadError) → agent_by form date agents bytes (field_at (up_to 2) bytes) ≡ r
        → Shown Begins r (told ++ has_begun (cut_agent form (seen total bytes)) ∷ [])
    by (Ok x) is = shows_kind form date (field_at (up_to 2) bytes) total agents x.0 told bytes x.1 le refl shows is
    by (Err error) is = tt

pub agents_follow : (date : ℕ) → Follows Begins (agent_at date) (agent_leg date)
agents_follow date = record {
  onward = λ form told at. onward_agent form date at;
  leads = λ total form agents told bytes le shows.
      record { fits = agent_fits form date total agents bytes le; shows = shown_agent date form total agents told bytes le shows };
}

-- Their faults, one agent after the other, and who has begun
pub agents_legs : (date : ℕ) (forms : List AgentForm) (told : List Bool) (at : At) → agents_faults date forms (cut_each cut_agent forms at) ≡ (legs (agent_leg date) forms told at).faults
unfolding legs cut_each agents_faults
agents_legs date [] told at = refl
agents_legs date (form ∷ forms) told at =
    ap (λ fs. agent_faults form date (cut_agent form at) ++ fs) (agents_legs date forms (told ++ has_begun (cut_agent form at) ∷ []) (cut_agent form at).on)

pub told_legs : (date : ℕ) (forms : List AgentForm) (told : List Bool) (at : At) → (legs (agent_leg date) forms told at).told ≡ told ++ map has_begun (cut_each cut_agent forms at)
unfolding legs cut_each
told_legs date [] told at = sym (append-nil told)
told_legs date (form ∷ forms) told at =
    told_legs date forms (told ++ has_begun (cut_agent form at) ∷ []) (cut_agent form at).on ∙ append_assoc told (has_begun (cut_agent form at) ∷ []) _
