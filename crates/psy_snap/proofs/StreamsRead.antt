-- Reading streams and their messages, and what is cut of them.
use Rattle.std.proofs.Common.{◌≡◌, ◌∙◌, ℕ, zero, suc, ◌-◌, ◌<◌, ◌≤◌, Bool, true, false, cond, leb, ltb, List, [], ◌∷◌, ◌++◌, append-nil, get_or, map, replicate, length, Option, Some, None, Result, Ok, Err, refl, sym, ap, subst, arith}
use Rattle.std.specs.Prelude.{⊤, is_some, slice_get}
use Rattle.std.specs.Int.{w32, cast_signed}
use Rattle.std.proofs.lemmas.List.{append-nil, length-append, length-drop}
use Rattle.std.proofs.Math.ListN.{get_or-map}
use Rattle.psy_base.specs.declared.limits.TheConstants.{QUEUE}
use Rattle.psy_base.specs.declared.message.Message.{Message}
use Rattle.psy_dates.specs.declared.opening.AgentOpening.{AgentOpening}
use Rattle.psy_dates.specs.declared.opening.StreamOpening.{StreamOpening}
use Rattle.psy_snap.specs.declared.fault.ReadError.{ReadError}
use Rattle.psy_snap.specs.declared.limits.TheConstants.{FAR}
use Rattle.psy_snap.specs.Cuts.{Ask, At, Cut, Field, any_number, behind, cut_at, cut_each, cut_fields, cut_one, cut_stream, cut_streams, held_asks, last_number, long_below, message_asks, messages_by, on_behind, on_behind_stream, on_behind_streams, one_of, up_to}
use Rattle.psy_snap.specs.Faults.{both_so, faults_in, has_begun, is_behind, is_wrong_message, key_in, messages_faults, nothing_cut, part_faults, receives, rises, stream_faults, streams_faults, value_at}
use Rattle.psy_snap.specs.Forms.{StreamForm}
use Rattle.psy_snap.specs.Reading.{begun_in, comes_after, field_at, found_at, go_on, held_at, is_misheld, keys_at, keys_of, last_of, message_at, messages_at, stream_at, unless_wrong, visible_at}
use Rattle.psy_snap.proofs.FiguresRead.{rest_less}
use Rattle.psy_snap.proofs.Found.{offset, said_found}
use Rattle.psy_snap.proofs.Legs.{Follows, Leg, Shown, each_leads, legs, onward_legs}
use Rattle.psy_snap.proofs.Parts.{Cuts, Fits, cut_by, cuts_behind, field_cut, field_cuts, fits_longer, fits_map, fits_then, good_field, onward_fields, seen}
use Rattle.psy_snap.proofs.Places.{Behind, Onward, Decides, onward_then}
use Rattle.psy_snap.proofs.Steps.{go_on_ok, said_ok}
use Rattle.psy_snap.proofs.VariablesRead.{Untold, nothing_shown}
use Rattle.psy_snap.proofs.Wholes.{Refused, Starts, above_field, behind_field, field_decides, in_range, onward_part, part_decides, part_right, refused}

-- ---- what a message is judged by

module _ (agents : ℕ) where
  abbrev asks : List Ask
  asks = message_asks agents

  -- The fields behind its visibility
  abbrev others : List Ask
  others = long_below FAR ∷ one_of agents ∷ any_number ∷ long_below FAR ∷ any_number ∷ []

  message_cut : (at : At) → cut_fields asks at ≡ behind (cut_at (long_below FAR) at) (cut_fields others)
  unfolding cut_fields
  message_cut at = refl

  abbrev fields_of : ℕ → List ℕ → List Field
  fields_of place bytes = (cut_fields asks (Some (place, bytes))).fields

  abbrev nothing_more : At → Cut
  nothing_more at = record { fields = []; on = at }

  value_found : (i place : ℕ) (bytes : List ℕ) → i < 6 → value_at (fields_of place bytes) i ≡ found_at (get_or asks i any_number).long (offset asks i) bytes
  value_found i place bytes less = ap (λ fs. value_at fs i) (sym (append-nil (fields_of place bytes))) ∙ said_found nothing_more refl asks i place bytes (omega (arith, less))

  keys_found : (place : ℕ) (bytes : List ℕ) → key_in (fields_of place bytes) ≡ keys_at bytes
  keys_found place bytes =
      rw (value_found 0 place bytes (omega arith), value_found 1 place bytes (omega arith), value_found 2 place bytes (omega arith), value_found 3 place bytes (omega arith)) refl

  -- What is told of the message before: its numbers
  abbrev pub Precedes : Option Message → Option (List Field) → Type 0
  Precedes None None = ⊤
  Precedes None (Some fields) = ⊥
  Precedes (Some message) None = ⊥
  Precedes (Some message) (Some fields) = key_in fields ≡ keys_of message

  after_same : (message : Option Message) (before : Option (List Field)) (place : ℕ) (bytes : List ℕ) → Precedes message before
      → is_behind before (fields_of place bytes) ≡ comes_after message bytes
  after_same None None place bytes same = refl
  after_same None (Some fields) place bytes same = absurd same
  after_same (Some message) None place bytes same = absurd same
  after_same (Some message) (Some fields) place bytes same = ap (λ ks. rises ks (key_in (fields_of place bytes))) same ∙ ap (rises (keys_of message)) (keys_found place bytes)

  swapped_lt : (a b : Option ℕ) → both_so (λ x y. ltb y x) a b ≡ both_so (λ x y. ltb x y) b a
  swapped_lt None None = refl
  swapped_lt None (Some b) = refl
  swapped_lt (Some a) None = refl
  swapped_lt (Some a) (Some b) = refl

  swapped_le : (a b : Option ℕ) → both_so (λ x y. leb y x) a b ≡ both_so (λ x y. leb x y) b a
  swapped_le None None = refl
  swapped_le None (Some b) = refl
  swapped_le (Some a) None = refl
  swapped_le (Some a) (Some b) = refl

  wrong_message : (date : ℕ) (begun : Bool) (message : Option Message) (before : Option (List Field)) (place : ℕ) (bytes : List ℕ) → Precedes message before
      → is_wrong_message date begun before (fields_of place bytes) ≡ is_misheld date begun message bytes
  unfolding is_wrong_message
  wrong_message date begun message before place bytes same =
      rw (
        after_same message before place bytes same,
        value_found 0 place bytes (omega arith),
        value_found 1 place bytes (omega arith),
        value_found 4 place bytes (omega arith),
        swapped_lt (found_at true 8 bytes) (Some date),
        swapped_le (found_at true 0 bytes) (found_at true 24 bytes),
      ) refl

  -- ---- a message

  module _ (date : ℕ) (begun : Bool) where
    abbrev wrong : Option (List Field) → List Field → Bool
    wrong before fields = is_wrong_message date begun before fields

    abbrev misheld : List Message → List ℕ → Bool
    misheld messages bytes = is_misheld date begun (last_of messages) bytes

    abbrev made : ℕ → ℕ → ℕ → ℕ → ℕ → ℕ → Message
    made visible entry sender number expiry value =
        record { visible = visible; entry = entry; sender = sender; number = number; expiry = expiry; value = cast_signed w32 value }

    -- What follows the visibility
    abbrev onwards : List Message → ℕ → List ℕ → Result (List Message × List ℕ) ReadError
    onwards messages visible rest =
        go_on (field_at (long_below FAR) rest) (λ entry rest. go_on (field_at (one_of agents) rest) (λ sender rest. go_on (field_at any_number rest) (λ number rest.
        go_on (field_at (long_below FAR) rest) (λ expiry rest. go_on (field_at any_number rest) (λ value rest.
        Ok (messages ++ made visible entry sender number expiry value ∷ [], rest))))))

    abbrev message_by : List Message → List ℕ → Result (ℕ × List ℕ) ReadError → Result (List Message × List ℕ) ReadError
    message_by messages bytes r = go_on (go_on r (λ visible rest. unless_wrong (misheld messages bytes) 3 visible rest (length bytes))) (onwards messages)

    -- One field, and those behind it
    one_more : {B : Type 0} (total : ℕ) (ask : Ask) (more : List Ask) (bytes : List ℕ) (next : ℕ → List ℕ → Result (B × List ℕ) ReadError) → length bytes ≤ total
        → ((n : ℕ) (rest : List ℕ) → length rest ≤ total → Cuts total rest (next n rest) (cut_fields more (seen total rest)))
        → Cuts total bytes (go_on (field_at ask bytes) next) (cut_fields (ask ∷ more) (seen total bytes))
    unfolding cut_fields
    one_more total ask more bytes next le then_cuts =
        cuts_behind total bytes (field_at ask bytes) next (cut_at ask (seen total bytes)) (cut_fields more) le (field_cuts total ask bytes le) (onward_fields more _)
        (λ n rest is less. then_cuts n rest less)

    nothing_left : {B : Type 0} (total : ℕ) (b : B) (bytes : List ℕ) → Cuts total bytes (Ok (b, bytes)) (cut_fields [] (seen total bytes))
    unfolding cut_fields
    nothing_left total b bytes = (refl, refl, omega arith)

    onwards_cuts : (total : ℕ) (messages : List Message) (visible : ℕ) (rest : List ℕ) → length rest ≤ total → Cuts total rest (onwards messages visible rest) (cut_fields others (seen total rest))
    onwards_cuts total messages visible rest le =
        one_more total (long_below FAR) _ rest _ le (λ entry rest le. one_more total (one_of agents) _ rest _ le (λ sender rest le. one_more total any_number _ rest _ le (λ number rest le.
        one_more total (long_below FAR) _ rest _ le (λ expiry rest le. one_more total any_number [] rest _ le (λ value rest le.
        nothing_left total (messages ++ made visible entry sender number expiry value ∷ []) rest)))))

    -- The message is cut so, where its visibility is read.
    visible_cut : (total : ℕ) (bytes : List ℕ) → length bytes ≤ total → (visible : ℕ) (rest : List ℕ) → field_at (long_below FAR) bytes ≡ Ok (visible, rest)
        → cut_fields asks (seen total bytes) ≡ record { fields = good_field (total - length bytes) visible ∷ (cut_fields others (seen total rest)).fields; on = (cut_fields others (seen total rest)).on }
    visible_cut total bytes le visible rest is =
        message_cut (seen total bytes) ∙ ap (λ cut. behind cut (cut_fields others)) (field_cut total (long_below FAR) bytes le visible rest is)

    later_faults : (total : ℕ) (bytes : List ℕ) → length bytes ≤ total → (visible : ℕ) (rest : List ℕ) → field_at (long_below FAR) bytes ≡ Ok (visible, rest)
        → Onward (Some (suc (total - length bytes), [])) (faults_in (cut_fields others (seen total rest)).fields) (cut_fields others (seen total rest)).on
    later_faults total bytes le visible rest is = λ later above.
        above_field (long_below FAR) (total - length bytes) bytes _
        (subst (λ at. Behind at (faults_in (cut_fields others (seen total rest)).fields ++ later)) (sym (ap (λ (c : Cut). c.on) (field_cut total (long_below FAR) bytes le visible rest is)))
        (onward_fields others (seen total rest) later above))

    fits_held : (b : Bool) (total : ℕ) (messages : List Message) (before : Option (List Field)) (bytes : List ℕ) (visible : ℕ) (rest : List ℕ) → length bytes ≤ total → length rest ≤ length bytes
        → field_at (long_below FAR) bytes ≡ Ok (visible, rest) → wrong before (good_field (total - length bytes) visible ∷ (cut_fields others (seen total rest)).fields) ≡ b
        → Fits total (length bytes) (go_on (unless_wrong b 3 visible rest (length bytes)) (onwards messages))
        (part_faults 3 (wrong before) (good_field (total - length bytes) visible ∷ (cut_fields others (seen total rest)).fields)) (cut_fields others (seen total rest)).on
    fits_held true total messages before bytes visible rest le less is wrong_is = (
      omega arith,
      part_decides 3 (wrong before) (total - length bytes) visible (cut_fields others (seen total rest)).fields (cut_fields others (seen total rest)).on wrong_is
          (later_faults total bytes le visible rest is),
    )
    fits_held false total messages before bytes visible rest le less is wrong_is =
        subst (λ fs. Fits total (length bytes) (onwards messages visible rest) fs (cut_fields others (seen total rest)).on)
        (sym (part_right 3 (wrong before) (total - length bytes) visible (cut_fields others (seen total rest)).fields wrong_is))
        (fits_longer total (length rest) (length bytes) (onwards messages visible rest) _ _ less (onwards_cuts total messages visible rest (omega (arith, le, less))))

    fits_refused : (total : ℕ) (messages : List Message) (before : Option (List Field)) (bytes : List ℕ) (error : ReadError) → Refused total (long_below FAR) bytes error
        → Fits total (length bytes) (message_by messages bytes (Err error)) (part_faults 3 (wrong before) (cut_fields asks (seen total bytes)).fields) (cut_fields asks (seen total bytes)).on
    unfolding cut_fields
    fits_refused total messages before bytes error it =
        let first = cut_at (long_below FAR) (seen total bytes) in
        let second = cut_fields others first.on in
        let onward : Onward (Some (suc (total - length bytes), [])) (faults_in second.fields) second.on =
        λ later above. above_field (long_below FAR) (total - length bytes) bytes _ (onward_fields others first.on later above) in
        let decides : Decides (part_faults 3 (wrong before) (it.field ∷ second.fields)) second.on (record { number = 1; place = it.field.place }) =
        field_decides 3 (wrong before) it.field second.fields second.on (omega arith) it.wrong
        (subst (λ place. Onward (Some (suc place, [])) (faults_in second.fields) second.on) (sym it.place) onward) in
        subst (λ e. Fits total (length bytes) (message_by messages bytes (Err e)) (part_faults 3 (wrong before) (first.fields ++ second.fields)) second.on) (sym it.error_is) (
          omega arith,
          subst (λ fs. Decides (part_faults 3 (wrong before) (fs ++ second.fields)) second.on (record { number = 1; place = total - length bytes })) (sym it.fields)
              (subst (λ place. Decides (part_faults 3 (wrong before) (it.field ∷ second.fields)) second.on (record { number = 1; place = place })) it.place decides),
        )

    fits_visible : (r : Result (ℕ × List ℕ) ReadError) (total : ℕ) (messages : List Message) (before : Option (List Field)) (bytes : List ℕ) → length bytes ≤ total
        → Precedes (last_of messages) before → field_at (long_below FAR) bytes ≡ r
        → Fits total (length bytes) (message_by messages bytes r) (part_faults 3 (wrong before) (cut_fields asks (seen total bytes)).fields) (cut_fields asks (seen total bytes)).on
    fits_visible (Err error) total messages before bytes le same is = fits_refused total messages before bytes error (refused total (long_below FAR) bytes error is)
    fits_visible (Ok x) total messages before bytes le same is =
        let (rest_is, there) = behind_field (long_below FAR) bytes x.0 x.1 is in
        let cut = visible_cut total bytes le x.0 x.1 is in
        subst (λ (cut : Cut). Fits total (length bytes) (message_by messages bytes (Ok x)) (part_faults 3 (wrong before) cut.fields) cut.on) (sym cut)
        (fits_held (misheld messages bytes) total messages before bytes x.0 x.1 le (omega (arith, ap length rest_is, length-drop 8 bytes)) is
        (ap (λ (c : Cut). wrong before c.fields) (sym cut) ∙ wrong_message date begun (last_of messages) before (total - length bytes) bytes same))

    message_fits : (total : ℕ) (form : List Ask) (messages : List Message) (before : Option (List Field)) (bytes : List ℕ) → length bytes ≤ total → Precedes (last_of messages) before
        → Fits total (length bytes) (message_at agents date begun form messages bytes) (part_faults 3 (wrong before) (cut_fields asks (seen total bytes)).fields) (cut_fields asks (seen total bytes)).on
    unfolding message_at visible_at
    message_fits total form messages before bytes le same = fits_visible (field_at (long_below FAR) bytes) total messages before bytes le same refl

    -- ---- what is told of it

    pub last_pushed : (messages : List Message) (m : Message) → last_of (messages ++ m ∷ []) ≡ Some m
    unfolding last_of
    last_pushed messages m =
        ap (λ i. slice_get (messages ++ m ∷ []) i) (omega (arith, length-append messages (m ∷ []))) ∙ pushed messages m
      where
        pushed : (messages : List Message) (m : Message) → slice_get (messages ++ m ∷ []) (length messages) ≡ Some m
        pushed [] m = refl
        pushed (n ∷ messages) m = pushed messages m

    -- A field that is read, before others
    one_cut : (total : ℕ) (ask : Ask) (more : List Ask) (bytes : List ℕ) → length bytes ≤ total → (n : ℕ) (rest : List ℕ) → field_at ask bytes ≡ Ok (n, rest)
        → (cut_fields (ask ∷ more) (seen total bytes)).fields ≡ good_field (total - length bytes) n ∷ (cut_fields more (seen total rest)).fields
    unfolding cut_fields
    one_cut total ask more bytes le n rest is = ap (λ (c : Cut). c.fields ++ (cut_fields more c.on).fields) (field_cut total ask bytes le n rest is)

    precedes_held : (b : Bool) (total : ℕ) (messages later : List Message) (bytes : List ℕ) (visible : ℕ) (rest last : List ℕ) → length bytes ≤ total
        → field_at (long_below FAR) bytes ≡ Ok (visible, rest) → go_on (unless_wrong b 3 visible rest (length bytes)) (onwards messages) ≡ Ok (later, last)
        → Precedes (last_of later) (Some (cut_fields asks (seen total bytes)).fields)
    precedes_held true total messages later bytes visible rest last le is e = absurd cc
    precedes_held false total messages later bytes visible rest last le is e =
        let (entry, r1, e1, f1) = go_on_ok (field_at (long_below FAR) rest) _ later last e in
        let (sender, r2, e2, f2) = go_on_ok (field_at (one_of agents) r1) _ later last f1 in
        let (number, r3, e3, f3) = go_on_ok (field_at any_number r2) _ later last f2 in
        let (expiry, r4, e4, f4) = go_on_ok (field_at (long_below FAR) r3) _ later last f3 in
        let (value, e5, said) = said_ok (field_at any_number r4) (λ value. messages ++ made visible entry sender number expiry value ∷ []) later last f4 in
        let l0 = rest_less total (long_below FAR) bytes visible rest le is in
        let l1 = rest_less total (long_below FAR) rest entry r1 l0 e1 in
        let l2 = rest_less total (one_of agents) r1 sender r2 l1 e2 in
        let fields : (cut_fields asks (seen total bytes)).fields
        ≡ good_field (total - length bytes) visible ∷ good_field (total - length rest) entry ∷ good_field (total - length r1) sender ∷ good_field (total - length r2) number
        ∷ (cut_fields (long_below FAR ∷ any_number ∷ []) (seen total r3)).fields =
        one_cut total (long_below FAR) others bytes le visible rest is
        ∙ ap (λ fs. good_field (total - length bytes) visible ∷ fs) (one_cut total (long_below FAR) _ rest l0 entry r1 e1
        ∙ ap (λ fs. good_field (total - length rest) entry ∷ fs) (one_cut total (one_of agents) _ r1 l1 sender r2 e2
        ∙ ap (λ fs. good_field (total - length r1) sender ∷ fs) (one_cut total any_number _ r2 l2 number r3 e3))) in
        let last_is : last_of later ≡ Some (made visible entry sender number expiry value) =
        ap last_of (sym said) ∙ last_pushed messages (made visible entry sender number expiry value) in
        subst (λ message. Precedes message (Some (cut_fields asks (seen total bytes)).fields))
        (sym {a = last_of later} {b = Some (made visible entry sender number expiry value)} last_is) (ap key_in fields)

    precedes_visible : (r : Result (ℕ × List ℕ) ReadError) (total : ℕ) (messages later : List Message) (bytes last : List ℕ) → length bytes ≤ total → field_at (long_below FAR) bytes ≡ r
        → message_by messages bytes r ≡ Ok (later, last) → Precedes (last_of later) (Some (cut_fields asks (seen total bytes)).fields)
    precedes_visible (Err error) total messages later bytes last le is e = absurd cc
    precedes_visible (Ok x) total messages later bytes last le is e = precedes_held (misheld messages bytes) total messages later bytes x.0 x.1 last le is e

    abbrev Shows : List Message → Option (List Field) → Type 0
    Shows messages before = Precedes (last_of messages) before

    message_shown : (total : ℕ) (form : List Ask) (messages : List Message) (bytes : List ℕ) → length bytes ≤ total
        → Shown Shows (message_at agents date begun form messages bytes) (Some (cut_fields asks (seen total bytes)).fields)
    unfolding message_at visible_at
    message_shown total form messages bytes le = by (message_by messages bytes (field_at (long_below FAR) bytes)) refl
      where
        by : (r : Result (List Message × List ℕ) ReadError) → message_by messages bytes (field_at (long_below FAR) bytes) ≡ r
            → Shown Shows r (Some (cut_fields asks (seen total bytes)).fields)
        by (Ok x) is = precedes_visible (field_at (long_below FAR) bytes) total messages x.0 bytes x.1 le refl is
        by (Err error) is = tt

    -- ---- the messages

    abbrev message_leg : List Ask → Option (List Field) → At → Leg (Option (List Field))
    message_leg form before at = record { faults = part_faults 3 (wrong before) (cut_fields asks at).fields; on = (cut_fields asks at).on; told = Some (cut_fields asks at).fields }

    starts_by : (short : Bool) (place : ℕ) (bytes : List ℕ) (more : List Field) → Starts (Some (place, bytes)) ((cut_by short (long_below FAR) place bytes).fields ++ more)
    starts_by true place bytes more = refl
    starts_by false place bytes more = refl

    starts_message : (at : At) → Starts at (cut_fields asks at).fields
    unfolding cut_fields cut_one
    starts_message None = refl
    starts_message (Some at) = starts_by (ltb (length at.1) 8) at.0 at.1 _

    messages_follow : Follows Shows (message_at agents date begun) message_leg
    messages_follow = record {
      onward = λ form before at. onward_part 3 (wrong before) (cut_fields asks at).fields at (cut_fields asks at).on (starts_message at) (onward_fields asks at);
      leads = λ total form messages before bytes le same.
          record { fits = message_fits total form messages before bytes le same; shows = message_shown total form messages bytes le };
    }

    -- So many of them, cut from there on
    abbrev cut_messages : ℕ → At → List Cut
    cut_messages count at = cut_each (λ asks. cut_fields asks) (replicate count asks) at

    messages_legs : (count : ℕ) (before : Option (List Field)) (at : At) → messages_faults date begun before (cut_messages count at) ≡ (legs message_leg (replicate count asks) before at).faults
    unfolding messages_faults cut_each legs
    messages_legs zero before at = refl
    messages_legs (suc count) before at =
        ap (λ fs. part_faults 3 (wrong before) (cut_fields asks at).fields ++ fs) (messages_legs count (Some (cut_fields asks at).fields) (cut_fields asks at).on)

    messages_on : (count : ℕ) (before : Option (List Field)) (at : At) → on_behind (cut_messages count at) at ≡ (legs message_leg (replicate count asks) before at).on
    unfolding on_behind cut_each legs
    messages_on zero before at = refl
    messages_on (suc count) before at = messages_on count (Some (cut_fields asks at).fields) (cut_fields asks at).on

    messages_onward : (count : ℕ) (at : At) → Onward at (messages_faults date begun None (cut_messages count at)) (on_behind (cut_messages count at) at)
    messages_onward count at =
        rw (messages_legs count None at, messages_on count None at) (onward_legs message_leg messages_follow.onward (replicate count asks) None at)

    nothing_before : Shows [] None
    unfolding last_of
    nothing_before = tt

    messages_fits : (total count : ℕ) (bytes : List ℕ) → length bytes ≤ total
        → Fits total (length bytes) (messages_at agents date begun count bytes) (messages_faults date begun None (cut_messages count (seen total bytes)))
        (on_behind (cut_messages count (seen total bytes)) (seen total bytes))
    messages_fits total count bytes le =
        rw (messages_legs count None (seen total bytes), messages_on count None (seen total bytes))
        (each_leads Shows (message_at agents date begun) message_leg messages_follow total (replicate count asks) [] None bytes le nothing_before).fits

    -- ---- a stream

    head_cuts : (total : ℕ) (form : StreamForm) (bytes : List ℕ) → length bytes ≤ total → Cuts total bytes (held_at form.size bytes) (cut_fields (held_asks form) (seen total bytes))
    head_cuts total form bytes le =
        one_more total (up_to form.size) _ bytes _ le (λ held rest le. one_more total (up_to QUEUE) [] rest _ le (λ count rest le. nothing_left {B = ℕ × ℕ} total (held, count) rest))

    count_is : (total : ℕ) (form : StreamForm) (bytes : List ℕ) → length bytes ≤ total → (counts : ℕ × ℕ) (rest : List ℕ) → held_at form.size bytes ≡ Ok (counts, rest)
        → messages_by (last_number (cut_fields (held_asks form) (seen total bytes)).fields) ≡ counts.1
    unfolding cut_fields
    count_is total form bytes le counts rest is =
        let (held, mid, first, second) = go_on_ok (field_at (up_to form.size) bytes) (λ held more. go_on (field_at (up_to QUEUE) more) (λ count last. Ok ((held, count), last))) counts rest is in
        let (count, read, said) = said_ok (field_at (up_to QUEUE) mid) (λ count. (held, count)) counts rest second in
        let fields : (cut_fields (held_asks form) (seen total bytes)).fields
        ≡ good_field (total - length bytes) held ∷ good_field (total - length mid) count ∷ (cut_fields [] (seen total rest)).fields =
        one_cut total (up_to form.size) (up_to QUEUE ∷ []) bytes le held mid first
        ∙ ap (λ fs. good_field (total - length bytes) held ∷ fs) (one_cut total (up_to QUEUE) [] mid (rest_less total (up_to form.size) bytes held mid le first) count rest read) in
        ap (λ fs. messages_by (last_number fs)) (fields ∙ ap (λ fs. good_field (total - length bytes) held ∷ good_field (total - length mid) count ∷ fs) (nothing_cut_there (seen total rest)))
        ∙ ap (λ b. cond b count 0) (in_range (up_to QUEUE) mid count rest read) ∙ ap (λ (p : ℕ × ℕ). p.1) said
      where
        nothing_cut_there : (at : At) → (cut_fields [] at).fields ≡ []
        nothing_cut_there at = refl

    stream_fits : (total : ℕ) (form : StreamForm) (streams : List StreamOpening) (bytes : List ℕ) → length bytes ≤ total
        → Fits total (length bytes) (go_on (held_at form.size bytes) (λ counts rest. go_on (messages_at agents date begun counts.1 rest)
        (λ messages last. Ok (streams ++ (record { held = counts.0; messages = messages }) ∷ [], last))))
        (stream_faults date begun (cut_stream agents form (seen total bytes))) (on_behind_stream (cut_stream agents form (seen total bytes)))
    unfolding cut_stream
    stream_fits total form streams bytes le =
        let head = cut_fields (held_asks form) (seen total bytes) in
        let count = messages_by (last_number head.fields) in
        fits_then total (length bytes) (held_at form.size bytes) _ (faults_in head.fields) (messages_faults date begun None (cut_messages count head.on)) head.on (on_behind (cut_messages count head.on) head.on)
        (head_cuts total form bytes le) (messages_onward count head.on)
        (λ counts rest is on less.
        fits_map total (length rest) (messages_at agents date begun counts.1 rest) (λ messages. streams ++ (record { held = counts.0; messages = messages }) ∷ []) _ _
        (subst (λ n. Fits total (length rest) (messages_at agents date begun counts.1 rest) (messages_faults date begun None (cut_messages n head.on)) (on_behind (cut_messages n head.on) head.on))
        (sym (count_is total form bytes le counts rest is))
        (subst (λ on. Fits total (length rest) (messages_at agents date begun counts.1 rest) (messages_faults date begun None (cut_messages counts.1 on)) (on_behind (cut_messages counts.1 on) on)) (sym on)
        (messages_fits total counts.1 rest (omega (arith, le, less))))))

    pub stream_onward : (form : StreamForm) (at : At) → Onward at (stream_faults date begun (cut_stream agents form at)) (on_behind_stream (cut_stream agents form at))
    unfolding cut_stream
    stream_onward form at =
        let head = cut_fields (held_asks form) at in
        let count = messages_by (last_number head.fields) in
        onward_then at head.on _ (faults_in head.fields) _ (onward_fields (held_asks form) at) (messages_onward count head.on)

-- ---- the streams

-- Who has begun is told by the agents' kinds.
pub same_begun : (agents : List AgentOpening) (cuts : List Cut) (form : StreamForm) → map (λ (a : AgentOpening). is_some a.begun) agents ≡ map has_begun cuts
    → begun_in agents form.receiver ≡ receives cuts form
same_begun agents cuts form same =
    sym (get_or-map (λ (a : AgentOpening). is_some a.begun) agents form.receiver (record { begun = None; count = 0; slack = None }))
    ∙ ap (λ bs. get_or bs form.receiver false) same ∙ get_or-map has_begun cuts form.receiver nothing_cut

abbrev pub stream_leg : ℕ → ℕ → List Cut → StreamForm → ⊤ → At → Leg ⊤
stream_leg count date cuts form told at =
    record { faults = stream_faults date (receives cuts form) (cut_stream count form at); on = on_behind_stream (cut_stream count form at); told = tt }

read_fits : (date : ℕ) (agents : List AgentOpening) (cuts : List Cut) → map (λ (a : AgentOpening). is_some a.begun) agents ≡ map has_begun cuts
    → (total : ℕ) (form : StreamForm) (streams : List StreamOpening) (bytes : List ℕ) → length bytes ≤ total
    → Fits total (length bytes) (stream_at date agents form streams bytes) (stream_faults date (receives cuts form) (cut_stream (length agents) form (seen total bytes)))
    (on_behind_stream (cut_stream (length agents) form (seen total bytes)))
unfolding stream_at
read_fits date agents cuts same total form streams bytes le =
    subst (λ b. Fits total (length bytes) (stream_at date agents form streams bytes) (stream_faults date b (cut_stream (length agents) form (seen total bytes)))
    (on_behind_stream (cut_stream (length agents) form (seen total bytes)))) (same_begun agents cuts form same)
    (stream_fits (length agents) date (begun_in agents form.receiver) total form streams bytes le)

pub streams_follow : (date : ℕ) (agents : List AgentOpening) (cuts : List Cut) → map (λ (a : AgentOpening). is_some a.begun) agents ≡ map has_begun cuts
    → Follows Untold (stream_at date agents) (stream_leg (length agents) date cuts)
streams_follow date agents cuts same = record {
  onward = λ form told at. stream_onward (length agents) date (receives cuts form) form at;
  leads = λ total form streams told bytes le shows.
      record { fits = read_fits date agents cuts same total form streams bytes le; shows = nothing_shown (stream_at date agents form streams bytes) };
}

pub streams_legs : (count date : ℕ) (cuts : List Cut) (forms : List StreamForm) (at : At)
    → streams_faults date cuts forms (cut_streams count forms at) ≡ (legs (stream_leg count date cuts) forms tt at).faults
unfolding streams_faults cut_streams legs
streams_legs count date cuts [] at = refl
streams_legs count date cuts (form ∷ forms) at =
    ap (λ fs. stream_faults date (receives cuts form) (cut_stream count form at) ++ fs) (streams_legs count date cuts forms (on_behind_stream (cut_stream count form at)))

pub streams_on : (count date : ℕ) (cuts : List Cut) (forms : List StreamForm) (at : At)
    → on_behind_streams (cut_streams count forms at) at ≡ (legs (stream_leg count date cuts) forms tt at).on
unfolding on_behind_streams cut_streams legs
streams_on count date cuts [] at = refl
streams_on count date cuts (form ∷ forms) at = streams_on count date cuts forms (on_behind_stream (cut_stream count form at))
