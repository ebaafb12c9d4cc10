-- A state that is read is spelled by its bytes, and has the shape that the form asks for, with numbers in their ranges.
use Rattle.std.proofs.Common.{◌≡◌, ◌∙◌, ℕ, zero, suc, ◌^◌, ◌<◌, ◌≤◌, Bool, true, false, cond, eqb, List, [], ◌∷◌, ◌++◌, append-nil, append_assoc, map, replicate, length, drop, Option, Some, None, Ok, refl, sym, ap, subst, arith}
use Rattle.std.specs.Prelude.{⊤, ℤ, FitsSigned, nat_eq}
use Rattle.std.specs.Int.{w32, cast_signed}
use Rattle.std.specs.List.{All, flat_map, range_with_len, starts_with}
use Rattle.std.proofs.lemmas.Bool.{eqb-true, leb-true}
use Rattle.std.proofs.lemmas.Bool.Decides.{Decides-eqb}
use Rattle.std.proofs.lemmas.Int.{of_z-to_z}
use Rattle.std.proofs.lemmas.List.{length-map, length-replicate}
use Rattle.std.proofs.lemmas.List.FromFn.{length-map-range_with_len}
use Rattle.std.proofs.lemmas.Slice.Eq.{starts_is}
use mir.ValLaws.{to_z-Fits}
use Rattle.psy_base.specs.declared.limits.TheConstants.{QUEUE, UNTIL}
use Rattle.psy_base.specs.declared.message.Message.{Message}
use Rattle.psy_dates.specs.declared.opening.AgentOpening.{AgentOpening}
use Rattle.psy_dates.specs.declared.opening.Begun.{Begun}
use Rattle.psy_dates.specs.declared.opening.NextAction.{NextAction}
use Rattle.psy_dates.specs.declared.opening.Opening.{Opening}
use Rattle.psy_dates.specs.declared.opening.StreamOpening.{StreamOpening}
use Rattle.psy_dates.specs.declared.opening.VarOpening.{VarOpening}
use Rattle.psy_snap.specs.declared.limits.TheConstants.{FAR, FIGURE}
use Rattle.psy_snap.specs.Bytes.{action_bytes, agent_bytes, begun_bytes, cell_bytes, kind_of, long_bytes, mark, message_bytes, number_bytes, reach_bytes, slack_bytes, spelling, stream_bytes, value_bytes, variable_bytes}
use Rattle.psy_snap.specs.Cuts.{Ask, any_number, cell_of, copies_asks, flag_after, long_below, message_asks, one_of, up_to}
use Rattle.psy_snap.specs.Forms.{AgentForm, Form, StreamForm, VarForm, published_by}
use Rattle.psy_snap.specs.Ranges.{FitsAction, FitsAgent, FitsBegun, FitsMessage, FitsState, FitsStream, FitsVariable, IfThere, IsLong}
use Rattle.psy_snap.specs.Reading.{action_at, agent_at, bad, begun_at, begun_in, cells_at, each_at, end_at, field_at, figures_at, found_at, go_on, head_at, held_at, is_misheld, is_misplaced, kept_ask, kind_at, last_of, message_at, messages_at, reach_at, ring_at, slack_at, state_at, stream_at, unless_wrong, values_at, variable_at, visible_at}
use Rattle.psy_snap.specs.Shapes.{AreOf, HasAgentForm, HasBegun, HasForm, HasStreamForm, HasVarForm}
use Rattle.psy_snap.proofs.AgentsFound.{GoodAgent}
use Rattle.psy_snap.proofs.Finds.{Both}
use Rattle.psy_snap.proofs.MessagesFound.{GoodStream}
use Rattle.psy_snap.proofs.Spelled.{Adds, AddsAll, AreBytes, IsLong as HasWidth, Pairs, Reads, all_forms, all_mapped, all_replicated, are_of, bytes_drop, cells_spelled, each_reads, field_reads, flagged_bytes, flagged_reads, pairs_all, pairs_count, reads_then, values_spelled}
use Rattle.psy_snap.proofs.Steps.{go_on_ok, ok_is, said_ok}
use Rattle.psy_snap.proofs.VariablesFound.{GoodVariable}
use Rattle.psy_snap.proofs.Wholes.{in_range}

-- A number that is read, where the part that begins with it isn't at fault
right_by : (b : Bool) (number n : ℕ) (mid : List ℕ) (left m : ℕ) (rest : List ℕ) → unless_wrong b number n mid left ≡ Ok (m, rest) → (n ≡ m) × (mid ≡ rest)
right_by true number n mid left m rest e = absurd cc
right_by false number n mid left m rest e = let same : (n, mid) ≡ (m, rest) = ok_is (n, mid) (m, rest) e in (ap (λ p. p.0) same, ap (λ p. p.1) same)

right_read : (ask : Ask) (wrong : ℕ → Bool) (number left : ℕ) (bytes : List ℕ) (n : ℕ) (rest : List ℕ)
    → go_on (field_at ask bytes) (λ m more. unless_wrong (wrong m) number m more left) ≡ Ok (n, rest) → field_at ask bytes ≡ Ok (n, rest)
right_read ask wrong number left bytes n rest e =
    let (m, mid, first, second) = go_on_ok (field_at ask bytes) (λ m more. unless_wrong (wrong m) number m more left) n rest e in
    let (same, behind) = right_by (wrong m) number m mid left n rest second in
    first ∙ ap (λ k. Ok (k, mid)) same ∙ ap (λ bs. Ok (n, bs)) behind

-- ---- agents

module _ (form : AgentForm) where
  kind_read : (date : ℕ) (bytes : List ℕ) (kind : ℕ) (rest : List ℕ) → kind_at form date bytes ≡ Ok (kind, rest) → field_at (up_to 2) bytes ≡ Ok (kind, rest)
  unfolding kind_at
  kind_read date bytes kind rest e = right_read (up_to 2) (λ kind. is_misplaced form date kind (found_at false 12 bytes)) 2 (length bytes) bytes kind rest e

  -- An action's bytes, and that it has the agent's cells, in their ranges
  action_spelled : (bytes : List ℕ) (action : NextAction) (rest : List ℕ) → AreBytes bytes → action_at form bytes ≡ Ok (action, rest)
      → Reads bytes (action_bytes (Some action)) rest × Both (length action.cells ≡ length form.cells) (FitsAction action)
  unfolding action_at
  action_spelled bytes action rest are e =
      let (number, r1, e1, f1) = go_on_ok (field_at (long_below (suc UNTIL)) bytes) _ action rest e in
      let (point, r2, e2, f2) = go_on_ok (field_at (one_of form.points) r1) _ action rest f1 in
      let (cells, e3, said) = said_ok (cells_at (map cell_of form.cells) [] r2) (λ cells. record { number = number; point = point; cells = cells }) action rest f2 in
      let (first, small) = field_reads (long_below (suc UNTIL)) bytes number r1 are e1 in
      let (second, less) = field_reads (one_of form.points) r1 point r2 first.1 e2 in
      let its = cells_spelled (map cell_of form.cells) cells r2 rest (all_mapped (HasWidth true) cell_of form.cells (λ type. refl)) second.1 e3 in
      subst (λ (a : NextAction). Reads bytes (action_bytes (Some a)) rest × Both (length a.cells ≡ length form.cells) (FitsAction a)) said (
        reads_then bytes r1 rest (long_bytes number) (number_bytes point ++ flat_map cell_bytes cells) first
            (reads_then r1 r2 rest (number_bytes point) (flat_map cell_bytes cells) second its.reads),
        record { first = its.count_is ∙ length-map form.cells cell_of; second = record { number = small; point = less; cells = its.all } },
      )

  copies_spelled : (bytes : List ℕ) (copies : List ℤ) (rest : List ℕ) → AreBytes bytes → values_at (copies_asks form) [] bytes ≡ Ok (copies, rest)
      → Reads bytes (flat_map value_bytes copies) rest × Both (length copies ≡ form.copies) (All (FitsSigned w32) copies)
  copies_spelled bytes copies rest are e =
      let its = values_spelled (copies_asks form) copies bytes rest (all_replicated (HasWidth false) any_number form.copies refl) are e in
      (its.reads, record { first = its.count_is ∙ length-replicate form.copies any_number; second = its.all })

  -- What it has once it has begun
  abbrev BegunSpelled : ℕ → List ℕ → Option Begun → List ℕ → Type 0
  BegunSpelled kind bytes begun rest = (kind_of begun ≡ kind) × Reads bytes (begun_bytes begun) rest × Both (HasBegun form begun) (FitsBegun begun)

  begun_spelled : (kind : ℕ) (bytes : List ℕ) (begun : Option Begun) (rest : List ℕ) → kind ≤ 2 → AreBytes bytes → begun_at form kind bytes ≡ Ok (begun, rest) → BegunSpelled kind bytes begun rest
  unfolding begun_at
  begun_spelled zero bytes begun rest few are e =
      let same : (None, bytes) ≡ (begun, rest) = ok_is (None, bytes) (begun, rest) e in
      subst (λ (p : Option Begun × List ℕ). BegunSpelled 0 bytes p.0 p.1) same (refl, (refl, are), record { first = tt; second = tt })
  begun_spelled (suc zero) bytes begun rest few are e =
      let (started, mid, first, second) = go_on_ok (go_on (action_at form bytes) (λ action more. Ok (Some action, more))) _ begun rest e in
      let (action, read, is) = said_ok (action_at form bytes) (λ action. Some action) started mid first in
      let (copies, e3, said) = said_ok (values_at (copies_asks form) [] mid) (λ copies. Some (record { copies = copies; action = started })) begun rest second in
      let (front, cells) = action_spelled bytes action mid are read in
      let (behind, count) = copies_spelled mid copies rest front.1 e3 in
      subst (λ b. BegunSpelled 1 bytes b rest) (ap (λ a. Some (record { copies = copies; action = a })) is ∙ said) (
        refl,
        reads_then bytes mid rest (action_bytes (Some action)) (flat_map value_bytes copies) front behind,
        record { first = (count.first, cells.first); second = record { copies = count.second; start = cells.second } },
      )
  begun_spelled (suc (suc zero)) bytes begun rest few are e =
      let (copies, e3, said) = said_ok (values_at (copies_asks form) [] bytes) (λ copies. Some (record { copies = copies; action = None })) begun rest e in
      let (behind, count) = copies_spelled bytes copies rest are e3 in
      subst (λ b. BegunSpelled 2 bytes b rest) said (refl, behind, record { first = (count.first, tt); second = record { copies = count.second; start = tt } })
  begun_spelled (suc (suc (suc kind))) bytes begun rest few are e = absurd (omega (arith, few))

flag_few : (b : Bool) (flag : ℕ) → flag ≡ cond b 0 1 → flag ≤ 1
flag_few true flag is = omega (arith, is)
flag_few false flag is = omega (arith, is)

slack_is : (slack : Option ℕ) → flagged_bytes true slack ≡ slack_bytes slack
slack_is None = refl
slack_is (Some n) = refl

reach_is : (reach : Option ℕ) → flagged_bytes false reach ≡ reach_bytes reach
reach_is None = refl
reach_is (Some n) = refl

-- COUNT and SLACK
figures_spelled : (bytes : List ℕ) (figures : ℕ × Option ℕ) (rest : List ℕ) → AreBytes bytes → figures_at bytes ≡ Ok (figures, rest)
    → Reads bytes (long_bytes figures.0 ++ slack_bytes figures.1) rest × Both (IsLong figures.0) (IfThere IsLong figures.1)
unfolding figures_at
figures_spelled bytes figures rest are e =
    let (count, r1, e1, f1) = go_on_ok (field_at (long_below FIGURE) bytes) _ figures rest e in
    let (flag, r2, e2, f2) = go_on_ok (field_at (flag_after count) r1) _ figures rest f1 in
    let (slack, e3, said) = said_ok (slack_at flag r2) (λ slack. (count, slack)) figures rest f2 in
    let (first, small) = field_reads (long_below FIGURE) bytes count r1 are e1 in
    let second = (field_reads (flag_after count) r1 flag r2 first.1 e2).0 in
    let few : flag ≤ 1 = flag_few (eqb count 0) flag (eqb-true _ _ (in_range (flag_after count) r1 flag r2 e2)) in
    let (flagged, there) = flagged_reads (long_below FIGURE) flag r1 r2 rest slack few second e3 in
    let behind : Reads r1 (slack_bytes slack) rest = subst (λ bs. Reads r1 bs rest) (slack_is slack) flagged in
    subst (λ (p : ℕ × Option ℕ). Reads bytes (long_bytes p.0 ++ slack_bytes p.1) rest × Both (IsLong p.0) (IfThere IsLong p.1)) said
    (reads_then bytes r1 rest (long_bytes count) (slack_bytes slack) first behind, record { first = small; second = there })

agent_adds : (date : ℕ) (form : AgentForm) (agents later : List AgentOpening) (bytes rest : List ℕ) → AreBytes bytes → agent_at date form agents bytes ≡ Ok (later, rest)
    → Adds GoodAgent agent_bytes form agents later bytes rest
unfolding agent_at
agent_adds date form agents later bytes rest are e =
    let (kind, r1, e1, f1) = go_on_ok (kind_at form date bytes) _ later rest e in
    let (begun, r2, e2, f2) = go_on_ok (begun_at form kind r1) _ later rest f1 in
    let (figures, e3, said) = said_ok (figures_at r2) (λ figures. agents ++ (record { begun = begun; count = figures.0; slack = figures.1 }) ∷ []) later rest f2 in
    let kind_is = kind_read form date bytes kind r1 e1 in
    let first = (field_reads (up_to 2) bytes kind r1 are kind_is).0 in
    let its = begun_spelled form kind r1 begun r2 (leb-true _ _ (in_range (up_to 2) bytes kind r1 kind_is)) first.1 e2 in
    let (behind, small) = figures_spelled r2 figures rest its.1.1 e3 in
    record {
      part = record { begun = begun; count = figures.0; slack = figures.1 };
      behind = sym said;
      has = record { first = its.2.first; second = record { begun = its.2.second; count = small.first; slack = small.second } };
      reads = subst (λ k. Reads bytes (number_bytes k ++ (begun_bytes begun ++ (long_bytes figures.0 ++ slack_bytes figures.1))) rest) (sym its.0)
          (reads_then bytes r1 rest (number_bytes kind) (begun_bytes begun ++ (long_bytes figures.0 ++ slack_bytes figures.1)) first
          (reads_then r1 r2 rest (begun_bytes begun) (long_bytes figures.0 ++ slack_bytes figures.1) its.1 behind));
    }

-- ---- variables

variable_adds : (date : ℕ) (form : VarForm) (variables later : List VarOpening) (bytes rest : List ℕ) → AreBytes bytes → variable_at date form variables bytes ≡ Ok (later, rest)
    → Adds GoodVariable variable_bytes form variables later bytes rest
unfolding variable_at
variable_adds date form variables later bytes rest are e =
    let asks = map (kept_ask (published_by form date) form.init) (range_with_len 0 form.size) in
    let (values, r1, e1, f1) = go_on_ok (ring_at (published_by form date) form.init form.size bytes) _ later rest e in
    let (flag, r2, e2, f2) = go_on_ok (field_at (up_to 1) r1) _ later rest f1 in
    let (reach, e3, said) = said_ok (reach_at form.size flag r2) (λ reach. variables ++ (record { values = values; reach = reach }) ∷ []) later rest f2 in
    let its = values_spelled asks values bytes r1 (all_mapped (HasWidth false) (kept_ask (published_by form date) form.init) (range_with_len 0 form.size) (λ back. refl)) are e1 in
    let second = (field_reads (up_to 1) r1 flag r2 its.reads.1 e2).0 in
    let (flagged, there) = flagged_reads (one_of form.size) flag r1 r2 rest reach (leb-true _ _ (in_range (up_to 1) r1 flag r2 e2)) second e3 in
    let behind : Reads r1 (reach_bytes reach) rest = subst (λ bs. Reads r1 bs rest) (reach_is reach) flagged in
    record {
      part = record { values = values; reach = reach };
      behind = sym said;
      has = record {
        first = its.count_is ∙ length-map-range_with_len (kept_ask (published_by form date) form.init) 0 form.size;
        second = record { values = its.all; reach = there };
      };
      reads = reads_then bytes r1 rest (flat_map value_bytes values) (reach_bytes reach) its.reads behind;
    }

-- ---- streams

module _ (agents date : ℕ) (begun : Bool) where
  visible_read : (before : Option Message) (bytes : List ℕ) (visible : ℕ) (rest : List ℕ) → visible_at date begun before bytes ≡ Ok (visible, rest) → field_at (long_below FAR) bytes ≡ Ok (visible, rest)
  unfolding visible_at
  visible_read before bytes visible rest e = right_read (long_below FAR) (λ visible. is_misheld date begun before bytes) 3 (length bytes) bytes visible rest e

  abbrev Told : List Ask → Message → Type 0
  Told asks message = FitsMessage message

  message_adds : (asks : List Ask) (messages later : List Message) (bytes rest : List ℕ) → ⊤ → AreBytes bytes → message_at agents date begun asks messages bytes ≡ Ok (later, rest)
      → Adds Told message_bytes asks messages later bytes rest
  unfolding message_at
  message_adds asks messages later bytes rest any are e =
      let (visible, r1, e1, f1) = go_on_ok (visible_at date begun (last_of messages) bytes) _ later rest e in
      let (entry, r2, e2, f2) = go_on_ok (field_at (long_below FAR) r1) _ later rest f1 in
      let (sender, r3, e3, f3) = go_on_ok (field_at (one_of agents) r2) _ later rest f2 in
      let (number, r4, e4, f4) = go_on_ok (field_at any_number r3) _ later rest f3 in
      let (expiry, r5, e5, f5) = go_on_ok (field_at (long_below FAR) r4) _ later rest f4 in
      let (value, e6, said) = said_ok (field_at any_number r5)
      (λ value. messages ++ (record { visible = visible; entry = entry; sender = sender; number = number; expiry = expiry; value = cast_signed w32 value }) ∷ []) later rest f5 in
      let (first, small_visible) = field_reads (long_below FAR) bytes visible r1 are (visible_read (last_of messages) bytes visible r1 e1) in
      let (second, small_entry) = field_reads (long_below FAR) r1 entry r2 first.1 e2 in
      let (third, small_sender) = field_reads (one_of agents) r2 sender r3 second.1 e3 in
      let (fourth, small_number) = field_reads any_number r3 number r4 third.1 e4 in
      let (fifth, small_expiry) = field_reads (long_below FAR) r4 expiry r5 fourth.1 e5 in
      let (sixth, small) = field_reads any_number r5 value rest fifth.1 e6 in
      let keys : Reads bytes (long_bytes visible ++ (long_bytes entry ++ (number_bytes sender ++ number_bytes number))) r4 =
      reads_then bytes r1 r4 (long_bytes visible) (long_bytes entry ++ (number_bytes sender ++ number_bytes number)) first
      (reads_then r1 r2 r4 (long_bytes entry) (number_bytes sender ++ number_bytes number) second
      (reads_then r2 r3 r4 (number_bytes sender) (number_bytes number) third fourth)) in
      let last : Reads r5 (value_bytes (cast_signed w32 value)) rest = subst (λ n. Reads r5 (number_bytes n) rest) (sym (of_z-to_z w32 value small)) sixth in
      record {
        part = record { visible = visible; entry = entry; sender = sender; number = number; expiry = expiry; value = cast_signed w32 value };
        behind = sym said;
        has = record {
          visible = small_visible;
          entry = small_entry;
          sender = small_sender;
          number = small_number;
          expiry = small_expiry;
          value = to_z-Fits w32 value (record { fits = small });
        };
        reads = reads_then bytes r4 rest (long_bytes visible ++ (long_bytes entry ++ (number_bytes sender ++ number_bytes number))) (long_bytes expiry ++ value_bytes (cast_signed w32 value)) keys
            (reads_then r4 r5 rest (long_bytes expiry) (value_bytes (cast_signed w32 value)) fifth last);
      }

  messages_spelled : (count : ℕ) (bytes : List ℕ) (messages : List Message) (rest : List ℕ) → AreBytes bytes → messages_at agents date begun count bytes ≡ Ok (messages, rest)
      → Reads bytes (flat_map message_bytes messages) rest × Both (length messages ≡ count) (All FitsMessage messages)
  messages_spelled count bytes messages rest are e =
      let asks = replicate count (message_asks agents) in
      let all = each_reads Told message_bytes (λ form. ⊤) (message_at agents date begun) message_adds asks [] messages bytes rest (all_forms (λ form. ⊤) asks (λ form. tt)) are e in (
        subst (λ ms. Reads bytes (flat_map message_bytes ms) rest) (sym all.behind) all.reads,
        record {
          first = ap length all.behind ∙ pairs_count Told asks all.parts all.have ∙ length-replicate count (message_asks agents);
          second = subst (All FitsMessage) (sym all.behind) (pairs_all FitsMessage asks all.parts all.have);
        },
      )

stream_adds : (date : ℕ) (agents : List AgentOpening) (form : StreamForm) (streams later : List StreamOpening) (bytes rest : List ℕ) → AreBytes bytes
    → stream_at date agents form streams bytes ≡ Ok (later, rest) → Adds GoodStream stream_bytes form streams later bytes rest
unfolding stream_at
stream_adds date agents form streams later bytes rest are e =
    let (counts, r2, e12, f2) = go_on_ok (held_at form.size bytes) _ later rest e in
    let (held, r1, e1, f1) = go_on_ok (field_at (up_to form.size) bytes) _ counts r2 e12 in
    let (count, e2, counts_is) = said_ok (field_at (up_to QUEUE) r1) (λ count. (held, count)) counts r2 f1 in
    let (messages, e3, said) = said_ok (messages_at (length agents) date (begun_in agents form.receiver) counts.1 r2) (λ messages. streams ++ (record { held = counts.0; messages = messages }) ∷ []) later rest f2 in
    let (first, small) = field_reads (up_to form.size) bytes held r1 are e1 in
    let second = (field_reads (up_to QUEUE) r1 count r2 first.1 e2).0 in
    let (third, many) = messages_spelled (length agents) date (begun_in agents form.receiver) counts.1 r2 messages rest second.1 e3 in
    let same : count ≡ length messages = ap (λ (p : ℕ × ℕ). p.1) counts_is ∙ sym many.first in
    let few : count ≤ QUEUE = leb-true _ _ (in_range (up_to QUEUE) r1 count r2 e2) in
    record {
      part = record { held = counts.0; messages = messages };
      behind = sym said;
      has = record {
        first = omega (arith, same, few);
        second = record { held = subst (λ n. n < 2 ^ 32) (ap (λ (p : ℕ × ℕ). p.0) counts_is) small; messages = many.second };
      };
      reads = subst (λ n. Reads bytes (number_bytes n ++ (number_bytes (length messages) ++ flat_map message_bytes messages)) rest) (ap (λ (p : ℕ × ℕ). p.0) counts_is)
          (subst (λ n. Reads bytes (number_bytes held ++ (number_bytes n ++ flat_map message_bytes messages)) rest) same
          (reads_then bytes r1 rest (number_bytes held) (number_bytes count ++ flat_map message_bytes messages) first
          (reads_then r1 r2 rest (number_bytes count) (flat_map message_bytes messages) second third)));
    }

-- ---- all of it

head_by : (marked : Bool) (form : Form) (bytes : List ℕ) (date : ℕ) (rest : List ℕ) → starts_with nat_eq bytes mark ≡ marked → AreBytes bytes
    → cond marked (field_at (up_to form.until) (drop 5 bytes)) (bad (length bytes)) ≡ Ok (date, rest) → Reads bytes (mark ++ number_bytes date) rest × (date ≤ form.until) × (date < 2 ^ 32)
head_by true form bytes date rest is are e =
    let whole : bytes ≡ mark ++ drop 5 bytes = (starts_is Decides-eqb bytes mark (starts_with nat_eq bytes mark) refl).0 is in
    let (behind, small) = field_reads (up_to form.until) (drop 5 bytes) date rest (bytes_drop 5 bytes are) e in
    (reads_then bytes (drop 5 bytes) rest mark (number_bytes date) (whole, bytes_drop 5 bytes are) behind, leb-true _ _ (in_range (up_to form.until) (drop 5 bytes) date rest e), small)
head_by false form bytes date rest is are e = absurd cc

head_spelled : (form : Form) (bytes : List ℕ) (date : ℕ) (rest : List ℕ) → AreBytes bytes → head_at form.until bytes ≡ Ok (date, rest) → Reads bytes (mark ++ number_bytes date) rest × (date ≤ form.until) × (date < 2 ^ 32)
unfolding head_at
head_spelled form bytes date rest are e = head_by (starts_with nat_eq bytes mark) form bytes date rest refl are e

end_none : (bytes : List ℕ) (nothing : ⊤) (rest : List ℕ) → end_at bytes ≡ Ok (nothing, rest) → bytes ≡ []
end_none [] nothing rest e = refl
end_none (byte ∷ bytes) nothing rest e = absurd cc

-- Both of two things hold of pairs.
pairs_first : {F X : Type 0} (Has : F → X → Type 0) (FitsIts : X → Type 0) (forms : List F) (xs : List X) → Pairs (λ form x. Both (Has form x) (FitsIts x)) forms xs → Pairs Has forms xs
pairs_first Has FitsIts [] [] are = tt
pairs_first Has FitsIts [] (x ∷ xs) are = absurd are
pairs_first Has FitsIts (form ∷ forms) [] are = absurd are
pairs_first Has FitsIts (form ∷ forms) (x ∷ xs) are = (are.0.first, pairs_first Has FitsIts forms xs are.1)

pairs_second : {F X : Type 0} (Has : F → X → Type 0) (FitsIts : X → Type 0) (forms : List F) (xs : List X) → Pairs (λ form x. Both (Has form x) (FitsIts x)) forms xs
    → Pairs (λ form x. FitsIts x) forms xs
pairs_second Has FitsIts [] [] are = tt
pairs_second Has FitsIts [] (x ∷ xs) are = absurd are
pairs_second Has FitsIts (form ∷ forms) [] are = absurd are
pairs_second Has FitsIts (form ∷ forms) (x ∷ xs) are = (are.0.second, pairs_second Has FitsIts forms xs are.1)

-- What was added to nothing
all_of : {F X : Type 0} (Has : F → X → Type 0) (FitsIts : X → Type 0) (spell : X → List ℕ) (forms : List F) (xs : List X) (bytes rest : List ℕ)
    → AddsAll (λ form x. Both (Has form x) (FitsIts x)) spell forms [] xs bytes rest → Reads bytes (flat_map spell xs) rest × Both (AreOf Has forms xs) (All FitsIts xs)
all_of Has FitsIts spell forms xs bytes rest all =
    subst (λ ys. Reads bytes (flat_map spell ys) rest × Both (AreOf Has forms ys) (All FitsIts ys)) (sym all.behind) (
      all.reads,
      record {
        first = are_of Has forms all.parts (pairs_first Has FitsIts forms all.parts all.have);
        second = pairs_all FitsIts forms all.parts (pairs_second Has FitsIts forms all.parts all.have);
      },
    )

pub state_spelled : (form : Form) (bytes : List ℕ) (opening : Opening) (rest : List ℕ) → AreBytes bytes → state_at form bytes ≡ Ok (opening, rest)
    → (spelling opening ≡ bytes) × Both (HasForm form opening) (FitsState opening)
unfolding state_at spelling
state_spelled form bytes opening rest are e =
    let (date, r1, e1, f1) = go_on_ok (head_at form.until bytes) _ opening rest e in
    let (agents, r2, e2, f2) = go_on_ok (each_at (agent_at date) form.agents [] r1) _ opening rest f1 in
    let (variables, r3, e3, f3) = go_on_ok (each_at (variable_at date) form.variables [] r2) _ opening rest f2 in
    let (streams, r4, e4, f4) = go_on_ok (each_at (stream_at date agents) form.streams [] r3) _ opening rest f3 in
    let (nothing, e5, said) = said_ok (end_at r4) (λ _. record { date = date; agents = agents; variables = variables; streams = streams }) opening rest f4 in
    let (first, early, small) = head_spelled form bytes date r1 are e1 in
    let (second, agents_are) = all_of HasAgentForm FitsAgent agent_bytes form.agents agents r1 r2
    (each_reads GoodAgent agent_bytes (λ form. ⊤) (agent_at date) (λ form xs ys bytes rest any are e. agent_adds date form xs ys bytes rest are e) form.agents [] agents r1 r2
    (all_forms (λ form. ⊤) form.agents (λ form. tt)) first.1 e2) in
    let (third, variables_are) = all_of HasVarForm FitsVariable variable_bytes form.variables variables r2 r3
    (each_reads GoodVariable variable_bytes (λ form. ⊤) (variable_at date) (λ form xs ys bytes rest any are e. variable_adds date form xs ys bytes rest are e) form.variables [] variables r2 r3
    (all_forms (λ form. ⊤) form.variables (λ form. tt)) second.1 e3) in
    let (fourth, streams_are) = all_of HasStreamForm FitsStream stream_bytes form.streams streams r3 r4
    (each_reads GoodStream stream_bytes (λ form. ⊤) (stream_at date agents) (λ form xs ys bytes rest any are e. stream_adds date agents form xs ys bytes rest are e) form.streams [] streams r3 r4
    (all_forms (λ form. ⊤) form.streams (λ form. tt)) third.1 e4) in
    let parts : List ℕ = flat_map agent_bytes agents ++ (flat_map variable_bytes variables ++ flat_map stream_bytes streams) in
    let whole : Reads bytes ((mark ++ number_bytes date) ++ parts) r4 =
    reads_then bytes r1 r4 (mark ++ number_bytes date) parts first
    (reads_then r1 r2 r4 (flat_map agent_bytes agents) (flat_map variable_bytes variables ++ flat_map stream_bytes streams) second
    (reads_then r2 r3 r4 (flat_map variable_bytes variables) (flat_map stream_bytes streams) third fourth)) in
    let spelled : mark ++ (number_bytes date ++ parts) ≡ bytes =
    sym (whole.0 ∙ ap (λ bs. ((mark ++ number_bytes date) ++ parts) ++ bs) (end_none r4 nothing rest e5) ∙ append-nil ((mark ++ number_bytes date) ++ parts)
    ∙ append_assoc mark (number_bytes date) parts) in
    subst (λ (o : Opening). (mark ++ (number_bytes o.date ++ (flat_map agent_bytes o.agents ++ (flat_map variable_bytes o.variables ++ flat_map stream_bytes o.streams))) ≡ bytes) × Both (HasForm form o) (FitsState o)) said (
      spelled,
      record {
        first = record { date = early; agents = agents_are.first; variables = variables_are.first; streams = streams_are.first };
        second = record { date = small; agents = agents_are.second; variables = variables_are.second; streams = streams_are.second };
      },
    )
