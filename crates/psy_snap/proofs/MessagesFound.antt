-- Messages and streams are found where the bytes spell them, and no message is at fault.
use Rattle.std.proofs.Common.{◌≡◌, ◌∙◌, ℕ, ◌^◌, ◌<◌, ◌≤◌, Bool, true, false, not, eqb, List, [], ◌∷◌, ◌++◌, append_assoc, replicate, length, Option, Some, None, Result, Ok, refl, sym, ap, subst, arith}
use Rattle.std.specs.Prelude.{⊤, ℤ, ◌||◌, ◌&&◌, nat_le, nat_lt}
use Rattle.std.specs.Int.{w32, cast_signed, cast_unsigned}
use Rattle.std.specs.List.{All, flat_map}
use Rattle.std.proofs.lemmas.Bool.{leb-false, leb-true, ltb-false, ltb-true}
use Rattle.std.proofs.lemmas.Int.{to_z-of_z}
use Rattle.std.proofs.lemmas.List.{length-append}
use Rattle.std.proofs.lemmas.List.Elements.{All-head, All-tail}
use mir.ValLaws.{of_z_fits}
use Rattle.psy_base.specs.declared.limits.TheConstants.{QUEUE}
use Rattle.psy_base.specs.declared.message.Message.{Message}
use Rattle.psy_dates.specs.declared.opening.AgentOpening.{AgentOpening}
use Rattle.psy_dates.specs.declared.opening.StreamOpening.{StreamOpening}
use Rattle.psy_queue.specs.Order.{comes_before, less_then}
use Rattle.psy_snap.specs.declared.fault.ReadError.{ReadError}
use Rattle.psy_snap.specs.declared.limits.TheConstants.{FAR}
use Rattle.psy_snap.specs.Bytes.{long_bytes, message_bytes, number_bytes, stream_bytes, value_bytes}
use Rattle.psy_snap.specs.Cuts.{Ask, any_number, long_below, message_asks, one_of, up_to}
use Rattle.psy_snap.specs.Faults.{rises}
use Rattle.psy_snap.specs.Forms.{StreamForm}
use Rattle.psy_snap.specs.Ranges.{FitsMessage, FitsStream}
use Rattle.psy_snap.specs.Reading.{begun_in, comes_after, each_at, field_at, found_at, go_on, held_at, is_misheld, keys_of, last_of, message_at, messages_at, stream_at, visible_at}
use Rattle.psy_snap.specs.Shapes.{HasStreamForm}
use Rattle.psy_snap.proofs.AgentsFound.{neither, not_off}
use Rattle.psy_snap.proofs.Finds.{Both, Finds, Rights, as_width, finds_each, finds_field, finds_said, finds_then, finds_weaker, found_behind}
use Rattle.psy_snap.proofs.PartsFound.{finds_unless}
use Rattle.psy_snap.proofs.Spelled.{Pairs}

-- It stands behind the one before it.
abbrev pub StandsBehind : Option Message → Message → Type 0
StandsBehind None m = ⊤
StandsBehind (Some before) m = comes_before before m ≡ true

pub record IsMessageRight (date agents : ℕ) (begun : Bool) (before : List Message) (m : Message) : Type 0 where
  pub behind : StandsBehind (last_of before) m
  pub entered : m.entry ≤ date
  pub visible : m.entry ≤ m.visible
  pub late : m.visible < m.expiry
  pub fresh : begun ≡ true → date < m.expiry
  pub sender : m.sender < agents
  pub near : m.expiry < FAR

without : (x y : Bool) → (x || (y && false)) ≡ x
without true y = refl
without false true = refl
without false false = refl

-- Messages rise by their numbers.
keys_rise : (b m : Message) → rises (keys_of b) (keys_of m) ≡ comes_before b m
keys_rise b m =
    ap (λ t. less_then b.visible m.visible (less_then b.entry m.entry (less_then b.sender m.sender t))) (without (nat_lt b.number m.number) (eqb b.number m.number))

spelled_behind : (before : Option Message) (m : Message) (bytes : List ℕ) → found_at true 0 bytes ≡ Some m.visible → found_at true 8 bytes ≡ Some m.entry → found_at false 16 bytes ≡ Some m.sender
    → found_at false 20 bytes ≡ Some m.number → comes_after before bytes ≡ true → StandsBehind before m
spelled_behind None m bytes visible entry sender number after = tt
spelled_behind (Some b) m bytes visible entry sender number after =
    sym (keys_rise b m) ∙ sym (rw (visible, entry, sender, number) refl) ∙ after

-- What a message at fault is judged by, where all its numbers are there
module _ (date agents : ℕ) (begun : Bool) where
  right_by : (before : Option Message) (m : Message) (bytes : List ℕ) → found_at true 0 bytes ≡ Some m.visible → found_at true 8 bytes ≡ Some m.entry → found_at false 16 bytes ≡ Some m.sender
      → found_at false 20 bytes ≡ Some m.number → found_at true 24 bytes ≡ Some m.expiry → is_misheld date begun before bytes ≡ false
      → StandsBehind before m × (m.entry ≤ date) × (m.entry ≤ m.visible) × (m.visible < m.expiry) × (begun ≡ true → date < m.expiry)
  right_by before m bytes visible entry sender number expiry right =
      let told : (not (comes_after before bytes) || nat_lt date m.entry || nat_lt m.visible m.entry || nat_le m.expiry m.visible || (begun && nat_le m.expiry date)) ≡ false =
      sym (rw (visible, entry, expiry) refl) ∙ right in
      let apart : Bool = not (comes_after before bytes) in
      let (front, fifth) = neither (apart || nat_lt date m.entry || nat_lt m.visible m.entry || nat_le m.expiry m.visible) (begun && nat_le m.expiry date) told in
      let (middle, fourth) = neither (apart || nat_lt date m.entry || nat_lt m.visible m.entry) (nat_le m.expiry m.visible) front in
      let (start, third) = neither (apart || nat_lt date m.entry) (nat_lt m.visible m.entry) middle in
      let (first, second) = neither apart (nat_lt date m.entry) start in (
        spelled_behind before m bytes visible entry sender number (not_off _ first),
        ltb-false _ _ second,
        ltb-false _ _ third,
        leb-false _ _ fourth,
        λ is. leb-false _ _ (ap (λ b. b && nat_le m.expiry date) (sym is) ∙ fifth),
      )

  -- ---- a message

  abbrev made : ℕ → ℕ → ℕ → ℕ → ℕ → ℤ → Message
  made visible entry sender number expiry value = record { visible = visible; entry = entry; sender = sender; number = number; expiry = expiry; value = value }

  abbrev Read : Type 0
  Read = Result (List Message × List ℕ) ReadError

  abbrev with_value : List Message → ℕ → ℕ → ℕ → ℕ → ℕ → List ℕ → Read
  with_value messages visible entry sender number expiry bytes =
      go_on (field_at any_number bytes) (λ value last. Ok (messages ++ made visible entry sender number expiry (cast_signed w32 value) ∷ [], last))

  abbrev with_expiry : List Message → ℕ → ℕ → ℕ → ℕ → List ℕ → Read
  with_expiry messages visible entry sender number bytes = go_on (field_at (long_below FAR) bytes) (with_value messages visible entry sender number)

  abbrev with_number : List Message → ℕ → ℕ → ℕ → List ℕ → Read
  with_number messages visible entry sender bytes = go_on (field_at any_number bytes) (with_expiry messages visible entry sender)

  abbrev with_sender : List Message → ℕ → ℕ → List ℕ → Read
  with_sender messages visible entry bytes = go_on (field_at (one_of agents) bytes) (with_number messages visible entry)

  abbrev with_entry : List Message → ℕ → List ℕ → Read
  with_entry messages visible bytes = go_on (field_at (long_below FAR) bytes) (with_sender messages visible)

  regrouped : (a b c d e : List ℕ) → (a ++ (b ++ (c ++ d))) ++ e ≡ a ++ (b ++ (c ++ (d ++ e)))
  regrouped a b c d e = append_assoc a (b ++ (c ++ d)) e ∙ ap (λ t. a ++ t) (append_assoc b (c ++ d) e ∙ ap (λ t. b ++ t) (append_assoc c d e))

  -- Bytes behind one, in the same grouping
  on_from : (b c d e f g : List ℕ) → (b ++ (c ++ (d ++ (e ++ f)))) ++ g ≡ b ++ (c ++ (d ++ (e ++ (f ++ g))))
  on_from b c d e f g = append_assoc b (c ++ (d ++ (e ++ f))) g ∙ ap (λ t. b ++ t) (regrouped c d e f g)

  two_behind : (a b t : List ℕ) → a ++ (b ++ t) ≡ (a ++ b) ++ t
  two_behind a b t = sym (append_assoc a b t)

  module _ (visible entry sender number expiry : ℕ) (value : ℤ) where
    abbrev it : Message
    it = made visible entry sender number expiry value

    -- The bytes behind its visibility
    abbrev others : List ℕ
    others = long_bytes entry ++ (number_bytes sender ++ (number_bytes number ++ (long_bytes expiry ++ value_bytes value)))

    finds_others : (messages : List Message) → FitsMessage it → Finds (with_entry messages visible) others (messages ++ it ∷ [])
        (λ rest. Both (sender < agents) (expiry < FAR))
    finds_others messages fits =
        let v = cast_unsigned w32 value in
        let last = finds_said (field_at any_number) (λ n. messages ++ made visible entry sender number expiry (cast_signed w32 n) ∷ []) (number_bytes v) v (finds_field any_number v (of_z_fits w32 value fits.value).fits) in
        let ended : Finds (with_value messages visible entry sender number expiry) (value_bytes value) (messages ++ it ∷ []) (λ rest. any_number.range v ≡ true) =
        subst (λ z. Finds (with_value messages visible entry sender number expiry) (value_bytes value) (messages ++ made visible entry sender number expiry z ∷ []) (λ rest. any_number.range v ≡ true))
        (to_z-of_z w32 value fits.value) last in
        finds_weaker (with_entry messages visible) others (messages ++ it ∷ []) (λ rest h. record { first = ltb-true _ _ h.second.first; second = ltb-true _ _ h.second.second.second.first })
        (finds_then (field_at (long_below FAR)) (with_sender messages visible) (long_bytes entry) (number_bytes sender ++ (number_bytes number ++ (long_bytes expiry ++ value_bytes value))) entry (messages ++ it ∷ [])
        (finds_field (long_below FAR) entry fits.entry)
        (finds_then (field_at (one_of agents)) (with_number messages visible entry) (number_bytes sender) (number_bytes number ++ (long_bytes expiry ++ value_bytes value)) sender (messages ++ it ∷ [])
        (finds_field (one_of agents) sender fits.sender)
        (finds_then (field_at any_number) (with_expiry messages visible entry sender) (number_bytes number) (long_bytes expiry ++ value_bytes value) number (messages ++ it ∷ [])
        (finds_field any_number number fits.number)
        (finds_then (field_at (long_below FAR)) (with_value messages visible entry sender number) (long_bytes expiry) (value_bytes value) expiry (messages ++ it ∷ [])
        (finds_field (long_below FAR) expiry fits.expiry) ended))))

    is_right : (before : Option Message) (rest : List ℕ) → FitsMessage it → is_misheld date begun before (long_bytes visible ++ (others ++ rest)) ≡ false
        → StandsBehind before it × (entry ≤ date) × (entry ≤ visible) × (visible < expiry) × (begun ≡ true → date < expiry)
    is_right before rest fits right =
        let e = long_bytes entry in
        let s = number_bytes sender in
        let k = number_bytes number in
        let x = long_bytes expiry in
        let w = value_bytes value in
        let v = long_bytes visible in
        let zero_is : v ++ (others ++ rest) ≡ v ++ (e ++ (s ++ (k ++ (x ++ (w ++ rest))))) = ap (λ t. v ++ t) (on_from e s k x w rest) in
        let one_is = zero_is in
        let two_is = one_is ∙ two_behind v e (s ++ (k ++ (x ++ (w ++ rest)))) in
        let three_is = two_is ∙ two_behind (v ++ e) s (k ++ (x ++ (w ++ rest))) in
        let four_is = three_is ∙ two_behind ((v ++ e) ++ s) k (x ++ (w ++ rest)) in
        let lv : length v ≡ 8 = as_width true visible in
        let le : length (v ++ e) ≡ 16 = omega (arith, length-append v e, lv, as_width true entry) in
        let ls : length ((v ++ e) ++ s) ≡ 20 = omega (arith, length-append (v ++ e) s, le, as_width false sender) in
        let lk : length (((v ++ e) ++ s) ++ k) ≡ 24 = omega (arith, length-append ((v ++ e) ++ s) k, ls, as_width false number) in
        right_by before it (v ++ (others ++ rest))
        (ap (found_at true 0) zero_is ∙ found_behind true [] visible (e ++ (s ++ (k ++ (x ++ (w ++ rest))))) 0 refl fits.visible)
        (ap (found_at true 8) one_is ∙ found_behind true v entry (s ++ (k ++ (x ++ (w ++ rest)))) 8 lv fits.entry)
        (ap (found_at false 16) two_is ∙ found_behind false (v ++ e) sender (k ++ (x ++ (w ++ rest))) 16 le fits.sender)
        (ap (found_at false 20) three_is ∙ found_behind false ((v ++ e) ++ s) number (x ++ (w ++ rest)) 20 ls fits.number)
        (ap (found_at true 24) four_is ∙ found_behind true (((v ++ e) ++ s) ++ k) expiry (w ++ rest) 24 lk fits.expiry)
        right

    finds_message : (asks : List Ask) (messages : List Message) → FitsMessage it
        → Finds (message_at agents date begun asks messages) (message_bytes it) (messages ++ it ∷ []) (λ rest. IsMessageRight date agents begun messages it)
    unfolding message_at visible_at
    finds_message asks messages fits =
        let all = finds_then (visible_at date begun (last_of messages)) (with_entry messages) (long_bytes visible) others visible (messages ++ it ∷ [])
        (finds_unless (long_below FAR) (λ visible bytes. is_misheld date begun (last_of messages) bytes) 3 visible fits.visible) (finds_others messages fits) in
        subst (λ bs. Finds (message_at agents date begun asks messages) bs (messages ++ it ∷ []) (λ rest. IsMessageRight date agents begun messages it))
        (sym (regrouped (long_bytes visible) (long_bytes entry) (number_bytes sender) (number_bytes number) (long_bytes expiry ++ value_bytes value)))
        (finds_weaker (message_at agents date begun asks messages) (long_bytes visible ++ others) (messages ++ it ∷ [])
        (λ rest h.
        let (behind, entered, seen, late, fresh) = is_right (last_of messages) rest fits h.first.second in
        record { behind = behind; entered = entered; visible = seen; late = late; fresh = fresh; sender = h.second.first; near = h.second.second }) all)

  -- ---- the messages

  abbrev GoodMessage : List Ask → Message → Type 0
  GoodMessage asks m = FitsMessage m

  are_good : (messages : List Message) → All FitsMessage messages → Pairs GoodMessage (replicate (length messages) (message_asks agents)) messages
  are_good [] fits = tt
  are_good (m ∷ messages) fits = (All-head FitsMessage m messages fits, are_good messages (All-tail FitsMessage m messages fits))

  abbrev pub AreRight : List Message → Type 0
  AreRight messages =
      Rights (λ (asks : List Ask) before m. IsMessageRight date agents begun before m) (replicate (length messages) (message_asks agents)) [] messages

  finds_messages : (messages : List Message) → All FitsMessage messages → Finds (messages_at agents date begun (length messages)) (flat_map message_bytes messages) messages (λ rest. AreRight messages)
  finds_messages messages fits =
      finds_each message_bytes (message_at agents date begun) GoodMessage (λ asks before m. IsMessageRight date agents begun before m)
      (λ asks before m good. finds_message m.visible m.entry m.sender m.number m.expiry m.value asks before good)
      (replicate (length messages) (message_asks agents)) [] messages (are_good messages fits)

-- ---- streams

pub record IsStreamRight (date : ℕ) (agents : List AgentOpening) (form : StreamForm) (stream : StreamOpening) : Type 0 where
  pub held : stream.held ≤ form.size
  pub few : length stream.messages ≤ QUEUE
  pub messages : AreRight date (length agents) (begun_in agents form.receiver) stream.messages

module _ (date : ℕ) (agents : List AgentOpening) (form : StreamForm) where
  abbrev with_messages : List StreamOpening → ℕ × ℕ → List ℕ → Result (List StreamOpening × List ℕ) ReadError
  with_messages streams counts rest = go_on (messages_at (length agents) date (begun_in agents form.receiver) counts.1 rest)
      (λ messages last. Ok (streams ++ (record { held = counts.0; messages = messages }) ∷ [], last))

  finds_held : (held count : ℕ) → held < 2 ^ 32 → count < 2 ^ 32 → Finds (held_at form.size) (number_bytes held ++ number_bytes count) (held, count) (λ rest. Both (held ≤ form.size) (count ≤ QUEUE))
  finds_held held count small few =
      finds_weaker (held_at form.size) (number_bytes held ++ number_bytes count) (held, count) (λ rest h. record { first = leb-true _ _ h.first; second = leb-true _ _ h.second })
      (finds_then (field_at (up_to form.size)) (λ held rest. go_on (field_at (up_to QUEUE) rest) (λ count more. Ok ((held, count), more))) (number_bytes held) (number_bytes count) held (held, count)
      (finds_field (up_to form.size) held small) (finds_said (field_at (up_to QUEUE)) (λ count. (held, count)) (number_bytes count) count (finds_field (up_to QUEUE) count few)))

  finds_stream : (streams : List StreamOpening) (held : ℕ) (messages : List Message) → FitsStream (record { held = held; messages = messages }) → length messages ≤ QUEUE
      → Finds (stream_at date agents form streams) (stream_bytes (record { held = held; messages = messages })) (streams ++ (record { held = held; messages = messages }) ∷ [])
      (λ rest. IsStreamRight date agents form (record { held = held; messages = messages }))
  unfolding stream_at
  finds_stream streams held messages fits few =
      let it : StreamOpening = record { held = held; messages = messages } in
      let its = finds_messages date (length agents) (begun_in agents form.receiver) messages fits.messages in
      let all = finds_then (held_at form.size) (with_messages streams) (number_bytes held ++ number_bytes (length messages)) (flat_map message_bytes messages) (held, length messages) (streams ++ it ∷ [])
      (finds_held held (length messages) fits.held (omega (arith, few)))
      (finds_said (messages_at (length agents) date (begun_in agents form.receiver) (length messages)) (λ messages. streams ++ (record { held = held; messages = messages }) ∷ []) (flat_map message_bytes messages) messages its) in
      subst (λ bs. Finds (stream_at date agents form streams) bs (streams ++ it ∷ []) (λ rest. IsStreamRight date agents form it))
      (append_assoc (number_bytes held) (number_bytes (length messages)) (flat_map message_bytes messages))
      (finds_weaker (stream_at date agents form streams) ((number_bytes held ++ number_bytes (length messages)) ++ flat_map message_bytes messages) (streams ++ it ∷ [])
      (λ rest h. record { held = h.first.first; few = few; messages = h.second }) all)

abbrev pub GoodStream : StreamForm → StreamOpening → Type 0
GoodStream form stream = Both (HasStreamForm form stream) (FitsStream stream)

pub finds_streams : (date : ℕ) (agents : List AgentOpening) (forms : List StreamForm) (streams : List StreamOpening) → Pairs GoodStream forms streams
    → Finds (each_at (stream_at date agents) forms []) (flat_map stream_bytes streams) streams (λ rest. Rights (λ form before stream. IsStreamRight date agents form stream) forms [] streams)
finds_streams date agents forms streams good =
    finds_each stream_bytes (stream_at date agents) GoodStream (λ form before stream. IsStreamRight date agents form stream)
    (λ form before stream its. finds_stream date agents form before stream.held stream.messages its.second its.first) forms [] streams good
