-- Reading messages and streams that are right goes well.
use Rattle.std.proofs.Common.{◌≡◌, ◌∙◌, ℕ, ◌^◌, ◌<◌, ◌≤◌, Bool, true, false, not, eqb, List, [], ◌∷◌, ◌++◌, append_assoc, replicate, length, Option, Some, None, Result, Ok, refl, sym, ap, subst, arith}
use Rattle.std.specs.Prelude.{ℤ, ◌||◌, ◌&&◌, nat_le, nat_lt}
use Rattle.std.specs.Int.{w32, cast_signed, cast_unsigned}
use Rattle.std.specs.List.{All, flat_map}
use Rattle.std.proofs.lemmas.Bool.{le-leb, le-ltb, lt-leb, lt-ltb, not_from_true, or_from}
use Rattle.std.proofs.lemmas.Int.{to_z-of_z}
use Rattle.std.proofs.lemmas.List.{length-append}
use Rattle.std.proofs.lemmas.List.Elements.{All-head, All-tail}
use mir.ValLaws.{of_z_fits}
use Rattle.psy_base.specs.declared.limits.TheConstants.{QUEUE}
use Rattle.psy_base.specs.declared.message.Message.{Message}
use Rattle.psy_dates.specs.declared.opening.AgentOpening.{AgentOpening}
use Rattle.psy_dates.specs.declared.opening.StreamOpening.{StreamOpening}
use Rattle.psy_snap.specs.declared.fault.ReadError.{ReadError}
use Rattle.psy_snap.specs.declared.limits.TheConstants.{FAR}
use Rattle.psy_queue.specs.Order.{comes_before, less_then}
use Rattle.psy_snap.specs.Bytes.{long_bytes, message_bytes, number_bytes, stream_bytes, value_bytes}
use Rattle.psy_snap.specs.Cuts.{Ask, any_number, long_below, message_asks, one_of, up_to}
use Rattle.psy_snap.specs.Faults.{rises}
use Rattle.psy_snap.specs.Forms.{StreamForm}
use Rattle.psy_snap.specs.Ranges.{FitsMessage, FitsStream}
use Rattle.psy_snap.specs.Reading.{begun_in, comes_after, each_at, field_at, found_at, go_on, held_at, is_misheld, keys_of, last_of, message_at, messages_at, stream_at, visible_at}
use Rattle.psy_snap.proofs.Finds.{Both, Rights, as_width, found_behind}
use Rattle.psy_snap.proofs.Goes.{Goes, goes_each, goes_field, goes_said, goes_then, goes_unless, goes_where}
use Rattle.psy_snap.proofs.MessagesFound.{AreRight, GoodStream, IsMessageRight, IsStreamRight, StandsBehind}
use Rattle.psy_snap.proofs.Spelled.{Pairs}

without : (x y : Bool) → (x || (y && false)) ≡ x
without true y = refl
without false true = refl
without false false = refl

-- Messages rise by their numbers.
keys_rise : (b m : Message) → rises (keys_of b) (keys_of m) ≡ comes_before b m
keys_rise b m =
    ap (λ t. less_then b.visible m.visible (less_then b.entry m.entry (less_then b.sender m.sender t))) (without (nat_lt b.number m.number) (eqb b.number m.number))

stands_after : (before : Option Message) (m : Message) (bytes : List ℕ) → found_at true 0 bytes ≡ Some m.visible → found_at true 8 bytes ≡ Some m.entry → found_at false 16 bytes ≡ Some m.sender
    → found_at false 20 bytes ≡ Some m.number → StandsBehind before m → comes_after before bytes ≡ true
stands_after None m bytes visible entry sender number behind = refl
stands_after (Some b) m bytes visible entry sender number behind = rw (visible, entry, sender, number) refl ∙ keys_rise b m ∙ behind

fresh_off : (begun : Bool) (expiry date : ℕ) → (begun ≡ true → date < expiry) → (begun && nat_le expiry date) ≡ false
fresh_off true expiry date fresh = lt-leb expiry date (fresh refl)
fresh_off false expiry date fresh = refl

module _ (date agents : ℕ) (begun : Bool) where
  held_by : (before : List Message) (m : Message) (bytes : List ℕ) → found_at true 0 bytes ≡ Some m.visible → found_at true 8 bytes ≡ Some m.entry → found_at false 16 bytes ≡ Some m.sender
      → found_at false 20 bytes ≡ Some m.number → found_at true 24 bytes ≡ Some m.expiry → IsMessageRight date agents begun before m → is_misheld date begun (last_of before) bytes ≡ false
  held_by before m bytes visible entry sender number expiry right =
      let apart : Bool = not (comes_after (last_of before) bytes) in
      let off : apart ≡ false = not_from_true (comes_after (last_of before) bytes) (stands_after (last_of before) m bytes visible entry sender number right.behind) in
      let told : (apart || nat_lt date m.entry || nat_lt m.visible m.entry || nat_le m.expiry m.visible || (begun && nat_le m.expiry date)) ≡ false =
      or_from (apart || nat_lt date m.entry || nat_lt m.visible m.entry || nat_le m.expiry m.visible) (begun && nat_le m.expiry date)
      (or_from (apart || nat_lt date m.entry || nat_lt m.visible m.entry) (nat_le m.expiry m.visible)
      (or_from (apart || nat_lt date m.entry) (nat_lt m.visible m.entry) (or_from apart (nat_lt date m.entry) off (le-ltb date m.entry right.entered)) (le-ltb m.visible m.entry right.visible))
      (lt-leb m.expiry m.visible right.late)) (fresh_off begun m.expiry date right.fresh) in
      rw (visible, entry, expiry) refl ∙ told

  -- ---- a message

  abbrev made : ℕ → ℕ → ℕ → ℕ → ℕ → ℤ → Message
  made visible entry sender number expiry value = record { visible = visible; entry = entry; sender = sender; number = number; expiry = expiry; value = value }

  abbrev Read : Type 0
  Read = Result (List Message × List ℕ) ReadError

  abbrev with_value : List Message → ℕ → ℕ → ℕ → ℕ → ℕ → List ℕ → Read
  with_value messages visible entry sender number expiry bytes =
      go_on (field_at any_number bytes) (λ value last. Ok (messages ++ made visible entry sender number expiry (cast_signed w32 value) ∷ [], last))

  abbrev with_expiry : List Message → ℕ → ℕ → ℕ → ℕ → List ℕ → Read
  with_expiry messages visible entry sender number bytes = go_on (field_at (long_below FAR) bytes) (with_value messages visible entry sender number)

  abbrev with_number : List Message → ℕ → ℕ → ℕ → List ℕ → Read
  with_number messages visible entry sender bytes = go_on (field_at any_number bytes) (with_expiry messages visible entry sender)

  abbrev with_sender : List Message → ℕ → ℕ → List ℕ → Read
  with_sender messages visible entry bytes = go_on (field_at (one_of agents) bytes) (with_number messages visible entry)

  abbrev with_entry : List Message → ℕ → List ℕ → Read
  with_entry messages visible bytes = go_on (field_at (long_below FAR) bytes) (with_sender messages visible)

  regrouped : (a b c d e : List ℕ) → (a ++ (b ++ (c ++ d))) ++ e ≡ a ++ (b ++ (c ++ (d ++ e)))
  regrouped a b c d e = append_assoc a (b ++ (c ++ d)) e ∙ ap (λ t. a ++ t) (append_assoc b (c ++ d) e ∙ ap (λ t. b ++ t) (append_assoc c d e))

  -- Bytes behind one, in the same grouping
  on_from : (b c d e f g : List ℕ) → (b ++ (c ++ (d ++ (e ++ f)))) ++ g ≡ b ++ (c ++ (d ++ (e ++ (f ++ g))))
  on_from b c d e f g = append_assoc b (c ++ (d ++ (e ++ f))) g ∙ ap (λ t. b ++ t) (regrouped c d e f g)

  two_behind : (a b t : List ℕ) → a ++ (b ++ t) ≡ (a ++ b) ++ t
  two_behind a b t = sym (append_assoc a b t)

  module _ (visible entry sender number expiry : ℕ) (value : ℤ) where
    abbrev it : Message
    it = made visible entry sender number expiry value

    -- The bytes behind its visibility
    abbrev others : List ℕ
    others = long_bytes entry ++ (number_bytes sender ++ (number_bytes number ++ (long_bytes expiry ++ value_bytes value)))

    -- What is asked of the numbers behind it
    pub record AreNear : Type 0 where
      pub entry_near : entry < FAR
      pub sender_known : sender < agents
      pub expiry_near : expiry < FAR

    goes_others : (messages : List Message) → FitsMessage it → Goes (with_entry messages visible) others (messages ++ it ∷ []) (λ rest. AreNear)
    goes_others messages fits =
        let v = cast_unsigned w32 value in
        let last = goes_said (field_at any_number) (λ n. messages ++ made visible entry sender number expiry (cast_signed w32 n) ∷ []) (number_bytes v) v (goes_field any_number v (of_z_fits w32 value fits.value).fits) in
        let ended : Goes (with_value messages visible entry sender number expiry) (value_bytes value) (messages ++ it ∷ []) (λ rest. any_number.range v ≡ true) =
        subst (λ z. Goes (with_value messages visible entry sender number expiry) (value_bytes value) (messages ++ made visible entry sender number expiry z ∷ []) (λ rest. any_number.range v ≡ true))
        (to_z-of_z w32 value fits.value) last in
        goes_where (with_entry messages visible) others (messages ++ it ∷ [])
        (λ rest near. record {
          first = lt-ltb entry FAR near.entry_near;
          second = record {
            first = lt-ltb sender agents near.sender_known;
            second = record { first = refl; second = record { first = lt-ltb expiry FAR near.expiry_near; second = refl } };
          };
        })
        (goes_then (field_at (long_below FAR)) (with_sender messages visible) (long_bytes entry) (number_bytes sender ++ (number_bytes number ++ (long_bytes expiry ++ value_bytes value))) entry (messages ++ it ∷ [])
        (goes_field (long_below FAR) entry fits.entry)
        (goes_then (field_at (one_of agents)) (with_number messages visible entry) (number_bytes sender) (number_bytes number ++ (long_bytes expiry ++ value_bytes value)) sender (messages ++ it ∷ [])
        (goes_field (one_of agents) sender fits.sender)
        (goes_then (field_at any_number) (with_expiry messages visible entry sender) (number_bytes number) (long_bytes expiry ++ value_bytes value) number (messages ++ it ∷ [])
        (goes_field any_number number fits.number)
        (goes_then (field_at (long_below FAR)) (with_value messages visible entry sender number) (long_bytes expiry) (value_bytes value) expiry (messages ++ it ∷ [])
        (goes_field (long_below FAR) expiry fits.expiry) ended))))

    is_held : (before : List Message) (rest : List ℕ) → FitsMessage it → IsMessageRight date agents begun before it → is_misheld date begun (last_of before) (long_bytes visible ++ (others ++ rest)) ≡ false
    is_held before rest fits right =
        let e = long_bytes entry in
        let s = number_bytes sender in
        let k = number_bytes number in
        let x = long_bytes expiry in
        let w = value_bytes value in
        let v = long_bytes visible in
        let one_is : v ++ (others ++ rest) ≡ v ++ (e ++ (s ++ (k ++ (x ++ (w ++ rest))))) = ap (λ t. v ++ t) (on_from e s k x w rest) in
        let two_is = one_is ∙ two_behind v e (s ++ (k ++ (x ++ (w ++ rest)))) in
        let three_is = two_is ∙ two_behind (v ++ e) s (k ++ (x ++ (w ++ rest))) in
        let four_is = three_is ∙ two_behind ((v ++ e) ++ s) k (x ++ (w ++ rest)) in
        let lv : length v ≡ 8 = as_width true visible in
        let le : length (v ++ e) ≡ 16 = omega (arith, length-append v e, lv, as_width true entry) in
        let ls : length ((v ++ e) ++ s) ≡ 20 = omega (arith, length-append (v ++ e) s, le, as_width false sender) in
        let lk : length (((v ++ e) ++ s) ++ k) ≡ 24 = omega (arith, length-append ((v ++ e) ++ s) k, ls, as_width false number) in
        held_by before it (v ++ (others ++ rest))
        (ap (found_at true 0) one_is ∙ found_behind true [] visible (e ++ (s ++ (k ++ (x ++ (w ++ rest))))) 0 refl fits.visible)
        (ap (found_at true 8) one_is ∙ found_behind true v entry (s ++ (k ++ (x ++ (w ++ rest)))) 8 lv fits.entry)
        (ap (found_at false 16) two_is ∙ found_behind false (v ++ e) sender (k ++ (x ++ (w ++ rest))) 16 le fits.sender)
        (ap (found_at false 20) three_is ∙ found_behind false ((v ++ e) ++ s) number (x ++ (w ++ rest)) 20 ls fits.number)
        (ap (found_at true 24) four_is ∙ found_behind true (((v ++ e) ++ s) ++ k) expiry (w ++ rest) 24 lk fits.expiry)
        right

    are_near : (before : List Message) → IsMessageRight date agents begun before it → AreNear
    are_near before right = record {
      entry_near = omega (arith, right.visible, right.late, right.near);
      sender_known = right.sender;
      expiry_near = right.near;
    }

    goes_message : (asks : List Ask) (messages : List Message) → FitsMessage it
        → Goes (message_at agents date begun asks messages) (message_bytes it) (messages ++ it ∷ []) (λ rest. IsMessageRight date agents begun messages it)
    unfolding message_at visible_at
    goes_message asks messages fits =
        let all = goes_then (visible_at date begun (last_of messages)) (with_entry messages) (long_bytes visible) others visible (messages ++ it ∷ [])
        (goes_unless (long_below FAR) (λ visible bytes. is_misheld date begun (last_of messages) bytes) 3 visible fits.visible) (goes_others messages fits) in
        subst (λ bs. Goes (message_at agents date begun asks messages) bs (messages ++ it ∷ []) (λ rest. IsMessageRight date agents begun messages it))
        (sym (regrouped (long_bytes visible) (long_bytes entry) (number_bytes sender) (number_bytes number) (long_bytes expiry ++ value_bytes value)))
        (goes_where (message_at agents date begun asks messages) (long_bytes visible ++ others) (messages ++ it ∷ [])
        (λ rest right. record {
          first = record { first = lt-ltb visible FAR (omega (arith, right.late, right.near)); second = is_held messages rest fits right };
          second = are_near messages right;
        }) all)

  -- ---- the messages

  abbrev GoodMessage : List Ask → Message → Type 0
  GoodMessage asks m = FitsMessage m

  are_good : (messages : List Message) → All FitsMessage messages → Pairs GoodMessage (replicate (length messages) (message_asks agents)) messages
  are_good [] fits = tt
  are_good (m ∷ messages) fits = (All-head FitsMessage m messages fits, are_good messages (All-tail FitsMessage m messages fits))

  goes_messages : (messages : List Message) → All FitsMessage messages
      → Goes (messages_at agents date begun (length messages)) (flat_map message_bytes messages) messages (λ rest. AreRight date agents begun messages)
  goes_messages messages fits =
      goes_each message_bytes (message_at agents date begun) GoodMessage (λ asks before m. IsMessageRight date agents begun before m)
      (λ asks before m good. goes_message m.visible m.entry m.sender m.number m.expiry m.value asks before good)
      (replicate (length messages) (message_asks agents)) [] messages (are_good messages fits)

-- ---- streams

module _ (date : ℕ) (agents : List AgentOpening) (form : StreamForm) where
  abbrev with_messages : List StreamOpening → ℕ × ℕ → List ℕ → Result (List StreamOpening × List ℕ) ReadError
  with_messages streams counts rest = go_on (messages_at (length agents) date (begun_in agents form.receiver) counts.1 rest)
      (λ messages last. Ok (streams ++ (record { held = counts.0; messages = messages }) ∷ [], last))

  goes_held : (held count : ℕ) → held < 2 ^ 32 → count < 2 ^ 32 → Goes (held_at form.size) (number_bytes held ++ number_bytes count) (held, count) (λ rest. Both (held ≤ form.size) (count ≤ QUEUE))
  goes_held held count small few =
      goes_where (held_at form.size) (number_bytes held ++ number_bytes count) (held, count) (λ rest is. record { first = le-leb held form.size is.first; second = le-leb count QUEUE is.second })
      (goes_then (field_at (up_to form.size)) (λ held rest. go_on (field_at (up_to QUEUE) rest) (λ count more. Ok ((held, count), more))) (number_bytes held) (number_bytes count) held (held, count)
      (goes_field (up_to form.size) held small) (goes_said (field_at (up_to QUEUE)) (λ count. (held, count)) (number_bytes count) count (goes_field (up_to QUEUE) count few)))

  goes_stream : (streams : List StreamOpening) (held : ℕ) (messages : List Message) → FitsStream (record { held = held; messages = messages }) → length messages ≤ QUEUE
      → Goes (stream_at date agents form streams) (stream_bytes (record { held = held; messages = messages })) (streams ++ (record { held = held; messages = messages }) ∷ [])
      (λ rest. IsStreamRight date agents form (record { held = held; messages = messages }))
  unfolding stream_at
  goes_stream streams held messages fits few =
      let it : StreamOpening = record { held = held; messages = messages } in
      let its = goes_messages date (length agents) (begun_in agents form.receiver) messages fits.messages in
      let all = goes_then (held_at form.size) (with_messages streams) (number_bytes held ++ number_bytes (length messages)) (flat_map message_bytes messages) (held, length messages) (streams ++ it ∷ [])
      (goes_held held (length messages) fits.held (omega (arith, few)))
      (goes_said (messages_at (length agents) date (begun_in agents form.receiver) (length messages)) (λ messages. streams ++ (record { held = held; messages = messages }) ∷ []) (flat_map message_bytes messages) messages its) in
      subst (λ bs. Goes (stream_at date agents form streams) bs (streams ++ it ∷ []) (λ rest. IsStreamRight date agents form it))
      (append_assoc (number_bytes held) (number_bytes (length messages)) (flat_map message_bytes messages))
      (goes_where (stream_at date agents form streams) ((number_bytes held ++ number_bytes (length messages)) ++ flat_map message_bytes messages) (streams ++ it ∷ [])
      (λ rest right. record { first = record { first = right.held; second = right.few }; second = right.messages }) all)

pub goes_streams : (date : ℕ) (agents : List AgentOpening) (forms : List StreamForm) (streams : List StreamOpening) → Pairs GoodStream forms streams
    → Goes (each_at (stream_at date agents) forms []) (flat_map stream_bytes streams) streams (λ rest. Rights (λ form before stream. IsStreamRight date agents form stream) forms [] streams)
goes_streams date agents forms streams good =
    goes_each stream_bytes (stream_at date agents) GoodStream (λ form before stream. IsStreamRight date agents form stream)
    (λ form before stream its. goes_stream date agents form before stream.held stream.messages its.second its.first) forms [] streams good
