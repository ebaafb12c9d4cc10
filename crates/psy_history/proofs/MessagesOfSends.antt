-- The messages of one action: each is that of a send, and there are as many.
use Rattle.std.proofs.Common.{◌≡◌, ℕ, ◌+◌, List, [], ◌∷◌, length, refl, ◌∙◌, subst, inl, inr, arith}
use Rattle.std.specs.Prelude.{◌==◌, filter}
use Rattle.std.specs.List.{Contains, count_by}
use Rattle.std.proofs.lemmas.Bool.{cases_Bool, cond-false, cond-true, eqb-true}
use Rattle.std.proofs.lemmas.List.Sums.{length-filter}
use Rattle.psy_base.specs.declared.message.Message.{Message}
use Rattle.psy_lists.proofs.lemmas.Members.{contains_none, contains_front, contains_behind, front_or_behind}
use Rattle.psy_code.specs.declared.look.Sent.{Sent}
use Rattle.psy_history.specs.Actions.{System}
use Rattle.psy_history.specs.Visible.{message_of, messages_from}

module _ (s : System) (stream agent end : ℕ) where
  -- The message is that of a send to the stream.
  pub record IsOfSend (sends : List Sent) (m : Message) : Type 0 where
    pub sent : Sent
    pub there : Contains sends sent
    pub to : sent.stream ≡ stream
    pub number : ℕ
    pub is : message_of s agent end number sent ≡ m

  behind : (first : Sent) (sends : List Sent) (m : Message) → IsOfSend sends m → IsOfSend (first ∷ sends) m
  behind first sends m of = record { sent = of.sent; there = contains_behind first sends of.sent of.there; to = of.to; number = of.number; is = of.is }

  pub of_send : (number : ℕ) (sends : List Sent) (m : Message) → Contains (messages_from s stream agent end number sends) m → IsOfSend sends m
  of_send number [] m c = absurd (contains_none m c)
  of_send number (sent ∷ sends) m c =
      let first = message_of s agent end number sent in
      let more = messages_from s stream agent end (number + 1) sends in
      elim (cases_Bool (sent.stream == stream)) [
        | inl to ↦ elim (front_or_behind first more m (subst (λ xs. Contains xs m) (cond-true (sent.stream == stream) (first ∷ more) more to) c)) [
          | inl is ↦ record { sent = sent; there = contains_front sent sends; to = eqb-true sent.stream stream to; number = number; is = is }
          | inr rest ↦ behind sent sends m (of_send (number + 1) sends m rest)
        ]
        | inr other ↦ behind sent sends m (of_send (number + 1) sends m (subst (λ xs. Contains xs m) (cond-false (sent.stream == stream) (first ∷ more) more other) c))
      ]

  many_by : (number : ℕ) (sends : List Sent) → length (messages_from s stream agent end number sends) ≡ length (filter (λ (sent : Sent). sent.stream == stream) sends)
  many_by number [] = refl
  many_by number (sent ∷ sends) = elim (cases_Bool (sent.stream == stream)) [
    | inl to ↦ (let rest = many_by (number + 1) sends in rw to (omega (arith, rest)))
    | inr other ↦ (let rest = many_by (number + 1) sends in rw other rest)
  ]

  -- There are as many as sends to the stream.
  pub many_from : (number : ℕ) (sends : List Sent) → length (messages_from s stream agent end number sends) ≡ count_by (λ (sent : Sent). sent.stream == stream) sends
  many_from number sends = many_by number sends ∙ length-filter (λ (sent : Sent). sent.stream == stream) sends
