-- Messages that each stand behind the one before them rise, and what holds of each of them.
use Rattle.std.proofs.Common.{◌≡◌, ◌∙◌, ℕ, Bool, true, false, List, [], ◌∷◌, ◌++◌, replicate, length, Some, refl, sym, subst, arith}
use Rattle.std.specs.List.{All, AllPairs}
use Rattle.std.proofs.lemmas.List.Elements.{All-cons, All-nil, All-weaker}
use Rattle.std.proofs.lemmas.List.Kept.{AllPairs-cons}
use Rattle.psy_base.specs.declared.message.Message.{Message}
use Rattle.psy_lists.proofs.lemmas.Tests.{differ}
use Rattle.psy_queue.specs.Order.{comes_before}
use Rattle.psy_queue.proofs.lemmas.Orders.{before_chain, before_one_way}
use Rattle.psy_snap.specs.Cuts.{Ask, message_asks}
use Rattle.psy_snap.specs.Reading.{last_of}
use Rattle.psy_snap.proofs.Finds.{Rights}
use Rattle.psy_snap.proofs.MessagesFound.{IsMessageRight, StandsBehind}
use Rattle.psy_snap.proofs.StreamsRead.{last_pushed}

abbrev Before : Message → Message → Type 0
Before m n = comes_before m n ≡ true

-- What comes before one that comes before another comes before that one.
before_then : (l m n : Message) → Before l m → Before m n → Before l n
before_then l m n first second = by (comes_before l n) refl
  where
    by : (b : Bool) → comes_before l n ≡ b → Before l n
    by true is = is
    by false is = differ (sym first ∙ before_chain l n m is (before_one_way m n second))

module _ (date agents : ℕ) (begun : Bool) where
  abbrev AreFrom : List Message → List Message → Type 0
  AreFrom before messages = Rights (λ (asks : List Ask) before m. IsMessageRight date agents begun before m) (replicate (length messages) (message_asks agents)) before messages

  last_is : (before : List Message) (m : Message) → last_of (before ++ m ∷ []) ≡ Some m
  last_is before m = last_pushed agents date begun before m

  pub each_from : (P : Message → Type 0) → ((before : List Message) (m : Message) → IsMessageRight date agents begun before m → P m) → (before messages : List Message) → AreFrom before messages → All P messages
  each_from P one before [] right = All-nil P
  each_from P one before (m ∷ messages) right = All-cons P m messages (one before m right.first) (each_from P one (before ++ m ∷ []) messages right.second)

  behind_all : (m : Message) (before messages : List Message) → last_of before ≡ Some m → AreFrom before messages → All (Before m) messages
  behind_all m before [] last right = All-nil (Before m)
  behind_all m before (n ∷ messages) last right =
      let first : Before m n = subst (λ o. StandsBehind o n) last right.first.behind in
      All-cons (Before m) n messages first
      (All-weaker (Before n) (Before m) (λ x later. before_then m n x first later) messages (behind_all n (before ++ n ∷ []) messages (last_is before n) right.second))

  pub rise_from : (before messages : List Message) → AreFrom before messages → AllPairs Before messages
  rise_from before [] right = λ i j d less there. absurd (omega (arith, there))
  rise_from before (m ∷ messages) right =
      AllPairs-cons Before m messages (behind_all m (before ++ m ∷ []) messages (last_is before m) right.second) (rise_from (before ++ m ∷ []) messages right.second)
