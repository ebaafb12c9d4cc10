-- What the fault of tokens says of whether they are the front of a program.
use Rattle.std.proofs.Common.{◌≡◌, ◌≢◌, ℕ, suc, List, [], ◌++◌, length, take, drop, MatchBool, ◌==◌, inl, inr, refl, sym, subst, append_assoc, arith}
use Rattle.std.proofs.lemmas.Bool.Decides.{eqb_tells}
use Rattle.std.proofs.lemmas.List.{append-nil, take-append-drop}
use Rattle.psy_tree.specs.declared.token.Token.{Token}
use Rattle.psy_tree.specs.declared.raw.Raw.{Raw}
use Rattle.psy_tree.specs.Deep.{Shallow}
use Rattle.psy_tree.specs.Grammar.{Spells}
use Rattle.psy_parse.specs.Fault.{Viable, AtFault, inside, at_end}
use Rattle.psy_expect.specs.Terminals.{IsFront}

-- Tokens that have a tree are the front of a program
pub viable_whole : (raw : Raw) (tokens : List Token) → Spells raw tokens → Viable tokens
viable_whole raw tokens spells = record { more = []; raw = raw; spells = subst (λ (ts : List Token). Spells raw ts) (sym (append-nil tokens)) spells }

-- So are those whose fault is that they end
pub viable_at_end : (tokens : List Token) (n : ℕ) → AtFault tokens n → n ≡ length tokens → Viable tokens
viable_at_end tokens n (inside within before not) e = absurd (omega (arith, within, e))
viable_at_end tokens _ (at_end viable none) e = viable

viable_front : (before after : List Token) → Viable (before ++ after) → Viable before
viable_front before after v = record {
  more = after ++ v.more;
  raw = v.raw;
  spells = subst (λ (ts : List Token). Spells v.raw ts) (append_assoc before after v.more) v.spells;
}

viable_take : (i : ℕ) (tokens : List Token) → Viable tokens → Viable (take i tokens)
viable_take i tokens v = viable_front (take i tokens) (drop i tokens) (subst (λ (ts : List Token). Viable ts) (sym (take-append-drop i tokens)) v)

-- And no others
pub not_viable : (tokens : List Token) (n : ℕ) → AtFault tokens n → n ≢ length tokens → Viable tokens → ⊥
not_viable tokens n (inside within before not) differ viable = not (viable_take (suc n) tokens viable)
not_viable tokens _ (at_end viable none) differ _ = differ refl

-- Whether they are, by the number of the token at fault
pub front_by_fault : (tokens : List Token) (n : ℕ) → AtFault tokens n → Shallow tokens → MatchBool (n == length tokens) (IsFront tokens) (IsFront tokens → ⊥)
front_by_fault tokens n fault shallow = elim (eqb_tells n (length tokens)) [
  | inl all ↦ subst (λ b. MatchBool b (IsFront tokens) (IsFront tokens → ⊥)) (sym all.0) (record { viable = viable_at_end tokens n fault all.1; shallow = shallow })
  | inr less ↦ subst (λ b. MatchBool b (IsFront tokens) (IsFront tokens → ⊥)) (sym less.0) (λ is. not_viable tokens n fault less.1 is.viable)
]
