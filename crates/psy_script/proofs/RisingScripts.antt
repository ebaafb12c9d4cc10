-- The script of a text without fault rises: its stalls by agent, action and instruction, its orders and its rounds by cycle.
use Rattle.std.proofs.Common.{◌≡◌, ◌∙◌, ◌⊎◌, inl, inr, refl, sym, subst, ℕ, suc, ◌<◌, Bool, true, false, cond, ◌&&◌, ◌||◌, List, [], ◌∷◌, ◌++◌, length, Option, Some, None, eqb, ltb, eqb-true, append-nil, true≢false, arith}
use Rattle.std.specs.List.{All, AllPairs, list_any}
use Rattle.std.specs.Option.{option_to_list}
use Rattle.std.proofs.lemmas.Bool.{or_parts}
use Rattle.std.proofs.lemmas.Bool.Decides.{nat_tests}
use Rattle.std.proofs.lemmas.List.Elements.{All-cons, All-nil, All-weaker}
use Rattle.std.proofs.lemmas.List.Kept.{AllPairs-cons}
use Rattle.psy_budget.specs.declared.charge.Stall.{Stall}
use Rattle.psy_tree.specs.declared.unit.Unit.{Unit as Whole}
use Rattle.psy_history.specs.Processors.{processors}
use Rattle.psy_history.specs.declared.told.Order.{Order}
use Rattle.psy_history.specs.declared.told.Round.{Round}
use Rattle.psy_history.specs.declared.told.Script.{Script}
use Rattle.psy_history.specs.Scripts.{IsScript, StallBefore}
use Rattle.psy_script.specs.declared.entry.Entry.{Entry}
use Rattle.psy_script.specs.declared.entry.Entry.TheVariants as entry
use Rattle.psy_script.specs.declared.fault.LineKind.TheVariants.{BadLine}
use Rattle.psy_script.specs.Entries.{clashes, is_beside, round_from, with_entry}
use Rattle.psy_text.specs.Lines.{is_skipped}
use Rattle.psy_text.specs.Lines.{lines_of}
use Rattle.psy_text.specs.Words.{words_of}
use Rattle.psy_script.specs.Rising.{put}
use Rattle.psy_script.specs.Script.{IsScriptOf, Statement, has_same, is_in_range, less_or, names_agents, order_before, round_before, script_judge, stall_before, stands_again, statement_fault, statement_in, statements}
use Rattle.psy_script.proofs.FirstFaults.{kept_lines}
use Rattle.psy_script.proofs.Placing.{All_put}
use Rattle.psy_script.proofs.PutEntries.{from_before}
use Rattle.psy_script.proofs.ScriptFaults.{statements_more}
use Rattle.psy_script.proofs.SoundScripts.{Rises, not_there, parts_of, script_is}
use Rattle.psy_script.proofs.Stated.{clashes_are, numbered, said_more, script_said}

-- ---- items put in their order

module _ {X : Type 0} (Below : X → X → Type 0) where
  pairs_head : (x : X) (xs : List X) → AllPairs Below (x ∷ xs) → All (Below x) xs
  pairs_head x xs rise j d less = rise 0 (suc j) d (omega arith) (omega (arith, less))

  pairs_tail : (x : X) (xs : List X) → AllPairs Below (x ∷ xs) → AllPairs Below xs
  pairs_tail x xs rise i j d first less = rise (suc i) (suc j) d (omega (arith, first)) (omega (arith, less))

module _ {X : Type 0} (before meets : X → X → Bool) (Below : X → X → Type 0) (trans : (x y z : X) → Below x y → Below y z → Below x z) (sooner : (x y : X) → before x y ≡ true → Below x y) (later : (x y : X) → before x y ≡ false → meets x y ≡ false → Below y x) where
  -- An item that meets none of those that rise is put among them so that all rise.
  put_rises : (x : X) (ys : List X) → list_any (meets x) ys ≡ false → AllPairs Below ys → AllPairs Below (put before x ys)
  put_rises x [] none rise = AllPairs-cons Below x [] (All-nil (Below x)) rise
  put_rises x (y ∷ ys) none rise =
      let apart = or_parts (meets x y) (list_any (meets x) ys) none in
      by (before x y) refl apart.0 (put_rises x ys apart.1 (pairs_tail Below y ys rise))
    where
      by : (b : Bool) → before x y ≡ b → meets x y ≡ false → AllPairs Below (put before x ys) → AllPairs Below (cond b (x ∷ y ∷ ys) (y ∷ put before x ys))
      by true e apart rest =
          let less = sooner x y e in
          AllPairs-cons Below x (y ∷ ys) (All-cons (Below x) y ys less (All-weaker (Below y) (Below x) (λ z. trans x y z less) ys (pairs_head Below y ys rise))) rise
      by false e apart rest = AllPairs-cons Below y (put before x ys) (All_put (Below y) before x ys (later x y e apart) (pairs_head Below y ys rise)) rest

-- ---- stalls

stall_trans : (s t u : Stall) → StallBefore s t → StallBefore t u → StallBefore s u
stall_trans s t u (inl a) (inl b) = inl (omega (arith, a, b))
stall_trans s t u (inl a) (inr (e, rest)) = inl (omega (arith, a, e))
stall_trans s t u (inr (e, rest)) (inl b) = inl (omega (arith, e, b))
stall_trans s t u (inr (e, inl a)) (inr (f, inl b)) = inr (e ∙ f, inl (omega (arith, a, b)))
stall_trans s t u (inr (e, inl a)) (inr (f, inr (g, b))) = inr (e ∙ f, inl (omega (arith, a, g)))
stall_trans s t u (inr (e, inr (g, a))) (inr (f, inl b)) = inr (e ∙ f, inl (omega (arith, g, b)))
stall_trans s t u (inr (e, inr (g, a))) (inr (f, inr (h, b))) = inr (e ∙ f, inr (g ∙ h, omega (arith, a, b)))

-- Of two numbers, where the first is no less
no_less : (a b : ℕ) → ltb a b ≡ false → eqb a b ≡ false → b < a
no_less a b less same = grind (arith, nat_tests)

later_part : (a b : ℕ) (rest meets : Bool) → (ltb a b || eqb a b && rest) ≡ false → (eqb a b && meets) ≡ false → (b < a) ⊎ ((b ≡ a) × (rest ≡ false) × (meets ≡ false))
later_part a b rest meets = by (ltb a b) (eqb a b) refl refl
  where
    by : (l q : Bool) → ltb a b ≡ l → eqb a b ≡ q → (l || q && rest) ≡ false → (q && meets) ≡ false → (b < a) ⊎ ((b ≡ a) × (rest ≡ false) × (meets ≡ false))
    by true q less same e m = absurd (true≢false e)
    by false true less same e m = inr (sym (eqb-true a b same), e, m)
    by false false less same e m = inl (no_less a b less same)

stall_later : (s t : Stall) → stall_before s t ≡ false → is_beside s t ≡ false → StallBefore t s
stall_later s t e apart = elim (later_part s.agent t.agent (less_or s.action t.action (ltb s.instr t.instr)) (eqb s.action t.action && eqb s.instr t.instr) e apart) [
  | inl below ↦ inl below
  | inr (agent, f, away) ↦ inr (
    agent,
    elim (later_part s.action t.action (ltb s.instr t.instr) (eqb s.instr t.instr) f away) [
      | inl below ↦ inl below
      | inr (action, g, other) ↦ inr (action, no_less s.instr t.instr g other)
    ],
  )
]

-- ---- scripts

order_sooner : (o p : Order) → order_before o p ≡ true → o.cycle < p.cycle
order_sooner o p e = grind (arith, nat_tests)

round_sooner : (r q : Round) → round_before r q ≡ true → r.cycle < q.cycle
round_sooner r q e = grind (arith, nat_tests)

-- With one more that meets none, all rise.
entry_rises : (script : Script) (e : Entry) → clashes script e ≡ false → Rises script → Rises (with_entry script e)
entry_rises script (entry.Stall s) none rises = record {
  stalls = put_rises stall_before is_beside StallBefore stall_trans from_before stall_later s script.stalls none rises.stalls;
  orders = rises.orders;
  rounds = rises.rounds;
}
entry_rises script (entry.Order o) none rises = record {
  stalls = rises.stalls;
  orders = put_rises order_before (λ (o p : Order). eqb o.cycle p.cycle) (λ (o p : Order). o.cycle < p.cycle) (λ o p q a b. omega (arith, a, b)) order_sooner (λ o p. no_less o.cycle p.cycle) o script.orders
      (or_parts (list_any (λ (p : Order). eqb o.cycle p.cycle) script.orders) (has_same o.agents) none).0 rises.orders;
  rounds = rises.rounds;
}
entry_rises script (entry.Round cycle numbers) none rises = record {
  stalls = rises.stalls;
  orders = rises.orders;
  rounds = put_rises round_before (λ (r q : Round). eqb r.cycle q.cycle) (λ (r q : Round). r.cycle < q.cycle) (λ r q s a b. omega (arith, a, b)) round_sooner (λ r q. no_less r.cycle q.cycle)
      (round_from (cycle, numbers)) script.rounds (or_parts (list_any (λ (r : Round). eqb cycle r.cycle) script.rounds) (has_same numbers) none).0 rises.rounds;
}

-- What is said, with a line more that may say something
said_rises : (unit : Whole) (said : List Statement) (skipped : Bool) (o : Option Statement) → cond skipped None (statement_fault unit said o) ≡ None → Rises (script_said unit said) → Rises (script_said unit (said ++ option_to_list (cond skipped None o)))
said_rises unit said true o sound rise = subst (λ ss. Rises (script_said unit ss)) (sym (append-nil said)) rise
said_rises unit said false None sound rise = absurd (not_there BadLine sound)
said_rises unit said false (Some st) sound rise =
    let parts = parts_of (names_agents unit st) (stands_again said st) (is_in_range (processors unit) st) sound in
    subst Rises (said_more unit said st) (entry_rises (script_said unit said) (numbered unit st) (clashes_are unit said st parts.0 ∙ parts.1) rise)

line_rises : (unit : Whole) (before : List (List ℕ)) (line : List ℕ) → Rises (script_said unit (statements unit before)) → script_judge unit before line ≡ None → Rises (script_said unit (statements unit (before ++ line ∷ [])))
line_rises unit before line rise sound =
    subst (λ ss. Rises (script_said unit ss)) (sym (statements_more unit before line)) (said_rises unit (statements unit before) (is_skipped line) (statement_in (length unit.agents) (processors unit) (words_of line)) sound rise)

-- The script that a text states is one of the program.
pub script_of_text : (unit : Whole) (text : List ℕ) (script : Script) → IsScriptOf unit text script → IsScript unit script
script_of_text unit text script is =
    let none : Rises (script_said unit []) = record {
      stalls = λ i j d first less. absurd (omega (arith, less));
      orders = λ i j d first less. absurd (omega (arith, less));
      rounds = λ i j d first less. absurd (omega (arith, less));
    } in
    let rises = kept_lines (script_judge unit) (λ lines. Rises (script_said unit (statements unit lines))) (line_rises unit) text none is.lawful in
    script_is unit (lines_of text) script is.lawful.sound is.stated (subst Rises (sym is.stated) rises)
