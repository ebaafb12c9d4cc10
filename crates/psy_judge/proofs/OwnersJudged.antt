-- An owner is judged by its places, and code by its owners.
use Rattle.std.proofs.Common.{◌≡◌, ◌⊎◌, ℕ, ◌+◌, ◌<◌, ◌≤◌, Bool, true, false, ◌&&◌, List, [], ◌∷◌, ◌++◌, length, get_or, take, Some, refl, sym, ap, subst, ◌∙◌, inl, inr, arith}
use Rattle.std.specs.Prelude.{Option, None, slice_get}
use Rattle.std.specs.List.{Contains}
use Rattle.std.proofs.lemmas.Bool.{cases_lt}
use Rattle.std.proofs.lemmas.List.{take_all, take_more}
use Rattle.std.proofs.lemmas.List.Elements.{Contains-append_left, Contains-push, Contains-push_cases}
use Rattle.std.proofs.lemmas.Option.{same_Some, slice_get_within}
use Rattle.psy_lists.proofs.lemmas.Places.{there}
use Rattle.psy_code.specs.declared.code.Code.{Code}
use Rattle.psy_code.specs.declared.instr.Instr.{Instr}
use Rattle.psy_tree.specs.declared.unit.Unit.{Unit as Whole}
use Rattle.psy_meaning.specs.CodeWays.{GoesOn, agent_code_at}
use Rattle.psy_flow.specs.Owners.{Agent, Begins, Function, IsReached, Owner}
use Rattle.psy_flow.specs.Heights.{IsBalanced, IsHeight, shifts}
use Rattle.psy_flow.specs.Marks.{HasEndFor}
use Rattle.psy_flow.specs.Needs.{cells_of, counters_of}
use Rattle.psy_flow.specs.Verified.{Apart, Balanced, ComesBefore, Framed, HasEnd, Inside, IsFramed, IsLed, IsNamed, IsOrdered, Led, Named, Ordered, Rule, number_of}
use Rattle.psy_judge.specs.declared.fault.Fault.{Fault}
use Rattle.psy_judge.specs.declared.heights.Top.{Top}
use Rattle.psy_judge.specs.declared.needs.Need.{Need}
use Rattle.psy_judge.specs.declared.steps.Steps.{Steps}
use Rattle.psy_judge.specs.Highest.{AreStarts, shifts_of}
use Rattle.psy_judge.specs.Walked.{onward_of}
use Rattle.psy_judge.specs.Judged.{IsFirst, IsLeast, IsLeastOf, Judges, lesser}
use Rattle.psy_judge.specs.Judging.{AreReached, FitsFramesOf, FitsStackOf, Here, IsAlone, IsDone, IsEarlier, IsTaken, IsTop, KeepsFor, KeptBy, RuleFor}
use Rattle.psy_judge.specs.Deciding.{first_of, framed_by, leads_by, led_by, level_by, named_by, ordered_by, stays_by, used_by}
use Rattle.psy_judge.specs.Owned.{fault_of}
use Rattle.psy_judge.proofs.CallsJudged.{AreKnown, level_tells, used_tells}
use Rattle.psy_judge.proofs.InstrJudged.{framed_tells, leads_tells, named_tells, ordered_tells, stays_tells}
use Rattle.psy_judge.proofs.JudgedBools.{judge_and, judge_if}
use Rattle.psy_judge.proofs.LeastFaults.{At, Both, least_at, least_lesser, least_same}
use Rattle.psy_judge.proofs.RowsTaken.{reached_at}

-- ---- the first rule that is broken

below_of : (Says : Rule → Type 0) (k : ℕ) → (1 < k → Says Inside) → (2 < k → Says Apart) → (3 < k → Says Balanced) → (4 < k → Says Framed) → (5 < k → Says Named) → (6 < k → Says Ordered) → (7 < k → Says Led)
    → (rule : Rule) → number_of rule < k → Says rule
below_of Says k a b c d e f g Inside less = a less
below_of Says k a b c d e f g Apart less = b less
below_of Says k a b c d e f g Balanced less = c less
below_of Says k a b c d e f g Framed less = d less
below_of Says k a b c d e f g Named less = e less
below_of Says k a b c d e f g Ordered less = f less
below_of Says k a b c d e f g Led less = g less

pub first_tells : (Says : Rule → Type 0) (a b c d e f g : Bool) → Judges a (Says Inside) → Judges b (Says Apart) → Judges c (Says Balanced) → Judges d (Says Framed) → Judges e (Says Named) → Judges f (Says Ordered) → Judges g (Says Led)
    → IsFirst Says (first_of a b c d e f g)
first_tells Says true true true true true true true j k l m n o p =
    λ rule. below_of Says 8 (λ q. j) (λ q. k) (λ q. l) (λ q. m) (λ q. n) (λ q. o) (λ q. p) rule (few rule)
  where
    few : (rule : Rule) → number_of rule < 8
    few Inside = omega arith
    few Apart = omega arith
    few Balanced = omega arith
    few Framed = omega arith
    few Named = omega arith
    few Ordered = omega arith
    few Led = omega arith
first_tells Says true true true true true true false j k l m n o p =
    ((Led, refl, p), below_of Says 7 (λ q. j) (λ q. k) (λ q. l) (λ q. m) (λ q. n) (λ q. o) (λ q. absurd (omega (arith, q))))
first_tells Says true true true true true false g j k l m n o p =
    ((Ordered, refl, o), below_of Says 6 (λ q. j) (λ q. k) (λ q. l) (λ q. m) (λ q. n) (λ q. absurd (omega (arith, q))) (λ q. absurd (omega (arith, q))))
first_tells Says true true true true false f g j k l m n o p =
    ((Named, refl, n), below_of Says 5 (λ q. j) (λ q. k) (λ q. l) (λ q. m) (λ q. absurd (omega (arith, q))) (λ q. absurd (omega (arith, q))) (λ q. absurd (omega (arith, q))))
first_tells Says true true true false e f g j k l m n o p =
    ((Framed, refl, m), below_of Says 4 (λ q. j) (λ q. k) (λ q. l) (λ q. absurd (omega (arith, q))) (λ q. absurd (omega (arith, q))) (λ q. absurd (omega (arith, q))) (λ q. absurd (omega (arith, q))))
first_tells Says true true false d e f g j k l m n o p =
    ((Balanced, refl, l), below_of Says 3 (λ q. j) (λ q. k) (λ q. absurd (omega (arith, q))) (λ q. absurd (omega (arith, q))) (λ q. absurd (omega (arith, q))) (λ q. absurd (omega (arith, q))) (λ q. absurd (omega (arith, q))))
first_tells Says true false c d e f g j k l m n o p =
    ((Apart, refl, k), below_of Says 2 (λ q. j) (λ q. absurd (omega (arith, q))) (λ q. absurd (omega (arith, q))) (λ q. absurd (omega (arith, q))) (λ q. absurd (omega (arith, q))) (λ q. absurd (omega (arith, q))) (λ q. absurd (omega (arith, q))))
first_tells Says false b c d e f g j k l m n o p =
    ((Inside, refl, j), below_of Says 1 (λ q. absurd (omega (arith, q))) (λ q. absurd (omega (arith, q))) (λ q. absurd (omega (arith, q))) (λ q. absurd (omega (arith, q))) (λ q. absurd (omega (arith, q))) (λ q. absurd (omega (arith, q))) (λ q. absurd (omega (arith, q))))

-- ---- a place of an owner

module _ (unit : Whole) (code : Code) (owner : Owner) (place : ℕ) (i : Instr) (at : slice_get code.instrs place ≡ Some i) (reached : IsReached code owner place) where
  abbrev Done : Owner → Type 0
  Done = IsEarlier code owner

  within : place < length code.instrs
  within = slice_get_within code.instrs place i at

  here : (Says : Instr → Type 0) → Says i → Here code owner place Says
  here Says says j also there = subst Says (same_Some i j (sym at ∙ there)) says

  beside : (rule : Rule) → (number_of rule ≡ 2 → ⊥) → rule ≡ Apart → IsAlone code Done owner place
  beside rule other e = absurd (other (ap number_of e))

  inside_tells : Judges (stays_by (onward_of i place) (length code.instrs)) (KeepsFor unit code Done owner place Inside)
  inside_tells =
      judge_if (stays_by (onward_of i place) (length code.instrs)) (stays_tells i place (length code.instrs))
      (λ all. (
        record {
          start = λ begins. within;
          next = λ j next also there goes. all next (subst (λ (k : Instr). GoesOn k place next) (same_Some j i (sym there ∙ at)) goes);
        },
        beside Inside (λ e. omega (arith, e)),
      ))
      (λ h next goes. h.0.next i next reached at goes)

  alone_tells : (alone : Bool) → Judges alone (IsTaken code Done place → ⊥) → Judges alone (KeepsFor unit code Done owner place Apart)
  alone_tells alone j =
      judge_if alone j (λ none. (tt {0}, λ e low also other done reaches. none (other, done, reaches)))
      (λ h (other, done, reaches). h.1 refl within reached other done reaches)

  level_kept : (on : Steps) (steps : shifts_of on ≡ shifts code place i) (needs : List (Option Need)) (t : Top) → AreKnown code needs owner → IsTop (IsHeight code owner place) t
      → Judges (level_by code needs owner i on t) (KeepsFor unit code Done owner place Balanced)
  level_kept on steps needs t known is =
      judge_if (level_by code needs owner i on t) (level_tells code place i at on steps needs owner t known is)
      (λ both. ((λ low. both), beside Balanced (λ e. omega (arith, e)))) (λ h. h.0 within)

  framed_kept : (on : Steps) (steps : shifts_of on ≡ shifts code place i) (needs : List (Option Need)) → AreKnown code needs owner
      → Judges (framed_by (cells_of code owner) (counters_of code owner) i && used_by code needs owner i) (KeepsFor unit code Done owner place Framed)
  framed_kept on steps needs known =
      judge_if (framed_by (cells_of code owner) (counters_of code owner) i && used_by code needs owner i)
      (judge_and _ _ (framed_by (cells_of code owner) (counters_of code owner) i) (used_by code needs owner i) (framed_tells code owner i) (used_tells code place i at on steps needs owner known reached))
      (λ both. ((λ low. (here (IsFramed code owner) both.0, both.1)), beside Framed (λ e. omega (arith, e)))) (λ h. ((h.0 within).0 i reached at, (h.0 within).1))

  named_kept : Judges (named_by unit code owner i) (KeepsFor unit code Done owner place Named)
  named_kept =
      judge_if (named_by unit code owner i) (named_tells unit code owner i)
      (λ says. ((λ low. here (IsNamed unit code owner) says), beside Named (λ e. omega (arith, e)))) (λ h. h.0 within i reached at)

  ordered_kept : Judges (ordered_by owner i) (KeepsFor unit code Done owner place Ordered)
  ordered_kept =
      judge_if (ordered_by owner i) (ordered_tells owner i)
      (λ says. ((λ low. here (IsOrdered owner) says), beside Ordered (λ e. omega (arith, e)))) (λ h. h.0 within i reached at)

  led_kept : (ends : Bool) → Judges ends (HasEnd code.instrs place) → Judges (led_by code owner place i ends) (KeepsFor unit code Done owner place Led)
  led_kept ends j =
      judge_if (led_by code owner place i ends) (both owner)
      (λ says. ((λ low. (here (IsLed code owner place) says.0, λ also. says.1)), beside Led (λ e. omega (arith, e)))) (λ h. ((h.0 within).0 i reached at, (h.0 within).1 reached))
    where
      both : (o : Owner) → Judges (led_by code o place i ends) (IsLed code o place i × HasEndFor code o place)
      both (Agent number) = judge_and _ _ (leads_by (agent_code_at code number).points place i) ends (leads_tells code number place i) j
      both (Function number) = (tt {0}, tt {0})

  pub place_first : (on : Steps) (steps : shifts_of on ≡ shifts code place i) (needs : List (Option Need)) (t : Top) (alone ends : Bool) → AreKnown code needs owner → IsTop (IsHeight code owner place) t
      → Judges alone (IsTaken code Done place → ⊥) → Judges ends (HasEnd code.instrs place)
      → IsFirst (KeepsFor unit code Done owner place)
      (first_of (stays_by (onward_of i place) (length code.instrs)) alone (level_by code needs owner i on t)
      (framed_by (cells_of code owner) (counters_of code owner) i && used_by code needs owner i) (named_by unit code owner i) (ordered_by owner i) (led_by code owner place i ends))
  place_first on steps needs t alone ends known is j k =
      first_tells (KeepsFor unit code Done owner place) (stays_by (onward_of i place) (length code.instrs)) alone (level_by code needs owner i on t)
      (framed_by (cells_of code owner) (counters_of code owner) i && used_by code needs owner i) (named_by unit code owner i) (ordered_by owner i) (led_by code owner place i ends)
      inside_tells (alone_tells alone j) (level_kept on steps needs t known is) (framed_kept on steps needs known) named_kept ordered_kept (led_kept ends k)

pub first_same : (a b c d e f g h i k l m n : Bool) → a ≡ h → c ≡ i → d ≡ k → e ≡ l → f ≡ m → g ≡ n → first_of a b c d e f g ≡ first_of h b i k l m n
first_same a b c d e f g h i k l m n p q r s t u =
    ap (λ x. first_of x b c d e f g) p ∙ ap (λ x. first_of h b x d e f g) q ∙ ap (λ x. first_of h b i x e f g) r ∙ ap (λ x. first_of h b i k x f g) s
    ∙ ap (λ x. first_of h b i k l x g) t ∙ ap (λ x. first_of h b i k l m x) u

-- ---- faults of places

-- What is said of these places alone
abbrev pub Among : List ℕ → (ℕ → Rule → Type 0) → ℕ → Rule → Type 0
Among places Says place rule = Contains places place → Says place rule

abbrev pub Only : ℕ → (ℕ → Rule → Type 0) → ℕ → Rule → Type 0
Only here Says place rule = place ≡ here → Says place rule

pub fault_there : (Says : ℕ → Rule → Type 0) (place : ℕ) (number : Option ℕ) → IsFirst (Says place) number → IsLeast (Only place Says) (fault_of place number)
fault_there Says place None all = λ p rule same. subst (λ q. Says q rule) (sym same) (all rule)
fault_there Says place (Some number) is =
    least_same (At place (Says place)) (Only place Says) (Some (record { number = number; place = place }))
    (λ p rule at same. subst (λ q. Says q rule) (sym same) (at same)) (λ p rule only same. subst (λ q. Says q rule) same (only same))
    (least_at (Says place) (record { number = number; place = place }) is)

pub among_none : (Says : ℕ → Rule → Type 0) → IsLeast (Among [] Says) None
among_none Says place rule (k, less, same) = absurd (omega (arith, less))

pub among_more : (Says : ℕ → Rule → Type 0) (places : List ℕ) (place : ℕ) (least fault : Option Fault) → IsLeast (Among places Says) least → IsLeast (Only place Says) fault
    → IsLeast (Among (places ++ place ∷ []) Says) (lesser least fault)
among_more Says places place least fault a b =
    least_same (Both (Among places Says) (Only place Says)) (Among (places ++ place ∷ []) Says) (lesser least fault)
    (λ p rule both has. elim (Contains-push_cases places place p has) [ inl before ↦ both.0 before | inr same ↦ both.1 (sym same) ])
    (λ p rule all. ((λ has. all (Contains-append_left places (place ∷ []) p has)), (λ same. all (subst (Contains (places ++ place ∷ [])) (sym same) (Contains-push places place)))))
    (least_lesser (Among places Says) (Only place Says) least fault a b)

-- The same for the front of a list
pub front_more : (Says : ℕ → Rule → Type 0) (places : List ℕ) (k : ℕ) (least fault : Option Fault) → k < length places → IsLeast (Among (take k places) Says) least → IsLeast (Only (get_or places k 0) Says) fault
    → IsLeast (Among (take (k + 1) places) Says) (lesser least fault)
front_more Says places k least fault less a b =
    subst (λ xs. IsLeast (Among xs Says) (lesser least fault)) (sym (take_more places k 0 less)) (among_more Says (take k places) (get_or places k 0) least fault a b)

pub front_all : (Says : ℕ → Rule → Type 0) (places : List ℕ) (k : ℕ) (least : Option Fault) → length places ≤ k → IsLeast (Among (take k places) Says) least → IsLeast (Among places Says) least
front_all Says places k least all a = subst (λ xs. IsLeast (Among xs Says) least) (take_all k places all) a

-- ---- an owner

-- A place where an owner begins is in the code.
abbrev pub StartsIn : ℕ → ℕ → Rule → Type 0
StartsIn count place rule = rule ≡ Inside → place < count

pub start_outside : (start count : ℕ) → count ≤ start → IsLeastOf (Only start (StartsIn count)) (record { number = 1; place = start })
start_outside start count past = record {
  present = (Inside, refl, λ (h : Only start (StartsIn count) start Inside). (let less = h refl refl in omega (arith, less, past)));
  least = λ before rule comes same inside. absurd (by before rule comes same inside);
}
  where
    by : (before : ℕ) (rule : Rule) → ComesBefore before (number_of rule) start 1 → before ≡ start → rule ≡ Inside → ⊥
    by before rule (inl under) same inside = omega (arith, under, same)
    by before rule (inr (_, under)) same inside = (let one = ap number_of inside in omega (arith, under, one))

module _ (unit : Whole) (code : Code) (owner : Owner) (starts places : List ℕ) (begins : AreStarts code owner starts) (are : AreReached code owner places) where
  abbrev instr_count : ℕ
  instr_count = length code.instrs

  abbrev Earlier : Owner → Type 0
  Earlier = IsEarlier code owner

  abbrev Said : ℕ → Rule → Type 0
  Said = Both (Among starts (StartsIn instr_count)) (Among places (KeepsFor unit code Earlier owner))

  met : (place : ℕ) → place < instr_count → IsReached code owner place → Contains places place
  met place within reached = (are place).1 (within, reached)

  -- What holds at a place that is reached holds where it is.
  if_reached : (place : ℕ) (rule : Rule) → Said place rule → place < instr_count → IsReached code owner place → RuleFor unit code owner place rule
  if_reached place rule said within reached = (said.1 (met place within reached)).0

  if_high : (place height : ℕ) → Said place Balanced → place < instr_count → IsHeight code owner place height → IsBalanced code owner place × FitsStackOf code owner place
  if_high place height said within reached = if_reached place Balanced said within (reached_at code owner place height reached) within

  stack_of : (place : ℕ) → ((height : ℕ) → IsHeight code owner place height → FitsStackOf code owner place) → FitsStackOf code owner place
  stack_of place each = by owner each
    where
      by : (o : Owner) → ((height : ℕ) → IsHeight code o place height → FitsStackOf code o place) → FitsStackOf code o place
      by (Agent number) each = record {
        own = λ height reached. (each height reached).own height reached;
        call = λ function left more calls. (each _ calls.0).call function left more calls;
      }
      by (Function number) each = tt {0}

  frames_of : (place : ℕ) → (IsReached code owner place → FitsFramesOf code owner place) → FitsFramesOf code owner place
  frames_of place each = by owner each
    where
      by : (o : Owner) → (IsReached code o place → FitsFramesOf code o place) → FitsFramesOf code o place
      by (Agent number) each = λ function more reached. each reached function more reached
      by (Function number) each = tt {0}

  rule_kept : (place : ℕ) (rule : Rule) → Said place rule → RuleFor unit code owner place rule
  rule_kept place Inside said = record {
    start = λ starts_there. said.0 ((begins place).1 starts_there) refl;
    next = λ i next reached at goes. (if_reached place Inside said (slice_get_within code.instrs place i at) reached).next i next reached at goes;
  }
  rule_kept place Apart said = tt {0}
  rule_kept place Balanced said = λ within. (
    record {
      same = λ height other reached also. (if_high place height said within reached).0.same height other reached also;
      there = λ height i reached at. (if_high place height said within reached).0.there height i reached at;
    },
    stack_of place (λ height reached. (if_high place height said within reached).1),
  )
  rule_kept place Framed said = λ within. (
    (λ i reached at. (if_reached place Framed said within reached within).0 i reached at),
    frames_of place (λ reached. (if_reached place Framed said within reached within).1),
  )
  rule_kept place Named said = λ within i reached at. if_reached place Named said within reached within i reached at
  rule_kept place Ordered said = λ within i reached at. if_reached place Ordered said within reached within i reached at
  rule_kept place Led said = λ within. (
    (λ i reached at. (if_reached place Led said within reached within).0 i reached at),
    (λ reached. (if_reached place Led said within reached within).1 reached),
  )

  all_kept : (place : ℕ) (rule : Rule) → Said place rule → KeepsFor unit code Earlier owner place rule
  all_kept place rule said = (rule_kept place rule said, λ apart within reached. (said.1 (met place within reached)).1 apart within reached)

  said_of : (place : ℕ) (rule : Rule) → KeepsFor unit code Earlier owner place rule → Said place rule
  said_of place rule kept =
      ((λ has inside. by rule inside kept.0 ((begins place).0 has)), (λ has. kept))
    where
      by : (r : Rule) → r ≡ Inside → RuleFor unit code owner place r → Begins code owner place → place < instr_count
      by r e of_rule begun = (subst (RuleFor unit code owner place) e of_rule).start begun

  pub owner_least : (begun passed : Option Fault) → IsLeast (Among starts (StartsIn instr_count)) begun → IsLeast (Among places (KeepsFor unit code Earlier owner)) passed
      → IsLeast (KeepsFor unit code Earlier owner) (lesser begun passed)
  owner_least begun passed a b =
      least_same Said (KeepsFor unit code Earlier owner) (lesser begun passed) all_kept said_of (least_lesser (Among starts (StartsIn instr_count)) (Among places (KeepsFor unit code Earlier owner)) begun passed a b)

-- ---- owners

module _ (unit : Whole) (code : Code) where
  -- One owner more, which isn't one of those before
  module _ (Done After : Owner → Type 0) (owner : Owner) (on : (o : Owner) → After o → Done o ⊎ (o ≡ owner)) (old : (o : Owner) → Done o → After o) (new : After owner) (other : Done owner → ⊥) where
    kept_on : (place : ℕ) (rule : Rule) → Both (KeptBy unit code Done) (KeepsFor unit code Done owner) place rule → KeptBy unit code After place rule
    kept_on place rule (before, here) = (
      (λ o after. elim (on o after) [ inl done ↦ before.0 o done | inr same ↦ subst (λ p. RuleFor unit code p place rule) (sym same) here.0 ]),
      (λ apart within a b after_a after_b reached_a reached_b. elim (on a after_a) [
        | inl done_a ↦ elim (on b after_b) [
          | inl done_b ↦ before.1 apart within a b done_a done_b reached_a reached_b
          | inr same_b ↦ absurd (here.1 apart within (subst (λ p. IsReached code p place) same_b reached_b) a done_a reached_a)
        ]
        | inr same_a ↦ elim (on b after_b) [
          | inl done_b ↦ absurd (here.1 apart within (subst (λ p. IsReached code p place) same_a reached_a) b done_b reached_b)
          | inr same_b ↦ same_a ∙ sym same_b
        ]
      ]),
    )

    kept_back : (place : ℕ) (rule : Rule) → KeptBy unit code After place rule → Both (KeptBy unit code Done) (KeepsFor unit code Done owner) place rule
    kept_back place rule (each, apart) = (
      ((λ o done. each o (old o done)), (λ e within a b done_a done_b. apart e within a b (old a done_a) (old b done_b))),
      (each owner new, (λ e within reached o done reached_o. other (subst Done (apart e within o owner (old o done) new reached_o reached) done))),
    )

    kept_more : (least fault : Option Fault) → IsLeast (KeptBy unit code Done) least → IsLeast (KeepsFor unit code Done owner) fault → IsLeast (KeptBy unit code After) (lesser least fault)
    kept_more least fault a b =
        least_same (Both (KeptBy unit code Done) (KeepsFor unit code Done owner)) (KeptBy unit code After) (lesser least fault) kept_on kept_back
        (least_lesser (KeptBy unit code Done) (KeepsFor unit code Done owner) least fault a b)

  one_less : (n m : ℕ) → m < n + 1 → (m < n) ⊎ (m ≡ n)
  one_less n m less = elim (cases_lt m n) [ inl under ↦ inl under | inr past ↦ inr (omega (arith, past, less)) ]

  pub function_more : (number : ℕ) (least fault : Option Fault) → IsLeast (KeptBy unit code (IsDone number 0)) least → IsLeast (KeepsFor unit code (IsDone number 0) (Function number)) fault
      → IsLeast (KeptBy unit code (IsDone (number + 1) 0)) (lesser least fault)
  function_more number = kept_more (IsDone number 0) (IsDone (number + 1) 0) (Function number) on old (omega arith) (λ done. omega (arith, done))
    where
      on : (o : Owner) → IsDone (number + 1) 0 o → IsDone number 0 o ⊎ (o ≡ Function number)
      on (Agent n) after = absurd (omega (arith, after))
      on (Function n) after = elim (one_less number n after) [ inl under ↦ inl under | inr same ↦ inr (ap Function same) ]

      old : (o : Owner) → IsDone number 0 o → IsDone (number + 1) 0 o
      old (Agent n) done = done
      old (Function n) done = omega (arith, done)

  pub agent_more : (functions number : ℕ) (least fault : Option Fault) → IsLeast (KeptBy unit code (IsDone functions number)) least → IsLeast (KeepsFor unit code (IsDone functions number) (Agent number)) fault
      → IsLeast (KeptBy unit code (IsDone functions (number + 1))) (lesser least fault)
  agent_more functions number = kept_more (IsDone functions number) (IsDone functions (number + 1)) (Agent number) on old (omega arith) (λ done. omega (arith, done))
    where
      on : (o : Owner) → IsDone functions (number + 1) o → IsDone functions number o ⊎ (o ≡ Agent number)
      on (Agent n) after = elim (one_less number n after) [ inl under ↦ inl under | inr same ↦ inr (ap Agent same) ]
      on (Function n) after = inl after

      old : (o : Owner) → IsDone functions number o → IsDone functions (number + 1) o
      old (Agent n) done = omega (arith, done)
      old (Function n) done = done

  pub kept_none : IsLeast (KeptBy unit code (IsDone 0 0)) None
  kept_none place rule = ((λ owner done. absurd (nobody owner done)), (λ e within a b done_a. absurd (nobody a done_a)))
    where
      nobody : (o : Owner) → IsDone 0 0 o → ⊥
      nobody (Agent n) done = omega (arith, done)
      nobody (Function n) done = omega (arith, done)
