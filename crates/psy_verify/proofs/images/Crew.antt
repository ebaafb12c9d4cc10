-- What an image says of its agents and of their code.
use Rattle.std.proofs.Common.{◌≡◌, ◌∙◌, ℕ, suc, ◌+◌, ◌<◌, ◌≤◌, Bool, true, false, cond, ltb, List, [], ◌∷◌, ◌++◌, map, length, append-nil, get_or, Some, refl, sym, ap, subst, arith}
use Rattle.std.specs.Prelude.{slice_get}
use Rattle.std.specs.List.{All}
use Rattle.std.proofs.lemmas.Bool.{ltb-true}
use Rattle.std.proofs.lemmas.List.{get_or_append_left, get_or_push, length_push}
use Rattle.std.proofs.lemmas.List.Elements.{All-nil, All-push}
use Rattle.std.proofs.lemmas.Option.{slice_get_within}
use Rattle.psy_lists.proofs.lemmas.Places.{each_pushed}
use Rattle.psy_base.specs.declared.limits.TheConstants.{AGENTS, BUDGET, POINTS, PROCESSORS}
use Rattle.psy_code.specs.declared.code.AgentCode.{AgentCode}
use Rattle.psy_image.specs.declared.agents.AgentLists.{AgentLists}
use Rattle.psy_image.specs.declared.limits.TheConstants.{AGENT_CELLS}
use Rattle.psy_image.specs.declared.seen.Claim.{Claim}
use Rattle.psy_image.specs.declared.seen.Seen.{Seen}
use Rattle.psy_image.specs.Formats.{times, Refuse}
use Rattle.psy_image.specs.Images.{agent, agents, copies, declaration, judged, machine, owned_from, points, values_up_to}
use Rattle.psy_image.specs.Names.{is_name}
use Rattle.psy_tree.specs.declared.unit.AgentDecl.{AgentDecl}
use Rattle.psy_tree.specs.declared.unit.Point.{Point}
use Rattle.psy_tree.specs.declared.unit.VarDecl.{VarDecl}
use Rattle.psy_meaning.specs.Units.{HasHead, IsName, Within}
use Rattle.psy_verify.proofs.images.Declared.{AreBelow, below_is, follow_push, says_values}
use Rattle.psy_verify.proofs.images.Names.{AreNames, names_push}
use Rattle.psy_verify.proofs.images.Placed.{AreCopies, ArePoints, IsPointOf, says_copies, says_points}
use Rattle.psy_verify.proofs.images.Said.{Says, says_then, says_times, weaker}

-- ---- what is said of each

pub record IsAgentOf (clocks : ℕ) (a : AgentDecl) : Type 0 where
  pub name : IsName a.name
  pub clock : a.clock < clocks
  pub processor : a.processor < PROCESSORS
  pub budget : Within 1 BUDGET a.budget
  pub slots : a.slots ≡ []
  pub points : HasHead a a.points (IsPointOf clocks)
  pub limit : length a.points ≤ POINTS

-- The code of the agent of a number: a place for each point, and copies of its variables
pub record IsCodeOf (variables : List VarDecl) (number : ℕ) (a : AgentDecl) (its : AgentCode) : Type 0 where
  pub points : length its.points ≡ length a.points
  pub copies : AreCopies (owned_from number 0 variables) its.copies

abbrev pub no_code : AgentCode
no_code = record { points = []; cells = []; counters = 0; copies = []; stack = 0; frames = 0 }

-- Agents with their code, behind names that were seen before
pub record AreAgents (clocks : ℕ) (variables : List VarDecl) (first : List (List ℕ)) (s : AgentLists) : Type 0 where
  pub names : AreNames s.names
  pub follow : s.names ≡ first ++ map (λ (a : AgentDecl). a.name) s.agents
  pub each : All (IsAgentOf clocks) s.agents
  pub as_many : length s.codes ≡ length s.agents
  pub codes : (number : ℕ) (a : AgentDecl) → slice_get s.agents number ≡ Some a → IsCodeOf variables number a (get_or s.codes number no_code)

-- All agents behind what was seen, one for each claim
abbrev pub AreCrew : ℕ → List VarDecl → Seen → AgentLists → Type 0
AreCrew clocks variables seen s = AreAgents clocks variables seen.names s × (length s.agents ≤ AGENTS) × AreBelow (length s.agents) seen.claims

-- ---- claims

judged_by : (count : ℕ) (claim : Claim) (claims : List Claim) → Says (λ g. AreBelow count claims) (judged count claims) → (b : Bool) → ltb claim.agent count ≡ b
    → Says (λ g. AreBelow count (claim ∷ claims)) (cond b (judged count claims) (Refuse claim.left))
judged_by count claim claims rest true e =
    weaker (λ g. AreBelow count claims) (λ g. AreBelow count (claim ∷ claims)) (judged count claims) rest (λ g h. (ltb-true claim.agent count e, h))
judged_by count claim claims rest false e = tt

says_judged : (count : ℕ) (claims : List Claim) → Says (λ g. AreBelow count claims) (judged count claims)
unfolding judged
says_judged count [] = tt
says_judged count (claim ∷ claims) = judged_by count claim claims (says_judged count claims) (ltb claim.agent count) refl

-- ---- an agent

-- Of point 0 and those behind it
headed : (count : ℕ) (a : AgentDecl) (ps : List Point) → (others : List Point) → ps ≡ record { count = 0; clock = a.clock; budget = a.budget } ∷ others → All (IsPointOf count) others
    → HasHead a ps (IsPointOf count)
headed count a ps others are each = subst (λ (qs : List Point). HasHead a qs (IsPointOf count)) (sym are) (refl, each)

-- A declaration with the places of its points
record IsDeclared (count : ℕ) (names : List (List ℕ)) (its : AgentDecl × List ℕ) : Type 0 where
  pub agent : IsAgentOf count its.0
  pub names_with : AreNames (names ++ its.0.name ∷ [])
  pub places : length its.1 ≡ length its.0.points

-- A machine with these places and copies
record IsMachine (owned places : List ℕ) (code : AgentCode) : Type 0 where
  pub points : code.points ≡ places
  pub copies : AreCopies owned code.copies

says_machine : (owned places : List ℕ) → Says (IsMachine owned places) (machine owned places)
unfolding machine
says_machine owned places = says_then (λ values. length values ≤ AGENT_CELLS) (IsMachine owned places) (values_up_to AGENT_CELLS) _ (says_values AGENT_CELLS) (λ cells short counters few.
    says_then (AreCopies owned) (IsMachine owned places) (copies owned) _ (says_copies owned) (λ its h stack fits frames range. record { points = refl; copies = h }))

module _ (named : (text : List ℕ) → is_name text ≡ true → IsName text) where
  says_declaration : (count : ℕ) (names : List (List ℕ)) → AreNames names → Says (IsDeclared count names) (declaration count names)
  unfolding declaration
  says_declaration count names h = λ name good clock there budget lawful processor known.
      says_then (λ s. ArePoints count clock budget s × (length s.0 ≤ POINTS)) (IsDeclared count names) (points count clock budget) _ (says_points count clock budget) (λ s g.
      let it : AgentDecl = record { name = name; clock = clock; processor = processor; budget = budget; slots = []; points = s.0; stmts = [] } in
      record {
        agent = record {
          name = named name good.0;
          clock = below_is count clock there;
          processor = omega (arith, known.1);
          budget = (lawful.0, lawful.1);
          slots = refl;
          points = headed count it s.0 g.0.others g.0.are g.0.each;
          limit = g.1;
        };
        names_with = names_push names name h (named name good.0) good.1;
        places = g.0.as_many;
      })

  says_agent : (count : ℕ) (variables : List VarDecl) (first : List (List ℕ)) (s : AgentLists) → AreAgents count variables first s
      → Says (λ t. AreAgents count variables first t × (length t.agents ≡ length s.agents + 1)) (agent count variables s)
  unfolding agent
  says_agent count variables first s h = says_then (IsDeclared count s.names) (λ t. AreAgents count variables first t × (length t.agents ≡ length s.agents + 1)) (declaration count s.names) _
      (says_declaration count s.names h.names) (λ its is.
      says_then (IsMachine (owned_from (length s.agents) 0 variables) its.1) (λ t. AreAgents count variables first t × (length t.agents ≡ length s.agents + 1))
      (machine (owned_from (length s.agents) 0 variables) its.1) _
      (says_machine (owned_from (length s.agents) 0 variables) its.1) (λ code made. (
        record {
          names = is.names_with;
          follow = follow_push (λ (a : AgentDecl). a.name) first s.names s.agents its.0 h.follow;
          each = All-push (IsAgentOf count) s.agents its.0 h.each is.agent;
          as_many = omega (arith, length_push s.agents its.0, length_push s.codes code, h.as_many);
          codes = each_pushed (λ number a. IsCodeOf variables number a (get_or (s.codes ++ code ∷ []) number no_code)) s.agents its.0 (old code) (last its.0 its.1 code is.places made);
        },
        length_push s.agents its.0,
      )))
    where
      old : (code : AgentCode) (number : ℕ) (a : AgentDecl) → slice_get s.agents number ≡ Some a → IsCodeOf variables number a (get_or (s.codes ++ code ∷ []) number no_code)
      old code number a at =
          let within : number < length s.codes = omega (arith, slice_get_within s.agents number a at, h.as_many) in
          subst (IsCodeOf variables number a) (sym (get_or_append_left s.codes (code ∷ []) no_code number within)) (h.codes number a at)

      last : (a : AgentDecl) (places : List ℕ) (code : AgentCode) → length places ≡ length a.points → IsMachine (owned_from (length s.agents) 0 variables) places code
          → IsCodeOf variables (length s.agents) a (get_or (s.codes ++ code ∷ []) (length s.agents) no_code)
      last a places code many made =
          subst (IsCodeOf variables (length s.agents) a) (sym (get_or_push s.codes code no_code (length s.agents) h.as_many))
          (record { points = ap length made.points ∙ many; copies = made.copies })

  pub says_agents : (count : ℕ) (variables : List VarDecl) (seen : Seen) → AreNames seen.names → Says (AreCrew count variables seen) (agents count variables seen)
  unfolding agents
  says_agents count variables seen h = λ many fits. says_then (λ g. AreBelow many seen.claims) (AreCrew count variables seen) (judged many seen.claims) _ (says_judged many seen.claims) (λ good below.
      weaker (λ s. AreAgents count variables seen.names s × (length s.agents ≡ many + 0)) (AreCrew count variables seen) (times many (agent count variables) (record { names = seen.names; agents = []; codes = [] }))
      (says_times (λ n s. AreAgents count variables seen.names s × (length s.agents ≡ n)) (agent count variables) many 0 (record { names = seen.names; agents = []; codes = [] }) (
        record {
          names = h;
          follow = sym (append-nil seen.names);
          each = All-nil (IsAgentOf count);
          as_many = refl;
          codes = λ number a at. absurd (cc);
        },
        refl,
      ) one)
      (λ s g.
      let same : length s.agents ≡ many = omega (arith, g.1) in
      (g.0, omega (arith, same, fits.1), subst (λ n. AreBelow n seen.claims) (sym same) below)))
    where
      one : (j : ℕ) (t : AgentLists) → AreAgents count variables seen.names t × (length t.agents ≡ j)
          → Says (λ u. AreAgents count variables seen.names u × (length u.agents ≡ suc j)) (agent count variables t)
      one j t g = weaker (λ u. AreAgents count variables seen.names u × (length u.agents ≡ length t.agents + 1)) (λ u. AreAgents count variables seen.names u × (length u.agents ≡ suc j))
          (agent count variables t) (says_agent count variables seen.names t g.0) (λ u k. (k.0, omega (arith, k.1, g.1)))
