-- A run with one unit more, and what is kept of it.
use Rattle.std.proofs.Common.{◌≡◌, ◌≢◌, ◌∙◌, refl, sym, ap, subst, ℕ, suc, ◌+◌, ◌-◌, ◌*◌, ◌<◌, ◌≤◌, ◌==◌, List, [], ◌∷◌, ◌++◌, Option, Some, None, filter, map, length, get_or, reverse, inl, inr, append-nil, append_assoc, arith}
use Rattle.std.specs.Prelude.{if◌then◌else◌, slice_set}
use Rattle.std.specs.List.{All, Contains, flat_map}
use Rattle.std.proofs.lemmas.Bool.{cases_eq, eq-eqb, ne_eqb}
use Rattle.std.proofs.lemmas.List.{get_or-set_same, map-append}
use Rattle.std.proofs.lemmas.List.Elements.{All-append, All-cons, All-nil, All-weaker, filter-append}
use Rattle.psy_lists.proofs.lemmas.Members.{contains_front}
use Rattle.psy_audit.specs.declared.said.Act.{Act}
use Rattle.psy_audit.specs.declared.said.Look.{Look}
use Rattle.psy_audit.specs.declared.said.Said.{Said}
use Rattle.psy_audit.specs.declared.said.Said.TheVariants.{Looked}
use Rattle.psy_audit.specs.Traced.{looks_of}
use Rattle.psy_collect.specs.Collected.{IsCollected, IsRunning, act_so_far, doing_of, turns_at_end, turns_on}
use Rattle.psy_collect.specs.Keeping.{given_by, look_of, looked, looked_by, one_more, served_more, turned, turned_by}
use Rattle.psy_collect.specs.declared.kept.Kept.{Kept}
use Rattle.psy_collect.proofs.Acts.{doing_other, kept_of, served_act, unserved}
use Rattle.psy_collect.proofs.Laws.{Earlier}
use Rattle.psy_collect.proofs.Longer.{flat_reverse}
use Rattle.psy_collect.proofs.OwnLooks.{seen_looks}
use Rattle.psy_collect.proofs.Rows.{row_other, row_own}
use Rattle.psy_collect.proofs.Runs.{Lawful, lawful, supplied}
use Rattle.psy_collect.proofs.Steps.{behind_last, in_date, some_dates}
use Rattle.psy_collect.proofs.Stretches.{idle, served as served_stretch}
use Rattle.psy_collect.proofs.Turns.{IsGiven, agent_of, as_many, given_one}
use Rattle.psy_collect.proofs.UnitLooks.{looks_others, none_of_before, none_of_others}
use Rattle.psy_dates.proofs.lemmas.Fits.{GoWell}
use Rattle.psy_dates.specs.Plans.{IsPlan}
use Rattle.psy_history.specs.Actions.{Action, History, System}
use Rattle.psy_history.specs.Compiled.{AreInputs}
use Rattle.psy_history.specs.History.{history}
use Rattle.psy_history.specs.Processors.{processor_at, processors, served}
use Rattle.psy_history.specs.Regular.{WereStarted}
use Rattle.psy_history.specs.Schedule.{Turn, pending, soonest, turn_of}
use Rattle.psy_history.specs.Scheduled.{turns_of}
use Rattle.psy_history.specs.Scripts.{IsScript}
use Rattle.psy_kernel.specs.declared.seen.Seen.{Seen}
use Rattle.psy_kernel.specs.Progress.{Progress, UnitOf, cycles_on, next_processor, order, system, turns_so_far}
use Rattle.psy_kernel.specs.Units.{IsLookAt, IsLookBy, action_at, agent_of as agent_in, served_at}

-- The last action of an agent has as many cycles as before where a cycle goes to nobody.
pub doing_idle : (turns : List (Option Turn)) (actions : List Action) → doing_of (None ∷ turns) actions ≡ doing_of turns actions
doing_idle turns [] = refl
doing_idle turns (r ∷ before) = refl

module _ (p : Progress) (k : Kept) (running : IsRunning p k) (fits : IsPlan p.plan) (inputs : AreInputs p.plan.unit p.inputs) (script : IsScript p.plan.unit p.script) (well : GoWell) (law : Lawful) (earlier : Earlier)
    (inside : p.cycles < p.dates * p.plan.unit.quantum) (known : next_processor p < processors p.plan.unit) (own : cycles_on p (next_processor p) ≡ p.cycles) where
  abbrev s : System
  s = system p

  abbrev processor : ℕ
  processor = next_processor p

  abbrev cycle : ℕ
  cycle = p.cycles

  abbrev h : History
  h = history s p.dates

  abbrev its : List (Option Turn)
  its = turns_of s (order p) cycle processor

  its_is : turns_on p processor ≡ its
  its_is = ap (λ c. turns_of s (order p) c processor) own

  date_is : p.dates - 1 + 1 ≡ p.dates
  date_is = (let some = some_dates p.dates cycle p.plan.unit.quantum inside in omega (arith, some))

  low : (p.dates - 1) * p.plan.unit.quantum ≤ cycle
  low = behind_last p.dates cycle p.plan.unit.quantum inside running.low

  -- The action that gets the cycle is the last of its agent.
  pub given_is : (r : Action) → action_at s (order p) processor cycle ≡ Some r → IsGiven s (order p) p.plan.until (supplied p running.whole fits inputs script well law) earlier p.dates cycle processor r
  given_is r at =
      subst (λ d. IsGiven s (order p) p.plan.until (supplied p running.whole fits inputs script well law) earlier d cycle processor r) date_is
      (given_one s (order p) p.plan.until (supplied p running.whole fits inputs script well law) earlier (p.dates - 1) cycle processor (omega (arith, running.early)) low r
      (ap (λ d. soonest (pending (served s.unit processor (order p cycle)) its (history s d))) (date_is ∙ sym (in_date p.dates cycle p.plan.unit.quantum inside running.low)) ∙ at))

  -- ---- with these cycles and units

  module _ (cycles units_done : ℕ) (last : Option UnitOf) where
    abbrev q : Progress
    q = record p { cycles = cycles; units = units_done; last = last }

    module _ (on : (n : ℕ) → n < processors p.plan.unit → cycles_on q n ≡ (if n == processor then cycle + 1 else cycles_on p n)) where
      other_on : (n : ℕ) → n < processors p.plan.unit → n ≢ processor → turns_on q n ≡ turns_on p n
      other_on n less other = ap (λ c. turns_of s (order p) c n) (on n less ∙ ap (λ b. if b then cycle + 1 else cycles_on p n) (ne_eqb n processor other))

      own_on : (o : Option Action) → action_at s (order p) processor cycle ≡ o → turns_on q processor ≡ turn_of o ∷ turns_on p processor
      own_on o at =
          ap (λ c. turns_of s (order p) c processor) (on processor known ∙ ap (λ b. if b then cycle + 1 else cycles_on p processor) (eq-eqb processor processor refl) ∙ (let e : cycle + 1 ≡ suc cycle = omega arith in e))
          ∙ ap (λ x. turn_of x ∷ its) at ∙ ap (λ ts. turn_of o ∷ ts) (sym its_is)

      -- What agents of a processor have
      own_far : (o : Option Action) → action_at s (order p) processor cycle ≡ o → (agent : ℕ) → processor_at p.plan.unit agent ≡ processor → turns_so_far q agent ≡ turn_of o ∷ turns_so_far p agent
      own_far o at agent home = subst (λ n. turns_on q n ≡ turn_of o ∷ turns_on p n) (sym home) (own_on o at)

      other_far : ((agent : ℕ) → processor_at p.plan.unit agent < processors p.plan.unit) → (agent : ℕ) → processor_at p.plan.unit agent ≢ processor → turns_so_far q agent ≡ turns_so_far p agent
      other_far homes agent other = other_on (processor_at p.plan.unit agent) (homes agent) other

      module _ (homes : (agent : ℕ) → processor_at p.plan.unit agent < processors p.plan.unit) where
        -- ---- a cycle that goes to nobody

        idle_kept : action_at s (order p) processor cycle ≡ None → IsCollected q k
        idle_kept at = record {
          acts = unserved (length p.plan.unit.agents) (turns_at_end p) (turns_so_far p) (turns_so_far q) h k.acts k.doing running.collected.acts (λ agent less. elim (cases_eq (processor_at p.plan.unit agent) processor) [
            | inl home ↦ ap (λ ts. doing_of ts (h agent)) (own_far None at agent home) ∙ doing_idle (turns_so_far p agent) (h agent)
            | inr other ↦ ap (λ ts. doing_of ts (h agent)) (other_far homes agent other)
          ]);
          publications = running.collected.publications;
          stretches = idle (processors p.plan.unit) (turns_on p) (turns_on q) k.segments k.serving running.collected.stretches processor known other_on (own_on None at);
          looks = record {
            each = λ agent less. running.collected.looks.each agent less ∙ elim (cases_eq (processor_at p.plan.unit agent) processor) [
              | inl home ↦ sym (ap (λ ts. flat_map (looks_of s p.plan.sizes ts) (reverse (h agent))) (own_far None at agent home))
              | inr other ↦ sym (ap (λ ts. flat_map (looks_of s p.plan.sizes ts) (reverse (h agent))) (other_far homes agent other))
            ];
            known = running.collected.looks.known;
          };
        }

        -- ---- a cycle that goes to an action

        module _ (r : Action) (at : action_at s (order p) processor cycle ≡ Some r) (seen : Option Seen)
            (more : looks_of s p.plan.sizes (turn_of (Some r) ∷ its) r ≡ looks_of s p.plan.sizes its r ++ map Looked (seen_looks r.number cycle r.agent seen)) where
          abbrev gets : IsGiven s (order p) p.plan.until (supplied p running.whole fits inputs script well law) earlier p.dates cycle processor r
          gets = given_is r at

          abbrev turn : Turn
          turn = record { agent = r.agent; number = r.number }

          mine : turns_so_far p r.agent ≡ its
          mine = ap (turns_on p) gets.home ∙ its_is

          others_doing : (agent : ℕ) → agent < length p.plan.unit.agents → agent ≢ r.agent → doing_of (turns_so_far q agent) (h agent) ≡ doing_of (turns_so_far p agent) (h agent)
          others_doing agent less other = elim (cases_eq (processor_at p.plan.unit agent) processor) [
            | inl home ↦
                ap (λ ts. doing_of ts (h agent)) (own_far (Some r) at agent home)
                ∙ doing_other turn (turns_so_far p agent) agent (h agent)
                (λ x before is e. other (sym (agent_of s (lawful p running.whole fits inputs script well law) p.dates agent x (subst (λ rs. Contains rs x) (sym is) (contains_front x before))) ∙ sym e))
            | inr apart ↦ ap (λ ts. doing_of ts (h agent)) (other_far homes agent apart)
          ]

          abbrev act : Act
          act = act_so_far (turns_so_far p r.agent) r

          abbrev doing : List (Option Act)
          doing = slice_set k.doing r.agent (Some (one_more act))

          doing_at : get_or k.doing r.agent None ≡ Some act
          doing_at = kept_of (length p.plan.unit.agents) (turns_at_end p) (turns_so_far p) (turns_so_far q) h k.acts k.doing running.collected.acts r gets.before gets.actions gets.known

          doing_then : get_or doing r.agent None ≡ Some (one_more act)
          doing_then = get_or-set_same k.doing r.agent (Some (one_more act)) None (omega (arith, gets.known, running.collected.acts.count))

          abbrev new : List Look
          new = seen_looks r.number cycle r.agent seen

          new_own : All (λ (l : Look). l.agent ≡ r.agent) new
          new_own = by seen
            where
              by : (o : Option Seen) → All (λ (l : Look). l.agent ≡ r.agent) (seen_looks r.number cycle r.agent o)
              by None = All-nil (λ (l : Look). l.agent ≡ r.agent)
              by (Some x) = All-cons (λ (l : Look). l.agent ≡ r.agent) (look_of r.number cycle r.agent x) [] refl (All-nil (λ (l : Look). l.agent ≡ r.agent))

          row_new : (agent : ℕ) → map Looked (filter (λ (l : Look). l.agent == agent) (k.looks ++ new)) ≡ map Looked (filter (λ (l : Look). l.agent == agent) k.looks) ++ map Looked (filter (λ (l : Look). l.agent == agent) new)
          row_new agent = ap (map Looked) (filter-append (λ (l : Look). l.agent == agent) k.looks new) ∙ map-append Looked (filter (λ (l : Look). l.agent == agent) k.looks) (filter (λ (l : Look). l.agent == agent) new)

          abbrev told : List (Option Turn) → ℕ → List Said
          told ts agent = flat_map (looks_of s p.plan.sizes ts) (reverse (h agent))

          looks_own : told (turns_so_far q r.agent) r.agent ≡ told (turns_so_far p r.agent) r.agent ++ map Looked new
          looks_own =
              let were = subst (WereStarted s p.dates r.agent) gets.actions ((lawful p running.whole fits inputs script well law).actions p.dates r.agent).were_started in
              let f' = looks_of s p.plan.sizes (turn_of (Some r) ∷ its) in
              let f = looks_of s p.plan.sizes its in
              ap (λ ts. told ts r.agent) (own_far (Some r) at r.agent gets.home ∙ ap (λ ts. turn_of (Some r) ∷ ts) mine)
              ∙ ap (λ rs. flat_map f' (reverse rs)) gets.actions ∙ flat_reverse f' r gets.before
              ∙ ap (λ xs. xs ++ f' r) (looks_others s p.plan.sizes turn its gets.before (none_of_before s p.dates r.agent r gets.before were))
              ∙ ap (λ xs. flat_map f (reverse gets.before) ++ xs) more
              ∙ sym (append_assoc (flat_map f (reverse gets.before)) (f r) (map Looked new))
              ∙ ap (λ xs. xs ++ map Looked new) (sym (flat_reverse f r gets.before) ∙ ap (λ rs. flat_map f (reverse rs)) (sym gets.actions) ∙ ap (λ ts. told ts r.agent) (sym mine))

          looks_apart : (agent : ℕ) → agent ≢ r.agent → told (turns_so_far q agent) agent ≡ told (turns_so_far p agent) agent
          looks_apart agent other = elim (cases_eq (processor_at p.plan.unit agent) processor) [
            | inl home ↦
                ap (λ ts. told ts agent) (own_far (Some r) at agent home)
                ∙ looks_others s p.plan.sizes turn (turns_so_far p agent) (h agent) (none_of_others s p.dates agent turn (lawful p running.whole fits inputs script well law) other)
            | inr apart ↦ ap (λ ts. told ts agent) (other_far homes agent apart)
          ]

          looks_row : (agent : ℕ) → agent < length p.plan.unit.agents → map Looked (filter (λ (l : Look). l.agent == agent) (k.looks ++ new)) ≡ told (turns_so_far q agent) agent
          looks_row agent less = row_new agent ∙ elim (cases_eq agent r.agent) [
            | inl here ↦
                subst (λ a. map Looked (filter (λ (l : Look). l.agent == a) k.looks) ++ map Looked (filter (λ (l : Look). l.agent == a) new) ≡ told (turns_so_far q a) a) (sym here)
                (ap (λ xs. xs ++ map Looked (filter (λ (l : Look). l.agent == r.agent) new)) (running.collected.looks.each r.agent gets.known)
                ∙ ap (λ xs. told (turns_so_far p r.agent) r.agent ++ map Looked xs) (row_own (λ (l : Look). l.agent) r.agent new new_own) ∙ sym looks_own)
            | inr other ↦
                ap (λ xs. map Looked (filter (λ (l : Look). l.agent == agent) k.looks) ++ map Looked xs) (row_other (λ (l : Look). l.agent) r.agent agent new new_own other)
                ∙ append-nil (map Looked (filter (λ (l : Look). l.agent == agent) k.looks)) ∙ running.collected.looks.each agent less ∙ sym (looks_apart agent other)
          ]

          abbrev kept : Kept
          kept = record (served_more processor cycle r.agent r.number (record k { doing = doing })) { looks = k.looks ++ new }

          -- What is kept of it
          given_kept : IsCollected q kept
          given_kept = record {
            acts = served_act (length p.plan.unit.agents) (turns_at_end p) (turns_so_far p) (turns_so_far q) h k.acts k.doing running.collected.acts r gets.before gets.actions gets.known (own_far (Some r) at r.agent gets.home) others_doing;
            publications = running.collected.publications;
            stretches = served_stretch (processors p.plan.unit) (turns_on p) (turns_on q) k.segments k.serving running.collected.stretches processor known other_on cycle turn (own_on (Some r) at)
                (as_many s (order p) processor (cycles_on p processor) ∙ own);
            looks = record {
              each = looks_row;
              known = All-append (λ (l : Look). l.agent < length p.plan.unit.agents) k.looks new running.collected.looks.known
                  (All-weaker (λ (l : Look). l.agent ≡ r.agent) (λ (l : Look). l.agent < length p.plan.unit.agents) (λ l e. subst (λ n. n < length p.plan.unit.agents) (sym e) gets.known) new new_own);
            };
          }

          -- It is what the code keeps.
          kept_is : turned_by p.plan.unit cycle (Some r.agent) seen k ≡ kept
          kept_is =
              ap (λ n. turned n cycle r.agent seen k) gets.home
              ∙ ap (λ o. looked cycle r.agent seen (given_by processor cycle o k)) doing_at ∙ by seen
            where
              by : (o : Option Seen) → looked cycle r.agent o (given_by processor cycle (Some act) k) ≡ record (served_more processor cycle r.agent r.number (record k { doing = doing })) { looks = k.looks ++ seen_looks r.number cycle r.agent o }
              by None = ap (λ ls. record (served_more processor cycle r.agent r.number (record k { doing = doing })) { looks = ls }) (sym (append-nil k.looks))
              by (Some x) = ap (λ o. looked_by cycle r.agent o x (served_more processor cycle r.agent r.number (record k { doing = doing }))) doing_then

        -- ---- either

        pub unit_kept : (ran : Option ℕ) (seen : Option Seen) → ran ≡ served_at s (order p) processor cycle → IsLookAt s p.plan (order p) processor cycle seen
            → ((r : Action) → action_at s (order p) processor cycle ≡ Some r → IsLookBy s p.plan its (Some r) seen
            → looks_of s p.plan.sizes (turn_of (Some r) ∷ its) r ≡ looks_of s p.plan.sizes its r ++ map Looked (seen_looks r.number cycle r.agent seen))
            → IsCollected q (turned_by p.plan.unit cycle ran seen k)
        unit_kept ran seen ran_is look sights = by (action_at s (order p) processor cycle) refl
          where
            by : (o : Option Action) → action_at s (order p) processor cycle ≡ o → IsCollected q (turned_by p.plan.unit cycle ran seen k)
            by None at = subst (λ n. IsCollected q (turned_by p.plan.unit cycle n seen k)) (sym (ran_is ∙ ap (λ o. agent_in (turn_of o)) at)) (idle_kept at)
            by (Some r) at =
                let more = sights r at (subst (λ o. IsLookBy s p.plan its o seen) at look) in
                subst (λ n. IsCollected q (turned_by p.plan.unit cycle n seen k)) (sym (ran_is ∙ ap (λ o. agent_in (turn_of o)) at))
                (subst (IsCollected q) (sym (kept_is r at seen more)) (given_kept r at seen more))
