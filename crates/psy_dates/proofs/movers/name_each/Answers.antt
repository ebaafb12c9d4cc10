-- What is left of the proof of `movers::name_each`.
use Rattle.std.proofs.Common.{◌≡◌, [], ◌∷◌, ◌++◌, ◌+◌, sym, ap, subst, ◌∙◌, arith, length-append}
use Rattle.std.specs.Prelude.{length}
use Rattle.psy_dates.specs.Movers.{NamesAll}
use Rattle.psy_dates.specs.Rolls.{Rolled}
use Rattle.psy_dates.proofs.lemmas.Names.{names_more}
use Rattle.psy_dates.proofs.movers.name_each.Goals as goal

pub agents-preserved : goal.agents-preserved
agents-preserved c =
    let agent = c.agents.agent in
    let h = c.agents.invariant in
    let names : c.add.new.self.agents ≡ c.agents.moved.agents ++ agent ∷ [] = ap (λ (m : Rolled). m.agents) c.add.ensures in
    record {
      size = ap (λ (m : Rolled). m.size) c.add.ensures ∙ h.size;
      few = omega (arith, ap length names, length-append c.agents.moved.agents (agent ∷ []), h.few);
      names = λ test. subst (NamesAll test (agent + 1) 0) (sym names) (names_more test agent 0 c.agents.moved.agents (omega arith) (h.names test));
    }
