-- What is left of the proof of `scope::Scope::find`.
use Rattle.std.proofs.Common.{sym, ◌∙◌}
use Rattle.psy_rules.specs.Sites.{site_of}
use Rattle.psy_rules.proofs.Tables.{found_above, found_inner, found_beneath}
use Rattle.psy_rules.proofs.scope.Scope.find.Goals as goal

pub returns-then-is_up_to : goal.returns-then-is_up_to
returns-then-is_up_to c =
    found_above (site_of c.args.self.now) c.args.name.now c.first-global.result c.requires.within
    (c.first-global.ensures ∙ c.requires.globals c.args.name.now) (sym c.is_up_to.ensures ∙ c.if-is_up_to.true)

pub returns-in-Some : goal.returns-in-Some
returns-in-Some c =
    found_inner (site_of c.args.self.now) c.args.name.now c.first-global.result c.first.result c.in-Some.slot c.requires.within
    (c.first-global.ensures ∙ c.requires.globals c.args.name.now) (sym c.is_up_to.ensures ∙ c.if-is_up_to.false)
    (c.first.ensures ∙ c.requires.slots c.args.name.now) c.in-Some.is

pub returns-in-None : goal.returns-in-None
returns-in-None c =
    found_beneath (site_of c.args.self.now) c.args.name.now c.first-global.result c.first.result c.requires.within
    (c.first-global.ensures ∙ c.requires.globals c.args.name.now) (sym c.is_up_to.ensures ∙ c.if-is_up_to.false)
    (c.first.ensures ∙ c.requires.slots c.args.name.now) c.in-None.is
