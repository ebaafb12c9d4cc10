-- What judging a program tells.
use Rattle.std.specs.Prelude.{Option, Some, None}
use Rattle.psy_tree.specs.declared.raw.Raw.{Raw}
use Rattle.psy_tree.specs.Rules.{LeastFault, NoFault}
use Rattle.psy_rules.specs.declared.least.RuleAt.{RuleAt}

-- Its least fault, or that it has none.
abbrev pub Verdict : Raw → Option RuleAt → Type 0
Verdict raw None = NoFault raw
Verdict raw (Some f) = LeastFault raw f.kind f.token
