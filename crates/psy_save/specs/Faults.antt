-- Why a run leaves no bytes, by the call that failed.
use Rattle.psy_kernel.specs.declared.fault.FreezeFault.{FreezeFault}
use Rattle.psy_kernel.specs.declared.fault.FreezeFault.TheVariants as freeze
use Rattle.psy_save.specs.declared.fault.SaveFault.{SaveFault}
use Rattle.psy_save.specs.declared.fault.SaveFault.TheVariants as save
use Rattle.psy_snap.specs.declared.fault.SpellFault.{SpellFault}
use Rattle.psy_snap.specs.declared.fault.SpellFault.TheVariants as spell

-- The run left no state.
abbrev pub by_freeze : FreezeFault → SaveFault
by_freeze (freeze.Busy agent) = save.Busy agent
by_freeze freeze.Memory = save.Memory

-- The state has no bytes.
abbrev pub by_spell : SpellFault → SaveFault
by_spell spell.Large = save.Large
by_spell spell.Memory = save.Memory
