-- How a fault that was found is told.
use Rattle.std.specs.Prelude.{ℕ}
use Rattle.psy_audit.specs.declared.verdict.Wrong.{Wrong}
use Rattle.psy_audit.specs.Faults.{Fault}

-- The fault of this number in this line
abbrev pub fault_at : ℕ → ℕ → Fault
fault_at number line = record { number = number; line = line }

-- The fault that these numbers tell of
abbrev pub wrong_of : Wrong → Fault
wrong_of w = record { number = w.number; line = w.line }
