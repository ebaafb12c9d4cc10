-- A text without tokens has no place of a token.
use Rattle.psy_token.specs.declared.fault.LexFault.{LexFault}
use Rattle.psy_token.specs.declared.fault.LexFault.TheVariants as lexing
use Rattle.psy_where.specs.declared.fault.WhereFault.{WhereFault}
use Rattle.psy_where.specs.declared.fault.WhereFault.TheVariants.{Beyond, Memory}

-- What a fault of tokens means for a refusal that names a token
abbrev pub fault_of : LexFault → WhereFault
fault_of (lexing.Lexical kind place) = Beyond
fault_of lexing.Memory = Memory
