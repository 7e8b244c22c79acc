-- The number of a status, and its line on standard error.
use Rattle.std.specs.Prelude.{ℕ, List, [], ◌++◌, codes}
use Rattle.std.specs.Fmt.{decimal}
use Rattle.dn_case.specs.declared.cause.Cause.{Cause}
use Rattle.dn_case.specs.declared.cause.Cause.TheVariants as cause
use Rattle.dn_case.specs.declared.cause.CaseFault.{CaseFault}
use Rattle.dn_top.specs.declared.status.Status.{Status}
use Rattle.dn_top.specs.declared.status.Status.TheVariants as status

-- a cause in lower case
unfoldable pub cause_word : Cause → List ℕ
cause_word cause.Ended = codes "ended"
cause_word cause.Syntax = codes "syntax"
cause_word cause.Version = codes "version"
cause_word cause.Range = codes "range"
cause_word cause.Name = codes "name"
cause_word cause.Same = codes "same"
cause_word cause.Twice = codes "twice"
cause_word cause.Kind = codes "kind"
cause_word cause.Host = codes "host"
cause_word cause.Many = codes "many"
cause_word cause.Order = codes "order"
cause_word cause.Port = codes "port"
cause_word cause.Journal = codes "journal"

-- the line and the cause of a fault
abbrev pub fault_words : CaseFault → List ℕ
fault_words fault = codes "line " ++ decimal fault.line ++ codes ": " ++ cause_word fault.cause

-- what a status says behind `defined: `; nothing for Ok
unfoldable pub status_words : Status → List ℕ
status_words status.Ok = []
status_words (status.Differs at) = codes "differs at " ++ decimal at
status_words status.Usage = codes "usage"
status_words (status.BadCase fault) = fault_words fault
status_words status.Cut = codes "cut"
status_words status.ReadFault = codes "read fault"
status_words status.WriteFault = codes "write fault"
status_words status.NoMemory = codes "no memory"
status_words status.TooBig = codes "too big"
status_words (status.Illegal number) = codes "illegal step " ++ decimal number
status_words status.Open = codes "open"

-- the line, with its newline; none for Ok
unfoldable pub status_line : Status → List ℕ
status_line status.Ok = []
status_line s = codes "defined: " ++ status_words s ++ codes "\n"

-- the exit status of the program
abbrev pub status_number : Status → ℕ
status_number status.Ok = 0
status_number (status.Differs at) = 1
status_number status.Usage = 2
status_number (status.BadCase fault) = 3
status_number status.Cut = 4
status_number status.ReadFault = 5
status_number status.WriteFault = 6
status_number status.NoMemory = 7
status_number status.TooBig = 8
status_number (status.Illegal number) = 9
status_number status.Open = 10
