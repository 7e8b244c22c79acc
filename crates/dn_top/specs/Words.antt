-- The words of a command.
use Rattle.std.specs.Prelude.{List, [], ◌∷◌, ℕ, Bool, true, false, Option, Some, None, codes, if◌then◌else◌, nat_eq, nat_le, ◌&&◌}
use Rattle.std.specs.Cmp.Lexicographic.{pointwise}
use Rattle.dn_text.specs.Decimals.{decimal_of}
use Rattle.dn_top.specs.declared.words.RunOptions.{RunOptions}
use Rattle.dn_top.specs.declared.words.Command.{Command}
use Rattle.dn_top.specs.declared.words.Command.TheVariants as command

-- the word has these bytes
abbrev pub is : List ℕ → List ℕ → Bool
is word bytes = pointwise nat_eq word bytes

-- ---- `run [--workers N] [--journal]`

-- `run` with 1 to 16 workers
abbrev pub run_by : Option ℕ → Bool → Option Command
run_by (Some workers) journal = if nat_le 1 workers && nat_le workers 16 then Some (command.Run (record { workers = workers; journal = journal })) else None
run_by None journal = None

-- the options are `--workers N`, where N is a decimal, and `--journal`: in any order, each at most once; by default 4 workers and no journal
abbrev pub run_of : List (List ℕ) → Option Command
run_of [] = run_by (Some 4) false
run_of (a ∷ []) = if is a (codes "--journal") then run_by (Some 4) true else None
run_of (a ∷ b ∷ []) = if is a (codes "--workers") then run_by (decimal_of b) false else None
run_of (a ∷ b ∷ c ∷ []) =
    if is a (codes "--workers") && is c (codes "--journal") then run_by (decimal_of b) true
    else if is a (codes "--journal") && is b (codes "--workers") then run_by (decimal_of c) true
    else None
run_of (a ∷ b ∷ c ∷ d ∷ more) = None

-- ---- `shake NUMBER --steps M`

-- `shake` by this number, of 1 to 1,000,000 steps
abbrev pub scheduled : Option ℕ → Option ℕ → Option Command
scheduled (Some number) (Some steps) = if nat_le 1 steps && nat_le steps 1000000 then Some (command.Shake (record { number = number; steps = steps })) else None
scheduled (Some number) None = None
scheduled None steps = None

-- both numbers are decimals below 2^64
abbrev pub shake_of : List (List ℕ) → Option Command
shake_of [] = None
shake_of (a ∷ []) = None
shake_of (a ∷ b ∷ []) = None
shake_of (a ∷ b ∷ c ∷ []) = if is b (codes "--steps") then scheduled (decimal_of a) (decimal_of c) else None
shake_of (a ∷ b ∷ c ∷ d ∷ more) = None

-- ---- all commands

-- the commands of one word
abbrev pub plain_command : List ℕ → List (List ℕ) → Option Command
plain_command word [] =
    if is word (codes "lockstep") then Some command.Lockstep
    else if is word (codes "check") then Some command.Check
    else if is word (codes "rerun") then Some command.Rerun
    else None
plain_command word (other ∷ more) = None

unfoldable pub command_of : List (List ℕ) → Option Command
command_of [] = None
command_of (word ∷ more) =
    if is word (codes "run") then run_of more
    else if is word (codes "shake") then shake_of more
    else plain_command word more

-- the commands that wait for nobody: all but `run`
abbrev pub plain_of : Option Command → Option Command
plain_of (Some (command.Run options)) = None
plain_of (Some command.Lockstep) = Some command.Lockstep
plain_of (Some command.Check) = Some command.Check
plain_of (Some command.Rerun) = Some command.Rerun
plain_of (Some (command.Shake schedule)) = Some (command.Shake schedule)
plain_of None = None

-- ---- `run --live [--workers N] [--journal]`, in any order: a command by itself

-- the options of `run`, if that is the command
abbrev pub options_of : Option Command → Option RunOptions
options_of (Some (command.Run options)) = Some options
options_of (Some command.Lockstep) = None
options_of (Some command.Check) = None
options_of (Some command.Rerun) = None
options_of (Some (command.Shake schedule)) = None
options_of None = None

-- `--live` stands first, last or between the others, which mean what they mean without it
abbrev pub live_run : List (List ℕ) → Option Command
live_run [] = None
live_run (a ∷ []) = if is a (codes "--live") then run_of [] else None
live_run (a ∷ b ∷ []) =
    if is a (codes "--live") then run_of (b ∷ [])
    else if is b (codes "--live") then run_of (a ∷ [])
    else None
live_run (a ∷ b ∷ c ∷ []) =
    if is a (codes "--live") then run_of (b ∷ c ∷ [])
    else if is c (codes "--live") then run_of (a ∷ b ∷ [])
    else None
live_run (a ∷ b ∷ c ∷ d ∷ []) =
    if is a (codes "--live") then run_of (b ∷ c ∷ d ∷ [])
    else if is d (codes "--live") then run_of (a ∷ b ∷ c ∷ [])
    else if is a (codes "--journal") && (is b (codes "--live") && is c (codes "--workers")) then run_by (decimal_of d) true
    else if is a (codes "--workers") && (is c (codes "--live") && is d (codes "--journal")) then run_by (decimal_of b) true
    else None
live_run (a ∷ b ∷ c ∷ d ∷ e ∷ more) = None

unfoldable pub live_of : List (List ℕ) → Option RunOptions
live_of [] = None
live_of (word ∷ more) = if is word (codes "run") then options_of (live_run more) else None
