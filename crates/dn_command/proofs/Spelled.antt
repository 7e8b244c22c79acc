-- A command that is spelled is read again.
use Rattle.std.proofs.Common.{◌≡◌, ◌≢◌, ℕ, ◌<◌, ◌≤◌, ◌^◌, true, not, eqb, nat_le, List, [], ◌∷◌, length, Option, Some, refl, ap, ◌∙◌, arith, rules, tests}
use Rattle.std.specs.Fmt.{decimal}
use Rattle.std.specs.List.{AllByRecursion, join_with_byte}
use Rattle.std.proofs.lemmas.Bool.Decides.{nat_tests}
use Rattle.dn_guest.specs.Hex.{hex}
use Rattle.dn_model.specs.declared.router.RouterDef.{RouterDef}
use Rattle.dn_model.specs.Routers.{name_at}
use Rattle.dn_model.specs.Cases.{AreRouters}
use Rattle.dn_text.specs.declared.decimals.Number.{Number}
use Rattle.dn_text.specs.Decimals.{within}
use Rattle.dn_text.specs.Lines.{parts}
use Rattle.dn_text.proofs.DecimalLaws.{decimal_again}
use Rattle.dn_text.proofs.HexadecimalLaws.{unhex_again, is_hex_again}
use Rattle.dn_case.proofs.Fields.{free, both_true, part_then, part_last, decimal_free, name_free, hex_free}
use Rattle.dn_case.proofs.RoundTrip.{read_again}
use Rattle.dn_case.proofs.Spelled.{AllFree}
use Rattle.dn_command.specs.declared.breaks.Break.TheVariants.{At, Router, Port, Body}
use Rattle.dn_command.specs.declared.command.Command.{Command}
use Rattle.dn_command.specs.declared.command.Command.TheVariants as command
use Rattle.dn_command.specs.Commands.{from_to, number_in, probe_name, alone, plain_with_field, with_field, short_break, long_break, break_if, command_of_fields, command_of}
use Rattle.dn_command.specs.Spelling.{CanBeAsked, fields_of, spelt}

-- ---- fields

parts_join : (s : ℕ) (x : List ℕ) (xs : List (List ℕ)) → free s x ≡ true → AllFree s xs → parts s (join_with_byte s (x ∷ xs)) ≡ x ∷ xs
parts_join s x [] h all = part_last s x h
parts_join s x (y ∷ xs) h all = part_then s x (join_with_byte s (y ∷ xs)) h ∙ ap (λ (ps : List (List ℕ)). x ∷ ps) (parts_join s y xs all.0 all.1)

le_true : (m n : ℕ) → m ≤ n → nat_le m n ≡ true
le_true m n h = search (rules, tests)

number_again : (least greatest n : ℕ) → least ≤ n → n ≤ greatest → greatest < 2 ^ 64 → number_in least greatest (decimal n) ≡ Some n
number_again least greatest n low high small =
    ap (λ (o : Option Number). from_to least greatest (within o)) (decimal_again n (omega arith))
    ∙ rw (le_true least n low, le_true n greatest high) refl

number_free : (n greatest : ℕ) → n ≤ greatest → greatest < 2 ^ 64 → free 32 (decimal n) ≡ true
number_free n greatest high small = decimal_free 32 n (omega arith) (omega arith)

other_byte : (c : ℕ) → c ≢ 32 → not (eqb c 32) ≡ true
other_byte c h = grind (arith, nat_tests)

bytes_free : (cs : List ℕ) → AllByRecursion (λ byte. byte ≢ 32) cs → free 32 cs ≡ true
bytes_free [] all = refl
bytes_free (c ∷ cs) all = both_true (not (eqb c 32)) (free 32 cs) (other_byte c all.0) (bytes_free cs all.1)

probe_again : (name : List ℕ) → 0 < length name → probe_name name ≡ Some name
probe_again [] some = absurd (omega arith)
probe_again (c ∷ cs) some = refl

router_free : (rs : List RouterDef) (r : ℕ) → AreRouters [] rs → r < length rs → free 32 (name_at rs r) ≡ true
router_free rs r k inside = name_free 32 (name_at rs r) (omega arith) (read_again rs r k inside).named

digits_free : (bytes : List ℕ) → 0 < length bytes → AllByRecursion (λ byte. byte < 256) bytes → free 32 (hex bytes) ≡ true
digits_free bytes some all = hex_free 32 (hex bytes) (omega arith) (is_hex_again bytes some all)

-- ---- the fields of a line are those that were spelled

all_free : (rs : List RouterDef) (c : Command) → AreRouters [] rs → CanBeAsked rs c → AllFree 32 (fields_of rs c)
all_free rs (command.Step n) k h = (refl, (number_free n 200000 h.1 (omega arith), tt))
all_free rs command.Run k h = (refl, tt)
all_free rs (command.Until group) k h = (refl, (number_free group 4294967295 h (omega arith), tt))
all_free rs (command.Break (At group sum)) k h = (refl, (refl, (number_free group 4294967295 h.0 (omega arith), (number_free sum 4294967295 h.1 (omega arith), tt))))
all_free rs (command.Break (Router router)) k h = (refl, (refl, (router_free rs router k h, tt)))
all_free rs (command.Break (Port router port)) k h = (refl, (refl, (router_free rs router k h.0, (number_free port 15 h.1 (omega arith), tt))))
all_free rs (command.Break (Body bytes)) k h = (refl, (refl, (digits_free bytes h.0 h.1, tt)))
all_free rs (command.Watch name) k h = (refl, (bytes_free name h.whole, tt))
all_free rs (command.Unwatch name) k h = (refl, (bytes_free name h.whole, tt))
all_free rs (command.Show router) k h = (refl, (router_free rs router k h, tt))
all_free rs (command.Queue router) k h = (refl, (router_free rs router k h, tt))
all_free rs command.Where k h = (refl, tt)
all_free rs command.Last k h = (refl, tt)
all_free rs command.Quit k h = (refl, tt)

split_fields : (fields : List (List ℕ)) → 0 < length fields → AllFree 32 fields → parts 32 (join_with_byte 32 fields) ≡ fields
split_fields [] some all = absurd (omega arith)
split_fields (x ∷ xs) some all = parts_join 32 x xs all.0 all.1

some_fields : (rs : List RouterDef) (c : Command) → 0 < length (fields_of rs c)
some_fields rs (command.Step n) = omega arith
some_fields rs command.Run = omega arith
some_fields rs (command.Until group) = omega arith
some_fields rs (command.Break stop) = omega arith
some_fields rs (command.Watch name) = omega arith
some_fields rs (command.Unwatch name) = omega arith
some_fields rs (command.Show router) = omega arith
some_fields rs (command.Queue router) = omega arith
some_fields rs command.Where = omega arith
some_fields rs command.Last = omega arith
some_fields rs command.Quit = omega arith

-- ---- the command of these fields

said_again : (rs : List RouterDef) (c : Command) → AreRouters [] rs → CanBeAsked rs c → command_of_fields rs (fields_of rs c) ≡ Some c
unfolding alone plain_with_field with_field short_break long_break break_if
said_again rs (command.Step n) k h = rw (number_again 1 200000 n h.0 h.1 (omega arith)) refl
said_again rs command.Run k h = refl
said_again rs (command.Until group) k h = rw (number_again 0 4294967295 group (omega arith) h (omega arith)) refl
said_again rs (command.Break (At group sum)) k h = rw (number_again 0 4294967295 group (omega arith) h.0 (omega arith), number_again 0 4294967295 sum (omega arith) h.1 (omega arith)) refl
said_again rs (command.Break (Router router)) k h = rw ((read_again rs router k h).number) refl
said_again rs (command.Break (Port router port)) k h = rw ((read_again rs router k h.0).number, number_again 0 15 port (omega arith) h.1 (omega arith)) refl
said_again rs (command.Break (Body bytes)) k h = rw (unhex_again bytes h.0 h.1) refl
said_again rs (command.Watch name) k h = rw (probe_again name h.some) refl
said_again rs (command.Unwatch name) k h = rw (probe_again name h.some) refl
said_again rs (command.Show router) k h = rw ((read_again rs router k h).number) refl
said_again rs (command.Queue router) k h = rw ((read_again rs router k h).number) refl
said_again rs command.Where k h = refl
said_again rs command.Last k h = refl
said_again rs command.Quit k h = refl

pub spelled_again : (rs : List RouterDef) (c : Command) → AreRouters [] rs → CanBeAsked rs c → command_of rs (spelt rs c) ≡ Some c
unfolding command_of spelt
spelled_again rs c k h =
    ap (command_of_fields rs) (split_fields (fields_of rs c) (some_fields rs c) (all_free rs c k h)) ∙ said_again rs c k h
