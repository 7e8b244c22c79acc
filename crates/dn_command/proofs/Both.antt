-- A line is read as just what it asks for.
use Rattle.std.proofs.Common.{◌≡◌, inl, inr, ℕ, List, [], Some, refl, sym, ap, ◌∙◌, codes}
use Rattle.std.specs.Prelude.{◌↔◌}
use Rattle.dn_model.specs.declared.router.RouterDef.{RouterDef}
use Rattle.dn_model.specs.Cases.{AreRouters}
use Rattle.dn_case.proofs.Fields.{part_last}
use Rattle.dn_command.specs.declared.command.Command.{Command}
use Rattle.dn_command.specs.declared.command.Command.TheVariants as command
use Rattle.dn_command.specs.Commands.{alone, command_of_fields, command_of}
use Rattle.dn_command.specs.Spelling.{AsksFor}
use Rattle.dn_command.proofs.Spelled.{spelled_again}
use Rattle.dn_command.proofs.Asking.{asks_for}

step_alone : (rs : List RouterDef) → command_of rs (codes "step") ≡ Some (command.Step 1)
unfolding command_of alone
step_alone rs = ap (command_of_fields rs) (part_last 32 (codes "step") refl)

read : (rs : List RouterDef) (line : List ℕ) (c : Command) → AreRouters [] rs → AsksFor rs c line → command_of rs line ≡ Some c
read rs line c k h =
    elim h.is [
      | inl same ↦ ap (command_of rs) same ∙ spelled_again rs c k h.asked
      | inr one ↦ ap (command_of rs) one.0 ∙ step_alone rs ∙ ap (λ (c : Command). Some c) (sym one.1)
    ]

pub just_what_it_asks_for : (rs : List RouterDef) (line : List ℕ) (c : Command) → AreRouters [] rs → ((command_of rs line ≡ Some c) ↔ AsksFor rs c line)
just_what_it_asks_for rs line c k = (asks_for rs line c, read rs line c k)
