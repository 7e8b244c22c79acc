use Rattle.std.proofs.Common.{Some, ap, sym, ◌∙◌}
use Rattle.dn_top.specs.declared.words.Command.TheVariants as command
use Rattle.dn_top.specs.Words.{plain_of}
use Rattle.dn_top.proofs.Promising.{same_asked}
use Rattle.dn_top.proofs.top.on_whole_input.Goals as goal

pub returns-in-Some : goal.returns-in-Some
returns-in-Some g c =
    let asked = c.run_options.ensures.run c.in-Some.options c.in-Some.is in
    same_asked _ (Some (command.Run c.in-Some.options)) c.run.result _ _ (sym c.command_of.ensures.is ∙ asked) c.run.ensures

pub returns-in-None : goal.returns-in-None
returns-in-None g c =
    let plain = c.run_options.ensures.other c.in-None.is in
    same_asked _ _ c.defined_plain.result _ _ (sym c.command_of.ensures.is ∙ sym plain ∙ ap plain_of c.command_of.ensures.is) c.defined_plain.ensures
