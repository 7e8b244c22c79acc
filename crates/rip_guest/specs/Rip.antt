-- The RIP guest.
use Rattle.dn_guest.specs.Meaning.{Meaning}
use Rattle.rip_guest.specs.State.{RipState}
use Rattle.rip_guest.specs.Step.{rip_after, rip_outs}
use Rattle.rip_guest.specs.Image.{rip_image}
use Rattle.rip_guest.specs.Show.{rip_show}

abbrev pub rip : Meaning RipState
rip = record { after = rip_after; outs = rip_outs; sort = λ _. 2; image = rip_image; show = rip_show }
