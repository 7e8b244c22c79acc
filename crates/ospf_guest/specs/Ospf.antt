-- The OSPF guest.
use Rattle.dn_guest.specs.Meaning.{Meaning}
use Rattle.ospf_router.specs.State.{OspfState}
use Rattle.ospf_router.specs.Step.{ospf_after, ospf_outs}
use Rattle.ospf_guest.specs.Image.{ospf_image}
use Rattle.ospf_guest.specs.Show.{ospf_show}

abbrev pub ospf : Meaning OspfState
ospf = record { after = ospf_after; outs = ospf_outs; sort = λ _. 1; image = ospf_image; show = ospf_show }
