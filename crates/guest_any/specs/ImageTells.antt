-- Two guests of one sort with one image are equal.
use Rattle.std.specs.Prelude.{◌≡◌}
use Rattle.std.proofs.Common.{ap}
use Rattle.dn_guest.specs.Flood.{Bodies}
use Rattle.dn_guest.specs.FloodImage.{same_by_image as same_bodies}
use Rattle.ospf_router.specs.State.{OspfState}
use Rattle.ospf_guest.specs.ImageTells.{same_by_image as same_ospf}
use Rattle.rip_guest.specs.State.{RipState}
use Rattle.rip_guest.specs.ImageTells.{same_by_image as same_rip}
use Rattle.guest_any.specs.declared.any.AnyGuest.{AnyGuest}
use Rattle.guest_any.specs.declared.any.AnyGuest.TheVariants.{Flood, Ospf, Rip}
use Rattle.guest_any.specs.Any.{any_sort, any_image}

pub same_by_image : (one other : AnyGuest)
    → any_sort one ≡ any_sort other → any_image one ≡ any_image other → one ≡ other
same_by_image (Flood a) (Flood b) sort image = ap (λ (bodies : Bodies). Flood bodies) (same_bodies a b image)
same_by_image (Ospf a) (Ospf b) sort image = ap (λ (state : OspfState). Ospf state) (same_ospf a b image)
same_by_image (Rip a) (Rip b) sort image = ap (λ (state : RipState). Rip state) (same_rip a b image)
same_by_image (Flood a) (Ospf b) sort image = absurd cc
same_by_image (Flood a) (Rip b) sort image = absurd cc
same_by_image (Ospf a) (Flood b) sort image = absurd cc
same_by_image (Ospf a) (Rip b) sort image = absurd cc
same_by_image (Rip a) (Flood b) sort image = absurd cc
same_by_image (Rip a) (Ospf b) sort image = absurd cc
