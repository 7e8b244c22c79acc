-- What a guest of any kind does: what the guest inside does.
use Rattle.std.specs.Prelude.{◌≡◌, ℕ, List, refl}
use Rattle.dn_guest.specs.declared.input.Input.{Input}
use Rattle.dn_guest.specs.declared.outbox.Output.{Output}
use Rattle.dn_guest.specs.Meaning.{Meaning}
use Rattle.dn_guest.specs.Flood.{flood}
use Rattle.ospf_guest.specs.Ospf.{ospf}
use Rattle.rip_guest.specs.Rip.{rip}
use Rattle.guest_any.specs.declared.any.AnyGuest.{AnyGuest}
use Rattle.guest_any.specs.declared.any.AnyGuest.TheVariants.{Flood, Ospf, Rip}

abbrev pub any_after : AnyGuest → ℕ → Input → AnyGuest
any_after (Flood bodies) ports input = Flood (flood.after bodies ports input)
any_after (Ospf state) ports input = Ospf (ospf.after state ports input)
any_after (Rip state) ports input = Rip (rip.after state ports input)

abbrev pub any_outs : AnyGuest → ℕ → Input → List Output
any_outs (Flood bodies) ports input = flood.outs bodies ports input
any_outs (Ospf state) ports input = ospf.outs state ports input
any_outs (Rip state) ports input = rip.outs state ports input

abbrev pub any_sort : AnyGuest → ℕ
any_sort (Flood bodies) = flood.sort bodies
any_sort (Ospf state) = ospf.sort state
any_sort (Rip state) = rip.sort state

abbrev pub any_image : AnyGuest → List ℕ
any_image (Flood bodies) = flood.image bodies
any_image (Ospf state) = ospf.image state
any_image (Rip state) = rip.image state

abbrev pub any_show : AnyGuest → List ℕ
any_show (Flood bodies) = flood.show bodies
any_show (Ospf state) = ospf.show state
any_show (Rip state) = rip.show state

abbrev pub any : Meaning AnyGuest
any = record { after = any_after; outs = any_outs; sort = any_sort; image = any_image; show = any_show }

-- no step changes the kind of the guest inside
pub sort_kept : (state : AnyGuest) (ports : ℕ) (input : Input) → any_sort (any_after state ports input) ≡ any_sort state
sort_kept (Flood bodies) ports input = refl
sort_kept (Ospf state) ports input = refl
sort_kept (Rip state) ports input = refl
