use Rattle.std.proofs.Common.{◌≡◌, sym, ap, ◌∙◌}
use Rattle.ospf_router.specs.Interfaces.{AtPorts}
use Rattle.ospf_router.proofs.Equalities.{same_at_ports}
use Rattle.ospf_router.proofs.interfaces.Interfaces.same.Goals as goal

pub returns-then-same_ports : goal.returns-then-same_ports
returns-then-same_ports c =
    let one = c.self.inside in
    let other = c.other.inside in
    let ports : one.ports.items ≡ other.ports.items = sym c.as_slice.ensures.value ∙ c.same_ports.ensures.0 c.if-same_ports.true ∙ c.as_slice-2.ensures.value in (
      λ t. sym c.self.view_is ∙ same_at_ports one.ports.items other.ports.items one.lists other.lists ports (c.same.ensures.0 t) ∙ c.other.view_is,
      λ e. c.same.ensures.1 (ap (λ (a : AtPorts). a.lists) (c.self.view_is ∙ e ∙ sym c.other.view_is)),
    )

pub returns-else-same_ports : goal.returns-else-same_ports
returns-else-same_ports c = (
  λ t. absurd cc,
  λ e. c.same_ports.ensures.1 (c.as_slice.ensures.value ∙ ap (λ (a : AtPorts). a.ports) (c.self.view_is ∙ e ∙ sym c.other.view_is) ∙ sym c.as_slice-2.ensures.value),
)
