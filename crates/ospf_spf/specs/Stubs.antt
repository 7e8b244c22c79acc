-- Stub networks (RFC 2328 sections 12.4.1.1 and 16.1, second stage).
use Rattle.std.specs.Prelude.{◌≡◌, ℕ, ◌≤◌, bit_and}
use Rattle.ospf_wire.specs.declared.router_lsa.RouterLink.{RouterLink}
use Rattle.ospf_wire.specs.Constants.{StubNetwork}
use Rattle.dn_net.specs.Networks.{mask_of}

-- A stub link (type 3) to the network of this prefix and length: its mask is contiguous, and the prefix is
-- its id without the bits past the mask.
pub record IsStub (l : RouterLink) (prefix len : ℕ) : Type 0 where
  pub kind : l.kind ≡ StubNetwork
  pub within : len ≤ 32
  pub mask : l.data ≡ mask_of len
  pub address : bit_and l.id l.data ≡ prefix
