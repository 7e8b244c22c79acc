-- The body of a router-LSA (RFC 2328 section 12.4.1 and appendix A.4.2).
use Rattle.std.specs.Prelude.{◌≡◌, ◌+◌, ◌*◌, ◌≤◌, ◌<◌, ◌^◌, ℕ, List, [], ◌∷◌, ◌++◌, length, drop, flat_map}
use Rattle.ospf_wire.specs.declared.router_lsa.RouterLink.{RouterLink}
use Rattle.ospf_wire.specs.Fields.{field, number}

-- the link that stands at the front of these bytes
unfoldable pub link_of : List ℕ → RouterLink
link_of bytes = record {
  id = field 0 4 bytes;
  «data» = field 4 4 bytes;
  kind = field 8 1 bytes;
  metric = field 10 2 bytes;
}

-- how many bytes it takes: 12, and 4 for each of its TOS metrics
abbrev pub link_len : List ℕ → ℕ
link_len bytes = 12 + 4 * field 9 1 bytes

-- the bytes are these links, one behind the other
abbrev pub AreLinks : List ℕ → List RouterLink → Type 0
AreLinks bytes [] = bytes ≡ []
AreLinks bytes (l ∷ ls) = (link_len bytes ≤ length bytes) × (l ≡ link_of bytes) × AreLinks (drop (link_len bytes) bytes) ls

-- These bytes are the body of a router-LSA with these links: how many there are, and just these.
pub record IsRouterBody (body : List ℕ) (links : List RouterLink) : Type 0 where
  pub whole : 4 ≤ length body
  pub count : field 2 2 body ≡ length links
  pub are : AreLinks (drop 4 body) links

-- the 12 bytes of a link without TOS metrics
unfoldable pub link_bytes : RouterLink → List ℕ
link_bytes l = number 4 l.id ++ number 4 l.data ++ l.kind ∷ 0 ∷ number 2 l.metric

-- the bytes of links
abbrev pub links_bytes : List RouterLink → List ℕ
links_bytes ls = flat_map link_bytes ls

-- the body of a router-LSA with these links: no flags, and no TOS metrics
unfoldable pub router_body_bytes : List RouterLink → List ℕ
router_body_bytes ls = 0 ∷ 0 ∷ number 2 (length ls) ++ links_bytes ls

-- each number of a link is one of its width
pub record FitsLink (l : RouterLink) : Type 0 where
  pub id : l.id < 2 ^ 32
  pub «data» : l.data < 2 ^ 32
  pub kind : l.kind < 2 ^ 8
  pub metric : l.metric < 2 ^ 16
