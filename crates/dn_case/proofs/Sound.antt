-- What stands after lines that were read meets the rules of a case, as far as the lines have come.
use Rattle.std.proofs.Common.{◌≡◌, ℕ, ◌*◌, ◌≤◌, ◌<◌, ◌^◌, Bool, true, false, not, ◌&&◌, ◌||◌, nat_eq, nat_le, nat_lt, List, [], ◌∷◌, ◌++◌, length, get_or, Option, None, unwrap_or, Ok, refl, sym, ap, subst, ◌∙◌, append_assoc, arith}
use Rattle.std.specs.Prelude.{slice_get}
use Rattle.std.specs.List.{AllByRecursion}
use Rattle.std.specs.Option.{option_map_or}
use Rattle.std.specs.Cmp.Lexicographic.{pointwise}
use Rattle.std.proofs.lemmas.List.{append-nil, length-append}
use Rattle.dn_model.specs.declared.router.RouterDef.{RouterDef}
use Rattle.dn_model.specs.declared.router.Kind.{Kind}
use Rattle.dn_model.specs.declared.router.Prefix.{Prefix as PrefixDef}
use Rattle.dn_model.specs.declared.link.Link.{Link as LinkDef}
use Rattle.dn_model.specs.declared.feed.External.{External as ExternalDef}
use Rattle.dn_model.specs.Names.{is_name}
use Rattle.dn_model.specs.Kinds.{IsPrefix}
use Rattle.dn_model.specs.Routers.{number_of}
use Rattle.dn_model.specs.Links.{ports_of}
use Rattle.dn_model.specs.Cases.{Heading, Recording, IsRouter, AreRouters, IsLink, AreLinks, IsAsked, IsExternal, AreExternals, IsHeading, IsRecording}
use Rattle.dn_text.specs.declared.decimals.Number.{Number}
use Rattle.dn_text.specs.Hexadecimals.{unhex}
use Rattle.dn_text.proofs.HexadecimalLaws.{of_hex}
use Rattle.dn_case.specs.declared.shape.Net.{Net}
use Rattle.dn_case.specs.declared.standing.Standing.{Standing}
use Rattle.dn_case.specs.declared.place.Place.{Place}
use Rattle.dn_case.specs.declared.place.Place.TheVariants as place
use Rattle.dn_case.specs.declared.cause.Cause.TheVariants as cause
use Rattle.dn_case.specs.Shapes.{Ask, Cmd, Down, Up, Line, Version, Period, Groups, Seed, Router, Link, Prefix, Feed, External, End}
use Rattle.dn_case.specs.Standings.{place_of, may_follow, between, below, value, is_known, is_rip, is_flood, router_is, has_net, has_host_bits, net_fits, address, with_prefix, ports_at, ask_fits, number_at, input_of, lacks_port, last_group, first_of, table, after, read_line, start}
use Rattle.dn_case.specs.Reading.{Leads, case_of}
use Rattle.dn_case.proofs.RouterLaws.{nobody, numbered, differ}
use Rattle.dn_case.proofs.PrefixLaws.{address_fits, len_fits, no_host_bits, cost_fits, routers_with_prefix, length_with_prefix}
use Rattle.dn_case.proofs.Taken.{is_taken, IsWell, well, free_test, held, both, neither, is_below, is_above, at_most, less, in_range, under, known_is, unknown_is}

-- ---- one more at the end

routers_more : (before rs : List RouterDef) (r : RouterDef) → AreRouters before rs → IsRouter (before ++ rs) r → AreRouters before (rs ++ r ∷ [])
routers_more before [] r h k = (subst (λ (b : List RouterDef). IsRouter b r) (append-nil before) k, tt)
routers_more before (x ∷ rs) r h k =
    (h.0, routers_more (before ++ x ∷ []) rs r h.1 (subst (λ (b : List RouterDef). IsRouter b r) (sym (append_assoc before (x ∷ []) rs)) k))

links_more : (n : ℕ) (before ls : List LinkDef) (l : LinkDef) → AreLinks n before ls → IsLink n (before ++ ls) l → AreLinks n before (ls ++ l ∷ [])
links_more n before [] l h k = (subst (λ (b : List LinkDef). IsLink n b l) (append-nil before) k, tt)
links_more n before (x ∷ ls) l h k =
    (h.0, links_more n (before ++ x ∷ []) ls l h.1 (subst (λ (b : List LinkDef). IsLink n b l) (sym (append_assoc before (x ∷ []) ls)) k))

externals_more : (h : Heading) (low : ℕ) (xs : List ExternalDef) (x : ExternalDef) → AreExternals h low xs → IsExternal h (last_group low xs) x → AreExternals h low (xs ++ x ∷ [])
externals_more h low [] x are is = (is, tt)
externals_more h low (y ∷ xs) x are is = (are.0, externals_more h y.group xs x are.1 is)

-- ---- the rules so far

pub record IsBare (c : Recording) : Type 0 where
  pub routers : c.header.routers ≡ []
  pub links : c.header.links ≡ []
  pub feed : c.feed ≡ []

abbrev IsPeriod : Recording → Type 0
IsPeriod c = (1 ≤ c.header.period) × (c.header.period ≤ 1000000)

abbrev IsGroups : Recording → Type 0
IsGroups c = (1 ≤ c.header.groups) × (c.header.groups ≤ 4096)

abbrev IsSeed : Recording → Type 0
IsSeed c = c.header.seed < 2 ^ 64

abbrev pub Sound : Place → Recording → Type 0
Sound place.Start c = IsBare c
Sound place.Version c = IsBare c
Sound place.Period c = IsBare c × IsPeriod c
Sound place.Groups c = IsBare c × IsPeriod c × IsGroups c
Sound place.Seed c = IsBare c × IsPeriod c × IsGroups c × IsSeed c
Sound place.Router c = IsRecording c × (c.header.links ≡ []) × (c.feed ≡ [])
Sound place.Link c = IsRecording c × (c.feed ≡ [])
Sound place.Prefix c = IsRecording c × (c.feed ≡ [])
Sound place.Feed c = IsRecording c
Sound place.External c = IsRecording c
Sound place.End c = IsRecording c

pub before_version : (p : Place) (c : Recording) → may_follow p place.Version ≡ true → Sound p c → IsBare c
unfolding may_follow
before_version place.Start c m h = h
before_version _ c m h = absurd cc

pub before_period : (p : Place) (c : Recording) → may_follow p place.Period ≡ true → Sound p c → IsBare c
unfolding may_follow
before_period place.Version c m h = h
before_period _ c m h = absurd cc

pub before_groups : (p : Place) (c : Recording) → may_follow p place.Groups ≡ true → Sound p c → IsBare c × IsPeriod c
unfolding may_follow
before_groups place.Period c m h = h
before_groups _ c m h = absurd cc

pub before_seed : (p : Place) (c : Recording) → may_follow p place.Seed ≡ true → Sound p c → IsBare c × IsPeriod c × IsGroups c
unfolding may_follow
before_seed place.Groups c m h = h
before_seed _ c m h = absurd cc

-- what stands before a router's line
record IsOpen (c : Recording) : Type 0 where
  period : IsPeriod c
  groups : IsGroups c
  seed : IsSeed c
  routers : AreRouters [] c.header.routers
  links : c.header.links ≡ []
  feed : c.feed ≡ []

before_router : (p : Place) (c : Recording) → may_follow p place.Router ≡ true → Sound p c → IsOpen c
unfolding may_follow
before_router place.Seed c m h =
    record { period = h.1; groups = h.2; seed = h.3; routers = subst (λ (rs : List RouterDef). AreRouters [] rs) (sym h.0.routers) tt; links = h.0.links; feed = h.0.feed }
before_router place.Router c m h =
    record { period = h.0.header.period; groups = h.0.header.groups; seed = h.0.header.seed; routers = h.0.header.routers; links = h.1; feed = h.2 }
before_router _ c m h = absurd cc

before_link : (p : Place) (c : Recording) → may_follow p place.Link ≡ true → Sound p c → IsRecording c × (c.feed ≡ [])
unfolding may_follow
before_link place.Router c m h = (h.0, h.2)
before_link place.Link c m h = h
before_link _ c m h = absurd cc

before_prefix : (p : Place) (c : Recording) → may_follow p place.Prefix ≡ true → Sound p c → IsRecording c × (c.feed ≡ [])
unfolding may_follow
before_prefix place.Router c m h = (h.0, h.2)
before_prefix place.Link c m h = h
before_prefix place.Prefix c m h = h
before_prefix _ c m h = absurd cc

before_feed : (p : Place) (c : Recording) → may_follow p place.Feed ≡ true → Sound p c → IsRecording c
unfolding may_follow
before_feed place.Router c m h = h.0
before_feed place.Link c m h = h.0
before_feed place.Prefix c m h = h.0
before_feed _ c m h = absurd cc

pub before_external : (p : Place) (c : Recording) → may_follow p place.External ≡ true → Sound p c → IsRecording c
unfolding may_follow
before_external place.Feed c m h = h
before_external place.External c m h = h
before_external _ c m h = absurd cc

before_end : (p : Place) (c : Recording) → may_follow p place.End ≡ true → Sound p c → IsRecording c
unfolding may_follow
before_end place.Feed c m h = h
before_end place.External c m h = h
before_end _ c m h = absurd cc

-- ---- a router

no_links : (n : ℕ) (ls : List LinkDef) → ls ≡ [] → AreLinks n [] ls
no_links n ls none = subst (λ (x : List LinkDef). AreLinks n [] x) (sym none) tt

no_feed : (h : Heading) (xs : List ExternalDef) → xs ≡ [] → AreExternals h 0 xs
no_feed h xs none = subst (λ (x : List ExternalDef). AreExternals h 0 x) (sym none) tt

few_none : (ls : List LinkDef) → ls ≡ [] → length ls ≤ 256
few_none ls none = subst (λ (x : List LinkDef). length x ≤ 256) (sym none) (omega arith)

router_sound : (s : Standing) (name : List ℕ) (k : Kind) → IsOpen (case_of s) → is_name name ≡ true → first_of (table s (Router name k)) ≡ None → Sound place.Router (case_of (after s (Router name k)))
router_sound s name k open_ shape free =
    let twice = free_test (is_known s name) cause.Twice _ free in
    let many = free_test (nat_le 64 (length s.routers)) cause.Many _ twice.1 in
    let r : RouterDef = record { name = name; kind = k; prefixes = [] } in
    let is : IsRouter s.routers r = record { named = shape; apart = unknown_is (number_of s.routers name) twice.0; few_prefixes = omega arith; prefixes = tt } in
    let small = is_below 64 (length s.routers) many.0 in
    let long = length-append s.routers (r ∷ []) in (
      record {
        header = record {
          period = open_.period;
          groups = open_.groups;
          seed = open_.seed;
          some = omega arith;
          few = omega arith;
          routers = routers_more [] s.routers r open_.routers is;
          few_links = few_none s.links open_.links;
          links = no_links _ s.links open_.links;
        };
        feed = no_feed _ s.feed open_.feed;
      },
      open_.links,
      open_.feed,
    )

-- ---- a link

port_is : (s : Standing) (name : List ℕ) → is_known s name ≡ true → ports_at s name ≡ ports_of s.links (number_at s name)
port_is s name known = ap (λ (o : Option ℕ). option_map_or (λ i. ports_of s.links i) o 0) (known_is (number_of s.routers name) known)

abbrev link_at : Standing → List ℕ → List ℕ → Number → Number → LinkDef
link_at s a b delay cost = record { a = number_at s a; a_port = ports_at s a; b = number_at s b; b_port = ports_at s b; delay = value delay; cost = value cost }

record IsNewLink (s : Standing) (l : LinkDef) : Type 0 where
  few : length s.links < 256
  is : IsLink (length s.routers) s.links l

new_link : (s : Standing) (a b : List ℕ) (delay cost : Number) → first_of (table s (Link a b delay cost)) ≡ None → IsNewLink s (link_at s a b delay cost)
new_link s a b delay cost free =
    let range = free_test (not (between 1 1000000 delay && between 1 65535 cost)) cause.Range _ free in
    let unknown = free_test (not (is_known s a && is_known s b)) cause.Name _ range.1 in
    let same = free_test (pointwise nat_eq a b) cause.Same _ unknown.1 in
    let many = free_test (nat_le 256 (length s.links) || (nat_le 16 (ports_at s a) || nat_le 16 (ports_at s b))) cause.Many _ same.1 in
    let ranges = both (between 1 1000000 delay) (between 1 65535 cost) (held _ range.0) in
    let known = both (is_known s a) (is_known s b) (held _ unknown.0) in
    let few = neither (nat_le 256 (length s.links)) _ many.0 in
    let ports = neither (nat_le 16 (ports_at s a)) (nat_le 16 (ports_at s b)) few.1 in
    let i = known_is (number_of s.routers a) known.0 in
    let j = known_is (number_of s.routers b) known.1 in
    record {
      few = is_below 256 (length s.links) few.0;
      is = record {
        inside = ((numbered s.routers a _ i).inside, (numbered s.routers b _ j).inside);
        differ = differ s.routers a b _ _ i j same.0;
        a_port = port_is s a known.0;
        b_port = port_is s b known.1;
        ports = (is_below 16 (ports_at s a) ports.0, is_below 16 (ports_at s b) ports.1);
        delay = in_range 1 1000000 delay ranges.0;
        cost = in_range 1 65535 cost ranges.1;
      };
    }

link_sound : (s : Standing) (a b : List ℕ) (delay cost : Number) → IsRecording (case_of s) × (s.feed ≡ []) → first_of (table s (Link a b delay cost)) ≡ None → Sound place.Link (case_of (after s (Link a b delay cost)))
link_sound s a b delay cost h free =
    let l = link_at s a b delay cost in
    let new = new_link s a b delay cost free in
    let long = length-append s.links (l ∷ []) in (
      record {
        header = record {
          period = h.0.header.period;
          groups = h.0.header.groups;
          seed = h.0.header.seed;
          some = h.0.header.some;
          few = h.0.header.few;
          routers = h.0.header.routers;
          few_links = omega (arith, new.few);
          links = links_more (length s.routers) [] s.links l h.0.header.links new.is;
        };
        feed = no_feed _ s.feed h.1;
      },
      h.1,
    )

-- ---- a prefix

router_test : (test : RouterDef → Bool) (s : Standing) (name : List ℕ) → is_known s name ≡ true → router_is test s name ≡ test (get_or s.routers (number_at s name) nobody)
router_test test s name known =
    let is = known_is (number_of s.routers name) known in
    let at = numbered s.routers name (number_at s name) is in
    ap (λ (o : Option ℕ). option_map_or (λ i. option_map_or test (slice_get s.routers i) false) o false) is
    ∙ ap (λ (o : Option RouterDef). option_map_or test o false) at.found

abbrev prefix_at : Net → Number → PrefixDef
prefix_at net cost = record { address = address net; len = value net.len; cost = value cost }

record IsNewPrefix (s : Standing) (i : ℕ) (p : PrefixDef) : Type 0 where
  inside : i < length s.routers
  few : length (get_or s.routers i nobody).prefixes < 32
  is : IsPrefix (get_or s.routers i nobody).kind (get_or s.routers i nobody).prefixes p

new_prefix : (s : Standing) (name : List ℕ) (net : Net) (cost : Number) → first_of (table s (Prefix name net cost)) ≡ None → IsNewPrefix s (number_at s name) (prefix_at net cost)
new_prefix s name net cost free =
    let r = get_or s.routers (number_at s name) nobody in
    let range = free_test (not (net_fits net && between 1 65535 cost) || router_is (λ r. is_rip r.kind && not (between 1 15 cost)) s name) cause.Range _ free in
    let unknown = free_test (not (is_known s name)) cause.Name _ range.1 in
    let twice = free_test (router_is (λ r. has_net net r.prefixes) s name) cause.Twice _ unknown.1 in
    let floods = free_test (router_is (λ r. is_flood r.kind) s name) cause.Kind _ twice.1 in
    let host = free_test (has_host_bits net) cause.Host _ floods.1 in
    let many = free_test (router_is (λ r. nat_le 32 (length r.prefixes)) s name) cause.Many _ host.1 in
    let known = held (is_known s name) unknown.0 in
    let ranges = neither (not (net_fits net && between 1 65535 cost)) _ range.0 in
    let fits = both (net_fits net) (between 1 65535 cost) (held _ ranges.0) in
    let rip : (is_rip r.kind && not (between 1 15 cost)) ≡ false = sym (router_test (λ r. is_rip r.kind && not (between 1 15 cost)) s name known) ∙ ranges.1 in
    let apart : has_net net r.prefixes ≡ false = sym (router_test (λ r. has_net net r.prefixes) s name known) ∙ twice.0 in
    let no_flood : is_flood r.kind ≡ false = sym (router_test (λ r. is_flood r.kind) s name known) ∙ floods.0 in
    let few : nat_le 32 (length r.prefixes) ≡ false = sym (router_test (λ r. nat_le 32 (length r.prefixes)) s name known) ∙ many.0 in
    record {
      inside = (numbered s.routers name _ (known_is (number_of s.routers name) known)).inside;
      few = is_below 32 (length r.prefixes) few;
      is = record {
        len = len_fits net fits.0;
        address = address_fits net fits.0;
        no_host = no_host_bits net host.0;
        cost = cost_fits r.kind cost fits.1 rip no_flood;
        apart = apart;
      };
    }

as_many : (h : Heading) (rs : List RouterDef) → length rs ≡ length h.routers → AreRouters [] rs → IsHeading h → IsHeading (record { period = h.period; groups = h.groups; seed = h.seed; routers = rs; links = h.links })
as_many h rs same are is =
    record {
      period = is.period;
      groups = is.groups;
      seed = is.seed;
      some = subst (λ (n : ℕ). 1 ≤ n) (sym same) is.some;
      few = subst (λ (n : ℕ). n ≤ 64) (sym same) is.few;
      routers = are;
      few_links = is.few_links;
      links = subst (λ (n : ℕ). AreLinks n [] h.links) (sym same) is.links;
    }

prefix_sound : (s : Standing) (name : List ℕ) (net : Net) (cost : Number) → IsRecording (case_of s) × (s.feed ≡ []) → first_of (table s (Prefix name net cost)) ≡ None → Sound place.Prefix (case_of (after s (Prefix name net cost)))
prefix_sound s name net cost h free =
    let i = number_at s name in
    let p = prefix_at net cost in
    let new = new_prefix s name net cost free in
    let are = routers_with_prefix [] s.routers i p new.inside h.0.header.routers new.is new.few in
    (record { header = as_many (case_of s).header (with_prefix s.routers i p) (length_with_prefix s.routers i p) are h.0.header; feed = no_feed _ s.feed h.1 }, h.1)

-- ---- an external

fits_half : (n k : ℕ) → n ≡ 2 * k → n ≤ 2 * 255 → k ≤ 255
fits_half n k e h = omega arith

some_half : (n k : ℕ) → n ≡ 2 * k → 0 < n → 1 ≤ k
some_half n k e h = omega arith

asked_is : (ports : ℕ) (group : Number) (name : List ℕ) (a : Ask) → IsWell (External group name a) → ask_fits a ≡ true → lacks_port ports a ≡ false → IsAsked ports (input_of a)
asked_is ports group name (Cmd hex) shape fits has =
    let found = of_hex hex shape in
    let small : length hex ≤ 2 * 255 = at_most (length hex) (2 * 255) fits in
    let some : 0 < length hex = less 0 (length hex) (both (nat_lt 0 (length hex)) _ shape).0 in
    let body : unwrap_or (unhex hex) [] ≡ found.0 = ap (λ (o : Option (List ℕ)). unwrap_or o []) found.1 in
    subst (λ (x : List ℕ). (1 ≤ length x) × (length x ≤ 255) × AllByRecursion (λ byte. byte < 256) x) (sym body)
    (some_half (length hex) (length found.0) found.2.width some, fits_half (length hex) (length found.0) found.2.width small, found.2.small)
asked_is ports group name (Down port) shape fits has = is_below ports (value port) has
asked_is ports group name (Up port) shape fits has = is_below ports (value port) has

-- an external that has no cause meets the rules
pub new_external : (s : Standing) (group : Number) (name : List ℕ) (a : Ask) → IsWell (External group name a) → first_of (table s (External group name a)) ≡ None →
    IsExternal (case_of s).header (last_group 0 s.feed) (record { group = value group; router = number_at s name; input = input_of a })
new_external s group name a shape free =
    let range = free_test (not (below s.groups group && ask_fits a)) cause.Range _ free in
    let unknown = free_test (not (is_known s name)) cause.Name _ range.1 in
    let order = free_test (nat_lt (value group) (last_group 0 s.feed)) cause.Order _ unknown.1 in
    let port = free_test (lacks_port (ports_at s name) a) cause.Port _ order.1 in
    let ranges = both (below s.groups group) (ask_fits a) (held _ range.0) in
    let known = held (is_known s name) unknown.0 in
    let i = known_is (number_of s.routers name) known in
    record {
      rises = is_above (value group) (last_group 0 s.feed) order.0;
      group = under s.groups group ranges.0;
      router = (numbered s.routers name _ i).inside;
      asked = subst (λ (n : ℕ). IsAsked n (input_of a)) (port_is s name known) (asked_is (ports_at s name) group name a shape ranges.1 port.0);
    }

external_sound : (s : Standing) (group : Number) (name : List ℕ) (a : Ask) → IsRecording (case_of s) → IsWell (External group name a) → first_of (table s (External group name a)) ≡ None → Sound place.External (case_of (after s (External group name a)))
external_sound s group name a h shape free =
    let x : ExternalDef = record { group = value group; router = number_at s name; input = input_of a } in
    record { header = h.header; feed = externals_more (case_of s).header 0 s.feed x h.feed (new_external s group name a shape free) }

-- ---- a line, and lines

after_sound : (s : Standing) (l : Line) → may_follow s.place (place_of l) ≡ true → IsWell l → first_of (table s l) ≡ None → Sound s.place (case_of s) → Sound (after s l).place (case_of (after s l))
after_sound s (Version n) m w free h = (let b = before_version s.place (case_of s) m h in record { routers = b.routers; links = b.links; feed = b.feed })
after_sound s (Period n) m w free h =
    let b = before_period s.place (case_of s) m h in
    let range = free_test (not (between 1 1000000 n)) cause.Range _ free in
    (record { routers = b.routers; links = b.links; feed = b.feed }, in_range 1 1000000 n (held _ range.0))
after_sound s (Groups n) m w free h =
    let b = before_groups s.place (case_of s) m h in
    let range = free_test (not (between 1 4096 n)) cause.Range _ free in
    (record { routers = b.0.routers; links = b.0.links; feed = b.0.feed }, b.1, in_range 1 4096 n (held _ range.0))
after_sound s (Seed n) m w free h =
    let b = before_seed s.place (case_of s) m h in
    let range = free_test (not (below (2 ^ 64) n)) cause.Range _ free in
    (record { routers = b.0.routers; links = b.0.links; feed = b.0.feed }, b.1, b.2, under (2 ^ 64) n (held _ range.0))
after_sound s (Router name k) m w free h = router_sound s name k (before_router s.place (case_of s) m h) w free
after_sound s (Link a b delay cost) m w free h = link_sound s a b delay cost (before_link s.place (case_of s) m h) free
after_sound s (Prefix name net cost) m w free h = prefix_sound s name net cost (before_prefix s.place (case_of s) m h) free
after_sound s Feed m w free h = before_feed s.place (case_of s) m h
after_sound s (External group name a) m w free h = external_sound s group name a (before_external s.place (case_of s) m h) w free
after_sound s End m w free h = before_end s.place (case_of s) m h

pub read_sound : (s : Standing) (text : List ℕ) (t : Standing) → read_line s text ≡ Ok t → Sound s.place (case_of s) → Sound t.place (case_of t)
read_sound s text t e h =
    let k = is_taken s text t e in
    subst (λ (u : Standing). Sound u.place (case_of u)) (sym k.is) (after_sound s k.line k.follows (well text k.line k.shape) k.free h)

pub leads_sound : (ls : List (List ℕ)) (s t : Standing) → Leads s ls t → Sound s.place (case_of s) → Sound t.place (case_of t)
leads_sound [] s t h k = subst (λ (u : Standing). Sound u.place (case_of u)) h k
leads_sound (text ∷ ls) s t h k = leads_sound ls h.0 t h.2 (read_sound s text h.0 h.1 k)

pub start_sound : Sound start.place (case_of start)
start_sound = record { routers = refl; links = refl; feed = refl }
