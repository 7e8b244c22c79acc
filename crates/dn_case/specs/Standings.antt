-- What the lines so far say, and the causes that hold for a further line.
use Rattle.std.specs.Prelude.{ℕ, zero, suc, ◌+◌, ◌*◌, ◌^◌, List, [], ◌∷◌, ◌++◌, length, Bool, true, false, ◌&&◌, ◌||◌, not, nat_eq, nat_le, nat_lt, if◌then◌else◌, Option, Some, None, is_some, unwrap_or, slice_get, Result, Ok, Err}
use Rattle.std.specs.Option.{option_map_or}
use Rattle.std.specs.Cmp.Lexicographic.{pointwise}
use Rattle.dn_guest.specs.declared.input.Input.{Input}
use Rattle.dn_guest.specs.declared.input.Input.TheVariants as input
use Rattle.dn_model.specs.declared.router.Kind.{Kind}
use Rattle.dn_model.specs.declared.router.Kind.TheVariants as kind
use Rattle.dn_model.specs.declared.router.RouterDef.{RouterDef}
use Rattle.dn_model.specs.declared.router.Prefix.{Prefix}
use Rattle.dn_model.specs.declared.feed.External.{External}
use Rattle.dn_model.specs.Kinds.{has_prefix}
use Rattle.dn_model.specs.Routers.{number_of}
use Rattle.dn_model.specs.Links.{ports_of}
use Rattle.dn_text.specs.declared.decimals.Number.{Number}
use Rattle.dn_text.specs.declared.decimals.Number.TheVariants.{Is, Beyond}
use Rattle.dn_text.specs.Hexadecimals.{unhex}
use Rattle.dn_net.specs.Networks.{is_network}
use Rattle.dn_case.specs.declared.shape.Net.{Net}
use Rattle.dn_case.specs.declared.standing.Standing.{Standing}
use Rattle.dn_case.specs.declared.place.Place.{Place}
use Rattle.dn_case.specs.declared.place.Place.TheVariants as place
use Rattle.dn_case.specs.declared.cause.Cause.{Cause}
use Rattle.dn_case.specs.declared.cause.Cause.TheVariants as cause
use Rattle.dn_case.specs.Shapes.{Ask, Line, Cmd, Down, Up, Version, Period, Groups, Seed, Router, Link as LinkLine, Prefix as PrefixLine, Feed, External as ExternalLine, End, line_of}

-- ---- the order of the lines

-- the line as a place in the text
abbrev pub place_of : Line → Place
place_of (Version n) = place.Version
place_of (Period n) = place.Period
place_of (Groups n) = place.Groups
place_of (Seed n) = place.Seed
place_of (Router name kind) = place.Router
place_of (LinkLine a b delay cost) = place.Link
place_of (PrefixLine name net cost) = place.Prefix
place_of Feed = place.Feed
place_of (ExternalLine group name wanted) = place.External
place_of End = place.End

-- which line may stand behind which
unfoldable pub may_follow : Place → Place → Bool
may_follow place.Start place.Version = true
may_follow place.Version place.Period = true
may_follow place.Period place.Groups = true
may_follow place.Groups place.Seed = true
may_follow place.Seed place.Router = true
may_follow place.Router place.Router = true
may_follow place.Router place.Link = true
may_follow place.Router place.Prefix = true
may_follow place.Router place.Feed = true
may_follow place.Link place.Link = true
may_follow place.Link place.Prefix = true
may_follow place.Link place.Feed = true
may_follow place.Prefix place.Prefix = true
may_follow place.Prefix place.Feed = true
may_follow place.Feed place.External = true
may_follow place.Feed place.End = true
may_follow place.External place.External = true
may_follow place.External place.End = true
may_follow _ _ = false

-- ---- words of the causes

abbrev pub between : ℕ → ℕ → Number → Bool
between low high (Is n) = nat_le low n && nat_le n high
between low high Beyond = false

abbrev pub value : Number → ℕ
value (Is n) = n
value Beyond = 0

abbrev pub is_known : Standing → List ℕ → Bool
is_known s name = is_some (number_of s.routers name)

-- a test of the router of a name, where there is one
abbrev pub router_is : (RouterDef → Bool) → Standing → List ℕ → Bool
router_is test s name = option_map_or (λ i. option_map_or test (slice_get s.routers i) false) (number_of s.routers name) false

-- how many ports the router of a name has
abbrev pub ports_at : Standing → List ℕ → ℕ
ports_at s name = option_map_or (λ i. ports_of s.links i) (number_of s.routers name) 0

unfoldable pub address : Net → ℕ
address net = ((value net.a * 256 + value net.b) * 256 + value net.c) * 256 + value net.d

abbrev pub net_fits : Net → Bool
net_fits net = (between 0 255 net.a && between 0 255 net.b) && ((between 0 255 net.c && between 0 255 net.d) && between 0 32 net.len)

abbrev pub is_rip : Kind → Bool
is_rip kind.Flood = false
is_rip kind.Ospf = false
is_rip kind.Rip = true

abbrev pub is_flood : Kind → Bool
is_flood kind.Flood = true
is_flood kind.Ospf = false
is_flood kind.Rip = false

-- the prefix stood before at this router
abbrev pub has_net : Net → List Prefix → Bool
has_net net prefixes = has_prefix (address net) (value net.len) prefixes

-- the address has bits past its length
unfoldable pub has_host_bits : Net → Bool
has_host_bits net = not (is_network (address net) (value net.len))

-- the group of the last external, or this one where there is none
abbrev pub last_group : ℕ → List External → ℕ
last_group low [] = low
last_group low (x ∷ feed) = last_group x.group feed

abbrev pub below : ℕ → Number → Bool
below high (Is n) = nat_lt n high
below high Beyond = false

-- what is asked is in range; a command has two digits a byte
abbrev pub ask_fits : Ask → Bool
ask_fits (Cmd hex) = nat_le (length hex) (2 * 255)
ask_fits (Down port) = between 0 15 port
ask_fits (Up port) = between 0 15 port

-- ---- the causes, each by itself

-- the first line is `defined N` with another number
abbrev pub is_version : Standing → Line → Bool
is_version s (Version n) = not (between 1 1 n)
is_version s _ = false

-- a number is outside its range
abbrev pub is_range : Standing → Line → Bool
is_range s (Period n) = not (between 1 1000000 n)
is_range s (Groups n) = not (between 1 4096 n)
is_range s (Seed n) = not (below (2 ^ 64) n)
is_range s (LinkLine a b delay cost) = not (between 1 1000000 delay && between 1 65535 cost)
is_range s (PrefixLine name net cost) = not (net_fits net && between 1 65535 cost) || router_is (λ r. is_rip r.kind && not (between 1 15 cost)) s name
is_range s (ExternalLine group name wanted) = not (below s.groups group && ask_fits wanted)
is_range s _ = false

-- a router's name isn't known
abbrev pub is_unknown : Standing → Line → Bool
is_unknown s (LinkLine a b delay cost) = not (is_known s a && is_known s b)
is_unknown s (PrefixLine name net cost) = not (is_known s name)
is_unknown s (ExternalLine group name wanted) = not (is_known s name)
is_unknown s _ = false

-- a link has one router at both ends
abbrev pub is_same : Standing → Line → Bool
is_same s (LinkLine a b delay cost) = pointwise nat_eq a b
is_same s _ = false

-- a router's name, or a prefix at one router, stood before
abbrev pub is_twice : Standing → Line → Bool
is_twice s (Router name kind) = is_known s name
is_twice s (PrefixLine name net cost) = router_is (λ r. has_net net r.prefixes) s name
is_twice s _ = false

-- a prefix is at a flooding router
abbrev pub is_kind : Standing → Line → Bool
is_kind s (PrefixLine name net cost) = router_is (λ r. is_flood r.kind) s name
is_kind s _ = false

-- an address has bits past its length
abbrev pub is_host : Standing → Line → Bool
is_host s (PrefixLine name net cost) = has_host_bits net
is_host s _ = false

-- the 65th router, the 257th link, a 17th port, or a 33rd prefix of a router
abbrev pub is_many : Standing → Line → Bool
is_many s (Router name kind) = nat_le 64 (length s.routers)
is_many s (LinkLine a b delay cost) = nat_le 256 (length s.links) || (nat_le 16 (ports_at s a) || nat_le 16 (ports_at s b))
is_many s (PrefixLine name net cost) = router_is (λ r. nat_le 32 (length r.prefixes)) s name
is_many s _ = false

-- an external's group is below that of the one before
abbrev pub is_order : Standing → Line → Bool
is_order s (ExternalLine group name wanted) = nat_lt (value group) (last_group 0 s.feed)
is_order s _ = false

abbrev pub lacks_port : ℕ → Ask → Bool
lacks_port ports (Cmd hex) = false
lacks_port ports (Down port) = nat_le ports (value port)
lacks_port ports (Up port) = nat_le ports (value port)

-- the port isn't a port of that router
abbrev pub is_port : Standing → Line → Bool
is_port s (ExternalLine group name wanted) = lacks_port (ports_at s name) wanted
is_port s _ = false

-- the table of causes, in its order, behind Ended and Syntax
abbrev pub table : Standing → Line → List (Bool × Cause)
table s l = (is_version s l, cause.Version) ∷ (is_range s l, cause.Range) ∷ (is_unknown s l, cause.Name) ∷ (is_same s l, cause.Same) ∷ (is_twice s l, cause.Twice) ∷ (is_kind s l, cause.Kind) ∷ (is_host s l, cause.Host) ∷ (is_many s l, cause.Many) ∷ (is_order s l, cause.Order) ∷ (is_port s l, cause.Port) ∷ []

-- the first cause that holds
abbrev pub first_of : List (Bool × Cause) → Option Cause
first_of [] = None
first_of (x ∷ rest) = if x.0 then Some x.1 else first_of rest

-- ---- what stands with one more line

abbrev pub number_at : Standing → List ℕ → ℕ
number_at s name = unwrap_or (number_of s.routers name) 0

abbrev pub input_of : Ask → Input
input_of (Cmd hex) = input.Cmd (unwrap_or (unhex hex) [])
input_of (Down port) = input.Down (value port)
input_of (Up port) = input.Up (value port)

abbrev pub and_prefix : RouterDef → Prefix → RouterDef
and_prefix r p = record { name = r.name; kind = r.kind; prefixes = r.prefixes ++ p ∷ [] }

-- one more prefix of a router
unfoldable pub with_prefix : List RouterDef → ℕ → Prefix → List RouterDef
with_prefix [] i p = []
with_prefix (r ∷ rs) zero p = and_prefix r p ∷ rs
with_prefix (r ∷ rs) (suc i) p = r ∷ with_prefix rs i p

abbrev pub after : Standing → Line → Standing
after s (Version n) = record s { place = place.Version }
after s (Period n) = record s { place = place.Period; period = value n }
after s (Groups n) = record s { place = place.Groups; groups = value n }
after s (Seed n) = record s { place = place.Seed; seed = value n }
after s (Router name kind) = record s { place = place.Router; routers = s.routers ++ record { name = name; kind = kind; prefixes = [] } ∷ [] }
after s (LinkLine a b delay cost) = record s { place = place.Link; links = s.links ++ record { a = number_at s a; a_port = ports_at s a; b = number_at s b; b_port = ports_at s b; delay = value delay; cost = value cost } ∷ [] }
after s (PrefixLine name net cost) = record s { place = place.Prefix; routers = with_prefix s.routers (number_at s name) (record { address = address net; len = value net.len; cost = value cost }) }
after s Feed = record s { place = place.Feed }
after s (ExternalLine group name wanted) = record s { place = place.External; feed = s.feed ++ record { group = value group; router = number_at s name; input = input_of wanted } ∷ [] }
after s End = record s { place = place.End }

-- ---- a line of a shape, and a line of the text

abbrev pub verdict : Option Cause → Standing → Result Standing Cause
verdict None s = Ok s
verdict (Some c) s = Err c

abbrev pub taken : Standing → Line → Result Standing Cause
taken s l = verdict (first_of (table s l)) (after s l)

abbrev pub judged : Standing → Option Line → Result Standing Cause
judged s None = Err cause.Syntax
judged s (Some l) = if may_follow s.place (place_of l) then taken s l else Err cause.Syntax

-- the line makes of what stands so far, or has the cause
abbrev pub read_line : Standing → List ℕ → Result Standing Cause
read_line s text = judged s (line_of text)

-- the causes of a prefix that depend on its router, where its numbers fit
abbrev pub cause_at : RouterDef → Net → Number → Option Cause
cause_at r net cost =
    first_of ((is_rip r.kind && not (between 1 15 cost), cause.Range) ∷ (has_net net r.prefixes, cause.Twice) ∷ (is_flood r.kind, cause.Kind) ∷ (has_host_bits net, cause.Host) ∷ (nat_le 32 (length r.prefixes), cause.Many) ∷ [])

-- before the first line
abbrev pub start : Standing
start = record { place = place.Start; period = 0; groups = 0; seed = 0; routers = []; links = []; feed = [] }

abbrev pub is_end : Place → Bool
is_end place.End = true
is_end _ = false
