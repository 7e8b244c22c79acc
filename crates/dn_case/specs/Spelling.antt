-- The spelling of a line: its fields, with one space between them, and a newline.
use Rattle.std.specs.Prelude.{ℕ, ◌<◌, ◌^◌, ◌/◌, ◌%◌, List, [], ◌∷◌, ◌++◌, map, codes, IsTrue}
use Rattle.std.specs.List.{join_with_byte, flat_map}
use Rattle.dn_guest.specs.Hex.{hex}
use Rattle.dn_guest.specs.declared.input.Input.{Input}
use Rattle.dn_guest.specs.declared.input.Input.TheVariants as input
use Rattle.dn_model.specs.declared.router.RouterDef.{RouterDef}
use Rattle.dn_model.specs.declared.link.Link.{Link as LinkDef}
use Rattle.dn_model.specs.declared.router.Prefix.{Prefix as PrefixDef}
use Rattle.dn_model.specs.declared.feed.External.{External as ExternalDef}
use Rattle.dn_model.specs.Cases.{Heading, Recording}
use Rattle.dn_model.specs.Routers.{name_at}
use Rattle.std.specs.Fmt.{decimal}
use Rattle.dn_model.specs.declared.router.Kind.{Kind}
use Rattle.dn_model.specs.declared.router.Kind.TheVariants as kind
use Rattle.dn_model.specs.Names.{is_name}
use Rattle.dn_text.specs.declared.decimals.Number.{Number}
use Rattle.dn_text.specs.declared.decimals.Number.TheVariants.{Is, Beyond}
use Rattle.dn_text.specs.Hexadecimals.{is_hex}
use Rattle.dn_case.specs.declared.shape.Net.{Net}
use Rattle.dn_case.specs.Shapes.{Ask, Cmd, Down, Up, Line, Version, Period, Groups, Seed, Router, Link, Prefix, Feed, External, End}

-- a number beyond u64 has no one spelling
abbrev pub digits : Number → List ℕ
digits (Is n) = decimal n
digits Beyond = []

abbrev pub IsSmall : Number → Type 0
IsSmall (Is n) = n < 2 ^ 64
IsSmall Beyond = ⊥

abbrev pub kind_word : Kind → List ℕ
kind_word kind.Flood = codes "flood"
kind_word kind.Ospf = codes "ospf"
kind_word kind.Rip = codes "rip"

abbrev pub address_text : Net → List ℕ
address_text net = join_with_byte 46 (digits net.a ∷ digits net.b ∷ digits net.c ∷ digits net.d ∷ [])

abbrev pub net_text : Net → List ℕ
net_text net = join_with_byte 47 (address_text net ∷ digits net.len ∷ [])

abbrev pub fields_of : Line → List (List ℕ)
fields_of (Version n) = codes "defined" ∷ digits n ∷ []
fields_of (Period n) = codes "period" ∷ digits n ∷ []
fields_of (Groups n) = codes "groups" ∷ digits n ∷ []
fields_of (Seed n) = codes "seed" ∷ digits n ∷ []
fields_of (Router name kind) = codes "router" ∷ name ∷ kind_word kind ∷ []
fields_of (Link a b delay cost) = codes "link" ∷ a ∷ b ∷ digits delay ∷ digits cost ∷ []
fields_of (Prefix name net cost) = codes "prefix" ∷ name ∷ net_text net ∷ digits cost ∷ []
fields_of Feed = codes "feed" ∷ []
fields_of (External group name (Cmd hex)) = (64 ∷ digits group) ∷ name ∷ codes "cmd" ∷ hex ∷ []
fields_of (External group name (Down port)) = (64 ∷ digits group) ∷ name ∷ codes "down" ∷ digits port ∷ []
fields_of (External group name (Up port)) = (64 ∷ digits group) ∷ name ∷ codes "up" ∷ digits port ∷ []
fields_of End = codes "end" ∷ []

unfoldable pub spelled : Line → List ℕ
spelled l = join_with_byte 32 (fields_of l) ++ 10 ∷ []

abbrev pub AreSmall : Net → Type 0
AreSmall net = IsSmall net.a × IsSmall net.b × IsSmall net.c × IsSmall net.d × IsSmall net.len

-- what has a spelling that is read again
abbrev pub IsSpellable : Line → Type 0
IsSpellable (Version n) = IsSmall n
IsSpellable (Period n) = IsSmall n
IsSpellable (Groups n) = IsSmall n
IsSpellable (Seed n) = IsSmall n
IsSpellable (Router name k) = IsTrue (is_name name)
IsSpellable (Link a b delay cost) = IsTrue (is_name a) × IsTrue (is_name b) × IsSmall delay × IsSmall cost
IsSpellable (Prefix name net cost) = IsTrue (is_name name) × AreSmall net × IsSmall cost
IsSpellable Feed = Unit {0}
IsSpellable (External group name (Cmd hex)) = IsSmall group × IsTrue (is_name name) × IsTrue (is_hex hex)
IsSpellable (External group name (Down port)) = IsSmall group × IsTrue (is_name name) × IsSmall port
IsSpellable (External group name (Up port)) = IsSmall group × IsTrue (is_name name) × IsSmall port
IsSpellable End = Unit {0}

-- no number of the line is beyond u64
abbrev pub IsWithin : Line → Type 0
IsWithin (Version n) = IsSmall n
IsWithin (Period n) = IsSmall n
IsWithin (Groups n) = IsSmall n
IsWithin (Seed n) = IsSmall n
IsWithin (Router name k) = Unit {0}
IsWithin (Link a b delay cost) = IsSmall delay × IsSmall cost
IsWithin (Prefix name net cost) = AreSmall net × IsSmall cost
IsWithin Feed = Unit {0}
IsWithin (External group name (Cmd hex)) = IsSmall group
IsWithin (External group name (Down port)) = IsSmall group × IsSmall port
IsWithin (External group name (Up port)) = IsSmall group × IsSmall port
IsWithin End = Unit {0}

-- ---- a case

abbrev pub router_line : RouterDef → Line
router_line r = Router r.name r.kind

abbrev pub link_line : List RouterDef → LinkDef → Line
link_line routers l = Link (name_at routers l.a) (name_at routers l.b) (Is l.delay) (Is l.cost)

abbrev pub net_of_prefix : PrefixDef → Net
net_of_prefix p = record { a = Is (p.address / 2 ^ 24); b = Is (p.address / 2 ^ 16 % 256); c = Is (p.address / 2 ^ 8 % 256); d = Is (p.address % 256); len = Is p.len }

abbrev pub prefix_line : List ℕ → PrefixDef → Line
prefix_line name p = Prefix name (net_of_prefix p) (Is p.cost)

abbrev pub prefix_lines : RouterDef → List Line
prefix_lines r = map (prefix_line r.name) r.prefixes

unfoldable pub prefixes_text : RouterDef → List ℕ
prefixes_text r = flat_map (λ p. spelled (prefix_line r.name p)) r.prefixes

-- an external's input is a command, or a port that goes down or comes up
abbrev pub IsFromOutside : Input → Type 0
IsFromOutside (input.Cmd body) = Unit {0}
IsFromOutside (input.Down port) = Unit {0}
IsFromOutside (input.Up port) = Unit {0}
IsFromOutside (input.Tick group) = ⊥
IsFromOutside (input.Msg port body) = ⊥

-- what such an input asks
abbrev pub asked_by : Input → Ask
asked_by (input.Cmd body) = Cmd (hex body)
asked_by (input.Down port) = Down (Is port)
asked_by (input.Up port) = Up (Is port)
asked_by (input.Tick group) = Cmd []
asked_by (input.Msg port body) = Cmd []

abbrev pub external_line : List RouterDef → ExternalDef → Line
external_line routers x = External (Is x.group) (name_at routers x.router) (asked_by x.input)

-- the lines before the routers
abbrev pub number_lines : Heading → List Line
number_lines h = Version (Is 1) ∷ Period (Is h.period) ∷ Groups (Is h.groups) ∷ Seed (Is h.seed) ∷ []

-- the lines of a header with these prefix lines
abbrev pub header_lines_with : Heading → List Line → List Line
header_lines_with h prefixes = number_lines h ++ (map router_line h.routers ++ (map (link_line h.routers) h.links ++ prefixes))

-- the lines of a header, the prefix lines in the order of the routers
abbrev pub header_lines : Heading → List Line
header_lines h = header_lines_with h (flat_map prefix_lines h.routers)

-- the lines of a case with these prefix lines
abbrev pub lines_with : Recording → List Line → List Line
lines_with c prefixes = header_lines_with c.header prefixes ++ (Feed ∷ (map (external_line c.header.routers) c.feed ++ (End ∷ [])))

-- the lines of a case, the prefix lines in the order of the routers
abbrev pub lines_of : Recording → List Line
lines_of c = lines_with c (flat_map prefix_lines c.header.routers)

-- the text of a case: its one spelling in which the prefix lines stand in the order of the routers
unfoldable pub case_text : Recording → List ℕ
case_text c = flat_map spelled (lines_of c)
