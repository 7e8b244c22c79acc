-- Headers and cases as plain data, and the rules that they meet.
use Rattle.std.specs.Prelude.{◌≡◌, ◌≢◌, ℕ, ◌<◌, ◌≤◌, ◌^◌, List, [], ◌∷◌, ◌++◌, length, None, IsTrue}
use Rattle.std.specs.List.{AllByRecursion}
use Rattle.dn_guest.specs.declared.input.Input.{Input}
use Rattle.dn_guest.specs.declared.input.Input.TheVariants as input
use Rattle.dn_model.specs.declared.router.RouterDef.{RouterDef}
use Rattle.dn_model.specs.declared.link.Link.{Link}
use Rattle.dn_model.specs.declared.feed.External.{External}
use Rattle.dn_model.specs.declared.timing.Timing.{Timing}
use Rattle.dn_model.specs.Names.{is_name}
use Rattle.dn_model.specs.Kinds.{ArePrefixes}
use Rattle.dn_model.specs.Routers.{number_of}
use Rattle.dn_model.specs.Links.{ports_of}

-- a header as plain data
pub record Heading : Type 0 where
  pub period : ℕ
  pub groups : ℕ
  pub seed : ℕ
  pub routers : List RouterDef
  pub links : List Link

-- a case as plain data: what a run is given, and what repeats it
pub record Recording : Type 0 where
  pub header : Heading
  pub feed : List External

-- what the keys of messages hang on
abbrev pub timing_of : Heading → Timing
timing_of h = record { period = h.period; groups = h.groups; seed = h.seed }

-- ---- routers

-- the rules of a router, behind those before it
pub record IsRouter (before : List RouterDef) (r : RouterDef) : Type 0 where
  pub named : IsTrue (is_name r.name)
  -- no router before it has its name
  pub apart : number_of before r.name ≡ None
  pub few_prefixes : length r.prefixes ≤ 32
  pub prefixes : ArePrefixes r.kind [] r.prefixes

abbrev pub AreRouters : List RouterDef → List RouterDef → Type 0
AreRouters before [] = Unit {0}
AreRouters before (r ∷ rs) = IsRouter before r × AreRouters (before ++ r ∷ []) rs

-- ---- links

-- the rules of a link of so many routers, behind those before it
pub record IsLink (count : ℕ) (before : List Link) (l : Link) : Type 0 where
  pub inside : (l.a < count) × (l.b < count)
  pub differ : l.a ≢ l.b
  -- each end takes the next port of its router, of which there are at most 16
  pub a_port : l.a_port ≡ ports_of before l.a
  pub b_port : l.b_port ≡ ports_of before l.b
  pub ports : (l.a_port < 16) × (l.b_port < 16)
  pub delay : (1 ≤ l.delay) × (l.delay ≤ 1000000)
  pub cost : (1 ≤ l.cost) × (l.cost ≤ 65535)

abbrev pub AreLinks : ℕ → List Link → List Link → Type 0
AreLinks count before [] = Unit {0}
AreLinks count before (l ∷ ls) = IsLink count before l × AreLinks count (before ++ l ∷ []) ls

-- ---- headers

-- the rules of a header
pub record IsHeading (h : Heading) : Type 0 where
  pub period : (1 ≤ h.period) × (h.period ≤ 1000000)
  pub groups : (1 ≤ h.groups) × (h.groups ≤ 4096)
  pub seed : h.seed < 2 ^ 64
  pub some : 1 ≤ length h.routers
  pub few : length h.routers ≤ 64
  pub routers : AreRouters [] h.routers
  pub few_links : length h.links ≤ 256
  pub links : AreLinks (length h.routers) [] h.links

-- ---- feeds

-- what an external may ask of a router with so many ports
abbrev pub IsAsked : ℕ → Input → Type 0
IsAsked ports (input.Cmd body) = (1 ≤ length body) × (length body ≤ 255) × AllByRecursion (λ byte. byte < 256) body
IsAsked ports (input.Down port) = port < ports
IsAsked ports (input.Up port) = port < ports
IsAsked ports (input.Tick group) = ⊥
IsAsked ports (input.Msg port body) = ⊥

-- the rules of an external, behind one of this group
pub record IsExternal (h : Heading) (low : ℕ) (x : External) : Type 0 where
  pub rises : low ≤ x.group
  pub group : x.group < h.groups
  pub router : x.router < length h.routers
  pub asked : IsAsked (ports_of h.links x.router) x.input

-- the rules of a feed whose groups don't fall, from this group on
abbrev pub AreExternals : Heading → ℕ → List External → Type 0
AreExternals h low [] = Unit {0}
AreExternals h low (x ∷ xs) = IsExternal h low x × AreExternals h x.group xs

-- the rules of a case
pub record IsRecording (c : Recording) : Type 0 where
  pub header : IsHeading c.header
  pub feed : AreExternals c.header 0 c.feed
