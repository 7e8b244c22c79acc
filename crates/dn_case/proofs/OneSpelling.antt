-- Two texts of one case differ only in the order of the prefix lines of different routers.
use Rattle.std.proofs.Common.{◌≡◌, ℕ, ◌+◌, ◌*◌, ◌/◌, ◌%◌, ◌<◌, ◌≤◌, ◌^◌, zero, suc, Bool, true, false, cond, not, ◌&&◌, ◌||◌, nat_eq, List, [], ◌∷◌, ◌++◌, length, map, get_or, Option, Some, None, Ok, refl, sym, ap, subst, ◌∙◌, append_assoc, arith}
use Rattle.std.specs.Prelude.{is_some}
use Rattle.std.specs.List.{filter, AllByRecursion}
use Rattle.std.specs.Option.{option_map_or}
use Rattle.std.specs.Cmp.Lexicographic.{pointwise, bytes_decides}
use Rattle.std.proofs.lemmas.List.{append-nil, map-append}
use Rattle.std.proofs.lemmas.List.Elements.{filter-append}
use Rattle.std.proofs.lemmas.List.Quantifiers.{position-Some}
use Rattle.dn_model.specs.declared.router.RouterDef.{RouterDef}
use Rattle.dn_model.specs.declared.router.Kind.{Kind}
use Rattle.dn_model.specs.declared.router.Prefix.{Prefix as PrefixDef}
use Rattle.dn_model.specs.declared.link.Link.{Link as LinkDef}
use Rattle.dn_model.specs.Routers.{number_of, name_at}
use Rattle.dn_model.specs.Cases.{Recording}
use Rattle.dn_text.specs.declared.decimals.Number.{Number}
use Rattle.dn_text.specs.declared.decimals.Number.TheVariants.{Is, Beyond}
use Rattle.dn_case.specs.declared.shape.Net.{Net}
use Rattle.dn_case.specs.declared.standing.Standing.{Standing}
use Rattle.dn_case.specs.declared.place.Place.{Place}
use Rattle.dn_case.specs.declared.place.Place.TheVariants as place
use Rattle.dn_case.specs.declared.cause.Cause.TheVariants as cause
use Rattle.dn_case.specs.Shapes.{Ask, Line, Version, Period, Groups, Seed, Router, Link, Prefix, Feed, External, End, is_word, line_of}
use Rattle.dn_case.specs.Spelling.{IsSmall, AreSmall, IsWithin, spelled, router_line, link_line, net_of_prefix, prefix_line, prefix_lines, external_line}
use Rattle.dn_case.specs.Standings.{place_of, may_follow, between, below, value, is_known, is_rip, router_is, net_fits, address, with_prefix, number_at, ports_at, first_of, table, after, read_line, start}
use Rattle.dn_case.specs.Reading.{Leads, case_of, IsCaseText}
use Rattle.dn_case.specs.Orders.{prefix_name, is_other, is_prefix_of, other_lines, prefix_lines_of}
use Rattle.dn_case.proofs.ExternalLines.{external_within, new_of, line_again}
use Rattle.dn_case.proofs.ReadLines.{read_spelled}
use Rattle.dn_case.proofs.RouterLaws.{nobody, numbered}
use Rattle.dn_case.proofs.Sound.{Sound, IsBare, before_version, before_period, before_groups, before_seed, before_external, read_sound, start_sound}
use Rattle.dn_case.proofs.Taken.{is_taken, IsWell, well, free_test, held, both, neither, in_range, under, known_is}

-- ---- numbers in their ranges

between_is : (low high : ℕ) (n : Number) → between low high n ≡ true → Is (value n) ≡ n
between_is low high (Is n) e = refl
between_is low high Beyond e = absurd cc

between_small : (low high : ℕ) (n : Number) → between low high n ≡ true → high < 2 ^ 64 → IsSmall n
between_small low high (Is n) e small = (let k = in_range low high (Is n) e in omega (arith, k.1, small))
between_small low high Beyond e small = absurd cc

below_is : (n : Number) → below (2 ^ 64) n ≡ true → Is (value n) ≡ n
below_is (Is n) e = refl
below_is Beyond e = absurd cc

below_small : (n : Number) → below (2 ^ 64) n ≡ true → IsSmall n
below_small (Is n) e = under (2 ^ 64) (Is n) e
below_small Beyond e = absurd cc

one_is : (n : Number) → between 1 1 n ≡ true → n ≡ Is 1
one_is n e =
    let k = in_range 1 1 n e in
    let one : value n ≡ 1 = omega (arith, k.0, k.1) in
    sym (between_is 1 1 n e) ∙ ap Is one

record IsNet (net : Net) : Type 0 where
  small : AreSmall net
  is : net_of_prefix (record { address = address net; len = value net.len; cost = 0 }) ≡ net

first_byte : (a b c d : ℕ) → a ≤ 255 → b ≤ 255 → c ≤ 255 → d ≤ 255 → (((a * 256 + b) * 256 + c) * 256 + d) / 2 ^ 24 ≡ a
first_byte a b c d p q r s = omega arith

second_byte : (a b c d : ℕ) → a ≤ 255 → b ≤ 255 → c ≤ 255 → d ≤ 255 → (((a * 256 + b) * 256 + c) * 256 + d) / 2 ^ 16 % 256 ≡ b
second_byte a b c d p q r s = omega arith

third_byte : (a b c d : ℕ) → a ≤ 255 → b ≤ 255 → c ≤ 255 → d ≤ 255 → (((a * 256 + b) * 256 + c) * 256 + d) / 2 ^ 8 % 256 ≡ c
third_byte a b c d p q r s = omega arith

fourth_byte : (a b c d : ℕ) → d ≤ 255 → (((a * 256 + b) * 256 + c) * 256 + d) % 256 ≡ d
fourth_byte a b c d s = omega arith

net_same : (net : Net) (a b c d len : Number) → a ≡ net.a → b ≡ net.b → c ≡ net.c → d ≡ net.d → len ≡ net.len → record { a = a; b = b; c = c; d = d; len = len } ≡ net
net_same net a b c d len p q r s t = rw (p, q, r, s, t) refl

is_net : (net : Net) → net_fits net ≡ true → IsNet net
unfolding address
is_net net fits =
    let k = both (between 0 255 net.a && between 0 255 net.b) _ fits in
    let l = both (between 0 255 net.c && between 0 255 net.d) (between 0 32 net.len) k.1 in
    let x = both (between 0 255 net.a) (between 0 255 net.b) k.0 in
    let y = both (between 0 255 net.c) (between 0 255 net.d) l.0 in
    let a = (in_range 0 255 net.a x.0).1 in
    let b = (in_range 0 255 net.b x.1).1 in
    let c = (in_range 0 255 net.c y.0).1 in
    let d = (in_range 0 255 net.d y.1).1 in
    record {
      small = (between_small 0 255 net.a x.0 (omega arith), between_small 0 255 net.b x.1 (omega arith), between_small 0 255 net.c y.0 (omega arith), between_small 0 255 net.d y.1 (omega arith), between_small 0 32 net.len l.1 (omega arith));
      is =
          net_same net _ _ _ _ _
          (ap Is (first_byte (value net.a) (value net.b) (value net.c) (value net.d) a b c d) ∙ between_is 0 255 net.a x.0)
          (ap Is (second_byte (value net.a) (value net.b) (value net.c) (value net.d) a b c d) ∙ between_is 0 255 net.b x.1)
          (ap Is (third_byte (value net.a) (value net.b) (value net.c) (value net.d) a b c d) ∙ between_is 0 255 net.c y.0)
          (ap Is (fourth_byte (value net.a) (value net.b) (value net.c) (value net.d) d) ∙ between_is 0 255 net.d y.1)
          (between_is 0 32 net.len l.1);
    }

-- ---- the lines so far, without the prefix lines

abbrev pub number_lines_at : Place → Recording → List Line
number_lines_at place.Start c = []
number_lines_at place.Version c = Version (Is 1) ∷ []
number_lines_at place.Period c = Version (Is 1) ∷ Period (Is c.header.period) ∷ []
number_lines_at place.Groups c = Version (Is 1) ∷ Period (Is c.header.period) ∷ Groups (Is c.header.groups) ∷ []
number_lines_at _ c = Version (Is 1) ∷ Period (Is c.header.period) ∷ Groups (Is c.header.groups) ∷ Seed (Is c.header.seed) ∷ []

abbrev pub feed_lines_at : Place → Recording → List Line
feed_lines_at place.Feed c = Feed ∷ map (external_line c.header.routers) c.feed
feed_lines_at place.External c = Feed ∷ map (external_line c.header.routers) c.feed
feed_lines_at place.End c = Feed ∷ (map (external_line c.header.routers) c.feed ++ End ∷ [])
feed_lines_at _ c = []

-- the lines of so much of a case, up to a place
abbrev pub plain : Place → Recording → List Line
plain p c = number_lines_at p c ++ (map router_line c.header.routers ++ (map (link_line c.header.routers) c.header.links ++ feed_lines_at p c))

abbrev pub plain_of : Standing → List Line
plain_of s = plain s.place (case_of s)

-- the line, where it isn't a prefix line
abbrev pub kept : Line → List Line
kept (Prefix name net cost) = []
kept l = l ∷ []

bare_is : (n : List Line) (rs : List RouterDef) (ls : List LinkDef) → rs ≡ [] → ls ≡ [] → n ++ (map router_line rs ++ (map (link_line rs) ls ++ [])) ≡ n
bare_is n rs ls r l = rw (r, l) (append-nil n)

is_start : (p : Place) → may_follow p place.Version ≡ true → p ≡ place.Start
unfolding may_follow
is_start place.Start m = refl
is_start _ m = absurd cc

is_version : (p : Place) → may_follow p place.Period ≡ true → p ≡ place.Version
unfolding may_follow
is_version place.Version m = refl
is_version _ m = absurd cc

is_period : (p : Place) → may_follow p place.Groups ≡ true → p ≡ place.Period
unfolding may_follow
is_period place.Period m = refl
is_period _ m = absurd cc

is_groups : (p : Place) → may_follow p place.Seed ≡ true → p ≡ place.Groups
unfolding may_follow
is_groups place.Groups m = refl
is_groups _ m = absurd cc

-- one line behind the lines before the routers
number_more : (s : Standing) (p : Place) (n : List Line) (l : Line) → s.place ≡ p → number_lines_at p (case_of s) ≡ n → feed_lines_at p (case_of s) ≡ [] → IsBare (case_of s) → n ++ l ∷ [] ≡ plain_of s ++ l ∷ []
number_more s p n l at numbers none bare =
    let here : plain_of s ≡ plain p (case_of s) = ap (λ q. plain q (case_of s)) at in
    let is : plain p (case_of s) ≡ n = rw (numbers, none) (bare_is n s.routers s.links bare.routers bare.links) in
    ap (λ (x : List Line). x ++ l ∷ []) (sym (here ∙ is))

version_plain : (s : Standing) (n : Number) → may_follow s.place place.Version ≡ true → n ≡ Is 1 → IsBare (case_of s) → plain_of (after s (Version n)) ≡ plain_of s ++ Version n ∷ []
version_plain s n m is bare =
    bare_is (Version (Is 1) ∷ []) s.routers s.links bare.routers bare.links ∙ ap (λ n. Version n ∷ []) (sym is) ∙ number_more s place.Start [] (Version n) (is_start s.place m) refl refl bare

period_plain : (s : Standing) (n : Number) → may_follow s.place place.Period ≡ true → Is (value n) ≡ n → IsBare (case_of s) → plain_of (after s (Period n)) ≡ plain_of s ++ Period n ∷ []
period_plain s n m is bare =
    let before = Version (Is 1) ∷ [] in
    bare_is (before ++ Period (Is (value n)) ∷ []) s.routers s.links bare.routers bare.links ∙ ap (λ n. before ++ Period n ∷ []) is ∙ number_more s place.Version before (Period n) (is_version s.place m) refl refl bare

groups_plain : (s : Standing) (n : Number) → may_follow s.place place.Groups ≡ true → Is (value n) ≡ n → IsBare (case_of s) → plain_of (after s (Groups n)) ≡ plain_of s ++ Groups n ∷ []
groups_plain s n m is bare =
    let before = Version (Is 1) ∷ Period (Is s.period) ∷ [] in
    bare_is (before ++ Groups (Is (value n)) ∷ []) s.routers s.links bare.routers bare.links ∙ ap (λ n. before ++ Groups n ∷ []) is ∙ number_more s place.Period before (Groups n) (is_period s.place m) refl refl bare

seed_plain : (s : Standing) (n : Number) → may_follow s.place place.Seed ≡ true → Is (value n) ≡ n → IsBare (case_of s) → plain_of (after s (Seed n)) ≡ plain_of s ++ Seed n ∷ []
seed_plain s n m is bare =
    let before = Version (Is 1) ∷ Period (Is s.period) ∷ Groups (Is s.groups) ∷ [] in
    bare_is (before ++ Seed (Is (value n)) ∷ []) s.routers s.links bare.routers bare.links ∙ ap (λ n. before ++ Seed n ∷ []) is ∙ number_more s place.Groups before (Seed n) (is_groups s.place m) refl refl bare

-- ---- behind the numbers

-- the four numbers stand, and no line of the feed
pub record IsHead (p : Place) : Type 0 where
  pub numbers : (c : Recording) → number_lines_at p c ≡ number_lines_at place.Seed c
  pub none : (c : Recording) → feed_lines_at p c ≡ []

head_router : (p : Place) → may_follow p place.Router ≡ true → IsHead p
unfolding may_follow
head_router place.Seed m = record { numbers = λ c. refl; none = λ c. refl }
head_router place.Router m = record { numbers = λ c. refl; none = λ c. refl }
head_router _ m = absurd cc

head_link : (p : Place) → may_follow p place.Link ≡ true → IsHead p
unfolding may_follow
head_link place.Router m = record { numbers = λ c. refl; none = λ c. refl }
head_link place.Link m = record { numbers = λ c. refl; none = λ c. refl }
head_link _ m = absurd cc

pub head_prefix : (p : Place) → may_follow p place.Prefix ≡ true → IsHead p
unfolding may_follow
head_prefix place.Router m = record { numbers = λ c. refl; none = λ c. refl }
head_prefix place.Link m = record { numbers = λ c. refl; none = λ c. refl }
head_prefix place.Prefix m = record { numbers = λ c. refl; none = λ c. refl }
head_prefix _ m = absurd cc

pub head_feed : (p : Place) → may_follow p place.Feed ≡ true → IsHead p
unfolding may_follow
head_feed place.Router m = record { numbers = λ c. refl; none = λ c. refl }
head_feed place.Link m = record { numbers = λ c. refl; none = λ c. refl }
head_feed place.Prefix m = record { numbers = λ c. refl; none = λ c. refl }
head_feed _ m = absurd cc

-- the lines before the feed
abbrev head : Recording → List Line
head c = number_lines_at place.Seed c ++ (map router_line c.header.routers ++ (map (link_line c.header.routers) c.header.links ++ []))

head_is : (s : Standing) → IsHead s.place → plain_of s ≡ head (case_of s)
head_is s h = rw (h.numbers (case_of s), h.none (case_of s)) refl

no_links_yet : (p : Place) (c : Recording) → may_follow p place.Router ≡ true → Sound p c → c.header.links ≡ []
unfolding may_follow
no_links_yet place.Seed c m h = h.0.links
no_links_yet place.Router c m h = h.1
no_links_yet _ c m h = absurd cc

pub no_feed_yet : (p : Place) (c : Recording) → may_follow p place.Feed ≡ true → Sound p c → c.feed ≡ []
unfolding may_follow
no_feed_yet place.Router c m h = h.2
no_feed_yet place.Link c m h = h.1
no_feed_yet place.Prefix c m h = h.1
no_feed_yet _ c m h = absurd cc

router_last : (n r : List Line) (l : Line) → n ++ ((r ++ l ∷ []) ++ []) ≡ (n ++ (r ++ [])) ++ l ∷ []
router_last n r l = rw (append-nil (r ++ l ∷ []), append-nil r) (sym (append_assoc n r (l ∷ [])))

link_last : (n r k : List Line) (l : Line) → n ++ (r ++ ((k ++ l ∷ []) ++ [])) ≡ (n ++ (r ++ (k ++ []))) ++ l ∷ []
link_last n r k l = rw (append-nil (k ++ l ∷ []), append-nil k) (ap (λ (x : List Line). n ++ x) (sym (append_assoc r k (l ∷ []))) ∙ sym (append_assoc n (r ++ k) (l ∷ [])))

feed_last : (n r k f : List Line) (l : Line) → n ++ (r ++ (k ++ (f ++ l ∷ []))) ≡ (n ++ (r ++ (k ++ f))) ++ l ∷ []
feed_last n r k f l =
    ap (λ (x : List Line). n ++ (r ++ x)) (sym (append_assoc k f (l ∷ []))) ∙ ap (λ (x : List Line). n ++ x) (sym (append_assoc r (k ++ f) (l ∷ []))) ∙ sym (append_assoc n (r ++ (k ++ f)) (l ∷ []))

router_plain : (s : Standing) (name : List ℕ) (k : Kind) → may_follow s.place place.Router ≡ true → Sound s.place (case_of s) → plain_of (after s (Router name k)) ≡ plain_of s ++ Router name k ∷ []
router_plain s name k m h =
    let r : RouterDef = record { name = name; kind = k; prefixes = [] } in
    let none = no_links_yet s.place (case_of s) m h in
    let n = number_lines_at place.Seed (case_of s) in
    let now : plain_of (after s (Router name k)) ≡ n ++ ((map router_line s.routers ++ Router name k ∷ []) ++ []) = rw (none, map-append router_line s.routers (r ∷ [])) refl in
    let was : plain_of s ≡ n ++ (map router_line s.routers ++ []) = head_is s (head_router s.place m) ∙ rw none refl in
    now ∙ router_last n (map router_line s.routers) (Router name k) ∙ ap (λ (x : List Line). x ++ Router name k ∷ []) (sym was)

abbrev new_link : Standing → List ℕ → List ℕ → Number → Number → LinkDef
new_link s a b delay cost = record { a = number_at s a; a_port = ports_at s a; b = number_at s b; b_port = ports_at s b; delay = value delay; cost = value cost }

link_plain : (s : Standing) (a b : List ℕ) (delay cost : Number) → may_follow s.place place.Link ≡ true → link_line s.routers (new_link s a b delay cost) ≡ Link a b delay cost → plain_of (after s (Link a b delay cost)) ≡ plain_of s ++ Link a b delay cost ∷ []
link_plain s a b delay cost m is =
    let l = new_link s a b delay cost in
    let n = number_lines_at place.Seed (case_of s) in
    let rs = map router_line s.routers in
    let k = map (link_line s.routers) s.links in
    let now : plain_of (after s (Link a b delay cost)) ≡ n ++ (rs ++ ((k ++ Link a b delay cost ∷ []) ++ [])) = rw (map-append (link_line s.routers) s.links (l ∷ []), is) refl in
    now ∙ link_last n rs k (Link a b delay cost) ∙ ap (λ (x : List Line). x ++ Link a b delay cost ∷ []) (sym (head_is s (head_link s.place m)))

feed_plain : (s : Standing) → may_follow s.place place.Feed ≡ true → Sound s.place (case_of s) → plain_of (after s Feed) ≡ plain_of s ++ Feed ∷ []
feed_plain s m h =
    let none = no_feed_yet s.place (case_of s) m h in
    let n = number_lines_at place.Seed (case_of s) in
    let rs = map router_line s.routers in
    let k = map (link_line s.routers) s.links in
    let now : plain_of (after s Feed) ≡ n ++ (rs ++ (k ++ ([] ++ Feed ∷ []))) = rw none refl in
    now ∙ feed_last n rs k [] Feed ∙ ap (λ (x : List Line). x ++ Feed ∷ []) (sym (head_is s (head_feed s.place m)))

-- ---- behind the line of the feed

pub record IsFed (p : Place) : Type 0 where
  pub numbers : (c : Recording) → number_lines_at p c ≡ number_lines_at place.Seed c
  pub lines : (c : Recording) → feed_lines_at p c ≡ feed_lines_at place.Feed c

pub fed_external : (p : Place) → may_follow p place.External ≡ true → IsFed p
unfolding may_follow
fed_external place.Feed m = record { numbers = λ c. refl; lines = λ c. refl }
fed_external place.External m = record { numbers = λ c. refl; lines = λ c. refl }
fed_external _ m = absurd cc

pub fed_end : (p : Place) → may_follow p place.End ≡ true → IsFed p
unfolding may_follow
fed_end place.Feed m = record { numbers = λ c. refl; lines = λ c. refl }
fed_end place.External m = record { numbers = λ c. refl; lines = λ c. refl }
fed_end _ m = absurd cc

fed_is : (s : Standing) → IsFed s.place → plain_of s ≡ plain place.Feed (case_of s)
fed_is s h = rw (h.numbers (case_of s), h.lines (case_of s)) refl

external_plain : (s : Standing) (group : Number) (name : List ℕ) (a : Ask) → may_follow s.place place.External ≡ true → external_line s.routers (new_of s group name a) ≡ External group name a →
    plain_of (after s (External group name a)) ≡ plain_of s ++ External group name a ∷ []
external_plain s group name a m is =
    let x = new_of s group name a in
    let l = External group name a in
    let n = number_lines_at place.Seed (case_of s) in
    let rs = map router_line s.routers in
    let k = map (link_line s.routers) s.links in
    let f = Feed ∷ map (external_line s.routers) s.feed in
    let now : plain_of (after s l) ≡ n ++ (rs ++ (k ++ (f ++ l ∷ []))) = rw (map-append (external_line s.routers) s.feed (x ∷ []), is) refl in
    now ∙ feed_last n rs k f l ∙ ap (λ (y : List Line). y ++ l ∷ []) (sym (fed_is s (fed_external s.place m)))

end_plain : (s : Standing) → may_follow s.place place.End ≡ true → plain_of (after s End) ≡ plain_of s ++ End ∷ []
end_plain s m =
    let n = number_lines_at place.Seed (case_of s) in
    let rs = map router_line s.routers in
    let k = map (link_line s.routers) s.links in
    let f = Feed ∷ map (external_line s.routers) s.feed in
    feed_last n rs k f End ∙ ap (λ (y : List Line). y ++ End ∷ []) (sym (fed_is s (fed_end s.place m)))

-- ---- the prefix lines so far

-- the prefix lines of the router of a name
abbrev pub owned : List RouterDef → List ℕ → List Line
owned [] name = []
owned (r ∷ rs) name = cond (is_word name r.name) (prefix_lines r) (owned rs name)

-- the line, where it is a prefix line of that name
abbrev pub own : List ℕ → Line → List Line
own name (Prefix n net cost) = cond (is_word name n) (Prefix n net cost ∷ []) []
own name _ = []

same_both : (b : Bool) (x : List Line) → cond b x x ≡ x
same_both true x = refl
same_both false x = refl

owned_bare : (rs : List RouterDef) (r : RouterDef) (name : List ℕ) → r.prefixes ≡ [] → owned (rs ++ r ∷ []) name ≡ owned rs name
owned_bare [] r name none = ap (λ (ps : List PrefixDef). cond (is_word name r.name) (map (prefix_line r.name) ps) []) none ∙ same_both (is_word name r.name) []
owned_bare (q ∷ rs) r name none = ap (λ (x : List Line). cond (is_word name q.name) (prefix_lines q) x) (owned_bare rs r name none)

at_here : (b : Bool) (x o : List Line) (l : Line) → cond b (x ++ l ∷ []) o ≡ cond b x o ++ cond b (l ∷ []) []
at_here true x o l = refl
at_here false x o l = sym (append-nil o)

word_is : (text word : List ℕ) → is_word text word ≡ true → text ≡ word
word_is text word e = (bytes_decides text word).0 e

word_self : (word : List ℕ) → is_word word word ≡ true
word_self word = (bytes_decides word word).1 refl

-- names that are one and the same are one and the same to a third
other_word : (name n m : List ℕ) → is_word name m ≡ true → is_word n m ≡ false → is_word name n ≡ false
other_word name n m on off =
    elim (is_word name n) as (λ b. is_word name n ≡ b → b ≡ false) [
      | true ↦ λ e. (
          let same : n ≡ m = sym (word_is name n e) ∙ word_is name m on in
          let still : is_word n m ≡ true = subst (λ (x : List ℕ). is_word n x ≡ true) same (word_self n) in
          absurd cc)
      | false ↦ λ _. refl
    ] refl

at_later : (name n m : List ℕ) (x o : List Line) (l : Line) → is_word n m ≡ false → cond (is_word name m) x (o ++ cond (is_word name n) (l ∷ []) []) ≡ cond (is_word name m) x o ++ cond (is_word name n) (l ∷ []) []
at_later name n m x o l off =
    elim (is_word name m) as (λ b. is_word name m ≡ b → cond b x (o ++ cond (is_word name n) (l ∷ []) []) ≡ cond b x o ++ cond (is_word name n) (l ∷ []) []) [
      | true ↦ λ on. rw (other_word name n m on off) (sym (append-nil x))
      | false ↦ λ _. refl
    ] refl

owned_more : (rs : List RouterDef) (i : ℕ) (n : List ℕ) (p : PrefixDef) (name : List ℕ) → i < length rs → is_word n (get_or rs i nobody).name ≡ true → ((k : ℕ) → k < i → is_word n (get_or rs k nobody).name ≡ false) →
    owned (with_prefix rs i p) name ≡ owned rs name ++ cond (is_word name n) (prefix_line n p ∷ []) []
unfolding with_prefix
owned_more [] i n p name inside here far = absurd (omega arith)
owned_more (r ∷ rs) zero n p name inside here far =
    let same : n ≡ r.name = word_is n r.name here in
    ap (λ (x : List Line). cond (is_word name r.name) x (owned rs name)) (map-append (prefix_line r.name) r.prefixes (p ∷ []))
    ∙ at_here (is_word name r.name) (prefix_lines r) (owned rs name) (prefix_line r.name p)
    ∙ ap (λ (m : List ℕ). owned (r ∷ rs) name ++ cond (is_word name m) (prefix_line m p ∷ []) []) (sym same)
owned_more (r ∷ rs) (suc i) n p name inside here far =
    ap (λ (x : List Line). cond (is_word name r.name) (prefix_lines r) x) (owned_more rs i n p name (omega arith) here (λ k less. far (suc k) (omega arith)))
    ∙ at_later name n r.name (prefix_lines r) (owned rs name) (prefix_line n p) (far 0 (omega arith))

owned_next : (rs : List RouterDef) (i : ℕ) (n : List ℕ) (p : PrefixDef) (name : List ℕ) → number_of rs n ≡ Some i → owned (with_prefix rs i p) name ≡ owned rs name ++ cond (is_word name n) (prefix_line n p ∷ []) []
unfolding number_of
owned_next rs i n p name is =
    let k = position-Some (λ r. pointwise nat_eq n r.name) rs i nobody is in
    owned_more rs i n p name k.0 k.1 k.2

-- ---- a prefix line changes none of the other lines

pub routers_same : (rs : List RouterDef) (i : ℕ) (p : PrefixDef) → map router_line (with_prefix rs i p) ≡ map router_line rs
unfolding with_prefix
routers_same [] i p = refl
routers_same (r ∷ rs) zero p = refl
routers_same (r ∷ rs) (suc i) p = ap (λ (x : List Line). router_line r ∷ x) (routers_same rs i p)

pub name_same : (rs : List RouterDef) (i : ℕ) (p : PrefixDef) (j : ℕ) → name_at (with_prefix rs i p) j ≡ name_at rs j
unfolding with_prefix
name_same [] i p j = refl
name_same (r ∷ rs) zero p zero = refl
name_same (r ∷ rs) zero p (suc j) = refl
name_same (r ∷ rs) (suc i) p zero = refl
name_same (r ∷ rs) (suc i) p (suc j) = name_same rs i p j

pub links_same : (rs : List RouterDef) (i : ℕ) (p : PrefixDef) (links : List LinkDef) → map (link_line (with_prefix rs i p)) links ≡ map (link_line rs) links
links_same rs i p [] = refl
links_same rs i p (l ∷ links) = rw (name_same rs i p l.a, name_same rs i p l.b, links_same rs i p links) refl

prefix_plain : (s : Standing) (name : List ℕ) (net : Net) (cost : Number) → may_follow s.place place.Prefix ≡ true → plain_of (after s (Prefix name net cost)) ≡ plain_of s ++ []
prefix_plain s name net cost m =
    let i = number_at s name in
    let p : PrefixDef = record { address = address net; len = value net.len; cost = value cost } in
    let now : plain_of (after s (Prefix name net cost)) ≡ head (case_of s) = rw (routers_same s.routers i p, links_same s.routers i p s.links) refl in
    now ∙ sym (head_is s (head_prefix s.place m)) ∙ sym (append-nil (plain_of s))

-- ---- one line more

pub record IsMore (s : Standing) (l : Line) : Type 0 where
  pub within : IsWithin l
  pub others : plain_of (after s l) ≡ plain_of s ++ kept l
  pub prefixes : (name : List ℕ) → owned (after s l).routers name ≡ owned s.routers name ++ own name l

link_same : (a b e f : List ℕ) (c d g h : Number) → a ≡ e → b ≡ f → c ≡ g → d ≡ h → Link a b c d ≡ Link e f g h
link_same a b e f c d g h p q r t = rw (p, q, r, t) refl

prefix_same : (name : List ℕ) (a b : Net) (c d : Number) → a ≡ b → c ≡ d → Prefix name a c ≡ Prefix name b d
prefix_same name a b c d p q = rw (p, q) refl

named_again : (s : Standing) (name : List ℕ) → is_known s name ≡ true → name_at s.routers (number_at s name) ≡ name
named_again s name known = sym (numbered s.routers name _ (known_is (number_of s.routers name) known)).named

link_more : (s : Standing) (a b : List ℕ) (delay cost : Number) → may_follow s.place place.Link ≡ true → first_of (table s (Link a b delay cost)) ≡ None → IsMore s (Link a b delay cost)
link_more s a b delay cost m free =
    let range = free_test (not (between 1 1000000 delay && between 1 65535 cost)) cause.Range _ free in
    let unknown = free_test (not (is_known s a && is_known s b)) cause.Name _ range.1 in
    let ranges = both (between 1 1000000 delay) (between 1 65535 cost) (held _ range.0) in
    let known = both (is_known s a) (is_known s b) (held _ unknown.0) in
    record {
      within = (between_small 1 1000000 delay ranges.0 (omega arith), between_small 1 65535 cost ranges.1 (omega arith));
      others = link_plain s a b delay cost m (link_same _ _ a b _ _ delay cost (named_again s a known.0) (named_again s b known.1) (between_is 1 1000000 delay ranges.0) (between_is 1 65535 cost ranges.1));
      prefixes = λ name. sym (append-nil (owned s.routers name));
    }

-- a prefix line without a cause: its router is known, and it is the line of the prefix that it adds
pub record IsPrefixAgain (s : Standing) (name : List ℕ) (net : Net) (cost : Number) : Type 0 where
  pub known : number_of s.routers name ≡ Some (number_at s name)
  pub within : IsWithin (Prefix name net cost)
  pub is : prefix_line name (record { address = address net; len = value net.len; cost = value cost }) ≡ Prefix name net cost

pub prefix_again : (s : Standing) (name : List ℕ) (net : Net) (cost : Number) → first_of (table s (Prefix name net cost)) ≡ None → IsPrefixAgain s name net cost
prefix_again s name net cost free =
    let range = free_test (not (net_fits net && between 1 65535 cost) || router_is (λ r. is_rip r.kind && not (between 1 15 cost)) s name) cause.Range _ free in
    let unknown = free_test (not (is_known s name)) cause.Name _ range.1 in
    let ranges = neither (not (net_fits net && between 1 65535 cost)) _ range.0 in
    let fits = both (net_fits net) (between 1 65535 cost) (held _ ranges.0) in
    let n = is_net net fits.0 in
    record {
      known = known_is (number_of s.routers name) (held (is_known s name) unknown.0);
      within = (n.small, between_small 1 65535 cost fits.1 (omega arith));
      is = prefix_same name _ net _ cost n.is (between_is 1 65535 cost fits.1);
    }

prefix_more : (s : Standing) (name : List ℕ) (net : Net) (cost : Number) → may_follow s.place place.Prefix ≡ true → first_of (table s (Prefix name net cost)) ≡ None → IsMore s (Prefix name net cost)
prefix_more s name net cost m free =
    let again = prefix_again s name net cost free in
    let p : PrefixDef = record { address = address net; len = value net.len; cost = value cost } in
    record {
      within = again.within;
      others = prefix_plain s name net cost m;
      prefixes = λ q. owned_next s.routers (number_at s name) name p q again.known ∙ ap (λ (l : Line). owned s.routers q ++ cond (is_word q name) (l ∷ []) []) again.is;
    }

external_more : (s : Standing) (group : Number) (name : List ℕ) (a : Ask) → may_follow s.place place.External ≡ true → IsWell (External group name a) → first_of (table s (External group name a)) ≡ None → Sound s.place (case_of s) → IsMore s (External group name a)
external_more s group name a m w free h =
    let again = line_again s group name a (before_external s.place (case_of s) m h).header w free in
    record {
      within = external_within group name a again.0 again.1;
      others = external_plain s group name a m again.2;
      prefixes = λ q. sym (append-nil (owned s.routers q));
    }

pub more : (s : Standing) (l : Line) → may_follow s.place (place_of l) ≡ true → IsWell l → first_of (table s l) ≡ None → Sound s.place (case_of s) → IsMore s l
more s (Version n) m w free h =
    let version = free_test (not (between 1 1 n)) cause.Version _ free in
    let range = held _ version.0 in
    record {
      within = between_small 1 1 n range (omega arith);
      others = version_plain s n m (one_is n range) (before_version s.place (case_of s) m h);
      prefixes = λ q. sym (append-nil (owned s.routers q));
    }
more s (Period n) m w free h =
    let range = held _ (free_test (not (between 1 1000000 n)) cause.Range _ free).0 in
    record {
      within = between_small 1 1000000 n range (omega arith);
      others = period_plain s n m (between_is 1 1000000 n range) (before_period s.place (case_of s) m h);
      prefixes = λ q. sym (append-nil (owned s.routers q));
    }
more s (Groups n) m w free h =
    let range = held _ (free_test (not (between 1 4096 n)) cause.Range _ free).0 in
    record {
      within = between_small 1 4096 n range (omega arith);
      others = groups_plain s n m (between_is 1 4096 n range) (before_groups s.place (case_of s) m h).0;
      prefixes = λ q. sym (append-nil (owned s.routers q));
    }
more s (Seed n) m w free h =
    let range = held _ (free_test (not (below (2 ^ 64) n)) cause.Range _ free).0 in
    record {
      within = below_small n range;
      others = seed_plain s n m (below_is n range) (before_seed s.place (case_of s) m h).0;
      prefixes = λ q. sym (append-nil (owned s.routers q));
    }
more s (Router name k) m w free h =
    record {
      within = tt;
      others = router_plain s name k m h;
      prefixes = λ q. owned_bare s.routers _ q refl ∙ sym (append-nil (owned s.routers q));
    }
more s (Link a b delay cost) m w free h = link_more s a b delay cost m free
more s (Prefix name net cost) m w free h = prefix_more s name net cost m free
more s Feed m w free h = record { within = tt; others = feed_plain s m h; prefixes = λ q. sym (append-nil (owned s.routers q)) }
more s (External group name a) m w free h = external_more s group name a m w free h
more s End m w free h = record { within = tt; others = end_plain s m; prefixes = λ q. sym (append-nil (owned s.routers q)) }

-- ---- one text line more

other_shape : (text : List ℕ) (l : Line) → text ≡ spelled l → cond (not (is_some (prefix_name (Some l)))) (text ∷ []) [] ≡ map spelled (kept l)
other_shape text (Version n) is = ap (λ (x : List ℕ). x ∷ []) is
other_shape text (Period n) is = ap (λ (x : List ℕ). x ∷ []) is
other_shape text (Groups n) is = ap (λ (x : List ℕ). x ∷ []) is
other_shape text (Seed n) is = ap (λ (x : List ℕ). x ∷ []) is
other_shape text (Router name k) is = ap (λ (x : List ℕ). x ∷ []) is
other_shape text (Link a b delay cost) is = ap (λ (x : List ℕ). x ∷ []) is
other_shape text (Prefix name net cost) is = refl
other_shape text Feed is = ap (λ (x : List ℕ). x ∷ []) is
other_shape text (External group name a) is = ap (λ (x : List ℕ). x ∷ []) is
other_shape text End is = ap (λ (x : List ℕ). x ∷ []) is

own_prefix : (b : Bool) (text : List ℕ) (l : Line) → text ≡ spelled l → cond b (text ∷ []) [] ≡ map spelled (cond b (l ∷ []) [])
own_prefix true text l is = ap (λ (x : List ℕ). x ∷ []) is
own_prefix false text l is = refl

own_shape : (name text : List ℕ) (l : Line) → text ≡ spelled l → cond (option_map_or (is_word name) (prefix_name (Some l)) false) (text ∷ []) [] ≡ map spelled (own name l)
own_shape name text (Version n) is = refl
own_shape name text (Period n) is = refl
own_shape name text (Groups n) is = refl
own_shape name text (Seed n) is = refl
own_shape name text (Router m k) is = refl
own_shape name text (Link a b delay cost) is = refl
own_shape name text (Prefix m net cost) is = own_prefix (is_word name m) text (Prefix m net cost) is
own_shape name text Feed is = refl
own_shape name text (External group m a) is = refl
own_shape name text End is = refl

record IsStep (s : Standing) (text : List ℕ) (u : Standing) : Type 0 where
  others : map spelled (plain_of u) ≡ map spelled (plain_of s) ++ filter is_other (text ∷ [])
  prefixes : (name : List ℕ) → map spelled (owned u.routers name) ≡ map spelled (owned s.routers name) ++ filter (is_prefix_of name) (text ∷ [])

step : (s : Standing) (text : List ℕ) (u : Standing) → Sound s.place (case_of s) → read_line s text ≡ Ok u → IsStep s text u
step s text u h e =
    let k = is_taken s text u e in
    let m = more s k.line k.follows (well text k.line k.shape) k.free h in
    let is = (read_spelled text k.line k.shape m.within).0 in
    record {
      others =
          ap (λ (t : Standing). map spelled (plain_of t)) k.is ∙ ap (λ (ls : List Line). map spelled ls) m.others ∙ map-append spelled (plain_of s) (kept k.line)
          ∙ ap (λ (ls : List (List ℕ)). map spelled (plain_of s) ++ ls) (sym (ap (λ (o : Option Line). cond (not (is_some (prefix_name o))) (text ∷ []) []) k.shape ∙ other_shape text k.line is));
      prefixes = λ name.
          ap (λ (t : Standing). map spelled (owned t.routers name)) k.is ∙ ap (λ (ls : List Line). map spelled ls) (m.prefixes name) ∙ map-append spelled (owned s.routers name) (own name k.line)
          ∙ ap (λ (ls : List (List ℕ)). map spelled (owned s.routers name) ++ ls) (sym (ap (λ (o : Option Line). cond (option_map_or (is_word name) (prefix_name o) false) (text ∷ []) []) k.shape ∙ own_shape name text k.line is));
    }

-- ---- all lines

filtered : (f : Standing → List (List ℕ)) (test : List ℕ → Bool) → ((s : Standing) (text : List ℕ) (u : Standing) → Sound s.place (case_of s) → read_line s text ≡ Ok u → f u ≡ f s ++ filter test (text ∷ [])) →
    (ls : List (List ℕ)) (s t : Standing) → Sound s.place (case_of s) → Leads s ls t → f t ≡ f s ++ filter test ls
filtered f test one [] s t h leads = ap f (sym leads) ∙ sym (append-nil (f s))
filtered f test one (text ∷ ls) s t h leads =
    filtered f test one ls leads.0 t (read_sound s text leads.0 leads.1 h) leads.2
    ∙ ap (λ (x : List (List ℕ)). x ++ filter test ls) (one s text leads.0 h leads.1)
    ∙ append_assoc (f s) (filter test (text ∷ [])) (filter test ls)
    ∙ ap (λ (x : List (List ℕ)). f s ++ x) (sym (filter-append test (text ∷ []) ls))

others_are : (ls : List (List ℕ)) (c : Recording) → IsCaseText ls c → other_lines ls ≡ map spelled (plain place.End c)
others_are ls c h =
    sym (filtered (λ s. map spelled (plain_of s)) is_other (λ s text u sound e. (step s text u sound e).others) ls start h.last start_sound h.leads)
    ∙ ap (λ (p : Place). map spelled (plain p (case_of h.last))) h.ends ∙ ap (λ (x : Recording). map spelled (plain place.End x)) h.says

prefixes_are : (ls : List (List ℕ)) (c : Recording) (name : List ℕ) → IsCaseText ls c → prefix_lines_of name ls ≡ map spelled (owned c.header.routers name)
prefixes_are ls c name h =
    sym (filtered (λ s. map spelled (owned s.routers name)) (is_prefix_of name) (λ s text u sound e. (step s text u sound e).prefixes name) ls start h.last start_sound h.leads)
    ∙ ap (λ (x : Recording). map spelled (owned x.header.routers name)) h.says

pub same_others : (ls ms : List (List ℕ)) (c : Recording) → IsCaseText ls c → IsCaseText ms c → other_lines ls ≡ other_lines ms
same_others ls ms c p q = others_are ls c p ∙ sym (others_are ms c q)

pub same_prefixes : (ls ms : List (List ℕ)) (c : Recording) (name : List ℕ) → IsCaseText ls c → IsCaseText ms c → prefix_lines_of name ls ≡ prefix_lines_of name ms
same_prefixes ls ms c name p q = prefixes_are ls c name p ∙ sym (prefixes_are ms c name q)

-- ---- a case without prefixes

owned_none : (rs : List RouterDef) (name : List ℕ) → AllByRecursion (λ r. r.prefixes ≡ []) rs → owned rs name ≡ []
owned_none [] name none = refl
owned_none (r ∷ rs) name none =
    ap (λ (ps : List PrefixDef). cond (is_word name r.name) (map (prefix_line r.name) ps) (owned rs name)) none.0
    ∙ ap (λ (x : List Line). cond (is_word name r.name) [] x) (owned_none rs name none.1) ∙ same_both (is_word name r.name) []

some_line : (name x : List ℕ) (ls : List (List ℕ)) → cond (is_word name name) (x ∷ ls) ls ≡ [] → ⊥
some_line name x ls e = (let off : x ∷ ls ≡ [] = sym (ap (λ b. cond b (x ∷ ls) ls) (word_self name)) ∙ e in cc)

all_other : (ls : List (List ℕ)) → ((name : List ℕ) → prefix_lines_of name ls ≡ []) → other_lines ls ≡ ls
all_other [] none = refl
all_other (x ∷ ls) none =
    elim (prefix_name (line_of x)) as (λ o. prefix_name (line_of x) ≡ o → other_lines (x ∷ ls) ≡ x ∷ ls) [
      | None ↦ λ e.
          ap (λ (o : Option (List ℕ)). cond (not (is_some o)) (x ∷ other_lines ls) (other_lines ls)) e
          ∙ ap (λ (ms : List (List ℕ)). x ∷ ms) (all_other ls (λ name. sym (ap (λ (o : Option (List ℕ)). cond (option_map_or (is_word name) o false) (x ∷ prefix_lines_of name ls) (prefix_lines_of name ls)) e) ∙ none name))
      | Some n ↦ λ e. absurd (some_line n x (prefix_lines_of n ls) (sym (ap (λ (o : Option (List ℕ)). cond (option_map_or (is_word n) o false) (x ∷ prefix_lines_of n ls) (prefix_lines_of n ls)) e) ∙ none n))
    ] refl

pub same_without_prefixes : (ls ms : List (List ℕ)) (c : Recording) → AllByRecursion (λ r. r.prefixes ≡ []) c.header.routers → IsCaseText ls c → IsCaseText ms c → ls ≡ ms
same_without_prefixes ls ms c none p q =
    let empty = λ (name : List ℕ). ap (λ (x : List Line). map spelled x) (owned_none c.header.routers name none) in
    sym (all_other ls (λ name. prefixes_are ls c name p ∙ empty name)) ∙ same_others ls ms c p q ∙ all_other ms (λ name. prefixes_are ms c name q ∙ empty name)
