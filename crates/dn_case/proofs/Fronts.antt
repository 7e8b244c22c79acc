-- The text of a case, line by line, and the round trip.
use Rattle.std.proofs.Common.{◌≡◌, ℕ, Bool, true, false, not, eqb, List, [], ◌∷◌, ◌++◌, length, take, map, refl, sym, ap, subst, ◌∙◌, arith, append_assoc}
use Rattle.std.specs.List.{flat_map, AllByRecursion, join_with_byte, concat}
use Rattle.std.proofs.lemmas.List.{take_at}
use Rattle.dn_model.specs.declared.router.Kind.{Kind}
use Rattle.dn_model.specs.declared.router.Kind.TheVariants as kind
use Rattle.dn_model.specs.declared.router.RouterDef.{RouterDef}
use Rattle.dn_text.specs.Lines.{lines}
use Rattle.dn_case.specs.declared.shape.Net.{Net}
use Rattle.dn_model.specs.declared.router.Prefix.{Prefix as PrefixDef}
use Rattle.dn_model.specs.declared.link.Link.{Link as LinkDef}
use Rattle.dn_model.specs.declared.feed.External.{External as ExternalDef}
use Rattle.dn_model.specs.Routers.{name_at}
use Rattle.dn_model.specs.Links.{ports_of}
use Rattle.dn_model.specs.Cases.{Heading, Recording, AreRouters, AreLinks, IsHeading, AreExternals, IsRecording}
use Rattle.dn_case.specs.Shapes.{Cmd, Down, Up, Line, Version, Period, Groups, Seed, Router, Link, Prefix, Feed, External, End}
use Rattle.dn_case.specs.Spelling.{digits, kind_word, address_text, net_text, fields_of, spelled, AreSmall, IsSpellable, router_line, link_line, external_line, header_lines_with, lines_with, case_text}
use Rattle.dn_case.specs.CaseTexts.{IsInterleaving, prefixes_of, numbered_lines, case_lines}
use Rattle.dn_case.specs.Reading.{IsCaseText, IsCaseFront}
use Rattle.dn_case.proofs.Fields.{free, each_true, free-append, name_free, hex_free}
use Rattle.dn_case.proofs.Spelled.{AllFree, number_free, address_free}
use Rattle.dn_case.proofs.CaseAgain.{lines_taken}
use Rattle.dn_case.proofs.Interleavings.{in_order, is_in_order, lines_in_order}
use Rattle.dn_case.proofs.PrefixLeads.{prefixes_spellable}
use Rattle.dn_case.proofs.RoundTrip.{name_again, external_spellable, ports_few}

free_join : (s a : ℕ) (fs : List (List ℕ)) → free s (a ∷ []) ≡ true → AllFree s fs → free s (join_with_byte a fs) ≡ true
free_join s a [] h all = refl
free_join s a (x ∷ []) h all = all.0
free_join s a (x ∷ y ∷ fs) h all =
    free-append s x (a ∷ join_with_byte a (y ∷ fs)) all.0
    (free-append s (a ∷ []) (join_with_byte a (y ∷ fs)) h (free_join s a (y ∷ fs) h all.1))

kind_plain : (k : Kind) → free 10 (kind_word k) ≡ true
kind_plain kind.Flood = refl
kind_plain kind.Ospf = refl
kind_plain kind.Rip = refl

net_plain : (net : Net) → AreSmall net → free 10 (net_text net) ≡ true
net_plain net small = free_join 10 47 (address_text net ∷ digits net.len ∷ []) refl (address_free 10 net (omega arith) refl small, (number_free 10 net.len (omega arith) small.4, tt))

fields_plain : (l : Line) → IsSpellable l → AllFree 10 (fields_of l)
fields_plain (Version n) h = (refl, (number_free 10 n (omega arith) h, tt))
fields_plain (Period n) h = (refl, (number_free 10 n (omega arith) h, tt))
fields_plain (Groups n) h = (refl, (number_free 10 n (omega arith) h, tt))
fields_plain (Seed n) h = (refl, (number_free 10 n (omega arith) h, tt))
fields_plain (Router name kind) h = (refl, (name_free 10 name (omega arith) h, (kind_plain kind, tt)))
fields_plain (Link a b delay cost) h = (refl, (name_free 10 a (omega arith) h.0, (name_free 10 b (omega arith) h.1, (number_free 10 delay (omega arith) h.2, (number_free 10 cost (omega arith) h.3, tt)))))
fields_plain (Prefix name net cost) h = (refl, (name_free 10 name (omega arith) h.0, (net_plain net h.1, (number_free 10 cost (omega arith) h.2, tt))))
fields_plain Feed h = (refl, tt)
fields_plain (External group name (Cmd hex)) h = (number_free 10 group (omega arith) h.0, (name_free 10 name (omega arith) h.1, (refl, (hex_free 10 hex (omega arith) h.2, tt))))
fields_plain (External group name (Down port)) h = (number_free 10 group (omega arith) h.0, (name_free 10 name (omega arith) h.1, (refl, (number_free 10 port (omega arith) h.2, tt))))
fields_plain (External group name (Up port)) h = (number_free 10 group (omega arith) h.0, (name_free 10 name (omega arith) h.1, (refl, (number_free 10 port (omega arith) h.2, tt))))
fields_plain End h = (refl, tt)

is_false : (b : Bool) → not b ≡ true → b ≡ false
is_false true p = cc
is_false false p = refl

pub line_then : (f rest : List ℕ) → free 10 f ≡ true → lines (f ++ 10 ∷ rest) ≡ (f ++ 10 ∷ []) ∷ lines rest
line_then [] rest h = refl
line_then (c ∷ f) rest h =
    let k = each_true (not (eqb c 10)) (free 10 f) h in
    let other : eqb c 10 ≡ false = is_false (eqb c 10) k.0 in
    rw (other, line_then f rest k.1) refl

-- a spelled line is a text without a newline, and a newline
pub spelled_is : (l : Line) → IsSpellable l → (text : List ℕ) × (spelled l ≡ text ++ 10 ∷ []) × (free 10 text ≡ true)
unfolding spelled
spelled_is l h = (join_with_byte 32 (fields_of l), refl, free_join 10 32 (fields_of l) refl (fields_plain l h))

spelled_then : (l : Line) (rest : List ℕ) → IsSpellable l → lines (spelled l ++ rest) ≡ spelled l ∷ lines rest
unfolding spelled
spelled_then l rest h =
    let text = join_with_byte 32 (fields_of l) in
    ap lines (append_assoc text (10 ∷ []) rest) ∙ line_then text rest (free_join 10 32 (fields_of l) refl (fields_plain l h))

pub all_lines : (ls : List Line) (rest : List ℕ) → AllByRecursion IsSpellable ls → lines (flat_map spelled ls ++ rest) ≡ map spelled ls ++ lines rest
all_lines [] rest all = refl
all_lines (l ∷ ls) rest all =
    ap lines (append_assoc (spelled l) (flat_map spelled ls) rest) ∙ spelled_then l (flat_map spelled ls ++ rest) all.0 ∙ ap (λ (x : List (List ℕ)). spelled l ∷ x) (all_lines ls rest all.1)

pub concat_is_flat : (ls : List Line) → concat (map spelled ls) ≡ flat_map spelled ls
concat_is_flat [] = refl
concat_is_flat (l ∷ ls) = ap (λ (x : List ℕ). spelled l ++ x) (concat_is_flat ls)

all_joined : (xs ys : List Line) → AllByRecursion IsSpellable xs → AllByRecursion IsSpellable ys → AllByRecursion IsSpellable (xs ++ ys)
all_joined [] ys p q = q
all_joined (x ∷ xs) ys p q = (p.0, all_joined xs ys p.1 q)

routers_spellable : (before rs : List RouterDef) → AreRouters before rs → AllByRecursion IsSpellable (map router_line rs)
routers_spellable before [] h = tt
routers_spellable before (r ∷ rs) h = (h.0.named, routers_spellable (before ++ r ∷ []) rs h.1)

links_spellable : (rs : List RouterDef) (before ls : List LinkDef) → AreRouters [] rs → AreLinks (length rs) before ls → AllByRecursion IsSpellable (map (link_line rs) ls)
links_spellable rs before [] named h = tt
links_spellable rs before (l ∷ ls) named h =
    ((name_again rs l.a named h.0.inside.0, name_again rs l.b named h.0.inside.1, omega (arith, h.0.delay.1), omega (arith, h.0.cost.1)), links_spellable rs (before ++ l ∷ []) ls named h.1)

externals_spellable : (h : Heading) (low : ℕ) (xs : List ExternalDef) → IsHeading h → AreExternals h low xs → AllByRecursion IsSpellable (map (external_line h.routers) xs)
externals_spellable h low [] k are = tt
externals_spellable h low (x ∷ xs) k are = (
  external_spellable (ports_of h.links x.router) x.group (name_at h.routers x.router) x.input (omega (arith, are.0.group, k.groups.1)) (name_again h.routers x.router k.routers are.0.router) (ports_few (length h.routers) x.router h.links k.links) are.0.asked,
  externals_spellable h x.group xs k are.1,
)

header_spellable : (h : Heading) (lines : List Line) → IsHeading h → AllByRecursion IsSpellable lines → AllByRecursion IsSpellable (header_lines_with h lines)
header_spellable h lines k prefixes =
    let routers = routers_spellable [] h.routers k.routers in
    let links = links_spellable h.routers [] h.links k.routers k.links in
    let behind = all_joined (map router_line h.routers) _ routers (all_joined (map (link_line h.routers) h.links) _ links prefixes) in
    (omega arith, (omega (arith, k.period.1), (omega (arith, k.groups.1), (k.seed, behind))))

lines_spellable : (c : Recording) (xs : List (ℕ × PrefixDef)) → IsRecording c → IsInterleaving (prefixes_of c.header.routers) xs → AllByRecursion IsSpellable (case_lines c xs)
lines_spellable c xs h order =
    let lines = numbered_lines c.header.routers xs in
    let ends : AllByRecursion IsSpellable (End ∷ []) = (tt, tt) in
    all_joined (header_lines_with c.header lines) _ (header_spellable c.header lines h.header (prefixes_spellable c.header.routers xs h.header.routers order))
    (tt, all_joined (map (external_line c.header.routers) c.feed) (End ∷ []) (externals_spellable c.header 0 c.feed h.header h.feed) ends)

front_of_text : (text : List ℕ) (ls : List Line) (rest : List ℕ) (c : Recording) → text ≡ flat_map spelled ls ++ rest → AllByRecursion IsSpellable ls → IsCaseText (map spelled ls) c → IsCaseFront text c (length (flat_map spelled ls))
front_of_text text ls rest c is all w =
    let split : lines text ≡ map spelled ls ++ lines rest = ap lines is ∙ all_lines ls rest all in
    let n = length (map spelled ls) in
    let front : take n (lines text) ≡ map spelled ls = ap (λ (x : List (List ℕ)). take n x) split ∙ take_at (map spelled ls) (lines rest) n refl in
    record {
      count = n;
      whole = subst (λ (x : List (List ℕ)). IsCaseText x c) (sym front) w;
      long = ap (λ (x : List ℕ). length x) (sym (concat_is_flat ls)) ∙ ap (λ (x : List (List ℕ)). length (concat x)) (sym front);
    }

-- The lines of a case that meets the rules, in each order of the prefix lines and whatever follows them, are a front of the text.
pub front_taken : (c : Recording) (xs : List (ℕ × PrefixDef)) (rest : List ℕ) → IsRecording c → IsInterleaving (prefixes_of c.header.routers) xs →
    IsCaseFront (flat_map spelled (case_lines c xs) ++ rest) c (length (flat_map spelled (case_lines c xs)))
front_taken c xs rest h order =
    let ls = case_lines c xs in
    front_of_text (flat_map spelled ls ++ rest) ls rest c refl (lines_spellable c xs h order) (lines_taken c xs h order)

-- So they are in the order of the routers.
pub text_again : (c : Recording) (rest : List ℕ) → IsRecording c → IsCaseFront (case_text c ++ rest) c (length (case_text c))
unfolding case_text
text_again c rest h =
    let rs = c.header.routers in
    subst (λ (lines : List Line). IsCaseFront (flat_map spelled (lines_with c lines) ++ rest) c (length (flat_map spelled (lines_with c lines)))) (lines_in_order rs)
    (front_taken c (in_order 0 rs) rest h (is_in_order rs))
