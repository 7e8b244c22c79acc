-- The text of a case, section by section.
use Rattle.std.proofs.Common.{◌≡◌, ℕ, List, [], ◌∷◌, ◌++◌, map, refl, sym, ap, ◌∙◌, append_assoc, codes}
use Rattle.std.specs.Fmt.{decimal}
use Rattle.std.specs.List.{flat_map, AllByRecursion}
use Rattle.std.proofs.lemmas.List.{append-nil}
use Rattle.dn_model.specs.declared.router.RouterDef.{RouterDef}
use Rattle.dn_model.specs.declared.router.Prefix.{Prefix as PrefixDef}
use Rattle.dn_model.specs.declared.link.Link.{Link as LinkDef}
use Rattle.dn_net.specs.Texts.{network_text, address_text}
use Rattle.dn_model.specs.declared.feed.External.{External as ExternalDef}
use Rattle.dn_guest.specs.declared.input.Input.{Input}
use Rattle.dn_guest.specs.declared.input.Input.TheVariants as input
use Rattle.dn_model.specs.Cases.{Heading, Recording, AreLinks, IsAsked, AreExternals}
use Rattle.dn_case.specs.Shapes.{Line, Feed, End}
use Rattle.dn_case.specs.Spelling.{IsFromOutside, spelled, number_lines, router_line, link_line, prefix_line, prefix_lines, prefixes_text, external_line, header_lines, case_text}
use Rattle.std.specs.Prelude.{◌<◌, length, Result, Ok, Err, OnOk}

abbrev flat : List Line → List ℕ
flat ls = flat_map spelled ls

pub flat_joined : (xs ys : List Line) → flat (xs ++ ys) ≡ flat xs ++ flat ys
flat_joined [] ys = refl
flat_joined (x ∷ xs) ys = ap (λ (l : List ℕ). spelled x ++ l) (flat_joined xs ys) ∙ sym (append_assoc (spelled x) (flat xs) (flat ys))

flat_mapped : {X : Type 0} (f : X → Line) (xs : List X) → flat (map f xs) ≡ flat_map (λ x. spelled (f x)) xs
flat_mapped f [] = refl
flat_mapped f (x ∷ xs) = ap (λ (l : List ℕ). spelled (f x) ++ l) (flat_mapped f xs)

flat_prefixes : (rs : List RouterDef) → flat (flat_map prefix_lines rs) ≡ flat_map prefixes_text rs
unfolding prefixes_text
flat_prefixes [] = refl
flat_prefixes (r ∷ rs) =
    flat_joined (prefix_lines r) (flat_map prefix_lines rs)
    ∙ ap (λ (l : List ℕ). l ++ flat (flat_map prefix_lines rs)) (flat_mapped (prefix_line r.name) r.prefixes)
    ∙ ap (λ (l : List ℕ). prefixes_text r ++ l) (flat_prefixes rs)

four : (n r l p : List Line) (a b c d : List ℕ) → flat n ≡ a → flat r ≡ b → flat l ≡ c → flat p ≡ d → flat (n ++ (r ++ (l ++ p))) ≡ a ++ (b ++ (c ++ d))
four n r l p a b c d i j k m = rw (flat_joined n (r ++ (l ++ p)), flat_joined r (l ++ p), flat_joined l p, i, j, k, m) refl

pub header_text : (h : Heading) → flat (header_lines h) ≡ flat (number_lines h) ++ (flat_map (λ r. spelled (router_line r)) h.routers ++ (flat_map (λ l. spelled (link_line h.routers l)) h.links ++ flat_map prefixes_text h.routers))
header_text h =
    four (number_lines h) (map router_line h.routers) (map (link_line h.routers) h.links) (flat_map prefix_lines h.routers) _ _ _ _
    refl (flat_mapped router_line h.routers) (flat_mapped (link_line h.routers) h.links) (flat_prefixes h.routers)

pub header_joined : (o0 o1 o2 o3 o4 n r l p : List ℕ) → o1 ≡ o0 ++ n → o2 ≡ o1 ++ r → o3 ≡ o2 ++ l → o4 ≡ o3 ++ p → o4 ≡ o0 ++ (n ++ (r ++ (l ++ p)))
header_joined o0 o1 o2 o3 o4 n r l p a b c d =
    d ∙ ap (λ (x : List ℕ). x ++ p) (c ∙ ap (λ (x : List ℕ). x ++ l) (b ∙ ap (λ (x : List ℕ). x ++ r) a))
    ∙ append_assoc ((o0 ++ n) ++ r) l p ∙ append_assoc (o0 ++ n) r (l ++ p) ∙ append_assoc o0 n (r ++ (l ++ p))

feed_text : (xs : List ExternalDef) (rs : List RouterDef) → flat (Feed ∷ (map (external_line rs) xs ++ (End ∷ []))) ≡ spelled Feed ++ (flat_map (λ x. spelled (external_line rs x)) xs ++ spelled End)
feed_text xs rs =
    ap (λ (l : List ℕ). spelled Feed ++ l) (flat_joined (map (external_line rs) xs) (End ∷ []) ∙ ap (λ (l : List ℕ). l ++ flat (End ∷ [])) (flat_mapped (external_line rs) xs)
    ∙ ap (λ (l : List ℕ). flat_map (λ x. spelled (external_line rs x)) xs ++ l) (append-nil (spelled End)))

pub text_is : (c : Recording) → case_text c ≡ flat (header_lines c.header) ++ (spelled Feed ++ (flat_map (λ x. spelled (external_line c.header.routers x)) c.feed ++ spelled End))
unfolding case_text
text_is c =
    flat_joined (header_lines c.header) (Feed ∷ (map (external_line c.header.routers) c.feed ++ (End ∷ [])))
    ∙ ap (λ (l : List ℕ). flat (header_lines c.header) ++ l) (feed_text c.feed c.header.routers)

-- ---- what the rules say of links and externals

pub links_inside : (n : ℕ) (before ls : List LinkDef) → AreLinks n before ls → AllByRecursion (λ l. (l.a < n) × (l.b < n)) ls
links_inside n before [] h = tt
links_inside n before (l ∷ ls) h = (h.0.inside, links_inside n (before ++ l ∷ []) ls h.1)

from_outside : (ports : ℕ) (i : Input) → IsAsked ports i → IsFromOutside i
from_outside ports (input.Cmd body) h = tt
from_outside ports (input.Down port) h = tt
from_outside ports (input.Up port) h = tt
from_outside ports (input.Tick group) h = h
from_outside ports (input.Msg port body) h = h

pub externals_inside : (h : Heading) (low : ℕ) (xs : List ExternalDef) → AreExternals h low xs → AllByRecursion (λ x. (x.router < length h.routers) × IsFromOutside x.input) xs
externals_inside h low [] k = tt
externals_inside h low (x ∷ xs) k = ((k.0.router, from_outside _ x.input k.0.asked), externals_inside h x.group xs k.1)

pub on_ok : {A E : Type 0} (r : Result A E) (P Q : Type 0) → (P → Q) → OnOk r P → OnOk r Q
on_ok (Ok x) P Q f h = f h
on_ok (Err e) P Q f h = tt

-- ---- a prefix line, piece by piece

pub prefix_text : (name : List ℕ) (p : PrefixDef) → spelled (prefix_line name p) ≡ (codes "prefix " ++ (name ++ (codes " " ++ []))) ++ (network_text p.address p.len ++ (codes " " ++ (decimal p.cost ++ (codes "\n" ++ []))))
unfolding spelled network_text address_text
prefix_text name p = simp (append_assoc, append-nil)

pub three_joined : (o0 o1 o2 o3 a b d t : List ℕ) → o1 ≡ o0 ++ a → o2 ≡ o1 ++ b → o3 ≡ o2 ++ d → t ≡ a ++ (b ++ d) → o3 ≡ o0 ++ t
three_joined o0 o1 o2 o3 a b d t p q r s =
    r ∙ ap (λ (x : List ℕ). x ++ d) (q ∙ ap (λ (x : List ℕ). x ++ b) p) ∙ append_assoc (o0 ++ a) b d ∙ append_assoc o0 a (b ++ d) ∙ ap (λ (x : List ℕ). o0 ++ x) (sym s)
