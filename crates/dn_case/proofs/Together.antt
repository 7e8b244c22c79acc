-- The lines of a case text are the case's, with the prefix lines in an order that keeps each router's own.
use Rattle.std.proofs.Common.{◌≡◌, ℕ, Bool, true, false, not, List, [], ◌∷◌, ◌++◌, map, Option, Some, None, refl, sym, ap, subst, ◌∙◌, append_assoc}
use Rattle.std.specs.Prelude.{is_some}
use Rattle.std.specs.List.{AllByRecursion}
use Rattle.std.proofs.lemmas.List.{append-nil, map-append}
use Rattle.dn_model.specs.declared.router.RouterDef.{RouterDef}
use Rattle.dn_model.specs.declared.router.Prefix.{Prefix as PrefixDef}
use Rattle.dn_model.specs.declared.feed.External.{External as ExternalDef}
use Rattle.dn_model.specs.Routers.{name_at}
use Rattle.dn_model.specs.Cases.{Recording, IsRecording}
use Rattle.dn_text.specs.declared.decimals.Number.{Number}
use Rattle.dn_case.specs.declared.shape.Net.{Net}
use Rattle.dn_case.specs.declared.standing.Standing.{Standing}
use Rattle.dn_case.specs.declared.place.Place.{Place}
use Rattle.dn_case.specs.declared.place.Place.TheVariants as place
use Rattle.dn_case.specs.Shapes.{Ask, Line, Version, Period, Groups, Seed, Router, Link, Prefix, Feed, External, End, line_of}
use Rattle.dn_case.specs.Spelling.{spelled, IsSpellable, router_line, link_line, prefix_line, external_line}
use Rattle.dn_case.specs.CaseTexts.{IsInterleaving, prefixes_of, numbered_lines, Spells}
use Rattle.dn_case.specs.Standings.{place_of, may_follow, value, address, with_prefix, number_at, after, first_of, table, start}
use Rattle.dn_case.specs.Reading.{Leads, case_of, IsCaseText}
use Rattle.dn_case.specs.Orders.{prefix_name, ArePrefixLines, StandTogether}
use Rattle.dn_case.proofs.ExternalLines.{new_of, line_again}
use Rattle.dn_case.proofs.OneSpelling.{number_lines_at, feed_lines_at, plain_of, IsHead, head_prefix, head_feed, no_feed_yet, IsFed, fed_external, fed_end, routers_same, name_same, links_same, prefix_again, more}
use Rattle.dn_case.proofs.Interleavings.{prefixes_at, own_at, one_more_bare, more_at_end}
use Rattle.dn_case.proofs.PrefixLeads.{prefixes_spellable}
use Rattle.dn_case.proofs.RouterLaws.{numbered}
use Rattle.dn_case.proofs.Spelled.{spelled_again}
use Rattle.dn_case.proofs.ReadLines.{read_spelled}
use Rattle.dn_case.proofs.Sound.{Sound, before_external, read_sound, leads_sound, start_sound}
use Rattle.dn_case.proofs.Taken.{is_taken, well}

-- the lines before the prefix lines
abbrev front_lines_at : Place → Recording → List Line
front_lines_at p c = number_lines_at p c ++ (map router_line c.header.routers ++ map (link_line c.header.routers) c.header.links)

abbrev front_of : Standing → List (List ℕ)
front_of s = map spelled (front_lines_at s.place (case_of s))

abbrev back_of : Standing → List (List ℕ)
back_of s = map spelled (feed_lines_at s.place (case_of s))

-- prefix lines may stand so far
abbrev is_late : Place → Bool
is_late place.Prefix = true
is_late place.Feed = true
is_late place.External = true
is_late place.End = true
is_late _ = false

abbrev Items : Type 0
Items = List (ℕ × PrefixDef)

abbrev middle : List RouterDef → Items → List (List ℕ)
middle rs xs = map spelled (numbered_lines rs xs)

-- so lie the lines that lead to s
record IsLaid (s : Standing) (done : List (List ℕ)) : Type 0 where
  prefixes : Items
  is : done ≡ front_of s ++ (middle s.routers prefixes ++ back_of s)
  early : is_late s.place ≡ false → prefixes ≡ []
  order : IsInterleaving (prefixes_of s.routers) prefixes

four_joined : (n r k f : List Line) → map spelled (n ++ (r ++ (k ++ f))) ≡ map spelled (n ++ (r ++ k)) ++ map spelled f
four_joined n r k f =
    ap (λ (x : List Line). map spelled (n ++ x)) (sym (append_assoc r k f)) ∙ ap (λ (x : List Line). map spelled x) (sym (append_assoc n (r ++ k) f)) ∙ map-append spelled (n ++ (r ++ k)) f

both_parts : (s : Standing) → map spelled (plain_of s) ≡ front_of s ++ back_of s
both_parts s = four_joined (number_lines_at s.place (case_of s)) (map router_line s.routers) (map (link_line s.routers) s.links) (feed_lines_at s.place (case_of s))

no_prefix_yet : (s : Standing) (done : List (List ℕ)) → IsLaid s done → is_late s.place ≡ false → (i : ℕ) → [] ≡ prefixes_at s.routers i
no_prefix_yet s done laid early i = ap (λ (xs : Items). own_at i xs) (sym (laid.early early)) ∙ laid.order i

early_laid : (s u : Standing) (text : List ℕ) (l : Line) (done : List (List ℕ)) → IsLaid s done → is_late s.place ≡ false → ((i : ℕ) → [] ≡ prefixes_at u.routers i) → text ≡ spelled l → plain_of u ≡ plain_of s ++ l ∷ [] → IsLaid u (done ++ text ∷ [])
early_laid s u text l done laid early none is more =
    let so_far : done ≡ map spelled (plain_of s) = laid.is ∙ ap (λ (xs : Items). front_of s ++ (middle s.routers xs ++ back_of s)) (laid.early early) ∙ sym (both_parts s) in
    let now : map spelled (plain_of u) ≡ map spelled (plain_of s) ++ spelled l ∷ [] = ap (λ (x : List Line). map spelled x) more ∙ map-append spelled (plain_of s) (l ∷ []) in
    record {
      prefixes = [];
      is = ap (λ (x : List (List ℕ)). x ++ text ∷ []) so_far ∙ ap (λ (x : List ℕ). map spelled (plain_of s) ++ x ∷ []) is ∙ sym now ∙ both_parts u;
      early = λ _. refl;
      order = none;
    }

early_same : (s u : Standing) (text : List ℕ) (l : Line) (done : List (List ℕ)) → IsLaid s done → is_late s.place ≡ false → u.routers ≡ s.routers → text ≡ spelled l → plain_of u ≡ plain_of s ++ l ∷ [] → IsLaid u (done ++ text ∷ [])
early_same s u text l done laid early routers is more =
    early_laid s u text l done laid early (λ i. no_prefix_yet s done laid early i ∙ ap (λ (rs : List RouterDef). prefixes_at rs i) (sym routers)) is more

at_back : (a p b t : List (List ℕ)) → (a ++ (p ++ b)) ++ t ≡ a ++ (p ++ (b ++ t))
at_back a p b t = append_assoc a (p ++ b) t ∙ ap (λ (x : List (List ℕ)). a ++ x) (append_assoc p b t)

late_laid : (s u : Standing) (text : List ℕ) (l : Line) (done : List (List ℕ)) → IsLaid s done → is_late u.place ≡ true → u.routers ≡ s.routers → text ≡ spelled l → front_of u ≡ front_of s → feed_lines_at u.place (case_of u) ≡ feed_lines_at s.place (case_of s) ++ l ∷ [] →
    IsLaid u (done ++ text ∷ [])
late_laid s u text l done laid late routers is front back =
    let xs = laid.prefixes in
    let now : back_of u ≡ back_of s ++ text ∷ [] = ap (λ (x : List Line). map spelled x) back ∙ map-append spelled (feed_lines_at s.place (case_of s)) (l ∷ []) ∙ ap (λ (x : List ℕ). back_of s ++ x ∷ []) (sym is) in
    record {
      prefixes = xs;
      is =
          ap (λ (x : List (List ℕ)). x ++ text ∷ []) laid.is ∙ at_back (front_of s) (middle s.routers xs) (back_of s) (text ∷ []) ∙ ap (λ (x : List (List ℕ)). front_of s ++ (middle s.routers xs ++ x)) (sym now)
          ∙ ap (λ (rs : List RouterDef). front_of s ++ (middle rs xs ++ back_of u)) (sym routers) ∙ ap (λ (x : List (List ℕ)). x ++ (middle u.routers xs ++ back_of u)) (sym front);
      early = λ e. absurd cc;
      order = subst (λ (rs : List RouterDef). IsInterleaving (prefixes_of rs) xs) (sym routers) laid.order;
    }

in_the_middle : (a p b t : List (List ℕ)) → b ≡ [] → (a ++ (p ++ b)) ++ t ≡ a ++ ((p ++ t) ++ [])
in_the_middle a p b t none =
    ap (λ (x : List (List ℕ)). (a ++ (p ++ x)) ++ t) none ∙ ap (λ (x : List (List ℕ)). (a ++ x) ++ t) (append-nil p) ∙ append_assoc a p t ∙ ap (λ (x : List (List ℕ)). a ++ x) (sym (append-nil (p ++ t)))

middle_same : (rs : List RouterDef) (i : ℕ) (p : PrefixDef) (xs : Items) → middle (with_prefix rs i p) xs ≡ middle rs xs
middle_same rs i p [] = refl
middle_same rs i p (x ∷ xs) =
    ap (λ (name : List ℕ). spelled (prefix_line name x.1) ∷ middle (with_prefix rs i p) xs) (name_same rs i p x.0)
    ∙ ap (λ (ls : List (List ℕ)). spelled (prefix_line (name_at rs x.0) x.1) ∷ ls) (middle_same rs i p xs)

middle_more : (rs : List RouterDef) (xs : Items) (x : ℕ × PrefixDef) → middle rs (xs ++ x ∷ []) ≡ middle rs xs ++ spelled (prefix_line (name_at rs x.0) x.1) ∷ []
middle_more rs [] x = refl
middle_more rs (y ∷ xs) x = ap (λ (ls : List (List ℕ)). spelled (prefix_line (name_at rs y.0) y.1) ∷ ls) (middle_more rs xs x)

prefix_laid : (s : Standing) (text name : List ℕ) (net : Net) (cost : Number) (done : List (List ℕ)) → IsLaid s done → IsHead s.place → line_of text ≡ Some (Prefix name net cost) → first_of (table s (Prefix name net cost)) ≡ None →
    IsLaid (after s (Prefix name net cost)) (done ++ text ∷ [])
prefix_laid s text name net cost done laid h shape free =
    let i = number_at s name in
    let p : PrefixDef = record { address = address net; len = value net.len; cost = value cost } in
    let u = after s (Prefix name net cost) in
    let xs = laid.prefixes in
    let again = prefix_again s name net cost free in
    let at = numbered s.routers name i again.known in
    let line : text ≡ spelled (prefix_line (name_at s.routers i) p) =
    (read_spelled text (Prefix name net cost) shape again.within).0 ∙ ap spelled (sym again.is) ∙ ap (λ (n : List ℕ). spelled (prefix_line n p)) at.named in
    let more : middle u.routers (xs ++ (i, p) ∷ []) ≡ middle s.routers xs ++ text ∷ [] =
    middle_same s.routers i p (xs ++ (i, p) ∷ []) ∙ middle_more s.routers xs (i, p) ∙ ap (λ (t : List ℕ). middle s.routers xs ++ t ∷ []) (sym line) in
    let front : front_lines_at u.place (case_of u) ≡ front_lines_at s.place (case_of s) = rw (routers_same s.routers i p, links_same s.routers i p s.links, h.numbers (case_of s)) refl in
    let none : back_of s ≡ [] = ap (λ (x : List Line). map spelled x) (h.none (case_of s)) in
    record {
      prefixes = xs ++ (i, p) ∷ [];
      is =
          ap (λ (x : List (List ℕ)). x ++ text ∷ []) laid.is ∙ in_the_middle (front_of s) (middle s.routers xs) (back_of s) (text ∷ []) none
          ∙ ap (λ (x : List (List ℕ)). front_of s ++ (x ++ [])) (sym more) ∙ ap (λ (x : List Line). map spelled x ++ (middle u.routers (xs ++ (i, p) ∷ []) ++ [])) (sym front);
      early = λ e. absurd cc;
      order = more_at_end s.routers xs (i, p) at.inside laid.order;
    }

feed_laid : (s : Standing) (text : List ℕ) (done : List (List ℕ)) → IsLaid s done → may_follow s.place place.Feed ≡ true → Sound s.place (case_of s) → text ≡ spelled Feed → IsLaid (after s Feed) (done ++ text ∷ [])
feed_laid s text done laid m sound is =
    let h = head_feed s.place m in
    let none = no_feed_yet s.place (case_of s) m sound in
    late_laid s (after s Feed) text Feed done laid refl refl is
    (ap (λ (x : List Line). map spelled (x ++ (map router_line s.routers ++ map (link_line s.routers) s.links))) (sym (h.numbers (case_of s))))
    (ap (λ (xs : List ExternalDef). Feed ∷ map (external_line s.routers) xs) none ∙ ap (λ (x : List Line). x ++ Feed ∷ []) (sym (h.none (case_of s))))

external_laid : (s : Standing) (text : List ℕ) (group : Number) (name : List ℕ) (a : Ask) (done : List (List ℕ)) → IsLaid s done → IsFed s.place → external_line s.routers (new_of s group name a) ≡ External group name a → text ≡ spelled (External group name a) →
    IsLaid (after s (External group name a)) (done ++ text ∷ [])
external_laid s text group name a done laid h again is =
    let l = External group name a in
    late_laid s (after s l) text l done laid refl refl is
    (ap (λ (x : List Line). map spelled (x ++ (map router_line s.routers ++ map (link_line s.routers) s.links))) (sym (h.numbers (case_of s))))
    (ap (λ (x : List Line). Feed ∷ x) (map-append (external_line s.routers) s.feed (new_of s group name a ∷ []))
    ∙ ap (λ (k : Line). (Feed ∷ map (external_line s.routers) s.feed) ++ k ∷ []) again ∙ ap (λ (x : List Line). x ++ l ∷ []) (sym (h.lines (case_of s))))

end_laid : (s : Standing) (text : List ℕ) (done : List (List ℕ)) → IsLaid s done → IsFed s.place → text ≡ spelled End → IsLaid (after s End) (done ++ text ∷ [])
end_laid s text done laid h is =
    late_laid s (after s End) text End done laid refl refl is
    (ap (λ (x : List Line). map spelled (x ++ (map router_line s.routers ++ map (link_line s.routers) s.links))) (sym (h.numbers (case_of s))))
    (ap (λ (x : List Line). x ++ End ∷ []) (sym (h.lines (case_of s))))

-- the place of a line before the prefix lines, and of the line before it
early_before : (p : Place) (l : Line) → may_follow p (place_of l) ≡ true → is_late (place_of l) ≡ false → is_late p ≡ false
unfolding may_follow
early_before place.Start l m early = refl
early_before place.Version l m early = refl
early_before place.Period l m early = refl
early_before place.Groups l m early = refl
early_before place.Seed l m early = refl
early_before place.Router l m early = refl
early_before place.Link l m early = refl
early_before place.Prefix (Prefix name net cost) m early = absurd cc
early_before place.Prefix Feed m early = absurd cc
early_before place.Feed (External group name a) m early = absurd cc
early_before place.Feed End m early = absurd cc
early_before place.External (External group name a) m early = absurd cc
early_before place.External End m early = absurd cc
early_before _ _ m early = absurd cc

laid_next : (s : Standing) (text : List ℕ) (l : Line) (done : List (List ℕ)) → IsLaid s done → line_of text ≡ Some l → may_follow s.place (place_of l) ≡ true → first_of (table s l) ≡ None → Sound s.place (case_of s) → IsLaid (after s l) (done ++ text ∷ [])
laid_next s text (Version n) done laid shape m free sound = (let k = more s (Version n) m tt free sound in early_same s _ text (Version n) done laid (early_before s.place (Version n) m refl) refl (read_spelled text (Version n) shape k.within).0 k.others)
laid_next s text (Period n) done laid shape m free sound = (let k = more s (Period n) m tt free sound in early_same s _ text (Period n) done laid (early_before s.place (Period n) m refl) refl (read_spelled text (Period n) shape k.within).0 k.others)
laid_next s text (Groups n) done laid shape m free sound = (let k = more s (Groups n) m tt free sound in early_same s _ text (Groups n) done laid (early_before s.place (Groups n) m refl) refl (read_spelled text (Groups n) shape k.within).0 k.others)
laid_next s text (Seed n) done laid shape m free sound = (let k = more s (Seed n) m tt free sound in early_same s _ text (Seed n) done laid (early_before s.place (Seed n) m refl) refl (read_spelled text (Seed n) shape k.within).0 k.others)
laid_next s text (Router name r) done laid shape m free sound =
    let l = Router name r in
    let k = more s l m (well text l shape) free sound in
    let early = early_before s.place l m refl in
    early_laid s _ text l done laid early (λ i. one_more_bare s.routers _ i refl (no_prefix_yet s done laid early i)) (read_spelled text l shape k.within).0 k.others
laid_next s text (Link a b delay cost) done laid shape m free sound =
    let l = Link a b delay cost in
    let k = more s l m tt free sound in
    early_same s _ text l done laid (early_before s.place l m refl) refl (read_spelled text l shape k.within).0 k.others
laid_next s text (Prefix name net cost) done laid shape m free sound = prefix_laid s text name net cost done laid (head_prefix s.place m) shape free
laid_next s text Feed done laid shape m free sound = feed_laid s text done laid m sound (read_spelled text Feed shape tt).0
laid_next s text (External group name a) done laid shape m free sound =
    let l = External group name a in
    let w = well text l shape in
    let k = more s l m w free sound in
    let again = line_again s group name a (before_external s.place (case_of s) m sound).header w free in
    external_laid s text group name a done laid (fed_external s.place m) again.2 (read_spelled text l shape k.within).0
laid_next s text End done laid shape m free sound = end_laid s text done laid (fed_end s.place m) (read_spelled text End shape tt).0

laid_all : (ls done : List (List ℕ)) (s t : Standing) → IsLaid s done → Sound s.place (case_of s) → Leads s ls t → IsLaid t (done ++ ls)
laid_all [] done s t laid sound leads = subst (λ (u : Standing). IsLaid u (done ++ [])) leads (subst (λ (x : List (List ℕ)). IsLaid s x) (sym (append-nil done)) laid)
laid_all (text ∷ ls) done s t laid sound leads =
    let k = is_taken s text leads.0 leads.1 in
    let next = subst (λ (u : Standing). IsLaid u (done ++ text ∷ [])) (sym k.is) (laid_next s text k.line done laid k.shape k.follows k.free sound) in
    subst (λ (x : List (List ℕ)). IsLaid t x) (append_assoc done (text ∷ []) ls) (laid_all ls (done ++ text ∷ []) leads.0 t next (read_sound s text leads.0 leads.1 sound) leads.2)

start_laid : IsLaid start []
start_laid = record { prefixes = []; is = refl; early = λ _. refl; order = λ i. refl }

record IsLaidSo (ls : List (List ℕ)) (c : Recording) : Type 0 where
  prefixes : Items
  is : ls ≡ map spelled (front_lines_at place.End c) ++ (middle c.header.routers prefixes ++ map spelled (feed_lines_at place.End c))
  order : IsInterleaving (prefixes_of c.header.routers) prefixes

laid_so : (ls : List (List ℕ)) (s : Standing) (c : Recording) → IsLaid s ls → s.place ≡ place.End → case_of s ≡ c → IsLaidSo ls c
laid_so ls s c laid ends says =
    let at_end = λ (p : Place) (d : Recording). map spelled (front_lines_at p d) ++ (middle d.header.routers laid.prefixes ++ map spelled (feed_lines_at p d)) in
    record {
      prefixes = laid.prefixes;
      is = laid.is ∙ ap (λ (p : Place). at_end p (case_of s)) ends ∙ ap (λ (d : Recording). at_end place.End d) says;
      order = subst (λ (d : Recording). IsInterleaving (prefixes_of d.header.routers) laid.prefixes) says laid.order;
    }

parts_joined : (n r k p f : List Line) → map spelled (n ++ (r ++ k)) ++ (map spelled p ++ map spelled f) ≡ map spelled ((n ++ (r ++ (k ++ p))) ++ f)
parts_joined n r k p f =
    sym (append_assoc (map spelled (n ++ (r ++ k))) (map spelled p) (map spelled f)) ∙ ap (λ (x : List (List ℕ)). x ++ map spelled f) (sym (four_joined n r k p)) ∙ sym (map-append spelled (n ++ (r ++ (k ++ p))) f)

-- the lines of a case text are those of the case
pub case_spelled : (ls : List (List ℕ)) (c : Recording) → IsCaseText ls c → Spells ls c
case_spelled ls c h =
    let laid = laid_so ls h.last c (laid_all ls [] start h.last start_laid start_sound h.leads) h.ends h.says in
    let sound : Sound h.last.place (case_of h.last) = leads_sound ls start h.last h.leads start_sound in
    let meets : IsRecording (case_of h.last) = subst (λ (p : Place). Sound p (case_of h.last)) h.ends sound in
    let rs = c.header.routers in
    record {
      meets = subst (λ (d : Recording). IsRecording d) h.says meets;
      prefixes = laid.prefixes;
      order = laid.order;
      are = laid.is ∙ parts_joined (number_lines_at place.End c) (map router_line rs) (map (link_line rs) c.header.links) (numbered_lines rs laid.prefixes) (feed_lines_at place.End c);
    }

all_prefixes : (rs : List RouterDef) (xs : Items) → AllByRecursion IsSpellable (numbered_lines rs xs) → ArePrefixLines (middle rs xs)
all_prefixes rs [] all = tt
all_prefixes rs (x ∷ xs) all =
    (ap (λ (o : Option Line). not (is_some (prefix_name o))) (spelled_again (prefix_line (name_at rs x.0) x.1) all.0), all_prefixes rs xs all.1)

pub stand_together : (ls ms : List (List ℕ)) (c : Recording) → IsCaseText ls c → IsCaseText ms c → StandTogether ls ms
stand_together ls ms c p q =
    let k = case_spelled ls c p in
    let l = case_spelled ms c q in
    let rs = c.header.routers in
    let split = λ (xs : Items). parts_joined (number_lines_at place.End c) (map router_line rs) (map (link_line rs) c.header.links) (numbered_lines rs xs) (feed_lines_at place.End c) in
    record {
      front = map spelled (front_lines_at place.End c);
      first = middle rs k.prefixes;
      second = middle rs l.prefixes;
      back = map spelled (feed_lines_at place.End c);
      ls_are = k.are ∙ sym (split k.prefixes);
      ms_are = l.are ∙ sym (split l.prefixes);
      prefixes = (all_prefixes rs k.prefixes (prefixes_spellable rs k.prefixes k.meets.header.routers k.order), all_prefixes rs l.prefixes (prefixes_spellable rs l.prefixes l.meets.header.routers l.order));
    }
