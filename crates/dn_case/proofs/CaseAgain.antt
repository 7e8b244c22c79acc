-- The lines of a case that meets the rules are read again, in each order of the prefix lines.
use Rattle.std.proofs.Common.{◌≡◌, ℕ, ◌≤◌, true, List, [], ◌∷◌, ◌++◌, length, map, refl, sym, subst}
use Rattle.dn_model.specs.declared.router.Prefix.{Prefix as PrefixDef}
use Rattle.dn_model.specs.declared.link.Link.{Link as LinkDef}
use Rattle.dn_model.specs.declared.feed.External.{External as ExternalDef}
use Rattle.dn_model.specs.Cases.{Recording, AreRouters, AreLinks, IsHeading, IsRecording}
use Rattle.dn_case.specs.declared.standing.Standing.{Standing}
use Rattle.dn_case.specs.declared.place.Place.{Place}
use Rattle.dn_case.specs.declared.place.Place.TheVariants as place
use Rattle.dn_case.specs.Shapes.{Line, Feed, End}
use Rattle.dn_case.specs.Standings.{may_follow, start}
use Rattle.dn_case.specs.Spelling.{spelled, number_lines, router_line, link_line, external_line, header_lines_with, lines_with, lines_of}
use Rattle.dn_case.specs.CaseTexts.{IsInterleaving, prefixes_of, numbered_lines, case_lines}
use Rattle.dn_case.specs.Reading.{Leads, IsCaseText}
use Rattle.dn_case.proofs.RoundTrip.{reads_on, numbered_at, numbers_lead, at, bares, length_bares, are_bare, routers_lead, not_none, behind_links, lines_of_bare, links_lead, with_feed, behind_feed, externals_lead}
use Rattle.dn_case.proofs.PrefixLeads.{lines_join, prefixes_lead}
use Rattle.dn_case.proofs.Interleavings.{in_order, is_in_order, lines_in_order}

abbrev headed : Place → Recording → Standing
headed p c = record { place = p; period = c.header.period; groups = c.header.groups; seed = c.header.seed; routers = c.header.routers; links = c.header.links; feed = [] }

prefix_follows : (links : List LinkDef) → may_follow (behind_links place.Router links) place.Prefix ≡ true
unfolding may_follow
prefix_follows [] = refl
prefix_follows (l ∷ links) = refl

feed_follows : (links : List LinkDef) → may_follow (behind_links place.Router links) place.Feed ≡ true
unfolding may_follow
feed_follows [] = refl
feed_follows (l ∷ links) = refl

-- the header's lines lead to the place q, behind which the line of the feed may stand
record HeaderLeads (c : Recording) (lines : List Line) : Type 0 where
  q : Place
  follows : may_follow q place.Feed ≡ true
  leads : Leads start (map spelled (header_lines_with c.header lines)) (headed q c)

header_leads : (c : Recording) (xs : List (ℕ × PrefixDef)) → IsHeading c.header → IsInterleaving (prefixes_of c.header.routers) xs → HeaderLeads c (numbered_lines c.header.routers xs)
unfolding may_follow
header_leads c xs h order =
    let k = c.header in
    let rs = k.routers in
    let bare_rs : AreRouters [] (bares rs) = are_bare [] [] rs refl h.routers in
    let few : length (bares rs) ≤ 64 = subst (λ (n : ℕ). n ≤ 64) (sym (length_bares rs)) h.few in
    let links : AreLinks (length (bares rs)) [] k.links = subst (λ (n : ℕ). AreLinks n [] k.links) (sym (length_bares rs)) h.links in
    let s0 = numbered_at k in
    let s1 = at place.Router (bares rs) s0 in
    let p = behind_links place.Router k.links in
    let s2 : Standing = record { place = p; period = k.period; groups = k.groups; seed = k.seed; routers = bares rs; links = k.links; feed = [] } in
    let linked : Leads s1 (map spelled (map (link_line (bares rs)) k.links)) s2 = links_lead place.Router s1 [] k.links refl bare_rs links h.few_links in
    let linked' : Leads s1 (map spelled (map (link_line rs) k.links)) s2 = subst (λ (l : List Line). Leads s1 (map spelled l) s2) (lines_of_bare rs k.links) linked in
    let prefixes = prefixes_lead p s2 rs xs (prefix_follows k.links) (feed_follows k.links) h.routers order in
    record {
      q = prefixes.q;
      follows = prefixes.feed;
      leads =
          lines_join (number_lines k) _ start s0 (headed prefixes.q c) (numbers_lead k h)
          (lines_join (map router_line rs) _ s0 s1 (headed prefixes.q c) (routers_lead place.Seed s0 [] rs refl (not_none rs h.some) bare_rs few)
          (lines_join (map (link_line rs) k.links) _ s1 s2 (headed prefixes.q c) linked' prefixes.leads));
    }

end_follows : (xs : List ExternalDef) → may_follow (behind_feed place.Feed xs) place.End ≡ true
unfolding may_follow
end_follows [] = refl
end_follows (x ∷ xs) = refl

abbrev ended : Recording → Standing
ended c = record { place = place.End; period = c.header.period; groups = c.header.groups; seed = c.header.seed; routers = c.header.routers; links = c.header.links; feed = c.feed }

end_leads : (c : Recording) → Leads (with_feed (behind_feed place.Feed c.feed) c.feed (headed place.Feed c)) (map spelled (End ∷ [])) (ended c)
end_leads c =
    let s = with_feed (behind_feed place.Feed c.feed) c.feed (headed place.Feed c) in
    (ended c, reads_on s End tt (end_follows c.feed) refl, refl)

feed_leads : (q : Place) (c : Recording) → may_follow q place.Feed ≡ true → IsRecording c → Leads (headed q c) (map spelled (Feed ∷ (map (external_line c.header.routers) c.feed ++ (End ∷ [])))) (ended c)
unfolding may_follow
feed_leads q c m h =
    let s = headed q c in
    let t = headed place.Feed c in
    let u = with_feed (behind_feed place.Feed c.feed) c.feed t in
    let externals = externals_lead place.Feed t [] c.feed refl h.header h.feed in
    (t, reads_on s Feed tt m refl, lines_join (map (external_line c.header.routers) c.feed) (End ∷ []) t u (ended c) externals (end_leads c))

-- The lines of a case that meets the rules are a case text of that case, in each order of the prefix lines.
pub lines_taken : (c : Recording) (xs : List (ℕ × PrefixDef)) → IsRecording c → IsInterleaving (prefixes_of c.header.routers) xs → IsCaseText (map spelled (case_lines c xs)) c
lines_taken c xs h order =
    let lines = numbered_lines c.header.routers xs in
    let header = header_leads c xs h.header order in
    record {
      last = ended c;
      leads = lines_join (header_lines_with c.header lines) _ start (headed header.q c) (ended c) header.leads (feed_leads header.q c header.follows h);
      ends = refl;
      says = refl;
    }

-- So they are in the order of the routers.
pub lines_again : (c : Recording) → IsRecording c → IsCaseText (map spelled (lines_of c)) c
lines_again c h =
    subst (λ (lines : List Line). IsCaseText (map spelled (lines_with c lines)) c) (lines_in_order c.header.routers)
    (lines_taken c (in_order 0 c.header.routers) h (is_in_order c.header.routers))
