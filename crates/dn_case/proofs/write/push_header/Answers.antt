use Rattle.std.proofs.Common.{◌≡◌, ◌++◌, [], ℕ, List, sym, ap, ◌∙◌}
use Rattle.std.specs.List.{flat_map}
use Rattle.dn_model.specs.declared.router.RouterDef.{RouterDef}
use Rattle.dn_model.specs.declared.link.Link.{Link}
use Rattle.dn_model.specs.Cases.{Heading}
use Rattle.dn_case.specs.Spelling.{spelled, router_line, link_line, prefixes_text}
use Rattle.dn_case.proofs.Texts.{header_text, header_joined, links_inside, on_ok}
use Rattle.dn_case.proofs.write.push_header.Goals as goal

pub push_links-requires : goal.push_links-requires
push_links-requires c = rw (c.as_slice-routers.ensures, c.as_slice.ensures) (links_inside _ [] _ c.header.invariant.links)

pub returns-clause-ok : goal.returns-clause-ok
returns-clause-ok c =
    let h : Heading = c.args.header.now in
    let rs : c.as_slice-routers.result.now ≡ h.routers = c.as_slice-routers.ensures ∙ ap (λ (x : Heading). x.routers) c.header.view_is in
    let ls : c.as_slice.result.now ≡ h.links = c.as_slice.ensures ∙ ap (λ (x : Heading). x.links) c.header.view_is in
    let routers = c.in_ok-push_routers.ensures.ok ∙ ap (λ (x : List RouterDef). c.push_numbers.new.out ++ flat_map (λ r. spelled (router_line r)) x) rs in
    let links =
    c.in_ok-push_links.ensures.ok
    ∙ ap (λ (x : List RouterDef). c.push_routers.new.out ++ flat_map (λ l. spelled (link_line x l)) c.as_slice.result.now) rs
    ∙ ap (λ (x : List Link). c.push_routers.new.out ++ flat_map (λ l. spelled (link_line h.routers l)) x) ls in
    let prefixes = ap (λ (x : List RouterDef). c.push_links.new.out ++ flat_map prefixes_text x) rs in
    on_ok c.push_all_prefixes.result _ _
    (λ (p : c.push_all_prefixes.new.out ≡ c.push_links.new.out ++ flat_map prefixes_text c.as_slice-routers.result.now).
    header_joined _ _ _ _ _ _ _ _ _ c.in_ok-push_numbers.ensures.ok routers links (p ∙ prefixes)
    ∙ ap (λ (t : List ℕ). c.args.out.now ++ t) (sym (header_text h)))
    c.push_all_prefixes.ensures.ok
