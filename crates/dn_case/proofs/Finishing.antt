-- Whatever stands so far can be made a case.
use Rattle.std.proofs.Common.{◌≡◌, ℕ, List, [], ◌∷◌, Option, Some, Ok, refl, sym, ap, subst, ◌∙◌, codes}
use Rattle.dn_model.specs.declared.router.Kind.TheVariants as kind
use Rattle.dn_model.specs.declared.router.RouterDef.{RouterDef}
use Rattle.dn_text.specs.declared.decimals.Number.TheVariants.{Is}
use Rattle.dn_text.specs.Decimals.{numeral_of}
use Rattle.dn_model.specs.Routers.{number_of as router_number}
use Rattle.dn_text.specs.Lines.{parts}
use Rattle.dn_case.specs.declared.standing.Standing.{Standing}
use Rattle.dn_case.specs.declared.place.Place.{Place}
use Rattle.dn_case.specs.declared.place.Place.TheVariants as place
use Rattle.dn_case.specs.Shapes.{Line, Version, Period, Groups, Seed, Router, Feed, End, kind_of, one_field, two_fields, three_fields, before_newline, line_of}
use Rattle.dn_case.specs.Standings.{may_follow, after, judged, start}
use Rattle.dn_case.specs.Reading.{Leads, case_of, BeginsCaseText}
use Rattle.dn_case.proofs.Leading.{leads_join}
use Rattle.dn_case.proofs.Sound.{Sound, leads_sound, start_sound}

-- ---- lines that are enough

end_line : line_of (codes "end\n") ≡ Some End
unfolding line_of before_newline parts one_field
end_line = refl

feed_line : line_of (codes "feed\n") ≡ Some Feed
unfolding line_of before_newline parts one_field
feed_line = refl

router_line : line_of (codes "router a flood\n") ≡ Some (Router (codes "a") kind.Flood)
unfolding line_of before_newline parts three_fields kind_of
router_line = refl

seed_line : line_of (codes "seed 0\n") ≡ Some (Seed (Is 0))
unfolding line_of before_newline parts two_fields numeral_of
seed_line = refl

groups_line : line_of (codes "groups 1\n") ≡ Some (Groups (Is 1))
unfolding line_of before_newline parts two_fields numeral_of
groups_line = refl

period_line : line_of (codes "period 1\n") ≡ Some (Period (Is 1))
unfolding line_of before_newline parts two_fields numeral_of
period_line = refl

version_line : line_of (codes "defined 1\n") ≡ Some (Version (Is 1))
unfolding line_of before_newline parts two_fields numeral_of
version_line = refl

-- ---- to the end

pub record Finishes (s : Standing) : Type 0 where
  pub more : List (List ℕ)
  pub last : Standing
  pub leads : Leads s more last
  pub ends : last.place ≡ place.End

on : (s u : Standing) (text : List ℕ) (l : Line) → line_of text ≡ Some l → judged s (Some l) ≡ Ok u → Finishes u → Finishes s
on s u text l is judges f =
    record { more = text ∷ f.more; last = f.last; leads = (u, ap (λ (o : Option Line). judged s o) is ∙ judges, f.leads); ends = f.ends }

abbrev at : Place → Standing → Standing
at p s = record s { place = p }

at_end : (s : Standing) → Finishes (at place.End s)
at_end s = record { more = []; last = at place.End s; leads = refl; ends = refl }

at_external : (s : Standing) → Finishes (at place.External s)
unfolding may_follow
at_external s = on (at place.External s) (at place.End s) (codes "end\n") End end_line refl (at_end s)

at_feed : (s : Standing) → Finishes (at place.Feed s)
unfolding may_follow
at_feed s = on (at place.Feed s) (at place.End s) (codes "end\n") End end_line refl (at_end s)

at_prefix : (s : Standing) → Finishes (at place.Prefix s)
unfolding may_follow
at_prefix s = on (at place.Prefix s) (at place.Feed s) (codes "feed\n") Feed feed_line refl (at_feed s)

at_link : (s : Standing) → Finishes (at place.Link s)
unfolding may_follow
at_link s = on (at place.Link s) (at place.Feed s) (codes "feed\n") Feed feed_line refl (at_feed s)

at_router : (s : Standing) → Finishes (at place.Router s)
unfolding may_follow
at_router s = on (at place.Router s) (at place.Feed s) (codes "feed\n") Feed feed_line refl (at_feed s)

-- before the routers there is none
abbrev early : Place → Standing → Standing
early p s = record s { place = p; routers = [] }

at_seed : (s : Standing) → Finishes (early place.Seed s)
unfolding may_follow router_number
at_seed s = let l = Router (codes "a") kind.Flood in on (early place.Seed s) (after (early place.Seed s) l) (codes "router a flood\n") l router_line refl (at_router (after (early place.Seed s) l))

at_groups : (s : Standing) → Finishes (early place.Groups s)
unfolding may_follow
at_groups s = let l = Seed (Is 0) in on (early place.Groups s) (after (early place.Groups s) l) (codes "seed 0\n") l seed_line refl (at_seed (after (early place.Groups s) l))

at_period : (s : Standing) → Finishes (early place.Period s)
unfolding may_follow
at_period s = let l = Groups (Is 1) in on (early place.Period s) (after (early place.Period s) l) (codes "groups 1\n") l groups_line refl (at_groups (after (early place.Period s) l))

at_version : (s : Standing) → Finishes (early place.Version s)
unfolding may_follow
at_version s = let l = Period (Is 1) in on (early place.Version s) (after (early place.Version s) l) (codes "period 1\n") l period_line refl (at_period (after (early place.Version s) l))

at_start : (s : Standing) → Finishes (early place.Start s)
unfolding may_follow
at_start s = let l = Version (Is 1) in on (early place.Start s) (after (early place.Start s) l) (codes "defined 1\n") l version_line refl (at_version (after (early place.Start s) l))

finish_at : (p : Place) (s : Standing) → Sound p (case_of s) → Finishes (at p s)
finish_at place.Start s none = subst (λ (rs : List RouterDef). Finishes (record s { place = place.Start; routers = rs })) (sym none.routers) (at_start s)
finish_at place.Version s none = subst (λ (rs : List RouterDef). Finishes (record s { place = place.Version; routers = rs })) (sym none.routers) (at_version s)
finish_at place.Period s none = subst (λ (rs : List RouterDef). Finishes (record s { place = place.Period; routers = rs })) (sym none.0.routers) (at_period s)
finish_at place.Groups s none = subst (λ (rs : List RouterDef). Finishes (record s { place = place.Groups; routers = rs })) (sym none.0.routers) (at_groups s)
finish_at place.Seed s none = subst (λ (rs : List RouterDef). Finishes (record s { place = place.Seed; routers = rs })) (sym none.0.routers) (at_seed s)
finish_at place.Router s h = at_router s
finish_at place.Link s h = at_link s
finish_at place.Prefix s h = at_prefix s
finish_at place.Feed s h = at_feed s
finish_at place.External s h = at_external s
finish_at place.End s h = at_end s

pub finish : (s : Standing) → Sound s.place (case_of s) → Finishes s
finish s h = finish_at s.place s h

-- Lines none of which is bad begin a case text.
pub begins : (ls : List (List ℕ)) (t : Standing) → Leads start ls t → BeginsCaseText ls
begins ls t h =
    let f = finish t (leads_sound ls start t h start_sound) in
    record { more = f.more; case = case_of f.last; whole = record { last = f.last; leads = leads_join ls f.more start t f.last h f.leads; ends = f.ends; says = refl } }
