use Rattle.std.proofs.Common.{◌≡◌, ◌++◌, ◌∷◌, [], ℕ, List, false, nat_eq, None, sym, ap, ◌∙◌}
use Rattle.std.specs.Prelude.{position}
use Rattle.std.specs.List.{list_any}
use Rattle.std.specs.Cmp.Lexicographic.{pointwise}
use Rattle.std.proofs.lemmas.List.{map_push}
use Rattle.dn_model.specs.declared.router.RouterDef.{RouterDef}
use Rattle.dn_model.specs.Routers.{number_of}
use Rattle.dn_case.proofs.RouterLaws.{position_of_map, nowhere}
use Rattle.dn_case.proofs.known_routers.KnownRouters.push.Goals as goal

pub invariant_of-self-in-Ok : goal.invariant_of-self-in-Ok
unfolding number_of
invariant_of-self-in-Ok c =
    let router = c.args.router in
    let inside = c.self.inside in
    let keys = inside.names.keys in
    let value = c.in_ok-name.name in
    let test = λ (n : List ℕ). pointwise nat_eq router.name n in
    let made : value.items ≡ router.name = c.in_ok-name.ensures.items ∙ c.as_slice.ensures.same in
    let absent : number_of inside.items.items router.name ≡ None = ap (λ (rs : List RouterDef). number_of rs router.name) c.self.view_is ∙ c.requires in
    let none : position (λ v. pointwise nat_eq router.name v.items) keys ≡ None =
    sym (position_of_map test (λ k. k.items) keys) ∙ ap (λ (names : List (List ℕ)). position test names) c.self.invariant
    ∙ position_of_map test (λ (r : RouterDef). r.name) inside.items.items ∙ absent in
    let any : list_any (λ v. pointwise nat_eq router.name v.items) keys ≡ false = nowhere (λ v. pointwise nat_eq router.name v.items) keys none in
    let any-value : list_any (λ v. pointwise nat_eq value.items v.items) keys ≡ false = rw made any in
    let added : c.insert.new.self.keys ≡ keys ++ value ∷ [] = rw any-value at c.in-Ok.ensures.keys in
    let items : c.push.new.self.items ≡ inside.items.items ++ router ∷ [] = c.in_ok-push.ensures.items in
    rw (added, items) (map_push (λ v. v.items) keys value ∙ rw made (ap (λ (names : List (List ℕ)). names ++ router.name ∷ []) c.self.invariant) ∙ sym (map_push (λ (r : RouterDef). r.name) inside.items.items router))
