-- A line that is accepted: its external meets the rules, and what the feed keeps goes on holding.
use Rattle.std.proofs.Common.{◌≡◌, ℕ, ◌+◌, ◌<◌, ◌≤◌, false, true, List, [], ◌∷◌, ◌++◌, Option, refl, ap, sym, subst, ◌∙◌, arith}
use Rattle.dn_guest.specs.declared.input.Input.{Input}
use Rattle.dn_model.specs.declared.feed.External.{External}
use Rattle.dn_model.specs.Cases.{IsExternal, AreExternals, IsAsked}
use Rattle.dn_model.specs.Links.{ports_of}
use Rattle.dn_io.specs.Beats.{Passes}
use Rattle.dn_case.specs.LiveLines.{IsLiveLine, untimed}
use Rattle.dn_record.specs.Feeding.{last_group}
use Rattle.dn_record.specs.Stamps.{Stamping, stamp_of}
use Rattle.dn_record.specs.Live.{Live, Heard, external_of}
use Rattle.dn_record.specs.Listening.{IsLive, Accepts}
use Rattle.dn_record.proofs.Hearing.{externals_more}

-- v is what the feed keeps, by its fields, and w the same as it is seen
module _ (v w : Live) (groups : ℕ) (seen : v ≡ w) (live : IsLive v groups) (router : ℕ) (input kept : Input) (text : List ℕ) (read : IsLiveLine w.header router input text) (same : kept ≡ input) where
  pub meets : (group : ℕ) → w.last ≡ last_group 0 w.given → v.last ≤ group → group < groups → IsExternal v.header (last_group 0 v.given) (record { group = group; router = router; input = kept })
  meets group last rises inside =
      let own : IsExternal v.header 0 (untimed router input) = subst (λ (u : Live). IsExternal u.header 0 (untimed router input)) (sym seen) read.meets in
      let low : v.last ≡ last_group 0 v.given = subst (λ (u : Live). u.last ≡ last_group 0 u.given) (sym seen) last in
      record {
        rises = omega (arith, low, rises);
        group = omega (arith, live.same_groups, inside);
        router = own.router;
        asked = subst (λ (i : Input). IsAsked (ports_of v.header.links router) i) (sym same) own.asked;
      }

  pub accept_keeps : w.spent ≡ true → w.last ≡ last_group 0 w.given → (r : Stamping) (group : ℕ) → r ≡ record { groups = groups; last = group } → v.last ≤ group → group < groups → (given : List External) → given ≡ v.given ++ record { group = group; router = router; input = kept } ∷ [] → IsLive (record v { given = given; last = r.last; number = v.number + 1 }) r.groups
  accept_keeps spent last r group r_is rises inside given given_is =
      let is_spent : v.spent ≡ true = ap (λ (u : Live). u.spent) seen ∙ spent in
      record {
        same_groups = ap (λ (s : Stamping). s.groups) r_is ∙ live.same_groups;
        feed = subst (λ (l : List External). AreExternals v.header 0 l) (sym given_is) (externals_more v.header 0 v.given (record { group = group; router = router; input = kept }) live.feed (meets group last rises inside));
        last = λ unspent. cc;
        reader = λ unclosed. let unspent : v.spent ≡ false = unclosed.1 in cc;
        number = λ unclosed. let unspent : v.spent ≡ false = unclosed.1 in absurd cc;
      }

  pub accept_is : (r : Stamping) (group beat : ℕ) → group ≡ stamp_of groups v.last beat → r ≡ record { groups = groups; last = group } → (given : List External) → given ≡ v.given ++ record { group = group; router = router; input = kept } ∷ [] → (beats now : Option (ℕ → ℕ)) → Passes beat beats now → Accepts text w (record v { given = given; last = r.last; number = v.number + 1 }) beats now
  accept_is r group beat stamp r_is given given_is beats now passes =
      let line : Heard = record { text = text; router = router; input = input; beat = beat } in
      let group_is : group ≡ stamp_of v.header.groups v.last beat = stamp ∙ ap (λ (n : ℕ). stamp_of n v.last beat) live.same_groups in
      let external : record { group = group; router = router; input = kept } ≡ external_of (stamp_of v.header.groups v.last beat) line = λ i. record { group = group_is i; router = router; input = same i } in
      let all : given ≡ v.given ++ external_of (stamp_of v.header.groups v.last beat) line ∷ [] = given_is ∙ ap (λ (x : External). v.given ++ x ∷ []) external in
      let last : r.last ≡ stamp_of v.header.groups v.last beat = ap (λ (s : Stamping). s.last) r_is ∙ group_is in
      let here : Live = record v { given = given; last = r.last; number = v.number + 1 } in
      let made : here ≡ record v { given = v.given ++ external_of (stamp_of v.header.groups v.last beat) line ∷ []; last = stamp_of v.header.groups v.last beat; number = v.number + 1 } = λ i. record v { given = all i; last = last i; number = v.number + 1 } in
      record {
        line = line;
        is = refl;
        read = read;
        beat = passes.0;
        later = passes.1;
        new_is = subst (λ (u : Live). here ≡ record u { given = u.given ++ external_of (stamp_of u.header.groups u.last beat) line ∷ []; last = stamp_of u.header.groups u.last beat; number = u.number + 1 }) seen made;
      }
