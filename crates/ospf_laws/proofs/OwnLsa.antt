-- The own LSA at the end of a step.
use Rattle.std.proofs.Common.{◌≡◌, ◌≢◌, ◌⊎◌, inl, inr, ℕ, Bool, true, false, not, cond, ◌&&◌, ◌||◌, ◌==◌, ◌+◌, ◌≤◌, ◌<◌, List, [], ◌∷◌, Option, Some, None, refl, sym, ap, subst, ◌∙◌, arith}
use Rattle.std.specs.Prelude.{Contains, IfSome, filter, fold, is_some, nat_eq, nat_le, option_map}
use Rattle.std.specs.Cmp.Lexicographic.{bytes_decides, pointwise}
use Rattle.std.specs.List.{AllByRecursion}
use Rattle.std.specs.Map.{keys_of}
use Rattle.std.specs.BTreeMap.{is_at}
use Rattle.std.proofs.lemmas.Bool.Decides.{Decides-eqb, nat_tests}
use Rattle.std.proofs.lemmas.Cmp.{eq_by_cmp_equiv}
use Rattle.std.proofs.lemmas.List.Elements.{All-contains_itself, All-weaker, recursion_from_All}
use Rattle.std.proofs.lemmas.Map.Keys.{IsDistinct-from_sorted}
use Rattle.std.proofs.lemmas.Map.Views.{lookup-from_Contains}
use Rattle.std.proofs.lemmas.Option.{same_Some}
use Rattle.dn_guest.specs.declared.input.Input.{Input}
use Rattle.ospf_lsdb.specs.declared.key.LsaKey.{LsaKey}
use Rattle.ospf_lsdb.specs.declared.kept.Kept.{Kept}
use Rattle.ospf_lsdb.specs.Keys.{key_cmp, own_key}
use Rattle.ospf_lsdb.specs.Kept.{age_of, fresh, sent_at}
use Rattle.ospf_lsdb.specs.Database.{Database, changed, kept_at, max_age_lsas, next_sequence_number, own_lsa, with_own, without}
use Rattle.ospf_lsdb.proofs.DatabaseLaws.{key_cmp_total}
use Rattle.ospf_lsdb.proofs.Lookups.{changed_here, put_here, removed_elsewhere}
use Rattle.ospf_flood.specs.Flooding.{note_flooded}
use Rattle.ospf_router.specs.declared.router.Router.{Router}
use Rattle.ospf_router.specs.Interfaces.{AtPorts, full_mask, is_listed}
use Rattle.ospf_router.specs.Flooding.{flood_lsa}
use Rattle.ospf_router.specs.Origination.{finish_step, has_next_sequence_number, is_outdated, may_originate, originate_if_needed, originate_own_lsa, remove_max_age_lsa, remove_max_age_lsas, wanted_body, wanted_links}
use Rattle.ospf_router.specs.Sound.{HasBytes, IsSoundState}
use Rattle.ospf_router.specs.State.{OspfState, id_of, router_of, state_of}
use Rattle.ospf_router.specs.Step.{handled, is_passed_over, next, ospf_after, stepped}
use Rattle.ospf_laws.specs.Current.{HasCurrentLsa, IsAtLastSequence, IsCurrent, IsRecent, IsSpaced}
use Rattle.ospf_laws.proofs.Choice.{and_true, choose, not_false, or_false}
use Rattle.ospf_laws.proofs.Handled.{originated-handled}
use Rattle.ospf_laws.proofs.Removal.{Rises, SoundHandled, rises-originate}

-- ---- two originations

apart_by : (o : Option ℕ) (now : ℕ) → may_originate now o ≡ true → IfSome o (λ tick. tick + 5 ≤ now)
apart_by None now may = tt
apart_by (Some tick) now may = grind (arith, nat_tests)

-- the last origination is as before, or it is now and apart from the one before
abbrev pub Spaced : Option ℕ → ℕ → Option ℕ → Type 0
Spaced before now after = (after ≡ before) ⊎ IsSpaced now before after

spaced-originate : (ports : ℕ) (r : Router) → Spaced r.originated (originate_if_needed ports r).tick (originate_if_needed ports r).originated
unfolding originate_if_needed originate_own_lsa flood_lsa
spaced-originate ports r =
    let own = kept_at r.db (own_key (id_of r)) in
    let wanted = wanted_body ports r in
    let may = may_originate r.tick r.originated in
    let outdated = is_outdated r.tick wanted own in
    choose (λ (t : Router). Spaced r.originated t.tick t.originated) (may && outdated && has_next_sequence_number own)
    (originate_own_lsa (full_mask ports r.interfaces) wanted r) r
    (λ t. inr (record {
      now_is = refl;
      apart = apart_by r.originated r.tick (and_true may outdated (and_true (may && outdated) (has_next_sequence_number own) t).0).0;
    }))
    (λ _. inl refl)

spaced-finish_step : (ports : ℕ) (r : Router) → Spaced r.originated (finish_step ports r).tick (finish_step ports r).originated
unfolding finish_step remove_max_age_lsas
spaced-finish_step ports r = spaced-originate ports r

pub spaced-step : (s : OspfState) (ports : ℕ) (i : Input) → Spaced s.originated (ospf_after s ports i).tick (ospf_after s ports i).originated
unfolding ospf_after next stepped
spaced-step s ports i =
    choose (λ (t : Router). Spaced s.originated t.tick t.originated) (is_passed_over s.tick i) (router_of s) (finish_step ports (handled ports i (router_of s)))
    (λ _. inl refl)
    (λ _. subst (λ (o : Option ℕ). Spaced o (finish_step ports (handled ports i (router_of s))).tick (finish_step ports (handled ports i (router_of s))).originated)
    (originated-handled ports i (router_of s)) (spaced-finish_step ports (handled ports i (router_of s))))

-- ---- what isn't of age MaxAge isn't removed

held_each : (db : Database) → Rises db → AllByRecursion (λ e. kept_at db e.0 ≡ Some e.1) db
held_each db up =
    let there : (e : LsaKey × Kept) → Contains db e → kept_at db e.0 ≡ Some e.1 =
    λ e among. lookup-from_Contains {eq = λ (m n : LsaKey). is_at (key_cmp m) n} (eq_by_cmp_equiv key_cmp_total) e.0 e.1 db (IsDistinct-from_sorted key_cmp (keys_of db) up) among in
    recursion_from_All (λ (e : LsaKey × Kept). kept_at db e.0 ≡ Some e.1) db
    (All-weaker (Contains db) (λ (e : LsaKey × Kept). kept_at db e.0 ≡ Some e.1) there db (All-contains_itself db))

other_by : (b : Bool) (all : Database) (now : ℕ) (key : LsaKey) (k : Kept) (e : LsaKey × Kept) (rest : Database) → (age_of now e.1 == 3600) ≡ b
    → kept_at all key ≡ Some k → age_of now k ≢ 3600 → kept_at all e.0 ≡ Some e.1 → AllByRecursion (λ q. q ≢ key) (keys_of rest)
    → AllByRecursion (λ q. q ≢ key) (keys_of (cond b (e ∷ rest) rest))
other_by true all now key k e rest t found young held more =
    let differ : e.0 ≢ key = λ same.
    let at_key : kept_at all key ≡ Some e.1 = subst (λ (q : LsaKey). kept_at all q ≡ Some e.1) same held in
    let one : e.1 ≡ k = same_Some e.1 k (sym at_key ∙ found) in
    young (sym (ap (age_of now) one) ∙ (Decides-eqb (age_of now e.1) 3600).0 t) in
    (differ, more)
other_by false all now key k e rest t found young held more = more

others : (all : Database) (now : ℕ) (key : LsaKey) (k : Kept) (db : Database) → kept_at all key ≡ Some k → age_of now k ≢ 3600
    → AllByRecursion (λ e. kept_at all e.0 ≡ Some e.1) db → AllByRecursion (λ q. q ≢ key) (max_age_lsas now db)
others all now key k [] found young held = tt
others all now key k (e ∷ db) found young held =
    other_by (age_of now e.1 == 3600) all now key k e (filter (λ (x : LsaKey × Kept). age_of now x.1 == 3600) db) refl found young held.0
    (others all now key k db found young held.1)

stays_each : (a : AtPorts) (key : LsaKey) (k : Kept) (ks : List LsaKey) (db : Database) → AllByRecursion (λ q. q ≢ key) ks → kept_at db key ≡ Some k
    → kept_at (fold (remove_max_age_lsa a) db ks) key ≡ Some k
stays_each a key k [] db all found = found
stays_each a key k (q ∷ ks) db all found =
    stays_each a key k ks (remove_max_age_lsa a db q) all.1
    (choose (λ (d : Database). kept_at d key ≡ Some k) (is_listed q a) db (without db q) (λ _. found) (λ _. removed_elsewhere db q key all.0 ∙ found))

stays : (r : Router) (key : LsaKey) (k : Kept) → Rises r.db → kept_at r.db key ≡ Some k → age_of r.tick k < 1800 → kept_at (remove_max_age_lsas r).db key ≡ Some k
unfolding remove_max_age_lsas
stays r key k up found young =
    let not_old : age_of r.tick k ≢ 3600 = λ old. omega (arith, old, young) in
    stays_each r.interfaces key k (max_age_lsas r.tick r.db) r.db (others r.db r.tick key k r.db found not_old (held_each r.db up)) found

-- ---- the own LSA is current

current-sent : (now : ℕ) (wanted : List ℕ) (o : Option Kept) → IsCurrent now wanted o → IsCurrent now wanted (option_map (sent_at now) o)
current-sent now wanted o is = record {
  copy = sent_at now is.copy;
  there = ap (option_map (sent_at now)) is.there;
  own_instance = is.own_instance;
  young = is.young;
  body = is.body;
}

current-note : (mask now : ℕ) (wanted : List ℕ) (key : LsaKey) (db : Database) → IsCurrent now wanted (kept_at db key) → IsCurrent now wanted (kept_at (note_flooded mask key now db) key)
current-note mask now wanted key db is =
    choose (λ (d : Database). IsCurrent now wanted (kept_at d key)) (mask == 0) db (changed key (sent_at now) db) (λ _. is)
    (λ _. subst (IsCurrent now wanted) (sym (changed_here db key (sent_at now))) (current-sent now wanted (kept_at db key) is))

current-with_own : (seq : Option ℕ) (db : Database) (router : ℕ) (wanted : List ℕ) (now : ℕ) → is_some seq ≡ true → IsCurrent now wanted (kept_at (with_own db router wanted now seq) (own_key router))
current-with_own None db router wanted now has = absurd cc
current-with_own (Some seq) db router wanted now has = record {
  copy = fresh (own_lsa router seq wanted) now false false;
  there = put_here db (own_key router) (fresh (own_lsa router seq wanted) now false false);
  own_instance = refl;
  young = omega arith;
  body = refl;
}

young_by : (age : ℕ) → nat_le 1800 age ≡ false → age < 1800
young_by age t = grind (arith, nat_tests)

not_outdated : (now : ℕ) (wanted : List ℕ) (own : Option Kept) → is_outdated now wanted own ≡ false → IsCurrent now wanted own
not_outdated now wanted None t = absurd cc
not_outdated now wanted (Some k) t =
    let old = nat_le 1800 (age_of now k) in
    let parts = or_false (k.foreign || old) (not (pointwise nat_eq k.lsa.body wanted)) t in
    let first = or_false k.foreign old parts.0 in
    record {
      copy = k;
      there = refl;
      own_instance = first.0;
      young = young_by (age_of now k) first.1;
      body = (bytes_decides k.lsa.body wanted).0 (not_false (pointwise nat_eq k.lsa.body wanted) parts.1);
    }

-- the own LSA after the step, where it is r's then
abbrev Ends : ℕ → Router → Type 0
Ends ports t = HasCurrentLsa ports (state_of (remove_max_age_lsas t))

ends : (ports : ℕ) (t : Router) → Rises t.db → IsCurrent t.tick (wanted_body ports t) (kept_at t.db (own_key (id_of t))) → Ends ports t
unfolding remove_max_age_lsas wanted_body wanted_links
ends ports t up is = record {
  copy = is.copy;
  there = stays t (own_key (id_of t)) is.copy up is.there is.young;
  own_instance = is.own_instance;
  young = is.young;
  body = is.body;
}

-- what holds an origination back
abbrev pub IsHeldBack : ℕ → Option ℕ → Option Kept → Type 0
IsHeldBack now last own = IsRecent now last ⊎ IsAtLastSequence own

recent_by : (o : Option ℕ) (now : ℕ) → may_originate now o ≡ false → IsRecent now o
recent_by None now t = absurd cc
recent_by (Some tick) now t = record { tick = tick; last = refl; recent = grind (arith, nat_tests) }

last_by : (b : Bool) (k : Kept) (n : ℕ) → (k.lsa.head.seq == 0x7fffffff) ≡ b → is_some (cond b None (Some n)) ≡ false → IsAtLastSequence (Some k)
last_by true k n t none = record { copy = k; there = refl; last = (Decides-eqb k.lsa.head.seq 0x7fffffff).0 t }
last_by false k n t none = absurd cc

at_last : (own : Option Kept) → has_next_sequence_number own ≡ false → IsAtLastSequence own
at_last None t = absurd cc
at_last (Some k) t = last_by (k.lsa.head.seq == 0x7fffffff) k _ refl t

and_false : (a b c : Bool) → (a && b && c) ≡ false → (a ≡ false) ⊎ ((b ≡ false) ⊎ (c ≡ false))
and_false false b c t = inl refl
and_false true false c t = inr (inl refl)
and_false true true c t = inr (inr t)

current-originate : (ports : ℕ) (r : Router) → Rises r.db → has_next_sequence_number (kept_at r.db (own_key (id_of r))) ≡ true
    → Rises (originate_own_lsa (full_mask ports r.interfaces) (wanted_body ports r) r).db → Ends ports (originate_own_lsa (full_mask ports r.interfaces) (wanted_body ports r) r)
unfolding originate_own_lsa flood_lsa wanted_body wanted_links
current-originate ports r up has rises =
    let wanted = wanted_body ports r in
    let full = full_mask ports r.interfaces in
    let seq = next_sequence_number (kept_at r.db (own_key (id_of r))) in
    ends ports (originate_own_lsa full wanted r) rises
    (current-note full r.tick wanted (own_key (id_of r)) (with_own r.db (id_of r) wanted r.tick seq) (current-with_own seq r.db (id_of r) wanted r.tick has))

current-finish_step : (ports : ℕ) (r : Router) → Rises r.db → HasCurrentLsa ports (state_of (finish_step ports r)) ⊎ IsHeldBack r.tick r.originated (kept_at r.db (own_key (id_of r)))
unfolding finish_step originate_if_needed
current-finish_step ports r up =
    let own = kept_at r.db (own_key (id_of r)) in
    let wanted = wanted_body ports r in
    let may = may_originate r.tick r.originated in
    let outdated = is_outdated r.tick wanted own in
    choose (λ (t : Router). Ends ports t ⊎ IsHeldBack r.tick r.originated own) (may && outdated && has_next_sequence_number own)
    (originate_own_lsa (full_mask ports r.interfaces) wanted r) r
    (λ t. inl (current-originate ports r up (and_true (may && outdated) (has_next_sequence_number own) t).1 (rises-originate (full_mask ports r.interfaces) wanted r up)))
    (λ f. elim (and_false may outdated (has_next_sequence_number own) f) [
      | inl early ↦ inr (inl (recent_by r.originated r.tick early))
      | inr rest ↦ elim rest [
        | inl is ↦ inl (ends ports r up (not_outdated r.tick wanted own is))
        | inr none ↦ inr (inr (at_last own none))
      ]
    ])

tick-finish_step : (ports : ℕ) (r : Router) → (finish_step ports r).tick ≡ r.tick
unfolding finish_step originate_if_needed remove_max_age_lsas originate_own_lsa flood_lsa
tick-finish_step ports r =
    let own = kept_at r.db (own_key (id_of r)) in
    let wanted = wanted_body ports r in
    choose (λ (t : Router). t.tick ≡ r.tick) (may_originate r.tick r.originated && is_outdated r.tick wanted own && has_next_sequence_number own)
    (originate_own_lsa (full_mask ports r.interfaces) wanted r) r (λ _. refl) (λ _. refl)

abbrev After : ℕ → OspfState → Router → Router → Type 0
After ports s r t = HasCurrentLsa ports (state_of t) ⊎ IsHeldBack t.tick s.originated (kept_at r.db (own_key (id_of r)))

current-one : (c : SoundHandled) (s : OspfState) (ports : ℕ) (i : Input) → HasBytes i → IsSoundState s → is_passed_over s.tick i ≡ false
    → After ports s (handled ports i (router_of s)) (finish_step ports (handled ports i (router_of s)))
current-one c s ports i bytes sound here =
    let r = handled ports i (router_of s) in
    let own = kept_at r.db (own_key (id_of r)) in
    elim (current-finish_step ports r (c (router_of s) ports i bytes here sound).database.rising) [
      | inl is ↦ inl is
      | inr back ↦ inr (subst (λ (now : ℕ). IsHeldBack now s.originated own) (sym (tick-finish_step ports r))
          (subst (λ (o : Option ℕ). IsHeldBack r.tick o own) (originated-handled ports i (router_of s)) back))
    ]

pub current-step : (c : SoundHandled) (s : OspfState) (ports : ℕ) (i : Input) → HasBytes i → IsSoundState s → is_passed_over s.tick i ≡ false
    → HasCurrentLsa ports (ospf_after s ports i)
    ⊎ IsHeldBack (ospf_after s ports i).tick s.originated (kept_at (handled ports i (router_of s)).db (own_key (id_of (handled ports i (router_of s)))))
unfolding ospf_after next stepped
current-step c s ports i bytes sound here = rw here (current-one c s ports i bytes sound here)
