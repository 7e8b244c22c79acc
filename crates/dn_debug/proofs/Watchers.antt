-- Attaching and dropping probes.
use Rattle.std.proofs.Common.{◌≡◌, ℕ, suc, ◌<◌, Option, Some, None, List, [], ◌∷◌, ◌++◌, map, length, take, drop, get_or, refl, sym, ap, ◌∙◌, subst}
use Rattle.std.specs.Prelude.{slice_get}
use Rattle.std.specs.List.{remove, position_from}
use Rattle.std.proofs.lemmas.List.{map-append, take-map, drop-map}
use Rattle.std.proofs.lemmas.Option.{slice_get-map, slice_get_read}
use Rattle.std.specs.Option.{option_map}
use Rattle.std.proofs.lemmas.Iterator.Adapters.{position_from-zero}
use Rattle.dn_model.specs.Cases.{Heading}
use Rattle.dn_probe.specs.Meaning.{Watch, begun, report_of}
use Rattle.dn_model.specs.declared.event.Event.{Event}
use Rattle.dn_command.specs.declared.breaks.Break.{Break}
use Rattle.dn_command.specs.Breaks.{matches}
use Rattle.dn_debug.specs.Courses.{first_break}
use Rattle.dn_debug.specs.Watching.{Watched, Kept, Dropped, watched, is_named, place_of, all_told, first_yes, attach_by, attached_at, attach, drop_by, dropped_at, unwatch}

pub place_first : (name : List ℕ) (ws : List Watch) → place_of name ws ≡ position_from (is_named name) 0 ws
unfolding place_of
place_first name ws = position_from-zero (is_named name) ws

module _ {X : Type 0} (watcher : X → Watch) where
  map_remove : (xs : List X) (i : ℕ) → map watcher (remove xs i) ≡ remove (map watcher xs) i
  map_remove xs i =
      map-append watcher (take i xs) (drop (suc i) xs) ∙ (ap (λ a. a ++ map watcher (drop (suc i) xs)) (sym (take-map watcher i xs)) ∙ ap (λ b. take i (map watcher xs) ++ b) (sym (drop-map watcher (suc i) xs)))

  get_watch : (xs : List X) (i : ℕ) (x : X) → i < length xs → x ≡ get_or xs i x → slice_get (map watcher xs) i ≡ Some (watcher x)
  get_watch xs i x within is = slice_get-map watcher xs i ∙ ap (option_map watcher) (slice_get_read xs (length xs) i x refl within is)

  pub none_attached : (header : Heading) (name : List ℕ) (k : Kept X) → None ≡ place_of name (map watcher k.there) → attach header name (watched watcher k) ≡ None
  unfolding attach
  none_attached header name k none = ap (attach_by header (watched watcher k)) (sym none)

  pub one_attached : (header : Heading) (name : List ℕ) (k : Kept X) (i : ℕ) (x y : X) (attached there : List X) → Some i ≡ place_of name (map watcher k.there) → i < length k.there → x ≡ get_or k.there i x → watcher y ≡ begun (watcher x) header → attached ≡ k.attached ++ y ∷ [] → there ≡ remove k.there i → attach header name (watched watcher k) ≡ Some (watched watcher (record { attached = attached; there = there }))
  unfolding attach
  one_attached header name k i x y attached there at within is begins more less =
      let s = watched watcher k in
      let first : attach header name s ≡ attach_by header s (Some i) = ap (attach_by header s) (sym at) in
      let second : attach_by header s (Some i) ≡ attached_at header s i (Some (watcher x)) = ap (attached_at header s i) (get_watch k.there i x within is) in
      let new : map watcher attached ≡ map watcher k.attached ++ begun (watcher x) header ∷ [] =
      ap (map watcher) more ∙ (map-append watcher k.attached (y ∷ []) ∙ ap (λ w. map watcher k.attached ++ w ∷ []) begins) in
      let rest : map watcher there ≡ remove (map watcher k.there) i = ap (map watcher) less ∙ map_remove k.there i in
      let W : List Watch → List Watch → Option Watched = λ a t. Some (record { attached = a; there = t }) in
      first ∙ (second ∙ (ap (λ a. W a (remove (map watcher k.there) i)) (sym new) ∙ ap (W (map watcher attached)) (sym rest)))

  pub none_dropped : (name : List ℕ) (k : Kept X) → None ≡ place_of name (map watcher k.attached) → unwatch name (watched watcher k) ≡ None
  unfolding unwatch
  none_dropped name k none = ap (drop_by (watched watcher k)) (sym none)

  pub one_dropped : (name : List ℕ) (k : Kept X) (i : ℕ) (x : X) (attached there : List X) → Some i ≡ place_of name (map watcher k.attached) → i < length k.attached → x ≡ get_or k.attached i x → attached ≡ remove k.attached i → there ≡ k.there → unwatch name (watched watcher k) ≡ Some (record { report = report_of (watcher x); left = watched watcher (record { attached = attached; there = there }) })
  unfolding unwatch
  one_dropped name k i x attached there at within is less rest =
      let s = watched watcher k in
      let found : unwatch name s ≡ dropped_at s i (Some (watcher x)) = ap (drop_by s) (sym at) ∙ ap (dropped_at s i) (get_watch k.attached i x within is) in
      let left : map watcher attached ≡ remove (map watcher k.attached) i = ap (map watcher) less ∙ map_remove k.attached i in
      let D : List Watch → List Watch → Option Dropped = λ a t. Some (record { report = report_of (watcher x); left = record { attached = a; there = t } }) in
      found ∙ (ap (λ a. D a (map watcher k.there)) (sym left) ∙ ap (D (map watcher attached)) (ap (map watcher) (sym rest)))

  -- no probe is told anything where none is attached
  pub nothing_shown : (row : Event) (show : List ℕ) (k : Kept X) → k.attached ≡ [] → (watched watcher k ≡ record { attached = all_told row show (map watcher k.attached); there = map watcher k.there }) × (None ≡ first_yes row show (map watcher k.attached))
  unfolding first_yes
  nothing_shown row show k none =
      let P : List X → Type 0 = λ xs. (map watcher xs ≡ all_told row show (map watcher xs)) × (None ≡ first_yes row show (map watcher xs)) in
      let empty : P k.attached = subst P (sym none) (refl, refl) in
      (ap (λ (a : List Watch). record { attached = a; there = map watcher k.there }) empty.0, empty.1)

pub break_first : (breaks : List Break) (row : Event) → first_break breaks row ≡ position_from (λ b. matches b row) 0 breaks
unfolding first_break
break_first breaks row = position_from-zero (λ (b : Break). matches b row) breaks
