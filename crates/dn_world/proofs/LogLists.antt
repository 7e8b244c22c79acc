-- No log goes on after Stop, and fed lists grow with logs.
use Rattle.std.proofs.Common.{◌≡◌, ℕ, zero, suc, Bool, true, false, true≢false, List, [], ◌∷◌, ◌++◌, map, length, refl, sym, ap, ◌∙◌, arith, append-nil, length-append}
use Rattle.std.specs.Prelude.{Some, slice_get}
use Rattle.std.specs.List.{filter}
use mathlib.Core.List.{map-append}
use Rattle.dn_lists.proofs.Lists.{filter_append}
use Rattle.dn_model.specs.Settled.{IsPrefixOf}
use Rattle.dn_world.specs.declared.step.Step.{Step}
use Rattle.dn_world.specs.declared.step.Step.TheVariants.{Beacon, Inject, Close, Deliver, Handle, RollBack, Commit}
use Rattle.dn_world.specs.declared.entry.Entry.{Entry}
use Rattle.dn_world.specs.declared.entry.Entry.TheVariants.{Did, Stop}
use Rattle.dn_world.specs.Logs.{log_of, IsLog, is_stopped, feeds_entry, feeding, fed}

last_stop : (xs rest : List Entry) (steps : List Step) (b : Bool) → is_stopped xs ≡ true → xs ++ rest ≡ log_of steps b → rest ≡ []
last_stop [] rest steps b s e = absurd (true≢false (sym s))
last_stop (Stop ∷ []) rest [] true s e = cc e
last_stop (Stop ∷ []) rest [] false s e = absurd (cc e)
last_stop (Stop ∷ []) rest (x ∷ xs) b s e = absurd (cc e)
last_stop (Stop ∷ y ∷ ys) rest [] true s e = absurd (cc e)
last_stop (Stop ∷ y ∷ ys) rest [] false s e = absurd (cc e)
last_stop (Stop ∷ y ∷ ys) rest (x ∷ xs) b s e = absurd (cc e)
last_stop (Did x ∷ xs) rest [] true s e = absurd (cc e)
last_stop (Did x ∷ xs) rest [] false s e = absurd (cc e)
last_stop (Did x ∷ xs) rest (y ∷ ys) b s e = last_stop xs rest ys b s (cc e)

-- no log is longer than one that ends with Stop and is its prefix
pub stopped_is_last : (xs ys : List Entry) → IsLog ys → IsPrefixOf xs ys → is_stopped xs ≡ true → xs ≡ ys
stopped_is_last xs ys l p s =
    let none = last_stop xs p.0 l.steps l.stopped s (p.1 ∙ l.is) in sym (append-nil xs) ∙ (ap (λ r. xs ++ r) (sym none) ∙ p.1)

pub stop_stays : (xs ys : List Entry) → IsLog ys → IsPrefixOf xs ys → is_stopped xs ≡ true → is_stopped ys ≡ true
stop_stays xs ys l p s = ap is_stopped (sym (stopped_is_last xs ys l p s)) ∙ s

pub fed-append : (xs ys : List Entry) → fed (xs ++ ys) ≡ fed xs ++ fed ys
unfolding fed
fed-append xs ys = filter_append feeds_entry xs ys

pub fed_prefix : (xs ys : List Entry) → IsPrefixOf xs ys → IsPrefixOf (fed xs) (fed ys)
fed_prefix xs ys p = (fed p.0, sym (fed-append xs p.0) ∙ ap fed p.1)

tail_nothing : {A : Type 0} (xs ys zs : List A) → (xs ++ ys) ++ zs ≡ xs → ys ≡ []
tail_nothing xs [] zs e = refl
tail_nothing xs (y ∷ ys) zs e = let n = ap length e in absurd (omega (arith, n, length-append (xs ++ y ∷ ys) zs, length-append xs (y ∷ ys)))

-- a log between two of one fed list has that one too
pub fed_between : (xs ys zs : List Entry) → IsPrefixOf xs ys → IsPrefixOf ys zs → fed zs ≡ fed xs → fed ys ≡ fed xs
fed_between xs ys zs p q e =
    let here : fed ys ≡ fed xs ++ fed p.0 = ap fed (sym p.1) ∙ fed-append xs p.0 in
    let all : fed zs ≡ (fed xs ++ fed p.0) ++ fed q.0 = ap fed (sym q.1) ∙ (fed-append ys q.0 ∙ ap (λ l. l ++ fed q.0) here) in
    let none : fed p.0 ≡ [] = tail_nothing (fed xs) (fed p.0) (fed q.0) (sym all ∙ e) in
    here ∙ (ap (λ l. fed xs ++ l) none ∙ append-nil (fed xs))

-- a log with one step more, and one that was stopped
pub log-push : (steps : List Step) (b : Bool) (s : Step) → b ≡ false → log_of (steps ++ s ∷ []) b ≡ log_of steps b ++ Did s ∷ []
log-push steps true s e = absurd (true≢false e)
log-push steps false s e =
    append-nil (map Did (steps ++ s ∷ [])) ∙ (map-append Did steps (s ∷ []) ∙ ap (λ l. l ++ Did s ∷ []) (sym (append-nil (map Did steps))))

pub log-stop : (steps : List Step) (b : Bool) → b ≡ false → log_of steps true ≡ log_of steps b ++ Stop ∷ []
log-stop steps true e = absurd (true≢false e)
log-stop steps false e = ap (λ l. l ++ Stop ∷ []) (sym (append-nil (map Did steps)))

-- one step more adds to the fed list exactly where it feeds
pub fed-did : (xs : List Entry) (s : Step) → fed (xs ++ Did s ∷ []) ≡ fed xs ++ fed (Did s ∷ [])
fed-did xs s = fed-append xs (Did s ∷ [])

pub fed-stop : (xs : List Entry) → fed (xs ++ Stop ∷ []) ≡ fed xs
unfolding fed
fed-stop xs = filter_append feeds_entry xs (Stop ∷ []) ∙ append-nil (filter feeds_entry xs)

-- the fed list of a log has the steps that feed
pub fed_log : (steps : List Step) (b : Bool) → fed (log_of steps b) ≡ map Did (feeding steps)
unfolding fed feeding
fed_log [] true = refl
fed_log [] false = refl
fed_log (Beacon ∷ ss) b = ap (λ l. Did Beacon ∷ l) (fed_log ss b)
fed_log (Inject x ∷ ss) b = ap (λ l. Did (Inject x) ∷ l) (fed_log ss b)
fed_log (Close ∷ ss) b = ap (λ l. Did Close ∷ l) (fed_log ss b)
fed_log (Deliver place ∷ ss) b = fed_log ss b
fed_log (Handle r ∷ ss) b = fed_log ss b
fed_log (RollBack r ∷ ss) b = fed_log ss b
fed_log (Commit ∷ ss) b = fed_log ss b

-- the log of steps is stopped where it was said to be
pub stopped_log : (steps : List Step) (b : Bool) → is_stopped (log_of steps b) ≡ b
stopped_log [] true = refl
stopped_log [] false = refl
stopped_log (s ∷ ss) b = stopped_log ss b

-- the mark stands in no log that doesn't end with it
get_stop : (steps : List Step) (b : Bool) (k : ℕ) → slice_get (log_of steps b) k ≡ Some Stop → is_stopped (log_of steps b) ≡ true
get_stop [] true k e = refl
get_stop [] false k e = absurd (cc e)
get_stop (s ∷ steps) b zero e = absurd (cc e)
get_stop (s ∷ steps) b (suc k) e = get_stop steps b k e

pub no_stop_within : (log : List Entry) (k : ℕ) → IsLog log → slice_get log k ≡ Some Stop → is_stopped log ≡ true
no_stop_within log k l e = ap is_stopped l.is ∙ get_stop l.steps l.stopped k (sym (ap (λ xs. slice_get xs k) l.is) ∙ e)
