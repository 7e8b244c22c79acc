-- What a feeder makes of the fabric and of its seat, and how far the feed has come then.
use Rattle.std.proofs.Common.{◌≡◌, ℕ, zero, suc, ◌+◌, ◌-◌, ◌<◌, ◌≤◌, length, List, [], ◌∷◌, ◌++◌, map, filter, Bool, ◌&&◌, true, false, true≢false, None, Result, Ok, Err, IfOk, replicate, refl, sym, ap, ◌∙◌, subst, inl, inr, arith, append-nil, append_assoc}
use Rattle.std.specs.Prelude.{Option, Some, slice_get, nat_le, if◌then◌else◌}
use Rattle.std.specs.List.{AllByRecursion}
use Rattle.std.proofs.lemmas.Bool.{lt-ltb, le-leb}
use Rattle.std.proofs.lemmas.List.Elements.{filter-append}
use mathlib.Core.List.{map-append}
use Rattle.dn_guest.specs.declared.input.Input.{Input}
use Rattle.dn_guest.specs.declared.input.Input.TheVariants.{Tick, Cmd, Down, Up, Msg}
use Rattle.dn_model.specs.declared.event.Event.{Event}
use Rattle.dn_model.specs.declared.feed.External.{External}
use Rattle.dn_model.specs.Cases.{Heading, IsAsked, IsExternal}
use Rattle.dn_model.specs.Links.{ports_of}
use Rattle.dn_model.specs.Network.{Network, routers}
use Rattle.dn_model.specs.Settled.{IsPrefixOf, IsFeedOf}
use Rattle.dn_world.specs.declared.entry.Entry.{Entry}
use Rattle.dn_world.specs.declared.entry.Entry.TheVariants.{Did, Stop}
use Rattle.dn_world.specs.declared.packet.Packet.{Packet}
use Rattle.dn_world.specs.declared.step.Step.{Step}
use Rattle.dn_world.specs.declared.step.Step.TheVariants.{Beacon, Inject, Close, Deliver, Handle, RollBack, Commit}
use Rattle.dn_world.specs.World.{Part, World, part, opening}
use Rattle.dn_world.specs.Steps.{after, beacon, inject, deliver, handle, roll_back, is_injectable}
use Rattle.dn_world.specs.Logs.{fed, feeds_entry, feeding, log_of, is_stopped}
use Rattle.dn_world.specs.Runs.{run, world, injects}
use Rattle.dn_fabric.specs.Fabrics.{Fabric, log_in, IsReached}
use Rattle.dn_record.specs.declared.feeder.Fed.{Fed}
use Rattle.dn_record.specs.declared.feeder.Fed.TheVariants.{One, Closed}
use Rattle.dn_record.specs.Feeding.{last_group, HasGiven}
use Rattle.dn_turn.specs.Seat.{SeatView, IsSameSeat, holding, released_seat, MayPut}
use Rattle.dn_workers.specs.Holds.{HasTaken, HasPutBack, HasGrown}
use Rattle.dn_workers.proofs.Going.{prefix_self, prefix_trans}
use Rattle.dn_workers.specs.Feed.{HasFed, HasStoppedAfter, begun, closes, IsFedWith, IsFedUpTo, IsDue, EndsWithClose}

-- ---- lists of steps

did_is : (xs ys : List Step) → map Did xs ≡ map Did ys → xs ≡ ys
did_is [] [] e = refl
did_is [] (y ∷ ys) e = absurd (cc e)
did_is (x ∷ xs) [] e = absurd (cc e)
did_is (x ∷ xs) (y ∷ ys) e = let here : x ≡ y = cc e in let rest : map Did xs ≡ map Did ys = cc e in ap (λ z. z ∷ xs) here ∙ ap (λ zs. y ∷ zs) (did_is xs ys rest)

injects_both : (xs ys : List Step) → injects (xs ++ ys) ≡ injects xs ++ injects ys
unfolding injects
injects_both [] ys = refl
injects_both (Inject x ∷ xs) ys = ap (λ l. x ∷ l) (injects_both xs ys)
injects_both (Beacon ∷ xs) ys = injects_both xs ys
injects_both (Close ∷ xs) ys = injects_both xs ys
injects_both (Deliver place ∷ xs) ys = injects_both xs ys
injects_both (Handle r ∷ xs) ys = injects_both xs ys
injects_both (RollBack r ∷ xs) ys = injects_both xs ys
injects_both (Commit ∷ xs) ys = injects_both xs ys

begun_both : (xs ys : List Step) → begun (xs ++ ys) ≡ begun xs + begun ys
begun_both [] ys = omega arith
begun_both (Beacon ∷ xs) ys = let e = begun_both xs ys in omega (arith, e)
begun_both (Inject x ∷ xs) ys = begun_both xs ys
begun_both (Close ∷ xs) ys = begun_both xs ys
begun_both (Deliver place ∷ xs) ys = begun_both xs ys
begun_both (Handle r ∷ xs) ys = begun_both xs ys
begun_both (RollBack r ∷ xs) ys = begun_both xs ys
begun_both (Commit ∷ xs) ys = begun_both xs ys

closes_both : (xs ys : List Step) → closes xs ≡ false → closes (xs ++ ys) ≡ closes ys
closes_both [] ys e = refl
closes_both (Beacon ∷ xs) ys e = closes_both xs ys e
closes_both (Inject x ∷ xs) ys e = closes_both xs ys e
closes_both (Close ∷ xs) ys e = absurd (true≢false e)
closes_both (Deliver place ∷ xs) ys e = closes_both xs ys e
closes_both (Handle r ∷ xs) ys e = closes_both xs ys e
closes_both (RollBack r ∷ xs) ys e = closes_both xs ys e
closes_both (Commit ∷ xs) ys e = closes_both xs ys e

-- what these steps add to a feed, all of which feed: these externals, so many groups, and whether the end
record Adds (ys : List Step) (xs : List External) (groups : ℕ) (ended : Bool) : Type 0 where
  fed : fed (map Did ys) ≡ map Did ys
  injects : injects ys ≡ xs
  begun : begun ys ≡ groups
  closes : closes ys ≡ ended

adds_none : Adds [] [] 0 false
unfolding fed injects
adds_none = record { fed = refl; injects = refl; begun = refl; closes = refl }

adds_one : (x : External) → Adds (Inject x ∷ []) (x ∷ []) 0 false
unfolding fed injects
adds_one x = record { fed = refl; injects = refl; begun = refl; closes = refl }

adds_end : Adds (Close ∷ []) [] 0 true
unfolding fed injects
adds_end = record { fed = refl; injects = refl; begun = refl; closes = refl }

adds_beats : (n : ℕ) (ys : List Step) (xs : List External) (ended : Bool) → Adds ys xs 0 ended → Adds (replicate n Beacon ++ ys) xs n ended
unfolding fed injects
adds_beats zero ys xs ended a = a
adds_beats (suc n) ys xs ended a = let r = adds_beats n ys xs ended a in record { fed = ap (λ l. Did Beacon ∷ l) r.fed; injects = r.injects; begun = ap (λ m. suc m) r.begun; closes = r.closes }

adds_only_beats : (n : ℕ) → Adds (replicate n Beacon) [] n false
adds_only_beats n = subst (λ ys. Adds ys [] n false) (append-nil (replicate n Beacon)) (adds_beats n [] [] false adds_none)

-- ---- externals

last_is : (low : ℕ) (xs : List External) (x : External) → last_group low (xs ++ x ∷ []) ≡ x.group
last_is low [] x = refl
last_is low (y ∷ ys) x = last_is y.group ys x

last_below : (low groups : ℕ) (xs : List External) → low < groups → AllByRecursion (λ x. x.group < groups) xs → last_group low xs < groups
last_below low groups [] h a = h
last_below low groups (x ∷ xs) h a = last_below x.group groups xs a.0 a.1

both_true : (a b : Bool) → a ≡ true → b ≡ true → (a && b) ≡ true
both_true true b h k = k
both_true false b h k = absurd (true≢false (sym h))

pub injectable : (h : Heading) (r : ℕ) (i : Input) → IsAsked (ports_of h.links r) i → is_injectable h r i ≡ true
unfolding is_injectable
injectable h r (Tick group) a = absurd a
injectable h r (Cmd body) a = both_true (nat_le 1 (length body)) (nat_le (length body) 255) (le-leb 1 (length body) a.0) (le-leb (length body) 255 a.1)
injectable h r (Down port) a = lt-ltb port (ports_of h.links r) a
injectable h r (Up port) a = lt-ltb port (ports_of h.links r) a
injectable h r (Msg port body) a = absurd a

-- ---- the world after a run

deliver_floor : (w : World) (place : ℕ) (o : Option Packet) → (deliver w place o).floor ≡ w.floor
unfolding deliver
deliver_floor w place None = refl
deliver_floor w place (Some k) = refl

deliver_closed : (w : World) (place : ℕ) (o : Option Packet) → (deliver w place o).closed ≡ w.closed
unfolding deliver
deliver_closed w place None = refl
deliver_closed w place (Some k) = refl

module _ {S : Type 0} (net : Network S) where
  handle_floor : (w : World) (r : ℕ) (q : Part) (es : List Event) → (handle net w r q es).floor ≡ w.floor
  unfolding handle
  handle_floor w r q [] = refl
  handle_floor w r q (e ∷ es) = refl

  handle_closed : (w : World) (r : ℕ) (q : Part) (es : List Event) → (handle net w r q es).closed ≡ w.closed
  unfolding handle
  handle_closed w r q [] = refl
  handle_closed w r q (e ∷ es) = refl

  run_floor : (w : World) (ss : List Step) → (run net w ss).floor ≡ w.floor + begun ss
  unfolding run after beacon inject roll_back
  run_floor w [] = omega arith
  run_floor w (Beacon ∷ ss) = let e = run_floor (after net w Beacon) ss in omega (arith, e)
  run_floor w (Inject x ∷ ss) = run_floor (after net w (Inject x)) ss
  run_floor w (Close ∷ ss) = run_floor (after net w Close) ss
  run_floor w (Deliver place ∷ ss) = run_floor (after net w (Deliver place)) ss ∙ ap (λ n. n + begun ss) (deliver_floor w place (slice_get w.flight place))
  run_floor w (Handle r ∷ ss) = run_floor (after net w (Handle r)) ss ∙ ap (λ n. n + begun ss) (handle_floor w r (part w r) (part w r).todo)
  run_floor w (RollBack r ∷ ss) = run_floor (after net w (RollBack r)) ss
  run_floor w (Commit ∷ ss) = run_floor (after net w Commit) ss

  run_open : (w : World) (ss : List Step) → w.closed ≡ false → closes ss ≡ false → (run net w ss).closed ≡ false
  unfolding run after beacon inject roll_back
  run_open w [] h c = h
  run_open w (Beacon ∷ ss) h c = run_open (after net w Beacon) ss h c
  run_open w (Inject x ∷ ss) h c = run_open (after net w (Inject x)) ss h c
  run_open w (Close ∷ ss) h c = absurd (true≢false c)
  run_open w (Deliver place ∷ ss) h c = run_open (after net w (Deliver place)) ss (deliver_closed w place (slice_get w.flight place) ∙ h) c
  run_open w (Handle r ∷ ss) h c = run_open (after net w (Handle r)) ss (handle_closed w r (part w r) (part w r).todo ∙ h) c
  run_open w (RollBack r ∷ ss) h c = run_open (after net w (RollBack r)) ss h c
  run_open w (Commit ∷ ss) h c = run_open (after net w Commit) ss h c

  world_floor : (ss : List Step) → (world net ss).floor ≡ begun ss
  unfolding opening
  world_floor ss = let e = run_floor (opening (routers net)) ss in omega (arith, e)

  world_open : (ss : List Step) → closes ss ≡ false → (world net ss).closed ≡ false
  unfolding opening
  world_open ss c = run_open (opening (routers net)) ss refl c

-- ---- logs

abbrev tail : Bool → List Entry
tail stopped = if stopped then Stop ∷ [] else []

fed_both : (xs ys : List Entry) → fed (xs ++ ys) ≡ fed xs ++ fed ys
unfolding fed
fed_both xs ys = filter-append feeds_entry xs ys

fed_log : (steps : List Step) (b : Bool) → fed (log_of steps b) ≡ fed (map Did steps)
unfolding fed
fed_log steps true = filter-append feeds_entry (map Did steps) (Stop ∷ []) ∙ append-nil (filter feeds_entry (map Did steps))
fed_log steps false = ap (filter feeds_entry) (append-nil (map Did steps))

log_more : (xs ys : List Step) (b : Bool) → log_of xs false ++ (map Did ys ++ tail b) ≡ log_of (xs ++ ys) b
log_more xs ys b =
    ap (λ l. l ++ (map Did ys ++ tail b)) (append-nil (map Did xs)) ∙ (sym (append_assoc (map Did xs) (map Did ys) (tail b)) ∙ ap (λ l. l ++ tail b) (sym (map-append Did xs ys)))

log_stop : (steps : List Step) (b : Bool) → IsPrefixOf (log_of steps b) (log_of steps true)
log_stop steps true = prefix_self (log_of steps true)
log_stop steps false = (Stop ∷ [], ap (λ l. l ++ Stop ∷ []) (append-nil (map Did steps)))

-- ---- what the feeder has answered

-- the feeder gave one more
pub record IsNext (h : Heading) (seen : List Entry) (x : External) (given : List External) (closed : Bool) : Type 0 where
  pub before : List External
  pub up_to : IsFedUpTo before seen
  pub more : given ≡ before ++ x ∷ []
  pub goes_on : closed ≡ false
  pub external : IsExternal h (last_group 0 before) x

pub next_of : (h : Heading) (seen : List Entry) (answer : Fed) (given : List External) (closed : Bool) (r : ℕ) (i : Input) (stamp : ℕ) → answer ≡ One r i stamp → IsDue h seen answer given closed → IsNext h seen (record { group = stamp; router = r; input = i }) given closed
next_of h seen answer given closed r i stamp is due =
    let a : HasGiven h due.before (One r i stamp) given closed = subst (λ fed. HasGiven h due.before fed given closed) is due.answer in
    record { before = due.before; up_to = due.up_to; more = a.0; goes_on = a.1; external = a.2 }

-- it has closed
record IsLast (seen : List Entry) (given : List External) (closed : Bool) : Type 0 where
  up_to : IsFedUpTo given seen
  ended : closed ≡ true

last_of : (h : Heading) (seen : List Entry) (answer : Fed) (given : List External) (closed : Bool) → answer ≡ Closed → IsDue h seen answer given closed → IsLast seen given closed
last_of h seen answer given closed is due =
    let a : HasGiven h due.before Closed given closed = subst (λ fed. HasGiven h due.before fed given closed) is due.answer in
    record { up_to = subst (λ xs. IsFedUpTo xs seen) (sym a.0) due.up_to; ended = a.1 }

pub with_up_to : (given : List External) (closed : Bool) (seen : List Entry) → IsFedUpTo given seen → IsFedWith given closed seen
with_up_to given closed seen u = record { steps = u.steps; is = u.is; injected = inl u.injected; unclosed = λ _. u.unclosed; not_ahead = λ _. let b = u.begun in omega (arith, b) }

-- a stop has come before the last one
with_one_more : (h : Heading) (seen now : List Entry) (x : External) (given : List External) (closed : Bool) (n : IsNext h seen x given closed) (steps : List Step) → fed now ≡ map Did steps → injects steps ≡ n.before → closes steps ≡ false → begun steps ≤ x.group → is_stopped now ≡ true → IsFedWith given closed now
with_one_more h seen now x given closed n steps is injected unclosed low stopped = record {
  steps = steps;
  is = is;
  injected = inr (n.goes_on, stopped, (x, n.more ∙ ap (λ xs. xs ++ x ∷ []) (sym injected)));
  unclosed = λ _. unclosed;
  not_ahead = λ _. subst (λ m. begun steps ≤ m) (sym (ap (last_group 0) n.more ∙ last_is 0 n.before x)) low;
}

with_end : (seen now : List Entry) (given : List External) (closed : Bool) → IsLast seen given closed → (steps : List Step) → fed now ≡ map Did steps → injects steps ≡ given → IsFedWith given closed now
with_end seen now given closed l steps is injected = record {
  steps = steps;
  is = is;
  injected = inl injected;
  unclosed = λ e. absurd (true≢false (sym l.ended ∙ e));
  not_ahead = λ e. absurd (true≢false (sym l.ended ∙ e));
}

-- the fabric was stopped already
pub fed_idle : (h : Heading) (seen : List Entry) (answer : Fed) (given : List External) (closed : Bool) → is_stopped seen ≡ true → IsDue h seen answer given closed → IsFedWith given closed seen
fed_idle h seen (One r i stamp) given closed stopped due =
    let x : External = record { group = stamp; router = r; input = i } in
    let n = next_of h seen (One r i stamp) given closed r i stamp refl due in
    with_one_more h seen seen x given closed n n.up_to.steps n.up_to.is n.up_to.injected n.up_to.unclosed (let b = n.up_to.begun in let e = n.external.rises in omega (arith, b, e)) stopped
fed_idle h seen Closed given closed stopped due =
    let l = last_of h seen Closed given closed refl due in with_end seen seen given closed l l.up_to.steps l.up_to.is l.up_to.injected

-- the feeder's closing is told by its answer
pub closed_by : (h : Heading) (before given : List External) (answer : Fed) (closed : Bool) → answer ≡ Closed → HasGiven h before answer given closed → closed ≡ true
closed_by h before given answer closed is a = let b : HasGiven h before Closed given closed = subst (λ fed. HasGiven h before fed given closed) is a in b.1

-- the feeder found no memory: it gave nothing, and the log was fed with nothing
pub fed_halted : (before given : List External) (closed : Bool) (seen now : List Entry) → given ≡ before → fed now ≡ fed seen → IsFedUpTo before seen → IsFedWith given closed now
fed_halted before given closed seen now none same u =
    with_up_to given closed now record { steps = u.steps; is = same ∙ u.is; injected = u.injected ∙ sym none; begun = u.begun ∙ ap (last_group 0) (sym none); unclosed = u.unclosed }

pub up_to_nothing : (given : List External) (seen : List Entry) → fed seen ≡ [] → given ≡ [] → IsFedUpTo given seen
unfolding injects
up_to_nothing given seen unfed none = subst (λ xs. IsFedUpTo xs seen) (sym none) record { steps = []; is = unfed; injected = refl; begun = refl; unclosed = refl }

pub if_ok : {X E : Type 0} (P Q : X → Type 0) (r : Result X E) → ((x : X) → P x → Q x) → IfOk r P → IfOk r Q
if_ok P Q (Ok x) f h = f x h
if_ok P Q (Err e) f h = tt

module _ {S : Type 0} where
  -- further steps stand in the journal
  log_grown : (f g : Fabric S) (ys : List Step) → f.live.stopped ≡ false → g.journal ≡ f.journal ++ ys → IsPrefixOf (log_in f) (log_in g)
  log_grown f g ys running more = (map Did ys ++ tail g.live.stopped, ap (λ b. log_of f.journal b ++ (map Did ys ++ tail g.live.stopped)) running ∙ (log_more f.journal ys g.live.stopped ∙ ap (λ ss. log_of ss g.live.stopped) (sym more)))

  fed_grown : (f g : Fabric S) (ys : List Step) → fed (map Did ys) ≡ map Did ys → g.journal ≡ f.journal ++ ys → fed (log_in g) ≡ fed (log_in f) ++ map Did ys
  fed_grown f g ys all more =
      fed_log g.journal g.live.stopped ∙ (ap (λ ss. fed (map Did ss)) more ∙ (ap fed (map-append Did f.journal ys) ∙ (fed_both (map Did f.journal) (map Did ys)
      ∙ (ap (λ l. fed (map Did f.journal) ++ l) all ∙ ap (λ l. l ++ map Did ys) (sym (fed_log f.journal f.live.stopped))))))

  pub grown_fed : (f g : Fabric S) (ys : List Step) (group : ℕ) (ended : Bool) → f.live.stopped ≡ false → HasFed f ys group ended g → HasGrown f g
  grown_fed f g ys group ended running h = record { header = h.header; openings = h.openings; grown = log_grown f g ys running h.journal }

  pub grown_stopped : (f g : Fabric S) (beats : ℕ) → f.live.stopped ≡ false → HasStoppedAfter f beats g → HasGrown f g
  grown_stopped f g beats running h = record { header = h.halted.header; openings = h.halted.openings; grown = log_grown f g (replicate beats Beacon) running h.journal }

  pub grown_self : (f : Fabric S) → HasGrown f f
  grown_self f = record { header = refl; openings = refl; grown = prefix_self (log_in f) }

  -- the fabric was stopped, if it wasn't already
  abbrev pub halted : Fabric S → Fabric S
  halted f = record f { live = record f.live { stopped = true } }

  pub grown_halt : (f g : Fabric S) → g ≡ halted f → HasGrown f g
  grown_halt f g is = subst (HasGrown f) (sym is) record { header = refl; openings = refl; grown = log_stop f.journal f.live.stopped }

  pub fed_halt : (f g : Fabric S) → g ≡ halted f → fed (log_in g) ≡ fed (log_in f)
  fed_halt f g is = ap (λ x. fed (log_in x)) is ∙ (fed_log f.journal true ∙ sym (fed_log f.journal f.live.stopped))

  -- ---- how far the feed has come

  -- the fed steps are those of the journal
  fed_steps : (f : Fabric S) (steps : List Step) → fed (log_in f) ≡ map Did (feeding f.journal) → fed (log_in f) ≡ map Did steps → feeding f.journal ≡ steps
  fed_steps f steps law is = did_is (feeding f.journal) steps (sym law ∙ is)

  pub floor_so_far : (net : Network S) (f : Fabric S) (given : List External) → IsReached net f → (world net f.journal).floor ≡ (world net (feeding f.journal)).floor → fed (log_in f) ≡ map Did (feeding f.journal) → IsFedUpTo given (log_in f) → f.live.world.floor ≡ last_group 0 given
  floor_so_far net f given r alone law u =
      ap (λ (w : World). w.floor) (sym r.world) ∙ (alone ∙ (ap (λ ss. (world net ss).floor) (fed_steps f u.steps law u.is) ∙ (world_floor net u.steps ∙ u.begun)))

  pub open_so_far : (net : Network S) (f : Fabric S) (given : List External) → IsReached net f → (world net f.journal).closed ≡ (world net (feeding f.journal)).closed → fed (log_in f) ≡ map Did (feeding f.journal) → IsFedUpTo given (log_in f) → f.live.world.closed ≡ false
  open_so_far net f given r alone law u =
      ap (λ (w : World). w.closed) (sym r.world) ∙ (alone ∙ (ap (λ ss. (world net ss).closed) (fed_steps f u.steps law u.is) ∙ world_open net u.steps u.unclosed))

  pub inside_so_far : (f : Fabric S) (given accepted : List External) → 1 ≤ f.live.header.groups → IsFeedOf f.live.header accepted → accepted ≡ injects f.journal → injects (feeding f.journal) ≡ injects f.journal → fed (log_in f) ≡ map Did (feeding f.journal) → IsFedUpTo given (log_in f) → last_group 0 given < f.live.header.groups
  inside_so_far f given accepted some all is alone law u =
      let same : accepted ≡ given = is ∙ (sym alone ∙ (ap injects (fed_steps f u.steps law u.is) ∙ u.injected)) in
      last_below 0 f.live.header.groups given (omega (arith, some)) (subst (IsFeedOf f.live.header) same all)

  -- ---- what the feeder has answered is passed on

  steps_more : (f g : Fabric S) (steps ys : List Step) (xs : List External) (n : ℕ) (ended : Bool) → fed (log_in f) ≡ map Did steps → Adds ys xs n ended → g.journal ≡ f.journal ++ ys → fed (log_in g) ≡ map Did (steps ++ ys)
  steps_more f g steps ys xs n ended is a more = fed_grown f g ys a.fed more ∙ (ap (λ l. l ++ map Did ys) is ∙ sym (map-append Did steps ys))

  -- one was given
  pub one_fed : (f g : Fabric S) (answer : Fed) (r : ℕ) (i : Input) (stamp : ℕ) (given : List External) (closed : Bool) → answer ≡ One r i stamp → IsDue f.live.header (log_in f) answer given closed
      → ((before : List External) → IsFedUpTo before (log_in f) → f.live.world.floor ≡ last_group 0 before)
      → HasFed f (replicate (stamp - f.live.world.floor) Beacon ++ Inject (record { group = stamp; router = r; input = i }) ∷ []) stamp false g
      → (closed ≡ false) × IsFedUpTo given (log_in g)
  one_fed f g answer r i stamp given closed is due floor h =
      let x : External = record { group = stamp; router = r; input = i } in
      let n = next_of f.live.header (log_in f) answer given closed r i stamp is due in
      let u = n.up_to in
      let beats = stamp - f.live.world.floor in
      let ys = replicate beats Beacon ++ Inject x ∷ [] in
      let a = adds_beats beats (Inject x ∷ []) (x ∷ []) false (adds_one x) in (
        n.goes_on,
        record {
          steps = u.steps ++ ys;
          is = steps_more f g u.steps ys (x ∷ []) beats false u.is a h.journal;
          injected = injects_both u.steps ys ∙ (ap (λ l. l ++ injects ys) u.injected ∙ (ap (λ l. n.before ++ l) a.injects ∙ sym n.more));
          begun = begun_both u.steps ys ∙ (let b = u.begun in let m = a.begun in let low = floor n.before u in let e = n.external.rises in let t : begun u.steps + begun ys ≡ stamp = omega (arith, b, m, low, e) in t) ∙ sym (ap (last_group 0) n.more ∙ last_is 0 n.before x);
          unclosed = closes_both u.steps ys u.unclosed ∙ a.closes;
        },
      )

  stopped_log : (f : Fabric S) → f.live.stopped ≡ true → ((steps : List Step) (stopped : Bool) → is_stopped (log_of steps stopped) ≡ stopped) → is_stopped (log_in f) ≡ true
  stopped_log f stopped law = law f.journal f.live.stopped ∙ stopped

  pub one_stopped : (f g : Fabric S) (answer : Fed) (r : ℕ) (i : Input) (stamp : ℕ) (given : List External) (closed : Bool) → answer ≡ One r i stamp → IsDue f.live.header (log_in f) answer given closed
      → ((before : List External) → IsFedUpTo before (log_in f) → f.live.world.floor ≡ last_group 0 before)
      → ((steps : List Step) (stopped : Bool) → is_stopped (log_of steps stopped) ≡ stopped)
      → (beats : ℕ) × (beats ≤ stamp - f.live.world.floor) × HasStoppedAfter f beats g
      → IsFedWith given closed (log_in g)
  one_stopped f g answer r i stamp given closed is due floor law after =
      let x : External = record { group = stamp; router = r; input = i } in
      let n = next_of f.live.header (log_in f) answer given closed r i stamp is due in
      let u = n.up_to in
      let beats = after.0 in
      let ys = replicate beats Beacon in
      let a = adds_only_beats beats in
      let h = after.2 in
      with_one_more f.live.header (log_in f) (log_in g) x given closed n (u.steps ++ ys)
      (steps_more f g u.steps ys [] beats false u.is a h.journal)
      (injects_both u.steps ys ∙ (ap (λ l. injects u.steps ++ l) a.injects ∙ (append-nil (injects u.steps) ∙ u.injected)))
      (closes_both u.steps ys u.unclosed ∙ a.closes)
      (let s = begun_both u.steps ys in let b = u.begun in let m = a.begun in let low = floor n.before u in let e = n.external.rises in let k = after.1 in omega (arith, s, b, m, low, e, k))
      (stopped_log g h.halted.stopped law)

  -- the feed was closed
  pub end_fed : (f g : Fabric S) (answer : Fed) (beats last : ℕ) (given : List External) (closed : Bool) → answer ≡ Closed → IsDue f.live.header (log_in f) answer given closed
      → HasFed f (replicate beats Beacon ++ Close ∷ []) last true g → IsFedWith given closed (log_in g)
  end_fed f g answer beats last given closed is due h =
      let l = last_of f.live.header (log_in f) answer given closed is due in
      let u = l.up_to in
      let ys = replicate beats Beacon ++ Close ∷ [] in
      let a = adds_beats beats (Close ∷ []) [] true adds_end in
      with_end (log_in f) (log_in g) given closed l (u.steps ++ ys) (steps_more f g u.steps ys [] beats true u.is a h.journal)
      (injects_both u.steps ys ∙ (ap (λ l. injects u.steps ++ l) a.injects ∙ (append-nil (injects u.steps) ∙ u.injected)))

  pub end_stopped : (f g : Fabric S) (answer : Fed) (most : ℕ) (given : List External) (closed : Bool) → answer ≡ Closed → IsDue f.live.header (log_in f) answer given closed
      → (beats : ℕ) × (beats ≤ most) × HasStoppedAfter f beats g → IsFedWith given closed (log_in g)
  end_stopped f g answer most given closed is due after =
      let l = last_of f.live.header (log_in f) answer given closed is due in
      let u = l.up_to in
      let beats = after.0 in
      let ys = replicate beats Beacon in
      let a = adds_only_beats beats in
      with_end (log_in f) (log_in g) given closed l (u.steps ++ ys) (steps_more f g u.steps ys [] beats false u.is a after.2.journal)
      (injects_both u.steps ys ∙ (ap (λ l. injects u.steps ++ l) a.injects ∙ (append-nil (injects u.steps) ∙ u.injected)))

  pub end_last : (f g : Fabric S) (beats last : ℕ) → HasFed f (replicate beats Beacon ++ Close ∷ []) last true g → EndsWithClose (log_in g)
  end_last f g beats last h =
      let a = adds_beats beats (Close ∷ []) [] true adds_end in
      let front = map Did (replicate beats Beacon) in (
        fed (log_in f) ++ front,
        fed_grown f g (replicate beats Beacon ++ Close ∷ []) a.fed h.journal
            ∙ (ap (λ l. fed (log_in f) ++ l) (map-append Did (replicate beats Beacon) (Close ∷ [])) ∙ sym (append_assoc (fed (log_in f)) front (Did Close ∷ []))),
      )

  -- ---- the seat

  -- what is due to what the seat had seen is due to the fabric that it has taken
  pub due_here : (v : SeatView S) (f : Fabric S) (answer : Fed) (given : List External) (closed : Bool) → HasTaken v f → v.feeds ≡ true → IsDue v.header v.seen answer given closed → IsDue f.live.header (log_in f) answer given closed
  due_here v f answer given closed t feeds due =
      let u = due.up_to in
      record {
        before = due.before;
        up_to = record { steps = u.steps; is = t.same_fed feeds ∙ u.is; injected = u.injected; begun = u.begun; unclosed = u.unclosed };
        answer = subst (λ h. HasGiven h due.before answer given closed) (sym t.header) due.answer;
      }

  pub may_put_grown : (v : SeatView S) (f g : Fabric S) → HasTaken v f → v.feeds ≡ true → HasGrown f g → MayPut v g.live.header g.live.openings (log_in g)
  may_put_grown v f g t feeds w = record { taken = log_in f; holds = t.held; same_header = w.header ∙ t.header; same_opening = w.openings ∙ t.opening; grown = w.grown; same_fed = λ no. absurd (true≢false (sym feeds ∙ no)) }

  same_self : (v : SeatView S) → IsSameSeat v v
  same_self v = record { turn = refl; header = refl; opening = refl; feeds = refl; first = refl; out = refl }

  pub put_back : (v w : SeatView S) (f g : Fabric S) → HasTaken v f → HasGrown f g → w ≡ released_seat (log_in g) v → HasPutBack v w
  put_back v w f g t grown put = subst (HasPutBack v) (sym put) record {
    same = record { turn = refl; header = refl; opening = refl; feeds = refl; first = refl; out = refl };
    free = refl;
    seen = prefix_trans v.seen (log_in f) (log_in g) t.seen grown.grown;
  }

  pub put_back_self : (v : SeatView S) → v.held ≡ None → HasPutBack v v
  put_back_self v free = record { same = same_self v; free = free; seen = prefix_self v.seen }

  -- one hold more
  pub put_back_more : (u v h w : SeatView S) (l : List Entry) → HasPutBack u v → h ≡ holding l v → HasPutBack h w → HasPutBack u w
  put_back_more u v h w l a is b =
      let c : HasPutBack (holding l v) w = subst (λ x. HasPutBack x w) is b in
      record {
        same = record {
          turn = c.same.turn ∙ a.same.turn;
          header = c.same.header ∙ a.same.header;
          opening = c.same.opening ∙ a.same.opening;
          feeds = c.same.feeds ∙ a.same.feeds;
          first = c.same.first ∙ a.same.first;
          out = c.same.out ∙ a.same.out;
        };
        free = c.free;
        seen = prefix_trans u.seen v.seen w.seen a.seen c.seen;
      }

  pub due_next : (v h : SeatView S) (l : List Entry) (head : Heading) (answer : Fed) (before given : List External) (closed : Bool) → h ≡ holding l v → head ≡ v.header → IsFedUpTo before v.seen → HasGiven head before answer given closed → IsDue h.header h.seen answer given closed
  due_next v h l head answer before given closed is same u answered =
      subst (λ (x : SeatView S). IsDue x.header x.seen answer given closed) (sym is) record { before = before; up_to = u; answer = subst (λ k. HasGiven k before answer given closed) same answered }
