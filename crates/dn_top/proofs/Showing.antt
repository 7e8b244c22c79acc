-- What a fabric shows that was driven is the trace of the case.
use Rattle.std.proofs.Common.{◌≡◌, ℕ, zero, suc, ◌+◌, ◌<◌, true, false, List, [], ◌++◌, length, Option, refl, sym, ap, subst, ◌∙◌, append_assoc, append-nil, arith}
use Rattle.std.proofs.lemmas.Bool.{ltb-false}
use Rattle.std.proofs.lemmas.List.{take_all}
use Rattle.dn_guest.specs.declared.node.Node.{Node}
use Rattle.dn_model.specs.declared.router.RouterDef.{RouterDef}
use Rattle.dn_model.specs.declared.event.Event.{Event}
use Rattle.dn_model.specs.declared.feed.External.{External}
use Rattle.dn_model.specs.Cases.{Heading, Recording, IsRecording}
use Rattle.dn_model.specs.Network.{Network, routers, state, Family}
use Rattle.dn_model.specs.Settled.{lockstep, rows, shown_rows, row_limit, is_cut}
use Rattle.dn_world.specs.declared.step.Step.{Step}
use Rattle.dn_world.specs.World.{part}
use Rattle.dn_trace.specs.Rows.{state_line}
use Rattle.dn_trace.specs.Trace.{trace_text, shown_text, end_text, last_lines, cut_line, end_line, state_lines}
use Rattle.dn_fabric.specs.Fabrics.{Fabric}
use Rattle.dn_journal.specs.Spelling.{journal_text}
use Rattle.guest_any.specs.declared.any.AnyGuest.{AnyGuest}
use Rattle.guest_any.specs.Any.{any}
use Rattle.dn_top.specs.declared.status.Status.{Status}
use Rattle.dn_top.specs.Promises.{network_of, trace_of, written, shaken}
use Rattle.dn_top.specs.Drives.{ShowsCase, Writes}

-- ---- how the trace ends

module _ {S : Type 0} (net : Network S) (feed : List External) where
  pub whole_rows : is_cut net feed ≡ false → shown_rows net feed ≡ rows net feed
  unfolding shown_rows is_cut
  whole_rows uncut = take_all row_limit (rows net feed) (let l = ltb-false row_limit (length (rows net feed)) uncut in omega (arith, l))

  same_states : (defs : List RouterDef) (f : Family) (n : ℕ) → ((r : ℕ) → r < n → f r ≡ lockstep net feed r) → state_lines net.guests defs (λ r. state net r (f r)) n ≡ state_lines net.guests defs (λ r. state net r (lockstep net feed r)) n
  unfolding state_lines
  same_states defs f zero same = refl
  same_states defs f (suc n) same =
      ap (λ (l : List ℕ). l ++ state_line net.guests defs n (state net n (f n))) (same_states defs f n (λ r l. same r (omega (arith, l))))
      ∙ ap (λ (es : List Event). state_lines net.guests defs (λ r. state net r (lockstep net feed r)) n ++ state_line net.guests defs n (state net n es)) (same n (omega arith))

  -- the states of the routers' histories, and the number of rows
  pub last_shown : (f : Family) (shown : List Event) → is_cut net feed ≡ false → shown ≡ shown_rows net feed → ((r : ℕ) → r < routers net → f r ≡ lockstep net feed r) → state_lines net.guests net.header.routers (λ r. state net r (f r)) (routers net) ++ end_line (length shown) ≡ last_lines net feed
  unfolding last_lines
  last_shown f shown uncut are same =
      ap (λ (l : List ℕ). l ++ end_line (length shown)) (same_states net.header.routers f (routers net) same)
      ∙ ap (λ (es : List Event). state_lines net.guests net.header.routers (λ r. state net r (lockstep net feed r)) (routers net) ++ end_line (length es)) (are ∙ whole_rows uncut)

  pub whole_end : is_cut net feed ≡ false → end_text net feed ≡ last_lines net feed
  unfolding end_text
  whole_end uncut = rw uncut refl

  pub cut_end : is_cut net feed ≡ true → end_text net feed ≡ cut_line
  unfolding end_text
  cut_end cut = rw cut refl

-- the lines that a fabric gives which shows a whole run
pub last_of_fabric : (c : Recording) (f : Fabric AnyGuest) → f.live.cut ≡ false → ShowsCase c f → state_lines any c.header.routers (λ r. state (network_of c.header) r (part f.live.world r).done) (length c.header.routers) ++ end_line (length f.live.rows) ≡ last_lines (network_of c.header) c.feed
unfolding routers
last_of_fabric c f whole shows = last_shown (network_of c.header) c.feed (λ r. (part f.live.world r).done) f.live.rows (sym shows.cut ∙ whole) shows.rows (shows.done whole)

-- one state more
pub state_after : (c : Recording) (f : Fabric AnyGuest) (defs : List RouterDef) (out before after : List ℕ) (n : ℕ) (node : Node AnyGuest) → before ≡ out ++ state_lines any defs (λ r. state (network_of c.header) r (part f.live.world r).done) n → node ≡ state (network_of c.header) n (part f.live.world n).done → after ≡ before ++ state_line any defs n node → after ≡ out ++ state_lines any defs (λ r. state (network_of c.header) r (part f.live.world r).done) (n + 1)
unfolding state_lines
state_after c f defs out before after n node first is second =
    let e : n + 1 ≡ suc n = omega arith in
    let lines = state_lines any defs (λ r. state (network_of c.header) r (part f.live.world r).done) n in
    rw e
    (second ∙ ap (λ (l : List ℕ). l ++ state_line any defs n node) first
    ∙ append_assoc out lines (state_line any defs n node)
    ∙ ap (λ (x : Node AnyGuest). out ++ (lines ++ state_line any defs n x)) is)

-- no state
pub no_state : (c : Recording) (f : Fabric AnyGuest) (defs : List RouterDef) (out : List ℕ) → out ≡ out ++ state_lines any defs (λ r. state (network_of c.header) r (part f.live.world r).done) 0
unfolding state_lines
no_state c f defs out = sym (append-nil out)

-- the states and the number of rows
pub ends_after : (c : Recording) (f : Fabric AnyGuest) (defs : List RouterDef) (out between after : List ℕ) → c.header.routers ≡ defs → f.live.cut ≡ false → ShowsCase c f → between ≡ out ++ state_lines any defs (λ r. state (network_of c.header) r (part f.live.world r).done) (length defs) → after ≡ between ++ end_line (length f.live.rows) → after ≡ out ++ end_text (network_of c.header) c.feed
ends_after c f defs out between after same whole shows first second =
    let states : List RouterDef → List ℕ = λ ds. state_lines any ds (λ r. state (network_of c.header) r (part f.live.world r).done) (length ds) in
    second
    ∙ ap (λ (l : List ℕ). l ++ end_line (length f.live.rows)) (first ∙ ap (λ (ds : List RouterDef). out ++ states ds) (sym same))
    ∙ append_assoc out (states c.header.routers) (end_line (length f.live.rows))
    ∙ ap (λ (l : List ℕ). out ++ l) (last_of_fabric c f whole shows ∙ sym (whole_end (network_of c.header) c.feed (sym shows.cut ∙ whole)))

pub cut_after : (c : Recording) (f : Fabric AnyGuest) (out after : List ℕ) → f.live.cut ≡ true → ShowsCase c f → after ≡ out ++ cut_line → after ≡ out ++ end_text (network_of c.header) c.feed
cut_after c f out after cut shows first = first ∙ ap (λ (l : List ℕ). out ++ l) (sym (cut_end (network_of c.header) c.feed (sym shows.cut ∙ cut)))

-- the rows and the ends
pub trace_shown : (c : Recording) (h : Heading) (f : Fabric AnyGuest) (rows : List Event) (ends : List ℕ) → c.header ≡ h → ShowsCase c f → rows ≡ f.live.rows → ends ≡ end_text (network_of c.header) c.feed → shown_text h.routers rows ends ≡ trace_of c
unfolding trace_text
trace_shown c h f rows ends same shows are is =
    ap (λ (x : Heading). shown_text x.routers rows ends) (sym same)
    ∙ ap (λ (es : List Event). shown_text c.header.routers es ends) (are ∙ shows.rows)
    ∙ ap (λ (l : List ℕ). shown_text c.header.routers (shown_rows (network_of c.header) c.feed) l) is

-- what `shake` writes
pub shaken_is : (c : Recording) (h : Heading) (steps : List Step) (empty journal : List ℕ) → c.header ≡ h → empty ≡ [] → journal ≡ empty ++ journal_text h steps → written c ++ journal ≡ shaken c steps
unfolding shaken
shaken_is c h steps empty journal same none is =
    ap (λ (l : List ℕ). written c ++ l) (is ∙ ap (λ (l : List ℕ). l ++ journal_text h steps) none ∙ ap (λ (x : Heading). journal_text x steps) (sym same))

-- ---- how writing it went

pub writes_same : (c : Recording) (one other : List ℕ) (s : Status) (old now : Option (List ℕ)) → one ≡ other → Writes c one s old now → Writes c other s old now
writes_same c one other s old now same writes = subst (λ (text : List ℕ). Writes c text s old now) same writes

-- the case with this header and feed
pub recording_of : (c : Recording) (h : Heading) (feed : List External) → h ≡ c.header → c.feed ≡ feed → IsRecording c → IsRecording (record { header = h; feed = feed })
recording_of c h feed headers feeds rules =
    subst (λ (x : Heading). IsRecording (record { header = x; feed = feed })) (sym headers)
    (subst (λ (xs : List External). IsRecording (record { header = c.header; feed = xs })) feeds rules)
