-- The network of a case's guests, and what is written of its run.
use Rattle.std.proofs.Common.{◌≡◌, ℕ, ◌+◌, ◌<◌, ◌≤◌, List, [], ◌∷◌, ◌++◌, drop, length, map, Some, refl, sym, ap, ◌∙◌, arith}
use Rattle.std.specs.Prelude.{slice_get}
use Rattle.std.specs.List.{range_with_len}
use Rattle.std.proofs.lemmas.List.{length-drop}
use Rattle.std.proofs.lemmas.List.FromFn.{length-map-range_with_len, get_or-map-range_with_len, map-range_with_len_more}
use Rattle.std.proofs.lemmas.Option.{slice_get-get_or}
use Rattle.guest_any.specs.declared.any.AnyGuest.{AnyGuest}
use Rattle.guest_any.specs.Any.{any}
use Rattle.guest_any.specs.Openings.{opening_guest}
use Rattle.dn_model.specs.Cases.{Heading}
use Rattle.dn_model.specs.Network.{routers}
use Rattle.std.proofs.Common.{Option}
use Rattle.dn_io.specs.Streams.{behind}
use Rattle.dn_model.specs.Cases.{Recording}
use Rattle.dn_case.specs.Spelling.{case_text}
use Rattle.dn_trace.specs.declared.stream.Ending.{Ending}
use Rattle.dn_trace.specs.declared.stream.Ending.TheVariants as ending
use Rattle.dn_trace.specs.Differing.{DiffersAt}
use Rattle.dn_trace.specs.Streaming.{IsRunOf, EndsAs}
use Rattle.dn_top.specs.Promises.{IsOtherTrace, network_of, is_cut_case, is_cut_ending, trace_of, written}

abbrev pub openings : Heading → List AnyGuest
openings h = map (λ r. opening_guest h r) (range_with_len 0 (length h.routers))

pub one_more : (h : Heading) (n : ℕ) (guests : List AnyGuest) (guest : AnyGuest) → guests ≡ map (λ r. opening_guest h r) (range_with_len 0 n) → guest ≡ opening_guest h n → guests ++ guest ∷ [] ≡ map (λ r. opening_guest h r) (range_with_len 0 (n + 1))
one_more h n guests guest before next =
    ap (λ (gs : List AnyGuest). gs ++ guest ∷ []) before
    ∙ ap (λ (g : AnyGuest). map (λ r. opening_guest h r) (range_with_len 0 n) ++ g ∷ []) next
    ∙ sym (map-range_with_len_more (λ r. opening_guest h r) 0 n n (omega arith))

pub one_each : (h : Heading) (guests : List AnyGuest) → guests ≡ openings h → length guests ≡ length h.routers
one_each h guests made = rw made (length-map-range_with_len (λ r. opening_guest h r) 0 (length h.routers))

opened_at : (h : Heading) (r : ℕ) → r < length h.routers → slice_get (openings h) r ≡ Some (opening_guest h r)
opened_at h r l =
    slice_get-get_or (openings h) r (opening_guest h r) (let long = one_each h (openings h) refl in omega (arith, long, l))
    ∙ ap (λ (g : AnyGuest). Some g) (get_or-map-range_with_len (λ r. opening_guest h r) 0 (length h.routers) r r (opening_guest h r) l (omega arith))

-- the guests before the first event, one for each router
pub guests_run : (h : Heading) (guests : List AnyGuest) → guests ≡ openings h → IsRunOf (network_of h) any h guests
unfolding routers
guests_run h guests made = record {
  of_header = refl;
  of_guest = refl;
  openings = λ r l. rw made (opened_at h r l);
}

-- how the trace ended tells whether the run is cut
pub ending_tells : (c : Recording) (e : Ending) → EndsAs (network_of c.header) c.feed e → is_cut_case c ≡ is_cut_ending e
ending_tells c ending.Whole right = right
ending_tells c ending.Cut right = right

-- the recording, and then the trace
pub written_is : (c : Recording) → case_text c ++ trace_of c ≡ written c
unfolding written
written_is c = refl

-- two texts that are put one behind the other are put as one
abbrev pub ArePutAsOne : Type 0
ArePutAsOne = (held : Option (List ℕ)) (one two : List ℕ) → behind (behind held one) two ≡ behind held (one ++ two)

pub both_written : ArePutAsOne → (c : Recording) (old then now : Option (List ℕ)) → then ≡ behind old (case_text c) → now ≡ behind then (trace_of c) → now ≡ behind old (written c)
both_written as_one c old then now first second =
    second ∙ ap (λ (told : Option (List ℕ)). behind told (trace_of c)) first ∙ as_one old (case_text c) (trace_of c) ∙ ap (behind old) (written_is c)

-- a place in what stands behind the case is within the input
pub place_within : (input : List ℕ) (c : Recording) (size place : ℕ) → size ≤ length input → DiffersAt (drop size input) (trace_of c) place → size + place ≤ length input
place_within input c size place within differs =
    let inside = differs.within.0 in
    let long = length-drop size input in
    omega (arith, inside, long, within)

pub other_trace : (input : List ℕ) (c : Recording) (size place : ℕ) → DiffersAt (drop size input) (trace_of c) place → IsOtherTrace input c size (size + place)
other_trace input c size place differs = record { behind_case = place; differs = differs; at = refl }
