-- States of a live feed that follow one another: each follows itself, and one that follows a follower follows too.
use Rattle.std.specs.Prelude.{◌≡◌, ℕ, ◌+◌, ◌≤◌, false, List, [], ◌∷◌, ◌++◌, length, Option, Some, None, refl}
use Rattle.std.proofs.Common.{inl, inr, ap, sym, subst, ◌∙◌, append_assoc, arith}
use Rattle.std.proofs.lemmas.List.{length-append}
use Rattle.std.specs.Option.{option_map}
use Rattle.dn_model.specs.declared.feed.External.{External}
use Rattle.dn_model.specs.Cases.{Heading}
use Rattle.dn_io.specs.Streams.{before, Rose}
use Rattle.dn_io.specs.Beats.{later}
use Rattle.dn_record.specs.declared.live_end.LiveEnd.{LiveEnd}
use Rattle.dn_record.specs.declared.live_end.LiveEnd.TheVariants as ending
use Rattle.dn_record.specs.Feeding.{last_group}
use Rattle.dn_record.specs.Stamps.{stamp_of}
use Rattle.dn_record.specs.Live.{Heard, AreRead, AreBeats, beats_after, text_of, ended_line, external_of, stamped, Hearing, Ends, GoesOn, Follows}

-- ---- lines, and then more lines

text_append : (xs ys : List Heard) → text_of (xs ++ ys) ≡ text_of xs ++ text_of ys
text_append [] ys = refl
text_append (x ∷ xs) ys = ap (λ (l : List ℕ). ended_line x.text ++ l) (text_append xs ys) ∙ sym (append_assoc (ended_line x.text) (text_of xs) (text_of ys))

read_append : (h : Heading) (xs ys : List Heard) → AreRead h xs → AreRead h ys → AreRead h (xs ++ ys)
read_append h [] ys one two = two
read_append h (x ∷ xs) ys one two = (one.0, read_append h xs ys one.1 two)

beats_append : (beats : Option (ℕ → ℕ)) (xs ys : List Heard) → AreBeats beats xs → AreBeats (beats_after xs beats) ys → AreBeats beats (xs ++ ys)
beats_append beats [] ys one two = two
beats_append beats (x ∷ xs) ys one two = (one.0, beats_append (option_map later beats) xs ys one.1 two)

after_append : (beats : Option (ℕ → ℕ)) (xs ys : List Heard) → beats_after ys (beats_after xs beats) ≡ beats_after (xs ++ ys) beats
after_append beats [] ys = refl
after_append beats (x ∷ xs) ys = after_append (option_map later beats) xs ys

stamped_append : (groups last : ℕ) (xs ys : List Heard) → stamped groups last (xs ++ ys) ≡ stamped groups last xs ++ stamped groups (last_group last (stamped groups last xs)) ys
stamped_append groups last [] ys = refl
stamped_append groups last (x ∷ xs) ys = ap (λ (l : List External). external_of (stamp_of groups last x.beat) x ∷ l) (stamped_append groups (stamp_of groups last x.beat) xs ys)

last_append : (low : ℕ) (xs ys : List External) → last_group low (xs ++ ys) ≡ last_group (last_group low xs) ys
last_append low [] ys = refl
last_append low (x ∷ xs) ys = last_append x.group xs ys

length_more : (xs ys : List Heard) → length (text_of (xs ++ ys)) ≡ length (text_of xs) + length (text_of ys)
length_more xs ys = ap (λ (l : List ℕ). length l) (text_append xs ys) ∙ length-append (text_of xs) (text_of ys)

before_before : (one two : List ℕ) (told : Option (List ℕ)) → before one (before two told) ≡ before (one ++ two) told
before_before one two None = refl
before_before one two (Some rest) = ap (λ (l : List ℕ). Some l) (sym (append_assoc one two rest))

-- ---- states that follow one another

pub follows_itself : (x : Hearing) → Follows x x
follows_itself x = inl refl

pub follows_with_header : (x y : Hearing) → Follows x y → y.live.header ≡ x.live.header
follows_with_header x y follows = elim follows [ inl e ↦ ap (λ (w : Hearing). w.live.header) e | inr on ↦ on.header ]

rose_earlier : (a b c : ℕ) → a ≤ b → Rose b c → Rose a c
rose_earlier a b c le rose = omega (arith, rose)

ends_earlier : (x y z : Hearing) (room : ℕ) (ahead : List ℕ) (ended : Option LiveEnd) → x.faults ≤ y.faults → Ends y z room ahead ended → Ends x z room ahead ended
ends_earlier x y z room ahead None le ends = ends
ends_earlier x y z room ahead (Some ending.Closed) le ends = ends
ends_earlier x y z room ahead (Some (ending.Bad fault)) le ends = ends
ends_earlier x y z room ahead (Some ending.Failed) le ends = (ends.0, rose_earlier x.faults y.faults z.faults le ends.1)
ends_earlier x y z room ahead (Some ending.TooBig) le ends = ends

module _ (x y z : Hearing) (p : GoesOn x y) (q : GoesOn y z) where
  still_open : Ends x y p.room.0 p.ahead None
  still_open = subst (λ (e : Option LiveEnd). Ends x y p.room.0 p.ahead e) q.was_open.0 (p.room.2 q.was_open.1)

  both_given : z.live.given ≡ x.live.given ++ stamped x.live.header.groups x.live.last (p.heard ++ q.heard)
  both_given =
      let h = x.live.header in
      let first = stamped h.groups x.live.last p.heard in
      let last : y.live.last ≡ last_group x.live.last first = p.last q.was_open.1 in
      let second : stamped y.live.header.groups y.live.last q.heard ≡ stamped h.groups (last_group x.live.last first) q.heard = ap (λ (k : Heading). stamped k.groups y.live.last q.heard) p.header ∙ ap (λ (n : ℕ). stamped h.groups n q.heard) last in
      q.given ∙ ap (λ (l : List External). l ++ stamped y.live.header.groups y.live.last q.heard) p.given ∙ append_assoc x.live.given first (stamped y.live.header.groups y.live.last q.heard) ∙ ap (λ (l : List External). x.live.given ++ (first ++ l)) second ∙ ap (λ (l : List External). x.live.given ++ l) (sym (stamped_append h.groups x.live.last p.heard q.heard))

  both_bytes : x.live.reader.held ++ (p.came ++ q.came) ≡ text_of (p.heard ++ q.heard) ++ q.ahead
  both_bytes =
      let held = x.live.reader.held in
      let behind : p.ahead ++ q.came ≡ text_of q.heard ++ q.ahead = ap (λ (l : List ℕ). l ++ q.came) still_open.0 ∙ q.bytes in
      sym (append_assoc held p.came q.came) ∙ ap (λ (l : List ℕ). l ++ q.came) p.bytes ∙ append_assoc (text_of p.heard) p.ahead q.came ∙ ap (λ (l : List ℕ). text_of p.heard ++ l) behind ∙ sym (append_assoc (text_of p.heard) (text_of q.heard) q.ahead) ∙ ap (λ (l : List ℕ). l ++ q.ahead) (sym (text_append p.heard q.heard))

  both_last : z.live.spent ≡ false → z.live.last ≡ last_group x.live.last (stamped x.live.header.groups x.live.last (p.heard ++ q.heard))
  both_last unspent =
      let h = x.live.header in
      let first = stamped h.groups x.live.last p.heard in
      let last : y.live.last ≡ last_group x.live.last first = p.last q.was_open.1 in
      let after : ℕ → List External = λ n. stamped h.groups n q.heard in
      q.last unspent ∙ ap (λ (k : Heading). last_group y.live.last (stamped k.groups y.live.last q.heard)) p.header ∙ ap (λ (n : ℕ). last_group n (after n)) last ∙ sym (last_append x.live.last first (after (last_group x.live.last first))) ∙ ap (last_group x.live.last) (sym (stamped_append h.groups x.live.last p.heard q.heard))

  both_room : x.live.reader.room ≡ length (text_of (p.heard ++ q.heard)) + q.room.0
  both_room = omega (arith, p.room.1, q.room.1, still_open.1, length_more p.heard q.heard)

  both : GoesOn x z
  both = record {
    was_open = p.was_open;
    header = q.header ∙ p.header;
    heard = p.heard ++ q.heard;
    read = read_append x.live.header p.heard q.heard p.read (subst (λ (h : Heading). AreRead h q.heard) p.header q.read);
    given = both_given;
    beats = beats_append x.beats p.heard q.heard p.beats (subst (λ (b : Option (ℕ → ℕ)). AreBeats b q.heard) (p.later q.was_open.1) q.beats);
    came = p.came ++ q.came;
    told = p.told ∙ ap (before p.came) q.told ∙ before_before p.came q.came z.left;
    ahead = q.ahead;
    bytes = both_bytes;
    faults = omega (arith, p.faults, q.faults);
    last = both_last;
    number = λ unspent. omega (arith, q.number unspent, p.number q.was_open.1, length-append p.heard q.heard);
    later = λ unspent. q.later unspent ∙ ap (beats_after q.heard) (p.later q.was_open.1) ∙ after_append x.beats p.heard q.heard;
    room = (q.room.0, both_room, λ unspent. ends_earlier x y z q.room.0 q.ahead z.live.ended p.faults (q.room.2 unspent));
    unspent = q.unspent;
  }

pub follows_onward : (x y z : Hearing) → Follows x y → Follows y z → Follows x z
follows_onward x y z one two =
    elim one [
      | inl e ↦ subst (λ (w : Hearing). Follows w z) e two
      | inr p ↦ elim two [
        | inl f ↦ subst (λ (w : Hearing). Follows x w) (sym f) (inr p)
        | inr q ↦ inr (both x y z p q)
      ]
    ]
