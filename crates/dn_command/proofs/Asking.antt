-- A line that is read as a command asks for that command.
use Rattle.std.proofs.Common.{◌≡◌, ◌≢◌, ◌⊎◌, inl, inr, ℕ, ◌+◌, ◌*◌, ◌<◌, ◌≤◌, Bool, true, false, not, cond, ◌&&◌, eqb, nat_le, List, [], ◌∷◌, length, Option, Some, None, refl, sym, ap, subst, ◌∙◌, arith, rules, tests, codes}
use Rattle.std.specs.Fmt.{decimal}
use Rattle.std.specs.Option.{option_map}
use Rattle.std.specs.List.{AllByRecursion, join_with_byte, onto_first, slice_split}
use Rattle.std.specs.Cmp.Lexicographic.{bytes_decides}
use Rattle.std.proofs.lemmas.Bool.Decides.{nat_tests}
use Rattle.std.proofs.lemmas.List.Splits.{join_with_byte-slice_split, slice_split-cons_yes, slice_split-cons_no}
use Rattle.dn_guest.specs.Hex.{hex}
use Rattle.dn_model.specs.declared.router.RouterDef.{RouterDef}
use Rattle.dn_model.specs.Routers.{number_of, name_at}
use Rattle.dn_text.specs.Decimals.{decimal_of}
use Rattle.dn_text.specs.Hexadecimals.{is_hex_digit, digit_value, byte_of, behind, pairs, unhex}
use Rattle.dn_text.specs.Lines.{parts}
use Rattle.dn_text.proofs.DecimalLaws.{text_is}
use Rattle.dn_text.proofs.HexadecimalLaws.{digits_are}
use Rattle.dn_case.specs.Shapes.{is_word, ◌>>=◌}
use Rattle.dn_case.proofs.Fields.{free, both_true, each_true}
use Rattle.dn_case.proofs.RouterLaws.{numbered}
use Rattle.dn_case.proofs.Spelled.{AllFree}
use Rattle.dn_command.specs.declared.breaks.Break.{Break}
use Rattle.dn_command.specs.declared.breaks.Break.TheVariants.{At, Router, Port, Body}
use Rattle.dn_command.specs.declared.command.Command.{Command}
use Rattle.dn_command.specs.declared.command.Command.TheVariants as command
use Rattle.dn_command.specs.Commands.{from_to, number_in, number_32, port_of, probe_name, alone, plain_with_field, with_field, short_break, long_break, break_if, command_of_fields, command_of}
use Rattle.dn_command.specs.Spelling.{IsField, CanStop, CanBeAsked, AsksFor, break_fields, fields_of, spelt}

-- ---- options

bind : {A B : Type 0} (o : Option A) (f : A → Option B) (b : B) → (o >>= f) ≡ Some b → (a : A) × (o ≡ Some a) × (f a ≡ Some b)
bind None f b e = absurd cc
bind (Some a) f b e = (a, refl, e)

mapped : {A B : Type 0} (P : B → Type 0) (f : A → B) (o : Option A) (b : B) → ((a : A) → o ≡ Some a → P (f a)) → option_map f o ≡ Some b → P b
mapped P f None b h e = absurd cc
mapped P f (Some a) b h e = let same : f a ≡ b = cc in subst P same (h a refl)

chosen : {A : Type 0} (b : Bool) (x y : Option A) (a : A) → cond b x y ≡ Some a → ((b ≡ true) × (x ≡ Some a)) ⊎ (y ≡ Some a)
chosen true x y a e = inl (refl, e)
chosen false x y a e = inr e

nothing : {A B : Type 0} (a : A) → None ≡ Some a → B
nothing a e = absurd cc

as_some : {A : Type 0} (P : A → Type 0) (a b : A) → P a → Some a ≡ Some b → P b
as_some P a b h e = let same : a ≡ b = cc in subst P same h

-- ---- fields

word_is : (text word : List ℕ) → is_word text word ≡ true → text ≡ word
word_is text word e = (bytes_decides text word).0 e

record IsNumber (least greatest : ℕ) (field : List ℕ) (n : ℕ) : Type 0 where
  is : field ≡ decimal n
  low : least ≤ n
  high : n ≤ greatest

number_is : (least greatest : ℕ) (field : List ℕ) (n : ℕ) → number_in least greatest field ≡ Some n → IsNumber least greatest field n
number_is least greatest field n e =
    elim (decimal_of field) as (λ o. decimal_of field ≡ o → from_to least greatest o ≡ Some n → IsNumber least greatest field n) [
      | None ↦ λ _ e. nothing n e
      | Some m ↦ λ is e.
          elim (nat_le least m && nat_le m greatest) as (λ b. (nat_le least m && nat_le m greatest) ≡ b → cond b (Some m) None ≡ Some n → IsNumber least greatest field n) [
            | true ↦ λ fits e. (
                let k = each_true (nat_le least m) (nat_le m greatest) fits in
                let low : least ≤ m = (let t = k.0 in search (rules, tests)) in
                let high : m ≤ greatest = (let t = k.1 in search (rules, tests)) in
                as_some (IsNumber least greatest field) m n (record { is = text_is field m is; low = low; high = high }) e)
            | false ↦ λ _ e. nothing n e
          ] refl e
    ] refl e

record IsRouterOf (rs : List RouterDef) (field : List ℕ) (r : ℕ) : Type 0 where
  is : field ≡ name_at rs r
  inside : r < length rs

router_is : (rs : List RouterDef) (field : List ℕ) (r : ℕ) → number_of rs field ≡ Some r → IsRouterOf rs field r
router_is rs field r e = let k = numbered rs field r e in record { is = k.named; inside = k.inside }

-- ---- hexadecimal fields

value_small : (c : ℕ) → is_hex_digit c ≡ true → digit_value c < 16
value_small c h = grind (arith, nat_tests)

byte_small : (c d b : ℕ) → byte_of c d ≡ Some b → b < 256
byte_small c d b e =
    elim (is_hex_digit c && is_hex_digit d) as (λ t. (is_hex_digit c && is_hex_digit d) ≡ t → cond t (Some (16 * digit_value c + digit_value d)) None ≡ Some b → b < 256) [
      | true ↦ λ is e. (
          let k = each_true (is_hex_digit c) (is_hex_digit d) is in
          as_some (λ b. b < 256) (16 * digit_value c + digit_value d) b (omega (arith, value_small c k.0, value_small d k.1)) e)
      | false ↦ λ _ e. nothing b e
    ] refl e

bytes_are : (field bytes : List ℕ) → pairs field ≡ Some bytes → AllByRecursion (λ byte. byte < 256) bytes × (length field ≡ 2 * length bytes)
unfolding pairs
bytes_are [] bytes e = as_some (λ bytes. AllByRecursion (λ byte. byte < 256) bytes × (0 ≡ 2 * length bytes)) [] bytes (tt, refl) e
bytes_are (c ∷ []) bytes e = nothing bytes e
bytes_are (c ∷ d ∷ cs) bytes e =
    elim (byte_of c d) as (λ o. byte_of c d ≡ o → behind o (pairs cs) ≡ Some bytes → AllByRecursion (λ byte. byte < 256) bytes × (length (c ∷ d ∷ cs) ≡ 2 * length bytes)) [
      | None ↦ λ _ e. nothing bytes e
      | Some b ↦ λ is e. mapped (λ bytes. AllByRecursion (λ byte. byte < 256) bytes × (length (c ∷ d ∷ cs) ≡ 2 * length bytes)) (λ more. b ∷ more) (pairs cs) bytes
          (λ more rest. (let k = bytes_are cs more rest in ((byte_small c d b is, k.0), omega (arith, k.1)))) e
    ] refl e

record IsBody (field bytes : List ℕ) : Type 0 where
  is : field ≡ hex bytes
  some : 0 < length bytes
  all : AllByRecursion (λ byte. byte < 256) bytes

body_is : (field bytes : List ℕ) → unhex field ≡ Some bytes → IsBody field bytes
body_is [] bytes e = nothing bytes e
body_is (c ∷ cs) bytes e =
    let k = bytes_are (c ∷ cs) bytes e in
    let long : 0 < length (c ∷ cs) = omega arith in
    record { is = digits_are (c ∷ cs) bytes e; some = omega (arith, k.1, long); all = k.0 }

-- ---- parts have no space

other_byte : (c : ℕ) → not (eqb c 32) ≡ true → c ≢ 32
other_byte c h e = let yes : eqb c 32 ≡ true = search (rules, tests) in cc

others : (cs : List ℕ) → free 32 cs ≡ true → AllByRecursion (λ byte. byte ≢ 32) cs
others [] h = tt
others (c ∷ cs) h = let k = each_true (not (eqb c 32)) (free 32 cs) h in (other_byte c k.0, others cs k.1)

onto_free : (c : ℕ) (fs : List (List ℕ)) → not (eqb c 32) ≡ true → AllFree 32 fs → AllFree 32 (onto_first c fs)
onto_free c [] h all = (both_true (not (eqb c 32)) true h refl, tt)
onto_free c (f ∷ fs) h all = (both_true (not (eqb c 32)) (free 32 f) h all.0, all.1)

not_false : (b : Bool) → b ≡ false → not b ≡ true
not_false true e = absurd cc
not_false false e = refl

parts_free : (line : List ℕ) → AllFree 32 (parts 32 line)
unfolding parts
parts_free [] = (refl, tt)
parts_free (c ∷ cs) =
    elim (eqb c 32) as (λ b. eqb c 32 ≡ b → AllFree 32 (slice_split (λ byte. eqb byte 32) (c ∷ cs))) [
      | true ↦ λ is. subst (AllFree 32) (sym (slice_split-cons_yes (λ byte. eqb byte 32) c cs is)) (refl, parts_free cs)
      | false ↦ λ is. subst (AllFree 32) (sym (slice_split-cons_no (λ byte. eqb byte 32) c cs is)) (onto_free c (parts 32 cs) (not_false (eqb c 32) is) (parts_free cs))
    ] refl

record IsProbe (field name : List ℕ) : Type 0 where
  is : field ≡ name
  whole : IsField name

probe_is : (field name : List ℕ) → free 32 field ≡ true → probe_name field ≡ Some name → IsProbe field name
probe_is [] name h e = nothing name e
probe_is (c ∷ cs) name h e = as_some (IsProbe (c ∷ cs)) (c ∷ cs) name (record { is = refl; whole = record { some = omega arith; whole = others (c ∷ cs) h } }) e

-- ---- commands by the number of their fields

abbrev AskedBy : List RouterDef → List (List ℕ) → Command → Type 0
AskedBy rs fields c = CanBeAsked rs c × ((fields ≡ fields_of rs c) ⊎ ((fields ≡ codes "step" ∷ []) × (c ≡ command.Step 1)))

one_same : (a e : List ℕ) → a ≡ e → a ∷ [] ≡ e ∷ []
one_same a e i = rw i refl

two_same : (a b e f : List ℕ) → a ≡ e → b ≡ f → a ∷ b ∷ [] ≡ e ∷ f ∷ []
two_same a b e f i j = rw (i, j) refl

three_same : (a b c e f g : List ℕ) → a ≡ e → b ≡ f → c ≡ g → a ∷ b ∷ c ∷ [] ≡ e ∷ f ∷ g ∷ []
three_same a b c e f g i j k = rw (i, j, k) refl

asked_alone : (rs : List RouterDef) (word : List ℕ) (c : Command) → alone word ≡ Some c → AskedBy rs (word ∷ []) c
unfolding alone
asked_alone rs word c e =
    elim (chosen (is_word word (codes "step")) _ _ c e) [
      | inl h ↦ as_some (AskedBy rs (word ∷ [])) (command.Step 1) c ((omega arith, omega arith), inr (one_same word _ (word_is word _ h.0), refl)) h.1
      | inr e ↦ elim (chosen (is_word word (codes "run")) _ _ c e) [
        | inl h ↦ as_some (AskedBy rs (word ∷ [])) command.Run c (tt, inl (one_same word _ (word_is word _ h.0))) h.1
        | inr e ↦ elim (chosen (is_word word (codes "where")) _ _ c e) [
          | inl h ↦ as_some (AskedBy rs (word ∷ [])) command.Where c (tt, inl (one_same word _ (word_is word _ h.0))) h.1
          | inr e ↦ elim (chosen (is_word word (codes "last")) _ _ c e) [
            | inl h ↦ as_some (AskedBy rs (word ∷ [])) command.Last c (tt, inl (one_same word _ (word_is word _ h.0))) h.1
            | inr e ↦ elim (chosen (is_word word (codes "quit")) _ _ c e) [
              | inl h ↦ as_some (AskedBy rs (word ∷ [])) command.Quit c (tt, inl (one_same word _ (word_is word _ h.0))) h.1
              | inr e ↦ nothing c e
            ]
          ]
        ]
      ]
    ]

asked_plainly : (rs : List RouterDef) (word field : List ℕ) (c : Command) → plain_with_field rs word field ≡ Some c → AskedBy rs (word ∷ field ∷ []) c
unfolding plain_with_field
asked_plainly rs word field c e =
    elim (chosen (is_word word (codes "step")) _ _ c e) [
      | inl h ↦ mapped (AskedBy rs (word ∷ field ∷ [])) command.Step (number_in 1 200000 field) c
          (λ n is. (let k = number_is 1 200000 field n is in ((k.low, k.high), inl (two_same word field _ _ (word_is word _ h.0) k.is)))) h.1
      | inr e ↦ elim (chosen (is_word word (codes "until")) _ _ c e) [
        | inl h ↦ mapped (AskedBy rs (word ∷ field ∷ [])) command.Until (number_32 field) c
            (λ n is. (let k = number_is 0 4294967295 field n is in (k.high, inl (two_same word field _ _ (word_is word _ h.0) k.is)))) h.1
        | inr e ↦ elim (chosen (is_word word (codes "show")) _ _ c e) [
          | inl h ↦ mapped (AskedBy rs (word ∷ field ∷ [])) command.Show (number_of rs field) c
              (λ r is. (let k = router_is rs field r is in (k.inside, inl (two_same word field _ _ (word_is word _ h.0) k.is)))) h.1
          | inr e ↦ elim (chosen (is_word word (codes "queue")) _ _ c e) [
            | inl h ↦ mapped (AskedBy rs (word ∷ field ∷ [])) command.Queue (number_of rs field) c
                (λ r is. (let k = router_is rs field r is in (k.inside, inl (two_same word field _ _ (word_is word _ h.0) k.is)))) h.1
            | inr e ↦ nothing c e
          ]
        ]
      ]
    ]

asked_of_field : (rs : List RouterDef) (word field : List ℕ) (c : Command) → free 32 field ≡ true → with_field rs word field ≡ Some c → AskedBy rs (word ∷ field ∷ []) c
unfolding with_field
asked_of_field rs word field c whole e =
    elim (chosen (is_word word (codes "watch")) _ _ c e) [
      | inl h ↦ mapped (AskedBy rs (word ∷ field ∷ [])) command.Watch (probe_name field) c
          (λ name is. (let k = probe_is field name whole is in (k.whole, inl (two_same word field _ _ (word_is word _ h.0) k.is)))) h.1
      | inr e ↦ elim (chosen (is_word word (codes "unwatch")) _ _ c e) [
        | inl h ↦ mapped (AskedBy rs (word ∷ field ∷ [])) command.Unwatch (probe_name field) c
            (λ name is. (let k = probe_is field name whole is in (k.whole, inl (two_same word field _ _ (word_is word _ h.0) k.is)))) h.1
        | inr e ↦ asked_plainly rs word field c e
      ]
    ]

-- ---- breaks

abbrev StopsBy : List RouterDef → List (List ℕ) → Break → Type 0
StopsBy rs fields stop = CanStop rs stop × (fields ≡ break_fields rs stop)

short_stop : (rs : List RouterDef) (kind field : List ℕ) (stop : Break) → short_break rs kind field ≡ Some stop → StopsBy rs (kind ∷ field ∷ []) stop
unfolding short_break
short_stop rs kind field stop e =
    elim (chosen (is_word kind (codes "router")) _ _ stop e) [
      | inl h ↦ mapped (StopsBy rs (kind ∷ field ∷ [])) Router (number_of rs field) stop
          (λ r is. (let k = router_is rs field r is in (k.inside, two_same kind field _ _ (word_is kind _ h.0) k.is))) h.1
      | inr e ↦ elim (chosen (is_word kind (codes "body")) _ _ stop e) [
        | inl h ↦ mapped (StopsBy rs (kind ∷ field ∷ [])) Body (unhex field) stop
            (λ bytes is. (let k = body_is field bytes is in ((k.some, k.all), two_same kind field _ _ (word_is kind _ h.0) k.is))) h.1
        | inr e ↦ nothing stop e
      ]
    ]

long_stop : (rs : List RouterDef) (kind first second : List ℕ) (stop : Break) → long_break rs kind first second ≡ Some stop → StopsBy rs (kind ∷ first ∷ second ∷ []) stop
unfolding long_break
long_stop rs kind first second stop e =
    elim (chosen (is_word kind (codes "at")) _ _ stop e) [
      | inl h ↦ (
          let g = bind (number_32 first) _ stop h.1 in
          let s = bind (number_32 second) _ stop g.2 in
          let j = number_is 0 4294967295 first g.0 g.1 in
          let k = number_is 0 4294967295 second s.0 s.1 in
          as_some (StopsBy rs (kind ∷ first ∷ second ∷ [])) (At g.0 s.0) stop ((j.high, k.high), three_same kind first second _ _ _ (word_is kind _ h.0) j.is k.is) s.2)
      | inr e ↦ elim (chosen (is_word kind (codes "port")) _ _ stop e) [
        | inl h ↦ (
            let r = bind (number_of rs first) _ stop h.1 in
            let p = bind (port_of second) _ stop r.2 in
            let j = router_is rs first r.0 r.1 in
            let k = number_is 0 15 second p.0 p.1 in
            as_some (StopsBy rs (kind ∷ first ∷ second ∷ [])) (Port r.0 p.0) stop ((j.inside, k.high), three_same kind first second _ _ _ (word_is kind _ h.0) j.is k.is) p.2)
        | inr e ↦ nothing stop e
      ]
    ]

asked_break : (rs : List RouterDef) (word : List ℕ) (fields : List (List ℕ)) (stop : Option Break) (c : Command) → ((b : Break) → stop ≡ Some b → StopsBy rs fields b) → break_if word stop ≡ Some c → AskedBy rs (word ∷ fields) c
unfolding break_if
asked_break rs word fields stop c by e =
    elim (chosen (is_word word (codes "break")) _ _ c e) [
      | inl h ↦ mapped (AskedBy rs (word ∷ fields)) command.Break stop c
          (λ b is. (let k = by b is in (k.0, inl (ap (λ (w : List ℕ). w ∷ fields) (word_is word _ h.0) ∙ ap (λ (fs : List (List ℕ)). codes "break" ∷ fs) k.1)))) h.1
      | inr e ↦ nothing c e
    ]

-- ---- whole lines

asked_by : (rs : List RouterDef) (fields : List (List ℕ)) (c : Command) → AllFree 32 fields → command_of_fields rs fields ≡ Some c → AskedBy rs fields c
asked_by rs [] c all e = nothing c e
asked_by rs (word ∷ []) c all e = asked_alone rs word c e
asked_by rs (word ∷ field ∷ []) c all e = asked_of_field rs word field c all.1.0 e
asked_by rs (word ∷ kind ∷ field ∷ []) c all e = asked_break rs word (kind ∷ field ∷ []) (short_break rs kind field) c (λ b is. short_stop rs kind field b is) e
asked_by rs (word ∷ kind ∷ first ∷ second ∷ []) c all e = asked_break rs word (kind ∷ first ∷ second ∷ []) (long_break rs kind first second) c (λ b is. long_stop rs kind first second b is) e
asked_by rs (word ∷ kind ∷ first ∷ second ∷ third ∷ more) c all e = nothing c e

joined : (line : List ℕ) (fields : List (List ℕ)) → parts 32 line ≡ fields → line ≡ join_with_byte 32 fields
unfolding parts
joined line fields e = sym (join_with_byte-slice_split 32 line) ∙ ap (λ (fs : List (List ℕ)). join_with_byte 32 fs) e

pub asks_for : (rs : List RouterDef) (line : List ℕ) (c : Command) → command_of rs line ≡ Some c → AsksFor rs c line
unfolding command_of spelt
asks_for rs line c e =
    let k = asked_by rs (parts 32 line) c (parts_free line) e in
    record {
      asked = k.0;
      is = elim k.1 [
        | inl same ↦ inl (joined line (fields_of rs c) same)
        | inr one ↦ inr (joined line (codes "step" ∷ []) one.0, one.1)
      ];
    }
