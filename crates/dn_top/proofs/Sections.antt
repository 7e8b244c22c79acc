-- The trace section of a text that begins with a trace is that trace.
use Rattle.std.proofs.Common.{◌≡◌, ℕ, zero, suc, ◌+◌, ◌/◌, ◌%◌, ◌<◌, ◌≤◌, Bool, true, false, cond, not, ◌&&◌, eqb, nat_lt, nat_le, List, [], ◌∷◌, ◌++◌, length, take, refl, sym, ap, ◌∙◌, arith, append_assoc, codes}
use Rattle.std.proofs.lemmas.Bool.Decides.{nat_tests}
use Rattle.std.specs.Fmt.{decimal, digits_onto, digits, digit_glyph}
use Rattle.std.specs.List.{concat, position_or_len}
use Rattle.std.proofs.lemmas.List.{length-append}
use Rattle.std.specs.Int.{to_be_bytes, w16, w64}
use Rattle.std.proofs.lemmas.Bool.{eqb-true}
use Rattle.std.specs.List.{list_all}
use Rattle.dn_guest.specs.Hex.{digit, hex}
use Rattle.dn_guest.specs.declared.input.Input.{Input}
use Rattle.dn_guest.specs.declared.input.Input.TheVariants.{Tick, Cmd, Down, Up, Msg}
use Rattle.dn_guest.specs.declared.node.Node.{Node}
use Rattle.dn_guest.specs.Meaning.{Meaning}
use Rattle.dn_model.specs.declared.key.Key.{Key}
use Rattle.dn_model.specs.declared.event.Event.{Event}
use Rattle.dn_model.specs.declared.feed.External.{External}
use Rattle.dn_model.specs.declared.router.RouterDef.{RouterDef}
use Rattle.dn_model.specs.Cases.{IsHeading, AreRouters}
use Rattle.dn_model.specs.Names.{is_letter_or_digit, is_letter, begins_well}
use Rattle.dn_model.specs.Network.{Network, routers, state}
use Rattle.dn_model.specs.Routers.{name_at}
use Rattle.dn_model.specs.Settled.{lockstep, rows, shown_rows, row_limit, is_cut}
use Rattle.dn_text.specs.Hexadecimals.{hex64}
use Rattle.dn_trace.specs.Rows.{field, last_field, class_letter, body_text, input_text, key_text, row_line, row_lines, hex16, state_line}
use Rattle.dn_trace.specs.Trace.{state_lines, end_line, cut_line, last_lines, end_text, trace_text}
use Rattle.dn_case.specs.TraceSections.{section, section_len}
use Rattle.dn_text.specs.Lines.{lines}
use Rattle.dn_case.specs.TraceSections.{closes, up_to_close}

-- ---- texts without a newline

abbrev pub plain : List ℕ → Bool
plain [] = true
plain (c ∷ cs) = not (eqb c 10) && plain cs

both : (a b : Bool) → a ≡ true → b ≡ true → (a && b) ≡ true
both true b p q = q
both false b p q = p

each : (a b : Bool) → (a && b) ≡ true → (a ≡ true) × (b ≡ true)
each true b e = (refl, e)
each false b e = absurd cc

is_other : (b : Bool) → not b ≡ true → b ≡ false
is_other true e = sym e
is_other false e = refl

pub plain-append : (a b : List ℕ) → plain a ≡ true → plain b ≡ true → plain (a ++ b) ≡ true
plain-append [] b p q = q
plain-append (c ∷ a) b p q =
    let k = each (not (eqb c 10)) (plain a) p in
    both (not (eqb c 10)) (plain (a ++ b)) k.0 (plain-append a b k.1 q)

pub line_then : (f rest : List ℕ) → plain f ≡ true → lines (f ++ 10 ∷ rest) ≡ (f ++ 10 ∷ []) ∷ lines rest
line_then [] rest h = refl
line_then (c ∷ f) rest h =
    let k = each (not (eqb c 10)) (plain f) h in
    let other : eqb c 10 ≡ false = is_other (eqb c 10) k.0 in
    rw (other, line_then f rest k.1) refl

-- ---- decimals and hexadecimals

-- a character from 48 on, but for those between 58 and 64, is no newline
past_newline : (c : ℕ) → 48 ≤ c → not (eqb c 10) ≡ true
past_newline c high = grind (arith, nat_tests)

glyph_is : (d : ℕ) → d < 10 → digit_glyph false d ≡ 48 + d
glyph_is d low = let e : nat_lt d 10 ≡ true = grind (arith, nat_tests) in rw e refl

-- a text that begins with a digit
pub record BeginsWithDigit (text : List ℕ) : Type 0 where
  pub first : ℕ
  pub more : List ℕ
  pub is : text ≡ first ∷ more
  pub low : 48 ≤ first
  pub high : first < 58

then_more : (a b : List ℕ) → BeginsWithDigit a → BeginsWithDigit (a ++ b)
then_more a b d = record { first = d.first; more = d.more ++ b; is = ap (λ (x : List ℕ). x ++ b) d.is; low = d.low; high = d.high }

-- and has no newline
pub record IsNumeral (text : List ℕ) : Type 0 where
  pub begins : BeginsWithDigit text
  pub plain : plain text ≡ true

onto_more : (n : ℕ) (acc : List ℕ) → plain acc ≡ true → IsNumeral (digit_glyph false (n % 10) ∷ acc)
onto_more n acc p =
    let small : n % 10 < 10 = omega arith in
    let is = glyph_is (n % 10) small in
    let low : 48 ≤ digit_glyph false (n % 10) = omega (arith, is) in
    let high : digit_glyph false (n % 10) < 58 = omega (arith, is, small) in
    record { begins = record { first = digit_glyph false (n % 10); more = acc; is = refl; low = low; high = high }; plain = both (not (eqb (digit_glyph false (n % 10)) 10)) (plain acc) (past_newline (digit_glyph false (n % 10)) low) p }

onto_digits : (k n : ℕ) (acc : List ℕ) → IsNumeral acc → IsNumeral (digits_onto k 10 false n acc)
onto_digits zero n acc b = b
onto_digits (suc k) n acc b =
    let here = onto_more n acc b.plain in
    elim (eqb (n / 10) 0) as (λ x. IsNumeral (cond x (digit_glyph false (n % 10) ∷ acc) (digits_onto k 10 false (n / 10) (digit_glyph false (n % 10) ∷ acc)))) [
      | true ↦ here
      | false ↦ onto_digits k (n / 10) (digit_glyph false (n % 10) ∷ acc) here
    ]

pub decimal_numeral : (n : ℕ) → IsNumeral (decimal n)
unfolding digits
decimal_numeral n =
    let here = onto_more n [] refl in
    elim (eqb (n / 10) 0) as (λ x. IsNumeral (cond x (digit_glyph false (n % 10) ∷ []) (digits_onto 63 10 false (n / 10) (digit_glyph false (n % 10) ∷ [])))) [
      | true ↦ here
      | false ↦ onto_digits 63 (n / 10) (digit_glyph false (n % 10) ∷ []) here
    ]

digit_plain : (d : ℕ) → not (eqb (digit d) 10) ≡ true
digit_plain d =
    elim (nat_lt d 10) as (λ b. not (eqb (cond b (48 + d) (87 + d)) 10) ≡ true) [
      | true ↦ past_newline (48 + d) (omega arith)
      | false ↦ past_newline (87 + d) (omega arith)
    ]

pub hex_plain : (bytes : List ℕ) → plain (hex bytes) ≡ true
hex_plain [] = refl
hex_plain (b ∷ bytes) =
    both (not (eqb (digit (b / 16)) 10)) (not (eqb (digit (b % 16)) 10) && plain (hex bytes)) (digit_plain (b / 16)) (both (not (eqb (digit (b % 16)) 10)) (plain (hex bytes)) (digit_plain (b % 16)) (hex_plain bytes))

-- ---- up to the line that closes

-- the bytes up to and with the first line that closes a section
abbrev pub to_close : List (List ℕ) → ℕ
to_close ls = length (concat (up_to_close ls))

pub close_here : (l : List ℕ) (ls : List (List ℕ)) → closes l ≡ true → to_close (l ∷ ls) ≡ length l
close_here l ls is = rw is (length-append l [] ∙ omega arith)

next_len : (n : ℕ) (l : List ℕ) (ls : List (List ℕ)) → length (concat (take (1 + n + 1) (l ∷ ls))) ≡ length l + length (concat (take (n + 1) ls))
next_len n l ls =
    let e : 1 + n + 1 ≡ suc (n + 1) = omega arith in
    ap (λ (k : ℕ). length (concat (take k (l ∷ ls)))) e ∙ length-append l (concat (take (n + 1) ls))

pub close_later : (l : List ℕ) (ls : List (List ℕ)) → closes l ≡ false → to_close (l ∷ ls) ≡ length l + to_close ls
close_later l ls is = rw is (next_len (position_or_len closes ls) l ls)

-- a line within a section
pub record IsInner (line : List ℕ) : Type 0 where
  pub text : List ℕ
  pub is : line ≡ text ++ 10 ∷ []
  pub plain : plain text ≡ true
  pub inner : closes line ≡ false

-- the line that closes it
pub record IsClose (line : List ℕ) : Type 0 where
  pub text : List ℕ
  pub is : line ≡ text ++ 10 ∷ []
  pub plain : plain text ≡ true
  pub shut : closes line ≡ true

first_line : (line text rest : List ℕ) → line ≡ text ++ 10 ∷ [] → plain text ≡ true → lines (line ++ rest) ≡ line ∷ lines rest
first_line line text rest is p =
    ap lines (ap (λ (x : List ℕ). x ++ rest) is ∙ append_assoc text (10 ∷ []) rest) ∙ line_then text rest p ∙ ap (λ (x : List ℕ). x ∷ lines rest) (sym is)

pub to_close_inner : (line rest : List ℕ) → IsInner line → to_close (lines (line ++ rest)) ≡ length line + to_close (lines rest)
to_close_inner line rest l = ap to_close (first_line line l.text rest l.is l.plain) ∙ close_later line (lines rest) l.inner

pub to_close_last : (line rest : List ℕ) → IsClose line → to_close (lines (line ++ rest)) ≡ length line
to_close_last line rest l = ap to_close (first_line line l.text rest l.is l.plain) ∙ close_here line (lines rest) l.shut

-- ---- names

letter_plain : (c : ℕ) → is_letter_or_digit c ≡ true → not (eqb c 10) ≡ true
letter_plain c is =
    elim (eqb c 10) as (λ b. eqb c 10 ≡ b → not b ≡ true) [
      | true ↦ λ e. (let same : is_letter_or_digit c ≡ false = ap is_letter_or_digit (eqb-true c 10 e) in absurd cc)
      | false ↦ λ e. refl
    ] refl

letters_plain : (cs : List ℕ) → list_all is_letter_or_digit cs ≡ true → plain cs ≡ true
letters_plain [] is = refl
letters_plain (c ∷ cs) is =
    let k = each (is_letter_or_digit c) (list_all is_letter_or_digit cs) is in
    both (not (eqb c 10)) (plain cs) (letter_plain c k.0) (letters_plain cs k.1)

begins_plain : (cs : List ℕ) → begins_well cs ≡ true → plain cs ≡ true
begins_plain [] is = refl
begins_plain (c ∷ cs) is =
    let k = each (is_letter c) (list_all is_letter_or_digit cs) is in
    let letter : is_letter_or_digit c ≡ true = rw k.0 refl in
    both (not (eqb c 10)) (plain cs) (letter_plain c letter) (letters_plain cs k.1)

names_plain : (before rs : List RouterDef) (r : ℕ) → AreRouters before rs → plain (name_at rs r) ≡ true
names_plain before [] r all = refl
names_plain before (d ∷ ds) zero all = begins_plain d.name (each (nat_le (length d.name) 16) (begins_well d.name) all.0.named).1
names_plain before (d ∷ ds) (suc r) all = names_plain (before ++ d ∷ []) ds r all.1

-- ---- rows

field_plain : (text : List ℕ) → plain text ≡ true → plain (field text) ≡ true
unfolding field
field_plain text p = plain-append text (32 ∷ []) p refl

class_plain : (class : ℕ) → plain (class_letter class ∷ []) ≡ true
unfolding class_letter
class_plain class =
    elim (eqb class 0) as (λ a. plain (cond a 116 (cond (eqb class 1) 120 109) ∷ []) ≡ true) [
      | true ↦ refl
      | false ↦ elim (eqb class 1) as (λ b. plain (cond b 120 109 ∷ []) ≡ true) [
        | true ↦ refl
        | false ↦ refl
      ]
    ]

hex64_plain : (n : ℕ) → plain (hex64 n) ≡ true
unfolding hex64
hex64_plain n = hex_plain (to_be_bytes w64 n)

decimal_plain : (n : ℕ) → plain (decimal n) ≡ true
decimal_plain n = (decimal_numeral n).plain

key_plain : (k : Key) → plain (key_text k) ≡ true
unfolding key_text
key_plain k =
    let group = field (decimal k.group) in
    let sum = field (decimal k.sum) in
    let class = field (class_letter k.class ∷ []) in
    let tie = field (hex64 k.tie) in
    let origin = field (decimal k.origin) in
    let seq = field (decimal k.seq) in
    let one = field_plain (decimal k.group) (decimal_plain k.group) in
    let two = plain-append group sum one (field_plain (decimal k.sum) (decimal_plain k.sum)) in
    let three = plain-append (group ++ sum) class two (field_plain (class_letter k.class ∷ []) (class_plain k.class)) in
    let four = plain-append ((group ++ sum) ++ class) tie three (field_plain (hex64 k.tie) (hex64_plain k.tie)) in
    let five = plain-append (((group ++ sum) ++ class) ++ tie) origin four (field_plain (decimal k.origin) (decimal_plain k.origin)) in
    plain-append ((((group ++ sum) ++ class) ++ tie) ++ origin) seq five (field_plain (decimal k.seq) (decimal_plain k.seq))

body_plain : (body : List ℕ) → plain (body_text body) ≡ true
unfolding body_text
body_plain [] = refl
body_plain (b ∷ body) = hex_plain (b ∷ body)

input_plain : (i : Input) → plain (input_text i) ≡ true
unfolding input_text
input_plain (Tick group) = refl
input_plain (Cmd body) = plain-append (codes "cmd ") (hex body) refl (hex_plain body)
input_plain (Down port) = plain-append (codes "down ") (decimal port) refl (decimal_plain port)
input_plain (Up port) = plain-append (codes "up ") (decimal port) refl (decimal_plain port)
input_plain (Msg port body) = plain-append ((codes "msg " ++ decimal port) ++ codes " ") (body_text body) (plain-append (codes "msg " ++ decimal port) (codes " ") (plain-append (codes "msg ") (decimal port) refl (decimal_plain port)) refl) (body_plain body)

digit_open : (c : ℕ) (rest : List ℕ) → 48 ≤ c → c < 58 → closes (c ∷ rest) ≡ false
unfolding closes
digit_open c rest low high =
    let no_end : eqb 101 c ≡ false = grind (arith, nat_tests) in
    let no_cut : eqb 99 c ≡ false = grind (arith, nat_tests) in
    rw (no_end, no_cut) refl

begins_open : (text : List ℕ) → BeginsWithDigit text → closes text ≡ false
begins_open text d = ap closes d.is ∙ digit_open d.first d.more d.low d.high

key_begins : (k : Key) → BeginsWithDigit (key_text k)
unfolding key_text field
key_begins k =
    let one = then_more (decimal k.group) (32 ∷ []) (decimal_numeral k.group).begins in
    let two = then_more _ (field (decimal k.sum)) one in
    let three = then_more _ (field (class_letter k.class ∷ [])) two in
    let four = then_more _ (field (hex64 k.tie)) three in
    let five = then_more _ (field (decimal k.origin)) four in
    then_more _ (field (decimal k.seq)) five

row_open : (rs : List RouterDef) (row : Event) → closes (row_line rs row) ≡ false
unfolding row_line
row_open rs row = begins_open (row_line rs row) (then_more (key_text row.key ++ field (name_at rs row.router)) (last_field (input_text row.input)) (then_more (key_text row.key) (field (name_at rs row.router)) (key_begins row.key)))

row_is_inner : (rs : List RouterDef) (row : Event) → AreRouters [] rs → IsInner (row_line rs row)
unfolding row_line last_field
row_is_inner rs row all =
    let key = key_text row.key in
    let name = field (name_at rs row.router) in
    let input = input_text row.input in
    let front = plain-append key name (key_plain row.key) (field_plain (name_at rs row.router) (names_plain [] rs row.router all)) in
    record {
      text = (key ++ name) ++ input;
      is = sym (append_assoc (key ++ name) input (10 ∷ []));
      plain = plain-append (key ++ name) input front (input_plain row.input);
      inner = row_open rs row;
    }

rows_to_close : (rs : List RouterDef) (es : List Event) (rest : List ℕ) → AreRouters [] rs → to_close (lines (row_lines rs es ++ rest)) ≡ length (row_lines rs es) + to_close (lines rest)
rows_to_close rs [] rest all = omega arith
rows_to_close rs (e ∷ es) rest all =
    let here = ap (λ (x : List ℕ). to_close (lines x)) (append_assoc (row_line rs e) (row_lines rs es) rest) ∙ to_close_inner (row_line rs e) (row_lines rs es ++ rest) (row_is_inner rs e all) in
    let more = rows_to_close rs es rest all in
    let long = length-append (row_line rs e) (row_lines rs es) in
    omega (arith, here, more, long)

-- ---- states

state_open : {S : Type 0} (guest : Meaning S) (rs : List RouterDef) (r : ℕ) (node : Node S) → closes (state_line guest rs r node) ≡ false
unfolding state_line field closes
state_open guest rs r node = refl

ports_plain : (n : ℕ) → plain (field (hex16 n)) ≡ true
unfolding hex16
ports_plain n = field_plain (hex (to_be_bytes w16 n)) (hex_plain (to_be_bytes w16 n))

state_is_inner : {S : Type 0} (guest : Meaning S) (rs : List RouterDef) (r : ℕ) (node : Node S) → AreRouters [] rs → IsInner (state_line guest rs r node)
unfolding state_line last_field
state_is_inner guest rs r node all =
    let word = field (codes "state") in
    let name = field (name_at rs r) in
    let sends = field (decimal node.sends) in
    let ports = field (hex16 node.ports) in
    let image = hex (guest.image node.guest) in
    let two = plain-append word name (field_plain (codes "state") refl) (field_plain (name_at rs r) (names_plain [] rs r all)) in
    let three = plain-append (word ++ name) sends two (field_plain (decimal node.sends) (decimal_plain node.sends)) in
    let four = plain-append ((word ++ name) ++ sends) ports three (ports_plain node.ports) in
    record {
      text = (((word ++ name) ++ sends) ++ ports) ++ image;
      is = sym (append_assoc (((word ++ name) ++ sends) ++ ports) image (10 ∷ []));
      plain = plain-append (((word ++ name) ++ sends) ++ ports) image four (hex_plain (guest.image node.guest));
      inner = state_open guest rs r node;
    }

states_to_close : {S : Type 0} (guest : Meaning S) (rs : List RouterDef) (node : ℕ → Node S) (n : ℕ) (rest : List ℕ) → AreRouters [] rs → to_close (lines (state_lines guest rs node n ++ rest)) ≡ length (state_lines guest rs node n) + to_close (lines rest)
unfolding state_lines
states_to_close guest rs node zero rest all = omega arith
states_to_close guest rs node (suc n) rest all =
    let before = state_lines guest rs node n in
    let line = state_line guest rs n (node n) in
    let here = ap (λ (x : List ℕ). to_close (lines x)) (append_assoc before line rest) ∙ states_to_close guest rs node n (line ++ rest) all in
    let last = to_close_inner line rest (state_is_inner guest rs n (node n) all) in
    let long = length-append before line in
    omega (arith, here, last, long)

-- ---- ends

end_closes : (n : ℕ) → IsClose (end_line n)
unfolding end_line last_field closes
end_closes n = record { text = codes "end trace " ++ decimal n; is = refl; plain = plain-append (codes "end trace ") (decimal n) refl (decimal_plain n); shut = refl }

cut_closes : IsClose cut_line
unfolding cut_line last_field closes
cut_closes = record { text = codes "cut " ++ decimal row_limit; is = refl; plain = plain-append (codes "cut ") (decimal row_limit) refl (decimal_plain row_limit); shut = refl }

module _ {S : Type 0} (net : Network S) (feed : List External) (head : IsHeading net.header) where
  last_to_close : (more : List ℕ) → to_close (lines (last_lines net feed ++ more)) ≡ length (last_lines net feed)
  unfolding last_lines
  last_to_close more =
      let states = state_lines net.guests net.header.routers (λ r. state net r (lockstep net feed r)) (routers net) in
      let end = end_line (length (rows net feed)) in
      let here = ap (λ (x : List ℕ). to_close (lines x)) (append_assoc states end more) ∙ states_to_close net.guests net.header.routers (λ r. state net r (lockstep net feed r)) (routers net) (end ++ more) head.routers in
      let last = to_close_last end more (end_closes (length (rows net feed))) in
      let long = length-append states end in
      omega (arith, here, last, long)

  end_to_close : (more : List ℕ) → to_close (lines (end_text net feed ++ more)) ≡ length (end_text net feed)
  unfolding end_text
  end_to_close more =
      elim (is_cut net feed) as (λ b. to_close (lines (cond b cut_line (last_lines net feed) ++ more)) ≡ length (cond b cut_line (last_lines net feed))) [
        | true ↦ to_close_last cut_line more cut_closes
        | false ↦ last_to_close more
      ]

  pub trace_section : (more : List ℕ) → section_len (trace_text net feed ++ more) ≡ length (trace_text net feed)
  unfolding trace_text closes
  trace_section more =
      let shown = row_lines net.header.routers (shown_rows net feed) in
      let ends = end_text net feed in
      let opens = close_later (codes "trace\n") (lines ((shown ++ ends) ++ more)) refl in
      let inner = ap (λ (x : List ℕ). to_close (lines x)) (append_assoc shown ends more) ∙ rows_to_close net.header.routers (shown_rows net feed) (ends ++ more) head.routers in
      let last = end_to_close more in
      let long = length-append shown ends in
      let line = line_then (codes "trace") ((shown ++ ends) ++ more) refl in
      ap (λ (ls : List (List ℕ)). length (concat (section ls))) line ∙ opens ∙ omega (arith, inner, last, long)
