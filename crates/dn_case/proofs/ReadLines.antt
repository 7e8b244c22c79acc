-- A line that is read is spelled so, where no number of it is beyond u64.
use Rattle.std.proofs.Common.{◌≡◌, ◌⊎◌, inl, inr, ℕ, ◌-◌, Bool, true, false, cond, nat_eq, eqb, List, [], ◌∷◌, ◌++◌, length, take, drop, Option, Some, None, refl, sym, ap, subst, ◌∙◌, codes}
use Rattle.std.specs.List.{join_with_byte}
use Rattle.std.specs.Option.{option_map}
use Rattle.std.specs.Cmp.Lexicographic.{pointwise, bytes_decides}
use Rattle.std.proofs.lemmas.Bool.{eqb-true}
use Rattle.std.proofs.lemmas.List.{take-append-drop}
use Rattle.std.proofs.lemmas.List.Splits.{join_with_byte-slice_split}
use Rattle.dn_model.specs.declared.router.Kind.{Kind}
use Rattle.dn_model.specs.declared.router.Kind.TheVariants as kind
use Rattle.dn_model.specs.Names.{is_name}
use Rattle.dn_text.specs.declared.decimals.Number.{Number}
use Rattle.dn_text.specs.declared.decimals.Number.TheVariants.{Is, Beyond}
use Rattle.dn_text.specs.Decimals.{numeral_of, within}
use Rattle.dn_text.specs.Hexadecimals.{is_hex}
use Rattle.dn_text.specs.Lines.{parts}
use Rattle.dn_text.proofs.DecimalLaws.{text_is}
use Rattle.dn_case.specs.declared.shape.Net.{Net}
use Rattle.dn_case.specs.Shapes.{Ask, Cmd, Down, Up, Line, Version, Period, Groups, Seed, Router, Link, Prefix, Feed, External, End, ◌>>=◌, is_word, name_of, kind_of, address_of, net_of_parts, net_of, one_field, two_fields, three_fields, four_fields, five_fields, group_of, ask_of, line_of_fields, before_newline, line_of}
use Rattle.dn_case.specs.Spelling.{digits, IsSmall, AreSmall, kind_word, address_text, net_text, fields_of, spelled, IsSpellable, IsWithin}
use Rattle.dn_case.proofs.Taken.{named}

-- ---- options

bind : {A B : Type 0} (o : Option A) (f : A → Option B) (b : B) → (o >>= f) ≡ Some b → (a : A) × (o ≡ Some a) × (f a ≡ Some b)
bind None f b e = absurd cc
bind (Some a) f b e = (a, refl, e)

chosen : {A : Type 0} (b : Bool) (x y : Option A) (a : A) → cond b x y ≡ Some a → ((b ≡ true) × (x ≡ Some a)) ⊎ (y ≡ Some a)
chosen true x y a e = inl (refl, e)
chosen false x y a e = inr e

nothing : {A B : Type 0} (a : A) → None ≡ Some a → B
nothing a e = absurd cc

as_some : {A : Type 0} (P : A → Type 0) (a b : A) → P a → Some a ≡ Some b → P b
as_some P a b h e = let same : a ≡ b = cc in subst P same h

-- ---- fields

word_is : (text word : List ℕ) → is_word text word ≡ true → text ≡ word
word_is text word e = (bytes_decides text word).0 e

number_is : (field : List ℕ) (n : Number) → numeral_of field ≡ Some n → IsSmall n → field ≡ digits n
number_is field (Is n) e small = text_is field n (ap within e)
number_is field Beyond e small = absurd small

name_is : (text name : List ℕ) → name_of text ≡ Some name → text ≡ name
name_is text name e =
    elim (is_name text) as (λ b. cond b (Some text) None ≡ Some name → text ≡ name) [
      | true ↦ λ e. cc
      | false ↦ λ e. absurd cc
    ] e

kind_is : (text : List ℕ) (k : Kind) → kind_of text ≡ Some k → text ≡ kind_word k
unfolding kind_of
kind_is text k e =
    elim (chosen (is_word text (codes "flood")) _ _ k e) [
      | inl h ↦ as_some (λ k. text ≡ kind_word k) kind.Flood k (word_is text _ h.0) h.1
      | inr e ↦ elim (chosen (is_word text (codes "ospf")) _ _ k e) [
        | inl h ↦ as_some (λ k. text ≡ kind_word k) kind.Ospf k (word_is text _ h.0) h.1
        | inr e ↦ elim (chosen (is_word text (codes "rip")) _ _ k e) [
          | inl h ↦ as_some (λ k. text ≡ kind_word k) kind.Rip k (word_is text _ h.0) h.1
          | inr e ↦ nothing k e
        ]
      ]
    ]

-- @GROUP
group_is : (word : List ℕ) (group : Number) → group_of word ≡ Some group → IsSmall group → word ≡ 64 ∷ digits group
group_is [] group e small = absurd cc
group_is (c ∷ text) group e small =
    elim (eqb c 64) as (λ b. eqb c 64 ≡ b → cond b (numeral_of text) None ≡ Some group → c ∷ text ≡ 64 ∷ digits group) [
      | true ↦ λ is e. ap (λ (x : ℕ). x ∷ text) (eqb-true c 64 is) ∙ ap (λ (x : List ℕ). 64 ∷ x) (number_is text group e small)
      | false ↦ λ _ e. absurd cc
    ] refl e

two_same : (a b e f : List ℕ) → a ≡ e → b ≡ f → a ∷ b ∷ [] ≡ e ∷ f ∷ []
two_same a b e f i j = rw (i, j) refl

three_same : (a b c e f g : List ℕ) → a ≡ e → b ≡ f → c ≡ g → a ∷ b ∷ c ∷ [] ≡ e ∷ f ∷ g ∷ []
three_same a b c e f g i j k = rw (i, j, k) refl

four_same : (a b c d e f g h : List ℕ) → a ≡ e → b ≡ f → c ≡ g → d ≡ h → a ∷ b ∷ c ∷ d ∷ [] ≡ e ∷ f ∷ g ∷ h ∷ []
four_same a b c d e f g h i j k l = rw (i, j, k, l) refl

five_same : (a b c d x e f g h y : List ℕ) → a ≡ e → b ≡ f → c ≡ g → d ≡ h → x ≡ y → a ∷ b ∷ c ∷ d ∷ x ∷ [] ≡ e ∷ f ∷ g ∷ h ∷ y ∷ []
five_same a b c d x e f g h y i j k l m = rw (i, j, k, l, m) refl

-- ---- addresses

joined : (separator : ℕ) (text : List ℕ) (fields : List (List ℕ)) → parts separator text ≡ fields → text ≡ join_with_byte separator fields
unfolding parts
joined separator text fields e = sym (join_with_byte-slice_split separator text) ∙ ap (λ (fs : List (List ℕ)). join_with_byte separator fs) e

abbrev Addresses : List (List ℕ) → Number × Number × Number × Number → Type 0
Addresses fields x = IsSmall x.0 → IsSmall x.1 → IsSmall x.2 → IsSmall x.3 → fields ≡ digits x.0 ∷ digits x.1 ∷ digits x.2 ∷ digits x.3 ∷ []

address_is : (fields : List (List ℕ)) (x : Number × Number × Number × Number) → address_of fields ≡ Some x → Addresses fields x
address_is [] x e = nothing x e
address_is (a ∷ []) x e = nothing x e
address_is (a ∷ b ∷ []) x e = nothing x e
address_is (a ∷ b ∷ c ∷ []) x e = nothing x e
address_is (a ∷ b ∷ c ∷ d ∷ []) x e =
    let k = bind (numeral_of a) _ x e in
    let l = bind (numeral_of b) _ x k.2 in
    let m = bind (numeral_of c) _ x l.2 in
    let n = bind (numeral_of d) _ x m.2 in
    as_some (Addresses (a ∷ b ∷ c ∷ d ∷ [])) (k.0, l.0, m.0, n.0) x
    (λ p q r s. four_same a b c d (digits k.0) (digits l.0) (digits m.0) (digits n.0) (number_is a k.0 k.1 p) (number_is b l.0 l.1 q) (number_is c m.0 m.1 r) (number_is d n.0 n.1 s)) n.2
address_is (a ∷ b ∷ c ∷ d ∷ y ∷ more) x e = nothing x e

net_parts_are : (fields : List (List ℕ)) (net : Net) → net_of_parts fields ≡ Some net → AreSmall net → fields ≡ address_text net ∷ digits net.len ∷ []
net_parts_are [] net e = nothing net e
net_parts_are (address ∷ []) net e = nothing net e
net_parts_are (address ∷ len ∷ []) net e =
    let x = bind (address_of (parts 46 address)) _ net e in
    let n = bind (numeral_of len) _ net x.2 in
    let found : Net = record { a = x.0.0; b = x.0.1; c = x.0.2; d = x.0.3; len = n.0 } in
    as_some (λ (net : Net). AreSmall net → address ∷ len ∷ [] ≡ address_text net ∷ digits net.len ∷ []) found net
    (λ small. two_same address len (address_text found) (digits n.0) (joined 46 address _ (address_is (parts 46 address) x.0 x.1 small.0 small.1 small.2 small.3)) (number_is len n.0 n.1 small.4)) n.2
net_parts_are (address ∷ len ∷ y ∷ more) net e = nothing net e

net_is : (text : List ℕ) (net : Net) → net_of text ≡ Some net → AreSmall net → text ≡ net_text net
unfolding net_of
net_is text net e small = joined 47 text _ (net_parts_are (parts 47 text) net e small)

-- ---- what is asked

-- the two fields of what is asked
abbrev AsksBy : List ℕ → List ℕ → Ask → Type 0
AsksBy third fourth (Cmd hex) = (third ≡ codes "cmd") × (fourth ≡ hex) × (is_hex hex ≡ true)
AsksBy third fourth (Down port) = (third ≡ codes "down") × (IsSmall port → fourth ≡ digits port)
AsksBy third fourth (Up port) = (third ≡ codes "up") × (IsSmall port → fourth ≡ digits port)

asks_number : (third fourth : List ℕ) (f : Number → Ask) (o : Option Number) (a : Ask) → ((n : Number) → o ≡ Some n → AsksBy third fourth (f n)) → option_map f o ≡ Some a → AsksBy third fourth a
asks_number third fourth f None a h e = absurd cc
asks_number third fourth f (Some n) a h e = as_some (AsksBy third fourth) (f n) a (h n refl) e

asks_hex : (third fourth : List ℕ) (a : Ask) (b : Bool) → third ≡ codes "cmd" → is_hex fourth ≡ b → cond b (Some (Cmd fourth)) None ≡ Some a → AsksBy third fourth a
asks_hex third fourth a true is hex e = as_some (AsksBy third fourth) (Cmd fourth) a (is, refl, hex) e
asks_hex third fourth a false is hex e = absurd cc

asks : (third fourth : List ℕ) (a : Ask) → ask_of third fourth ≡ Some a → AsksBy third fourth a
unfolding ask_of
asks third fourth a e =
    elim (chosen (is_word third (codes "cmd")) _ _ a e) [
      | inl h ↦ asks_hex third fourth a (is_hex fourth) (word_is third _ h.0) refl h.1
      | inr e ↦ elim (chosen (is_word third (codes "down")) _ _ a e) [
        | inl h ↦ asks_number third fourth Down (numeral_of fourth) a (λ n is. (word_is third _ h.0, number_is fourth n is)) h.1
        | inr e ↦ elim (chosen (is_word third (codes "up")) _ _ a e) [
          | inl h ↦ asks_number third fourth Up (numeral_of fourth) a (λ n is. (word_is third _ h.0, number_is fourth n is)) h.1
          | inr e ↦ nothing a e
        ]
      ]
    ]

-- ---- lines by the number of their fields

-- the fields are those of the line, and it has a spelling
abbrev Says : List (List ℕ) → Line → Type 0
Says fields l = IsWithin l → (fields ≡ fields_of l) × IsSpellable l

says_one : (word : List ℕ) (l : Line) → one_field word ≡ Some l → Says (word ∷ []) l
unfolding one_field
says_one word l e =
    elim (chosen (is_word word (codes "feed")) _ _ l e) [
      | inl h ↦ as_some (Says (word ∷ [])) Feed l (λ _. (ap (λ (w : List ℕ). w ∷ []) (word_is word _ h.0), tt)) h.1
      | inr e ↦ elim (chosen (is_word word (codes "end")) _ _ l e) [
        | inl h ↦ as_some (Says (word ∷ [])) End l (λ _. (ap (λ (w : List ℕ). w ∷ []) (word_is word _ h.0), tt)) h.1
        | inr e ↦ nothing l e
      ]
    ]

says_number : (fields : List (List ℕ)) (f : Number → Line) (o : Option Number) (l : Line) → ((n : Number) → o ≡ Some n → Says fields (f n)) → option_map f o ≡ Some l → Says fields l
says_number fields f None l h e = nothing l e
says_number fields f (Some n) l h e = as_some (Says fields) (f n) l (h n refl) e

word_and_number : (word field keyword : List ℕ) (n : Number) → is_word word keyword ≡ true → numeral_of field ≡ Some n → IsSmall n → (word ∷ field ∷ [] ≡ keyword ∷ digits n ∷ []) × IsSmall n
word_and_number word field keyword n w is small = (two_same word field keyword (digits n) (word_is word keyword w) (number_is field n is small), small)

says_two : (word field : List ℕ) (l : Line) → two_fields word field ≡ Some l → Says (word ∷ field ∷ []) l
unfolding two_fields
says_two word field l e =
    elim (chosen (is_word word (codes "defined")) _ _ l e) [
      | inl h ↦ says_number _ Version (numeral_of field) l (λ n. word_and_number word field (codes "defined") n h.0) h.1
      | inr e ↦ elim (chosen (is_word word (codes "period")) _ _ l e) [
        | inl h ↦ says_number _ Period (numeral_of field) l (λ n. word_and_number word field (codes "period") n h.0) h.1
        | inr e ↦ elim (chosen (is_word word (codes "groups")) _ _ l e) [
          | inl h ↦ says_number _ Groups (numeral_of field) l (λ n. word_and_number word field (codes "groups") n h.0) h.1
          | inr e ↦ elim (chosen (is_word word (codes "seed")) _ _ l e) [
            | inl h ↦ says_number _ Seed (numeral_of field) l (λ n. word_and_number word field (codes "seed") n h.0) h.1
            | inr e ↦ nothing l e
          ]
        ]
      ]
    ]

says_three : (word a b : List ℕ) (l : Line) → three_fields word a b ≡ Some l → Says (word ∷ a ∷ b ∷ []) l
unfolding three_fields
says_three word a b l e =
    elim (chosen (is_word word (codes "router")) _ _ l e) [
      | inl h ↦ (
          let n = bind (name_of a) _ l h.1 in
          let k = bind (kind_of b) _ l n.2 in
          as_some (Says (word ∷ a ∷ b ∷ [])) (Router n.0 k.0) l
          (λ _. (three_same word a b (codes "router") n.0 (kind_word k.0) (word_is word _ h.0) (name_is a n.0 n.1) (kind_is b k.0 k.1), named a n.0 n.1)) k.2)
      | inr e ↦ nothing l e
    ]

says_external : (word name third fourth : List ℕ) (group : Number) (n : List ℕ) (a : Ask) → (IsSmall group → word ≡ 64 ∷ digits group) → name ≡ n → is_name n ≡ true → AsksBy third fourth a → Says (word ∷ name ∷ third ∷ fourth ∷ []) (External group n a)
says_external word name third fourth group n (Cmd hex) g e is h = λ small. (four_same _ _ _ _ _ _ _ _ (g small) e h.0 h.1, (small, is, h.2))
says_external word name third fourth group n (Down port) g e is h = λ small. (four_same _ _ _ _ _ _ _ _ (g small.0) e h.0 (h.1 small.1), (small.0, is, small.1))
says_external word name third fourth group n (Up port) g e is h = λ small. (four_same _ _ _ _ _ _ _ _ (g small.0) e h.0 (h.1 small.1), (small.0, is, small.1))

says_four : (word name third fourth : List ℕ) (l : Line) → four_fields word name third fourth ≡ Some l → Says (word ∷ name ∷ third ∷ fourth ∷ []) l
unfolding four_fields
says_four word name third fourth l e =
    elim (chosen (is_word word (codes "prefix")) _ _ l e) [
      | inl h ↦ (
          let n = bind (name_of name) _ l h.1 in
          let net = bind (net_of third) _ l n.2 in
          let cost = bind (numeral_of fourth) _ l net.2 in
          as_some (Says (word ∷ name ∷ third ∷ fourth ∷ [])) (Prefix n.0 net.0 cost.0) l
          (λ small. (four_same word name third fourth (codes "prefix") n.0 (net_text net.0) (digits cost.0) (word_is word _ h.0) (name_is name n.0 n.1) (net_is third net.0 net.1 small.0) (number_is fourth cost.0 cost.1 small.1), (named name n.0 n.1, small.0, small.1))) cost.2)
      | inr e ↦ (
          let group = bind (group_of word) _ l e in
          let n = bind (name_of name) _ l group.2 in
          let a = bind (ask_of third fourth) _ l n.2 in
          as_some (Says (word ∷ name ∷ third ∷ fourth ∷ [])) (External group.0 n.0 a.0) l
          (says_external word name third fourth group.0 n.0 a.0 (group_is word group.0 group.1) (name_is name n.0 n.1) (named name n.0 n.1) (asks third fourth a.0 a.1)) a.2)
    ]

says_five : (word a b delay cost : List ℕ) (l : Line) → five_fields word a b delay cost ≡ Some l → Says (word ∷ a ∷ b ∷ delay ∷ cost ∷ []) l
unfolding five_fields
says_five word a b delay cost l e =
    elim (chosen (is_word word (codes "link")) _ _ l e) [
      | inl h ↦ (
          let x = bind (name_of a) _ l h.1 in
          let y = bind (name_of b) _ l x.2 in
          let d = bind (numeral_of delay) _ l y.2 in
          let k = bind (numeral_of cost) _ l d.2 in
          as_some (Says (word ∷ a ∷ b ∷ delay ∷ cost ∷ [])) (Link x.0 y.0 d.0 k.0) l
          (λ small. (five_same word a b delay cost (codes "link") x.0 y.0 (digits d.0) (digits k.0) (word_is word _ h.0) (name_is a x.0 x.1) (name_is b y.0 y.1) (number_is delay d.0 d.1 small.0) (number_is cost k.0 k.1 small.1), (named a x.0 x.1, named b y.0 y.1, small.0, small.1))) k.2)
      | inr e ↦ nothing l e
    ]

says : (fields : List (List ℕ)) (l : Line) → line_of_fields fields ≡ Some l → Says fields l
says [] l e = nothing l e
says (word ∷ []) l e = says_one word l e
says (word ∷ a ∷ []) l e = says_two word a l e
says (word ∷ a ∷ b ∷ []) l e = says_three word a b l e
says (word ∷ a ∷ b ∷ c ∷ []) l e = says_four word a b c l e
says (word ∷ a ∷ b ∷ c ∷ d ∷ []) l e = says_five word a b c d l e
says (word ∷ a ∷ b ∷ c ∷ d ∷ x ∷ more) l e = nothing l e

-- ---- the line

pub with_newline : (text line : List ℕ) → before_newline text ≡ Some line → text ≡ line ++ 10 ∷ []
unfolding before_newline
with_newline text line e =
    let n = length text - 1 in
    elim (pointwise nat_eq (drop n text) (10 ∷ [])) as (λ b. pointwise nat_eq (drop n text) (10 ∷ []) ≡ b → cond b (Some (take n text)) None ≡ Some line → text ≡ line ++ 10 ∷ []) [
      | true ↦ λ is e. (
          let last : drop n text ≡ 10 ∷ [] = (bytes_decides (drop n text) (10 ∷ [])).0 is in
          let front : take n text ≡ line = cc in
          sym (take-append-drop n text) ∙ ap (λ (x : List ℕ). take n text ++ x) last ∙ ap (λ (x : List ℕ). x ++ 10 ∷ []) front)
      | false ↦ λ _ e. absurd cc
    ] refl e

-- A line that is read, with no number beyond u64, is spelled so.
pub read_spelled : (text : List ℕ) (l : Line) → line_of text ≡ Some l → IsWithin l → (text ≡ spelled l) × IsSpellable l
unfolding line_of spelled
read_spelled text l e small =
    let line = bind (before_newline text) _ l e in
    let k = says (parts 32 line.0) l line.2 small in
    (with_newline text line.0 line.1 ∙ ap (λ (x : List ℕ). x ++ 10 ∷ []) (joined 32 line.0 _ k.0), k.1)
