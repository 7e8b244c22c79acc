-- A line that is spelled is read again.
use Rattle.std.proofs.Common.{◌≡◌, ℕ, ◌-◌, ◌<◌, true, nat_eq, List, [], ◌∷◌, ◌++◌, length, Option, Some, refl, ap, ◌∙◌, arith, codes}
use Rattle.std.specs.List.{join_with_byte}
use Rattle.std.specs.Cmp.Lexicographic.{pointwise, bytes_decides}
use Rattle.std.proofs.lemmas.List.{take_at, drop_at, length-append}
use Rattle.dn_model.specs.declared.router.Kind.{Kind}
use Rattle.dn_model.specs.declared.router.Kind.TheVariants as kind
use Rattle.dn_text.specs.declared.decimals.Number.{Number}
use Rattle.dn_text.specs.declared.decimals.Number.TheVariants.{Is, Beyond}
use Rattle.dn_text.specs.Decimals.{numeral_of}
use Rattle.dn_text.specs.Lines.{parts}
use Rattle.dn_case.specs.declared.shape.Net.{Net}
use Rattle.dn_case.specs.Shapes.{Cmd, Down, Up, Line, Version, Period, Groups, Seed, Router, Link, Prefix, Feed, External, End, ◌>>=◌, kind_of, address_of, net_of_parts, net_of, ask_of, one_field, two_fields, three_fields, four_fields, five_fields, line_of_fields, before_newline, line_of}
use Rattle.dn_case.specs.Spelling.{digits, IsSmall, kind_word, address_text, net_text, fields_of, spelled, AreSmall, IsSpellable}
use Rattle.dn_case.proofs.Fields.{free, free-append, part_then, part_last, decimal_free, name_free, hex_free}
use Rattle.dn_text.proofs.DecimalLaws.{decimal_again}

abbrev pub AllFree : ℕ → List (List ℕ) → Type 0
AllFree s [] = Unit {0}
AllFree s (f ∷ fs) = (free s f ≡ true) × AllFree s fs

parts_join : (s : ℕ) (x : List ℕ) (xs : List (List ℕ)) → free s x ≡ true → AllFree s xs → parts s (join_with_byte s (x ∷ xs)) ≡ x ∷ xs
parts_join s x [] h all = part_last s x h
parts_join s x (y ∷ xs) h all = part_then s x (join_with_byte s (y ∷ xs)) h ∙ ap (λ (ps : List (List ℕ)). x ∷ ps) (parts_join s y xs all.0 all.1)

own : (text : List ℕ) → pointwise nat_eq text text ≡ true
own text = (bytes_decides text text).1 refl

pub newline_again : (text : List ℕ) → before_newline (text ++ 10 ∷ []) ≡ Some text
unfolding before_newline
newline_again text =
    let width : length (text ++ 10 ∷ []) - 1 ≡ length text = omega (arith, length-append text (10 ∷ [])) in
    rw (width, drop_at text (10 ∷ []) (length text) refl, take_at text (10 ∷ []) (length text) refl) refl

number_again : (x : Number) → IsSmall x → numeral_of (digits x) ≡ Some x
number_again (Is n) small = decimal_again n small
number_again Beyond small = absurd small

pub number_free : (s : ℕ) (x : Number) → s < 48 → IsSmall x → free s (digits x) ≡ true
number_free s (Is n) low small = decimal_free s n low small
number_free s Beyond low small = absurd small

kind_again : (k : Kind) → kind_of (kind_word k) ≡ Some k
unfolding kind_of
kind_again kind.Flood = refl
kind_again kind.Ospf = refl
kind_again kind.Rip = refl

kind_free : (k : Kind) → free 32 (kind_word k) ≡ true
kind_free kind.Flood = refl
kind_free kind.Ospf = refl
kind_free kind.Rip = refl

-- ---- addresses

address_parts : (net : Net) → AreSmall net → parts 46 (address_text net) ≡ digits net.a ∷ digits net.b ∷ digits net.c ∷ digits net.d ∷ []
address_parts net small =
    parts_join 46 (digits net.a) (digits net.b ∷ digits net.c ∷ digits net.d ∷ []) (number_free 46 net.a (omega arith) small.0)
    (number_free 46 net.b (omega arith) small.1, (number_free 46 net.c (omega arith) small.2, (number_free 46 net.d (omega arith) small.3, tt)))

address_again : (net : Net) → AreSmall net → address_of (parts 46 (address_text net)) ≡ Some (net.a, net.b, net.c, net.d)
address_again net small =
    ap address_of (address_parts net small)
    ∙ rw (number_again net.a small.0, number_again net.b small.1, number_again net.c small.2, number_again net.d small.3) refl

four_free : (s a : ℕ) (w x y z : List ℕ) → free s (a ∷ []) ≡ true → free s w ≡ true → free s x ≡ true → free s y ≡ true → free s z ≡ true → free s (join_with_byte a (w ∷ x ∷ y ∷ z ∷ [])) ≡ true
four_free s a w x y z h p q r t =
    free-append s w (a ∷ join_with_byte a (x ∷ y ∷ z ∷ [])) p
    (free-append s (a ∷ []) (join_with_byte a (x ∷ y ∷ z ∷ [])) h
    (free-append s x (a ∷ join_with_byte a (y ∷ z ∷ [])) q
    (free-append s (a ∷ []) (join_with_byte a (y ∷ z ∷ [])) h
    (free-append s y (a ∷ z) r
    (free-append s (a ∷ []) z h t)))))

pub address_free : (s : ℕ) (net : Net) → s < 48 → free s (46 ∷ []) ≡ true → AreSmall net → free s (address_text net) ≡ true
address_free s net low dot small =
    four_free s 46 (digits net.a) (digits net.b) (digits net.c) (digits net.d) dot
    (number_free s net.a low small.0) (number_free s net.b low small.1) (number_free s net.c low small.2) (number_free s net.d low small.3)

net_again : (net : Net) → AreSmall net → net_of (net_text net) ≡ Some net
unfolding net_of
net_again net small =
    let split = parts_join 47 (address_text net) (digits net.len ∷ []) (address_free 47 net (omega arith) refl small) (number_free 47 net.len (omega arith) small.4, tt) in
    ap net_of_parts split ∙ rw (address_again net small, number_again net.len small.4) refl

net_free : (net : Net) → AreSmall net → free 32 (net_text net) ≡ true
net_free net small =
    free-append 32 (address_text net) (47 ∷ digits net.len) (address_free 32 net (omega arith) refl small)
    (free-append 32 (47 ∷ []) (digits net.len) refl (number_free 32 net.len (omega arith) small.4))

-- ---- lines

said_again : (l : Line) → IsSpellable l → line_of_fields (fields_of l) ≡ Some l
unfolding one_field two_fields three_fields four_fields five_fields ask_of
said_again (Version n) h = rw (number_again n h) refl
said_again (Period n) h = rw (number_again n h) refl
said_again (Groups n) h = rw (number_again n h) refl
said_again (Seed n) h = rw (number_again n h) refl
said_again (Router name k) h = rw (h, kind_again k) refl
said_again (Link a b delay cost) h = rw (h.0, h.1, number_again delay h.2, number_again cost h.3) refl
said_again (Prefix name net cost) h = rw (h.0, net_again net h.1, number_again cost h.2) refl
said_again Feed h = refl
said_again (External group name (Cmd hex)) h = rw (number_again group h.0, h.1, h.2) refl
said_again (External group name (Down port)) h = rw (number_again group h.0, h.1, number_again port h.2) refl
said_again (External group name (Up port)) h = rw (number_again group h.0, h.1, number_again port h.2) refl
said_again End h = refl

group_free : (x : Number) → IsSmall x → free 32 (64 ∷ digits x) ≡ true
group_free x small = free-append 32 (64 ∷ []) (digits x) refl (number_free 32 x (omega arith) small)

split_again : (l : Line) → IsSpellable l → parts 32 (join_with_byte 32 (fields_of l)) ≡ fields_of l
split_again (Version n) h = parts_join 32 (codes "defined") (digits n ∷ []) refl (number_free 32 n (omega arith) h, tt)
split_again (Period n) h = parts_join 32 (codes "period") (digits n ∷ []) refl (number_free 32 n (omega arith) h, tt)
split_again (Groups n) h = parts_join 32 (codes "groups") (digits n ∷ []) refl (number_free 32 n (omega arith) h, tt)
split_again (Seed n) h = parts_join 32 (codes "seed") (digits n ∷ []) refl (number_free 32 n (omega arith) h, tt)
split_again (Router name kind) h = parts_join 32 (codes "router") (name ∷ kind_word kind ∷ []) refl (name_free 32 name (omega arith) h, (kind_free kind, tt))
split_again (Link a b delay cost) h =
    parts_join 32 (codes "link") (a ∷ b ∷ digits delay ∷ digits cost ∷ []) refl
    (name_free 32 a (omega arith) h.0, (name_free 32 b (omega arith) h.1, (number_free 32 delay (omega arith) h.2, (number_free 32 cost (omega arith) h.3, tt))))
split_again (Prefix name net cost) h =
    parts_join 32 (codes "prefix") (name ∷ net_text net ∷ digits cost ∷ []) refl
    (name_free 32 name (omega arith) h.0, (net_free net h.1, (number_free 32 cost (omega arith) h.2, tt)))
split_again Feed h = parts_join 32 (codes "feed") [] refl tt
split_again (External group name (Cmd hex)) h =
    parts_join 32 (64 ∷ digits group) (name ∷ codes "cmd" ∷ hex ∷ []) (group_free group h.0) (name_free 32 name (omega arith) h.1, (refl, (hex_free 32 hex (omega arith) h.2, tt)))
split_again (External group name (Down port)) h =
    parts_join 32 (64 ∷ digits group) (name ∷ codes "down" ∷ digits port ∷ []) (group_free group h.0) (name_free 32 name (omega arith) h.1, (refl, (number_free 32 port (omega arith) h.2, tt)))
split_again (External group name (Up port)) h =
    parts_join 32 (64 ∷ digits group) (name ∷ codes "up" ∷ digits port ∷ []) (group_free group h.0) (name_free 32 name (omega arith) h.1, (refl, (number_free 32 port (omega arith) h.2, tt)))
split_again End h = parts_join 32 (codes "end") [] refl tt

-- What is spelled so is read so.
pub spelled_again : (l : Line) → IsSpellable l → line_of (spelled l) ≡ Some l
unfolding line_of spelled
spelled_again l h =
    ap (λ (o : Option (List ℕ)). o >>= λ line. line_of_fields (parts 32 line)) (newline_again (join_with_byte 32 (fields_of l)))
    ∙ ap line_of_fields (split_again l h) ∙ said_again l h
