-- What a line says, by its words, the number of its fields and their spelling alone.
use Rattle.std.specs.Prelude.{IsTrue, ℕ, ◌-◌, List, [], ◌∷◌, length, take, drop, Bool, ◌==◌, nat_eq, if◌then◌else◌, codes, Option, Some, None}
use Rattle.std.specs.Option.{option_map, option_and_then}
use Rattle.std.specs.Cmp.Lexicographic.{pointwise}
use Rattle.dn_model.specs.declared.router.Kind.{Kind}
use Rattle.dn_model.specs.declared.router.Kind.TheVariants as kind
use Rattle.dn_model.specs.Names.{is_name}
use Rattle.dn_text.specs.declared.decimals.Number.{Number}
use Rattle.dn_text.specs.Decimals.{numeral_of}
use Rattle.dn_text.specs.Hexadecimals.{is_hex}
use Rattle.dn_text.specs.Lines.{parts}
use Rattle.dn_case.specs.declared.shape.Net.{Net}
use Rattle.dn_case.specs.declared.shape.Asked.{Asked}
use Rattle.dn_case.specs.declared.shape.Asked.TheVariants as asked
use Rattle.dn_case.specs.declared.shape.Shape.{Shape}
use Rattle.dn_case.specs.declared.shape.Shape.TheVariants as shape

-- what an external line asks: a command's field stays in hexadecimal
pub data Ask : Type 0 where
  Cmd : List ℕ → Ask
  Down : Number → Ask
  Up : Number → Ask

-- a line of a case's text, by its shape
pub data Line : Type 0 where
  Version : Number → Line
  Period : Number → Line
  Groups : Number → Line
  Seed : Number → Line
  Router : List ℕ → Kind → Line
  Link : List ℕ → List ℕ → Number → Number → Line
  Prefix : List ℕ → Net → Number → Line
  Feed : Line
  External : Number → List ℕ → Ask → Line
  End : Line

-- the name of a router's line is a name
abbrev pub IsNamed : Line → Type 0
IsNamed (Router name kind) = IsTrue (is_name name)
IsNamed _ = Unit {0}

abbrev pub ask : Asked → Ask
ask (asked.Cmd hex) = Cmd hex.now
ask (asked.Down port) = Down port
ask (asked.Up port) = Up port

-- what the code's value says
abbrev pub line : Shape → Line
line (shape.Version n) = Version n
line (shape.Period n) = Period n
line (shape.Groups n) = Groups n
line (shape.Seed n) = Seed n
line (shape.Router name kind) = Router name.now kind
line (shape.Link a b delay cost) = Link a.now b.now delay cost
line (shape.Prefix name net cost) = Prefix name.now net cost
line shape.Feed = Feed
line (shape.External group name wanted) = External group name.now (ask wanted)
line shape.End = End

infixl 10 ◌>>=◌
abbrev pub ◌>>=◌ : {A B : Type 0} → Option A → (A → Option B) → Option B
o >>= f = option_and_then f o

abbrev pub is_word : List ℕ → List ℕ → Bool
is_word text word = pointwise nat_eq text word

abbrev pub name_of : List ℕ → Option (List ℕ)
name_of text = if is_name text then Some text else None

-- the kind of a word
unfoldable pub kind_of : List ℕ → Option Kind
kind_of text =
    if is_word text (codes "flood") then Some kind.Flood else
    (if is_word text (codes "ospf") then Some kind.Ospf else
    (if is_word text (codes "rip") then Some kind.Rip else None))

-- A.B.C.D
abbrev pub address_of : List (List ℕ) → Option (Number × Number × Number × Number)
address_of (a ∷ b ∷ c ∷ d ∷ []) = numeral_of a >>= λ a. numeral_of b >>= λ b. numeral_of c >>= λ c. numeral_of d >>= λ d. Some (a, b, c, d)
address_of _ = None

abbrev pub net_of_parts : List (List ℕ) → Option Net
net_of_parts (address ∷ len ∷ []) = address_of (parts 46 address) >>= λ x. numeral_of len >>= λ len. Some (record { a = x.0; b = x.1; c = x.2; d = x.3; len = len })
net_of_parts _ = None

-- A.B.C.D/LEN
unfoldable pub net_of : List ℕ → Option Net
net_of text = net_of_parts (parts 47 text)

unfoldable pub one_field : List ℕ → Option Line
one_field word = if is_word word (codes "feed") then Some Feed else (if is_word word (codes "end") then Some End else None)

unfoldable pub two_fields : List ℕ → List ℕ → Option Line
two_fields word field =
    if is_word word (codes "defined") then option_map Version (numeral_of field) else
    (if is_word word (codes "period") then option_map Period (numeral_of field) else
    (if is_word word (codes "groups") then option_map Groups (numeral_of field) else
    (if is_word word (codes "seed") then option_map Seed (numeral_of field) else None)))

unfoldable pub three_fields : List ℕ → List ℕ → List ℕ → Option Line
three_fields word name kind = if is_word word (codes "router") then (name_of name >>= λ name. kind_of kind >>= λ kind. Some (Router name kind)) else None

-- @GROUP
abbrev pub group_of : List ℕ → Option Number
group_of [] = None
group_of (c ∷ text) = if c == 64 then numeral_of text else None

unfoldable pub ask_of : List ℕ → List ℕ → Option Ask
ask_of word field =
    if is_word word (codes "cmd") then (if is_hex field then Some (Cmd field) else None) else
    (if is_word word (codes "down") then option_map Down (numeral_of field) else
    (if is_word word (codes "up") then option_map Up (numeral_of field) else None))

unfoldable pub four_fields : List ℕ → List ℕ → List ℕ → List ℕ → Option Line
four_fields word name third fourth =
    if is_word word (codes "prefix") then (name_of name >>= λ name. net_of third >>= λ net. numeral_of fourth >>= λ cost. Some (Prefix name net cost))
    else (group_of word >>= λ group. name_of name >>= λ name. ask_of third fourth >>= λ ask. Some (External group name ask))

unfoldable pub five_fields : List ℕ → List ℕ → List ℕ → List ℕ → List ℕ → Option Line
five_fields word a b delay cost =
    if is_word word (codes "link") then (name_of a >>= λ a. name_of b >>= λ b. numeral_of delay >>= λ delay. numeral_of cost >>= λ cost. Some (Link a b delay cost)) else None

-- what the fields of a line say
abbrev pub line_of_fields : List (List ℕ) → Option Line
line_of_fields (word ∷ []) = one_field word
line_of_fields (word ∷ a ∷ []) = two_fields word a
line_of_fields (word ∷ a ∷ b ∷ []) = three_fields word a b
line_of_fields (word ∷ a ∷ b ∷ c ∷ []) = four_fields word a b c
line_of_fields (word ∷ a ∷ b ∷ c ∷ d ∷ []) = five_fields word a b c d
line_of_fields _ = None

-- the text before its newline
unfoldable pub before_newline : List ℕ → Option (List ℕ)
before_newline text = if pointwise nat_eq (drop (length text - 1) text) (10 ∷ []) then Some (take (length text - 1) text) else None

-- what a line with its newline says
unfoldable pub line_of : List ℕ → Option Line
line_of text = before_newline text >>= λ line. line_of_fields (parts 32 line)
