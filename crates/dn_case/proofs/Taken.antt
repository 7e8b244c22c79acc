-- What a line is that was read, and what it says where no cause holds for it.
use Rattle.std.proofs.Common.{◌≡◌, ◌⊎◌, ℕ, ◌≤◌, ◌<◌, Bool, true, false, cond, not, ◌&&◌, ◌||◌, nat_le, nat_lt, List, [], ◌∷◌, Option, Some, None, is_some, unwrap_or, Ok, refl, subst, inl, inr, rules, tests, codes}
use Rattle.std.specs.Option.{option_map}
use Rattle.dn_model.specs.Names.{is_name}
use Rattle.dn_text.specs.declared.decimals.Number.{Number}
use Rattle.dn_text.specs.declared.decimals.Number.TheVariants.{Is, Beyond}
use Rattle.dn_text.specs.Decimals.{numeral_of}
use Rattle.dn_text.specs.Hexadecimals.{is_hex}
use Rattle.dn_text.specs.Lines.{parts}
use Rattle.dn_case.specs.declared.standing.Standing.{Standing}
use Rattle.dn_case.specs.declared.cause.Cause.{Cause}
use Rattle.dn_case.specs.Shapes.{Ask, Cmd, Down, Up, Line, Version, Period, Groups, Seed, Router, Link, Prefix, Feed, External, End, ◌>>=◌, is_word, name_of, kind_of, net_of, one_field, two_fields, three_fields, four_fields, five_fields, group_of, ask_of, line_of_fields, before_newline, line_of}
use Rattle.dn_case.specs.Standings.{place_of, may_follow, between, below, value, first_of, table, after, verdict, taken, judged, read_line}

-- ---- what a line that is read is

pub record IsTaken (s : Standing) (text : List ℕ) (t : Standing) : Type 0 where
  pub line : Line
  pub shape : line_of text ≡ Some line
  pub follows : may_follow s.place (place_of line) ≡ true
  pub free : first_of (table s line) ≡ None
  pub is : t ≡ after s line

pub free_of : (o : Option Cause) (s t : Standing) → verdict o s ≡ Ok t → (o ≡ None) × (t ≡ s)
free_of None s t e = (refl, cc)
free_of (Some c) s t e = absurd cc

pub is_taken : (s : Standing) (text : List ℕ) (t : Standing) → read_line s text ≡ Ok t → IsTaken s text t
is_taken s text t e =
    elim (line_of text) as (λ o. line_of text ≡ o → judged s o ≡ Ok t → IsTaken s text t) [
      | None ↦ λ _ e. absurd cc
      | Some l ↦ λ is e.
          elim (may_follow s.place (place_of l)) as (λ b. may_follow s.place (place_of l) ≡ b → cond b (taken s l) (judged s None) ≡ Ok t → IsTaken s text t) [
            | true ↦ λ m e. (let f = free_of (first_of (table s l)) (after s l) t e in record { line = l; shape = is; follows = m; free = f.0; is = f.1 })
            | false ↦ λ m e. absurd cc
          ] refl e
    ] refl e

-- ---- what its shape says

-- the name of a router's line is a name; a command is hexadecimal
abbrev pub IsWell : Line → Type 0
IsWell (Router name k) = is_name name ≡ true
IsWell (External group name (Cmd hex)) = is_hex hex ≡ true
IsWell _ = Unit {0}

same_line : (k l : Line) → Some k ≡ Some l → k ≡ l
same_line k l e = cc

well_as : (k l : Line) → IsWell k → Some k ≡ Some l → IsWell l
well_as k l h e = subst IsWell (same_line k l e) h

bind : {A : Type 0} (o : Option A) (f : A → Option Line) (l : Line) → (o >>= f) ≡ Some l → (a : A) × (o ≡ Some a) × (f a ≡ Some l)
bind None f l e = absurd cc
bind (Some a) f l e = (a, refl, e)

chosen : (b : Bool) (x y : Option Line) (l : Line) → cond b x y ≡ Some l → ((b ≡ true) × (x ≡ Some l)) ⊎ (y ≡ Some l)
chosen true x y l e = inl (refl, e)
chosen false x y l e = inr e

no_line : {A : Type 0} (l : Line) → None ≡ Some l → A
no_line l e = absurd cc

well_one : (word : List ℕ) (l : Line) → one_field word ≡ Some l → IsWell l
unfolding one_field
well_one word l e =
    elim (chosen (is_word word (codes "feed")) _ _ l e) [
      | inl h ↦ well_as Feed l tt h.1
      | inr e ↦ elim (chosen (is_word word (codes "end")) _ _ l e) [ inl h ↦ well_as End l tt h.1 | inr e ↦ no_line l e ]
    ]

well_number : (f : Number → Line) → ((n : Number) → IsWell (f n)) → (o : Option Number) (l : Line) → option_map f o ≡ Some l → IsWell l
well_number f h None l e = no_line l e
well_number f h (Some n) l e = well_as (f n) l (h n) e

well_two : (word field : List ℕ) (l : Line) → two_fields word field ≡ Some l → IsWell l
unfolding two_fields
well_two word field l e =
    elim (chosen (is_word word (codes "defined")) _ _ l e) [
      | inl h ↦ well_number Version (λ n. tt) (numeral_of field) l h.1
      | inr e ↦ elim (chosen (is_word word (codes "period")) _ _ l e) [
        | inl h ↦ well_number Period (λ n. tt) (numeral_of field) l h.1
        | inr e ↦ elim (chosen (is_word word (codes "groups")) _ _ l e) [
          | inl h ↦ well_number Groups (λ n. tt) (numeral_of field) l h.1
          | inr e ↦ elim (chosen (is_word word (codes "seed")) _ _ l e) [ inl h ↦ well_number Seed (λ n. tt) (numeral_of field) l h.1 | inr e ↦ no_line l e ]
        ]
      ]
    ]

pub named : (text name : List ℕ) → name_of text ≡ Some name → is_name name ≡ true
named text name e =
    elim (is_name text) as (λ b. is_name text ≡ b → cond b (Some text) None ≡ Some name → is_name name ≡ true) [
      | true ↦ λ is e. (let same : text ≡ name = cc in subst (λ (x : List ℕ). is_name x ≡ true) same is)
      | false ↦ λ _ e. absurd cc
    ] refl e

well_three : (word name kind : List ℕ) (l : Line) → three_fields word name kind ≡ Some l → IsWell l
unfolding three_fields
well_three word name kind l e =
    elim (chosen (is_word word (codes "router")) _ _ l e) [
      | inl h ↦ (
          let n = bind (name_of name) _ l h.1 in
          let k = bind (kind_of kind) _ l n.2 in
          well_as (Router n.0 k.0) l (named name n.0 n.1) k.2)
      | inr e ↦ no_line l e
    ]

abbrev IsWellAsked : Ask → Type 0
IsWellAsked (Cmd hex) = is_hex hex ≡ true
IsWellAsked (Down port) = Unit {0}
IsWellAsked (Up port) = Unit {0}

well_number_asked : (f : Number → Ask) → ((n : Number) → IsWellAsked (f n)) → (o : Option Number) (a : Ask) → option_map f o ≡ Some a → IsWellAsked a
well_number_asked f h None a e = absurd cc
well_number_asked f h (Some n) a e = (let same : f n ≡ a = cc in subst IsWellAsked same (h n))

well_asked : (word field : List ℕ) (a : Ask) → ask_of word field ≡ Some a → IsWellAsked a
unfolding ask_of
well_asked word field a e =
    elim (is_word word (codes "cmd")) as (λ b. cond b (cond (is_hex field) (Some (Cmd field)) None) (cond (is_word word (codes "down")) (option_map Down (numeral_of field)) (cond (is_word word (codes "up")) (option_map Up (numeral_of field)) None)) ≡ Some a → IsWellAsked a) [
      | true ↦ λ e.
          elim (is_hex field) as (λ b. is_hex field ≡ b → cond b (Some (Cmd field)) None ≡ Some a → IsWellAsked a) [
            | true ↦ λ is e. (let same : Cmd field ≡ a = cc in subst IsWellAsked same is)
            | false ↦ λ _ e. absurd cc
          ] refl e
      | false ↦ λ e.
          elim (is_word word (codes "down")) as (λ b. cond b (option_map Down (numeral_of field)) (cond (is_word word (codes "up")) (option_map Up (numeral_of field)) None) ≡ Some a → IsWellAsked a) [
            | true ↦ λ e. well_number_asked Down (λ n. tt) (numeral_of field) a e
            | false ↦ λ e.
                elim (is_word word (codes "up")) as (λ b. cond b (option_map Up (numeral_of field)) None ≡ Some a → IsWellAsked a) [
                  | true ↦ λ e. well_number_asked Up (λ n. tt) (numeral_of field) a e
                  | false ↦ λ e. absurd cc
                ] e
          ] e
    ] e

well_external : (group : Number) (name : List ℕ) (a : Ask) → IsWellAsked a → IsWell (External group name a)
well_external group name (Cmd hex) h = h
well_external group name (Down port) h = tt
well_external group name (Up port) h = tt

well_four : (word name third fourth : List ℕ) (l : Line) → four_fields word name third fourth ≡ Some l → IsWell l
unfolding four_fields
well_four word name third fourth l e =
    elim (chosen (is_word word (codes "prefix")) _ _ l e) [
      | inl h ↦ (
          let n = bind (name_of name) _ l h.1 in
          let net = bind (net_of third) _ l n.2 in
          let cost = bind (numeral_of fourth) _ l net.2 in
          well_as (Prefix n.0 net.0 cost.0) l tt cost.2)
      | inr e ↦ (
          let group = bind (group_of word) _ l e in
          let n = bind (name_of name) _ l group.2 in
          let a = bind (ask_of third fourth) _ l n.2 in
          well_as (External group.0 n.0 a.0) l (well_external group.0 n.0 a.0 (well_asked third fourth a.0 a.1)) a.2)
    ]

well_five : (word a b delay cost : List ℕ) (l : Line) → five_fields word a b delay cost ≡ Some l → IsWell l
unfolding five_fields
well_five word a b delay cost l e =
    elim (chosen (is_word word (codes "link")) _ _ l e) [
      | inl h ↦ (
          let x = bind (name_of a) _ l h.1 in
          let y = bind (name_of b) _ l x.2 in
          let d = bind (numeral_of delay) _ l y.2 in
          let k = bind (numeral_of cost) _ l d.2 in
          well_as (Link x.0 y.0 d.0 k.0) l tt k.2)
      | inr e ↦ no_line l e
    ]

well_fields : (fields : List (List ℕ)) (l : Line) → line_of_fields fields ≡ Some l → IsWell l
well_fields [] l e = no_line l e
well_fields (word ∷ []) l e = well_one word l e
well_fields (word ∷ a ∷ []) l e = well_two word a l e
well_fields (word ∷ a ∷ b ∷ []) l e = well_three word a b l e
well_fields (word ∷ a ∷ b ∷ c ∷ []) l e = well_four word a b c l e
well_fields (word ∷ a ∷ b ∷ c ∷ d ∷ []) l e = well_five word a b c d l e
well_fields (word ∷ a ∷ b ∷ c ∷ d ∷ x ∷ more) l e = no_line l e

pub well : (text : List ℕ) (l : Line) → line_of text ≡ Some l → IsWell l
unfolding line_of
well text l e =
    let line = bind (before_newline text) _ l e in
    well_fields (parts 32 line.0) l line.2

-- ---- what a test says

pub free_test : (b : Bool) (c : Cause) (rest : Option Cause) → cond b (Some c) rest ≡ None → (b ≡ false) × (rest ≡ None)
free_test true c rest e = absurd cc
free_test false c rest e = (refl, e)

pub held : (b : Bool) → not b ≡ false → b ≡ true
held true e = refl
held false e = absurd cc

pub both : (a b : Bool) → (a && b) ≡ true → (a ≡ true) × (b ≡ true)
both true b p = (refl, p)
both false b p = absurd cc

pub neither : (a b : Bool) → (a || b) ≡ false → (a ≡ false) × (b ≡ false)
neither true b p = absurd cc
neither false b p = (refl, p)

pub is_below : (m n : ℕ) → nat_le m n ≡ false → n < m
is_below m n e = search (rules, tests)

pub is_above : (m n : ℕ) → nat_lt m n ≡ false → n ≤ m
is_above m n e = search (rules, tests)

pub at_most : (m n : ℕ) → nat_le m n ≡ true → m ≤ n
at_most m n e = search (rules, tests)

pub less : (m n : ℕ) → nat_lt m n ≡ true → m < n
less m n e = search (rules, tests)

pub in_range : (low high : ℕ) (n : Number) → between low high n ≡ true → (low ≤ value n) × (value n ≤ high)
in_range low high (Is n) e = (let k = both (nat_le low n) (nat_le n high) e in (at_most low n k.0, at_most n high k.1))
in_range low high Beyond e = absurd cc

pub under : (high : ℕ) (n : Number) → below high n ≡ true → value n < high
under high (Is n) e = less n high e
under high Beyond e = absurd cc

pub known_is : (o : Option ℕ) → is_some o ≡ true → o ≡ Some (unwrap_or o 0)
known_is None e = absurd cc
known_is (Some i) e = refl

pub unknown_is : (o : Option ℕ) → is_some o ≡ false → o ≡ None
unknown_is None e = refl
unknown_is (Some i) e = absurd cc
