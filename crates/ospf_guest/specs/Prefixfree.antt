-- Images that no other image begins with: from two texts that begin with them the images' values are told.
use Rattle.std.specs.Prelude.{◌≡◌, ℕ, ◌/◌, ◌%◌, ◌^◌, ◌≤◌, Bool, true, false, List, [], ◌∷◌, ◌++◌, length, flat_map, Option, Some, None, refl}
use Rattle.std.proofs.Common.{arith, append_assoc, ap, sym, ◌∙◌}
use Rattle.ospf_lsdb.specs.declared.key.LsaKey.{LsaKey}
use Rattle.ospf_guest.specs.Numbers.{two, four, eight, one_more, bit}
use Rattle.ospf_guest.specs.PlainImage.{network_image, listed_image}

abbrev pub IsFree : {A : Type 0} → (A → List ℕ) → Type 0
IsFree {A} f = (x y : A) (u v : List ℕ) → f x ++ u ≡ f y ++ v → (x ≡ y) × (u ≡ v)

pub same_parts : (a b u v : List ℕ) → length a ≡ length b → a ++ u ≡ b ++ v → (a ≡ b) × (u ≡ v)
same_parts [] [] u v l e = (refl, e)
same_parts [] (y ∷ b) u v l e = absurd (omega arith)
same_parts (x ∷ a) [] u v l e = absurd (omega arith)
same_parts (x ∷ a) (y ∷ b) u v l e =
    let tails : a ++ u ≡ b ++ v = cc in
    let rest = same_parts a b u v (omega arith) tails in
    let more : a ≡ b = rest.0 in
    (cc, rest.1)

-- parts one behind the other, and what follows them
pub regrouped : (a b c u : List ℕ) → a ++ b ++ c ++ u ≡ a ++ (b ++ (c ++ u))
regrouped a b c u = append_assoc (a ++ b) c u ∙ append_assoc a b (c ++ u)

pub free_two : IsFree two
free_two m n u v e =
    let high : m / 2 ^ 8 ≡ n / 2 ^ 8 = cc in
    let low : m % 2 ^ 8 ≡ n % 2 ^ 8 = cc in
    let rest : u ≡ v = cc in
    (omega arith, rest)

pub free_four : IsFree four
free_four m n u v e =
    let a : m / 2 ^ 24 ≡ n / 2 ^ 24 = cc in
    let b : m / 2 ^ 16 % 2 ^ 8 ≡ n / 2 ^ 16 % 2 ^ 8 = cc in
    let c : m / 2 ^ 8 % 2 ^ 8 ≡ n / 2 ^ 8 % 2 ^ 8 = cc in
    let d : m % 2 ^ 8 ≡ n % 2 ^ 8 = cc in
    let rest : u ≡ v = cc in
    (omega arith, rest)

pub free_eight : IsFree eight
unfolding eight
free_eight m n u v e =
    let whole : four (m / 2 ^ 32) ++ (four (m % 2 ^ 32) ++ u) ≡ four (n / 2 ^ 32) ++ (four (n % 2 ^ 32) ++ v) = e in
    let high = free_four (m / 2 ^ 32) (n / 2 ^ 32) _ _ whole in
    let low = free_four (m % 2 ^ 32) (n % 2 ^ 32) u v high.1 in
    let h : m / 2 ^ 32 ≡ n / 2 ^ 32 = high.0 in
    let l : m % 2 ^ 32 ≡ n % 2 ^ 32 = low.0 in
    (omega arith, low.1)

pub same_one_more : (x y : Option ℕ) → one_more x ≡ one_more y → x ≡ y
same_one_more None None e = refl
same_one_more None (Some b) e = absurd (omega arith)
same_one_more (Some a) None e = absurd (omega arith)
same_one_more (Some a) (Some b) e =
    let same : a ≡ b = omega arith in
    ap (λ (n : ℕ). Some n) same

pub same_bit : (x y : Bool) → bit x ≡ bit y → x ≡ y
same_bit true true e = refl
same_bit true false e = absurd cc
same_bit false true e = absurd cc
same_bit false false e = refl

pub bit_small : (x : Bool) → bit x ≤ 1
bit_small true = omega arith
bit_small false = omega arith

-- as many images one behind the other
pub free_list : {A : Type 0} (f : A → List ℕ) → IsFree f → (xs ys : List A) → length xs ≡ length ys → (u v : List ℕ) → flat_map f xs ++ u ≡ flat_map f ys ++ v → (xs ≡ ys) × (u ≡ v)
free_list f free [] [] l u v e = (refl, e)
free_list f free [] (y ∷ ys) l u v e = absurd (omega arith)
free_list f free (x ∷ xs) [] l u v e = absurd (omega arith)
free_list f free (x ∷ xs) (y ∷ ys) l u v e =
    let whole : f x ++ (flat_map f xs ++ u) ≡ f y ++ (flat_map f ys ++ v) = sym (append_assoc (f x) (flat_map f xs) u) ∙ e ∙ append_assoc (f y) (flat_map f ys) v in
    let first = free x y _ _ whole in
    let rest = free_list f free xs ys (omega arith) u v first.1 in
    let one : x ≡ y = first.0 in
    let more : xs ≡ ys = rest.0 in
    (cc, rest.1)

-- images one behind the other up to the end, none of them empty
pub same_list : {A : Type 0} (f : A → List ℕ) → IsFree f → ((x : A) (u : List ℕ) → [] ≡ f x ++ u → ⊥) → (xs ys : List A) → flat_map f xs ≡ flat_map f ys → xs ≡ ys
same_list f free some [] [] e = refl
same_list f free some [] (y ∷ ys) e = absurd (some y (flat_map f ys) e)
same_list f free some (x ∷ xs) [] e = absurd (some x (flat_map f xs) (sym e))
same_list f free some (x ∷ xs) (y ∷ ys) e =
    let first = free x y _ _ e in
    let one : x ≡ y = first.0 in
    let more : xs ≡ ys = same_list f free some xs ys first.1 in
    cc

pub free_network : IsFree network_image
unfolding network_image
free_network x y u v e =
    let whole : four x.0.0 ++ (x.0.1 ∷ two x.1 ++ u) ≡ four y.0.0 ++ (y.0.1 ∷ two y.1 ++ v) = e in
    let address = free_four x.0.0 y.0.0 _ _ whole in
    let len : x.0.1 ≡ y.0.1 = (let t = address.1 in cc) in
    let tails : two x.1 ++ u ≡ two y.1 ++ v = (let t = address.1 in cc) in
    let cost = free_two x.1 y.1 u v tails in
    (λ i. ((address.0 i, len i), cost.0 i), cost.1)

pub free_key : (a b : LsaKey) (u v : List ℕ) → a.kind ∷ four a.id ++ four a.router ++ u ≡ b.kind ∷ four b.id ++ four b.router ++ v → (a ≡ b) × (u ≡ v)
free_key a b u v e =
    let kind : a.kind ≡ b.kind = cc in
    let tails : four a.id ++ (four a.router ++ u) ≡ four b.id ++ (four b.router ++ v) = cc in
    let id = free_four a.id b.id _ _ tails in
    let router = free_four a.router b.router u v id.1 in
    (λ i. record { kind = kind i; id = id.0 i; router = router.0 i }, router.1)

pub free_listed : IsFree listed_image
unfolding listed_image
free_listed x y u v e =
    let key = free_key x.0 y.0 (four x.1 ++ u) (four y.1 ++ v) e in
    let sent = free_four x.1 y.1 u v key.1 in
    (λ i. (key.0 i, sent.0 i), sent.1)
