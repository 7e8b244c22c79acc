-- The lists of several ports: one more list is changed, or changed back.
use Rattle.std.proofs.Common.{◌≡◌, ◌+◌, ◌^◌, ◌<◌, ℕ, Bool, true, false, cond, ◌&&◌, min, [], ◌∷◌, refl, sym, ap, ◌∙◌, arith}
use Rattle.std.specs.Prelude.{Option, ◌==◌, nat_lt, bit_and}
use Rattle.std.specs.Int.{w16, bit_at, bit_not}
use Rattle.std.proofs.lemmas.Nat.Bits.{bit_at_and, bit_at-lt}
use borrow.Author.Tests.{eqb-true}
use Rattle.dn_guest.specs.Ports.{is_up, with_down}
use Rattle.ospf_lsdb.specs.declared.key.LsaKey.{LsaKey}
use Rattle.ospf_flood.specs.Retransmission.{OnPort, OnPorts, last_sent, with_lsa, without_lsa, without_lsa_anywhere, restored}
use Rattle.ospf_flood.specs.Flooding.{put_from, put_on}
use Rattle.ospf_flood.proofs.RetransmissionLaws.{put_twice}

-- the LSA stands on the first list
pub one_put : (p ports tick : ℕ) (k key : LsaKey) (list first : OnPort) (rest more all : OnPorts) → is_up ports p ≡ true → k ≡ key
    → with_lsa (without_lsa k list) k tick ≡ with_lsa list k tick → first ≡ with_lsa list k tick → more ≡ put_from (p + 1) ports key tick (without_lsa_anywhere key rest) → all ≡ list ∷ rest
    → first ∷ more ≡ put_from p ports key tick (without_lsa_anywhere key all)
one_put p ports tick k key list first rest more all up same again put puts whole =
    let here : first ≡ with_lsa (without_lsa key list) key tick = put ∙ sym again ∙ ap (λ (x : LsaKey). with_lsa (without_lsa x list) x tick) same in
    rw whole (rw up (ap (λ (l : OnPort). l ∷ more) here ∙ ap (λ (ls : OnPorts). with_lsa (without_lsa key list) key tick ∷ ls) puts))

-- what was put on the first list is taken back
pub one_back : (tick : ℕ) (before : Option ℕ) (k : LsaKey) (list put first : OnPort) (rest more all : OnPorts) → restored (with_lsa list k tick) k (last_sent list k) ≡ list
    → put ≡ with_lsa list k tick → before ≡ last_sent list k → first ≡ restored put k before → more ≡ rest → all ≡ list ∷ rest → first ∷ more ≡ all
one_back tick before k list put first rest more all back on was set same whole =
    let here : first ≡ list = set ∙ ap (λ (l : OnPort). restored l k before) on ∙ ap (λ (o : Option ℕ). restored (with_lsa list k tick) k o) was ∙ back in
    ap (λ (l : OnPort). l ∷ more) here ∙ ap (λ (ls : OnPorts). list ∷ ls) same ∙ sym whole

-- ---- on all ports but one, and then on all, is on all

under : (a b c : Bool) → (b ≡ true → c ≡ true) → (a && b) ≡ true → (a && c) ≡ true
under true b c f h = f h
under false b c f h = h

one_bit : (x y : ℕ) → x < 2 → (min x y == 1) ≡ true → (x == 1) ≡ true
one_bit x y few one =
    let least : min x y ≡ 1 = eqb-true (min x y) 1 one in
    let same : x ≡ 1 = omega (arith, least) in
    rw same refl

still_up_by : (b : Bool) (ports mask p : ℕ) → is_up (cond b (bit_and ports mask) ports) p ≡ true → is_up ports p ≡ true
still_up_by true ports mask p h =
    under (nat_lt p 16) (bit_at (bit_and ports mask) p == 1) (bit_at ports p == 1)
    (λ one. one_bit (bit_at ports p) (bit_at mask p) (bit_at-lt ports p) (ap (λ (n : ℕ). n == 1) (sym (bit_at_and ports mask p)) ∙ one)) h
still_up_by false ports mask p h = h

pub still_up : (ports port p : ℕ) → is_up (with_down ports port) p ≡ true → is_up ports p ≡ true
still_up ports port p h = still_up_by (nat_lt port 16) ports (bit_not w16 (2 ^ port)) p h

over_by : (b up : Bool) (key : LsaKey) (tick : ℕ) (l : OnPort) → (b ≡ true → up ≡ true)
    → cond up (with_lsa (cond b (with_lsa l key tick) l) key tick) (cond b (with_lsa l key tick) l) ≡ cond up (with_lsa l key tick) l
over_by true up key tick l h = rw (h refl) (put_twice key tick tick l)
over_by false up key tick l h = refl

put_over_from : (p full from tick : ℕ) (key : LsaKey) (ls : OnPorts) → put_from p full key tick (put_from p (with_down full from) key tick ls) ≡ put_from p full key tick ls
put_over_from p full from tick key [] = refl
put_over_from p full from tick key (l ∷ ls) =
    let here = over_by (is_up (with_down full from) p) (is_up full p) key tick l (still_up full from p) in
    ap (λ (x : OnPort). x ∷ put_from (p + 1) full key tick (put_from (p + 1) (with_down full from) key tick ls)) here
    ∙ ap (λ (rest : OnPorts). cond (is_up full p) (with_lsa l key tick) l ∷ rest) (put_over_from (p + 1) full from tick key ls)

pub put_over : (full from tick : ℕ) (key : LsaKey) (ls : OnPorts) → put_on full key tick (put_on (with_down full from) key tick ls) ≡ put_on full key tick ls
put_over full from tick key ls = put_over_from 0 full from tick key ls
