-- What is emitted comes later than its cause, and all that is due comes before the end of the last group.
use Rattle.std.proofs.Common.{◌≡◌, ℕ, zero, suc, ◌+◌, ◌*◌, ◌<◌, ◌≤◌, Bool, true, false, Option, Some, None, List, [], ◌∷◌, refl, arith}
use Rattle.std.specs.Prelude.{nat_lt, ◌==◌, if◌then◌else◌, slice_get}
use Rattle.std.proofs.Math.Nat.{mul-lt-mul_of_pos_right, mod-lt}
use Rattle.std.proofs.lemmas.Nat.{div-add-mod'}
use Rattle.std.proofs.lemmas.Bool.{ltb-true}
use Rattle.std.specs.List.{filter, filter_map, cons_option, AllByRecursion}
use Rattle.dn_guest.specs.declared.node.Sent.{Sent}
use Rattle.dn_guest.specs.declared.node.Node.{Node}
use Rattle.dn_model.specs.declared.key.Key.{Key}
use Rattle.dn_model.specs.declared.event.Event.{Event}
use Rattle.dn_model.specs.declared.feed.External.{External}
use Rattle.dn_model.specs.declared.link.Link.{Link}
use Rattle.dn_model.specs.declared.link.End.{End}
use Rattle.dn_model.specs.Cases.{Heading, timing_of}
use Rattle.dn_model.specs.Links.{link_end, ends}
use Rattle.dn_model.specs.Keys.{moment, message_key, next_key}
use Rattle.dn_guest.specs.Node.{node_after, node_sent}
use Rattle.dn_model.specs.Network.{message_with, message_at, emitted_by, emitted, ticks, tick, externals, is_at, injected, Network, Family, joined, sent_from, sent, sent_to, opening_node, routers}
use Rattle.dn_model.specs.Settled.{IsTimed, IsFeedOf, due}
use Rattle.dn_lists.proofs.Lists.{all_append, all_filter}

-- P of the value, if there is one
abbrev pub Whenever : {A : Type 0} → (A → Type 0) → Option A → Type 0
Whenever P None = Unit {0}
Whenever P (Some x) = P x

pub whenever_if : {A : Type 0} (P : A → Type 0) (b : Bool) (x : A) (o : Option A) → (b ≡ true → P x) → Whenever P o → Whenever P (if b then Some x else o)
whenever_if P true x o f g = f refl
whenever_if P false x o f g = g

pub and_more : {B : Type 0} (P : B → Type 0) (o : Option B) (ys : List B) → Whenever P o → AllByRecursion P ys → AllByRecursion P (cons_option o ys)
and_more P None ys a b = b
and_more P (Some y) ys a b = (a, b)

pub all_filter_map : {A B : Type 0} (f : A → Option B) (P : B → Type 0) (xs : List A) → ((x : A) → Whenever P (f x)) → AllByRecursion P (filter_map f xs)
all_filter_map f P [] h = tt
all_filter_map f P (x ∷ xs) h = and_more P (f x) (filter_map f xs) (h x) (all_filter_map f P xs h)

-- ---- messages

-- the event is in the groups, and its sum in the period
abbrev pub IsTimely : Heading → Event → Type 0
IsTimely h e = (e.key.sum < h.period) × (moment h.period e.key < h.groups * h.period)

-- and it is later than its cause
abbrev pub IsEffect : Heading → Event → Event → Type 0
IsEffect h cause e = IsTimely h e × (moment h.period cause.key < moment h.period e.key)

pub message_moment : (period seed m origin seq : ℕ) → moment period (message_key period seed m origin seq) ≡ m
unfolding message_key
message_moment period seed m origin seq = div-add-mod' m period

message_sum : (period seed m origin seq : ℕ) → 0 < period → (message_key period seed m origin seq).sum < period
unfolding message_key
message_sum period seed m origin seq h = mod-lt m h

-- what each element of a list has, the one at a place has
pub whenever_get : {A : Type 0} (P : A → Type 0) (xs : List A) (i : ℕ) → AllByRecursion P xs → Whenever P (slice_get xs i)
whenever_get P [] i a = tt
whenever_get P (x ∷ xs) zero a = a.0
whenever_get P (x ∷ xs) (suc i) a = whenever_get P xs i a.1

-- each far end has the delay of a link
pub ends_delay : (ls : List Link) (r : ℕ) → AllByRecursion (λ l. 0 < l.delay) ls → AllByRecursion (λ end. 0 < end.delay) (ends ls r)
unfolding ends link_end
ends_delay [] r a = tt
ends_delay (l ∷ ls) r a = and_more (λ end. 0 < end.delay) (link_end r l) (ends ls r) (at l a.0) (ends_delay ls r a.1)
  where
    at : (l : Link) → 0 < l.delay → Whenever (λ end. 0 < end.delay) (link_end r l)
    at l d =
        whenever_if (λ end. 0 < end.delay) (l.a == r) _ _ (λ _. d) (whenever_if (λ end. 0 < end.delay) (l.b == r) _ None (λ _. d) tt)

-- a key in the groups, and later than that of the cause
abbrev IsLaterKey : Heading → Key → Key → Type 0
IsLaterKey h cause k = ((k.sum < h.period) × (moment h.period k < h.groups * h.period)) × (moment h.period cause < moment h.period k)

next_key_ok : (h : Heading) (cause : Key) (delay origin seq : ℕ) → 0 < h.period → 0 < delay → Whenever (IsLaterKey h cause) (next_key (timing_of h) cause delay origin seq)
unfolding next_key
next_key_ok h cause delay origin seq p d =
    let m = moment h.period cause + delay in
    whenever_if (IsLaterKey h cause) (nat_lt m (h.groups * h.period)) _ None
    (λ b.
    let same : moment h.period (message_key h.period h.seed m origin seq) ≡ m = message_moment h.period h.seed m origin seq in
    let below : m < h.groups * h.period = ltb-true m (h.groups * h.period) b in
    ((message_sum h.period h.seed m origin seq p, omega (arith, same, below)), omega (arith, same, d)))
    tt

message_ok : (h : Heading) (cause : Event) (s : Sent) (end : End) (o : Option Key) → Whenever (IsLaterKey h cause.key) o → Whenever (IsEffect h cause) (message_with s end o)
unfolding message_with
message_ok h cause s end None w = tt
message_ok h cause s end (Some k) w = w

pub emitted_ok : (h : Heading) → IsTimed h → (cause : Event) (sents : List Sent) → AllByRecursion (IsEffect h cause) (emitted h cause sents)
unfolding emitted emitted_by message_at
emitted_ok h t cause sents =
    all_filter_map (λ s. message_at (timing_of h) cause s (slice_get (ends h.links cause.router) s.port)) (IsEffect h cause) sents
    (λ s. at s (slice_get (ends h.links cause.router) s.port) (whenever_get (λ end. 0 < end.delay) (ends h.links cause.router) s.port (ends_delay h.links cause.router t.delays)))
  where
    at : (s : Sent) (o : Option End) → Whenever (λ end. 0 < end.delay) o → Whenever (IsEffect h cause) (message_at (timing_of h) cause s o)
    at s None d = tt
    at s (Some end) d = message_ok h cause s end (next_key (timing_of h) cause.key end.delay cause.router s.seq) (next_key_ok h cause.key end.delay cause.router s.seq t.period d)

-- ---- all that is due

ticks_ok : (h : Heading) → 0 < h.period → (r n : ℕ) → n ≤ h.groups → AllByRecursion (IsTimely h) (ticks n r)
unfolding ticks
ticks_ok h p r zero le = tt
ticks_ok h p r (suc n) le =
    all_append (IsTimely h) (ticks n r) (tick n r ∷ []) (ticks_ok h p r n (omega arith))
    ((p, omega (arith, mul-lt-mul_of_pos_right le p)), tt)

externals_ok : (h : Heading) → 0 < h.period → (feed : List External) → IsFeedOf h feed → (place : ℕ) → AllByRecursion (IsTimely h) (externals place feed)
unfolding externals
externals_ok h p [] a place = tt
externals_ok h p (x ∷ xs) a place = ((p, omega (arith, mul-lt-mul_of_pos_right a.0 p)), externals_ok h p xs a.1 (suc place))

injected_ok : (h : Heading) → 0 < h.period → (feed : List External) → IsFeedOf h feed → (r : ℕ) → AllByRecursion (IsTimely h) (injected h.groups feed r)
unfolding injected
injected_ok h p feed a r =
    all_append (IsTimely h) (ticks h.groups r) (filter (is_at r) (externals 0 feed))
    (ticks_ok h p r h.groups (omega arith))
    (all_filter (IsTimely h) (is_at r) (externals 0 feed) (externals_ok h p feed a 0))

-- what each element of each history has
pub all_joined : (P : Event → Type 0) (n : ℕ) (f : Family) → ((s : ℕ) → AllByRecursion P (f s)) → AllByRecursion P (joined n f)
unfolding joined
all_joined P zero f h = tt
all_joined P (suc n) f h = all_append P (joined n f) (f n) (all_joined P n f h) (h n)

pub all_joined_below : (P : Event → Type 0) (n : ℕ) (f : Family) → ((s : ℕ) → s < n → AllByRecursion P (f s)) → AllByRecursion P (joined n f)
unfolding joined
all_joined_below P zero f h = tt
all_joined_below P (suc n) f h = all_append P (joined n f) (f n) (all_joined_below P n f (λ s l. h s (omega arith))) (h n (omega arith))

module _ {S : Type 0} (net : Network S) (timed : IsTimed net.header) where
  sent_from_ok : (node : Node S) (es : List Event) → AllByRecursion (IsTimely net.header) (sent_from net node es)
  unfolding sent_from
  sent_from_ok node [] = tt
  sent_from_ok node (e ∷ es) =
      all_append (IsTimely net.header) (emitted net.header e (node_sent net.guests node e.input)) (sent_from net (node_after net.guests node e.input) es)
      (first e (node_sent net.guests node e.input))
      (sent_from_ok (node_after net.guests node e.input) es)
    where
      first : (e : Event) (sents : List Sent) → AllByRecursion (IsTimely net.header) (emitted net.header e sents)
      first e sents = only (emitted net.header e sents) (emitted_ok net.header timed e sents)
        where
          only : (xs : List Event) → AllByRecursion (IsEffect net.header e) xs → AllByRecursion (IsTimely net.header) xs
          only [] a = tt
          only (x ∷ xs) a = (a.0.0, only xs a.1)

  pub due_ok : (feed : List External) → IsFeedOf net.header feed → (f : Family) (r : ℕ) → AllByRecursion (IsTimely net.header) (due net feed f r)
  unfolding due sent_to sent
  due_ok feed a f r =
      all_append (IsTimely net.header) (injected net.header.groups feed r) (sent_to net f r)
      (injected_ok net.header timed.period feed a r)
      (all_joined (IsTimely net.header) (routers net) (λ s. filter (is_at r) (sent net s (f s)))
      (λ s. all_filter (IsTimely net.header) (is_at r) (sent net s (f s)) (sent_from_ok (opening_node net s) (f s))))
