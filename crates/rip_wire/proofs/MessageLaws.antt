-- The laws of reading a message: what is read is the message, and the message is read.
use Rattle.std.proofs.Common.{◌≡◌, ℕ, ◌+◌, ◌-◌, ◌*◌, ◌/◌, ◌%◌, ◌≤◌, ◌==◌, ◌&&◌, ◌||◌, leb, eqb, true, ◌⊎◌, inl, inr, List, length, drop, Option, Some, None, refl, sym, ap, subst, ◌∙◌, arith}
use Rattle.std.specs.Prelude.{IfSome, IfNone, All, slice_index}
use Rattle.std.proofs.Math.Nat.{div-add-mod', mul-mod_right, mul-div_cancel_left}
use Rattle.std.proofs.lemmas.Bool.{eqb-true, eq-eqb, leb-true, le-leb, and_parts}
use Rattle.std.proofs.lemmas.Option.{none-some, same_Some, cond_some}
use Rattle.std.proofs.lemmas.List.{length-drop}
use Rattle.std.proofs.lemmas.List.Elements.{recursion_from_All}
use Rattle.rip_wire.specs.declared.message.Message.{Message}
use Rattle.rip_wire.specs.Entries.{FitsEntry}
use Rattle.rip_wire.specs.Messages.{IsEncodable, IsMessage, message_bytes}
use Rattle.rip_wire.specs.Reading.{entries_at, has_form, message_at}
use Rattle.rip_wire.proofs.EntryLaws.{entries_take, entries_again, entries_written}

-- What the test of the form says.
record Form (bytes : List ℕ) : Type 0 where
  least : 24 ≤ length bytes
  most : length bytes ≤ 504
  whole : (length bytes - 4) % 20 ≡ 0
  command : (slice_index bytes 0 ≡ 1) ⊎ (slice_index bytes 0 ≡ 2)
  version : slice_index bytes 1 ≡ 2

either : (n : ℕ) → (n == 1 || n == 2) ≡ true → (n ≡ 1) ⊎ (n ≡ 2)
either n e = grind arith

either_again : (n : ℕ) → (n ≡ 1) ⊎ (n ≡ 2) → (n == 1 || n == 2) ≡ true
either_again n is = elim is [ inl one ↦ rw one refl | inr two ↦ rw two refl ]

form_takes : (bytes : List ℕ) → has_form bytes ≡ true → Form bytes
unfolding has_form
form_takes bytes e =
    let least = leb 24 (length bytes) in
    let most = leb (length bytes) 504 in
    let whole = eqb ((length bytes - 4) % 20) 0 in
    let command = slice_index bytes 0 == 1 || slice_index bytes 0 == 2 in
    let d = and_parts (least && most && whole && command) (eqb (slice_index bytes 1) 2) e in
    let c = and_parts (least && most && whole) command d.0 in
    let b = and_parts (least && most) whole c.0 in
    let a = and_parts least most b.0 in
    record {
      least = leb-true 24 (length bytes) a.0;
      most = leb-true (length bytes) 504 a.1;
      whole = eqb-true ((length bytes - 4) % 20) 0 b.1;
      command = either (slice_index bytes 0) c.1;
      version = eqb-true (slice_index bytes 1) 2 d.1;
    }

form_again : (bytes : List ℕ) → Form bytes → has_form bytes ≡ true
unfolding has_form
form_again bytes form =
    rw (le-leb 24 (length bytes) form.least, le-leb (length bytes) 504 form.most, eq-eqb ((length bytes - 4) % 20) 0 form.whole, either_again (slice_index bytes 0) form.command, eq-eqb (slice_index bytes 1) 2 form.version) refl

abbrev made : List ℕ → Message
made bytes = record { command = slice_index bytes 0; entries = entries_at ((length bytes - 4) / 20) (drop 4 bytes) }

made_is : (bytes : List ℕ) → Form bytes → IsMessage bytes (made bytes)
made_is bytes form =
    let count = (length bytes - 4) / 20 in
    let len : length (drop 4 bytes) ≡ 20 * count = omega (arith, length-drop 4 bytes, div-add-mod' (length bytes - 4) 20, form.whole) in
    let least = form.least in
    let most = form.most in
    let whole = div-add-mod' (length bytes - 4) 20 in
    let all = entries_take count (drop 4 bytes) len in
    record {
      encodable = record { command = form.command; least = omega (arith, all.1); most = omega (arith, all.1) };
      command = refl;
      version = form.version;
      entries = all.0;
    }

-- what is read is the message
pub message_takes : (bytes : List ℕ) (m : Message) → message_at bytes ≡ Some m → IsMessage bytes m
unfolding message_at
message_takes bytes m e =
    let c = cond_some (has_form bytes) (made bytes) m e in
    subst (λ (x : Message). IsMessage bytes x) c.1 (made_is bytes (form_takes bytes c.0))

message_length : (bytes : List ℕ) (m : Message) → IsMessage bytes m → length bytes ≡ 4 + 20 * length m.entries
message_length bytes m is =
    let again = entries_again m.entries (drop 4 bytes) is.entries in
    omega (arith, again.0, length-drop 4 bytes, is.encodable.least)

form_of : (bytes : List ℕ) (m : Message) → IsMessage bytes m → Form bytes
form_of bytes m is =
    let len = message_length bytes m is in
    let rest : length bytes - 4 ≡ 20 * length m.entries = omega arith in
    record {
      least = omega (arith, is.encodable.least);
      most = omega (arith, is.encodable.most);
      whole = ap (λ (n : ℕ). n % 20) rest ∙ mul-mod_right 20 (length m.entries);
      command = subst (λ (n : ℕ). (n ≡ 1) ⊎ (n ≡ 2)) is.command is.encodable.command;
      version = is.version;
    }

-- the message is read
pub message_again : (bytes : List ℕ) (m : Message) → IsMessage bytes m → message_at bytes ≡ Some m
unfolding message_at
message_again bytes m is =
    let len = message_length bytes m is in
    let rest : length bytes - 4 ≡ 20 * length m.entries = omega arith in
    let count : (length bytes - 4) / 20 ≡ length m.entries = ap (λ (n : ℕ). n / 20) rest ∙ mul-div_cancel_left (length m.entries) (omega arith) in
    let entries = (entries_again m.entries (drop 4 bytes) is.entries).1 in
    let same : made bytes ≡ m = rw (count, entries, ← is.command) refl in
    rw (form_again bytes (form_of bytes m is)) (ap (λ (x : Message). Some x) same)

-- bytes are one message at most
pub one_message : (bytes : List ℕ) (m n : Message) → IsMessage bytes m → IsMessage bytes n → m ≡ n
one_message bytes m n one other = same_Some m n (sym (message_again bytes m one) ∙ message_again bytes n other)

pub is_found : (bytes : List ℕ) (found : Option Message) → found ≡ message_at bytes → IfSome found (λ m. IsMessage bytes m)
is_found bytes None e = tt
is_found bytes (Some m) e = message_takes bytes m (sym e)

pub is_none : (bytes : List ℕ) (found : Option Message) → found ≡ message_at bytes → IfNone found ((m : Message) → ¬ IsMessage bytes m)
is_none bytes None e = λ m is. none-some m (e ∙ message_again bytes m is)
is_none bytes (Some m) e = tt

pub is_read : (bytes : List ℕ) (found : Option Message) → found ≡ message_at bytes → (m : Message) → IsMessage bytes m → found ≡ Some m
is_read bytes found e m is = e ∙ message_again bytes m is

pub is_encodable : (bytes : List ℕ) (found : Option Message) → found ≡ message_at bytes → IfSome found IsEncodable
is_encodable bytes None e = tt
is_encodable bytes (Some m) e = (message_takes bytes m (sym e)).encodable

-- what is written is the message
pub message_written : (m : Message) → All FitsEntry m.entries → IsEncodable m → IsMessage (message_bytes m) m
message_written m fits encodable = record {
  encodable = encodable;
  command = refl;
  version = refl;
  entries = entries_written m.entries (recursion_from_All FitsEntry m.entries fits);
}
