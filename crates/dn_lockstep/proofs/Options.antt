-- What follows from what is said of the value in a Some, or at a None.
use Rattle.std.proofs.Common.{Option, Some, None, Result, Ok, Err}
use Rattle.std.specs.Prelude.{IfSome, IfNone, OnOk, OnErr}

module _ {X : Type 0} where
  pub if_some_both : (r : Option X) (P Q R : X → Type 0) → IfSome r P → IfSome r Q → ((x : X) → P x → Q x → R x) → IfSome r R
  if_some_both None P Q R a b h = tt
  if_some_both (Some x) P Q R a b h = h x a b

  pub if_none_then : (r : Option X) (P Q : Type 0) → IfNone r P → (P → Q) → IfNone r Q
  if_none_then None P Q a h = h a
  if_none_then (Some x) P Q a h = tt

-- what follows from either case of a result
pub either_way : {X E : Type 0} (r : Result X E) (P Q C : Type 0) → OnOk r P → OnErr r Q → (P → C) → (Q → C) → C
either_way (Ok x) P Q C p q f g = f p
either_way (Err e) P Q C p q f g = g q
