-- By what a call answered.
use Rattle.std.specs.Prelude.{Result, Ok, Err, OnOk, OnErr}

pub by_result : {T E P Q R : Type 0} (r : Result T E) → OnOk r P → OnErr r Q → (P → R) → (Q → R) → R
by_result (Ok x) p q f g = f p
by_result (Err e) p q f g = g q

pub on_ok : {T E P R : Type 0} (r : Result T E) → OnOk r P → (P → R) → OnOk r R
on_ok (Ok x) p f = f p
on_ok (Err e) p f = tt

pub on_err_all : {T E R : Type 0} (r : Result T E) → R → OnErr r R
on_err_all (Ok x) h = tt
on_err_all (Err e) h = h
