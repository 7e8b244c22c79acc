-- What a sink holds of a text that is gathered and handed over in parts.
use Rattle.std.proofs.Common.{◌≡◌, ℕ, List, ◌++◌, take, drop, Option, refl, sym, ap, ◌∙◌, subst, append_assoc, arith}
use Rattle.std.specs.Prelude.{codes}
use Rattle.std.proofs.lemmas.List.{take-append-drop, length-append, length-drop}
use Rattle.std.proofs.lemmas.Grind.{flat_map-append}
use Rattle.dn_io.specs.Streams.{behind, PutsFront, PutsOrKeeps}
use Rattle.dn_io.proofs.StreamLaws.{behind-behind, PutsFront-longer, PutsFront-after, PutsOrKeeps-flush, PutsOrKeeps-front}
use Rattle.dn_model.specs.declared.router.RouterDef.{RouterDef}
use Rattle.dn_model.specs.declared.event.Event.{Event}
use Rattle.dn_trace.specs.Rows.{row_line, row_lines}
use Rattle.dn_trace.specs.Trace.{shown_text}

-- a front that was put, and the rest
split_at : (told : Option (List ℕ)) (text : List ℕ) (n : ℕ) → PutsOrKeeps told (behind told (take n text)) (drop n text) text
split_at told text n = record {
  whole = behind-behind told (take n text) (drop n text) ∙ ap (behind told) (take-append-drop n text);
  rest = simp length-drop (omega arith);
}

-- a front of what was kept is a front of the whole text
pub front_of_kept : (old then now : Option (List ℕ)) (kept text : List ℕ) → PutsOrKeeps old then kept text → PutsFront then now kept → PutsFront old now text
front_of_kept old then now kept text first front =
    let n = front.count in
    let P : Option (List ℕ) → Type 0 = λ told. PutsOrKeeps then told (drop n kept) kept in
    let split : PutsOrKeeps then now (drop n kept) kept = subst P (sym front.put) (split_at then kept n) in
    let whole : PutsOrKeeps old now (drop n kept) text = PutsOrKeeps-flush first split in
    PutsOrKeeps-front whole

-- the same text behind what is kept and behind the whole
pub kept_more : (old now : Option (List ℕ)) (kept text more : List ℕ) → PutsOrKeeps old now kept text → PutsOrKeeps old now (kept ++ more) (text ++ more)
kept_more old now kept text more it = record {
  whole = sym (behind-behind now kept more) ∙ ap (λ (told : Option (List ℕ)). behind told more) it.whole ∙ behind-behind old text more;
  rest = omega (arith, length-append kept more, length-append text more, it.rest);
}

-- nothing was put, and all is to come
pub all_to_come : (told : Option (List ℕ)) (text : List ℕ) → PutsOrKeeps told told text text
all_to_come told text = record { whole = refl; rest = omega arith }

-- the lines of some rows, and of the others
row_lines_split : (routers : List RouterDef) (rows : List Event) (i : ℕ) → row_lines routers (take i rows) ++ row_lines routers (drop i rows) ≡ row_lines routers rows
row_lines_split routers rows i = sym (flat_map-append (row_line routers) (take i rows) (drop i rows)) ∙ ap (row_lines routers) (take-append-drop i rows)

-- a front of what was gathered so far is a front of all rows' text
pub front_of_rows : (old then now : Option (List ℕ)) (kept before : List ℕ) (routers : List RouterDef) (rows : List Event) (i : ℕ) → PutsOrKeeps old then kept (before ++ row_lines routers (take i rows)) → PutsFront then now kept → PutsFront old now (before ++ row_lines routers rows)
front_of_rows old then now kept before routers rows i first front =
    let whole : (before ++ row_lines routers (take i rows)) ++ row_lines routers (drop i rows) ≡ before ++ row_lines routers rows = append_assoc before (row_lines routers (take i rows)) (row_lines routers (drop i rows)) ∙ ap (λ (l : List ℕ). before ++ l) (row_lines_split routers rows i) in
    let longer : PutsFront old now ((before ++ row_lines routers (take i rows)) ++ row_lines routers (drop i rows)) = PutsFront-longer (row_lines routers (drop i rows)) (front_of_kept old then now kept (before ++ row_lines routers (take i rows)) first front) in
    subst (PutsFront old now) whole longer

-- what was gathered so far, with nothing more written
pub front_so_far : (old then now : Option (List ℕ)) (kept left before : List ℕ) (routers : List RouterDef) (rows : List Event) (i : ℕ) → PutsOrKeeps old then kept (before ++ row_lines routers (take i rows)) → PutsOrKeeps then now left kept → PutsFront old now (before ++ row_lines routers rows)
front_so_far old then now kept left before routers rows i first second =
    let front : PutsFront then now kept = PutsOrKeeps-front second in
    front_of_rows old then now kept before routers rows i first front

-- ---- rows that are there, and then what ends them

split_text : (routers : List RouterDef) (rows : List Event) (ends : List ℕ) → (codes "trace\n" ++ row_lines routers rows) ++ ends ≡ shown_text routers rows ends
split_text routers rows ends = append_assoc (codes "trace\n") (row_lines routers rows) ends

pub rows_begun : (routers : List RouterDef) (rows : List Event) (ends : List ℕ) (old now : Option (List ℕ)) → PutsFront old now (codes "trace\n" ++ row_lines routers rows) → PutsFront old now (shown_text routers rows ends)
rows_begun routers rows ends old now front = subst (PutsFront old now) (split_text routers rows ends) (PutsFront-longer ends front)

pub ends_begun : (routers : List RouterDef) (rows : List Event) (ends : List ℕ) (old then now : Option (List ℕ)) → then ≡ behind old (codes "trace\n" ++ row_lines routers rows) → PutsFront then now ends → PutsFront old now (shown_text routers rows ends)
ends_begun routers rows ends old then now first front =
    subst (PutsFront old now) (split_text routers rows ends) (PutsFront-after (codes "trace\n" ++ row_lines routers rows) first front)

pub rows_and_ends : (routers : List RouterDef) (rows : List Event) (ends : List ℕ) (old then now : Option (List ℕ)) → then ≡ behind old (codes "trace\n" ++ row_lines routers rows) → now ≡ behind then ends → now ≡ behind old (shown_text routers rows ends)
rows_and_ends routers rows ends old then now first second =
    second
    ∙ ap (λ (told : Option (List ℕ)). behind told ends) first
    ∙ behind-behind old (codes "trace\n" ++ row_lines routers rows) ends
    ∙ ap (behind old) (split_text routers rows ends)
