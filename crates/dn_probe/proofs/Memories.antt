-- What is remembered as texts is read again, and what the probes say by it.
use Rattle.std.proofs.Common.{◌≡◌, ◌<◌, ◌+◌, ◌^◌, ◌∙◌, ℕ, Bool, true, false, List, [], ◌∷◌, codes, refl, sym, ap}
use Rattle.std.specs.Fmt.{decimal}
use Rattle.std.specs.Str.Parse.{digits_value}
use Rattle.std.specs.List.{flat_map}
use Rattle.std.proofs.lemmas.Fmt.{decimal_is_IsNumeral}
use Rattle.dn_model.specs.declared.event.Event.{Event}
use Rattle.dn_probe.specs.declared.tally.Tally.{Tally}
use Rattle.dn_probe.specs.Meaning.{Memory, Rules, Saying, Watch, told}
use Rattle.dn_probe.specs.Reports.{yes_count, one_if}
use Rattle.dn_probe.specs.Routes.{is_word}
use Rattle.dn_probe.specs.Storm.{storm_rules, storm_rule, storm_memory, is_storm, messages_with}
use Rattle.dn_probe.specs.Stations.{Standing, rip_text, texts_of, shown_at, memory_of, standings_in, standings_of}
use Rattle.dn_probe.specs.Lost.{lost_rules, lost_rule, is_lost}
use Rattle.dn_probe.specs.Loop.{loop_rules, loop_rule, loops}

pub number_back : (n : ℕ) → n < 2 ^ 64 → digits_value 10 (decimal n) ≡ n
number_back n few = (decimal_is_IsNumeral n few).1

pub count_back : (n : ℕ) (standings : List Standing) → n < 2 ^ 64 → yes_count (memory_of (decimal n) standings) ≡ n
unfolding memory_of
count_back n standings few = number_back n few

abbrev pub watch : Rules → Memory → ℕ → Watch
watch rules memory shown = record { rules = rules; memory = memory; shown = shown }

-- what it says, where the numbers in its memory are these
abbrev said_of : ℕ → ℕ → ℕ → Event → Saying
said_of times group messages row = record {
  yes = is_storm (messages_with group messages row) row;
  memory = storm_memory (decimal (times + one_if (is_storm (messages_with group messages row) row))) row.key.group (messages_with group messages row);
}

rip_back : (rip : Bool) → is_word (rip_text rip) (codes "rip") ≡ rip
rip_back true = refl
rip_back false = refl

again : (standings : List Standing) → standings_in (flat_map texts_of standings) ≡ standings
again [] = refl
again (s ∷ rest) =
    ap (λ (rip : Bool). record { rip = rip; far = s.far; show = s.show } ∷ standings_in (flat_map texts_of rest)) (rip_back s.rip)
    ∙ ap (λ (ss : List Standing). s ∷ ss) (again rest)

pub standings_back : (times : List ℕ) (standings : List Standing) → standings_of (memory_of times standings) ≡ standings
unfolding memory_of standings_of
standings_back times standings = again standings

-- ---- storm

storm_said : (times group messages : ℕ) (row : Event) (show : List ℕ) → times < 2 ^ 64 → group < 2 ^ 64 → messages < 2 ^ 64
    → storm_rule (storm_memory (decimal times) group messages) row show ≡ said_of times group messages row
storm_said times group messages row show few small low =
    ap (λ (x : ℕ). said_of x (digits_value 10 (decimal group)) (digits_value 10 (decimal messages)) row) (number_back times few)
    ∙ ap (λ (x : ℕ). said_of times x (digits_value 10 (decimal messages)) row) (number_back group small)
    ∙ ap (λ (x : ℕ). said_of times group x row) (number_back messages low)

pub storm_says : (times group messages : ℕ) (row : Event) (show : List ℕ) → times < 2 ^ 64 → group < 2 ^ 64 → messages < 2 ^ 64
    → (storm_rule (storm_memory (decimal times) group messages) row show).yes ≡ is_storm (messages_with group messages row) row
storm_says times group messages row show few small low = ap (λ (w : Saying). w.yes) (storm_said times group messages row show few small low)

pub storm_told : (times shown group messages : ℕ) (row : Event) (show : List ℕ) (tally : Tally) (n : ℕ) (answer : Bool) → times < 2 ^ 64 → group < 2 ^ 64 → messages < 2 ^ 64
    → answer ≡ is_storm n row → n ≡ messages_with group messages row → tally ≡ record { shown = shown + 1; yes = times + one_if answer }
    → watch storm_rules (storm_memory (decimal tally.yes) row.key.group n) tally.shown ≡ told (watch storm_rules (storm_memory (decimal times) group messages) shown) row show
storm_told times shown group messages row show tally n answer few small low a m t =
    rw (t, a, m) (sym (ap (λ (w : Saying). watch storm_rules w.memory (shown + 1)) (storm_said times group messages row show few small low)))

-- ---- lost

abbrev lost_by : ℕ → List Standing → Event → List ℕ → Saying
lost_by times ss row show = record {
  yes = is_lost ss row.router show;
  memory = memory_of (decimal (times + one_if (is_lost ss row.router show))) (shown_at ss row.router show);
}

lost_said : (times : ℕ) (ss : List Standing) (row : Event) (show : List ℕ) → times < 2 ^ 64 → lost_rule (memory_of (decimal times) ss) row show ≡ lost_by times ss row show
lost_said times ss row show few =
    ap (λ (n : ℕ). lost_by n (standings_of (memory_of (decimal times) ss)) row show) (count_back times ss few)
    ∙ ap (λ (x : List Standing). lost_by times x row show) (standings_back (decimal times) ss)

pub lost_says : (times : ℕ) (ss : List Standing) (row : Event) (show : List ℕ) → times < 2 ^ 64 → (lost_rule (memory_of (decimal times) ss) row show).yes ≡ is_lost ss row.router show
lost_says times ss row show few = ap (λ (w : Saying). w.yes) (lost_said times ss row show few)

pub lost_told : (times shown : ℕ) (ss after : List Standing) (row : Event) (show : List ℕ) (tally : Tally) (answer : Bool) → times < 2 ^ 64
    → answer ≡ is_lost ss row.router show → after ≡ shown_at ss row.router show → tally ≡ record { shown = shown + 1; yes = times + one_if answer }
    → watch lost_rules (memory_of (decimal tally.yes) after) tally.shown ≡ told (watch lost_rules (memory_of (decimal times) ss) shown) row show
lost_told times shown ss after row show tally answer few a s t =
    rw (t, a, s) (sym (ap (λ (w : Saying). watch lost_rules w.memory (shown + 1)) (lost_said times ss row show few)))

-- ---- loop

abbrev loop_by : ℕ → List Standing → Event → List ℕ → Saying
loop_by times ss row show = record {
  yes = loops (shown_at ss row.router show) row.router;
  memory = memory_of (decimal (times + one_if (loops (shown_at ss row.router show) row.router))) (shown_at ss row.router show);
}

loop_said : (times : ℕ) (ss : List Standing) (row : Event) (show : List ℕ) → times < 2 ^ 64 → loop_rule (memory_of (decimal times) ss) row show ≡ loop_by times ss row show
loop_said times ss row show few =
    ap (λ (n : ℕ). loop_by n (standings_of (memory_of (decimal times) ss)) row show) (count_back times ss few)
    ∙ ap (λ (x : List Standing). loop_by times x row show) (standings_back (decimal times) ss)

pub loop_says : (times : ℕ) (ss after : List Standing) (row : Event) (show : List ℕ) → times < 2 ^ 64 → after ≡ shown_at ss row.router show
    → (loop_rule (memory_of (decimal times) ss) row show).yes ≡ loops after row.router
loop_says times ss after row show few s = rw s (ap (λ (w : Saying). w.yes) (loop_said times ss row show few))

pub loop_told : (times shown : ℕ) (ss after : List Standing) (row : Event) (show : List ℕ) (tally : Tally) (answer : Bool) → times < 2 ^ 64
    → answer ≡ loops after row.router → after ≡ shown_at ss row.router show → tally ≡ record { shown = shown + 1; yes = times + one_if answer }
    → watch loop_rules (memory_of (decimal tally.yes) after) tally.shown ≡ told (watch loop_rules (memory_of (decimal times) ss) shown) row show
loop_told times shown ss after row show tally answer few a s t =
    rw (t, a, s) (sym (ap (λ (w : Saying). watch loop_rules w.memory (shown + 1)) (loop_said times ss row show few)))
