-- Results that are added one after another.
use Rattle.std.proofs.Common.{◌≡◌, ℕ, suc, ◌+◌, ◌<◌, ◌≤◌, List, [], ◌∷◌, ◌++◌, length, get_or, drop, map, Option, Some, None, Result, Ok, Err, refl, ap, sym, subst, ◌∙◌, append_assoc, length-append, arith}
use Rattle.std.proofs.lemmas.List.{drop_more}
use Rattle.go_record.specs.declared.actions.Action.{Action}
use Rattle.go_record.specs.declared.faults.RecordFault.{RecordFault}
use Rattle.go_record.specs.declared.faults.RecordFault.TheVariants as fault
use Rattle.go_record.specs.Record.{collected, onto}
use Rattle.go_record.specs.Adding.{actions_before_fault}
use Rattle.go_record.specs.Inner.Adding.{behind, Adds}

-- first these, then those
followed : Result (List Action) RecordFault → Result (List Action) RecordFault → Result (List Action) RecordFault
followed (Ok more) rest = behind more rest
followed (Err found) rest = Err found

onto-followed : (action : Action) (first rest : Result (List Action) RecordFault) → onto (Some action) (followed first rest) ≡ followed (onto (Some action) first) rest
unfolding followed
onto-followed action (Ok more) (Ok others) = refl
onto-followed action (Ok more) (Err found) = refl
onto-followed action (Err found) rest = refl

behind-empty : (rest : Result (List Action) RecordFault) → rest ≡ behind [] rest
behind-empty (Ok more) = refl
behind-empty (Err found) = refl

collected-append : (xs ys : List (Result (Option Action) RecordFault)) → collected (xs ++ ys) ≡ followed (collected xs) (collected ys)
unfolding followed
collected-append [] ys = behind-empty (collected ys)
collected-append (Err found ∷ xs) ys = refl
collected-append (Ok None ∷ xs) ys = collected-append xs ys
collected-append (Ok (Some action) ∷ xs) ys = ap (onto (Some action)) (collected-append xs ys) ∙ onto-followed action (collected xs) (collected ys)

behind-behind : (before more : List Action) (rest : Result (List Action) RecordFault) → behind before (behind more rest) ≡ behind (before ++ more) rest
behind-behind before more (Ok others) = ap Ok (sym (append_assoc before more others))
behind-behind before more (Err found) = refl

behind-followed : (before after : List Action) (first rest : Result (List Action) RecordFault) → behind before first ≡ Ok after → behind before (followed first rest) ≡ behind after rest
unfolding followed
behind-followed before after (Ok more) rest h =
    let same : before ++ more ≡ after = cc in
    behind-behind before more rest ∙ ap (λ actions. behind actions rest) same
behind-followed before after (Err found) rest h = cc

behind-stopped : (before : List Action) (found : RecordFault) (first rest : Result (List Action) RecordFault) → behind before first ≡ Err found → behind before (followed first rest) ≡ Err found
unfolding followed
behind-stopped before found (Ok more) rest h = cc
behind-stopped before found (Err other) rest h = h

-- the first deeds were added: what is left are the others
pub added : (before after : List Action) (xs ys : List (Result (Option Action) RecordFault)) → behind before (collected xs) ≡ Ok after → behind before (collected (xs ++ ys)) ≡ behind after (collected ys)
added before after xs ys h = ap (behind before) (collected-append xs ys) ∙ behind-followed before after (collected xs) (collected ys) h

-- a fault of the first deeds is that of all
pub stopped : (before : List Action) (found : RecordFault) (xs ys : List (Result (Option Action) RecordFault)) → behind before (collected xs) ≡ Err found → behind before (collected (xs ++ ys)) ≡ Err found
stopped before found xs ys h = ap (behind before) (collected-append xs ys) ∙ behind-stopped before found (collected xs) (collected ys) h

-- actions are only added
pub grows : (before after : List Action) (more : Result (List Action) RecordFault) → behind before more ≡ Ok after → length before ≤ length after
grows before after (Ok more) h =
    let same : before ++ more ≡ after = cc in
    omega (arith, length-append before more, ap (λ (actions : List Action). length actions) same)
grows before after (Err found) h = absurd cc

-- how many actions come before the first fault of two parts
count-append : (xs ys : List (Result (Option Action) RecordFault)) → actions_before_fault xs ≤ actions_before_fault (xs ++ ys)
count-append [] ys = omega arith
count-append (Err found ∷ xs) ys = omega arith
count-append (Ok None ∷ xs) ys = count-append xs ys
count-append (Ok (Some action) ∷ xs) ys = let later = count-append xs ys in omega arith

onto-ok : (action : Action) (others : Result (List Action) RecordFault) (all : List Action) → onto (Some action) others ≡ Ok all →
    (more : List Action) × (others ≡ Ok more) × (length all ≡ length more + 1)
onto-ok action (Ok more) all h =
    let same : action ∷ more ≡ all = cc in
    (more, refl, omega (arith, ap (λ (actions : List Action). length actions) same))
onto-ok action (Err found) all h = absurd cc

collected-count : (xs ys : List (Result (Option Action) RecordFault)) (all : List Action) → collected xs ≡ Ok all →
    actions_before_fault (xs ++ ys) ≡ length all + actions_before_fault ys
collected-count [] ys all h =
    let none : [] ≡ all = cc in
    omega (arith, ap (λ (actions : List Action). length actions) none)
collected-count (Err found ∷ xs) ys all h = absurd cc
collected-count (Ok None ∷ xs) ys all h = collected-count xs ys all h
collected-count (Ok (Some action) ∷ xs) ys all h =
    let rest = onto-ok action (collected xs) all h in
    omega (arith, collected-count xs ys rest.0 rest.1, rest.2)

behind-ok : (before after : List Action) (more : Result (List Action) RecordFault) → behind before more ≡ Ok after →
    (actions : List Action) × (more ≡ Ok actions) × (length after ≡ length before + length actions)
behind-ok before after (Ok more) h =
    let same : before ++ more ≡ after = cc in
    (more, refl, omega (arith, length-append before more, ap (λ (actions : List Action). length actions) same))
behind-ok before after (Err found) h = absurd cc

-- the first deeds were added: their actions are no longer left
pub added_count : (before after : List Action) (xs ys : List (Result (Option Action) RecordFault)) → behind before (collected xs) ≡ Ok after →
    length before + actions_before_fault (xs ++ ys) ≡ length after + actions_before_fault ys
added_count before after xs ys h =
    let parts = behind-ok before after (collected xs) h in
    omega (arith, collected-count xs ys parts.0 parts.1, parts.2)

-- where the value at a place does something, an action is left from there on
pub some_at : {X : Type 0} → (deed : X → Result (Option Action) RecordFault) (values : List X) (i : ℕ) (value : X) (action : Action) →
    i < length values → Ok (Some action) ≡ deed (get_or values i value) → 0 < actions_before_fault (map deed (drop i values))
some_at deed values i value action within is =
    let here : actions_before_fault (map deed (drop i values)) ≡ suc (actions_before_fault (map deed (drop (i + 1) values))) =
    ap (λ xs. actions_before_fault (map deed xs)) (drop_more values i value within)
    ∙ ap (λ first. actions_before_fault (first ∷ map deed (drop (i + 1) values))) (sym is) in
    omega (arith, here)

-- one part of what is left was added
pub adds_step : (first now after : List Action) (all xs ys : List (Result (Option Action) RecordFault)) →
    behind now (collected (xs ++ ys)) ≡ behind first (collected all) → Adds xs now after (Ok tt) → behind after (collected ys) ≡ behind first (collected all)
adds_step first now after all xs ys left h = sym (added now after xs ys h) ∙ left

pub count_step : (first now after : List Action) (all xs ys : List (Result (Option Action) RecordFault)) →
    length now + actions_before_fault (xs ++ ys) ≡ length first + actions_before_fault all → Adds xs now after (Ok tt) →
    length after + actions_before_fault ys ≡ length first + actions_before_fault all
count_step first now after all xs ys left h = omega (arith, added_count now after xs ys h, left)

-- a fault of one part is that of all
pub adds_fault : (first now after : List Action) (all xs ys : List (Result (Option Action) RecordFault)) (found : RecordFault) →
    behind now (collected (xs ++ ys)) ≡ behind first (collected all) → length now + actions_before_fault (xs ++ ys) ≡ length first + actions_before_fault all →
    length first ≤ length now → Adds xs now after (Err found) → Adds all first after (Err found)
adds_fault first now after all xs ys (fault.BadSize at) left counted grown h = sym left ∙ stopped now (fault.BadSize at) xs ys h
adds_fault first now after all xs ys (fault.BadPoint at) left counted grown h = sym left ∙ stopped now (fault.BadPoint at) xs ys h
adds_fault first now after all xs ys (fault.OffBoard at) left counted grown h = sym left ∙ stopped now (fault.OffBoard at) xs ys h
adds_fault first now after all xs ys fault.Memory left counted grown h = omega (arith, counted, grown, h, count-append xs ys)

-- two parts, one after the other
pub adds_both : (first now after : List Action) (xs ys : List (Result (Option Action) RecordFault)) (result : Result (Unit {0}) RecordFault) →
    Adds xs first now (Ok tt) → Adds ys now after result → Adds (xs ++ ys) first after result
adds_both first now after xs ys (Ok done) h k = added first now xs ys h ∙ k
adds_both first now after xs ys (Err (fault.BadSize at)) h k = added first now xs ys h ∙ k
adds_both first now after xs ys (Err (fault.BadPoint at)) h k = added first now xs ys h ∙ k
adds_both first now after xs ys (Err (fault.OffBoard at)) h k = added first now xs ys h ∙ k
adds_both first now after xs ys (Err fault.Memory) h k =
    let parts = behind-ok first now (collected xs) h in
    omega (arith, collected-count xs ys parts.0 parts.1, k)

-- what each value does, seen as the grammar's value or as the program's
pub adds-views : {X Y : Type 0} (deed : Y → Result (Option Action) RecordFault) (view : X → Y) (values : List X) (viewed : List Y) (before after : List Action) (result : Result (Unit {0}) RecordFault) →
    map view values ≡ viewed → Adds (map (λ v. deed (view v)) values) before after result → Adds (map deed viewed) before after result
adds-views {X} {Y} deed view values viewed before after result same h =
    subst (λ deeds. Adds deeds before after result) (sym (map-views values) ∙ ap (map deed) same) h
  where
    map-views : (xs : List X) → map deed (map view xs) ≡ map (λ v. deed (view v)) xs
    map-views [] = refl
    map-views (x ∷ xs) = ap (λ ys. deed (view x) ∷ ys) (map-views xs)
